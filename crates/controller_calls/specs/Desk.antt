-- What a controller works on as it answers calls, and how it tells and keeps (this project's own choice). Names of
-- computers are compared without case.
use Rattle.std.specs.Prelude.{ℕ, ◌≤◌, List, [], ◌∷◌, ◌++◌, Result, Ok, Err}
use Rattle.wire_base.specs.Maps.{put, take_out}
use Rattle.wire_base.specs.Names.{same_name}
use Rattle.authenticators.specs.SecureChannels.{SecureChannelState}
use Rattle.outside.specs.declared.action.Action.{Action}
use Rattle.outside.specs.declared.action.Action.TheVariants as action
use Rattle.outside.specs.declared.action.StepRefused.{StepRefused}
use Rattle.rpc_units.specs.Calls.{bytes_of_call}
use Rattle.logon_stubs.specs.declared.calls.Reply.{Reply}
use Rattle.logon_stubs.specs.Writing.{written_reply}
use Rattle.account_table.specs.AccountTable.{AccountTable}
use Rattle.end_links.specs.Sending.{response_of}
use Rattle.controller_calls.specs.declared.line.Line.{Line}
use Rattle.controller_calls.specs.declared.state.ChallengePair.{ChallengePair}
use Rattle.controller_calls.specs.declared.state.Work.{Work}

-- a controller at work: its accounts, what it keeps of computers, and its actions so far
pub record Desk : Type 0 where
  pub table : AccountTable
  pub work : Work

abbrev pub desk : AccountTable → Work → Desk
desk table work = record { table = table; work = work }

-- how a call that works on the table answers: the table stands beside the value, which has the rest of the desk
abbrev pub at_desk : {X : Type 0} → AccountTable → Result (Work × X) StepRefused → Result (Desk × X) StepRefused
at_desk table (Ok done) = Ok (desk table done.0, done.1)
at_desk table (Err why) = Err why

-- ---- where a call is answered: in fragments of at least 1,432 bytes, and at most 5,840

pub record IsLine (line : Line) : Type 0 where
  pub least : 1432 ≤ line.limit
  pub most : line.limit ≤ 5840

-- ---- actions

abbrev pub tell : Work → Action → Work
tell work what = record work { actions = work.actions ++ what ∷ [] }

-- all frames of the reply are one send
abbrev pub send_stub : Work → Line → List ℕ → Work
send_stub work line stub = tell work (action.Send line.link (bytes_of_call (response_of line.call line.context stub) line.limit))

abbrev pub send_reply : Work → Line → Reply → Work
send_reply work line answer = send_stub work line (written_reply answer)

-- ---- what is kept of computers

abbrev pub put_pair : List ℕ → ChallengePair → Work → Work
put_pair computer pair work =
    record work { computers = record work.computers { pending = put same_name computer pair work.computers.pending } }

abbrev pub take_pair : List ℕ → Work → Work
take_pair computer work =
    record work { computers = record work.computers { pending = take_out same_name computer work.computers.pending } }

abbrev pub put_channel : List ℕ → SecureChannelState → Work → Work
put_channel computer channel work =
    record work { computers = record work.computers { channels = put same_name computer channel work.computers.channels } }

abbrev pub take_channel : List ℕ → Work → Work
take_channel computer work =
    record work { computers = record work.computers { channels = take_out same_name computer work.computers.channels } }
