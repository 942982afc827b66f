-- The type of a channel that a controller keeps (MS-NRPC 2.2.1.3.13). A call that opens one leaves it of the type that
-- the call names (3.5.4.4.3), and whatever comes, each channel that is kept has a type.
use Rattle.std.specs.Prelude.{ℕ, ◌≡◌, ◌≢◌, ◌⊎◌, true, List, Some}
use Rattle.std.specs.List.{AllByRecursion}
use Rattle.wire_base.specs.Maps.{lookup}
use Rattle.wire_base.specs.Names.{same_name}
use Rattle.authenticators.specs.SecureChannels.{SecureChannelState}
use Rattle.logon_stubs.specs.declared.calls.AuthCall.{AuthCall}
use Rattle.logon_stubs.specs.declared.calls.ChallengeCall.{ChallengeCall}
use Rattle.account_table.specs.AccountTable.{AccountTable}
use Rattle.controller_calls.specs.Desk.{Desk, take_pair}
use Rattle.controller_calls.specs.Asking.{answer_judged}
use Rattle.controller_calls.specs.Opening.{answer_authenticate, answer_challenge, deny_channel, open_channel}
use Rattle.controller_calls.specs.declared.calls.JudgedCall.{JudgedCall}
use Rattle.controller_calls.specs.declared.line.Line.{Line}
use Rattle.controller_calls.specs.declared.state.Computers.{Computers}
use Rattle.controller_calls.specs.declared.state.Work.{Work}

-- ---- what a call that opens comes to, by the work once its computer's pair was taken out, and by the work afterwards

-- an opening is refused with a status that isn't 0, and puts no channel
pub record IsDenied (line : Line) (c : AuthCall) (taken later : Work) : Type 0 where
  pub status : ℕ
  pub fails : status ≢ 0
  pub denies : later ≡ deny_channel taken line c.flags status

-- an opening is accepted, and the channel that its computer has then is of the type that the call names
pub record IsAccepted (line : Line) (c : AuthCall) (taken later : Work) : Type 0 where
  pub channel : SecureChannelState
  pub opens : later ≡ open_channel true channel line c taken
  pub stands : lookup same_name c.computer later.computers.channels ≡ Some channel
  pub kind : channel.kind ≡ Some c.channel

-- ---- what is kept

abbrev pub HasKind : SecureChannelState → Type 0
HasKind channel = (kind : ℕ) × (channel.kind ≡ Some kind)

-- each channel that is kept has a type
abbrev pub HaveKinds : Computers → Type 0
HaveKinds computers = AllByRecursion (λ (entry : List ℕ × SecureChannelState). HasKind entry.1) computers.channels

-- A call that opens a channel is refused, or leaves it of the type that it names. Where each channel has a type before
-- a call, each has one afterwards.
pub record ChannelsHaveKinds : Type 0 where
  pub opening : (table : AccountTable) (line : Line) (c : AuthCall) (work : Work) →
      IsDenied line c (take_pair c.computer work) (answer_authenticate table line c work)
      ⊎ IsAccepted line c (take_pair c.computer work) (answer_authenticate table line c work)
  pub challenge : (table : AccountTable) (line : Line) (c : ChallengeCall) (server : List ℕ) (work : Work) →
      HaveKinds work.computers → HaveKinds (answer_challenge table line c server work).computers
  pub authenticate : (table : AccountTable) (line : Line) (c : AuthCall) (work : Work) →
      HaveKinds work.computers → HaveKinds (answer_authenticate table line c work).computers
  pub judged : (c : JudgedCall) (name : List ℕ) (now : ℕ) (line : Line) (d : Desk) →
      HaveKinds d.work.computers → HaveKinds (answer_judged c name now line d).work.computers
