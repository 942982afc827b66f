-- What a call on a secure channel comes to where its authenticator passes, whatever it asks: the status and the stub of
-- its reply, and the accounts and the sessions behind it (MS-NRPC 3.5.4.4.6, 3.5.4.5.3, 3.5.4.5.4; the order of checks
-- is this project's own choice). A credential has 8 bytes, a key 16.
use Rattle.std.specs.Prelude.{ℕ, ◌≡◌, ◌==◌, Bool, true, false, List, [], ◌∷◌, ◌++◌, length, replicate, Option, Some, None}
use Rattle.wire_base.specs.Maps.{lookup}
use Rattle.wire_base.specs.Names.{same_name}
use Rattle.wire_base.specs.declared.authenticator.Authenticator.{Authenticator}
use Rattle.authenticators.specs.Sequences.{return_of}
use Rattle.authenticators.specs.SecureChannels.{SecureChannelState, channel_by, key_of_channel, passes_on}
use Rattle.outside.specs.declared.action.Action.{Action}
use Rattle.outside.specs.declared.action.Action.TheVariants as action
use Rattle.outside.specs.declared.action.Judged.{Judged}
use Rattle.outside.specs.declared.action.Judged.TheVariants as judged
use Rattle.rpc_units.specs.Calls.{bytes_of_call}
use Rattle.logon_stubs.specs.declared.calls.Reply.TheVariants as reply
use Rattle.logon_stubs.specs.declared.info.SamInfo.{SamInfo}
use Rattle.logon_stubs.specs.declared.info.Verdict.{Verdict}
use Rattle.logon_stubs.specs.declared.info.Verdict.TheVariants.{Granted, Status}
use Rattle.logon_stubs.specs.Status.{access_denied, invalid_info_class, no_trust_sam_account}
use Rattle.logon_stubs.specs.Writing.{written_reply}
use Rattle.interactive_logon.specs.declared.calls.InteractiveInfo.{InteractiveInfo}
use Rattle.interactive_logon.specs.declared.sessions.Session.{Session}
use Rattle.interactive_logon.specs.Sessions.{added_to, session_limit, taken_from}
use Rattle.secret_change.specs.Calls.{written_set_reply}
use Rattle.secret_change.specs.Hiding.{show_of}
use Rattle.account_table.specs.AccountTable.{AccountTable}
use Rattle.account_table.specs.Changes.{with_hash}
use Rattle.account_table.specs.LookUps.{machine_in}
use Rattle.account_table.specs.Secrets.{secrets_of}
use Rattle.sam_logon.specs.Verdict.{Judgement}
use Rattle.end_links.specs.Sending.{response_of}
use Rattle.controller_calls.specs.Asking.{answer_judged}
use Rattle.controller_calls.specs.Calls.{asked_of, computer_named, given_in}
use Rattle.controller_calls.specs.declared.calls.JudgedCall.{JudgedCall}
use Rattle.controller_calls.specs.Desk.{Desk, desk, put_channel, take_channel}
use Rattle.controller_calls.specs.Interactive.{admitted, is_open, judge_interactive, logoff_status}
use Rattle.controller_calls.specs.Logons.{info_of, judge_info, status_of}
use Rattle.controller_calls.specs.Passing.{IsNext, is_passed}
use Rattle.controller_calls.specs.declared.calls.Asked.{Asked}
use Rattle.controller_calls.specs.declared.calls.Asked.TheVariants as asked
use Rattle.controller_calls.specs.declared.line.Line.{Line}
use Rattle.controller_calls.specs.declared.state.Computers.{Computers}

-- the status of its reply, the verdict where a logon was judged, and the accounts and the sessions behind it
pub record Done : Type 0 where
  pub status : ℕ
  pub verdict : Option Verdict
  pub table : AccountTable
  pub sessions : List Session

-- where no logon is judged
abbrev pub answered_with : ℕ → AccountTable → List Session → Done
answered_with status table sessions = record { status = status; verdict = None; table = table; sessions = sessions }

-- ---- each kind

abbrev pub judged_so : Judgement → List Session → Done
judged_so j sessions =
    record { status = status_of j.verdict; verdict = Some j.verdict; table = j.table; sessions = sessions }

-- what is granted to an interactive logon adds a session
abbrev pub sessions_after : Verdict → List ℕ → InteractiveInfo → List Session → List Session
sessions_after (Granted granted) computer info sessions = added_to sessions computer info.user info.logon_id
sessions_after (Status status) computer info sessions = sessions

abbrev pub admitted_so : Verdict → AccountTable → List ℕ → InteractiveInfo → List Session → Done
admitted_so verdict table computer info sessions = record {
  status = status_of verdict;
  verdict = Some verdict;
  table = table;
  sessions = sessions_after verdict computer info sessions;
}

-- where as many sessions stand as are kept, none is granted
abbrev pub interactive_so : Judgement → List ℕ → InteractiveInfo → List Session → Done
interactive_so j computer info sessions =
    admitted_so (admitted (length sessions == session_limit) j.verdict) j.table computer info sessions

-- at the account of a place, if there is one, whose hash becomes that one
abbrev pub set_so : Option ℕ → List ℕ → AccountTable → List Session → Done
set_so None hash table sessions = answered_with no_trust_sam_account table sessions
set_so (Some place) hash table sessions = answered_with 0 (with_hash place hash table) sessions

-- by the computer whose channel it is, the channel's key, and the controller's name, accounts, moment and sessions
abbrev pub done_asked : Asked → List ℕ → List ℕ → List ℕ → AccountTable → ℕ → List Session → Done
done_asked (asked.Network info validation) computer key name table now sessions =
    judged_so (judge_info table name now info validation) sessions
done_asked (asked.Interactive info validation) computer key name table now sessions =
    interactive_so (judge_interactive table name now info validation key) computer info sessions
done_asked (asked.Logoff info) computer key name table now sessions =
    answered_with (logoff_status (is_open sessions computer info)) table (taken_from sessions computer info.user info.logon_id)
done_asked asked.NetworkLogoff computer key name table now sessions = answered_with invalid_info_class table sessions
done_asked (asked.Set account kind hidden) computer key name table now sessions =
    set_so (machine_in table.accounts account kind computer) (show_of key hidden) table sessions

-- a call that names no computer doesn't pass
abbrev pub computer_or_none : Option (List ℕ) → List ℕ
computer_or_none None = []
computer_or_none (Some computer) = computer

-- of a call, by the channel as it stood before it
abbrev pub done_by : JudgedCall → SecureChannelState → List ℕ → AccountTable → ℕ → List Session → Done
done_by c channel name table now sessions =
    done_asked (asked_of c) (computer_or_none (computer_named c)) (key_of_channel channel) name table now sessions

-- ---- the reply to a call

-- what is granted has its key under the session key of the channel
abbrev pub info_done : ℕ → List ℕ → Option Verdict → Option SamInfo
info_done level key None = None
info_done level key (Some verdict) = info_of level key verdict

-- the authenticator that is returned has a timestamp of 0
abbrev pub returned_with : List ℕ → Authenticator
returned_with credential = record { credential = credential; timestamp = 0 }

abbrev pub logon_stub : ℕ → List ℕ → List ℕ → Done → List ℕ
logon_stub validation key credential done = written_reply (reply.Logon (record {
  returned = Some (returned_with credential);
  level = validation;
  info = info_done validation key done.verdict;
  authoritative = 1;
  status = done.status;
}))

abbrev pub logoff_stub : List ℕ → Done → List ℕ
logoff_stub credential done =
    written_reply (reply.Logoff (record { returned = Some (returned_with credential); status = done.status }))

-- the stub of the reply, by the channel's key, the credential that is returned, and what the call came to: of a logon
-- at the level that was asked for
abbrev pub stub_asked : Asked → List ℕ → List ℕ → Done → List ℕ
stub_asked (asked.Network info validation) key credential done = logon_stub validation key credential done
stub_asked (asked.Interactive info validation) key credential done = logon_stub validation key credential done
stub_asked (asked.Logoff info) key credential done = logoff_stub credential done
stub_asked asked.NetworkLogoff key credential done = logoff_stub credential done
stub_asked (asked.Set account kind hidden) key credential done =
    written_set_reply (record { returned = returned_with credential; status = done.status })

abbrev pub reply_stub : JudgedCall → List ℕ → List ℕ → Done → List ℕ
reply_stub c key credential done = stub_asked (asked_of c) key credential done

-- ---- where its authenticator doesn't pass

-- no authenticator is returned
abbrev pub refused_logon_stub : ℕ → List ℕ
refused_logon_stub validation = written_reply (reply.Logon (record {
  returned = None;
  level = validation;
  info = None;
  authoritative = 1;
  status = access_denied;
}))

abbrev pub refused_logoff_stub : List ℕ
refused_logoff_stub = written_reply (reply.Logoff (record { returned = None; status = access_denied }))

-- the stub of the reply; that to a NetrServerPasswordSet has a credential of zeros
abbrev pub refused_stub : Asked → List ℕ
refused_stub (asked.Network info validation) = refused_logon_stub validation
refused_stub (asked.Interactive info validation) = refused_logon_stub validation
refused_stub (asked.Logoff info) = refused_logoff_stub
refused_stub asked.NetworkLogoff = refused_logoff_stub
refused_stub (asked.Set account kind hidden) =
    written_set_reply (record { returned = returned_with (replicate 8 0); status = access_denied })

-- how the call is told: by the channel of its computer
abbrev pub refused_on : Option SecureChannelState → Judged
refused_on None = judged.NoChannel
refused_on (Some channel) = judged.Barred

-- by the computer that it names, and its authenticator
abbrev pub how_refused : Option (List ℕ) → Option Authenticator → Computers → Judged
how_refused None given computers = judged.NoChannel
how_refused (Some computer) None computers = judged.NoChannel
how_refused (Some computer) (Some given) computers = refused_on (lookup same_name computer computers.channels)

-- ---- what is kept

-- where another hash was set, the text of all changed accounts is kept
abbrev pub kept_if : (was_set : Bool) → AccountTable → List Action
kept_if false table = []
kept_if true table = action.Keep (secrets_of table.accounts) ∷ []

abbrev pub kept_asked : Asked → Done → List Action
kept_asked (asked.Network info validation) done = []
kept_asked (asked.Interactive info validation) done = []
kept_asked (asked.Logoff info) done = []
kept_asked asked.NetworkLogoff done = []
kept_asked (asked.Set account kind hidden) done = kept_if (done.status == 0) done.table

-- ---- what is promised

-- What is asked is done on the channel whose seed has moved on. A text is kept before it is told that the call passed,
-- and the reply stands last.
pub record IsDoneAs (what : Asked) (line : Line) (key credential : List ℕ) (done : Done) (before after : Desk) : Type 0 where
  pub table : after.table ≡ done.table
  pub sessions : after.work.computers.sessions ≡ done.sessions
  pub pending : after.work.computers.pending ≡ before.work.computers.pending
  pub channels : after.work.computers.channels ≡ before.work.computers.channels
  pub actions : after.work.actions
      ≡ before.work.actions
      ++ (kept_asked what done
      ++ action.Judged (judged.Passed done.status)
      ∷ action.Send line.link (bytes_of_call (response_of line.call line.context (stub_asked what key credential done)) line.limit)
      ∷ [])

-- the channel of the computer has moved on
abbrev pub move_on : List ℕ → SecureChannelState → Authenticator → Desk → Desk
move_on computer channel given d =
    desk d.table (put_channel computer (channel_by (passes_on channel given) channel given) (take_channel computer d.work))

-- of a call that doesn't pass, nothing changes but the place of its computer's channel
pub record IsRefusedCall (line : Line) (before after : Desk) : Type 0 where
  pub table : after.table ≡ before.table
  pub sessions : after.work.computers.sessions ≡ before.work.computers.sessions
  pub pending : after.work.computers.pending ≡ before.work.computers.pending
  pub channels : (computer : List ℕ) →
      lookup same_name computer after.work.computers.channels ≡ lookup same_name computer before.work.computers.channels
  pub how : Judged
  pub not_passed : is_passed how ≡ false
  pub answer : List ℕ
  pub actions : after.work.actions ≡ before.work.actions ++ action.Judged how ∷ action.Send line.link answer ∷ []

-- A call on a secure channel whose authenticator passes comes to what `done_by` says, whatever it asks: those are the
-- accounts and the sessions behind it, the status that is told, and what the reply has. One that doesn't pass leaves
-- all that, and each computer's channel; it is told why, and answered by STATUS_ACCESS_DENIED.
pub record DoesWhatPasses : Type 0 where
  pub passed : (c : JudgedCall) (name : List ℕ) (now : ℕ) (line : Line) (d : Desk) (next : IsNext d.work.computers (computer_named c) (given_in c)) →
      IsDoneAs (asked_of c) line (key_of_channel next.channel) (return_of (key_of_channel next.channel) next.channel.seed next.given.timestamp)
      (done_by c next.channel name d.table now d.work.computers.sessions) (move_on next.computer next.channel next.given d) (answer_judged c name now line d)
  pub refused : (c : JudgedCall) (name : List ℕ) (now : ℕ) (line : Line) (d : Desk) → (IsNext d.work.computers (computer_named c) (given_in c) → ⊥) →
      IsRefusedCall line d (answer_judged c name now line d)
  pub denied : (c : JudgedCall) (name : List ℕ) (now : ℕ) (line : Line) (d : Desk) → (IsNext d.work.computers (computer_named c) (given_in c) → ⊥) →
      (answer_judged c name now line d).work.actions
      ≡ d.work.actions
      ++ action.Judged (how_refused (computer_named c) (given_in c) d.work.computers)
      ∷ action.Send line.link (bytes_of_call (response_of line.call line.context (refused_stub (asked_of c))) line.limit)
      ∷ []
