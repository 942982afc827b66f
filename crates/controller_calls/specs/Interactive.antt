-- Interactive logons and logoffs at a controller (MS-NRPC 3.5.4.5.3, 3.5.4.5.4; the order of checks, and what is kept
-- of sessions, are this project's own choice). A moment is in units of 100 ns since 1601; a credential has 8 bytes, a
-- hash and a key 16.
use Rattle.std.specs.Prelude.{ℕ, ◌==◌, Bool, true, false, List, length, position, is_some, Option, Some, None}
use Rattle.wire_base.specs.declared.authenticator.Authenticator.{Authenticator}
use Rattle.rc4_stream.specs.Rc4.{applied}
use Rattle.outside.specs.declared.action.Action.TheVariants as action
use Rattle.outside.specs.declared.action.Judged.{Judged}
use Rattle.outside.specs.declared.action.Judged.TheVariants as judged
use Rattle.logon_stubs.specs.declared.calls.Reply.TheVariants as reply
use Rattle.logon_stubs.specs.declared.info.Verdict.{Verdict}
use Rattle.logon_stubs.specs.declared.info.Verdict.TheVariants.{Granted, Status}
use Rattle.logon_stubs.specs.Status.{access_denied, insufficient_resources, invalid_info_class, no_such_logon_session}
use Rattle.account_table.specs.AccountTable.{AccountTable}
use Rattle.sam_logon.specs.Verdict.{Judgement, interactive_judgement_of}
use Rattle.interactive_logon.specs.declared.calls.InteractiveInfo.{InteractiveInfo}
use Rattle.interactive_logon.specs.declared.sessions.Session.{Session}
use Rattle.interactive_logon.specs.Sessions.{added_to, is_session, session_limit, taken_from}
use Rattle.controller_calls.specs.Desk.{Desk, desk, send_reply, tell}
use Rattle.controller_calls.specs.Logons.{pass_logon, serves_level}
use Rattle.controller_calls.specs.declared.line.Line.{Line}
use Rattle.controller_calls.specs.declared.state.Work.{Work}

-- ---- sessions

abbrev pub with_sessions : List Session → Work → Work
with_sessions sessions work = record work { computers = record work.computers { sessions = sessions } }

-- ---- an interactive logon

-- the NT hash as it was before it travelled under the channel's key, from the cipher's first byte on (MS-NRPC
-- 2.2.1.1.4)
abbrev pub shown_hash : List ℕ → InteractiveInfo → List ℕ
shown_hash key info = applied key 0 info.nt

abbrev pub judge_interactive_level : (is_served_level : Bool) → AccountTable → List ℕ → ℕ → InteractiveInfo → List ℕ → Judgement
judge_interactive_level false table name now info key = record { verdict = Status invalid_info_class; table = table }
judge_interactive_level true table name now info key =
    interactive_judgement_of table name info.domain info.user info.workstation (shown_hash key info) now

abbrev pub judge_interactive : AccountTable → List ℕ → ℕ → InteractiveInfo → ℕ → List ℕ → Judgement
judge_interactive table name now info validation key = judge_interactive_level (serves_level validation) table name now info key

-- what is granted opens a session, unless as many stand as are kept
abbrev pub admitted : (is_full : Bool) → Verdict → Verdict
admitted false verdict = verdict
admitted true (Granted info) = Status insufficient_resources
admitted true (Status status) = Status status

abbrev pub session_opened : Verdict → List ℕ → InteractiveInfo → Work → Work
session_opened (Granted granted) computer info work =
    with_sessions (added_to work.computers.sessions computer info.user info.logon_id) work
session_opened (Status status) computer info work = work

abbrev pub pass_admitted : Verdict → AccountTable → Line → InteractiveInfo → ℕ → List ℕ → List ℕ → List ℕ → Work → Desk
pass_admitted verdict table line info validation computer key credential work =
    desk table (pass_logon verdict line validation key credential (session_opened verdict computer info work))

-- by the computer, the channel's key, and the credential that is returned
abbrev pub pass_interactive : List ℕ → ℕ → Line → InteractiveInfo → ℕ → List ℕ → List ℕ → List ℕ → Desk → Desk
pass_interactive name now line info validation computer key credential d =
    pass_admitted
    (admitted (length d.work.computers.sessions == session_limit) (judge_interactive d.table name now info validation key).verdict)
    (judge_interactive d.table name now info validation key).table line info validation computer key credential d.work

-- ---- a logoff

abbrev pub send_logoff_reply : Option Authenticator → ℕ → Line → Work → Work
send_logoff_reply returned status line work =
    send_reply work line (reply.Logoff (record { returned = returned; status = status }))

abbrev pub refuse_logoff : Judged → Line → Work → Work
refuse_logoff how line work = send_logoff_reply None access_denied line (tell work (action.Judged how))

abbrev pub pass_logoff : ℕ → Line → List ℕ → Work → Work
pass_logoff status line credential work =
    send_logoff_reply (Some (record { credential = credential; timestamp = 0 })) status line
    (tell work (action.Judged (judged.Passed status)))

-- by whether there is a session of that computer, user and logon
abbrev pub logoff_status : (has_session : Bool) → ℕ
logoff_status true = 0
logoff_status false = no_such_logon_session

abbrev pub is_open : List Session → List ℕ → InteractiveInfo → Bool
is_open sessions computer info = is_some (position (λ session. is_session computer info.user info.logon_id session) sessions)

-- the first session of that computer, user and logon is taken out
abbrev pub end_session : Line → InteractiveInfo → List ℕ → List ℕ → Work → Work
end_session line info computer credential work =
    pass_logoff (logoff_status (is_open work.computers.sessions computer info)) line credential
    (with_sessions (taken_from work.computers.sessions computer info.user info.logon_id) work)
