-- What a call on a secure channel that passes comes to before its reply is sent, kind by kind (MS-NRPC 3.5.4.4.6,
-- 3.5.4.5.3, 3.5.4.5.4): `Unsent.pass_unsent` says the same of all kinds at once. A credential has 8 bytes, a key 16.
use Rattle.std.specs.Prelude.{ℕ, ◌==◌, List, length, Option, Some, None}
use Rattle.outside.specs.declared.action.Action.TheVariants as action
use Rattle.outside.specs.declared.action.Judged.TheVariants as judged
use Rattle.logon_stubs.specs.declared.calls.Reply.TheVariants as reply
use Rattle.logon_stubs.specs.declared.info.NetworkInfo.{NetworkInfo}
use Rattle.logon_stubs.specs.declared.info.Verdict.{Verdict}
use Rattle.logon_stubs.specs.Status.{invalid_info_class, no_trust_sam_account}
use Rattle.logon_stubs.specs.Writing.{written_reply}
use Rattle.interactive_logon.specs.declared.calls.InteractiveInfo.{InteractiveInfo}
use Rattle.interactive_logon.specs.Sessions.{session_limit, taken_from}
use Rattle.secret_change.specs.Calls.{written_set_reply}
use Rattle.secret_change.specs.Hiding.{show_of}
use Rattle.account_table.specs.AccountTable.{AccountTable}
use Rattle.account_table.specs.Changes.{with_hash}
use Rattle.account_table.specs.LookUps.{machine_in}
use Rattle.sam_logon.specs.Verdict.{Judgement}
use Rattle.controller_calls.specs.Desk.{Desk, desk, tell}
use Rattle.controller_calls.specs.Doing.{returned_with}
use Rattle.controller_calls.specs.Interactive.{admitted, is_open, judge_interactive, logoff_status, session_opened, with_sessions}
use Rattle.controller_calls.specs.Logons.{judge_info, reply_to, status_of}
use Rattle.controller_calls.specs.Setting.{keep_secrets}
use Rattle.controller_calls.specs.Unsent.{Unsent, replies}
use Rattle.controller_calls.specs.declared.calls.Asked.{Asked}
use Rattle.controller_calls.specs.declared.calls.Asked.TheVariants as asked
use Rattle.controller_calls.specs.declared.state.Work.{Work}

-- ---- a logon: the verdict is told, and its reply is the stub

abbrev pub logon_unsent : Verdict → (validation : ℕ) (key credential : List ℕ) → AccountTable → Work → Unsent
logon_unsent verdict validation key credential table work =
    replies (desk table (tell work (action.Judged (judged.Passed (status_of verdict)))))
    (written_reply (reply_to verdict validation key credential))

abbrev pub judged_unsent : Judgement → (validation : ℕ) (key credential : List ℕ) → Work → Unsent
judged_unsent j validation key credential work = logon_unsent j.verdict validation key credential j.table work

abbrev pub network_unsent : (name : List ℕ) (now : ℕ) → NetworkInfo → (validation : ℕ) (key credential : List ℕ) → Desk → Unsent
network_unsent name now info validation key credential d =
    judged_unsent (judge_info d.table name now info validation) validation key credential d.work

-- what is granted to an interactive logon opens a session
abbrev pub admitted_unsent : Verdict → AccountTable → InteractiveInfo → (validation : ℕ) (computer key credential : List ℕ) → Work → Unsent
admitted_unsent verdict table info validation computer key credential work =
    logon_unsent verdict validation key credential table (session_opened verdict computer info work)

abbrev pub interactive_unsent : (name : List ℕ) (now : ℕ) → InteractiveInfo → (validation : ℕ) (computer key credential : List ℕ) → Desk → Unsent
interactive_unsent name now info validation computer key credential d =
    admitted_unsent
    (admitted (length d.work.computers.sessions == session_limit) (judge_interactive d.table name now info validation key).verdict)
    (judge_interactive d.table name now info validation key).table info validation computer key credential d.work

-- ---- a logoff

abbrev pub logoff_unsent : (status : ℕ) (credential : List ℕ) → AccountTable → Work → Unsent
logoff_unsent status credential table work =
    replies (desk table (tell work (action.Judged (judged.Passed status))))
    (written_reply (reply.Logoff (record { returned = Some (returned_with credential); status = status })))

-- the first session of that computer, user and logon is taken out
abbrev pub end_unsent : InteractiveInfo → (computer credential : List ℕ) → AccountTable → Work → Unsent
end_unsent info computer credential table work =
    logoff_unsent (logoff_status (is_open work.computers.sessions computer info)) credential table
    (with_sessions (taken_from work.computers.sessions computer info.user info.logon_id) work)

-- ---- the reply to a call that sets another secret

abbrev pub set_unsent : (status : ℕ) (credential : List ℕ) → AccountTable → Work → Unsent
set_unsent status credential table work =
    replies (desk table (tell work (action.Judged (judged.Passed status))))
    (written_set_reply (record { returned = returned_with credential; status = status }))

-- at the account of a place, whose hash becomes that one
abbrev pub set_at_unsent : (place : Option ℕ) (hash credential : List ℕ) → Desk → Unsent
set_at_unsent None hash credential d = set_unsent no_trust_sam_account credential d.table d.work
set_at_unsent (Some place) hash credential d =
    set_unsent 0 credential (with_hash place hash d.table) (keep_secrets (with_hash place hash d.table) d.work)

abbrev pub set_hash_unsent : (account : List ℕ) (kind : ℕ) (hidden computer key credential : List ℕ) → Desk → Unsent
set_hash_unsent account kind hidden computer key credential d =
    set_at_unsent (machine_in d.table.accounts account kind computer) (show_of key hidden) credential d

-- ---- whatever it asks

abbrev pub asked_unsent : Asked → (name : List ℕ) (now : ℕ) (computer key credential : List ℕ) → Desk → Unsent
asked_unsent (asked.Network info validation) name now computer key credential d =
    network_unsent name now info validation key credential d
asked_unsent (asked.Interactive info validation) name now computer key credential d =
    interactive_unsent name now info validation computer key credential d
asked_unsent (asked.Logoff info) name now computer key credential d = end_unsent info computer credential d.table d.work
asked_unsent asked.NetworkLogoff name now computer key credential d =
    logoff_unsent invalid_info_class credential d.table d.work
asked_unsent (asked.Set account kind hidden) name now computer key credential d =
    set_hash_unsent account kind hidden computer key credential d
