-- NetrServerPasswordSet at a controller (MS-NRPC 3.5.4.4.6; the order of checks, and what is kept, are this project's
-- own choice). A credential has 8 bytes, a hash and a key 16.
use Rattle.std.specs.Prelude.{ℕ, List, replicate, Option, Some, None}
use Rattle.outside.specs.declared.action.Action.TheVariants as action
use Rattle.outside.specs.declared.action.Judged.{Judged}
use Rattle.outside.specs.declared.action.Judged.TheVariants as judged
use Rattle.logon_stubs.specs.Status.{access_denied, no_trust_sam_account}
use Rattle.account_table.specs.AccountTable.{AccountTable}
use Rattle.account_table.specs.Changes.{with_hash}
use Rattle.account_table.specs.LookUps.{machine_in}
use Rattle.account_table.specs.Secrets.{secrets_of}
use Rattle.secret_change.specs.Calls.{written_set_reply}
use Rattle.secret_change.specs.Hiding.{show_of}
use Rattle.controller_calls.specs.Desk.{Desk, desk, send_stub, tell}
use Rattle.controller_calls.specs.declared.line.Line.{Line}
use Rattle.controller_calls.specs.declared.state.Work.{Work}

-- the authenticator that is returned has a timestamp of 0
abbrev pub send_set_reply : Line → List ℕ → ℕ → Work → Work
send_set_reply line credential status work =
    send_stub work line (written_set_reply (record { returned = record { credential = credential; timestamp = 0 }; status = status }))

-- without a channel and an authenticator that passes, the credential is of zeros
abbrev pub refuse_set : Judged → Line → Work → Work
refuse_set how line work = send_set_reply line (replicate 8 0) access_denied (tell work (action.Judged how))

abbrev pub pass_set : ℕ → Line → List ℕ → Work → Work
pass_set status line credential work = send_set_reply line credential status (tell work (action.Judged (judged.Passed status)))

-- the text of all changed accounts is kept
abbrev pub keep_secrets : AccountTable → Work → Work
keep_secrets table work = tell work (action.Keep (secrets_of table.accounts))

-- at the account of a place, whose hash becomes that one
abbrev pub set_at : Option ℕ → List ℕ → Line → List ℕ → Desk → Desk
set_at None hash line credential d = desk d.table (pass_set no_trust_sam_account line credential d.work)
set_at (Some place) hash line credential d =
    desk (with_hash place hash d.table) (pass_set 0 line credential (keep_secrets (with_hash place hash d.table) d.work))

-- by the account's name, the type of its channel, the hidden hash, the computer, and the channel's key, which stays
abbrev pub set_hash : List ℕ → ℕ → List ℕ → Line → List ℕ → List ℕ → List ℕ → Desk → Desk
set_hash account kind hidden line computer key credential d =
    set_at (machine_in d.table.accounts account kind computer) (show_of key hidden) line credential d
