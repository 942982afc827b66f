-- What a call that passes comes to before its reply is sent, kind by kind, is what `pass_unsent` says of all; and sent
-- then it is the call that is answered at once. It serves `pass_or_hand` and `judge_call`.
use Rattle.std.proofs.Common.{◌≡◌, ◌∙◌, ◌==◌, ℕ, List, [], ◌∷◌, length, Option, Some, None, refl, sym, ap, append_assoc}
use Rattle.outside.specs.declared.action.Action.TheVariants as action
use Rattle.outside.specs.declared.action.Judged.TheVariants as judged
use Rattle.logon_stubs.specs.declared.info.Verdict.{Verdict}
use Rattle.logon_stubs.specs.declared.info.Verdict.TheVariants.{Granted, Status}
use Rattle.interactive_logon.specs.declared.calls.InteractiveInfo.{InteractiveInfo}
use Rattle.interactive_logon.specs.Sessions.{session_limit}
use Rattle.secret_change.specs.Hiding.{show_of}
use Rattle.account_table.specs.AccountTable.{AccountTable}
use Rattle.account_table.specs.Changes.{with_hash}
use Rattle.account_table.specs.LookUps.{machine_in}
use Rattle.account_table.specs.Secrets.{secrets_of}
use Rattle.controller_calls.specs.Desk.{Desk, desk}
use Rattle.controller_calls.specs.Doing.{admitted_so, set_so}
use Rattle.controller_calls.specs.Handing.{CallPlace, judge_call}
use Rattle.controller_calls.specs.Interactive.{admitted, judge_interactive}
use Rattle.controller_calls.specs.Stubs.{admitted_unsent, asked_unsent, set_at_unsent}
use Rattle.controller_calls.specs.Unsent.{Unsent, call_unsent, pass_done, pass_or_hand_unsent, pass_unsent, send_unsent, sent_on}
use Rattle.controller_calls.specs.declared.calls.Asked.{Asked}
use Rattle.controller_calls.specs.declared.calls.Asked.TheVariants as asked
use Rattle.controller_calls.specs.declared.calls.JudgedCall.{JudgedCall}
use Rattle.controller_calls.specs.declared.handing.HandOn.{HandOn}
use Rattle.controller_calls.specs.declared.state.Work.{Work}
use Rattle.controller_calls.proofs.SealLaws.{unsent_are_sent}

admits : (verdict : Verdict) (table : AccountTable) (info : InteractiveInfo) (validation : ℕ) (computer key credential : List ℕ) (d : Desk) →
    admitted_unsent verdict table info validation computer key credential d.work
    ≡ pass_done (asked.Interactive info validation) (admitted_so verdict table computer info d.work.computers.sessions) key credential d
admits (Granted granted) table info validation computer key credential d = refl
admits (Status status) table info validation computer key credential d = refl

sets : (place : Option ℕ) (account : List ℕ) (kind : ℕ) (hidden hash key credential : List ℕ) (d : Desk) →
    set_at_unsent place hash credential d ≡ pass_done (asked.Set account kind hidden) (set_so place hash d.table d.work.computers.sessions) key credential d
sets None account kind hidden hash key credential d = refl
sets (Some place) account kind hidden hash key credential d =
    rw (append_assoc d.work.actions (action.Keep (secrets_of (with_hash place hash d.table).accounts) ∷ []) (action.Judged (judged.Passed 0) ∷ [])) refl

asked_so : (what : Asked) (at : CallPlace) (computer key credential : List ℕ) (d : Desk) →
    asked_unsent what at.name at.now computer key credential d ≡ pass_unsent what at computer key credential d
asked_so (asked.Network info validation) at computer key credential d = refl
asked_so (asked.Interactive info validation) at computer key credential d =
    admits
    (admitted (length d.work.computers.sessions == session_limit) (judge_interactive d.table at.name at.now info validation key).verdict)
    (judge_interactive d.table at.name at.now info validation key).table info validation computer key credential d
asked_so (asked.Logoff info) at computer key credential d = refl
asked_so asked.NetworkLogoff at computer key credential d = refl
asked_so (asked.Set account kind hidden) at computer key credential d =
    sets (machine_in d.table.accounts account kind computer) account kind hidden (show_of key hidden) key credential d

pub passes_so : (trust : Option ℕ) (what : Asked) (at : CallPlace) (computer key credential : List ℕ) (d : Desk) (u : Unsent) → trust ≡ None →
    u ≡ asked_unsent what at.name at.now computer key credential d → u ≡ pass_or_hand_unsent trust what at computer key credential d
passes_so trust what at computer key credential d u none is =
    is
    ∙ asked_so what at computer key credential d
    ∙ ap (λ (t : Option ℕ). pass_or_hand_unsent t what at computer key credential d) (sym none)

pub sent_so : (c : JudgedCall) (at : CallPlace) (d : Desk) (table : AccountTable) (before after : Work) (u : Option (List ℕ) × Option HandOn) →
    (desk table before, u) ≡ call_unsent c at d → after ≡ send_unsent u.0 at.line before → (desk table after, u.1) ≡ judge_call c at d
sent_so c at d table before after u is sends =
    ap (λ (w : Work). (desk table w, u.1)) sends ∙ ap (λ (v : Unsent). sent_on at.line v) is ∙ unsent_are_sent.sent c at d
