-- What a controller keeps and calls on channels alone change, as its accounts and its sessions: each call of a step is
-- judged by it as those before left it, and what the last one leaves is kept. It serves `Proved.tables`,
-- `Proved.sessions` and `Proved.let_on`.
use Rattle.std.proofs.Common.{◌≡◌, ◌⊎◌, ℕ, true, false, List, [], ◌∷◌, ◌++◌, Bool, Option, Some, None, inl, inr, refl, sym, ap, subst, ◌∙◌}
use Rattle.std.proofs.lemmas.Bool.{cases_Bool}
use Rattle.authenticators.specs.Channels.{ChannelIdentity}
use Rattle.authenticators.specs.Sequences.{return_of}
use Rattle.authenticators.specs.SecureChannels.{key_of_channel}
use Rattle.outside.specs.declared.action.Action.TheVariants as action
use Rattle.outside.specs.declared.action.Judged.{Judged}
use Rattle.outside.specs.declared.action.Judged.TheVariants as judged
use Rattle.account_table.specs.AccountTable.{AccountTable}
use Rattle.controller_calls.specs.Calls.{asked_of}
use Rattle.controller_calls.specs.Desk.{Desk, desk, tell}
use Rattle.controller_calls.specs.Doing.{IsDoneAs, IsRefusedCall, done_by, move_on}
use Rattle.controller_calls.specs.declared.calls.JudgedCall.{JudgedCall}
use Rattle.controller_calls.specs.declared.line.Line.{Line}
use Rattle.controller_calls.specs.declared.state.Work.{Work}
use Rattle.controller_calls.proofs.DoneLaws.{does_what_passes}
use Rattle.controller_calls.proofs.ReplyLaws.{authenticate_replies, challenge_replies}
use Rattle.domain_controller.specs.Forwarding.{TrustDesk, base_desk}
use Rattle.domain_controller.specs.Laws.{IsNext}
use Rattle.domain_controller.specs.Machine.{answer_authenticate, answer_challenge, answer_judged}
use Rattle.step_notes.specs.ControllerNotes.{Answered, Where, channel_in, has_passed, judged_answer, judging_by, judging_of, opened_by, opening, passing, plain, silent}
use Rattle.step_notes.specs.Judged.{IsJudgedRight}
use Rattle.step_notes.specs.TrustNotes.{trust_judged_answer, trust_judging_by}
use Rattle.step_notes.specs.Records.{Judging, computer_named, given_in}
use Rattle.step_notes.proofs.Controllers.JudgedStepLaws.{next_of, on_next}
use Rattle.step_notes.proofs.Controllers.NotedLaws.{StaysThrough}
use Rattle.step_notes.proofs.Controllers.TrustedStepLaws.{IsTrusted, StaysWithTrusts}
use Rattle.domain_world.proofs.Judgements.JudgedLaws.{calls_right, trusted_judging}

-- ---- what is kept

-- something that a controller keeps: as it stands at work, as a call was judged by it, and as the call leaves it
pub record Ledger (X : Type 0) : Type 0 where
  pub of : Desk → X
  pub before : Judging → X
  pub behind : Judging → X

-- a call as it is written down
abbrev pub its_judging : Where → Line → JudgedCall → Desk → Judging
its_judging w line c d = judging_of w line c d (Some (answer_judged c w.name w.moment line d))

-- calls on channels alone change it, and each is judged by it
pub record FollowsCalls {X : Type 0} (ledger : Ledger X) : Type 0 where
  pub stays : (table : AccountTable) (old new : Work) → new.computers.sessions ≡ old.computers.sessions → ledger.of (desk table new) ≡ ledger.of (desk table old)
  pub by : (w : Where) (line : Line) (c : JudgedCall) (d : Desk) → ledger.before (its_judging w line c d) ≡ ledger.of d
  pub leaves : (w : Where) (line : Line) (c : JudgedCall) (d : Desk) → ledger.of (answer_judged c w.name w.moment line d) ≡ ledger.behind (its_judging w line c d)

-- a logon for a trust changes it as it is judged, and is judged by it
pub record FollowsTrusts {X : Type 0} (ledger : Ledger X) : Type 0 where
  pub by : (w : Where) (line : Line) (c : JudgedCall) (d after : TrustDesk) → ledger.before (trusted_judging w line c d after) ≡ ledger.of (base_desk d)
  pub leaves : (w : Where) (line : Line) (c : JudgedCall) (d after : TrustDesk) → IsTrusted c d after → ledger.of (base_desk after) ≡ ledger.behind (trusted_judging w line c d after)

-- ---- what was judged in a step, in order

abbrev pub left_of : {X : Type 0} → Ledger X → X → Option Judging → X
left_of ledger x None = x
left_of ledger x (Some j) = ledger.behind j

-- the call was judged at that controller, after as many moves, and by that
pub record IsJudgedBy {X : Type 0} (ledger : Ledger X) (w : Where) (x : X) (j : Judging) : Type 0 where
  pub controller : j.controller ≡ w.controller
  pub at : j.at ≡ w.at
  pub by : ledger.before j ≡ x

abbrev pub IsBy : {X : Type 0} → Ledger X → Where → X → Option Judging → Type 0
IsBy ledger w x None = Unit {0}
IsBy ledger w x (Some j) = IsJudgedBy ledger w x j

abbrev pub AreChained : {X : Type 0} → Ledger X → Where → X → List Answered → Type 0
AreChained ledger w x [] = Unit {0}
AreChained ledger w x (one ∷ more) = IsBy ledger w x one.judging × AreChained ledger w (left_of ledger x one.judging) more

abbrev pub left_behind : {X : Type 0} → Ledger X → X → List Answered → X
left_behind ledger x [] = x
left_behind ledger x (one ∷ more) = left_behind ledger (left_of ledger x one.judging) more

-- each call is judged by what those before it left, and what the last one leaves is kept
abbrev pub Chains : {X : Type 0} → Ledger X → Where → X → List Answered → X → Type 0
Chains ledger w x answers now = AreChained ledger w x answers × (now ≡ left_behind ledger x answers)

-- ---- which units are judged

passing_judging : (channel : Option ChannelIdentity) (j : Judging) → (passing channel j).judging ≡ Some j
passing_judging None j = refl
passing_judging (Some channel) j = refl

pub judged_judging : (passed : Bool) (j : Judging) → (judging_by passed j).judging ≡ Some j
judged_judging false j = refl
judged_judging true j = passing_judging (channel_in j.controller (computer_named j.asked) j.checks) j

pub opening_judging : (channel : Option ChannelIdentity) (w : Where) (number kind : ℕ) → (opening channel w number kind).judging ≡ None
opening_judging None w number kind = refl
opening_judging (Some channel) w number kind = refl

-- a call that may be handed on
trust_judging : (how : Option Judged) (j : Judging) → (trust_judging_by how j).judging ≡ Some j
trust_judging None j = refl
trust_judging (Some (judged.Passed status)) j = judged_judging true j
trust_judging (Some judged.Forwarded) j = refl
trust_judging (Some (judged.Answered status)) j = refl
trust_judging (Some judged.Barred) j = refl
trust_judging (Some judged.NoChannel) j = refl

pub trust_answer_judging : (j : Judging) → (trust_judged_answer j).judging ≡ Some j
trust_answer_judging j = trust_judging j.how j

-- ---- the units of a stream

module _ {X : Type 0} (ledger : Ledger X) (follows : FollowsCalls ledger) (w : Where) (x : X) where
  chained_more : (answers : List Answered) (one : Answered) (start : X) → AreChained ledger w start answers → IsBy ledger w (left_behind ledger start answers) one.judging →
      AreChained ledger w start (answers ++ one ∷ [])
  chained_more [] one start chained by = (by, tt)
  chained_more (first ∷ answers) one start chained by = (chained.0, chained_more answers one (left_of ledger start first.judging) chained.1 by)

  left_more : (answers : List Answered) (one : Answered) (start : X) →
      left_behind ledger start (answers ++ one ∷ []) ≡ left_of ledger (left_behind ledger start answers) one.judging
  left_more [] one start = refl
  left_more (first ∷ answers) one start = left_more answers one (left_of ledger start first.judging)

  more : (answers : List Answered) (one : Answered) (old new : X) → IsBy ledger w old one.judging → new ≡ left_of ledger old one.judging → Chains ledger w x answers old → Chains ledger w x (answers ++ one ∷ []) new
  more answers one old new by leaves chains = (
    chained_more answers one x chains.0 (subst (λ (y : X). IsBy ledger w y one.judging) chains.1 by),
    leaves ∙ ap (λ (y : X). left_of ledger y one.judging) chains.1 ∙ sym (left_more answers one x),
  )

  pub chains_stay : (link : ℕ) → StaysThrough w link w.name w.moment (λ answers d left. Chains ledger w x answers (ledger.of d))
  chains_stay link = record {
    closes = λ answers d left cause chains. (chains.0, follows.stays d.table d.work (tell d.work (action.Close link cause)) refl ∙ chains.1);
    waits = λ answers d left chains. more answers silent (ledger.of d) (ledger.of d) tt refl chains;
    sends = λ answers d left bytes chains. more answers plain (ledger.of d) (ledger.of (desk d.table (tell d.work (action.Send link bytes)))) tt (follows.stays d.table d.work (tell d.work (action.Send link bytes)) refl) chains;
    challenge = λ answers d left line c server on chains.
        more answers plain (ledger.of d) _ tt (follows.stays d.table d.work (answer_challenge d.table line c server d.work) (challenge_replies d.table line c server d.work).sessions) chains;
    authenticate = λ answers d left line c on chains.
        let none = opening_judging (opened_by w.controller c d) w line.call c.channel in
        more answers (opening (opened_by w.controller c d) w line.call c.channel) (ledger.of d) _ (subst (λ (judging : Option Judging). IsBy ledger w (ledger.of d) judging) (sym none) tt)
        (follows.stays d.table d.work (answer_authenticate d.table line c d.work) (authenticate_replies d.table line c d.work).sessions
        ∙ ap (λ (judging : Option Judging). left_of ledger (ledger.of d) judging) (sym none)) chains;
    judged = λ answers d left line c on chains.
        let j : Judging = its_judging w line c d in
        let is : (judged_answer j).judging ≡ Some j = judged_judging (has_passed j.how) j in
        more answers (judged_answer j) (ledger.of d) _
        (subst (λ (judging : Option Judging). IsBy ledger w (ledger.of d) judging) (sym is) (record { controller = refl; at = refl; by = follows.by w line c d }))
        (follows.leaves w line c d ∙ ap (λ (judging : Option Judging). left_of ledger (ledger.of d) judging) (sym is)) chains;
  }

  -- a logon for a trust leaves so too
  pub trusting_chains : (link : ℕ) → FollowsTrusts ledger → StaysWithTrusts w link (λ answers d left. Chains ledger w x answers (ledger.of d))
  trusting_chains link trusts = record {
    base = chains_stay link;
    trusted = λ answers d after left line c on is chains.
        let j : Judging = trusted_judging w line c d after in
        let one : (trust_judged_answer j).judging ≡ Some j = trust_answer_judging j in
        more answers (trust_judged_answer j) (ledger.of (base_desk d)) (ledger.of (base_desk after))
        (subst (λ (judging : Option Judging). IsBy ledger w (ledger.of (base_desk d)) judging) (sym one) (record { controller = refl; at = refl; by = trusts.by w line c d after }))
        (trusts.leaves w line c d after is ∙ ap (λ (judging : Option Judging). left_of ledger (ledger.of (base_desk d)) judging) (sym one)) chains;
  }

-- ---- a call that is judged

-- a call passed, and is done; or it didn't, and nothing changes
pub done_or_refused : (w : Where) (line : Line) (c : JudgedCall) (d : Desk) →
    ((next : IsNext d.work.computers (computer_named c) (given_in c)) × (has_passed (its_judging w line c d).how ≡ true)
    × IsDoneAs (asked_of c) line (key_of_channel next.channel) (return_of (key_of_channel next.channel) next.channel.seed next.given.timestamp)
    (done_by c next.channel w.name d.table w.moment d.work.computers.sessions) (move_on next.computer next.channel next.given d) (answer_judged c w.name w.moment line d))
    ⊎ ((has_passed (its_judging w line c d).how ≡ false) × IsRefusedCall line d (answer_judged c w.name w.moment line d))
done_or_refused w line c d =
    let right : IsJudgedRight (its_judging w line c d) = calls_right w d line c in
    elim (cases_Bool (has_passed (its_judging w line c d).how)) [
      | inl is ↦
          let next : IsNext d.work.computers (computer_named c) (given_in c) = next_of (computer_named c) d.work.computers (given_in c) (right.right.passed.0 is) in
          inl (next, is, does_what_passes.passed c w.name w.moment line d next)
      | inr not ↦ inr (
        not,
        does_what_passes.refused c w.name w.moment line d
            (λ next. absurd (let never : false ≡ true = sym not ∙ right.right.passed.1 (on_next (computer_named c) d.work.computers (given_in c) next) in cc)),
      )
    ]
