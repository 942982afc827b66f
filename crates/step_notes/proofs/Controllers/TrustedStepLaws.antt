-- What holds through the units of a controller that asks nobody holds through those of one that may hand logons on,
-- where it holds through a logon for a trust. It serves the claims on credentials, replays, grants and tables, which
-- are of every run.
use Rattle.std.proofs.Common.{◌≡◌, ℕ, true, false, List, [], ◌∷◌, ◌++◌, drop, length, Option, Some, refl, sym, ap, subst, ◌∙◌}
use Rattle.std.specs.List.{AllByRecursion}
use Rattle.authenticators.specs.SecureChannels.{SecureChannelState}
use Rattle.wire_base.specs.declared.authenticator.Authenticator.{Authenticator}
use Rattle.outside.specs.declared.action.Action.{Action}
use Rattle.outside.specs.declared.action.Action.TheVariants as action
use Rattle.outside.specs.declared.action.Judged.{Judged}
use Rattle.outside.specs.declared.action.Judged.TheVariants as judged
use Rattle.logon_stubs.specs.Status.{no_logon_servers}
use Rattle.controller_calls.specs.Calls.{computer_named, given_in}
use Rattle.controller_calls.specs.Passing.{is_passed, judges_call}
use Rattle.controller_calls.specs.declared.calls.JudgedCall.{JudgedCall}
use Rattle.controller_calls.specs.declared.line.Line.{Line}
use Rattle.domain_controller.specs.Forwarding.{TrustDesk, answer_trust_call, base_desk}
use Rattle.domain_controller.specs.Machine.{answer_judged}
use Rattle.domain_controller.specs.Sessions.{told_in}
use Rattle.domain_controller.specs.TrustLaws.{IsForTrust, IsForwarded, IsLeftUnasked, moved_computers}
use Rattle.domain_controller.proofs.HandOnLaws.{CallGoes, GoesOn, IsLeft, StaysHere, call_goes}
use Rattle.step_notes.specs.ControllerNotes.{Answered, Where, checked_on, judged_in, judging_of}
use Rattle.step_notes.specs.Judged.{IsBarredBy, IsNextOn, IsRightOf}
use Rattle.step_notes.specs.TrustNotes.{trust_judged_answer}
use Rattle.step_notes.proofs.Controllers.JudgedStepLaws.{dropped, next_unbarred, on_next}
use Rattle.step_notes.proofs.Controllers.NotedLaws.{NotedFact, StaysThrough}
use Rattle.step_notes.proofs.Controllers.TrustNoteLaws.{call_alike}
use Rattle.step_notes.proofs.Controllers.TrustNotedLaws.{TrustNotedFact, TrustStaysThrough}

-- ---- a logon for a trust

-- A logon for a trust is told to have passed, whether that domain's controller is asked or nobody is, and never with
-- status 0. The accounts stay, the channel has moved on, and nothing else is told.
pub record IsTrusted (c : JudgedCall) (d after : TrustDesk) : Type 0 where
  pub goes : IsForTrust c d
  pub table : after.table ≡ d.table
  pub computers : after.work.work.computers ≡ moved_computers d goes.next
  pub how : Judged
  pub passed : is_passed how ≡ true
  pub judges : judges_call how ≡ true
  pub refused : how ≡ judged.Passed 0 → ⊥
  pub new : List Action
  pub actions : after.work.work.actions ≡ d.work.work.actions ++ action.Judged how ∷ new
  pub quiet : AllByRecursion (λ (what : Action). told_in what ≡ []) new

not_granted : judged.Passed no_logon_servers ≡ judged.Passed 0 → ⊥
not_granted is = absurd (let same : no_logon_servers ≡ 0 = cc in cc)

forwarded_so : (c : JudgedCall) (line : Line) (d after : TrustDesk) (is : _) → IsForwarded c line d after is → IsTrusted c d after
forwarded_so c line d after is so = record {
  goes = is.goes;
  table = so.table;
  computers = so.computers;
  how = judged.Forwarded;
  passed = refl;
  judges = refl;
  refused = λ same. absurd cc;
  new = [];
  actions = so.actions;
  quiet = tt;
}

unasked_so : (c : JudgedCall) (line : Line) (d after : TrustDesk) (goes : IsForTrust c d) → IsLeftUnasked c line d after goes → IsTrusted c d after
unasked_so c line d after goes so = record {
  goes = goes;
  table = so.table;
  computers = so.computers;
  how = judged.Passed no_logon_servers;
  passed = refl;
  judges = refl;
  refused = λ same. absurd (not_granted same);
  new = action.Send line.link _ ∷ [];
  actions = so.actions;
  quiet = (refl, tt);
}

-- how a logon for a trust is judged, as it is written down
pub trusted_how : (c : JudgedCall) (d after : TrustDesk) (is : IsTrusted c d after) → judged_in (drop (length d.work.work.actions) after.work.work.actions) ≡ Some is.how
trusted_how c d after is =
    ap (λ (all : List Action). judged_in (drop (length d.work.work.actions) all)) is.actions
    ∙ ap judged_in (dropped d.work.work.actions (action.Judged is.how ∷ is.new))

-- a judgement that passed is right of the next authenticator
right_passed : (how : Judged) (checks : Option SecureChannelState) (shown : Option Authenticator) → is_passed how ≡ true → IsNextOn checks shown → (IsBarredBy checks shown → ⊥) →
    IsRightOf (Some how) checks shown
right_passed how checks shown passed next free = record {
  passed = (λ is. next, λ so. passed);
  barred = (
    λ is. let same : how ≡ judged.Barred = cc in absurd (let never : false ≡ true = sym (ap is_passed same) ∙ passed in cc),
    λ barred. absurd (free barred),
  );
  other = (
    λ is. let same : how ≡ judged.NoChannel = cc in absurd (let never : false ≡ true = sym (ap is_passed same) ∙ passed in cc),
    λ both. absurd (both.0 next),
  );
}

pub trusted_right : (c : JudgedCall) (d after : TrustDesk) → IsTrusted c d after →
    IsRightOf (judged_in (drop (length d.work.work.actions) after.work.work.actions)) (checked_on (computer_named c) d.work.work.computers) (given_in c)
trusted_right c d after is =
    let checks : Option SecureChannelState = checked_on (computer_named c) d.work.work.computers in
    let next : IsNextOn checks (given_in c) = on_next (computer_named c) d.work.work.computers (given_in c) is.goes.next in
    subst (λ (how : Option Judged). IsRightOf how checks (given_in c)) (sym (trusted_how c d after is))
    (right_passed is.how checks (given_in c) is.passed next (next_unbarred checks (given_in c) next))

-- ---- what is to hold

-- a fact stays as at a controller that asks nobody, and where a logon for a trust comes
pub record StaysWithTrusts (w : Where) (link : ℕ) (Holds : NotedFact) : Type 0 where
  pub base : StaysThrough w link w.name w.moment Holds
  pub trusted : (answers : List Answered) (d after : TrustDesk) (left : List (List ℕ)) (line : Line) (c : JudgedCall) → line.link ≡ link → IsTrusted c d after →
      Holds answers (base_desk d) left →
      Holds (answers ++ trust_judged_answer (judging_of w line c (base_desk d) (Some (base_desk after))) ∷ []) (base_desk after) left

-- of a controller that may hand logons on, by what of it answers calls
abbrev pub OfBase : NotedFact → TrustNotedFact
OfBase Holds answers d left = Holds answers (base_desk d) left

module _ (w : Where) (link : ℕ) (Holds : NotedFact) (stays : StaysWithTrusts w link Holds) where
  goes_so : (answers : List Answered) (d after : TrustDesk) (left : List (List ℕ)) (line : Line) (c : JudgedCall) → line.link ≡ link → Holds answers (base_desk d) left →
      CallGoes c w.name w.moment line d after →
      Holds (answers ++ trust_judged_answer (judging_of w line c (base_desk d) (Some (base_desk after))) ∷ []) (base_desk after) left
  goes_so answers d after left line c on holds (GoesOn is so) = stays.trusted answers d after left line c on (forwarded_so c line d after is so) holds
  goes_so answers d after left line c on holds (IsLeft goes so) = stays.trusted answers d after left line c on (unasked_so c line d after goes so) holds
  goes_so answers d after left line c on holds (StaysHere not is) =
      subst (λ (other : TrustDesk). Holds (answers ++ trust_judged_answer (judging_of w line c (base_desk d) (Some (base_desk other))) ∷ []) (base_desk other) left) (sym is)
      (subst (λ (one : Answered). Holds (answers ++ one ∷ []) (answer_judged c w.name w.moment line (base_desk d)) left) (sym (call_alike w c w.name w.moment line (base_desk d)))
      (stays.base.judged answers (base_desk d) left line c on holds))

  pub trusting_stays : TrustStaysThrough w link w.name w.moment (OfBase Holds)
  trusting_stays = record {
    closes = λ answers d left cause holds. stays.base.closes answers (base_desk d) left cause holds;
    waits = λ answers d left holds. stays.base.waits answers (base_desk d) left holds;
    sends = λ answers d left bytes holds. stays.base.sends answers (base_desk d) left bytes holds;
    challenge = λ answers d left line c server on holds. stays.base.challenge answers (base_desk d) left line c server on holds;
    authenticate = λ answers d left line c on holds. stays.base.authenticate answers (base_desk d) left line c on holds;
    judged = λ answers d left line c on holds.
        goes_so answers d (answer_trust_call c w.name w.moment line d) left line c on holds (call_goes c w.name w.moment line d);
  }
