-- What a controller that asks nobody tells where bytes come are the judgements of the calls that it heard, in their
-- order, and each judgement of a call is right. It serves `Proved.credentials` and `Proved.alone`.
use Rattle.std.proofs.Common.{◌≡◌, ℕ, Bool, true, false, cond, List, [], ◌∷◌, ◌++◌, Option, Some, None, refl, sym, ap, ◌∙◌, subst}
use Rattle.std.specs.Prelude.{flat_map}
use Rattle.std.proofs.lemmas.List.{append-nil, flat_map_more}
use Rattle.std.proofs.lemmas.List.Concat.{flat_map-append}
use Rattle.authenticators.specs.SecureChannels.{SecureChannelState}
use Rattle.outside.specs.declared.action.Action.{Action}
use Rattle.outside.specs.declared.action.Judged.{Judged}
use Rattle.domain_controller.specs.Machine.{Desk, answer_authenticate, answer_challenge, answer_judged}
use Rattle.domain_controller.specs.Laws.{judges_call}
use Rattle.step_notes.specs.ControllerNotes.{Answered, judged_answer, plain, silent, Where, has_passed, judging_of, opened_by, opening}
use Rattle.step_notes.specs.Judged.{IsJudgedRight, IsRightOf}
use Rattle.step_notes.specs.Records.{JudgementTold, Judging, given_in}
use Rattle.world_moves.specs.declared.links.EndId.{EndId}
use Rattle.world_moves.specs.declared.links.EndId.TheVariants.{Controller, Member, Client, Station}
use Rattle.world_moves.specs.Acting.{Given, given_by}
use Rattle.domain_world.specs.Claims.{AreRightlyTold, AreTheirJudgements, judgements_of_calls}
use Rattle.domain_world.specs.Past.{judged_of, judgement_by, judgements_in, later_of, number_sent, onto, with_reply}
use Rattle.step_notes.proofs.Controllers.JudgedStepLaws.{Told, how_is, told_call}
use Rattle.domain_world.proofs.Judgements.JudgedLaws.{AreRight}
use Rattle.step_notes.proofs.Controllers.NotedLaws.{NotedFact, StaysThrough}
use Rattle.controller_calls.proofs.ReplyLaws.{Replies, authenticate_replies, challenge_replies, read_behind}
use Rattle.domain_world.proofs.Judgements.ChainLaws.{judged_judging, opening_judging}
use Rattle.wire_base.specs.declared.authenticator.Authenticator.{Authenticator}
use Rattle.outside.specs.declared.action.Action.TheVariants as action
use Rattle.outside.specs.declared.action.Judged.TheVariants as judged
use Rattle.world_moves.proofs.EndKindLaws.{is_controller}

-- ---- what is told of calls

-- the judgement of a call, where it was judged
abbrev pub telling_by : ℕ → ℕ → Option Judged → List JudgementTold
telling_by at controller None = []
telling_by at controller (Some how) = record { at = at; controller = controller; how = how } ∷ []

abbrev pub telling : Judging → List JudgementTold
telling j = telling_by j.at j.controller j.how

abbrev pub tellings : List Judging → List JudgementTold
tellings judgings = flat_map telling judgings

abbrev pub telling_if : Option Judging → List JudgementTold
telling_if None = []
telling_if (Some j) = telling j

abbrev pub answered : List Answered → List JudgementTold
answered answers = flat_map (λ (one : Answered). telling_if one.judging) answers

pub judgements_append : (given later : Given) (at : ℕ) → judgements_in (given ++ later) at ≡ judgements_in given at ++ judgements_in later at
judgements_append given later at = flat_map-append (λ (one : EndId × Action). judgement_by one.0 one.1 at) given later

-- ---- actions of a controller

-- what a controller tells by one
abbrev pub told_of : Where → Action → List JudgementTold
told_of w what = judgement_by (Controller w.controller) what w.at

pub told_by : (w : Where) (actions : List Action) → judgements_in (given_by (Controller w.controller) actions) w.at ≡ flat_map (told_of w) actions
told_by w [] = refl
told_by w (what ∷ actions) = ap (λ (rest : List JudgementTold). told_of w what ++ rest) (told_by w actions)

-- ---- the units of a stream

-- what was told is what the calls were judged
abbrev pub Follows : Where → NotedFact
Follows w answers d left = flat_map (told_of w) d.work.actions ≡ answered answers

pub further : (w : Where) (answers : List Answered) (one : Answered) (old new : List Action) → flat_map (told_of w) old ≡ answered answers →
    flat_map (told_of w) new ≡ flat_map (told_of w) old ++ telling_if one.judging → flat_map (told_of w) new ≡ answered (answers ++ one ∷ [])
further w answers one old new follows is =
    is
    ∙ ap (λ (told : List JudgementTold). told ++ telling_if one.judging) follows
    ∙ flat_map_more (λ (one : Answered). telling_if one.judging) [] answers one

pub told_stays : (w : Where) (link : ℕ) → StaysThrough w link w.name w.moment (Follows w)
told_stays w link = record {
  closes = λ answers d left cause follows.
      flat_map-append (told_of w) d.work.actions (action.Close link cause ∷ []) ∙ append-nil (flat_map (told_of w) d.work.actions) ∙ follows;
  waits = λ answers d left follows. further w answers silent d.work.actions d.work.actions follows (sym (append-nil (flat_map (told_of w) d.work.actions)));
  sends = λ answers d left bytes follows.
      let what : List Action = action.Send link bytes ∷ [] in
      further w answers plain d.work.actions (d.work.actions ++ what) follows (flat_map-append (told_of w) d.work.actions what);
  challenge = λ answers d left line c server on follows.
      let its : Replies line d.work (answer_challenge d.table line c server d.work) = challenge_replies d.table line c server d.work in
      further w answers plain d.work.actions (answer_challenge d.table line c server d.work).actions follows
      (ap (flat_map (told_of w)) its.actions ∙ flat_map-append (told_of w) d.work.actions (action.Send line.link its.bytes ∷ []));
  authenticate = λ answers d left line c on follows.
      let its : Replies line d.work (answer_authenticate d.table line c d.work) = authenticate_replies d.table line c d.work in
      further w answers (opening (opened_by w.controller c d) w line.call c.channel) d.work.actions (answer_authenticate d.table line c d.work).actions follows
      (ap (flat_map (told_of w)) its.actions
      ∙ flat_map-append (told_of w) d.work.actions (action.Send line.link its.bytes ∷ [])
      ∙ ap (λ (j : Option Judging). flat_map (told_of w) d.work.actions ++ telling_if j) (sym (opening_judging (opened_by w.controller c d) w line.call c.channel)));
  judged = λ answers d left line c on follows.
      let after : Desk = answer_judged c w.name w.moment line d in
      let j : Judging = judging_of w line c d (Some after) in
      let told : Told line d.work.actions after.work.actions j.checks (given_in c) = told_call c w.name w.moment line d in
      further w answers (judged_answer j) d.work.actions after.work.actions follows
      (ap (flat_map (told_of w)) told.is
      ∙ read_behind (told_of w) (λ text. refl) d.work.actions told.kept told.how line.link told.answer told.are_kept
      ∙ ap (λ (how : Option Judged). flat_map (told_of w) d.work.actions ++ telling_by w.at w.controller how) (sym (how_is d.work.actions after.work.actions j.checks (given_in c) line told))
      ∙ ap (λ (one : Option Judging). flat_map (told_of w) d.work.actions ++ telling_if one) (sym (judged_judging (has_passed j.how) j)));
}

-- ---- only controllers tell judgements

pub others_quiet : (end : EndId) → is_controller end ≡ false → (actions : List Action) (at : ℕ) → judgements_in (given_by end actions) at ≡ []
others_quiet (Controller controller) other actions at = absurd (let never : true ≡ false = other in cc)
others_quiet (Member member) other [] at = refl
others_quiet (Member member) other (what ∷ actions) at = others_quiet (Member member) other actions at
others_quiet (Client client) other [] at = refl
others_quiet (Client client) other (what ∷ actions) at = others_quiet (Client client) other actions at
others_quiet (Station station) other [] at = refl
others_quiet (Station station) other (what ∷ actions) at = others_quiet (Station station) other actions at

-- ---- what is written down as bytes come

pub onto_append : {T : Type 0} (items later older : List T) → onto (items ++ later) older ≡ onto later (onto items older)
onto_append [] later older = refl
onto_append (item ∷ items) later older = onto_append items later (item ∷ older)

onto_one : (how : Option Judged) (at controller : ℕ) (judgings old : List JudgementTold) →
    onto judgings (telling_by at controller how ++ old) ≡ onto (telling_by at controller how ++ judgings) old
onto_one None at controller judgings old = refl
onto_one (Some how) at controller judgings old = refl

pub tellings_onto : (judgings older : List Judging) → tellings (onto judgings older) ≡ onto (tellings judgings) (tellings older)
tellings_onto [] older = refl
tellings_onto (j ∷ judgings) older = tellings_onto judgings (j ∷ older) ∙ onto_one j.how j.at j.controller (tellings judgings) (tellings older)

reply_told : (j : Option Judging) (number : Option ℕ) (later : List Judging) → tellings (with_reply j number ++ later) ≡ telling_if j ++ tellings later
reply_told None number later = refl
reply_told (Some j) number later = refl

pub judged_told : (answers : List Answered) (numbers : List ℕ) → tellings (judged_of answers numbers) ≡ answered answers
judged_told [] numbers = refl
judged_told (one ∷ answers) numbers =
    reply_told one.judging (number_sent one.sends numbers) (judged_of answers (later_of one.sends numbers))
    ∙ ap (λ rest. telling_if one.judging ++ rest) (judged_told answers (later_of one.sends numbers))

-- ---- each is right

pub none_right : (j : Judging) → j.how ≡ None → IsJudgedRight j → ⊥
none_right j is right =
    let none : IsRightOf None j.checks (given_in j.asked) = subst (λ how. IsRightOf how j.checks (given_in j.asked)) is right.right in
    absurd (let told : None ≡ Some judged.NoChannel = none.other.1 (
      (λ next. absurd (let passed : false ≡ true = none.passed.1 next in cc)),
      (λ barred. absurd (let so : None ≡ Some judged.Barred = none.barred.1 barred in cc)),
    ) in cc)

-- what is right of a call judges it
pub right_judges : (how : Judged) (checks : Option SecureChannelState) (shown : Option Authenticator) → IsRightOf (Some how) checks shown → judges_call how ≡ true
right_judges (judged.Passed status) checks shown right = refl
right_judges judged.Forwarded checks shown right = refl
right_judges judged.Barred checks shown right = refl
right_judges judged.NoChannel checks shown right = refl
right_judges (judged.Answered status) checks shown right =
    absurd (let told : Some (judged.Answered status) ≡ Some judged.NoChannel = right.other.1 (
      (λ next. absurd (let passed : false ≡ true = right.passed.1 next in cc)),
      (λ barred. absurd (let so : Some (judged.Answered status) ≡ Some judged.Barred = right.barred.1 barred in cc)),
    ) in cc)

call_first : (how : Judged) (one : JudgementTold) (more : List JudgementTold) → one.how ≡ how → judges_call how ≡ true →
    judgements_of_calls (one ∷ more) ≡ one ∷ judgements_of_calls more
call_first how one more is judges = ap (λ (b : Bool). cond b (one ∷ judgements_of_calls more) (judgements_of_calls more)) (ap judges_call is ∙ judges)

one_rightly : (how : Option Judged) (j : Judging) (more : List JudgementTold) (judgings : List Judging) → j.how ≡ how → IsJudgedRight j → AreRightlyTold more judgings →
    AreRightlyTold (telling_by j.at j.controller how ++ more) (j ∷ judgings)
one_rightly None j more judgings is right rest = absurd (none_right j is right)
one_rightly (Some how) j more judgings is right rest =
    let one : JudgementTold = record { at = j.at; controller = j.controller; how = how } in
    let of : IsRightOf (Some how) j.checks (given_in j.asked) = subst (λ (told : Option Judged). IsRightOf told j.checks (given_in j.asked)) is right.right in
    subst (λ (told : List JudgementTold). AreTheirJudgements told (j ∷ judgings)) (sym (call_first how one more refl (right_judges how j.checks (given_in j.asked) of)))
    (record { at = refl; controller = refl; how = sym is; right = right }, rest)

pub all_rightly : (judgings : List Judging) → AreRight judgings → AreRightlyTold (tellings judgings) judgings
all_rightly [] right = tt
all_rightly (j ∷ judgings) right = one_rightly j.how j (tellings judgings) judgings refl right.0 (all_rightly judgings right.1)
