-- Of the calls that a controller judges: none of a stranger sets a secret, and none in a unit of the bag passes twice,
-- where it is so in the last book. It serves `Proved.never_apart`.
use Rattle.std.proofs.Common.{◌≡◌, ◌⊎◌, ℕ, suc, ◌<◌, Bool, true, false, List, [], ◌∷◌, inl, inr, Option, Some, slice_get, refl, ap, subst, ◌∙◌, arith}
use Rattle.std.specs.List.{AllByRecursion}
use Rattle.secret_change.specs.Secrets.{SecretsState}
use Rattle.channel_events.specs.Requests.{Requests}
use Rattle.channel_events.specs.SecretOrder.{IsIn}
use Rattle.step_notes.specs.ControllerNotes.{has_passed}
use Rattle.step_notes.specs.Records.{Book, ChannelAccepted, InUnit, Judging, Outside, Source}
use Rattle.domain_world.specs.Claims.NeverApart.{has_foreign_set, is_foreign_set}
use Rattle.world_moves.specs.declared.moves.Move.{Move}
use Rattle.world_moves.specs.declared.plan.Plan.{Plan}
use Rattle.world_moves.specs.Forms.{IsSchedule}
use Rattle.domain_world.specs.Claims.{IsClear}
use Rattle.domain_world.specs.Past.{onto, past}
use Rattle.domain_world.proofs.Acceptance.AnsweredLaws.{no_twice}
use Rattle.domain_world.proofs.Acceptance.ScheduleLaws.{units_heard}
use Rattle.domain_world.proofs.Acceptance.Turns.TurnNotedLaws.{or_false}
use Rattle.domain_world.proofs.Acceptance.UnitLaws.{heard_in}
use Rattle.domain_world.proofs.Apart.OrderToldLaws.{IsEarlier}
use Rattle.domain_world.proofs.Acceptance.AnsweredRunLaws.{answers_judged}
use Rattle.domain_world.proofs.Apart.TogetherBookLaws.{AllJudgedSo, IsTakenSo, Pairing, is_taken, passed_units, units_if}
use Rattle.domain_world.proofs.Moves.DrawnRunLaws.{draws_differ}
use Rattle.world_moves.specs.Alone.{IsPlainAlone}

-- ---- no call in a unit passes twice

abbrev pub PassOnce : List Judging → Type 0
PassOnce [] = Unit {0}
PassOnce (j ∷ earlier) = ((n : ℕ) → j.source ≡ InUnit n → has_passed j.how ≡ true → IsIn n (passed_units earlier) → ⊥) × PassOnce earlier

-- a call that passed, and came in that unit
pub record IsPassedAt (judged : List Judging) (n : ℕ) : Type 0 where
  pub place : ℕ
  pub call : Judging
  pub there : slice_get judged place ≡ Some call
  pub passed : has_passed call.how ≡ true
  pub came : call.source ≡ InUnit n

first_or_earlier : (passed : Bool) (source : Source) (j : Judging) (earlier : List Judging) (n : ℕ) → has_passed j.how ≡ passed → j.source ≡ source → IsIn n (units_if passed source (passed_units earlier)) →
    ((has_passed j.how ≡ true) × (j.source ≡ InUnit n)) ⊎ IsIn n (passed_units earlier)
first_or_earlier false source j earlier n passed came is = inr is
first_or_earlier true Outside j earlier n passed came is = inr is
first_or_earlier true (InUnit m) j earlier n passed came (inl same) = inl (passed, came ∙ ap InUnit same)
first_or_earlier true (InUnit m) j earlier n passed came (inr is) = inr is

passed_at : (judged : List Judging) (n : ℕ) → IsIn n (passed_units judged) → IsPassedAt judged n
passed_at [] n is = absurd is
passed_at (j ∷ earlier) n is = elim (first_or_earlier (has_passed j.how) j.source j earlier n refl refl is) [
  | inl here ↦ record { place = 0; call = j; there = refl; passed = here.0; came = here.1 }
  | inr later ↦
      let rest : IsPassedAt earlier n = passed_at earlier n later in
      record { place = suc rest.place; call = rest.call; there = rest.there; passed = rest.passed; came = rest.came }
]

-- no call passes twice, said by places
abbrev pub PassesNoTwice : List Judging → Type 0
PassesNoTwice judged =
    (k l : ℕ) (second first : Judging) (unit : ℕ) → k < l → slice_get judged k ≡ Some second → slice_get judged l ≡ Some first → has_passed second.how ≡ true → has_passed first.how ≡ true →
    second.source ≡ InUnit unit → first.source ≡ InUnit unit → ⊥

pub once_by_places : (judged : List Judging) → PassesNoTwice judged → PassOnce judged
once_by_places [] never = tt
once_by_places (j ∷ earlier) never = (
  (λ n came passed is. let first : IsPassedAt earlier n = passed_at earlier n is in never 0 (suc first.place) j first.call n (omega arith) refl first.there passed first.passed came first.came),
  once_by_places earlier (λ k l second first unit before. never (suc k) (suc l) second first unit (omega (arith, before))),
)

once_before : (items older : List Judging) → PassOnce (onto items older) → PassOnce older
once_before [] older once = once
once_before (j ∷ items) older once = (once_before items (j ∷ older) once).1

-- ---- none of a stranger sets a secret

abbrev pub IsNoForeign : Judging → Type 0
IsNoForeign j = is_foreign_set j ≡ false

pub none_foreign : (judged : List Judging) → has_foreign_set judged ≡ false → AllByRecursion IsNoForeign judged
none_foreign [] none = tt
none_foreign (j ∷ earlier) none = let both = or_false (is_foreign_set j) (has_foreign_set earlier) none in (both.0, none_foreign earlier both.1)

pub all_before : (P : Judging → Type 0) (items older : List Judging) → AllByRecursion P (onto items older) → AllByRecursion P older
all_before P [] older all = all
all_before P (j ∷ items) older all = (all_before P items (j ∷ older) all).1

pub all_of_items : (P : Judging → Type 0) (items older : List Judging) → AllByRecursion P (onto items older) → AllByRecursion P items
all_of_items P [] older all = tt
all_of_items P (j ∷ items) older all = ((all_before P items (j ∷ older) all).0, all_of_items P items (j ∷ older) all)

-- ---- what is judged in a step

module _ (p : Pairing) (r : Requests ℕ) (held : SecretsState) (out : Option ℕ) where
  -- what is left to be known: of the calls by which a secret of the account is set
  abbrev pub AllTaken : List ChannelAccepted → List Judging → List Judging → Type 0
  AllTaken accepted [] earlier = Unit {0}
  AllTaken accepted (j ∷ items) earlier =
      ((n : ℕ) → j.source ≡ InUnit n → is_taken p.controller p.place j ≡ true → IsTakenSo p r held out accepted earlier j n) × AllTaken accepted items (j ∷ earlier)

  judged_all : (accepted : List ChannelAccepted) (items earlier : List Judging) → AllByRecursion IsNoForeign items → PassOnce (onto items earlier) → AllTaken accepted items earlier →
      AllJudgedSo p r held out accepted items earlier
  judged_all accepted [] earlier none once taken = tt
  judged_all accepted (j ∷ items) earlier none once taken =
      ((none.0, taken.0, (once_before items (j ∷ earlier) once).0), judged_all accepted items (j ∷ earlier) none.1 once taken.1)

  -- by the last book
  pub judged_by_last : (accepted : List ChannelAccepted) (items earlier : List Judging) (now last : Book) → now.judged ≡ onto items earlier → IsEarlier now last → has_foreign_set last.judged ≡ false →
      PassOnce last.judged → AllTaken accepted items earlier → AllJudgedSo p r held out accepted items earlier
  judged_by_last accepted items earlier now last is to none once taken =
      let all : AllByRecursion IsNoForeign now.judged =
      all_before IsNoForeign to.judgings now.judged (subst (λ (js : List Judging). AllByRecursion IsNoForeign js) to.judged (none_foreign last.judged none)) in
      let passed : PassOnce now.judged = once_before to.judgings now.judged (subst PassOnce to.judged once) in
      judged_all accepted items earlier (all_of_items IsNoForeign items earlier (subst (λ (js : List Judging). AllByRecursion IsNoForeign js) is all)) (subst PassOnce is passed) taken

-- ---- of schedules

pub schedules_pass_once : (plan : Plan) (moves : List Move) → IsPlainAlone plan → IsSchedule plan moves → IsClear (past plan moves).book → PassOnce (past plan moves).book.judged
schedules_pass_once plan moves nobody schedule clear =
    once_by_places (past plan moves).book.judged
    (no_twice (past plan moves) (answers_judged plan moves nobody (draws_differ plan moves)) (heard_in plan moves nobody (units_heard plan moves nobody schedule) (draws_differ plan moves)) clear)
