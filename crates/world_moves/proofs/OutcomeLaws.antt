-- What stays of the clients' and the stations' outcomes in a move, and where it isn't made.
-- It serves `Ends::step_client`, `Ends::give_up`, `World::step` and the parts of a move.
use Rattle.std.proofs.Common.{◌≡◌, ℕ, zero, suc, ◌<◌, ◌≤◌, ◌+◌, ◌⊎◌, inl, inr, Bool, true, false, List, [], ◌∷◌, length, Option, Some, None, IsSome, map, slice_get, slice_set, refl, ap, sym, subst, ◌∙◌, arith, rules}
use Rattle.std.proofs.lemmas.Option.{slice_get_past}
use Rattle.std.proofs.lemmas.List.{length-set}
use Rattle.interactive_station.specs.State.{StationState}
use Rattle.interactive_station.specs.declared.outcome.StationOutcome.{StationOutcome}
use Rattle.logon_client.specs.State.{State as ClientState}
use Rattle.logon_client.specs.Machine.{has_outcome}
use Rattle.logon_client.specs.declared.outcome.ClientOutcome.{ClientOutcome}
use Rattle.world_moves.specs.declared.state.State.{State}
use Rattle.world_moves.specs.Outcomes.{HasNoOtherOutcomes, OutcomesFall, OutcomesStay, has_its_outcome, is_told, kept_if, outcome_at}
use Rattle.world_moves.specs.World.{World, outcome_by, station_outcome_by}

-- ---- in a move

pub stays_same : (old new : List ClientState) → new ≡ old → OutcomesStay old new
stays_same old new same = record { each = λ at outcome was. ap (λ clients. outcome_at clients at) same ∙ was }

pub stays_on : (old mid new : List ClientState) → OutcomesStay old mid → OutcomesStay mid new → OutcomesStay old new
stays_on old mid new first later = record { each = λ at outcome was. later.each at outcome (first.each at outcome was) }

-- a client in its place that keeps its outcome
kept_here : (old new : ClientState) (outcome : ClientOutcome) → (IsSome old.outcome → new.outcome ≡ old.outcome) → old.outcome ≡ Some outcome → new.outcome ≡ Some outcome
kept_here old new outcome stays was = stays (subst IsSome (sym was) (search rules)) ∙ was

set_keeps : (clients : List ClientState) (at : ℕ) (old new : ClientState) → slice_get clients at ≡ Some old → (IsSome old.outcome → new.outcome ≡ old.outcome) →
    (k : ℕ) (outcome : ClientOutcome) → outcome_at clients k ≡ Some outcome → outcome_at (slice_set clients at new) k ≡ Some outcome
set_keeps [] at old new there stays k outcome was = absurd cc
set_keeps (client ∷ clients) zero old new there stays zero outcome was =
    let same : client ≡ old = cc in
    kept_here old new outcome stays (ap (λ (c : ClientState). c.outcome) (sym same) ∙ was)
set_keeps (client ∷ clients) zero old new there stays (suc k) outcome was = was
set_keeps (client ∷ clients) (suc at) old new there stays zero outcome was = was
set_keeps (client ∷ clients) (suc at) old new there stays (suc k) outcome was = set_keeps clients at old new there stays k outcome was

pub stays_set : (clients : List ClientState) (at : ℕ) (old new : ClientState) → slice_get clients at ≡ Some old → (IsSome old.outcome → new.outcome ≡ old.outcome) →
    OutcomesStay clients (slice_set clients at new)
stays_set clients at old new there stays = record { each = set_keeps clients at old new there stays }

-- ---- outcomes that were told

-- what was told of a client is whether it had its outcome
told_at : (clients : List ClientState) (at : ℕ) → is_told (slice_get (map has_its_outcome clients) at) ≡ has_outcome (outcome_at clients at)
told_at [] at = refl
told_at (client ∷ clients) zero = refl
told_at (client ∷ clients) (suc at) = told_at clients at

-- of an outcome that stays that is left which was there
left_of : (old mid : Option ClientOutcome) → ((outcome : ClientOutcome) → old ≡ Some outcome → mid ≡ Some outcome) → kept_if (has_outcome old) mid ≡ old
left_of None mid stays = refl
left_of (Some outcome) mid stays = stays outcome refl

pub fallen : (old mid new : List ClientState) (had : List Bool) → had ≡ map has_its_outcome old → OutcomesStay old mid → OutcomesFall had mid new →
    (at : ℕ) → outcome_at new at ≡ outcome_at old at
fallen old mid new had is stays falls at =
    falls.each at
    ∙ ap (λ (told : List Bool). kept_if (is_told (slice_get told at)) (outcome_at mid at)) is
    ∙ ap (λ told. kept_if told (outcome_at mid at)) (told_at old at)
    ∙ left_of (outcome_at old at) (outcome_at mid at) (stays.each at)

-- ---- one client after another is let go

-- the clients up to that place
pub record FallTo (n : ℕ) (had : List Bool) (old new : List ClientState) : Type 0 where
  pub size : length new ≡ length old
  pub before : (at : ℕ) → at < n → outcome_at new at ≡ kept_if (is_told (slice_get had at)) (outcome_at old at)
  pub behind : (at : ℕ) → n ≤ at → outcome_at new at ≡ outcome_at old at

-- before a place or at it
up_to : (at n : ℕ) → at < n + 1 → (at < n) ⊎ (at ≡ n)
up_to zero zero lt = inr refl
up_to zero (suc n) lt = inl (omega arith)
up_to (suc at) zero lt = absurd (omega (arith, lt))
up_to (suc at) (suc n) lt = elim (up_to at n (omega (arith, lt))) [
  | inl less ↦ inl (omega (arith, less))
  | inr same ↦ inr (ap suc same)
]

at_set : (clients : List ClientState) (at : ℕ) (new : ClientState) → at < length clients → slice_get (slice_set clients at new) at ≡ Some new
at_set [] at new lt = absurd (omega (arith, lt))
at_set (client ∷ clients) zero new lt = refl
at_set (client ∷ clients) (suc at) new lt = at_set clients at new (omega (arith, lt))

at_other : (clients : List ClientState) (at other : ℕ) (new : ClientState) → (other ≡ at → ⊥) → slice_get (slice_set clients at new) other ≡ slice_get clients other
at_other [] at other new apart = refl
at_other (client ∷ clients) zero zero new apart = absurd (apart refl)
at_other (client ∷ clients) zero (suc other) new apart = refl
at_other (client ∷ clients) (suc at) zero new apart = refl
at_other (client ∷ clients) (suc at) (suc other) new apart = at_other clients at other new (λ is. apart (ap suc is))

pub fall_first : (had : List Bool) (clients : List ClientState) → FallTo 0 had clients clients
fall_first had clients = record { size = refl; before = λ at lt. absurd (omega (arith, lt)); behind = λ at le. refl }

pub fall_kept : (n : ℕ) (had : List Bool) (old new : List ClientState) → FallTo n had old new → is_told (slice_get had n) ≡ true → FallTo (n + 1) had old new
fall_kept n had old new falls told = record {
  size = falls.size;
  before = λ at lt. elim (up_to at n lt) [
    | inl less ↦ falls.before at less
    | inr same ↦ falls.behind at (omega (arith, same)) ∙ ap (λ (kept : Bool). kept_if kept (outcome_at old at)) (sym told ∙ ap (λ (k : ℕ). is_told (slice_get had k)) (sym same))
  ];
  behind = λ at le. falls.behind at (omega (arith, le));
}

pub fall_let_go : (n : ℕ) (had : List Bool) (old new : List ClientState) (nobody : ClientState) → n < length new → FallTo n had old new →
    is_told (slice_get had n) ≡ false → nobody.outcome ≡ None → FallTo (n + 1) had old (slice_set new n nobody)
fall_let_go n had old new nobody within falls told none = record {
  size = length-set new n nobody ∙ falls.size;
  before = λ at lt. elim (up_to at n lt) [
    | inl less ↦ ap outcome_by (at_other new n at nobody (λ is. omega (arith, less, is))) ∙ falls.before at less
    | inr same ↦ ap (λ (k : ℕ). outcome_at (slice_set new n nobody) k) same ∙ ap outcome_by (at_set new n nobody within) ∙ none
        ∙ ap (λ (kept : Bool). kept_if kept (outcome_at old at)) (sym told ∙ ap (λ (k : ℕ). is_told (slice_get had k)) (sym same))
  ];
  behind = λ at le. ap outcome_by (at_other new n at nobody (λ is. omega (arith, le, is))) ∙ falls.behind at (omega (arith, le));
}

none_kept : (told : Bool) → kept_if told None ≡ None
none_kept true = refl
none_kept false = refl

place_or_none : (at n : ℕ) → (at < n) ⊎ (n ≤ at)
place_or_none at zero = inr (omega arith)
place_or_none zero (suc n) = inl (omega arith)
place_or_none (suc at) (suc n) = elim (place_or_none at n) [
  | inl less ↦ inl (omega (arith, less))
  | inr past ↦ inr (omega (arith, past))
]

pub fall_all : (n : ℕ) (had : List Bool) (old new : List ClientState) → length old ≤ n → FallTo n had old new → OutcomesFall had old new
fall_all n had old new all falls = record {
  each = λ at. elim (place_or_none at n) [
    | inl less ↦ falls.before at less
    | inr past ↦ falls.behind at past ∙ ap outcome_by (slice_get_past old at (omega (arith, all, past)))
        ∙ sym (ap (λ client. kept_if (is_told (slice_get had at)) (outcome_by client)) (slice_get_past old at (omega (arith, all, past))) ∙ none_kept (is_told (slice_get had at)))
  ];
}

-- ---- stations

-- stations that are let go have no outcome
pub none_other : (old new : World) → new.state.ends.stations ≡ [] → HasNoOtherOutcomes old new
none_other old new none station outcome is =
    absurd (let never : None ≡ Some outcome = sym (ap (λ (stations : List StationState). station_outcome_by (slice_get stations station)) none) ∙ is in cc)

-- the stations' outcomes of the same world are the same
pub same_other : (old new : World) → new.state ≡ old.state → HasNoOtherOutcomes old new
same_other old new same station outcome is =
    sym (ap (λ (s : State). station_outcome_by (slice_get s.ends.stations station)) same) ∙ is
