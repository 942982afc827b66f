-- Of a unit that the member takes: what is known of each, so that what is left to be known is what its call sets, and
-- what a reply to one says. It serves `Proved.never_apart`.
use Rattle.std.proofs.Common.{◌≡◌, ◌⊎◌, ℕ, ◌+◌, ◌*◌, ◌<◌, ◌≤◌, Bool, true, false, List, [], ◌∷◌, length, inl, inr, Some, Result, Ok, Err, slice_get, refl, sym, ap, subst, ◌∙◌, arith}
use Rattle.std.specs.List.{AllByRecursion}
use Rattle.std.proofs.lemmas.List.{length-map}
use Rattle.outside.specs.Machine.{Part}
use Rattle.outside.specs.declared.action.StepRefused.{StepRefused}
use Rattle.outside.specs.declared.event.Event.TheVariants as event
use Rattle.channel_client.specs.Machine.{hear, take_of}
use Rattle.channel_events.specs.SecretOrder.{IsIn}
use Rattle.member_server.specs.Machine.{event_part}
use Rattle.member_server.specs.Turns.{DialWork}
use Rattle.member_server.specs.declared.state.Running.{Running}
use Rattle.step_notes.specs.MemberNotes.{taking_note}
use Rattle.step_notes.specs.Records.{Book, InUnit, Judging, Outside, Sent, Source}
use Rattle.world_moves.specs.declared.bag.BagUnit.{BagUnit}
use Rattle.world_moves.specs.declared.state.State.{State}
use Rattle.world_moves.specs.Acting.{Given}
use Rattle.domain_world.specs.Accepting.SeenSteps.{Differ}
use Rattle.domain_world.specs.Past.{Delivery}
use Rattle.domain_world.proofs.Acceptance.Heard.JudgedUnitLaws.{IsCarriedCall, IsJudgedWell}
use Rattle.domain_world.proofs.Apart.OrderToldLaws.{within}
use Rattle.domain_world.proofs.Apart.TogetherBookLaws.{Pairing, is_taken, taken_units, units_if}
use Rattle.domain_world.proofs.Apart.TogetherFrameLaws.{HasHelp, OwnKnown, marks_of_step}
use Rattle.domain_world.proofs.Apart.TogetherMemberLaws.{KnownIf, SetFits}
use Rattle.domain_world.proofs.Apart.TogetherStayLaws.{basis_of}
use Rattle.domain_world.proofs.Apart.TogetherTakeLaws.{CarriesAsks}
use Rattle.domain_world.proofs.Apart.TogetherTurnLaws.{TurnStands}
use Rattle.domain_world.proofs.Moves.MarkPlaceLaws.{got_beside}
use Rattle.domain_world.proofs.Calls.CallComesLaws.{IsWhole}
use Rattle.domain_world.proofs.Calls.CallHoldsLaws.{mark_there, marks_in, views_at}
use Rattle.domain_world.proofs.Calls.CallStepLaws.{most_steps}

-- ---- units by which a secret was set are in the bag

first_or_earlier : (hit : Bool) (source : Source) (j : Judging) (units : List ℕ) (n : ℕ) → j.source ≡ source → IsIn n (units_if hit source units) → (j.source ≡ InUnit n) ⊎ IsIn n units
first_or_earlier false source j units n came is = inr is
first_or_earlier true Outside j units n came is = inr is
first_or_earlier true (InUnit m) j units n came (inl same) = inl (came ∙ ap InUnit same)
first_or_earlier true (InUnit m) j units n came (inr is) = inr is

taken_there : (bag : List BagUnit) (controller place : ℕ) (judged : List Judging) (n : ℕ) → AllByRecursion (IsJudgedWell bag) judged → IsIn n (taken_units controller place judged) →
    (u : BagUnit) × (slice_get bag n ≡ Some u)
taken_there bag controller place [] n well is = absurd is
taken_there bag controller place (j ∷ earlier) n well is =
    elim (first_or_earlier (is_taken controller place j) j.source j (taken_units controller place earlier) n refl is) [
      | inl here ↦ let call : IsCarriedCall bag j.number j.asked n = well.0.carried n here in (call.carrier, call.there)
      | inr later ↦ taken_there bag controller place earlier n well.1 later
    ]

pub taken_below : (s : State) (b : Book) (controller place : ℕ) (n : ℕ) → length b.sent ≡ length s.bag → AllByRecursion (IsJudgedWell s.bag) b.judged → IsIn n (taken_units controller place b.judged) →
    n < length (marks_in b.sent)
taken_below s b controller place n even well is =
    let unit = taken_there s.bag controller place b.judged n well is in
    let sent : (x : Sent) × (slice_get b.sent n ≡ Some x) = got_beside s.bag b.sent n unit.0 (sym even) unit.1 in
    let below : n < length b.sent = within b.sent n sent.0.mark (mark_there b.sent n sent.0 sent.1) in
    subst (λ (count : ℕ). n < count) (sym (length-map b.sent (λ (one : Sent). one.mark))) below

-- ---- a unit that is taken

-- what is left to be known of a unit that a member takes
pub record LeftKnown (p : Pairing) (n : ℕ) (w : Delivery) (piece : List ℕ) (s after : State) (b : Book) (running : Running) (whole : IsWhole w.link piece running) : Type 0 where
  -- what the member's call sets
  pub carries : CarriesAsks (basis_of p (views_at s.member_plans s.ends) b) (marks_in b.sent) (marks_of_step p p.who (record { running = Some running }) w piece s after) running.logons.channel
      running.logons.plan.secrets s.chances.drawn (2 * n) (taking_note (Some (take_of running.logons.channel whole.unit)) p.controller running.logons.channel).called
  -- what the reply to a call that sets a secret says
  pub set : SetFits (basis_of p (views_at s.member_plans s.ends) b) (marks_in b.sent) running.logons.channel (hear running.logons.channel.turn whole.unit running.logons.channel.next_call)

known_if : (part : Result (Part DialWork) StepRefused) (A B : Type 0) → (A → B) → KnownIf part A → KnownIf part B
known_if (Err why) A B so known = tt
known_if (Ok part) A B so known = so known

pub own_known : (p : Pairing) (n : ℕ) (w : Delivery) (piece : List ℕ) (s after : State) (given : Given) (b : Book) (running : Running) (whole : IsWhole w.link piece running) →
    slice_get s.ends.members p.who ≡ Some (record { running = Some running }) → length b.sent ≡ length s.bag → HasHelp p n [] s given b → AllByRecursion (IsJudgedWell s.bag) b.judged → n + 1 ≤ most_steps →
    Differ s.chances.drawn →
    (TurnStands (basis_of p (views_at s.member_plans s.ends) b) (marks_in b.sent) s.chances.drawn (2 * n) running.logons.channel running.logons.plan.secrets →
    KnownIf (event_part running (event.Bytes w.link piece) s.moment s.chances.left) (LeftKnown p n w piece s after b running whole)) → OwnKnown p n w piece s after b running whole
own_known p n w piece s after given b running whole is even help well few differ left stands =
    known_if (event_part running (event.Bytes w.link piece) s.moment s.chances.left) (LeftKnown p n w piece s after b running whole) _
    (λ known. record {
      tries = help.tries p.who (record { running = Some running }) is;
      named = help.named (omega (arith, few)) differ running is;
      took = λ unit taken. taken_below s b p.controller p.place unit even well taken;
      carries = known.carries;
      set = known.set;
    }) (left stands)
