-- In every run of a plain plan each controller handed on as many calls at least as came out or wait there yet. It
-- serves `Proved.alone`.
use Rattle.std.proofs.Common.{◌≡◌, ◌≤◌, ℕ, ◌+◌, ◌==◌, Bool, true, false, List, [], ◌∷◌, ◌++◌, length, Option, Some, None, Ok, Err, slice_get, slice_set, refl, sym, ap, ◌∙◌, subst, arith}
use Rattle.std.proofs.lemmas.Bool.{false_from_ne_true}
use Rattle.std.proofs.lemmas.Bool.Decides.{Decides-eqb}
use Rattle.outside.specs.Machine.{Stepped, step_by}
use Rattle.outside.specs.declared.action.Action.{Action}
use Rattle.outside.specs.declared.action.Action.TheVariants as action
use Rattle.outside.specs.declared.action.Judged.{Judged}
use Rattle.outside.specs.declared.event.Event.{Event}
use Rattle.outside.specs.declared.event.Event.TheVariants as event
use Rattle.end_loop.specs.Runs.{actions_of}
use Rattle.domain_controller.specs.State.{State as ControllerState}
use Rattle.domain_controller.specs.TrustLaws.{answers_judged, told_answers}
use Rattle.domain_controller.specs.TrustOrder.{AreCounted, told_forwards}
use Rattle.domain_controller.specs.TrustStep.{TrustPart, TrustParts, trust_halted, trust_state_after, trust_step_of, trust_step_on, trust_step_part}
use Rattle.domain_controller.specs.declared.state.Running.{Running}
use Rattle.domain_controller.proofs.TrustCountLaws.{each_is_answered}
use Rattle.domain_controller.proofs.TrustPlaceLaws.{got_other}
use Rattle.domain_controller.proofs.TurnOutLaws.{got_set}
use Rattle.step_notes.specs.MemberNotes.{turn_units}
use Rattle.step_notes.specs.Records.{Book, JudgementTold, OfMember}
use Rattle.world_moves.specs.declared.links.EndId.{EndId}
use Rattle.world_moves.specs.declared.links.EndId.TheVariants.{Controller, Member, Client}
use Rattle.world_moves.specs.declared.moves.Move.{Move}
use Rattle.world_moves.specs.declared.plan.Plan.{Plan}
use Rattle.world_moves.specs.declared.state.State.{State}
use Rattle.world_moves.specs.Acting.{Given, given_by}
use Rattle.world_moves.specs.Ends.{EndStates, EndStep, actions_by, client_step, fresh_controller}
use Rattle.world_moves.specs.Links.{acceptor_of}
use Rattle.world_moves.specs.Moving.{begun, changed, with_link}
use Rattle.world_moves.specs.Plain.{IsPlainPlan, hear_plain as hear, plain_member_step as member_step, plain_world}
use Rattle.world_moves.proofs.ChangeLaws.{by_change}
use Rattle.world_moves.proofs.PlainKindLaws.{plain_by as end_by, renew_plain_by as renew_by}
use Rattle.domain_world.specs.Claims.{TellsOfForwards, counts_by, handed_count, told_count, waiting_count}
use Rattle.domain_world.specs.Past.{Delivery, judgements_in, note_at, note_messages, onto, past}
use Rattle.domain_world.proofs.Frames.AloneStepLaws.{fresh_by}
use Rattle.domain_world.proofs.Frames.EndFrameLaws.{EndFact, KeepsEndsBy, every_ends_after}
use Rattle.domain_world.proofs.Frames.EveryStepLaws.{act_plain as hear_and_act, every_book}
use Rattle.domain_world.proofs.Frames.MoveKeepLaws.{every}
use Rattle.domain_world.proofs.Frames.TurnFrameLaws.{asked_leave}
use Rattle.domain_world.proofs.Judgements.Openings.OpeningRunLaws.{each_fresh}
use Rattle.domain_world.proofs.Judgements.ToldLaws.{judgements_append, others_quiet}

-- ---- a step of a controller

abbrev waiting_in : ControllerState → ℕ
waiting_in c = length c.trusting.queues.forwarded

-- the calls that wait after a step, and those that it told to come out, are no more than those that waited before, and
-- those that it told to be handed on
abbrev Counts : ControllerState → Stepped ControllerState → Type 0
Counts c stepped = waiting_in stepped.state + told_answers (actions_by stepped.answer) ≤ waiting_in c + told_forwards (actions_by stepped.answer)

part_counts : (part : TrustPart) (c : ControllerState) (left : List (List ℕ)) →
    let stepped : Stepped ControllerState = step_by (λ (after : TrustParts). after.parts.work.work.actions) (λ after. trust_state_after c after) (trust_halted c) left part in
    AreCounted c.trusting (actions_of stepped) stepped.state.running stepped.state.trusting → Counts c stepped
part_counts (Err why) c left counted = omega arith
part_counts (Ok part) c left counted = omega (arith, counted)

on_counts : (found : Option Running) (c : ControllerState) (what : Event) (now : ℕ) (left : List (List ℕ)) →
    let stepped : Stepped ControllerState = trust_step_on found c what now left in
    AreCounted c.trusting (actions_of stepped) stepped.state.running stepped.state.trusting → Counts c stepped
on_counts None c what now left counted = omega arith
on_counts (Some running) c what now left counted = part_counts (trust_step_part running c what now left) c left counted

step_counts : (c : ControllerState) (what : Event) (now : ℕ) (left : List (List ℕ)) → Counts c (trust_step_of c what now left)
step_counts c what now left = on_counts c.running c what now left (each_is_answered.step c what now left)

-- ---- what is told of calls

itself : (k : ℕ) → (k == k) ≡ true
itself k = (Decides-eqb k k).1 refl

own_answers : (k at : ℕ) (actions : List Action) → told_count answers_judged k (judgements_in (given_by (Controller k) actions) at) ≡ told_answers actions
own_answers k at [] = refl
own_answers k at (action.Keep bytes ∷ actions) = omega (arith, own_answers k at actions)
own_answers k at (action.Send link bytes ∷ actions) = omega (arith, own_answers k at actions)
own_answers k at (action.Dial peer ∷ actions) = omega (arith, own_answers k at actions)
own_answers k at (action.Close link cause ∷ actions) = omega (arith, own_answers k at actions)
own_answers k at (action.Told link outcome ∷ actions) = omega (arith, own_answers k at actions)
own_answers k at (action.Judged how ∷ actions) =
    let rest : ℕ = told_count answers_judged k (judgements_in (given_by (Controller k) actions) at) in
    ap (λ (its : Bool). counts_by its (answers_judged how) + rest) (itself k) ∙ ap (λ (n : ℕ). answers_judged how + n) (own_answers k at actions)

own_forwards : (k at : ℕ) (actions : List Action) → told_count handed_count k (judgements_in (given_by (Controller k) actions) at) ≡ told_forwards actions
own_forwards k at [] = refl
own_forwards k at (action.Keep bytes ∷ actions) = omega (arith, own_forwards k at actions)
own_forwards k at (action.Send link bytes ∷ actions) = omega (arith, own_forwards k at actions)
own_forwards k at (action.Dial peer ∷ actions) = omega (arith, own_forwards k at actions)
own_forwards k at (action.Close link cause ∷ actions) = omega (arith, own_forwards k at actions)
own_forwards k at (action.Told link outcome ∷ actions) = omega (arith, own_forwards k at actions)
own_forwards k at (action.Judged how ∷ actions) =
    let rest : ℕ = told_count handed_count k (judgements_in (given_by (Controller k) actions) at) in
    ap (λ (its : Bool). counts_by its (handed_count how) + rest) (itself k) ∙ ap (λ (n : ℕ). handed_count how + n) (own_forwards k at actions)

-- what another controller tells counts nothing
none_of_other : (counts : Judged → ℕ) (k other at : ℕ) → (other == k) ≡ false → (actions : List Action) → told_count counts k (judgements_in (given_by (Controller other) actions) at) ≡ 0
none_of_other counts k other at not [] = refl
none_of_other counts k other at not (action.Keep bytes ∷ actions) = none_of_other counts k other at not actions
none_of_other counts k other at not (action.Send link bytes ∷ actions) = none_of_other counts k other at not actions
none_of_other counts k other at not (action.Dial peer ∷ actions) = none_of_other counts k other at not actions
none_of_other counts k other at not (action.Close link cause ∷ actions) = none_of_other counts k other at not actions
none_of_other counts k other at not (action.Told link outcome ∷ actions) = none_of_other counts k other at not actions
none_of_other counts k other at not (action.Judged how ∷ actions) =
    let rest : ℕ = told_count counts k (judgements_in (given_by (Controller other) actions) at) in
    let none : rest ≡ 0 = none_of_other counts k other at not actions in
    ap (λ (its : Bool). counts_by its (counts how) + rest) not ∙ (let e : 0 + rest ≡ 0 = omega (arith, none) in e)

count_append : (counts : Judged → ℕ) (k : ℕ) (one two : List JudgementTold) → told_count counts k (one ++ two) ≡ told_count counts k one + told_count counts k two
count_append counts k [] two = omega arith
count_append counts k (what ∷ one) two = omega (arith, count_append counts k one two)

count_onto : (counts : Judged → ℕ) (k : ℕ) (new old : List JudgementTold) → told_count counts k (onto new old) ≡ told_count counts k new + told_count counts k old
count_onto counts k [] old = omega arith
count_onto counts k (what ∷ new) old = omega (arith, count_onto counts k new (what ∷ old))

-- ---- through the moves

-- at each controller as many calls at least were told to be handed on, in the move so far and before, as were told to
-- come out or wait
abbrev AreCountedSo : (at : ℕ) (given : Given) (told : List JudgementTold) (controllers : List ControllerState) → Type 0
AreCountedSo at given told controllers =
    (k : ℕ) →
    told_count answers_judged k (judgements_in given at) + told_count answers_judged k told + waiting_count (slice_get controllers k)
    ≤ told_count handed_count k (judgements_in given at) + told_count handed_count k told

count_given : (counts : Judged → ℕ) (k at : ℕ) (given more : Given) →
    told_count counts k (judgements_in (given ++ more) at) ≡ told_count counts k (judgements_in given at) + told_count counts k (judgements_in more at)
count_given counts k at given more =
    ap (λ (all : List JudgementTold). told_count counts k all) (judgements_append given more at)
    ∙ count_append counts k (judgements_in given at) (judgements_in more at)

-- the calls of controller `k` that come out in what is given more, and those that wait then, are no more than those
-- that are handed on in it, and those that waited
abbrev CountsMore : (at : ℕ) (more : Given) (old new : List ControllerState) (k : ℕ) → Type 0
CountsMore at more old new k =
    told_count answers_judged k (judgements_in more at) + waiting_count (slice_get new k)
    ≤ told_count handed_count k (judgements_in more at) + waiting_count (slice_get old k)

more_counted : (at : ℕ) (given more : Given) (told : List JudgementTold) (old new : List ControllerState) → AreCountedSo at given told old → ((k : ℕ) → CountsMore at more old new k) →
    AreCountedSo at (given ++ more) told new
more_counted at given more told old new counted each k =
    omega (arith, count_given answers_judged k at given more, count_given handed_count k at given more, counted k, each k)

-- `CountsMore` holds where nothing is told, and controllers stay
none_counted : (at : ℕ) (more : Given) (controllers : List ControllerState) → judgements_in more at ≡ [] → (k : ℕ) → CountsMore at more controllers controllers k
none_counted at more controllers none k =
    omega (
      arith,
      ap (λ (all : List JudgementTold). told_count answers_judged k all) none,
      ap (λ (all : List JudgementTold). told_count handed_count k all) none,
    )

same_number : (a k : ℕ) → (k == a) ≡ true → a ≡ k
same_number a k is = sym ((Decides-eqb k a).0 is)

other_number : (a k : ℕ) → (k == a) ≡ false → (a == k) ≡ false
other_number a k not = false_from_ne_true (a == k) (λ is.
    let here : (k == a) ≡ true = (Decides-eqb k a).1 (sym ((Decides-eqb a k).0 is)) in
    let never : false ≡ true = sym not ∙ here in cc)

-- `CountsMore` holds where one controller took a step
stepped_at : (same : Bool) (at : ℕ) (controllers : List ControllerState) (a : ℕ) (c : ControllerState) (stepped : Stepped ControllerState) (k : ℕ) → (k == a) ≡ same →
    slice_get controllers a ≡ Some c → Counts c stepped →
    CountsMore at (given_by (Controller a) (actions_by stepped.answer)) controllers (slice_set controllers a stepped.state) k
stepped_at true at controllers a c stepped k same is counts =
    let actions : List Action = actions_by stepped.answer in
    subst (λ (n : ℕ). CountsMore at (given_by (Controller a) actions) controllers (slice_set controllers a stepped.state) n) (same_number a k same)
    (omega (
      arith,
      counts,
      own_answers a at actions,
      own_forwards a at actions,
      ap waiting_count (got_set controllers a c stepped.state is),
      ap waiting_count is,
    ))
stepped_at false at controllers a c stepped k same is counts =
    let actions : List Action = actions_by stepped.answer in
    omega (
      arith,
      none_of_other answers_judged k a at (other_number a k same) actions,
      none_of_other handed_count k a at (other_number a k same) actions,
      ap waiting_count (got_other controllers a k stepped.state same),
    )

end_counted : (at : ℕ) (end : EndId) (what : Event) (s : State) (given : Given) (told : List JudgementTold) → AreCountedSo at given told s.ends.controllers →
    AreCountedSo at (given ++ given_by end (hear end what s).actions) told (hear end what s).state.ends.controllers
end_counted at end what s given told counted =
    end_by (λ (one : EndId) (step : EndStep). AreCountedSo at (given ++ given_by one step.actions) told step.ends.controllers) what s.moment s.ends s.chances
    (λ one. more_counted at given [] told s.ends.controllers s.ends.controllers counted (none_counted at [] s.ends.controllers refl))
    (λ a c is.
    let stepped : Stepped ControllerState = trust_step_of c what s.moment s.chances.left in
    more_counted at given (given_by (Controller a) (actions_by stepped.answer)) told s.ends.controllers (slice_set s.ends.controllers a stepped.state) counted
    (λ k. stepped_at (k == a) at s.ends.controllers a c stepped k refl is (step_counts c what s.moment s.chances.left)))
    (λ k m is.
    let actions : List Action = (member_step (Some m) k what s.moment s.ends s.chances).actions in
    more_counted at given (given_by (Member k) actions) told s.ends.controllers s.ends.controllers counted
    (none_counted at (given_by (Member k) actions) s.ends.controllers (others_quiet (Member k) refl actions at)))
    (λ k c is.
    let actions : List Action = (client_step (Some c) k what s.moment s.ends s.chances).actions in
    more_counted at given (given_by (Client k) actions) told s.ends.controllers s.ends.controllers counted
    (none_counted at (given_by (Client k) actions) s.ends.controllers (others_quiet (Client k) refl actions at))) end

bytes_judgements : (end : EndId) (w : Delivery) (piece : List ℕ) (s after : State) (b : Book) → (note_at (Some end) w piece s after b).judgements ≡ b.judgements
bytes_judgements end w piece s after b =
    every_book (λ (one : EndId) (now : Book). now.judgements ≡ b.judgements) w piece s after b (λ one. refl) (λ k c is. refl)
    (λ k m is.
    asked_leave (OfMember k) w (turn_units m w.link piece s.moment s.chances.left) s after (note_messages k m w piece s b) (λ (book : Book). book.judgements)
    (λ note served unit number old. refl)) (λ k c is. refl) end

-- at a controller that is made anew no call waits
fresh_none : (hands_on : Bool) (c : ControllerState) → waiting_in (fresh_controller hands_on false c.table c.name) ≡ 0
fresh_none hands_on c = fresh_by (λ (new : ControllerState). waiting_in new ≡ 0) c.table c.name refl refl hands_on

anew_at : (same : Bool) (at : ℕ) (controllers : List ControllerState) (a : ℕ) (c new : ControllerState) (k : ℕ) → (k == a) ≡ same → slice_get controllers a ≡ Some c → waiting_in new ≡ 0 →
    CountsMore at [] controllers (slice_set controllers a new) k
anew_at true at controllers a c new k same is none =
    subst (λ (n : ℕ). CountsMore at [] controllers (slice_set controllers a new) n) (same_number a k same)
    (omega (arith, none, ap waiting_count (got_set controllers a c new is)))
anew_at false at controllers a c new k same is none = omega (arith, ap waiting_count (got_other controllers a k new same))

abbrev CountedSoFar : EndFact
CountedSoFar at on ends given b = AreCountedSo at given b.judgements ends.ends.controllers

counted_keeps : KeepsEndsBy every CountedSoFar
counted_keeps = record {
  calm = λ at on end what s given b none counted. end_counted at end what s given b.judgements counted;
  dialled = λ at end link s given b side counted. end_counted at end (event.Dialled link) s given b.judgements counted;
  opens = λ at route s given b counted. end_counted at (acceptor_of route) (event.Opened (length s.links)) (with_link route s) given b.judgements counted;
  begins = λ at client plan s b is counted.
      let more : Given = given_by (Client client) (begun client plan s).actions in
      more_counted at [] more b.judgements s.ends.controllers s.ends.controllers counted
      (none_counted at more s.ends.controllers (others_quiet (Client client) refl (begun client plan s).actions at));
  comes = λ end w piece s given b side came counted.
      let what : Event = event.Bytes w.link piece in
      subst (λ (told : List JudgementTold). AreCountedSo w.at (given ++ given_by end (hear end what s).actions) told (hear end what s).state.ends.controllers)
      (sym (bytes_judgements end w piece s (hear_and_act end what s).state b)) (end_counted w.at end what s given b.judgements counted);
  renews = λ at end s b counted.
      renew_by (λ (one : EndId) (ends : EndStates). AreCountedSo at [] b.judgements ends.controllers) s (λ one. counted)
      (λ a c is.
      let new : ControllerState = fresh_controller s.hands_on false c.table c.name in
      more_counted at [] [] b.judgements s.ends.controllers (slice_set s.ends.controllers a new) counted
      (λ k. anew_at (k == a) at s.ends.controllers a c new k refl is (fresh_none s.hands_on c))) (λ k plan is. counted) (λ k plan is. counted) end;
  changes = λ at member secret s b counted.
      let more : Given = given_by (Member member) (changed member secret s).actions in
      by_change (λ (ends : EndStates) (actions : List Action). AreCountedSo at more b.judgements ends.controllers) member secret s.ends
      (more_counted at [] more b.judgements s.ends.controllers s.ends.controllers counted
      (none_counted at more s.ends.controllers (others_quiet (Member member) refl (changed member secret s).actions at)))
      (λ running is none. more_counted at [] more b.judgements s.ends.controllers s.ends.controllers counted
      (none_counted at more s.ends.controllers (others_quiet (Member member) refl (changed member secret s).actions at)));
  over = λ at on next s given b counted. λ k.
      omega (
        arith,
        counted k,
        count_onto answers_judged k (judgements_in given at) b.judgements,
        count_onto handed_count k (judgements_in given at) b.judgements,
      );
}

-- no call is counted as waiting where no controller is found, or none waits at the one that is
none_waits : (found : Option ControllerState) → ((c : ControllerState) → found ≡ Some c → waiting_in c ≡ 0) → waiting_count found ≡ 0
none_waits None each = refl
none_waits (Some c) each = each c refl

first_counted : (plan : Plan) (on : Option Delivery) → AreCountedSo 0 [] [] (plain_world plan).state.ends.controllers
first_counted plan on k =
    omega (
      arith,
      none_waits (slice_get (plain_world plan).state.ends.controllers k)
          (λ c is. each_fresh (λ (one : ControllerState). waiting_in one ≡ 0) (λ table name. refl) (λ table name. refl) plan.hands_on plan.tables plan.controllers k c is),
    )

-- the counts hold after every run of a plain plan
pub tells_of_forwards : (plan : Plan) (moves : List Move) → IsPlainPlan plan → TellsOfForwards (past plan moves)
tells_of_forwards plan moves nothing k =
    let counted : AreCountedSo (past plan moves).world.moves [] (past plan moves).book.judgements (past plan moves).world.state.ends.controllers =
    every_ends_after CountedSoFar counted_keeps plan moves nothing (λ on. first_counted plan on) in
    omega (arith, counted k)
