-- A step of any member: how it stands to its parts, and what it keeps to seal. It serves `Member::step` and the laws of
-- members that seal.
use Rattle.std.proofs.Common.{◌≡◌, ℕ, ◌+◌, ◌*◌, ◌≤◌, IsTrue, Bool, true, false, List, [], ◌∷◌, length, replicate, Option, Some, None, IsSome, Result, Ok, Err, refl, sym, ap, subst, ◌∙◌, arith, rules}
use Rattle.outside.specs.declared.action.Action.{Action}
use Rattle.outside.specs.declared.action.Action.TheVariants as action
use Rattle.outside.specs.declared.action.StepRefused.{StepRefused}
use Rattle.outside.specs.declared.action.StepRefused.TheVariants.{Memory}
use Rattle.outside.specs.declared.event.Event.{Event}
use Rattle.outside.specs.declared.event.Event.TheVariants as event
use Rattle.outside.specs.Drawing.{Drawing, DrawsSome, IsRest, draws_between}
use Rattle.outside.specs.Machine.{AnswersBy, Part, Stepped, StepsBy, Takes, left_by, step_by, then_part}
use Rattle.outside.proofs.DrawLaws.{DrawsSome-none, DrawsSome-trans, DrawsSome-between, IsRest-later, IsRest-nothing, IsRest-refl}
use Rattle.outside.proofs.MachineLaws.{AnswersBy-refused, StepsBy-refused}
use Rattle.secret_change.specs.declared.refused.Busy.{Busy}
use Rattle.secret_change.specs.Secrets.{SecretsState, begin_of}
use Rattle.channel_client.specs.Machine.{can_start}
use Rattle.authenticators.specs.Timestamps.{timestamp_of}
use Rattle.channel_client.specs.Sealed.{channel_start, draws_challenge, fresh_channel_of, keep_confounder, sealed_start_by, start_with}
use Rattle.channel_client.specs.Sealing.{is_opened, sealing_for}
use Rattle.channel_client.specs.State.{Requester}
use Rattle.channel_client.specs.declared.state.Pending.{Pending}
use Rattle.channel_client.specs.declared.state.Sealing.{Sealing}
use Rattle.channel_client.specs.declared.state.Waiting.{Waiting}
use Rattle.channel_turns.specs.declared.state.Dialling.{Dialling}
use Rattle.channel_turns.specs.declared.state.Dialling.TheVariants as dialling
use Rattle.channel_turns.specs.declared.state.Turning.{Turning}
use Rattle.channel_turns.specs.SealedTurns.{SealedTurned, next_sealed_by}
use Rattle.channel_turns.specs.Turning.{dial_for, dial_part}
use Rattle.end_loop.specs.Acts.{is_made, most_made_by}
use Rattle.member_server.specs.declared.state.Running.{Running}
use Rattle.member_server.specs.declared.state.TurnSealing.{TurnSealing}
use Rattle.member_server.specs.declared.state.Work.{Work}
use Rattle.member_server.specs.Machine.{actions_in, by_event, caller_of, change_begun, change_on, event_part, halted_state, state_in, step_of, step_on, work_of}
use Rattle.member_server.specs.Pending.{channel_weight, pending_by, pending_in, pending_of, total}
use Rattle.member_server.specs.SealStep.{PlainMembersStay, SealWork, SealingMembersStay, SealsUnlessStopped, actions_of_sealed, after_dial, after_sealed, any_step_of, any_step_on, as_before, beside, by_sealed_event, first_sealing, next_sealed, ready_turning, sealed_part, sealing_by, sealing_in, state_of_sealed, step_with}
use Rattle.member_server.specs.State.{State}
use Rattle.member_server.specs.Turns.{DialWork, ready_channel}
use Rattle.member_server.proofs.PendingLaws.{MakesFew, can_weight, dialled_weight, event_few, made_told}
use Rattle.member_server.proofs.StepFrame.{PartHolds, event_keeps}

-- ---- bytes on the link of the turn

pub heard_done : (part : Result (Part SealedTurned) StepRefused) (work : Work) (turned : SealedTurned) (left : List (List ℕ)) →
    part ≡ Ok (record { value = turned; left = left }) → then_part part (after_sealed work) ≡ after_sealed work turned left
heard_done part work turned left is = ap (λ p. then_part p (after_sealed work)) is

pub heard_refused : (why : StepRefused) (part : Result (Part SealedTurned) StepRefused) (work : Work) (left : List (List ℕ)) →
    AnswersBy (Err why) part left → AnswersBy (Err why) (then_part part (after_sealed work)) left
heard_refused why part work left answer = AnswersBy-refused why part (after_sealed work) left (λ turned left. IsRest-refl left) answer

-- what was heard is done, and then no memory was found
pub heard_memory : (part : Result (Part SealedTurned) StepRefused) (work : Work) (turned : SealedTurned) (left : List (List ℕ)) →
    part ≡ Ok (record { value = turned; left = left }) → AnswersBy (Err Memory) (then_part part (after_sealed work)) left
heard_memory part work turned left is = subst (λ p. IsRest (left_by p) left) (sym (heard_done part work turned left is)) (IsRest-refl left)

pub ruleset hearing = (heard_done, heard_refused, heard_memory, DrawsSome-none)

pub before_done : (part : Result (Part DialWork) StepRefused) (sealed : Bool) (dial_work : DialWork) (left : List (List ℕ)) →
    part ≡ Ok (record { value = dial_work; left = left }) → then_part part (beside sealed) ≡ beside sealed dial_work left
before_done part sealed dial_work left is = ap (λ p. then_part p (beside sealed)) is

pub before_refused : (why : StepRefused) (part : Result (Part DialWork) StepRefused) (sealed : Bool) (left : List (List ℕ)) →
    AnswersBy (Err why) part left → AnswersBy (Err why) (then_part part (beside sealed)) left
before_refused why part sealed left answer = AnswersBy-refused why part (beside sealed) left (λ dial_work left. IsRest-refl left) answer

pub ruleset going = (before_done, before_refused, DrawsSome-none)

-- ---- the next turn

pub dial_done : (part : Result (Part Turning) StepRefused) (work : Work) (sealed : Bool) (turning : Turning) (left : List (List ℕ)) →
    part ≡ Ok (record { value = turning; left = left }) → then_part part (after_dial work sealed) ≡ after_dial work sealed turning left
dial_done part work sealed turning left is = ap (λ p. then_part p (after_dial work sealed)) is

pub dial_refused : (why : StepRefused) (part : Result (Part Turning) StepRefused) (work : Work) (sealed : Bool) (left : List (List ℕ)) →
    AnswersBy (Err why) part left → AnswersBy (Err why) (then_part part (after_dial work sealed)) left
dial_refused why part work sealed left answer = AnswersBy-refused why part (after_dial work sealed) left (λ turning left. IsRest-refl left) answer

pub ruleset dialling_next = (dial_done, dial_refused)

next_rest_by : (starts draws : Bool) (now : ℕ) (channel : Requester) (peer : List ℕ) (turning : Turning) (work : Work) (sealed : Bool) (left : List (List ℕ)) →
    IsRest (left_by (then_part (then_part (next_sealed_by starts draws now channel left) (dial_part peer turning)) (after_dial work sealed))) left
next_rest_by false draws now channel peer turning work sealed left = IsRest-refl left
next_rest_by true false now channel peer turning work sealed left = IsRest-refl left
next_rest_by true true now channel peer turning work sealed [] = IsRest-nothing []
next_rest_by true true now channel peer turning work sealed (challenge ∷ left) = IsRest-later challenge left left (IsRest-refl left)

-- the next turn leaves a rest
pub next_rest : (now : ℕ) (work : SealWork) (left : List (List ℕ)) → IsRest (left_by (next_sealed now work left)) left
next_rest now work left =
    next_rest_by _ _ now (ready_channel work.0.0) work.0.0.logons.plan.controller (ready_turning work.0) work.0.0 work.1 left

-- ---- the event, and then the next turn

-- the work begins with no actions
pub event_refused : (why : StepRefused) (running : Running) (sealed : Bool) (what : Event) (now : ℕ) (before left : List (List ℕ)) (actions : List Action) → actions ≡ [] →
    AnswersBy (Err why) (by_sealed_event what running.dialling (record { logons = running.logons; links = running.links; actions = actions }) sealed before) left →
    AnswersBy (Err why) (sealed_part running sealed what now before) left
event_refused why running sealed what now before left actions none answer =
    AnswersBy-refused why (by_sealed_event what running.dialling (work_of running) sealed before) (next_sealed now) left (next_rest now)
    (subst (λ a. AnswersBy (Err why) (by_sealed_event what running.dialling (record { logons = running.logons; links = running.links; actions = a }) sealed before) left) none answer)

pub event_done : (result : Result SealWork StepRefused) (running : Running) (sealed : Bool) (what : Event) (now : ℕ) (before between left : List (List ℕ)) (work : SealWork) →
    by_sealed_event what running.dialling (work_of running) sealed before ≡ Ok (record { value = work; left = between }) → AnswersBy result (next_sealed now work between) left →
    AnswersBy result (sealed_part running sealed what now before) left
event_done result running sealed what now before between left work is answer =
    subst (λ p. AnswersBy result (then_part p (next_sealed now)) left) (sym is) answer

pub ruleset running = (event_refused, event_done, DrawsSome-none, DrawsSome-trans)

-- ---- the events that a step makes come to an end

-- no more is to be made than so much
abbrev FewAfter : ℕ → Result (Part SealWork) StepRefused → Type 0
FewAfter most (Err why) = Unit {0}
FewAfter most (Ok part) = total part.value.0 ≤ most

-- a turn that starts weighs as the logons that wait
sealed_weight : (turn : Option Pending) (logons : List Waiting) (g : Sealing) (c : Requester) (timestamp : ℕ) (challenge : List ℕ) → can_start turn logons ≡ true →
    channel_weight (keep_confounder g (is_opened c.standing) challenge (sealed_start_by turn logons g.bind_value c timestamp challenge)).state ≡ 2 * length c.waiting
sealed_weight (Some p) logons g c timestamp challenge can = absurd (let x = can in cc)
sealed_weight None [] g c timestamp challenge can = absurd (let x = can in cc)
sealed_weight None (logon ∷ logons) g c timestamp challenge can = omega arith

start_weight_is : (sealing : Option Sealing) (c : Requester) (timestamp : ℕ) (challenge : List ℕ) → can_start c.turn c.waiting ≡ true →
    channel_weight (start_with sealing c timestamp challenge).state ≡ 2 * length c.waiting
start_weight_is None c timestamp challenge can = dialled_weight c.turn c.waiting c timestamp challenge can
start_weight_is (Some g) c timestamp challenge can = sealed_weight c.turn c.waiting g c timestamp challenge can

module _ (most : ℕ) (work : Work) (how : Dialling) (sealed : Bool) (few : total (work, how) ≤ most) where
  abbrev peer : List ℕ
  peer = work.logons.plan.controller

  abbrev turning : Turning
  turning = ready_turning (work, how)

  dial_few : (start : Option (Unit {0} × List (List ℕ))) (c : Requester) (left : List (List ℕ)) → channel_weight c + 2 ≤ channel_weight work.logons.channel →
      FewAfter most (after_dial work sealed (dial_for start peer (record turning { channel = c })) left)
  dial_few None c left less = omega (arith, few, less)
  dial_few (Some start) c left less = omega (arith, few, less, made_told work.actions (action.Dial peer))

  less_weight : (c : Requester) (timestamp : ℕ) (challenge : List ℕ) → can_start c.turn c.waiting ≡ true → channel_weight c ≡ channel_weight work.logons.channel →
      channel_weight (channel_start c timestamp challenge).state + 2 ≤ channel_weight work.logons.channel
  less_weight c timestamp challenge can same = omega (arith, same, can_weight c true can, start_weight_is c.sealing c timestamp challenge can)

  next_few_by : (starts draws : Bool) (now : ℕ) (c : Requester) (left : List (List ℕ)) → can_start c.turn c.waiting ≡ starts → channel_weight c ≡ channel_weight work.logons.channel →
      FewAfter most (then_part (then_part (next_sealed_by starts draws now c left) (dial_part peer turning)) (after_dial work sealed))
  next_few_by false draws now c left can same = omega (arith, few, same)
  next_few_by true false now c left can same =
      dial_few (channel_start c (timestamp_of now) (replicate 8 0)).answer (channel_start c (timestamp_of now) (replicate 8 0)).state left
      (less_weight c (timestamp_of now) (replicate 8 0) can same)
  next_few_by true true now c [] can same = tt
  next_few_by true true now c (challenge ∷ left) can same =
      dial_few (channel_start c (timestamp_of now) challenge).answer (channel_start c (timestamp_of now) challenge).state left
      (less_weight c (timestamp_of now) challenge can same)

  next_few : (now : ℕ) (left : List (List ℕ)) → FewAfter most (next_sealed now ((work, how), sealed) left)
  next_few now left =
      let c : Requester = ready_channel work in
      next_few_by (can_start c.turn c.waiting) (draws_challenge c.sealing c.standing) now c left refl refl

then_few : (most now : ℕ) (part : Result (Part SealWork) StepRefused) → FewAfter most part → FewAfter most (then_part part (next_sealed now))
then_few most now (Err why) few = tt
then_few most now (Ok part) few = next_few most part.value.0.0 part.value.0.1 part.value.1 few now part.left

beside_few : (most : ℕ) (sealed : Bool) (part : Result (Part DialWork) StepRefused) → PartHolds (MakesFew most) part → FewAfter most (then_part part (beside sealed))
beside_few most sealed (Err why) few = tt
beside_few most sealed (Ok part) few = few

as_before_few : (most : ℕ) (what : Event) (how : Dialling) (work : Work) (sealed : Bool) (left : List (List ℕ)) → is_made what ≡ true → total (work, how) ≤ most →
    FewAfter most (as_before what how work sealed left)
as_before_few most what how work sealed left made few =
    beside_few most sealed (by_event what how work left) (event_keeps (MakesFew most) (MakesFew most) what (event_few most what made) how work left few)

sealed_event_few : (most : ℕ) (what : Event) (how : Dialling) (work : Work) (sealed : Bool) (left : List (List ℕ)) → is_made what ≡ true → total (work, how) ≤ most →
    FewAfter most (by_sealed_event what how work sealed left)
sealed_event_few most (event.Bytes link piece) how work sealed left made few = absurd (let x = made in cc)
sealed_event_few most (event.Opened link) how work sealed left made few = as_before_few most (event.Opened link) how work sealed left made few
sealed_event_few most (event.Closed link) how work sealed left made few = as_before_few most (event.Closed link) how work sealed left made few
sealed_event_few most (event.Dialled link) how work sealed left made few = as_before_few most (event.Dialled link) how work sealed left made few
sealed_event_few most event.DialFailed how work sealed left made few = as_before_few most event.DialFailed how work sealed left made few
sealed_event_few most event.Stop how work sealed left made few = as_before_few most event.Stop how work sealed left made few

part_few : (running : Running) (sealed : Bool) (what : Event) (now : ℕ) (left : List (List ℕ)) → is_made what ≡ true →
    FewAfter (pending_of running) (sealed_part running sealed what now left)
part_few running sealed what now left made =
    then_few (pending_of running) now (by_sealed_event what running.dialling (work_of running) sealed left)
    (sealed_event_few (pending_of running) what running.dialling (work_of running) sealed left made (omega arith))

-- ---- a step

pub step_taken : (running : Running) (sealing : TurnSealing) (s new : State) (what : Event) (now : ℕ) (before after : Drawing) (work : SealWork) (actions : List Action) →
    actions ≡ actions_of_sealed work → s.running ≡ Some running → running.sealing ≡ Some sealing → new ≡ state_of_sealed work → DrawsSome before after →
    sealed_part running sealing.is_link_sealed what now before.left ≡ Ok (record { value = work; left = after.left }) →
    Takes (any_step_of s what now before.left) new before after actions
step_taken running sealing s new what now before after work actions told runs seals stays some is =
    subst (λ a. Takes (any_step_of s what now before.left) new before after a) (sym told)
    (subst (λ n. Takes (any_step_of s what now before.left) n before after (actions_of_sealed work)) (sym stays) (record {
      drawn = draws_between before.left after.left;
      is = ap (λ (r : Option Running). any_step_on r s what now before.left) runs
          ∙ ap (λ (g : Option TurnSealing). step_with g running s what now before.left) seals
          ∙ ap (step_by actions_of_sealed state_of_sealed halted_state before.left) is;
      draws = DrawsSome-between before after some;
    }))

pub step_refused : (why : StepRefused) (running : Running) (sealing : TurnSealing) (s new : State) (what : Event) (now : ℕ) (before after : Drawing) → s.running ≡ Some running →
    running.sealing ≡ Some sealing → new ≡ halted_state → DrawsSome before after →
    AnswersBy (Err why) (sealed_part running sealing.is_link_sealed what now before.left) after.left →
    StepsBy (Err why) (any_step_of s what now before.left) halted_state new before after
step_refused why running sealing s new what now before after runs seals stops some answer =
    subst (λ n. StepsBy (Err why) (any_step_of s what now before.left) halted_state n before after) (sym stops)
    (subst (λ (r : Option Running). StepsBy (Err why) (any_step_on r s what now before.left) halted_state halted_state before after) (sym runs)
    (subst (λ (g : Option TurnSealing). StepsBy (Err why) (step_with g running s what now before.left) halted_state halted_state before after) (sym seals)
    (StepsBy-refused why actions_of_sealed state_of_sealed halted_state (sealed_part running sealing.is_link_sealed what now before.left) before after some answer)))

-- the events that a step makes come to an end
pub step_settles : (running : Running) (sealing : TurnSealing) (s new : State) (what : Event) (now : ℕ) (before after : List (List ℕ)) (work : SealWork) (actions : List Action) →
    actions ≡ actions_of_sealed work → s.running ≡ Some running → new ≡ state_of_sealed work →
    sealed_part running sealing.is_link_sealed what now before ≡ Ok (record { value = work; left = after }) → IsTrue (is_made what) →
    most_made_by actions + pending_in new ≤ pending_in s
step_settles running sealing s new what now before after work actions told runs stays is made =
    subst (λ (a : List Action). most_made_by a + pending_in new ≤ pending_in s) (sym told)
    (subst (λ (n : State). most_made_by (actions_of_sealed work) + pending_in n ≤ pending_in s) (sym stays)
    (subst (λ (r : Option Running). most_made_by (actions_of_sealed work) + pending_in (state_of_sealed work) ≤ pending_by r) (sym runs)
    (subst (λ p. FewAfter (pending_of running) p) is (part_few running sealing.is_link_sealed what now before made))))

pub ruleset stepping = (step_taken, step_refused, step_settles)

-- ---- a member that seals nothing

plain_on : (r : Option Running) (s : State) (what : Event) (now : ℕ) (left : List (List ℕ)) → sealing_by r ≡ None → any_step_on r s what now left ≡ step_on r s what now left
plain_on None s what now left none = refl
plain_on (Some running) s what now left none = ap (λ (g : Option TurnSealing). step_with g running s what now left) none

plain_part : (part : Result (Part DialWork) StepRefused) (left : List (List ℕ)) → sealing_in (step_by actions_in state_in halted_state left part).state ≡ None
plain_part (Err why) left = refl
plain_part (Ok part) left = refl

plain_stepped : (r : Option Running) (s : State) (what : Event) (now : ℕ) (left : List (List ℕ)) → sealing_in s ≡ None → sealing_in (step_on r s what now left).state ≡ None
plain_stepped None s what now left none = none
plain_stepped (Some running) s what now left none = plain_part (event_part running what now left) left

begun_seals : (begun : Result (Unit {0}) Busy) (secrets : SecretsState) (running : Running) (s : State) → s.running ≡ Some running →
    sealing_in (change_begun begun secrets running s).state ≡ running.sealing
begun_seals (Ok done) secrets running s runs = refl
begun_seals (Err busy) secrets running s runs = ap sealing_by runs

change_seals : (r : Option Running) (s : State) (new : List ℕ) → s.running ≡ r → sealing_in (change_on r s new).state ≡ sealing_by r
change_seals None s new runs = ap sealing_by runs
change_seals (Some running) s new runs =
    begun_seals (begin_of running.logons.plan.secrets new).answer (begin_of running.logons.plan.secrets new).secrets running s runs

pub plain_members_stay : PlainMembersStay
plain_members_stay = record {
  made = λ plan is. ap (λ (seals : Bool). record {
    running = Some (record {
      logons = record { plan = plan; channel = fresh_channel_of (sealing_for seals plan.domain plan.computer) (caller_of plan); asked = [] };
      links = [];
      dialling = dialling.Nothing;
      sealing = first_sealing seals;
    });
  }) is;
  step = λ s what now left none. plain_on s.running s what now left none;
  fresh = λ plan. refl;
  stepped = λ s what now left none. plain_stepped s.running s what now left none;
  changed = λ s new. change_seals s.running s new refl;
}

-- what a step answers where nothing seals
pub plain_answer : (result : Result (List Action) StepRefused) (s new : State) (what : Event) (now : ℕ) (before after : Drawing) → sealing_in s ≡ None →
    StepsBy result (step_of s what now before.left) halted_state new before after → StepsBy result (any_step_of s what now before.left) halted_state new before after
plain_answer result s new what now before after none steps =
    subst (λ (stepped : Stepped State). StepsBy result stepped halted_state new before after) (sym (plain_members_stay.step s what now before.left none)) steps

pub ruleset going_on = (plain_answer)

-- ---- a member that seals

seals_part : (part : Result (Part SealWork) StepRefused) (left : List (List ℕ)) → SealsUnlessStopped (step_by actions_of_sealed state_of_sealed halted_state left part).state.running
seals_part (Err why) left = tt
seals_part (Ok part) left = search rules

seals_with : (g : Option TurnSealing) (running : Running) (s : State) (what : Event) (now : ℕ) (left : List (List ℕ)) → IsSome g →
    SealsUnlessStopped (step_with g running s what now left).state.running
seals_with None running s what now left some = absurd (let x = some in cc)
seals_with (Some sealing) running s what now left some = seals_part (sealed_part running sealing.is_link_sealed what now left) left

seals_stepped : (r : Option Running) (s : State) (what : Event) (now : ℕ) (left : List (List ℕ)) → SealsUnlessStopped s.running → SealsUnlessStopped r →
    SealsUnlessStopped (any_step_on r s what now left).state.running
seals_stepped None s what now left was seals = was
seals_stepped (Some running) s what now left was seals = seals_with running.sealing running s what now left seals

pub sealing_members_stay : SealingMembersStay
sealing_members_stay = record {
  made = λ plan is. subst (λ (seals : Bool). IsSome (first_sealing seals)) (sym is) (search rules);
  stepped = λ s what now left seals. seals_stepped s.running s what now left seals seals;
}
