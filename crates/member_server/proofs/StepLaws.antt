-- How a step stands to its parts.
use Rattle.std.proofs.Common.{◌≡◌, ℕ, ◌+◌, ◌≤◌, IsTrue, List, [], Option, Some, None, Result, Ok, Err, refl, sym, ap, subst, ◌∙◌}
use Rattle.outside.specs.declared.action.Action.{Action}
use Rattle.outside.specs.declared.action.StepRefused.{StepRefused}
use Rattle.outside.specs.declared.action.StepRefused.TheVariants.{Spent, Memory, Stopped}
use Rattle.outside.specs.declared.event.Event.{Event}
use Rattle.outside.specs.Drawing.{Drawing, DrawsSome, IsRest, draws_between}
use Rattle.outside.specs.Machine.{AnswersBy, StepsBy, Takes, left_by, step_by, then_part}
use Rattle.outside.proofs.DrawLaws.{DrawsSome-none, DrawsSome-trans, DrawsSome-between}
use Rattle.outside.proofs.MachineLaws.{AnswersBy-refused, StepsBy-refused}
use Rattle.end_links.specs.Links.{LinkState}
use Rattle.end_links.specs.Serving.{ServedPart, HasRest, talk_in}
use Rattle.member_server.specs.declared.state.AtLink.{AtLink}
use Rattle.channel_turns.specs.declared.state.Dialling.{Dialling}
use Rattle.member_server.specs.declared.state.Running.{Running}
use Rattle.member_server.specs.declared.state.Talk.{Talk}
use Rattle.member_server.specs.declared.state.Work.{Work}
use Rattle.member_server.specs.Machine.{actions_in, after_units, by_event, event_part, halted_state, put_open, state_in, step_of, step_on, work_of}
use Rattle.member_server.specs.State.{State}
use Rattle.member_server.specs.Outcomes.{after_link, keep_link}
use Rattle.member_server.specs.Pending.{pending_by, pending_in, pending_of, Within}
use Rattle.member_server.specs.Rests.{all_left}
use Rattle.member_server.specs.Turns.{DialWork, next_turn}
use Rattle.end_loop.specs.Acts.{is_made, most_made_by}
use Rattle.member_server.proofs.PendingLaws.{settles}
use Rattle.member_server.proofs.TurnLaws.{next_turn_rest}

-- ---- units of an accepted link

kept_is : (open_link : Option (LinkState Talk)) (rest : List ℕ) (number : ℕ) (work : Work) → HasRest open_link rest →
    keep_link (talk_in open_link) rest number work ≡ put_open open_link number work
kept_is None rest number work has = refl
kept_is (Some link) rest number work has = ap (λ (r : List ℕ). keep_link (Some link.talk) r number work) (sym has)

pub units_served : (part : ServedPart AtLink Talk) (at : AtLink) (open_link : Option (LinkState Talk)) (rest : List ℕ) (left : List (List ℕ)) (number : ℕ) (how : Dialling) (work : Work) →
    part ≡ Ok (record { value = (at, talk_in open_link); left = left }) → HasRest open_link rest →
    after_units part rest number how work ≡ Ok (record { value = (put_open open_link number (after_link at work), how); left = left })
units_served part at open_link rest left number how work is has =
    ap (λ p. after_units p rest number how work) is
    ∙ ap (λ (w : Work). Ok (record { value = (w, how); left = left })) (kept_is open_link rest number (after_link at work) has)

units_rest : (part : ServedPart AtLink Talk) (rest : List ℕ) (left : List (List ℕ)) (number : ℕ) (how : Dialling) (work : Work) → IsRest (left_by part) left →
    IsRest (left_by (after_units part rest number how work)) left
units_rest (Err why) rest left number how work is = is
units_rest (Ok part) rest left number how work is = is

pub units_refused : (why : StepRefused) (part : ServedPart AtLink Talk) (rest : List ℕ) (left : List (List ℕ)) (number : ℕ) (how : Dialling) (work : Work) → AnswersBy (Err why) part left →
    AnswersBy (Err why) (after_units part rest number how work) left
units_refused Spent part rest left number how work answer = (ap (λ p. after_units p rest number how work) answer.0, answer.1)
units_refused Memory part rest left number how work answer = units_rest part rest left number how work answer
units_refused Stopped part rest left number how work answer = answer

-- a piece was served, and no memory was found to put the link back
pub units_memory : (part : ServedPart AtLink Talk) (at : AtLink) (talk : Option Talk) (rest : List ℕ) (left : List (List ℕ)) (number : ℕ) (how : Dialling) (work : Work) →
    part ≡ Ok (record { value = (at, talk); left = left }) → IsRest (left_by (after_units part rest number how work)) left
units_memory part at talk rest left number how work is =
    subst (λ p. IsRest (left_by (after_units p rest number how work)) left) (sym is) (all_left left)

pub ruleset serving = (units_served, units_refused, units_memory, all_left, DrawsSome-none)

-- ---- the event, and then the next turn

-- the work begins with no actions
pub event_refused : (why : StepRefused) (running : Running) (what : Event) (now : ℕ) (before left : List (List ℕ)) (actions : List Action) → actions ≡ [] →
    AnswersBy (Err why) (by_event what running.dialling (record { logons = running.logons; links = running.links; actions = actions }) before) left →
    AnswersBy (Err why) (event_part running what now before) left
event_refused why running what now before left actions none answer =
    AnswersBy-refused why (by_event what running.dialling (work_of running) before) (next_turn now) left (next_turn_rest now)
    (subst (λ a. AnswersBy (Err why) (by_event what running.dialling (record { logons = running.logons; links = running.links; actions = a }) before) left) none answer)

pub event_done : (result : Result DialWork StepRefused) (running : Running) (what : Event) (now : ℕ) (before between left : List (List ℕ)) (dial_work : DialWork) →
    by_event what running.dialling (work_of running) before ≡ Ok (record { value = dial_work; left = between }) → AnswersBy result (next_turn now dial_work between) left →
    AnswersBy result (event_part running what now before) left
event_done result running what now before between left dial_work is answer =
    subst (λ p. AnswersBy result (then_part p (next_turn now)) left) (sym is) answer

pub ruleset running = (event_refused, event_done, DrawsSome-none, DrawsSome-trans)

-- ---- a step

pub step_taken : (running : Running) (s new : State) (what : Event) (now : ℕ) (before after : Drawing) (dial_work : DialWork) (actions : List Action) → actions ≡ actions_in dial_work →
    s.running ≡ Some running → new ≡ state_in dial_work → DrawsSome before after → event_part running what now before.left ≡ Ok (record { value = dial_work; left = after.left }) →
    Takes (step_of s what now before.left) new before after actions
step_taken running s new what now before after dial_work actions told runs stays some is =
    subst (λ a. Takes (step_of s what now before.left) new before after a) (sym told)
    (subst (λ n. Takes (step_of s what now before.left) n before after (actions_in dial_work)) (sym stays) (record {
      drawn = draws_between before.left after.left;
      is = ap (λ (r : Option Running). step_on r s what now before.left) runs ∙ ap (step_by actions_in state_in halted_state before.left) is;
      draws = DrawsSome-between before after some;
    }))

pub step_refused : (why : StepRefused) (running : Running) (s new : State) (what : Event) (now : ℕ) (before after : Drawing) → s.running ≡ Some running → new ≡ halted_state →
    DrawsSome before after → AnswersBy (Err why) (event_part running what now before.left) after.left →
    StepsBy (Err why) (step_of s what now before.left) halted_state new before after
step_refused why running s new what now before after runs stops some answer =
    subst (λ n. StepsBy (Err why) (step_of s what now before.left) halted_state n before after) (sym stops)
    (subst (λ (r : Option Running). StepsBy (Err why) (step_on r s what now before.left) halted_state halted_state before after) (sym runs)
    (StepsBy-refused why actions_in state_in halted_state (event_part running what now before.left) before after some answer))

-- the events that a step makes come to an end
pub step_settles : (running : Running) (s new : State) (what : Event) (now : ℕ) (before after : List (List ℕ)) (dial_work : DialWork) (actions : List Action) → actions ≡ actions_in dial_work →
    s.running ≡ Some running → new ≡ state_in dial_work → event_part running what now before ≡ Ok (record { value = dial_work; left = after }) → IsTrue (is_made what) →
    most_made_by actions + pending_in new ≤ pending_in s
step_settles running s new what now before after dial_work actions told runs stays is made =
    subst (λ (a : List Action). most_made_by a + pending_in new ≤ pending_in s) (sym told)
    (subst (λ (n : State). most_made_by (actions_in dial_work) + pending_in n ≤ pending_in s) (sym stays)
    (subst (λ (r : Option Running). most_made_by (actions_in dial_work) + pending_in (state_in dial_work) ≤ pending_by r) (sym runs)
    (subst (λ p. Within p (pending_of running)) is (settles running what now before made))))

pub ruleset stepping = (step_taken, step_refused, step_settles)
