-- A step of a controller that trusts other domains, by what its event and the next turn come to.
use Rattle.std.proofs.Common.{◌≡◌, ◌+◌, ◌<◌, ◌≤◌, ℕ, Bool, true, false, List, [], ◌∷◌, length, Option, Some, None, Result, Ok, Err, IfOk, IsTrue, slice_get, refl, sym, ap, subst, ◌∙◌, arith}
use Rattle.account_table.proofs.ChangeLaws.{with_changes-none}
use Rattle.account_table.specs.AccountTable.{AccountTable}
use Rattle.account_table.specs.Changes.{with_changes}
use Rattle.account_table.specs.declared.account.Trust.{Trust}
use Rattle.account_table.specs.declared.changes.TableChange.{TableChange}
use Rattle.outside.specs.declared.action.Action.{Action}
use Rattle.outside.specs.declared.event.Event.{Event}
use Rattle.outside.specs.declared.action.StepRefused.{StepRefused}
use Rattle.outside.specs.declared.action.StepRefused.TheVariants.{Spent, Memory, Stopped}
use Rattle.outside.specs.Drawing.{Drawing, DrawsSome, IsRest, draws_between}
use Rattle.outside.specs.Machine.{AnswersBy, Part, Stepped, StepsBy, Takes, left_by, step_by, then_part}
use Rattle.outside.proofs.DrawLaws.{DrawsSome-between, DrawsSome-none, DrawsSome-trans, IsRest-later, IsRest-nothing, IsRest-refl}
use Rattle.outside.proofs.MachineLaws.{AnswersBy-refused, StepsBy-refused, then_part-rest}
use Rattle.end_links.specs.Links.{LinkState}
use Rattle.end_links.specs.Serving.{HasRest, ServedPart, talk_in}
use Rattle.channel_client.specs.Machine.{can_start, needs_challenge}
use Rattle.channel_client.specs.State.{Requester}
use Rattle.channel_turns.specs.Dials.{next_by}
use Rattle.channel_turns.specs.Turning.{dial_part, next_dial}
use Rattle.channel_turns.specs.declared.state.Turning.{Turning}
use Rattle.domain_controller.specs.Forwarding.{TrustDesk, trust_desk}
use Rattle.domain_controller.specs.State.{State}
use Rattle.end_loop.specs.Acts.{is_made, most_made_by}
use Rattle.end_loop.specs.Runs.{actions_of}
use Rattle.domain_controller.specs.Step.{LinkMap, StepPart, by_event, first_desk, halted, step_of}
use Rattle.domain_controller.specs.TrustStep.{TrustPart, TrustParts, after_turned, after_units, at_parts, by_trust_event, event_and_turn, first_waiting, is_idle, link_with, next_if, next_part, next_turn, parts_of, put_open, start_at, start_on, trust_halted, trust_part, trust_pending_in, trust_state_after, trust_step_of, trust_step_on, trusting_after, turning_of}
use Rattle.domain_controller.specs.TrustLaws.{IsWithin}
use Rattle.domain_controller.specs.Trusting.{no_trusting}
use Rattle.domain_controller.specs.declared.trusting.Trusting.{Trusting}
use Rattle.domain_controller.specs.declared.state.Running.{Running}
use Rattle.domain_controller.specs.declared.state.Talk.{Talk}
use Rattle.domain_controller.specs.declared.trusting.Parts.{Parts}
use Rattle.domain_controller.specs.declared.trusting.TrustWork.{TrustWork}
use Rattle.domain_controller.specs.declared.turning.Beside.{Beside}
use Rattle.domain_controller.specs.TurnApart.{beside_of, put_back}
use Rattle.domain_controller.proofs.ForwardLaws.{put_in_place}
use Rattle.domain_controller.proofs.QuietLaws.{closes_nothing}
use Rattle.domain_controller.proofs.TrustAloneLaws.{event_alone, lift, steps_alone}
use Rattle.domain_controller.proofs.TrustSettleLaws.{settles}

-- ---- the units of an accepted link

link_is : (open_link : Option (LinkState Talk)) (rest : List ℕ) (number : ℕ) (parts : Parts) → HasRest open_link rest →
    put_open (link_with rest (talk_in open_link)) number parts ≡ put_open open_link number parts
link_is None rest number parts has = refl
link_is (Some link) rest number parts has = ap (λ (r : List ℕ). put_open (Some (record { rest = r; talk = link.talk })) number parts) (sym has)

abbrev with_served : TrustWork → LinkMap → Parts → Parts
with_served work others parts = record parts { work = work; links = others }

pub units_served : (part : ServedPart TrustDesk Talk) (table : AccountTable) (work : TrustWork) (open_link : Option (LinkState Talk)) (rest : List ℕ) (left : List (List ℕ)) (number : ℕ) (others : LinkMap) (parts after : Parts) →
    part ≡ Ok (record { value = (trust_desk table work, talk_in open_link); left = left }) → HasRest open_link rest → after ≡ put_open open_link number (with_served work others parts) →
    after_units part rest number others parts ≡ Ok (record { value = record { table = table; parts = after }; left = left })
units_served part table work open_link rest left number others parts after is has put =
    ap (λ p. after_units p rest number others parts) is
    ∙ ap (λ (p : Parts). trust_part table p left) (link_is open_link rest number (with_served work others parts) has ∙ sym put)

pub units_refused : (why : StepRefused) (part : ServedPart TrustDesk Talk) (rest : List ℕ) (left : List (List ℕ)) (number : ℕ) (others : LinkMap) (parts : Parts) →
    AnswersBy (Err why) part left → AnswersBy (Err why) (after_units part rest number others parts) left
units_refused why part rest left number others parts answer =
    AnswersBy-refused why part (λ done more. trust_part done.0.table (put_open (link_with rest done.1) number (with_served done.0.work others parts)) more) left (λ done more. IsRest-refl more) answer

-- a piece was served, and no memory was found to put the link back
pub units_memory : (part : ServedPart TrustDesk Talk) (d : TrustDesk) (talk : Option Talk) (rest : List ℕ) (left : List (List ℕ)) (number : ℕ) (others : LinkMap) (parts : Parts) →
    part ≡ Ok (record { value = (d, talk); left = left }) → AnswersBy (Err Memory) (after_units part rest number others parts) left
units_memory part d talk rest left number others parts is =
    subst (λ p. IsRest (left_by (after_units p rest number others parts)) left) (sym is) (IsRest-refl left)

pub ruleset serving = (units_served, units_refused, units_memory, IsRest-refl, DrawsSome-none)

-- ---- the next turn

next_rest : (can needs : Bool) (now : ℕ) (channel : Requester) (left : List (List ℕ)) → IsRest (left_by (next_by can needs now channel left)) left
next_rest false needs now channel left = IsRest-refl left
next_rest true false now channel left = IsRest-refl left
next_rest true true now channel [] = IsRest-nothing []
next_rest true true now channel (challenge ∷ left) = IsRest-later challenge left left (IsRest-refl left)

dial_rest : (now : ℕ) (peer : List ℕ) (turning : Turning) (left : List (List ℕ)) → IsRest (left_by (next_dial now peer turning left)) left
dial_rest now peer turning left =
    let c = turning.channel in
    then_part-rest (next_by (can_start c.turn c.waiting) (needs_challenge c.standing) now c left) (dial_part peer turning) left (λ next more. IsRest-refl more)
    (next_rest (can_start c.turn c.waiting) (needs_challenge c.standing) now c left)

start_rest : (channel : Option Requester) (entry : Option Trust) (trust now : ℕ) (parts : Parts) (left : List (List ℕ)) → IsRest (left_by (start_on channel entry trust now parts left)) left
start_rest None entry trust now parts left = IsRest-refl left
start_rest (Some channel) None trust now parts left = IsRest-refl left
start_rest (Some channel) (Some entry) trust now parts left =
    then_part-rest (next_dial now entry.address (turning_of channel parts) left) (λ turning rest. next_part (after_turned trust (turning, None) parts) rest) left
    (λ turning more. IsRest-refl more) (dial_rest now entry.address (turning_of channel parts) left)

at_rest : (trust : Option ℕ) (trusts : List Trust) (now : ℕ) (parts : Parts) (left : List (List ℕ)) → IsRest (left_by (start_at trust trusts now parts left)) left
at_rest None trusts now parts left = IsRest-refl left
at_rest (Some trust) trusts now parts left = start_rest _ _ trust now parts left

if_rest : (idle : Bool) (trusts : List Trust) (now : ℕ) (parts : Parts) (left : List (List ℕ)) → IsRest (left_by (next_if idle trusts now parts left)) left
if_rest false trusts now parts left = IsRest-refl left
if_rest true trusts now parts left = at_rest (first_waiting parts.work.queues.requesters) trusts now parts left

pub turn_rest : (trusts : List Trust) (now : ℕ) (parts : Parts) (left : List (List ℕ)) → IsRest (left_by (next_turn trusts now parts left)) left
turn_rest trusts now parts left = if_rest (is_idle parts.dialling) trusts now parts left

abbrev unstarted : Parts → List (List ℕ) → Result (Part Parts) StepRefused
unstarted parts left = Ok (record { value = parts; left = left })

pub turn_stays : (trusts : List Trust) (now : ℕ) (parts : Parts) (left : List (List ℕ)) → is_idle parts.dialling ≡ false →
    next_turn trusts now parts left ≡ unstarted parts left
turn_stays trusts now parts left out = ap (λ (idle : Bool). next_if idle trusts now parts left) out

turn_at_first : (trusts : List Trust) (now : ℕ) (parts : Parts) (left : List (List ℕ)) (first : Option ℕ) → is_idle parts.dialling ≡ true →
    first_waiting parts.work.queues.requesters ≡ first → next_turn trusts now parts left ≡ start_at first trusts now parts left
turn_at_first trusts now parts left first idle waits =
    ap (λ (idle : Bool). next_if idle trusts now parts left) idle ∙ ap (λ at. start_at at trusts now parts left) waits

pub none_waits : (trusts : List Trust) (now : ℕ) (parts : Parts) (left : List (List ℕ)) → is_idle parts.dialling ≡ true →
    first_waiting parts.work.queues.requesters ≡ None → next_turn trusts now parts left ≡ unstarted parts left
none_waits trusts now parts left idle none = turn_at_first trusts now parts left None idle none

no_entry : (channel : Option Requester) (trust now : ℕ) (parts : Parts) (left : List (List ℕ)) → start_on channel None trust now parts left ≡ unstarted parts left
no_entry None trust now parts left = refl
no_entry (Some channel) trust now parts left = refl

pub none_trusted : (trusts : List Trust) (trust now : ℕ) (parts : Parts) (left : List (List ℕ)) → is_idle parts.dialling ≡ true →
    first_waiting parts.work.queues.requesters ≡ Some trust → slice_get trusts trust ≡ None → next_turn trusts now parts left ≡ unstarted parts left
none_trusted trusts trust now parts left idle waits none =
    let channel = slice_get parts.work.queues.requesters trust in
    turn_at_first trusts now parts left (Some trust) idle waits
    ∙ ap (λ (entry : Option Trust). start_on channel entry trust now parts left) none ∙ no_entry channel trust now parts left

pub turn_starts : (result : Result Parts StepRefused) (trusts : List Trust) (entry : Trust) (trust now : ℕ) (parts : Parts) (left after : List (List ℕ)) →
    is_idle parts.dialling ≡ true → first_waiting parts.work.queues.requesters ≡ Some trust → slice_get trusts trust ≡ Some entry →
    AnswersBy result (start_on (slice_get parts.work.queues.requesters trust) (Some entry) trust now parts left) after →
    AnswersBy result (next_turn trusts now parts left) after
turn_starts result trusts entry trust now parts left after idle waits is answer =
    let channel = slice_get parts.work.queues.requesters trust in
    subst (λ part. AnswersBy result part after)
    (sym (turn_at_first trusts now parts left (Some trust) idle waits ∙ ap (λ (found : Option Trust). start_on channel found trust now parts left) is)) answer

-- the turn of a channel starts, which was taken out for it

start_is : (entry : Trust) (trust now : ℕ) (parts : Parts) (turning : Turning) (left : List (List ℕ)) →
    slice_get parts.work.queues.requesters trust ≡ Some turning.channel → turning ≡ turning_of turning.channel parts →
    start_on (slice_get parts.work.queues.requesters trust) (Some entry) trust now parts left
    ≡ then_part (next_dial now entry.address turning left) (λ later rest. next_part (after_turned trust (later, None) parts) rest)
start_is entry trust now parts turning left at is =
    ap (λ (channel : Option Requester). start_on channel (Some entry) trust now parts left) at
    ∙ ap (λ (t : Turning). then_part (next_dial now entry.address t left) (λ later rest. next_part (after_turned trust (later, None) parts) rest)) (sym is)

pub start_done : (entry : Trust) (trust now : ℕ) (parts after : Parts) (turning later : Turning) (beside : Beside) (left rest : List (List ℕ)) →
    trust < length parts.work.queues.requesters → slice_get parts.work.queues.requesters trust ≡ Some turning.channel →
    turning ≡ turning_of turning.channel parts → beside ≡ beside_of trust parts →
    next_dial now entry.address turning left ≡ Ok (record { value = later; left = rest }) → after ≡ put_back trust (later, None) beside →
    start_on (slice_get parts.work.queues.requesters trust) (Some entry) trust now parts left ≡ Ok (record { value = after; left = rest })
start_done entry trust now parts after turning later beside left rest lt at is others dials put =
    start_is entry trust now parts turning left at is
    ∙ ap (λ part. then_part part (λ later rest. next_part (after_turned trust (later, None) parts) rest)) dials
    ∙ ap (λ (p : Parts). next_part p rest) (sym (put ∙ ap (λ (b : Beside). put_back trust (later, None) b) others ∙ put_in_place trust (later, None) parts lt))

pub start_refused : (why : StepRefused) (entry : Trust) (trust now : ℕ) (parts : Parts) (turning : Turning) (left rest : List (List ℕ)) →
    slice_get parts.work.queues.requesters trust ≡ Some turning.channel → turning ≡ turning_of turning.channel parts →
    AnswersBy (Err why) (next_dial now entry.address turning left) rest →
    AnswersBy (Err why) (start_on (slice_get parts.work.queues.requesters trust) (Some entry) trust now parts left) rest
start_refused why entry trust now parts turning left rest at is answer =
    subst (λ part. AnswersBy (Err why) part rest) (sym (start_is entry trust now parts turning left at is))
    (AnswersBy-refused why (next_dial now entry.address turning left) (λ later more. next_part (after_turned trust (later, None) parts) more) rest
    (λ later more. IsRest-refl more) answer)

-- a turn started, and no memory was found to put the channel back
pub start_memory : (entry : Trust) (trust now : ℕ) (parts : Parts) (turning later : Turning) (left rest : List (List ℕ)) →
    slice_get parts.work.queues.requesters trust ≡ Some turning.channel → turning ≡ turning_of turning.channel parts →
    next_dial now entry.address turning left ≡ Ok (record { value = later; left = rest }) →
    AnswersBy (Err Memory) (start_on (slice_get parts.work.queues.requesters trust) (Some entry) trust now parts left) rest
start_memory entry trust now parts turning later left rest at is dials =
    subst (λ part. AnswersBy (Err Memory) part rest)
    (sym (start_is entry trust now parts turning left at is
    ∙ ap (λ part. then_part part (λ later more. next_part (after_turned trust (later, None) parts) more)) dials))
    (IsRest-refl rest)

pub ruleset starting = (turn_stays, none_waits, none_trusted, turn_starts, start_done, start_refused, start_memory, DrawsSome-none)

-- ---- the event, and then the next turn

abbrev behind : List Trust → ℕ → TrustParts → List (List ℕ) → TrustPart
behind trusts now after rest = then_part (next_turn trusts now after.parts rest) (λ later last. trust_part after.table later last)

pub event_refused : (why : StepRefused) (trusts : List Trust) (what : Event) (name : List ℕ) (now : ℕ) (table : AccountTable) (parts : Parts) (before left : List (List ℕ)) →
    AnswersBy (Err why) (by_trust_event what name now table parts before) left → AnswersBy (Err why) (event_and_turn trusts what name now table parts before) left
event_refused why trusts what name now table parts before left answer =
    AnswersBy-refused why (by_trust_event what name now table parts before) (λ after rest. behind trusts now after rest) left
    (λ after rest. then_part-rest (next_turn trusts now after.parts rest) (λ later last. trust_part after.table later last) rest (λ later last. IsRest-refl last) (turn_rest trusts now after.parts rest))
    answer

turned : (result : Result Parts StepRefused) (trusts : List Trust) (now : ℕ) (table : AccountTable) (parts : Parts) (between left : List (List ℕ)) →
    AnswersBy result (next_turn trusts now parts between) left → AnswersBy (at_parts table result) (behind trusts now (record { table = table; parts = parts }) between) left
turned (Ok after) trusts now table parts between left answer = ap (λ part. then_part part (λ later last. trust_part table later last)) answer
turned (Err why) trusts now table parts between left answer =
    AnswersBy-refused why (next_turn trusts now parts between) (λ later last. trust_part table later last) left (λ later last. IsRest-refl last) answer

pub event_done : (result : Result Parts StepRefused) (trusts : List Trust) (what : Event) (name : List ℕ) (now : ℕ) (old table : AccountTable) (parts after : Parts) (before between left : List (List ℕ)) →
    by_trust_event what name now old parts before ≡ Ok (record { value = record { table = table; parts = after }; left = between }) →
    AnswersBy result (next_turn trusts now after between) left → AnswersBy (at_parts table result) (event_and_turn trusts what name now old parts before) left
event_done result trusts what name now old table parts after before between left is answer =
    subst (λ p. AnswersBy (at_parts table result) (then_part p (λ after rest. behind trusts now after rest)) left) (sym is) (turned result trusts now table after between left answer)

pub ruleset running = (event_refused, event_done, DrawsSome-none, DrawsSome-trans)

-- ---- a step

abbrev actions_in : TrustParts → List Action
actions_in after = after.parts.work.work.actions

abbrev part_in : State → Running → Event → ℕ → List (List ℕ) → TrustPart
part_in s running what now left = event_and_turn s.table.trusts what s.name now s.table (parts_of running s.trusting) left

pub trust_refused : (why : StepRefused) (running : Running) (s new : State) (what : Event) (now : ℕ) (before after : Drawing) → s.running ≡ Some running → new ≡ trust_halted s →
    DrawsSome before after → AnswersBy (Err why) (part_in s running what now before.left) after.left →
    StepsBy (Err why) (trust_step_of s what now before.left) (trust_halted s) new before after
trust_refused why running s new what now before after runs stops some answer =
    subst (λ n. StepsBy (Err why) (trust_step_of s what now before.left) (trust_halted s) n before after) (sym stops)
    (subst (λ (r : Option Running). StepsBy (Err why) (trust_step_on r s what now before.left) (trust_halted s) (trust_halted s) before after) (sym runs)
    (StepsBy-refused why actions_in (λ after. trust_state_after s after) (trust_halted s) (part_in s running what now before.left) before after some answer))

pub trust_taken : (running : Running) (s new : State) (what : Event) (now : ℕ) (before after : Drawing) (done : TrustParts) (actions : List Action) → actions ≡ actions_in done →
    s.running ≡ Some running → new ≡ trust_state_after s done → DrawsSome before after → part_in s running what now before.left ≡ Ok (record { value = done; left = after.left }) →
    Takes (trust_step_of s what now before.left) new before after actions
trust_taken running s new what now before after done actions told runs stays some is =
    subst (λ a. Takes (trust_step_of s what now before.left) new before after a) (sym told)
    (subst (λ n. Takes (trust_step_of s what now before.left) n before after (actions_in done)) (sym stays) (record {
      drawn = draws_between before.left after.left;
      is = ap (λ (r : Option Running). trust_step_on r s what now before.left) runs
          ∙ ap (step_by actions_in (λ after. trust_state_after s after) (trust_halted s) before.left) is;
      draws = DrawsSome-between before after some;
    }))

-- the events that a step makes come to an end
pub trust_settles : (running : Running) (s new : State) (what : Event) (now : ℕ) (before left : List (List ℕ)) (done : TrustParts) (actions : List Action) → actions ≡ actions_in done →
    new ≡ trust_state_after s done → part_in s running what now before ≡ Ok (record { value = done; left = left }) → IsTrue (is_made what) →
    most_made_by actions + trust_pending_in new ≤ trust_pending_in s
trust_settles running s new what now before left done actions told stays is made =
    subst (λ (a : List Action). most_made_by a + trust_pending_in new ≤ trust_pending_in s) (sym told)
    (subst (λ (n : State). most_made_by (actions_in done) + trust_pending_in n ≤ trust_pending_in s) (sym stays)
    (subst (λ part. IsWithin part (trust_pending_in s)) is (settles s running what now before made)))

-- ---- the accounts have no changes at first

abbrev changed_part : AccountTable → List TableChange → List ℕ → Running → Trusting → Event → ℕ → List (List ℕ) → TrustPart
changed_part table changes name running trusting what now left =
    event_and_turn table.trusts what name now (with_changes changes table) (parts_of running trusting) left

unchanged_part : (table : AccountTable) (changes : List TableChange) (name : List ℕ) (running : Running) (trusting : Trusting) (what : Event) (now : ℕ) (left : List (List ℕ)) → changes ≡ [] →
    changed_part table changes name running trusting what now left ≡ event_and_turn table.trusts what name now table (parts_of running trusting) left
unchanged_part table changes name running trusting what now left none =
    ap (λ (all : List TableChange). changed_part table all name running trusting what now left) none
    ∙ ap (λ (old : AccountTable). event_and_turn table.trusts what name now old (parts_of running trusting) left) (with_changes-none table)

pub run_refused : (why : StepRefused) (table : AccountTable) (changes : List TableChange) (name : List ℕ) (running : Running) (trusting : Trusting) (what : Event) (now : ℕ) (left after : List (List ℕ)) → changes ≡ [] →
    AnswersBy (Err why) (changed_part table changes name running trusting what now left) after →
    AnswersBy (Err why) (event_and_turn table.trusts what name now table (parts_of running trusting) left) after
run_refused why table changes name running trusting what now left after none answer =
    subst (λ part. AnswersBy (Err why) part after) (unchanged_part table changes name running trusting what now left none) answer

pub run_taken : (done : TrustParts) (table : AccountTable) (changes : List TableChange) (name : List ℕ) (running : Running) (trusting : Trusting) (what : Event) (now : ℕ) (left after : List (List ℕ)) → changes ≡ [] →
    changed_part table changes name running trusting what now left ≡ Ok (record { value = done; left = after }) →
    event_and_turn table.trusts what name now table (parts_of running trusting) left ≡ Ok (record { value = done; left = after })
run_taken done table changes name running trusting what now left after none is =
    sym (unchanged_part table changes name running trusting what now left none) ∙ is

pub ruleset committing = (run_refused, run_taken)

-- ---- as `Controller::step` has it: its fields, and the state that they are

abbrev pub kept_as : AccountTable → List ℕ → Option Running → Trusting → State
kept_as table name running trusting = record { table = table; name = name; running = running; trusting = trusting }

-- one that had stopped is as it was
pub halted_before : (table : AccountTable) (name : List ℕ) (held left : Option Running) (kept : Trusting) (s : State) → kept_as table name held kept ≡ s → left ≡ None → kept ≡ no_trusting →
    kept_as table name left kept ≡ trust_halted s
halted_before table name held left kept s view none nothing =
    ap (λ (running : Option Running). kept_as table name running kept) none
    ∙ ap (λ (t : Trusting). kept_as table name None t) nothing ∙ ap trust_halted view

abbrev part_of : AccountTable → List ℕ → Running → Trusting → Event → ℕ → List (List ℕ) → TrustPart
part_of table name running trusting what now left = event_and_turn table.trusts what name now table (parts_of running trusting) left

part_is : (table : AccountTable) (name : List ℕ) (held : Option Running) (running : Running) (trusting kept : Trusting) (s : State) (what : Event) (now : ℕ) (left : List (List ℕ)) →
    kept_as table name held kept ≡ s → trusting ≡ kept → part_in s running what now left ≡ part_of table name running trusting what now left
part_is table name held running trusting kept s what now left view keeps =
    ap (λ (one : State). part_in one running what now left) (sym view)
    ∙ ap (λ (t : Trusting). part_of table name running t what now left) (sym keeps)

abbrev pub done_of : AccountTable → Parts → TrustParts
done_of table parts = record { table = table; parts = parts }

-- what is kept then, and the actions
abbrev pub IsKeptThen : Parts → List Action → Option Running → Trusting → Type 0
IsKeptThen parts actions running trusting =
    (actions ≡ parts.work.work.actions) × (running ≡ Some (record { computers = parts.work.work.computers; links = parts.links })) × (trusting ≡ trusting_after parts)

stays_as : (table new : AccountTable) (name : List ℕ) (held running : Option Running) (kept trusting : Trusting) (parts : Parts) (actions : List Action) (s : State) → kept_as table name held kept ≡ s →
    IsKeptThen parts actions running trusting → kept_as new name running trusting ≡ trust_state_after s (done_of new parts)
stays_as table new name held running kept trusting parts actions s view stands =
    ap (λ (r : Option Running). kept_as new name r trusting) stands.1
    ∙ ap (λ (t : Trusting). kept_as new name (Some (record { computers = parts.work.work.computers; links = parts.links })) t) stands.2
    ∙ ap (λ (one : State). trust_state_after one (done_of new parts)) view

pub taken_by : (table new : AccountTable) (name : List ℕ) (held after_running : Option Running) (running : Running) (trusting kept after_trusting : Trusting) (parts : Parts) (actions : List Action) (s : State) (what : Event) (now : ℕ) (before after : Drawing) →
    kept_as table name held kept ≡ s → held ≡ Some running → trusting ≡ kept → IsKeptThen parts actions after_running after_trusting → DrawsSome before after →
    part_of table name running trusting what now before.left ≡ Ok (record { value = done_of new parts; left = after.left }) →
    Takes (trust_step_of s what now before.left) (kept_as new name after_running after_trusting) before after actions
taken_by table new name held after_running running trusting kept after_trusting parts actions s what now before after view runs keeps stands some is =
    trust_taken running s (kept_as new name after_running after_trusting) what now before after (done_of new parts) actions stands.0
    (ap (λ (one : State). one.running) (sym view) ∙ runs) (stays_as table new name held after_running kept after_trusting parts actions s view stands) some
    (part_is table name held running trusting kept s what now before.left view keeps ∙ is)

pub settled_by : (table new : AccountTable) (name : List ℕ) (held after_running : Option Running) (running : Running) (trusting kept after_trusting : Trusting) (parts : Parts) (actions : List Action) (s : State) (what : Event) (now : ℕ) (before left : List (List ℕ)) →
    kept_as table name held kept ≡ s → trusting ≡ kept → IsKeptThen parts actions after_running after_trusting →
    part_of table name running trusting what now before ≡ Ok (record { value = done_of new parts; left = left }) → IsTrue (is_made what) →
    most_made_by actions + trust_pending_in (kept_as new name after_running after_trusting) ≤ trust_pending_in s
settled_by table new name held after_running running trusting kept after_trusting parts actions s what now before left view keeps stands is made =
    trust_settles running s (kept_as new name after_running after_trusting) what now before left (done_of new parts) actions stands.0
    (stays_as table new name held after_running kept after_trusting parts actions s view stands)
    (part_is table name held running trusting kept s what now before view keeps ∙ is) made

-- ---- of a controller that can ask nobody

pub alone_steps : (result : Result (List Action) StepRefused) (s new : State) (what : Event) (now : ℕ) (before after : Drawing) → s.trusting ≡ no_trusting →
    StepsBy result (trust_step_of s what now before.left) (trust_halted s) new before after → StepsBy result (step_of s what now before.left) (halted s) new before after
alone_steps result s new what now before after nobody steps =
    subst (λ stops. StepsBy result (step_of s what now before.left) stops new before after) (steps_alone.halts s nobody)
    (subst (λ stepped. StepsBy result stepped (trust_halted s) new before after) (steps_alone.step s what now before.left nobody) steps)

pub alone_stays : (result : Result (List Action) StepRefused) (s new : State) (what : Event) (now : ℕ) (before after : Drawing) → s.trusting ≡ no_trusting →
    StepsBy result (trust_step_of s what now before.left) (trust_halted s) new before after → new.trusting ≡ no_trusting
alone_stays (Ok actions) s new what now before after nobody steps =
    sym (ap (λ (stepped : Stepped State). stepped.state.trusting) steps.is) ∙ steps_alone.stays s what now before.left nobody
alone_stays (Err Spent) s new what now before after nobody steps =
    sym (ap (λ (stepped : Stepped State). stepped.state.trusting) steps.is) ∙ steps_alone.stays s what now before.left nobody
alone_stays (Err Memory) s new what now before after nobody steps = ap (λ (n : State). n.trusting) steps.0
alone_stays (Err Stopped) s new what now before after nobody steps =
    sym (ap (λ (stepped : Stepped State). stepped.state.trusting) steps.0) ∙ steps_alone.stays s what now before.left nobody

pub alone_quiet : (result : Result (List Action) StepRefused) (s new : State) (what : Event) (now : ℕ) (before after : Drawing) → s.trusting ≡ no_trusting →
    StepsBy result (trust_step_of s what now before.left) (trust_halted s) new before after → IfOk result (λ actions. is_made what ≡ true → actions ≡ [])
alone_quiet (Ok actions) s new what now before after nobody steps = λ made.
    ap (λ (stepped : Stepped State). actions_of stepped) (sym steps.is ∙ steps_alone.step s what now before.left nobody) ∙ closes_nothing.made s what now before.left made
alone_quiet (Err why) s new what now before after nobody steps = tt

-- where nothing is drawn behind an event, as many are drawn as the event draws
pub few_then : (units : ℕ) (before between after : List (List ℕ)) → length before ≤ length between + units → length between ≤ length after → length before ≤ length after + units
few_then units before between after few none = omega arith

-- ---- of a controller that can ask nobody, no turn starts

abbrev requesters_in : TrustPart → List Requester
requesters_in (Err why) = []
requesters_in (Ok part) = part.value.parts.work.queues.requesters

none_lifted : (part : StepPart) → requesters_in (lift part) ≡ []
none_lifted (Err why) = refl
none_lifted (Ok part) = refl

pub none_asked : (running : Running) (trusting : Trusting) (what : Event) (name : List ℕ) (now : ℕ) (old table : AccountTable) (after : Parts) (before left : List (List ℕ)) →
    trusting ≡ no_trusting → by_trust_event what name now old (parts_of running trusting) before ≡ Ok (record { value = record { table = table; parts = after }; left = left }) →
    after.work.queues.requesters ≡ []
none_asked running trusting what name now old table after before left nobody is =
    sym (ap requesters_in is)
    ∙ ap (λ (t : Trusting). requesters_in (by_trust_event what name now old (parts_of running t) before)) nobody
    ∙ ap requesters_in (event_alone what name now (first_desk old running) running.links before)
    ∙ none_lifted (by_event what name now (first_desk old running) running.links before)

pub nobody_waits : (requesters : List Requester) (trust : ℕ) → requesters ≡ [] → first_waiting requesters ≡ Some trust → ⊥
nobody_waits requesters trust none waits =
    let never : None ≡ Some trust = sym (ap first_waiting none) ∙ waits in
    absurd (let x = never in cc)

pub ruleset alone = (alone_steps, alone_stays, alone_quiet)

pub ruleset stepping = (trust_refused, trust_taken, trust_settles)
