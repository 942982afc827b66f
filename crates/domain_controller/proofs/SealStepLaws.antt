-- The units of an accepted link, and a step, at a controller that can seal. It serves the calls of `seal_links` and
-- `seal_step`, and `Controller::step_sealing`.
use Rattle.std.proofs.Common.{◌≡◌, ◌+◌, ◌≤◌, ℕ, List, [], length, IsTrue, arith, Option, Some, None, Ok, Err, refl, sym, ap, subst, ◌∙◌}
use Rattle.account_table.proofs.ChangeLaws.{with_changes-none}
use Rattle.account_table.specs.AccountTable.{AccountTable}
use Rattle.account_table.specs.Changes.{with_changes}
use Rattle.account_table.specs.declared.account.Trust.{Trust}
use Rattle.account_table.specs.declared.changes.TableChange.{TableChange}
use Rattle.outside.specs.declared.action.Action.{Action}
use Rattle.outside.specs.declared.action.StepRefused.{StepRefused}
use Rattle.outside.specs.declared.action.StepRefused.TheVariants.{Memory}
use Rattle.outside.specs.Drawing.{Drawing, DrawsSome, IsRest, draws_between}
use Rattle.outside.specs.declared.event.Event.{Event}
use Rattle.outside.specs.Machine.{AnswersBy, StepsBy, Takes, left_by, step_by, then_part}
use Rattle.outside.proofs.DrawLaws.{DrawsSome-between, DrawsSome-none, DrawsSome-trans, IsRest-refl}
use Rattle.outside.proofs.MachineLaws.{AnswersBy-refused, StepsBy-refused, then_part-rest}
use Rattle.end_links.specs.Links.{LinkState}
use Rattle.end_links.specs.Serving.{HasRest, ServedPart, talk_in}
use Rattle.domain_controller.specs.Forwarding.{trust_desk}
use Rattle.domain_controller.specs.SealServing.{SealDesk, seal_desk}
use Rattle.domain_controller.specs.SealStep.{SealParts, SealStepPart, asked_in, by_seal_event, seal_after_units, seal_event_and_turn, seal_pending_in, seal_put_open, seal_state_after, seal_step_on, sealing_with}
use Rattle.domain_controller.specs.State.{State}
use Rattle.domain_controller.specs.Step.{LinkMap}
use Rattle.domain_controller.specs.TrustStep.{link_with, next_turn, parts_of, put_open, trust_halted, trust_pending_in, trusting_after, trusting_weight}
use Rattle.domain_controller.specs.declared.state.Running.{Running}
use Rattle.domain_controller.specs.declared.sealed.Sealing.{Sealing}
use Rattle.domain_controller.specs.declared.state.Talk.{Talk}
use Rattle.domain_controller.specs.declared.trusting.Parts.{Parts}
use Rattle.domain_controller.specs.declared.trusting.TrustWork.{TrustWork}
use Rattle.domain_controller.specs.declared.trusting.Trusting.{Trusting}
use Rattle.end_loop.specs.Acts.{is_made, most_made_by}
use Rattle.domain_controller.proofs.SealSettleLaws.{SealWithin, settles}
use Rattle.domain_controller.proofs.TrustStepLaws.{kept_as, turn_rest}

link_is : (open_link : Option (LinkState Talk)) (rest : List ℕ) (number : ℕ) (d : SealDesk) (others : LinkMap) (parts : Parts) → HasRest open_link rest →
    seal_put_open (link_with rest (talk_in open_link)) number d others parts ≡ seal_put_open open_link number d others parts
link_is None rest number d others parts has = refl
link_is (Some link) rest number d others parts has =
    ap (λ (r : List ℕ). seal_put_open (Some (record { rest = r; talk = link.talk })) number d others parts) (sym has)

abbrev whole : AccountTable → Parts × Sealing → List (List ℕ) → SealStepPart
whole table done left = Ok (record { value = record { rest = record { table = table; parts = done.0 }; sealing = Some done.1 }; left = left })

abbrev with_served : TrustWork → LinkMap → Parts → Parts
with_served work others parts = record parts { work = work; links = others }

pub units_served : (part : ServedPart SealDesk Talk) (table : AccountTable) (work : TrustWork) (s : Sealing) (open_link : Option (LinkState Talk)) (rest : List ℕ) (left : List (List ℕ)) (number : ℕ) (others : LinkMap) (parts : Parts) (after : Parts × Sealing) →
    part ≡ Ok (record { value = (seal_desk (trust_desk table work) s, talk_in open_link); left = left }) → HasRest open_link rest →
    after.0 ≡ put_open open_link number (with_served work others parts) → Some after.1 ≡ sealing_with open_link number (Some s) →
    seal_after_units part rest number others parts ≡ whole table after left
units_served part table work s open_link rest left number others parts after is has put seals =
    ap (λ p. seal_after_units p rest number others parts) is
    ∙ ap (λ (p : SealParts). Ok (record { value = p; left = left })) (link_is open_link rest number (seal_desk (trust_desk table work) s) others parts has)
    ∙ ap (λ (p : Parts). Ok (record { value = record { rest = record { table = table; parts = p }; sealing = sealing_with open_link number (Some s) }; left = left })) (sym put)
    ∙ ap (λ (o : Option Sealing). Ok (record { value = record { rest = record { table = table; parts = after.0 }; sealing = o }; left = left })) (sym seals)

pub units_refused : (why : StepRefused) (part : ServedPart SealDesk Talk) (rest : List ℕ) (left : List (List ℕ)) (number : ℕ) (others : LinkMap) (parts : Parts) →
    AnswersBy (Err why) part left → AnswersBy (Err why) (seal_after_units part rest number others parts) left
units_refused why part rest left number others parts answer =
    AnswersBy-refused why part (λ done more. Ok (record { value = seal_put_open (link_with rest done.1) number done.0 others parts; left = more })) left (λ done more. IsRest-refl more) answer

-- a piece was served, and no memory was found to put the link back
pub units_memory : (part : ServedPart SealDesk Talk) (d : SealDesk) (talk : Option Talk) (rest : List ℕ) (left : List (List ℕ)) (number : ℕ) (others : LinkMap) (parts : Parts) →
    part ≡ Ok (record { value = (d, talk); left = left }) → AnswersBy (Err Memory) (seal_after_units part rest number others parts) left
units_memory part d talk rest left number others parts is =
    subst (λ p. IsRest (left_by (seal_after_units p rest number others parts)) left) (sym is) (IsRest-refl left)

pub ruleset serving = (units_served, units_refused, units_memory, IsRest-refl, DrawsSome-none)

-- ---- the event, and then the next turn

abbrev behind : List Trust → ℕ → SealParts → List (List ℕ) → SealStepPart
behind trusts now after rest = then_part (next_turn trusts now after.rest.parts rest) (λ later last. Ok (record {
  value = record { rest = record { table = after.rest.table; parts = later }; sealing = after.sealing };
  left = last;
}))

pub event_refused : (why : StepRefused) (trusts : List Trust) (what : Event) (name : List ℕ) (now : ℕ) (table : AccountTable) (parts : Parts) (s : Sealing) (before left : List (List ℕ)) →
    AnswersBy (Err why) (by_seal_event what name now table parts s before) left → AnswersBy (Err why) (seal_event_and_turn trusts what name now table parts s before) left
event_refused why trusts what name now table parts s before left answer =
    AnswersBy-refused why (by_seal_event what name now table parts s before) (λ after rest. behind trusts now after rest) left
    (λ after rest. then_part-rest (next_turn trusts now after.rest.parts rest)
    (λ later last. Ok (record { value = record { rest = record { table = after.rest.table; parts = later }; sealing = after.sealing }; left = last })) rest
    (λ later last. IsRest-refl last) (turn_rest trusts now after.rest.parts rest))
    answer

pub event_done : (trusts : List Trust) (what : Event) (name : List ℕ) (now : ℕ) (old table : AccountTable) (parts after later : Parts) (s sealed : Sealing) (before between left : List (List ℕ)) →
    by_seal_event what name now old parts s before ≡ whole table (after, sealed) between →
    next_turn trusts now after between ≡ Ok (record { value = later; left = left }) →
    seal_event_and_turn trusts what name now old parts s before ≡ whole table (later, sealed) left
event_done trusts what name now old table parts after later s sealed before between left is turns =
    ap (λ p. then_part p (λ done rest. behind trusts now done rest)) is
    ∙ ap (λ p. then_part p (λ (one : Parts) last. whole table (one, sealed) last)) turns

pub turn_refused : (why : StepRefused) (trusts : List Trust) (what : Event) (name : List ℕ) (now : ℕ) (old table : AccountTable) (parts after : Parts) (s sealed : Sealing) (before between left : List (List ℕ)) →
    by_seal_event what name now old parts s before ≡ whole table (after, sealed) between →
    AnswersBy (Err why) (next_turn trusts now after between) left →
    AnswersBy (Err why) (seal_event_and_turn trusts what name now old parts s before) left
turn_refused why trusts what name now old table parts after s sealed before between left is answer =
    subst (λ p. AnswersBy (Err why) (then_part p (λ done rest. behind trusts now done rest)) left) (sym is)
    (AnswersBy-refused why (next_turn trusts now after between) (λ (one : Parts) last. whole table (one, sealed) last) left (λ one last. IsRest-refl last) answer)

pub ruleset running = (event_refused, event_done, turn_refused, DrawsSome-none, DrawsSome-trans)

-- ---- the accounts have no changes at first

abbrev changed_part : AccountTable → List TableChange → List ℕ → Parts → Sealing → Event → ℕ → List (List ℕ) → SealStepPart
changed_part table changes name parts s what now left = seal_event_and_turn table.trusts what name now (with_changes changes table) parts s left

unchanged_part : (table : AccountTable) (changes : List TableChange) (name : List ℕ) (parts : Parts) (s : Sealing) (what : Event) (now : ℕ) (left : List (List ℕ)) → changes ≡ [] →
    changed_part table changes name parts s what now left ≡ seal_event_and_turn table.trusts what name now table parts s left
unchanged_part table changes name parts s what now left none =
    ap (λ (all : List TableChange). changed_part table all name parts s what now left) none
    ∙ ap (λ (old : AccountTable). seal_event_and_turn table.trusts what name now old parts s left) (with_changes-none table)

pub run_refused : (why : StepRefused) (table : AccountTable) (changes : List TableChange) (name : List ℕ) (parts : Parts) (s : Sealing) (what : Event) (now : ℕ) (left after : List (List ℕ)) → changes ≡ [] →
    AnswersBy (Err why) (changed_part table changes name parts s what now left) after →
    AnswersBy (Err why) (seal_event_and_turn table.trusts what name now table parts s left) after
run_refused why table changes name parts s what now left after none answer =
    subst (λ part. AnswersBy (Err why) part after) (unchanged_part table changes name parts s what now left none) answer

pub run_taken : (done : SealParts) (table : AccountTable) (changes : List TableChange) (name : List ℕ) (parts : Parts) (s : Sealing) (what : Event) (now : ℕ) (left after : List (List ℕ)) → changes ≡ [] →
    changed_part table changes name parts s what now left ≡ Ok (record { value = done; left = after }) →
    seal_event_and_turn table.trusts what name now table parts s left ≡ Ok (record { value = done; left = after })
run_taken done table changes name parts s what now left after none is = sym (unchanged_part table changes name parts s what now left none) ∙ is

pub ruleset committing = (run_refused, run_taken)

-- ---- a step

abbrev actions_in : SealParts → List Action
actions_in after = after.rest.parts.work.work.actions

abbrev part_in : State → Running → Sealing → Event → ℕ → List (List ℕ) → SealStepPart
part_in s running sealing what now left = seal_event_and_turn s.table.trusts what s.name now s.table (parts_of running s.trusting) sealing left

pub seal_refused : (why : StepRefused) (running : Running) (sealing : Sealing) (s new : State) (what : Event) (now : ℕ) (before after : Drawing) → s.running ≡ Some running → new ≡ trust_halted s →
    DrawsSome before after → AnswersBy (Err why) (part_in s running sealing what now before.left) after.left →
    StepsBy (Err why) (seal_step_on s.running sealing s what now before.left) (trust_halted s) new before after
seal_refused why running sealing s new what now before after runs stops some answer =
    subst (λ n. StepsBy (Err why) (seal_step_on s.running sealing s what now before.left) (trust_halted s) n before after) (sym stops)
    (subst (λ (r : Option Running). StepsBy (Err why) (seal_step_on r sealing s what now before.left) (trust_halted s) (trust_halted s) before after) (sym runs)
    (StepsBy-refused why actions_in (λ after. seal_state_after s after) (trust_halted s) (part_in s running sealing what now before.left) before after some answer))

pub seal_taken : (running : Running) (sealing : Sealing) (s new : State) (what : Event) (now : ℕ) (before after : Drawing) (done : SealParts) (actions : List Action) → actions ≡ actions_in done →
    s.running ≡ Some running → new ≡ seal_state_after s done → DrawsSome before after → part_in s running sealing what now before.left ≡ Ok (record { value = done; left = after.left }) →
    Takes (seal_step_on s.running sealing s what now before.left) new before after actions
seal_taken running sealing s new what now before after done actions told runs stays some is =
    subst (λ a. Takes (seal_step_on s.running sealing s what now before.left) new before after a) (sym told)
    (subst (λ n. Takes (seal_step_on s.running sealing s what now before.left) n before after (actions_in done)) (sym stays) (record {
      drawn = draws_between before.left after.left;
      is = ap (λ (r : Option Running). seal_step_on r sealing s what now before.left) runs
          ∙ ap (step_by actions_in (λ after. seal_state_after s after) (trust_halted s) before.left) is;
      draws = DrawsSome-between before after some;
    }))

pub ruleset stepping = (seal_refused, seal_taken)

-- ---- as `Controller::step` has it: its fields, and the state that they are

abbrev done_of : AccountTable → Parts → Sealing → SealParts
done_of table parts sealing = record { rest = record { table = table; parts = parts }; sealing = Some sealing }

-- what is kept then, and the actions
abbrev pub IsSealedThen : Parts → Sealing → List Action → Option Running → Trusting → Type 0
IsSealedThen parts sealing actions running trusting =
    (actions ≡ parts.work.work.actions) × (running ≡ Some (record { computers = parts.work.work.computers; links = parts.links })) × (trusting ≡ record (trusting_after parts) { sealing = Some sealing })

abbrev part_of : AccountTable → List ℕ → Running → Trusting → Sealing → Event → ℕ → List (List ℕ) → SealStepPart
part_of table name running trusting sealing what now left = seal_event_and_turn table.trusts what name now table (parts_of running trusting) sealing left

part_is : (table : AccountTable) (name : List ℕ) (held : Option Running) (running : Running) (trusting kept : Trusting) (sealing : Sealing) (s : State) (what : Event) (now : ℕ) (left : List (List ℕ)) →
    kept_as table name held kept ≡ s → trusting ≡ kept → part_in s running sealing what now left ≡ part_of table name running trusting sealing what now left
part_is table name held running trusting kept sealing s what now left view keeps =
    ap (λ (one : State). part_in one running sealing what now left) (sym view)
    ∙ ap (λ (t : Trusting). part_of table name running t sealing what now left) (sym keeps)

stays_as : (table new : AccountTable) (name : List ℕ) (held running : Option Running) (kept trusting : Trusting) (parts : Parts) (sealing : Sealing) (actions : List Action) (s : State) → kept_as table name held kept ≡ s →
    IsSealedThen parts sealing actions running trusting → kept_as new name running trusting ≡ seal_state_after s (done_of new parts sealing)
stays_as table new name held running kept trusting parts sealing actions s view stands =
    ap (λ (r : Option Running). kept_as new name r trusting) stands.1
    ∙ ap (λ (t : Trusting). kept_as new name (Some (record { computers = parts.work.work.computers; links = parts.links })) t) stands.2
    ∙ ap (λ (one : State). seal_state_after one (done_of new parts sealing)) view

pub taken_by : (table new : AccountTable) (name : List ℕ) (held after_running : Option Running) (running : Running) (trusting kept after_trusting : Trusting) (sealing sealed : Sealing) (parts : Parts) (actions : List Action) (s : State) (what : Event) (now : ℕ) (before after : Drawing) →
    kept_as table name held kept ≡ s → held ≡ Some running → trusting ≡ kept → IsSealedThen parts sealed actions after_running after_trusting → DrawsSome before after →
    part_of table name running trusting sealing what now before.left ≡ Ok (record { value = done_of new parts sealed; left = after.left }) →
    Takes (seal_step_on s.running sealing s what now before.left) (kept_as new name after_running after_trusting) before after actions
taken_by table new name held after_running running trusting kept after_trusting sealing sealed parts actions s what now before after view runs keeps stands some is =
    seal_taken running sealing s (kept_as new name after_running after_trusting) what now before after (done_of new parts sealed) actions stands.0
    (ap (λ (one : State). one.running) (sym view) ∙ runs) (stays_as table new name held after_running kept after_trusting parts sealed actions s view stands) some
    (part_is table name held running trusting kept sealing s what now before.left view keeps ∙ is)

pub settled_by : (table new : AccountTable) (name : List ℕ) (held after_running : Option Running) (running : Running) (trusting kept after_trusting : Trusting) (sealing sealed : Sealing) (parts : Parts) (actions : List Action) (s : State) (what : Event) (now : ℕ) (before left : List (List ℕ)) →
    kept_as table name held kept ≡ s → trusting ≡ kept → IsSealedThen parts sealed actions after_running after_trusting →
    part_of table name running trusting sealing what now before ≡ Ok (record { value = done_of new parts sealed; left = left }) → IsTrue (is_made what) →
    most_made_by actions + seal_pending_in (kept_as new name after_running after_trusting) ≤ trust_pending_in s + asked_in (Some sealing)
settled_by table new name held after_running running trusting kept after_trusting sealing sealed parts actions s what now before left view keeps stands is made =
    let within : SealWithin (Ok (record { value = done_of new parts sealed; left = left })) (trusting_weight trusting + length sealing.asked)
    = subst (λ part. SealWithin part (trusting_weight trusting + length sealing.asked)) is (settles table.trusts what name now table running trusting sealing before made) in
    let told = ap most_made_by stands.0 in
    let rest = ap (λ (t : Trusting). trusting_weight t + asked_in t.sealing) stands.2 in
    let old : trusting_weight trusting ≡ trust_pending_in s = ap trusting_weight keeps ∙ ap trust_pending_in view in
    omega (arith, within, told, rest, old)
