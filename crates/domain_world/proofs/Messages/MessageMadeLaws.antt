-- In every schedule each AUTHENTICATE that a client made is the answer of its plan to the CHALLENGE that it heard.
-- It serves `messages_are_made`.
use Rattle.std.proofs.Common.{◌≡◌, ◌<◌, ◌^◌, ℕ, zero, suc, List, [], ◌∷◌, length, map, All, Some, sym, subst, arith, inl, inr, slice_get, slice_set}
use Rattle.std.specs.Prelude.{flat_map}
use Rattle.std.specs.List.{AllByRecursion}
use Rattle.std.proofs.lemmas.Bool.{cases_lt}
use Rattle.std.proofs.lemmas.List.{get_or_past}
use Rattle.std.proofs.lemmas.List.Elements.{All-get_or, All-weaker, recursion_from_All}
use Rattle.wire_base.specs.Units.{AreUnits}
use Rattle.outside.specs.Drawing.{Drawing}
use Rattle.outside.specs.declared.action.Action.{Action}
use Rattle.outside.specs.declared.event.Event.{Event}
use Rattle.outside.specs.declared.event.Event.TheVariants as event
use Rattle.logon_client.specs.Machine.{begin_of, fresh_client, step_of as client_step_of}
use Rattle.logon_client.specs.State.{State as ClientState}
use Rattle.logon_client.specs.declared.plan.ClientPlan.{ClientPlan}
use Rattle.step_notes.specs.ClientNotes.{ClientAt, made_note, units_of_client}
use Rattle.step_notes.specs.Records.{Book, MessageMade}
use Rattle.world_moves.specs.declared.links.EndId.{EndId}
use Rattle.world_moves.specs.declared.moves.Move.{Move}
use Rattle.world_moves.specs.declared.plan.Plan.{Plan}
use Rattle.world_moves.specs.declared.state.State.{State}
use Rattle.world_moves.specs.Ends.{EndStates, EndStep, client_step}
use Rattle.world_moves.specs.Forms.{IsClientPlan, IsSchedule}
use Rattle.world_moves.specs.Links.{acceptor_of}
use Rattle.world_moves.proofs.ChangeLaws.{by_change}
use Rattle.world_moves.specs.Plain.{IsPlainPlan, plain_end_step as end_step, plain_member_step as member_step, plain_world, renewed_plain as renewed}
use Rattle.world_moves.proofs.PlainKindLaws.{plain_by as step_by, renew_plain_by as renew_by}
use Rattle.domain_world.specs.Accepting.KeysMade.{IsMadeFrom, MessagesAreMade}
use Rattle.domain_world.specs.Past.{Delivery, note_at, note_client, past}
use Rattle.domain_world.proofs.Messages.ClientOfferLaws.{AreMadeFrom, HasNames}
use Rattle.domain_world.proofs.Messages.ClientPlanLaws.{TaskIn, client_made, task_stays}
use Rattle.domain_world.proofs.Messages.MessageOnceLaws.{each_put}
use Rattle.domain_world.proofs.Frames.EndFrameLaws.{EndFact, KeepsEndsBy, every_ends_after}
use Rattle.domain_world.proofs.Frames.EveryStepLaws.{act_plain as hear_and_act, every_draws, every_noted as noted_by}
use Rattle.domain_world.proofs.Moves.LeftLaws.{AreEights, eights_after, first_eights}
use Rattle.domain_world.proofs.Frames.MoveKeepLaws.{every}
use Rattle.wire_base.proofs.AllLaws.{all_join}
use Rattle.domain_world.proofs.Frames.EndNoteLaws.{made_so}
use Rattle.domain_controller.proofs.TrustPlaceLaws.{got_all}

-- The names of the clients' plans are texts, clients go by such plans, each challenge that is left has 8 bytes, and
-- each message that was made is the answer of its plan.
pub record AreAnswers (made : List MessageMade) (plans : List ClientPlan) (clients : List ClientState) (left : List (List ℕ)) : Type 0 where
  pub names : AllByRecursion HasNames plans
  pub each : (k : ℕ) (c : ClientState) → slice_get clients k ≡ Some c → TaskIn HasNames c.running
  pub eights : AreEights left
  pub from : AreMadeFrom made

-- messages are made from plans as answers, by the parts of a world
abbrev Answers : List MessageMade → List ClientPlan → EndStates → Drawing → Type 0
Answers made plans ends chances = AreAnswers made plans ends.clients chances.left

-- a client is changed
client_put : (made : List MessageMade) (plans : List ClientPlan) (clients : List ClientState) (left rest : List (List ℕ)) (at : ℕ) (new : ClientState) → AreAnswers made plans clients left →
    AreEights rest → TaskIn HasNames new.running → AreAnswers made plans (slice_set clients at new) rest
client_put made plans clients left rest at new kept eights names = record {
  names = kept.names;
  each = each_put (λ (k : ℕ) (c : ClientState). TaskIn HasNames c.running) clients at new (λ k c differs there. kept.each k c there) names;
  eights = eights;
  from = kept.from;
}

-- messages are answers where less is left
left_so : (made : List MessageMade) (plans : List ClientPlan) (clients : List ClientState) (left rest : List (List ℕ)) → AreAnswers made plans clients left → AreEights rest →
    AreAnswers made plans clients rest
left_so made plans clients left rest kept eights = record { names = kept.names; each = kept.each; eights = eights; from = kept.from }

-- ---- an end hears something

-- messages are answers once an end took that step, where what is left has eights
abbrev AnswersAfter : List MessageMade → List ClientPlan → EndStep → Type 0
AnswersAfter made plans step = AreEights step.chances.left → AreAnswers made plans step.ends.clients step.chances.left

client_answers : (c : ClientState) (made : List MessageMade) (at : ℕ) (what : Event) (now : ℕ) (plans : List ClientPlan) (ends : EndStates) (chances : Drawing) →
    slice_get ends.clients at ≡ Some c → AreAnswers made plans ends.clients chances.left → AnswersAfter made plans (client_step (Some c) at what now ends chances)
client_answers c made at what now plans ends chances is kept eights =
    client_put made plans ends.clients chances.left (client_step_of c what now chances.left).left at (client_step_of c what now chances.left).state kept
    eights (task_stays HasNames c what now chances.left (kept.each at c is))

hear_answers : (end : EndId) (made : List MessageMade) (what : Event) (now : ℕ) (plans : List ClientPlan) (ends : EndStates) (chances : Drawing) → Answers made plans ends chances →
    Answers made plans (end_step end what now ends chances).ends (end_step end what now ends chances).chances
hear_answers end made what now plans ends chances kept =
    step_by (λ (one : EndId) (step : EndStep). AnswersAfter made plans step) what now ends chances (λ one eights. kept)
    (λ at c is. left_so made plans ends.clients chances.left _ kept) (λ at m is. left_so made plans ends.clients chances.left _ kept)
    (λ at c is. client_answers c made at what now plans ends chances is kept) end (eights_after chances _ (every_draws end what now ends chances) kept.eights)

-- a client is made anew by its plan
renewed_answers : (end : EndId) (made : List MessageMade) (s : State) → Answers made s.client_plans s.ends s.chances → Answers made s.client_plans (renewed end s).ends s.chances
renewed_answers end made s kept =
    renew_by (λ (one : EndId) (ends : EndStates). Answers made s.client_plans ends s.chances) s (λ one. kept) (λ at c is. kept) (λ at plan is. kept)
    (λ at plan is.
    client_put made s.client_plans s.ends.clients s.chances.left s.chances.left at (fresh_client plan) kept kept.eights (got_all HasNames s.client_plans at plan kept.names is)) end

-- ---- bytes come

client_heard : (c : ClientState) (at : ℕ) (w : Delivery) (piece : List ℕ) (s : State) (b : Book) → slice_get s.ends.clients at ≡ Some c → Answers b.made s.client_plans s.ends s.chances →
    AnswersAfter (note_client (Some c) at w piece s b).made s.client_plans (client_step (Some c) at (event.Bytes w.link piece) s.moment s.ends s.chances)
client_heard c at w piece s b is kept eights =
    let went = client_answers c b.made at (event.Bytes w.link piece) s.moment s.client_plans s.ends s.chances is kept eights in
    let l : ClientAt = record { at = w.at; client = at; link = w.link } in
    record {
      names = went.names;
      each = went.each;
      eights = went.eights;
      from = all_join (λ (one : MessageMade). IsMadeFrom one) b.made (flat_map (made_note l) (units_of_client c w.link piece s.moment s.chances.left)) kept.from
          (client_made c l w.link piece s.moment s.chances.left (kept.each at c is) kept.eights);
    }

end_heard : (end : EndId) (w : Delivery) (piece : List ℕ) (s after : State) (b : Book) → Answers b.made s.client_plans s.ends s.chances →
    let step : EndStep = end_step end (event.Bytes w.link piece) s.moment s.ends s.chances in
    Answers (note_at (Some end) w piece s after b).made s.client_plans step.ends step.chances
end_heard end w piece s after b kept =
    noted_by (λ (one : EndId) (step : EndStep) (now : Book). AnswersAfter now.made s.client_plans step) w piece s after b (λ one eights. kept)
    (λ at c is. left_so b.made s.client_plans s.ends.clients s.chances.left _ kept)
    (λ at m is eights.
    let left : List (List ℕ) = (member_step (Some m) at (event.Bytes w.link piece) s.moment s.ends s.chances).chances.left in
    subst (λ (made : List MessageMade). AreAnswers made s.client_plans s.ends.clients left) (sym (made_so.members m at w piece s after b))
    (left_so b.made s.client_plans s.ends.clients s.chances.left left kept eights))
    (λ at c is. client_heard c at w piece s b is kept) end (eights_after s.chances _ (every_draws end (event.Bytes w.link piece) s.moment s.ends s.chances) kept.eights)

-- ---- a run

abbrev AnswersSoFar : EndFact
AnswersSoFar at on now given b = Answers b.made now.client_plans now.ends now.chances

answers_keep : KeepsEndsBy every AnswersSoFar
answers_keep = record {
  calm = λ at on end what s given b calm kept. hear_answers end b.made what s.moment s.client_plans s.ends s.chances kept;
  dialled = λ at end link s given b side kept. hear_answers end b.made (event.Dialled link) s.moment s.client_plans s.ends s.chances kept;
  opens = λ at route s given b kept. hear_answers (acceptor_of route) b.made (event.Opened (length s.links)) s.moment s.client_plans s.ends s.chances kept;
  begins = λ at client plan s b is kept.
      client_put b.made s.client_plans s.ends.clients s.chances.left s.chances.left client (begin_of (fresh_client plan)).state kept kept.eights
      (got_all HasNames s.client_plans client plan kept.names is);
  comes = λ end w piece s given b side came kept. end_heard end w piece s (hear_and_act end (event.Bytes w.link piece) s).state b kept;
  renews = λ at end s b kept. renewed_answers end b.made s kept;
  changes = λ at member secret s b kept.
      by_change (λ (ends : EndStates) (actions : List Action). Answers b.made s.client_plans ends s.chances) member secret s.ends kept (λ running is none. kept);
  over = λ at on next s given b kept. kept;
}

fresh_names : (plans : List ClientPlan) (k : ℕ) (c : ClientState) → AllByRecursion HasNames plans → slice_get (map fresh_client plans) k ≡ Some c → TaskIn HasNames c.running
fresh_names [] k c names there = absurd cc
fresh_names (plan ∷ plans) zero c names there = let is : fresh_client plan ≡ c = cc in subst (λ (x : ClientState). TaskIn HasNames x.running) is names.0
fresh_names (plan ∷ plans) (suc k) c names there = fresh_names plans k c names.1 there

first_answers : (plan : Plan) → AllByRecursion HasNames plan.clients → Answers [] plan.clients (plain_world plan).state.ends (plain_world plan).state.chances
first_answers plan names = record {
  names = names;
  each = λ k c there. fresh_names plan.clients k c names there;
  eights = first_eights plan;
  from = tt;
}

units_are : (units : List ℕ) → All (λ (unit : ℕ). unit < 2 ^ 16) units → AreUnits units
units_are units all place =
    elim (cases_lt place (length units)) [
      | inl within ↦ omega (arith, All-get_or (λ (unit : ℕ). unit < 2 ^ 16) units place 0 within all)
      | inr beyond ↦ rw (get_or_past units place 0 beyond) (omega arith)
    ]

form_names : (plan : ClientPlan) → IsClientPlan plan → HasNames plan
form_names plan forms = (units_are plan.user forms.user, units_are plan.domain forms.domain)

-- in every schedule each message that a client made is the answer of its plan
pub messages_made : (plan : Plan) (moves : List Move) → IsPlainPlan plan → IsSchedule plan moves → MessagesAreMade (past plan moves)
messages_made plan moves nothing schedule =
    let names : AllByRecursion HasNames plan.clients =
    recursion_from_All HasNames plan.clients (All-weaker IsClientPlan HasNames form_names plan.clients schedule.forms.clients) in
    (every_ends_after AnswersSoFar answers_keep plan moves nothing (λ on. first_answers plan names)).from
