-- What holds through the moves of a world, of its ends, its maker of challenges, its links and of what is written down:
-- whatever holds through each step of an end, also where it speaks of the plans from which clients are made. It is an
-- instance of `EndFrameLaws`. It serves `Proved.grants`, `Proved.marked`, `Proved.challenges` and 14 more.
use Rattle.std.proofs.Common.{◌≡◌, ℕ, List, [], ◌∷◌, ◌++◌, length, Some, None, slice_get, slice_set, sym, subst}
use Rattle.outside.specs.Drawing.{Drawing}
use Rattle.outside.specs.declared.action.Action.{Action}
use Rattle.outside.specs.declared.event.Event.{Event}
use Rattle.outside.specs.declared.event.Event.TheVariants as event
use Rattle.domain_controller.specs.State.{State as ControllerState}
use Rattle.domain_controller.specs.Step.{first_state}
use Rattle.logon_client.specs.Machine.{begin_of, fresh_client}
use Rattle.logon_client.specs.State.{State as ClientState}
use Rattle.logon_client.specs.declared.plan.ClientPlan.{ClientPlan}
use Rattle.member_server.specs.Machine.{fresh_member}
use Rattle.member_server.specs.declared.plan.MemberPlan.{MemberPlan}
use Rattle.member_server.specs.declared.state.Running.{Running}
use Rattle.step_notes.specs.Records.{Book, blank}
use Rattle.world_moves.specs.declared.links.EndId.{EndId}
use Rattle.world_moves.specs.declared.links.Route.{Route}
use Rattle.world_moves.specs.declared.moves.Move.{Move}
use Rattle.world_moves.specs.declared.state.State.{State}
use Rattle.world_moves.specs.Acting.{Given}
use Rattle.world_moves.specs.Ends.{EndStates, EndStep, with_client, with_member}
use Rattle.world_moves.specs.Links.{acceptor_of}
use Rattle.world_moves.specs.Moving.{changed}
use Rattle.world_moves.specs.World.{World, run}
use Rattle.domain_world.specs.Past.{Delivery, book, note_given, past}
use Rattle.domain_world.proofs.Frames.AloneNoteLaws.{note_alone as note_at}
use Rattle.domain_world.proofs.Frames.AloneStepLaws.{act_alone as hear_and_act, renew_alone_by as renew_by, renewed_alone as renewed}
use Rattle.domain_world.proofs.Frames.EndFrameLaws.{EndFact, IsCalm, KeepsEnds, by_calm, ends_after, ends_keep, ends_later}
use Rattle.domain_world.proofs.Frames.MoveKeepLaws.{KeepsMoves, MoveFact, NoSide}
use Rattle.domain_world.proofs.Frames.AloneFrameLaws.{StandsAlone}
use Rattle.world_moves.specs.declared.plan.Plan.{Plan}
use Rattle.world_moves.specs.Alone.{IsPlainAlone, alone_end_step as end_step}
use Rattle.world_moves.specs.Plain.{plain_world}
use Rattle.world_moves.proofs.ChangeLaws.{by_change, member_begun}

-- ---- what is to hold

-- something of the ends, the maker of challenges and the links
abbrev pub Fact : Type 1
Fact = EndStates → Drawing → List Route → Type 0

abbrev pub HoldsIn : Fact → State → Type 0
HoldsIn Fits s = Fits s.ends s.chances s.links

abbrev pub HoldsAfter : Fact → EndStep → List Route → Type 0
HoldsAfter Fits step links = Fits step.ends step.chances links

-- a fact of ends by the plans of the clients, from which they are made
abbrev pub PlannedFact : Type 1
PlannedFact = List ClientPlan → Fact

abbrev pub HoldsByPlans : PlannedFact → State → Type 0
HoldsByPlans Fits s = HoldsIn (Fits s.client_plans) s

-- the event brings an end no bytes and no link
abbrev pub BringsNothing : Event → Type 0
BringsNothing (event.Bytes link piece) = ⊥
BringsNothing (event.Opened link) = ⊥
BringsNothing (event.Closed link) = Unit {0}
BringsNothing (event.Dialled link) = Unit {0}
BringsNothing event.DialFailed = Unit {0}
BringsNothing event.Stop = Unit {0}

-- A fact of ends holds on where one hears an event that `BringsNothing`, where a link is made and the end that accepts
-- it hears of that, where an end is made anew, and where a member begins to change its secret.
pub record Stays (Fits : Fact) : Type 0 where
  pub hears : (end : EndId) (what : Event) (now : ℕ) (ends : EndStates) (chances : Drawing) (links : List Route) → BringsNothing what → Fits ends chances links →
      HoldsAfter Fits (end_step end what now ends chances) links
  pub opens : (route : Route) (now : ℕ) (ends : EndStates) (chances : Drawing) (links : List Route) → Fits ends chances links →
      HoldsAfter Fits (end_step (acceptor_of route) (event.Opened (length links)) now ends chances) (links ++ route ∷ [])
  pub controllers : (c : ControllerState) (at : ℕ) (ends : EndStates) (chances : Drawing) (links : List Route) → slice_get ends.controllers at ≡ Some c → Fits ends chances links →
      Fits (record ends { controllers = slice_set ends.controllers at (first_state c.table c.name) }) chances links
  pub members : (plan : MemberPlan) (at : ℕ) (ends : EndStates) (chances : Drawing) (links : List Route) → Fits ends chances links →
      Fits (with_member at (fresh_member plan) ends) chances links
  -- a member begins to change its secret
  pub changes : (secret : List ℕ) (running : Running) (at : ℕ) (ends : EndStates) (chances : Drawing) (links : List Route) → slice_get ends.members at ≡ Some (record { running = Some running }) →
      running.logons.plan.secrets.next ≡ None → Fits ends chances links → Fits (with_member at (member_begun secret running) ends) chances links
  pub clients : (client : ClientState) (at : ℕ) (ends : EndStates) (chances : Drawing) (links : List Route) → Fits ends chances links →
      Fits (with_client at client ends) chances links

-- `Stays`, where a client is made from a plan that it is to have.
pub record StaysByPlans (Fits : PlannedFact) : Type 0 where
  pub hears : (end : EndId) (what : Event) (now : ℕ) (plans : List ClientPlan) (ends : EndStates) (chances : Drawing) (links : List Route) → BringsNothing what → Fits plans ends chances links →
      HoldsAfter (Fits plans) (end_step end what now ends chances) links
  pub opens : (route : Route) (now : ℕ) (plans : List ClientPlan) (ends : EndStates) (chances : Drawing) (links : List Route) → Fits plans ends chances links →
      HoldsAfter (Fits plans) (end_step (acceptor_of route) (event.Opened (length links)) now ends chances) (links ++ route ∷ [])
  pub controllers : (c : ControllerState) (at : ℕ) (plans : List ClientPlan) (ends : EndStates) (chances : Drawing) (links : List Route) → slice_get ends.controllers at ≡ Some c →
      Fits plans ends chances links → Fits plans (record ends { controllers = slice_set ends.controllers at (first_state c.table c.name) }) chances links
  pub members : (plan : MemberPlan) (at : ℕ) (plans : List ClientPlan) (ends : EndStates) (chances : Drawing) (links : List Route) → Fits plans ends chances links →
      Fits plans (with_member at (fresh_member plan) ends) chances links
  pub changes : (secret : List ℕ) (running : Running) (at : ℕ) (plans : List ClientPlan) (ends : EndStates) (chances : Drawing) (links : List Route) →
      slice_get ends.members at ≡ Some (record { running = Some running }) → running.logons.plan.secrets.next ≡ None → Fits plans ends chances links → Fits plans (with_member at (member_begun secret running) ends) chances links
  pub begins : (plan : ClientPlan) (at : ℕ) (plans : List ClientPlan) (ends : EndStates) (chances : Drawing) (links : List Route) → slice_get plans at ≡ Some plan →
      Fits plans ends chances links → Fits plans (with_client at (begin_of (fresh_client plan)).state ends) chances links
  pub clients : (plan : ClientPlan) (at : ℕ) (plans : List ClientPlan) (ends : EndStates) (chances : Drawing) (links : List Route) → slice_get plans at ≡ Some plan →
      Fits plans ends chances links → Fits plans (with_client at (fresh_client plan) ends) chances links

stays_by_plans : (Fits : Fact) → Stays Fits → StaysByPlans (λ plans. Fits)
stays_by_plans Fits stays = record {
  hears = λ end what now plans ends chances links quiet holds. stays.hears end what now ends chances links quiet holds;
  opens = λ route now plans ends chances links holds. stays.opens route now ends chances links holds;
  controllers = λ c at plans ends chances links is holds. stays.controllers c at ends chances links is holds;
  members = λ plan at plans ends chances links holds. stays.members plan at ends chances links holds;
  changes = λ secret running at plans ends chances links is none holds. stays.changes secret running at ends chances links is none holds;
  begins = λ plan at plans ends chances links is holds. stays.clients (begin_of (fresh_client plan)).state at ends chances links holds;
  clients = λ plan at plans ends chances links is holds. stays.clients (fresh_client plan) at ends chances links holds;
}

module _ (Fits : PlannedFact) (stays : StaysByPlans Fits) where
  pub renewed_stays : (end : EndId) (s : State) → HoldsByPlans Fits s → HoldsByPlans Fits (renewed end s)
  renewed_stays end s holds =
      renew_by (λ (one : EndId) (ends : EndStates). Fits s.client_plans ends s.chances s.links) s (λ one. holds)
      (λ at c is. stays.controllers c at s.client_plans s.ends s.chances s.links is holds) (λ at plan is. stays.members plan at s.client_plans s.ends s.chances s.links holds)
      (λ at plan is. stays.clients plan at s.client_plans s.ends s.chances s.links is holds) end

  pub changed_stays : (at : ℕ) (secret : List ℕ) (s : State) → HoldsByPlans Fits s → HoldsByPlans Fits (changed at secret s).state
  changed_stays at secret s holds =
      by_change (λ (ends : EndStates) (actions : List Action). Fits s.client_plans ends s.chances s.links) at secret s.ends holds
      (λ running is none. stays.changes secret running at s.client_plans s.ends s.chances s.links is none holds)

pub calm_quiet : (what : Event) → IsCalm what → BringsNothing what
calm_quiet = by_calm BringsNothing (λ link. tt) tt tt

-- ---- with what is written down

-- A fact of ends holds with the part of the book that it speaks of: what is written down of bytes that an end hears
-- goes with its step, and nothing else changes that part.
pub record StaysWritten {X : Type 0} (part : Book → X) (Fits : X → Fact) : Type 0 where
  pub stays : (x : X) → Stays (Fits x)
  pub bytes : (end : EndId) (w : Delivery) (piece : List ℕ) (s after : State) (b : Book) → HoldsIn (Fits (part b)) s →
      HoldsAfter (Fits (part (note_at (Some end) w piece s after b))) (end_step end (event.Bytes w.link piece) s.moment s.ends s.chances) s.links
  pub given : (at : ℕ) (given : Given) (after : State) (b : Book) → part (note_given at given after b) ≡ part b

-- `StaysWritten` by the plans of the clients
pub record StaysWrittenByPlans {X : Type 0} (part : Book → X) (Fits : X → PlannedFact) : Type 0 where
  pub stays : (x : X) → StaysByPlans (Fits x)
  pub bytes : (end : EndId) (w : Delivery) (piece : List ℕ) (s after : State) (b : Book) → HoldsByPlans (Fits (part b)) s →
      HoldsAfter (Fits (part (note_at (Some end) w piece s after b)) s.client_plans) (end_step end (event.Bytes w.link piece) s.moment s.ends s.chances) s.links
  pub given : (at : ℕ) (given : Given) (after : State) (b : Book) → part (note_given at given after b) ≡ part b

written_by_plans : {X : Type 0} (part : Book → X) (Fits : X → Fact) → StaysWritten part Fits → StaysWrittenByPlans part (λ x plans. Fits x)
written_by_plans part Fits written = record { stays = λ x. stays_by_plans (Fits x) (written.stays x); bytes = written.bytes; given = written.given }

module _ {X : Type 0} (part : Book → X) (Fits : X → PlannedFact) (written : StaysWrittenByPlans part Fits) where
  abbrev pub Planned : EndFact
  Planned at on now given b = Fits (part b) now.client_plans now.ends now.chances now.links

  pub planned_keeps : KeepsEnds Planned
  planned_keeps = record {
    calm = λ at on end what s given b calm holds. (written.stays (part b)).hears end what s.moment s.client_plans s.ends s.chances s.links (calm_quiet what calm) holds;
    dialled = λ at end link s given b side holds. (written.stays (part b)).hears end (event.Dialled link) s.moment s.client_plans s.ends s.chances s.links tt holds;
    opens = λ at route s given b holds. (written.stays (part b)).opens route s.moment s.client_plans s.ends s.chances s.links holds;
    begins = λ at client plan s b is holds. (written.stays (part b)).begins plan client s.client_plans s.ends s.chances s.links is holds;
    comes = λ end w piece s given b side came holds. written.bytes end w piece s (hear_and_act end (event.Bytes w.link piece) s).state b holds;
    renews = λ at end s b holds. renewed_stays (Fits (part b)) (written.stays (part b)) end s holds;
    changes = λ at member secret s b holds. changed_stays (Fits (part b)) (written.stays (part b)) member secret s holds;
    over = λ at on next s given b holds. subst (λ (x : X). HoldsByPlans (Fits x) s) (sym (written.given at given s b)) holds;
  }

  -- through all moves of a run
  pub run_stays_by_plans : (plan : Plan) (moves : List Move) → IsPlainAlone plan → HoldsByPlans (Fits (part blank)) (plain_world plan).state →
      HoldsByPlans (Fits (part (past plan moves).book)) (past plan moves).world.state
  run_stays_by_plans plan moves nobody holds = ends_after Planned planned_keeps plan moves nobody (λ on. holds)

-- where the plans don't matter
module _ {X : Type 0} (part : Book → X) (Fits : X → Fact) (written : StaysWritten part Fits) where
  -- a fact of the ends and a part of the book, as a fact of a move
  abbrev pub OfSide : MoveFact
  OfSide n p s given b = HoldsIn (Fits (part b)) s

  pub side_keeps : (Known : Type 0) → KeepsMoves Known NoSide OfSide
  side_keeps Known =
      ends_keep (Planned part (λ x plans. Fits x) (written_by_plans part Fits written)) (planned_keeps part (λ x plans. Fits x) (written_by_plans part Fits written)) Known

  -- through all moves of a run
  pub run_stays : (plan : Plan) (moves : List Move) → IsPlainAlone plan → HoldsIn (Fits (part blank)) (plain_world plan).state → HoldsIn (Fits (part (past plan moves).book)) (past plan moves).world.state
  run_stays plan moves nobody holds = run_stays_by_plans part (λ x plans. Fits x) (written_by_plans part Fits written) plan moves nobody holds

  -- a fact with its part of the book holds after a run from any world on
  pub later_stays : (moves : List Move) (w : World) (b : Book) → StandsAlone w.state → HoldsIn (Fits (part b)) w.state → HoldsIn (Fits (part (book moves w b))) (run moves w).state
  later_stays moves w b stands holds =
      ends_later (Planned part (λ x plans. Fits x) (written_by_plans part Fits written)) (planned_keeps part (λ x plans. Fits x) (written_by_plans part Fits written)) moves w b stands (λ on. holds)
