-- A plain world whose controllers ask nobody (this project's own choice): no controller hands a logon on to a trusted
-- domain's controller. Each takes the steps of one that trusts no domain.
use Rattle.std.specs.Prelude.{ℕ, ◌≡◌, ◌||◌, Bool, true, false, List, [], Option, Some, None, slice_get}
use Rattle.std.specs.List.{AllByRecursion}
use Rattle.outside.specs.Drawing.{Drawing}
use Rattle.outside.specs.declared.event.Event.{Event}
use Rattle.account_table.specs.AccountTable.{AccountTable}
use Rattle.domain_controller.specs.State.{State as ControllerState}
use Rattle.domain_controller.specs.Step.{step_of}
use Rattle.domain_controller.specs.Trusting.{no_trusting}
use Rattle.world_moves.specs.declared.links.EndId.{EndId}
use Rattle.world_moves.specs.declared.links.EndId.TheVariants.{Controller, Member, Client, Station}
use Rattle.world_moves.specs.declared.moves.Move.{Move}
use Rattle.world_moves.specs.declared.plan.Plan.{Plan}
use Rattle.world_moves.specs.declared.state.State.{State}
use Rattle.world_moves.specs.Acting.{AfterHearing, hear, heard_by}
use Rattle.world_moves.specs.Ends.{EndStates, EndStep, client_step, controller_done, no_step}
use Rattle.world_moves.specs.Moving.{act}
use Rattle.world_moves.specs.Plain.{IsPlain, IsPlainPlan, plain_member_step}
use Rattle.world_moves.specs.World.{first_world}

-- ---- a step, and what an end hears

abbrev pub alone_controller_step : Option ControllerState → ℕ → Event → ℕ → EndStates → Drawing → EndStep
alone_controller_step None at what now ends chances = no_step ends chances
alone_controller_step (Some controller) at what now ends chances =
    controller_done (step_of controller what now chances.left) at ends chances

-- the step of an end, where a controller steps as one that trusts no domain, a member as one that can't seal, and no
-- station stands
abbrev pub alone_end_step : EndId → Event → ℕ → EndStates → Drawing → EndStep
alone_end_step (Controller at) what now ends chances =
    alone_controller_step (slice_get ends.controllers at) at what now ends chances
alone_end_step (Member at) what now ends chances = plain_member_step (slice_get ends.members at) at what now ends chances
alone_end_step (Client at) what now ends chances = client_step (slice_get ends.clients at) at what now ends chances
alone_end_step (Station at) what now ends chances = no_step ends chances

abbrev pub hear_alone : EndId → Event → State → AfterHearing
hear_alone end what s = heard_by (alone_end_step end what s.moment s.ends s.chances) s

-- ---- controllers that ask nobody

-- one that is made so from the table asks nobody
abbrev pub TrustsNobody : (hands_on : Bool) → AccountTable → Type 0
TrustsNobody false table = Unit {0}
TrustsNobody true table = table.trusts ≡ []

-- each controller asks nobody, and none will that is made anew from the table as it stands and can't seal
pub record NobodyIsAsked (hands_on : Bool) (controllers : List ControllerState) : Type 0 where
  pub each : (at : ℕ) (c : ControllerState) → slice_get controllers at ≡ Some c → c.trusting ≡ no_trusting
  pub anew : (at : ℕ) (c : ControllerState) → slice_get controllers at ≡ Some c → TrustsNobody hands_on c.table

abbrev pub AsksNobody : State → Type 0
AsksNobody s = NobodyIsAsked s.hands_on s.ends.controllers

-- of a plan whose controllers don't hand on, or whose tables trust no domain; those that can seal hand on
abbrev pub HandsNothingOn : Plan → Type 0
HandsNothingOn plan = AllByRecursion (TrustsNobody (plan.seals || plan.hands_on)) plan.tables

-- of a plain plan that hands nothing on
pub record IsPlainAlone (plan : Plan) : Type 0 where
  pub plain : IsPlainPlan plan
  pub alone : HandsNothingOn plan

-- ---- what holds of such worlds

-- A plan whose controllers don't hand on, nor seal, hands nothing on. The first world of a
-- plain plan that hands nothing on asks nobody; each move leaves it so, and an end hears as it does alone.
pub record HearsAlone : Type 0 where
  pub plain : (plan : Plan) → plan.seals ≡ false → plan.hands_on ≡ false → HandsNothingOn plan
  pub first : (plan : Plan) → IsPlainAlone plan → AsksNobody (first_world plan).state
  pub stays : (s : State) (what : Move) → IsPlain s → AsksNobody s → AsksNobody (act s what).state
  pub hears : (end : EndId) (what : Event) (s : State) → IsPlain s → AsksNobody s → hear end what s ≡ hear_alone end what s
