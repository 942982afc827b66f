-- What a step of an end comes to, and making one anew, where controllers ask nobody: by the kind of the end. It serves
-- the frames, and what is carried by them.
use Rattle.std.proofs.Common.{◌≡◌, ℕ, Bool, true, false, List, Option, Some, None, slice_get, slice_set, refl, ap}
use Rattle.outside.specs.Drawing.{Drawing}
use Rattle.outside.specs.declared.event.Event.{Event}
use Rattle.account_table.specs.AccountTable.{AccountTable}
use Rattle.domain_controller.specs.State.{State as ControllerState}
use Rattle.domain_controller.specs.Step.{first_state, step_of as controller_step_of}
use Rattle.domain_controller.specs.TrustStep.{first_trust_state}
use Rattle.domain_controller.proofs.TrustAloneLaws.{steps_alone}
use Rattle.logon_client.specs.State.{State as ClientState}
use Rattle.logon_client.specs.Machine.{fresh_client, step_of as client_step_of}
use Rattle.logon_client.specs.declared.plan.ClientPlan.{ClientPlan}
use Rattle.member_server.specs.State.{State as MemberState}
use Rattle.member_server.specs.Machine.{fresh_member, step_of as member_step_of}
use Rattle.member_server.specs.declared.plan.MemberPlan.{MemberPlan}
use Rattle.world_moves.specs.declared.links.EndId.{EndId}
use Rattle.world_moves.specs.declared.links.EndId.TheVariants.{Controller, Member, Client, Station}
use Rattle.world_moves.specs.declared.state.State.{State}
use Rattle.world_moves.specs.Acting.{Acted, done}
use Rattle.world_moves.specs.Alone.{AsksNobody, TrustsNobody, alone_controller_step, alone_end_step, hear_alone}
use Rattle.world_moves.specs.Ends.{EndStates, EndStep, client_done, client_step, controller_done, fresh_controller, member_done, no_step, renew_controller, with_client, with_member}
use Rattle.world_moves.specs.Plain.{plain_member_step as member_step, renew_plain as renew, renewed_plain as renewed}
use Rattle.world_moves.proofs.PlainKindLaws.{renew_plain_by as renew_by}

-- an end hears something as it does alone, and does what it then does
abbrev pub act_alone : EndId → Event → State → Acted
act_alone end what s = done end (hear_alone end what s)

-- ---- what a step of an end comes to: nothing where it isn't there, else the step of its machine in its place

module _ (P : EndId → EndStep → Type 0) (what : Event) (now : ℕ) (ends : EndStates) (chances : Drawing) (none : (end : EndId) → P end (no_step ends chances))
    (controllers : (at : ℕ) (c : ControllerState) → slice_get ends.controllers at ≡ Some c → P (Controller at) (controller_done (controller_step_of c what now chances.left) at ends chances))
    (members : (at : ℕ) (m : MemberState) → slice_get ends.members at ≡ Some m → P (Member at) (member_done (member_step_of m what now chances.left) at ends chances))
    (clients : (at : ℕ) (c : ClientState) → slice_get ends.clients at ≡ Some c → P (Client at) (client_done (client_step_of c what now chances.left) at ends chances)) where
  controller_by : (found : Option ControllerState) (at : ℕ) → slice_get ends.controllers at ≡ found → P (Controller at) (alone_controller_step found at what now ends chances)
  controller_by None at is = none (Controller at)
  controller_by (Some c) at is = controllers at c is

  member_by : (found : Option MemberState) (at : ℕ) → slice_get ends.members at ≡ found → P (Member at) (member_step found at what now ends chances)
  member_by None at is = none (Member at)
  member_by (Some m) at is = members at m is

  client_by : (found : Option ClientState) (at : ℕ) → slice_get ends.clients at ≡ found → P (Client at) (client_step found at what now ends chances)
  client_by None at is = none (Client at)
  client_by (Some c) at is = clients at c is

  pub alone_by : (end : EndId) → P end (alone_end_step end what now ends chances)
  alone_by (Controller at) = controller_by (slice_get ends.controllers at) at refl
  alone_by (Member at) = member_by (slice_get ends.members at) at refl
  alone_by (Client at) = client_by (slice_get ends.clients at) at refl
  alone_by (Station at) = none (Station at)

-- ---- seen from the ends of one kind: the other ends leave them as they are

module _ (what : Event) (now : ℕ) (ends : EndStates) (chances : Drawing) where
  pub members_alone : (P : EndId → List MemberState → Type 0) → ((end : EndId) → P end ends.members) →
      ((at : ℕ) (m : MemberState) → slice_get ends.members at ≡ Some m → P (Member at) (slice_set ends.members at (member_step_of m what now chances.left).state)) →
      (end : EndId) → P end (alone_end_step end what now ends chances).ends.members
  members_alone P same own end =
      alone_by (λ (one : EndId) (step : EndStep). P one step.ends.members) what now ends chances same (λ at c is. same (Controller at)) own (λ at c is. same (Client at)) end

  pub clients_alone : (P : EndId → List ClientState → Type 0) → ((end : EndId) → P end ends.clients) →
      ((at : ℕ) (c : ClientState) → slice_get ends.clients at ≡ Some c → P (Client at) (slice_set ends.clients at (client_step_of c what now chances.left).state)) →
      (end : EndId) → P end (alone_end_step end what now ends chances).ends.clients
  clients_alone P same own end =
      alone_by (λ (one : EndId) (step : EndStep). P one step.ends.clients) what now ends chances same (λ at c is. same (Controller at)) (λ at m is. same (Member at)) own end

-- ---- an end is made anew: a controller is made as one that asks nobody

abbrev pub renew_controller_alone : Option ControllerState → ℕ → EndStates → EndStates
renew_controller_alone found at ends = renew_controller false false found at ends

abbrev pub renew_alone : EndId → State → EndStates
renew_alone end s = renew end (record s { hands_on = false })

abbrev pub renewed_alone : EndId → State → State
renewed_alone end s = record s { ends = renew_alone end s }

pub renew_alone_by : (P : EndId → EndStates → Type 0) (s : State) → ((end : EndId) → P end s.ends) →
    ((at : ℕ) (c : ControllerState) → slice_get s.ends.controllers at ≡ Some c →
    P (Controller at) (record s.ends { controllers = slice_set s.ends.controllers at (first_state c.table c.name) })) →
    ((at : ℕ) (plan : MemberPlan) → slice_get s.member_plans at ≡ Some plan → P (Member at) (with_member at (fresh_member plan) s.ends)) →
    ((at : ℕ) (plan : ClientPlan) → slice_get s.client_plans at ≡ Some plan → P (Client at) (with_client at (fresh_client plan) s.ends)) →
    (end : EndId) → P end (renew_alone end s)
renew_alone_by P s none controllers members clients end = renew_by P (record s { hands_on = false }) none controllers members clients end

-- a controller that is made from a table, whether it is to hand logons on or not
pub fresh_by : (P : ControllerState → Type 0) (table : AccountTable) (name : List ℕ) → P (first_state table name) → P (first_trust_state table name) → (hands_on : Bool) →
    P (fresh_controller hands_on false table name)
fresh_by P table name plain trusts false = plain
fresh_by P table name plain trusts true = trusts

-- a controller is made as one that asks nobody, where nobody is asked
fresh_alone : (hands_on : Bool) (table : AccountTable) (name : List ℕ) → TrustsNobody hands_on table → fresh_controller hands_on false table name ≡ first_state table name
fresh_alone false table name nobody = refl
fresh_alone true table name nobody = steps_alone.without_trusts table name nobody

controller_alone : (hands_on : Bool) (found : Option ControllerState) (at : ℕ) (ends : EndStates) → ((c : ControllerState) → found ≡ Some c → TrustsNobody hands_on c.table) →
    renew_controller hands_on false found at ends ≡ renew_controller_alone found at ends
controller_alone hands_on None at ends nobody = refl
controller_alone hands_on (Some c) at ends nobody =
    ap (λ (new : ControllerState). record ends { controllers = slice_set ends.controllers at new }) (fresh_alone hands_on c.table c.name (nobody c refl))

ends_alone : (end : EndId) (s : State) → AsksNobody s → renew end s ≡ renew_alone end s
ends_alone (Controller at) s asks = controller_alone s.hands_on (slice_get s.ends.controllers at) at s.ends (λ c is. asks.anew at c is)
ends_alone (Member at) s asks = refl
ends_alone (Client at) s asks = refl
ends_alone (Station at) s asks = refl

pub renews_alone : (end : EndId) (s : State) → AsksNobody s → renewed end s ≡ renewed_alone end s
renews_alone end s asks = ap (λ (ends : EndStates). record s { ends = ends }) (ends_alone end s asks)
