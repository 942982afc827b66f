-- What a step of an end comes to, and making one anew, in a plain world: by the kind of the end. It serves
-- `who_asks_nobody_hears_alone` and the laws of all runs.
use Rattle.std.proofs.Common.{◌≡◌, ℕ, false, List, Option, Some, None, slice_get, slice_set, refl}
use Rattle.outside.specs.Drawing.{Drawing}
use Rattle.outside.specs.declared.event.Event.{Event}
use Rattle.domain_controller.specs.State.{State as ControllerState}
use Rattle.domain_controller.specs.TrustStep.{trust_step_of as controller_step_of}
use Rattle.logon_client.specs.State.{State as ClientState}
use Rattle.logon_client.specs.Machine.{fresh_client, step_of as client_step_of}
use Rattle.logon_client.specs.declared.plan.ClientPlan.{ClientPlan}
use Rattle.member_server.specs.State.{State as MemberState}
use Rattle.member_server.specs.Machine.{fresh_member, step_of as member_step_of}
use Rattle.member_server.specs.declared.plan.MemberPlan.{MemberPlan}
use Rattle.world_moves.specs.declared.links.EndId.{EndId}
use Rattle.world_moves.specs.declared.links.EndId.TheVariants.{Controller, Member, Client, Station}
use Rattle.world_moves.specs.declared.state.State.{State}
use Rattle.world_moves.specs.Ends.{EndStates, EndStep, client_done, client_step, controller_done, fresh_controller, member_done, no_step, renew_client, renew_controller, with_client, with_member}
use Rattle.world_moves.specs.Plain.{plain_controller_step, plain_end_step, plain_member_step, renew_plain, renew_plain_member}

-- ---- what a step of an end comes to: nothing where it isn't there, else the step of its machine in its place

module _ (P : EndId → EndStep → Type 0) (what : Event) (now : ℕ) (ends : EndStates) (chances : Drawing) (none : (end : EndId) → P end (no_step ends chances))
    (controllers : (at : ℕ) (c : ControllerState) → slice_get ends.controllers at ≡ Some c → P (Controller at) (controller_done (controller_step_of c what now chances.left) at ends chances))
    (members : (at : ℕ) (m : MemberState) → slice_get ends.members at ≡ Some m → P (Member at) (member_done (member_step_of m what now chances.left) at ends chances))
    (clients : (at : ℕ) (c : ClientState) → slice_get ends.clients at ≡ Some c → P (Client at) (client_done (client_step_of c what now chances.left) at ends chances)) where
  controller_by : (found : Option ControllerState) (at : ℕ) → slice_get ends.controllers at ≡ found → P (Controller at) (plain_controller_step found at what now ends chances)
  controller_by None at is = none (Controller at)
  controller_by (Some c) at is = controllers at c is

  member_by : (found : Option MemberState) (at : ℕ) → slice_get ends.members at ≡ found → P (Member at) (plain_member_step found at what now ends chances)
  member_by None at is = none (Member at)
  member_by (Some m) at is = members at m is

  client_by : (found : Option ClientState) (at : ℕ) → slice_get ends.clients at ≡ found → P (Client at) (client_step found at what now ends chances)
  client_by None at is = none (Client at)
  client_by (Some c) at is = clients at c is

  pub plain_by : (end : EndId) → P end (plain_end_step end what now ends chances)
  plain_by (Controller at) = controller_by (slice_get ends.controllers at) at refl
  plain_by (Member at) = member_by (slice_get ends.members at) at refl
  plain_by (Client at) = client_by (slice_get ends.clients at) at refl
  plain_by (Station at) = none (Station at)

-- ---- seen from the ends of one kind: the other ends leave them as they are

module _ (what : Event) (now : ℕ) (ends : EndStates) (chances : Drawing) where
  pub members_plain : (P : EndId → List MemberState → Type 0) → ((end : EndId) → P end ends.members) →
      ((at : ℕ) (m : MemberState) → slice_get ends.members at ≡ Some m → P (Member at) (slice_set ends.members at (member_step_of m what now chances.left).state)) →
      (end : EndId) → P end (plain_end_step end what now ends chances).ends.members
  members_plain P same own end =
      plain_by (λ (one : EndId) (step : EndStep). P one step.ends.members) what now ends chances same (λ at c is. same (Controller at)) own (λ at c is. same (Client at)) end

  pub clients_plain : (P : EndId → List ClientState → Type 0) → ((end : EndId) → P end ends.clients) →
      ((at : ℕ) (c : ClientState) → slice_get ends.clients at ≡ Some c → P (Client at) (slice_set ends.clients at (client_step_of c what now chances.left).state)) →
      (end : EndId) → P end (plain_end_step end what now ends chances).ends.clients
  clients_plain P same own end =
      plain_by (λ (one : EndId) (step : EndStep). P one step.ends.clients) what now ends chances same (λ at c is. same (Controller at)) (λ at m is. same (Member at)) own end

-- ---- an end is made anew

module _ (P : EndId → EndStates → Type 0) (s : State) (none : (end : EndId) → P end s.ends)
    (controllers : (at : ℕ) (c : ControllerState) → slice_get s.ends.controllers at ≡ Some c →
    P (Controller at) (record s.ends { controllers = slice_set s.ends.controllers at (fresh_controller s.hands_on false c.table c.name) }))
    (members : (at : ℕ) (plan : MemberPlan) → slice_get s.member_plans at ≡ Some plan → P (Member at) (with_member at (fresh_member plan) s.ends))
    (clients : (at : ℕ) (plan : ClientPlan) → slice_get s.client_plans at ≡ Some plan → P (Client at) (with_client at (fresh_client plan) s.ends)) where
  controller_anew : (found : Option ControllerState) (at : ℕ) → slice_get s.ends.controllers at ≡ found → P (Controller at) (renew_controller s.hands_on false found at s.ends)
  controller_anew None at is = none (Controller at)
  controller_anew (Some c) at is = controllers at c is

  member_anew : (found : Option MemberPlan) (at : ℕ) → slice_get s.member_plans at ≡ found → P (Member at) (renew_plain_member found at s.ends)
  member_anew None at is = none (Member at)
  member_anew (Some plan) at is = members at plan is

  client_anew : (found : Option ClientPlan) (at : ℕ) → slice_get s.client_plans at ≡ found → P (Client at) (renew_client found at s.ends)
  client_anew None at is = none (Client at)
  client_anew (Some plan) at is = clients at plan is

  pub renew_plain_by : (end : EndId) → P end (renew_plain end s)
  renew_plain_by (Controller at) = controller_anew (slice_get s.ends.controllers at) at refl
  renew_plain_by (Member at) = member_anew (slice_get s.member_plans at) at refl
  renew_plain_by (Client at) = client_anew (slice_get s.client_plans at) at refl
  renew_plain_by (Station at) = none (Station at)
