-- What holds of an end by its kind, and what a step of an end comes to, or making it anew. A law that is about ends of
-- one kind says here what it asks of them, and of all others at once. It serves `World::report`, `runs_stand_so` and
-- the laws of all runs that speak of one kind of ends.
use Rattle.std.proofs.Common.{◌≡◌, ℕ, Bool, true, false, List, Option, Some, None, slice_get, slice_set, refl, subst, sym, ap, ◌∙◌}
use Rattle.outside.specs.Drawing.{Drawing}
use Rattle.outside.specs.declared.event.Event.{Event}
use Rattle.domain_controller.specs.SealStep.{seal_step_of as controller_step_of}
use Rattle.domain_controller.specs.State.{State as ControllerState}
use Rattle.interactive_station.specs.State.{StationState}
use Rattle.interactive_station.specs.Machine.{fresh_station, step_of as station_step_of}
use Rattle.interactive_station.specs.declared.plan.StationPlan.{StationPlan}
use Rattle.logon_client.specs.State.{State as ClientState}
use Rattle.logon_client.specs.Machine.{fresh_client, step_of as client_step_of}
use Rattle.logon_client.specs.declared.plan.ClientPlan.{ClientPlan}
use Rattle.member_server.specs.State.{State as MemberState}
use Rattle.member_server.specs.SealStep.{any_step_of as member_step_of, sealing_member}
use Rattle.member_server.specs.declared.plan.MemberPlan.{MemberPlan}
use Rattle.world_moves.specs.declared.links.EndId.{EndId}
use Rattle.world_moves.specs.declared.links.EndId.TheVariants.{Controller, Member, Client, Station}
use Rattle.world_moves.specs.declared.state.State.{State}
use Rattle.world_moves.specs.Ends.{EndStates, EndStep, client_done, client_step, controller_done, controller_step, end_step, fresh_controller, member_done, member_step, no_step, renew_client, renew_controller, renew_member, renew_station, station_done, station_step, with_client, with_member, with_station}
use Rattle.world_moves.specs.Moving.{renew}

-- ---- an end of one kind, or of any other

abbrev pub is_controller : EndId → Bool
is_controller (Controller at) = true
is_controller _ = false

abbrev pub is_member : EndId → Bool
is_member (Member at) = true
is_member _ = false

abbrev pub is_client : EndId → Bool
is_client (Client at) = true
is_client _ = false

pub by_controller : (P : EndId → Type 0) → ((at : ℕ) → P (Controller at)) → ((end : EndId) → is_controller end ≡ false → P end) → (end : EndId) → P end
by_controller P own others (Controller at) = own at
by_controller P own others (Member at) = others (Member at) refl
by_controller P own others (Client at) = others (Client at) refl
by_controller P own others (Station at) = others (Station at) refl

pub by_member : (P : EndId → Type 0) → ((at : ℕ) → P (Member at)) → ((end : EndId) → is_member end ≡ false → P end) → (end : EndId) → P end
by_member P own others (Controller at) = others (Controller at) refl
by_member P own others (Member at) = own at
by_member P own others (Client at) = others (Client at) refl
by_member P own others (Station at) = others (Station at) refl

-- What is said of an end where it is of that kind: of another end nothing is.
abbrev pub IfController : (ℕ → Type 0) → EndId → Type 0
IfController Fact end = (at : ℕ) → end ≡ Controller at → Fact at

abbrev pub IfMember : (ℕ → Type 0) → EndId → Type 0
IfMember Fact end = (at : ℕ) → end ≡ Member at → Fact at

abbrev pub IfClient : (ℕ → Type 0) → EndId → Type 0
IfClient Fact end = (at : ℕ) → end ≡ Client at → Fact at

pub of_member : (Fact : ℕ → Type 0) (at : ℕ) → Fact at → IfMember Fact (Member at)
of_member Fact at fact k same = subst Fact (let is : at ≡ k = cc in is) fact

pub no_member : (Fact : ℕ → Type 0) (end : EndId) → is_member end ≡ false → IfMember Fact end
no_member Fact end other at same = absurd (let never : true ≡ false = sym (ap is_member same) ∙ other in cc)

-- ---- what a step of an end comes to: nothing where it isn't there, else the step of its machine in its place

module _ (P : EndId → EndStep → Type 0) (what : Event) (now : ℕ) (ends : EndStates) (chances : Drawing) (none : (end : EndId) → P end (no_step ends chances))
    (controllers : (at : ℕ) (c : ControllerState) → slice_get ends.controllers at ≡ Some c → P (Controller at) (controller_done (controller_step_of c what now chances.left) at ends chances))
    (members : (at : ℕ) (m : MemberState) → slice_get ends.members at ≡ Some m → P (Member at) (member_done (member_step_of m what now chances.left) at ends chances))
    (clients : (at : ℕ) (c : ClientState) → slice_get ends.clients at ≡ Some c → P (Client at) (client_done (client_step_of c what now chances.left) at ends chances))
    (stations : (at : ℕ) (t : StationState) → slice_get ends.stations at ≡ Some t → P (Station at) (station_done (station_step_of t what now chances.left) at ends chances)) where
  controller_by : (found : Option ControllerState) (at : ℕ) → slice_get ends.controllers at ≡ found → P (Controller at) (controller_step found at what now ends chances)
  controller_by None at is = none (Controller at)
  controller_by (Some c) at is = controllers at c is

  member_by : (found : Option MemberState) (at : ℕ) → slice_get ends.members at ≡ found → P (Member at) (member_step found at what now ends chances)
  member_by None at is = none (Member at)
  member_by (Some m) at is = members at m is

  client_by : (found : Option ClientState) (at : ℕ) → slice_get ends.clients at ≡ found → P (Client at) (client_step found at what now ends chances)
  client_by None at is = none (Client at)
  client_by (Some c) at is = clients at c is

  station_by : (found : Option StationState) (at : ℕ) → slice_get ends.stations at ≡ found → P (Station at) (station_step found at what now ends chances)
  station_by None at is = none (Station at)
  station_by (Some t) at is = stations at t is

  pub step_by : (end : EndId) → P end (end_step end what now ends chances)
  step_by (Controller at) = controller_by (slice_get ends.controllers at) at refl
  step_by (Member at) = member_by (slice_get ends.members at) at refl
  step_by (Client at) = client_by (slice_get ends.clients at) at refl
  step_by (Station at) = station_by (slice_get ends.stations at) at refl

-- ---- seen from the ends of one kind: the other ends leave them as they are

module _ (what : Event) (now : ℕ) (ends : EndStates) (chances : Drawing) where
  pub members_by : (P : EndId → List MemberState → Type 0) → ((end : EndId) → P end ends.members) →
      ((at : ℕ) (m : MemberState) → slice_get ends.members at ≡ Some m → P (Member at) (slice_set ends.members at (member_step_of m what now chances.left).state)) →
      (end : EndId) → P end (end_step end what now ends chances).ends.members
  members_by P same own end =
      step_by (λ (one : EndId) (step : EndStep). P one step.ends.members) what now ends chances same (λ at c is. same (Controller at)) own (λ at c is. same (Client at)) (λ at t is. same (Station at)) end

  pub clients_by : (P : EndId → List ClientState → Type 0) → ((end : EndId) → P end ends.clients) →
      ((at : ℕ) (c : ClientState) → slice_get ends.clients at ≡ Some c → P (Client at) (slice_set ends.clients at (client_step_of c what now chances.left).state)) →
      (end : EndId) → P end (end_step end what now ends chances).ends.clients
  clients_by P same own end =
      step_by (λ (one : EndId) (step : EndStep). P one step.ends.clients) what now ends chances same (λ at c is. same (Controller at)) (λ at m is. same (Member at)) own (λ at t is. same (Station at)) end

-- ---- an end is made anew

module _ (P : EndId → EndStates → Type 0) (s : State) (none : (end : EndId) → P end s.ends)
    (controllers : (at : ℕ) (c : ControllerState) → slice_get s.ends.controllers at ≡ Some c →
    P (Controller at) (record s.ends { controllers = slice_set s.ends.controllers at (fresh_controller s.hands_on s.seals c.table c.name) }))
    (members : (at : ℕ) (plan : MemberPlan) → slice_get s.member_plans at ≡ Some plan → P (Member at) (with_member at (sealing_member plan) s.ends))
    (clients : (at : ℕ) (plan : ClientPlan) → slice_get s.client_plans at ≡ Some plan → P (Client at) (with_client at (fresh_client plan) s.ends))
    (stations : (at : ℕ) (plan : StationPlan) → slice_get s.station_plans at ≡ Some plan → P (Station at) (with_station at (fresh_station plan) s.ends)) where
  controller_anew : (found : Option ControllerState) (at : ℕ) → slice_get s.ends.controllers at ≡ found → P (Controller at) (renew_controller s.hands_on s.seals found at s.ends)
  controller_anew None at is = none (Controller at)
  controller_anew (Some c) at is = controllers at c is

  member_anew : (found : Option MemberPlan) (at : ℕ) → slice_get s.member_plans at ≡ found → P (Member at) (renew_member found at s.ends)
  member_anew None at is = none (Member at)
  member_anew (Some plan) at is = members at plan is

  client_anew : (found : Option ClientPlan) (at : ℕ) → slice_get s.client_plans at ≡ found → P (Client at) (renew_client found at s.ends)
  client_anew None at is = none (Client at)
  client_anew (Some plan) at is = clients at plan is

  station_anew : (found : Option StationPlan) (at : ℕ) → slice_get s.station_plans at ≡ found → P (Station at) (renew_station found at s.ends)
  station_anew None at is = none (Station at)
  station_anew (Some plan) at is = stations at plan is

  pub renew_by : (end : EndId) → P end (renew end s)
  renew_by (Controller at) = controller_anew (slice_get s.ends.controllers at) at refl
  renew_by (Member at) = member_anew (slice_get s.member_plans at) at refl
  renew_by (Client at) = client_anew (slice_get s.client_plans at) at refl
  renew_by (Station at) = station_anew (slice_get s.station_plans at) at refl
