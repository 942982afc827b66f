-- That there are as many ends as before, with the same plans, after each move.
-- Of `ends_stay`.
use Rattle.std.proofs.Common.{◌≡◌, ℕ, List, [], ◌∷◌, length, Some, refl, ap, ap₂, ◌∙◌, slice_set}
use Rattle.std.proofs.lemmas.List.{length-set}
use Rattle.outside.specs.declared.action.Action.{Action}
use Rattle.outside.specs.declared.event.Event.{Event}
use Rattle.domain_controller.specs.State.{State as ControllerState}
use Rattle.domain_controller.specs.SealStep.{seal_step_of as controller_step_of}
use Rattle.interactive_station.specs.Machine.{begin_of as station_begin_of, fresh_station, step_of as station_step_of}
use Rattle.interactive_station.specs.State.{StationState}
use Rattle.logon_client.specs.State.{State as ClientState}
use Rattle.logon_client.specs.Machine.{begin_of, fresh_client, step_of as client_step_of}
use Rattle.member_server.specs.State.{State as MemberState}
use Rattle.member_server.specs.SealStep.{any_step_of as member_step_of, sealing_member}
use Rattle.world_moves.specs.declared.links.EndId.{EndId}
use Rattle.world_moves.specs.declared.moves.Move.TheVariants as move
use Rattle.world_moves.specs.declared.state.State.{State}
use Rattle.world_moves.specs.Acting.{forget, hear, perform_quietly, shut_link}
use Rattle.world_moves.specs.Ends.{EndStates, EndStep, end_in, fresh_controller}
use Rattle.world_moves.specs.MemberPlans.{AreAlikeButSecrets}
use Rattle.world_moves.specs.Moving.{answered_link, begun, changed, connect, end_of_peer, onward, renewed, settle, start, station_begun, tick, with_link, without_first}
use Rattle.world_moves.proofs.ChangeLaws.{by_change, member_begun}
use Rattle.world_moves.proofs.EndKindLaws.{renew_by, step_by}
use Rattle.world_moves.proofs.KeptLaws.{plans_alike}
use Rattle.world_moves.proofs.StateFrameLaws.{HoldsMoving, move_so}
use Rattle.logon_runs.specs.Scenes.Staying.{AreAsMany, EndsStay, HasSameEnds}

as_many : (ends : EndStates) → AreAsMany ends ends
as_many ends = record { controllers = refl; members = refl; clients = refl; stations = refl }

same_ends : (s : State) → HasSameEnds s s
same_ends s = record { ends = as_many s.ends; members = refl; clients = refl }

-- the ends alone change
of_ends : (s after : State) → AreAlikeButSecrets s.member_plans after.member_plans → after.client_plans ≡ s.client_plans → AreAsMany s.ends after.ends → HasSameEnds s after
of_ends s after members clients ends = record { ends = ends; members = members; clients = clients }

pub both_same : (s between after : State) → HasSameEnds s between → HasSameEnds between after → HasSameEnds s after
both_same s between after first then_same = record {
  ends = record {
    controllers = then_same.ends.controllers ∙ first.ends.controllers;
    members = then_same.ends.members ∙ first.ends.members;
    clients = then_same.ends.clients ∙ first.ends.clients;
    stations = then_same.ends.stations ∙ first.ends.stations;
  };
  members = then_same.members ∙ first.members;
  clients = then_same.clients ∙ first.clients;
}

-- ---- one end is another

controller_set : (ends : EndStates) (at : ℕ) (controller : ControllerState) → AreAsMany ends (record ends { controllers = slice_set ends.controllers at controller })
controller_set ends at controller = record { controllers = length-set ends.controllers at controller; members = refl; clients = refl; stations = refl }

member_set : (ends : EndStates) (at : ℕ) (member : MemberState) → AreAsMany ends (record ends { members = slice_set ends.members at member })
member_set ends at member = record { controllers = refl; members = length-set ends.members at member; clients = refl; stations = refl }

client_set : (ends : EndStates) (at : ℕ) (client : ClientState) → AreAsMany ends (record ends { clients = slice_set ends.clients at client })
client_set ends at client = record { controllers = refl; members = refl; clients = length-set ends.clients at client; stations = refl }

station_set : (ends : EndStates) (at : ℕ) (station : StationState) → AreAsMany ends (record ends { stations = slice_set ends.stations at station })
station_set ends at station = record { controllers = refl; members = refl; clients = refl; stations = length-set ends.stations at station }

-- ---- what changes

heard_same : (end : EndId) (what : Event) (s : State) → HasSameEnds s (hear end what s).state
heard_same end what s =
    of_ends s (hear end what s).state refl refl
    (step_by (λ (one : EndId) (step : EndStep). AreAsMany s.ends step.ends) what s.moment s.ends s.chances (λ one. as_many s.ends)
    (λ at c is. controller_set s.ends at (controller_step_of c what s.moment s.chances.left).state)
    (λ at m is. member_set s.ends at (member_step_of m what s.moment s.chances.left).state) (λ at c is. client_set s.ends at (client_step_of c what s.moment s.chances.left).state)
    (λ at t is. station_set s.ends at (station_step_of t what s.moment s.chances.left).state) end)

renewed_same : (end : EndId) (s : State) → HasSameEnds s (renewed end s)
renewed_same end s =
    of_ends s (renewed end s) refl refl
    (renew_by (λ (one : EndId) (ends : EndStates). AreAsMany s.ends ends) s (λ one. as_many s.ends) (λ at c is. controller_set s.ends at (fresh_controller s.hands_on s.seals c.table c.name))
    (λ at plan is. member_set s.ends at (sealing_member plan)) (λ at plan is. client_set s.ends at (fresh_client plan))
    (λ at plan is. station_set s.ends at (fresh_station plan)) end)

changed_same : (at : ℕ) (secret : List ℕ) (s : State) → HasSameEnds s (changed at secret s).state
changed_same at secret s =
    of_ends s (changed at secret s).state refl refl
    (by_change (λ (ends : EndStates) (actions : List Action). AreAsMany s.ends ends) at secret s.ends (as_many s.ends) (λ running is none. member_set s.ends at (member_begun secret running)))

-- ---- a move

moves_same : HoldsMoving HasSameEnds
moves_same = record {
  acting = record {
    none = same_ends;
    both = both_same;
    hears = heard_same;
    acts = λ end what s. of_ends s (perform_quietly end what s) (plans_alike end what s.member_plans) refl (as_many s.ends);
    shuts = λ link s. of_ends s (shut_link link s) refl refl (as_many s.ends);
  };
  begins = λ client plan s. of_ends s (begun client plan s).state refl refl (client_set s.ends client (begin_of (fresh_client plan)).state);
  starts = λ station plan s. of_ends s (station_begun station plan s).state refl refl (station_set s.ends station (station_begin_of (fresh_station plan)).state);
  opens = λ route s. of_ends s (with_link route s) refl refl (as_many s.ends);
  answers = λ link there s is. of_ends s (answered_link link there s) refl refl (as_many s.ends);
  forgets = λ end s. of_ends s (forget end s) refl refl (as_many s.ends);
  settles = λ number s. of_ends s (settle number s) refl refl (as_many s.ends);
  dials = λ s. of_ends s (without_first s) refl refl (as_many s.ends);
  renews = renewed_same;
  changes = changed_same;
  ticks = λ more s. of_ends s (tick more s) refl refl (as_many s.ends);
}

-- ---- addresses

reach_same : (peer : List ℕ) (ends after : EndStates) → AreAsMany ends after → end_of_peer peer after ≡ end_of_peer peer ends
reach_same [] ends after are = refl
reach_same (number ∷ []) ends after are =
    ap (λ (n : ℕ). end_in number n (length after.members) (length after.clients) (length after.stations)) are.controllers
    ∙ ap₂ (λ (n more : ℕ). end_in number (length ends.controllers) n more (length after.stations)) are.members are.clients
    ∙ ap (λ (n : ℕ). end_in number (length ends.controllers) (length ends.members) (length ends.clients) n) are.stations
reach_same (number ∷ more ∷ peer) ends after are = refl

pub ends_stay : EndsStay
ends_stay = record {
  acts = λ s what. move_so HasSameEnds moves_same what s;
  none = same_ends;
  both = both_same;
  reach = reach_same;
}

-- ---- of several moves

pub goes_same : (s : State) → HasSameEnds s (onward s).state
goes_same s = ends_stay.acts s move.Onward

pub connects_same : (s : State) → HasSameEnds s (connect s).state
connects_same s = ends_stay.acts s move.Connect

pub starts_same : (number : ℕ) (s : State) → HasSameEnds s (start number s).state
starts_same number s = ends_stay.acts s (move.Start number)

pub reach_still : (peer : List ℕ) (end : EndId) (s after : State) → HasSameEnds s after → end_of_peer peer s.ends ≡ Some end → end_of_peer peer after.ends ≡ Some end
reach_still peer end s after same reach = reach_same peer s.ends after.ends same.ends ∙ reach
