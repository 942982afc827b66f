-- After the first logon in a world the channel stands at both ends.
-- It serves `a_run_is_clear`.
use Rattle.std.proofs.Common.{◌≡◌, ℕ, true, List, [], ◌∷◌, length, Option, Some, None, refl, sym, ap, ◌∙◌}
use Rattle.std.specs.Prelude.{◌==◌, slice_get}
use Rattle.wire_base.specs.Maps.{take_out}
use Rattle.wire_base.specs.Names.{same_name}
use Rattle.wire_base.proofs.MapLaws.{lookup-put_same}
use Rattle.authenticators.specs.SecureChannels.{channel_of, SecureChannelState, after_call, after_return, fresh_channel}
use Rattle.authenticators.specs.Sequences.{next_seed}
use Rattle.channel_client.specs.Machine.{offered_flags}
use Rattle.member_server.specs.Turns.{timestamp_of}
use Rattle.member_server.specs.declared.plan.MemberPlan.{MemberPlan}
use Rattle.member_server.specs.State.{State as MemberState}
use Rattle.world_moves.specs.declared.links.EndId.{EndId}
use Rattle.world_moves.specs.declared.links.EndId.TheVariants.{Controller}
use Rattle.world_moves.specs.declared.moves.Move.{Move}
use Rattle.world_moves.specs.declared.plan.Plan.{Plan}
use Rattle.world_moves.specs.declared.state.State.{State}
use Rattle.world_moves.specs.Choosing.{chosen_place}
use Rattle.world_moves.specs.Ends.{EndStates}
use Rattle.world_moves.specs.Forms.{HasForms}
use Rattle.world_moves.specs.Moving.{end_of_peer}
use Rattle.world_moves.specs.World.{IsPlan, World, first_world, happens, run, starters_of}
use Rattle.domain_world.specs.Past.{controller_number, controller_of_plan, past, requester_in, running_in, controller_asked}
use Rattle.logon_steps.specs.Answering.{moved}
use Rattle.logon_runs.specs.FirstLogon.FirstLogonRuns.{after_first}
use Rattle.logon_runs.specs.FirstLogon.FirstRuns.{channel_as, opened_at, opens_as}
use Rattle.logon_runs.specs.FirstLogon.FirstWorlds.{CanComeIn, FirstKeyArrives, draw, first_meeting, logon_moves, no_computers}
use Rattle.logon_runs.specs.Scenes.LinkScenes.{joined, Meeting, resting}
use Rattle.logon_runs.specs.Scenes.Staying.{HasSameEnds}
use Rattle.logon_runs.proofs.FirstLogon.FirstWorldLaws.{first_worlds_run}
use Rattle.logon_runs.proofs.RunLaws.{same_computer}
use Rattle.logon_runs.proofs.Scenes.StayingLaws.{ends_stay}
use Rattle.claim_examples.specs.ClearRuns.{HasSharedChannel}
use Rattle.step_notes.specs.Records.{OfMember}
use Rattle.domain_world.proofs.Moves.MemberPlanLaws.{controllers_alike}

-- ---- a member keeps its controller

same_ends : (moves : List Move) (w : World) → HasSameEnds w.state (run moves w).state
same_ends [] w = ends_stay.none w.state
same_ends (what ∷ moves) w = ends_stay.both w.state (happens w what).state (run moves (happens w what)).state (ends_stay.acts w.state what) (same_ends moves (happens w what))

by_plan : (found : Option MemberPlan) (plan : MemberPlan) (ends : EndStates) (controller : ℕ) → found ≡ Some plan → end_of_peer plan.controller ends ≡ Some (Controller controller) →
    controller_of_plan found ends ≡ controller
by_plan found plan ends controller is reaches =
    ap (λ (p : Option MemberPlan). controller_of_plan p ends) is ∙ ap (λ (end : Option EndId). controller_number end (length ends.controllers)) reaches

-- ---- the channel

module _ (plan : Plan) (client member controller number : ℕ) (is : IsPlan plan) (forms : HasForms plan) (chosen : chosen_place number (starters_of plan) ≡ Some client)
    (can : CanComeIn plan client member controller) (arrives : FirstKeyArrives plan client member controller can) where
  abbrev moves : List Move
  moves = logon_moves number (can.task.echo == 0)

  abbrev s : State
  s = (run moves (first_world plan)).state

  abbrev g : Meeting
  g = first_meeting plan client member controller can

  abbrev end : Meeting
  end = after_first g [] can.machine (draw plan 4) (draw plan 5) can.table can.name no_computers plan.now

  abbrev stamp : ℕ
  stamp = timestamp_of plan.now

  abbrev o : SecureChannelState
  o = after_return true (after_call (opens_as g (draw plan 4) (draw plan 5)) stamp)

  abbrev c : SecureChannelState
  c = moved (channel_as (joined g []) can.machine (draw plan 4) (draw plan 5)) stamp

  its_controller : controller_asked (OfMember member) s ≡ controller
  its_controller =
      let stays : HasSameEnds (first_world plan).state s = same_ends moves (first_world plan) in
      controllers_alike plan.members s.member_plans member s.ends stays.members
      ∙ by_plan (slice_get plan.members member) can.member_plan s.ends controller can.is_member_plan
      (ends_stay.reach can.member_plan.controller (first_world plan).state.ends s.ends stays.ends ∙ can.is_controller)

  pub shared_channel : HasSharedChannel (past plan moves)
  shared_channel =
      let rests = (first_worlds_run.comes_in plan client member controller number is forms chosen can arrives).rests in
      record {
        who = OfMember member;
        channel = channel_of controller can.member_plan.computer o;
        o = o;
        c = c;
        stands = record {
          requester = (resting end).channel;
          at = ap (λ (found : Option MemberState). requester_in (running_in found)) rests.member;
          open_so = refl;
          is = ap (λ (k : ℕ). channel_of k can.member_plan.computer o) (sym its_controller);
          turn = None;
          is_turn = refl;
        };
        keeps = record {
          state = end.controller;
          running = _;
          at = rests.controller;
          runs = refl;
          kept = lookup-put_same same_name can.member_plan.computer c
              (take_out same_name can.member_plan.computer (opened_at (joined g []) can.machine (draw plan 4) (draw plan 5) no_computers).channels) (same_computer can.member_plan.computer);
        };
        same = record { controller = refl; computer = refl; secret = can.secret; client = refl; server = refl; flags = refl };
        seed = ap (λ (secret : List ℕ). next_seed (fresh_channel secret (draw plan 4) (draw plan 5) offered_flags).seed stamp) can.secret;
      }
