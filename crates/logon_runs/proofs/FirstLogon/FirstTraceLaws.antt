-- What is seen at each move of the three turns of a member that has no channel yet.
-- Of `first_turns_are_seen`.
use Rattle.std.proofs.Common.{ℕ, ◌<◌, ◌^◌, List, [], ◌∷◌, refl, ap, subst, arith}
use Rattle.wire_base.specs.Names.{same_name}
use Rattle.wire_base.proofs.MapLaws.{lookup-put_same}
use Rattle.authenticators.specs.SecureChannels.{SecureChannelState, after_call}
use Rattle.outside.specs.declared.action.Judged.TheVariants as judged
use Rattle.logon_stubs.specs.declared.calls.Call.{Call}
use Rattle.logon_stubs.specs.declared.calls.Reply.{Reply}
use Rattle.logon_stubs.specs.declared.calls.Reply.TheVariants as reply
use Rattle.logon_stubs.specs.declared.info.SamInfo.{SamInfo}
use Rattle.account_table.specs.AccountTable.{AccountTable}
use Rattle.channel_client.specs.declared.state.Question.TheVariants as question
use Rattle.channel_client.specs.declared.state.Standing.{Standing}
use Rattle.channel_client.specs.declared.state.Standing.TheVariants as standing
use Rattle.channel_client.specs.declared.state.Step.TheVariants as step
use Rattle.channel_client.specs.Machine.{after, auth_call, challenge_call, logon_call, offered_flags, server_credential}
use Rattle.controller_calls.specs.declared.state.Computers.{Computers}
use Rattle.member_server.specs.Messages.{info_of}
use Rattle.member_server.specs.Turns.{timestamp_of}
use Rattle.world_moves.specs.declared.state.State.{State}
use Rattle.world_moves.specs.Links.{OpenMap}
use Rattle.world_moves.specs.declared.links.EndId.{EndId}
use Rattle.world_moves.specs.declared.links.EndId.TheVariants.{Controller}
use Rattle.logon_steps.specs.Granting.{cleared}
use Rattle.logon_steps.specs.Answering.{pair_of}
use Rattle.logon_steps.specs.BesideTrusts.{AtTrusts}
use Rattle.logon_steps.specs.Answers.{logon_for}
use Rattle.logon_steps.specs.Meeting.{bound_for, flags_agreed}
use Rattle.logon_steps.specs.MemberAnswers.{granting}
use Rattle.logon_steps.specs.MemberLinks.{asked_talk}
use Rattle.logon_steps.proofs.AnsweringLaws.{calls_are_answered}
use Rattle.logon_steps.proofs.CallingLaws.{calls_can_go}
use Rattle.logon_steps.proofs.BesideTrustsLaws.{trusts_stay_beside}
use Rattle.logon_steps.proofs.ControllerTurnLaws.{controllers_step}
use Rattle.logon_runs.specs.Scenes.AskScenes.{turn_of, with_talk}
use Rattle.logon_runs.specs.Scenes.TurnScenes.{TurnScene, dial_scene, kept_in, next_turn}
use Rattle.logon_runs.specs.Scenes.TwoLinks.{HasMet}
use Rattle.logon_runs.specs.FirstLogon.FirstTraces.{FirstTurnsAreSeen}
use Rattle.logon_runs.specs.Scenes.LinkScenes.{its_link, unit_up}
use Rattle.logon_runs.specs.FirstLogon.FirstRuns.{channel_as, opened_at, opens_as, go_through_turn, with_pair}
use Rattle.logon_runs.specs.Runs.{connects, goes, hidden, info_asked, message_for, sam_for, with_moved}
use Rattle.logon_runs.specs.Scenes.Scene.{Shows}
use Rattle.logon_runs.specs.Scenes.Staying.{HasSameEnds}
use Rattle.logon_runs.proofs.Scenes.AskSceneLaws.{logons_are_seen}
use Rattle.logon_runs.proofs.Scenes.LinkSceneLaws.{found_here}
use Rattle.logon_runs.proofs.RunLaws.{grants_so, same_computer, timestamp_below, twice_same}
use Rattle.logon_runs.proofs.Scenes.StayingLaws.{both_same, connects_same, reach_still}
use Rattle.logon_runs.proofs.Scenes.TurnSceneLaws.{turns_are_seen}
use Rattle.logon_runs.proofs.Scenes.TwoLinkLaws.{turns_have_links}

-- call numbers wrap at 2^32
pub after_below : (n : ℕ) → after n < 2 ^ 32
after_below n = omega arith

turned_same : (s : State) → HasSameEnds s (go_through_turn s)
turned_same s =
    let s1 : State = connects s in
    both_same s s1 (go_through_turn s) (connects_same s)
    (both_same s1 (goes (goes s1)) (go_through_turn s) (twice_same s1) (twice_same (goes (goes s1))))

pub first_turns_are_seen : FirstTurnsAreSeen
first_turns_are_seen = record {
  turns = λ s g a client server table name account machine computers waits one other left moment is reach who shows.
      let stamp : ℕ = timestamp_of moment in
      let n1 : ℕ = after g.number in
      let n2 : ℕ = after n1 in
      let n3 : ℕ = after n2 in
      let n4 : ℕ = after n3 in
      let n5 : ℕ = after n4 in
      let n6 : ℕ = after n5 in
      let o : SecureChannelState = opens_as g client server in
      let c : SecureChannelState = channel_as g machine client server in
      let sam : SamInfo = sam_for g a table name account moment in
      let half : Standing = standing.Half client server in
      let how : Standing = standing.Open (after_call o stamp) in
      let first : Call = challenge_call g.caller client in
      let second : Call = auth_call g.caller client server in
      let third : Call = logon_call g.caller o stamp (info_asked g a) in
      let first_reply : Reply = reply.Challenge (record { challenge = server; status = 0 }) in
      let second_reply : Reply = reply.Authenticate (record { credential = server_credential g.caller.secret client server; flags = offered_flags; status = 0 }) in
      let third_reply : Reply = granting o stamp 0 1 (hidden o sam) in
      let t : TurnScene = turn_of g waits (info_of (message_for g a) (flags_agreed g.task) a.challenge) (logon_for g.link g.task a.challenge (message_for g a))
      (asked_talk (bound_for g.task) g.place []) table name in
      let held : TurnScene = with_talk g.link (asked_talk (bound_for g.task) g.place (who.sent ∷ [])) t in
      let t1 : TurnScene = next_turn held (its_link g) standing.Nothing in
      let t2 : TurnScene = next_turn t1 (its_link g) half in
      let t3 : TurnScene = next_turn t2 (its_link g) how in
      let met1 : HasMet g t1 = turns_have_links.met g held standing.Nothing is.joined in
      let met2 : HasMet g t2 = turns_have_links.met g t1 half met1 in
      let paired : Computers = with_pair g client server computers in
      let opened : Computers = opened_at g machine client server computers in
      let later : Computers = with_moved g c stamp opened in
      let can_first = calls_can_go.challenge g.caller client is.caller is.block in
      let can_second = calls_can_go.authenticate g.caller client server is.caller in
      let can_third = calls_can_go.logon g.caller o stamp (info_asked g a) is.caller (timestamp_below moment) is.info in
      let between1 = turns_have_links.between g held standing.Nothing is.joined in
      let between2 = turns_have_links.between g t1 half met1 in
      let between3 = turns_have_links.between g t2 how met2 in
      let answered = trusts_stay_beside.called (kept_in t3 opened) t3.link moment n5 third left left _ _ _ g.trusts.nobody (after_below n4) can_third
      (trusts_stay_beside.alone (kept_in t3 opened) third (ap (λ (trusts : AtTrusts). trusts.requesters) is.alone))
      (grants_so g a o c table name account opened t3.link n5 moment left (after_below n4) is.caller is.info
      (lookup-put_same same_name g.caller.computer c paired.channels (same_computer g.caller.computer))
      (calls_are_answered.in_step g.caller client server machine is.secret) is.can is.units is.draws is.found is.hash is.may) in
      let accounts : AccountTable = cleared table g.task.user in
      let s2 : State = goes (goes s) in
      let s3 : State = go_through_turn s2 in
      let s4 : State = go_through_turn s3 in
      let peer : List ℕ = g.plan.controller in
      let at : EndId = Controller g.at_controller in
      let same2 : HasSameEnds s s2 = twice_same s in
      let same3 : HasSameEnds s s3 = both_same s s2 s3 same2 (turned_same s2) in
      let same4 : HasSameEnds s s4 = both_same s s3 s4 same3 (turned_same s3) in
      let asked : Shows (goes s) (dial_scene t (its_link g) standing.Nothing n1 g.number first computers (unit_up g who.sent ∷ []) (server ∷ left) moment) =
      logons_are_seen.asks_first s g waits a.challenge a.one a.two a.three client who.sent a.then_now table name computers (server ∷ left) moment is.stands is.fits is.can is.names is.draws shows in
      let dial1 : Shows s2 (dial_scene held (its_link g) standing.Nothing n1 g.number first computers [] (server ∷ left) moment) =
      logons_are_seen.held_before (goes s) g t (its_link g) standing.Nothing n1 g.number 1 2 0 (step.Bind first) computers [] _ _ who [] (server ∷ left) moment refl (found_here g) asked in
      let bind1 =
      turns_are_seen.dialled s2 held (its_link g) standing.Nothing n1 g.number (step.Bind first) computers [] (server ∷ left) moment (reach_still peer at s s2 same2 reach) (turns_have_links.found g held is.joined)
      (turns_have_links.new g held _ is.joined) between1 dial1 in
      let ack1 = turns_are_seen.bound _ t1 n1 g.number (step.Bind first) computers (server ∷ left) moment between1 is.number bind1 in
      let call1 = turns_are_seen.asks _ t1 n1 g.number first computers (server ∷ left) moment between1 is.number ack1 in
      let reply1 =
      turns_are_seen.answers _ t1 n2 n1 (step.Reply (question.Challenge client)) first first_reply computers paired (server ∷ left) left moment between1 can_first
      (trusts_stay_beside.called (kept_in t1 computers) t1.link moment n1 first (server ∷ left) left _ _ _ g.trusts.nobody (after_below g.number) can_first tt
      (controllers_step.challenged table name computers t1.link moment n1 g.caller client server left (after_below g.number) can_first is.knows)) call1 in
      let dial2 : Shows s3 (dial_scene t1 (its_link g) half n3 n2 second paired [] left moment) =
      subst (λ (map : OpenMap). Shows s3 (dial_scene t1 map half n3 n2 second paired [] left moment)) (turns_have_links.taken g held standing.Nothing is.joined)
      (turns_are_seen.half _ t1 n2 n1 client server paired left moment between1 (after_below g.number) refl (calls_can_go.challenged client server is.server_block) reply1) in
      let bind2 =
      turns_are_seen.dialled s3 t1 (its_link g) half n3 n2 (step.Bind second) paired [] left moment (reach_still peer at s s3 same3 reach) (turns_have_links.found g t1 met1)
      (turns_have_links.new g t1 _ met1) between2 dial2 in
      let ack2 = turns_are_seen.bound _ t2 n3 n2 (step.Bind second) paired left moment between2 (after_below n1) bind2 in
      let call2 = turns_are_seen.asks _ t2 n3 n2 second paired left moment between2 (after_below n1) ack2 in
      let reply2 =
      turns_are_seen.answers _ t2 n4 n3 (step.Reply question.Authenticate) second second_reply paired opened left left moment between2 can_second
      (trusts_stay_beside.called (kept_in t2 paired) t2.link moment n3 second left left _ _ _ g.trusts.nobody (after_below n2) can_second tt
      (controllers_step.proved table name paired t2.link moment n3 g.caller client server machine left (after_below n2) can_second is.machine_found is.secret
      (lookup-put_same same_name g.caller.computer (pair_of client server) computers.pending (same_computer g.caller.computer)))) call2 in
      let dial3 : Shows s4 (dial_scene t2 (its_link g) how n5 n4 third opened [] left moment) =
      subst (λ (map : OpenMap). Shows s4 (dial_scene t2 map how n5 n4 third opened [] left moment)) (turns_have_links.taken g t1 half met1)
      (turns_are_seen.opened _ t2 n4 n3 offered_flags client server opened left moment between2 (after_below n2) refl is.one refl (calls_can_go.proved g.caller.secret client server) reply2) in
      let bind3 =
      turns_are_seen.dialled s4 t2 (its_link g) how n5 n4 (step.Bind third) opened [] left moment (reach_still peer at s s4 same4 reach) (turns_have_links.found g t2 met2)
      (turns_have_links.new g t2 _ met2) between3 dial3 in
      let ack3 = turns_are_seen.bound _ t3 n5 n4 (step.Bind third) opened left moment between3 (after_below n3) bind3 in
      let call3 = turns_are_seen.asks _ t3 n5 n4 third opened left moment between3 (after_below n3) ack3 in
      record {
        asked = asked;
        held = dial1;
        challenge = record { bind = bind1; ack = ack1; call = call1; reply = reply1 };
        half = dial2;
        proof = record { bind = bind2; ack = ack2; call = call2; reply = reply2 };
        opened = dial3;
        logon = record {
          bind = bind3;
          ack = ack3;
          call = call3;
          reply = turns_are_seen.judges _ t3 n6 n5 (step.Reply question.Logon) third third_reply (judged.Passed 0) opened later accounts left left moment between3 can_third answered call3;
        };
      };
}
