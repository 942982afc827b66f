-- The three turns of a member that has no channel yet.
-- Of `first_turns_run`.
use Rattle.std.proofs.Common.{ℕ, true, List, [], ◌∷◌, refl}
use Rattle.wire_base.specs.Maps.{take_out}
use Rattle.wire_base.specs.Names.{same_name}
use Rattle.wire_base.proofs.MapLaws.{lookup-put_same}
use Rattle.authenticators.specs.SecureChannels.{SecureChannelState, after_call, after_return}
use Rattle.logon_stubs.specs.declared.info.SamInfo.{SamInfo}
use Rattle.account_table.specs.AccountTable.{AccountTable}
use Rattle.channel_client.specs.declared.state.Standing.{Standing}
use Rattle.channel_client.specs.declared.state.Standing.TheVariants as standing
use Rattle.channel_client.specs.Machine.{after}
use Rattle.controller_calls.specs.declared.state.Computers.{Computers}
use Rattle.member_server.specs.Turns.{timestamp_of}
use Rattle.logon_steps.specs.Granting.{cleared}
use Rattle.logon_steps.specs.Answering.{moved}
use Rattle.logon_steps.proofs.AnsweringLaws.{calls_are_answered}
use Rattle.logon_runs.specs.Scenes.TurnScenes.{TurnScene, with_accounts}
use Rattle.logon_runs.specs.Scenes.TwoLinks.{HasMet}
use Rattle.logon_runs.specs.FirstLogon.FirstTraces.{FirstTurnsSeen, asked_turn, turn_first, turn_second, turn_third}
use Rattle.logon_runs.specs.FirstLogon.FirstRuns.{FirstTurnsRun, channel_as, opened_at, opens_as}
use Rattle.logon_runs.specs.Runs.{hidden, message_for, sam_for, with_moved}
use Rattle.logon_runs.proofs.FirstLogon.FirstTraceLaws.{after_below, first_turns_are_seen}
use Rattle.logon_runs.proofs.Scenes.AskSceneLaws.{logons_are_seen}
use Rattle.logon_runs.proofs.RunLaws.{between_still, same_computer}
use Rattle.logon_runs.proofs.Scenes.TwoLinkLaws.{turns_have_links}

pub first_turns_run : FirstTurnsRun
first_turns_run = record {
  granted = λ s g a client server table name account machine computers waits left moment is reach who back shows.
      let stamp : ℕ = timestamp_of moment in
      let o : SecureChannelState = opens_as g client server in
      let sam : SamInfo = sam_for g a table name account moment in
      let sent : List ℕ = who.sent in
      let n5 : ℕ = after (after (after (after (after g.number)))) in
      let held : TurnScene = asked_turn g a waits (sent ∷ []) table name in
      let t1 : TurnScene = turn_first g a waits sent table name in
      let t2 : TurnScene = turn_second g a waits client server sent table name in
      let t3 : TurnScene = turn_third g a waits client server sent table name stamp in
      let half : Standing = standing.Half client server in
      let how : Standing = standing.Open (after_call o stamp) in
      let met2 : HasMet g t2 = turns_have_links.met g t1 half (turns_have_links.met g held standing.Nothing is.joined) in
      let later : Computers = with_moved g (channel_as g machine client server) stamp (opened_at g machine client server computers) in
      let accounts : AccountTable = cleared table g.task.user in
      let seen : FirstTurnsSeen s g a client server table name account machine computers waits sent left moment =
      first_turns_are_seen.turns s g a client server table name account machine computers waits _ _ left moment is reach who shows in
      logons_are_seen.granted _ g (with_accounts accounts t3) o waits a.challenge (message_for g a) (hidden o sam) (after n5) n5 stamp 0 1 1 later _ left moment
      (after_below (after (after (after (after g.number))))) (between_still t3 accounts (turns_have_links.between g t2 how met2)) is.joined is.logon_reply is.short who back refl
      (turns_have_links.met g t2 how met2) (turns_have_links.taken g t2 how met2) seen.logon.reply;
  stays = λ g client server machine computers timestamp secret.
      let o : SecureChannelState = opens_as g client server in
      let c : SecureChannelState = channel_as g machine client server in
      record {
        member = after_return true (after_call o timestamp);
        stands = refl;
        controller = moved c timestamp;
        channel = lookup-put_same same_name g.caller.computer (moved c timestamp)
            (take_out same_name g.caller.computer (opened_at g machine client server computers).channels) (same_computer g.caller.computer);
        in_step = calls_are_answered.stays o c timestamp (calls_are_answered.in_step g.caller client server machine secret);
      };
}
