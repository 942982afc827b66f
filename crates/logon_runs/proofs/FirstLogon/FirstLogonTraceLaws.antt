-- What is seen at each move of a first logon, up to the answer of WhoAmI.
-- Of `first_logons_are_seen`.
use Rattle.std.proofs.Common.{ℕ, List, [], ◌∷◌, arith}
use Rattle.authenticators.specs.SecureChannels.{SecureChannelState}
use Rattle.logon_stubs.specs.declared.info.SamInfo.{SamInfo}
use Rattle.memo_stubs.specs.Memo.{written_who_reply}
use Rattle.memo_stubs.proofs.MemoLaws.{who_stub}
use Rattle.logon_client.specs.declared.state.Terms.{Terms}
use Rattle.member_server.specs.declared.state.LoggedOn.{LoggedOn}
use Rattle.member_server.specs.Outcomes.{name_in}
use Rattle.world_moves.specs.declared.state.State.{State}
use Rattle.world_moves.specs.declared.links.EndId.TheVariants.{Controller, Member}
use Rattle.logon_steps.specs.Answers.{drawn_of, terms_for}
use Rattle.logon_steps.specs.MemberAnswers.{sam_shown}
use Rattle.logon_steps.specs.MemoCalls.{ReplyGoes, RequestGoes}
use Rattle.logon_steps.proofs.MemoCallLaws.{memo_calls_go}
use Rattle.logon_runs.specs.Scenes.AskScenes.{with_controller}
use Rattle.logon_runs.specs.Scenes.LinkScenes.{Meeting, joined}
use Rattle.logon_runs.specs.Runs.{ClientAnswer, asked_at, hidden, meets, on_for, sam_for, starts}
use Rattle.logon_runs.specs.FirstLogon.FirstRuns.{opens_as}
use Rattle.logon_runs.specs.FirstLogon.FirstTraces.{FirstLogonsAreSeen}
use Rattle.logon_runs.proofs.FirstLogon.FirstTraceLaws.{first_turns_are_seen}
use Rattle.logon_runs.proofs.Scenes.LinkSceneLaws.{meetings_are_seen}
use Rattle.logon_runs.proofs.RunLaws.{meets_same}
use Rattle.logon_runs.proofs.Scenes.StayingLaws.{reach_still, starts_same}
use Rattle.logon_runs.proofs.FirstLogon.FirstRunLaws.{first_turns_run}
use Rattle.logon_runs.proofs.Scenes.StartLaws.{starts_are_seen}
use Rattle.logon_runs.proofs.GrantLaws.{grants_are_told}

-- ---- the moves

pub first_logons_are_seen : FirstLogonsAreSeen
first_logons_are_seen = record {
  logon = λ s g number before links challenge one two three client server table name account machine computers left moment is shows.
      let a : ClientAnswer = asked_at challenge one two three moment in
      let j : Meeting = joined g links in
      let k : Meeting = with_controller j table name computers in
      let o : SecureChannelState = opens_as g client server in
      let sam : SamInfo = sam_for j a table name account moment in
      let on : LoggedOn = on_for j a o sam in
      let told : List ℕ = name_in (sam_shown o (hidden o sam)) in
      let terms : Terms = terms_for g.plan g.task challenge moment (drawn_of one two three) in
      let all : List (List ℕ) = challenge ∷ one ∷ two ∷ three ∷ client ∷ server ∷ left in
      let s1 : State = starts number s in
      let s4 : State = meets number s in
      let who : RequestGoes 1 g.task.level 2 0 [] terms.session on.session =
      memo_calls_go.request 1 g.task.level 2 0 [] terms.session on.session (omega arith) (omega arith) (omega arith) (omega arith)
      (grants_are_told.sessions j a o table name account moment is.opened.can is.opened.draws is.key) in
      let back : ReplyGoes 2 g.task.level 2 (written_who_reply told) who.next who.later =
      memo_calls_go.reply 2 g.task.level 2 (written_who_reply told) who.later who.next (omega arith) (omega arith)
      (omega (arith, is.short, (who_stub told (omega (arith, is.short)) is.units).short)) who.sessions in
      let begun = starts_are_seen.starts s (with_controller g table name computers) number before links all moment is.chosen is.planned shows in
      let bind =
      meetings_are_seen.dialled s1 (with_controller g table name computers) links all moment is.opened.joined
      (reach_still g.task.server (Member g.at_member) s s1 (starts_same number s) is.member) begun in
      let ack = meetings_are_seen.challenged _ k challenge (one ∷ two ∷ three ∷ client ∷ server ∷ left) moment is.opened.joined is.opened.can is.opened.names is.eight bind in
      let answered =
      meetings_are_seen.answered _ k challenge one two three _ (client ∷ server ∷ left) moment is.opened.joined is.opened.can is.opened.names is.eight is.opened.draws who.goes ack in
      let reach = reach_still g.plan.controller (Controller g.at_controller) s s4 (meets_same number s) is.controller in
      record {
        who = who;
        back = back;
        begun = begun;
        bind = bind;
        ack = ack;
        answered = answered;
        turns = first_turns_are_seen.turns s4 j a client server table name account machine computers _ _ _ left moment is.opened reach who answered;
        granted = first_turns_run.granted s4 j a client server table name account machine computers _ left moment is.opened reach who back answered;
      };
}
