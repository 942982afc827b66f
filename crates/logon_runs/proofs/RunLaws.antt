-- A whole turn of a member whose channel stands.
-- Of `turns_run`.
use Rattle.std.proofs.Common.{ℕ, ◌≡◌, ◌<◌, ◌^◌, true, List, [], ◌∷◌, length, Some, refl, ap, ap₂, ◌∙◌, arith}
use Rattle.wire_base.specs.Maps.{lookup, take_out}
use Rattle.wire_base.specs.Names.{same_name}
use Rattle.wire_base.proofs.MapLaws.{lookup-put_same}
use Rattle.wire_base.proofs.NameLaws.{same_name-Decides}
use Rattle.authenticators.specs.Sequences.{return_of}
use Rattle.authenticators.specs.SecureChannels.{SecureChannelState, after_call, after_return, key_of_channel}
use Rattle.outside.specs.declared.event.Event.TheVariants as event
use Rattle.outside.specs.declared.action.Action.TheVariants as action
use Rattle.outside.specs.declared.action.Judged.TheVariants as judged
use Rattle.outside.specs.Machine.{whole_step}
use Rattle.rpc_units.specs.Calls.{bytes_of_call}
use Rattle.logon_stubs.specs.declared.calls.Reply.{Reply}
use Rattle.logon_stubs.specs.declared.calls.Call.{Call}
use Rattle.logon_stubs.specs.declared.info.SamInfo.{SamInfo}
use Rattle.logon_stubs.specs.declared.info.Verdict.{Verdict}
use Rattle.account_table.specs.AccountTable.{AccountTable}
use Rattle.account_table.specs.LookUps.{account_in}
use Rattle.account_table.specs.declared.account.Account.{Account}
use Rattle.sam_logon.specs.MayLogOn.{MayLogOn}
use Rattle.channel_client.specs.declared.state.Question.TheVariants as question
use Rattle.channel_client.specs.declared.state.Standing.{Standing}
use Rattle.channel_client.specs.declared.state.Standing.TheVariants as standing
use Rattle.channel_client.specs.declared.state.Step.TheVariants as step
use Rattle.channel_client.specs.Machine.{after, logon_call}
use Rattle.domain_controller.specs.Step.{step_of as controller_step_of}
use Rattle.controller_calls.specs.declared.state.Computers.{Computers}
use Rattle.domain_controller.specs.Machine.{status_of}
use Rattle.logon_client.specs.Plans.{CanLogOn}
use Rattle.member_server.specs.Messages.{info_of}
use Rattle.member_server.specs.Turns.{timestamp_of}
use Rattle.world_moves.specs.declared.state.State.{State}
use Rattle.world_moves.specs.declared.links.EndId.TheVariants.{Controller}
use Rattle.logon_steps.specs.Answering.{IsInStep, moved}
use Rattle.logon_steps.specs.Answers.{AreDraws, HasUnits, logon_for}
use Rattle.logon_steps.specs.Calling.{HasShortCaller, HasShortInfo}
use Rattle.logon_steps.specs.Granting.{cleared, info_told}
use Rattle.logon_steps.specs.BesideTrusts.{AtTrusts, Keeping}
use Rattle.logon_steps.specs.Turning.{IsTurnCall, turn_request}
use Rattle.logon_steps.specs.ControllerTurns.{controller_at, passed_reply, reply_bytes, turn_link}
use Rattle.logon_steps.specs.Meeting.{bound_for, flags_agreed}
use Rattle.logon_steps.specs.MemberAnswers.{granting}
use Rattle.logon_steps.specs.MemberLinks.{asked_talk}
use Rattle.logon_steps.proofs.AnsweringLaws.{calls_are_answered}
use Rattle.logon_steps.proofs.CallingLaws.{calls_can_go}
use Rattle.logon_steps.proofs.BesideTrustsLaws.{trusts_stay_beside}
use Rattle.logon_steps.proofs.ControllerTurnLaws.{controllers_step}
use Rattle.logon_steps.proofs.GrantingLaws.{logons_are_granted}
use Rattle.logon_runs.specs.Scenes.LinkScenes.{Meeting, its_link}
use Rattle.logon_runs.specs.Runs.{ClientAnswer, TurnsRun, connects, goes, hidden, info_asked, meets, message_for, sam_for, starts, with_moved}
use Rattle.logon_runs.specs.Scenes.AskScenes.{kept_by, turn_of, with_talk}
use Rattle.logon_runs.specs.Scenes.TurnScenes.{IsBetween, TurnScene, next_turn, with_accounts}
use Rattle.logon_runs.specs.Scenes.Staying.{HasSameEnds}
use Rattle.logon_runs.proofs.Scenes.AskSceneLaws.{logons_are_seen}
use Rattle.logon_runs.proofs.Scenes.StayingLaws.{both_same, connects_same, goes_same, reach_still, starts_same}
use Rattle.logon_runs.proofs.Scenes.LinkSceneLaws.{found_here}
use Rattle.logon_runs.proofs.Scenes.TurnSceneLaws.{turns_are_seen}
use Rattle.logon_runs.proofs.Scenes.TwoLinkLaws.{turns_have_links}

pub same_computer : (name : List ℕ) → same_name name name ≡ true
same_computer name = (same_name-Decides name name).1 refl

pub timestamp_below : (now : ℕ) → timestamp_of now < 4294967296
timestamp_below now = omega arith

-- what the controller makes of the call: the logon passes and is granted, and the account's count of bad passwords is 0
-- afterwards
pub grants_so : (g : Meeting) (a : ClientAnswer) (o c : SecureChannelState) (table : AccountTable) (name : List ℕ) (account : Account) (computers : Computers)
    (link number moment : ℕ) (left : List (List ℕ)) → number < 2 ^ 32 → HasShortCaller g.caller → HasShortInfo (info_asked g a) →
    lookup same_name g.caller.computer computers.channels ≡ Some c → IsInStep o c → CanLogOn g.task → HasUnits g.task → AreDraws a.one a.two a.three →
    account_in table.accounts g.task.user ≡ Some account → account.hash ≡ g.task.hash → MayLogOn table (info_told g.task) moment →
    let stamp : ℕ = timestamp_of moment in
    let sam : SamInfo = sam_for g a table name account moment in
    controller_step_of (controller_at table name computers (turn_link link))
    (event.Bytes link (bytes_of_call (turn_request number (logon_call g.caller o stamp (info_asked g a))) 5840)) moment left
    ≡ whole_step left left (action.Judged (judged.Passed 0) ∷ action.Send link (reply_bytes number (granting o stamp 0 1 (hidden o sam))) ∷ [])
    (controller_at (cleared table g.task.user) name (with_moved g c stamp computers) (turn_link link))
grants_so g a o c table name account computers link number moment left below caller info channel in_step can units draws found hash may =
    let stamp : ℕ = timestamp_of moment in
    let sam : SamInfo = sam_for g a table name account moment in
    let later : Computers = with_moved g c stamp computers in
    controllers_step.judged table name computers link moment number stamp g.caller o c (info_asked g a) left below
    (calls_can_go.logon g.caller o stamp (info_asked g a) caller (timestamp_below moment) info) channel in_step
    ∙ ap₂ (λ (v : Verdict) (accounts : AccountTable). whole_step left left
    (action.Judged (judged.Passed (status_of v)) ∷ action.Send link (reply_bytes number (passed_reply (key_of_channel o) (return_of (key_of_channel o) o.seed stamp) v)) ∷ [])
    (controller_at accounts name later (turn_link link)))
    (logons_are_granted.verdict g.plan g.task a.challenge a.one a.two a.three a.then_now g.place moment table name account can units draws found hash may)
    (logons_are_granted.table g.plan g.task a.challenge a.one a.two a.three a.then_now g.place moment table account can units draws found hash may)
    ∙ ap (λ (r : Reply). whole_step left left (action.Judged (judged.Passed 0) ∷ action.Send link (reply_bytes number r) ∷ [])
    (controller_at (cleared table g.task.user) name later (turn_link link))) (logons_are_granted.reply o stamp sam)

-- the link of a turn is open still where the controller's accounts are others
pub between_still : (t : TurnScene) (accounts : AccountTable) → IsBetween t → IsBetween (with_accounts accounts t)
between_still t accounts between = record { route = between.route; opened = between.opened }

pub twice_same : (s : State) → HasSameEnds s (goes (goes s))
twice_same s = both_same s (goes s) (goes (goes s)) (goes_same s) (goes_same (goes s))

pub meets_same : (number : ℕ) (s : State) → HasSameEnds s (meets number s)
meets_same number s =
    let s1 : State = starts number s in
    let s2 : State = connects s1 in
    both_same s s2 (meets number s) (both_same s s1 s2 (starts_same number s) (connects_same s1)) (twice_same s2)

pub turns_run : TurnsRun
turns_run = record {
  granted = λ s g a o c table name account computers waits left moment is reach who back shows.
      let stamp : ℕ = timestamp_of moment in
      let sam : SamInfo = sam_for g a table name account moment in
      let how : Standing = standing.Open (after_call o stamp) in
      let call : Call = logon_call g.caller o stamp (info_asked g a) in
      let t : TurnScene = turn_of g waits (info_of (message_for g a) (flags_agreed g.task) a.challenge) (logon_for g.link g.task a.challenge (message_for g a))
      (asked_talk (bound_for g.task) g.place []) table name in
      let held : TurnScene = with_talk g.link (asked_talk (bound_for g.task) g.place (who.sent ∷ [])) t in
      let turn : TurnScene = next_turn held (its_link g) how in
      let later : Computers = with_moved g c stamp computers in
      let goes_so : IsTurnCall call = calls_can_go.logon g.caller o stamp (info_asked g a) is.caller (timestamp_below moment) is.info in
      let kept : Keeping = kept_by g table name computers in
      let answered = trusts_stay_beside.called kept (length g.links) moment (after g.number) call left left _ _ _ g.trusts.nobody is.next goes_so
      (trusts_stay_beside.alone kept call (ap (λ (trusts : AtTrusts). trusts.requesters) is.alone))
      (grants_so g a o c table name account computers (length g.links) (after g.number) moment left is.next is.caller is.info is.channel is.in_step is.can is.units
      is.draws is.found is.hash is.may) in
      let accounts : AccountTable = cleared table g.task.user in
      let s1 : State = goes s in
      let s2 : State = goes s1 in
      let s3 : State = connects s2 in
      let s4 : State = goes s3 in
      let s5 : State = goes s4 in
      let s6 : State = goes s5 in
      logons_are_seen.granted s6 g (with_accounts accounts turn) o waits a.challenge (message_for g a) (hidden o sam) (after (after g.number)) (after g.number) stamp 0 1 1 later
      _ left moment is.next (between_still turn accounts (turns_have_links.between g held how is.joined)) is.joined is.reply is.short who back refl
      (turns_have_links.met g held how is.joined) (turns_have_links.taken g held how is.joined)
      (turns_are_seen.judges s5 turn (after (after g.number)) (after g.number) (step.Reply question.Logon) call (granting o stamp 0 1 (hidden o sam)) (judged.Passed 0) computers later accounts left left moment
      (turns_have_links.between g held how is.joined)
      goes_so answered
      (turns_are_seen.asks s4 turn (after g.number) g.number call computers left moment (turns_have_links.between g held how is.joined) is.number
      (turns_are_seen.bound s3 turn (after g.number) g.number (step.Bind call) computers left moment (turns_have_links.between g held how is.joined) is.number
      (turns_are_seen.dialled s2 held (its_link g) how (after g.number) g.number (step.Bind call) computers [] left moment
      (reach_still g.plan.controller (Controller g.at_controller) s s2 (twice_same s) reach) (turns_have_links.found g held is.joined)
      (turns_have_links.new g held _ is.joined) (turns_have_links.between g held how is.joined)
      (logons_are_seen.held_before s1 g t (its_link g) how (after g.number) g.number 1 2 0 (step.Bind call) computers [] _ _ who [] left moment refl (found_here g)
      (logons_are_seen.asks_again s g o waits a.challenge a.one a.two a.three who.sent a.then_now table name computers left moment is.stands is.fits is.can is.names is.draws shows))))));
  stays = λ g o c computers timestamp in_step. record {
    member = after_return true (after_call o timestamp);
    stands = refl;
    controller = moved c timestamp;
    channel = lookup-put_same same_name g.caller.computer (moved c timestamp) (take_out same_name g.caller.computer computers.channels) (same_computer g.caller.computer);
    in_step = calls_are_answered.stays o c timestamp in_step;
  };
}
