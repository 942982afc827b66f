-- What a member tells where a logon is granted.
-- Of `grants_tell`.
use Rattle.std.proofs.Common.{ap, ap₂, ◌≡◌, ℕ, refl, sym, subst, ◌∙◌, List, [], ◌∷◌, length, arith}
use Rattle.authenticators.specs.SecureChannels.{SecureChannelState, after_call, key_of_channel}
use Rattle.logon_stubs.specs.declared.info.SamInfo.{SamInfo}
use Rattle.memo_stubs.specs.Memo.{written_who_reply}
use Rattle.memo_stubs.proofs.MemoLaws.{who_stub}
use Rattle.account_table.specs.AccountTable.{AccountTable}
use Rattle.channel_client.specs.declared.state.Question.TheVariants as question
use Rattle.channel_client.specs.declared.state.Standing.{Standing}
use Rattle.channel_client.specs.declared.state.Standing.TheVariants as standing
use Rattle.channel_client.specs.declared.state.Step.TheVariants as step
use Rattle.channel_client.specs.Machine.{after}
use Rattle.logon_client.specs.declared.securing.Sending.{Sending}
use Rattle.member_server.specs.declared.state.LoggedOn.{LoggedOn}
use Rattle.member_server.specs.Outcomes.{name_in}
use Rattle.world_moves.specs.declared.state.State.{State}
use Rattle.world_moves.specs.Moving.{onward}
use Rattle.logon_steps.specs.Answers.{AreDraws}
use Rattle.logon_steps.specs.ControllerTurns.{reply_bytes, turn_link}
use Rattle.logon_steps.specs.Granting.{base_key}
use Rattle.logon_steps.specs.MemberAnswers.{granting, sam_shown}
use Rattle.logon_steps.specs.MemberTurns.{plan_with}
use Rattle.logon_steps.specs.MemoCalls.{ReplyGoes, RequestGoes}
use Rattle.logon_steps.specs.Turning.{IsTurnReply}
use Rattle.logon_steps.proofs.MemoCallLaws.{memo_calls_go}
use Rattle.logon_runs.specs.Grants.{CanBeTold}
use Rattle.logon_runs.specs.Phases.{Arrival, Fits, IsKnown, Third, TurnAt, WhoAsked, key_at, own, scene_of, terms_at, turn_before, turn_on}
use Rattle.logon_runs.specs.Phases.{Granted}
use Rattle.logon_runs.specs.Runs.{ClientAnswer, hidden, message_for, on_for, sam_for}
use Rattle.logon_runs.specs.Scenes.Scene.{Scene, Shows}
use Rattle.logon_runs.specs.Scenes.TurnScenes.{TurnScene, unit_back, with_accounts}
use Rattle.logon_runs.proofs.GrantLaws.{grants_are_told}
use Rattle.logon_runs.proofs.RunLaws.{between_still}
use Rattle.logon_runs.proofs.Scenes.TwoLinkLaws.{turns_have_links}
use Rattle.outside.specs.declared.action.Action.{Action}
use Rattle.outside.specs.declared.action.Action.TheVariants as action
use Rattle.outside.specs.declared.action.CloseCause.TheVariants as close
use Rattle.outside.specs.declared.action.Outcome.{Outcome}
use Rattle.outside.specs.declared.action.Outcome.TheVariants as outcome
use Rattle.outside.specs.declared.event.Event.TheVariants as event
use Rattle.outside.specs.Machine.{whole_step}
use Rattle.account_table.specs.declared.account.Account.{Account}
use Rattle.sam_logon.specs.Granting.{sam_info_of}
use Rattle.member_server.specs.Machine.{step_of as member_step_of}
use Rattle.member_server.specs.Outcomes.{key_in}
use Rattle.member_server.specs.State.{State as MemberState}
use Rattle.member_server.specs.declared.state.Logon.{Logon}
use Rattle.logon_runs.specs.Scenes.Scene.{HasFirst}
use Rattle.world_moves.specs.declared.bag.BagUnit.{BagUnit}
use Rattle.world_moves.specs.declared.links.EndId.TheVariants.{Member}
use Rattle.world_moves.specs.Acting.{AfterHearing, done, perform_all}
use Rattle.world_moves.specs.Moving.{settle}
use Rattle.logon_steps.specs.Answers.{logon_for}
use Rattle.logon_steps.specs.Calling.{TravelsAsZeros}
use Rattle.logon_steps.proofs.MemberAnswerLaws.{logons_end}
use Rattle.logon_steps.proofs.TurningLaws.{response_comes}
use Rattle.logon_runs.specs.GrantsTold.{GrantsTell, TellsIn}
use Rattle.logon_runs.specs.Scenes.WaitingUnits.{Comes}
use Rattle.logon_runs.proofs.Phases.PhaseEndLaws.{domain_same, granted_scene, reply_then, sent_same, told_then}
use Rattle.logon_runs.proofs.Scenes.SceneLaws.{first_comes}
use Rattle.logon_runs.proofs.Scenes.TurnSceneLaws.{heard_back}
use Rattle.logon_runs.proofs.Scenes.WaitingLaws.{waiting_comes}

-- the domain and the account's name that are granted
sam_domain : (table : AccountTable) (name : List ℕ) (account : Account) (key : List ℕ) (now : ℕ) → (sam_info_of table name account key now).domain ≡ table.domain
unfolding sam_info_of
sam_domain table name account key now = refl

sam_user : (table : AccountTable) (name : List ℕ) (account : Account) (key : List ℕ) (now : ℕ) → (sam_info_of table name account key now).effective_name ≡ account.name
unfolding sam_info_of
sam_user table name account key now = refl

-- the actions are given before those that follow from them
told_given : (m turn link : ℕ) (answer : List ℕ) (one other : Outcome) (state : State) → one ≡ other →
    (done (Member m) (record { state = state; actions = action.Close turn close.CallDone ∷ action.Told link one ∷ action.Send link answer ∷ [] })).given
    ≡ (Member m, action.Close turn close.CallDone) ∷ (Member m, action.Told link other) ∷ (Member m, action.Send link answer)
    ∷ (perform_all (Member m) (action.Close turn close.CallDone ∷ action.Told link one ∷ action.Send link answer ∷ []) state).given
told_given m turn link answer one other state is =
    ap (λ (o : Outcome). (Member m, action.Close turn close.CallDone) ∷ (Member m, action.Told link o) ∷ (Member m, action.Send link answer)
    ∷ (perform_all (Member m) (action.Close turn close.CallDone ∷ action.Told link one ∷ action.Send link answer ∷ []) state).given) is

-- the outcome is told with the domain, the account's name and the client's key
outcome_so : (domain user key other_domain other_user other_key : List ℕ) → domain ≡ other_domain → user ≡ other_user → key ≡ other_key →
    outcome.In domain user key ≡ outcome.In other_domain other_user other_key
outcome_so domain user key other_domain other_user other_key one two three = ap₂ (λ (d u : List ℕ). outcome.In d u key) one two ∙ ap (λ (k : List ℕ). outcome.In other_domain other_user k) three

-- what a member gives where a unit comes to it
record GivesThen (s : State) (m : ℕ) (actions : List Action) : Type 0 where
  state : State
  is : (onward s).given ≡ (done (Member m) (record { state = state; actions = actions })).given

member_gives : (s : State) (v : Scene) (unit : BagUnit) (later : List BagUnit) (after_state : MemberState) (left : List (List ℕ)) (actions : List Action) → Shows s v →
    HasFirst v unit later (Member v.at_member) → member_step_of v.member (event.Bytes unit.link unit.bytes) v.moment v.left ≡ whole_step v.left left actions after_state →
    GivesThen s v.at_member actions
member_gives s v unit later after_state left actions shows first stepped =
    let comes : Comes s unit later (Member v.at_member) = first_comes s v unit later (Member v.at_member) shows first in
    let s1 : State = settle comes.number s in
    record {
      state = _;
      is = comes.given ∙ ap (λ (h : AfterHearing). (done (Member v.at_member) h).given)
          (waiting_comes.member s1 v.at_member v.member after_state (event.Bytes unit.link unit.bytes) left actions shows.member shows.plain
          (ap₂ (λ (now : ℕ) (l : List (List ℕ)). member_step_of v.member (event.Bytes unit.link unit.bytes) now l) shows.moment shows.left ∙ stepped
          ∙ ap (λ (l : List (List ℕ)). whole_step l left actions after_state) (sym shows.left)));
    }

tells_so : (p : Arrival) (s : State) (a : ClientAnswer) (who : WhoAsked p a) (v : TurnAt) (o c : SecureChannelState) (timestamp judged_at : ℕ) (accounts : AccountTable) (left : List (List ℕ))
    (moment : ℕ) → IsKnown p → Fits p (Granted a who v o c timestamp judged_at accounts) → (TravelsAsZeros (key_of_channel o) (base_key p.meeting.task (message_for (own p) a)) → ⊥) →
    Shows s (scene_of p (Granted a who v o c timestamp judged_at accounts) left moment) → TellsIn p s a v
tells_so p s a who v o c timestamp judged_at accounts left moment known fits arrives shows =
    let sam : SamInfo = sam_for (own p) a v.table p.name p.account judged_at in
    let shown : SamInfo = sam_shown o (hidden o sam) in
    let on : LoggedOn = on_for (own p) a o sam in
    let draws : AreDraws a.one a.two a.three = fits.0.answering.draws in
    let told : CanBeTold (own p) a o v.table p.name p.account judged_at = told_then p a v o timestamp judged_at known fits.0.ranged fits.1 in
    let again : RequestGoes 1 p.meeting.task.level 2 0 [] (terms_at p a).session on.session =
    memo_calls_go.request 1 p.meeting.task.level 2 0 [] (terms_at p a).session on.session (omega arith) (omega arith) (omega arith) (omega arith)
    (grants_are_told.sessions (own p) a o v.table p.name p.account judged_at known.can draws fits.3) in
    let sending : Sending = record { bytes = again.sent; session = again.later } in
    let same : record { bytes = who.sent; session = who.later } ≡ sending = sent_same (record { bytes = who.sent; session = who.later }) sending (sym who.goes ∙ again.goes) in
    let now_shows : Shows s (granted_scene p a sending v o c timestamp judged_at accounts left moment) =
    subst (λ (sent_so : Sending). Shows s (granted_scene p a sent_so v o c timestamp judged_at accounts left moment)) same shows in
    let how : Standing = standing.Open (after_call o timestamp) in
    let before : TurnScene = turn_before p a again.later (again.sent ∷ []) v in
    let out : TurnScene = with_accounts accounts (turn_on p a again.later (again.sent ∷ []) v (Third o c timestamp)) in
    let name_told : List ℕ = name_in shown in
    let back : ReplyGoes 2 p.meeting.task.level 2 (written_who_reply name_told) again.next again.later =
    memo_calls_go.reply 2 p.meeting.task.level 2 (written_who_reply name_told) again.later again.next (omega arith) (omega arith)
    (omega (arith, told.short, (who_stub name_told (omega (arith, told.short)) told.units).short)) again.sessions in
    let is_reply : IsTurnReply question.Logon (granting o timestamp 0 1 (hidden o sam)) = reply_then p a v o timestamp judged_at known fits.0.ranged fits.1 in
    let bytes : List ℕ = reply_bytes v.next (granting o timestamp 0 1 (hidden o sam)) in
    let unit : BagUnit = unit_back out bytes in
    let m : ℕ = p.meeting.at_member in
    let scene : Scene = granted_scene p a sending v o c timestamp judged_at accounts left moment in
    let between = between_still (turn_on p a again.later (again.sent ∷ []) v (Third o c timestamp)) accounts (turns_have_links.between (own p) before how fits.0.joined_so) in
    let logon : Logon = logon_for (own p).link p.meeting.task a.challenge (message_for (own p) a) in
    let gives : GivesThen s m
    (action.Close (length v.links) close.CallDone ∷ action.Told (own p).link (outcome.In shown.domain shown.effective_name (key_in shown logon)) ∷ action.Send (own p).link back.sent ∷ []) =
    member_gives s scene unit [] _ left _ now_shows
    (heard_back out bytes (after v.next) v.next (step.Reply question.Logon) v.computers (turn_link (length v.links)) left moment between
    (response_comes v.next question.Logon (granting o timestamp 0 1 (hidden o sam)) is_reply))
    (logons_end.granted (plan_with v.secrets p.meeting.plan) p.meeting.caller o out.info (hidden o sam) logon p.meeting.task p.meeting.place
    (after v.next) v.next (length v.links) moment timestamp 0 1 1 _ left fits.0.next_below is_reply (omega (arith, told.short)) again back) in
    record {
      answer = back.sent;
      rest = _;
      are = gives.is
          ∙ told_given m (length v.links) (own p).link back.sent (outcome.In shown.domain shown.effective_name (key_in shown logon)) (outcome.In p.table.domain p.account.name (key_at p a)) gives.state
          (outcome_so shown.domain shown.effective_name (key_in shown logon) p.table.domain p.account.name (key_at p a)
          (sam_domain v.table p.name p.account (base_key p.meeting.task (message_for (own p) a)) judged_at ∙ domain_same p v.table fits.0.set)
          (sam_user v.table p.name p.account (base_key p.meeting.task (message_for (own p) a)) judged_at)
          (grants_are_told.key (own p) a o v.table p.name p.account judged_at draws arrives));
    }

pub grants_tell : GrantsTell
grants_tell = record { tells = tells_so }
