-- How a logon goes over into the member's turns, and out of them.
-- Of `logons_are_seen`.
use Rattle.std.proofs.Common.{◌≡◌, ℕ, ◌≤◌, ◌<◌, ◌+◌, ◌^◌, true, List, [], ◌∷◌, ◌++◌, length, Option, Some, None, refl, sym, ap, subst, ◌∙◌, arith, append-nil, slice_get, ap₂}
use Rattle.wire_base.specs.Maps.{same_number, take_out}
use Rattle.authenticators.specs.SecureChannels.{SecureChannelState, after_call, after_return}
use Rattle.ntlm_messages.specs.declared.messages.Authenticate.{Authenticate}
use Rattle.outside.specs.declared.action.Action.TheVariants as action
use Rattle.outside.specs.declared.action.CloseCause.TheVariants as close
use Rattle.outside.specs.declared.action.Outcome.TheVariants as outcome
use Rattle.outside.specs.declared.event.Event.TheVariants as event
use Rattle.ntlm_seal.specs.Sessions.{SessionState}
use Rattle.rpc_units.specs.Writing.{written}
use Rattle.secret_change.specs.declared.secrets.Next.{Next}
use Rattle.outside.specs.Machine.{whole_step}
use Rattle.member_server.specs.Turns.{timestamp_of}
use Rattle.member_server.specs.Messages.{info_of}
use Rattle.logon_steps.specs.Asking.{info_at}
use Rattle.logon_stubs.specs.declared.info.NetworkInfo.{NetworkInfo}
use Rattle.logon_stubs.specs.declared.info.SamInfo.{SamInfo}
use Rattle.memo_stubs.specs.Memo.{written_who_reply}
use Rattle.account_table.specs.AccountTable.{AccountTable}
use Rattle.channel_client.specs.declared.state.Question.TheVariants as question
use Rattle.channel_client.specs.declared.state.Standing.{Standing}
use Rattle.channel_client.specs.declared.state.Standing.TheVariants as standing
use Rattle.channel_client.specs.declared.state.Step.TheVariants as step
use Rattle.channel_client.specs.Machine.{after, challenge_call, logon_call}
use Rattle.controller_calls.specs.declared.state.Computers.{Computers}
use Rattle.logon_client.specs.declared.state.Phase.{Phase as ClientPhase}
use Rattle.member_server.specs.declared.state.LoggedOn.{LoggedOn}
use Rattle.member_server.specs.Outcomes.{key_in, name_in}
use Rattle.member_server.specs.Requests.{talk_in}
use Rattle.channel_turns.specs.declared.state.Dialling.TheVariants as dialling
use Rattle.member_server.specs.declared.state.Logon.{Logon}
use Rattle.member_server.specs.Machine.{step_of as member_step_of}
use Rattle.world_moves.specs.declared.bag.BagUnit.{BagUnit}
use Rattle.world_moves.specs.declared.links.EndId.TheVariants.{Member}
use Rattle.world_moves.specs.declared.links.Route.{Route}
use Rattle.world_moves.specs.declared.links.Route.TheVariants.{ToMember}
use Rattle.world_moves.specs.declared.state.State.{State}
use Rattle.world_moves.specs.Links.{OpenMap}
use Rattle.world_moves.specs.Moving.{onward}
use Rattle.logon_steps.specs.MemoCalls.{ReplyGoes, RequestGoes, logged_on}
use Rattle.logon_steps.specs.Turning.{IsTurnReply}
use Rattle.logon_steps.specs.Answers.{answer_for, auth3_for, drawn_of, logon_for}
use Rattle.logon_steps.specs.ControllerTurns.{reply_bytes, turn_link}
use Rattle.logon_steps.specs.Meeting.{bound_for, challenged_talk, flags_agreed}
use Rattle.logon_steps.specs.MemberAnswers.{granting, let_in, sam_shown}
use Rattle.logon_steps.specs.MemberLinks.{asked_talk, logons_resting, one_link}
use Rattle.logon_steps.specs.MemberTurns.{bind_waits, logons_keeping, member_at, on_turn, plan_with}
use Rattle.logon_steps.proofs.AnswersLaws.{answers_are_asked}
use Rattle.logon_steps.proofs.BesideTrustsLaws.{trusts_stay_beside}
use Rattle.logon_steps.proofs.MemberAnswerLaws.{logons_end}
use Rattle.logon_steps.proofs.MemberLinkLaws.{links_step}
use Rattle.logon_steps.proofs.TurningLaws.{response_comes, unit_comes}
use Rattle.logon_runs.specs.Scenes.AskScenes.{LogonsAreSeen, kept_by, turn_within, with_controller, with_talk}
use Rattle.logon_runs.specs.Scenes.LinkScenes.{given_after, given_caller, its_link, Meeting, meeting_scene, unit_down, unit_up}
use Rattle.logon_runs.specs.Scenes.Scene.{Shows}
use Rattle.logon_runs.specs.Scenes.TurnScenes.{IsBetween, TurnScene, turn_scene, unit_back, waiting_scene}
use Rattle.logon_runs.proofs.Scenes.LinkSceneLaws.{heard_up, sent_down}
use Rattle.logon_runs.proofs.Scenes.SceneLaws.{scenes_go_on}
use Rattle.logon_runs.proofs.Scenes.TurningSceneLaws.{scenes_turn}
use Rattle.logon_runs.proofs.Scenes.TurnSceneLaws.{closes_turn, heard_back, with_next}

-- a logon is granted where the turn is written out
granted_at : (s : State) (g : Meeting) (info : NetworkInfo) (table : AccountTable) (name : List ℕ) (links : List Route) (opened : OpenMap) (link : ℕ) (o : SecureChannelState) (waits : ClientPhase)
    (challenge : List ℕ) (message : Authenticate) (sam : SamInfo)
    (next number timestamp stamp authoritative most : ℕ) (computers : Computers) (one : Option SessionState) (left : List (List ℕ)) (moment : ℕ) →
    let shown : SamInfo = sam_shown o sam in
    let logon : Logon = logon_for g.link g.task challenge message in
    let on : LoggedOn = let_in g.task shown logon in
    (who : RequestGoes most g.task.level 2 0 [] one on.session) (back : ReplyGoes (most + 1) g.task.level 2 (written_who_reply (name_in shown)) who.next who.later) →
    let t : TurnScene = turn_within g waits info logon (asked_talk (bound_for g.task) g.place (who.sent ∷ [])) table name (standing.Open (after_call o timestamp)) links opened link in
    number < 2 ^ 32 → IsBetween t → IsTurnReply question.Logon (granting o timestamp stamp authoritative sam) → length (name_in shown) ≤ 32767 →
    slice_get links g.link ≡ Some (ToMember g.at_client g.at_member) → take_out same_number link opened ≡ its_link g →
    Shows s (turn_scene t next number (step.Reply question.Logon) computers (turn_link link) (unit_back t (reply_bytes number (granting o timestamp stamp authoritative sam)) ∷ []) left moment) →
    Shows (onward s).state
    (meeting_scene (record (with_controller g table name computers) {
      given = given_after g;
      how = standing.Open (after_return true (after_call o timestamp));
      place = after g.place;
      number = next;
      links = links;
    }) waits (talk_in None (logged_on on back.later)) (unit_down g back.sent ∷ []) left moment)
granted_at s g info table name links opened link o waits challenge message sam next number timestamp stamp authoritative most computers one left moment who back below between is short joined taken shows =
    let shown : SamInfo = sam_shown o sam in
    let logon : Logon = logon_for g.link g.task challenge message in
    let on : LoggedOn = let_in g.task shown logon in
    let t : TurnScene = turn_within g waits info logon (asked_talk (bound_for g.task) g.place (who.sent ∷ [])) table name (standing.Open (after_call o timestamp)) links opened link in
    let g1 : Meeting = record (with_controller g table name computers) {
      given = given_after g;
      how = standing.Open (after_return true (after_call o timestamp));
      place = after g.place;
      number = next;
      links = links;
    } in
    let bytes : List ℕ = reply_bytes number (granting o timestamp stamp authoritative sam) in
    subst (λ (now_open : OpenMap). Shows (onward s).state
    (record (meeting_scene g1 waits (talk_in None (logged_on on back.later)) (unit_down g back.sent ∷ []) left moment) { opened = now_open })) taken
    (subst (λ (units : List BagUnit). Shows (onward s).state
    (record (meeting_scene g1 waits (talk_in None (logged_on on back.later)) (units ++ []) left moment) { opened = take_out same_number link opened })) (sent_down g1 back.sent joined)
    (scenes_turn.member_closes s _ (unit_back t bytes) [] _ _ left link close.CallDone
    (action.Told g.link (outcome.In shown.domain shown.effective_name (key_in shown logon)) ∷ action.Send g.link back.sent ∷ []) shows
    (heard_back t bytes next number (step.Reply question.Logon) computers (turn_link link) left moment between (response_comes number question.Logon (granting o timestamp stamp authoritative sam) is))
    (closes_turn t next number (step.Reply question.Logon) computers (unit_back t bytes ∷ []) left moment between) (tt, (tt, tt))
    (logons_end.granted g.plan g.caller o info sam logon g.task g.place next number link moment timestamp stamp authoritative most one left below is short who back)
    (trusts_stay_beside.closed (kept_by g table name computers) link moment _ left g.trusts.nobody)))

pub logons_are_seen : LogonsAreSeen
logons_are_seen = record {
  asks_first = λ s g waits challenge one two three other sent then_now table name computers left moment how fits can short are shows.
      let message : Authenticate = (answer_for g.plan g.task challenge then_now (drawn_of one two three)).message in
      scenes_go_on.to_member s _ (unit_up g (written (auth3_for g.task message))) (unit_up g sent ∷ []) _ left (action.Dial g.plan.controller ∷ []) shows
      (heard_up (with_controller g table name computers) waits (challenged_talk g.task challenge) (written (auth3_for g.task message)) (unit_up g sent ∷ []) (other ∷ left) moment
      (unit_comes (auth3_for g.task message) (answers_are_asked.sends g.plan g.task challenge one two three then_now can short are))) (tt, tt)
      (ap (λ (h : Standing). member_step_of (member_at (logons_resting g.plan (given_caller g) g.given.next h g.place g.number) (one_link g.link (challenged_talk g.task challenge)) dialling.Nothing)
      (event.Bytes g.link (written (auth3_for g.task message))) moment (other ∷ left)) how
      ∙ links_step.asks_first g.plan g.plan (given_caller g) g.given.next g.place g.number g.link moment then_now g.task challenge one two three other left can short are
      ∙ ap (λ (secret : List ℕ). whole_step (other ∷ left) left (action.Dial g.plan.controller ∷ [])
      (member_at (logons_keeping g.plan (record g.caller { secret = secret }) standing.Nothing (info_of message (flags_agreed g.task) challenge) g.place (after g.number) g.number
      (step.Bind (challenge_call g.caller other)) ((g.place, logon_for g.link g.task challenge message) ∷ [])) (one_link g.link (asked_talk (bound_for g.task) g.place [])) (bind_waits g.number)))
      (fits.tried how));
  asks_again = λ s g o waits challenge one two three sent then_now table name computers left moment how fits can short are shows.
      let message : Authenticate = (answer_for g.plan g.task challenge then_now (drawn_of one two three)).message in
      scenes_go_on.to_member s _ (unit_up g (written (auth3_for g.task message))) (unit_up g sent ∷ []) _ left (action.Dial g.plan.controller ∷ []) shows
      (heard_up (with_controller g table name computers) waits (challenged_talk g.task challenge) (written (auth3_for g.task message)) (unit_up g sent ∷ []) left moment
      (unit_comes (auth3_for g.task message) (answers_are_asked.sends g.plan g.task challenge one two three then_now can short are))) (tt, tt)
      (ap₂ (λ (h : Standing) (n : Option Next). member_step_of
      (member_at (logons_resting (plan_with (with_next n g.plan.secrets) g.plan) (given_caller g) g.given.next h g.place g.number) (one_link g.link (challenged_talk g.task challenge)) dialling.Nothing)
      (event.Bytes g.link (written (auth3_for g.task message))) moment left) how (fits.one o how)
      ∙ links_step.asks_again g.plan g.plan (given_caller g) g.given.next o g.place g.number g.link moment then_now g.task g.plan.secrets.current challenge one two three left can short are
      ∙ ap₂ (λ (n : Option Next) (secret : List ℕ). whole_step left left (action.Dial g.plan.controller ∷ [])
      (member_at (logons_keeping (plan_with (with_next n g.plan.secrets) g.plan) (record g.caller { secret = secret }) (standing.Open (after_call o (timestamp_of moment)))
      (info_of message (flags_agreed g.task) challenge) g.place (after g.number) g.number
      (step.Bind (logon_call g.caller o (timestamp_of moment) (info_at g.place (info_of message (flags_agreed g.task) challenge)))) ((g.place, logon_for g.link g.task challenge message) ∷ []))
      (one_link g.link (asked_talk (bound_for g.task) g.place [])) (bind_waits g.number))) (sym (fits.one o how)) (fits.kept o how));
  held_before = λ s g t opened how next number most call opnum what computers stub one other goes later left moment same_member own shows.
      subst (λ (units : List BagUnit). Shows (onward s).state (waiting_scene (with_talk g.link (asked_talk (bound_for g.task) t.place (goes.sent ∷ [])) t) opened how next number what computers units left moment)) (append-nil later)
      (scenes_go_on.to_member s _ (unit_up g goes.sent) later _ left [] shows
      (record {
        units = refl;
        some = goes.some;
        short = omega (arith, goes.short);
        there = record { route = ToMember g.at_client g.at_member; dialler = true; acceptor = true };
        found = own;
        hearer = ap (λ (m : ℕ). Some (Member m)) (sym same_member);
      }) tt
      (links_step.holds t.plan t.caller how t.info t.place next number g.link moment what t.asked (bind_waits number) (bound_for g.task) most g.task.level call opnum stub one other goes left tt));
  held_within = λ s g t next number most call opnum what computers there stub one other goes later left moment same_member own apart shows.
      subst (λ (units : List BagUnit). Shows (onward s).state (turn_scene (with_talk g.link (asked_talk (bound_for g.task) t.place (goes.sent ∷ [])) t) next number what computers there units left moment)) (append-nil later)
      (scenes_go_on.to_member s _ (unit_up g goes.sent) later _ left [] shows
      (record {
        units = refl;
        some = goes.some;
        short = omega (arith, goes.short);
        there = record { route = ToMember g.at_client g.at_member; dialler = true; acceptor = true };
        found = own;
        hearer = ap (λ (m : ℕ). Some (Member m)) (sym same_member);
      }) tt
      (links_step.holds t.plan t.caller t.how t.info t.place next number g.link moment what t.asked (on_turn t.link) (bound_for g.task) most g.task.level call opnum stub one other goes left apart));
  granted = λ s g t o waits challenge message sam next number timestamp stamp authoritative most computers one left moment below between own is short who back written_out joined taken shows.
      granted_at s g t.info t.table t.name t.links t.opened t.link o waits challenge message sam next number timestamp stamp authoritative most computers one left moment who back below
      (subst IsBetween written_out between) is short joined taken
      (subst (λ (u : TurnScene). Shows s (turn_scene u next number (step.Reply question.Logon) computers (turn_link u.link)
      (unit_back u (reply_bytes number (granting o timestamp stamp authoritative sam)) ∷ []) left moment)) written_out shows);
}
