-- A logon that its member was answered as granted, with whatever key, move by move.
-- Of `grants_go_on`.
use Rattle.std.proofs.Common.{◌≡◌, ℕ, ◌≤◌, ◌<◌, ◌^◌, ◌==◌, suc, Bool, true, false, List, [], ◌∷◌, ◌++◌, length, Some, None, refl, sym, ap, subst, ◌∙◌, arith, inl, inr, slice_get}
use Rattle.std.specs.Prelude.{◌⊎◌, ◌&&◌}
use Rattle.wire_base.specs.Maps.{lookup, same_number, take_out}
use Rattle.wire_base.specs.Units.{AreUnits}
use Rattle.ntlm_flags.specs.Flags.{has_flag, negotiate_extended_sessionsecurity}
use Rattle.authenticators.specs.SecureChannels.{SecureChannelState}
use Rattle.ntlm_messages.specs.declared.messages.Authenticate.{Authenticate}
use Rattle.outside.specs.declared.action.Action.TheVariants as action
use Rattle.outside.specs.declared.action.CloseCause.TheVariants as close
use Rattle.logon_stubs.specs.declared.calls.Reply.{Reply}
use Rattle.logon_stubs.specs.declared.info.NetworkInfo.{NetworkInfo}
use Rattle.logon_stubs.specs.declared.info.SamInfo.{SamInfo}
use Rattle.logon_stubs.specs.declared.info.Verdict.TheVariants as verdict
use Rattle.account_table.specs.AccountTable.{AccountTable}
use Rattle.channel_client.specs.declared.judging.Judgement.TheVariants as judgement
use Rattle.channel_client.specs.declared.state.Question.{Question as Asking}
use Rattle.channel_client.specs.declared.state.Standing.{Standing}
use Rattle.channel_client.specs.declared.state.Standing.TheVariants as standing
use Rattle.channel_client.specs.declared.state.Step.TheVariants as step
use Rattle.channel_client.specs.Machine.{judge}
use Rattle.controller_calls.specs.declared.state.Computers.{Computers}
use Rattle.logon_client.specs.declared.outcome.ClientOutcome.{ClientOutcome}
use Rattle.logon_client.specs.declared.outcome.ClientOutcome.TheVariants.{NoAnswer}
use Rattle.logon_client.specs.declared.outcome.NoAnswerCause.TheVariants as no_answer
use Rattle.logon_client.specs.declared.securing.Sending.{Sending}
use Rattle.logon_client.specs.declared.state.Phase.{Phase as ClientPhase}
use Rattle.logon_client.specs.declared.state.Phase.TheVariants as client_phase
use Rattle.logon_client.specs.declared.state.Question.{Question}
use Rattle.logon_client.specs.declared.state.Question.TheVariants as client_question
use Rattle.logon_client.specs.declared.state.Terms.{Terms}
use Rattle.logon_client.specs.Machine as client
use Rattle.unit_security.specs.Levels.{is_signed}
use Rattle.logon_client.specs.Plans.{CanLogOn}
use Rattle.logon_client.specs.Securing.{session_if}
use Rattle.member_server.specs.declared.outcomes.Ending.TheVariants as ending
use Rattle.member_server.specs.declared.state.LoggedOn.{LoggedOn}
use Rattle.member_server.specs.declared.state.Logon.{Logon}
use Rattle.member_server.specs.declared.state.Talk.{Talk}
use Rattle.member_server.specs.Outcomes.{key_in, name_in, outcome_of, session_by}
use Rattle.member_server.specs.Requests.{talk_in}
use Rattle.world_moves.specs.declared.bag.BagUnit.{BagUnit}
use Rattle.world_moves.specs.declared.links.EndId.TheVariants.{Client, Member}
use Rattle.world_moves.specs.declared.links.Route.{Route}
use Rattle.world_moves.specs.declared.links.Route.TheVariants.{ToMember}
use Rattle.world_moves.specs.declared.moves.Move.{Move}
use Rattle.world_moves.specs.declared.moves.Move.TheVariants as move
use Rattle.world_moves.specs.declared.state.State.{State}
use Rattle.world_moves.specs.Links.{OpenMap, hearer_on}
use Rattle.world_moves.specs.Moving.{act, moment_after, onward}
use Rattle.logon_steps.specs.Answers.{logon_for}
use Rattle.logon_steps.specs.ClientSteps.{client_ended}
use Rattle.logon_steps.specs.ControllerTurns.{reply_bytes, turn_link}
use Rattle.logon_steps.specs.Meeting.{flags_agreed}
use Rattle.logon_steps.specs.MemberAnswers.{let_in}
use Rattle.logon_steps.specs.Turning.{IsTurnReply}
use Rattle.logon_steps.proofs.ClientStepLaws.{clients_step}
use Rattle.logon_steps.proofs.BesideTrustsLaws.{trusts_stay_beside}
use Rattle.logon_steps.proofs.MemberLinkLaws.{links_step}
use Rattle.logon_steps.proofs.StreamLaws.{same}
use Rattle.logon_steps.proofs.TurningLaws.{response_comes}
use Rattle.logon_runs.specs.Failing.Failings.{failing_turn, settled_at}
use Rattle.logon_runs.specs.OtherKeys.Differing.{AreTerms, AsksEcho, HasItsOutcome, HasSent, IsLetIn, IsReplied, IsRequest, IsShut, IsSingle}
use Rattle.logon_runs.specs.OtherKeys.LetIn.{Asks, FitsLetIn, GoesOn, GrantsGoOn, HasEndedAt, Hears, IsOnLink, LetInPhase, answered_by, asked_by, let_in_scene}
use Rattle.logon_runs.specs.Scenes.LinkScenes.{given_caller, IsJoined, its_link, Meeting, meeting_scene, rest_scene, unit_down, unit_up}
use Rattle.logon_runs.specs.Scenes.Others.{AreAmong, IsStepOn}
use Rattle.logon_runs.specs.Phases.{Arrival, WhoAsked, key_at, terms_at}
use Rattle.logon_runs.specs.Rests.{three_of}
use Rattle.logon_runs.specs.Runs.{ClientAnswer}
use Rattle.logon_runs.specs.Scenes.Scene.{Shows}
use Rattle.logon_runs.specs.Scenes.AskScenes.{kept_by}
use Rattle.logon_runs.specs.Scenes.TurnScenes.{IsBetween, TurnScene, turn_scene, unit_back}
use Rattle.logon_runs.specs.Scenes.Turnings.{ClosesTo, shut_in}
use Rattle.logon_runs.specs.Scenes.WaitingUnits.{waiting}
use Rattle.logon_runs.proofs.OtherKeys.ClosingLaws.{member_shuts, member_shuts_both}
use Rattle.logon_runs.proofs.OtherKeys.DifferingLaws.{Asks as AsksBy, asks_by, keys_may_differ}
use Rattle.logon_runs.proofs.OtherKeys.LetInStepLaws.{granted_replies, granted_shuts, let_in_replies, let_in_shuts}
use Rattle.logon_runs.proofs.Scenes.LinkSceneLaws.{closes_own, found_here, heard_down, heard_up, none_left, sent_down, sent_up}
use Rattle.logon_runs.proofs.Phases.PhaseEndLaws.{sent_same}
use Rattle.logon_runs.proofs.Phases.PhaseLaws.{one_waits}
use Rattle.logon_runs.proofs.Scenes.SceneLaws.{scenes_go_on}
use Rattle.logon_runs.proofs.Scenes.StartLaws.{starts_are_seen}
use Rattle.logon_runs.proofs.Scenes.TurnSceneLaws.{closes_turn, heard_back}
use Rattle.logon_runs.proofs.Scenes.TurningSceneLaws.{scenes_turn}
use Rattle.logon_runs.proofs.Scenes.StepOnLaws.{by_step}

-- ---- what comes on the client's link

-- the client is at the other side of its member
other_side : (g : Meeting) → hearer_on (g.at_member == g.at_member) (record { route = ToMember g.at_client g.at_member; dialler = true; acceptor = true }) ≡ Some (Client g.at_client)
other_side g = ap (λ (b : Bool). hearer_on b (record { route = ToMember g.at_client g.at_member; dialler = true; acceptor = true })) (same g.at_member)

closes_back : (g : Meeting) (how : ClientPhase) (talk : Talk) (units : List BagUnit) (left : List (List ℕ)) (moment : ℕ) →
    ClosesTo (meeting_scene g how talk units left moment) (Member g.at_member) (Client g.at_client) g.link
closes_back g how talk units left moment = record {
  there = record { route = ToMember g.at_client g.at_member; dialler = true; acceptor = true };
  found = found_here g;
  side = other_side g;
}

ended : (g : Meeting) (left : List (List ℕ)) (after : State) (opened : OpenMap) (moment : ℕ) (outcome : ClientOutcome) → opened ≡ [] →
    Shows after (record (rest_scene g (client_ended g.task outcome) g.links left moment []) { opened = opened }) → HasEndedAt g left after
ended g left after opened moment outcome none shows = record {
  outcome = outcome;
  moment = moment;
  shows = subst (λ (o : OpenMap). Shows after (record (rest_scene g (client_ended g.task outcome) g.links left moment []) { opened = o })) none shows;
}

-- ---- the client's request comes

asked_on : (g : Meeting) (left : List (List ℕ)) (s : State) (terms : Terms) (question : Question) (on : LoggedOn) (bytes : List ℕ) (moment : ℕ) → CanLogOn g.task → IsJoined g →
    FitsLetIn g (Asks terms question on bytes) → IsShut on bytes ⊎ IsReplied g.task (answered_by question) on bytes →
    Shows s (let_in_scene g (Asks terms question on bytes) left moment) → GoesOn g left (onward s).state
asked_on g left s terms question on bytes moment can joined fits (inl is) shows =
    let phase : ClientPhase = client_phase.Asked terms question in
    inr (ended g left (onward s).state (take_out same_number g.link (its_link g)) moment (NoAnswer no_answer.LinkClosed) (none_left g)
    (member_shuts s _ (unit_up g bytes) [] _ _ left g.link is.cause [] shows
    (heard_up g phase (talk_in None on) bytes [] left moment (record { some = fits.0.some; short = omega (arith, fits.0.short) }))
    (closes_back g phase (talk_in None on) (unit_up g bytes ∷ []) left moment) tt
    (let_in_shuts g.plan (given_caller g) g.given.next g.how g.place g.number g.link moment _ _ on bytes left fits.0 is)
    (clients_step.closed g.task g.link moment phase left)))
asked_on g left s terms question on bytes moment can joined fits (inr is) shows =
    let phase : ClientPhase = client_phase.Asked terms question in
    inl (record {
      can = can;
      joined = joined;
      phase = Hears terms question is.later is.reply;
      moment = moment;
      fits = (is.fits, fits.1, answered_next g question is.later is.let_in);
      shows = subst (λ (units : List BagUnit). Shows (onward s).state (meeting_scene g phase (talk_in None is.later) (units ++ []) left moment)) (sent_down g is.reply joined)
          (scenes_go_on.to_member s _ (unit_up g bytes) [] _ left (action.Send g.link is.reply ∷ []) shows
          (heard_up g phase (talk_in None on) bytes [] left moment (record { some = fits.0.some; short = omega (arith, fits.0.short) })) (tt, tt)
          (let_in_replies g.plan (given_caller g) g.given.next g.how g.place g.number g.link moment _ _ g.task (answered_by question) on bytes left fits.0 is));
    }) where
      answered_next : (g : Meeting) (question : Question) (on : LoggedOn) → IsLetIn g.task (suc (answered_by question)) on → IsLetIn g.task (asked_by question) on
      answered_next g client_question.Who on is = is
      answered_next g (client_question.Echo name) on is = is

-- ---- the member's reply comes

has_outcome : (g : Meeting) (left : List (List ℕ)) (s : State) (terms : Terms) (question : Question) (on : LoggedOn) (bytes : List ℕ) (moment : ℕ) → IsSingle bytes →
    HasItsOutcome g.task terms question bytes → Shows s (let_in_scene g (Hears terms question on bytes) left moment) → GoesOn g left (onward s).state
has_outcome g left s terms question on bytes moment single is shows =
    let phase : ClientPhase = client_phase.Asked terms question in
    inr (ended g left (onward s).state (take_out same_number g.link (its_link g)) moment is.outcome (none_left g)
    (scenes_turn.client_closes s _ (unit_down g bytes) [] _ _ left g.link close.CallDone [] shows
    (heard_down g phase (talk_in None on) bytes [] left moment (record { some = single.some; short = omega (arith, single.short) }))
    (closes_own g phase (talk_in None on) (unit_down g bytes ∷ []) left moment) tt
    (is.ends g.link moment left)
    (links_step.closed g.plan (given_caller g) g.given.next g.how g.place g.number g.link moment (talk_in None on) left)))

asks_its_echo : (g : Meeting) (left : List (List ℕ)) (s : State) (terms : Terms) (on : LoggedOn) (bytes : List ℕ) (moment : ℕ) → CanLogOn g.task → IsJoined g → IsSingle bytes →
    IsLetIn g.task 1 on → AsksEcho g.task 1 terms client_question.Who bytes → Shows s (let_in_scene g (Hears terms client_question.Who on bytes) left moment) → GoesOn g left (onward s).state
asks_its_echo g left s terms on bytes moment can joined single let_in_is is shows =
    let phase : ClientPhase = client_phase.Asked terms client_question.Who in
    inl (record {
      can = can;
      joined = joined;
      phase = Asks is.later (client_question.Echo is.name) on is.echo;
      moment = moment;
      fits = (is.request, is.terms_fit, let_in_is);
      shows = subst (λ (units : List BagUnit). Shows (onward s).state (meeting_scene g (client_phase.Asked is.later (client_question.Echo is.name)) (talk_in None on) (units ++ []) left moment))
          (sent_up g is.echo joined)
          (scenes_go_on.to_client s _ (unit_down g bytes) [] _ left (action.Send g.link is.echo ∷ []) shows
          (heard_down g phase (talk_in None on) bytes [] left moment (record { some = single.some; short = omega (arith, single.short) })) (tt, tt)
          (is.asks g.link moment left));
    })

replied_on : (g : Meeting) (left : List (List ℕ)) (s : State) (terms : Terms) (question : Question) (on : LoggedOn) (bytes : List ℕ) (moment : ℕ) → CanLogOn g.task → IsJoined g →
    FitsLetIn g (Hears terms question on bytes) → Shows s (let_in_scene g (Hears terms question on bytes) left moment) → GoesOn g left (onward s).state
replied_on g left s terms client_question.Who on bytes moment can joined fits shows =
    named g left s terms on bytes moment can joined fits (keys_may_differ.hears g.task 1 terms client_question.Who bytes (omega arith) can fits.0 fits.1) shows where
      named : (g : Meeting) (left : List (List ℕ)) (s : State) (terms : Terms) (on : LoggedOn) (bytes : List ℕ) (moment : ℕ) → CanLogOn g.task → IsJoined g →
          FitsLetIn g (Hears terms client_question.Who on bytes) → HasItsOutcome g.task terms client_question.Who bytes ⊎ AsksEcho g.task 1 terms client_question.Who bytes →
          Shows s (let_in_scene g (Hears terms client_question.Who on bytes) left moment) → GoesOn g left (onward s).state
      named g left s terms on bytes moment can joined fits (inl is) shows = has_outcome g left s terms client_question.Who on bytes moment fits.0 is shows
      named g left s terms on bytes moment can joined fits (inr is) shows = asks_its_echo g left s terms on bytes moment can joined fits.0 fits.2 is shows
replied_on g left s terms (client_question.Echo name) on bytes moment can joined fits shows =
    has_outcome g left s terms (client_question.Echo name) on bytes moment fits.0 (keys_may_differ.hears g.task 2 terms (client_question.Echo name) bytes (omega arith) can fits.0 fits.1) shows

-- ---- a move

asks_on : (g : Meeting) (left : List (List ℕ)) (s : State) (terms : Terms) (question : Question) (on : LoggedOn) (bytes : List ℕ) (moment : ℕ) → CanLogOn g.task → IsJoined g →
    FitsLetIn g (Asks terms question on bytes) → Shows s (let_in_scene g (Asks terms question on bytes) left moment) → GoesOn g left (onward s).state
asks_on g left s terms client_question.Who on bytes moment can joined fits shows =
    asked_on g left s terms client_question.Who on bytes moment can joined fits (keys_may_differ.answers g.task 0 2 0 on bytes (omega arith) (omega arith) fits.0 fits.2) shows
asks_on g left s terms (client_question.Echo name) on bytes moment can joined fits shows =
    asked_on g left s terms (client_question.Echo name) on bytes moment can joined fits (keys_may_differ.answers g.task 1 3 1 on bytes (omega arith) (omega arith) fits.0 fits.2) shows

comes_on : (g : Meeting) (left : List (List ℕ)) (s : State) (phase : LetInPhase) (moment : ℕ) → CanLogOn g.task → IsJoined g → FitsLetIn g phase → Shows s (let_in_scene g phase left moment) →
    GoesOn g left (onward s).state
comes_on g left s (Asks terms question on bytes) moment can joined fits shows = asks_on g left s terms question on bytes moment can joined fits shows
comes_on g left s (Hears terms question on bytes) moment can joined fits shows = replied_on g left s terms question on bytes moment can joined fits shows

connects_on : (g : Meeting) (left : List (List ℕ)) (s : State) (phase : LetInPhase) (moment : ℕ) → Shows s (let_in_scene g phase left moment) → Shows (act s move.Connect).state (let_in_scene g phase left moment)
connects_on g left s (Asks terms question on bytes) moment shows = starts_are_seen.no_dial s (let_in_scene g (Asks terms question on bytes) left moment) refl shows
connects_on g left s (Hears terms question on bytes) moment shows = starts_are_seen.no_dial s (let_in_scene g (Hears terms question on bytes) left moment) refl shows

ticks_on : (g : Meeting) (left : List (List ℕ)) (s : State) (phase : LetInPhase) (moment more : ℕ) → Shows s (let_in_scene g phase left moment) →
    Shows (act s (move.Tick more)).state (let_in_scene g phase left (moment_after more moment))
ticks_on g left s (Asks terms question on bytes) moment more shows = scenes_turn.ticks s (let_in_scene g (Asks terms question on bytes) left moment) more shows
ticks_on g left s (Hears terms question on bytes) moment more shows = scenes_turn.ticks s (let_in_scene g (Hears terms question on bytes) left moment) more shows

goes_so : (g : Meeting) (left : List (List ℕ)) (s : State) (what : Move) → IsStepOn what → IsOnLink g left s → GoesOn g left (act s what).state
goes_so g left s what steps at =
    by_step (λ (one : Move). GoesOn g left (act s one).state)
    (inl (record { can = at.can; joined = at.joined; phase = at.phase; moment = at.moment; fits = at.fits; shows = connects_on g left s at.phase at.moment at.shows }))
    (comes_on g left s at.phase at.moment at.can at.joined at.fits at.shows)
    (λ more. inl (record { can = at.can; joined = at.joined; phase = at.phase; moment = moment_after more at.moment; fits = at.fits; shows = ticks_on g left s at.phase at.moment more at.shows }))
    what steps

over_at : (g : Meeting) (left : List (List ℕ)) (s after : State) (at : HasEndedAt g left s) (moment : ℕ) →
    Shows after (rest_scene g (client_ended g.task at.outcome) g.links left moment []) → HasEndedAt g left after
over_at g left s after at moment shows = record { outcome = at.outcome; moment = moment; shows = shows }

rests_so : (g : Meeting) (left : List (List ℕ)) (s : State) (what : Move) → IsStepOn what → HasEndedAt g left s → HasEndedAt g left (act s what).state
rests_so g left s what steps at =
    by_step (λ (one : Move). HasEndedAt g left (act s one).state) (over_at g left s _ at at.moment (starts_are_seen.no_dial s _ refl at.shows))
    (over_at g left s _ at at.moment (starts_are_seen.no_unit s _ refl at.shows)) (λ more. over_at g left s _ at (moment_after more at.moment) (scenes_turn.ticks s _ more at.shows)) what steps

waits_so : (g : Meeting) (left : List (List ℕ)) (s : State) (phase : LetInPhase) (moment : ℕ) → Shows s (let_in_scene g phase left moment) → waiting s.bag ≡ [] → ⊥
waits_so g left s (Asks terms question on bytes) moment shows none = one_waits (waiting s.bag) _ [] shows.units none
waits_so g left s (Hears terms question on bytes) moment shows none = one_waits (waiting s.bag) _ [] shows.units none

alone_so : (g : Meeting) (left : List (List ℕ)) (s : State) (phase : LetInPhase) (moment : ℕ) → Shows s (let_in_scene g phase left moment) →
    AreAmong (three_of g.at_client g.at_member g.at_controller) s.open_links × (s.dials ≡ [])
alone_so g left s (Asks terms question on bytes) moment shows =
    (subst (AreAmong (three_of g.at_client g.at_member g.at_controller)) (sym shows.opened) ((refl, refl), tt), shows.dials)
alone_so g left s (Hears terms question on bytes) moment shows =
    (subst (AreAmong (three_of g.at_client g.at_member g.at_controller)) (sym shows.opened) ((refl, refl), tt), shows.dials)

-- ---- the turn's reply comes

-- a session that is new has sent nothing
new_client : (signs : Bool) (key : List ℕ) (flags : ℕ) → HasSent 0 (session_if signs key flags)
new_client false key flags = tt
new_client true key flags = (refl, omega arith)

new_member : (extended : Bool) (key : List ℕ) (agreed : ℕ) → HasSent 0 (session_by extended key agreed)
new_member false key agreed = tt
new_member true key agreed = (refl, omega arith)

let_in_new : (g : Meeting) (challenge : List ℕ) (message : Authenticate) (sam : SamInfo) → length (name_in sam) ≤ 129 → AreUnits (name_in sam) →
    IsLetIn g.task 0 (let_in g.task sam (logon_for g.link g.task challenge message))
let_in_new g challenge message sam short units = record {
  bound = refl;
  name = short;
  units = units;
  session = new_member (has_flag (flags_agreed g.task) negotiate_extended_sessionsecurity) (key_in sam (logon_for g.link g.task challenge message)) (flags_agreed g.task);
}

module _ (s : State) (g : Meeting) (terms : Terms) (info : NetworkInfo) (challenge : List ℕ) (message : Authenticate) (bytes : List ℕ) (table : AccountTable) (name : List ℕ) (how : Standing) (o : SecureChannelState)
    (links : List Route) (opened : OpenMap) (link next number : ℕ) (q : Asking) (r : Reply) (sam : SamInfo) (computers : Computers) (left : List (List ℕ)) (moment : ℕ) where
  abbrev its_turn : TurnScene
  its_turn = failing_turn g (client_phase.Asked terms client_question.Who) info challenge message (bytes ∷ []) table name how links opened link

  abbrev after_it : Meeting
  after_it = settled_at g table name computers (standing.Open o) next links

  abbrev logon_asked : Logon
  logon_asked = logon_for g.link g.task challenge message

  -- the links after the turn's own
  behind : take_out same_number link opened ≡ its_link g →
      ClosesTo (shut_in link (turn_scene its_turn next number (step.Reply q) computers (turn_link link) (unit_back its_turn (reply_bytes number r) ∷ []) left moment)) (Member g.at_member) (Client g.at_client) g.link
  behind taken = record {
    there = record { route = ToMember g.at_client g.at_member; dialler = true; acceptor = true };
    found = ap (λ (o : OpenMap). lookup same_number g.link o) taken ∙ found_here g;
    side = other_side g;
  }

  granted_on : CanLogOn g.task → AreTerms 1 terms → number < 2 ^ 32 → IsBetween its_turn → IsTurnReply q r → judge q r how g.caller.secret ≡ judgement.Answer o (verdict.Granted sam) →
      slice_get links g.link ≡ Some (ToMember g.at_client g.at_member) → take_out same_number link opened ≡ its_link g →
      IsShut (let_in g.task sam logon_asked) bytes ⊎ IsReplied g.task 0 (let_in g.task sam logon_asked) bytes →
      Shows s (turn_scene its_turn next number (step.Reply q) computers (turn_link link) (unit_back its_turn (reply_bytes number r) ∷ []) left moment) → GoesOn after_it left (onward s).state
  granted_on can are below between reply_is granted joined taken (inl is) shows =
      inr (ended after_it left (onward s).state (take_out same_number g.link (take_out same_number link opened)) moment (NoAnswer no_answer.LinkClosed)
      (ap (λ (o : OpenMap). take_out same_number g.link o) taken ∙ none_left g)
      (member_shuts_both s _ (unit_back its_turn (reply_bytes number r)) [] _ _ _ left link g.link close.CallDone is.cause g.link (outcome_of (ending.Granted sam) logon_asked) shows
      (heard_back its_turn (reply_bytes number r) next number (step.Reply q) computers (turn_link link) left moment between (response_comes number q r reply_is))
      (closes_turn its_turn next number (step.Reply q) computers (unit_back its_turn (reply_bytes number r) ∷ []) left moment between)
      (behind taken)
      (granted_shuts g.plan g.caller how o info g.place next number link moment q r sam logon_asked g.task bytes left below reply_is granted is)
      (trusts_stay_beside.closed (kept_by g table name computers) link moment _ left g.trusts.nobody)
      (clients_step.closed g.task g.link moment (client_phase.Asked terms client_question.Who) left)))
  granted_on can are below between reply_is granted joined taken (inr is) shows =
      let phase : ClientPhase = client_phase.Asked terms client_question.Who in
      inl (record {
        can = can;
        joined = joined;
        phase = Hears terms client_question.Who is.later is.reply;
        moment = moment;
        fits = (is.fits, are, is.let_in);
        shows = subst (λ (now_open : OpenMap). Shows (onward s).state (record (meeting_scene after_it phase (talk_in None is.later) (unit_down g is.reply ∷ []) left moment) { opened = now_open })) taken
            (subst (λ (units : List BagUnit). Shows (onward s).state (record (meeting_scene after_it phase (talk_in None is.later) (units ++ []) left moment) { opened = take_out same_number link opened }))
            (sent_down after_it is.reply joined)
            (scenes_turn.member_closes s _ (unit_back its_turn (reply_bytes number r)) [] _ _ left link close.CallDone
            (action.Told g.link (outcome_of (ending.Granted sam) logon_asked) ∷ action.Send g.link is.reply ∷ []) shows
            (heard_back its_turn (reply_bytes number r) next number (step.Reply q) computers (turn_link link) left moment between (response_comes number q r reply_is))
            (closes_turn its_turn next number (step.Reply q) computers (unit_back its_turn (reply_bytes number r) ∷ []) left moment between) (tt, (tt, tt))
            (granted_replies g.plan g.caller how o info g.place next number link moment q r sam logon_asked g.task 0 bytes left below reply_is granted is)
            (trusts_stay_beside.closed (kept_by g table name computers) link moment _ left g.trusts.nobody)));
      })

-- ---- what a client sent

abbrev IsSent : Sending → Type 0
IsSent sending = IsRequest client.who_number client.who_opnum sending.bytes × HasSent 1 sending.session

asked_so : (p : Arrival) (a : ClientAnswer) (who : WhoAsked p a) → IsRequest client.who_number client.who_opnum who.sent × AreTerms 1 (record (terms_at p a) { session = who.later })
asked_so p a who =
    let asks : AsksBy p.meeting.task.level 2 0 [] (terms_at p a).session 0 =
    asks_by p.meeting.task.level 2 0 [] (terms_at p a).session 0 (omega arith) (omega arith) (omega arith) (omega arith)
    (new_client (is_signed p.meeting.task.level && has_flag (flags_agreed p.meeting.task) negotiate_extended_sessionsecurity) (key_at p a) (flags_agreed p.meeting.task)) in
    let is : asks.sending ≡ record { bytes = who.sent; session = who.later } = sent_same asks.sending (record { bytes = who.sent; session = who.later }) (sym asks.goes ∙ who.goes) in
    let both : IsSent (record { bytes = who.sent; session = who.later }) = subst IsSent is (asks.request, asks.has) in
    (both.0, record { receive = refl; session = both.1 })

pub grants_go_on : GrantsGoOn
grants_go_on = record {
  asked = asked_so;
  granted = λ s g terms info challenge message bytes table name how o links opened link next number q r sam computers left moment can request are short units below between is granted joined taken shows.
      granted_on s g terms info challenge message bytes table name how o links opened link next number q r sam computers left moment can are below between is granted joined taken
      (keys_may_differ.answers g.task 0 2 0 (let_in g.task sam (logon_for g.link g.task challenge message)) bytes (omega arith) (omega arith) request (let_in_new g challenge message sam short units)) shows;
  goes_on = goes_so;
  waits = λ g left s at none. waits_so g left s at.phase at.moment at.shows none;
  alone = λ g left s at. alone_so g left s at.phase at.moment at.shows;
  rests = rests_so;
}
