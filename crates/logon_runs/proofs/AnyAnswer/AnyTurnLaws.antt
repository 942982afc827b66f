-- A logon at any member: its turns with the controller, whatever the controller answers.
-- Of `any_phases_go_on`.
use Rattle.std.proofs.Common.{◌≡◌, ℕ, ◌<◌, ◌^◌, Bool, true, false, refl, sym, ap, subst, ◌∙◌, List, [], ◌∷◌, ◌++◌, length, Option, None, Some, Result, Ok, Err, arith, inl, inr}
use Rattle.std.specs.Prelude.{◌==◌, bytes_eq}
use Rattle.std.proofs.lemmas.Bool.{cases_Bool}
use Rattle.std.proofs.lemmas.Slice.Eq.{bytes_eq-Decides}
use Rattle.wire_base.specs.Maps.{lookup, put, take_out}
use Rattle.wire_base.specs.Names.{same_name}
use Rattle.wire_base.proofs.MapLaws.{lookup-put_same, put_others}
use Rattle.wire_base.proofs.NameLaws.{IsSameness-same_name}
use Rattle.authenticators.specs.SecureChannels.{SecureChannelState, after_call, after_return, fresh_channel}
use Rattle.outside.specs.declared.action.Action.{Action}
use Rattle.outside.specs.declared.action.Action.TheVariants as action
use Rattle.outside.specs.declared.action.StepRefused.{StepRefused}
use Rattle.outside.specs.declared.action.DropCause.{DropCause}
use Rattle.outside.specs.Machine.{Stepped, whole_step}
use Rattle.rpc_units.specs.Numbers.{error_access_denied, rpc_s_server_unavailable}
use Rattle.secret_change.specs.Secrets.{IsNextSecret, SecretsState}
use Rattle.secret_change.specs.declared.calls.SetCall.{SetCall}
use Rattle.member_server.specs.Secrets.{is_denied, secrets_dropped}
use Rattle.logon_runs.specs.Failing.Failings.{settled_at, settled_with}
use Rattle.logon_runs.proofs.Failing.FailingStepLaws.{form_dropped, next_dropped}
use Rattle.logon_stubs.specs.Ranges.{IsBlock}
use Rattle.logon_stubs.specs.declared.calls.Reply.{Reply}
use Rattle.logon_stubs.specs.declared.calls.Reply.TheVariants as reply
use Rattle.logon_stubs.specs.declared.info.NetworkInfo.{NetworkInfo}
use Rattle.logon_stubs.specs.declared.info.Verdict.TheVariants as verdict
use Rattle.account_table.specs.AccountTable.{AccountTable}
use Rattle.account_table.specs.Changes.{DifferInCounts}
use Rattle.account_table.specs.LookUps.{knows_in, machine_in}
use Rattle.account_table.specs.declared.account.Account.{Account}
use Rattle.channel_client.specs.declared.judging.Judgement.TheVariants as judgement
use Rattle.channel_client.specs.declared.state.Question.{Question}
use Rattle.channel_client.specs.declared.state.Question.TheVariants as question
use Rattle.channel_client.specs.declared.state.Standing.{Standing}
use Rattle.channel_client.specs.declared.state.Standing.TheVariants as standing
use Rattle.channel_client.specs.declared.state.SetStep.TheVariants as set_step
use Rattle.channel_client.specs.declared.state.Step.TheVariants as step
use Rattle.channel_client.specs.Machine.{after, auth_call, challenge_call, change_call, judge, logon_call, offered_flags, server_credential}
use Rattle.domain_controller.specs.Machine.{account_for, channel_for}
use Rattle.domain_controller.specs.State.{State as ControllerState}
use Rattle.domain_controller.specs.Whole.{InRangeTable}
use Rattle.controller_calls.specs.declared.state.Computers.{Computers}
use Rattle.domain_controller.specs.declared.state.Running.{Running}
use Rattle.logon_client.specs.Machine.{fault_outcome}
use Rattle.world_moves.specs.declared.plan.Plan.{Plan}
use Rattle.world_moves.specs.declared.state.State.{State}
use Rattle.world_moves.specs.Links.{OpenMap}
use Rattle.world_moves.specs.Moving.{onward}
use Rattle.logon_steps.specs.Answering.{auth_value, moved, pair_of}
use Rattle.logon_steps.specs.ControllerTurns.{controller_at, reply_bytes, turn_link}
use Rattle.logon_steps.specs.MemoCalls.{with_session}
use Rattle.logon_steps.specs.SetTurns.{IsSetTurn, set_reply_bytes}
use Rattle.logon_steps.specs.BesideTrusts.{AtTrusts}
use Rattle.logon_steps.specs.Turning.{IsTurnCall, IsTurnReply}
use Rattle.logon_steps.proofs.AnsweringLaws.{calls_are_answered}
use Rattle.logon_steps.proofs.CallingLaws.{calls_can_go}
use Rattle.logon_steps.proofs.BesideTrustsLaws.{trusts_stay_beside}
use Rattle.logon_steps.proofs.ControllerTurnLaws.{controllers_step}
use Rattle.logon_steps.proofs.SetTurnLaws.{controllers_set, set_units_go}
use Rattle.logon_runs.specs.Failing.FailingSteps.{out_talk, who_fault}
use Rattle.logon_runs.specs.Scenes.LinkScenes.{its_link, meeting_scene, unit_down}
use Rattle.logon_runs.specs.Phases.{Acked, Aim, BindsBefore, BindsHeld, Calls, Arrival, DialsBefore, DialsHeld, First, FitsStill, Fourth, Halved, HasThree, IsPlanned, IsToSet, NotYet, account_of_caller, own, own_keeping, progress_answered, progress_called, scene_of, Second, standing_for, step_for, terms_at, Third, turn_before, turn_on, TurnAt, waits_for, WasJudged, WasOpened, WasSet, WhoAsked}
use Rattle.logon_runs.specs.Runs.{ClientAnswer, info_asked, message_for}
use Rattle.logon_runs.specs.Scenes.Scene.{Shows}
use Rattle.logon_runs.specs.Failing.TurnedAway.{away_scene, AwayPhase, Faulted, Refused, Settled, settled_in, Unheard}
use Rattle.logon_runs.specs.Scenes.AskScenes.{kept_by}
use Rattle.logon_runs.specs.Scenes.TurnScenes.{IsBetween, TurnScene, dial_scene, turn_scene, unit_back, with_accounts}
use Rattle.logon_runs.specs.AnyAnswer.AnyPhases.{Away, HasMachine, IsAble, IsLeft, GoesTo, IsOwn, IsReadyBy, IsSetRightly, IsThere, IsTurningBy, Judged, KeepsInStep, MayAim, MayFitAway, MaySet, MayStand, On, Setting, Told, proof_reply}
use Rattle.logon_runs.specs.AnyAnswer.ControllerAnswers.{FindsAccount, ToldChallenge, ToldLogon, ToldProof}
use Rattle.logon_runs.specs.AnyAnswer.SetAnswers.{ToldSet}
use Rattle.logon_runs.proofs.Scenes.AskSceneLaws.{logons_are_seen}
use Rattle.logon_runs.proofs.Failing.FailingLaws.{failings_are_seen}
use Rattle.logon_runs.proofs.FirstLogon.FirstTraceLaws.{after_below}
use Rattle.logon_runs.proofs.Scenes.LinkSceneLaws.{found_here}
use Rattle.logon_runs.proofs.Phases.PhaseStartLaws.{left_so}
use Rattle.logon_runs.proofs.Phases.PhaseTurnLaws.{HasPlace, asks_for, of_table, place_found, turn_after}
use Rattle.logon_runs.proofs.RunLaws.{between_still, same_computer}
use Rattle.logon_runs.proofs.Scenes.TurnSceneLaws.{turns_are_seen}
use Rattle.logon_runs.proofs.Scenes.TwoLinkLaws.{turns_have_links}
use Rattle.logon_runs.proofs.AnyAnswer.AnyStartLaws.{leads, leads_less}
use Rattle.logon_runs.proofs.AnyAnswer.ControllerAnswerLaws.{controllers_answer}
use Rattle.logon_runs.proofs.AnyAnswer.SetAnswerLaws.{controllers_answer_sets}
use Rattle.logon_runs.proofs.Failing.TurnedAwayLaws.{nothing_not_open}
use Rattle.logon_runs.proofs.SecretRestLaws.{fits_counted}
use Rattle.logon_runs.proofs.Scenes.SetSceneLaws.{sets_are_seen}
use Rattle.logon_runs.proofs.AnyAnswer.RestAgainLaws.{some_not}

-- ---- what a controller keeps after a step

abbrev computers_by : Option Running → Computers
computers_by None = record { pending = []; channels = []; sessions = [] }
computers_by (Some running) = running.computers

-- two steps that are the same leave the same of computers
same_computers : (one : Stepped ControllerState) (first second : Stepped ControllerState) → one ≡ first → one ≡ second → computers_by first.state.running ≡ computers_by second.state.running
same_computers one first second is that = ap (λ (stepped : Stepped ControllerState). computers_by stepped.state.running) (sym is ∙ that)

same_table : (one : Stepped ControllerState) (first second : Stepped ControllerState) → one ≡ first → one ≡ second → first.state.table ≡ second.state.table
same_table one first second is that = ap (λ (stepped : Stepped ControllerState). stepped.state.table) (sym is ∙ that)

-- whether a text is kept first
abbrev text_first : List Action → Bool
text_first (action.Keep text ∷ more) = true
text_first _ = false

abbrev begins_with_text : Result (List Action) StepRefused → Bool
begins_with_text (Ok actions) = text_first actions
begins_with_text (Err why) = false

text_not : true ≡ false → ⊥
text_not is = absurd cc

pub differ_not : {b : Bool} → b ≡ false → b ≡ true → ⊥
differ_not is that = absurd (let never : false ≡ true = sym is ∙ that in cc)

module _ (plan : Plan) (p : Arrival) (s : State) where
  -- ---- the bind, the answer and the call

  module _ (a : ClientAnswer) (who : WhoAsked p a) (v : TurnAt) (aim : Aim) (left : List (List ℕ)) (moment : ℕ) (turning : IsTurningBy plan p a v) (aimed : MayAim plan p v aim) where
    pub any_dials_held : Shows s (scene_of p (DialsBefore a who v aim) left moment) → GoesTo plan p NotYet s (onward s).state
    any_dials_held shows =
        leads plan p s _ (On (DialsHeld a who v aim)) left moment shows.left (turning, aimed)
        (logons_are_seen.held_before s (own p) (turn_before p a who.later [] v) (its_link (own p)) (standing_for aim) v.next v.number 1 2 0 (step_for p a aim) v.computers [] _ _ who []
        left moment refl (found_here (own p)) shows)

    between : IsBetween (turn_on p a who.later (who.sent ∷ []) v aim)
    between = turns_have_links.between (own p) (turn_before p a who.later (who.sent ∷ []) v) (standing_for aim) turning.joined_so

    pub any_binds_held : IsThere plan p → Shows s (scene_of p (BindsBefore a who v aim) left moment) → GoesTo plan p NotYet s (onward s).state
    any_binds_held there shows =
        let t : TurnScene = turn_before p a who.later [] v in
        leads plan p s _ (On (BindsHeld a who v aim)) left moment shows.left (turning, aimed, there)
        (logons_are_seen.held_within s (own p) (turn_on p a who.later [] v aim) v.next v.number 1 2 0 (step_for p a aim) v.computers _ [] _ _ who _
        left moment refl (turns_have_links.own (own p) t (standing_for aim) turning.joined_so) (turns_have_links.apart (own p) t turning.joined_so) shows)

    pub any_bound : IsThere plan p → Shows s (scene_of p (BindsHeld a who v aim) left moment) → GoesTo plan p NotYet s (onward s).state
    any_bound there shows =
        leads plan p s _ (On (Acked a who v aim)) left moment shows.left (turning, aimed, there)
        (turns_are_seen.bound s (turn_on p a who.later (who.sent ∷ []) v aim) v.next v.number (step_for p a aim) v.computers left moment between turning.number_below shows)

    pub any_acked : IsThere plan p → Shows s (scene_of p (Acked a who v aim) left moment) → GoesTo plan p (progress_called aim) s (onward s).state
    any_acked there shows =
        leads plan p s _ (On (Calls a who v aim)) left moment shows.left (turning, aimed, there)
        (asks_for p s a who v aim left moment between turning.number_below shows)

  -- ---- the controller answers

  -- the turn, with what the controller keeps then
  turning_with : (a : ClientAnswer) (v : TurnAt) (later : Computers) → IsTurningBy plan p a v →
      ((other : List ℕ) → same_name p.meeting.caller.computer other ≡ false → lookup same_name other later.channels ≡ lookup same_name other v.computers.channels) → IsThere plan p →
      IsTurningBy plan p a (record v { computers = later })
  turning_with a v later is kept there = record {
    answering = is.answering;
    joined_so = is.joined_so;
    number_below = is.number_below;
    next_below = is.next_below;
    others = λ other apart. kept other (apart there) ∙ is.others other apart;
    ranged = is.ranged;
    set = is.set;
    next = is.next;
    fits = is.fits;
  }

  -- where the controller knows the computer, the challenges wait there
  first_kept : (v : TurnAt) (now : ℕ) (client server : List ℕ) (left : List (List ℕ)) (told : ToldChallenge v.table p.name v.computers (length v.links) now v.next p.meeting.caller client server left) →
      v.next < 2 ^ 32 → IsTurnCall (challenge_call p.meeting.caller client) → knows_in v.table.accounts p.meeting.caller.computer ≡ true → lookup same_name p.meeting.caller.computer told.later.pending ≡ Some (pair_of client server)
  first_kept v now client server left told below can knows =
      let name : List ℕ = p.meeting.caller.computer in
      subst (λ (k : Computers). lookup same_name name k.pending ≡ Some (pair_of client server))
      (same_computers _ _ _ (controllers_step.challenged v.table p.name v.computers (length v.links) now v.next p.meeting.caller client server left below can knows) told.steps)
      (lookup-put_same same_name name (pair_of client server) v.computers.pending (same_computer name))

  -- the channel stands, in step
  second_kept : (v : TurnAt) (now : ℕ) (client server : List ℕ) (left : List (List ℕ)) (told : ToldProof v.table p.name v.computers (length v.links) now v.next p.meeting.caller client server left) →
      v.next < 2 ^ 32 → IsTurnCall (auth_call p.meeting.caller client server) → (machine : Account) → account_for v.table (auth_value p.meeting.caller client server) ≡ Some machine →
      machine.hash ≡ p.meeting.caller.secret → lookup same_name p.meeting.caller.computer v.computers.pending ≡ Some (pair_of client server) →
      KeepsInStep p told.later (fresh_channel p.meeting.caller.secret client server offered_flags)
  second_kept v now client server left told below can machine found secret waits =
      let name : List ℕ = p.meeting.caller.computer in
      let c : SecureChannelState = channel_for machine (pair_of client server) (auth_value p.meeting.caller client server) in
      record {
        channel = c;
        keeps = subst (λ (k : Computers). lookup same_name name k.channels ≡ Some c)
            (same_computers _ _ _
            (controllers_step.proved v.table p.name v.computers (length v.links) now v.next p.meeting.caller client server machine left below can found secret waits)
            told.steps)
            (lookup-put_same same_name name c v.computers.channels (same_computer name));
        in_step = calls_are_answered.in_step p.meeting.caller client server machine secret;
      }

  -- a logon moves the channel on at both ends, which stay in step
  third_kept : (v : TurnAt) (now timestamp : ℕ) (o : SecureChannelState) (info : NetworkInfo) (left : List (List ℕ))
      (told : ToldLogon v.table p.name v.computers (length v.links) now v.next timestamp p.meeting.caller o info left) → v.next < 2 ^ 32 →
      IsTurnCall (logon_call p.meeting.caller o timestamp info) → KeepsInStep p v.computers o → KeepsInStep p told.later (after_return true (after_call o timestamp))
  third_kept v now timestamp o info left told below can step_so =
      let name : List ℕ = p.meeting.caller.computer in
      let c : SecureChannelState = moved step_so.channel timestamp in
      record {
        channel = c;
        keeps = subst (λ (k : Computers). lookup same_name name k.channels ≡ Some c)
            (same_computers _ _ _
            (controllers_step.judged v.table p.name v.computers (length v.links) now v.next timestamp p.meeting.caller o step_so.channel info left below can step_so.keeps step_so.in_step) told.steps)
            (lookup-put_same same_name name c (take_out same_name name v.computers.channels) (same_computer name));
        in_step = calls_are_answered.stays o step_so.channel timestamp step_so.in_step;
      }

  module _ (a : ClientAnswer) (who : WhoAsked p a) (v : TurnAt) (left : List (List ℕ)) (moment : ℕ) (able : IsAble plan p) (turning : IsTurningBy plan p a v) (there : IsThere plan p) where
    first_answered : (client : List ℕ) → IsReadyBy plan p s → MayAim plan p v (First client) → Shows s (scene_of p (Calls a who v (First client)) left moment) → GoesTo plan p NotYet s (onward s).state
    first_answered client ready aimed shows =
        let three : HasThree s.chances.left = ready.draws in
        let more : List (List ℕ) = three.two ∷ three.three ∷ three.more in
        let can : IsTurnCall (challenge_call p.meeting.caller client) = calls_can_go.challenge p.meeting.caller client able.caller aimed.0 in
        let told : ToldChallenge v.table p.name v.computers (length v.links) moment v.next p.meeting.caller client three.one more =
        controllers_answer.challenge v.table p.name v.computers (length v.links) moment v.next p.meeting.caller client three.one more turning.next_below can in
        leads_less plan p s _ (On (Halved a who (record v { computers = told.later }) client three.one)) (three.one ∷ []) more moment (omega arith) three.are (
          turning_with a v told.later turning (λ other apart. ap (λ (channels : List (List ℕ × SecureChannelState)). lookup same_name other channels) told.kept) there,
          three.first,
          (
            λ knows. first_kept v moment client three.one more told turning.next_below can
                (of_table p v (λ (t : AccountTable). knows_in t.accounts p.meeting.caller.computer ≡ true) aimed.2 knows),
            aimed.1,
            aimed.2,
          ),
          there,
        )
        (turns_are_seen.answers s (turn_on p a who.later (who.sent ∷ []) v (First client)) (after v.next) v.next (step.Reply (question.Challenge client)) (challenge_call p.meeting.caller client)
        (reply.Challenge (record { challenge = three.one; status = 0 })) v.computers told.later (three.one ∷ more) more moment
        (between a who v (First client) left moment turning aimed) can
        (trusts_stay_beside.called (kept_by (own p) v.table p.name v.computers) (length v.links) moment v.next (challenge_call p.meeting.caller client) (three.one ∷ more) more _ _ _ p.meeting.trusts.nobody turning.next_below can tt told.steps)
        (left_so s (λ (l : List (List ℕ)). scene_of p (Calls a who v (First client)) l moment) left _ shows.left three.are shows))

    -- where no such account has the member's secret, the proof is answered somehow
    second_other : (client server : List ℕ) → (IsOwn plan p → (machine : Account) → account_of_caller p.table p.meeting.caller ≡ Some machine → ⊥) → MayAim plan p v (Second client server) →
        Shows s (scene_of p (Calls a who v (Second client server)) left moment) → GoesTo plan p (WasOpened client server) s (onward s).state
    second_other client server none aimed shows =
        let can : IsTurnCall (auth_call p.meeting.caller client server) = calls_can_go.authenticate p.meeting.caller client server able.caller in
        let told : ToldProof v.table p.name v.computers (length v.links) moment v.next p.meeting.caller client server left =
        controllers_answer.proof v.table p.name v.computers (length v.links) moment v.next p.meeting.caller client server left turning.next_below can in
        leads plan p s _ (Told a who (record v { computers = told.later }) client server told.credential told.status) left moment shows.left (
          turning_with a v told.later turning told.others there,
          told.is,
          λ zero.
              let has : FindsAccount v.table p.meeting.caller client server = told.finds zero in
              let found : account_for p.table (auth_value p.meeting.caller client server) ≡ Some has.machine =
              ap (λ (t : AccountTable). account_for t (auth_value p.meeting.caller client server)) (sym aimed.2.1) ∙ has.found in
              record { machine = has.machine; found = found; in_step = λ is_own. absurd (none is_own has.machine found) },
          there,
          aimed.2,
          λ is_own machine found. absurd (none is_own machine found),
        )
        (turns_are_seen.answers s (turn_on p a who.later (who.sent ∷ []) v (Second client server)) (after v.next) v.next (step.Reply question.Authenticate) (auth_call p.meeting.caller client server)
        (proof_reply told.credential told.status) v.computers told.later left left moment
        (between a who v (Second client server) left moment turning aimed) can
        (trusts_stay_beside.called (kept_by (own p) v.table p.name v.computers) (length v.links) moment v.next (auth_call p.meeting.caller client server) left left _ _ _ p.meeting.trusts.nobody turning.next_below can tt told.steps) shows)

    -- where one has, it is taken
    second_right : (client server : List ℕ) (machine : Account) → account_for p.table (auth_value p.meeting.caller client server) ≡ Some machine → machine.hash ≡ p.meeting.caller.secret →
        MayAim plan p v (Second client server) → Shows s (scene_of p (Calls a who v (Second client server)) left moment) → GoesTo plan p (WasOpened client server) s (onward s).state
    second_right client server machine found secret aimed shows =
        let can : IsTurnCall (auth_call p.meeting.caller client server) = calls_can_go.authenticate p.meeting.caller client server able.caller in
        let name : List ℕ = p.meeting.caller.computer in
        let c : SecureChannelState = channel_for machine (pair_of client server) (auth_value p.meeting.caller client server) in
        let later : Computers = record {
          pending = take_out same_name name v.computers.pending;
          channels = put same_name name c v.computers.channels;
          sessions = v.computers.sessions;
        } in
        leads plan p s _ (Told a who (record v { computers = later }) client server (server_credential p.meeting.caller.secret client server) 0) left moment shows.left (
          turning_with a v later turning (λ other apart. put_others same_name name other c v.computers.channels IsSameness-same_name apart) there,
          calls_can_go.proved p.meeting.caller.secret client server,
          λ zero.
              record {
                machine = machine;
                found = found;
                in_step = λ is_own. record {
                  channel = c;
                  keeps = lookup-put_same same_name name c v.computers.channels (same_computer name);
                  in_step = calls_are_answered.in_step p.meeting.caller client server machine secret;
                };
              },
          there,
          aimed.2,
          λ is_own other is. (refl, refl),
        )
        (turns_are_seen.answers s (turn_on p a who.later (who.sent ∷ []) v (Second client server)) (after v.next) v.next (step.Reply question.Authenticate) (auth_call p.meeting.caller client server)
        (proof_reply (server_credential p.meeting.caller.secret client server) 0) v.computers later left left moment
        (between a who v (Second client server) left moment turning aimed) can
        (trusts_stay_beside.called (kept_by (own p) v.table p.name v.computers) (length v.links) moment v.next (auth_call p.meeting.caller client server) left left _ _ _ p.meeting.trusts.nobody turning.next_below can tt
        (controllers_step.proved v.table p.name v.computers (length v.links) moment v.next p.meeting.caller client server machine left turning.next_below can
        (of_table p v (λ (t : AccountTable). account_for t (auth_value p.meeting.caller client server) ≡ Some machine) aimed.2 found) secret (aimed.0 (able.knows client server machine found))))
        shows)

    second_by : (client server : List ℕ) (found : Option Account) → account_for p.table (auth_value p.meeting.caller client server) ≡ found → MayAim plan p v (Second client server) →
        Shows s (scene_of p (Calls a who v (Second client server)) left moment) → GoesTo plan p (WasOpened client server) s (onward s).state
    second_by client server None found aimed shows = second_other client server (λ is_own machine is. some_not (sym is ∙ found)) aimed shows
    second_by client server (Some machine) found aimed shows =
        elim (cases_Bool (bytes_eq machine.hash p.meeting.caller.secret)) [
          | inl same ↦ second_right client server machine found ((bytes_eq-Decides machine.hash p.meeting.caller.secret).0 same) aimed shows
          | inr differ ↦ second_other client server
              (λ is_own other is.
              differ_not differ ((bytes_eq-Decides machine.hash p.meeting.caller.secret).1 (able.own_secret aimed.1 is_own client server machine found))) aimed shows
        ]

    second_answered : (client server : List ℕ) → MayAim plan p v (Second client server) → Shows s (scene_of p (Calls a who v (Second client server)) left moment) →
        GoesTo plan p (WasOpened client server) s (onward s).state
    second_answered client server aimed shows = second_by client server (account_for p.table (auth_value p.meeting.caller client server)) refl aimed shows

    third_answered : (o c : SecureChannelState) (timestamp : ℕ) → IsReadyBy plan p s → MayAim plan p v (Third o c timestamp) →
        Shows s (scene_of p (Calls a who v (Third o c timestamp)) left moment) → GoesTo plan p (WasJudged a o) s (onward s).state
    third_answered o c timestamp ready aimed shows =
        let can : IsTurnCall (logon_call p.meeting.caller o timestamp (info_asked (own p) a)) = calls_can_go.logon p.meeting.caller o timestamp (info_asked (own p) a) able.caller aimed.0 turning.answering.info in
        let told : ToldLogon v.table p.name v.computers (length v.links) moment v.next timestamp p.meeting.caller o (info_asked (own p) a) left =
        controllers_answer.logon v.table p.name v.computers (length v.links) moment v.next timestamp p.meeting.caller o (info_asked (own p) a) left turning.next_below can turning.ranged able.named
        (subst (λ (now : ℕ). now < 2 ^ 64) shows.moment ready.below) in
        leads plan p s _ (Judged a who (record v { computers = told.later }) o c timestamp told.accounts told.answer) left moment shows.left
        (record {
          turning = turning_with a v told.later turning told.others there;
          there = there;
          one = aimed.2;
          goes = told.is;
          names = told.names;
          differs = told.differs;
          ranged = told.ranged;
          stands = λ is_own. third_kept v moment timestamp o (info_asked (own p) a) left told turning.next_below can (aimed.1 is_own);
        })
        (turns_are_seen.judges s (turn_on p a who.later (who.sent ∷ []) v (Third o c timestamp)) (after v.next) v.next (step.Reply question.Logon) (logon_call p.meeting.caller o timestamp (info_asked (own p) a))
        told.answer told.how v.computers told.later told.accounts left left moment
        (between a who v (Third o c timestamp) left moment turning aimed) can
        (trusts_stay_beside.called (kept_by (own p) v.table p.name v.computers) (length v.links) moment v.next (logon_call p.meeting.caller o timestamp (info_asked (own p) a)) left left _ _ _ p.meeting.trusts.nobody turning.next_below can
        (trusts_stay_beside.alone (kept_by (own p) v.table p.name v.computers) (logon_call p.meeting.caller o timestamp (info_asked (own p) a)) (ap (λ (trusts : AtTrusts). trusts.requesters) able.alone))
        told.steps) shows)

    -- where both ends are in step, the secret is set
    set_kept : (o : SecureChannelState) (timestamp : ℕ) (new : List ℕ) (told : ToldSet v.table p.name v.computers (length v.links) moment v.next timestamp p.meeting.caller o new left) →
        IsSetTurn (change_call p.meeting.caller o timestamp new) → IsPlanned p v → IsToSet p new → HasMachine p → KeepsInStep p v.computers o →
        IsSetRightly p (record v { computers = told.later }) o timestamp new told.accounts told.answer
    set_kept o timestamp new told can planned to_set has step_so =
        let name : List ℕ = p.meeting.caller.computer in
        let c : SecureChannelState = moved step_so.channel timestamp in
        let there : HasPlace (machine_in p.table.accounts p.meeting.caller.account p.meeting.caller.kind p.meeting.caller.computer) =
        place_found p.table.accounts (machine_in p.table.accounts p.meeting.caller.account p.meeting.caller.kind p.meeting.caller.computer) has.machine has.found in
        let found : machine_in v.table.accounts p.meeting.caller.account p.meeting.caller.kind p.meeting.caller.computer ≡ Some there.place =
        of_table p v (λ (t : AccountTable). machine_in t.accounts p.meeting.caller.account p.meeting.caller.kind p.meeting.caller.computer ≡ Some there.place) planned there.is in
        let right = controllers_set.set v.table p.name v.computers (length v.links) moment v.next timestamp there.place p.meeting.caller o step_so.channel new left turning.next_below can
        (subst IsNextSecret to_set able.next) step_so.keeps step_so.in_step found in
        record {
          stands = record {
            channel = c;
            keeps = subst (λ (k : Computers). lookup same_name name k.channels ≡ Some c) (same_computers _ _ _ right told.steps)
                (lookup-put_same same_name name c (take_out same_name name v.computers.channels) (same_computer name));
            in_step = calls_are_answered.stays o step_so.channel timestamp step_so.in_step;
          };
          set = record { place = there.place; hash = new; found = found; is = sym (same_table _ _ _ right told.steps) };
          hash = refl;
          is = told.taken step_so.channel step_so.keeps step_so.in_step (λ none.
              text_not (sym (ap (λ (stepped : Stepped ControllerState). begins_with_text stepped.answer) right)
              ∙ ap (λ (stepped : Stepped ControllerState). begins_with_text stepped.answer) told.steps
              ∙ ap (λ (first : List Action). text_first (first ++ action.Judged told.how ∷ action.Send (length v.links) (set_reply_bytes v.next told.answer) ∷ [])) none));
        }

    fourth_answered : (o c : SecureChannelState) (timestamp : ℕ) (new : List ℕ) → MayAim plan p v (Fourth o c timestamp new) →
        Shows s (scene_of p (Calls a who v (Fourth o c timestamp new)) left moment) → GoesTo plan p (WasSet o) s (onward s).state
    fourth_answered o c timestamp new aimed shows =
        let t : TurnScene = turn_on p a who.later (who.sent ∷ []) v (Fourth o c timestamp new) in
        let call : SetCall = change_call p.meeting.caller o timestamp new in
        let can : IsSetTurn call = set_units_go.call p.meeting.caller o timestamp new able.caller aimed.0 in
        let told : ToldSet v.table p.name v.computers (length v.links) moment v.next timestamp p.meeting.caller o new left =
        controllers_answer_sets.set v.table p.name v.computers (length v.links) moment v.next timestamp p.meeting.caller o new left turning.next_below can turning.ranged in
        let acts : (first : List Action) → Stepped ControllerState = λ first.
        whole_step left left (first ++ action.Judged told.how ∷ action.Send (length v.links) (set_reply_bytes v.next told.answer) ∷ [])
        (controller_at told.accounts p.name told.later (turn_link (length v.links))) in
        let within : IsBetween t = between a who v (Fourth o c timestamp new) left moment turning aimed in
        leads plan p s _ (Setting a who (record v { computers = told.later }) o c timestamp new told.accounts told.answer) left moment shows.left
        (record {
          turning = turning_with a v told.later turning told.others there;
          there = there;
          planned = aimed.2;
          to_set = aimed.3;
          goes = told.is;
          set = told.sets;
          ranged = told.ranged;
          own = λ is_own. set_kept o timestamp new told can aimed.2 aimed.3 aimed.4 (aimed.1 is_own);
        })
        (elim told.keeps [
          | inl none ↦
              sets_are_seen.refuses s t (after v.next) v.next (step.Set set_step.Reply) call told.answer told.how v.computers told.later told.accounts left left moment within can
              (trusts_stay_beside.set (kept_by (own p) v.table p.name v.computers) (length v.links) moment v.next call left left _ _ _ p.meeting.trusts.nobody turning.next_below can (told.steps ∙ ap acts none)) shows
          | inr text ↦
              sets_are_seen.sets s t (after v.next) v.next (step.Set set_step.Reply) call told.answer told.how text.0 v.computers told.later told.accounts left left moment within can
              (trusts_stay_beside.set (kept_by (own p) v.table p.name v.computers) (length v.links) moment v.next call left left _ _ _ p.meeting.trusts.nobody turning.next_below can (told.steps ∙ ap acts text.1)) shows
        ])

  pub any_calls : (a : ClientAnswer) (who : WhoAsked p a) (v : TurnAt) (aim : Aim) (left : List (List ℕ)) (moment : ℕ) → IsAble plan p → IsReadyBy plan p s → IsTurningBy plan p a v → MayAim plan p v aim →
      IsThere plan p → Shows s (scene_of p (Calls a who v aim) left moment) → GoesTo plan p (progress_answered a aim) s (onward s).state
  any_calls a who v (First client) left moment able ready turning aimed there shows = first_answered a who v left moment able turning there client ready aimed shows
  any_calls a who v (Second client server) left moment able ready turning aimed there shows = second_answered a who v left moment able turning there client server aimed shows
  any_calls a who v (Third o c timestamp) left moment able ready turning aimed there shows = third_answered a who v left moment able turning there o c timestamp ready aimed shows
  any_calls a who v (Fourth o c timestamp new) left moment able ready turning aimed there shows = fourth_answered a who v left moment able turning there o c timestamp new aimed shows

  -- ---- the member takes the replies

  pub turning_after : (a : ClientAnswer) (who : WhoAsked p a) (v : TurnAt) (aim : Aim) → IsTurningBy plan p a v → IsTurningBy plan p a (turn_after p v)
  turning_after a who v aim is = record {
    answering = is.answering;
    joined_so = turns_have_links.met (own p) (turn_before p a who.later (who.sent ∷ []) v) (standing_for aim) is.joined_so;
    number_below = after_below v.next;
    next_below = after_below (after v.next);
    others = is.others;
    ranged = is.ranged;
    set = is.set;
    next = is.next;
    fits = is.fits;
  }

  pub any_halved : (a : ClientAnswer) (who : WhoAsked p a) (v : TurnAt) (client server : List ℕ) (left : List (List ℕ)) (moment : ℕ) → IsTurningBy plan p a v → IsBlock 8 server →
      MayAim plan p v (Second client server) → Shows s (scene_of p (Halved a who v client server) left moment) → GoesTo plan p NotYet s (onward s).state
  any_halved a who v client server left moment turning block aimed shows =
      let t : TurnScene = turn_before p a who.later (who.sent ∷ []) v in
      let out : TurnScene = turn_on p a who.later (who.sent ∷ []) v (First client) in
      leads plan p s _ (On (DialsHeld a who (turn_after p v) (Second client server))) left moment shows.left (turning_after a who v (First client) turning, aimed)
      (subst (λ (map : OpenMap). Shows (onward s).state
      (dial_scene out map (standing.Half client server) (after (after v.next)) (after v.next) (auth_call p.meeting.caller client server) v.computers [] left moment))
      (turns_have_links.taken (own p) t standing.Nothing turning.joined_so)
      (turns_are_seen.half s out (after v.next) v.next client server v.computers left moment (turns_have_links.between (own p) t standing.Nothing turning.joined_so)
      turning.next_below refl (calls_can_go.challenged client server block) shows))

  -- what is left where the turn ends, the member keeping `secrets`
  abbrev pub left_with : SecretsState → (a : ClientAnswer) → WhoAsked p a → TurnAt → Aim → Standing → AccountTable → Settled
  left_with secrets a who v aim how accounts =
      record { secrets = secrets; how = how; number = after v.next; links = (turn_on p a who.later (who.sent ∷ []) v aim).links; table = accounts; computers = v.computers }

  module _ (a : ClientAnswer) (who : WhoAsked p a) (v : TurnAt) (aim : Aim) (left : List (List ℕ)) (moment : ℕ) (accounts : AccountTable) (turning : IsTurningBy plan p a v)
      (differs : DifferInCounts v.table accounts) (ranged : InRangeTable accounts) where
    pub left_so_far : (how : Standing) → MayStand plan p v.computers how → ((o : SecureChannelState) → how ≡ standing.Open o → v.secrets.next ≡ None) →
        IsLeft plan p (left_with v.secrets a who v aim how accounts)
    left_so_far how stands one = record {
      joined_so = turns_have_links.met (own p) (turn_before p a who.later (who.sent ∷ []) v) (standing_for aim) turning.joined_so;
      number_below = after_below v.next;
      next = turning.next;
      one = one;
      before = v.table;
      set = turning.set;
      differs = differs;
      ranged = ranged;
      fits = λ is_own first. fits_counted v.table accounts p.meeting.caller v.secrets differs (turning.fits is_own first);
      others = turning.others;
      stands = stands;
    }

  -- what is left where the logon is dropped, and the channel with it
  pub dropped_left : (secrets : SecretsState) (a : ClientAnswer) (who : WhoAsked p a) (v : TurnAt) (aim : Aim) (before accounts : AccountTable) → IsTurningBy plan p a v → IsNextSecret secrets.next →
      MaySet plan p before → DifferInCounts before accounts → InRangeTable accounts → (IsOwn plan p → FitsStill p accounts secrets) →
      IsLeft plan p (left_with secrets a who v aim standing.Nothing accounts)
  dropped_left secrets a who v aim before accounts turning next set differs ranged fits = record {
    joined_so = turns_have_links.met (own p) (turn_before p a who.later (who.sent ∷ []) v) (standing_for aim) turning.joined_so;
    number_below = after_below v.next;
    next = next;
    one = λ o stands. absurd (nothing_not_open o stands);
    before = before;
    set = set;
    differs = differs;
    ranged = ranged;
    fits = fits;
    others = turning.others;
    stands = tt;
  }

  -- what is seen then: the channel has the next secret that it was given
  pub dropped_seen : (a : ClientAnswer) (who : WhoAsked p a) (v : TurnAt) (aim : Aim) (left : List (List ℕ)) (moment : ℕ) (denied : Bool) (accounts : AccountTable) (then_so : State) →
      Shows then_so (meeting_scene (settled_with (secrets_dropped denied v.secrets)
      (settled_at (own_keeping p v.secrets) accounts p.name v.computers standing.Nothing (after v.next) (turn_on p a who.later (who.sent ∷ []) v aim).links)) (waits_for p a who.later)
      (out_talk p.meeting.task rpc_s_server_unavailable) (unit_down (own p) (who_fault rpc_s_server_unavailable) ∷ []) left moment) →
      Shows then_so (away_scene p (Faulted a who.later (left_with (secrets_dropped denied v.secrets) a who v aim standing.Nothing accounts) rpc_s_server_unavailable) left moment)
  dropped_seen a who v aim left moment denied accounts then_so shows =
      let e : Settled = left_with (secrets_dropped denied v.secrets) a who v aim standing.Nothing accounts in
      subst (λ (next : Option (List ℕ)). Shows then_so
      (meeting_scene (record (settled_in p e) { given = record { secret = p.meeting.caller.secret; next = next } }) (waits_for p a who.later) (out_talk p.meeting.task rpc_s_server_unavailable)
      (unit_down (own p) (who_fault rpc_s_server_unavailable) ∷ []) left moment)) (next_dropped denied v.secrets) shows

  module _ (a : ClientAnswer) (who : WhoAsked p a) (v : TurnAt) (aim : Aim) (left : List (List ℕ)) (moment : ℕ) (accounts : AccountTable) (turning : IsTurningBy plan p a v)
      (differs : DifferInCounts v.table accounts) (ranged : InRangeTable accounts) where
    pub dropped_on : (q : Question) (r : Reply) (cause : DropCause) → (IsOwn plan p → FitsStill p accounts (secrets_dropped (is_denied cause) v.secrets)) → IsTurnReply q r →
        judge q r (standing_for aim) p.meeting.caller.secret ≡ judgement.Drop cause →
        Shows s (turn_scene (with_accounts accounts (turn_on p a who.later (who.sent ∷ []) v aim)) (after v.next) v.next (step.Reply q) v.computers (turn_link (length v.links))
        (unit_back (with_accounts accounts (turn_on p a who.later (who.sent ∷ []) v aim)) (reply_bytes v.next r) ∷ []) left moment) → GoesTo plan p NotYet s (onward s).state
    dropped_on q r cause fits goes judged shows =
        let how : Standing = standing_for aim in
        let before : TurnScene = turn_before p a who.later (who.sent ∷ []) v in
        let out : TurnScene = turn_on p a who.later (who.sent ∷ []) v aim in
        let secrets : SecretsState = secrets_dropped (is_denied cause) v.secrets in
        leads plan p s _ (Away (Faulted a who.later (left_with secrets a who v aim standing.Nothing accounts) rpc_s_server_unavailable)) left moment shows.left
        (dropped_left secrets a who v aim v.table accounts turning (form_dropped (is_denied cause) v.secrets turning.next) turning.set differs ranged fits, omega arith)
        (dropped_seen a who v aim left moment (is_denied cause) accounts (onward s).state
        (failings_are_seen.dropped s (own_keeping p v.secrets) (waits_for p a who.later) out.info a.challenge (message_for (own p) a) accounts p.name how out.links out.opened (length v.links)
        (after v.next) v.next 1 q r cause v.computers _ _ left moment who turning.next_below
        (between_still out accounts (turns_have_links.between (own p) before how turning.joined_so)) goes judged
        (turns_have_links.met (own p) before how turning.joined_so) (turns_have_links.taken (own p) before how turning.joined_so) shows))

    -- the logon is refused, and the channel stands
    pub refused_on : (r : Reply) (o : SecureChannelState) (status : ℕ) → IsTurnReply question.Logon r →
        judge question.Logon r (standing_for aim) p.meeting.caller.secret ≡ judgement.Answer o (verdict.Status status) → (IsOwn plan p → KeepsInStep p v.computers o) → v.secrets.next ≡ None →
        Shows s (turn_scene (with_accounts accounts (turn_on p a who.later (who.sent ∷ []) v aim)) (after v.next) v.next (step.Reply question.Logon) v.computers (turn_link (length v.links))
        (unit_back (with_accounts accounts (turn_on p a who.later (who.sent ∷ []) v aim)) (reply_bytes v.next r) ∷ []) left moment) → GoesTo plan p NotYet s (onward s).state
    refused_on r o status goes judged stands one shows =
        let how : Standing = standing_for aim in
        let before : TurnScene = turn_before p a who.later (who.sent ∷ []) v in
        let out : TurnScene = turn_on p a who.later (who.sent ∷ []) v aim in
        leads plan p s _ (Away (Faulted a who.later (left_with v.secrets a who v aim (standing.Open o) accounts) error_access_denied)) left moment shows.left
        (left_so_far a who v aim left moment accounts turning differs ranged (standing.Open o) stands (λ state is. one), omega arith)
        (failings_are_seen.refused s (own_keeping p v.secrets) (waits_for p a who.later) out.info a.challenge (message_for (own p) a) accounts p.name how o out.links out.opened (length v.links)
        (after v.next) v.next 1 status question.Logon r v.computers _ _ left moment who turning.next_below
        (between_still out accounts (turns_have_links.between (own p) before how turning.joined_so)) goes judged
        (turns_have_links.met (own p) before how turning.joined_so) (turns_have_links.taken (own p) before how turning.joined_so) shows)

  -- ---- a logon that is turned away

  pub any_away : (phase : AwayPhase p) (left : List (List ℕ)) (moment : ℕ) → MayFitAway plan p phase → Shows s (away_scene p phase left moment) → GoesTo plan p NotYet s (onward s).state
  any_away (Refused a who v o c timestamp accounts status) left moment fits shows = absurd fits
  any_away (Unheard a who e) left moment fits shows =
      leads plan p s _ (Away (Faulted a who.later e rpc_s_server_unavailable)) left moment shows.left (fits, omega arith)
      (failings_are_seen.faults s (settled_in p e) (waits_for p a who.later) rpc_s_server_unavailable 1 _ _ left moment fits.joined_so who shows)
  any_away (Faulted a later e status) left moment fits shows =
      let seen = failings_are_seen.faulted s (settled_in p e) (with_session (terms_at p a) later) (out_talk p.meeting.task status) status left moment fits.1 shows in
      record {
        few = record { front = []; few = omega arith; are = shows.left ∙ sym seen.left };
        at = inr (record { outcome = fault_outcome (status == rpc_s_server_unavailable) status; settled = e; left = left; moment = moment; fits = fits.0; shows = seen });
      }
