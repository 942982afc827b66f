-- In each phase of a logon, whatever it comes to, where no credential clashed, none does as a unit comes: the unit that
-- carries a call, and the one that carries its reply, was made for the channel on which the credential passes.
-- It serves `Proved.one_by_one`.
use Rattle.std.proofs.Common.{◌≡◌, ◌≢◌, ℕ, ◌+◌, ◌==◌, arith, Bool, true, false, List, [], ◌∷◌, ◌++◌, length, map, Option, Some, None, Result, Ok, Err, inl, inr, refl, sym, ap, ap₂, subst, ◌∙◌, slice_get}
use Rattle.std.specs.Prelude.{◌⊎◌}
use Rattle.std.proofs.lemmas.Bool.{cases_Bool, false_from_ne_true}
use Rattle.std.proofs.lemmas.Bool.Decides.{Decides-eqb}
use Rattle.wire_base.specs.Maps.{lookup}
use Rattle.wire_base.specs.Names.{same_name}
use Rattle.authenticators.specs.Channels.{ChannelIdentity}
use Rattle.authenticators.specs.SecureChannels.{SecureChannelState, channel_of, key_of_channel}
use Rattle.rpc_units.specs.Calls.{bytes_of_call}
use Rattle.rpc_units.specs.Writing.{written}
use Rattle.outside.specs.declared.action.Action.{Action}
use Rattle.outside.specs.declared.action.StepRefused.{StepRefused}
use Rattle.outside.specs.Machine.{Stepped}
use Rattle.secret_change.specs.Ranges.{InRangeSetReply}
use Rattle.secret_change.specs.Secrets.{IsNextSecret}
use Rattle.secret_change.specs.declared.calls.SetCall.{SetCall}
use Rattle.secret_change.specs.declared.calls.SetReply.{SetReply}
use Rattle.secret_change.proofs.SetLaws.{reply_stub}
use Rattle.account_table.specs.LookUps.{machine_in}
use Rattle.outside.specs.declared.action.DropCause.TheVariants as drop_cause
use Rattle.logon_stubs.specs.declared.calls.AuthCall.{AuthCall}
use Rattle.logon_stubs.specs.declared.calls.Call.{Call}
use Rattle.logon_stubs.specs.declared.calls.Reply.{Reply}
use Rattle.account_table.specs.AccountTable.{AccountTable}
use Rattle.account_table.specs.declared.account.Account.{Account}
use Rattle.end_links.specs.Links.{LinkState}
use Rattle.end_links.specs.Serving.{ServedUnit, ServedPart}
use Rattle.channel_client.specs.declared.state.SetStep.TheVariants as set_step
use Rattle.channel_client.specs.Machine.{after, judge_auth, offered_flags, wait_for, take_of}
use Rattle.channel_client.specs.State.{Requester}
use Rattle.channel_events.specs.Marks.{Calling, Opened, Opening, Plain, ReplyTo}
use Rattle.wire_base.proofs.ListLaws.{got_append}
use Rattle.domain_controller.specs.Hearing.{bound_talk, served_call}
use Rattle.domain_controller.specs.Machine.{Desk, account_for, by_call, status_of}
use Rattle.logon_client.specs.Answering.{bind_for}
use Rattle.member_server.specs.Machine.{step_of}
use Rattle.member_server.specs.declared.plan.MemberPlan.{MemberPlan}
use Rattle.member_server.specs.Turns.{AtTurn, turn_talk}
use Rattle.member_server.specs.declared.state.Logons.{Logons}
use Rattle.member_server.specs.declared.state.Talk.{Talk}
use Rattle.channel_turns.specs.declared.state.TurnTalk.{TurnTalk}
use Rattle.step_notes.specs.ChannelNames.{Expects, HasChannel}
use Rattle.step_notes.specs.ControllerNotes.{Answered, has_passed, identity_by, judged_in, judging_of, new_actions, opened_account, opened_by, opening, passing, plain}
use Rattle.step_notes.specs.Marking.{answered_marks, clashes}
use Rattle.step_notes.specs.MemberNotes.{half_channel, taking_note, turn_units, turn_units_by}
use Rattle.step_notes.specs.Records.{Book, Judging, Sent}
use Rattle.controller_calls.specs.declared.calls.ControllerCall.{ControllerCall}
use Rattle.controller_calls.specs.declared.calls.ControllerCall.TheVariants as controller_call
use Rattle.controller_calls.specs.declared.calls.JudgedCall.TheVariants.{Network, Set}
use Rattle.domain_controller.specs.State.{State as ControllerState}
use Rattle.step_notes.specs.Served.{units_if_taken, work_after}
use Rattle.step_notes.proofs.Channels.ChannelNameLaws.{channels_are_named_alike}
use Rattle.world_moves.specs.MemberPlans.{but_secret}
use Rattle.world_moves.specs.declared.links.EndId.TheVariants.{Client, Controller}
use Rattle.world_moves.specs.declared.links.Route.TheVariants.{ToMember}
use Rattle.world_moves.specs.declared.state.State.{State}
use Rattle.world_moves.specs.declared.state.WaitingDial.{WaitingDial}
use Rattle.world_moves.specs.Moving.{act, connect_first, end_of_peer, onward, start, tick, without_first}
use Rattle.world_moves.specs.World.{World}
use Rattle.world_moves.specs.Bag.{first_waiting}
use Rattle.logon_steps.specs.Answering.{IsInStep, auth_value}
use Rattle.logon_steps.specs.Answers.{auth3_for}
use Rattle.logon_steps.specs.ControllerTurns.{reply_bytes, passed_reply, turn_link}
use Rattle.logon_steps.specs.Meeting.{ack_for, challenged_talk, fresh_talk}
use Rattle.logon_steps.specs.MemberTurns.{logons_keeping, member_at, on_turn}
use Rattle.logon_steps.specs.SetTurns.{IsSetTurn, set_reply_bytes, set_request, set_response, set_taken}
use Rattle.logon_steps.specs.Turning.{turn_response, IsTurnCall, IsTurnReply, turn_agreed}
use Rattle.logon_steps.proofs.AnswersLaws.{answers_are_asked}
use Rattle.logon_steps.proofs.CallingLaws.{calls_can_go}
use Rattle.logon_steps.proofs.ControllerTurnLaws.{controllers_step}
use Rattle.logon_steps.proofs.SetTurnLaws.{controllers_set, set_asked, set_comes, set_reply_comes, set_reply_sends, set_units_go}
use Rattle.logon_steps.proofs.MeetingLaws.{ack_sends, bind_sends}
use Rattle.logon_steps.proofs.TurningLaws.{unit_comes}
use Rattle.logon_runs.specs.Scenes.LinkScenes.{its_link, unit_down, unit_up, Meeting}
use Rattle.logon_runs.specs.Scenes.TurnScenes.{IsBetween, TurnScene, with_accounts, turn_scene, unit_back}
use Rattle.logon_runs.specs.Scenes.Others.{IsStepOn}
use Rattle.logon_runs.specs.Scenes.WaitingUnits.{waiting}
use Rattle.logon_runs.specs.Phases.{IsPlanned as IsPlannedTurn, Aim, Arrival, First, Fourth, HasThree, IsAsking, IsOpening, IsSetting, LogonPhase, NotYet, Progress, progress_answered, progress_onward, Second, Third, TurnAt, WasJudged, WasOpened, WasSet, WasTold, WhoAsked, own, progress_called, progress_of, scene_of, standing_for, step_for, turn_before, turn_on, with_its_controller, Acked, Answers, Binds, BindsBefore, BindsHeld, Calls, Challenged, Dials, DialsBefore, DialsHeld, Echoed, Echoes, Granted, Halved, Named, Proved, Sets, IsAnswering}
use Rattle.logon_runs.specs.Runs.{ClientAnswer, goes, info_asked, message_for}
use Rattle.logon_runs.specs.Scenes.Scene.{Shows}
use Rattle.logon_runs.proofs.Phases.PhaseStartLaws.{left_so}
use Rattle.logon_runs.proofs.Phases.PhaseTurnLaws.{HasPlace, of_table, place_found}
use Rattle.logon_runs.proofs.RunLaws.{between_still}
use Rattle.logon_runs.proofs.Scenes.LinkSceneLaws.{found_here, heard_down}
use Rattle.logon_runs.proofs.Scenes.TwoLinkLaws.{turns_have_links}
use Rattle.logon_runs.proofs.Scenes.StepOnLaws.{by_step}
use Rattle.logon_runs.proofs.Scenes.WaitingLaws.{waiting_comes}
use Rattle.domain_world.specs.Past.{judged_of, note, note_given, note_onward}
use Rattle.domain_world.proofs.Completeness.HeardOnceLaws.{either_way, set_hears, turn_line}
use Rattle.domain_world.proofs.Completeness.UnitNotedLaws.{comes_so}
use Rattle.domain_world.proofs.Clear.NotedLaws.{Fine, Waits, given_fine, grows, world_at}
use Rattle.domain_world.proofs.Clear.NotedOnLaws.{waits_marked}
use Rattle.domain_world.proofs.Clear.UnitComesLaws.{Called, CalledBy, FineAnd, Names, ack_leads, answer_in_turn, answer_to, bag_kept, bind_leads, call_comes, calls_come, channel_in_turn, client_comes, connect_fine, desk_in_turn, waiting_leads, judged_bag, meeting_leads, quiet_leads, replied_bag, reply_leads, reply_waits, reply_waits_by, responses_lead, set_ack_leads, where_by, where_in_turn, start_fine}
use Rattle.logon_runs.specs.AnyAnswer.AnyPhases.{progress_in, progress_next, AnyPhase, Away, IsAble, IsGranted, IsOwn, IsReadyBy, IsThere, IsTurningBy, Judged, KeepsInStep, MayAim, MayFit, MayFitAway, MayFitOn, On, Setting, Told, any_scene, proof_reply}
use Rattle.logon_runs.specs.OtherKeys.LetIn.{let_in_scene, Asks, FitsLetIn, Hears, IsOnLink, LetInPhase}
use Rattle.logon_runs.specs.Failing.TurnedAway.{AwayPhase, Faulted, Refused, Unheard, away_scene, settled_in}
use Rattle.domain_controller.specs.declared.state.Talk.{Talk as ControllerTalk}
use Rattle.logon_stubs.specs.Ranges.{IsBlock}
use Rattle.world_moves.specs.declared.moves.Move.{Move}
use Rattle.world_moves.specs.declared.plan.Plan.{Plan}
use Rattle.channel_client.specs.declared.state.Question.{Question}
use Rattle.logon_runs.specs.AnyAnswer.ControllerAnswers.{ToldChallenge, ToldProof}
use Rattle.logon_stubs.specs.declared.info.Verdict.{Verdict}
use Rattle.logon_runs.proofs.AnyAnswer.ControllerAnswerLaws.{controllers_answer}
use Rattle.end_links.specs.Sending.{fault_of}
use Rattle.logon_runs.proofs.Failing.FailingStepLaws.{fault_sends}
use Rattle.authenticators.specs.Sequences.{return_of}
use Rattle.rpc_units.specs.Numbers.{rpc_s_server_unavailable}
use Rattle.member_server.specs.Requests.{talk_in}
use Rattle.sam_logon.specs.Verdict.{verdict_of}
use Rattle.logon_runs.specs.Failing.FailingSteps.{out_talk, who_fault}
use Rattle.logon_runs.proofs.AnyAnswer.RestAgainLaws.{some_not}
use Rattle.logon_steps.proofs.AnsweringLaws.{calls_are_answered}
use Rattle.outside.specs.declared.action.Judged.TheVariants as judged
use Rattle.outside.specs.declared.event.Event.TheVariants as event
use Rattle.logon_stubs.specs.declared.calls.Reply.TheVariants as reply
use Rattle.channel_client.specs.declared.state.Question.TheVariants as question
use Rattle.channel_client.specs.declared.state.Step.TheVariants as step
use Rattle.channel_client.specs.Machine as requester
use Rattle.logon_client.specs.declared.state.Phase.TheVariants as client_phase
use Rattle.world_moves.specs.declared.moves.Move.TheVariants as move
use Rattle.channel_client.specs.declared.state.Standing.TheVariants as standing
use Rattle.domain_world.proofs.Clear.OwnTakingLaws.{IsMadeFor, drops_own, takes_own}

-- ---- what holds

-- no credential clashed, and each unit of the bag has its mark
pub record IsClean (s : State) (b : Book) : Type 0 where
  pub apart : b.clash ≡ false
  pub marked : length b.sent ≡ length s.bag

pub fine_of : (s : State) (b : Book) → IsClean s b → Fine s (length b.judged) b
fine_of s b clean = record { apart = clean.apart; few = omega arith; marked = clean.marked }

pub clean_of : (s : State) (count : ℕ) (b : Book) → Fine s count b → IsClean s b
clean_of s count b fine = record { apart = fine.apart; marked = fine.marked }

-- the channel that is opened, and the one that stands
abbrev pub half_of : Arrival → List ℕ → List ℕ → ChannelIdentity
half_of p client server = record {
  controller = p.meeting.at_controller;
  computer = p.meeting.caller.computer;
  secret = p.meeting.caller.secret;
  client = client;
  server = server;
  flags = offered_flags;
}

abbrev pub open_of : Arrival → SecureChannelState → ChannelIdentity
open_of p o = channel_of p.meeting.at_controller p.meeting.caller.computer o

-- the controller has no account for the call that opens the member's channel
abbrev pub HasNone : Arrival → List ℕ → List ℕ → Type 0
HasNone p client server = account_for p.table (auth_value p.meeting.caller client server) ≡ None

-- the unit that waits was made for that channel, where a call or its reply is out; a refusal to open one was made for
-- none
abbrev pub WaitsFor : Arrival → Progress → State → Book → Type 0
WaitsFor p NotYet s b = Unit {0}
WaitsFor p (IsOpening client server) s b = Waits s (Some (half_of p client server)) b
WaitsFor p (WasOpened client server) s b = Waits s (Some (half_of p client server)) b ⊎ HasNone p client server
WaitsFor p (IsSetting o) s b = Waits s (Some (open_of p o)) b
WaitsFor p (WasSet o) s b = Waits s (Some (open_of p o)) b
WaitsFor p (IsAsking o) s b = Waits s (Some (open_of p o)) b
WaitsFor p (WasJudged a o) s b = Waits s (Some (open_of p o)) b
WaitsFor p (WasTold a) s b = Unit {0}

pub record IsClearFor (p : Arrival) (far : Progress) (s : State) (b : Book) : Type 0 where
  pub clean : IsClean s b
  pub waits : WaitsFor p far s b

-- where there is no account no channel is opened
none_opened : (controller : ℕ) (c : AuthCall) (d : Desk) → account_for d.table c ≡ None → opened_by controller c d ≡ None
none_opened controller c d none =
    ap (λ (found : Option Account). identity_by controller c.computer (opened_account found (lookup same_name c.computer d.work.computers.pending) c)) none

-- what an end does in a step that it takes
abbrev actions_in : Result (List Action) StepRefused → List Action
actions_in (Ok actions) = actions
actions_in (Err why) = []

-- the member's plan is that of the world, but for the secret, and names the controller where it reaches one
pub record IsPlanned (plan : Plan) (p : Arrival) (s : State) : Type 0 where
  pub is_plan : slice_get (map but_secret s.member_plans) p.meeting.at_member ≡ Some (but_secret p.meeting.plan)
  pub reach : IsThere plan p → end_of_peer p.meeting.plan.controller s.ends ≡ Some (Controller p.meeting.at_controller)

-- both ends of a channel name it alike
named_alike : (controller : ℕ) (computer : List ℕ) (o c : SecureChannelState) → IsInStep o c → channel_of controller computer c ≡ channel_of controller computer o
named_alike controller computer o c is =
    ap₂ (λ (secret client : List ℕ). record { controller = controller; computer = computer; secret = secret; client = client; server = c.server; flags = c.flags }) is.secret is.client
    ∙ ap₂ (λ (server : List ℕ) (flags : ℕ). record { controller = controller; computer = computer; secret = o.secret; client = o.client; server = server; flags = flags }) is.server is.flags

-- no unit is the turn's that comes on another link
other_quiet : (logons : Logons) (links : List (ℕ × LinkState Talk)) (link other now : ℕ) (piece : List ℕ) (left : List (List ℕ)) → link ≢ other →
    turn_units (member_at logons links (on_turn link)) other piece now left ≡ []
other_quiet logons links link other now piece left apart =
    let differs : (link == other) ≡ false = false_from_ne_true (link == other) (λ is. apart ((Decides-eqb link other).0 is)) in
    ap (λ (hit : Bool). units_if_taken (step_of (member_at logons links (on_turn link)) (event.Bytes other piece) now left).answer
    (turn_units_by hit (record { rest = []; talk = turn_talk None }) other piece (record { logons = logons; links = links; dialling = on_turn link; sealing = None }) left)) differs
    ∙ either_way (λ (units : List (ServedUnit AtTurn TurnTalk)). units ≡ []) (step_of (member_at logons links (on_turn link)) (event.Bytes other piece) now left).answer [] refl refl

-- ---- a unit comes

-- none waits
pub idle_clean : (s : State) (k : ℕ) (b : Book) → IsClean s b → waiting s.bag ≡ [] → IsClean (goes s) (note (world_at k s) move.Onward b)
idle_clean s k b clean none =
    clean_of (goes s) (length b.judged) (note (world_at k s) move.Onward b)
    (subst (λ (one : Book). Fine (goes s) (length b.judged) (note_given k (onward s).given (goes s) one)) (sym (ap (λ (found : Option ℕ). note_onward found k s b) (waiting_comes.none s.bag none)))
    (given_fine k (onward s).given (goes s) (length b.judged) b clean.apart (omega arith) (omega (arith, clean.marked, grows s move.Onward))))

module _ (plan : Plan) (p : Arrival) (s : State) (k : ℕ) (b : Book) (able : IsAble plan p) (planned : IsPlanned plan p s) (own_so : IsThere plan p → IsOwn plan p) (clean : IsClean s b) (left : List (List ℕ))
    (moment : ℕ) where
  abbrev now : Book
  now = note (world_at k s) move.Onward b

  abbrev count : ℕ
  count = length b.judged

  abbrev After : Progress → Type 0
  After far = IsClearFor p far (goes s) now

  fine : Fine s count b
  fine = fine_of s b clean

  names_of : (t : TurnScene) → t.at_member ≡ p.meeting.at_member → t.at_controller ≡ p.meeting.at_controller → but_secret t.plan ≡ but_secret p.meeting.plan → IsThere plan p → Names s t
  names_of t member controller own_plan there = record {
    plan = subst (λ (at : ℕ). slice_get (map but_secret s.member_plans) at ≡ Some (but_secret t.plan)) (sym member) (planned.is_plan ∙ ap (λ (one : MemberPlan). Some one) (sym own_plan));
    reach = subst (λ (at : ℕ). end_of_peer t.plan.controller s.ends ≡ Some (Controller at)) (sym controller)
        (ap (λ (one : MemberPlan). end_of_peer one.controller s.ends) own_plan ∙ planned.reach there);
  }

  binds_clear : Shows s (scene_of p Binds left moment) → After NotYet
  binds_clear shows = record {
    clean = clean_of (goes s) count now
        (meeting_leads s (with_its_controller p (own p)) client_phase.Bound fresh_talk (written (bind_for p.meeting.task.level p.meeting.task.auth)) [] left moment count
        (unit_comes (bind_for p.meeting.task.level p.meeting.task.auth) (bind_sends p.meeting.task.level p.meeting.task.auth)) shows k b fine);
    waits = tt;
  }

  challenged_clear : (challenge : List ℕ) → IsBlock 8 challenge → Shows s (scene_of p (Challenged challenge) left moment) → After NotYet
  challenged_clear challenge fits shows =
      let ack : List ℕ = written (ack_for p.meeting.plan p.meeting.task challenge) in
      record {
        clean = clean_of (goes s) count now
            (client_comes s (unit_down (own p) ack) [] p.meeting.at_client count
            (comes_so s _ (unit_down (own p) ack) [] (Client p.meeting.at_client) shows
            (heard_down (with_its_controller p (own p)) client_phase.Bound (challenged_talk p.meeting.task challenge) ack [] left moment
            (unit_comes (ack_for p.meeting.plan p.meeting.task challenge) (ack_sends p.meeting.plan p.meeting.task challenge able.names fits.0)))) k b fine);
        waits = tt;
      }

  module _ (a : ClientAnswer) (who : WhoAsked p a) where
    answers_clear : IsAnswering p a → Shows s (scene_of p (Answers a who) left moment) → After NotYet
    answers_clear fits shows = record {
      clean = clean_of (goes s) count now
          (meeting_leads s (with_its_controller p (own p)) _ (challenged_talk p.meeting.task a.challenge) (written (auth3_for p.meeting.task (message_for (own p) a)))
          (unit_up (own p) who.sent ∷ []) left moment count
          (unit_comes (auth3_for p.meeting.task (message_for (own p) a))
          (answers_are_asked.sends p.meeting.plan p.meeting.task a.challenge a.one a.two a.three a.then_now able.can able.names fits.draws)) shows k b fine);
      waits = tt;
    }

    module _ (v : TurnAt) where
      abbrev t_on : Aim → TurnScene
      t_on aim = turn_on p a who.later (who.sent ∷ []) v aim

      between_on : (aim : Aim) → IsTurningBy plan p a v → IsBetween (t_on aim)
      between_on aim is = turns_have_links.between (own p) (turn_before p a who.later (who.sent ∷ []) v) (standing_for aim) is.joined_so

      before_clear : (aim : Aim) → Shows s (scene_of p (DialsBefore a who v aim) left moment) → After NotYet
      before_clear aim shows = record {
        clean = clean_of (goes s) count now
            (waiting_leads s (turn_before p a who.later [] v) (its_link (own p)) (standing_for aim) v.next v.number (step_for p a aim) v.computers (unit_up (own p) who.sent) [] left moment count shows
            (record {
              units = refl;
              some = who.some;
              short = omega (arith, who.short);
              there = record { route = ToMember p.meeting.at_client p.meeting.at_member; dialler = true; acceptor = true };
              found = found_here (own p);
              hearer = refl;
            }) k b fine);
        waits = tt;
      }

      held_clear : (aim : Aim) → IsTurningBy plan p a v → Shows s (scene_of p (BindsBefore a who v aim) left moment) → After NotYet
      held_clear aim is shows =
          let before : TurnScene = turn_before p a who.later [] v in
          let t : TurnScene = turn_on p a who.later [] v aim in
          record {
            clean = clean_of (goes s) count now
                (quiet_leads s _ (unit_up (own p) who.sent) _ count shows
                (record {
                  units = refl;
                  some = who.some;
                  short = omega (arith, who.short);
                  there = record { route = ToMember p.meeting.at_client p.meeting.at_member; dialler = true; acceptor = true };
                  found = turns_have_links.own (own p) before (standing_for aim) is.joined_so;
                  hearer = refl;
                })
                (λ then_now l. other_quiet (logons_keeping t.plan t.caller t.how t.info t.place v.next v.number (step_for p a aim) t.asked) t.accepted (length v.links) (own p).link
                then_now who.sent l (turns_have_links.apart (own p) before is.joined_so)) k b fine);
            waits = tt;
          }

      bound_clear : (aim : Aim) → IsTurningBy plan p a v → Shows s (scene_of p (BindsHeld a who v aim) left moment) → After NotYet
      bound_clear aim is shows = record {
        clean = clean_of (goes s) count now
            (bind_leads s (t_on aim) v.next v.number (step_for p a aim) v.computers left moment count able.alone (between_on aim is) is.number_below shows k b fine);
        waits = tt;
      }

      -- the call goes out
      acked_clear : (aim : Aim) → IsTurningBy plan p a v → MayAim plan p v aim → IsThere plan p → Shows s (scene_of p (Acked a who v aim) left moment) → After (progress_called aim)
      acked_clear (First client) is aimed there shows =
          let t : TurnScene = t_on (First client) in
          let f : FineAnd (goes s) count None now =
          ack_leads s t v.next v.number (requester.challenge_call p.meeting.caller client) v.computers left moment count Plain None (between_on (First client) is) is.number_below (names_of t refl refl refl there) refl shows k b fine in
          record { clean = clean_of (goes s) count now f.fine; waits = tt }
      acked_clear (Second client server) is aimed there shows =
          let t : TurnScene = t_on (Second client server) in
          let asks : Requester = channel_in_turn t v.next v.number (step.Bind (requester.auth_call p.meeting.caller client server)) in
          let f : FineAnd (goes s) count (Some (half_of p client server)) now =
          ack_leads s t v.next v.number (requester.auth_call p.meeting.caller client server) v.computers left moment count
          (Opening (half_channel t.at_controller (wait_for asks t.place (step.Reply question.Authenticate)) client server) asks.next_call) None (between_on (Second client server) is) is.number_below
          (names_of t refl refl refl there) refl shows k b fine in
          record { clean = clean_of (goes s) count now f.fine; waits = f.waits }
      acked_clear (Third o c timestamp) is aimed there shows =
          let t : TurnScene = t_on (Third o c timestamp) in
          let asks : Requester = channel_in_turn t v.next v.number (step.Bind (requester.logon_call p.meeting.caller o timestamp (info_asked (own p) a))) in
          let f : FineAnd (goes s) count (Some (open_of p o)) now =
          ack_leads s t v.next v.number (requester.logon_call p.meeting.caller o timestamp (info_asked (own p) a)) v.computers left moment count (Calling (open_of p o) asks.next_call timestamp) (Some t.place)
          (between_on (Third o c timestamp) is) is.number_below (names_of t refl refl refl there) refl shows k b fine in
          record { clean = clean_of (goes s) count now f.fine; waits = f.waits }
      acked_clear (Fourth o c timestamp new) is aimed there shows =
          let t : TurnScene = t_on (Fourth o c timestamp new) in
          let call : SetCall = requester.change_call p.meeting.caller o timestamp new in
          let asks : Requester = channel_in_turn t v.next v.number (step.Set (set_step.Bind call)) in
          let f : FineAnd (goes s) count (Some (open_of p o)) now =
          set_ack_leads s t v.next v.number call v.computers left moment count (Calling (open_of p o) asks.next_call timestamp) None
          (between_on (Fourth o c timestamp new) is) is.number_below (names_of t refl refl refl there) refl shows k b fine in
          record { clean = clean_of (goes s) count now f.fine; waits = f.waits }

      -- the controller answers
      module _ (is : IsTurningBy plan p a v) (there : IsThere plan p) where
        first_clear : (client : List ℕ) → HasThree s.chances.left → MayAim plan p v (First client) → Shows s (scene_of p (Calls a who v (First client)) left moment) → After NotYet
        first_clear client three aimed shows =
            let t : TurnScene = t_on (First client) in
            let more : List (List ℕ) = three.two ∷ three.three ∷ three.more in
            let can : IsTurnCall (requester.challenge_call p.meeting.caller client) = calls_can_go.challenge p.meeting.caller client able.caller aimed.0 in
            let told : ToldChallenge v.table p.name v.computers (length v.links) moment v.next p.meeting.caller client three.one more =
            controllers_answer.challenge v.table p.name v.computers (length v.links) moment v.next p.meeting.caller client three.one more is.next_below can in
            record {
              clean = clean_of (goes s) count now
                  (call_comes s t (after v.next) v.next (step.Reply (question.Challenge client)) (requester.challenge_call p.meeting.caller client) v.computers (three.one ∷ more) more moment count count _ _
                  able.alone (between_on (First client) is) is.next_below can told.steps
                  (left_so s (λ (l : List (List ℕ)). scene_of p (Calls a who v (First client)) l moment) left _ shows.left three.are shows) k b fine
                  (λ unit first. refl) (λ unit numbers. omega arith)).has.fine;
              waits = tt;
            }

        -- the channel opens by the account of that secret
        granted_clear : (client server : List ℕ) (machine : Account) → account_for p.table (auth_value p.meeting.caller client server) ≡ Some machine → MayAim plan p v (Second client server) →
            Waits s (Some (half_of p client server)) b → Shows s (scene_of p (Calls a who v (Second client server)) left moment) → After (WasOpened client server)
        granted_clear client server machine found aimed waits shows =
            let t : TurnScene = t_on (Second client server) in
            let call : Call = requester.auth_call p.meeting.caller client server in
            let r : Reply = reply.Authenticate (record { credential = requester.server_credential p.meeting.caller.secret client server; flags = offered_flags; status = 0 }) in
            let can : IsTurnCall call = calls_can_go.authenticate p.meeting.caller client server able.caller in
            let secret : machine.hash ≡ p.meeting.caller.secret = able.own_secret aimed.1 (own_so there) client server machine found in
            let found_then : account_for v.table (auth_value p.meeting.caller client server) ≡ Some machine =
            of_table p v (λ (t : AccountTable). account_for t (auth_value p.meeting.caller client server) ≡ Some machine) aimed.2 found in
            let pending = aimed.0 (able.knows client server machine found) in
            let steps = controllers_step.proved v.table p.name v.computers (length v.links) moment v.next p.meeting.caller client server machine left is.next_below can
            found_then secret pending in
            let channel : Requester = channel_in_turn t (after v.next) v.next (step.Reply question.Authenticate) in
            let named : ChannelIdentity = half_channel t.at_controller channel client server in
            let d : Desk = desk_in_turn t v.computers in
            let then_so : Option Desk = work_after (by_call (served_call call) (turn_line t.link v.next) (bound_talk None turn_agreed) t.name moment d left) in
            let expects : Expects d channel client server = record { account = machine; found = found_then; secret = secret; pair = pending } in
            let one : (unit : ℕ) → answer_in_turn s t v.next call v.computers k unit left moment ≡ opening (Some named) (where_in_turn s t v.next call v.computers k unit) v.next p.meeting.caller.kind =
            λ unit. channels_are_named_alike.openings.opens channel client server (where_in_turn s t v.next call v.computers k unit) (turn_line t.link v.next) d then_so expects in
            let called : Called s t v.next call v.computers k count left moment b =
            call_comes s t (after v.next) v.next (step.Reply question.Authenticate) call v.computers left left moment count count _ _ able.alone (between_on (Second client server) is) is.next_below can steps shows k b fine
            (λ unit first. channels_are_named_alike.exchanges.opening channel client server (where_in_turn s t v.next call v.computers k unit) (turn_line t.link v.next) d then_so b.sent expects
            (waits_marked s (Some named) b unit waits first))
            (λ unit numbers. omega (arith, ap (λ (x : Answered). length (judged_of (x ∷ []) numbers)) (one unit))) in
            let f : FineAnd (goes s) count (Some named) now =
            reply_waits s t v.next call v.computers k count count left moment b (reply_bytes v.next r) (Some named) fine called (Opened named v.next called.came.number)
            (ap (λ (x : Answered). answered_marks (x ∷ [])) (one called.came.number)) refl
            (replied_bag s t (after v.next) v.next (step.Reply question.Authenticate) call v.computers left left moment (reply_bytes v.next r) _ called.came.number able.alone (between_on (Second client server) is) steps shows) in
            record { clean = clean_of (goes s) count now f.fine; waits = inl f.waits }

        -- the opening is refused, where there is no account
        denied_clear : (client server : List ℕ) → HasNone p client server → IsPlannedTurn p v → Shows s (scene_of p (Calls a who v (Second client server)) left moment) → After (WasOpened client server)
        denied_clear client server none is_planned shows =
            let t : TurnScene = t_on (Second client server) in
            let call : Call = requester.auth_call p.meeting.caller client server in
            let can : IsTurnCall call = calls_can_go.authenticate p.meeting.caller client server able.caller in
            let told : ToldProof v.table p.name v.computers (length v.links) moment v.next p.meeting.caller client server left =
            controllers_answer.proof v.table p.name v.computers (length v.links) moment v.next p.meeting.caller client server left is.next_below can in
            let one : (unit : ℕ) → answer_in_turn s t v.next call v.computers k unit left moment ≡ plain =
            λ unit. ap (λ (channel : Option ChannelIdentity). opening channel (where_in_turn s t v.next call v.computers k unit) v.next p.meeting.caller.kind)
            (none_opened t.at_controller (auth_value p.meeting.caller client server) (desk_in_turn t v.computers)
            (of_table p v (λ (t : AccountTable). account_for t (auth_value p.meeting.caller client server) ≡ None) is_planned none)) in
            record {
              clean = clean_of (goes s) count now
                  (call_comes s t (after v.next) v.next (step.Reply question.Authenticate) call v.computers left left moment count count _ _ able.alone (between_on (Second client server) is) is.next_below can
                  told.steps shows k b fine (λ unit first. ap (λ (x : Answered). clashes x.checked (Some unit) b.sent) (one unit))
                  (λ unit numbers. omega (arith, ap (λ (x : Answered). length (judged_of (x ∷ []) numbers)) (one unit)))).has.fine;
              waits = inr none;
            }

        second_by : (client server : List ℕ) (found : Option Account) → account_for p.table (auth_value p.meeting.caller client server) ≡ found → MayAim plan p v (Second client server) →
            Waits s (Some (half_of p client server)) b → Shows s (scene_of p (Calls a who v (Second client server)) left moment) → After (WasOpened client server)
        second_by client server (Some machine) found aimed waits shows = granted_clear client server machine found aimed waits shows
        second_by client server None none aimed waits shows = denied_clear client server none aimed.2 shows

        third_clear : (o c : SecureChannelState) (timestamp : ℕ) → MayAim plan p v (Third o c timestamp) → Waits s (Some (open_of p o)) b →
            Shows s (scene_of p (Calls a who v (Third o c timestamp)) left moment) → After (WasJudged a o)
        third_clear o c timestamp aimed waits shows =
            let t : TurnScene = t_on (Third o c timestamp) in
            let call : Call = requester.logon_call p.meeting.caller o timestamp (info_asked (own p) a) in
            let found : Verdict = verdict_of v.table p.name (info_asked (own p) a) moment in
            let r : Reply = passed_reply (key_of_channel o) (return_of (key_of_channel o) o.seed timestamp) found in
            let can : IsTurnCall call = calls_can_go.logon p.meeting.caller o timestamp (info_asked (own p) a) able.caller aimed.0 is.answering.info in
            let in_step : KeepsInStep p v.computers o = aimed.1 (own_so there) in
            let steps = controllers_step.judged v.table p.name v.computers (length v.links) moment v.next timestamp p.meeting.caller o in_step.channel (info_asked (own p) a) left is.next_below can
            in_step.keeps in_step.in_step in
            let named : ChannelIdentity = open_of p o in
            let d : Desk = desk_in_turn t v.computers in
            let then_so : Option Desk = work_after (by_call (served_call call) (turn_line t.link v.next) (bound_talk None turn_agreed) t.name moment d left) in
            let has : HasChannel v.computers named =
            record { state = in_step.channel; kept = in_step.keeps; is = named_alike p.meeting.at_controller p.meeting.caller.computer o in_step.channel in_step.in_step } in
            let passed : has_passed (judged_in (new_actions then_so d)) ≡ true =
            ap (λ (part : ServedPart Desk ControllerTalk). has_passed (judged_in (new_actions (work_after part) d)))
            (calls_are_answered.judges p.meeting.caller o in_step.channel (info_asked (own p) a) timestamp (turn_line t.link v.next) (bound_talk None turn_agreed) t.name moment d left in_step.keeps
            in_step.in_step) in
            let j : ℕ → Judging = λ unit. judging_of (where_in_turn s t v.next call v.computers k unit) (turn_line t.link v.next) (Network _) d then_so in
            let one : (unit : ℕ) → answer_in_turn s t v.next call v.computers k unit left moment ≡ passing (Some named) (j unit) =
            λ unit. channels_are_named_alike.calls.passes (j unit) v.computers named refl refl refl has passed in
            let called : Called s t v.next call v.computers k (1 + count) left moment b =
            call_comes s t (after v.next) v.next (step.Reply question.Logon) call v.computers left left moment count (1 + count) _ _ able.alone (between_on (Third o c timestamp) is) is.next_below can steps shows k b fine
            (λ unit first. channels_are_named_alike.exchanges.calling (j unit) v.computers named b.sent refl refl refl has passed (waits_marked s (Some named) b unit waits first))
            (λ unit numbers. omega (arith, ap (λ (x : Answered). length (judged_of (x ∷ []) numbers)) (one unit))) in
            let f : FineAnd (goes s) (1 + count) (Some named) now =
            reply_waits s t v.next call v.computers k count (1 + count) left moment b (reply_bytes v.next r) (Some named) fine called (ReplyTo named v.next called.came.number)
            (ap (λ (x : Answered). answered_marks (x ∷ [])) (one called.came.number)) refl
            (judged_bag s t (after v.next) v.next (step.Reply question.Logon) call v.computers left left moment (judged.Passed (status_of found)) (reply_bytes v.next r) _ called.came.number
            able.alone (between_on (Third o c timestamp) is) steps shows) in
            record { clean = clean_of (goes s) (1 + count) now f.fine; waits = f.waits }

        -- the secret is set
        fourth_clear : (o c : SecureChannelState) (timestamp : ℕ) (new : List ℕ) → MayAim plan p v (Fourth o c timestamp new) → Waits s (Some (open_of p o)) b →
            Shows s (scene_of p (Calls a who v (Fourth o c timestamp new)) left moment) → After (WasSet o)
        fourth_clear o c timestamp new aimed waits shows =
            let t : TurnScene = t_on (Fourth o c timestamp new) in
            let call : SetCall = requester.change_call p.meeting.caller o timestamp new in
            let heard : ControllerCall = controller_call.Judged (Set call) in
            let can : IsSetTurn call = set_units_go.call p.meeting.caller o timestamp new able.caller aimed.0 in
            let in_step : KeepsInStep p v.computers o = aimed.1 (own_so there) in
            let at : HasPlace (machine_in p.table.accounts p.meeting.caller.account p.meeting.caller.kind p.meeting.caller.computer) =
            place_found p.table.accounts (machine_in p.table.accounts p.meeting.caller.account p.meeting.caller.kind p.meeting.caller.computer) aimed.4.machine aimed.4.found in
            let steps = controllers_set.set v.table p.name v.computers (length v.links) moment v.next timestamp at.place p.meeting.caller o in_step.channel new left is.next_below can
            (subst IsNextSecret aimed.3 able.next) in_step.keeps in_step.in_step
            (of_table p v (λ (t : AccountTable). machine_in t.accounts p.meeting.caller.account p.meeting.caller.kind p.meeting.caller.computer ≡ Some at.place) aimed.2 at.is) in
            let named : ChannelIdentity = open_of p o in
            let d : Desk = desk_in_turn t v.computers in
            let then_so : Option Desk = work_after (by_call heard (turn_line t.link v.next) (bound_talk None turn_agreed) t.name moment d left) in
            let has : HasChannel v.computers named =
            record { state = in_step.channel; kept = in_step.keeps; is = named_alike p.meeting.at_controller p.meeting.caller.computer o in_step.channel in_step.in_step } in
            let passed : has_passed (judged_in (new_actions then_so d)) ≡ true =
            ap (λ (stepped : Stepped ControllerState). has_passed (judged_in (actions_in stepped.answer)))
            (sym (set_asked v.table p.name v.computers (length v.links) moment v.next call left is.next_below can) ∙ steps) in
            let j : ℕ → Judging = λ unit. judging_of (where_by s t (bytes_of_call (set_request v.next call) 5840) v.computers k unit) (turn_line t.link v.next) (Set call) d then_so in
            let one : (unit : ℕ) → answer_to s t v.next (set_request v.next call) heard v.computers k unit left moment ≡ passing (Some named) (j unit) =
            λ unit. channels_are_named_alike.calls.passes (j unit) v.computers named refl refl refl has passed in
            let called : CalledBy s t v.next (set_request v.next call) heard v.computers k (1 + count) left moment b =
            calls_come s t (after v.next) v.next (step.Set set_step.Reply) (set_request v.next call) heard v.computers left left moment able.alone (between_on (Fourth o c timestamp new) is) shows count (1 + count) _ _
            (set_comes v.next call can) (set_hears t.link v.next call is.next_below can) steps k b fine
            (λ unit first. channels_are_named_alike.exchanges.calling (j unit) v.computers named b.sent refl refl refl has passed (waits_marked s (Some named) b unit waits first))
            (λ unit numbers. omega (arith, ap (λ (x : Answered). length (judged_of (x ∷ []) numbers)) (one unit))) in
            let f : FineAnd (goes s) (1 + count) (Some named) now =
            reply_waits_by s t v.next (set_request v.next call) heard v.computers k count (1 + count) left moment b (set_reply_bytes v.next (set_taken o timestamp)) (Some named) fine called
            (ReplyTo named v.next called.came.number) (ap (λ (x : Answered). answered_marks (x ∷ [])) (one called.came.number)) refl
            (bag_kept s t (after v.next) v.next (step.Set set_step.Reply) (set_request v.next call) heard v.computers left left moment able.alone (between_on (Fourth o c timestamp new) is) shows _ (judged.Passed 0)
            (set_reply_bytes v.next (set_taken o timestamp)) _ called.came.number steps) in
            record { clean = clean_of (goes s) (1 + count) now f.fine; waits = f.waits }

        calls_clear : (aim : Aim) → IsReadyBy plan p s → MayAim plan p v aim → WaitsFor p (progress_called aim) s b → Shows s (scene_of p (Calls a who v aim) left moment) →
            After (progress_answered a aim)
        calls_clear (First client) ready aimed waits shows = first_clear client ready.draws aimed shows
        calls_clear (Second client server) ready aimed waits shows =
            second_by client server (account_for p.table (auth_value p.meeting.caller client server)) refl aimed waits shows
        calls_clear (Third o c timestamp) ready aimed waits shows = third_clear o c timestamp aimed waits shows
        calls_clear (Fourth o c timestamp new) ready aimed waits shows = fourth_clear o c timestamp new aimed waits shows

        -- the member takes a reply, whichever it is, where its taking it is no clash
        taken_clean : (aim : Aim) (accounts : AccountTable) (q : Question) (r : Reply) → IsTurnReply q r →
            ((unit : ℕ) → first_waiting s.bag ≡ Some unit →
            clashes (taking_note (Some (take_of (channel_in_turn (t_on aim) (after v.next) v.next (step.Reply q)) (turn_response v.next r))) p.meeting.at_controller
            (channel_in_turn (t_on aim) (after v.next) v.next (step.Reply q))).checked (Some unit) b.sent ≡ false) →
            Shows s (turn_scene (with_accounts accounts (t_on aim)) (after v.next) v.next (step.Reply q) v.computers (turn_link (length v.links))
            (unit_back (with_accounts accounts (t_on aim)) (reply_bytes v.next r) ∷ []) left moment) → IsClean (goes s) now
        taken_clean aim accounts q r goes_so own shows =
            let t : TurnScene = with_accounts accounts (t_on aim) in
            clean_of (goes s) count now
            (reply_leads s t (after v.next) v.next q r v.computers left moment count (between_still (t_on aim) accounts (between_on aim is)) is.next_below goes_so (names_of t refl refl refl there) shows k b fine
            own)

        -- a reply is no clash, where it was made for the channel
        replied_clean : (aim : Aim) (accounts : AccountTable) (q : Question) (r : Reply) → IsTurnReply q r →
            ((unit : ℕ) → first_waiting s.bag ≡ Some unit →
            IsMadeFor p.meeting.at_controller (channel_in_turn (t_on aim) (after v.next) v.next (step.Reply q)) (standing_for aim) (Some unit) b.sent) →
            Shows s (turn_scene (with_accounts accounts (t_on aim)) (after v.next) v.next (step.Reply q) v.computers (turn_link (length v.links))
            (unit_back (with_accounts accounts (t_on aim)) (reply_bytes v.next r) ∷ []) left moment) → IsClean (goes s) now
        replied_clean aim accounts q r goes_so made shows =
            taken_clean aim accounts q r goes_so
            (λ unit first.
            takes_own p.meeting.at_controller (channel_in_turn (t_on aim) (after v.next) v.next (step.Reply q)) (turn_response v.next r) (Some unit) b.sent (made unit first)) shows

        -- the reply to the call that sets a secret is no clash
        set_clean : (o c : SecureChannelState) (timestamp : ℕ) (new : List ℕ) (accounts : AccountTable) (r : SetReply) → InRangeSetReply r → Waits s (Some (open_of p o)) b →
            Shows s (any_scene p (Setting a who v o c timestamp new accounts r) left moment) → IsClean (goes s) now
        set_clean o c timestamp new accounts r goes_so waits shows =
            let t : TurnScene = with_accounts accounts (t_on (Fourth o c timestamp new)) in
            clean_of (goes s) count now
            (responses_lead s t (after v.next) v.next (step.Set set_step.Reply) (set_response v.next r) v.computers left moment count
            (between_still (t_on (Fourth o c timestamp new)) accounts (between_on (Fourth o c timestamp new) is)) (set_reply_sends v.next r is.next_below goes_so)
            (omega (arith, (reply_stub r goes_so).short)) (set_reply_comes v.next r goes_so) (names_of t refl refl refl there) shows k b fine
            (λ unit first.
            takes_own p.meeting.at_controller (channel_in_turn (t_on (Fourth o c timestamp new)) (after v.next) v.next (step.Set set_step.Reply)) (set_response v.next r) (Some unit) b.sent
            (waits_marked s _ b unit waits first)))

        -- the reply to the second call: of a status that isn't 0 it is dropped, else there is an account
        told_clean : (client server credential : List ℕ) (status : ℕ) → IsTurnReply question.Authenticate (proof_reply credential status) → (status ≡ 0 → IsGranted plan p v client server) →
            WaitsFor p (WasOpened client server) s b → Shows s (any_scene p (Told a who v client server credential status) left moment) → IsClean (goes s) now
        told_clean client server credential status goes_so granted waits shows =
            elim (cases_Bool (status == 0)) [
              | inr refused ↦
                  taken_clean (Second client server) v.table question.Authenticate (proof_reply credential status) goes_so
                  (λ unit first.
                  drops_own p.meeting.at_controller (channel_in_turn (t_on (Second client server)) (after v.next) v.next (step.Reply question.Authenticate)) v.next (t_on (Second client server)).place
                  question.Authenticate (proof_reply credential status) drop_cause.Denied (Some unit) b.sent goes_so
                  (ap (λ (z : Bool). judge_auth z (standing.Half client server) p.meeting.caller.secret credential offered_flags) refused)) shows
              | inl zeroed ↦
                  let has : IsGranted plan p v client server = granted ((Decides-eqb status 0).0 zeroed) in
                  replied_clean (Second client server) v.table question.Authenticate (proof_reply credential status) goes_so
                  (λ unit first. elim waits [
                    | inl made ↦ waits_marked s _ b unit made first
                    | inr none ↦ absurd (some_not (sym has.found ∙ none))
                  ]) shows
            ]

  -- ---- in each phase of a turn, and before it

  on_clear : (phase : LogonPhase p) → IsReadyBy plan p s → MayFitOn plan p phase → WaitsFor p (progress_of phase) s b → Shows s (scene_of p phase left moment) → After (progress_onward phase)
  on_clear Dials ready fits waits shows = record { clean = idle_clean s k b clean shows.units; waits = tt }
  on_clear Binds ready fits waits shows = binds_clear shows
  on_clear (Challenged challenge) ready fits waits shows = challenged_clear challenge fits shows
  on_clear (Answers a who) ready fits waits shows = answers_clear a who fits shows
  on_clear (DialsBefore a who v aim) ready fits waits shows = before_clear a who v aim shows
  on_clear (DialsHeld a who v aim) ready fits waits shows = record { clean = idle_clean s k b clean shows.units; waits = tt }
  on_clear (BindsBefore a who v aim) ready fits waits shows = held_clear a who v aim fits.0 shows
  on_clear (BindsHeld a who v aim) ready fits waits shows = bound_clear a who v aim fits.0 shows
  on_clear (Acked a who v aim) ready fits waits shows = acked_clear a who v aim fits.0 fits.1 fits.2 shows
  on_clear (Calls a who v aim) ready fits waits shows = calls_clear a who v fits.0 fits.2 aim ready fits.1 waits shows
  on_clear (Halved a who v client server) ready fits waits shows = record {
    clean = replied_clean a who v fits.0 fits.3 (First client) v.table (question.Challenge client) (reply.Challenge (record { challenge = server; status = 0 }))
        (calls_can_go.challenged client server fits.1) (λ unit first. tt) shows;
    waits = tt;
  }
  on_clear (Proved a who v client server) ready fits waits shows = absurd fits
  on_clear (Granted a who v o c timestamp judged_at accounts) ready fits waits shows = absurd fits
  on_clear (Sets a who v o c timestamp new accounts) ready fits waits shows = absurd fits
  on_clear (Named a e on one other back) ready fits waits shows = absurd fits
  on_clear (Echoes a e on one asks) ready fits waits shows = absurd fits
  on_clear (Echoed a e talk one other back) ready fits waits shows = absurd fits

  -- ---- where a reply waits, and where the logon is turned away

  away_clear : (phase : AwayPhase p) → MayFitAway plan p phase → Shows s (away_scene p phase left moment) → After NotYet
  away_clear (Refused a who v o c timestamp accounts status) fits shows = absurd fits
  away_clear (Unheard a who e) fits shows = record {
    clean = clean_of (goes s) count now
        (meeting_leads s (settled_in p e) _ (out_talk p.meeting.task rpc_s_server_unavailable) who.sent [] left moment count (record { some = who.some; short = omega (arith, who.short) }) shows k b fine);
    waits = tt;
  }
  away_clear (Faulted a later e status) fits shows = record {
    clean = clean_of (goes s) count now
        (client_comes s (unit_down (own p) (who_fault status)) [] p.meeting.at_client count
        (comes_so s _ (unit_down (own p) (who_fault status)) [] (Client p.meeting.at_client) shows
        (heard_down (settled_in p e) _ (out_talk p.meeting.task status) (who_fault status) [] left moment (unit_comes (fault_of 2 0 status) (fault_sends 2 status (omega arith) fits.1)))) k b fine);
    waits = tt;
  }

  pub onward_clear : (phase : AnyPhase p) → IsReadyBy plan p s → MayFit plan p phase → WaitsFor p (progress_in phase) s b → Shows s (any_scene p phase left moment) → After (progress_next phase)
  onward_clear (On phase) ready fits waits shows = on_clear phase ready fits waits shows
  onward_clear (Told a who v client server credential status) ready fits waits shows = record {
    clean = told_clean a who v fits.0 fits.3 client server credential status fits.1 fits.2 waits shows;
    waits = tt;
  }
  onward_clear (Setting a who v o c timestamp new accounts answer) ready fits waits shows = record {
    clean = set_clean a who v fits.turning fits.there o c timestamp new accounts answer fits.goes waits shows;
    waits = tt;
  }
  onward_clear (Judged a who v o c timestamp accounts answer) ready fits waits shows = record {
    clean = replied_clean a who v fits.turning fits.there (Third o c timestamp) accounts question.Logon answer fits.goes (λ unit first. waits_marked s _ b unit waits first) shows;
    waits = tt;
  }
  onward_clear (Away phase) ready fits waits shows = away_clear phase fits shows

-- ---- no unit comes

-- the bag stays, and no unit loses its mark
kept_so : (s after : State) (b : Book) (more : List Sent) (then_b : Book) → after.bag ≡ s.bag → then_b.sent ≡ b.sent ++ more → (channel : Option ChannelIdentity) → Waits s channel b → Waits after channel then_b
kept_so s after b more then_b same grown channel waits = record {
  number = waits.number;
  first = ap first_waiting same ∙ waits.first;
  one = waits.one;
  there = ap (λ (sent : List Sent). slice_get sent waits.number) grown ∙ got_append b.sent more waits.number waits.one waits.there;
  made = waits.made;
}

waits_kept : (p : Arrival) (far : Progress) (s after : State) (b : Book) (more : List Sent) (then_b : Book) → after.bag ≡ s.bag → then_b.sent ≡ b.sent ++ more → WaitsFor p far s b → WaitsFor p far after then_b
waits_kept p NotYet s after b more then_b same grown waits = tt
waits_kept p (IsOpening client server) s after b more then_b same grown waits = kept_so s after b more then_b same grown _ waits
waits_kept p (WasOpened client server) s after b more then_b same grown waits = elim waits [
  | inl made ↦ inl (kept_so s after b more then_b same grown _ made)
  | inr none ↦ inr none
]
waits_kept p (IsSetting o) s after b more then_b same grown waits = kept_so s after b more then_b same grown _ waits
waits_kept p (WasSet o) s after b more then_b same grown waits = kept_so s after b more then_b same grown _ waits
waits_kept p (IsAsking o) s after b more then_b same grown waits = kept_so s after b more then_b same grown _ waits
waits_kept p (WasJudged a o) s after b more then_b same grown waits = kept_so s after b more then_b same grown _ waits
waits_kept p (WasTold a) s after b more then_b same grown waits = tt

module _ (s : State) (k : ℕ) (b : Book) (clean : IsClean s b) where
  -- no dial waits
  no_dial : s.dials ≡ [] → (act s move.Connect).state.bag ≡ s.bag
  no_dial none = ap (λ (dials : List WaitingDial). (connect_first (slice_get dials 0) (without_first s)).state.bag) none

  pub connect_clean : IsClean (act s move.Connect).state (note (world_at k s) move.Connect b)
  connect_clean = clean_of (act s move.Connect).state (length b.judged) (note (world_at k s) move.Connect b) (connect_fine s (length b.judged) k b (fine_of s b clean))

  pub tick_clean : (more : ℕ) → IsClean (act s (move.Tick more)).state (note (world_at k s) (move.Tick more) b)
  tick_clean more =
      clean_of (tick more s) (length b.judged) (note (world_at k s) (move.Tick more) b)
      (given_fine k [] (tick more s) (length b.judged) b clean.apart (omega arith) (omega (arith, clean.marked)))

module _ (p : Arrival) (s : State) (k : ℕ) (b : Book) (clean : IsClean s b) where
  abbrev Connected : Progress → Type 0
  Connected far = IsClearFor p far (act s move.Connect).state (note (world_at k s) move.Connect b)

  still : (far : Progress) → s.dials ≡ [] → WaitsFor p far s b → Connected far
  still far none waits = record {
    clean = connect_clean s k b clean;
    waits = waits_kept p far s (act s move.Connect).state b _ (note (world_at k s) move.Connect b) (no_dial s k b clean none) refl waits;
  }

  pub tick_clear : (far : Progress) (more : ℕ) → WaitsFor p far s b → IsClearFor p far (act s (move.Tick more)).state (note (world_at k s) (move.Tick more) b)
  tick_clear far more waits = record {
    clean = tick_clean s k b clean more;
    waits = waits_kept p far s (act s (move.Tick more)).state b _ (note (world_at k s) (move.Tick more) b) refl refl waits;
  }

-- a dial is answered, or reaches nobody
module _ (plan : Plan) (p : Arrival) (s : State) (k : ℕ) (b : Book) (clean : IsClean s b) (left : List (List ℕ)) (moment : ℕ) where
  no_wait : Connected p s k b clean NotYet
  no_wait = record { clean = connect_clean s k b clean; waits = tt }

  dials_clear : (phase : LogonPhase p) → MayFitOn plan p phase → WaitsFor p (progress_of phase) s b → Shows s (scene_of p phase left moment) → Connected p s k b clean (progress_of phase)
  dials_clear Dials fits waits shows = no_wait
  dials_clear Binds fits waits shows = no_wait
  dials_clear (Challenged challenge) fits waits shows = no_wait
  dials_clear (Answers a who) fits waits shows = no_wait
  dials_clear (DialsBefore a who v aim) fits waits shows = no_wait
  dials_clear (DialsHeld a who v aim) fits waits shows = no_wait
  dials_clear (BindsBefore a who v aim) fits waits shows = no_wait
  dials_clear (BindsHeld a who v aim) fits waits shows = no_wait
  dials_clear (Acked a who v aim) fits waits shows = no_wait
  dials_clear (Calls a who v aim) fits waits shows = still p s k b clean (progress_called aim) shows.dials waits
  dials_clear (Halved a who v client server) fits waits shows = no_wait
  dials_clear (Proved a who v client server) fits waits shows = absurd fits
  dials_clear (Granted a who v o c timestamp judged_at accounts) fits waits shows = absurd fits
  dials_clear (Sets a who v o c timestamp new accounts) fits waits shows = absurd fits
  dials_clear (Named a e on one other back) fits waits shows = absurd fits
  dials_clear (Echoes a e on one asks) fits waits shows = absurd fits
  dials_clear (Echoed a e talk one other back) fits waits shows = absurd fits

  pub connect_clear : (phase : AnyPhase p) → MayFit plan p phase → WaitsFor p (progress_in phase) s b → Shows s (any_scene p phase left moment) → Connected p s k b clean (progress_in phase)
  connect_clear (On phase) fits waits shows = dials_clear phase fits waits shows
  connect_clear (Told a who v client server credential status) fits waits shows = still p s k b clean (WasOpened client server) shows.dials waits
  connect_clear (Setting a who v o c timestamp new accounts answer) fits waits shows = still p s k b clean (WasSet o) shows.dials waits
  connect_clear (Judged a who v o c timestamp accounts answer) fits waits shows = still p s k b clean (WasJudged a o) shows.dials waits
  connect_clear (Away phase) fits waits shows = no_wait

-- ---- once the client is let in

pub link_clean : (g : Meeting) (left : List (List ℕ)) (s : State) (k : ℕ) (b : Book) → IsOnLink g left s → IsClean s b → IsClean (goes s) (note (world_at k s) move.Onward b)
link_clean g left s k b at clean = by_phase at.phase at.fits at.shows where
  by_phase : (phase : LetInPhase) → FitsLetIn g phase → Shows s (let_in_scene g phase left at.moment) → IsClean (goes s) (note (world_at k s) move.Onward b)
  by_phase (Asks terms question on bytes) fits shows =
      clean_of (goes s) (length b.judged) (note (world_at k s) move.Onward b)
      (meeting_leads s g (client_phase.Asked terms question) (talk_in None on) bytes [] left at.moment (length b.judged) (record { some = fits.0.some; short = omega (arith, fits.0.short) }) shows k b
      (fine_of s b clean))
  by_phase (Hears terms question on bytes) fits shows =
      clean_of (goes s) (length b.judged) (note (world_at k s) move.Onward b)
      (client_comes s (unit_down g bytes) [] g.at_client (length b.judged)
      (comes_so s _ (unit_down g bytes) [] (Client g.at_client) shows
      (heard_down g (client_phase.Asked terms question) (talk_in None on) bytes [] left at.moment (record { some = fits.0.some; short = omega (arith, fits.0.short) }))) k b (fine_of s b clean))

-- ---- a move at which no unit waits, and a start

pub rest_clean : (w : World) (b : Book) (what : Move) → IsStepOn what → waiting w.state.bag ≡ [] → IsClean w.state b → IsClean (act w.state what).state (note w what b)
rest_clean w b what steps none clean =
    by_step (λ (one : Move). IsClean (act w.state one).state (note w one b)) (connect_clean w.state w.moves b clean) (idle_clean w.state w.moves b clean none)
    (λ more. tick_clean w.state w.moves b clean more) what steps

pub start_clean : (number : ℕ) (w : World) (b : Book) → IsClean w.state b → IsClean (start number w.state).state (note w (move.Start number) b)
start_clean number w b clean = clean_of (start number w.state).state (length b.judged) (note w (move.Start number) b) (start_fine w.state number (length b.judged) w.moves b (fine_of w.state b clean))
