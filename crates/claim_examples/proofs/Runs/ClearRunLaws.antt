-- The first logon in a world is clear, and somebody is let in.
-- It serves `a_run_is_clear`.
use Rattle.std.proofs.Common.{◌≡◌, ◌≢◌, ℕ, ◌+◌, ◌≤◌, arith, Bool, true, false, List, [], ◌∷◌, ◌++◌, length, Some, inl, refl, sym, ap, subst, ◌∙◌, None}
use Rattle.std.specs.Prelude.{◌==◌, drop, AllPairs}
use Rattle.std.specs.List.{AllByRecursion}
use Rattle.std.proofs.lemmas.List.{length-append}
use Rattle.wire_base.specs.Names.{same_name}
use Rattle.wire_base.proofs.MapLaws.{lookup-put_same}
use Rattle.authenticators.specs.SecureChannels.{channel_of, SecureChannelState, after_call, key_of_channel}
use Rattle.outside.specs.declared.action.CloseCause.TheVariants as close
use Rattle.outside.specs.declared.action.Judged.TheVariants as judged
use Rattle.rpc_units.specs.Writing.{written}
use Rattle.account_table.specs.AccountTable.{AccountTable}
use Rattle.account_table.specs.LookUps.{account_in}
use Rattle.ntlm_responses.specs.Verification.{base_key_of}
use Rattle.logon_stubs.specs.declared.calls.Reply.{Reply}
use Rattle.logon_stubs.specs.declared.info.SamInfo.{SamInfo}
use Rattle.memo_stubs.specs.Memo.{written_echo_reply, written_echo_request}
use Rattle.memo_stubs.proofs.MemoLaws.{reply_stub, request_stub}
use Rattle.channel_client.specs.Machine.{after, challenge_call, offered_flags}
use Rattle.channel_client.specs.declared.state.Question.TheVariants as question
use Rattle.channel_client.specs.declared.state.Standing.{Standing}
use Rattle.channel_client.specs.declared.state.Standing.TheVariants as standing
use Rattle.channel_client.specs.declared.state.Step.TheVariants as step
use Rattle.controller_calls.specs.declared.state.Computers.{Computers}
use Rattle.logon_client.specs.Answering.{bind_for}
use Rattle.logon_client.specs.Machine as steps
use Rattle.unit_security.specs.Levels.{is_signed}
use Rattle.logon_client.specs.declared.plan.ClientPlan.{ClientPlan}
use Rattle.logon_client.specs.declared.state.Phase.TheVariants as client_phase
use Rattle.member_server.specs.Turns.{timestamp_of}
use Rattle.wire_base.specs.Lists.{OneOf}
use Rattle.wire_base.proofs.ListLaws.{all_weaker, one_found, one_weaker, one_with}
use Rattle.step_notes.specs.Judged.{hash_in}
use Rattle.logon_stubs.specs.declared.calls.LogonCall.{LogonCall}
use Rattle.step_notes.specs.Records.{Book, IfNetwork, Judging, MessageTaken, OutcomeTold, blank}
use Rattle.step_notes.proofs.Controllers.JudgedCallLaws.{network_so}
use Rattle.world_moves.specs.declared.bag.BagUnit.{BagUnit}
use Rattle.world_moves.specs.declared.links.EndId.{EndId}
use Rattle.world_moves.specs.declared.links.EndId.TheVariants.{Client, Member}
use Rattle.world_moves.specs.declared.moves.Move.{Move}
use Rattle.world_moves.specs.declared.moves.Move.TheVariants as move
use Rattle.world_moves.specs.declared.plan.Plan.{Plan}
use Rattle.world_moves.specs.declared.state.State.{State}
use Rattle.world_moves.specs.Unforwarded.{IsJudgedAlone}
use Rattle.world_moves.specs.Counting.{is_in}
use Rattle.world_moves.specs.Choosing.{chosen_place}
use Rattle.world_moves.specs.Forms.{HasForms}
use Rattle.world_moves.specs.World.{IsPlan, World, first_world, happens, run, starters_of}
use Rattle.world_moves.proofs.AloneLaws.{plain_plan}
use Rattle.world_moves.specs.Plain.{IsPlainPlan}
use Rattle.domain_world.specs.Claims.{AcceptsOnlyGranted, IsAccepted, TravelsAsZeros, Wraps}
use Rattle.domain_world.specs.Claims.Completeness.{IsPlainMove, IsQuiet, IsQuietAt, OneAtATime, started_in}
use Rattle.domain_world.specs.Claims.LetIn.{IsLetInBy, LetsInWhoAsked}
use Rattle.domain_world.specs.Past.{Past, book, note, past}
use Rattle.logon_steps.specs.Answering.{pair_of}
use Rattle.logon_steps.specs.Calling.{TravelsAsZeros as KeyTravels}
use Rattle.logon_steps.specs.Answers.{auth3_for, drawn_of, logon_for, terms_for}
use Rattle.logon_steps.specs.Granting.{base_key, cleared}
use Rattle.logon_steps.specs.Meeting.{ack_for, challenged_talk, fresh_talk}
use Rattle.logon_steps.specs.MemberAnswers.{granting}
use Rattle.logon_steps.specs.MemoCalls.{ReplyGoes, RequestGoes}
use Rattle.logon_steps.specs.Turning.{IsTurnReply}
use Rattle.logon_steps.proofs.AnsweringLaws.{calls_are_answered}
use Rattle.logon_steps.proofs.AnswersLaws.{answers_are_asked}
use Rattle.logon_steps.proofs.CallingLaws.{calls_can_go}
use Rattle.logon_steps.proofs.ClientStepLaws.{echo_are, echo_length}
use Rattle.logon_steps.proofs.MeetingLaws.{ack_sends, bind_sends}
use Rattle.logon_steps.proofs.MemberAnswerLaws.{logons_end}
use Rattle.logon_steps.proofs.MemoCallLaws.{memo_calls_go}
use Rattle.logon_steps.proofs.TurningLaws.{response_comes, unit_comes}
use Rattle.logon_runs.specs.Scenes.AskScenes.{with_controller}
use Rattle.logon_runs.specs.FirstLogon.ExampleLogon.{ann_moves, ann_plan, ann_task}
use Rattle.logon_runs.specs.FirstLogon.FirstLogonRuns.{ComesInFirst, after_first, first_turns}
use Rattle.logon_runs.specs.FirstLogon.FirstRuns.{IsToBeOpened, channel_as, opened_at, opens_as, go_through_turn, with_pair}
use Rattle.logon_runs.specs.FirstLogon.FirstTraces.{FirstLogonSeen, asked_turn, turn_first, turn_second, turn_third, waits_for_name}
use Rattle.logon_runs.specs.FirstLogon.FirstWorlds.{CanComeIn, FirstKeyArrives, draw, echo_moves, first_asked, first_meeting, left_then, logon_moves, no_computers, turn_moves}
use Rattle.logon_runs.specs.Scenes.LinkScenes.{IsJoined, Meeting, its_link, joined, unit_down, unit_up}
use Rattle.logon_runs.specs.Runs.{ClientAnswer, connects, goes, hidden, info_asked, meets, message_for, sam_for, starts, with_moved}
use Rattle.logon_runs.specs.Scenes.Scene.{HasFirst, Scene, Shows}
use Rattle.logon_runs.specs.Scenes.Staying.{HasSameEnds}
use Rattle.logon_runs.specs.Scenes.TurnScenes.{IsBetween, TurnScene, with_accounts}
use Rattle.logon_runs.specs.Scenes.TwoLinks.{HasMet}
use Rattle.logon_runs.specs.Scenes.Others.{IsStepOn}
use Rattle.logon_runs.proofs.FirstLogon.ExampleLogonLaws.{an_example_logs_on}
use Rattle.logon_runs.proofs.FirstLogon.FirstLogonRunLaws.{joined_still}
use Rattle.logon_runs.proofs.FirstLogon.FirstTraceLaws.{after_below}
use Rattle.logon_runs.proofs.FirstLogon.FirstWorldLaws.{comes_first, first_worlds_run}
use Rattle.logon_runs.proofs.Scenes.LinkSceneLaws.{found_here, heard_down, heard_up, meetings_are_seen}
use Rattle.logon_runs.proofs.RunLaws.{between_still, grants_so, meets_same, same_computer, timestamp_below, twice_same}
use Rattle.logon_runs.proofs.Scenes.StayingLaws.{both_same, connects_same}
use Rattle.logon_runs.proofs.Scenes.TurnSceneLaws.{heard_back}
use Rattle.logon_runs.proofs.Scenes.WaitingLaws.{waiting_comes}
use Rattle.logon_runs.proofs.Scenes.TwoLinkLaws.{turns_have_links}
use Rattle.logon_runs.proofs.Scenes.StepOnLaws.{by_step}
use Rattle.claim_examples.proofs.NeverApartExampleLaws.{ann_begins}
use Rattle.claim_examples.specs.ClearRuns.{FirstLogonsAreClear, HasSharedChannel, IsLetIn, LetsInClearly}
use Rattle.claim_examples.proofs.Runs.LogonTrailLaws.{FineSo, logon_trail}
use Rattle.claim_examples.proofs.Runs.JudgedOnLaws.{HearsNoCall, OnlyTravels, travels_still}
use Rattle.domain_world.proofs.Clear.NotedLaws.{Fine, Leads, Trail, then_on, world_at}
use Rattle.domain_world.proofs.Completeness.UnitNotedLaws.{Came, comes_so}
use Rattle.domain_world.proofs.Moves.MemberPlanLaws.{found_but_secret}
use Rattle.domain_world.proofs.Acceptance.LetInLaws.{lets_in_who_asked}
use Rattle.claim_examples.proofs.SequenceLaws.{one_apart}
use Rattle.claim_examples.proofs.Runs.SharedChannelLaws.{shared_channel}
use Rattle.claim_examples.proofs.Runs.ToldLaws.{LetsIn, lets_in, stays_told}
use Rattle.claim_examples.proofs.Runs.TurnTrailLaws.{challenge_trail, names_stay, opening_trail}
use Rattle.domain_world.proofs.Clear.UnitComesLaws.{Names, client_comes, connect_fine, dial_leads, meeting_leads, start_fine}

-- ---- lists of moves behind others

book_both : (first later : List Move) (w : World) (b : Book) → book (first ++ later) w b ≡ book later (run first w) (book first w b)
book_both [] later w b = refl
book_both (what ∷ first) later w b = book_both first later (happens w what) (note w what b)

both_trails : (s between : State) (first later : List Move) (count : ℕ → ℕ) (Before Then After : Book → Type 0) → ((k : ℕ) → run first (world_at k s) ≡ world_at (count k) between) →
    Trail s first Before Then → Trail between later Then After → Trail s (first ++ later) Before After
both_trails s between first later count Before Then After ran one more k b before =
    subst After (sym (book_both first later (world_at k s) b ∙ ap (λ (w : World). book later w (book first (world_at k s) b)) (ran k)))
    (more (count k) (book first (world_at k s) b) (one k b before))

five_more : ℕ → ℕ
five_more k = k + 1 + 1 + 1 + 1 + 1

turn_then : (s : State) (later : List Move) (Before Then After : Book → Type 0) → Trail s turn_moves Before Then → Trail (go_through_turn s) later Then After → Trail s (turn_moves ++ later) Before After
unfolding five_more
turn_then s later Before Then After one more = both_trails s (go_through_turn s) turn_moves later five_more Before Then After (λ k. refl) one more

-- ---- one call wraps round nothing

no_wrap : (b : Book) → length b.judged ≤ 1 → Wraps b.judged → ⊥
no_wrap b few w =
    absurd (omega (arith, few, ap (λ (all : _). length all) w.all, length-append w.later (w.second ∷ (w.between ++ w.first ∷ w.earlier)), length-append w.between (w.first ∷ w.earlier)))

-- ---- who is let in asked, and was accepted

asked_so : (run : Past) → LetsInWhoAsked run → LetsIn run.book → OneOf (IsLetIn run) run.book.told
asked_so run asked told =
    one_with (λ (one : OutcomeTold). is_in one.outcome ≡ true → OneOf (IsLetInBy one) run.book.messages) (λ (one : OutcomeTold). is_in one.outcome ≡ true) (IsLetIn run) run.book.told
    (λ one by is. record { is = is; message = by is }) asked told

accepted_so : (run : Past) → AcceptsOnlyGranted run → LetsIn run.book → OneOf (IsAccepted run) run.book.messages
accepted_so run only told =
    let found = one_found (λ (one : OutcomeTold). is_in one.outcome ≡ true)
    (λ (one : OutcomeTold). is_in one.outcome ≡ true → OneOf (λ (message : MessageTaken). (message.link ≡ one.link) × (message.member ≡ one.member) × IsAccepted run message) run.book.messages)
    run.book.told only told in
    one_weaker (λ (message : MessageTaken). (message.link ≡ found.0.link) × (message.member ≡ found.0.member) × IsAccepted run message) (IsAccepted run) run.book.messages (λ message by. by.2) (found.2 found.1)

-- ---- nothing is under way

later_quiet : (moves : List Move) (w : World) → AllByRecursion IsStepOn moves → IsQuiet (run moves w) → OneAtATime moves w
later_quiet [] w on quiet = quiet
later_quiet (what ∷ moves) w on quiet =
    (by_step (λ (one : Move). IsQuietAt one w) tt tt (λ more. tt) what on.0, later_quiet moves (happens w what) on.1 quiet)

rests_so : (w : World) (v : Scene) → v.dials ≡ [] → v.units ≡ [] → Shows w.state v → IsQuiet w
rests_so w v dials units shows = record { dials = shows.dials ∙ dials; units = waiting_comes.none w.state.bag (shows.units ∙ units) }

-- ---- keys

-- no key travels as zeros, of a call that passed with status 0
abbrev pub NoKeyIsLost : Judging → Type 0
NoKeyIsLost j = j.how ≡ Some (judged.Passed 0) → IfNetwork (λ (c : LogonCall). TravelsAsZeros j c.info → ⊥) j.asked

-- ---- a unit comes once somebody was let in

-- somebody was let in, and no key but this one travels as zeros
abbrev pub LetsInOn : (key base : List ℕ) → Book → Type 0
LetsInOn key base b = LetsIn b × OnlyTravels key base b.judged

told_leads : (key base : List ℕ) (s : State) (v : Scene) (unit : BagUnit) (later : List BagUnit) (end : EndId) → HearsNoCall end → Shows s v → HasFirst v unit later end →
    Leads s move.Onward (Fine s 1) (Fine (goes s) 1) → Leads s move.Onward (FineSo s 1 (LetsInOn key base)) (FineSo (goes s) 1 (LetsInOn key base))
told_leads key base s v unit later end none shows first leads k b f =
    let came : Came s unit later end = comes_so s v unit later end shows first in
    record {
      fine = leads k b f.fine;
      holds = (stays_told s unit later end came k b f.holds.0, travels_still key base s unit later end none came k b f.holds.1);
    }

module _ (plan : Plan) (client member controller : ℕ) (can : CanComeIn plan client member controller) (is : IsPlan plan) (forms : HasForms plan) (number : ℕ)
    (chosen : chosen_place number (starters_of plan) ≡ Some client) (arrives : FirstKeyArrives plan client member controller can) where
  abbrev g : Meeting
  g = first_meeting plan client member controller can

  abbrev j : Meeting
  j = joined g []

  abbrev k_at : Meeting
  k_at = with_controller j can.table can.name no_computers

  abbrev a : ClientAnswer
  a = first_asked plan

  abbrev one : List ℕ
  one = draw plan 4

  abbrev other : List ℕ
  other = draw plan 5

  abbrev s0 : State
  s0 = (first_world plan).state

  abbrev left : List (List ℕ)
  left = left_then plan

  abbrev SeenSo : Type 0
  SeenSo = FirstLogonSeen s0 g number [] a one other can.table can.name can.account can.machine no_computers left plan.now

  -- the key of the channel, and the session base key by the accounts as the controller keeps them
  abbrev key : List ℕ
  key = key_of_channel (opens_as g one other)

  abbrev base : List ℕ
  base = base_key_of (hash_in (account_in can.table.accounts (info_asked j a).user)) (info_asked j a).user (info_asked j a).domain (info_asked j a).nt

  seen_so : SeenSo
  seen_so = (first_worlds_run.comes_in plan client member controller number is forms chosen can arrives).seen

  comes : ComesInFirst s0 g number [] a one other can.table can.name can.account can.machine plan.now
  comes = comes_first plan client member controller can is forms number chosen arrives

  opened : IsToBeOpened j a one other can.table can.name can.account can.machine plan.now
  opened = comes.opened

  -- from the start to the AUTHENTICATE
  pub meets_trail : (seen : SeenSo) (later : List Move) (After : Book → Type 0) → Trail (goes (goes (meets number s0))) later (Fine (goes (goes (meets number s0))) 0) After →
      Trail s0 (move.Start number ∷ move.Connect ∷ move.Onward ∷ move.Onward ∷ move.Onward ∷ move.Onward ∷ later) (Fine s0 0) After
  meets_trail seen later After more =
      let s1 : State = starts number s0 in
      let s2 : State = connects s1 in
      let s3 : State = goes s2 in
      let s4 : State = goes s3 in
      let s5 : State = goes s4 in
      let s6 : State = goes s5 in
      let bind : List ℕ = written (bind_for can.task.level can.task.auth) in
      let ack : List ℕ = written (ack_for g.plan g.task a.challenge) in
      let auth3 : List ℕ = written (auth3_for g.task (message_for j a)) in
      let heard_ack = heard_down k_at client_phase.Bound (challenged_talk g.task a.challenge) ack [] (a.one ∷ a.two ∷ a.three ∷ one ∷ other ∷ left) plan.now
      (unit_comes (ack_for g.plan g.task a.challenge) (ack_sends g.plan g.task a.challenge opened.names comes.eight)) in
      then_on s0 (move.Start number) (move.Connect ∷ move.Onward ∷ move.Onward ∷ move.Onward ∷ move.Onward ∷ later) (Fine s0 0) (Fine s1 0) After (start_fine s0 number 0)
      (then_on s1 move.Connect (move.Onward ∷ move.Onward ∷ move.Onward ∷ move.Onward ∷ later) (Fine s1 0) (Fine s2 0) After (connect_fine s1 0)
      (then_on s2 move.Onward (move.Onward ∷ move.Onward ∷ move.Onward ∷ later) (Fine s2 0) (Fine s3 0) After
      (meeting_leads s2 k_at client_phase.Bound fresh_talk bind [] (a.challenge ∷ a.one ∷ a.two ∷ a.three ∷ one ∷ other ∷ left) plan.now 0
      (unit_comes (bind_for g.task.level g.task.auth) (bind_sends g.task.level g.task.auth)) seen.bind)
      (then_on s3 move.Onward (move.Onward ∷ move.Onward ∷ later) (Fine s3 0) (Fine s4 0) After
      (client_comes s3 (unit_down j ack) [] client 0 (comes_so s3 _ (unit_down j ack) [] (Client client) seen.ack heard_ack))
      (then_on s4 move.Onward (move.Onward ∷ later) (Fine s4 0) (Fine s5 0) After
      (meeting_leads s4 k_at _ (challenged_talk g.task a.challenge) auth3 (unit_up j seen.who.sent ∷ []) (one ∷ other ∷ left) plan.now 0
      (unit_comes (auth3_for g.task (message_for j a)) (answers_are_asked.sends g.plan g.task a.challenge a.one a.two a.three a.then_now opened.can opened.names opened.draws)) seen.answered)
      (then_on s5 move.Onward later (Fine s5 0) (Fine s6 0) After
      (dial_leads s5 (asked_turn j a (waits_for_name (terms_for g.plan g.task a.challenge a.then_now (drawn_of a.one a.two a.three)) seen.who.later) [] can.table can.name) (its_link j) standing.Nothing
      (after j.number) j.number (challenge_call j.caller one) no_computers (unit_up j seen.who.sent) [] (other ∷ left) plan.now 0 seen.turns.asked
      (record {
        units = refl;
        some = seen.who.some;
        short = omega (arith, seen.who.short);
        there = _;
        found = found_here j;
        hearer = refl;
      })) more)))))

  -- the three turns
  pub turns_trail : (seen : SeenSo) (later : List Move) (After : Book → Type 0) → Trail (first_turns number s0) later (FineSo (first_turns number s0) 1 (LetsInOn key base)) After →
      Trail (goes (goes (meets number s0))) (turn_moves ++ turn_moves ++ turn_moves ++ later) (Fine (goes (goes (meets number s0))) 0) After
  turns_trail seen later After more =
      let s6 : State = goes (goes (meets number s0)) in
      let s7 : State = go_through_turn s6 in
      let s8 : State = go_through_turn s7 in
      let s9 : State = go_through_turn s8 in
      let sent : List ℕ = seen.who.sent in
      let stamp : ℕ = timestamp_of plan.now in
      let n1 : ℕ = after j.number in
      let n2 : ℕ = after n1 in
      let n3 : ℕ = after n2 in
      let n4 : ℕ = after n3 in
      let n5 : ℕ = after n4 in
      let o : SecureChannelState = opens_as g one other in
      let c : SecureChannelState = channel_as j can.machine one other in
      let sam : SamInfo = sam_for j a can.table can.name can.account plan.now in
      let half : Standing = standing.Half one other in
      let how : Standing = standing.Open (after_call o stamp) in
      let waits = waits_for_name (terms_for g.plan g.task a.challenge a.then_now (drawn_of a.one a.two a.three)) seen.who.later in
      let held : TurnScene = asked_turn j a waits (sent ∷ []) can.table can.name in
      let t1 : TurnScene = turn_first j a waits sent can.table can.name in
      let t2 : TurnScene = turn_second j a waits one other sent can.table can.name in
      let t3 : TurnScene = turn_third j a waits one other sent can.table can.name stamp in
      let met1 : HasMet j t1 = turns_have_links.met j held standing.Nothing opened.joined in
      let met2 : HasMet j t2 = turns_have_links.met j t1 half met1 in
      let between1 : IsBetween t1 = turns_have_links.between j held standing.Nothing opened.joined in
      let between2 : IsBetween t2 = turns_have_links.between j t1 half met1 in
      let between3 : IsBetween t3 = turns_have_links.between j t2 how met2 in
      let paired : Computers = with_pair j one other no_computers in
      let now_open : Computers = opened_at j can.machine one other no_computers in
      let accounts : AccountTable = cleared can.table j.task.user in
      let same6 : HasSameEnds s0 s6 = both_same s0 (meets number s0) s6 (meets_same number s0) (twice_same (meets number s0)) in
      let same_turn : (s : State) → HasSameEnds s (go_through_turn s) = λ s. both_same s (connects s) (go_through_turn s) (connects_same s) (both_same (connects s) (goes (goes (connects s))) (go_through_turn s) (twice_same (connects s)) (twice_same (goes (goes (connects s))))) in
      let names6 : Names s6 t1 = names_stay s0 s6 t1 same6 (record { plan = found_but_secret plan.members member can.member_plan can.is_member_plan; reach = can.is_controller }) in
      let names7 : Names s7 t1 = names_stay s6 s7 t1 (same_turn s6) names6 in
      let names8 : Names s8 t1 = names_stay s7 s8 t1 (same_turn s7) names7 in
      let found = lookup-put_same same_name j.caller.computer c paired.channels (same_computer j.caller.computer) in
      let in_step = calls_are_answered.in_step j.caller one other can.machine opened.secret in
      let named : channel_of controller j.caller.computer c ≡ channel_of controller j.caller.computer o =
      ap (λ (secret : List ℕ). record { controller = controller; computer = j.caller.computer; secret = secret; client = one; server = other; flags = offered_flags }) opened.secret in
      let answered = grants_so j a o c can.table can.name can.account now_open t3.link n5 plan.now left (after_below n4) opened.caller opened.info found in_step opened.can opened.units opened.draws opened.found opened.hash opened.may in
      let r : Reply = granting o stamp 0 1 (hidden o sam) in
      let is_reply : IsTurnReply question.Logon r = opened.logon_reply in
      let s11 : State = goes (goes (goes (connects s8))) in
      let heard_reply = heard_back (with_accounts accounts t3) _ (after n5) n5 (step.Reply question.Logon) (with_moved j c stamp now_open) _ left plan.now (between_still t3 accounts between3)
      (response_comes n5 question.Logon r is_reply) in
      turn_then s6 (turn_moves ++ turn_moves ++ later) (Fine s6 0) (Fine s7 0) After
      (challenge_trail s6 t1 n1 j.number one other no_computers paired left plan.now seen.turns.challenge opened.alone between1 opened.number (after_below j.number) names6 refl opened.caller opened.block opened.server_block opened.knows)
      (turn_then s7 (turn_moves ++ later) (Fine s7 0) (Fine s8 0) After
      (opening_trail s7 t2 n3 n2 one other can.machine paired now_open left plan.now seen.turns.proof opened.alone between2 (after_below n1) (after_below n2) (record { plan = names7.plan; reach = names7.reach }) refl opened.caller
      opened.machine_found opened.secret (lookup-put_same same_name j.caller.computer (pair_of one other) no_computers.pending (same_computer j.caller.computer)))
      (turn_then s8 later (Fine s8 0) (FineSo s9 1 (LetsInOn key base)) After
      (logon_trail s8 t3 accounts n5 n4 stamp o c (info_asked j a) (hidden o sam) (judged.Passed 0) now_open (with_moved j c stamp now_open) left plan.now _ (LetsInOn key base) seen.turns.logon opened.alone between3 (after_below n3) (after_below n4)
      (record { plan = names8.plan; reach = names8.reach }) refl (calls_can_go.logon j.caller o stamp (info_asked j a) opened.caller (timestamp_below plan.now) opened.info) is_reply found in_step named answered
      (λ k b only. (
        lets_in s11 _ _ [] _ left t3.link j.link close.CallDone _ _ _ _ seen.turns.logon.reply heard_reply
            (logons_end.granted j.plan j.caller o t3.info (hidden o sam) (logon_for j.link j.task a.challenge (message_for j a)) j.task j.place (after n5) n5 t3.link plan.now stamp 0 1 1 _ left (after_below n4) is_reply opened.short seen.who seen.back)
            k b,
        travels_still key base s11 _ [] (Member member) refl (comes_so s11 _ _ [] (Member member) seen.turns.logon.reply heard_reply) k b only,
      )))
      more))

  -- from the name on
  abbrev pub EndsSo : Bool → Book → Type 0
  EndsSo silent b = (b.clash ≡ false) × (length b.judged ≤ 1) × LetsInOn key base b

  pub end_trail : (seen : SeenSo) (silent : Bool) → (can.task.echo == 0) ≡ silent → Trail (first_turns number s0) (move.Onward ∷ echo_moves silent) (FineSo (first_turns number s0) 1 (LetsInOn key base)) (EndsSo silent)
  end_trail seen true is_silent =
      let s9 : State = first_turns number s0 in
      let end : Meeting = after_first g [] can.machine one other can.table can.name no_computers plan.now in
      let heard = heard_down end _ _ seen.back.sent [] left plan.now (record { some = seen.back.some; short = omega (arith, seen.back.short) }) in
      then_on s9 move.Onward [] (FineSo s9 1 (LetsInOn key base)) (FineSo (goes s9) 1 (LetsInOn key base)) (EndsSo true)
      (told_leads key base s9 _ (unit_down end seen.back.sent) [] (Client client) refl seen.granted heard (client_comes s9 (unit_down end seen.back.sent) [] client 1 (comes_so s9 _ (unit_down end seen.back.sent) [] (Client client) seen.granted heard)))
      (λ k b f. (f.fine.apart, f.fine.few, f.holds))
  end_trail seen false is_silent =
      let s9 : State = first_turns number s0 in
      let s10 : State = goes s9 in
      let s11 : State = goes s10 in
      let s12 : State = goes s11 in
      let end : Meeting = after_first g [] can.machine one other can.table can.name no_computers plan.now in
      let bytes : List ℕ = steps.echo_bytes g.task.echo in
      let few : length bytes ≤ 4096 = omega (arith, echo_length g.task.echo, opened.can.echo) in
      let asks : RequestGoes 3 g.task.level 3 1 (written_echo_request bytes) seen.back.next seen.back.later =
      memo_calls_go.request 3 g.task.level 3 1 (written_echo_request bytes) seen.back.next seen.back.later (omega arith) (omega arith) (omega arith)
      (omega (arith, few, (request_stub bytes few (echo_are g.task.echo)).short)) seen.back.sessions in
      let again : ReplyGoes 4 g.task.level 3 (written_echo_reply bytes) asks.next asks.later =
      memo_calls_go.reply 4 g.task.level 3 (written_echo_reply bytes) asks.later asks.next (omega arith) (omega arith)
      (omega (arith, few, (reply_stub bytes few (echo_are g.task.echo)).short)) asks.sessions in
      let still : IsJoined end = joined_still g [] can.machine one other can.table can.name no_computers plan.now opened.joined in
      let named = meetings_are_seen.named s9 end _ _ 2 seen.who.next _ _ left plan.now still seen.back (omega (arith, comes.short)) comes.units is_silent refl asks.goes seen.granted in
      let echoed = meetings_are_seen.echoes s10 end _ 3 _ bytes seen.back.next left plan.now still refl few (echo_are g.task.echo) asks again named in
      let heard = heard_down end _ _ seen.back.sent [] left plan.now (record { some = seen.back.some; short = omega (arith, seen.back.short) }) in
      let heard_echo = heard_up end _ _ asks.sent [] left plan.now (record { some = asks.some; short = omega (arith, asks.short) }) in
      let heard_again = heard_down end _ _ again.sent [] left plan.now (record { some = again.some; short = omega (arith, again.short) }) in
      then_on s9 move.Onward (move.Onward ∷ move.Onward ∷ []) (FineSo s9 1 (LetsInOn key base)) (FineSo s10 1 (LetsInOn key base)) (EndsSo false)
      (told_leads key base s9 _ (unit_down end seen.back.sent) [] (Client client) refl seen.granted heard (client_comes s9 (unit_down end seen.back.sent) [] client 1 (comes_so s9 _ (unit_down end seen.back.sent) [] (Client client) seen.granted heard)))
      (then_on s10 move.Onward (move.Onward ∷ []) (FineSo s10 1 (LetsInOn key base)) (FineSo s11 1 (LetsInOn key base)) (EndsSo false)
      (told_leads key base s10 _ (unit_up end asks.sent) [] (Member member) refl named heard_echo (meeting_leads s10 end _ _ asks.sent [] left plan.now 1 (record { some = asks.some; short = omega (arith, asks.short) }) named))
      (then_on s11 move.Onward [] (FineSo s11 1 (LetsInOn key base)) (FineSo s12 1 (LetsInOn key base)) (EndsSo false)
      (told_leads key base s11 _ (unit_down end again.sent) [] (Client client) refl echoed heard_again (client_comes s11 (unit_down end again.sent) [] client 1 (comes_so s11 _ (unit_down end again.sent) [] (Client client) echoed heard_again)))
      (λ k b f. (f.fine.apart, f.fine.few, f.holds))))

  ends_so : EndsSo (can.task.echo == 0) (past plan (logon_moves number (can.task.echo == 0))).book
  ends_so =
      let silent : Bool = can.task.echo == 0 in
      meets_trail seen_so (turn_moves ++ turn_moves ++ turn_moves ++ move.Onward ∷ echo_moves silent) (EndsSo silent)
      (turns_trail seen_so (move.Onward ∷ echo_moves silent) (EndsSo silent) (end_trail seen_so silent refl)) 0 blank (record { apart = refl; few = omega arith; marked = refl })

  lets_in_clearly : IsPlainPlan plan → LetsInClearly (past plan (logon_moves number (can.task.echo == 0)))
  lets_in_clearly nothing =
      let now : Past = past plan (logon_moves number (can.task.echo == 0)) in
      record {
        clear = record { apart = ends_so.0; onward = no_wrap now.book ends_so.1 };
        told = asked_so now (lets_in_who_asked plan (logon_moves number (can.task.echo == 0)) nothing) ends_so.2.0;
        accepted = λ only. accepted_so now only ends_so.2.0;
      }

  -- the session base key is that of the client's answer
  base_so : base ≡ base_key can.task (message_for j a)
  base_so =
      let names = answers_are_asked.names g.plan g.task a.challenge a.one a.two a.three a.then_now opened.can opened.units in
      ap (λ (name : List ℕ). base_key_of (hash_in (account_in can.table.accounts name)) name (info_asked j a).domain (info_asked j a).nt) names.1
      ∙ ap (λ (hash : List ℕ). base_key_of hash can.task.user (info_asked j a).domain (info_asked j a).nt) (ap hash_in can.found ∙ can.hash)
      ∙ ap (λ (domain : List ℕ). base_key_of can.task.hash can.task.user domain (info_asked j a).nt) names.0

  -- where the key of ann's logon doesn't travel as zeros, no key of the run does
  pub keys_arrive : (KeyTravels key (base_key can.task (message_for j a)) → ⊥) →
      AllByRecursion NoKeyIsLost (past plan (logon_moves number (can.task.echo == 0))).book.judged
  keys_arrive never =
      all_weaker (λ (call : Judging). IfNetwork (λ (c : LogonCall). TravelsAsZeros call c.info → KeyTravels key base) call.asked) NoKeyIsLost
      (past plan (logon_moves number (can.task.echo == 0))).book.judged
      (λ call only how.
      network_so (λ (c : LogonCall). TravelsAsZeros call c.info → KeyTravels key base) (λ (c : LogonCall). TravelsAsZeros call c.info → ⊥) call.asked
      (λ c so zeros. never (sym base_so ∙ so zeros)) only) ends_so.2.1

-- the example's client follows the plan of ann
ann_task_is : (can : CanComeIn ann_plan 0 0 0) → ann_task ≡ can.task
ann_task_is can = let is : Some ann_task ≡ Some can.task = can.is_task in cc

ann_arrives : (can : CanComeIn ann_plan 0 0 0) → FirstKeyArrives ann_plan 0 0 0 can
ann_arrives can signed = absurd (let never : false ≡ true = ap (λ (task : ClientPlan). is_signed task.level) (ann_task_is can) ∙ signed in cc)

ann_echoes : (can : CanComeIn ann_plan 0 0 0) → (can.task.echo == 0) ≡ false
ann_echoes can = ap (λ (task : ClientPlan). task.echo == 0) (sym (ann_task_is can))

ann_rests : IsQuiet (run ann_moves (first_world ann_plan))
ann_rests =
    let can : CanComeIn ann_plan 0 0 0 = an_example_logs_on.can in
    subst (λ (silent : Bool). IsQuiet (run (logon_moves 0 silent) (first_world ann_plan))) (ann_echoes can)
    (rests_so (run (logon_moves 0 (can.task.echo == 0)) (first_world ann_plan)) _ refl refl an_example_logs_on.comes.rests)

ann_unsealed : IsPlainPlan ann_plan
ann_unsealed = record { controllers = refl; members = (refl, tt); stations = refl }

ann_clear : LetsInClearly (past ann_plan ann_moves)
ann_clear =
    let can : CanComeIn ann_plan 0 0 0 = an_example_logs_on.can in
    subst (λ (silent : Bool). LetsInClearly (past ann_plan (logon_moves 0 silent))) (ann_echoes can)
    (lets_in_clearly ann_plan 0 0 0 can an_example_logs_on.schedule.start an_example_logs_on.schedule.forms 0 refl (ann_arrives can) ann_unsealed)

ann_channel : HasSharedChannel (past ann_plan ann_moves)
ann_channel =
    let can : CanComeIn ann_plan 0 0 0 = an_example_logs_on.can in
    subst (λ (silent : Bool). HasSharedChannel (past ann_plan (logon_moves 0 silent))) (ann_echoes can)
    (shared_channel ann_plan 0 0 0 0 an_example_logs_on.schedule.start an_example_logs_on.schedule.forms refl can (ann_arrives can))

-- the example's moves start one client, where nothing is under way
pub ann_plain : AllByRecursion IsPlainMove ann_moves
ann_plain = (tt, (tt, (tt, (tt, (tt, (tt, (tt, (tt, (tt, (tt, (tt, (tt, (tt, (tt, (tt, (tt, (tt, (tt, (tt, (tt, (tt, (tt, (tt, (tt, tt))))))))))))))))))))))))

pub ann_once : AllPairs (λ (one other : ℕ). one ≢ other) (started_in ann_moves (length ann_plan.clients))
ann_once = one_apart (λ (one other : ℕ). one ≢ other) 0

pub ann_quiet : OneAtATime ann_moves (first_world ann_plan)
ann_quiet = (record { dials = refl; units = refl }, later_quiet (drop 1 ann_moves) (happens (first_world ann_plan) (move.Start 0)) (tt, (tt, (tt, (tt, (tt, (tt, (tt, (tt, (tt, (tt, (tt, (tt, (tt, (tt, (tt, (tt, (tt, (tt, (tt, (tt, (tt, (tt, (tt, tt))))))))))))))))))))))) ann_rests)

pub first_logons_are_clear : FirstLogonsAreClear
first_logons_are_clear = record {
  first = λ plan client member controller number is forms nothing chosen can arrives.
      lets_in_clearly plan client member controller can is forms number chosen arrives nothing;
  stands = λ plan client member controller number is forms chosen can arrives. shared_channel plan client member controller number is forms chosen can arrives;
  schedule = an_example_logs_on.schedule;
  ann = ann_clear;
  ann_stands = ann_channel;
  claimed = λ proved.
      let clear = ann_clear.clear in
      let schedule = an_example_logs_on.schedule in
      let alone : IsJudgedAlone ann_plan ann_moves = inl (plain_plan ann_plan refl refl) in
      let nothing : IsPlainPlan ann_plan = ann_unsealed in
      record {
        only = proved.only nothing alone schedule clear;
        all = proved.all nothing alone schedule clear;
        keys = proved.keys nothing alone schedule clear;
        counts = proved.counts nothing alone schedule clear;
        sequences = proved.sequences nothing alone schedule clear;
        called = proved.called nothing alone schedule clear;
        answered = proved.answered nothing alone schedule clear.apart;
        never_apart = proved.never_apart nothing alone schedule clear;
      };
  begins = ann_begins;
  plain = ann_plain;
  once = ann_once;
  quiet = ann_quiet;
}
