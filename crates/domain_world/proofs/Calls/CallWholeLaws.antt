-- Each Logon call that goes out at a member is whole, can be read back, and asks for the logon that the member keeps
-- under the place of its turn, where what the member keeps is in its ranges. It serves `messages_are_called`.
use Rattle.std.proofs.Common.{◌≡◌, ℕ, ◌<◌, ◌≤◌, ◌^◌, Bool, true, List, [], ◌∷◌, ◌++◌, length, Option, Some, None, Result, Ok, Err, refl, sym, ap, subst, arith}
use Rattle.std.specs.List.{AllByRecursion}
use Rattle.wire_base.specs.Maps.{lookup, same_number}
use Rattle.outside.specs.declared.action.Action.TheVariants as action
use Rattle.rpc_units.specs.declared.refused.UnitRefused.{UnitRefused}
use Rattle.rpc_units.specs.declared.unit.Unit.{Unit as RpcUnit}
use Rattle.rpc_units.specs.Calls.{IsHeard}
use Rattle.rpc_units.specs.Joining.{cut_of}
use Rattle.rpc_units.specs.Reading.{unit_of}
use Rattle.rpc_units.specs.Stream.{cut_stream}
use Rattle.rpc_units.proofs.CuttingLaws.{call_heard}
use Rattle.logon_stubs.specs.Calls.{call_of, opnum_of_call}
use Rattle.logon_stubs.specs.Writing.{written_call}
use Rattle.logon_stubs.specs.declared.calls.Call.{Call}
use Rattle.logon_stubs.specs.declared.calls.Call.TheVariants as call
use Rattle.logon_stubs.specs.declared.calls.LogonCall.{LogonCall}
use Rattle.logon_stubs.proofs.WrittenLaws.{call_of-written_call, written_call-content}
use Rattle.end_links.specs.Links.{LinkState}
use Rattle.end_links.specs.Sending.{frames_of, joined_frames, request_of}
use Rattle.end_links.specs.Serving.{ServedPart, ServedUnit, served_units}
use Rattle.end_links.specs.Whole.{whole_limit}
use Rattle.end_links.proofs.BoundLaws.{frames_joined}
use Rattle.channel_client.specs.declared.hearing.SetHearing.TheVariants as set_hearing
use Rattle.channel_client.specs.declared.state.SetStep.TheVariants as set_step
use Rattle.channel_client.specs.declared.answers.Taken.TheVariants as taken
use Rattle.channel_client.specs.declared.hearing.Hearing.{Hearing}
use Rattle.channel_client.specs.declared.hearing.Hearing.TheVariants as hearing
use Rattle.channel_client.specs.declared.judging.Judgement.{Judgement}
use Rattle.channel_client.specs.declared.judging.Judgement.TheVariants as judgement
use Rattle.channel_client.specs.declared.state.Pending.{Pending}
use Rattle.channel_client.specs.declared.state.Question.{Question}
use Rattle.channel_client.specs.declared.state.Question.TheVariants as question
use Rattle.channel_client.specs.declared.state.Standing.{Standing}
use Rattle.channel_client.specs.declared.state.Standing.TheVariants as standing
use Rattle.channel_client.specs.declared.state.Step.TheVariants as step
use Rattle.channel_client.specs.declared.state.Waiting.{Waiting}
use Rattle.channel_client.specs.Effects.{IsForFirst, MatchesStep, step_in}
use Rattle.channel_client.specs.Machine.{act, hear, judge, place_of, question_of, settle, wait_for, SetOutcome, judge_set, settle_set}
use Rattle.channel_client.specs.State.{Requester}
use Rattle.channel_client.specs.Whole.{HasRoom, InRangeRequester, InRangeTurn}
use Rattle.channel_turns.specs.declared.state.Dialling.{Dialling}
use Rattle.channel_turns.specs.declared.state.Dialling.TheVariants as dialling
use Rattle.channel_client.proofs.WholeLaws.{requesters_send_whole}
use Rattle.member_server.specs.declared.state.Logon.{Logon}
use Rattle.member_server.specs.declared.state.Running.{Running}
use Rattle.channel_turns.specs.declared.state.TurnTalk.{TurnTalk}
use Rattle.member_server.specs.Machine.{at_turn, work_of}
use Rattle.member_server.specs.State.{State as MemberState}
use Rattle.member_server.specs.Turns.{AtTurn, TurnServed, do_taken, turn_server, turn_unit}
use Rattle.step_notes.specs.CallLogons.{AsksForKept, IsStamped, IsStampedStep, info_at}
use Rattle.step_notes.specs.MemberNotes.{TurnNote, asked_note, taken_note, taking_note, taking_read, turn_note, turn_units}
use Rattle.step_notes.specs.Served.{work_after}
use Rattle.step_notes.proofs.ServedLaws.{served_such}
use Rattle.step_notes.proofs.Channels.ChannelNameLaws.{bound_at}
use Rattle.member_server.proofs.StepFrame.{KeepsTurn, TurnHolds, each_taken, turn_keeps as unit_keeps}
use Rattle.step_notes.proofs.Members.CallKeptLaws.{TurnAsksBy, at_channel, turn_asks}
use Rattle.step_notes.proofs.Members.TurnRequestLaws.{HasLogon, IsOfTurn, asked_after, first_logon, of_turn}
use Rattle.step_notes.proofs.Members.KeptLogonLaws.{OfEach, turn_keeps}
use Rattle.step_notes.proofs.Members.TurnUnitLaws.{taking_by, turn_units_such}

-- ---- what goes out

-- the bytes are the call of the logon that is kept under that place, whole
pub record IsLogonSent (asked : List (ℕ × Logon)) (place : ℕ) (bytes : List ℕ) : Type 0 where
  pub own : Logon
  pub kept : lookup same_number place asked ≡ Some own
  pub number : ℕ
  pub logon : LogonCall
  pub frames : List RpcUnit
  pub heard : IsHeard bytes frames (request_of number 0 (opnum_of_call (call.Logon logon)) (written_call (call.Logon logon)))
  pub again : call_of (opnum_of_call (call.Logon logon)) (written_call (call.Logon logon)) ≡ Ok (call.Logon logon)
  pub info : logon.info ≡ info_at place own
  pub level : logon.validation ≡ 3

-- the call of that place goes out on the link of the turn
pub record IsCallOut (before : AtTurn) (later : Option AtTurn) (place : ℕ) : Type 0 where
  pub bytes : List ℕ
  pub sent : IsLogonSent before.work.logons.asked place bytes
  pub done : AtTurn
  pub comes : later ≡ Some done
  pub sends : done.work.actions ≡ before.work.actions ++ action.Send before.link bytes ∷ []

-- by the place whose call goes out, if one does, and by whether a request is sent
abbrev pub OutBy : Option ℕ → Bool → AtTurn → Option AtTurn → Type 0
OutBy None sends before later = Unit {0}
OutBy (Some place) sends before later = (sends ≡ true) × IsCallOut before later place

abbrev pub CallsOut : TurnNote → AtTurn → Option AtTurn → Type 0
CallsOut note before later = OutBy note.called note.sends before later

-- ---- a request that goes out is whole

pub request_heard : (number opnum limit : ℕ) (stub : List ℕ) → number < 2 ^ 32 → opnum < 2 ^ 16 → 1432 ≤ limit → limit ≤ 5840 → length stub ≤ whole_limit →
    IsHeard (joined_frames (frames_of (request_of number 0 opnum stub) limit)) (cut_of (request_of number 0 opnum stub) limit) (request_of number 0 opnum stub)
request_heard number opnum limit stub small known least most few =
    subst (λ (bytes : List ℕ). IsHeard bytes (cut_of (request_of number 0 opnum stub) limit) (request_of number 0 opnum stub)) (sym (frames_joined (request_of number 0 opnum stub) limit))
    (call_heard (request_of number 0 opnum stub) limit (record {
      whole = record { stub = tt; first = refl; last = refl };
      range = record { call = small; body = (omega (arith, few), omega arith, known); trailer = tt };
      value = tt;
      least = least;
      room = omega (arith, most);
    }) (omega (arith, few)))

level_in : Call → ℕ
level_in (call.Logon c) = c.validation
level_in (call.Logoff c) = 0
level_in (call.Challenge c) = 0
level_in (call.Authenticate c) = 0

module _ (controller : ℕ) (at : AtTurn) (joiner : Option RpcUnit) (kept : AsksForKept true at.work.logons) (range : InRangeRequester at.work.logons.channel) (frames : List (List ℕ))
    (number place limit : ℕ) (least : 1432 ≤ limit) (most : limit ≤ 5840) where
  -- a logon that goes out can be read back, and asks for what is kept
  logon_sent : (c : LogonCall) → at.work.logons.channel.turn ≡ bound_at number place (call.Logon c) →
      frames ≡ frames_of (request_of at.work.logons.channel.next_call 0 (opnum_of_call (call.Logon c)) (written_call (call.Logon c))) limit →
      IsLogonSent at.work.logons.asked place (joined_frames frames)
  unfolding level_in
  logon_sent c turn goes =
      let s : Requester = at.work.logons.channel in
      let room : HasRoom (call.Logon c) = subst InRangeTurn turn range.turn in
      let first : HasLogon place c at.work.logons.asked = first_logon at.work.logons.asked number place c
      (subst (λ (waiting : List Waiting). IsForFirst (bound_at number place (call.Logon c)) waiting) kept.waits
      (subst (λ (t : Option Pending). IsForFirst t s.waiting) turn kept.coherent.first)) in
      let stamped : IsStamped s.caller s.standing c = subst (λ (t : Option Pending). IsStampedStep s.caller s.standing (step_in t)) turn kept.own.stamped in
      record {
        own = first.0;
        kept = first.1;
        number = s.next_call;
        logon = c;
        frames = cut_of (request_of s.next_call 0 (opnum_of_call (call.Logon c)) (written_call (call.Logon c))) limit;
        heard = subst (λ (f : List (List ℕ)). IsHeard (joined_frames f) (cut_of (request_of s.next_call 0 (opnum_of_call (call.Logon c)) (written_call (call.Logon c))) limit)
            (request_of s.next_call 0 (opnum_of_call (call.Logon c)) (written_call (call.Logon c)))) (sym goes)
            (request_heard s.next_call (opnum_of_call (call.Logon c)) limit (written_call (call.Logon c)) range.next_call (omega arith) least most
            (omega (arith, written_call-content (call.Logon c) room.writes room.range, room.few)));
        again = call_of-written_call (call.Logon c) room.writes room.range;
        info = first.2;
        level = ap level_in stamped.is;
      }

  logon_out : (c : LogonCall) → at.work.logons.channel.turn ≡ bound_at number place (call.Logon c) →
      frames ≡ frames_of (request_of at.work.logons.channel.next_call 0 (opnum_of_call (call.Logon c)) (written_call (call.Logon c))) limit →
      IsCallOut at (asked_after at joiner question.Logon frames) (place_of at.work.logons.channel.turn)
  logon_out c turn goes = record {
    bytes = joined_frames frames;
    sent = subst (λ (n : ℕ). IsLogonSent at.work.logons.asked n (joined_frames frames)) (sym (ap place_of turn)) (logon_sent c turn goes);
    done = (do_taken (taken.Next tt frames) joiner (at_channel at (wait_for at.work.logons.channel (place_of at.work.logons.channel.turn) (step.Reply question.Logon)))).0;
    comes = refl;
    sends = refl;
  }

  asked_out : (c : Call) (how : Standing) → at.work.logons.channel.standing ≡ how → at.work.logons.channel.turn ≡ bound_at number place c →
      frames ≡ frames_of (request_of at.work.logons.channel.next_call 0 (opnum_of_call c) (written_call c)) limit →
      CallsOut
      (asked_note (Some (step.Reply (question_of c))) how controller at.work.logons.channel (wait_for at.work.logons.channel (place_of at.work.logons.channel.turn) (step.Reply (question_of c))))
      at (asked_after at joiner (question_of c) frames)
  asked_out (call.Challenge c) how stands turn goes = tt
  asked_out (call.Authenticate c) standing.Nothing stands turn goes = tt
  asked_out (call.Authenticate c) (standing.Half client server) stands turn goes = tt
  asked_out (call.Authenticate c) (standing.Open o) stands turn goes = tt
  asked_out (call.Logon c) standing.Nothing stands turn goes = tt
  asked_out (call.Logon c) (standing.Half client server) stands turn goes = tt
  asked_out (call.Logon c) (standing.Open o) stands turn goes = (refl, logon_out c turn goes)
  asked_out (call.Logoff c) standing.Nothing stands turn goes = tt
  asked_out (call.Logoff c) (standing.Half client server) stands turn goes = tt
  asked_out (call.Logoff c) (standing.Open o) stands turn goes =
      absurd (subst (λ (how : Standing). MatchesStep how (Some (step.Bind (call.Logoff c)))) stands
      (subst (λ (t : Option Pending). MatchesStep at.work.logons.channel.standing (step_in t)) turn kept.coherent.matches))

-- ---- a unit

module _ (controller : ℕ) (at : AtTurn) (kept : AsksForKept true at.work.logons) (range : InRangeRequester at.work.logons.channel) where
  settled_out : (j : Judgement) (later : Option AtTurn) → CallsOut (taken_note (settle j at.work.logons.channel).taken controller at.work.logons.channel (settle j at.work.logons.channel).state) at later
  settled_out (judgement.Half client server) later = tt
  settled_out (judgement.Opened o) later = tt
  settled_out (judgement.Answer o v) later = tt
  settled_out (judgement.Drop cause) later = tt

  -- a call that sets a secret is of no logon
  set_out : (how : Standing) (before after : Requester) (later : Option AtTurn) → CallsOut (asked_note (Some (step.Set set_step.Reply)) how controller before after) at later
  set_out standing.Nothing before after later = tt
  set_out (standing.Half client server) before after later = tt
  set_out (standing.Open o) before after later = tt

  set_settled_out : (judged : SetOutcome) (later : Option AtTurn) →
      CallsOut (taken_note (settle_set judged at.work.logons.channel).taken controller at.work.logons.channel (settle_set judged at.work.logons.channel).state) at later
  set_settled_out (Ok o) later = tt
  set_settled_out (Err cause) later = tt

  acted_out : (h : Hearing) (joiner : Option RpcUnit) → IsOfTurn at.work.logons.channel.turn at.work.logons.channel.next_call h →
      CallsOut (taken_note (act h at.work.logons.channel).taken controller at.work.logons.channel (act h at.work.logons.channel).state) at
      (Some (do_taken (act h at.work.logons.channel).taken joiner (at_channel at (act h at.work.logons.channel).state)).0)
  acted_out hearing.Skip joiner is = tt
  acted_out (hearing.Next q frames) joiner is =
      let s : Requester = at.work.logons.channel in
      subst (λ (asked : Question). CallsOut (asked_note (Some (step.Reply asked)) s.standing controller s (wait_for s (place_of s.turn) (step.Reply asked))) at (asked_after at joiner asked frames))
      (sym is.4) (asked_out controller at joiner kept range frames is.0 is.1 is.5 is.6 is.7 is.2 s.standing refl is.3 is.8)
  acted_out (hearing.Reply q r) joiner is =
      let s : Requester = at.work.logons.channel in settled_out (judge q r s.standing s.caller.secret) _
  acted_out (hearing.Drop cause) joiner is = tt
  acted_out (hearing.Set (set_hearing.Next frames)) joiner is = set_out at.work.logons.channel.standing _ _ _
  acted_out (hearing.Set (set_hearing.Reply r)) joiner is = set_settled_out (judge_set r at.work.logons.channel.standing) _

  read_out : (read : Result RpcUnit UnitRefused) (joiner : Option RpcUnit) →
      CallsOut (taking_note (taking_read read joiner at.work.logons.channel) controller at.work.logons.channel) at (Some (turn_unit read joiner at).0)
  read_out read joiner =
      let s : Requester = at.work.logons.channel in
      taking_by at (λ taking served. CallsOut (taking_note taking controller s) at (Some served.0)) (record {
        waits = λ after. tt;
        takes = λ unit after. acted_out (hear s.turn unit s.next_call) after (of_turn s.turn unit s.next_call);
        breaks = λ cause. tt;
      }) read joiner

-- ---- what is known before each unit of the turn

-- the link, what is asked for, the ranges, and of each logon that is kept
pub record IsReady (Fits : ℕ → Logon → Type 0) (link : ℕ) (at : AtTurn) : Type 0 where
  pub on : at.link ≡ link
  pub asks : AsksForKept true at.work.logons
  pub range : InRangeRequester at.work.logons.channel
  pub each : OfEach Fits at.work.logons.asked

pub record IsReadyUnit (Fits : ℕ → Logon → Type 0) (link controller : ℕ) (unit : ServedUnit AtTurn TurnTalk) : Type 0 where
  pub ready : IsReady Fits link unit.work
  pub out : CallsOut (turn_note controller unit) unit.work (work_after unit.part)

-- what is known of a member whose turn has its link open
abbrev pub ReadyOn : (ℕ → Logon → Type 0) → ℕ → Dialling → Running → Type 0
ReadyOn Fits link dialling.Nothing running = Unit {0}
ReadyOn Fits link (dialling.Waits turn frames) running = Unit {0}
ReadyOn Fits link (dialling.On other said) running = IsReady Fits link (at_turn link (work_of running))

abbrev pub ReadyIn : (ℕ → Logon → Type 0) → ℕ → Option Running → Type 0
ReadyIn Fits link None = Unit {0}
ReadyIn Fits link (Some running) = ReadyOn Fits link running.dialling running

-- the link and the ranges, where the turn goes on
record InRangeTurnAt (link : ℕ) (at : AtTurn) : Type 0 where
  on : at.link ≡ link
  range : InRangeRequester at.work.logons.channel

abbrev InRangeBy : ℕ → Option TurnTalk → AtTurn → Type 0
InRangeBy link None at = Unit {0}
InRangeBy link (Some talk) at = InRangeTurnAt link at

range_turn : (link : ℕ) → KeepsTurn (λ units at. InRangeTurnAt link at) (λ w. Unit {0})
range_turn link = record {
  skips = λ right unit units at is known. record { on = known.on; range = (requesters_send_whole.take at.work.logons.channel unit known.range).0 };
  sends = λ right frames unit units at is known. record { on = known.on; range = (requesters_send_whole.take at.work.logons.channel unit known.range).0 };
  ends = λ how unit units at is known. tt;
  breaks = λ cause at known. tt;
}

range_by : (link : ℕ) (served : TurnServed) → TurnHolds (λ units at. InRangeTurnAt link at) (λ w. Unit {0}) [] served → InRangeBy link served.1 served.0
range_by link (at, None) known = tt
range_by link (at, Some talk) known = known

read_range : (link : ℕ) (read : Result RpcUnit UnitRefused) (joiner : Option RpcUnit) (at : AtTurn) → InRangeTurnAt link at →
    InRangeBy link (turn_unit read joiner at).1 (turn_unit read joiner at).0
read_range link read joiner at known =
    let Out : List RpcUnit → AtTurn → Type 0 = λ units at. InRangeTurnAt link at in
    range_by link (turn_unit read joiner at) (unit_keeps Out (λ w. Unit {0}) (each_taken Out (λ w. Unit {0}) (range_turn link)) read joiner [] at known)

-- ---- the units of the link of the turn

module _ (Fits : ℕ → Logon → Type 0) (link controller : ℕ) where
  abbrev pub ReadyBy : Option TurnTalk → AtTurn → Type 0
  ReadyBy None at = Unit {0}
  ReadyBy (Some talk) at = IsReady Fits link at

  ready_by : (said : Option TurnTalk) (at : AtTurn) → InRangeBy link said at → TurnAsksBy said at.work.logons → OfEach Fits at.work.logons.asked → ReadyBy said at
  ready_by None at known asks each = tt
  ready_by (Some talk) at known asks each = record { on = known.on; asks = asks; range = known.range; each = each }

  abbrev pub AllReady : List (ServedUnit AtTurn TurnTalk) → Type 0
  AllReady units = AllByRecursion (IsReadyUnit Fits link controller) units

  abbrev pub ReadyPart : ServedPart AtTurn TurnTalk → Type 0
  ReadyPart (Err why) = Unit {0}
  ReadyPart (Ok part) = ReadyBy part.value.1 part.value.0

  units_ready : (said : LinkState TurnTalk) (piece : List ℕ) (running : Running) (left : List (List ℕ)) → IsReady Fits link (at_turn link (work_of running)) →
      AllReady (served_units turn_server (cut_stream (said.rest ++ piece)).units (at_turn link (work_of running)) said.talk left)
  units_ready said piece running left ready =
      served_such turn_server ReadyPart (IsReadyUnit Fits link controller)
      (λ bytes at talk left ready.
      let served : TurnServed = turn_unit (unit_of bytes) talk.joiner at in (
        record { ready = ready; out = read_out controller at ready.asks ready.range (unit_of bytes) talk.joiner },
        ready_by served.1 served.0 (read_range link (unit_of bytes) talk.joiner at (record { on = ready.on; range = ready.range }))
            (turn_asks (unit_of bytes) talk.joiner at ready.asks) (turn_keeps Fits (λ number. Unit {0}) (unit_of bytes) talk.joiner at ready.each),
      ))
      (cut_stream (said.rest ++ piece)).units (at_turn link (work_of running)) said.talk left ready

  pub turns_ready : (m : MemberState) (piece : List ℕ) (now : ℕ) (left : List (List ℕ)) → ReadyIn Fits link m.running → AllReady (turn_units m link piece now left)
  turns_ready m piece now left ready =
      turn_units_such (IsReadyUnit Fits link controller) (λ how running. ReadyOn Fits link how running) link piece left
      (λ other said running known. units_ready said piece running left known) m now (λ running is. subst (ReadyIn Fits link) is ready)
