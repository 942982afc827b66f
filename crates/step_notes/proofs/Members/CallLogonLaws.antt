-- Each Logon call that goes out at a member carries the logon that it keeps under the place of the turn.
-- It serves `calls_carry_their_logon`.
use Rattle.std.proofs.Common.{◌≡◌, ℕ, true, List, ◌++◌, Option, Some, Result, Ok, Err, refl, sym, ap, ap₂, subst, ◌∙◌}
use Rattle.std.specs.List.{AllByRecursion}
use Rattle.authenticators.specs.Channels.{ChannelIdentity, channel_key}
use Rattle.authenticators.specs.Sequences.{authenticator_of, next_seed}
use Rattle.authenticators.specs.SecureChannels.{channel_of, SecureChannelState, after_call, key_of_channel}
use Rattle.rpc_units.specs.declared.refused.UnitRefused.{UnitRefused}
use Rattle.rpc_units.specs.declared.unit.Unit.{Unit as RpcUnit}
use Rattle.rpc_units.specs.Reading.{unit_of}
use Rattle.rpc_units.specs.Stream.{cut_stream}
use Rattle.logon_stubs.specs.declared.calls.Call.{Call}
use Rattle.logon_stubs.specs.declared.calls.Call.TheVariants as call
use Rattle.logon_stubs.specs.declared.calls.LogonCall.{LogonCall}
use Rattle.logon_stubs.specs.declared.info.NetworkInfo.{NetworkInfo}
use Rattle.end_links.specs.Links.{LinkState}
use Rattle.end_links.specs.Serving.{ServedUnit, served_units}
use Rattle.channel_client.specs.declared.answers.Taken.TheVariants as taken
use Rattle.channel_client.specs.declared.caller.Caller.{Caller}
use Rattle.channel_client.specs.declared.hearing.Hearing.{Hearing}
use Rattle.channel_client.specs.declared.hearing.Hearing.TheVariants as hearing
use Rattle.channel_client.specs.declared.judging.Judgement.{Judgement}
use Rattle.channel_client.specs.declared.judging.Judgement.TheVariants as judgement
use Rattle.channel_client.specs.declared.state.Pending.{Pending}
use Rattle.channel_client.specs.declared.state.Question.{Question}
use Rattle.channel_client.specs.declared.state.Question.TheVariants as question
use Rattle.channel_client.specs.declared.state.Standing.{Standing}
use Rattle.channel_client.specs.declared.state.Standing.TheVariants as standing
use Rattle.channel_client.specs.declared.state.Step.TheVariants as step
use Rattle.channel_client.specs.declared.state.SetStep.TheVariants as set_step
use Rattle.channel_client.specs.declared.hearing.SetHearing.TheVariants as set_hearing
use Rattle.secret_change.specs.declared.calls.SetCall.{SetCall}
use Rattle.channel_client.specs.declared.state.Waiting.{Waiting}
use Rattle.channel_client.specs.Effects.{IsForFirst, MatchesStep, seed_in, step_in}
use Rattle.channel_client.specs.Machine.{SetOutcome, act, change_call, hear, judge, judge_set, logon_call, place_of, question_of, settle, settle_set, wait_for}
use Rattle.channel_client.specs.NoNext.{sets_in_turn}
use Rattle.channel_client.specs.State.{Requester}
use Rattle.member_server.specs.declared.plan.MemberPlan.{MemberPlan}
use Rattle.member_server.specs.declared.state.Running.{Running}
use Rattle.channel_turns.specs.declared.state.TurnTalk.{TurnTalk}
use Rattle.member_server.specs.Laws.{is_dialled}
use Rattle.member_server.specs.Machine.{at_turn, caller_of, work_of}
use Rattle.member_server.specs.Turns.{AtTurn, do_taken, turn_server, turn_unit}
use Rattle.step_notes.specs.CallLogons.{AsksForKept, AsksUnlessStopped, CallsCarryTheirLogon, CarriesItsLogon, CarriesNoted, HasSecret, IsForItsChange, IsForItsLogon, IsStamped, IsStampedSet, IsStampedSetStep, IsStampedStep, call_for, change_for, info_at}
use Rattle.step_notes.specs.ChannelNames.{AreFramesOf, AreFramesOfSet}
use Rattle.step_notes.specs.MemberNotes.{asked_note, taken_note, taking_note, taking_read, timestamp_bound}
use Rattle.step_notes.proofs.Channels.ChannelNameLaws.{bound_at, set_bound_at}
use Rattle.step_notes.proofs.Members.TurnRequestLaws.{HasLogon, IsOfTurn, asked_after, first_logon, of_turn, set_after}
use Rattle.step_notes.proofs.Members.CallKeptLaws.{change_asks, TurnPartAsks, at_channel, fresh_alone, fresh_asks, step_alone, step_asks, turn_asks}
use Rattle.step_notes.proofs.ServedLaws.{served_such}
use Rattle.step_notes.proofs.Members.TurnUnitLaws.{taking_by, turn_units_such}

-- ---- a request that goes out

open_is : (one other : SecureChannelState) → standing.Open one ≡ standing.Open other → one ≡ other
open_is one other is = cc

module _ (controller : ℕ) (at : AtTurn) (joiner : Option RpcUnit) (kept : AsksForKept true at.work.logons) (frames : List (List ℕ)) (number place : ℕ) where
  -- a Logon call on the channel that stands
  logon_goes : (c : LogonCall) (o : SecureChannelState) → at.work.logons.channel.standing ≡ standing.Open o → at.work.logons.channel.turn ≡ bound_at number place (call.Logon c) →
      AreFramesOf at.work.logons.channel.next_call (call.Logon c) frames →
      IsForItsLogon controller at (asked_after at joiner question.Logon frames) (Some (place_of at.work.logons.channel.turn))
      (channel_of controller at.work.logons.channel.caller.computer o) at.work.logons.channel.next_call (timestamp_bound (step_in at.work.logons.channel.turn))
  logon_goes c o stands turn goes =
      let s : Requester = at.work.logons.channel in
      let plan : MemberPlan = at.work.logons.plan in
      let channel : ChannelIdentity = channel_of controller s.caller.computer o in
      let first : HasLogon place c at.work.logons.asked = first_logon at.work.logons.asked number place c
      (subst (λ (waiting : List Waiting). IsForFirst (bound_at number place (call.Logon c)) waiting) kept.waits
      (subst (λ (t : Option Pending). IsForFirst t s.waiting) turn kept.coherent.first)) in
      let stamped : IsStamped s.caller s.standing c = subst (λ (t : Option Pending). IsStampedStep s.caller s.standing (step_in t)) turn kept.own.stamped in
      let earlier : SecureChannelState = stamped.earlier in
      let moved : o ≡ after_call earlier stamped.timestamp = open_is o (after_call earlier stamped.timestamp) (sym stands ∙ stamped.stands) in
      let key : key_of_channel earlier ≡ channel_key channel = ap key_of_channel (sym moved) in
      let one : call.Logon c ≡ logon_call (caller_of plan) earlier stamped.timestamp (info_at place first.0) =
      stamped.is ∙ ap₂ (λ (caller : Caller) (info : NetworkInfo). logon_call caller earlier stamped.timestamp info) kept.caller first.2 in
      let two : logon_call (caller_of plan) earlier stamped.timestamp (info_at place first.0) ≡ call_for plan (authenticator_of (channel_key channel) earlier.seed stamped.timestamp) place first.0 =
      ap (λ (k : List ℕ). call_for plan (authenticator_of k earlier.seed stamped.timestamp) place first.0) key in
      let when : timestamp_bound (step_in s.turn) ≡ stamped.timestamp =
      ap (λ (t : Option Pending). timestamp_bound (step_in t)) turn ∙ ap (λ (x : Call). timestamp_bound (Some (step.Bind x))) stamped.is in
      record {
        frames = frames;
        asks = record {
          place = place;
          logon = first.0;
          kept = first.1;
          with_controller = refl;
          computer = ap (λ (caller : Caller). caller.computer) kept.caller;
          secret = subst (λ (how : Standing). HasSecret s.caller.secret how) stands kept.own.secret;
          seed = earlier.seed;
          moved = subst (λ (t : ℕ). seed_in s.standing ≡ Some (next_seed earlier.seed t)) (sym when) (ap seed_in stamped.stands);
          asks = subst (λ (t : ℕ). AreFramesOf s.next_call (call_for plan (authenticator_of (channel_key channel) earlier.seed t) place first.0) frames) (sym when)
              (subst (λ (x : Call). AreFramesOf s.next_call x frames) (one ∙ two) goes);
        };
        called_is = ap (λ (t : Option Pending). Some (place_of t)) turn;
        done = (do_taken (taken.Next tt frames) joiner (at_channel at (wait_for s (place_of s.turn) (step.Reply question.Logon)))).0;
        comes = refl;
        sends = refl;
      }

  asked_goes : (c : Call) (how : Standing) → at.work.logons.channel.standing ≡ how → at.work.logons.channel.turn ≡ bound_at number place c → AreFramesOf at.work.logons.channel.next_call c frames →
      CarriesNoted
      (asked_note (Some (step.Reply (question_of c))) how controller at.work.logons.channel (wait_for at.work.logons.channel (place_of at.work.logons.channel.turn) (step.Reply (question_of c))))
      controller at (asked_after at joiner (question_of c) frames)
  asked_goes (call.Challenge c) how stands turn goes = tt
  asked_goes (call.Authenticate c) standing.Nothing stands turn goes = tt
  asked_goes (call.Authenticate c) (standing.Half client server) stands turn goes = tt
  asked_goes (call.Authenticate c) (standing.Open o) stands turn goes = tt
  asked_goes (call.Logon c) standing.Nothing stands turn goes = tt
  asked_goes (call.Logon c) (standing.Half client server) stands turn goes = tt
  asked_goes (call.Logon c) (standing.Open o) stands turn goes = logon_goes c o stands turn goes
  asked_goes (call.Logoff c) standing.Nothing stands turn goes = tt
  asked_goes (call.Logoff c) (standing.Half client server) stands turn goes = tt
  asked_goes (call.Logoff c) (standing.Open o) stands turn goes =
      absurd (subst (λ (how : Standing). MatchesStep how (Some (step.Bind (call.Logoff c)))) stands
      (subst (λ (t : Option Pending). MatchesStep at.work.logons.channel.standing (step_in t)) turn kept.coherent.matches))

  -- a call that sets the next secret
  set_goes : (c : SetCall) (o : SecureChannelState) → at.work.logons.channel.standing ≡ standing.Open o → at.work.logons.channel.turn ≡ set_bound_at number place c →
      AreFramesOfSet at.work.logons.channel.next_call c frames →
      IsForItsChange controller at (set_after at joiner frames)
      (channel_of controller at.work.logons.channel.caller.computer o) at.work.logons.channel.next_call (timestamp_bound (step_in at.work.logons.channel.turn))
  set_goes c o stands turn goes =
      let s : Requester = at.work.logons.channel in
      let plan : MemberPlan = at.work.logons.plan in
      let channel : ChannelIdentity = channel_of controller s.caller.computer o in
      let stamped : IsStampedSet s.caller s.standing s.next c = subst (λ (t : Option Pending). IsStampedSetStep s.caller s.standing s.next (step_in t)) turn kept.own.set in
      let earlier : SecureChannelState = stamped.earlier in
      let moved : o ≡ after_call earlier stamped.timestamp = open_is o (after_call earlier stamped.timestamp) (sym stands ∙ stamped.stands) in
      let key : key_of_channel earlier ≡ channel_key channel = ap key_of_channel (sym moved) in
      let one : c ≡ change_for plan (authenticator_of (key_of_channel earlier) earlier.seed stamped.timestamp) (key_of_channel earlier) stamped.secret =
      stamped.is ∙ ap (λ (caller : Caller). change_call caller earlier stamped.timestamp stamped.secret) kept.caller in
      let two : change_for plan (authenticator_of (key_of_channel earlier) earlier.seed stamped.timestamp) (key_of_channel earlier) stamped.secret
      ≡ change_for plan (authenticator_of (channel_key channel) earlier.seed stamped.timestamp) (channel_key channel) stamped.secret =
      ap (λ (k : List ℕ). change_for plan (authenticator_of k earlier.seed stamped.timestamp) k stamped.secret) key in
      let when : timestamp_bound (step_in s.turn) ≡ stamped.timestamp =
      ap (λ (t : Option Pending). timestamp_bound (step_in t)) turn ∙ ap (λ (x : SetCall). x.authenticator.timestamp) stamped.is in
      record {
        frames = frames;
        asks = record {
          next = stamped.secret;
          kept = sym (kept.sets (ap sets_in_turn turn)).0 ∙ stamped.is_next;
          with_controller = refl;
          computer = ap (λ (caller : Caller). caller.computer) kept.caller;
          secret = subst (λ (how : Standing). HasSecret s.caller.secret how) stands kept.own.secret;
          seed = earlier.seed;
          moved = subst (λ (t : ℕ). seed_in s.standing ≡ Some (next_seed earlier.seed t)) (sym when) (ap seed_in stamped.stands);
          asks = subst (λ (t : ℕ). AreFramesOfSet s.next_call (change_for plan (authenticator_of (channel_key channel) earlier.seed t) (channel_key channel) stamped.secret) frames) (sym when)
              (subst (λ (x : SetCall). AreFramesOfSet s.next_call x frames) (one ∙ two) goes);
        };
        done = (do_taken (taken.Next tt frames) joiner (at_channel at (wait_for s (place_of s.turn) (step.Set set_step.Reply)))).0;
        comes = refl;
        sends = refl;
      }

  setting_goes : (c : SetCall) (how : Standing) → at.work.logons.channel.standing ≡ how → at.work.logons.channel.turn ≡ set_bound_at number place c →
      AreFramesOfSet at.work.logons.channel.next_call c frames →
      CarriesNoted
      (asked_note (Some (step.Set set_step.Reply)) how controller at.work.logons.channel (wait_for at.work.logons.channel (place_of at.work.logons.channel.turn) (step.Set set_step.Reply)))
      controller at (set_after at joiner frames)
  setting_goes c standing.Nothing stands turn goes = tt
  setting_goes c (standing.Half client server) stands turn goes = tt
  setting_goes c (standing.Open o) stands turn goes = set_goes c o stands turn goes

-- ---- a unit

module _ (controller : ℕ) (at : AtTurn) (kept : AsksForKept true at.work.logons) where
  set_carries : (judged : SetOutcome) (later : Option AtTurn) →
      CarriesNoted (taken_note (settle_set judged at.work.logons.channel).taken controller at.work.logons.channel (settle_set judged at.work.logons.channel).state) controller at later
  set_carries (Ok o) later = tt
  set_carries (Err cause) later = tt

  settled_carries : (j : Judgement) (later : Option AtTurn) → CarriesNoted (taken_note (settle j at.work.logons.channel).taken controller at.work.logons.channel (settle j at.work.logons.channel).state) controller at later
  settled_carries (judgement.Half client server) later = tt
  settled_carries (judgement.Opened o) later = tt
  settled_carries (judgement.Answer o v) later = tt
  settled_carries (judgement.Drop cause) later = tt

  acted_carries : (h : Hearing) (joiner : Option RpcUnit) → IsOfTurn at.work.logons.channel.turn at.work.logons.channel.next_call h →
      CarriesNoted (taken_note (act h at.work.logons.channel).taken controller at.work.logons.channel (act h at.work.logons.channel).state) controller at
      (Some (do_taken (act h at.work.logons.channel).taken joiner (at_channel at (act h at.work.logons.channel).state)).0)
  acted_carries hearing.Skip joiner is = tt
  acted_carries (hearing.Next q frames) joiner is =
      let s : Requester = at.work.logons.channel in
      subst (λ (asked : Question). CarriesNoted (asked_note (Some (step.Reply asked)) s.standing controller s (wait_for s (place_of s.turn) (step.Reply asked))) controller at (asked_after at joiner asked frames))
      (sym is.4) (asked_goes controller at joiner kept frames is.0 is.1 is.2 s.standing refl is.3 (is.5, is.8))
  acted_carries (hearing.Reply q r) joiner is =
      let s : Requester = at.work.logons.channel in settled_carries (judge q r s.standing s.caller.secret) _
  acted_carries (hearing.Drop cause) joiner is = tt
  acted_carries (hearing.Set (set_hearing.Next frames)) joiner is =
      setting_goes controller at joiner kept frames is.0 is.1 is.2 at.work.logons.channel.standing refl is.3 (is.4, is.7)
  acted_carries (hearing.Set (set_hearing.Reply r)) joiner is = set_carries (judge_set r at.work.logons.channel.standing) _

  read_carries : (read : Result RpcUnit UnitRefused) (joiner : Option RpcUnit) →
      CarriesNoted (taking_note (taking_read read joiner at.work.logons.channel) controller at.work.logons.channel) controller at (Some (turn_unit read joiner at).0)
  read_carries read joiner =
      let s : Requester = at.work.logons.channel in
      taking_by at (λ taking served. CarriesNoted (taking_note taking controller s) controller at (Some served.0)) (record {
        waits = λ after. tt;
        takes = λ unit after. acted_carries (hear s.turn unit s.next_call) after (of_turn s.turn unit s.next_call);
        breaks = λ cause. tt;
      }) read joiner

-- ---- the units of the link of the turn

abbrev pub AllCarry : ℕ → List (ServedUnit AtTurn TurnTalk) → Type 0
AllCarry controller units = AllByRecursion (CarriesItsLogon controller) units

units_carry : (controller : ℕ) (said : LinkState TurnTalk) (number : ℕ) (piece : List ℕ) (running : Running) (left : List (List ℕ)) → AsksForKept true running.logons →
    AllCarry controller (served_units turn_server (cut_stream (said.rest ++ piece)).units (at_turn number (work_of running)) said.talk left)
units_carry controller said number piece running left kept =
    served_such turn_server TurnPartAsks (CarriesItsLogon controller)
    (λ bytes at talk some asks. (read_carries controller at asks (unit_of bytes) talk.joiner, turn_asks (unit_of bytes) talk.joiner at asks))
    (cut_stream (said.rest ++ piece)).units (at_turn number (work_of running)) said.talk left kept

-- each Logon call carries its logon
pub calls_carry : CallsCarryTheirLogon
calls_carry = record {
  fresh = fresh_asks;
  alone = fresh_alone;
  stays_alone = step_alone;
  keeps = step_asks;
  changes = change_asks;
  carries = λ controller m number piece now left kept.
      turn_units_such (CarriesItsLogon controller) (λ how running. AsksForKept (is_dialled how) running.logons) number piece left
      (λ other said running asks. units_carry controller said number piece running left asks) m now (λ running is. subst AsksUnlessStopped is kept);
}
