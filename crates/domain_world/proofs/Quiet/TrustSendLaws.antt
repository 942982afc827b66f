-- What a controller that may hand logons on sends: it is whole, or a reply to a logon that was handed on, which goes
-- back on the link on which the logon came, and is bytes that an end may send at once. It serves
-- `trusting_controllers_listen`.
use Rattle.std.proofs.Common.{◌≡◌, ◌==◌, ◌<◌, ◌^◌, ◌++◌, ℕ, Bool, true, false, List, [], ◌∷◌, inl, inr, Option, Some, None, Result, Ok, Err, slice_get, refl, sym, subst, arith, if◌then◌else◌}
use Rattle.std.specs.List.{AllByRecursion}
use Rattle.wire_base.specs.Maps.{has_key, lookup, same_number, take_out}
use Rattle.wire_base.specs.Names.{IsName}
use Rattle.wire_base.specs.Numbers.{AreBytes}
use Rattle.wire_base.proofs.AllLaws.{all_join}
use Rattle.ndr_codec.specs.Parts.{IfThere}
use Rattle.wire_base.specs.declared.authenticator.Authenticator.{Authenticator}
use Rattle.channel_keys.specs.Hidden.{crypt_key, is_zero}
use Rattle.authenticators.proofs.BlockLaws.{cred_block}
use Rattle.authenticators.specs.SecureChannels.{key_of_channel}
use Rattle.authenticators.specs.Sequences.{next_seed, return_of}
use Rattle.outside.specs.Machine.{Part, step_by, then_part}
use Rattle.outside.specs.declared.action.Action.{Action}
use Rattle.outside.specs.declared.action.Action.TheVariants as action
use Rattle.outside.specs.declared.action.CloseCause.{CloseCause}
use Rattle.outside.specs.declared.action.CloseCause.TheVariants as close
use Rattle.outside.specs.declared.action.Judged.TheVariants as judged
use Rattle.outside.specs.declared.action.StepRefused.{StepRefused}
use Rattle.outside.specs.declared.event.Event.{Event}
use Rattle.outside.specs.declared.event.Event.TheVariants as event
use Rattle.account_table.specs.AccountTable.{AccountTable}
use Rattle.account_table.specs.declared.account.Trust.{Trust}
use Rattle.rpc_units.specs.Calls.{bytes_of_call}
use Rattle.rpc_units.specs.Stream.{cut_stream}
use Rattle.logon_stubs.specs.Status.{no_logon_servers}
use Rattle.logon_stubs.specs.Verdicts.{IfGranted}
use Rattle.logon_stubs.specs.Writing.{written_reply}
use Rattle.logon_stubs.specs.declared.calls.Reply.{Reply}
use Rattle.logon_stubs.specs.declared.info.Verdict.{Verdict}
use Rattle.logon_stubs.specs.declared.info.Verdict.TheVariants.{Granted, Status}
use Rattle.logon_stubs.proofs.WrittenLaws.{AreBytes-written_reply, reply_of-written_reply}
use Rattle.sam_logon.proofs.GrantedLaws.{granting-CanWrite, granting-InRange}
use Rattle.end_links.specs.Links.{LinkState}
use Rattle.end_links.specs.Sending.{response_of}
use Rattle.end_links.specs.Serving.{ServedPart, served_cut}
use Rattle.end_links.specs.Whole.{IsWholeIfSent}
use Rattle.end_links.proofs.ByteLaws.{call_bytes}
use Rattle.end_links.proofs.KeepLaws.{StaysServing, served_stays}
use Rattle.end_loop.specs.Runs.{actions_of}
use Rattle.channel_client.specs.State.{Requester}
use Rattle.channel_turns.specs.Dials.{NextTurn, next_turn as channel_turn}
use Rattle.channel_turns.specs.Turning.{Turned, dial_for, dial_part, is_on, is_waiting, link_answers, link_closes, link_hears, no_dial}
use Rattle.channel_turns.specs.declared.state.TurnEnd.{TurnEnd}
use Rattle.channel_turns.specs.declared.state.TurnEnd.TheVariants as turn_end
use Rattle.channel_turns.specs.declared.state.TurnEnded.{TurnEnded}
use Rattle.channel_turns.specs.declared.state.Turning.{Turning}
use Rattle.controller_calls.proofs.LongReplyLaws.{bytes_long, stub_long}
use Rattle.controller_calls.specs.Desk.{IsLine}
use Rattle.controller_calls.specs.Forwarded.{ForwardedState, line_unless, line_without}
use Rattle.controller_calls.specs.Handing.{forwarded_reply, reply_if}
use Rattle.controller_calls.specs.Logons.{IsServedLevel, status_of}
use Rattle.controller_calls.specs.declared.calls.ControllerCall.TheVariants as call
use Rattle.controller_calls.specs.declared.calls.JudgedCall.{JudgedCall}
use Rattle.controller_calls.specs.declared.line.Line.{Line}
use Rattle.controller_calls.specs.Desk.{Desk}
use Rattle.controller_calls.specs.declared.state.Work.{Work}
use Rattle.controller_calls.proofs.OutcomeLaws.{judged_comes}
use Rattle.domain_controller.specs.Forwarding.{TrustDesk, after_ended, answer_found, answer_trust_call, base_desk, beside, by_trust_heard, calls_without, close_ended, end_turn, trust_desk, trust_server}
use Rattle.domain_controller.specs.Hearing.{hear}
use Rattle.domain_controller.specs.Machine.{by_heard}
use Rattle.domain_controller.specs.State.{State as ControllerState}
use Rattle.domain_controller.specs.Step.{LinkMap}
use Rattle.domain_controller.specs.TrustStep.{TrustPart, TrustParts, after_turned, after_units, answer_dial, by_trust_event, close_by, close_number, event_and_turn, fail_dial, first_waiting, is_idle, link_with, next_if, next_part, next_turn, on_turn, open_by, parts_of, put_open, serve_bytes, serve_on, start_at, start_on, trust_halted, trust_part, trust_state_after, trust_step_of, trust_step_on, turn_at, turned_work, turning_of, without_link}
use Rattle.domain_controller.specs.TrustWhole.{AreForwardedInRange, InRangeForwarded, InRangeTrustState}
use Rattle.domain_controller.specs.Trusting.{ForwardedCalls, same_place}
use Rattle.domain_controller.specs.Whole.{AreChallenges, InRangeDesk, InRangeLinks, InRangePart, InRangeRunning, InRangeTable, InRangeTalk}
use Rattle.domain_controller.specs.declared.hearing.Heard.{Heard}
use Rattle.domain_controller.specs.declared.hearing.Heard.TheVariants as heard
use Rattle.domain_controller.specs.declared.state.Running.{Running}
use Rattle.domain_controller.specs.declared.state.Talk.{Talk}
use Rattle.domain_controller.specs.declared.trusting.Parts.{Parts}
use Rattle.domain_controller.specs.declared.trusting.Queues.{Queues}
use Rattle.domain_controller.specs.declared.trusting.TrustWork.{TrustWork}
use Rattle.domain_controller.proofs.HandOnLaws.{CallGoes, GoesOn, IsLeft, StaysHere, call_goes}
use Rattle.domain_controller.proofs.TrustPlaceLaws.{got_all}
use Rattle.domain_controller.proofs.TrustRangeLaws.{InRangeParts, InRangeTurned, KeepsRange, answers_range, closes_range, fails_range, hears_range}
use Rattle.domain_controller.proofs.WalkLaws.{found_said}
use Rattle.domain_controller.proofs.WholeLaws.{AreWhole, HeardFits, both_whole, heard_fits, judged_in_range, sends_are_whole, stub_whole}
use Rattle.domain_controller.proofs.WholeParts.{crypt_block, passed_few}
use Rattle.member_server.specs.Whole.{BringsBytes}
use Rattle.domain_world.specs.Accepting.Listening.{AreLinesSo, IsSentSo, TurnHasBytes}
use Rattle.domain_world.proofs.Quiet.TrustTurnByteLaws.{EndFits, HowFits, IsWritable, closes_fit, fails_fit, hears_fit}

-- ---- the reply to a logon that was handed on

module _ (back : ℕ → Bool) where
  abbrev AreSo : List Action → Type 0
  AreSo actions = AllByRecursion (IsSentSo back) actions

  whole_so : (what : Action) → IsWholeIfSent what → IsSentSo back what
  whole_so (action.Send link bytes) is = inl is
  whole_so (action.Keep bytes) is = tt
  whole_so (action.Dial peer) is = tt
  whole_so (action.Close link cause) is = tt
  whole_so (action.Told link outcome) is = tt
  whole_so (action.Judged how) is = tt

  all_so : (actions : List Action) → AllByRecursion IsWholeIfSent actions → AreSo actions
  all_so [] all = tt
  all_so (what ∷ actions) all = (whole_so what all.0, all_so actions all.1)

  -- a line on which a reply goes back, if there is one
  abbrev LineSo : Option Line → Type 0
  LineSo line = IfThere (λ (one : Line). back one.link ≡ true) line

  grant_bytes : (line : Line) (f : ForwardedState) (verdict : Verdict) → IsLine line → back line.link ≡ true → InRangeForwarded f → IfGranted verdict IsWritable →
      IsSentSo back (action.Send line.link (bytes_of_call (response_of line.call line.context (written_reply (forwarded_reply f verdict))) line.limit))
  grant_bytes line f (Status status) is goes range fits =
      inl (stub_whole line _ is (passed_few (Status status) f.validation f.key f.credential range.credential tt tt))
  grant_bytes line f (Granted info) is goes range fits =
      let returned : Option Authenticator = Some (record { credential = f.credential; timestamp = 0 }) in
      let served : IsServedLevel f.validation = range.call.level in
      let small : f.validation < 2 ^ 16 = elim served [ inl two ↦ omega (arith, two) | inr three ↦ omega (arith, three) ] in
      let value : Reply = forwarded_reply f (Granted info) in
      let key : List ℕ = crypt_key f.key info.key in
      let can = granting-CanWrite returned f.validation info key 1 0 served fits.can in
      let within = granting-InRange returned f.validation info key 1 0 small fits.range (crypt_block (is_zero info.key) f.key info.key fits.range.key) (record { credential = range.credential; timestamp = omega arith })
      (omega arith) (omega arith) in
      let are : AreBytes (written_reply value) = AreBytes-written_reply value can within in
      inr (
        goes,
        record {
          are = call_bytes (response_of line.call line.context (written_reply value)) line.limit (are, tt);
          short = bytes_long line.call line.context line.limit (written_reply value) is.least (stub_long value (written_reply value) are can (reply_of-written_reply value can within) refl);
        },
      )

  reply_so : (line : Option Line) (verdict : Verdict) (f : ForwardedState) (work : Work) → IfThere IsLine line → LineSo line → InRangeForwarded f → IfGranted verdict IsWritable → AreSo work.actions →
      AreSo (reply_if line (forwarded_reply f verdict) work).actions
  reply_so None verdict f work is goes range fits all = all
  reply_so (Some line) verdict f work is goes range fits all = all_join (IsSentSo back) work.actions _ all (grant_bytes line f verdict is goes range fits, tt)

  -- ---- what follows of a turn that ended

  -- of a logon that was handed on, as it stands among those
  abbrev Kept : ForwardedState → Type 0
  Kept f = InRangeForwarded f × LineSo f.line

  abbrev AllKept : ForwardedCalls → Type 0
  AllKept calls = AllByRecursion (λ (entry : (ℕ × ℕ) × ForwardedState). Kept entry.1) calls

  found_by : (b : Bool) (entry : (ℕ × ℕ) × ForwardedState) (rest : Option ForwardedState) (f : ForwardedState) → (if b then Some entry.1 else rest) ≡ Some f → Kept entry.1 → (rest ≡ Some f → Kept f) → Kept f
  found_by true entry rest f is kept later = let same : entry.1 ≡ f = (let x = is in cc) in subst Kept same kept
  found_by false entry rest f is kept later = later is

  found_kept : (place : ℕ × ℕ) (calls : ForwardedCalls) (f : ForwardedState) → AllKept calls → lookup same_place place calls ≡ Some f → Kept f
  found_kept place [] f all is = absurd (let x = is in cc)
  found_kept place (entry ∷ calls) f all is =
      found_by (has_key same_place place entry) entry (lookup same_place place calls) f is all.0 (λ later. found_kept place calls f all.1 later)

  found_so : (found : Option ForwardedState) (place : ℕ × ℕ) (verdict : Verdict) (w : TrustWork) → lookup same_place place w.queues.forwarded ≡ found → IfGranted verdict IsWritable →
      AllKept w.queues.forwarded → AreSo w.work.actions → AreSo (answer_found found place verdict w).work.actions
  found_so None place verdict w is fits kept all = all
  found_so (Some f) place verdict w is fits kept all =
      let of : Kept f = found_kept place w.queues.forwarded f kept is in
      reply_so f.line verdict f (record w.work { actions = w.work.actions ++ action.Judged (judged.Answered (status_of verdict)) ∷ [] }) of.0.call.line of.1 of.0 fits
      (all_join (IsSentSo back) w.work.actions (action.Judged (judged.Answered (status_of verdict)) ∷ []) all (tt, tt))

  end_so : (how : TurnEnd) (trust : ℕ) (w : TrustWork) → HowFits how → AllKept w.queues.forwarded → AreSo w.work.actions → AreSo (end_turn how trust w).work.actions
  end_so turn_end.Half trust w fits kept all = all
  end_so turn_end.Opened trust w fits kept all = all
  end_so turn_end.Set trust w fits kept all = all
  end_so (turn_end.Answer place verdict) trust w fits kept all = found_so (lookup same_place (trust, place) w.queues.forwarded) (trust, place) verdict w refl fits kept all
  end_so (turn_end.Dropped place cause) trust w fits kept all =
      found_so (lookup same_place (trust, place) w.queues.forwarded) (trust, place) (Status no_logon_servers) w refl tt kept all

  closed_so : (closes : Option (ℕ × CloseCause)) (w : TrustWork) → AreSo w.work.actions → AreSo (close_ended closes w).work.actions
  closed_so None w all = all
  closed_so (Some closes) w all = all_join (IsSentSo back) w.work.actions (action.Close closes.0 closes.1 ∷ []) all (tt, tt)

  closed_kept : (closes : Option (ℕ × CloseCause)) (w : TrustWork) → AllKept w.queues.forwarded → AllKept (close_ended closes w).queues.forwarded
  closed_kept None w kept = kept
  closed_kept (Some closes) w kept = kept

  ended_so : (ended : Option TurnEnded) (trust : ℕ) (w : TrustWork) → EndFits ended → AllKept w.queues.forwarded → AreSo w.work.actions → AreSo (after_ended ended trust w).work.actions
  ended_so None trust w fits kept all = all
  ended_so (Some ended) trust w fits kept all =
      end_so ended.how trust (close_ended ended.closes w) fits (closed_kept ended.closes w kept) (closed_so ended.closes w all)

  -- ---- events for the turn

  -- a controller at work, before an event
  record Ready (parts : Parts) : Type 0 where
    range : InRangeParts parts
    sends : AreSo parts.work.work.actions
    kept : AllKept parts.work.queues.forwarded

  turned_so : (trust : ℕ) (turned : Turned) (parts : Parts) → InRangeTurned parts.work.work.actions turned → EndFits turned.1 → Ready parts → AreSo (after_turned trust turned parts).work.work.actions
  turned_so trust turned parts is fits ready =
      ended_so turned.1 trust (turned_work trust turned.0 parts.work) fits ready.kept
      (subst AreSo (sym is.adds.1) (all_join (IsSentSo back) parts.work.work.actions is.adds.0 ready.sends (all_so is.adds.0 is.adds.2)))

  turn_so : (found : Option Requester) (happens : Turning → Turned) (parts : Parts) → slice_get parts.work.queues.requesters parts.turn_of ≡ found → KeepsRange happens →
      ((turning : Turning) → turning.dialling ≡ parts.dialling → EndFits (happens turning).1) → Ready parts → AreSo (turn_at found happens parts).work.work.actions
  turn_so None happens parts is keeps fits ready = ready.sends
  turn_so (Some channel) happens parts is keeps fits ready =
      turned_so parts.turn_of (happens (turning_of channel parts)) parts
      (keeps (turning_of channel parts) (got_all _ parts.work.queues.requesters parts.turn_of channel ready.range.queues.requesters is, ready.range.bind)) (fits (turning_of channel parts) refl) ready

  on_so : (happens : Turning → Turned) (parts : Parts) → KeepsRange happens → ((turning : Turning) → turning.dialling ≡ parts.dialling → EndFits (happens turning).1) → Ready parts →
      AreSo (on_turn happens parts).work.work.actions
  on_so happens parts keeps fits ready = turn_so (slice_get parts.work.queues.requesters parts.turn_of) happens parts refl keeps fits ready

  -- ---- links that close, and dials

  line_left : (b : Bool) (line : Line) → back line.link ≡ true → LineSo (line_unless b line)
  line_left true line is = tt
  line_left false line is = is

  lines_left : (number : ℕ) (line : Option Line) → LineSo line → LineSo (line_without number line)
  lines_left number None is = tt
  lines_left number (Some line) is = line_left (line.link == number) line is

  line_range : (b : Bool) (line : Line) → IsLine line → IfThere IsLine (line_unless b line)
  line_range true line is = tt
  line_range false line is = is

  lines_range : (number : ℕ) (line : Option Line) → IfThere IsLine line → IfThere IsLine (line_without number line)
  lines_range number None is = tt
  lines_range number (Some line) is = line_range (line.link == number) line is

  kept_left : (number : ℕ) (calls : ForwardedCalls) → AllKept calls → AllKept (calls_without number calls)
  kept_left number [] all = tt
  kept_left number (entry ∷ calls) all = (
    (record { call = record { line = lines_range number entry.1.line all.0.0.call.line; level = all.0.0.call.level }; credential = all.0.0.credential }, lines_left number entry.1.line all.0.1),
    kept_left number calls all.1,
  )

  forwarded_range : (calls : ForwardedCalls) → AllKept calls → AreForwardedInRange calls
  forwarded_range [] all = tt
  forwarded_range (entry ∷ calls) all = (all.0.0, forwarded_range calls all.1)

  less_ready : (number : ℕ) (parts : Parts) → Ready parts → Ready (without_link number parts)
  less_ready number parts ready =
      let kept : AllKept (calls_without number parts.work.queues.forwarded) = kept_left number parts.work.queues.forwarded ready.kept in
      record {
        range = record { sends = ready.range.sends; queues = record { requesters = ready.range.queues.requesters; forwarded = forwarded_range _ kept }; bind = ready.range.bind };
        sends = ready.sends;
        kept = kept;
      }

  closes_so : (b : Bool) (number : ℕ) (parts : Parts) → Ready parts → AreSo (close_by b number parts).work.work.actions
  closes_so false number parts ready = ready.sends
  closes_so true number parts ready =
      on_so (λ turning. link_closes number turning) parts (λ turning range. closes_range (is_on number turning.dialling) turning range)
      (λ turning same. closes_fit (is_on number turning.dialling) turning) ready

  opens_so : (full : Bool) (number : ℕ) (parts : Parts) → AreSo parts.work.work.actions → AreSo (open_by full number parts).work.work.actions
  opens_so true number parts all = all_join (IsSentSo back) parts.work.work.actions (action.Close number close.TooManyLinks ∷ []) all (tt, tt)
  opens_so false number parts all = all

  dials_so : (waits : Bool) (number : ℕ) (parts : Parts) → Ready parts → AreSo (answer_dial waits number parts).work.work.actions
  dials_so false number parts ready = ready.sends
  dials_so true number parts ready =
      on_so (λ turning. (link_answers number turning, None)) (without_link number parts) (λ turning range. answers_range turning.dialling number turning refl range) (λ turning same. tt)
      (less_ready number parts ready)

  fails_so : (waits : Bool) (parts : Parts) → Ready parts → AreSo (fail_dial waits parts).work.work.actions
  fails_so false parts ready = ready.sends
  fails_so true parts ready =
      on_so (λ turning. no_dial turning) parts (λ turning range. fails_range turning.dialling turning range) (λ turning same. fails_fit turning.dialling turning) ready

-- ---- units on an accepted link: all that is sent is whole

module _ (name : List ℕ) (now : ℕ) (is_name : IsName name) (moment : now < 2 ^ 64) where
  call_desk : (c : JudgedCall) (line : Line) (d after : TrustDesk) → CallGoes c name now line d after → IsLine line → InRangeDesk (base_desk d) → InRangeDesk (base_desk after)
  call_desk c line d after (GoesOn there so) is fits = record {
    sends = subst AreWhole (sym so.actions) (both_whole d.work.work.actions _ fits.sends (tt, tt));
    table = subst InRangeTable (sym so.table) fits.table;
  }
  call_desk c line d after (IsLeft goes so) is fits =
      let key : List ℕ = key_of_channel goes.next.channel in
      record {
        sends = subst AreWhole (sym so.actions)
            (both_whole d.work.work.actions _ fits.sends (
              tt,
              (
                stub_whole line _ is
                    (passed_few (Status no_logon_servers) goes.validation key (return_of key goes.next.channel.seed goes.next.given.timestamp)
                    (cred_block key (next_seed goes.next.channel.seed goes.next.given.timestamp)) tt tt),
                tt,
              ),
            ));
        table = subst InRangeTable (sym so.table) fits.table;
      }
  call_desk c line d after (StaysHere not same) is fits =
      subst (λ (other : TrustDesk). InRangeDesk (base_desk other)) (sym same)
      (judged_in_range name now is_name moment line c (base_desk d) _ is fits (judged_comes c name now line (base_desk d)))

  abbrev PartWhole : ServedPart TrustDesk Talk → Type 0
  PartWhole (Err why) = Unit {0}
  PartWhole (Ok part) = InRangeDesk (base_desk part.value.0) × IfThere InRangeTalk part.value.1 × AreChallenges part.left

  beside_whole : (queues : Queues) (part : ServedPart Desk Talk) → InRangePart part → PartWhole (beside queues part)
  beside_whole queues (Err why) is = tt
  beside_whole queues (Ok part) is = is

  heard_whole : (h : Heard) (link : ℕ) (d : TrustDesk) (left : List (List ℕ)) → HeardFits link h → InRangePart (by_heard h link name now (base_desk d) left) → InRangeDesk (base_desk d) →
      AreChallenges left → PartWhole (by_trust_heard h link name now d left)
  heard_whole (heard.Close cause) link d left fits is desk eight = beside_whole d.work.queues (by_heard (heard.Close cause) link name now (base_desk d) left) is
  heard_whole (heard.Answer bytes talk) link d left fits is desk eight = beside_whole d.work.queues (by_heard (heard.Answer bytes talk) link name now (base_desk d) left) is
  heard_whole (heard.Waits talk) link d left fits is desk eight = beside_whole d.work.queues (by_heard (heard.Waits talk) link name now (base_desk d) left) is
  heard_whole (heard.Asked line (call.Challenge c) talk) link d left fits is desk eight =
      beside_whole d.work.queues (by_heard (heard.Asked line (call.Challenge c) talk) link name now (base_desk d) left) is
  heard_whole (heard.Asked line (call.Authenticate c) talk) link d left fits is desk eight =
      beside_whole d.work.queues (by_heard (heard.Asked line (call.Authenticate c) talk) link name now (base_desk d) left) is
  heard_whole (heard.Asked line (call.Judged c) talk) link d left fits is desk eight =
      (call_desk c line d (answer_trust_call c name now line d) (call_goes c name now line d) fits.0 desk, fits.1, eight)

  units_whole : (link : ℕ) → StaysServing (trust_server name now link) PartWhole
  units_whole link = record {
    spent = λ why. tt;
    unit = λ bytes d talk left is.
        heard_whole (hear link bytes talk) link d left (heard_fits link bytes talk is.1) (sends_are_whole.unit name now link bytes (base_desk d) talk left is_name moment is.0 is.1 is.2) is.0 is.2;
    refusal = λ why d talk left is. (record { sends = both_whole d.work.work.actions _ is.0.sends (tt, tt); table = is.0.table }, tt, is.2);
  }

-- ---- a step

module _ (back : ℕ → Bool) where
  abbrev EventSo : TrustPart → Type 0
  EventSo (Err why) = Unit {0}
  EventSo (Ok part) = AllByRecursion (IsSentSo back) part.value.parts.work.work.actions

  put_so : (open_link : Option (LinkState Talk)) (number : ℕ) (parts : Parts) → AllByRecursion (IsSentSo back) parts.work.work.actions →
      AllByRecursion (IsSentSo back) (put_open open_link number parts).work.work.actions
  put_so None number parts all = all
  put_so (Some link) number parts all = all

  module _ (name : List ℕ) (now : ℕ) (is_name : IsName name) (moment : now < 2 ^ 64) where
    units_so : (part : ServedPart TrustDesk Talk) (rest : List ℕ) (number : ℕ) (others : LinkMap) (parts : Parts) → PartWhole name now is_name moment part →
        EventSo (after_units part rest number others parts)
    units_so (Err why) rest number others parts is = tt
    units_so (Ok part) rest number others parts is =
        put_so (link_with rest part.value.1) number (record parts { work = part.value.0.work; links = others }) (all_so back part.value.0.work.work.actions is.0.sends)

    serve_so : (found : Option (LinkState Talk)) (number : ℕ) (piece : List ℕ) (others : LinkMap) (table : AccountTable) (parts : Parts) (left : List (List ℕ)) → parts.work.work.actions ≡ [] →
        InRangeTable table → IfThere (λ (link : LinkState Talk). InRangeTalk link.talk) found → AreChallenges left → EventSo (serve_on found number piece name now others table parts left)
    serve_so None number piece others table parts left bare range said eight = subst (AllByRecursion (IsSentSo back)) (sym bare) tt
    serve_so (Some link) number piece others table parts left bare range said eight =
        units_so (served_cut (trust_server name now number) (cut_stream (link.rest ++ piece)) (trust_desk table parts.work) link.talk left) (cut_stream (link.rest ++ piece)).rest number others parts
        (served_stays (trust_server name now number) (PartWhole name now is_name moment) (units_whole name now is_name moment number) (cut_stream (link.rest ++ piece)) (trust_desk table parts.work) link.talk left
        (record { sends = subst AreWhole (sym bare) tt; table = range }, said, eight))

    bytes_so : (b : Bool) (number : ℕ) (piece : List ℕ) (table : AccountTable) (parts : Parts) (left : List (List ℕ)) → AreBytes piece → TurnHasBytes parts.dialling → parts.work.work.actions ≡ [] →
        Ready back parts → InRangeTable table → InRangeLinks parts.links → AreChallenges left → EventSo (serve_bytes b number piece name now table parts left)
    bytes_so true number piece table parts left are has bare ready range links eight =
        on_so back (λ turning. link_hears number piece turning) parts (λ turning range. hears_range turning.dialling number piece turning range)
        (λ turning same. hears_fit turning.dialling number piece turning are (subst TurnHasBytes (sym same) has)) ready
    bytes_so false number piece table parts left are has bare ready range links eight =
        serve_so (lookup same_number number parts.links) number piece (take_out same_number number parts.links) table parts left bare range (found_said InRangeTalk number parts.links links) eight

    event_so : (what : Event) (table : AccountTable) (parts : Parts) (left : List (List ℕ)) → BringsBytes what → TurnHasBytes parts.dialling → parts.work.work.actions ≡ [] → Ready back parts →
        InRangeTable table → InRangeLinks parts.links → AreChallenges left → EventSo (by_trust_event what name now table parts left)
    event_so (event.Opened number) table parts left are has bare ready range links eight =
        opens_so back _ number (close_number number parts) (closes_so back (is_on number parts.dialling) number parts ready)
    event_so (event.Bytes number piece) table parts left are has bare ready range links eight = bytes_so (is_on number parts.dialling) number piece table parts left are has bare ready range links eight
    event_so (event.Closed number) table parts left are has bare ready range links eight = closes_so back (is_on number parts.dialling) number parts ready
    event_so (event.Dialled number) table parts left are has bare ready range links eight = dials_so back (is_waiting parts.dialling) number parts ready
    event_so event.DialFailed table parts left are has bare ready range links eight = fails_so back (is_waiting parts.dialling) parts ready
    event_so event.Stop table parts left are has bare ready range links eight = ready.sends

  abbrev NextSo : Result (Part Parts) StepRefused → Type 0
  NextSo (Err why) = Unit {0}
  NextSo (Ok part) = AllByRecursion (IsSentSo back) part.value.work.work.actions

  dialled_so : (start : Option (Unit {0} × List (List ℕ))) (peer : List ℕ) (turning : Turning) → AllByRecursion (IsSentSo back) turning.actions →
      AllByRecursion (IsSentSo back) (dial_for start peer turning).actions
  dialled_so None peer turning all = all
  dialled_so (Some start) peer turning all = all_join (IsSentSo back) turning.actions (action.Dial peer ∷ []) all (tt, tt)

  begun_so : (next : Result (Part NextTurn) StepRefused) (peer : List ℕ) (channel : Requester) (trust : ℕ) (parts : Parts) → AllByRecursion (IsSentSo back) parts.work.work.actions →
      NextSo (then_part (then_part next (dial_part peer (turning_of channel parts))) (λ turning rest. next_part (after_turned trust (turning, None) parts) rest))
  begun_so (Err why) peer channel trust parts all = tt
  begun_so (Ok part) peer channel trust parts all = dialled_so part.value.1 peer (record (turning_of channel parts) { channel = part.value.0 }) all

  start_so : (found : Option Requester) (entry : Option Trust) (trust now : ℕ) (parts : Parts) (left : List (List ℕ)) → AllByRecursion (IsSentSo back) parts.work.work.actions →
      NextSo (start_on found entry trust now parts left)
  start_so None entry trust now parts left all = all
  start_so (Some channel) None trust now parts left all = all
  start_so (Some channel) (Some entry) trust now parts left all = begun_so (channel_turn now channel left) entry.address channel trust parts all

  at_so : (first : Option ℕ) (trusts : List Trust) (now : ℕ) (parts : Parts) (left : List (List ℕ)) → AllByRecursion (IsSentSo back) parts.work.work.actions → NextSo (start_at first trusts now parts left)
  at_so None trusts now parts left all = all
  at_so (Some trust) trusts now parts left all = start_so _ _ trust now parts left all

  next_so : (idle : Bool) (trusts : List Trust) (now : ℕ) (parts : Parts) (left : List (List ℕ)) → AllByRecursion (IsSentSo back) parts.work.work.actions → NextSo (next_if idle trusts now parts left)
  next_so false trusts now parts left all = all
  next_so true trusts now parts left all = at_so (first_waiting parts.work.queues.requesters) trusts now parts left all

  with_table : (part : Result (Part Parts) StepRefused) (table : AccountTable) → NextSo part → EventSo (then_part part (λ later last. trust_part table later last))
  with_table (Err why) table all = tt
  with_table (Ok part) table all = all

  turn_behind : (part : TrustPart) (trusts : List Trust) (now : ℕ) → EventSo part →
      EventSo (then_part part (λ after rest. then_part (next_turn trusts now after.parts rest) (λ later last. trust_part after.table later last)))
  turn_behind (Err why) trusts now all = tt
  turn_behind (Ok part) trusts now all =
      with_table (next_turn trusts now part.value.parts part.left) part.value.table (next_so (is_idle part.value.parts.dialling) trusts now part.value.parts part.left all)

  taken_so : (part : TrustPart) (c : ControllerState) (left : List (List ℕ)) → EventSo part →
      AllByRecursion (IsSentSo back) (actions_of (step_by (λ (after : TrustParts). after.parts.work.work.actions) (λ after. trust_state_after c after) (trust_halted c) left part))
  taken_so (Err why) c left all = tt
  taken_so (Ok part) c left all = all

  kept_so : (calls : ForwardedCalls) → AreForwardedInRange calls → AreLinesSo back calls → AllKept back calls
  kept_so [] range lines = tt
  kept_so (entry ∷ calls) range lines = ((range.0, lines.0), kept_so calls range.1 lines.1)

  on_sends : (found : Option Running) (c : ControllerState) (what : Event) (now : ℕ) (left : List (List ℕ)) → c.running ≡ found → BringsBytes what → TurnHasBytes c.trusting.dialling →
      AreLinesSo back c.trusting.queues.forwarded → InRangeTrustState c → now < 2 ^ 64 → AreChallenges left → AllByRecursion (IsSentSo back) (actions_of (trust_step_on found c what now left))
  on_sends None c what now left is are has lines range moment eight = tt
  on_sends (Some running) c what now left is are has lines range moment eight =
      let parts : Parts = parts_of running c.trusting in
      let ready : Ready back parts = record {
        range = record { sends = tt; queues = range.trusting.queues; bind = range.trusting.bind };
        sends = tt;
        kept = kept_so c.trusting.queues.forwarded range.trusting.queues.forwarded lines;
      } in
      taken_so (event_and_turn c.table.trusts what c.name now c.table parts left) c left
      (turn_behind (by_trust_event what c.name now c.table parts left) c.table.trusts now
      (event_so c.name now range.base.name moment what c.table parts left are has refl ready range.base.table (subst InRangeRunning is range.base.running) eight))

  pub sends_so : (c : ControllerState) (what : Event) (now : ℕ) (left : List (List ℕ)) → BringsBytes what → TurnHasBytes c.trusting.dialling → AreLinesSo back c.trusting.queues.forwarded →
      InRangeTrustState c → now < 2 ^ 64 → AreChallenges left → AllByRecursion (IsSentSo back) (actions_of (trust_step_of c what now left))
  sends_so c what now left are has lines range moment eight = on_sends c.running c what now left refl are has lines range moment eight
