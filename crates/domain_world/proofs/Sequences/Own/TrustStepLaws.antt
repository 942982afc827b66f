-- One step of a controller keeps what is known of each that asks there for a trust, and of its turns.
-- It serves `Proved.own`.
use Rattle.std.proofs.Common.{◌≡◌, ℕ, ◌+◌, ◌==◌, Bool, true, false, List, [], ◌∷◌, ◌++◌, length, nat_le, replicate, Option, Some, None, Result, Ok, Err, slice_get, slice_set, refl, sym, ap, subst, ◌∙◌, arith}
use Rattle.std.proofs.lemmas.Bool.Decides.{Decides-eqb}
use Rattle.std.proofs.lemmas.Bool.{false_from_ne_true}
use Rattle.outside.specs.Drawing.{IsRest, draws_between}
use Rattle.outside.specs.Machine.{Part, left_by, step_by, then_part}
use Rattle.outside.specs.declared.action.StepRefused.{StepRefused}
use Rattle.outside.specs.declared.event.Event.{Event}
use Rattle.outside.specs.declared.event.Event.TheVariants as event
use Rattle.rpc_units.specs.Stream.{cut_stream}
use Rattle.end_links.specs.Links.{LinkState}
use Rattle.end_links.specs.Serving.{ServedPart, served_cut}
use Rattle.wire_base.specs.Maps.{lookup, same_number, take_out}
use Rattle.wire_base.proofs.ListLaws.{no_some}
use Rattle.logon_stubs.specs.declared.info.NetworkInfo.{NetworkInfo}
use Rattle.account_table.specs.AccountTable.{AccountTable}
use Rattle.account_table.specs.declared.account.Trust.{Trust}
use Rattle.authenticators.specs.Timestamps.{timestamp_of}
use Rattle.channel_client.specs.Effects.{IsCoherent, view_of}
use Rattle.channel_client.specs.Machine.{ask_by, ask_of, can_start, lose_of, needs_challenge, start_by, start_of, take_of, waiting_limit}
use Rattle.channel_client.specs.State.{Requester}
use Rattle.channel_client.proofs.EffectLaws.{steps_have_effects}
use Rattle.channel_client.specs.declared.state.Pending.{Pending}
use Rattle.channel_client.specs.declared.state.Waiting.{Waiting}
use Rattle.channel_events.specs.Requests.{IsDrawn}
use Rattle.channel_turns.specs.Dials.{next_by}
use Rattle.channel_turns.specs.Turning.{dial_for, dial_part, is_on}
use Rattle.channel_turns.specs.declared.state.Dialling.{Dialling}
use Rattle.domain_controller.specs.State.{State as ControllerState}
use Rattle.domain_controller.specs.Forwarding.{TrustDesk, trust_desk, trust_server}
use Rattle.domain_controller.specs.Step.{LinkMap}
use Rattle.domain_controller.specs.TrustStep.{TrustPart, TrustParts, after_turned, after_units, by_trust_event, close_by, close_number, event_and_turn, first_waiting, is_idle, link_with, next_if, next_part, next_turn, open_by, parts_of, put_open, serve_bytes, serve_on, start_at, start_on, trust_halted, trust_part, trust_state_after, trust_step_on, turning_of}
use Rattle.domain_controller.specs.declared.state.Running.{Running}
use Rattle.domain_controller.specs.declared.trusting.Parts.{Parts}
use Rattle.domain_controller.specs.declared.state.Talk.{Talk}
use Rattle.domain_controller.specs.declared.trusting.Trusting.{Trusting}
use Rattle.member_server.specs.Dials.{IsNoAnswer, IsWaiting, dials_in}
use Rattle.member_server.specs.Laws.{Asks, Loses, Takes}
use Rattle.step_notes.specs.MemberNotes.{turn_of}
use Rattle.step_notes.specs.Records.{ChannelTurn, OfTrust}
use Rattle.world_moves.specs.Ends.{actions_by}
use Rattle.domain_world.specs.Accepting.SeenSteps.{Differ}
use Rattle.domain_world.proofs.Calls.StepApartLaws.{fresh_last}
use Rattle.domain_world.proofs.Frames.EveryStepLaws.{event_rest}
use Rattle.domain_world.proofs.Messages.MessageOnceLaws.{each_put}
use Rattle.domain_world.proofs.Moves.TrustAskerLaws.{EachFits, KeepsAsked, KeepsHeard, StepFits, event_fits, waits_fits}
use Rattle.domain_world.proofs.Sequences.Own.OwnTurnLaws.{AreDrawn, drawn_between, mine, no_times, one_drawn, one_time, times}
use Rattle.domain_world.proofs.Sequences.SeedTurnLaws.{Turned, comes_so, drawn_still, starts_so, turned_later}
use Rattle.domain_world.proofs.Sequences.TrustDialLaws.{PartDials, PartWaits, event_dials, event_waits, one_dial, waits_busy, waits_off}

-- ---- what is known

abbrev pub dialled : (is_its_turn : Bool) → ℕ → ℕ
dialled false count = 0
dialled true count = count

-- Of who asks for that trust, by the controller that it asks, the trust for which a turn is out, and how many dials of
-- its controller this move gave: its turns are those that are written down, and behind them the one that started.
pub record AskerTurned (at : ℕ) (asked : ℕ → ℕ) (turn count : ℕ) (drawn : List (List ℕ)) (turns : List ChannelTurn) (trust : ℕ) (s : Requester) : Type 0 where
  pub coherent : IsCoherent s
  pub turned : Turned (view_of (asked trust) s) (mine (OfTrust at trust) turns ++ times (dialled (trust == turn) count) (turn_of (asked trust) (OfTrust at trust) s)) drawn

abbrev pub EachTurned : (at : ℕ) (asked : ℕ → ℕ) (turn count : ℕ) (drawn : List (List ℕ)) (turns : List ChannelTurn) → List Requester → Type 0
EachTurned at asked turn count drawn turns requesters = EachFits (λ (trust : ℕ) (s : Requester). AskerTurned at asked turn count drawn turns trust s) requesters

pub none_dialled : (its : Bool) (count : ℕ) → count ≡ 0 → dialled its count ≡ 0
none_dialled false count none = refl
none_dialled true count none = none

ask_turn : (full : Bool) (controller at trust : ℕ) (s : Requester) (info : NetworkInfo) →
    turn_of controller (OfTrust at trust) (ask_by full s info).state ≡ turn_of controller (OfTrust at trust) s
ask_turn true controller at trust s info = refl
ask_turn false controller at trust s info = refl

module _ (at : ℕ) (asked : ℕ → ℕ) (drawn : List (List ℕ)) (turns : List ChannelTurn) where
  -- no turn of its started in this move
  record IsFree (trust : ℕ) (s : Requester) : Type 0 where
    coherent : IsCoherent s
    turned : Turned (view_of (asked trust) s) (mine (OfTrust at trust) turns) drawn

  free_from : (turn count trust : ℕ) (s : Requester) → count ≡ 0 → AskerTurned at asked turn count drawn turns trust s → IsFree trust s
  free_from turn count trust s none known = record {
    coherent = known.coherent;
    turned = subst (λ (all : List ChannelTurn). Turned (view_of (asked trust) s) all drawn)
        (no_times (dialled (trust == turn) count) (turn_of (asked trust) (OfTrust at trust) s) (mine (OfTrust at trust) turns) (none_dialled (trust == turn) count none)) known.turned;
  }

  turned_from : (turn count trust : ℕ) (s : Requester) → dialled (trust == turn) count ≡ 0 → IsFree trust s → AskerTurned at asked turn count drawn turns trust s
  turned_from turn count trust s none free = record {
    coherent = free.coherent;
    turned = subst (λ (all : List ChannelTurn). Turned (view_of (asked trust) s) all drawn)
        (sym (no_times (dialled (trust == turn) count) (turn_of (asked trust) (OfTrust at trust) s) (mine (OfTrust at trust) turns) none)) free.turned;
  }

  free_keeps : KeepsHeard IsFree
  free_keeps = record {
    asks = λ trust s info free.
        let after = comes_so (mine (OfTrust at trust) turns) drawn (asked trust) s (ask_of s info).state (record { doings = Asks info ∷ []; none = (tt, tt); is = refl }) free.coherent free.turned in
        record { coherent = after.0; turned = after.1 };
    takes = λ trust s unit free.
        let after = comes_so (mine (OfTrust at trust) turns) drawn (asked trust) s (take_of s unit).state (record { doings = Takes unit ∷ []; none = (tt, tt); is = refl }) free.coherent free.turned in
        record { coherent = after.0; turned = after.1 };
    loses = λ trust s free.
        let after = comes_so (mine (OfTrust at trust) turns) drawn (asked trust) s (lose_of s).state (record { doings = Loses ∷ []; none = (tt, tt); is = refl }) free.coherent free.turned in
        record { coherent = after.0; turned = after.1 };
  }

  -- a logon that is asked changes no turn
  turned_keeps : (turn count : ℕ) → KeepsAsked (λ (trust : ℕ) (s : Requester). AskerTurned at asked turn count drawn turns trust s)
  turned_keeps turn count trust s info known =
      let t : Requester = (ask_of s info).state in
      let controller : ℕ = asked trust in
      let all : List ChannelTurn = mine (OfTrust at trust) turns ++ times (dialled (trust == turn) count) (turn_of controller (OfTrust at trust) s) in
      let comes = comes_so all drawn controller s t (record { doings = Asks info ∷ []; none = (tt, tt); is = refl }) known.coherent known.turned in
      record {
        coherent = comes.0;
        turned = subst (λ (own : List ChannelTurn). Turned (view_of controller t) (mine (OfTrust at trust) turns ++ times (dialled (trust == turn) count) own) drawn)
            (sym (ask_turn (nat_le waiting_limit (length s.waiting)) controller at trust s info)) comes.1;
      }

-- more may be drawn
pub each_later : (at : ℕ) (asked : ℕ → ℕ) (turn count : ℕ) (drawn later : List (List ℕ)) (turns : List ChannelTurn) (requesters : List Requester) →
    ((challenge : List ℕ) → IsDrawn challenge drawn → IsDrawn challenge later) → EachTurned at asked turn count drawn turns requesters → EachTurned at asked turn count later turns requesters
each_later at asked turn count drawn later turns requesters still each = λ trust s there.
    let known = each trust s there in
    record { coherent = known.coherent; turned = turned_later (view_of (asked trust) s) _ drawn later still known.turned }

-- ---- the next turn

-- what is known once an event came, and the next turn started, or none: as many dials were made as turns started
record NextTurned (at : ℕ) (asked : ℕ → ℕ) (drawn : List (List ℕ)) (turns : List ChannelTurn) (before parts : Parts) (count : ℕ) : Type 0 where
  made : dials_in parts.work.work.actions ≡ dials_in before.work.work.actions + count
  each : EachTurned at asked parts.turn_of count drawn turns parts.work.queues.requesters

plus_none : (n : ℕ) → n ≡ n + 0
plus_none n = omega arith

-- a turn can start, and so it does
record HasStart (start : Option (Unit {0} × List (List ℕ))) : Type 0 where
  its : Unit {0} × List (List ℕ)
  is : start ≡ Some its

can_begin : (turn : Option Pending) (waiting : List Waiting) (s : Requester) (timestamp : ℕ) (challenge : List ℕ) → can_start turn waiting ≡ true →
    HasStart (start_by turn waiting s timestamp challenge).answer
can_begin (Some pending) waiting s timestamp challenge can = absurd (let x = can in cc)
can_begin None [] s timestamp challenge can = absurd (let x = can in cc)
can_begin None (logon ∷ logons) s timestamp challenge can = record { its = _; is = refl }

-- it is dialled
dialled_next : (start : Option (Unit {0} × List (List ℕ))) (has : HasStart start) (at : ℕ) (asked : ℕ → ℕ) (later : List (List ℕ)) (turns : List ChannelTurn) (peer : List ℕ) (channel new : Requester)
    (trust : ℕ) (parts : Parts) → EachTurned at asked trust 1 later turns (slice_set parts.work.queues.requesters trust new) →
    NextTurned at asked later turns parts (after_turned trust (dial_for start peer (record (turning_of channel parts) { channel = new }), None) parts) 1
dialled_next None has at asked later turns peer channel new trust parts each = absurd (no_some has.its has.is)
dialled_next (Some start) has at asked later turns peer channel new trust parts each = record { made = one_dial peer parts.work.work.actions; each = each }

module _ (at : ℕ) (asked : ℕ → ℕ) (drawn : List (List ℕ)) (turns : List ChannelTurn) (all_drawn : (trust : ℕ) → AreDrawn drawn (mine (OfTrust at trust) turns)) where
  abbrev EachFree : List Requester → Type 0
  EachFree requesters = EachFits (IsFree at asked drawn turns) requesters

  -- what comes of the next turn, where so many challenges were left at first and before it
  abbrev Next : Parts → List (List ℕ) → Result (Part Parts) StepRefused → Type 0
  Next before left (Err why) = Unit {0}
  Next before left (Ok part) =
      Differ (drawn ++ draws_between left part.left) → (count : ℕ) × NextTurned at asked (drawn ++ draws_between left part.left) turns before part.value count

  still : (more : List (List ℕ)) (challenge : List ℕ) → IsDrawn challenge drawn → IsDrawn challenge (drawn ++ more)
  still more challenge is = drawn_still challenge drawn more is

  each_free : (turn : ℕ) (more : List (List ℕ)) (requesters : List Requester) → EachFree requesters → EachTurned at asked turn 0 (drawn ++ more) turns requesters
  each_free turn more requesters free =
      each_later at asked turn 0 drawn (drawn ++ more) turns requesters (still more)
      (λ trust s there. turned_from at asked drawn turns turn 0 trust s (none_dialled (trust == turn) 0 refl) (free trust s there))

  none_starts : (parts : Parts) (left after : List (List ℕ)) → EachFree parts.work.queues.requesters →
      (count : ℕ) × NextTurned at asked (drawn ++ draws_between left after) turns parts parts count
  none_starts parts left after free = (0, record { made = plus_none (dials_in parts.work.work.actions); each = each_free parts.turn_of (draws_between left after) parts.work.queues.requesters free })

  -- the requester of that trust took its turn, and the others none
  one_starts : (trust : ℕ) (later : List (List ℕ)) (requesters : List Requester) (new : Requester) → ((challenge : List ℕ) → IsDrawn challenge drawn → IsDrawn challenge later) →
      EachFree requesters → IsCoherent new → Turned (view_of (asked trust) new) (mine (OfTrust at trust) turns ++ turn_of (asked trust) (OfTrust at trust) new) later →
      EachTurned at asked trust 1 later turns (slice_set requesters trust new)
  one_starts trust later requesters new on free coherent turned =
      each_put (λ (k : ℕ) (s : Requester). AskerTurned at asked trust 1 later turns k s) requesters trust new
      (λ k s differs there.
      let was : AskerTurned at asked trust 1 drawn turns k s =
      turned_from at asked drawn turns trust 1 k s (ap (λ (its : Bool). dialled its 1) (false_from_ne_true (k == trust) (λ is. differs ((Decides-eqb k trust).0 is)))) (free k s there) in
      record { coherent = was.coherent; turned = turned_later (view_of (asked k) s) _ drawn later on was.turned })
      (record {
        coherent = coherent;
        turned = subst (λ (all : List ChannelTurn). Turned (view_of (asked trust) new) all later)
            (sym (one_time (dialled (trust == trust) 1) (turn_of (asked trust) (OfTrust at trust) new) (mine (OfTrust at trust) turns)
            (ap (λ (its : Bool). dialled its 1) ((Decides-eqb trust trust).1 refl)))) turned;
      })

  -- the one that could start next, and whether it draws a challenge
  begun_by : (can needs : Bool) (now : ℕ) (peer : List ℕ) (channel : Requester) (trust : ℕ) (parts : Parts) (left mid : List (List ℕ)) → can_start channel.turn channel.waiting ≡ can →
      needs_challenge channel.standing ≡ needs → slice_get parts.work.queues.requesters trust ≡ Some channel → IsRest mid left → EachFree parts.work.queues.requesters →
      Next parts left (then_part (then_part (next_by can needs now channel mid) (dial_part peer (turning_of channel parts))) (λ turning rest. next_part (after_turned trust (turning, None) parts) rest))
  begun_by false needs now peer channel trust parts left mid can need there rest free = λ differ. (
    0,
    record {
      made = plus_none (dials_in parts.work.work.actions);
      each = each_put (λ (k : ℕ) (s : Requester). AskerTurned at asked trust 0 (drawn ++ draws_between left mid) turns k s) parts.work.queues.requesters trust channel
          (λ k s differs got. each_free trust (draws_between left mid) parts.work.queues.requesters free k s got)
          (each_free trust (draws_between left mid) parts.work.queues.requesters free trust channel there);
    },
  )
  begun_by true false now peer channel trust parts left mid can need there rest free = λ differ.
      let was : IsFree at asked drawn turns trust channel = free trust channel there in
      let started = steps_have_effects.start (asked trust) channel (timestamp_of now) (replicate 8 0) was.coherent in
      let new : Requester = (start_of channel (timestamp_of now) (replicate 8 0)).state in (
        1,
        dialled_next (start_of channel (timestamp_of now) (replicate 8 0)).answer (can_begin channel.turn channel.waiting channel (timestamp_of now) (replicate 8 0) can) at asked
            (drawn ++ draws_between left mid) turns peer channel new trust parts
            (one_starts trust (drawn ++ draws_between left mid) parts.work.queues.requesters new (still (draws_between left mid)) free started.1
            (turned_later (view_of (asked trust) new) _ drawn (drawn ++ draws_between left mid) (still (draws_between left mid))
            (starts_so (mine (OfTrust at trust) turns) drawn (asked trust) (OfTrust at trust) (timestamp_of now) (replicate 8 0) false channel can need tt (all_drawn trust) was.coherent was.turned))),
      )
  begun_by true true now peer channel trust parts left [] can need there rest free = tt
  begun_by true true now peer channel trust parts left (challenge ∷ after) can need there rest free = λ differ.
      let was : IsFree at asked drawn turns trust channel = free trust channel there in
      let started = steps_have_effects.start (asked trust) channel (timestamp_of now) challenge was.coherent in
      let new : Requester = (start_of channel (timestamp_of now) challenge).state in
      let all : List (List ℕ) = drawn ++ draws_between left after in
      let same : all ≡ (drawn ++ rest.front) ++ challenge ∷ [] = one_drawn drawn left (challenge ∷ after) after rest challenge refl in
      let fresh : IsDrawn challenge (drawn ++ rest.front) → ⊥ = fresh_last (drawn ++ rest.front) challenge (subst Differ same differ) in (
        1,
        dialled_next (start_of channel (timestamp_of now) challenge).answer (can_begin channel.turn channel.waiting channel (timestamp_of now) challenge can) at asked all turns peer channel new
            trust parts
            (one_starts trust all parts.work.queues.requesters new (still (draws_between left after)) free started.1
            (turned_later (view_of (asked trust) new) _ (drawn ++ challenge ∷ []) all (λ one is. subst (IsDrawn one) (sym same) (drawn_between one drawn rest.front challenge is))
            (starts_so (mine (OfTrust at trust) turns) drawn (asked trust) (OfTrust at trust) (timestamp_of now) challenge true channel can need
            (λ is. fresh (drawn_still challenge drawn rest.front is)) (all_drawn trust) was.coherent was.turned))),
      )

  entry_by : (found : Option Requester) (entry : Option Trust) (trust now : ℕ) (parts : Parts) (left mid : List (List ℕ)) → slice_get parts.work.queues.requesters trust ≡ found →
      IsRest mid left → EachFree parts.work.queues.requesters → Next parts left (start_on found entry trust now parts mid)
  entry_by None entry trust now parts left mid there rest free = λ differ. none_starts parts left mid free
  entry_by (Some channel) None trust now parts left mid there rest free = λ differ. none_starts parts left mid free
  entry_by (Some channel) (Some entry) trust now parts left mid there rest free =
      begun_by (can_start channel.turn channel.waiting) (needs_challenge channel.standing) now entry.address channel trust parts left mid refl refl there rest free

  first_by : (first : Option ℕ) (trusts : List Trust) (now : ℕ) (parts : Parts) (left mid : List (List ℕ)) → IsRest mid left → EachFree parts.work.queues.requesters →
      Next parts left (start_at first trusts now parts mid)
  first_by None trusts now parts left mid rest free = λ differ. none_starts parts left mid free
  first_by (Some trust) trusts now parts left mid rest free =
      entry_by (slice_get parts.work.queues.requesters trust) (slice_get trusts trust) trust now parts left mid refl rest free

  idle_by : (idle : Bool) (trusts : List Trust) (now : ℕ) (parts : Parts) (left mid : List (List ℕ)) → IsRest mid left → EachFree parts.work.queues.requesters →
      Next parts left (next_if idle trusts now parts mid)
  idle_by false trusts now parts left mid rest free = λ differ. none_starts parts left mid free
  idle_by true trusts now parts left mid rest free = first_by (first_waiting parts.work.queues.requesters) trusts now parts left mid rest free

  -- ---- a step that starts in a state in which no dial waits

  abbrev FreePart : List (List ℕ) → TrustPart → Type 0
  FreePart left (Err why) = Unit {0}
  FreePart left (Ok part) =
      Differ (drawn ++ draws_between left part.left) →
      EachTurned at asked part.value.parts.turn_of (dials_in part.value.parts.work.work.actions) (drawn ++ draws_between left part.left) turns part.value.parts.work.queues.requesters

  with_table : (next : Result (Part Parts) StepRefused) (table : AccountTable) (before : Parts) (left : List (List ℕ)) → dials_in before.work.work.actions ≡ 0 → Next before left next →
      FreePart left (then_part next (λ later last. trust_part table later last))
  with_table (Err why) table before left none next = tt
  with_table (Ok part) table before left none next = λ differ.
      let known = next differ in
      subst (λ (count : ℕ). EachTurned at asked part.value.turn_of count (drawn ++ draws_between left part.left) turns part.value.work.queues.requesters)
      (let same : dials_in part.value.work.work.actions ≡ known.0 = omega (arith, known.1.made, none) in sym same) known.1.each

  free_behind : (part : TrustPart) (trusts : List Trust) (now : ℕ) (left : List (List ℕ)) → IsRest (left_by part) left → PartDials 0 part → StepFits (IsFree at asked drawn turns) part →
      FreePart left (then_part part (λ after rest. then_part (next_turn trusts now after.parts rest) (λ later last. trust_part after.table later last)))
  free_behind (Err why) trusts now left rest none free = tt
  free_behind (Ok part) trusts now left rest none free =
      with_table (next_turn trusts now part.value.parts part.left) part.value.table part.value.parts left none
      (idle_by (is_idle part.value.parts.dialling) trusts now part.value.parts left part.left rest free)

  pub free_part : (what : Event) (name : List ℕ) (now : ℕ) (trusts : List Trust) (table : AccountTable) (parts : Parts) (left : List (List ℕ)) → dials_in parts.work.work.actions ≡ 0 →
      EachTurned at asked parts.turn_of 0 drawn turns parts.work.queues.requesters → FreePart left (event_and_turn trusts what name now table parts left)
  free_part what name now trusts table parts left none each =
      free_behind (by_trust_event what name now table parts left) trusts now left (event_rest what name now table parts left)
      (none_more (by_trust_event what name now table parts left) none (event_dials what name now table parts left))
      (event_fits (IsFree at asked drawn turns) (free_keeps at asked drawn turns) what name now table parts left
      (λ trust s there. free_from at asked drawn turns parts.turn_of 0 trust s refl (each trust s there)))
    where
      none_more : (part : TrustPart) → dials_in parts.work.work.actions ≡ 0 → PartDials (dials_in parts.work.work.actions) part → PartDials 0 part
      none_more (Err why) none same = tt
      none_more (Ok part) none same = same ∙ none

-- ---- a step while the dial waits

abbrev SameTurn : ℕ → TrustPart → Type 0
SameTurn turn (Err why) = Unit {0}
SameTurn turn (Ok part) = part.value.parts.turn_of ≡ turn

closed_turn : (b : Bool) (number : ℕ) (parts : Parts) → b ≡ false → (close_by b number parts).turn_of ≡ parts.turn_of
closed_turn false number parts off = refl
closed_turn true number parts off = absurd (let x = off in cc)

opened_turn : (full : Bool) (number : ℕ) (parts : Parts) → (open_by full number parts).turn_of ≡ parts.turn_of
opened_turn true number parts = refl
opened_turn false number parts = refl

put_turn : (open_link : Option (LinkState Talk)) (number : ℕ) (parts : Parts) → (put_open open_link number parts).turn_of ≡ parts.turn_of
put_turn None number parts = refl
put_turn (Some link) number parts = refl

units_turn : (part : ServedPart TrustDesk Talk) (rest : List ℕ) (number : ℕ) (others : LinkMap) (parts : Parts) → SameTurn parts.turn_of (after_units part rest number others parts)
units_turn (Err why) rest number others parts = tt
units_turn (Ok part) rest number others parts = put_turn (link_with rest part.value.1) number (record parts { work = part.value.0.work; links = others })

served_turn : (found : Option (LinkState Talk)) (number : ℕ) (piece name : List ℕ) (now : ℕ) (others : LinkMap) (table : AccountTable) (parts : Parts) (left : List (List ℕ)) →
    SameTurn parts.turn_of (serve_on found number piece name now others table parts left)
served_turn None number piece name now others table parts left = refl
served_turn (Some link) number piece name now others table parts left =
    units_turn (served_cut (trust_server name now number) (cut_stream (link.rest ++ piece)) (trust_desk table parts.work) link.talk left) (cut_stream (link.rest ++ piece)).rest number others parts

bytes_turn : (b : Bool) (number : ℕ) (piece name : List ℕ) (now : ℕ) (table : AccountTable) (parts : Parts) (left : List (List ℕ)) → b ≡ false →
    SameTurn parts.turn_of (serve_bytes b number piece name now table parts left)
bytes_turn true number piece name now table parts left off = absurd (let x = off in cc)
bytes_turn false number piece name now table parts left off =
    served_turn (lookup same_number number parts.links) number piece name now (take_out same_number number parts.links) table parts left

event_turn : (what : Event) (name : List ℕ) (now : ℕ) (table : AccountTable) (parts : Parts) (left : List (List ℕ)) → IsNoAnswer what → IsWaiting parts.dialling →
    SameTurn parts.turn_of (by_trust_event what name now table parts left)
event_turn (event.Opened number) name now table parts left none waits =
    opened_turn _ number (close_number number parts) ∙ closed_turn (is_on number parts.dialling) number parts (waits_off number parts.dialling waits)
event_turn (event.Bytes number piece) name now table parts left none waits =
    bytes_turn (is_on number parts.dialling) number piece name now table parts left (waits_off number parts.dialling waits)
event_turn (event.Closed number) name now table parts left none waits = closed_turn (is_on number parts.dialling) number parts (waits_off number parts.dialling waits)
event_turn (event.Dialled number) name now table parts left none waits = absurd none
event_turn event.DialFailed name now table parts left none waits = absurd none
event_turn event.Stop name now table parts left none waits = refl

next_still : (P : Result (Part Parts) StepRefused → Type 0) (idle : Bool) (trusts : List Trust) (now : ℕ) (parts : Parts) (left : List (List ℕ)) → idle ≡ false → P (next_part parts left) →
    P (next_if idle trusts now parts left)
next_still P false trusts now parts left busy holds = holds
next_still P true trusts now parts left busy holds = absurd (let x = busy in cc)

module _ (at : ℕ) (asked : ℕ → ℕ) (count : ℕ) (drawn : List (List ℕ)) (turns : List ChannelTurn) where
  abbrev WaitsPart : TrustPart → Type 0
  WaitsPart (Err why) = Unit {0}
  WaitsPart (Ok part) = EachTurned at asked part.value.parts.turn_of count drawn turns part.value.parts.work.queues.requesters

  waits_behind : (part : TrustPart) (trusts : List Trust) (now turn : ℕ) (how : Dialling) → IsWaiting how → PartWaits how part → SameTurn turn part →
      StepFits (λ (trust : ℕ) (s : Requester). AskerTurned at asked turn count drawn turns trust s) part →
      WaitsPart (then_part part (λ after rest. then_part (next_turn trusts now after.parts rest) (λ later last. trust_part after.table later last)))
  waits_behind (Err why) trusts now turn how waits is same each = tt
  waits_behind (Ok part) trusts now turn how waits is same each =
      next_still (λ (next : Result (Part Parts) StepRefused). WaitsPart (then_part next (λ later last. trust_part part.value.table later last)))
      (is_idle part.value.parts.dialling) trusts now part.value.parts part.left (ap is_idle is ∙ waits_busy how waits)
      (subst (λ (one : ℕ). EachTurned at asked one count drawn turns part.value.parts.work.queues.requesters) (sym same) each)

  waits_part : (what : Event) (name : List ℕ) (now : ℕ) (trusts : List Trust) (table : AccountTable) (parts : Parts) (left : List (List ℕ)) → IsNoAnswer what → IsWaiting parts.dialling →
      EachTurned at asked parts.turn_of count drawn turns parts.work.queues.requesters → WaitsPart (event_and_turn trusts what name now table parts left)
  waits_part what name now trusts table parts left none waits each =
      waits_behind (by_trust_event what name now table parts left) trusts now parts.turn_of parts.dialling waits (event_waits what name now table parts left none waits)
      (event_turn what name now table parts left none waits)
      (waits_fits (λ (trust : ℕ) (s : Requester). AskerTurned at asked parts.turn_of count drawn turns trust s) (turned_keeps at asked drawn turns parts.turn_of count) what name now table parts left
      none waits each)

-- ---- a step

-- of a controller that stopped nothing is known
abbrev pub AskersIf : (at : ℕ) (asked : ℕ → ℕ) (count : ℕ) (drawn : List (List ℕ)) (turns : List ChannelTurn) → Option Running → Trusting → Type 0
AskersIf at asked count drawn turns None t = Unit {0}
AskersIf at asked count drawn turns (Some running) t = EachTurned at asked t.turn_of count drawn turns t.queues.requesters

module _ (at : ℕ) (asked : ℕ → ℕ) (drawn : List (List ℕ)) (turns : List ChannelTurn) where
  waits_taken : (part : TrustPart) (count : ℕ) (s : ControllerState) (left : List (List ℕ)) → WaitsPart at asked count drawn turns part →
      let step = step_by (λ (after : TrustParts). after.parts.work.work.actions) (λ after. trust_state_after s after) (trust_halted s) left part in
      AskersIf at asked count (drawn ++ step.drawn) turns step.state.running step.state.trusting
  waits_taken (Err why) count s left each = tt
  waits_taken (Ok part) count s left each =
      each_later at asked part.value.parts.turn_of count drawn (drawn ++ draws_between left part.left) turns part.value.parts.work.queues.requesters
      (λ challenge is. drawn_still challenge drawn (draws_between left part.left) is) each

  -- no dial is answered, and one waits: what was known stays
  pub waits_on : (running : Running) (count : ℕ) (s : ControllerState) (what : Event) (now : ℕ) (left : List (List ℕ)) → IsNoAnswer what → IsWaiting s.trusting.dialling →
      AskersIf at asked count drawn turns (Some running) s.trusting →
      let step = trust_step_on (Some running) s what now left in AskersIf at asked count (drawn ++ step.drawn) turns step.state.running step.state.trusting
  waits_on running count s what now left none waits each =
      waits_taken (event_and_turn s.table.trusts what s.name now s.table (parts_of running s.trusting) left) count s left
      (waits_part at asked count drawn turns what s.name now s.table.trusts s.table (parts_of running s.trusting) left none waits each)

  module _ (all_drawn : (trust : ℕ) → AreDrawn drawn (mine (OfTrust at trust) turns)) where
    free_taken : (part : TrustPart) (s : ControllerState) (left : List (List ℕ)) → FreePart at asked drawn turns all_drawn left part →
        let step = step_by (λ (after : TrustParts). after.parts.work.work.actions) (λ after. trust_state_after s after) (trust_halted s) left part in
        Differ (drawn ++ step.drawn) → AskersIf at asked (dials_in (actions_by step.answer)) (drawn ++ step.drawn) turns step.state.running step.state.trusting
    free_taken (Err why) s left free differ = tt
    free_taken (Ok part) s left free differ = free differ

    -- none waits, or the one that did is answered: a turn may start
    pub free_on : (running : Running) (s : ControllerState) (what : Event) (now : ℕ) (left : List (List ℕ)) → AskersIf at asked 0 drawn turns (Some running) s.trusting →
        let step = trust_step_on (Some running) s what now left in
        Differ (drawn ++ step.drawn) → AskersIf at asked (dials_in (actions_by step.answer)) (drawn ++ step.drawn) turns step.state.running step.state.trusting
    free_on running s what now left each differ =
        free_taken (event_and_turn s.table.trusts what s.name now s.table (parts_of running s.trusting) left) s left
        (free_part at asked drawn turns all_drawn what s.name now s.table.trusts s.table (parts_of running s.trusting) left refl each) differ
