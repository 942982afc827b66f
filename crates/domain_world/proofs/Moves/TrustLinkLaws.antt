-- The accepted links of a controller that may hand logons on, through each step: what holds of each link that opens,
-- and goes on holding where bytes come on the link, holds of each that is kept. It serves
-- `trusting_controllers_listen`.
use Rattle.std.proofs.Common.{◌≡◌, ◌++◌, ℕ, Bool, true, false, List, [], Option, Some, None, Result, Ok, Err, slice_get, refl, sym, subst}
use Rattle.wire_base.specs.Maps.{lookup, same_number, take_out}
use Rattle.ndr_codec.specs.Parts.{IfThere}
use Rattle.outside.specs.Machine.{Part, step_by, then_part}
use Rattle.outside.specs.declared.action.StepRefused.{StepRefused}
use Rattle.outside.specs.declared.event.Event.{Event}
use Rattle.outside.specs.declared.event.Event.TheVariants as event
use Rattle.account_table.specs.AccountTable.{AccountTable}
use Rattle.account_table.specs.declared.account.Trust.{Trust}
use Rattle.rpc_units.specs.Stream.{cut_stream}
use Rattle.end_links.specs.Links.{LinkState}
use Rattle.end_links.specs.Serving.{ServedPart, served_cut}
use Rattle.channel_client.specs.State.{Requester}
use Rattle.channel_turns.specs.Dials.{NextTurn, next_turn as channel_turn}
use Rattle.channel_turns.specs.Turning.{Turned, dial_part, is_on, is_waiting, link_answers, link_closes, link_hears, no_dial}
use Rattle.channel_turns.specs.declared.state.Turning.{Turning}
use Rattle.domain_controller.specs.Forwarding.{TrustDesk, trust_desk, trust_server}
use Rattle.domain_controller.specs.Hearing.{first_talk}
use Rattle.domain_controller.specs.State.{State as ControllerState}
use Rattle.domain_controller.specs.Step.{LinkMap}
use Rattle.domain_controller.specs.TrustStep.{TrustPart, TrustParts, after_turned, after_units, answer_dial, by_trust_event, close_by, close_number, event_and_turn, fail_dial, first_waiting, is_idle, link_with, next_if, next_part, next_turn, on_turn, open_by, parts_of, put_open, serve_bytes, serve_on, start_at, start_on, trust_halted, trust_part, trust_state_after, trust_step_of, trust_step_on, turn_at, turning_of, without_link}
use Rattle.domain_controller.specs.declared.state.Running.{Running}
use Rattle.domain_controller.specs.declared.state.Talk.{Talk}
use Rattle.domain_controller.specs.declared.trusting.Parts.{Parts}
use Rattle.domain_world.proofs.Quiet.QuietListenLaws.{Entries, entries_found, entries_out, entries_put}

module _ (P : ℕ → LinkState Talk → Type 0) where
  -- ---- an event

  turn_same : (found : Option Requester) (happens : Turning → Turned) (parts : Parts) → Entries P parts.links → Entries P (turn_at found happens parts).links
  turn_same None happens parts all = all
  turn_same (Some channel) happens parts all = all

  turn_holds : (happens : Turning → Turned) (parts : Parts) → Entries P parts.links → Entries P (on_turn happens parts).links
  turn_holds happens parts all = turn_same (slice_get parts.work.queues.requesters parts.turn_of) happens parts all

  closed_holds : (b : Bool) (number : ℕ) (parts : Parts) → Entries P parts.links → Entries P (close_by b number parts).links
  closed_holds false number parts all = entries_out P number parts.links all
  closed_holds true number parts all = turn_holds (λ turning. link_closes number turning) parts all

  opened_holds : (full : Bool) (number : ℕ) (parts : Parts) → P number (record { rest = []; talk = first_talk }) → Entries P parts.links → Entries P (open_by full number parts).links
  opened_holds true number parts fresh all = all
  opened_holds false number parts fresh all = entries_put P number (record { rest = []; talk = first_talk }) parts.links fresh all

  dial_holds : (waits : Bool) (number : ℕ) (parts : Parts) → Entries P parts.links → Entries P (answer_dial waits number parts).links
  dial_holds false number parts all = all
  dial_holds true number parts all = turn_holds (λ turning. (link_answers number turning, None)) (without_link number parts) (entries_out P number parts.links all)

  failed_holds : (waits : Bool) (parts : Parts) → Entries P parts.links → Entries P (fail_dial waits parts).links
  failed_holds false parts all = all
  failed_holds true parts all = turn_holds (λ turning. no_dial turning) parts all

  put_holds : (open_link : Option (LinkState Talk)) (number : ℕ) (parts : Parts) → IfThere (P number) open_link → Entries P parts.links → Entries P (put_open open_link number parts).links
  put_holds None number parts is all = all
  put_holds (Some link) number parts is all = entries_put P number link parts.links is all

  -- `P` holds of the link, with that rest of its stream, where it stays open behind the units
  abbrev pub StaysOpen : ℕ → List ℕ → Option Talk → Type 0
  StaysOpen number rest said = IfThere (λ (talk : Talk). P number (record { rest = rest; talk = talk })) said

  abbrev pub PartHolds : ℕ → List ℕ → ServedPart TrustDesk Talk → Type 0
  PartHolds number rest (Err why) = Unit {0}
  PartHolds number rest (Ok part) = StaysOpen number rest part.value.1

  link_holds : (number : ℕ) (rest : List ℕ) (said : Option Talk) → StaysOpen number rest said → IfThere (P number) (link_with rest said)
  link_holds number rest None is = tt
  link_holds number rest (Some talk) is = is

  abbrev StepHolds : TrustPart → Type 0
  StepHolds (Err why) = Unit {0}
  StepHolds (Ok part) = Entries P part.value.parts.links

  units_hold : (part : ServedPart TrustDesk Talk) (rest : List ℕ) (number : ℕ) (others : LinkMap) (parts : Parts) → PartHolds number rest part → Entries P others →
      StepHolds (after_units part rest number others parts)
  units_hold (Err why) rest number others parts is all = tt
  units_hold (Ok part) rest number others parts is all =
      put_holds (link_with rest part.value.1) number (record parts { work = part.value.0.work; links = others }) (link_holds number rest part.value.1 is) all

  -- what must be known of an event: that `P` holds of a link that opens, and of one on which bytes come once they are
  -- served
  abbrev pub KeepsLinks : (name : List ℕ) (now : ℕ) → Event → Type 0
  KeepsLinks name now (event.Opened number) = P number (record { rest = []; talk = first_talk })
  KeepsLinks name now (event.Bytes number piece) =
      (link : LinkState Talk) (d : TrustDesk) (left : List (List ℕ)) → P number link →
      PartHolds number (cut_stream (link.rest ++ piece)).rest (served_cut (trust_server name now number) (cut_stream (link.rest ++ piece)) d link.talk left)
  KeepsLinks name now (event.Closed number) = Unit {0}
  KeepsLinks name now (event.Dialled number) = Unit {0}
  KeepsLinks name now event.DialFailed = Unit {0}
  KeepsLinks name now event.Stop = Unit {0}

  serve_holds : (found : Option (LinkState Talk)) (number : ℕ) (piece name : List ℕ) (now : ℕ) (others : LinkMap) (table : AccountTable) (parts : Parts) (left : List (List ℕ)) →
      KeepsLinks name now (event.Bytes number piece) → ((link : LinkState Talk) → found ≡ Some link → P number link) → Entries P others →
      StepHolds (serve_on found number piece name now others table parts left)
  serve_holds None number piece name now others table parts left keeps is all = all
  serve_holds (Some link) number piece name now others table parts left keeps is all =
      units_hold (served_cut (trust_server name now number) (cut_stream (link.rest ++ piece)) (trust_desk table parts.work) link.talk left) (cut_stream (link.rest ++ piece)).rest number others parts
      (keeps link (trust_desk table parts.work) left (is link refl)) all

  bytes_hold : (b : Bool) (number : ℕ) (piece name : List ℕ) (now : ℕ) (table : AccountTable) (parts : Parts) (left : List (List ℕ)) → KeepsLinks name now (event.Bytes number piece) →
      Entries P parts.links → StepHolds (serve_bytes b number piece name now table parts left)
  bytes_hold true number piece name now table parts left keeps all = turn_holds (λ turning. link_hears number piece turning) parts all
  bytes_hold false number piece name now table parts left keeps all =
      serve_holds (lookup same_number number parts.links) number piece name now (take_out same_number number parts.links) table parts left keeps
      (λ link there. entries_found P number parts.links link there all) (entries_out P number parts.links all)

  event_holds : (what : Event) (name : List ℕ) (now : ℕ) (table : AccountTable) (parts : Parts) (left : List (List ℕ)) → KeepsLinks name now what → Entries P parts.links →
      StepHolds (by_trust_event what name now table parts left)
  event_holds (event.Opened number) name now table parts left keeps all =
      opened_holds _ number (close_number number parts) keeps (closed_holds (is_on number parts.dialling) number parts all)
  event_holds (event.Bytes number piece) name now table parts left keeps all = bytes_hold (is_on number parts.dialling) number piece name now table parts left keeps all
  event_holds (event.Closed number) name now table parts left keeps all = closed_holds (is_on number parts.dialling) number parts all
  event_holds (event.Dialled number) name now table parts left keeps all = dial_holds (is_waiting parts.dialling) number parts all
  event_holds event.DialFailed name now table parts left keeps all = failed_holds (is_waiting parts.dialling) parts all
  event_holds event.Stop name now table parts left keeps all = all

  -- ---- the next turn, and a step

  abbrev NextHolds : Result (Part Parts) StepRefused → Type 0
  NextHolds (Err why) = Unit {0}
  NextHolds (Ok part) = Entries P part.value.links

  begun_holds : (next : Result (Part NextTurn) StepRefused) (peer : List ℕ) (channel : Requester) (trust : ℕ) (parts : Parts) → Entries P parts.links →
      NextHolds (then_part (then_part next (dial_part peer (turning_of channel parts))) (λ turning rest. next_part (after_turned trust (turning, None) parts) rest))
  begun_holds (Err why) peer channel trust parts all = tt
  begun_holds (Ok part) peer channel trust parts all = all

  start_holds : (found : Option Requester) (entry : Option Trust) (trust now : ℕ) (parts : Parts) (left : List (List ℕ)) → Entries P parts.links → NextHolds (start_on found entry trust now parts left)
  start_holds None entry trust now parts left all = all
  start_holds (Some channel) None trust now parts left all = all
  start_holds (Some channel) (Some entry) trust now parts left all = begun_holds (channel_turn now channel left) entry.address channel trust parts all

  at_holds : (first : Option ℕ) (trusts : List Trust) (now : ℕ) (parts : Parts) (left : List (List ℕ)) → Entries P parts.links → NextHolds (start_at first trusts now parts left)
  at_holds None trusts now parts left all = all
  at_holds (Some trust) trusts now parts left all = start_holds _ _ trust now parts left all

  next_holds : (idle : Bool) (trusts : List Trust) (now : ℕ) (parts : Parts) (left : List (List ℕ)) → Entries P parts.links → NextHolds (next_if idle trusts now parts left)
  next_holds false trusts now parts left all = all
  next_holds true trusts now parts left all = at_holds (first_waiting parts.work.queues.requesters) trusts now parts left all

  with_table : (part : Result (Part Parts) StepRefused) (table : AccountTable) → NextHolds part → StepHolds (then_part part (λ later last. trust_part table later last))
  with_table (Err why) table all = tt
  with_table (Ok part) table all = all

  turn_behind : (part : TrustPart) (trusts : List Trust) (now : ℕ) → StepHolds part →
      StepHolds (then_part part (λ after rest. then_part (next_turn trusts now after.parts rest) (λ later last. trust_part after.table later last)))
  turn_behind (Err why) trusts now all = tt
  turn_behind (Ok part) trusts now all =
      with_table (next_turn trusts now part.value.parts part.left) part.value.table (next_holds (is_idle part.value.parts.dialling) trusts now part.value.parts part.left all)

  abbrev pub LinksIf : Option Running → Type 0
  LinksIf None = Unit {0}
  LinksIf (Some running) = Entries P running.links

  taken_holds : (part : TrustPart) (c : ControllerState) (left : List (List ℕ)) → StepHolds part →
      LinksIf (step_by (λ (after : TrustParts). after.parts.work.work.actions) (λ after. trust_state_after c after) (trust_halted c) left part).state.running
  taken_holds (Err why) c left all = tt
  taken_holds (Ok part) c left all = all

  on_holds : (found : Option Running) (c : ControllerState) (what : Event) (now : ℕ) (left : List (List ℕ)) → KeepsLinks c.name now what → c.running ≡ found → LinksIf found →
      LinksIf (trust_step_on found c what now left).state.running
  on_holds None c what now left keeps is all = subst LinksIf (sym is) tt
  on_holds (Some running) c what now left keeps is all =
      let parts : Parts = parts_of running c.trusting in
      taken_holds (event_and_turn c.table.trusts what c.name now c.table parts left) c left
      (turn_behind (by_trust_event what c.name now c.table parts left) c.table.trusts now (event_holds what c.name now c.table parts left keeps all))

  pub step_holds : (c : ControllerState) (what : Event) (now : ℕ) (left : List (List ℕ)) → KeepsLinks c.name now what → LinksIf c.running → LinksIf (trust_step_of c what now left).state.running
  step_holds c what now left keeps all = on_holds c.running c what now left keeps refl all
