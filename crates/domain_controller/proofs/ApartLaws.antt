-- Each link has a number of its own. It serves `links_have_their_own_numbers`.
use Rattle.std.proofs.Common.{◌≡◌, ◌==◌, ◌++◌, ◌<◌, ℕ, zero, suc, Bool, true, false, List, [], ◌∷◌, length, Option, Some, None, Result, Ok, Err, slice_get, refl, sym, ap, subst, ◌∙◌, arith}
use Rattle.std.proofs.lemmas.Bool.Decides.{nat_tests}
use Rattle.wire_base.proofs.MapLaws.{IsMap-put, IsMap-take_out, lookup-put_other, lookup-take_out_other, lookup-take_out_same}
use Rattle.wire_base.proofs.NameLaws.{IsSameness-same_number}
use Rattle.wire_base.specs.Maps.{lookup, put, same_number, take_out}
use Rattle.outside.specs.Machine.{Part, step_by, then_part}
use Rattle.outside.specs.declared.action.StepRefused.{StepRefused}
use Rattle.outside.specs.declared.event.Event.{Event}
use Rattle.outside.specs.declared.event.Event.TheVariants as event
use Rattle.rpc_units.specs.Stream.{cut_stream}
use Rattle.account_table.specs.AccountTable.{AccountTable}
use Rattle.account_table.specs.declared.account.Trust.{Trust}
use Rattle.end_links.specs.Links.{LinkState}
use Rattle.end_links.specs.Serving.{ServedPart, served_cut}
use Rattle.channel_client.specs.State.{Requester}
use Rattle.channel_turns.specs.Dials.{NextTurn, next_turn as channel_turn}
use Rattle.channel_turns.specs.Turning.{Turned, answer_by, close_if, dial_for, dial_part, fail_by, hear_by, hear_if, is_on, is_waiting, keep_link, link_answers, link_closes, link_hears, no_dial}
use Rattle.channel_turns.specs.declared.state.Dialling.{Dialling}
use Rattle.channel_turns.specs.declared.state.Dialling.TheVariants as dialling
use Rattle.channel_turns.specs.declared.state.TurnTalk.{TurnTalk}
use Rattle.channel_turns.specs.declared.state.Turning.{Turning}
use Rattle.domain_controller.specs.Forwarding.{TrustDesk, trust_desk, trust_server}
use Rattle.domain_controller.specs.State.{State}
use Rattle.domain_controller.specs.Step.{LinkMap}
use Rattle.domain_controller.specs.TrustLaws.{ApartUnlessStopped, AreApart, LinksAreApart, OneIsOut}
use Rattle.domain_controller.specs.TrustStep.{TrustPart, TrustParts, after_turned, after_units, answer_dial, by_trust_event, close_by, close_number, event_and_turn, fail_dial, first_waiting, is_idle, link_with, next_if, next_part, next_turn, open_by, parts_of, put_open, serve_bytes, serve_on, start_at, start_on, trust_halted, trust_part, trust_state_after, trust_step_on, turn_at, turning_of, without_link}
use Rattle.domain_controller.specs.declared.state.Running.{Running}
use Rattle.domain_controller.specs.declared.state.Talk.{Talk}
use Rattle.domain_controller.specs.declared.trusting.Parts.{Parts}

-- ---- numbers

differs : (number n : ℕ) → (n == number) ≡ false → (k : ℕ) → same_number number k ≡ true → same_number n k ≡ false
differs number n other k same = grind (arith, nat_tests)

equal : (n number : ℕ) → (n == number) ≡ true → n ≡ number
equal n number same = grind (arith, nat_tests)

abbrev IsFree : LinkMap → ℕ → Type 0
IsFree links n = lookup same_number n links ≡ None

-- a number that no link has is free where a link is taken out, as is that link's
free_by : (b : Bool) (number n : ℕ) (how : Dialling) (links : LinkMap) → (n == number) ≡ b → AreApart links how → IsFree links n → IsFree (take_out same_number number links) n
free_by false number n how links other apart free = lookup-take_out_other same_number number n links (differs number n other) ∙ free
free_by true number n how links same apart free =
    subst (λ (m : ℕ). IsFree (take_out same_number number links) m) (sym (equal n number same))
    (lookup-take_out_same same_number number links IsSameness-same_number apart.distinct)

out_apart : (number : ℕ) (how : Dialling) (links : LinkMap) → AreApart links how → AreApart (take_out same_number number links) how
out_apart number how links apart = record {
  distinct = IsMap-take_out same_number number links apart.distinct;
  turn = λ n on. free_by (n == number) number n how links refl apart (apart.turn n on);
}

on_other : (b : Bool) (n number : ℕ) (how : Dialling) → (n == number) ≡ b → is_on n how ≡ true → is_on number how ≡ false → (n == number) ≡ false
on_other false n number how other on off = other
on_other true n number how same on off =
    let never : true ≡ false = sym on ∙ ap (λ (m : ℕ). is_on m how) (equal n number same) ∙ off in
    absurd (let x = never in cc)

-- a link comes that hasn't the number of the turn's
put_apart : (number : ℕ) (link : LinkState Talk) (how : Dialling) (links : LinkMap) → is_on number how ≡ false → AreApart links how → AreApart (put same_number number link links) how
put_apart number link how links off apart = record {
  distinct = IsMap-put same_number number link links IsSameness-same_number apart.distinct;
  turn = λ n on.
      let other : (n == number) ≡ false = on_other (n == number) n number how refl on off in
      lookup-put_other same_number number n link links (differs number n other) other ∙ apart.turn n on;
}

-- ---- the turn's link

-- the link of the turn is the one before, or there is none
abbrev IsLess : Dialling → Dialling → Type 0
IsLess after before = (n : ℕ) → is_on n after ≡ true → is_on n before ≡ true

less_apart : (after before : Dialling) (links : LinkMap) → IsLess after before → AreApart links before → AreApart links after
less_apart after before links less apart = record { distinct = apart.distinct; turn = λ n on. apart.turn n (less n on) }

none_less : (before : Dialling) → IsLess dialling.Nothing before
none_less before n on = absurd (let x = on in cc)

abbrev Leaves : (Turning → Turned) → Type 0
Leaves happens = (turning : Turning) → IsLess (happens turning).0.dialling turning.dialling

abbrev Apart : Parts → Type 0
Apart parts = AreApart parts.links parts.dialling

turn_apart : (found : Option Requester) (happens : Turning → Turned) (parts : Parts) → Leaves happens → Apart parts → Apart (turn_at found happens parts)
turn_apart None happens parts leaves apart = apart
turn_apart (Some channel) happens parts leaves apart =
    less_apart (happens (turning_of channel parts)).0.dialling parts.dialling parts.links (leaves (turning_of channel parts)) apart

fails_less : (how : Dialling) (turning : Turning) → IsLess (fail_by how turning).0.dialling turning.dialling
fails_less dialling.Nothing turning n on = on
fails_less (dialling.Waits turn frames) turning n on = none_less turning.dialling n on
fails_less (dialling.On number said) turning n on = on

kept_less : (open_link : Option (LinkState TurnTalk)) (number : ℕ) (said : LinkState TurnTalk) (before : Dialling) → before ≡ dialling.On number said →
    IsLess (keep_link number open_link) before
kept_less None number said before is n on = none_less before n on
kept_less (Some link) number said before is n on = ap (λ (how : Dialling). is_on n how) is ∙ on

hears_if : (b : Bool) (number : ℕ) (said : LinkState TurnTalk) (piece : List ℕ) (turning : Turning) → turning.dialling ≡ dialling.On number said →
    IsLess (hear_if b number said piece turning).0.dialling turning.dialling
hears_if false number said piece turning is n on = on
hears_if true number said piece turning is n on = kept_less _ number said turning.dialling is n on

hears_less : (how : Dialling) (link : ℕ) (piece : List ℕ) (turning : Turning) → turning.dialling ≡ how → IsLess (hear_by how link piece turning).0.dialling turning.dialling
hears_less dialling.Nothing link piece turning is n on = on
hears_less (dialling.Waits turn frames) link piece turning is n on = on
hears_less (dialling.On number said) link piece turning is n on = hears_if (number == link) number said piece turning is n on

-- ---- links that close and open

-- links are apart, and the link of the turn hasn't that number
record IsShut (number : ℕ) (parts : Parts) : Type 0 where
  apart : Apart parts
  off : is_on number parts.dialling ≡ false

got : {T : Type 0} (items : List T) (at : ℕ) → at < length items → slice_get items at ≡ None → ⊥
got [] at lt none = absurd (omega arith)
got (first ∷ items) zero lt none = absurd (let x = none in cc)
got (first ∷ items) (suc at) lt none = got items at (omega arith) none

busy : (how : Dialling) (number : ℕ) → is_on number how ≡ true → is_idle how ≡ false
busy dialling.Nothing number on = absurd (let x = on in cc)
busy (dialling.Waits turn frames) number on = absurd (let x = on in cc)
busy (dialling.On other said) number on = refl

abbrev IsInside : Parts → Type 0
IsInside parts = is_idle parts.dialling ≡ false → parts.turn_of < length parts.work.queues.requesters

shut_on : (found : Option Requester) (number : ℕ) (parts : Parts) → slice_get parts.work.queues.requesters parts.turn_of ≡ found → is_on number parts.dialling ≡ true → IsInside parts →
    Apart parts → IsShut number (turn_at found (λ turning. link_closes number turning) parts)
shut_on None number parts none on inside apart =
    absurd (got parts.work.queues.requesters parts.turn_of (inside (busy parts.dialling number on)) none)
shut_on (Some channel) number parts is on inside apart =
    let turning : Turning = turning_of channel parts in
    let nothing : (link_closes number turning).0.dialling ≡ dialling.Nothing = ap (λ (b : Bool). (close_if b turning).0.dialling) on in
    record {
      apart = subst (λ (how : Dialling). AreApart parts.links how) (sym nothing) (less_apart dialling.Nothing parts.dialling parts.links (none_less parts.dialling) apart);
      off = ap (λ (how : Dialling). is_on number how) nothing;
    }

shut_by : (b : Bool) (number : ℕ) (parts : Parts) → is_on number parts.dialling ≡ b → IsInside parts → Apart parts → IsShut number (close_by b number parts)
shut_by false number parts off inside apart = record { apart = out_apart number parts.dialling parts.links apart; off = off }
shut_by true number parts on inside apart = shut_on (slice_get parts.work.queues.requesters parts.turn_of) number parts refl on inside apart

shut : (number : ℕ) (parts : Parts) → IsInside parts → Apart parts → IsShut number (close_number number parts)
shut number parts inside apart = shut_by (is_on number parts.dialling) number parts refl inside apart

open_apart : (full : Bool) (number : ℕ) (parts : Parts) → IsShut number parts → Apart (open_by full number parts)
open_apart true number parts is = is.apart
open_apart false number parts is = put_apart number _ parts.dialling parts.links is.off is.apart

-- ---- dials

bound_apart : (how : Dialling) (number : ℕ) (turning : Turning) (links : LinkMap) → turning.dialling ≡ how → AreApart links how →
    AreApart (take_out same_number number links) (answer_by how number turning).dialling
bound_apart dialling.Nothing number turning links is apart =
    subst (λ (how : Dialling). AreApart (take_out same_number number links) how) (sym is) (out_apart number dialling.Nothing links apart)
bound_apart (dialling.On other said) number turning links is apart =
    subst (λ (how : Dialling). AreApart (take_out same_number number links) how) (sym is) (out_apart number (dialling.On other said) links apart)
bound_apart (dialling.Waits turn frames) number turning links is apart = record {
  distinct = IsMap-take_out same_number number links apart.distinct;
  turn = λ n on.
      subst (λ (m : ℕ). IsFree (take_out same_number number links) m) (equal number n on)
      (lookup-take_out_same same_number number links IsSameness-same_number apart.distinct);
}

dial_at : (found : Option Requester) (number : ℕ) (parts : Parts) → Apart parts →
    Apart (turn_at found (λ turning. (link_answers number turning, None)) (without_link number parts))
dial_at None number parts apart = out_apart number parts.dialling parts.links apart
dial_at (Some channel) number parts apart = bound_apart parts.dialling number (turning_of channel (without_link number parts)) parts.links refl apart

dial_apart : (waits : Bool) (number : ℕ) (parts : Parts) → Apart parts → Apart (answer_dial waits number parts)
dial_apart false number parts apart = apart
dial_apart true number parts apart = dial_at _ number parts apart

failed_apart : (waits : Bool) (parts : Parts) → Apart parts → Apart (fail_dial waits parts)
failed_apart false parts apart = apart
failed_apart true parts apart = turn_apart _ (λ turning. no_dial turning) parts (λ turning. fails_less turning.dialling turning) apart

-- ---- bytes

abbrev ApartPart : TrustPart → Type 0
ApartPart (Err why) = Unit {0}
ApartPart (Ok part) = Apart part.value.parts

back_apart : (open_link : Option (LinkState Talk)) (number : ℕ) (parts : Parts) → is_on number parts.dialling ≡ false → Apart parts → Apart (put_open open_link number parts)
back_apart None number parts off apart = apart
back_apart (Some link) number parts off apart = put_apart number link parts.dialling parts.links off apart

units_apart : (part : ServedPart TrustDesk Talk) (rest : List ℕ) (number : ℕ) (parts : Parts) → is_on number parts.dialling ≡ false → Apart parts →
    ApartPart (after_units part rest number (take_out same_number number parts.links) parts)
units_apart (Err why) rest number parts off apart = tt
units_apart (Ok part) rest number parts off apart =
    back_apart (link_with rest part.value.1) number (record parts { work = part.value.0.work; links = take_out same_number number parts.links }) off
    (out_apart number parts.dialling parts.links apart)

serve_apart : (found : Option (LinkState Talk)) (number : ℕ) (piece name : List ℕ) (now : ℕ) (table : AccountTable) (parts : Parts) (left : List (List ℕ)) →
    is_on number parts.dialling ≡ false → Apart parts → ApartPart (serve_on found number piece name now (take_out same_number number parts.links) table parts left)
serve_apart None number piece name now table parts left off apart = out_apart number parts.dialling parts.links apart
serve_apart (Some link) number piece name now table parts left off apart =
    let cut = cut_stream (link.rest ++ piece) in
    units_apart (served_cut (trust_server name now number) cut (trust_desk table parts.work) link.talk left) cut.rest number parts off apart

bytes_apart : (b : Bool) (number : ℕ) (piece name : List ℕ) (now : ℕ) (table : AccountTable) (parts : Parts) (left : List (List ℕ)) → is_on number parts.dialling ≡ b → Apart parts →
    ApartPart (serve_bytes b number piece name now table parts left)
bytes_apart true number piece name now table parts left on apart =
    turn_apart _ (λ turning. link_hears number piece turning) parts (λ turning. hears_less turning.dialling number piece turning refl) apart
bytes_apart false number piece name now table parts left off apart = serve_apart _ number piece name now table parts left off apart

-- ---- an event, the next turn, and a step

event_apart : (what : Event) (name : List ℕ) (now : ℕ) (table : AccountTable) (parts : Parts) (left : List (List ℕ)) → IsInside parts → Apart parts →
    ApartPart (by_trust_event what name now table parts left)
event_apart (event.Opened number) name now table parts left inside apart = open_apart _ number (close_number number parts) (shut number parts inside apart)
event_apart (event.Bytes number piece) name now table parts left inside apart = bytes_apart (is_on number parts.dialling) number piece name now table parts left refl apart
event_apart (event.Closed number) name now table parts left inside apart = (shut number parts inside apart).apart
event_apart (event.Dialled number) name now table parts left inside apart = dial_apart (is_waiting parts.dialling) number parts apart
event_apart event.DialFailed name now table parts left inside apart = failed_apart (is_waiting parts.dialling) parts apart
event_apart event.Stop name now table parts left inside apart = apart

abbrev NextApart : Result (Part Parts) StepRefused → Type 0
NextApart (Err why) = Unit {0}
NextApart (Ok part) = Apart part.value

dials_less : (start : Option (Unit {0} × List (List ℕ))) (peer : List ℕ) (turning : Turning) → IsLess (dial_for start peer turning).dialling turning.dialling
dials_less None peer turning n on = on
dials_less (Some start) peer turning n on = absurd (let x = on in cc)

begun_apart : (next : Result (Part NextTurn) StepRefused) (peer : List ℕ) (channel : Requester) (trust : ℕ) (parts : Parts) → Apart parts →
    NextApart (then_part (then_part next (dial_part peer (turning_of channel parts))) (λ turning rest. next_part (after_turned trust (turning, None) parts) rest))
begun_apart (Err why) peer channel trust parts apart = tt
begun_apart (Ok part) peer channel trust parts apart =
    let turning : Turning = record (turning_of channel parts) { channel = part.value.0 } in
    less_apart (dial_for part.value.1 peer turning).dialling parts.dialling parts.links (dials_less part.value.1 peer turning) apart

start_apart : (found : Option Requester) (entry : Option Trust) (trust now : ℕ) (parts : Parts) (left : List (List ℕ)) → Apart parts → NextApart (start_on found entry trust now parts left)
start_apart None entry trust now parts left apart = apart
start_apart (Some channel) None trust now parts left apart = apart
start_apart (Some channel) (Some entry) trust now parts left apart = begun_apart (channel_turn now channel left) entry.address channel trust parts apart

at_apart : (first : Option ℕ) (trusts : List Trust) (now : ℕ) (parts : Parts) (left : List (List ℕ)) → Apart parts → NextApart (start_at first trusts now parts left)
at_apart None trusts now parts left apart = apart
at_apart (Some trust) trusts now parts left apart = start_apart _ _ trust now parts left apart

next_apart : (idle : Bool) (trusts : List Trust) (now : ℕ) (parts : Parts) (left : List (List ℕ)) → Apart parts → NextApart (next_if idle trusts now parts left)
next_apart false trusts now parts left apart = apart
next_apart true trusts now parts left apart = at_apart (first_waiting parts.work.queues.requesters) trusts now parts left apart

with_table : (part : Result (Part Parts) StepRefused) (table : AccountTable) → NextApart part → ApartPart (then_part part (λ later last. trust_part table later last))
with_table (Err why) table apart = tt
with_table (Ok part) table apart = apart

turn_behind : (part : TrustPart) (trusts : List Trust) (now : ℕ) → ApartPart part →
    ApartPart (then_part part (λ after rest. then_part (next_turn trusts now after.parts rest) (λ later last. trust_part after.table later last)))
turn_behind (Err why) trusts now apart = tt
turn_behind (Ok part) trusts now apart =
    with_table (next_turn trusts now part.value.parts part.left) part.value.table (next_apart (is_idle part.value.parts.dialling) trusts now part.value.parts part.left apart)

abbrev ApartAfter : State → Type 0
ApartAfter s = ApartUnlessStopped s.running s.trusting

taken_apart : (part : TrustPart) (s : State) (left : List (List ℕ)) → ApartPart part →
    ApartAfter (step_by (λ (after : TrustParts). after.parts.work.work.actions) (λ after. trust_state_after s after) (trust_halted s) left part).state
taken_apart (Err why) s left apart = tt
taken_apart (Ok part) s left apart = apart

step_apart : (running : Option Running) (s : State) (what : Event) (now : ℕ) (left : List (List ℕ)) → s.running ≡ running → OneIsOut s.trusting → ApartUnlessStopped running s.trusting →
    ApartAfter (trust_step_on running s what now left).state
step_apart None s what now left is one apart = subst (λ (r : Option Running). ApartUnlessStopped r s.trusting) (sym is) tt
step_apart (Some running) s what now left is one apart =
    let parts : Parts = parts_of running s.trusting in
    taken_apart (event_and_turn s.table.trusts what s.name now s.table parts left) s left
    (turn_behind (by_trust_event what s.name now s.table parts left) s.table.trusts now (event_apart what s.name now s.table parts left one.inside apart))

pub links_apart : LinksAreApart
links_apart = record {
  first = λ table name. record { distinct = λ i j d before within. absurd (omega arith); turn = λ n on. absurd (let x = on in cc) };
  keeps = λ s what now left one apart. step_apart s.running s what now left refl one apart;
}
