-- Requesters, one of which is asked or has its turn. It serves the calls of `forwarding` and `turning`.
use Rattle.std.proofs.Common.{◌≡◌, ◌≤◌, ◌+◌, ◌++◌, ℕ, zero, suc, ◌<◌, Bool, true, false, nat_le, nat_lt, List, [], ◌∷◌, drop, length, map, take, Option, Some, None, Result, Ok, Err, slice_get, slice_index_or, slice_set, IfOk, inl, inr, refl, sym, ap, ◌∙◌, arith}
use Rattle.std.proofs.lemmas.Bool.{cases_Bool}
use Rattle.std.proofs.lemmas.Bool.Decides.{nat_tests}
use Rattle.std.proofs.lemmas.Option.{slice_get_past, slice_get_read}
use Rattle.std.specs.List.{insert, remove}
use Rattle.wire_base.specs.Maps.{has_key, lookup, take_out}
use Rattle.wire_base.specs.declared.memory.NoMemory.{NoMemory}
use Rattle.logon_stubs.specs.declared.info.NetworkInfo.{NetworkInfo}
use Rattle.logon_stubs.specs.declared.info.Verdict.{Verdict}
use Rattle.channel_client.specs.declared.answers.AskRefused.{AskRefused}
use Rattle.channel_client.specs.declared.answers.AskRefused.TheVariants.{QueueFull}
use Rattle.channel_client.specs.Machine.{ask_by, ask_of}
use Rattle.channel_client.specs.State.{Requester}
use Rattle.channel_turns.specs.declared.state.Turning.{Turning}
use Rattle.channel_turns.specs.Turning.{Turned}
use Rattle.controller_calls.specs.Forwarded.{ForwardedState}
use Rattle.controller_calls.specs.Handing.{answer_forwarded}
use Rattle.controller_calls.specs.declared.state.Work.{Work}
use Rattle.domain_controller.specs.Forwarding.{after_ended, answer_found, answer_place, ask_trust, asked_by, asked_of_found}
use Rattle.domain_controller.specs.TrustStep.{after_turned, on_turn, turn_at, turning_of}
use Rattle.domain_controller.specs.TurnApart.{beside_of, put_back}
use Rattle.domain_controller.specs.Trusting.{ForwardedCalls, same_place}
use Rattle.domain_controller.specs.declared.trusting.Parts.{Parts}
use Rattle.domain_controller.specs.declared.trusting.TrustWork.{TrustWork}
use Rattle.domain_controller.specs.declared.turning.Beside.{Beside}

-- ---- a requester that is taken out for its turn

-- what is taken out at a place and put back changed is changed in its place
pub set_back : {T : Type 0} (items : List T) (at : ℕ) (item : T) → at < length items → insert (remove items at) at item ≡ slice_set items at item
set_back [] at item lt = absurd (omega arith)
set_back (first ∷ items) zero item lt = refl
set_back (first ∷ items) (suc at) item lt = ap (λ rest. first ∷ rest) (set_back items at item (omega arith))

pub left_over : {T : Type 0} (items : List T) (at : ℕ) → at < length items → at ≤ length (remove items at)
left_over [] at lt = absurd (omega arith)
left_over (first ∷ items) zero lt = omega arith
left_over (first ∷ items) (suc at) lt = let rest = left_over items at (omega arith) in omega arith

pub ruleset apart = (left_over, slice_get_read)

pub put_in_place : (trust : ℕ) (done : Turned) (parts : Parts) → trust < length parts.work.queues.requesters →
    put_back trust done (beside_of trust parts) ≡ after_turned trust done parts
put_in_place trust done parts lt =
    ap (λ (requesters : List Requester). record {
      work = after_ended done.1 trust (record {
        work = record { computers = parts.work.work.computers; actions = done.0.actions };
        queues = record { requesters = requesters; forwarded = parts.work.queues.forwarded };
      });
      links = parts.links;
      turn_of = trust;
      dialling = done.0.dialling;
    }) (set_back parts.work.queues.requesters trust done.0.channel lt)

pub turned : (happens : Turning → Turned) (parts after : Parts) (turning : Turning) (done : Turned) (beside : Beside) →
    parts.turn_of < length parts.work.queues.requesters → slice_get parts.work.queues.requesters parts.turn_of ≡ Some turning.channel →
    turning ≡ turning_of turning.channel parts → beside ≡ beside_of parts.turn_of parts → done ≡ happens turning →
    after ≡ put_back parts.turn_of done beside → after ≡ on_turn happens parts
turned happens parts after turning done beside lt at is rest happened put =
    put ∙ ap (λ (b : Beside). put_back parts.turn_of done b) rest ∙ put_in_place parts.turn_of done parts lt
    ∙ ap (λ (d : Turned). after_turned parts.turn_of d parts) (happened ∙ ap (λ (t : Turning). happens t) is)
    ∙ sym (ap (λ found. turn_at found happens parts) at)

pub some_inside : {T : Type 0} (items : List T) (at : ℕ) (item : T) → slice_get items at ≡ Some item → at < length items
some_inside [] zero item is = absurd (let x = is in cc)
some_inside [] (suc at) item is = absurd (let x = is in cc)
some_inside (first ∷ items) zero item is = omega arith
some_inside (first ∷ items) (suc at) item is = let rest = some_inside items at item is in omega arith

-- where a call answers what its turn puts back, that is what the turn does to the parts
pub turned_if : (result : Result Parts NoMemory) (happens : Turning → Turned) (parts : Parts) (turning : Turning) (done : Turned) (beside : Beside) →
    slice_get parts.work.queues.requesters parts.turn_of ≡ Some turning.channel → turning ≡ turning_of turning.channel parts →
    beside ≡ beside_of parts.turn_of parts → done ≡ happens turning → IfOk result (λ after. after ≡ put_back parts.turn_of done beside) →
    IfOk result (λ after. after ≡ on_turn happens parts)
turned_if (Ok after) happens parts turning done beside at is rest happened put =
    turned happens parts after turning done beside (some_inside parts.work.queues.requesters parts.turn_of turning.channel at) at is rest happened put
turned_if (Err why) happens parts turning done beside at is rest happened put = tt

pub unturned : (happens : Turning → Turned) (parts : Parts) → nat_lt parts.turn_of (length parts.work.queues.requesters) ≡ false → parts ≡ on_turn happens parts
unturned happens parts past =
    let le : length parts.work.queues.requesters ≤ parts.turn_of = grind (arith, nat_tests) in
    sym (ap (λ found. turn_at found happens parts) (slice_get_past parts.work.queues.requesters parts.turn_of le))

-- ---- a requester that is asked

-- a requester that was asked
pub asked_place : (info : NetworkInfo) (trust place : ℕ) (requesters : List Requester) (requester after : Requester) → slice_get requesters trust ≡ Some requester →
    (ask_of requester info).answer ≡ Ok place → after ≡ (ask_of requester info).state → ask_trust info trust requesters ≡ (slice_set requesters trust after, Some place)
asked_place info trust place requesters requester after at answers is =
    ap (λ found. asked_of_found found info trust requesters) at
    ∙ ap (λ answer. asked_by answer (ask_of requester info).state trust requesters) answers
    ∙ ap (λ (r : Requester). (slice_set requesters trust r, Some place)) (sym is)

pub asked_none : (info : NetworkInfo) (trust : ℕ) (requesters : List Requester) (requester : Requester) (why : AskRefused) → slice_get requesters trust ≡ Some requester →
    (ask_of requester info).answer ≡ Err why → ask_trust info trust requesters ≡ (requesters, None)
asked_none info trust requesters requester why at answers =
    ap (λ found. asked_of_found found info trust requesters) at
    ∙ ap (λ answer. asked_by answer (ask_of requester info).state trust requesters) answers

-- one that isn't asked leaves all as they were
same_by : (answer : Result ℕ AskRefused) (after : Requester) (trust : ℕ) (requesters : List Requester) → (asked_by answer after trust requesters).1 ≡ None →
    (asked_by answer after trust requesters).0 ≡ requesters
same_by (Ok place) after trust requesters none = absurd (let x = none in cc)
same_by (Err why) after trust requesters none = refl

same_found : (found : Option Requester) (info : NetworkInfo) (trust : ℕ) (requesters : List Requester) → (asked_of_found found info trust requesters).1 ≡ None →
    (asked_of_found found info trust requesters).0 ≡ requesters
same_found None info trust requesters none = refl
same_found (Some requester) info trust requesters none =
    same_by (ask_of requester info).answer (ask_of requester info).state trust requesters none

pub unasked_same : (info : NetworkInfo) (trust : ℕ) (requesters : List Requester) → (ask_trust info trust requesters).1 ≡ None →
    (ask_trust info trust requesters).0 ≡ requesters
unasked_same info trust requesters none = same_found (slice_get requesters trust) info trust requesters none

-- one at which as many wait as may stays as it is
pub set_same : {T : Type 0} (items : List T) (at : ℕ) (item : T) → slice_get items at ≡ Some item → slice_set items at item ≡ items
set_same [] at item is = refl
set_same (first ∷ items) zero item is = let same : first ≡ item = (let x = is in cc) in ap (λ it. it ∷ items) (sym same)
set_same (first ∷ items) (suc at) item is = ap (λ rest. first ∷ rest) (set_same items at item is)

full_same : (is_full : Bool) (s : Requester) (info : NetworkInfo) → (ask_by is_full s info).answer ≡ Err QueueFull → (ask_by is_full s info).state ≡ s
full_same true s info full = refl
full_same false s info full = absurd (let x = full in cc)

pub asked_full : (info : NetworkInfo) (trust : ℕ) (requesters after : List Requester) (requester new : Requester) → slice_get requesters trust ≡ Some requester →
    (ask_of requester info).answer ≡ Err QueueFull → new ≡ (ask_of requester info).state → after ≡ slice_set requesters trust new → (after, None) ≡ ask_trust info trust requesters
asked_full info trust requesters after requester new at full is put =
    ap (λ (all : List Requester). (all, None))
    (put ∙ ap (λ (s : Requester). slice_set requesters trust s) (is ∙ full_same (nat_le 64 (length requester.waiting)) requester info full) ∙ set_same requesters trust requester at)
    ∙ sym (asked_none info trust requesters requester QueueFull at full)

pub ruleset asking = (asked_place, asked_none, asked_full, unasked_same)

-- ---- a logon that is answered

pub none_kept : {A K V : Type 0} (same : A → K → Bool) (key : A) (entries : List (K × V)) → lookup same key entries ≡ None → take_out same key entries ≡ entries
none_kept same key [] none = refl
none_kept same key (entry ∷ entries) none =
    elim (cases_Bool (has_key same key entry)) [
      | inl pass ↦ absurd (let here : lookup same key (entry ∷ entries) ≡ Some entry.1 = rw pass refl in cc)
      | inr fail ↦
          let later : lookup same key (entry ∷ entries) ≡ lookup same key entries = rw fail refl in
          rw (fail, none_kept same key entries (sym later ∙ none)) refl
    ]

abbrev with_calls : Work → ForwardedCalls → TrustWork → TrustWork
with_calls work forwarded w = record { work = work; queues = record { requesters = w.queues.requesters; forwarded = forwarded } }

pub answered_there : (place : ℕ × ℕ) (verdict : Verdict) (call : ForwardedState) (w : TrustWork) (work : Work) (forwarded : ForwardedCalls) →
    lookup same_place place w.queues.forwarded ≡ Some call → work ≡ answer_forwarded verdict call w.work → forwarded ≡ take_out same_place place w.queues.forwarded →
    with_calls work forwarded w ≡ answer_place place verdict w
answered_there place verdict call w work forwarded is answered rest =
    ap (λ (k : Work). with_calls k forwarded w) answered
    ∙ ap (λ (calls : ForwardedCalls). with_calls (answer_forwarded verdict call w.work) calls w) rest
    ∙ sym (ap (λ (found : Option ForwardedState). answer_found found place verdict w) is)

-- nothing where none waits there
pub answered_nowhere : (place : ℕ × ℕ) (verdict : Verdict) (w : TrustWork) (work : Work) (forwarded : ForwardedCalls) →
    lookup same_place place w.queues.forwarded ≡ None → work ≡ w.work → forwarded ≡ take_out same_place place w.queues.forwarded →
    with_calls work forwarded w ≡ answer_place place verdict w
answered_nowhere place verdict w work forwarded none same rest =
    ap (λ (k : Work). with_calls k forwarded w) same
    ∙ ap (λ (calls : ForwardedCalls). with_calls w.work calls w) (rest ∙ none_kept same_place place w.queues.forwarded none)
    ∙ sym (ap (λ (found : Option ForwardedState). answer_found found place verdict w) none)

-- ---- logons that are changed in their places

changed_at : {T : Type 0} (f : T → T) (items : List T) (at : ℕ) (d : T) → at < length items →
    slice_set (map f (take at items) ++ drop at items) at (f (slice_index_or (map f (take at items) ++ drop at items) at d))
    ≡ map f (take (suc at) items) ++ drop (suc at) items
changed_at f [] at d lt = absurd (omega arith)
changed_at f (first ∷ items) zero d lt = refl
changed_at f (first ∷ items) (suc at) d lt = ap (λ rest. f first ∷ rest) (changed_at f items at d (omega arith))

-- items are changed one by one: those before the place are, and then the one there
pub one_changed : {T : Type 0} (f : T → T) (items now : List T) (at : ℕ) (d : T) → at < length items → now ≡ map f (take at items) ++ drop at items →
    slice_set now at (f (slice_index_or now at d)) ≡ map f (take (at + 1) items) ++ drop (at + 1) items
one_changed f items now at d lt so_far =
    let next : suc at ≡ at + 1 = omega arith in
    ap (λ all. slice_set all at (f (slice_index_or all at d))) so_far ∙ changed_at f items at d lt
    ∙ ap (λ (n : ℕ). map f (take n items) ++ drop n items) next
