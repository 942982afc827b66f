-- How many challenges serving draws, and how long sends are.
use Rattle.std.proofs.Common.{◌≡◌, ◌∙◌, ℕ, suc, ◌+◌, ◌*◌, ◌/◌, ◌≤◌, List, [], ◌∷◌, ◌++◌, length, map, Option, Some, None, Result, Ok, Err, refl, sym, ap, subst, arith}
use Rattle.std.proofs.lemmas.List.{length-append, append-nil}
use Rattle.std.specs.List.{flat_map, AllByRecursion}
use Rattle.outside.specs.declared.action.Action.{Action}
use Rattle.outside.specs.declared.action.StepRefused.{StepRefused}
use Rattle.outside.specs.declared.action.StepRefused.TheVariants.{Spent, Memory, Stopped}
use Rattle.outside.specs.Drawing.{IsRest}
use Rattle.outside.specs.Machine.{Part, AnswersBy, left_by}
use Rattle.rpc_units.specs.declared.refused.UnitRefused.{UnitRefused}
use Rattle.rpc_units.specs.declared.unit.Trailer.{Trailer}
use Rattle.rpc_units.specs.declared.unit.Unit.{Unit as RpcUnit}
use Rattle.rpc_units.specs.Calls.{bytes_of_call}
use Rattle.rpc_units.specs.Joining.{stub_of, stub_size, cut_of, IsWholeCall}
use Rattle.rpc_units.specs.Stream.{cut_stream, rest_limit}
use Rattle.rpc_units.specs.Writing.{value_len, written, HasValue, IsWritable}
use Rattle.rpc_units.proofs.CutStreamLaws.{units_counted}
use Rattle.rpc_units.proofs.CuttingLaws.{call_short, cut_short, cut_whole, cut_writable}
use Rattle.end_links.specs.Bounds.{IsShortSend, AreShortSends, ServerDrawsFew, StepsBounded, extra_on, extra_after}
use Rattle.end_links.specs.Links.{LinkState}
use Rattle.end_links.specs.Sending.{frames_of, joined_frames}
use Rattle.end_links.specs.Serving.{Server, ServedPart, Service, StreamsBy, with_close, then_talk, then_open, served_by, served_cut}

-- ---- sends

pub sends_append : (actions : List Action) (action : Action) → AreShortSends actions → IsShortSend action → AreShortSends (actions ++ action ∷ [])
sends_append [] action short one = (one, tt)
sends_append (first ∷ actions) action short one = (short.0, sends_append actions action short.1 one)

-- the bytes of a call's frames are those of the call
joined_map : (units : List RpcUnit) → joined_frames (map written units) ≡ flat_map written units
joined_map [] = refl
joined_map (unit ∷ units) = ap (λ (more : List ℕ). written unit ++ more) (joined_map units)

pub frames_joined : (unit : RpcUnit) (limit : ℕ) → joined_frames (frames_of unit limit) ≡ bytes_of_call unit limit
unfolding frames_of
frames_joined unit limit = joined_map (cut_of unit limit)

-- a call without a trailer
pub plain_short : (unit : RpcUnit) (limit : ℕ) → IsWholeCall unit → unit.trailer ≡ None → 1432 ≤ limit →
    8 * length (bytes_of_call unit limit) ≤ 9 * length (stub_of unit.body) + 408
plain_short unit limit whole none least = call_short unit limit whole.stub least (subst (λ (t : Option Trailer). value_len t ≤ 16) (sym none) (omega arith))

pub frames_short : (unit : RpcUnit) (limit : ℕ) → IsWholeCall unit → unit.trailer ≡ None → 1432 ≤ limit →
    8 * length (joined_frames (frames_of unit limit)) ≤ 9 * length (stub_of unit.body) + 408
frames_short unit limit whole none least = rw (frames_joined unit limit) (plain_short unit limit whole none least)

-- ---- a call without a trailer that one unit carries

pub one_bytes : (unit : RpcUnit) (limit : ℕ) → IsWholeCall unit → length (stub_of unit.body) ≤ stub_size limit → bytes_of_call unit limit ≡ written unit
one_bytes unit limit whole one = ap (flat_map written) (cut_whole unit limit whole one) ∙ append-nil (written unit)

pub one_writable : (unit : RpcUnit) (limit : ℕ) → IsWholeCall unit → unit.trailer ≡ None → 1432 ≤ limit → length (stub_of unit.body) ≤ stub_size limit → IsWritable unit
one_writable unit limit whole none least one =
    (subst (AllByRecursion IsWritable) (cut_whole unit limit whole one)
    (cut_writable unit limit whole.stub (subst HasValue (sym none) tt) (omega arith))).0

pub one_short : (unit : RpcUnit) (limit : ℕ) → IsWholeCall unit → unit.trailer ≡ None → 1432 ≤ limit → limit ≤ 5840 → length (stub_of unit.body) ≤ stub_size limit → length (written unit) ≤ 5840
one_short unit limit whole none least most one =
    let each = subst (AllByRecursion (λ u. length (written u) + 16 ≤ limit + value_len unit.trailer)) (cut_whole unit limit whole one)
    (cut_short unit limit whole.stub (omega arith)) in
    let plain : value_len unit.trailer ≡ 0 = ap value_len none in
    omega (arith, each.0, plain)

-- ---- challenges

-- a unit that draws nothing, whatever is still allowed before and after it, where that is the same
pub nothing_drawn : (count extra : ℕ) → count + extra ≤ count + 1 + extra
nothing_drawn count extra = omega arith

pub none_fewer : (count : ℕ) → count ≤ count
none_fewer count = omega arith

close_few : {W : Type 0} (T : Type 0) (part : Result (Part W) StepRefused) (left : List (List ℕ)) (more : ℕ) → length left ≤ length (left_by part) →
    length left ≤ length (left_by (with_close {T = T} part)) + 0 + more
close_few T (Err why) left more few = omega (arith, few)
close_few T (Ok part) left more few = omega (arith, few)

said_few : {W T : Type 0} (extra : T → ℕ) (count : ℕ) (work : W) (talk : Option T) (left : List (List ℕ)) (later : Service W T) →
    ((w : W) (t : T) (l : List (List ℕ)) → length l ≤ length (left_by (later w t l)) + count + extra t) →
    length left ≤ length (left_by (then_talk work talk left later)) + count + extra_on extra talk
said_few extra count work None left later few = omega arith
said_few extra count work (Some talk) left later few = few work talk left

open_few : {W T : Type 0} (extra : T → ℕ) (count more : ℕ) (part : ServedPart W T) (left : List (List ℕ)) (later : Service W T) →
    length left + extra_after extra part ≤ length (left_by part) + 1 + more →
    ((w : W) (t : T) (l : List (List ℕ)) → length l ≤ length (left_by (later w t l)) + count + extra t) →
    length left ≤ length (left_by (then_open part later)) + suc count + more
open_few extra count more (Err why) left later first few = omega (arith, first)
open_few extra count more (Ok part) left later first few =
    omega (arith, first, said_few extra count part.value.0 part.value.1 part.left later few)

served_few : {W T : Type 0} (server : Server W T) (extra : T → ℕ) → ServerDrawsFew server extra → (units : List (List ℕ)) (why : Option UnitRefused)
    (work : W) (talk : T) (left : List (List ℕ)) → length left ≤ length (left_by (served_by server units why work talk left)) + length units + extra talk
served_few server extra few [] None work talk left = omega arith
served_few server extra few [] (Some why) work talk left =
    close_few _ (server.refusal why work talk left) left (extra talk) (few.refusal why work talk left)
served_few server extra few (bytes ∷ units) why work talk left =
    open_few extra (length units) (extra talk) (server.unit bytes work talk left) left (λ later said rest. served_by server units why later said rest)
    (few.unit bytes work talk left) (served_few server extra few units why)

-- at most one challenge for each 16 bytes of a stream, and those that are allowed besides
pub stream_few : {W T : Type 0} (server : Server W T) (extra : T → ℕ) → ServerDrawsFew server extra → (stream : List ℕ)
    (work : W) (talk : T) (left : List (List ℕ)) →
    length left ≤ length (left_by (served_cut server (cut_stream stream) work talk left)) + length stream / 16 + extra talk
stream_few server extra few stream work talk left =
    let cut = cut_stream stream in
    omega (arith, served_few server extra few cut.units cut.refused work talk left, units_counted stream)

-- ---- calls

rest_few : (rest all : List (List ℕ)) → IsRest rest all → length rest ≤ length all
rest_few rest all is = omega (arith, length-append is.front rest, ap length is.is)

-- a call that makes a part leaves no fewer than the part
pub answers_few : {T : Type 0} (result : Result T StepRefused) (part : Result (Part T) StepRefused) (left : List (List ℕ)) →
    AnswersBy result part left → length (left_by part) ≤ length left
answers_few (Ok value) part left answer = rw answer (omega arith)
answers_few (Err Spent) part left answer = rw answer.0 (omega arith)
answers_few (Err Memory) part left answer = rest_few (left_by part) left answer
answers_few (Err Stopped) part left answer = absurd answer

pub streams_few : {W T : Type 0} (result : Result (W × Option (LinkState T)) StepRefused) (part : ServedPart W T) (rest : List ℕ) (left : List (List ℕ)) →
    StreamsBy result part rest left → length (left_by part) ≤ length left
streams_few (Ok done) part rest left answer = rw answer.0 (omega arith)
streams_few (Err why) part rest left answer = answers_few (Err why) part left answer

-- how many a call draws that serves a stream
pub piece_few : {W T : Type 0} (server : Server W T) (extra : T → ℕ) → ServerDrawsFew server extra → (result : Result (W × Option (LinkState T)) StepRefused)
    (held piece : List ℕ) (work : W) (talk : T) (before after : List (List ℕ)) → length held ≤ rest_limit →
    StreamsBy result (served_cut server (cut_stream (held ++ piece)) work talk before) (cut_stream (held ++ piece)).rest after →
    length before ≤ length after + (rest_limit + length piece) / 16 + extra talk
piece_few server extra few result held piece work talk before after short answer =
    let stream = held ++ piece in
    omega (
      arith,
      streams_few result (served_cut server (cut_stream stream) work talk before) (cut_stream stream).rest after answer,
      stream_few server extra few stream work talk before,
      length-append held piece,
    )

pub steps_bounded : {W T : Type 0} → StepsBounded W T
steps_bounded = record { few = stream_few; left = answers_few; streams = streams_few }
