-- A call that one end seals arrives at the other end. It serves `sealed_calls_arrive`.
use Rattle.std.proofs.Common.{◌≡◌, ◌≤◌, ◌<◌, ◌+◌, ◌-◌, ◌^◌, ℕ, Bool, true, not, List, [], ◌∷◌, ◌++◌, length, map, take, drop, replicate, Option, Some, None, Ok, refl, sym, ap, ap₂, subst, ◌∙◌, append_assoc, arith, length-append, length-drop, length-take}
use Rattle.std.proofs.lemmas.Bool.{eq-eqb}
use Rattle.std.proofs.lemmas.List.{drop-append-le, length-map, take-append-le, take_at}
use Rattle.std.specs.Int.{w16, w32, to_le_bytes}
use Rattle.std.specs.List.{AllByRecursion}
use Rattle.rpc_units.specs.declared.unit.Body.{Body}
use Rattle.rpc_units.specs.declared.unit.Body.TheVariants.{Bind, BindAck, BindNak, Auth3, Request, Response, Fault}
use Rattle.rpc_units.specs.declared.unit.Trailer.{Trailer}
use Rattle.rpc_units.specs.declared.unit.Unit.{Unit as RpcUnit}
use Rattle.rpc_units.specs.Joining.{Continue, HasStub, IsJoined, IsWholeCall, cut_of, same_call, stub_of, stubs_of, with_stub}
use Rattle.rpc_units.specs.Reading.{unit_of}
use Rattle.rpc_units.specs.Sealed.{range_replaced, trailer_with_value, unit_with_stub}
use Rattle.rpc_units.specs.Sealing.{sealed_of}
use Rattle.rpc_units.specs.Stream.{AreUnit, cut_stream, with_unit}
use Rattle.rpc_units.specs.Writing.{HasContextNumber, IsInRange, IsSendable, pad_for, written, written_body, written_header, written_rest, written_start, zeros}
use Rattle.rpc_units.specs.Calls.{CanBeSent}
use Rattle.rpc_units.proofs.CutStreamLaws.{cut_first, cut_waits}
use Rattle.rpc_units.proofs.CuttingLaws.{IsJoined-cut_of, cut_each, cut_sendable}
use Rattle.rpc_units.proofs.GrammarLaws.{IsUnit-unit_of}
use Rattle.rpc_units.proofs.JoiningLaws.{AddsTo-IsJoined}
use Rattle.rpc_units.proofs.SealedLaws.{sealed_of-Some, sealed_of-written, unit_of-range_replaced}
use Rattle.rpc_units.proofs.StreamLaws.{front_of-nil}
use Rattle.rpc_units.proofs.WritingLaws.{unit_of-written}
use Rattle.netlogon_seal.specs.Channels.{NlState}
use Rattle.netlogon_seal.specs.Runs.{Follows, PlainUnit, after_sending, after_taking, sealing_done}
use Rattle.netlogon_seal.specs.Signatures.{before_signature, sealed_unit, sealing_key_of, sequence_bytes, signature_of}
use Rattle.netlogon_seal.proofs.CarryLaws.{follows_after, length-signature_of, length_before, opening_goes, sealing_goes}
use Rattle.netlogon_seal.proofs.SealLaws.{combined_range}
use Rattle.end_links.specs.Sending.{frames_of, joined_frames}
use Rattle.channel_sealing.specs.Exchanges.{IsCarried, SealedCallsArrive, open_frame, open_frames, open_in, opened_with, then_opened}
use Rattle.channel_sealing.specs.Frames.{SealedFrame, SealedFrames, frame_with, range_by, range_if, range_of, seal_all, seal_frame, seal_in, then_frames, behind}
use Rattle.channel_sealing.specs.Trailers.{sealed_limit, trailer_of, with_room}

-- ---- another value of a unit that is written

five : (a b c d e v : List ℕ) → a ++ (b ++ (c ++ (d ++ (e ++ v)))) ≡ (a ++ (b ++ (c ++ (d ++ e)))) ++ v
five a b c d e v =
    ap (λ x. a ++ (b ++ (c ++ x))) (sym (append_assoc d e v))
    ∙ ap (λ x. a ++ (b ++ x)) (sym (append_assoc c (d ++ e) v))
    ∙ ap (λ x. a ++ x) (sym (append_assoc b (c ++ (d ++ e)) v))
    ∙ sym (append_assoc a (b ++ (c ++ (d ++ e))) v)

abbrev unit_with : RpcUnit → Trailer → RpcUnit
unit_with unit trailer = record unit { trailer = Some trailer }

same_count : (unit : RpcUnit) (trailer : Trailer) (value : List ℕ) → length value ≡ length trailer.value →
    length (written_rest (unit_with unit (trailer_with_value value trailer))) ≡ length (written_rest (unit_with unit trailer))
same_count unit trailer value size =
    let body = written_body unit.body in
    let pad : List ℕ = zeros (pad_for (length body)) in
    let four : List ℕ = trailer.kind ∷ trailer.level ∷ pad_for (length body) ∷ 0 ∷ [] in
    let context : List ℕ = to_le_bytes w32 trailer.context in
    ap length (five [] body pad four context value)
    ∙ length-append (body ++ (pad ++ (four ++ context))) value
    ∙ ap (λ n. length (body ++ (pad ++ (four ++ context))) + n) size
    ∙ sym (length-append (body ++ (pad ++ (four ++ context))) trailer.value)
    ∙ sym (ap length (five [] body pad four context trailer.value))

-- all bytes of a written unit with a trailer, before its value
front_bytes : (unit : RpcUnit) (trailer : Trailer) → List ℕ
front_bytes unit trailer =
    let body = written_body unit.body in
    written_header (unit_with unit trailer) (length (written_rest (unit_with unit trailer)))
    ++ (body ++ (zeros (pad_for (length body)) ++ ((trailer.kind ∷ trailer.level ∷ pad_for (length body) ∷ 0 ∷ []) ++ to_le_bytes w32 trailer.context)))

written_parts : (unit : RpcUnit) (trailer : Trailer) → written (unit_with unit trailer) ≡ front_bytes unit trailer ++ trailer.value
unfolding written front_bytes
written_parts unit trailer =
    let body = written_body unit.body in
    five (written_header (unit_with unit trailer) (length (written_rest (unit_with unit trailer)))) body (zeros (pad_for (length body)))
    (trailer.kind ∷ trailer.level ∷ pad_for (length body) ∷ 0 ∷ []) (to_le_bytes w32 trailer.context) trailer.value

same_front : (unit : RpcUnit) (trailer : Trailer) (value : List ℕ) → length value ≡ length trailer.value → front_bytes unit (trailer_with_value value trailer) ≡ front_bytes unit trailer
unfolding front_bytes written_start
same_front unit trailer value size =
    let body = written_body unit.body in
    let rest : List ℕ = body ++ (zeros (pad_for (length body)) ++ ((trailer.kind ∷ trailer.level ∷ pad_for (length body) ∷ 0 ∷ []) ++ to_le_bytes w32 trailer.context)) in
    let head : ℕ → ℕ → List ℕ = λ n v. written_start unit ++ (to_le_bytes w16 (16 + n) ++ (to_le_bytes w16 v ++ to_le_bytes w32 unit.call)) in
    ap (λ n. head n (length value) ++ rest) (same_count unit trailer value size)
    ∙ ap (λ v. head (length (written_rest (unit_with unit trailer))) v ++ rest) size

-- with another signature behind it, it is the unit that is written with that
signed_again : (unit : RpcUnit) (trailer : Trailer) (value : List ℕ) → length trailer.value ≡ 32 → length value ≡ 32 →
    before_signature (written (unit_with unit trailer)) ++ value ≡ written (unit_with unit (trailer_with_value value trailer))
signed_again unit trailer value old new =
    let front : List ℕ = front_bytes unit trailer in
    let place : length (front ++ trailer.value) - 32 ≡ length front = omega (arith, length-append front trailer.value, old) in
    ap (λ x. before_signature x ++ value) (written_parts unit trailer)
    ∙ ap (λ n. take n (front ++ trailer.value) ++ value) place
    ∙ ap (λ x. x ++ value) (take_at front trailer.value (length front) refl)
    ∙ ap (λ x. x ++ value) (sym (same_front unit trailer value (new ∙ sym old)))
    ∙ sym (written_parts unit (trailer_with_value value trailer))

-- ---- one frame

pub record IsFrame (u : RpcUnit) : Type 0 where
  pub trailer : Trailer
  pub has : u.trailer ≡ Some trailer
  pub room : length trailer.value ≡ 32
  pub stub : HasStub u.body
  pub sendable : IsSendable u

record CarriedFrame (one other : NlState) (confounder : List ℕ) (u : RpcUnit) : Type 0 where
  sealed : List ℕ
  seals : seal_frame one confounder (written u) ≡ Some (record { frame = sealed; seal = after_sending one })
  trailer : Option Trailer
  opens : open_frame other sealed ≡ Some (record { frame = written (record u { trailer = trailer }); seal = after_taking other })
  are : AreUnit sealed
  sendable : IsSendable (record u { trailer = trailer })

pub in_range : (frame : List ℕ) (to : ℕ) → sealed_of frame ≡ Some (24, to) → to + 40 ≡ length frame → range_of frame ≡ Some (24, to)
in_range frame to sealed whole =
    ap (λ (range : Option (ℕ × ℕ)). range_by range frame) sealed ∙ ap (λ (fits : Bool). range_if fits (24, to)) (eq-eqb _ _ whole)

-- a range in front of a signature is replaced
replaced_front : (front signature range : List ℕ) (to : ℕ) → 24 ≤ to → to ≤ length front →
    (take 24 front ++ range ++ drop to front) ++ signature ≡ range_replaced (front ++ signature) 24 to range
replaced_front front signature range to order within =
    append_assoc (take 24 front ++ range) (drop to front) signature
    ∙ ap₂ (λ (a b : List ℕ). (a ++ range) ++ b) (sym (take-append-le 24 front signature (omega (arith, order, within)))) (sym (drop-append-le to front signature within))

replaced_length : (bytes range : List ℕ) (to : ℕ) → 24 ≤ to → to ≤ length bytes → length range ≡ to - 24 → length (range_replaced bytes 24 to range) ≡ length bytes
replaced_length bytes range to order within count =
    omega (arith, length-append (take 24 bytes ++ range) (drop to bytes), length-append (take 24 bytes) range, length-take 24 bytes, length-drop to bytes, count)

-- the unit with that signature in place of the room for one
abbrev signed : (u : RpcUnit) (trailer : Trailer) (signature : List ℕ) → RpcUnit
signed u trailer signature = unit_with u (trailer_with_value signature trailer)

with_own : (u : RpcUnit) (trailer : Trailer) → u.trailer ≡ Some trailer → unit_with u trailer ≡ u
with_own u trailer has = ap (λ (t : Option Trailer). record u { trailer = t }) (sym has)

signed_sendable : (u : RpcUnit) (trailer : Trailer) (signature : List ℕ) → u.trailer ≡ Some trailer → length signature ≡ 32 → length (written (signed u trailer signature)) ≡ length (written u) →
    IsSendable u → IsSendable (signed u trailer signature)
signed_sendable u trailer signature has size same s = record {
  writable = record { pieces = s.writable.pieces; counts = s.writable.counts; value = omega (arith, size) };
  range = record { call = s.range.call; body = s.range.body; trailer = subst HasContextNumber has s.range.trailer };
  short = omega (arith, same, s.short);
}

-- what is sealed of a frame is the frame with that signature, of which the range is replaced
sealed_front : (one : NlState) (front confounder : List ℕ) (to : ℕ) → 24 ≤ to → to ≤ length front →
    (range : List ℕ) × (length range ≡ to - 24)
    × (sealed_unit one.key one.sent one.requester front 24 to confounder
    ≡ range_replaced (front ++ signature_of one.key one.sent one.requester front confounder) 24 to range)
unfolding sealed_unit
sealed_front one front confounder to order within =
    let signature : List ℕ = signature_of one.key one.sent one.requester front confounder in
    let c = combined_range (sealing_key_of one.key (sequence_bytes one.sent one.requester)) front 24 to order within in
    (c.0, c.1, ap (λ x. x ++ signature) c.2 ∙ replaced_front front signature c.0 to order within)

-- an end that follows the other makes the other's signature of the plain bytes
same_signature : (one other : NlState) (front confounder : List ℕ) → Follows one other →
    signature_of other.key other.received (not other.requester) front confounder ≡ signature_of one.key one.sent one.requester front confounder
same_signature one other front confounder f =
    ap (λ k. signature_of k other.received (not other.requester) front confounder) (sym f.key)
    ∙ ap (λ n. signature_of one.key n (not other.requester) front confounder) (sym f.numbers)
    ∙ ap (λ b. signature_of one.key one.sent b front confounder) (sym f.sides)

carried_frame : (one other : NlState) (confounder : List ℕ) (u : RpcUnit) → IsFrame u → Follows one other → length confounder ≡ 8 → one.sent < 2 ^ 32 - 1 → CarriedFrame one other confounder u
carried_frame one other confounder u f follows eight below =
    let frame : List ℕ = written u in
    let place : ℕ = length frame - (8 + length f.trailer.value) in
    let sealable : sealed_of frame ≡ Some (24, place) = sealed_of-written u f.trailer f.sendable.writable f.sendable.range f.sendable.short f.stub f.has in
    let order : 24 ≤ place = (sealed_of-Some frame 24 place sealable).in_order in
    let whole : place + 40 ≡ length frame = omega (arith, order, f.room) in
    let front : List ℕ = before_signature frame in
    let front_size : length front ≡ place + 8 = omega (arith, length_before frame (omega (arith, whole)), whole) in
    let signature : List ℕ = signature_of one.key one.sent one.requester front confounder in
    let size : length signature ≡ 32 = length-signature_of one.key one.sent one.requester front confounder eight in
    let p : PlainUnit = record { unit = frame; from = 24; to = place; confounder = confounder } in
    let sealed : List ℕ = (sealing_done one p).unit in
    let changed : RpcUnit = signed u f.trailer signature in
    -- the opened frame is that of the unit with the signature
    let again : front ++ signature ≡ written changed =
    ap (λ (v : RpcUnit). before_signature (written v) ++ signature) (sym (with_own u f.trailer f.has)) ∙ signed_again u f.trailer signature f.room size in
    let all : length (written changed) ≡ length frame = omega (arith, ap length again, length-append front signature, front_size, size, whole) in
    let sendable : IsSendable changed = signed_sendable u f.trailer signature f.has size all f.sendable in
    -- the sealed frame is it with another range
    let other_range = sealed_front one front confounder place order (omega (arith, front_size)) in
    let replaced : sealed ≡ range_replaced (written changed) 24 place other_range.0 = other_range.2 ∙ ap (λ x. range_replaced x 24 place other_range.0) again in
    let to_is : length (written changed) - (8 + length signature) ≡ place = omega (arith, all, size, whole) in
    let changed_range : sealed_of (written changed) ≡ Some (24, place) =
    sealed_of-written changed (trailer_with_value signature f.trailer) sendable.writable sendable.range sendable.short f.stub refl ∙ ap (λ (to : ℕ). Some (24, to)) to_is in
    let both = unit_of-range_replaced (written changed) changed 24 place other_range.0 changed_range (unit_of-written changed sendable.writable sendable.range sendable.short) other_range.1 in
    let as_sealed : RpcUnit = unit_with_stub changed (take (length (stub_of changed.body)) other_range.0) in
    let sealed_size : length sealed ≡ length frame =
    omega (arith, ap length other_range.2, replaced_length (front ++ signature) other_range.0 place order (omega (arith, length-append front signature, front_size)) other_range.1, length-append front signature, front_size, size, whole) in
    let range : range_of sealed ≡ Some (24, place) = in_range sealed place (ap sealed_of replaced ∙ both.1) (whole ∙ sym sealed_size) in
    record {
      sealed = sealed;
      seals = ap (λ (r : Option (ℕ × ℕ)). seal_in r one confounder frame) (in_range frame place sealable whole) ∙ ap frame_with (sealing_goes one p below);
      trailer = changed.trailer;
      opens = ap (λ (r : Option (ℕ × ℕ)). open_in r other sealed) range
          ∙ ap opened_with (opening_goes one other p follows (order, omega (arith, whole), eight) below)
          ∙ ap (λ (x : List ℕ). Some (record { frame = x; seal = after_taking other })) (ap (λ (x : List ℕ). front ++ x) (same_signature one other front confounder follows) ∙ again);
      are = record { unit = as_sealed; form = IsUnit-unit_of sealed as_sealed (ap unit_of replaced ∙ both.0) };
      sendable = sendable;
    }

-- ---- all frames

-- two lists of units are the same, but for their trailers
abbrev AreAlike : List RpcUnit → List RpcUnit → Type 0
AreAlike [] [] = Unit {0}
AreAlike (u ∷ us) (v ∷ vs) = ((t : Option Trailer) × (v ≡ record u { trailer = t })) × AreAlike us vs
AreAlike _ _ = ⊥

record CarriedFrames (one other : NlState) (confounder : List ℕ) (us : List RpcUnit) : Type 0 where
  sealed : SealedFrames
  seals : seal_all one confounder (map written us) ≡ Some sealed
  units : List RpcUnit
  alike : AreAlike us units
  left : NlState
  opens : open_frames other sealed.frames ≡ Some (record { frames = map written units; seal = left })
  are : AllByRecursion AreUnit sealed.frames
  sendable : AllByRecursion IsSendable units
  follows : Follows sealed.seal left

carried_frames : (one other : NlState) (confounder : List ℕ) (us : List RpcUnit) → AllByRecursion IsFrame us → Follows one other → length confounder ≡ 8 → one.sent + length us < 2 ^ 32 →
    CarriedFrames one other confounder us
unfolding seal_all open_frames
carried_frames one other confounder [] each follows eight below = record {
  sealed = record { frames = []; seal = one };
  seals = refl;
  units = [];
  alike = tt;
  left = other;
  opens = refl;
  are = tt;
  sendable = tt;
  follows = follows;
}
carried_frames one other confounder (u ∷ us) each follows eight below =
    let c : CarriedFrame one other confounder u = carried_frame one other confounder u each.0 follows eight (omega (arith, below)) in
    let later : CarriedFrames (after_sending one) (after_taking other) confounder us =
    carried_frames (after_sending one) (after_taking other) confounder us each.1 (follows_after one other follows) eight (omega (arith, below)) in
    record {
      sealed = record { frames = c.sealed ∷ later.sealed.frames; seal = later.sealed.seal };
      seals = ap (λ (done : Option SealedFrame). then_frames done (λ next. seal_all next confounder (map written us))) c.seals ∙ ap (behind c.sealed) later.seals;
      units = record u { trailer = c.trailer } ∷ later.units;
      alike = ((c.trailer, refl), later.alike);
      left = later.left;
      opens = ap (λ (done : Option SealedFrame). then_opened done (λ next. open_frames next later.sealed.frames)) c.opens
          ∙ ap (behind (written (record u { trailer = c.trailer }))) later.opens;
      are = (c.are, later.are);
      sendable = (c.sendable, later.sendable);
      follows = later.follows;
    }

cut_frames : (frames : List (List ℕ)) → AllByRecursion AreUnit frames → cut_stream (joined_frames frames) ≡ record { units = frames; rest = []; refused = None }
cut_frames [] are = cut_waits [] front_of-nil
cut_frames (frame ∷ frames) are = cut_first frame (joined_frames frames) are.0 ∙ ap (with_unit frame) (cut_frames frames are.1)

read_again : (units : List RpcUnit) → AllByRecursion IsSendable units → map unit_of (map written units) ≡ map (λ unit. Ok unit) units
read_again [] each = refl
read_again (unit ∷ units) each =
    let s : IsSendable unit = each.0 in
    let one = unit_of-written unit s.writable s.range s.short in
    let more = read_again units each.1 in
    (λ i. one i ∷ more i)

-- ---- what is joined

stubs_alike : (us vs : List RpcUnit) → AreAlike us vs → stubs_of vs ≡ stubs_of us
stubs_alike [] [] alike = refl
stubs_alike (u ∷ us) (v ∷ vs) alike = ap₂ (λ (a b : List ℕ). a ++ b) (ap (λ (x : RpcUnit). stub_of x.body) alike.0.1) (stubs_alike us vs alike.1)
stubs_alike [] (v ∷ vs) alike = absurd alike
stubs_alike (u ∷ us) [] alike = absurd alike

continue_alike : (first : RpcUnit) (t : Option Trailer) (last : Bool) (us vs : List RpcUnit) → AreAlike us vs → Continue first last us → Continue (record first { trailer = t }) last vs
continue_alike first t last [] [] alike on = on
continue_alike first t last (u ∷ us) (v ∷ vs) alike on =
    let is : v ≡ record u { trailer = alike.0.0 } = alike.0.1 in (
      on.0,
      ap (λ (x : RpcUnit). x.first) is ∙ on.1,
      ap (λ (x : RpcUnit). same_call first x) is ∙ on.2,
      subst (λ (x : RpcUnit). Continue (record first { trailer = t }) x.last vs) (sym is) (continue_alike first t u.last us vs alike.1 on.3),
    )
continue_alike first t last [] (v ∷ vs) alike on = absurd alike
continue_alike first t last (u ∷ us) [] alike on = absurd alike

-- the whole with the trailer of the first
record JoinedAlike (vs : List RpcUnit) (whole : RpcUnit) : Type 0 where
  trailer : Option Trailer
  joined : IsJoined vs (record whole { trailer = trailer })

joined_alike : (us vs : List RpcUnit) (whole : RpcUnit) → AreAlike us vs → IsJoined us whole → JoinedAlike vs whole
joined_alike [] vs whole alike is = absurd is
joined_alike (u ∷ us) [] whole alike is = absurd alike
joined_alike (u ∷ us) (v ∷ vs) whole alike is =
    let t : Option Trailer = alike.0.0 in
    let same : v ≡ record u { trailer = t } = alike.0.1 in
    let stubs : stubs_of vs ≡ stubs_of us = stubs_alike us vs alike.1 in
    let first : RpcUnit = record u { trailer = t } in
    let whole_is : record whole { trailer = t } ≡ record first { last = true; body = with_stub first.body (stub_of first.body ++ stubs_of vs) } =
    ap (λ (x : RpcUnit). record x { trailer = t }) is.2 ∙ ap (λ (x : List ℕ). record first { last = true; body = with_stub first.body (stub_of first.body ++ x) }) (sym stubs) in
    record {
      trailer = t;
      joined = subst (λ (x : RpcUnit). IsJoined (x ∷ vs) (record whole { trailer = t })) (sym same) (is.0, continue_alike u t u.last us vs alike.1 is.1, whole_is);
    }

-- ---- the whole

has_stub_with : (body : Body) (stub : List ℕ) → HasStub body → HasStub (with_stub body stub)
has_stub_with (Request hint context opnum own) stub has = tt
has_stub_with (Response hint context own) stub has = tt
has_stub_with (Bind send receive group contexts) stub has = absurd has
has_stub_with (BindAck send receive group results) stub has = absurd has
has_stub_with (BindNak reason) stub has = absurd has
has_stub_with Auth3 stub has = absurd has
has_stub_with (Fault hint context status) stub has = absurd has

abbrev HasRoom : ℕ → RpcUnit → Type 0
HasRoom context u = (u.trailer ≡ Some (trailer_of context (replicate 32 0))) × HasStub u.body

with_sendable : (context : ℕ) (us : List RpcUnit) → AllByRecursion (HasRoom context) us → AllByRecursion IsSendable us → AllByRecursion IsFrame us
with_sendable context [] room each = tt
with_sendable context (u ∷ us) room each = (
  record { trailer = trailer_of context (replicate 32 0); has = room.0.0; room = refl; stub = room.0.1; sendable = each.0 },
  with_sendable context us room.1 each.1,
)

pub frames_each : (context limit : ℕ) (call : RpcUnit) → CanBeSent (with_room context call) limit → AllByRecursion IsFrame (cut_of (with_room context call) limit)
frames_each context limit call can =
    let least : 1432 ≤ limit = can.least in
    with_sendable context (cut_of (with_room context call) limit)
    (cut_each (HasRoom context) (with_room context call) limit (omega (arith, least)) (λ first last stub short. (refl, has_stub_with call.body stub can.whole.stub)))
    (cut_sendable (with_room context call) limit can)

-- the stub of a whole is those of its fragments
stub_with : (body : Body) (stub : List ℕ) → HasStub (with_stub body stub) → stub_of (with_stub body stub) ≡ stub
stub_with (Request hint context opnum own) stub has = refl
stub_with (Response hint context own) stub has = refl
stub_with (Bind send receive group contexts) stub has = absurd has
stub_with (BindAck send receive group results) stub has = absurd has
stub_with (BindNak reason) stub has = absurd has
stub_with Auth3 stub has = absurd has
stub_with (Fault hint context status) stub has = absurd has

joined_stubs : (us : List RpcUnit) (whole : RpcUnit) → IsJoined us whole → HasStub whole.body → stub_of whole.body ≡ stubs_of us
joined_stubs [] whole is has = absurd is
joined_stubs (first ∷ others) whole is has =
    let body : whole.body ≡ with_stub first.body (stub_of first.body ++ stubs_of others) = ap (λ (u : RpcUnit). u.body) is.2 in
    ap stub_of body ∙ stub_with first.body (stub_of first.body ++ stubs_of others) (subst HasStub body has)

arrives_cut : (one other : NlState) (confounder : List ℕ) (context limit : ℕ) (call : RpcUnit) → Follows one other → length confounder ≡ 8 → CanBeSent (with_room context call) limit →
    length (stub_of call.body) ≤ 65536 → one.sent + length (cut_of (with_room context call) limit) < 2 ^ 32 →
    IsCarried one other confounder (map written (cut_of (with_room context call) limit)) call
arrives_cut one other confounder context limit call follows eight can short below =
    let least : 1432 ≤ limit = can.least in
    let roomy : RpcUnit = with_room context call in
    let us : List RpcUnit = cut_of roomy limit in
    let c : CarriedFrames one other confounder us = carried_frames one other confounder us (frames_each context limit call can) follows eight below in
    let cut : IsJoined us roomy = IsJoined-cut_of roomy limit can.whole (omega (arith, least)) in
    let j : JoinedAlike c.units roomy = joined_alike us c.units roomy c.alike cut in
    let stubs : stubs_of c.units ≡ stub_of call.body = stubs_alike us c.units c.alike ∙ sym (joined_stubs us roomy cut can.whole.stub) in
    record {
      sealed = c.sealed;
      seals = c.seals;
      stream = cut_frames c.sealed.frames c.are;
      units = c.units;
      left = c.left;
      opens = c.opens;
      read = read_again c.units c.sendable;
      heard = record roomy { trailer = j.trailer };
      joined = AddsTo-IsJoined c.units (record roomy { trailer = j.trailer }) j.joined (omega (arith, ap length stubs, short));
      same = refl;
      follows = c.follows;
    }

as_many : (call : RpcUnit) (limit : ℕ) → length (frames_of call limit) ≡ length (cut_of call limit)
unfolding frames_of
as_many call limit = length-map (cut_of call limit) written

arrives_so : (one other : NlState) (confounder : List ℕ) (context receive : ℕ) (call : RpcUnit) → Follows one other → length confounder ≡ 8 → IsWholeCall call → IsInRange call → context < 2 ^ 32 →
    length (stub_of call.body) ≤ 65536 → one.sent + length (frames_of (with_room context call) (sealed_limit receive)) < 2 ^ 32 →
    IsCarried one other confounder (frames_of (with_room context call) (sealed_limit receive)) call
unfolding frames_of
arrives_so one other confounder context receive call follows eight is_whole range small short below =
    arrives_cut one other confounder context (sealed_limit receive) call follows eight (record {
      whole = record { stub = is_whole.stub; first = is_whole.first; last = is_whole.last };
      range = record { call = range.call; body = range.body; trailer = small };
      value = omega arith;
      least = omega arith;
      room = omega arith;
    }) short (omega (arith, below, as_many (with_room context call) (sealed_limit receive)))

pub sealed_calls_arrive : SealedCallsArrive
sealed_calls_arrive = record { arrives = arrives_so }
