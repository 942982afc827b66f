-- What is put is of its layout, of bytes, and not long: item by item, and for items one after the other.
use Rattle.std.proofs.Common.{◌≡◌, ℕ, zero, suc, ◌+◌, ◌*◌, ◌^◌, ◌<◌, ◌≤◌, eqb, not, Bool, true, false, IsTrue, List, [], ◌∷◌, ◌++◌, length, refl, sym, ap, subst, ◌∙◌, arith, append_assoc}
use Rattle.std.specs.Prelude.{replicate}
use Rattle.std.specs.List.{flat_map}
use Rattle.std.specs.Int.{Width, w16, w32, byte_len, byte_at, bytes_high_first, to_le_bytes}
use Rattle.std.proofs.lemmas.Bool.{ne_eqb}
use Rattle.std.proofs.lemmas.List.{length-append, append-nil, length-replicate}
use Rattle.wire_base.specs.Numbers.{AreBytes}
use Rattle.wire_base.specs.Units.{utf16_of}
use Rattle.wire_base.specs.Sid.{SidParts, IsSid}
use Rattle.wire_base.proofs.NumberLaws.{AreBytes-nil, AreBytes-cons, AreBytes-append, AreBytes-to_le_bytes, length-to_le_bytes}
use Rattle.wire_base.proofs.UnitLaws.{AreBytes-utf16_of, length-utf16_of}
use Rattle.ndr_codec.specs.Layout.{Grammar, IsAligned, IsNumber, IsArray, array_head, sid_bytes, padding, Shape, ValueOf, byte, short, long, raw, gap, pointer, text, counted, counted_bytes, sid, IsNdr, IsPointer, Then, Done, When}
use Rattle.ndr_codec.specs.Writing.{Written, aligned, put_aligned, put_number, put_pointer, put_array, referent_of, put, CanPut, OfBytes, size_of, Writes}

-- ---- bytes and their number

-- bytes, at most so many
abbrev IsPiece : ℕ → List ℕ → Type 0
IsPiece size bytes = AreBytes bytes × (length bytes ≤ size)

piece_append : (a b : ℕ) (front rest : List ℕ) → IsPiece a front → IsPiece b rest → IsPiece (a + b) (front ++ rest)
piece_append a b front rest first second =
    (AreBytes-append front rest first.0 second.0, omega (arith, length-append front rest, first.1, second.1))

zeros : (n : ℕ) → AreBytes (replicate n 0)
zeros zero = AreBytes-nil
zeros (suc n) = AreBytes-cons 0 (replicate n 0) (omega arith) (zeros n)

padding_two : (place : ℕ) → padding 2 place ≤ 3
unfolding padding
padding_two place = omega arith

padding_four : (place : ℕ) → padding 4 place ≤ 3
unfolding padding
padding_four place = omega arith

aligned_piece : (alignment place size : ℕ) (item : List ℕ) → padding alignment place ≤ 3 → IsPiece size item → IsPiece (3 + size) (aligned alignment item place)
unfolding aligned
aligned_piece alignment place size item few is =
    let pad = padding alignment place in
    piece_append 3 size (replicate pad 0) item (zeros pad, omega (arith, length-replicate {A = ℕ} pad 0, few)) is

number_piece : (w : Width) (n : ℕ) → IsPiece (byte_len w) (to_le_bytes w n)
number_piece w n = (AreBytes-to_le_bytes w n, omega (arith, length-to_le_bytes w n))

array_piece : (actual size : ℕ) (items : List ℕ) → IsPiece size items → IsPiece (12 + size) (array_head actual 0 actual ++ items)
array_piece actual size items is =
    piece_append 12 size (array_head actual 0 actual) items (piece_append 4 8 (to_le_bytes w32 actual) (to_le_bytes w32 0 ++ to_le_bytes w32 actual) (number_piece w32 actual) (piece_append 4 4 (to_le_bytes w32 0) (to_le_bytes w32 actual) (number_piece w32 0) (number_piece w32 actual))) is

units_piece : (units : List ℕ) → IsPiece (2 * length units) (utf16_of units)
units_piece units = (AreBytes-utf16_of units, omega (arith, length-utf16_of units))

six_piece : (n : ℕ) → IsPiece 6 (bytes_high_first 6 n)
six_piece n = (high_bytes 6 n, omega arith) where
  byte_lt : (k m : ℕ) → byte_at k m < 256
  byte_lt zero m = omega arith
  byte_lt (suc k) m = omega arith

  high_bytes : (k m : ℕ) → AreBytes (bytes_high_first k m)
  high_bytes zero m = AreBytes-nil
  high_bytes (suc k) m = AreBytes-cons (byte_at k m) (bytes_high_first k m) (byte_lt k m) (high_bytes k m)

longs_piece : (numbers : List ℕ) → IsPiece (4 * length numbers) (flat_map (to_le_bytes w32) numbers)
longs_piece [] = (AreBytes-nil, omega arith)
longs_piece (n ∷ numbers) =
    let p = piece_append 4 (4 * length numbers) (to_le_bytes w32 n) (flat_map (to_le_bytes w32) numbers) (number_piece w32 n) (longs_piece numbers) in
    (p.0, omega (arith, p.1))

sid_piece : (parts : SidParts) → IsSid parts → IsPiece 72 (sid_bytes parts)
sid_piece parts is =
    let count = length parts.numbers in
    let high = bytes_high_first 6 parts.authority in
    let longs = flat_map (to_le_bytes w32) parts.numbers in
    let two : IsPiece 2 (1 ∷ count ∷ []) = (AreBytes-cons 1 (count ∷ []) (omega arith) (AreBytes-cons count [] (omega (arith, is.at_most)) AreBytes-nil), omega arith) in
    let back = piece_append 6 (4 * count) high longs (six_piece parts.authority) (longs_piece parts.numbers) in
    let more = piece_append 2 (6 + 4 * count) (1 ∷ count ∷ []) (high ++ longs) two back in
    let p = piece_append 4 (2 + (6 + 4 * count)) (to_le_bytes w32 count) ((1 ∷ count ∷ []) ++ (high ++ longs)) (number_piece w32 count) more in
    (p.0, omega (arith, p.1, is.at_most))

-- what writes within a bound writes within a larger one
pub writes_within : {T : Type 0} {grammar : Grammar T} {value : T} {a : ℕ} {old new : Written} (b : ℕ) → a ≤ b → Writes grammar value a old new → Writes grammar value b old new
writes_within b le w = record { bytes = w.bytes; item = w.item; appended = w.appended; are_bytes = w.are_bytes; short = omega (arith, w.short, le) }

-- ---- one item

writes_aligned : {T : Type 0} (grammar : Grammar T) (alignment size : ℕ) (item : List ℕ) (value : T) (written : Written) → padding alignment (length written.bytes) ≤ 3 → IsPiece size item → ((bytes : List ℕ) → IsAligned alignment (length written.bytes) item bytes → grammar (length written.bytes) value bytes) → Writes grammar value (3 + size) written (put_aligned alignment item written)
unfolding aligned
writes_aligned grammar alignment size item value written few is forms =
    let place = length written.bytes in
    let pad = padding alignment place in
    let p = aligned_piece alignment place size item few is in
    record {
      bytes = aligned alignment item place;
      item = forms (aligned alignment item place) (record { gap = replicate pad 0; gap_len = length-replicate pad 0; whole = refl });
      appended = refl;
      are_bytes = p.0;
      short = p.1;
    }

writes_short : (value : ℕ) (written : Written) → value < 2 ^ 16 → Writes (IsNumber w16) value 5 written (put_number w16 value written)
writes_short value written fits = writes_aligned (IsNumber w16) 2 2 (to_le_bytes w16 value) value written (padding_two _) (number_piece w16 value) (λ bytes layout. record { fits = fits; layout = layout })

writes_long : (value : ℕ) (written : Written) → value < 2 ^ 32 → Writes (IsNumber w32) value 7 written (put_number w32 value written)
writes_long value written fits = writes_aligned (IsNumber w32) 4 4 (to_le_bytes w32 value) value written (padding_four _) (number_piece w32 value) (λ bytes layout. record { fits = fits; layout = layout })

writes_array : (actual size : ℕ) (items : List ℕ) (written : Written) → actual < 2 ^ 32 → IsPiece size items → Writes (IsArray actual) items (15 + size) written (put_array actual items written)
writes_array actual size items written fits is =
    writes_within (15 + size) (omega arith) (writes_aligned (IsArray actual) 4 (12 + size) (array_head actual 0 actual ++ items) items written (padding_four _) (array_piece actual size items is) (λ bytes layout. record { maximum = actual; fits = fits; room = omega arith; layout = layout }))

writes_pointer : (there : Bool) (written : Written) → Writes IsPointer there 7 written (put_pointer there written)
writes_pointer true written =
    let n = writes_long (referent_of true written.pointers) written (omega arith) in
    let other : eqb (referent_of true written.pointers) 0 ≡ false = ne_eqb _ _ (λ e. omega (arith, e)) in
    record { bytes = n.bytes; item = record { referent = referent_of true written.pointers; number = n.item; meaning = sym (ap not other) }; appended = n.appended; are_bytes = n.are_bytes; short = n.short }
writes_pointer false written =
    let n = writes_long 0 written (omega arith) in
    record { bytes = n.bytes; item = record { referent = 0; number = n.item; meaning = refl }; appended = n.appended; are_bytes = n.are_bytes; short = n.short }

-- an item of each type
pub writes_item : (s : Shape) (value : ValueOf s) (written : Written) → CanPut s value → OfBytes s value → Writes (IsNdr s) value (size_of s value) written (put s value written)
writes_item byte value written can of = record { bytes = value ∷ []; item = (can, refl); appended = refl; are_bytes = AreBytes-cons value [] can AreBytes-nil; short = omega arith }
writes_item short value written can of = writes_short value written can
writes_item long value written can of = writes_long value written can
writes_item (raw count) value written can of = record { bytes = value; item = (can, refl); appended = refl; are_bytes = of; short = omega arith }
writes_item gap value written can of = writes_aligned (IsNdr gap) 4 0 [] value written (padding_four _) (AreBytes-nil, omega arith) (λ bytes layout. layout)
writes_item pointer there written can of = writes_pointer there written
writes_item text units written can of =
    let u = units_piece (units ++ 0 ∷ []) in
    let a = writes_array (length units + 1) (2 * length units + 2) (utf16_of (units ++ 0 ∷ [])) written can.1 (u.0, omega (arith, u.1, length-append units (0 ∷ []))) in
    record { bytes = a.bytes; item = (can.0, a.item); appended = a.appended; are_bytes = a.are_bytes; short = omega (arith, a.short) }
writes_item (counted len) units written can of =
    let a = writes_array (length units) (2 * length units) (utf16_of units) written can.2 (units_piece units) in
    record { bytes = a.bytes; item = (can.0, can.1, a.item); appended = a.appended; are_bytes = a.are_bytes; short = a.short }
writes_item (counted_bytes len) value written can of =
    let a = writes_array (length value) (length value) value written can.1 (of, omega arith) in
    record { bytes = a.bytes; item = (can.0, a.item); appended = a.appended; are_bytes = a.are_bytes; short = a.short }
writes_item sid parts written can of =
    writes_aligned (IsNdr sid) 4 72 (sid_bytes parts) parts written (padding_four _) (sid_piece parts can.0) (λ bytes layout. record { form = can.0; each = can.1; layout = layout })

-- ---- one after the other

pub writes_then : {T U : Type 0} {grammar : Grammar T} {after : T → Grammar U} {head : T} {value : U} {a b : ℕ} {old middle new : Written} → Writes grammar head a old middle → Writes (after head) value b middle new → Writes (Then grammar after) value (a + b) old new
writes_then {after = after} {head = head} {value = value} {a = a} {b = b} {old = old} {middle = middle} first more =
    let place_is : length middle.bytes ≡ length old.bytes + length first.bytes = ap length first.appended ∙ length-append old.bytes first.bytes in
    let p = piece_append a b first.bytes more.bytes (first.are_bytes, first.short) (more.are_bytes, more.short) in
    record {
      bytes = first.bytes ++ more.bytes;
      item = record {
        head = head;
        front = first.bytes;
        back = more.bytes;
        split = refl;
        head_is = first.item;
        rest_is = subst (λ (p : ℕ). after head p value more.bytes) place_is more.item;
      };
      appended = more.appended ∙ ap (λ (t : List ℕ). t ++ more.bytes) first.appended ∙ append_assoc old.bytes first.bytes more.bytes;
      are_bytes = p.0;
      short = p.1;
    }

pub writes_done : {T : Type 0} (value : T) (written : Written) → Writes (Done value) value 0 written written
writes_done value written = record { bytes = []; item = (refl, refl); appended = sym (append-nil written.bytes); are_bytes = AreBytes-nil; short = omega arith }

pub writes_when : {T : Type 0} {test : Bool} {grammar : Grammar T} {value : T} {size : ℕ} {old new : Written} → IsTrue test → Writes grammar value size old new → Writes (When test grammar) value size old new
writes_when holds more = record { bytes = more.bytes; item = (holds, more.item); appended = more.appended; are_bytes = more.are_bytes; short = more.short }
