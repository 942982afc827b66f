-- Parts joined end to end, as a written message is, and what a reader finds at the place of each of them.
use Rattle.std.proofs.Common.{◌≡◌, ℕ, zero, suc, ◌+◌, ◌^◌, ◌<◌, ◌≤◌, ◌&&◌, Bool, true, false, eqb, leb, List, [], ◌∷◌, ◌++◌, length, get_or, take, drop, Option, Some, None, refl, sym, ap, ◌∙◌, append_assoc, arith, inl, inr}
use Rattle.std.specs.Prelude.{IsSome, IsTrue, IfSome, min}
use Rattle.std.specs.List.{concat, AllByRecursion}
use Rattle.std.specs.Int.{Width, w16, w32, byte_len, to_le_bytes}
use Rattle.std.proofs.lemmas.Bool.{ne_eqb, le-leb, lt-leb, and_from, and_right, cases_Bool}
use Rattle.std.proofs.lemmas.List.{take_at, drop_at, length-append}
use Rattle.wire_base.specs.Numbers.{number_at}
use Rattle.wire_base.proofs.NumberLaws.{IsMessageWidth, number_at-written}
use Rattle.ntlm_flags.specs.Flags.{has_flag, negotiate_version}
use Rattle.ntlm_messages.specs.Fields.{short_at, long_at, length_at, offset_at, IsField, gap_of, narrow_gap, narrow_gaps, bytes_if, version_of, mic_of, bytes_of}

-- ---- parts of a joined list

-- how many bytes stand before the part with that number
abbrev pub start_of : List (List ℕ) → ℕ → ℕ
start_of parts zero = 0
start_of [] (suc k) = 0
start_of (part ∷ parts) (suc k) = length part + start_of parts k

-- the part with that number, counted from 0
abbrev pub part_of : List (List ℕ) → ℕ → List ℕ
part_of [] k = []
part_of (part ∷ parts) zero = part
part_of (part ∷ parts) (suc k) = part_of parts k

-- the part stands at the place
pub record Stands (bytes : List ℕ) (place : ℕ) (part : List ℕ) : Type 0 where
  pub front : List ℕ
  pub rest : List ℕ
  pub parts : bytes ≡ front ++ (part ++ rest)
  pub before : length front ≡ place

pub part_stands : (parts : List (List ℕ)) (k : ℕ) → k < length parts → Stands (concat parts) (start_of parts k) (part_of parts k)
part_stands [] k lt = absurd (omega (arith, lt))
part_stands (part ∷ parts) zero lt = record { front = []; rest = concat parts; parts = refl; before = refl }
part_stands (part ∷ parts) (suc k) lt =
    let s = part_stands parts k (omega (arith, lt)) in
    record {
      front = part ++ s.front;
      rest = s.rest;
      parts = ap (λ (x : List ℕ). part ++ x) s.parts ∙ sym (append_assoc part s.front (part_of parts k ++ s.rest));
      before = length-append part s.front ∙ ap (λ (n : ℕ). length part + n) s.before;
    }

pub Stands_ends : (bytes : List ℕ) (place : ℕ) (part : List ℕ) → Stands bytes place part → place + length part ≤ length bytes
Stands_ends bytes place part s = omega (arith, ap length s.parts, length-append s.front (part ++ s.rest), length-append part s.rest, s.before)

pub Stands_bytes : (bytes : List ℕ) (place : ℕ) (part : List ℕ) → Stands bytes place part → take (length part) (drop place bytes) ≡ part
Stands_bytes bytes place part s =
    ap (λ (x : List ℕ). take (length part) (drop place x)) s.parts
    ∙ ap (λ (x : List ℕ). take (length part) x) (drop_at s.front (part ++ s.rest) place s.before)
    ∙ take_at part s.rest (length part) refl

pub Stands_number : (w : Width) (bytes : List ℕ) (place n : ℕ) → IsMessageWidth w → n < 256 ^ byte_len w → Stands bytes place (to_le_bytes w n) → number_at w bytes place ≡ Some n
Stands_number w bytes place n wide fits s = ap (λ (x : List ℕ). number_at w x place) s.parts ∙ number_at-written w s.front s.rest place n wide fits s.before

pub Stands_short : (bytes : List ℕ) (place n : ℕ) → n ≤ 65535 → Stands bytes place (to_le_bytes w16 n) → short_at bytes place ≡ n
Stands_short bytes place n fits s = rw (Stands_number w16 bytes place n tt (omega arith) s) refl

pub Stands_long : (bytes : List ℕ) (place n : ℕ) → n < 2 ^ 32 → Stands bytes place (to_le_bytes w32 n) → long_at bytes place ≡ n
Stands_long bytes place n fits s = rw (Stands_number w32 bytes place n tt (omega (arith, fits)) s) refl

-- ---- a payload field whose place in the header and whose bytes stand where they are said to

pub record IsWrittenField (place size : ℕ) (bytes part : List ℕ) (offset : ℕ) : Type 0 where
  pub len : length_at bytes place ≡ length part
  pub offset_is : offset_at bytes place ≡ offset
  pub begins : size ≤ offset
  pub stands : Stands bytes offset part

pub IsField-written : (place size : ℕ) (bytes part : List ℕ) (offset : ℕ) → IsWrittenField place size bytes part offset → IsField place size bytes part
IsField-written place size bytes part offset f = record {
  len = f.len;
  stands = inr (record {
    begins = omega (arith, f.offset_is, f.begins);
    ends = omega (arith, f.offset_is, Stands_ends bytes offset part f.stands);
    bytes_are = rw f.offset_is (Stands_bytes bytes offset part f.stands);
  });
}

-- ---- the gap

pub gap_in : (places bytes : List ℕ) → gap_of places bytes ≤ length bytes
gap_in [] bytes = omega arith
gap_in (place ∷ places) bytes =
    elim (cases_Bool (eqb (length_at bytes place) 0)) [
      | inl none ↦ rw none (gap_in places bytes)
      | inr some ↦ rw some (omega (arith, gap_in places bytes))
    ]

-- read from the first field to the last, it comes to the same
pub gaps_narrowed : (places bytes : List ℕ) (gap : ℕ) → gap ≤ length bytes → narrow_gaps places bytes gap ≡ min gap (gap_of places bytes)
unfolding narrow_gap
gaps_narrowed [] bytes gap inside = omega (arith, inside)
gaps_narrowed (place ∷ places) bytes gap inside =
    elim (cases_Bool (eqb (length_at bytes place) 0)) [
      | inl none ↦ rw none (gaps_narrowed places bytes gap inside)
      | inr some ↦ rw some (omega (arith, gaps_narrowed places bytes (min gap (offset_at bytes place)) (omega (arith, inside))))
    ]

pub gap_narrowed : (places bytes : List ℕ) → narrow_gaps places bytes (length bytes) ≡ gap_of places bytes
gap_narrowed places bytes = omega (arith, gaps_narrowed places bytes (length bytes) (omega arith), gap_in places bytes)

-- no more than the offset of a field that isn't empty
pub gap_before : (places bytes : List ℕ) (k : ℕ) → k < length places → (length_at bytes (get_or places k 0) ≡ 0 → ⊥) → gap_of places bytes ≤ offset_at bytes (get_or places k 0)
gap_before [] bytes k lt some = absurd (omega (arith, lt))
gap_before (place ∷ places) bytes zero lt some = rw (ne_eqb (length_at bytes place) 0 some) (omega arith)
gap_before (place ∷ places) bytes (suc k) lt some =
    let later = gap_before places bytes k (omega (arith, lt)) some in
    elim (cases_Bool (eqb (length_at bytes place) 0)) [
      | inl none ↦ rw none later
      | inr other ↦ rw other (omega (arith, later))
    ]

-- no less than what no offset is below
pub gap_from : (start : ℕ) (places bytes : List ℕ) → start ≤ length bytes → AllByRecursion (λ place. start ≤ offset_at bytes place) places → start ≤ gap_of places bytes
gap_from start [] bytes inside each = inside
gap_from start (place ∷ places) bytes inside each =
    let later = gap_from start places bytes inside each.1 in
    elim (cases_Bool (eqb (length_at bytes place) 0)) [
      | inl none ↦ rw none later
      | inr some ↦ rw some (omega (arith, later, each.0))
    ]

-- ---- the version and the message integrity code

bytes_if-written : (there : Bool) (place number : ℕ) (bytes : List ℕ) (o : Option (List ℕ)) → (IsSome o → there ≡ true) → (o ≡ None → there ≡ false) → IfSome o (λ b. length b ≡ number) → Stands bytes place (bytes_of o)
    → bytes_if there place number bytes ≡ o
bytes_if-written there place number bytes None present absent len s = rw (absent refl) refl
bytes_if-written there place number bytes (Some b) present absent len s = rw (present refl) (ap (λ (x : List ℕ). Some x) (ap (λ (n : ℕ). take n (drop place bytes)) (sym len) ∙ Stands_bytes bytes place b s))

pub version_of-written : (flags size gap : ℕ) (bytes : List ℕ) (version : Option (List ℕ)) → (IsSome version → IsTrue (has_flag flags negotiate_version)) → (IsSome version → size + 8 ≤ gap) → (version ≡ None → gap < size + 8)
    → IfSome version (λ b. length b ≡ 8) → Stands bytes size (bytes_of version) → version_of flags size gap bytes ≡ version
version_of-written flags size gap bytes version flag room none len s =
    bytes_if-written (has_flag flags negotiate_version && leb (size + 8) gap) size 8 bytes version
    (λ present. and_from _ _ (flag present) (le-leb (size + 8) gap (room present)))
    (λ absent. and_right (has_flag flags negotiate_version) _ (lt-leb (size + 8) gap (none absent)))
    len s

pub mic_of-written : (flags size gap : ℕ) (bytes : List ℕ) (mic : Option (List ℕ)) → (IsSome mic → IsTrue (has_flag flags negotiate_version)) → (IsSome mic → size + 24 ≤ gap) → (mic ≡ None → gap < size + 24)
    → IfSome mic (λ b. length b ≡ 16) → (IsSome mic → Stands bytes (size + 8) (bytes_of mic)) → mic_of flags size gap bytes ≡ mic
mic_of-written flags size gap bytes None flag room none len s =
    rw (and_right (has_flag flags negotiate_version) (leb (size + 24) gap) (lt-leb (size + 24) gap (none refl))) refl
mic_of-written flags size gap bytes (Some b) flag room none len s =
    bytes_if-written (has_flag flags negotiate_version && leb (size + 24) gap) (size + 8) 16 bytes (Some b)
    (λ present. and_from _ _ (flag present) (le-leb (size + 24) gap (room present)))
    (λ absent. absurd cc)
    len (s refl)

-- ---- what the messages' own proofs need

pub length-concat : (parts : List (List ℕ)) → length (concat parts) ≡ start_of parts (length parts)
length-concat [] = refl
length-concat (part ∷ parts) = length-append part (concat parts) ∙ ap (λ (n : ℕ). length part + n) (length-concat parts)

-- three parts of the header, and the field's bytes
pub written_field : (place size : ℕ) (bytes part : List ℕ) (offset : ℕ) → size ≤ offset → offset < 2 ^ 32 → length part ≤ 65535
    → Stands bytes place (to_le_bytes w16 (length part)) → Stands bytes (place + 4) (to_le_bytes w32 offset) → Stands bytes offset part → IsWrittenField place size bytes part offset
written_field place size bytes part offset begins fits short len offset_is stands = record {
  len = Stands_short bytes place (length part) short len;
  offset_is = Stands_long bytes (place + 4) offset fits offset_is;
  begins = begins;
  stands = stands;
}

-- a field with bytes bounds the gap
pub gap_low : (places bytes : List ℕ) (k place size offset : ℕ) (part : List ℕ) → k < length places → get_or places k 0 ≡ place → IsWrittenField place size bytes part offset → (length part ≡ 0 → ⊥) → gap_of places bytes ≤ offset
gap_low places bytes k place size offset part lt here f some =
    let at : length_at bytes (get_or places k 0) ≡ length part = ap (λ (p : ℕ). length_at bytes p) here ∙ f.len in
    let offset_is : offset_at bytes (get_or places k 0) ≡ offset = ap (λ (p : ℕ). offset_at bytes p) here ∙ f.offset_is in
    omega (arith, offset_is, gap_before places bytes k lt (λ e. some (sym at ∙ e)))

pub size_some : (o : Option (List ℕ)) (n : ℕ) → IsSome o → IfSome o (λ b. length b ≡ n) → length (bytes_of o) ≡ n
size_some None n some len = absurd cc
size_some (Some b) n some len = len

pub size_none : (o : Option (List ℕ)) → o ≡ None → length (bytes_of o) ≡ 0
size_none o none = ap (λ (x : Option (List ℕ)). length (bytes_of x)) none

pub size_within : (o : Option (List ℕ)) (n : ℕ) → IfSome o (λ b. length b ≡ n) → length (bytes_of o) ≤ n
size_within None n len = omega arith
size_within (Some b) n len = omega (arith, len)

-- nothing, where what it goes with isn't there
pub size_without : (o other : Option (List ℕ)) → (IsSome o → IsSome other) → other ≡ None → length (bytes_of o) ≡ 0
size_without None other goes_with none = refl
size_without (Some b) other goes_with none = absurd (let e : IsSome other = goes_with refl in cc)
