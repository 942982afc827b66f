-- Laws of little-endian numbers at a place of a byte string: what is read is what stands there, and what is written is
-- read again. They are said once, over the width; at w16, w32 and w64 the premise `IsMessageWidth` is `tt`, and `256 ^
-- byte_len w` is 2 ^ 16, 2 ^ 32 and 2 ^ 64.
use Rattle.std.proofs.Common.{◌≡◌, ℕ, zero, suc, ◌+◌, ◌-◌, ◌^◌, ◌<◌, ◌≤◌, List, [], ◌∷◌, ◌++◌, length, take, drop, Some, None, refl, sym, ◌∙◌, arith, inl, inr}
use Rattle.std.specs.Prelude.{All}
use Rattle.std.specs.Int.{Width, w8, w16, w32, w64, w128, byte_len, byte_at, bytes_low_first, from_le_bytes, to_le_bytes}
use Rattle.std.proofs.lemmas.Bool.{cases_lt, le-leb, lt-leb}
use Rattle.std.proofs.lemmas.List.{take_at, drop_at, length-append, length-take, length-drop, get_or-drop, get_or-take, get_or_past, get_or_append_left, get_or-append_right}
use Rattle.std.proofs.lemmas.List.Elements.{All-cons, All-get_or, All-nil}
use Rattle.std.proofs.lemmas.Nat.{le_bytes_2, le_bytes_4, le_bytes_8, from_le_bytes-to_le_bytes_2, from_le_bytes-to_le_bytes_4, from_le_bytes-to_le_bytes_8}
use Rattle.wire_base.specs.Numbers.{number_at, AreBytes}

-- the widths of the numbers in messages: 16, 32 and 64 bits
abbrev pub IsMessageWidth : Width → Type 0
IsMessageWidth w8 = ⊥
IsMessageWidth w16 = Unit {0}
IsMessageWidth w32 = Unit {0}
IsMessageWidth w64 = Unit {0}
IsMessageWidth w128 = ⊥

-- ---- bytes

pub AreBytes-drop : (n : ℕ) (bytes : List ℕ) → AreBytes bytes → AreBytes (drop n bytes)
AreBytes-drop n bytes fits i = rw get_or-drop (fits (n + i))

pub AreBytes-take : (n : ℕ) (bytes : List ℕ) → AreBytes bytes → AreBytes (take n bytes)
AreBytes-take n bytes fits i =
    elim (cases_lt i n) [
      | inl lt ↦ rw (get_or-take n bytes i 0 lt) (fits i)
      | inr le ↦ rw (get_or_past (take n bytes) i 0 (omega (arith, length-take n bytes))) (omega arith)
    ]

pub AreBytes-append : (front rest : List ℕ) → AreBytes front → AreBytes rest → AreBytes (front ++ rest)
AreBytes-append front rest first second i =
    elim (cases_lt i (length front)) [
      | inl lt ↦ rw (get_or_append_left front rest 0 i lt) (first i)
      | inr le ↦ rw (get_or-append_right front rest (length front) i 0 refl le) (second (i - length front))
    ]

pub AreBytes-nil : AreBytes []
AreBytes-nil i = omega arith

-- what stands past their end is below 256 too
pub bytes_from_all : (bytes : List ℕ) → All (λ b. b < 256) bytes → AreBytes bytes
bytes_from_all bytes all place =
    elim (cases_lt place (length bytes)) [
      | inl within ↦ All-get_or (λ b. b < 256) bytes place 0 within all
      | inr past ↦ rw (get_or_past bytes place 0 past) (omega arith)
    ]

pub all_from_bytes : (bytes : List ℕ) → AreBytes bytes → All (λ b. b < 256) bytes
all_from_bytes [] are = All-nil (λ b. b < 256)
all_from_bytes (byte ∷ bytes) are = All-cons (λ b. b < 256) byte bytes (are zero) (all_from_bytes bytes (λ place. are (suc place)))

pub AreBytes-cons : (b : ℕ) (bytes : List ℕ) → b < 256 → AreBytes bytes → AreBytes (b ∷ bytes)
AreBytes-cons b bytes first rest zero = first
AreBytes-cons b bytes first rest (suc i) = rest i

byte_at-lt : (i n : ℕ) → byte_at i n < 256
byte_at-lt zero n = omega arith
byte_at-lt (suc i) n = omega arith

AreBytes-low_first : (k i n : ℕ) → AreBytes (bytes_low_first i k n)
AreBytes-low_first zero i n = AreBytes-nil
AreBytes-low_first (suc k) i n = AreBytes-cons (byte_at i n) (bytes_low_first (suc i) k n) (byte_at-lt i n) (AreBytes-low_first k (suc i) n)

pub AreBytes-to_le_bytes : (w : Width) (n : ℕ) → AreBytes (to_le_bytes w n)
AreBytes-to_le_bytes w n = AreBytes-low_first (byte_len w) 0 n

-- ---- the number of some bytes

pub length-to_le_bytes : (w : Width) (n : ℕ) → length (to_le_bytes w n) ≡ byte_len w
length-to_le_bytes w8 n = refl
length-to_le_bytes w16 n = refl
length-to_le_bytes w32 n = refl
length-to_le_bytes w64 n = refl
length-to_le_bytes w128 n = refl

from_le_bytes-to_le_bytes : (w : Width) (n : ℕ) → IsMessageWidth w → n < 256 ^ byte_len w → from_le_bytes w (to_le_bytes w n) ≡ n
from_le_bytes-to_le_bytes w8 n wide fits = absurd wide
from_le_bytes-to_le_bytes w16 n wide fits = from_le_bytes-to_le_bytes_2 n fits
from_le_bytes-to_le_bytes w32 n wide fits = from_le_bytes-to_le_bytes_4 n fits
from_le_bytes-to_le_bytes w64 n wide fits = from_le_bytes-to_le_bytes_8 n fits
from_le_bytes-to_le_bytes w128 n wide fits = absurd wide

to_le_bytes-from_le_bytes : (w : Width) (bytes : List ℕ) → IsMessageWidth w → length bytes ≡ byte_len w → AreBytes bytes → to_le_bytes w (from_le_bytes w bytes) ≡ bytes
to_le_bytes-from_le_bytes w8 bytes wide len fits = absurd wide
to_le_bytes-from_le_bytes w16 bytes wide len fits = le_bytes_2 bytes _ len fits refl
to_le_bytes-from_le_bytes w32 bytes wide len fits = le_bytes_4 bytes _ len fits refl
to_le_bytes-from_le_bytes w64 bytes wide len fits = le_bytes_8 bytes _ len fits refl
to_le_bytes-from_le_bytes w128 bytes wide len fits = absurd wide

from_le_bytes-lt : (w : Width) (bytes : List ℕ) → IsMessageWidth w → AreBytes bytes → from_le_bytes w bytes < 256 ^ byte_len w
from_le_bytes-lt w8 bytes wide fits = absurd wide
from_le_bytes-lt w16 bytes wide fits = omega (arith, fits 0, fits 1)
from_le_bytes-lt w32 bytes wide fits = omega (arith, fits 0, fits 1, fits 2, fits 3)
from_le_bytes-lt w64 bytes wide fits = omega (arith, fits 0, fits 1, fits 2, fits 3, fits 4, fits 5, fits 6, fits 7)
from_le_bytes-lt w128 bytes wide fits = absurd wide

-- ---- where a number stands

-- in the bytes there is one
pub number_at-inside : (w : Width) (bytes : List ℕ) (place : ℕ) → place + byte_len w ≤ length bytes → number_at w bytes place ≡ Some (from_le_bytes w (take (byte_len w) (drop place bytes)))
unfolding number_at
number_at-inside w bytes place inside = rw (le-leb _ _ inside) refl

-- past them there is none
pub number_at-past : (w : Width) (bytes : List ℕ) (place : ℕ) → length bytes < place + byte_len w → number_at w bytes place ≡ None
unfolding number_at
number_at-past w bytes place past = rw (lt-leb _ _ past) refl

-- a number that is found at a place stands in the bytes
pub inside_from-number_at : (w : Width) (bytes : List ℕ) (place n : ℕ) → number_at w bytes place ≡ Some n → place + byte_len w ≤ length bytes
inside_from-number_at w bytes place n found =
    elim (cases_lt (length bytes) (place + byte_len w)) [
      | inl past ↦ absurd (let none = number_at-past w bytes place past in cc)
      | inr inside ↦ inside
    ]

-- the number that is found at a place is that of the bytes there
pub value_from-number_at : (w : Width) (bytes : List ℕ) (place n : ℕ) → number_at w bytes place ≡ Some n → from_le_bytes w (take (byte_len w) (drop place bytes)) ≡ n
value_from-number_at w bytes place n found =
    let here = number_at-inside w bytes place (inside_from-number_at w bytes place n found) in cc

-- the number that is found at a place fits its width
pub number_at-lt : (w : Width) (bytes : List ℕ) (place n : ℕ) → IsMessageWidth w → AreBytes bytes → number_at w bytes place ≡ Some n → n < 256 ^ byte_len w
number_at-lt w bytes place n wide fits found =
    rw (← value_from-number_at w bytes place n found)
    (from_le_bytes-lt w _ wide (AreBytes-take (byte_len w) (drop place bytes) (AreBytes-drop place bytes fits)))

-- the bytes where a number was read are those of the number
pub bytes_from-number_at : (w : Width) (bytes : List ℕ) (place n : ℕ) → IsMessageWidth w → AreBytes bytes → number_at w bytes place ≡ Some n → take (byte_len w) (drop place bytes) ≡ to_le_bytes w n
bytes_from-number_at w bytes place n wide fits found =
    let inside = inside_from-number_at w bytes place n found in
    rw (← value_from-number_at w bytes place n found)
    (sym
    (to_le_bytes-from_le_bytes w (take (byte_len w) (drop place bytes)) wide (omega (arith, length-take (byte_len w) (drop place bytes), length-drop place bytes)) (AreBytes-take (byte_len w) (drop place bytes) (AreBytes-drop place bytes fits))))

-- what was written at a place is read there
pub number_at-written : (w : Width) (front rest : List ℕ) (place n : ℕ) → IsMessageWidth w → n < 256 ^ byte_len w → length front ≡ place → number_at w (front ++ (to_le_bytes w n ++ rest)) place ≡ Some n
number_at-written w front rest place n wide fits here =
    let len = length-to_le_bytes w n in
    number_at-inside w (front ++ (to_le_bytes w n ++ rest)) place (omega (arith, length-append front (to_le_bytes w n ++ rest), length-append (to_le_bytes w n) rest))
    ∙ rw (drop_at front (to_le_bytes w n ++ rest) place here, take_at (to_le_bytes w n) rest (byte_len w) len, from_le_bytes-to_le_bytes w n wide fits) refl
