-- Words that were of their form, and words that weren't.
use Rattle.std.proofs.Common.{◌≡◌, ◌⊎◌, inl, inr, ℕ, List, Result, Ok, Err, IsOk, refl, sym, ◌∙◌}
use Rattle.hex.specs.Hex.{decode_sized}
use Rattle.hex.specs.declared.error.FromHexError.{FromHexError}
use Rattle.hex.proofs.HexLemmas.{IsOk-decode_sized}
use Rattle.nt_top.specs.Causes.{IsHexOf}
use Rattle.nt_top.specs.Needs.{needs}
use Rattle.nt_top.specs.declared.exit.Exit.{Exit}
use Rattle.nt_top.specs.declared.exit.Exit.TheVariants.{BadInput}

pub ok_injective : {E Y : Type 0} {a b : Y} → ◌≡◌ {A = Result Y E} (Ok a) (Ok b) → a ≡ b
ok_injective e = cc

pub err_injective : {E Y : Type 0} {a b : E} → ◌≡◌ {A = Result Y E} (Err a) (Err b) → a ≡ b
err_injective e = cc

pub ok_no_err : {X E : Type 0} (r : Result X E) (x : X) (e : E) → r ≡ Ok x → r ≡ Err e → ⊥
ok_no_err r x e p q = absurd (let both = sym p ∙ q in cc)

pub ok_or_err : {X E : Type 0} (r : Result X E) → ((x : X) × (r ≡ Ok x)) ⊎ ((e : E) × (r ≡ Err e))
ok_or_err (Ok x) = inl (x, refl)
ok_or_err (Err e) = inr (e, refl)

pub needs_ok : {X E Y : Type 0} (number : ℕ) (read : Result X E) (rest : X → Result Y Exit) (y : Y) → needs number read rest ≡ Ok y → (x : X) × (read ≡ Ok x) × (rest x ≡ Ok y)
needs_ok number (Ok x) rest y e = (x, refl, e)
needs_ok number (Err refused) rest y e = cc

-- the word was refused, or what follows was
pub needs_err : {X E Y : Type 0} (number : ℕ) (read : Result X E) (rest : X → Result Y Exit) (exit : Exit) → needs number read rest ≡ Err exit →
    ((refused : E) × (read ≡ Err refused) × (exit ≡ BadInput number)) ⊎ ((x : X) × (read ≡ Ok x) × (rest x ≡ Err exit))
needs_err number (Ok x) rest exit e = inr (x, refl, e)
needs_err number (Err refused) rest exit e = inl (refused, refl, err_injective (sym e))

-- a word that is refused
pub needs_refused : {X E Y : Type 0} (number : ℕ) (read : Result X E) (rest : X → Result Y Exit) (refused : E) → read ≡ Err refused → needs number read rest ≡ Err (BadInput number)
needs_refused number read rest refused e = rw e refl

-- a word that is taken lets the rest answer
pub needs_taken : {X E Y : Type 0} (number : ℕ) (read : Result X E) (rest : X → Result Y Exit) (x : X) (y : Result Y Exit) → read ≡ Ok x → rest x ≡ y → needs number read rest ≡ y
needs_taken number read rest x y e is = rw e is

-- ---- hex of a length

is_ok : {X E : Type 0} (r : Result X E) (x : X) → r ≡ Ok x → IsOk r
is_ok r x e = rw e refl

pub is_hex : (bytes : ℕ) (text hash : List ℕ) → decode_sized text bytes ≡ Ok hash → IsHexOf bytes text
is_hex bytes text hash e = (IsOk-decode_sized text bytes).0 (is_ok _ hash e)

no_ok : {X E : Type 0} (r : Result X E) (e : E) → r ≡ Err e → IsOk r → ⊥
no_ok r e is ok = cc

pub is_no_hex : (bytes : ℕ) (text : List ℕ) (refused : FromHexError) → decode_sized text bytes ≡ Err refused → ¬ IsHexOf bytes text
is_no_hex bytes text refused e hex = no_ok _ refused e ((IsOk-decode_sized text bytes).1 hex)

pub hex_read : (bytes : ℕ) (text : List ℕ) → IsHexOf bytes text → (hash : List ℕ) × (decode_sized text bytes ≡ Ok hash)
hex_read bytes text hex =
    elim (ok_or_err (decode_sized text bytes)) [
      | inl read ↦ read
      | inr refused ↦ absurd (is_no_hex bytes text refused.0 refused.1 hex)
    ]

pub hex_refused : (bytes : ℕ) (text : List ℕ) → ¬ IsHexOf bytes text → (refused : FromHexError) × (decode_sized text bytes ≡ Err refused)
hex_refused bytes text wrong =
    elim (ok_or_err (decode_sized text bytes)) [
      | inl read ↦ absurd (wrong (is_hex bytes text read.0 read.1))
      | inr refused ↦ refused
    ]
