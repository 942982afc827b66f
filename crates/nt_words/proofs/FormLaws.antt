-- The forms of files in their own terms.
use Rattle.std.proofs.Common.{◌≡◌, ◌⊎◌, ◌↔◌, inl, inr, ℕ, Bool, true, false, ◌&&◌, List, [], ◌∷◌, ◌++◌, length, take, drop, nat_le, nat_eq, Result, Ok, Err, IsOk, refl, sym, ap, subst, arith, length-append}
use Rattle.std.specs.List.{AllPass}
use Rattle.std.proofs.lemmas.Bool.{eqb-true, eq-eqb, le-leb}
use Rattle.std.proofs.lemmas.List.{take-append-drop}
use Rattle.std.proofs.Math.Seq.{take-append_seam, drop-append_seam}
use Rattle.hex.specs.Hex.{decode_sized, is_hex_digit}
use Rattle.hex.specs.declared.error.FromHexError.{FromHexError}
use Rattle.hex.proofs.HexLemmas.{IsOk-decode_sized}
use Rattle.nt_words.specs.Files.{digits_by, has_secret_length, is_end, secret_by, secret_in, seed_by, seed_in, IsSecretText}

-- ---- a seed

seed_taken : (is : Bool) (number : ℕ) (content : List ℕ) → IsOk (seed_by is number content) → is ≡ true
seed_taken true number content ok = refl
seed_taken false number content ok = cc

pub seeds : (number : ℕ) (content : List ℕ) → IsOk (seed_in number content) ↔ (length content ≡ 32)
seeds number content = (
  λ ok. eqb-true (length content) 32 (seed_taken (nat_eq (length content) 32) number content ok),
  λ same. rw (eq-eqb (length content) 32 same) refl,
)

-- ---- a secret

end_is : (end : List ℕ) → is_end end ≡ true → (end ≡ []) ⊎ (end ≡ 10 ∷ [])
end_is [] e = inl refl
end_is (byte ∷ []) e = inr (ap (λ (b : ℕ). b ∷ []) (eqb-true byte 10 e))
end_is (byte ∷ other ∷ more) e = cc

is_the_end : (end : List ℕ) → (end ≡ []) ⊎ (end ≡ 10 ∷ []) → is_end end ≡ true
is_the_end end (inl none) = rw none refl
is_the_end end (inr newline) = rw newline refl

both : (b c : Bool) → (b && c) ≡ true → (b ≡ true) × (c ≡ true)
both true true e = (refl, refl)
both true false e = cc
both false c e = cc

digits_taken : (number : ℕ) (r : Result (List ℕ) FromHexError) → IsOk (digits_by number r) → IsOk r
digits_taken number (Ok bytes) ok = refl
digits_taken number (Err refused) ok = cc

digits_take : (number : ℕ) (r : Result (List ℕ) FromHexError) → IsOk r → IsOk (digits_by number r)
digits_take number (Ok bytes) ok = refl
digits_take number (Err refused) ok = cc

secret_taken : (is : Bool) (number : ℕ) (digits : List ℕ) → IsOk (secret_by is number digits) → (is ≡ true) × IsOk (decode_sized digits 16)
secret_taken true number digits ok = (refl, digits_taken number (decode_sized digits 16) ok)
secret_taken false number digits ok = cc

text_of : (number : ℕ) (content : List ℕ) → IsOk (secret_in number content) → IsSecretText content
unfolding secret_in
text_of number content ok =
    let taken = secret_taken (has_secret_length content) number (take 32 content) ok in
    let form = both (nat_le 32 (length content)) (is_end (drop 32 content)) taken.0 in
    let hex = (IsOk-decode_sized (take 32 content) 16).0 taken.1 in record {
      digits = take 32 content;
      end = drop 32 content;
      content_is = sym (take-append-drop 32 content);
      count = hex.0;
      are_hex = hex.1;
      newline = end_is (drop 32 content) form.1;
    }

secret_is : (number : ℕ) (digits end : List ℕ) → length digits ≡ 32 → AllPass is_hex_digit digits → (end ≡ []) ⊎ (end ≡ 10 ∷ []) → IsOk (secret_in number (digits ++ end))
unfolding secret_in
secret_is number digits end count are_hex newline =
    let front : take 32 (digits ++ end) ≡ digits = subst (λ (n : ℕ). take n (digits ++ end) ≡ digits) count (take-append_seam digits end) in
    let behind : drop 32 (digits ++ end) ≡ end = subst (λ (n : ℕ). drop n (digits ++ end) ≡ end) count (drop-append_seam digits end) in
    let long : nat_le 32 (length (digits ++ end)) ≡ true = le-leb 32 (length (digits ++ end)) (omega (arith, count, length-append digits end)) in
    let ended : is_end (drop 32 (digits ++ end)) ≡ true = rw behind (is_the_end end newline) in
    let hex : IsOk (decode_sized (take 32 (digits ++ end)) 16) = rw front ((IsOk-decode_sized digits 16).1 (count, are_hex)) in
    rw (long, ended) (digits_take number _ hex)

pub secrets : (number : ℕ) (content : List ℕ) → IsOk (secret_in number content) ↔ IsSecretText content
secrets number content = (
  text_of number content,
  λ text. subst (λ (c : List ℕ). IsOk (secret_in number c)) (sym text.content_is) (secret_is number text.digits text.end text.count text.are_hex text.newline),
)
