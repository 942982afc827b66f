-- Laws of the hashes and of NTLMv2's key: lengths and bytes, and steps of the loops that compute them.
use Rattle.std.proofs.Common.{◌≡◌, ℕ, suc, ◌+◌, ◌-◌, ◌<◌, ◌≤◌, ◌⊎◌, inl, inr, List, [], ◌∷◌, ◌++◌, length, get_or, set, take, drop, replicate, refl, sym, ap, ◌∙◌, arith}
use Rattle.std.proofs.lemmas.List.{append_assoc, append-nil, map_more, set_at, length-map, length-take-le, take-append-le, take-map, take_all, take-replicate, take_at, drop_at, drop_all}
use Rattle.std.proofs.Math.Seq.{take-append-add}
use borrow.Rule.Slice.PartMut.{put_mid}
use Rattle.std.specs.Int.{w16, to_le_bytes}
use Rattle.wire_base.specs.Names.{upper_of, upper_case}
use Rattle.wire_base.specs.Units.{utf16_of}
use Rattle.wire_base.proofs.UnitLaws.{utf16_of-nil, utf16_of-cons, utf16_of-append}
use Rattle.ntlm_responses.specs.Hashes.{lm_key_of}

-- one unit more of a text in upper case
pub utf16_of_upper_more : (units : List ℕ) (i : ℕ) → i < length units → utf16_of (upper_case (take (i + 1) units)) ≡ utf16_of (upper_case (take i units)) ++ to_le_bytes w16 (upper_of (get_or units i 0))
utf16_of_upper_more units i lt =
    let next = upper_of (get_or units i 0) in
    ap utf16_of (map_more upper_of units i 0 lt)
    ∙ utf16_of-append (upper_case (take i units)) (next ∷ [])
    ∙ ap (λ (t : List ℕ). utf16_of (upper_case (take i units)) ++ t) (utf16_of-cons next [] ∙ rw utf16_of-nil refl)

-- one byte more of the password
pub lm_key_more : (password : List ℕ) (i : ℕ) → i < length password → i < 14
    → set (upper_case (take i password) ++ replicate (14 - i) 0) i (upper_of (get_or password i 0)) ≡ upper_case (take (i + 1) password) ++ replicate (14 - (i + 1)) 0
lm_key_more password i within below =
    let done = upper_case (take i password) in
    let at : length done ≡ i = length-map (take i password) upper_of ∙ length-take-le i password (omega arith) in
    let left : replicate (14 - i) 0 ≡ 0 ∷ replicate (14 - (i + 1)) 0 =
    let one_more : 14 - i ≡ suc (14 - (i + 1)) = omega arith in ap (λ (n : ℕ). replicate {A = ℕ} n 0) one_more in
    rw (left, set_at done 0 (replicate (14 - (i + 1)) 0) (upper_of (get_or password i 0)) i at, map_more upper_of password i 0 within, append_assoc) refl

-- the whole password, or its first 14 bytes
pub lm_key_all : (password : List ℕ) (i : ℕ) → i ≤ length password → i ≤ 14 → (i ≡ 14) ⊎ (i ≡ length password)
    → upper_case (take i password) ++ replicate (14 - i) 0 ≡ lm_key_of password
unfolding lm_key_of
lm_key_all password i within below (inl full) =
    let upper = upper_case password in
    let long : 14 ≤ length upper = omega (arith, length-map password upper_of) in
    rw (full, take-append-le 14 upper (replicate 14 0) long, take-map upper_of 14 password) (append-nil (upper_case (take 14 password)))
lm_key_all password i within below (inr ended) =
    let upper = upper_case password in
    let len : length upper ≡ i = length-map password upper_of ∙ sym ended in
    let whole : take i password ≡ password = take_all i password (omega arith) in
    let zeros = replicate {A = ℕ} 14 0 in
    let place : 14 ≡ length upper + (14 - i) = omega arith in
    let split : take 14 (upper ++ zeros) ≡ upper ++ take (14 - i) zeros =
    ap (λ (n : ℕ). take n (upper ++ zeros)) place ∙ take-append-add upper zeros (14 - i) in
    let filled : take (14 - i) zeros ≡ replicate (14 - i) 0 = take-replicate (14 - i) 14 0 (omega arith) in
    rw (whole, split, filled) refl

-- a block written over the end of an array, after the blocks before it
pub put_at_end : (a k : ℕ) (front zeros block : List ℕ) → length front ≡ a → length zeros ≡ k → put_mid a k (front ++ zeros) block ≡ front ++ block
put_at_end a k front zeros block before after =
    let rest : drop k (drop a (front ++ zeros)) ≡ [] = rw (drop_at front zeros a before) (drop_all k zeros (omega arith)) in
    rw (take_at front zeros a before, rest, append-nil) refl
