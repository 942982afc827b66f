-- What opening answers, as the code finds it.
use Rattle.std.proofs.Common.{◌≡◌, ℕ, ◌-◌, ◌≤◌, Bool, true, false, List, ◌++◌, length, take, drop, replicate, refl, ap, sym, ◌∙◌}
use Rattle.std.specs.Prelude.{not, bytes_eq, Ok}
use Rattle.rc4_stream.specs.Rc4.{applied}
use Rattle.netlogon_seal.specs.Signatures.{checksum_in, hidden_confounder_in, checksum_of, sealing_key_of, combine_range, confounder_in}
use Rattle.netlogon_seal.specs.Channels.{NlState, awaited_sequence, plain_of, expect, compare_by, verdict_by, checksum_with, verdict_of}
use Rattle.netlogon_seal.proofs.SealLaws.{combined_parts}

pub not_false : (b : Bool) → not b ≡ false → b ≡ true
not_false true e = refl
not_false false e = absurd (let no : ⊥ = cc in no)

pub not_true : (b : Bool) → not b ≡ true → b ≡ false
not_true true e = absurd (let no : ⊥ = cc in no)
not_true false e = refl

-- the checksum that the code makes of the opened unit is the one that the definition names
checksum_is : (s : NlState) (front : List ℕ) (from to : ℕ) (signature key sequence sealing_key confounder opened wanted : List ℕ)
    → key ≡ s.key
    → sequence ≡ awaited_sequence s
    → sealing_key ≡ sealing_key_of key sequence
    → confounder ≡ applied sealing_key 0 (hidden_confounder_in signature)
    → opened ≡ combine_range sealing_key front from to
    → wanted ≡ checksum_of key confounder opened
    → wanted ≡ checksum_with s (plain_of s front from to) signature
unfolding confounder_in
checksum_is s front from to signature key sequence sealing_key confounder opened wanted ek es ec ef eo ew =
    let k : sealing_key ≡ sealing_key_of s.key (awaited_sequence s) = ec ∙ ap (λ x. sealing_key_of x sequence) ek ∙ ap (sealing_key_of s.key) es in
    let f : confounder ≡ applied (sealing_key_of s.key (awaited_sequence s)) 0 (hidden_confounder_in signature) = ef ∙ ap (λ x. applied x 0 (hidden_confounder_in signature)) k in
    let o : opened ≡ plain_of s front from to = eo ∙ ap (λ x. combine_range x front from to) k in
    ew
    ∙ ap (λ x. checksum_of x confounder opened) ek
    ∙ ap (λ x. checksum_of s.key x opened) f
    ∙ ap (checksum_of s.key (applied (sealing_key_of s.key (awaited_sequence s)) 0 (hidden_confounder_in signature))) o

-- the answer to a signature whose number is the next, by whether it has the checksum that the code makes
pub compare_is : (s : NlState) (front : List ℕ) (from to : ℕ) (signature key sequence sealing_key confounder opened wanted found : List ℕ) (same : Bool)
    → Ok tt ≡ expect s signature
    → key ≡ s.key
    → sequence ≡ awaited_sequence s
    → sealing_key ≡ sealing_key_of key sequence
    → confounder ≡ applied sealing_key 0 (hidden_confounder_in signature)
    → opened ≡ combine_range sealing_key front from to
    → wanted ≡ checksum_of key confounder opened
    → found ≡ checksum_in signature
    → bytes_eq found wanted ≡ same
    → compare_by same ≡ verdict_of s (plain_of s front from to) signature
compare_is s front from to signature key sequence sealing_key confounder opened wanted found same numbers ek es ec ef eo ew eg test =
    let w = checksum_is s front from to signature key sequence sealing_key confounder opened wanted ek es ec ef eo ew in
    ap compare_by (sym test ∙ ap (λ x. bytes_eq x wanted) eg ∙ ap (bytes_eq (checksum_in signature)) w)
    ∙ ap (λ x. verdict_by x (bytes_eq (checksum_in signature) (checksum_with s (plain_of s front from to) signature))) numbers

-- zeros in the range of a unit that was opened before
pub cleared_is : (key front opened cleared : List ℕ) (from to : ℕ) → from ≤ to → to ≤ length front
    → opened ≡ combine_range key front from to
    → cleared ≡ take from opened ++ replicate (to - from) 0 ++ drop to opened
    → cleared ≡ take from front ++ replicate (to - from) 0 ++ drop to front
cleared_is key front opened cleared from to h within eo ec =
    let m = combined_parts key front from to h within in
    ec
    ∙ ap (λ x. take from x ++ replicate (to - from) 0 ++ drop to x) eo
    ∙ ap (λ x. x ++ replicate (to - from) 0 ++ drop to (combine_range key front from to)) m.0
    ∙ ap (λ x. take from front ++ replicate (to - from) 0 ++ x) m.2
