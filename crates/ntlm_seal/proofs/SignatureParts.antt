-- The parts of a signature, as the code writes and reads them.
use Rattle.std.proofs.Common.{◌≡◌, ℕ, ◌+◌, ◌-◌, List, [], ◌∷◌, ◌++◌, length, take, drop, ap, sym, ◌∙◌}
use Rattle.std.proofs.lemmas.List.{append-nil}
use Rattle.std.proofs.Math.Seq.{take-append_seam, drop-append_seam}
use borrow.Rule.Slice.PartMut.{put_mid}
use Rattle.std.specs.Int.{w32, to_le_bytes}
use Rattle.std.specs.Prelude.{Bool, bytes_eq, Ok}
use Rattle.ntlm_seal.specs.Directions.{Direction, checksum_of, sent_form_by, sent_checksum, signature_of, checksum_in}
use Rattle.ntlm_seal.specs.Sessions.{expect, compare_by, verdict_by, verdict_of}

-- 16 zeros in which the version, the checksum and the number are written
pub written : (a b c checksum number : List ℕ) → a ≡ 1 ∷ 0 ∷ 0 ∷ 0 ∷ [] → b ≡ checksum → c ≡ number → length checksum ≡ 8 → length number ≡ 4 → put_mid 12 4 (put_mid 4 8 (a ++ 0 ∷ 0 ∷ 0 ∷ 0 ∷ 0 ∷ 0 ∷ 0 ∷ 0 ∷ 0 ∷ 0 ∷ 0 ∷ 0 ∷ []) b) c ≡ 1 ∷ 0 ∷ 0 ∷ 0 ∷ (checksum ++ number)
written a b c checksum number version first second eight four =
    let zeros : List ℕ = 0 ∷ 0 ∷ 0 ∷ 0 ∷ [] in
    let front : take 8 (checksum ++ zeros) ≡ checksum = ap (λ n. take n (checksum ++ zeros)) (sym eight) ∙ take-append_seam checksum zeros in
    let back : drop 8 (checksum ++ zeros) ≡ zeros = ap (λ n. drop n (checksum ++ zeros)) (sym eight) ∙ drop-append_seam checksum zeros in
    ap (λ x. put_mid 12 4 (put_mid 4 8 (x ++ 0 ∷ 0 ∷ 0 ∷ 0 ∷ 0 ∷ 0 ∷ 0 ∷ 0 ∷ 0 ∷ 0 ∷ 0 ∷ 0 ∷ []) b) c) version
    ∙ ap (λ x. put_mid 12 4 (put_mid 4 8 (1 ∷ 0 ∷ 0 ∷ 0 ∷ 0 ∷ 0 ∷ 0 ∷ 0 ∷ 0 ∷ 0 ∷ 0 ∷ 0 ∷ 0 ∷ 0 ∷ 0 ∷ 0 ∷ []) x) c) first
    ∙ ap (λ x. put_mid 12 4 (1 ∷ 0 ∷ 0 ∷ 0 ∷ (checksum ++ zeros)) x) second
    ∙ ap (λ x. 1 ∷ 0 ∷ 0 ∷ 0 ∷ (x ++ (number ++ drop 4 (drop 8 (checksum ++ zeros))))) front
    ∙ ap (λ x. 1 ∷ 0 ∷ 0 ∷ 0 ∷ (checksum ++ (number ++ drop 4 x))) back
    ∙ ap (λ x. 1 ∷ 0 ∷ 0 ∷ 0 ∷ (checksum ++ x)) (append-nil number)

-- the checksum that the code sends, after it has taken the range's bytes of the key stream
pub sent_is : (d : Direction) (plain : List ℕ) (range : ℕ) (checksum sent : List ℕ) (used : ℕ) → checksum ≡ checksum_of d.signing_key d.number plain → sent ≡ sent_form_by d.key_exchange d.sealing_key used checksum → used ≡ d.used + range → sent ≡ sent_checksum d plain range
unfolding sent_checksum
sent_is d plain range checksum sent used is sends place =
    sends ∙ ap (λ n. sent_form_by d.key_exchange d.sealing_key n checksum) place ∙ ap (λ x. sent_form_by d.key_exchange d.sealing_key (d.used + range) x) is

-- a signature of the parts that the code makes
pub signed : (d : Direction) (plain : List ℕ) (from to : ℕ) (sent : List ℕ) → sent ≡ sent_checksum d plain (to - from) → to_le_bytes w32 1 ++ sent ++ to_le_bytes w32 d.number ≡ signature_of d plain from to
unfolding signature_of
signed d plain from to sent is = ap (λ x. to_le_bytes w32 1 ++ x ++ to_le_bytes w32 d.number) is

-- the answer to a signature whose numbers are the next unit's, by whether it has the checksum that the code makes
pub compare_is : (d : Direction) (plain : List ℕ) (from to : ℕ) (signature sent : List ℕ) (tested same : Bool) → Ok tt ≡ expect d signature → sent ≡ sent_checksum d plain (to - from) → tested ≡ bytes_eq (checksum_in signature) sent → tested ≡ same → compare_by same ≡ verdict_of d plain from to signature
compare_is d plain from to signature sent tested same numbers is test at =
    ap compare_by (sym at ∙ test ∙ ap (bytes_eq (checksum_in signature)) is)
    ∙ ap (λ x. verdict_by x (bytes_eq (checksum_in signature) (sent_checksum d plain (to - from)))) numbers
