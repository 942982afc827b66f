-- What one side seals the other opens.
use Rattle.std.proofs.Common.{◌≡◌, ℕ, ◌+◌, ◌-◌, ◌^◌, ◌<◌, ◌≤◌, false, List, [], ◌∷◌, ◌++◌, length, map, take, drop, slice_range, refl, ap, sym, ◌∙◌, arith, length-append}
use Rattle.std.proofs.lemmas.Bool.{ne_eqb}
use Rattle.std.proofs.lemmas.List.{append_assoc, drop_at, length-take-le, take-append-drop}
use Rattle.std.proofs.lemmas.List.Folds.{drop_split}
use Rattle.std.proofs.Math.Seq.{take-append_seam}
use Rattle.std.specs.List.{AllByRecursion}
use Rattle.std.specs.Prelude.{Result, Ok}
use Rattle.rc4_stream.specs.Rc4.{applied}
use Rattle.rc4_stream.proofs.Rc4Laws.{length-applied, applied-applied}
use Rattle.ntlm_seal.specs.declared.refusal.SealRefused.{SealRefused}
use Rattle.ntlm_seal.specs.Directions.{Direction, combine, signature_of, next_of}
use Rattle.ntlm_seal.specs.Sessions.{SessionState, last_number, is_spent, verdict_of, Sealing, seal_by, judgement_with, unit_left}
use Rattle.ntlm_seal.specs.Runs.{PlainUnit, HasRange, SentUnit, OpenedUnit, Follows, whole_opening, send_with, send_all, open_all}
use Rattle.ntlm_seal.proofs.AcceptLaws.{verdict_of-signature_of}
use Rattle.ntlm_seal.proofs.RangeLaws.{length_range}

-- a list is its front, a range and what follows
split : (xs : List ℕ) (from to : ℕ) → from ≤ to → xs ≡ (take from xs ++ slice_range xs from to) ++ drop to xs
split xs from to h =
    sym (take-append-drop from xs) ∙ ap (λ z. take from xs ++ z) (drop_split xs from to h) ∙ sym (append_assoc (take from xs) (slice_range xs from to) (drop to xs))

-- the parts of a list that is made of a front, a middle and an end
middle : (a b c : List ℕ) (from to : ℕ) → length a ≡ from → length b ≡ to - from → from ≤ to → (take from ((a ++ b) ++ c) ≡ a) × (slice_range ((a ++ b) ++ c) from to ≡ b) × (drop to ((a ++ b) ++ c) ≡ c)
middle a b c from to la lb h =
    let s = (a ++ b) ++ c in
    let e : s ≡ a ++ (b ++ c) = append_assoc a b c in
    let past : drop from s ≡ b ++ c = ap (drop from) e ∙ drop_at a (b ++ c) from la in (
      ap (take from) e ∙ ap (λ n. take n (a ++ (b ++ c))) (sym la) ∙ take-append_seam a (b ++ c),
      ap (take (to - from)) past ∙ ap (λ n. take n (b ++ c)) (sym lb) ∙ take-append_seam b c,
      drop_at (a ++ b) c to (omega (arith, length-append a b)),
    )

-- combining a range twice from the same place of the key stream changes nothing
pub combine-combine : (d : Direction) (unit : List ℕ) (from to : ℕ) → from ≤ to → to ≤ length unit → combine d (combine d unit from to) from to ≡ unit
unfolding combine
combine-combine d unit from to h within =
    let a : List ℕ = take from unit in
    let b : List ℕ = applied d.sealing_key d.used (slice_range unit from to) in
    let c : List ℕ = drop to unit in
    let m = middle a b c from to (length-take-le from unit (omega arith)) (length-applied d.sealing_key d.used (slice_range unit from to) ∙ length_range unit from to h within) h in
    ap (λ x. x ++ applied d.sealing_key d.used (slice_range ((a ++ b) ++ c) from to) ++ drop to ((a ++ b) ++ c)) m.0
    ∙ ap (λ x. a ++ applied d.sealing_key d.used x ++ drop to ((a ++ b) ++ c)) m.1
    ∙ ap (λ x. a ++ x ++ drop to ((a ++ b) ++ c)) (applied-applied d.sealing_key d.used (slice_range unit from to))
    ∙ ap (λ x. a ++ slice_range unit from to ++ x) m.2
    ∙ sym (split unit from to h)

-- a session that refused nothing, of the two directions
abbrev session_at : Direction → Direction → SessionState
session_at sending receiving = record { sending = sending; receiving = receiving; broken = false }

carried : (d s r : Direction) (units : List PlainUnit) → AllByRecursion HasRange units → d.number + length units < 2 ^ 32 → open_all (session_at r d) (send_all (session_at d s) units) ≡ map whole_opening units
unfolding send_all open_all
carried d s r [] ranges room = refl
carried d s r (p ∷ ps) ranges room =
    let sealed : List ℕ = combine d p.unit p.from p.to in
    let signature : List ℕ = signature_of d p.unit p.from p.to in
    let next : Direction = next_of d p.from p.to in
    let rest : List SentUnit = send_all (session_at next s) ps in
    let below : d.number < 2 ^ 32 - 1 = omega arith in
    let spent : is_spent d ≡ false = ne_eqb d.number last_number (λ (same : d.number ≡ last_number). omega arith) in
    let back : combine d sealed p.from p.to ≡ p.unit = combine-combine d p.unit p.from p.to ranges.0.0 ranges.0.1 in
    let accepted : verdict_of d (combine d sealed p.from p.to) p.from p.to signature ≡ Ok tt =
    ap (λ u. verdict_of d u p.from p.to signature) back ∙ verdict_of-signature_of d p.unit p.from p.to below in
    let opened : Result Unit SealRefused → List ℕ → OpenedUnit = λ answer unit. record { answer = answer; unit = unit } in
    ap (λ b. open_all (session_at r d) (let x : Sealing = seal_by false b (session_at d s) p.unit p.from p.to in send_with x.answer x.unit p (send_all x.session ps))) spent
    ∙ ap (λ z. opened z (unit_left z sealed (combine d sealed p.from p.to) p.from p.to) ∷ open_all (judgement_with z (session_at r d) p.from p.to).session rest) accepted
    ∙ ap (λ u. opened (Ok tt) u ∷ open_all (session_at r next) rest) back
    ∙ ap (λ xs. whole_opening p ∷ xs) (carried next s r ps ranges.1 (omega arith))

-- what is sealed in a direction is opened in it, from any two sessions that refused nothing
pub open_all-send_all : (sender receiver : SessionState) (units : List PlainUnit) → Follows sender receiver → AllByRecursion HasRange units → sender.sending.number + length units < 2 ^ 32 → open_all receiver (send_all sender units) ≡ map whole_opening units
open_all-send_all sender receiver units follows ranges room =
    let d : Direction = sender.sending in
    let sends : sender ≡ session_at d sender.receiving = ap (λ b. record sender { broken = b }) follows.sends in
    let receives : receiver ≡ session_at receiver.sending d =
    ap (λ b. record receiver { broken = b }) follows.receives ∙ ap (session_at receiver.sending) (sym follows.direction) in
    ap (λ (s : SessionState). open_all receiver (send_all s units)) sends
    ∙ ap (λ (s : SessionState). open_all s (send_all (session_at d sender.receiving) units)) receives
    ∙ carried d sender.receiving receiver.sending units ranges room
