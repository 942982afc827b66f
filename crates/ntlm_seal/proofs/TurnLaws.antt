-- What one side sends, the other takes.
use Rattle.std.proofs.Common.{◌≡◌, ℕ, ◌-◌, ◌^◌, ◌<◌, ◌≤◌, false, List, [], ◌++◌, length, take, drop, slice_range, refl, ap, sym, ◌∙◌, arith}
use Rattle.std.proofs.lemmas.Bool.{ne_eqb}
use Rattle.std.proofs.lemmas.List.{append-nil, length-append, length-take-le, length-drop, take-append-drop}
use Rattle.std.specs.Int.{w32, to_le_bytes}
use Rattle.std.specs.Prelude.{Ok}
use Rattle.rc4_stream.specs.Rc4.{applied}
use Rattle.rc4_stream.proofs.Rc4Laws.{length-applied}
use Rattle.ntlm_seal.specs.declared.side.Side.{Side}
use Rattle.ntlm_seal.specs.declared.side.Side.TheVariants.{Client, Server}
use Rattle.ntlm_seal.specs.Sides.{other_side}
use Rattle.ntlm_seal.specs.Directions.{Direction, combine, sent_checksum, signature_of, next_of}
use Rattle.ntlm_seal.specs.Sessions.{SessionState, session_of, last_number, is_spent, verdict_of, seal_by, seal_of, judge_by, judge_of, judgement_with, open_of}
use Rattle.ntlm_seal.specs.Runs.{Follows}
use Rattle.ntlm_seal.specs.Turns.{Paired, after_sending, after_taking, sealing_done, taking_done, OpensAgain, IsAccepted}
use Rattle.ntlm_seal.proofs.AcceptLaws.{verdict_of-signature_of, length-sent_checksum}
use Rattle.ntlm_seal.proofs.RangeLaws.{length_range}
use Rattle.ntlm_seal.proofs.RunLaws.{combine-combine}

pub sealing_goes : (s : SessionState) (unit : List ℕ) (from to : ℕ) → s.broken ≡ false → s.sending.number < 2 ^ 32 - 1 → seal_of s unit from to ≡ sealing_done s unit from to
sealing_goes s unit from to runs room =
    let spent : is_spent s.sending ≡ false = ne_eqb s.sending.number last_number (λ (same : s.sending.number ≡ last_number). omega arith) in
    ap (λ b. seal_by b (is_spent s.sending) s unit from to) runs ∙ ap (λ b. seal_by false b s unit from to) spent

-- a plain unit with the signature of the direction in which the session receives
pub judging_goes : (one other : SessionState) (unit : List ℕ) (from to : ℕ) → Follows one other → one.sending.number < 2 ^ 32 - 1 → judge_of other unit from to (signature_of one.sending unit from to) ≡ taking_done other from to
judging_goes one other unit from to follows room =
    let d : Direction = one.sending in
    let signature : List ℕ = signature_of d unit from to in
    let accepted : verdict_of other.receiving unit from to signature ≡ Ok tt =
    ap (λ (x : Direction). verdict_of x unit from to signature) (sym follows.direction) ∙ verdict_of-signature_of d unit from to room in
    ap (λ b. judge_by b other unit from to signature) follows.receives
    ∙ ap (λ z. judgement_with z other from to) accepted
    ∙ ap (λ b. record { answer = Ok tt; session = record other { receiving = next_of other.receiving from to; broken = b } }) (sym follows.receives)

pub opened_same : (one other : SessionState) (unit : List ℕ) (from to : ℕ) → Follows one other → from ≤ to → to ≤ length unit → combine other.receiving (combine one.sending unit from to) from to ≡ unit
opened_same one other unit from to follows h within =
    ap (λ (x : Direction). combine x (combine one.sending unit from to) from to) (sym follows.direction) ∙ combine-combine one.sending unit from to h within

pub opening_goes : (one other : SessionState) (unit : List ℕ) (from to : ℕ) → Follows one other → from ≤ to → to ≤ length unit → one.sending.number < 2 ^ 32 - 1 → open_of other (combine one.sending unit from to) from to (signature_of one.sending unit from to) ≡ taking_done other from to
opening_goes one other unit from to follows h within room =
    ap (λ u. judge_of other u from to (signature_of one.sending unit from to)) (opened_same one other unit from to follows h within)
    ∙ judging_goes one other unit from to follows room

applied_none : (key : List ℕ) (used : ℕ) → applied key used [] ≡ []
unfolding applied
applied_none key used = refl

-- an empty range leaves the unit
pub combine_none : (d : Direction) (unit : List ℕ) (at : ℕ) → combine d unit at at ≡ unit
unfolding combine
combine_none d unit at =
    let none : slice_range unit at at ≡ [] = ap (λ n. take n (drop at unit)) (let e : at - at ≡ 0 = omega arith in e) in
    let nothing : applied d.sealing_key d.used (slice_range unit at at) ≡ [] = ap (applied d.sealing_key d.used) none ∙ applied_none d.sealing_key d.used in
    ap (λ x. take at unit ++ x ++ drop at unit) nothing
    ∙ ap (λ x. x ++ drop at unit) (append-nil (take at unit))
    ∙ take-append-drop at unit

pub paired_after : (one other : SessionState) (from to : ℕ) → Paired one other → Paired (after_sending one from to) (after_taking other from to)
paired_after one other from to p = record {
  there = record { sends = p.there.sends; receives = p.there.receives; direction = ap (λ (d : Direction). next_of d from to) p.there.direction };
  back = record { sends = p.back.sends; receives = p.back.receives; direction = p.back.direction };
}

pub paired_first : (exported : List ℕ) (flags : ℕ) (side : Side) → Paired (session_of exported flags side) (session_of exported flags (other_side side))
paired_first exported flags Client = record { there = record { sends = refl; receives = refl; direction = refl }; back = record { sends = refl; receives = refl; direction = refl } }
paired_first exported flags Server = record { there = record { sends = refl; receives = refl; direction = refl }; back = record { sends = refl; receives = refl; direction = refl } }

pub opens_again : (one other : SessionState) (unit : List ℕ) (from to : ℕ) → Paired one other → from ≤ to → to ≤ length unit → one.sending.number < 2 ^ 32 - 1 → OpensAgain one other unit from to
opens_again one other unit from to p h within room = record {
  sealed = sealing_goes one unit from to p.there.sends room;
  opened = opening_goes one other unit from to p.there h within room;
  same = opened_same one other unit from to p.there h within;
  paired = paired_after one other from to p;
}

pub is_accepted : (one other : SessionState) (unit : List ℕ) → Paired one other → one.sending.number < 2 ^ 32 - 1 → IsAccepted one other unit
is_accepted one other unit p room = record {
  signed = sealing_goes one unit 0 0 p.there.sends room;
  checked = judging_goes one other unit 0 0 p.there room;
  untouched = combine_none one.sending unit 0;
  paired = paired_after one other 0 0 p;
}

-- a signature has 16 bytes
pub length-signature_of : (d : Direction) (plain : List ℕ) (from to : ℕ) → length (signature_of d plain from to) ≡ 16
unfolding signature_of
length-signature_of d plain from to =
    let checksum : List ℕ = sent_checksum d plain (to - from) in
    let version : List ℕ = to_le_bytes w32 1 in
    let number : List ℕ = to_le_bytes w32 d.number in
    let eight : length checksum ≡ 8 = length-sent_checksum d plain (to - from) in
    let four : length version ≡ 4 = refl in
    let last : length number ≡ 4 = refl in
    omega (arith, length-append (version ++ checksum) number, length-append version checksum, eight, four, last)

-- only the range of a unit changes, and it keeps its length
pub combine_range : (d : Direction) (unit : List ℕ) (from to : ℕ) → from ≤ to → to ≤ length unit → (range : List ℕ) × (length range ≡ to - from) × (combine d unit from to ≡ take from unit ++ range ++ drop to unit)
unfolding combine
combine_range d unit from to h within =
    (applied d.sealing_key d.used (slice_range unit from to), length-applied d.sealing_key d.used (slice_range unit from to) ∙ length_range unit from to h within, refl)

pub length-combine : (d : Direction) (unit : List ℕ) (from to : ℕ) → from ≤ to → to ≤ length unit → length (combine d unit from to) ≡ length unit
length-combine d unit from to h within =
    let r = combine_range d unit from to h within in
    ap length r.2 ∙ omega (arith, length-append (take from unit ++ r.0) (drop to unit), length-append (take from unit) r.0, r.1, length-take-le from unit (omega arith), length-drop to unit)
