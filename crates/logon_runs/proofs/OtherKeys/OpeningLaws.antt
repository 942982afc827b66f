-- A unit that is opened by another session than the sender's: where it is taken, it is read as it was sealed, but for
-- its stub.
-- Of `keys_may_differ`.
use Rattle.std.proofs.Common.{◌≡◌, ℕ, ◌≤◌, ◌+◌, ◌-◌, ◌==◌, Bool, true, false, List, ◌++◌, length, take, drop, Option, Some, None, Result, Ok, Err, refl, sym, ap, subst, ◌∙◌, arith}
use Rattle.std.specs.Prelude.{is_ok}
use Rattle.std.proofs.lemmas.Bool.{eqb-true}
use Rattle.std.proofs.lemmas.List.{length-append, length-take, take-append-drop}
use Rattle.std.proofs.lemmas.Slice.{drop-append-drop}
use Rattle.ntlm_seal.specs.declared.refusal.SealRefused.{SealRefused}
use Rattle.ntlm_seal.specs.Directions.{Direction, combine}
use Rattle.ntlm_seal.specs.Sessions.{SessionState, judge_by, judge_of, judgement_with, open_of, verdict_of}
use Rattle.ntlm_seal.specs.Turns.{Paired}
use Rattle.ntlm_seal.proofs.TurnLaws.{combine_range}
use Rattle.rpc_units.specs.declared.unit.Body.{Body}
use Rattle.rpc_units.specs.declared.unit.Unit.{Unit as RpcUnit}
use Rattle.rpc_units.specs.Joining.{stub_of}
use Rattle.rpc_units.specs.Reading.{unit_of}
use Rattle.rpc_units.specs.Sealed.{IsSealedRange, range_replaced, unit_with_stub}
use Rattle.rpc_units.specs.Sealing.{sealed_of}
use Rattle.rpc_units.proofs.JoiningLaws.{with_stub-own}
use Rattle.rpc_units.proofs.SealedLaws.{sealed_of-Some, take-range_replaced, unit_of-range_replaced}
use Rattle.unit_security.specs.declared.securing.Secured.{Secured}
use Rattle.unit_security.specs.Securing.{open_in, open_unit, range_by, range_if, range_of, signature_part, signed_part, taken_by}
use Rattle.logon_runs.specs.OtherKeys.Differing.{HasSent}

-- ---- sessions

-- a session that is in step with that one
abbrev pub mirror : SessionState → SessionState
mirror s = record { sending = s.receiving; receiving = s.sending; broken = false }

pub mirrored : (s : SessionState) → s.broken ≡ false → Paired s (mirror s)
mirrored s whole = record {
  there = record { sends = whole; receives = refl; direction = refl };
  back = record { sends = refl; receives = whole; direction = refl };
}

unbroken : (answer : Result Unit SealRefused) (s : SessionState) (from to : ℕ) → is_ok answer ≡ true → (judgement_with answer s from to).session.broken ≡ false
unbroken (Ok taken) s from to is = refl
unbroken (Err why) s from to is = absurd cc

-- what is taken breaks no session, and sends nothing
judged : (broken : Bool) (s : SessionState) (plain : List ℕ) (from to : ℕ) (signature : List ℕ) (sent : ℕ) → s.sending.number ≤ sent →
    is_ok (judge_by broken s plain from to signature).answer ≡ true → HasSent sent (Some (judge_by broken s plain from to signature).session)
judged true s plain from to signature sent few is = absurd cc
judged false s plain from to signature sent few is = (unbroken (verdict_of s.receiving plain from to signature) s from to is, few)

-- ---- the bytes of a unit, of whose front the range is combined with any key stream

spliced : (bytes range : List ℕ) (from to at : ℕ) → from ≤ to → to ≤ at → at ≤ length bytes → length range ≡ to - from →
    range_replaced (take at bytes) from to range ++ drop at bytes ≡ range_replaced bytes from to range
spliced bytes range from to at order after within count =
    let whole : List ℕ = range_replaced bytes from to range in
    let front : length (take from bytes ++ range) ≡ to = omega (arith, length-append (take from bytes) range, length-take from bytes, count) in
    ap (λ (part : List ℕ). part ++ drop at bytes) (sym (take-range_replaced bytes range from to at order after within count))
    ∙ ap (λ (rest : List ℕ). take at whole ++ rest) (sym (drop-append-drop to bytes (take from bytes ++ range) at after front))
    ∙ take-append-drop at whole

-- the bytes are read as the unit with some other stub
abbrev pub IsReadBut : RpcUnit → List ℕ → Type 0
IsReadBut unit bytes = (stub : List ℕ) × (unit_of bytes ≡ Ok (unit_with_stub unit stub))

combined_read : (d : Direction) (bytes : List ℕ) (unit : RpcUnit) (from to at : ℕ) → sealed_of bytes ≡ Some (from, to) → unit_of bytes ≡ Ok unit → to ≤ at → at ≤ length bytes →
    IsReadBut unit (combine d (take at bytes) from to ++ drop at bytes)
combined_read d bytes unit from to at sealed read after within =
    let found : IsSealedRange bytes from to = sealed_of-Some bytes from to sealed in
    let changed = combine_range d (take at bytes) from to found.in_order (omega (arith, length-take at bytes, within, after)) in
    let range : List ℕ = changed.0 in (
      take (length (stub_of unit.body)) range,
      ap (λ (front : List ℕ). unit_of (front ++ drop at bytes)) changed.2
          ∙ ap unit_of (spliced bytes range from to at found.in_order after within changed.1)
          ∙ (unit_of-range_replaced bytes unit from to range sealed read changed.1).0,
    )

same_read : (unit : RpcUnit) (bytes : List ℕ) → unit_of bytes ≡ Ok unit → IsReadBut unit bytes
same_read unit bytes read = (stub_of unit.body, read ∙ ap (λ (body : Body). Ok (record unit { body = body })) (sym (with_stub-own unit.body)))

-- ---- what is opened

range_if_is : (test : Bool) (one other : ℕ × ℕ) → range_if test one ≡ Some other → (test ≡ true) × (one ≡ other)
range_if_is true one other is = (refl, cc)
range_if_is false one other is = absurd cc

range_is : (found : Option (ℕ × ℕ)) (bytes : List ℕ) (range : ℕ × ℕ) → range_by found bytes ≡ Some range → (found ≡ Some range) × (range.1 + 24 ≡ length bytes)
range_is None bytes range is = absurd cc
range_is (Some other) bytes range is =
    let both = range_if_is (other.1 + 24 == length bytes) other range is in
    (ap Some both.1, ap (λ (r : ℕ × ℕ). r.1 + 24) (sym both.1) ∙ eqb-true (other.1 + 24) (length bytes) both.0)

-- what is taken, with the session afterwards
taken_is : (answer : Result Unit SealRefused) (session : SessionState) (bytes : List ℕ) (secured : Secured) → taken_by answer session bytes ≡ Some secured →
    (is_ok answer ≡ true) × (record { bytes = bytes; session = session } ≡ secured)
taken_is (Ok taken) session bytes secured is = (refl, cc)
taken_is (Err why) session bytes secured is = absurd cc

abbrev IsTaken : RpcUnit → ℕ → Secured → Type 0
IsTaken unit sent secured = IsReadBut unit secured.bytes × HasSent sent (Some secured.session)

opens_in : (seals : Bool) (found : Option (ℕ × ℕ)) (s : SessionState) (bytes : List ℕ) (unit : RpcUnit) (sent : ℕ) (secured : Secured) → range_of bytes ≡ found →
    unit_of bytes ≡ Ok unit → s.sending.number ≤ sent → open_in seals found s bytes ≡ Some secured → IsTaken unit sent secured
opens_in true None s bytes unit sent secured ranged read few is = absurd cc
opens_in false None s bytes unit sent secured ranged read few is = absurd cc
opens_in true (Some range) s bytes unit sent secured ranged read few is =
    let from : ℕ = range.0 in
    let to : ℕ = range.1 in
    let both = range_is (sealed_of bytes) bytes range ranged in
    let plain : List ℕ = combine s.receiving (signed_part range bytes) from to in
    let j = open_of s (signed_part range bytes) from to (signature_part range bytes) in
    let taken = taken_is j.answer j.session (plain ++ signature_part range bytes) secured is in
    subst (IsTaken unit sent) taken.1 (
      combined_read s.receiving bytes unit from to (to + 8) both.0 read (omega arith) (omega (arith, both.1)),
      judged s.broken s plain from to (signature_part range bytes) sent few taken.0,
    )
opens_in false (Some range) s bytes unit sent secured ranged read few is =
    let j = judge_of s (signed_part range bytes) 0 0 (signature_part range bytes) in
    let taken = taken_is j.answer j.session bytes secured is in
    subst (IsTaken unit sent) taken.1 (same_read unit bytes read, judged s.broken s (signed_part range bytes) 0 0 (signature_part range bytes) sent few taken.0)

pub what_opens : (seals : Bool) (s : SessionState) (bytes : List ℕ) (unit : RpcUnit) (sent : ℕ) (secured : Secured) → unit_of bytes ≡ Ok unit → s.sending.number ≤ sent →
    open_unit seals s bytes ≡ Some secured → IsReadBut unit secured.bytes × HasSent sent (Some secured.session)
what_opens seals s bytes unit sent secured read few is = opens_in seals (range_of bytes) s bytes unit sent secured refl read few is
