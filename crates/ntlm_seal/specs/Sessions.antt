-- A session: a direction in which it sends and one in which it receives, and what each call answers and makes of it
-- (MS-NLMP 3.4.2 to 3.4.4). That a refusal breaks the session, that the last number isn't used and that a range isn't
-- left in the clear are this project's own choice. A plain unit's sealed bytes are those from place `from` to before
-- place `to`.
use Rattle.std.specs.Prelude.{ℕ, ◌-◌, ◌^◌, Bool, true, false, ◌==◌, List, ◌++◌, take, drop, replicate, bytes_eq, is_err, Result, Ok, Err}
use Rattle.ntlm_seal.specs.declared.refusal.SealRefused.{SealRefused}
use Rattle.ntlm_seal.specs.declared.refusal.SealRefused.TheVariants.{Broken, Spent, BadVersion, BadSequence, BadChecksum}
use Rattle.ntlm_seal.specs.declared.side.Side.{Side}
use Rattle.ntlm_seal.specs.Sides.{other_side}
use Rattle.ntlm_seal.specs.Directions.{Direction, direction_of, combine, sent_checksum, signature_of, version_in, checksum_in, number_in, next_of}

pub record SessionState : Type 0 where
  pub sending : Direction
  pub receiving : Direction
  pub broken : Bool

-- the session of a side, before its first unit: exported session key, flags and side
abbrev pub session_of : List ℕ → ℕ → Side → SessionState
session_of exported flags side = record {
  sending = direction_of exported flags side;
  receiving = direction_of exported flags (other_side side);
  broken = false;
}

-- the number that no unit takes
abbrev pub last_number : ℕ
last_number = 2 ^ 32 - 1

abbrev pub is_spent : Direction → Bool
is_spent d = d.number == last_number

-- what a call answers, and the session that it leaves
pub record Judgement : Type 0 where
  pub answer : Result Unit SealRefused
  pub session : SessionState

-- ---- signing and sealing

-- what sealing answers, and the unit and the session that it leaves
pub record Sealing : Type 0 where
  pub answer : Result (List ℕ) SealRefused
  pub unit : List ℕ
  pub session : SessionState

-- a session seals a plain unit from one place to another
abbrev pub seal_by : (is_broken is_spent : Bool) (session : SessionState) (plain : List ℕ) (from to : ℕ) → Sealing
seal_by true _ s unit from to = record { answer = Err Broken; unit = unit; session = s }
seal_by false true s unit from to =
    record { answer = Err Spent; unit = unit; session = record s { broken = true } }
seal_by false false s unit from to = record {
  answer = Ok (signature_of s.sending unit from to);
  unit = combine s.sending unit from to;
  session = record s { sending = next_of s.sending from to };
}

abbrev pub seal_of : SessionState → List ℕ → ℕ → ℕ → Sealing
seal_of s unit from to = seal_by s.broken (is_spent s.sending) s unit from to

-- whether a session may send: its answer, and the session
abbrev pub may_send_by : (is_broken is_spent : Bool) (session : SessionState) → Judgement
may_send_by true _ s = record { answer = Err Broken; session = s }
may_send_by false true s = record { answer = Err Spent; session = record s { broken = true } }
may_send_by false false s = record { answer = Ok tt; session = s }

abbrev pub may_send : SessionState → Judgement
may_send s = may_send_by s.broken (is_spent s.sending) s

-- ---- checking and opening

-- what a direction answers to a signature before its checksum is looked at
abbrev pub expect_by : (is_spent is_version_1 has_next_number : Bool) (direction : Direction) (signature : List ℕ) → Result Unit SealRefused
expect_by true _ _ d signature = Err Spent
expect_by false false _ d signature = Err BadVersion
expect_by false true false d signature = Err (BadSequence (number_in signature) d.number)
expect_by false true true d signature = Ok tt

abbrev pub expect : Direction → List ℕ → Result Unit SealRefused
expect d signature =
    expect_by (is_spent d) (version_in signature == 1) (number_in signature == d.number) d signature

-- what it answers to the checksum
abbrev pub compare_by : (is_that_of_the_unit : Bool) → Result Unit SealRefused
compare_by true = Ok tt
compare_by false = Err BadChecksum

abbrev pub verdict_by : Result Unit SealRefused → Bool → Result Unit SealRefused
verdict_by (Ok _) same = compare_by same
verdict_by (Err e) same = Err e

-- what a direction answers to the signature of a unit, of which this is the plain form, with its range
abbrev pub verdict_of : Direction → List ℕ → ℕ → ℕ → List ℕ → Result Unit SealRefused
verdict_of d plain from to signature =
    verdict_by (expect d signature) (bytes_eq (checksum_in signature) (sent_checksum d plain (to - from)))

-- the direction afterwards: once it has come to the checksum it has gone on to the next unit
abbrev pub direction_left : Result Unit SealRefused → Direction → ℕ → ℕ → Direction
direction_left (Ok _) d from to = next_of d from to
direction_left (Err BadChecksum) d from to = next_of d from to
direction_left (Err Broken) d from to = d
direction_left (Err Spent) d from to = d
direction_left (Err BadVersion) d from to = d
direction_left (Err (BadSequence _ _)) d from to = d

abbrev pub judgement_with : Result Unit SealRefused → SessionState → ℕ → ℕ → Judgement
judgement_with answer s from to = record {
  answer = answer;
  session = record s { receiving = direction_left answer s.receiving from to; broken = is_err answer };
}

-- a session judges a plain unit, from one place to another, by the signature that came with it
abbrev pub judge_by : (is_broken : Bool) (session : SessionState) (plain : List ℕ) (from to : ℕ) (signature : List ℕ) → Judgement
judge_by true s plain from to signature = record { answer = Err Broken; session = s }
judge_by false s plain from to signature =
    judgement_with (verdict_of s.receiving plain from to signature) s from to

abbrev pub judge_of : SessionState → List ℕ → ℕ → ℕ → List ℕ → Judgement
judge_of s plain from to signature = judge_by s.broken s plain from to signature

-- the unit that opening leaves, by its answer: the plain unit, or zeros in the range after a wrong checksum, or the
-- sealed unit as it was after every other refusal
abbrev pub unit_left : Result Unit SealRefused → List ℕ → List ℕ → ℕ → ℕ → List ℕ
unit_left (Ok _) unit plain from to = plain
unit_left (Err BadChecksum) unit plain from to = take from unit ++ replicate (to - from) 0 ++ drop to unit
unit_left (Err Broken) unit plain from to = unit
unit_left (Err Spent) unit plain from to = unit
unit_left (Err BadVersion) unit plain from to = unit
unit_left (Err (BadSequence _ _)) unit plain from to = unit

-- opening: the plain unit is judged
abbrev pub open_of : SessionState → List ℕ → ℕ → ℕ → List ℕ → Judgement
open_of s unit from to signature = judge_of s (combine s.receiving unit from to) from to signature
