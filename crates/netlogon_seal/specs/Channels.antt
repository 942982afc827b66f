-- One end of a secure channel that signs and seals (MS-NRPC 3.3.4.2), and what each call answers and makes of it. An
-- end has the channel's key, which end it is, and how many units it has sent and opened. Three things are this
-- project's own choice: a refusal leaves the numbers, the last number isn't used, and a range isn't left in the clear.
-- A unit is a list of bytes that ends with its signature; the bytes from place `from` to before place `to` are sealed.
use Rattle.std.specs.Prelude.{ℕ, ◌+◌, ◌-◌, ◌^◌, Bool, true, false, not, ◌==◌, List, ◌++◌, take, drop, replicate, bytes_eq, Result, Ok, Err}
use Rattle.netlogon_seal.specs.declared.refusal.NlRefused.{NlRefused}
use Rattle.netlogon_seal.specs.declared.refusal.NlRefused.TheVariants.{Spent, BadAlgorithm, BadSequence, BadChecksum}
use Rattle.netlogon_seal.specs.Signatures.{before_signature, signature_in, algorithms, algorithms_in, checksum_in, sequence_bytes, checksum_of, sealing_key_of, combine_range, sealed_unit, number_in, confounder_in}

-- An end of a channel: the session key, of 16 bytes; whether it is the requester; and the numbers of the next unit that
-- it sends and that it opens, below 2 ^ 32.
pub record NlState : Type 0 where
  pub key : List ℕ
  pub requester : Bool
  pub sent : ℕ
  pub received : ℕ

-- an end of a channel before its first unit
abbrev pub nl_state_of : List ℕ → Bool → NlState
nl_state_of key requester = record { key = key; requester = requester; sent = 0; received = 0 }

-- the number that no unit takes
abbrev pub last_number : ℕ
last_number = 2 ^ 32 - 1

-- ---- sealing (3.3.4.2.1 and 3.3.4.2.3)

-- what sealing answers, and the unit and the end that it leaves
pub record Sealing : Type 0 where
  pub answer : Result Unit NlRefused
  pub unit : List ℕ
  pub state : NlState

-- an end seals a unit from one place to another, with a confounder
abbrev pub seal_by : (is_spent : Bool) (end : NlState) (unit : List ℕ) (from to : ℕ) (confounder : List ℕ) → Sealing
seal_by true s unit from to confounder = record { answer = Err Spent; unit = unit; state = s }
seal_by false s unit from to confounder = record {
  answer = Ok tt;
  unit = sealed_unit s.key s.sent s.requester (before_signature unit) from to confounder;
  state = record s { sent = s.sent + 1 };
}

abbrev pub seal_of : NlState → List ℕ → ℕ → ℕ → List ℕ → Sealing
seal_of s unit from to confounder = seal_by (s.sent == last_number) s unit from to confounder

-- ---- opening (3.3.4.2.2 and 3.3.4.2.4)

-- the copy of the sequence number that the next unit has
abbrev pub awaited_sequence : NlState → List ℕ
awaited_sequence s = sequence_bytes s.received (not s.requester)

-- the unit before its signature, with its range opened as the next unit's is
abbrev pub plain_of : NlState → List ℕ → ℕ → ℕ → List ℕ
plain_of s front from to = combine_range (sealing_key_of s.key (awaited_sequence s)) front from to

-- what is answered to a signature before its checksum is looked at
abbrev pub expect_by : (is_spent names_algorithms has_next_number : Bool) (wanted : ℕ) → Result Unit NlRefused
expect_by true _ _ wanted = Err Spent
expect_by false false _ wanted = Err BadAlgorithm
expect_by false true false wanted = Err (BadSequence wanted)
expect_by false true true wanted = Ok tt

abbrev pub expect : NlState → List ℕ → Result Unit NlRefused
expect s signature =
    expect_by (s.received == last_number) (bytes_eq (algorithms_in signature) algorithms)
    (bytes_eq (number_in s.key signature) (awaited_sequence s)) s.received

-- what is answered to its checksum
abbrev pub compare_by : (is_that_of_the_unit : Bool) → Result Unit NlRefused
compare_by true = Ok tt
compare_by false = Err BadChecksum

abbrev pub verdict_by : Result Unit NlRefused → Bool → Result Unit NlRefused
verdict_by (Ok _) same = compare_by same
verdict_by (Err e) same = Err e

-- the checksum of a plain unit, with the confounder that its signature has as the next unit's
abbrev pub checksum_with : NlState → List ℕ → List ℕ → List ℕ
checksum_with s plain signature =
    checksum_of s.key (confounder_in s.key (awaited_sequence s) signature) plain

-- what an end answers to the signature of a unit, of which this is the plain form before the signature
abbrev pub verdict_of : NlState → List ℕ → List ℕ → Result Unit NlRefused
verdict_of s plain signature =
    verdict_by (expect s signature)
    (bytes_eq (checksum_in signature) (checksum_with s plain signature))

-- the unit that opening leaves, by its answer: the opened one; after a wrong checksum, zeros in the range; after every
-- other refusal, the unit as it was
abbrev pub unit_left : Result Unit NlRefused → List ℕ → List ℕ → ℕ → ℕ → List ℕ
unit_left (Ok _) unit opened from to = opened
unit_left (Err BadChecksum) unit opened from to =
    take from unit ++ replicate (to - from) 0 ++ drop to unit
unit_left (Err Spent) unit opened from to = unit
unit_left (Err BadAlgorithm) unit opened from to = unit
unit_left (Err (BadSequence _)) unit opened from to = unit

-- the end that opening leaves: only a unit that is taken raises the number
abbrev pub state_left : Result Unit NlRefused → NlState → NlState
state_left (Ok _) s = record s { received = s.received + 1 }
state_left (Err _) s = s

-- what opening answers, and the unit and the end that it leaves
pub record Opening : Type 0 where
  pub answer : Result Unit NlRefused
  pub unit : List ℕ
  pub state : NlState

abbrev pub opening_with : Result Unit NlRefused → NlState → List ℕ → List ℕ → ℕ → ℕ → Opening
opening_with answer s unit plain from to =
    record {
      answer = answer;
      unit = unit_left answer unit (plain ++ signature_in unit) from to;
      state = state_left answer s;
    }

abbrev pub open_of : NlState → List ℕ → ℕ → ℕ → Opening
open_of s unit from to =
    let plain = plain_of s (before_signature unit) from to in
    opening_with (verdict_of s plain (signature_in unit)) s unit plain from to
