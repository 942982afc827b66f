-- The sequence of authenticators on a secure channel (MS-NRPC 3.1.4.5). A session key has 16 bytes, a seed and a
-- credential have 8, and a timestamp is a number below 2^32. That a refusal moves nothing is this project's own choice.
use Rattle.std.specs.Prelude.{◌≡◌, ℕ, ◌+◌, ◌%◌, ◌^◌, Bool, true, false, List, [], ◌∷◌, ◌++◌, take, drop, Option, Some, None, Result, Ok, Err, bytes_eq, unwrap_or, sum_by}
use Rattle.std.specs.Int.{w32, to_le_bytes, from_le_bytes}
use Rattle.wire_base.specs.declared.authenticator.Authenticator.{Authenticator}
use Rattle.channel_keys.specs.Credentials.{cred_of}
use Rattle.authenticators.specs.declared.refusal.NotNext.{NotNext}

-- ---- the seed

-- a number added to the first four bytes, low byte first, modulo 2^32; the last four stay
unfoldable pub add_to : List ℕ → ℕ → List ℕ
add_to seed n = to_le_bytes w32 ((from_le_bytes w32 (take 4 seed) + n) % 2 ^ 32) ++ drop 4 seed

-- the seed after an authenticator with this timestamp
abbrev pub next_seed : List ℕ → ℕ → List ℕ
next_seed seed timestamp = add_to seed (timestamp + 1)

-- the seed after authenticators with these timestamps, in order
abbrev pub seed_after : List ℕ → List ℕ → List ℕ
seed_after seed [] = seed
seed_after seed (timestamp ∷ later) = seed_after (next_seed seed timestamp) later

-- how far timestamps move the seed: the sum of each plus one
unfoldable pub moved_by : List ℕ → ℕ
moved_by timestamps = sum_by (λ t. t + 1) timestamps

-- ---- authenticators

-- the authenticator at a seed with this timestamp
abbrev pub authenticator_of : List ℕ → List ℕ → ℕ → Authenticator
authenticator_of key seed timestamp =
    record { credential = cred_of key (add_to seed timestamp); timestamp = timestamp }

-- the credential that an authenticator with this timestamp is answered with
abbrev pub return_of : List ℕ → List ℕ → ℕ → List ℕ
return_of key seed timestamp = cred_of key (next_seed seed timestamp)

-- an authenticator passes at a seed
abbrev pub Passes : List ℕ → List ℕ → Authenticator → Type 0
Passes key seed given = given.credential ≡ cred_of key (add_to seed given.timestamp)

-- the test of it
abbrev pub passes : List ℕ → List ℕ → Authenticator → Bool
passes key seed given = bytes_eq given.credential (cred_of key (add_to seed given.timestamp))

-- ---- one end

-- what an end keeps: the awaited return credential is none where no authenticator that it made waits for its answer
pub record SequenceState : Type 0 where
  pub key : List ℕ
  pub seed : List ℕ
  pub awaited : Option (List ℕ)

-- two ends that have one key and one seed
pub record InStep (one other : SequenceState) : Type 0 where
  pub key : one.key ≡ other.key
  pub seed : one.seed ≡ other.seed

-- the sequence after making an authenticator with this timestamp
abbrev pub sequence_after : SequenceState → ℕ → SequenceState
sequence_after s timestamp = record {
  key = s.key;
  seed = next_seed s.seed timestamp;
  awaited = Some (return_of s.key s.seed timestamp);
}

-- what taking a return credential answers, and the sequence that it leaves
pub record Taking : Type 0 where
  pub answer : Result Unit NotNext
  pub sequence : SequenceState

-- what taking a credential answers, where this one is awaited
abbrev pub taken_by : (is_awaited : Bool) (sequence : SequenceState) (awaited : List ℕ) → Taking
taken_by true s awaited = record { answer = Ok tt; sequence = record s { awaited = None } }
taken_by false s awaited = record { answer = Err (record { awaited = awaited }); sequence = s }

-- a credential is taken where one is awaited; the empty list stands for none
abbrev pub taken_of : SequenceState → List ℕ → Taking
taken_of s credential =
    taken_by (bytes_eq credential (unwrap_or s.awaited [])) s (unwrap_or s.awaited [])

-- what judging an authenticator answers, and the sequence that it leaves
pub record Judging : Type 0 where
  pub answer : Result (List ℕ) NotNext
  pub sequence : SequenceState

-- what judging an authenticator gives
abbrev pub judge_by : (is_passed : Bool) (sequence : SequenceState) (given : Authenticator) → Judging
judge_by true s given = record {
  answer = Ok (return_of s.key s.seed given.timestamp);
  sequence = record s { seed = next_seed s.seed given.timestamp };
}
judge_by false s given = record {
  answer = Err (record { awaited = cred_of s.key (add_to s.seed given.timestamp) });
  sequence = s;
}

abbrev pub judge_of : SequenceState → Authenticator → Judging
judge_of s given = judge_by (passes s.key s.seed given) s given
