-- The run in which FILE1 replaces its secret, but that its call is lost, and a stranger hands in a copy of it. What is
-- proved of all runs says nothing of it, and where the stranger changes the copy's last byte the two are apart (this
-- project's own choice).
use Rattle.std.specs.Prelude.{ℕ, ◌≡◌, true, false, List, [], ◌∷◌, ◌++◌, replicate, Option, Some, codes, slice_get}
use Rattle.std.specs.List.{flat_map}
use Rattle.std.specs.Option.{option_map}
use Rattle.world_moves.specs.declared.bag.BagUnit.{BagUnit}
use Rattle.world_moves.specs.declared.moves.Move.{Move}
use Rattle.world_moves.specs.declared.moves.Move.TheVariants as move
use Rattle.world_moves.specs.Forms.{IsSchedule}
use Rattle.world_moves.specs.World.{World}
use Rattle.domain_world.specs.Claims.{IsClear}
use Rattle.domain_world.specs.Claims.NeverApart.{BeginsAlike, IsNeverApart, has_foreign_set}
use Rattle.domain_world.specs.Past.{Past, past}
use Rattle.claim_examples.specs.ChangeRuns.{Has, changing_plan, opened_moves}
use Rattle.claim_examples.specs.NeverApartExamples.{both_secrets, new_secret}

-- ---- what the stranger hands in

-- FILE1's bind in front of its call, of 72 bytes and with number 5 (C706 12.6.4.3)
abbrev pub bind_bytes : List ℕ
bind_bytes =
    5 ∷ 0 ∷ 11 ∷ 3 ∷ 16 ∷ 0 ∷ 0 ∷ 0 ∷ 72 ∷ 0 ∷ 0 ∷ 0 ∷ 5 ∷ 0 ∷ 0 ∷ 0
    ∷ 0xD0 ∷ 0x16 ∷ 0xD0 ∷ 0x16 ∷ 0 ∷ 0 ∷ 0 ∷ 0 ∷ 1 ∷ 0 ∷ 0 ∷ 0 ∷ 0 ∷ 0 ∷ 1 ∷ 0
    ∷ 0x78 ∷ 0x56 ∷ 0x34 ∷ 0x12 ∷ 0x34 ∷ 0x12 ∷ 0xCD ∷ 0xAB ∷ 0xEF ∷ 0x00 ∷ 0x01 ∷ 0x23 ∷ 0x45 ∷ 0x67 ∷ 0xCF ∷ 0xFB ∷ 1 ∷ 0 ∷ 0 ∷ 0
    ∷ 0x04 ∷ 0x5D ∷ 0x88 ∷ 0x8A ∷ 0xEB ∷ 0x1C ∷ 0xC9 ∷ 0x11 ∷ 0x9F ∷ 0xE8 ∷ 0x08 ∷ 0x00 ∷ 0x2B ∷ 0x10 ∷ 0x48 ∷ 0x60 ∷ 2 ∷ 0 ∷ 0 ∷ 0 ∷ []

-- the head of a request of 108 bytes with number 6, for operation 6 (C706 12.6.4.9)
abbrev pub request_head : List ℕ
request_head =
    5 ∷ 0 ∷ 0 ∷ 3 ∷ 16 ∷ 0 ∷ 0 ∷ 0 ∷ 108 ∷ 0 ∷ 0 ∷ 0 ∷ 6 ∷ 0 ∷ 0 ∷ 0 ∷ 84 ∷ 0 ∷ 0 ∷ 0 ∷ 0 ∷ 0 ∷ 6 ∷ 0 ∷ []

-- a string of `count` characters, of which the last one ends it
abbrev pub string_of : (count : ℕ) → List ℕ → List ℕ
string_of count text = count ∷ 0 ∷ 0 ∷ 0 ∷ 0 ∷ 0 ∷ 0 ∷ 0 ∷ count ∷ 0 ∷ 0 ∷ 0 ∷ flat_map (λ (one : ℕ). one ∷ 0 ∷ []) (text ++ 0 ∷ [])

-- A NetrServerPasswordSet (MS-NRPC 3.5.4.4.6): no primary name, the account, a workstation's channel, the computer, the
-- next authenticator of FILE1's channel, and the hidden secret.
abbrev pub set_bytes : List ℕ → List ℕ
set_bytes hidden =
    request_head ++ (0 ∷ 0 ∷ 0 ∷ 0 ∷ []) ++ string_of 7 (codes "FILE1$") ++ (2 ∷ 0 ∷ []) ++ string_of 6 (codes "FILE1")
    ++ (0x8A ∷ 0x53 ∷ 0xE0 ∷ 0xCA ∷ 0x76 ∷ 0xD9 ∷ 0x81 ∷ 0x0C ∷ 0x00 ∷ 0x6F ∷ 0xEF ∷ 0x49 ∷ []) ++ hidden

-- the secret as FILE1 hid it, but for its last byte, which is 5
abbrev pub hidden_ending : ℕ → List ℕ
hidden_ending last = 0xD0 ∷ 0x5A ∷ 0xB0 ∷ 0xD8 ∷ 0x8D ∷ 0xA4 ∷ 0x31 ∷ 0x4E ∷ 0x41 ∷ 0x93 ∷ 0x60 ∷ 0xC0 ∷ 0x33 ∷ 0x5A ∷ 0x58 ∷ last ∷ []

abbrev pub copied_call : List ℕ
copied_call = set_bytes (hidden_ending 5)

abbrev pub altered_call : List ℕ
altered_call = set_bytes (hidden_ending 4)

-- what the altered call sets: under the channel's key the last 8 bytes are none that FILE1 knows
abbrev pub altered_hash : List ℕ
altered_hash = replicate 8 0x61 ++ 0x38 ∷ 0xC3 ∷ 0xEE ∷ 0x22 ∷ 0x9F ∷ 0x9F ∷ 0xF0 ∷ 0xC9 ∷ []

-- ---- the run

-- FILE1's call is lost. A stranger opens a link to its controller, and hands in the bind and this call.
abbrev pub stranger_moves : List ℕ → List Move
stranger_moves call =
    opened_moves ++ move.Connect ∷ move.Onward ∷ move.Onward ∷ move.Lose ∷ move.Stranger 0 ∷ move.Hand 1 false bind_bytes ∷ move.Hand 1 false call ∷ []

abbrev pub stranger_run : List ℕ → Past
stranger_run call = past changing_plan (stranger_moves call)

-- the bytes of a unit of the bag
abbrev pub bag_bytes : World → ℕ → Option (List ℕ)
bag_bytes w number = option_map (λ (unit : BagUnit). unit.bytes) (slice_get w.state.bag number)

-- The moves are a clear schedule, so of what is claimed one premise alone isn't met: a call from outside set a secret,
-- which is now the account's hash. FILE1 holds and keeps both of its own.
pub record StrangerSets (call hash : List ℕ) : Type 0 where
  pub schedule : IsSchedule changing_plan (stranger_moves call)
  pub clear : IsClear (stranger_run call).book
  pub foreign : has_foreign_set (stranger_run call).book.judged ≡ true
  pub has : Has (stranger_run call) hash both_secrets

-- A copy of what FILE1 sent, byte for byte, sets a secret from outside, though it is FILE1's own next one. With another
-- last byte it does too, and there FILE1 and its controller are apart: so the premise is needed.
pub record StrangerPartsThem : Type 0 where
  pub begins : BeginsAlike changing_plan 0
  pub bind : bag_bytes (stranger_run copied_call).world 12 ≡ Some bind_bytes
  pub call : bag_bytes (stranger_run copied_call).world 14 ≡ Some copied_call
  pub copied : StrangerSets copied_call new_secret
  pub altered : StrangerSets altered_call altered_hash
  pub apart : IsNeverApart (stranger_run altered_call) 0 begins → ⊥
