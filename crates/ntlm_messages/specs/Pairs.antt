-- Target information: a list of AV_PAIRs (MS-NLMP 2.2.2.1). A pair is (id, value): an id of 16 bits, and bytes. The
-- list ends with a pair of id 0 and no bytes, which isn't an item here. Ids: 1 NetBIOS computer name, 2 NetBIOS domain
-- name, 3 DNS computer name, 4 DNS domain name (texts of UTF-16LE), 6 flags (4 bytes), 7 timestamp (8 bytes). Other ids
-- are carried.
use Rattle.std.specs.Prelude.{◌≡◌, ◌≢◌, ◌+◌, ◌<◌, ◌≤◌, ◌^◌, ◌==◌, ℕ, zero, suc, Bool, true, false, List, [], ◌∷◌, ◌++◌, length, take, drop, Option, Result, Ok, Err, nat_lt, if◌then◌else◌}
use Rattle.std.specs.List.{flat_map, AllByRecursion}
use Rattle.std.specs.Int.{w16, w64, to_le_bytes, from_le_bytes}
use Rattle.std.specs.Option.{option_map}
use Rattle.wire_base.specs.Maps.{lookup, same_number}
use Rattle.ntlm_messages.specs.Fields.{◌>>=◌, short_at}
use Rattle.ntlm_messages.specs.declared.pairs.PairsRefused.{PairsRefused}
use Rattle.ntlm_messages.specs.declared.pairs.PairsRefused.TheVariants.{NoEnd, CutPair, BadLength, Memory}

-- an id, the length of the value, and the value
abbrev pub pair_bytes : ℕ × List ℕ → List ℕ
pair_bytes pair = to_le_bytes w16 pair.0 ++ to_le_bytes w16 (length pair.1) ++ pair.1

-- the pairs and the end
unfoldable pub written_pairs : List (ℕ × List ℕ) → List ℕ
written_pairs pairs = flat_map pair_bytes pairs ++ pair_bytes (0, [])

-- a pair that is no end, and whose value has the length that its id wants
pub record IsPair (pair : ℕ × List ℕ) : Type 0 where
  pub id : pair.0 < 2 ^ 16
  pub no_end : pair.0 ≢ 0
  pub len : length pair.1 < 2 ^ 16
  pub flags : pair.0 ≡ 6 → length pair.1 ≡ 4
  pub timestamp : pair.0 ≡ 7 → length pair.1 ≡ 8

abbrev pub ArePairs : List (ℕ × List ℕ) → Type 0
ArePairs pairs = AllByRecursion IsPair pairs

-- The bytes are these pairs, the end and any bytes.
pub record IsPairs (bytes : List ℕ) (pairs : List (ℕ × List ℕ)) : Type 0 where
  pub items : ArePairs pairs
  pub layout : (rest : List ℕ) × (bytes ≡ written_pairs pairs ++ rest)

-- ---- a pair by its id

-- the value of the first pair of that id
abbrev pub pair_value_of : ℕ → List (ℕ × List ℕ) → Option (List ℕ)
pair_value_of id pairs = lookup same_number id pairs

-- the time of pair 7, a FILETIME
abbrev pub timestamp_pair_of : List (ℕ × List ℕ) → Option ℕ
timestamp_pair_of pairs = option_map (from_le_bytes w64) (pair_value_of 7 pairs)

-- ---- reading from the front

-- a value of that length may stand behind the id
abbrev pub may_have_length : ℕ → ℕ → Bool
may_have_length id len = if id == 0 then len == 0 else (if id == 6 then len == 4 else (if id == 7 then len == 8 else true))

-- The pair at the front of the bytes, with what follows it: (id, value, rest). Its first byte stands at that place of
-- the whole list.
unfoldable pub pair_of : ℕ → List ℕ → Result (ℕ × List ℕ × List ℕ) PairsRefused
pair_of place bytes =
    if length bytes == 0 then Err NoEnd
    else (if nat_lt (length bytes) (4 + short_at bytes 2) then Err (CutPair place)
    else (if may_have_length (short_at bytes 0) (short_at bytes 2)
    then Ok (short_at bytes 0, take (short_at bytes 2) (drop 4 bytes), drop (4 + short_at bytes 2) bytes)
    else Err (BadLength (short_at bytes 0))))

-- the pairs before the end, of at most `limit` pairs with the end
unfoldable pub pairs_within : ℕ → ℕ → List ℕ → Result (List (ℕ × List ℕ)) PairsRefused
pairs_within zero place bytes = Err NoEnd
pairs_within (suc limit) place bytes = do
  first ← pair_of place bytes
  if first.0 == 0 then Ok [] else (pairs_within limit (place + 4 + length first.1) first.2 >>= λ others. Ok ((first.0, first.1) ∷ others))

-- the pairs before the end, or the first refusal from the front; a pair has at least four bytes, so the bytes bound
-- their number
unfoldable pub pairs_of : List ℕ → Result (List (ℕ × List ℕ)) PairsRefused
pairs_of bytes = pairs_within (suc (length bytes)) 0 bytes

-- whether pairs and their end stand at the front, or the first refusal
abbrev pub verdict_on_pairs : List ℕ → Result (Unit {0}) PairsRefused
verdict_on_pairs bytes = pairs_of bytes >>= λ pairs. Ok tt

-- ---- refusals

-- what stands at the place where the walk from the front stops: (place, bytes from there on)
abbrev pub StopsAt : ℕ → List ℕ → PairsRefused → Type 0
StopsAt place rest NoEnd = rest ≡ []
StopsAt place rest (CutPair cut) = (cut ≡ place) × (0 < length rest) × (length rest < 4 + short_at rest 2)
StopsAt place rest (BadLength id) =
    (4 + short_at rest 2 ≤ length rest) × (short_at rest 0 ≡ id) × (may_have_length id (short_at rest 2) ≡ false)
StopsAt place rest Memory = Unit {0}

-- The first refusal: behind pairs that are taken, none of which is the end. A cut head counts as a value's length of 0.
pub record IsPairsRefusal (bytes : List ℕ) (refused : PairsRefused) : Type 0 where
  pub taken : List (ℕ × List ℕ)
  pub rest : List ℕ
  pub items : ArePairs taken
  pub layout : bytes ≡ flat_map pair_bytes taken ++ rest
  pub stops : StopsAt (length (flat_map pair_bytes taken)) rest refused
