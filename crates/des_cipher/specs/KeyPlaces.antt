-- Where the bits of the words that keep round keys come from: numbers of bits of the key, from 1, or 0 for no bit.
use Rattle.std.specs.Prelude.{ℕ, ◌+◌, ◌-◌, ◌*◌, ◌/◌, ◌%◌, ◌&&◌, List, [], ◌∷◌, ◌++◌, map, take, drop, slice_index_or, nat_lt, nat_le, if◌then◌else◌}
use Rattle.std.specs.Int.{bit_at}
use Rattle.des_cipher.specs.Tables.{key_choice_c, key_choice_d, round_key_choice, rotations}

turned : ℕ → List ℕ → List ℕ
turned n places = drop n places ++ take n places

-- the key bits of each round key, by the schedule's own rotations and choices
places_from : List ℕ → List ℕ → List ℕ → List (List ℕ)
places_from [] c d = []
places_from (n ∷ ns) c d =
    map (λ p. slice_index_or (turned n c ++ turned n d) (p - 1) 0) round_key_choice ∷ places_from ns (turned n c) (turned n d)

unfoldable pub key_places : List (List ℕ)
unfolding turned places_from
key_places = places_from rotations key_choice_c key_choice_d

-- which of the 48 bits of a round key stands at each bit of a left and of a right half word, the lowest first, or 48
unfoldable pub left_order : List ℕ
left_order = 48 ∷ 48 ∷ 23 ∷ 22 ∷ 21 ∷ 20 ∷ 19 ∷ 18 ∷ 48 ∷ 48 ∷ 11 ∷ 10 ∷ 9 ∷ 8 ∷ 7 ∷ 6 ∷ 48 ∷ 48 ∷ 17 ∷ 16 ∷ 15 ∷ 14 ∷ 13 ∷ 12 ∷ 48 ∷ 48 ∷ 5 ∷ 4 ∷ 3 ∷ 2 ∷ 1 ∷ 0 ∷ []

unfoldable pub right_order : List ℕ
right_order = 48 ∷ 48 ∷ 41 ∷ 40 ∷ 39 ∷ 38 ∷ 37 ∷ 36 ∷ 48 ∷ 48 ∷ 29 ∷ 28 ∷ 27 ∷ 26 ∷ 25 ∷ 24 ∷ 48 ∷ 48 ∷ 47 ∷ 46 ∷ 45 ∷ 44 ∷ 43 ∷ 42 ∷ 48 ∷ 48 ∷ 35 ∷ 34 ∷ 33 ∷ 32 ∷ 31 ∷ 30 ∷ []

unfoldable pub left_place : ℕ → ℕ → ℕ
left_place k j = slice_index_or (slice_index_or key_places k []) (slice_index_or left_order j 48) 0

unfoldable pub right_place : ℕ → ℕ → ℕ
right_place k j = slice_index_or (slice_index_or key_places k []) (slice_index_or right_order j 48) 0

-- the bit of a key with the number `p`, if it is in the first `i` bytes, else 0
unfoldable pub bit_so_far : List ℕ → (i p : ℕ) → ℕ
bit_so_far key i p =
    if nat_lt 0 p && nat_le p (8 * i) then bit_at (slice_index_or key ((p - 1) / 8) 0) (7 - (p - 1) % 8) else 0

-- the bit of a key with this number, if it is in the byte given, else 0
unfoldable pub bit_of_byte : ℕ → ℕ → ℕ → ℕ
bit_of_byte i byte p = if nat_lt (8 * i) p && nat_le p (8 * i + 8) then bit_at byte (7 - (p - 1) % 8) else 0
