-- The bag, and how bytes come.
-- It serves `Bag::add`, `Bag::first_waiting`, `Bag::new` and 2 more.
use Rattle.std.proofs.Common.{◌≡◌, ℕ, suc, zero, ◌<◌, ◌≤◌, false, List, [], ◌∷◌, ◌++◌, length, take, drop, min, get_or, slice_set, ◌*◌, ◌+◌, refl, ap, sym, ◌∙◌, arith, length-drop, length-append}
use Rattle.std.proofs.lemmas.List.Elements.{All-get_or, All-nil, All-push, All-set}
use Rattle.std.proofs.lemmas.List.{length-take, get_or_append_left, append_assoc, append-nil, length-set, take_min, take_at, drop_min, drop_at}
use Rattle.wire_base.specs.Numbers.{AreBytes}
use Rattle.end_links.specs.Bounds.{send_limit}
use Rattle.wire_base.proofs.PlaceLaws.{NoneBefore, here_first, none_here, none_at_all}
use Rattle.world_moves.specs.declared.bag.BagUnit.{BagUnit}
use Rattle.world_moves.specs.Bag.{AreSettled, AreShortPieces, AreShortUnits, HaveBytes, is_waiting, piece_limit, pieces_in, pieces_of, settled}

pub none_settled : AreSettled 0 []
none_settled = record { inside = omega arith; none = λ earlier d lt. absurd (omega arith) }

pub settled_add : (count : ℕ) (bag : List BagUnit) (unit : BagUnit) → AreSettled count bag → AreSettled count (bag ++ unit ∷ [])
settled_add count bag unit are = record {
  inside = omega (arith, are.inside, length-append bag (unit ∷ []));
  none = λ earlier d lt. ap is_waiting (get_or_append_left bag (unit ∷ []) d earlier (omega (arith, are.inside))) ∙ are.none earlier d lt;
}

pub before_of : (count : ℕ) (bag : List BagUnit) → AreSettled count bag → NoneBefore is_waiting bag count
before_of count bag are = record { none = are.none }

pub are_settled : (count : ℕ) (bag : List BagUnit) → count ≤ length bag → NoneBefore is_waiting bag count → AreSettled count bag
are_settled count bag inside before = record { inside = inside; none = before.none }

pub ruleset seeking = (before_of, are_settled, here_first, none_here, none_at_all)

settled_waits : (bag : List BagUnit) (number : ℕ) (unit : BagUnit) (earlier : ℕ) (d : BagUnit) → is_waiting (get_or bag earlier d) ≡ false → is_waiting (get_or (slice_set bag number (settled unit)) earlier d) ≡ false
settled_waits [] number unit earlier d was = was
settled_waits (first ∷ bag) zero unit zero d was = refl
settled_waits (first ∷ bag) zero unit (suc earlier) d was = was
settled_waits (first ∷ bag) (suc number) unit zero d was = was
settled_waits (first ∷ bag) (suc number) unit (suc earlier) d was = settled_waits bag number unit earlier d was

pub settle_keeps : (count number : ℕ) (bag : List BagUnit) (unit : BagUnit) → AreSettled count bag → AreSettled count (slice_set bag number (settled unit))
settle_keeps count number bag unit are = record {
  inside = omega (arith, are.inside, length-set bag number (settled unit));
  none = λ earlier d lt. settled_waits bag number unit earlier d (are.none earlier d lt);
}

-- ---- how bytes come

pieces_enough : (most more : ℕ) (bytes : List ℕ) → length bytes ≤ most → length bytes ≤ more → pieces_in most bytes ≡ pieces_in more bytes
pieces_enough most more [] few small = refl
pieces_enough zero more (byte ∷ bytes) few small = absurd (omega arith)
pieces_enough (suc most) zero (byte ∷ bytes) few small = absurd (omega arith)
pieces_enough (suc most) (suc more) (byte ∷ bytes) few small =
    ap (λ rest. take piece_limit (byte ∷ bytes) ∷ rest)
    (pieces_enough most more (drop piece_limit (byte ∷ bytes)) (omega (arith, length-drop piece_limit (byte ∷ bytes))) (omega (arith, length-drop piece_limit (byte ∷ bytes))))

pub pieces_none : pieces_of [] ≡ []
unfolding pieces_of
pieces_none = refl

pub pieces_more : (bytes : List ℕ) → 0 < length bytes → pieces_of bytes ≡ take piece_limit bytes ∷ pieces_of (drop piece_limit bytes)
unfolding pieces_of
pieces_more [] some = absurd (omega arith)
pieces_more (byte ∷ bytes) some =
    ap (λ rest. take piece_limit (byte ∷ bytes) ∷ rest)
    (pieces_enough (length bytes) (length (drop piece_limit (byte ∷ bytes))) (drop piece_limit (byte ∷ bytes)) (omega (arith, length-drop piece_limit (byte ∷ bytes))) (omega arith))

-- a piece came off the front of what is left, and is short only where less is left
pub piece_off : (pieces : List (List ℕ)) (rest piece after : List ℕ) (all : List (List ℕ)) → pieces ++ pieces_of rest ≡ all → rest ≡ piece ++ after →
    length piece ≡ min piece_limit (length rest) → 0 < length rest → (pieces ++ piece ∷ []) ++ pieces_of after ≡ all
piece_off pieces rest piece after all so_far is size some =
    let front : take piece_limit rest ≡ piece = sym (take_min piece_limit rest) ∙ ap (take (min piece_limit (length rest))) is ∙ take_at piece after _ size in
    let back : drop piece_limit rest ≡ after = sym (drop_min piece_limit rest) ∙ ap (drop (min piece_limit (length rest))) is ∙ drop_at piece after _ size in
    append_assoc pieces (piece ∷ []) (pieces_of after)
    ∙ ap (λ (more : List (List ℕ)). pieces ++ more) (sym (pieces_more rest some ∙ ap (λ p. p ∷ pieces_of (drop piece_limit rest)) front ∙ ap (λ r. piece ∷ pieces_of r) back))
    ∙ so_far

-- a chunk is taken off the bytes that are left, where its size is the limit of a piece
pub chunk_off : (pieces : List (List ℕ)) (rest piece after : List ℕ) (all : List (List ℕ)) (size : ℕ) → pieces ++ pieces_of rest ≡ all → size ≡ piece_limit →
    (rest ≡ piece ++ after) × (length piece ≡ min size (length rest)) × (0 < length rest) → (pieces ++ piece ∷ []) ++ pieces_of after ≡ all
chunk_off pieces rest piece after all size so_far is steps =
    piece_off pieces rest piece after all so_far steps.0 (steps.1 ∙ ap (λ n. min n (length rest)) is) steps.2

pub pieces_end : (pieces : List (List ℕ)) (rest : List ℕ) (all : List (List ℕ)) → pieces ++ pieces_of rest ≡ all → length rest ≡ 0 → pieces ≡ all
pieces_end pieces [] all so_far end = sym (append-nil pieces) ∙ ap (λ (more : List (List ℕ)). pieces ++ more) (sym pieces_none) ∙ so_far
pieces_end pieces (byte ∷ rest) all so_far end = absurd (omega arith)

pub ruleset cutting = (chunk_off, pieces_end)

-- a piece is no longer than it may be
pieces_in_short : (most : ℕ) (bytes : List ℕ) → AreShortPieces (pieces_in most bytes)
pieces_in_short most [] = tt
pieces_in_short zero (byte ∷ bytes) = tt
pieces_in_short (suc most) (byte ∷ bytes) =
    (omega (arith, length-take piece_limit (byte ∷ bytes)), pieces_in_short most (drop piece_limit (byte ∷ bytes)))

pub pieces_short : (bytes : List ℕ) → AreShortPieces (pieces_of bytes)
unfolding pieces_of
pieces_short bytes = pieces_in_short (length bytes) bytes

pieces_in_few : (most : ℕ) (bytes : List ℕ) → 65536 * length (pieces_in most bytes) ≤ length bytes + 65535
pieces_in_few most [] = omega arith
pieces_in_few zero (byte ∷ bytes) = omega arith
pieces_in_few (suc most) (byte ∷ bytes) =
    omega (arith, pieces_in_few most (drop piece_limit (byte ∷ bytes)), length-drop piece_limit (byte ∷ bytes))

-- what an end sends at once comes in nine pieces at most
pub pieces_few : (bytes : List ℕ) → length bytes ≤ send_limit → length (pieces_of bytes) ≤ 9
unfolding pieces_of
pieces_few bytes short = omega (arith, pieces_in_few (length bytes) bytes, short)

-- ---- no unit is longer than it may be

abbrev IsShort : BagUnit → Type 0
IsShort unit = length unit.bytes ≤ send_limit

pub none_long : AreShortUnits []
none_long = All-nil IsShort

pub units_add : (bag : List BagUnit) (unit : BagUnit) → AreShortUnits bag → length unit.bytes ≤ send_limit → AreShortUnits (bag ++ unit ∷ [])
units_add bag unit are short = All-push IsShort bag unit are short

pub units_settle : (bag : List BagUnit) (number : ℕ) (unit : BagUnit) → AreShortUnits bag → length unit.bytes ≤ send_limit → AreShortUnits (slice_set bag number unit)
units_settle bag number unit are short = All-set IsShort bag number unit short are

-- ---- each unit has bytes

abbrev HasBytes : BagUnit → Type 0
HasBytes unit = AreBytes unit.bytes

pub none_other : HaveBytes []
none_other = All-nil HasBytes

pub bytes_add : (bag : List BagUnit) (unit : BagUnit) → HaveBytes bag → AreBytes unit.bytes → HaveBytes (bag ++ unit ∷ [])
bytes_add bag unit have bytes = All-push HasBytes bag unit have bytes

-- a unit that is delivered or lost has the same bytes
pub bytes_settle : (bag : List BagUnit) (number : ℕ) (d : BagUnit) → HaveBytes bag → number < length bag → HaveBytes (slice_set bag number (settled (get_or bag number d)))
bytes_settle bag number d have inside = All-set HasBytes bag number (settled (get_or bag number d)) (All-get_or HasBytes bag number d inside have) have
