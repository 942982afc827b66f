-- A stream that comes in pieces.
use Rattle.std.proofs.Common.{◌≡◌, ℕ, ◌+◌, ◌<◌, ◌≤◌, false, List, [], ◌∷◌, ◌++◌, take, drop, length, get_or, Option, Some, None, refl, sym, ap, subst, ◌∙◌}
use Rattle.std.proofs.lemmas.List.{take_more, take-append-drop, append-nil, take_all}
use Rattle.std.proofs.lemmas.List.Concat.{flat_map-append}
use Rattle.rpc_units.specs.declared.refused.UnitRefused.{UnitRefused}
use Rattle.rpc_units.specs.Stream.{Flow, Cut, cut_stream, cut_joined_to, stream_of, IsStream, IsRead, Takes}
use Rattle.rpc_units.proofs.StreamLaws.{front_of-nil}
use Rattle.rpc_units.proofs.CutStreamLaws.{cut_waits, cut_joined, cut_stays_refused, cut_is_stream}

abbrev waits : List (List ℕ) → List ℕ → Cut
waits units rest = record { units = units; rest = rest; refused = None }

-- nothing came
pub none_yet : cut_stream [] ≡ waits [] []
none_yet = cut_waits [] front_of-nil

-- the pieces so far and the next one
one_more : (pieces : List (List ℕ)) (i : ℕ) (piece : List ℕ) → i < length pieces → piece ≡ get_or pieces i piece → stream_of (take (i + 1) pieces) ≡ stream_of (take i pieces) ++ piece
one_more pieces i piece lt is =
    ap stream_of (take_more pieces i piece lt)
    ∙ flat_map-append (λ piece. piece) (take i pieces) (get_or pieces i piece ∷ [])
    ∙ ap (λ (x : List ℕ). stream_of (take i pieces) ++ x) (append-nil (get_or pieces i piece) ∙ sym is)

-- the stream of the pieces so far, and what the next one brings
next_piece : (pieces : List (List ℕ)) (i : ℕ) (piece held : List ℕ) (units : List (List ℕ)) → i < length pieces → piece ≡ get_or pieces i piece → cut_stream (stream_of (take i pieces)) ≡ waits units held →
    cut_stream (stream_of (take (i + 1) pieces)) ≡ cut_joined_to (waits units held) piece
next_piece pieces i piece held units lt is so_far =
    ap cut_stream (one_more pieces i piece lt is)
    ∙ cut_joined (stream_of (take i pieces)) piece (ap Cut.refused so_far)
    ∙ ap (λ c. cut_joined_to c piece) so_far

pub piece_more : (pieces : List (List ℕ)) (i : ℕ) (piece : List ℕ) (before after : Flow) (units more : List (List ℕ)) → i < length pieces → piece ≡ get_or pieces i piece → cut_stream (stream_of (take i pieces)) ≡ waits units before.held → Takes after more None units (cut_stream (before.held ++ piece)) →
    (cut_stream (stream_of (take (i + 1) pieces)) ≡ waits more after.held) × (after.broken ≡ false)
piece_more pieces i piece before after units more lt is so_far takes =
    let held = takes.held refl in (
      next_piece pieces i piece before.held units lt is so_far ∙ (λ j. record { units = sym takes.units j; rest = sym held.0 j; refused = sym takes.why j }),
      held.1,
    )

pub piece_refused : (pieces : List (List ℕ)) (i : ℕ) (piece : List ℕ) (before after : Flow) (units more : List (List ℕ)) (why : UnitRefused) → i < length pieces → piece ≡ get_or pieces i piece → cut_stream (stream_of (take i pieces)) ≡ waits units before.held → Takes after more (Some why) units (cut_stream (before.held ++ piece)) →
    IsRead more (Some why) (cut_stream (stream_of pieces))
piece_refused pieces i piece before after units more why lt is so_far takes =
    let now = next_piece pieces i piece before.held units lt is so_far in
    let later = stream_of (drop (i + 1) pieces) in
    let whole : stream_of (take (i + 1) pieces) ++ later ≡ stream_of pieces =
    sym (flat_map-append (λ piece. piece) (take (i + 1) pieces) (drop (i + 1) pieces)) ∙ ap stream_of (take-append-drop (i + 1) pieces) in
    let stays = cut_stays_refused (stream_of (take (i + 1) pieces)) later why (ap Cut.refused now ∙ sym takes.why) in
    record {
      all = takes.units ∙ sym (ap Cut.units now) ∙ sym stays.0 ∙ ap (λ (x : List ℕ). (cut_stream x).units) whole;
      why = sym stays.1 ∙ ap (λ (x : List ℕ). (cut_stream x).refused) whole;
    }

pub pieces_end : (pieces : List (List ℕ)) (i : ℕ) (held : List ℕ) (units : List (List ℕ)) → length pieces ≤ i → cut_stream (stream_of (take i pieces)) ≡ waits units held → IsRead units None (cut_stream (stream_of pieces))
pieces_end pieces i held units past so_far =
    let is = ap (λ (p : List (List ℕ)). cut_stream (stream_of p)) (sym (take_all i pieces past)) ∙ so_far in
    record { all = sym (ap Cut.units is); why = sym (ap Cut.refused is) }

-- what was read is the stream's
pub read_stands : (stream : List ℕ) (units : List (List ℕ)) (refused : Option UnitRefused) → IsRead units refused (cut_stream stream) → (rest : List ℕ) × IsStream stream units rest
read_stands stream units refused is =
    ((cut_stream stream).rest, subst (λ (u : List (List ℕ)). IsStream stream u (cut_stream stream).rest) (sym is.all) (cut_is_stream stream))
