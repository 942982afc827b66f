-- The units on the link of a turn by the words for any end's units. It serves `serve_turn` and `turns_end_once`.
use Rattle.std.proofs.Common.{◌≡◌, ◌≤◌, ℕ, Bool, true, false, List, [], ◌∷◌, ◌++◌, length, Option, Some, None, Result, Ok, Err, refl, sym, ap, subst, ◌∙◌, arith, append-nil, length-append}
use Rattle.outside.specs.declared.action.StepRefused.{StepRefused}
use Rattle.outside.specs.declared.action.StepRefused.TheVariants.{Spent, Memory, Stopped}
use Rattle.outside.specs.Drawing.{Drawing, DrawsSome, IsRest}
use Rattle.outside.specs.Machine.{Part, left_by}
use Rattle.rpc_units.specs.declared.refused.UnitRefused.{UnitRefused}
use Rattle.rpc_units.specs.Reading.{unit_of}
use Rattle.rpc_units.specs.Stream.{Cut, cut_stream}
use Rattle.end_links.specs.Links.{LinkState}
use Rattle.end_links.specs.Serving.{HasRest, StreamsBy, served_by as any_served_by, served_cut, talk_in, then_talk}
use Rattle.channel_turns.specs.declared.state.TurnTalk.{TurnTalk}
use Rattle.channel_turns.specs.declared.state.TurnWork.{TurnWork}
use Rattle.channel_turns.specs.Turns.{TurnServed, after_turn, keep_turn, serve_turn, served_by, then_said, turn_served, turn_server, turn_unit}

said_part : (served : TurnServed) (units : List (List ℕ)) (why : Option UnitRefused) (left : List (List ℕ)) →
    ((at : TurnWork) (talk : TurnTalk) → any_served_by turn_server units why at talk left ≡ Ok (record { value = served_by units why at talk; left = left })) →
    then_talk served.0 served.1 left (λ later said rest. any_served_by turn_server units why later said rest)
    ≡ Ok (record { value = then_said served (λ later said. served_by units why later said); left = left })
said_part (at, None) units why left each = refl
said_part (at, Some talk) units why left each = each at talk

by_part : (units : List (List ℕ)) (why : Option UnitRefused) (left : List (List ℕ)) (at : TurnWork) (talk : TurnTalk) →
    any_served_by turn_server units why at talk left ≡ Ok (record { value = served_by units why at talk; left = left })
by_part [] None left at talk = refl
by_part [] (Some why) left at talk = refl
by_part (bytes ∷ units) why left at talk =
    said_part (turn_unit (unit_of bytes) talk.joiner at) units why left (λ later said. by_part units why left later said)

pub served_part : (cut : Cut) (at : TurnWork) (talk : TurnTalk) (left : List (List ℕ)) →
    served_cut turn_server cut at talk left ≡ Ok (record { value = turn_served cut at talk; left = left })
served_part cut at talk left = by_part cut.units cut.refused left at talk

-- ---- no challenge is drawn

none_in_front : (front rest : List (List ℕ)) → length (front ++ rest) ≤ length rest → front ≡ []
none_in_front [] rest few = refl
none_in_front (challenge ∷ front) rest few = absurd (omega (arith, few, length-append front rest))

same_drawing : (old new : Drawing) (some : DrawsSome old new) → some.draws ≡ [] → new ≡ old
same_drawing old new some none =
    let left : new.left ≡ old.left = sym (some.all.left ∙ ap (λ (draws : List (List ℕ)). draws ++ new.left) none) in
    let drawn : new.drawn ≡ old.drawn =
    some.all.drawn ∙ ap (λ (draws : List (List ℕ)). old.drawn ++ draws) none ∙ append-nil old.drawn in
    λ i. record { seed = some.all.seed i; boot = some.all.boot i; drawn = drawn i; left = left i }

none_drawn : (old new : Drawing) → DrawsSome old new → length old.left ≤ length new.left → new ≡ old
none_drawn old new some few =
    same_drawing old new some
    (none_in_front some.draws new.left (subst (λ (all : List (List ℕ)). length all ≤ length new.left) some.all.left few))

rest_few : (rest all : List (List ℕ)) → IsRest rest all → length rest ≤ length all
rest_few rest all is = omega (arith, length-append is.front rest, ap length is.is)

-- ---- a call that serves the units of a link

pub link_is : (said : Option (LinkState TurnTalk)) (rest : List ℕ) → HasRest said rest → said ≡ keep_turn (talk_in said) rest
link_is None rest has = refl
link_is (Some link) rest has = ap (λ (r : List ℕ). Some (record { rest = r; talk = link.talk })) has

abbrev PieceBy : TurnWork × Option (LinkState TurnTalk) → TurnServed → List ℕ → Type 0
PieceBy done served rest = done ≡ after_turn served rest

piece_by : (done : TurnWork × Option (LinkState TurnTalk)) (served : TurnServed) (rest : List ℕ) → (done.0, talk_in done.1) ≡ served →
    HasRest done.1 rest → PieceBy done served rest
piece_by done served rest is has =
    ap (λ (said : Option (LinkState TurnTalk)). (done.0, said)) (link_is done.1 rest has)
    ∙ ap (λ (s : TurnServed). after_turn s rest) is

abbrev value_or : {T : Type 0} → T → Result T StepRefused → T
value_or other (Ok value) = value
value_or other (Err why) = other

abbrev is_done : {T : Type 0} → Result T StepRefused → Bool
is_done (Ok value) = true
is_done (Err why) = false

-- what a piece comes to, where it is this part too
piece_is : (at : TurnWork) (said : LinkState TurnTalk) (piece : List ℕ) (before : List (List ℕ)) (part : Part TurnServed) →
    served_cut turn_server (cut_stream (said.rest ++ piece)) at said.talk before ≡ Ok part →
    record { value = turn_served (cut_stream (said.rest ++ piece)) at said.talk; left = before } ≡ part
piece_is at said piece before part is =
    let cut = cut_stream (said.rest ++ piece) in
    ap (value_or (record { value = turn_served cut at said.talk; left = before })) (sym (served_part cut at said.talk before) ∙ is)

pub piece_done : (done : TurnWork × Option (LinkState TurnTalk)) (at : TurnWork) (said : LinkState TurnTalk) (piece : List ℕ) (before after : List (List ℕ)) →
    StreamsBy (Ok done) (served_cut turn_server (cut_stream (said.rest ++ piece)) at said.talk before) (cut_stream (said.rest ++ piece)).rest after →
    done ≡ serve_turn at said piece
piece_done done at said piece before after streams =
    let cut = cut_stream (said.rest ++ piece) in
    piece_by done (turn_served cut at said.talk) cut.rest
    (sym (ap Part.value (piece_is at said piece before (record { value = (done.0, talk_in done.1); left = after }) streams.0))) streams.1

pub piece_undrawn : (result : Result (TurnWork × Option (LinkState TurnTalk)) StepRefused) (at : TurnWork) (said : LinkState TurnTalk) (piece : List ℕ) (old new : Drawing) →
    DrawsSome old new →
    StreamsBy result (served_cut turn_server (cut_stream (said.rest ++ piece)) at said.talk old.left) (cut_stream (said.rest ++ piece)).rest new.left →
    new ≡ old
piece_undrawn (Ok done) at said piece old new some streams =
    let left : old.left ≡ new.left =
    ap Part.left (piece_is at said piece old.left (record { value = (done.0, talk_in done.1); left = new.left }) streams.0) in
    none_drawn old new some (omega (arith, ap (λ (l : List (List ℕ)). length l) left))
piece_undrawn (Err Spent) at said piece old new some streams =
    let cut = cut_stream (said.rest ++ piece) in
    let done : true ≡ false = ap is_done (sym (served_part cut at said.talk old.left) ∙ streams.0) in
    absurd (let x = done in cc)
piece_undrawn (Err Memory) at said piece old new some streams =
    let cut = cut_stream (said.rest ++ piece) in
    none_drawn old new some
    (rest_few old.left new.left (subst (λ p. IsRest (left_by p) new.left) (served_part cut at said.talk old.left) streams))
piece_undrawn (Err Stopped) at said piece old new some streams = absurd streams

pub ruleset serving = (piece_done, piece_undrawn)
