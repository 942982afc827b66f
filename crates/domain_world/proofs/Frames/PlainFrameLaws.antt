-- A plain world, through its moves: each end hears, and is made anew, as one that can't seal, and no station does. So
-- whatever is shown of ends that hear so holds of every run of a plain plan. It serves `drive`, and
-- the other laws of every such run.
use Rattle.std.proofs.Common.{◌≡◌, ℕ, List, [], length, Option, Some, None, sym, subst, ap, ◌∙◌, slice_get}
use Rattle.std.specs.List.{AllByRecursion}
use Rattle.outside.specs.declared.event.Event.{Event}
use Rattle.outside.specs.declared.event.Event.TheVariants as event
use Rattle.step_notes.specs.Records.{Book, blank}
use Rattle.world_moves.specs.declared.links.EndId.{EndId}
use Rattle.world_moves.specs.declared.moves.Move.{Move}
use Rattle.world_moves.specs.declared.plan.Plan.{Plan}
use Rattle.world_moves.specs.declared.state.State.{State}
use Rattle.world_moves.specs.Acting.{AfterHearing, Given, done, forget, hear}
use Rattle.world_moves.specs.Ends.{EndStates}
use Rattle.world_moves.specs.Links.{acceptor_of}
use Rattle.world_moves.specs.Moving.{with_link}
use Rattle.world_moves.specs.Plain.{IsPlain, IsPlainPlan, hear_plain, plain_world}
use Rattle.world_moves.specs.World.{World, first_world, happens, run}
use Rattle.domain_world.specs.Claims.Sessions.{restart_of}
use Rattle.domain_world.specs.Past.{Delivery, book, note, note_at}
use Rattle.world_moves.proofs.PlainLaws.{hears_so_plainly, moves_plain, plain_first, renews_plainly, world_plain}
use Rattle.domain_world.proofs.Frames.MoveFrameLaws.{HoldsAfterMoves, later_keeps, move_keeps, moves_carry, moves_keep}
use Rattle.domain_world.proofs.Frames.MoveKeepLaws.{Both, IsHeard, KeepsCalmMovesBy, KeepsMovesBy, MoveFact, NoSide, Progress, StationsStart, any, but_renewed, coming, every, join_calm, join_moves, started, waiting}
use Rattle.domain_world.proofs.Moves.PlacedLaws.{HandsBytes, HasBytes, IsBytesBag, IsPlaced}
use Rattle.interactive_station.specs.declared.plan.StationPlan.{StationPlan}
use Rattle.wire_base.proofs.ListLaws.{got_nothing}

abbrev PlainFact : MoveFact
PlainFact n p s given b = IsPlain s

calm_stays : (Known : Type 0) → KeepsCalmMovesBy any Known NoSide PlainFact
calm_stays Known = record {
  closes = λ n p end link s given b work none plain. moves_plain.acting.hears end (event.Closed link) s plain;
  opens = λ n at dial route s given b out none plain.
      moves_plain.acting.hears (acceptor_of route) (event.Opened (length s.links)) (with_link route s) plain;
  dialled = λ n at end link s given b side none plain. moves_plain.acting.hears end (event.Dialled link) s plain;
  fails = λ n at end s b none plain. moves_plain.acting.hears end event.DialFailed s plain;
  begins = λ n at client plan s b is none plain. plain;
  comes = λ n end w piece s given b side came bytes none plain. moves_plain.acting.hears end (event.Bytes w.link piece) s plain;
  reaches = λ n w s given b none plain. plain;
  acts = λ n p end what s given b work none plain. moves_plain.acting.acts end what s plain;
  shuts = λ n p link s given b work none plain. plain;
  answers = λ n at dial link there s given b is none plain. plain;
  forgets = λ n at end s b none plain. plain;
  settles = λ n at on number s b none plain. plain;
  dials = λ n at dial s b is none plain. plain;
  changes = λ n at member secret s b formed none plain. moves_plain.changes member secret s plain;
  ticks = λ n at more s b none plain. plain;
  over = λ n at on next s given b none plain. plain;
}

plain_stays : (Known : Type 0) → KeepsMovesBy any Known NoSide PlainFact
plain_stays Known =
    let calm : KeepsCalmMovesBy any Known NoSide PlainFact = calm_stays Known in
    record {
      closes = calm.closes;
      opens = calm.opens;
      dialled = calm.dialled;
      fails = calm.fails;
      begins = calm.begins;
      comes = calm.comes;
      reaches = calm.reaches;
      acts = calm.acts;
      shuts = calm.shuts;
      answers = calm.answers;
      forgets = calm.forgets;
      settles = calm.settles;
      dials = calm.dials;
      renews = λ n at end s b none plain. moves_plain.renews end (forget end s) plain;
      changes = calm.changes;
      ticks = calm.ticks;
      over = calm.over;
    }

-- ---- what is shown of ends that hear so holds there

module _ (Known : Type 0) (Holds : MoveFact) where
  -- an end has heard so
  hears_as_plain : (n : ℕ) (p : Progress) (end : EndId) (what : Event) (s : State) (given : Given) (b : Book) → IsPlain s →
      IsHeard Holds n p end (hear_plain end what s) given b → IsHeard Holds n p end (hear end what s) given b
  hears_as_plain n p end what s given b plain holds = subst (λ (heard : AfterHearing). IsHeard Holds n p end heard given b) (sym (hears_so_plainly end what s plain)) holds

  calm_plain : KeepsCalmMovesBy every Known NoSide Holds → KeepsCalmMovesBy any Known PlainFact Holds
  calm_plain keeps = record {
    closes = λ n p end link s given b work plain holds. hears_as_plain n p end (event.Closed link) s given b plain (keeps.closes n p end link s given b work tt holds);
    opens = λ n at dial route s given b out plain holds.
        hears_as_plain n (waiting at dial) (acceptor_of route) (event.Opened (length s.links)) (with_link route s) given b plain (keeps.opens n at dial route s given b out tt holds);
    dialled = λ n at end link s given b side plain holds.
        hears_as_plain n (waiting at None) end (event.Dialled link) s given b plain (keeps.dialled n at end link s given b side tt holds);
    fails = λ n at end s b plain holds. hears_as_plain n (waiting at None) end event.DialFailed s [] b plain (keeps.fails n at end s b tt holds);
    begins = λ n at client plan s b is plain holds. keeps.begins n at client plan s b is tt holds;
    comes = λ n end w piece s given b side came bytes plain holds.
        let what : Event = event.Bytes w.link piece in
        subst (λ (heard : AfterHearing). IsHeard Holds n (record (coming w) { to = Some (done end heard).state }) end heard given (note_at (Some end) w piece s (done end heard).state b))
        (sym (hears_so_plainly end what s plain)) (keeps.comes n end w piece s given b side came bytes tt holds);
    reaches = λ n w s given b plain holds. keeps.reaches n w s given b tt holds;
    acts = λ n p end what s given b work plain holds. keeps.acts n p end what s given b work tt holds;
    shuts = λ n p link s given b work plain holds. keeps.shuts n p link s given b work tt holds;
    answers = λ n at dial link there s given b is plain holds. keeps.answers n at dial link there s given b is tt holds;
    forgets = λ n at end s b plain holds. keeps.forgets n at end s b tt holds;
    settles = λ n at on number s b plain holds. keeps.settles n at on number s b tt holds;
    dials = λ n at dial s b is plain holds. keeps.dials n at dial s b is tt holds;
    changes = λ n at member secret s b formed plain holds. keeps.changes n at member secret s b formed tt holds;
    ticks = λ n at more s b plain holds. keeps.ticks n at more s b tt holds;
    over = λ n at on next s given b plain holds. keeps.over n at on next s given b tt holds;
  }

  moves_as_plain : KeepsMovesBy every Known NoSide Holds → KeepsMovesBy any Known PlainFact Holds
  moves_as_plain keeps =
      let calm : KeepsCalmMovesBy any Known PlainFact Holds = calm_plain (but_renewed Known Holds keeps) in
      record {
        closes = calm.closes;
        opens = calm.opens;
        dialled = calm.dialled;
        fails = calm.fails;
        begins = calm.begins;
        comes = calm.comes;
        reaches = calm.reaches;
        acts = calm.acts;
        shuts = calm.shuts;
        answers = calm.answers;
        forgets = calm.forgets;
        settles = calm.settles;
        dials = calm.dials;
        renews = λ n at end s b plain holds.
            subst (λ (ends : EndStates). Holds n (waiting at None) (record (forget end s) { ends = ends }) [] b) (sym (renews_plainly end (forget end s) plain)) (keeps.renews n at end s b tt holds);
        changes = calm.changes;
        ticks = calm.ticks;
        over = calm.over;
      }

  both_keep : KeepsMovesBy every Known NoSide Holds → KeepsMovesBy any Known NoSide (Both PlainFact Holds)
  both_keep keeps = join_moves Known PlainFact Holds (plain_stays Known) (moves_as_plain keeps)

-- ---- no station starts there

-- none is among no plans
none_planned : (tasks : List StationPlan) (station : ℕ) (plan : StationPlan) → tasks ≡ [] → slice_get tasks station ≡ Some plan → ⊥
none_planned tasks station plan none is = got_nothing station plan (sym (ap (λ (all : List StationPlan). slice_get all station) none) ∙ is)

none_starts : (Holds : MoveFact) → StationsStart (Both PlainFact Holds)
none_starts Holds n at station plan s b is both = absurd (none_planned s.station_plans station plan both.0.no_task is)

-- ---- a run of a plain plan

-- what holds in its first world, as that of ends that can't seal
at_first : (plan : Plan) → IsPlainPlan plan → (Fact : State → Type 0) → Fact (plain_world plan).state → Fact (first_world plan).state
at_first plan nothing Fact fact = subst (λ (w : World). Fact w.state) (sym (world_plain plan nothing)) fact

pub moves_keep_plain : (Known : Type 0) (Holds : MoveFact) → KeepsMovesBy every Known NoSide Holds → (plan : Plan) (moves : List Move) → IsPlainPlan plan → (Known → HasBytes plan moves) →
    ((on : Option Delivery) → Holds 0 (started 0 on) (plain_world plan).state [] blank) → HoldsAfterMoves Known Holds plan moves
moves_keep_plain Known Holds keeps plan moves nothing has holds =
    let after : HoldsAfterMoves Known (Both PlainFact Holds) plan moves =
    moves_keep Known (Both PlainFact Holds) (both_keep Known Holds keeps) (none_starts Holds) plan moves has
    (λ on. at_first plan nothing (λ (s : State). IsPlain s × Holds 0 (started 0 on) s [] blank) (plain_first plan nothing, holds on)) in
    record { steps = after.steps; holds = after.holds.1; few = after.few }

-- a fact that says of the bag that its units are bytes is kept where what is handed in are bytes
pub moves_carry_plain : (Holds : MoveFact) → KeepsMovesBy every (Unit {0}) NoSide Holds → ((n at : ℕ) (s : State) (b : Book) → Holds n (started at None) s [] b → IsBytesBag s.bag) →
    (plan : Plan) (moves : List Move) → IsPlainPlan plan → AllByRecursion HandsBytes moves → ((on : Option Delivery) → Holds 0 (started 0 on) (plain_world plan).state [] blank) →
    HoldsAfterMoves (Unit {0}) Holds plan moves
moves_carry_plain Holds keeps says plan moves nothing handed holds =
    let after : HoldsAfterMoves (Unit {0}) (Both PlainFact Holds) plan moves =
    moves_carry (Both PlainFact Holds) (both_keep (Unit {0}) Holds keeps) (none_starts Holds) (λ n at s b both. says n at s b both.1) plan moves handed
    (λ on. at_first plan nothing (λ (s : State). IsPlain s × Holds 0 (started 0 on) s [] blank) (plain_first plan nothing, holds on)) in
    record { steps = after.steps; holds = after.holds.1; few = after.few }

-- ---- from any such world on

pub later_keeps_plain : (Holds : MoveFact) → KeepsMovesBy every ⊥ NoSide Holds → (moves : List Move) (w : World) (b : Book) → IsPlaced w.state → IsPlain w.state →
    ((on : Option Delivery) → Holds 0 (started w.moves on) w.state [] b) → (n : ℕ) × Holds n (started (run moves w).moves None) (run moves w).state [] (book moves w b)
later_keeps_plain Holds keeps moves w b placed plain holds =
    let later = later_keeps (Both PlainFact Holds) (both_keep ⊥ Holds keeps) (none_starts Holds) moves w b placed (λ on. (plain, holds on)) in (later.0, later.1.1)

-- through one move at which no end is made anew
pub move_keeps_plain : (Holds : MoveFact) → KeepsCalmMovesBy every ⊥ NoSide Holds → (what : Move) (w : World) (b : Book) → restart_of what w.state ≡ None → IsPlaced w.state → IsPlain w.state →
    ((on : Option Delivery) → Holds 0 (started w.moves on) w.state [] b) →
    (n : ℕ) × ((next : Option Delivery) → Holds n (started (happens w what).moves next) (happens w what).state [] (note w what b))
move_keeps_plain Holds keeps what w b none placed plain holds =
    let kept = move_keeps (Both PlainFact Holds) (join_calm ⊥ PlainFact Holds (calm_stays ⊥) (calm_plain ⊥ Holds keeps)) (none_starts Holds) what w b none placed (λ on. (plain, holds on)) in
    (kept.0, λ next. (kept.1 next).1)
