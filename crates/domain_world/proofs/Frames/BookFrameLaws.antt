-- What holds through a run of what is written down of it alone: whatever holds through what is written down of bytes
-- that an end hears, and of what ends give at a move, whatever ends do. It is an instance of `MoveFrameLaws`.
-- It serves `Proved.apart`, `Proved.unclashed`, `runs_are_heard`.
use Rattle.std.proofs.Common.{ℕ, List, Some}
use Rattle.outside.specs.declared.event.Event.TheVariants as event
use Rattle.step_notes.specs.Records.{Book, blank}
use Rattle.world_moves.specs.declared.links.EndId.{EndId}
use Rattle.world_moves.specs.declared.moves.Move.{Move}
use Rattle.world_moves.specs.declared.plan.Plan.{Plan}
use Rattle.world_moves.specs.declared.state.State.{State}
use Rattle.world_moves.specs.Acting.{Given, hear_and_act}
use Rattle.world_moves.specs.World.{World}
use Rattle.domain_world.specs.Past.{Delivery, book, note_at, note_given, past}
use Rattle.domain_world.proofs.Frames.MoveFrameLaws.{HoldsAfterMoves, later_keeps, moves_keep}
use Rattle.domain_world.proofs.Frames.MoveKeepLaws.{KeepsMovesBy, MoveFact, NoSide, any}
use Rattle.domain_world.proofs.Moves.PlacedLaws.{IsPlaced}

module _ (Holds : Book → Type 0)
    (bytes : (end : EndId) (w : Delivery) (piece : List ℕ) (s after : State) (b : Book) → Holds b → Holds (note_at (Some end) w piece s after b))
    (gives : (at : ℕ) (given : Given) (after : State) (b : Book) → Holds b → Holds (note_given at given after b)) where
  abbrev OfBook : MoveFact
  OfBook n p s given b = Holds b

  book_keeps : KeepsMovesBy any ⊥ NoSide OfBook
  book_keeps = record {
    closes = λ n p end link s given b work none holds. holds;
    opens = λ n at dial route s given b out none holds. holds;
    dialled = λ n at end link s given b side none holds. holds;
    fails = λ n at end s b none holds. holds;
    begins = λ n at client plan s b is none holds. holds;
    comes = λ n end w piece s given b side came known none holds. bytes end w piece s (hear_and_act end (event.Bytes w.link piece) s).state b holds;
    reaches = λ n w s given b none holds. holds;
    acts = λ n p end what s given b work none holds. holds;
    shuts = λ n p link s given b work none holds. holds;
    answers = λ n at dial link there s given b is none holds. holds;
    forgets = λ n at end s b none holds. holds;
    settles = λ n at on number s b none holds. holds;
    dials = λ n at dial s b is none holds. holds;
    renews = λ n at end s b none holds. holds;
    changes = λ n at member secret s b formed none holds. holds;
    ticks = λ n at more s b none holds. holds;
    over = λ n at on next s given b none holds. gives at given s b holds;
  }

  pub book_holds : (plan : Plan) (moves : List Move) → Holds blank → Holds (past plan moves).book
  book_holds plan moves holds =
      let after : HoldsAfterMoves ⊥ OfBook plan moves = moves_keep ⊥ OfBook book_keeps (λ n at station plan s b is holds. holds) plan moves (λ none. absurd none) (λ on. holds) in after.holds

  -- a fact of the book holds after a run from any world on
  pub book_stays : (moves : List Move) (w : World) (b : Book) → IsPlaced w.state → Holds b → Holds (book moves w b)
  book_stays moves w b placed holds = (later_keeps OfBook book_keeps (λ n at station plan s b is holds. holds) moves w b placed (λ on. holds)).1
