-- What holds of the bag and the book in every run: whatever stays as units stay in the bag, and holds on with what is
-- written down where an end has heard bytes and done all that it then does. It may rest on a fact that is carried
-- through each step (`StepFrameLaws`), and on one of the ends that goes with the book (`FrameLaws`). It is an instance
-- of `MoveFrameLaws`. It serves `messages_are_called` and `marked_units_are_whole`.
use Rattle.std.proofs.Common.{◌≡◌, ℕ, List, [], length, Option, Some, None}
use Rattle.wire_base.specs.Numbers.{AreBytes}
use Rattle.outside.specs.declared.event.Event.TheVariants as event
use Rattle.step_notes.specs.Records.{Book, blank}
use Rattle.world_moves.specs.declared.bag.BagUnit.{BagUnit}
use Rattle.world_moves.specs.declared.links.EndId.{EndId}
use Rattle.world_moves.specs.declared.moves.Move.{Move}
use Rattle.world_moves.specs.declared.plan.Plan.{Plan}
use Rattle.world_moves.specs.declared.state.State.{State}
use Rattle.world_moves.specs.Acting.{Given, perform_quietly}
use Rattle.world_moves.specs.Moving.{settle}
use Rattle.world_moves.specs.Alone.{IsPlainAlone}
use Rattle.world_moves.specs.Plain.{plain_world}
use Rattle.world_moves.proofs.LinkFrameLaws.{quiet_stays}
use Rattle.domain_world.specs.Past.{Delivery, note_given, past}
use Rattle.domain_world.proofs.Frames.AloneNoteLaws.{note_alone as note_at}
use Rattle.domain_world.proofs.Frames.AloneStepLaws.{act_alone as hear_and_act}
use Rattle.domain_world.proofs.Frames.BagFrameLaws.{IsServer, StepsMark, UnitFact, MarkFact, bag_at, first_marked, marked_keep}
use Rattle.domain_world.proofs.Moves.ComingLaws.{CameFrom, StillHas, kept_same, kept_settled, StillIn, kept_sent}
use Rattle.domain_world.proofs.Frames.FrameLaws.{Fact, HoldsIn, StaysWritten, OfSide}
use Rattle.domain_world.proofs.Moves.OpenMadeLaws.{IsAtSide}
use Rattle.domain_world.proofs.Frames.StepFrameLaws.{ActionFact, StepKeeps, NoFact, RunFact, OfSteps, steps_keep}
use Rattle.domain_world.proofs.Frames.AloneFrameLaws.{moves_keep_alone}
use Rattle.domain_world.proofs.Frames.MoveFrameLaws.{HoldsAfterMoves}
use Rattle.domain_world.proofs.Frames.MoveKeepLaws.{Both, KeepsMoves, MoveFact, NoSide, join_moves}
use Rattle.domain_world.proofs.Moves.PlacedLaws.{HasBytes}
use Rattle.outside.specs.declared.action.Action.{Action}

-- ---- what is to hold

-- something of the units of the bag and the book
abbrev pub BookFact : Type 1
BookFact = List BagUnit → Book → Type 0

-- The fact `Fits` stays as the units of the bag stay there, and as what ends gave is written down. Where an end hears
-- bytes, it holds with what is written down of them once the end has done all that it then does; each unit of the bag
-- has its mark before, where a controller or a member hears them.
pub record BagKeeps {X : Type 0} (Holds : RunFact) (part : Book → X) (Side : X → Fact) (Fits : BookFact) : Type 0 where
  pub still : (old bag : List BagUnit) (b : Book) → StillHas old bag → Fits old b → Fits bag b
  pub comes : (n : ℕ) (end : EndId) (w : Delivery) (piece : List ℕ) (s : State) (given : Given) (b : Book) → IsAtSide s.links w.link w.back end → CameFrom w.source s w piece → AreBytes piece →
      (IsServer end → length b.sent ≡ length s.bag) → Holds n s given b → HoldsIn (Side (part b)) s → Fits s.bag b →
      Fits (hear_and_act end (event.Bytes w.link piece) s).state.bag (note_at (Some end) w piece s (hear_and_act end (event.Bytes w.link piece) s).state b)
  pub over : (at : ℕ) (given : Given) (s : State) (b : Book) → Fits s.bag b → Fits s.bag (note_given at given s b)

-- ---- nothing of units

abbrev pub AnyUnit : {X : Type 0} → UnitFact X
AnyUnit x number unit mark = Unit {0}

pub any_unit : {X : Type 0} (part : Book → X) (Side : X → Fact) → StepsMark part Side AnyUnit
any_unit part Side = record {
  plain = λ x number unit. tt;
  settles = λ x number unit mark holds. tt;
  grows = λ end w piece s after b number unit one side there sent holds. tt;
  controllers = λ c at w piece s b is side hears all units more on place unit mark there marked. tt;
  members = λ m at w piece s b is side hears all units more on place unit mark there marked. tt;
}

-- ---- a run

module _ {X : Type 0} (Holds : RunFact) (Fine : ActionFact) (keeps : StepKeeps NoFact Holds Fine) (part : Book → X) (Side : X → Fact) (written : StaysWritten part Side) (Fits : BookFact)
    (bag_keeps : BagKeeps Holds part Side Fits) where
  -- of the bag as it is once the step at bytes is done
  abbrev OfBag : MoveFact
  OfBag n p s given b = Fits (bag_at p.to s.bag) b

  abbrev Marked : MoveFact
  Marked = Both (OfSide part Side written) (MarkFact part AnyUnit)

  act_fits : (to : Option State) (end : EndId) (what : Action) (s : State) (b : Book) → Fits (bag_at to s.bag) b → Fits (bag_at to (perform_quietly end what s).bag) b
  act_fits None end what s b fits =
      bag_keeps.still s.bag (perform_quietly end what s).bag b (quiet_stays (StillIn s.bag) (kept_sent s.bag) end what s (kept_same s.bag)) fits
  act_fits (Some after) end what s b fits = fits

  bag_moves : KeepsMoves (Unit {0}) (Both Marked (OfSteps Holds Fine)) OfBag
  bag_moves = record {
    closes = λ n p end link s given b work side fits. fits;
    opens = λ n at dial route s given b out side fits. fits;
    dialled = λ n at end link s given b here side fits. fits;
    fails = λ n at end s b side fits. fits;
    begins = λ n at client plan s b is side fits. fits;
    comes = λ n end w piece s given b here came bytes side fits.
        bag_keeps.comes n end w piece s given b here came (bytes tt) (λ server. side.0.1.all end here server) side.1.0 side.0.0 fits;
    reaches = λ n w s given b side fits. fits;
    acts = λ n p end what s given b work side fits. act_fits p.to end what s b fits;
    shuts = λ n p link s given b work side fits. fits;
    answers = λ n at dial link there s given b is side fits. fits;
    forgets = λ n at end s b side fits. fits;
    settles = λ n at on number s b side fits. bag_keeps.still s.bag (settle number s).bag b (kept_settled number s.bag) fits;
    dials = λ n at dial s b is side fits. fits;
    renews = λ n at end s b side fits. fits;
    changes = λ n at member secret s b formed side fits. fits;
    ticks = λ n at more s b side fits. fits;
    over = λ n at on next s given b side fits. bag_keeps.over at given s b fits;
  }

  -- in every run
  pub run_fits : (plan : Plan) (moves : List Move) → IsPlainAlone plan → HasBytes plan moves → Holds 0 (plain_world plan).state [] blank → HoldsIn (Side (part blank)) (plain_world plan).state →
      Fits [] blank → Fits (past plan moves).world.state.bag (past plan moves).book
  run_fits plan moves nobody has holds side fits =
      let known : Type 0 = Unit {0} in
      let beneath : MoveFact = Both Marked (OfSteps Holds Fine) in
      let all : KeepsMoves known NoSide (Both beneath OfBag) =
      join_moves known beneath OfBag
      (join_moves known Marked (OfSteps Holds Fine) (marked_keep part Side AnyUnit written (any_unit part Side) known)
      (steps_keep Holds Fine keeps Marked (λ n w s given b marked. marked.1.all) (λ n at on s given b marked. keeps.over n at s given b tt))) bag_moves in
      let after : HoldsAfterMoves known (Both beneath OfBag) plan moves =
      moves_keep_alone known (Both beneath OfBag) all plan moves nobody (λ one. has) (λ on. ((first_marked part Side AnyUnit written (any_unit part Side) plan on side, (holds, tt)), fits)) in after.holds.1
