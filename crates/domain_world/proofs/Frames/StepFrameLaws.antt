-- What holds through the moves of a world, of all of its state, of what ends gave in the move that is under way and
-- that isn't written down yet, and of the book: whatever holds through each step of an end, and through each single
-- change beside it. It gives an end's step the unit that came, and the actions what the step may do. It is an instance
-- of `MoveFrameLaws`. It serves `runs_stand_so`.
use Rattle.std.proofs.Common.{◌≡◌, ℕ, ◌+◌, ◌*◌, ◌≤◌, true, List, [], ◌∷◌, ◌++◌, length, Option, Some, None, slice_get, arith}
use Rattle.std.specs.List.{AllByRecursion}
use Rattle.wire_base.specs.Maps.{lookup, same_number}
use Rattle.wire_base.specs.Numbers.{AreBytes}
use Rattle.outside.specs.declared.action.Action.{Action}
use Rattle.outside.specs.declared.event.Event.{Event}
use Rattle.outside.specs.declared.event.Event.TheVariants as event
use Rattle.logon_client.specs.declared.plan.ClientPlan.{ClientPlan}
use Rattle.step_notes.specs.Records.{Book, blank}
use Rattle.world_moves.specs.declared.links.EndId.{EndId}
use Rattle.world_moves.specs.declared.links.EndId.TheVariants.{Client, Member}
use Rattle.world_moves.specs.declared.links.OpenLink.{OpenLink}
use Rattle.world_moves.specs.declared.links.Route.{Route}
use Rattle.world_moves.specs.declared.moves.Move.{Move}
use Rattle.world_moves.specs.declared.plan.Plan.{Plan}
use Rattle.world_moves.specs.declared.state.State.{State}
use Rattle.world_moves.specs.Acting.{Given, AfterHearing, forget, given_by, perform_quietly, shut_link}
use Rattle.world_moves.specs.Links.{acceptor_of}
use Rattle.world_moves.specs.Moving.{answered_link, begun, changed, settle, tick, with_link, without_first}
use Rattle.world_moves.specs.Alone.{IsPlainAlone, hear_alone as hear}
use Rattle.world_moves.specs.Plain.{plain_world}
use Rattle.domain_world.specs.Past.{Delivery, note_given, past}
use Rattle.domain_world.proofs.Frames.AloneNoteLaws.{note_alone as note_at}
use Rattle.domain_world.proofs.Frames.AloneStepLaws.{act_alone as hear_and_act, renewed_alone as renewed}
use Rattle.domain_world.proofs.Frames.BagFrameLaws.{IsServer, no_more_of, no_part, no_side, nothing_marked, nothing_written, AllFor, MarkFact, first_marked, marked_keep}
use Rattle.domain_world.proofs.Moves.ComingLaws.{CameFrom}
use Rattle.domain_world.proofs.Moves.OpenMadeLaws.{IsAtSide}
use Rattle.domain_world.proofs.Frames.EndFrameLaws.{IsCalm}
use Rattle.domain_world.proofs.Frames.AloneFrameLaws.{moves_keep_alone, moves_carry_alone}
use Rattle.domain_world.proofs.Frames.MoveFrameLaws.{HoldsAfterMoves}
use Rattle.domain_world.proofs.Frames.MoveKeepLaws.{Both, IsHeard, KeepsMoves, MoveFact, NoSide, Progress, beside, coming, join_moves, started, waiting}
use Rattle.domain_world.proofs.Moves.PlacedLaws.{HasBytes, HandsBytes, IsBytesBag}
use Rattle.domain_world.proofs.Frames.FrameLaws.{OfSide, side_keeps}
use Rattle.wire_base.proofs.AllLaws.{all_both}

-- ---- what is to hold

-- a fact after `steps` steps of ends: of the state, what ends gave in this move, and the book
abbrev pub RunFact : Type 1
RunFact = (steps : ℕ) → State → Given → Book → Type 0

-- what an action of that end may be, by the links of the world
abbrev pub ActionFact : Type 1
ActionFact = EndId → List Route → Action → Type 0

-- an end has heard something, and its actions aren't done yet
pub record HasHeard (Holds : RunFact) (Fine : ActionFact) (n : ℕ) (end : EndId) (heard : AfterHearing) (given : Given) (b : Book) : Type 0 where
  pub holds : Holds n heard.state (given ++ given_by end heard.actions) b
  pub fine : AllByRecursion (Fine end heard.state.links) heard.actions

-- A fact holds on where an end takes a step, where an action is done, and where one thing changes beside. It may rest
-- on a side fact, of which the same is shown apart (`join` puts the two together). `Over` is what is known of the end
-- of a move.
pub record KeepsWith (Over : Type 0) (Side Holds : RunFact) (Fine : ActionFact) : Type 0 where
  -- an end takes a step
  pub calm : (n : ℕ) (end : EndId) (what : Event) (s : State) (given : Given) (b : Book) → IsCalm what → Side n s given b → Holds n s given b →
      HasHeard Holds Fine (n + 1) end (hear end what s) given b
  pub dialled : (n : ℕ) (end : EndId) (link : ℕ) (s : State) (given : Given) (b : Book) → IsAtSide s.links link true end → Side n s given b → Holds n s given b →
      HasHeard Holds Fine (n + 1) end (hear end (event.Dialled link) s) given b
  pub opens : (n : ℕ) (route : Route) (s : State) (given : Given) (b : Book) → Side n s given b → Holds n s given b →
      HasHeard Holds Fine (n + 1) (acceptor_of route) (hear (acceptor_of route) (event.Opened (length s.links)) (with_link route s)) given b
  pub begins : (n client : ℕ) (plan : ClientPlan) (s : State) (given : Given) (b : Book) → slice_get s.client_plans client ≡ Some plan → Side n s given b → Holds n s given b →
      HasHeard Holds Fine (n + 1) (Client client) (begun client plan s) given b
  -- each unit of the bag has its mark, where a controller or a member hears bytes
  pub comes : (n : ℕ) (end : EndId) (w : Delivery) (piece : List ℕ) (s : State) (given : Given) (b : Book) → IsAtSide s.links w.link w.back end → CameFrom w.source s w piece → AreBytes piece →
      (IsServer end → length b.sent ≡ length s.bag) → Side n s given b → Holds n s given b →
      HasHeard Holds Fine (n + 1) end (hear end (event.Bytes w.link piece) s) given (note_at (Some end) w piece s (hear_and_act end (event.Bytes w.link piece) s).state b)
  -- an action is done: a unit goes into the bag, a dial waits, or a text is kept
  pub acts : (n : ℕ) (end : EndId) (what : Action) (s : State) (given : Given) (b : Book) → Fine end s.links what → Side n s given b → Holds n s given b →
      Holds n (perform_quietly end what s) given b
  -- one thing changes
  pub shuts : (n link : ℕ) (s : State) (given : Given) (b : Book) → Side n s given b → Holds n s given b → Holds n (shut_link link s) given b
  pub answers : (n link : ℕ) (there : OpenLink) (s : State) (given : Given) (b : Book) → lookup same_number link s.open_links ≡ Some there → Side n s given b → Holds n s given b →
      Holds n (answered_link link there s) given b
  pub forgets : (n : ℕ) (end : EndId) (s : State) (given : Given) (b : Book) → Side n s given b → Holds n s given b → Holds n (forget end s) given b
  pub settles : (n number : ℕ) (s : State) (given : Given) (b : Book) → Side n s given b → Holds n s given b → Holds n (settle number s) given b
  pub dials : (n : ℕ) (s : State) (given : Given) (b : Book) → Side n s given b → Holds n s given b → Holds n (without_first s) given b
  pub renews : (n : ℕ) (end : EndId) (s : State) (given : Given) (b : Book) → Side n s given b → Holds n s given b → Holds n (renewed end s) given b
  -- a member begins to change its secret
  pub changes : (n member : ℕ) (secret : List ℕ) (s : State) (given : Given) (b : Book) → Side n s given b → Holds n s given b →
      HasHeard Holds Fine (n + 1) (Member member) (changed member secret s) given b
  pub ticks : (n more : ℕ) (s : State) (given : Given) (b : Book) → Side n s given b → Holds n s given b → Holds n (tick more s) given b
  -- the move is over
  pub over : Over

-- what ends gave is written down
abbrev pub KeepsOver : RunFact → RunFact → Type 0
KeepsOver Side Holds = (n at : ℕ) (s : State) (given : Given) (b : Book) → Side n s given b → Holds n s given b → Holds n s [] (note_given at given s b)

-- `KeepsWith`, and the fact holds on where a move is over
abbrev pub StepKeeps : RunFact → RunFact → ActionFact → Type 0
StepKeeps Side Holds Fine = KeepsWith (KeepsOver Side Holds) Side Holds Fine

-- ---- two facts together

abbrev pub NoFact : RunFact
NoFact n s given b = Unit {0}

abbrev pub BothFacts : RunFact → RunFact → RunFact
BothFacts A B n s given b = A n s given b × B n s given b

abbrev pub BothFine : ActionFact → ActionFact → ActionFact
BothFine F G end links what = F end links what × G end links what

module _ (A B : RunFact) (F G : ActionFact) where
  both_heard : (n : ℕ) (end : EndId) (heard : AfterHearing) (given : Given) (b : Book) → HasHeard A F n end heard given b → HasHeard B G n end heard given b →
      HasHeard (BothFacts A B) (BothFine F G) n end heard given b
  both_heard n end heard given b one other = record {
    holds = (one.holds, other.holds);
    fine = all_both (F end heard.state.links) (G end heard.state.links) heard.actions one.fine other.fine;
  }

  -- whatever is known of the end of a move
  pub join_with : {One Other Over : Type 0} → KeepsWith One NoFact A F → KeepsWith Other A B G → Over → KeepsWith Over NoFact (BothFacts A B) (BothFine F G)
  join_with one other ends = record {
    calm = λ n end what s given b quiet none holds.
        both_heard (n + 1) end (hear end what s) given b (one.calm n end what s given b quiet tt holds.0) (other.calm n end what s given b quiet holds.0 holds.1);
    dialled = λ n end link s given b side none holds.
        both_heard (n + 1) end (hear end (event.Dialled link) s) given b (one.dialled n end link s given b side tt holds.0) (other.dialled n end link s given b side holds.0 holds.1);
    opens = λ n route s given b none holds.
        both_heard (n + 1) (acceptor_of route) (hear (acceptor_of route) (event.Opened (length s.links)) (with_link route s)) given b (one.opens n route s given b tt holds.0)
        (other.opens n route s given b holds.0 holds.1);
    begins = λ n client plan s given b is none holds.
        both_heard (n + 1) (Client client) (begun client plan s) given b (one.begins n client plan s given b is tt holds.0) (other.begins n client plan s given b is holds.0 holds.1);
    comes = λ n end w piece s given b side came bytes marked none holds.
        both_heard (n + 1) end (hear end (event.Bytes w.link piece) s) given (note_at (Some end) w piece s (hear_and_act end (event.Bytes w.link piece) s).state b)
        (one.comes n end w piece s given b side came bytes marked tt holds.0) (other.comes n end w piece s given b side came bytes marked holds.0 holds.1);
    acts = λ n end what s given b fine none holds. (one.acts n end what s given b fine.0 tt holds.0, other.acts n end what s given b fine.1 holds.0 holds.1);
    shuts = λ n link s given b none holds. (one.shuts n link s given b tt holds.0, other.shuts n link s given b holds.0 holds.1);
    answers = λ n link there s given b is none holds. (one.answers n link there s given b is tt holds.0, other.answers n link there s given b is holds.0 holds.1);
    forgets = λ n end s given b none holds. (one.forgets n end s given b tt holds.0, other.forgets n end s given b holds.0 holds.1);
    settles = λ n number s given b none holds. (one.settles n number s given b tt holds.0, other.settles n number s given b holds.0 holds.1);
    dials = λ n s given b none holds. (one.dials n s given b tt holds.0, other.dials n s given b holds.0 holds.1);
    renews = λ n end s given b none holds. (one.renews n end s given b tt holds.0, other.renews n end s given b holds.0 holds.1);
    changes = λ n member secret s given b none holds.
        both_heard (n + 1) (Member member) (changed member secret s) given b (one.changes n member secret s given b tt holds.0) (other.changes n member secret s given b holds.0 holds.1);
    ticks = λ n more s given b none holds. (one.ticks n more s given b tt holds.0, other.ticks n more s given b holds.0 holds.1);
    over = ends;
  }

  pub join : StepKeeps NoFact A F → StepKeeps A B G → StepKeeps NoFact (BothFacts A B) (BothFine F G)
  join one other =
      join_with one other (λ n at s given b none holds. (one.over n at s given b tt holds.0, other.over n at s given b holds.0 holds.1))

-- A fact that rests on a side fact rests on whatever gives it.
pub with_side : (Side More Holds : RunFact) (Fine : ActionFact) → ((n : ℕ) (s : State) (given : Given) (b : Book) → More n s given b → Side n s given b) → StepKeeps Side Holds Fine →
    StepKeeps More Holds Fine
with_side Side More Holds Fine so keeps = record {
  calm = λ n end what s given b quiet more holds. keeps.calm n end what s given b quiet (so n s given b more) holds;
  dialled = λ n end link s given b side more holds. keeps.dialled n end link s given b side (so n s given b more) holds;
  opens = λ n route s given b more holds. keeps.opens n route s given b (so n s given b more) holds;
  begins = λ n client plan s given b is more holds. keeps.begins n client plan s given b is (so n s given b more) holds;
  comes = λ n end w piece s given b side came bytes marked more holds. keeps.comes n end w piece s given b side came bytes marked (so n s given b more) holds;
  acts = λ n end what s given b fine more holds. keeps.acts n end what s given b fine (so n s given b more) holds;
  shuts = λ n link s given b more holds. keeps.shuts n link s given b (so n s given b more) holds;
  answers = λ n link there s given b is more holds. keeps.answers n link there s given b is (so n s given b more) holds;
  forgets = λ n end s given b more holds. keeps.forgets n end s given b (so n s given b more) holds;
  settles = λ n number s given b more holds. keeps.settles n number s given b (so n s given b more) holds;
  dials = λ n s given b more holds. keeps.dials n s given b (so n s given b more) holds;
  renews = λ n end s given b more holds. keeps.renews n end s given b (so n s given b more) holds;
  changes = λ n member secret s given b more holds. keeps.changes n member secret s given b (so n s given b more) holds;
  ticks = λ n more_time s given b more holds. keeps.ticks n more_time s given b (so n s given b more) holds;
  over = λ n at s given b more holds. keeps.over n at s given b (so n s given b more) holds;
}

-- nothing is asked of actions
abbrev pub AnyAction : ActionFact
AnyAction end links what = Unit {0}

pub all_any : (actions : List Action) → AllByRecursion (λ (what : Action). Unit {0}) actions
all_any [] = tt
all_any (what ∷ actions) = (tt, all_any actions)

-- A fact while few steps were taken: that fewer were taken before is known then.
abbrev pub WhileFew : ℕ → RunFact → RunFact
WhileFew most Holds n s given b = n ≤ most → Holds n s given b

module _ (most : ℕ) (Side Holds : RunFact) (keeps : StepKeeps Side Holds AnyAction) where
  few_heard : (n : ℕ) (end : EndId) (heard : AfterHearing) (given : Given) (b : Book) → (n + 1 ≤ most → HasHeard Holds AnyAction (n + 1) end heard given b) →
      HasHeard (WhileFew most Holds) AnyAction (n + 1) end heard given b
  few_heard n end heard given b so = record { holds = λ few. (so few).holds; fine = all_any heard.actions }

  pub while_few : StepKeeps (WhileFew most Side) (WhileFew most Holds) AnyAction
  while_few = record {
    calm = λ n end what s given b quiet side holds.
        few_heard n end (hear end what s) given b (λ few. keeps.calm n end what s given b quiet (side (omega (arith, few))) (holds (omega (arith, few))));
    dialled = λ n end link s given b at side holds.
        few_heard n end (hear end (event.Dialled link) s) given b (λ few. keeps.dialled n end link s given b at (side (omega (arith, few))) (holds (omega (arith, few))));
    opens = λ n route s given b side holds.
        few_heard n (acceptor_of route) (hear (acceptor_of route) (event.Opened (length s.links)) (with_link route s)) given b
        (λ few. keeps.opens n route s given b (side (omega (arith, few))) (holds (omega (arith, few))));
    begins = λ n client plan s given b is side holds.
        few_heard n (Client client) (begun client plan s) given b (λ few. keeps.begins n client plan s given b is (side (omega (arith, few))) (holds (omega (arith, few))));
    comes = λ n end w piece s given b at came bytes marked side holds.
        few_heard n end (hear end (event.Bytes w.link piece) s) given (note_at (Some end) w piece s (hear_and_act end (event.Bytes w.link piece) s).state b)
        (λ few. keeps.comes n end w piece s given b at came bytes marked (side (omega (arith, few))) (holds (omega (arith, few))));
    acts = λ n end what s given b fine side holds few. keeps.acts n end what s given b fine (side few) (holds few);
    shuts = λ n link s given b side holds few. keeps.shuts n link s given b (side few) (holds few);
    answers = λ n link there s given b is side holds few. keeps.answers n link there s given b is (side few) (holds few);
    forgets = λ n end s given b side holds few. keeps.forgets n end s given b (side few) (holds few);
    settles = λ n number s given b side holds few. keeps.settles n number s given b (side few) (holds few);
    dials = λ n s given b side holds few. keeps.dials n s given b (side few) (holds few);
    renews = λ n end s given b side holds few. keeps.renews n end s given b (side few) (holds few);
    changes = λ n member secret s given b side holds.
        few_heard n (Member member) (changed member secret s) given b (λ few. keeps.changes n member secret s given b (side (omega (arith, few))) (holds (omega (arith, few))));
    ticks = λ n more s given b side holds few. keeps.ticks n more s given b (side few) (holds few);
    over = λ n at s given b side holds few. keeps.over n at s given b (side few) (holds few);
  }

-- ---- as a fact of a move

-- what may be done of what isn't done yet
abbrev pub OfRest : ActionFact → List Route → Given → Type 0
OfRest Fine links rest = AllByRecursion (λ (one : EndId × Action). Fine one.0 links one.1) rest

abbrev pub OfSteps : RunFact → ActionFact → MoveFact
OfSteps Holds Fine n p s given b = Holds n s given b × OfRest Fine s.links p.rest

fine_given : (Fine : ActionFact) (end : EndId) (links : List Route) (actions : List Action) (rest : Given) → AllByRecursion (Fine end links) actions → OfRest Fine links rest →
    OfRest Fine links (given_by end actions ++ rest)
fine_given Fine end links [] rest fine more = more
fine_given Fine end links (what ∷ actions) rest fine more = (fine.0, fine_given Fine end links actions rest fine.1 more)

-- The side fact gives the marks where bytes come, and that it holds on where a move is over.
module _ {Over : Type 0} (Holds : RunFact) (Fine : ActionFact) (keeps : KeepsWith Over NoFact Holds Fine) (Beneath : MoveFact)
    (marks : (n : ℕ) (w : Delivery) (s : State) (given : Given) (b : Book) → Beneath n (coming w) s given b → AllFor (Some w) s.links s.bag b.sent)
    (over : (n at : ℕ) (on : Option Delivery) (s : State) (given : Given) (b : Book) → Beneath n (started at on) s given b → Holds n s given b → Holds n s [] (note_given at given s b)) where
  so_heard : (n : ℕ) (p : Progress) (end : EndId) (heard : AfterHearing) (given : Given) (b : Book) → HasHeard Holds Fine (n + 1) end heard given b → OfRest Fine heard.state.links p.rest →
      IsHeard (OfSteps Holds Fine) n p end heard given b
  so_heard n p end heard given b so rest = (so.holds, fine_given Fine end heard.state.links heard.actions p.rest so.fine rest)

  pub steps_keep : KeepsMoves (Unit {0}) Beneath (OfSteps Holds Fine)
  steps_keep = record {
    closes = λ n p end link s given b work side holds. so_heard n p end (hear end (event.Closed link) s) given b (keeps.calm n end (event.Closed link) s given b tt tt holds.0) holds.1;
    opens = λ n at dial route s given b out side holds.
        so_heard n (waiting at dial) (acceptor_of route) (hear (acceptor_of route) (event.Opened (length s.links)) (with_link route s)) given b (keeps.opens n route s given b tt holds.0) tt;
    dialled = λ n at end link s given b here side holds.
        so_heard n (waiting at None) end (hear end (event.Dialled link) s) given b (keeps.dialled n end link s given b here tt holds.0) tt;
    fails = λ n at end s b side holds. so_heard n (waiting at None) end (hear end event.DialFailed s) [] b (keeps.calm n end event.DialFailed s [] b tt tt holds.0) tt;
    begins = λ n at client plan s b is side holds. so_heard n (waiting at None) (Client client) (begun client plan s) [] b (keeps.begins n client plan s [] b is tt holds.0) tt;
    comes = λ n end w piece s given b here came bytes side holds.
        so_heard n (coming w) end (hear end (event.Bytes w.link piece) s) given (note_at (Some end) w piece s (hear_and_act end (event.Bytes w.link piece) s).state b)
        (keeps.comes n end w piece s given b here came (bytes tt) (λ server. marks n w s given b side end here server) tt holds.0) tt;
    reaches = λ n w s given b side holds. holds;
    acts = λ n p end what s given b work side holds. (keeps.acts n end what s given b holds.1.0 tt holds.0, holds.1.1);
    shuts = λ n p link s given b work side holds. (keeps.shuts n link s given b tt holds.0, holds.1);
    answers = λ n at dial link there s given b is side holds. (keeps.answers n link there s given b is tt holds.0, tt);
    forgets = λ n at end s b side holds. (keeps.forgets n end s [] b tt holds.0, tt);
    settles = λ n at on number s b side holds. (keeps.settles n number s [] b tt holds.0, tt);
    dials = λ n at dial s b is side holds. (keeps.dials n s [] b tt holds.0, tt);
    renews = λ n at end s b side holds. (keeps.renews n end (forget end s) [] b tt (keeps.forgets n end s [] b tt holds.0), tt);
    changes = λ n at member secret s b formed side holds. so_heard n (waiting at None) (Member member) (changed member secret s) [] b (keeps.changes n member secret s [] b tt holds.0) tt;
    ticks = λ n at more s b side holds. (keeps.ticks n more s [] b tt holds.0, tt);
    over = λ n at on next s given b side holds. (over n at on s given b side holds.0, tt);
  }

-- ---- a run

-- A fact holds after a run from a plan, at which ten steps of ends a move were taken at most.
pub record HoldsAfterRun (Holds : RunFact) (plan : Plan) (moves : List Move) : Type 0 where
  pub steps : ℕ
  pub holds : Holds steps (past plan moves).world.state [] (past plan moves).book
  pub few : steps + 2 * length (past plan moves).world.state.open_links ≤ 10 * length moves

-- each unit has its mark, and nothing beside
abbrev Nothing : MoveFact
Nothing = OfSide no_part no_side nothing_written

abbrev Marked : MoveFact
Marked = Both Nothing (MarkFact no_part no_more_of)

-- where something else is known in each move, with which it holds on where a move is over
pub run_beside : {Over : Type 0} → (Holds : RunFact) (Fine : ActionFact) → KeepsWith Over NoFact Holds Fine → (Also : MoveFact) → KeepsMoves (Unit {0}) NoSide Also →
    ((n at : ℕ) (on : Option Delivery) (s : State) (given : Given) (b : Book) → Also n (started at on) s given b → Holds n s given b → Holds n s [] (note_given at given s b)) →
    (plan : Plan) (moves : List Move) → IsPlainAlone plan → HasBytes plan moves → ((on : Option Delivery) → Also 0 (started 0 on) (plain_world plan).state [] blank) →
    Holds 0 (plain_world plan).state [] blank → HoldsAfterRun Holds plan moves
run_beside Holds Fine keeps Also also over plan moves nobody has more holds =
    let known : Type 0 = Unit {0} in
    let beneath : MoveFact = Both Marked Also in
    let all : KeepsMoves known NoSide (Both beneath (OfSteps Holds Fine)) =
    join_moves known beneath (OfSteps Holds Fine)
    (join_moves known Marked Also (marked_keep no_part no_side no_more_of nothing_written nothing_marked known) (beside known Marked Also also))
    (steps_keep Holds Fine keeps beneath (λ n w s given b side. side.0.1.all) (λ n at on s given b side. over n at on s given b side.1)) in
    let after : HoldsAfterMoves known (Both beneath (OfSteps Holds Fine)) plan moves =
    moves_keep_alone known (Both beneath (OfSteps Holds Fine)) all plan moves nobody (λ one. has)
    (λ on. ((first_marked no_part no_side no_more_of nothing_written nothing_marked plan on tt, more on), (holds, tt))) in
    record { steps = after.steps; holds = after.holds.1.0; few = after.few tt }

pub run_keeps : (Holds : RunFact) (Fine : ActionFact) → StepKeeps NoFact Holds Fine → (plan : Plan) (moves : List Move) → IsPlainAlone plan → HasBytes plan moves →
    Holds 0 (plain_world plan).state [] blank → HoldsAfterRun Holds plan moves
run_keeps Holds Fine keeps plan moves nobody has holds =
    run_beside Holds Fine keeps Nothing (side_keeps no_part no_side nothing_written (Unit {0})) (λ n at on s given b none. keeps.over n at s given b tt) plan moves nobody has (λ on. tt) holds

-- a fact that says of the bag that its units are short bytes is kept where what is handed in are bytes
pub run_carries : (Holds : RunFact) (Fine : ActionFact) → StepKeeps NoFact Holds Fine → ((n : ℕ) (s : State) (b : Book) → Holds n s [] b → IsBytesBag s.bag) →
    (plan : Plan) (moves : List Move) → IsPlainAlone plan → AllByRecursion HandsBytes moves → Holds 0 (plain_world plan).state [] blank → HoldsAfterRun Holds plan moves
run_carries Holds Fine keeps says plan moves nobody handed holds =
    let known : Type 0 = Unit {0} in
    let all : KeepsMoves known NoSide (Both Marked (OfSteps Holds Fine)) =
    join_moves known Marked (OfSteps Holds Fine) (marked_keep no_part no_side no_more_of nothing_written nothing_marked known)
    (steps_keep Holds Fine keeps Marked (λ n w s given b side. side.1.all) (λ n at on s given b side. keeps.over n at s given b tt)) in
    let after : HoldsAfterMoves known (Both Marked (OfSteps Holds Fine)) plan moves =
    moves_carry_alone (Both Marked (OfSteps Holds Fine)) all (λ n at s b holds. says n s b holds.1.0) plan moves nobody handed
    (λ on. (first_marked no_part no_side no_more_of nothing_written nothing_marked plan on tt, (holds, tt))) in
    record { steps = after.steps; holds = after.holds.1.0; few = after.few tt }
