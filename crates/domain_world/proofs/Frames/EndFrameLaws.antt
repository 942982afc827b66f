-- What holds through the moves of a world of its ends, its clients' plans, its maker of challenges and its links, of
-- what ends gave in the move, and of the book: whatever holds through each step of an end, since actions change none of
-- them.
-- It is an instance of `MoveFrameLaws`. It serves `Proved.credentials`, `Proved.let_in`, `runs_are_heard` and others.
use Rattle.std.proofs.Common.{◌≡◌, ℕ, ◌+◌, List, [], ◌++◌, length, Option, Some, None, slice_get}
use Rattle.std.specs.Prelude.{true}
use Rattle.outside.specs.Drawing.{Drawing}
use Rattle.outside.specs.declared.event.Event.{Event}
use Rattle.outside.specs.declared.event.Event.TheVariants as event
use Rattle.logon_client.specs.declared.plan.ClientPlan.{ClientPlan}
use Rattle.step_notes.specs.Records.{Book, blank}
use Rattle.world_moves.specs.declared.links.EndId.{EndId}
use Rattle.world_moves.specs.declared.links.EndId.TheVariants.{Client, Member}
use Rattle.world_moves.specs.declared.links.Route.{Route}
use Rattle.world_moves.specs.declared.moves.Move.{Move}
use Rattle.world_moves.specs.declared.plan.Plan.{Plan}
use Rattle.world_moves.specs.declared.state.State.{State}
use Rattle.world_moves.specs.Acting.{Given, done, forget, AfterHearing, given_by}
use Rattle.world_moves.specs.Ends.{EndStates}
use Rattle.world_moves.specs.Links.{acceptor_of}
use Rattle.world_moves.specs.Moving.{begun, changed, with_link}
use Rattle.world_moves.specs.World.{World, first_world, happens, run}
use Rattle.world_moves.specs.Alone.{IsPlainAlone}
use Rattle.world_moves.specs.Plain.{IsPlain, IsPlainPlan, plain_world}
use Rattle.domain_world.specs.Claims.Sessions.{restart_of}
use Rattle.domain_world.specs.Past.{Delivery, book, note, note_given, past}
use Rattle.domain_world.proofs.Moves.ComingLaws.{CameFrom}
use Rattle.domain_world.proofs.Frames.AloneFrameLaws.{StandsAlone, later_keeps_alone, moves_keep_alone}
use Rattle.domain_world.proofs.Frames.MoveFrameLaws.{HoldsAfterMoves, moves_keep}
use Rattle.domain_world.proofs.Frames.MoveKeepLaws.{How, KeepsMovesBy, alone, any, every, KeepsCalmMovesBy, KeepsMoves, MoveFact, NoSide, StationsStart}
use Rattle.domain_world.proofs.Frames.PlainFrameLaws.{move_keeps_plain, moves_keep_plain}
use Rattle.domain_world.proofs.Moves.PlacedLaws.{IsPlaced}

-- ---- what is to hold

-- what actions leave of a state
pub record Ends : Type 0 where
  pub client_plans : List ClientPlan
  pub ends : EndStates
  pub chances : Drawing
  pub links : List Route

abbrev pub ends_in : State → Ends
ends_in s = record { client_plans = s.client_plans; ends = s.ends; chances = s.chances; links = s.links }

-- a fact after `moves` moves, and of where bytes come from in this one, if they do: of the ends, what ends gave in this
-- move, and the book
abbrev pub EndFact : Type 1
EndFact = (moves : ℕ) → Option Delivery → Ends → Given → Book → Type 0

-- an end has heard something
abbrev pub HasHeard : EndFact → ℕ → Option Delivery → EndId → AfterHearing → Given → Book → Type 0
HasHeard Holds at on end heard given b = Holds at on (ends_in heard.state) (given ++ given_by end heard.actions) b

-- no bytes come, no link opens and none is answered
abbrev pub IsCalm : Event → Type 0
IsCalm (event.Bytes link piece) = ⊥
IsCalm (event.Opened link) = ⊥
IsCalm (event.Dialled link) = ⊥
IsCalm (event.Closed link) = Unit {0}
IsCalm event.DialFailed = Unit {0}
IsCalm event.Stop = Unit {0}

pub by_calm : (P : Event → Type 0) → ((link : ℕ) → P (event.Closed link)) → P event.DialFailed → P event.Stop → (what : Event) → IsCalm what → P what
by_calm P closed fails stops (event.Bytes link piece) calm = absurd calm
by_calm P closed fails stops (event.Opened link) calm = absurd calm
by_calm P closed fails stops (event.Dialled link) calm = absurd calm
by_calm P closed fails stops (event.Closed link) calm = closed link
by_calm P closed fails stops event.DialFailed calm = fails
by_calm P closed fails stops event.Stop calm = stops

pub record KeepsEndsBy (how : How) (Holds : EndFact) : Type 0 where
  pub calm : (at : ℕ) (on : Option Delivery) (end : EndId) (what : Event) (s : State) (given : Given) (b : Book) → IsCalm what → Holds at on (ends_in s) given b →
      HasHeard Holds at on end (how.hears end what s) given b
  pub dialled : (at : ℕ) (end : EndId) (link : ℕ) (s : State) (given : Given) (b : Book) → how.at_side s.links link true end → Holds at None (ends_in s) given b →
      HasHeard Holds at None end (how.hears end (event.Dialled link) s) given b
  pub opens : (at : ℕ) (route : Route) (s : State) (given : Given) (b : Book) → Holds at None (ends_in s) given b →
      HasHeard Holds at None (acceptor_of route) (how.hears (acceptor_of route) (event.Opened (length s.links)) (with_link route s)) given b
  pub begins : (at client : ℕ) (plan : ClientPlan) (s : State) (b : Book) → slice_get s.client_plans client ≡ Some plan → Holds at None (ends_in s) [] b →
      HasHeard Holds at None (Client client) (begun client plan s) [] b
  pub comes : (end : EndId) (w : Delivery) (piece : List ℕ) (s : State) (given : Given) (b : Book) → how.at_side s.links w.link w.back end → CameFrom w.source s w piece →
      Holds w.at (Some w) (ends_in s) given b →
      HasHeard Holds w.at (Some w) end (how.hears end (event.Bytes w.link piece) s) given (how.notes (Some end) w piece s (done end (how.hears end (event.Bytes w.link piece) s)).state b)
  pub renews : (at : ℕ) (end : EndId) (s : State) (b : Book) → Holds at None (ends_in s) [] b → Holds at None (ends_in (how.renews end s)) [] b
  -- a member begins to change its secret
  pub changes : (at member : ℕ) (secret : List ℕ) (s : State) (b : Book) → Holds at None (ends_in s) [] b → HasHeard Holds at None (Member member) (changed member secret s) [] b
  -- the move is over, whatever comes in the next one
  pub over : (at : ℕ) (on next : Option Delivery) (s : State) (given : Given) (b : Book) → Holds at on (ends_in s) given b → Holds (at + 1) next (ends_in s) [] (note_given at given s b)

-- `KeepsEndsBy` but for an end that is made anew, where the fact isn't known to hold on.
pub record KeepsCalmEndsBy (how : How) (Holds : EndFact) : Type 0 where
  pub calm : (at : ℕ) (on : Option Delivery) (end : EndId) (what : Event) (s : State) (given : Given) (b : Book) → IsCalm what → Holds at on (ends_in s) given b →
      HasHeard Holds at on end (how.hears end what s) given b
  pub dialled : (at : ℕ) (end : EndId) (link : ℕ) (s : State) (given : Given) (b : Book) → how.at_side s.links link true end → Holds at None (ends_in s) given b →
      HasHeard Holds at None end (how.hears end (event.Dialled link) s) given b
  pub opens : (at : ℕ) (route : Route) (s : State) (given : Given) (b : Book) → Holds at None (ends_in s) given b →
      HasHeard Holds at None (acceptor_of route) (how.hears (acceptor_of route) (event.Opened (length s.links)) (with_link route s)) given b
  pub begins : (at client : ℕ) (plan : ClientPlan) (s : State) (b : Book) → slice_get s.client_plans client ≡ Some plan → Holds at None (ends_in s) [] b →
      HasHeard Holds at None (Client client) (begun client plan s) [] b
  pub comes : (end : EndId) (w : Delivery) (piece : List ℕ) (s : State) (given : Given) (b : Book) → how.at_side s.links w.link w.back end → CameFrom w.source s w piece →
      Holds w.at (Some w) (ends_in s) given b →
      HasHeard Holds w.at (Some w) end (how.hears end (event.Bytes w.link piece) s) given (how.notes (Some end) w piece s (done end (how.hears end (event.Bytes w.link piece) s)).state b)
  pub changes : (at member : ℕ) (secret : List ℕ) (s : State) (b : Book) → Holds at None (ends_in s) [] b → HasHeard Holds at None (Member member) (changed member secret s) [] b
  pub over : (at : ℕ) (on next : Option Delivery) (s : State) (given : Given) (b : Book) → Holds at on (ends_in s) given b → Holds (at + 1) next (ends_in s) [] (note_given at given s b)

-- `KeepsEndsBy` where controllers ask nobody
abbrev pub KeepsEnds : EndFact → Type 0
KeepsEnds Holds = KeepsEndsBy alone Holds

-- ---- a run

module _ (Holds : EndFact) (keeps : KeepsCalmEndsBy every Holds) where
  abbrev OfCalmMoves : MoveFact
  OfCalmMoves n p s given b = Holds p.at p.on (ends_in s) given b

  calm_ends_keep : KeepsCalmMovesBy every ⊥ NoSide OfCalmMoves
  calm_ends_keep = record {
    closes = λ n p end link s given b work none holds. keeps.calm p.at p.on end (event.Closed link) s given b tt holds;
    opens = λ n at dial route s given b out none holds. keeps.opens at route s given b holds;
    dialled = λ n at end link s given b side none holds. keeps.dialled at end link s given b side holds;
    fails = λ n at end s b none holds. keeps.calm at None end event.DialFailed s [] b tt holds;
    begins = λ n at client plan s b is none holds. keeps.begins at client plan s b is holds;
    comes = λ n end w piece s given b side came bytes none holds. keeps.comes end w piece s given b side came holds;
    reaches = λ n w s given b none holds. holds;
    acts = λ n p end what s given b work none holds. holds;
    shuts = λ n p link s given b work none holds. holds;
    answers = λ n at dial link there s given b is none holds. holds;
    forgets = λ n at end s b none holds. holds;
    settles = λ n at on number s b none holds. holds;
    dials = λ n at dial s b is none holds. holds;
    changes = λ n at member secret s b formed none holds. keeps.changes at member secret s b holds;
    ticks = λ n at more s b none holds. holds;
    over = λ n at on next s given b none holds. keeps.over at on next s given b holds;
  }

  -- through one move at which no end is made anew
  pub ends_through : (what : Move) (w : World) (b : Book) → restart_of what w.state ≡ None → IsPlaced w.state → IsPlain w.state → ((on : Option Delivery) → Holds w.moves on (ends_in w.state) [] b) →
      (next : Option Delivery) → Holds (happens w what).moves next (ends_in (happens w what).state) [] (note w what b)
  ends_through what w b none placed plain holds = (move_keeps_plain OfCalmMoves calm_ends_keep what w b none placed plain holds).1

abbrev pub OfMoves : EndFact → MoveFact
OfMoves Holds n p s given b = Holds p.at p.on (ends_in s) given b

module _ (how : How) (Holds : EndFact) (keeps : KeepsEndsBy how Holds) where
  pub ends_keep_by : (Known : Type 0) → KeepsMovesBy how Known NoSide (OfMoves Holds)
  ends_keep_by Known = record {
    closes = λ n p end link s given b work none holds. keeps.calm p.at p.on end (event.Closed link) s given b tt holds;
    opens = λ n at dial route s given b out none holds. keeps.opens at route s given b holds;
    dialled = λ n at end link s given b side none holds. keeps.dialled at end link s given b side holds;
    fails = λ n at end s b none holds. keeps.calm at None end event.DialFailed s [] b tt holds;
    begins = λ n at client plan s b is none holds. keeps.begins at client plan s b is holds;
    comes = λ n end w piece s given b side came bytes none holds. keeps.comes end w piece s given b side came holds;
    reaches = λ n w s given b none holds. holds;
    acts = λ n p end what s given b work none holds. holds;
    shuts = λ n p link s given b work none holds. holds;
    answers = λ n at dial link there s given b is none holds. holds;
    forgets = λ n at end s b none holds. holds;
    settles = λ n at on number s b none holds. holds;
    dials = λ n at dial s b is none holds. holds;
    renews = λ n at end s b none holds. keeps.renews at end (forget end s) b holds;
    changes = λ n at member secret s b formed none holds. keeps.changes at member secret s b holds;
    ticks = λ n at more s b none holds. holds;
    over = λ n at on next s given b none holds. keeps.over at on next s given b holds;
  }

-- where controllers ask nobody
module _ (Holds : EndFact) (keeps : KeepsEnds Holds) where
  pub ends_keep : (Known : Type 0) → KeepsMoves Known NoSide (OfMoves Holds)
  ends_keep Known = ends_keep_by alone Holds keeps Known

  pub ends_after : (plan : Plan) (moves : List Move) → IsPlainAlone plan → ((on : Option Delivery) → Holds 0 on (ends_in (plain_world plan).state) [] blank) →
      Holds (past plan moves).world.moves None (ends_in (past plan moves).world.state) [] (past plan moves).book
  ends_after plan moves nobody holds =
      let after : HoldsAfterMoves ⊥ (OfMoves Holds) plan moves = moves_keep_alone ⊥ (OfMoves Holds) (ends_keep ⊥) plan moves nobody (λ none. absurd none) holds in after.holds

  -- a fact of ends holds after a run from any world on in which nobody asks another
  pub ends_later : (moves : List Move) (w : World) (b : Book) → StandsAlone w.state → ((on : Option Delivery) → Holds w.moves on (ends_in w.state) [] b) →
      Holds (run moves w).moves None (ends_in (run moves w).state) [] (book moves w b)
  ends_later moves w b stands holds = (later_keeps_alone (OfMoves Holds) (ends_keep ⊥) moves w b stands holds).1

-- in any run, where the fact holds on besides as a station begins
pub any_ends_after : (Holds : EndFact) → KeepsEndsBy any Holds → StationsStart (OfMoves Holds) → (plan : Plan) (moves : List Move) → ((on : Option Delivery) → Holds 0 on (ends_in (first_world plan).state) [] blank) →
    Holds (past plan moves).world.moves None (ends_in (past plan moves).world.state) [] (past plan moves).book
any_ends_after Holds keeps starts plan moves holds =
    let after : HoldsAfterMoves ⊥ (OfMoves Holds) plan moves = moves_keep ⊥ (OfMoves Holds) (ends_keep_by any Holds keeps ⊥) starts plan moves (λ none. absurd none) holds in after.holds

-- in every run of a plain plan, whether controllers ask others or not
pub every_ends_after : (Holds : EndFact) → KeepsEndsBy every Holds → (plan : Plan) (moves : List Move) → IsPlainPlan plan → ((on : Option Delivery) → Holds 0 on (ends_in (plain_world plan).state) [] blank) →
    Holds (past plan moves).world.moves None (ends_in (past plan moves).world.state) [] (past plan moves).book
every_ends_after Holds keeps plan moves nothing holds =
    let after : HoldsAfterMoves ⊥ (OfMoves Holds) plan moves = moves_keep_plain ⊥ (OfMoves Holds) (ends_keep_by every Holds keeps ⊥) plan moves nothing (λ none. absurd none) holds in after.holds
