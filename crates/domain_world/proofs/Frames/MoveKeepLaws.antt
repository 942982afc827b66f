-- What is to be shown of a fact that holds on through the moves of a world: of each step of an end, of each action that
-- is done, and of each single change beside that; and of two such facts together. It serves `drive`, and all other laws
-- of every run.
use Rattle.std.proofs.Common.{◌≡◌, ℕ, ◌+◌, Bool, true, List, [], ◌∷◌, ◌++◌, length, Option, Some, None, slice_get}
use Rattle.wire_base.specs.Maps.{lookup, same_number}
use Rattle.wire_base.specs.Numbers.{AreBytes}
use Rattle.outside.specs.declared.action.Action.{Action}
use Rattle.outside.specs.declared.event.Event.{Event}
use Rattle.outside.specs.declared.event.Event.TheVariants as event
use Rattle.logon_client.specs.declared.plan.ClientPlan.{ClientPlan}
use Rattle.secret_change.specs.Secrets.{IsSecret}
use Rattle.step_notes.specs.Records.{Book}
use Rattle.world_moves.specs.declared.links.EndId.{EndId}
use Rattle.world_moves.specs.declared.links.EndId.TheVariants.{Client, Member, Station}
use Rattle.world_moves.specs.declared.links.OpenLink.{OpenLink}
use Rattle.world_moves.specs.declared.links.Route.{Route}
use Rattle.world_moves.specs.declared.state.State.{State}
use Rattle.world_moves.specs.declared.state.WaitingDial.{WaitingDial}
use Rattle.world_moves.specs.Acting.{Given, AfterHearing, done, forget, given_by, hear, perform_quietly, shut_link}
use Rattle.world_moves.specs.Alone.{hear_alone}
use Rattle.world_moves.specs.Links.{acceptor_of, dialler_of}
use Rattle.world_moves.specs.Moving.{answered_link, begun, changed, renewed, settle, station_begun, tick, with_link, without_first}
use Rattle.world_moves.specs.Plain.{hear_plain, renewed_plain}
use Rattle.domain_world.specs.Past.{Delivery, note_at, note_given}
use Rattle.domain_world.proofs.Frames.AloneNoteLaws.{note_alone}
use Rattle.domain_world.proofs.Frames.AloneStepLaws.{renewed_alone}
use Rattle.domain_world.proofs.Moves.ComingLaws.{CameFrom}
use Rattle.domain_world.proofs.Moves.OpenMadeLaws.{IsAtSide, IsOnSide}
use Rattle.interactive_station.specs.declared.plan.StationPlan.{StationPlan}

-- ---- what is to hold

-- How ends hear and are made anew, what is written down of bytes that come, and which end is at a side of a link: what
-- a frame asks of each step is said of it.
pub record How : Type 1 where
  pub hears : EndId → Event → State → AfterHearing
  pub renews : EndId → State → State
  -- what is written down of bytes that come at it
  pub notes : Option EndId → Delivery → List ℕ → State → State → Book → Book
  -- the link's number, and the direction, `back` to the end that dialled
  pub at_side : List Route → ℕ → Bool → EndId → Type 0

-- in any world
abbrev pub any : How
any = record {
  hears = λ end what s. hear end what s;
  renews = λ end s. renewed end s;
  notes = λ end w piece s after b. note_at end w piece s after b;
  at_side = λ links link back end. IsOnSide links link back end;
}

-- in every plain world
abbrev pub every : How
every = record {
  hears = λ end what s. hear_plain end what s;
  renews = λ end s. renewed_plain end s;
  notes = λ end w piece s after b. note_at end w piece s after b;
  at_side = λ links link back end. IsOnSide links link back end;
}

-- in one whose controllers ask nobody: no link is between controllers
abbrev pub alone : How
alone = record {
  hears = λ end what s. hear_alone end what s;
  renews = λ end s. renewed_alone end s;
  notes = λ end w piece s after b. note_alone end w piece s after b;
  at_side = λ links link back end. IsAtSide links link back end;
}

-- what is under way in a move: between two moves, before a step and within it
pub record Progress : Type 0 where
  -- after how many moves
  pub at : ℕ
  -- what comes in this move, or None where no bytes come
  pub on : Option Delivery
  -- while an end does what it does at bytes: the state once all of that is done
  pub to : Option State
  -- the end whose dial is answered
  pub dial : Option EndId
  -- what ends gave and isn't done yet
  pub rest : Given

-- a fact after `steps` steps of ends: of what is under way, the state, what ends gave in this move, and the book
abbrev pub MoveFact : Type 1
MoveFact = (steps : ℕ) → Progress → State → Given → Book → Type 0

-- nothing is left to do
abbrev pub started : ℕ → Option Delivery → Progress
started at on = record { at = at; on = on; to = None; dial = None; rest = [] }

-- no bytes come, and the dial of that end is answered, if of any
abbrev pub waiting : ℕ → Option EndId → Progress
waiting at dial = record { at = at; on = None; to = None; dial = dial; rest = [] }

-- bytes come
abbrev pub coming : Delivery → Progress
coming w = started w.at (Some w)

abbrev pub with_rest : Given → Progress → Progress
with_rest given p = record p { rest = given ++ p.rest }

-- an end has heard something, and its actions aren't done yet
abbrev pub IsHeard : MoveFact → ℕ → Progress → EndId → AfterHearing → Given → Book → Type 0
IsHeard Holds n p end heard given b = Holds (n + 1) (with_rest (given_by end heard.actions) p) heard.state (given ++ given_by end heard.actions) b

-- An end may act, or hear that a link closed: at a move without bytes, or within the step at bytes that is under way.
abbrev pub AtWork : Option Delivery → Option State → Type 0
AtWork None to = Unit {0}
AtWork (Some w) None = ⊥
AtWork (Some w) (Some after) = Unit {0}

-- A fact holds on where an end takes a step, where an action is done, and where one thing changes beside. It may rest
-- on a side fact, of which the same is shown apart (`join_moves` puts the two together). `Known` is what is known of
-- the run: that what comes are bytes, that few pieces come in a move, and that secrets have 16 bytes.
pub record KeepsMovesBy (how : How) (Known : Type 0) (Side Holds : MoveFact) : Type 0 where
  -- an end takes a step
  pub closes : (n : ℕ) (p : Progress) (end : EndId) (link : ℕ) (s : State) (given : Given) (b : Book) → AtWork p.on p.to → Side n p s given b → Holds n p s given b →
      IsHeard Holds n p end (how.hears end (event.Closed link) s) given b
  -- a link opens, for the dial that is answered, or a stranger's
  pub opens : (n at : ℕ) (dial : Option EndId) (route : Route) (s : State) (given : Given) (b : Book) → dialler_of route ≡ dial → Side n (waiting at dial) s given b → Holds n (waiting at dial) s given b →
      IsHeard Holds n (waiting at dial) (acceptor_of route) (how.hears (acceptor_of route) (event.Opened (length s.links)) (with_link route s)) given b
  pub dialled : (n at : ℕ) (end : EndId) (link : ℕ) (s : State) (given : Given) (b : Book) → how.at_side s.links link true end → Side n (waiting at (Some end)) s given b →
      Holds n (waiting at (Some end)) s given b → IsHeard Holds n (waiting at None) end (how.hears end (event.Dialled link) s) given b
  pub fails : (n at : ℕ) (end : EndId) (s : State) (b : Book) → Side n (waiting at (Some end)) s [] b → Holds n (waiting at (Some end)) s [] b →
      IsHeard Holds n (waiting at None) end (how.hears end event.DialFailed s) [] b
  pub begins : (n at client : ℕ) (plan : ClientPlan) (s : State) (b : Book) → slice_get s.client_plans client ≡ Some plan → Side n (waiting at None) s [] b →
      Holds n (waiting at None) s [] b → IsHeard Holds n (waiting at None) (Client client) (begun client plan s) [] b
  pub comes : (n : ℕ) (end : EndId) (w : Delivery) (piece : List ℕ) (s : State) (given : Given) (b : Book) → how.at_side s.links w.link w.back end → CameFrom w.source s w piece →
      (Known → AreBytes piece) → Side n (coming w) s given b → Holds n (coming w) s given b →
      let after : State = (done end (how.hears end (event.Bytes w.link piece) s)).state in
      IsHeard Holds n (record (coming w) { to = Some after }) end (how.hears end (event.Bytes w.link piece) s) given (how.notes (Some end) w piece s after b)
  -- the step at bytes is done
  pub reaches : (n : ℕ) (w : Delivery) (s : State) (given : Given) (b : Book) → Side n (record (coming w) { to = Some s }) s given b → Holds n (record (coming w) { to = Some s }) s given b →
      Holds n (coming w) s given b
  -- an action is done: a unit goes into the bag, a dial waits, or a text is kept
  pub acts : (n : ℕ) (p : Progress) (end : EndId) (what : Action) (s : State) (given : Given) (b : Book) → AtWork p.on p.to → Side n (with_rest ((end, what) ∷ []) p) s given b →
      Holds n (with_rest ((end, what) ∷ []) p) s given b → Holds n p (perform_quietly end what s) given b
  -- one thing changes
  pub shuts : (n : ℕ) (p : Progress) (link : ℕ) (s : State) (given : Given) (b : Book) → AtWork p.on p.to → Side n p s given b → Holds n p s given b → Holds n p (shut_link link s) given b
  pub answers : (n at : ℕ) (dial : Option EndId) (link : ℕ) (there : OpenLink) (s : State) (given : Given) (b : Book) → lookup same_number link s.open_links ≡ Some there →
      Side n (waiting at dial) s given b → Holds n (waiting at dial) s given b → Holds n (waiting at dial) (answered_link link there s) given b
  pub forgets : (n at : ℕ) (end : EndId) (s : State) (b : Book) → Side n (waiting at None) s [] b → Holds n (waiting at None) s [] b → Holds n (waiting at None) (forget end s) [] b
  pub settles : (n at : ℕ) (on : Option Delivery) (number : ℕ) (s : State) (b : Book) → Side n (started at on) s [] b → Holds n (started at on) s [] b →
      Holds n (started at on) (settle number s) [] b
  -- the first dial waits no more
  pub dials : (n at : ℕ) (dial : WaitingDial) (s : State) (b : Book) → slice_get s.dials 0 ≡ Some dial → Side n (waiting at None) s [] b → Holds n (waiting at None) s [] b →
      Holds n (waiting at (Some dial.end)) (without_first s) [] b
  pub renews : (n at : ℕ) (end : EndId) (s : State) (b : Book) → Side n (waiting at None) s [] b → Holds n (waiting at None) s [] b → Holds n (waiting at None) (how.renews end (forget end s)) [] b
  -- a member begins to change its secret
  pub changes : (n at member : ℕ) (secret : List ℕ) (s : State) (b : Book) → (Known → IsSecret secret) → Side n (waiting at None) s [] b → Holds n (waiting at None) s [] b →
      IsHeard Holds n (waiting at None) (Member member) (changed member secret s) [] b
  pub ticks : (n at more : ℕ) (s : State) (b : Book) → Side n (waiting at None) s [] b → Holds n (waiting at None) s [] b → Holds n (waiting at None) (tick more s) [] b
  -- the move is over, and what ends gave is written down; whatever comes in the next one
  pub over : (n at : ℕ) (on next : Option Delivery) (s : State) (given : Given) (b : Book) → Side n (started at on) s given b → Holds n (started at on) s given b →
      Holds n (started (at + 1) next) s [] (note_given at given s b)

-- The fact holds on where a station begins, in any world. In a plain one none stands, so that this is no part of
-- `KeepsMovesBy`.
abbrev pub StationsStart : MoveFact → Type 0
StationsStart Holds =
    (n at station : ℕ) (plan : StationPlan) (s : State) (b : Book) → slice_get s.station_plans station ≡ Some plan →
    Holds n (waiting at None) (forget (Station station) s) [] b →
    IsHeard Holds n (waiting at None) (Station station) (station_begun station plan (forget (Station station) s)) [] b

-- `KeepsMovesBy` but for an end that is made anew, where the fact isn't known to hold on.
pub record KeepsCalmMovesBy (how : How) (Known : Type 0) (Side Holds : MoveFact) : Type 0 where
  -- an end takes a step
  pub closes : (n : ℕ) (p : Progress) (end : EndId) (link : ℕ) (s : State) (given : Given) (b : Book) → AtWork p.on p.to → Side n p s given b → Holds n p s given b →
      IsHeard Holds n p end (how.hears end (event.Closed link) s) given b
  -- a link opens, for the dial that is answered, or a stranger's
  pub opens : (n at : ℕ) (dial : Option EndId) (route : Route) (s : State) (given : Given) (b : Book) → dialler_of route ≡ dial → Side n (waiting at dial) s given b → Holds n (waiting at dial) s given b →
      IsHeard Holds n (waiting at dial) (acceptor_of route) (how.hears (acceptor_of route) (event.Opened (length s.links)) (with_link route s)) given b
  pub dialled : (n at : ℕ) (end : EndId) (link : ℕ) (s : State) (given : Given) (b : Book) → how.at_side s.links link true end → Side n (waiting at (Some end)) s given b →
      Holds n (waiting at (Some end)) s given b → IsHeard Holds n (waiting at None) end (how.hears end (event.Dialled link) s) given b
  pub fails : (n at : ℕ) (end : EndId) (s : State) (b : Book) → Side n (waiting at (Some end)) s [] b → Holds n (waiting at (Some end)) s [] b →
      IsHeard Holds n (waiting at None) end (how.hears end event.DialFailed s) [] b
  pub begins : (n at client : ℕ) (plan : ClientPlan) (s : State) (b : Book) → slice_get s.client_plans client ≡ Some plan → Side n (waiting at None) s [] b →
      Holds n (waiting at None) s [] b → IsHeard Holds n (waiting at None) (Client client) (begun client plan s) [] b
  pub comes : (n : ℕ) (end : EndId) (w : Delivery) (piece : List ℕ) (s : State) (given : Given) (b : Book) → how.at_side s.links w.link w.back end → CameFrom w.source s w piece →
      (Known → AreBytes piece) → Side n (coming w) s given b → Holds n (coming w) s given b →
      let after : State = (done end (how.hears end (event.Bytes w.link piece) s)).state in
      IsHeard Holds n (record (coming w) { to = Some after }) end (how.hears end (event.Bytes w.link piece) s) given (how.notes (Some end) w piece s after b)
  -- the step at bytes is done
  pub reaches : (n : ℕ) (w : Delivery) (s : State) (given : Given) (b : Book) → Side n (record (coming w) { to = Some s }) s given b → Holds n (record (coming w) { to = Some s }) s given b →
      Holds n (coming w) s given b
  -- an action is done: a unit goes into the bag, a dial waits, or a text is kept
  pub acts : (n : ℕ) (p : Progress) (end : EndId) (what : Action) (s : State) (given : Given) (b : Book) → AtWork p.on p.to → Side n (with_rest ((end, what) ∷ []) p) s given b →
      Holds n (with_rest ((end, what) ∷ []) p) s given b → Holds n p (perform_quietly end what s) given b
  -- one thing changes
  pub shuts : (n : ℕ) (p : Progress) (link : ℕ) (s : State) (given : Given) (b : Book) → AtWork p.on p.to → Side n p s given b → Holds n p s given b → Holds n p (shut_link link s) given b
  pub answers : (n at : ℕ) (dial : Option EndId) (link : ℕ) (there : OpenLink) (s : State) (given : Given) (b : Book) → lookup same_number link s.open_links ≡ Some there →
      Side n (waiting at dial) s given b → Holds n (waiting at dial) s given b → Holds n (waiting at dial) (answered_link link there s) given b
  pub forgets : (n at : ℕ) (end : EndId) (s : State) (b : Book) → Side n (waiting at None) s [] b → Holds n (waiting at None) s [] b → Holds n (waiting at None) (forget end s) [] b
  pub settles : (n at : ℕ) (on : Option Delivery) (number : ℕ) (s : State) (b : Book) → Side n (started at on) s [] b → Holds n (started at on) s [] b →
      Holds n (started at on) (settle number s) [] b
  -- the first dial waits no more
  pub dials : (n at : ℕ) (dial : WaitingDial) (s : State) (b : Book) → slice_get s.dials 0 ≡ Some dial → Side n (waiting at None) s [] b → Holds n (waiting at None) s [] b →
      Holds n (waiting at (Some dial.end)) (without_first s) [] b
  -- a member begins to change its secret
  pub changes : (n at member : ℕ) (secret : List ℕ) (s : State) (b : Book) → (Known → IsSecret secret) → Side n (waiting at None) s [] b → Holds n (waiting at None) s [] b →
      IsHeard Holds n (waiting at None) (Member member) (changed member secret s) [] b
  pub ticks : (n at more : ℕ) (s : State) (b : Book) → Side n (waiting at None) s [] b → Holds n (waiting at None) s [] b → Holds n (waiting at None) (tick more s) [] b
  -- the move is over, and what ends gave is written down; whatever comes in the next one
  pub over : (n at : ℕ) (on next : Option Delivery) (s : State) (given : Given) (b : Book) → Side n (started at on) s given b → Holds n (started at on) s given b →
      Holds n (started (at + 1) next) s [] (note_given at given s b)

-- `KeepsMovesBy` where controllers ask nobody
abbrev pub KeepsMoves : Type 0 → MoveFact → MoveFact → Type 0
KeepsMoves Known Side Holds = KeepsMovesBy alone Known Side Holds

abbrev pub KeepsCalmMoves : Type 0 → MoveFact → MoveFact → Type 0
KeepsCalmMoves Known Side Holds = KeepsCalmMovesBy alone Known Side Holds

abbrev pub NoSide : MoveFact
NoSide n p s given b = Unit {0}

-- what holds on where an end is made anew too
pub but_renewed : {how : How} {Side : MoveFact} → (Known : Type 0) (Holds : MoveFact) → KeepsMovesBy how Known Side Holds → KeepsCalmMovesBy how Known Side Holds
but_renewed Known Holds keeps = record {
  closes = keeps.closes;
  opens = keeps.opens;
  dialled = keeps.dialled;
  fails = keeps.fails;
  begins = keeps.begins;
  comes = keeps.comes;
  reaches = keeps.reaches;
  acts = keeps.acts;
  shuts = keeps.shuts;
  answers = keeps.answers;
  forgets = keeps.forgets;
  settles = keeps.settles;
  dials = keeps.dials;
  changes = keeps.changes;
  ticks = keeps.ticks;
  over = keeps.over;
}

abbrev pub Both : MoveFact → MoveFact → MoveFact
Both A B n p s given b = A n p s given b × B n p s given b

pub join_calm : {how : How} → (Known : Type 0) (A B : MoveFact) → KeepsCalmMovesBy how Known NoSide A → KeepsCalmMovesBy how Known A B → KeepsCalmMovesBy how Known NoSide (Both A B)
join_calm Known A B one other = record {
  closes = λ n p end link s given b work none holds. (one.closes n p end link s given b work tt holds.0, other.closes n p end link s given b work holds.0 holds.1);
  opens = λ n at dial route s given b out none holds. (one.opens n at dial route s given b out tt holds.0, other.opens n at dial route s given b out holds.0 holds.1);
  dialled = λ n at end link s given b side none holds. (one.dialled n at end link s given b side tt holds.0, other.dialled n at end link s given b side holds.0 holds.1);
  fails = λ n at end s b none holds. (one.fails n at end s b tt holds.0, other.fails n at end s b holds.0 holds.1);
  begins = λ n at client plan s b is none holds. (one.begins n at client plan s b is tt holds.0, other.begins n at client plan s b is holds.0 holds.1);
  comes = λ n end w piece s given b side came bytes none holds.
      (one.comes n end w piece s given b side came bytes tt holds.0, other.comes n end w piece s given b side came bytes holds.0 holds.1);
  reaches = λ n w s given b none holds. (one.reaches n w s given b tt holds.0, other.reaches n w s given b holds.0 holds.1);
  acts = λ n p end what s given b work none holds. (one.acts n p end what s given b work tt holds.0, other.acts n p end what s given b work holds.0 holds.1);
  shuts = λ n p link s given b work none holds. (one.shuts n p link s given b work tt holds.0, other.shuts n p link s given b work holds.0 holds.1);
  answers = λ n at dial link there s given b is none holds. (one.answers n at dial link there s given b is tt holds.0, other.answers n at dial link there s given b is holds.0 holds.1);
  forgets = λ n at end s b none holds. (one.forgets n at end s b tt holds.0, other.forgets n at end s b holds.0 holds.1);
  settles = λ n at on number s b none holds. (one.settles n at on number s b tt holds.0, other.settles n at on number s b holds.0 holds.1);
  dials = λ n at dial s b is none holds. (one.dials n at dial s b is tt holds.0, other.dials n at dial s b is holds.0 holds.1);
  changes = λ n at member secret s b formed none holds. (one.changes n at member secret s b formed tt holds.0, other.changes n at member secret s b formed holds.0 holds.1);
  ticks = λ n at more s b none holds. (one.ticks n at more s b tt holds.0, other.ticks n at more s b holds.0 holds.1);
  over = λ n at on next s given b none holds. (one.over n at on next s given b tt holds.0, other.over n at on next s given b holds.0 holds.1);
}

pub join_moves : {how : How} → (Known : Type 0) (A B : MoveFact) → KeepsMovesBy how Known NoSide A → KeepsMovesBy how Known A B → KeepsMovesBy how Known NoSide (Both A B)
join_moves {how} Known A B one other =
    let calm : KeepsCalmMovesBy how Known NoSide (Both A B) = join_calm Known A B (but_renewed Known A one) (but_renewed Known B other) in
    record {
      closes = calm.closes;
      opens = calm.opens;
      dialled = calm.dialled;
      fails = calm.fails;
      begins = calm.begins;
      comes = calm.comes;
      reaches = calm.reaches;
      acts = calm.acts;
      shuts = calm.shuts;
      answers = calm.answers;
      forgets = calm.forgets;
      settles = calm.settles;
      dials = calm.dials;
      renews = λ n at end s b none holds. (one.renews n at end s b tt holds.0, other.renews n at end s b holds.0 holds.1);
      changes = calm.changes;
      ticks = calm.ticks;
      over = calm.over;
    }

-- what rests on nothing rests on any side fact
pub beside : {how : How} → (Known : Type 0) (Side Holds : MoveFact) → KeepsMovesBy how Known NoSide Holds → KeepsMovesBy how Known Side Holds
beside Known Side Holds keeps = record {
  closes = λ n p end link s given b work side holds. keeps.closes n p end link s given b work tt holds;
  opens = λ n at dial route s given b out side holds. keeps.opens n at dial route s given b out tt holds;
  dialled = λ n at end link s given b here side holds. keeps.dialled n at end link s given b here tt holds;
  fails = λ n at end s b side holds. keeps.fails n at end s b tt holds;
  begins = λ n at client plan s b is side holds. keeps.begins n at client plan s b is tt holds;
  comes = λ n end w piece s given b here came bytes side holds. keeps.comes n end w piece s given b here came bytes tt holds;
  reaches = λ n w s given b side holds. keeps.reaches n w s given b tt holds;
  acts = λ n p end what s given b work side holds. keeps.acts n p end what s given b work tt holds;
  shuts = λ n p link s given b work side holds. keeps.shuts n p link s given b work tt holds;
  answers = λ n at dial link there s given b is side holds. keeps.answers n at dial link there s given b is tt holds;
  forgets = λ n at end s b side holds. keeps.forgets n at end s b tt holds;
  settles = λ n at on number s b side holds. keeps.settles n at on number s b tt holds;
  dials = λ n at dial s b is side holds. keeps.dials n at dial s b is tt holds;
  renews = λ n at end s b side holds. keeps.renews n at end s b tt holds;
  changes = λ n at member secret s b formed side holds. keeps.changes n at member secret s b formed tt holds;
  ticks = λ n at more s b side holds. keeps.ticks n at more s b tt holds;
  over = λ n at on next s given b side holds. keeps.over n at on next s given b tt holds;
}
