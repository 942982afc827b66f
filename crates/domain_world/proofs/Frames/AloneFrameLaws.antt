-- A plain world whose controllers ask nobody, through its moves: no controller dials, so that no
-- link is between controllers, and each end hears as it does alone. So whatever is shown of ends that hear alone holds
-- of every run of a plain plan that hands nothing on. It serves `drive` and
-- the other laws of every such run.
use Rattle.std.proofs.Common.{◌≡◌, ℕ, Bool, true, List, [], ◌∷◌, ◌++◌, drop, length, inl, inr, Option, Some, None, Result, Ok, Err, slice_get, refl, sym, subst}
use Rattle.std.specs.Prelude.{filter}
use Rattle.std.specs.List.{AllByRecursion}
use Rattle.std.proofs.lemmas.Bool.{cases_Bool}
use Rattle.wire_base.specs.Maps.{lookup, same_number}
use Rattle.outside.specs.declared.action.Action.{Action}
use Rattle.outside.specs.declared.action.Action.TheVariants as action
use Rattle.outside.specs.declared.action.StepRefused.{StepRefused}
use Rattle.outside.specs.declared.event.Event.{Event}
use Rattle.outside.specs.declared.event.Event.TheVariants as event
use Rattle.rpc_units.specs.Stream.{cut_stream}
use Rattle.end_links.specs.Links.{LinkState}
use Rattle.end_loop.specs.Runs.{taken_actions}
use Rattle.domain_controller.specs.Laws.{IsActionOn}
use Rattle.domain_controller.specs.State.{State as ControllerState}
use Rattle.domain_controller.specs.Step.{step_of, step_on}
use Rattle.domain_controller.specs.declared.state.Running.{Running}
use Rattle.domain_controller.specs.declared.state.Talk.{Talk}
use Rattle.domain_controller.proofs.SendLaws.{answers_units}
use Rattle.step_notes.specs.Records.{Book, blank}
use Rattle.world_moves.specs.declared.links.EndId.{EndId}
use Rattle.world_moves.specs.declared.links.EndId.TheVariants.{Controller, Member, Client, Station}
use Rattle.world_moves.specs.declared.links.Route.{Route}
use Rattle.world_moves.specs.declared.links.Route.TheVariants.{ToMember, ToController, Between, Stranger, FromStation}
use Rattle.world_moves.specs.declared.moves.Move.{Move}
use Rattle.world_moves.specs.declared.plan.Plan.{Plan}
use Rattle.world_moves.specs.declared.state.State.{State}
use Rattle.world_moves.specs.declared.state.WaitingDial.{WaitingDial}
use Rattle.world_moves.specs.Acting.{Given, AfterHearing, dials_of_action, done, forget, given_by, is_of_other}
use Rattle.world_moves.specs.Alone.{AsksNobody, IsPlainAlone, hear_alone}
use Rattle.world_moves.specs.Ends.{EndStep, actions_by}
use Rattle.world_moves.specs.Links.{acceptor_of, dialler_of}
use Rattle.world_moves.specs.Moving.{begun, changed, with_link}
use Rattle.world_moves.specs.Plain.{IsPlain, hear_plain as hear, plain_world}
use Rattle.world_moves.specs.World.{World, first_world, happens, run}
use Rattle.domain_world.specs.Past.{Delivery, book, past}
use Rattle.wire_base.proofs.ListLaws.{all_weaker, at_end, got_nothing}
use Rattle.world_moves.proofs.AloneLaws.{alone_first, change_asks, first_alone, hears_asks, plainly_alone as hears_so_alone, renew_asks}
use Rattle.world_moves.proofs.PlainLaws.{first_plain, moved_plain}
use Rattle.domain_world.proofs.Frames.AloneNoteLaws.{note_alone, notes_alone}
use Rattle.domain_world.proofs.Frames.AloneStepLaws.{alone_by, renews_alone}
use Rattle.domain_world.proofs.Frames.MoveFrameLaws.{HoldsAfterMoves, placed_next}
use Rattle.domain_world.proofs.Frames.MoveKeepLaws.{Both, IsHeard, KeepsCalmMoves, KeepsCalmMovesBy, KeepsMoves, KeepsMovesBy, MoveFact, NoSide, Progress, but_renewed, coming, every, join_moves, started, waiting, with_rest}
use Rattle.domain_world.proofs.Frames.PlainFrameLaws.{later_keeps_plain, moves_carry_plain, moves_keep_plain}
use Rattle.domain_world.proofs.Moves.NoBytesLaws.{IsBeside, IsNoBytes, does_nothing_else}
use Rattle.domain_world.proofs.Moves.OpenMadeLaws.{IsApart, IsAtSide, IsOnSide}
use Rattle.domain_world.proofs.Moves.PlacedLaws.{HandsBytes, HasBytes, IsBytesBag, IsPlaced, placed_first}

-- ---- a world whose controllers ask nobody, and in which none dials

abbrev pub IsOther : EndId → Type 0
IsOther (Controller at) = ⊥
IsOther (Member at) = Unit {0}
IsOther (Client at) = Unit {0}
IsOther (Station at) = ⊥

-- dials of members and clients
abbrev pub AreOfOthers : List WaitingDial → Type 0
AreOfOthers dials = AllByRecursion (λ (dial : WaitingDial). IsOther dial.end) dials

-- no controller dials by what was given
abbrev DialsAreOthers : Given → Type 0
DialsAreOthers given = AllByRecursion (λ (one : EndId × Action). AreOfOthers (dials_of_action one.0 one.1)) given

abbrev pub AreApart : List Route → Type 0
AreApart links = (number : ℕ) (route : Route) → slice_get links number ≡ Some route → IsApart route

pub record IsAlone (s : State) : Type 0 where
  pub asks : AsksNobody s
  pub dials : AreOfOthers s.dials
  pub links : AreApart s.links

-- the end whose dial is answered, if one is
abbrev IsOthersDial : Option EndId → Type 0
IsOthersDial None = Unit {0}
IsOthersDial (Some end) = IsOther end

-- a world is alone while a move is under way
record GoesAlone (p : Progress) (s : State) : Type 0 where
  state : IsAlone s
  dial : IsOthersDial p.dial
  rest : DialsAreOthers p.rest

abbrev AloneFact : MoveFact
AloneFact n p s given b = GoesAlone p s

-- ---- what ends do

others_dial : (end : EndId) (what : Action) → IsOther end → AreOfOthers (dials_of_action end what)
others_dial end (action.Dial peer) is = (is, tt)
others_dial end (action.Keep bytes) is = tt
others_dial end (action.Send link bytes) is = tt
others_dial end (action.Close link cause) is = tt
others_dial end (action.Told link outcome) is = tt
others_dial end (action.Judged how) is = tt

others_do : (end : EndId) (actions : List Action) → IsOther end → DialsAreOthers (given_by end actions)
others_do end [] is = tt
others_do end (what ∷ actions) is = (others_dial end what is, others_do end actions is)

-- an action of a controller that dials nobody
abbrev IsNoDial : Action → Type 0
IsNoDial what = (end : EndId) → dials_of_action end what ≡ []

none_dials : (end : EndId) (actions : List Action) → AllByRecursion IsNoDial actions → DialsAreOthers (given_by end actions)
none_dials end [] all = tt
none_dials end (what ∷ actions) all = (subst AreOfOthers (sym (all.0 end)) tt, none_dials end actions all.1)

beside_dials : (what : Action) → IsBeside what → IsNoDial what
beside_dials (action.Close link cause) is = λ end. refl
beside_dials (action.Keep bytes) is = absurd is
beside_dials (action.Send link bytes) is = absurd is
beside_dials (action.Dial peer) is = absurd is
beside_dials (action.Told link outcome) is = absurd is
beside_dials (action.Judged how) is = absurd is

on_dials : (link : ℕ) (units : List (List ℕ)) (what : Action) → IsActionOn link units what → IsNoDial what
on_dials link units (action.Close other cause) is = λ end. refl
on_dials link units (action.Keep bytes) is = λ end. refl
on_dials link units (action.Send other bytes) is = λ end. refl
on_dials link units (action.Judged how) is = λ end. refl
on_dials link units (action.Dial peer) is = absurd is
on_dials link units (action.Told other outcome) is = absurd is

abbrev NoneDials : ControllerState → Event → ℕ → List (List ℕ) → Type 0
NoneDials c what now left = AllByRecursion IsNoDial (actions_by (step_of c what now left).answer)

taken : (answer : Result (List Action) StepRefused) → AllByRecursion IsNoDial (taken_actions answer) → AllByRecursion IsNoDial (actions_by answer)
taken (Ok actions) all = all
taken (Err why) all = tt

bytes_found : (found : Option (LinkState Talk)) (running : Running) (c : ControllerState) (link : ℕ) (piece : List ℕ) (now : ℕ) (left : List (List ℕ)) → c.running ≡ Some running →
    lookup same_number link running.links ≡ found → NoneDials c (event.Bytes link piece) now left
bytes_found None running c link piece now left is none =
    taken (step_of c (event.Bytes link piece) now left).answer (subst (λ (actions : List Action). AllByRecursion IsNoDial actions) (sym (answers_units.other c running link piece now left is none)) tt)
bytes_found (Some there) running c link piece now left is found =
    taken (step_of c (event.Bytes link piece) now left).answer
    (all_weaker (IsActionOn link (cut_stream (there.rest ++ piece)).units) IsNoDial _ (on_dials link (cut_stream (there.rest ++ piece)).units)
    (answers_units.bytes c running link there piece now left is found))

bytes_dial : (running : Option Running) (c : ControllerState) (link : ℕ) (piece : List ℕ) (now : ℕ) (left : List (List ℕ)) → c.running ≡ running → NoneDials c (event.Bytes link piece) now left
bytes_dial None c link piece now left is =
    subst (λ (r : Option Running). AllByRecursion IsNoDial (actions_by (step_on r c (event.Bytes link piece) now left).answer)) (sym is) tt
bytes_dial (Some running) c link piece now left is = bytes_found (lookup same_number link running.links) running c link piece now left is refl

beside_dial : (c : ControllerState) (what : Event) (now : ℕ) (left : List (List ℕ)) → IsNoBytes what → NoneDials c what now left
beside_dial c what now left none = all_weaker IsBeside IsNoDial _ beside_dials (does_nothing_else c what now left none).acts

controller_dials : (c : ControllerState) (what : Event) (now : ℕ) (left : List (List ℕ)) → NoneDials c what now left
controller_dials c (event.Bytes link piece) now left = bytes_dial c.running c link piece now left refl
controller_dials c (event.Opened link) now left = beside_dial c (event.Opened link) now left tt
controller_dials c (event.Closed link) now left = beside_dial c (event.Closed link) now left tt
controller_dials c (event.Dialled link) now left = beside_dial c (event.Dialled link) now left tt
controller_dials c event.DialFailed now left = beside_dial c event.DialFailed now left tt
controller_dials c event.Stop now left = beside_dial c event.Stop now left tt

alone_dials : (end : EndId) (what : Event) (s : State) → DialsAreOthers (given_by end (hear_alone end what s).actions)
alone_dials end what s =
    alone_by (λ (one : EndId) (step : EndStep). DialsAreOthers (given_by one step.actions)) what s.moment s.ends s.chances (λ one. tt)
    (λ at c is. none_dials (Controller at) _ (controller_dials c what s.moment s.chances.left)) (λ at m is. others_do (Member at) _ tt) (λ at c is. others_do (Client at) _ tt) end

-- ---- a world that is alone stays alone

both_behind : (given rest : Given) → DialsAreOthers given → DialsAreOthers rest → DialsAreOthers (given ++ rest)
both_behind [] rest one other = other
both_behind (first ∷ given) rest one other = (one.0, both_behind given rest one.1 other)

dials_behind : (dials more : List WaitingDial) → AreOfOthers dials → AreOfOthers more → AreOfOthers (dials ++ more)
dials_behind [] more all others = others
dials_behind (dial ∷ dials) more all others = (all.0, dials_behind dials more all.1 others)

dials_left : (keep : WaitingDial → Bool) (dials : List WaitingDial) → AreOfOthers dials → AreOfOthers (filter keep dials)
dials_left keep [] all = tt
dials_left keep (dial ∷ dials) all = elim (cases_Bool (keep dial)) [ inl kept ↦ rw kept (all.0, dials_left keep dials all.1) | inr gone ↦ rw gone (dials_left keep dials all.1) ]

dials_later : (dials : List WaitingDial) → AreOfOthers dials → AreOfOthers (drop 1 dials)
dials_later [] all = tt
dials_later (dial ∷ dials) all = all.1

first_others : (dials : List WaitingDial) (dial : WaitingDial) → slice_get dials 0 ≡ Some dial → AreOfOthers dials → IsOther dial.end
first_others [] dial is all = absurd (got_nothing 0 dial is)
first_others (first ∷ dials) dial is all = let same : first ≡ dial = cc in subst (λ (one : WaitingDial). IsOther one.end) same all.0

-- a link that is dialled by no controller, or a stranger's
apart_by : (route : Route) (dial : Option EndId) → dialler_of route ≡ dial → IsOthersDial dial → IsApart route
apart_by (ToMember client member) dial is other = tt
apart_by (ToController member controller) dial is other = tt
apart_by (Between from to) dial is other = subst IsOthersDial (sym is) other
apart_by (FromStation station controller) dial is other = subst IsOthersDial (sym is) other
apart_by (Stranger to) dial is other = tt

more_apart : (links : List Route) (route : Route) → AreApart links → IsApart route → AreApart (links ++ route ∷ [])
more_apart links route all new number one there =
    elim (at_end links route one number there) [ inl old ↦ all number one old | inr last ↦ subst IsApart last.1 new ]

-- an end has heard something
heard_alone : (p : Progress) (end : EndId) (what : Event) (s : State) → GoesAlone p s → GoesAlone (with_rest (given_by end (hear end what s).actions) p) (hear end what s).state
heard_alone p end what s goes = record {
  state = record { asks = hears_asks end what s goes.state.asks; dials = goes.state.dials; links = goes.state.links };
  dial = goes.dial;
  rest = both_behind (given_by end (hear end what s).actions) p.rest
      (subst (λ (heard : AfterHearing). DialsAreOthers (given_by end heard.actions)) (sym (hears_so_alone end what s goes.state.asks)) (alone_dials end what s)) goes.rest;
}

alone_keeps : (Known : Type 0) → KeepsMovesBy every Known NoSide AloneFact
alone_keeps Known = record {
  closes = λ n p end link s given b work none goes. heard_alone p end (event.Closed link) s goes;
  opens = λ n at dial route s given b out none goes.
      heard_alone (waiting at dial) (acceptor_of route) (event.Opened (length s.links)) (with_link route s)
      (record {
        state = record { asks = goes.state.asks; dials = goes.state.dials; links = more_apart s.links route goes.state.links (apart_by route dial out goes.dial) };
        dial = goes.dial;
        rest = goes.rest;
      });
  dialled = λ n at end link s given b side none goes. heard_alone (waiting at None) end (event.Dialled link) s (record { state = goes.state; dial = tt; rest = tt });
  fails = λ n at end s b none goes. heard_alone (waiting at None) end event.DialFailed s (record { state = goes.state; dial = tt; rest = tt });
  begins = λ n at client plan s b is none goes. record {
    state = record { asks = goes.state.asks; dials = goes.state.dials; links = goes.state.links };
    dial = tt;
    rest = both_behind (given_by (Client client) (begun client plan s).actions) [] (others_do (Client client) (begun client plan s).actions tt) tt;
  };
  comes = λ n end w piece s given b side came bytes none goes.
      heard_alone (record (coming w) { to = Some (done end (hear end (event.Bytes w.link piece) s)).state }) end (event.Bytes w.link piece) s
      (record { state = goes.state; dial = tt; rest = tt });
  reaches = λ n w s given b none goes. record { state = goes.state; dial = tt; rest = tt };
  acts = λ n p end what s given b work none goes. record {
    state = record { asks = goes.state.asks; dials = dials_behind s.dials (dials_of_action end what) goes.state.dials goes.rest.0; links = goes.state.links };
    dial = goes.dial;
    rest = goes.rest.1;
  };
  shuts = λ n p link s given b work none goes. record {
    state = record { asks = goes.state.asks; dials = goes.state.dials; links = goes.state.links };
    dial = goes.dial;
    rest = goes.rest;
  };
  answers = λ n at dial link there s given b is none goes. record {
    state = record { asks = goes.state.asks; dials = goes.state.dials; links = goes.state.links };
    dial = goes.dial;
    rest = tt;
  };
  forgets = λ n at end s b none goes. record {
    state = record { asks = goes.state.asks; dials = dials_left (is_of_other end) s.dials goes.state.dials; links = goes.state.links };
    dial = tt;
    rest = tt;
  };
  settles = λ n at on number s b none goes. record {
    state = record { asks = goes.state.asks; dials = goes.state.dials; links = goes.state.links };
    dial = tt;
    rest = tt;
  };
  dials = λ n at dial s b is none goes. record {
    state = record { asks = goes.state.asks; dials = dials_later s.dials goes.state.dials; links = goes.state.links };
    dial = first_others s.dials dial is goes.state.dials;
    rest = tt;
  };
  renews = λ n at end s b none goes. record {
    state = record {
      asks = renew_asks end (forget end s) goes.state.asks;
      dials = dials_left (is_of_other end) s.dials goes.state.dials;
      links = goes.state.links;
    };
    dial = tt;
    rest = tt;
  };
  changes = λ n at member secret s b formed none goes. record {
    state = record { asks = change_asks member secret s goes.state.asks; dials = goes.state.dials; links = goes.state.links };
    dial = tt;
    rest = both_behind (given_by (Member member) (changed member secret s).actions) [] (others_do (Member member) (changed member secret s).actions tt) tt;
  };
  ticks = λ n at more s b none goes. record {
    state = record { asks = goes.state.asks; dials = goes.state.dials; links = goes.state.links };
    dial = tt;
    rest = tt;
  };
  over = λ n at on next s given b none goes. record { state = goes.state; dial = tt; rest = tt };
}

-- ---- what is shown of ends that hear alone holds there

at_side : (s : State) (link : ℕ) (back : Bool) (end : EndId) → AreApart s.links → IsOnSide s.links link back end → IsAtSide s.links link back end
at_side s link back end apart on = record { route = on.route; made = on.made; side = on.side; apart = apart link on.route on.made }

module _ (Known : Type 0) (Holds : MoveFact) where
  -- an end has heard so
  hears_as_alone : (n : ℕ) (p : Progress) (end : EndId) (what : Event) (s : State) (given : Given) (b : Book) → AsksNobody s →
      IsHeard Holds n p end (hear_alone end what s) given b → IsHeard Holds n p end (hear end what s) given b
  hears_as_alone n p end what s given b asks holds = subst (λ (heard : AfterHearing). IsHeard Holds n p end heard given b) (sym (hears_so_alone end what s asks)) holds

  calm_alone : KeepsCalmMoves Known NoSide Holds → KeepsCalmMovesBy every Known AloneFact Holds
  calm_alone keeps = record {
    closes = λ n p end link s given b work goes holds. hears_as_alone n p end (event.Closed link) s given b goes.state.asks (keeps.closes n p end link s given b work tt holds);
    opens = λ n at dial route s given b out goes holds.
        hears_as_alone n (waiting at dial) (acceptor_of route) (event.Opened (length s.links)) (with_link route s) given b goes.state.asks
        (keeps.opens n at dial route s given b out tt holds);
    dialled = λ n at end link s given b side goes holds.
        hears_as_alone n (waiting at None) end (event.Dialled link) s given b goes.state.asks
        (keeps.dialled n at end link s given b (at_side s link true end goes.state.links side) tt holds);
    fails = λ n at end s b goes holds. hears_as_alone n (waiting at None) end event.DialFailed s [] b goes.state.asks (keeps.fails n at end s b tt holds);
    begins = λ n at client plan s b is goes holds. keeps.begins n at client plan s b is tt holds;
    comes = λ n end w piece s given b side came bytes goes holds.
        let what : Event = event.Bytes w.link piece in
        let after : State = (done end (hear end what s)).state in
        subst (λ (now : Book). IsHeard Holds n (record (coming w) { to = Some after }) end (hear end what s) given now) (sym (notes_alone end w piece s after b goes.state.asks))
        (subst (λ (heard : AfterHearing). IsHeard Holds n (record (coming w) { to = Some (done end heard).state }) end heard given (note_alone (Some end) w piece s (done end heard).state b))
        (sym (hears_so_alone end what s goes.state.asks))
        (keeps.comes n end w piece s given b (at_side s w.link w.back end goes.state.links side) came bytes tt holds));
    reaches = λ n w s given b goes holds. keeps.reaches n w s given b tt holds;
    acts = λ n p end what s given b work goes holds. keeps.acts n p end what s given b work tt holds;
    shuts = λ n p link s given b work goes holds. keeps.shuts n p link s given b work tt holds;
    answers = λ n at dial link there s given b is goes holds. keeps.answers n at dial link there s given b is tt holds;
    forgets = λ n at end s b goes holds. keeps.forgets n at end s b tt holds;
    settles = λ n at on number s b goes holds. keeps.settles n at on number s b tt holds;
    dials = λ n at dial s b is goes holds. keeps.dials n at dial s b is tt holds;
    changes = λ n at member secret s b formed goes holds. keeps.changes n at member secret s b formed tt holds;
    ticks = λ n at more s b goes holds. keeps.ticks n at more s b tt holds;
    over = λ n at on next s given b goes holds. keeps.over n at on next s given b tt holds;
  }

  moves_as_alone : KeepsMoves Known NoSide Holds → KeepsMovesBy every Known AloneFact Holds
  moves_as_alone keeps =
      let calm : KeepsCalmMovesBy every Known AloneFact Holds = calm_alone (but_renewed Known Holds keeps) in
      record {
        closes = calm.closes;
        opens = calm.opens;
        dialled = calm.dialled;
        fails = calm.fails;
        begins = calm.begins;
        comes = calm.comes;
        reaches = calm.reaches;
        acts = calm.acts;
        shuts = calm.shuts;
        answers = calm.answers;
        forgets = calm.forgets;
        settles = calm.settles;
        dials = calm.dials;
        renews = λ n at end s b goes holds.
            subst (λ (after : State). Holds n (waiting at None) after [] b) (sym (renews_alone end (forget end s) goes.state.asks)) (keeps.renews n at end s b tt holds);
        changes = calm.changes;
        ticks = calm.ticks;
        over = calm.over;
      }

  both_keep : KeepsMoves Known NoSide Holds → KeepsMovesBy every Known NoSide (Both AloneFact Holds)
  both_keep keeps = join_moves Known AloneFact Holds (alone_keeps Known) (moves_as_alone keeps)

-- ---- a run of a plan that hands nothing on

first_is_alone : (plan : Plan) → IsPlainAlone plan → IsAlone (plain_world plan).state
first_is_alone plan nobody = record { asks = alone_first plan nobody; dials = tt; links = λ number route there. absurd (got_nothing number route there) }

starts_alone : (at : ℕ) (on : Option Delivery) (s : State) → IsAlone s → GoesAlone (started at on) s
starts_alone at on s is = record { state = is; dial = tt; rest = tt }

pub moves_keep_alone : (Known : Type 0) (Holds : MoveFact) → KeepsMoves Known NoSide Holds → (plan : Plan) (moves : List Move) → IsPlainAlone plan → (Known → HasBytes plan moves) →
    ((on : Option Delivery) → Holds 0 (started 0 on) (plain_world plan).state [] blank) → HoldsAfterMoves Known Holds plan moves
moves_keep_alone Known Holds keeps plan moves nobody has holds =
    let after : HoldsAfterMoves Known (Both AloneFact Holds) plan moves =
    moves_keep_plain Known (Both AloneFact Holds) (both_keep Known Holds keeps) plan moves nobody.plain has (λ on. (starts_alone 0 on (plain_world plan).state (first_is_alone plan nobody), holds on)) in
    record { steps = after.steps; holds = after.holds.1; few = after.few }

-- nobody is asked after any run of it
pub asks_nobody : (plan : Plan) (moves : List Move) → IsPlainAlone plan → AsksNobody (past plan moves).world.state
asks_nobody plan moves nobody =
    let after : HoldsAfterMoves ⊥ AloneFact plan moves =
    moves_keep_plain ⊥ AloneFact (alone_keeps ⊥) plan moves nobody.plain (λ none. absurd none) (λ on. starts_alone 0 on (plain_world plan).state (first_is_alone plan nobody)) in
    after.holds.state.asks

-- a fact that says of the bag that its units are bytes is kept where what is handed in are bytes
pub moves_carry_alone : (Holds : MoveFact) → KeepsMoves (Unit {0}) NoSide Holds → ((n at : ℕ) (s : State) (b : Book) → Holds n (started at None) s [] b → IsBytesBag s.bag) →
    (plan : Plan) (moves : List Move) → IsPlainAlone plan → AllByRecursion HandsBytes moves → ((on : Option Delivery) → Holds 0 (started 0 on) (plain_world plan).state [] blank) →
    HoldsAfterMoves (Unit {0}) Holds plan moves
moves_carry_alone Holds keeps says plan moves nobody handed holds =
    let after : HoldsAfterMoves (Unit {0}) (Both AloneFact Holds) plan moves =
    moves_carry_plain (Both AloneFact Holds) (both_keep (Unit {0}) Holds keeps) (λ n at s b both. says n at s b both.1) plan moves nobody.plain handed
    (λ on. (starts_alone 0 on (plain_world plan).state (first_is_alone plan nobody), holds on)) in
    record { steps = after.steps; holds = after.holds.1; few = after.few }

-- ---- from any such world on

-- links and units have their places there besides
pub record StandsAlone (s : State) : Type 0 where
  pub placed : IsPlaced s
  pub plain : IsPlain s
  pub alone : IsAlone s

pub stands_first : (plan : Plan) → IsPlainAlone plan → StandsAlone (first_world plan).state
stands_first plan nobody = record {
  placed = placed_first plan;
  plain = first_plain plan nobody.plain;
  alone = record { asks = first_alone plan nobody; dials = tt; links = λ number route there. absurd (got_nothing number route there) };
}

pub later_keeps_alone : (Holds : MoveFact) → KeepsMoves ⊥ NoSide Holds → (moves : List Move) (w : World) (b : Book) → StandsAlone w.state →
    ((on : Option Delivery) → Holds 0 (started w.moves on) w.state [] b) → (n : ℕ) × Holds n (started (run moves w).moves None) (run moves w).state [] (book moves w b)
later_keeps_alone Holds keeps moves w b stands holds =
    let later = later_keeps_plain (Both AloneFact Holds) (both_keep ⊥ Holds keeps) moves w b stands.placed stands.plain (λ on. (starts_alone w.moves on w.state stands.alone, holds on)) in
    (later.0, later.1.1)

-- a world in which nobody asks another controller is one after each move
pub stands_next : (what : Move) (w : World) (b : Book) → StandsAlone w.state → StandsAlone (happens w what).state
stands_next what w b stands = record {
  placed = placed_next what w b stands.placed;
  plain = moved_plain what w.state stands.plain;
  alone = (later_keeps_plain AloneFact (alone_keeps ⊥) (what ∷ []) w b stands.placed stands.plain (λ on. starts_alone w.moves on w.state stands.alone)).1.state;
}
