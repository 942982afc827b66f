-- What holds through the moves of a world of its ends, its dials, the draws, and the turns that are written down:
-- whatever holds through each step of an end. Of each action it is known that it is done once, and of each answer to a
-- dial that the dial waited. The walk is an instance of `MoveFrameLaws`, whether controllers ask others or not. It
-- serves `Proved.own` and `Proved.one_turn`.
use Rattle.std.proofs.Common.{◌≡◌, ℕ, List, [], ◌∷◌, ◌++◌, length, Option, Some, None, slice_get, sym, subst}
use Rattle.outside.specs.Drawing.{Drawing}
use Rattle.outside.specs.declared.action.Action.{Action}
use Rattle.outside.specs.declared.event.Event.TheVariants as event
use Rattle.logon_client.specs.declared.plan.ClientPlan.{ClientPlan}
use Rattle.member_server.specs.declared.plan.MemberPlan.{MemberPlan}
use Rattle.step_notes.specs.Records.{ChannelTurn}
use Rattle.world_moves.specs.declared.links.EndId.{EndId}
use Rattle.world_moves.specs.declared.links.EndId.TheVariants.{Client, Member}
use Rattle.world_moves.specs.declared.moves.Move.{Move}
use Rattle.world_moves.specs.declared.state.State.{State}
use Rattle.world_moves.specs.declared.state.WaitingDial.{WaitingDial}
use Rattle.world_moves.specs.Acting.{Given, AfterHearing, done, forget, given_by, perform_quietly}
use Rattle.world_moves.specs.Ends.{EndStates}
use Rattle.world_moves.specs.Links.{acceptor_of}
use Rattle.world_moves.specs.Moving.{begun, changed, with_link, without_first}
use Rattle.domain_world.specs.Past.{turns_in, past}
use Rattle.domain_world.proofs.Frames.ByKindLaws.{StepsByKind, every_kinds}
use Rattle.domain_world.proofs.Frames.MoveFrameLaws.{HoldsAfterMoves}
use Rattle.domain_world.proofs.Frames.MoveKeepLaws.{How, KeepsMovesBy, MoveFact, NoSide, every}
use Rattle.domain_world.proofs.Frames.PlainFrameLaws.{moves_keep_plain}
use Rattle.world_moves.specs.declared.plan.Plan.{Plan}
use Rattle.world_moves.specs.Plain.{IsPlainPlan, plain_world}

-- What is to hold: of whose dial is answered, and of what was given and isn't done yet; of the members' plans, the
-- ends, the dials and the draws; and of what was given in this move, and the turns that are written down.
abbrev pub DialFact : Type 1
DialFact = Option EndId → Given → List MemberPlan → EndStates → List WaitingDial → Drawing → Given → List ChannelTurn → Type 0

abbrev pub AtState : DialFact → Option EndId → Given → State → Given → List ChannelTurn → Type 0
AtState Holds d rest s given turns = Holds d rest s.member_plans s.ends s.dials s.chances given turns

-- an end has heard something, and its actions aren't done yet
abbrev pub IsHeard : DialFact → Option EndId → Given → EndId → AfterHearing → Given → List ChannelTurn → Type 0
IsHeard Holds d rest end heard given turns = AtState Holds d (given_by end heard.actions ++ rest) heard.state (given ++ given_by end heard.actions) turns

pub record KeepsDials (how : How) (Holds : DialFact) : Type 0 where
  pub closes : (d : Option EndId) (rest : Given) (end : EndId) (link : ℕ) (s : State) (given : Given) (turns : List ChannelTurn) → AtState Holds d rest s given turns →
      IsHeard Holds d rest end (how.hears end (event.Closed link) s) given turns
  pub opens : (d : Option EndId) (end : EndId) (link : ℕ) (s : State) (given : Given) (turns : List ChannelTurn) → AtState Holds d [] s given turns →
      IsHeard Holds d [] end (how.hears end (event.Opened link) s) given turns
  pub comes : (end : EndId) (link : ℕ) (piece : List ℕ) (s : State) (given : Given) (turns : List ChannelTurn) → AtState Holds None [] s given turns →
      IsHeard Holds None [] end (how.hears end (event.Bytes link piece) s) given turns
  -- the dial of that end is answered, or fails
  pub dialled : (end : EndId) (link : ℕ) (s : State) (given : Given) (turns : List ChannelTurn) → AtState Holds (Some end) [] s given turns →
      IsHeard Holds None [] end (how.hears end (event.Dialled link) s) given turns
  pub fails : (end : EndId) (s : State) (given : Given) (turns : List ChannelTurn) → AtState Holds (Some end) [] s given turns →
      IsHeard Holds None [] end (how.hears end event.DialFailed s) given turns
  pub begins : (client : ℕ) (plan : ClientPlan) (s : State) (turns : List ChannelTurn) → AtState Holds None [] s [] turns → IsHeard Holds None [] (Client client) (begun client plan s) [] turns
  -- an action is done
  pub acts : (d : Option EndId) (rest : Given) (end : EndId) (what : Action) (s : State) (given : Given) (turns : List ChannelTurn) → AtState Holds d ((end, what) ∷ rest) s given turns →
      AtState Holds d rest (perform_quietly end what s) given turns
  -- the first dial waits no more
  pub first : (dial : WaitingDial) (s : State) (turns : List ChannelTurn) → slice_get s.dials 0 ≡ Some dial → AtState Holds None [] s [] turns →
      AtState Holds (Some dial.end) [] (without_first s) [] turns
  pub forgets : (end : EndId) (s : State) (turns : List ChannelTurn) → AtState Holds None [] s [] turns → AtState Holds None [] (forget end s) [] turns
  pub renews : (end : EndId) (s : State) (turns : List ChannelTurn) → AtState Holds None [] s [] turns → AtState Holds None [] (how.renews end (forget end s)) [] turns
  -- a member begins to change its secret
  pub changes : (at : ℕ) (secret : List ℕ) (s : State) (turns : List ChannelTurn) → AtState Holds None [] s [] turns → IsHeard Holds None [] (Member at) (changed at secret s) [] turns
  -- the move is over
  pub over : (s : State) (given : Given) (turns : List ChannelTurn) → AtState Holds None [] s given turns → AtState Holds None [] s [] (turns ++ turns_in given s)

-- ---- a run

abbrev pub OfDials : DialFact → MoveFact
OfDials Holds n p s given b = AtState Holds p.dial p.rest s given b.turns

pub dials_keep : (how : How) → StepsByKind how → (Holds : DialFact) → KeepsDials how Holds → (Known : Type 0) → KeepsMovesBy how Known NoSide (OfDials Holds)
dials_keep how kinds Holds keeps Known = record {
  closes = λ n p end link s given b work none holds. keeps.closes p.dial p.rest end link s given b.turns holds;
  opens = λ n at dial route s given b out none holds. keeps.opens dial (acceptor_of route) (length s.links) (with_link route s) given b.turns holds;
  dialled = λ n at end link s given b side none holds. keeps.dialled end link s given b.turns holds;
  fails = λ n at end s b none holds. keeps.fails end s [] b.turns holds;
  begins = λ n at client plan s b is none holds. keeps.begins client plan s b.turns holds;
  comes = λ n end w piece s given b side came bytes none holds.
      subst (λ (turns : List ChannelTurn). IsHeard Holds None [] end (how.hears end (event.Bytes w.link piece) s) given turns)
      (sym (kinds.turns end w piece s (done end (how.hears end (event.Bytes w.link piece) s)).state b)) (keeps.comes end w.link piece s given b.turns holds);
  reaches = λ n w s given b none holds. holds;
  acts = λ n p end what s given b work none holds. keeps.acts p.dial p.rest end what s given b.turns holds;
  shuts = λ n p link s given b work none holds. holds;
  answers = λ n at dial link there s given b is none holds. holds;
  forgets = λ n at end s b none holds. keeps.forgets end s b.turns holds;
  settles = λ n at on number s b none holds. holds;
  dials = λ n at dial s b is none holds. keeps.first dial s b.turns is holds;
  renews = λ n at end s b none holds. keeps.renews end s b.turns holds;
  changes = λ n at member secret s b formed none holds. keeps.changes member secret s b.turns holds;
  ticks = λ n at more s b none holds. holds;
  over = λ n at on next s given b none holds. keeps.over s given b.turns holds;
}

-- what holds at first and through each step holds after every run of a plain plan
pub dials_after : (Holds : DialFact) → KeepsDials every Holds → (plan : Plan) (moves : List Move) → IsPlainPlan plan → AtState Holds None [] (plain_world plan).state [] [] →
    AtState Holds None [] (past plan moves).world.state [] (past plan moves).book.turns
dials_after Holds keeps plan moves nothing holds =
    let after : HoldsAfterMoves ⊥ (OfDials Holds) plan moves =
    moves_keep_plain ⊥ (OfDials Holds) (dials_keep every every_kinds Holds keeps ⊥) plan moves nothing (λ none. absurd none) (λ on. holds) in after.holds
