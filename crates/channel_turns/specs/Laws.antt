-- What holds of the turns of a channel, whatever end they are of, and whatever comes (how turns follow one another is
-- this project's own choice).
use Rattle.std.specs.Prelude.{ℕ, ◌≡◌, Bool, true, false, List, [], ◌∷◌, ◌++◌, replicate, Option, Some, None, is_some, Ok, Err}
use Rattle.std.specs.List.{AllByRecursion}
use Rattle.outside.specs.declared.action.Action.{Action}
use Rattle.outside.specs.declared.action.Action.TheVariants as action
use Rattle.outside.specs.declared.action.DropCause.{DropCause}
use Rattle.outside.specs.declared.action.StepRefused.TheVariants as refused
use Rattle.rpc_units.specs.declared.refused.UnitRefused.{UnitRefused}
use Rattle.rpc_units.specs.declared.unit.Unit.{Unit as RpcUnit}
use Rattle.rpc_units.specs.Calls.{IsHeard}
use Rattle.rpc_units.specs.Reading.{unit_of}
use Rattle.rpc_units.specs.Stream.{Cut, cut_stream}
use Rattle.end_links.specs.Serving.{served_cut}
use Rattle.end_links.specs.Whole.{IsWholeSend}
use Rattle.channel_client.specs.Machine.{can_start, lose_of, needs_challenge, start_of, take_of}
use Rattle.channel_client.specs.State.{Requester}
use Rattle.channel_client.specs.Turns.{gives_right, is_out}
use Rattle.channel_client.specs.Whole.{InRangeRequester}
use Rattle.channel_turns.specs.declared.hearing.Heard.{Heard}
use Rattle.channel_turns.specs.declared.hearing.Heard.TheVariants as heard
use Rattle.channel_turns.specs.declared.state.TurnTalk.{TurnTalk}
use Rattle.channel_turns.specs.declared.state.TurnWork.{TurnWork}
use Rattle.channel_turns.specs.Dials.{lose_turn, next_turn}
use Rattle.channel_turns.specs.Hearing.{heard_of}
use Rattle.channel_turns.specs.Turns.{TurnServed, take_by, turn_served, turn_server, turn_talk}
use Rattle.authenticators.specs.Timestamps.{timestamp_of}

-- ---- a piece ends one turn at most

-- how the turn ended is told exactly where its link doesn't stay open; of a piece before which none had ended
abbrev pub EndsOnce : TurnServed → Type 0
EndsOnce (at, None) = is_some at.ended ≡ true
EndsOnce (at, Some talk) = at.ended ≡ None

pub record TurnsEndOnce : Type 0 where
  -- a unit that is served by the words for any end's units comes to the same, and no challenge is drawn
  pub part : (cut : Cut) (at : TurnWork) (talk : TurnTalk) (left : List (List ℕ)) →
      served_cut turn_server cut at talk left ≡ Ok (record { value = turn_served cut at talk; left = left })
  -- a turn that hasn't ended before ends at the unit that closes the link, or the link stays open
  pub once : (cut : Cut) (at : TurnWork) (talk : TurnTalk) → at.ended ≡ None → EndsOnce (turn_served cut at talk)
  -- a turn is out exactly while its link stays open
  pub out : (cut : Cut) (at : TurnWork) (talk : TurnTalk) → is_out at.channel ≡ true →
      is_out (turn_served cut at talk).0.channel ≡ is_some (turn_served cut at talk).1
  -- one that is lost is out no more
  pub lost : (cause : DropCause) (channel : Requester) → is_out (lose_turn cause channel).0 ≡ false

-- ---- what becomes of the channel

abbrev pub then_heard : Heard → (Option RpcUnit → List RpcUnit) → List RpcUnit
then_heard (heard.Waits joiner) later = later joiner
then_heard (heard.Whole unit joiner) later = unit ∷ later joiner
then_heard (heard.Broken cause) later = []

-- the whole units that the units on a link make, behind what is open; behind one that is refused nothing is heard
abbrev pub whole_units : List (List ℕ) → Option RpcUnit → List RpcUnit
whole_units [] joiner = []
whole_units (bytes ∷ units) joiner = then_heard (heard_of (unit_of bytes) joiner) (λ after. whole_units units after)

abbrev pub or_broken : Heard → (Option RpcUnit → Bool) → Bool
or_broken (heard.Waits joiner) later = later joiner
or_broken (heard.Whole unit joiner) later = later joiner
or_broken (heard.Broken cause) later = true

-- whether one of the units on a link is refused, or the rest of its stream
abbrev pub is_refused : List (List ℕ) → Option UnitRefused → Option RpcUnit → Bool
is_refused [] None joiner = false
is_refused [] (Some why) joiner = true
is_refused (bytes ∷ units) why joiner = or_broken (heard_of (unit_of bytes) joiner) (λ after. is_refused units why after)

abbrev pub while_out : (turn_out : Bool) → Requester → (Requester → Requester) → Requester
while_out false c later = c
while_out true c later = later c

-- the channel takes whole units in order, up to the first that ends its turn; where none does, and something is
-- refused behind them, the turn is lost
abbrev pub taken_in_order : List RpcUnit → (refused : Bool) → Requester → Requester
taken_in_order [] false c = c
taken_in_order [] true c = (lose_of c).state
taken_in_order (unit ∷ units) refused c =
    while_out (gives_right (take_of c unit).taken) (take_of c unit).state (λ after. taken_in_order units refused after)

pub record TurnsStepTheChannel : Type 0 where
  -- exactly this becomes of the channel
  pub takes : (cut : Cut) (at : TurnWork) (talk : TurnTalk) → (turn_served cut at talk).0.channel ≡
      taken_in_order (whole_units cut.units talk.joiner) (is_refused cut.units cut.refused talk.joiner) at.channel
  -- the bytes of one whole unit, where nothing is open: it is taken
  pub whole : (bytes : List ℕ) (frames : List RpcUnit) (unit : RpcUnit) (at : TurnWork) → IsHeard bytes frames unit →
      turn_served (cut_stream bytes) at (turn_talk None) ≡ take_by (take_of at.channel unit) None at

-- ---- what is sent on the link

-- a send of one whole unit on that link
abbrev pub IsWholeOn : ℕ → Action → Type 0
IsWholeOn number (action.Send link bytes) = (link ≡ number) × IsWholeSend bytes
IsWholeOn number _ = ⊥

-- beside the actions before it nothing but these is done; the channel is in its ranges
pub record SendsWhole (before : TurnWork) (after : TurnWork) : Type 0 where
  pub more : List Action
  pub is : after.actions ≡ before.actions ++ more
  pub all : AllByRecursion (IsWholeOn before.link) more
  pub link : after.link ≡ before.link
  pub range : InRangeRequester after.channel

pub record TurnsSendWhole : Type 0 where
  -- requests of turns
  pub requests : (cut : Cut) (at : TurnWork) (talk : TurnTalk) → InRangeRequester at.channel → SendsWhole at (turn_served cut at talk).0
  -- a turn that is lost leaves the ranges
  pub lost : (cause : DropCause) (channel : Requester) → InRangeRequester channel → InRangeRequester (lose_turn cause channel).0

-- ---- the next turn

-- none starts where none can; where one can, it does, and is out then: with the next challenge where the channel needs
-- one, and with none else. Where it needs one and none is left, it is refused for that
pub record NextTurnsKnown : Type 0 where
  pub none : (now : ℕ) (channel : Requester) (left : List (List ℕ)) → can_start channel.turn channel.waiting ≡ false →
      next_turn now channel left ≡ Ok (record { value = (channel, None); left = left })
  pub plain : (now : ℕ) (channel : Requester) (left : List (List ℕ)) → can_start channel.turn channel.waiting ≡ true →
      needs_challenge channel.standing ≡ false → next_turn now channel left ≡ Ok (record {
        value = (
          (start_of channel (timestamp_of now) (replicate 8 0)).state,
          (start_of channel (timestamp_of now) (replicate 8 0)).answer,
        );
        left = left;
      })
  pub drawn : (now : ℕ) (channel : Requester) (challenge : List ℕ) (left : List (List ℕ)) → can_start channel.turn channel.waiting ≡ true →
      needs_challenge channel.standing ≡ true → next_turn now channel (challenge ∷ left) ≡ Ok (record {
        value = ((start_of channel (timestamp_of now) challenge).state, (start_of channel (timestamp_of now) challenge).answer);
        left = left;
      })
  pub spent : (now : ℕ) (channel : Requester) → can_start channel.turn channel.waiting ≡ true → needs_challenge channel.standing ≡ true →
      next_turn now channel [] ≡ Err refused.Spent
  pub out : (channel : Requester) (timestamp : ℕ) (challenge : List ℕ) → can_start channel.turn channel.waiting ≡ true →
      (is_some (start_of channel timestamp challenge).answer ≡ true) × (is_out (start_of channel timestamp challenge).state ≡ true)
