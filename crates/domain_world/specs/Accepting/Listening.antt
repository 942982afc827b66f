-- What a controller that may hand logons on hears on accepted links, and what it keeps of them, through each of its
-- steps (C706 12.6.2; which links are told apart is this project's own choice).
use Rattle.std.specs.Prelude.{ℕ, ◌≡◌, ◌⊎◌, ◌<◌, ◌^◌, Bool, true, List, [], Option, Some, None}
use Rattle.std.specs.List.{AllByRecursion}
use Rattle.wire_base.specs.Numbers.{AreBytes}
use Rattle.ndr_codec.specs.Parts.{IfThere}
use Rattle.outside.specs.declared.action.Action.{Action}
use Rattle.outside.specs.declared.action.Action.TheVariants as action
use Rattle.outside.specs.declared.event.Event.{Event}
use Rattle.outside.specs.declared.event.Event.TheVariants as event
use Rattle.rpc_units.specs.Calls.{IsHeard}
use Rattle.rpc_units.specs.Stream.{cut_stream}
use Rattle.rpc_units.specs.declared.unit.Unit.{Unit as RpcUnit}
use Rattle.end_links.specs.Links.{LinkState}
use Rattle.end_links.specs.Serving.{ServedUnit, served_units}
use Rattle.end_links.specs.Whole.{IsByteSend, IsWholeSend}
use Rattle.end_loop.specs.Runs.{actions_of}
use Rattle.channel_turns.specs.declared.state.Dialling.{Dialling}
use Rattle.channel_turns.specs.declared.state.Dialling.TheVariants as dialling
use Rattle.controller_calls.specs.Forwarded.{ForwardedState}
use Rattle.controller_calls.specs.declared.line.Line.{Line}
use Rattle.domain_controller.specs.Forwarding.{TrustDesk, trust_server}
use Rattle.domain_controller.specs.Hearing.{hear}
use Rattle.domain_controller.specs.Laws.{trust_calls_of}
use Rattle.domain_controller.specs.State.{State as ControllerState}
use Rattle.domain_controller.specs.TrustStep.{trust_step_of}
use Rattle.domain_controller.specs.TrustWhole.{InRangeTrustState, IsInRangeCall}
use Rattle.domain_controller.specs.Trusting.{ForwardedCalls}
use Rattle.domain_controller.specs.Whole.{AreChallenges}
use Rattle.domain_controller.specs.declared.state.Running.{Running}
use Rattle.domain_controller.specs.declared.state.Talk.{Talk}
use Rattle.member_server.specs.Whole.{BringsBytes, InRangeJoiner}
use Rattle.step_notes.specs.HeardWhole.{IsCallOf}
use Rattle.domain_world.specs.Accepting.Carried.{IsWholeUnit}

-- What is held for an accepted link is bytes, with its fragments. Nothing is open on the link where calls come whole
-- there, as a test of its number tells.
pub record ListensSo (comes_whole : ℕ → Bool) (number : ℕ) (link : LinkState Talk) : Type 0 where
  pub rest_bytes : AreBytes link.rest
  pub joiner_bytes : InRangeJoiner link.talk.joiner
  pub rest : comes_whole number ≡ true → link.rest ≡ []
  pub joiner : comes_whole number ≡ true → link.talk.joiner ≡ None

abbrev pub AllListenSo : (comes_whole : ℕ → Bool) → Option Running → Type 0
AllListenSo comes_whole None = Unit {0}
AllListenSo comes_whole (Some running) = AllByRecursion (λ (entry : ℕ × LinkState Talk). ListensSo comes_whole entry.0 entry.1) running.links

-- What must be known of an event: what comes is bytes, and one whole unit where calls come whole.
abbrev pub ComesSo : (comes_whole : ℕ → Bool) → Event → Type 0
ComesSo comes_whole (event.Opened number) = Unit {0}
ComesSo comes_whole (event.Bytes number piece) = AreBytes piece × (comes_whole number ≡ true → IsWholeUnit piece)
ComesSo comes_whole (event.Closed number) = Unit {0}
ComesSo comes_whole (event.Dialled number) = Unit {0}
ComesSo comes_whole event.DialFailed = Unit {0}
ComesSo comes_whole event.Stop = Unit {0}

-- what is held for the link of a turn is bytes, with its fragments
abbrev pub TurnHasBytes : Dialling → Type 0
TurnHasBytes dialling.Nothing = Unit {0}
TurnHasBytes (dialling.Waits turn frames) = Unit {0}
TurnHasBytes (dialling.On number said) = AreBytes said.rest × InRangeJoiner said.talk.joiner

-- A send is whole; or it goes back on a link on which a logon came that was handed on, as a test of its number tells,
-- and is bytes, no more than an end sends at once.
abbrev pub IsSentSo : (goes_back : ℕ → Bool) → Action → Type 0
IsSentSo goes_back (action.Send link bytes) = IsWholeSend bytes ⊎ ((goes_back link ≡ true) × IsByteSend bytes)
IsSentSo goes_back (action.Keep bytes) = Unit {0}
IsSentSo goes_back (action.Dial peer) = Unit {0}
IsSentSo goes_back (action.Close link cause) = Unit {0}
IsSentSo goes_back (action.Told link outcome) = Unit {0}
IsSentSo goes_back (action.Judged how) = Unit {0}

-- the lines of logons that were handed on, where they have one, are on such links
abbrev pub AreLinesSo : (goes_back : ℕ → Bool) → ForwardedCalls → Type 0
AreLinesSo goes_back calls =
    AllByRecursion (λ (entry : (ℕ × ℕ) × ForwardedState). IfThere (λ (line : Line). goes_back line.link ≡ true) entry.1.line) calls

-- Whatever the controller's state, whether it asks others or not.
pub record TrustsListen : Type 0 where
  -- each call that is heard of the bytes of one whole unit is that of the unit, where nothing was open
  pub calls : (name : List ℕ) (now link : ℕ) (bytes : List ℕ) (frames : List RpcUnit) (unit : RpcUnit) (d : TrustDesk) (talk : Talk) (left : List (List ℕ)) →
      IsHeard bytes frames unit → talk.joiner ≡ None →
      AllByRecursion (λ (served : ServedUnit TrustDesk Talk). IsCallOf unit (hear link served.bytes served.talk))
      (served_units (trust_server name now link) (cut_stream bytes).units d talk left)
  -- a step leaves the accepted links so
  pub links : (comes_whole : ℕ → Bool) (c : ControllerState) (what : Event) (now : ℕ) (left : List (List ℕ)) → ComesSo comes_whole what →
      AllListenSo comes_whole c.running → AllListenSo comes_whole (trust_step_of c what now left).state.running
  -- the calls that are heard have their ranges
  pub ranges : (comes_whole : ℕ → Bool) (c : ControllerState) (running : Running) (what : Event) → c.running ≡ Some running → ComesSo comes_whole what →
      AllListenSo comes_whole c.running → AllByRecursion IsInRangeCall (trust_calls_of what running.links c.trusting.dialling)
  -- so the controller's own ranges are kept
  pub keeps : (comes_whole : ℕ → Bool) (c : ControllerState) (what : Event) (now : ℕ) (left : List (List ℕ)) → ComesSo comes_whole what →
      AllListenSo comes_whole c.running → InRangeTrustState c → now < 2 ^ 64 → AreChallenges left → InRangeTrustState (trust_step_of c what now left).state
  -- what is held for the link of its turn stays bytes
  pub turn : (c : ControllerState) (what : Event) (now : ℕ) (left : List (List ℕ)) → BringsBytes what → TurnHasBytes c.trusting.dialling →
      TurnHasBytes (trust_step_of c what now left).state.trusting.dialling
  -- what it sends is whole, but for replies to logons that were handed on
  pub sends : (goes_back : ℕ → Bool) (c : ControllerState) (what : Event) (now : ℕ) (left : List (List ℕ)) → BringsBytes what → TurnHasBytes c.trusting.dialling →
      AreLinesSo goes_back c.trusting.queues.forwarded → InRangeTrustState c → now < 2 ^ 64 → AreChallenges left →
      AllByRecursion (IsSentSo goes_back) (actions_of (trust_step_of c what now left))
