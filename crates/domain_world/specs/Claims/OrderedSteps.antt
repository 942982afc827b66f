-- That a step of a member keeps the order in which its channels are accepted, and the calls on them, where a channel
-- that opens was accepted, and where a call of another member is one of another computer (MS-NRPC 3.1.4.1, 3.1.4.5; how
-- it is said is this project's own choice).
use Rattle.std.specs.Prelude.{ℕ, ◌≡◌, ◌+◌, ◌<◌, ◌^◌, List, [], ◌++◌, Option, Some, None, Result, Ok, Err}
use Rattle.outside.specs.Machine.{Part}
use Rattle.outside.specs.declared.action.StepRefused.{StepRefused}
use Rattle.outside.specs.declared.event.Event.{Event}
use Rattle.outside.specs.declared.event.Event.TheVariants as event
use Rattle.rpc_units.specs.Calls.{IsHeard}
use Rattle.rpc_units.specs.declared.unit.Unit.{Unit as RpcUnit}
use Rattle.end_links.specs.Links.{LinkState}
use Rattle.channel_client.specs.Effects.{Calls, Effect, Opens, effect_of_take}
use Rattle.channel_client.specs.Machine.{take_of}
use Rattle.channel_events.specs.AcceptedOrder.{IsAcceptedIn}
use Rattle.channel_events.specs.Marks.{Mark}
use Rattle.channel_events.specs.OrderSteps.{Asker, InOrder, IsItsOrElsewhere}
use Rattle.channel_events.specs.Requests.{CallsAreApart, Requests}
use Rattle.channel_turns.specs.declared.state.Dialling.TheVariants as dialling
use Rattle.channel_turns.specs.declared.state.TurnTalk.{TurnTalk}
use Rattle.member_server.specs.Machine.{event_part, step_of}
use Rattle.member_server.specs.Turns.{DialWork}
use Rattle.member_server.specs.declared.state.Running.{Running}
use Rattle.step_notes.specs.MemberNotes.{taking_note}
use Rattle.domain_world.specs.Accepting.SeenSteps.{CoherentIf, Differ, HearsNone, PlacedBy, requests_after, seen_running}

-- before the step: the member is seen as it is, its requester is coherent, calls are apart, and what was accepted is in
-- order
pub record AreBefore (r : Requests ℕ) (who controller : ℕ) (running : Option Running) (a : Asker) : Type 0 where
  pub at : r.views who ≡ seen_running controller running
  pub coherent : CoherentIf running
  pub apart : CallsAreApart r
  pub order : InOrder r a

-- a channel that opens was accepted by a call in a unit, and a call is that requester's, or of another computer
abbrev pub Suits : Asker → ℕ → Effect → Type 0
Suits a who (Opens c) = IsAcceptedIn a.accepted c
Suits a who (Calls c number) = IsItsOrElsewhere a who c
Suits a who _ = Unit {0}

-- where the step is taken
abbrev pub SuitsIfTaken : Result (Part DialWork) StepRefused → Asker → ℕ → Effect → Type 0
SuitsIfTaken (Err why) a who effect = Unit {0}
SuitsIfTaken (Ok part) a who effect = Suits a who effect

pub record MembersStepInOrder : Type 0 where
  -- where no whole unit comes on the link of the turn
  pub other : (r : Requests ℕ) (who controller : ℕ) (a : Asker) (running : Option Running) (what : Event) (now : ℕ) (left : List (List ℕ)) → r.uses + 2 < 2 ^ 32 → HearsNone running what →
      AreBefore r who controller running a → Differ (r.drawn ++ (step_of (record { running = running }) what now left).drawn) →
      InOrder
      (requests_after r.views who controller (step_of (record { running = running }) what now left).state.running r.marks (r.drawn ++ (step_of (record { running = running }) what now left).drawn)
      (r.uses + 1)) a
  -- where one does, with the marks that are written down of it
  pub whole : (r : Requests ℕ) (who controller : ℕ) (a : Asker) (running : Running) (number : ℕ) (said : LinkState TurnTalk) (bytes : List ℕ) (frames : List RpcUnit) (unit : RpcUnit) (now : ℕ)
      (left : List (List ℕ)) (more : List Mark) → r.uses + 3 < 2 ^ 32 → running.dialling ≡ dialling.On number said → said.rest ≡ [] → said.talk.joiner ≡ None → IsHeard bytes frames unit →
      PlacedBy (event_part running (event.Bytes number bytes) now left) (taking_note (Some (take_of running.logons.channel unit)) controller running.logons.channel) more →
      SuitsIfTaken (event_part running (event.Bytes number bytes) now left) a who (effect_of_take controller running.logons.channel unit) → AreBefore r who controller (Some running) a →
      Differ (r.drawn ++ (step_of (record { running = Some running }) (event.Bytes number bytes) now left).drawn) →
      InOrder
      (requests_after r.views who controller (step_of (record { running = Some running }) (event.Bytes number bytes) now left).state.running (r.marks ++ more)
      (r.drawn ++ (step_of (record { running = Some running }) (event.Bytes number bytes) now left).drawn) (r.uses + 2)) a
