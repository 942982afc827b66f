-- When the authenticator of a call that passed passes again, at a controller that can seal, whatever happens to it and
-- whatever bytes come from anybody (MS-NRPC 3.1.4.5; that a call finds its channel on links of that channel alone, is
-- this project's own choice).
use Rattle.std.specs.Prelude.{ℕ, ◌≡◌, ◌↔◌, ◌%◌, ◌^◌, ◌&&◌, Bool, true, false, List, [], ◌∷◌, ◌++◌, map, flat_map, Option, Some, None}
use Rattle.std.specs.List.{AllByRecursion}
use Rattle.wire_base.specs.Maps.{lookup, same_number}
use Rattle.wire_base.specs.Names.{same_name}
use Rattle.wire_base.specs.declared.authenticator.Authenticator.{Authenticator}
use Rattle.authenticators.specs.Sequences.{moved_by}
use Rattle.authenticators.specs.SecureChannels.{SecureChannelState, passes_on}
use Rattle.channel_keys.specs.Des.{IsBlock}
use Rattle.outside.specs.declared.event.Event.{Event}
use Rattle.outside.specs.declared.event.Event.TheVariants as event
use Rattle.rpc_units.specs.Stream.{cut_stream}
use Rattle.end_links.specs.Links.{LinkState}
use Rattle.end_links.specs.Serving.{ServedUnit, served_units}
use Rattle.channel_turns.specs.Turning.{is_on}
use Rattle.controller_calls.specs.Calls.{computer_named, given_in}
use Rattle.controller_calls.specs.Seals.{is_on as is_on_own_link}
use Rattle.controller_calls.specs.declared.calls.JudgedCall.{JudgedCall}
use Rattle.controller_calls.specs.declared.seals.ChannelSeals.{ChannelSeals}
use Rattle.controller_calls.specs.declared.seals.LinkSeal.{LinkSeal}
use Rattle.controller_calls.specs.declared.state.Computers.{Computers}
use Rattle.domain_controller.specs.SealHearing.{seal_hear}
use Rattle.domain_controller.specs.SealJudging.{HearsCall, IsNextOn, IsOnOwnLink, OpensFor, PassesFor, call_heard, desk_at}
use Rattle.domain_controller.specs.SealServing.{SealDesk, seal_server}
use Rattle.domain_controller.specs.SealStep.{seal_step_of}
use Rattle.domain_controller.specs.Sealing.{seal_of_link}
use Rattle.domain_controller.specs.State.{State}
use Rattle.domain_controller.specs.declared.sealed.Sealing.{Sealing}
use Rattle.domain_controller.specs.declared.state.Running.{Running}
use Rattle.domain_controller.specs.declared.state.Talk.{Talk}

-- ---- the units that a controller that can seal hears on accepted links, whatever happens to it

-- an event, its moment, and the challenges that are left
pub record Happening : Type 0 where
  pub what : Event
  pub now : ℕ
  pub left : List (List ℕ)

-- a unit on the link of that number, with what the controller had before it
pub record UnitHeard : Type 0 where
  pub number : ℕ
  pub served : ServedUnit SealDesk Talk

abbrev pub units_heard : (number : ℕ) (units : List (ServedUnit SealDesk Talk)) → List UnitHeard
units_heard number units = map (λ (served : ServedUnit SealDesk Talk). record { number = number; served = served }) units

abbrev pub heard_on : Option (LinkState Talk) → State → Running → Sealing → (number : ℕ) (piece : List ℕ) (now : ℕ) (left : List (List ℕ)) → List UnitHeard
heard_on None s running sealing number piece now left = []
heard_on (Some link) s running sealing number piece now left =
    units_heard number
    (served_units (seal_server s.name now number) (cut_stream (link.rest ++ piece)).units (desk_at s running sealing) link.talk left)

abbrev pub heard_if : (is_turn_link : Bool) → State → Running → Sealing → (number : ℕ) (piece : List ℕ) (now : ℕ) (left : List (List ℕ)) → List UnitHeard
heard_if true s running sealing number piece now left = []
heard_if false s running sealing number piece now left =
    heard_on (lookup same_number number running.links) s running sealing number piece now left

abbrev pub heard_at : Event → State → Running → Sealing → (now : ℕ) (left : List (List ℕ)) → List UnitHeard
heard_at (event.Opened number) s running sealing now left = []
heard_at (event.Bytes number piece) s running sealing now left =
    heard_if (is_on number s.trusting.dialling) s running sealing number piece now left
heard_at (event.Closed number) s running sealing now left = []
heard_at (event.Dialled number) s running sealing now left = []
heard_at event.DialFailed s running sealing now left = []
heard_at event.Stop s running sealing now left = []

-- none where it has stopped, or can't seal
abbrev pub heard_by : Option Running → Option Sealing → State → Happening → List UnitHeard
heard_by None sealing s h = []
heard_by (Some running) None s h = []
heard_by (Some running) (Some sealing) s h = heard_at h.what s running sealing h.now h.left

-- through all that happens, one after the other
abbrev pub heard_in : State → List Happening → List UnitHeard
heard_in s [] = []
heard_in s (h ∷ more) = heard_by s.running s.trusting.sealing s h ++ heard_in (seal_step_of s h.what h.now h.left).state more

-- ---- the timestamps that passed on a computer's channel among such units, in order

abbrev pub timestamp_if : (passes : Bool) → Authenticator → List ℕ
timestamp_if false given = []
timestamp_if true given = given.timestamp ∷ []

abbrev pub timestamp_on : Option SecureChannelState → (is_its : Bool) → Authenticator → List ℕ
timestamp_on None is_its given = []
timestamp_on (Some channel) is_its given = timestamp_if (is_its && passes_on channel given) given

-- the computer that a call names has to be that one, and the call to have come on a link of its channel
abbrev pub timestamp_named : (named : Option (List ℕ)) → Option Authenticator → Option LinkSeal → (computer : List ℕ) → Computers → ChannelSeals → List ℕ
timestamp_named None given link computer computers seals = []
timestamp_named (Some name) None link computer computers seals = []
timestamp_named (Some name) (Some given) link computer computers seals =
    timestamp_on (lookup same_name name computers.channels) (same_name name computer && is_on_own_link link name seals) given

abbrev pub timestamp_in : Option JudgedCall → Option LinkSeal → (computer : List ℕ) → Computers → ChannelSeals → List ℕ
timestamp_in None link computer computers seals = []
timestamp_in (Some c) link computer computers seals = timestamp_named (computer_named c) (given_in c) link computer computers seals

abbrev pub timestamp_by : Option Sealing → (computer : List ℕ) → UnitHeard → List ℕ
timestamp_by None computer u = []
timestamp_by (Some s) computer u =
    timestamp_in (call_heard (seal_hear u.number u.served.bytes u.served.talk (seal_of_link u.number s) s.seals).heard)
    (seal_of_link u.number s) computer u.served.work.desk.work.work.computers s.seals

-- that of a unit whose call passes there, or none
abbrev pub timestamp_of_unit : (computer : List ℕ) → UnitHeard → List ℕ
timestamp_of_unit computer u = timestamp_by u.served.work.sealing computer u

abbrev pub timestamps_on : (computer : List ℕ) → List UnitHeard → List ℕ
timestamps_on computer units = flat_map (λ (u : UnitHeard). timestamp_of_unit computer u) units

-- ---- an authenticator that comes twice

-- a unit's call passes with that authenticator on the channel of that computer, whose seed has 8 bytes
pub record PassesWith (u : UnitHeard) (computer : List ℕ) (given : Authenticator) : Type 0 where
  pub sealing : Sealing
  pub can : u.served.work.sealing ≡ Some sealing
  pub passes : PassesFor u.number u.served.bytes u.served.talk u.served.work.desk.work.work.computers sealing computer
  pub same : passes.on.next.given ≡ given
  pub seed : IsBlock passes.on.next.channel.seed

-- A unit completes a call for that computer with that authenticator, and came on a link of the computer's channel: on
-- one that isn't sealed where the channel doesn't seal either, else on one that the channel sealed as it stands, whose
-- end opened the unit.
pub record ComesWith (u : UnitHeard) (computer : List ℕ) (given : Authenticator) : Type 0 where
  pub sealing : Sealing
  pub can : u.served.work.sealing ≡ Some sealing
  pub call : JudgedCall
  pub heard : HearsCall (seal_of_link u.number sealing) u.number u.served.bytes u.served.talk sealing.seals call
  pub name : List ℕ
  pub named : computer_named call ≡ Some name
  pub its : same_name name computer ≡ true
  pub there : given_in call ≡ Some given
  pub own : IsOnOwnLink (seal_of_link u.number sealing) name sealing.seals

-- that call passes
abbrev pub PassesThen : {u : UnitHeard} {computer : List ℕ} {given : Authenticator} → ComesWith u computer given → Type 0
PassesThen {u} comes =
    IsNextOn (seal_of_link u.number comes.sealing) comes.call u.served.work.desk.work.work.computers comes.sealing.seals

-- a unit opens another channel for that computer
abbrev pub OpensBy : Option Sealing → (computer : List ℕ) → UnitHeard → Type 0
OpensBy None computer u = ⊥
OpensBy (Some s) computer u = OpensFor u.number u.served.bytes u.served.talk u.served.work.desk s computer

abbrev pub OpensAnother : (computer : List ℕ) → UnitHeard → Type 0
OpensAnother computer u = OpensBy u.served.work.sealing computer u

-- ---- the law

-- Where an authenticator passed on a computer's channel, and comes again on that channel in a call on a link of it, it
-- passes again exactly where the timestamps that passed there since, its own first, each plus one, sum to a multiple of
-- 2^32. It is the same channel where no unit between opened another for the computer.
pub record SealedReplaysBySum : Type 0 where
  pub again : (s : State) (run : List Happening) (computer : List ℕ) (given : Authenticator) (earlier between later : List UnitHeard) (first second : UnitHeard) →
      heard_in s run ≡ earlier ++ first ∷ (between ++ second ∷ later) →
      PassesWith first computer given → (comes : ComesWith second computer given) →
      AllByRecursion (λ (u : UnitHeard). OpensAnother computer u → ⊥) between →
      PassesThen comes ↔ (moved_by (given.timestamp ∷ timestamps_on computer between) % 2 ^ 32 ≡ 0)
