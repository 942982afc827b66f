-- How calls on secure channels are judged at a controller that can seal, whatever bytes come from anybody, and on
-- whatever links (MS-NRPC 3.1.4.5 and 3.3; that a call finds its channel on links of that channel alone, is this
-- project's own choice).
use Rattle.std.specs.Prelude.{ℕ, ◌≡◌, ◌↔◌, ◌==◌, true, false, List, [], ◌∷◌, ◌++◌, Option, Some, None, Ok, Err}
use Rattle.wire_base.specs.Maps.{lookup, same_number}
use Rattle.wire_base.specs.Names.{same_name}
use Rattle.wire_base.specs.declared.authenticator.Authenticator.{Authenticator}
use Rattle.authenticators.specs.Sequences.{Passes}
use Rattle.authenticators.specs.SecureChannels.{SecureChannelState, channel_by, key_of_channel}
use Rattle.outside.specs.declared.action.Action.{Action}
use Rattle.outside.specs.declared.action.Judged.{Judged}
use Rattle.outside.specs.declared.action.Judged.TheVariants as judged
use Rattle.outside.specs.declared.event.Event.TheVariants as event
use Rattle.logon_stubs.specs.declared.calls.AuthCall.{AuthCall}
use Rattle.rpc_units.specs.Reading.{unit_of}
use Rattle.rpc_units.specs.Stream.{cut_stream}
use Rattle.rpc_units.specs.declared.unit.Body.TheVariants.{Request}
use Rattle.rpc_units.specs.declared.unit.Unit.{Unit as RpcUnit}
use Rattle.netlogon_seal.specs.Channels.{open_of}
use Rattle.channel_sealing.specs.Frames.{range_of}
use Rattle.channel_sealing.specs.Parts.{is_own_trailer}
use Rattle.channel_turns.specs.Turning.{is_on}
use Rattle.end_links.specs.Links.{LinkState}
use Rattle.end_links.specs.Serving.{ServedUnit, served_units}
use Rattle.controller_calls.specs.Calls.{computer_named, given_in}
use Rattle.controller_calls.specs.Granting.{channel_opened, secure_flags}
use Rattle.controller_calls.specs.Passing.{IsNext, is_passed}
use Rattle.controller_calls.specs.Seals.{stands}
use Rattle.controller_calls.specs.declared.calls.ControllerCall.{ControllerCall}
use Rattle.controller_calls.specs.declared.calls.ControllerCall.TheVariants as call
use Rattle.controller_calls.specs.declared.calls.JudgedCall.{JudgedCall}
use Rattle.controller_calls.specs.declared.seals.ChannelSeals.{ChannelSeals}
use Rattle.controller_calls.specs.declared.seals.KeptSeal.{KeptSeal}
use Rattle.controller_calls.specs.declared.seals.LinkSeal.{LinkSeal}
use Rattle.controller_calls.specs.declared.state.Computers.{Computers}
use Rattle.domain_controller.specs.Forwarding.{TrustDesk, trust_desk}
use Rattle.domain_controller.specs.Hearing.{hear}
use Rattle.domain_controller.specs.SealHearing.{hear_plain, opens_channel, seal_hear}
use Rattle.domain_controller.specs.Sealing.{seal_of_link}
use Rattle.domain_controller.specs.SealServing.{SealDesk, SealPart, seal_desk, seal_server}
use Rattle.domain_controller.specs.SealStep.{seal_step_of}
use Rattle.domain_controller.specs.Sessions.{told_among}
use Rattle.domain_controller.specs.State.{State}
use Rattle.domain_controller.specs.TrustStep.{parts_of}
use Rattle.domain_controller.specs.declared.hearing.Heard.{Heard}
use Rattle.domain_controller.specs.declared.hearing.Heard.TheVariants as heard
use Rattle.domain_controller.specs.declared.sealed.Sealing.{Sealing}
use Rattle.domain_controller.specs.declared.state.Running.{Running}
use Rattle.domain_controller.specs.declared.state.Talk.{Talk}

-- ---- the call that came

-- a call on a secure channel that a unit completes
abbrev pub call_asked : ControllerCall → Option JudgedCall
call_asked (call.Challenge c) = None
call_asked (call.Authenticate c) = None
call_asked (call.Judged c) = Some c

-- a NetrServerAuthenticate2 that a unit completes
abbrev pub opening_asked : ControllerCall → Option AuthCall
opening_asked (call.Challenge c) = None
opening_asked (call.Authenticate c) = Some c
opening_asked (call.Judged c) = None

abbrev pub opening_heard : Heard → Option AuthCall
opening_heard (heard.Close cause) = None
opening_heard (heard.Answer bytes talk) = None
opening_heard (heard.Waits talk) = None
opening_heard (heard.Asked line call talk) = opening_asked call

abbrev pub call_heard : Heard → Option JudgedCall
call_heard (heard.Close cause) = None
call_heard (heard.Answer bytes talk) = None
call_heard (heard.Waits talk) = None
call_heard (heard.Asked line call talk) = call_asked call

-- A request on a sealed link is opened: it has a trailer of Netlogon at the level at which stubs are sealed, with a
-- value of 32 bytes, its operation opens no channel, the link's channel stands, and that channel's end takes it.
pub record IsOpened (link : LinkSeal) (bytes : List ℕ) (seals : ChannelSeals) : Type 0 where
  pub unit : RpcUnit
  pub hint : ℕ
  pub context : ℕ
  pub opnum : ℕ
  pub stub : List ℕ
  pub reads : unit_of bytes ≡ Ok unit
  pub is : unit.body ≡ Request hint context opnum stub
  pub signed : is_own_trailer unit.trailer ≡ true
  pub opens_none : opens_channel opnum ≡ false
  pub from : ℕ
  pub to : ℕ
  pub range : range_of bytes ≡ Some (from, to)
  pub kept : KeptSeal
  pub found : lookup same_name link.computer seals.kept ≡ Some kept
  pub stands : (kept.opening == link.opening) ≡ true
  pub takes : (open_of kept.seal bytes from to).answer ≡ Ok tt

-- the bytes of the unit then
abbrev pub plain_bytes : {link : LinkSeal} {bytes : List ℕ} {seals : ChannelSeals} → IsOpened link bytes seals → List ℕ
plain_bytes {link} {bytes} {seals} opened = (open_of opened.kept.seal bytes opened.from opened.to).unit

-- a call is found in an opened request
pub record HearsOpened (link : LinkSeal) (number : ℕ) (bytes : List ℕ) (talk : Talk) (seals : ChannelSeals) (c : JudgedCall) : Type 0 where
  pub opened : IsOpened link bytes seals
  pub found : call_heard (hear_plain (unit_of (plain_bytes opened)) number talk) ≡ Some c

-- The unit on the link of that number completes that call: on a link that isn't sealed as the bytes came, on a sealed
-- one as its channel's end opened them.
abbrev pub HearsCall : Option LinkSeal → (number : ℕ) (bytes : List ℕ) → Talk → ChannelSeals → JudgedCall → Type 0
HearsCall None number bytes talk seals c = call_heard (hear number bytes talk) ≡ Some c
HearsCall (Some link) number bytes talk seals c = HearsOpened link number bytes talk seals c

-- ---- how it is judged

-- The link is one of that computer's channel: it isn't sealed and neither does the channel seal; or it was sealed by
-- that computer's channel, which stands since.
abbrev pub IsOnOwnLink : Option LinkSeal → (computer : List ℕ) (seals : ChannelSeals) → Type 0
IsOnOwnLink None computer seals = lookup same_name computer seals.kept ≡ None
IsOnOwnLink (Some link) computer seals = (same_name computer link.computer ≡ true) × (stands link seals ≡ true)

-- The call passes: its authenticator is the next one of the channel of the computer that it names, and it came on a
-- link of that channel.
pub record IsNextOn (link : Option LinkSeal) (c : JudgedCall) (computers : Computers) (seals : ChannelSeals) : Type 0 where
  pub next : IsNext computers (computer_named c) (given_in c)
  pub own : IsOnOwnLink link next.computer seals

-- a call came on a link of its computer's channel, and its authenticator isn't the next one
pub record IsBarredOn (link : Option LinkSeal) (c : JudgedCall) (computers : Computers) (seals : ChannelSeals) : Type 0 where
  pub computer : List ℕ
  pub given : Authenticator
  pub channel : SecureChannelState
  pub named : computer_named c ≡ Some computer
  pub there : given_in c ≡ Some given
  pub stands : lookup same_name computer computers.channels ≡ Some channel
  pub own : IsOnOwnLink link computer seals
  pub fails : Passes (key_of_channel channel) channel.seed given → ⊥

-- how it is told
pub record IsJudgedOn (link : Option LinkSeal) (c : JudgedCall) (computers : Computers) (seals : ChannelSeals) (how : Judged) : Type 0 where
  -- `Passed`, or `Forwarded`
  pub passed : (is_passed how ≡ true) ↔ IsNextOn link c computers seals
  pub barred : (how ≡ judged.Barred) ↔ IsBarredOn link c computers seals
  pub missing : (how ≡ judged.NoChannel) ↔ ((IsNextOn link c computers seals → ⊥) × (IsBarredOn link c computers seals → ⊥))

-- What a unit on a link has told: of the call that it completes how it was judged, once; of no other unit anything.
pub record TellsAsJudged (number : ℕ) (bytes : List ℕ) (talk : Talk) (computers : Computers) (s : Sealing) (told : List Judged) : Type 0 where
  pub call : (c : JudgedCall) → HearsCall (seal_of_link number s) number bytes talk s.seals c →
      (how : Judged) × (told ≡ how ∷ []) × IsJudgedOn (seal_of_link number s) c computers s.seals how
  pub other : ((c : JudgedCall) → HearsCall (seal_of_link number s) number bytes talk s.seals c → ⊥) → told ≡ []

-- what a unit adds to the actions
pub record AddsAsJudged (number : ℕ) (bytes : List ℕ) (talk : Talk) (d : TrustDesk) (s : Sealing) (after : List Action) : Type 0 where
  pub new : List Action
  pub is : after ≡ d.work.work.actions ++ new
  pub tells : TellsAsJudged number bytes talk d.work.work.computers s (told_among new)

-- a unit is served so; it isn't served only where a challenge is to be drawn and none is left
abbrev pub IfServed : SealPart → (left : List (List ℕ)) → (SealDesk → Type 0) → Type 0
IfServed (Err why) left Fact = left ≡ []
IfServed (Ok part) left Fact = Fact part.value.0

-- ---- the units of a step

-- what a unit on the link `number` has told, by what sealed before it
abbrev pub TellsBySealing : Option Sealing → (number : ℕ) (bytes : List ℕ) (talk : Talk) (computers : Computers) (told : List Judged) → Type 0
TellsBySealing None number bytes talk computers told = ⊥
TellsBySealing (Some s) number bytes talk computers told = TellsAsJudged number bytes talk computers s told

-- what the units that are served on the link `number` have told, in order, each by what stood before it
abbrev pub AreToldInOrder : (number : ℕ) → List (ServedUnit SealDesk Talk) → List Judged → Type 0
AreToldInOrder number [] told = told ≡ []
AreToldInOrder number (unit ∷ units) told =
    (one : List Judged) × (later : List Judged) × (told ≡ one ++ later)
    × TellsBySealing unit.work.sealing number unit.bytes unit.talk unit.work.desk.work.work.computers one
    × AreToldInOrder number units later

-- what serves bytes on an accepted link, in a step of a controller that can seal
abbrev pub desk_at : State → Running → Sealing → SealDesk
desk_at s running sealing = seal_desk (trust_desk s.table (parts_of running s.trusting).work) sealing

-- ---- the law

-- A call on a secure channel, whatever bytes completed it and whoever sent them, passes exactly where its authenticator
-- is the next one of its computer's channel and it came on a link of that channel; on a sealed link the channel's end
-- opened the unit. It is told so once, and nothing is told of other units.
pub record JudgesByLink : Type 0 where
  pub unit : (name : List ℕ) (now number : ℕ) (bytes : List ℕ) (d : TrustDesk) (s : Sealing) (talk : Talk) (left : List (List ℕ)) →
      IfServed ((seal_server name now number).unit bytes (seal_desk d s) talk left) left
      (λ after. AddsAsJudged number bytes talk d s after.desk.work.work.actions)
  -- bytes on an accepted link: all that the step tells is told of the units that they complete, in order
  pub step : (s : State) (running : Running) (sealing : Sealing) (number : ℕ) (link : LinkState Talk) (piece : List ℕ) (now : ℕ) (left : List (List ℕ)) (actions : List Action) →
      s.running ≡ Some running → s.trusting.sealing ≡ Some sealing → is_on number s.trusting.dialling ≡ false →
      lookup same_number number running.links ≡ Some link →
      (seal_step_of s (event.Bytes number piece) now left).answer ≡ Ok actions →
      AreToldInOrder number
      (served_units (seal_server s.name now number) (cut_stream (link.rest ++ piece)).units (desk_at s running sealing) link.talk left)
      (told_among actions)

-- ---- what moves a channel's seed

-- the channel that a computer has
abbrev pub channel_at : Computers → (computer : List ℕ) → Option SecureChannelState
channel_at computers computer = lookup same_name computer computers.channels

-- the call that a unit on the link completes passes on the channel of that computer
pub record PassesFor (number : ℕ) (bytes : List ℕ) (talk : Talk) (computers : Computers) (s : Sealing) (computer : List ℕ) : Type 0 where
  pub call : JudgedCall
  pub heard : HearsCall (seal_of_link number s) number bytes talk s.seals call
  pub on : IsNextOn (seal_of_link number s) call computers s.seals
  pub its : same_name on.next.computer computer ≡ true

-- the unit opens another channel for that computer: it asks to, and isn't refused
pub record OpensFor (number : ℕ) (bytes : List ℕ) (talk : Talk) (d : TrustDesk) (s : Sealing) (computer : List ℕ) : Type 0 where
  pub call : AuthCall
  pub heard : opening_heard (seal_hear number bytes talk (seal_of_link number s) s.seals).heard ≡ Some call
  pub channel : SecureChannelState
  pub opens : channel_opened secure_flags d.table call d.work.work.computers ≡ Ok channel
  pub its : same_name call.computer computer ≡ true

-- A call that passes moves its computer's channel on to the next seed. No other unit changes a channel, but one that
-- opens another for its computer.
pub record SeedsMoveByPassing : Type 0 where
  pub moves : (name : List ℕ) (now number : ℕ) (bytes : List ℕ) (d : TrustDesk) (s : Sealing) (talk : Talk) (left : List (List ℕ)) (c : JudgedCall) →
      HearsCall (seal_of_link number s) number bytes talk s.seals c → (on : IsNextOn (seal_of_link number s) c d.work.work.computers s.seals) →
      IfServed ((seal_server name now number).unit bytes (seal_desk d s) talk left) left
      (λ after. channel_at after.desk.work.work.computers on.next.computer ≡ Some (channel_by true on.next.channel on.next.given))
  pub stays : (name : List ℕ) (now number : ℕ) (bytes : List ℕ) (d : TrustDesk) (s : Sealing) (talk : Talk) (left : List (List ℕ)) (computer : List ℕ) →
      (PassesFor number bytes talk d.work.work.computers s computer → ⊥) → (OpensFor number bytes talk d s computer → ⊥) →
      IfServed ((seal_server name now number).unit bytes (seal_desk d s) talk left) left
      (λ after. channel_at after.desk.work.work.computers computer ≡ channel_at d.work.work.computers computer)
