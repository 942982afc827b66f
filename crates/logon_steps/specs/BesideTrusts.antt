-- What a controller that trusts other domains makes of what it hears on the one link that is open there, while it asks
-- no other controller for a logon (this project's own choice). Unless a logon comes for a trusted domain, it is what a
-- controller does that trusts none, and what is kept of those who ask stays.
use Rattle.std.specs.Prelude.{ℕ, ◌≡◌, ◌<◌, ◌^◌, List, [], ◌∷◌, length, Some, None}
use Rattle.wire_base.specs.Maps.{lookup}
use Rattle.wire_base.specs.Names.{same_name}
use Rattle.authenticators.specs.SecureChannels.{SecureChannelState}
use Rattle.outside.specs.declared.action.Action.{Action}
use Rattle.outside.specs.declared.action.Action.TheVariants as action
use Rattle.outside.specs.declared.event.Event.TheVariants as event
use Rattle.outside.specs.Machine.{whole_step}
use Rattle.rpc_units.specs.Calls.{bytes_of_call}
use Rattle.rpc_units.specs.Writing.{written}
use Rattle.end_links.specs.Binding.{bind_of}
use Rattle.logon_stubs.specs.Interface.{netlogon_syntax}
use Rattle.logon_stubs.specs.declared.calls.Call.{Call}
use Rattle.logon_stubs.specs.declared.calls.Call.TheVariants as call
use Rattle.secret_change.specs.declared.calls.SetCall.{SetCall}
use Rattle.account_table.specs.AccountTable.{AccountTable}
use Rattle.channel_client.specs.State.{Requester}
use Rattle.channel_turns.specs.declared.state.Dialling.TheVariants as dialling
use Rattle.controller_calls.specs.Handing.{trust_for}
use Rattle.controller_calls.specs.declared.state.Computers.{Computers}
use Rattle.domain_controller.specs.Hearing.{first_talk}
use Rattle.domain_controller.specs.State.{State}
use Rattle.domain_controller.specs.Step.{LinkMap, step_of}
use Rattle.domain_controller.specs.TrustOrder.{NobodyWaits}
use Rattle.domain_controller.specs.TrustStep.{trust_step_of}
use Rattle.domain_controller.specs.declared.state.Talk.{Talk}
use Rattle.domain_controller.specs.declared.trusting.Trusting.{Trusting}
use Rattle.logon_steps.specs.ControllerTurns.{controller_at, one_link, turn_link}
use Rattle.logon_steps.specs.SetTurns.{IsSetTurn, set_request}
use Rattle.logon_steps.specs.Turning.{IsTurnCall, turn_ack, turn_request}

-- ---- a controller that trusts other domains, which seals nothing

abbrev pub trusting_at : AccountTable → List ℕ → Computers → LinkMap → Trusting → State
trusting_at table name computers links trusting = record (controller_at table name computers links) { trusting = trusting }

-- Of those who ask, one for each trust, none asks for a logon. Whose turn was out last says nothing.
abbrev pub none_asked : List Requester → ℕ → Trusting
none_asked requesters turn = record {
  queues = record { requesters = requesters; forwarded = [] };
  turn_of = turn;
  dialling = dialling.Nothing;
  sealing = None;
}

-- Those who ask for a controller at trusted domains, of whom nobody waits, and whose turn was out last
pub record AtTrusts : Type 0 where
  pub requesters : List Requester
  pub nobody : NobodyWaits requesters
  pub turn : ℕ

-- a controller that trusts no domain, or that isn't to hand logons on, asks nowhere
abbrev pub at_no_trusts : AtTrusts
at_no_trusts = record { requesters = []; nobody = tt; turn = 0 }

-- What a controller keeps that asks nobody, but for links: accounts, its name, what it keeps of computers, those who
-- ask, and whose turn was out last
pub record Keeping : Type 0 where
  pub table : AccountTable
  pub name : List ℕ
  pub computers : Computers
  pub requesters : List Requester
  pub turn : ℕ

abbrev pub keeping_of : AccountTable → List ℕ → Computers → AtTrusts → Keeping
keeping_of table name computers trusts = record { table = table; name = name; computers = computers; requesters = trusts.requesters; turn = trusts.turn }

abbrev pub keeping_at : Keeping → LinkMap → State
keeping_at k links = trusting_at k.table k.name k.computers links (none_asked k.requesters k.turn)

-- the controller that keeps the same without trusts
abbrev pub alone_at : Keeping → LinkMap → State
alone_at k links = controller_at k.table k.name k.computers links

-- what is kept, with other accounts and other computers
abbrev pub kept_with : AccountTable → Computers → Keeping → Keeping
kept_with table computers k = record k { table = table; computers = computers }

-- ---- what stays here

-- A logon is judged here, whichever channel it comes on: its domain isn't that of a trust whose controller can be
-- asked, or the channel is of a type on which nothing is handed on. Every other call is judged here.
abbrev pub StaysHere : Call → Keeping → Type 0
StaysHere (call.Logon c) k =
    (computer : List ℕ) (channel : SecureChannelState) → c.computer ≡ Some computer → lookup same_name computer k.computers.channels ≡ Some channel →
    trust_for channel.kind c.validation k.table c.info (length k.requesters) ≡ None
StaysHere (call.Logoff c) k = Unit {0}
StaysHere (call.Challenge c) k = Unit {0}
StaysHere (call.Authenticate c) k = Unit {0}

pub record AnswersBesideTrusts : Type 0 where
  -- a controller that can ask nobody judges each call itself
  pub alone : (k : Keeping) (c : Call) → k.requesters ≡ [] → StaysHere c k
  -- and stands as one that trusts nobody
  pub stands : (table : AccountTable) (name : List ℕ) (computers : Computers) (links : LinkMap) (trusts : AtTrusts) → trusts ≡ at_no_trusts →
      keeping_at (keeping_of table name computers trusts) links ≡ controller_at table name computers links
  pub opened : (k : Keeping) (link now : ℕ) (left : List (List ℕ)) → NobodyWaits k.requesters →
      trust_step_of (keeping_at k []) (event.Opened link) now left ≡ whole_step left left [] (keeping_at k (one_link link first_talk))
  pub closed : (k : Keeping) (link now : ℕ) (talk : Talk) (left : List (List ℕ)) → NobodyWaits k.requesters →
      trust_step_of (keeping_at k (one_link link talk)) (event.Closed link) now left ≡ whole_step left left [] (keeping_at k [])
  pub bound : (k : Keeping) (link now number : ℕ) (left : List (List ℕ)) → NobodyWaits k.requesters → number < 2 ^ 32 →
      trust_step_of (keeping_at k (one_link link first_talk)) (event.Bytes link (written (bind_of netlogon_syntax number))) now left
      ≡ whole_step left left (action.Send link (written (turn_ack number)) ∷ []) (keeping_at k (turn_link link))
  -- a call that stays here does what it does without trusts, whatever that is
  pub called : (k : Keeping) (link now number : ℕ) (c : Call) (left rest : List (List ℕ)) (actions : List Action) (table : AccountTable) (computers : Computers) →
      NobodyWaits k.requesters → number < 2 ^ 32 → IsTurnCall c → StaysHere c k →
      step_of (alone_at k (turn_link link)) (event.Bytes link (bytes_of_call (turn_request number c) 5840)) now left
      ≡ whole_step left rest actions (alone_at (kept_with table computers k) (turn_link link)) →
      trust_step_of (keeping_at k (turn_link link)) (event.Bytes link (bytes_of_call (turn_request number c) 5840)) now left
      ≡ whole_step left rest actions (keeping_at (kept_with table computers k) (turn_link link))
  -- a call that sets a secret does what it does without trusts
  pub set : (k : Keeping) (link now number : ℕ) (c : SetCall) (left rest : List (List ℕ)) (actions : List Action) (table : AccountTable) (computers : Computers) →
      NobodyWaits k.requesters → number < 2 ^ 32 → IsSetTurn c →
      step_of (alone_at k (turn_link link)) (event.Bytes link (bytes_of_call (set_request number c) 5840)) now left
      ≡ whole_step left rest actions (alone_at (kept_with table computers k) (turn_link link)) →
      trust_step_of (keeping_at k (turn_link link)) (event.Bytes link (bytes_of_call (set_request number c) 5840)) now left
      ≡ whole_step left rest actions (keeping_at (kept_with table computers k) (turn_link link))
