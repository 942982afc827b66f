-- Under which of its secrets a member opens its channel, and which one its call sets (MS-NRPC 3.1.4.1, 3.5.4.4.6; when
-- a secret is tried is this project's own choice).
use Rattle.std.specs.Prelude.{ℕ, ◌≡◌, List, Option, Some, None}
use Rattle.authenticators.specs.SecureChannels.{SecureChannelState, key_of_channel}
use Rattle.outside.specs.declared.event.Event.{Event}
use Rattle.secret_change.specs.Hiding.{hide_of}
use Rattle.secret_change.specs.declared.calls.SetCall.{SetCall}
use Rattle.channel_client.specs.declared.caller.Caller.{Caller}
use Rattle.channel_client.specs.declared.state.Pending.{Pending}
use Rattle.channel_client.specs.declared.state.SetStep.{SetStep}
use Rattle.channel_client.specs.declared.state.SetStep.TheVariants as set_step
use Rattle.channel_client.specs.declared.state.Standing.{Standing}
use Rattle.channel_client.specs.declared.state.Standing.TheVariants as standing
use Rattle.channel_client.specs.declared.state.Step.{Step}
use Rattle.channel_client.specs.declared.state.Step.TheVariants as step
use Rattle.channel_client.specs.Effects.{IsCoherent, step_in}
use Rattle.channel_client.specs.State.{Requester}
use Rattle.member_server.specs.declared.plan.MemberPlan.{MemberPlan}
use Rattle.member_server.specs.declared.state.Running.{Running}
use Rattle.member_server.specs.Machine.{change_of, fresh_member, step_of}
use Rattle.member_server.specs.Secrets.{SecretsState, next_of, tried_of}
use Rattle.member_server.specs.State.{State}

-- while a channel is being opened, the caller's secret is the one that is tried: from the turn on that asks for the
-- server's challenge, until the channel is open or given up
abbrev pub IsOpenedBy : Standing → Option Pending → (secret tried : List ℕ) → Type 0
IsOpenedBy standing.Nothing None secret tried = Unit {0}
IsOpenedBy standing.Nothing (Some p) secret tried = secret ≡ tried
IsOpenedBy (standing.Half client server) turn secret tried = secret ≡ tried
IsOpenedBy (standing.Open o) turn secret tried = Unit {0}

-- there is a next secret
abbrev pub HasNext : Option (List ℕ) → Type 0
HasNext next = (secret : List ℕ) × (next ≡ Some secret)

-- the call hides the next secret under the key of the channel, and is for the caller's account
pub record SetsNext (o : SecureChannelState) (caller : Caller) (next : Option (List ℕ)) (c : SetCall) : Type 0 where
  pub secret : List ℕ
  pub is : next ≡ Some secret
  pub hidden : c.hidden ≡ hide_of (key_of_channel o) secret
  pub account : c.account ≡ caller.account
  pub channel : c.channel ≡ caller.kind
  pub computer : c.computer ≡ caller.computer

-- the call of a turn that sets the next secret, while it waits for its bind, sets that; while its reply is awaited
-- there is a next secret too
abbrev pub IsSetBy : SetStep → Standing → Caller → Option (List ℕ) → Type 0
IsSetBy (set_step.Bind c) standing.Nothing caller next = HasNext next
IsSetBy (set_step.Bind c) (standing.Half client server) caller next = HasNext next
IsSetBy (set_step.Bind c) (standing.Open o) caller next = SetsNext o caller next c
IsSetBy set_step.Reply how caller next = HasNext next

-- of a turn that sets a secret
abbrev pub IsSetIn : Option Step → Standing → Caller → Option (List ℕ) → Type 0
IsSetIn None how caller next = Unit {0}
IsSetIn (Some (step.Bind c)) how caller next = Unit {0}
IsSetIn (Some (step.Reply q)) how caller next = Unit {0}
IsSetIn (Some (step.Set st)) how caller next = IsSetBy st how caller next

-- a channel and the secrets of its member
pub record TriesSecrets (c : Requester) (secrets : SecretsState) : Type 0 where
  pub coherent : IsCoherent c
  pub opens : IsOpenedBy c.standing c.turn c.caller.secret (tried_of secrets)
  pub sets : IsSetIn (step_in c.turn) c.standing c.caller (next_of secrets)

abbrev pub TriesUnlessStopped : Option Running → Type 0
TriesUnlessStopped None = Unit {0}
TriesUnlessStopped (Some running) = TriesSecrets running.logons.channel running.logons.plan.secrets

-- A member tries its secrets at first, after each step, and after each change that begins.
pub record TriesItsSecrets : Type 0 where
  pub fresh : (plan : MemberPlan) → TriesUnlessStopped (fresh_member plan).running
  pub step : (s : State) (what : Event) (now : ℕ) (left : List (List ℕ)) → TriesUnlessStopped s.running →
      TriesUnlessStopped (step_of s what now left).state.running
  pub change : (s : State) (new : List ℕ) → TriesUnlessStopped s.running → TriesUnlessStopped (change_of s new).state.running
