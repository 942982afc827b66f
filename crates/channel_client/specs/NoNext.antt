-- Without a next secret the end that asks never sets one, and its turns are those of an end that can't (this project's
-- own choice).
use Rattle.std.specs.Prelude.{ℕ, ◌≡◌, Bool, true, false, List, Option, Some, None}
use Rattle.authenticators.specs.SecureChannels.{after_call}
use Rattle.logon_stubs.specs.declared.calls.Call.{Call}
use Rattle.logon_stubs.specs.declared.info.NetworkInfo.{NetworkInfo}
use Rattle.rpc_units.specs.declared.unit.Unit.{Unit as RpcUnit}
use Rattle.channel_client.specs.Machine.{Beginning, ask_of, auth_call, begin_with, challenge_call, fresh_requester, hear, logon_call, lose_of, set_next_of, start_of, take_of, use_secret_of}
use Rattle.channel_client.specs.State.{Requester}
use Rattle.channel_client.specs.declared.answers.Taken.{Taken}
use Rattle.channel_client.specs.declared.answers.Taken.TheVariants as taken
use Rattle.channel_client.specs.declared.caller.Caller.{Caller}
use Rattle.channel_client.specs.declared.hearing.Hearing.{Hearing}
use Rattle.channel_client.specs.declared.hearing.Hearing.TheVariants as hearing
use Rattle.channel_client.specs.declared.state.Pending.{Pending}
use Rattle.channel_client.specs.declared.state.Standing.{Standing}
use Rattle.channel_client.specs.declared.state.Standing.TheVariants as standing
use Rattle.channel_client.specs.declared.state.Step.{Step}
use Rattle.channel_client.specs.declared.state.Step.TheVariants as step

-- ---- the turns of an end that sets no secret

-- the call by how far the channel is: two that open it, and then the logon's
abbrev pub plain_call : Standing → Caller → NetworkInfo → ℕ → List ℕ → Call
plain_call standing.Nothing caller info timestamp challenge = challenge_call caller challenge
plain_call (standing.Half client server) caller info timestamp challenge = auth_call caller client server
plain_call (standing.Open o) caller info timestamp challenge = logon_call caller o timestamp info

abbrev pub plain_standing : Standing → ℕ → Standing
plain_standing standing.Nothing timestamp = standing.Nothing
plain_standing (standing.Half client server) timestamp = standing.Half client server
plain_standing (standing.Open o) timestamp = standing.Open (after_call o timestamp)

abbrev pub plain_beginning : Standing → Caller → NetworkInfo → ℕ → List ℕ → Beginning
plain_beginning how caller info timestamp challenge = record {
  standing = plain_standing how timestamp;
  step = step.Bind (plain_call how caller info timestamp challenge);
}

-- ---- what tells of a secret that is set

abbrev pub sets_in : Step → Bool
sets_in (step.Bind c) = false
sets_in (step.Reply q) = false
sets_in (step.Set st) = true

abbrev pub sets_in_turn : Option Pending → Bool
sets_in_turn None = false
sets_in_turn (Some p) = sets_in p.step

abbrev pub hears_set : Hearing → Bool
hears_set hearing.Skip = false
hears_set (hearing.Next q frames) = false
hears_set (hearing.Reply q r) = false
hears_set (hearing.Drop cause) = false
hears_set (hearing.Set what) = true

abbrev pub gives_set : Taken → Bool
gives_set (taken.Skip right) = false
gives_set (taken.Next right frames) = false
gives_set taken.Half = false
gives_set taken.Opened = false
gives_set (taken.Answer place verdict) = false
gives_set (taken.Dropped place cause) = false
gives_set taken.Set = true

-- no secret is to be set, and no turn sets one
pub record HasNoNext (s : Requester) : Type 0 where
  pub next : s.next ≡ None
  pub turn : sets_in_turn s.turn ≡ false

pub record SetsNothing : Type 0 where
  -- a turn begins as one of an end that sets no secret
  pub begins : (s : Requester) (how : Standing) (info : NetworkInfo) (timestamp : ℕ) (challenge : List ℕ) → s.next ≡ None →
      begin_with how s.next s.caller info timestamp challenge ≡ plain_beginning how s.caller info timestamp challenge
  -- no unit is heard as one of a turn that sets a secret, and none sets one
  pub hears : (s : Requester) (unit : RpcUnit) → HasNoNext s → hears_set (hear s.turn unit s.next_call) ≡ false
  pub gives : (s : Requester) (unit : RpcUnit) → HasNoNext s → gives_set (take_of s unit).taken ≡ false
  -- a requester that has no next secret stays one, whichever secret opens the channel
  pub fresh : (caller : Caller) → HasNoNext (fresh_requester caller)
  pub asked : (s : Requester) (info : NetworkInfo) → HasNoNext s → HasNoNext (ask_of s info).state
  pub started : (s : Requester) (timestamp : ℕ) (challenge : List ℕ) → HasNoNext s → HasNoNext (start_of s timestamp challenge).state
  pub taken : (s : Requester) (unit : RpcUnit) → HasNoNext s → HasNoNext (take_of s unit).state
  pub lost : (s : Requester) → HasNoNext s → HasNoNext (lose_of s).state
  pub another : (s : Requester) (secret : List ℕ) → HasNoNext s → HasNoNext (use_secret_of s secret)
  pub none : (s : Requester) → HasNoNext s → HasNoNext (set_next_of s None)
