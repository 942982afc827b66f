-- What a step may do to what logons need and to the actions so far: whatever holds by these rules holds after each
-- step.
use Rattle.std.proofs.Common.{◌≡◌, ℕ, Bool, true, false, List, [], ◌∷◌, ◌++◌, Some, Ok, Err}
use Rattle.outside.specs.declared.action.Action.{Action}
use Rattle.outside.specs.declared.action.Action.TheVariants as action
use Rattle.outside.specs.declared.action.DropCause.{DropCause}
use Rattle.outside.specs.declared.action.Outcome.TheVariants as outcome
use Rattle.wire_base.specs.Maps.{lookup, take_out, same_number}
use Rattle.logon_stubs.specs.declared.info.NetworkInfo.{NetworkInfo}
use Rattle.rpc_units.specs.declared.unit.Unit.{Unit as RpcUnit}
use Rattle.channel_client.specs.declared.answers.AskRefused.TheVariants as ask_refused
use Rattle.channel_client.specs.declared.answers.Taken.{Taken}
use Rattle.channel_client.specs.declared.answers.Taken.TheVariants as taken
use Rattle.channel_client.specs.Machine.{ask_of, can_start, lose_of, start_of, take_of}
use Rattle.channel_turns.specs.declared.state.TurnEnd.{TurnEnd}
use Rattle.member_server.specs.declared.outcomes.Ending.{Ending}
use Rattle.member_server.specs.declared.outcomes.Ending.TheVariants as ending
use Rattle.member_server.specs.declared.state.Logon.{Logon}
use Rattle.member_server.specs.declared.state.Logons.{Logons}
use Rattle.member_server.specs.Messages.{with_channel, with_logon}
use Rattle.member_server.specs.Outcomes.{outcome_of}
use Rattle.member_server.specs.Secrets.{changes_text, give_secrets, secrets_after}
use Rattle.member_server.specs.Turns.{ending_of, keep_if, with_secrets}

-- what is said of them
abbrev pub Holds : Type 1
Holds = Logons → List Action → Type 0

-- the action lets nobody in, dials nobody, and keeps no text
abbrev pub IsPlainAction : Action → Type 0
IsPlainAction (action.Keep text) = ⊥
IsPlainAction (action.Told link (outcome.In domain user key)) = ⊥
IsPlainAction (action.Dial peer) = ⊥
IsPlainAction _ = Unit {0}

-- ---- an accepted link

pub record LinkRules (K : Holds) : Type 0 where
  pub tells : (l : Logons) (a : List Action) (what : Action) → IsPlainAction what → K l a → K l (a ++ what ∷ [])
  pub waits : (l : Logons) (a : List Action) (info : NetworkInfo) (place : ℕ) (logon : Logon) → (ask_of l.channel info).answer ≡ Ok place → K l a →
      K (with_logon (with_channel l (ask_of l.channel info).state) place logon) a
  pub full : (l : Logons) (a : List Action) (info : NetworkInfo) → (ask_of l.channel info).answer ≡ Err ask_refused.QueueFull → K l a →
      K (with_channel l (ask_of l.channel info).state) a

-- ---- the turn

abbrev pub drop_logon : ℕ → Logons → Logons
drop_logon place l = record l { asked = take_out same_number place l.asked }

-- the logon of the place is kept no more, and it may be told
pub record Ends (K : Holds) (place : ℕ) (how : Ending) (l : Logons) (a : List Action) : Type 0 where
  pub silent : K (drop_logon place l) a
  pub told : (logon : Logon) → lookup same_number place l.asked ≡ Some logon →
      K (drop_logon place l) (a ++ action.Told logon.link (outcome_of how logon) ∷ [])

-- T while the turn is out, K once it isn't
abbrev pub AfterTaken : Holds → Holds → Taken → Logons → List Action → Type 0
AfterTaken T K (taken.Skip turn) l a = T l a
AfterTaken T K (taken.Next turn frames) l a = T l a
AfterTaken T K taken.Half l a = K l a
AfterTaken T K taken.Opened l a = K l a
AfterTaken T K (taken.Answer place verdict) l a = Ends K place (ending_of verdict) l a
AfterTaken T K (taken.Dropped place cause) l a = Ends K place (ending.NoController cause) l a
AfterTaken T K taken.Set l a = K l a

-- a fact of a turn, which may speak of the whole units that are still to come on its link
pub record TurnRules (T : (units : List RpcUnit) → Holds) (K : Holds) : Type 0 where
  pub tells : (units : List RpcUnit) (l : Logons) (a : List Action) (what : Action) → IsPlainAction what → T units l a → T units l (a ++ what ∷ [])
  -- the secrets as an end of the turn makes them, and their text, where it is another
  pub keeps : (units : List RpcUnit) (l : Logons) (a : List Action) (how : TurnEnd) → T units l a →
      T units (with_secrets (secrets_after how l.plan.secrets) l) (keep_if (changes_text how l.plan.secrets) (secrets_after how l.plan.secrets) a)
  pub takes : (unit : RpcUnit) (units : List RpcUnit) (l : Logons) (a : List Action) → T (unit ∷ units) l a →
      AfterTaken (T units) K (take_of l.channel unit).taken (with_channel l (take_of l.channel unit).state) a
  pub loses : (units : List RpcUnit) (l : Logons) (a : List Action) (cause : DropCause) → T units l a →
      Ends K (lose_of l.channel).place (ending.NoController cause) (with_channel l (lose_of l.channel).state) a

-- ---- a step

-- what an event does, before the next turn starts
pub record EventRules (T : List RpcUnit → Holds) (G : Bool → Holds) : Type 0 where
  pub link : (dialled : Bool) → LinkRules (G dialled)
  pub turn : TurnRules T (G false)
  pub returns : (units : List RpcUnit) (l : Logons) (a : List Action) → T units l a → G true l a

pub record StepRules (T : List RpcUnit → Holds) (G : Bool → Holds) : Type 0 where
  pub link : (dialled : Bool) → LinkRules (G dialled)
  pub turn : TurnRules T (G false)
  pub returns : (units : List RpcUnit) (l : Logons) (a : List Action) → T units l a → G true l a
  -- a turn starts on the channel that was given its secrets, and its controller is dialled
  pub starts : (dialled : Bool) (l : Logons) (a : List Action) (timestamp : ℕ) (challenge : List ℕ) → can_start l.channel.turn l.channel.waiting ≡ true → G dialled l a →
      G true (with_channel l (start_of (give_secrets true l.plan.secrets l.channel) timestamp challenge).state) (a ++ action.Dial l.plan.controller ∷ [])

pub events_of : (T : List RpcUnit → Holds) (G : Bool → Holds) → StepRules T G → EventRules T G
events_of T G rules = record { link = rules.link; turn = rules.turn; returns = rules.returns }
