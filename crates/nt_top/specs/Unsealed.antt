-- A controller that can seal, while nobody asks it to (MS-NRPC 3.1.4.2, secure RPC; that it is then one that can't is
-- this project's own choice). A challenge is a list of 8 bytes.
use Rattle.std.specs.Prelude.{ℕ, ◌≡◌, ◌⊎◌, Bool, true, false, List, [], ◌∷◌, ◌++◌, Option, Some, None}
use Rattle.std.specs.List.{list_any}
use Rattle.ntlm_flags.specs.Flags.{has_flag}
use Rattle.channel_keys.specs.Flags.{secure_rpc_flag}
use Rattle.account_table.specs.AccountTable.{AccountTable}
use Rattle.outside.specs.Machine.{Stepped}
use Rattle.outside.specs.Telling.{Appends}
use Rattle.outside.specs.declared.event.Event.{Event}
use Rattle.outside.specs.declared.event.Happening.{Happening}
use Rattle.outside.specs.declared.event.Happening.TheVariants as happening
use Rattle.channel_turns.specs.declared.state.Dialling.{Dialling}
use Rattle.end_loop.specs.Runs.{AreSteps, Chooses, RunState, Step, moments_of, story_of}
use Rattle.end_loop.specs.Seen.{Sight}
use Rattle.controller_calls.specs.declared.calls.ControllerCall.{ControllerCall}
use Rattle.controller_calls.specs.declared.calls.ControllerCall.TheVariants as call
use Rattle.domain_controller.specs.Laws.{trust_calls_of}
use Rattle.domain_controller.specs.SealStep.{first_seal_state, seal_machine, seal_step_of, without_sealing}
use Rattle.domain_controller.specs.State.{State}
use Rattle.domain_controller.specs.TrustStep.{first_trust_state, trust_machine, trust_step_of}
use Rattle.domain_controller.specs.declared.sealed.Sealing.{Sealing}
use Rattle.domain_controller.specs.declared.state.Running.{Running}
use Rattle.nt_top.specs.declared.exit.Exit.{Exit}
use Rattle.nt_top.specs.Serve.{MayServe}
use Rattle.nt_top.specs.Told.{begun_at}

-- ---- who asks

-- a call asks for a channel that seals: it is an opening that offers secure RPC
abbrev pub asks_to_seal : ControllerCall → Bool
asks_to_seal (call.Challenge c) = false
asks_to_seal (call.Authenticate c) = has_flag c.flags secure_rpc_flag
asks_to_seal (call.Judged c) = false

-- the calls that are heard of an event, where a turn is at that point; a controller that has stopped hears none
abbrev pub calls_at : Option Running → Event → Dialling → List ControllerCall
calls_at None what how = []
calls_at (Some running) what how = trust_calls_of what running.links how

-- a call that is heard of the event asks for it
abbrev pub asks_in : State → Event → Bool
asks_in s what = list_any asks_to_seal (calls_at s.running what s.trusting.dialling)

-- ---- what is sealed

-- no link is sealed, no channel seals, and no logon from a sealed link was asked of another controller
pub record SealsNone (s : Sealing) : Type 0 where
  pub channels : s.seals.kept ≡ []
  pub links : s.links ≡ []
  pub asked : s.asked ≡ []

-- an end that can seal seals nothing; one that can't does so anyway
abbrev pub SealsNothing : Option Sealing → Type 0
SealsNothing None = Unit {0}
SealsNothing (Some s) = SealsNone s

abbrev pub plain_step : Stepped State → Stepped State
plain_step stepped = record stepped { state = without_sealing stepped.state }

-- ---- steps

-- While nothing is sealed, a step in which nobody asks for it is that of one that can't seal, and then nothing is. The
-- answer, the challenges and the rest of the state are the same.
pub record StepsStayPlain : Type 0 where
  pub first : (table : AccountTable) (name : List ℕ) → SealsNothing (first_seal_state table name).trusting.sealing
  pub as_plain : (table : AccountTable) (name : List ℕ) → without_sealing (first_seal_state table name) ≡ first_trust_state table name
  pub step : (s : State) (what : Event) (now : ℕ) (left : List (List ℕ)) → SealsNothing s.trusting.sealing → asks_in s what ≡ false →
      plain_step (seal_step_of s what now left) ≡ trust_step_of (without_sealing s) what now left
  pub stays : (s : State) (what : Event) (now : ℕ) (left : List (List ℕ)) → SealsNothing s.trusting.sealing → asks_in s what ≡ false →
      SealsNothing (seal_step_of s what now left).state.trusting.sealing

-- ---- runs

abbrev pub plain_run : RunState State → RunState State
plain_run run = record run { state = without_sealing run.state }

-- A run of one that can't seal comes to a step that hears an opening which offers secure RPC: the steps before it, and
-- those behind it.
pub record ComesToAsk (start : RunState State) (steps : List Step) : Type 0 where
  pub front : List Step
  pub at : RunState State
  pub step : Step
  pub later : List Step
  pub parts : steps ≡ front ++ step ∷ later
  pub are : AreSteps trust_machine start front at
  pub waiting : List Event
  pub chooses : Chooses trust_machine at.state at.queue step waiting
  pub asks : asks_in at.state step.event ≡ true

-- A run from where nothing is sealed is the same run of one that can't seal, and nothing is sealed at its end; or an
-- opening that offers secure RPC is heard in it.
pub record RunsStayPlain : Type 0 where
  pub run : (start last : RunState State) (steps : List Step) → SealsNothing start.state.trusting.sealing →
      AreSteps seal_machine start steps last →
      (AreSteps trust_machine (plain_run start) steps (plain_run last) × SealsNothing last.state.trusting.sealing)
      ⊎ ComesToAsk (plain_run start) steps

-- ---- services

-- What the outside tells between two moments begins so: the port listened at the address, a controller of that name
-- over that table, which can't seal, made these steps, and then comes one that hears an opening which offers secure
-- RPC.
pub record IsAskedToSeal (table : AccountTable) (name address : List ℕ) (before after : Sight) : Type 0 where
  pub front : List Step
  pub at : RunState State
  pub step : Step
  pub are : AreSteps trust_machine (begun_at (first_trust_state table name) [] after.drawing) front at
  pub waiting : List Event
  pub chooses : Chooses trust_machine at.state at.queue step waiting
  pub asks : asks_in at.state step.event ≡ true
  -- what happened at the port afterwards, and the moments that were given
  pub later : List Happening
  pub moments_later : List ℕ
  pub story : Appends before.story after.story (happening.Listened address ∷ (story_of front ++ (step.asked ++ later)))
  pub moments : Appends before.moments after.moments (moments_of front ++ step.moment ∷ moments_later)

-- The service of a controller that can seal is that of one that can't, or it was asked to seal.
pub record ServicesStayPlain : Type 0 where
  pub service : (table : AccountTable) (name : List ℕ) (file : Option (List ℕ)) (address seed : List ℕ) (boot most : ℕ) (before after : Sight) (exit : Exit) →
      MayServe seal_machine file [] (first_seal_state table name) address seed boot most before after exit →
      MayServe trust_machine file [] (first_trust_state table name) address seed boot most before after exit
      ⊎ IsAskedToSeal table name address before after
