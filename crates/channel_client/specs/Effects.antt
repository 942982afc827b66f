-- What each step of the end that asks does to its channel, seen from outside. Nothing else of the steps has to be known
-- to reason about the channel, the calls on it and the numbers of its units.
use Rattle.std.specs.Prelude.{ℕ, ◌≡◌, ◌≢◌, ◌≤◌, List, [], ◌∷◌, length, Option, Some, None, Ok, Err}
use Rattle.std.specs.List.{AllByRecursion}
use Rattle.channel_keys.specs.Credentials.{cred_of}
use Rattle.authenticators.specs.Channels.{ChannelIdentity, channel_key}
use Rattle.authenticators.specs.Sequences.{next_seed}
use Rattle.authenticators.specs.SecureChannels.{channel_of}
use Rattle.rpc_units.specs.declared.unit.Unit.{Unit as RpcUnit}
use Rattle.logon_stubs.specs.declared.info.NetworkInfo.{NetworkInfo}
use Rattle.logon_stubs.specs.declared.calls.Call.{Call}
use Rattle.logon_stubs.specs.declared.calls.Call.TheVariants as call
use Rattle.channel_client.specs.State.{Requester}
use Rattle.channel_client.specs.Machine.{SetOutcome, after, waiting_limit, fresh_requester, ask_of, start_of, hear, judge, judge_set, take_of, lose_of, use_secret_of, set_next_of}
use Rattle.channel_client.specs.declared.caller.Caller.{Caller}
use Rattle.channel_client.specs.declared.state.Standing.{Standing}
use Rattle.channel_client.specs.declared.state.Standing.TheVariants as standing
use Rattle.channel_client.specs.declared.state.Question.{Question}
use Rattle.channel_client.specs.declared.state.Question.TheVariants as question
use Rattle.channel_client.specs.declared.state.Step.{Step}
use Rattle.channel_client.specs.declared.state.Step.TheVariants as step
use Rattle.channel_client.specs.declared.state.SetStep.{SetStep}
use Rattle.channel_client.specs.declared.state.SetStep.TheVariants as set_step
use Rattle.channel_client.specs.declared.state.Pending.{Pending}
use Rattle.channel_client.specs.declared.state.Waiting.{Waiting}
use Rattle.channel_client.specs.declared.hearing.Hearing.{Hearing}
use Rattle.channel_client.specs.declared.hearing.Hearing.TheVariants as hearing
use Rattle.channel_client.specs.declared.hearing.SetHearing.{SetHearing}
use Rattle.channel_client.specs.declared.hearing.SetHearing.TheVariants as set_hearing
use Rattle.channel_client.specs.declared.judging.Judgement.{Judgement}
use Rattle.channel_client.specs.declared.judging.Judgement.TheVariants as judgement

-- ---- what is seen

pub record View : Type 0 where
  -- the channel that stands, and its seed
  pub stands : Option ChannelIdentity
  pub seed : Option (List ℕ)
  -- the client's challenge of an opening that is under way
  pub opening : Option (List ℕ)
  -- the number of the call that is out on the channel that stands
  pub asking : Option ℕ
  -- the number of the next bind or request
  pub call : ℕ

abbrev pub stands_in : ℕ → List ℕ → Standing → Option ChannelIdentity
stands_in controller computer standing.Nothing = None
stands_in controller computer (standing.Half client server) = None
stands_in controller computer (standing.Open o) = Some (channel_of controller computer o)

abbrev pub seed_in : Standing → Option (List ℕ)
seed_in standing.Nothing = None
seed_in (standing.Half client server) = None
seed_in (standing.Open o) = Some o.seed

abbrev pub opening_asked : Question → Option (List ℕ)
opening_asked (question.Challenge client) = Some client
opening_asked question.Authenticate = None
opening_asked question.Logon = None

abbrev pub opening_called : Call → Option (List ℕ)
opening_called (call.Challenge value) = Some value.challenge
opening_called (call.Authenticate value) = None
opening_called (call.Logon value) = None
opening_called (call.Logoff value) = None

abbrev pub opening_step : Option Step → Option (List ℕ)
opening_step None = None
opening_step (Some (step.Bind c)) = opening_called c
opening_step (Some (step.Reply q)) = opening_asked q
opening_step (Some (step.Set st)) = None

abbrev pub opening_in : Standing → Option Step → Option (List ℕ)
opening_in standing.Nothing st = opening_step st
opening_in (standing.Half client server) st = Some client
opening_in (standing.Open o) st = None

abbrev pub asking_set : SetStep → ℕ → Option ℕ
asking_set (set_step.Bind c) number = None
asking_set set_step.Reply number = Some number

abbrev pub asking_step : Option Step → ℕ → Option ℕ
asking_step None number = None
asking_step (Some (step.Bind c)) number = None
asking_step (Some (step.Reply q)) number = Some number
asking_step (Some (step.Set st)) number = asking_set st number

abbrev pub asking_in : Standing → Option Step → ℕ → Option ℕ
asking_in standing.Nothing st number = None
asking_in (standing.Half client server) st number = None
asking_in (standing.Open o) st number = asking_step st number

abbrev pub view_at : ℕ → List ℕ → Standing → Option Step → ℕ → ℕ → View
view_at controller computer how st number next = record {
  stands = stands_in controller computer how;
  seed = seed_in how;
  opening = opening_in how st;
  asking = asking_in how st number;
  call = next;
}

-- what the turn waits for, and the number of the unit
abbrev pub step_in : Option Pending → Option Step
step_in None = None
step_in (Some p) = Some p.step

abbrev pub number_in : Option Pending → ℕ
number_in None = 0
number_in (Some p) = p.number

-- the channel with that controller, as it is seen
abbrev pub view_of : ℕ → Requester → View
view_of controller s =
    view_at controller s.caller.computer s.standing (step_in s.turn) (number_in s.turn) s.next_call

-- ---- what holds of it at every moment

-- the call is the one that the channel needs next
abbrev pub MatchesCall : Standing → Call → Type 0
MatchesCall standing.Nothing (call.Challenge value) = Unit {0}
MatchesCall (standing.Half client server) (call.Authenticate value) = Unit {0}
MatchesCall (standing.Open o) (call.Logon value) = Unit {0}
MatchesCall _ _ = ⊥

abbrev pub MatchesQuestion : Standing → Question → Type 0
MatchesQuestion standing.Nothing (question.Challenge client) = Unit {0}
MatchesQuestion (standing.Half client server) question.Authenticate = Unit {0}
MatchesQuestion (standing.Open o) question.Logon = Unit {0}
MatchesQuestion _ _ = ⊥

-- a secret is set on an open channel alone
abbrev pub MatchesSet : Standing → Type 0
MatchesSet standing.Nothing = ⊥
MatchesSet (standing.Half client server) = ⊥
MatchesSet (standing.Open o) = Unit {0}

abbrev pub MatchesStep : Standing → Option Step → Type 0
MatchesStep how None = Unit {0}
MatchesStep how (Some (step.Bind c)) = MatchesCall how c
MatchesStep how (Some (step.Reply q)) = MatchesQuestion how q
MatchesStep how (Some (step.Set st)) = MatchesSet how

-- a logon call is for that logon
abbrev pub IsCallFor : Call → NetworkInfo → Type 0
IsCallFor (call.Logon value) info = value.info ≡ info
IsCallFor (call.Logoff value) info = Unit {0}
IsCallFor (call.Challenge value) info = Unit {0}
IsCallFor (call.Authenticate value) info = Unit {0}

abbrev pub IsStepFor : Step → NetworkInfo → Type 0
IsStepFor (step.Bind c) info = IsCallFor c info
IsStepFor (step.Reply q) info = Unit {0}
IsStepFor (step.Set st) info = Unit {0}

-- the turn is for the first logon that waits
abbrev pub IsForFirst : Option Pending → List Waiting → Type 0
IsForFirst None logons = Unit {0}
IsForFirst (Some p) [] = ⊥
IsForFirst (Some p) (logon ∷ logons) = (p.place ≡ logon.place) × IsStepFor p.step logon.info

abbrev pub first_place : List Waiting → ℕ → ℕ
first_place [] next = next
first_place (logon ∷ logons) next = logon.place

-- places follow one another, up to the next one
abbrev pub AreInOrder : List Waiting → ℕ → Type 0
AreInOrder [] next = Unit {0}
AreInOrder (logon ∷ logons) next = (first_place logons next ≡ after logon.place) × AreInOrder logons next

-- no two logons have one place
abbrev pub ArePlacesApart : List Waiting → Type 0
ArePlacesApart [] = Unit {0}
ArePlacesApart (logon ∷ logons) = AllByRecursion (λ later. logon.place ≢ later.place) logons × ArePlacesApart logons

pub record IsCoherent (s : Requester) : Type 0 where
  pub matches : MatchesStep s.standing (step_in s.turn)
  pub first : IsForFirst s.turn s.waiting
  pub places : AreInOrder s.waiting s.next_place
  pub few : length s.waiting ≤ waiting_limit

-- ---- effects

pub data Effect : Type 0 where
  -- nothing that is seen changes
  Stays : Effect
  -- a number is used, for a bind or for a call that opens the channel
  Counts : Effect
  -- an opening begins, with this challenge
  Begins : (client : List ℕ) → Effect
  -- the channel stands
  Opens : (c : ChannelIdentity) → Effect
  -- a turn on the channel starts, with this timestamp
  Moves : (c : ChannelIdentity) (timestamp : ℕ) → Effect
  -- a call on the channel goes out, with this number
  Calls : (c : ChannelIdentity) (number : ℕ) → Effect
  -- the answer to it is taken
  Answers : (c : ChannelIdentity) (number : ℕ) → Effect
  -- the channel is given up
  Drops : Effect

-- what each changes, of what is seen before and after
abbrev pub Changes : Effect → View → View → Type 0
Changes Stays u v = v ≡ u
Changes Counts u v = v ≡ record u { call = after u.call }
Changes (Begins client) u v =
    (u.stands ≡ None)
    × (v ≡ record { stands = None; seed = None; opening = Some client; asking = None; call = after u.call })
Changes (Opens c) u v =
    (u.opening ≡ Some c.client)
    × (v ≡ record { stands = Some c; seed = Some (cred_of (channel_key c) c.client); opening = None; asking = None; call = u.call })
Changes (Moves c timestamp) u v =
    (seed : List ℕ) × (u.stands ≡ Some c) × (u.seed ≡ Some seed) × (u.asking ≡ None)
    × (v ≡ record u { seed = Some (next_seed seed timestamp); call = after u.call })
Changes (Calls c number) u v =
    (u.stands ≡ Some c) × (u.opening ≡ None) × (number ≡ u.call)
    × (v ≡ record u { asking = Some number; call = after u.call })
Changes (Answers c number) u v =
    (u.stands ≡ Some c) × (u.asking ≡ Some number) × (v ≡ record u { asking = None })
Changes Drops u v = v ≡ record { stands = None; seed = None; opening = None; asking = None; call = u.call }

-- ---- the effect of each step, at that controller

abbrev pub effect_begun : ℕ → Standing → List ℕ → ℕ → List ℕ → Effect
effect_begun controller standing.Nothing computer timestamp challenge = Begins challenge
effect_begun controller (standing.Half client server) computer timestamp challenge = Counts
effect_begun controller (standing.Open o) computer timestamp challenge = Moves (channel_of controller computer o) timestamp

abbrev pub effect_start : ℕ → Option Pending → List Waiting → Standing → List ℕ → ℕ → List ℕ → Effect
effect_start controller (Some p) logons how computer timestamp challenge = Stays
effect_start controller None [] how computer timestamp challenge = Stays
effect_start controller None (logon ∷ logons) how computer timestamp challenge =
    effect_begun controller how computer timestamp challenge

abbrev pub effect_of_start : ℕ → Requester → ℕ → List ℕ → Effect
effect_of_start controller s timestamp challenge =
    effect_start controller s.turn s.waiting s.standing s.caller.computer timestamp challenge

abbrev pub effect_judged : ℕ → Judgement → List ℕ → ℕ → Effect
effect_judged controller (judgement.Half client server) computer number = Stays
effect_judged controller (judgement.Opened o) computer number = Opens (channel_of controller computer o)
effect_judged controller (judgement.Answer o v) computer number = Answers (channel_of controller computer o) number
effect_judged controller (judgement.Drop cause) computer number = Drops

abbrev pub effect_next : ℕ → Standing → List ℕ → ℕ → Effect
effect_next controller standing.Nothing computer next = Counts
effect_next controller (standing.Half client server) computer next = Counts
effect_next controller (standing.Open o) computer next = Calls (channel_of controller computer o) next

-- of the reply to a change: the channel stays, or is given up
abbrev pub effect_judged_set : ℕ → SetOutcome → List ℕ → ℕ → Effect
effect_judged_set controller (Ok o) computer number = Answers (channel_of controller computer o) number
effect_judged_set controller (Err cause) computer number = Drops

abbrev pub effect_set : ℕ → SetHearing → Requester → Effect
effect_set controller (set_hearing.Next frames) s = effect_next controller s.standing s.caller.computer s.next_call
effect_set controller (set_hearing.Reply r) s =
    effect_judged_set controller (judge_set r s.standing) s.caller.computer (number_in s.turn)

abbrev pub effect_heard : ℕ → Hearing → Requester → Effect
effect_heard controller hearing.Skip s = Stays
effect_heard controller (hearing.Next q frames) s = effect_next controller s.standing s.caller.computer s.next_call
effect_heard controller (hearing.Reply q r) s =
    effect_judged controller (judge q r s.standing s.caller.secret) s.caller.computer (number_in s.turn)
effect_heard controller (hearing.Drop cause) s = Drops
effect_heard controller (hearing.Set what) s = effect_set controller what s

abbrev pub effect_of_take : ℕ → Requester → RpcUnit → Effect
effect_of_take controller s unit = effect_heard controller (hear s.turn unit s.next_call) s

-- ---- laws

-- the step has that effect, and what holds of a requester holds of it again
abbrev pub HasEffect : ℕ → Effect → Requester → Requester → Type 0
HasEffect controller effect s t = Changes effect (view_of controller s) (view_of controller t) × IsCoherent t

-- Each step has an effect, whatever controller the channel is with, and keeps what holds at every moment; so no two
-- logons that wait have one place.
pub record StepsHaveEffects : Type 0 where
  pub fresh : (caller : Caller) → IsCoherent (fresh_requester caller)
  pub ask : (controller : ℕ) (s : Requester) (info : NetworkInfo) → IsCoherent s →
      HasEffect controller Stays s (ask_of s info).state
  pub start : (controller : ℕ) (s : Requester) (timestamp : ℕ) (challenge : List ℕ) → IsCoherent s →
      HasEffect controller (effect_of_start controller s timestamp challenge) s (start_of s timestamp challenge).state
  pub take : (controller : ℕ) (s : Requester) (unit : RpcUnit) → IsCoherent s →
      HasEffect controller (effect_of_take controller s unit) s (take_of s unit).state
  pub use_secret : (controller : ℕ) (s : Requester) (secret : List ℕ) → IsCoherent s →
      HasEffect controller Stays s (use_secret_of s secret)
  pub set_next : (controller : ℕ) (s : Requester) (next : Option (List ℕ)) → IsCoherent s →
      HasEffect controller Stays s (set_next_of s next)
  pub places : (s : Requester) → IsCoherent s → ArePlacesApart s.waiting
  pub lose : (controller : ℕ) (s : Requester) → IsCoherent s → HasEffect controller Drops s (lose_of s).state
