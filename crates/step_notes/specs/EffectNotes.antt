-- What is written down of a step of a requester (`turn_note`) is what its effect on the channel says (`Effects` of
-- `channel_client`). So marks of requests, and the channels on which credentials pass, can be had from the step itself.
use Rattle.std.specs.Prelude.{ℕ, ◌≡◌, ◌⊎◌, Bool, true, false, List, Option, Some, None}
use Rattle.rpc_units.specs.declared.unit.Unit.{Unit as RpcUnit}
use Rattle.logon_stubs.specs.declared.info.NetworkInfo.{NetworkInfo}
use Rattle.authenticators.specs.Channels.{ChannelIdentity}
use Rattle.channel_client.specs.Effects.{Effect, Stays, Counts, Begins, Opens, Moves, Calls, Answers, Drops, IsCoherent, View, effect_of_take, step_in, view_of}
use Rattle.channel_client.specs.Machine.{ask_of, fresh_requester, set_next_of, start_of, take_of, use_secret_of}
use Rattle.channel_client.specs.State.{Requester}
use Rattle.channel_client.specs.declared.caller.Caller.{Caller}
use Rattle.channel_client.specs.declared.state.Question.TheVariants as question
use Rattle.channel_client.specs.declared.state.Step.{Step}
use Rattle.channel_client.specs.declared.state.Step.TheVariants as step
use Rattle.channel_events.specs.Marks.{Calling, Opening, Plain}
use Rattle.channel_events.specs.Requests.{fresh_view}
use Rattle.step_notes.specs.ChannelNames.{passed_note}
use Rattle.step_notes.specs.MemberNotes.{TurnNote, no_note, request_note, taking_note}

-- whether the requester waits for the reply to its NetrServerAuthenticate2
abbrev pub asks_opening : Option Step → Bool
asks_opening (Some (step.Reply question.Authenticate)) = true
asks_opening _ = false

abbrev pub opening_out_of : Requester → Bool
opening_out_of s = asks_opening (step_in s.turn)

-- while an opening is under way, whether the requester's opening is out stays as it was
abbrev pub StaysOut : View → Bool → Bool → Type 0
StaysOut v old new = (challenge : List ℕ) → v.opening ≡ Some challenge → new ≡ old

-- the opening that is under way goes out, which wasn't out before
pub record GoesOut (note : TurnNote) (u : View) (old new : Bool) : Type 0 where
  pub channel : ChannelIdentity
  pub is : note ≡ request_note (Opening channel u.call) None
  pub none : u.stands ≡ None
  pub under_way : u.opening ≡ Some channel.client
  pub unsent : old ≡ false
  pub out : new ≡ true

-- by its effect, what is written down of a unit that it takes: of what is seen of it before and after, and of whether
-- its opening was out and is out. A call is for the logon of a place, or for none, as one that sets a secret is
abbrev pub IsNotedBy : Effect → TurnNote → View → View → Bool → Bool → Type 0
IsNotedBy Stays note u v old new = (note ≡ no_note) × StaysOut v old new
IsNotedBy Counts note u v old new = ((note ≡ request_note Plain None) × StaysOut v old new) ⊎ GoesOut note u old new
IsNotedBy (Begins client) note u v old new = ⊥
IsNotedBy (Opens c) note u v old new = note ≡ passed_note c None None
IsNotedBy (Moves c timestamp) note u v old new = ⊥
IsNotedBy (Calls c number) note u v old new =
    (timestamp : ℕ) × (called : Option ℕ) × (note ≡ request_note (Calling c number timestamp) called)
IsNotedBy (Answers c number) note u v old new =
    (answered : Option ℕ) × (note ≡ passed_note c answered (Some number)) × StaysOut v old new
IsNotedBy Drops note u v old new = note ≡ no_note

-- a requester that is made anew is fresh; a logon that is asked, a secret that is given and a turn that starts send no
-- opening; and a unit that is taken is noted by its effect
pub record StepsAreNoted : Type 0 where
  pub fresh : (controller : ℕ) (caller : Caller) → view_of controller (fresh_requester caller) ≡ fresh_view
  pub ask : (s : Requester) (info : NetworkInfo) → opening_out_of (ask_of s info).state ≡ opening_out_of s
  pub start : (s : Requester) (timestamp : ℕ) (challenge : List ℕ) → opening_out_of (start_of s timestamp challenge).state ≡ opening_out_of s
  pub use_secret : (s : Requester) (secret : List ℕ) → opening_out_of (use_secret_of s secret) ≡ opening_out_of s
  pub set_next : (s : Requester) (next : Option (List ℕ)) → opening_out_of (set_next_of s next) ≡ opening_out_of s
  pub take : (controller : ℕ) (s : Requester) (unit : RpcUnit) → IsCoherent s →
      IsNotedBy (effect_of_take controller s unit) (taking_note (Some (take_of s unit)) controller s) (view_of controller s)
      (view_of controller (take_of s unit).state) (opening_out_of s) (opening_out_of (take_of s unit).state)
