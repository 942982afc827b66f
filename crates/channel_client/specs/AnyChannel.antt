-- What holds of the steps of any channel of the end that asks, sealed or not. Of one that seals nothing `Turns`,
-- `Effects`, `Whole`, `Grants` and `NoNext` say it too.
use Rattle.std.specs.Prelude.{ℕ, ◌≡◌, ◌≤◌, ◌<◌, ◌^◌, true, false, List, length, Option, Some, None, is_some}
use Rattle.wire_base.specs.Numbers.{AreBytes}
use Rattle.rpc_units.specs.declared.unit.Unit.{Unit as RpcUnit}
use Rattle.logon_stubs.specs.Ranges.{InRangeSamInfo, IsBlock}
use Rattle.logon_stubs.specs.Writing.{CanWriteSamInfo}
use Rattle.channel_client.specs.Effects.{Effect, HasEffect, IsCoherent, Stays, effect_heard, effect_judged, effect_of_start, effect_of_take, number_in}
use Rattle.channel_client.specs.Grants.{HasBytes, IfTaken}
use Rattle.channel_client.specs.Machine.{can_start}
use Rattle.channel_client.specs.NoNext.{HasNoNext, gives_set}
use Rattle.channel_client.specs.Sealed.{channel_start, channel_take, draws_challenge, fresh_channel_of, heard_by, judge_sealed, unseal_of}
use Rattle.channel_client.specs.Sealing.{wire_of}
use Rattle.channel_client.specs.State.{Requester}
use Rattle.channel_client.specs.Turns.{gives_right, is_out}
use Rattle.channel_client.specs.Whole.{InRangeCaller, InRangeRequester, IsWholeNext, IsWholeStart}
use Rattle.channel_client.specs.declared.caller.Caller.{Caller}
use Rattle.channel_client.specs.declared.hearing.Hearing.{Hearing}
use Rattle.channel_client.specs.declared.hearing.Hearing.TheVariants as hearing
use Rattle.channel_client.specs.declared.state.Sealing.{Sealing}

-- ---- one turn is out at a time

-- A right is in the caller's hands exactly where a turn is out.
pub record ChannelsHaveOneTurn : Type 0 where
  pub fresh : (sealing : Option Sealing) (caller : Caller) → is_out (fresh_channel_of sealing caller) ≡ false
  pub start : (s : Requester) (timestamp : ℕ) (challenge : List ℕ) → is_some (channel_start s timestamp challenge).answer ≡ can_start s.turn s.waiting
  pub started : (s : Requester) (timestamp : ℕ) (challenge : List ℕ) → can_start s.turn s.waiting ≡ true →
      (is_out s ≡ false) × (is_out (channel_start s timestamp challenge).state ≡ true)
  pub unstarted : (s : Requester) (timestamp : ℕ) (challenge : List ℕ) → can_start s.turn s.waiting ≡ false →
      (channel_start s timestamp challenge).state ≡ s
  pub take : (s : Requester) (unit : RpcUnit) → is_out s ≡ true → gives_right (channel_take s unit).taken ≡ is_out (channel_take s unit).state
  pub unseal : (s : Requester) (unit : List ℕ) (from to : ℕ) → is_out (unseal_of s unit from to).state ≡ is_out s
  -- a challenge is looked at only where it is drawn
  pub challenge : (s : Requester) (timestamp : ℕ) (one other : List ℕ) → draws_challenge s.sealing s.standing ≡ false →
      channel_start s timestamp one ≡ channel_start s timestamp other

-- ---- effects

abbrev pub effect_sealed : (controller : ℕ) (heard : Hearing) (requester : Requester) → Effect
effect_sealed controller hearing.Skip s = effect_heard controller hearing.Skip s
effect_sealed controller (hearing.Next q frames) s = effect_heard controller (hearing.Next q frames) s
effect_sealed controller (hearing.Reply q r) s =
    effect_judged controller (judge_sealed q r s.standing s.caller.secret) s.caller.computer (number_in s.turn)
effect_sealed controller (hearing.Drop cause) s = effect_heard controller (hearing.Drop cause) s
effect_sealed controller (hearing.Set what) s = effect_heard controller (hearing.Set what) s

abbrev pub effect_of_take_with : ℕ → Option Sealing → Requester → RpcUnit → Effect
effect_of_take_with controller None s unit = effect_of_take controller s unit
effect_of_take_with controller (Some g) s unit = effect_sealed controller (heard_by s.standing g s.turn unit s.next_call).0 s

abbrev pub effect_of_channel_take : ℕ → Requester → RpcUnit → Effect
effect_of_channel_take controller s unit = effect_of_take_with controller s.sealing s unit

-- The effects are those of a channel that seals nothing: what is sealed isn't seen in them.
pub record ChannelsHaveEffects : Type 0 where
  pub fresh : (sealing : Option Sealing) (caller : Caller) → IsCoherent (fresh_channel_of sealing caller)
  pub start : (controller : ℕ) (s : Requester) (timestamp : ℕ) (challenge : List ℕ) → IsCoherent s →
      HasEffect controller (effect_of_start controller s timestamp challenge) s (channel_start s timestamp challenge).state
  pub take : (controller : ℕ) (s : Requester) (unit : RpcUnit) → IsCoherent s →
      HasEffect controller (effect_of_channel_take controller s unit) s (channel_take s unit).state
  pub unseal : (controller : ℕ) (s : Requester) (unit : List ℕ) (from to : ℕ) → IsCoherent s →
      HasEffect controller Stays s (unseal_of s unit from to).state

-- ---- what is sent

-- what its binds tell are bytes, at least one and at most 138
abbrev pub InRangeSealing : Option Sealing → Type 0
InRangeSealing None = Unit {0}
InRangeSealing (Some g) = (0 < length g.bind_value) × (length g.bind_value ≤ 138) × AreBytes g.bind_value

-- Each bind is whole, and each request that isn't sealed; each step leaves what is kept in its ranges.
pub record ChannelsSendWhole : Type 0 where
  pub fresh : (sealing : Option Sealing) (caller : Caller) → InRangeCaller caller → InRangeRequester (fresh_channel_of sealing caller)
  pub start : (s : Requester) (timestamp : ℕ) (challenge : List ℕ) → InRangeRequester s → InRangeSealing s.sealing → timestamp < 2 ^ 32 → IsBlock 8 challenge →
      InRangeRequester (channel_start s timestamp challenge).state
      × InRangeSealing (channel_start s timestamp challenge).state.sealing
      × IsWholeStart (channel_start s timestamp challenge).answer
  pub take : (s : Requester) (unit : RpcUnit) → InRangeRequester s → InRangeSealing s.sealing →
      InRangeRequester (channel_take s unit).state
      × InRangeSealing (channel_take s unit).state.sealing
      × (wire_of s.sealing s.standing ≡ None → IsWholeNext (channel_take s unit).taken)
  pub unseal : (s : Requester) (unit : List ℕ) (from to : ℕ) → InRangeRequester s → InRangeSealing s.sealing →
      InRangeRequester (unseal_of s unit from to).state × InRangeSealing (unseal_of s unit from to).state.sealing

-- ---- what is granted

-- for every state, and for every unit whose stub is bytes where it is a response
pub record ChannelGrantsAreWritable : Type 0 where
  pub writes : (s : Requester) (unit : RpcUnit) → HasBytes unit.body → IfTaken (channel_take s unit).taken CanWriteSamInfo
  pub range : (s : Requester) (unit : RpcUnit) → HasBytes unit.body → IfTaken (channel_take s unit).taken InRangeSamInfo

-- ---- without a next secret none is set

pub record ChannelsSetNothing : Type 0 where
  pub gives : (s : Requester) (unit : RpcUnit) → HasNoNext s → gives_set (channel_take s unit).taken ≡ false
  pub started : (s : Requester) (timestamp : ℕ) (challenge : List ℕ) → HasNoNext s → HasNoNext (channel_start s timestamp challenge).state
  pub taken : (s : Requester) (unit : RpcUnit) → HasNoNext s → HasNoNext (channel_take s unit).state
