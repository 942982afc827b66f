-- That what the end that asks sends on a secure channel is whole: each bind and each request is the bytes of one whole
-- unit, in one fragment or more (C706 12.6.2), and has room in one piece of a link (this project's own choice). It
-- holds where what the end keeps is in its ranges, and each step leaves it so.
use Rattle.std.specs.Prelude.{ℕ, ◌≡◌, ◌+◌, ◌≤◌, ◌<◌, ◌^◌, List, length, Option, Some, None}
use Rattle.std.specs.List.{AllByRecursion}
use Rattle.wire_base.specs.Units.{AreUnits}
use Rattle.rpc_units.specs.declared.unit.Unit.{Unit as RpcUnit}
use Rattle.logon_stubs.specs.declared.calls.Call.{Call}
use Rattle.logon_stubs.specs.declared.info.NetworkInfo.{NetworkInfo}
use Rattle.logon_stubs.specs.Ranges.{InRangeCall, InRangeNetworkInfo, IsBlock, call_content, logon_content}
use Rattle.logon_stubs.specs.Writing.{CanWriteCall, CanWriteNetworkInfo}
use Rattle.secret_change.specs.declared.calls.SetCall.{SetCall}
use Rattle.end_links.specs.Sending.{joined_frames}
use Rattle.end_links.specs.Whole.{content_limit, IsWholeSend, names_limit}
use Rattle.channel_client.specs.Machine.{CanSendSet, ask_of, fresh_requester, lose_of, set_next_of, start_of, take_of, use_secret_of}
use Rattle.channel_client.specs.State.{Requester}
use Rattle.channel_client.specs.declared.answers.Taken.{Taken}
use Rattle.channel_client.specs.declared.answers.Taken.TheVariants as taken
use Rattle.channel_client.specs.declared.caller.Caller.{Caller}
use Rattle.channel_client.specs.declared.state.Pending.{Pending}
use Rattle.channel_client.specs.declared.state.Step.{Step}
use Rattle.channel_client.specs.declared.state.Step.TheVariants as step
use Rattle.channel_client.specs.declared.state.SetStep.{SetStep}
use Rattle.channel_client.specs.declared.state.SetStep.TheVariants as set_step
use Rattle.channel_client.specs.declared.state.Waiting.{Waiting}

-- ---- the ranges of what is kept

-- names of 64 units, and of 65 with the dollar sign behind them; the kind of the channel has 16 bits
pub record InRangeCaller (caller : Caller) : Type 0 where
  pub computer : length caller.computer ≤ 64
  pub computer_units : AreUnits caller.computer
  pub account : length caller.account ≤ 65
  pub account_units : AreUnits caller.account
  pub kind : caller.kind < 2 ^ 16

-- what is told of a logon can be written, and its texts and responses have at most 57,000 bytes in all
pub record InRangeLogon (info : NetworkInfo) : Type 0 where
  pub writes : CanWriteNetworkInfo info
  pub range : InRangeNetworkInfo info
  pub few : logon_content info ≤ content_limit

abbrev pub InRangeWaiting : List Waiting → Type 0
InRangeWaiting logons = AllByRecursion (λ (logon : Waiting). InRangeLogon logon.info) logons

-- a call can be written, and the frames of its request have room in one piece of a link
pub record HasRoom (c : Call) : Type 0 where
  pub writes : CanWriteCall c
  pub range : InRangeCall c
  pub few : call_content c ≤ content_limit + names_limit

-- a change of a secret can be sent, it names no server, and the frames of its request have room in one piece of a link
pub record HasSetRoom (c : SetCall) : Type 0 where
  pub sends : CanSendSet c
  pub primary : c.primary ≡ None
  pub few : length c.account + length c.computer ≤ 129

abbrev pub InRangeSetStep : SetStep → Type 0
InRangeSetStep (set_step.Bind c) = HasSetRoom c
InRangeSetStep set_step.Reply = Unit {0}

abbrev pub InRangeStep : Step → Type 0
InRangeStep (step.Bind c) = HasRoom c
InRangeStep (step.Reply q) = Unit {0}
InRangeStep (step.Set st) = InRangeSetStep st

abbrev pub InRangeTurn : Option Pending → Type 0
InRangeTurn None = Unit {0}
InRangeTurn (Some p) = InRangeStep p.step

pub record InRangeRequester (s : Requester) : Type 0 where
  pub caller : InRangeCaller s.caller
  pub waiting : InRangeWaiting s.waiting
  pub next_place : s.next_place < 2 ^ 32
  pub next_call : s.next_call < 2 ^ 32
  pub turn : InRangeTurn s.turn

-- ---- what is sent

-- the bind of a turn that starts
abbrev pub IsWholeStart : Option (Unit {0} × List (List ℕ)) → Type 0
IsWholeStart None = Unit {0}
IsWholeStart (Some start) = IsWholeSend (joined_frames start.1)

-- the request that goes out once the bind is answered
abbrev pub IsWholeNext : Taken → Type 0
IsWholeNext (taken.Skip right) = Unit {0}
IsWholeNext (taken.Next right frames) = IsWholeSend (joined_frames frames)
IsWholeNext taken.Half = Unit {0}
IsWholeNext taken.Opened = Unit {0}
IsWholeNext (taken.Answer place verdict) = Unit {0}
IsWholeNext (taken.Dropped place cause) = Unit {0}
IsWholeNext taken.Set = Unit {0}

pub record RequestersSendWhole : Type 0 where
  pub fresh : (caller : Caller) → InRangeCaller caller → InRangeRequester (fresh_requester caller)
  pub ask : (s : Requester) (info : NetworkInfo) → InRangeRequester s → InRangeLogon info → InRangeRequester (ask_of s info).state
  pub start : (s : Requester) (timestamp : ℕ) (challenge : List ℕ) → InRangeRequester s → timestamp < 2 ^ 32 → IsBlock 8 challenge →
      InRangeRequester (start_of s timestamp challenge).state × IsWholeStart (start_of s timestamp challenge).answer
  pub take : (s : Requester) (unit : RpcUnit) → InRangeRequester s → InRangeRequester (take_of s unit).state × IsWholeNext (take_of s unit).taken
  pub lose : (s : Requester) → InRangeRequester s → InRangeRequester (lose_of s).state
  pub use_secret : (s : Requester) (secret : List ℕ) → InRangeRequester s → InRangeRequester (use_secret_of s secret)
  pub set_next : (s : Requester) (next : Option (List ℕ)) → InRangeRequester s → InRangeRequester (set_next_of s next)
