-- That what a controller that asks others sends is whole: each send of a step is the bytes of one whole unit, in one
-- fragment or more (C706 12.6.2), and has room in one piece of a link (this project's own choice). The one exception is
-- the reply to a logon that another controller granted: it is whole where the texts that were granted are short.
use Rattle.std.specs.Prelude.{ℕ, ◌≡◌, ◌≤◌, ◌<◌, ◌^◌, ◌⊎◌, true, List, Some, Ok}
use Rattle.std.specs.List.{AllByRecursion}
use Rattle.wire_base.specs.Names.{IsName}
use Rattle.wire_base.specs.Numbers.{AreBytes}
use Rattle.authenticators.specs.SecureChannels.{SecureChannelState}
use Rattle.outside.specs.declared.action.Action.{Action}
use Rattle.outside.specs.declared.action.Action.TheVariants as action
use Rattle.outside.specs.declared.event.Event.{Event}
use Rattle.rpc_units.specs.Calls.{bytes_of_call}
use Rattle.logon_stubs.specs.Calls.{call_of, opnum_of_call}
use Rattle.logon_stubs.specs.Ranges.{HasShortTexts, InRangeNetworkInfo, InRangeSamInfo, IsBlock}
use Rattle.logon_stubs.specs.Writing.{CanWriteSamInfo, written_call, written_reply}
use Rattle.logon_stubs.specs.declared.calls.Call.TheVariants.{Logon}
use Rattle.logon_stubs.specs.declared.calls.LogonCall.{LogonCall}
use Rattle.logon_stubs.specs.declared.info.NetworkInfo.{NetworkInfo}
use Rattle.logon_stubs.specs.declared.info.SamInfo.{SamInfo}
use Rattle.logon_stubs.specs.declared.info.Verdict.TheVariants.{Granted}
use Rattle.account_table.specs.AccountTable.{AccountTable}
use Rattle.end_links.specs.Sending.{frames_of, joined_frames, request_of, response_of}
use Rattle.end_links.specs.Whole.{IsWholeSend}
use Rattle.end_loop.specs.Runs.{actions_of}
use Rattle.channel_client.specs.Machine.{logon_call}
use Rattle.channel_client.specs.Whole.{InRangeCaller, InRangeLogon, InRangeRequester}
use Rattle.channel_client.specs.declared.caller.Caller.{Caller}
use Rattle.channel_turns.specs.declared.state.Dialling.{Dialling}
use Rattle.channel_turns.specs.declared.state.Dialling.TheVariants as dialling
use Rattle.controller_calls.specs.Calls.{IfNetwork}
use Rattle.controller_calls.specs.Desk.{IsLine}
use Rattle.controller_calls.specs.Forwarded.{ForwardedState, IsForwardedCall}
use Rattle.controller_calls.specs.Handing.{forwarded_reply}
use Rattle.controller_calls.specs.declared.calls.ControllerCall.{ControllerCall}
use Rattle.controller_calls.specs.declared.calls.ControllerCall.TheVariants as call
use Rattle.controller_calls.specs.declared.line.Line.{Line}
use Rattle.domain_controller.specs.Forwarding.{fits_on}
use Rattle.domain_controller.specs.Laws.{trust_calls_of}
use Rattle.domain_controller.specs.State.{State}
use Rattle.domain_controller.specs.TrustStep.{first_trust_state, trust_step_of}
use Rattle.domain_controller.specs.Trusting.{ForwardedCalls}
use Rattle.domain_controller.specs.Whole.{AreChallenges, InRangeState, InRangeTable}
use Rattle.domain_controller.specs.declared.state.Running.{Running}
use Rattle.domain_controller.specs.declared.trusting.Queues.{Queues}
use Rattle.domain_controller.specs.declared.trusting.Trusting.{Trusting}

-- ---- the ranges of what a controller keeps of logons that it asks of others

-- a logon that was asked is to be answered at a level that is served, on a line, with a credential of 8 bytes
pub record InRangeForwarded (f : ForwardedState) : Type 0 where
  pub call : IsForwardedCall f
  pub credential : IsBlock 8 f.credential

abbrev pub AreForwardedInRange : ForwardedCalls → Type 0
AreForwardedInRange calls = AllByRecursion (λ (entry : (ℕ × ℕ) × ForwardedState). InRangeForwarded entry.1) calls

pub record InRangeQueues (q : Queues) : Type 0 where
  pub requesters : AllByRecursion InRangeRequester q.requesters
  pub forwarded : AreForwardedInRange q.forwarded

-- the bind that waits for the link of its turn is one whole unit
abbrev pub IsWholeBind : Dialling → Type 0
IsWholeBind dialling.Nothing = Unit {0}
IsWholeBind (dialling.Waits turn frames) = IsWholeSend (joined_frames frames)
IsWholeBind (dialling.On number said) = Unit {0}

pub record InRangeTrusting (t : Trusting) : Type 0 where
  pub queues : InRangeQueues t.queues
  pub bind : IsWholeBind t.dialling

pub record InRangeTrustState (s : State) : Type 0 where
  pub base : InRangeState s
  pub trusting : InRangeTrusting s.trusting

-- what a call tells of a network logon has its ranges, as it has where its stub was of bytes
abbrev pub IsInRangeCall : ControllerCall → Type 0
IsInRangeCall (call.Challenge c) = Unit {0}
IsInRangeCall (call.Authenticate c) = Unit {0}
IsInRangeCall (call.Judged c) = IfNetwork (λ (c : LogonCall). InRangeNetworkInfo c.info) c

-- ---- what is sent

-- the reply to a logon that was asked, and that the other controller granted
pub record IsGrantReply (bytes : List ℕ) : Type 0 where
  pub line : Line
  pub limits : IsLine line
  pub f : ForwardedState
  pub range : InRangeForwarded f
  pub granted : SamInfo
  pub is : bytes ≡ bytes_of_call (response_of line.call line.context (written_reply (forwarded_reply f (Granted granted)))) line.limit

abbrev pub IsWholeOrGrant : Action → Type 0
IsWholeOrGrant (action.Send link bytes) = IsWholeSend bytes ⊎ IsGrantReply bytes
IsWholeOrGrant (action.Keep bytes) = Unit {0}
IsWholeOrGrant (action.Dial peer) = Unit {0}
IsWholeOrGrant (action.Close link cause) = Unit {0}
IsWholeOrGrant (action.Told link outcome) = Unit {0}
IsWholeOrGrant (action.Judged how) = Unit {0}

-- Whatever comes, from whomever, at any moment of 64 bits and with challenges of 8 bytes.
pub record TrustsSendWhole : Type 0 where
  pub sends : (s : State) (what : Event) (now : ℕ) (left : List (List ℕ)) → InRangeTrustState s → now < 2 ^ 64 → AreChallenges left →
      AllByRecursion IsWholeOrGrant (actions_of (trust_step_of s what now left))
  -- a step leaves the ranges, where the calls that are heard have theirs; and they hold at first
  pub keeps : (s : State) (running : Running) (what : Event) (now : ℕ) (left : List (List ℕ)) → s.running ≡ Some running →
      InRangeTrustState s → now < 2 ^ 64 → AreChallenges left →
      AllByRecursion IsInRangeCall (trust_calls_of what running.links s.trusting.dialling) →
      InRangeTrustState (trust_step_of s what now left).state
  pub first : (table : AccountTable) (name : List ℕ) → InRangeTable table → IsName name → InRangeTrustState (first_trust_state table name)
  -- the reply to a granted logon is whole where what was granted has texts of at most 64 units
  pub short : (bytes : List ℕ) (reply : IsGrantReply bytes) → CanWriteSamInfo reply.granted → HasShortTexts reply.granted →
      InRangeSamInfo reply.granted → IsWholeSend bytes

-- The call that asks another controller for a logon which fits is heard whole: its request is one unit of at most
-- 65,536 bytes, in fragments of any size that may be agreed on.
pub record WhatFitsIsWhole : Type 0 where
  pub waits : (info : NetworkInfo) → fits_on info ≡ true → InRangeNetworkInfo info → InRangeLogon info
  pub request : (number limit : ℕ) (caller : Caller) (channel : SecureChannelState) (timestamp : ℕ) (info : NetworkInfo) → number < 2 ^ 32 →
      1432 ≤ limit → limit ≤ 5840 → InRangeCaller caller → timestamp < 2 ^ 32 → fits_on info ≡ true → InRangeNetworkInfo info →
      IsWholeSend (joined_frames
      (frames_of (request_of number 0 (opnum_of_call (logon_call caller channel timestamp info)) (written_call (logon_call caller channel timestamp info))) limit))
  -- what is read of bytes has its ranges
  pub read : (opnum : ℕ) (stub : List ℕ) (c : LogonCall) → AreBytes stub → call_of opnum stub ≡ Ok (Logon c) → InRangeNetworkInfo c.info
