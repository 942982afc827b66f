-- The ranges of what any channel keeps, sealed or not, through each step, and that its binds are whole. It serves
-- `any_channel_sends_whole`.
use Rattle.std.proofs.Common.{◌≡◌, ◌<◌, ◌≤◌, ◌^◌, ℕ, Bool, true, false, List, [], ◌∷◌, length, Option, Some, None, refl, sym, subst, ◌∙◌, arith, append-nil}
use Rattle.wire_base.specs.Numbers.{AreBytes}
use Rattle.authenticators.proofs.BlockLaws.{cred_block}
use Rattle.rpc_units.specs.declared.unit.Unit.{Unit as RpcUnit}
use Rattle.rpc_units.specs.Writing.{written}
use Rattle.logon_stubs.specs.Interface.{netlogon_syntax}
use Rattle.logon_stubs.specs.Ranges.{IsBlock}
use Rattle.logon_stubs.specs.declared.info.NetworkInfo.{NetworkInfo}
use Rattle.end_links.specs.Sending.{joined_frames}
use Rattle.end_links.specs.Whole.{IsWholeSend}
use Rattle.end_links.proofs.WholeLaws.{syntax_of_bytes}
use Rattle.channel_sealing.specs.Frames.{SealedFrames, seal_all}
use Rattle.channel_sealing.specs.Trailers.{sealed_bind_of}
use Rattle.channel_sealing.proofs.BindLaws.{sealed_bind_whole}
use Rattle.channel_client.specs.AnyChannel.{ChannelsSendWhole, InRangeSealing}
use Rattle.authenticators.specs.SecureChannels.{SecureChannelState}
use Rattle.channel_client.specs.Machine.{Beginning, Starting, act, place_of, settle}
use Rattle.channel_client.specs.Sealed.{act_sealed, begin_sealed, bind_by, hear_room, heard_by, judge_sealed, seal_heard, secure_auth_call, sealed_start_by, sealed_turn, sealing_after, settle_sealed, start_with, take_with, unseal_with}
use Rattle.channel_client.specs.Sealing.{is_opened, opened_sealing, sealing_left, wire_of, with_confounder}
use Rattle.channel_client.specs.State.{Requester}
use Rattle.channel_client.specs.Whole.{HasRoom, InRangeCaller, InRangeLogon, InRangeRequester, InRangeStep, InRangeWaiting, IsWholeNext, IsWholeStart}
use Rattle.channel_client.proofs.UnsealedLaws.{acted_same, plain_channels_stay}
use Rattle.channel_client.proofs.WholeLaws.{HeardWhole, acted, after_below, begun_room, bind_goes, goes_on, heard_whole, requesters_send_whole, settled}
use Rattle.channel_client.specs.declared.caller.Caller.{Caller}
use Rattle.channel_client.specs.declared.hearing.Hearing.{Hearing}
use Rattle.channel_client.specs.declared.hearing.Hearing.TheVariants as hearing
use Rattle.channel_client.specs.declared.hearing.SetHearing.TheVariants as set_hearing
use Rattle.channel_client.specs.declared.judging.Judgement.{Judgement}
use Rattle.channel_client.specs.declared.judging.Judgement.TheVariants as judgement
use Rattle.channel_client.specs.declared.state.Pending.{Pending}
use Rattle.channel_client.specs.declared.state.Sealing.{Sealing}
use Rattle.channel_client.specs.declared.state.SetStep.TheVariants as set_step
use Rattle.channel_client.specs.declared.state.Step.TheVariants as step
use Rattle.channel_client.specs.declared.state.Standing.{Standing}
use Rattle.channel_client.specs.declared.state.Standing.TheVariants as standing
use Rattle.channel_client.specs.declared.state.Waiting.{Waiting}

-- ---- another sealing changes no range

range_with : (s : Requester) (kept : Option Sealing) → InRangeRequester s → InRangeRequester (record s { sealing = kept })
range_with s kept range =
    record { caller = range.caller; waiting = range.waiting; next_place = range.next_place; next_call = range.next_call; turn = range.turn }

-- ---- a turn that starts

secure_auth_room : (caller : Caller) (client server : List ℕ) → InRangeCaller caller → HasRoom (secure_auth_call caller client server)
secure_auth_room caller client server has = record {
  writes = (tt, omega (arith, has.account), omega (arith, has.computer));
  range = record {
    primary = tt;
    account = has.account_units;
    channel = has.kind;
    computer = has.computer_units;
    credential = cred_block _ _;
    flags = omega arith;
  };
  few = omega (arith, has.computer, has.account);
}

sealed_room : (how : Standing) (next : Option (List ℕ)) (caller : Caller) (info : NetworkInfo) (timestamp : ℕ) (challenge : List ℕ) → InRangeCaller caller → InRangeLogon info → timestamp < 2 ^ 32 →
    IsBlock 8 challenge → InRangeStep (begin_sealed how next caller info timestamp challenge).step
sealed_room standing.Nothing next caller info timestamp challenge has is below eight = begun_room standing.Nothing next caller info timestamp challenge has is below eight
sealed_room (standing.Half client server) next caller info timestamp challenge has is below eight = secure_auth_room caller client server has
sealed_room (standing.Open o) next caller info timestamp challenge has is below eight = begun_room (standing.Open o) next caller info timestamp challenge has is below eight

sealed_bind_goes : (number : ℕ) (value : List ℕ) → number < 2 ^ 32 → 0 < length value → length value ≤ 138 → AreBytes value →
    IsWholeSend (joined_frames (written (sealed_bind_of netlogon_syntax number value) ∷ []))
sealed_bind_goes number value below some few bytes =
    subst IsWholeSend (sym (append-nil (written (sealed_bind_of netlogon_syntax number value))))
    (sealed_bind_whole netlogon_syntax number value refl (syntax_of_bytes netlogon_syntax refl) (omega arith) below some few bytes)

bind_by_goes : (how : Standing) (number : ℕ) (value : List ℕ) → number < 2 ^ 32 → 0 < length value → length value ≤ 138 → AreBytes value →
    IsWholeSend (joined_frames (written (bind_by how value number) ∷ []))
bind_by_goes standing.Nothing number value below some few bytes = bind_goes number below
bind_by_goes (standing.Half client server) number value below some few bytes = bind_goes number below
bind_by_goes (standing.Open o) number value below some few bytes = sealed_bind_goes number value below some few bytes

turned : (value : List ℕ) (s : Requester) (place : ℕ) (b : Beginning) → InRangeRequester s → InRangeStep b.step → InRangeRequester (sealed_turn value s place b).state
turned value s place b range room = record {
  caller = range.caller;
  waiting = range.waiting;
  next_place = range.next_place;
  next_call = after_below s.next_call;
  turn = room;
}

sealed_started : (turn : Option Pending) (logons : List Waiting) (g : Sealing) (s : Requester) (timestamp : ℕ) (challenge : List ℕ) → InRangeRequester s → InRangeSealing (Some g) → InRangeWaiting logons →
    timestamp < 2 ^ 32 → IsBlock 8 challenge →
    InRangeRequester (sealed_start_by turn logons g.bind_value s timestamp challenge).state × IsWholeStart (sealed_start_by turn logons g.bind_value s timestamp challenge).answer
sealed_started (Some pending) logons g s timestamp challenge range seals all below eight = (range, tt)
sealed_started None [] g s timestamp challenge range seals all below eight = (range, tt)
sealed_started None (logon ∷ logons) g s timestamp challenge range seals all below eight = (
  turned g.bind_value s logon.place (begin_sealed s.standing s.next s.caller logon.info timestamp challenge) range
      (sealed_room s.standing s.next s.caller logon.info timestamp challenge range.caller all.0 below eight),
  bind_by_goes s.standing s.next_call g.bind_value range.next_call seals.0 seals.1 seals.2,
)

confounded : (opened : Bool) (challenge : List ℕ) (g : Sealing) → InRangeSealing (Some g) → InRangeSealing (Some (with_confounder opened challenge g))
confounded false challenge g seals = seals
confounded true challenge g seals = seals

sealing_stays : (answer : Option (Unit {0} × List (List ℕ))) (opened : Bool) (challenge : List ℕ) (g : Sealing) → InRangeSealing (Some g) → InRangeSealing (Some (sealing_after answer opened challenge g))
sealing_stays None opened challenge g seals = seals
sealing_stays (Some start) opened challenge g seals = confounded opened challenge g seals

started_with : (kept : Option Sealing) (s : Requester) (timestamp : ℕ) (challenge : List ℕ) → s.sealing ≡ kept → InRangeRequester s → InRangeSealing kept → timestamp < 2 ^ 32 → IsBlock 8 challenge →
    InRangeRequester (start_with kept s timestamp challenge).state
    × InRangeSealing (start_with kept s timestamp challenge).state.sealing
    × IsWholeStart (start_with kept s timestamp challenge).answer
started_with None s timestamp challenge is range seals below eight =
    let went = requesters_send_whole.start s timestamp challenge range below eight in
    (went.0, subst InRangeSealing (sym (plain_channels_stay.started s timestamp challenge ∙ is)) tt, went.1)
started_with (Some g) s timestamp challenge is range seals below eight =
    let went = sealed_started s.turn s.waiting g s timestamp challenge range seals range.waiting below eight in
    let began : Starting = sealed_start_by s.turn s.waiting g.bind_value s timestamp challenge in
    (range_with began.state (Some (sealing_after began.answer (is_opened s.standing) challenge g)) went.0, sealing_stays began.answer (is_opened s.standing) challenge g seals, went.1)

-- ---- a unit that is taken

sealing_goes_on : (sealed : Option SealedFrames) (g : Sealing) → InRangeSealing (Some g) → InRangeSealing (Some (sealing_left sealed g))
sealing_goes_on None g seals = seals
sealing_goes_on (Some sealed) g seals = seals

heard_seals : (h : Hearing) (g : Sealing) → InRangeSealing (Some g) → InRangeSealing (Some (seal_heard h g).1)
heard_seals hearing.Skip g seals = seals
heard_seals (hearing.Next q frames) g seals = sealing_goes_on (seal_all g.seal g.confounder frames) g seals
heard_seals (hearing.Reply q r) g seals = seals
heard_seals (hearing.Drop cause) g seals = seals
heard_seals (hearing.Set (set_hearing.Next frames)) g seals = sealing_goes_on (seal_all g.seal g.confounder frames) g seals
heard_seals (hearing.Set (set_hearing.Reply r)) g seals = seals

by_seals : (how : Standing) (g : Sealing) (turn : Option Pending) (unit : RpcUnit) (next : ℕ) → InRangeSealing (Some g) → InRangeSealing (Some (heard_by how g turn unit next).1)
by_seals standing.Nothing g turn unit next seals = seals
by_seals (standing.Half client server) g turn unit next seals = seals
by_seals (standing.Open o) g turn unit next seals = heard_seals (hear_room turn unit next) g seals

opened_seals : (kept : Option Sealing) (o : SecureChannelState) → InRangeSealing kept → InRangeSealing (opened_sealing kept o)
opened_seals None o seals = tt
opened_seals (Some g) o seals = seals

sealed_settled : (j : Judgement) (s : Requester) → InRangeRequester s → InRangeSealing s.sealing →
    InRangeRequester (settle_sealed j s).state × InRangeSealing (settle_sealed j s).state.sealing × IsWholeNext (settle_sealed j s).taken
sealed_settled (judgement.Half client server) s range seals = let went = settled (judgement.Half client server) s range in (went.0, seals, went.1)
sealed_settled (judgement.Opened o) s range seals =
    let went = settled (judgement.Opened o) s range in (range_with (settle (judgement.Opened o) s).state (opened_sealing s.sealing o) went.0, opened_seals s.sealing o seals, went.1)
sealed_settled (judgement.Answer o v) s range seals = let went = settled (judgement.Answer o v) s range in (went.0, seals, went.1)
sealed_settled (judgement.Drop cause) s range seals = let went = settled (judgement.Drop cause) s range in (went.0, seals, went.1)

-- what is heard may be whole or not: without the frames the ranges stay all the same
ranges_stay : (h : Hearing) (s : Requester) → InRangeRequester s → InRangeRequester (act h s).state
ranges_stay hearing.Skip s range = (acted hearing.Skip s range tt).0
ranges_stay (hearing.Next q frames) s range = goes_on s (place_of s.turn) (step.Reply q) range tt
ranges_stay (hearing.Reply q r) s range = (acted (hearing.Reply q r) s range tt).0
ranges_stay (hearing.Drop cause) s range = (acted (hearing.Drop cause) s range tt).0
ranges_stay (hearing.Set (set_hearing.Next frames)) s range = goes_on s (place_of s.turn) (step.Set set_step.Reply) range tt
ranges_stay (hearing.Set (set_hearing.Reply r)) s range = (acted (hearing.Set (set_hearing.Reply r)) s range tt).0

sealing_acts : (h : Hearing) (s : Requester) → InRangeSealing s.sealing → InRangeSealing (act h s).state.sealing
sealing_acts h s seals = subst InRangeSealing (sym (acted_same h s)) seals

sealed_acted : (h : Hearing) (s : Requester) → InRangeRequester s → InRangeSealing s.sealing → InRangeRequester (act_sealed h s).state × InRangeSealing (act_sealed h s).state.sealing
sealed_acted hearing.Skip s range seals = (ranges_stay hearing.Skip s range, sealing_acts hearing.Skip s seals)
sealed_acted (hearing.Next q frames) s range seals = (ranges_stay (hearing.Next q frames) s range, sealing_acts (hearing.Next q frames) s seals)
sealed_acted (hearing.Reply q r) s range seals =
    let went = sealed_settled (judge_sealed q r s.standing s.caller.secret) s range seals in (went.0, went.1)
sealed_acted (hearing.Drop cause) s range seals = (ranges_stay (hearing.Drop cause) s range, sealing_acts (hearing.Drop cause) s seals)
sealed_acted (hearing.Set what) s range seals = (ranges_stay (hearing.Set what) s range, sealing_acts (hearing.Set what) s seals)

-- where what is heard is whole, what goes out is
acted_whole : (h : Hearing) (s : Requester) → InRangeRequester s → InRangeSealing s.sealing → HeardWhole h → IsWholeNext (act_sealed h s).taken
acted_whole hearing.Skip s range seals whole = tt
acted_whole (hearing.Next q frames) s range seals whole = whole
acted_whole (hearing.Reply q r) s range seals whole = (sealed_settled (judge_sealed q r s.standing s.caller.secret) s range seals).2
acted_whole (hearing.Drop cause) s range seals whole = tt
acted_whole (hearing.Set what) s range seals whole = (acted (hearing.Set what) s range whole).1

plain_next : (how : Standing) (g : Sealing) (s : Requester) (unit : RpcUnit) → InRangeRequester s → wire_of (Some g) how ≡ None → HeardWhole (heard_by how g s.turn unit s.next_call).0
plain_next standing.Nothing g s unit range none = heard_whole s.turn unit s.next_call range.next_call range.turn
plain_next (standing.Half client server) g s unit range none = heard_whole s.turn unit s.next_call range.next_call range.turn
plain_next (standing.Open o) g s unit range none = absurd cc

taken_with : (kept : Option Sealing) (s : Requester) (unit : RpcUnit) → s.sealing ≡ kept → InRangeRequester s → InRangeSealing kept →
    InRangeRequester (take_with kept s unit).state
    × InRangeSealing (take_with kept s unit).state.sealing
    × (wire_of kept s.standing ≡ None → IsWholeNext (take_with kept s unit).taken)
taken_with None s unit is range seals =
    let went = requesters_send_whole.take s unit range in (went.0, subst InRangeSealing (sym (plain_channels_stay.taken s unit ∙ is)) tt, (λ none. went.1))
taken_with (Some g) s unit is range seals =
    let heard : Hearing × Sealing = heard_by s.standing g s.turn unit s.next_call in
    let t : Requester = record s { sealing = Some heard.1 } in
    let in_range : InRangeRequester t = range_with s (Some heard.1) range in
    let sealing : InRangeSealing (Some heard.1) = by_seals s.standing g s.turn unit s.next_call seals in
    let went = sealed_acted heard.0 t in_range sealing in
    (went.0, went.1, (λ none. acted_whole heard.0 t in_range sealing (plain_next s.standing g s unit range none)))

unsealed : (kept : Option Sealing) (s : Requester) (unit : List ℕ) (from to : ℕ) → s.sealing ≡ kept → InRangeRequester s → InRangeSealing kept →
    InRangeRequester (unseal_with kept s unit from to).state × InRangeSealing (unseal_with kept s unit from to).state.sealing
unsealed None s unit from to is range seals = (range, subst InRangeSealing (sym is) tt)
unsealed (Some g) s unit from to is range seals = (range_with s _ range, seals)

pub any_channel_sends_whole : ChannelsSendWhole
any_channel_sends_whole = record {
  fresh = λ sealing caller has. record { caller = has; waiting = tt; next_place = omega arith; next_call = omega arith; turn = tt };
  start = λ s timestamp challenge range seals below eight. started_with s.sealing s timestamp challenge refl range seals below eight;
  take = λ s unit range seals. taken_with s.sealing s unit refl range seals;
  unseal = λ s unit from to range seals. unsealed s.sealing s unit from to refl range seals;
}
