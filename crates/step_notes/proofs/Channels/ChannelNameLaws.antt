-- Both ends of a secure channel name it alike.
-- It serves `channels_are_named_alike`.
use Rattle.std.proofs.Common.{◌≡◌, ◌==◌, ◌&&◌, not, ℕ, Bool, true, false, List, [], ◌∷◌, length, nat_le, Option, Some, None, Ok, Err, inl, inr, refl, sym, ap, ap₂, ◌∙◌, subst, bytes_eq}
use Rattle.std.specs.Int.Bits.{and_self}
use Rattle.std.proofs.lemmas.Slice.Eq.{bytes_eq-Decides}
use Rattle.wire_base.specs.Maps.{lookup}
use Rattle.wire_base.specs.Names.{same_name}
use Rattle.wire_base.specs.declared.authenticator.Authenticator.{Authenticator}
use Rattle.wire_base.proofs.MapLaws.{lookup-put_same, put_others}
use Rattle.wire_base.proofs.NameLaws.{IsSameness-same_name}
use Rattle.authenticators.specs.Channels.{ChannelIdentity}
use Rattle.authenticators.proofs.ChannelLaws.{same_channel-Decides}
use Rattle.ntlm_flags.specs.Flags.{has_flag}
use Rattle.channel_keys.specs.Credentials.{cred_of}
use Rattle.channel_keys.specs.Flags.{rc4_flag, supported_flags}
use Rattle.channel_keys.specs.SessionKeys.{key_of}
use Rattle.authenticators.specs.SecureChannels.{channel_of, SecureChannelState, after_return, fresh_channel, is_awaited, channel_by, key_of_channel}
use Rattle.rpc_units.specs.declared.unit.Body.{Body}
use Rattle.rpc_units.specs.declared.unit.Body.TheVariants.{Bind, BindAck, BindNak, Auth3, Request, Response, Fault}
use Rattle.rpc_units.specs.declared.unit.Unit.{Unit as RpcUnit}
use Rattle.logon_stubs.specs.Status.{access_denied}
use Rattle.logon_stubs.specs.declared.calls.AuthCall.{AuthCall}
use Rattle.logon_stubs.specs.declared.calls.Call.{Call}
use Rattle.logon_stubs.specs.declared.calls.Call.TheVariants as call
use Rattle.logon_stubs.specs.declared.calls.ChallengeReply.{ChallengeReply}
use Rattle.logon_stubs.specs.declared.calls.LogonCall.{LogonCall}
use Rattle.logon_stubs.specs.declared.calls.Reply.{Reply}
use Rattle.logon_stubs.specs.declared.calls.Reply.TheVariants as reply
use Rattle.logon_stubs.specs.declared.info.NetworkInfo.{NetworkInfo}
use Rattle.logon_stubs.specs.declared.info.SamInfo.{SamInfo}
use Rattle.secret_change.specs.declared.calls.SetCall.{SetCall}
use Rattle.secret_change.specs.declared.calls.SetReply.{SetReply}
use Rattle.account_table.specs.AccountTable.{AccountTable}
use Rattle.account_table.specs.LookUps.{knows_in}
use Rattle.account_table.specs.declared.account.Account.{Account}
use Rattle.end_links.specs.Binding.{limit_of}
use Rattle.end_links.specs.Serving.{ServedPart}
use Rattle.channel_client.specs.Effects.{number_in, stands_in, step_in}
use Rattle.channel_client.specs.Machine.{SetOutcome, Taking, act, ask_by, auth_call, begin_with, can_start, challenge_call, hear, hear_ack, hear_body, hear_by, is_accepting, judge, judge_auth, judge_awaited, judge_challenge, judge_credential, judge_flags, judge_level, judge_logon, judge_return, judge_set, judge_set_awaited, judge_set_return, judge_set_status, judge_status, level_asked, offered_flags, place_of, question_of, server_credential, settle, settle_set, start_by, wait_for, waiting_limit}
use Rattle.channel_client.specs.State.{Requester}
use Rattle.channel_client.specs.declared.answers.Taken.TheVariants as taken
use Rattle.channel_client.specs.declared.caller.Caller.{Caller}
use Rattle.channel_client.specs.declared.hearing.Hearing.{Hearing}
use Rattle.channel_client.specs.declared.hearing.Hearing.TheVariants as hearing
use Rattle.channel_client.specs.declared.judging.Judgement.{Judgement}
use Rattle.channel_client.specs.declared.judging.Judgement.TheVariants as judgement
use Rattle.channel_client.specs.declared.state.Pending.{Pending}
use Rattle.channel_client.specs.declared.state.Question.{Question}
use Rattle.channel_client.specs.declared.state.Question.TheVariants as question
use Rattle.channel_client.specs.declared.state.Standing.{Standing}
use Rattle.channel_client.specs.declared.state.Standing.TheVariants as standing
use Rattle.channel_client.specs.declared.state.Step.{Step}
use Rattle.channel_client.specs.declared.state.Step.TheVariants as step
use Rattle.channel_client.specs.declared.state.SetStep.TheVariants as set_step
use Rattle.channel_client.specs.declared.hearing.SetHearing.TheVariants as set_hearing
use Rattle.channel_client.specs.declared.state.Waiting.{Waiting}
use Rattle.domain_controller.specs.Hearing.{hear as hear_unit}
use Rattle.domain_controller.specs.Machine.{Desk, account_for, answer_authenticate, answer_challenge, by_heard, channel_for, desk, grant_flags, open_channel, send_reply, take_pair}
use Rattle.domain_controller.specs.declared.hearing.Heard.{Heard}
use Rattle.controller_calls.specs.declared.line.Line.{Line}
use Rattle.controller_calls.specs.declared.state.Computers.{Computers}
use Rattle.controller_calls.specs.declared.state.ChallengePair.{ChallengePair}
use Rattle.domain_controller.specs.declared.state.Talk.{Talk}
use Rattle.controller_calls.specs.declared.state.Work.{Work}
use Rattle.channel_events.specs.Marks.{Calling, Opening}
use Rattle.wire_base.proofs.ListLaws.{some_is}
use Rattle.channel_events.proofs.SameLaws.{same_self}
use Rattle.step_notes.specs.ChannelNames.{AreFramesOf, AreFramesOfSet, CallsAreNamedAlike, ChallengesAreShared, ChannelsAreNamedAlike, ChannelsStandAsAsked, ExchangesHaveNoClash, Expects, HasChannel, IsOfOther, OpeningsAreNamedAlike, OwnUnitsAreNoClash, StandsOrGoes, WillAsk, WillCallBy, WillOpen, frames_sent, opened_unit, channel_marked, passed_note, place_answered, standing_channel}
use Rattle.step_notes.specs.ControllerNotes.{Answered, identity_by, channel_in, checked_on, has_passed, judging_by, opened_account, opened_by, opened_if, opened_offer, opening, passing}
use Rattle.step_notes.specs.Marking.{clashes, is_channel}
use Rattle.step_notes.specs.MemberNotes.{TurnNote, asked_note, half_channel, request_note, taking_note, timestamp_bound}
use Rattle.step_notes.specs.Records.{Judging, Sent, computer_named, timestamp_in, unit_in}
use Rattle.step_notes.specs.Served.{work_after}
use Rattle.controller_calls.proofs.OutcomeLaws.{challenge_comes}
use Rattle.domain_controller.proofs.UnitLaws.{heard_comes}
use Rattle.step_notes.proofs.Controllers.ComputerLaws.{judged_finds}
use Rattle.step_notes.proofs.Controllers.KeptNoteLaws.{moved_alike}
use Rattle.step_notes.proofs.Controllers.OpenedLaws.{opened_is, opening_noted}

-- a client's and a server's challenge, as a controller keeps them
abbrev pub pair_of : List ℕ → List ℕ → ChallengePair
pair_of client server = record { client = client; server = server }

-- ---- a turn that starts

-- a bind is out with that number, for that place, and that call waits, or that one which sets a secret
abbrev pub bound_at : ℕ → ℕ → Call → Option Pending
bound_at number place c = Some (record { number = number; place = place; step = step.Bind c })

abbrev pub set_bound_at : ℕ → ℕ → SetCall → Option Pending
set_bound_at number place c = Some (record { number = number; place = place; step = step.Set (set_step.Bind c) })

-- what the turn waits for is that
abbrev pub stepped_at : ℕ → ℕ → Step → Option Pending
stepped_at number place st = Some (record { number = number; place = place; step = st })

starts_asking : (turn : Option Pending) (logons : List Waiting) (s : Requester) (timestamp : ℕ) (challenge : List ℕ) → s.standing ≡ standing.Nothing → can_start turn logons ≡ true →
    WillAsk (start_by turn logons s timestamp challenge).state (challenge_call s.caller challenge) × ((start_by turn logons s timestamp challenge).state.caller ≡ s.caller)
starts_asking (Some p) logons s timestamp challenge none can = absurd cc
starts_asking None [] s timestamp challenge none can = absurd cc
starts_asking None (logon ∷ logons) s timestamp challenge none can = (
  record {
    number = s.next_call;
    place = logon.place;
    turn = ap (λ (how : Standing). stepped_at s.next_call logon.place (begin_with how s.next s.caller logon.info timestamp challenge).step) none;
  },
  refl,
)

begins_half : (how : Standing) (next : Option (List ℕ)) (caller : Caller) (info : NetworkInfo) (timestamp : ℕ) (challenge client server : List ℕ) → how ≡ standing.Half client server →
    ((begin_with how next caller info timestamp challenge).standing ≡ standing.Half client server)
    × ((begin_with how next caller info timestamp challenge).step ≡ step.Bind (auth_call caller client server))
begins_half how next caller info timestamp challenge client server half =
    subst (λ (h : Standing). ((begin_with h next caller info timestamp challenge).standing ≡ standing.Half client server)
    × ((begin_with h next caller info timestamp challenge).step ≡ step.Bind (auth_call caller client server)))
    (sym half) (refl, refl)

starts_half : (turn : Option Pending) (logons : List Waiting) (s : Requester) (timestamp : ℕ) (challenge client server : List ℕ) → s.standing ≡ standing.Half client server → can_start turn logons ≡ true →
    WillOpen (start_by turn logons s timestamp challenge).state client server × ((start_by turn logons s timestamp challenge).state.caller ≡ s.caller)
starts_half (Some p) logons s timestamp challenge client server half can = absurd cc
starts_half None [] s timestamp challenge client server half can = absurd cc
starts_half None (logon ∷ logons) s timestamp challenge client server half can =
    let begins = begins_half s.standing s.next s.caller logon.info timestamp challenge client server half in
    (record { half = begins.0; asks = record { number = s.next_call; place = logon.place; turn = ap (stepped_at s.next_call logon.place) begins.1 } }, refl)

-- the call of a turn that starts, by whether a secret is next: a Logon call, or one that sets the secret
abbrev pub HasCallBy : Option (List ℕ) → Step → List ℕ → Type 0
HasCallBy None st computer = (logon : LogonCall) × (st ≡ step.Bind (call.Logon logon)) × (logon.computer ≡ Some computer)
HasCallBy (Some next) st computer = (c : SetCall) × (st ≡ step.Set (set_step.Bind c)) × (c.computer ≡ computer)

begins_open : (controller : ℕ) (how : Standing) (next : Option (List ℕ)) (caller : Caller) (info : NetworkInfo) (timestamp : ℕ) (challenge : List ℕ) (channel : ChannelIdentity) →
    stands_in controller caller.computer how ≡ Some channel → HasCallBy next (begin_with how next caller info timestamp challenge).step channel.computer
begins_open controller standing.Nothing next caller info timestamp challenge channel stands = absurd cc
begins_open controller (standing.Half client server) next caller info timestamp challenge channel stands = absurd cc
begins_open controller (standing.Open o) None caller info timestamp challenge channel stands =
    let is : channel_of controller caller.computer o ≡ channel = cc in
    (_, refl, ap (λ (c : ChannelIdentity). Some c.computer) is)
begins_open controller (standing.Open o) (Some next) caller info timestamp challenge channel stands =
    let is : channel_of controller caller.computer o ≡ channel = cc in
    (_, refl, ap (λ (c : ChannelIdentity). c.computer) is)

will_call : (next : Option (List ℕ)) (s : Requester) (number place : ℕ) (st : Step) (computer : List ℕ) → s.turn ≡ stepped_at number place st → HasCallBy next st computer →
    WillCallBy next s computer
will_call None s number place st computer turn has =
    record { logon = has.0; asks = record { number = number; place = place; turn = turn ∙ ap (stepped_at number place) has.1 }; names = has.2 }
will_call (Some next) s number place st computer turn has =
    record { call = has.0; number = number; place = place; turn = turn ∙ ap (stepped_at number place) has.1; names = has.2 }

starts_open : (controller : ℕ) (turn : Option Pending) (logons : List Waiting) (s : Requester) (timestamp : ℕ) (challenge : List ℕ) (channel : ChannelIdentity) → standing_channel controller s ≡ Some channel →
    can_start turn logons ≡ true → WillCallBy s.next (start_by turn logons s timestamp challenge).state channel.computer
starts_open controller (Some p) logons s timestamp challenge channel stands can = absurd cc
starts_open controller None [] s timestamp challenge channel stands can = absurd cc
starts_open controller None (logon ∷ logons) s timestamp challenge channel stands can =
    will_call s.next (start_by None (logon ∷ logons) s timestamp challenge).state s.next_call logon.place
    (begin_with s.standing s.next s.caller logon.info timestamp challenge).step channel.computer refl
    (begins_open controller s.standing s.next s.caller logon.info timestamp challenge channel stands)

begun_stands : (controller : ℕ) (how : Standing) (next : Option (List ℕ)) (caller : Caller) (info : NetworkInfo) (timestamp : ℕ) (challenge : List ℕ) →
    stands_in controller caller.computer (begin_with how next caller info timestamp challenge).standing ≡ stands_in controller caller.computer how
begun_stands controller standing.Nothing next caller info timestamp challenge = refl
begun_stands controller (standing.Half client server) next caller info timestamp challenge = refl
begun_stands controller (standing.Open o) None caller info timestamp challenge = refl
begun_stands controller (standing.Open o) (Some next) caller info timestamp challenge = refl

started_stands : (controller : ℕ) (turn : Option Pending) (logons : List Waiting) (s : Requester) (timestamp : ℕ) (challenge : List ℕ) →
    standing_channel controller (start_by turn logons s timestamp challenge).state ≡ standing_channel controller s
started_stands controller (Some p) logons s timestamp challenge = refl
started_stands controller None [] s timestamp challenge = refl
started_stands controller None (logon ∷ logons) s timestamp challenge = begun_stands controller s.standing s.next s.caller logon.info timestamp challenge

asked_stands : (controller : ℕ) (full : Bool) (s : Requester) (info : NetworkInfo) → standing_channel controller (ask_by full s info).state ≡ standing_channel controller s
asked_stands controller true s info = refl
asked_stands controller false s info = refl

-- ---- a unit that comes while a bind is out: the call goes out, or nothing does

abbrev pub IsBindHeard : Call → ℕ → Hearing → Type 0
IsBindHeard c next hearing.Skip = Unit {0}
IsBindHeard c next (hearing.Next q frames) = (q ≡ question_of c) × AreFramesOf next c frames
IsBindHeard c next (hearing.Reply q r) = ⊥
IsBindHeard c next (hearing.Drop cause) = Unit {0}
IsBindHeard c next (hearing.Set what) = ⊥

ack_heard : (accepts : Bool) (c : Call) (receive next : ℕ) → IsBindHeard c next (hear_ack accepts (step.Bind c) receive next)
ack_heard false c receive next = tt
ack_heard true c receive next = (refl, (limit_of receive, refl))

body_heard : (body : Body) (c : Call) (next : ℕ) → IsBindHeard c next (hear_body body (step.Bind c) next)
body_heard (Bind send receive group contexts) c next = tt
body_heard (BindAck send receive group results) c next = ack_heard (is_accepting results) c receive next
body_heard (BindNak reason) c next = tt
body_heard Auth3 c next = tt
body_heard (Request hint context opnum stub) c next = tt
body_heard (Response hint context stub) c next = tt
body_heard (Fault hint context status) c next = tt

numbered_heard : (same : Bool) (number place : ℕ) (c : Call) (unit : RpcUnit) (next : ℕ) → IsBindHeard c next (hear_by same (record { number = number; place = place; step = step.Bind c }) unit next)
numbered_heard false number place c unit next = tt
numbered_heard true number place c unit next = body_heard unit.body c next

bind_heard : (turn : Option Pending) (number place : ℕ) (c : Call) (unit : RpcUnit) (next : ℕ) → turn ≡ bound_at number place c → IsBindHeard c next (hear turn unit next)
bind_heard turn number place c unit next is =
    subst (λ (t : Option Pending). IsBindHeard c next (hear t unit next)) (sym is) (numbered_heard (unit.call == number) number place c unit next)

abbrev pub IsSetHeard : SetCall → ℕ → Hearing → Type 0
IsSetHeard c next hearing.Skip = Unit {0}
IsSetHeard c next (hearing.Next q frames) = ⊥
IsSetHeard c next (hearing.Reply q r) = ⊥
IsSetHeard c next (hearing.Drop cause) = Unit {0}
IsSetHeard c next (hearing.Set (set_hearing.Next frames)) = AreFramesOfSet next c frames
IsSetHeard c next (hearing.Set (set_hearing.Reply r)) = ⊥

set_ack_heard : (accepts : Bool) (c : SetCall) (receive next : ℕ) → IsSetHeard c next (hear_ack accepts (step.Set (set_step.Bind c)) receive next)
set_ack_heard false c receive next = tt
set_ack_heard true c receive next = (limit_of receive, refl)

set_body_heard : (body : Body) (c : SetCall) (next : ℕ) → IsSetHeard c next (hear_body body (step.Set (set_step.Bind c)) next)
set_body_heard (Bind send receive group contexts) c next = tt
set_body_heard (BindAck send receive group results) c next = set_ack_heard (is_accepting results) c receive next
set_body_heard (BindNak reason) c next = tt
set_body_heard Auth3 c next = tt
set_body_heard (Request hint context opnum stub) c next = tt
set_body_heard (Response hint context stub) c next = tt
set_body_heard (Fault hint context status) c next = tt

set_numbered_heard : (same : Bool) (number place : ℕ) (c : SetCall) (unit : RpcUnit) (next : ℕ) →
    IsSetHeard c next (hear_by same (record { number = number; place = place; step = step.Set (set_step.Bind c) }) unit next)
set_numbered_heard false number place c unit next = tt
set_numbered_heard true number place c unit next = set_body_heard unit.body c next

set_heard : (turn : Option Pending) (number place : ℕ) (c : SetCall) (unit : RpcUnit) (next : ℕ) → turn ≡ set_bound_at number place c → IsSetHeard c next (hear turn unit next)
set_heard turn number place c unit next is =
    subst (λ (t : Option Pending). IsSetHeard c next (hear t unit next)) (sym is) (set_numbered_heard (unit.call == number) number place c unit next)

-- ---- challenges

challenge_asked : (what : Hearing) (s : Requester) (client : List ℕ) (frames : List (List ℕ)) → IsBindHeard (challenge_call s.caller client) s.next_call what → frames_sent (act what s).taken ≡ Some frames →
    AreFramesOf s.next_call (challenge_call s.caller client) frames × (step_in (act what s).state.turn ≡ Some (step.Reply (question.Challenge client)))
challenge_asked hearing.Skip s client frames out sent = absurd cc
challenge_asked (hearing.Next q more) s client frames out sent =
    let same : more ≡ frames = cc in (
      subst (λ (f : List (List ℕ)). AreFramesOf s.next_call (challenge_call s.caller client) f) same out.1,
      ap (λ (asked : Question). Some (step.Reply asked)) out.0,
    )
challenge_asked (hearing.Reply q r) s client frames out sent = absurd out
challenge_asked (hearing.Drop cause) s client frames out sent = absurd cc
challenge_asked (hearing.Set what) s client frames out sent = absurd out

-- a controller that knows the computer keeps both
abbrev pub IsChallenged : Requester → List ℕ → List ℕ → Line → Desk → Desk → Type 0
IsChallenged s client server line before later =
    (lookup same_name s.caller.computer later.work.computers.pending ≡ Some (pair_of client server))
    × (later.work.actions ≡ (send_reply before.work line (reply.Challenge (record { challenge = server; status = 0 }))).actions)
    × (later.table ≡ before.table)

waits_then : (s : Requester) (client server : List ℕ) (line : Line) (before later : Desk) → knows_in before.table.accounts s.caller.computer ≡ true →
    Some (desk before.table (answer_challenge before.table line (record { primary = None; computer = s.caller.computer; challenge = client }) server before.work)) ≡ Some later →
    IsChallenged s client server line before later
waits_then s client server line before later known is =
    subst (λ (d : Desk). IsChallenged s client server line before d) (some_is _ _ is)
    (challenge_comes (λ (d : Desk). IsChallenged s client server line before d) line (record { primary = None; computer = s.caller.computer; challenge = client }) server before (record {
      unknown = λ unknown. absurd (let never : false ≡ true = sym unknown ∙ known in cc);
      known = λ is.
          (lookup-put_same same_name s.caller.computer (pair_of client server) before.work.computers.pending (IsSameness-same_name.reflexive s.caller.computer), refl, refl);
    }))

-- ---- the call that opens a channel goes out

note_opening : (q : Question) (how : Standing) (controller : ℕ) (before later : Requester) (client server : List ℕ) → q ≡ question.Authenticate → how ≡ standing.Half client server →
    asked_note (Some (step.Reply q)) how controller before later ≡ request_note (Opening (half_channel controller later client server) before.next_call) None
note_opening q how controller before later client server is half =
    ap (λ (asked : Question). asked_note (Some (step.Reply asked)) how controller before later) is
    ∙ ap (λ (h : Standing). asked_note (Some (step.Reply question.Authenticate)) h controller before later) half

opening_asked : (what : Hearing) (controller : ℕ) (s : Requester) (client server : List ℕ) (frames : List (List ℕ)) → IsBindHeard (auth_call s.caller client server) s.next_call what →
    s.standing ≡ standing.Half client server → frames_sent (act what s).taken ≡ Some frames →
    AreFramesOf s.next_call (auth_call s.caller client server) frames
    × (taking_note (Some (act what s)) controller s ≡ request_note (Opening (half_channel controller s client server) s.next_call) None)
opening_asked hearing.Skip controller s client server frames out half sent = absurd cc
opening_asked (hearing.Next q more) controller s client server frames out half sent =
    let same : more ≡ frames = cc in (
      subst (λ (f : List (List ℕ)). AreFramesOf s.next_call (auth_call s.caller client server) f) same out.1,
      note_opening q s.standing controller s (wait_for s (place_of s.turn) (step.Reply q)) client server out.0 half,
    )
opening_asked (hearing.Reply q r) controller s client server frames out half sent = absurd out
opening_asked (hearing.Drop cause) controller s client server frames out half sent = absurd cc
opening_asked (hearing.Set what) controller s client server frames out half sent = absurd out

-- ---- a Logon call goes out

note_calling : (q : Question) (how : Standing) (controller : ℕ) (before later : Requester) (channel : ChannelIdentity) → q ≡ question.Logon → stands_in controller later.caller.computer how ≡ Some channel →
    asked_note (Some (step.Reply q)) how controller before later
    ≡ request_note (Calling channel before.next_call (timestamp_bound (step_in before.turn))) (Some (place_of later.turn))
note_calling q standing.Nothing controller before later channel is stands = absurd cc
note_calling q (standing.Half client server) controller before later channel is stands = absurd cc
note_calling q (standing.Open o) controller before later channel is stands =
    let same : channel_of controller later.caller.computer o ≡ channel = cc in
    ap (λ (asked : Question). asked_note (Some (step.Reply asked)) (standing.Open o) controller before later) is
    ∙ ap (λ (c : ChannelIdentity). request_note (Calling c before.next_call (timestamp_bound (step_in before.turn))) (Some (place_of later.turn))) same

calling_asked : (what : Hearing) (controller : ℕ) (s : Requester) (channel : ChannelIdentity) (logon : LogonCall) (number place : ℕ) (frames : List (List ℕ)) → IsBindHeard (call.Logon logon) s.next_call what →
    standing_channel controller s ≡ Some channel → s.turn ≡ bound_at number place (call.Logon logon) → frames_sent (act what s).taken ≡ Some frames →
    AreFramesOf s.next_call (call.Logon logon) frames
    × (taking_note (Some (act what s)) controller s ≡ request_note (Calling channel s.next_call (timestamp_in logon.authenticator)) (Some place))
calling_asked hearing.Skip controller s channel logon number place frames out stands turn sent = absurd cc
calling_asked (hearing.Next q more) controller s channel logon number place frames out stands turn sent =
    let same : more ≡ frames = cc in (
      subst (λ (f : List (List ℕ)). AreFramesOf s.next_call (call.Logon logon) f) same out.1,
      note_calling q s.standing controller s (wait_for s (place_of s.turn) (step.Reply q)) channel out.0 stands
          ∙ ap (λ (t : Option Pending). request_note (Calling channel s.next_call (timestamp_bound (step_in t))) (Some (place_of t))) turn,
    )
calling_asked (hearing.Reply q r) controller s channel logon number place frames out stands turn sent = absurd out
calling_asked (hearing.Drop cause) controller s channel logon number place frames out stands turn sent = absurd cc
calling_asked (hearing.Set what) controller s channel logon number place frames out stands turn sent = absurd out

-- ---- a call that sets a secret goes out

note_setting : (how : Standing) (controller : ℕ) (before later : Requester) (channel : ChannelIdentity) → stands_in controller later.caller.computer how ≡ Some channel →
    asked_note (Some (step.Set set_step.Reply)) how controller before later ≡ request_note (Calling channel before.next_call (timestamp_bound (step_in before.turn))) None
note_setting standing.Nothing controller before later channel stands = absurd cc
note_setting (standing.Half client server) controller before later channel stands = absurd cc
note_setting (standing.Open o) controller before later channel stands =
    let same : channel_of controller later.caller.computer o ≡ channel = cc in
    ap (λ (c : ChannelIdentity). request_note (Calling c before.next_call (timestamp_bound (step_in before.turn))) None) same

setting_asked : (what : Hearing) (controller : ℕ) (s : Requester) (channel : ChannelIdentity) (c : SetCall) (number place : ℕ) (frames : List (List ℕ)) → IsSetHeard c s.next_call what →
    standing_channel controller s ≡ Some channel → s.turn ≡ set_bound_at number place c → frames_sent (act what s).taken ≡ Some frames →
    AreFramesOfSet s.next_call c frames × (taking_note (Some (act what s)) controller s ≡ request_note (Calling channel s.next_call c.authenticator.timestamp) None)
setting_asked hearing.Skip controller s channel c number place frames out stands turn sent = absurd cc
setting_asked (hearing.Next q more) controller s channel c number place frames out stands turn sent = absurd out
setting_asked (hearing.Reply q r) controller s channel c number place frames out stands turn sent = absurd out
setting_asked (hearing.Drop cause) controller s channel c number place frames out stands turn sent = absurd cc
setting_asked (hearing.Set (set_hearing.Next more)) controller s channel c number place frames out stands turn sent =
    let same : more ≡ frames = cc in (
      subst (λ (f : List (List ℕ)). AreFramesOfSet s.next_call c f) same out,
      note_setting s.standing controller s (wait_for s (place_of s.turn) (step.Set set_step.Reply)) channel stands
          ∙ ap (λ (t : Option Pending). request_note (Calling channel s.next_call (timestamp_bound (step_in t))) None) turn,
    )
setting_asked (hearing.Set (set_hearing.Reply r)) controller s channel c number place frames out stands turn sent = absurd out

-- ---- how a reply that is judged stands to the channel

abbrev pub Fits : Judgement → Standing → List ℕ → Type 0
Fits (judgement.Half client server) how secret = Unit {0}
Fits (judgement.Opened o) how secret =
    (client : List ℕ) × (server : List ℕ) × (how ≡ standing.Half client server) × (o ≡ fresh_channel secret client server offered_flags)
Fits (judgement.Answer o v) how secret = (p : SecureChannelState) × (how ≡ standing.Open p) × (o ≡ after_return true p)
Fits (judgement.Drop cause) how secret = Unit {0}

challenge_fits : (granted : Bool) (client server : List ℕ) (how : Standing) (secret : List ℕ) → Fits (judge_challenge granted client server) how secret
challenge_fits false client server how secret = tt
challenge_fits true client server how secret = tt

flags_fit : (enough : Bool) (secret client server : List ℕ) → Fits (judge_flags enough secret client server) (standing.Half client server) secret
flags_fit false secret client server = tt
flags_fit true secret client server = (client, server, refl, refl)

credential_fits : (right : Bool) (secret client server : List ℕ) (flags : ℕ) → Fits (judge_credential right secret client server flags) (standing.Half client server) secret
credential_fits false secret client server flags = tt
credential_fits true secret client server flags = flags_fit (has_flag offered_flags flags && has_flag flags rc4_flag) secret client server

auth_fits : (granted : Bool) (how : Standing) (secret credential : List ℕ) (flags : ℕ) → Fits (judge_auth granted how secret credential flags) how secret
auth_fits false how secret credential flags = tt
auth_fits true standing.Nothing secret credential flags = tt
auth_fits true (standing.Half client server) secret credential flags =
    credential_fits (bytes_eq credential (server_credential secret client server)) secret client server flags
auth_fits true (standing.Open o) secret credential flags = tt

level_fits : (asked : Bool) (info : Option SamInfo) (p : SecureChannelState) (secret : List ℕ) → Fits (judge_level asked info (after_return true p)) (standing.Open p) secret
level_fits false info p secret = tt
level_fits true None p secret = tt
level_fits true (Some info) p secret = (p, refl, refl)

status_fits : (granted : Bool) (status level : ℕ) (info : Option SamInfo) (p : SecureChannelState) (secret : List ℕ) → Fits (judge_status granted status level info (after_return true p)) (standing.Open p) secret
status_fits false status level info p secret = (p, refl, refl)
status_fits true status level info p secret = level_fits (level == level_asked) info p secret

awaited_fits : (right : Bool) (status level : ℕ) (info : Option SamInfo) (p : SecureChannelState) (secret : List ℕ) → Fits (judge_awaited right status level info p) (standing.Open p) secret
awaited_fits false status level info p secret = tt
awaited_fits true status level info p secret = status_fits (status == 0) status level info p secret

return_fits : (returned : Option Authenticator) (status level : ℕ) (info : Option SamInfo) (p : SecureChannelState) (secret : List ℕ) → Fits (judge_return returned status level info p) (standing.Open p) secret
return_fits None status level info p secret = tt
return_fits (Some returned) status level info p secret = awaited_fits (is_awaited p.awaited returned.credential) status level info p secret

logon_fits : (denied : Bool) (how : Standing) (returned : Option Authenticator) (status level : ℕ) (info : Option SamInfo) (secret : List ℕ) → Fits (judge_logon denied how returned status level info) how secret
logon_fits true how returned status level info secret = tt
logon_fits false standing.Nothing returned status level info secret = tt
logon_fits false (standing.Half client server) returned status level info secret = tt
logon_fits false (standing.Open o) returned status level info secret = return_fits returned status level info o secret

pub fits : (q : Question) (r : Reply) (how : Standing) (secret : List ℕ) → Fits (judge q r how secret) how secret
fits (question.Challenge client) (reply.Challenge r) how secret = challenge_fits (r.status == 0) client r.challenge how secret
fits (question.Challenge client) (reply.Authenticate r) how secret = tt
fits (question.Challenge client) (reply.Logon r) how secret = tt
fits (question.Challenge client) (reply.Logoff r) how secret = tt
fits question.Authenticate (reply.Challenge r) how secret = tt
fits question.Authenticate (reply.Authenticate r) how secret = auth_fits (r.status == 0) how secret r.credential r.flags
fits question.Authenticate (reply.Logon r) how secret = tt
fits question.Authenticate (reply.Logoff r) how secret = tt
fits question.Logon (reply.Challenge r) how secret = tt
fits question.Logon (reply.Authenticate r) how secret = tt
fits question.Logon (reply.Logon r) how secret = logon_fits (r.status == access_denied) how r.returned r.status r.level r.info secret
fits question.Logon (reply.Logoff r) how secret = tt

-- what the reply to a call that sets a secret comes to fits the channel that stands
abbrev pub SetFits : SetOutcome → Standing → Type 0
SetFits (Ok o) how = (p : SecureChannelState) × (how ≡ standing.Open p) × (o ≡ after_return true p)
SetFits (Err cause) how = Unit {0}

set_awaited_fits : (right : Bool) (p : SecureChannelState) → SetFits (judge_set_awaited right p) (standing.Open p)
set_awaited_fits false p = tt
set_awaited_fits true p = (p, refl, refl)

set_return_fits : (how : Standing) (returned : Authenticator) → SetFits (judge_set_return how returned) how
set_return_fits standing.Nothing returned = tt
set_return_fits (standing.Half client server) returned = tt
set_return_fits (standing.Open p) returned = set_awaited_fits (is_awaited p.awaited returned.credential) p

set_status_fits : (granted : Bool) (how : Standing) (returned : Authenticator) → SetFits (judge_set_status granted how returned) how
set_status_fits false how returned = tt
set_status_fits true how returned = set_return_fits how returned

pub set_fits : (r : SetReply) (how : Standing) → SetFits (judge_set r how) how
set_fits r how = set_status_fits (r.status == 0) how r.returned

-- ---- a channel opens

abbrev pub IsOpenedAsAsked : ℕ → Requester → Taking → Type 0
IsOpenedAsAsked controller s taking =
    (client : List ℕ) × (server : List ℕ) × (s.standing ≡ standing.Half client server)
    × (standing_channel controller taking.state ≡ Some (half_channel controller s client server))
    × (taking_note (Some taking) controller s ≡ passed_note (half_channel controller s client server) None None)

opened_settles : (j : Judgement) (controller : ℕ) (s : Requester) → Fits j s.standing s.caller.secret → (settle j s).taken ≡ taken.Opened → IsOpenedAsAsked controller s (settle j s)
opened_settles (judgement.Half client server) controller s fit is = absurd cc
opened_settles (judgement.Opened o) controller s fit is = (
  fit.0,
  fit.1,
  fit.2,
  ap (λ (x : SecureChannelState). Some (channel_of controller s.caller.computer x)) fit.3,
  ap (λ (x : SecureChannelState). passed_note (channel_of controller s.caller.computer x) None None) fit.3,
)
opened_settles (judgement.Answer o v) controller s fit is = absurd cc
opened_settles (judgement.Drop cause) controller s fit is = absurd cc

set_unopened : (judged : SetOutcome) (s : Requester) → (settle_set judged s).taken ≡ taken.Opened → ⊥
set_unopened (Ok o) s is = absurd cc
set_unopened (Err cause) s is = absurd cc

opened_acts : (what : Hearing) (controller : ℕ) (s : Requester) → (act what s).taken ≡ taken.Opened → IsOpenedAsAsked controller s (act what s)
opened_acts hearing.Skip controller s is = absurd cc
opened_acts (hearing.Next q frames) controller s is = absurd cc
opened_acts (hearing.Reply q r) controller s is = opened_settles (judge q r s.standing s.caller.secret) controller s (fits q r s.standing s.caller.secret) is
opened_acts (hearing.Drop cause) controller s is = absurd cc
opened_acts (hearing.Set (set_hearing.Next frames)) controller s is = absurd cc
opened_acts (hearing.Set (set_hearing.Reply r)) controller s is = absurd (set_unopened (judge_set r s.standing) s is)

-- ---- a channel stands, or goes

still : (channel : ChannelIdentity) (found : Option ChannelIdentity) → found ≡ Some channel → StandsOrGoes channel found
still channel found is = subst (λ (f : Option ChannelIdentity). StandsOrGoes channel f) (sym is) refl

no_half : (controller : ℕ) (computer : List ℕ) (how : Standing) (channel : ChannelIdentity) (client server : List ℕ) → stands_in controller computer how ≡ Some channel → how ≡ standing.Half client server → ⊥
no_half controller computer how channel client server stands half =
    absurd (let none : None ≡ Some channel = sym (ap (stands_in controller computer) half) ∙ stands in cc)

settled_stands : (j : Judgement) (controller : ℕ) (s : Requester) (channel : ChannelIdentity) → Fits j s.standing s.caller.secret → standing_channel controller s ≡ Some channel →
    StandsOrGoes channel (standing_channel controller (settle j s).state)
settled_stands (judgement.Half client server) controller s channel fit stands = tt
settled_stands (judgement.Opened o) controller s channel fit stands = absurd (no_half controller s.caller.computer s.standing channel fit.0 fit.1 stands fit.2)
settled_stands (judgement.Answer o v) controller s channel fit stands =
    let before : Some (channel_of controller s.caller.computer fit.0) ≡ Some channel = sym (ap (stands_in controller s.caller.computer) fit.1) ∙ stands in
    still channel (Some (channel_of controller s.caller.computer o)) (ap (λ (x : SecureChannelState). Some (channel_of controller s.caller.computer x)) fit.2 ∙ before)
settled_stands (judgement.Drop cause) controller s channel fit stands = tt

set_stands : (judged : SetOutcome) (controller : ℕ) (s : Requester) (channel : ChannelIdentity) → SetFits judged s.standing → standing_channel controller s ≡ Some channel →
    StandsOrGoes channel (standing_channel controller (settle_set judged s).state)
set_stands (Ok o) controller s channel fit stands =
    let before : Some (channel_of controller s.caller.computer fit.0) ≡ Some channel = sym (ap (stands_in controller s.caller.computer) fit.1) ∙ stands in
    still channel (Some (channel_of controller s.caller.computer o)) (ap (λ (x : SecureChannelState). Some (channel_of controller s.caller.computer x)) fit.2 ∙ before)
set_stands (Err cause) controller s channel fit stands = tt

acted_stands : (what : Hearing) (controller : ℕ) (s : Requester) (channel : ChannelIdentity) → standing_channel controller s ≡ Some channel →
    StandsOrGoes channel (standing_channel controller (act what s).state)
acted_stands hearing.Skip controller s channel stands = still channel (standing_channel controller s) stands
acted_stands (hearing.Next q frames) controller s channel stands = still channel (standing_channel controller s) stands
acted_stands (hearing.Reply q r) controller s channel stands = settled_stands (judge q r s.standing s.caller.secret) controller s channel (fits q r s.standing s.caller.secret) stands
acted_stands (hearing.Drop cause) controller s channel stands = tt
acted_stands (hearing.Set (set_hearing.Next frames)) controller s channel stands = still channel (standing_channel controller s) stands
acted_stands (hearing.Set (set_hearing.Reply r)) controller s channel stands = set_stands (judge_set r s.standing) controller s channel (set_fits r s.standing) stands

-- ---- an answer is taken

abbrev pub IsTakenOn : ℕ → Requester → ℕ → Taking → Type 0
IsTakenOn controller s place taking =
    (channel : ChannelIdentity) × (standing_channel controller s ≡ Some channel)
    × (standing_channel controller taking.state ≡ Some channel)
    × (taking_note (Some taking) controller s ≡ passed_note channel (Some place) (Some (number_in s.turn)))

answer_settles : (j : Judgement) (controller : ℕ) (s : Requester) (place : ℕ) → Fits j s.standing s.caller.secret → place_answered (settle j s).taken ≡ Some place → IsTakenOn controller s place (settle j s)
answer_settles (judgement.Half client server) controller s place fit is = absurd cc
answer_settles (judgement.Opened o) controller s place fit is = absurd cc
answer_settles (judgement.Answer o v) controller s place fit is =
    let same : place_of s.turn ≡ place = cc in (
      channel_of controller s.caller.computer fit.0,
      ap (stands_in controller s.caller.computer) fit.1,
      ap (λ (x : SecureChannelState). Some (channel_of controller s.caller.computer x)) fit.2,
      ap₂ (λ (x : SecureChannelState) (p : ℕ). passed_note (channel_of controller s.caller.computer x) (Some p) (Some (number_in s.turn))) fit.2 same,
    )
answer_settles (judgement.Drop cause) controller s place fit is = absurd cc

set_unanswered : (judged : SetOutcome) (s : Requester) (place : ℕ) → place_answered (settle_set judged s).taken ≡ Some place → ⊥
set_unanswered (Ok o) s place is = absurd cc
set_unanswered (Err cause) s place is = absurd cc

answer_acts : (what : Hearing) (controller : ℕ) (s : Requester) (place : ℕ) → place_answered (act what s).taken ≡ Some place → IsTakenOn controller s place (act what s)
answer_acts hearing.Skip controller s place is = absurd cc
answer_acts (hearing.Next q frames) controller s place is = absurd cc
answer_acts (hearing.Reply q r) controller s place is = answer_settles (judge q r s.standing s.caller.secret) controller s place (fits q r s.standing s.caller.secret) is
answer_acts (hearing.Drop cause) controller s place is = absurd cc
answer_acts (hearing.Set (set_hearing.Next frames)) controller s place is = absurd cc
answer_acts (hearing.Set (set_hearing.Reply r)) controller s place is = absurd (set_unanswered (judge_set r s.standing) s place is)

-- ---- a secret is set

abbrev pub IsSetOn : ℕ → Requester → Taking → Type 0
IsSetOn controller s taking =
    (channel : ChannelIdentity) × (standing_channel controller s ≡ Some channel)
    × (standing_channel controller taking.state ≡ Some channel)
    × (taking_note (Some taking) controller s ≡ passed_note channel None (Some (number_in s.turn)))

set_settles : (judged : SetOutcome) (controller : ℕ) (s : Requester) → SetFits judged s.standing → (settle_set judged s).taken ≡ taken.Set → IsSetOn controller s (settle_set judged s)
set_settles (Ok o) controller s fit is = (
  channel_of controller s.caller.computer fit.0,
  ap (stands_in controller s.caller.computer) fit.1,
  ap (λ (x : SecureChannelState). Some (channel_of controller s.caller.computer x)) fit.2,
  ap (λ (x : SecureChannelState). passed_note (channel_of controller s.caller.computer x) None (Some (number_in s.turn))) fit.2,
)
set_settles (Err cause) controller s fit is = absurd cc

settled_unset : (j : Judgement) (s : Requester) → (settle j s).taken ≡ taken.Set → ⊥
settled_unset (judgement.Half client server) s is = absurd cc
settled_unset (judgement.Opened o) s is = absurd cc
settled_unset (judgement.Answer o v) s is = absurd cc
settled_unset (judgement.Drop cause) s is = absurd cc

set_acts : (what : Hearing) (controller : ℕ) (s : Requester) → (act what s).taken ≡ taken.Set → IsSetOn controller s (act what s)
set_acts hearing.Skip controller s is = absurd cc
set_acts (hearing.Next q frames) controller s is = absurd cc
set_acts (hearing.Reply q r) controller s is = absurd (settled_unset (judge q r s.standing s.caller.secret) s is)
set_acts (hearing.Drop cause) controller s is = absurd cc
set_acts (hearing.Set (set_hearing.Next frames)) controller s is = absurd cc
set_acts (hearing.Set (set_hearing.Reply r)) controller s is = set_settles (judge_set r s.standing) controller s (set_fits r s.standing) is

-- ---- a controller accepts the opening

granted : grant_flags offered_flags ≡ offered_flags
granted = and_self supported_flags

-- the parameters of the call
abbrev pub auth_of : Requester → List ℕ → List ℕ → AuthCall
auth_of s client server = record {
  primary = None;
  account = s.caller.account;
  channel = s.caller.kind;
  computer = s.caller.computer;
  credential = cred_of (key_of s.caller.secret client server offered_flags) client;
  flags = offered_flags;
}

-- the channel that it opens with an account
abbrev pub channel_opened : Account → Requester → List ℕ → List ℕ → SecureChannelState
channel_opened account s client server = channel_for account (pair_of client server) (auth_of s client server)

offers : has_flag offered_flags rc4_flag ≡ true
offers = refl

-- the credential that is compared with the member's
abbrev pub is_clients : Account → Requester → List ℕ → List ℕ → Bool
is_clients account s client server =
    bytes_eq (auth_of s client server).credential (cred_of (key_of_channel (channel_opened account s client server)) client)

accepted : (account : Account) (s : Requester) (client server : List ℕ) → account.hash ≡ s.caller.secret → is_clients account s client server ≡ true
accepted account s client server same =
    (bytes_eq-Decides _ _).1 (ap₂ (λ (secret : List ℕ) (flags : ℕ). cred_of (key_of secret client server flags) client) (sym same) (sym granted))

opened_known : (account : Account) (s : Requester) (client server : List ℕ) → account.hash ≡ s.caller.secret →
    opened_account (Some account) (Some (pair_of client server)) (auth_of s client server) ≡ Some (channel_opened account s client server)
opened_known account s client server same =
    ap (λ (offered : Bool). opened_offer offered (Some (pair_of client server)) account (auth_of s client server)) offers
    ∙ ap (λ (right : Bool). opened_if right (channel_opened account s client server)) (accepted account s client server same)

-- a channel by its parts
abbrev pub named : ℕ → List ℕ → List ℕ → List ℕ → List ℕ → ℕ → ChannelIdentity
named controller computer client server secret flags =
    record { controller = controller; computer = computer; secret = secret; client = client; server = server; flags = flags }

named_alike : (controller : ℕ) (account : Account) (s : Requester) (client server : List ℕ) → account.hash ≡ s.caller.secret →
    channel_of controller s.caller.computer (channel_opened account s client server) ≡ half_channel controller s client server
named_alike controller account s client server same = ap₂ (named controller s.caller.computer client server) same granted

opens_named : (controller : ℕ) (s : Requester) (client server : List ℕ) (d : Desk) → Expects d s client server → opened_by controller (auth_of s client server) d ≡ Some (half_channel controller s client server)
opens_named controller s client server d expects =
    ap (identity_by controller s.caller.computer)
    (ap₂ (λ (account : Option Account) (pair : Option ChallengePair). opened_account account pair (auth_of s client server)) expects.found expects.pair
    ∙ opened_known expects.account s client server expects.secret)
    ∙ ap Some (named_alike controller expects.account s client server expects.secret)

-- the channel that an opening opens is kept then
opening_keeps : (controller : ℕ) (table : AccountTable) (line : Line) (c : AuthCall) (work : Work) (channel : ChannelIdentity) → opened_by controller c (desk table work) ≡ Some channel →
    HasChannel (answer_authenticate table line c work).computers channel
opening_keeps controller table line c work channel =
    opening_noted (λ opened later. identity_by controller c.computer opened ≡ Some channel → HasChannel later.computers channel) (account_for table c)
    (lookup same_name c.computer work.computers.pending) line c (take_pair c.computer work) (record {
      denied = λ status fails is. absurd cc;
      accepted = λ opens is.
          let state : SecureChannelState = channel_for opens.account opens.pair c in
          subst (λ (own : ChannelIdentity). HasChannel (open_channel true state line c (take_pair c.computer work)).computers own)
          (some_is (channel_of controller c.computer state) channel is)
          (record { state = state; kept = lookup-put_same same_name c.computer state work.computers.channels (IsSameness-same_name.reflexive c.computer); is = refl });
    })

pub openings : OpeningsAreNamedAlike
openings = record {
  starts = λ s timestamp challenge client server half can. starts_half s.turn s.waiting s timestamp challenge client server half can;
  asks = λ controller s unit client server frames will sent.
      opening_asked (hear s.turn unit s.next_call) controller s client server frames
      (bind_heard s.turn will.asks.number will.asks.place (auth_call s.caller client server) unit s.next_call will.asks.turn) will.half sent;
  opens = λ s client server w line before later expects.
      ap (λ (channel : Option ChannelIdentity). opening channel w line.call s.caller.kind) (opens_named w.controller s client server before expects);
  keeps = λ controller s client server line talk name now before later left expects is.
      subst (λ (d : Desk). HasChannel d.work.computers (half_channel controller s client server)) (some_is _ _ is)
      (opening_keeps controller before.table line (auth_of s client server) before.work (half_channel controller s client server)
      (opens_named controller s client server before expects));
}

pub standings : ChannelsStandAsAsked
standings = record {
  opens = λ controller s unit is. opened_acts (hear s.turn unit s.next_call) controller s is;
  asks = λ controller s info. asked_stands controller (nat_le waiting_limit (length s.waiting)) s info;
  starts = λ controller s timestamp challenge. started_stands controller s.turn s.waiting s timestamp challenge;
  takes = λ controller s unit channel stands. acted_stands (hear s.turn unit s.next_call) controller s channel stands;
  loses = λ controller s. refl;
}

-- ---- a controller keeps a channel

same_channels : (old new : Computers) (channel : ChannelIdentity) → new.channels ≡ old.channels → HasChannel old channel → HasChannel new channel
same_channels old new channel same has =
    record { state = has.state; kept = ap (lookup same_name channel.computer) same ∙ has.kept; is = has.is }

-- the part keeps it, where it is whole
abbrev pub PartHas : ChannelIdentity → ServedPart Desk Talk → Type 0
PartHas channel (Err why) = Unit {0}
PartHas channel (Ok part) = HasChannel part.value.0.work.computers channel

unit_has : (controller link : ℕ) (name : List ℕ) (now : ℕ) (d : Desk) (left : List (List ℕ)) (channel : ChannelIdentity) → HasChannel d.work.computers channel → (what : Heard) →
    IsOfOther channel.computer (opened_unit controller what d) → PartHas channel (by_heard what link name now d left)
unit_has controller link name now d left channel has =
    heard_comes (λ (what : Heard) (part : ServedPart Desk Talk). IsOfOther channel.computer (opened_unit controller what d) → PartHas channel part) link name now d left (record {
      close = λ cause other. same_channels d.work.computers _ channel refl has;
      answer = λ bytes talk other. same_channels d.work.computers _ channel refl has;
      waits = λ talk other. has;
      spent = λ line c talk none other. tt;
      unknown = λ line c talk server rest is none other. same_channels d.work.computers _ channel refl has;
      known = λ line c talk server rest is known other. same_channels d.work.computers _ channel refl has;
      denied = λ line c talk status fails none other. same_channels d.work.computers _ channel refl has;
      -- an opening that is accepted puts another computer's channel
      accepted = λ line c talk opens other. record {
        state = has.state;
        kept = put_others same_name c.computer channel.computer (channel_for opens.account opens.pair c) d.work.computers.channels IsSameness-same_name
            (subst (λ (opened : Option SecureChannelState). IsOfOther channel.computer (identity_by controller c.computer opened))
            (opened_is (account_for d.table c) (lookup same_name c.computer d.work.computers.pending) c opens) other)
            ∙ has.kept;
        is = has.is;
      };
      -- a call that is judged may move the channel on
      judged = λ line c talk after comes other. elim (judged_finds c name now line d after channel.computer comes) [
        | inl same ↦ record { state = has.state; kept = same ∙ has.kept; is = has.is }
        | inr moves ↦
            let own : moves.channel ≡ has.state = some_is _ _ (sym moves.was ∙ has.kept) in
            record {
              state = channel_by moves.passes moves.channel moves.given;
              kept = moves.now;
              is = moved_alike moves.passes channel.controller channel.computer moves.channel moves.given ∙ ap (channel_of channel.controller channel.computer) own ∙ has.is;
            }
      ];
    })

part_has : (part : ServedPart Desk Talk) (channel : ChannelIdentity) (later : Desk) → PartHas channel part → work_after part ≡ Some later → HasChannel later.work.computers channel
part_has (Err why) channel later has is = absurd cc
part_has (Ok part) channel later has is = subst (λ (d : Desk). HasChannel d.work.computers channel) (some_is _ _ is) has

-- ---- a call passes on it

passes_named : (j : Judging) (computers : Computers) (channel : ChannelIdentity) → j.checks ≡ checked_on (computer_named j.asked) computers → j.controller ≡ channel.controller → computer_named j.asked ≡ Some channel.computer →
    HasChannel computers channel → has_passed j.how ≡ true → judging_by (has_passed j.how) j ≡ passing (Some channel) j
passes_named j computers channel checks at names has passed =
    let stands : j.checks ≡ Some has.state = checks ∙ ap (λ (name : Option (List ℕ)). checked_on name computers) names ∙ has.kept in
    ap (λ (so : Bool). judging_by so j) passed
    ∙ ap (λ (c : Option ChannelIdentity). passing c j)
    (ap₂ (λ (controller : ℕ) (computer : Option (List ℕ)). channel_in controller computer j.checks) at names
    ∙ ap (identity_by channel.controller channel.computer) stands ∙ ap Some has.is)

pub calls : CallsAreNamedAlike
calls = record {
  starts = λ controller s timestamp challenge channel stands can. starts_open controller s.turn s.waiting s timestamp challenge channel stands can;
  asks = λ controller s unit channel logon frames stands ask sent.
      calling_asked (hear s.turn unit s.next_call) controller s channel logon ask.number ask.place frames
      (bind_heard s.turn ask.number ask.place (call.Logon logon) unit s.next_call ask.turn) stands ask.turn sent;
  asks_set = λ controller s unit channel computer frames stands will sent.
      setting_asked (hear s.turn unit s.next_call) controller s channel will.call will.number will.place frames
      (set_heard s.turn will.number will.place will.call unit s.next_call will.turn) stands will.turn sent;
  keeps = λ controller name now link bytes before later talk left channel has other is.
      part_has (by_heard (hear_unit link bytes talk) link name now before left) channel later
      (unit_has controller link name now before left channel has (hear_unit link bytes talk) other) is;
  passes = λ j computers channel checks at names has passed. passes_named j computers channel checks at names has passed;
  takes = λ controller s unit place is. answer_acts (hear s.turn unit s.next_call) controller s place is;
  sets = λ controller s unit is. set_acts (hear s.turn unit s.next_call) controller s is;
}

own_units : OwnUnitsAreNoClash
own_units channel other unit sent is same =
    ap (λ (c : Option ChannelIdentity). not (is_channel c channel)) is ∙ ap not ((same_channel-Decides other channel).1 same)

-- ---- no clash

-- a credential passes on the channel that the unit was made for
own_passes : (channel : ChannelIdentity) (number : Option ℕ) (sent : List Sent) → channel_marked number sent ≡ Some channel → clashes (Some channel) number sent ≡ false
own_passes channel None sent is = refl
own_passes channel (Some unit) sent is = own_units channel channel unit sent is (same_self channel)

opened_clear : (controller : ℕ) (s : Requester) (taking : Taking) (client server : List ℕ) (number : Option ℕ) (sent : List Sent) → s.standing ≡ standing.Half client server → IsOpenedAsAsked controller s taking →
    channel_marked number sent ≡ Some (half_channel controller s client server) → clashes (taking_note (Some taking) controller s).checked number sent ≡ false
opened_clear controller s taking client server number sent half opened is =
    let both : standing.Half client server ≡ standing.Half opened.0 opened.1 = sym half ∙ opened.2 in
    let one : client ≡ opened.0 = cc in
    let other : server ≡ opened.1 = cc in
    ap (λ (note : TurnNote). clashes note.checked number sent) opened.4
    ∙ own_passes (half_channel controller s opened.0 opened.1) number sent (is ∙ ap₂ (λ (c : List ℕ) (d : List ℕ). Some (half_channel controller s c d)) one other)

answered_clear : (controller : ℕ) (s : Requester) (taking : Taking) (place : ℕ) (channel : ChannelIdentity) (number : Option ℕ) (sent : List Sent) → standing_channel controller s ≡ Some channel → IsTakenOn controller s place taking →
    channel_marked number sent ≡ Some channel → clashes (taking_note (Some taking) controller s).checked number sent ≡ false
answered_clear controller s taking place channel number sent stands on is =
    ap (λ (note : TurnNote). clashes note.checked number sent) on.3 ∙ own_passes on.0 number sent (is ∙ sym stands ∙ on.1)

set_clear : (controller : ℕ) (s : Requester) (taking : Taking) (channel : ChannelIdentity) (number : Option ℕ) (sent : List Sent) → standing_channel controller s ≡ Some channel → IsSetOn controller s taking →
    channel_marked number sent ≡ Some channel → clashes (taking_note (Some taking) controller s).checked number sent ≡ false
set_clear controller s taking channel number sent stands on is =
    ap (λ (note : TurnNote). clashes note.checked number sent) on.3 ∙ own_passes on.0 number sent (is ∙ sym stands ∙ on.1)

passing_clear : (j : Judging) (channel : ChannelIdentity) (sent : List Sent) → channel_marked (unit_in j.source) sent ≡ Some channel → clashes (passing (Some channel) j).checked (unit_in j.source) sent ≡ false
passing_clear j channel sent is = own_passes channel (unit_in j.source) sent is

exchanges : ExchangesHaveNoClash
exchanges = record {
  opening = λ s client server w line before later sent expects is.
      ap (λ (channel : Option ChannelIdentity). clashes (opening channel w line.call s.caller.kind).checked (unit_in w.source) sent) (opens_named w.controller s client server before expects)
      ∙ own_passes (half_channel w.controller s client server) (unit_in w.source) sent is;
  opened = λ controller s unit client server number sent half taken_so is.
      opened_clear controller s _ client server number sent half (opened_acts (hear s.turn unit s.next_call) controller s taken_so) is;
  calling = λ j computers channel sent checks at names has passed is.
      ap (λ (one : Answered). clashes one.checked (unit_in j.source) sent) (passes_named j computers channel checks at names has passed) ∙ passing_clear j channel sent is;
  answered = λ controller s unit place channel number sent stands took is.
      answered_clear controller s _ place channel number sent stands (answer_acts (hear s.turn unit s.next_call) controller s place took) is;
  set = λ controller s unit channel number sent stands took is.
      set_clear controller s _ channel number sent stands (set_acts (hear s.turn unit s.next_call) controller s took) is;
}

-- ---- the way to a controller

learns_half : (s : Requester) (what : Hearing) (client : List ℕ) (r : ChallengeReply) → what ≡ hearing.Reply (question.Challenge client) (reply.Challenge r) → r.status ≡ 0 →
    ((act what s).taken ≡ taken.Half) × ((act what s).state.standing ≡ standing.Half client r.challenge) × ((act what s).state.caller ≡ s.caller)
learns_half s what client r is done =
    subst (λ (h : Hearing). ((act h s).taken ≡ taken.Half) × ((act h s).state.standing ≡ standing.Half client r.challenge) × ((act h s).state.caller ≡ s.caller)) (sym is)
    (subst (λ (n : ℕ). ((settle (judge_challenge (n == 0) client r.challenge) s).taken ≡ taken.Half)
    × ((settle (judge_challenge (n == 0) client r.challenge) s).state.standing ≡ standing.Half client r.challenge)
    × ((settle (judge_challenge (n == 0) client r.challenge) s).state.caller ≡ s.caller)) (sym done) (refl, refl, refl))

pub challenges : ChallengesAreShared
challenges = record {
  starts = λ s timestamp challenge none can. starts_asking s.turn s.waiting s timestamp challenge none can;
  asks = λ s unit client frames will sent.
      challenge_asked (hear s.turn unit s.next_call) s client frames
      (bind_heard s.turn will.number will.place (challenge_call s.caller client) unit s.next_call will.turn) sent;
  waits = λ s client server line talk name now before later left known is. waits_then s client server line before later known is;
  learns = λ s unit client r is done. learns_half s (hear s.turn unit s.next_call) client r is done;
}

-- both ends name a channel alike
pub channels_are_named_alike : ChannelsAreNamedAlike
channels_are_named_alike = record {
  challenges = challenges;
  openings = openings;
  standings = standings;
  calls = calls;
  own = own_units;
  exchanges = exchanges;
}
