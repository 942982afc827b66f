-- What a unit is that an end sends for a mark: at a controller the reply that opens a channel, and at a member, where a
-- whole unit comes on the link of its turn, the one request that it then sends. It serves `marked_units_are_whole`.
use Rattle.std.proofs.Common.{◌≡◌, ◌⊎◌, ℕ, zero, suc, ◌<◌, ◌^◌, ◌==◌, Bool, true, false, List, [], ◌∷◌, ◌++◌, map, inl, inr, Option, Some, None, Result, Ok, Err, slice_get, refl, sym, ap, subst, ◌∙◌, arith, ◌≤◌, length}
use Rattle.std.specs.List.{AllByRecursion}
use Rattle.std.proofs.lemmas.Bool.{eqb-true}
use Rattle.outside.specs.declared.action.Action.{Action}
use Rattle.outside.specs.declared.action.Action.TheVariants as action
use Rattle.outside.specs.declared.action.StepRefused.{StepRefused}
use Rattle.outside.specs.declared.event.Event.TheVariants as event
use Rattle.rpc_units.specs.Calls.{IsHeard}
use Rattle.rpc_units.specs.Joining.{cut_of}
use Rattle.rpc_units.specs.declared.unit.Unit.{Unit as RpcUnit}
use Rattle.rpc_units.specs.Stream.{cut_stream}
use Rattle.logon_stubs.specs.Calls.{opnum_of_call}
use Rattle.logon_stubs.specs.Writing.{written_call}
use Rattle.logon_stubs.proofs.WrittenLaws.{call_of-written_call, written_call-content}
use Rattle.logon_stubs.specs.declared.calls.Call.{Call}
use Rattle.logon_stubs.specs.declared.refused.StubRefused.{StubRefused}
use Rattle.ndr_codec.specs.Parts.{size_if_there, text_size}
use Rattle.secret_change.specs.Calls.{set_call, set_call_of, set_opnum, written_set_call}
use Rattle.secret_change.specs.declared.calls.SetCall.{SetCall}
use Rattle.secret_change.proofs.SetLaws.{call_stub, stub_again}
use Rattle.authenticators.specs.Channels.{ChannelIdentity}
use Rattle.authenticators.specs.SecureChannels.{SecureChannelState, channel_of}
use Rattle.channel_keys.specs.Credentials.{cred_of}
use Rattle.channel_keys.specs.SessionKeys.{key_of}
use Rattle.logon_stubs.specs.declared.calls.AuthCall.{AuthCall}
use Rattle.controller_calls.specs.declared.calls.ControllerCall.TheVariants as served
use Rattle.controller_calls.specs.declared.calls.JudgedCall.{JudgedCall}
use Rattle.controller_calls.specs.declared.calls.JudgedCall.TheVariants.{Network, NetworkLogoff, Set}
use Rattle.domain_world.specs.Accepting.Carried.{call_judged}
use Rattle.logon_stubs.specs.declared.calls.Call.TheVariants as call
use Rattle.end_links.specs.Links.{LinkState}
use Rattle.end_links.specs.Sending.{frames_of, joined_frames, request_of}
use Rattle.end_links.specs.Serving.{ServedUnit, served_units}
use Rattle.end_links.specs.Whole.{whole_limit}
use Rattle.channel_client.specs.declared.hearing.SetHearing.TheVariants as set_hearing
use Rattle.channel_client.specs.declared.state.SetStep.TheVariants as set_step
use Rattle.channel_client.specs.Machine.{Taking, act, offered_flags, hear, judge, question_of, settle, take_of, SetOutcome, judge_set, settle_set}
use Rattle.channel_client.specs.Effects.{step_in}
use Rattle.channel_client.specs.State.{Requester}
use Rattle.channel_client.specs.Whole.{HasRoom, HasSetRoom, InRangeRequester, InRangeTurn}
use Rattle.channel_client.specs.declared.caller.Caller.{Caller}
use Rattle.channel_client.specs.declared.state.Pending.{Pending}
use Rattle.channel_client.specs.declared.answers.Taken.{Taken}
use Rattle.channel_client.specs.declared.answers.Taken.TheVariants as taken
use Rattle.channel_client.specs.declared.hearing.Hearing.{Hearing}
use Rattle.channel_client.specs.declared.hearing.Hearing.TheVariants as hearing
use Rattle.channel_client.specs.declared.judging.Judgement.{Judgement}
use Rattle.channel_client.specs.declared.judging.Judgement.TheVariants as judgement
use Rattle.channel_client.specs.declared.state.Question.{Question}
use Rattle.channel_client.specs.declared.state.Question.TheVariants as question
use Rattle.channel_client.specs.declared.state.Standing.{Standing}
use Rattle.channel_client.specs.declared.state.Standing.TheVariants as standing
use Rattle.channel_client.specs.declared.state.Step.TheVariants as step
use Rattle.domain_controller.specs.State.{State as ControllerState}
use Rattle.domain_controller.specs.Step.{step_of as controller_step_of}
use Rattle.member_server.specs.Machine.{account_of, at_turn, step_of, work_of}
use Rattle.member_server.specs.State.{State as MemberState}
use Rattle.member_server.specs.Turns.{AtTurn, do_taken, take_by, turn_server, with_requester, with_work}
use Rattle.channel_turns.specs.declared.state.Dialling.{Dialling}
use Rattle.channel_turns.specs.declared.state.Dialling.TheVariants as dialling
use Rattle.member_server.specs.declared.state.Running.{Running}
use Rattle.channel_turns.specs.declared.state.TurnTalk.{TurnTalk}
use Rattle.channel_events.specs.Marks.{Mark, Plain, Opening, Opened, Calling, ReplyTo}
use Rattle.step_notes.specs.CallLogons.{AreFirst, IsFirstBy, IsStampedSet, IsStampedSetStep}
use Rattle.step_notes.specs.ChannelNames.{sends_in}
use Rattle.step_notes.specs.ControllerNotes.{Answered}
use Rattle.step_notes.specs.Marking.{answered_marks, mark_if, turn_marks}
use Rattle.step_notes.specs.MemberNotes.{TurnNote, asked_note, half_channel, no_note, taking_at, taking_note, timestamp_bound, turn_note, turn_units, turn_units_by, turn_units_in, turn_units_on}
use Rattle.step_notes.specs.HeardWhole.{call_read, request_read, set_read}
use Rattle.step_notes.specs.Records.{given_in, timestamp_in}
use Rattle.step_notes.specs.ReplySends.{AreSentFor, CarriesReply, IsOpeningReply, IsSentIf}
use Rattle.step_notes.specs.Served.{units_if_taken, work_after}
use Rattle.step_notes.specs.TakenWhole.{TakesWhole}
use Rattle.step_notes.proofs.Channels.ChannelNameLaws.{bound_at, set_bound_at}
use Rattle.step_notes.proofs.Controllers.ReplyStepLaws.{replies_sent}
use Rattle.step_notes.proofs.Members.RequestOrderLaws.{requests_first}
use Rattle.step_notes.proofs.Members.TurnHeardLaws.{members_take}
use Rattle.world_moves.specs.declared.state.State.{State}
use Rattle.world_moves.specs.Ends.{actions_by}
use Rattle.domain_world.specs.Past.{Delivery}
use Rattle.wire_base.proofs.ListLaws.{got_nothing, some_is}
use Rattle.domain_world.proofs.Frames.AloneNoteLaws.{alone_answers as answers_of}
use Rattle.domain_world.proofs.Acceptance.Heard.BoundOpeningLaws.{BindsItsOpening, IsItsOpening}
use Rattle.domain_world.proofs.Quiet.QuietTurnLaws.{IfOn, IsOneUnit, IsRested}
use Rattle.domain_world.proofs.Frames.BagFrameLaws.{controller_marks}
use Rattle.domain_world.proofs.Moves.NewUnitLaws.{IsFront}
use Rattle.domain_world.proofs.Messages.CallMessageLaws.{bytes_are, last_is}
use Rattle.step_notes.proofs.Members.TurnRequestLaws.{IsOfTurn, of_turn}
use Rattle.domain_world.proofs.Calls.CallWholeLaws.{request_heard}

-- ---- what is sent for a mark

-- the frames of a request of that number and that opnum, in some size
pub record IsRequestSent (number opnum : ℕ) (bytes : List ℕ) : Type 0 where
  pub small : number < 2 ^ 32
  pub known : opnum < 2 ^ 16
  pub stub : List ℕ
  pub limit : ℕ
  pub is : bytes ≡ joined_frames (frames_of (request_of number 0 opnum stub) limit)

-- the names in a call are those of the channel's computer, as of a workstation (MS-NRPC 2.2.1.3.13)
pub record AreItsNames (channel : ChannelIdentity) (account computer : List ℕ) (kind : ℕ) : Type 0 where
  pub account_is : account ≡ account_of computer
  pub kind_is : kind ≡ 2
  pub computer_is : channel.computer ≡ computer

-- what is sent is an opening of the channel, with the names of its computer
pub record IsOpeningSent (channel : ChannelIdentity) (number : ℕ) (bytes : List ℕ) : Type 0 where
  pub sent : IsRequestSent number 15 bytes
  pub asked : AuthCall
  pub read : request_read 15 sent.stub ≡ Some (served.Authenticate asked)
  pub names : AreItsNames channel asked.account asked.computer asked.channel
  pub frames : List RpcUnit
  pub heard : IsHeard bytes frames (request_of number 0 15 sent.stub)

-- a call that sets a secret has the names of the channel's computer
abbrev pub HasItsNames : ChannelIdentity → JudgedCall → Type 0
HasItsNames channel (Set c) = AreItsNames channel c.account c.computer c.channel
HasItsNames channel _ = Unit {0}

-- a call that sets no secret
abbrev pub IsNoSet : JudgedCall → Type 0
IsNoSet (Set c) = ⊥
IsNoSet _ = Unit {0}

-- the call of a turn on a channel: what is sent is read as a call that has the timestamp
pub record IsStampedCall (opnum : ℕ) (stub : List ℕ) (timestamp : ℕ) : Type 0 where
  pub asked : JudgedCall
  pub read : request_read opnum stub ≡ Some (call_judged asked)
  pub stamp : timestamp_in (given_in asked) ≡ timestamp

pub record IsCallSent (channel : ChannelIdentity) (number timestamp : ℕ) (bytes : List ℕ) : Type 0 where
  pub opnum : ℕ
  pub stub : List ℕ
  pub stamped : IsStampedCall opnum stub timestamp
  pub names : HasItsNames channel stamped.asked
  pub frames : List RpcUnit
  pub heard : IsHeard bytes frames (request_of number 0 opnum stub)

-- a reply to a Logon call is said elsewhere (`RepliesCarryTheirJudgement`)
abbrev pub CarriesMark : Mark → List ℕ → Type 0
CarriesMark Plain bytes = Unit {0}
CarriesMark (Opening channel number) bytes = IsOpeningSent channel number bytes
CarriesMark (Opened channel number request) bytes = IsOpeningReply number bytes
CarriesMark (Calling channel number timestamp) bytes = IsCallSent channel number timestamp bytes
CarriesMark (ReplyTo channel number request) bytes = Unit {0}

-- at one place stand the mark and what is sent for it, of which something holds
abbrev pub AtSentBy : (Mark → List ℕ → Type 0) → List Mark → List (List ℕ) → Type 0
AtSentBy P marks sent = (place : ℕ) (mark : Mark) (bytes : List ℕ) → slice_get marks place ≡ Some mark → slice_get sent place ≡ Some bytes → P mark bytes

abbrev pub AtSent : List Mark → List (List ℕ) → Type 0
AtSent marks sent = AtSentBy CarriesMark marks sent

none_sent : (P : Mark → List ℕ → Type 0) (sent : List (List ℕ)) → AtSentBy P [] sent
none_sent P sent place mark bytes marked sends = absurd (got_nothing place mark marked)

beside : (P : Mark → List ℕ → Type 0) (mark : Mark) (bytes : List ℕ) (marks : List Mark) (sent : List (List ℕ)) → P mark bytes → AtSentBy P marks sent →
    AtSentBy P (mark ∷ marks) (bytes ∷ sent)
beside P mark bytes marks sent carries later zero found sends marked is =
    subst (λ (b : List ℕ). P found b) (some_is bytes sends is) (subst (λ (m : Mark). P m bytes) (some_is mark found marked) carries)
beside P mark bytes marks sent carries later (suc place) found sends marked is = later place found sends marked is

-- ---- at a controller

of_reply : (mark : Mark) (one : Answered) (bytes : List ℕ) → CarriesReply mark one.judging bytes → CarriesMark mark bytes
of_reply Plain one bytes carries = tt
of_reply (Opening channel number) one bytes carries = absurd carries
of_reply (Opened channel number request) one bytes carries = carries
of_reply (Calling channel number timestamp) one bytes carries = absurd carries
of_reply (ReplyTo channel number request) one bytes carries = tt

first_answer : (sends : Bool) (one : Answered) (answers : List Answered) (sent : List (List ℕ)) → ((rest : List (List ℕ)) → AreSentFor answers rest → AtSent (answered_marks answers) rest) →
    IsSentIf sends one sent (λ (rest : List (List ℕ)). AreSentFor answers rest) → AtSent (mark_if sends one.mark ++ answered_marks answers) sent
first_answer false one answers sent later is = later sent is
first_answer true one answers [] later is = absurd is
first_answer true one answers (bytes ∷ sent) later is = beside CarriesMark one.mark bytes (answered_marks answers) sent (of_reply one.mark one bytes is.0) (later sent is.1)

all_answers : (answers : List Answered) (sent : List (List ℕ)) → AreSentFor answers sent → AtSent (answered_marks answers) sent
all_answers [] sent is = none_sent CarriesMark sent
all_answers (one ∷ answers) sent is = first_answer one.sends one answers sent (λ rest each. all_answers answers rest each) is

by_answer : (answer : Result (List Action) StepRefused) (c : ControllerState) (at : ℕ) (w : Delivery) (piece : List ℕ) (s : State) →
    (controller_step_of c (event.Bytes w.link piece) s.moment s.chances.left).answer ≡ answer → AtSent (controller_marks at c w piece s) (sends_in (actions_by answer))
by_answer (Err why) c at w piece s is = λ place mark bytes marked sends. absurd (got_nothing place bytes sends)
by_answer (Ok actions) c at w piece s is =
    all_answers (answers_of at c w piece s) (sends_in actions) (replies_sent c w.at at w.source w.link piece s.moment s.chances.left actions is)

pub controller_sends : (c : ControllerState) (at : ℕ) (w : Delivery) (piece : List ℕ) (s : State) →
    AtSent (controller_marks at c w piece s) (sends_in (actions_by (controller_step_of c (event.Bytes w.link piece) s.moment s.chances.left).answer))
controller_sends c at w piece s = by_answer (controller_step_of c (event.Bytes w.link piece) s.moment s.chances.left).answer c at w piece s refl

-- ---- the request that a member sends

known_opnum : (c : Call) → opnum_of_call c < 2 ^ 16
known_opnum (call.Logon c) = omega arith
known_opnum (call.Logoff c) = omega arith
known_opnum (call.Challenge c) = omega arith
known_opnum (call.Authenticate c) = omega arith

-- who asks has the names of its plan, and what waits for its bind has them
pub record NamesWell (s : Requester) : Type 0 where
  pub account : s.caller.account ≡ account_of s.caller.computer
  pub kind : s.caller.kind ≡ 2
  pub set : IsStampedSetStep s.caller s.standing s.next (step_in s.turn)
  pub bound : BindsItsOpening s

abbrev pub FitsWell : Requester → Type 0
FitsWell s = InRangeRequester s × NamesWell s

-- an opening that goes out
opening_sent : (c : Call) (s : Requester) (channel : ChannelIdentity) (client server bytes : List ℕ) (limit : ℕ) → question.Authenticate ≡ question_of c → HasRoom c → NamesWell s →
    IsItsOpening (Some (step.Bind c)) (standing.Half client server) s.caller → channel.computer ≡ s.caller.computer → s.next_call < 2 ^ 32 → 1432 ≤ limit → limit ≤ 5840 →
    bytes ≡ joined_frames (frames_of (request_of s.next_call 0 (opnum_of_call c) (written_call c)) limit) → IsOpeningSent channel s.next_call bytes
opening_sent (call.Logon c) s channel client server bytes limit is room well its named small least most sent = absurd (let never = is in cc)
opening_sent (call.Logoff c) s channel client server bytes limit is room well its named small least most sent = absurd (let never = is in cc)
opening_sent (call.Challenge c) s channel client server bytes limit is room well its named small least most sent = absurd (let never = is in cc)
opening_sent (call.Authenticate c) s channel client server bytes limit is room well its named small least most sent =
    let own : AuthCall = record {
      primary = None;
      account = s.caller.account;
      channel = s.caller.kind;
      computer = s.caller.computer;
      credential = cred_of (key_of s.caller.secret client server offered_flags) client;
      flags = offered_flags;
    } in
    let same : c ≡ own = (let x = its in cc) in
    record {
      sent = record { small = small; known = omega arith; stub = written_call (call.Authenticate c); limit = limit; is = sent };
      asked = c;
      read = ap (λ (read : Result Call StubRefused). call_read read 15 (written_call (call.Authenticate c))) (call_of-written_call (call.Authenticate c) room.writes room.range);
      names = record {
        account_is = ap (λ (x : AuthCall). x.account) same ∙ well.account ∙ ap (λ (x : AuthCall). account_of x.computer) (sym same);
        kind_is = ap (λ (x : AuthCall). x.channel) same ∙ well.kind;
        computer_is = named ∙ ap (λ (x : AuthCall). x.computer) (sym same);
      };
      frames = cut_of (request_of s.next_call 0 15 (written_call (call.Authenticate c))) limit;
      heard = subst (λ (b : List ℕ). IsHeard b (cut_of (request_of s.next_call 0 15 (written_call (call.Authenticate c))) limit) (request_of s.next_call 0 15 (written_call (call.Authenticate c)))) (sym sent)
          (request_heard s.next_call 15 limit (written_call (call.Authenticate c)) small (omega arith) least most
          (omega (arith, written_call-content (call.Authenticate c) room.writes room.range, room.few)));
    }

-- bytes are the frames that go out, if any do
abbrev pub IsOut : Taken → List ℕ → Type 0
IsOut (taken.Skip right) bytes = Unit {0}
IsOut (taken.Next right frames) bytes = bytes ≡ joined_frames frames
IsOut taken.Half bytes = Unit {0}
IsOut taken.Opened bytes = Unit {0}
IsOut (taken.Answer place verdict) bytes = Unit {0}
IsOut (taken.Dropped place cause) bytes = Unit {0}
IsOut taken.Set bytes = Unit {0}

stamped_call : (turn : Option Pending) (number place : ℕ) (c : Call) → turn ≡ bound_at number place c → question.Logon ≡ question_of c → HasRoom c →
    IsStampedCall (opnum_of_call c) (written_call c) (timestamp_bound (step_in turn))
stamped_call turn number place (call.Logon c) is asks room = record {
  asked = Network c;
  read = ap (λ (read : Result Call StubRefused). call_read read 2 (written_call (call.Logon c))) (call_of-written_call (call.Logon c) room.writes room.range);
  stamp = sym (ap (λ (t : Option Pending). timestamp_bound (step_in t)) is);
}
stamped_call turn number place (call.Logoff c) is asks room = record {
  asked = NetworkLogoff c;
  read = ap (λ (read : Result Call StubRefused). call_read read 3 (written_call (call.Logoff c))) (call_of-written_call (call.Logoff c) room.writes room.range);
  stamp = sym (ap (λ (t : Option Pending). timestamp_bound (step_in t)) is);
}
stamped_call turn number place (call.Challenge c) is asks room = absurd (let never = asks in cc)
stamped_call turn number place (call.Authenticate c) is asks room = absurd (let never = asks in cc)

stamped_names : (turn : Option Pending) (number place : ℕ) (c : Call) (is : turn ≡ bound_at number place c) (asks : question.Logon ≡ question_of c) (room : HasRoom c) (channel : ChannelIdentity) →
    HasItsNames channel (stamped_call turn number place c is asks room).asked
unfolding stamped_call
stamped_names turn number place (call.Logon c) is asks room channel = tt
stamped_names turn number place (call.Logoff c) is asks room channel = tt
stamped_names turn number place (call.Challenge c) is asks room channel = absurd (let never = asks in cc)
stamped_names turn number place (call.Authenticate c) is asks room channel = absurd (let never = asks in cc)

-- a call that sets a secret
stamped_set : (turn : Option Pending) (number place : ℕ) (c : SetCall) → turn ≡ set_bound_at number place c → HasSetRoom c →
    IsStampedCall set_opnum (written_set_call c) (timestamp_bound (step_in turn))
unfolding set_call_of
stamped_set turn number place c is room = record {
  asked = Set c;
  read = ap set_read (stub_again set_call c _ _ (call_stub c room.sends.writes room.sends.range));
  stamp = sym (ap (λ (t : Option Pending). timestamp_bound (step_in t)) is);
}

set_few : (c : SetCall) → HasSetRoom c → length (written_set_call c) ≤ whole_limit
set_few c room =
    omega (arith, (call_stub c room.sends.writes room.sends.range).short, ap (λ (primary : Option (List ℕ)). size_if_there text_size primary) room.primary, room.few)

module _ (controller : ℕ) (s : Requester) (range : InRangeRequester s) (well : NamesWell s) (bytes : List ℕ) where
  settled_out : (j : Judgement) → CarriesMark (taking_note (Some (settle j s)) controller s).mark bytes
  settled_out (judgement.Half client server) = tt
  settled_out (judgement.Opened o) = tt
  settled_out (judgement.Answer o v) = tt
  settled_out (judgement.Drop cause) = tt

  pub asked_out : (q : Question) (how : Standing) (after : Requester) (number place : ℕ) (c : Call) (limit : ℕ) → s.turn ≡ bound_at number place c → 1432 ≤ limit → limit ≤ 5840 → q ≡ question_of c → s.standing ≡ how →
      after.caller ≡ s.caller → bytes ≡ joined_frames (frames_of (request_of s.next_call 0 (opnum_of_call c) (written_call c)) limit) →
      CarriesMark (asked_note (Some (step.Reply q)) how controller s after).mark bytes
  asked_out (question.Challenge client) how after number place c limit turn least most asks stands same is = tt
  asked_out question.Authenticate standing.Nothing after number place c limit turn least most asks stands same is = tt
  asked_out question.Authenticate (standing.Half client server) after number place c limit turn least most asks stands same is =
      let its : IsItsOpening (Some (step.Bind c)) (standing.Half client server) s.caller =
      subst (λ (how : Standing). IsItsOpening (Some (step.Bind c)) how s.caller) stands (subst (λ (t : Option Pending). IsItsOpening (step_in t) s.standing s.caller) turn well.bound) in
      opening_sent c s (half_channel controller after client server) client server bytes limit asks (subst InRangeTurn turn range.turn) well its (ap (λ (x : Caller). x.computer) same) range.next_call least most is
  asked_out question.Authenticate (standing.Open o) after number place c limit turn least most asks stands same is = tt
  asked_out question.Logon standing.Nothing after number place c limit turn least most asks stands same is = tt
  asked_out question.Logon (standing.Half client server) after number place c limit turn least most asks stands same is = tt
  asked_out question.Logon (standing.Open o) after number place c limit turn least most asks stands same is =
      let room : HasRoom c = subst InRangeTurn turn range.turn in
      record {
        opnum = opnum_of_call c;
        stub = written_call c;
        stamped = stamped_call s.turn number place c turn asks room;
        names = stamped_names s.turn number place c turn asks room (channel_of controller after.caller.computer o);
        frames = cut_of (request_of s.next_call 0 (opnum_of_call c) (written_call c)) limit;
        heard = subst (λ (b : List ℕ). IsHeard b (cut_of (request_of s.next_call 0 (opnum_of_call c) (written_call c)) limit) (request_of s.next_call 0 (opnum_of_call c) (written_call c))) (sym is)
            (request_heard s.next_call (opnum_of_call c) limit (written_call c) range.next_call (known_opnum c) least most (omega (arith, written_call-content c room.writes room.range, room.few)));
      }

  -- the call that waits for its bind has the names
  set_names : (after : Requester) (number place : ℕ) (c : SetCall) → s.turn ≡ set_bound_at number place c → after.caller ≡ s.caller → (channel : ChannelIdentity) →
      channel.computer ≡ after.caller.computer → AreItsNames channel c.account c.computer c.channel
  set_names after number place c turn same channel named =
      let its : IsStampedSet s.caller s.standing s.next c = subst (λ (t : Option Pending). IsStampedSetStep s.caller s.standing s.next (step_in t)) turn well.set in
      record {
        account_is = ap (λ (x : SetCall). x.account) its.is ∙ well.account ∙ ap (λ (x : SetCall). account_of x.computer) (sym its.is);
        kind_is = ap (λ (x : SetCall). x.channel) its.is ∙ well.kind;
        computer_is = named ∙ ap (λ (x : Caller). x.computer) same ∙ ap (λ (x : SetCall). x.computer) (sym its.is);
      }

  pub set_out : (how : Standing) (after : Requester) (number place : ℕ) (c : SetCall) (limit : ℕ) → s.turn ≡ set_bound_at number place c → 1432 ≤ limit → limit ≤ 5840 → after.caller ≡ s.caller →
      bytes ≡ joined_frames (frames_of (request_of s.next_call 0 set_opnum (written_set_call c)) limit) →
      CarriesMark (asked_note (Some (step.Set set_step.Reply)) how controller s after).mark bytes
  unfolding stamped_set
  set_out standing.Nothing after number place c limit turn least most same is = tt
  set_out (standing.Half client server) after number place c limit turn least most same is = tt
  set_out (standing.Open o) after number place c limit turn least most same is =
      let room : HasSetRoom c = subst InRangeTurn turn range.turn in
      let request : RpcUnit = request_of s.next_call 0 set_opnum (written_set_call c) in
      record {
        opnum = set_opnum;
        stub = written_set_call c;
        stamped = stamped_set s.turn number place c turn room;
        names = set_names after number place c turn same (channel_of controller after.caller.computer o) refl;
        frames = cut_of request limit;
        heard = subst (λ (b : List ℕ). IsHeard b (cut_of request limit) request) (sym is)
            (request_heard s.next_call set_opnum limit (written_set_call c) range.next_call (omega arith) least most (set_few c room));
      }

  -- ---- which call that is

  pub no_set_out : (o : SecureChannelState) (after : Requester) (number place : ℕ) (c : Call) (limit : ℕ) (turn : s.turn ≡ bound_at number place c) (least : 1432 ≤ limit) (most : limit ≤ 5840)
      (asks : question.Logon ≡ question_of c) (stands : s.standing ≡ standing.Open o) (same : after.caller ≡ s.caller)
      (is : bytes ≡ joined_frames (frames_of (request_of s.next_call 0 (opnum_of_call c) (written_call c)) limit)) →
      IsNoSet (asked_out question.Logon (standing.Open o) after number place c limit turn least most asks stands same is).stamped.asked
  unfolding asked_out stamped_call
  no_set_out o after number place (call.Logon c) limit turn least most asks stands same is = tt
  no_set_out o after number place (call.Logoff c) limit turn least most asks stands same is = tt
  no_set_out o after number place (call.Challenge c) limit turn least most asks stands same is = absurd (let never = asks in cc)
  no_set_out o after number place (call.Authenticate c) limit turn least most asks stands same is = absurd (let never = asks in cc)

  pub its_set_out : (o : SecureChannelState) (after : Requester) (number place : ℕ) (c : SetCall) (limit : ℕ) (turn : s.turn ≡ set_bound_at number place c) (least : 1432 ≤ limit) (most : limit ≤ 5840)
      (same : after.caller ≡ s.caller) (is : bytes ≡ joined_frames (frames_of (request_of s.next_call 0 set_opnum (written_set_call c)) limit)) →
      (set_out (standing.Open o) after number place c limit turn least most same is).stamped.asked ≡ Set c
  unfolding set_out stamped_set
  its_set_out o after number place c limit turn least most same is = refl

  set_settled_out : (judged : SetOutcome) → CarriesMark (taking_note (Some (settle_set judged s)) controller s).mark bytes
  set_settled_out (Ok o) = tt
  set_settled_out (Err cause) = tt

  acted_out : (h : Hearing) → IsOfTurn s.turn s.next_call h → IsOut (act h s).taken bytes → CarriesMark (taking_note (Some (act h s)) controller s).mark bytes
  acted_out hearing.Skip of out = tt
  acted_out (hearing.Next q frames) of out =
      asked_out q s.standing (act (hearing.Next q frames) s).state of.0 of.1 of.2 of.5 of.3 of.6 of.7 of.4 refl refl (out ∙ ap (λ (f : List (List ℕ)). joined_frames f) of.8)
  acted_out (hearing.Reply q r) of out = settled_out (judge q r s.standing s.caller.secret)
  acted_out (hearing.Drop cause) of out = settled_out (judgement.Drop cause)
  acted_out (hearing.Set (set_hearing.Next frames)) of out =
      set_out s.standing (act (hearing.Set (set_hearing.Next frames)) s).state of.0 of.1 of.2 of.4 of.3 of.5 of.6 refl (out ∙ ap (λ (f : List (List ℕ)). joined_frames f) of.7)
  acted_out (hearing.Set (set_hearing.Reply r)) of out = set_settled_out (judge_set r s.standing)

  taken_out : (unit : RpcUnit) → IsOut (take_of s unit).taken bytes → CarriesMark (taking_note (Some (take_of s unit)) controller s).mark bytes
  taken_out unit out = acted_out (hear s.turn unit s.next_call) (of_turn s.turn unit s.next_call) out

-- ---- what is done with it

out_of : (what : Taken) (at : AtTurn) (bytes : List ℕ) → (do_taken what None at).0.work.actions ≡ at.work.actions ++ action.Send at.link bytes ∷ [] → IsOut what bytes
out_of (taken.Skip right) at bytes is = tt
out_of (taken.Next right frames) at bytes is =
    sym (bytes_are at.link (joined_frames frames) bytes (last_is at.work.actions (action.Send at.link (joined_frames frames)) (action.Send at.link bytes) is))
out_of taken.Half at bytes is = tt
out_of taken.Opened at bytes is = tt
out_of (taken.Answer place verdict) at bytes is = tt
out_of (taken.Dropped place cause) at bytes is = tt
out_of taken.Set at bytes is = tt

-- `P` holds of what goes out at a unit, or at the one unit of a piece, and of its mark
abbrev pub MakesIn : (P : Mark → List ℕ → Type 0) → ℕ → Requester → RpcUnit → Type 0
MakesIn P controller s unit = (bytes : List ℕ) → IsOut (take_of s unit).taken bytes → P (taking_note (Some (take_of s unit)) controller s).mark bytes

abbrev pub Makes : (P : Mark → List ℕ → Type 0) → ℕ → List ℕ → Requester → Type 0
Makes P controller piece s = (one : IsOneUnit piece) → MakesIn P controller s one.unit

-- what a unit makes go out is what is sent for its mark
pub makes_marks : (controller : ℕ) (piece : List ℕ) (s : Requester) → FitsWell s → Makes CarriesMark controller piece s
makes_marks controller piece s fits one bytes out = taken_out controller s fits.0 fits.1 bytes one.unit out

module _ (P : Mark → List ℕ → Type 0) where
  -- what is sent for the marks goes out first, on the link on which bytes came
  pub record SendsFirst (link : ℕ) (marks : List Mark) (actions : List Action) : Type 0 where
    pub front : IsFront link marks actions
    pub carries : AtSentBy P marks (sends_in actions)

  sends_by : (sends : Bool) (mark : Mark) (link : ℕ) (before : AtTurn) (later : Option AtTurn) (actions : List Action) → before.link ≡ link →
      ((bytes : List ℕ) (done : AtTurn) → later ≡ Some done → done.work.actions ≡ before.work.actions ++ action.Send before.link bytes ∷ [] → P mark bytes) →
      IsFirstBy sends before later actions (λ more. Unit {0}) → SendsFirst link (mark_if sends mark ++ []) actions
  sends_by false mark link before later actions on carries first =
      record { front = record { front = []; rest = actions; is = refl; here = tt; size = refl }; carries = none_sent P (sends_in actions) }
  sends_by true mark link before later actions on carries first = record {
    front = record { front = action.Send before.link first.0 ∷ []; rest = first.1; is = first.3; here = (on, tt); size = refl };
    carries = subst (λ (all : List Action). AtSentBy P (mark ∷ []) (sends_in all)) (sym first.3)
        (beside P mark first.0 [] (sends_in first.1) (carries first.0 first.2 first.4 first.5) (none_sent P (sends_in first.1)));
  }

  -- ---- of a whole unit

  abbrev IsQuietUnit : AtTurn → ServedUnit AtTurn TurnTalk → Type 0
  IsQuietUnit at served = (taking_at served ≡ None) × (served.work ≡ at)

  quiet_note : (controller : ℕ) (served : ServedUnit AtTurn TurnTalk) → taking_at served ≡ None → turn_note controller served ≡ no_note
  quiet_note controller served none = ap (λ (taking : Option Taking). taking_note taking controller served.work.work.logons.channel) none

  last_first : (controller : ℕ) (at : AtTurn) (before : List (ServedUnit AtTurn TurnTalk)) (last : ServedUnit AtTurn TurnTalk) (actions : List Action) → AllByRecursion (IsQuietUnit at) before →
      AreFirst controller (before ++ last ∷ []) actions → IsFirstBy (turn_note controller last).sends last.work (work_after last.part) actions (λ more. Unit {0})
  last_first controller at [] last actions none first = first
  last_first controller at (one ∷ before) last actions none first =
      last_first controller at before last actions none.1
      (subst (λ (note : TurnNote). IsFirstBy note.sends one.work (work_after one.part) actions (λ more. AreFirst controller (before ++ last ∷ []) more)) (quiet_note controller one none.0.0) first)

  last_marks : (controller : ℕ) (at : AtTurn) (before : List (ServedUnit AtTurn TurnTalk)) (last : ServedUnit AtTurn TurnTalk) → AllByRecursion (IsQuietUnit at) before →
      mark_if (turn_note controller last).sends (turn_note controller last).mark ++ [] ≡ turn_marks (map (turn_note controller) (before ++ last ∷ []))
  last_marks controller at [] last none = refl
  last_marks controller at (one ∷ before) last none =
      last_marks controller at before last none.1
      ∙ sym (ap (λ (note : TurnNote). mark_if note.sends note.mark ++ turn_marks (map (turn_note controller) (before ++ last ∷ []))) (quiet_note controller one none.0.0))

  -- the last of them takes the whole unit
  last_carries : (controller : ℕ) (at : AtTurn) (unit : RpcUnit) (left : List (List ℕ)) (units : List (ServedUnit AtTurn TurnTalk)) (takes : TakesWhole at unit left units) →
      MakesIn P controller at.work.logons.channel unit → (bytes : List ℕ) (done : AtTurn) → work_after takes.last.part ≡ Some done →
      done.work.actions ≡ takes.last.work.work.actions ++ action.Send takes.last.work.link bytes ∷ [] → P (turn_note controller takes.last).mark bytes
  last_carries controller at unit left units takes makes bytes done comes is =
      let s : Requester = at.work.logons.channel in
      let taking : Taking = take_of s unit in
      let same : (take_by taking None at).0 ≡ done = some_is (take_by taking None at).0 done (sym (ap work_after takes.comes) ∙ comes) in
      let sent : (take_by taking None at).0.work.actions ≡ at.work.actions ++ action.Send at.link bytes ∷ [] =
      ap (λ (one : AtTurn). one.work.actions) same ∙ is ∙ ap (λ (one : AtTurn). one.work.actions ++ action.Send one.link bytes ∷ []) takes.work in
      let out : IsOut taking.taken bytes = out_of taking.taken (with_work at (with_requester at.work taking.state)) bytes sent in
      subst (λ (one : Option Taking). P (taking_note one controller takes.last.work.work.logons.channel).mark bytes) (sym takes.takes)
      (subst (λ (one : AtTurn). P (taking_note (Some taking) controller one.work.logons.channel).mark bytes) (sym takes.work) (makes bytes out))

  takes_sends : (controller : ℕ) (at : AtTurn) (unit : RpcUnit) (left : List (List ℕ)) (units : List (ServedUnit AtTurn TurnTalk)) (actions : List Action) → TakesWhole at unit left units →
      MakesIn P controller at.work.logons.channel unit → AreFirst controller units actions → SendsFirst at.link (turn_marks (map (turn_note controller) units)) actions
  takes_sends controller at unit left units actions takes makes first =
      let all : AreFirst controller (takes.before ++ takes.last ∷ []) actions = subst (λ (us : List (ServedUnit AtTurn TurnTalk)). AreFirst controller us actions) takes.all first in
      subst (λ (us : List (ServedUnit AtTurn TurnTalk)). SendsFirst at.link (turn_marks (map (turn_note controller) us)) actions) (sym takes.all)
      (subst (λ (marks : List Mark). SendsFirst at.link marks actions) (last_marks controller at takes.before takes.last takes.none)
      (sends_by (turn_note controller takes.last).sends (turn_note controller takes.last).mark at.link takes.last.work (work_after takes.last.part) actions (ap (λ (one : AtTurn). one.link) takes.work)
      (last_carries controller at unit left units takes makes) (last_first controller at takes.before takes.last actions takes.none all)))

  -- ---- a member's step

  -- nothing is marked; or `Own` holds of the link, and what is sent there for the marks goes first
  abbrev pub SendsIf : Type 0 → ℕ → List Mark → List Action → Type 0
  SendsIf Own link marks actions = (marks ≡ []) ⊎ (Own × SendsFirst link marks actions)

  module _ (Own : ℕ → Type 0) (controller number : ℕ) (piece : List ℕ) (left : List (List ℕ)) (one : Own number → IsOneUnit piece) where
    by_sends : (hit : Bool) (other : ℕ) (said : LinkState TurnTalk) (running : Running) (actions : List Action) → (other == number) ≡ hit → Makes P controller piece running.logons.channel →
        IsRested Own other said → AreFirst controller (turn_units_by hit said number piece running left) actions →
        SendsIf (Own number) number (turn_marks (map (turn_note controller) (turn_units_by hit said number piece running left))) actions
    by_sends false other said running actions is makes rested first = inl refl
    by_sends true other said running actions is makes rested first =
        let own : Own number = subst Own (eqb-true other number is) rested.own in
        let unit : IsOneUnit piece = one own in
        let at : AtTurn = at_turn number (work_of running) in
        let bytes : said.rest ++ piece ≡ piece = ap (λ (rest : List ℕ). rest ++ piece) rested.rest in
        let takes : TakesWhole at unit.unit left (served_units turn_server (cut_stream (said.rest ++ piece)).units at said.talk left) =
        subst (λ (all : List ℕ). TakesWhole at unit.unit left (served_units turn_server (cut_stream all).units at said.talk left)) (sym bytes)
        (members_take.units piece unit.frames unit.unit at said.talk left unit.heard rested.joiner) in
        inr (own, takes_sends controller at unit.unit left (served_units turn_server (cut_stream (said.rest ++ piece)).units at said.talk left) actions takes (makes unit) first)

    on_sends : (how : Dialling) (running : Running) (actions : List Action) → Makes P controller piece running.logons.channel → IfOn Own how →
        AreFirst controller (turn_units_on how number piece running left) actions →
        SendsIf (Own number) number (turn_marks (map (turn_note controller) (turn_units_on how number piece running left))) actions
    on_sends dialling.Nothing running actions makes on first = inl refl
    on_sends (dialling.Waits turn frames) running actions makes on first = inl refl
    on_sends (dialling.On other said) running actions makes on first = by_sends (other == number) other said running actions refl makes on first

    in_sends : (r : Option Running) (actions : List Action) → ((running : Running) → r ≡ Some running → Makes P controller piece running.logons.channel × IfOn Own running.dialling) →
        AreFirst controller (turn_units_in r number piece left) actions → SendsIf (Own number) number (turn_marks (map (turn_note controller) (turn_units_in r number piece left))) actions
    in_sends None actions known first = inl refl
    in_sends (Some running) actions known first = let is = known running refl in on_sends running.dialling running actions is.0 is.1 first

    by_step : (answer : Result (List Action) StepRefused) (m : MemberState) (now : ℕ) → (step_of m (event.Bytes number piece) now left).answer ≡ answer →
        ((running : Running) → m.running ≡ Some running → Makes P controller piece running.logons.channel × IfOn Own running.dialling) →
        SendsIf (Own number) number (turn_marks (map (turn_note controller) (units_if_taken answer (turn_units_in m.running number piece left)))) (actions_by answer)
    by_step (Err why) m now is known = inl refl
    by_step (Ok actions) m now is known =
        in_sends m.running actions known
        (subst (λ (answer : Result (List Action) StepRefused). AreFirst controller (units_if_taken answer (turn_units_in m.running number piece left)) actions) is
        (requests_first.first controller m number piece now left actions is))

    pub member_sends : (m : MemberState) (now : ℕ) →
        ((running : Running) → m.running ≡ Some running → Makes P controller piece running.logons.channel × IfOn Own running.dialling) →
        SendsIf (Own number) number (turn_marks (map (turn_note controller) (turn_units m number piece now left))) (actions_by (step_of m (event.Bytes number piece) now left).answer)
    member_sends m now known = by_step (step_of m (event.Bytes number piece) now left).answer m now refl known
