-- What a step comes to, by the units that are joined on the station's link. It serves `a_station_ends_by_replies`.
use Rattle.std.proofs.Common.{◌≡◌, ℕ, ◌==◌, ◌++◌, ◌&&◌, Bool, true, false, cond, not, List, [], ◌∷◌, Option, Some, None, Result, Ok, Err, bytes_eq, refl, sym, ap, subst, ◌∙◌, append_assoc, append-nil}
use Rattle.wire_base.specs.declared.authenticator.Authenticator.{Authenticator}
use Rattle.ntlm_flags.specs.Flags.{has_flag}
use Rattle.channel_keys.specs.Flags.{rc4_flag}
use Rattle.channel_keys.specs.Hidden.{crypt_key}
use Rattle.authenticators.specs.SecureChannels.{SecureChannelState, after_return, fresh_channel, is_awaited, key_of_channel}
use Rattle.std.proofs.lemmas.Bool.{eq-eqb}
use Rattle.outside.specs.Machine.{Part, Stepped, step_by, then_part}
use Rattle.outside.specs.declared.action.Action.{Action}
use Rattle.outside.specs.declared.action.Action.TheVariants as action
use Rattle.outside.specs.declared.action.CloseCause.{CloseCause}
use Rattle.outside.specs.declared.action.CloseCause.TheVariants as close
use Rattle.outside.specs.declared.action.DropCause.{DropCause}
use Rattle.outside.specs.declared.action.DropCause.TheVariants as drop_cause
use Rattle.outside.specs.declared.action.Outcome.TheVariants as told
use Rattle.outside.specs.declared.action.StepRefused.{StepRefused}
use Rattle.outside.specs.declared.event.Event.{Event}
use Rattle.outside.specs.declared.event.Event.TheVariants as event
use Rattle.rpc_units.specs.declared.refused.UnitRefused.{UnitRefused}
use Rattle.rpc_units.specs.declared.unit.Body.{Body}
use Rattle.rpc_units.specs.declared.unit.Body.TheVariants.{Bind, BindAck, BindNak, Auth3, Request, Response, Fault}
use Rattle.rpc_units.specs.declared.unit.Unit.{Unit as RpcUnit}
use Rattle.rpc_units.specs.Reading.{unit_of}
use Rattle.rpc_units.specs.Stream.{Cut, cut_stream}
use Rattle.logon_stubs.specs.declared.refused.StubRefused.{StubRefused}
use Rattle.logon_stubs.specs.declared.info.SamInfo.{SamInfo}
use Rattle.logon_stubs.specs.declared.calls.Reply.{Reply}
use Rattle.logon_stubs.specs.declared.calls.Reply.TheVariants as reply
use Rattle.logon_stubs.specs.Calls.{reply_of}
use Rattle.logon_stubs.specs.Status.{access_denied}
use Rattle.end_links.specs.Binding.{limit_of}
use Rattle.end_links.specs.Links.{LinkState}
use Rattle.end_links.specs.Serving.{ServedPart, served_by, served_cut, then_talk}
use Rattle.channel_client.specs.Machine.{is_accepting, judge_auth, judge_awaited, judge_challenge, judge_credential, judge_flags, judge_level, judge_logon, judge_return, judge_status, level_asked, offered_flags, server_credential}
use Rattle.channel_client.specs.declared.state.Standing.TheVariants as standing
use Rattle.channel_turns.specs.declared.hearing.Heard.{Heard}
use Rattle.channel_turns.specs.declared.hearing.Heard.TheVariants as heard
use Rattle.channel_turns.specs.Hearing.{heard_of}
use Rattle.channel_turns.specs.Laws.{then_heard, whole_units}
use Rattle.interactive_station.specs.declared.outcome.StationOutcome.{StationOutcome}
use Rattle.interactive_station.specs.declared.outcome.StationOutcome.TheVariants.{Off, Refused, BadPeer}
use Rattle.interactive_station.specs.declared.plan.StationPlan.{StationPlan}
use Rattle.interactive_station.specs.declared.state.StationAfter.{StationAfter}
use Rattle.interactive_station.specs.declared.state.StationCall.{StationCall}
use Rattle.interactive_station.specs.declared.state.StationCall.TheVariants.{Challenge, Authenticate, Logon, Logoff}
use Rattle.interactive_station.specs.declared.state.StationLink.{StationLink}
use Rattle.interactive_station.specs.declared.state.StationLink.TheVariants.{Idle, Dialling, On}
use Rattle.interactive_station.specs.declared.state.StationRunning.{StationRunning}
use Rattle.interactive_station.specs.declared.state.StationStep.{StationStep}
use Rattle.interactive_station.specs.declared.state.StationStep.TheVariants.{Bound, Asked}
use Rattle.interactive_station.specs.declared.state.StationTalk.{StationTalk}
use Rattle.interactive_station.specs.declared.state.StationWork.{StationWork}
use Rattle.interactive_station.specs.Calls.{bind_number, opnum_of, request_number}
use Rattle.interactive_station.specs.Machine.{actions_after, after_close, after_serving, after_stream, breaks, by_close, by_event, by_piece, closes, dials, ends_by, fails, halted, hear_ack, hear_body, hear_heard, hear_reply, hear_whole, is_return, logoff_by_denial, logoff_by_return, logoff_by_status, request_bytes, settle, settle_judged, settle_logoff, shut, state_after, station_server, step_of, tell, work_of}
use Rattle.interactive_station.specs.Moves.{call_in}
use Rattle.interactive_station.specs.Replies.{Answer, Awaited, Broken, Fails, Replied, Bringing, Course, StepsAs, answer_among, answer_by, answer_by_ack, answer_course, answer_in, answer_of_stub, after_sends, units_behind, bind_answer, brings, brings_bound, brings_by, units_course, brings_in, end_course, next_course, is_dialled, is_heard, limit_by, logon_course, logs_on, unit_numbered, open_behind, or_open, or_refusal, piece_course, refusal_among, reply_course, request_sends, returns_awaited, stays_on, step_then, by_rules}
use Rattle.interactive_station.specs.State.{StationState}
use Rattle.interactive_station.proofs.StepLaws.{step_is}

-- ---- the units of a piece come to the answer among those that they join to

abbrev answers_with : Answer → StationCall → StationTalk → StationWork → StationWork × Option StationTalk
answers_with Awaited c talk work = (work, Some talk)
answers_with (Broken cause) c talk work = shut (breaks cause talk.link work)
answers_with (Fails cause) c talk work = shut (fails cause talk.link work)
answers_with (Replied r) c talk work = shut (settle c r talk.link work)

abbrev sends_by : Option ℕ → StationCall → ℕ → StationWork → StationWork
sends_by None c link work = work
sends_by (Some limit) c link work = tell work (action.Send link (request_bytes c work.task limit))

-- by what was brought, and by what is open behind it
abbrev comes_with : Bringing → StationStep → ℕ → Option RpcUnit → StationWork → StationWork × Option StationTalk
comes_with b st link behind work =
    answers_with b.answer (call_in st) (record { link = link; joiner = behind; step = step_then b.limit (call_in st) st }) (sends_by b.limit (call_in st) link work)

abbrev talk_at : StationStep → ℕ → Option RpcUnit → StationTalk
talk_at st link joiner = record { link = link; joiner = joiner; step = st }

abbrev part_of : StationWork × Option StationTalk → List (List ℕ) → ServedPart StationWork StationTalk
part_of value left = Ok (record { value = value; left = left })

module _ (units : List (List ℕ)) (why : Option UnitRefused) (link : ℕ) (left : List (List ℕ)) where
  -- the units behind one that left the link open, or closed it
  abbrev onwards : StationWork × Option StationTalk → ServedPart StationWork StationTalk
  onwards value = then_talk value.0 value.1 left (λ later said rest. served_by station_server units why later said rest)

  -- what is served of them at that step, with that open
  abbrev Serves : StationStep → StationWork → Type 0
  Serves st work = (joiner : Option RpcUnit) → served_by station_server units why work (talk_at st link joiner) left
      ≡ part_of (comes_with (brings st (whole_units units joiner) (refusal_among units why joiner)) st link (open_behind units joiner) work) left

  -- ---- where the reply is due

  module _ (c : StationCall) (work : StationWork) where
    ack_asked : (accepted : Bool) (receive : ℕ) (joiner behind : Option RpcUnit) →
        onwards (hear_ack accepted (Asked c) receive joiner link work) ≡ part_of (answers_with (answer_by_ack accepted) c (talk_at (Asked c) link behind) work) left
    ack_asked false receive joiner behind = refl
    ack_asked true receive joiner behind = refl

    reply_asked : (r : Result Reply StubRefused) (behind : Option RpcUnit) →
        onwards (shut (hear_reply c r link work)) ≡ part_of (answers_with (answer_of_stub r) c (talk_at (Asked c) link behind) work) left
    reply_asked (Ok r) behind = refl
    reply_asked (Err why) behind = refl

    body_asked : (body : Body) (joiner behind : Option RpcUnit) →
        onwards (hear_body body (Asked c) joiner link work) ≡ part_of (answers_with (answer_in body c) c (talk_at (Asked c) link behind) work) left
    body_asked (Response hint context stub) joiner behind = reply_asked (reply_of (opnum_of c) stub) behind
    body_asked (Fault hint context status) joiner behind = refl
    body_asked (BindNak reason) joiner behind = refl
    body_asked (BindAck send receive group results) joiner behind = ack_asked (is_accepting results) receive joiner behind
    body_asked (Bind send receive group contexts) joiner behind = refl
    body_asked (Request hint context opnum stub) joiner behind = refl
    body_asked Auth3 joiner behind = refl

    whole_asked : (due : Bool) (unit : RpcUnit) (after : Option RpcUnit) → Serves (Asked c) work →
        onwards (hear_whole due unit after (Asked c) link work)
        ≡ part_of (answers_with (answer_by (cond due (Some unit) (unit_numbered (request_number c) (whole_units units after))) (refusal_among units why after) c) c
        (talk_at (Asked c) link (open_behind units after)) work) left
    whole_asked false unit after each = each after
    whole_asked true unit after each = body_asked unit.body after (open_behind units after)

    heard_asked : (what : Heard) → Serves (Asked c) work →
        onwards (hear_heard what (Asked c) link work)
        ≡ part_of (answers_with (answer_among (then_heard what (λ after. whole_units units after)) (or_refusal what (λ after. refusal_among units why after)) c) c
        (talk_at (Asked c) link (or_open what (λ after. open_behind units after))) work) left
    heard_asked (heard.Waits joiner) each = each joiner
    heard_asked (heard.Whole unit joiner) each = whole_asked (unit.call == request_number c) unit joiner each
    heard_asked (heard.Broken cause) each = refl

asked_serves : (units : List (List ℕ)) (why : Option UnitRefused) (link : ℕ) (left : List (List ℕ)) (c : StationCall) (work : StationWork) → Serves units why link left (Asked c) work
asked_serves [] None link left c work joiner = refl
asked_serves [] (Some why) link left c work joiner = refl
asked_serves (bytes ∷ units) why link left c work joiner =
    heard_asked units why link left c work (heard_of (unit_of bytes) joiner) (λ after. asked_serves units why link left c work after)

-- ---- where the answer to the bind is due

module _ (units : List (List ℕ)) (why : Option UnitRefused) (link : ℕ) (left : List (List ℕ)) (c : StationCall) (work : StationWork) where
  -- what is served behind the whole unit that answers the bind
  abbrev BoundBy : Body → Option RpcUnit → Type 0
  BoundBy body after = onwards units why link left (hear_body body (Bound c) after link work)
      ≡ part_of (comes_with (brings_by (bind_answer body) (whole_units units after) (refusal_among units why after) c) (Bound c) link (open_behind units after) work) left

  ack_bound : (accepted : Bool) (receive : ℕ) (after : Option RpcUnit) →
      onwards units why link left (hear_ack accepted (Bound c) receive after link work)
      ≡ part_of (comes_with (brings_by (limit_by accepted receive) (whole_units units after) (refusal_among units why after) c) (Bound c) link (open_behind units after) work) left
  ack_bound false receive after = refl
  ack_bound true receive after = asked_serves units why link left c (tell work (action.Send link (request_bytes c work.task (limit_of receive)))) after

  body_bound : (body : Body) (after : Option RpcUnit) → BoundBy body after
  body_bound (BindAck send receive group results) after = ack_bound (is_accepting results) receive after
  body_bound (BindNak reason) after = refl
  body_bound (Fault hint context status) after = refl
  body_bound (Response hint context stub) after = refl
  body_bound (Bind send receive group contexts) after = refl
  body_bound (Request hint context opnum stub) after = refl
  body_bound Auth3 after = refl

  whole_bound : (due : Bool) (unit : RpcUnit) (after : Option RpcUnit) → Serves units why link left (Bound c) work →
      onwards units why link left (hear_whole due unit after (Bound c) link work)
      ≡ part_of (comes_with (brings_bound (cond due (Some unit) (unit_numbered (bind_number c) (whole_units units after)))
      (cond due (whole_units units after) (units_behind (bind_number c) (whole_units units after))) (refusal_among units why after) c)
      (Bound c) link (open_behind units after) work) left
  whole_bound false unit after each = each after
  whole_bound true unit after each = body_bound unit.body after

  heard_bound : (what : Heard) → Serves units why link left (Bound c) work →
      onwards units why link left (hear_heard what (Bound c) link work)
      ≡ part_of (comes_with (brings (Bound c) (then_heard what (λ after. whole_units units after)) (or_refusal what (λ after. refusal_among units why after)))
      (Bound c) link (or_open what (λ after. open_behind units after)) work) left
  heard_bound (heard.Waits joiner) each = each joiner
  heard_bound (heard.Whole unit joiner) each = whole_bound (unit.call == bind_number c) unit joiner each
  heard_bound (heard.Broken cause) each = refl

bound_serves : (units : List (List ℕ)) (why : Option UnitRefused) (link : ℕ) (left : List (List ℕ)) (c : StationCall) (work : StationWork) → Serves units why link left (Bound c) work
bound_serves [] None link left c work joiner = refl
bound_serves [] (Some why) link left c work joiner = refl
bound_serves (bytes ∷ units) why link left c work joiner =
    heard_bound units why link left c work (heard_of (unit_of bytes) joiner) (λ after. bound_serves units why link left c work after)

step_serves : (units : List (List ℕ)) (why : Option UnitRefused) (link : ℕ) (left : List (List ℕ)) (st : StationStep) (work : StationWork) → Serves units why link left st work
step_serves units why link left (Bound c) work = bound_serves units why link left c work
step_serves units why link left (Asked c) work = asked_serves units why link left c work

-- ---- what the answer comes to

-- the station did what the course says, has its outcome, and stands as it says
record Took (after : StationAfter) (plan : StationPlan) (course : Course) : Type 0 where
  pub actions : after.work.actions ≡ course.actions
  pub outcome : after.work.outcome ≡ course.outcome
  pub standing : after.standing ≡ course.standing
  pub task : after.work.task ≡ plan

abbrev work_at : StationPlan → ℕ → List Action → StationWork
work_at plan now actions = record { task = plan; now = now; next = None; outcome = None; actions = actions }

module _ (link : ℕ) (plan : StationPlan) (now : ℕ) (sent : List Action) where
  abbrev work : StationWork
  work = work_at plan now sent

  -- a link that was closed
  abbrev Settled : StationWork → Course → Type 0
  Settled done course = Took (after_close done) plan (after_sends sent course)

  end_so : (cause : CloseCause) (how : StationOutcome) → Settled (ends_by cause how link work) (end_course cause link how)
  end_so cause how = record { actions = refl; outcome = refl; standing = refl; task = refl }

  next_so : (next : StationCall) → Settled (dials next (closes link work)) (next_course link [] plan next)
  next_so next = record {
    actions = append_assoc sent (action.Close link close.CallDone ∷ []) (action.Dial plan.controller ∷ []);
    outcome = refl;
    standing = refl;
    task = refl;
  }

  told_so : (said : Action) (next : StationCall) → Settled (dials next (tell (closes link work) said)) (next_course link (said ∷ []) plan next)
  told_so said next = record {
    actions = ap (λ (done : List Action). done ++ action.Dial plan.controller ∷ []) (append_assoc sent (action.Close link close.CallDone ∷ []) (said ∷ []))
        ∙ append_assoc sent (action.Close link close.CallDone ∷ said ∷ []) (action.Dial plan.controller ∷ []);
    outcome = refl;
    standing = refl;
    task = refl;
  }

  -- ---- the calls that open the channel

  challenge_so : (zero : Bool) (client server : List ℕ) →
      Settled (settle_judged (judge_challenge zero client server) link work) (by_rules ((not zero, BadPeer drop_cause.Denied) ∷ []) link (next_course link [] plan (Authenticate client server)))
  challenge_so false client server = end_so close.CallDone (BadPeer drop_cause.Denied)
  challenge_so true client server = next_so (Authenticate client server)

  module _ (client server : List ℕ) where
    abbrev opening_course : Course
    opening_course = next_course link [] plan (logs_on (fresh_channel plan.secret client server offered_flags) now)

    flags_so : (fit : Bool) → Settled (settle_judged (judge_flags fit plan.secret client server) link work) (by_rules ((not fit, BadPeer drop_cause.BadReply) ∷ []) link opening_course)
    flags_so false = end_so close.CallDone (BadPeer drop_cause.BadReply)
    flags_so true = next_so _

    credential_so : (right : Bool) (flags : ℕ) → Settled (settle_judged (judge_credential right plan.secret client server flags) link work)
        (by_rules ((not right, BadPeer drop_cause.NotNext) ∷ (not (has_flag offered_flags flags && has_flag flags rc4_flag), BadPeer drop_cause.BadReply) ∷ []) link opening_course)
    credential_so false flags = end_so close.CallDone (BadPeer drop_cause.NotNext)
    credential_so true flags = flags_so (has_flag offered_flags flags && has_flag flags rc4_flag)

    auth_so : (zero : Bool) (credential : List ℕ) (flags : ℕ) → Settled (settle_judged (judge_auth zero (standing.Half client server) plan.secret credential flags) link work)
        (by_rules (
        (not zero, BadPeer drop_cause.Denied)
        ∷ (not (bytes_eq credential (server_credential plan.secret client server)), BadPeer drop_cause.NotNext)
        ∷ (not (has_flag offered_flags flags && has_flag flags rc4_flag), BadPeer drop_cause.BadReply) ∷ []
        ) link opening_course)
    auth_so false credential flags = end_so close.CallDone (BadPeer drop_cause.Denied)
    auth_so true credential flags = credential_so (bytes_eq credential (server_credential plan.secret client server)) flags

  -- ---- the Logon

  module _ (o : SecureChannelState) (level : ℕ) (info : Option SamInfo) where
    abbrev validation_course : Course
    validation_course = logon_course o info link plan now

    info_so : (there : Option SamInfo) → Settled (settle_judged (judge_level true there (after_return true o)) link work) (logon_course o there link plan now)
    info_so None = end_so close.CallDone (BadPeer drop_cause.BadReply)
    info_so (Some given) = told_so (action.Told link (told.In given.domain given.effective_name (crypt_key (key_of_channel o) given.key))) _

    level_so : (asked : Bool) → Settled (settle_judged (judge_level asked info (after_return true o)) link work) (by_rules ((not asked, BadPeer drop_cause.BadReply) ∷ []) link validation_course)
    level_so false = end_so close.CallDone (BadPeer drop_cause.BadReply)
    level_so true = info_so info

    status_so : (zero : Bool) (status : ℕ) → Settled (settle_judged (judge_status zero status level info (after_return true o)) link work)
        (by_rules ((not zero, Refused status) ∷ (not (level == level_asked), BadPeer drop_cause.BadReply) ∷ []) link validation_course)
    status_so false status = end_so close.CallDone (Refused status)
    status_so true status = level_so (level == level_asked)

    awaited_so : (right : Bool) (status : ℕ) → Settled (settle_judged (judge_awaited right status level info o) link work)
        (by_rules ((not right, BadPeer drop_cause.NotNext) ∷ (not (status == 0), Refused status) ∷ (not (level == level_asked), BadPeer drop_cause.BadReply) ∷ []) link validation_course)
    awaited_so false status = end_so close.CallDone (BadPeer drop_cause.NotNext)
    awaited_so true status = status_so (status == 0) status

    return_so : (returned : Option Authenticator) (status : ℕ) → Settled (settle_judged (judge_return returned status level info o) link work)
        (by_rules ((not (returns_awaited o returned), BadPeer drop_cause.NotNext) ∷ (not (status == 0), Refused status) ∷ (not (level == level_asked), BadPeer drop_cause.BadReply) ∷ []) link validation_course)
    return_so None status = end_so close.CallDone (BadPeer drop_cause.NotNext)
    return_so (Some returned) status = awaited_so (is_awaited o.awaited returned.credential) status

    logon_so : (denied : Bool) (returned : Option Authenticator) (status : ℕ) → Settled (settle_judged (judge_logon denied (standing.Open o) returned status level info) link work)
        (by_rules (
        (denied, BadPeer drop_cause.Denied)
        ∷ (not (returns_awaited o returned), BadPeer drop_cause.NotNext)
        ∷ (not (status == 0), Refused status)
        ∷ (not (level == level_asked), BadPeer drop_cause.BadReply) ∷ []
        ) link validation_course)
    logon_so true returned status = end_so close.CallDone (BadPeer drop_cause.Denied)
    logon_so false returned status = return_so returned status

  -- ---- the Logoff

  module _ (o : SecureChannelState) (domain user : List ℕ) where
    abbrev off_course : Course
    off_course = end_course close.CallDone link (Off domain user)

    off_status_so : (zero : Bool) (status : ℕ) → Settled (logoff_by_status zero status domain user link work) (by_rules ((not zero, Refused status) ∷ []) link off_course)
    off_status_so false status = end_so close.CallDone (Refused status)
    off_status_so true status = end_so close.CallDone (Off domain user)

    off_awaited_so : (right : Bool) (status : ℕ) → Settled (logoff_by_return right status domain user link work)
        (by_rules ((not right, BadPeer drop_cause.NotNext) ∷ (not (status == 0), Refused status) ∷ []) link off_course)
    off_awaited_so false status = end_so close.CallDone (BadPeer drop_cause.NotNext)
    off_awaited_so true status = off_status_so (status == 0) status

    off_return_so : (returned : Option Authenticator) (status : ℕ) → Settled (logoff_by_return (is_return o returned) status domain user link work)
        (by_rules ((not (returns_awaited o returned), BadPeer drop_cause.NotNext) ∷ (not (status == 0), Refused status) ∷ []) link off_course)
    off_return_so None status = off_awaited_so false status
    off_return_so (Some returned) status = off_awaited_so (is_awaited o.awaited returned.credential) status

    off_so : (denied : Bool) (returned : Option Authenticator) (status : ℕ) → Settled (logoff_by_denial denied o returned status domain user link work)
        (by_rules ((denied, BadPeer drop_cause.Denied) ∷ (not (returns_awaited o returned), BadPeer drop_cause.NotNext) ∷ (not (status == 0), Refused status) ∷ []) link off_course)
    off_so true returned status = end_so close.CallDone (BadPeer drop_cause.Denied)
    off_so false returned status = off_return_so returned status

  -- a reply of another call
  unlike : Settled (fails drop_cause.BadReply link work) (end_course close.CallDone link (BadPeer drop_cause.BadReply))
  unlike = end_so close.CallDone (BadPeer drop_cause.BadReply)

  reply_so : (c : StationCall) (r : Reply) → Settled (settle c r link work) (reply_course c r link plan now)
  reply_so (Challenge client) (reply.Challenge r) = challenge_so (r.status == 0) client r.challenge
  reply_so (Challenge client) (reply.Authenticate r) = unlike
  reply_so (Challenge client) (reply.Logon r) = unlike
  reply_so (Challenge client) (reply.Logoff r) = unlike
  reply_so (Authenticate client server) (reply.Authenticate r) = auth_so client server (r.status == 0) r.credential r.flags
  reply_so (Authenticate client server) (reply.Challenge r) = unlike
  reply_so (Authenticate client server) (reply.Logon r) = unlike
  reply_so (Authenticate client server) (reply.Logoff r) = unlike
  reply_so (Logon o authenticator) (reply.Logon r) = logon_so o r.level r.info (r.status == access_denied) r.returned r.status
  reply_so (Logon o authenticator) (reply.Challenge r) = unlike
  reply_so (Logon o authenticator) (reply.Authenticate r) = unlike
  reply_so (Logon o authenticator) (reply.Logoff r) = unlike
  reply_so (Logoff o authenticator domain user) (reply.Logoff r) = off_so o domain user (r.status == access_denied) r.returned r.status
  reply_so (Logoff o authenticator domain user) (reply.Challenge r) = unlike
  reply_so (Logoff o authenticator domain user) (reply.Authenticate r) = unlike
  reply_so (Logoff o authenticator domain user) (reply.Logon r) = unlike

  -- what is served of a piece
  abbrev takes_rest : StationWork × Option StationTalk → List ℕ → StationAfter
  takes_rest value rest = after_serving value.1 rest value.0

  answer_so : (answer : Answer) (c : StationCall) (joiner : Option RpcUnit) (st : StationStep) (rest : List ℕ) → Took (takes_rest (answers_with answer c (talk_at st link joiner) work) rest) plan
      (after_sends sent (answer_course answer c link plan now (On (record { rest = rest; talk = talk_at st link joiner }))))
  answer_so Awaited c joiner st rest = record { actions = sym (append-nil sent); outcome = refl; standing = refl; task = refl }
  answer_so (Broken cause) c joiner st rest = end_so cause (BadPeer drop_cause.BadReply)
  answer_so (Fails cause) c joiner st rest = end_so close.CallDone (BadPeer cause)
  answer_so (Replied r) c joiner st rest = reply_so c r

brings_so : (limit : Option ℕ) (answer : Answer) (st : StationStep) (link : ℕ) (behind : Option RpcUnit) (rest : List ℕ) (plan : StationPlan) (now : ℕ) →
    Took (takes_rest link plan now [] (comes_with (record { limit = limit; answer = answer }) st link behind (work_at plan now [])) rest) plan
    (after_sends (request_sends limit (call_in st) link plan) (answer_course answer (call_in st) link plan now
    (On (record { rest = rest; talk = talk_at (step_then limit (call_in st) st) link behind }))))
brings_so None answer st link behind rest plan now = answer_so link plan now [] answer (call_in st) behind st rest
brings_so (Some limit) answer st link behind rest plan now =
    answer_so link plan now (action.Send link (request_bytes (call_in st) plan limit) ∷ []) answer (call_in st) behind (Asked (call_in st)) rest

-- ---- steps

took_steps : (s : StationState) (left : List (List ℕ)) (after : StationAfter) (plan : StationPlan) (course : Course) → Took after plan course →
    StepsAs (step_by actions_after state_after (halted s) left (Ok (record { value = after; left = left }))) plan course
took_steps s left after plan course took = record {
  actions = ap (λ (actions : List Action). Ok actions) took.actions;
  state = λ i. record { running = Some (record { task = took.task i; standing = took.standing i }); outcome = took.outcome i };
}

stream_steps : (s : StationState) (left : List (List ℕ)) (part : ServedPart StationWork StationTalk) (value : StationWork × Option StationTalk) (rest : List ℕ) (plan : StationPlan) (course : Course) →
    part ≡ part_of value left → Took (after_serving value.1 rest value.0) plan course →
    StepsAs (step_by actions_after state_after (halted s) left (then_part part (after_stream rest))) plan course
stream_steps s left part value rest plan course is took =
    subst (λ (p : ServedPart StationWork StationTalk). StepsAs (step_by actions_after state_after (halted s) left (then_part p (after_stream rest))) plan course) (sym is)
    (took_steps s left (after_serving value.1 rest value.0) plan course took)

piece_steps : (s : StationState) (own : LinkState StationTalk) (piece : List ℕ) (plan : StationPlan) (now : ℕ) (left : List (List ℕ)) →
    StepsAs (step_by actions_after state_after (halted s) left (by_piece true piece own (work_of plan now) left)) plan (piece_course own piece plan now)
piece_steps s own piece plan now left =
    let cut : Cut = cut_stream (own.rest ++ piece) in
    let b : Bringing = brings_in cut own.talk in
    stream_steps s left (served_cut station_server cut (work_of plan now) own.talk left)
    (comes_with b own.talk.step own.talk.link (open_behind cut.units own.talk.joiner) (work_of plan now)) cut.rest plan (piece_course own piece plan now)
    (step_serves cut.units cut.refused own.talk.link left own.talk.step (work_of plan now) own.talk.joiner)
    (brings_so b.limit b.answer own.talk.step own.talk.link (open_behind cut.units own.talk.joiner) cut.rest plan now)

own_steps : (s : StationState) (own : LinkState StationTalk) (piece : List ℕ) (plan : StationPlan) (now : ℕ) (left : List (List ℕ)) →
    StepsAs (step_by actions_after state_after (halted s) left (by_event (event.Bytes own.talk.link piece) (On own) (work_of plan now) left)) plan (piece_course own piece plan now)
own_steps s own piece plan now left =
    subst (λ (is_own : Bool). StepsAs (step_by actions_after state_after (halted s) left (by_piece is_own piece own (work_of plan now) left)) plan (piece_course own piece plan now))
    (sym (eq-eqb own.talk.link own.talk.link refl)) (piece_steps s own piece plan now left)

-- a step that runs, by the event that comes
pub steps_by : (s : StationState) (running : StationRunning) (what : Event) (now : ℕ) (left : List (List ℕ)) (standing : StationLink) (course : Course) → s.running ≡ Some running → s.outcome ≡ None → running.standing ≡ standing →
    StepsAs (step_by actions_after state_after (halted s) left (by_event what standing (work_of running.task now) left)) running.task course →
    StepsAs (step_of s what now left) running.task course
steps_by s running what now left standing course runs none at so =
    subst (λ (stepped : Stepped StationState). StepsAs stepped running.task course)
    (sym (step_is s running what now left runs none ∙ ap (λ (l : StationLink). step_by actions_after state_after (halted s) left (by_event what l (work_of running.task now) left)) at)) so

pub units_step : (s : StationState) (running : StationRunning) (own : LinkState StationTalk) (piece : List ℕ) (now : ℕ) (left : List (List ℕ)) →
    s.running ≡ Some running → s.outcome ≡ None → running.standing ≡ On own →
    StepsAs (step_of s (event.Bytes own.talk.link piece) now left) running.task (piece_course own piece running.task now)
units_step s running own piece now left runs none at =
    steps_by s running (event.Bytes own.talk.link piece) now left (On own) (piece_course own piece running.task now) runs none at (own_steps s own piece running.task now left)

-- ---- events that bring no bytes on the link, and answer no dial by one

-- nothing is done
abbrev DoesNothing : Result (Part StationAfter) StepRefused → Type 0
DoesNothing (Err why) = ⊥
DoesNothing (Ok part) = part.value.work.actions ≡ []

close_quiet : (is_own : Bool) (own : LinkState StationTalk) (plan : StationPlan) (now : ℕ) (left : List (List ℕ)) → DoesNothing (by_close is_own own (work_of plan now) left)
close_quiet false own plan now left = refl
close_quiet true own plan now left = refl

piece_quiet : (is_own : Bool) (piece : List ℕ) (own : LinkState StationTalk) (plan : StationPlan) (now : ℕ) (left : List (List ℕ)) → is_own ≡ false → DoesNothing (by_piece is_own piece own (work_of plan now) left)
piece_quiet false piece own plan now left other = refl
piece_quiet true piece own plan now left other = absurd cc

event_quiet : (what : Event) (standing : StationLink) (plan : StationPlan) (now : ℕ) (left : List (List ℕ)) → is_heard what standing ≡ false → is_dialled what standing ≡ false → DoesNothing (by_event what standing (work_of plan now) left)
event_quiet (event.Dialled link) (Dialling c) plan now left unheard undialled = absurd cc
event_quiet (event.Dialled link) Idle plan now left unheard undialled = refl
event_quiet (event.Dialled link) (On own) plan now left unheard undialled = refl
event_quiet event.DialFailed (Dialling c) plan now left unheard undialled = refl
event_quiet event.DialFailed Idle plan now left unheard undialled = refl
event_quiet event.DialFailed (On own) plan now left unheard undialled = refl
event_quiet (event.Bytes link piece) (On own) plan now left unheard undialled = piece_quiet (link == own.talk.link) piece own plan now left unheard
event_quiet (event.Bytes link piece) Idle plan now left unheard undialled = refl
event_quiet (event.Bytes link piece) (Dialling c) plan now left unheard undialled = refl
event_quiet (event.Closed link) (On own) plan now left unheard undialled = close_quiet (link == own.talk.link) own plan now left
event_quiet (event.Closed link) Idle plan now left unheard undialled = refl
event_quiet (event.Closed link) (Dialling c) plan now left unheard undialled = refl
event_quiet (event.Opened link) (On own) plan now left unheard undialled = close_quiet (link == own.talk.link) own plan now left
event_quiet (event.Opened link) Idle plan now left unheard undialled = refl
event_quiet (event.Opened link) (Dialling c) plan now left unheard undialled = refl
event_quiet event.Stop Idle plan now left unheard undialled = refl
event_quiet event.Stop (Dialling c) plan now left unheard undialled = refl
event_quiet event.Stop (On own) plan now left unheard undialled = refl

quiet_answers : (s : StationState) (left : List (List ℕ)) (part : Result (Part StationAfter) StepRefused) → DoesNothing part → (step_by actions_after state_after (halted s) left part).answer ≡ Ok []
quiet_answers s left (Err why) quiet = absurd quiet
quiet_answers s left (Ok part) quiet = ap (λ (actions : List Action). Ok actions) quiet

pub quiet_step : (s : StationState) (running : StationRunning) (what : Event) (now : ℕ) (left : List (List ℕ)) →
    s.running ≡ Some running → s.outcome ≡ None → is_heard what running.standing ≡ false → is_dialled what running.standing ≡ false →
    (step_of s what now left).answer ≡ Ok []
quiet_step s running what now left runs none unheard undialled =
    ap (λ (stepped : Stepped StationState). stepped.answer) (step_is s running what now left runs none)
    ∙ quiet_answers s left (by_event what running.standing (work_of running.task now) left) (event_quiet what running.standing running.task now left unheard undialled)
