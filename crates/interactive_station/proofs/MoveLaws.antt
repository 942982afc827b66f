-- How each step moves a station. It serves `a_station_moves_in_order`.
use Rattle.std.proofs.Common.{◌≡◌, ℕ, ◌==◌, ◌++◌, Bool, true, false, List, [], ◌∷◌, Option, Some, None, Result, Ok, Err, refl, sym, ap, subst, ◌∙◌, IsTrue}
use Rattle.std.proofs.lemmas.Grind.{flat_map-append}
use Rattle.outside.specs.Machine.{Part, step_by, then_part}
use Rattle.outside.specs.declared.action.Action.{Action}
use Rattle.outside.specs.declared.action.Action.TheVariants as action
use Rattle.outside.specs.declared.action.CloseCause.{CloseCause}
use Rattle.outside.specs.declared.action.CloseCause.TheVariants as close
use Rattle.outside.specs.declared.action.DropCause.{DropCause}
use Rattle.outside.specs.declared.action.DropCause.TheVariants as drop_cause
use Rattle.outside.specs.declared.action.Outcome.TheVariants as told
use Rattle.outside.specs.declared.action.StepRefused.{StepRefused}
use Rattle.outside.specs.declared.event.Event.{Event}
use Rattle.outside.specs.declared.event.Event.TheVariants as event
use Rattle.rpc_units.specs.declared.unit.Body.{Body}
use Rattle.rpc_units.specs.declared.unit.Body.TheVariants.{Bind, BindAck, BindNak, Auth3, Request, Response, Fault}
use Rattle.rpc_units.specs.declared.unit.Unit.{Unit as RpcUnit}
use Rattle.rpc_units.specs.Reading.{unit_of}
use Rattle.rpc_units.specs.Stream.{cut_stream}
use Rattle.logon_stubs.specs.declared.refused.StubRefused.{StubRefused}
use Rattle.logon_stubs.specs.declared.info.SamInfo.{SamInfo}
use Rattle.logon_stubs.specs.declared.calls.Reply.{Reply}
use Rattle.logon_stubs.specs.declared.calls.Reply.TheVariants as reply
use Rattle.logon_stubs.specs.Status.{access_denied}
use Rattle.channel_keys.specs.Hidden.{crypt_key}
use Rattle.authenticators.specs.SecureChannels.{SecureChannelState}
use Rattle.end_links.specs.Links.{LinkState}
use Rattle.end_links.specs.Serving.{ServedPart, served_cut}
use Rattle.end_links.proofs.KeepLaws.{StaysServing, served_stays}
use Rattle.channel_client.specs.Machine.{is_accepting}
use Rattle.channel_turns.specs.declared.hearing.Heard.{Heard}
use Rattle.channel_turns.specs.declared.hearing.Heard.TheVariants as heard
use Rattle.channel_turns.specs.Hearing.{heard_of}
use Rattle.interactive_station.specs.declared.outcome.StationOutcome.{StationOutcome}
use Rattle.interactive_station.specs.declared.outcome.StationOutcome.TheVariants.{Off, Refused, BadPeer}
use Rattle.interactive_station.specs.declared.state.StationAfter.{StationAfter}
use Rattle.interactive_station.specs.declared.state.StationCall.{StationCall}
use Rattle.interactive_station.specs.declared.state.StationCall.TheVariants.{Challenge, Authenticate, Logon, Logoff}
use Rattle.interactive_station.specs.declared.state.StationLink.{StationLink}
use Rattle.interactive_station.specs.declared.state.StationLink.TheVariants.{Idle, Dialling, On}
use Rattle.interactive_station.specs.declared.state.StationRunning.{StationRunning}
use Rattle.interactive_station.specs.declared.state.StationStep.{StationStep}
use Rattle.interactive_station.specs.declared.state.StationStep.TheVariants.{Bound, Asked}
use Rattle.interactive_station.specs.declared.state.StationTalk.{StationTalk}
use Rattle.interactive_station.specs.declared.state.StationWork.{StationWork}
use Rattle.channel_client.specs.Machine.{judge_auth, judge_challenge, judge_credential, judge_flags, judge_logon, judge_return, judge_awaited, judge_status, judge_level}
use Rattle.channel_client.specs.declared.state.Standing.TheVariants as standing
use Rattle.authenticators.specs.SecureChannels.{after_return, key_of_channel}
use Rattle.wire_base.specs.declared.authenticator.Authenticator.{Authenticator}
use Rattle.interactive_station.specs.Machine.{actions_after, after_stream, breaks, by_close, by_event, by_piece, closes, ends_by, fails, granted, halted, hear_ack, hear_body, hear_heard, hear_reply, hear_stub, hear_unit, hear_whole, logoff_by_denial, logoff_by_return, logoff_by_status, opens, settle, settle_judged, standing_by, state_after, station_server, step_by_outcome, step_by_running, tell, work_of}
use Rattle.interactive_station.specs.Moves.{IsOutcomeAt, IsToldBefore, Moves, call_in, follows, told_by, told_in, Stays, Begins, GoesOn, Ends}
use Rattle.interactive_station.specs.Laws.{MovesInOrder, MovesOf}
use Rattle.interactive_station.specs.State.{StationState}

-- ---- what is told

told_last : (actions : List Action) (what : Action) → told_in actions ≡ [] → told_in (actions ++ what ∷ []) ≡ told_in (what ∷ [])
told_last actions what none = flat_map-append told_by actions (what ∷ []) ∙ ap (λ tolds. tolds ++ told_in (what ∷ [])) none

-- nothing came of the event yet
record Quiet (work : StationWork) : Type 0 where
  next : work.next ≡ None
  outcome : work.outcome ≡ None
  told : told_in work.actions ≡ []

-- an action that tells nothing
quiet_with : (work : StationWork) (what : Action) → told_in (what ∷ []) ≡ [] → Quiet work → Quiet (tell work what)
quiet_with work what none quiet = record {
  next = quiet.next;
  outcome = quiet.outcome;
  told = told_last work.actions what quiet.told ∙ none;
}

-- ---- the link of a call is closed

data Shut (c : StationCall) (link : ℕ) (work : StationWork) : Type 0 where
  ByNext : (next : StationCall) → work.next ≡ Some next → IsTrue (follows c next) → work.outcome ≡ None →
      IsToldBefore next (Some link) (told_in work.actions) → Shut c link work
  ByEnd : (how : StationOutcome) → work.next ≡ None → work.outcome ≡ Some how → IsOutcomeAt how (Some c) →
      told_in work.actions ≡ [] → Shut c link work

ends_shut : (c : StationCall) (cause : CloseCause) (how : StationOutcome) (link : ℕ) (work : StationWork) → IsOutcomeAt how (Some c) → Quiet work → Shut c link (ends_by cause how link work)
ends_shut c cause how link work is quiet =
    ByEnd how quiet.next refl is (told_last work.actions (action.Close link cause) quiet.told)

dials_quiet : (link : ℕ) (peer : List ℕ) (work : StationWork) → Quiet work → told_in ((closes link work).actions ++ action.Dial peer ∷ []) ≡ []
dials_quiet link peer work quiet =
    told_last (closes link work).actions (action.Dial peer) (told_last work.actions (action.Close link close.CallDone) quiet.told)

granted_shut : (one : SecureChannelState) (authenticator : Authenticator) (info : SamInfo) (o : SecureChannelState) (link : ℕ) (work : StationWork) → Quiet work → Shut (Logon one authenticator) link (granted info o link work)
granted_shut one authenticator info o link work quiet =
    let closed : List Action = (closes link work).actions in
    let said : Action = action.Told link (told.In info.domain info.effective_name info.key) in
    ByNext _ refl refl quiet.outcome (
      info.key,
      flat_map-append told_by (closed ++ said ∷ []) (action.Dial work.task.controller ∷ [])
          ∙ ap (λ tolds. tolds ++ told_in (action.Dial work.task.controller ∷ []))
          (told_last closed said (told_last work.actions (action.Close link close.CallDone) quiet.told)),
    )

-- ---- replies

challenge_shut : (granted : Bool) (client server : List ℕ) (link : ℕ) (work : StationWork) → Quiet work → Shut (Challenge client) link (settle_judged (judge_challenge granted client server) link work)
challenge_shut false client server link work quiet = ends_shut (Challenge client) close.CallDone (BadPeer drop_cause.Denied) link work tt quiet
challenge_shut true client server link work quiet = ByNext (Authenticate client server) refl refl quiet.outcome (dials_quiet link _ work quiet)

flags_shut : (fit : Bool) (one other secret client server : List ℕ) (link : ℕ) (work : StationWork) → Quiet work → Shut (Authenticate one other) link (settle_judged (judge_flags fit secret client server) link work)
flags_shut false one other secret client server link work quiet = ends_shut (Authenticate one other) close.CallDone (BadPeer drop_cause.BadReply) link work tt quiet
flags_shut true one other secret client server link work quiet = ByNext _ refl refl quiet.outcome (dials_quiet link _ work quiet)

credential_shut : (right : Bool) (one other secret client server : List ℕ) (flags link : ℕ) (work : StationWork) → Quiet work → Shut (Authenticate one other) link (settle_judged (judge_credential right secret client server flags) link work)
credential_shut false one other secret client server flags link work quiet = ends_shut (Authenticate one other) close.CallDone (BadPeer drop_cause.NotNext) link work tt quiet
credential_shut true one other secret client server flags link work quiet = flags_shut _ one other secret client server link work quiet

auth_shut : (granted : Bool) (client server secret credential : List ℕ) (flags link : ℕ) (work : StationWork) → Quiet work →
    Shut (Authenticate client server) link (settle_judged (judge_auth granted (standing.Half client server) secret credential flags) link work)
auth_shut false client server secret credential flags link work quiet = ends_shut (Authenticate client server) close.CallDone (BadPeer drop_cause.Denied) link work tt quiet
auth_shut true client server secret credential flags link work quiet = credential_shut _ client server secret client server flags link work quiet

module _ (o : SecureChannelState) (authenticator : Authenticator) (link : ℕ) (work : StationWork) (quiet : Quiet work) where
  level_shut : (asked : Bool) (info : Option SamInfo) (after : SecureChannelState) → Shut (Logon o authenticator) link (settle_judged (judge_level asked info after) link work)
  level_shut false info after = ends_shut (Logon o authenticator) close.CallDone (BadPeer drop_cause.BadReply) link work tt quiet
  level_shut true None after = ends_shut (Logon o authenticator) close.CallDone (BadPeer drop_cause.BadReply) link work tt quiet
  level_shut true (Some info) after =
      granted_shut o authenticator (record info { key = crypt_key (key_of_channel after) info.key }) after link work quiet

  status_shut : (zero : Bool) (status level : ℕ) (info : Option SamInfo) (after : SecureChannelState) → Shut (Logon o authenticator) link (settle_judged (judge_status zero status level info after) link work)
  status_shut false status level info after = ends_shut (Logon o authenticator) close.CallDone (Refused status) link work tt quiet
  status_shut true status level info after = level_shut _ info after

  awaited_shut : (right : Bool) (status level : ℕ) (info : Option SamInfo) → Shut (Logon o authenticator) link (settle_judged (judge_awaited right status level info o) link work)
  awaited_shut false status level info = ends_shut (Logon o authenticator) close.CallDone (BadPeer drop_cause.NotNext) link work tt quiet
  awaited_shut true status level info = status_shut _ status level info (after_return true o)

  return_shut : (returned : Option Authenticator) (status level : ℕ) (info : Option SamInfo) → Shut (Logon o authenticator) link (settle_judged (judge_return returned status level info o) link work)
  return_shut None status level info = ends_shut (Logon o authenticator) close.CallDone (BadPeer drop_cause.NotNext) link work tt quiet
  return_shut (Some returned) status level info = awaited_shut _ status level info

  logon_shut : (denied : Bool) (returned : Option Authenticator) (status level : ℕ) (info : Option SamInfo) →
      Shut (Logon o authenticator) link (settle_judged (judge_logon denied (standing.Open o) returned status level info) link work)
  logon_shut true returned status level info = ends_shut (Logon o authenticator) close.CallDone (BadPeer drop_cause.Denied) link work tt quiet
  logon_shut false returned status level info = return_shut returned status level info

  module _ (domain user : List ℕ) where
    off_shut : (zero : Bool) (status : ℕ) → Shut (Logoff o authenticator domain user) link (logoff_by_status zero status domain user link work)
    off_shut false status = ends_shut (Logoff o authenticator domain user) close.CallDone (Refused status) link work tt quiet
    off_shut true status = ends_shut (Logoff o authenticator domain user) close.CallDone (Off domain user) link work (refl, refl) quiet

    off_return_shut : (right : Bool) (status : ℕ) → Shut (Logoff o authenticator domain user) link (logoff_by_return right status domain user link work)
    off_return_shut false status = ends_shut (Logoff o authenticator domain user) close.CallDone (BadPeer drop_cause.NotNext) link work tt quiet
    off_return_shut true status = off_shut _ status

    logoff_shut : (denied : Bool) (returned : Option Authenticator) (status : ℕ) → Shut (Logoff o authenticator domain user) link (logoff_by_denial denied o returned status domain user link work)
    logoff_shut true returned status = ends_shut (Logoff o authenticator domain user) close.CallDone (BadPeer drop_cause.Denied) link work tt quiet
    logoff_shut false returned status = off_return_shut _ status

-- the peer is to blame
blamed : (c : StationCall) (cause : DropCause) (link : ℕ) (work : StationWork) → Quiet work → Shut c link (fails cause link work)
blamed c cause link work quiet = ends_shut c close.CallDone (BadPeer cause) link work tt quiet

settle_shut : (c : StationCall) (r : Reply) (link : ℕ) (work : StationWork) → Quiet work → Shut c link (settle c r link work)
settle_shut (Challenge client) (reply.Challenge r) link work quiet = challenge_shut (r.status == 0) client r.challenge link work quiet
settle_shut (Challenge client) (reply.Authenticate r) link work quiet = blamed (Challenge client) drop_cause.BadReply link work quiet
settle_shut (Challenge client) (reply.Logon r) link work quiet = blamed (Challenge client) drop_cause.BadReply link work quiet
settle_shut (Challenge client) (reply.Logoff r) link work quiet = blamed (Challenge client) drop_cause.BadReply link work quiet
settle_shut (Authenticate client server) (reply.Authenticate r) link work quiet =
    auth_shut (r.status == 0) client server work.task.secret r.credential r.flags link work quiet
settle_shut (Authenticate client server) (reply.Challenge r) link work quiet = blamed (Authenticate client server) drop_cause.BadReply link work quiet
settle_shut (Authenticate client server) (reply.Logon r) link work quiet = blamed (Authenticate client server) drop_cause.BadReply link work quiet
settle_shut (Authenticate client server) (reply.Logoff r) link work quiet = blamed (Authenticate client server) drop_cause.BadReply link work quiet
settle_shut (Logon o authenticator) (reply.Logon r) link work quiet =
    logon_shut o authenticator link work quiet (r.status == access_denied) r.returned r.status r.level r.info
settle_shut (Logon o authenticator) (reply.Challenge r) link work quiet = blamed (Logon o authenticator) drop_cause.BadReply link work quiet
settle_shut (Logon o authenticator) (reply.Authenticate r) link work quiet = blamed (Logon o authenticator) drop_cause.BadReply link work quiet
settle_shut (Logon o authenticator) (reply.Logoff r) link work quiet = blamed (Logon o authenticator) drop_cause.BadReply link work quiet
settle_shut (Logoff o authenticator domain user) (reply.Logoff r) link work quiet =
    logoff_shut o authenticator link work quiet domain user (r.status == access_denied) r.returned r.status
settle_shut (Logoff o authenticator domain user) (reply.Challenge r) link work quiet = blamed (Logoff o authenticator domain user) drop_cause.BadReply link work quiet
settle_shut (Logoff o authenticator domain user) (reply.Authenticate r) link work quiet = blamed (Logoff o authenticator domain user) drop_cause.BadReply link work quiet
settle_shut (Logoff o authenticator domain user) (reply.Logon r) link work quiet = blamed (Logoff o authenticator domain user) drop_cause.BadReply link work quiet

-- ---- a unit

-- the link is open, at that call and under that number
record OpenAt (c : StationCall) (link : ℕ) (work : StationWork) (talk : StationTalk) : Type 0 where
  quiet : Quiet work
  call : call_in talk.step ≡ c
  own : talk.link ≡ link

abbrev Moved : StationCall → ℕ → StationWork → Option StationTalk → Type 0
Moved c link work None = Shut c link work
Moved c link work (Some talk) = OpenAt c link work talk

abbrev MovedTo : StationCall → ℕ → StationWork × Option StationTalk → Type 0
MovedTo c link served = Moved c link served.0 served.1

reply_shut : (c : StationCall) (r : Result Reply StubRefused) (link : ℕ) (work : StationWork) → Quiet work → Shut c link (hear_reply c r link work)
reply_shut c (Err why) link work quiet = blamed c drop_cause.BadReply link work quiet
reply_shut c (Ok r) link work quiet = settle_shut c r link work quiet

stub_shut : (st : StationStep) (stub : List ℕ) (link : ℕ) (work : StationWork) → Quiet work → Shut (call_in st) link (hear_stub st stub link work)
stub_shut (Bound c) stub link work quiet = blamed c drop_cause.BadReply link work quiet
stub_shut (Asked c) stub link work quiet = reply_shut c _ link work quiet

ack_moved : (accepted : Bool) (st : StationStep) (receive : ℕ) (joiner : Option RpcUnit) (link : ℕ) (work : StationWork) → Quiet work → MovedTo (call_in st) link (hear_ack accepted st receive joiner link work)
ack_moved false st receive joiner link work quiet = blamed (call_in st) drop_cause.Bind link work quiet
ack_moved true (Bound c) receive joiner link work quiet = record { quiet = quiet_with work (action.Send link _) refl quiet; call = refl; own = refl }
ack_moved true (Asked c) receive joiner link work quiet = blamed c drop_cause.BadReply link work quiet

body_moved : (body : Body) (st : StationStep) (joiner : Option RpcUnit) (link : ℕ) (work : StationWork) → Quiet work → MovedTo (call_in st) link (hear_body body st joiner link work)
body_moved (BindNak reason) st joiner link work quiet = blamed (call_in st) drop_cause.Bind link work quiet
body_moved (BindAck send receive group results) st joiner link work quiet = ack_moved (is_accepting results) st receive joiner link work quiet
body_moved (Fault hint context status) st joiner link work quiet = blamed (call_in st) (drop_cause.Fault status) link work quiet
body_moved (Response hint context stub) st joiner link work quiet = stub_shut st stub link work quiet
body_moved (Bind send receive group contexts) st joiner link work quiet = blamed (call_in st) drop_cause.BadReply link work quiet
body_moved (Request hint context opnum stub) st joiner link work quiet = blamed (call_in st) drop_cause.BadReply link work quiet
body_moved Auth3 st joiner link work quiet = blamed (call_in st) drop_cause.BadReply link work quiet

whole_moved : (due : Bool) (unit : RpcUnit) (joiner : Option RpcUnit) (st : StationStep) (link : ℕ) (work : StationWork) → Quiet work → MovedTo (call_in st) link (hear_whole due unit joiner st link work)
whole_moved false unit joiner st link work quiet = record { quiet = quiet; call = refl; own = refl }
whole_moved true unit joiner st link work quiet = body_moved unit.body st joiner link work quiet

heard_moved : (what : Heard) (st : StationStep) (link : ℕ) (work : StationWork) → Quiet work → MovedTo (call_in st) link (hear_heard what st link work)
heard_moved (heard.Waits joiner) st link work quiet = record { quiet = quiet; call = refl; own = refl }
heard_moved (heard.Whole unit joiner) st link work quiet = whole_moved _ unit joiner st link work quiet
heard_moved (heard.Broken cause) st link work quiet = ends_shut (call_in st) cause (BadPeer drop_cause.BadReply) link work tt quiet

-- ---- the units of the link

abbrev PartMoved : StationCall → ℕ → ServedPart StationWork StationTalk → Type 0
PartMoved c link (Err why) = Unit {0}
PartMoved c link (Ok part) = Moved c link part.value.0 part.value.1

unit_moved : (c : StationCall) (link : ℕ) (bytes : List ℕ) (work : StationWork) (talk : StationTalk) → OpenAt c link work talk → MovedTo c link (hear_unit (unit_of bytes) talk work)
unit_moved c link bytes work talk stands =
    subst (λ number. MovedTo c number (hear_unit (unit_of bytes) talk work)) stands.own
    (subst (λ call. MovedTo call talk.link (hear_unit (unit_of bytes) talk work)) stands.call
    (heard_moved (heard_of (unit_of bytes) talk.joiner) talk.step talk.link work stands.quiet))

broken_moved : (c : StationCall) (link : ℕ) (work : StationWork) (talk : StationTalk) → OpenAt c link work talk → Shut c link (breaks close.BadUnit talk.link work)
broken_moved c link work talk stands =
    subst (λ number. Shut c number (breaks close.BadUnit talk.link work)) stands.own
    (ends_shut c close.BadUnit (BadPeer drop_cause.BadReply) talk.link work tt stands.quiet)

moved_stays : (c : StationCall) (link : ℕ) → StaysServing station_server (PartMoved c link)
moved_stays c link = record {
  spent = λ why. tt;
  unit = λ bytes work talk left stands. unit_moved c link bytes work talk stands;
  refusal = λ why work talk left stands. broken_moved c link work talk stands;
}

-- ---- events

abbrev AfterMoves : StationLink → Result (Part StationAfter) StepRefused → Type 0
AfterMoves before (Err why) = Unit {0}
AfterMoves before (Ok part) = Moves before part.value.standing part.value.work.outcome (told_in part.value.work.actions)

shut_moves : (own : LinkState StationTalk) (work : StationWork) → Shut (call_in own.talk.step) own.talk.link work → Moves (On own) (standing_by work.next) work.outcome (told_in work.actions)
shut_moves own work (ByNext next is after none told_is) = GoesOn (call_in own.talk.step) next refl (ap standing_by is) after none told_is
shut_moves own work (ByEnd how is some due none) = Ends how (ap standing_by is) some due none

said_moves : (own : LinkState StationTalk) (rest : List ℕ) (work : StationWork) (talk : Option StationTalk) (left : List (List ℕ)) → Moved (call_in own.talk.step) own.talk.link work talk → AfterMoves (On own) (after_stream rest (work, talk) left)
said_moves own rest work None left moved = shut_moves own work moved
said_moves own rest work (Some talk) left moved = Stays (ap (λ (c : StationCall). Some c) moved.call) moved.quiet.outcome moved.quiet.told

stream_moves : (own : LinkState StationTalk) (rest : List ℕ) (part : ServedPart StationWork StationTalk) → PartMoved (call_in own.talk.step) own.talk.link part → AfterMoves (On own) (then_part part (after_stream rest))
stream_moves own rest (Err why) moved = tt
stream_moves own rest (Ok part) moved = said_moves own rest part.value.0 part.value.1 part.left moved

piece_moves : (is_own : Bool) (piece : List ℕ) (own : LinkState StationTalk) (work : StationWork) (left : List (List ℕ)) → Quiet work → AfterMoves (On own) (by_piece is_own piece own work left)
piece_moves false piece own work left quiet = Stays refl quiet.outcome quiet.told
piece_moves true piece own work left quiet =
    let c : StationCall = call_in own.talk.step in
    stream_moves own _ (served_cut station_server (cut_stream (own.rest ++ piece)) work own.talk left)
    (served_stays station_server (PartMoved c own.talk.link) (moved_stays c own.talk.link) (cut_stream (own.rest ++ piece)) work own.talk left
    (record { quiet = quiet; call = refl; own = refl }))

close_moves : (is_own : Bool) (own : LinkState StationTalk) (work : StationWork) (left : List (List ℕ)) → Quiet work → AfterMoves (On own) (by_close is_own own work left)
close_moves false own work left quiet = Stays refl quiet.outcome quiet.told
close_moves true own work left quiet = Ends _ refl refl tt quiet.told

opens_moves : (c : Option StationCall) (link : ℕ) (work : StationWork) (left : List (List ℕ)) → Quiet work → AfterMoves (Dialling c) (opens c link work left)
opens_moves (Some c) link work left quiet = Stays refl quiet.outcome (told_last work.actions (action.Send link _) quiet.told)
opens_moves None link work [] quiet = tt
opens_moves None link work (client ∷ left) quiet = Begins client refl refl quiet.outcome (told_last work.actions (action.Send link _) quiet.told)

still : (before : StationLink) (work : StationWork) → Quiet work → Moves before before work.outcome (told_in work.actions)
still before work quiet = Stays refl quiet.outcome quiet.told

event_moves : (what : Event) (before : StationLink) (work : StationWork) (left : List (List ℕ)) → Quiet work → AfterMoves before (by_event what before work left)
event_moves (event.Dialled link) (Dialling c) work left quiet = opens_moves c link work left quiet
event_moves (event.Dialled link) Idle work left quiet = still Idle work quiet
event_moves (event.Dialled link) (On own) work left quiet = still (On own) work quiet
event_moves event.DialFailed (Dialling c) work left quiet = Ends _ refl refl tt quiet.told
event_moves event.DialFailed Idle work left quiet = still Idle work quiet
event_moves event.DialFailed (On own) work left quiet = still (On own) work quiet
event_moves (event.Bytes link piece) (On own) work left quiet = piece_moves (link == own.talk.link) piece own work left quiet
event_moves (event.Bytes link piece) Idle work left quiet = still Idle work quiet
event_moves (event.Bytes link piece) (Dialling c) work left quiet = still (Dialling c) work quiet
event_moves (event.Closed link) (On own) work left quiet = close_moves (link == own.talk.link) own work left quiet
event_moves (event.Closed link) Idle work left quiet = still Idle work quiet
event_moves (event.Closed link) (Dialling c) work left quiet = still (Dialling c) work quiet
event_moves (event.Opened link) (On own) work left quiet = close_moves (link == own.talk.link) own work left quiet
event_moves (event.Opened link) Idle work left quiet = still Idle work quiet
event_moves (event.Opened link) (Dialling c) work left quiet = still (Dialling c) work quiet
event_moves event.Stop Idle work left quiet = still Idle work quiet
event_moves event.Stop (Dialling c) work left quiet = still (Dialling c) work quiet
event_moves event.Stop (On own) work left quiet = still (On own) work quiet

-- ---- steps

part_moves : (before : StationLink) (s : StationState) (left : List (List ℕ)) (part : Result (Part StationAfter) StepRefused) → AfterMoves before part →
    MovesOf before (step_by actions_after state_after (halted s) left part).answer (step_by actions_after state_after (halted s) left part).state
part_moves before s left (Err why) moves = tt
part_moves before s left (Ok part) moves = moves

outcome_moves : (outcome : Option StationOutcome) (running : StationRunning) (s : StationState) (what : Event) (now : ℕ) (left : List (List ℕ)) → outcome ≡ None →
    MovesOf running.standing (step_by_outcome outcome running s what now left).answer (step_by_outcome outcome running s what now left).state
outcome_moves (Some outcome) running s what now left none = absurd cc
outcome_moves None running s what now left none =
    part_moves running.standing s left (by_event what running.standing (work_of running.task now) left)
    (event_moves what running.standing (work_of running.task now) left (record { next = refl; outcome = refl; told = refl }))

pub moves_in_order : MovesInOrder
moves_in_order = record {
  each = λ s running what now left runs none.
      subst (λ r. MovesOf running.standing (step_by_running r s what now left).answer (step_by_running r s what now left).state) (sym runs)
      (outcome_moves s.outcome running s what now left none);
}
