-- When a station dials, and at which event each outcome comes. It serves `a_station_loses_by_its_events`.
use Rattle.std.proofs.Common.{◌≡◌, ℕ, ◌==◌, ◌++◌, Bool, true, false, List, [], ◌∷◌, Option, Some, None, Result, Ok, Err, is_some, refl, sym, ap, subst, ◌∙◌}
use Rattle.std.specs.List.{list_any}
use Rattle.std.proofs.lemmas.Bool.{eqb-true, or_left, or_right}
use Rattle.std.proofs.lemmas.List.Folds.{list_any-append}
use Rattle.outside.specs.Machine.{Part, Stepped, step_by, then_part}
use Rattle.outside.specs.declared.action.Action.{Action}
use Rattle.outside.specs.declared.action.Action.TheVariants as action
use Rattle.outside.specs.declared.action.CloseCause.{CloseCause}
use Rattle.outside.specs.declared.action.CloseCause.TheVariants as close
use Rattle.outside.specs.declared.action.DropCause.TheVariants as drop_cause
use Rattle.outside.specs.declared.action.StepRefused.{StepRefused}
use Rattle.outside.specs.declared.event.Event.{Event}
use Rattle.outside.specs.declared.event.Event.TheVariants as event
use Rattle.rpc_units.specs.declared.unit.Body.{Body}
use Rattle.rpc_units.specs.declared.unit.Body.TheVariants.{Bind, BindAck, BindNak, Auth3, Request, Response, Fault}
use Rattle.rpc_units.specs.declared.unit.Unit.{Unit as RpcUnit}
use Rattle.rpc_units.specs.Reading.{unit_of}
use Rattle.rpc_units.specs.Stream.{cut_stream}
use Rattle.logon_stubs.specs.declared.refused.StubRefused.{StubRefused}
use Rattle.logon_stubs.specs.declared.info.Verdict.TheVariants as verdict
use Rattle.logon_stubs.specs.declared.calls.Reply.{Reply}
use Rattle.logon_stubs.specs.declared.calls.Reply.TheVariants as reply
use Rattle.logon_stubs.specs.Status.{access_denied}
use Rattle.authenticators.specs.SecureChannels.{SecureChannelState}
use Rattle.wire_base.specs.declared.authenticator.Authenticator.{Authenticator}
use Rattle.end_loop.specs.Runs.{taken_actions}
use Rattle.end_links.specs.Links.{LinkState}
use Rattle.end_links.specs.Serving.{ServedPart, served_cut}
use Rattle.end_links.proofs.KeepLaws.{StaysServing, served_stays}
use Rattle.channel_client.specs.Machine.{is_accepting}
use Rattle.channel_client.specs.declared.judging.Judgement.{Judgement}
use Rattle.channel_client.specs.declared.judging.Judgement.TheVariants as judgement
use Rattle.channel_turns.specs.declared.hearing.Heard.{Heard}
use Rattle.channel_turns.specs.declared.hearing.Heard.TheVariants as heard
use Rattle.channel_turns.specs.Hearing.{heard_of}
use Rattle.interactive_station.specs.declared.outcome.NoStation.TheVariants as no_station
use Rattle.interactive_station.specs.declared.outcome.StationOutcome.{StationOutcome}
use Rattle.interactive_station.specs.declared.outcome.StationOutcome.TheVariants.{BadPeer}
use Rattle.interactive_station.specs.declared.state.StationAfter.{StationAfter}
use Rattle.interactive_station.specs.declared.state.StationCall.{StationCall}
use Rattle.interactive_station.specs.declared.state.StationCall.TheVariants.{Challenge, Authenticate, Logon, Logoff}
use Rattle.interactive_station.specs.declared.state.StationLink.{StationLink}
use Rattle.interactive_station.specs.declared.state.StationLink.TheVariants.{Idle, Dialling, On}
use Rattle.interactive_station.specs.declared.state.StationRunning.{StationRunning}
use Rattle.interactive_station.specs.declared.state.StationStep.{StationStep}
use Rattle.interactive_station.specs.declared.state.StationStep.TheVariants.{Bound, Asked}
use Rattle.interactive_station.specs.declared.state.StationTalk.{StationTalk}
use Rattle.interactive_station.specs.declared.state.StationWork.{StationWork}
use Rattle.interactive_station.specs.Losses.{BytesCome, LinkGoes, LosesByEvents, is_answer, is_dial, is_dial_failed, is_dialling, is_link_closed, is_lost, is_waiting}
use Rattle.interactive_station.specs.Machine.{actions_after, after_close, after_stream, by_close, by_event, by_piece, dials, ends_by, halted, hear_ack, hear_body, hear_heard, hear_reply, hear_stub, hear_unit, hear_whole, link_of, logoff_by_denial, logoff_by_return, logoff_by_status, opens, settle, settle_judged, settle_logoff, standing_by, state_after, station_server, step_by_outcome, step_by_running, step_of, tell, want_by, work_of}
use Rattle.interactive_station.specs.State.{StationState}

-- ---- what is heard brings no loss, and the next link is dialled for where a next call is due

record Fine (work : StationWork) : Type 0 where
  kept : is_lost work.outcome ≡ false
  dials : is_some work.next ≡ true → list_any is_dial work.actions ≡ true

still_dials : (actions : List Action) (what : Action) → list_any is_dial actions ≡ true → list_any is_dial (actions ++ what ∷ []) ≡ true
still_dials actions what is = list_any-append is_dial actions (what ∷ []) ∙ or_left (list_any is_dial actions) (list_any is_dial (what ∷ [])) is

tell_fine : (work : StationWork) (what : Action) → Fine work → Fine (tell work what)
tell_fine work what fine = record { kept = fine.kept; dials = λ due. still_dials work.actions what (fine.dials due) }

ends_fine : (cause : CloseCause) (how : StationOutcome) (link : ℕ) (work : StationWork) → is_lost (Some how) ≡ false → Fine work → Fine (ends_by cause how link work)
ends_fine cause how link work is fine = record { kept = is; dials = λ due. still_dials work.actions (action.Close link cause) (fine.dials due) }

dials_fine : (c : StationCall) (work : StationWork) → Fine work → Fine (dials c work)
dials_fine c work fine = record {
  kept = fine.kept;
  dials = λ due. list_any-append is_dial work.actions (action.Dial work.task.controller ∷ []) ∙ or_right (list_any is_dial work.actions) true refl;
}

judged_fine : (how : Judgement) (link : ℕ) (work : StationWork) → Fine work → Fine (settle_judged how link work)
judged_fine (judgement.Half client server) link work fine = dials_fine _ _ (tell_fine work _ fine)
judged_fine (judgement.Opened o) link work fine = dials_fine _ _ (tell_fine work _ fine)
judged_fine (judgement.Answer o (verdict.Granted info)) link work fine = dials_fine _ _ (tell_fine _ _ (tell_fine work _ fine))
judged_fine (judgement.Answer o (verdict.Status status)) link work fine = ends_fine close.CallDone _ link work refl fine
judged_fine (judgement.Drop cause) link work fine = ends_fine close.CallDone _ link work refl fine

off_fine : (zero : Bool) (status : ℕ) (domain user : List ℕ) (link : ℕ) (work : StationWork) → Fine work → Fine (logoff_by_status zero status domain user link work)
off_fine false status domain user link work fine = ends_fine close.CallDone _ link work refl fine
off_fine true status domain user link work fine = ends_fine close.CallDone _ link work refl fine

return_fine : (right : Bool) (status : ℕ) (domain user : List ℕ) (link : ℕ) (work : StationWork) → Fine work → Fine (logoff_by_return right status domain user link work)
return_fine false status domain user link work fine = ends_fine close.CallDone _ link work refl fine
return_fine true status domain user link work fine = off_fine _ status domain user link work fine

denial_fine : (denied : Bool) (o : SecureChannelState) (returned : Option Authenticator) (status : ℕ) (domain user : List ℕ) (link : ℕ) (work : StationWork) → Fine work →
    Fine (logoff_by_denial denied o returned status domain user link work)
denial_fine true o returned status domain user link work fine = ends_fine close.CallDone _ link work refl fine
denial_fine false o returned status domain user link work fine = return_fine _ status domain user link work fine

logoff_fine : (r : Reply) (o : SecureChannelState) (domain user : List ℕ) (link : ℕ) (work : StationWork) → Fine work → Fine (settle_logoff r o domain user link work)
logoff_fine (reply.Logoff r) o domain user link work fine = denial_fine (r.status == access_denied) o r.returned r.status domain user link work fine
logoff_fine (reply.Challenge r) o domain user link work fine = ends_fine close.CallDone _ link work refl fine
logoff_fine (reply.Authenticate r) o domain user link work fine = ends_fine close.CallDone _ link work refl fine
logoff_fine (reply.Logon r) o domain user link work fine = ends_fine close.CallDone _ link work refl fine

settle_fine : (c : StationCall) (r : Reply) (link : ℕ) (work : StationWork) → Fine work → Fine (settle c r link work)
settle_fine (Challenge client) r link work fine = judged_fine _ link work fine
settle_fine (Authenticate client server) r link work fine = judged_fine _ link work fine
settle_fine (Logon o authenticator) r link work fine = judged_fine _ link work fine
settle_fine (Logoff o authenticator domain user) r link work fine = logoff_fine r o domain user link work fine

reply_fine : (c : StationCall) (r : Result Reply StubRefused) (link : ℕ) (work : StationWork) → Fine work → Fine (hear_reply c r link work)
reply_fine c (Err why) link work fine = ends_fine close.CallDone _ link work refl fine
reply_fine c (Ok r) link work fine = settle_fine c r link work fine

stub_fine : (st : StationStep) (stub : List ℕ) (link : ℕ) (work : StationWork) → Fine work → Fine (hear_stub st stub link work)
stub_fine (Bound c) stub link work fine = ends_fine close.CallDone _ link work refl fine
stub_fine (Asked c) stub link work fine = reply_fine c _ link work fine

ack_fine : (accepted : Bool) (st : StationStep) (receive : ℕ) (joiner : Option RpcUnit) (link : ℕ) (work : StationWork) → Fine work → Fine (hear_ack accepted st receive joiner link work).0
ack_fine false st receive joiner link work fine = ends_fine close.CallDone _ link work refl fine
ack_fine true (Bound c) receive joiner link work fine = tell_fine work _ fine
ack_fine true (Asked c) receive joiner link work fine = ends_fine close.CallDone _ link work refl fine

body_fine : (body : Body) (st : StationStep) (joiner : Option RpcUnit) (link : ℕ) (work : StationWork) → Fine work → Fine (hear_body body st joiner link work).0
body_fine (BindNak reason) st joiner link work fine = ends_fine close.CallDone _ link work refl fine
body_fine (BindAck send receive group results) st joiner link work fine = ack_fine (is_accepting results) st receive joiner link work fine
body_fine (Fault hint context status) st joiner link work fine = ends_fine close.CallDone _ link work refl fine
body_fine (Response hint context stub) st joiner link work fine = stub_fine st stub link work fine
body_fine (Bind send receive group contexts) st joiner link work fine = ends_fine close.CallDone _ link work refl fine
body_fine (Request hint context opnum stub) st joiner link work fine = ends_fine close.CallDone _ link work refl fine
body_fine Auth3 st joiner link work fine = ends_fine close.CallDone _ link work refl fine

whole_fine : (due : Bool) (unit : RpcUnit) (joiner : Option RpcUnit) (st : StationStep) (link : ℕ) (work : StationWork) → Fine work → Fine (hear_whole due unit joiner st link work).0
whole_fine false unit joiner st link work fine = fine
whole_fine true unit joiner st link work fine = body_fine unit.body st joiner link work fine

heard_fine : (what : Heard) (st : StationStep) (link : ℕ) (work : StationWork) → Fine work → Fine (hear_heard what st link work).0
heard_fine (heard.Waits joiner) st link work fine = fine
heard_fine (heard.Whole unit joiner) st link work fine = whole_fine _ unit joiner st link work fine
heard_fine (heard.Broken cause) st link work fine = ends_fine cause _ link work refl fine

abbrev PartFine : ServedPart StationWork StationTalk → Type 0
PartFine (Err why) = Unit {0}
PartFine (Ok part) = Fine part.value.0

fine_stays : StaysServing station_server PartFine
fine_stays = record {
  spent = λ why. tt;
  unit = λ bytes work talk left fine. heard_fine (heard_of (unit_of bytes) talk.joiner) talk.step talk.link work fine;
  refusal = λ why work talk left fine. ends_fine close.BadUnit (BadPeer drop_cause.BadReply) talk.link work refl fine;
}

-- ---- events

record Comes (what : Event) (before after : StationLink) (outcome : Option StationOutcome) (actions : List Action) : Type 0 where
  failed : is_dial_failed outcome ≡ true → (what ≡ event.DialFailed) × (is_waiting before ≡ true)
  closed : is_link_closed outcome ≡ true → LinkGoes what (link_of before)
  heard : (how : StationOutcome) → outcome ≡ Some how → is_lost outcome ≡ false → BytesCome what (link_of before)
  dials : is_waiting before ≡ false → is_waiting after ≡ true → list_any is_dial actions ≡ true
  answered : is_answer what ≡ true → outcome ≡ None → is_waiting after ≡ false

abbrev ComesOf : Event → StationLink → Result (Part StationAfter) StepRefused → Type 0
ComesOf what before (Err why) = Unit {0}
ComesOf what before (Ok part) = Comes what before part.value.standing part.value.work.outcome part.value.work.actions

-- nothing came of the event yet
record Fresh (work : StationWork) : Type 0 where
  next : work.next ≡ None
  outcome : work.outcome ≡ None

not_failed : (outcome : Option StationOutcome) → is_lost outcome ≡ false → is_dial_failed outcome ≡ true → ⊥
not_failed outcome fine is = absurd (let wrong : true ≡ false = sym (or_left (is_dial_failed outcome) (is_link_closed outcome) is) ∙ fine in cc)

not_closed : (outcome : Option StationOutcome) → is_lost outcome ≡ false → is_link_closed outcome ≡ true → ⊥
not_closed outcome fine is = absurd (let wrong : true ≡ false = sym (or_right (is_dial_failed outcome) (is_link_closed outcome) is) ∙ fine in cc)

none_is : (outcome : Option StationOutcome) (how : StationOutcome) → outcome ≡ None → outcome ≡ Some how → ⊥
none_is outcome how none some = absurd (let wrong : None ≡ Some how = sym none ∙ some in cc)

-- the station stands as it stood
rests : (what : Event) (before : StationLink) (work : StationWork) → Fresh work → (is_answer what ≡ true → is_waiting before ≡ false) → Comes what before before work.outcome work.actions
rests what before work fresh answered = record {
  failed = λ is. absurd (let wrong : false ≡ true = sym (ap is_dial_failed fresh.outcome) ∙ is in cc);
  closed = λ is. absurd (let wrong : false ≡ true = sym (ap is_link_closed fresh.outcome) ∙ is in cc);
  heard = λ how is fine. absurd (none_is work.outcome how fresh.outcome is);
  dials = λ before_waits after_waits. absurd (let wrong : false ≡ true = sym before_waits ∙ after_waits in cc);
  answered = λ is none. answered is;
}

due_is : (next : Option StationCall) → is_waiting (standing_by next) ≡ true → is_some next ≡ true
due_is None is = absurd cc
due_is (Some c) is = refl

shut_dials : (work : StationWork) → Fine work → is_waiting (standing_by work.next) ≡ true → list_any is_dial work.actions ≡ true
shut_dials work fine waits = fine.dials (due_is work.next waits)

-- bytes on the station's own link
own_bytes : (link : ℕ) (piece : List ℕ) (own : LinkState StationTalk) (after : StationLink) (work : StationWork) → link ≡ own.talk.link → Fine work → (is_waiting after ≡ true → list_any is_dial work.actions ≡ true) →
    Comes (event.Bytes link piece) (On own) after work.outcome work.actions
own_bytes link piece own after work same fine waits = record {
  failed = λ is. absurd (not_failed work.outcome fine.kept is);
  closed = λ is. absurd (not_closed work.outcome fine.kept is);
  heard = λ how is kept. ap (λ (n : ℕ). Some n) (sym same);
  dials = λ before_waits after_waits. waits after_waits;
  answered = λ is none. absurd (let wrong : false ≡ true = is in cc);
}

said_comes : (link : ℕ) (piece : List ℕ) (own : LinkState StationTalk) (rest : List ℕ) (work : StationWork) (talk : Option StationTalk) (left : List (List ℕ)) → link ≡ own.talk.link → Fine work →
    ComesOf (event.Bytes link piece) (On own) (after_stream rest (work, talk) left)
said_comes link piece own rest work None left same fine = own_bytes link piece own (standing_by work.next) work same fine (shut_dials work fine)
said_comes link piece own rest work (Some talk) left same fine =
    own_bytes link piece own (On (record { rest = rest; talk = talk })) work same fine (λ waits. absurd (let wrong : false ≡ true = waits in cc))

stream_comes : (link : ℕ) (piece : List ℕ) (own : LinkState StationTalk) (rest : List ℕ) (part : ServedPart StationWork StationTalk) → link ≡ own.talk.link → PartFine part →
    ComesOf (event.Bytes link piece) (On own) (then_part part (after_stream rest))
stream_comes link piece own rest (Err why) same fine = tt
stream_comes link piece own rest (Ok part) same fine = said_comes link piece own rest part.value.0 part.value.1 part.left same fine

piece_comes : (is_own : Bool) (link : ℕ) (piece : List ℕ) (own : LinkState StationTalk) (work : StationWork) (left : List (List ℕ)) → (link == own.talk.link) ≡ is_own → Fresh work →
    ComesOf (event.Bytes link piece) (On own) (by_piece is_own piece own work left)
piece_comes false link piece own work left is fresh = rests (event.Bytes link piece) (On own) work fresh (λ answers. refl)
piece_comes true link piece own work left is fresh =
    stream_comes link piece own _ (served_cut station_server (cut_stream (own.rest ++ piece)) work own.talk left) (eqb-true link own.talk.link is)
    (served_stays station_server PartFine fine_stays (cut_stream (own.rest ++ piece)) work own.talk left
    (record { kept = ap is_lost fresh.outcome; dials = λ due. absurd (let wrong : false ≡ true = sym (ap is_some fresh.next) ∙ due in cc) }))

close_comes : (is_own : Bool) (what : Event) (own : LinkState StationTalk) (work : StationWork) (left : List (List ℕ)) → (is_own ≡ true → LinkGoes what (Some own.talk.link)) → Fresh work →
    ComesOf what (On own) (by_close is_own own work left)
close_comes false what own work left goes fresh = rests what (On own) work fresh (λ answers. refl)
close_comes true what own work left goes fresh = record {
  failed = λ is. absurd (let wrong : false ≡ true = is in cc);
  closed = λ is. goes refl;
  heard = λ how is kept. absurd (let wrong : true ≡ false = kept in cc);
  dials = λ before_waits after_waits. absurd (let wrong : false ≡ true = after_waits in cc);
  answered = λ is none. refl;
}

-- the dial is answered by a link
opened_comes : (link : ℕ) (c : Option StationCall) (own : LinkState StationTalk) (work : StationWork) → work.outcome ≡ None → Comes (event.Dialled link) (Dialling c) (On own) work.outcome work.actions
opened_comes link c own work none = record {
  failed = λ is. absurd (let wrong : false ≡ true = sym (ap is_dial_failed none) ∙ is in cc);
  closed = λ is. absurd (let wrong : false ≡ true = sym (ap is_link_closed none) ∙ is in cc);
  heard = λ how is kept. absurd (none_is work.outcome how none is);
  dials = λ before_waits after_waits. absurd (let wrong : false ≡ true = after_waits in cc);
  answered = λ is without. refl;
}

opens_comes : (link : ℕ) (c : Option StationCall) (work : StationWork) (left : List (List ℕ)) → Fresh work → ComesOf (event.Dialled link) (Dialling c) (opens c link work left)
opens_comes link (Some c) work left fresh = opened_comes link (Some c) _ (tell work _) fresh.outcome
opens_comes link None work [] fresh = tt
opens_comes link None work (client ∷ left) fresh = opened_comes link None _ (tell work _) fresh.outcome

dial_fails : (c : Option StationCall) (work : StationWork) (left : List (List ℕ)) → Fresh work → ComesOf event.DialFailed (Dialling c) (by_event event.DialFailed (Dialling c) work left)
dial_fails c work left fresh = record {
  failed = λ is. (refl, refl);
  closed = λ is. absurd (let wrong : false ≡ true = is in cc);
  heard = λ how is kept. absurd (let wrong : true ≡ false = kept in cc);
  dials = λ before_waits after_waits. absurd (let wrong : false ≡ true = after_waits in cc);
  answered = λ is none. refl;
}

own_link : (link own : ℕ) → (link == own) ≡ true → ◌≡◌ {A = Option ℕ} (Some own) (Some link)
own_link link own is = ap (λ (n : ℕ). Some n) (sym (eqb-true link own is))

-- an event that answers no dial
unasked : (what : Event) (before : StationLink) (work : StationWork) → is_answer what ≡ false → Fresh work → Comes what before before work.outcome work.actions
unasked what before work other fresh = rests what before work fresh (λ is. absurd (let wrong : false ≡ true = sym other ∙ is in cc))

event_comes : (what : Event) (before : StationLink) (work : StationWork) (left : List (List ℕ)) → Fresh work → ComesOf what before (by_event what before work left)
event_comes (event.Dialled link) (Dialling c) work left fresh = opens_comes link c work left fresh
event_comes (event.Dialled link) Idle work left fresh = rests (event.Dialled link) Idle work fresh (λ answers. refl)
event_comes (event.Dialled link) (On own) work left fresh = rests (event.Dialled link) (On own) work fresh (λ answers. refl)
event_comes event.DialFailed (Dialling c) work left fresh = dial_fails c work left fresh
event_comes event.DialFailed Idle work left fresh = rests event.DialFailed Idle work fresh (λ answers. refl)
event_comes event.DialFailed (On own) work left fresh = rests event.DialFailed (On own) work fresh (λ answers. refl)
event_comes (event.Bytes link piece) (On own) work left fresh = piece_comes (link == own.talk.link) link piece own work left refl fresh
event_comes (event.Bytes link piece) Idle work left fresh = unasked (event.Bytes link piece) Idle work refl fresh
event_comes (event.Bytes link piece) (Dialling c) work left fresh = unasked (event.Bytes link piece) (Dialling c) work refl fresh
event_comes (event.Closed link) (On own) work left fresh = close_comes (link == own.talk.link) (event.Closed link) own work left (own_link link own.talk.link) fresh
event_comes (event.Closed link) Idle work left fresh = unasked (event.Closed link) Idle work refl fresh
event_comes (event.Closed link) (Dialling c) work left fresh = unasked (event.Closed link) (Dialling c) work refl fresh
event_comes (event.Opened link) (On own) work left fresh = close_comes (link == own.talk.link) (event.Opened link) own work left (own_link link own.talk.link) fresh
event_comes (event.Opened link) Idle work left fresh = unasked (event.Opened link) Idle work refl fresh
event_comes (event.Opened link) (Dialling c) work left fresh = unasked (event.Opened link) (Dialling c) work refl fresh
event_comes event.Stop Idle work left fresh = unasked event.Stop Idle work refl fresh
event_comes event.Stop (Dialling c) work left fresh = unasked event.Stop (Dialling c) work refl fresh
event_comes event.Stop (On own) work left fresh = unasked event.Stop (On own) work refl fresh

-- ---- steps

-- what a step that was made, or wasn't, comes to
record StepComes (what : Event) (running : Option StationRunning) (outcome : Option StationOutcome) (answer : Result (List Action) StepRefused) (after : StationState) : Type 0 where
  failed : is_dial_failed outcome ≡ false → is_dial_failed after.outcome ≡ true → (what ≡ event.DialFailed) × (is_dialling running ≡ true) × (outcome ≡ None)
  closed : is_link_closed outcome ≡ false → is_link_closed after.outcome ≡ true → LinkGoes what (want_by running)
  heard : (how : StationOutcome) → outcome ≡ None → after.outcome ≡ Some how → is_lost (Some how) ≡ false → BytesCome what (want_by running)
  dials : is_dialling running ≡ false → is_dialling after.running ≡ true → list_any is_dial (taken_actions answer) ≡ true
  answered : is_answer what ≡ true → after.outcome ≡ None → is_dialling after.running ≡ false
  kept : after.outcome ≡ None → outcome ≡ None

abbrev StepsSo : Event → StationState → Stepped StationState → Type 0
StepsSo what s stepped = StepComes what s.running s.outcome stepped.answer stepped.state

-- nothing is done
same_comes : (what : Event) (s : StationState) (answer : Result (List Action) StepRefused) → (is_answer what ≡ true → s.outcome ≡ None → is_dialling s.running ≡ false) →
    StepComes what s.running s.outcome answer s
same_comes what s answer answered = record {
  failed = λ was is. absurd (let wrong : false ≡ true = sym was ∙ is in cc);
  closed = λ was is. absurd (let wrong : false ≡ true = sym was ∙ is in cc);
  heard = λ how was is kept. absurd (none_is s.outcome how was is);
  dials = λ was is. absurd (let wrong : false ≡ true = sym was ∙ is in cc);
  answered = answered;
  kept = λ is. is;
}

part_comes : (what : Event) (running : StationRunning) (s : StationState) (left : List (List ℕ)) (part : Result (Part StationAfter) StepRefused) → s.outcome ≡ None → ComesOf what running.standing part →
    StepComes what (Some running) None (step_by actions_after state_after (halted s) left part).answer (step_by actions_after state_after (halted s) left part).state
part_comes what running s left (Err why) none comes = record {
  failed = λ was is. absurd (let wrong : false ≡ true = sym (ap is_dial_failed none) ∙ is in cc);
  closed = λ was is. absurd (let wrong : false ≡ true = sym (ap is_link_closed none) ∙ is in cc);
  heard = λ how was is kept. absurd (none_is s.outcome how none is);
  dials = λ was is. absurd (let wrong : false ≡ true = is in cc);
  answered = λ answers is. refl;
  kept = λ is. refl;
}
part_comes what running s left (Ok part) none comes = record {
  failed = λ was is. let why = comes.failed is in (why.0, why.1, refl);
  closed = λ was is. comes.closed is;
  heard = λ how was is kept. comes.heard how is (ap is_lost is ∙ kept);
  dials = comes.dials;
  answered = comes.answered;
  kept = λ is. refl;
}

outcome_comes : (outcome : Option StationOutcome) (running : StationRunning) (s : StationState) (what : Event) (now : ℕ) (left : List (List ℕ)) → s.running ≡ Some running → s.outcome ≡ outcome →
    StepsSo what s (step_by_outcome outcome running s what now left)
outcome_comes (Some how) running s what now left runs some = same_comes what s _ (λ answers none. absurd (none_is s.outcome how none some))
outcome_comes None running s what now left runs none =
    let stepped : Stepped StationState = step_by actions_after state_after (halted s) left (by_event what running.standing (work_of running.task now) left) in
    subst (λ (r : Option StationRunning). StepComes what r s.outcome stepped.answer stepped.state) (sym runs)
    (subst (λ (o : Option StationOutcome). StepComes what (Some running) o stepped.answer stepped.state) (sym none)
    (part_comes what running s left (by_event what running.standing (work_of running.task now) left) none
    (event_comes what running.standing (work_of running.task now) left (record { next = refl; outcome = refl }))))

running_comes : (running : Option StationRunning) (s : StationState) (what : Event) (now : ℕ) (left : List (List ℕ)) → s.running ≡ running → StepsSo what s (step_by_running running s what now left)
running_comes None s what now left runs = same_comes what s _ (λ answers none. ap is_dialling runs)
running_comes (Some running) s what now left runs = outcome_comes s.outcome running s what now left runs refl

comes : (s : StationState) (what : Event) (now : ℕ) (left : List (List ℕ)) → StepsSo what s (step_of s what now left)
comes s what now left = running_comes s.running s what now left refl

pub loses_by_events : LosesByEvents
loses_by_events = record {
  failed = λ s what now left. (comes s what now left).failed;
  closed = λ s what now left. (comes s what now left).closed;
  heard = λ s what now left. (comes s what now left).heard;
  dials = λ s what now left. (comes s what now left).dials;
  answered = λ s what now left. (comes s what now left).answered;
  kept = λ s what now left. (comes s what now left).kept;
}
