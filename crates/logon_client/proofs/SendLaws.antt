-- A client sends on the link that it dialled alone.
-- It serves `clients_send_on_their_link`.
use Rattle.std.proofs.Common.{ℕ, ◌≡◌, inl, inr, ap, subst, ◌==◌, Bool, true, false, List, [], ◌∷◌, ◌++◌, Option, Some, None, Result, Ok, Err, refl, sym, ap, subst}
use Rattle.std.specs.List.{AllByRecursion}
use Rattle.end_loop.specs.Runs.{actions_of}
use Rattle.outside.specs.Machine.{Stepped}
use Rattle.outside.specs.declared.action.Action.{Action}
use Rattle.outside.specs.declared.action.CloseCause.TheVariants as close_cause
use Rattle.logon_client.specs.declared.outcome.PeerFault.TheVariants as peer_fault
use Rattle.ntlm_flags.specs.Flags.{has_flag, agreed_flags, negotiate_key_exch}
use Rattle.ntlm_messages.specs.Challenge.{challenge_of}
use Rattle.ntlm_messages.specs.declared.messages.Challenge.{Challenge}
use Rattle.ntlm_messages.specs.declared.pairs.PairsRefused.{PairsRefused}
use Rattle.ntlm_messages.specs.declared.refused.MessageRefused.{MessageRefused}
use Rattle.ntlm_seal.specs.Sessions.{SessionState}
use Rattle.outside.specs.declared.action.Action.TheVariants as action
use Rattle.outside.specs.declared.action.StepRefused.{StepRefused}
use Rattle.outside.specs.declared.event.Event.{Event}
use Rattle.outside.specs.declared.event.Event.TheVariants as event
use Rattle.outside.specs.Machine.{Part, then_part, step_by}
use Rattle.rpc_units.specs.declared.refused.JoinRefused.{JoinRefused}
use Rattle.rpc_units.specs.declared.refused.UnitRefused.{UnitRefused}
use Rattle.rpc_units.specs.declared.unit.Body.{Body}
use Rattle.rpc_units.specs.declared.unit.Body.TheVariants.{Bind, BindAck, BindNak, Auth3, Request, Response, Fault}
use Rattle.rpc_units.specs.declared.unit.Syntax.{Syntax}
use Rattle.rpc_units.specs.declared.unit.Trailer.{Trailer}
use Rattle.rpc_units.specs.declared.unit.Unit.{Unit as RpcUnit}
use Rattle.rpc_units.specs.Joining.{answer_of, open_after, stub_of}
use Rattle.rpc_units.specs.Reading.{unit_of}
use Rattle.rpc_units.specs.Stream.{cut_stream}
use Rattle.memo_stubs.specs.declared.refused.MemoRefused.{MemoRefused}
use Rattle.memo_stubs.specs.Memo.{who_of, echo_reply_of}
use Rattle.end_links.specs.Links.{LinkState}
use Rattle.end_links.specs.Serving.{ServedPart, served_cut}
use Rattle.end_links.proofs.KeepLaws.{StaysServing, served_stays}
use Rattle.logon_client.specs.declared.answering.Drawn.{Drawn}
use Rattle.logon_client.specs.declared.answering.ServerOffer.{ServerOffer}
use Rattle.logon_client.specs.declared.hearing.Heard.{Heard}
use Rattle.logon_client.specs.declared.hearing.Heard.TheVariants as heard
use Rattle.logon_client.specs.declared.outcome.ClientOutcome.{ClientOutcome}
use Rattle.logon_client.specs.declared.outcome.ClientOutcome.TheVariants.{BadPeer}
use Rattle.logon_client.specs.declared.securing.Sending.{Sending}
use Rattle.logon_client.specs.declared.state.After.{After}
use Rattle.logon_client.specs.declared.state.Phase.{Phase}
use Rattle.logon_client.specs.declared.state.Phase.TheVariants.{Bound, Asked}
use Rattle.logon_client.specs.declared.state.Question.{Question}
use Rattle.logon_client.specs.declared.state.Question.TheVariants.{Who, Echo}
use Rattle.logon_client.specs.declared.state.Running.{Running}
use Rattle.logon_client.specs.declared.state.ClientLink.{ClientLink}
use Rattle.logon_client.specs.declared.state.ClientLink.TheVariants.{Idle, Dialling, On}
use Rattle.logon_client.specs.declared.state.Talk.{Talk}
use Rattle.logon_client.specs.declared.state.Terms.{Terms}
use Rattle.logon_client.specs.declared.state.Work.{Work}
use Rattle.logon_client.specs.Answering.{is_enough, drawn_for, answer_of as answer_to, auth3_of}
use Rattle.logon_client.specs.Machine.{told, asks, answers_by, answers, answers_part, hear_flags, hear_pairs, hear_challenge, hear_trailer, hear_result, hear_ack, hear_name_by, hear_name, hear_echo_by, hear_echo, hear_reply, hear_joined, hear_fragment, hear_body_opened, hear_unit_opened, hear_opened, hear_secured, hear_response, hear_body, hear_call, hear_unit, hear, serve_heard, client_server, by_piece, by_close, after_stream, by_event, link_of, standing_by, step_of, halted, actions_after, state_after, work_of, step_by_outcome, step_by_running, ends, fails}
use Rattle.unit_security.specs.Levels.{is_sealed}
use Rattle.logon_client.specs.Plans.{offer_of}
use Rattle.unit_security.specs.declared.securing.Secured.{Secured}
use Rattle.unit_security.specs.Securing.{open_unit}
use Rattle.logon_client.specs.Securing.{has_level}
use Rattle.logon_client.specs.Sends.{IsOwnLink, IsSentAt, SendsOnItsLink}
use Rattle.logon_client.specs.State.{State}

abbrev StandsAt : (ℕ → Type 0) → ClientLink → Type 0
StandsAt Own Idle = Unit {0}
StandsAt Own Dialling = Unit {0}
StandsAt Own (On state) = Own state.talk.link

-- `Own` holds of the client's link, unless the client has stopped
abbrev pub AtUnlessStopped : (Own : ℕ → Type 0) → Option Running → Type 0
AtUnlessStopped Own None = Unit {0}
AtUnlessStopped Own (Some running) = StandsAt Own running.standing

-- the link of an answered dial is one
abbrev pub DialledAt : (ℕ → Type 0) → Event → Type 0
DialledAt Own (event.Dialled link) = Own link
DialledAt Own (event.Bytes link piece) = Unit {0}
DialledAt Own (event.Opened link) = Unit {0}
DialledAt Own (event.Closed link) = Unit {0}
DialledAt Own event.DialFailed = Unit {0}
DialledAt Own event.Stop = Unit {0}

module _ (Own : ℕ → Type 0) where
  abbrev Fine : Work → Type 0
  Fine work = AllByRecursion (IsSentAt Own) work.actions

  abbrev TalkFine : Option Talk → Type 0
  TalkFine None = Unit {0}
  TalkFine (Some talk) = Own talk.link

  abbrev EndFine : Work × Option Talk → Type 0
  EndFine end = Fine end.0 × TalkFine end.1

  with_one : (actions : List Action) (what : Action) → AllByRecursion (IsSentAt Own) actions → IsSentAt Own what → AllByRecursion (IsSentAt Own) (actions ++ what ∷ [])
  with_one [] what all is = (is, tt)
  with_one (first ∷ actions) what all is = (all.0, with_one actions what all.1 is)

  ends_fine : (outcome : ClientOutcome) (link : ℕ) (work : Work) → Fine work → EndFine (ends outcome link work)
  ends_fine outcome link work fine = (with_one work.actions (action.Close link close_cause.CallDone) fine tt, tt)

  asks_fine : (sending : Option Sending) (terms : Terms) (question : Question) (link : ℕ) (work : Work) → Own link → Fine work → EndFine (asks sending terms question link work)
  asks_fine None terms question link work own fine = ends_fine (BadPeer peer_fault.BadSeal) link work fine
  asks_fine (Some sending) terms question link work own fine = (with_one work.actions (action.Send link sending.bytes) fine own, own)

  answers_by_fine : (auth3 : Option (List ℕ)) (terms : Terms) (link : ℕ) (work : Work) → Own link → Fine work → EndFine (answers_by auth3 terms link work)
  answers_by_fine None terms link work own fine = ends_fine (BadPeer peer_fault.BadMessage) link work fine
  answers_by_fine (Some auth3) terms link work own fine =
      asks_fine _ terms Who link (told work (action.Send link auth3)) own (with_one work.actions (action.Send link auth3) fine own)

  answers_fine : (offer : ServerOffer) (drawn : Drawn) (link : ℕ) (work : Work) → Own link → Fine work → EndFine (answers offer drawn link work)
  answers_fine offer drawn link work own fine =
      answers_by_fine (auth3_of work.task.level (answer_to work.task offer drawn).message) _ link work own fine

  -- ---- what is heard

  abbrev HeardFine : Heard → Type 0
  HeardFine (heard.Done work talk) = Fine work × TalkFine talk
  HeardFine (heard.Challenged work link offer) = Fine work × Own link

  -- whatever the outcome is
  fails_fine : (link : ℕ) (work : Work) → Own link → Fine work → HeardFine (fails (BadPeer peer_fault.BadSeal) link work)
  fails_fine link work own fine = ends_fine (BadPeer peer_fault.BadSeal) link work fine

  flags_fine : (enough : Bool) (offer : ServerOffer) (link : ℕ) (work : Work) → Own link → Fine work → HeardFine (hear_flags enough offer link work)
  flags_fine false offer link work own fine = fails_fine link work own fine
  flags_fine true offer link work own fine = (fine, own)

  pairs_fine : (pairs : Result (List (ℕ × List ℕ)) PairsRefused) (challenge : Challenge) (receive link : ℕ) (work : Work) → Own link → Fine work →
      HeardFine (hear_pairs pairs challenge receive link work)
  pairs_fine (Err why) challenge receive link work own fine = fails_fine link work own fine
  pairs_fine (Ok pairs) challenge receive link work own fine = flags_fine (is_enough work.task.level work.task.auth (agreed_flags (offer_of work.task.auth) challenge.flags)) _ link work own fine

  challenge_fine : (challenge : Result Challenge MessageRefused) (receive link : ℕ) (work : Work) → Own link → Fine work → HeardFine (hear_challenge challenge receive link work)
  challenge_fine (Err why) receive link work own fine = fails_fine link work own fine
  challenge_fine (Ok challenge) receive link work own fine = pairs_fine _ challenge receive link work own fine

  trailer_fine : (trailer : Option Trailer) (receive link : ℕ) (work : Work) → Own link → Fine work → HeardFine (hear_trailer trailer receive link work)
  trailer_fine None receive link work own fine = fails_fine link work own fine
  trailer_fine (Some trailer) receive link work own fine = challenge_fine (challenge_of trailer.value) receive link work own fine

  result_fine : (accepted : Bool) (reason : ℕ) (trailer : Option Trailer) (receive link : ℕ) (work : Work) → Own link → Fine work → HeardFine (hear_result accepted reason trailer receive link work)
  result_fine false reason trailer receive link work own fine = fails_fine link work own fine
  result_fine true reason trailer receive link work own fine = trailer_fine trailer receive link work own fine

  ack_fine : (results : List (ℕ × ℕ × Syntax)) (trailer : Option Trailer) (receive link : ℕ) (work : Work) → Own link → Fine work → HeardFine (hear_ack results trailer receive link work)
  ack_fine [] trailer receive link work own fine = fails_fine link work own fine
  ack_fine (first ∷ results) trailer receive link work own fine = result_fine (first.0 == 0) first.1 trailer receive link work own fine

  name_by_fine : (none : Bool) (name : List ℕ) (terms : Terms) (link : ℕ) (work : Work) → Own link → Fine work → HeardFine (hear_name_by none name terms link work)
  name_by_fine true name terms link work own fine = fails_fine link work own fine
  name_by_fine false name terms link work own fine = asks_fine _ terms (Echo name) link work own fine

  name_fine : (name : Result (List ℕ) MemoRefused) (terms : Terms) (link : ℕ) (work : Work) → Own link → Fine work → HeardFine (hear_name name terms link work)
  name_fine (Err why) terms link work own fine = fails_fine link work own fine
  name_fine (Ok name) terms link work own fine = name_by_fine (work.task.echo == 0) name terms link work own fine

  echo_by_fine : (same : Bool) (name : List ℕ) (terms : Terms) (link : ℕ) (work : Work) → Own link → Fine work → HeardFine (hear_echo_by same name terms link work)
  echo_by_fine true name terms link work own fine = fails_fine link work own fine
  echo_by_fine false name terms link work own fine = fails_fine link work own fine

  echo_fine : (bytes : Result (List ℕ) MemoRefused) (name : List ℕ) (terms : Terms) (link : ℕ) (work : Work) → Own link → Fine work → HeardFine (hear_echo bytes name terms link work)
  echo_fine (Err why) name terms link work own fine = fails_fine link work own fine
  echo_fine (Ok bytes) name terms link work own fine = echo_by_fine _ name terms link work own fine

  reply_fine : (question : Question) (stub : List ℕ) (terms : Terms) (link : ℕ) (work : Work) → Own link → Fine work → HeardFine (hear_reply question stub terms link work)
  reply_fine Who stub terms link work own fine = name_fine (who_of stub) terms link work own fine
  reply_fine (Echo name) stub terms link work own fine = echo_fine (echo_reply_of stub) name terms link work own fine

  joined_fine : (joined : Result (Option RpcUnit) JoinRefused) (joiner : Option RpcUnit) (terms : Terms) (question : Question) (link : ℕ) (work : Work) → Own link → Fine work →
      HeardFine (hear_joined joined joiner terms question link work)
  joined_fine (Err why) joiner terms question link work own fine = fails_fine link work own fine
  joined_fine (Ok None) joiner terms question link work own fine = (fine, own)
  joined_fine (Ok (Some whole)) joiner terms question link work own fine = reply_fine question (stub_of whole.body) terms link work own fine

  fragment_fine : (unit : RpcUnit) (joiner : Option RpcUnit) (terms : Terms) (question : Question) (link : ℕ) (work : Work) → Own link → Fine work →
      HeardFine (hear_fragment unit joiner terms question link work)
  fragment_fine unit joiner terms question link work own fine = joined_fine (answer_of joiner unit) (open_after joiner unit) terms question link work own fine

  body_opened_fine : (body : Body) (unit : RpcUnit) (joiner : Option RpcUnit) (terms : Terms) (question : Question) (link : ℕ) (work : Work) → Own link → Fine work →
      HeardFine (hear_body_opened body unit joiner terms question link work)
  body_opened_fine (Bind send receive group contexts) unit joiner terms question link work own fine = fails_fine link work own fine
  body_opened_fine (BindAck send receive group results) unit joiner terms question link work own fine = fails_fine link work own fine
  body_opened_fine (BindNak reason) unit joiner terms question link work own fine = fails_fine link work own fine
  body_opened_fine Auth3 unit joiner terms question link work own fine = fails_fine link work own fine
  body_opened_fine (Request hint context opnum stub) unit joiner terms question link work own fine = fails_fine link work own fine
  body_opened_fine (Response hint context stub) unit joiner terms question link work own fine = fragment_fine unit joiner terms question link work own fine
  body_opened_fine (Fault hint context status) unit joiner terms question link work own fine = fails_fine link work own fine

  unit_opened_fine : (unit : Result RpcUnit UnitRefused) (joiner : Option RpcUnit) (terms : Terms) (question : Question) (link : ℕ) (work : Work) → Own link → Fine work →
      HeardFine (hear_unit_opened unit joiner terms question link work)
  unit_opened_fine (Err why) joiner terms question link work own fine = fails_fine link work own fine
  unit_opened_fine (Ok unit) joiner terms question link work own fine = body_opened_fine unit.body unit joiner terms question link work own fine

  opened_fine : (opened : Option Secured) (joiner : Option RpcUnit) (terms : Terms) (question : Question) (link : ℕ) (work : Work) → Own link → Fine work →
      HeardFine (hear_opened opened joiner terms question link work)
  opened_fine None joiner terms question link work own fine = fails_fine link work own fine
  opened_fine (Some opened) joiner terms question link work own fine = unit_opened_fine (unit_of opened.bytes) joiner _ question link work own fine

  secured_fine : (level : Bool) (bytes : List ℕ) (session : SessionState) (joiner : Option RpcUnit) (terms : Terms) (question : Question) (link : ℕ) (work : Work) → Own link → Fine work →
      HeardFine (hear_secured level bytes session joiner terms question link work)
  secured_fine false bytes session joiner terms question link work own fine = fails_fine link work own fine
  secured_fine true bytes session joiner terms question link work own fine =
      opened_fine (open_unit (is_sealed work.task.level) session bytes) joiner terms question link work own fine

  response_fine : (session : Option SessionState) (unit : RpcUnit) (bytes : List ℕ) (joiner : Option RpcUnit) (terms : Terms) (question : Question) (link : ℕ) (work : Work) → Own link → Fine work →
      HeardFine (hear_response session unit bytes joiner terms question link work)
  response_fine None unit bytes joiner terms question link work own fine = fragment_fine unit joiner terms question link work own fine
  response_fine (Some session) unit bytes joiner terms question link work own fine =
      secured_fine (has_level work.task.level unit.trailer) bytes session joiner terms question link work own fine

  body_fine : (body : Body) (phase : Phase) (unit : RpcUnit) (bytes : List ℕ) (joiner : Option RpcUnit) (link : ℕ) (work : Work) → Own link → Fine work →
      HeardFine (hear_body body phase unit bytes joiner link work)
  body_fine (Bind send receive group contexts) phase unit bytes joiner link work own fine = fails_fine link work own fine
  body_fine (BindAck send receive group results) Bound unit bytes joiner link work own fine = ack_fine results unit.trailer receive link work own fine
  body_fine (BindAck send receive group results) (Asked terms question) unit bytes joiner link work own fine = fails_fine link work own fine
  body_fine (BindNak reason) phase unit bytes joiner link work own fine = fails_fine link work own fine
  body_fine Auth3 phase unit bytes joiner link work own fine = fails_fine link work own fine
  body_fine (Request hint context opnum stub) phase unit bytes joiner link work own fine = fails_fine link work own fine
  body_fine (Response hint context stub) Bound unit bytes joiner link work own fine = fails_fine link work own fine
  body_fine (Response hint context stub) (Asked terms question) unit bytes joiner link work own fine = response_fine terms.session unit bytes joiner terms question link work own fine
  body_fine (Fault hint context status) phase unit bytes joiner link work own fine = fails_fine link work own fine

  call_fine : (same : Bool) (unit : RpcUnit) (bytes : List ℕ) (talk : Talk) (work : Work) → Own talk.link → Fine work → HeardFine (hear_call same unit bytes talk work)
  call_fine false unit bytes talk work own fine = fails_fine talk.link work own fine
  call_fine true unit bytes talk work own fine = body_fine unit.body talk.phase unit bytes talk.joiner talk.link work own fine

  unit_fine : (unit : Result RpcUnit UnitRefused) (bytes : List ℕ) (talk : Talk) (work : Work) → Own talk.link → Fine work → HeardFine (hear_unit unit bytes talk work)
  unit_fine (Err why) bytes talk work own fine = fails_fine talk.link work own fine
  unit_fine (Ok unit) bytes talk work own fine = call_fine _ unit bytes talk work own fine

  -- ---- the units of the link

  abbrev PartFine : ServedPart Work Talk → Type 0
  PartFine (Err why) = Unit {0}
  PartFine (Ok part) = EndFine part.value

  drawn_fine : (part : Result (Part Drawn) StepRefused) (offer : ServerOffer) (link : ℕ) (work : Work) → Own link → Fine work → PartFine (then_part part (answers_part offer link work))
  drawn_fine (Err why) offer link work own fine = tt
  drawn_fine (Ok part) offer link work own fine = answers_fine offer part.value link work own fine

  heard_fine : (what : Heard) (left : List (List ℕ)) → HeardFine what → PartFine (serve_heard what left)
  heard_fine (heard.Done work talk) left fine = fine
  heard_fine (heard.Challenged work link offer) left fine =
      drawn_fine (drawn_for (has_flag offer.flags negotiate_key_exch) left) offer link work fine.1 fine.0

  fine_stays : StaysServing client_server PartFine
  fine_stays = record {
    spent = λ why. tt;
    unit = λ bytes work talk left fine. heard_fine (hear bytes talk work) left (unit_fine (unit_of bytes) bytes talk work fine.1 fine.0);
    refusal = λ why work talk left fine. (with_one work.actions (action.Close talk.link close_cause.CallDone) fine.0 tt, tt);
  }

  -- ---- events

  abbrev AfterFine : Result (Part After) StepRefused → Type 0
  AfterFine (Err why) = Unit {0}
  AfterFine (Ok part) = Fine part.value.work × StandsAt Own part.value.standing

  stands_by : (talk : Option Talk) (rest : List ℕ) → TalkFine talk → StandsAt Own (standing_by talk rest)
  stands_by None rest own = tt
  stands_by (Some talk) rest own = own

  stream_fine : (rest : List ℕ) (part : ServedPart Work Talk) → PartFine part → AfterFine (then_part part (after_stream rest))
  stream_fine rest (Err why) fine = tt
  stream_fine rest (Ok part) fine = (fine.0, stands_by part.value.1 rest fine.1)

  piece_fine : (own : Bool) (piece : List ℕ) (state : LinkState Talk) (work : Work) (left : List (List ℕ)) → Own state.talk.link → Fine work → AfterFine (by_piece own piece state work left)
  piece_fine false piece state work left own fine = (fine, own)
  piece_fine true piece state work left own fine =
      stream_fine _ (served_cut client_server (cut_stream (state.rest ++ piece)) work state.talk left)
      (served_stays client_server PartFine fine_stays (cut_stream (state.rest ++ piece)) work state.talk left (fine, own))

  shut_fine : (own : Bool) (state : LinkState Talk) (work : Work) (left : List (List ℕ)) → Own state.talk.link → Fine work → AfterFine (by_close own state work left)
  shut_fine false state work left own fine = (fine, own)
  shut_fine true state work left own fine = (fine, tt)

  event_fine : (what : Event) (standing : ClientLink) (work : Work) (left : List (List ℕ)) → DialledAt Own what → StandsAt Own standing → Fine work → AfterFine (by_event what standing work left)
  event_fine (event.Opened link) Idle work left dialled stands fine = (fine, tt)
  event_fine (event.Opened link) Dialling work left dialled stands fine = (fine, tt)
  event_fine (event.Opened link) (On own) work left dialled stands fine = shut_fine (link == own.talk.link) own work left stands fine
  event_fine (event.Bytes link piece) Idle work left dialled stands fine = (fine, tt)
  event_fine (event.Bytes link piece) Dialling work left dialled stands fine = (fine, tt)
  event_fine (event.Bytes link piece) (On own) work left dialled stands fine = piece_fine (link == own.talk.link) piece own work left stands fine
  event_fine (event.Closed link) Idle work left dialled stands fine = (fine, tt)
  event_fine (event.Closed link) Dialling work left dialled stands fine = (fine, tt)
  event_fine (event.Closed link) (On own) work left dialled stands fine = shut_fine (link == own.talk.link) own work left stands fine
  event_fine (event.Dialled link) Idle work left dialled stands fine = (fine, tt)
  event_fine (event.Dialled link) Dialling work left dialled stands fine = (with_one work.actions (action.Send link _) fine dialled, dialled)
  event_fine (event.Dialled link) (On own) work left dialled stands fine = (fine, stands)
  event_fine event.DialFailed Idle work left dialled stands fine = (fine, tt)
  event_fine event.DialFailed Dialling work left dialled stands fine = (fine, tt)
  event_fine event.DialFailed (On own) work left dialled stands fine = (fine, stands)
  event_fine event.Stop Idle work left dialled stands fine = (fine, tt)
  event_fine event.Stop Dialling work left dialled stands fine = (fine, tt)
  event_fine event.Stop (On own) work left dialled stands fine = (fine, stands)

  -- ---- steps

  pub record SendsAt (step : Stepped State) : Type 0 where
    pub sends : AllByRecursion (IsSentAt Own) (actions_of step)
    pub stands : AtUnlessStopped Own step.state.running

  after_fine : (s : State) (left : List (List ℕ)) (part : Result (Part After) StepRefused) → AfterFine part → SendsAt (step_by actions_after state_after (halted s) left part)
  after_fine s left (Err why) fine = record { sends = tt; stands = tt }
  after_fine s left (Ok part) fine = record { sends = fine.0; stands = fine.1 }

  outcome_fine : (outcome : Option ClientOutcome) (running : Running) (s : State) (what : Event) (now : ℕ) (left : List (List ℕ)) → DialledAt Own what → AtUnlessStopped Own s.running →
      StandsAt Own running.standing → SendsAt (step_by_outcome outcome running s what now left)
  outcome_fine (Some outcome) running s what now left dialled was stands = record { sends = tt; stands = was }
  outcome_fine None running s what now left dialled was stands =
      after_fine s left (by_event what running.standing (work_of running.task now) left) (event_fine what running.standing (work_of running.task now) left dialled stands tt)

  running_fine : (r : Option Running) (s : State) (what : Event) (now : ℕ) (left : List (List ℕ)) → DialledAt Own what → AtUnlessStopped Own s.running → AtUnlessStopped Own r →
      SendsAt (step_by_running r s what now left)
  running_fine None s what now left dialled was stands = record { sends = tt; stands = was }
  running_fine (Some running) s what now left dialled was stands = outcome_fine s.outcome running s what now left dialled was stands

  pub client_sends : (s : State) (what : Event) (now : ℕ) (left : List (List ℕ)) → DialledAt Own what → AtUnlessStopped Own s.running → SendsAt (step_of s what now left)
  client_sends s what now left dialled stands = running_fine s.running s what now left dialled stands stands

-- ---- the law

abbrev Stood : Running → Event → ℕ → Type 0
Stood running what link = IsOwnLink running what link

stood : (standing : ClientLink) (running : Running) (what : Event) → running.standing ≡ standing → StandsAt (Stood running what) standing
stood Idle running what is = tt
stood Dialling running what is = tt
stood (On state) running what is = inl (ap link_of is)

comes : (running : Running) (what : Event) → DialledAt (Stood running what) what
comes running (event.Dialled link) = inr refl
comes running (event.Bytes link piece) = tt
comes running (event.Opened link) = tt
comes running (event.Closed link) = tt
comes running event.DialFailed = tt
comes running event.Stop = tt

pub sends_on_its_link : SendsOnItsLink
sends_on_its_link s running what now left is =
    (client_sends (Stood running what) s what now left (comes running what)
    (subst (λ (r : Option Running). AtUnlessStopped (Stood running what) r) (sym is) (stood running.standing running what refl))).sends
