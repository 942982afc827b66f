-- What each step sends. It serves `a_station_sends_its_calls`.
use Rattle.std.proofs.Common.{◌≡◌, ℕ, ◌++◌, List, [], ◌∷◌, Option, Some, None, Result, Ok, Err, refl, ap, ◌∙◌}
use Rattle.logon_stubs.specs.declared.calls.Reply.{Reply}
use Rattle.outside.specs.declared.action.Action.{Action}
use Rattle.outside.specs.declared.action.StepRefused.{StepRefused}
use Rattle.outside.specs.declared.event.Event.TheVariants as event
use Rattle.rpc_units.specs.Stream.{Cut, cut_stream}
use Rattle.end_loop.specs.Runs.{taken_actions}
use Rattle.end_links.specs.Links.{LinkState}
use Rattle.interactive_station.specs.declared.plan.StationPlan.{StationPlan}
use Rattle.interactive_station.specs.declared.state.StationCall.{StationCall}
use Rattle.interactive_station.specs.declared.state.StationCall.TheVariants.{Challenge, Authenticate, Logon, Logoff}
use Rattle.interactive_station.specs.declared.state.StationLink.{StationLink}
use Rattle.interactive_station.specs.declared.state.StationLink.TheVariants.{Dialling, On}
use Rattle.interactive_station.specs.declared.state.StationRunning.{StationRunning}
use Rattle.interactive_station.specs.declared.state.StationStep.{StationStep}
use Rattle.interactive_station.specs.declared.state.StationTalk.{StationTalk}
use Rattle.interactive_station.specs.Calls.{bind_number, opnum_of, stub_of_call}
use Rattle.interactive_station.specs.Machine.{request_bytes}
use Rattle.interactive_station.specs.Moves.{call_in}
use Rattle.interactive_station.specs.Replies.{Answer, Awaited, Broken, Fails, Replied, Bringing, Course, answer_course, brings_in, reply_course, request_sends, stays_on}
use Rattle.interactive_station.specs.Sends.{GoesOut, SendsItsCalls, bind_course, sent_at, sent_in}
use Rattle.interactive_station.specs.State.{StationState}
use Rattle.interactive_station.proofs.ExactLaws.{ReplyView, Blamed, GoesOn, GoesIn, IsRefused, GoesOff, reply_view}
use Rattle.interactive_station.proofs.ReplyLaws.{steps_by, units_step}

-- ---- what answers a call makes nothing be sent

abbrev SendsNothing : Course → Type 0
SendsNothing course = sent_in course.actions ≡ []

view_silent : (c : StationCall) (r : Reply) (link : ℕ) (plan : StationPlan) (course : Course) → ReplyView c r link plan course → SendsNothing course
view_silent c r link plan course (Blamed cause comes) = ap (λ (w : Course). sent_in w.actions) comes
view_silent c r link plan course (GoesOn next comes) = ap (λ (w : Course). sent_in w.actions) comes
view_silent c r link plan course (GoesIn o authenticator one info next call_is reply_is grants comes) = ap (λ (w : Course). sent_in w.actions) comes
view_silent c r link plan course (IsRefused o returned status judges awaited not_0 not_denied comes) = ap (λ (w : Course). sent_in w.actions) comes
view_silent c r link plan course (GoesOff o authenticator domain user one call_is reply_is zero awaited comes) = ap (λ (w : Course). sent_in w.actions) comes

answer_silent : (answer : Answer) (c : StationCall) (link : ℕ) (plan : StationPlan) (now : ℕ) (stays : StationLink) → SendsNothing (answer_course answer c link plan now stays)
answer_silent Awaited c link plan now stays = refl
answer_silent (Broken cause) c link plan now stays = refl
answer_silent (Fails cause) c link plan now stays = refl
answer_silent (Replied r) c link plan now stays = view_silent c r link plan (reply_course c r link plan now) (reply_view link plan now c r)

-- ---- the request

abbrev requests : Option ℕ → StationCall → ℕ → StationPlan → List (ℕ × List ℕ)
requests None c link plan = []
requests (Some limit) c link plan = (link, request_bytes c plan limit) ∷ []

requests_sent : (limit : Option ℕ) (c : StationCall) (link : ℕ) (plan : StationPlan) (more : List Action) → sent_in more ≡ [] → sent_in (request_sends limit c link plan ++ more) ≡ requests limit c link plan
requests_sent None c link plan more silent = silent
requests_sent (Some limit) c link plan more silent = ap (λ (sends : List (ℕ × List ℕ)). (link, request_bytes c plan limit) ∷ sends) silent

units_send : (s : StationState) (running : StationRunning) (own : LinkState StationTalk) (piece : List ℕ) (now : ℕ) (left : List (List ℕ)) →
    s.running ≡ Some running → s.outcome ≡ None → running.standing ≡ On own →
    sent_at s (event.Bytes own.talk.link piece) now left
    ≡ requests (brings_in (cut_stream (own.rest ++ piece)) own.talk).limit (call_in own.talk.step) own.talk.link running.task
units_send s running own piece now left runs none at =
    let cut : Cut = cut_stream (own.rest ++ piece) in
    let b : Bringing = brings_in cut own.talk in
    let stays : StationLink = stays_on cut own.talk b.limit in
    ap (λ (answer : Result (List Action) StepRefused). sent_in (taken_actions answer)) (units_step s running own piece now left runs none at).actions
    ∙ requests_sent b.limit (call_in own.talk.step) own.talk.link running.task (answer_course b.answer (call_in own.talk.step) own.talk.link running.task now stays).actions
    (answer_silent b.answer (call_in own.talk.step) own.talk.link running.task now stays)

-- ---- the calls

goes_out : (c : StationCall) → GoesOut c (bind_number c) (opnum_of c) (stub_of_call c)
goes_out c = record {
  bind = λ s running link now left runs none at. steps_by s running (event.Dialled link) now left (Dialling (Some c)) (bind_course c (bind_number c) link) runs none at
      (record { actions = refl; state = refl });
  request = λ s running own piece now left limit runs none at bound is. units_send s running own piece now left runs none at
      ∙ ap (λ (l : Option ℕ). requests l (call_in own.talk.step) own.talk.link running.task) is
      ∙ ap (λ (st : StationStep). requests (Some limit) (call_in st) own.talk.link running.task) bound;
}

pub sends_its_calls : SendsItsCalls
sends_its_calls = record {
  first = λ s running link now client left runs none at. steps_by s running (event.Dialled link) now (client ∷ left) (Dialling None) (bind_course (Challenge client) 1 link) runs none at
      (record { actions = refl; state = refl });
  challenge = λ client. goes_out (Challenge client);
  authenticate = λ client server. goes_out (Authenticate client server);
  logon = λ o authenticator. goes_out (Logon o authenticator);
  logoff = λ o authenticator domain user. goes_out (Logoff o authenticator domain user);
  none = λ s running own piece now left runs none at is. units_send s running own piece now left runs none at
      ∙ ap (λ (l : Option ℕ). requests l (call_in own.talk.step) own.talk.link running.task) is;
}
