-- A station sends what is noted of its bytes. It serves `stations_are_noted`, clause `sends`.
use Rattle.std.proofs.Common.{◌≡◌, ℕ, ◌==◌, ◌++◌, Bool, true, false, List, [], ◌∷◌, map, Option, Some, None, Result, Ok, Err, refl, sym, ap, subst, ◌∙◌}
use Rattle.std.proofs.lemmas.Bool.{eq-eqb, eqb-true}
use Rattle.wire_base.proofs.ListLaws.{no_some}
use Rattle.outside.specs.declared.action.Action.{Action}
use Rattle.outside.specs.declared.action.Action.TheVariants as action
use Rattle.outside.specs.declared.action.StepRefused.{StepRefused}
use Rattle.outside.specs.declared.action.StepRefused.TheVariants as refused
use Rattle.outside.specs.declared.event.Event.TheVariants as event
use Rattle.rpc_units.specs.Stream.{cut_stream}
use Rattle.end_loop.specs.Runs.{taken_actions}
use Rattle.end_links.specs.Links.{LinkState}
use Rattle.channel_events.specs.Marks.{Mark}
use Rattle.interactive_station.specs.Calls.{bind_number, opnum_of, stub_of_call}
use Rattle.interactive_station.specs.Machine.{step_by_running, step_of}
use Rattle.interactive_station.specs.Moves.{call_in}
use Rattle.interactive_station.specs.Replies.{Answer, Awaited, Broken, Fails, Replied, Bringing, brings_in, is_heard}
use Rattle.interactive_station.specs.Sends.{GoesOut, sent_at, sent_in}
use Rattle.interactive_station.specs.State.{StationState}
use Rattle.interactive_station.specs.declared.outcome.StationOutcome.{StationOutcome}
use Rattle.interactive_station.specs.declared.plan.StationPlan.{StationPlan}
use Rattle.interactive_station.specs.declared.state.StationCall.{StationCall}
use Rattle.interactive_station.specs.declared.state.StationCall.TheVariants.{Authenticate, Challenge, Logoff, Logon}
use Rattle.interactive_station.specs.declared.state.StationLink.{StationLink}
use Rattle.interactive_station.specs.declared.state.StationLink.TheVariants.{Dialling, Idle, On}
use Rattle.interactive_station.specs.declared.state.StationRunning.{StationRunning}
use Rattle.interactive_station.specs.declared.state.StationStep.{StationStep}
use Rattle.interactive_station.specs.declared.state.StationStep.TheVariants.{Asked, Bound}
use Rattle.interactive_station.specs.declared.state.StationTalk.{StationTalk}
use Rattle.interactive_station.proofs.ExactLaws.{ends_by_replies}
use Rattle.interactive_station.proofs.SendLaws.{sends_its_calls}
use Rattle.interactive_station.proofs.StationLaws.{says_nothing}
use Rattle.step_notes.specs.ChannelNames.{links_sent}
use Rattle.step_notes.specs.Marking.{turn_marks}
use Rattle.step_notes.specs.StationNotes.{answer_notes, bringing_notes, mark_of_call, notes_by, notes_if, notes_standing, reply_notes, reply_passes, request_notes, station_notes}
use Rattle.step_notes.specs.StationSteps.{StationsSendAsNoted, marks_by, units_by}

-- ---- what goes out on the station's own link

goes_out_of : (c : StationCall) → GoesOut c (bind_number c) (opnum_of c) (stub_of_call c)
goes_out_of (Challenge client) = sends_its_calls.challenge client
goes_out_of (Authenticate client server) = sends_its_calls.authenticate client server
goes_out_of (Logon o authenticator) = sends_its_calls.logon o authenticator
goes_out_of (Logoff o authenticator domain user) = sends_its_calls.logoff o authenticator domain user

module _ (s : StationState) (running : StationRunning) (own : LinkState StationTalk) (piece : List ℕ) (now : ℕ) (left : List (List ℕ))
    (runs : s.running ≡ Some running) (none : s.outcome ≡ None) (at : running.standing ≡ On own) where
  sent_by_limit : (limit : Option ℕ) (st : StationStep) → own.talk.step ≡ st → (brings_in (cut_stream (own.rest ++ piece)) own.talk).limit ≡ limit →
      sent_at s (event.Bytes own.talk.link piece) now left ≡ units_by limit own.talk.link running.task (call_in own.talk.step)
  sent_by_limit None st stands is = sends_its_calls.none s running own piece now left runs none at is
  sent_by_limit (Some limit) (Bound c) stands is =
      (goes_out_of c).request s running own piece now left limit runs none at stands is
      ∙ ap (λ (st : StationStep). units_by (Some limit) own.talk.link running.task (call_in st)) (sym stands)
  sent_by_limit (Some limit) (Asked c) stands is = absurd (no_some limit (sym (ap (λ (st : StationStep). (brings_in (cut_stream (own.rest ++ piece)) (record (own.talk) { step = st })).limit) stands) ∙ is))

  units_sent : sent_at s (event.Bytes own.talk.link piece) now left
      ≡ units_by (brings_in (cut_stream (own.rest ++ piece)) own.talk).limit own.talk.link running.task (call_in own.talk.step)
  units_sent = sent_by_limit (brings_in (cut_stream (own.rest ++ piece)) own.talk).limit own.talk.step refl refl

-- ---- the notes of these bytes

module _ (controller : ℕ) (plan : StationPlan) (c : StationCall) where
  silent_reply : (passed : Bool) → turn_marks (reply_notes passed controller plan c) ≡ []
  silent_reply false = refl
  silent_reply true = refl

  silent_answer : (answer : Answer) → turn_marks (answer_notes answer controller plan c) ≡ []
  silent_answer Awaited = refl
  silent_answer (Broken cause) = refl
  silent_answer (Fails cause) = refl
  silent_answer (Replied r) = silent_reply (reply_passes c r plan.secret)

  marks_brought : (limit : Option ℕ) (answer : Answer) →
      turn_marks (request_notes limit controller plan c ++ answer_notes answer controller plan c) ≡ marks_by limit (mark_of_call controller plan c)
  marks_brought None answer = silent_answer answer
  marks_brought (Some limit) answer = ap (λ (marks : List Mark). mark_of_call controller plan c ∷ marks) (silent_answer answer)

noted_on : (controller : ℕ) (s : StationState) (running : StationRunning) (own : LinkState StationTalk) (piece : List ℕ) →
    s.running ≡ Some running → s.outcome ≡ None → running.standing ≡ On own →
    station_notes controller s own.talk.link piece
    ≡ bringing_notes (brings_in (cut_stream (own.rest ++ piece)) own.talk) controller running.task (call_in own.talk.step)
noted_on controller s running own piece runs none at =
    ap (λ (how : Option StationOutcome). notes_by controller how s.running own.talk.link piece) none
    ∙ ap (λ (r : Option StationRunning). notes_by controller None r own.talk.link piece) runs
    ∙ ap (λ (standing : StationLink). notes_standing controller standing own.talk.link piece running.task) at
    ∙ ap (λ (same : Bool). notes_if same controller own piece running.task) (eq-eqb own.talk.link own.talk.link refl)

marks_on : (controller : ℕ) (s : StationState) (running : StationRunning) (own : LinkState StationTalk) (piece : List ℕ) →
    s.running ≡ Some running → s.outcome ≡ None → running.standing ≡ On own →
    turn_marks (station_notes controller s own.talk.link piece)
    ≡ marks_by (brings_in (cut_stream (own.rest ++ piece)) own.talk).limit (mark_of_call controller running.task (call_in own.talk.step))
marks_on controller s running own piece runs none at =
    let b : Bringing = brings_in (cut_stream (own.rest ++ piece)) own.talk in
    ap turn_marks (noted_on controller s running own piece runs none at)
    ∙ marks_brought controller running.task (call_in own.talk.step) b.limit b.answer

-- ---- the links of what goes out

links_of_units : (actions : List Action) → links_sent actions ≡ map (λ (one : ℕ × List ℕ). one.0) (sent_in actions)
links_of_units [] = refl
links_of_units (action.Send link bytes ∷ actions) = ap (λ (links : List ℕ). link ∷ links) (links_of_units actions)
links_of_units (action.Keep bytes ∷ actions) = links_of_units actions
links_of_units (action.Dial peer ∷ actions) = links_of_units actions
links_of_units (action.Close link cause ∷ actions) = links_of_units actions
links_of_units (action.Told link how ∷ actions) = links_of_units actions
links_of_units (action.Judged how ∷ actions) = links_of_units actions

linked_alike : (limit : Option ℕ) (link : ℕ) (plan : StationPlan) (c : StationCall) (mark : Mark) →
    map (λ (one : ℕ × List ℕ). one.0) (units_by limit link plan c) ≡ map (λ (other : Mark). link) (marks_by limit mark)
linked_alike None link plan c mark = refl
linked_alike (Some limit) link plan c mark = refl

own_links : (controller : ℕ) (s : StationState) (running : StationRunning) (own : LinkState StationTalk) (piece : List ℕ) (now : ℕ) (left : List (List ℕ)) (actions : List Action) →
    s.running ≡ Some running → s.outcome ≡ None → running.standing ≡ On own → (step_of s (event.Bytes own.talk.link piece) now left).answer ≡ Ok actions →
    links_sent actions ≡ map (λ (mark : Mark). own.talk.link) (turn_marks (notes_if true controller own piece running.task))
own_links controller s running own piece now left actions runs none at is =
    let b : Bringing = brings_in (cut_stream (own.rest ++ piece)) own.talk in
    let c : StationCall = call_in own.talk.step in
    links_of_units actions
    ∙ ap (λ (units : List (ℕ × List ℕ)). map (λ (one : ℕ × List ℕ). one.0) units)
    (ap (λ (answer : Result (List Action) StepRefused). sent_in (taken_actions answer)) (sym is) ∙ units_sent s running own piece now left runs none at)
    ∙ linked_alike b.limit own.talk.link running.task c (mark_of_call controller running.task c)
    ∙ ap (λ (marks : List Mark). map (λ (mark : Mark). own.talk.link) marks) (sym (marks_brought controller running.task c b.limit b.answer))

module _ (controller : ℕ) (s : StationState) (link : ℕ) (piece : List ℕ) (now : ℕ) (left : List (List ℕ)) (actions : List Action)
    (is : (step_of s (event.Bytes link piece) now left).answer ≡ Ok actions) where
  -- where nothing is done, nothing is sent
  none_sent : (step_of s (event.Bytes link piece) now left).answer ≡ Ok [] → links_sent actions ≡ []
  none_sent quiet = ap (λ (answer : Result (List Action) StepRefused). links_sent (taken_actions answer)) (sym is ∙ quiet)

  module _ (running : StationRunning) (runs : s.running ≡ Some running) (none : s.outcome ≡ None) where
    -- bytes that aren't heard
    unheard : is_heard (event.Bytes link piece) running.standing ≡ false → links_sent actions ≡ []
    unheard other = none_sent (ends_by_replies.other s running (event.Bytes link piece) now left runs none other refl)

    on_own : (own : LinkState StationTalk) (same : Bool) → running.standing ≡ On own → (link == own.talk.link) ≡ same →
        links_sent actions ≡ map (λ (mark : Mark). link) (turn_marks (notes_if same controller own piece running.task))
    on_own own false at other = unheard (ap (λ (standing : StationLink). is_heard (event.Bytes link piece) standing) at ∙ other)
    on_own own true at same =
        let its : link ≡ own.talk.link = eqb-true link own.talk.link same in
        subst (λ (number : ℕ). links_sent actions ≡ map (λ (mark : Mark). number) (turn_marks (notes_if true controller own piece running.task))) (sym its)
        (own_links controller s running own piece now left actions runs none at
        (subst (λ (number : ℕ). (step_of s (event.Bytes number piece) now left).answer ≡ Ok actions) its is))

    by_standing : (standing : StationLink) → running.standing ≡ standing →
        links_sent actions ≡ map (λ (mark : Mark). link) (turn_marks (notes_standing controller standing link piece running.task))
    by_standing Idle at = unheard (ap (λ (standing : StationLink). is_heard (event.Bytes link piece) standing) at)
    by_standing (Dialling c) at = unheard (ap (λ (standing : StationLink). is_heard (event.Bytes link piece) standing) at)
    by_standing (On own) at = on_own own (link == own.talk.link) at refl

  -- a station that stopped takes no step
  unstopped : s.running ≡ None → ⊥
  unstopped stops =
      let never : Err refused.Stopped ≡ Ok actions = sym (ap (λ (running : Option StationRunning). (step_by_running running s (event.Bytes link piece) now left).answer) stops) ∙ is in
      cc

  links_by : (how : Option StationOutcome) (running : Option StationRunning) → s.outcome ≡ how → s.running ≡ running →
      links_sent actions ≡ map (λ (mark : Mark). link) (turn_marks (notes_by controller how running link piece))
  links_by None (Some running) none runs = by_standing running runs none running.standing refl
  links_by (Some how) (Some running) ended runs = none_sent (says_nothing.silent s running how (event.Bytes link piece) now left runs ended).0
  links_by (Some how) None ended stops = absurd (unstopped stops)
  links_by None None none stops = absurd (unstopped stops)

pub stations_send : StationsSendAsNoted
stations_send = record {
  links = λ controller s link piece now left actions is. links_by controller s link piece now left actions is s.outcome s.running refl refl;
  requests = λ controller s running own piece now left runs none at.
      (units_sent s running own piece now left runs none at, marks_on controller s running own piece runs none at);
}
