-- A client goes by one plan through its steps, and what it makes is the answer of that plan.
-- It serves `messages_are_made` and `Proved.made`.
use Rattle.std.proofs.Common.{◌≡◌, ◌==◌, ℕ, Bool, true, false, List, ◌++◌, Option, Some, None, Result, Ok, Err, refl, sym, subst, ◌∙◌}
use Rattle.std.specs.Prelude.{flat_map}
use Rattle.outside.specs.Machine.{Part, left_by, step_by, then_part}
use Rattle.outside.specs.declared.action.Action.{Action}
use Rattle.outside.specs.declared.action.StepRefused.{StepRefused}
use Rattle.outside.specs.declared.event.Event.{Event}
use Rattle.outside.specs.declared.event.Event.TheVariants as event
use Rattle.ntlm_flags.specs.Flags.{has_flag, negotiate_key_exch}
use Rattle.rpc_units.specs.Stream.{Cut, cut_stream}
use Rattle.end_links.specs.Links.{LinkState}
use Rattle.end_links.specs.Serving.{ServedPart, served_cut, ServedUnit, served_units}
use Rattle.end_links.proofs.KeepLaws.{StaysServing, served_stays}
use Rattle.logon_client.specs.Answering.{answer_of, auth3_of, drawn_for}
use Rattle.logon_client.specs.Leaving.{client_leaves}
use Rattle.logon_client.specs.Machine.{actions_after, after_stream, answers, answers_by, answers_part, by_close, by_event, by_piece, client_server, halted, hear, serve_heard, state_after, step_by_outcome, step_by_running, step_of, terms_of, work_of}
use Rattle.logon_client.specs.State.{State as ClientState}
use Rattle.logon_client.specs.declared.answering.Drawn.{Drawn}
use Rattle.logon_client.specs.declared.answering.ServerOffer.{ServerOffer}
use Rattle.logon_client.specs.declared.hearing.Heard.{Heard}
use Rattle.logon_client.specs.declared.hearing.Heard.TheVariants as heard
use Rattle.logon_client.specs.declared.outcome.ClientOutcome.{ClientOutcome}
use Rattle.logon_client.specs.declared.plan.ClientPlan.{ClientPlan}
use Rattle.logon_client.specs.declared.state.After.{After}
use Rattle.logon_client.specs.declared.state.Question.TheVariants.{Who}
use Rattle.logon_client.specs.declared.state.Running.{Running}
use Rattle.logon_client.specs.declared.state.ClientLink.{ClientLink}
use Rattle.logon_client.specs.declared.state.ClientLink.TheVariants.{Idle, Dialling, On}
use Rattle.logon_client.specs.declared.state.Talk.{Talk}
use Rattle.logon_client.specs.declared.state.Terms.{Terms}
use Rattle.logon_client.specs.declared.state.Work.{Work}
use Rattle.step_notes.specs.ClientNotes.{ClientAt, made_note, units_by, units_if, units_of_client, units_standing}
use Rattle.step_notes.specs.MemberNotes.{message_in}
use Rattle.step_notes.specs.Records.{MessageMade}
use Rattle.step_notes.specs.Served.{units_if_taken}
use Rattle.step_notes.proofs.ServedLaws.{served_such}
use Rattle.domain_world.specs.Accepting.KeysMade.{IsMadeFrom}
use Rattle.domain_world.proofs.Messages.ClientOfferLaws.{AreMadeFrom, HasNames, HeardOf, asks_of, heard_of, made_from}
use Rattle.domain_world.proofs.Moves.LeftLaws.{AreEights, eights_rest}
use Rattle.wire_base.proofs.AllLaws.{all_lists}

-- ---- the plan is kept

abbrev pub GoesBy : ClientPlan → ServedPart Work Talk → Type 0
GoesBy plan (Err why) = Unit {0}
GoesBy plan (Ok part) = part.value.0.task ≡ plan

answered_by : (auth3 : Option (List ℕ)) (terms : Terms) (link : ℕ) (work : Work) → (answers_by auth3 terms link work).0.task ≡ work.task
answered_by None terms link work = refl
answered_by (Some auth3) terms link work = asks_of _ terms Who link _

answers_keep : (offer : ServerOffer) (drawn : Drawn) (link : ℕ) (work : Work) → (answers offer drawn link work).0.task ≡ work.task
answers_keep offer drawn link work =
    answered_by (auth3_of work.task.level (answer_of work.task offer drawn).message) (terms_of work.task.level offer (answer_of work.task offer drawn).key) link work

drawn_goes : (drawn : Result (Part Drawn) StepRefused) (plan : ClientPlan) (offer : ServerOffer) (link : ℕ) (work : Work) → work.task ≡ plan →
    GoesBy plan (then_part drawn (answers_part offer link work))
drawn_goes (Err why) plan offer link work is = tt
drawn_goes (Ok part) plan offer link work is = answers_keep offer part.value link work ∙ is

heard_goes : (what : Heard) (plan : ClientPlan) (bytes : List ℕ) (left : List (List ℕ)) → HeardOf plan bytes what → GoesBy plan (serve_heard what left)
heard_goes (heard.Done work talk) plan bytes left known = known
heard_goes (heard.Challenged work link offer) plan bytes left known = drawn_goes (drawn_for (has_flag offer.flags negotiate_key_exch) left) plan offer link work known.0

pub served_goes : (bytes : List ℕ) (plan : ClientPlan) (work : Work) (talk : Talk) (left : List (List ℕ)) → work.task ≡ plan → GoesBy plan (client_server.unit bytes work talk left)
served_goes bytes plan work talk left is =
    heard_goes (hear bytes talk work) plan (message_in bytes) left (subst (λ (p : ClientPlan). HeardOf p (message_in bytes) (hear bytes talk work)) is (heard_of bytes talk work))

-- ---- the units of a stream

goes_stay : (plan : ClientPlan) → StaysServing client_server (GoesBy plan)
goes_stay plan = record {
  spent = λ why. tt;
  unit = λ bytes work talk left is. served_goes bytes plan work talk left is;
  refusal = λ why work talk left is. is;
}

units_made : (w : ClientAt) (plan : ClientPlan) → HasNames plan → (units : List (List ℕ)) (work : Work) (talk : Talk) (left : List (List ℕ)) → work.task ≡ plan → AreEights left →
    AreMadeFrom (flat_map (made_note w) (served_units client_server units work talk left))
units_made w plan names units work talk left is eights =
    all_lists (λ (one : MessageMade). IsMadeFrom one) (made_note w) (served_units client_server units work talk left)
    (served_such client_server (λ part. GoesBy plan part × AreEights (left_by part)) (λ (served : ServedUnit Work Talk). AreMadeFrom (made_note w served))
    (λ bytes work talk left known. (
      made_from (hear bytes talk work) plan (message_in bytes) left w
          (subst (λ (p : ClientPlan). HeardOf p (message_in bytes) (hear bytes talk work)) known.0 (heard_of bytes talk work)) names known.1,
      (
        served_goes bytes plan work talk left known.0,
        eights_rest (left_by (client_server.unit bytes work talk left)) left (client_leaves.unit bytes work talk left) known.1,
      ),
    ))
    units work talk left (is, eights))

-- ---- a step

abbrev pub GoesAfter : ClientPlan → Result (Part After) StepRefused → Type 0
GoesAfter plan (Err why) = Unit {0}
GoesAfter plan (Ok part) = part.value.work.task ≡ plan

stream_goes : (plan : ClientPlan) (rest : List ℕ) (part : ServedPart Work Talk) → GoesBy plan part → GoesAfter plan (then_part part (after_stream rest))
stream_goes plan rest (Err why) goes = tt
stream_goes plan rest (Ok part) goes = goes

piece_goes : (own : Bool) (piece : List ℕ) (link : LinkState Talk) (plan : ClientPlan) (now : ℕ) (left : List (List ℕ)) → GoesAfter plan (by_piece own piece link (work_of plan now) left)
piece_goes false piece link plan now left = refl
piece_goes true piece link plan now left =
    let cut : Cut = cut_stream (link.rest ++ piece) in
    stream_goes plan cut.rest (served_cut client_server cut (work_of plan now) link.talk left)
    (served_stays client_server (GoesBy plan) (goes_stay plan) cut (work_of plan now) link.talk left refl)

close_goes : (own : Bool) (link : LinkState Talk) (plan : ClientPlan) (now : ℕ) (left : List (List ℕ)) → GoesAfter plan (by_close own link (work_of plan now) left)
close_goes false link plan now left = refl
close_goes true link plan now left = refl

event_goes : (what : Event) (how : ClientLink) (plan : ClientPlan) (now : ℕ) (left : List (List ℕ)) → GoesAfter plan (by_event what how (work_of plan now) left)
event_goes (event.Opened link) Idle plan now left = refl
event_goes (event.Opened link) Dialling plan now left = refl
event_goes (event.Opened link) (On own) plan now left = close_goes (link == own.talk.link) own plan now left
event_goes (event.Bytes link piece) Idle plan now left = refl
event_goes (event.Bytes link piece) Dialling plan now left = refl
event_goes (event.Bytes link piece) (On own) plan now left = piece_goes (link == own.talk.link) piece own plan now left
event_goes (event.Closed link) Idle plan now left = refl
event_goes (event.Closed link) Dialling plan now left = refl
event_goes (event.Closed link) (On own) plan now left = close_goes (link == own.talk.link) own plan now left
event_goes (event.Dialled link) Idle plan now left = refl
event_goes (event.Dialled link) Dialling plan now left = refl
event_goes (event.Dialled link) (On own) plan now left = refl
event_goes event.DialFailed Idle plan now left = refl
event_goes event.DialFailed Dialling plan now left = refl
event_goes event.DialFailed (On own) plan now left = refl
event_goes event.Stop Idle plan now left = refl
event_goes event.Stop Dialling plan now left = refl
event_goes event.Stop (On own) plan now left = refl

-- a client that runs goes by a plan of which `P` holds
abbrev pub TaskIn : (ClientPlan → Type 0) → Option Running → Type 0
TaskIn P None = Unit {0}
TaskIn P (Some running) = P running.task

module _ (P : ClientPlan → Type 0) where
  part_task : (part : Result (Part After) StepRefused) (plan : ClientPlan) (c : ClientState) (left : List (List ℕ)) → GoesAfter plan part → P plan →
      TaskIn P (step_by actions_after state_after (halted c) left part).state.running
  part_task (Err why) plan c left goes its = tt
  part_task (Ok part) plan c left goes its = subst P (sym goes) its

  outcome_task : (outcome : Option ClientOutcome) (running : Running) (c : ClientState) (what : Event) (now : ℕ) (left : List (List ℕ)) → TaskIn P c.running → P running.task →
      TaskIn P (step_by_outcome outcome running c what now left).state.running
  outcome_task (Some outcome) running c what now left was its = was
  outcome_task None running c what now left was its =
      part_task (by_event what running.standing (work_of running.task now) left) running.task c left (event_goes what running.standing running.task now left) its

  running_task : (running : Option Running) (c : ClientState) (what : Event) (now : ℕ) (left : List (List ℕ)) → TaskIn P c.running → TaskIn P running →
      TaskIn P (step_by_running running c what now left).state.running
  running_task None c what now left was its = was
  running_task (Some running) c what now left was its = outcome_task c.outcome running c what now left was its

  -- `P` holds of the plan of a client behind a step, where it held before
  pub task_stays : (c : ClientState) (what : Event) (now : ℕ) (left : List (List ℕ)) → TaskIn P c.running → TaskIn P (step_of c what now left).state.running
  task_stays c what now left its = running_task c.running c what now left its its

-- ---- what is written down of a step

if_made : (own : Bool) (w : ClientAt) (link : LinkState Talk) (piece : List ℕ) (plan : ClientPlan) (now : ℕ) (left : List (List ℕ)) → HasNames plan → AreEights left →
    AreMadeFrom (flat_map (made_note w) (units_if own link piece plan now left))
if_made false w link piece plan now left names eights = tt
if_made true w link piece plan now left names eights = units_made w plan names (cut_stream (link.rest ++ piece)).units (work_of plan now) link.talk left refl eights

standing_made : (how : ClientLink) (w : ClientAt) (number : ℕ) (piece : List ℕ) (plan : ClientPlan) (now : ℕ) (left : List (List ℕ)) → HasNames plan → AreEights left →
    AreMadeFrom (flat_map (made_note w) (units_standing how number piece plan now left))
standing_made Idle w number piece plan now left names eights = tt
standing_made Dialling w number piece plan now left names eights = tt
standing_made (On own) w number piece plan now left names eights = if_made (number == own.talk.link) w own piece plan now left names eights

by_made : (outcome : Option ClientOutcome) (running : Option Running) (w : ClientAt) (number : ℕ) (piece : List ℕ) (now : ℕ) (left : List (List ℕ)) → TaskIn HasNames running → AreEights left →
    AreMadeFrom (flat_map (made_note w) (units_by outcome running number piece now left))
by_made (Some outcome) running w number piece now left names eights = tt
by_made None None w number piece now left names eights = tt
by_made None (Some running) w number piece now left names eights = standing_made running.standing w number piece running.task now left names eights

taken_made : (answer : Result (List Action) StepRefused) (w : ClientAt) (units : List (ServedUnit Work Talk)) → AreMadeFrom (flat_map (made_note w) units) →
    AreMadeFrom (flat_map (made_note w) (units_if_taken answer units))
taken_made (Err why) w units made = tt
taken_made (Ok actions) w units made = made

-- what a client makes at a step is made from its plan
pub client_made : (c : ClientState) (w : ClientAt) (number : ℕ) (piece : List ℕ) (now : ℕ) (left : List (List ℕ)) → TaskIn HasNames c.running → AreEights left →
    AreMadeFrom (flat_map (made_note w) (units_of_client c number piece now left))
client_made c w number piece now left names eights =
    taken_made (step_of c (event.Bytes number piece) now left).answer w (units_by c.outcome c.running number piece now left)
    (by_made c.outcome c.running w number piece now left names eights)
