-- Where bytes come on an accepted link of a controller that may hand logons on, what it sends goes on that link, before
-- it closes any, once for each mark. It serves `Proved.replies`.
use Rattle.std.proofs.Common.{◌≡◌, ℕ, suc, Bool, true, false, List, [], ◌∷◌, ◌++◌, length, map, Option, Some, None, Result, Ok, Err, refl, sym, ap, subst, ◌∙◌}
use Rattle.std.proofs.lemmas.Bool.Decides.{Decides-eqb}
use Rattle.std.proofs.lemmas.List.{append-nil, append_assoc}
use Rattle.std.proofs.lemmas.List.Concat.{flat_map-append}
use Rattle.wire_base.specs.Maps.{lookup, same_number, take_out}
use Rattle.outside.specs.Machine.{Part, step_by, then_part}
use Rattle.outside.specs.declared.action.Action.{Action}
use Rattle.outside.specs.declared.action.Action.TheVariants as action
use Rattle.outside.specs.declared.action.Judged.TheVariants as judged
use Rattle.outside.specs.declared.action.StepRefused.{StepRefused}
use Rattle.outside.specs.declared.event.Event.TheVariants as event
use Rattle.account_table.specs.AccountTable.{AccountTable}
use Rattle.account_table.specs.declared.account.Trust.{Trust}
use Rattle.rpc_units.specs.Stream.{Cut, cut_stream}
use Rattle.logon_stubs.specs.Status.{no_logon_servers}
use Rattle.end_links.specs.Links.{LinkState}
use Rattle.end_links.specs.Serving.{ServedPart, served_cut}
use Rattle.end_links.proofs.KeepLaws.{StaysServing, served_stays}
use Rattle.channel_turns.specs.Turning.{is_on}
use Rattle.controller_calls.specs.declared.calls.ControllerCall.TheVariants as call
use Rattle.controller_calls.specs.declared.calls.JudgedCall.{JudgedCall}
use Rattle.controller_calls.specs.declared.line.Line.{Line}
use Rattle.domain_controller.specs.Forwarding.{TrustDesk, answer_trust_call, base_desk, beside, by_trust_heard, trust_desk, trust_server}
use Rattle.domain_controller.specs.Hearing.{hear}
use Rattle.domain_controller.specs.Machine.{Desk, by_heard}
use Rattle.domain_controller.specs.State.{State as ControllerState}
use Rattle.domain_controller.specs.Step.{LinkMap}
use Rattle.domain_controller.specs.TrustActions.{dial_of}
use Rattle.domain_controller.specs.TrustStep.{TrustPart, TrustParts, after_units, event_and_turn, is_idle, link_with, next_turn, parts_of, put_open, serve_bytes, serve_on, trust_halted, trust_part, trust_state_after, trust_step_of, trust_step_on}
use Rattle.domain_controller.specs.declared.hearing.Heard.{Heard}
use Rattle.domain_controller.specs.declared.hearing.Heard.TheVariants as heard
use Rattle.domain_controller.specs.declared.state.Running.{Running}
use Rattle.domain_controller.specs.declared.state.Talk.{Talk}
use Rattle.domain_controller.specs.declared.trusting.Parts.{Parts}
use Rattle.domain_controller.proofs.HandOnLaws.{CallGoes, GoesOn, IsLeft, StaysHere, call_goes}
use Rattle.channel_events.specs.Marks.{Mark}
use Rattle.step_notes.specs.ChannelNames.{sends_in, sent_by}
use Rattle.step_notes.specs.ControllerNotes.{Answered, Where}
use Rattle.step_notes.specs.Marking.{answered_marks, mark_if}
use Rattle.step_notes.specs.ReplySends.{AreSentBy, IsSentBy}
use Rattle.step_notes.specs.Served.{units_if_taken}
use Rattle.step_notes.specs.TrustNotes.{trust_answer_on, trust_answers_of, trust_units_by}
use Rattle.step_notes.specs.TrustReplies.{CarriesTrustReply}
use Rattle.step_notes.proofs.Controllers.NotedLaws.{IsOn, heard_on}
use Rattle.step_notes.proofs.Controllers.TrustNotedLaws.{NextLeaves, next_leaves}
use Rattle.world_moves.specs.declared.links.EndId.{EndId}
use Rattle.world_moves.specs.declared.links.EndId.TheVariants.{Controller}
use Rattle.world_moves.specs.declared.links.Route.{Route}
use Rattle.world_moves.specs.Ends.{actions_by}
use Rattle.world_moves.specs.Links.{acceptor_of, is_accepted_by, same_end}
use Rattle.domain_world.proofs.Moves.FrontLaws.{AllHere, ClosesLast, HasFront, PartHere, all_joined, front_by, heard_here, no_front}
use Rattle.domain_world.proofs.Moves.NewUnitLaws.{IsFront}

-- ---- the units of a stream

abbrev TrustPartHere : ℕ → ServedPart TrustDesk Talk → Type 0
TrustPartHere link (Err why) = Unit {0}
TrustPartHere link (Ok part) = ClosesLast link part.value.0.work.work.actions part.value.1

beside_here : (link : ℕ) (d : TrustDesk) (part : ServedPart Desk Talk) → PartHere link part → TrustPartHere link (beside d.work.queues part)
beside_here link d (Err why) here = tt
beside_here link d (Ok part) here = here

call_here : (link : ℕ) (c : JudgedCall) (name : List ℕ) (now : ℕ) (line : Line) (talk : Talk) (d after : TrustDesk) (left : List (List ℕ)) → line.link ≡ link → AllHere link d.work.work.actions →
    CallGoes c name now line d after → AllHere link after.work.work.actions
call_here link c name now line talk d after left on here (GoesOn is so) =
    subst (λ (actions : List Action). AllHere link actions) (sym so.actions) (all_joined link d.work.work.actions (action.Judged judged.Forwarded ∷ []) here (tt, tt))
call_here link c name now line talk d after left on here (IsLeft goes so) =
    subst (λ (actions : List Action). AllHere link actions) (sym so.actions)
    (all_joined link d.work.work.actions (action.Judged (judged.Passed no_logon_servers) ∷ action.Send line.link _ ∷ []) here (tt, (on, tt)))
call_here link c name now line talk d after left on here (StaysHere not is) =
    subst (λ (other : TrustDesk). AllHere link other.work.work.actions) (sym is) (heard_here (heard.Asked line (call.Judged c) talk) link name now (base_desk d) left on here)

trust_here : (what : Heard) (link : ℕ) (name : List ℕ) (now : ℕ) (d : TrustDesk) (left : List (List ℕ)) → IsOn link what → AllHere link d.work.work.actions →
    TrustPartHere link (by_trust_heard what link name now d left)
trust_here (heard.Close cause) link name now d left on here =
    beside_here link d (by_heard (heard.Close cause) link name now (base_desk d) left) (heard_here (heard.Close cause) link name now (base_desk d) left on here)
trust_here (heard.Answer bytes talk) link name now d left on here =
    beside_here link d (by_heard (heard.Answer bytes talk) link name now (base_desk d) left) (heard_here (heard.Answer bytes talk) link name now (base_desk d) left on here)
trust_here (heard.Waits talk) link name now d left on here =
    beside_here link d (by_heard (heard.Waits talk) link name now (base_desk d) left) (heard_here (heard.Waits talk) link name now (base_desk d) left on here)
trust_here (heard.Asked line (call.Challenge c) talk) link name now d left on here =
    beside_here link d (by_heard (heard.Asked line (call.Challenge c) talk) link name now (base_desk d) left)
    (heard_here (heard.Asked line (call.Challenge c) talk) link name now (base_desk d) left on here)
trust_here (heard.Asked line (call.Authenticate c) talk) link name now d left on here =
    beside_here link d (by_heard (heard.Asked line (call.Authenticate c) talk) link name now (base_desk d) left)
    (heard_here (heard.Asked line (call.Authenticate c) talk) link name now (base_desk d) left on here)
trust_here (heard.Asked line (call.Judged c) talk) link name now d left on here =
    call_here link c name now line talk d (answer_trust_call c name now line d) left on here (call_goes c name now line d)

here_stays : (link : ℕ) (name : List ℕ) (now : ℕ) → StaysServing (trust_server name now link) (TrustPartHere link)
here_stays link name now = record {
  spent = λ why. tt;
  unit = λ bytes d talk left here. trust_here (hear link bytes talk) link name now d left (heard_on link bytes talk) here;
  refusal = λ why d talk left here. (d.work.work.actions, _, refl, here);
}

-- ---- a step

dial_sends : (dial : Option (List ℕ)) → sends_in (dial_of dial) ≡ []
dial_sends None = refl
dial_sends (Some peer) = refl

-- `HasFront` stays where a dial is behind the actions
front_more : (link : ℕ) (actions : List Action) (dial : Option (List ℕ)) → HasFront link actions → HasFront link (actions ++ dial_of dial)
front_more link actions dial has = record {
  front = has.front;
  rest = has.rest ++ dial_of dial;
  is = ap (λ (all : List Action). all ++ dial_of dial) has.is ∙ append_assoc has.front has.rest (dial_of dial);
  here = has.here;
  none = flat_map-append sent_by has.rest (dial_of dial) ∙ ap (λ (sent : List (List ℕ)). sent ++ sends_in (dial_of dial)) has.none ∙ dial_sends dial;
}

abbrev PartFront : ℕ → TrustPart → Type 0
PartFront link (Err why) = Unit {0}
PartFront link (Ok part) = HasFront link part.value.parts.work.work.actions

put_same : (open_link : Option (LinkState Talk)) (number : ℕ) (parts : Parts) → (put_open open_link number parts).work.work ≡ parts.work.work
put_same None number parts = refl
put_same (Some link) number parts = refl

units_front : (link : ℕ) (part : ServedPart TrustDesk Talk) (rest : List ℕ) (others : LinkMap) (parts : Parts) → TrustPartHere link part → PartFront link (after_units part rest link others parts)
units_front link (Err why) rest others parts here = tt
units_front link (Ok part) rest others parts here =
    subst (λ work. HasFront link work.actions) (sym (put_same (link_with rest part.value.1) link (record parts { work = part.value.0.work; links = others })))
    (front_by link part.value.0.work.work.actions part.value.1 here)

serve_front : (found : Option (LinkState Talk)) (link : ℕ) (piece name : List ℕ) (now : ℕ) (others : LinkMap) (table : AccountTable) (parts : Parts) (left : List (List ℕ)) → parts.work.work.actions ≡ [] →
    PartFront link (serve_on found link piece name now others table parts left)
serve_front None link piece name now others table parts left none = subst (λ (actions : List Action). HasFront link actions) (sym none) (no_front link)
serve_front (Some there) link piece name now others table parts left none =
    let cut : Cut = cut_stream (there.rest ++ piece) in
    units_front link (served_cut (trust_server name now link) cut (trust_desk table parts.work) there.talk left) cut.rest others parts
    (served_stays (trust_server name now link) (TrustPartHere link) (here_stays link name now) cut (trust_desk table parts.work) there.talk left
    (subst (λ (actions : List Action). AllHere link actions) (sym none) tt))

bytes_front : (b : Bool) (link : ℕ) (piece name : List ℕ) (now : ℕ) (table : AccountTable) (parts : Parts) (left : List (List ℕ)) → b ≡ false → parts.work.work.actions ≡ [] →
    PartFront link (serve_bytes b link piece name now table parts left)
bytes_front true link piece name now table parts left off none = absurd (let x = off in cc)
bytes_front false link piece name now table parts left off none =
    serve_front (lookup same_number link parts.links) link piece name now (take_out same_number link parts.links) table parts left none

with_table : (link : ℕ) (part : Result (Part Parts) StepRefused) (table : AccountTable) (before : Parts) → HasFront link before.work.work.actions → NextLeaves before part →
    PartFront link (then_part part (λ later last. trust_part table later last))
with_table link (Err why) table before has leaves = tt
with_table link (Ok part) table before has leaves =
    subst (λ (actions : List Action). HasFront link actions) (sym leaves.actions) (front_more link before.work.work.actions leaves.dial has)

turn_behind : (link : ℕ) (part : TrustPart) (trusts : List Trust) (now : ℕ) → PartFront link part →
    PartFront link (then_part part (λ after rest. then_part (next_turn trusts now after.parts rest) (λ later last. trust_part after.table later last)))
turn_behind link (Err why) trusts now has = tt
turn_behind link (Ok part) trusts now has =
    with_table link (next_turn trusts now part.value.parts part.left) part.value.table part.value.parts has
    (next_leaves (is_idle part.value.parts.dialling) trusts now part.value.parts part.left)

taken_front : (link : ℕ) (part : TrustPart) (c : ControllerState) (left : List (List ℕ)) → PartFront link part →
    HasFront link (actions_by (step_by (λ (after : TrustParts). after.parts.work.work.actions) (λ after. trust_state_after c after) (trust_halted c) left part).answer)
taken_front link (Err why) c left has = no_front link
taken_front link (Ok part) c left has = has

on_front : (found : Option Running) (c : ControllerState) (link : ℕ) (piece : List ℕ) (now : ℕ) (left : List (List ℕ)) → is_on link c.trusting.dialling ≡ false →
    HasFront link (actions_by (trust_step_on found c (event.Bytes link piece) now left).answer)
on_front None c link piece now left off = no_front link
on_front (Some running) c link piece now left off =
    let parts : Parts = parts_of running c.trusting in
    taken_front link (event_and_turn c.table.trusts (event.Bytes link piece) c.name now c.table parts left) c left
    (turn_behind link (serve_bytes (is_on link parts.dialling) link piece c.name now c.table parts left) c.table.trusts now
    (bytes_front (is_on link parts.dialling) link piece c.name now c.table parts left off refl))

-- ---- once for each mark

one_length : (sends : Bool) (one : Answered) (sent : List (List ℕ)) (more : List Mark) (Later : List (List ℕ) → Type 0) → ((rest : List (List ℕ)) → Later rest → length rest ≡ length more) →
    IsSentBy CarriesTrustReply sends one sent Later → length sent ≡ length (mark_if sends one.mark ++ more)
one_length false one sent more Later so is = so sent is
one_length true one [] more Later so is = absurd is
one_length true one (bytes ∷ sent) more Later so is = ap suc (so sent is.1)

sent_length : (answers : List Answered) (sent : List (List ℕ)) → AreSentBy CarriesTrustReply answers sent → length sent ≡ length (answered_marks answers)
sent_length [] [] is = refl
sent_length [] (bytes ∷ sent) is = absurd is
sent_length (one ∷ answers) sent is =
    one_length one.sends one sent (answered_marks answers) (λ (rest : List (List ℕ)). AreSentBy CarriesTrustReply answers rest) (λ rest each. sent_length answers rest each) is

module _ (c : ControllerState) (w : Where) (link : ℕ) (piece : List ℕ) (now : ℕ) (left : List (List ℕ)) (off : is_on link c.trusting.dialling ≡ false) where
  abbrev answer : Result (List Action) StepRefused
  answer = (trust_step_of c (event.Bytes link piece) now left).answer

  abbrev marks : List Mark
  marks = answered_marks (trust_answers_of link w c piece now left)

  sends_by : (given : Result (List Action) StepRefused) → answer ≡ given → ((actions : List Action) → answer ≡ Ok actions → AreSentBy CarriesTrustReply (trust_answers_of link w c piece now left) (sends_in actions)) →
      length (sends_in (actions_by given)) ≡ length marks
  sends_by (Err why) is each =
      sym (ap (λ (a : Result (List Action) StepRefused). length (answered_marks (map (trust_answer_on link w) (units_if_taken a (trust_units_by c.running link piece c now left))))) is)
  sends_by (Ok actions) is each = sent_length (trust_answers_of link w c piece now left) (sends_in actions) (each actions is)

  pub trust_front : ((actions : List Action) → answer ≡ Ok actions → AreSentBy CarriesTrustReply (trust_answers_of link w c piece now left) (sends_in actions)) →
      IsFront link marks (actions_by answer)
  trust_front each =
      let has : HasFront link (actions_by answer) = on_front c.running c link piece now left off in
      record {
        front = has.front;
        rest = has.rest;
        is = has.is;
        here = has.here;
        size = ap length (sym (append-nil (sends_in has.front)) ∙ ap (λ (more : List (List ℕ)). sends_in has.front ++ more) (sym has.none)
            ∙ sym (flat_map-append sent_by has.front has.rest) ∙ ap sends_in (sym has.is))
            ∙ sends_by answer refl each;
      }

-- a link whose acceptor is the controller is one that the controller accepted
pub accepted_way : (route : Route) (at : ℕ) → acceptor_of route ≡ Controller at → is_accepted_by (Controller at) route ≡ true
accepted_way route at is = ap (λ (end : EndId). same_end end (Controller at)) is ∙ (Decides-eqb at at).1 refl
