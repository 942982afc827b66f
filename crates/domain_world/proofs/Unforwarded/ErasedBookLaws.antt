-- What is written down of a run in which no call comes for a trusted domain is what is written down where nobody can be
-- asked. It serves `claims_hold_of_runs`.
use Rattle.std.specs.Prelude.{◌&&◌, filter, is_some, not}
use Rattle.std.proofs.Common.{◌≡◌, ◌≤◌, ◌++◌, ℕ, Bool, true, false, cond, List, [], ◌∷◌, drop, length, map, option_map, Option, Some, None, slice_get, refl, sym, ap, ap₂, ◌∙◌}
use Rattle.wire_base.specs.Maps.{lookup, same_number}
use Rattle.outside.specs.declared.action.Action.{Action}
use Rattle.outside.specs.declared.action.Action.TheVariants as action
use Rattle.outside.specs.declared.event.Event.TheVariants as event
use Rattle.end_links.specs.Links.{LinkState}
use Rattle.end_links.specs.Serving.{ServedUnit}
use Rattle.domain_controller.specs.Machine.{Desk}
use Rattle.domain_controller.specs.State.{State as ControllerState}
use Rattle.domain_controller.specs.Step.{step_of}
use Rattle.domain_controller.specs.TrustHere.{NoneIsAsked, told_trusts}
use Rattle.domain_controller.specs.TrustStep.{trust_step_of}
use Rattle.domain_controller.specs.Trusting.{ForwardedCalls, no_trusting, same_place}
use Rattle.domain_controller.specs.declared.state.Running.{Running as ControllerRunning}
use Rattle.domain_controller.specs.declared.state.Talk.{Talk}
use Rattle.logon_client.specs.State.{State as ClientState}
use Rattle.member_server.specs.State.{State as MemberState}
use Rattle.member_server.specs.declared.plan.MemberPlan.{MemberPlan}
use Rattle.domain_controller.proofs.TrustAloneLaws.{steps_alone}
use Rattle.channel_events.specs.Marks.{Mark}
use Rattle.step_notes.specs.ControllerNotes.{Answered, answer_on, units_at, units_by, units_of_controller}
use Rattle.step_notes.specs.Marking.{turn_marks}
use Rattle.step_notes.specs.MemberNotes.{turn_by, turn_if, turn_in, turn_note, turn_units}
use Rattle.step_notes.specs.Records.{Book, ChannelTurn, Forward, InUnit, OfMember, OfTrust, Outside, RequesterId, blank, unit_in}
use Rattle.step_notes.specs.Served.{units_if_taken}
use Rattle.step_notes.proofs.Controllers.TrustNoteLaws.{notes_alike}
use Rattle.world_moves.specs.declared.bag.BagUnit.{BagUnit}
use Rattle.world_moves.specs.declared.links.EndId.{EndId}
use Rattle.world_moves.specs.declared.links.EndId.TheVariants.{Controller, Member, Client, Station}
use Rattle.world_moves.specs.declared.moves.Move.{Move}
use Rattle.world_moves.specs.declared.moves.Move.TheVariants as move
use Rattle.world_moves.specs.declared.plan.Plan.{Plan}
use Rattle.world_moves.specs.declared.state.State.{State}
use Rattle.world_moves.specs.Acting.{Acted, Given, hear_and_act_if, piece_comes, pieces_come}
use Rattle.world_moves.specs.Bag.{first_waiting, pieces_of}
use Rattle.world_moves.specs.Choosing.{chosen_in, chosen_place}
use Rattle.world_moves.specs.Ends.{EndStates}
use Rattle.world_moves.specs.Links.{handed_links, hearer_of, links_of}
use Rattle.world_moves.specs.Moving.{act, come_by, come_on_own, deliver_by, deliver_on, deliver_unit, hand_on, onward_by, settle}
use Rattle.world_moves.specs.Unforwarded.{IsUnforwarded, alone_plan, erased, erased_controller, erased_ends, erased_world}
use Rattle.world_moves.specs.World.{World, actions_of_run, first_world, happens, run, run_of}
use Rattle.world_moves.specs.Plain.{IsPlainPlan}
use Rattle.domain_world.specs.Past.{answers_of, asker_of, at_controller, beside_mark, book, controller_asked, controller_number, controller_of, controller_of_plan, is_sent_on, mark_or, note, note_answers, note_at, note_chosen, note_client, note_coming, note_controller, note_deliver, note_given, note_hand, note_member, note_messages, note_on, note_onward, note_own, note_piece, note_pieces, note_turns, note_unit, numbers_on, past, requester_at, running_in, sent_at, still_waits, trust_asker, turn_for_trust, turns_by, turns_in, waits_at, with_marks, with_taken, Delivery}
use Rattle.channel_client.specs.Effects.{stands_in, step_in}
use Rattle.channel_client.specs.State.{Requester}
use Rattle.channel_client.specs.declared.state.Pending.{Pending}
use Rattle.domain_world.proofs.Moves.FreshTrustLaws.{IsUnused, asker_found}
use Rattle.domain_world.proofs.Moves.NoTrustLaws.{NoneAsks, nobody_on}
use Rattle.wire_base.proofs.ListLaws.{no_some}
use Rattle.domain_world.proofs.Frames.AloneNoteLaws.{answers_alike, none_asked, quiet_noted}
use Rattle.domain_world.proofs.Unforwarded.ErasedLaws.{IsFine, IsSame, IsStill, as_many, controller_same, first_erased, first_still, fine_first, get_mapped, happens_same, move_same, part_erased_answer, peer_same, piece_fine, piece_same, told_later}

-- ---- at a controller

units_found : (found : Option (LinkState Talk)) (number : ℕ) (piece : List ℕ) (c : ControllerState) (running : ControllerRunning) (now : ℕ) (left : List (List ℕ)) →
    units_at found number piece (erased_controller c) running now left ≡ units_at found number piece c running now left
units_found None number piece c running now left = refl
units_found (Some link) number piece c running now left = refl

units_same : (running : Option ControllerRunning) (number : ℕ) (piece : List ℕ) (c : ControllerState) (now : ℕ) (left : List (List ℕ)) →
    units_by running number piece (erased_controller c) now left ≡ units_by running number piece c now left
units_same None number piece c now left = refl
units_same (Some running) number piece c now left = units_found (lookup same_number number running.links) number piece c running now left

served_same : (c : ControllerState) (number : ℕ) (piece : List ℕ) (now : ℕ) (left : List (List ℕ)) →
    units_of_controller (erased_controller c) number piece now left ≡ units_of_controller c number piece now left
served_same c number piece now left =
    ap₂ units_if_taken (part_erased_answer c (event.Bytes number piece) now left) (units_same c.running number piece c now left)

-- the step is that of one that asks nobody
abbrev IsStepAlone : ControllerState → Delivery → List ℕ → State → Type 0
IsStepAlone c w piece s =
    trust_step_of c (event.Bytes w.link piece) s.moment s.chances.left ≡ step_of c (event.Bytes w.link piece) s.moment s.chances.left

answers_same : (at : ℕ) (c : ControllerState) (w : Delivery) (piece : List ℕ) (s : State) → NoneIsAsked c.trusting → IsStepAlone c w piece s →
    answers_of at (erased_controller c) w piece (erased s) ≡ answers_of at c w piece s
answers_same at c w piece s none same =
    answers_alike at (erased_controller c) w piece (erased s) refl
    ∙ ap (λ (units : List (ServedUnit Desk Talk)). map (answer_on w.link (at_controller at c w s)) units) (served_same c w.link piece s.moment s.chances.left)
    ∙ sym (notes_alike c w.link (at_controller at c w s) piece s.moment s.chances.left none same)

controller_noted : (found : Option ControllerState) (at : ℕ) (w : Delivery) (piece : List ℕ) (s after : State) (b : Book) →
    ((c : ControllerState) → found ≡ Some c → NoneIsAsked c.trusting × IsStepAlone c w piece s) →
    note_controller (option_map erased_controller found) at w piece (erased s) (erased after) b ≡ note_controller found at w piece s after b
controller_noted None at w piece s after b alone = refl
controller_noted (Some c) at w piece s after b alone =
    let own = alone c refl in
    quiet_noted at (erased_controller c) w piece (erased s) (erased after) b (none_asked no_trusting refl)
    (steps_alone.step (erased_controller c) (event.Bytes w.link piece) s.moment s.chances.left refl)
    ∙ ap (λ (answers : List Answered). note_answers answers w s after b) (answers_same at c w piece s own.0 own.1)
    ∙ sym (quiet_noted at c w piece s after b own.0 own.1)

-- ---- at a member

plan_same : (plan : Option MemberPlan) (ends : EndStates) → controller_of_plan plan (erased_ends ends) ≡ controller_of_plan plan ends
plan_same None ends = as_many ends
plan_same (Some plan) ends = ap₂ controller_number (peer_same plan.controller ends) (as_many ends)

pub asked_same : (member : ℕ) (s : State) → controller_of member (erased s) ≡ controller_of member s
asked_same member s = plan_same (slice_get s.member_plans member) s.ends

member_noted : (found : Option MemberState) (at : ℕ) (w : Delivery) (piece : List ℕ) (s after : State) (b : Book) →
    note_member found at w piece (erased s) (erased after) b ≡ note_member found at w piece s after b
member_noted None at w piece s after b = refl
member_noted (Some m) at w piece s after b =
    let units = turn_units m w.link piece s.moment s.chances.left in
    ap (λ (controller : ℕ).
    with_marks w.at w.link false (drop (length s.bag) after.bag) (turn_marks (map (turn_note controller) units))
    (with_taken (OfMember at) w.at (unit_in w.source) (map (turn_note controller) units)
    (note_turns controller units (unit_in w.source) (numbers_on w.link false s.bag after.bag) (note_messages at m w piece s b))))
    (asked_same at s)

-- ---- at a client, and at any end

client_noted : (found : Option ClientState) (at : ℕ) (w : Delivery) (piece : List ℕ) (s : State) (b : Book) → note_client found at w piece (erased s) b ≡ note_client found at w piece s b
client_noted None at w piece s b = refl
client_noted (Some c) at w piece s b = refl

end_noted : (end : Option EndId) (w : Delivery) (piece : List ℕ) (s after : State) (b : Book) → IsStill s → IsFine (hear_and_act_if end (event.Bytes w.link piece) s) →
    note_at end w piece (erased s) (erased after) b ≡ note_at end w piece s after b
end_noted None w piece s after b still fine = refl
end_noted (Some (Controller at)) w piece s after b still fine =
    ap (λ (found : Option ControllerState). note_controller found at w piece (erased s) (erased after) b) (get_mapped erased_controller s.ends.controllers at)
    ∙ controller_noted (slice_get s.ends.controllers at) at w piece s after b (λ c is. ((still.1 at c is).none, controller_same at (event.Bytes w.link piece) s c is still fine))
end_noted (Some (Member at)) w piece s after b still fine = member_noted (slice_get s.ends.members at) at w piece s after b
end_noted (Some (Client at)) w piece s after b still fine = client_noted (slice_get s.ends.clients at) at w piece s b
end_noted (Some (Station at)) w piece s after b still fine = refl

-- ---- bytes come

pieces_noted : (w : Delivery) (pieces : List (List ℕ)) (s : State) (b : Book) → IsStill s → IsFine (pieces_come w.back w.link pieces s) → note_pieces w pieces (erased s) b ≡ note_pieces w pieces s b
pieces_noted w [] s b still fine = refl
pieces_noted w (piece ∷ pieces) s b still fine =
    let fines = piece_fine w.back w.link piece pieces s fine in
    let one : Acted = piece_comes w.back w.link piece s in
    let same : IsSame one (piece_comes w.back w.link piece (erased s)) = piece_same w.back w.link piece s still fines.0 in
    ap (λ (a : Acted). note_pieces w pieces a.state (note_piece w piece (erased s) a.state b)) same.is
    ∙ ap (λ (noted : Book). note_pieces w pieces (erased one.state) noted) (end_noted (hearer_of w.back (lookup same_number w.link s.open_links)) w piece s one.state b still fines.0)
    ∙ pieces_noted w pieces one.state (note_piece w piece s one.state b) same.still fines.1

unit_noted : (unit : Option BagUnit) (number link at : ℕ) (s : State) (b : Book) → IsStill s → IsFine (come_by unit link s) → note_unit unit number link at (erased s) b ≡ note_unit unit number link at s b
unit_noted None number link at s b still fine = refl
unit_noted (Some unit) number link at s b still fine =
    pieces_noted (record { at = at; source = InUnit number; link = link; back = unit.back }) (pieces_of unit.bytes) s b still fine

own_noted : (unit : Option BagUnit) (number at : ℕ) (s : State) (b : Book) → IsStill s → IsFine (come_on_own unit number s) → note_own unit number at (erased s) b ≡ note_own unit number at s b
own_noted None number at s b still fine = refl
own_noted (Some unit) number at s b still fine = unit_noted (slice_get (settle number s).bag number) number unit.link at (settle number s) b still fine

onward_noted : (number : Option ℕ) (at : ℕ) (s : State) (b : Book) → IsStill s → IsFine (onward_by number s) → note_onward number at (erased s) b ≡ note_onward number at s b
onward_noted None at s b still fine = refl
onward_noted (Some number) at s b still fine = own_noted (slice_get s.bag number) number at s b still fine

on_noted : (link : Option ℕ) (number at : ℕ) (s : State) (b : Book) → IsStill s → IsFine (deliver_on link number s) → note_on link number at (erased s) b ≡ note_on link number at s b
on_noted None number at s b still fine = refl
on_noted (Some link) number at s b still fine = unit_noted (slice_get (settle number s).bag number) number link at (settle number s) b still fine

chosen_noted : (unit : Option BagUnit) (number link at : ℕ) (s : State) (b : Book) → IsStill s → IsFine (deliver_unit unit number link s) →
    note_chosen unit number link at (erased s) b ≡ note_chosen unit number link at s b
chosen_noted None number link at s b still fine = refl
chosen_noted (Some unit) number link at s b still fine = on_noted (chosen_in link (links_of unit.kind s.links)) number at s b still fine

deliver_noted : (number : Option ℕ) (link at : ℕ) (s : State) (b : Book) → IsStill s → IsFine (deliver_by number link s) → note_deliver number link at (erased s) b ≡ note_deliver number link at s b
deliver_noted None link at s b still fine = refl
deliver_noted (Some number) link at s b still fine = chosen_noted (slice_get s.bag number) number link at s b still fine

hand_noted : (link : Option ℕ) (back : Bool) (bytes : List ℕ) (at : ℕ) (s : State) (b : Book) → IsStill s → IsFine (hand_on link back bytes s) →
    note_hand link back bytes at (erased s) b ≡ note_hand link back bytes at s b
hand_noted None back bytes at s b still fine = refl
hand_noted (Some link) back bytes at s b still fine =
    let w : Delivery = record { at = at; source = Outside; link = link; back = back } in
    let one : Acted = piece_comes back link bytes s in
    let same : IsSame one (piece_comes back link bytes (erased s)) = piece_same back link bytes s still fine in
    ap (λ (a : Acted). note_piece w bytes (erased s) a.state b) same.is ∙ end_noted (hearer_of back (lookup same_number link s.open_links)) w bytes s one.state b still fine

coming_noted : (what : Move) (at : ℕ) (s : State) (b : Book) → IsStill s → IsFine (act s what) → note_coming what at (erased s) b ≡ note_coming what at s b
coming_noted (move.Start number) at s b still fine = refl
coming_noted (move.Stranger number) at s b still fine = refl
coming_noted move.Connect at s b still fine = refl
coming_noted move.FailDial at s b still fine = refl
coming_noted move.Onward at s b still fine = onward_noted (first_waiting s.bag) at s b still fine
coming_noted move.Lose at s b still fine = refl
coming_noted (move.Deliver unit link) at s b still fine = deliver_noted (chosen_place unit (length s.bag)) link at s b still fine
coming_noted (move.Hand link back bytes) at s b still fine = hand_noted (chosen_in link (handed_links s.links)) back bytes at s b still fine
coming_noted (move.Shut number) at s b still fine = refl
coming_noted (move.Restart number) at s b still fine = refl
coming_noted (move.Change member secret) at s b still fine = refl
coming_noted (move.Tick more) at s b still fine = refl

-- ---- what ends gave

-- no turn is out at one that isn't there, or at which nobody asked
none_if : (controller : ℕ) (who : RequesterId) (found : Option Requester) → ((s : Requester) → found ≡ Some s → s.turn ≡ None) → turn_if controller who found ≡ []
none_if controller who None none = refl
none_if controller who (Some s) none =
    ap (λ (turn : Option Pending). turn_by (step_in turn) (stands_in controller s.caller.computer s.standing) who) (none s refl)

-- so nothing is written down where a controller dials
none_for : (at : ℕ) (found : Option ControllerState) (s : State) → ((trust : ℕ) (one : Requester) → requester_at s (OfTrust at trust) ≡ Some one → one.turn ≡ None) → turn_for_trust at found s ≡ []
none_for at None s none = refl
none_for at (Some c) s none = none_if (controller_asked (asker_of at c) s) (asker_of at c) (requester_at s (asker_of at c)) (none c.trusting.turn_of)

nobody_found : (found : Option ControllerState) (trust : ℕ) → trust_asker (option_map erased_controller found) trust ≡ None
nobody_found None trust = refl
nobody_found (Some c) trust = nobody_on c.running trust

nobody_asks : (s : State) → NoneAsks (erased s)
nobody_asks s at trust =
    ap (λ (found : Option ControllerState). trust_asker found trust) (get_mapped erased_controller s.ends.controllers at) ∙ nobody_found (slice_get s.ends.controllers at) trust

-- each that asks for a trust is as it was made
pub asker_unused : (s : State) → IsStill s → (at trust : ℕ) (one : Requester) → requester_at s (OfTrust at trust) ≡ Some one → IsUnused one
asker_unused s still at trust one is = asker_found (slice_get s.ends.controllers at) trust one (λ c there. (still.1 at c there).unused) is

trust_turn_same : (at : ℕ) (after : State) → IsStill after → turn_for_trust at (slice_get (erased after).ends.controllers at) (erased after) ≡ turn_for_trust at (slice_get after.ends.controllers at) after
trust_turn_same at after still =
    none_for at (slice_get (erased after).ends.controllers at) (erased after) (λ trust one is. absurd (no_some one (sym (nobody_asks after at trust) ∙ is)))
    ∙ sym (none_for at (slice_get after.ends.controllers at) after (λ trust one is. ap (λ (s : Requester). s.turn) (sym (asker_unused after still at trust one is).is)))

turn_same : (end : EndId) (what : Action) (after : State) → IsStill after → turns_by end what (erased after) ≡ turns_by end what after
turn_same (Controller at) (action.Dial peer) after still = trust_turn_same at after still
turn_same (Controller at) (action.Keep bytes) after still = refl
turn_same (Controller at) (action.Send link bytes) after still = refl
turn_same (Controller at) (action.Close link cause) after still = refl
turn_same (Controller at) (action.Told link outcome) after still = refl
turn_same (Controller at) (action.Judged how) after still = refl
turn_same (Member at) (action.Dial peer) after still =
    ap (λ (controller : ℕ). turn_in controller at (running_in (slice_get after.ends.members at))) (asked_same at after)
turn_same (Member at) (action.Keep bytes) after still = refl
turn_same (Member at) (action.Send link bytes) after still = refl
turn_same (Member at) (action.Close link cause) after still = refl
turn_same (Member at) (action.Told link outcome) after still = refl
turn_same (Member at) (action.Judged how) after still = refl
turn_same (Client at) what after still = refl
turn_same (Station at) what after still = refl

turns_same : (given : Given) (after : State) → IsStill after → turns_in given (erased after) ≡ turns_in given after
turns_same [] after still = refl
turns_same (one ∷ given) after still = ap₂ (λ (turns more : List ChannelTurn). turns ++ more) (turn_same one.0 one.1 after still) (turns_same given after still)

-- no call waits that was handed on
waits_found : (found : Option ControllerState) (one : Forward) → ((c : ControllerState) → found ≡ Some c → NoneIsAsked c.trusting) →
    waits_at (option_map erased_controller found) one ≡ waits_at found one
waits_found None one still = refl
waits_found (Some c) one still = sym (ap (λ (calls : ForwardedCalls). is_some (lookup same_place (one.trust, one.place) calls)) (still c refl).none)

module _ (after : State) (still : IsStill after) where
  waits_same : (one : Forward) → still_waits (erased after) one ≡ still_waits after one
  waits_same one =
      let controllers : List ControllerState = after.ends.controllers in
      ap (λ (found : Option ControllerState). waits_at found one) (get_mapped erased_controller controllers one.judging.controller)
      ∙ waits_found (slice_get controllers one.judging.controller) one (λ c is. (still.1 one.judging.controller c is).none)

  beside_same : (forwards : List Forward) (unit : BagUnit) → beside_mark forwards (erased after) unit ≡ beside_mark forwards after unit
  beside_same [] unit = refl
  beside_same (one ∷ forwards) unit =
      ap₂ (λ (waits : Bool) (later : Mark). mark_or (is_sent_on one.link true unit && not waits) one later) (waits_same one) (beside_same forwards unit)

  marks_same : (forwards : List Forward) (units : List BagUnit) →
      map (λ (unit : BagUnit). beside_mark forwards (erased after) unit) units ≡ map (λ (unit : BagUnit). beside_mark forwards after unit) units
  marks_same forwards [] = refl
  marks_same forwards (unit ∷ units) = ap₂ (λ (mark : Mark) (marks : List Mark). mark ∷ marks) (beside_same forwards unit) (marks_same forwards units)

  waiting_same : (forwards : List Forward) → filter (still_waits (erased after)) forwards ≡ filter (still_waits after) forwards
  waiting_same [] = refl
  waiting_same (one ∷ forwards) =
      ap₂ (λ (waits : Bool) (rest : List Forward). cond waits (one ∷ rest) rest) (waits_same one) (waiting_same forwards)

  given_noted : (at : ℕ) (given : Given) (b : Book) → note_given at given (erased after) b ≡ note_given at given after b
  given_noted at given b =
      ap (λ (turns : List ChannelTurn). record (note_given at given (erased after) b) { turns = b.turns ++ turns }) (turns_same given after still)
      ∙ ap (λ (marks : List Mark). record (note_given at given after b) { sent = b.sent ++ map (sent_at at) marks; forwards = filter (still_waits (erased after)) b.forwards })
      (marks_same b.forwards (drop (length b.sent) after.bag))
      ∙ ap (λ (forwards : List Forward). record (note_given at given after b) { forwards = forwards }) (waiting_same b.forwards)

-- ---- a move, and a run

note_same : (w : World) (what : Move) (b : Book) → IsStill w.state → IsFine (act w.state what) → note (erased_world w) what b ≡ note w what b
note_same w what b still fine =
    let after : Acted = act w.state what in
    ap (λ (a : Acted). note_given w.moves a.given a.state (note_coming what w.moves (erased w.state) b)) (move_same what w.state still fine).is
    ∙ ap (λ (noted : Book). note_given w.moves after.given (erased after.state) noted) (coming_noted what w.moves w.state b still fine)
    ∙ given_noted after.state (move_same what w.state still fine).still w.moves after.given (note_coming what w.moves w.state b)

book_same : (moves : List Move) (w : World) (b : Book) → IsStill w.state → told_trusts (actions_of_run (run_of moves w)) ≡ 0 → 1 ≤ length (run moves w).state.chances.left →
    book moves (erased_world w) b ≡ book moves w b
book_same [] w b still told some = refl
book_same (what ∷ moves) w b still told some =
    let fine : IsFine (act w.state what) = fine_first what moves w told some in
    ap₂ (λ (later : World) (noted : Book). book moves later noted) (happens_same what w still fine) (note_same w what b still fine)
    ∙ book_same moves (happens w what) (note w what b) (move_same what w.state still fine).still (told_later what moves w told) some

-- the run as it is written down, where nobody can be asked
pub books_alone : (plan : Plan) (moves : List Move) → IsPlainPlan plan → IsUnforwarded plan moves → (past (alone_plan plan) moves).book ≡ (past plan moves).book
books_alone plan moves nothing is =
    ap (λ (w : World). book moves w blank) (first_erased plan nothing) ∙ book_same moves (first_world plan) blank (first_still plan nothing) is.told is.left
