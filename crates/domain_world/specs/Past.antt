-- What is written down of a move, and of a run (this project's own choice). Bytes come at an end only where a unit of
-- the bag is delivered or bytes are handed in; what members tell and dial is read off the actions that ends give.
use Rattle.std.specs.Prelude.{ℕ, ◌==◌, ◌&&◌, ◌||◌, Bool, true, false, not, List, [], ◌∷◌, ◌++◌, length, drop, filter, map, flat_map, is_some, Option, Some, None, slice_get}
use Rattle.wire_base.specs.Maps.{lookup, place_of, same_number}
use Rattle.authenticators.specs.Channels.{ChannelIdentity, same_channel}
use Rattle.account_table.specs.declared.account.Trust.{Trust}
use Rattle.outside.specs.declared.action.Action.{Action}
use Rattle.outside.specs.declared.action.Action.TheVariants as action
use Rattle.end_links.specs.Serving.{ServedUnit}
use Rattle.channel_client.specs.State.{Requester}
use Rattle.domain_controller.specs.State.{State as ControllerState}
use Rattle.domain_controller.specs.Trusting.{same_place}
use Rattle.domain_controller.specs.declared.state.Running.{Running as ControllerRunning}
use Rattle.domain_controller.specs.declared.trusting.Trusting.{Trusting}
use Rattle.logon_client.specs.State.{State as ClientState}
use Rattle.member_server.specs.State.{State as MemberState}
use Rattle.member_server.specs.declared.plan.MemberPlan.{MemberPlan}
use Rattle.member_server.specs.Turns.{AtTurn}
use Rattle.member_server.specs.declared.state.Running.{Running as MemberRunning}
use Rattle.channel_turns.specs.Turning.{is_on}
use Rattle.channel_turns.specs.declared.state.TurnTalk.{TurnTalk}
use Rattle.channel_events.specs.Marks.{Calling, Mark, Plain}
use Rattle.step_notes.specs.ClientNotes.{made_note, units_of_client}
use Rattle.step_notes.specs.ControllerNotes.{Answered, Where, reply_mark}
use Rattle.step_notes.specs.Judged.{passed_channel}
use Rattle.step_notes.specs.Marking.{answered_marks, clashes, turn_marks}
use Rattle.step_notes.specs.MemberNotes.{LinkAt, TurnNote, challenge_note, link_of_place, link_units, message_note, taken_link, turn_if, turn_in, turn_note, turn_units}
use Rattle.step_notes.specs.Records.{Book, CallTaken, ChannelAccepted, ChannelTurn, Forward, InUnit, JudgementTold, Judging, MessageTaken, OfMember, OfTrust, OutcomeTold, Outside, RequesterId, Sent, Source, blank, unit_in}
use Rattle.step_notes.specs.TrustNotes.{asking_note, asking_units, calls_handed, forwards_at, places_handed, trust_answers_of}
use Rattle.world_moves.specs.declared.bag.BagUnit.{BagUnit}
use Rattle.world_moves.specs.declared.links.EndId.{EndId}
use Rattle.world_moves.specs.declared.links.EndId.TheVariants.{Controller, Member, Client, Station}
use Rattle.world_moves.specs.declared.moves.Move.{Move}
use Rattle.world_moves.specs.declared.moves.Move.TheVariants as move
use Rattle.world_moves.specs.declared.plan.Plan.{Plan}
use Rattle.world_moves.specs.declared.state.State.{State}
use Rattle.world_moves.specs.Acting.{Given, piece_comes}
use Rattle.world_moves.specs.Bag.{first_waiting, pieces_of}
use Rattle.world_moves.specs.Choosing.{chosen_in, chosen_place, places_from}
use Rattle.world_moves.specs.Ends.{EndStates}
use Rattle.world_moves.specs.Links.{handed_links, hearer_of, links_of}
use Rattle.world_moves.specs.Moving.{end_of_peer, settle}
use Rattle.world_moves.specs.World.{World, first_world, given_at, happens, run}

-- ---- units that were sent

-- the numbers of the units that came into the bag on that link in that direction, where so many were in it before
abbrev pub is_sent_on : ℕ → Bool → BagUnit → Bool
is_sent_on link true unit = (unit.link == link) && unit.back
is_sent_on link false unit = (unit.link == link) && not unit.back

abbrev pub numbers_on : ℕ → Bool → List BagUnit → List BagUnit → List ℕ
numbers_on link back before after = places_from (is_sent_on link back) (length before) (drop (length before) after)

abbrev pub sent_at : ℕ → Mark → Sent
sent_at at mark = record { mark = mark; at = at }

-- what the new units of the bag were made for: those on the link in that direction by these marks in order, the others
-- for no channel
abbrev pub marks_by : (is_on_link : Bool) (marks : List Mark) (later : List Mark → List Mark) → List Mark
marks_by false marks later = Plain ∷ later marks
marks_by true [] later = Plain ∷ later []
marks_by true (mark ∷ marks) later = mark ∷ later marks

abbrev pub marks_of : ℕ → Bool → List BagUnit → List Mark → List Mark
marks_of link back [] marks = []
marks_of link back (unit ∷ units) marks =
    marks_by (is_sent_on link back unit) marks (λ rest. marks_of link back units rest)

abbrev pub with_marks : ℕ → ℕ → Bool → List BagUnit → List Mark → Book → Book
with_marks at link back units marks b = record b { sent = b.sent ++ map (sent_at at) (marks_of link back units marks) }

-- The plain form of the unit of that number, by what is written down: the bytes that its end made, before any sealing.
-- Where nothing seals these are the bytes that travel. What reads a call or a reply out of a unit reads this; of sealed
-- units their plain form isn't written down yet.
unfoldable pub plain_form : List Sent → ℕ → BagUnit → List ℕ
plain_form sent number unit = unit.bytes

-- ---- a clash

abbrev pub with_clash : Bool → Book → Book
with_clash here b = record b { clash = b.clash || here }

-- ---- at a controller

-- each send is the next of the units that went into the bag on the link
abbrev pub first_of : List ℕ → Option ℕ
first_of [] = None
first_of (number ∷ numbers) = Some number

abbrev pub later_of : Bool → List ℕ → List ℕ
later_of false numbers = numbers
later_of true numbers = drop 1 numbers

-- the next of them, where a unit is sent
abbrev pub number_sent : (sends : Bool) → List ℕ → Option ℕ
number_sent false numbers = None
number_sent true numbers = first_of numbers

abbrev pub with_reply : Option Judging → Option ℕ → List Judging
with_reply None number = []
with_reply (Some judging) number = record judging { reply = number } ∷ []

-- the calls that were judged, in order, each with its reply, where one is sent for it then
abbrev pub judged_of : List Answered → List ℕ → List Judging
judged_of [] numbers = []
judged_of (one ∷ answers) numbers =
    with_reply one.judging (number_sent one.sends numbers) ++ judged_of answers (later_of one.sends numbers)

-- the channels that were accepted, in order, each with the reply
abbrev pub replied_with : Option ChannelAccepted → Option ℕ → List ChannelAccepted
replied_with None number = []
replied_with (Some one) number = record one { reply = number } ∷ []

abbrev pub accepted_of : List Answered → List ℕ → List ChannelAccepted
accepted_of [] numbers = []
accepted_of (one ∷ answers) numbers =
    replied_with one.accepted (first_of numbers) ++ accepted_of answers (later_of one.sends numbers)

abbrev pub any_clash : List Answered → Option ℕ → List Sent → Bool
any_clash [] unit sent = false
any_clash (one ∷ answers) unit sent = clashes one.checked unit sent || any_clash answers unit sent

-- each in its order before the others, so that the newest is first
abbrev pub onto : {T : Type 0} → List T → List T → List T
onto [] older = older
onto (item ∷ items) older = onto items (item ∷ older)

abbrev pub with_answers : List Answered → Option ℕ → List ℕ → Book → Book
with_answers answers unit numbers b =
    with_clash (any_clash answers unit b.sent) (record b {
      judged = onto (judged_of answers numbers) b.judged;
      accepted = onto (accepted_of answers numbers) b.accepted;
    })

abbrev pub with_forwards : List Forward → Book → Book
with_forwards forwards b = record b { forwards = onto forwards b.forwards }

-- ---- a call that was handed on is answered

-- a call that was handed on waits for its answer at its controller
abbrev pub waits_at : Option ControllerState → Forward → Bool
waits_at None one = false
waits_at (Some c) one = is_some (lookup same_place (one.trust, one.place) c.trusting.queues.forwarded)

abbrev pub still_waits : State → Forward → Bool
still_waits s one = waits_at (slice_get s.ends.controllers one.judging.controller) one

-- The reply to a call that was handed on goes back on the link on which the call came, once the call waits no more, and
-- is made for the channel on which the call passed. Beside the link on which an end hears something, a controller sends
-- no other unit back.
abbrev pub forward_mark : Option ChannelIdentity → Forward → Mark
forward_mark None one = Plain
forward_mark (Some channel) one = reply_mark (unit_in one.judging.source) channel one.judging.number

abbrev pub mark_or : (is_its_reply : Bool) (one : Forward) (other : Mark) → Mark
mark_or false one other = other
mark_or true one other = forward_mark (passed_channel one.judging) one

abbrev pub beside_mark : List Forward → State → BagUnit → Mark
beside_mark [] after unit = Plain
beside_mark (one ∷ forwards) after unit =
    mark_or (is_sent_on one.link true unit && not (still_waits after one)) one (beside_mark forwards after unit)

-- What the new units of the bag were made for where bytes came on the link of a controller's turn: those that go out on
-- it by these marks in order, the others as units beside it.
abbrev pub asking_by : (is_on_link : Bool) (marks : List Mark) (other : Mark) (later : List Mark → List Mark) → List Mark
asking_by false marks other later = other ∷ later marks
asking_by true [] other later = Plain ∷ later []
asking_by true (mark ∷ marks) other later = mark ∷ later marks

abbrev pub asking_marks : ℕ → (beside : BagUnit → Mark) → List BagUnit → List Mark → List Mark
asking_marks link beside [] marks = []
asking_marks link beside (unit ∷ units) marks =
    asking_by (is_sent_on link false unit) marks (beside unit) (λ rest. asking_marks link beside units rest)

-- a credential passed in a unit that a turn took, on a channel for which it wasn't made
abbrev pub any_turn_clash : List TurnNote → Option ℕ → List Sent → Bool
any_turn_clash [] unit sent = false
any_turn_clash (note ∷ notes) unit sent = clashes note.checked unit sent || any_turn_clash notes unit sent

-- ---- at a member

-- the message of that link, with this
abbrev pub change_if : Bool → (MessageTaken → MessageTaken) → MessageTaken → MessageTaken
change_if false change one = one
change_if true change one = change one

abbrev pub change_message : Option ℕ → (MessageTaken → MessageTaken) → List MessageTaken → List MessageTaken
change_message None change messages = messages
change_message (Some link) change messages = map (λ (one : MessageTaken). change_if (one.link == link) change one) messages

abbrev pub with_call : Option ℕ → MessageTaken → MessageTaken
with_call number one = record one { call = number }

abbrev pub with_answer : Option ℕ → MessageTaken → MessageTaken
with_answer number one = record one { reply = number }

-- a unit that the turn took: the links of the logons are found by their places, as the member kept them before it
abbrev pub note_turn : TurnNote → ServedUnit AtTurn TurnTalk → Option ℕ → Option ℕ → Book → Book
note_turn note served unit number b =
    with_clash (clashes note.checked unit b.sent)
    (record b {
      messages = change_message (link_of_place note.answered served.work.work.logons) (with_answer unit)
          (change_message (link_of_place note.called served.work.work.logons) (with_call number) b.messages);
    })

abbrev pub note_turns : ℕ → List (ServedUnit AtTurn TurnTalk) → Option ℕ → List ℕ → Book → Book
note_turns controller [] unit numbers b = b
note_turns controller (served ∷ units) unit numbers b =
    note_turns controller units unit (later_of (turn_note controller served).sends numbers)
    (note_turn (turn_note controller served) served unit (first_of numbers) b)

-- ---- answers that were taken

abbrev pub is_calling : ChannelIdentity → ℕ → Mark → Bool
is_calling channel number (Calling other called timestamp) = same_channel other channel && (called == number)
is_calling channel number _ = false

-- the unit was made as the call of that number on that channel
abbrev pub is_call_of : ChannelIdentity → ℕ → Sent → Bool
is_call_of channel number one = is_calling channel number one.mark

-- which unit it was: in a schedule there is one at most, since the calls of a channel have different numbers
abbrev pub call_made : ChannelIdentity → ℕ → List Sent → Option ℕ
call_made channel number sent = place_of (is_call_of channel number) sent

-- an answer, where the call and what was taken are units of the bag
abbrev pub taken_as : RequesterId → ℕ → Option ℕ → Option ℕ → List CallTaken
taken_as who at None unit = []
taken_as who at (Some call) None = []
taken_as who at (Some call) (Some unit) = record { at = at; requester = who; call = call; reply = unit } ∷ []

-- the answer to the call of that number on that channel
abbrev pub answer_on_channel : Option ChannelIdentity → Option ℕ → RequesterId → ℕ → Option ℕ → List Sent → List CallTaken
answer_on_channel None number who at unit sent = []
answer_on_channel (Some channel) None who at unit sent = []
answer_on_channel (Some channel) (Some number) who at unit sent = taken_as who at (call_made channel number sent) unit

-- of a unit that a turn took
abbrev pub answers_by : RequesterId → ℕ → Option ℕ → List Sent → TurnNote → List CallTaken
answers_by who at unit sent note = answer_on_channel note.checked note.replied who at unit sent

abbrev pub with_taken : RequesterId → ℕ → Option ℕ → List TurnNote → Book → Book
with_taken who at unit notes b = record b { answers = b.answers ++ flat_map (answers_by who at unit b.sent) notes }

-- the number of the controller of a member's plan; where the plan names none, a number that none has
abbrev pub controller_number : Option EndId → ℕ → ℕ
controller_number (Some (Controller at)) none = at
controller_number _ none = none

abbrev pub controller_of_plan : Option MemberPlan → EndStates → ℕ
controller_of_plan None ends = length ends.controllers
controller_of_plan (Some plan) ends = controller_number (end_of_peer plan.controller ends) (length ends.controllers)

abbrev pub controller_of : ℕ → State → ℕ
controller_of member s = controller_of_plan (slice_get s.member_plans member) s.ends

-- the number of the controller at the address of a trust; where the trust names none, a number that none has
abbrev pub controller_of_trust : Option Trust → EndStates → ℕ
controller_of_trust None ends = length ends.controllers
controller_of_trust (Some trust) ends = controller_number (end_of_peer trust.address ends) (length ends.controllers)

-- the trust of that number at a controller, in the order of its table
abbrev pub trust_in : ℕ → Option ControllerState → Option Trust
trust_in trust None = None
trust_in trust (Some c) = slice_get c.table.trusts trust

-- the number of the controller with which the channels of who asks are
abbrev pub controller_asked : RequesterId → State → ℕ
controller_asked (OfMember member) s = controller_of member s
controller_asked (OfTrust controller trust) s =
    controller_of_trust (trust_in trust (slice_get s.ends.controllers controller)) s.ends

-- ---- bytes come at an end

-- after how many moves, where they came from, on which link, in which direction
pub record Delivery : Type 0 where
  pub at : ℕ
  pub source : Source
  pub link : ℕ
  pub back : Bool

abbrev pub at_controller : ℕ → ControllerState → Delivery → State → Where
at_controller controller c w s = record { at = w.at; controller = controller; source = w.source; name = c.name; moment = s.moment }

-- by its own machine, whether it hands logons on or not
abbrev pub answers_of : ℕ → ControllerState → Delivery → List ℕ → State → List Answered
answers_of controller c w piece s =
    trust_answers_of w.link (at_controller controller c w s) c piece s.moment s.chances.left

-- the calls that it handed on
abbrev pub forwards_of : ℕ → ControllerState → Delivery → List ℕ → State → List Forward
forwards_of controller c w piece s =
    forwards_at w.link (places_handed c w.link piece s.moment s.chances.left) (calls_handed (answers_of controller c w piece s))

-- what is written down of the units that it served, but for what new units were made for
abbrev pub note_calls : List Answered → Delivery → State → State → Book → Book
note_calls answers w s after b = with_answers answers (unit_in w.source) (numbers_on w.link true s.bag after.bag) b

abbrev pub note_answers : List Answered → Delivery → State → State → Book → Book
note_answers answers w s after b =
    with_marks w.at w.link true (drop (length s.bag) after.bag) (answered_marks answers) (note_calls answers w s after b)

-- the number of the controller that a controller asks in its turn
abbrev pub asked_in_turn : ControllerState → State → ℕ
asked_in_turn c s = controller_of_trust (slice_get c.table.trusts c.trusting.turn_of) s.ends

-- what is written down of the units that its turn took
abbrev pub asking_notes : ControllerState → Delivery → List ℕ → State → List TurnNote
asking_notes c w piece s =
    map (asking_note (asked_in_turn c s)) (asking_units c w.link piece s.moment s.chances.left)

-- what new units were made for: replies on an accepted link; on the link of its turn requests, and beside them the
-- reply to the call for which the turn was out
abbrev pub heard_marks : (is_turn_link : Bool) → ℕ → ControllerState → Delivery → List ℕ → State → State → List Forward → List BagUnit → List Mark
heard_marks false controller c w piece s after forwards units =
    marks_of w.link true units (answered_marks (answers_of controller c w piece s))
heard_marks true controller c w piece s after forwards units =
    asking_marks w.link (λ unit. beside_mark forwards after unit) units (turn_marks (asking_notes c w piece s))

-- who asks in the turn of that controller: it does, for the trust for which its turn is out
abbrev pub asker_of : ℕ → ControllerState → RequesterId
asker_of controller c = OfTrust controller c.trusting.turn_of

abbrev pub with_sent : ℕ → List Mark → Book → Book
with_sent at marks b = record b { sent = b.sent ++ map (sent_at at) marks }

abbrev pub note_controller : Option ControllerState → ℕ → Delivery → List ℕ → State → State → Book → Book
note_controller None controller w piece s after b = b
note_controller (Some c) controller w piece s after b =
    with_sent w.at
    (heard_marks (is_on w.link c.trusting.dialling) controller c w piece s after b.forwards (drop (length s.bag) after.bag))
    (with_clash (any_turn_clash (asking_notes c w piece s) (unit_in w.source) b.sent)
    (with_taken (asker_of controller c) w.at (unit_in w.source) (asking_notes c w piece s)
    (with_forwards (forwards_of controller c w piece s) (note_calls (answers_of controller c w piece s) w s after b))))

abbrev pub at_member : ℕ → Delivery → State → LinkAt
at_member member w s =
    record { at = w.at; member = member; link = w.link; drawn = length s.chances.drawn; left = length s.chances.left }

abbrev pub note_messages : ℕ → MemberState → Delivery → List ℕ → State → Book → Book
note_messages member m w piece s b = record b {
  challenges = b.challenges ++ flat_map (challenge_note (at_member member w s)) (link_units m w.link piece s.moment s.chances.left);
  taken = b.taken ++ flat_map (taken_link (at_member member w s)) (link_units m w.link piece s.moment s.chances.left);
  messages = b.messages ++ flat_map (message_note (at_member member w s)) (link_units m w.link piece s.moment s.chances.left);
}

abbrev pub note_requests : ℕ → MemberState → Delivery → List ℕ → State → State → Book → Book
note_requests member m w piece s after b =
    with_marks w.at w.link false (drop (length s.bag) after.bag)
    (turn_marks (map (turn_note (controller_of member s)) (turn_units m w.link piece s.moment s.chances.left)))
    (with_taken (OfMember member) w.at (unit_in w.source) (map (turn_note (controller_of member s)) (turn_units m w.link piece s.moment s.chances.left))
    (note_turns (controller_of member s) (turn_units m w.link piece s.moment s.chances.left) (unit_in w.source) (numbers_on w.link false s.bag after.bag) b))

abbrev pub note_member : Option MemberState → ℕ → Delivery → List ℕ → State → State → Book → Book
note_member None member w piece s after b = b
note_member (Some m) member w piece s after b = note_requests member m w piece s after (note_messages member m w piece s b)

abbrev pub note_client : Option ClientState → ℕ → Delivery → List ℕ → State → Book → Book
note_client None client w piece s b = b
note_client (Some c) client w piece s b = record b {
  made = b.made
      ++ flat_map (made_note (record { at = w.at; client = client; link = w.link }))
      (units_of_client c w.link piece s.moment s.chances.left);
}

abbrev pub note_at : Option EndId → Delivery → List ℕ → State → State → Book → Book
note_at None w piece s after b = b
note_at (Some (Controller at)) w piece s after b = note_controller (slice_get s.ends.controllers at) at w piece s after b
note_at (Some (Member at)) w piece s after b = note_member (slice_get s.ends.members at) at w piece s after b
note_at (Some (Client at)) w piece s after b = note_client (slice_get s.ends.clients at) at w piece s b
note_at (Some (Station at)) w piece s after b = b

-- a piece comes: what it comes to at the end that hears it
abbrev pub note_piece : Delivery → List ℕ → State → State → Book → Book
note_piece w piece s after b = note_at (hearer_of w.back (lookup same_number w.link s.open_links)) w piece s after b

abbrev pub note_pieces : Delivery → List (List ℕ) → State → Book → Book
note_pieces w [] s b = b
note_pieces w (piece ∷ pieces) s b =
    note_pieces w pieces (piece_comes w.back w.link piece s).state
    (note_piece w piece s (piece_comes w.back w.link piece s).state b)

-- ---- which bytes come at a move

-- the unit of that number on that link
abbrev pub note_unit : Option BagUnit → ℕ → ℕ → ℕ → State → Book → Book
note_unit None number link at s b = b
note_unit (Some unit) number link at s b =
    note_pieces (record { at = at; source = InUnit number; link = link; back = unit.back }) (pieces_of unit.bytes) s b

-- a unit is delivered, and counts as that then
abbrev pub note_settled : ℕ → ℕ → ℕ → State → Book → Book
note_settled number link at s b = note_unit (slice_get s.bag number) number link at s b

abbrev pub note_own : Option BagUnit → ℕ → ℕ → State → Book → Book
note_own None number at s b = b
note_own (Some unit) number at s b = note_settled number unit.link at (settle number s) b

abbrev pub note_onward : Option ℕ → ℕ → State → Book → Book
note_onward None at s b = b
note_onward (Some number) at s b = note_own (slice_get s.bag number) number at s b

abbrev pub note_on : Option ℕ → ℕ → ℕ → State → Book → Book
note_on None number at s b = b
note_on (Some link) number at s b = note_settled number link at (settle number s) b

abbrev pub note_chosen : Option BagUnit → ℕ → ℕ → ℕ → State → Book → Book
note_chosen None number link at s b = b
note_chosen (Some unit) number link at s b = note_on (chosen_in link (links_of unit.kind s.links)) number at s b

abbrev pub note_deliver : Option ℕ → ℕ → ℕ → State → Book → Book
note_deliver None link at s b = b
note_deliver (Some number) link at s b = note_chosen (slice_get s.bag number) number link at s b

abbrev pub note_hand : Option ℕ → Bool → List ℕ → ℕ → State → Book → Book
note_hand None back bytes at s b = b
note_hand (Some link) back bytes at s b =
    note_pieces (record { at = at; source = Outside; link = link; back = back }) (bytes ∷ []) s b

-- what is written down of the bytes that come in a move, after `at` moves
abbrev pub note_coming : Move → (at : ℕ) → State → Book → Book
note_coming move.Onward at s b = note_onward (first_waiting s.bag) at s b
note_coming (move.Deliver unit link) at s b = note_deliver (chosen_place unit (length s.bag)) link at s b
note_coming (move.Hand link back bytes) at s b = note_hand (chosen_in link (handed_links s.links)) back bytes at s b
note_coming _ at s b = b

-- ---- what is told and dialled

abbrev pub told_by : EndId → Action → ℕ → List OutcomeTold
told_by (Member member) (action.Told link outcome) at = record { at = at; member = member; link = link; outcome = outcome } ∷ []
told_by _ what at = []

abbrev pub told_in : Given → ℕ → List OutcomeTold
told_in given at = flat_map (λ (one : EndId × Action). told_by one.0 one.1 at) given

-- the judgements that controllers told
abbrev pub judgement_by : EndId → Action → ℕ → List JudgementTold
judgement_by (Controller controller) (action.Judged how) at = record { at = at; controller = controller; how = how } ∷ []
judgement_by _ what at = []

abbrev pub judgements_in : Given → ℕ → List JudgementTold
judgements_in given at = flat_map (λ (one : EndId × Action). judgement_by one.0 one.1 at) given

abbrev pub running_in : Option MemberState → Option MemberRunning
running_in None = None
running_in (Some m) = m.running

abbrev pub requester_in : Option MemberRunning → Option Requester
requester_in None = None
requester_in (Some running) = Some running.logons.channel

-- the state of who asks for a trust, by the running state of its controller and what that keeps of trusts
abbrev pub trust_asker_on : Option ControllerRunning → ℕ → Trusting → Option Requester
trust_asker_on None trust t = None
trust_asker_on (Some running) trust t = slice_get t.queues.requesters trust

-- the state of who asks for a trust at that controller: none where there is no such controller, or it has stopped
abbrev pub trust_asker : Option ControllerState → ℕ → Option Requester
trust_asker None trust = None
trust_asker (Some c) trust = trust_asker_on c.running trust c.trusting

-- the state of who asks, as it stands at its end: none where that isn't there, or has stopped
abbrev pub requester_at : State → RequesterId → Option Requester
requester_at s (OfMember member) = requester_in (running_in (slice_get s.ends.members member))
requester_at s (OfTrust controller trust) = trust_asker (slice_get s.ends.controllers controller) trust

-- the turn on the channel of who asks, whose bind waits, if one does
abbrev pub turn_at : RequesterId → State → List ChannelTurn
turn_at who s = turn_if (controller_asked who s) who (requester_at s who)

-- the turn of that controller, for the trust for which it is out
abbrev pub turn_for_trust : ℕ → Option ControllerState → State → List ChannelTurn
turn_for_trust controller None after = []
turn_for_trust controller (Some c) after = turn_at (asker_of controller c) after

-- a member dials, and a controller, exactly where a turn starts, which is out after the move
abbrev pub turns_by : EndId → Action → State → List ChannelTurn
turns_by (Member member) (action.Dial peer) after =
    turn_in (controller_of member after) member (running_in (slice_get after.ends.members member))
turns_by (Controller controller) (action.Dial peer) after =
    turn_for_trust controller (slice_get after.ends.controllers controller) after
turns_by _ what after = []

abbrev pub turns_in : Given → State → List ChannelTurn
turns_in given after = flat_map (λ (one : EndId × Action). turns_by one.0 one.1 after) given

-- The units beside those that have marks were made for no channel, but for replies to calls that were handed on, where
-- a turn was lost.
abbrev pub other_marks : List Forward → State → ℕ → List Mark
other_marks forwards after marked = map (λ (unit : BagUnit). beside_mark forwards after unit) (drop marked after.bag)

abbrev pub with_others : ℕ → State → Book → Book
with_others at after b = with_sent at (other_marks b.forwards after (length b.sent)) b

-- what was answered in the move doesn't wait any more
abbrev pub with_waiting : State → Book → Book
with_waiting after b = record b { forwards = filter (still_waits after) b.forwards }

abbrev pub note_given : ℕ → Given → State → Book → Book
note_given at given after b =
    with_waiting after (with_others at after (record b {
      judgements = onto (judgements_in given at) b.judgements;
      told = b.told ++ told_in given at;
      turns = b.turns ++ turns_in given after;
    }))

-- ---- a run

-- what is written down after a move
abbrev pub note : World → Move → Book → Book
note w what b = note_given w.moves (given_at w what) (happens w what).state (note_coming what w.moves w.state b)

abbrev pub book : List Move → World → Book → Book
book [] w b = b
book (what ∷ moves) w b = book moves (happens w what) (note w what b)

-- a run from a plan: the plan, the world after it, and what was written down
pub record Past : Type 0 where
  pub plan : Plan
  pub world : World
  pub book : Book

abbrev pub past : Plan → List Move → Past
past plan moves =
    record { plan = plan; world = run moves (first_world plan); book = book moves (first_world plan) blank }
