-- Near misses beside those of the other files (this project's own choice): runs that differ in one thing more from one
-- that meets a claim, so that a claim which leaves that thing out, or which asks it besides, is told apart. Responses
-- are the values of their functions.
use Rattle.std.specs.Prelude.{ℕ, ◌≡◌, ◌-◌, ◌^◌, Bool, true, false, List, [], ◌∷◌, ◌++◌, map, replicate, Some, None, Ok, codes, slice_get, ◌%◌}
use Rattle.outside.specs.declared.action.Judged.{Judged}
use Rattle.outside.specs.declared.action.Judged.TheVariants as judged
use Rattle.ntlm_responses.specs.Hashes.{key_v2_of}
use Rattle.ntlm_responses.specs.Responses.{proof_of}
use Rattle.account_table.specs.AccountTable.{AccountTable}
use Rattle.account_table.specs.declared.account.Account.{Account}
use Rattle.domain_controller.specs.Step.{first_state}
use Rattle.domain_controller.specs.Trusting.{no_trusting}
use Rattle.domain_controller.specs.declared.trusting.Trusting.{Trusting}
use Rattle.logon_client.specs.declared.plan.AuthKind.TheVariants as auth
use Rattle.logon_client.specs.State.{State as ClientState}
use Rattle.logon_client.specs.declared.outcome.ClientOutcome.TheVariants as client_outcome
use Rattle.logon_client.specs.declared.state.ClientLink.TheVariants as client_link
use Rattle.logon_client.specs.declared.state.Phase.TheVariants as client_phase
use Rattle.logon_client.specs.declared.state.Question.TheVariants.{Who}
use Rattle.logon_client.specs.declared.state.Running.{Running as ClientRunning}
use Rattle.logon_client.specs.declared.state.Talk.{Talk as ClientTalk}
use Rattle.logon_client.specs.declared.state.Terms.{Terms}
use Rattle.authenticators.specs.Channels.{ChannelIdentity}
use Rattle.channel_client.specs.Machine.{fresh_requester}
use Rattle.end_links.specs.Binding.{binding_of}
use Rattle.memo_stubs.specs.Interface.{memo_syntax}
use Rattle.end_links.specs.Serving.{ServedUnit}
use Rattle.end_links.specs.Links.{LinkState}
use Rattle.member_server.specs.Machine.{caller_of}
use Rattle.member_server.specs.State.{State as MemberState}
use Rattle.member_server.specs.declared.state.AtLink.{AtLink}
use Rattle.member_server.specs.Turns.{AtTurn}
use Rattle.member_server.specs.declared.state.Bound.{Bound}
use Rattle.member_server.specs.declared.state.Logon.{Logon}
use Rattle.member_server.specs.declared.state.Phase.TheVariants as phase
use Rattle.member_server.specs.declared.state.Running.{Running as MemberRunning}
use Rattle.channel_turns.specs.declared.state.TurnTalk.{TurnTalk}
use Rattle.step_notes.specs.MemberNotes.{LinkAt, turn_note, turn_units}
use Rattle.domain_world.specs.Claims.AskedFor.{MembersAskForKept, MembersAskForMessages}
use Rattle.channel_events.specs.Marks.{Calling, Mark, Opened, Opening, Plain, ReplyTo}
use Rattle.channel_events.specs.Requests.{fresh_view}
use Rattle.step_notes.specs.Records.{Book, ChallengeSent, Forward, InUnit, JudgementTold, Judging, MessageMade, MessageTaken, OfMember, Outside, blank}
use Rattle.world_moves.specs.declared.bag.BagUnit.{BagUnit}
use Rattle.world_moves.specs.declared.links.LinkKind.TheVariants as kind
use Rattle.world_moves.specs.declared.state.State.{State}
use Rattle.world_moves.specs.declared.links.Route.TheVariants.{ToController, ToMember}
use Rattle.world_moves.specs.declared.moves.Move.{Move}
use Rattle.world_moves.specs.declared.moves.Move.TheVariants as move
use Rattle.world_moves.specs.Forms.{IsSchedule}
use Rattle.domain_world.specs.Accepting.Answered.{MarksHaveTheirWay, MessagesAreApart, PassesAreUnclashed}
use Rattle.domain_world.specs.Claims.{AcceptsAllGranted, AcceptsOnlyGranted, IsClear, KeysAgree, ShortResponsesServeOnce, TellsOfForwards, taken_answer_on}
use Rattle.domain_world.specs.Claims.Counts.{EachCallRaisesOnce, RaisesCount}
use Rattle.domain_world.specs.Claims.LeftOut.{Answers, DrawsFor, Takes, TakesOn}
use Rattle.domain_world.specs.Accepting.Carried.{MarkedUnitsAreWhole}
use Rattle.domain_world.specs.Claims.MarkedUnits.{CallsAreMarked, EachUnitIsMarked, RepliesAreMarked}
use Rattle.domain_world.specs.Claims.Tables.{TablesFollowVerdicts}
use Rattle.domain_world.specs.Claims.WrittenDown.{ClientsAreWrittenDown, MembersAreWrittenDown, MessagesAreOfTheirClients}
use Rattle.domain_world.specs.Accepting.Runs.{seen_in}
use Rattle.domain_world.specs.Past.{Past, beside_mark, note_given, sent_at}
use Rattle.claim_examples.specs.ClaimExamples.{challenge_on, client_plan, elsewhere, extended_flags, extended_message, judged_as, judging, last_timestamp, made_as, made_keeping, message, message_of_link, on_channel, one_logon, open_running, run_in, small_account, small_challenge, small_hash, small_links, small_logon, small_member, small_name, small_plan, small_run, small_table, small_world, taken_as, told_of_link, two_logons, with_response, world_of}
use Rattle.claim_examples.specs.CompletenessExamples.{lost_plan}
use Rattle.claim_examples.specs.GrantExamples.{judged_all, wrong_call}

-- ---- clear runs

abbrev pub judged_two : Judging → Judging → Book
judged_two second first = record blank { judged = second ∷ first ∷ [] }

-- the call came in bytes from outside
abbrev pub foreign : Judging → Judging
foreign j = record j { source = Outside }

-- a timestamp that moves a seed by 2^31
abbrev pub half_timestamp : ℕ
half_timestamp = 2 ^ 31 - 1

-- Clear runs are those in which two calls passed and the seed moved by 1 or by 2^31 between, or the first passed on
-- another channel, or the second was barred, whoever sent them. A run in which a seed comes round is none, though it
-- has no clash.
pub record OfClearRuns : Type 0 where
  pub two : IsClear (judged_two (on_channel 0) (on_channel 0))
  pub half : IsClear (judged_two (on_channel half_timestamp) (on_channel half_timestamp))
  pub apart : IsClear (judged_two (on_channel last_timestamp) (elsewhere (on_channel last_timestamp)))
  pub barred : IsClear (judged_two (judged_as judged.Barred (on_channel last_timestamp)) (on_channel last_timestamp))
  pub outside : IsClear (judged_two (foreign (on_channel 0)) (on_channel 0))
  pub fails_round : IsClear (judged_two (on_channel last_timestamp) (on_channel last_timestamp)) → ⊥

-- ---- accepting

-- the call came once more at a later step, and was barred there
abbrev pub barred_again : Judging
barred_again = record (judged_as judged.Barred judging) { at = 7; reply = Some 9 }

-- ann's NTLMv2 response to the challenge of the link, over a rest of 28 zeros
abbrev pub long_response : List ℕ
long_response = proof_of (key_v2_of small_hash (97 ∷ 110 ∷ 110 ∷ []) []) small_challenge (replicate 28 0) ++ replicate 28 0

abbrev pub long_taken : MessageTaken
long_taken = with_response long_response

-- ann's response of extended session security, which answers the hashed challenge
abbrev pub extended_taken : MessageTaken
extended_taken = taken_as extended_message extended_flags message

abbrev pub taking : MessageTaken → Book
taking one = record one_logon { messages = one ∷ [] }

abbrev pub untold : Book → Book
untold book = record book { told = [] }

-- Accepting only what is granted: also by an NTLMv2 response, by one to a hashed challenge, and where the call was
-- barred at another step; not where the message came on another link than the one that is let in, nor where a second
-- outcome lets in on another link.
pub record OfAcceptingOnly : Type 0 where
  pub meets_long : AcceptsOnlyGranted (small_run (taking long_taken))
  pub meets_extended : AcceptsOnlyGranted (small_run (taking extended_taken))
  pub meets_barred : AcceptsOnlyGranted (small_run (record one_logon { judged = barred_again ∷ judging ∷ [] }))
  pub fails_link : AcceptsOnlyGranted (small_run (record one_logon { told = told_of_link 4 ∷ [] })) → ⊥
  pub fails_second : AcceptsOnlyGranted (small_run (record one_logon { told = told_of_link 3 ∷ told_of_link 4 ∷ [] })) → ⊥

-- Accepting all that is granted: not where another member tells it, or it is told of the first of two links alone. The
-- claim asks nothing besides: it isn't met where nothing is told though no CHALLENGE was sent, the link isn't there,
-- the call was barred at another step, or the response is an NTLMv2 one or answers a hashed challenge. It says nothing
-- of a call that passed at two steps.
pub record OfAcceptingAll : Type 0 where
  pub fails_member : AcceptsAllGranted (small_run (record one_logon { told = record (told_of_link 3) { member = 1 } ∷ [] })) → ⊥
  pub fails_second : AcceptsAllGranted (small_run (record two_logons { told = told_of_link 3 ∷ [] })) → ⊥
  pub fails_unsent : AcceptsAllGranted (small_run (record (untold one_logon) { challenges = [] })) → ⊥
  pub fails_unlinked : AcceptsAllGranted (run_in (world_of [] []) (untold one_logon)) → ⊥
  pub fails_barred : AcceptsAllGranted (small_run (record (untold one_logon) { judged = barred_again ∷ judging ∷ [] })) → ⊥
  pub fails_long : AcceptsAllGranted (small_run (untold (taking long_taken))) → ⊥
  pub fails_extended : AcceptsAllGranted (small_run (untold (taking extended_taken))) → ⊥
  pub twice : AcceptsAllGranted (small_run (record (untold one_logon) { judged = record judging { at = 7; reply = Some 9 } ∷ judging ∷ [] }))

-- the two links of `two_logons` were accepted by two members
abbrev pub at_two_members : Past
at_two_members = record {
  plan = record small_plan { members = small_member ∷ small_member ∷ [] };
  world = world_of (ToController 0 0 ∷ ToController 0 0 ∷ ToController 0 0 ∷ ToMember 0 0 ∷ ToMember 0 1 ∷ []) (small_challenge ∷ []);
  book = record two_logons {
    messages = message ∷ record (message_of_link 4) { member = 1 } ∷ [];
    told = told_of_link 3 ∷ record (told_of_link 4) { member = 1 } ∷ [];
  };
}

-- Short responses: not where one was accepted on two links, though by two members.
pub record OfShortResponses : Type 0 where
  pub fails_members : ShortResponsesServeOnce at_two_members → ⊥

-- no answer was taken for a message whose call didn't go out, though a call from outside passed
pub record OfTakenAnswers : Type 0 where
  pub none : taken_answer_on 3 (record one_logon { messages = record message { call = None; reply = None } ∷ []; judged = record judging { source = Outside; reply = None } ∷ [] })
      ≡ None

-- ---- keys

abbrev pub other_key : MessageMade
other_key = made_keeping (2 ∷ [])

-- Keys that agree: not where the client kept another key, though its message came over another link than its own, was
-- made by another plan, or is the second of two.
pub record OfKeys : Type 0 where
  pub fails_relayed : KeysAgree (made_as (record other_key { link = 9 })) → ⊥
  pub fails_plan : KeysAgree (made_as (record other_key { plan = record client_plan { level = 6; auth = auth.V2 } })) → ⊥
  pub fails_second : KeysAgree (small_run (record one_logon { made = made_keeping (1 ∷ []) ∷ other_key ∷ [] })) → ⊥

-- ---- counts

-- ann's account is the second one, or had this count
abbrev pub bob : Account
bob = record small_account { name = codes "bob" }

abbrev pub wrong_among : List Account → Judging
wrong_among accounts = record wrong_call { table = record small_table { accounts = accounts } }

-- Counts: a call raises one also where it stood higher, and of an account behind another; not twice, though one judging
-- was at a later step, or at another controller. Of calls from outside nothing is said.
pub record OfCounts : Type 0 where
  pub raises_more : RaisesCount (wrong_among (record small_account { bad_count = 3 } ∷ []))
  pub raises_second : RaisesCount (wrong_among (bob ∷ small_account ∷ []))
  pub fails_later : EachCallRaisesOnce (judged_all (record wrong_call { at = 9 } ∷ wrong_call ∷ [])) → ⊥
  pub fails_elsewhere : EachCallRaisesOnce (judged_all (record wrong_call { controller = 1 } ∷ wrong_call ∷ [])) → ⊥
  pub outside : EachCallRaisesOnce (judged_all (foreign wrong_call ∷ foreign wrong_call ∷ []))

-- ---- units of the bag, and messages

-- the bag has one unit, in that direction and with this mark
abbrev pub sent_one : Bool → Mark → Past
sent_one back mark =
    run_in
    (record small_world {
      state = record small_world.state {
        bag = record { bytes = []; link = 0; kind = kind.ToController; back = back; is_settled = false } ∷ [];
      };
    })
    (record blank { sent = sent_at 6 mark ∷ [] })

-- a unit of the bag with these bytes, on its way to a controller, which was made for that mark
abbrev pub carried_in : List ℕ → Mark → Past
carried_in bytes mark =
    run_in
    (record small_world {
      state = record small_world.state {
        bag = record { bytes = bytes; link = 0; kind = kind.ToController; back = false; is_settled = false } ∷ [];
      };
    })
    (record blank { sent = sent_at 6 mark ∷ [] })

-- A unit is what its mark says: of an opening, a call, and the reply to an opening, only under one number. Of units
-- that were made for no channel nothing is asked.
pub record OfWhole : Type 0 where
  pub plain : MarkedUnitsAreWhole (carried_in [] Plain)
  pub opening : (bytes : List ℕ) (one other : ℕ) → MarkedUnitsAreWhole (carried_in bytes (Opening small_name one)) →
      MarkedUnitsAreWhole (carried_in bytes (Opening small_name other)) → one ≡ other
  pub call : (bytes : List ℕ) (one other : ℕ) → MarkedUnitsAreWhole (carried_in bytes (Calling small_name one 0)) →
      MarkedUnitsAreWhole (carried_in bytes (Calling small_name other 0)) → one ≡ other
  pub opened : (bytes : List ℕ) (one other : ℕ) → MarkedUnitsAreWhole (carried_in bytes (Opened small_name one 7)) →
      MarkedUnitsAreWhole (carried_in bytes (Opened small_name other 7)) → one % 2 ^ 32 ≡ other % 2 ^ 32

-- a call passed in unit 0, which was made for this, and it was written down whether there was a clash
abbrev pub passed_for : Mark → Bool → Past
passed_for mark clash =
    small_run (record blank { sent = sent_at 0 mark ∷ []; judged = record (on_channel 0) { source = InUnit 0 } ∷ []; clash = clash })

-- a call that was handed on, in a unit of that mark
abbrev pub handed_for : Mark → Past
handed_for mark =
    small_run (record blank { sent = sent_at 0 mark ∷ []; judged = record (judged_as judged.Forwarded (on_channel 0)) { source = InUnit 0 } ∷ [] })

-- Each unit has its mark: not where there is one less or one more. Requests go on and replies back, and not the other
-- way. Messages come on two links, not on one. A call passes on the channel for which its unit was made, whether it is
-- handed on or not, unless there was a clash.
pub record OfUnits : Type 0 where
  pub marked : EachUnitIsMarked (sent_one true Plain)
  pub fails_less : EachUnitIsMarked (run_in (sent_one true Plain).world blank) → ⊥
  pub fails_more : EachUnitIsMarked (small_run (record blank { sent = sent_at 0 Plain ∷ [] })) → ⊥
  pub request : MarksHaveTheirWay (sent_one false (Calling small_name 3 0))
  pub reply : MarksHaveTheirWay (sent_one true (ReplyTo small_name 3 7))
  pub fails_opening : MarksHaveTheirWay (sent_one true (Opening small_name 3)) → ⊥
  pub fails_call : MarksHaveTheirWay (sent_one true (Calling small_name 3 0)) → ⊥
  pub fails_opened : MarksHaveTheirWay (sent_one false (Opened small_name 3 7)) → ⊥
  pub fails_reply : MarksHaveTheirWay (sent_one false (ReplyTo small_name 3 7)) → ⊥
  pub messages : MessagesAreApart (small_run one_logon)
  pub fails_messages : MessagesAreApart (small_run (record one_logon { messages = message ∷ record message { at = 8; place = 1 } ∷ [] })) → ⊥
  pub passes : PassesAreUnclashed (passed_for (Calling small_name 3 0) false)
  pub clashed : PassesAreUnclashed (passed_for Plain true)
  pub fails_passes : PassesAreUnclashed (passed_for Plain false) → ⊥
  pub handed_on : PassesAreUnclashed (handed_for (Calling small_name 3 0))
  pub fails_handed_on : PassesAreUnclashed (handed_for Plain) → ⊥

-- a call that was handed on, of the first trust at the first place there, and came on link 3
abbrev pub handed_call : Forward
handed_call = record { judging = judged_as judged.Forwarded (on_channel 0); link = 3; trust = 0; place = 0 }

abbrev pub unit_of_link : (link : ℕ) (back : Bool) → BagUnit
unit_of_link link back = record { bytes = []; link = link; kind = kind.ToController; back = back; is_settled = false }

-- the controller waits for the answer
abbrev pub waiting_call : Trusting
waiting_call = record no_trusting {
  queues = record {
    requesters = [];
    forwarded = ((0, 0), record { line = None; validation = 3; key = []; credential = [] }) ∷ [];
  };
}

abbrev pub waiting_state : State
waiting_state = record small_world.state {
  ends = record small_world.state.ends {
    controllers = record (first_state small_table (codes "PDC")) { trusting = waiting_call } ∷ [];
  };
}

-- The unit that answers a call which was handed on goes back on the link on which the call came, once the controller
-- doesn't wait for it any more: it is the reply to that call, on its channel. No unit is that while it waits, nor on
-- another link or in the other direction.
pub record OfHandingOn : Type 0 where
  pub reply : beside_mark (handed_call ∷ []) small_world.state (unit_of_link 3 true) ≡ ReplyTo small_name 3 7
  pub waits : beside_mark (handed_call ∷ []) waiting_state (unit_of_link 3 true) ≡ Plain
  pub other_link : beside_mark (handed_call ∷ []) small_world.state (unit_of_link 4 true) ≡ Plain
  pub onward : beside_mark (handed_call ∷ []) small_world.state (unit_of_link 3 false) ≡ Plain
  pub none : beside_mark [] small_world.state (unit_of_link 3 true) ≡ Plain
  -- an answered call is forgotten
  pub forgotten : (note_given 6 [] small_world.state (record blank { forwards = handed_call ∷ [] })).forwards ≡ []
  pub kept : (note_given 6 [] waiting_state (record blank { forwards = handed_call ∷ [] })).forwards ≡ handed_call ∷ []

-- the call of the message went out in unit 7, and its reply in unit 8, which were made for these
abbrev pub called_as : Mark → Mark → Past
called_as call reply =
    small_run (record one_logon { sent = replicate 7 (sent_at 0 Plain) ++ sent_at 5 call ∷ sent_at 6 reply ∷ []; judged = on_channel 0 ∷ [] })

-- the call of the message is marked as none, and its reply as one, which was sent after `moves` moves
abbrev pub replied_at : (moves : ℕ) → Past
replied_at moves =
    small_run (record one_logon { sent = replicate 7 (sent_at 0 Plain) ++ sent_at 5 Plain ∷ sent_at moves (ReplyTo small_name 3 7) ∷ []; judged = on_channel 0 ∷ [] })

-- A message's call is marked as a call with the member's controller: not where its unit is marked as nothing, as an
-- opening, or as a call with another one. The reply to a call that passed is marked as the reply to it: not where its
-- unit is marked as nothing, as that of another channel, call or unit, where it was sent at another step than that of
-- the judging, or where it has no unit. Of a call from outside nothing is asked, nor of one that was handed on.
pub record OfMarks : Type 0 where
  pub call : CallsAreMarked (called_as (Calling small_name 3 0) Plain)
  pub fails_plain : CallsAreMarked (called_as Plain Plain) → ⊥
  pub fails_opening : CallsAreMarked (called_as (Opening small_name 3) Plain) → ⊥
  pub fails_controller : CallsAreMarked (called_as (Calling (record small_name { controller = 1 }) 3 0) Plain) → ⊥
  pub reply : RepliesAreMarked (called_as Plain (ReplyTo small_name 3 7))
  pub fails_plain_reply : RepliesAreMarked (called_as Plain Plain) → ⊥
  pub fails_channel : RepliesAreMarked (called_as Plain (ReplyTo (record small_name { controller = 1 }) 3 7)) → ⊥
  pub fails_number : RepliesAreMarked (called_as Plain (ReplyTo small_name 4 7)) → ⊥
  pub fails_unit : RepliesAreMarked (called_as Plain (ReplyTo small_name 3 6)) → ⊥
  pub fails_step : RepliesAreMarked (replied_at 5) → ⊥
  pub fails_none : RepliesAreMarked (small_run (record one_logon { judged = record (on_channel 0) { reply = None } ∷ [] })) → ⊥
  pub outside : RepliesAreMarked (small_run (record one_logon { judged = record (on_channel 0) { source = Outside; reply = None } ∷ [] }))
  pub handed_on : RepliesAreMarked (small_run (record one_logon { judged = judged_as judged.Forwarded (record (on_channel 0) { reply = None }) ∷ [] }))

-- ---- what members ask

-- a member keeps these logons, and nothing waits for its turn
abbrev pub keeping : List (ℕ × Logon) → Past
keeping asked =
    let running : MemberRunning = open_running None [] in
    run_in
    (record small_world {
      state = record small_world.state {
        ends = record small_world.state.ends {
          members = record { running = Some (record running { logons = record running.logons { asked = asked } }) } ∷ [];
        };
      };
    })
    blank

-- What waits at a member is what is asked for what it keeps: so at a member that is begun anew, and not where it keeps
-- a logon for which nothing waits. Where no message was taken no Logon call goes out, by whatever unit it would.
pub record OfAsking : Type 0 where
  pub meets : MembersAskForKept (small_run blank)
  pub fails : MembersAskForKept (keeping ((0, small_logon 3) ∷ [])) → ⊥
  pub fails_messages : (run : Past) (member : ℕ) (m : MemberState) (controller number : ℕ) (piece : List ℕ) (now : ℕ) (left : List (List ℕ))
      (unit : ServedUnit AtTurn TurnTalk) (more : List (ServedUnit AtTurn TurnTalk)) (channel : ChannelIdentity) (call timestamp place : ℕ) →
      slice_get run.world.state.ends.members member ≡ Some m → run.book.messages ≡ [] → turn_units m number piece now left ≡ unit ∷ more →
      (turn_note controller unit).mark ≡ Calling channel call timestamp → (turn_note controller unit).called ≡ Some place →
      MembersAskForMessages run → ⊥

-- ---- what is written down of members, and what controllers tell

-- with this book
abbrev pub noting : Past → List MessageTaken → List ChallengeSent → Past
noting run messages challenges = record run { book = record blank { messages = messages; challenges = challenges } }

abbrev pub small_bound : Bound
small_bound = record { binding = binding_of memo_syntax 5840 []; level = 2; context = 0 }

-- a member waits on this link for the answer to this challenge
abbrev pub waiting_on : ℕ → List ℕ → Past
waiting_on link challenge =
    let running : MemberRunning = open_running None [] in
    run_in
    (record small_world {
      state = record small_world.state {
        ends = record small_world.state.ends {
          members = record {
            running = Some (record running {
              links = (link, record { rest = []; talk = record { joiner = None; phase = phase.Challenged small_bound challenge 0 } }) ∷ [];
            });
          } ∷ [];
        };
      };
    })
    blank

-- the logon is kept by a run that made ten moves
abbrev pub ten_keeping : ℕ → Past
ten_keeping place = let run : Past = keeping ((place, small_logon 3) ∷ []) in record run { world = record run.world { moves = 10 } }

-- A logon that is kept is that of a message that is written down: not where none is, or one of another place, another
-- link, another logon or another member, or one that was taken later. A challenge that is waited on is written down:
-- not where none is, or one of another link, another challenge, or one that another member sent.
pub record OfWritingDown : Type 0 where
  pub meets : MembersAreWrittenDown (small_run blank)
  pub meets_kept : MembersAreWrittenDown (noting (ten_keeping 0) (message_of_link 3 ∷ []) [])
  pub fails : MembersAreWrittenDown (ten_keeping 0) → ⊥
  pub fails_place : MembersAreWrittenDown (noting (ten_keeping 1) (message_of_link 3 ∷ []) []) → ⊥
  pub fails_link : MembersAreWrittenDown (noting (ten_keeping 0) (record (message_of_link 3) { link = 4 } ∷ []) []) → ⊥
  pub fails_logon : MembersAreWrittenDown (noting (ten_keeping 0) (record (message_of_link 3) { logon = small_logon 4 } ∷ []) []) → ⊥
  pub fails_member : MembersAreWrittenDown (noting (ten_keeping 0) (record (message_of_link 3) { member = 1 } ∷ []) []) → ⊥
  pub fails_later : MembersAreWrittenDown (noting (ten_keeping 0) (record (message_of_link 3) { at = 10 } ∷ []) []) → ⊥
  pub meets_challenge : MembersAreWrittenDown (noting (waiting_on 3 small_challenge) [] (challenge_on 3 ∷ []))
  pub fails_challenge : MembersAreWrittenDown (waiting_on 3 small_challenge) → ⊥
  pub fails_elsewhere : MembersAreWrittenDown (noting (waiting_on 3 small_challenge) [] (challenge_on 4 ∷ [])) → ⊥
  pub fails_sender : MembersAreWrittenDown (noting (waiting_on 3 small_challenge) [] (record (challenge_on 3) { member = 1 } ∷ [])) → ⊥
  pub fails_other : MembersAreWrittenDown (noting (waiting_on 3 []) [] (challenge_on 3 ∷ [])) → ⊥

-- a member at work on link 3 that did nothing yet, and where it is
abbrev pub small_at : AtLink
small_at = record { link = 3; logons = record { plan = small_member; channel = fresh_requester (caller_of small_member); asked = [] }; actions = [] }

abbrev pub at_move : ℕ → LinkAt
at_move moves = record { at = moves; member = 0; link = 3; drawn = 0; left = 1 }

-- What leaves nothing out of a step isn't met where nothing is done of a bind, where two CHALLENGEs are written down of
-- it, or one of another link. Nor is it where a message is written down of a link that is closed, none of a logon that
-- waits, or one of another place, nor where a challenge is drawn and none is written down.
pub record OfLeavingOut : Type 0 where
  pub fails_silent : Answers (at_move 4) (small_challenge ∷ []) [] small_at small_at → ⊥
  pub fails_two : (after : AtLink) → Answers (at_move 4) (small_challenge ∷ []) (challenge_on 3 ∷ challenge_on 3 ∷ []) small_at after → ⊥
  pub fails_link : (after : AtLink) → Answers (at_move 4) (small_challenge ∷ []) (challenge_on 4 ∷ []) small_at after → ⊥
  pub fails_closed : (after : AtLink) → Takes None (at_move 5) [] small_challenge (message_of_link 3 ∷ []) [] small_at after → ⊥
  pub fails_waiting : (after : AtLink) → TakesOn (phase.Asked small_bound 0 []) (at_move 5) [] small_challenge [] small_at after → ⊥
  pub fails_place : (after : AtLink) → TakesOn (phase.Asked small_bound 1 []) (at_move 5) [] small_challenge (message_of_link 3 ∷ []) small_at after → ⊥
  pub fails_drawn : DrawsFor (small_challenge ∷ []) [] (Ok (record { value = (small_at, None); left = [] })) → ⊥

-- a run with two clients, in which one made that message; link 5 is one of the second client
abbrev pub making : MessageMade → Past
making made =
    record (run_in (world_of (small_links ++ ToMember 1 0 ∷ []) (small_challenge ∷ [])) (record blank { made = made ∷ [] })) {
      plan = record small_plan { clients = client_plan ∷ record client_plan { echo = 1 } ∷ [] };
    }

-- by the second client
abbrev pub made_second : MessageMade
made_second = record (made_keeping []) { client = 1; link = 5; plan = record client_plan { echo = 1 } }

-- A message that is written down as made is by the plan of its client, and on a link that this client dialled: not by
-- another plan or one of another client, nor on a link of another client, to a controller, or that wasn't made.
pub record OfMaking : Type 0 where
  pub meets : MessagesAreOfTheirClients (making (made_keeping []))
  pub meets_second : MessagesAreOfTheirClients (making made_second)
  pub fails_plan : MessagesAreOfTheirClients (making (record (made_keeping []) { plan = record client_plan { echo = 2 } })) → ⊥
  pub fails_other : MessagesAreOfTheirClients (making (record made_second { plan = client_plan })) → ⊥
  pub fails_link : MessagesAreOfTheirClients (making (record made_second { link = 3 })) → ⊥
  pub fails_controller : MessagesAreOfTheirClients (making (record (made_keeping []) { link = 0 })) → ⊥
  pub fails_unmade : MessagesAreOfTheirClients (making (record (made_keeping []) { link = 6 })) → ⊥

-- a run with one client, whose state is `c`
abbrev pub with_client : (c : ClientState) → List MessageMade → Past
with_client c made =
    run_in
    (record small_world { state = record small_world.state { ends = record small_world.state.ends { clients = c ∷ [] } } })
    (record blank { made = made })

-- what a client keeps that has a key on link 3
abbrev pub kept_terms : Terms
kept_terms = record { key = 1 ∷ []; receive = 5840; session = None }

abbrev pub kept_link : LinkState ClientTalk
kept_link = record { rest = []; talk = record { link = 3; joiner = None; phase = client_phase.Asked kept_terms Who } }

abbrev pub kept_running : ClientRunning
kept_running = record { task = client_plan; standing = client_link.On kept_link }

abbrev pub kept_client : ClientState
kept_client = record { running = Some kept_running; outcome = None }

-- a client that is in, with a key
abbrev pub in_client : ClientState
in_client = record { running = Some (record { task = client_plan; standing = client_link.Idle }); outcome = Some (client_outcome.In [] (1 ∷ []) 0) }

-- A key that a client keeps or is in with is that of a message that is written down: not where none is, or one with
-- another key, on another link, or of another client. Of who is in no link is asked.
pub record OfKeeping : Type 0 where
  pub meets : ClientsAreWrittenDown (with_client kept_client (made_keeping (1 ∷ []) ∷ []))
  pub fails : ClientsAreWrittenDown (with_client kept_client []) → ⊥
  pub fails_key : ClientsAreWrittenDown (with_client kept_client (made_keeping (1 ∷ 2 ∷ []) ∷ [])) → ⊥
  pub fails_link : ClientsAreWrittenDown (with_client kept_client (record (made_keeping (1 ∷ [])) { link = 4 } ∷ [])) → ⊥
  pub fails_client : ClientsAreWrittenDown (with_client kept_client (record (made_keeping (1 ∷ [])) { client = 1 } ∷ [])) → ⊥
  pub meets_in : ClientsAreWrittenDown (with_client in_client (record (made_keeping (1 ∷ [])) { link = 4 } ∷ []))
  pub fails_in : ClientsAreWrittenDown (with_client in_client []) → ⊥
  pub fails_in_key : ClientsAreWrittenDown (with_client in_client (record (made_keeping (1 ∷ 2 ∷ [])) { link = 4 } ∷ [])) → ⊥
  pub fails_in_client : ClientsAreWrittenDown (with_client in_client (record (made_keeping (1 ∷ [])) { client = 1; link = 4 } ∷ [])) → ⊥

-- A member that is begun anew is seen as who asks, with nothing under way. One that there isn't is not.
pub record OfSeeing : Type 0 where
  pub sees : seen_in small_world.state (OfMember 0) ≡ Some fresh_view
  pub none : seen_in small_world.state (OfMember 1) ≡ None

-- what PDC told, the newest first
abbrev pub telling : List Judged → List JudgementTold
telling hows = map (λ (how : Judged). record { at = 6; controller = 0; how = how }) hows

-- what another controller told, the newest first
abbrev pub told_elsewhere : List Judged → List JudgementTold
told_elsewhere hows = map (λ (how : Judged). record { at = 6; controller = 1; how = how }) hows

abbrev pub told_so : List JudgementTold → Past
told_so told = small_run (record blank { judgements = told })

-- At a controller as many calls were handed on at least as came out or wait yet: not where one came out and none was
-- handed on there, whatever another controller handed on; nor where two came out, or one did and one waits, and one was
-- handed on; nor where one waits and none was handed on. A call may be handed on and forgotten.
pub record OfTelling : Type 0 where
  pub calls : TellsOfForwards (told_so (telling (judged.Barred ∷ [])))
  pub meets : TellsOfForwards (told_so (telling (judged.Answered 0 ∷ judged.Passed 0 ∷ judged.Forwarded ∷ [])))
  pub waits : TellsOfForwards (run_in (record small_world { state = waiting_state }) (record blank { judgements = telling (judged.Forwarded ∷ []) }))
  pub forgotten : TellsOfForwards (told_so (telling (judged.Forwarded ∷ [])))
  pub fails : TellsOfForwards (told_so (telling (judged.Answered 0 ∷ judged.Passed 0 ∷ []))) → ⊥
  pub fails_twice : TellsOfForwards (told_so (telling (judged.Answered 0 ∷ judged.Answered 0 ∷ judged.Forwarded ∷ []))) → ⊥
  pub fails_elsewhere : TellsOfForwards (told_so (telling (judged.Answered 0 ∷ []) ++ told_elsewhere (judged.Forwarded ∷ []))) → ⊥
  pub fails_waiting : TellsOfForwards
      (run_in (record small_world { state = waiting_state }) (record blank { judgements = telling (judged.Answered 0 ∷ judged.Forwarded ∷ []) })) → ⊥
  pub fails_untold : TellsOfForwards (run_in (record small_world { state = waiting_state }) blank) → ⊥

-- ---- the accounts of controllers

-- a call that found no channel, and so leaves the accounts by which it was judged
abbrev pub judged_by : AccountTable → Judging
judged_by table = record judging { table = table; how = Some judged.NoChannel }

-- the small table with another count of bad passwords
abbrev pub locking_table : AccountTable
locking_table = record small_table { accounts = record small_account { bad_count = 5 } ∷ [] }

-- the controller has these accounts
abbrev pub standing_with : AccountTable → Past
standing_with table =
    run_in
    (record small_world {
      state = record small_world.state {
        ends = record small_world.state.ends { controllers = first_state table (codes "PDC") ∷ [] };
      };
    })
    blank

-- A call is judged by the accounts of the plan, or as the call before it left them, and the controller has what the
-- last one left: not where a call was judged by others, or the controller has others.
pub record OfTables : Type 0 where
  pub meets : TablesFollowVerdicts (small_run (record blank { judged = judged_by small_table ∷ judged_by small_table ∷ [] }))
  pub fails : TablesFollowVerdicts (small_run (record blank { judged = judged_by locking_table ∷ [] })) → ⊥
  pub fails_second : TablesFollowVerdicts (small_run (record blank { judged = judged_by locking_table ∷ judged_by small_table ∷ [] })) → ⊥
  pub fails_standing : TablesFollowVerdicts (standing_with locking_table) → ⊥

-- ---- schedules

-- one of each kind
abbrev pub each_move : List Move
each_move =
    move.Start 0
    ∷ move.Stranger 0
    ∷ move.Connect
    ∷ move.FailDial
    ∷ move.Onward
    ∷ move.Deliver 0 0
    ∷ move.Hand 0 false (5 ∷ [])
    ∷ move.Lose
    ∷ move.Shut 0
    ∷ move.Restart 0
    ∷ move.Tick 1
    ∷ []

-- moves of each kind are a schedule
pub record OfSchedules : Type 0 where
  pub meets : IsSchedule lost_plan each_move

-- ---- all near misses

pub record NearMissesTellApart : Type 0 where
  pub clear : OfClearRuns
  pub only : OfAcceptingOnly
  pub all : OfAcceptingAll
  pub answers : OfTakenAnswers
  pub short : OfShortResponses
  pub keys : OfKeys
  pub counts : OfCounts
  pub units : OfUnits
  pub handing_on : OfHandingOn
  pub whole : OfWhole
  pub marks : OfMarks
  pub asking : OfAsking
  pub written : OfWritingDown
  pub leaving : OfLeavingOut
  pub made : OfMaking
  pub keeping : OfKeeping
  pub seeing : OfSeeing
  pub telling : OfTelling
  pub tables : OfTables
  pub schedules : OfSchedules
