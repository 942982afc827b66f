-- Of each claim a run that was written down by hand on which it holds of something that it speaks of, and one on which
-- it doesn't hold: no claim is true, or false, of everything that could be written down of a run (this project's own
-- choice). Responses, credentials and keys in them are the values of their functions, so that what is needed of them
-- follows from the laws of the crates that define them. What isn't shown, since it goes through all ciphers and
-- digests, which aren't computed here: that a response to the same challenge under another hash is another one; a base
-- key that travels as zeros; a challenge hashed for extended session security that is another one; and a logon that
-- comes to its end (of `EachSucceeds`). Logons one at a time that succeed, and near misses of them, are cases of
-- `end_cases` (`cases/domain_world.py`).
use Rattle.std.specs.Prelude.{ℕ, ◌≡◌, Bool, ◌≢◌, ◌+◌, ◌-◌, ◌^◌, true, false, List, [], ◌∷◌, ◌++◌, replicate, Option, Some, None, codes}
use Rattle.wire_base.specs.declared.authenticator.Authenticator.{Authenticator}
use Rattle.ntlm_flags.specs.Flags.{negotiate_extended_sessionsecurity, negotiate_unicode}
use Rattle.authenticators.specs.Channels.{ChannelIdentity}
use Rattle.authenticators.specs.Sequences.{authenticator_of}
use Rattle.authenticators.specs.SecureChannels.{SecureChannelState, key_of_channel, channel_of}
use Rattle.outside.specs.declared.action.Judged.{Judged}
use Rattle.outside.specs.declared.action.Judged.TheVariants as judged
use Rattle.outside.specs.declared.action.Outcome.TheVariants as outcome
use Rattle.ntlm_messages.specs.declared.messages.Authenticate.{Authenticate}
use Rattle.ntlm_responses.specs.Responses.{hashed_challenge_of, response_ess_of, response_v1_of}
use Rattle.account_table.specs.AccountTable.{AccountTable}
use Rattle.account_table.specs.declared.account.Account.{Account}
use Rattle.account_table.specs.declared.account.Kind.TheVariants.{User}
use Rattle.end_links.specs.Serving.{ServedUnit}
use Rattle.logon_client.specs.declared.plan.AuthKind.TheVariants as auth
use Rattle.logon_client.specs.declared.plan.ClientPlan.{ClientPlan}
use Rattle.logon_stubs.specs.declared.calls.LogonCall.{LogonCall}
use Rattle.channel_client.specs.Machine.{fresh_requester}
use Rattle.channel_client.specs.declared.state.Pending.{Pending}
use Rattle.channel_client.specs.declared.state.Question.TheVariants as question
use Rattle.channel_client.specs.declared.state.Standing.TheVariants as standing
use Rattle.channel_client.specs.declared.state.Step.TheVariants as step
use Rattle.domain_controller.specs.State.{State as ControllerState}
use Rattle.domain_controller.specs.Trusting.{no_trusting}
use Rattle.controller_calls.specs.declared.state.Computers.{Computers}
use Rattle.domain_controller.specs.declared.state.Running.{Running as ControllerRunning}
use Rattle.member_server.specs.Machine.{caller_of}
use Rattle.member_server.specs.State.{State as MemberState}
use Rattle.member_server.specs.declared.plan.MemberPlan.{MemberPlan}
use Rattle.secret_change.specs.Secrets.{alone}
use Rattle.member_server.specs.Turns.{AtTurn}
use Rattle.channel_turns.specs.declared.state.Dialling.TheVariants as dialling
use Rattle.member_server.specs.declared.state.Running.{Running as MemberRunning}
use Rattle.member_server.specs.declared.state.Logon.{Logon}
use Rattle.channel_turns.specs.declared.state.TurnTalk.{TurnTalk}
use Rattle.channel_events.specs.Marks.{Calling, Mark, Plain, ReplyTo}
use Rattle.channel_events.specs.Seeds.{channel_seed}
use Rattle.step_notes.specs.ControllerNotes.{passing}
use Rattle.step_notes.specs.Marking.{clashes}
use Rattle.step_notes.specs.MemberNotes.{no_note}
use Rattle.step_notes.specs.Records.{Book, ChallengeSent, ChannelTurn, InUnit, JudgementTold, Judging, MessageMade, MessageTaken, OfMember, OutcomeTold, Outside, Source, blank}
use Rattle.controller_calls.specs.declared.calls.JudgedCall.TheVariants.{Network}
use Rattle.world_moves.specs.declared.links.Route.{Route}
use Rattle.world_moves.specs.declared.links.Route.TheVariants.{ToController, ToMember}
use Rattle.world_moves.specs.declared.plan.Plan.{Plan}
use Rattle.world_moves.specs.World.{World, first_world}
use Rattle.domain_world.specs.Claims.{AcceptsAllGranted, AcceptsOnlyGranted, ChallengesServeOnce, IsClear, IsLetInShortly, IsPlainlyAccepted, IsAccepted, KeysAgree, PassesTheNextCredential, ReplaysBySum, ShortResponsesLetInOnce, ShortResponsesServeOnce, TravelsAsZeros, Wraps, info_asked, taken_answer_on}
use Rattle.domain_world.specs.Claims.Names.{LetsInByName}
use Rattle.domain_world.specs.Claims.SharedSequences.{SequencesAreShared}
use Rattle.domain_world.specs.Past.{Past, any_turn_clash, note_turn, sent_at, with_answers}

-- ---- a world of one controller, PDC, one member, FILE1, and one user, ann, in which one challenge was drawn

abbrev pub small_hash : List ℕ
small_hash = replicate 16 7

abbrev pub small_account : Account
small_account = record {
  name = codes "ann";
  rid = 1000;
  hash = small_hash;
  full_name = [];
  group = 513;
  groups = [];
  disabled = false;
  locked = false;
  must_change = false;
  expires = 0;
  password_set = 0;
  password_expires = 0;
  workstations = [];
  extra_sids = [];
  bad_count = 0;
  controllers = [];
  changed = false;
  kind = User;
}

abbrev pub small_table : AccountTable
small_table = record {
  domain = codes "CORP";
  sid = record { authority = 5; numbers = 21 ∷ [] };
  policy = record { lockout = 0; ntlmv2_only = false };
  accounts = small_account ∷ [];
  trusts = [];
}

abbrev pub small_member : MemberPlan
small_member = record { computer = codes "FILE1"; domain = codes "CORP"; secrets = alone []; controller = 0 ∷ []; sealed = false }

abbrev pub small_plan : Plan
small_plan = record {
  tables = small_table ∷ [];
  controllers = codes "PDC" ∷ [];
  members = small_member ∷ [];
  clients = [];
  stations = [];
  hands_on = false;
  seals = false;
  now = 0;
  seed = [];
}

abbrev pub small_challenge : List ℕ
small_challenge = replicate 8 9

-- with these links, and these challenges drawn
abbrev pub world_of : List Route → List (List ℕ) → World
world_of links drawn =
    let w : World = first_world small_plan in
    record w { state = record w.state { links = links; chances = record w.state.chances { drawn = drawn } } }

-- links 3 and 4 are those of a client to the member
abbrev pub small_links : List Route
small_links = ToController 0 0 ∷ ToController 0 0 ∷ ToController 0 0 ∷ ToMember 0 0 ∷ ToMember 0 0 ∷ []

abbrev pub small_world : World
small_world = world_of small_links (small_challenge ∷ [])

abbrev pub run_in : World → Book → Past
run_in w book = record { plan = small_plan; world = w; book = book }

abbrev pub small_run : Book → Past
small_run book = run_in small_world book

-- ---- one logon: its call went out in unit 7 and was answered in unit 8

-- ann's message: her name in UTF-16, and her NTLMv1 response to the challenge of the link
abbrev pub small_message : Authenticate
small_message = record {
  flags = negotiate_unicode;
  lm = [];
  nt = response_v1_of small_hash small_challenge;
  domain = [];
  user = 97 ∷ 0 ∷ 110 ∷ 0 ∷ 110 ∷ 0 ∷ [];
  workstation = [];
  key = [];
  version = None;
  mic = None;
}

abbrev pub small_logon : ℕ → Logon
small_logon link =
    record { link = link; challenge = small_challenge; message = small_message; agreed = negotiate_unicode }

abbrev pub message_of_link : ℕ → MessageTaken
message_of_link link = record {
  at = 5;
  member = 0;
  link = link;
  bytes = [];
  logon = small_logon link;
  place = 0;
  call = Some 7;
  reply = Some 8;
}

abbrev pub message : MessageTaken
message = message_of_link 3

abbrev pub call_with : Authenticator → LogonCall
call_with given = record {
  server = None;
  computer = Some (codes "FILE1");
  authenticator = Some given;
  returned = None;
  info = info_asked message;
  validation = 3;
}

-- ann's call: it passed, and is checked on no channel
abbrev pub judging : Judging
judging = record {
  at = 6;
  controller = 0;
  name = codes "PDC";
  source = InUnit 7;
  number = 3;
  asked = Network (call_with (record { credential = []; timestamp = 0 }));
  checks = None;
  table = small_table;
  sessions = [];
  moment = 0;
  how = Some (judged.Passed 0);
  reply = Some 8;
}

abbrev pub challenge_on : ℕ → ChallengeSent
challenge_on link = record { at = 4; member = 0; link = link; draw = 0; challenge = small_challenge; bytes = [] }

abbrev pub told_of_link : ℕ → OutcomeTold
told_of_link link =
    record { at = 9; member = 0; link = link; outcome = outcome.In (codes "CORP") (codes "ann") (1 ∷ []) }

abbrev pub one_logon : Book
one_logon = record blank {
  judged = judging ∷ [];
  challenges = challenge_on 3 ∷ [];
  taken = 3 ∷ [];
  messages = message ∷ [];
  told = told_of_link 3 ∷ [];
}

-- the message was made by a client that kept this key
abbrev pub client_plan : ClientPlan
client_plan = record {
  server = 1 ∷ [];
  domain = [];
  user = [];
  workstation = [];
  hash = small_hash;
  level = 2;
  auth = auth.V1;
  echo = 0;
}

abbrev pub made_keeping : List ℕ → MessageMade
made_keeping key = record { at = 5; client = 0; link = 3; plan = client_plan; challenge = []; bytes = []; key = key }

-- ---- a channel of FILE1

abbrev pub small_channel : List ℕ → SecureChannelState
small_channel seed = record { secret = []; client = []; server = []; flags = 0; kind = None; seed = seed; awaited = None }

-- which channel it is
abbrev pub small_name : ChannelIdentity
small_name = channel_of 0 (codes "FILE1") (small_channel [])

abbrev pub small_computers : List ℕ → Computers
small_computers seed = record { pending = []; channels = (codes "FILE1", small_channel seed) ∷ []; sessions = [] }

-- a call on it that passed, with an authenticator of this timestamp
abbrev pub on_channel : ℕ → Judging
on_channel timestamp = record judging {
  asked = Network (call_with (record { credential = []; timestamp = timestamp }));
  checks = Some (small_channel []);
}

abbrev pub judged_as : Judged → Judging → Judging
judged_as how j = record j { how = Some how }

-- the call was judged at another controller
abbrev pub elsewhere : Judging → Judging
elsewhere j = record j { controller = 1 }

-- a timestamp that moves a seed by 2^32; one that does with a timestamp of 0 before it; and one that does with another
-- of 0 behind it too
abbrev pub last_timestamp : ℕ
last_timestamp = 2 ^ 32 - 1

abbrev pub second_timestamp : ℕ
second_timestamp = 2 ^ 32 - 2

abbrev pub third_timestamp : ℕ
third_timestamp = 2 ^ 32 - 3

-- ---- of each claim

-- a seed that comes round: two calls passed in a row with the last timestamp, or with two calls between, whose
-- timestamps do it together; with a timestamp of 0 it doesn't, nor where the second call passed on another channel
pub record OfWraps : Type 0 where
  pub meets : Wraps (on_channel last_timestamp ∷ on_channel last_timestamp ∷ [])
  pub meets_later : Wraps (on_channel 0 ∷ on_channel 0 ∷ on_channel third_timestamp ∷ on_channel 0 ∷ [])
  pub fails : Wraps (on_channel 0 ∷ on_channel 0 ∷ []) → ⊥
  pub fails_apart : Wraps (elsewhere (on_channel last_timestamp) ∷ on_channel last_timestamp ∷ []) → ⊥

-- a call passed on the channel in unit 0 of the bag, which was made for this
abbrev pub passed_in : Mark → Book
passed_in mark =
    with_answers (passing (Some small_name) (on_channel 0) ∷ []) (Some 0) (8 ∷ []) (record blank { sent = sent_at 0 mark ∷ [] })

-- the call passed on the channel in a unit from outside
abbrev pub passed_outside : Book
passed_outside = with_answers (passing (Some small_name) (record (on_channel 0) { source = Outside }) ∷ []) None (8 ∷ []) blank

-- a member took an answer on the channel in unit 0 of the bag, which was made for this, whatever turn it was in
abbrev pub taken_in : Mark → ServedUnit AtTurn TurnTalk → Book
taken_in mark served =
    note_turn (record no_note { checked = Some small_name }) served (Some 0) None (record blank { sent = sent_at 0 mark ∷ [] })

-- whether a unit of that mark clashes where a controller's turn took it
abbrev pub asked_in : Mark → Bool
asked_in mark = any_turn_clash (record no_note { checked = Some small_name } ∷ []) (Some 0) (sent_at 0 mark ∷ [])

-- A clash at a controller: not where the unit was a call on the channel, or bytes from outside, but where it was made
-- for no channel, or for another controller's. A clash at a member is told apart by the reply in the same way.
pub record OfClashes : Type 0 where
  pub alike : (passed_in (Calling small_name 3 0)).clash ≡ false
  pub outside : passed_outside.clash ≡ false
  pub none : (passed_in Plain).clash ≡ true
  pub other : (passed_in (Calling (record small_name { controller = 1 }) 3 0)).clash ≡ true
  pub taken_alike : (served : ServedUnit AtTurn TurnTalk) → (taken_in (ReplyTo small_name 3 7) served).clash ≡ false
  pub taken_none : (served : ServedUnit AtTurn TurnTalk) → (taken_in Plain served).clash ≡ true
  pub taken_other : (served : ServedUnit AtTurn TurnTalk) → (taken_in (ReplyTo (record small_name { controller = 1 }) 3 7) served).clash ≡ true
  -- a unit that a controller's turn took clashes alike
  pub asked_alike : asked_in (ReplyTo small_name 3 7) ≡ false
  pub asked_none : asked_in Plain ≡ true
  pub asked_other : asked_in (ReplyTo (record small_name { controller = 1 }) 3 7) ≡ true
  -- a run with no clash, in which one call passed, is clear, and one with a clash isn't
  pub clear : IsClear (passed_in (Calling small_name 3 0))
  pub not_clear : IsClear (passed_in Plain) → ⊥

-- the answer that was taken: the step at which the call of unit 7 passed, whose reply is unit 8; not on another link,
-- nor where the member took another unit, where its call went out in another unit, or where the call was barred
pub record OfTakenAnswers : Type 0 where
  pub meets : taken_answer_on 3 one_logon ≡ Some judging
  pub other_link : taken_answer_on 4 one_logon ≡ None
  pub other_reply : taken_answer_on 3 (record one_logon { messages = record message { reply = Some 9 } ∷ [] }) ≡ None
  pub other_call : taken_answer_on 3 (record one_logon { messages = record message { call = Some 6 } ∷ [] }) ≡ None
  pub barred : taken_answer_on 3 (record one_logon { judged = judged_as judged.Barred judging ∷ [] }) ≡ None

abbrev pub replay_of : Judging → Judging → Past
replay_of second first = small_run (record blank { judged = second ∷ first ∷ [] })

-- with a call between
abbrev pub replay_over : Judging → Judging → Judging → Past
replay_over second between first = small_run (record blank { judged = second ∷ between ∷ first ∷ [] })

-- replays: the same authenticator is barred where the seed moved by 1, and passes where it moved by 2^32, by one call
-- or by two; not the other way
pub record OfReplays : Type 0 where
  pub barred : ReplaysBySum (replay_of (judged_as judged.Barred (on_channel 0)) (on_channel 0))
  pub passed : ReplaysBySum (replay_of (on_channel last_timestamp) (on_channel last_timestamp))
  pub passed_over : ReplaysBySum (replay_over (on_channel 0) (on_channel second_timestamp) (on_channel 0))
  pub fails : ReplaysBySum (replay_of (on_channel 0) (on_channel 0)) → ⊥
  pub fails_over : ReplaysBySum (replay_over (judged_as judged.Barred (on_channel 0)) (on_channel second_timestamp) (on_channel 0)) → ⊥

-- one message on two links, whose CHALLENGE came of one draw, accepted on both
abbrev pub two_logons : Book
two_logons = record one_logon {
  challenges = challenge_on 3 ∷ challenge_on 4 ∷ [];
  taken = 3 ∷ 4 ∷ [];
  messages = message ∷ message_of_link 4 ∷ [];
  told = told_of_link 3 ∷ told_of_link 4 ∷ [];
}

-- the hash that is stored for ann is another one
abbrev pub other_table : AccountTable
other_table = record small_table { accounts = record small_account { hash = replicate 16 8 } ∷ [] }

-- the second one's call was judged by that
abbrev pub other_judging : Judging
other_judging = record judging { source = InUnit 17; table = other_table; reply = Some 18 }

abbrev pub two_hashes : Book
two_hashes = record two_logons {
  judged = other_judging ∷ judging ∷ [];
  messages = message ∷ record (message_of_link 4) { call = Some 17; reply = Some 18 } ∷ [];
}

-- the message was this one, with these flags agreed
abbrev pub taken_as : Authenticate → ℕ → MessageTaken → MessageTaken
taken_as what agreed one = record one { logon = record one.logon { message = what; agreed = agreed } }

abbrev pub two_as : Authenticate → ℕ → Book
two_as what agreed =
    record two_logons { messages = taken_as what agreed message ∷ taken_as what agreed (message_of_link 4) ∷ [] }

-- a response of 25 bytes, and one of extended session security
abbrev pub long_message : Authenticate
long_message = record small_message { nt = replicate 25 0 }

abbrev pub extended_message : Authenticate
extended_message = record small_message {
  lm = replicate 24 1;
  nt = response_ess_of small_hash small_challenge (replicate 8 1);
}

abbrev pub extended_flags : ℕ
extended_flags = negotiate_unicode + negotiate_extended_sessionsecurity

-- short responses: one was accepted, on one link; not where one was accepted on two. The claim says nothing of one that
-- was accepted by two hashes, of one that has not 24 bytes, and of one that answers a hashed challenge. So it lets in
-- on one link: not on two, though it may be refused on another
pub record OfShortResponses : Type 0 where
  pub accepted : IsPlainlyAccepted (small_run one_logon) message small_hash
  pub meets : ShortResponsesServeOnce (small_run one_logon)
  pub fails : ShortResponsesServeOnce (small_run two_logons) → ⊥
  pub other_hash : ShortResponsesServeOnce (small_run two_hashes)
  pub long : ShortResponsesServeOnce (small_run (two_as long_message negotiate_unicode))
  pub extended : hashed_challenge_of small_challenge (replicate 8 1) ≢ small_challenge →
      ShortResponsesServeOnce (small_run (two_as extended_message extended_flags))
  pub lets_in : IsLetInShortly (small_run one_logon) (told_of_link 3) (response_v1_of small_hash small_challenge) small_hash message
  pub meets_once : ShortResponsesLetInOnce (small_run one_logon)
  pub fails_once : ShortResponsesLetInOnce (small_run two_logons) → ⊥
  pub refused : ShortResponsesLetInOnce (small_run (record two_logons { told = told_of_link 3 ∷ record (told_of_link 4) { outcome = outcome.Out 5 } ∷ [] }))

-- the member's channel is open, with that seed, and this turn is out
abbrev pub open_running : Option Pending → List ℕ → MemberRunning
open_running turn seed = record {
  logons = record {
    plan = small_member;
    channel = record (fresh_requester (caller_of small_member)) { standing = standing.Open (small_channel seed); turn = turn };
    asked = [];
  };
  links = [];
  dialling = dialling.Nothing;
  sealing = None;
}

abbrev pub open_member : Option Pending → List ℕ → MemberState
open_member turn seed = record { running = Some (open_running turn seed) }

-- the controller keeps that channel, with that seed
abbrev pub keeping_running : List ℕ → ControllerRunning
keeping_running seed = record { computers = small_computers seed; links = [] }

abbrev pub keeping_controller : List ℕ → ControllerState
keeping_controller seed =
    record { table = small_table; name = codes "PDC"; running = Some (keeping_running seed); trusting = no_trusting }

-- a world whose member and controller have an open channel, with these seeds
abbrev pub world_open : Option Pending → List ℕ → List ℕ → World
world_open turn seed other =
    let w : World = small_world in
    record w {
      state = record w.state {
        ends = record w.state.ends { members = open_member turn seed ∷ []; controllers = keeping_controller other ∷ [] };
      };
    }

abbrev pub run_open : Book → Option Pending → List ℕ → List ℕ → Past
run_open book turn seed other = run_in (world_open turn seed other) book

-- the client's credential, where no turn moved it; and after one turn, and after two, with a timestamp of 0 each
abbrev pub small_seed : List ℕ
small_seed = channel_seed small_name []

abbrev pub seed_after_one : List ℕ
seed_after_one = channel_seed small_name (0 ∷ [])

abbrev pub seed_after_two : List ℕ
seed_after_two = channel_seed small_name (0 ∷ 0 ∷ [])

-- a turn of the member
abbrev pub small_turn : ChannelTurn
small_turn = record { requester = OfMember 0; channel = small_name; timestamp = 0 }

abbrev pub one_turn : Book
one_turn = record blank { turns = small_turn ∷ [] }

abbrev pub two_turns : Book
two_turns = record blank { turns = small_turn ∷ small_turn ∷ [] }

-- a turn whose Logon call went out
abbrev pub turn_out : Pending
turn_out = record { number = 3; place = 0; step = step.Reply question.Logon }

-- a call passed in a unit, or from outside
abbrev pub passed_from : Source → Book
passed_from source = record blank { judged = record (on_channel 0) { source = source } ∷ [] }

-- Shared sequences: both ends have the client's credential; not where the member's seed has one byte, nor where the
-- controller's has. With a turn out the controller has the seed after it, or the one before; not where the turn isn't
-- out any more, nor where it is two turns behind. Where a credential from outside passed, the claim says nothing of the
-- controller's seed.
pub record OfSequences : Type 0 where
  pub meets : SequencesAreShared (run_open blank None small_seed small_seed)
  pub fails : SequencesAreShared (run_open blank None (1 ∷ []) small_seed) → ⊥
  pub fails_other : SequencesAreShared (run_open blank None small_seed (1 ∷ [])) → ⊥
  pub turn_passed : SequencesAreShared (run_open one_turn (Some turn_out) seed_after_one seed_after_one)
  pub turn_behind : SequencesAreShared (run_open one_turn (Some turn_out) seed_after_one small_seed)
  pub fails_behind : SequencesAreShared (run_open one_turn None seed_after_one small_seed) → ⊥
  pub fails_two_behind : SequencesAreShared (run_open two_turns (Some turn_out) seed_after_two small_seed) → ⊥
  pub foreign : SequencesAreShared (run_open (passed_from Outside) None small_seed (1 ∷ []))
  pub fails_own : SequencesAreShared (run_open (passed_from (InUnit 7)) None small_seed (1 ∷ [])) → ⊥

-- ---- logons

-- one challenge was drawn twice
abbrev pub drawn_twice : World
drawn_twice = world_of small_links (small_challenge ∷ small_challenge ∷ [])

-- the link took two messages
abbrev pub taken_twice : Book
taken_twice = record one_logon { taken = 3 ∷ 3 ∷ [] }

-- challenges that serve once: not where a link took two messages, nor where two draws are alike
pub record OfChallenges : Type 0 where
  pub meets : ChallengesServeOnce (small_run one_logon)
  pub fails : ChallengesServeOnce (small_run taken_twice) → ⊥
  pub fails_draws : ChallengesServeOnce (run_in drawn_twice one_logon) → ⊥

-- the logon, but for the step that gave the answer, the accounts of that step, or the response
abbrev pub answered_by : Judging → Past
answered_by j = small_run (record one_logon { judged = j ∷ [] })

abbrev pub by_accounts : List Account → Judging
by_accounts accounts = record judging { table = record small_table { accounts = accounts } }

abbrev pub with_response : List ℕ → MessageTaken
with_response nt = taken_as (record small_message { nt = nt }) negotiate_unicode message

abbrev pub response_was : List ℕ → Past
response_was nt = small_run (record one_logon { messages = with_response nt ∷ [] })

-- the call passed at a later step too, which answered in unit 9
abbrev pub passed_twice : Past
passed_twice = small_run (record one_logon { judged = record judging { at = 7; reply = Some 9 } ∷ judging ∷ [] })

-- a world in which another member accepted link 3
abbrev pub other_member_accepts : World
other_member_accepts =
    world_of (ToController 0 0 ∷ ToController 0 0 ∷ ToController 0 0 ∷ ToMember 0 1 ∷ []) (small_challenge ∷ [])

-- accepting only what is granted: not where no message was taken, where the call was barred, or where another member
-- tells that somebody is let in
pub record OfAcceptingOnly : Type 0 where
  pub meets : AcceptsOnlyGranted (small_run one_logon)
  pub fails : AcceptsOnlyGranted (small_run (record one_logon { messages = [] })) → ⊥
  pub fails_barred : AcceptsOnlyGranted (answered_by (judged_as judged.Barred judging)) → ⊥
  pub fails_elsewhere : AcceptsOnlyGranted (small_run (record one_logon { told = record (told_of_link 3) { member = 1 } ∷ [] })) → ⊥
  -- accepting isn't met where another controller answered than that of the plan, or the call passed at two steps
  pub fails_controller : AcceptsOnlyGranted (answered_by (elsewhere judging)) → ⊥
  pub fails_twice : AcceptsOnlyGranted passed_twice → ⊥
  -- accepting isn't met where the account is disabled, or isn't there
  pub fails_disabled : AcceptsOnlyGranted (answered_by (by_accounts (record small_account { disabled = true } ∷ []))) → ⊥
  pub fails_unknown : AcceptsOnlyGranted (answered_by (by_accounts [])) → ⊥
  -- accepting isn't met where the response is that to another challenge, or has 25 bytes
  pub fails_response : AcceptsOnlyGranted (response_was (response_v1_of small_hash (replicate 8 8))) → ⊥
  pub fails_long : AcceptsOnlyGranted (response_was (replicate 25 0)) → ⊥
  -- accepting isn't met where the challenge was drawn twice or not at all, or was sent on another link, the link took
  -- two messages, or another member accepted it
  pub fails_draws : AcceptsOnlyGranted (run_in drawn_twice one_logon) → ⊥
  pub fails_undrawn : AcceptsOnlyGranted (run_in (world_of small_links []) one_logon) → ⊥
  pub fails_unsent : AcceptsOnlyGranted (small_run (record one_logon { challenges = challenge_on 4 ∷ [] })) → ⊥
  pub fails_taken : AcceptsOnlyGranted (small_run taken_twice) → ⊥
  pub fails_link : AcceptsOnlyGranted (run_in other_member_accepts one_logon) → ⊥

-- accepting all that is granted: not where nothing was told, it was of another link, or it was a refusal; but nothing
-- has to be told of a call that was barred, nor of a disabled account
pub record OfAcceptingAll : Type 0 where
  pub meets : AcceptsAllGranted (small_run one_logon)
  pub fails : AcceptsAllGranted (small_run (record one_logon { told = [] })) → ⊥
  pub fails_elsewhere : AcceptsAllGranted (small_run (record one_logon { told = told_of_link 4 ∷ [] })) → ⊥
  pub fails_out : AcceptsAllGranted (small_run (record one_logon { told = record (told_of_link 3) { outcome = outcome.Out 5 } ∷ [] })) → ⊥
  pub barred : AcceptsAllGranted (small_run (record one_logon { judged = judged_as judged.Barred judging ∷ []; told = [] }))
  pub disabled : AcceptsAllGranted (small_run (record one_logon { judged = by_accounts (record small_account { disabled = true } ∷ []) ∷ []; told = [] }))

abbrev pub made_as : MessageMade → Past
made_as made = small_run (record one_logon { made = made ∷ [] })

-- keys that agree: not where the client kept another one. The claim says nothing of a client whose message has other
-- bytes or answers another CHALLENGE, nor of one whose hash isn't the one stored, nor of a base key that travels as
-- zeros
pub record OfKeys : Type 0 where
  pub meets : KeysAgree (made_as (made_keeping (1 ∷ [])))
  pub fails : KeysAgree (made_as (made_keeping (2 ∷ []))) → ⊥
  pub other_message : KeysAgree (made_as (record (made_keeping (2 ∷ [])) { bytes = 1 ∷ [] }))
  pub other_challenge : KeysAgree (made_as (record (made_keeping (2 ∷ [])) { challenge = 1 ∷ [] }))
  pub other_hash : KeysAgree (made_as (record (made_keeping (2 ∷ [])) { plan = record client_plan { hash = [] } }))
  pub zeros : TravelsAsZeros (on_channel 0) (info_asked message) →
      KeysAgree (small_run (record one_logon { judged = on_channel 0 ∷ []; made = made_keeping (2 ∷ []) ∷ [] }))

-- ---- credentials

-- a call with the next credential of the channel
abbrev pub next_logon : LogonCall
next_logon = call_with (authenticator_of (key_of_channel (small_channel [])) [] 0)

abbrev pub next_call : Judging
next_call = record (on_channel 0) { asked = Network next_logon }

abbrev pub told_as : Judged → JudgementTold
told_as how = record { at = 6; controller = 0; how = how }

abbrev pub judged_once : Judging → List JudgementTold → Past
judged_once j told = small_run (record blank { judged = j ∷ []; judgements = told })

-- passing the next credential: it is told to have passed; not that it was barred, nor that a call passed where there is
-- no channel, nor without telling of a call that was heard. What a logon that was asked of another controller came to
-- judges none
pub record OfCredentials : Type 0 where
  pub meets : PassesTheNextCredential (judged_once next_call (told_as (judged.Passed 0) ∷ []))
  pub no_channel : PassesTheNextCredential (judged_once (judged_as judged.NoChannel judging) (told_as judged.NoChannel ∷ []))
  pub fails_barred : PassesTheNextCredential (judged_once (judged_as judged.Barred next_call) (told_as judged.Barred ∷ [])) → ⊥
  pub fails : PassesTheNextCredential (judged_once judging (told_as (judged.Passed 0) ∷ [])) → ⊥
  pub fails_silent : PassesTheNextCredential (judged_once next_call []) → ⊥
  pub answered : PassesTheNextCredential (judged_once next_call (told_as (judged.Passed 0) ∷ told_as (judged.Answered 0) ∷ []))
  pub fails_answered : PassesTheNextCredential (judged_once next_call (told_as (judged.Answered 0) ∷ [])) → ⊥
  -- a call that is handed on has it too
  pub handed_on : PassesTheNextCredential (judged_once (judged_as judged.Forwarded next_call) (told_as judged.Forwarded ∷ []))
  pub fails_handed_on : PassesTheNextCredential (judged_once (judged_as judged.Forwarded judging) (told_as judged.Forwarded ∷ [])) → ⊥

-- ---- all at once

-- the call, with the next credential of the channel, in unit 7, and the answer, in unit 8
abbrev pub whole_call : Judging
whole_call = record judging {
  asked = Network (call_with (authenticator_of (key_of_channel (small_channel small_seed)) small_seed 0));
  checks = Some (small_channel small_seed);
}

abbrev pub whole_book : Book
whole_book = record one_logon {
  sent = replicate 7 (sent_at 0 Plain) ++ sent_at 5 (Calling small_name 3 0) ∷ sent_at 6 (ReplyTo small_name 3 7) ∷ [];
  judged = whole_call ∷ [];
  judgements = told_as (judged.Passed 0) ∷ [];
  turns = small_turn ∷ [];
  made = made_keeping (1 ∷ []) ∷ [];
}

-- the channel stands at both ends after it
abbrev pub whole_run : Past
whole_run = run_open whole_book None seed_after_one seed_after_one

-- The claims on the logons of one run, together.
pub record MeetsAll (run : Past) : Type 0 where
  pub challenges : ChallengesServeOnce run
  pub credentials : PassesTheNextCredential run
  pub replays : ReplaysBySum run
  pub only : IsClear run.book → AcceptsOnlyGranted run
  pub all : IsClear run.book → AcceptsAllGranted run
  pub keys : IsClear run.book → KeysAgree run
  pub sequences : IsClear run.book → SequencesAreShared run
  pub responses : IsClear run.book → ShortResponsesServeOnce run
  pub once : IsClear run.book → ShortResponsesLetInOnce run
  pub names : LetsInByName run

-- One run meets them at once, and is clear: neither the call nor the answer makes a clash. One logon was granted in it,
-- let in and told, by a call with the next credential of a channel that stands.
pub record OfAll : Type 0 where
  pub call : clashes (Some small_name) (Some 7) whole_book.sent ≡ false
  pub reply : clashes (Some small_name) (Some 8) whole_book.sent ≡ false
  pub clear : IsClear whole_book
  pub accepted : IsAccepted whole_run message
  pub meets : MeetsAll whole_run
