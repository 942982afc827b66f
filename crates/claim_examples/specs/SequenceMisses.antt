-- Near misses of the claim on sequences (this project's own choice): runs that differ in one thing from one that meets
-- it. Seeds are written by the ciphers of MS-NRPC 3.1.4.4 and 3.1.4.5 and not by the claim's own words, so that a claim
-- on another seed is told apart.
use Rattle.std.specs.Prelude.{ℕ, true, List, [], ◌∷◌, map, replicate, Option, Some, None, codes}
use Rattle.outside.specs.declared.action.Judged.TheVariants as judged
use Rattle.channel_keys.specs.Credentials.{cred_of}
use Rattle.channel_keys.specs.SessionKeys.{key_of}
use Rattle.authenticators.specs.Channels.{ChannelIdentity}
use Rattle.authenticators.specs.Sequences.{add_to}
use Rattle.authenticators.specs.SecureChannels.{SecureChannelState, channel_of}
use Rattle.channel_client.specs.declared.state.Pending.{Pending}
use Rattle.channel_client.specs.declared.state.Standing.TheVariants as standing
use Rattle.channel_turns.specs.declared.state.Dialling.{Dialling}
use Rattle.channel_turns.specs.declared.state.Dialling.TheVariants as dialling
use Rattle.domain_controller.specs.State.{State as ControllerState}
use Rattle.domain_controller.specs.Trusting.{no_trusting}
use Rattle.member_server.specs.State.{State as MemberState}
use Rattle.member_server.specs.declared.plan.MemberPlan.{MemberPlan}
use Rattle.member_server.specs.declared.state.Running.{Running as MemberRunning}
use Rattle.channel_events.specs.Marks.{Calling, Mark, Plain, ReplyTo}
use Rattle.step_notes.specs.Records.{Book, ChannelTurn, InUnit, Judging, OfMember, Outside, blank}
use Rattle.world_moves.specs.declared.bag.BagUnit.{BagUnit}
use Rattle.world_moves.specs.declared.links.EndId.{EndId}
use Rattle.world_moves.specs.declared.links.EndId.TheVariants.{Controller, Member, Client}
use Rattle.world_moves.specs.declared.links.LinkKind.TheVariants as kind
use Rattle.world_moves.specs.World.{World}
use Rattle.domain_world.specs.Accepting.Sequences.{RepliesAnswerCalls, TurnsAreCalled}
use Rattle.domain_world.specs.Claims.SharedSequences.{OneTurnIsOut, SequencesAreOwn, SequencesAreShared}
use Rattle.domain_world.specs.Past.{Past, sent_at}
use Rattle.claim_examples.specs.ClaimExamples.{elsewhere, judged_as, on_channel, one_turn, small_channel, open_member, open_running, run_in, run_open, small_challenge, small_member, small_name, small_run, small_seed, small_table, small_world, seed_after_one, turn_out}

-- ---- a channel with challenges of 8 bytes

abbrev pub server_challenge : List ℕ
server_challenge = replicate 8 8

abbrev pub channel_secret : List ℕ
channel_secret = replicate 16 5

abbrev pub kept_whole : List ℕ → SecureChannelState
kept_whole seed =
    record { secret = channel_secret; client = small_challenge; server = server_challenge; flags = 3; kind = None; seed = seed; awaited = None }

abbrev pub whole_name : ChannelIdentity
whole_name = channel_of 0 (codes "FILE1") (kept_whole [])

-- the client's credential, moved so far
abbrev pub moved_seed : ℕ → List ℕ
moved_seed moved = add_to (cred_of (key_of channel_secret small_challenge server_challenge 3) small_challenge) moved

-- ---- worlds and books

-- the ends, and the plans of the members
abbrev pub world_by : List MemberPlan → List MemberState → List ControllerState → World
world_by plans members controllers =
    let w : World = small_world in
    record w {
      state = record w.state {
        ends = record w.state.ends { members = members; controllers = controllers };
        member_plans = plans;
      };
    }

-- the member's channel is this one, and this turn is out
abbrev pub member_on : Option Pending → SecureChannelState → MemberState
member_on turn o =
    let running : MemberRunning = open_running turn [] in
    record {
      running = Some (record running {
        logons = record running.logons { channel = record running.logons.channel { standing = standing.Open o } };
      });
    }

-- the controller keeps that channel, under that name
abbrev pub controller_on : List ℕ → SecureChannelState → ControllerState
controller_on name c = record {
  table = small_table;
  name = codes "PDC";
  running = Some (record { computers = record { pending = []; channels = (name, c) ∷ []; sessions = [] }; links = [] });
  trusting = no_trusting;
}

-- one member and one controller
abbrev pub run_by : Book → Option Pending → SecureChannelState → List ℕ → SecureChannelState → Past
run_by book turn o name c =
    run_in (world_by (small_member ∷ []) (member_on turn o ∷ []) (controller_on name c ∷ [])) book

-- a run in which both ends keep the channel, with these seeds
abbrev pub run_whole : Book → Option Pending → List ℕ → List ℕ → Past
run_whole book turn seed other = run_by book turn (kept_whole seed) (codes "FILE1") (kept_whole other)

abbrev pub turn_at : ℕ → ChannelIdentity → ℕ → ChannelTurn
turn_at member channel timestamp = record { requester = OfMember member; channel = channel; timestamp = timestamp }

-- the member had turns on the channel with the timestamps 5 and 7; between them are one of another member, and one on
-- another channel
abbrev pub mixed_turns : Book
mixed_turns = record blank {
  turns = turn_at 0 whole_name 5 ∷ turn_at 1 whole_name 100 ∷ turn_at 0 small_name 200 ∷ turn_at 0 whole_name 7 ∷ [];
}

-- a call came from outside
abbrev pub judged_outside : Judging → Book
judged_outside j = record blank { judged = record j { source = Outside } ∷ [] }

-- two members, of which the second has that seed
abbrev pub run_second : List ℕ → Past
run_second seed =
    run_in
    (world_by (small_member ∷ small_member ∷ []) (open_member None small_seed ∷ open_member None seed ∷ [])
    (controller_on (codes "FILE1") (small_channel small_seed) ∷ []))
    blank

-- the member's controller is the second one, which has that seed
abbrev pub run_other : List ℕ → Past
run_other seed =
    run_in
    (world_by (record small_member { controller = 1 ∷ [] } ∷ []) (open_member None small_seed ∷ [])
    (controller_on (codes "FILE1") (small_channel small_seed) ∷ controller_on (codes "FILE1") (small_channel seed) ∷ []))
    blank

-- ---- the claim

-- Shared sequences: both seeds are the client's credential moved by 5 and 7, each plus one, and so by 14. With a turn
-- out the controller's may be moved by 6; not by 8, which leaves the other turn out, and the member's own not by 12. A
-- controller that keeps another channel is passed over. The claim isn't met where the seed of the second member is
-- another, or that of a second controller, or of a channel that is kept under the name in other letters; nor where
-- seeds differ and a call from outside was barred, or passed on another channel.
pub record OfSequenceMisses : Type 0 where
  pub alike : SequencesAreShared (run_whole mixed_turns None (moved_seed 14) (moved_seed 14))
  pub behind : SequencesAreShared (run_whole mixed_turns (Some turn_out) (moved_seed 14) (moved_seed 6))
  pub fails_first : SequencesAreShared (run_whole mixed_turns (Some turn_out) (moved_seed 14) (moved_seed 8)) → ⊥
  pub fails_out : SequencesAreShared (run_whole mixed_turns (Some turn_out) (moved_seed 12) (moved_seed 12)) → ⊥
  pub other_channel : SequencesAreShared (run_by mixed_turns None (kept_whole (moved_seed 14)) (codes "FILE1") (record (kept_whole []) { server = [] }))
  pub fails_second : SequencesAreShared (run_second (1 ∷ [])) → ⊥
  pub fails_controller : SequencesAreShared (run_other (1 ∷ [])) → ⊥
  pub fails_name : SequencesAreShared (run_by blank None (small_channel small_seed) (codes "file1") (small_channel (1 ∷ []))) → ⊥
  pub fails_barred : SequencesAreShared (run_open (judged_outside (judged_as judged.Barred (on_channel 0))) None small_seed (1 ∷ [])) → ⊥
  pub fails_elsewhere : SequencesAreShared (run_open (judged_outside (elsewhere (on_channel 0))) None small_seed (1 ∷ [])) → ⊥
  -- of the member alone: whatever the controller has
  pub own : SequencesAreOwn (run_whole mixed_turns None (moved_seed 14) [])
  pub fails_own : SequencesAreOwn (run_whole mixed_turns None (moved_seed 12) []) → ⊥

-- ---- one turn at a time

-- a run after which dials of those ends wait, where there is no other end than the controller with those turns
abbrev pub run_dials : List EndId → Past
run_dials ends =
    let run : Past = run_by blank None (small_channel small_seed) (codes "FILE1") (small_channel small_seed) in
    record run {
      world = record run.world {
        state = record run.world.state { dials = map (λ (end : EndId). record { end = end; peer = [] }) ends };
      };
    }

-- a controller with a trust for each of the turns, which is out there if there is one; the dial or link of the
-- controller's turn is the second trust's, and is so far
abbrev pub asking_controller : (turns : List (Option Pending)) (how : Dialling) → ControllerState
asking_controller turns how = record (controller_on (codes "FILE1") (small_channel small_seed)) {
  trusting = record no_trusting {
    queues = record { requesters = map (λ (turn : Option Pending). (open_running turn []).logons.channel) turns; forwarded = [] };
    turn_of = 1;
    dialling = how;
  };
}

-- the dial of a turn waits, with no bind
abbrev pub dial_waits : Dialling
dial_waits = dialling.Waits tt []

-- a run after which these ends' dials wait, where there is no other end than that controller
abbrev pub run_trusting : (turns : List (Option Pending)) (how : Dialling) (ends : List EndId) → Past
run_trusting turns how ends =
    let w : World = world_by [] [] (asking_controller turns how ∷ []) in
    run_in
    (record w { state = record w.state { dials = map (λ (end : EndId). record { end = end; peer = [] }) ends } })
    blank

-- One turn is out: dials of others don't count; not where two dials of the member wait, where one does for which no
-- turn waits, or where a turn is out that wasn't dialled. At a controller with two trusts one turn is out, that of the
-- second; not where one of each is, where it is the first's, where two dials of the controller wait, where one does for
-- which no turn waits, or where a turn is out that wasn't dialled.
pub record OfOneTurn : Type 0 where
  pub meets : OneTurnIsOut (run_dials (Member 1 ∷ Client 0 ∷ []))
  pub fails_two : OneTurnIsOut (run_dials (Member 0 ∷ Client 0 ∷ Member 0 ∷ [])) → ⊥
  pub fails_idle : OneTurnIsOut (run_dials (Member 0 ∷ [])) → ⊥
  pub fails_undialled : OneTurnIsOut (run_by blank (Some turn_out) (small_channel small_seed) (codes "FILE1") (small_channel small_seed)) → ⊥
  pub trusts : OneTurnIsOut (run_trusting (None ∷ Some turn_out ∷ []) dial_waits (Controller 0 ∷ Client 0 ∷ []))
  pub fails_both : OneTurnIsOut (run_trusting (Some turn_out ∷ Some turn_out ∷ []) dial_waits (Controller 0 ∷ [])) → ⊥
  pub fails_first : OneTurnIsOut (run_trusting (Some turn_out ∷ None ∷ []) dial_waits (Controller 0 ∷ [])) → ⊥
  pub fails_two_dials : OneTurnIsOut (run_trusting (None ∷ Some turn_out ∷ []) dial_waits (Controller 0 ∷ Controller 0 ∷ [])) → ⊥
  pub fails_no_turn : OneTurnIsOut (run_trusting (None ∷ None ∷ []) dialling.Nothing (Controller 0 ∷ [])) → ⊥
  pub fails_undialled_trust : OneTurnIsOut (run_trusting (None ∷ Some turn_out ∷ []) dialling.Nothing []) → ⊥

-- ---- the calls of turns

-- one turn, whose call went out in unit 0 and was judged as `judged` says
abbrev pub called_once : List Judging → Book
called_once judged = record one_turn { sent = sent_at 0 (Calling small_name 3 0) ∷ []; judged = judged }

abbrev pub run_small : Book → Option Pending → Past
run_small book turn = run_by book turn (small_channel seed_after_one) (codes "FILE1") (small_channel seed_after_one)

-- the call in unit 0 passed
abbrev pub in_unit : Judging
in_unit = record (on_channel 0) { source = InUnit 0 }

abbrev pub sent_as : List Mark → Book
sent_as marks = record (called_once (in_unit ∷ [])) { sent = map (sent_at 0) marks }

-- The calls of turns: the call of the one turn passed, or is out. Not where it didn't pass and isn't out, where it was
-- barred, or where no call went out, though one passed; nor where it has another timestamp than the turn, or another
-- call went out on the channel.
pub record OfCalls : Type 0 where
  pub meets : TurnsAreCalled (run_small (called_once (in_unit ∷ [])) None)
  pub out : TurnsAreCalled (run_small (called_once []) (Some turn_out))
  pub fails_unjudged : TurnsAreCalled (run_small (called_once []) None) → ⊥
  pub fails_barred : TurnsAreCalled (run_small (called_once (record (judged_as judged.Barred (on_channel 0)) { source = InUnit 0 } ∷ [])) None) → ⊥
  pub fails_uncalled : TurnsAreCalled (run_small one_turn None) → ⊥
  pub fails_unsent : TurnsAreCalled (run_small (sent_as []) None) → ⊥
  pub fails_stamp : TurnsAreCalled (run_small (sent_as (Calling small_name 3 5 ∷ [])) None) → ⊥
  pub fails_more : TurnsAreCalled (run_small (sent_as (Calling small_name 3 0 ∷ Calling small_name 4 0 ∷ [])) None) → ⊥

-- ---- replies to calls

abbrev pub empty_unit : BagUnit
empty_unit = record { bytes = []; link = 0; kind = kind.ToController; back = true; is_settled = true }

-- unit 0 was made for `mark`, and unit 1 as the reply to a call of that number in unit 0; the call was judged as
-- `judged` says
abbrev pub replied_for : (mark : Mark) (number : ℕ) (judged : List Judging) → Past
replied_for mark number judged =
    let run : Past = small_run (record blank { sent = sent_at 0 mark ∷ sent_at 0 (ReplyTo small_name number 0) ∷ []; judged = judged }) in
    record run { world = record run.world { state = record run.world.state { bag = empty_unit ∷ empty_unit ∷ [] } } }

-- unit 0 was made as a call with number 3, and unit 1 as the reply to a call of that number in it
abbrev pub reply_past : ℕ → List Judging → Past
reply_past number judged = replied_for (Calling small_name 3 0) number judged

abbrev pub passed_then : Judging
passed_then = record (on_channel 0) { source = InUnit 0; reply = Some 1 }

-- Replies to calls: not where the number is another, the call was barred, or its reply is another unit; nor where unit
-- 0 was made for no channel, or for another controller's.
pub record OfReplyCalls : Type 0 where
  pub meets : RepliesAnswerCalls (reply_past 3 (passed_then ∷ []))
  pub fails_number : RepliesAnswerCalls (reply_past 4 (passed_then ∷ [])) → ⊥
  pub fails_barred : RepliesAnswerCalls (reply_past 3 (judged_as judged.Barred passed_then ∷ [])) → ⊥
  pub fails_elsewhere : RepliesAnswerCalls (reply_past 3 (record passed_then { reply = Some 2 } ∷ [])) → ⊥
  pub fails_plain : RepliesAnswerCalls (replied_for Plain 3 (passed_then ∷ [])) → ⊥
  pub fails_channel : RepliesAnswerCalls (replied_for (Calling (record small_name { controller = 1 }) 3 0) 3 (passed_then ∷ [])) → ⊥

-- ---- all of the sequences

pub record SequencesTellApart : Type 0 where
  pub shared : OfSequenceMisses
  pub one_turn : OfOneTurn
  pub calls : OfCalls
  pub replies : OfReplyCalls
