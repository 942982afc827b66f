-- Runs that were written down by hand on which what is claimed of replies holds, and some that differ from one of them
-- in one thing, on which it doesn't (this project's own choice). Credentials and frames in them are the values of their
-- functions.
use Rattle.std.specs.Prelude.{ℕ, true, false, codes, List, [], ◌∷◌, Some, None}
use Rattle.outside.specs.declared.action.Judged.TheVariants as judged
use Rattle.authenticators.specs.Sequences.{authenticator_of}
use Rattle.authenticators.specs.SecureChannels.{key_of_channel, channel_of}
use Rattle.rpc_units.specs.Calls.{bytes_of_call}
use Rattle.logon_stubs.specs.Writing.{written_reply}
use Rattle.end_links.specs.Sending.{response_of}
use Rattle.channel_events.specs.Marks.{Mark, Plain, ReplyTo}
use Rattle.step_notes.specs.Records.{Judging, blank}
use Rattle.step_notes.specs.ReplySends.{reply_passed}
use Rattle.world_moves.specs.declared.links.LinkKind.TheVariants as kind
use Rattle.domain_world.specs.Claims.Replies.{RepliesCarryTheirJudgement}
use Rattle.domain_world.specs.Claims.TrustReplies.{RepliesAreOfTheirCalls}
use Rattle.domain_world.specs.Past.{Past, sent_at}
use Rattle.claim_examples.specs.ClaimExamples.{judged_as, next_call, next_logon, run_in, small_channel, small_name, small_world}

-- what is sent for ann's call, with frames of at most 5,840 bytes
abbrev pub small_reply : List ℕ
small_reply =
    bytes_of_call
    (response_of 3 0 (written_reply
    (reply_passed next_call next_logon (small_channel []) (authenticator_of (key_of_channel (small_channel [])) [] 0))))
    5840

-- the bag has one unit, of these bytes and with this mark, and one call was judged
abbrev pub reply_run : List ℕ → Mark → Judging → Past
reply_run bytes mark j =
    run_in
    (record small_world {
      state = record small_world.state {
        bag = record { bytes = bytes; link = 0; kind = kind.ToController; back = true; is_settled = false } ∷ [];
      };
    })
    (record blank { sent = sent_at 6 mark ∷ []; judged = j ∷ [] })

-- ann's call came in unit 7, and its reply goes out in unit 0
abbrev pub replied_call : Judging
replied_call = record next_call { reply = Some 0 }

abbrev pub reply_mark : Mark
reply_mark = ReplyTo small_name 3 7

-- ann's call, where it was handed on: it has no reply of the step that judged it
abbrev pub handed_call : Judging
handed_call = record (judged_as judged.Forwarded next_call) { reply = None }

-- Replies: to ann's call on its channel, and of a unit that is marked as no reply.
pub record OfReplies : Type 0 where
  pub meets : RepliesCarryTheirJudgement (reply_run small_reply reply_mark replied_call)
  pub plain : RepliesCarryTheirJudgement (reply_run [] Plain replied_call)
  -- not where nothing is in the unit, or the call was barred
  pub fails_empty : RepliesCarryTheirJudgement (reply_run [] reply_mark replied_call) → ⊥
  pub fails_barred : RepliesCarryTheirJudgement (reply_run small_reply reply_mark (judged_as judged.Barred replied_call)) → ⊥
  -- the claim isn't met where the mark names another number, unit or channel, or the call has its reply in another unit
  pub fails_number : RepliesCarryTheirJudgement (reply_run small_reply (ReplyTo small_name 4 7) replied_call) → ⊥
  pub fails_unit : RepliesCarryTheirJudgement (reply_run small_reply (ReplyTo small_name 3 6) replied_call) → ⊥
  pub fails_channel :
      RepliesCarryTheirJudgement (reply_run small_reply (ReplyTo (channel_of 1 (codes "FILE1") (small_channel [])) 3 7) replied_call) → ⊥
  pub fails_reply : RepliesCarryTheirJudgement (reply_run small_reply reply_mark next_call) → ⊥
  -- where controllers may hand logons on, the reply to ann's call is claimed as well; if the call was handed on, any
  -- bytes answer it, under its number, in its unit and on its channel
  pub meets_too : RepliesAreOfTheirCalls (reply_run small_reply reply_mark replied_call)
  pub handed_on : RepliesAreOfTheirCalls (reply_run [] reply_mark handed_call)
  pub barred_too : RepliesAreOfTheirCalls (reply_run small_reply reply_mark (judged_as judged.Barred replied_call)) → ⊥
  pub empty_too : RepliesAreOfTheirCalls (reply_run [] reply_mark replied_call) → ⊥
  pub fails_handed_number : RepliesAreOfTheirCalls (reply_run [] (ReplyTo small_name 4 7) handed_call) → ⊥
  pub fails_handed_unit : RepliesAreOfTheirCalls (reply_run [] (ReplyTo small_name 3 6) handed_call) → ⊥
  pub fails_handed_channel :
      RepliesAreOfTheirCalls (reply_run [] (ReplyTo (channel_of 1 (codes "FILE1") (small_channel [])) 3 7) handed_call) → ⊥
