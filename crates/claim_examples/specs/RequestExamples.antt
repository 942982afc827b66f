-- Requests that were written down by hand, of a run in which a member asks on one channel, and their replies (this
-- project's own choice).
use Rattle.std.specs.Prelude.{ℕ, [], ◌∷◌, Option, Some, None, replicate}
use Rattle.authenticators.specs.Channels.{ChannelIdentity}
use Rattle.channel_events.specs.Marks.{Calling, Mark, Opened, Opening, Plain}
use Rattle.step_notes.specs.Records.{ChannelAccepted, blank}
use Rattle.domain_world.specs.Claims.MarkedUnits.{AnswersHaveCalls}
use Rattle.domain_world.specs.Claims.OpeningReplies.{RepliesAreToOpenings}
use Rattle.domain_world.specs.Claims.RequestNumbers.{RequestsHaveNumbers}
use Rattle.domain_world.specs.Past.{Past, sent_at}
use Rattle.claim_examples.specs.ClaimExamples.{last_timestamp, message, small_name, small_run}
use Rattle.claim_examples.specs.OpeningExamples.{answered_opening}

-- ---- numbers

-- the bag has two units, which were made for these
abbrev pub made_for : Mark → Mark → Past
made_for first second = small_run (record blank { sent = sent_at 3 first ∷ sent_at 4 second ∷ [] })

-- another channel of the same computer, by another challenge
abbrev pub other_name : ChannelIdentity
other_name = record small_name { client = replicate 8 9 }

-- A channel's opening and a call on it have different numbers: not where they have one, nor where two openings or two
-- calls have. Requests on another channel may have it, and so may a reply.
pub record OfRequestNumbers : Type 0 where
  pub meets : RequestsHaveNumbers (made_for (Opening small_name 2) (Calling small_name 3 last_timestamp))
  pub other : RequestsHaveNumbers (made_for (Opening small_name 2) (Opening other_name 2))
  pub reply : RequestsHaveNumbers (made_for (Opening small_name 2) (Opened small_name 2 0))
  pub fails_call : RequestsHaveNumbers (made_for (Opening small_name 2) (Calling small_name 2 last_timestamp)) → ⊥
  pub fails_openings : RequestsHaveNumbers (made_for (Opening small_name 2) (Opening small_name 2)) → ⊥
  pub fails_calls : RequestsHaveNumbers (made_for (Calling small_name 3 0) (Calling small_name 3 last_timestamp)) → ⊥

-- ---- calls of messages

-- the message has that call, and that answer was taken
abbrev pub asked_as : Option ℕ → Option ℕ → Past
asked_as call reply = small_run (record blank { messages = record message { call = call; reply = reply } ∷ [] })

-- A message whose answer was taken has a call: not where none is written down.
pub record OfAnsweredCalls : Type 0 where
  pub meets : AnswersHaveCalls (asked_as (Some 7) (Some 8))
  pub unanswered : AnswersHaveCalls (asked_as None None)
  pub fails_uncalled : AnswersHaveCalls (asked_as None (Some 8)) → ⊥

-- ---- replies to openings

-- that opening was accepted, unit 0 was made for that mark, and unit 1 is the reply to the opening with number 2 in
-- unit 0
abbrev pub opened_for : Mark → ChannelAccepted → Past
opened_for mark one =
    small_run (record blank { sent = sent_at 3 mark ∷ sent_at 4 (Opened small_name 2 0) ∷ []; accepted = one ∷ [] })

-- The reply is to that opening: not where unit 0 was made for nothing, as a call, with another number or for another
-- channel, nor where the opening was accepted at another step than the one that sent the reply.
pub record OfOpeningAnswers : Type 0 where
  pub meets : RepliesAreToOpenings (opened_for (Opening small_name 2) answered_opening)
  pub fails_plain : RepliesAreToOpenings (opened_for Plain answered_opening) → ⊥
  pub fails_call : RepliesAreToOpenings (opened_for (Calling small_name 2 0) answered_opening) → ⊥
  pub fails_number : RepliesAreToOpenings (opened_for (Opening small_name 3) answered_opening) → ⊥
  pub fails_channel : RepliesAreToOpenings (opened_for (Opening other_name 2) answered_opening) → ⊥
  pub fails_step : RepliesAreToOpenings (opened_for (Opening small_name 2) (record answered_opening { at = 3 })) → ⊥
