-- Runs that were written down by hand in which messages have the challenge of their link, and some in which one doesn't
-- (this project's own choice).
use Rattle.std.specs.Prelude.{[], ◌∷◌, replicate}
use Rattle.step_notes.specs.Records.{Book, ChallengeSent}
use Rattle.domain_world.specs.Claims.OwnChallenges.{MessagesHaveOwnChallenges}
use Rattle.claim_examples.specs.ClaimExamples.{challenge_on, drawn_twice, one_logon, other_member_accepts, run_in, small_links, small_run, taken_twice, two_logons, world_of}

-- a logon with this one CHALLENGE
abbrev pub with_sent : ChallengeSent → Book
with_sent sent = record one_logon { challenges = sent ∷ [] }

-- A message whose challenge is that of its link; not where that was sent on another link, was another one or wasn't
-- sent, was drawn twice or not at all, the link took two messages or none, or another member accepted it; nor where two
-- links were sent one challenge.
pub record OfOwnChallenges : Type 0 where
  pub meets : MessagesHaveOwnChallenges (small_run one_logon)
  pub fails_elsewhere : MessagesHaveOwnChallenges (small_run (with_sent (challenge_on 4))) → ⊥
  pub fails_other : MessagesHaveOwnChallenges (small_run (with_sent (record (challenge_on 3) { challenge = replicate 8 8 }))) → ⊥
  pub fails_unsent : MessagesHaveOwnChallenges (small_run (record one_logon { challenges = [] })) → ⊥
  pub fails_draws : MessagesHaveOwnChallenges (run_in drawn_twice one_logon) → ⊥
  pub fails_undrawn : MessagesHaveOwnChallenges (run_in (world_of small_links []) one_logon) → ⊥
  pub fails_taken : MessagesHaveOwnChallenges (small_run taken_twice) → ⊥
  pub fails_untaken : MessagesHaveOwnChallenges (small_run (record one_logon { taken = [] })) → ⊥
  pub fails_link : MessagesHaveOwnChallenges (run_in other_member_accepts one_logon) → ⊥
  pub fails_shared : MessagesHaveOwnChallenges (small_run two_logons) → ⊥
