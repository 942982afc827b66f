-- A small run that meets what is claimed of the challenges that members keep, and some that don't.
-- It serves `own_challenges_tell_apart`.
use Rattle.std.proofs.Common.{◌≡◌, ◌≢◌, inl, refl, arith, replicate}
use Rattle.step_notes.specs.Records.{ChallengeSent}
use Rattle.world_moves.specs.declared.links.Route.TheVariants.{ToMember}
use Rattle.claim_examples.specs.ClaimExamples.{challenge_on, small_challenge}
use Rattle.claim_examples.specs.OwnChallengeExamples.{OfOwnChallenges}
use Rattle.claim_examples.proofs.LogonLaws.{not_drawn, not_drawn_once, not_link, only_draw, the_sent}
use Rattle.claim_examples.proofs.SequenceLaws.{one_apart}

-- ---- examples

pub of_own_challenges : OfOwnChallenges
of_own_challenges = record {
  meets = record {
    each = (
      record {
        own = record { route = ToMember 0 0; at = refl; acceptor = refl };
        unused = inl (record { link = refl; challenge = refl; drawn = refl; only = only_draw small_challenge; first = refl });
      },
      tt,
    );
    apart = one_apart (λ (one other : ChallengeSent). one.challenge ≢ other.challenge) (challenge_on 3);
  };
  fails_elsewhere = λ claim. the_sent _ _ (challenge_on 4) (λ unused. absurd (let never : 4 ≡ 3 = unused.link in cc)) claim.each.0.unused;
  fails_other = λ claim.
      the_sent _ _ (record (challenge_on 3) { challenge = replicate 8 8 }) (λ unused. absurd (let never : replicate 8 8 ≡ small_challenge = unused.challenge in cc)) claim.each.0.unused;
  fails_unsent = λ claim. claim.each.0.unused;
  fails_draws = λ claim. the_sent _ _ (challenge_on 3) not_drawn_once claim.each.0.unused;
  fails_undrawn = λ claim. the_sent _ _ (challenge_on 3) not_drawn claim.each.0.unused;
  fails_taken = λ claim. the_sent _ _ (challenge_on 3) (λ unused. absurd (let never : 2 ≡ 1 = unused.first in cc)) claim.each.0.unused;
  fails_untaken = λ claim. the_sent _ _ (challenge_on 3) (λ unused. absurd (let never : 0 ≡ 1 = unused.first in cc)) claim.each.0.unused;
  fails_link = λ claim. not_link claim.each.0.own;
  fails_shared = λ claim. claim.apart 0 1 (challenge_on 3) (omega arith) (omega arith) refl;
}
