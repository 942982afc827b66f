-- That each claim on whole runs is met by some run and not by another (this project's own choice).
use Rattle.std.specs.Prelude.{[]}
use Rattle.world_moves.specs.declared.plan.Plan.{Plan}
use Rattle.domain_world.specs.Headline.{IsClaimed}
use Rattle.claim_examples.specs.ClaimExamples.{OfAcceptingAll, OfAcceptingOnly, OfAll, OfChallenges, OfClashes, OfCredentials, OfKeys, OfReplays, OfSequences, OfShortResponses, OfTakenAnswers, OfWraps}
use Rattle.claim_examples.specs.CompletenessExamples.{OfCompleteness, OfOwnMembers, OfSuccess}

-- What this file says of all claims.
pub record ClaimsTellApart : Type 0 where
  pub wraps : OfWraps
  pub clashes : OfClashes
  pub answers : OfTakenAnswers
  pub replays : OfReplays
  pub short_responses : OfShortResponses
  pub sequences : OfSequences
  pub challenges : OfChallenges
  pub accepting_only : OfAcceptingOnly
  pub accepting_all : OfAcceptingAll
  pub keys : OfKeys
  pub credentials : OfCredentials
  pub together : OfAll
  pub success : OfSuccess
  pub completeness : OfCompleteness
  pub own_members : OfOwnMembers
  -- each claim is met by a world in which no move was made
  pub at_first : (plan : Plan) → IsClaimed plan []
