-- By which challenge each AUTHENTICATE that a member server takes is to be checked (MS-NLMP 3.2.5.1.2), whatever its
-- controller answers. Whether the response was made for that challenge isn't said here: the controller checks it. What
-- a claim says is this project's own choice.
use Rattle.std.specs.Prelude.{◌≢◌, AllPairs}
use Rattle.std.specs.List.{AllByRecursion}
use Rattle.wire_base.specs.Lists.{OneOf}
use Rattle.step_notes.specs.Records.{ChallengeSent, MessageTaken}
use Rattle.domain_world.specs.Claims.{IsLinkOf, IsUnusedChallenge}
use Rattle.domain_world.specs.Past.{Past}

-- The link is one that this member accepted, and the challenge that the member keeps with the message is the link's own
-- unused one: what `IsAccepted` asks beside the controller's answer and grant.
pub record HasOwnChallenge (past : Past) (message : MessageTaken) : Type 0 where
  pub own : IsLinkOf past message.link message.member
  pub unused : OneOf (IsUnusedChallenge past message) past.book.challenges

-- Each AUTHENTICATE that a member took, for which a logon waits or waited, is kept with its link's own unused
-- challenge; and no other CHALLENGE has that challenge, since no two that are written down as sent, on whatever links
-- and by whichever members, have one.
pub record MessagesHaveOwnChallenges (past : Past) : Type 0 where
  pub each : AllByRecursion (λ (message : MessageTaken). HasOwnChallenge past message) past.book.messages
  pub apart : AllPairs (λ (one other : ChallengeSent). one.challenge ≢ other.challenge) past.book.challenges
