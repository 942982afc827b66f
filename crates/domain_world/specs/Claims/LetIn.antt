-- Whom a member server lets in in any run, by what it took itself (MS-NLMP 3.2.5.1.2; what the claim says is this
-- project's own choice). It says nothing of who sent the message or the answer: that a controller gave it is a part of
-- `AcceptsOnlyGranted`.
use Rattle.std.specs.Prelude.{ℕ, ◌≡◌, ◌<◌, true, Some}
use Rattle.std.specs.List.{AllByRecursion}
use Rattle.logon_stubs.specs.declared.info.SamInfo.{SamInfo}
use Rattle.member_server.specs.declared.outcomes.Ending.TheVariants as ending
use Rattle.member_server.specs.Outcomes.{outcome_of}
use Rattle.wire_base.specs.Lists.{OneOf}
use Rattle.step_notes.specs.Records.{MessageTaken, OutcomeTold}
use Rattle.world_moves.specs.Counting.{is_in}
use Rattle.domain_world.specs.Past.{Past}

-- What is told is an outcome of that message's logon: the member took the message on the link at an earlier move, and a
-- unit of the bag as the answer in the turn of its place; the outcome is one that some validation comes to. Which one
-- isn't said, and so nothing of the names; of the key, only how it follows from a session base key.
pub record IsLetInBy (told : OutcomeTold) (message : MessageTaken) : Type 0 where
  pub link : message.link ≡ told.link
  pub member : message.member ≡ told.member
  pub before : message.at < told.at
  pub unit : ℕ
  pub reply : message.reply ≡ Some unit
  pub info : SamInfo
  pub outcome : told.outcome ≡ outcome_of (ending.Granted info) message.logon

-- Only who asked: a member lets somebody in on a link only where it took an AUTHENTICATE on that link, and an answer
-- for it.
abbrev pub LetsInWhoAsked : Past → Type 0
LetsInWhoAsked past =
    AllByRecursion (λ (told : OutcomeTold). is_in told.outcome ≡ true → OneOf (λ (message : MessageTaken). IsLetInBy told message) past.book.messages)
    past.book.told
