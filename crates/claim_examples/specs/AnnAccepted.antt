-- All that is proved of runs holds of the example's run, a message of it is accepted, and client and member hold its
-- key (this project's own choice).
use Rattle.std.specs.Prelude.{◌≡◌, true, Some}
use Rattle.wire_base.specs.Lists.{OneOf}
use Rattle.step_notes.specs.Records.{ChallengeSent, Judging, MessageMade, MessageTaken, OutcomeTold}
use Rattle.world_moves.specs.Counting.{is_in}
use Rattle.logon_runs.specs.FirstLogon.ExampleLogon.{ann_moves, ann_plan}
use Rattle.domain_world.specs.Claims.{AcceptsAllGranted, AcceptsOnlyGranted, HasKey, IsAccepted, IsMadeFor, KeysAgree, TravelsAsZeros, info_asked, taken_answer}
use Rattle.domain_world.specs.Headline.{Proved}
use Rattle.domain_world.specs.Past.{Past, past}

-- The claim on keys speaks of these: somebody is let in on the link of the message, the client made its bytes for those
-- of the CHALLENGE by the hash that is stored, and the base key doesn't travel as zeros. Of these it holds: the key is
-- the client's.
pub record IsKeyed (run : Past) (told : OutcomeTold) (message : MessageTaken) (sent : ChallengeSent) (made : MessageMade) : Type 0 where
  pub let_in : is_in told.outcome ≡ true
  pub link : message.link ≡ told.link
  pub judging : Judging
  pub answer : taken_answer message run.book.judged ≡ Some judging
  pub arrives : TravelsAsZeros judging (info_asked message) → ⊥
  pub made_for : IsMadeFor message sent judging made
  pub key : HasKey told.outcome made.key

-- some of what is written down are such
abbrev pub HasKeyed : Past → Type 0
HasKeyed run =
    OneOf (λ (told : OutcomeTold). OneOf (λ (message : MessageTaken). OneOf (λ (sent : ChallengeSent). OneOf (λ (made : MessageMade).
    IsKeyed run told message sent made) run.book.made) run.book.challenges) run.book.messages) run.book.told

-- The run is a schedule, and clear, so that the claims on clear schedules speak of it. By the first of them a message
-- of the run is accepted, since somebody is let in. The one on keys speaks of a logon of it.
pub record AnnIsAccepted : Type 0 where
  pub proved : Proved ann_plan ann_moves
  pub only : AcceptsOnlyGranted (past ann_plan ann_moves)
  pub all : AcceptsAllGranted (past ann_plan ann_moves)
  pub keys : KeysAgree (past ann_plan ann_moves)
  pub accepted : OneOf (IsAccepted (past ann_plan ann_moves)) (past ann_plan ann_moves).book.messages
  pub keyed : HasKeyed (past ann_plan ann_moves)
