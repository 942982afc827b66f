-- Each logon that a member keeps is that of a message that is written down, and each challenge that it waits on is too.
-- It serves `Proved.written`.
use Rattle.std.proofs.Common.{◌≡◌, ◌<◌, ◌⊎◌, ℕ, List, Option, Some, None, inl, inr, subst}
use Rattle.wire_base.specs.Maps.{lookup, same_number}
use Rattle.end_links.specs.Links.{LinkState}
use Rattle.member_server.specs.declared.state.Bound.{Bound}
use Rattle.member_server.specs.declared.state.Logon.{Logon}
use Rattle.member_server.specs.declared.state.Phase.{Phase}
use Rattle.member_server.specs.declared.state.Phase.TheVariants as phase
use Rattle.member_server.specs.declared.state.Running.{Running}
use Rattle.member_server.specs.declared.state.Talk.{Talk}
use Rattle.wire_base.specs.Lists.{OneOf}
use Rattle.wire_base.proofs.ListLaws.{one_weaker}
use Rattle.step_notes.specs.Records.{MessageTaken}
use Rattle.world_moves.specs.declared.moves.Move.{Move}
use Rattle.world_moves.specs.declared.plan.Plan.{Plan}
use Rattle.world_moves.specs.Plain.{IsPlainPlan}
use Rattle.domain_world.specs.Claims.WrittenDown.{IsChallengeOf, IsMessageOf, MembersAreWrittenDown}
use Rattle.domain_world.specs.Past.{Past, past}
use Rattle.step_notes.proofs.Members.KeptLogonLaws.{HasFor, IsFor, KeptIn, each_found}
use Rattle.step_notes.proofs.Members.UnservedLaws.{IfUnserved, LinksIn, found_known}
use Rattle.domain_world.proofs.Acceptance.LetInLaws.{HoldsOf, run_holds}
use Rattle.domain_world.proofs.Acceptance.LetInStepLaws.{IsDialledBy}
use Rattle.domain_world.proofs.Challenges.OwnChallengeLaws.{links_own}
use Rattle.domain_world.proofs.Challenges.OwnLinkLaws.{IsOwn}

-- ---- the logons that are kept

-- a logon that wasn't taken late was taken before
taken_before : (at most : ℕ) → (at < most) ⊎ (⊥ × (at ≡ most)) → at < most
taken_before at most (inl before) = before
taken_before at most (inr late) = absurd late.0

message_is : (run : Past) (member place : ℕ) (logon : Logon) (message : MessageTaken) → IsFor ⊥ run.world.moves member place logon message → IsMessageOf run member place logon message
message_is run member place logon message is = record {
  same_member = is.same_member;
  same_place = is.same_place;
  same_logon = is.same_logon;
  link = is.link;
  before = taken_before message.at run.world.moves is.before;
}

logon_is : (run : Past) (member : ℕ) (r : Option Running) (running : Running) (place : ℕ) (logon : Logon) (Own : ℕ → Type 0) → r ≡ Some running →
    KeptIn (HasFor ⊥ run.world.moves member run.book.messages) Own r → lookup same_number place running.logons.asked ≡ Some logon → OneOf (IsMessageOf run member place logon) run.book.messages
logon_is run member None running place logon Own runs kept there = absurd (let never : ◌≡◌ {A = Option Running} None (Some running) = runs in cc)
logon_is run member (Some one) running place logon Own runs kept there =
    let same : one ≡ running = cc in
    one_weaker (IsFor ⊥ run.world.moves member place logon) (IsMessageOf run member place logon) run.book.messages (message_is run member place logon)
    (each_found (HasFor ⊥ run.world.moves member run.book.messages) place running.logons.asked logon there
    (subst (λ (x : Running). KeptIn (HasFor ⊥ run.world.moves member run.book.messages) Own (Some x)) same kept).0)

-- ---- the challenges that are waited on

challenge_is : (run : Past) (member : ℕ) (r : Option Running) (running : Running) (number : ℕ) (link : LinkState Talk) (bound : Bound) (challenge : List ℕ) (flags : ℕ) → r ≡ Some running →
    LinksIn (IsOwn run.book.challenges run.world.state.links member) r → lookup same_number number running.links ≡ Some link → link.talk.phase ≡ phase.Challenged bound challenge flags →
    OneOf (IsChallengeOf member number challenge) run.book.challenges
challenge_is run member None running number link bound challenge flags runs known there waits = absurd (let never : ◌≡◌ {A = Option Running} None (Some running) = runs in cc)
challenge_is run member (Some one) running number link bound challenge flags runs known there waits =
    let same : one ≡ running = cc in
    let own : IfUnserved (IsOwn run.book.challenges run.world.state.links member number link.talk.phase) link.talk.phase =
    found_known (IsOwn run.book.challenges run.world.state.links member) number running.links link there
    (subst (λ (x : Running). LinksIn (IsOwn run.book.challenges run.world.state.links member) (Some x)) same known) in
    (subst (λ (p : Phase). IfUnserved (IsOwn run.book.challenges run.world.state.links member number p) p) waits own).1

-- ---- a run

pub members_written_down : (plan : Plan) (moves : List Move) → IsPlainPlan plan → MembersAreWrittenDown (past plan moves)
members_written_down plan moves nothing =
    let run : Past = past plan moves in
    let holds : HoldsOf run.world run.book = run_holds plan moves nothing in
    let own = links_own plan moves nothing in
    record {
      logons = λ member m running place logon at runs there.
          logon_is run member m.running running place logon (λ number. IsDialledBy run.world.state.links member number) runs (holds.keeps.each member m at) there;
      challenges = λ member m running number link bound challenge flags at runs there waits.
          challenge_is run member m.running running number link bound challenge flags runs (own.each member m at) there waits;
    }
