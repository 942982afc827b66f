-- In every run each member opens its channel under the secret that it tries, and its call sets its next one.
-- It serves `members_try_their_secrets`.
use Rattle.std.proofs.Common.{◌≡◌, ℕ, zero, suc, List, [], ◌∷◌, map, length, Some, refl, subst, slice_get, slice_set}
use Rattle.std.specs.List.{AllByRecursion}
use Rattle.outside.specs.declared.event.Event.{Event}
use Rattle.outside.specs.declared.event.Event.TheVariants as event
use Rattle.member_server.specs.declared.plan.MemberPlan.{MemberPlan}
use Rattle.member_server.specs.Machine.{fresh_member, step_of}
use Rattle.member_server.specs.State.{State as MemberState}
use Rattle.member_server.specs.Trying.{TriesUnlessStopped}
use Rattle.member_server.proofs.TryingLaws.{begun_so, tries_its_secrets}
use Rattle.step_notes.specs.Records.{Book}
use Rattle.world_moves.specs.declared.moves.Move.{Move}
use Rattle.world_moves.specs.declared.plan.Plan.{Plan}
use Rattle.world_moves.specs.Plain.{IsPlainPlan}
use Rattle.domain_world.specs.Claims.NeverApart.{MembersTryTheirSecrets}
use Rattle.domain_world.specs.Past.{past}
use Rattle.domain_world.proofs.Frames.MemberFrameLaws.{KeepsMembers, MembersFact, members_after}
use Rattle.world_moves.proofs.ChangeLaws.{member_begun}

abbrev pub AllTry : List MemberState → Type 0
AllTry members = AllByRecursion (λ (m : MemberState). TriesUnlessStopped m.running) members

pub one_tries : (members : List MemberState) (at : ℕ) (m : MemberState) → slice_get members at ≡ Some m → AllTry members → TriesUnlessStopped m.running
one_tries [] at m there all = absurd cc
one_tries (first ∷ members) zero m there all = let is : first ≡ m = cc in subst (λ (x : MemberState). TriesUnlessStopped x.running) is all.0
one_tries (first ∷ members) (suc at) m there all = one_tries members at m there all.1

set_tries : (members : List MemberState) (at : ℕ) (new : MemberState) → TriesUnlessStopped new.running → AllTry members → AllTry (slice_set members at new)
set_tries [] at new tries all = tt
set_tries (first ∷ members) zero new tries all = (tries, all.1)
set_tries (first ∷ members) (suc at) new tries all = (all.0, set_tries members at new tries all.1)

pub fresh_try : (plans : List MemberPlan) → AllTry (map fresh_member plans)
fresh_try [] = tt
fresh_try (plan ∷ plans) = (tries_its_secrets.fresh plan, fresh_try plans)

-- nothing that is written down matters
abbrev pub no_part : Book → Unit {0}
no_part b = tt

abbrev pub Try : Unit {0} → MembersFact
Try nothing members chances links = AllTry members

hear_try : (m : MemberState) (at : ℕ) (what : Event) (now : ℕ) (members : List MemberState) (left : List (List ℕ)) → slice_get members at ≡ Some m → AllTry members →
    AllTry (slice_set members at (step_of m what now left).state)
hear_try m at what now members left is all =
    set_tries members at (step_of m what now left).state (tries_its_secrets.step m what now left (one_tries members at m is all)) all

pub try_on : KeepsMembers no_part Try
try_on = record {
  of = record {
    controllers = λ answers w s after b. refl;
    every = λ c at w piece s after b. refl;
    clients = λ c at w piece s b. refl;
  };
  given = λ at given after b. refl;
  draws = λ nothing members chances later links on all. all;
  hears = λ nothing m at what now members chances links quiet is all. hear_try m at what now members chances.left is all;
  opens = λ nothing route members chances links all. all;
  accepts = λ nothing m at route now members chances links accepts is all. hear_try m at (event.Opened (length links)) now members chances.left is all;
  comes = λ m at w piece s after b is all. hear_try m at (event.Bytes w.link piece) s.moment s.ends.members s.chances.left is all;
  changes = λ nothing secret running at members chances links is none all.
      set_tries members at (member_begun secret running)
      (begun_so running.logons.channel running.logons.plan.secrets.current running.logons.plan.secrets.next secret none
      (one_tries members at (record { running = Some running }) is all)) all;
  anew = λ nothing plan at members chances links all. set_tries members at (fresh_member plan) (tries_its_secrets.fresh plan) all;
}

pub members_try : (plan : Plan) (moves : List Move) → IsPlainPlan plan → MembersTryTheirSecrets (past plan moves)
members_try plan moves nothing = members_after no_part Try try_on plan moves nothing (fresh_try plan.members)
