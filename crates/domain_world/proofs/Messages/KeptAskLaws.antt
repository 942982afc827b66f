-- In every run each member asks for what it keeps.
-- It serves `Proved.kept`.
use Rattle.std.proofs.Common.{◌≡◌, ℕ, zero, suc, List, [], ◌∷◌, map, length, Some, refl, subst, slice_get, slice_set}
use Rattle.std.specs.List.{AllByRecursion}
use Rattle.outside.specs.declared.event.Event.{Event}
use Rattle.outside.specs.declared.event.Event.TheVariants as event
use Rattle.member_server.specs.declared.plan.MemberPlan.{MemberPlan}
use Rattle.member_server.specs.Machine.{fresh_member, step_of}
use Rattle.member_server.specs.State.{State as MemberState}
use Rattle.step_notes.specs.CallLogons.{AsksUnlessStopped}
use Rattle.step_notes.specs.Records.{Book}
use Rattle.world_moves.specs.declared.moves.Move.{Move}
use Rattle.world_moves.specs.declared.plan.Plan.{Plan}
use Rattle.world_moves.specs.Plain.{IsPlainPlan}
use Rattle.domain_world.specs.Claims.AskedFor.{MembersAskForKept}
use Rattle.domain_world.specs.Past.{past}
use Rattle.step_notes.proofs.Members.CallKeptLaws.{change_asks, fresh_asks, step_asks}
use Rattle.domain_world.proofs.Frames.MemberFrameLaws.{KeepsMembers, MembersFact, members_after}
use Rattle.world_moves.proofs.ChangeLaws.{member_begun}

-- ---- a run

abbrev pub AllAsk : List MemberState → Type 0
AllAsk members = AllByRecursion (λ (m : MemberState). AsksUnlessStopped m.running) members

pub one_asks : (members : List MemberState) (at : ℕ) (m : MemberState) → slice_get members at ≡ Some m → AllAsk members → AsksUnlessStopped m.running
one_asks [] at m there all = absurd cc
one_asks (first ∷ members) zero m there all = let is : first ≡ m = cc in subst (λ (x : MemberState). AsksUnlessStopped x.running) is all.0
one_asks (first ∷ members) (suc at) m there all = one_asks members at m there all.1

set_ask : (members : List MemberState) (at : ℕ) (new : MemberState) → AsksUnlessStopped new.running → AllAsk members → AllAsk (slice_set members at new)
set_ask [] at new asks all = tt
set_ask (first ∷ members) zero new asks all = (asks, all.1)
set_ask (first ∷ members) (suc at) new asks all = (all.0, set_ask members at new asks all.1)

fresh_ask : (plans : List MemberPlan) → AllAsk (map fresh_member plans)
fresh_ask [] = tt
fresh_ask (plan ∷ plans) = (fresh_asks plan, fresh_ask plans)

-- nothing that is written down matters
abbrev no_part : Book → Unit {0}
no_part b = tt

abbrev Ask : Unit {0} → MembersFact
Ask nothing members chances links = AllAsk members

hear_ask : (m : MemberState) (at : ℕ) (what : Event) (now : ℕ) (members : List MemberState) (left : List (List ℕ)) → slice_get members at ≡ Some m → AllAsk members →
    AllAsk (slice_set members at (step_of m what now left).state)
hear_ask m at what now members left is all = set_ask members at (step_of m what now left).state (step_asks m what now left (one_asks members at m is all)) all

ask_on : KeepsMembers no_part Ask
ask_on = record {
  of = record {
    controllers = λ answers w s after b. refl;
    every = λ c at w piece s after b. refl;
    clients = λ c at w piece s b. refl;
  };
  given = λ at given after b. refl;
  draws = λ nothing members chances later links on all. all;
  hears = λ nothing m at what now members chances links quiet is all. hear_ask m at what now members chances.left is all;
  opens = λ nothing route members chances links all. all;
  accepts = λ nothing m at route now members chances links accepts is all. hear_ask m at (event.Opened (length links)) now members chances.left is all;
  comes = λ m at w piece s after b is all. hear_ask m at (event.Bytes w.link piece) s.moment s.ends.members s.chances.left is all;
  changes = λ nothing secret running at members chances links is none all.
      set_ask members at (member_begun secret running) (change_asks secret running none (one_asks members at (record { running = Some running }) is all)) all;
  anew = λ nothing plan at members chances links all. set_ask members at (fresh_member plan) (fresh_asks plan) all;
}

-- in every run each member asks for what it keeps
pub members_ask : (plan : Plan) (moves : List Move) → IsPlainPlan plan → MembersAskForKept (past plan moves)
members_ask plan moves nothing = members_after no_part Ask ask_on plan moves nothing (fresh_ask plan.members)
