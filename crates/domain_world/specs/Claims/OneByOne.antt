-- Logons that come one at a time, whatever they come to (this project's own choice).
use Rattle.std.specs.Prelude.{ℕ, ◌≡◌, false, List, length, AllPairs, Some, slice_get}
use Rattle.std.specs.List.{AllByRecursion}
use Rattle.wire_base.specs.Names.{SameName}
use Rattle.account_table.specs.AccountTable.{AccountTable}
use Rattle.logon_client.specs.declared.plan.ClientPlan.{ClientPlan}
use Rattle.member_server.specs.declared.plan.MemberPlan.{MemberPlan}
use Rattle.world_moves.specs.declared.links.EndId.TheVariants.{Controller, Member}
use Rattle.world_moves.specs.declared.moves.Move.{Move}
use Rattle.world_moves.specs.declared.plan.Plan.{Plan}
use Rattle.world_moves.specs.Moving.{end_of_peer}
use Rattle.world_moves.specs.World.{first_ends}
use Rattle.logon_runs.specs.Rests.{HasItsSecret}
use Rattle.domain_world.specs.Claims.Completeness.{ComesOneAtATime, members_of, started_in}
use Rattle.domain_world.specs.Past.{Past}

-- no two members of a controller have one computer name
abbrev pub AreApart : Plan → ℕ → Type 0
AreApart plan controller =
    AllPairs (λ (one other : MemberPlan). SameName one.computer other.computer → ⊥) (members_of (first_ends plan) controller plan.members)

-- Where the controller of the member that a client reaches has an account by which it opens the member's channel, that
-- account has the member's secret; and no two members of that controller have one name.
abbrev pub HasOwnMember : Plan → ℕ → Type 0
HasOwnMember plan client =
    (task : ClientPlan) (member : ℕ) (work : MemberPlan) (controller : ℕ) (table : AccountTable) → slice_get plan.clients client ≡ Some task →
    end_of_peer task.server (first_ends plan) ≡ Some (Member member) → slice_get plan.members member ≡ Some work →
    end_of_peer work.controller (first_ends plan) ≡ Some (Controller controller) → slice_get plan.tables controller ≡ Some table →
    HasItsSecret table work × AreApart plan controller

-- each client that is started has its own member
abbrev pub HaveOwnMembers : Past → List Move → Type 0
HaveOwnMembers run moves = AllByRecursion (HasOwnMember run.plan) (started_in moves (length run.plan.clients))

-- In a run over these moves, of such logons, no credential passes on a unit that was made for another channel or for
-- none, whether they succeed or not. So what is claimed of clear runs is, where no seed comes round.
abbrev pub NoneClashes : Past → List Move → Type 0
NoneClashes run moves = ComesOneAtATime run moves → HaveOwnMembers run moves → run.book.clash ≡ false
