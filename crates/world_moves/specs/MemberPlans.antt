-- Plans of members but for their secrets, by which the plans of two states are one (this project's own choice).
use Rattle.std.specs.Prelude.{◌≡◌, List, [], map}
use Rattle.member_server.specs.declared.plan.MemberPlan.{MemberPlan}
use Rattle.secret_change.specs.Secrets.{alone}

-- the names of a plan, and the address of its controller
abbrev pub but_secret : MemberPlan → MemberPlan
but_secret plan = record plan { secrets = alone [] }

-- each of the later plans is the one in its place but for the secret
abbrev pub AreAlikeButSecrets : (plans later : List MemberPlan) → Type 0
AreAlikeButSecrets plans later = map but_secret later ≡ map but_secret plans
