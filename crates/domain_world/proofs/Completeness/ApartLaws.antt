-- Who can succeed comes at a member that has its own computer, and can be granted the logon.
-- It serves `Proved.complete`, and `ann_can_succeed` of claim_examples.
use Rattle.std.proofs.Common.{◌≡◌, ◌≢◌, ℕ, zero, suc, ◌<◌, Bool, true, false, refl, sym, ap, subst, ◌∙◌, List, [], ◌∷◌, Option, Some, inl, inr, slice_get, arith}
use Rattle.std.specs.Prelude.{◌⊎◌, ◌==◌, AllPairs, filter}
use Rattle.std.specs.List.{AllByRecursion}
use Rattle.std.proofs.lemmas.Bool.{cases_Bool}
use Rattle.std.proofs.lemmas.Bool.Decides.{nat_tests}
use Rattle.std.proofs.lemmas.List.Elements.{recursion_from_All}
use Rattle.wire_base.specs.Names.{SameName, same_name}
use Rattle.account_table.specs.AccountTable.{AccountTable}
use Rattle.account_table.specs.declared.account.Account.{Account}
use Rattle.wire_base.proofs.NameLaws.{same_name-Decides}
use Rattle.logon_client.specs.declared.plan.AuthKind.{AuthKind}
use Rattle.logon_client.specs.declared.plan.AuthKind.TheVariants.{V1, V1Ess, V2}
use Rattle.logon_client.specs.declared.plan.ClientPlan.{ClientPlan}
use Rattle.logon_stubs.specs.declared.info.NetworkInfo.{NetworkInfo}
use Rattle.member_server.specs.declared.plan.MemberPlan.{MemberPlan}
use Rattle.wire_base.proofs.ListLaws.{got_nothing, some_is}
use Rattle.world_moves.specs.declared.links.EndId.{EndId}
use Rattle.world_moves.specs.declared.links.EndId.TheVariants.{Controller, Member}
use Rattle.world_moves.specs.declared.moves.Move.{Move}
use Rattle.world_moves.specs.declared.plan.Plan.{Plan}
use Rattle.world_moves.specs.Links.{is_end}
use Rattle.world_moves.specs.Moving.{end_of_peer}
use Rattle.world_moves.specs.World.{first_ends}
use Rattle.logon_steps.specs.Granting.{info_told, response_told}
use Rattle.logon_steps.proofs.KnowingLaws.{computers_are_known}
use Rattle.logon_runs.specs.AnyAnswer.AnyLogons.{HasServers}
use Rattle.logon_runs.specs.Rests.{CanBeGranted, HasItsSecret, HasOwnComputer, HasOwnName, channel_account}
use Rattle.domain_world.specs.Claims.OneByOne.{AreApart, HasOwnMember}
use Rattle.domain_world.specs.Claims.Completeness.{CanSucceed, HasComputer, info_planned, members_of, response_planned}

-- ---- each two of those that are kept

module _ {T : Type 0} (keep : T → Bool) where
  kept_first : (item : T) (items : List T) → keep item ≡ true → filter keep (item ∷ items) ≡ item ∷ filter keep items
  kept_first item items is = rw is refl

  kept_later : (item : T) (items : List T) → keep item ≡ false → filter keep (item ∷ items) ≡ filter keep items
  kept_later item items is = rw is refl

  -- what holds of each that is kept holds of one that is
  of_kept : (P : T → Type 0) (items : List T) → AllByRecursion P (filter keep items) → (at : ℕ) (item : T) → slice_get items at ≡ Some item → keep item ≡ true → P item
  of_kept P [] all at item there is = absurd (got_nothing at item there)
  of_kept P (first ∷ items) all zero item there is =
      let same : first ≡ item = some_is first item there in
      subst P same (subst (λ (kept : List T). AllByRecursion P kept) (kept_first first items (ap keep same ∙ is)) all).0
  of_kept P (first ∷ items) all (suc at) item there is =
      elim (cases_Bool (keep first)) [
        | inl kept ↦ of_kept P items (subst (λ (k : List T). AllByRecursion P k) (kept_first first items kept) all).1 at item there is
        | inr left ↦ of_kept P items (subst (λ (k : List T). AllByRecursion P k) (kept_later first items left) all) at item there is
      ]

  module _ (R : T → T → Type 0) where
    pairs_behind : (first : T) (items : List T) → AllPairs R (first ∷ items) → AllPairs R items
    pairs_behind first items all i j d before within = all (suc i) (suc j) d (omega (arith, before)) (omega (arith, within))

    pairs_of : (first : T) (items : List T) → AllPairs R (first ∷ items) → AllByRecursion (R first) items
    pairs_of first items all = recursion_from_All (R first) items (λ j d within. all zero (suc j) d (omega arith) (omega (arith, within)))

    of_pairs : (items : List T) → AllPairs R (filter keep items) → (i j : ℕ) (one other : T) → i < j → slice_get items i ≡ Some one → slice_get items j ≡ Some other → keep one ≡ true →
        keep other ≡ true → R one other
    of_pairs [] all i j one other before here there is too = absurd (got_nothing i one here)
    of_pairs (first ∷ items) all i zero one other before here there is too = absurd (omega (arith, before))
    of_pairs (first ∷ items) all zero (suc j) one other before here there is too =
        let same : first ≡ one = some_is first one here in
        subst (λ (x : T). R x other) same
        (of_kept (R first) items (pairs_of first (filter keep items) (subst (AllPairs R) (kept_first first items (ap keep same ∙ is)) all)) j other there too)
    of_pairs (first ∷ items) all (suc i) (suc j) one other before here there is too =
        elim (cases_Bool (keep first)) [
          | inl kept ↦ of_pairs items (pairs_behind first (filter keep items) (subst (AllPairs R) (kept_first first items kept) all)) i j one other (omega (arith, before)) here there is too
          | inr left ↦ of_pairs items (subst (AllPairs R) (kept_later first items left) all) i j one other (omega (arith, before)) here there is too
        ]

-- ---- computers of other names

not_same : (one other : List ℕ) → (SameName one other → ⊥) → same_name one other ≡ false
not_same one other apart =
    elim (cases_Bool (same_name one other)) [
      | inl same ↦ absurd (apart ((same_name-Decides one other).0 same))
      | inr differ ↦ differ
    ]

same_controller : (n : ℕ) → (n == n) ≡ true
same_controller n = grind (arith, nat_tests)

kept_so : (end : Option EndId) (controller : ℕ) → end ≡ Some (Controller controller) → is_end end (Controller controller) ≡ true
kept_so end controller is = ap (λ (e : Option EndId). is_end e (Controller controller)) is ∙ same_controller controller

abbrev pub Differ : MemberPlan → MemberPlan → Type 0
Differ one other = SameName one.computer other.computer → ⊥

either_order : (i j : ℕ) → i ≢ j → (i < j) ⊎ (j < i)
either_order zero zero differ = absurd (differ refl)
either_order zero (suc j) differ = inl (omega arith)
either_order (suc i) zero differ = inr (omega arith)
either_order (suc i) (suc j) differ = elim (either_order i j (λ same. differ (ap suc same))) [ inl less ↦ inl (omega (arith, less)) | inr more ↦ inr (omega (arith, more)) ]

module _ (plan : Plan) (controller member : ℕ) (work : MemberPlan) (apart : AllPairs Differ (members_of (first_ends plan) controller plan.members)) (is_work : slice_get plan.members member ≡ Some work)
    (is_controller : end_of_peer work.controller (first_ends plan) ≡ Some (Controller controller)) where
  abbrev keeps : MemberPlan → Bool
  keeps peer = is_end (end_of_peer peer.controller (first_ends plan)) (Controller controller)

  pub apart_at : (other : ℕ) (peer : MemberPlan) → other ≢ member → slice_get plan.members other ≡ Some peer → end_of_peer peer.controller (first_ends plan) ≡ Some (Controller controller) →
      same_name peer.computer work.computer ≡ false
  apart_at other peer differ is reaches =
      let of_peer : keeps peer ≡ true = kept_so (end_of_peer peer.controller (first_ends plan)) controller reaches in
      let of_own : keeps work ≡ true = kept_so (end_of_peer work.controller (first_ends plan)) controller is_controller in
      not_same peer.computer work.computer (elim (either_order other member differ) [
        | inl less ↦ of_pairs keeps Differ plan.members apart other member peer work less is is_work of_peer of_own
        | inr more ↦ (λ same. of_pairs keeps Differ plan.members apart member other work peer more is_work is of_own of_peer (sym same))
      ])

  abbrev pub computer_of : (table : AccountTable) → slice_get plan.tables controller ≡ Some table → HasComputer table work → HasOwnComputer plan member work controller
  computer_of table is_table has = record {
    reaches = is_controller;
    table = table;
    is_table = is_table;
    machine = has.account;
    machine_found = has.found;
    kind = has.kind;
    enabled = has.enabled;
    secret = has.secret;
    apart = apart_at;
  }

  -- where the account by which its channel is opened has its secret, if it is there
  abbrev pub own_name_of : ((table : AccountTable) → slice_get plan.tables controller ≡ Some table → HasItsSecret table work) → HasOwnName plan member work controller
  own_name_of secret = record { reaches = is_controller; secret = secret; apart = apart_at }

-- a member with its own computer: the account by which its channel is opened is the computer's
pub computer_secret : (table : AccountTable) (work : MemberPlan) → HasComputer table work → HasItsSecret table work
computer_secret table work has account found =
    let there : channel_account table work.computer ≡ Some has.account = computers_are_known.machine table work [] [] has.account has.found has.kind has.enabled in
    ap Account.hash (some_is account has.account (sym found ∙ there)) ∙ has.secret

module _ (plan : Plan) (moves : List Move) (client : ℕ) (can : CanSucceed plan moves client) where
  abbrev pub own_computer : HasOwnComputer plan can.member can.member_plan can.controller
  own_computer = computer_of plan can.controller can.member can.member_plan can.apart can.is_member_plan can.is_controller can.table can.is_table can.computer

  abbrev pub can_be_granted : CanBeGranted plan client can.member can.controller
  can_be_granted = record {
    come = record {
      task = can.task;
      is_task = can.is_task;
      is_member = can.is_member;
      member_plan = can.member_plan;
      is_member_plan = can.is_member_plan;
      computer = own_computer;
    };
    account = can.account;
    found = can.found;
    hash = can.hash;
  }

  pub has_servers : HasServers plan
  has_servers = record {
    controller = can.controller;
    table = can.table;
    is_table = can.is_table;
    member = can.member;
    member_plan = can.member_plan;
    is_member_plan = can.is_member_plan;
  }

-- ---- who can succeed reaches a member that has its own computer

member_same : (one other : ℕ) → Some (Member one) ≡ Some (Member other) → one ≡ other
member_same one other is = cc

controller_same : (one other : ℕ) → Some (Controller one) ≡ Some (Controller other) → one ≡ other
controller_same one other is = cc

pub own_member : (plan : Plan) (moves : List Move) (client : ℕ) → CanSucceed plan moves client → HasOwnMember plan client
own_member plan moves client can task member work controller table is_task to_member is_work to_controller is_table =
    let of_task : can.task ≡ task = some_is can.task task (sym can.is_task ∙ is_task) in
    let of_member : can.member ≡ member =
    member_same can.member member (sym can.is_member ∙ ap (λ (one : ClientPlan). end_of_peer one.server (first_ends plan)) of_task ∙ to_member) in
    let of_work : can.member_plan ≡ work = some_is can.member_plan work (sym can.is_member_plan ∙ ap (λ (at : ℕ). slice_get plan.members at) of_member ∙ is_work) in
    let of_controller : can.controller ≡ controller =
    controller_same can.controller controller (sym can.is_controller ∙ ap (λ (one : MemberPlan). end_of_peer one.controller (first_ends plan)) of_work ∙ to_controller) in
    let of_table : can.table ≡ table = some_is can.table table (sym can.is_table ∙ ap (λ (at : ℕ). slice_get plan.tables at) of_controller ∙ is_table) in (
      computer_secret table work (subst (λ (one : MemberPlan). HasComputer table one) of_work (subst (λ (one : AccountTable). HasComputer one can.member_plan) of_table can.computer)),
      subst (AreApart plan) of_controller can.apart,
    )

-- ---- what is asked of the user

response_same : (auth : AuthKind) → response_planned auth ≡ response_told auth
response_same V1 = refl
response_same V1Ess = refl
response_same V2 = refl

pub info_same : (task : ClientPlan) → info_planned task ≡ info_told task
info_same task = ap (λ (nt : List ℕ). let info : NetworkInfo = record (info_told task) { nt = nt } in info) (response_same task.auth)
