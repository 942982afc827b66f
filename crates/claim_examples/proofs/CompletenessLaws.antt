-- Logons one at a time, of which some come to something else than success.
-- It serves `claims_tell_apart`, `grants_tell_apart`, `replies_tell_apart`, `success_tells_apart`.
use Rattle.std.proofs.Common.{◌≡◌, ◌≢◌, ℕ, List, [], ◌∷◌, length, Some, None, refl, sym, ap, ◌∙◌, subst, arith, ◌<◌, Bool, true, false, inl, inr, slice_get}
use Rattle.std.specs.Prelude.{◌^◌, codes, ◌≤◌, AllPairs, replicate}
use Rattle.std.specs.List.{AllByRecursion}
use Rattle.std.proofs.lemmas.List.Elements.{All-from_recursion, All-nil, All-replicate}
use Rattle.wire_base.specs.Names.{IsName, IsNameByte, SameName, same_name}
use Rattle.logon_client.specs.declared.plan.ClientPlan.{ClientPlan}
use Rattle.logon_client.specs.Plans.{CanLogOn}
use Rattle.wire_base.specs.Names as names
use Rattle.account_table.specs.AccountTable.{AccountTable}
use Rattle.account_table.specs.LookUps.{account_in, machine_in, machine_name, place_in}
use Rattle.account_table.specs.declared.account.Account.{Account}
use Rattle.account_table.specs.declared.account.Kind.TheVariants.{User, Workstation}
use Rattle.member_server.specs.declared.plan.MemberPlan.{MemberPlan}
use Rattle.sam_logon.specs.MayLogOn.{MayLogOn}
use Rattle.world_moves.specs.declared.links.EndId.TheVariants.{Controller, Member}
use Rattle.world_moves.specs.declared.moves.Move.{Move}
use Rattle.world_moves.specs.declared.moves.Move.TheVariants as move
use Rattle.secret_change.specs.Secrets.{tried_by}
use Rattle.world_moves.specs.declared.plan.Plan.{Plan}
use Rattle.world_moves.specs.declared.state.State.{State}
use Rattle.world_moves.specs.Ends.{EndStates}
use Rattle.world_moves.specs.Forms.{HasMoveForm, IsAccount, IsBlock, IsByte, IsClientPlan, IsIdentifier, IsMemberPlan, IsSchedule, IsStationPlan, IsTable, IsTrust}
use Rattle.world_moves.specs.Moving.{end_of_peer}
use Rattle.wire_base.proofs.ListLaws.{some_is}
use Rattle.logon_runs.specs.Rests.{HasItsSecret}
use Rattle.world_moves.specs.World.{IsMove, first_ends, first_world, happens}
use Rattle.domain_world.specs.Claims.Completeness.{CanSucceed, ComesOneAtATime, HasComputer, MayLogOnIn, OwnKeysArrive, Succeeds, info_planned, members_of}
use Rattle.domain_world.specs.Claims.OneByOne.{AreApart, HasOwnMember}
use Rattle.domain_world.specs.Past.{past}
use Rattle.claim_examples.specs.ClaimExamples.{small_account, small_hash, small_table}
use Rattle.claim_examples.specs.CompletenessExamples.{OfCompleteness, OfOwnMembers, OfSuccess, able_client, able_member, able_plan, able_table, alike_plan, ann_accounts, ann_plan, ann_starts, lost_client, lost_moves, lost_plan, machine_account, machine_secret, plan_by, policy_plan, policy_table, two_member, two_plan}
use Rattle.claim_examples.proofs.SequenceLaws.{one_apart}
use Rattle.interactive_station.specs.Plans.{CanStation}

-- ---- a client that can succeed

pub ann_found : account_in ann_accounts (codes "ann") ≡ Some small_account
unfolding place_in same_name names.upper_of
ann_found = refl

pub machine_found : account_in ann_accounts (machine_name (codes "FILE1")) ≡ Some machine_account
unfolding place_in same_name names.upper_of
machine_found = refl

pub ann_may : (now : ℕ) → MayLogOn (able_table ann_accounts) (info_planned (able_client small_hash)) now
unfolding place_in same_name names.upper_of
ann_may now = record {
  there = record {
    domain = inl refl;
    account = record {
      user = refl;
      unlocked = refl;
      below_lockout = inl refl;
      enabled = refl;
      not_expired = inl refl;
      workstation = inl refl;
      no_change_due = refl;
      password_not_expired = inl refl;
    };
  };
  taken_response = inl refl;
}

abbrev pub ann_can : CanSucceed ann_plan ann_starts 0
ann_can = record {
  task = able_client small_hash;
  is_task = refl;
  member = 0;
  is_member = refl;
  member_plan = able_member machine_secret;
  is_member_plan = refl;
  controller = 0;
  is_controller = refl;
  table = able_table ann_accounts;
  is_table = refl;
  apart = one_apart (λ (one other : MemberPlan). SameName one.computer other.computer → ⊥) (able_member machine_secret);
  computer = record { account = machine_account; found = machine_found; kind = refl; enabled = refl; secret = refl };
  account = small_account;
  found = ann_found;
  hash = refl;
  may = (ann_may 0, ann_may 0);
}

-- ann can log on where FILE1 keeps two secrets, of which it tries that of its account
two_can : (current next : List ℕ) (tried : Bool) → machine_secret ≡ tried_by tried next current → CanSucceed (two_plan current next tried) ann_starts 0
two_can current next tried secret = record {
  task = able_client small_hash;
  is_task = refl;
  member = 0;
  is_member = refl;
  member_plan = two_member current next tried;
  is_member_plan = refl;
  controller = 0;
  is_controller = refl;
  table = able_table ann_accounts;
  is_table = refl;
  apart = one_apart (λ (one other : MemberPlan). SameName one.computer other.computer → ⊥) (two_member current next tried);
  computer = record { account = machine_account; found = machine_found; kind = refl; enabled = refl; secret = secret };
  account = small_account;
  found = ann_found;
  hash = refl;
  may = (ann_may 0, ann_may 0);
}

-- the client's task, and the member's plan, are those of `able_plan`
the_task : (accounts : List Account) (secret hash : List ℕ) (moves : List Move) (can : CanSucceed (able_plan accounts secret hash) moves 0) → able_client hash ≡ can.task
the_task accounts secret hash moves can = let is : Some (able_client hash) ≡ Some can.task = can.is_task in cc

the_member : (accounts : List Account) (secret hash : List ℕ) (moves : List Move) (can : CanSucceed (able_plan accounts secret hash) moves 0) → able_member secret ≡ can.member_plan
the_member accounts secret hash moves can =
    let at : Some (Member 0) ≡ Some (Member can.member) = ap (λ (task : ClientPlan). end_of_peer task.server (first_ends (able_plan accounts secret hash))) (the_task accounts secret hash moves can) ∙ can.is_member in
    let first : 0 ≡ can.member = cc in
    let is : Some (able_member secret) ≡ Some can.member_plan = ap (λ (member : ℕ). slice_get (able_member secret ∷ []) member) first ∙ can.is_member_plan in
    cc

the_controller : (accounts : List Account) (secret hash : List ℕ) (moves : List Move) (can : CanSucceed (able_plan accounts secret hash) moves 0) → 0 ≡ can.controller
the_controller accounts secret hash moves can =
    let at : Some (Controller 0) ≡ Some (Controller can.controller) = ap (λ (plan : MemberPlan). end_of_peer plan.controller (first_ends (able_plan accounts secret hash))) (the_member accounts secret hash moves can) ∙ can.is_controller in
    cc

the_table : (accounts : List Account) (secret hash : List ℕ) (moves : List Move) (can : CanSucceed (able_plan accounts secret hash) moves 0) → able_table accounts ≡ can.table
the_table accounts secret hash moves can =
    let is : Some (able_table accounts) ≡ Some can.table = ap (λ (controller : ℕ). slice_get (able_table accounts ∷ []) controller) (the_controller accounts secret hash moves can) ∙ can.is_table in
    cc

the_computer : (accounts : List Account) (secret hash : List ℕ) (moves : List Move) → CanSucceed (able_plan accounts secret hash) moves 0 → HasComputer (able_table accounts) (able_member secret)
the_computer accounts secret hash moves can =
    subst (λ (plan : MemberPlan). HasComputer (able_table accounts) plan) (sym (the_member accounts secret hash moves can))
    (subst (λ (table : AccountTable). HasComputer table can.member_plan) (sym (the_table accounts secret hash moves can)) can.computer)

the_user : (accounts : List Account) (secret hash : List ℕ) (moves : List Move) (can : CanSucceed (able_plan accounts secret hash) moves 0) → account_in accounts (codes "ann") ≡ Some can.account
the_user accounts secret hash moves can =
    ap (λ (task : ClientPlan). account_in accounts task.user) (the_task accounts secret hash moves can)
    ∙ ap (λ (table : AccountTable). account_in table.accounts can.task.user) (the_table accounts secret hash moves can)
    ∙ can.found

the_may : (accounts : List Account) (secret hash : List ℕ) (moves : List Move) (s : State) (can : CanSucceed (able_plan accounts secret hash) moves 0) →
    MayLogOnIn can.controller (info_planned can.task) s → MayLogOnIn 0 (info_planned (able_client hash)) s
the_may accounts secret hash moves s can may =
    subst (λ (task : ClientPlan). MayLogOnIn 0 (info_planned task) s) (sym (the_task accounts secret hash moves can))
    (subst (λ (controller : ℕ). MayLogOnIn controller (info_planned can.task) s) (sym (the_controller accounts secret hash moves can)) may)

-- ann may log on by any policy
policy_may : (lockout : ℕ) (only : Bool) (count : ℕ) (can : CanSucceed (policy_plan lockout only count) ann_starts 0) →
    MayLogOn (policy_table lockout only count) (info_planned (able_client small_hash)) 0
policy_may lockout only count can =
    let plan : Plan = policy_plan lockout only count in
    let is_task : Some (able_client small_hash) ≡ Some can.task = can.is_task in
    let task : able_client small_hash ≡ can.task = cc in
    let at : Some (Member 0) ≡ Some (Member can.member) = ap (λ (one : ClientPlan). end_of_peer one.server (first_ends plan)) task ∙ can.is_member in
    let first : 0 ≡ can.member = cc in
    let is : Some (able_member machine_secret) ≡ Some can.member_plan = ap (λ (member : ℕ). slice_get (able_member machine_secret ∷ []) member) first ∙ can.is_member_plan in
    let member : able_member machine_secret ≡ can.member_plan = cc in
    let of : Some (Controller 0) ≡ Some (Controller can.controller) = ap (λ (one : MemberPlan). end_of_peer one.controller (first_ends plan)) member ∙ can.is_controller in
    let zero : 0 ≡ can.controller = cc in
    subst (λ (one : ClientPlan). MayLogOnIn 0 (info_planned one) (first_world plan).state) (sym task)
    (subst (λ (controller : ℕ). MayLogOnIn controller (info_planned can.task) (first_world plan).state) (sym zero) can.may.0)

not_locked_out : MayLogOn (policy_table 2 false 2) (info_planned (able_client small_hash)) 0 → ⊥
unfolding place_in same_name names.upper_of
not_locked_out may = elim may.there.account.below_lockout [
  | inl none ↦ absurd (let never : 2 ≡ 0 = none in cc)
  | inr below ↦ absurd (let never : 2 < 2 = below in omega arith)
]

not_short : MayLogOn (policy_table 0 true 0) (info_planned (able_client small_hash)) 0 → ⊥
not_short may = elim may.taken_response [
  | inl each ↦ absurd (let never : true ≡ false = each in cc)
  | inr other ↦ other refl
]

-- near misses
not_hash : CanSucceed (able_plan ann_accounts machine_secret (replicate 16 8)) ann_starts 0 → ⊥
not_hash can =
    let is : Some small_account ≡ Some can.account = sym ann_found ∙ the_user ann_accounts machine_secret (replicate 16 8) ann_starts can in
    let account : small_account ≡ can.account = cc in
    absurd (let never : small_hash ≡ replicate 16 8 = ap Account.hash account ∙ can.hash ∙ sym (ap ClientPlan.hash (the_task ann_accounts machine_secret (replicate 16 8) ann_starts can)) in cc)

not_secret : HasComputer (able_table ann_accounts) (able_member (replicate 16 4)) → ⊥
not_secret computer =
    let is : Some machine_account ≡ Some computer.account = sym machine_found ∙ computer.found in
    let account : machine_account ≡ computer.account = cc in
    absurd (let never : machine_secret ≡ replicate 16 4 = ap Account.hash account ∙ computer.secret in cc)

not_disabled : MayLogOn (able_table (record small_account { disabled = true } ∷ machine_account ∷ [])) (info_planned (able_client small_hash)) 0 → ⊥
unfolding place_in same_name names.upper_of
not_disabled may = absurd (let never : true ≡ false = may.there.account.enabled in cc)

not_enabled : HasComputer (able_table (small_account ∷ record machine_account { disabled = true } ∷ [])) (able_member machine_secret) → ⊥
unfolding place_in same_name names.upper_of
not_enabled computer =
    let is : Some (record machine_account { disabled = true }) ≡ Some computer.account = computer.found in
    let account : record machine_account { disabled = true } ≡ computer.account = cc in
    absurd (let never : true ≡ false = ap Account.disabled account ∙ computer.enabled in cc)

not_kind : HasComputer (able_table (small_account ∷ record machine_account { kind = User } ∷ [])) (able_member machine_secret) → ⊥
unfolding place_in same_name names.upper_of
not_kind computer =
    let is : Some (record machine_account { kind = User }) ≡ Some computer.account = computer.found in
    let account : record machine_account { kind = User } ≡ computer.account = cc in
    absurd (let never : User ≡ Workstation = ap Account.kind account ∙ computer.kind in cc)

not_later : MayLogOn (able_table (record small_account { expires = 10 } ∷ machine_account ∷ [])) (info_planned (able_client small_hash)) 10 → ⊥
unfolding place_in same_name names.upper_of
not_later may = elim may.there.account.not_expired [ inl none ↦ absurd (let never : 10 ≡ 0 = none in cc) | inr before ↦ absurd (let never : 10 < 10 = before in omega arith) ]

alike_names : SameName (codes "FILE1") (codes "file1")
unfolding names.upper_of
alike_names = refl

not_apart : (ends : EndStates) (controller : ℕ) → members_of ends controller alike_plan.members ≡ alike_plan.members →
    AllPairs (λ (one other : MemberPlan). SameName one.computer other.computer → ⊥) (members_of ends controller alike_plan.members) → ⊥
not_apart ends controller all apart =
    let apart_all = subst (λ (plans : List MemberPlan). AllPairs (λ (one other : MemberPlan). SameName one.computer other.computer → ⊥) plans) all apart in
    apart_all 0 1 (able_member []) (omega arith) (omega arith) alike_names

not_alike : CanSucceed alike_plan ann_starts 0 → ⊥
not_alike can =
    let is_task : Some (able_client small_hash) ≡ Some can.task = can.is_task in
    let task : able_client small_hash ≡ can.task = cc in
    let at : Some (Member 0) ≡ Some (Member can.member) = ap (λ (one : ClientPlan). end_of_peer one.server (first_ends alike_plan)) task ∙ can.is_member in
    let first : 0 ≡ can.member = cc in
    let is : Some (able_member machine_secret) ≡ Some can.member_plan = ap (λ (member : ℕ). slice_get alike_plan.members member) first ∙ can.is_member_plan in
    let plan : able_member machine_secret ≡ can.member_plan = cc in
    let of : Some (Controller 0) ≡ Some (Controller can.controller) = ap (λ (one : MemberPlan). end_of_peer one.controller (first_ends alike_plan)) plan ∙ can.is_controller in
    let zero : 0 ≡ can.controller = cc in
    not_apart (first_ends alike_plan) 0 refl (subst (λ (controller : ℕ). AllPairs (λ (one other : MemberPlan). SameName one.computer other.computer → ⊥) (members_of (first_ends alike_plan) controller alike_plan.members)) (sym zero) can.apart)

not_untried : HasComputer (able_table ann_accounts) (two_member (replicate 16 4) machine_secret false) → ⊥
not_untried computer =
    let is : Some machine_account ≡ Some computer.account = sym machine_found ∙ computer.found in
    let account : machine_account ≡ computer.account = cc in
    absurd (let never : machine_secret ≡ replicate 16 4 = ap Account.hash account ∙ computer.secret in cc)

two_not : CanSucceed (two_plan (replicate 16 4) machine_secret false) ann_starts 0 → ⊥
two_not can =
    let plan : Plan = two_plan (replicate 16 4) machine_secret false in
    let own : MemberPlan = two_member (replicate 16 4) machine_secret false in
    let is_task : Some (able_client small_hash) ≡ Some can.task = can.is_task in
    let task : able_client small_hash ≡ can.task = cc in
    let at : Some (Member 0) ≡ Some (Member can.member) = ap (λ (one : ClientPlan). end_of_peer one.server (first_ends plan)) task ∙ can.is_member in
    let first : 0 ≡ can.member = cc in
    let is : Some own ≡ Some can.member_plan = ap (λ (member : ℕ). slice_get plan.members member) first ∙ can.is_member_plan in
    let member : own ≡ can.member_plan = cc in
    let of : Some (Controller 0) ≡ Some (Controller can.controller) = ap (λ (one : MemberPlan). end_of_peer one.controller (first_ends plan)) member ∙ can.is_controller in
    let zero : 0 ≡ can.controller = cc in
    let found : Some (able_table ann_accounts) ≡ Some can.table = ap (λ (controller : ℕ). slice_get plan.tables controller) zero ∙ can.is_table in
    let table : able_table ann_accounts ≡ can.table = cc in
    not_untried (subst (λ (one : MemberPlan). HasComputer (able_table ann_accounts) one) (sym member) (subst (λ (one : AccountTable). HasComputer one can.member_plan) (sym table) can.computer))

pub of_success : OfSuccess
of_success = record {
  can = ann_can;
  fails_hash = not_hash;
  fails_secret = λ can. not_secret (the_computer ann_accounts (replicate 16 4) small_hash ann_starts can);
  fails_disabled = λ can. not_disabled (the_may (record small_account { disabled = true } ∷ machine_account ∷ []) machine_secret small_hash ann_starts
      (first_world (plan_by (record small_account { disabled = true }) machine_account)).state can can.may.0);
  fails_computer = λ can. not_enabled (the_computer (small_account ∷ record machine_account { disabled = true } ∷ []) machine_secret small_hash ann_starts can);
  fails_kind = λ can. not_kind (the_computer (small_account ∷ record machine_account { kind = User } ∷ []) machine_secret small_hash ann_starts can);
  fails_locked_out = λ can. not_locked_out (policy_may 2 false 2 can);
  fails_short = λ can. not_short (policy_may 0 true 0 can);
  fails_alike = not_alike;
  can_current = two_can machine_secret (replicate 16 4) false refl;
  can_next = two_can (replicate 16 4) machine_secret true refl;
  fails_untried = two_not;
  fails_later = λ can. not_later (the_may (record small_account { expires = 10 } ∷ machine_account ∷ []) machine_secret small_hash (move.Start 0 ∷ move.Tick 10 ∷ [])
      (happens (happens (first_world (plan_by (record small_account { expires = 10 }) machine_account)) (move.Start 0)) (move.Tick 10)).state can can.may.1.1);
  meets = record { key = 1 ∷ []; is_in = refl; told = inl (refl, refl, refl) };
  fails_echo = λ done. absurd (let is = done.is_in in cc);
  fails_untold = λ done. done.told;
  fails_elsewhere = λ done. elim done.told [ inl told ↦ absurd (let link = told.0 in cc) | inr none ↦ none ];
}

-- ---- a client whose server's address names no end

-- a name of these bytes
pub a_name : (text : List ℕ) → length text ≤ 64 → AllByRecursion IsNameByte text → IsName text
a_name text few each = (few, All-from_recursion IsNameByte text each)

small_hash_form : IsBlock 16 small_hash
small_hash_form = (refl, All-replicate IsByte 16 7 (omega arith))

pub account_form : IsAccount small_account
account_form = record {
  name = a_name (codes "ann") (omega arith) ((omega arith, omega arith), ((omega arith, omega arith), ((omega arith, omega arith), tt)));
  rid = omega arith;
  hash = small_hash_form;
  full_name = a_name [] (omega arith) tt;
  group = omega arith;
  few_groups = omega arith;
  groups = All-nil (λ (group : ℕ). group < 2 ^ 32);
  expires = omega arith;
  password_set = omega arith;
  password_expires = omega arith;
  few_workstations = omega arith;
  workstations = All-nil IsName;
  few_extra_sids = omega arith;
  extra_sids = All-nil IsIdentifier;
  bad_count = omega arith;
  few_controllers = omega arith;
  controllers = All-nil IsName;
}

pub table_form : IsTable small_table
table_form = record {
  domain = a_name (codes "CORP") (omega arith) ((omega arith, omega arith), ((omega arith, omega arith), ((omega arith, omega arith), ((omega arith, omega arith), tt))));
  sid = record { authority = omega arith; one = omega arith; at_most = omega arith };
  numbers = All-from_recursion (λ (number : ℕ). number < 2 ^ 32) (21 ∷ []) (omega arith, tt);
  lockout = omega arith;
  few = omega arith;
  accounts = All-from_recursion IsAccount (small_account ∷ []) (account_form, tt);
  distinct = refl;
  trusts = All-nil IsTrust;
  distinct_domains = refl;
}

pub client_form : IsClientPlan lost_client
client_form = record {
  server = All-from_recursion IsByte (9 ∷ []) (omega arith, tt);
  domain = All-nil (λ (unit : ℕ). unit < 2 ^ 16);
  user = All-nil (λ (unit : ℕ). unit < 2 ^ 16);
  workstation = All-nil (λ (unit : ℕ). unit < 2 ^ 16);
  hash = small_hash_form;
}

pub client_follows : CanLogOn lost_client
client_follows = record {
  level = refl;
  plain = λ is. refl;
  echo = omega arith;
  domain = omega arith;
  user = omega arith;
  workstation = omega arith;
}

pub lost_schedule : IsSchedule lost_plan lost_moves
lost_schedule = record {
  start = record { tables = refl; clients = All-from_recursion CanLogOn lost_plan.clients (client_follows, tt); stations = All-nil CanStation };
  forms = record {
    tables = All-from_recursion IsTable lost_plan.tables (table_form, tt);
    controllers = All-from_recursion IsName lost_plan.controllers (a_name (codes "PDC") (omega arith) ((omega arith, omega arith), ((omega arith, omega arith), ((omega arith, omega arith), tt))), tt);
    members = All-nil IsMemberPlan;
    clients = All-from_recursion IsClientPlan lost_plan.clients (client_form, tt);
    stations = All-nil IsStationPlan;
    now = omega arith;
    seed = (refl, All-replicate IsByte 32 0 (omega arith));
  };
  few = omega arith;
  each = All-from_recursion IsMove lost_moves (tt, (tt, tt));
  move_forms = All-from_recursion HasMoveForm lost_moves (omega arith, (tt, tt));
}

lost_comes : ComesOneAtATime (past lost_plan lost_moves) lost_moves
lost_comes = record {
  schedule = lost_schedule;
  plain = (tt, (tt, tt));
  once = one_apart (λ (one other : ℕ). one ≢ other) 0;
  quiet = (record { dials = refl; units = refl }, (tt, record { dials = refl; units = refl }));
}

-- no member is at that address
no_member : CanSucceed lost_plan lost_moves 0 → ⊥
no_member can =
    let is_task : Some lost_client ≡ Some can.task = can.is_task in
    let task : lost_client ≡ can.task = cc in
    absurd (let never : None ≡ Some (Member can.member) = ap (λ (plan : ClientPlan). end_of_peer plan.server (first_ends lost_plan)) task ∙ can.is_member in cc)

pub of_completeness : OfCompleteness
of_completeness = record {
  meets = λ plan come. tt;
  comes = lost_comes;
  started = refl;
  ended = refl;
  meets_started = λ come. (λ can arrive. absurd (no_member can), tt);
  fails_waiting = λ come. absurd (let waits = come.quiet.1.dials in cc);
  fails_twice = λ come. come.once 0 1 0 (omega arith) (omega arith) refl;
  fails_other_move = λ come. come.plain.0;
  fails = λ run moves client come can arrive started none claim.
      let done : Succeeds run moves client can =
      (subst (λ (clients : List ℕ). AllByRecursion (λ (c : ℕ). (able : CanSucceed run.plan moves c) → OwnKeysArrive run moves c able → Succeeds run moves c able) clients) started (claim come)).0 can arrive in
      absurd (let is = sym none ∙ done.is_in in cc);
}

-- ---- the premise on members

member_is : (one other : ℕ) → Some (Member one) ≡ Some (Member other) → one ≡ other
member_is one other is = cc

controller_is : (one other : ℕ) → Some (Controller one) ≡ Some (Controller other) → one ≡ other
controller_is one other is = cc

-- the account by which the channel of FILE1 is opened has that secret, where there is one
own_so : (accounts : List Account) (secret hash : List ℕ) → HasItsSecret (able_table accounts) (able_member secret) → HasOwnMember (able_plan accounts secret hash) 0
own_so accounts secret hash has task member work controller table is_task to_member is_work to_controller is_table =
    let plan : Plan = able_plan accounts secret hash in
    let of_task : able_client hash ≡ task = some_is (able_client hash) task is_task in
    let of_member : 0 ≡ member = member_is 0 member
    (ap (λ (one : ClientPlan). end_of_peer one.server (first_ends plan)) of_task ∙ to_member) in
    let of_work : able_member secret ≡ work = some_is (able_member secret) work (ap (λ (at : ℕ). slice_get plan.members at) of_member ∙ is_work) in
    let of_controller : 0 ≡ controller = controller_is 0 controller
    (ap (λ (one : MemberPlan). end_of_peer one.controller (first_ends plan)) of_work ∙ to_controller) in
    let of_table : able_table accounts ≡ table = some_is (able_table accounts) table (ap (λ (at : ℕ). slice_get plan.tables at) of_controller ∙ is_table) in (
      subst (λ (one : MemberPlan). HasItsSecret table one) of_work (subst (λ (one : AccountTable). HasItsSecret one (able_member secret)) of_table has),
      subst (AreApart plan) of_controller (one_apart (λ (one other : MemberPlan). SameName one.computer other.computer → ⊥) (able_member secret)),
    )

known_secret : HasItsSecret (able_table ann_accounts) (able_member machine_secret)
unfolding machine_in same_name names.upper_of
known_secret account found = let same : machine_account ≡ account = some_is machine_account account found in ap Account.hash (sym same)

unknown_secret : (secret : List ℕ) → HasItsSecret (able_table (small_account ∷ [])) (able_member secret)
unfolding machine_in same_name names.upper_of
unknown_secret secret account found = absurd (let never : None ≡ Some account = found in cc)

disabled_secret : (secret : List ℕ) → HasItsSecret (able_table (small_account ∷ record machine_account { disabled = true } ∷ [])) (able_member secret)
unfolding machine_in same_name names.upper_of
disabled_secret secret account found = absurd (let never : None ≡ Some account = found in cc)

kind_secret : (secret : List ℕ) → HasItsSecret (able_table (small_account ∷ record machine_account { kind = User } ∷ [])) (able_member secret)
unfolding machine_in same_name names.upper_of
kind_secret secret account found = absurd (let never : None ≡ Some account = found in cc)

other_secret : HasItsSecret (able_table ann_accounts) (able_member (replicate 16 4)) → ⊥
unfolding machine_in same_name names.upper_of
other_secret has = absurd (let never : machine_secret ≡ replicate 16 4 = has machine_account refl in cc)

pub of_own_members : OfOwnMembers
of_own_members = record {
  meets = own_so ann_accounts machine_secret (replicate 16 8) known_secret;
  unknown = λ secret. own_so (small_account ∷ []) secret small_hash (unknown_secret secret);
  disabled = λ secret. own_so (small_account ∷ record machine_account { disabled = true } ∷ []) secret small_hash (disabled_secret secret);
  kind = λ secret. own_so (small_account ∷ record machine_account { kind = User } ∷ []) secret small_hash (kind_secret secret);
  nobody = λ task member work controller table is_task to_member is_work to_controller is_table.
      let of_task : lost_client ≡ task = some_is lost_client task is_task in
      absurd (let never : None ≡ Some (Member member) = ap (λ (one : ClientPlan). end_of_peer one.server (first_ends lost_plan)) of_task ∙ to_member in cc);
  fails_secret = λ own. other_secret (own (able_client small_hash) 0 (able_member (replicate 16 4)) 0 (able_table ann_accounts) refl refl refl refl refl).0;
  fails_alike = λ own.
      not_apart (first_ends alike_plan) 0 refl (own (able_client small_hash) 0 (able_member machine_secret) 0 (able_table ann_accounts) refl refl refl refl refl).1;
}
