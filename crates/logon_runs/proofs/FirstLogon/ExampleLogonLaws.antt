-- That the example's plan meets what the first logon in a world asks.
-- Of `an_example_logs_on`.
use Rattle.std.proofs.Common.{◌≡◌, ℕ, ◌<◌, ◌≤◌, List, [], ◌∷◌, length, Some, refl, arith, inl, inr}
use Rattle.std.specs.Prelude.{◌^◌, codes, replicate}
use Rattle.std.specs.List.{AllByRecursion}
use Rattle.std.proofs.lemmas.List.Elements.{All-from_recursion, All-nil, All-replicate}
use Rattle.wire_base.specs.Names.{IsName, IsNameByte, same_name}
use Rattle.wire_base.specs.Names as names
use Rattle.account_table.specs.LookUps.{account_in, machine_name, place_in}
use Rattle.sam_logon.specs.MayLogOn.{MayLogOn}
use Rattle.logon_client.specs.Plans.{CanLogOn}
use Rattle.world_moves.specs.Forms.{HasForms, HasMoveForm, IsAccount, IsBlock, IsByte, IsClientPlan, IsIdentifier, IsMemberPlan, IsStationPlan, IsTable, IsTrust}
use Rattle.world_moves.specs.World.{IsMove, IsPlan}
use Rattle.logon_steps.specs.Granting.{info_told}
use Rattle.logon_runs.specs.FirstLogon.ExampleLogon.{AnnLogsOn, ann, ann_moves, ann_plan, ann_task, corp, file1, file1_plan}
use Rattle.logon_runs.specs.FirstLogon.FirstWorlds.{CanComeIn, IsLoggedOn}
use Rattle.logon_runs.proofs.FirstLogon.FirstWorldLaws.{first_worlds_run}
use Rattle.interactive_station.specs.Plans.{CanStation}

-- ---- forms

-- a name of these bytes
a_name : (text : List ℕ) → length text ≤ 64 → AllByRecursion IsNameByte text → IsName text
a_name text few each = (few, All-from_recursion IsNameByte text each)

hash_form : (byte : ℕ) → byte < 2 ^ 8 → IsBlock 16 (replicate 16 byte)
hash_form byte below = (refl, All-replicate IsByte 16 byte below)

corp_name : IsName (codes "CORP")
corp_name = a_name (codes "CORP") (omega arith) ((omega arith, omega arith), ((omega arith, omega arith), ((omega arith, omega arith), ((omega arith, omega arith), tt))))

ann_form : IsAccount ann
ann_form = record {
  name = a_name (codes "ann") (omega arith) ((omega arith, omega arith), ((omega arith, omega arith), ((omega arith, omega arith), tt)));
  rid = omega arith;
  hash = hash_form 7 (omega arith);
  full_name = a_name [] (omega arith) tt;
  group = omega arith;
  few_groups = omega arith;
  groups = All-nil (λ (group : ℕ). group < 2 ^ 32);
  expires = omega arith;
  password_set = omega arith;
  password_expires = omega arith;
  few_workstations = omega arith;
  workstations = All-nil IsName;
  few_extra_sids = omega arith;
  extra_sids = All-nil IsIdentifier;
  bad_count = omega arith;
  few_controllers = omega arith;
  controllers = All-nil IsName;
}

file1_form : IsAccount file1
file1_form = record {
  name = a_name (codes "FILE1$") (omega arith)
      ((omega arith, omega arith), ((omega arith, omega arith), ((omega arith, omega arith), ((omega arith, omega arith), ((omega arith, omega arith), ((omega arith, omega arith), tt))))));
  rid = omega arith;
  hash = hash_form 3 (omega arith);
  full_name = a_name [] (omega arith) tt;
  group = omega arith;
  few_groups = omega arith;
  groups = All-nil (λ (group : ℕ). group < 2 ^ 32);
  expires = omega arith;
  password_set = omega arith;
  password_expires = omega arith;
  few_workstations = omega arith;
  workstations = All-nil IsName;
  few_extra_sids = omega arith;
  extra_sids = All-nil IsIdentifier;
  bad_count = omega arith;
  few_controllers = omega arith;
  controllers = All-nil IsName;
}

corp_form : IsTable corp
unfolding same_name names.upper_of
corp_form = record {
  domain = corp_name;
  sid = record { authority = omega arith; one = omega arith; at_most = omega arith };
  numbers = All-from_recursion (λ (number : ℕ). number < 2 ^ 32) (21 ∷ []) (omega arith, tt);
  lockout = omega arith;
  few = omega arith;
  accounts = All-from_recursion IsAccount (ann ∷ file1 ∷ []) (ann_form, (file1_form, tt));
  distinct = refl;
  trusts = All-nil IsTrust;
  distinct_domains = refl;
}

member_form : IsMemberPlan file1_plan
member_form = record {
  computer = a_name (codes "FILE1") (omega arith)
      ((omega arith, omega arith), ((omega arith, omega arith), ((omega arith, omega arith), ((omega arith, omega arith), ((omega arith, omega arith), tt)))));
  domain = corp_name;
  secret = hash_form 3 (omega arith);
  next = tt;
  controller = All-from_recursion IsByte (0 ∷ []) (omega arith, tt);
}

client_form : IsClientPlan ann_task
client_form = record {
  server = All-from_recursion IsByte (1 ∷ []) (omega arith, tt);
  domain = All-from_recursion (λ (unit : ℕ). unit < 2 ^ 16) (codes "CORP") (omega arith, (omega arith, (omega arith, (omega arith, tt))));
  user = All-from_recursion (λ (unit : ℕ). unit < 2 ^ 16) (codes "ann") (omega arith, (omega arith, (omega arith, tt)));
  workstation = All-from_recursion (λ (unit : ℕ). unit < 2 ^ 16) (codes "WS7") (omega arith, (omega arith, (omega arith, tt)));
  hash = hash_form 7 (omega arith);
}

client_follows : CanLogOn ann_task
client_follows = record {
  level = refl;
  plain = λ is. refl;
  echo = omega arith;
  domain = omega arith;
  user = omega arith;
  workstation = omega arith;
}

plan_is : IsPlan ann_plan
plan_is = record {
  tables = refl;
  clients = All-from_recursion CanLogOn ann_plan.clients (client_follows, tt);
  stations = All-nil CanStation;
}

plan_forms : HasForms ann_plan
plan_forms = record {
  tables = All-from_recursion IsTable ann_plan.tables (corp_form, tt);
  controllers = All-from_recursion IsName ann_plan.controllers (a_name (codes "PDC") (omega arith) ((omega arith, omega arith), ((omega arith, omega arith), ((omega arith, omega arith), tt))), tt);
  members = All-from_recursion IsMemberPlan ann_plan.members (member_form, tt);
  clients = All-from_recursion IsClientPlan ann_plan.clients (client_form, tt);
  stations = All-nil IsStationPlan;
  now = omega arith;
  seed = (refl, All-replicate IsByte 32 0 (omega arith));
}

-- ---- what is asked

pub ann_found : account_in corp.accounts (codes "ann") ≡ Some ann
unfolding place_in same_name names.upper_of
ann_found = refl

pub file1_found : account_in corp.accounts (machine_name (codes "FILE1")) ≡ Some file1
unfolding place_in same_name names.upper_of
file1_found = refl

pub ann_may : MayLogOn corp (info_told ann_task) 0
unfolding place_in same_name names.upper_of
ann_may = record {
  there = record {
    domain = inr refl;
    account = record {
      user = refl;
      unlocked = refl;
      below_lockout = inl refl;
      enabled = refl;
      not_expired = inl refl;
      workstation = inl refl;
      no_change_due = refl;
      password_not_expired = inl refl;
    };
  };
  taken_response = inl refl;
}

abbrev pub ann_can : CanComeIn ann_plan 0 0 0
ann_can = record {
  task = ann_task;
  is_task = refl;
  is_member = refl;
  member_plan = file1_plan;
  is_member_plan = refl;
  is_controller = refl;
  table = corp;
  is_table = refl;
  name = codes "PDC";
  is_name = refl;
  alone = tt;
  unsealed = refl;
  plain = refl;
  machine = file1;
  machine_found = file1_found;
  kind = refl;
  enabled = refl;
  one = refl;
  secret = refl;
  account = ann;
  found = ann_found;
  hash = refl;
  may = ann_may;
}

ann_comes : IsLoggedOn ann_plan 0 0 0 0 ann_can
ann_comes = first_worlds_run.comes_in ann_plan 0 0 0 0 plan_is plan_forms refl ann_can (λ signed. absurd cc)

pub an_example_logs_on : AnnLogsOn
an_example_logs_on = record {
  schedule = record {
    start = plan_is;
    forms = plan_forms;
    few = omega arith;
    each = All-from_recursion IsMove ann_moves
        (tt, (tt, (tt, (tt, (tt, (tt, (tt, (tt, (tt, (tt, (tt, (tt, (tt, (tt, (tt, (tt, (tt, (tt, (tt, (tt, (tt, (tt, (tt, (tt, tt))))))))))))))))))))))));
    move_forms = All-from_recursion HasMoveForm ann_moves
        (omega arith, (tt, (tt, (tt, (tt, (tt, (tt, (tt, (tt, (tt, (tt, (tt, (tt, (tt, (tt, (tt, (tt, (tt, (tt, (tt, (tt, (tt, (tt, (tt, tt))))))))))))))))))))))));
  };
  can = ann_can;
  comes = ann_comes;
  outcome = ann_comes.outcome;
}
