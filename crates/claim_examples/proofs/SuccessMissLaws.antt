-- Near misses of completeness beside those of `CompletenessLaws`.
-- It serves `success_tells_apart`.
use Rattle.std.proofs.Common.{◌≡◌, ◌≢◌, ℕ, List, [], ◌∷◌, Some, refl, sym, ◌∙◌, subst, arith, inl, inr, zero, suc}
use Rattle.std.specs.Prelude.{AllPairs}
use Rattle.std.specs.List.{AllByRecursion}
use Rattle.std.proofs.lemmas.List.Elements.{All-from_recursion, All-nil}
use Rattle.wire_base.specs.Names.{SameName, same_name}
use Rattle.wire_base.specs.Names as names
use Rattle.account_table.specs.LookUps.{place_in}
use Rattle.sam_logon.specs.MayLogOn.{MayLogOn}
use Rattle.outside.specs.declared.action.Judged.TheVariants as judged
use Rattle.logon_client.specs.Plans.{CanLogOn}
use Rattle.logon_client.specs.declared.plan.ClientPlan.{ClientPlan}
use Rattle.logon_client.specs.declared.plan.AuthKind.{AuthKind}
use Rattle.logon_client.specs.declared.plan.AuthKind.TheVariants.{V2}
use Rattle.member_server.specs.declared.plan.MemberPlan.{MemberPlan}
use Rattle.wire_base.proofs.ListLaws.{all_weaker, one_found}
use Rattle.logon_stubs.specs.declared.calls.LogonCall.{LogonCall}
use Rattle.step_notes.specs.Records.{IfNetwork, Judging}
use Rattle.controller_calls.specs.declared.calls.JudgedCall.{JudgedCall}
use Rattle.step_notes.proofs.Controllers.JudgedCallLaws.{network_so, of_network}
use Rattle.world_moves.specs.declared.moves.Move.TheVariants as move
use Rattle.world_moves.specs.Forms.{HasMoveForm, IsClientPlan, IsSchedule, IsStationPlan}
use Rattle.world_moves.specs.World.{IsMove, World}
use Rattle.logon_runs.specs.FirstLogon.ExampleLogon as example
use Rattle.logon_runs.specs.Scenes.WaitingUnits.{waiting}
use Rattle.logon_runs.proofs.FirstLogon.ExampleLogonLaws.{an_example_logs_on}
use Rattle.logon_runs.proofs.Scenes.WaitingLaws.{waiting_comes}
use Rattle.domain_world.specs.Claims.{TravelsAsZeros}
use Rattle.domain_world.specs.Claims.Completeness.{CanSucceed, ComesOneAtATime, IsMadeForClient, KeyArrives, OwnKeysArrive, Succeeds, info_planned}
use Rattle.domain_world.specs.Past.{past}
use Rattle.claim_examples.specs.ClaimExamples.{small_account, small_hash}
use Rattle.claim_examples.specs.CompletenessExamples.{able_client, able_member, able_table, ann_accounts, machine_account, machine_secret}
use Rattle.claim_examples.specs.SuccessMisses.{IsOther, LosesKey, OfEachClient, OfMoves, OfOwnKeys, OfSucceeding, SuccessTellsApart, asking_plan, beside_plan, bind_moves, strict_plan, strict_table, two_lost, two_moves}
use Rattle.claim_examples.proofs.CompletenessLaws.{ann_can, ann_found, ann_may, client_follows, client_form, lost_schedule, machine_found}
use Rattle.claim_examples.proofs.SequenceLaws.{one_apart}
use Rattle.interactive_station.specs.Plans.{CanStation}

-- ---- what a client succeeds by

of_succeeding : OfSucceeding
of_succeeding = record {
  can = ann_can;
  meets = record { key = 1 ∷ []; is_in = refl; told = inr (inl (refl, refl, refl)) };
  fails_name = λ done. absurd (let is = done.is_in in cc);
  fails_own_key = λ done. elim done.told [ inl told ↦ absurd (let is = done.is_in in let key = told.2 in cc) | inr none ↦ none ];
  fails_out = λ done. absurd (let is = done.is_in in cc);
  fails_key = λ done. elim done.told [ inl told ↦ absurd (let is = done.is_in in let key = told.2 in cc) | inr none ↦ none ];
  fails_user = λ done. elim done.told [ inl told ↦ absurd (let user = told.2 in cc) | inr none ↦ none ];
  fails_domain = λ done. elim done.told [ inl told ↦ absurd (let domain = told.2 in cc) | inr none ↦ none ];
  fails_refused = λ done. elim done.told [ inl told ↦ absurd (let out = told.2 in cc) | inr none ↦ none ];
  fails_member = λ done. elim done.told [ inl told ↦ absurd (let member = told.1 in cc) | inr none ↦ none ];
  fails_other_link = λ done. elim done.told [ inl told ↦ absurd (let link = told.0 in cc) | inr none ↦ none ];
}

-- ---- who can

asking_may : (level : ℕ) (auth : AuthKind) (echo now : ℕ) →
    MayLogOn (able_table ann_accounts) (info_planned (record (able_client small_hash) { level = level; auth = auth; echo = echo })) now
unfolding place_in same_name names.upper_of
asking_may level auth echo now = record {
  there = record {
    domain = inl refl;
    account = record {
      user = refl;
      unlocked = refl;
      below_lockout = inl refl;
      enabled = refl;
      not_expired = inl refl;
      workstation = inl refl;
      no_change_due = refl;
      password_not_expired = inl refl;
    };
  };
  taken_response = inl refl;
}

each_can : (level : ℕ) (auth : AuthKind) (echo : ℕ) → CanSucceed (asking_plan level auth echo) (move.Start 0 ∷ []) 0
each_can level auth echo = record {
  task = record (able_client small_hash) { level = level; auth = auth; echo = echo };
  is_task = refl;
  member = 0;
  is_member = refl;
  member_plan = able_member machine_secret;
  is_member_plan = refl;
  controller = 0;
  is_controller = refl;
  table = able_table ann_accounts;
  is_table = refl;
  apart = one_apart (λ (one other : MemberPlan). SameName one.computer other.computer → ⊥) (able_member machine_secret);
  computer = record { account = machine_account; found = machine_found; kind = refl; enabled = refl; secret = refl };
  account = small_account;
  found = ann_found;
  hash = refl;
  may = (asking_may level auth echo 0, asking_may level auth echo 0);
}

beside_can : CanSucceed beside_plan (move.Start 0 ∷ []) 0
beside_can = record {
  task = record (able_client small_hash) { server = 2 ∷ [] };
  is_task = refl;
  member = 0;
  is_member = refl;
  member_plan = able_member machine_secret;
  is_member_plan = refl;
  controller = 0;
  is_controller = refl;
  table = able_table ann_accounts;
  is_table = refl;
  apart = one_apart (λ (one other : MemberPlan). SameName one.computer other.computer → ⊥) (able_member machine_secret);
  computer = record { account = machine_account; found = machine_found; kind = refl; enabled = refl; secret = refl };
  account = small_account;
  found = ann_found;
  hash = refl;
  may = (ann_may 0, ann_may 0);
}

strict_may : (now : ℕ) → MayLogOn strict_table (info_planned (record (able_client small_hash) { auth = V2; echo = 16 })) now
unfolding place_in same_name names.upper_of
strict_may now = record {
  there = record {
    domain = inl refl;
    account = record {
      user = refl;
      unlocked = refl;
      below_lockout = inl refl;
      enabled = refl;
      not_expired = inl refl;
      workstation = inl refl;
      no_change_due = refl;
      password_not_expired = inl refl;
    };
  };
  taken_response = inr (λ short. absurd (let never : 44 ≡ 24 = short in cc));
}

strict_can : CanSucceed strict_plan (move.Start 0 ∷ []) 0
strict_can = record {
  task = record (able_client small_hash) { auth = V2; echo = 16 };
  is_task = refl;
  member = 0;
  is_member = refl;
  member_plan = able_member machine_secret;
  is_member_plan = refl;
  controller = 0;
  is_controller = refl;
  table = strict_table;
  is_table = refl;
  apart = one_apart (λ (one other : MemberPlan). SameName one.computer other.computer → ⊥) (able_member machine_secret);
  computer = record { account = machine_account; found = machine_found; kind = refl; enabled = refl; secret = refl };
  account = small_account;
  found = ann_found;
  hash = refl;
  may = (strict_may 0, strict_may 0);
}

-- ---- moves

two_schedule : IsSchedule two_lost two_moves
two_schedule = record {
  start = record { tables = refl; clients = All-from_recursion CanLogOn two_lost.clients (client_follows, (client_follows, tt)); stations = All-nil CanStation };
  forms = record {
    tables = lost_schedule.forms.tables;
    controllers = lost_schedule.forms.controllers;
    members = lost_schedule.forms.members;
    clients = All-from_recursion IsClientPlan two_lost.clients (client_form, (client_form, tt));
    stations = All-nil IsStationPlan;
    now = lost_schedule.forms.now;
    seed = lost_schedule.forms.seed;
  };
  few = omega arith;
  each = All-from_recursion IsMove two_moves (tt, (tt, (tt, (tt, (tt, (tt, tt))))));
  move_forms = All-from_recursion HasMoveForm two_moves (omega arith, (tt, (omega arith, (omega arith, (tt, (tt, tt))))));
}

two_apart : AllPairs (λ (one other : ℕ). one ≢ other) (0 ∷ 1 ∷ [])
two_apart zero zero d before within = absurd (omega (arith, before))
two_apart zero (suc zero) d before within = λ same. absurd (omega (arith, same))
two_apart zero (suc (suc j)) d before within = absurd (omega (arith, within))
two_apart (suc i) j d before within = absurd (omega (arith, before, within))

two_come : ComesOneAtATime (past two_lost two_moves) two_moves
two_come = record {
  schedule = two_schedule;
  plain = (tt, (tt, (tt, (tt, (tt, (tt, tt))))));
  once = two_apart;
  quiet = (record { dials = refl; units = refl }, (tt, (tt, (record { dials = refl; units = refl }, (tt, (tt, record { dials = refl; units = refl }))))));
}

-- the bind waits then
bind_waits : ComesOneAtATime (past example.ann_plan bind_moves) bind_moves → ⊥
bind_waits come =
    let quiet = come.quiet.1.1 in
    let w : World = (past example.ann_plan bind_moves).world in
    let none : waiting w.state.bag ≡ [] = waiting_comes.nothing w.state.bag quiet.units in
    let some = an_example_logs_on.comes.seen.bind.units in
    absurd cc

of_moves : OfMoves
of_moves = record {
  comes = two_come;
  started = refl;
  fails_mixed = λ come. absurd (let waits = come.quiet.1.0.dials in cc);
  fails_again = λ come. come.once 0 1 0 (omega arith) (omega arith) refl;
  fails_unit = bind_waits;
  fails_others = (
    (λ run come. come.plain.0),
    ((λ run come. come.plain.0), ((λ run come. come.plain.0), ((λ run come. come.plain.0), ((λ run come. come.plain.0), ((λ run come. come.plain.0), ((λ run come. come.plain.0), tt)))))),
  );
}

-- ---- the client's key

other_arrives : (task : ClientPlan) (computer : List ℕ) (controller : ℕ) (j : Judging) (asked : JudgedCall) → IfNetwork (λ (c : LogonCall). IsMadeForClient task computer controller j c → ⊥) asked →
    IfNetwork (λ (c : LogonCall). IsMadeForClient task computer controller j c → TravelsAsZeros j c.info → ⊥) asked
other_arrives task computer controller j asked never =
    network_so (λ (c : LogonCall). IsMadeForClient task computer controller j c → ⊥) (λ (c : LogonCall). IsMadeForClient task computer controller j c → TravelsAsZeros j c.info → ⊥) asked
    (λ c other own zeros. other own) never

of_own_keys : OfOwnKeys
of_own_keys = record {
  fails_zeros = λ run moves client can one arrive.
      let found = one_found (LosesKey can.task can.member_plan.computer can.controller) (KeyArrives can.task can.member_plan.computer can.controller) run.book.judged arrive one in
      let j : Judging = found.0 in
      of_network (λ (c : LogonCall). IsMadeForClient can.task can.member_plan.computer can.controller j c → TravelsAsZeros j c.info → ⊥) j.asked found.1.call found.1.asks
      (found.2 found.1.how) found.1.own found.1.zeros;
  refused = λ run moves client can none.
      all_weaker (λ (j : Judging). j.how ≡ Some (judged.Passed 0) → ⊥) (KeyArrives can.task can.member_plan.computer can.controller) run.book.judged (λ j never how. absurd (never how)) none;
  others = λ run moves client can none.
      all_weaker (IsOther can.task can.member_plan.computer can.controller) (KeyArrives can.task can.member_plan.computer can.controller) run.book.judged
      (λ j never how. other_arrives can.task can.member_plan.computer can.controller j j.asked never) none;
  fails_user = λ task computer controller j c other own. other own.user;
  fails_domain = λ task computer controller j c other own. other own.domain;
  fails_workstation = λ task computer controller j c other own. other own.workstation;
  fails_computer = λ task computer controller j c other own. other own.its_computer;
  fails_controller = λ task computer controller j c other own. other own.its_controller;
}

-- ---- each client

second_fails : OfEachClient
second_fails = record {
  fails_second = λ run moves first second come can arrive started none claim.
      let each = subst (λ (clients : List ℕ). AllByRecursion (λ (c : ℕ). (able : CanSucceed run.plan moves c) → OwnKeysArrive run moves c able → Succeeds run moves c able) clients) started (claim come) in
      let done : Succeeds run moves second can = each.1.0 can arrive in
      absurd (let is = sym none ∙ done.is_in in cc);
}

pub success_misses : SuccessTellsApart
success_misses = record { succeeding = of_succeeding; who = record { each = each_can; beside = beside_can; strict = strict_can }; moves = of_moves; keys = of_own_keys; each = second_fails }
