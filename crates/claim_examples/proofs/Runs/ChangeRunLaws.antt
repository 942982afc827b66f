-- At four states of the run in which FILE1 replaces its secret, it and its controller are not apart, by what is proved
-- of all runs. It serves `a_change_leaves_none_apart`.
use Rattle.std.proofs.Common.{◌≡◌, ◌≤◌, ◌<◌, ℕ, zero, suc, ◌+◌, ◌%◌, ◌^◌, Bool, false, List, [], ◌∷◌, ◌++◌, length, Some, inl, refl, sym, ap, ◌∙◌, arith}
use Rattle.std.specs.Prelude.{◌≢◌, All, codes}
use Rattle.std.proofs.lemmas.List.{length-append}
use Rattle.std.proofs.lemmas.List.Elements.{All-append, All-from_recursion, All-nil, All-replicate, All-weaker}
use Rattle.wire_base.specs.Names as names
use Rattle.wire_base.specs.Names.{IsName, SameName, same_name}
use Rattle.wire_base.proofs.ListLaws.{no_some}
use Rattle.account_table.specs.LookUps.{account_in, machine_name, place_in}
use Rattle.logon_client.specs.Plans.{CanLogOn}
use Rattle.secret_change.specs.Secrets.{SecretsState, alone}
use Rattle.step_notes.specs.Records.{Book, Judging, OfMember, OfTrust, RequesterId}
use Rattle.world_moves.specs.declared.moves.Move.{Move}
use Rattle.world_moves.specs.declared.moves.Move.TheVariants as move
use Rattle.world_moves.specs.Forms.{HasForms, HasMoveForm, IsAccount, IsByte, IsClientPlan, IsMemberPlan, IsSchedule, IsStationPlan, IsTable}
use Rattle.world_moves.specs.World.{IsMove, World, first_world, move_limit}
use Rattle.world_moves.proofs.AloneLaws.{plain_plan}
use Rattle.domain_world.specs.Claims.{IsClear, Wraps}
use Rattle.domain_world.specs.Claims.NeverApart.{BeginsAlike, computer_of, has_foreign_set}
use Rattle.domain_world.specs.Past.{past}
use Rattle.claim_examples.specs.ChangeRuns.{ChangeLeavesNoneApart, LeavesNoneApart, anew_moves, begun_moves, changing_accounts, changing_plan, denied_moves, in_moves, in_report, learned_moves, lost_moves, message_moves, opened_moves, set_moves, turn_moves}
use Rattle.claim_examples.specs.ClaimExamples.{small_hash}
use Rattle.claim_examples.specs.CompletenessExamples.{able_client, able_member, able_table, machine_account}
use Rattle.claim_examples.specs.NeverApartExamples.{both_secrets, new_secret, old_secret}
use Rattle.claim_examples.proofs.ClaimLaws.{moved_by_one, the_two}
use Rattle.claim_examples.proofs.CompletenessLaws.{a_name, account_form, table_form}
use Rattle.claim_examples.proofs.NeverApartExampleLaws.{file1_named, machine_form, member_form}
use Rattle.claim_examples.proofs.Runs.ChangeDrawLaws.{change_draws, first_left, left_behind}
use Rattle.claim_examples.proofs.Runs.ChangeShownLaws.{Ended, Seen, Shows, calm_with, change_is_seen, end_is_seen, ended_in, first_timestamp, look, older_timestamp, seen_in, world_with}
use Rattle.interactive_station.specs.Plans.{CanStation}

-- ---- the start

pub file1_found : account_in changing_accounts (machine_name (codes "FILE1")) ≡ Some (record machine_account { hash = old_secret })
unfolding place_in same_name names.upper_of
file1_found = refl

pub none_other : (who : RequesterId) (name : List ℕ) → who ≢ OfMember 0 → computer_of changing_plan who ≡ Some name → SameName name (codes "FILE1") → ⊥
none_other (OfMember zero) name other is same = other refl
none_other (OfMember (suc k)) name other is same = no_some name is
none_other (OfTrust controller trust) name other is same = no_some name is

abbrev pub changing_begins : BeginsAlike changing_plan 0
changing_begins = record {
  own = able_member old_secret;
  is_plan = refl;
  secret = old_secret;
  one = refl;
  controller = 0;
  reaches = refl;
  table = able_table changing_accounts;
  is_table = refl;
  account = record machine_account { hash = old_secret };
  found = file1_found;
  hash = refl;
  only = none_other;
}

-- ---- the moves are schedules

changing_table_form : IsTable (able_table changing_accounts)
unfolding same_name names.upper_of
changing_table_form = record {
  domain = table_form.domain;
  sid = table_form.sid;
  numbers = table_form.numbers;
  lockout = table_form.lockout;
  few = omega arith;
  accounts = All-from_recursion IsAccount changing_accounts (account_form, (machine_form 0x41 (omega arith), tt));
  distinct = refl;
  trusts = table_form.trusts;
  distinct_domains = refl;
}

ann_form : IsClientPlan (able_client small_hash)
ann_form = record {
  server = All-from_recursion IsByte (1 ∷ []) (omega arith, tt);
  domain = All-nil (λ (unit : ℕ). unit < 2 ^ 16);
  user = All-from_recursion (λ (unit : ℕ). unit < 2 ^ 16) (codes "ann") (omega arith, (omega arith, (omega arith, tt)));
  workstation = All-nil (λ (unit : ℕ). unit < 2 ^ 16);
  hash = account_form.hash;
}

ann_follows : CanLogOn (able_client small_hash)
ann_follows = record { level = refl; plain = λ is. refl; echo = omega arith; domain = omega arith; user = omega arith; workstation = omega arith }

changing_forms : HasForms changing_plan
changing_forms = record {
  tables = All-from_recursion IsTable changing_plan.tables (changing_table_form, tt);
  controllers = All-from_recursion IsName changing_plan.controllers (a_name (codes "PDC") (omega arith) ((omega arith, omega arith), ((omega arith, omega arith), ((omega arith, omega arith), tt))), tt);
  members = All-from_recursion IsMemberPlan changing_plan.members (member_form (codes "FILE1") 0x41 0 file1_named (omega arith) (omega arith), tt);
  clients = All-from_recursion IsClientPlan changing_plan.clients (ann_form, tt);
  stations = All-nil IsStationPlan;
  now = omega arith;
  seed = (refl, All-replicate IsByte 32 0 (omega arith));
}

-- what a world can make has the form of its type
abbrev pub CanBeMade : Move → Type 0
CanBeMade what = IsMove what × HasMoveForm what

message_can : All CanBeMade message_moves
message_can = All-from_recursion CanBeMade message_moves ((tt, omega arith), ((tt, tt), ((tt, tt), ((tt, tt), ((tt, tt), ((tt, tt), tt))))))

turn_can : All CanBeMade turn_moves
turn_can = All-from_recursion CanBeMade turn_moves ((tt, tt), ((tt, tt), ((tt, tt), ((tt, tt), ((tt, tt), tt)))))

-- a message, and two turns behind it
logon_can : (later : List Move) → All CanBeMade later → All CanBeMade (message_moves ++ turn_moves ++ turn_moves ++ later)
logon_can later can =
    All-append CanBeMade message_moves (turn_moves ++ turn_moves ++ later) message_can
    (All-append CanBeMade turn_moves (turn_moves ++ later) turn_can (All-append CanBeMade turn_moves later turn_can can))

begun_can : All CanBeMade begun_moves
begun_can = All-from_recursion CanBeMade begun_moves ((tt, (omega arith, (refl, All-replicate IsByte 16 0x61 (omega arith)))), tt)

pub opened_can : All CanBeMade opened_moves
opened_can = All-append CanBeMade begun_moves (message_moves ++ turn_moves ++ turn_moves) begun_can
    (All-append CanBeMade message_moves (turn_moves ++ turn_moves) message_can (All-append CanBeMade turn_moves turn_moves turn_can turn_can))

lost_can : All CanBeMade lost_moves
lost_can = All-append CanBeMade opened_moves set_moves opened_can (All-from_recursion CanBeMade set_moves ((tt, tt), ((tt, tt), ((tt, tt), ((tt, tt), ((tt, tt), tt))))))

denied_can : All CanBeMade denied_moves
denied_can = All-append CanBeMade lost_moves (anew_moves ++ message_moves ++ turn_moves ++ turn_moves ++ move.Onward ∷ []) lost_can
    (All-append CanBeMade anew_moves (message_moves ++ turn_moves ++ turn_moves ++ move.Onward ∷ []) (All-from_recursion CanBeMade anew_moves ((tt, omega arith), ((tt, tt), ((tt, omega arith), tt))))
    (logon_can (move.Onward ∷ []) (All-from_recursion CanBeMade (move.Onward ∷ []) ((tt, tt), tt))))

learned_can : All CanBeMade learned_moves
learned_can = All-append CanBeMade denied_moves (message_moves ++ turn_moves ++ turn_moves) denied_can
    (All-append CanBeMade message_moves (turn_moves ++ turn_moves) message_can (All-append CanBeMade turn_moves turn_moves turn_can turn_can))

in_can : All CanBeMade in_moves
in_can = All-append CanBeMade learned_moves (turn_moves ++ move.Onward ∷ move.Onward ∷ move.Onward ∷ []) learned_can
    (All-append CanBeMade turn_moves (move.Onward ∷ move.Onward ∷ move.Onward ∷ []) turn_can (All-from_recursion CanBeMade (move.Onward ∷ move.Onward ∷ move.Onward ∷ []) ((tt, tt), ((tt, tt), ((tt, tt), tt)))))

pub schedule_by : (moves : List Move) → length moves ≤ move_limit → All CanBeMade moves → IsSchedule changing_plan moves
schedule_by moves few can = record {
  start = record { tables = refl; clients = All-from_recursion CanLogOn changing_plan.clients (ann_follows, tt); stations = All-nil CanStation };
  forms = changing_forms;
  few = few;
  each = All-weaker CanBeMade IsMove (λ what both. both.0) moves can;
  move_forms = All-weaker CanBeMade HasMoveForm (λ what both. both.1) moves can;
}

-- ---- what is proved of all runs says so

-- of two calls the second one doesn't meet the first one's seed again
pub none_wraps : (judgings : List Judging) → length judgings ≤ 2 → ((older_timestamp judgings + 1 + 0) % 2 ^ 32 ≡ 0 → ⊥) → Wraps judgings → ⊥
none_wraps [] few other wraps =
    let all : 0 ≡ length (wraps.later ++ wraps.second ∷ (wraps.between ++ wraps.first ∷ wraps.earlier)) = ap length wraps.all in
    omega (arith, all, length-append wraps.later (wraps.second ∷ (wraps.between ++ wraps.first ∷ wraps.earlier)))
none_wraps (only ∷ []) few other wraps =
    let all : 1 ≡ length (wraps.later ++ wraps.second ∷ (wraps.between ++ wraps.first ∷ wraps.earlier)) = ap length wraps.all in
    omega (arith, all, length-append wraps.later (wraps.second ∷ (wraps.between ++ wraps.first ∷ wraps.earlier)), length-append wraps.between (wraps.first ∷ wraps.earlier))
none_wraps (second ∷ first ∷ []) few other wraps =
    let parts = the_two second first wraps.later wraps.second wraps.between wraps.first wraps.earlier wraps.all in
    other (ap (λ (moved : ℕ). moved % 2 ^ 32) (sym (moved_by_one wraps.channel wraps.between wraps.first first parts.1 parts.2 wraps.first_passed)) ∙ wraps.around)
none_wraps (third ∷ second ∷ first ∷ judgings) few other wraps = omega (arith, few)

same_world : world_with (change_draws ++ left_behind) ≡ first_world changing_plan
same_world = ap world_with (sym first_left)

-- what is seen in the run
pub shown : {T : Type 0} (at : World → Book → T) (moves : List Move) (seen : T) → Shows at moves seen → at (past changing_plan moves).world (past changing_plan moves).book ≡ seen
shown at moves seen shows = ap (λ (w : World). look at moves w) (sym same_world) ∙ shows left_behind

pub clear_by : (moves : List Move) (foreign : Bool) (judged older : ℕ) (hash : List ℕ) (secrets : SecretsState) → judged ≤ 2 → ((older + 1 + 0) % 2 ^ 32 ≡ 0 → ⊥) →
    seen_in (past changing_plan moves).world (past changing_plan moves).book ≡ calm_with foreign judged older hash secrets → IsClear (past changing_plan moves).book
clear_by moves foreign judged older hash secrets few other is =
    let count : length (past changing_plan moves).book.judged ≡ judged = ap Seen.judged is in
    record {
      apart = ap Seen.clash is;
      onward = none_wraps (past changing_plan moves).book.judged (omega (arith, count, few)) (λ around. other (ap (λ (n : ℕ). (n + 1 + 0) % 2 ^ 32) (sym (ap Seen.older is)) ∙ around));
    }

-- the timestamp 0 moves a seed by one
pub not_round : (0 + 1 + 0) % 2 ^ 32 ≡ 0 → ⊥
not_round around = let never : 1 ≡ 0 = around in omega (arith, never)

-- the timestamp of FILE1's call that sets its secret doesn't bring a seed round
not_round_first : (first_timestamp + 1 + 0) % 2 ^ 32 ≡ 0 → ⊥
not_round_first around = let never : 0x49EF6F01 ≡ 0 = around in omega (arith, never)

leaves_none : (moves : List Move) (judged older : ℕ) (at_controller : List ℕ) (secrets : SecretsState) → judged ≤ 2 → ((older + 1 + 0) % 2 ^ 32 ≡ 0 → ⊥) → IsSchedule changing_plan moves →
    seen_in (past changing_plan moves).world (past changing_plan moves).book ≡ calm_with false judged older at_controller secrets → LeavesNoneApart moves changing_begins at_controller secrets
leaves_none moves judged older at_controller secrets few other schedule is =
    let clear : IsClear (past changing_plan moves).book = clear_by moves false judged older at_controller secrets few other is in
    let own : has_foreign_set (past changing_plan moves).book.judged ≡ false = ap Seen.foreign is in
    record {
      schedule = schedule;
      clear = clear;
      own = own;
      has = record { hash = ap Seen.hash is; held = ap Seen.held is; kept = ap Seen.kept is };
      claimed = λ proved. proved.never_apart (record { controllers = refl; members = (refl, tt); stations = refl }) (inl (plain_plan changing_plan refl refl)) schedule clear own 0 changing_begins;
    }

in_shown : ended_in (past changing_plan in_moves).world (past changing_plan in_moves).book
    ≡ record { seen = calm_with false 2 first_timestamp new_secret (alone new_secret); report = in_report; echoed = Some 16 }
in_shown = shown ended_in in_moves _ end_is_seen

pub change_leaves_none_apart : ChangeLeavesNoneApart
change_leaves_none_apart = record {
  begins = changing_begins;
  begun = leaves_none begun_moves 0 0 old_secret both_secrets (omega arith) not_round (schedule_by begun_moves (omega arith) begun_can) (shown seen_in begun_moves _ change_is_seen.begun);
  lost = leaves_none lost_moves 1 0 new_secret both_secrets (omega arith) not_round (schedule_by lost_moves (omega arith) lost_can) (shown seen_in lost_moves _ change_is_seen.lost);
  learned = leaves_none learned_moves 1 0 new_secret (alone new_secret) (omega arith) not_round (schedule_by learned_moves (omega arith) learned_can) (shown seen_in learned_moves _ change_is_seen.learned);
  ended = leaves_none in_moves 2 first_timestamp new_secret (alone new_secret) (omega arith) not_round_first (schedule_by in_moves (omega arith) in_can) (ap Ended.seen in_shown);
  counts = ap Ended.report in_shown;
  echoed = ap Ended.echoed in_shown;
}
