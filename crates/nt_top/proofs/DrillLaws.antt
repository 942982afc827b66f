-- The plan of a drill and its moves.
use Rattle.std.proofs.Common.{◌≡◌, ◌⊎◌, inl, inr, ◌≤◌, ℕ, zero, suc, ◌%◌, Bool, true, false, List, length, codes, nat_le, IfOk, Result, Ok, Err, if◌then◌else◌, refl, sym, ap, subst, ◌∙◌, arith}
use Rattle.std.specs.Prelude.{OnOk}
use Rattle.std.specs.List.{All}
use Rattle.std.proofs.lemmas.Bool.{leb-true}
use Rattle.std.specs.Str.{chars, is_utf8}
use Rattle.toml.proofs.OnLiterals.{toml_on_literals}
use Rattle.hex.proofs.OnLiterals.{hex_on_literals}
use Rattle.wire_base.specs.Decimal.{decimal_of}
use Rattle.wire_base.specs.Names.{name_of, same_name, upper_of}
use Rattle.wire_base.specs.Sid.{sid_of}
use Rattle.account_table.specs.AccountTable.{AccountTable}
use Rattle.account_table.specs.Document.{document_of, identity_of, machine_of, moments_of, needed, new_name, optional, policy_of, restrictions_of, table_in, table_of, user_of}
use Rattle.account_table.specs.declared.refused.TableRefused.{TableRefused}
use Rattle.account_table.specs.declared.refused.TableRefused.TheVariants.{Memory}
use Rattle.unit_security.specs.Levels.{is_level}
use Rattle.logon_client.specs.Plans.{CanLogOn}
use Rattle.logon_client.specs.declared.plan.AuthKind.{AuthKind}
use Rattle.logon_client.specs.declared.plan.AuthKind.TheVariants.{V1}
use Rattle.domain_world.specs.Generator.{Making, made, move_by, moves_of, next_seed, rare_by, value_of}
use Rattle.domain_world.specs.Headline.{Proved}
use Rattle.domain_world.specs.World.{IsMove, IsPlan, report_of_run}
use Rattle.world_moves.specs.Forms.{IsSchedule}
use Rattle.world_moves.proofs.AloneLaws.{plain_plan}
use Rattle.world_moves.specs.declared.counting.Report.{Report}
use Rattle.world_moves.specs.declared.moves.Move.{Move}
use Rattle.world_moves.specs.declared.plan.Plan.{Plan}
use Rattle.nt_words.proofs.KindLaws.{named}
use Rattle.nt_top.specs.Drill.{IsProvedDrill, drill_client, drill_clients, drill_plan, drill_table, drill_text, report_text}
use Rattle.std.proofs.lemmas.List.Elements.{All-nil}
use Rattle.interactive_station.specs.Plans.{CanStation}

-- ---- the document of the accounts is their table

abbrev pub drill_document : List ℕ
drill_document =
    codes "domain = 'CORP'\nsid = 'S-1-5-21-1-2-3'\n[[user]]\nname = 'ann'\nrid = 1001\nhash = '11111111111111111111111111111111'\n[[user]]\nname = 'bob'\nrid = 1002\nhash = '22222222222222222222222222222222'\n[[user]]\nname = 'eve'\nrid = 1003\nhash = '33333333333333333333333333333333'\n[[machine]]\nname = 'FILE1$'\nkind = 'workstation'\nhash = '41414141414141414141414141414141'\n[[machine]]\nname = 'FILE2$'\nkind = 'workstation'\nhash = '42424242424242424242424242424242'\n"

pub accounts_are : table_of drill_document ≡ Ok drill_table
unfolding toml_on_literals hex_on_literals is_utf8 chars decimal_of sid_of name_of same_name upper_of table_of document_of table_in needed optional new_name identity_of restrictions_of moments_of user_of machine_of policy_of
accounts_are = refl

ok_is : {a b : AccountTable} → ◌≡◌ {A = Result AccountTable TableRefused} (Ok a) (Ok b) → b ≡ a
ok_is e = cc

-- what is read of the document is that table
pub read_is : (text : List ℕ) (table : AccountTable) → text ≡ drill_document → table_of text ≡ Ok table → table ≡ drill_table
read_is text table is read = ok_is (sym accounts_are ∙ ap table_of (sym is) ∙ read)

-- the drill's text is refused for want of memory alone
pub refused_is : (text : List ℕ) (refused : TableRefused) → text ≡ drill_document → (refused ≡ Memory) ⊎ (table_of text ≡ Err refused) → refused ≡ Memory
refused_is text refused is (inl memory) = memory
refused_is text refused is (inr other) = absurd (let wrong = sym accounts_are ∙ ap table_of (sym is) ∙ other in cc)

-- ---- the plan

follows : (server byte level : ℕ) (user : List ℕ) (auth : AuthKind) → is_level level ≡ true → (auth ≡ V1 → level ≡ 2) → nat_le (length user) 64 ≡ true →
    CanLogOn (drill_client server user byte level auth)
follows server byte level user auth is plain short = record {
  level = is;
  plain = plain;
  echo = omega arith;
  domain = leb-true _ 64 refl;
  user = leb-true (length user) 64 short;
  workstation = leb-true _ 64 refl;
}

each_follows : All CanLogOn drill_clients
each_follows zero d lt = follows _ _ _ _ _ refl (λ e. absurd (let wrong = e in cc)) refl
each_follows (suc zero) d lt = follows _ _ _ _ _ refl (λ e. absurd (let wrong = e in cc)) refl
each_follows (suc (suc zero)) d lt = follows _ _ _ _ _ refl (λ e. refl) refl
each_follows (suc (suc (suc k))) d lt = absurd (omega (arith, lt))

pub plan_is : IsPlan drill_plan
plan_is = record { tables = refl; clients = each_follows; stations = All-nil CanStation }

-- ---- the moves

given_if : (test : Bool) (one other : Making) → IsMove one.what → IsMove other.what → IsMove (if test then one else other).what
given_if true one other is also = is
given_if false one other is also = also

rare_given : (kind seed : ℕ) → IsMove (rare_by kind seed).what
rare_given kind seed = given_if (nat_le kind 0) _ _ tt (given_if (nat_le kind 5) _ _ tt (given_if (nat_le kind 10) _ _ tt tt))

move_given : (kind seed : ℕ) → IsMove (move_by kind seed).what
move_given kind seed =
    given_if (nat_le kind 1) _ _ tt (given_if (nat_le kind 4) _ _ tt (given_if (nat_le kind 12) _ _ tt
    (given_if (nat_le kind 13) _ _ tt (given_if (nat_le kind 14) _ _ tt (rare_given (value_of (next_seed seed) % 16) (next_seed seed))))))

-- nothing is handed in
pub moves_given : (count seed : ℕ) → All IsMove (moves_of count seed)
moves_given zero seed k d lt = absurd (omega arith)
moves_given (suc count) seed zero d lt = move_given (value_of (next_seed seed) % 16) (next_seed seed)
moves_given (suc count) seed (suc k) d lt = moves_given count (made seed).after k d (omega arith)

moves_counted : (count seed : ℕ) → length (moves_of count seed) ≡ count
moves_counted zero seed = refl
moves_counted (suc count) seed = ap suc (moves_counted count (made seed).after)

pub moves_few : (count seed most : ℕ) → count ≤ most → length (moves_of count seed) ≤ most
moves_few count seed most few = let n = moves_counted count seed in omega (arith, n, few)

-- what is put of the report of a run from the plan
pub lines_of_run : {E : Type 0} (number count : ℕ) (moves : List Move) (report : Report) (plan : Plan) (result : Result (List ℕ) E) →
    moves ≡ moves_of count number → plan ≡ drill_plan → report ≡ report_of_run plan moves →
    IfOk result (λ lines. lines ≡ report_text report) → IfOk result (λ lines. lines ≡ drill_text number count)
unfolding drill_text
lines_of_run number count moves report plan (Ok lines) made planned counted put =
    put ∙ ap report_text (counted ∙ ap (λ (p : Plan). report_of_run p moves) planned ∙ ap (λ (m : List Move). report_of_run drill_plan m) made)
lines_of_run number count moves report plan (Err why) made planned counted put = tt

-- what is proved of a run by these moves from that plan
pub drill_proved : {V E : Type 0} (number count : ℕ) (moves : List Move) (plan : Plan) (result : Result V E) → moves ≡ moves_of count number → plan ≡ drill_plan →
    IsSchedule plan moves → Proved plan moves → OnOk result (IsProvedDrill number count)
drill_proved number count moves plan (Ok lines) made planned schedule proved = record {
  schedule = subst (λ (p : Plan). IsSchedule p (moves_of count number)) planned (subst (IsSchedule plan) made schedule);
  nobody = plain_plan drill_plan refl refl;
  plain = record { controllers = refl; members = (refl, (refl, tt)); stations = refl };
  proved = subst (λ (p : Plan). Proved p (moves_of count number)) planned (subst (Proved plan) made proved);
}
drill_proved number count moves plan (Err why) made planned schedule proved = tt

pub ruleset driving = (plan_is, moves_few, moves_given)

pub ruleset naming = (named)
