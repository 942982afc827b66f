-- A step in which no secret is set changes counts of bad passwords alone.
-- It serves `hashes_stay_where_none_is_set`.
use Rattle.std.proofs.Common.{◌≡◌, ℕ, Bool, true, false, List, Some, sym, subst, ◌∙◌}
use Rattle.std.specs.List.{AllByRecursion}
use Rattle.logon_stubs.specs.declared.info.NetworkInfo.{NetworkInfo}
use Rattle.interactive_logon.specs.declared.calls.InteractiveInfo.{InteractiveInfo}
use Rattle.interactive_logon.specs.declared.sessions.Session.{Session}
use Rattle.account_table.specs.AccountTable.{AccountTable}
use Rattle.account_table.specs.Changes.{DifferInCounts}
use Rattle.account_table.proofs.ChangeLaws.{differs-again, differs-none}
use Rattle.sam_logon.proofs.CountLaws.{interactive_judgement-differs, judgement-differs}
use Rattle.controller_calls.specs.Calls.{asked_of, is_set}
use Rattle.controller_calls.specs.declared.calls.JudgedCall.{JudgedCall}
use Rattle.controller_calls.specs.declared.calls.JudgedCall.TheVariants.{Interactive, Logoff, Network, NetworkLogoff, Set}
use Rattle.controller_calls.specs.Interactive.{judge_interactive_level, shown_hash}
use Rattle.controller_calls.specs.Logons.{judge_level, serves_level}
use Rattle.controller_calls.specs.declared.calls.ControllerCall.{ControllerCall}
use Rattle.controller_calls.specs.Doing.{done_asked}
use Rattle.domain_controller.specs.Laws.{calls_of, trust_calls_of}
use Rattle.domain_controller.specs.Sessions.{HashesStayUnset, asks_set}
use Rattle.domain_controller.specs.declared.state.Running.{Running}
use Rattle.domain_controller.proofs.TrustWalkLaws.{trust_leads, trust_table_walks}
use Rattle.domain_controller.proofs.WalkLaws.{OfTables, TableTrail, TableWalks, desk_leads, table_walks, front_all, behind_all}

-- ---- a call that sets no secret

pub levels : (served : Bool) (table : AccountTable) (name : List ℕ) (info : NetworkInfo) (now : ℕ) → DifferInCounts table (judge_level served table name info now).table
levels false table name info now = differs-none table
levels true table name info now = judgement-differs table name info now

pub interactive_levels : (served : Bool) (table : AccountTable) (name : List ℕ) (now : ℕ) (info : InteractiveInfo) (key : List ℕ) →
    DifferInCounts table (judge_interactive_level served table name now info key).table
interactive_levels false table name now info key = differs-none table
interactive_levels true table name now info key = interactive_judgement-differs table name info.domain info.user info.workstation (shown_hash key info) now

-- what is asked leaves so
done_unset : (c : JudgedCall) (computer key name : List ℕ) (now : ℕ) (table : AccountTable) (sessions : List Session) → is_set c ≡ false →
    DifferInCounts table (done_asked (asked_of c) computer key name table now sessions).table
done_unset (Network c) computer key name now table sessions unset = levels (serves_level c.validation) table name c.info now
done_unset (Interactive c) computer key name now table sessions unset = interactive_levels (serves_level c.validation) table name now c.info key
done_unset (Logoff c) computer key name now table sessions unset = differs-none table
done_unset (NetworkLogoff c) computer key name now table sessions unset = differs-none table
done_unset (Set c) computer key name now table sessions unset = absurd cc

-- ---- all calls of a step

abbrev AreUnset : List ControllerCall → Type 0
AreUnset calls = AllByRecursion (λ (c : ControllerCall). asks_set c ≡ false) calls

abbrev UnsetTrail : TableTrail
UnsetTrail calls before after = AreUnset calls → DifferInCounts before after

unset_walks : (name : List ℕ) (now : ℕ) → TableWalks name now UnsetTrail
unset_walks name now = record {
  same = λ calls table all. differs-none table;
  join = λ one two a b c first second all. differs-again a b c (first (front_all (λ (c : ControllerCall). asks_set c ≡ false) one two all)) (second (behind_all (λ (c : ControllerCall). asks_set c ≡ false) one two all));
  done = λ c computer key table sessions all. done_unset c computer key name now table sessions all.0;
}

some_is : (one other : Running) → Some one ≡ Some other → one ≡ other
some_is one other is = cc

pub hashes_stay : HashesStayUnset
hashes_stay = record {
  unset = λ s running what now left is all.
      desk_leads (λ stepped. DifferInCounts s.table stepped.state.table) (OfTables UnsetTrail) s what now left (table_walks s.name now UnsetTrail (unset_walks s.name now)) (record {
        stopped = λ none. differs-none s.table;
        spent = λ other so. differs-none s.table;
        taken = λ other after links rest so leads. leads (subst (λ (r : Running). AreUnset (calls_of what r.links)) (some_is running other (sym is ∙ so)) all);
      });
  trusting = λ s running what now left is all.
      trust_leads (λ stepped. DifferInCounts s.table stepped.state.table) (OfTables UnsetTrail) s what now left (trust_table_walks s.name now UnsetTrail (unset_walks s.name now)) (record {
        stopped = λ none. differs-none s.table;
        spent = λ other so. differs-none s.table;
        taken = λ other after rest so leads.
            leads (subst (λ (r : Running). AreUnset (trust_calls_of what r.links s.trusting.dialling)) (some_is running other (sym is ∙ so)) all);
      });
}
