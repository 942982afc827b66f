-- What becomes of the texts that an end asks to keep, for `writes_what_the_end_keeps`.
use Rattle.std.proofs.Common.{◌≡◌, ℕ, List, [], ◌∷◌, ◌++◌, map, Some, None, refl, sym, ap, subst, ◌∙◌, append-nil}
use Rattle.std.specs.List.{flat_map}
use Rattle.outside.specs.declared.event.Happening.{Happening}
use Rattle.outside.specs.declared.action.Action.{Action}
use Rattle.outside.specs.declared.action.Action.TheVariants.{Keep, Send, Dial, Close, Told, Judged}
use Rattle.outside.specs.Machine.{Machine}
use Rattle.end_loop.specs.Acts.{Performs, failed_link, puts, writes_for}
use Rattle.end_loop.specs.Keeping.{KeepsTexts, texts_of, without_keeps, write_into}
use Rattle.end_loop.specs.Writing.{Write}

-- the links on which a send failed, where nothing happened
none_failed : (failed : List ℕ) (now : List Happening) → now ≡ [] → failed ++ flat_map failed_link now ≡ failed
none_failed failed now none = ap (λ (h : List Happening). failed ++ flat_map failed_link h) none ∙ append-nil failed

over_keep : (failed : List ℕ) (bytes : List ℕ) (actions : List Action) (happened : List Happening) → Performs failed (Keep bytes ∷ actions) happened → Performs failed actions happened
over_keep failed bytes actions happened p =
    let here : Performs failed actions p.1 = subst (λ (l : List ℕ). Performs l actions p.1) (none_failed failed p.0 p.2) p.4 in
    subst (λ (h : List Happening). Performs failed actions h) (sym (p.3 ∙ ap (λ (h : List Happening). h ++ p.1) p.2)) here

with_keep : (failed : List ℕ) (bytes : List ℕ) (actions : List Action) (happened : List Happening) → Performs failed actions happened → Performs failed (Keep bytes ∷ actions) happened
with_keep failed bytes actions happened p = ([], happened, refl, refl, subst (λ (l : List ℕ). Performs l actions happened) (sym (append-nil failed)) p)

abbrev Passes : List Action → List Action → Type 0
Passes actions others = (failed : List ℕ) (happened : List Happening) → Performs failed actions happened → Performs failed others happened

behind : (action : Action) (actions others : List Action) → Passes actions others → Passes (action ∷ actions) (action ∷ others)
behind action actions others same failed happened p = (p.0, p.1, p.2, p.3, same (failed ++ flat_map failed_link p.0) p.1 p.4)

without : (actions : List Action) → Passes actions (without_keeps actions)
without [] failed happened p = p
without (Keep bytes ∷ actions) failed happened p = without actions failed happened (over_keep failed bytes actions happened p)
without (Send link bytes ∷ actions) failed happened p = behind (Send link bytes) actions (without_keeps actions) (without actions) failed happened p
without (Dial peer ∷ actions) failed happened p = behind (Dial peer) actions (without_keeps actions) (without actions) failed happened p
without (Close link cause ∷ actions) failed happened p = behind (Close link cause) actions (without_keeps actions) (without actions) failed happened p
without (Told link outcome ∷ actions) failed happened p = behind (Told link outcome) actions (without_keeps actions) (without actions) failed happened p
without (Judged judged ∷ actions) failed happened p = behind (Judged judged) actions (without_keeps actions) (without actions) failed happened p

again : (actions : List Action) → Passes (without_keeps actions) actions
again [] failed happened p = p
again (Keep bytes ∷ actions) failed happened p = with_keep failed bytes actions happened (again actions failed happened p)
again (Send link bytes ∷ actions) failed happened p = behind (Send link bytes) (without_keeps actions) actions (again actions) failed happened p
again (Dial peer ∷ actions) failed happened p = behind (Dial peer) (without_keeps actions) actions (again actions) failed happened p
again (Close link cause ∷ actions) failed happened p = behind (Close link cause) (without_keeps actions) actions (again actions) failed happened p
again (Told link outcome ∷ actions) failed happened p = behind (Told link outcome) (without_keeps actions) actions (again actions) failed happened p
again (Judged judged ∷ actions) failed happened p = behind (Judged judged) (without_keeps actions) actions (again actions) failed happened p

same_put : {S : Type 0} (machine : Machine S) (actions : List Action) → flat_map (puts machine) actions ≡ flat_map (puts machine) (without_keeps actions)
same_put machine [] = refl
same_put machine (Keep bytes ∷ actions) = same_put machine actions
same_put machine (Send link bytes ∷ actions) = same_put machine actions
same_put machine (Dial peer ∷ actions) = same_put machine actions
same_put machine (Close link cause ∷ actions) = same_put machine actions
same_put machine (Told link outcome ∷ actions) = ap (λ (l : List ℕ). machine.line (Told link outcome) ++ l) (same_put machine actions)
same_put machine (Judged judged ∷ actions) = ap (λ (l : List ℕ). machine.line (Judged judged) ++ l) (same_put machine actions)

under_name : (name : List ℕ) (actions : List Action) → flat_map (writes_for (Some name)) actions ≡ map (write_into name) (texts_of actions)
under_name name [] = refl
under_name name (Keep text ∷ actions) = ap (λ (l : List Write). write_into name text ∷ l) (under_name name actions)
under_name name (Send link bytes ∷ actions) = under_name name actions
under_name name (Dial peer ∷ actions) = under_name name actions
under_name name (Close link cause ∷ actions) = under_name name actions
under_name name (Told link outcome ∷ actions) = under_name name actions
under_name name (Judged judged ∷ actions) = under_name name actions

pub none_written : (actions : List Action) → flat_map (writes_for None) actions ≡ []
none_written [] = refl
none_written (Keep text ∷ actions) = none_written actions
none_written (Send link bytes ∷ actions) = none_written actions
none_written (Dial peer ∷ actions) = none_written actions
none_written (Close link cause ∷ actions) = none_written actions
none_written (Told link outcome ∷ actions) = none_written actions
none_written (Judged judged ∷ actions) = none_written actions

pub keeps_texts : {S : Type 0} (machine : Machine S) → KeepsTexts machine
keeps_texts machine = record {
  named = under_name;
  unnamed = none_written;
  happens = λ failed actions happened. (without actions failed happened, again actions failed happened);
  lines = same_put machine;
}
