-- What is sent on one link.
use Rattle.std.proofs.Common.{◌≡◌, ℕ, Bool, true, false, ◌==◌, ◌||◌, List, [], ◌∷◌, ◌++◌, refl, sym, ap, subst, ◌∙◌, append-nil, append_assoc, arith, if◌then◌else◌, inl, inr}
use Rattle.std.specs.List.{flat_map, list_any}
use Rattle.std.proofs.lemmas.Bool.{cases_Bool}
use Rattle.std.proofs.lemmas.Bool.Decides.{nat_tests}
use Rattle.std.proofs.lemmas.Grind.{flat_map-append}
use Rattle.std.proofs.lemmas.List.Folds.{list_any-append}
use Rattle.outside.specs.declared.event.Event.{Event}
use Rattle.outside.specs.declared.event.Happening.{Happening}
use Rattle.outside.specs.declared.event.Happening.TheVariants as happening
use Rattle.outside.specs.declared.action.Action.{Action}
use Rattle.outside.specs.declared.action.Action.TheVariants.{Keep, Send, Dial, Close, Told, Judged}
use Rattle.outside.specs.Machine.{Machine}
use Rattle.outside.specs.Stories.{send_on, sends_on, before_failure, strings_on, fails_on, has_failed}
use Rattle.end_loop.specs.Acts.{Does, SendsOn, Performs, failed_link, has_link}
use Rattle.end_loop.specs.Runs.{RunState, Step, IsStep, Chooses, story_of, step_story}
use Rattle.end_loop.specs.Sending.{asked_one, asked_on, IsFront, SendsFront}

-- ---- sends before a failure

or_false : (b : Bool) → (b || false) ≡ b
or_false true = refl
or_false false = refl

before-failed : (xs ys : List (List ℕ × Bool)) → list_any has_failed xs ≡ true → before_failure (xs ++ ys) ≡ before_failure xs
before-failed [] ys e = absurd (cc)
before-failed (x ∷ xs) ys e = one x.0 x.1 (list_any has_failed xs) e (before-failed xs ys)
  where
    one : (bytes : List ℕ) (failed others : Bool) → (failed || others) ≡ true → (others ≡ true → before_failure (xs ++ ys) ≡ before_failure xs) →
        (if failed then [] else bytes ∷ before_failure (xs ++ ys)) ≡ (if failed then [] else bytes ∷ before_failure xs)
    one bytes true others e more = refl
    one bytes false others e more = ap (λ (l : List (List ℕ)). bytes ∷ l) (more e)

before-fine : (xs ys : List (List ℕ × Bool)) → list_any has_failed xs ≡ false → before_failure (xs ++ ys) ≡ before_failure xs ++ before_failure ys
before-fine [] ys e = refl
before-fine (x ∷ xs) ys e = one x.0 x.1 (list_any has_failed xs) e (before-fine xs ys)
  where
    one : (bytes : List ℕ) (failed others : Bool) → (failed || others) ≡ false → (others ≡ false → before_failure (xs ++ ys) ≡ before_failure xs ++ before_failure ys) →
        (if failed then [] else bytes ∷ before_failure (xs ++ ys)) ≡ (if failed then [] else bytes ∷ before_failure xs) ++ before_failure ys
    one bytes true others e more = absurd (cc)
    one bytes false others e more = ap (λ (l : List (List ℕ)). bytes ∷ l) (more e)

joined : (link : ℕ) (one others : List Happening) → sends_on link (one ++ others) ≡ sends_on link one ++ sends_on link others
joined link one others = flat_map-append (send_on link) one others

fails-append : (link : ℕ) (one others : List Happening) → fails_on link (one ++ others) ≡ (fails_on link one || fails_on link others)
fails-append link one others = ap (list_any has_failed) (joined link one others) ∙ list_any-append has_failed (sends_on link one) (sends_on link others)

-- two stories, of which no send failed in the first
both_fronts : (link : ℕ) (one others : List Happening) (a b : List (List ℕ)) → fails_on link one ≡ false → IsFront (fails_on link one) (strings_on link one) a →
    IsFront (fails_on link others) (strings_on link others) b → IsFront (fails_on link (one ++ others)) (strings_on link (one ++ others)) (a ++ b)
both_fronts link one others a b fine p q =
    let all : strings_on link one ≡ a = sym (append-nil (strings_on link one)) ∙ ap (λ (l : List (List ℕ)). strings_on link one ++ l) (sym (p.whole fine)) ∙ p.is in
    let flag : fails_on link (one ++ others) ≡ fails_on link others = fails-append link one others ∙ ap (λ (b : Bool). b || fails_on link others) fine in
    let sent : strings_on link (one ++ others) ≡ strings_on link one ++ strings_on link others =
    ap before_failure (joined link one others) ∙ before-fine (sends_on link one) (sends_on link others) fine in
    record {
      rest = q.rest;
      is = ap (λ (l : List (List ℕ)). l ++ q.rest) sent ∙ append_assoc (strings_on link one) (strings_on link others) q.rest
          ∙ ap (λ (l : List (List ℕ)). strings_on link one ++ l) q.is ∙ ap (λ (l : List (List ℕ)). l ++ b) all;
      whole = λ none. q.whole (sym flag ∙ none);
    }

-- two stories, of which a send failed in the first: what comes later doesn't count
first_front : (link : ℕ) (one others : List Happening) (a b : List (List ℕ)) → fails_on link one ≡ true → IsFront (fails_on link one) (strings_on link one) a →
    IsFront (fails_on link (one ++ others)) (strings_on link (one ++ others)) (a ++ b)
first_front link one others a b failed p =
    let flag : fails_on link (one ++ others) ≡ true = fails-append link one others ∙ ap (λ (b : Bool). b || fails_on link others) failed in
    let sent : strings_on link (one ++ others) ≡ strings_on link one =
    ap before_failure (joined link one others) ∙ before-failed (sends_on link one) (sends_on link others) failed in
    record {
      rest = p.rest ++ b;
      is = ap (λ (l : List (List ℕ)). l ++ (p.rest ++ b)) sent ∙ sym (append_assoc (strings_on link one) p.rest b) ∙ ap (λ (l : List (List ℕ)). l ++ b) p.is;
      whole = λ none. absurd (let e = sym flag ∙ none in cc);
    }

-- ---- actions

links_fail : (link : ℕ) (hs : List Happening) → has_link (flat_map failed_link hs) link ≡ fails_on link hs
links_fail link [] = refl
links_fail link (happening.Listened address ∷ hs) = links_fail link hs
links_fail link (happening.Given what want ∷ hs) = links_fail link hs
links_fail link (happening.Sent other bytes true ∷ hs) = failed_one (other == link) (links_fail link hs)
  where
    failed_one : (b : Bool) {k : Bool} → k ≡ fails_on link hs → (b || k) ≡ list_any has_failed ((if b then (bytes, true) ∷ [] else []) ++ sends_on link hs)
    failed_one true e = refl
    failed_one false e = e
links_fail link (happening.Sent other bytes false ∷ hs) = fine_one (other == link) (links_fail link hs)
  where
    fine_one : (b : Bool) {k : Bool} → k ≡ fails_on link hs → k ≡ list_any has_failed ((if b then (bytes, false) ∷ [] else []) ++ sends_on link hs)
    fine_one true e = e
    fine_one false e = e
links_fail link (happening.Dialled peer got ∷ hs) = links_fail link hs
links_fail link (happening.Shut other ∷ hs) = links_fail link hs

same_link : (other link : ℕ) → (other == link) ≡ true → other ≡ link
same_link other link e = grind (arith, nat_tests)

-- what happened that is no send on the link, for what asks for none
silent : (link : ℕ) (now : List Happening) (asked : List (List ℕ)) → sends_on link now ≡ [] → asked ≡ [] → IsFront (fails_on link now) (strings_on link now) asked
silent link now asked none nothing = record {
  rest = [];
  is = append-nil (strings_on link now) ∙ ap before_failure none ∙ sym nothing;
  whole = λ _. refl;
}

skipped : (failed : List ℕ) (link other : ℕ) (bytes : List ℕ) (b : Bool) → (other == link) ≡ b → has_link failed link ≡ false → has_link failed other ≡ true →
    (if b then bytes ∷ [] else []) ≡ []
skipped failed link other bytes true is clear known =
    let same = same_link other link is in
    absurd (let k : has_link failed link ≡ true = subst (λ (l : ℕ). has_link failed l ≡ true) same known in cc)
skipped failed link other bytes false is clear known = refl

one_send : (link other : ℕ) (bytes : List ℕ) (fails : Bool) (now : List Happening) → now ≡ happening.Sent other bytes fails ∷ [] →
    IsFront (fails_on link now) (strings_on link now) (asked_one link (Send other bytes))
one_send link other bytes fails now is =
    subst (λ (hs : List Happening). IsFront (fails_on link hs) (strings_on link hs) (asked_one link (Send other bytes))) (sym is) (by_link (other == link) fails)
  where
    by_link : (b fails : Bool) →
        IsFront (list_any has_failed ((if b then (bytes, fails) ∷ [] else []) ++ [])) (before_failure ((if b then (bytes, fails) ∷ [] else []) ++ [])) (if b then bytes ∷ [] else [])
    by_link true true = record { rest = bytes ∷ []; is = refl; whole = λ e. absurd (cc) }
    by_link true false = record { rest = []; is = refl; whole = λ e. refl }
    by_link false fails = record { rest = []; is = refl; whole = λ e. refl }

sends_front : (failed : List ℕ) (link other : ℕ) (bytes : List ℕ) (now : List Happening) (known : Bool) → has_link failed other ≡ known → has_link failed link ≡ false → SendsOn known other bytes now →
    IsFront (fails_on link now) (strings_on link now) (asked_one link (Send other bytes))
sends_front failed link other bytes now true known clear does = silent link now _ (ap (sends_on link) does) (skipped failed link other bytes (other == link) refl clear known)
sends_front failed link other bytes now false known clear does = one_send link other bytes does.0 now does.1

does_front : (failed : List ℕ) (link : ℕ) (x : Action) (now : List Happening) → has_link failed link ≡ false → Does failed x now → IsFront (fails_on link now) (strings_on link now) (asked_one link x)
does_front failed link (Keep bytes) now clear does = silent link now [] (ap (sends_on link) does) refl
does_front failed link (Send other bytes) now clear does = sends_front failed link other bytes now (has_link failed other) refl clear does
does_front failed link (Dial peer) now clear does = silent link now [] (ap (sends_on link) does.1) refl
does_front failed link (Close other cause) now clear does = silent link now [] (ap (sends_on link) does) refl
does_front failed link (Told other outcome) now clear does = silent link now [] (ap (sends_on link) does) refl
does_front failed link (Judged judged) now clear does = silent link now [] (ap (sends_on link) does) refl

as_front : (link : ℕ) (hs ks : List Happening) (asked : List (List ℕ)) → hs ≡ ks → IsFront (fails_on link ks) (strings_on link ks) asked → IsFront (fails_on link hs) (strings_on link hs) asked
as_front link hs ks asked same p = subst (λ (l : List Happening). IsFront (fails_on link l) (strings_on link l) asked) (sym same) p

performs_front : (failed : List ℕ) (link : ℕ) (xs : List Action) (hs : List Happening) → has_link failed link ≡ false → Performs failed xs hs → IsFront (fails_on link hs) (strings_on link hs) (asked_on link xs)
performs_front failed link [] hs clear p = silent link hs [] (ap (sends_on link) p) refl
performs_front failed link (x ∷ xs) hs clear p =
    let here = does_front failed link x p.0 clear p.2 in
    as_front link hs (p.0 ++ p.1) _ p.3 (elim (cases_Bool (fails_on link p.0)) [
      | inl broke ↦ first_front link p.0 p.1 (asked_one link x) (asked_on link xs) broke here
      | inr fine ↦ (
          let still : has_link (failed ++ flat_map failed_link p.0) link ≡ false =
          list_any-append (λ (other : ℕ). other == link) failed (flat_map failed_link p.0)
          ∙ ap (λ (b : Bool). b || has_link (flat_map failed_link p.0) link) clear ∙ links_fail link p.0 ∙ fine in
          both_fronts link p.0 p.1 (asked_one link x) (asked_on link xs) fine here (performs_front (failed ++ flat_map failed_link p.0) link xs p.1 still p.4))
    ])

-- ---- steps

asked_silent : {S : Type 0} (machine : Machine S) (state : S) (queue : List Event) (step : Step) (waiting : List Event) (link : ℕ) → Chooses machine state queue step waiting → sends_on link step.asked ≡ []
asked_silent machine state [] step waiting link chooses = ap (sends_on link) chooses.1
asked_silent machine state (first ∷ later) step waiting link chooses = ap (sends_on link) chooses.0

step_front : {S : Type 0} (machine : Machine S) (old new : RunState S) (step : Step) (link : ℕ) → IsStep machine old step new →
    IsFront (fails_on link (step_story step)) (strings_on link (step_story step)) (asked_on link step.actions)
step_front machine old new step link is =
    let none = asked_silent machine old.state old.queue step is.waiting link is.chooses in
    both_fronts link step.asked step.happened [] (asked_on link step.actions) (ap (list_any has_failed) none) (silent link step.asked [] none refl)
    (performs_front [] link step.actions step.happened refl is.performs)

pub sends_front_of : {S : Type 0} (machine : Machine S) → SendsFront machine
sends_front_of machine start last [] link are = silent link [] [] refl refl
sends_front_of machine start last (step ∷ steps) link are =
    let here = step_front machine start are.0 step link are.1 in
    let asked : asked_on link (step.actions ++ flat_map (λ (step : Step). step.actions) steps) ≡ asked_on link step.actions ++ asked_on link (flat_map (λ (step : Step). step.actions) steps) =
    flat_map-append (asked_one link) step.actions (flat_map (λ (step : Step). step.actions) steps) in
    subst (λ (l : List (List ℕ)). IsFront (fails_on link (step_story step ++ story_of steps)) (strings_on link (step_story step ++ story_of steps)) l) (sym asked)
    (elim (cases_Bool (fails_on link (step_story step))) [
      | inl broke ↦ first_front link (step_story step) (story_of steps) _ _ broke here
      | inr fine ↦ both_fronts link (step_story step) (story_of steps) _ _ fine here (sends_front_of machine are.0 last steps link are.2)
    ])
