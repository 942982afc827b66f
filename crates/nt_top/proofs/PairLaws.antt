-- Two runs that one outside shows: where both are whole they come to the same, and where one of them was spent the
-- other wasn't whole.
use Rattle.std.proofs.Common.{◌≡◌, ℕ, List, [], ◌∷◌, ◌++◌, Ok, Err, sym, ap, subst, ◌∙◌, append_assoc}
use Rattle.outside.specs.declared.event.Event.{Event}
use Rattle.outside.specs.declared.event.Happening.{Happening}
use Rattle.outside.specs.declared.action.Action.{Action}
use Rattle.outside.specs.declared.action.StepRefused.TheVariants as refusals
use Rattle.outside.specs.Machine.{Machine, Stepped}
use Rattle.end_loop.specs.Runs.{RunState, Step, AreSteps, Chooses, story_of, moments_of, step_story}
use Rattle.end_loop.proofs.UniqueLaws.{chosen, heads, step_same}

-- ---- whole runs, with what the port did after them

pub both_whole : {S : Type 0} (machine : Machine S) (start last other : RunState S) (steps others : List Step) (l k : List Happening) → AreSteps machine start steps last → AreSteps machine start others other →
    story_of steps ++ l ≡ story_of others ++ k → moments_of steps ≡ moments_of others → (last ≡ other) × (l ≡ k)
both_whole machine start last other [] [] l k p q story moments = (p ∙ sym q, story)
both_whole machine start last other (step ∷ steps) [] l k p q story moments = absurd (cc)
both_whole machine start last other [] (step ∷ others) l k p q story moments = absurd (cc)
both_whole machine start last other (step ∷ steps) (step2 ∷ others) l k p q story moments =
    let times = heads step.moment step2.moment (moments_of steps) (moments_of others) moments in
    let joined : step_story step ++ (story_of steps ++ l) ≡ step_story step2 ++ (story_of others ++ k) = sym (append_assoc (step_story step) (story_of steps) l) ∙ story ∙ append_assoc (step_story step2) (story_of others) k in
    let same = step_same machine start p.0 q.0 step step2 (story_of steps ++ l) (story_of others ++ k) p.1 q.1 times.0 joined in
    let rest = subst (λ (s : RunState _). AreSteps machine s others other) (sym same.new_is) q.2 in
    both_whole machine p.0 last other steps others l k p.2 rest same.later times.1

-- ---- a run whose last step draws more challenges than were left

answers : {S : Type 0} (stepped : Stepped S) (actions : List Action) (state : S) (drawn left : List (List ℕ)) → stepped ≡ record { answer = Ok actions; state = state; drawn = drawn; left = left } → stepped.answer ≡ Err refusals.Spent → ⊥
answers {S} stepped actions state drawn left ok spent =
    let answer : Ok actions ≡ Err refusals.Spent = sym (ap (λ (s : Stepped S). s.answer) ok) ∙ spent in absurd cc

pub spent_not_whole : {S : Type 0} (machine : Machine S) (start last other : RunState S) (steps others : List Step) (step : Step) (waiting : List Event) (l k : List Happening) →
    AreSteps machine start steps last → Chooses machine last.state last.queue step waiting → (machine.step last.state step.event step.moment last.left).answer ≡ Err refusals.Spent →
    AreSteps machine start others other → story_of steps ++ (step_story step ++ l) ≡ story_of others ++ k → moments_of steps ++ step.moment ∷ [] ≡ moments_of others → ⊥
spent_not_whole machine start last other [] [] step waiting l k p chooses spent q story moments = absurd (cc)
spent_not_whole machine start last other (first ∷ steps) [] step waiting l k p chooses spent q story moments = absurd (cc)
spent_not_whole {S} machine start last other [] (step2 ∷ others) step waiting l k p chooses spent q story moments =
    let times = heads step.moment step2.moment [] (moments_of others) moments in
    let here = subst (λ (s : RunState S). Chooses machine s.state s.queue step waiting) p chooses in
    let there = subst (λ (s : RunState S). (machine.step s.state step.event step.moment s.left).answer ≡ Err refusals.Spent) p spent in
    let joined : step_story step ++ l ≡ step_story step2 ++ (story_of others ++ k) = story ∙ append_assoc (step_story step2) (story_of others) k in
    let which = chosen machine start.state start.queue step step2 waiting q.1.waiting l (story_of others ++ k) here q.1.chooses joined in
    let event = subst (λ (e : Event). (machine.step start.state e step.moment start.left).answer ≡ Err refusals.Spent) which.0 there in
    let moment = subst (λ (m : ℕ). (machine.step start.state step2.event m start.left).answer ≡ Err refusals.Spent) times.0 event in
    answers (machine.step start.state step2.event step2.moment start.left) step2.actions q.0.state step2.drawn q.0.left q.1.is moment
spent_not_whole machine start last other (first ∷ steps) (step2 ∷ others) step waiting l k p chooses spent q story moments =
    let times = heads first.moment step2.moment (moments_of steps ++ step.moment ∷ []) (moments_of others) moments in
    let joined : step_story first ++ (story_of steps ++ (step_story step ++ l)) ≡ step_story step2 ++ (story_of others ++ k) = sym (append_assoc (step_story first) (story_of steps) (step_story step ++ l)) ∙ story ∙ append_assoc (step_story step2) (story_of others) k in
    let same = step_same machine start p.0 q.0 first step2 (story_of steps ++ (step_story step ++ l)) (story_of others ++ k) p.1 q.1 times.0 joined in
    let rest = subst (λ (s : RunState _). AreSteps machine s others other) (sym same.new_is) q.2 in
    spent_not_whole machine p.0 last other steps others step waiting l k p.2 chooses spent rest same.later times.1
