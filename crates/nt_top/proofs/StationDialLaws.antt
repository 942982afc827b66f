-- A station finds a dial failed only where a dial failed. It serves `what_is_told_decides_how_a_station_ends`.
use Rattle.std.proofs.Common.{ℕ, ◌≡◌, ◌⊎◌, inl, inr, ◌||◌, Bool, true, false, List, [], ◌∷◌, ◌++◌, Option, Some, None, Result, Ok, refl, sym, ap, subst, ◌∙◌}
use Rattle.std.specs.List.{list_any}
use Rattle.std.proofs.lemmas.Bool.{cases_Bool, or_left, or_right}
use Rattle.std.proofs.lemmas.Grind.{flat_map-append}
use Rattle.outside.specs.Machine.{Stepped}
use Rattle.outside.specs.Stories.{fails_at_links}
use Rattle.outside.specs.declared.action.Action.{Action}
use Rattle.outside.specs.declared.action.Action.TheVariants as action
use Rattle.outside.specs.declared.action.StepRefused.{StepRefused}
use Rattle.outside.specs.declared.event.Event.{Event}
use Rattle.outside.specs.declared.event.Event.TheVariants as event
use Rattle.outside.specs.declared.event.Happening.{Happening}
use Rattle.outside.specs.declared.event.Happening.TheVariants as happening
use Rattle.end_loop.specs.Acts.{Performs, dial_event, made_event, made_events, puts}
use Rattle.end_loop.specs.Begun.{Begun}
use Rattle.end_loop.specs.Runs.{Step, IsStep, AreSteps, Chooses, RunState as Places, drawn_of, lines_of, moments_of, step_story, story_of, taken_actions}
use Rattle.end_loop.specs.Seen.{Sight}
use Rattle.interactive_station.specs.declared.plan.StationPlan.{StationPlan}
use Rattle.interactive_station.specs.Losses.{is_answer, is_dial, is_dial_failed, is_dialling}
use Rattle.interactive_station.specs.Machine.{station_machine, step_of}
use Rattle.interactive_station.specs.State.{StationState}
use Rattle.interactive_station.proofs.LossLaws.{loses_by_events}
use Rattle.nt_top.specs.Station.{dialling_station, station_dials}
use Rattle.nt_top.specs.StationExits.{LosesDial, fails_to_dial}
use Rattle.nt_top.proofs.LinkLaws.{any_either, any_left, any_right, whole}

-- ---- while a station dials, an answer of the dial waits

dial_answers : (link : Option ℕ) → is_answer (dial_event link) ≡ true
dial_answers None = refl
dial_answers (Some link) = refl

later_made : (now later happened : List Happening) → happened ≡ now ++ later → list_any is_answer (made_events later) ≡ true → list_any is_answer (made_events happened) ≡ true
later_made now later happened joined is =
    subst (λ (e : List Event). list_any is_answer e ≡ true) (sym (ap made_events joined ∙ flat_map-append made_event now later)) (any_right is_answer (made_events now) (made_events later) is)

-- a dial that is performed makes its answer
dial_made : (actions : List Action) (failed : List ℕ) (happened : List Happening) → Performs failed actions happened → list_any is_dial actions ≡ true → list_any is_answer (made_events happened) ≡ true
dial_made [] failed happened performs is = absurd cc
dial_made (action.Dial peer ∷ actions) failed happened performs is =
    subst (λ (h : List Happening). list_any is_answer (made_events h) ≡ true) (sym (performs.3 ∙ ap (λ (h : List Happening). h ++ performs.1) performs.2.1))
    (or_left (is_answer (dial_event performs.2.0)) (list_any is_answer (made_events performs.1)) (dial_answers performs.2.0))
dial_made (action.Keep bytes ∷ actions) failed happened performs is = later_made performs.0 performs.1 happened performs.3 (dial_made actions _ performs.1 performs.4 is)
dial_made (action.Send link bytes ∷ actions) failed happened performs is = later_made performs.0 performs.1 happened performs.3 (dial_made actions _ performs.1 performs.4 is)
dial_made (action.Close link cause ∷ actions) failed happened performs is = later_made performs.0 performs.1 happened performs.3 (dial_made actions _ performs.1 performs.4 is)
dial_made (action.Told link how ∷ actions) failed happened performs is = later_made performs.0 performs.1 happened performs.3 (dial_made actions _ performs.1 performs.4 is)
dial_made (action.Judged judged ∷ actions) failed happened performs is = later_made performs.0 performs.1 happened performs.3 (dial_made actions _ performs.1 performs.4 is)

record Waits (p : Places StationState) : Type 0 where
  answer : is_dialling p.state.running ≡ true → p.state.outcome ≡ None → list_any is_answer p.queue ≡ true

waits_on : (s : StationState) (queue : List Event) (step : Step) (waiting : List Event) → Chooses station_machine s queue step waiting → is_answer step.event ≡ false → list_any is_answer queue ≡ true →
    list_any is_answer waiting ≡ true
waits_on s [] step waiting chooses other is = absurd cc
waits_on s (first ∷ later) step waiting chooses other is =
    let not_first : is_answer first ≡ false = sym (ap is_answer chooses.1) ∙ other in
    let behind : list_any is_answer later ≡ true = sym (ap (λ (b : Bool). b || list_any is_answer later) not_first) ∙ is in
    subst (λ (w : List Event). list_any is_answer w ≡ true) (sym chooses.2) behind

waits_step : (start middle : Places StationState) (step : Step) → IsStep station_machine start step middle → Waits start → Waits middle
waits_step start middle step is waits = record {
  answer = λ dialling without.
      let answer : (step_of start.state step.event step.moment start.left).answer ≡ Ok step.actions = ap (λ (s : Stepped StationState). s.answer) is.is in
      let there : (step_of start.state step.event step.moment start.left).state ≡ middle.state = ap (λ (s : Stepped StationState). s.state) is.is in
      let none : (step_of start.state step.event step.moment start.left).state.outcome ≡ None = ap (λ (s : StationState). s.outcome) there ∙ without in
      let dials : is_dialling (step_of start.state step.event step.moment start.left).state.running ≡ true = ap (λ (s : StationState). is_dialling s.running) there ∙ dialling in
      subst (λ (q : List Event). list_any is_answer q ≡ true) (sym is.queue)
      (elim (cases_Bool (is_dialling start.state.running)) [
        | inr was ↦ any_right is_answer is.waiting (made_events step.happened) (dial_made step.actions [] step.happened is.performs
            (subst (λ (a : Result (List Action) StepRefused). list_any is_dial (taken_actions a) ≡ true) answer (loses_by_events.dials start.state step.event step.moment start.left was dials)))
        | inl was ↦ elim (cases_Bool (is_answer step.event)) [
          | inl answers ↦ absurd (let wrong : false ≡ true = sym (loses_by_events.answered start.state step.event step.moment start.left answers none) ∙ dials in cc)
          | inr other ↦ any_left is_answer is.waiting (made_events step.happened)
              (waits_on start.state start.queue step is.waiting is.chooses other (waits.answer was (loses_by_events.kept start.state step.event step.moment start.left none)))
        ]
      ]);
}

-- ---- where a dial failed

abbrev is_failed : Event → Bool
is_failed event.DialFailed = true
is_failed _ = false

dial_fails : (link : Option ℕ) → is_failed (dial_event link) ≡ true → link ≡ None
dial_fails None is = refl
dial_fails (Some link) is = absurd cc

made_failed : (happened : List Happening) → list_any is_failed (made_events happened) ≡ true → list_any fails_to_dial happened ≡ true
made_failed [] is = absurd cc
made_failed (happening.Listened address ∷ more) is = made_failed more is
made_failed (happening.Given what want ∷ more) is = made_failed more is
made_failed (happening.Sent link bytes true ∷ more) is = made_failed more is
made_failed (happening.Sent link bytes false ∷ more) is = made_failed more is
made_failed (happening.Dialled peer (Some link) ∷ more) is = made_failed more is
made_failed (happening.Dialled peer None ∷ more) is = refl
made_failed (happening.Shut link ∷ more) is = made_failed more is

-- where a dial failed, a dial or a send did
dials_fail : (happened : List Happening) → list_any fails_to_dial happened ≡ true → fails_at_links happened ≡ true
dials_fail [] is = absurd cc
dials_fail (happening.Listened address ∷ more) is = dials_fail more is
dials_fail (happening.Given what want ∷ more) is = dials_fail more is
dials_fail (happening.Sent link bytes true ∷ more) is = refl
dials_fail (happening.Sent link bytes false ∷ more) is = dials_fail more is
dials_fail (happening.Dialled peer (Some link) ∷ more) is = dials_fail more is
dials_fail (happening.Dialled peer None ∷ more) is = refl
dials_fail (happening.Shut link ∷ more) is = dials_fail more is

-- an event that waits shows it, or what happened at the port does
abbrev Failed : List Event → List Happening → Type 0
Failed queue story = (list_any is_failed queue ≡ true) ⊎ (list_any fails_to_dial story ≡ true)

chosen_failed : (s : StationState) (queue : List Event) (step : Step) (waiting : List Event) → Chooses station_machine s queue step waiting → step.event ≡ event.DialFailed → list_any is_answer queue ≡ true →
    list_any is_failed queue ≡ true
chosen_failed s [] step waiting chooses failed is = absurd cc
chosen_failed s (first ∷ later) step waiting chooses failed is = or_left (is_failed first) (list_any is_failed later) (ap is_failed (sym chooses.1 ∙ failed))

waits_failed : (s : StationState) (queue : List Event) (step : Step) (waiting : List Event) → Chooses station_machine s queue step waiting → list_any is_failed waiting ≡ true → list_any is_failed queue ≡ true
waits_failed s [] step waiting chooses is = subst (λ (w : List Event). list_any is_failed w ≡ true) chooses.3 is
waits_failed s (first ∷ later) step waiting chooses is = or_right (is_failed first) (list_any is_failed later) (subst (λ (w : List Event). list_any is_failed w ≡ true) chooses.2 is)

later_failed : (start middle : Places StationState) (step : Step) (story : List Happening) → IsStep station_machine start step middle → Failed middle.queue story → Failed start.queue (step_story step ++ story)
later_failed start middle step story is (inr failed) = inr (any_right fails_to_dial (step_story step) story failed)
later_failed start middle step story is (inl queued) =
    elim (any_either is_failed is.waiting (made_events step.happened) (subst (λ (q : List Event). list_any is_failed q ≡ true) is.queue queued)) [
      | inl waits ↦ inl (waits_failed start.state start.queue step is.waiting is.chooses waits)
      | inr made ↦ inr (any_left fails_to_dial (step_story step) story (any_right fails_to_dial step.asked step.happened (made_failed step.happened made)))
    ]

run_failed : (start last : Places StationState) (steps : List Step) → AreSteps station_machine start steps last → Waits start → is_dial_failed start.state.outcome ≡ false → is_dial_failed last.state.outcome ≡ true →
    Failed start.queue (story_of steps)
run_failed start last [] are waits was comes =
    absurd (let wrong : false ≡ true = sym was ∙ ap (λ (p : Places StationState). is_dial_failed p.state.outcome) (sym are) ∙ comes in cc)
run_failed start last (step ∷ steps) are waits was comes =
    elim (cases_Bool (is_dial_failed are.0.state.outcome)) [
      | inl now ↦
          let there : (step_of start.state step.event step.moment start.left).state ≡ are.0.state = ap (λ (s : Stepped StationState). s.state) are.1.is in
          let why = loses_by_events.failed start.state step.event step.moment start.left was (ap (λ (s : StationState). is_dial_failed s.outcome) there ∙ now) in
          inl (chosen_failed start.state start.queue step are.1.waiting are.1.chooses why.0 (waits.answer why.1 why.2))
      | inr still ↦ later_failed start are.0 step (story_of steps) are.1 (run_failed are.0 last steps are.2 (waits_step start are.0 step are.1 waits) still comes)
    ]

-- ---- the run of a station whose dial is asked for first

pub station_dial_cause : (plan : StationPlan) (last : StationState) (most : ℕ) (opened ended : Sight) → Begun station_machine None (station_dials plan) (dialling_station plan) last most opened ended →
    is_dial_failed last.outcome ≡ true → LosesDial opened ended
station_dial_cause plan last most opened ended begun failed =
    let steps = begun.run.ran.steps in
    let happened = begun.happened ++ (story_of steps ++ begun.run.stop) in
    let all = whole opened begun.middle begun.run.middle ended begun.happened (story_of steps) begun.run.stop (moments_of steps) (drawn_of steps) _ (lines_of (puts station_machine) steps) _ _ begun.shows begun.run.ran.shows begun.run.shows in
    let why : list_any fails_to_dial happened ≡ true =
    elim (run_failed _ _ steps begun.run.ran.are (record { answer = λ dialling none. dial_made (station_dials plan) [] begun.happened begun.performs refl }) refl failed) [
      | inl queued ↦ any_left fails_to_dial begun.happened (story_of steps ++ begun.run.stop) (made_failed begun.happened queued)
      | inr told ↦ any_right fails_to_dial begun.happened (story_of steps ++ begun.run.stop) (any_left fails_to_dial (story_of steps) begun.run.stop told)
    ] in
    record { rose = all.links.1 (dials_fail happened why); happened = happened; told = all.story; failed = why }
