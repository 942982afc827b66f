-- A client finds its dial failed only where the dial failed.
use Rattle.std.proofs.Common.{ℕ, ◌≡◌, ◌≤◌, true, false, List, [], ◌∷◌, ◌++◌, Option, Some, None, Ok, refl, sym, ap, subst, ◌∙◌, arith, inl, inr}
use Rattle.std.proofs.lemmas.Bool.{cases_Bool}
use Rattle.outside.specs.Causes.{Rose, RisesWhere}
use Rattle.outside.specs.Machine.{Machine, Stepped}
use Rattle.outside.specs.Stories.{fails_at_links}
use Rattle.outside.specs.Telling.{Appends}
use Rattle.outside.specs.declared.action.Action.{Action}
use Rattle.outside.specs.declared.event.Event.{Event}
use Rattle.outside.specs.declared.event.Event.TheVariants as event
use Rattle.outside.specs.declared.event.Happening.{Happening}
use Rattle.outside.specs.declared.event.Happening.TheVariants as happening
use Rattle.end_loop.specs.Acts.{Performs, made_events}
use Rattle.end_loop.specs.Begun.{Begun}
use Rattle.end_loop.specs.Runs.{Step, AreSteps, RunState as Places, drawn_of, moments_of, story_of}
use Rattle.end_loop.specs.Seen.{Sight}
use Rattle.end_loop.proofs.RunLaws.{Shows-trans}
use Rattle.logon_client.specs.declared.plan.ClientPlan.{ClientPlan}
use Rattle.logon_client.specs.Losses.{is_dial_failed, is_dialling}
use Rattle.logon_client.specs.Machine.{client_machine, step_of}
use Rattle.logon_client.specs.State.{State}
use Rattle.logon_client.proofs.LossLaws.{losses_come_of_events}
use Rattle.nt_top.specs.Logon.{client_that_dials, first_actions}
use Rattle.nt_top.specs.LogonExits.{FailsToDial}

-- ---- once the dial was answered, it doesn't wait again, and no outcome says that it failed

record Settled (s : State) : Type 0 where
  still : is_dialling s.running ≡ false
  kept : is_dial_failed s.outcome ≡ false

still_kept : (s new : State) (what : Event) → Settled s → (is_dial_failed s.outcome ≡ false → is_dial_failed new.outcome ≡ true → (what ≡ event.DialFailed) × (is_dialling s.running ≡ true)) →
    is_dial_failed new.outcome ≡ false
still_kept s new what settled failed =
    elim (cases_Bool (is_dial_failed new.outcome)) [
      | inl comes ↦ absurd (let e : false ≡ true = sym settled.still ∙ (failed settled.kept comes).1 in cc)
      | inr kept ↦ kept
    ]

step_settled : (s : State) (what : Event) (now : ℕ) (left : List (List ℕ)) → Settled s → Settled (step_of s what now left).state
step_settled s what now left settled = record {
  still = losses_come_of_events.still s what now left settled.still;
  kept = still_kept s (step_of s what now left).state what settled (losses_come_of_events.failed s what now left);
}

steps_settled : (start last : Places State) (steps : List Step) → AreSteps client_machine start steps last → Settled start.state → Settled last.state
steps_settled start last [] are settled = subst (λ (p : Places State). Settled p.state) (sym are) settled
steps_settled start last (step ∷ steps) are settled =
    let there : (step_of start.state step.event step.moment start.left).state ≡ are.0.state = ap (λ (s : Stepped State). s.state) are.1.is in
    steps_settled are.0 last steps are.2 (subst Settled there (step_settled start.state step.event step.moment start.left settled))

-- ---- the run of a client whose dial is asked for first

pub rises : (a b c : ℕ) → Rose a b → b ≤ c → Rose a c
rises a b c one more = omega (arith, one, more)

dials_once : (plan : ClientPlan) (happened : List Happening) → Performs [] (first_actions plan) happened →
    (link : Option ℕ) × (happened ≡ happening.Dialled plan.server link ∷ [])
dials_once plan happened performs =
    let now = performs.2 in
    (now.0, performs.3 ∙ ap (λ (h : List Happening). h ++ performs.1) now.1 ∙ ap (λ (h : List Happening). happening.Dialled plan.server now.0 ∷ h) performs.4)

answered : (plan : ClientPlan) (link : ℕ) (left : List (List ℕ)) (last : Places State) (steps : List Step) →
    AreSteps client_machine (record { state = client_that_dials plan; queue = event.Dialled link ∷ []; left = left }) steps last → is_dial_failed last.state.outcome ≡ false
answered plan link left last [] are = subst (λ (p : Places State). is_dial_failed p.state.outcome ≡ false) (sym are) refl
answered plan link left last (step ∷ steps) are =
    let chosen : step.event ≡ event.Dialled link = are.1.chooses.1 in
    let is = subst (λ (e : Event). step_of (client_that_dials plan) e step.moment left ≡ record { answer = Ok step.actions; state = are.0.state; drawn = step.drawn; left = are.0.left }) chosen are.1.is in
    let there : (step_of (client_that_dials plan) (event.Dialled link) step.moment left).state ≡ are.0.state = ap (λ (s : Stepped State). s.state) is in
    let settled : Settled are.0.state = subst Settled there (record { still = refl; kept = refl }) in
    (steps_settled are.0 last steps are.2 settled).kept

by_link : (plan : ClientPlan) (link : Option ℕ) (before middle after : ℕ) (left : List (List ℕ)) (last : Places State) (steps : List Step) → RisesWhere (fails_at_links (happening.Dialled plan.server link ∷ [])) before middle → middle ≤ after →
    AreSteps client_machine (record { state = client_that_dials plan; queue = made_events (happening.Dialled plan.server link ∷ []); left = left }) steps last → is_dial_failed last.state.outcome ≡ true →
    Rose before after × (link ≡ None)
by_link plan None before middle after left last steps first more are failed = (rises before middle after (first.1 refl) more, refl)
by_link plan (Some link) before middle after left last steps first more are failed =
    let kept = answered plan link left last steps are in absurd cc

-- what happened at the port in a run that was begun by a dial
pub tells : {S : Type 0} (machine : Machine S) (file : Option (List ℕ)) (first : List Action) (old last : S) (most : ℕ) (opened ended : Sight) (begun : Begun machine file first old last most opened ended) →
    Appends opened.story ended.story (begun.happened ++ (story_of begun.run.ran.steps ++ begun.run.stop))
tells machine file first old last most opened ended begun =
    let rest = Shows-trans begun.middle begun.run.middle ended (story_of begun.run.ran.steps) begun.run.stop (moments_of begun.run.ran.steps) [] (drawn_of begun.run.ran.steps) [] _ [] _ [] begun.run.ran.shows begun.run.shows in
    (Shows-trans opened begun.middle ended begun.happened (story_of begun.run.ran.steps ++ begun.run.stop) [] (moments_of begun.run.ran.steps ++ []) [] (drawn_of begun.run.ran.steps ++ []) _ _ _ _ begun.shows rest).story

-- a client finds its dial failed only where the dial of its server failed, and the count of link faults rose
pub dial_cause : (plan : ClientPlan) (last : State) (most : ℕ) (opened ended : Sight) → Begun client_machine None (first_actions plan) (client_that_dials plan) last most opened ended →
    is_dial_failed last.outcome ≡ true → FailsToDial plan.server opened ended
dial_cause plan last most opened ended begun failed =
    let dial = dials_once plan begun.happened begun.performs in
    let first = subst (λ (h : List Happening). RisesWhere (fails_at_links h) opened.link_faults begun.middle.link_faults) dial.1 begun.shows.links in
    let are = subst (λ (h : List Happening). AreSteps client_machine (record { state = client_that_dials plan; queue = made_events h; left = begun.middle.drawing.left }) begun.run.ran.steps (record { state = last; queue = []; left = begun.run.left })) dial.1 begun.run.ran.are in
    let fails = by_link plan dial.0 opened.link_faults begun.middle.link_faults ended.link_faults begun.middle.drawing.left _ begun.run.ran.steps first
    (omega (arith, begun.run.ran.shows.links.0, begun.run.shows.links.0)) are failed in
    let happened : begun.happened ≡ happening.Dialled plan.server None ∷ [] = dial.1 ∙ ap (λ (l : Option ℕ). happening.Dialled plan.server l ∷ []) fails.1 in
    record {
      rose = fails.0;
      happened = story_of begun.run.ran.steps ++ begun.run.stop;
      told = subst (λ (h : List Happening). Appends opened.story ended.story (h ++ (story_of begun.run.ran.steps ++ begun.run.stop))) happened
          (tells client_machine None (first_actions plan) (client_that_dials plan) last most opened ended begun);
    }
