-- Why an end finds its link closed that begins with a dial, as a client or a station. It serves
-- `what_is_told_decides_the_exit` and `what_is_told_decides_how_a_station_ends`.
use Rattle.std.proofs.Common.{ℕ, ◌≡◌, ◌⊎◌, inl, inr, ◌==◌, ◌||◌, Bool, true, false, List, [], ◌∷◌, ◌++◌, length, Option, Some, None, refl, sym, ap, subst, ◌∙◌, append-nil}
use Rattle.std.specs.List.{list_any}
use Rattle.std.proofs.lemmas.Bool.{cases_Bool, or_left, or_right}
use Rattle.std.proofs.lemmas.Bool.Decides.{Decides-eqb}
use Rattle.std.proofs.lemmas.List.Folds.{list_any-append}
use Rattle.outside.specs.Machine.{Machine, Stepped}
use Rattle.outside.specs.Causes.{RisesWhere}
use Rattle.outside.specs.Stories.{events_in, fails_at_links}
use Rattle.outside.specs.Telling.{Appends}
use Rattle.outside.specs.declared.event.Event.{Event}
use Rattle.outside.specs.declared.event.Event.TheVariants as event
use Rattle.outside.specs.declared.action.Action.{Action}
use Rattle.outside.specs.declared.event.Happening.{Happening}
use Rattle.outside.specs.declared.event.Happening.TheVariants as happening
use Rattle.end_loop.specs.Acts.{Performs, made_events}
use Rattle.end_loop.specs.Begun.{Begun}
use Rattle.end_loop.specs.Runs.{Step, IsStep, AreSteps, Chooses, RunState as Places, drawn_of, lines_of, moments_of, story_of, step_story}
use Rattle.end_loop.specs.Acts.{puts}
use Rattle.end_loop.specs.Seen.{Sight, Shows}
use Rattle.end_loop.specs.Writing.{Write}
use Rattle.end_loop.proofs.AskingLaws.{asks_for}
use Rattle.end_loop.proofs.RunLaws.{Shows-trans}
use Rattle.nt_top.specs.Logon.{most_answers}
use Rattle.nt_top.specs.LogonExits.{LosesLink, Gone, SendFailed, Stopped, TookAll, fails_to_send, gives_stop, is_gone, tells_gone}
use Rattle.nt_top.proofs.ToldLaws.{begun_events}

-- ---- lists of which one item passes a test

pub any_left : {X : Type 0} (test : X → Bool) (front behind : List X) → list_any test front ≡ true → list_any test (front ++ behind) ≡ true
any_left test front behind is = list_any-append test front behind ∙ or_left (list_any test front) (list_any test behind) is

pub any_right : {X : Type 0} (test : X → Bool) (front behind : List X) → list_any test behind ≡ true → list_any test (front ++ behind) ≡ true
any_right test front behind is = list_any-append test front behind ∙ or_right (list_any test front) (list_any test behind) is

either : (a b : Bool) → (a || b) ≡ true → (a ≡ true) ⊎ (b ≡ true)
either true b is = inl refl
either false b is = inr is

pub any_either : {X : Type 0} (test : X → Bool) (front behind : List X) → list_any test (front ++ behind) ≡ true → (list_any test front ≡ true) ⊎ (list_any test behind ≡ true)
any_either test front behind is = either (list_any test front) (list_any test behind) (sym (list_any-append test front behind) ∙ is)

-- ---- events that show that a link is gone

abbrev is_closing : Event → Bool
is_closing (event.Closed link) = true
is_closing (event.Opened link) = true
is_closing _ = false

made_closing : (happened : List Happening) → list_any is_closing (made_events happened) ≡ true → list_any fails_to_send happened ≡ true
made_closing [] is = absurd cc
made_closing (happening.Listened address ∷ more) is = made_closing more is
made_closing (happening.Given what want ∷ more) is = made_closing more is
made_closing (happening.Sent link bytes true ∷ more) is = refl
made_closing (happening.Sent link bytes false ∷ more) is = made_closing more is
made_closing (happening.Dialled peer (Some link) ∷ more) is = made_closing more is
made_closing (happening.Dialled peer None ∷ more) is = made_closing more is
made_closing (happening.Shut link ∷ more) is = made_closing more is

-- where a send failed, a dial or a send did
sends_fail : (happened : List Happening) → list_any fails_to_send happened ≡ true → fails_at_links happened ≡ true
sends_fail [] is = absurd cc
sends_fail (happening.Listened address ∷ more) is = sends_fail more is
sends_fail (happening.Given what want ∷ more) is = sends_fail more is
sends_fail (happening.Sent link bytes true ∷ more) is = refl
sends_fail (happening.Sent link bytes false ∷ more) is = sends_fail more is
sends_fail (happening.Dialled peer (Some link) ∷ more) is = sends_fail more is
sends_fail (happening.Dialled peer None ∷ more) is = refl
sends_fail (happening.Shut link ∷ more) is = sends_fail more is

pub same_number : (link : ℕ) → (link == link) ≡ true
same_number link = (Decides-eqb link link).1 refl

gone_closing : (what : Event) (want : Option ℕ) → is_gone what want ≡ true → is_closing what ≡ true
gone_closing (event.Closed link) want gone = refl
gone_closing (event.Opened link) want gone = refl
gone_closing (event.Bytes link bytes) want gone = absurd cc
gone_closing (event.Dialled link) want gone = absurd cc
gone_closing event.DialFailed want gone = absurd cc
gone_closing event.Stop want gone = absurd cc

-- ends of a machine for which a link is lost come to be so only where the event shows that their link is gone
pub record LosesAtGone {S : Type 0} (machine : Machine S) (lost : S → Bool) : Type 0 where
  pub at : (s : S) (what : Event) (now : ℕ) (left : List (List ℕ)) → lost s ≡ false → lost (machine.step s what now left).state ≡ true → is_gone what (machine.want s) ≡ true

-- ---- where it was shown that a link is lost

-- an event that waits shows it, or one that the port gave, or a send failed
abbrev Lost : List Event → List Happening → Type 0
Lost queue story = (list_any is_closing queue ≡ true) ⊎ ((list_any tells_gone story ≡ true) ⊎ (list_any fails_to_send story ≡ true))

chosen_lost : {S : Type 0} (machine : Machine S) (s : S) (queue : List Event) (step : Step) (waiting : List Event) → Chooses machine s queue step waiting → is_gone step.event (machine.want s) ≡ true →
    (list_any is_closing queue ≡ true) ⊎ (list_any tells_gone step.asked ≡ true)
chosen_lost machine s [] step waiting chooses gone =
    inr (subst (λ (h : List Happening). list_any tells_gone h ≡ true) (sym chooses.1) (or_left (is_gone step.event (machine.want s)) false gone))
chosen_lost machine s (first ∷ later) step waiting chooses gone =
    inl (or_left (is_closing first) (list_any is_closing later) (subst (λ (e : Event). is_closing e ≡ true) chooses.1 (gone_closing step.event (machine.want s) gone)))

waits_lost : {S : Type 0} (machine : Machine S) (s : S) (queue : List Event) (step : Step) (waiting : List Event) → Chooses machine s queue step waiting → list_any is_closing waiting ≡ true → list_any is_closing queue ≡ true
waits_lost machine s [] step waiting chooses is = subst (λ (w : List Event). list_any is_closing w ≡ true) chooses.3 is
waits_lost machine s (first ∷ later) step waiting chooses is =
    or_right (is_closing first) (list_any is_closing later) (subst (λ (w : List Event). list_any is_closing w ≡ true) chooses.2 is)

later_lost : {S : Type 0} (machine : Machine S) (start middle : Places S) (step : Step) (story : List Happening) → IsStep machine start step middle → Lost middle.queue story → Lost start.queue (step_story step ++ story)
later_lost machine start middle step story is (inr (inl told)) = inr (inl (any_right tells_gone (step_story step) story told))
later_lost machine start middle step story is (inr (inr failed)) = inr (inr (any_right fails_to_send (step_story step) story failed))
later_lost machine start middle step story is (inl queued) =
    elim (any_either is_closing is.waiting (made_events step.happened) (subst (λ (q : List Event). list_any is_closing q ≡ true) is.queue queued)) [
      | inl waits ↦ inl (waits_lost machine start.state start.queue step is.waiting is.chooses waits)
      | inr made ↦ inr (inr (any_left fails_to_send (step_story step) story (any_right fails_to_send step.asked step.happened (made_closing step.happened made))))
    ]

run_lost : {S : Type 0} (machine : Machine S) (lost : S → Bool) → LosesAtGone machine lost → (start last : Places S) (steps : List Step) → AreSteps machine start steps last → lost start.state ≡ false → lost last.state ≡ true →
    Lost start.queue (story_of steps)
run_lost {S} machine lost loses start last [] are was comes =
    absurd (let wrong : false ≡ true = sym was ∙ ap (λ (p : Places S). lost p.state) (sym are) ∙ comes in cc)
run_lost {S} machine lost loses start last (step ∷ steps) are was comes =
    elim (cases_Bool (lost are.0.state)) [
      | inl now ↦
          let there : (machine.step start.state step.event step.moment start.left).state ≡ are.0.state = ap (λ (s : Stepped S). s.state) are.1.is in
          let gone = loses.at start.state step.event step.moment start.left was (ap lost there ∙ now) in
          elim (chosen_lost machine start.state start.queue step are.1.waiting are.1.chooses gone) [
            | inl queued ↦ inl queued
            | inr told ↦ inr (inl (any_left tells_gone (step_story step) (story_of steps) (any_left tells_gone step.asked step.happened told)))
          ]
      | inr still ↦ later_lost machine start are.0 step (story_of steps) are.1 (run_lost machine lost loses are.0 last steps are.2 still comes)
    ]

-- ---- the run of an end that begins with actions of its own

pub whole : (opened middle ran ended : Sight) (happened later stop : List Happening) (moments : List ℕ) (drawn : List (List ℕ)) (put put2 : List ℕ) (writes writes2 : List Write) →
    Shows opened middle happened [] [] put writes → Shows middle ran later moments drawn put2 writes2 → Shows ran ended stop [] [] [] [] →
    Shows opened ended (happened ++ (later ++ stop)) ([] ++ (moments ++ [])) ([] ++ (drawn ++ [])) (put ++ (put2 ++ [])) (writes ++ (writes2 ++ []))
whole opened middle ran ended happened later stop moments drawn put put2 writes writes2 first second third =
    Shows-trans opened middle ended happened (later ++ stop) [] (moments ++ []) [] (drawn ++ []) put (put2 ++ []) writes (writes2 ++ []) first
    (Shows-trans middle ran ended later stop moments [] drawn [] put2 [] writes2 [] second third)

asked_events : (first : List Action) (happened later stop : List Happening) → Performs [] first happened → stop ≡ [] → events_in (happened ++ (later ++ stop)) ≡ events_in later
asked_events first happened later stop performs none =
    ap (λ (h : List Happening). events_in (happened ++ (later ++ h))) none
    ∙ ap (λ (h : List Happening). events_in (happened ++ h)) (append-nil later)
    ∙ begun_events first happened later performs

send_failed : (opened ended : Sight) (happened : List Happening) → Appends opened.story ended.story happened → RisesWhere (fails_at_links happened) opened.link_faults ended.link_faults →
    list_any fails_to_send happened ≡ true → LosesLink opened ended
send_failed opened ended happened told links failed = SendFailed happened told failed (links.1 (sends_fail happened failed))

pub loses_link : {S : Type 0} (machine : Machine S) (first : List Action) (old last : S) (lost : S → Bool) → LosesAtGone machine lost → (opened ended : Sight) → lost old ≡ false →
    Begun machine None first old last most_answers opened ended → (machine.is_over last ≡ false) ⊎ (lost last ≡ true) → LosesLink opened ended
loses_link machine first old last lost loses opened ended was begun (inr closed) =
    let steps = begun.run.ran.steps in
    let all = whole opened begun.middle begun.run.middle ended begun.happened (story_of steps) begun.run.stop (moments_of steps) (drawn_of steps) _ (lines_of (puts machine) steps) _ _ begun.shows begun.run.ran.shows begun.run.shows in
    elim (run_lost machine lost loses _ _ steps begun.run.ran.are was closed) [
      | inl queued ↦ send_failed opened ended (begun.happened ++ (story_of steps ++ begun.run.stop)) all.story all.links
          (any_left fails_to_send begun.happened (story_of steps ++ begun.run.stop) (made_closing begun.happened queued))
      | inr other ↦ elim other [
        | inl told ↦ Gone (begun.happened ++ (story_of steps ++ begun.run.stop)) all.story (any_right tells_gone begun.happened (story_of steps ++ begun.run.stop) (any_left tells_gone (story_of steps) begun.run.stop told))
        | inr failed ↦ send_failed opened ended (begun.happened ++ (story_of steps ++ begun.run.stop)) all.story all.links
            (any_right fails_to_send begun.happened (story_of steps ++ begun.run.stop) (any_left fails_to_send (story_of steps) begun.run.stop failed))
      ]
    ]
loses_link machine first old last lost loses opened ended was begun (inl none) =
    let steps = begun.run.ran.steps in
    let all = whole opened begun.middle begun.run.middle ended begun.happened (story_of steps) begun.run.stop (moments_of steps) (drawn_of steps) _ (lines_of (puts machine) steps) _ _ begun.shows begun.run.ran.shows begun.run.shows in
    elim begun.run.closes [
      | inl over ↦ absurd (let wrong : false ≡ true = sym none ∙ over.0 in cc)
      | inr other ↦ elim other [
        | inl took ↦ TookAll (begun.happened ++ (story_of steps ++ begun.run.stop)) all.story
            (ap length (asked_events first begun.happened (story_of steps) begun.run.stop begun.performs took.1) ∙ (asks_for machine _ _ steps begun.run.ran.are).count ∙ sym begun.run.ran.count ∙ took.0)
        | inr stop ↦ Stopped (begun.happened ++ (story_of steps ++ begun.run.stop)) all.story
            (any_right gives_stop begun.happened (story_of steps ++ begun.run.stop) (any_right gives_stop (story_of steps) begun.run.stop (subst (λ (h : List Happening). list_any gives_stop h ≡ true) (sym stop.2) refl)))
      ]
    ]
