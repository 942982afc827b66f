-- The events that a run asks for.
use Rattle.std.proofs.Common.{◌≡◌, ℕ, Bool, true, false, ◌+◌, ◌||◌, List, [], ◌∷◌, ◌++◌, length, Option, refl, sym, ap, ◌∙◌, append-nil, length-append}
use Rattle.std.specs.List.{flat_map, list_any}
use Rattle.std.proofs.lemmas.Grind.{flat_map-append}
use Rattle.std.proofs.lemmas.List.Folds.{list_any-append}
use Rattle.outside.specs.declared.event.Event.{Event}
use Rattle.outside.specs.declared.event.Happening.{Happening}
use Rattle.outside.specs.declared.action.Action.{Action}
use Rattle.outside.specs.declared.action.Action.TheVariants.{Keep, Send, Dial, Close, Told, Judged}
use Rattle.outside.specs.Machine.{Machine}
use Rattle.outside.specs.Stories.{event_of, events_in}
use Rattle.end_loop.specs.Acts.{Does, SendsOn, Performs, failed_link, has_link}
use Rattle.end_loop.specs.Runs.{Step, Chooses, story_of, step_story}
use Rattle.end_loop.specs.Asking.{gives_stop, AsksFor}

sends_silent : (known : Bool) (link : ℕ) (bytes : List ℕ) (now : List Happening) → SendsOn known link bytes now → events_in now ≡ []
sends_silent true link bytes now does = ap events_in does
sends_silent false link bytes now does = ap events_in does.1

does_silent : (failed : List ℕ) (x : Action) (now : List Happening) → Does failed x now → events_in now ≡ []
does_silent failed (Keep bytes) now does = ap events_in does
does_silent failed (Send link bytes) now does = sends_silent (has_link failed link) link bytes now does
does_silent failed (Dial peer) now does = ap events_in does.1
does_silent failed (Close link cause) now does = ap events_in does
does_silent failed (Told link outcome) now does = ap events_in does
does_silent failed (Judged judged) now does = ap events_in does

pub performs_silent : (failed : List ℕ) (xs : List Action) (hs : List Happening) → Performs failed xs hs → events_in hs ≡ []
performs_silent failed [] hs p = ap events_in p
performs_silent failed (x ∷ xs) hs p =
    ap events_in p.3 ∙ flat_map-append event_of p.0 p.1 ∙ ap (λ (l : List (Event × Option ℕ)). l ++ events_in p.1) (does_silent failed x p.0 p.2)
    ∙ performs_silent (failed ++ flat_map failed_link p.0) xs p.1 p.4

-- a step asks for at most one event, which isn't `Stop`
asked_one : {S : Type 0} (machine : Machine S) (state : S) (queue : List Event) (step : Step) (waiting : List Event) →
    Chooses machine state queue step waiting →
    (length (events_in step.asked) ≡ length step.asked) × (list_any gives_stop (events_in step.asked) ≡ false)
asked_one machine state [] step waiting chooses = (
  ap (λ (hs : List Happening). length (events_in hs)) chooses.1 ∙ sym (ap length chooses.1),
  ap (λ (hs : List Happening). list_any gives_stop (events_in hs)) chooses.1 ∙ ap (λ (b : Bool). b || false) chooses.2,
)
asked_one machine state (first ∷ later) step waiting chooses = (
  ap (λ (hs : List Happening). length (events_in hs)) chooses.0 ∙ sym (ap length chooses.0),
  ap (λ (hs : List Happening). list_any gives_stop (events_in hs)) chooses.0,
)

pub asks_for : {S : Type 0} (machine : Machine S) → AsksFor machine
asks_for machine start last [] are = record { events = refl; count = refl; no_stop = refl }
asks_for machine start last (step ∷ steps) are =
    let is = are.1 in
    let asked = asked_one machine start.state start.queue step is.waiting is.chooses in
    let more = asks_for machine are.0 last steps are.2 in
    let later : List (Event × Option ℕ) = events_in (story_of steps) in
    let here : events_in (step_story step) ≡ events_in step.asked =
    flat_map-append event_of step.asked step.happened
    ∙ ap (λ (l : List (Event × Option ℕ)). events_in step.asked ++ l) (performs_silent [] step.actions step.happened is.performs)
    ∙ append-nil (events_in step.asked) in
    let all : events_in (step_story step ++ story_of steps) ≡ events_in step.asked ++ later =
    flat_map-append event_of (step_story step) (story_of steps) ∙ ap (λ (l : List (Event × Option ℕ)). l ++ later) here in
    record {
      events = all ∙ ap (λ (l : List (Event × Option ℕ)). events_in step.asked ++ l) more.events;
      count = ap length all ∙ length-append (events_in step.asked) later ∙ ap (λ (n : ℕ). n + length later) asked.0
          ∙ ap (λ (n : ℕ). length step.asked + n) more.count
          ∙ sym (length-append step.asked (flat_map (λ (step : Step). step.asked) steps));
      no_stop = ap (list_any gives_stop) all ∙ list_any-append gives_stop (events_in step.asked) later
          ∙ ap (λ (b : Bool). b || list_any gives_stop later) asked.1 ∙ more.no_stop;
    }
