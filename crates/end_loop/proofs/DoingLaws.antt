-- What is dialled and closed in a run.
use Rattle.std.proofs.Common.{◌≡◌, ℕ, Bool, true, false, List, [], ◌∷◌, ◌++◌, Option, refl, sym, ap, ◌∙◌}
use Rattle.std.specs.List.{flat_map}
use Rattle.std.proofs.lemmas.Grind.{flat_map-append}
use Rattle.std.proofs.lemmas.List.{map-append}
use Rattle.outside.specs.declared.event.Event.{Event}
use Rattle.outside.specs.declared.event.Happening.{Happening}
use Rattle.outside.specs.declared.event.Happening.TheVariants as happening
use Rattle.outside.specs.declared.action.Action.{Action}
use Rattle.outside.specs.declared.action.Action.TheVariants.{Keep, Send, Dial, Close, Told, Judged}
use Rattle.outside.specs.Machine.{Machine}
use Rattle.outside.specs.Stories.{dial_of, dials_in, close_of}
use Rattle.end_loop.specs.Acts.{Does, SendsOn, Performs, failed_link, has_link}
use Rattle.end_loop.specs.Runs.{RunState, Step, AreSteps, Chooses, story_of, step_story, actions_in}
use Rattle.end_loop.specs.Doing.{peers_of, peer_one, close_one, DialsAndCloses}

-- ---- a view of what happens, which shows of each action what is asked of it, and nothing of an event that is given

abbrev Views : {X : Type 0} → (Happening → List X) → (Action → List X) → Type 0
Views view asked = (failed : List ℕ) (x : Action) (now : List Happening) → Does failed x now → flat_map view now ≡ asked x

abbrev PassesOver : {X : Type 0} → (Happening → List X) → Type 0
PassesOver view = (what : Event) (want : Option ℕ) → view (happening.Given what want) ≡ []

performs_views : {X : Type 0} (view : Happening → List X) (asked : Action → List X) → Views view asked →
    (failed : List ℕ) (xs : List Action) (hs : List Happening) → Performs failed xs hs → flat_map view hs ≡ flat_map asked xs
performs_views view asked is failed [] hs p = ap (flat_map view) p
performs_views {X} view asked is failed (x ∷ xs) hs p =
    ap (flat_map view) p.3 ∙ flat_map-append view p.0 p.1
    ∙ ap (λ (l : List X). l ++ flat_map view p.1) (is failed x p.0 p.2)
    ∙ ap (λ (l : List X). asked x ++ l) (performs_views view asked is (failed ++ flat_map failed_link p.0) xs p.1 p.4)

asked_views : {X S : Type 0} (view : Happening → List X) → PassesOver view →
    (machine : Machine S) (state : S) (queue : List Event) (step : Step) (waiting : List Event) →
    Chooses machine state queue step waiting → flat_map view step.asked ≡ []
asked_views {X} view none machine state [] step waiting chooses =
    ap (flat_map view) chooses.1 ∙ ap (λ (l : List X). l ++ []) (none step.event (machine.want state))
asked_views view none machine state (first ∷ later) step waiting chooses = ap (flat_map view) chooses.0

steps_view : {X S : Type 0} (view : Happening → List X) (asked : Action → List X) → Views view asked → PassesOver view →
    (machine : Machine S) (start last : RunState S) (steps : List Step) → AreSteps machine start steps last →
    flat_map view (story_of steps) ≡ flat_map asked (actions_in steps)
steps_view view asked is none machine start last [] are = refl
steps_view {X} view asked is none machine start last (step ∷ steps) are =
    let here : flat_map view (step_story step) ≡ flat_map asked step.actions =
    flat_map-append view step.asked step.happened
    ∙ ap (λ (l : List X). l ++ flat_map view step.happened) (asked_views view none machine start.state start.queue step are.1.waiting are.1.chooses)
    ∙ performs_views view asked is [] step.actions step.happened are.1.performs in
    flat_map-append view (step_story step) (story_of steps)
    ∙ ap (λ (l : List X). l ++ flat_map view (story_of steps)) here
    ∙ ap (λ (l : List X). flat_map asked step.actions ++ l) (steps_view view asked is none machine are.0 last steps are.2)
    ∙ sym (flat_map-append asked step.actions (actions_in steps))

-- ---- dials and closes

abbrev peer_of : Happening → List (List ℕ)
peer_of what = peers_of (dial_of what)

peers_view : (story : List Happening) → peers_of (dials_in story) ≡ flat_map peer_of story
peers_view [] = refl
peers_view (what ∷ story) =
    map-append (λ (dial : List ℕ × Option ℕ). dial.0) (dial_of what) (dials_in story)
    ∙ ap (λ (l : List (List ℕ)). peer_of what ++ l) (peers_view story)

sends_no_peer : (known : Bool) (link : ℕ) (bytes : List ℕ) (now : List Happening) → SendsOn known link bytes now → flat_map peer_of now ≡ []
sends_no_peer true link bytes now does = ap (flat_map peer_of) does
sends_no_peer false link bytes now does = ap (flat_map peer_of) does.1

does_dial : Views peer_of peer_one
does_dial failed (Keep bytes) now does = ap (flat_map peer_of) does
does_dial failed (Send link bytes) now does = sends_no_peer (has_link failed link) link bytes now does
does_dial failed (Dial peer) now does = ap (flat_map peer_of) does.1
does_dial failed (Close link cause) now does = ap (flat_map peer_of) does
does_dial failed (Told link outcome) now does = ap (flat_map peer_of) does
does_dial failed (Judged judged) now does = ap (flat_map peer_of) does

sends_no_close : (known : Bool) (link : ℕ) (bytes : List ℕ) (now : List Happening) → SendsOn known link bytes now → flat_map close_of now ≡ []
sends_no_close true link bytes now does = ap (flat_map close_of) does
sends_no_close false link bytes now does = ap (flat_map close_of) does.1

does_close : Views close_of close_one
does_close failed (Keep bytes) now does = ap (flat_map close_of) does
does_close failed (Send link bytes) now does = sends_no_close (has_link failed link) link bytes now does
does_close failed (Dial peer) now does = ap (flat_map close_of) does.1
does_close failed (Close link cause) now does = ap (flat_map close_of) does
does_close failed (Told link outcome) now does = ap (flat_map close_of) does
does_close failed (Judged judged) now does = ap (flat_map close_of) does

pub dials_and_closes : {S : Type 0} (machine : Machine S) → DialsAndCloses machine
dials_and_closes machine = record {
  dials = λ start last steps are.
      peers_view (story_of steps) ∙ steps_view peer_of peer_one does_dial (λ what want. refl) machine start last steps are;
  closes = steps_view close_of close_one does_close (λ what want. refl) machine;
}
