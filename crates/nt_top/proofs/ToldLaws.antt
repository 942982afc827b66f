-- What a run shows that begins with actions of its own, and two such runs that the same outside shows.
use Rattle.std.proofs.Common.{ℕ, ◌≡◌, inl, inr, ◌<◌, List, [], ◌∷◌, ◌++◌, length, Option, Some, true, false, sym, ap, subst, ◌∙◌, arith, append-nil}
use Rattle.std.specs.List.{list_any}
use Rattle.std.proofs.lemmas.Grind.{flat_map-append}
use Rattle.std.proofs.lemmas.List.{append_cancel_left}
use Rattle.outside.specs.Drawing.{Drawing, DrawsAll}
use Rattle.outside.specs.Machine.{Machine}
use Rattle.outside.specs.Stories.{event_of, events_in}
use Rattle.outside.specs.Telling.{Appends}
use Rattle.outside.specs.declared.action.Action.{Action}
use Rattle.outside.specs.declared.event.Event.{Event}
use Rattle.outside.specs.declared.event.Event.TheVariants as event
use Rattle.outside.specs.declared.event.Happening.{Happening}
use Rattle.outside.specs.declared.event.Happening.TheVariants as happening
use Rattle.outside.proofs.TellingLaws.{Appends-trans}
use Rattle.end_loop.specs.Acts.{Performs, made_events}
use Rattle.end_loop.specs.Asking.{gives_stop}
use Rattle.end_loop.specs.Begun.{BegunHalf}
use Rattle.end_loop.specs.Runs.{RunState, Step, AreSteps, Chooses, Closes, asked_by, drawn_of, moments_of, story_of, run_state_at}
use Rattle.end_loop.specs.Seen.{Sight, Shows}
use Rattle.end_loop.specs.Serving.{Opens}
use Rattle.end_loop.specs.Writing.{Write}
use Rattle.end_loop.specs.declared.halt.Halt.TheVariants as halts
use Rattle.end_loop.proofs.AskingLaws.{asks_for, performs_silent}
use Rattle.end_loop.proofs.RunLaws.{Shows-trans}
use Rattle.end_loop.proofs.UniqueLaws.{performs_same}
use Rattle.nt_top.specs.Serve.{GivesFewer}
use Rattle.nt_top.specs.Told.{TellsBegun, begun_at, rest_at}

-- ---- what a run shows, from what opened it on

pub record Told {S : Type 0} (machine : Machine S) (first : List Action) (old : S) (opening : List Happening) (before after : Sight) (steps : List Step) (last : RunState S)
    (later : List Happening) (moments_later : List ℕ) : Type 0 where
  pub happened : List Happening
  pub performs : Performs [] first happened
  pub are : AreSteps machine (begun_at old happened after.drawing) steps last
  pub story : Appends before.story after.story (opening ++ (happened ++ (story_of steps ++ later)))
  pub moments : Appends before.moments after.moments (moments_of steps ++ moments_later)

-- what was left at first is what was drawn and what is left
pub left_is : (opened middle ended : Drawing) (draws : List (List ℕ)) → opened.drawn ≡ [] → DrawsAll opened middle [] → DrawsAll opened ended draws → middle.left ≡ ended.drawn ++ ended.left
left_is opened middle ended draws none first all =
    let drawn : ended.drawn ≡ draws = all.drawn ∙ ap (λ (d : List (List ℕ)). d ++ draws) none in
    sym first.left ∙ all.left ∙ ap (λ (d : List (List ℕ)). d ++ ended.left) (sym drawn)

pub told_by : {S : Type 0} (machine : Machine S) (first : List Action) (old : S) (opening : List Happening) (seed : List ℕ) (boot : ℕ) (before opened middle ran ended : Sight) (happened : List Happening)
    (steps : List Step) (last : RunState S) (later : List Happening) (moments_later : List ℕ) (drawn_later : List (List ℕ)) (put put2 put3 : List ℕ) (writes writes2 writes3 : List Write) →
    Opens seed boot before opened opening → Performs [] first happened → Shows opened middle happened [] [] put writes →
    AreSteps machine (run_state_at old (made_events happened) middle) steps last → Shows middle ran (story_of steps) (moments_of steps) (drawn_of steps) put2 writes2 →
    Shows ran ended later moments_later drawn_later put3 writes3 → Told machine first old opening before ended steps last later moments_later
told_by machine first old opening seed boot before opened middle ran ended happened steps last later moments_later drawn_later put put2 put3 writes writes2 writes3 opens performs shows are run more =
    let rest = Shows-trans middle ran ended (story_of steps) later (moments_of steps) moments_later (drawn_of steps) drawn_later put2 put3 writes2 writes3 run more in
    let all = Shows-trans opened middle ended happened (story_of steps ++ later) [] (moments_of steps ++ moments_later) [] (drawn_of steps ++ drawn_later) put (put2 ++ put3) writes (writes2 ++ writes3) shows rest in
    let left = left_is opened.drawing middle.drawing ended.drawing (drawn_of steps ++ drawn_later) opens.none_drawn shows.drawing all.drawing in
    record {
      happened = happened;
      performs = performs;
      are = subst (λ (l : List (List ℕ)). AreSteps machine (record { state = old; queue = made_events happened; left = l }) steps last) left are;
      story = Appends-trans before.story opened.story ended.story opening (happened ++ (story_of steps ++ later)) opens.story all.story;
      moments = subst (λ (m : Option (List ℕ)). Appends m ended.moments (moments_of steps ++ moments_later)) opens.moments all.moments;
    }

-- ---- two runs that the same outside shows

pub told_items : {X : Type 0} (old new : Option (List X)) (all items more : List X) → old ≡ Some all → new ≡ Some (all ++ more) → Appends old new items → items ≡ more
told_items {X} old new all items more is now told =
    let here : Appends old (Some (all ++ more)) items = subst (λ (n : Option (List X)). Appends old n items) now told in
    let there : all ++ more ≡ all ++ items = subst (λ (o : Option (List X)). Appends o (Some (all ++ more)) items) is here in
    append_cancel_left all items more (sym there)

pub record Compared {S : Type 0} (machine : Machine S) (old : S) (drawing : Drawing) (steps others : List Step) (last other : RunState S) (later later2 : List Happening)
    (given given2 : List ℕ) : Type 0 where
  pub happened : List Happening
  pub are : AreSteps machine (begun_at old happened drawing) steps last
  pub others_are : AreSteps machine (begun_at old happened drawing) others other
  pub story : story_of steps ++ later ≡ story_of others ++ later2
  pub moments : moments_of steps ++ given ≡ moments_of others ++ given2

pub compare : {S : Type 0} (machine : Machine S) (first : List Action) (old : S) (opening : List Happening) (before after : Sight) (steps others : List Step) (last other : RunState S)
    (later later2 : List Happening) (moments moments2 : List ℕ) → Told machine first old opening before after steps last later moments →
    TellsBegun machine first old opening before after others other later2 moments2 → Compared machine old after.drawing steps others last other later later2 moments moments2
compare machine first old opening before after steps others last other later later2 moments moments2 one two =
    let here = one.happened ++ (story_of steps ++ later) in
    let there = two.happened ++ (story_of others ++ later2) in
    let all = told_items before.story after.story two.story (opening ++ here) (opening ++ there) two.story_before two.story_after one.story in
    let times = told_items before.moments after.moments two.moments (moments_of steps ++ moments) (moments_of others ++ moments2) two.moments_before two.moments_after one.moments in
    let same = performs_same [] first one.happened two.happened (story_of steps ++ later) (story_of others ++ later2) one.performs two.performs (append_cancel_left opening here there all) in
    record {
      happened = one.happened;
      are = one.are;
      others_are = subst (λ (h : List Happening). AreSteps machine (begun_at old h after.drawing) others other) (sym same.0) two.are;
      story = same.1;
      moments = times;
    }

-- a run that would ask for one more event isn't at its end
pub asks_not_closed : {S : Type 0} (machine : Machine S) (most : ℕ) (steps others : List Step) (state : S) (left : List (List ℕ)) (last : RunState S) (stop : List Happening) (start : RunState S) →
    AreSteps machine start steps last → AreSteps machine start others (rest_at state left) → story_of steps ++ [] ≡ story_of others ++ stop → last ≡ rest_at state left → [] ≡ stop →
    asked_by steps < most → machine.is_over last.state ≡ false → Closes machine (rest_at state left) (asked_by others) most stop → ⊥
asks_not_closed {S} machine most steps others state left last stop start are others_are story same none more open_still (inl over) =
    let wrong : false ≡ true = sym open_still ∙ ap (λ (s : RunState S). machine.is_over s.state) same ∙ over.0 in cc
asks_not_closed machine most steps others state left last stop start are others_are story same none more open_still (inr (inl took)) =
    let alike : story_of steps ≡ story_of others = sym (append-nil (story_of steps)) ∙ story ∙ ap (λ (h : List Happening). story_of others ++ h) took.1 ∙ append-nil (story_of others) in
    let count : asked_by steps ≡ asked_by others = sym (asks_for machine start last steps are).count ∙ ap (λ (h : List Happening). length (events_in h)) alike ∙ (asks_for machine start (rest_at state left) others others_are).count in
    omega (arith, more, count, took.0)
asks_not_closed machine most steps others state left last stop start are others_are story same none more open_still (inr (inr stopped)) =
    let wrong : [] ≡ happening.Given event.Stop (machine.want state) ∷ [] = none ∙ stopped.2 in cc

-- which event is stepped doesn't depend on what happens then
pub quiet_chooses : {S : Type 0} (machine : Machine S) (state : S) (queue : List Event) (step : Step) (waiting : List Event) → Chooses machine state queue step waiting →
    Chooses machine state queue (record step { happened = [] }) waiting
quiet_chooses machine state [] step waiting chooses = chooses
quiet_chooses machine state (first ∷ later) step waiting chooses = chooses

-- ---- a port that failed

-- performing actions gives no event
pub begun_events : (first : List Action) (happened later : List Happening) → Performs [] first happened → events_in (happened ++ later) ≡ events_in later
begun_events first happened later performs =
    flat_map-append event_of happened later ∙ ap (λ (e : List (Event × Option ℕ)). e ++ events_in later) (performs_silent [] first happened performs)

opened_events : (opening later : List Happening) → events_in opening ≡ [] → events_in (opening ++ later) ≡ events_in later
opened_events opening later none =
    flat_map-append event_of opening later ∙ ap (λ (e : List (Event × Option ℕ)). e ++ events_in later) none

pub fewer_begun : {S : Type 0} (machine : Machine S) (file : Option (List ℕ)) (first : List Action) (old : S) (opening : List Happening) (seed : List ℕ) (boot most : ℕ) (before opened after : Sight) →
    Opens seed boot before opened opening → events_in opening ≡ [] → BegunHalf machine file first old most opened after halts.PortFault → GivesFewer most before after
fewer_begun machine file first old opening seed boot most before opened after opens quiet half =
    let story = story_of half.run.ran.steps in
    let asks = asks_for machine _ half.run.last half.run.ran.steps half.run.ran.are in
    let events : events_in (opening ++ (half.happened ++ story)) ≡ events_in story = opened_events opening (half.happened ++ story) quiet ∙ begun_events first half.happened story half.performs in
    record {
      happened = opening ++ (half.happened ++ story);
      told = Appends-trans before.story opened.story after.story opening (half.happened ++ story) opens.story
          (Appends-trans opened.story half.middle.story after.story half.happened story half.shows.story half.run.ran.shows.story);
      no_stop = ap (λ (e : List (Event × Option ℕ)). list_any gives_stop e) events ∙ asks.no_stop;
      fewer = inr (subst (λ (n : ℕ). n < most) (half.run.ran.count ∙ sym asks.count ∙ sym (ap length events)) half.run.more);
    }
