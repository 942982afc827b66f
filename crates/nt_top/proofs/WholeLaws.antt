-- How a run that begins with actions of its own ends, by what is told of it. It serves `what_is_told_decides_the_exit`
-- and `what_is_told_decides_how_a_station_ends`.
use Rattle.std.proofs.Common.{ℕ, ◌≡◌, ◌⊎◌, inl, inr, ◌<◌, List, [], ◌∷◌, ◌++◌, Option, None, false, Err, refl, sym, ap, subst, ◌∙◌, append-nil}
use Rattle.std.proofs.lemmas.List.{append_cancel_right}
use Rattle.outside.specs.Causes.{Rose}
use Rattle.outside.specs.Drawing.{Drawing}
use Rattle.outside.specs.Machine.{Machine}
use Rattle.outside.specs.Telling.{Appends}
use Rattle.outside.proofs.TellingLaws.{Appends-trans}
use Rattle.outside.specs.declared.action.Action.{Action}
use Rattle.outside.specs.declared.action.StepRefused.TheVariants as refusals
use Rattle.outside.specs.declared.event.Event.{Event}
use Rattle.outside.specs.declared.event.Happening.{Happening}
use Rattle.end_loop.specs.Begun.{Begun, BegunUntil}
use Rattle.end_loop.specs.Runs.{RunState, Step, Chooses, Closes, asked_by, moments_of, step_story, story_of}
use Rattle.end_loop.specs.Seen.{Sight}
use Rattle.end_loop.specs.Serving.{Opens}
use Rattle.end_loop.specs.declared.halt.Halt.{Halt}
use Rattle.end_loop.specs.declared.halt.Halt.TheVariants as halts
use Rattle.end_loop.proofs.RunLaws.{Shows-none}
use Rattle.nt_top.specs.declared.exit.Exit.{Exit}
use Rattle.nt_top.specs.declared.exit.Exit.TheVariants.{Spent}
use Rattle.nt_top.specs.LogonExits.{IsExcuse, LosesLink, Gone, SendFailed, Stopped, TookAll}
use Rattle.nt_top.specs.Serve.{GivesFewer, halt_exit}
use Rattle.nt_top.specs.Told.{TellsBegun, begun_at, rest_at}
use Rattle.nt_top.proofs.PairLaws.{both_whole, spent_not_whole}
use Rattle.nt_top.proofs.ToldLaws.{Compared, Told, asks_not_closed, compare, fewer_begun, quiet_chooses, told_by}

-- ---- what a run shows, from the first actions on

abbrev pub ToldRun : {S : Type 0} → Machine S → List Action → S → Sight → Sight → List Step → RunState S → List Happening → List ℕ → Type 0
ToldRun machine first old before after steps last later moments_later = Told machine first old [] before after steps last later moments_later

abbrev pub TellsRunOf : {S : Type 0} → Machine S → List Action → S → Sight → Sight → List Step → RunState S → List Happening → List ℕ → Type 0
TellsRunOf machine first old before after steps last later moments_later = TellsBegun machine first old [] before after steps last later moments_later

-- the run came to its end, and the sink alone was used after it
pub concluded : {S : Type 0} (machine : Machine S) (first : List Action) (old last : S) (most : ℕ) (seed : List ℕ) (boot : ℕ) (before opened ended after : Sight) → Opens seed boot before opened [] →
    (run : Begun machine None first old last most opened ended) → after ≡ record ended { taken = after.taken } →
    ToldRun machine first old before after run.run.ran.steps (rest_at last run.run.left) run.run.stop []
concluded machine first old last most seed boot before opened ended after opens run only =
    subst (λ (s : Sight). ToldRun machine first old before s run.run.ran.steps (rest_at last run.run.left) run.run.stop []) (sym only)
    (let told = told_by machine first old [] seed boot before opened run.middle run.run.middle ended run.happened run.run.ran.steps (rest_at last run.run.left) run.run.stop [] [] _ _ [] _ _ [] opens
    run.performs run.shows run.run.ran.are run.run.ran.shows run.run.shows in
    record { happened = told.happened; performs = told.performs; are = told.are; story = told.story; moments = told.moments })

-- the run came to a step that draws more challenges than were left
record Spends {S : Type 0} (machine : Machine S) (first : List Action) (old : S) (before after : Sight) : Type 0 where
  steps : List Step
  last : RunState S
  step : Step
  waiting : List Event
  told : ToldRun machine first old before after steps last (step_story step) (step.moment ∷ [])
  chooses : Chooses machine last.state last.queue step waiting
  spent : (machine.step last.state step.event step.moment last.left).answer ≡ Err refusals.Spent

spends : {S : Type 0} (machine : Machine S) (first : List Action) (old : S) (most : ℕ) (seed : List ℕ) (boot : ℕ) (before opened after : Sight) → Opens seed boot before opened [] →
    BegunUntil machine None first old most opened after halts.Spent → Spends machine first old before after
spends machine first old most seed boot before opened after opens (inl cut) = absurd cut.0
spends machine first old most seed boot before opened after opens (inr half) = record {
  steps = half.run.ran.steps;
  last = half.run.last;
  step = half.run.step;
  waiting = half.run.begins.waiting;
  told = told_by machine first old [] seed boot before opened half.middle half.run.middle after half.happened half.run.ran.steps half.run.last (step_story half.run.step) (half.run.step.moment ∷ []) half.run.step.drawn _ _ _ _ _ _ opens
      half.performs half.shows half.run.ran.are half.run.ran.shows half.run.shows;
  chooses = half.run.begins.chooses;
  spent = half.run.begins.breaks.0;
}

-- the run came to where it would ask for one more event
record AsksStill {S : Type 0} (machine : Machine S) (first : List Action) (old : S) (most : ℕ) (before after : Sight) : Type 0 where
  steps : List Step
  last : RunState S
  told : ToldRun machine first old before after steps last [] []
  more : asked_by steps < most
  open_still : machine.is_over last.state ≡ false

asks_still : {S : Type 0} (machine : Machine S) (first : List Action) (old : S) (most : ℕ) (seed : List ℕ) (boot : ℕ) (before opened after : Sight) → Opens seed boot before opened [] →
    BegunUntil machine None first old most opened after halts.PortFault → AsksStill machine first old most before after
asks_still machine first old most seed boot before opened after opens (inl cut) = absurd cut.0
asks_still machine first old most seed boot before opened after opens (inr half) = record {
  steps = half.run.ran.steps;
  last = half.run.last;
  told = told_by machine first old [] seed boot before opened half.middle after after half.happened half.run.ran.steps half.run.last [] [] [] _ _ _ _ _ _ opens
      half.performs half.shows half.run.ran.are half.run.ran.shows (Shows-none after);
  more = subst (λ (n : ℕ). n < most) half.run.ran.count half.run.more;
  open_still = half.run.open_still;
}

-- where no file is named, no write fails
pub never_file : {S : Type 0} (machine : Machine S) (first : List Action) (old : S) (most : ℕ) (opened after : Sight) → BegunUntil machine None first old most opened after halts.FileFault → ⊥
never_file machine first old most opened after (inl cut) = let is = cut.1.loses.name_is in cc
never_file machine first old most opened after (inr half) = let is = half.run.begins.loses.name_is in cc

-- ---- a run that is told to come to its end

-- the run that came to its end is the one that is told
pub same_end : {S : Type 0} (machine : Machine S) (first : List Action) (old : S) (before after : Sight) (steps others : List Step) (one other : S) (left left2 : List (List ℕ)) (stop stop2 : List Happening) →
    ToldRun machine first old before after steps (rest_at one left) stop [] → TellsRunOf machine first old before after others (rest_at other left2) stop2 [] → one ≡ other
same_end machine first old before after steps others one other left left2 stop stop2 told tells =
    let same = compare machine first old [] before after steps others (rest_at one left) (rest_at other left2) stop stop2 [] [] told tells in
    let whole = both_whole machine (begun_at old same.happened after.drawing) (rest_at one left) (rest_at other left2) steps others stop stop2 same.are same.others_are
    same.story (append_cancel_right (moments_of steps) (moments_of others) [] same.moments) in
    ap (λ (s : RunState _). s.state) whole.0

-- the one was spent, the other is whole
spent_is_none : {S : Type 0} (machine : Machine S) (old : S) (drawing : Drawing) (steps others : List Step) (last other : RunState S) (step : Step) (waiting : List Event) (stop : List Happening) →
    Compared machine old drawing steps others last other (step_story step) stop (step.moment ∷ []) [] → Chooses machine last.state last.queue step waiting →
    (machine.step last.state step.event step.moment last.left).answer ≡ Err refusals.Spent → ⊥
spent_is_none machine old drawing steps others last other step waiting stop same chooses spent =
    let story : story_of steps ++ (step_story step ++ []) ≡ story_of others ++ stop = ap (λ (h : List Happening). story_of steps ++ h) (append-nil (step_story step)) ∙ same.story in
    spent_not_whole machine (begun_at old same.happened drawing) last other steps others step waiting [] stop same.are chooses spent same.others_are story
    (same.moments ∙ append-nil (moments_of others))

-- Where a run is told to come to its end, one that halted did so for a fault of the sink or for want of memory.
pub halts_excused : {S : Type 0} (machine : Machine S) (first : List Action) (old : S) (most : ℕ) (seed : List ℕ) (boot : ℕ) (before opened after : Sight) (exit : Exit) (others : List Step) (state : S)
    (left : List (List ℕ)) (stop : List Happening) → Opens seed boot before opened [] → TellsRunOf machine first old before after others (rest_at state left) stop [] →
    Closes machine (rest_at state left) (asked_by others) most stop → (halt : Halt) → exit ≡ halt_exit halt → BegunUntil machine None first old most opened after halt → IsExcuse exit
halts_excused machine first old most seed boot before opened after exit others state left stop opens tells closes halts.PortFault is run =
    let asks = asks_still machine first old most seed boot before opened after opens run in
    let same = compare machine first old [] before after asks.steps others asks.last (rest_at state left) [] stop [] [] asks.told tells in
    let whole = both_whole machine (begun_at old same.happened after.drawing) asks.last (rest_at state left) asks.steps others [] stop same.are same.others_are
    same.story (append_cancel_right (moments_of asks.steps) (moments_of others) [] same.moments) in
    absurd (asks_not_closed machine most asks.steps others state left asks.last stop (begun_at old same.happened after.drawing) same.are same.others_are same.story whole.0 whole.1 asks.more asks.open_still closes)
halts_excused machine first old most seed boot before opened after exit others state left stop opens tells closes halts.FileFault is run = absurd (never_file machine first old most opened after run)
halts_excused machine first old most seed boot before opened after exit others state left stop opens tells closes halts.SinkFault is run = subst IsExcuse (sym is) tt
halts_excused machine first old most seed boot before opened after exit others state left stop opens tells closes halts.NoMemory is run = subst IsExcuse (sym is) tt
halts_excused machine first old most seed boot before opened after exit others state left stop opens tells closes halts.Spent is run =
    let spent = spends machine first old most seed boot before opened after opens run in
    absurd (spent_is_none machine old after.drawing spent.steps others spent.last (rest_at state left) spent.step spent.waiting stop
    (compare machine first old [] before after spent.steps others spent.last (rest_at state left) (step_story spent.step) stop (spent.step.moment ∷ []) [] spent.told tells) spent.chooses spent.spent)

-- ---- a run that is told to come to a step that draws too many isn't whole

pub spent_not_told : {S : Type 0} (machine : Machine S) (first : List Action) (old : S) (before after : Sight) (steps others : List Step) (last other : RunState S) (stop : List Happening) (step : Step)
    (waiting : List Event) → ToldRun machine first old before after steps last stop [] → TellsRunOf machine first old before after others other step.asked (step.moment ∷ []) →
    Chooses machine other.state other.queue step waiting → (machine.step other.state step.event step.moment other.left).answer ≡ Err refusals.Spent → ⊥
spent_not_told machine first old before after steps others last other stop step waiting told tells chooses spent =
    let same = compare machine first old [] before after steps others last other stop step.asked [] (step.moment ∷ []) told tells in
    let quiet : Step = record step { happened = [] } in
    let story : story_of others ++ (step_story quiet ++ []) ≡ story_of steps ++ stop =
    ap (λ (h : List Happening). story_of others ++ h) (append-nil (step_story quiet) ∙ append-nil step.asked) ∙ sym same.story in
    spent_not_whole machine (begun_at old same.happened after.drawing) other last others steps quiet waiting [] stop
    same.others_are (quiet_chooses machine other.state other.queue step waiting chooses) spent same.are story (sym same.moments ∙ append-nil (moments_of steps))

-- one that halted did so for that, or for a fault of the sink or want of memory
pub spent_excused : {S : Type 0} (machine : Machine S) (first : List Action) (old : S) (most : ℕ) (seed : List ℕ) (boot : ℕ) (before opened after : Sight) (exit : Exit) (others : List Step) (other : RunState S)
    (step : Step) (waiting : List Event) → Opens seed boot before opened [] → TellsRunOf machine first old before after others other step.asked (step.moment ∷ []) →
    Chooses machine other.state other.queue step waiting → (machine.step other.state step.event step.moment other.left).answer ≡ Err refusals.Spent →
    (halt : Halt) → exit ≡ halt_exit halt → BegunUntil machine None first old most opened after halt → (exit ≡ Spent) ⊎ IsExcuse exit
spent_excused machine first old most seed boot before opened after exit others other step waiting opens tells chooses spent halts.PortFault is run =
    let asks = asks_still machine first old most seed boot before opened after opens run in
    absurd (spent_not_told machine first old before after asks.steps others asks.last other [] step waiting asks.told tells chooses spent)
spent_excused machine first old most seed boot before opened after exit others other step waiting opens tells chooses spent halts.FileFault is run = absurd (never_file machine first old most opened after run)
spent_excused machine first old most seed boot before opened after exit others other step waiting opens tells chooses spent halts.SinkFault is run = inr (subst IsExcuse (sym is) tt)
spent_excused machine first old most seed boot before opened after exit others other step waiting opens tells chooses spent halts.NoMemory is run = inr (subst IsExcuse (sym is) tt)
spent_excused machine first old most seed boot before opened after exit others other step waiting opens tells chooses spent halts.Spent is run = inl is

-- ---- a port that failed

pub gives_fewer : {S : Type 0} (machine : Machine S) (first : List Action) (old : S) (most : ℕ) (seed : List ℕ) (boot : ℕ) (before opened after : Sight) → Opens seed boot before opened [] →
    BegunUntil machine None first old most opened after halts.PortFault → GivesFewer most before after
gives_fewer machine first old most seed boot before opened after opens (inl cut) = absurd cut.0
gives_fewer machine first old most seed boot before opened after opens (inr half) =
    fewer_begun machine None first old [] seed boot most before opened after opens refl half

-- ---- what happened at the port before and after

-- what happened at the port, told around that
pub around : (seed : List ℕ) (boot : ℕ) (before opened ended after : Sight) (happened : List Happening) → Opens seed boot before opened [] → after ≡ record ended { taken = after.taken } →
    Appends opened.story ended.story happened → Appends before.story after.story happened
around seed boot before opened ended after happened opens only told =
    subst (λ (s : Option (List Happening)). Appends before.story s happened) (sym (ap (λ (s : Sight). s.story) only))
    (Appends-trans before.story opened.story ended.story [] happened opens.story told)

-- a count that rose in between
pub rose_around : (seed : List ℕ) (boot : ℕ) (before opened ended after : Sight) → Opens seed boot before opened [] → after ≡ record ended { taken = after.taken } →
    Rose opened.link_faults ended.link_faults → Rose before.link_faults after.link_faults
rose_around seed boot before opened ended after opens only rose =
    subst (λ (n : ℕ). Rose before.link_faults n) (sym (ap (λ (s : Sight). s.link_faults) only)) (subst (λ (n : ℕ). Rose n ended.link_faults) opens.link_faults rose)

-- the challenges were started before, and the outcome was said after it
pub loses_around : (seed : List ℕ) (boot : ℕ) (before opened ended after : Sight) → Opens seed boot before opened [] → after ≡ record ended { taken = after.taken } → LosesLink opened ended → LosesLink before after
loses_around seed boot before opened ended after opens only (Gone happened told gone) = Gone happened (around seed boot before opened ended after happened opens only told) gone
loses_around seed boot before opened ended after opens only (Stopped happened told stops) = Stopped happened (around seed boot before opened ended after happened opens only told) stops
loses_around seed boot before opened ended after opens only (TookAll happened told all) = TookAll happened (around seed boot before opened ended after happened opens only told) all
loses_around seed boot before opened ended after opens only (SendFailed happened told sends rose) =
    SendFailed happened (around seed boot before opened ended after happened opens only told) sends (rose_around seed boot before opened ended after opens only rose)
