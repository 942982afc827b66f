-- How a service ends, by what is told of it.
use Rattle.std.proofs.Common.{ℕ, ◌≡◌, ◌⊎◌, inl, inr, ◌<◌, List, [], ◌∷◌, ◌++◌, Option, refl, sym, ap, subst, ◌∙◌, append-nil}
use Rattle.std.proofs.lemmas.List.{append_cancel_right}
use Rattle.outside.specs.Machine.{Machine}
use Rattle.outside.specs.Telling.{Appends}
use Rattle.outside.specs.declared.action.Action.{Action}
use Rattle.outside.specs.declared.event.Happening.{Happening}
use Rattle.outside.specs.declared.event.Happening.TheVariants as happening
use Rattle.end_loop.specs.Begun.{BegunHalf}
use Rattle.end_loop.specs.Runs.{RunState, Step, moments_of, step_story, story_of}
use Rattle.end_loop.specs.Seen.{Sight}
use Rattle.end_loop.specs.Serving.{Opens, Served, ServedUntil}
use Rattle.end_loop.specs.declared.halt.Halt.TheVariants as halts
use Rattle.end_loop.proofs.RunLaws.{Shows-none}
use Rattle.nt_top.specs.declared.exit.Exit.{Exit}
use Rattle.nt_top.specs.declared.exit.Exit.TheVariants.{Done, Refused, BadWords, FileFault, BadTable, BadInput, PortFault, SinkFault, NoMemory, NoAnswer, BadPeer, Spent}
use Rattle.nt_top.specs.Serve.{GivesFewer, MayServe, ServesTo}
use Rattle.nt_top.specs.ServeExits.{Replaces, ServiceLaws, TellsEnd, TellsService, TellsSpent}
use Rattle.nt_top.specs.Told.{begun_at, rest_at}
use Rattle.nt_top.proofs.PairLaws.{both_whole, spent_not_whole}
use Rattle.nt_top.proofs.ToldLaws.{Told, asks_not_closed, compare, fewer_begun, quiet_chooses, told_by, told_items}

-- ---- what a run shows, from the listening place on

abbrev ToldService : {S : Type 0} → Machine S → List Action → S → List ℕ → Sight → Sight → List Step → RunState S → List Happening → List ℕ → Type 0
ToldService machine first old address before after steps last later moments_later = Told machine first old (happening.Listened address ∷ []) before after steps last later moments_later

-- a run to its end
told_whole : {S : Type 0} (machine : Machine S) (file : Option (List ℕ)) (first : List Action) (old new : S) (address seed : List ℕ) (boot most : ℕ) (before after : Sight)
    (served : Served machine file first old new address seed boot most before after) →
    ToldService machine first old address before after served.run.run.ran.steps (rest_at new served.run.run.left) served.run.run.stop []
told_whole machine file first old new address seed boot most before after served =
    let run = served.run.run in
    told_by machine first old (happening.Listened address ∷ []) seed boot before served.opened served.run.middle run.middle after served.run.happened run.ran.steps (rest_at new run.left) run.stop [] [] _ _ [] _ _ []
    served.opens served.run.performs served.run.shows run.ran.are run.ran.shows run.shows

-- a run that would ask for one more event
told_asking : {S : Type 0} (machine : Machine S) (file : Option (List ℕ)) (first : List Action) (old : S) (address seed : List ℕ) (boot most : ℕ) (before opened after : Sight) →
    Opens seed boot before opened (happening.Listened address ∷ []) → (half : BegunHalf machine file first old most opened after halts.PortFault) →
    ToldService machine first old address before after half.run.ran.steps half.run.last [] []
told_asking machine file first old address seed boot most before opened after opens half =
    told_by machine first old (happening.Listened address ∷ []) seed boot before opened half.middle after after half.happened half.run.ran.steps half.run.last [] [] [] _ _ _ _ _ _
    opens half.performs half.shows half.run.ran.are half.run.ran.shows (Shows-none after)

-- a run into a step that draws more than were left
told_spent : {S : Type 0} (machine : Machine S) (file : Option (List ℕ)) (first : List Action) (old : S) (address seed : List ℕ) (boot most : ℕ) (before opened after : Sight) →
    Opens seed boot before opened (happening.Listened address ∷ []) → (half : BegunHalf machine file first old most opened after halts.Spent) →
    ToldService machine first old address before after half.run.ran.steps half.run.last (step_story half.run.step) (half.run.step.moment ∷ [])
told_spent machine file first old address seed boot most before opened after opens half =
    told_by machine first old (happening.Listened address ∷ []) seed boot before opened half.middle half.run.middle after half.happened half.run.ran.steps half.run.last
    (step_story half.run.step) (half.run.step.moment ∷ []) half.run.step.drawn _ _ _ _ _ _
    opens half.performs half.shows half.run.ran.are half.run.ran.shows half.run.shows

-- nothing happened at the port, though it is told that it listened
nothing_told : {S : Type 0} (machine : Machine S) (first : List Action) (old : S) (address : List ℕ) (before after : Sight) (others : List Step) (other : RunState S) (later : List Happening) (moments : List ℕ) →
    Appends before.story after.story [] → TellsService machine first old address before after others other later moments → ⊥
nothing_told machine first old address before after others other later moments none two =
    let told = two.happened ++ (story_of others ++ later) in
    let wrong : [] ≡ happening.Listened address ∷ told = told_items before.story after.story two.story [] (happening.Listened address ∷ told) two.story_before two.story_after none in cc

-- ---- `Done`

port_not_end : {S : Type 0} (machine : Machine S) (file : Option (List ℕ)) (first : List Action) (old : S) (address seed : List ℕ) (boot most : ℕ) (before after : Sight) →
    ServedUntil machine file first old address seed boot most before after halts.PortFault → TellsEnd machine first old address most before after → ⊥
port_not_end machine file first old address seed boot most before after (inl failed) tells =
    nothing_told machine first old address before after tells.steps (rest_at tells.state tells.left) tells.stop [] failed.1.story tells.tells
port_not_end machine file first old address seed boot most before after (inr half) tells =
    elim half.run [
      | inl cut ↦ absurd cut.0
      | inr begun ↦
          let ran = begun.run in
          let told = told_asking machine file first old address seed boot most before half.opened after half.opens begun in
          let same = compare machine first old (happening.Listened address ∷ []) before after ran.ran.steps tells.steps ran.last (rest_at tells.state tells.left) [] tells.stop [] [] told tells.tells in
          let start = begun_at old same.happened after.drawing in
          let whole = both_whole machine start ran.last (rest_at tells.state tells.left) ran.ran.steps tells.steps [] tells.stop same.are same.others_are
          same.story (append_cancel_right (moments_of ran.ran.steps) (moments_of tells.steps) [] same.moments) in
          let more = subst (λ (n : ℕ). n < most) ran.ran.count ran.more in
          asks_not_closed machine most ran.ran.steps tells.steps tells.state tells.left ran.last tells.stop start same.are same.others_are same.story whole.0 whole.1 more ran.open_still tells.closes
    ]

spent_not_end : {S : Type 0} (machine : Machine S) (file : Option (List ℕ)) (first : List Action) (old : S) (address seed : List ℕ) (boot most : ℕ) (before after : Sight) →
    ServedUntil machine file first old address seed boot most before after halts.Spent → TellsEnd machine first old address most before after → ⊥
spent_not_end machine file first old address seed boot most before after (inl failed) tells = let is = failed.0 in cc
spent_not_end machine file first old address seed boot most before after (inr half) tells =
    elim half.run [
      | inl cut ↦ absurd cut.0
      | inr begun ↦
          let ran = begun.run in
          let told = told_spent machine file first old address seed boot most before half.opened after half.opens begun in
          let same = compare machine first old (happening.Listened address ∷ []) before after ran.ran.steps tells.steps ran.last (rest_at tells.state tells.left) (step_story ran.step) tells.stop (ran.step.moment ∷ []) [] told tells.tells in
          let story : story_of ran.ran.steps ++ (step_story ran.step ++ []) ≡ story_of tells.steps ++ tells.stop =
          ap (λ (h : List Happening). story_of ran.ran.steps ++ h) (append-nil (step_story ran.step)) ∙ same.story in
          spent_not_whole machine (begun_at old same.happened after.drawing) ran.last (rest_at tells.state tells.left) ran.ran.steps tells.steps ran.step ran.begins.waiting [] tells.stop
          same.are ran.begins.chooses ran.begins.breaks.0 same.others_are story (same.moments ∙ append-nil (moments_of tells.steps))
    ]

-- a fault of the files comes only where one is named
file_named : {S : Type 0} (machine : Machine S) (file : Option (List ℕ)) (first : List Action) (old : S) (address seed : List ℕ) (boot most : ℕ) (before after : Sight) →
    ServedUntil machine file first old address seed boot most before after halts.FileFault → Replaces FileFault file
file_named machine file first old address seed boot most before after (inl failed) = absurd (let is = failed.0 in cc)
file_named machine file first old address seed boot most before after (inr half) =
    elim half.run [
      | inl cut ↦ (cut.1.loses.name, cut.1.loses.name_is)
      | inr begun ↦ (begun.run.begins.loses.name, begun.run.begins.loses.name_is)
    ]

done_to : {S : Type 0} (machine : Machine S) (file : Option (List ℕ)) (first : List Action) (old : S) (address seed : List ℕ) (boot most : ℕ) (before after : Sight) (exit : Exit) →
    ServesTo machine file first old address seed boot most before after exit → TellsEnd machine first old address most before after → (exit ≡ Done) ⊎ Replaces exit file
done_to machine file first old address seed boot most before after Done serves tells = inl refl
done_to machine file first old address seed boot most before after PortFault serves tells = absurd (port_not_end machine file first old address seed boot most before after serves tells)
done_to machine file first old address seed boot most before after SinkFault serves tells = inr tt
done_to machine file first old address seed boot most before after NoMemory serves tells = inr tt
done_to machine file first old address seed boot most before after Spent serves tells = absurd (spent_not_end machine file first old address seed boot most before after serves tells)
done_to machine file first old address seed boot most before after (Refused cause) serves tells = absurd serves
done_to machine file first old address seed boot most before after (BadWords number) serves tells = absurd serves
done_to machine file first old address seed boot most before after FileFault serves tells = inr (file_named machine file first old address seed boot most before after serves)
done_to machine file first old address seed boot most before after (BadTable cause) serves tells = absurd serves
done_to machine file first old address seed boot most before after (BadInput number) serves tells = absurd serves
done_to machine file first old address seed boot most before after (NoAnswer cause) serves tells = absurd serves
done_to machine file first old address seed boot most before after (BadPeer fault) serves tells = absurd serves

done_law : {S : Type 0} (machine : Machine S) (file : Option (List ℕ)) (first : List Action) (old : S) (address seed : List ℕ) (boot most : ℕ) (before after : Sight) (exit : Exit) →
    MayServe machine file first old address seed boot most before after exit → TellsEnd machine first old address most before after → (exit ≡ Done) ⊎ Replaces exit file
done_law machine file first old address seed boot most before after exit (inl left) tells = inr (subst (λ (e : Exit). Replaces e file) (sym left.0) tt)
done_law machine file first old address seed boot most before after exit (inr serves) tells = done_to machine file first old address seed boot most before after exit serves tells

-- ---- `Spent`

-- a run that is told to come to a step that draws too many isn't whole
spent_not_told : {S : Type 0} (machine : Machine S) (first : List Action) (old : S) (address : List ℕ) (before after : Sight) (steps : List Step) (last : RunState S) (stop : List Happening) →
    ToldService machine first old address before after steps last stop [] → TellsSpent machine first old address before after → ⊥
spent_not_told machine first old address before after steps last stop told comes =
    let same = compare machine first old (happening.Listened address ∷ []) before after steps comes.steps last comes.last stop comes.step.asked [] (comes.step.moment ∷ []) told comes.tells in
    let quiet : Step = record comes.step { happened = [] } in
    let story : story_of comes.steps ++ (step_story quiet ++ []) ≡ story_of steps ++ stop =
    ap (λ (h : List Happening). story_of comes.steps ++ h) (append-nil (step_story quiet) ∙ append-nil comes.step.asked) ∙ sym same.story in
    spent_not_whole machine (begun_at old same.happened after.drawing) comes.last last comes.steps steps quiet comes.waiting [] stop
    same.others_are (quiet_chooses machine comes.last.state comes.last.queue comes.step comes.waiting comes.chooses) comes.spent same.are story (sym same.moments ∙ append-nil (moments_of steps))

port_not_spent : {S : Type 0} (machine : Machine S) (file : Option (List ℕ)) (first : List Action) (old : S) (address seed : List ℕ) (boot most : ℕ) (before after : Sight) →
    ServedUntil machine file first old address seed boot most before after halts.PortFault → TellsSpent machine first old address before after → ⊥
port_not_spent machine file first old address seed boot most before after (inl failed) tells =
    nothing_told machine first old address before after tells.steps tells.last tells.step.asked (tells.step.moment ∷ []) failed.1.story tells.tells
port_not_spent machine file first old address seed boot most before after (inr half) tells =
    elim half.run [
      | inl cut ↦ absurd cut.0
      | inr begun ↦ spent_not_told machine first old address before after begun.run.ran.steps begun.run.last []
          (told_asking machine file first old address seed boot most before half.opened after half.opens begun) tells
    ]

spent_to : {S : Type 0} (machine : Machine S) (file : Option (List ℕ)) (first : List Action) (old : S) (address seed : List ℕ) (boot most : ℕ) (before after : Sight) (exit : Exit) →
    ServesTo machine file first old address seed boot most before after exit → TellsSpent machine first old address before after → (exit ≡ Spent) ⊎ Replaces exit file
spent_to machine file first old address seed boot most before after Done serves tells =
    absurd (spent_not_told machine first old address before after serves.1.run.run.ran.steps (rest_at serves.0 serves.1.run.run.left) serves.1.run.run.stop
    (told_whole machine file first old serves.0 address seed boot most before after serves.1) tells)
spent_to machine file first old address seed boot most before after PortFault serves tells = absurd (port_not_spent machine file first old address seed boot most before after serves tells)
spent_to machine file first old address seed boot most before after SinkFault serves tells = inr tt
spent_to machine file first old address seed boot most before after NoMemory serves tells = inr tt
spent_to machine file first old address seed boot most before after Spent serves tells = inl refl
spent_to machine file first old address seed boot most before after (Refused cause) serves tells = absurd serves
spent_to machine file first old address seed boot most before after (BadWords number) serves tells = absurd serves
spent_to machine file first old address seed boot most before after FileFault serves tells = inr (file_named machine file first old address seed boot most before after serves)
spent_to machine file first old address seed boot most before after (BadTable cause) serves tells = absurd serves
spent_to machine file first old address seed boot most before after (BadInput number) serves tells = absurd serves
spent_to machine file first old address seed boot most before after (NoAnswer cause) serves tells = absurd serves
spent_to machine file first old address seed boot most before after (BadPeer fault) serves tells = absurd serves

spent_law : {S : Type 0} (machine : Machine S) (file : Option (List ℕ)) (first : List Action) (old : S) (address seed : List ℕ) (boot most : ℕ) (before after : Sight) (exit : Exit) →
    MayServe machine file first old address seed boot most before after exit → TellsSpent machine first old address before after → (exit ≡ Spent) ⊎ Replaces exit file
spent_law machine file first old address seed boot most before after exit (inl left) tells = inr (subst (λ (e : Exit). Replaces e file) (sym left.0) tt)
spent_law machine file first old address seed boot most before after exit (inr serves) tells = spent_to machine file first old address seed boot most before after exit serves tells

-- ---- `PortFault`

gives_fewer : {S : Type 0} (machine : Machine S) (file : Option (List ℕ)) (first : List Action) (old : S) (address seed : List ℕ) (boot most : ℕ) (before after : Sight) →
    ServedUntil machine file first old address seed boot most before after halts.PortFault → GivesFewer most before after
gives_fewer machine file first old address seed boot most before after (inl failed) = record { happened = []; told = failed.1.story; no_stop = refl; fewer = inl refl }
gives_fewer machine file first old address seed boot most before after (inr half) =
    elim half.run [
      | inl cut ↦ absurd cut.0
      | inr begun ↦ fewer_begun machine file first old (happening.Listened address ∷ []) seed boot most before half.opened after half.opens refl begun
    ]

port_law : {S : Type 0} (machine : Machine S) (file : Option (List ℕ)) (first : List Action) (old : S) (address seed : List ℕ) (boot most : ℕ) (before after : Sight) (exit : Exit) →
    MayServe machine file first old address seed boot most before after exit → exit ≡ PortFault → GivesFewer most before after
port_law machine file first old address seed boot most before after exit (inl left) is = absurd (let wrong : NoMemory ≡ PortFault = sym left.0 ∙ is in cc)
port_law machine file first old address seed boot most before after exit (inr serves) is =
    gives_fewer machine file first old address seed boot most before after (subst (λ (e : Exit). ServesTo machine file first old address seed boot most before after e) is serves)

pub service_laws : {S : Type 0} (machine : Machine S) → ServiceLaws machine
service_laws machine = record { done = done_law machine; spent = spent_law machine; port = port_law machine }
