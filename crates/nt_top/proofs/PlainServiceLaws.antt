-- The service of a controller that can seal, of which nobody asks that, is one of a controller that can't. It serves
-- `services_that_nobody_seals_stay_plain`.
use Rattle.std.proofs.Common.{ℕ, ◌≡◌, ◌⊎◌, inl, inr, Bool, true, false, List, [], ◌∷◌, ◌++◌, Option, refl, sym, ap, subst, ◌∙◌}
use Rattle.std.proofs.lemmas.Grind.{flat_map-append}
use Rattle.std.proofs.lemmas.List.{append_assoc, map-append}
use Rattle.account_table.specs.AccountTable.{AccountTable}
use Rattle.outside.specs.Machine.{Stepped}
use Rattle.outside.specs.Telling.{Appends}
use Rattle.outside.specs.declared.action.Action.{Action}
use Rattle.outside.specs.declared.event.Event.{Event}
use Rattle.outside.specs.declared.event.Happening.{Happening}
use Rattle.outside.specs.declared.event.Happening.TheVariants as happening
use Rattle.end_loop.specs.Acts.{Performs, made_events}
use Rattle.end_loop.specs.Begun.{BegunHalf, BegunShort, BegunUntil}
use Rattle.end_loop.specs.Runs.{AreSteps, Begins, Breaks, Chooses, Halts, RanInto, RanToAsk, RunState, Step, drawn_of, moments_of, run_state_at, step_story, story_of, actions_of}
use Rattle.end_loop.specs.Seen.{Shows, Sight}
use Rattle.end_loop.specs.Serving.{Opens, Served, ServedUntil}
use Rattle.end_loop.specs.Writing.{Write}
use Rattle.end_loop.specs.declared.halt.Halt.{Halt}
use Rattle.end_loop.specs.declared.halt.Halt.TheVariants as halts
use Rattle.end_loop.proofs.RunLaws.{Shows-none, Shows-trans}
use Rattle.domain_controller.specs.SealStep.{first_seal_state, seal_machine, seal_step_of, without_sealing}
use Rattle.domain_controller.specs.State.{State}
use Rattle.domain_controller.specs.TrustStep.{first_trust_state, trust_machine, trust_step_of}
use Rattle.nt_top.specs.declared.exit.Exit.{Exit}
use Rattle.nt_top.specs.declared.exit.Exit.TheVariants.{Done, Refused, BadWords, FileFault, BadTable, BadInput, PortFault, SinkFault, NoMemory, NoAnswer, BadPeer, Spent}
use Rattle.nt_top.specs.Serve.{MayServe, ServesTo}
use Rattle.nt_top.specs.Told.{begun_at}
use Rattle.nt_top.specs.Unsealed.{ComesToAsk, IsAskedToSeal, SealsNothing, ServicesStayPlain, asks_in, plain_run, plain_step}
use Rattle.nt_top.proofs.PlainRunLaws.{chooses_plain, walk}
use Rattle.nt_top.proofs.ToldLaws.{left_is, told_by}
use Rattle.nt_top.proofs.UnsealedLaws.{step_plain, steps_stay_plain}

-- how a step of the machines breaks goes by its answer
breaks_plain : (halt : Halt) (stepped : Stepped State) (undrawn : List (List ℕ)) → Breaks halt stepped undrawn → Breaks halt (plain_step stepped) undrawn
breaks_plain halts.PortFault stepped undrawn breaks = breaks
breaks_plain halts.FileFault stepped undrawn breaks = breaks
breaks_plain halts.SinkFault stepped undrawn breaks = breaks
breaks_plain halts.NoMemory stepped undrawn breaks = breaks
breaks_plain halts.Spent stepped undrawn breaks = breaks

begins_plain : (file : Option (List ℕ)) (last : RunState State) (step : Step) (part : List ℕ) (lost : List Write) (halt : Halt) → SealsNothing last.state.trusting.sealing →
    asks_in last.state step.event ≡ false → Begins seal_machine file last step part lost halt → Begins trust_machine file (plain_run last) step part lost halt
begins_plain file last step part lost halt none asks begins =
    let same = (step_plain last.state step.event step.moment last.left none asks).0 in
    record {
      waiting = begins.waiting;
      chooses = chooses_plain last.state last.queue step begins.waiting begins.chooses;
      undrawn = begins.undrawn;
      draws = begins.draws ∙ ap (λ (stepped : Stepped State). stepped.drawn) same;
      rest = begins.rest;
      all = begins.all ∙ ap (λ (stepped : Stepped State). actions_of stepped) same;
      performs = begins.performs;
      more = begins.more;
      front = begins.front;
      loses = begins.loses;
      breaks = subst (λ (stepped : Stepped State). Breaks halt stepped begins.undrawn) same
          (breaks_plain halt (seal_step_of last.state step.event step.moment last.left) begins.undrawn begins.breaks);
    }

-- ---- what is told of a run that comes to ask

story_by : (steps front : List Step) (step : Step) (later : List Step) (after : List Happening) → steps ≡ front ++ step ∷ later →
    story_of steps ++ after ≡ story_of front ++ (step.asked ++ (step.happened ++ (story_of later ++ after)))
story_by steps front step later after parts =
    ap (λ (all : List Step). story_of all ++ after) parts
    ∙ ap (λ (all : List Happening). all ++ after) (flat_map-append step_story front (step ∷ later))
    ∙ append_assoc (story_of front) (step_story step ++ story_of later) after
    ∙ ap (λ (all : List Happening). story_of front ++ all)
    (append_assoc (step_story step) (story_of later) after ∙ append_assoc step.asked step.happened (story_of later ++ after))

moments_by : (steps front : List Step) (step : Step) (later : List Step) (after : List ℕ) → steps ≡ front ++ step ∷ later →
    moments_of steps ++ after ≡ moments_of front ++ step.moment ∷ (moments_of later ++ after)
moments_by steps front step later after parts =
    ap (λ (all : List Step). moments_of all ++ after) parts
    ∙ ap (λ (all : List ℕ). all ++ after) (map-append (λ (one : Step). one.moment) front (step ∷ later))
    ∙ append_assoc (moments_of front) (step.moment ∷ moments_of later) after

module _ (table : AccountTable) (name : List ℕ) (file : Option (List ℕ)) (address seed : List ℕ) (boot most : ℕ) (before after : Sight) where
  abbrev can_seal : State
  can_seal = first_seal_state table name

  abbrev cannot_seal : State
  cannot_seal = first_trust_state table name

  abbrev Asked : Type 0
  Asked = IsAskedToSeal table name address before after

  abbrev begun : List Happening → Sight → RunState State
  begun happened middle = run_state_at can_seal (made_events happened) middle

  -- a step that hears an opening which asks to seal, behind steps of one that can't seal, in what is told
  asked_at : (opened middle ran : Sight) (happened : List Happening) (steps : List Step) (last : RunState State) (later : List Happening) (moments_later : List ℕ) (drawn_later : List (List ℕ))
      (put put2 put3 : List ℕ) (writes writes2 writes3 : List Write) →
      Opens seed boot before opened (happening.Listened address ∷ []) → Performs [] [] happened → Shows opened middle happened [] [] put writes → AreSteps seal_machine (begun happened middle) steps last →
      Shows middle ran (story_of steps) (moments_of steps) (drawn_of steps) put2 writes2 → Shows ran after later moments_later drawn_later put3 writes3 →
      (front : List Step) (at : RunState State) (step : Step) (waiting : List Event) → AreSteps trust_machine (plain_run (begun happened middle)) front at →
      Chooses trust_machine at.state at.queue step waiting → asks_in at.state step.event ≡ true → (behind : List Happening) (moments_behind : List ℕ) →
      story_of steps ++ later ≡ story_of front ++ (step.asked ++ behind) → moments_of steps ++ moments_later ≡ moments_of front ++ step.moment ∷ moments_behind → Asked
  asked_at opened middle ran happened steps last later moments_later drawn_later put put2 put3 writes writes2 writes3 opens performs shows are run more front at step waiting goes chooses asks behind moments_behind story moments =
      let told = told_by seal_machine [] can_seal (happening.Listened address ∷ []) seed boot before opened middle ran after happened steps last later moments_later drawn_later put put2 put3 writes writes2 writes3
      opens performs shows are run more in
      let rest = Shows-trans middle ran after (story_of steps) later (moments_of steps) moments_later (drawn_of steps) drawn_later put2 put3 writes2 writes3 run more in
      let all = Shows-trans opened middle after happened (story_of steps ++ later) [] (moments_of steps ++ moments_later) [] (drawn_of steps ++ drawn_later) put (put2 ++ put3) writes (writes2 ++ writes3) shows rest in
      let left = left_is opened.drawing middle.drawing after.drawing (drawn_of steps ++ drawn_later) opens.none_drawn shows.drawing all.drawing in
      let start : plain_run (begun happened middle) ≡ begun_at cannot_seal [] after.drawing =
      ap (λ (l : List (List ℕ)). record { state = cannot_seal; queue = made_events happened; left = l }) left
      ∙ ap (λ (h : List Happening). begun_at cannot_seal h after.drawing) performs in
      record {
        front = front;
        at = at;
        step = step;
        are = subst (λ (s : RunState State). AreSteps trust_machine s front at) start goes;
        waiting = waiting;
        chooses = chooses;
        asks = asks;
        later = behind;
        moments_later = moments_behind;
        story = subst (λ (h : List Happening). Appends before.story after.story (happening.Listened address ∷ h))
            (ap (λ (h : List Happening). h ++ (story_of steps ++ later)) told.performs ∙ story) told.story;
        moments = subst (λ (m : List ℕ). Appends before.moments after.moments m) moments told.moments;
      }

  asked_in : (opened middle ran : Sight) (happened : List Happening) (steps : List Step) (last : RunState State) (later : List Happening) (moments_later : List ℕ) (drawn_later : List (List ℕ))
      (put put2 put3 : List ℕ) (writes writes2 writes3 : List Write) →
      Opens seed boot before opened (happening.Listened address ∷ []) → Performs [] [] happened → Shows opened middle happened [] [] put writes → AreSteps seal_machine (begun happened middle) steps last →
      Shows middle ran (story_of steps) (moments_of steps) (drawn_of steps) put2 writes2 → Shows ran after later moments_later drawn_later put3 writes3 →
      ComesToAsk (plain_run (begun happened middle)) steps → Asked
  asked_in opened middle ran happened steps last later moments_later drawn_later put put2 put3 writes writes2 writes3 opens performs shows are run more comes =
      asked_at opened middle ran happened steps last later moments_later drawn_later put put2 put3 writes writes2 writes3 opens performs shows are run more
      comes.front comes.at comes.step comes.waiting comes.are comes.chooses comes.asks
      (comes.step.happened ++ (story_of comes.later ++ later)) (moments_of comes.later ++ moments_later)
      (story_by steps comes.front comes.step comes.later later comes.parts) (moments_by steps comes.front comes.step comes.later moments_later comes.parts)

  abbrev start_none : (happened : List Happening) (middle : Sight) → SealsNothing (begun happened middle).state.trusting.sealing
  start_none happened middle = steps_stay_plain.first table name

  whole : (new : State) → Served seal_machine file [] can_seal new address seed boot most before after →
      Served trust_machine file [] cannot_seal (without_sealing new) address seed boot most before after ⊎ Asked
  whole new served =
      let begins = served.run in
      let run = begins.run in
      elim (walk (begun begins.happened begins.middle) (record { state = new; queue = []; left = run.left }) run.ran.steps (start_none begins.happened begins.middle) run.ran.are) [
        | inl plain ↦ inl (record {
          opened = served.opened;
          opens = served.opens;
          run = record {
            happened = begins.happened;
            performs = begins.performs;
            middle = begins.middle;
            shows = begins.shows;
            run = record {
              left = run.left;
              asked = run.asked;
              middle = run.middle;
              ran = record { steps = run.ran.steps; are = plain.0; count = run.ran.count; shows = run.ran.shows };
              within = run.within;
              stop = run.stop;
              closes = run.closes;
              shows = run.shows;
            };
          };
        })
        | inr comes ↦ inr (asked_in served.opened begins.middle run.middle begins.happened run.ran.steps (record { state = new; queue = []; left = run.left }) run.stop [] [] _ _ _ _ _ _
            served.opens begins.performs begins.shows run.ran.are run.ran.shows run.shows comes)
      ]

  -- ---- runs that halt

  module _ (opened middle : Sight) (happened : List Happening) (opens : Opens seed boot before opened (happening.Listened address ∷ [])) (performs : Performs [] [] happened)
      (shows : Shows opened middle happened [] [] [] []) where
    to_ask : RanToAsk seal_machine file (begun happened middle) most middle after → RanToAsk trust_machine file (plain_run (begun happened middle)) most middle after ⊎ Asked
    to_ask run = elim (walk (begun happened middle) run.last run.ran.steps (start_none happened middle) run.ran.are) [
      | inl plain ↦ inl (record {
        last = plain_run run.last;
        asked = run.asked;
        ran = record { steps = run.ran.steps; are = plain.0; count = run.ran.count; shows = run.ran.shows };
        idle = run.idle;
        more = run.more;
        open_still = run.open_still;
      })
      | inr comes ↦ inr (asked_in opened middle after happened run.ran.steps run.last [] [] [] _ _ _ _ _ _ opens performs shows run.ran.are run.ran.shows (Shows-none after) comes)
    ]

    abbrev Into : Halt → Type 0
    Into halt = RanInto trust_machine file (plain_run (begun happened middle)) most middle after halt

    asked_now : (halt : Halt) (run : RanInto seal_machine file (begun happened middle) most middle after halt) → asks_in run.last.state run.step.event ≡ true →
        AreSteps trust_machine (plain_run (begun happened middle)) run.ran.steps (plain_run run.last) → Asked
    asked_now halt run asks are =
        asked_at opened middle run.middle happened run.ran.steps run.last (step_story run.step) (run.step.moment ∷ []) run.step.drawn _ _ _ _ _ _ opens performs shows run.ran.are run.ran.shows run.shows
        run.ran.steps (plain_run run.last) run.step run.begins.waiting are (chooses_plain run.last.state run.last.queue run.step run.begins.waiting run.begins.chooses) asks run.step.happened [] refl refl

    into_by : (asks : Bool) (halt : Halt) (run : RanInto seal_machine file (begun happened middle) most middle after halt) → asks_in run.last.state run.step.event ≡ asks →
        AreSteps trust_machine (plain_run (begun happened middle)) run.ran.steps (plain_run run.last) → SealsNothing run.last.state.trusting.sealing → Into halt ⊎ Asked
    into_by true halt run asks are none = inr (asked_now halt run asks are)
    into_by false halt run asks are none = inl (record {
      last = plain_run run.last;
      asked = run.asked;
      middle = run.middle;
      ran = record { steps = run.ran.steps; are = are; count = run.ran.count; shows = run.ran.shows };
      step = run.step;
      part = run.part;
      lost = run.lost;
      begins = begins_plain file run.last run.step run.part run.lost halt none asks run.begins;
      within = run.within;
      shows = run.shows;
    })

    into : (halt : Halt) → RanInto seal_machine file (begun happened middle) most middle after halt → Into halt ⊎ Asked
    into halt run = elim (walk (begun happened middle) run.last run.ran.steps (start_none happened middle) run.ran.are) [
      | inl plain ↦ into_by (asks_in run.last.state run.step.event) halt run refl plain.0 plain.1
      | inr comes ↦ inr (asked_in opened middle run.middle happened run.ran.steps run.last (step_story run.step) (run.step.moment ∷ []) run.step.drawn _ _ _ _ _ _ opens performs shows run.ran.are run.ran.shows run.shows comes)
    ]

    abbrev Halted : Halt → Type 0
    Halted halt = Halts trust_machine file (plain_run (begun happened middle)) most middle after halt

    halts_plain : (halt : Halt) → Halts seal_machine file (begun happened middle) most middle after halt → Halted halt ⊎ Asked
    halts_plain halts.PortFault run = to_ask run
    halts_plain halts.FileFault run = into halts.FileFault run
    halts_plain halts.SinkFault run = into halts.SinkFault run
    halts_plain halts.NoMemory (inl run) = elim (to_ask run) [ inl plain ↦ inl (inl plain) | inr asked ↦ inr asked ]
    halts_plain halts.NoMemory (inr run) = elim (into halts.NoMemory run) [ inl plain ↦ inl (inr plain) | inr asked ↦ inr asked ]
    halts_plain halts.Spent run = into halts.Spent run

  half : (opened : Sight) (halt : Halt) → Opens seed boot before opened (happening.Listened address ∷ []) → BegunHalf seal_machine file [] can_seal most opened after halt →
      BegunHalf trust_machine file [] cannot_seal most opened after halt ⊎ Asked
  half opened halt opens begins = elim (halts_plain opened begins.middle begins.happened opens begins.performs begins.shows halt begins.run) [
    | inl plain ↦ inl (record { happened = begins.happened; performs = begins.performs; middle = begins.middle; shows = begins.shows; run = plain })
    | inr asked ↦ inr asked
  ]

  short_plain : (opened : Sight) (halt : Halt) → BegunShort seal_machine file [] opened after halt → BegunShort trust_machine file [] opened after halt
  short_plain opened halt short = record {
    done = short.done;
    rest = short.rest;
    all = short.all;
    happened = short.happened;
    performs = short.performs;
    part = short.part;
    more = short.more;
    front = short.front;
    lost = short.lost;
    loses = short.loses;
    shows = short.shows;
  }

  begun_plain : (opened : Sight) (halt : Halt) → Opens seed boot before opened (happening.Listened address ∷ []) → BegunUntil seal_machine file [] can_seal most opened after halt →
      BegunUntil trust_machine file [] cannot_seal most opened after halt ⊎ Asked
  begun_plain opened halt opens (inl short) = inl (inl (short.0, short_plain opened halt short.1))
  begun_plain opened halt opens (inr run) = elim (half opened halt opens run) [ inl plain ↦ inl (inr plain) | inr asked ↦ inr asked ]

  until : (halt : Halt) → ServedUntil seal_machine file [] can_seal address seed boot most before after halt →
      ServedUntil trust_machine file [] cannot_seal address seed boot most before after halt ⊎ Asked
  until halt (inl failed) = inl (inl failed)
  until halt (inr served) = elim (begun_plain served.opened halt served.opens served.run) [
    | inl plain ↦ inl (inr (record { opened = served.opened; opens = served.opens; run = plain }))
    | inr asked ↦ inr asked
  ]

  -- ---- by the exit

  abbrev Plain : Exit → Type 0
  Plain exit = ServesTo trust_machine file [] cannot_seal address seed boot most before after exit

  serves_plain : (exit : Exit) → ServesTo seal_machine file [] can_seal address seed boot most before after exit → Plain exit ⊎ Asked
  serves_plain Done serves = elim (whole serves.0 serves.1) [ inl plain ↦ inl (without_sealing serves.0, plain) | inr asked ↦ inr asked ]
  serves_plain PortFault serves = until halts.PortFault serves
  serves_plain FileFault serves = until halts.FileFault serves
  serves_plain SinkFault serves = until halts.SinkFault serves
  serves_plain NoMemory serves = until halts.NoMemory serves
  serves_plain Spent serves = until halts.Spent serves
  serves_plain (Refused cause) serves = absurd serves
  serves_plain (BadWords number) serves = absurd serves
  serves_plain (BadTable cause) serves = absurd serves
  serves_plain (BadInput number) serves = absurd serves
  serves_plain (NoAnswer cause) serves = absurd serves
  serves_plain (BadPeer fault) serves = absurd serves

  may_plain : (exit : Exit) → MayServe seal_machine file [] can_seal address seed boot most before after exit →
      MayServe trust_machine file [] cannot_seal address seed boot most before after exit ⊎ Asked
  may_plain exit (inl left) = inl (inl left)
  may_plain exit (inr serves) = elim (serves_plain exit serves) [ inl plain ↦ inl (inr plain) | inr asked ↦ inr asked ]

pub services_stay_plain : ServicesStayPlain
services_stay_plain = record {
  service = λ table name file address seed boot most before after exit serves. may_plain table name file address seed boot most before after exit serves;
}
