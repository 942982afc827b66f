-- How a station ends. It serves `what_is_told_decides_how_a_station_ends`.
use Rattle.std.proofs.Common.{ℕ, ◌≡◌, ◌⊎◌, inl, inr, true, false, List, [], ◌++◌, Option, Some, None, refl, sym, ap, subst, ◌∙◌, append-nil, append_assoc, is_some}
use Rattle.std.specs.List.{flat_map}
use Rattle.outside.specs.Telling.{Appends, AppendsFront}
use Rattle.outside.specs.declared.action.Action.{Action}
use Rattle.outside.specs.declared.action.DropCause.{DropCause}
use Rattle.outside.specs.declared.action.Outcome.{Outcome}
use Rattle.outside.specs.declared.event.Event.{Event}
use Rattle.outside.specs.declared.event.Event.TheVariants as event
use Rattle.outside.proofs.TellingLaws.{Appends-trans, Appends-nothing, AppendsFront-append, AppendsFront-part}
use Rattle.end_loop.specs.Acts.{next_line, puts}
use Rattle.end_loop.specs.Begun.{Begun, BegunHalf, BegunShort, BegunUntil}
use Rattle.end_loop.specs.Runs.{AreSteps, RanInto, RunState, Step, actions_in, lines_of, taken_actions}
use Rattle.end_loop.specs.Seen.{Sight}
use Rattle.end_loop.specs.Serving.{Opens}
use Rattle.end_loop.specs.declared.halt.Halt.{Halt}
use Rattle.end_loop.specs.declared.halt.Halt.TheVariants as halts
use Rattle.interactive_station.specs.declared.outcome.NoStation.TheVariants as no_station
use Rattle.interactive_station.specs.declared.outcome.StationOutcome.{StationOutcome}
use Rattle.interactive_station.specs.declared.outcome.StationOutcome.TheVariants as outcomes
use Rattle.interactive_station.specs.declared.plan.StationPlan.{StationPlan}
use Rattle.interactive_station.specs.Lines.{in_line}
use Rattle.interactive_station.specs.Losses.{LinkGoes, is_dial_failed, is_link_closed}
use Rattle.interactive_station.specs.Machine.{station_machine, want_by}
use Rattle.interactive_station.specs.Moves.{told_in}
use Rattle.interactive_station.specs.State.{StationState}
use Rattle.interactive_station.specs.declared.state.StationRunning.{StationRunning}
use Rattle.interactive_station.proofs.LossLaws.{loses_by_events}
use Rattle.logon_client.specs.declared.outcome.NoAnswerCause.TheVariants.{DialFailed, LinkClosed}
use Rattle.logon_client.specs.declared.outcome.PeerFault.TheVariants as peer_fault
use Rattle.logon_client.specs.declared.outcome.RefusedCause.TheVariants as refused_cause
use Rattle.nt_top.specs.declared.exit.Exit.{Exit}
use Rattle.nt_top.specs.declared.exit.Exit.TheVariants.{Done, Refused, BadWords, FileFault, BadTable, BadInput, PortFault, SinkFault, NoMemory, NoAnswer, BadPeer, Spent}
use Rattle.nt_top.specs.Logon.{most_answers}
use Rattle.nt_top.specs.LogonExits.{IsExcuse, IsOfClients, LosesLink, is_gone}
use Rattle.nt_top.specs.Serve.{GivesFewer, halt_exit}
use Rattle.nt_top.specs.Station.{SaysOff, StationConcludes, StationEnds, dialling_station, off_line, off_lines, station_dials, station_exit}
use Rattle.nt_top.specs.StationExits.{GrantsIn, IsGrant, IsOff, LosesDial, StationComesBy, StationComesTo, StationComesToSpent, StationExitLaws, StationFailsToAsk, StationRanTo, StationSpends, granted_lines}
use Rattle.nt_top.specs.Told.{rest_at}
use Rattle.nt_top.proofs.GrantLaws.{Stage, StageOf, begins, begun_front, cut_front, grant_of, off_granted, run_grants, steps_stage}
use Rattle.nt_top.proofs.LinkLaws.{LosesAtGone, loses_link, same_number}
use Rattle.nt_top.proofs.LogonLaws.{no_front}
use Rattle.nt_top.proofs.StationDialLaws.{station_dial_cause}
use Rattle.nt_top.proofs.WholeLaws.{around, concluded, gives_fewer, halts_excused, loses_around, never_file, rose_around, same_end, spent_excused, spent_not_told}

-- ---- the exit

says_exit : (outcome : Option StationOutcome) (before now : Option (List ℕ)) (exit : Exit) → SaysOff outcome before now exit → (exit ≡ station_exit outcome) ⊎ IsExcuse exit
says_exit outcome before now Done says = inl says.0
says_exit outcome before now (Refused cause) says = inl says.0
says_exit outcome before now (BadWords number) says = inl says.0
says_exit outcome before now FileFault says = inl says.0
says_exit outcome before now (BadTable cause) says = inl says.0
says_exit outcome before now (BadInput number) says = inl says.0
says_exit outcome before now PortFault says = inl says.0
says_exit outcome before now SinkFault says = inr tt
says_exit outcome before now NoMemory says = inl says.0
says_exit outcome before now (NoAnswer cause) says = inl says.0
says_exit outcome before now (BadPeer fault) says = inl says.0
says_exit outcome before now Spent says = inl says.0

outcome_law : (plan : StationPlan) (seed : List ℕ) (boot : ℕ) (before after : Sight) (exit : Exit) (outcome : Option StationOutcome) →
    StationEnds plan seed boot before after exit → StationComesTo plan before after outcome → (exit ≡ station_exit outcome) ⊎ IsExcuse exit
outcome_law plan seed boot before after exit outcome station comes =
    let first = station_dials plan in
    let old = dialling_station plan in
    elim station.ends [
      | inl none ↦ inr (subst IsExcuse (sym none.0) tt)
      | inr begun ↦ elim begun [
        | inl breaks ↦ inr (halts_excused station_machine first old most_answers seed boot before station.opened after exit comes.steps comes.state comes.left comes.stop station.opens comes.tells comes.closes breaks.halt breaks.exit_is breaks.run)
        | inr ends ↦
            let told = concluded station_machine first old ends.last most_answers seed boot before station.opened ends.ended after station.opens ends.run ends.only in
            let same = same_end station_machine first old before after ends.run.run.ran.steps comes.steps ends.last comes.state ends.run.run.left comes.left ends.run.run.stop comes.stop told comes.tells in
            let outcome_is : ends.last.outcome ≡ outcome = ap (λ (s : StationState). s.outcome) same ∙ comes.outcome_is in
            subst (λ (o : Option StationOutcome). (exit ≡ station_exit o) ⊎ IsExcuse exit) outcome_is (says_exit ends.last.outcome ends.ended.taken after.taken exit ends.says)
      ]
    ]

spent_law : (plan : StationPlan) (seed : List ℕ) (boot : ℕ) (before after : Sight) (exit : Exit) →
    StationEnds plan seed boot before after exit → StationComesToSpent plan before after → (exit ≡ Spent) ⊎ IsExcuse exit
spent_law plan seed boot before after exit station comes =
    let first = station_dials plan in
    let old = dialling_station plan in
    elim station.ends [
      | inl none ↦ inr (subst IsExcuse (sym none.0) tt)
      | inr begun ↦ elim begun [
        | inl breaks ↦ spent_excused station_machine first old most_answers seed boot before station.opened after exit comes.steps comes.last comes.step comes.waiting station.opens comes.tells comes.chooses comes.spent breaks.halt breaks.exit_is breaks.run
        | inr ends ↦ absurd (spent_not_told station_machine first old before after ends.run.run.ran.steps comes.steps (rest_at ends.last ends.run.run.left) comes.last ends.run.run.stop comes.step comes.waiting
            (concluded station_machine first old ends.last most_answers seed boot before station.opened ends.ended after station.opens ends.run ends.only) comes.tells comes.chooses comes.spent)
      ]
    ]

-- ---- what is put

abbrev lines : List Step → List ℕ
lines steps = lines_of (puts station_machine) steps

-- nothing was put for the dial
dial_quiet : (plan : StationPlan) (before middle : Option (List ℕ)) → Appends before middle (flat_map (puts station_machine) (station_dials plan)) → Appends before middle []
dial_quiet plan before middle told = told

begun_put : (plan : StationPlan) (last : StationState) (opened ended : Sight) → (run : Begun station_machine None (station_dials plan) (dialling_station plan) last most_answers opened ended) →
    Appends opened.taken ended.taken (lines run.run.ran.steps)
begun_put plan last opened ended run =
    let rest = Appends-trans run.middle.taken run.run.middle.taken ended.taken (lines run.run.ran.steps) [] run.run.ran.shows.taken run.run.shows.taken in
    subst (λ (l : List ℕ). Appends opened.taken ended.taken l) (append-nil (lines run.run.ran.steps))
    (Appends-trans opened.taken run.middle.taken ended.taken [] (lines run.run.ran.steps ++ []) (dial_quiet plan opened.taken run.middle.taken run.shows.taken) rest)

asked_put : (plan : StationPlan) (opened after : Sight) → (run : BegunHalf station_machine None (station_dials plan) (dialling_station plan) most_answers opened after halts.PortFault) →
    Appends opened.taken after.taken (lines run.run.ran.steps)
asked_put plan opened after run = Appends-trans opened.taken run.middle.taken after.taken [] (lines run.run.ran.steps) (dial_quiet plan opened.taken run.middle.taken run.shows.taken) run.run.ran.shows.taken

-- where the stage of the run's last state stands
run_stage : (plan : StationPlan) (steps : List Step) (start last : RunState StationState) → start.state ≡ dialling_station plan → AreSteps station_machine start steps last → StageOf last.state (told_in (actions_in steps))
run_stage plan steps start last is are = steps_stage start last steps [] are (subst (λ (s : StationState). StageOf s []) (sym is) (begins plan))

-- what was put where the Logon was granted so
granted_put : (steps : List Step) (granted : Option (List ℕ × List ℕ)) (before now : Option (List ℕ)) → GrantsIn steps granted → Appends before now (lines steps) → Appends before now (granted_lines granted)
granted_put steps granted before now grants told = subst (λ (l : List ℕ). Appends before now l) (run_grants steps granted grants) told

-- a step that draws too many puts nothing
spent_part : (done rest : List Action) (part more : List ℕ) (actions : List Action) → done ++ rest ≡ actions → actions ≡ [] → part ++ more ≡ next_line (puts station_machine) rest →
    flat_map (puts station_machine) done ++ part ≡ []
spent_part done rest part more actions whole none front =
    let cut = cut_front (puts station_machine) done rest actions part more whole front in
    no_front (flat_map (puts station_machine) done ++ part) cut.0 (cut.1 ∙ ap (flat_map (puts station_machine)) none)

spent_put : (plan : StationPlan) (opened after : Sight) → (run : BegunHalf station_machine None (station_dials plan) (dialling_station plan) most_answers opened after halts.Spent) →
    Appends opened.taken after.taken (lines run.run.ran.steps)
spent_put plan opened after run =
    let into = run.run in
    let none = spent_part into.step.actions into.begins.rest into.part into.begins.more _ into.begins.all (ap taken_actions into.begins.breaks.0) into.begins.front in
    let last = subst (λ (l : List ℕ). Appends into.middle.taken after.taken l) none into.shows.taken in
    let rest = Appends-trans run.middle.taken into.middle.taken after.taken (lines into.ran.steps) [] into.ran.shows.taken last in
    subst (λ (l : List ℕ). Appends opened.taken after.taken l) (append-nil (lines into.ran.steps))
    (Appends-trans opened.taken run.middle.taken after.taken [] (lines into.ran.steps ++ []) (dial_quiet plan opened.taken run.middle.taken run.shows.taken) rest)

-- ---- a front of the line of a user who is in

abbrev FrontOfIn : Option (List ℕ) → Option (List ℕ) → Type 0
FrontOfIn before now = (domain user : List ℕ) × AppendsFront before now (in_line domain user)

nothing_front : (before now : Option (List ℕ)) → Appends before now [] → FrontOfIn before now
nothing_front before now none = ([], [], AppendsFront-append before now [] (in_line [] []) none)

front_nothing : (before now : Option (List ℕ)) → AppendsFront before now [] → Appends before now []
front_nothing before now told =
    let part = AppendsFront-part before now [] told in
    subst (λ (p : List ℕ). Appends before now p) (no_front part.part part.more part.all) part.told

granted_front : (granted : Option (List ℕ × List ℕ)) (before now : Option (List ℕ)) → AppendsFront before now (granted_lines granted) → FrontOfIn before now
granted_front None before now told = nothing_front before now (front_nothing before now told)
granted_front (Some names) before now told = (names.0, names.1, told)

-- a front of more
front_more : (before now : Option (List ℕ)) (items rest : List ℕ) → AppendsFront before now items → AppendsFront before now (items ++ rest)
front_more before now items rest told =
    let part = AppendsFront-part before now items told in
    let all : part.part ++ (part.more ++ rest) ≡ items ++ rest = sym (append_assoc part.part part.more rest) ∙ ap (λ (l : List ℕ). l ++ rest) part.all in
    subst (λ (l : List ℕ). AppendsFront before now l) all (AppendsFront-append before now part.part (part.more ++ rest) part.told)

in_front : (before now : Option (List ℕ)) → FrontOfIn before now → (domain user : List ℕ) × AppendsFront before now (in_line domain user ++ off_line)
in_front before now front = (front.0, front.1, front_more before now (in_line front.0 front.1) off_line front.2)

-- ---- a run that was cut short

short_front : (plan : StationPlan) (opened after : Sight) (halt : Halt) → BegunShort station_machine None (station_dials plan) opened after halt → FrontOfIn opened.taken after.taken
short_front plan opened after halt cut =
    let front = cut_front (puts station_machine) cut.done cut.rest (station_dials plan) cut.part cut.more cut.all cut.front in
    nothing_front opened.taken after.taken
    (subst (λ (l : List ℕ). Appends opened.taken after.taken l) (no_front (flat_map (puts station_machine) cut.done ++ cut.part) front.0 front.1) cut.shows.taken)

into_front : (plan : StationPlan) (start : RunState StationState) (opened middle after : Sight) (halt : Halt) → start.state ≡ dialling_station plan → Appends opened.taken middle.taken [] →
    RanInto station_machine None start most_answers middle after halt → FrontOfIn opened.taken after.taken
into_front plan start opened middle after halt is quiet into =
    let put = Appends-trans opened.taken middle.taken after.taken [] (lines into.ran.steps ++ (flat_map (puts station_machine) into.step.actions ++ into.part)) quiet
    (Appends-trans middle.taken into.middle.taken after.taken (lines into.ran.steps) (flat_map (puts station_machine) into.step.actions ++ into.part) into.ran.shows.taken into.shows.taken) in
    let front = begun_front into.last.state into.step.event into.step.moment into.last.left into.ran.steps into.step.actions into.begins.rest into.part into.begins.more opened.taken after.taken
    (run_stage plan into.ran.steps start into.last is into.ran.are) into.begins.all into.begins.front put in
    granted_front front.0 opened.taken after.taken front.1

ran_front : (plan : StationPlan) (steps : List Step) (start last : RunState StationState) (opened middle after : Sight) → start.state ≡ dialling_station plan → Appends opened.taken middle.taken [] →
    AreSteps station_machine start steps last → Appends middle.taken after.taken (lines steps) → FrontOfIn opened.taken after.taken
ran_front plan steps start last opened middle after is quiet are told =
    let grant = grant_of _ _ _ (run_stage plan steps start last is are) in
    let put = granted_put steps grant.0 middle.taken after.taken grant.1 told in
    granted_front grant.0 opened.taken after.taken
    (subst (λ (l : List ℕ). AppendsFront opened.taken after.taken l) (append-nil (granted_lines grant.0))
    (AppendsFront-append opened.taken after.taken (granted_lines grant.0) [] (Appends-trans opened.taken middle.taken after.taken [] (granted_lines grant.0) quiet put)))

until_front : (plan : StationPlan) (opened after : Sight) (halt : Halt) → (halt ≡ halts.SinkFault) ⊎ (halt ≡ halts.NoMemory) →
    BegunUntil station_machine None (station_dials plan) (dialling_station plan) most_answers opened after halt → FrontOfIn opened.taken after.taken
until_front plan opened after halt which (inl cut) = short_front plan opened after halt cut.1
until_front plan opened after halts.SinkFault which (inr half) = into_front plan _ opened half.middle after halts.SinkFault refl (dial_quiet plan opened.taken half.middle.taken half.shows.taken) half.run
until_front plan opened after halts.NoMemory which (inr half) =
    elim half.run [
      | inl asks ↦ ran_front plan asks.ran.steps _ asks.last opened half.middle after refl (dial_quiet plan opened.taken half.middle.taken half.shows.taken) asks.ran.are asks.ran.shows.taken
      | inr into ↦ into_front plan _ opened half.middle after halts.NoMemory refl (dial_quiet plan opened.taken half.middle.taken half.shows.taken) into
    ]
until_front plan opened after halts.PortFault (inl is) (inr half) = absurd cc
until_front plan opened after halts.PortFault (inr is) (inr half) = absurd cc
until_front plan opened after halts.FileFault (inl is) (inr half) = absurd cc
until_front plan opened after halts.FileFault (inr is) (inr half) = absurd cc
until_front plan opened after halts.Spent (inl is) (inr half) = absurd cc
until_front plan opened after halts.Spent (inr is) (inr half) = absurd cc

-- ---- what an exit shows of the run

abbrev Ends : Exit → StationPlan → List ℕ → ℕ → Sight → Sight → Type 0
Ends exit plan seed boot before after = StationComesBy exit plan seed boot before after

-- nothing was put before the run
put_since : (seed : List ℕ) (boot : ℕ) (before opened : Sight) (now : Option (List ℕ)) (Put : Option (List ℕ) → Option (List ℕ) → Type 0) → Opens seed boot before opened [] → Put opened.taken now → Put before.taken now
put_since seed boot before opened now Put opens put = subst (λ (t : Option (List ℕ)). Put t now) opens.taken put

asks_comes : (plan : StationPlan) (seed : List ℕ) (boot : ℕ) (before opened after : Sight) → Opens seed boot before opened [] →
    BegunUntil station_machine None (station_dials plan) (dialling_station plan) most_answers opened after halts.PortFault → StationFailsToAsk plan seed boot before after
asks_comes plan seed boot before opened after opens (inl cut) = absurd cut.0
asks_comes plan seed boot before opened after opens (inr half) =
    let grant = grant_of _ _ _ (run_stage plan half.run.ran.steps _ half.run.last refl half.run.ran.are) in record {
      opened = opened;
      opens = opens;
      run = half;
      granted = grant.0;
      grants = grant.1;
      put = put_since seed boot before opened after.taken (λ one other. Appends one other (granted_lines grant.0)) opens (granted_put half.run.ran.steps grant.0 opened.taken after.taken grant.1 (asked_put plan opened after half));
    }

spends_comes : (plan : StationPlan) (seed : List ℕ) (boot : ℕ) (before opened after : Sight) → Opens seed boot before opened [] →
    BegunUntil station_machine None (station_dials plan) (dialling_station plan) most_answers opened after halts.Spent → StationSpends plan seed boot before after
spends_comes plan seed boot before opened after opens (inl cut) = absurd cut.0
spends_comes plan seed boot before opened after opens (inr half) =
    let grant = grant_of _ _ _ (run_stage plan half.run.ran.steps _ half.run.last refl half.run.ran.are) in record {
      opened = opened;
      opens = opens;
      run = half;
      granted = grant.0;
      grants = grant.1;
      put = put_since seed boot before opened after.taken (λ one other. Appends one other (granted_lines grant.0)) opens (granted_put half.run.ran.steps grant.0 opened.taken after.taken grant.1 (spent_put plan opened after half));
    }

halt_comes : (plan : StationPlan) (seed : List ℕ) (boot : ℕ) (before opened after : Sight) (halt : Halt) (exit : Exit) → Opens seed boot before opened [] → exit ≡ halt_exit halt →
    BegunUntil station_machine None (station_dials plan) (dialling_station plan) most_answers opened after halt → Ends exit plan seed boot before after
halt_comes plan seed boot before opened after halts.PortFault exit opens is run = subst (λ (e : Exit). Ends e plan seed boot before after) (sym is) (asks_comes plan seed boot before opened after opens run)
halt_comes plan seed boot before opened after halts.FileFault exit opens is run = absurd (never_file station_machine (station_dials plan) (dialling_station plan) most_answers opened after run)
halt_comes plan seed boot before opened after halts.SinkFault exit opens is run =
    subst (λ (e : Exit). Ends e plan seed boot before after) (sym is)
    (in_front before.taken after.taken (put_since seed boot before opened after.taken FrontOfIn opens (until_front plan opened after halts.SinkFault (inl refl) run)))
halt_comes plan seed boot before opened after halts.NoMemory exit opens is run =
    subst (λ (e : Exit). Ends e plan seed boot before after) (sym is)
    (put_since seed boot before opened after.taken FrontOfIn opens (until_front plan opened after halts.NoMemory (inr refl) run))
halt_comes plan seed boot before opened after halts.Spent exit opens is run = subst (λ (e : Exit). Ends e plan seed boot before after) (sym is) (spends_comes plan seed boot before opened after opens run)

ran_to : (plan : StationPlan) (seed : List ℕ) (boot : ℕ) (before opened after : Sight) (exit : Exit) (outcome : Option StationOutcome) (granted : Option (List ℕ × List ℕ)) → Opens seed boot before opened [] →
    (ends : StationConcludes plan opened after exit) → ends.last.outcome ≡ outcome → GrantsIn ends.run.run.ran.steps granted → Appends ends.ended.taken after.taken (off_lines ends.last.outcome) →
    StationRanTo plan seed boot before after outcome granted
ran_to plan seed boot before opened after exit outcome granted opens ends is grants said = record {
  opened = opened;
  opens = opens;
  last = ends.last;
  ended = ends.ended;
  run = ends.run;
  outcome_is = is;
  only = ends.only;
  grants = grants;
  put = subst (λ (o : Option StationOutcome). Appends before.taken after.taken (granted_lines granted ++ off_lines o)) is
      (put_since seed boot before opened after.taken (λ one other. Appends one other (granted_lines granted ++ off_lines ends.last.outcome)) opens
      (Appends-trans opened.taken ends.ended.taken after.taken (granted_lines granted) (off_lines ends.last.outcome)
      (granted_put ends.run.run.ran.steps granted opened.taken ends.ended.taken grants (begun_put plan ends.last opened ends.ended ends.run)) said));
}

-- where the run that came to its end stands
last_stage : (plan : StationPlan) (opened after : Sight) (exit : Exit) → (ends : StationConcludes plan opened after exit) → StageOf ends.last (told_in (actions_in ends.run.run.ran.steps))
last_stage plan opened after exit ends = run_stage plan ends.run.run.ran.steps _ (rest_at ends.last ends.run.run.left) refl ends.run.run.ran.are

off_by : (outcome : Option StationOutcome) → Done ≡ station_exit outcome → (domain user : List ℕ) × (outcome ≡ Some (outcomes.Off domain user))
off_by None is = absurd cc
off_by (Some (outcomes.Off domain user)) is = (domain, user, refl)
off_by (Some (outcomes.Refused status)) is = absurd cc
off_by (Some (outcomes.NoAnswer cause)) is = absurd cc
off_by (Some (outcomes.BadPeer cause)) is = absurd cc

refused_by : (outcome : Option StationOutcome) (status : ℕ) → Refused (refused_cause.Status status) ≡ station_exit outcome → outcome ≡ Some (outcomes.Refused status)
refused_by None status is = absurd cc
refused_by (Some (outcomes.Off domain user)) status is = absurd cc
refused_by (Some (outcomes.Refused other)) status is = let same : other ≡ status = cc in ap (λ (n : ℕ). Some (outcomes.Refused n)) same
refused_by (Some (outcomes.NoAnswer cause)) status is = absurd cc
refused_by (Some (outcomes.BadPeer cause)) status is = absurd cc

bad_by : (outcome : Option StationOutcome) (cause : DropCause) → BadPeer (peer_fault.Station cause) ≡ station_exit outcome → outcome ≡ Some (outcomes.BadPeer cause)
bad_by None cause is = absurd cc
bad_by (Some (outcomes.Off domain user)) cause is = absurd cc
bad_by (Some (outcomes.Refused status)) cause is = absurd cc
bad_by (Some (outcomes.NoAnswer other)) cause is = absurd cc
bad_by (Some (outcomes.BadPeer other)) cause is = let same : other ≡ cause = cc in ap (λ (c : DropCause). Some (outcomes.BadPeer c)) same

-- the exits that an outcome has, or that there is none
abbrev IsOfOutcomes : Exit → Type 0
IsOfOutcomes Done = Unit {0}
IsOfOutcomes (Refused (refused_cause.Status status)) = Unit {0}
IsOfOutcomes (Refused cause) = ⊥
IsOfOutcomes (NoAnswer cause) = Unit {0}
IsOfOutcomes (BadPeer (peer_fault.Station cause)) = Unit {0}
IsOfOutcomes (BadPeer fault) = ⊥
IsOfOutcomes _ = ⊥

exit_is_of : (outcome : Option StationOutcome) → IsOfOutcomes (station_exit outcome)
exit_is_of None = tt
exit_is_of (Some (outcomes.Off domain user)) = tt
exit_is_of (Some (outcomes.Refused status)) = tt
exit_is_of (Some (outcomes.NoAnswer cause)) = tt
exit_is_of (Some (outcomes.BadPeer cause)) = tt

is_of : (outcome : Option StationOutcome) (exit : Exit) → exit ≡ station_exit outcome → IsOfOutcomes exit
is_of outcome exit is = subst IsOfOutcomes (sym is) (exit_is_of outcome)

done_comes : (plan : StationPlan) (seed : List ℕ) (boot : ℕ) (before opened after : Sight) → Opens seed boot before opened [] → StationConcludes plan opened after Done → IsOff plan seed boot before after
done_comes plan seed boot before opened after opens ends =
    let off = off_by ends.last.outcome ends.says.0 in record {
      domain = off.0;
      user = off.1;
      ran = ran_to plan seed boot before opened after Done (Some (outcomes.Off off.0 off.1)) (Some (off.0, off.1)) opens ends off.2
          (off_granted _ _ _ off.0 off.1 off.2 (last_stage plan opened after Done ends)) ends.says.1;
    }

-- nothing was put behind the line of a user who is in
granted_only : (r : Option (List ℕ × List ℕ)) (before middle now : Option (List ℕ)) → Appends before middle (granted_lines r) → AppendsFront middle now [] → FrontOfIn before now
granted_only r before middle now put said =
    let all = Appends-trans before middle now (granted_lines r) [] put (front_nothing middle now said) in
    granted_front r before now (subst (λ (l : List ℕ). AppendsFront before now l) (append-nil (granted_lines r)) (AppendsFront-append before now (granted_lines r) [] (subst (λ (l : List ℕ). Appends before now l) (append-nil (granted_lines r)) all)))

-- a front behind all of a text
front_behind : (before middle now : Option (List ℕ)) (text items : List ℕ) → Appends before middle text → AppendsFront middle now items → AppendsFront before now (text ++ items)
front_behind before middle now text items put said =
    let part = AppendsFront-part middle now items said in
    let all : (text ++ part.part) ++ part.more ≡ text ++ items = append_assoc text part.part part.more ∙ ap (λ (l : List ℕ). text ++ l) part.all in
    subst (λ (l : List ℕ). AppendsFront before now l) all (AppendsFront-append before now (text ++ part.part) part.more (Appends-trans before middle now text part.part put part.told))

-- where the sink failed the outcome's line was cut short, behind that of the user who is in
sink_comes : (outcome : Option StationOutcome) (r : Option (List ℕ × List ℕ)) (before middle now : Option (List ℕ)) → ((domain user : List ℕ) → outcome ≡ Some (outcomes.Off domain user) → r ≡ Some (domain, user)) →
    Appends before middle (granted_lines r) → AppendsFront middle now (off_lines outcome) → (domain user : List ℕ) × AppendsFront before now (in_line domain user ++ off_line)
sink_comes (Some (outcomes.Off domain user)) r before middle now same put said =
    (domain, user, front_behind before middle now (in_line domain user) off_line (subst (λ (g : Option (List ℕ × List ℕ)). Appends before middle (granted_lines g)) (same domain user refl) put) said)
sink_comes None r before middle now same put said = in_front before now (granted_only r before middle now put said)
sink_comes (Some (outcomes.Refused status)) r before middle now same put said = in_front before now (granted_only r before middle now put said)
sink_comes (Some (outcomes.NoAnswer cause)) r before middle now same put said = in_front before now (granted_only r before middle now put said)
sink_comes (Some (outcomes.BadPeer cause)) r before middle now same put said = in_front before now (granted_only r before middle now put said)

same_off : (domain user one other : List ℕ) → ◌≡◌ {A = Option StationOutcome} (Some (outcomes.Off domain user)) (Some (outcomes.Off one other)) → ◌≡◌ {A = Option (List ℕ × List ℕ)} (Some (domain, user)) (Some (one, other))
same_off domain user one other is =
    let d : domain ≡ one = cc in
    let u : user ≡ other = cc in
    λ i. Some (d i, u i)

-- what was told of the Logon, with the names of a user who is off
said_grant : (outcome : Option StationOutcome) (r : Option StationRunning) (tolds : List (ℕ × Outcome)) → Stage r outcome tolds →
    (granted : Option (List ℕ × List ℕ)) × IsGrant tolds granted × ((domain user : List ℕ) → outcome ≡ Some (outcomes.Off domain user) → granted ≡ Some (domain, user))
said_grant (Some (outcomes.Off domain user)) r tolds stage = (Some (domain, user), off_granted r _ tolds domain user refl stage, λ one other is. same_off domain user one other is)
said_grant None r tolds stage = let grant = grant_of r None tolds stage in (grant.0, grant.1, λ one other is. absurd cc)
said_grant (Some (outcomes.Refused status)) r tolds stage = let grant = grant_of r _ tolds stage in (grant.0, grant.1, λ one other is. absurd cc)
said_grant (Some (outcomes.NoAnswer cause)) r tolds stage = let grant = grant_of r _ tolds stage in (grant.0, grant.1, λ one other is. absurd cc)
said_grant (Some (outcomes.BadPeer cause)) r tolds stage = let grant = grant_of r _ tolds stage in (grant.0, grant.1, λ one other is. absurd cc)

sink_said : (plan : StationPlan) (seed : List ℕ) (boot : ℕ) (before opened after : Sight) → Opens seed boot before opened [] → StationConcludes plan opened after SinkFault →
    (domain user : List ℕ) × AppendsFront before.taken after.taken (in_line domain user ++ off_line)
sink_said plan seed boot before opened after opens ends =
    let stage = last_stage plan opened after SinkFault ends in
    let grant = said_grant ends.last.outcome _ _ stage in
    put_since seed boot before opened after.taken (λ one other. (domain user : List ℕ) × AppendsFront one other (in_line domain user ++ off_line)) opens
    (sink_comes ends.last.outcome grant.0 opened.taken ends.ended.taken after.taken grant.2
    (granted_put ends.run.run.ran.steps grant.0 opened.taken ends.ended.taken grant.1 (begun_put plan ends.last opened ends.ended ends.run)) ends.says)

says_comes : (plan : StationPlan) (seed : List ℕ) (boot : ℕ) (before opened after : Sight) (exit : Exit) → Opens seed boot before opened [] → StationConcludes plan opened after exit → Ends exit plan seed boot before after
says_comes plan seed boot before opened after Done opens ends = done_comes plan seed boot before opened after opens ends
says_comes plan seed boot before opened after (Refused (refused_cause.Status status)) opens ends =
    let grant = grant_of _ _ _ (last_stage plan opened after _ ends) in
    (grant.0, ran_to plan seed boot before opened after _ _ grant.0 opens ends (refused_by ends.last.outcome status ends.says.0) grant.1 ends.says.1)
says_comes plan seed boot before opened after (Refused refused_cause.Response) opens ends = absurd (is_of ends.last.outcome _ ends.says.0)
says_comes plan seed boot before opened after (Refused (refused_cause.Nak reason)) opens ends = absurd (is_of ends.last.outcome _ ends.says.0)
says_comes plan seed boot before opened after (Refused (refused_cause.Rejected reason)) opens ends = absurd (is_of ends.last.outcome _ ends.says.0)
says_comes plan seed boot before opened after (Refused refused_cause.WeakOffer) opens ends = absurd (is_of ends.last.outcome _ ends.says.0)
says_comes plan seed boot before opened after (Refused (refused_cause.Fault status)) opens ends = absurd (is_of ends.last.outcome _ ends.says.0)
says_comes plan seed boot before opened after (NoAnswer cause) opens ends =
    let grant = grant_of _ _ _ (last_stage plan opened after _ ends) in record {
      outcome = ends.last.outcome;
      granted = grant.0;
      ran = ran_to plan seed boot before opened after _ ends.last.outcome grant.0 opens ends refl grant.1 ends.says.1;
      exit_is = sym ends.says.0;
    }
says_comes plan seed boot before opened after (BadPeer (peer_fault.Station cause)) opens ends =
    let grant = grant_of _ _ _ (last_stage plan opened after _ ends) in
    (grant.0, ran_to plan seed boot before opened after _ _ grant.0 opens ends (bad_by ends.last.outcome cause ends.says.0) grant.1 ends.says.1)
says_comes plan seed boot before opened after (BadPeer peer_fault.BadUnit) opens ends = absurd (is_of ends.last.outcome _ ends.says.0)
says_comes plan seed boot before opened after (BadPeer peer_fault.OutOfPlace) opens ends = absurd (is_of ends.last.outcome _ ends.says.0)
says_comes plan seed boot before opened after (BadPeer peer_fault.BadMessage) opens ends = absurd (is_of ends.last.outcome _ ends.says.0)
says_comes plan seed boot before opened after (BadPeer peer_fault.BadSeal) opens ends = absurd (is_of ends.last.outcome _ ends.says.0)
says_comes plan seed boot before opened after (BadPeer peer_fault.BadReply) opens ends = absurd (is_of ends.last.outcome _ ends.says.0)
says_comes plan seed boot before opened after SinkFault opens ends = sink_said plan seed boot before opened after opens ends
says_comes plan seed boot before opened after PortFault opens ends = absurd (is_of ends.last.outcome _ ends.says.0)
says_comes plan seed boot before opened after Spent opens ends = absurd (is_of ends.last.outcome _ ends.says.0)
says_comes plan seed boot before opened after NoMemory opens ends = absurd (is_of ends.last.outcome _ ends.says.0)
says_comes plan seed boot before opened after (BadWords number) opens ends = absurd (is_of ends.last.outcome _ ends.says.0)
says_comes plan seed boot before opened after FileFault opens ends = absurd (is_of ends.last.outcome _ ends.says.0)
says_comes plan seed boot before opened after (BadTable cause) opens ends = absurd (is_of ends.last.outcome _ ends.says.0)
says_comes plan seed boot before opened after (BadInput number) opens ends = absurd (is_of ends.last.outcome _ ends.says.0)

comes_law : (plan : StationPlan) (seed : List ℕ) (boot : ℕ) (before after : Sight) (exit : Exit) → StationEnds plan seed boot before after exit → Ends exit plan seed boot before after
comes_law plan seed boot before after exit station =
    elim station.ends [
      | inl none ↦ subst (λ (e : Exit). Ends e plan seed boot before after) (sym none.0)
          (put_since seed boot before station.opened after.taken FrontOfIn station.opens
          (nothing_front station.opened.taken after.taken (subst (λ (s : Sight). Appends station.opened.taken s.taken []) (sym none.1) (Appends-nothing station.opened.taken))))
      | inr begun ↦ elim begun [
        | inl breaks ↦ halt_comes plan seed boot before station.opened after breaks.halt exit station.opens breaks.exit_is breaks.run
        | inr ends ↦ says_comes plan seed boot before station.opened after exit station.opens ends
      ]
    ]

-- ---- a dial that failed

fails_by : (outcome : Option StationOutcome) → NoAnswer DialFailed ≡ station_exit outcome → is_dial_failed outcome ≡ true
fails_by None is = absurd cc
fails_by (Some (outcomes.Off domain user)) is = absurd cc
fails_by (Some (outcomes.Refused status)) is = absurd cc
fails_by (Some (outcomes.NoAnswer no_station.DialFailed)) is = refl
fails_by (Some (outcomes.NoAnswer no_station.LinkClosed)) is = absurd cc
fails_by (Some (outcomes.BadPeer cause)) is = absurd cc

never_dial : (halt : Halt) → NoAnswer DialFailed ≡ halt_exit halt → ⊥
never_dial halts.PortFault is = absurd cc
never_dial halts.FileFault is = absurd cc
never_dial halts.SinkFault is = absurd cc
never_dial halts.NoMemory is = absurd cc
never_dial halts.Spent is = absurd cc

dial_around : (seed : List ℕ) (boot : ℕ) (before opened ended after : Sight) → Opens seed boot before opened [] → after ≡ record ended { taken = after.taken } → LosesDial opened ended → LosesDial before after
dial_around seed boot before opened ended after opens only loses = record {
  rose = rose_around seed boot before opened ended after opens only loses.rose;
  happened = loses.happened;
  told = around seed boot before opened ended after loses.happened opens only loses.told;
  failed = loses.failed;
}

dial_law : (plan : StationPlan) (seed : List ℕ) (boot : ℕ) (before after : Sight) (exit : Exit) → StationEnds plan seed boot before after exit → exit ≡ NoAnswer DialFailed → LosesDial before after
dial_law plan seed boot before after exit station is =
    elim station.ends [
      | inl none ↦ absurd (let never : NoMemory ≡ NoAnswer DialFailed = sym none.0 ∙ is in cc)
      | inr begun ↦ elim begun [
        | inl breaks ↦ absurd (never_dial breaks.halt (sym is ∙ breaks.exit_is))
        | inr ends ↦
            let says : SaysOff ends.last.outcome ends.ended.taken after.taken (NoAnswer DialFailed) = subst (λ (e : Exit). SaysOff ends.last.outcome ends.ended.taken after.taken e) is ends.says in
            dial_around seed boot before station.opened ends.ended after station.opens ends.only (station_dial_cause plan ends.last most_answers station.opened ends.ended ends.run (fails_by ends.last.outcome says.0))
      ]
    ]

-- ---- a link that was lost

closed_lost : (outcome : Option StationOutcome) → NoAnswer LinkClosed ≡ station_exit outcome → (is_some outcome ≡ false) ⊎ (is_link_closed outcome ≡ true)
closed_lost None is = inl refl
closed_lost (Some (outcomes.Off domain user)) is = absurd cc
closed_lost (Some (outcomes.Refused status)) is = absurd cc
closed_lost (Some (outcomes.NoAnswer no_station.DialFailed)) is = absurd cc
closed_lost (Some (outcomes.NoAnswer no_station.LinkClosed)) is = inr refl
closed_lost (Some (outcomes.BadPeer cause)) is = absurd cc

never_closed : (halt : Halt) → NoAnswer LinkClosed ≡ halt_exit halt → ⊥
never_closed halts.PortFault is = absurd cc
never_closed halts.FileFault is = absurd cc
never_closed halts.SinkFault is = absurd cc
never_closed halts.NoMemory is = absurd cc
never_closed halts.Spent is = absurd cc

goes_gone : (what : Event) (want : Option ℕ) → LinkGoes what want → is_gone what want ≡ true
goes_gone (event.Closed link) want goes = subst (λ (w : Option ℕ). is_gone (event.Closed link) w ≡ true) (sym goes) (same_number link)
goes_gone (event.Opened link) want goes = subst (λ (w : Option ℕ). is_gone (event.Opened link) w ≡ true) (sym goes) (same_number link)
goes_gone (event.Bytes link bytes) want goes = absurd goes
goes_gone (event.Dialled link) want goes = absurd goes
goes_gone event.DialFailed want goes = absurd goes
goes_gone event.Stop want goes = absurd goes

-- a station finds its link closed only where the event shows that it is gone
station_loses : LosesAtGone station_machine (λ s. is_link_closed s.outcome)
station_loses = record { at = λ s what now left was is. goes_gone what (want_by s.running) (loses_by_events.closed s what now left was is) }

closed_law : (plan : StationPlan) (seed : List ℕ) (boot : ℕ) (before after : Sight) (exit : Exit) → StationEnds plan seed boot before after exit → exit ≡ NoAnswer LinkClosed → LosesLink before after
closed_law plan seed boot before after exit station is =
    elim station.ends [
      | inl none ↦ absurd (let never : NoMemory ≡ NoAnswer LinkClosed = sym none.0 ∙ is in cc)
      | inr begun ↦ elim begun [
        | inl breaks ↦ absurd (never_closed breaks.halt (sym is ∙ breaks.exit_is))
        | inr ends ↦
            let says : SaysOff ends.last.outcome ends.ended.taken after.taken (NoAnswer LinkClosed) = subst (λ (e : Exit). SaysOff ends.last.outcome ends.ended.taken after.taken e) is ends.says in
            loses_around seed boot before station.opened ends.ended after station.opens ends.only
            (loses_link station_machine (station_dials plan) (dialling_station plan) ends.last (λ s. is_link_closed s.outcome) station_loses station.opened ends.ended refl ends.run (closed_lost ends.last.outcome says.0))
      ]
    ]

-- ---- a port that failed

port_law : (plan : StationPlan) (seed : List ℕ) (boot : ℕ) (before after : Sight) (exit : Exit) → StationEnds plan seed boot before after exit → exit ≡ PortFault → GivesFewer most_answers before after
port_law plan seed boot before after exit station is =
    let ran : StationFailsToAsk plan seed boot before after = subst (λ (e : Exit). Ends e plan seed boot before after) is (comes_law plan seed boot before after exit station) in
    gives_fewer station_machine (station_dials plan) (dialling_station plan) most_answers seed boot before ran.opened after ran.opens (inr ran.run)

-- ---- the exits of a station

comes_is : (exit : Exit) (plan : StationPlan) (seed : List ℕ) (boot : ℕ) (before after : Sight) → Ends exit plan seed boot before after → IsOfClients exit
comes_is Done plan seed boot before after comes = tt
comes_is (Refused cause) plan seed boot before after comes = tt
comes_is (BadWords number) plan seed boot before after comes = comes
comes_is FileFault plan seed boot before after comes = comes
comes_is (BadTable cause) plan seed boot before after comes = comes
comes_is (BadInput number) plan seed boot before after comes = comes
comes_is PortFault plan seed boot before after comes = tt
comes_is SinkFault plan seed boot before after comes = tt
comes_is NoMemory plan seed boot before after comes = tt
comes_is (NoAnswer cause) plan seed boot before after comes = tt
comes_is (BadPeer fault) plan seed boot before after comes = tt
comes_is Spent plan seed boot before after comes = tt

-- the exits of a station's run are among those of a client's
pub station_exits : (plan : StationPlan) (seed : List ℕ) (boot : ℕ) (before after : Sight) (exit : Exit) → StationEnds plan seed boot before after exit → IsOfClients exit
station_exits plan seed boot before after exit station = comes_is exit plan seed boot before after (comes_law plan seed boot before after exit station)

pub station_laws : StationExitLaws
station_laws = record { outcome = outcome_law; spent = spent_law; comes = comes_law; dial = dial_law; closed = closed_law; port = port_law }
