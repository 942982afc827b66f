-- How a logon begins and ends.
use Rattle.std.proofs.Common.{ℕ, ◌≡◌, ◌⊎◌, inl, inr, List, [], ◌∷◌, ◌++◌, Option, Some, None, true, false, refl, sym, ap, subst, ◌∙◌}
use Rattle.std.specs.List.{flat_map}
use Rattle.outside.specs.Drawing.{Drawing}
use Rattle.outside.specs.Telling.{Appends, AppendsFront}
use Rattle.outside.specs.declared.action.Action.{Action}
use Rattle.outside.specs.declared.action.Action.TheVariants as action
use Rattle.outside.specs.declared.event.Event.{Event}
use Rattle.outside.specs.declared.event.Event.TheVariants as event
use Rattle.outside.specs.declared.event.Happening.{Happening}
use Rattle.outside.specs.declared.event.Happening.TheVariants as happening
use Rattle.outside.proofs.TellingLaws.{Appends-trans, Appends-nothing, AppendsFront-append, AppendsFront-part}
use Rattle.end_loop.specs.Acts.{next_line, puts}
use Rattle.end_loop.specs.Begun.{Begun, BegunUntil}
use Rattle.end_loop.specs.Runs.{RunState, Step, Halts, RanInto, lines_of}
use Rattle.end_loop.specs.Seen.{Sight, Shows}
use Rattle.end_loop.specs.Writing.{FilesTold, Write}
use Rattle.end_loop.specs.Serving.{Opens}
use Rattle.end_loop.specs.declared.halt.Halt.{Halt}
use Rattle.end_loop.specs.declared.halt.Halt.TheVariants as halts
use Rattle.logon_client.specs.declared.outcome.ClientOutcome.{ClientOutcome}
use Rattle.logon_client.specs.declared.outcome.ClientOutcome.TheVariants as outcomes
use Rattle.logon_client.specs.declared.outcome.NoAnswerCause.TheVariants.{DialFailed, LinkClosed, NoController}
use Rattle.logon_client.specs.declared.outcome.PeerFault.{PeerFault}
use Rattle.logon_client.specs.declared.outcome.RefusedCause.{RefusedCause}
use Rattle.logon_client.specs.declared.plan.ClientPlan.{ClientPlan}
use Rattle.logon_client.proofs.LossLaws.{losses_come_of_events}
use Rattle.logon_client.specs.Losses.{LinkGoes, is_dial_failed, is_link_closed}
use Rattle.logon_client.specs.Machine.{client_machine, has_outcome, want_by}
use Rattle.logon_client.specs.State.{State}
use Rattle.nt_top.specs.declared.exit.Exit.{Exit}
use Rattle.nt_top.specs.declared.exit.Exit.TheVariants.{Done, Refused, BadWords, FileFault, BadTable, BadInput, PortFault, SinkFault, NoMemory, NoAnswer, BadPeer, Spent}
use Rattle.nt_top.specs.Logon.{Concludes, LogonEnds, Says, client_that_dials, first_actions, in_lines, most_answers, outcome_exit, outcome_lines}
use Rattle.nt_top.specs.Serve.{GivesFewer, halt_exit}
use Rattle.nt_top.specs.LogonExits.{ComesBy, FailsToDial, IsIn, RanTo, RanUntil, ComesTo, ComesToSpent, IsExcuse, IsOfClients, LogonLaws, LosesLink, Puts, is_gone}
use Rattle.nt_top.proofs.DialLaws.{dial_cause}
use Rattle.nt_top.proofs.LinkLaws.{LosesAtGone, loses_link, same_number}
use Rattle.nt_top.specs.Told.{rest_at}
use Rattle.nt_top.proofs.WholeLaws.{around, concluded, gives_fewer, halts_excused, loses_around, never_file, rose_around, same_end, spent_excused, spent_not_told}

-- the challenges were started, and nothing else was done
pub started : (story : Option (List Happening)) (faults : ℕ) (moments : Option (List ℕ)) (old new : Drawing) (taken : Option (List ℕ)) (files : FilesTold) (seed : List ℕ) (boot : ℕ) →
    new.seed ≡ seed → new.boot ≡ boot → new.drawn ≡ [] →
    Opens seed boot (record { story = story; link_faults = faults; moments = moments; drawing = old; taken = taken; files = files }) (record { story = story; link_faults = faults; moments = moments; drawing = new; taken = taken; files = files }) []
started story faults moments old new taken files seed boot seed_is boot_is drawn =
    record { seed_is = seed_is; boot_is = boot_is; none_drawn = drawn; story = Appends-nothing story; link_faults = refl; moments = refl; taken = refl; files = refl }

-- ---- the exit

says_exit : (outcome : Option ClientOutcome) (before now : Option (List ℕ)) (exit : Exit) → Says outcome before now exit → (exit ≡ outcome_exit outcome) ⊎ IsExcuse exit
says_exit outcome before now Done says = inl says.0
says_exit outcome before now (Refused cause) says = inl says.0
says_exit outcome before now (BadWords number) says = inl says.0
says_exit outcome before now FileFault says = inl says.0
says_exit outcome before now (BadTable cause) says = inl says.0
says_exit outcome before now (BadInput number) says = inl says.0
says_exit outcome before now PortFault says = inl says.0
says_exit outcome before now SinkFault says = inr tt
says_exit outcome before now NoMemory says = inr tt
says_exit outcome before now (NoAnswer cause) says = inl says.0
says_exit outcome before now (BadPeer fault) says = inl says.0
says_exit outcome before now Spent says = inl says.0

outcome_law : (plan : ClientPlan) (seed : List ℕ) (boot : ℕ) (before after : Sight) (exit : Exit) (outcome : Option ClientOutcome) →
    LogonEnds plan seed boot before after exit → ComesTo plan before after outcome → (exit ≡ outcome_exit outcome) ⊎ IsExcuse exit
outcome_law plan seed boot before after exit outcome logon comes =
    let first = first_actions plan in
    let old = client_that_dials plan in
    elim logon.ends [
      | inl none ↦ inr (subst IsExcuse (sym none.0) tt)
      | inr begun ↦ elim begun [
        | inl breaks ↦ inr (halts_excused client_machine first old most_answers seed boot before logon.opened after exit comes.steps comes.state comes.left comes.stop logon.opens comes.tells comes.closes breaks.halt breaks.exit_is breaks.run)
        | inr ends ↦
            let told = concluded client_machine first old ends.last most_answers seed boot before logon.opened ends.ended after logon.opens ends.run ends.only in
            let same = same_end client_machine first old before after ends.run.run.ran.steps comes.steps ends.last comes.state ends.run.run.left comes.left ends.run.run.stop comes.stop told comes.tells in
            let outcome_is : ends.last.outcome ≡ outcome = ap (λ (s : State). s.outcome) same ∙ comes.outcome_is in
            subst (λ (o : Option ClientOutcome). (exit ≡ outcome_exit o) ⊎ IsExcuse exit) outcome_is (says_exit ends.last.outcome ends.ended.taken after.taken exit ends.says)
      ]
    ]

spent_law : (plan : ClientPlan) (seed : List ℕ) (boot : ℕ) (before after : Sight) (exit : Exit) →
    LogonEnds plan seed boot before after exit → ComesToSpent plan before after → (exit ≡ Spent) ⊎ IsExcuse exit
spent_law plan seed boot before after exit logon comes =
    let first = first_actions plan in
    let old = client_that_dials plan in
    elim logon.ends [
      | inl none ↦ inr (subst IsExcuse (sym none.0) tt)
      | inr begun ↦ elim begun [
        | inl breaks ↦ spent_excused client_machine first old most_answers seed boot before logon.opened after exit comes.steps comes.last comes.step comes.waiting logon.opens comes.tells comes.chooses comes.spent breaks.halt breaks.exit_is breaks.run
        | inr ends ↦ absurd (spent_not_told client_machine first old before after ends.run.run.ran.steps comes.steps (rest_at ends.last ends.run.run.left) comes.last ends.run.run.stop comes.step comes.waiting
            (concluded client_machine first old ends.last most_answers seed boot before logon.opened ends.ended after logon.opens ends.run ends.only) comes.tells comes.chooses comes.spent)
      ]
    ]

-- ---- what is put: a client puts no line while it runs

no_line : (what : Action) → puts client_machine what ≡ []
no_line (action.Keep bytes) = refl
no_line (action.Send link bytes) = refl
no_line (action.Dial peer) = refl
no_line (action.Close link cause) = refl
no_line (action.Told link outcome) = refl
no_line (action.Judged judged) = refl

no_lines : (actions : List Action) → flat_map (puts client_machine) actions ≡ []
no_lines [] = refl
no_lines (what ∷ actions) = ap (λ (l : List ℕ). l ++ flat_map (puts client_machine) actions) (no_line what) ∙ no_lines actions

no_run_lines : (steps : List Step) → lines_of (puts client_machine) steps ≡ []
no_run_lines [] = refl
no_run_lines (step ∷ steps) = ap (λ (l : List ℕ). l ++ lines_of (puts client_machine) steps) (no_lines step.actions) ∙ no_run_lines steps

no_next : (rest : List Action) → next_line (puts client_machine) rest ≡ []
no_next [] = refl
no_next (what ∷ rest) = no_line what

pub no_front : {X : Type 0} (part more : List X) → part ++ more ≡ [] → part ≡ []
no_front [] more is = refl
no_front (x ∷ part) more is = absurd cc

no_part : (part more : List ℕ) (rest : List Action) → part ++ more ≡ next_line (puts client_machine) rest → part ≡ []
no_part part more rest front = no_front part more (front ∙ no_next rest)

quiet : (before after : Sight) (happened : List Happening) (given : List ℕ) (drawn : List (List ℕ)) (put : List ℕ) (writes : List Write) → put ≡ [] → Shows before after happened given drawn put writes → Appends before.taken after.taken []
quiet before after happened given drawn put writes none shows = subst (λ (p : List ℕ). Appends before.taken after.taken p) none shows.taken

joined : (first second third : Option (List ℕ)) → Appends first second [] → Appends second third [] → Appends first third []
joined first second third one other = Appends-trans first second third [] [] one other

into_quiet : (start : RunState State) (most : ℕ) (before after : Sight) (halt : Halt) → RanInto client_machine None start most before after halt → Appends before.taken after.taken []
into_quiet start most before after halt into =
    joined before.taken into.middle.taken after.taken (quiet before into.middle _ _ _ _ _ (no_run_lines into.ran.steps) into.ran.shows)
    (quiet into.middle after _ _ _ _ _ (ap (λ (l : List ℕ). l ++ into.part) (no_lines into.step.actions) ∙ no_part into.part into.begins.more into.begins.rest into.begins.front) into.shows)

halts_quiet : (start : RunState State) (most : ℕ) (before after : Sight) (halt : Halt) → Halts client_machine None start most before after halt → Appends before.taken after.taken []
halts_quiet start most before after halts.PortFault run = quiet before after _ _ _ _ _ (no_run_lines run.ran.steps) run.ran.shows
halts_quiet start most before after halts.FileFault run = into_quiet start most before after halts.FileFault run
halts_quiet start most before after halts.SinkFault run = into_quiet start most before after halts.SinkFault run
halts_quiet start most before after halts.NoMemory (inl run) = quiet before after _ _ _ _ _ (no_run_lines run.ran.steps) run.ran.shows
halts_quiet start most before after halts.NoMemory (inr run) = into_quiet start most before after halts.NoMemory run
halts_quiet start most before after halts.Spent run = into_quiet start most before after halts.Spent run

until_quiet : (first : List Action) (old : State) (most : ℕ) (before after : Sight) (halt : Halt) → BegunUntil client_machine None first old most before after halt → Appends before.taken after.taken []
until_quiet first old most before after halt (inl cut) =
    quiet before after _ _ _ _ _ (ap (λ (l : List ℕ). l ++ cut.1.part) (no_lines cut.1.done) ∙ no_part cut.1.part cut.1.more cut.1.rest cut.1.front) cut.1.shows
until_quiet first old most before after halt (inr half) =
    joined before.taken half.middle.taken after.taken (quiet before half.middle _ _ _ _ _ (no_lines first) half.shows) (halts_quiet _ most half.middle after halt half.run)

begun_quiet : (first : List Action) (old new : State) (most : ℕ) (before after : Sight) → Begun client_machine None first old new most before after → Appends before.taken after.taken []
begun_quiet first old new most before after begun =
    joined before.taken begun.middle.taken after.taken (quiet before begun.middle _ _ _ _ _ (no_lines first) begun.shows)
    (joined begun.middle.taken begun.run.middle.taken after.taken (quiet begun.middle begun.run.middle _ _ _ _ _ (no_run_lines begun.run.ran.steps) begun.run.ran.shows) (quiet begun.run.middle after _ _ _ _ _ refl begun.run.shows))

nothing_front : (before now : Option (List ℕ)) (items : List ℕ) → Appends before now [] → AppendsFront before now items
nothing_front before now items none = AppendsFront-append before now [] items none

halt_puts : (halt : Halt) (exit : Exit) (before now : Option (List ℕ)) → exit ≡ halt_exit halt → Appends before now [] → Puts exit before now
halt_puts halts.PortFault exit before now is none = subst (λ (e : Exit). Puts e before now) (sym is) none
halt_puts halts.FileFault exit before now is none = subst (λ (e : Exit). Puts e before now) (sym is) none
halt_puts halts.SinkFault exit before now is none = subst (λ (e : Exit). Puts e before now) (sym is) ([], 0, nothing_front before now (in_lines [] 0) none)
halt_puts halts.NoMemory exit before now is none = subst (λ (e : Exit). Puts e before now) (sym is) none
halt_puts halts.Spent exit before now is none = subst (λ (e : Exit). Puts e before now) (sym is) none

outcome_puts : (outcome : Option ClientOutcome) (before now : Option (List ℕ)) → Appends before now (outcome_lines outcome) → Puts (outcome_exit outcome) before now
outcome_puts None before now told = told
outcome_puts (Some (outcomes.In name key echoed)) before now told = (name, echoed, told)
outcome_puts (Some (outcomes.Refused cause)) before now told = told
outcome_puts (Some (outcomes.NoAnswer cause)) before now told = told
outcome_puts (Some (outcomes.BadPeer fault)) before now told = told

whole_puts : (outcome : Option ClientOutcome) (before now : Option (List ℕ)) (exit : Exit) → exit ≡ outcome_exit outcome → Appends before now (outcome_lines outcome) → Puts exit before now
whole_puts outcome before now exit is told = subst (λ (e : Exit). Puts e before now) (sym is) (outcome_puts outcome before now told)

front_nothing : (before now : Option (List ℕ)) → AppendsFront before now [] → Appends before now []
front_nothing before now told =
    let part = AppendsFront-part before now [] told in
    subst (λ (p : List ℕ). Appends before now p) (no_front part.part part.more part.all) part.told

cut_puts : (outcome : Option ClientOutcome) (before now : Option (List ℕ)) → AppendsFront before now (outcome_lines outcome) → Puts SinkFault before now
cut_puts None before now told = ([], 0, nothing_front before now (in_lines [] 0) (front_nothing before now told))
cut_puts (Some (outcomes.In name key echoed)) before now told = (name, echoed, told)
cut_puts (Some (outcomes.Refused cause)) before now told = ([], 0, nothing_front before now (in_lines [] 0) (front_nothing before now told))
cut_puts (Some (outcomes.NoAnswer cause)) before now told = ([], 0, nothing_front before now (in_lines [] 0) (front_nothing before now told))
cut_puts (Some (outcomes.BadPeer fault)) before now told = ([], 0, nothing_front before now (in_lines [] 0) (front_nothing before now told))

says_puts : (outcome : Option ClientOutcome) (before now : Option (List ℕ)) (exit : Exit) → Says outcome before now exit → Puts exit before now
says_puts outcome before now Done says = whole_puts outcome before now Done says.0 says.1
says_puts outcome before now (Refused cause) says = whole_puts outcome before now (Refused cause) says.0 says.1
says_puts outcome before now (BadWords number) says = whole_puts outcome before now (BadWords number) says.0 says.1
says_puts outcome before now FileFault says = whole_puts outcome before now FileFault says.0 says.1
says_puts outcome before now (BadTable cause) says = whole_puts outcome before now (BadTable cause) says.0 says.1
says_puts outcome before now (BadInput number) says = whole_puts outcome before now (BadInput number) says.0 says.1
says_puts outcome before now PortFault says = whole_puts outcome before now PortFault says.0 says.1
says_puts outcome before now SinkFault says = cut_puts outcome before now says
says_puts outcome before now NoMemory says = subst (λ (n : Option (List ℕ)). Appends before n []) (sym says) (Appends-nothing before)
says_puts outcome before now (NoAnswer cause) says = whole_puts outcome before now (NoAnswer cause) says.0 says.1
says_puts outcome before now (BadPeer fault) says = whole_puts outcome before now (BadPeer fault) says.0 says.1
says_puts outcome before now Spent says = whole_puts outcome before now Spent says.0 says.1

front_since : (first second third : Option (List ℕ)) (items : List ℕ) → Appends first second [] → AppendsFront second third items → AppendsFront first third items
front_since first second third items none told =
    let part = AppendsFront-part second third items told in
    subst (λ (i : List ℕ). AppendsFront first third i) part.all (AppendsFront-append first third part.part part.more (Appends-trans first second third [] part.part none part.told))

-- what was told before nothing was put is what is told
since : (exit : Exit) (first second third : Option (List ℕ)) → Appends first second [] → Puts exit second third → Puts exit first third
since Done first second third none puts = (puts.0, puts.1, Appends-trans first second third [] (in_lines puts.0 puts.1) none puts.2)
since SinkFault first second third none puts = (puts.0, puts.1, front_since first second third (in_lines puts.0 puts.1) none puts.2)
since (Refused cause) first second third none puts = joined first second third none puts
since (BadWords number) first second third none puts = joined first second third none puts
since FileFault first second third none puts = joined first second third none puts
since (BadTable cause) first second third none puts = joined first second third none puts
since (BadInput number) first second third none puts = joined first second third none puts
since PortFault first second third none puts = joined first second third none puts
since NoMemory first second third none puts = joined first second third none puts
since (NoAnswer cause) first second third none puts = joined first second third none puts
since (BadPeer fault) first second third none puts = joined first second third none puts
since Spent first second third none puts = joined first second third none puts

puts_law : (plan : ClientPlan) (seed : List ℕ) (boot : ℕ) (before after : Sight) (exit : Exit) → LogonEnds plan seed boot before after exit → Puts exit before.taken after.taken
puts_law plan seed boot before after exit logon =
    subst (λ (t : Option (List ℕ)). Puts exit t after.taken) logon.opens.taken
    (elim logon.ends [
      | inl none ↦ subst (λ (e : Exit). Puts e logon.opened.taken after.taken) (sym none.0) (subst (λ (s : Sight). Appends logon.opened.taken s.taken []) (sym none.1) (Appends-nothing logon.opened.taken))
      | inr begun ↦ elim begun [
        | inl breaks ↦ halt_puts breaks.halt exit logon.opened.taken after.taken breaks.exit_is (until_quiet (first_actions plan) (client_that_dials plan) most_answers logon.opened after breaks.halt breaks.run)
        | inr ends ↦ since exit logon.opened.taken ends.ended.taken after.taken (begun_quiet (first_actions plan) (client_that_dials plan) ends.last most_answers logon.opened ends.ended ends.run) (says_puts ends.last.outcome ends.ended.taken after.taken exit ends.says)
      ]
    ])

-- ---- what an exit shows of the run

halt_comes : (plan : ClientPlan) (seed : List ℕ) (boot : ℕ) (before opened after : Sight) (halt : Halt) (exit : Exit) → Opens seed boot before opened [] → exit ≡ halt_exit halt →
    BegunUntil client_machine None (first_actions plan) (client_that_dials plan) most_answers opened after halt → ComesBy exit plan seed boot before after
halt_comes plan seed boot before opened after halts.PortFault exit opens is run = subst (λ (e : Exit). ComesBy e plan seed boot before after) (sym is) (record { opened = opened; opens = opens; run = run })
halt_comes plan seed boot before opened after halts.FileFault exit opens is run = subst (λ (e : Exit). ComesBy e plan seed boot before after) (sym is) tt
halt_comes plan seed boot before opened after halts.SinkFault exit opens is run = subst (λ (e : Exit). ComesBy e plan seed boot before after) (sym is) tt
halt_comes plan seed boot before opened after halts.NoMemory exit opens is run = subst (λ (e : Exit). ComesBy e plan seed boot before after) (sym is) tt
halt_comes plan seed boot before opened after halts.Spent exit opens is run = subst (λ (e : Exit). ComesBy e plan seed boot before after) (sym is) (record { opened = opened; opens = opens; run = run })

ran_to : (plan : ClientPlan) (seed : List ℕ) (boot : ℕ) (before opened after : Sight) (exit : Exit) (outcome : Option ClientOutcome) → Opens seed boot before opened [] → (ends : Concludes plan opened after exit) →
    ends.last.outcome ≡ outcome → RanTo plan seed boot before after outcome
ran_to plan seed boot before opened after exit outcome opens ends is = record { opened = opened; opens = opens; last = ends.last; ended = ends.ended; run = ends.run; outcome_is = is; only = ends.only }

-- an outcome whose exit is `Done`, with its lines
record Lets (outcome : Option ClientOutcome) (before now : Option (List ℕ)) : Type 0 where
  name : List ℕ
  key : List ℕ
  echoed : ℕ
  is : outcome ≡ Some (outcomes.In name key echoed)
  put : Appends before now (in_lines name echoed)

lets_in : (outcome : Option ClientOutcome) (before now : Option (List ℕ)) → Done ≡ outcome_exit outcome → Appends before now (outcome_lines outcome) → Lets outcome before now
lets_in None before now is put = absurd cc
lets_in (Some (outcomes.In name key echoed)) before now is put = record { name = name; key = key; echoed = echoed; is = refl; put = put }
lets_in (Some (outcomes.Refused cause)) before now is put = absurd cc
lets_in (Some (outcomes.NoAnswer cause)) before now is put = absurd cc
lets_in (Some (outcomes.BadPeer fault)) before now is put = absurd cc

refused_by : (outcome : Option ClientOutcome) (cause : RefusedCause) → Refused cause ≡ outcome_exit outcome → outcome ≡ Some (outcomes.Refused cause)
refused_by None cause is = absurd cc
refused_by (Some (outcomes.In name key echoed)) cause is = absurd cc
refused_by (Some (outcomes.Refused other)) cause is = let same : other ≡ cause = cc in ap (λ (c : RefusedCause). Some (outcomes.Refused c)) same
refused_by (Some (outcomes.NoAnswer other)) cause is = absurd cc
refused_by (Some (outcomes.BadPeer fault)) cause is = absurd cc

bad_by : (outcome : Option ClientOutcome) (fault : PeerFault) → BadPeer fault ≡ outcome_exit outcome → outcome ≡ Some (outcomes.BadPeer fault)
bad_by None fault is = absurd cc
bad_by (Some (outcomes.In name key echoed)) fault is = absurd cc
bad_by (Some (outcomes.Refused cause)) fault is = absurd cc
bad_by (Some (outcomes.NoAnswer cause)) fault is = absurd cc
bad_by (Some (outcomes.BadPeer other)) fault is = let same : other ≡ fault = cc in ap (λ (f : PeerFault). Some (outcomes.BadPeer f)) same

no_port_outcome : (outcome : Option ClientOutcome) → PortFault ≡ outcome_exit outcome → ⊥
no_port_outcome None is = cc
no_port_outcome (Some (outcomes.In name key echoed)) is = cc
no_port_outcome (Some (outcomes.Refused cause)) is = cc
no_port_outcome (Some (outcomes.NoAnswer cause)) is = cc
no_port_outcome (Some (outcomes.BadPeer fault)) is = cc

no_spent_outcome : (outcome : Option ClientOutcome) → Spent ≡ outcome_exit outcome → ⊥
no_spent_outcome None is = cc
no_spent_outcome (Some (outcomes.In name key echoed)) is = cc
no_spent_outcome (Some (outcomes.Refused cause)) is = cc
no_spent_outcome (Some (outcomes.NoAnswer cause)) is = cc
no_spent_outcome (Some (outcomes.BadPeer fault)) is = cc

is_in : (plan : ClientPlan) (seed : List ℕ) (boot : ℕ) (before opened after : Sight) → Opens seed boot before opened [] → (ends : Concludes plan opened after Done) → Lets ends.last.outcome ends.ended.taken after.taken →
    IsIn plan seed boot before after
is_in plan seed boot before opened after opens ends lets = record {
  name = lets.name;
  key = lets.key;
  echoed = lets.echoed;
  ran = ran_to plan seed boot before opened after Done (Some (outcomes.In lets.name lets.key lets.echoed)) opens ends lets.is;
  put = subst (λ (t : Option (List ℕ)). Appends t after.taken (in_lines lets.name lets.echoed)) opens.taken
      (Appends-trans opened.taken ends.ended.taken after.taken [] (in_lines lets.name lets.echoed) (begun_quiet (first_actions plan) (client_that_dials plan) ends.last most_answers opened ends.ended ends.run) lets.put);
}

says_comes : (plan : ClientPlan) (seed : List ℕ) (boot : ℕ) (before opened after : Sight) (exit : Exit) → Opens seed boot before opened [] → Concludes plan opened after exit → ComesBy exit plan seed boot before after
says_comes plan seed boot before opened after Done opens ends = is_in plan seed boot before opened after opens ends (lets_in ends.last.outcome ends.ended.taken after.taken ends.says.0 ends.says.1)
says_comes plan seed boot before opened after (Refused cause) opens ends = ran_to plan seed boot before opened after _ _ opens ends (refused_by ends.last.outcome cause ends.says.0)
says_comes plan seed boot before opened after (NoAnswer cause) opens ends = record { outcome = ends.last.outcome; ran = ran_to plan seed boot before opened after _ _ opens ends refl; exit_is = sym ends.says.0 }
says_comes plan seed boot before opened after (BadPeer fault) opens ends = ran_to plan seed boot before opened after _ _ opens ends (bad_by ends.last.outcome fault ends.says.0)
says_comes plan seed boot before opened after PortFault opens ends = absurd (no_port_outcome ends.last.outcome ends.says.0)
says_comes plan seed boot before opened after Spent opens ends = absurd (no_spent_outcome ends.last.outcome ends.says.0)
says_comes plan seed boot before opened after (BadWords number) opens ends = tt
says_comes plan seed boot before opened after FileFault opens ends = tt
says_comes plan seed boot before opened after (BadTable cause) opens ends = tt
says_comes plan seed boot before opened after (BadInput number) opens ends = tt
says_comes plan seed boot before opened after SinkFault opens ends = tt
says_comes plan seed boot before opened after NoMemory opens ends = tt

comes_law : (plan : ClientPlan) (seed : List ℕ) (boot : ℕ) (before after : Sight) (exit : Exit) → LogonEnds plan seed boot before after exit → ComesBy exit plan seed boot before after
comes_law plan seed boot before after exit logon =
    elim logon.ends [
      | inl none ↦ subst (λ (e : Exit). ComesBy e plan seed boot before after) (sym none.0) tt
      | inr begun ↦ elim begun [
        | inl breaks ↦ halt_comes plan seed boot before logon.opened after breaks.halt exit logon.opens breaks.exit_is breaks.run
        | inr ends ↦ says_comes plan seed boot before logon.opened after exit logon.opens ends
      ]
    ]

-- ---- a dial that failed

fails_by : (outcome : Option ClientOutcome) → NoAnswer DialFailed ≡ outcome_exit outcome → is_dial_failed outcome ≡ true
fails_by None is = absurd cc
fails_by (Some (outcomes.In name key echoed)) is = absurd cc
fails_by (Some (outcomes.Refused cause)) is = absurd cc
fails_by (Some (outcomes.NoAnswer DialFailed)) is = refl
fails_by (Some (outcomes.NoAnswer LinkClosed)) is = absurd cc
fails_by (Some (outcomes.NoAnswer NoController)) is = absurd cc
fails_by (Some (outcomes.BadPeer fault)) is = absurd cc

never_dial : (halt : Halt) → NoAnswer DialFailed ≡ halt_exit halt → ⊥
never_dial halts.PortFault is = absurd cc
never_dial halts.FileFault is = absurd cc
never_dial halts.SinkFault is = absurd cc
never_dial halts.NoMemory is = absurd cc
never_dial halts.Spent is = absurd cc

fails_around : (server seed : List ℕ) (boot : ℕ) (before opened ended after : Sight) → Opens seed boot before opened [] → after ≡ record ended { taken = after.taken } → FailsToDial server opened ended → FailsToDial server before after
fails_around server seed boot before opened ended after opens only fails = record {
  rose = rose_around seed boot before opened ended after opens only fails.rose;
  happened = fails.happened;
  told = around seed boot before opened ended after (happening.Dialled server None ∷ fails.happened) opens only fails.told;
}

dial_law : (plan : ClientPlan) (seed : List ℕ) (boot : ℕ) (before after : Sight) (exit : Exit) → LogonEnds plan seed boot before after exit → exit ≡ NoAnswer DialFailed → FailsToDial plan.server before after
dial_law plan seed boot before after exit logon is =
    elim logon.ends [
      | inl none ↦ absurd (let never : NoMemory ≡ NoAnswer DialFailed = sym none.0 ∙ is in cc)
      | inr begun ↦ elim begun [
        | inl breaks ↦ absurd (never_dial breaks.halt (sym is ∙ breaks.exit_is))
        | inr ends ↦
            let says : Says ends.last.outcome ends.ended.taken after.taken (NoAnswer DialFailed) = subst (λ (e : Exit). Says ends.last.outcome ends.ended.taken after.taken e) is ends.says in
            fails_around plan.server seed boot before logon.opened ends.ended after logon.opens ends.only (dial_cause plan ends.last most_answers logon.opened ends.ended ends.run (fails_by ends.last.outcome says.0))
      ]
    ]

-- ---- a link that was lost

closed_by : (outcome : Option ClientOutcome) → NoAnswer LinkClosed ≡ outcome_exit outcome → (outcome ≡ None) ⊎ (is_link_closed outcome ≡ true)
closed_by None is = inl refl
closed_by (Some (outcomes.In name key echoed)) is = absurd cc
closed_by (Some (outcomes.Refused cause)) is = absurd cc
closed_by (Some (outcomes.NoAnswer DialFailed)) is = absurd cc
closed_by (Some (outcomes.NoAnswer LinkClosed)) is = inr refl
closed_by (Some (outcomes.NoAnswer NoController)) is = absurd cc
closed_by (Some (outcomes.BadPeer fault)) is = absurd cc

never_closed : (halt : Halt) → NoAnswer LinkClosed ≡ halt_exit halt → ⊥
never_closed halts.PortFault is = absurd cc
never_closed halts.FileFault is = absurd cc
never_closed halts.SinkFault is = absurd cc
never_closed halts.NoMemory is = absurd cc
never_closed halts.Spent is = absurd cc

over_none : (outcome : Option ClientOutcome) → outcome ≡ None → has_outcome outcome ≡ false
over_none outcome none = rw none refl

closed_lost : (outcome : Option ClientOutcome) → NoAnswer LinkClosed ≡ outcome_exit outcome → (has_outcome outcome ≡ false) ⊎ (is_link_closed outcome ≡ true)
closed_lost outcome is =
    elim (closed_by outcome is) [
      | inl none ↦ inl (over_none outcome none)
      | inr closed ↦ inr closed
    ]

goes_gone : (what : Event) (want : Option ℕ) → LinkGoes what want → is_gone what want ≡ true
goes_gone (event.Closed link) want goes = subst (λ (w : Option ℕ). is_gone (event.Closed link) w ≡ true) (sym goes) (same_number link)
goes_gone (event.Opened link) want goes = subst (λ (w : Option ℕ). is_gone (event.Opened link) w ≡ true) (sym goes) (same_number link)
goes_gone (event.Bytes link bytes) want goes = absurd goes
goes_gone (event.Dialled link) want goes = absurd goes
goes_gone event.DialFailed want goes = absurd goes
goes_gone event.Stop want goes = absurd goes

-- a client finds its link closed only where the event shows that it is gone
client_loses : LosesAtGone client_machine (λ s. is_link_closed s.outcome)
client_loses = record { at = λ s what now left was is. goes_gone what (want_by s.running) (losses_come_of_events.closed s what now left was is) }

closed_law : (plan : ClientPlan) (seed : List ℕ) (boot : ℕ) (before after : Sight) (exit : Exit) → LogonEnds plan seed boot before after exit → exit ≡ NoAnswer LinkClosed → LosesLink before after
closed_law plan seed boot before after exit logon is =
    elim logon.ends [
      | inl none ↦ absurd (let never : NoMemory ≡ NoAnswer LinkClosed = sym none.0 ∙ is in cc)
      | inr begun ↦ elim begun [
        | inl breaks ↦ absurd (never_closed breaks.halt (sym is ∙ breaks.exit_is))
        | inr ends ↦
            let says : Says ends.last.outcome ends.ended.taken after.taken (NoAnswer LinkClosed) = subst (λ (e : Exit). Says ends.last.outcome ends.ended.taken after.taken e) is ends.says in
            loses_around seed boot before logon.opened ends.ended after logon.opens ends.only (loses_link client_machine (first_actions plan) (client_that_dials plan) ends.last (λ s. is_link_closed s.outcome) client_loses logon.opened ends.ended refl ends.run (closed_lost ends.last.outcome says.0))
      ]
    ]

-- ---- a port that failed

port_law : (plan : ClientPlan) (seed : List ℕ) (boot : ℕ) (before after : Sight) (exit : Exit) → LogonEnds plan seed boot before after exit → exit ≡ PortFault → GivesFewer most_answers before after
port_law plan seed boot before after exit logon is =
    let ran : RanUntil plan seed boot before after halts.PortFault = subst (λ (e : Exit). ComesBy e plan seed boot before after) is (comes_law plan seed boot before after exit logon) in
    gives_fewer client_machine (first_actions plan) (client_that_dials plan) most_answers seed boot before ran.opened after ran.opens ran.run

-- ---- the exits of a client

halt_is : (plan : ClientPlan) (opened after : Sight) (halt : Halt) → BegunUntil client_machine None (first_actions plan) (client_that_dials plan) most_answers opened after halt → IsOfClients (halt_exit halt)
halt_is plan opened after halts.PortFault run = tt
halt_is plan opened after halts.FileFault run = never_file client_machine (first_actions plan) (client_that_dials plan) most_answers opened after run
halt_is plan opened after halts.SinkFault run = tt
halt_is plan opened after halts.NoMemory run = tt
halt_is plan opened after halts.Spent run = tt

outcome_exit_is : (outcome : Option ClientOutcome) → IsOfClients (outcome_exit outcome)
outcome_exit_is None = tt
outcome_exit_is (Some (outcomes.In name key echoed)) = tt
outcome_exit_is (Some (outcomes.Refused cause)) = tt
outcome_exit_is (Some (outcomes.NoAnswer cause)) = tt
outcome_exit_is (Some (outcomes.BadPeer fault)) = tt

excuse_is : (exit : Exit) → IsExcuse exit → IsOfClients exit
excuse_is Done is = absurd is
excuse_is (Refused cause) is = absurd is
excuse_is (BadWords number) is = absurd is
excuse_is FileFault is = absurd is
excuse_is (BadTable cause) is = absurd is
excuse_is (BadInput number) is = absurd is
excuse_is PortFault is = absurd is
excuse_is SinkFault is = tt
excuse_is NoMemory is = tt
excuse_is (NoAnswer cause) is = absurd is
excuse_is (BadPeer fault) is = absurd is
excuse_is Spent is = absurd is

either_is : (outcome : Option ClientOutcome) (exit : Exit) → (exit ≡ outcome_exit outcome) ⊎ IsExcuse exit → IsOfClients exit
either_is outcome exit (inl is) = subst IsOfClients (sym is) (outcome_exit_is outcome)
either_is outcome exit (inr is) = excuse_is exit is

exits_law : (plan : ClientPlan) (seed : List ℕ) (boot : ℕ) (before after : Sight) (exit : Exit) → LogonEnds plan seed boot before after exit → IsOfClients exit
exits_law plan seed boot before after exit logon =
    elim logon.ends [
      | inl none ↦ subst IsOfClients (sym none.0) tt
      | inr begun ↦ elim begun [
        | inl breaks ↦ subst IsOfClients (sym breaks.exit_is) (halt_is plan logon.opened after breaks.halt breaks.run)
        | inr ends ↦ either_is ends.last.outcome exit (says_exit ends.last.outcome ends.ended.taken after.taken exit ends.says)
      ]
    ]

pub logon_laws : LogonLaws
logon_laws = record { outcome = outcome_law; spent = spent_law; comes = comes_law; puts = puts_law; dial = dial_law; closed = closed_law; port = port_law; exits = exits_law }
