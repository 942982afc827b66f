-- What a station's run tells of its Logon, and the lines of it. It serves `what_is_told_decides_how_a_station_ends`.
use Rattle.std.proofs.Common.{ℕ, ◌≡◌, List, [], ◌∷◌, ◌++◌, Option, Some, None, Result, Ok, Err, refl, sym, ap, subst, ◌∙◌, IsTrue, append-nil, append_assoc}
use Rattle.std.specs.List.{flat_map}
use Rattle.std.proofs.lemmas.Grind.{flat_map-append}
use Rattle.outside.specs.Machine.{Stepped}
use Rattle.outside.specs.Telling.{Appends, AppendsFront}
use Rattle.outside.specs.declared.action.Action.{Action}
use Rattle.outside.specs.declared.action.Action.TheVariants as action
use Rattle.outside.specs.declared.action.Outcome.{Outcome}
use Rattle.outside.specs.declared.action.Outcome.TheVariants as told
use Rattle.outside.specs.declared.action.StepRefused.{StepRefused}
use Rattle.outside.specs.declared.event.Event.{Event}
use Rattle.outside.proofs.TellingLaws.{AppendsFront-append}
use Rattle.end_loop.specs.Acts.{next_line, puts}
use Rattle.end_loop.specs.Runs.{RunState, Step, AreSteps, actions_in, actions_of, lines_of, taken_actions}
use Rattle.interactive_station.specs.declared.outcome.StationOutcome.{StationOutcome}
use Rattle.interactive_station.specs.declared.outcome.StationOutcome.TheVariants.{Off, Refused, NoAnswer, BadPeer}
use Rattle.interactive_station.specs.declared.plan.StationPlan.{StationPlan}
use Rattle.interactive_station.specs.declared.state.StationCall.{StationCall}
use Rattle.interactive_station.specs.declared.state.StationCall.TheVariants.{Challenge, Authenticate, Logon, Logoff}
use Rattle.interactive_station.specs.declared.state.StationLink.{StationLink}
use Rattle.interactive_station.specs.declared.state.StationLink.TheVariants.{Dialling}
use Rattle.interactive_station.specs.declared.state.StationRunning.{StationRunning}
use Rattle.interactive_station.specs.Laws.{MovesOf, MovesTo}
use Rattle.interactive_station.specs.Lines.{in_line, told_line}
use Rattle.interactive_station.specs.Machine.{link_of, station_machine, step_of}
use Rattle.interactive_station.specs.Moves.{IsOutcomeAt, IsToldBefore, Moves, Stays, Begins, GoesOn, Ends, call_at, follows, told_by, told_in}
use Rattle.interactive_station.specs.State.{StationState}
use Rattle.interactive_station.proofs.MoveLaws.{moves_in_order}
use Rattle.interactive_station.proofs.StationLaws.{says_nothing}
use Rattle.wire_base.specs.declared.authenticator.Authenticator.{Authenticator}
use Rattle.authenticators.specs.SecureChannels.{SecureChannelState}
use Rattle.nt_top.specs.Station.{dialling_station}
use Rattle.nt_top.specs.StationExits.{IsGrant, granted_lines}

-- ---- where a station stands, by what it told so far

-- no call, or one before the Logoff
abbrev NoLogoff : Option StationCall → Type 0
NoLogoff None = Unit {0}
NoLogoff (Some (Challenge client)) = Unit {0}
NoLogoff (Some (Authenticate client server)) = Unit {0}
NoLogoff (Some (Logon o authenticator)) = Unit {0}
NoLogoff (Some (Logoff o authenticator domain user)) = ⊥

-- a user who is logged off has the names that were told
abbrev IsOffOf : StationOutcome → Option (List ℕ × List ℕ) → Type 0
IsOffOf (Off domain user) granted = granted ≡ Some (domain, user)
IsOffOf (Refused status) granted = Unit {0}
IsOffOf (NoAnswer cause) granted = Unit {0}
IsOffOf (BadPeer cause) granted = Unit {0}

pub data Stage (r : Option StationRunning) (outcome : Option StationOutcome) (tolds : List (ℕ × Outcome)) : Type 0 where
  Asking : (running : StationRunning) → r ≡ Some running → outcome ≡ None → NoLogoff (call_at running.standing) → tolds ≡ [] → Stage r outcome tolds
  LoggingOff : (running : StationRunning) (o : SecureChannelState) (authenticator : Authenticator) (domain user : List ℕ) (link : ℕ) (key : List ℕ) → r ≡ Some running → outcome ≡ None →
      call_at running.standing ≡ Some (Logoff o authenticator domain user) → tolds ≡ (link, told.In domain user key) ∷ [] → Stage r outcome tolds
  Over : (running : StationRunning) (how : StationOutcome) (granted : Option (List ℕ × List ℕ)) → r ≡ Some running → outcome ≡ Some how → IsOffOf how granted → IsGrant tolds granted → Stage r outcome tolds

abbrev pub StageOf : StationState → List (ℕ × Outcome) → Type 0
StageOf s tolds = Stage s.running s.outcome tolds

pub begins : (plan : StationPlan) → StageOf (dialling_station plan) []
begins plan = Asking _ refl refl tt refl

-- ---- from before the Logoff

off_none : (how : StationOutcome) (c : Option StationCall) → NoLogoff c → IsOutcomeAt how c → IsOffOf how None
off_none (Off domain user) None none is = absurd is
off_none (Off domain user) (Some (Challenge client)) none is = absurd is
off_none (Off domain user) (Some (Authenticate client server)) none is = absurd is
off_none (Off domain user) (Some (Logon o authenticator)) none is = absurd is
off_none (Off domain user) (Some (Logoff o authenticator one other)) none is = absurd none
off_none (Refused status) c none is = tt
off_none (NoAnswer cause) c none is = tt
off_none (BadPeer cause) c none is = tt

told_before : (o : SecureChannelState) (authenticator : Authenticator) (domain user : List ℕ) (link : Option ℕ) (more : List (ℕ × Outcome)) → IsToldBefore (Logoff o authenticator domain user) link more →
    (number : ℕ) × (key : List ℕ) × (more ≡ (number, told.In domain user key) ∷ [])
told_before o authenticator domain user (Some link) more is = (link, is.0, is.1)
told_before o authenticator domain user None more is = absurd is

goes_on : (link : Option ℕ) (running : StationRunning) (outcome : Option StationOutcome) (more : List (ℕ × Outcome)) (next : StationCall) → running.standing ≡ Dialling (Some next) → outcome ≡ None →
    IsToldBefore next link more → Stage (Some running) outcome more
goes_on link running outcome more (Challenge client) there none is = Asking running refl none (subst (λ l. NoLogoff (call_at l)) (sym there) tt) is
goes_on link running outcome more (Authenticate client server) there none is = Asking running refl none (subst (λ l. NoLogoff (call_at l)) (sym there) tt) is
goes_on link running outcome more (Logon o authenticator) there none is = Asking running refl none (subst (λ l. NoLogoff (call_at l)) (sym there) tt) is
goes_on link running outcome more (Logoff o authenticator domain user) there none is =
    let told_is = told_before o authenticator domain user link more is in
    LoggingOff running o authenticator domain user told_is.0 told_is.1 refl none (ap call_at there) told_is.2

from_asking : (before : StationLink) (running : StationRunning) (outcome : Option StationOutcome) (more : List (ℕ × Outcome)) → NoLogoff (call_at before) → Moves before running.standing outcome more →
    Stage (Some running) outcome more
from_asking before running outcome more none (Stays same without quiet) = Asking running refl without (subst NoLogoff (sym same) none) quiet
from_asking before running outcome more none (Begins client dials same without quiet) = Asking running refl without (subst NoLogoff (sym same) tt) quiet
from_asking before running outcome more none (GoesOn now next at there after without is) = goes_on (link_of before) running outcome more next there without is
from_asking before running outcome more none (Ends how rests is off quiet) = Over running how None refl is (off_none how (call_at before) none off) quiet

-- ---- from the Logoff on

one_more : (tolds more all : List (ℕ × Outcome)) → more ≡ [] → tolds ≡ all → tolds ++ more ≡ all
one_more tolds more all none is = ap (λ (m : List (ℕ × Outcome)). tolds ++ m) none ∙ append-nil tolds ∙ is

same_names : (domain user one other : List ℕ) → one ≡ domain → other ≡ user → ◌≡◌ {A = Option (List ℕ × List ℕ)} (Some (domain, user)) (Some (one, other))
same_names domain user one other d u = λ i. Some (sym d i, sym u i)

off_same : (o : SecureChannelState) (authenticator : Authenticator) (domain user : List ℕ) (how : StationOutcome) → IsOutcomeAt how (Some (Logoff o authenticator domain user)) → IsOffOf how (Some (domain, user))
off_same o authenticator domain user (Off one other) is = same_names domain user one other is.0 is.1
off_same o authenticator domain user (Refused status) is = tt
off_same o authenticator domain user (NoAnswer cause) is = tt
off_same o authenticator domain user (BadPeer cause) is = tt

nothing_follows : (now next : StationCall) (o : SecureChannelState) (authenticator : Authenticator) (domain user : List ℕ) → ◌≡◌ {A = Option StationCall} (Some now) (Some (Logoff o authenticator domain user)) →
    IsTrue (follows now next) → ⊥
nothing_follows now next o authenticator domain user is after =
    let same : now ≡ Logoff o authenticator domain user = cc in
    let wrong : IsTrue (follows (Logoff o authenticator domain user) next) = subst (λ (c : StationCall). IsTrue (follows c next)) same after in
    absurd cc

from_logoff : (before : StationLink) (running : StationRunning) (outcome : Option StationOutcome) (tolds more : List (ℕ × Outcome)) (o : SecureChannelState) (authenticator : Authenticator) (domain user : List ℕ)
    (link : ℕ) (key : List ℕ) → call_at before ≡ Some (Logoff o authenticator domain user) → tolds ≡ (link, told.In domain user key) ∷ [] → Moves before running.standing outcome more →
    Stage (Some running) outcome (tolds ++ more)
from_logoff before running outcome tolds more o authenticator domain user link key at is (Stays same without quiet) =
    LoggingOff running o authenticator domain user link key refl without (same ∙ at) (one_more tolds more _ quiet is)
from_logoff before running outcome tolds more o authenticator domain user link key at is (Begins client dials same without quiet) =
    absurd (let wrong : None ≡ Some (Logoff o authenticator domain user) = sym (ap call_at dials) ∙ at in cc)
from_logoff before running outcome tolds more o authenticator domain user link key at is (GoesOn now next here there after without told_is) =
    absurd (nothing_follows now next o authenticator domain user (sym here ∙ at) after)
from_logoff before running outcome tolds more o authenticator domain user link key at is (Ends how rests ended off quiet) =
    Over running how (Some (domain, user)) refl ended (off_same o authenticator domain user how (subst (IsOutcomeAt how) at off)) (link, key, one_more tolds more _ quiet is)

-- ---- steps

asking_to : (before : StationLink) (r : Option StationRunning) (outcome : Option StationOutcome) (more : List (ℕ × Outcome)) → NoLogoff (call_at before) → MovesTo before r outcome more → Stage r outcome more
asking_to before None outcome more none moves = absurd moves
asking_to before (Some running) outcome more none moves = from_asking before running outcome more none moves

logoff_to : (before : StationLink) (r : Option StationRunning) (outcome : Option StationOutcome) (tolds more : List (ℕ × Outcome)) (o : SecureChannelState) (authenticator : Authenticator) (domain user : List ℕ)
    (link : ℕ) (key : List ℕ) → call_at before ≡ Some (Logoff o authenticator domain user) → tolds ≡ (link, told.In domain user key) ∷ [] → MovesTo before r outcome more → Stage r outcome (tolds ++ more)
logoff_to before None outcome tolds more o authenticator domain user link key at is moves = absurd moves
logoff_to before (Some running) outcome tolds more o authenticator domain user link key at is moves = from_logoff before running outcome tolds more o authenticator domain user link key at is moves

moves_by : (s : StationState) (running : StationRunning) (what : Event) (now : ℕ) (left : List (List ℕ)) (actions : List Action) (after : StationState) → s.running ≡ Some running → s.outcome ≡ None →
    (step_of s what now left).answer ≡ Ok actions → (step_of s what now left).state ≡ after → MovesTo running.standing after.running after.outcome (told_in actions)
moves_by s running what now left actions after runs none answer there =
    subst (λ (state : StationState). MovesOf running.standing (Ok actions) state) there
    (subst (λ (a : Result (List Action) StepRefused). MovesOf running.standing a (step_of s what now left).state) answer (moves_in_order.each s running what now left runs none))

silent_to : (s : StationState) (tolds : List (ℕ × Outcome)) (answer : Result (List Action) StepRefused) (actions : List Action) (state after : StationState) → answer ≡ Ok [] → state ≡ s → answer ≡ Ok actions → state ≡ after →
    StageOf s tolds → StageOf after (tolds ++ told_in actions)
silent_to s tolds answer actions state after silent same is there stage =
    let none : [] ≡ actions = (let both : Ok [] ≡ Ok actions = sym silent ∙ is in cc) in
    let kept : tolds ≡ tolds ++ told_in actions = sym (append-nil tolds) ∙ ap (λ (a : List Action). tolds ++ told_in a) none in
    subst (λ (t : List (ℕ × Outcome)). StageOf after t) kept (subst (λ (x : StationState). StageOf x tolds) (sym same ∙ there) stage)

pub step_stage : (s : StationState) (tolds : List (ℕ × Outcome)) (what : Event) (now : ℕ) (left : List (List ℕ)) (actions : List Action) (after : StationState) → StageOf s tolds →
    (step_of s what now left).answer ≡ Ok actions → (step_of s what now left).state ≡ after → StageOf after (tolds ++ told_in actions)
step_stage s tolds what now left actions after (Asking running runs none no_logoff quiet) answer there =
    let stage = asking_to running.standing after.running after.outcome (told_in actions) no_logoff (moves_by s running what now left actions after runs none answer there) in
    subst (λ (t : List (ℕ × Outcome)). StageOf after (t ++ told_in actions)) (sym quiet) stage
step_stage s tolds what now left actions after (LoggingOff running o authenticator domain user link key runs none at is) answer there =
    logoff_to running.standing after.running after.outcome tolds (told_in actions) o authenticator domain user link key at is (moves_by s running what now left actions after runs none answer there)
step_stage s tolds what now left actions after (Over running how granted runs ended off grant) answer there =
    let silent = says_nothing.silent s running how what now left runs ended in
    silent_to s tolds _ actions _ after silent.0 silent.1 answer there (Over running how granted runs ended off grant)

pub steps_stage : (start last : RunState StationState) (steps : List Step) (tolds : List (ℕ × Outcome)) → AreSteps station_machine start steps last → StageOf start.state tolds →
    StageOf last.state (tolds ++ told_in (actions_in steps))
steps_stage start last [] tolds are stage =
    subst (λ (t : List (ℕ × Outcome)). StageOf last.state t) (sym (append-nil tolds)) (subst (λ (p : RunState StationState). StageOf p.state tolds) (sym are) stage)
steps_stage start last (step ∷ steps) tolds are stage =
    let answer = ap (λ (s : Stepped StationState). s.answer) are.1.is in
    let there = ap (λ (s : Stepped StationState). s.state) are.1.is in
    let here = step_stage start.state tolds step.event step.moment start.left step.actions are.0.state stage answer there in
    let rest = steps_stage are.0 last steps (tolds ++ told_in step.actions) are.2 here in
    let all : (tolds ++ told_in step.actions) ++ told_in (actions_in steps) ≡ tolds ++ told_in (actions_in (step ∷ steps)) =
    append_assoc tolds (told_in step.actions) (told_in (actions_in steps)) ∙ ap (λ (t : List (ℕ × Outcome)). tolds ++ t) (sym (flat_map-append told_by step.actions (actions_in steps))) in
    subst (λ (t : List (ℕ × Outcome)). StageOf last.state t) all rest

-- ---- what a stage says of the Logon

pub grant_of : (r : Option StationRunning) (outcome : Option StationOutcome) (tolds : List (ℕ × Outcome)) → Stage r outcome tolds → (granted : Option (List ℕ × List ℕ)) × IsGrant tolds granted
grant_of r outcome tolds (Asking running runs none no_logoff quiet) = (None, quiet)
grant_of r outcome tolds (LoggingOff running o authenticator domain user link key runs none at is) = (Some (domain, user), (link, key, is))
grant_of r outcome tolds (Over running how granted runs ended off grant) = (granted, grant)

pub off_granted : (r : Option StationRunning) (outcome : Option StationOutcome) (tolds : List (ℕ × Outcome)) (domain user : List ℕ) → outcome ≡ Some (Off domain user) → Stage r outcome tolds →
    IsGrant tolds (Some (domain, user))
off_granted r outcome tolds domain user is (Asking running runs none no_logoff quiet) = absurd (let wrong : None ≡ Some (Off domain user) = sym none ∙ is in cc)
off_granted r outcome tolds domain user is (LoggingOff running o authenticator one other link key runs none at told_is) = absurd (let wrong : None ≡ Some (Off domain user) = sym none ∙ is in cc)
off_granted r outcome tolds domain user is (Over running how granted runs ended off grant) =
    let same : how ≡ Off domain user = (let both : Some how ≡ Some (Off domain user) = sym ended ∙ is in cc) in
    let names : granted ≡ Some (domain, user) = subst (λ (h : StationOutcome). IsOffOf h granted) same off in
    subst (IsGrant tolds) names grant

-- a step that was begun tells of the Logon together with the steps before it
begun_grant : (s : StationState) (tolds : List (ℕ × Outcome)) (what : Event) (now : ℕ) (left : List (List ℕ)) (answer : Result (List Action) StepRefused) → (step_of s what now left).answer ≡ answer → StageOf s tolds →
    (granted : Option (List ℕ × List ℕ)) × IsGrant (tolds ++ told_in (taken_actions answer)) granted
begun_grant s tolds what now left (Ok actions) is stage = grant_of _ _ _ (step_stage s tolds what now left actions (step_of s what now left).state stage is refl)
begun_grant s tolds what now left (Err why) is stage =
    let grant = grant_of s.running s.outcome tolds stage in
    (grant.0, subst (λ (t : List (ℕ × Outcome)). IsGrant t grant.0) (sym (append-nil tolds)) grant.1)

-- ---- lines

abbrev told_lines : List (ℕ × Outcome) → List ℕ
told_lines tolds = flat_map (λ (t : ℕ × Outcome). told_line t.1) tolds

line_told : (what : Action) → puts station_machine what ≡ told_lines (told_by what)
line_told (action.Told link how) = sym (append-nil (told_line how))
line_told (action.Judged judged) = refl
line_told (action.Keep bytes) = refl
line_told (action.Send link bytes) = refl
line_told (action.Dial peer) = refl
line_told (action.Close link cause) = refl

lines_told : (actions : List Action) → flat_map (puts station_machine) actions ≡ told_lines (told_in actions)
lines_told [] = refl
lines_told (what ∷ actions) =
    ap (λ (l : List ℕ). l ++ flat_map (puts station_machine) actions) (line_told what)
    ∙ ap (λ (l : List ℕ). told_lines (told_by what) ++ l) (lines_told actions)
    ∙ sym (flat_map-append (λ (t : ℕ × Outcome). told_line t.1) (told_by what) (told_in actions))

joined_lines : (one other : List Action) → told_lines (told_in one) ++ told_lines (told_in other) ≡ told_lines (told_in (one ++ other))
joined_lines one other =
    sym (flat_map-append (λ (t : ℕ × Outcome). told_line t.1) (told_in one) (told_in other))
    ∙ ap told_lines (sym (flat_map-append told_by one other))

run_lines : (steps : List Step) → lines_of (puts station_machine) steps ≡ told_lines (told_in (actions_in steps))
run_lines [] = refl
run_lines (step ∷ steps) =
    ap (λ (l : List ℕ). l ++ lines_of (puts station_machine) steps) (lines_told step.actions)
    ∙ ap (λ (l : List ℕ). told_lines (told_in step.actions) ++ l) (run_lines steps)
    ∙ joined_lines step.actions (actions_in steps)

grant_lines : (tolds : List (ℕ × Outcome)) (granted : Option (List ℕ × List ℕ)) → IsGrant tolds granted → told_lines tolds ≡ granted_lines granted
grant_lines tolds None is = ap told_lines is
grant_lines tolds (Some names) is = ap told_lines is.2 ∙ append-nil (in_line names.0 names.1)

-- the lines of a run whose Logon was granted so
pub run_grants : (steps : List Step) (granted : Option (List ℕ × List ℕ)) → IsGrant (told_in (actions_in steps)) granted → lines_of (puts station_machine) steps ≡ granted_lines granted
run_grants steps granted is = run_lines steps ∙ grant_lines (told_in (actions_in steps)) granted is

-- ---- actions that were cut short

next_front : (line : Action → List ℕ) (rest : List Action) → (behind : List ℕ) × (next_line line rest ++ behind ≡ flat_map line rest)
next_front line [] = ([], refl)
next_front line (what ∷ rest) = (flat_map line rest, refl)

-- what was put of them is a front of their lines
pub cut_front : (line : Action → List ℕ) (done rest all : List Action) (part more : List ℕ) → done ++ rest ≡ all → part ++ more ≡ next_line line rest →
    (behind : List ℕ) × ((flat_map line done ++ part) ++ behind ≡ flat_map line all)
cut_front line done rest all part more whole front =
    let next = next_front line rest in (
      more ++ next.0,
      append_assoc (flat_map line done) part (more ++ next.0)
          ∙ ap (λ (l : List ℕ). flat_map line done ++ l) (sym (append_assoc part more next.0) ∙ ap (λ (l : List ℕ). l ++ next.0) front ∙ next.1)
          ∙ sym (flat_map-append line done rest)
          ∙ ap (flat_map line) whole,
    )

-- the lines of a run and of a step that it began, whose Logon was granted so or not, up to where the step was cut short
pub begun_front : (last : StationState) (what : Event) (now : ℕ) (left : List (List ℕ)) (steps : List Step) (done rest : List Action) (part more : List ℕ) (before after : Option (List ℕ)) →
    StageOf last (told_in (actions_in steps)) → done ++ rest ≡ actions_of (step_of last what now left) → part ++ more ≡ next_line (puts station_machine) rest →
    Appends before after (lines_of (puts station_machine) steps ++ (flat_map (puts station_machine) done ++ part)) → (granted : Option (List ℕ × List ℕ)) × AppendsFront before after (granted_lines granted)
begun_front last what now left steps done rest part more before after stage whole front put =
    let line = puts station_machine in
    let acts = actions_of (step_of last what now left) in
    let grant = begun_grant last (told_in (actions_in steps)) what now left (step_of last what now left).answer refl stage in
    let cut = cut_front line done rest acts part more whole front in
    let all : (lines_of line steps ++ (flat_map line done ++ part)) ++ cut.0 ≡ granted_lines grant.0 =
    append_assoc (lines_of line steps) (flat_map line done ++ part) cut.0
    ∙ ap (λ (l : List ℕ). lines_of line steps ++ l) (cut.1 ∙ lines_told acts)
    ∙ ap (λ (l : List ℕ). l ++ told_lines (told_in acts)) (run_lines steps)
    ∙ sym (flat_map-append (λ (t : ℕ × Outcome). told_line t.1) (told_in (actions_in steps)) (told_in acts))
    ∙ grant_lines (told_in (actions_in steps) ++ told_in acts) grant.0 grant.1 in (
      grant.0,
      subst (λ (l : List ℕ). AppendsFront before after l) all
          (AppendsFront-append before after (lines_of line steps ++ (flat_map line done ++ part)) cut.0 put),
    )
