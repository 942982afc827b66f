-- In every run a controller grants a Logon call exactly where it is to be granted, by the accounts of the plan, whether
-- it hands logons on or not: what is handed on is granted by none of its accounts. It serves `Proved.grants` and
-- `Proved.let_on`.
use Rattle.std.proofs.Common.{◌≡◌, ◌⊎◌, ◌==◌, ◌||◌, Bool, ◌↔◌, ℕ, true, false, List, [], ◌∷◌, length, Option, Some, None, Ok, Err, inl, inr, slice_get, slice_set, if◌then◌else◌, refl, sym, ap, subst, ◌∙◌}
use Rattle.std.specs.List.{AllByRecursion}
use Rattle.wire_base.specs.Names.{SameName, same_name}
use Rattle.wire_base.proofs.ListLaws.{all_weaker}
use Rattle.wire_base.proofs.NameLaws.{same_name-Decides}
use Rattle.outside.specs.Machine.{step_by}
use Rattle.outside.specs.declared.action.Judged.TheVariants as judged
use Rattle.outside.specs.declared.event.Event.{Event}
use Rattle.outside.specs.declared.event.Event.TheVariants as event
use Rattle.logon_stubs.specs.declared.calls.LogonCall.{LogonCall}
use Rattle.logon_stubs.specs.declared.info.NetworkInfo.{NetworkInfo}
use Rattle.account_table.specs.AccountTable.{AccountTable}
use Rattle.account_table.specs.Changes.{DifferInStates}
use Rattle.account_table.specs.LookUps.{route_in}
use Rattle.account_table.specs.declared.table.Route.{Route}
use Rattle.account_table.specs.declared.table.Route.TheVariants as route
use Rattle.account_table.proofs.ChangeLaws.{states-none}
use Rattle.controller_calls.specs.Calls.{asked_of}
use Rattle.controller_calls.specs.declared.calls.Asked.TheVariants as asked
use Rattle.controller_calls.specs.declared.calls.ControllerCall.TheVariants as call
use Rattle.controller_calls.specs.declared.calls.JudgedCall.{JudgedCall}
use Rattle.controller_calls.specs.declared.calls.JudgedCall.TheVariants.{Network}
use Rattle.controller_calls.specs.declared.line.Line.{Line}
use Rattle.domain_controller.specs.Forwarding.{TrustDesk}
use Rattle.domain_controller.specs.Hearing.{first_talk}
use Rattle.domain_controller.specs.Machine.{Desk, answer_judged, status_of}
use Rattle.domain_controller.specs.State.{State as ControllerState}
use Rattle.domain_controller.specs.TrustStep.{TrustPart, TrustParts, trust_halted, trust_state_after, trust_step_of, trust_step_on, trust_step_part}
use Rattle.domain_controller.specs.declared.hearing.Heard.TheVariants as heard
use Rattle.domain_controller.specs.declared.state.Running.{Running}
use Rattle.domain_controller.proofs.CountLaws.{counts_by_verdict, heard-differs}
use Rattle.step_notes.specs.ControllerNotes.{Answered, Where, has_passed}
use Rattle.step_notes.specs.Judged.{IsJudgedRight, IsNextOn}
use Rattle.step_notes.specs.Records.{Judging, given_in}
use Rattle.step_notes.specs.ReplySends.{verdict_passed}
use Rattle.step_notes.proofs.Controllers.GrantVerdictLaws.{IsServedGrant, granted_status, served_grant}
use Rattle.step_notes.proofs.Controllers.JudgedCallLaws.{if_network, status_done}
use Rattle.step_notes.proofs.Controllers.JudgedStepLaws.{same_status}
use Rattle.step_notes.proofs.Controllers.TrustedStepLaws.{IsTrusted, trusted_how}
use Rattle.world_moves.specs.declared.moves.Move.{Move}
use Rattle.world_moves.specs.declared.plan.Plan.{Plan}
use Rattle.world_moves.specs.Ends.{fresh_controller}
use Rattle.world_moves.specs.Plain.{IsPlainPlan, plain_world}
use Rattle.domain_world.specs.Claims.Grants.{GrantsWhoMayLogOn, IsGrantedRightly, IsToBeGranted, users_of}
use Rattle.domain_world.specs.Claims.Statuses.{TellsItsStatus}
use Rattle.domain_world.specs.Past.{answers_of, at_controller, judged_of, note_controller, numbers_on, past}
use Rattle.domain_world.proofs.Frames.AloneStepLaws.{fresh_by}
use Rattle.domain_world.proofs.Frames.ControllerFrameLaws.{ControllersFact}
use Rattle.domain_world.proofs.Frames.EndNoteLaws.{judged_so, judgings_of}
use Rattle.domain_world.proofs.Frames.TrustingFrameLaws.{KeepsTrusting, controllers_after}
use Rattle.domain_world.proofs.Judgements.GrantLaws.{IsPlanned, KeepsPlan, call_status, first_planned, planned_later}
use Rattle.domain_world.proofs.Judgements.JudgedLaws.{AreRight, HoldsOfEach, each_of_step, judged_hold, judged_rightly, onto_hold, trusted_judging}
use Rattle.domain_world.proofs.Messages.MessageOnceLaws.{set_cases}

-- ---- a call

-- The call comes for a trusted domain, and isn't told to have passed with status 0.
pub record IsElsewhere (j : Judging) : Type 0 where
  pub refused : j.how ≡ Some (judged.Passed 0) → ⊥
  pub info : NetworkInfo
  pub validation : ℕ
  pub asks : asked_of j.asked ≡ asked.Network info validation
  pub trust : ℕ
  pub routed : route_in j.table info.domain ≡ route.Trust trust

-- a call that is judged here is told with its status
abbrev pub IsToldSo : Judging → Type 0
IsToldSo j = TellsItsStatus j ⊎ IsElsewhere j

abbrev IsByTable : Plan → Judging → Type 0
IsByTable plan j = IsPlanned plan j.controller j.table j.name × IsToldSo j

pub call_differs : (c : JudgedCall) (name : List ℕ) (now : ℕ) (line : Line) (d : Desk) → DifferInStates d.table (answer_judged c name now line d).table
call_differs c name now line d = heard-differs (heard.Asked line (call.Judged c) first_talk) line.link name now d []

trusted_elsewhere : (w : Where) (line : Line) (c : JudgedCall) (d after : TrustDesk) → IsTrusted c d after → IsElsewhere (trusted_judging w line c d after)
trusted_elsewhere w line c d after is = record {
  refused = λ granted.
      let both : Some is.how ≡ Some (judged.Passed 0) = sym (trusted_how c d after is) ∙ granted in
      is.refused (let same : is.how ≡ judged.Passed 0 = cc in same);
  info = is.goes.info;
  validation = is.goes.validation;
  asks = is.goes.asks;
  trust = is.goes.trust;
  routed = is.goes.routed;
}

each_by_table : (plan : Plan) (w : Where) → HoldsOfEach w (λ (table : AccountTable). IsPlanned plan w.controller table w.name) (IsByTable plan)
each_by_table plan w = record {
  judged = λ line c d planned. (
    planned_later plan w.controller d.table (answer_judged c w.name w.moment line d).table w.name planned (call_differs c w.name w.moment line d),
    (planned, inl (call_status w line c d)),
  );
  trusted = λ line c d after is planned. (planned, inr (trusted_elsewhere w line c d after is));
}

-- which unit carries the reply changes nothing of that
by_reply : (plan : Plan) (j : Judging) (number : Option ℕ) → IsByTable plan j → IsByTable plan (record j { reply = number })
by_reply plan j number (planned, inl told) = (planned, inl told)
by_reply plan j number (planned, inr elsewhere) = (
  planned,
  inr (record {
    refused = elsewhere.refused;
    info = elsewhere.info;
    validation = elsewhere.validation;
    asks = elsewhere.asks;
    trust = elsewhere.trust;
    routed = elsewhere.routed;
  }),
)

-- ---- a step of a controller

part_named : (part : TrustPart) (c : ControllerState) (left : List (List ℕ)) →
    (step_by (λ (after : TrustParts). after.parts.work.work.actions) (λ after. trust_state_after c after) (trust_halted c) left part).state.name ≡ c.name
part_named (Err why) c left = refl
part_named (Ok part) c left = refl

running_named : (running : Option Running) (c : ControllerState) (what : Event) (now : ℕ) (left : List (List ℕ)) → (trust_step_on running c what now left).state.name ≡ c.name
running_named None c what now left = refl
running_named (Some running) c what now left = part_named (trust_step_part running c what now left) c left

step_keeps : (c : ControllerState) (what : Event) (now : ℕ) (left : List (List ℕ)) → KeepsPlan c (trust_step_of c what now left).state
step_keeps c what now left = (counts_by_verdict.trusting_states c what now left, running_named c.running c what now left)

-- ---- through the moves

-- what was judged, and each controller as it stands, have their tables by the plan
record StandsByTable (plan : Plan) (judgings : List Judging) (controllers : List ControllerState) : Type 0 where
  judged : AllByRecursion (IsByTable plan) judgings
  each : (at : ℕ) (c : ControllerState) → slice_get controllers at ≡ Some c → IsPlanned plan at c.table c.name

abbrev ByTable : Plan → List Judging → ControllersFact
ByTable plan judgings controllers chances = StandsByTable plan judgings controllers

-- a controller that keeps its accounts and its name is put in its place
controller_put : (plan : Plan) (judgings now : List Judging) (controllers : List ControllerState) (at : ℕ) (c new : ControllerState) → slice_get controllers at ≡ Some c → KeepsPlan c new →
    AllByRecursion (IsByTable plan) now → StandsByTable plan judgings controllers → StandsByTable plan now (slice_set controllers at new)
controller_put plan judgings now controllers at c new there keeps all stands =
    let was : IsPlanned plan at c.table c.name = stands.each at c there in
    let is : IsPlanned plan at new.table new.name =
    subst (λ (n : List ℕ). IsPlanned plan at new.table n) (sym keeps.1) (planned_later plan at c.table new.table c.name was keeps.0) in
    record {
      judged = all;
      each = λ k other its. elim (set_cases controllers at k new other its) [
        | inl here ↦
            subst (λ (x : ControllerState). IsPlanned plan k x.table x.name) here.1 (subst (λ (n : ℕ). IsPlanned plan n new.table new.name) (sym here.0) is)
        | inr apart ↦ stands.each k other apart.1
      ];
    }

fresh_keeps : (c : ControllerState) (hands_on : Bool) → KeepsPlan c (fresh_controller hands_on false c.table c.name)
fresh_keeps c hands_on =
    fresh_by (λ (new : ControllerState). KeepsPlan c new) c.table c.name (states-none c.table, refl) (states-none c.table, refl) hands_on

stand_on : (plan : Plan) → KeepsTrusting judgings_of (ByTable plan)
stand_on plan = record {
  of = judged_so;
  given = λ at given after b. refl;
  draws = λ judgings controllers chances later on stands. stands;
  hears = λ judgings c at what now controllers chances none is stands.
      controller_put plan judgings judgings controllers at c (trust_step_of c what now chances.left).state is (step_keeps c what now chances.left) stands.judged stands;
  comes = λ c at w piece s after b is stands.
      let answers : List Answered = answers_of at c w piece s in
      let numbers : List ℕ = numbers_on w.link true s.bag after.bag in
      let where_so : Where = at_controller at c w s in
      let each = each_of_step (λ (table : AccountTable). IsPlanned plan at table c.name) (IsByTable plan) at c w piece s (each_by_table plan where_so) (stands.each at c is) in
      controller_put plan b.judged (note_controller (Some c) at w piece s after b).judged s.ends.controllers at c (trust_step_of c (event.Bytes w.link piece) s.moment s.chances.left).state is
      (step_keeps c (event.Bytes w.link piece) s.moment s.chances.left)
      (onto_hold (IsByTable plan) (judged_of answers numbers) b.judged (judged_hold (IsByTable plan) (λ j number holds. by_reply plan j number holds) answers numbers each) stands.judged)
      stands;
  anew = λ judgings c at hands_on controllers chances is stands.
      controller_put plan judgings judgings controllers at c (fresh_controller hands_on false c.table c.name) is (fresh_keeps c hands_on) stands.judged stands;
}

first_stands : (plan : Plan) → StandsByTable plan [] (plain_world plan).state.ends.controllers
first_stands plan = record {
  judged = tt;
  each = λ at c there. let both = first_planned plan.hands_on plan.tables plan.controllers at c there in
      record { planned = c.table; is = both.0; states = states-none c.table; name_is = both.1 };
}

-- in every run
stand_after : (plan : Plan) (moves : List Move) → IsPlainPlan plan → StandsByTable plan (past plan moves).book.judged (past plan moves).world.state.ends.controllers
stand_after plan moves nothing = controllers_after judgings_of (ByTable plan) (stand_on plan) plan moves nothing (first_stands plan)

-- each call that passed was told with its status, unless it came for a trusted domain
pub each_told : (plan : Plan) (moves : List Move) → IsPlainPlan plan → AllByRecursion IsToldSo (past plan moves).book.judged
each_told plan moves nothing = all_weaker (IsByTable plan) IsToldSo (past plan moves).book.judged (λ j planned. planned.1) (stand_after plan moves nothing).judged

-- ---- each is granted rightly

to_be_granted : (j : Judging) (c : LogonCall) → j.asked ≡ Network c → TellsItsStatus j → IsJudgedRight j → j.how ≡ Some (judged.Passed 0) → IsToBeGranted j c
to_be_granted j c asks told right how =
    let passed : has_passed j.how ≡ true = ap has_passed how in
    let next : IsNextOn j.checks (given_in j.asked) = right.right.passed.0 passed in
    let status : status_of (verdict_passed j c) ≡ 0 = sym (status_done j c next.channel asks) ∙ same_status _ 0 (sym (told next.channel next.stands passed) ∙ how) in
    let served : IsServedGrant j.table j.name j.moment c.info c.validation (verdict_passed j c) = served_grant j.table j.name j.moment c.info c.validation status in
    record { next = next; level = served.level; may = served.may; verifies = served.verifies }

pub is_granted_so : (j : Judging) (c : LogonCall) → j.asked ≡ Network c → TellsItsStatus j → IsJudgedRight j → IsToBeGranted j c → j.how ≡ Some (judged.Passed 0)
is_granted_so j c asks told right meets =
    told meets.next.channel meets.next.stands (right.right.passed.1 meets.next)
    ∙ ap (λ (status : ℕ). Some (judged.Passed status))
    (status_done j c meets.next.channel asks ∙ granted_status j.table j.name j.moment c.info c.validation meets.level meets.may meets.verifies)

-- the domain that is named is none or the table's, so no trusted one
own_by : (none own : Bool) (other : Route) → (none ≡ true) ⊎ (own ≡ true) → (if none || own then route.Own else other) ≡ route.Own
own_by true own other either = refl
own_by false true other either = refl
own_by false false other (inl is) = absurd (let x = is in cc)
own_by false false other (inr is) = absurd (let x = is in cc)

own_domain : (table : AccountTable) (domain : List ℕ) → (domain ≡ []) ⊎ SameName table.domain domain → route_in table domain ≡ route.Own
unfolding route_in
own_domain table domain (inl none) = own_by (length domain == 0) (same_name table.domain domain) _ (inl (ap (λ (d : List ℕ). length d == 0) none))
own_domain table domain (inr same) = own_by (length domain == 0) (same_name table.domain domain) _ (inr ((same_name-Decides table.domain domain).1 same))

-- a call for a trusted domain is to be granted by no account here
not_elsewhere : (j : Judging) (c : LogonCall) → j.asked ≡ Network c → IsElsewhere j → IsToBeGranted j c → ⊥
not_elsewhere j c asks elsewhere meets =
    let both : asked.Network c.info c.validation ≡ asked.Network elsewhere.info elsewhere.validation = ap asked_of (sym asks) ∙ elsewhere.asks in
    let info : c.info ≡ elsewhere.info = cc in
    let own : route_in j.table elsewhere.info.domain ≡ route.Own =
    ap (λ (i : NetworkInfo). route_in j.table i.domain) (sym info) ∙ own_domain j.table c.info.domain meets.may.there.domain in
    absurd (let never : route.Own ≡ route.Trust elsewhere.trust = sym own ∙ elsewhere.routed in cc)

granted_so : (j : Judging) (c : LogonCall) → j.asked ≡ Network c → IsToldSo j → IsJudgedRight j → (j.how ≡ Some (judged.Passed 0)) ↔ IsToBeGranted j c
granted_so j c asks (inl told) right = (to_be_granted j c asks told right, is_granted_so j c asks told right)
granted_so j c asks (inr elsewhere) right = (
  λ granted. absurd (elsewhere.refused granted),
  λ meets. absurd (not_elsewhere j c asks elsewhere meets),
)

-- users have the hashes that the plan gives them
abbrev pub HasUsers : Plan → Judging → Type 0
HasUsers plan j = (planned : AccountTable) → slice_get plan.tables j.controller ≡ Some planned → users_of j.table.accounts ≡ users_of planned.accounts

all_rightly : (plan : Plan) (judgings : List Judging) → AllByRecursion (IsByTable plan) judgings → AreRight judgings → AllByRecursion (HasUsers plan) judgings →
    AllByRecursion (λ (j : Judging). IsGrantedRightly plan j) judgings
all_rightly plan [] planned right users = tt
all_rightly plan (j ∷ judgings) planned right users = (
  record {
    granted = if_network (λ (c : LogonCall). (j.how ≡ Some (judged.Passed 0)) ↔ IsToBeGranted j c) j.asked (λ c asks. granted_so j c asks planned.0.1 right.0);
    table = record { planned = planned.0.0.planned; is = planned.0.0.is; states = planned.0.0.states; users = users.0 planned.0.0.planned planned.0.0.is };
    name = planned.0.0.name_is;
  },
  all_rightly plan judgings planned.1 right.1 users.1,
)

-- in every run a controller grants a Logon call exactly where it is to be granted, by the accounts of the plan
pub grants_who_may : (plan : Plan) (moves : List Move) → IsPlainPlan plan → AllByRecursion (HasUsers plan) (past plan moves).book.judged → GrantsWhoMayLogOn (past plan moves)
grants_who_may plan moves nothing users =
    all_rightly plan (past plan moves).book.judged (stand_after plan moves nothing).judged (judged_rightly plan moves) users
