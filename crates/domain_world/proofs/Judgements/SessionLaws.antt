-- In every run sessions follow the calls that were judged, no controller keeps more than 10,000, and an interactive
-- logon is granted exactly where it is to be.
-- It serves `Proved.sessions` and `Proved.let_on`.
use Rattle.std.proofs.Common.{◌≡◌, ◌↔◌, ℕ, suc, ◌≤◌, ◌<◌, ◌==◌, ◌||◌, Bool, true, false, List, [], ◌∷◌, length, inl, inr, Option, Some, None, refl, sym, ap, subst, ◌∙◌, arith, drop, position, take}
use Rattle.std.specs.List.{AllByRecursion, remove}
use Rattle.std.proofs.lemmas.Bool.{cases_Bool, eq-eqb}
use Rattle.std.proofs.lemmas.Bool.Decides.{Decides-eqb, leb_tells}
use Rattle.std.proofs.lemmas.List.{length-append, length-drop, length-take}
use Rattle.authenticators.specs.SecureChannels.{SecureChannelState, key_of_channel}
use Rattle.outside.specs.declared.action.Judged.TheVariants as judged
use Rattle.logon_stubs.specs.Status.{insufficient_resources}
use Rattle.logon_stubs.specs.declared.info.Verdict.{Verdict}
use Rattle.logon_stubs.specs.declared.info.Verdict.TheVariants.{Granted, Status}
use Rattle.interactive_logon.specs.declared.calls.InteractiveCall.{InteractiveCall}
use Rattle.interactive_logon.specs.declared.calls.InteractiveInfo.{InteractiveInfo}
use Rattle.interactive_logon.specs.declared.sessions.Session.{Session}
use Rattle.interactive_logon.specs.Sessions.{is_session, session_limit, session_of, without}
use Rattle.account_table.specs.AccountTable.{AccountTable}
use Rattle.account_table.specs.LookUps.{machine_in}
use Rattle.secret_change.specs.Hiding.{show_of}
use Rattle.sam_logon.specs.MayLogOn.{HashIsStored, MayLogOnAt}
use Rattle.sam_logon.specs.Verdict.{interactive_judgement_of, is_granted}
use Rattle.sam_logon.proofs.VerdictLaws.{interactive_verdict_of-Decides}
use Rattle.controller_calls.specs.declared.calls.JudgedCall.{JudgedCall}
use Rattle.controller_calls.specs.declared.calls.JudgedCall.TheVariants.{Interactive, Logoff, Network, NetworkLogoff, Set}
use Rattle.controller_calls.specs.Calls.{IfInteractive, asked_of}
use Rattle.controller_calls.specs.declared.calls.Asked.TheVariants as asked
use Rattle.controller_calls.specs.Doing.{computer_or_none, done_by, sessions_after, set_so}
use Rattle.controller_calls.specs.Interactive.{admitted, judge_interactive, judge_interactive_level, shown_hash}
use Rattle.controller_calls.specs.Logons.{IsServedLevel, serves_level, status_of}
use Rattle.domain_controller.specs.declared.state.Running.{Running}
use Rattle.domain_controller.proofs.SessionLaws.{IsOtherThanZero, level_other}
use Rattle.step_notes.specs.ControllerNotes.{has_passed}
use Rattle.step_notes.specs.Judged.{IsJudgedRight, IsNextOn}
use Rattle.step_notes.specs.Records.{Judging, given_in}
use Rattle.step_notes.specs.ReplySends.{done_on}
use Rattle.step_notes.proofs.Controllers.GrantVerdictLaws.{not_zero}
use Rattle.step_notes.proofs.Controllers.JudgedStepLaws.{same_status}
use Rattle.world_moves.specs.declared.moves.Move.{Move}
use Rattle.world_moves.specs.declared.plan.Plan.{Plan}
use Rattle.world_moves.specs.World.{first_world}
use Rattle.world_moves.specs.Plain.{IsPlainPlan}
use Rattle.domain_world.specs.Claims.Grants.{GrantsWhoseHashIsStored, IsLetOnRightly, IsToBeLetOn}
use Rattle.domain_world.specs.Claims.Sessions.{AreBySince, ControllerRenewed, HasSessions, SessionsFollow, is_since, last_start, renewals, sessions_if, sessions_on, sessions_since, since_if, start_before}
use Rattle.domain_world.specs.Claims.Statuses.{TellsItsStatus}
use Rattle.domain_world.specs.Past.{past}
use Rattle.domain_world.proofs.Judgements.TrustGrantLaws.{IsToldSo, each_told}
use Rattle.domain_world.proofs.Judgements.JudgedLaws.{AreRight, judged_rightly}
use Rattle.domain_world.proofs.Judgements.SessionRunLaws.{SessionsStand, sessions_stand}
use Rattle.domain_world.proofs.Judgements.SessionStepLaws.{RunsWith}

-- ---- no more than 10,000

abbrev IsFew : List Session → Type 0
IsFew sessions = length sessions ≤ session_limit

-- a count that is at most as many as may be, and isn't that many, is below
below : (count most : ℕ) → count ≤ most → (count == most) ≡ false → count < most
below count most few other = elim (leb_tells most count) [
  | inl full ↦ absurd (
      let same : count ≡ most = omega (arith, few, full.1) in
      let never : true ≡ false = sym (eq-eqb count most same) ∙ other in
      cc
      )
  | inr room ↦ room.1
]

removed_few : (sessions : List Session) (place : ℕ) → length (remove sessions place) ≤ length sessions
removed_few sessions place =
    let front = length-take place sessions in
    let back = length-drop (suc place) sessions in
    let both = length-append (take place sessions) (drop (suc place) sessions) in
    omega (arith, front, back, both)

without_few : (place : Option ℕ) (sessions : List Session) → IsFew sessions → IsFew (without place sessions)
without_few None sessions few = few
without_few (Some place) sessions few = omega (arith, few, removed_few sessions place)

admitted_few : (full : Bool) (verdict : Verdict) (computer : List ℕ) (info : InteractiveInfo) (sessions : List Session) → (length sessions == session_limit) ≡ full → IsFew sessions →
    IsFew (sessions_after (admitted full verdict) computer info sessions)
admitted_few false (Granted granted) computer info sessions is few =
    let room : length sessions < session_limit = below (length sessions) session_limit few is in
    let both = length-append sessions (session_of computer info.user info.logon_id ∷ []) in
    omega (arith, room, both)
admitted_few false (Status status) computer info sessions is few = few
admitted_few true (Granted granted) computer info sessions is few = few
admitted_few true (Status status) computer info sessions is few = few

set_few : (place : Option ℕ) (hash : List ℕ) (table : AccountTable) (sessions : List Session) → IsFew sessions → IsFew (set_so place hash table sessions).sessions
set_few None hash table sessions few = few
set_few (Some place) hash table sessions few = few

done_few : (c : JudgedCall) (channel : SecureChannelState) (name : List ℕ) (table : AccountTable) (now : ℕ) (sessions : List Session) → IsFew sessions →
    IsFew (done_by c channel name table now sessions).sessions
done_few (Network c) channel name table now sessions few = few
done_few (Interactive c) channel name table now sessions few =
    admitted_few (length sessions == session_limit) (judge_interactive table name now c.info c.validation (key_of_channel channel)).verdict (computer_or_none c.computer) c.info sessions refl few
done_few (Logoff c) channel name table now sessions few =
    without_few (position (λ session. is_session (computer_or_none c.computer) c.info.user c.info.logon_id session) sessions) sessions few
done_few (NetworkLogoff c) channel name table now sessions few = few
done_few (Set c) channel name table now sessions few = set_few (machine_in table.accounts c.account c.channel c.computer) (show_of (key_of_channel channel) c.hidden) table sessions few

on_few : (checks : Option SecureChannelState) (j : Judging) → IsFew j.sessions → IsFew (sessions_on checks j)
on_few None j few = few
on_few (Some channel) j few = done_few j.asked channel j.name j.table j.moment j.sessions few

behind_few : (passed : Bool) (j : Judging) → IsFew j.sessions → IsFew (sessions_if passed j)
behind_few false j few = few
behind_few true j few = on_few j.checks j few

since_few : (own : Bool) (j : Judging) (before : List Session) → IsFew j.sessions → IsFew before → IsFew (since_if own j before)
since_few false j before few was = was
since_few true j before few was = behind_few (has_passed j.how) j few

abbrev AreFew : List Judging → Type 0
AreFew judgings = AllByRecursion (λ (j : Judging). IsFew j.sessions) judgings

all_since : (controller start : ℕ) (judgings : List Judging) → AreFew judgings → IsFew (sessions_since controller start judgings)
all_since controller start [] few = omega arith
all_since controller start (j ∷ judgings) few =
    since_few (is_since controller start j) j (sessions_since controller start judgings) few.0 (all_since controller start judgings few.1)

are_few : (starts : List ControllerRenewed) (judgings : List Judging) → AreBySince starts judgings → AreFew judgings
are_few starts [] all = tt
are_few starts (j ∷ judgings) all =
    let more : AreFew judgings = are_few starts judgings all.1 in
    (subst IsFew (sym all.0) (all_since j.controller (start_before j.controller j.at starts) judgings more), more)

-- ---- sessions follow

of_running : (running : Option Running) (one : Running) (sessions : List Session) → running ≡ Some one → RunsWith sessions running → one.computers.sessions ≡ sessions
of_running None one sessions is runs = absurd (let never : None ≡ Some one = is in cc)
of_running (Some running) one sessions is runs = subst (λ (x : Running). x.computers.sessions ≡ sessions) (let same : running ≡ one = cc in same) runs

-- in every run
pub sessions_follow : (plan : Plan) (moves : List Move) → IsPlainPlan plan → SessionsFollow (past plan moves) (renewals moves (first_world plan) [])
sessions_follow plan moves nothing =
    let starts : List ControllerRenewed = renewals moves (first_world plan) [] in
    let stands : SessionsStand plan moves = sessions_stand plan moves nothing in
    let judgings : List Judging = (past plan moves).book.judged in
    let so : (controller : ℕ) (sessions : List Session) → HasSessions (past plan moves) controller sessions → sessions ≡ sessions_since controller (last_start controller starts) judgings =
    λ controller sessions has. sym has.are ∙ of_running has.state.running has.running _ has.runs (stands.each controller has.state has.at) in
    record {
      judged = stands.judged;
      stands = so;
      few = λ controller sessions has. subst IsFew (sym (so controller sessions has)) (all_since controller (last_start controller starts) judgings (are_few starts judgings stands.judged));
    }

-- ---- which interactive logons are granted

-- a verdict with status 0 is a grant, and there was room
granted_so : (full : Bool) (verdict : Verdict) → IsOtherThanZero verdict → status_of (admitted full verdict) ≡ 0 → (full ≡ false) × (is_granted verdict ≡ true)
granted_so false (Granted info) other is = (refl, refl)
granted_so false (Status status) other is = absurd (not_zero status other is)
granted_so true (Granted info) other is = absurd (not_zero insufficient_resources refl is)
granted_so true (Status status) other is = absurd (not_zero status other is)

so_granted : (full : Bool) (verdict : Verdict) → full ≡ false → is_granted verdict ≡ true → status_of (admitted full verdict) ≡ 0
so_granted false (Granted info) room is = refl
so_granted false (Status status) room is = absurd (let never : false ≡ true = is in cc)
so_granted true verdict room is = absurd (let never : true ≡ false = room in cc)

served_either : (validation : ℕ) (two : Bool) → (validation == 2) ≡ two → (two || (validation == 3)) ≡ true → IsServedLevel validation
served_either validation true is either = inl ((Decides-eqb validation 2).0 is)
served_either validation false is either = inr ((Decides-eqb validation 3).0 either)

either_served : (validation : ℕ) → IsServedLevel validation → serves_level validation ≡ true
either_served validation (inl two) = ap serves_level two
either_served validation (inr three) = ap serves_level three

module _ (table : AccountTable) (name : List ℕ) (now : ℕ) (info : InteractiveInfo) (validation : ℕ) (key : List ℕ) where
  abbrev Verified : Type 0
  Verified = MayLogOnAt table info.domain info.user info.workstation now × HashIsStored table info.user (shown_hash key info)

  level_facts : (served : Bool) → serves_level validation ≡ served → is_granted (judge_interactive_level served table name now info key).verdict ≡ true → IsServedLevel validation × Verified
  unfolding interactive_judgement_of
  level_facts false level is = absurd (let never : false ≡ true = is in cc)
  level_facts true level is =
      (served_either validation (validation == 2) refl level, (interactive_verdict_of-Decides table name info.domain info.user info.workstation (shown_hash key info) now).0 is)

  facts_level : (served : Bool) → served ≡ true → Verified → is_granted (judge_interactive_level served table name now info key).verdict ≡ true
  unfolding interactive_judgement_of
  facts_level false level facts = absurd (let never : false ≡ true = level in cc)
  facts_level true level facts = (interactive_verdict_of-Decides table name info.domain info.user info.workstation (shown_hash key info) now).1 facts

status_done : (j : Judging) (c : InteractiveCall) (channel : SecureChannelState) → j.asked ≡ Interactive c →
    (done_on j channel).status
    ≡ status_of (admitted (length j.sessions == session_limit) (judge_interactive j.table j.name j.moment c.info c.validation (key_of_channel channel)).verdict)
status_done j c channel asks = ap (λ (asked : JudgedCall). (done_by asked channel j.name j.table j.moment j.sessions).status) asks

to_be_let_on : (j : Judging) (c : InteractiveCall) → j.asked ≡ Interactive c → TellsItsStatus j → IsJudgedRight j → IsFew j.sessions → j.how ≡ Some (judged.Passed 0) → IsToBeLetOn j c
to_be_let_on j c asks told right few how =
    let passed : has_passed j.how ≡ true = ap has_passed how in
    let next : IsNextOn j.checks (given_in j.asked) = right.right.passed.0 passed in
    let key : List ℕ = key_of_channel next.channel in
    let status = sym (status_done j c next.channel asks) ∙ same_status _ 0 (sym (told next.channel next.stands passed) ∙ how) in
    let both = granted_so (length j.sessions == session_limit) (judge_interactive j.table j.name j.moment c.info c.validation key).verdict
    (level_other (serves_level c.validation) j.table j.name j.moment c.info key) status in
    let facts = level_facts j.table j.name j.moment c.info c.validation key (serves_level c.validation) refl both.1 in
    record { next = next; level = facts.0; may = facts.1.0; stored = facts.1.1; room = below (length j.sessions) session_limit few both.0 }

not_full : (count most : ℕ) → count < most → (count == most) ≡ false
not_full count most room = elim (cases_Bool (count == most)) [
  | inl same ↦ absurd (let is : count ≡ most = (Decides-eqb count most).0 same in omega (arith, room, is))
  | inr other ↦ other
]

is_let_on : (j : Judging) (c : InteractiveCall) → j.asked ≡ Interactive c → TellsItsStatus j → IsJudgedRight j → IsToBeLetOn j c → j.how ≡ Some (judged.Passed 0)
is_let_on j c asks told right meets =
    let key : List ℕ = key_of_channel meets.next.channel in
    told meets.next.channel meets.next.stands (right.right.passed.1 meets.next)
    ∙ ap (λ (status : ℕ). Some (judged.Passed status))
    (status_done j c meets.next.channel asks
    ∙ so_granted (length j.sessions == session_limit) (judge_interactive j.table j.name j.moment c.info c.validation key).verdict
    (not_full (length j.sessions) session_limit meets.room)
    (facts_level j.table j.name j.moment c.info c.validation key (serves_level c.validation) (either_served c.validation meets.level) (meets.may, meets.stored)))

-- what is said of an interactive logon is had from its kind
if_interactive : (Fact : InteractiveCall → Type 0) (asked : JudgedCall) → ((c : InteractiveCall) → asked ≡ Interactive c → Fact c) → IfInteractive Fact asked
if_interactive Fact (Network c) so = tt
if_interactive Fact (Interactive c) so = so c refl
if_interactive Fact (Logoff c) so = tt
if_interactive Fact (NetworkLogoff c) so = tt
if_interactive Fact (Set c) so = tt

-- an interactive logon comes for no trusted domain, so it tells its status
told_so : (j : Judging) (c : InteractiveCall) → j.asked ≡ Interactive c → IsToldSo j → TellsItsStatus j
told_so j c asks (inl told) = told
told_so j c asks (inr elsewhere) =
    absurd (let never : asked.Interactive c.info c.validation ≡ asked.Network elsewhere.info elsewhere.validation = ap asked_of (sym asks) ∙ elsewhere.asks in cc)

all_let_on : (judgings : List Judging) → AllByRecursion IsToldSo judgings → AreRight judgings → AreFew judgings → AllByRecursion (λ (j : Judging). IsLetOnRightly j) judgings
all_let_on [] told right few = tt
all_let_on (j ∷ judgings) told right few = (
  if_interactive (λ (c : InteractiveCall). (j.how ≡ Some (judged.Passed 0)) ↔ IsToBeLetOn j c) j.asked
      (λ c asks.
      let status : TellsItsStatus j = told_so j c asks told.0 in (to_be_let_on j c asks status right.0 few.0, is_let_on j c asks status right.0)),
  all_let_on judgings told.1 right.1 few.1,
)

-- in every run a controller grants an interactive logon exactly where it is to be granted
pub grants_by_hash : (plan : Plan) (moves : List Move) → IsPlainPlan plan → GrantsWhoseHashIsStored (past plan moves)
grants_by_hash plan moves nothing =
    all_let_on (past plan moves).book.judged (each_told plan moves nothing) (judged_rightly plan moves)
    (are_few (renewals moves (first_world plan) []) (past plan moves).book.judged (sessions_stand plan moves nothing).judged)
