-- What changes of the accounts.
use Rattle.std.proofs.Common.{◌≡◌, ◌∙◌, ℕ, Bool, true, List, Option, Some, None, Ok, Err, refl, sym, ap}
use Rattle.authenticators.specs.SecureChannels.{key_of_channel}
use Rattle.outside.specs.declared.action.StepRefused.{StepRefused}
use Rattle.outside.specs.declared.event.Event.{Event}
use Rattle.outside.specs.Machine.{step_by}
use Rattle.logon_stubs.specs.declared.info.NetworkInfo.{NetworkInfo}
use Rattle.account_table.specs.LookUps.{route_in}
use Rattle.account_table.specs.declared.table.Route.{Route}
use Rattle.account_table.specs.declared.table.Route.TheVariants as route
use Rattle.sam_logon.specs.Rules.{shown_by_response}
use Rattle.sam_logon.specs.Verdict.{judgement_of, table_after, table_routed}
use Rattle.controller_calls.specs.Asking.{answer_judged}
use Rattle.controller_calls.specs.Logons.{judge_info, judge_level, serves_level}
use Rattle.controller_calls.specs.declared.calls.Asked.{Asked}
use Rattle.account_table.specs.AccountTable.{AccountTable}
use Rattle.account_table.specs.Changes.{DifferInStates}
use Rattle.account_table.proofs.ChangeLaws.{states-again}
use Rattle.end_links.specs.Serving.{ServedPart}
use Rattle.domain_controller.specs.Laws.{CountsByVerdict, set_table}
use Rattle.controller_calls.specs.Desk.{Desk}
use Rattle.account_table.specs.LookUps.{machine_in}
use Rattle.secret_change.specs.Hiding.{show_of}
use Rattle.controller_calls.specs.Calls.{asked_of, computer_named}
use Rattle.interactive_logon.specs.declared.sessions.Session.{Session}
use Rattle.controller_calls.specs.declared.calls.JudgedCall.TheVariants.{Interactive, Logoff, Network, NetworkLogoff, Set}
use Rattle.domain_controller.specs.Machine.{by_heard}
use Rattle.domain_controller.specs.Forwarding.{TrustDesk, answer_trust_call, base_desk}
use Rattle.domain_controller.specs.State.{State}
use Rattle.domain_controller.specs.TrustLaws.{IsForTrust}
use Rattle.domain_controller.specs.TrustStep.{TrustPart, TrustParts, trust_halted, trust_state_after, trust_step_on, trust_step_part}
use Rattle.domain_controller.specs.declared.state.Running.{Running}
use Rattle.domain_controller.specs.Step.{StepPart, by_event, first_desk}
use Rattle.controller_calls.specs.declared.line.Line.{Line}
use Rattle.domain_controller.specs.declared.state.Talk.{Talk}
use Rattle.domain_controller.specs.declared.hearing.Heard.{Heard}
use Rattle.controller_calls.specs.Doing.{done_asked, set_so, computer_or_none}
use Rattle.controller_calls.specs.declared.calls.JudgedCall.{JudgedCall}
use Rattle.controller_calls.proofs.DoneLaws.{does_what_passes}
use Rattle.controller_calls.proofs.OutcomeLaws.{JudgedComes, Passes, Refused, judged_comes}
use Rattle.domain_controller.proofs.HandOnLaws.{CallGoes, GoesOn, IsLeft, StaysHere, call_goes}
use Rattle.domain_controller.proofs.WalkLaws.{AnyTalk, AnyUnit, OfDesks, OfTables, PartSteps, UnitLeads, desk_walks, step_comes, table_walks, unit_leads}
use Rattle.domain_controller.proofs.SettingLaws.{SetTrail, hashes_are_set, set_walks}

-- ---- a unit

-- a part of a step that changes counts and hashes alone
abbrev pub PartDiffers : AccountTable → ServedPart Desk Talk → Type 0
PartDiffers table (Err why) = Unit {0}
PartDiffers table (Ok part) = DifferInStates table part.value.0.table

unit_differs : (part : ServedPart Desk Talk) (h : Heard) (link : ℕ) (d : Desk) (left : List (List ℕ)) → UnitLeads AnyUnit (OfDesks (OfTables SetTrail)) link d left h part → PartDiffers d.table part
unit_differs (Err why) h link d left leads = tt
unit_differs (Ok part) h link d left leads = (leads tt).0.states

pub heard-differs : (h : Heard) (link : ℕ) (name : List ℕ) (now : ℕ) (d : Desk) (left : List (List ℕ)) → PartDiffers d.table (by_heard h link name now d left)
heard-differs h link name now d left =
    unit_differs (by_heard h link name now d left) h link d left
    (unit_leads name now AnyTalk AnyUnit (OfDesks (OfTables SetTrail)) (desk_walks name now (OfTables SetTrail) (table_walks name now SetTrail (set_walks name now))) link d left h)

pub part-differs : (one other : AccountTable) (part : ServedPart Desk Talk) → DifferInStates one other → PartDiffers other part → PartDiffers one part
part-differs one other (Err why) differ later = tt
part-differs one other (Ok part) differ later = states-again one other part.value.0.table differ later

-- ---- the table that a call on a channel leaves

set_leaves : (place : Option ℕ) (hash : List ℕ) (table : AccountTable) (sessions : List Session) → (set_so place hash table sessions).table ≡ set_table place hash table
set_leaves None hash table sessions = refl
set_leaves (Some place) hash table sessions = refl

-- whether its authenticator passes or doesn't
same_table : (c : JudgedCall) (name : List ℕ) (now : ℕ) (line : Line) (d after : Desk) →
    ((computer key : List ℕ) → (done_asked (asked_of c) computer key name d.table now d.work.computers.sessions).table ≡ d.table) → JudgedComes c name now line d after → after.table ≡ d.table
same_table c name now line d after leaves (Refused how away) = away.table
same_table c name now line d after leaves (Passes next is) = is.table ∙ leaves (computer_or_none (computer_named c)) (key_of_channel next.channel)

not_taken : (s : State) (left : List (List ℕ)) (why : StepRefused) (part : StepPart) → PartSteps (λ stepped. stepped.answer ≡ Err why → stepped.state.table ≡ s.table) s left part
not_taken s left why (Err other) = λ is. refl
not_taken s left why (Ok part) = λ is. absurd cc

-- ---- at a controller that asks others

trust_not_taken : (s : State) (left : List (List ℕ)) (why : StepRefused) (part : TrustPart) →
    (step_by (λ (after : TrustParts). after.parts.work.work.actions) (λ after. trust_state_after s after) (trust_halted s) left part).answer ≡ Err why →
    (step_by (λ (after : TrustParts). after.parts.work.work.actions) (λ after. trust_state_after s after) (trust_halted s) left part).state.table ≡ s.table
trust_not_taken s left why (Err other) is = refl
trust_not_taken s left why (Ok part) is = absurd cc

trust_given_up : (running : Option Running) (s : State) (what : Event) (now : ℕ) (left : List (List ℕ)) (why : StepRefused) →
    (trust_step_on running s what now left).answer ≡ Err why → (trust_step_on running s what now left).state.table ≡ s.table
trust_given_up None s what now left why is = refl
trust_given_up (Some running) s what now left why is = trust_not_taken s left why (trust_step_part running s what now left) is

-- the accounts say nothing of a user of a domain that the table trusts
trust_judged : (table : AccountTable) (name : List ℕ) (now : ℕ) (info : NetworkInfo) (trust : ℕ) → route_in table info.domain ≡ route.Trust trust →
    (judge_level true table name info now).table ≡ table
unfolding judgement_of table_after
trust_judged table name now info trust is = ap (λ (to : Route). table_routed to (shown_by_response info) table info.user info.workstation now) is

elsewhere : (table : AccountTable) (name : List ℕ) (now : ℕ) (info : NetworkInfo) (validation trust : ℕ) → serves_level validation ≡ true → route_in table info.domain ≡ route.Trust trust →
    (judge_info table name now info validation).table ≡ table
elsewhere table name now info validation trust serves is =
    ap (λ (served : Bool). (judge_level served table name info now).table) serves ∙ trust_judged table name now info trust is

-- a logon for a trust that is judged here leaves the accounts as they are
for_trust : (c : JudgedCall) (name : List ℕ) (now : ℕ) (line : Line) (d : TrustDesk) → IsForTrust c d → (answer_judged c name now line (base_desk d)).table ≡ d.table
for_trust c name now line d goes =
    (does_what_passes.passed c name now line (base_desk d) goes.next).table
    ∙ ap (λ (what : Asked). (done_asked what (computer_or_none (computer_named c)) (key_of_channel goes.next.channel) name d.table now d.work.work.computers.sessions).table) goes.asks
    ∙ elsewhere d.table name now goes.info goes.validation goes.trust goes.level goes.routed

trust_call : (c : JudgedCall) (name : List ℕ) (now : ℕ) (line : Line) (d after : TrustDesk) → CallGoes c name now line d after →
    after.table ≡ (answer_judged c name now line (base_desk d)).table
trust_call c name now line d after (GoesOn is so) = so.table ∙ sym (for_trust c name now line d is.goes)
trust_call c name now line d after (IsLeft goes so) = so.table ∙ sym (for_trust c name now line d goes)
trust_call c name now line d after (StaysHere not is) = ap (λ (other : TrustDesk). other.table) is

pub counts_by_verdict : CountsByVerdict
counts_by_verdict = record {
  states = λ s what now left. (hashes_are_set.step s what now left).states;
  given_up = λ s what now left why.
      step_comes (λ stepped. stepped.answer ≡ Err why → stepped.state.table ≡ s.table) s what now left (λ none is. refl)
      (λ running is. not_taken s left why (by_event what s.name now (first_desk s.table running) running.links left));
  next = λ c name now line d next. (does_what_passes.passed (Network c) name now line d next).table;
  interactive = λ c name now line d next. (does_what_passes.passed (Interactive c) name now line d next).table;
  barred = λ c name now line d not. (does_what_passes.refused c name now line d not).table;
  logoff = λ c name now line d. same_table (Logoff c) name now line d _ (λ computer key. refl) (judged_comes (Logoff c) name now line d);
  network_logoff = λ c name now line d. same_table (NetworkLogoff c) name now line d _ (λ computer key. refl) (judged_comes (NetworkLogoff c) name now line d);
  set = λ c name now line d next.
      (does_what_passes.passed (Set c) name now line d next).table
      ∙ set_leaves (machine_in d.table.accounts c.account c.channel c.computer) (show_of (key_of_channel next.channel) c.hidden) d.table d.work.computers.sessions;
  trusting_states = λ s what now left. (hashes_are_set.trusting s what now left).states;
  trusting_given_up = λ s what now left why is. trust_given_up s.running s what now left why is;
  trusting_call = λ c name now line d. trust_call c name now line d (answer_trust_call c name now line d) (call_goes c name now line d);
}
