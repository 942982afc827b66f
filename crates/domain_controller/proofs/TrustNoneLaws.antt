-- A controller that trusts no domain tells of no call for a trusted one. It serves
-- `who_asks_nobody_tells_of_no_trust`.
use Rattle.std.proofs.Common.{◌≡◌, ◌+◌, ◌++◌, ◌==◌, ℕ, Bool, true, false, nat_le, List, [], ◌∷◌, length, Option, Some, None, Ok, Err, refl, ap, ◌∙◌, arith}
use Rattle.std.specs.List.{AllByRecursion}
use Rattle.wire_base.specs.Maps.{lookup, same_number, take_out}
use Rattle.account_table.specs.AccountTable.{AccountTable}
use Rattle.account_table.specs.LookUps.{account_in, machine_in, route_in}
use Rattle.account_table.specs.declared.account.Account.{Account}
use Rattle.account_table.specs.declared.table.Route.{Route}
use Rattle.account_table.specs.declared.table.Route.TheVariants as route
use Rattle.outside.specs.Machine.{step_by, then_part}
use Rattle.outside.specs.declared.action.Action.{Action}
use Rattle.outside.specs.declared.action.Action.TheVariants as action
use Rattle.outside.specs.declared.action.CloseCause.TheVariants as close
use Rattle.outside.specs.declared.action.Judged.{Judged}
use Rattle.outside.specs.declared.action.Judged.TheVariants as judged
use Rattle.outside.specs.declared.event.Event.{Event}
use Rattle.outside.specs.declared.event.Event.TheVariants as event
use Rattle.logon_stubs.specs.Status.{no_logon_servers}
use Rattle.logon_stubs.specs.declared.info.SamInfo.{SamInfo}
use Rattle.logon_stubs.specs.declared.info.Verdict.{Verdict}
use Rattle.logon_stubs.specs.declared.info.Verdict.TheVariants.{Granted, Status}
use Rattle.interactive_logon.specs.Sessions.{session_limit}
use Rattle.interactive_logon.specs.declared.calls.InteractiveInfo.{InteractiveInfo}
use Rattle.interactive_logon.specs.declared.sessions.Session.{Session}
use Rattle.logon_stubs.specs.declared.info.NetworkInfo.{NetworkInfo}
use Rattle.rpc_units.specs.Stream.{cut_stream}
use Rattle.sam_logon.specs.Rules.{Rule, Shown, first_refusal, refusal_by, rules_for, shown_by_hash, shown_by_response}
use Rattle.sam_logon.specs.Verdict.{interactive_judgement_of, interactive_verdict_of, judgement_of, verdict_by, verdict_of, verdict_routed, verdict_shown}
use Rattle.secret_change.specs.Hiding.{show_of}
use Rattle.end_links.specs.Links.{LinkState}
use Rattle.end_links.specs.Serving.{ServedPart, served_cut}
use Rattle.end_links.proofs.KeepLaws.{StaysServing, served_stays}
use Rattle.end_loop.specs.Runs.{actions_of}
use Rattle.controller_calls.specs.Desk.{Desk}
use Rattle.authenticators.specs.SecureChannels.{key_of_channel}
use Rattle.controller_calls.specs.Calls.{asked_of, computer_named}
use Rattle.controller_calls.specs.Doing.{computer_or_none, done_asked, done_by, kept_asked, set_so}
use Rattle.controller_calls.specs.Interactive.{admitted, is_open, judge_interactive, judge_interactive_level, logoff_status}
use Rattle.controller_calls.specs.Logons.{judge_level, serves_level, status_of}
use Rattle.controller_calls.specs.Passing.{is_passed}
use Rattle.controller_calls.specs.declared.calls.Asked.{Asked}
use Rattle.controller_calls.specs.declared.calls.Asked.TheVariants as asked
use Rattle.controller_calls.specs.declared.calls.JudgedCall.{JudgedCall}
use Rattle.controller_calls.specs.declared.line.Line.{Line}
use Rattle.controller_calls.proofs.OutcomeLaws.{JudgedComes, Passes, Refused, texts_have, texts_kept}
use Rattle.domain_controller.specs.Hearing.{hear}
use Rattle.domain_controller.specs.Machine.{by_heard, controller_server}
use Rattle.domain_controller.specs.State.{State}
use Rattle.domain_controller.specs.Step.{LinkMap, StepPart, after_units, by_event, first_desk, halted, open_by, serve_on, start_turn, state_after, step_on, with_open}
use Rattle.domain_controller.specs.TrustHere.{TellsOfNoTrust, told_trusts, trusts_in}
use Rattle.domain_controller.specs.TrustOrder.{count_if}
use Rattle.domain_controller.specs.declared.state.Running.{Running}
use Rattle.domain_controller.specs.declared.state.Talk.{Talk}
use Rattle.domain_controller.proofs.TrustHereLaws.{more_trusts}
use Rattle.domain_controller.proofs.TrustWalkLaws.{AddsTo, adds_none, adds_one}
use Rattle.domain_controller.proofs.UnitLaws.{UnitCases, heard_comes}

-- ---- no verdict is NO_LOGON_SERVERS

abbrev IsOther : ℕ → Type 0
IsOther status = (status == no_logon_servers) ≡ false

by_rule : (refuses : Bool) (rule : Rule) (rules : List Rule) (info : SamInfo) → IsOther rule.1.status → IsOther (status_of (verdict_by (first_refusal rules) info)) →
    IsOther (status_of (verdict_by (refusal_by refuses rule.1 (first_refusal rules)) info))
by_rule true rule rules info own rest = own
by_rule false rule rules info own rest = rest

by_rules : (rules : List Rule) (info : SamInfo) → AllByRecursion (λ (rule : Rule). IsOther rule.1.status) rules → IsOther (status_of (verdict_by (first_refusal rules) info))
by_rules [] info all = refl
by_rules (rule ∷ rules) info all = by_rule rule.0 rule rules info all.0 (by_rules rules info all.1)

by_account : (found : Option Account) (shown : Shown) (table : AccountTable) (controller workstation : List ℕ) (now : ℕ) →
    IsOther (status_of (verdict_shown found shown table controller workstation now))
by_account None shown table controller workstation now = refl
by_account (Some account) shown table controller workstation now =
    by_rules (rules_for table.policy account shown workstation now) _
    (refl, (refl, (refl, (refl, (refl, (refl, (refl, (refl, (refl, (refl, (refl, tt)))))))))))

by_route : (to : Route) (shown : Shown) (table : AccountTable) (controller user workstation : List ℕ) (now : ℕ) →
    IsOther (status_of (verdict_routed to shown table controller user workstation now))
by_route route.Own shown table controller user workstation now = by_account (account_in table.accounts user) shown table controller workstation now
by_route (route.Trust place) shown table controller user workstation now = refl
by_route route.Elsewhere shown table controller user workstation now = refl

of_network : (table : AccountTable) (controller : List ℕ) (info : NetworkInfo) (now : ℕ) → IsOther (status_of (judgement_of table controller info now).verdict)
unfolding judgement_of verdict_of
of_network table controller info now = by_route (route_in table info.domain) (shown_by_response info) table controller info.user info.workstation now

of_interactive : (table : AccountTable) (controller domain user workstation nt : List ℕ) (now : ℕ) →
    IsOther (status_of (interactive_judgement_of table controller domain user workstation nt now).verdict)
unfolding interactive_judgement_of interactive_verdict_of
of_interactive table controller domain user workstation nt now = by_route (route_in table domain) (shown_by_hash nt) table controller user workstation now

by_level : (serves : Bool) (table : AccountTable) (name : List ℕ) (info : NetworkInfo) (now : ℕ) → IsOther (status_of (judge_level serves table name info now).verdict)
by_level false table name info now = refl
by_level true table name info now = of_network table name info now

by_served : (serves : Bool) (table : AccountTable) (name : List ℕ) (now : ℕ) (info : InteractiveInfo) (key : List ℕ) →
    IsOther (status_of (judge_interactive_level serves table name now info key).verdict)
by_served false table name now info key = refl
by_served true table name now info key = of_interactive table name info.domain info.user info.workstation _ now

by_room : (is_full : Bool) (verdict : Verdict) → IsOther (status_of verdict) → IsOther (status_of (admitted is_full verdict))
by_room false verdict is = is
by_room true (Granted info) is = refl
by_room true (Status status) is = is

by_session : (has_session : Bool) → IsOther (logoff_status has_session)
by_session true = refl
by_session false = refl

by_place : (place : Option ℕ) (hash : List ℕ) (table : AccountTable) (sessions : List Session) → IsOther (set_so place hash table sessions).status
by_place None hash table sessions = refl
by_place (Some place) hash table sessions = refl

done_other : (what : Asked) (computer key name : List ℕ) (table : AccountTable) (now : ℕ) (sessions : List Session) → IsOther (done_asked what computer key name table now sessions).status
done_other (asked.Network info validation) computer key name table now sessions = by_level (serves_level validation) table name info now
done_other (asked.Interactive info validation) computer key name table now sessions =
    by_room (length sessions == session_limit) (judge_interactive table name now info validation key).verdict (by_served (serves_level validation) table name now info key)
done_other (asked.Logoff info) computer key name table now sessions = by_session (is_open sessions computer info)
done_other asked.NetworkLogoff computer key name table now sessions = refl
done_other (asked.Set account kind hidden) computer key name table now sessions =
    by_place (machine_in table.accounts account kind computer) (show_of key hidden) table sessions

-- ---- what a unit adds tells of none

abbrev TellsNone : Action → Type 0
TellsNone what = trusts_in what ≡ 0

none_told : (new : List Action) → AllByRecursion TellsNone new → told_trusts new ≡ 0
none_told [] all = refl
none_told (what ∷ new) all = omega (arith, all.0, none_told new all.1)

adds_told : (old all : List Action) → AddsTo TellsNone old all → told_trusts old ≡ 0 → told_trusts all ≡ 0
adds_told old all adds told =
    let many : told_trusts all ≡ told_trusts old + told_trusts adds.0 = ap told_trusts adds.1 ∙ more_trusts old adds.0 in
    omega (arith, told, many, none_told adds.0 adds.2)

none_text : (text : List ℕ) → TellsNone (action.Keep text)
none_text text = refl

all_none : (one two : List Action) → AllByRecursion TellsNone one → AllByRecursion TellsNone two → AllByRecursion TellsNone (one ++ two)
all_none [] two all also = also
all_none (what ∷ one) two all also = (all.0, all_none one two all.1 also)

refused_none : (how : Judged) → is_passed how ≡ false → TellsNone (action.Judged how)
refused_none (judged.Passed status) not = absurd (let x = not in cc)
refused_none judged.Forwarded not = absurd (let x = not in cc)
refused_none (judged.Answered status) not = refl
refused_none judged.Barred not = refl
refused_none judged.NoChannel not = refl

call_adds : (c : JudgedCall) (name : List ℕ) (now : ℕ) (line : Line) (before after : Desk) → JudgedComes c name now line before after → AddsTo TellsNone before.work.actions after.work.actions
call_adds c name now line before after (Passes next is) =
    let done = done_by c next.channel name before.table now before.work.computers.sessions in
    let other : IsOther done.status =
    done_other (asked_of c) (computer_or_none (computer_named c)) (key_of_channel next.channel) name before.table now before.work.computers.sessions in (
      _,
      is.actions,
      all_none (kept_asked (asked_of c) done) _ (texts_have TellsNone none_text (kept_asked (asked_of c) done) (texts_kept (asked_of c) done)) (ap count_if other, (refl, tt)),
    )
call_adds c name now line before after (Refused how is) = (_, is.actions, (refused_none how is.not_passed, (refl, tt)))

abbrev UnitAdds : Desk → ServedPart Desk Talk → Type 0
UnitAdds d (Err why) = Unit {0}
UnitAdds d (Ok part) = AddsTo TellsNone d.work.actions part.value.0.work.actions

unit_cases : (link : ℕ) (name : List ℕ) (now : ℕ) (d : Desk) (left : List (List ℕ)) → UnitCases (λ h part. UnitAdds d part) link name now d left
unit_cases link name now d left = record {
  close = λ cause. adds_one TellsNone d.work.actions (action.Close link cause) refl;
  answer = λ bytes talk. adds_one TellsNone d.work.actions (action.Send link bytes) refl;
  waits = λ talk. adds_none TellsNone d.work.actions;
  spent = λ line c talk none. tt;
  unknown = λ line c talk server rest is not. adds_one TellsNone d.work.actions _ refl;
  known = λ line c talk server rest is knows. adds_one TellsNone d.work.actions _ refl;
  denied = λ line c talk status fails none. adds_one TellsNone d.work.actions _ refl;
  accepted = λ line c talk opens. adds_one TellsNone d.work.actions _ refl;
  judged = λ line c talk after comes. call_adds c name now line d after comes;
}

abbrev PartNone : ServedPart Desk Talk → Type 0
PartNone (Err why) = Unit {0}
PartNone (Ok part) = told_trusts part.value.0.work.actions ≡ 0

unit_none : (d : Desk) (part : ServedPart Desk Talk) → UnitAdds d part → told_trusts d.work.actions ≡ 0 → PartNone part
unit_none d (Err why) adds told = tt
unit_none d (Ok part) adds told = adds_told d.work.actions part.value.0.work.actions adds told

units_none : (name : List ℕ) (now link : ℕ) → StaysServing (controller_server name now link) PartNone
units_none name now link = record {
  spent = λ why. tt;
  unit = λ bytes d talk left told.
      unit_none d (by_heard (hear link bytes talk) link name now d left)
      (heard_comes (λ h part. UnitAdds d part) link name now d left (unit_cases link name now d left) (hear link bytes talk)) told;
  refusal = λ why d talk left told. adds_told d.work.actions _ (adds_one TellsNone d.work.actions (action.Close link close.BadUnit) refl) told;
}

-- ---- a step

abbrev StepNone : StepPart → Type 0
StepNone (Err why) = Unit {0}
StepNone (Ok part) = told_trusts part.value.0.work.actions ≡ 0

after_none : (part : ServedPart Desk Talk) (rest : List ℕ) (number : ℕ) (links : LinkMap) → PartNone part → StepNone (after_units part rest number links)
after_none (Err why) rest number links told = tt
after_none (Ok part) rest number links told = told

on_none : (found : Option (LinkState Talk)) (number : ℕ) (piece name : List ℕ) (now : ℕ) (d : Desk) (others : LinkMap) (left : List (List ℕ)) → told_trusts d.work.actions ≡ 0 →
    StepNone (serve_on found number piece name now d others left)
on_none None number piece name now d others left told = told
on_none (Some link) number piece name now d others left told =
    let cut = cut_stream (link.rest ++ piece) in
    after_none (served_cut (controller_server name now number) cut d link.talk left) cut.rest number others
    (served_stays (controller_server name now number) PartNone (units_none name now number) cut d link.talk left told)

open_none : (full : Bool) (link : ℕ) (d : Desk) (links : LinkMap) (left : List (List ℕ)) → told_trusts d.work.actions ≡ 0 → StepNone (with_open (open_by full link d.work links) d.table left)
open_none true link d links left told = adds_told d.work.actions _ (adds_one TellsNone d.work.actions (action.Close link close.TooManyLinks) refl) told
open_none false link d links left told = told

event_none : (what : Event) (name : List ℕ) (now : ℕ) (d : Desk) (links : LinkMap) (left : List (List ℕ)) → told_trusts d.work.actions ≡ 0 → StepNone (by_event what name now d links left)
event_none (event.Opened link) name now d links left told = open_none (nat_le 256 (length (take_out same_number link links))) link d (take_out same_number link links) left told
event_none (event.Bytes link bytes) name now d links left told = on_none (lookup same_number link links) link bytes name now d (take_out same_number link links) left told
event_none (event.Closed link) name now d links left told = told
event_none (event.Dialled link) name now d links left told = told
event_none event.DialFailed name now d links left told = told
event_none event.Stop name now d links left told = told

taken_none : (part : StepPart) (s : State) (left : List (List ℕ)) → StepNone part →
    told_trusts (actions_of (step_by (λ (after : Desk × LinkMap). after.0.work.actions) (λ after. state_after s after) (halted s) left (then_part part (λ after rest. start_turn after rest)))) ≡ 0
taken_none (Err why) s left told = refl
taken_none (Ok part) s left told = told

on_step : (running : Option Running) (s : State) (what : Event) (now : ℕ) (left : List (List ℕ)) → told_trusts (actions_of (step_on running s what now left)) ≡ 0
on_step None s what now left = refl
on_step (Some running) s what now left =
    taken_none (by_event what s.name now (first_desk s.table running) running.links left) s left
    (event_none what s.name now (first_desk s.table running) running.links left refl)

pub alone_tells_none : TellsOfNoTrust
alone_tells_none s what now left = on_step s.running s what now left
