-- The sessions that a step leaves are those that its calls make of them.
-- It serves `sessions_follow_the_calls`.
use Rattle.std.proofs.Common.{◌≡◌, ◌==◌, ℕ, Bool, true, false, List, [], ◌∷◌, ◌++◌, length, Option, Some, None, is_some, refl, sym, ap, ◌∙◌, subst, append_assoc, arith}
use Rattle.std.specs.List.{AllByRecursion, position}
use Rattle.std.proofs.lemmas.List.{append-nil, length-append}
use Rattle.std.proofs.lemmas.List.Concat.{flat_map-append}
use Rattle.authenticators.specs.SecureChannels.{key_of_channel}
use Rattle.outside.specs.declared.action.Action.{Action}
use Rattle.outside.specs.declared.action.Action.TheVariants as action
use Rattle.outside.specs.declared.action.Judged.{Judged}
use Rattle.outside.specs.declared.action.Judged.TheVariants as judged
use Rattle.outside.specs.declared.event.Event.{Event}
use Rattle.outside.specs.Machine.{Stepped, whole_step}
use Rattle.logon_stubs.specs.declared.calls.LogonCall.{LogonCall}
use Rattle.logon_stubs.specs.declared.info.SamInfo.{SamInfo}
use Rattle.logon_stubs.specs.declared.info.Verdict.{Verdict}
use Rattle.logon_stubs.specs.declared.info.Verdict.TheVariants.{Granted, Status}
use Rattle.interactive_logon.specs.declared.calls.InteractiveCall.{InteractiveCall}
use Rattle.interactive_logon.specs.declared.calls.InteractiveInfo.{InteractiveInfo}
use Rattle.interactive_logon.specs.declared.sessions.Session.{Session}
use Rattle.interactive_logon.specs.Sessions.{is_session, session_limit, without}
use Rattle.account_table.specs.AccountTable.{AccountTable}
use Rattle.account_table.specs.LookUps.{account_in, machine_in, route_in}
use Rattle.account_table.specs.declared.account.Account.{Account}
use Rattle.account_table.specs.declared.table.Route.{Route}
use Rattle.account_table.specs.declared.table.Route.TheVariants.{Own, Trust, Elsewhere}
use Rattle.secret_change.specs.Hiding.{show_of}
use Rattle.secret_change.specs.declared.calls.SetCall.{SetCall}
use Rattle.end_loop.specs.Runs.{actions_of}
use Rattle.sam_logon.specs.Rules.{Rule, Shown, first_refusal, refusal_by, rules_for, shown_by_hash}
use Rattle.sam_logon.specs.Verdict.{interactive_judgement_of, interactive_verdict_of, verdict_by, verdict_routed, verdict_shown}
use Rattle.channel_turns.specs.declared.state.Dialling.{Dialling}
use Rattle.controller_calls.specs.Calls.{asked_of, computer_named}
use Rattle.controller_calls.specs.declared.calls.JudgedCall.{JudgedCall}
use Rattle.controller_calls.specs.declared.calls.JudgedCall.TheVariants.{Interactive, Logoff, Network, NetworkLogoff, Set}
use Rattle.controller_calls.specs.Desk.{Desk, desk}
use Rattle.controller_calls.specs.Doing.{Done, computer_or_none, done_asked, kept_asked, sessions_after, set_so, done_by}
use Rattle.controller_calls.specs.Interactive.{admitted, judge_interactive, judge_interactive_level, logoff_status, shown_hash}
use Rattle.controller_calls.specs.Logons.{judge_info, serves_level, status_of}
use Rattle.controller_calls.specs.Passing.{IsKeep, is_passed, judges_call}
use Rattle.controller_calls.specs.declared.calls.ControllerCall.{ControllerCall}
use Rattle.controller_calls.specs.declared.calls.ControllerCall.TheVariants as call
use Rattle.controller_calls.specs.declared.line.Line.{Line}
use Rattle.controller_calls.specs.declared.state.Computers.{Computers}
use Rattle.controller_calls.specs.declared.state.Work.{Work}
use Rattle.controller_calls.proofs.DoneLaws.{texts_kept}
use Rattle.controller_calls.proofs.OutcomeLaws.{JudgedComes, Passes, Refused, texts_kept}
use Rattle.domain_controller.specs.Laws.{calls_of, trust_calls_of}
use Rattle.domain_controller.specs.Sessions.{AreJudgedOnce, HasSessions, SessionsFollowCalls, call_told_in, calls_told, is_done, judged_among, judged_in, judgement_if, sessions_by, sessions_from, sessions_if, told_among, told_in}
use Rattle.domain_controller.specs.State.{State}
use Rattle.domain_controller.specs.Step.{state_after, step_of}
use Rattle.domain_controller.specs.TrustStep.{trust_state_after, trust_step_of}
use Rattle.domain_controller.specs.declared.state.Running.{Running}
use Rattle.domain_controller.proofs.HandOnLaws.{judges_refused}
use Rattle.domain_controller.proofs.TrustWalkLaws.{IsMovedOn, TrustWalks, trust_leads}
use Rattle.domain_controller.proofs.WalkLaws.{DeskWalks, TellsNothing, desk_leads}

-- ---- no rule refuses with status 0

-- a verdict that isn't a grant has a status other than 0
abbrev pub IsOtherThanZero : Verdict → Type 0
IsOtherThanZero (Granted info) = Unit {0}
IsOtherThanZero (Status status) = (status == 0) ≡ false

by_rule : (refuses : Bool) (rule : Rule) (later : Option _) (info : SamInfo) → (rule.1.status == 0) ≡ false → IsOtherThanZero (verdict_by later info) → IsOtherThanZero (verdict_by (refusal_by refuses rule.1 later) info)
by_rule true rule later info other is = other
by_rule false rule later info other is = is

by_rules : (rules : List Rule) (info : SamInfo) → AllByRecursion (λ (rule : Rule). (rule.1.status == 0) ≡ false) rules → IsOtherThanZero (verdict_by (first_refusal rules) info)
by_rules [] info all = tt
by_rules (rule ∷ rules) info all = by_rule rule.0 rule (first_refusal rules) info all.0 (by_rules rules info all.1)

shown_other : (found : Option Account) (shown : Shown) (table : AccountTable) (name workstation : List ℕ) (now : ℕ) → IsOtherThanZero (verdict_shown found shown table name workstation now)
shown_other None shown table name workstation now = refl
shown_other (Some account) shown table name workstation now =
    by_rules (rules_for table.policy account shown workstation now) _ (refl, (refl, (refl, (refl, (refl, (refl, (refl, (refl, (refl, (refl, (refl, tt)))))))))))

routed_other : (route : Route) (shown : Shown) (table : AccountTable) (name user workstation : List ℕ) (now : ℕ) → IsOtherThanZero (verdict_routed route shown table name user workstation now)
routed_other Own shown table name user workstation now = shown_other (account_in table.accounts user) shown table name workstation now
routed_other (Trust place) shown table name user workstation now = refl
routed_other Elsewhere shown table name user workstation now = refl

pub level_other : (served : Bool) (table : AccountTable) (name : List ℕ) (now : ℕ) (info : InteractiveInfo) (key : List ℕ) → IsOtherThanZero (judge_interactive_level served table name now info key).verdict
unfolding interactive_judgement_of interactive_verdict_of
level_other false table name now info key = refl
level_other true table name now info key = routed_other (route_in table info.domain) (shown_by_hash (shown_hash key info)) table name info.user info.workstation now

admitted_other : (full : Bool) (verdict : Verdict) → IsOtherThanZero verdict → IsOtherThanZero (admitted full verdict)
admitted_other false verdict other = other
admitted_other true (Granted info) other = refl
admitted_other true (Status status) other = other

-- ---- the sessions behind a call that passes

by_verdict : (verdict : Verdict) (c : InteractiveCall) (sessions : List Session) → IsOtherThanZero verdict →
    sessions_after verdict (computer_or_none c.computer) c.info sessions ≡ sessions_if (status_of verdict == 0) (Interactive c) sessions
by_verdict (Granted info) c sessions other = refl
by_verdict (Status status) c sessions other = sym (ap (λ (done : Bool). sessions_if done (Interactive c) sessions) other)

-- the first session of that computer, user and logon, if there is one
by_place : (place : Option ℕ) (c : InteractiveCall) (sessions : List Session) →
    position (λ session. is_session (computer_or_none c.computer) c.info.user c.info.logon_id session) sessions ≡ place →
    without place sessions ≡ sessions_if (logoff_status (is_some place) == 0) (Logoff c) sessions
by_place None c sessions is = refl
by_place (Some place) c sessions is = ap (λ (found : Option ℕ). without found sessions) (sym is)

network_none : (done : Bool) (c : LogonCall) (sessions : List Session) → sessions ≡ sessions_if done (Network c) sessions
network_none true c sessions = refl
network_none false c sessions = refl

set_none : (place : Option ℕ) (hash : List ℕ) (c : SetCall) (table : AccountTable) (sessions : List Session) →
    (set_so place hash table sessions).sessions ≡ sessions_if ((set_so place hash table sessions).status == 0) (Set c) sessions
set_none None hash c table sessions = refl
set_none (Some place) hash c table sessions = refl

pub done_sessions : (c : JudgedCall) (key name : List ℕ) (table : AccountTable) (now : ℕ) (sessions : List Session) →
    (done_asked (asked_of c) (computer_or_none (computer_named c)) key name table now sessions).sessions
    ≡ sessions_by c (judged.Passed (done_asked (asked_of c) (computer_or_none (computer_named c)) key name table now sessions).status) sessions
done_sessions (Network c) key name table now sessions = network_none (status_of (judge_info table name now c.info c.validation).verdict == 0) c sessions
done_sessions (Interactive c) key name table now sessions =
    by_verdict (admitted (length sessions == session_limit) (judge_interactive table name now c.info c.validation key).verdict) c sessions
    (admitted_other (length sessions == session_limit) (judge_interactive table name now c.info c.validation key).verdict
    (level_other (serves_level c.validation) table name now c.info key))
done_sessions (Logoff c) key name table now sessions =
    by_place (position (λ session. is_session (computer_or_none c.computer) c.info.user c.info.logon_id session) sessions) c sessions refl
done_sessions (NetworkLogoff c) key name table now sessions = refl
done_sessions (Set c) key name table now sessions = set_none (machine_in table.accounts c.account c.channel c.computer) (show_of key c.hidden) c table sessions

-- ---- what is told and left, by the calls

record SessionsTrail (calls : List ControllerCall) (before after : Desk) : Type 0 where
  new : List Action
  actions : after.work.actions ≡ before.work.actions ++ new
  many : length (told_among new) ≡ length (judged_among calls)
  sessions : after.work.computers.sessions ≡ sessions_from (judged_among calls) (told_among new) before.work.computers.sessions

-- texts tell of no judgement
told_kept : (kept : List Action) (how : Judged) (link : ℕ) (bytes : List ℕ) → AllByRecursion IsKeep kept → told_among (kept ++ action.Judged how ∷ action.Send link bytes ∷ []) ≡ how ∷ []
told_kept [] how link bytes are = refl
told_kept (action.Keep text ∷ kept) how link bytes are = told_kept kept how link bytes are.1
told_kept (action.Send at more ∷ kept) how link bytes are = absurd are.0
told_kept (action.Dial peer ∷ kept) how link bytes are = absurd are.0
told_kept (action.Close at cause ∷ kept) how link bytes are = absurd are.0
told_kept (action.Told at outcome ∷ kept) how link bytes are = absurd are.0
told_kept (action.Judged other ∷ kept) how link bytes are = absurd are.0

one_judged : (c : JudgedCall) (before after : Desk) (kept : List Action) (how : Judged) (link : ℕ) (bytes : List ℕ) → AllByRecursion IsKeep kept →
    after.work.actions ≡ before.work.actions ++ (kept ++ action.Judged how ∷ action.Send link bytes ∷ []) →
    after.work.computers.sessions ≡ sessions_by c how before.work.computers.sessions → SessionsTrail (call.Judged c ∷ []) before after
one_judged c before after kept how link bytes are actions sessions = record {
  new = kept ++ action.Judged how ∷ action.Send link bytes ∷ [];
  actions = actions;
  many = ap length (told_kept kept how link bytes are);
  sessions = sessions ∙ sym (ap (λ (told : List Judged). sessions_from (c ∷ []) told before.work.computers.sessions) (told_kept kept how link bytes are));
}

pub undone : (how : Judged) → is_passed how ≡ false → is_done how ≡ false
undone (judged.Passed status) not = absurd cc
undone judged.Forwarded not = refl
undone (judged.Answered status) not = refl
undone judged.Barred not = refl
undone judged.NoChannel not = refl

judged_trail : (c : JudgedCall) (name : List ℕ) (now : ℕ) (line : Line) (d after : Desk) → JudgedComes c name now line d after → SessionsTrail (call.Judged c ∷ []) d after
judged_trail c name now line d after (Refused how away) =
    one_judged c d after [] how line.link _ tt away.actions
    (away.sessions ∙ sym (ap (λ (done : Bool). sessions_if done c d.work.computers.sessions) (undone how away.not_passed)))
judged_trail c name now line d after (Passes next is) =
    let done : Done = done_by c next.channel name d.table now d.work.computers.sessions in
    one_judged c d after (kept_asked (asked_of c) done) (judged.Passed done.status) line.link _ (texts_kept (asked_of c) done) is.actions
    (is.sessions ∙ done_sessions c (key_of_channel next.channel) name d.table now d.work.computers.sessions)

-- ---- all calls of a step

pub sessions_join : (calls more : List JudgedCall) (told later : List Judged) (sessions : List Session) → length told ≡ length calls →
    sessions_from (calls ++ more) (told ++ later) sessions ≡ sessions_from more later (sessions_from calls told sessions)
sessions_join [] more [] later sessions many = refl
sessions_join [] more (how ∷ told) later sessions many = absurd cc
sessions_join (c ∷ calls) more [] later sessions many = absurd cc
sessions_join (c ∷ calls) more (how ∷ told) later sessions many = sessions_join calls more told later (sessions_by c how sessions) (omega (arith, many))

join_trails : (one two : List ControllerCall) (a b c : Desk) → SessionsTrail one a b → SessionsTrail two b c → SessionsTrail (one ++ two) a c
join_trails one two a b c first second =
    let calls : judged_among (one ++ two) ≡ judged_among one ++ judged_among two = flat_map-append judged_in one two in
    let told : told_among (first.new ++ second.new) ≡ told_among first.new ++ told_among second.new = flat_map-append told_in first.new second.new in
    record {
      new = first.new ++ second.new;
      actions = second.actions ∙ ap (λ (old : List Action). old ++ second.new) first.actions ∙ append_assoc a.work.actions first.new second.new;
      many = omega (arith, ap length told ∙ length-append (told_among first.new) (told_among second.new), ap length calls ∙ length-append (judged_among one) (judged_among two), first.many, second.many);
      sessions = second.sessions
          ∙ ap (λ (sessions : List Session). sessions_from (judged_among two) (told_among second.new) sessions) first.sessions
          ∙ sym (sessions_join (judged_among one) (judged_among two) (told_among first.new) (told_among second.new) a.work.computers.sessions first.many)
          ∙ sym (ap (λ (all : List JudgedCall). sessions_from all (told_among first.new ++ told_among second.new) a.work.computers.sessions) calls)
          ∙ sym (ap (λ (all : List Judged). sessions_from (judged_among (one ++ two)) all a.work.computers.sessions) told);
    }

-- a call that isn't judged is answered once, and leaves the sessions
one_sent : (c : ControllerCall) (d : Desk) (work : Work) (link : ℕ) (bytes : List ℕ) → judged_among (c ∷ []) ≡ [] → work.actions ≡ d.work.actions ++ action.Send link bytes ∷ [] →
    work.computers.sessions ≡ d.work.computers.sessions → SessionsTrail (c ∷ []) d (desk d.table work)
one_sent c d work link bytes none is same = record {
  new = action.Send link bytes ∷ [];
  actions = is;
  many = sym (ap length none);
  sessions = same ∙ sym (ap (λ (calls : List JudgedCall). sessions_from calls [] d.work.computers.sessions) none);
}

sessions_walks : (name : List ℕ) (now : ℕ) → DeskWalks name now SessionsTrail
sessions_walks name now = record {
  same = λ d. record { new = []; actions = sym (append-nil d.work.actions); many = refl; sessions = refl };
  join = join_trails;
  acts = λ d what quiet. record { new = what ∷ []; actions = refl; many = ap (λ (told : List Judged). length (told ++ [])) quiet.told; sessions = refl };
  unknown = λ line c server d. one_sent (call.Challenge c) d _ _ _ refl refl refl;
  known = λ line c server d. one_sent (call.Challenge c) d _ _ _ refl refl refl;
  denied = λ line c status d. one_sent (call.Authenticate c) d _ _ _ refl refl refl;
  accepted = λ line c d opens. one_sent (call.Authenticate c) d _ _ _ refl refl refl;
  judged = λ line c d after comes. judged_trail c name now line d after comes;
}

-- ---- a step

pub some_is : (one other : Running) → Some one ≡ Some other → one ≡ other
some_is one other is = cc

abbrev Follows : Running → Event → Stepped State → Type 0
Follows running what stepped =
    HasSessions (sessions_from (judged_among (calls_of what running.links)) (told_among (actions_of stepped)) running.computers.sessions) stepped.state.running
    × AreJudgedOnce (judged_among (calls_of what running.links)) (told_among (actions_of stepped)) stepped.state.running

follows : (s : State) (running : Running) (what : Event) (now : ℕ) (left : List (List ℕ)) → s.running ≡ Some running → Follows running what (step_of s what now left)
follows s running what now left is =
    desk_leads (Follows running what) SessionsTrail s what now left (sessions_walks s.name now) (record {
      stopped = λ none. absurd (let never : None ≡ Some running = sym none ∙ is in cc);
      spent = λ other so. (tt, tt);
      taken = λ other after links rest so leads.
          subst (λ (r : Running). Follows r what (whole_step left rest after.work.actions (state_after s (after, links)))) (some_is other running (sym so ∙ is)) (
            leads.sessions ∙ ap (λ (actions : List Action). sessions_from (judged_among (calls_of what other.links)) (told_among actions) other.computers.sessions) (sym leads.actions),
            ap (λ (actions : List Action). length (told_among actions)) leads.actions ∙ leads.many,
          );
    })

-- ---- at a controller that asks others

record CallsTrail (calls : List ControllerCall) (before after : Desk) : Type 0 where
  new : List Action
  actions : after.work.actions ≡ before.work.actions ++ new
  many : length (calls_told new) ≡ length (judged_among calls)
  sessions : after.work.computers.sessions ≡ sessions_from (judged_among calls) (calls_told new) before.work.computers.sessions

judgement_one : (how : Judged) (rest : List Judged) → judges_call how ≡ true → judgement_if (judges_call how) how ++ rest ≡ how ∷ rest
judgement_one how rest is = ap (λ (of_call : Bool). judgement_if of_call how ++ rest) is

call_once : (kept : List Action) (how : Judged) (link : ℕ) (bytes : List ℕ) → AllByRecursion IsKeep kept → judges_call how ≡ true →
    calls_told (kept ++ action.Judged how ∷ action.Send link bytes ∷ []) ≡ how ∷ []
call_once [] how link bytes are judges = judgement_one how [] judges
call_once (action.Keep text ∷ kept) how link bytes are judges = call_once kept how link bytes are.1 judges
call_once (action.Send at more ∷ kept) how link bytes are judges = absurd are.0
call_once (action.Dial peer ∷ kept) how link bytes are judges = absurd are.0
call_once (action.Close at cause ∷ kept) how link bytes are judges = absurd are.0
call_once (action.Told at outcome ∷ kept) how link bytes are judges = absurd are.0
call_once (action.Judged other ∷ kept) how link bytes are judges = absurd are.0

-- what tells of no judgement tells of none of a call
quiet_call : (what : Action) → told_in what ≡ [] → call_told_in what ≡ []
quiet_call (action.Keep bytes) none = refl
quiet_call (action.Send link bytes) none = refl
quiet_call (action.Dial peer) none = refl
quiet_call (action.Close link cause) none = refl
quiet_call (action.Told link outcome) none = refl
quiet_call (action.Judged how) none = absurd (let x = none in cc)

quiet_calls : (new : List Action) → AllByRecursion TellsNothing new → calls_told new ≡ []
quiet_calls [] all = refl
quiet_calls (what ∷ new) all =
    ap (λ (told : List Judged). told ++ calls_told new) (quiet_call what all.0.told) ∙ quiet_calls new all.1

-- a call that was judged, by what it was told and by what that makes of the sessions
one_call : (c : JudgedCall) (before after : Desk) (new : List Action) (how : Judged) → after.work.actions ≡ before.work.actions ++ new → calls_told new ≡ how ∷ [] →
    after.work.computers.sessions ≡ sessions_by c how before.work.computers.sessions → CallsTrail (call.Judged c ∷ []) before after
one_call c before after new how actions told sessions = record {
  new = new;
  actions = actions;
  many = ap length told;
  sessions = sessions ∙ sym (ap (λ (all : List Judged). sessions_from (c ∷ []) all before.work.computers.sessions) told);
}

kept_call : (c : JudgedCall) (before after : Desk) (kept : List Action) (how : Judged) (link : ℕ) (bytes : List ℕ) → AllByRecursion IsKeep kept → judges_call how ≡ true →
    after.work.actions ≡ before.work.actions ++ (kept ++ action.Judged how ∷ action.Send link bytes ∷ []) →
    after.work.computers.sessions ≡ sessions_by c how before.work.computers.sessions → CallsTrail (call.Judged c ∷ []) before after
kept_call c before after kept how link bytes are judges actions sessions =
    one_call c before after (kept ++ action.Judged how ∷ action.Send link bytes ∷ []) how actions (call_once kept how link bytes are judges) sessions

judged_call : (c : JudgedCall) (name : List ℕ) (now : ℕ) (line : Line) (d after : Desk) → JudgedComes c name now line d after → CallsTrail (call.Judged c ∷ []) d after
judged_call c name now line d after (Refused how away) =
    kept_call c d after [] how line.link _ tt (judges_refused c d.work.computers how after.work.computers.channels away.why) away.actions
    (away.sessions ∙ sym (ap (λ (done : Bool). sessions_if done c d.work.computers.sessions) (undone how away.not_passed)))
judged_call c name now line d after (Passes next is) =
    let done : Done = done_by c next.channel name d.table now d.work.computers.sessions in
    kept_call c d after (kept_asked (asked_of c) done) (judged.Passed done.status) line.link _ (texts_kept (asked_of c) done) refl is.actions
    (is.sessions ∙ done_sessions c (key_of_channel next.channel) name d.table now d.work.computers.sessions)

moved_call : (c : JudgedCall) (d after : Desk) → IsMovedOn c d after → CallsTrail (call.Judged c ∷ []) d after
moved_call c d after is =
    one_call c d after (action.Judged is.how ∷ is.new) is.how is.actions
    (judgement_one is.how (calls_told is.new) is.judges ∙ ap (λ (rest : List Judged). is.how ∷ rest) (quiet_calls is.new is.quiet))
    (ap (λ (computers : Computers). computers.sessions) is.computers
    ∙ sym (ap (λ (done : Bool). sessions_if done c d.work.computers.sessions) is.not_done))

join_calls : (one two : List ControllerCall) (a b c : Desk) → CallsTrail one a b → CallsTrail two b c → CallsTrail (one ++ two) a c
join_calls one two a b c first second =
    let calls : judged_among (one ++ two) ≡ judged_among one ++ judged_among two = flat_map-append judged_in one two in
    let told : calls_told (first.new ++ second.new) ≡ calls_told first.new ++ calls_told second.new = flat_map-append call_told_in first.new second.new in
    record {
      new = first.new ++ second.new;
      actions = second.actions ∙ ap (λ (old : List Action). old ++ second.new) first.actions ∙ append_assoc a.work.actions first.new second.new;
      many = omega (arith, ap length told ∙ length-append (calls_told first.new) (calls_told second.new), ap length calls ∙ length-append (judged_among one) (judged_among two), first.many, second.many);
      sessions = second.sessions
          ∙ ap (λ (sessions : List Session). sessions_from (judged_among two) (calls_told second.new) sessions) first.sessions
          ∙ sym (sessions_join (judged_among one) (judged_among two) (calls_told first.new) (calls_told second.new) a.work.computers.sessions first.many)
          ∙ sym (ap (λ (all : List JudgedCall). sessions_from all (calls_told first.new ++ calls_told second.new) a.work.computers.sessions) calls)
          ∙ sym (ap (λ (all : List Judged). sessions_from (judged_among (one ++ two)) all a.work.computers.sessions) told);
    }

sent_call : (c : ControllerCall) (d : Desk) (work : Work) (link : ℕ) (bytes : List ℕ) → judged_among (c ∷ []) ≡ [] → work.actions ≡ d.work.actions ++ action.Send link bytes ∷ [] →
    work.computers.sessions ≡ d.work.computers.sessions → CallsTrail (c ∷ []) d (desk d.table work)
sent_call c d work link bytes none is same = record {
  new = action.Send link bytes ∷ [];
  actions = is;
  many = sym (ap length none);
  sessions = same ∙ sym (ap (λ (calls : List JudgedCall). sessions_from calls [] d.work.computers.sessions) none);
}

calls_walks : (name : List ℕ) (now : ℕ) → TrustWalks name now CallsTrail
calls_walks name now = record {
  base = record {
    same = λ d. record { new = []; actions = sym (append-nil d.work.actions); many = refl; sessions = refl };
    join = join_calls;
    acts = λ d what quiet.
        record { new = what ∷ []; actions = refl; many = ap (λ (told : List Judged). length (told ++ [])) (quiet_call what quiet.told); sessions = refl };
    unknown = λ line c server d. sent_call (call.Challenge c) d _ _ _ refl refl refl;
    known = λ line c server d. sent_call (call.Challenge c) d _ _ _ refl refl refl;
    denied = λ line c status d. sent_call (call.Authenticate c) d _ _ _ refl refl refl;
    accepted = λ line c d opens. sent_call (call.Authenticate c) d _ _ _ refl refl refl;
    judged = λ line c d after comes. judged_call c name now line d after comes;
  };
  moved = moved_call;
  turns = λ d what is. record { new = what ∷ []; actions = refl; many = ap (λ (told : List Judged). length (told ++ [])) is.told; sessions = refl };
}

abbrev TrustFollows : Running → Dialling → Event → Stepped State → Type 0
TrustFollows running how what stepped =
    HasSessions (sessions_from (judged_among (trust_calls_of what running.links how)) (calls_told (actions_of stepped)) running.computers.sessions) stepped.state.running
    × AreJudgedOnce (judged_among (trust_calls_of what running.links how)) (calls_told (actions_of stepped)) stepped.state.running

trust_follows : (s : State) (running : Running) (what : Event) (now : ℕ) (left : List (List ℕ)) → s.running ≡ Some running →
    TrustFollows running s.trusting.dialling what (trust_step_of s what now left)
trust_follows s running what now left is =
    trust_leads (TrustFollows running s.trusting.dialling what) CallsTrail s what now left (calls_walks s.name now) (record {
      stopped = λ none. absurd (let never : None ≡ Some running = sym none ∙ is in cc);
      spent = λ other so. (tt, tt);
      taken = λ other after rest so leads.
          let calls : List JudgedCall = judged_among (trust_calls_of what other.links s.trusting.dialling) in
          subst (λ (r : Running). TrustFollows r s.trusting.dialling what (whole_step left rest after.parts.work.work.actions (trust_state_after s after)))
          (some_is other running (sym so ∙ is)) (
            leads.sessions ∙ ap (λ (actions : List Action). sessions_from calls (calls_told actions) other.computers.sessions) (sym leads.actions),
            ap (λ (actions : List Action). length (calls_told actions)) leads.actions ∙ leads.many,
          );
    })

pub sessions_follow : SessionsFollowCalls
sessions_follow = record {
  first = λ table name. refl;
  step = λ s running what now left is. (follows s running what now left is).0;
  once = λ s running what now left is. (follows s running what now left is).1;
  trusting_step = λ s running what now left is. (trust_follows s running what now left is).0;
  trusting_once = λ s running what now left is. (trust_follows s running what now left is).1;
}
