-- The frame of a step of a controller that asks others: what is kept by each change that a unit makes, and by each
-- action of a turn, is kept by the step. It serves the laws of all steps.
use Rattle.std.proofs.Common.{◌≡◌, ◌++◌, ◌==◌, ℕ, Bool, true, false, List, [], ◌∷◌, Option, Some, None, Result, Ok, Err, slice_get, refl, sym, ap, subst, ◌∙◌, append_assoc}
use Rattle.std.proofs.lemmas.List.{append-nil}
use Rattle.std.specs.List.{AllByRecursion}
use Rattle.wire_base.specs.Maps.{lookup, same_number, take_out}
use Rattle.outside.specs.Machine.{Part, Stepped, spent_step, step_by, stopped_step, then_part, whole_step}
use Rattle.outside.specs.declared.action.Action.{Action}
use Rattle.outside.specs.declared.action.Action.TheVariants as action
use Rattle.outside.specs.declared.action.CloseCause.{CloseCause}
use Rattle.outside.specs.declared.action.CloseCause.TheVariants as close
use Rattle.outside.specs.declared.action.Judged.{Judged}
use Rattle.outside.specs.declared.action.Judged.TheVariants as judged
use Rattle.outside.specs.declared.action.StepRefused.{StepRefused}
use Rattle.outside.specs.declared.event.Event.{Event}
use Rattle.outside.specs.declared.event.Event.TheVariants as event
use Rattle.rpc_units.specs.declared.refused.UnitRefused.{UnitRefused}
use Rattle.rpc_units.specs.Stream.{cut_stream}
use Rattle.logon_stubs.specs.Status.{no_logon_servers}
use Rattle.logon_stubs.specs.declared.calls.Reply.{Reply}
use Rattle.logon_stubs.specs.declared.info.Verdict.{Verdict}
use Rattle.logon_stubs.specs.declared.info.Verdict.TheVariants.{Status}
use Rattle.account_table.specs.AccountTable.{AccountTable}
use Rattle.account_table.specs.declared.account.Trust.{Trust}
use Rattle.end_links.specs.Links.{LinkState}
use Rattle.end_links.specs.Sending.{joined_frames}
use Rattle.end_links.specs.Serving.{ServedPart, Service, served_by, served_cut, then_open, then_talk}
use Rattle.channel_client.specs.Machine.{take_of}
use Rattle.channel_client.specs.State.{Requester}
use Rattle.channel_turns.proofs.KeepLaws.{StaysOnTurns, taken_by, turn_stays}
use Rattle.channel_turns.specs.Dials.{NextTurn, next_turn as channel_turn}
use Rattle.channel_turns.specs.Turning.{Turned, answer_by, close_if, dial_for, dial_part, fail_by, hear_by, hear_if, is_on, is_waiting, link_answers, link_closes, link_hears, no_dial}
use Rattle.channel_turns.specs.Turns.{TurnServed}
use Rattle.channel_turns.specs.declared.state.Dialling.{Dialling}
use Rattle.channel_turns.specs.declared.state.Dialling.TheVariants as dialling
use Rattle.channel_turns.specs.declared.state.TurnEnd.{TurnEnd}
use Rattle.channel_turns.specs.declared.state.TurnEnd.TheVariants as turn_end
use Rattle.channel_turns.specs.declared.state.TurnEnded.{TurnEnded}
use Rattle.channel_turns.specs.declared.state.TurnTalk.{TurnTalk}
use Rattle.channel_turns.specs.declared.state.TurnWork.{TurnWork}
use Rattle.channel_turns.specs.declared.state.Turning.{Turning}
use Rattle.controller_calls.specs.Calls.{asked_of, computer_named, given_in, is_set}
use Rattle.controller_calls.specs.Desk.{Desk, desk, tell}
use Rattle.controller_calls.specs.Doing.{move_on}
use Rattle.controller_calls.specs.Forwarded.{ForwardedState}
use Rattle.controller_calls.specs.Handing.{forwarded_reply, reply_if}
use Rattle.controller_calls.specs.Logons.{status_of}
use Rattle.controller_calls.specs.Passing.{IsNext, judges_call}
use Rattle.controller_calls.specs.declared.calls.Asked.TheVariants as asked
use Rattle.controller_calls.specs.declared.calls.ControllerCall.{ControllerCall}
use Rattle.controller_calls.specs.declared.calls.ControllerCall.TheVariants as call
use Rattle.controller_calls.specs.declared.calls.JudgedCall.{JudgedCall}
use Rattle.controller_calls.specs.declared.calls.JudgedCall.TheVariants.{Interactive, Logoff, Network, NetworkLogoff, Set}
use Rattle.controller_calls.specs.declared.line.Line.{Line}
use Rattle.controller_calls.specs.declared.state.Work.{Work}
use Rattle.controller_calls.proofs.OutcomeLaws.{judged_comes}
use Rattle.domain_controller.specs.Forwarding.{TrustDesk, after_ended, answer_found, answer_trust_call, base_desk, beside, by_trust_heard, close_ended, end_turn, trust_desk, trust_server}
use Rattle.domain_controller.specs.Hearing.{hear}
use Rattle.domain_controller.specs.Keeping.{text_by}
use Rattle.domain_controller.specs.Laws.{call_in, calls_heard, calls_if, calls_on, calls_then, talk_after, trust_calls_of}
use Rattle.domain_controller.specs.Machine.{by_heard}
use Rattle.domain_controller.specs.Sessions.{call_told_in, is_done}
use Rattle.domain_controller.specs.State.{State}
use Rattle.domain_controller.specs.Step.{LinkMap, first_desk}
use Rattle.domain_controller.specs.TrustLaws.{IsForTrust, IsForwarded, IsLeftUnasked}
use Rattle.domain_controller.specs.TrustStep.{TrustPart, TrustParts, after_turned, after_units, answer_dial, by_trust_event, close_by, close_number, event_and_turn, fail_dial, first_waiting, is_idle, link_with, next_if, next_part, next_turn, open_by, parts_of, put_open, serve_bytes, serve_on, start_at, start_on, trust_halted, trust_part, trust_state_after, trust_step_of, trust_step_on, trust_step_part, turn_at, turned_work, turning_of, without_link}
use Rattle.domain_controller.specs.declared.hearing.Heard.{Heard}
use Rattle.domain_controller.specs.declared.hearing.Heard.TheVariants as heard
use Rattle.domain_controller.specs.declared.state.Running.{Running}
use Rattle.domain_controller.specs.declared.state.Talk.{Talk}
use Rattle.domain_controller.specs.declared.trusting.Parts.{Parts}
use Rattle.domain_controller.specs.declared.trusting.TrustWork.{TrustWork}
use Rattle.domain_controller.proofs.HandOnLaws.{CallGoes, GoesOn, IsLeft, StaysHere, call_goes}
use Rattle.domain_controller.proofs.WalkLaws.{AnyTalk, AnyUnit, DeskTrail, DeskWalks, TellsNothing, OfDesks, OfTables, TableTrail, TableWalks, UnitLeads, desk_walks, table_walks, unit_leads}

-- ---- what each change keeps

-- an action of a turn: it tells of no call, and keeps no text
pub record IsOfTurn (what : Action) : Type 0 where
  pub text : (text : List ℕ) → text_by what text ≡ text
  pub told : call_told_in what ≡ []

-- A logon for a trust passed, whether its controller is asked or nobody is: the accounts stay, the channel has moved
-- on, and it is told so.
pub record IsMovedOn (c : JudgedCall) (before after : Desk) : Type 0 where
  pub network : is_set c ≡ false
  pub next : IsNext before.work.computers (computer_named c) (given_in c)
  pub table : after.table ≡ before.table
  pub computers : after.work.computers ≡ (move_on next.computer next.channel next.given before).work.computers
  pub how : Judged
  pub judges : judges_call how ≡ true
  pub not_done : is_done how ≡ false
  pub new : List Action
  pub actions : after.work.actions ≡ before.work.actions ++ action.Judged how ∷ new
  pub quiet : AllByRecursion TellsNothing new

pub record TrustWalks (name : List ℕ) (now : ℕ) (R : DeskTrail) : Type 0 where
  pub base : DeskWalks name now R
  pub moved : (c : JudgedCall) (d after : Desk) → IsMovedOn c d after → R (call.Judged c ∷ []) d after
  pub turns : (d : Desk) (what : Action) → IsOfTurn what → R [] d (desk d.table (tell d.work what))

-- of the accounts alone
module _ (name : List ℕ) (now : ℕ) (R : TableTrail) (walks : TableWalks name now R) where
  pub trust_table_walks : TrustWalks name now (OfTables R)
  trust_table_walks = record {
    base = table_walks name now R walks;
    moved = λ c d after is. subst (λ (table : AccountTable). R (call.Judged c ∷ []) d.table table) (sym is.table) (walks.same (call.Judged c ∷ []) d.table);
    turns = λ d what is. walks.same [] d.table;
  }

-- ---- a logon for a trust

not_set : (c : JudgedCall) (info : _) (validation : ℕ) → asked_of c ≡ asked.Network info validation → is_set c ≡ false
not_set (Network c) info validation asks = refl
not_set (Interactive c) info validation asks = refl
not_set (Logoff c) info validation asks = refl
not_set (NetworkLogoff c) info validation asks = refl
not_set (Set c) info validation asks = absurd (let x = asks in cc)

forwarded_moves : (c : JudgedCall) (line : Line) (d after : TrustDesk) (is : _) → IsForwarded c line d after is → IsMovedOn c (base_desk d) (base_desk after)
forwarded_moves c line d after is so = record {
  network = not_set c is.goes.info is.goes.validation is.goes.asks;
  next = is.goes.next;
  table = so.table;
  computers = so.computers;
  how = judged.Forwarded;
  judges = refl;
  not_done = refl;
  new = [];
  actions = so.actions;
  quiet = tt;
}

unasked_moves : (c : JudgedCall) (line : Line) (d after : TrustDesk) (goes : IsForTrust c d) → IsLeftUnasked c line d after goes → IsMovedOn c (base_desk d) (base_desk after)
unasked_moves c line d after goes so = record {
  network = not_set c goes.info goes.validation goes.asks;
  next = goes.next;
  table = so.table;
  computers = so.computers;
  how = judged.Passed no_logon_servers;
  judges = refl;
  not_done = refl;
  new = action.Send line.link _ ∷ [];
  actions = so.actions;
  quiet = (record { told = refl; text = λ text. refl }, tt);
}

-- ---- the units of a stream, on an accepted link

abbrev pub TrustLeads : DeskTrail → List ControllerCall → TrustDesk → ServedPart TrustDesk Talk → Type 0
TrustLeads R calls d (Err why) = Unit {0}
TrustLeads R calls d (Ok part) = R calls (base_desk d) (base_desk part.value.0)

-- of a unit, behind which that is said on its link
abbrev HeardLeads : DeskTrail → TrustDesk → Heard → ServedPart TrustDesk Talk → Type 0
HeardLeads R d h (Err why) = Unit {0}
HeardLeads R d h (Ok part) = R (call_in h) (base_desk d) (base_desk part.value.0) × (part.value.1 ≡ talk_after h)

module _ (name : List ℕ) (now : ℕ) (R : DeskTrail) (walks : TrustWalks name now R) where
  beside_leads : (link : ℕ) (d : TrustDesk) (left : List (List ℕ)) (h : Heard) (part : ServedPart Desk Talk) → UnitLeads AnyUnit (OfDesks R) link (base_desk d) left h part →
      HeardLeads R d h (beside d.work.queues part)
  beside_leads link d left h (Err why) leads = tt
  beside_leads link d left h (Ok part) leads = leads tt

  base_leads : (link : ℕ) (d : TrustDesk) (left : List (List ℕ)) (h : Heard) → HeardLeads R d h (beside d.work.queues (by_heard h link name now (base_desk d) left))
  base_leads link d left h =
      beside_leads link d left h (by_heard h link name now (base_desk d) left)
      (unit_leads name now AnyTalk AnyUnit (OfDesks R) (desk_walks name now R walks.base) link (base_desk d) left h)

  call_leads : (c : JudgedCall) (line : Line) (d after : TrustDesk) → CallGoes c name now line d after → R (call.Judged c ∷ []) (base_desk d) (base_desk after)
  call_leads c line d after (GoesOn is so) = walks.moved c (base_desk d) (base_desk after) (forwarded_moves c line d after is so)
  call_leads c line d after (IsLeft goes so) = walks.moved c (base_desk d) (base_desk after) (unasked_moves c line d after goes so)
  call_leads c line d after (StaysHere not is) =
      subst (λ (other : TrustDesk). R (call.Judged c ∷ []) (base_desk d) (base_desk other)) (sym is)
      (walks.base.judged line c (base_desk d) _ (judged_comes c name now line (base_desk d)))

  heard_leads : (h : Heard) (link : ℕ) (d : TrustDesk) (left : List (List ℕ)) → HeardLeads R d h (by_trust_heard h link name now d left)
  heard_leads (heard.Close cause) link d left = base_leads link d left (heard.Close cause)
  heard_leads (heard.Answer bytes talk) link d left = base_leads link d left (heard.Answer bytes talk)
  heard_leads (heard.Waits talk) link d left = base_leads link d left (heard.Waits talk)
  heard_leads (heard.Asked line (call.Challenge c) talk) link d left = base_leads link d left (heard.Asked line (call.Challenge c) talk)
  heard_leads (heard.Asked line (call.Authenticate c) talk) link d left = base_leads link d left (heard.Asked line (call.Authenticate c) talk)
  heard_leads (heard.Asked line (call.Judged c) talk) link d left =
      (call_leads c line d (answer_trust_call c name now line d) (call_goes c name now line d), refl)

  abbrev LaterLeads : (Talk → List ControllerCall) → Service TrustDesk Talk → Type 0
  LaterLeads later_calls later = (d : TrustDesk) (talk : Talk) (left : List (List ℕ)) → TrustLeads R (later_calls talk) d (later d talk left)

  from_part : (one two : List ControllerCall) (a b : TrustDesk) (part : ServedPart TrustDesk Talk) → R one (base_desk a) (base_desk b) → TrustLeads R two b part →
      TrustLeads R (one ++ two) a part
  from_part one two a b (Err why) first later = tt
  from_part one two a b (Ok part) first later = walks.base.join one two (base_desk a) (base_desk b) (base_desk part.value.0) first later

  then_leads : (said : Option Talk) (calls : List ControllerCall) (a b : TrustDesk) (left : List (List ℕ)) (later_calls : Talk → List ControllerCall) (later : Service TrustDesk Talk) →
      R calls (base_desk a) (base_desk b) → LaterLeads later_calls later → TrustLeads R (calls ++ calls_then said later_calls) a (then_talk b said left later)
  then_leads None calls a b left later_calls later first each = walks.base.join calls [] (base_desk a) (base_desk b) (base_desk b) first (walks.base.same (base_desk b))
  then_leads (Some talk) calls a b left later_calls later first each = from_part calls (later_calls talk) a b (later b talk left) first (each b talk left)

  after_unit : (part : ServedPart TrustDesk Talk) (h : Heard) (d : TrustDesk) (later_calls : Talk → List ControllerCall) (later : Service TrustDesk Talk) →
      HeardLeads R d h part → LaterLeads later_calls later → TrustLeads R (call_in h ++ calls_then (talk_after h) later_calls) d (then_open part later)
  after_unit (Err why) h d later_calls later leads each = tt
  after_unit (Ok part) h d later_calls later leads each =
      subst (λ (said : Option Talk). TrustLeads R (call_in h ++ calls_then (talk_after h) later_calls) d (then_talk part.value.0 said part.left later)) (sym leads.1)
      (then_leads (talk_after h) (call_in h) d part.value.0 part.left later_calls later leads.0 each)

  close_quiet : (link : ℕ) (cause : CloseCause) → TellsNothing (action.Close link cause)
  close_quiet link cause = record { told = refl; text = λ text. refl }

  units_lead : (units : List (List ℕ)) (why : Option UnitRefused) (link : ℕ) (d : TrustDesk) (talk : Talk) (left : List (List ℕ)) →
      TrustLeads R (calls_heard link units talk) d (served_by (trust_server name now link) units why d talk left)
  units_lead [] None link d talk left = walks.base.same (base_desk d)
  units_lead [] (Some why) link d talk left = walks.base.acts (base_desk d) (action.Close link close.BadUnit) (close_quiet link close.BadUnit)
  units_lead (bytes ∷ units) why link d talk left =
      after_unit (by_trust_heard (hear link bytes talk) link name now d left) (hear link bytes talk) d (λ later. calls_heard link units later)
      (λ later more rest. served_by (trust_server name now link) units why later more rest) (heard_leads (hear link bytes talk) link d left)
      (λ later more rest. units_lead units why link later more rest)

  -- ---- the actions of a turn

  all_of_turn : (d : Desk) (new : List Action) → AllByRecursion IsOfTurn new → R [] d (desk d.table (record d.work { actions = d.work.actions ++ new }))
  all_of_turn d [] all = subst (λ (actions : List Action). R [] d (desk d.table (record d.work { actions = actions }))) (sym (append-nil d.work.actions)) (walks.base.same d)
  all_of_turn d (what ∷ new) all =
      let one : Desk = desk d.table (tell d.work what) in
      subst (λ (actions : List Action). R [] d (desk d.table (record d.work { actions = actions }))) (append_assoc d.work.actions (what ∷ []) new)
      (walks.base.join [] [] d one (desk d.table (record d.work { actions = one.work.actions ++ new })) (walks.turns d what all.0) (all_of_turn one new all.1))

-- ---- what a turn adds to the actions

abbrev pub AddsTo : (Action → Type 0) → List Action → List Action → Type 0
AddsTo Is old all = (new : List Action) × (all ≡ old ++ new) × AllByRecursion Is new

module _ (Is : Action → Type 0) where
  pub adds_none : (old : List Action) → AddsTo Is old old
  adds_none old = ([], sym (append-nil old), tt)

  pub adds_one : (old : List Action) (what : Action) → Is what → AddsTo Is old (old ++ what ∷ [])
  adds_one old what is = (what ∷ [], refl, (is, tt))

  both_are : (one two : List Action) → AllByRecursion Is one → AllByRecursion Is two → AllByRecursion Is (one ++ two)
  both_are [] two all also = also
  both_are (what ∷ one) two all also = (all.0, both_are one two all.1 also)

  pub adds_both : (old more all : List Action) → AddsTo Is old more → AddsTo Is more all → AddsTo Is old all
  adds_both old more all first second = (
    first.0 ++ second.0,
    second.1 ∙ ap (λ (front : List Action). front ++ second.0) first.1 ∙ append_assoc old first.0 second.0,
    both_are first.0 second.0 first.2 second.2,
  )

-- events on its link add sends alone, and its start a dial
abbrev pub IsGoing : Action → Type 0
IsGoing (action.Send link bytes) = Unit {0}
IsGoing (action.Dial peer) = Unit {0}
IsGoing (action.Keep bytes) = ⊥
IsGoing (action.Close link cause) = ⊥
IsGoing (action.Told link outcome) = ⊥
IsGoing (action.Judged how) = ⊥

-- what holds of sends and dials holds of these
pub record IsOfGoing (Is : Action → Type 0) : Type 0 where
  pub sends : (link : ℕ) (bytes : List ℕ) → Is (action.Send link bytes)
  pub dials : (peer : List ℕ) → Is (action.Dial peer)

pub going_are : (Is : Action → Type 0) → IsOfGoing Is → (new : List Action) → AllByRecursion IsGoing new → AllByRecursion Is new
going_are Is of [] all = tt
going_are Is of (action.Send link bytes ∷ new) all = (of.sends link bytes, going_are Is of new all.1)
going_are Is of (action.Dial peer ∷ new) all = (of.dials peer, going_are Is of new all.1)
going_are Is of (action.Keep bytes ∷ new) all = absurd all.0
going_are Is of (action.Close link cause ∷ new) all = absurd all.0
going_are Is of (action.Told link outcome ∷ new) all = absurd all.0
going_are Is of (action.Judged how ∷ new) all = absurd all.0

pub going_adds : (Is : Action → Type 0) → IsOfGoing Is → (old all : List Action) → AddsTo IsGoing old all → AddsTo Is old all
going_adds Is of old all adds = (adds.0, adds.1, going_are Is of adds.0 adds.2)

abbrev Goes : List Action → List Action → Type 0
Goes old all = AddsTo IsGoing old all

abbrev none_go : (old : List Action) → Goes old old
none_go old = adds_none IsGoing old

pub closes_go : (b : Bool) (turning : Turning) → Goes turning.actions (close_if b turning).0.actions
closes_go false turning = none_go turning.actions
closes_go true turning = none_go turning.actions

pub fails_go : (how : Dialling) (turning : Turning) → Goes turning.actions (fail_by how turning).0.actions
fails_go dialling.Nothing turning = none_go turning.actions
fails_go (dialling.Waits turn frames) turning = none_go turning.actions
fails_go (dialling.On number said) turning = none_go turning.actions

pub answers_go : (how : Dialling) (link : ℕ) (turning : Turning) → Goes turning.actions (answer_by how link turning).actions
answers_go dialling.Nothing link turning = none_go turning.actions
answers_go (dialling.Waits turn frames) link turning = adds_one IsGoing turning.actions _ tt
answers_go (dialling.On number said) link turning = none_go turning.actions

abbrev ServedGoes : TurnWork → TurnServed → Type 0
ServedGoes first served = Goes first.actions served.0.actions

turns_go : (first : TurnWork) → StaysOnTurns (ServedGoes first)
turns_go first = record {
  waits = λ at talk other adds. adds;
  takes = λ unit joiner at talk adds.
      taken_by (take_of at.channel unit).taken joiner (record at { channel = (take_of at.channel unit).state }) (ServedGoes first) (record {
        skips = λ right taken. adds;
        sends = λ right frames taken.
            adds_both IsGoing first.actions at.actions _ adds (adds_one IsGoing at.actions (action.Send at.link (joined_frames frames)) tt);
        ends = λ how taken. adds;
      });
  breaks = λ cause at talk adds. adds;
}

hears_if : (b : Bool) (number : ℕ) (said : LinkState TurnTalk) (piece : List ℕ) (turning : Turning) → Goes turning.actions (hear_if b number said piece turning).0.actions
hears_if false number said piece turning = none_go turning.actions
hears_if true number said piece turning =
    let at : TurnWork = record { link = number; channel = turning.channel; actions = turning.actions; ended = None } in
    turn_stays (ServedGoes at) (turns_go at) (cut_stream (said.rest ++ piece)) at said.talk (none_go turning.actions)

pub hears_go : (how : Dialling) (link : ℕ) (piece : List ℕ) (turning : Turning) → Goes turning.actions (hear_by how link piece turning).0.actions
hears_go dialling.Nothing link piece turning = none_go turning.actions
hears_go (dialling.Waits turn frames) link piece turning = none_go turning.actions
hears_go (dialling.On number said) link piece turning = hears_if (number == link) number said piece turning

pub dials_go : (start : Option (Unit {0} × List (List ℕ))) (peer : List ℕ) (turning : Turning) → Goes turning.actions (dial_for start peer turning).actions
dials_go None peer turning = none_go turning.actions
dials_go (Some start) peer turning = adds_one IsGoing turning.actions (action.Dial peer) tt

-- ---- what is done of a turn

of_going : IsOfGoing IsOfTurn
of_going = record { sends = λ link bytes. record { text = λ text. refl; told = refl }; dials = λ peer. record { text = λ text. refl; told = refl } }

-- beside the actions nothing of what is kept of computers changes
pub record Acts (before after : TrustWork) : Type 0 where
  pub computers : after.work.computers ≡ before.work.computers
  pub adds : AddsTo IsOfTurn before.work.actions after.work.actions

reply_acts : (line : Option Line) (answer : Reply) (work : Work) → (reply_if line answer work).computers ≡ work.computers × AddsTo IsOfTurn work.actions (reply_if line answer work).actions
reply_acts None answer work = (refl, adds_none IsOfTurn work.actions)
reply_acts (Some line) answer work = (refl, adds_one IsOfTurn work.actions _ (record { text = λ text. refl; told = refl }))

found_acts : (found : Option ForwardedState) (place : ℕ × ℕ) (verdict : Verdict) (w : TrustWork) → Acts w (answer_found found place verdict w)
found_acts None place verdict w = record { computers = refl; adds = adds_none IsOfTurn w.work.actions }
found_acts (Some f) place verdict w =
    let what : Action = action.Judged (judged.Answered (status_of verdict)) in
    let reply = reply_acts f.line (forwarded_reply f verdict) (tell w.work what) in
    record {
      computers = reply.0;
      adds = adds_both IsOfTurn w.work.actions (w.work.actions ++ what ∷ []) _ (adds_one IsOfTurn w.work.actions what (record { text = λ text. refl; told = refl })) reply.1;
    }

end_acts : (how : TurnEnd) (trust : ℕ) (w : TrustWork) → Acts w (end_turn how trust w)
end_acts turn_end.Half trust w = record { computers = refl; adds = adds_none IsOfTurn w.work.actions }
end_acts turn_end.Opened trust w = record { computers = refl; adds = adds_none IsOfTurn w.work.actions }
end_acts turn_end.Set trust w = record { computers = refl; adds = adds_none IsOfTurn w.work.actions }
end_acts (turn_end.Answer place verdict) trust w = found_acts _ (trust, place) verdict w
end_acts (turn_end.Dropped place cause) trust w = found_acts _ (trust, place) (Status no_logon_servers) w

closed_acts : (closes : Option (ℕ × CloseCause)) (w : TrustWork) → Acts w (close_ended closes w)
closed_acts None w = record { computers = refl; adds = adds_none IsOfTurn w.work.actions }
closed_acts (Some closes) w = record { computers = refl; adds = adds_one IsOfTurn w.work.actions _ (record { text = λ text. refl; told = refl }) }

both_act : (a b c : TrustWork) → Acts a b → Acts b c → Acts a c
both_act a b c first second = record {
  computers = second.computers ∙ first.computers;
  adds = adds_both IsOfTurn a.work.actions b.work.actions c.work.actions first.adds second.adds;
}

pub ended_acts : (ended : Option TurnEnded) (trust : ℕ) (w : TrustWork) → Acts w (after_ended ended trust w)
ended_acts None trust w = record { computers = refl; adds = adds_none IsOfTurn w.work.actions }
ended_acts (Some ended) trust w =
    both_act w (close_ended ended.closes w) (end_turn ended.how trust (close_ended ended.closes w)) (closed_acts ended.closes w) (end_acts ended.how trust (close_ended ended.closes w))

abbrev pub Turns : (Turning → Turned) → Type 0
Turns happens = (turning : Turning) → Goes turning.actions (happens turning).0.actions

turned_acts : (trust : ℕ) (turned : Turned) (parts : Parts) → Goes parts.work.work.actions turned.0.actions → Acts parts.work (after_turned trust turned parts).work
turned_acts trust turned parts adds =
    both_act parts.work (turned_work trust turned.0 parts.work) (after_turned trust turned parts).work (record { computers = refl; adds = going_adds IsOfTurn of_going parts.work.work.actions turned.0.actions adds })
    (ended_acts turned.1 trust (turned_work trust turned.0 parts.work))

pub turn_acts : (found : Option Requester) (happens : Turning → Turned) (parts : Parts) → Turns happens → Acts parts.work (turn_at found happens parts).work
turn_acts None happens parts turns = record { computers = refl; adds = adds_none IsOfTurn parts.work.work.actions }
turn_acts (Some channel) happens parts turns = turned_acts parts.turn_of (happens (turning_of channel parts)) parts (turns (turning_of channel parts))

-- ---- events of which no call is heard

closed_by_acts : (b : Bool) (number : ℕ) (parts : Parts) → Acts parts.work (close_by b number parts).work
closed_by_acts false number parts = record { computers = refl; adds = adds_none IsOfTurn parts.work.work.actions }
closed_by_acts true number parts = turn_acts _ (λ turning. link_closes number turning) parts (λ turning. closes_go (is_on number turning.dialling) turning)

opened_acts : (full : Bool) (number : ℕ) (parts : Parts) → Acts parts.work (open_by full number parts).work
opened_acts true number parts = record { computers = refl; adds = adds_one IsOfTurn parts.work.work.actions _ (record { text = λ text. refl; told = refl }) }
opened_acts false number parts = record { computers = refl; adds = adds_none IsOfTurn parts.work.work.actions }

dial_acts : (waits : Bool) (number : ℕ) (parts : Parts) → Acts parts.work (answer_dial waits number parts).work
dial_acts false number parts = record { computers = refl; adds = adds_none IsOfTurn parts.work.work.actions }
dial_acts true number parts =
    let less : Parts = without_link number parts in
    let acts : Acts less.work (answer_dial true number parts).work =
    turn_acts (slice_get less.work.queues.requesters less.turn_of) (λ turning. (link_answers number turning, None)) less (λ turning. answers_go turning.dialling number turning) in
    record { computers = acts.computers; adds = acts.adds }

failed_acts : (waits : Bool) (parts : Parts) → Acts parts.work (fail_dial waits parts).work
failed_acts false parts = record { computers = refl; adds = adds_none IsOfTurn parts.work.work.actions }
failed_acts true parts = turn_acts _ (λ turning. no_dial turning) parts (λ turning. fails_go turning.dialling turning)

-- ---- the next turn

abbrev pub NextActs : Parts → Result (Part Parts) StepRefused → Type 0
NextActs before (Err why) = Unit {0}
NextActs before (Ok part) = Acts before.work part.value.work

begun_acts : (next : Result (Part NextTurn) StepRefused) (peer : List ℕ) (channel : Requester) (trust : ℕ) (parts : Parts) →
    NextActs parts (then_part (then_part next (dial_part peer (turning_of channel parts))) (λ turning rest. next_part (after_turned trust (turning, None) parts) rest))
begun_acts (Err why) peer channel trust parts = tt
begun_acts (Ok part) peer channel trust parts =
    let turning : Turning = record (turning_of channel parts) { channel = part.value.0 } in
    turned_acts trust (dial_for part.value.1 peer turning, None) parts (dials_go part.value.1 peer turning)

start_acts : (found : Option Requester) (entry : Option Trust) (trust now : ℕ) (parts : Parts) (left : List (List ℕ)) → NextActs parts (start_on found entry trust now parts left)
start_acts None entry trust now parts left = record { computers = refl; adds = adds_none IsOfTurn parts.work.work.actions }
start_acts (Some channel) None trust now parts left = record { computers = refl; adds = adds_none IsOfTurn parts.work.work.actions }
start_acts (Some channel) (Some entry) trust now parts left = begun_acts (channel_turn now channel left) entry.address channel trust parts

at_acts : (first : Option ℕ) (trusts : List Trust) (now : ℕ) (parts : Parts) (left : List (List ℕ)) → NextActs parts (start_at first trusts now parts left)
at_acts None trusts now parts left = record { computers = refl; adds = adds_none IsOfTurn parts.work.work.actions }
at_acts (Some trust) trusts now parts left = start_acts _ _ trust now parts left

pub next_acts : (idle : Bool) (trusts : List Trust) (now : ℕ) (parts : Parts) (left : List (List ℕ)) → NextActs parts (next_if idle trusts now parts left)
next_acts false trusts now parts left = record { computers = refl; adds = adds_none IsOfTurn parts.work.work.actions }
next_acts true trusts now parts left = at_acts (first_waiting parts.work.queues.requesters) trusts now parts left

-- ---- an event, and a step

abbrev parts_desk : AccountTable → Parts → Desk
parts_desk table parts = desk table parts.work.work

abbrev EventLeads : DeskTrail → List ControllerCall → AccountTable → Parts → TrustPart → Type 0
EventLeads R calls table parts (Err why) = Unit {0}
EventLeads R calls table parts (Ok part) = R calls (parts_desk table parts) (parts_desk part.value.table part.value.parts)

-- A step: stopped before, given up, or taken, and then what each change keeps holds between the calls of the event, the
-- desk before and the desk behind.
pub record TrustSteps (Comes : Stepped State → Type 0) (R : DeskTrail) (s : State) (what : Event) (left : List (List ℕ)) : Type 0 where
  pub stopped : s.running ≡ None → Comes (stopped_step left s)
  pub spent : (running : Running) → s.running ≡ Some running → Comes (spent_step left (trust_halted s))
  pub taken : (running : Running) (after : TrustParts) (rest : List (List ℕ)) → s.running ≡ Some running →
      R (trust_calls_of what running.links s.trusting.dialling) (first_desk s.table running) (desk after.table after.parts.work.work) →
      Comes (whole_step left rest after.parts.work.work.actions (trust_state_after s after))

module _ (name : List ℕ) (now : ℕ) (R : DeskTrail) (walks : TrustWalks name now R) where
  acts_lead : (table : AccountTable) (before after : TrustWork) → Acts before after → R [] (desk table before.work) (desk table after.work)
  acts_lead table before after acts =
      let all : List Action = before.work.actions ++ acts.adds.0 in
      let led : R [] (desk table before.work) (desk table (record before.work { actions = all })) = all_of_turn name now R walks (desk table before.work) acts.adds.0 acts.adds.2 in
      let same : record before.work { actions = all } ≡ after.work =
      ap (λ (actions : List Action). record { computers = before.work.computers; actions = actions }) (sym acts.adds.1)
      ∙ ap (λ (computers : _). record { computers = computers; actions = after.work.actions }) (sym acts.computers) in
      subst (λ (work : Work). R [] (desk table before.work) (desk table work)) same led

  -- nothing follows the units of a piece but that the link is put back
  put_same : (open_link : Option (LinkState Talk)) (number : ℕ) (parts : Parts) → (put_open open_link number parts).work.work ≡ parts.work.work
  put_same None number parts = refl
  put_same (Some link) number parts = refl

  units_then : (part : ServedPart TrustDesk Talk) (calls : List ControllerCall) (table : AccountTable) (rest : List ℕ) (number : ℕ) (others : LinkMap) (parts : Parts) →
      TrustLeads R calls (trust_desk table parts.work) part → EventLeads R calls table parts (after_units part rest number others parts)
  units_then (Err why) calls table rest number others parts leads = tt
  units_then (Ok part) calls table rest number others parts leads =
      subst (λ (work : Work). R calls (parts_desk table parts) (desk part.value.0.table work))
      (sym (put_same (link_with rest part.value.1) number (record parts { work = part.value.0.work; links = others }))) leads

  serve_leads : (found : Option (LinkState Talk)) (number : ℕ) (piece : List ℕ) (others : LinkMap) (table : AccountTable) (parts : Parts) (left : List (List ℕ)) →
      EventLeads R (calls_on found number piece) table parts (serve_on found number piece name now others table parts left)
  serve_leads None number piece others table parts left = walks.base.same (parts_desk table parts)
  serve_leads (Some link) number piece others table parts left =
      let cut = cut_stream (link.rest ++ piece) in
      let d : TrustDesk = trust_desk table parts.work in
      units_then (served_cut (trust_server name now number) cut d link.talk left) (calls_heard number cut.units link.talk) table cut.rest number others parts
      (units_lead name now R walks cut.units cut.refused number d link.talk left)

  bytes_lead : (b : Bool) (number : ℕ) (piece : List ℕ) (table : AccountTable) (parts : Parts) (left : List (List ℕ)) →
      EventLeads R (calls_if b (calls_on (lookup same_number number parts.links) number piece)) table parts (serve_bytes b number piece name now table parts left)
  bytes_lead true number piece table parts left =
      acts_lead table parts.work _ (turn_acts _ (λ turning. link_hears number piece turning) parts (λ turning. hears_go turning.dialling number piece turning))
  bytes_lead false number piece table parts left =
      serve_leads (lookup same_number number parts.links) number piece (take_out same_number number parts.links) table parts left

  event_leads : (what : Event) (table : AccountTable) (parts : Parts) (left : List (List ℕ)) →
      EventLeads R (trust_calls_of what parts.links parts.dialling) table parts (by_trust_event what name now table parts left)
  event_leads (event.Opened number) table parts left =
      acts_lead table parts.work _
      (both_act parts.work (close_number number parts).work _ (closed_by_acts (is_on number parts.dialling) number parts) (opened_acts _ number (close_number number parts)))
  event_leads (event.Bytes number piece) table parts left = bytes_lead (is_on number parts.dialling) number piece table parts left
  event_leads (event.Closed number) table parts left = acts_lead table parts.work _ (closed_by_acts (is_on number parts.dialling) number parts)
  event_leads (event.Dialled number) table parts left = acts_lead table parts.work _ (dial_acts (is_waiting parts.dialling) number parts)
  event_leads event.DialFailed table parts left = acts_lead table parts.work _ (failed_acts (is_waiting parts.dialling) parts)
  event_leads event.Stop table parts left = walks.base.same (parts_desk table parts)

  with_table : (part : Result (Part Parts) StepRefused) (calls : List ControllerCall) (first table : AccountTable) (before middle : Parts) →
      R calls (parts_desk first before) (parts_desk table middle) → NextActs middle part →
      EventLeads R calls first before (then_part part (λ later last. trust_part table later last))
  with_table (Err why) calls first table before middle leads acts = tt
  with_table (Ok part) calls first table before middle leads acts =
      subst (λ (all : List ControllerCall). R all (parts_desk first before) (parts_desk table part.value)) (append-nil calls)
      (walks.base.join calls [] (parts_desk first before) (parts_desk table middle) (parts_desk table part.value) leads (acts_lead table middle.work part.value.work acts))

  turn_behind : (part : TrustPart) (calls : List ControllerCall) (table : AccountTable) (before : Parts) (trusts : List Trust) → EventLeads R calls table before part →
      EventLeads R calls table before
      (then_part part (λ after rest. then_part (next_turn trusts now after.parts rest) (λ later last. trust_part after.table later last)))
  turn_behind (Err why) calls table before trusts leads = tt
  turn_behind (Ok part) calls table before trusts leads =
      with_table (next_turn trusts now part.value.parts part.left) calls table part.value.table before part.value.parts leads
      (next_acts (is_idle part.value.parts.dialling) trusts now part.value.parts part.left)

  part_leads : (trusts : List Trust) (what : Event) (table : AccountTable) (parts : Parts) (left : List (List ℕ)) →
      EventLeads R (trust_calls_of what parts.links parts.dialling) table parts (event_and_turn trusts what name now table parts left)
  part_leads trusts what table parts left =
      turn_behind (by_trust_event what name now table parts left) (trust_calls_of what parts.links parts.dialling) table parts trusts (event_leads what table parts left)

module _ (Comes : Stepped State → Type 0) (R : DeskTrail) (s : State) (what : Event) (now : ℕ) (left : List (List ℕ)) (walks : TrustWalks s.name now R)
    (steps : TrustSteps Comes R s what left) where
  by_part : (running : Running) → s.running ≡ Some running → (part : TrustPart) →
      EventLeads R (trust_calls_of what running.links s.trusting.dialling) s.table (parts_of running s.trusting) part →
      Comes (step_by (λ (after : TrustParts). after.parts.work.work.actions) (λ (after : TrustParts). trust_state_after s after) (trust_halted s) left part)
  by_part running is (Err why) leads = steps.spent running is
  by_part running is (Ok part) leads = steps.taken running part.value part.left is leads

  by_running : (found : Option Running) → s.running ≡ found → Comes (trust_step_on found s what now left)
  by_running None is = steps.stopped is
  by_running (Some running) is =
      by_part running is (trust_step_part running s what now left) (part_leads s.name now R walks s.table.trusts what s.table (parts_of running s.trusting) left)

  pub trust_leads : Comes (trust_step_of s what now left)
  trust_leads = by_running s.running refl
