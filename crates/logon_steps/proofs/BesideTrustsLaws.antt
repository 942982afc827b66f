-- What a controller that trusts other domains makes of what it hears, while it asks no other controller for a logon.
-- Of `trusts_stay_beside`.
use Rattle.std.proofs.Common.{◌≡◌, ℕ, Bool, true, false, List, [], ◌∷◌, length, nat_lt, Option, Some, None, Ok, Err, slice_get, refl, sym, ap, ap₂, ◌∙◌, arith, if◌then◌else◌}
use Rattle.std.proofs.lemmas.Bool.Decides.{nat_tests}
use Rattle.std.proofs.lemmas.Option.{slice_get_within}
use Rattle.outside.specs.declared.action.Action.{Action}
use Rattle.outside.specs.declared.action.Action.TheVariants as action
use Rattle.outside.specs.declared.event.Event.TheVariants as event
use Rattle.outside.specs.Machine.{Stepped, step_by, then_part, whole_step}
use Rattle.rpc_units.specs.Calls.{bytes_of_call}
use Rattle.rpc_units.specs.Stream.{Cut, cut_stream}
use Rattle.rpc_units.specs.Writing.{written}
use Rattle.rpc_units.proofs.CuttingLaws.{call_heard}
use Rattle.end_links.specs.Binding.{bind_of}
use Rattle.end_links.specs.Links.{LinkState}
use Rattle.end_links.specs.Serving.{ServedPart, served_cut}
use Rattle.logon_stubs.specs.Interface.{netlogon_syntax}
use Rattle.logon_stubs.specs.declared.calls.Call.{Call}
use Rattle.logon_stubs.specs.declared.calls.Call.TheVariants as call
use Rattle.logon_stubs.specs.declared.calls.LogonCall.{LogonCall}
use Rattle.account_table.specs.AccountTable.{AccountTable}
use Rattle.account_table.specs.declared.table.Route.{Route}
use Rattle.account_table.specs.declared.table.Route.TheVariants as route
use Rattle.account_table.specs.LookUps.{route_in}
use Rattle.logon_stubs.specs.declared.info.NetworkInfo.{NetworkInfo}
use Rattle.controller_calls.specs.Handing.{hands_on, trust_below, trust_by, trust_for}
use Rattle.channel_client.specs.State.{Requester}
use Rattle.controller_calls.specs.Logons.{serves_level}
use Rattle.controller_calls.specs.declared.calls.Asked.TheVariants as asked
use Rattle.controller_calls.specs.declared.calls.ControllerCall.TheVariants as controller_call
use Rattle.controller_calls.specs.declared.calls.JudgedCall.{JudgedCall}
use Rattle.controller_calls.specs.declared.calls.JudgedCall.TheVariants as judged_call
use Rattle.controller_calls.specs.declared.line.Line.{Line}
use Rattle.controller_calls.specs.declared.state.Computers.{Computers}
use Rattle.domain_controller.specs.Forwarding.{TrustDesk, base_desk, beside, by_trust_call, goes_on_trusting, trust_desk, trust_server}
use Rattle.domain_controller.specs.Hearing.{bound_talk, first_talk, served_call}
use Rattle.domain_controller.specs.Machine.{Desk, by_call, desk, goes_on, tell}
use Rattle.domain_controller.specs.State.{State}
use Rattle.domain_controller.specs.Step as step
use Rattle.domain_controller.specs.Step.{LinkMap, step_of}
use Rattle.domain_controller.specs.TrustLaws.{IsForTrust}
use Rattle.domain_controller.specs.TrustOrder.{NobodyWaits}
use Rattle.domain_controller.specs.TrustStep.{TrustPart, TrustParts, after_units, next_turn, parts_of, serve_on, start_at, trust_halted, trust_part, trust_state_after, trust_step_of}
use Rattle.domain_controller.specs.declared.state.Talk.{Talk}
use Rattle.domain_controller.specs.declared.trusting.Parts.{Parts}
use Rattle.domain_controller.proofs.HandOnLaws.{forwards_by_trust}
use Rattle.logon_steps.specs.BesideTrusts.{AnswersBesideTrusts, AtTrusts, Keeping, StaysHere, alone_at, keeping_at, keeping_of, kept_with, none_asked}
use Rattle.logon_steps.specs.ControllerTurns.{one_link, turn_link}
use Rattle.logon_steps.specs.SetTurns.{set_request}
use Rattle.logon_steps.specs.Turning.{turn_ack, turn_agreed, turn_request}
use Rattle.logon_steps.proofs.ControllerTurnLaws.{asked_steps, running, stepped}
use Rattle.logon_steps.proofs.SetTurnLaws.{set_asked, set_sends}
use Rattle.logon_steps.proofs.StreamLaws.{one_unit, same}
use Rattle.logon_steps.proofs.TrustServedLaws.{bind_beside, call_beside, line_at, nobody_starts, set_beside}
use Rattle.logon_steps.proofs.TurningLaws.{request_joins, request_sends, turn_bind_sends}

module _ (k : Keeping) where
  -- what the controller has as an event comes
  abbrev pub parts_at : LinkMap → Parts
  parts_at links = parts_of (running k.computers links) (none_asked k.requesters k.turn)

  abbrev pub desk_at : LinkMap → TrustDesk
  desk_at links = trust_desk k.table (parts_at links).work

  -- what an event's part makes of the controller, before the next turn
  abbrev pub trust_stepped : LinkMap → ℕ → List (List ℕ) → TrustPart → Stepped State
  trust_stepped links now left part =
      step_by (λ (after : TrustParts). after.parts.work.work.actions) (λ after. trust_state_after (keeping_at k links) after) (trust_halted (keeping_at k links)) left
      (then_part part (λ after rest. then_part (next_turn k.table.trusts now after.parts rest) (λ later last. trust_part after.table later last)))

  -- a piece is served on the one link that is open
  pub on_trust_link : (link now : ℕ) (talk : Talk) (piece : List ℕ) (left : List (List ℕ)) (part : ServedPart TrustDesk Talk) →
      served_cut (trust_server k.name now link) (cut_stream piece) (desk_at (one_link link talk)) talk left ≡ part → (cut_stream piece).rest ≡ [] →
      trust_step_of (keeping_at k (one_link link talk)) (event.Bytes link piece) now left
      ≡ trust_stepped (one_link link talk) now left (after_units part [] link [] (parts_at (one_link link talk)))
  on_trust_link link now talk piece left part served rest =
      let here : LinkState Talk = record { rest = []; talk = talk } in
      ap (λ (found : Bool). trust_stepped (one_link link talk) now left
      (serve_on (if found then Some here else None) link piece k.name now (if found then [] else one_link link talk) k.table (parts_at (one_link link talk)) left)) (same link)
      ∙ ap₂ (λ (p : ServedPart TrustDesk Talk) (r : List ℕ). trust_stepped (one_link link talk) now left (after_units p r link [] (parts_at (one_link link talk)))) served rest

  -- a step without trusts, with what is kept of those who ask
  abbrev carried : Stepped State → Stepped State
  carried done = record done { state = record done.state { trusting = none_asked k.requesters k.turn } }

  abbrev alone_stepped : LinkMap → List (List ℕ) → ServedPart Desk Talk → ℕ → Stepped State
  alone_stepped links left part link = stepped k.table k.name k.computers links left (step.after_units part [] link [])

  abbrev parts_then : Desk → LinkMap → Parts
  parts_then d links = record (parts_at links) { work = record (parts_at links).work { work = d.work } }

  -- nobody waits, so no turn starts
  carried_by : (d : Desk) (others links : LinkMap) (now : ℕ) (left more rest : List (List ℕ)) (actions : List Action) (table : AccountTable) (computers : Computers) (later : LinkMap) →
      NobodyWaits k.requesters → stepped k.table k.name k.computers links left (step.whole_part d others more) ≡ whole_step left rest actions (alone_at (kept_with table computers k) later) →
      trust_stepped links now left (trust_part d.table (parts_then d others) more) ≡ whole_step left rest actions (keeping_at (kept_with table computers k) later)
  carried_by d others links now left more rest actions table computers later nobody is =
      ap (λ (who : Option ℕ). step_by (λ (after : TrustParts). after.parts.work.work.actions) (λ after. trust_state_after (keeping_at k links) after) (trust_halted (keeping_at k links)) left
      (then_part (start_at who k.table.trusts now (parts_then d others) more) (λ later last. trust_part d.table later last))) (nobody_starts k.requesters nobody)
      ∙ ap carried is

  by_talk : (talk : Option Talk) (d : Desk) (links : LinkMap) (link now : ℕ) (left more rest : List (List ℕ)) (actions : List Action) (table : AccountTable) (computers : Computers) (later : LinkMap) →
      NobodyWaits k.requesters → alone_stepped links left (Ok (record { value = (d, talk); left = more })) link ≡ whole_step left rest actions (alone_at (kept_with table computers k) later) →
      trust_stepped links now left (after_units (beside (parts_at links).work.queues (Ok (record { value = (d, talk); left = more }))) [] link [] (parts_at links))
      ≡ whole_step left rest actions (keeping_at (kept_with table computers k) later)
  by_talk None d links link now left more rest actions table computers later nobody is =
      carried_by d [] links now left more rest actions table computers later nobody is
  by_talk (Some talk) d links link now left more rest actions table computers later nobody is =
      carried_by d (one_link link talk) links now left more rest actions table computers later nobody is

  -- what is served without a look at those who ask comes to what it comes to without trusts
  carries : (links : LinkMap) (link now : ℕ) (left rest : List (List ℕ)) (part : ServedPart Desk Talk) (actions : List Action) (table : AccountTable) (computers : Computers) (later : LinkMap) →
      NobodyWaits k.requesters → alone_stepped links left part link ≡ whole_step left rest actions (alone_at (kept_with table computers k) later) →
      trust_stepped links now left (after_units (beside (parts_at links).work.queues part) [] link [] (parts_at links))
      ≡ whole_step left rest actions (keeping_at (kept_with table computers k) later)
  carries links link now left rest (Err why) actions table computers later nobody is = absurd (let x = ap (λ (done : Stepped State). done.answer) is in cc)
  carries links link now left rest (Ok part) actions table computers later nobody is =
      by_talk part.value.1 part.value.0 links link now left part.left rest actions table computers later nobody is

-- ---- which calls stay here

asked_again : (one other : NetworkInfo) (level another : ℕ) → asked.Network one level ≡ asked.Network other another → (one ≡ other) × (level ≡ another)
asked_again one other level another is = (let x = is in cc, let x = is in cc)

pub below_found : {T : Type 0} (items : List T) (at : ℕ) (item : T) → slice_get items at ≡ Some item → nat_lt at (length items) ≡ true
below_found items at item is = let lt = slice_get_within items at item is in grind (arith, nat_tests)

-- the trust of a logon that would be handed on
goes_to : (c : LogonCall) (d : TrustDesk) (goes : IsForTrust (judged_call.Network c) d) →
    trust_for goes.next.channel.kind c.validation d.table c.info (length d.work.queues.requesters) ≡ Some goes.trust
goes_to c d goes =
    let again = asked_again c.info goes.info c.validation goes.validation goes.asks in
    let trusts : ℕ = length d.work.queues.requesters in
    ap (λ (hands : Bool). trust_by hands (serves_level c.validation) (route_in d.table c.info.domain) trusts) goes.hands
    ∙ ap (λ (serves : Bool). trust_by true serves (route_in d.table c.info.domain) trusts) (ap serves_level again.1 ∙ goes.level)
    ∙ ap (λ (way : Route). trust_by true true way trusts) (ap (λ (info : NetworkInfo). route_in d.table info.domain) again.0 ∙ goes.routed)
    ∙ ap (λ (is : Bool). trust_below is goes.trust) (below_found d.work.queues.requesters goes.trust goes.requester goes.at)

never_both : {T : Type 0} (found : Option T) (item : T) → found ≡ None → found ≡ Some item → ⊥
never_both found item none some = absurd (let x = sym none ∙ some in cc)

judged_beside : (c : JudgedCall) (line : Line) (talk : Talk) (name : List ℕ) (now : ℕ) (d : TrustDesk) (left : List (List ℕ)) → (IsForTrust c d → ⊥) →
    by_trust_call (controller_call.Judged c) line talk name now d left ≡ beside d.work.queues (by_call (controller_call.Judged c) line talk name now (base_desk d) left)
judged_beside c line talk name now d left not =
    ap (λ (after : TrustDesk). goes_on_trusting after talk left) (forwards_by_trust.here c name now line d not)

stays_beside : (k : Keeping) (links : LinkMap) (c : Call) (line : Line) (talk : Talk) (now : ℕ) (left : List (List ℕ)) → StaysHere c k →
    by_trust_call (served_call c) line talk k.name now (desk_at k links) left
    ≡ beside (parts_at k links).work.queues (by_call (served_call c) line talk k.name now (base_desk (desk_at k links)) left)
stays_beside k links (call.Challenge c) line talk now left stays = refl
stays_beside k links (call.Authenticate c) line talk now left stays = refl
stays_beside k links (call.Logon c) line talk now left stays =
    judged_beside (judged_call.Network c) line talk k.name now (desk_at k links) left
    (λ goes. never_both _ goes.trust (stays goes.next.computer goes.next.channel goes.next.named goes.next.stands) (goes_to c (desk_at k links) goes))
stays_beside k links (call.Logoff c) line talk now left stays =
    judged_beside (judged_call.NetworkLogoff c) line talk k.name now (desk_at k links) left (λ goes. absurd (let x = goes.asks in cc))

-- where nobody can be asked, no trust is
asks_none : (hands serves : Bool) (way : Route) (trusts : ℕ) → trusts ≡ 0 → trust_by hands serves way trusts ≡ None
asks_none true true (route.Trust trust) trusts none = ap (λ (below : Bool). trust_below below trust) (let is : nat_lt trust trusts ≡ false = grind (arith, nat_tests, none) in is)
asks_none true true route.Own trusts none = refl
asks_none true true route.Elsewhere trusts none = refl
asks_none true false way trusts none = refl
asks_none false serves way trusts none = refl

stays_alone : (k : Keeping) (c : Call) → k.requesters ≡ [] → StaysHere c k
stays_alone k (call.Logon c) none =
    λ computer channel named stands. asks_none (hands_on channel.kind) (serves_level c.validation) (route_in k.table c.info.domain) (length k.requesters) (ap (λ (asks : List Requester). length asks) none)
stays_alone k (call.Logoff c) none = tt
stays_alone k (call.Challenge c) none = tt
stays_alone k (call.Authenticate c) none = tt

-- ---- the steps

pub trusts_stay_beside : AnswersBesideTrusts
trusts_stay_beside = record {
  alone = stays_alone;
  stands = λ table name computers links trusts alone. ap (λ (at : AtTrusts). keeping_at (keeping_of table name computers at) links) alone;
  opened = λ k link now left nobody.
      carried_by k (base_desk (desk_at k [])) (one_link link first_talk) [] now left left left [] k.table k.computers (one_link link first_talk) nobody refl;
  closed = λ k link now talk left nobody.
      ap (λ (found : Bool). trust_stepped k (one_link link talk) now left (trust_part k.table (parts_at k (if found then [] else one_link link talk)) left)) (same link)
      ∙ carried_by k (base_desk (desk_at k (one_link link talk))) [] (one_link link talk) now left left left [] k.table k.computers [] nobody refl;
  bound = λ k link now number left nobody below.
      on_trust_link k link now first_talk (written (bind_of netlogon_syntax number)) left _
      (bind_beside k.name now link number (desk_at k (one_link link first_talk)) left below) (ap Cut.rest (one_unit (bind_of netlogon_syntax number) (turn_bind_sends number below)))
      ∙ carries k (one_link link first_talk) link now left left
      (goes_on (desk k.table (tell (base_desk (desk_at k (one_link link first_talk))).work (action.Send link (written (turn_ack number))))) (bound_talk None turn_agreed) left)
      (action.Send link (written (turn_ack number)) ∷ []) k.table k.computers (turn_link link) nobody refl;
  called = λ k link now number c left rest actions table computers nobody below is stays alone.
      on_trust_link k link now (bound_talk None turn_agreed) (bytes_of_call (turn_request number c) 5840) left _
      (call_beside k.name now link number c (desk_at k (turn_link link)) left below is ∙ stays_beside k (turn_link link) c (line_at link number) (bound_talk None turn_agreed) now left stays)
      (ap Cut.rest (call_heard (turn_request number c) 5840 (request_sends number c below is) (request_joins number c is)).stream)
      ∙ carries k (turn_link link) link now left rest
      (by_call (served_call c) (line_at link number) (bound_talk None turn_agreed) k.name now (base_desk (desk_at k (turn_link link))) left)
      actions table computers (turn_link link) nobody
      (sym (asked_steps k.table k.name k.computers link now number c left below is) ∙ alone);
  set = λ k link now number c left rest actions table computers nobody below is alone.
      on_trust_link k link now (bound_talk None turn_agreed) (bytes_of_call (set_request number c) 5840) left _
      (set_beside k.name now link number c (desk_at k (turn_link link)) left below is
      ∙ judged_beside (judged_call.Set c) (line_at link number) (bound_talk None turn_agreed) k.name now (desk_at k (turn_link link)) left (λ goes. absurd (let x = goes.asks in cc)))
      (ap Cut.rest (call_heard (set_request number c) 5840 (set_sends number c below is) (omega (arith, is.short))).stream)
      ∙ carries k (turn_link link) link now left rest
      (by_call (controller_call.Judged (judged_call.Set c)) (line_at link number) (bound_talk None turn_agreed) k.name now (base_desk (desk_at k (turn_link link))) left)
      actions table computers (turn_link link) nobody
      (sym (set_asked k.table k.name k.computers link now number c left below is) ∙ alone);
}
