-- A logon that fails, as it is seen of a scene.
-- Of `failings_are_seen`.
use Rattle.std.proofs.Common.{◌≡◌, ◌==◌, ℕ, List, [], ◌∷◌, ◌++◌, Option, Some, None, refl, sym, ap, ap₂, subst, ◌∙◌, arith, drop, slice_get}
use Rattle.std.specs.List.{AllByRecursion}
use Rattle.wire_base.specs.Maps.{same_number, take_out}
use Rattle.outside.specs.Drawing.{Drawing}
use Rattle.outside.specs.declared.action.Action.{Action}
use Rattle.outside.specs.declared.action.Action.TheVariants as action
use Rattle.outside.specs.declared.action.CloseCause.TheVariants as close
use Rattle.outside.specs.declared.action.DropCause.TheVariants as drop_cause
use Rattle.outside.specs.declared.action.Outcome.TheVariants as outcome
use Rattle.outside.specs.declared.event.Event.TheVariants as event
use Rattle.outside.specs.Machine.{whole_step}
use Rattle.rpc_units.specs.Numbers.{error_access_denied, rpc_s_server_unavailable}
use Rattle.end_links.specs.Sending.{fault_of}
use Rattle.channel_client.specs.declared.state.SetStep.TheVariants as set_step
use Rattle.channel_client.specs.declared.state.Standing.TheVariants as standing
use Rattle.channel_client.specs.declared.state.Step.TheVariants as step
use Rattle.domain_controller.specs.State.{State as ControllerState}
use Rattle.domain_controller.proofs.TurnOutLaws.{got_set}
use Rattle.member_server.specs.Secrets.{is_denied, secrets_dropped}
use Rattle.logon_steps.proofs.SetTurnLaws.{set_reply_comes}
use Rattle.logon_steps.specs.SetTurns.{set_reply_bytes}
use Rattle.logon_client.specs.State.{State as ClientState}
use Rattle.logon_client.specs.Machine.{step_of as client_step_of, fault_outcome}
use Rattle.logon_client.specs.declared.state.Phase.TheVariants as client_phase
use Rattle.logon_client.specs.declared.state.Question.TheVariants as client_question
use Rattle.member_server.specs.SealStep.{SealsNothing}
use Rattle.member_server.specs.State.{State as MemberState}
use Rattle.member_server.specs.Machine.{step_of as member_step_of}
use Rattle.world_moves.specs.declared.bag.BagUnit.{BagUnit}
use Rattle.world_moves.specs.declared.links.EndId.{EndId}
use Rattle.world_moves.specs.declared.links.EndId.TheVariants.{Client, Member}
use Rattle.world_moves.specs.declared.links.Route.{Route}
use Rattle.world_moves.specs.declared.state.State.{State}
use Rattle.world_moves.specs.declared.state.WaitingDial.{WaitingDial}
use Rattle.world_moves.specs.Acting.{AfterHearing, done, hear, perform_all_quietly}
use Rattle.world_moves.specs.Ends.{EndStates}
use Rattle.world_moves.specs.Links.{OpenMap}
use Rattle.world_moves.specs.Moving.{connect, connect_by, connect_first, end_of_peer, onward, route_to, without_first}
use Rattle.logon_steps.specs.Answers.{logon_for}
use Rattle.logon_steps.specs.ClientSteps.{client_ended}
use Rattle.logon_steps.specs.ControllerTurns.{reply_bytes, turn_link}
use Rattle.logon_steps.proofs.ClientStepLaws.{clients_step}
use Rattle.logon_steps.proofs.BesideTrustsLaws.{trusts_stay_beside}
use Rattle.logon_steps.proofs.MemberLinkLaws.{links_step}
use Rattle.logon_steps.proofs.TurningLaws.{response_comes, unit_comes}
use Rattle.logon_runs.specs.Failing.FailingSteps.{out_talk, who_fault}
use Rattle.logon_runs.specs.Failing.Failings.{failing_turn, FailingsAreSeen, settled_at, settled_with}
use Rattle.logon_runs.specs.Scenes.LinkScenes.{given_caller, Meeting, meeting_scene, rest_scene, unit_down, unit_up}
use Rattle.logon_runs.specs.Scenes.Scene.{IsNoClose, Scene, Shows, dials_made, units_sent, with_actions}
use Rattle.logon_runs.specs.Scenes.AskScenes.{kept_by}
use Rattle.logon_runs.specs.Scenes.TurnScenes.{TurnScene, unit_back}
use Rattle.logon_runs.specs.Scenes.WaitingUnits.{after_hearing, with_client_at, with_member_at}
use Rattle.logon_runs.proofs.Failing.FailingStepLaws.{failings_step, fault_sends}
use Rattle.logon_runs.proofs.Scenes.LinkSceneLaws.{closes_own, heard_down, heard_up, none_left, sent_down}
use Rattle.logon_runs.proofs.Scenes.SceneLaws.{Leaves, performed_quietly, quietly_leave, scenes_go_on}
use Rattle.logon_runs.proofs.Scenes.TurnSceneLaws.{closes_turn, heard_back}
use Rattle.logon_runs.proofs.Scenes.TurningSceneLaws.{scenes_turn}
use Rattle.logon_runs.proofs.Scenes.WaitingLaws.{plain_after, waiting_comes}

-- ---- a dial that reaches nobody

lands_failed : (s : State) (v : Scene) (end : EndId) (peer : List ℕ) (dials : List WaitingDial) (ends : EndStates) (actions : List Action)
    (client : ClientState) (member : MemberState) (controller : ControllerState) → Shows s v → v.dials ≡ record { end = end; peer = peer } ∷ dials →
    route_to end (end_of_peer peer s.ends) ≡ None → AllByRecursion IsNoClose actions →
    hear end event.DialFailed (without_first s) ≡ after_hearing ends v.left actions (without_first s) →
    slice_get ends.clients v.at_client ≡ Some client → slice_get ends.members v.at_member ≡ Some member → slice_get ends.controllers v.at_controller ≡ Some controller →
    controller.trusting.sealing ≡ None → SealsNothing member →
    Shows (connect s).state (with_actions end actions v.left (record v { client = client; member = member; controller = controller; dials = dials }))
lands_failed s v end peer dials ends actions client member controller shows waits reaches none_close heard is_client is_member is_controller unsealed plain =
    let s1 : State = without_first s in
    let s2 : State = (after_hearing ends v.left actions s1).state in
    let s3 : State = perform_all_quietly end actions s2 in
    let leaves : Leaves end actions s2 s3 = quietly_leave end actions s2 in
    let is : (connect s).state ≡ s3 =
    ap (λ (d : List WaitingDial). (connect_first (slice_get d 0) (without_first s)).state) (shows.dials ∙ waits)
    ∙ ap (λ (r : Option Route). (connect_by r end (without_first s)).state) reaches
    ∙ ap (λ (h : AfterHearing). (done end h).state) heard
    ∙ performed_quietly end actions s2 none_close in
    subst (λ (t : State). Shows t (with_actions end actions v.left (record v { client = client; member = member; controller = controller; dials = dials }))) (sym is) (record {
      client = ap (λ (e : EndStates). slice_get e.clients v.at_client) leaves.ends ∙ is_client;
      member = ap (λ (e : EndStates). slice_get e.members v.at_member) leaves.ends ∙ is_member;
      controller = ap (λ (e : EndStates). slice_get e.controllers v.at_controller) leaves.ends ∙ is_controller;
      unsealed = unsealed;
      plain = plain;
      links = leaves.links ∙ shows.links;
      opened = leaves.opened ∙ shows.opened;
      units = leaves.units ∙ ap₂ (λ (u : List BagUnit) (l : List Route). u ++ units_sent l end actions) shows.units shows.links;
      dials = leaves.dials ∙ ap (λ (d : List WaitingDial). drop 1 d ++ dials_made end actions) (shows.dials ∙ waits);
      left = ap (λ (c : Drawing). c.left) leaves.left;
      moment = leaves.moment ∙ shows.moment;
    })

client_fails : (s : State) (v : Scene) (peer : List ℕ) (dials : List WaitingDial) (after : ClientState) (actions : List Action) → Shows s v →
    v.dials ≡ record { end = Client v.at_client; peer = peer } ∷ dials → route_to (Client v.at_client) (end_of_peer peer s.ends) ≡ None → AllByRecursion IsNoClose actions →
    client_step_of v.client event.DialFailed v.moment v.left ≡ whole_step v.left v.left actions after →
    Shows (connect s).state (with_actions (Client v.at_client) actions v.left (record v { client = after; dials = dials }))
client_fails s v peer dials after actions shows waits reaches none_close step =
    lands_failed s v (Client v.at_client) peer dials (with_client_at v.at_client after s.ends) actions after v.member v.controller shows waits reaches none_close
    (waiting_comes.client (without_first s) v.at_client v.client after event.DialFailed v.left actions shows.client
    (ap₂ (λ (now : ℕ) (l : List (List ℕ)). client_step_of v.client event.DialFailed now l) shows.moment shows.left ∙ step
    ∙ ap (λ (l : List (List ℕ)). whole_step l v.left actions after) (sym shows.left)))
    (got_set s.ends.clients v.at_client v.client after shows.client) shows.member shows.controller shows.unsealed shows.plain

member_fails : (s : State) (v : Scene) (peer : List ℕ) (dials : List WaitingDial) (after : MemberState) (actions : List Action) → Shows s v →
    v.dials ≡ record { end = Member v.at_member; peer = peer } ∷ dials → route_to (Member v.at_member) (end_of_peer peer s.ends) ≡ None → AllByRecursion IsNoClose actions →
    member_step_of v.member event.DialFailed v.moment v.left ≡ whole_step v.left v.left actions after →
    Shows (connect s).state (with_actions (Member v.at_member) actions v.left (record v { member = after; dials = dials }))
member_fails s v peer dials after actions shows waits reaches none_close step =
    lands_failed s v (Member v.at_member) peer dials (with_member_at v.at_member after s.ends) actions v.client after v.controller shows waits reaches none_close
    (waiting_comes.member (without_first s) v.at_member v.member after event.DialFailed v.left actions shows.member shows.plain
    (ap₂ (λ (now : ℕ) (l : List (List ℕ)). member_step_of v.member event.DialFailed now l) shows.moment shows.left ∙ step
    ∙ ap (λ (l : List (List ℕ)). whole_step l v.left actions after) (sym shows.left)))
    shows.client (got_set s.ends.members v.at_member v.member after shows.member) shows.controller shows.unsealed
    (plain_after v.member after event.DialFailed v.moment v.left v.left actions shows.plain step)

pub failings_are_seen : FailingsAreSeen
failings_are_seen = record {
  client_unreached = λ s g links left moment reaches shows.
      client_fails s _ g.task.server [] _ [] shows refl reaches tt (clients_step.failed g.task moment left);
  member_unreached = λ s g waits info challenge message table name some how links next number what computers bytes left moment reaches shows.
      member_fails s _ g.plan.controller [] _ (action.Told g.link (outcome.NoController drop_cause.DialFailed) ∷ []) shows refl reaches (tt, tt)
      (failings_step.dial_fails g.plan g.caller how info g.place next number moment what (logon_for g.link g.task challenge message) g.task left);
  member_unreached_held = λ s g waits info challenge message table name some how links next number most what computers one other left moment reaches joined who shows.
      let g1 : Meeting = settled_at g table name computers standing.Nothing next links in
      subst (λ (units : List BagUnit). Shows (connect s).state (meeting_scene g1 waits (out_talk g.task rpc_s_server_unavailable) (units ++ []) left moment))
      (sent_down g1 (who_fault rpc_s_server_unavailable) joined)
      (member_fails s _ g.plan.controller [] _
      (action.Told g.link (outcome.NoController drop_cause.DialFailed) ∷ action.Send g.link (who_fault rpc_s_server_unavailable) ∷ []) shows refl reaches (tt, (tt, tt))
      (failings_step.dial_fails_held g.plan g.caller how info g.place next number moment most what (logon_for g.link g.task challenge message) g.task one other left who));
  dropped = λ s g waits info challenge message table name how links opened link next number most q r cause computers one other left moment who below between is judged joined taken shows.
      let t : TurnScene = failing_turn g waits info challenge message (who.sent ∷ []) table name how links opened link in
      let g1 : Meeting = settled_with (secrets_dropped (is_denied cause) g.plan.secrets) (settled_at g table name computers standing.Nothing next links) in
      let talk = out_talk g.task rpc_s_server_unavailable in
      subst (λ (now_open : OpenMap). Shows (onward s).state (record (meeting_scene g1 waits talk (unit_down g (who_fault rpc_s_server_unavailable) ∷ []) left moment) { opened = now_open })) taken
      (subst (λ (units : List BagUnit). Shows (onward s).state (record (meeting_scene g1 waits talk (units ++ []) left moment) { opened = take_out same_number link opened }))
      (sent_down g1 (who_fault rpc_s_server_unavailable) joined)
      (scenes_turn.member_closes s _ (unit_back t (reply_bytes number r)) [] _ _ left link close.CallDone
      (action.Told g.link (outcome.NoController cause) ∷ action.Send g.link (who_fault rpc_s_server_unavailable) ∷ []) shows
      (heard_back t (reply_bytes number r) next number (step.Reply q) computers (turn_link link) left moment between (response_comes number q r is))
      (closes_turn t next number (step.Reply q) computers (unit_back t (reply_bytes number r) ∷ []) left moment between) (tt, (tt, tt))
      (failings_step.drops g.plan g.caller how info g.place next number link moment most q r cause (logon_for g.link g.task challenge message) g.task one other left below is judged who)
      (trusts_stay_beside.closed (kept_by g table name computers) link moment _ left g.trusts.nobody)));
  set_dropped = λ s g waits info challenge message table name how links opened link next number most r cause computers one other left moment who below between is judged joined taken shows.
      let t : TurnScene = failing_turn g waits info challenge message (who.sent ∷ []) table name how links opened link in
      let g1 : Meeting = settled_with (secrets_dropped (is_denied cause) g.plan.secrets) (settled_at g table name computers standing.Nothing next links) in
      let talk = out_talk g.task rpc_s_server_unavailable in
      subst (λ (now_open : OpenMap). Shows (onward s).state (record (meeting_scene g1 waits talk (unit_down g (who_fault rpc_s_server_unavailable) ∷ []) left moment) { opened = now_open })) taken
      (subst (λ (units : List BagUnit). Shows (onward s).state (record (meeting_scene g1 waits talk (units ++ []) left moment) { opened = take_out same_number link opened }))
      (sent_down g1 (who_fault rpc_s_server_unavailable) joined)
      (scenes_turn.member_closes s _ (unit_back t (set_reply_bytes number r)) [] _ _ left link close.CallDone
      (action.Told g.link (outcome.NoController cause) ∷ action.Send g.link (who_fault rpc_s_server_unavailable) ∷ []) shows
      (heard_back t (set_reply_bytes number r) next number (step.Set set_step.Reply) computers (turn_link link) left moment between (set_reply_comes number r is))
      (closes_turn t next number (step.Set set_step.Reply) computers (unit_back t (set_reply_bytes number r) ∷ []) left moment between) (tt, (tt, tt))
      (failings_step.set_drops g.plan g.caller how info g.place next number link moment most r cause (logon_for g.link g.task challenge message) g.task one other left below is judged who)
      (trusts_stay_beside.closed (kept_by g table name computers) link moment _ left g.trusts.nobody)));
  refused = λ s g waits info challenge message table name how o links opened link next number most status q r computers one other left moment who below between is judged joined taken shows.
      let t : TurnScene = failing_turn g waits info challenge message (who.sent ∷ []) table name how links opened link in
      let g1 : Meeting = settled_at g table name computers (standing.Open o) next links in
      let talk = out_talk g.task error_access_denied in
      subst (λ (now_open : OpenMap). Shows (onward s).state (record (meeting_scene g1 waits talk (unit_down g (who_fault error_access_denied) ∷ []) left moment) { opened = now_open })) taken
      (subst (λ (units : List BagUnit). Shows (onward s).state (record (meeting_scene g1 waits talk (units ++ []) left moment) { opened = take_out same_number link opened }))
      (sent_down g1 (who_fault error_access_denied) joined)
      (scenes_turn.member_closes s _ (unit_back t (reply_bytes number r)) [] _ _ left link close.CallDone
      (action.Told g.link (outcome.Out status) ∷ action.Send g.link (who_fault error_access_denied) ∷ []) shows
      (heard_back t (reply_bytes number r) next number (step.Reply q) computers (turn_link link) left moment between (response_comes number q r is))
      (closes_turn t next number (step.Reply q) computers (unit_back t (reply_bytes number r) ∷ []) left moment between) (tt, (tt, tt))
      (failings_step.refuses g.plan g.caller how o info g.place next number link moment most status q r (logon_for g.link g.task challenge message) g.task one other left below is judged who)
      (trusts_stay_beside.closed (kept_by g table name computers) link moment _ left g.trusts.nobody)));
  faults = λ s g waits status most one other left moment joined who shows.
      subst (λ (units : List BagUnit). Shows (onward s).state (meeting_scene g waits (out_talk g.task status) (units ++ []) left moment)) (sent_down g (who_fault status) joined)
      (scenes_go_on.to_member s _ (unit_up g who.sent) [] _ left (action.Send g.link (who_fault status) ∷ []) shows
      (heard_up g waits (out_talk g.task status) who.sent [] left moment (record { some = who.some; short = omega (arith, who.short) })) (tt, tt)
      (failings_step.faults g.plan (given_caller g) g.given.next g.how g.place g.number g.link moment most status g.task one other left who));
  faulted = λ s g terms talk status left moment known shows.
      let outcome_so = fault_outcome (status == rpc_s_server_unavailable) status in
      subst (λ (opened : OpenMap). Shows (onward s).state (record (rest_scene g (client_ended g.task outcome_so) g.links left moment []) { opened = opened })) (none_left g)
      (scenes_turn.client_closes s _ (unit_down g (who_fault status)) [] _ _ left g.link close.CallDone [] shows
      (heard_down g (client_phase.Asked terms client_question.Who) talk (who_fault status) [] left moment (unit_comes (fault_of 2 0 status) (fault_sends 2 status (omega arith) known)))
      (closes_own g (client_phase.Asked terms client_question.Who) talk (unit_down g (who_fault status) ∷ []) left moment) tt
      (failings_step.faulted g.task terms g.link moment status left known)
      (links_step.closed g.plan (given_caller g) g.given.next g.how g.place g.number g.link moment talk left));
}
