-- A turn that sets a member's next secret, as it is seen of a scene.
-- Of `sets_are_seen`.
use Rattle.std.proofs.Common.{None, Ok, ◌≡◌, ℕ, ◌<◌, ◌^◌, ◌&&◌, Bool, true, false, List, [], ◌∷◌, ◌++◌, Option, Some, sym, ap, ap₂, subst, ◌∙◌, append-nil, slice_get}
use Rattle.std.specs.List.{AllByRecursion}
use Rattle.ntlm_flags.specs.Flags.{has_flag}
use Rattle.channel_keys.specs.Flags.{rc4_flag}
use Rattle.wire_base.specs.Maps.{lookup, same_number, take_out}
use Rattle.authenticators.specs.SecureChannels.{SecureChannelState, after_call, fresh_channel}
use Rattle.outside.specs.declared.action.Action.{Action}
use Rattle.outside.specs.declared.action.Action.TheVariants as action
use Rattle.outside.specs.declared.action.CloseCause.{CloseCause}
use Rattle.outside.specs.declared.action.CloseCause.TheVariants as close
use Rattle.outside.specs.declared.event.Event.TheVariants as event
use Rattle.outside.specs.Drawing.{Drawing}
use Rattle.outside.specs.Machine.{step_by, whole_step}
use Rattle.rpc_units.specs.Calls.{bytes_of_call}
use Rattle.rpc_units.specs.Writing.{written}
use Rattle.logon_stubs.specs.declared.calls.Reply.{Reply}
use Rattle.logon_stubs.specs.declared.calls.Reply.TheVariants as reply
use Rattle.secret_change.specs.Secrets.{SecretsState, alone, written_secrets}
use Rattle.secret_change.specs.Ranges.{InRangeSetReply}
use Rattle.secret_change.specs.declared.calls.SetCall.{SetCall}
use Rattle.secret_change.specs.declared.calls.SetReply.{SetReply}
use Rattle.end_links.specs.Links.{LinkState}
use Rattle.logon_stubs.specs.declared.info.NetworkInfo.{NetworkInfo}
use Rattle.channel_client.specs.declared.caller.Caller.{Caller}
use Rattle.channel_client.specs.declared.state.Pending.{Pending}
use Rattle.channel_client.specs.State.{Requester}
use Rattle.member_server.specs.declared.plan.MemberPlan.{MemberPlan}
use Rattle.member_server.specs.declared.state.Logon.{Logon}
use Rattle.member_server.specs.declared.state.Talk.{Talk}
use Rattle.channel_client.specs.declared.state.Question.TheVariants as question
use Rattle.channel_client.specs.declared.state.SetStep.TheVariants as set_step
use Rattle.channel_client.specs.declared.state.Standing.{Standing}
use Rattle.channel_client.specs.declared.state.Standing.TheVariants as standing
use Rattle.channel_client.specs.declared.state.Step.{Step}
use Rattle.channel_client.specs.declared.state.Step.TheVariants as step
use Rattle.channel_client.specs.Machine.{SetOutcome, after, change_call, judge_set, logon_call, offered_flags, server_credential, settle_set}
use Rattle.controller_calls.specs.declared.state.Computers.{Computers}
use Rattle.domain_controller.specs.State.{State as ControllerState}
use Rattle.domain_controller.specs.TrustStep.{trust_step_of as controller_step_of}
use Rattle.domain_controller.proofs.TurnOutLaws.{got_set}
use Rattle.logon_client.specs.State.{State as ClientState}
use Rattle.member_server.specs.SealStep.{SealsNothing}
use Rattle.member_server.specs.State.{State as MemberState}
use Rattle.member_server.specs.Machine.{actions_in, at_turn, halted_state, keep_turn, state_in, step_of as member_step_of}
use Rattle.member_server.specs.Turns.{AtTurn, next_turn, take_by, timestamp_of}
use Rattle.world_moves.specs.declared.bag.BagUnit.{BagUnit}
use Rattle.world_moves.specs.declared.links.EndId.{EndId}
use Rattle.world_moves.specs.declared.links.EndId.TheVariants.{Controller, Member}
use Rattle.world_moves.specs.declared.links.OpenLink.{OpenLink}
use Rattle.world_moves.specs.declared.links.Route.{Route}
use Rattle.world_moves.specs.declared.state.State.{State}
use Rattle.world_moves.specs.declared.state.WaitingDial.{WaitingDial}
use Rattle.world_moves.specs.Acting.{AfterHearing, close_open, closed_at, done, done_quietly, hear, perform_all, perform_all_quietly, perform_quietly, shut_link}
use Rattle.world_moves.specs.Ends.{EndStates}
use Rattle.world_moves.specs.Links.{OpenMap}
use Rattle.world_moves.specs.Moving.{onward, settle}
use Rattle.logon_steps.specs.Asking.{asking_keeping, info_at}
use Rattle.logon_steps.specs.ControllerTurns.{reply_bytes, turn_link}
use Rattle.logon_steps.specs.MemberTurns.{bind_waits, logons_keeping, member_at, on_turn, plan_with}
use Rattle.logon_steps.specs.SetTurns.{set_reply_bytes, set_request}
use Rattle.logon_steps.specs.Turning.{IsTurnReply, turn_ack}
use Rattle.logon_steps.proofs.BesideTrustsLaws.{trusts_stay_beside}
use Rattle.logon_steps.proofs.SetTurnLaws.{set_comes, set_replied, set_reply_comes, set_turns_step}
use Rattle.logon_steps.proofs.TurningLaws.{response_comes, turn_ack_sends, unit_comes}
use Rattle.logon_runs.specs.Scenes.Scene.{HasFirst, IsNoClose, Scene, Shows, dials_made, units_sent, with_actions}
use Rattle.logon_runs.specs.Scenes.SetScenes.{SetsAreSeen}
use Rattle.logon_runs.specs.Scenes.Turnings.{ClosesTo, shut_in}
use Rattle.logon_runs.specs.Scenes.TurnScenes.{IsBetween, TurnScene, dial_scene, kept_in, turn_scene, unit_back, unit_there, waiting_scene, with_accounts, with_secrets}
use Rattle.logon_runs.specs.Scenes.WaitingUnits.{Comes, after_hearing, waiting, with_controller_at, with_member_at}
use Rattle.logon_runs.proofs.Scenes.SceneLaws.{Leaves, first_comes, performed_quietly, quietly_leave, scenes_go_on, sends_leave}
use Rattle.logon_runs.proofs.Scenes.TurnSceneLaws.{closes_turn, heard_back, heard_there, sent_back, sent_there}
use Rattle.logon_runs.proofs.Scenes.TurningSceneLaws.{scenes_turn}
use Rattle.logon_runs.proofs.Scenes.WaitingLaws.{unsealed_after, plain_after, waiting_comes}

-- ---- a text is kept before the link is closed

-- the world once the text is kept
abbrev kept_at : EndId → EndStates → List (List ℕ) → List Action → List ℕ → State → State
kept_at end ends left all text s = perform_quietly end (action.Keep text) (after_hearing ends left all s).state

keeps_and_closes : (s : State) (v : Scene) (unit : BagUnit) (later : List BagUnit) (end other : EndId) (ends others : EndStates) (left : List (List ℕ)) (link : ℕ) (cause : CloseCause)
    (text : List ℕ) (actions : List Action) (client : ClientState) (member : MemberState) (controller : ControllerState) → Shows s v → (comes : Comes s unit later end) →
    ClosesTo v end other link → AllByRecursion IsNoClose actions →
    let all : List Action = action.Keep text ∷ action.Close link cause ∷ actions in
    let kept : State = kept_at end ends left all text (settle comes.number s) in
    hear end (event.Bytes unit.link unit.bytes) (settle comes.number s) ≡ after_hearing ends left all (settle comes.number s) →
    hear other (event.Closed link) (shut_link link kept) ≡ after_hearing others left [] (shut_link link kept) →
    slice_get others.clients v.at_client ≡ Some client → slice_get others.members v.at_member ≡ Some member → slice_get others.controllers v.at_controller ≡ Some controller →
    controller.trusting.sealing ≡ None → SealsNothing member →
    Shows (onward s).state (with_actions end actions left (shut_in link (record v { client = client; member = member; controller = controller; units = later })))
keeps_and_closes s v unit later end other ends others left link cause text actions client member controller shows comes closes none_close heard heard_too is_client is_member is_controller unsealed plain =
    let s1 : State = settle comes.number s in
    let all : List Action = action.Keep text ∷ action.Close link cause ∷ actions in
    let s2 : State = (after_hearing ends left all s1).state in
    let kept : State = kept_at end ends left all text s1 in
    let s3 : State = (after_hearing others left [] (shut_link link kept)).state in
    let s4 : State = perform_all_quietly end actions s3 in
    let leaves : Leaves end actions s3 s4 = quietly_leave end actions s3 in
    let is : (onward s).state ≡ s4 =
    comes.state
    ∙ ap (λ (h : AfterHearing). (done end h).state) heard
    ∙ ap (λ (o : Option OpenLink). (perform_all end actions (close_open o end link kept).state).state) (ap (λ (o : OpenMap). lookup same_number link o) shows.opened ∙ closes.found)
    ∙ ap (λ (h : Option EndId). (perform_all end actions (closed_at h link (shut_link link kept)).state).state) closes.side
    ∙ ap (λ (h : AfterHearing). (perform_all end actions (done_quietly other h).state).state) heard_too
    ∙ performed_quietly end actions s3 none_close in
    subst (λ (t : State). Shows t (with_actions end actions left (shut_in link (record v { client = client; member = member; controller = controller; units = later })))) (sym is) (record {
      client = ap (λ (e : EndStates). slice_get e.clients v.at_client) leaves.ends ∙ is_client;
      member = ap (λ (e : EndStates). slice_get e.members v.at_member) leaves.ends ∙ is_member;
      controller = ap (λ (e : EndStates). slice_get e.controllers v.at_controller) leaves.ends ∙ is_controller;
      unsealed = unsealed;
      plain = plain;
      links = leaves.links ∙ shows.links;
      opened = leaves.opened ∙ ap (λ (o : OpenMap). take_out same_number link o) shows.opened;
      units = leaves.units
          ∙ ap₂ (λ (u : List BagUnit) (l : List Route). u ++ units_sent l end actions) (sends_leave end (action.Keep text) s2 ∙ append-nil (waiting s2.bag) ∙ comes.behind) shows.links;
      dials = leaves.dials ∙ ap (λ (d : List WaitingDial). d ++ dials_made end actions) (append-nil s.dials ∙ shows.dials);
      left = ap (λ (c : Drawing). c.left) leaves.left;
      moment = leaves.moment ∙ shows.moment;
    })

member_keeps : (s : State) (v : Scene) (unit : BagUnit) (later : List BagUnit) (after : MemberState) (controller : ControllerState) (left : List (List ℕ)) (link : ℕ)
    (cause : CloseCause) (text : List ℕ) (actions : List Action) → Shows s v → HasFirst v unit later (Member v.at_member) →
    ClosesTo v (Member v.at_member) (Controller v.at_controller) link → AllByRecursion IsNoClose actions →
    member_step_of v.member (event.Bytes unit.link unit.bytes) v.moment v.left ≡ whole_step v.left left (action.Keep text ∷ action.Close link cause ∷ actions) after →
    controller_step_of v.controller (event.Closed link) v.moment left ≡ whole_step left left [] controller →
    Shows (onward s).state (with_actions (Member v.at_member) actions left (shut_in link (record v { member = after; controller = controller; units = later })))
member_keeps s v unit later after controller left link cause text actions shows first closes none_close step closed =
    let comes : Comes s unit later (Member v.at_member) = first_comes s v unit later (Member v.at_member) shows first in
    let s1 : State = settle comes.number s in
    let all : List Action = action.Keep text ∷ action.Close link cause ∷ actions in
    let ends : EndStates = with_member_at v.at_member after s.ends in
    keeps_and_closes s v unit later (Member v.at_member) (Controller v.at_controller) ends (with_controller_at v.at_controller controller ends) left link cause text actions v.client after controller shows comes closes
    none_close
    (waiting_comes.member s1 v.at_member v.member after (event.Bytes unit.link unit.bytes) left all shows.member shows.plain
    (ap₂ (λ (now : ℕ) (l : List (List ℕ)). member_step_of v.member (event.Bytes unit.link unit.bytes) now l) shows.moment shows.left ∙ step
    ∙ ap (λ (l : List (List ℕ)). whole_step l left all after) (sym shows.left)))
    (waiting_comes.controller (shut_link link (kept_at (Member v.at_member) ends left all text s1)) v.at_controller v.controller controller (event.Closed link) left [] shows.controller shows.unsealed
    (ap (λ (now : ℕ). controller_step_of v.controller (event.Closed link) now left) shows.moment ∙ closed))
    shows.client (got_set s.ends.members v.at_member v.member after shows.member) (got_set s.ends.controllers v.at_controller v.controller controller shows.controller)
    (unsealed_after v.controller controller (event.Closed link) v.moment left left [] shows.unsealed closed)
    (plain_after v.member after (event.Bytes unit.link unit.bytes) v.moment v.left left all shows.plain step)

-- ---- the reply that opens the channel

-- two secrets, of which the next one is tried or not
abbrev two : List ℕ → List ℕ → Bool → SecretsState
two current new is_tried = record { current = current; next = Some (record { secret = new; is_tried = is_tried }) }

-- the turn's member, with that standing and those secrets
abbrev member_of : TurnScene → Standing → SecretsState → ℕ → ℕ → Step → MemberState
member_of t how secrets next number what =
    member_at (logons_keeping (plan_with secrets t.plan) t.caller how t.info t.place next number what t.asked) t.accepted (on_turn t.link)

module _ (s : State) (t : TurnScene) (next number flags : ℕ) (client server current new : List ℕ) (computers : Computers) (left : List (List ℕ)) (moment : ℕ) (between : IsBetween t) (below : number < 2 ^ 32)
    (half : t.how ≡ standing.Half client server) (fits : (has_flag offered_flags flags && has_flag flags rc4_flag) ≡ true) where
  abbrev opening : Reply
  opening = reply.Authenticate (record { credential = server_credential t.caller.secret client server; flags = flags; status = 0 })

  abbrev fresh : SecureChannelState
  fresh = fresh_channel t.caller.secret client server offered_flags

  abbrev Replied : Type 0
  Replied = Shows s (turn_scene t next number (step.Reply question.Authenticate) computers (turn_link t.link) (unit_back t (reply_bytes number opening) ∷ []) left moment)

  opened_sets : t.plan.secrets ≡ two current new false → IsTurnReply question.Authenticate opening → Replied →
      Shows (onward s).state
      (waiting_scene t (take_out same_number t.link t.opened) (standing.Open (after_call fresh (timestamp_of moment))) (after next) next
      (step.Set (set_step.Bind (change_call t.caller fresh (timestamp_of moment) new))) computers [] left moment)
  opened_sets secrets is shows =
      let actions : List Action = action.Dial t.plan.controller ∷ [] in
      let set : Step = step.Set (set_step.Bind (change_call t.caller fresh (timestamp_of moment) new)) in
      scenes_turn.member_closes s _ (unit_back t (reply_bytes number opening)) [] _ _ left t.link close.CallDone actions shows
      (heard_back t (reply_bytes number opening) next number (step.Reply question.Authenticate) computers (turn_link t.link) left moment between (response_comes number question.Authenticate opening is))
      (closes_turn t next number (step.Reply question.Authenticate) computers (unit_back t (reply_bytes number opening) ∷ []) left moment between) (tt, tt)
      (ap₂ (λ (h : Standing) (k : SecretsState). member_step_of (member_of t h k next number (step.Reply question.Authenticate)) (event.Bytes t.link (reply_bytes number opening)) moment left) half secrets
      ∙ set_turns_step.opened t.plan t.caller t.info t.place next number t.link moment flags client server current new t.asked t.accepted left below fits is
      ∙ ap (λ (k : SecretsState). whole_step left left (action.Close t.link close.CallDone ∷ actions)
      (member_at (logons_keeping (plan_with k t.plan) t.caller (standing.Open (after_call fresh (timestamp_of moment))) t.info t.place (after next) next set t.asked) t.accepted (bind_waits next)))
      (sym secrets))
      (trusts_stay_beside.closed (kept_in t computers) t.link moment _ left t.trusts.nobody)

  opened_kept : t.plan.secrets ≡ two current new true → IsTurnReply question.Authenticate opening → Replied →
      Shows (onward s).state
      (dial_scene (with_secrets (alone new) t) (take_out same_number t.link t.opened) (standing.Open (after_call fresh (timestamp_of moment))) (after next) next
      (logon_call t.caller fresh (timestamp_of moment) (info_at t.place t.info)) computers [] left moment)
  opened_kept secrets is shows =
      member_keeps s _ (unit_back t (reply_bytes number opening)) [] _ _ left t.link close.CallDone (written_secrets (alone new)) (action.Dial t.plan.controller ∷ []) shows
      (heard_back t (reply_bytes number opening) next number (step.Reply question.Authenticate) computers (turn_link t.link) left moment between (response_comes number question.Authenticate opening is))
      (closes_turn t next number (step.Reply question.Authenticate) computers (unit_back t (reply_bytes number opening) ∷ []) left moment between) (tt, tt)
      (ap₂ (λ (h : Standing) (k : SecretsState). member_step_of (member_of t h k next number (step.Reply question.Authenticate)) (event.Bytes t.link (reply_bytes number opening)) moment left) half secrets
      ∙ set_turns_step.opened_next t.plan t.caller t.info t.place next number t.link moment flags client server current new t.asked t.accepted left below fits is)
      (trusts_stay_beside.closed (kept_in t computers) t.link moment _ left t.trusts.nobody)

-- ---- the bind, the call and the reply

asks_on : (s : State) (t : TurnScene) (next number : ℕ) (c : SetCall) (computers : Computers) (left : List (List ℕ)) (moment : ℕ) → IsBetween t → number < 2 ^ 32 →
    Shows s (turn_scene t next number (step.Set (set_step.Bind c)) computers (turn_link t.link) (unit_back t (written (turn_ack number)) ∷ []) left moment) →
    Shows (onward s).state
    (turn_scene t (after next) next (step.Set set_step.Reply) computers (turn_link t.link) (unit_there t (bytes_of_call (set_request next c) 5840) ∷ []) left moment)
asks_on s t next number c computers left moment between below shows =
    subst (λ (units : List BagUnit). Shows (onward s).state (turn_scene t (after next) next (step.Set set_step.Reply) computers (turn_link t.link) (units ++ []) left moment))
    (sent_there t (bytes_of_call (set_request next c) 5840) between)
    (scenes_go_on.to_member s _ (unit_back t (written (turn_ack number))) [] _ left (action.Send t.link (bytes_of_call (set_request next c) 5840) ∷ []) shows
    (heard_back t (written (turn_ack number)) next number (step.Set (set_step.Bind c)) computers (turn_link t.link) left moment between (unit_comes (turn_ack number) (turn_ack_sends number below))) (tt, tt)
    (set_turns_step.bound t.plan t.caller t.how t.info t.place next number t.link moment c t.asked t.accepted left below))

-- what the member makes of a reply that takes the secret
set_by : (plan : MemberPlan) (caller : Caller) (o later : SecureChannelState) (r : SetReply) (info : NetworkInfo) (place next number link now : ℕ) (current new : List ℕ) (asked : List (ℕ × Logon))
    (links : List (ℕ × LinkState Talk)) (left : List (List ℕ)) → number < 2 ^ 32 → InRangeSetReply r → judge_set r (standing.Open o) ≡ Ok later →
    member_step_of (member_at (logons_keeping (plan_with (two current new false) plan) caller (standing.Open o) info place next number (step.Set set_step.Reply) asked) links (on_turn link))
    (event.Bytes link (set_reply_bytes number r)) now left
    ≡ whole_step left left (action.Keep (written_secrets (alone new)) ∷ action.Close link close.CallDone ∷ action.Dial plan.controller ∷ [])
    (member_at (logons_keeping (plan_with (alone new) plan) caller (standing.Open (after_call later (timestamp_of now))) info place (after next) next
    (step.Bind (logon_call caller later (timestamp_of now) (info_at place info))) asked) links (bind_waits next))
set_by plan caller o later r info place next number link now current new asked links left below range judged =
    let kept : MemberPlan = plan_with (two current new false) plan in
    let pending : Pending = record { number = number; place = place; step = step.Set set_step.Reply } in
    let s : Requester = asking_keeping caller (standing.Open o) info place next (Some pending) (Some new) in
    let at : AtTurn = at_turn link (record { logons = record { plan = kept; channel = s; asked = asked }; links = links; actions = [] }) in
    set_replied kept s asked number place link now r links left below range
    ∙ ap (λ (outcome : SetOutcome). step_by actions_in state_in halted_state left
    (next_turn now ((take_by (settle_set outcome s) None at).0.work, keep_turn (take_by (settle_set outcome s) None at).1 [] link) left)) judged

set_on : (s : State) (t : TurnScene) (o later : SecureChannelState) (r : SetReply) (next number : ℕ) (current new : List ℕ) (computers : Computers) (left : List (List ℕ)) (moment : ℕ) → IsBetween t →
    number < 2 ^ 32 → InRangeSetReply r → t.how ≡ standing.Open o → judge_set r (standing.Open o) ≡ Ok later → t.plan.secrets ≡ two current new false →
    Shows s (turn_scene t next number (step.Set set_step.Reply) computers (turn_link t.link) (unit_back t (set_reply_bytes number r) ∷ []) left moment) →
    Shows (onward s).state
    (dial_scene (with_secrets (alone new) t) (take_out same_number t.link t.opened) (standing.Open (after_call later (timestamp_of moment))) (after next) next
    (logon_call t.caller later (timestamp_of moment) (info_at t.place t.info)) computers [] left moment)
set_on s t o later r next number current new computers left moment between below range is_open judged secrets shows =
    let bytes : List ℕ = set_reply_bytes number r in
    member_keeps s _ (unit_back t bytes) [] _ _ left t.link close.CallDone (written_secrets (alone new)) (action.Dial t.plan.controller ∷ []) shows
    (heard_back t bytes next number (step.Set set_step.Reply) computers (turn_link t.link) left moment between (set_reply_comes number r range))
    (closes_turn t next number (step.Set set_step.Reply) computers (unit_back t bytes ∷ []) left moment between) (tt, tt)
    (ap₂ (λ (h : Standing) (k : SecretsState). member_step_of (member_of t h k next number (step.Set set_step.Reply)) (event.Bytes t.link bytes) moment left) is_open secrets
    ∙ set_by t.plan t.caller o later r t.info t.place next number t.link moment current new t.asked t.accepted left below range judged)
    (trusts_stay_beside.closed (kept_in t computers) t.link moment _ left t.trusts.nobody)

pub sets_are_seen : SetsAreSeen
sets_are_seen = record {
  member_keeps = member_keeps;
  opened = λ s t next number flags client server current new computers left moment between below half secrets fits is shows.
      opened_sets s t next number flags client server current new computers left moment between below half fits secrets is shows;
  opened_next = λ s t next number flags client server current new computers left moment between below half secrets fits is shows.
      opened_kept s t next number flags client server current new computers left moment between below half fits secrets is shows;
  asks = asks_on;
  sets = λ s t next number what c r how text computers later accounts left rest moment between is answered shows.
      subst (λ (units : List BagUnit). Shows (onward s).state (turn_scene (with_accounts accounts t) next number what later (turn_link t.link) (units ++ []) rest moment))
      (sent_back t (set_reply_bytes number r) between)
      (scenes_go_on.to_controller s _ (unit_there t (bytes_of_call (set_request number c) 5840)) [] _ rest
      (action.Keep text ∷ action.Judged how ∷ action.Send t.link (set_reply_bytes number r) ∷ []) shows
      (heard_there t (bytes_of_call (set_request number c) 5840) next number what computers (turn_link t.link) left moment between (set_comes number c is)) (tt, (tt, (tt, tt))) answered);
  refuses = λ s t next number what c r how computers later accounts left rest moment between is answered shows.
      subst (λ (units : List BagUnit). Shows (onward s).state (turn_scene (with_accounts accounts t) next number what later (turn_link t.link) (units ++ []) rest moment))
      (sent_back t (set_reply_bytes number r) between)
      (scenes_go_on.to_controller s _ (unit_there t (bytes_of_call (set_request number c) 5840)) [] _ rest
      (action.Judged how ∷ action.Send t.link (set_reply_bytes number r) ∷ []) shows
      (heard_there t (bytes_of_call (set_request number c) 5840) next number what computers (turn_link t.link) left moment between (set_comes number c is)) (tt, (tt, tt)) answered);
  set = λ s t o later r next number current new computers left moment between below range is_open judged secrets shows.
      set_on s t o later r next number current new computers left moment between below range is_open judged secrets shows;
}
