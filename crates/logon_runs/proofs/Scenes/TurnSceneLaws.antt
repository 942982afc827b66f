-- One turn of a member with its controller, as it is seen of a scene.
-- Of `turns_are_seen`.
use Rattle.std.proofs.Common.{◌≡◌, ℕ, ◌<◌, ◌^◌, Bool, true, false, List, [], ◌∷◌, ◌++◌, length, Option, None, refl, sym, ap, ap₂, subst, ◌∙◌, slice_get}
use Rattle.std.specs.Prelude.{◌&&◌}
use Rattle.wire_base.specs.Maps.{same_number, take_out}
use Rattle.ntlm_flags.specs.Flags.{has_flag}
use Rattle.channel_keys.specs.Flags.{rc4_flag}
use Rattle.authenticators.specs.SecureChannels.{SecureChannelState, after_call, fresh_channel}
use Rattle.outside.specs.declared.action.Action.TheVariants as action
use Rattle.outside.specs.declared.event.Event.TheVariants as event
use Rattle.outside.specs.declared.action.CloseCause.TheVariants as close
use Rattle.rpc_units.specs.Calls.{bytes_of_call}
use Rattle.rpc_units.specs.Writing.{written}
use Rattle.end_links.specs.Binding.{bind_of}
use Rattle.logon_stubs.specs.declared.calls.Reply.{Reply}
use Rattle.logon_stubs.specs.declared.calls.Reply.TheVariants as reply
use Rattle.logon_stubs.specs.Interface.{netlogon_syntax}
use Rattle.channel_client.specs.declared.state.Question.TheVariants as question
use Rattle.channel_client.specs.declared.state.Standing.{Standing}
use Rattle.channel_client.specs.declared.state.Standing.TheVariants as standing
use Rattle.channel_client.specs.declared.state.Step.{Step}
use Rattle.channel_client.specs.declared.state.Step.TheVariants as step
use Rattle.channel_client.specs.Machine.{after, auth_call, logon_call, offered_flags, question_of, server_credential}
use Rattle.domain_controller.specs.Hearing.{first_talk}
use Rattle.domain_controller.specs.Step.{LinkMap}
use Rattle.controller_calls.specs.declared.state.Computers.{Computers}
use Rattle.member_server.specs.Machine.{step_of as member_step_of}
use Rattle.member_server.specs.Turns.{timestamp_of}
use Rattle.world_moves.specs.declared.bag.BagUnit.{BagUnit}
use Rattle.world_moves.specs.declared.links.EndId.TheVariants.{Controller, Member}
use Rattle.world_moves.specs.declared.links.LinkKind.TheVariants as kind
use Rattle.world_moves.specs.declared.links.Route.{Route}
use Rattle.world_moves.specs.declared.links.Route.TheVariants.{ToController}
use Rattle.world_moves.specs.declared.state.State.{State}
use Rattle.world_moves.specs.Moving.{connect, onward}
use Rattle.world_moves.specs.Acting.{sent_if}
use Rattle.logon_steps.specs.ControllerTurns.{one_link, reply_bytes, turn_link}
use Rattle.secret_change.specs.Secrets.{SecretsState}
use Rattle.secret_change.specs.declared.secrets.Next.{Next}
use Rattle.outside.specs.Machine.{whole_step}
use Rattle.logon_steps.specs.MemberTurns.{bind_waits, logons_keeping, member_at, on_turn, plan_with}
use Rattle.logon_steps.specs.Turning.{IsTurnReply, turn_ack, turn_request}
use Rattle.logon_steps.proofs.BesideTrustsLaws.{trusts_stay_beside}
use Rattle.logon_steps.proofs.MemberTurnLaws.{turns_step}
use Rattle.logon_steps.proofs.StreamLaws.{same}
use Rattle.logon_steps.proofs.TurningLaws.{ComesAtOnce, request_comes, response_comes, turn_ack_sends, turn_bind_sends, unit_comes}
use Rattle.logon_runs.specs.Scenes.Scene.{HasFirst, Shows}
use Rattle.logon_runs.specs.Scenes.TurnScenes.{IsBetween, TurnScene, TurnsAreSeen, dial_scene, kept_in, next_turn, turn_scene, unit_back, unit_there, waiting_scene, with_accounts}
use Rattle.logon_runs.specs.Scenes.Turnings.{ClosesTo}
use Rattle.logon_runs.proofs.Scenes.SceneLaws.{scenes_go_on}
use Rattle.logon_runs.proofs.Scenes.TurningSceneLaws.{scenes_turn}

-- ---- who hears what is on the link of the turn

pub heard_there : (t : TurnScene) (bytes : List ℕ) (next number : ℕ) (what : Step) (computers : Computers) (links : LinkMap) (left : List (List ℕ)) (moment : ℕ) → IsBetween t → ComesAtOnce bytes →
    HasFirst (turn_scene t next number what computers links (unit_there t bytes ∷ []) left moment) (unit_there t bytes) [] (Controller t.at_controller)
heard_there t bytes next number what computers links left moment between comes = record {
  units = refl;
  some = comes.some;
  short = comes.short;
  there = record { route = ToController t.at_member t.at_controller; dialler = true; acceptor = true };
  found = between.opened;
  hearer = refl;
}

pub heard_back : (t : TurnScene) (bytes : List ℕ) (next number : ℕ) (what : Step) (computers : Computers) (links : LinkMap) (left : List (List ℕ)) (moment : ℕ) → IsBetween t → ComesAtOnce bytes →
    HasFirst (turn_scene t next number what computers links (unit_back t bytes ∷ []) left moment) (unit_back t bytes) [] (Member t.at_member)
heard_back t bytes next number what computers links left moment between comes = record {
  units = refl;
  some = comes.some;
  short = comes.short;
  there = record { route = ToController t.at_member t.at_controller; dialler = true; acceptor = true };
  found = between.opened;
  hearer = refl;
}

-- ---- what is sent on it

pub sent_back : (t : TurnScene) (bytes : List ℕ) → IsBetween t → sent_if (slice_get t.links t.link) (Controller t.at_controller) t.link bytes ≡ unit_back t bytes ∷ []
sent_back t bytes between =
    ap (λ (r : Option Route). sent_if r (Controller t.at_controller) t.link bytes) between.route
    ∙ ap (λ (b : Bool). record { bytes = bytes; link = t.link; kind = kind.ToController; back = b; is_settled = false } ∷ []) (same t.at_controller)

pub sent_there : (t : TurnScene) (bytes : List ℕ) → IsBetween t → sent_if (slice_get t.links t.link) (Member t.at_member) t.link bytes ≡ unit_there t bytes ∷ []
sent_there t bytes between = ap (λ (r : Option Route). sent_if r (Member t.at_member) t.link bytes) between.route

-- ---- a turn that is done

pub closes_turn : (t : TurnScene) (next number : ℕ) (what : Step) (computers : Computers) (units : List BagUnit) (left : List (List ℕ)) (moment : ℕ) → IsBetween t →
    ClosesTo (turn_scene t next number what computers (turn_link t.link) units left moment) (Member t.at_member) (Controller t.at_controller) t.link
closes_turn t next number what computers units left moment between = record {
  there = record { route = ToController t.at_member t.at_controller; dialler = true; acceptor = true };
  found = between.opened;
  side = refl;
}

half_ends : (s : State) (t : TurnScene) (how : Standing) (next number : ℕ) (client server : List ℕ) (computers : Computers) (left : List (List ℕ)) (moment : ℕ) → t.how ≡ standing.Nothing → IsBetween t → number < 2 ^ 32 →
    let r : Reply = reply.Challenge (record { challenge = server; status = 0 }) in
    IsTurnReply (question.Challenge client) r →
    Shows s (turn_scene t next number (step.Reply (question.Challenge client)) computers (turn_link t.link) (unit_back t (reply_bytes number r) ∷ []) left moment) →
    Shows (onward s).state
    (dial_scene t (take_out same_number t.link t.opened) (standing.Half client server) (after next) next (auth_call t.caller client server) computers [] left moment)
half_ends s t how next number client server computers left moment is_nothing between below is shows =
    let r : Reply = reply.Challenge (record { challenge = server; status = 0 }) in
    scenes_turn.member_closes s _ (unit_back t (reply_bytes number r)) [] _ _ left t.link close.CallDone (action.Dial t.plan.controller ∷ []) shows
    (heard_back t (reply_bytes number r) next number (step.Reply (question.Challenge client)) computers (turn_link t.link) left moment between (response_comes number (question.Challenge client) r is))
    (closes_turn t next number (step.Reply (question.Challenge client)) computers (unit_back t (reply_bytes number r) ∷ []) left moment between) (tt, tt)
    (ap (λ (h : Standing). member_step_of (member_at (logons_keeping t.plan t.caller h t.info t.place next number (step.Reply (question.Challenge client)) t.asked) t.accepted (on_turn t.link))
    (event.Bytes t.link (reply_bytes number r)) moment left) is_nothing
    ∙ turns_step.half t.plan t.caller t.info t.place next number t.link moment client server t.asked t.accepted left below is)
    (trusts_stay_beside.closed (kept_in t computers) t.link moment _ left t.trusts.nobody)

-- the secrets, with another next one
abbrev pub with_next : Option Next → SecretsState → SecretsState
with_next next secrets = record secrets { next = next }

opened_ends : (s : State) (t : TurnScene) (how : Standing) (next number flags : ℕ) (client server : List ℕ) (computers : Computers) (left : List (List ℕ)) (moment : ℕ) → t.how ≡ standing.Half client server → t.plan.secrets.next ≡ None → IsBetween t →
    number < 2 ^ 32 → (has_flag offered_flags flags && has_flag flags rc4_flag) ≡ true →
    let r : Reply = reply.Authenticate (record { credential = server_credential t.caller.secret client server; flags = flags; status = 0 }) in
    let o : SecureChannelState = fresh_channel t.caller.secret client server offered_flags in
    IsTurnReply question.Authenticate r →
    Shows s (turn_scene t next number (step.Reply question.Authenticate) computers (turn_link t.link) (unit_back t (reply_bytes number r) ∷ []) left moment) →
    Shows (onward s).state
    (dial_scene t (take_out same_number t.link t.opened) (standing.Open (after_call o (timestamp_of moment))) (after next) next
    (logon_call t.caller o (timestamp_of moment) (record t.info { logon_id = t.place })) computers [] left moment)
opened_ends s t how next number flags client server computers left moment is_half one between below fits is shows =
    let r : Reply = reply.Authenticate (record { credential = server_credential t.caller.secret client server; flags = flags; status = 0 }) in
    let o : SecureChannelState = fresh_channel t.caller.secret client server offered_flags in
    scenes_turn.member_closes s _ (unit_back t (reply_bytes number r)) [] _ _ left t.link close.CallDone (action.Dial t.plan.controller ∷ []) shows
    (heard_back t (reply_bytes number r) next number (step.Reply question.Authenticate) computers (turn_link t.link) left moment between (response_comes number question.Authenticate r is))
    (closes_turn t next number (step.Reply question.Authenticate) computers (unit_back t (reply_bytes number r) ∷ []) left moment between) (tt, tt)
    (ap₂ (λ (h : Standing) (n : Option Next). member_step_of
    (member_at (logons_keeping (plan_with (with_next n t.plan.secrets) t.plan) t.caller h t.info t.place next number (step.Reply question.Authenticate) t.asked) t.accepted (on_turn t.link))
    (event.Bytes t.link (reply_bytes number r)) moment left) is_half one
    ∙ turns_step.opened t.plan t.caller t.info t.place next number t.link moment flags client server t.plan.secrets.current t.asked t.accepted left below fits is
    ∙ ap (λ (n : Option Next). whole_step left left (action.Close t.link close.CallDone ∷ action.Dial t.plan.controller ∷ [])
    (member_at (logons_keeping (plan_with (with_next n t.plan.secrets) t.plan) t.caller (standing.Open (after_call o (timestamp_of moment))) t.info t.place (after next) next
    (step.Bind (logon_call t.caller o (timestamp_of moment) (record t.info { logon_id = t.place }))) t.asked) t.accepted (bind_waits next))) (sym one))
    (trusts_stay_beside.closed (kept_in t computers) t.link moment _ left t.trusts.nobody)

pub turns_are_seen : TurnsAreSeen
turns_are_seen = record {
  dialled = λ s t opened how next number what computers units left moment reach found new between shows.
      let later : TurnScene = next_turn t opened how in
      subst (λ (more : List BagUnit). Shows (connect s).state (turn_scene later next number what computers (one_link (length t.links) first_talk) (units ++ (more ++ [])) left moment))
      (sent_there later (written (bind_of netlogon_syntax number)) between)
      (scenes_turn.member_dials s (waiting_scene t opened how next number what computers units left moment) t.plan.controller [] _ _ (action.Send (length t.links) (written (bind_of netlogon_syntax number)) ∷ [])
      shows refl reach found (tt, tt)
      (trusts_stay_beside.opened (kept_in t computers) (length t.links) moment left t.trusts.nobody)
      (turns_step.dialled t.plan t.caller how t.info t.place next number (length t.links) moment what t.asked t.accepted left new));
  half = λ s t next number client server computers left moment between below how is shows.
      half_ends s t t.how next number client server computers left moment how between below is shows;
  opened = λ s t next number flags client server computers left moment between below how one fits is shows.
      opened_ends s t t.how next number flags client server computers left moment how one between below fits is shows;
  bound = λ s t next number what computers left moment between below shows.
      subst (λ (units : List BagUnit). Shows (onward s).state (turn_scene t next number what computers (turn_link t.link) (units ++ []) left moment))
      (sent_back t (written (turn_ack number)) between)
      (scenes_go_on.to_controller s _ (unit_there t (written (bind_of netlogon_syntax number))) [] _ left (action.Send t.link (written (turn_ack number)) ∷ []) shows
      (heard_there t (written (bind_of netlogon_syntax number)) next number what computers (one_link t.link first_talk) left moment between
      (unit_comes (bind_of netlogon_syntax number) (turn_bind_sends number below))) (tt, tt)
      (trusts_stay_beside.bound (kept_in t computers) t.link moment number left t.trusts.nobody below));
  asks = λ s t next number c computers left moment between below shows.
      subst (λ (units : List BagUnit). Shows (onward s).state (turn_scene t (after next) next (step.Reply (question_of c)) computers (turn_link t.link) (units ++ []) left moment))
      (sent_there t (bytes_of_call (turn_request next c) 5840) between)
      (scenes_go_on.to_member s _ (unit_back t (written (turn_ack number))) [] _ left (action.Send t.link (bytes_of_call (turn_request next c) 5840) ∷ []) shows
      (heard_back t (written (turn_ack number)) next number (step.Bind c) computers (turn_link t.link) left moment between (unit_comes (turn_ack number) (turn_ack_sends number below))) (tt, tt)
      (turns_step.bound t.plan t.caller t.how t.info t.place next number t.link moment c t.asked t.accepted left below));
  answers = λ s t next number what c r computers later left rest moment between is answered shows.
      subst (λ (units : List BagUnit). Shows (onward s).state (turn_scene t next number what later (turn_link t.link) (units ++ []) rest moment))
      (sent_back t (reply_bytes number r) between)
      (scenes_go_on.to_controller s _ (unit_there t (bytes_of_call (turn_request number c) 5840)) [] _ rest (action.Send t.link (reply_bytes number r) ∷ []) shows
      (heard_there t (bytes_of_call (turn_request number c) 5840) next number what computers (turn_link t.link) left moment between (request_comes number c is)) (tt, tt) answered);
  judges = λ s t next number what c r how computers later accounts left rest moment between is answered shows.
      subst (λ (units : List BagUnit). Shows (onward s).state (turn_scene (with_accounts accounts t) next number what later (turn_link t.link) (units ++ []) rest moment))
      (sent_back t (reply_bytes number r) between)
      (scenes_go_on.to_controller s _ (unit_there t (bytes_of_call (turn_request number c) 5840)) [] _ rest (action.Judged how ∷ action.Send t.link (reply_bytes number r) ∷ []) shows
      (heard_there t (bytes_of_call (turn_request number c) 5840) next number what computers (turn_link t.link) left moment between (request_comes number c is)) (tt, (tt, tt)) answered);
}
