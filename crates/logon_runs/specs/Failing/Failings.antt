-- A logon that fails, as it is seen of a scene: a dial that reaches nobody, a turn that is dropped or refused, and the
-- fault that the client then hears (this project's own choice).
use Rattle.std.specs.Prelude.{ℕ, ◌≡◌, ◌<◌, ◌^◌, ◌==◌, List, [], ◌∷◌, Option, None, Some, slice_get, Err}
use Rattle.wire_base.specs.Maps.{same_number, take_out}
use Rattle.authenticators.specs.SecureChannels.{SecureChannelState}
use Rattle.ntlm_messages.specs.declared.messages.Authenticate.{Authenticate}
use Rattle.ntlm_seal.specs.Sessions.{SessionState}
use Rattle.outside.specs.declared.action.DropCause.{DropCause}
use Rattle.rpc_units.specs.Numbers.{error_access_denied, rpc_s_server_unavailable}
use Rattle.secret_change.specs.Secrets.{SecretsState}
use Rattle.secret_change.specs.Ranges.{InRangeSetReply}
use Rattle.secret_change.specs.declared.calls.SetReply.{SetReply}
use Rattle.member_server.specs.Secrets.{is_denied, secrets_dropped}
use Rattle.logon_steps.specs.SetTurns.{set_reply_bytes}
use Rattle.logon_steps.specs.MemberTurns.{plan_with}
use Rattle.logon_stubs.specs.declared.calls.Reply.{Reply}
use Rattle.logon_stubs.specs.declared.info.NetworkInfo.{NetworkInfo}
use Rattle.logon_stubs.specs.declared.info.Verdict.TheVariants as verdict
use Rattle.account_table.specs.AccountTable.{AccountTable}
use Rattle.channel_client.specs.declared.judging.Judgement.TheVariants as judgement
use Rattle.channel_client.specs.declared.state.Question.{Question}
use Rattle.channel_client.specs.declared.state.Standing.{Standing}
use Rattle.channel_client.specs.declared.state.Standing.TheVariants as standing
use Rattle.channel_client.specs.declared.state.Step.{Step}
use Rattle.channel_client.specs.declared.state.Step.TheVariants as step
use Rattle.channel_client.specs.declared.state.SetStep.TheVariants as set_step
use Rattle.channel_client.specs.Machine.{after, judge, judge_set}
use Rattle.controller_calls.specs.declared.state.Computers.{Computers}
use Rattle.logon_client.specs.declared.outcome.ClientOutcome.TheVariants.{NoAnswer}
use Rattle.logon_client.specs.declared.outcome.NoAnswerCause.TheVariants as no_answer
use Rattle.logon_client.specs.declared.state.Phase.{Phase as ClientPhase}
use Rattle.logon_client.specs.declared.state.Phase.TheVariants as client_phase
use Rattle.logon_client.specs.declared.state.Question.TheVariants as client_question
use Rattle.logon_client.specs.declared.state.ClientLink.TheVariants as client_standing
use Rattle.logon_client.specs.declared.state.Terms.{Terms}
use Rattle.logon_client.specs.Machine.{fault_outcome}
use Rattle.member_server.specs.declared.state.Talk.{Talk}
use Rattle.world_moves.specs.declared.links.EndId.TheVariants.{Client, Member}
use Rattle.world_moves.specs.declared.links.Route.{Route}
use Rattle.world_moves.specs.declared.links.Route.TheVariants.{ToMember}
use Rattle.world_moves.specs.declared.state.State.{State}
use Rattle.world_moves.specs.Links.{OpenMap}
use Rattle.world_moves.specs.Moving.{connect, end_of_peer, onward, route_to}
use Rattle.logon_steps.specs.Answers.{logon_for}
use Rattle.logon_steps.specs.ClientSteps.{client_at, client_ended}
use Rattle.logon_steps.specs.ControllerTurns.{reply_bytes, turn_link}
use Rattle.logon_steps.specs.Meeting.{bound_for}
use Rattle.logon_steps.specs.MemberLinks.{asked_talk}
use Rattle.logon_steps.specs.MemoCalls.{RequestGoes}
use Rattle.logon_steps.specs.Turning.{IsTurnReply}
use Rattle.logon_runs.specs.Scenes.AskScenes.{turn_within, with_controller}
use Rattle.logon_runs.specs.Failing.FailingSteps.{out_talk, who_fault}
use Rattle.logon_runs.specs.Scenes.LinkScenes.{given_after, IsJoined, its_link, Meeting, meeting_scene, rest_scene, unit_down, unit_up}
use Rattle.logon_runs.specs.Scenes.Scene.{Shows}
use Rattle.logon_runs.specs.Scenes.TurnScenes.{IsBetween, TurnScene, turn_scene, unit_back, waiting_scene}

-- the member's turn for that logon, whose channel stands as `how`, with `held` held
abbrev pub failing_turn : Meeting → ClientPhase → NetworkInfo → List ℕ → Authenticate → List (List ℕ) → AccountTable → List ℕ → Standing → List Route → OpenMap → ℕ → TurnScene
failing_turn g waits info challenge message held table name how links opened link =
    turn_within g waits info (logon_for g.link g.task challenge message) (asked_talk (bound_for g.task) g.place held) table name how links opened link

-- the member's channel rests, and stands as `how`
abbrev pub settled_at : Meeting → AccountTable → List ℕ → Computers → Standing → ℕ → List Route → Meeting
settled_at g table name computers how next links = record (with_controller g table name computers) {
  given = given_after g;
  how = how;
  place = after g.place;
  number = next;
  links = links;
}

-- the member keeps these secrets once the logon is over
abbrev pub settled_with : SecretsState → Meeting → Meeting
settled_with secrets g = record g { plan = plan_with secrets g.plan }

pub record FailingsAreSeen : Type 0 where
  -- a client's dial reaches no member
  pub client_unreached : (s : State) (g : Meeting) (links : List Route) (left : List (List ℕ)) (moment : ℕ) → route_to (Client g.at_client) (end_of_peer g.task.server s.ends) ≡ None →
      Shows s (rest_scene g (client_at g.task client_standing.Dialling) links left moment (record { end = Client g.at_client; peer = g.task.server } ∷ [])) →
      Shows (connect s).state (rest_scene g (client_ended g.task (NoAnswer no_answer.DialFailed)) links left moment [])
  -- a turn's dial reaches no controller, before WhoAmI is held or once it is
  pub member_unreached : (s : State) (g : Meeting) (waits : ClientPhase) (info : NetworkInfo) (challenge : List ℕ) (message : Authenticate) (table : AccountTable) (name : List ℕ)
      (some how : Standing) (links : List Route) (next number : ℕ) (what : Step) (computers : Computers) (bytes : List ℕ) (left : List (List ℕ)) (moment : ℕ) →
      route_to (Member g.at_member) (end_of_peer g.plan.controller s.ends) ≡ None →
      Shows s (waiting_scene (failing_turn g waits info challenge message [] table name some links (its_link g) g.link) (its_link g) how next number what computers (unit_up g bytes ∷ []) left moment) →
      Shows (connect s).state
      (meeting_scene (settled_at g table name computers standing.Nothing next links) waits (out_talk g.task rpc_s_server_unavailable) (unit_up g bytes ∷ []) left moment)
  pub member_unreached_held : (s : State) (g : Meeting) (waits : ClientPhase) (info : NetworkInfo) (challenge : List ℕ) (message : Authenticate) (table : AccountTable) (name : List ℕ)
      (some how : Standing) (links : List Route) (next number most : ℕ) (what : Step) (computers : Computers) (one other : Option SessionState) (left : List (List ℕ)) (moment : ℕ) →
      route_to (Member g.at_member) (end_of_peer g.plan.controller s.ends) ≡ None → slice_get links g.link ≡ Some (ToMember g.at_client g.at_member) →
      (who : RequestGoes most g.task.level 2 0 [] one other) →
      Shows s (waiting_scene (failing_turn g waits info challenge message (who.sent ∷ []) table name some links (its_link g) g.link) (its_link g) how next number what computers [] left moment) →
      Shows (connect s).state
      (meeting_scene (settled_at g table name computers standing.Nothing next links) waits (out_talk g.task rpc_s_server_unavailable) (unit_down g (who_fault rpc_s_server_unavailable) ∷ []) left moment)
  -- the turn's reply is dropped, or refuses the logon
  pub dropped : (s : State) (g : Meeting) (waits : ClientPhase) (info : NetworkInfo) (challenge : List ℕ) (message : Authenticate) (table : AccountTable) (name : List ℕ)
      (how : Standing) (links : List Route) (opened : OpenMap) (link next number most : ℕ) (q : Question) (r : Reply) (cause : DropCause) (computers : Computers) (one other : Option SessionState)
      (left : List (List ℕ)) (moment : ℕ) → (who : RequestGoes most g.task.level 2 0 [] one other) →
      let t : TurnScene = failing_turn g waits info challenge message (who.sent ∷ []) table name how links opened link in
      number < 2 ^ 32 → IsBetween t → IsTurnReply q r → judge q r how g.caller.secret ≡ judgement.Drop cause →
      slice_get links g.link ≡ Some (ToMember g.at_client g.at_member) → take_out same_number link opened ≡ its_link g →
      Shows s (turn_scene t next number (step.Reply q) computers (turn_link link) (unit_back t (reply_bytes number r) ∷ []) left moment) →
      Shows (onward s).state
      (meeting_scene (settled_with (secrets_dropped (is_denied cause) g.plan.secrets) (settled_at g table name computers standing.Nothing next links)) waits (out_talk g.task rpc_s_server_unavailable) (unit_down g (who_fault rpc_s_server_unavailable) ∷ []) left moment)
  -- a turn that sets the next secret is dropped so
  pub set_dropped : (s : State) (g : Meeting) (waits : ClientPhase) (info : NetworkInfo) (challenge : List ℕ) (message : Authenticate) (table : AccountTable) (name : List ℕ)
      (how : Standing) (links : List Route) (opened : OpenMap) (link next number most : ℕ) (r : SetReply) (cause : DropCause) (computers : Computers) (one other : Option SessionState)
      (left : List (List ℕ)) (moment : ℕ) → (who : RequestGoes most g.task.level 2 0 [] one other) →
      let t : TurnScene = failing_turn g waits info challenge message (who.sent ∷ []) table name how links opened link in
      number < 2 ^ 32 → IsBetween t → InRangeSetReply r → judge_set r how ≡ Err cause →
      slice_get links g.link ≡ Some (ToMember g.at_client g.at_member) → take_out same_number link opened ≡ its_link g →
      Shows s (turn_scene t next number (step.Set set_step.Reply) computers (turn_link link) (unit_back t (set_reply_bytes number r) ∷ []) left moment) →
      Shows (onward s).state
      (meeting_scene (settled_with (secrets_dropped (is_denied cause) g.plan.secrets) (settled_at g table name computers standing.Nothing next links)) waits (out_talk g.task rpc_s_server_unavailable) (unit_down g (who_fault rpc_s_server_unavailable) ∷ []) left moment)
  pub refused : (s : State) (g : Meeting) (waits : ClientPhase) (info : NetworkInfo) (challenge : List ℕ) (message : Authenticate) (table : AccountTable) (name : List ℕ)
      (how : Standing) (o : SecureChannelState) (links : List Route) (opened : OpenMap) (link next number most status : ℕ) (q : Question) (r : Reply) (computers : Computers) (one other : Option SessionState)
      (left : List (List ℕ)) (moment : ℕ) → (who : RequestGoes most g.task.level 2 0 [] one other) →
      let t : TurnScene = failing_turn g waits info challenge message (who.sent ∷ []) table name how links opened link in
      number < 2 ^ 32 → IsBetween t → IsTurnReply q r → judge q r how g.caller.secret ≡ judgement.Answer o (verdict.Status status) →
      slice_get links g.link ≡ Some (ToMember g.at_client g.at_member) → take_out same_number link opened ≡ its_link g →
      Shows s (turn_scene t next number (step.Reply q) computers (turn_link link) (unit_back t (reply_bytes number r) ∷ []) left moment) →
      Shows (onward s).state
      (meeting_scene (settled_at g table name computers (standing.Open o) next links) waits (out_talk g.task error_access_denied) (unit_down g (who_fault error_access_denied) ∷ []) left moment)
  -- WhoAmI comes where nobody is let in
  pub faults : (s : State) (g : Meeting) (waits : ClientPhase) (status most : ℕ) (one other : Option SessionState) (left : List (List ℕ)) (moment : ℕ) → IsJoined g →
      (who : RequestGoes most g.task.level 2 0 [] one other) → Shows s (meeting_scene g waits (out_talk g.task status) (unit_up g who.sent ∷ []) left moment) →
      Shows (onward s).state (meeting_scene g waits (out_talk g.task status) (unit_down g (who_fault status) ∷ []) left moment)
  -- the client hears the fault, and closes the link
  pub faulted : (s : State) (g : Meeting) (terms : Terms) (talk : Talk) (status : ℕ) (left : List (List ℕ)) (moment : ℕ) → status < 2 ^ 32 →
      Shows s (meeting_scene g (client_phase.Asked terms client_question.Who) talk (unit_down g (who_fault status) ∷ []) left moment) →
      Shows (onward s).state (rest_scene g (client_ended g.task (fault_outcome (status == rpc_s_server_unavailable) status)) g.links left moment [])
