-- The one accepted link of a member server, step by step, from its opening to its end (MS-NLMP
-- 3.2.5.1; C706 12.6.3, 12.6.4).
use Rattle.std.specs.Prelude.{ℕ, ◌≡◌, ◌≢◌, List, [], ◌∷◌, length, Option, None}
use Rattle.authenticators.specs.SecureChannels.{SecureChannelState, after_call}
use Rattle.ntlm_messages.specs.declared.messages.Authenticate.{Authenticate}
use Rattle.ntlm_seal.specs.Sessions.{SessionState}
use Rattle.outside.specs.declared.action.Action.TheVariants as action
use Rattle.outside.specs.declared.event.Event.TheVariants as event
use Rattle.outside.specs.Machine.{whole_step}
use Rattle.rpc_units.specs.Writing.{written}
use Rattle.logon_stubs.specs.declared.info.NetworkInfo.{NetworkInfo}
use Rattle.end_links.specs.Links.{LinkState}
use Rattle.channel_client.specs.declared.caller.Caller.{Caller}
use Rattle.channel_client.specs.declared.state.Standing.{Standing}
use Rattle.channel_client.specs.declared.state.Standing.TheVariants as standing
use Rattle.channel_client.specs.declared.state.Step.{Step}
use Rattle.channel_client.specs.declared.state.Step.TheVariants as step
use Rattle.channel_client.specs.Machine.{after, challenge_call, logon_call}
use Rattle.logon_client.specs.declared.plan.ClientPlan.{ClientPlan}
use Rattle.logon_client.specs.Answering.{bind_for}
use Rattle.logon_client.specs.Plans.{CanLogOn}
use Rattle.member_server.specs.declared.plan.MemberPlan.{MemberPlan}
use Rattle.member_server.specs.declared.state.Bound.{Bound}
use Rattle.channel_turns.specs.declared.state.Dialling.{Dialling}
use Rattle.channel_turns.specs.declared.state.Dialling.TheVariants as dialling
use Rattle.member_server.specs.declared.state.Logon.{Logon}
use Rattle.member_server.specs.declared.state.Logons.{Logons}
use Rattle.member_server.specs.declared.state.Phase.TheVariants as phase
use Rattle.member_server.specs.declared.state.Talk.{Talk}
use Rattle.member_server.specs.Machine.{step_of}
use Rattle.member_server.specs.Messages.{info_of}
use Rattle.member_server.specs.Turns.{timestamp_of}
use Rattle.logon_steps.specs.Answers.{AreDraws, answer_for, auth3_for, drawn_of, logon_for}
use Rattle.secret_change.specs.Secrets.{alone, tried_of}
use Rattle.logon_steps.specs.Asking.{at_rest_keeping, info_at}
use Rattle.logon_steps.specs.Meeting.{HasShortNames, ack_for, bound_for, challenged_talk, flags_agreed, fresh_talk}
use Rattle.logon_steps.specs.MemberTurns.{bind_waits, logons_keeping, member_at, plan_of, plan_with}
use Rattle.logon_steps.specs.MemoCalls.{RequestGoes}

-- Nobody waits, whatever secrets the member keeps. Who asks has the secret, and the channel the next one, that a turn
-- was given last.
abbrev pub logons_resting : MemberPlan → Caller → Option (List ℕ) → Standing → ℕ → ℕ → Logons
logons_resting plan caller next how place number = record { plan = plan; channel = at_rest_keeping caller how place number next; asked = [] }

-- nobody waits at a member with one secret
abbrev pub logons_at_rest : MemberPlan → Caller → Standing → ℕ → ℕ → Logons
logons_at_rest plan caller how place number = logons_resting (plan_of plan caller) caller None how place number

-- who asks, with the secret that is tried, before a turn on a channel that isn't there yet
abbrev pub trying : MemberPlan → Caller → Caller
trying plan caller = record caller { secret = tried_of plan.secrets }

-- the one link, on which all that came is served
abbrev pub one_link : ℕ → Talk → List (ℕ × LinkState Talk)
one_link link talk = (link, record { rest = []; talk = talk }) ∷ []

-- the logon of that place is asked, and these requests are held
abbrev pub asked_talk : Bound → ℕ → List (List ℕ) → Talk
asked_talk bound place held = record { joiner = None; phase = phase.Asked bound place held }

-- the turn isn't on that link
abbrev pub IsElsewhere : ℕ → Dialling → Type 0
IsElsewhere link dialling.Nothing = Unit {0}
IsElsewhere link (dialling.Waits turn frames) = Unit {0}
IsElsewhere link (dialling.On other said) = other ≢ link

pub record LinksStep : Type 0 where
  pub opened : (plan : MemberPlan) (caller : Caller) (kept : Option (List ℕ)) (how : Standing) (place number link now : ℕ) (left : List (List ℕ)) →
      step_of (member_at (logons_resting plan caller kept how place number) [] dialling.Nothing) (event.Opened link) now left
      ≡ whole_step left left [] (member_at (logons_resting plan caller kept how place number) (one_link link fresh_talk) dialling.Nothing)
  pub closed : (plan : MemberPlan) (caller : Caller) (kept : Option (List ℕ)) (how : Standing) (place number link now : ℕ) (talk : Talk) (left : List (List ℕ)) →
      step_of (member_at (logons_resting plan caller kept how place number) (one_link link talk) dialling.Nothing) (event.Closed link) now left
      ≡ whole_step left left [] (member_at (logons_resting plan caller kept how place number) [] dialling.Nothing)
  -- the bind is answered with a CHALLENGE
  pub bound : (plan : MemberPlan) (caller : Caller) (kept : Option (List ℕ)) (how : Standing) (place number link now : ℕ) (task : ClientPlan) (challenge : List ℕ) (left : List (List ℕ)) →
      CanLogOn task → HasShortNames plan → length challenge ≡ 8 →
      step_of (member_at (logons_resting plan caller kept how place number) (one_link link fresh_talk) dialling.Nothing)
      (event.Bytes link (written (bind_for task.level task.auth))) now (challenge ∷ left)
      ≡ whole_step (challenge ∷ left) left (action.Send link (written (ack_for plan task challenge)) ∷ [])
      (member_at (logons_resting plan caller kept how place number) (one_link link (challenged_talk task challenge)) dialling.Nothing)
  -- the logon is asked, and its first turn is dialled: the one that opens the channel, or at a member with one secret
  -- its own
  pub asks_first : (plan peer : MemberPlan) (caller : Caller) (kept : Option (List ℕ)) (place number link now then_now : ℕ) (task : ClientPlan) (challenge one two three other : List ℕ)
      (left : List (List ℕ)) → CanLogOn task → HasShortNames peer → AreDraws one two three →
      let message : Authenticate = (answer_for peer task challenge then_now (drawn_of one two three)).message in
      let info : NetworkInfo = info_of message (flags_agreed task) challenge in
      step_of (member_at (logons_resting plan caller kept standing.Nothing place number) (one_link link (challenged_talk task challenge)) dialling.Nothing)
      (event.Bytes link (written (auth3_for task message))) now (other ∷ left)
      ≡ whole_step (other ∷ left) left (action.Dial plan.controller ∷ [])
      (member_at (logons_keeping plan (trying plan caller) standing.Nothing info place (after number) number (step.Bind (challenge_call caller other))
      ((place, logon_for link task challenge message) ∷ []))
      (one_link link (asked_talk (bound_for task) place [])) (bind_waits number))
  pub asks_again : (plan peer : MemberPlan) (caller : Caller) (kept : Option (List ℕ)) (o : SecureChannelState) (place number link now then_now : ℕ) (task : ClientPlan)
      (secret challenge one two three : List ℕ)
      (left : List (List ℕ)) → CanLogOn task → HasShortNames peer → AreDraws one two three →
      let message : Authenticate = (answer_for peer task challenge then_now (drawn_of one two three)).message in
      let info : NetworkInfo = info_of message (flags_agreed task) challenge in
      step_of (member_at (logons_resting (plan_with (alone secret) plan) caller kept (standing.Open o) place number) (one_link link (challenged_talk task challenge)) dialling.Nothing)
      (event.Bytes link (written (auth3_for task message))) now left
      ≡ whole_step left left (action.Dial plan.controller ∷ [])
      (member_at (logons_keeping (plan_with (alone secret) plan) caller (standing.Open (after_call o (timestamp_of now))) info place (after number) number
      (step.Bind (logon_call caller o (timestamp_of now) (info_at place info))) ((place, logon_for link task challenge message) ∷ []))
      (one_link link (asked_talk (bound_for task) place [])) (bind_waits number))
  -- a request is held while the turn is out
  pub holds : (plan : MemberPlan) (caller : Caller) (how : Standing) (info : NetworkInfo) (place next number link now : ℕ) (what : Step) (asked : List (ℕ × Logon)) (on : Dialling)
      (bound : Bound) (most level call opnum : ℕ) (stub : List ℕ) (one other : Option SessionState) (goes : RequestGoes most level call opnum stub one other) (left : List (List ℕ)) →
      IsElsewhere link on →
      step_of (member_at (logons_keeping plan caller how info place next number what asked) (one_link link (asked_talk bound place [])) on) (event.Bytes link goes.sent) now left
      ≡ whole_step left left []
      (member_at (logons_keeping plan caller how info place next number what asked) (one_link link (asked_talk bound place (goes.sent ∷ []))) on)
