-- The one accepted link of a member server, step by step.
-- Of `links_step`.
use Rattle.std.proofs.Common.{◌≡◌, ℕ, ◌+◌, Bool, List, [], ◌∷◌, length, Option, Some, None, Result, Ok, refl, sym, ap, ◌∙◌, arith, if◌then◌else◌}
use Rattle.std.proofs.lemmas.Bool.{le-leb, ne_eqb}
use Rattle.ntlm_messages.specs.declared.messages.Authenticate.{Authenticate}
use Rattle.wire_base.specs.Maps.{lookup, same_number}
use Rattle.outside.specs.declared.action.StepRefused.{StepRefused}
use Rattle.outside.specs.declared.event.Event.TheVariants as event
use Rattle.outside.specs.Machine.{Part, Stepped, step_by, then_part, whole_step}
use Rattle.rpc_units.specs.declared.refused.UnitRefused.{UnitRefused}
use Rattle.rpc_units.specs.declared.unit.Body.{Body}
use Rattle.rpc_units.specs.declared.unit.Unit.{Unit as RpcUnit}
use Rattle.rpc_units.specs.Reading.{unit_of}
use Rattle.rpc_units.specs.Stream.{Cut, cut_stream}
use Rattle.rpc_units.specs.Writing.{IsSendable, written}
use Rattle.end_links.specs.Links.{LinkState}
use Rattle.end_links.specs.Serving.{ServedPart, served_cut}
use Rattle.channel_client.specs.declared.state.Standing.TheVariants as standing
use Rattle.channel_client.specs.Machine.{ask_of, fresh_requester}
use Rattle.logon_client.specs.declared.plan.ClientPlan.{ClientPlan}
use Rattle.logon_client.specs.Answering.{bind_for}
use Rattle.logon_client.specs.Plans.{CanLogOn}
use Rattle.member_server.specs.declared.plan.MemberPlan.{MemberPlan}
use Rattle.member_server.specs.declared.state.AtLink.{AtLink}
use Rattle.channel_turns.specs.declared.state.Dialling.{Dialling}
use Rattle.channel_turns.specs.declared.state.Dialling.TheVariants as dialling
use Rattle.member_server.specs.declared.state.Logons.{Logons}
use Rattle.member_server.specs.declared.state.Talk.{Talk}
use Rattle.member_server.specs.declared.state.Work.{Work}
use Rattle.member_server.specs.Machine.{actions_in, after_units, serve_alone, bytes_by, bytes_on, bytes_on_link, caller_of, fresh_member, halted_state, state_in, step_of}
use Rattle.member_server.specs.Messages.{info_of, wait_for}
use Rattle.member_server.specs.Requests.{body_asked, hold_by, unit_asked}
use Rattle.member_server.specs.Secrets.{SecretsState, tried_of}
use Rattle.member_server.specs.State.{State}
use Rattle.secret_change.specs.Secrets.{alone, tried_of_next}
use Rattle.secret_change.specs.declared.secrets.Next.{Next}
use Rattle.member_server.specs.Turns.{DialWork, next_turn}
use Rattle.member_server.specs.Units.{link_server}
use Rattle.member_server.specs.Work.{Served, drawless, send_unit, stay}
use Rattle.logon_steps.specs.Answers.{AreDraws, answer_for, auth3_for, drawn_of, logon_for}
use Rattle.logon_steps.specs.Meeting.{HasShortNames, ack_for, bound_for, challenged_talk, flags_agreed, fresh_talk}
use Rattle.logon_steps.specs.MemberLinks.{IsElsewhere, LinksStep, asked_talk, logons_at_rest, logons_resting, one_link}
use Rattle.logon_steps.specs.MemberTurns.{logons_keeping, member_at, plan_with}
use Rattle.logon_steps.proofs.AnswersLaws.{answers_are_asked}
use Rattle.logon_steps.proofs.MeetingLaws.{bind_sends, meets}
use Rattle.logon_steps.proofs.StreamLaws.{one_read, read_again, same, served_one, served_read}

-- ---- a unit on the one link

abbrev pub work_with : Logons → List (ℕ × LinkState Talk) → Work
work_with logons links = record { logons = logons; links = links; actions = [] }

abbrev pub stepped : List (List ℕ) → ℕ → Result (Part DialWork) StepRefused → Stepped State
stepped left now part = step_by actions_in state_in halted_state left (then_part part (next_turn now))

elsewhere : (link : ℕ) (how : Dialling) (piece : List ℕ) (work : Work) (left : List (List ℕ)) → IsElsewhere link how →
    bytes_on how link piece work left ≡ bytes_on_link (lookup same_number link work.links) link piece how work left
elsewhere link dialling.Nothing piece work left is = refl
elsewhere link (dialling.Waits turn frames) piece work left is = refl
elsewhere link (dialling.On other said) piece work left is =
    ap (λ (own : Bool). bytes_by own said link piece (dialling.On other said) work left) (ne_eqb other link is)

-- the bytes of a unit on a member's link are served as that unit
pub link_serves : (logons : Logons) (how : Dialling) (link now : ℕ) (talk : Talk) (bytes : List ℕ) (unit : RpcUnit) (left : List (List ℕ)) (part : ServedPart AtLink Talk) →
    IsElsewhere link how → unit_of bytes ≡ Ok unit → link_server.unit bytes (record { link = link; logons = logons; actions = [] }) talk left ≡ part →
    step_of (member_at logons (one_link link talk) how) (event.Bytes link bytes) now left ≡ stepped left now (after_units part [] link how (work_with logons []))
link_serves logons how link now talk bytes unit left part other read served =
    let here : LinkState Talk = record { rest = []; talk = talk } in
    let at : AtLink = record { link = link; logons = logons; actions = [] } in
    ap (stepped left now) (elsewhere link how bytes (work_with logons (one_link link talk)) left other)
    ∙ ap (λ (found : Bool). stepped left now (bytes_on_link (if found then Some here else None) link bytes how (work_with logons (one_link link talk)) left)) (same link)
    ∙ ap (λ (found : Bool). stepped left now (serve_alone (cut_stream bytes) link talk how (work_with logons (if found then [] else one_link link talk)) left)) (same link)
    ∙ ap (λ (c : Cut). stepped left now (after_units (served_cut link_server c at talk left) c.rest link how (work_with logons []))) (one_read bytes unit read)
    ∙ ap (λ (p : ServedPart AtLink Talk). stepped left now (after_units p [] link how (work_with logons []))) (served_read link_server bytes at talk left ∙ served)

pub links_step : LinksStep
links_step = record {
  opened = λ plan caller kept how place number link now left. refl;
  closed = λ plan caller kept how place number link now talk left.
      ap (λ (found : Bool). whole_step left left [] (member_at (logons_resting plan caller kept how place number) (if found then [] else one_link link talk) dialling.Nothing)) (same link);
  bound = λ plan caller kept how place number link now task challenge left can short eight.
      let at : AtLink = record { link = link; logons = logons_resting plan caller kept how place number; actions = [] } in
      let sends : IsSendable (bind_for task.level task.auth) = bind_sends task.level task.auth in
      link_serves (logons_resting plan caller kept how place number) dialling.Nothing link now fresh_talk (written (bind_for task.level task.auth)) (bind_for task.level task.auth)
      (challenge ∷ left) (drawless (stay (send_unit at (ack_for plan task challenge)) (challenged_talk task challenge)) left) tt (read_again (bind_for task.level task.auth) sends)
      (sym (served_one link_server (bind_for task.level task.auth) at fresh_talk (challenge ∷ left) sends) ∙ meets.bind task at challenge left can (record { domain = short.domain; computer = short.computer }) eight);
  asks_first = λ plan peer caller kept place number link now then_now task challenge one two three other left can short are.
      let logons : Logons = logons_resting plan caller kept standing.Nothing place number in
      asks_steps logons peer link now then_now task challenge one two three (other ∷ left) can short are;
  asks_again = λ plan peer caller kept o place number link now then_now task secret challenge one two three left can short are.
      let logons : Logons = logons_resting (plan_with (alone secret) plan) caller kept (standing.Open o) place number in
      asks_steps logons peer link now then_now task challenge one two three left can short are;
  holds = λ plan caller how info place next number link now what asked on bound most level call opnum stub one other goes left apart.
      let logons : Logons = logons_keeping plan caller how info place next number what asked in
      let at : AtLink = record { link = link; logons = logons; actions = [] } in
      link_serves logons on link now (asked_talk bound place []) goes.sent goes.unit left
      (drawless (stay at (asked_talk bound place (goes.sent ∷ []))) left) apart goes.read
      (ap (λ (unit : Result RpcUnit UnitRefused). drawless (unit_asked unit goes.sent bound place [] None at) left) goes.read
      ∙ ap (λ (body : Body). drawless (body_asked body goes.sent bound place [] None at) left) (sym goes.body)
      ∙ ap (λ (fits : Bool). drawless (hold_by fits goes.sent bound place [] None at) left) (le-leb (0 + length goes.sent) 65536 (omega (arith, goes.short))));
} where
  asks_steps : (logons : Logons) (peer : MemberPlan) (link now then_now : ℕ) (task : ClientPlan) (challenge one two three : List ℕ) (left : List (List ℕ)) →
      CanLogOn task → HasShortNames peer → AreDraws one two three →
      let message : Authenticate = (answer_for peer task challenge then_now (drawn_of one two three)).message in
      let at : AtLink = record { link = link; logons = logons; actions = [] } in
      step_of (member_at logons (one_link link (challenged_talk task challenge)) dialling.Nothing) (event.Bytes link (written (auth3_for task message))) now left
      ≡ stepped left now (after_units (drawless (wait_for (ask_of logons.channel (info_of message (flags_agreed task) challenge)) (logon_for link task challenge message) (bound_for task) None at) left)
      [] link dialling.Nothing (work_with logons []))
  asks_steps logons peer link now then_now task challenge one two three left can short are =
      let message : Authenticate = (answer_for peer task challenge then_now (drawn_of one two three)).message in
      let at : AtLink = record { link = link; logons = logons; actions = [] } in
      link_serves logons dialling.Nothing link now (challenged_talk task challenge) (written (auth3_for task message)) (auth3_for task message) left
      (drawless (wait_for (ask_of logons.channel (info_of message (flags_agreed task) challenge)) (logon_for link task challenge message) (bound_for task) None at) left) tt
      (read_again (auth3_for task message) (answers_are_asked.sends peer task challenge one two three then_now can short are))
      (ap (λ (s : Served). drawless s left) (answers_are_asked.asked peer task challenge one two three then_now at can short are))

-- ---- a member that was just made

-- one secret alone is the one that is tried
is_alone : (s : SecretsState) → s.next ≡ None → s ≡ alone (tried_of s)
is_alone s one =
    ap (λ (next : Option Next). record s { next = next }) one
    ∙ ap (λ (next : Option Next). alone (tried_of_next next s.current)) (sym one)

-- a member that was just made rests, and no turn was given a next secret yet
pub fresh_rests_keeping : (plan : MemberPlan) → fresh_member plan ≡ member_at (logons_resting plan (caller_of plan) None standing.Nothing 0 1) [] dialling.Nothing
fresh_rests_keeping plan = refl

-- a member that was just made with one secret rests as one that isn't to change its secret
pub fresh_rests : (plan : MemberPlan) → plan.secrets.next ≡ None →
    fresh_member plan ≡ member_at (logons_at_rest plan (caller_of plan) standing.Nothing 0 1) [] dialling.Nothing
fresh_rests plan one =
    ap (λ (secrets : SecretsState). member_at (record { plan = record plan { secrets = secrets }; channel = fresh_requester (caller_of plan); asked = [] }) [] dialling.Nothing)
    (is_alone plan.secrets one)
