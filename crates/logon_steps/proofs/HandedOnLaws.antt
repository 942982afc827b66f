-- One logon that a controller hands on to the controller of a trusted domain, step by step.
-- Of `logons_are_handed_on` and `handed_turns_step`.
use Rattle.std.proofs.Common.{◌≡◌, ◌&&◌, ℕ, ◌<◌, ◌^◌, Bool, true, List, [], ◌∷◌, ◌++◌, length, Option, Some, None, Result, Ok, slice_set, refl, ap, ap₂, ◌∙◌, arith, append-nil, if◌then◌else◌}
use Rattle.std.proofs.lemmas.List.{append_assoc}
use Rattle.authenticators.specs.Sequences.{authenticator_of, return_of}
use Rattle.authenticators.specs.SecureChannels.{SecureChannelState, after_call, channel_by, key_of_channel, return_by}
use Rattle.wire_base.specs.declared.authenticator.Authenticator.{Authenticator}
use Rattle.outside.specs.declared.action.Action.{Action}
use Rattle.outside.specs.declared.action.Action.TheVariants as action
use Rattle.outside.specs.declared.action.CloseCause.TheVariants as close
use Rattle.outside.specs.declared.action.Judged.{Judged}
use Rattle.outside.specs.declared.action.Judged.TheVariants as judged
use Rattle.outside.specs.declared.action.StepRefused.{StepRefused}
use Rattle.outside.specs.declared.event.Event.TheVariants as event
use Rattle.outside.specs.Machine.{Part, Stepped, step_by, then_part, whole_step}
use Rattle.rpc_units.specs.declared.unit.Unit.{Unit as RpcUnit}
use Rattle.rpc_units.specs.Calls.{IsHeard, bytes_of_call}
use Rattle.rpc_units.specs.Joining.{cut_of}
use Rattle.rpc_units.specs.Stream.{Cut}
use Rattle.rpc_units.specs.Writing.{written}
use Rattle.rpc_units.proofs.CuttingLaws.{call_heard}
use Rattle.end_links.specs.Binding.{bind_of}
use Rattle.end_links.specs.Sending.{response_of}
use Rattle.logon_stubs.specs.Interface.{netlogon_syntax}
use Rattle.logon_stubs.specs.Status.{no_logon_servers}
use Rattle.logon_stubs.specs.Writing.{written_reply}
use Rattle.logon_stubs.specs.declared.calls.Call.{Call}
use Rattle.logon_stubs.specs.declared.calls.Reply.{Reply}
use Rattle.logon_stubs.specs.declared.info.Verdict.{Verdict}
use Rattle.logon_stubs.specs.declared.info.Verdict.TheVariants.{Status}
use Rattle.account_table.specs.LookUps.{route_in}
use Rattle.account_table.specs.declared.account.Trust.{Trust}
use Rattle.account_table.specs.declared.table.Route.{Route}
use Rattle.channel_client.specs.State.{Requester}
use Rattle.channel_client.specs.declared.judging.Judgement.{Judgement}
use Rattle.channel_client.specs.declared.judging.Judgement.TheVariants as judgement
use Rattle.channel_client.specs.declared.state.Pending.{Pending}
use Rattle.channel_client.specs.declared.state.Question.{Question}
use Rattle.channel_client.specs.declared.state.Standing.{Standing}
use Rattle.channel_client.specs.declared.state.Standing.TheVariants as standing
use Rattle.channel_client.specs.declared.state.Step.{Step}
use Rattle.channel_client.specs.declared.state.Step.TheVariants as step
use Rattle.channel_client.specs.Machine.{Taking, after, auth_call, challenge_call, judge, level_asked, logon_call, question_of, settle, take_of}
use Rattle.authenticators.specs.Timestamps.{timestamp_of}
use Rattle.channel_turns.specs.Turning.{Turned, after_piece, close_if, hear_if, link_answers, link_closes, link_hears, next_dial, no_dial}
use Rattle.channel_turns.specs.Turns.{TurnServed, after_turn, take_by}
use Rattle.channel_turns.specs.declared.state.Dialling.{Dialling}
use Rattle.channel_turns.specs.declared.state.Dialling.TheVariants as dialling
use Rattle.channel_turns.specs.declared.state.TurnWork.{TurnWork}
use Rattle.channel_turns.specs.declared.state.Turning.{Turning}
use Rattle.channel_turns.proofs.TurnLaws.{whole_served}
use Rattle.controller_calls.specs.Forwarded.{ForwardedState, forwarded_call, line_unless, line_without}
use Rattle.controller_calls.specs.Handing.{CallPlace, Handing, answer_forwarded, forwarded_reply, judge_on, judge_returned, pass_or_hand, reply_if, trust_below, trust_by}
use Rattle.controller_calls.specs.Logons.{status_of}
use Rattle.controller_calls.specs.declared.calls.Asked.{Asked}
use Rattle.controller_calls.specs.declared.calls.Asked.TheVariants as asked
use Rattle.controller_calls.specs.declared.line.Line.{Line}
use Rattle.controller_calls.specs.declared.state.Computers.{Computers}
use Rattle.controller_calls.specs.declared.state.Work.{Work}
use Rattle.domain_controller.specs.Forwarding.{TrustDesk, after_ended, after_handing, answer_found, answer_place, asked_of_found, base_desk, forward_if, goes_on_trusting, place_of_call, trust_desk, wait_or_leave}
use Rattle.domain_controller.specs.Hearing.{bound_talk}
use Rattle.domain_controller.specs.Machine.{Desk, desk, put_channel, take_channel, tell}
use Rattle.domain_controller.specs.State.{State}
use Rattle.domain_controller.specs.Step.{LinkMap}
use Rattle.domain_controller.specs.TrustActions.{answer_of as answer_sent, reply_on}
use Rattle.domain_controller.specs.TrustLaws.{IsNotOn}
use Rattle.domain_controller.specs.TrustStep.{TrustParts, after_units, close_by, next_part, next_turn, on_turn as turn_on, serve_bytes, start_at, start_on, trust_halted, trust_part, trust_state_after, trust_step_of, turn_at as turn_found}
use Rattle.domain_controller.specs.Trusting.{ForwardedCalls, no_trusting, same_place}
use Rattle.domain_controller.specs.declared.trusting.Parts.{Parts}
use Rattle.domain_controller.specs.declared.trusting.TrustWork.{TrustWork}
use Rattle.domain_controller.proofs.TurnOutLaws.{got_set}
use Rattle.logon_steps.specs.Answering.{moved}
use Rattle.logon_steps.specs.Asking.{asking, at_rest, info_at}
use Rattle.logon_steps.specs.BesideTrusts.{keeping_at, trusting_at}
use Rattle.logon_steps.specs.ControllerTurns.{reply_bytes, turn_link}
use Rattle.logon_steps.specs.HandedOn.{ComesForTrust, Coming, HandedOn, HandedTurnsStep, IsTrusted, LogonsAreHandedOn, coming_bytes, handed_back, handed_of, handing_at, line_of}
use Rattle.logon_steps.specs.MemberTurns.{bind_waits, on_turn}
use Rattle.logon_steps.specs.Turning.{IsTurnReply, turn_ack, turn_agreed, turn_request, turn_response}
use Rattle.logon_steps.proofs.AnsweringLaws.{passes_step}
use Rattle.logon_steps.proofs.BesideTrustsLaws.{below_found, desk_at, on_trust_link, parts_at, trust_stepped}
use Rattle.logon_steps.proofs.StreamLaws.{one_unit, read_again, same}
use Rattle.logon_steps.proofs.TrustServedLaws.{call_beside, none_starts, one_starts, set_twice}
use Rattle.logon_steps.proofs.TurningLaws.{ack_whole, request_joins, request_sends, response_sends, turn_ack_sends, turns_go_through}

-- ---- a reply that goes back

reply_told : (line : Option Line) (answer : Reply) (how : Judged) (computers : Computers) (first : List Action) →
    reply_if line answer (tell (record { computers = computers; actions = first }) (action.Judged how))
    ≡ record { computers = computers; actions = first ++ (action.Judged how ∷ reply_on line answer) }
reply_told None answer how computers first = refl
reply_told (Some line) answer how computers first =
    ap (λ (actions : List Action). record { computers = computers; actions = actions }) (append_assoc first (action.Judged how ∷ [])
    (action.Send line.link (bytes_of_call (response_of line.call line.context (written_reply answer)) line.limit) ∷ []))

-- the link on which a logon came stays its line, unless it has that number
kept_line : (link : ℕ) (line : Option Line) → IsNotOn link line → line_without link line ≡ line
kept_line link None apart = refl
kept_line link (Some line) apart = ap (λ (is : Bool). line_unless is line) apart

module _ (h : HandedOn) where
  -- who asks the trust's controller, with the next number and the turn that is out
  abbrev who : Standing → ℕ → Option Pending → Requester
  who how next turn = asking h.caller how h.info h.place next turn

  abbrev pending : ℕ → Step → Pending
  pending number what = record { number = number; place = h.place; step = what }

  abbrev rested : Standing → ℕ → Requester
  rested how next = at_rest h.caller how (after h.place) next

  abbrev its_call : ForwardedCalls
  its_call = ((h.trust, h.place), h.call) ∷ []

  -- the controller at work
  abbrev work_with : Requester → List Action → ForwardedCalls → TrustWork
  work_with channel actions calls = record {
    work = record { computers = h.computers; actions = actions };
    queues = record { requesters = slice_set h.requesters h.trust channel; forwarded = calls };
  }

  abbrev parts_by : ℕ → Requester → Dialling → List Action → ForwardedCalls → Parts
  parts_by turn channel said actions calls = record { work = work_with channel actions calls; links = h.links; turn_of = turn; dialling = said }

  abbrev turning_with : Requester → Dialling → List Action → Turning
  turning_with channel said actions = record { channel = channel; dialling = said; actions = actions }

  -- what an event made of the turn, and what follows where it ended
  abbrev put_turned : Turned → ForwardedCalls → Parts
  put_turned turned calls = record {
    work = after_ended turned.1 h.trust (work_with turned.0.channel turned.0.actions calls);
    links = h.links;
    turn_of = h.trust;
    dialling = turned.0.dialling;
  }

  turned_is : IsTrusted h → (channel : Requester) (said : Dialling) (actions : List Action) (calls : ForwardedCalls) (happens : Turning → Turned) →
      turn_on happens (parts_by h.trust channel said actions calls) ≡ put_turned (happens (turning_with channel said actions)) calls
  turned_is is channel said actions calls happens =
      let turned : Turned = happens (turning_with channel said actions) in
      ap (λ (found : Option Requester). turn_found found happens (parts_by h.trust channel said actions calls)) (got_set h.requesters h.trust is.requester channel is.there)
      ∙ ap (λ (requesters : List Requester). record {
        work = after_ended turned.1 h.trust (record {
          work = record { computers = h.computers; actions = turned.0.actions };
          queues = record { requesters = requesters; forwarded = calls };
        });
        links = h.links;
        turn_of = h.trust;
        dialling = turned.0.dialling;
      }) (set_twice h.requesters h.trust channel turned.0.channel)

  -- ---- the step, behind its event

  abbrev some_state : State
  some_state = trusting_at h.table h.name h.computers h.links no_trusting

  abbrev stepped_to : List (List ℕ) → Result (Part TrustParts) StepRefused → Stepped State
  stepped_to left part =
      step_by (λ (after : TrustParts). after.parts.work.work.actions) (λ after. trust_state_after some_state after) (trust_halted some_state) left part

  abbrev then_turn : ℕ → List (List ℕ) → Parts → Stepped State
  then_turn now left parts = stepped_to left (then_part (next_turn h.table.trusts now parts left) (λ later last. trust_part h.table later last))

  -- where nobody waits, no next turn starts
  none_next : IsTrusted h → (how : Standing) (next now : ℕ) (actions : List Action) (left : List (List ℕ)) →
      then_turn now left (parts_by h.trust (rested how next) dialling.Nothing actions []) ≡ whole_step left left actions (handed_back h how next)
  none_next is how next now actions left =
      let parts : Parts = parts_by h.trust (rested how next) dialling.Nothing actions [] in
      ap (λ (first : Option ℕ). stepped_to left (then_part (start_at first h.table.trusts now parts left) (λ later last. trust_part h.table later last)))
      (none_starts h.requesters h.trust (rested how next) is.nobody refl)

  -- the logon's next turn starts
  one_next : (is : IsTrusted h) (turn : ℕ) (how : Standing) (next now : ℕ) (actions : List Action) (left rest : List (List ℕ)) (turning : Turning) →
      next_dial now is.entry.address (turning_with (who how next None) dialling.Nothing actions) left ≡ Ok (record { value = turning; left = rest }) →
      next_turn h.table.trusts now (parts_by turn (who how next None) dialling.Nothing actions its_call) left
      ≡ Ok (record { value = put_turned (turning, None) its_call; left = rest })
  one_next is turn how next now actions left rest turning dials =
      let channel : Requester = who how next None in
      let parts : Parts = parts_by turn channel dialling.Nothing actions its_call in
      ap (λ (first : Option ℕ). start_at first h.table.trusts now parts left) (one_starts h.requesters h.trust is.requester channel is.nobody is.there refl)
      ∙ ap₂ (λ (found : Option Requester) (entry : Option Trust). start_on found entry h.trust now parts left) (got_set h.requesters h.trust is.requester channel is.there) is.is_entry
      ∙ ap (λ (part : Result (Part Turning) StepRefused). then_part part (λ later more. next_part (record parts {
        work = record {
          work = record parts.work.work { actions = later.actions };
          queues = record parts.work.queues { requesters = slice_set (slice_set h.requesters h.trust channel) h.trust later.channel };
        };
        turn_of = h.trust;
        dialling = later.dialling;
      }) more)) dials
      ∙ ap (λ (requesters : List Requester). next_part (record {
        work = record {
          work = record { computers = h.computers; actions = turning.actions };
          queues = record { requesters = requesters; forwarded = its_call };
        };
        links = h.links;
        turn_of = h.trust;
        dialling = turning.dialling;
      }) rest) (set_twice h.requesters h.trust channel turning.channel)

  -- the turn that is dialled: how far the channel is, and what its bind is for
  abbrev dialled_for : Standing → ℕ → Step → List Action → List ℕ → Turning
  dialled_for how next what actions peer =
      turning_with (who how (after next) (Some (pending next what))) (bind_waits next) (actions ++ action.Dial peer ∷ [])

  starts_turn : (is : IsTrusted h) (turn : ℕ) (how later : Standing) (what : Step) (next now : ℕ) (actions : List Action) (left rest : List (List ℕ)) →
      next_dial now is.entry.address (turning_with (who how next None) dialling.Nothing actions) left
      ≡ Ok (record { value = dialled_for later next what actions is.entry.address; left = rest }) →
      then_turn now left (parts_by turn (who how next None) dialling.Nothing actions its_call)
      ≡ whole_step left rest (actions ++ action.Dial is.entry.address ∷ []) (handing_at h later (after next) next what (bind_waits next))
  starts_turn is turn how later what next now actions left rest dials =
      ap (λ (part : Result (Part Parts) StepRefused). stepped_to left (then_part part (λ after last. trust_part h.table after last)))
      (one_next is turn how next now actions left rest (dialled_for later next what actions is.entry.address) dials)

  -- ---- the logon is answered

  answered_here : (verdict : Verdict) (work : Work) (requesters : List Requester) →
      answer_place (h.trust, h.place) verdict (record { work = work; queues = record { requesters = requesters; forwarded = its_call } })
      ≡ record { work = answer_forwarded verdict h.call work; queues = record { requesters = requesters; forwarded = [] } }
  answered_here verdict work requesters =
      let here : same_place (h.trust, h.place) (h.trust, h.place) ≡ true = ap₂ (λ (one other : Bool). one && other) (same h.trust) (same h.place) in
      let w : TrustWork = record { work = work; queues = record { requesters = requesters; forwarded = its_call } } in
      ap (λ (hit : Bool). answer_found (if hit then Some h.call else None) (h.trust, h.place) verdict w) here
      ∙ ap (λ (hit : Bool). record {
        work = answer_forwarded verdict h.call work;
        queues = record { requesters = requesters; forwarded = if hit then [] else its_call };
      }) here

  -- the logon's turn ended with a verdict, which goes back
  ends_turn : IsTrusted h → (how : Standing) (next now : ℕ) (first : List Action) (verdict : Verdict) (left : List (List ℕ)) →
      then_turn now left (record {
        work = answer_place (h.trust, h.place) verdict (work_with (rested how next) first its_call);
        links = h.links;
        turn_of = h.trust;
        dialling = dialling.Nothing;
      })
      ≡ whole_step left left (first ++ answer_sent (Some (verdict, h.call))) (handed_back h how next)
  ends_turn is how next now first verdict left =
      ap (λ (work : TrustWork). then_turn now left (record { work = work; links = h.links; turn_of = h.trust; dialling = dialling.Nothing }))
      (answered_here verdict (record { computers = h.computers; actions = first }) (slice_set h.requesters h.trust (rested how next)))
      ∙ ap (λ (work : Work). then_turn now left (record {
        work = record { work = work; queues = record { requesters = slice_set h.requesters h.trust (rested how next); forwarded = [] } };
        links = h.links;
        turn_of = h.trust;
        dialling = dialling.Nothing;
      })) (reply_told h.call.line (forwarded_reply h.call verdict) (judged.Answered (status_of verdict)) h.computers first)
      ∙ none_next is how next now (first ++ answer_sent (Some (verdict, h.call))) left

  -- ---- a unit on the link of the logon's turn

  -- what the channel makes of a unit on the link of the logon's turn, and the end of the turn
  abbrev turned_by : ℕ → Requester → Taking → Turned
  turned_by link channel taking =
      after_piece link (after_turn (take_by taking None (record { link = link; channel = channel; actions = []; ended = None })) [])

  unit_comes : IsTrusted h → (how : Standing) (next number link now : ℕ) (what : Step) (bytes : List ℕ) (frames : List RpcUnit) (unit : RpcUnit) (left : List (List ℕ)) →
      IsHeard bytes frames unit →
      let channel : Requester = who how next (Some (pending number what)) in
      trust_step_of (handing_at h how next number what (on_turn link)) (event.Bytes link bytes) now left
      ≡ then_turn now left (put_turned (turned_by link channel (take_of channel unit)) its_call)
  unit_comes is how next number link now what bytes frames unit left comes =
      let channel : Requester = who how next (Some (pending number what)) in
      let parts : Parts = parts_by h.trust channel (on_turn link) [] its_call in
      let at : TurnWork = record { link = link; channel = channel; actions = []; ended = None } in
      ap (λ (own : Bool). stepped_to left (then_part (serve_bytes own link bytes h.name now h.table parts left)
      (λ after rest. then_part (next_turn h.table.trusts now after.parts rest) (λ later last. trust_part after.table later last)))) (same link)
      ∙ ap (λ (p : Parts). then_turn now left p) (turned_is is channel (on_turn link) [] its_call (λ turning. link_hears link bytes turning))
      ∙ ap (λ (own : Bool). then_turn now left (put_turned (hear_if own link (record { rest = []; talk = record { joiner = None; turn = tt } }) bytes (turning_with channel (on_turn link) [])) its_call)) (same link)
      ∙ ap₂ (λ (served : TurnServed) (rest : List ℕ). then_turn now left (put_turned (after_piece link (after_turn served rest)) its_call))
      (whole_served bytes frames unit at comes) (ap Cut.rest comes.stream)

  -- the reply of the trust's controller, by how it is judged
  reply_comes : IsTrusted h → (how : Standing) (next number link now : ℕ) (q : Question) (r : Reply) (j : Judgement) (left : List (List ℕ)) →
      number < 2 ^ 32 → IsTurnReply q r → judge q r how h.caller.secret ≡ j →
      let channel : Requester = who how next (Some (pending number (step.Reply q))) in
      trust_step_of (handing_at h how next number (step.Reply q) (on_turn link)) (event.Bytes link (reply_bytes number r)) now left
      ≡ then_turn now left (put_turned (turned_by link channel (settle j channel)) its_call)
  reply_comes is how next number link now q r j left below of judges =
      let channel : Requester = who how next (Some (pending number (step.Reply q))) in
      unit_comes is how next number link now (step.Reply q) (reply_bytes number r) (cut_of (turn_response number r) 5840) (turn_response number r) left
      (call_heard (turn_response number r) 5840 (response_sends number q r below of) (omega (arith, of.short)))
      ∙ ap (λ (taking : Taking). then_turn now left (put_turned (turned_by link channel taking) its_call))
      (turns_go_through.takes.reply (who how next None) number h.place q r of ∙ ap (λ (how_judged : Judgement). settle how_judged channel) judges)

ack_heard : (number : ℕ) → number < 2 ^ 32 → IsHeard (written (turn_ack number)) (turn_ack number ∷ []) (turn_ack number)
ack_heard number below = record {
  stream = one_unit (turn_ack number) (turn_ack_sends number below);
  read = ap (λ (unit : _). unit ∷ []) (read_again (turn_ack number) (turn_ack_sends number below));
  joined = ack_whole number;
}

pub handed_turns_step : HandedTurnsStep
handed_turns_step = record {
  dialled = λ h how next number link now what left is new.
      let channel : Requester = who h how next (Some (pending h number what)) in
      let parts : LinkMap → ForwardedState → Parts = λ links call. record {
        work = work_with h channel [] (((h.trust, h.place), call) ∷ []);
        links = links;
        turn_of = h.trust;
        dialling = bind_waits number;
      } in
      ap₂ (λ (links : LinkMap) (line : Option Line). then_turn h now left (turn_on (λ turning. (link_answers link turning, None)) (parts links (record h.call { line = line }))))
      new.apart (kept_line link h.call.line new.elsewhere)
      ∙ ap (λ (p : Parts). then_turn h now left p) (turned_is h is channel (bind_waits number) [] (its_call h) (λ turning. (link_answers link turning, None)))
      ∙ ap (λ (bytes : List ℕ). whole_step left left (action.Send link bytes ∷ []) (handing_at h how next number what (on_turn link)))
      (append-nil (written (bind_of netlogon_syntax number)));
  bound = λ h how next number link now c left is below.
      let channel : Requester = who h how next (Some (pending h number (step.Bind c))) in
      unit_comes h is how next number link now (step.Bind c) (written (turn_ack number)) (turn_ack number ∷ []) (turn_ack number) left (ack_heard number below)
      ∙ ap (λ (taking : Taking). then_turn h now left (put_turned h (turned_by h link channel taking) (its_call h))) (turns_go_through.takes.ack (who h how next None) number h.place c)
      ∙ ap (λ (bytes : List ℕ). whole_step left left (action.Send link bytes ∷ []) (handing_at h how (after next) next (step.Reply (question_of c)) (on_turn link)))
      (turns_go_through.takes.frames next c);
  half = λ h how next number link now q r client server left is below of judges.
      reply_comes h is how next number link now q r (judgement.Half client server) left below of judges
      ∙ starts_turn h is h.trust (standing.Half client server) (standing.Half client server) (step.Bind (auth_call h.caller client server)) next now
      (action.Close link close.CallDone ∷ []) left left refl;
  opened = λ h how next number link now q r o left is below of judges.
      reply_comes h is how next number link now q r (judgement.Opened o) left below of judges
      ∙ starts_turn h is h.trust (standing.Open o) (standing.Open (after_call o (timestamp_of now))) (step.Bind (logon_call h.caller o (timestamp_of now) (info_at h.place h.info))) next now
      (action.Close link close.CallDone ∷ []) left left refl;
  answered = λ h how next number link now q r o verdict left is below of judges.
      reply_comes h is how next number link now q r (judgement.Answer o verdict) left below of judges
      ∙ ends_turn h is (standing.Open o) next now (action.Close link close.CallDone ∷ []) verdict left;
  dropped = λ h how next number link now q r cause left is below of judges.
      reply_comes h is how next number link now q r (judgement.Drop cause) left below of judges
      ∙ ends_turn h is standing.Nothing next now (action.Close link close.CallDone ∷ []) (Status no_logon_servers) left;
  failed = λ h how next number now what left is.
      ap (λ (p : Parts). then_turn h now left p)
      (turned_is h is (who h how next (Some (pending h number what))) (bind_waits number) [] (its_call h) (λ turning. no_dial turning))
      ∙ ends_turn h is standing.Nothing next now [] (Status no_logon_servers) left;
  lost = λ h how next number link now what left is.
      let channel : Requester = who h how next (Some (pending h number what)) in
      ap (λ (own : Bool). then_turn h now left (close_by own link (parts_by h h.trust channel (on_turn link) [] (its_call h)))) (same link)
      ∙ ap (λ (p : Parts). then_turn h now left p) (turned_is h is channel (on_turn link) [] (its_call h) (λ turning. link_closes link turning))
      ∙ ap (λ (own : Bool). then_turn h now left (put_turned h (close_if own (turning_with h channel (on_turn link) [])) (its_call h))) (same link)
      ∙ ends_turn h is standing.Nothing next now [] (Status no_logon_servers) left;
}

-- ---- how a logon for a trusted domain comes

module _ (g : Coming) (how : Standing) (comes : ComesForTrust g how) (now : ℕ) (left : List (List ℕ)) where
  abbrev given : Authenticator
  given = authenticator_of (key_of_channel g.asked_on) g.asked_on.seed g.timestamp

  abbrev what : Asked
  what = asked.Network g.info level_asked

  abbrev at_first : TrustDesk
  at_first = desk_at g.kept (turn_link g.link)

  abbrev place : CallPlace
  place = place_of_call g.kept.name now (line_of g) at_first.work.queues

  abbrev out : Desk
  out = desk g.kept.table (take_channel g.caller.computer (base_desk at_first).work)

  abbrev moved_on : Desk
  moved_on = desk g.kept.table (put_channel g.caller.computer (moved g.heard_on g.timestamp) out.work)

  abbrev work_then : TrustWork
  work_then = record { work = moved_on.work; queues = at_first.work.queues }

  -- what the controller comes to, by the desk behind the call, and by what is handed on
  abbrev comes_to : TrustDesk → Stepped State
  comes_to after = trust_stepped g.kept (turn_link g.link) now left
      (after_units (goes_on_trusting after (bound_talk None turn_agreed) left) [] g.link [] (parts_at g.kept (turn_link g.link)))

  abbrev hands : Handing → Stepped State
  hands handing = comes_to (after_handing handing (line_of g) at_first.work.queues)

  -- what the controller comes to, by the trust that is asked, where one is
  abbrev asks_trust : Option ℕ → Stepped State
  asks_trust trust = hands (pass_or_hand trust what place g.caller.computer (key_of_channel g.heard_on)
      (return_of (key_of_channel g.heard_on) g.heard_on.seed g.timestamp) moved_on)

  abbrev call_by : (key seed : List ℕ) → ForwardedState
  call_by key seed = forwarded_call (line_of g) level_asked key (return_of key seed g.timestamp)

  abbrev trusts : ℕ
  trusts = length g.kept.requesters

  comes_on : trust_step_of (keeping_at g.kept (turn_link g.link)) (event.Bytes g.link (coming_bytes g)) now left
      ≡ then_turn (handed_of g) now left
      (parts_by (handed_of g) g.kept.turn (who (handed_of g) how g.next None) dialling.Nothing (action.Judged judged.Forwarded ∷ []) (its_call (handed_of g)))
  comes_on =
      let c : Call = logon_call g.caller g.asked_on g.timestamp g.info in
      let key : List ℕ = key_of_channel g.heard_on in
      let seed : List ℕ = g.heard_on.seed in
      on_trust_link g.kept g.link now (bound_talk None turn_agreed) (coming_bytes g) left _ (call_beside g.kept.name now g.link g.number c at_first left comes.below comes.goes)
      (ap Cut.rest (call_heard (turn_request g.number c) 5840 (request_sends g.number c comes.below comes.goes) (request_joins g.number c comes.goes)).stream)
      ∙ ap (λ (found : Option SecureChannelState). hands (judge_on found given what place g.caller.computer out)) comes.stands
      ∙ ap (λ (passed : Bool). hands (judge_returned (return_by passed g.heard_on given) g.heard_on what place g.caller.computer
      (desk g.kept.table (put_channel g.caller.computer (channel_by passed g.heard_on given) out.work)))) (passes_step g.asked_on g.heard_on g.timestamp comes.in_step)
      ∙ ap (λ (can : Bool). asks_trust (trust_by can true (route_in g.kept.table g.info.domain) trusts)) comes.hands
      ∙ ap (λ (way : Route). asks_trust (trust_by true true way trusts)) comes.routed
      ∙ ap (λ (below : Bool). asks_trust (trust_below below g.trust)) (below_found g.kept.requesters g.trust (at_rest g.asks how g.place g.next) comes.rests)
      ∙ ap (λ (fits : Bool). comes_to (trust_desk g.kept.table
      (forward_if fits (record { trust = g.trust; info = g.info; call = call_by key seed }) (line_of g) work_then))) comes.fits
      ∙ ap (λ (found : Option Requester). comes_to (trust_desk g.kept.table
      (wait_or_leave (asked_of_found found g.info g.trust g.kept.requesters) g.trust (call_by key seed) (line_of g) work_then))) comes.rests
      ∙ ap₂ (λ (key seed : List ℕ). comes_to (trust_desk g.kept.table
      (wait_or_leave (asked_of_found (Some (at_rest g.asks how g.place g.next)) g.info g.trust g.kept.requesters) g.trust (call_by key seed) (line_of g) work_then)))
      comes.in_step.key comes.in_step.seed

pub logons_are_handed_on : LogonsAreHandedOn
logons_are_handed_on = record {
  opens = λ g now challenge left comes.
      comes_on g standing.Nothing comes now (challenge ∷ left)
      ∙ starts_turn (handed_of g) comes.trusted g.kept.turn standing.Nothing standing.Nothing (step.Bind (challenge_call g.asks challenge)) g.next now
      (action.Judged judged.Forwarded ∷ []) (challenge ∷ left) left refl;
  proves = λ g now client server left comes.
      comes_on g (standing.Half client server) comes now left
      ∙ starts_turn (handed_of g) comes.trusted g.kept.turn (standing.Half client server) (standing.Half client server) (step.Bind (auth_call g.asks client server)) g.next now
      (action.Judged judged.Forwarded ∷ []) left left refl;
  asks = λ g now o left comes.
      comes_on g (standing.Open o) comes now left
      ∙ starts_turn (handed_of g) comes.trusted g.kept.turn (standing.Open o) (standing.Open (after_call o (timestamp_of now)))
      (step.Bind (logon_call g.asks o (timestamp_of now) (info_at g.place g.info))) g.next now (action.Judged judged.Forwarded ∷ []) left left refl;
}
