-- What a controller tells at a step, whether it can seal or not: a judgement of each unit, at most.
-- It serves `State::put_answered`, `State::shut_link`, `World::new` and 3 more.
use Rattle.std.proofs.Common.{◌≡◌, ℕ, ◌+◌, ◌*◌, ◌≤◌, Bool, true, false, nat_le, List, [], ◌∷◌, ◌++◌, length, Option, Some, None, Result, Ok, Err, slice_get, refl, ap, ◌∙◌, arith, length-append}
use Rattle.wire_base.specs.Maps.{lookup, take_out, same_number}
use Rattle.wire_base.specs.Names.{same_name}
use Rattle.wire_base.specs.declared.authenticator.Authenticator.{Authenticator}
use Rattle.authenticators.specs.SecureChannels.{SecureChannelState, channel_by, key_of_channel, passes_on, return_by}
use Rattle.outside.specs.Machine.{Part, step_by, then_part}
use Rattle.outside.specs.declared.action.Action.{Action}
use Rattle.outside.specs.declared.action.Action.TheVariants as action
use Rattle.outside.specs.declared.action.CloseCause.TheVariants as close
use Rattle.outside.specs.declared.action.Judged.{Judged}
use Rattle.outside.specs.declared.action.Judged.TheVariants as judged
use Rattle.outside.specs.declared.action.StepRefused.{StepRefused}
use Rattle.outside.specs.declared.event.Event.{Event}
use Rattle.outside.specs.declared.event.Event.TheVariants as event
use Rattle.rpc_units.specs.declared.refused.UnitRefused.{UnitRefused}
use Rattle.rpc_units.specs.Stream.{cut_stream}
use Rattle.rpc_units.proofs.CutStreamLaws.{units_counted}
use Rattle.logon_stubs.specs.Status.{no_logon_servers}
use Rattle.logon_stubs.specs.Writing.{written_reply}
use Rattle.logon_stubs.specs.declared.calls.AuthCall.{AuthCall}
use Rattle.logon_stubs.specs.declared.info.Verdict.{Verdict}
use Rattle.account_table.specs.AccountTable.{AccountTable}
use Rattle.account_table.specs.declared.account.Trust.{Trust}
use Rattle.end_links.specs.Links.{LinkState}
use Rattle.end_links.specs.Serving.{ServedPart, served_cut}
use Rattle.channel_client.specs.State.{Requester}
use Rattle.channel_turns.specs.Turning.{Turned, is_on, is_waiting, link_answers, link_closes, link_hears, no_dial}
use Rattle.channel_turns.specs.declared.state.Turning.{Turning}
use Rattle.controller_calls.specs.Asking.{refuse_asked}
use Rattle.controller_calls.specs.Calls.{asked_of, computer_named, given_in}
use Rattle.controller_calls.specs.Desk.{Desk, desk, put_channel, take_channel, take_pair}
use Rattle.controller_calls.specs.Doing.{Done, done_asked, kept_asked}
use Rattle.controller_calls.specs.Forwarded.{ForwardedState}
use Rattle.controller_calls.specs.Granting.{answer_granting, answer_opened, channel_opened, secure_flags, seals_opened}
use Rattle.controller_calls.specs.Handing.{CallPlace, forwarded_reply, trust_asked}
use Rattle.controller_calls.specs.Seals.{SealedReply, belongs, seal_reply, stands}
use Rattle.controller_calls.specs.Unsent.{Unsent, call_unsent, named_unsent, on_unsent, owned_unsent, pass_or_hand_unsent, returned_unsent, unasked_stub}
use Rattle.controller_calls.specs.declared.calls.Asked.{Asked}
use Rattle.controller_calls.specs.declared.calls.ControllerCall.{ControllerCall}
use Rattle.controller_calls.specs.declared.calls.ControllerCall.TheVariants as call
use Rattle.controller_calls.specs.declared.calls.JudgedCall.{JudgedCall}
use Rattle.controller_calls.specs.declared.handing.HandOn.{HandOn}
use Rattle.controller_calls.specs.declared.line.Line.{Line}
use Rattle.controller_calls.specs.declared.seals.LinkSeal.{LinkSeal}
use Rattle.controller_calls.specs.declared.seals.ReplySeal.{ReplySeal}
use Rattle.controller_calls.specs.declared.state.Work.{Work}
use Rattle.controller_calls.proofs.OutcomeLaws.{asked_refused, texts_kept}
use Rattle.domain_controller.specs.Forwarding.{TrustDesk, answer_trust_call, ask_trust, base_desk, by_trust_heard, fits_on, place_of_call, trust_desk}
use Rattle.domain_controller.specs.Hearing.{hear}
use Rattle.domain_controller.specs.SealHearing.{seal_hear}
use Rattle.domain_controller.specs.SealServing.{SealDesk, SealPart, SealedPart, after_unsent, answer_asked, answer_on_line, answer_owned, answer_sealed, answer_standing, answered_by, beside_sealing, by_seal_call, by_seal_heard, draw_confounder, forward_sealed, judge_on_link, judge_unsent, open_secure, reply_sealed, seal_server, send_sealed, serve_sealing, unasked_sealed, wait_or_leave_sealed}
use Rattle.domain_controller.specs.SealStep.{SealParts, SealStepPart, after_answered, answer_ended, by_seal_event, close_answered, end_verdict, seal_after_units, seal_answer_dial, seal_close_by, seal_close_number, seal_event_and_turn, seal_fail_dial, seal_serve_bytes, seal_serve_on, seal_state_after, seal_step_of, seal_step_on, seal_turn_at, step_with}
use Rattle.domain_controller.specs.Sealing.{link_sealed, seal_of_link, unseal_link, with_seals, without_asked}
use Rattle.domain_controller.specs.State.{State as ControllerState}
use Rattle.domain_controller.specs.Step.{LinkMap}
use Rattle.domain_controller.specs.TrustStep.{after_turned, close_by, is_idle, next_turn, parts_of, trust_halted, turn_at, turning_of, with_work, without_link}
use Rattle.domain_controller.specs.Trusting.{same_place}
use Rattle.domain_controller.specs.declared.hearing.Heard.{Heard}
use Rattle.domain_controller.specs.declared.hearing.Heard.TheVariants as heard
use Rattle.domain_controller.specs.declared.seal_hearing.SealHeard.{SealHeard}
use Rattle.domain_controller.specs.declared.sealed.SealedCall.{SealedCall}
use Rattle.domain_controller.specs.declared.sealed.Sealing.{Sealing}
use Rattle.domain_controller.specs.declared.state.Running.{Running}
use Rattle.domain_controller.specs.declared.state.Talk.{Talk}
use Rattle.domain_controller.specs.declared.trusting.Parts.{Parts}
use Rattle.domain_controller.specs.declared.trusting.Queues.{Queues}
use Rattle.domain_controller.specs.declared.trusting.TrustWork.{TrustWork}
use Rattle.domain_controller.proofs.HandOnLaws.{call_comes}
use Rattle.world_moves.specs.Ends.{actions_by}
use Rattle.world_moves.specs.Telling.{adds_at, bytes_left, rests_on, told_by}
use Rattle.world_moves.proofs.TellingLaws.{StartsNone, TellsBy, TellsNone, TrustTells, answers_by, call_few, closed_level, closes_if, controller_tells as plain_tells, dial_level, failed_level, fails_by, hears_by, how_few, kept_tells, level_in, next_level, opened_level, put_level, rest_out, rest_taken, stream_few, told_append, told_at, told_in, told_more, turn_level, unit_few}

-- ---- a call before its reply is sent

-- one judgement is told, unless the logon is handed on, which is told where it waits
abbrev UnsentTells : ℕ → Option (List ℕ) → ℕ → Type 0
UnsentTells most None count = count ≤ most
UnsentTells most (Some stub) count = count ≤ most + 1

abbrev FewUnsent : Desk → Unsent → Type 0
FewUnsent before u = UnsentTells (told_by before.work.actions) u.1.0 (told_by u.0.work.actions)

refused_few : (what : Asked) (how : Judged) (d : Desk) → told_by (d.work.actions ++ action.Judged how ∷ []) ≤ told_by d.work.actions + 1
refused_few what how d = omega (arith, told_more d.work.actions (action.Judged how), how_few how)

done_few : (what : Asked) (done : Done) (actions : List Action) → told_by (actions ++ (kept_asked what done ++ action.Judged (judged.Passed done.status) ∷ [])) ≤ told_by actions + 1
done_few what done actions =
    let kept : List Action = kept_asked what done in
    let last : List Action = action.Judged (judged.Passed done.status) ∷ [] in
    omega (arith, told_append actions (kept ++ last), told_append kept last, kept_tells kept (texts_kept what done))

passed_few : (trust : Option ℕ) (what : Asked) (at : CallPlace) (computer key credential : List ℕ) (d : Desk) → FewUnsent d (pass_or_hand_unsent trust what at computer key credential d)
passed_few None what at computer key credential d = done_few what (done_asked what computer key at.name d.table at.now d.work.computers.sessions) d.work.actions
passed_few (Some trust) what at computer key credential d = omega arith

returned_few : (credential : Option (List ℕ)) (channel : SecureChannelState) (what : Asked) (at : CallPlace) (computer : List ℕ) (d : Desk) → FewUnsent d (returned_unsent credential channel what at computer d)
returned_few None channel what at computer d = refused_few what judged.Barred d
returned_few (Some credential) channel what at computer d = passed_few (trust_asked what channel.kind d.table at.trusts) what at computer (key_of_channel channel) credential d

on_few : (found : Option SecureChannelState) (given : Authenticator) (what : Asked) (at : CallPlace) (computer : List ℕ) (d : Desk) → FewUnsent d (on_unsent found given what at computer d)
on_few None given what at computer d = refused_few what judged.NoChannel d
on_few (Some channel) given what at computer d =
    returned_few (return_by (passes_on channel given) channel given) channel what at computer (desk d.table (put_channel computer (channel_by (passes_on channel given) channel given) d.work))

named_few : (computer : Option (List ℕ)) (given : Option Authenticator) (what : Asked) (at : CallPlace) (d : Desk) → FewUnsent d (named_unsent computer given what at d)
named_few None given what at d = refused_few what judged.NoChannel d
named_few (Some computer) None what at d = refused_few what judged.NoChannel d
named_few (Some computer) (Some given) what at d =
    on_few (lookup same_name computer d.work.computers.channels) given what at computer (desk d.table (take_channel computer d.work))

owned_few : (is_own : Bool) (c : JudgedCall) (at : CallPlace) (d : Desk) → FewUnsent d (owned_unsent is_own c at d)
owned_few true c at d = named_few (computer_named c) (given_in c) (asked_of c) at d
owned_few false c at d = refused_few (asked_of c) judged.NoChannel d

-- ---- what is sent sealed tells nothing

abbrev told_of : SealedPart → ℕ
told_of part = told_in part.0.0

bytes_tell : (bytes : Option (List ℕ)) (line : Line) (w : TrustWork) (s : Sealing) (talk : Talk) → told_of (send_sealed bytes line w s talk) ≡ told_in w
bytes_tell None line w s talk = omega (arith, told_more w.work.actions (action.Close line.link close.BadAuthentication))
bytes_tell (Some bytes) line w s talk = omega (arith, told_more w.work.actions (action.Send line.link bytes))

reply_tells : (reply : ReplySeal) (line : Line) (stub : List ℕ) (w : TrustWork) (s : Sealing) (talk : Talk) → told_of (reply_sealed reply line stub w s talk) ≡ told_in w
reply_tells reply line stub w s talk =
    let sealed : SealedReply = seal_reply reply line stub s.seals in bytes_tell sealed.bytes line w (with_seals sealed.seals s) talk

-- a logon that is handed on, or for which nobody can be asked

unasked_few : (f : ForwardedState) (reply : ReplySeal) (line : Line) (w : TrustWork) (s : Sealing) (talk : Talk) → told_of (unasked_sealed f reply line w s talk) ≤ told_in w + 1
unasked_few f reply line w s talk =
    omega (
      arith,
      reply_tells reply line (unasked_stub f) (record w { work = record w.work { actions = w.work.actions ++ action.Judged (judged.Passed no_logon_servers) ∷ [] } }) s talk,
      told_more w.work.actions (action.Judged (judged.Passed no_logon_servers)),
    )

waits_few : (asked : List Requester × Option ℕ) (trust : ℕ) (f : ForwardedState) (reply : ReplySeal) (line : Line) (w : TrustWork) (s : Sealing) (talk : Talk) →
    told_of (wait_or_leave_sealed asked trust f reply line w s talk) ≤ told_in w + 1
waits_few (requesters, None) trust f reply line w s talk = unasked_few f reply line w s talk
waits_few (requesters, Some place) trust f reply line w s talk = omega (arith, told_more w.work.actions (action.Judged judged.Forwarded))

forward_few : (fits : Bool) (handed : HandOn) (reply : ReplySeal) (line : Line) (w : TrustWork) (s : Sealing) (talk : Talk) →
    told_of (forward_sealed fits handed reply line w s talk) ≤ told_in w + 1
forward_few false handed reply line w s talk = unasked_few handed.call reply line w s talk
forward_few true handed reply line w s talk = waits_few (ask_trust handed.info handed.trust w.queues.requesters) handed.trust handed.call reply line w s talk

unsent_few : (most : ℕ) (stub : Option (List ℕ)) (handed : Option HandOn) (reply : ReplySeal) (line : Line) (w : TrustWork) (s : Sealing) (talk : Talk) →
    UnsentTells most stub (told_in w) → told_of (after_unsent stub handed reply line w s talk) ≤ most + 1
unsent_few most (Some stub) handed reply line w s talk few = omega (arith, few, reply_tells reply line stub w s talk)
unsent_few most None (Some handed) reply line w s talk few = omega (arith, few, forward_few (fits_on handed.info) handed reply line w s talk)
unsent_few most None None reply line w s talk few = omega (arith, few)

-- ---- a unit

abbrev told_on : SealDesk → ℕ
told_on d = told_at d.desk

abbrev SealTells : ℕ → SealPart → Type 0
SealTells most part = TellsBy told_on most part

beside_few : (most : ℕ) (s : Option Sealing) (part : ServedPart TrustDesk Talk) → TrustTells most part → SealTells most (beside_sealing s part)
beside_few most s (Err why) few = tt
beside_few most s (Ok part) few = few

drawn_few : (left : List (List ℕ)) (c : JudgedCall) (link : LinkSeal) (line : Line) (talk : Talk) (name : List ℕ) (now : ℕ) (d : TrustDesk) (s : Sealing) →
    SealTells (told_at d + 1) (draw_confounder left c link line talk name now d s)
drawn_few [] c link line talk name now d s = tt
drawn_few (confounder ∷ left) c link line talk name now d s =
    let own : Bool = belongs (Some link) (computer_named c) s.seals in
    let u : Unsent = owned_unsent own c (place_of_call name now line d.work.queues) (base_desk d) in
    unsent_few (told_at d) u.1.0 u.1.1 (record { link = link; confounder = confounder }) line (record { work = u.0.work; queues = d.work.queues }) s talk
    (owned_few own c (place_of_call name now line d.work.queues) (base_desk d))

answered_few : (own : Bool) (c : JudgedCall) (name : List ℕ) (now : ℕ) (line : Line) (d : TrustDesk) → told_at (answer_owned own c name now line d) ≤ told_at d + 1
answered_few true c name now line d = call_few c line d (answer_trust_call c name now line d) (call_comes c name now line d)
answered_few false c name now line d =
    let one = asked_refused (asked_of c) judged.NoChannel line d.work.work in
    omega (arith, ap told_by one.actions, told_append d.work.work.actions (action.Judged judged.NoChannel ∷ action.Send line.link one.answer ∷ []))

judged_few : (link : Option LinkSeal) (c : JudgedCall) (line : Line) (talk : Talk) (name : List ℕ) (now : ℕ) (d : TrustDesk) (s : Sealing) (left : List (List ℕ)) →
    SealTells (told_at d + 1) (judge_on_link link c line talk name now d s left)
judged_few None c line talk name now d s left = answered_few (belongs None (computer_named c) s.seals) c name now line d
judged_few (Some link) c line talk name now d s left = drawn_few left c link line talk name now d s

sends_few : (actions : List Action) (to : ℕ) (bytes : List ℕ) → told_by (actions ++ action.Send to bytes ∷ []) ≤ told_by actions + 1
sends_few actions to bytes = omega (arith, told_more actions (action.Send to bytes))

opened_few : (opened : Result SecureChannelState ℕ) (line : Line) (c : AuthCall) (work : Work) → told_by (answer_opened opened secure_flags line c work).actions ≤ told_by work.actions + 1
opened_few (Err status) line c work = sends_few work.actions line.link _
opened_few (Ok channel) line c work = sends_few work.actions line.link _

heard_few : (h : Heard) (link : Option LinkSeal) (number : ℕ) (name : List ℕ) (now : ℕ) (d : TrustDesk) (s : Sealing) (left : List (List ℕ)) →
    SealTells (told_at d + 1) (by_seal_heard h link number name now d s left)
heard_few (heard.Close cause) link number name now d s left =
    beside_few _ (Some s) (by_trust_heard (heard.Close cause) number name now d left) (unit_few (heard.Close cause) number name now d left)
heard_few (heard.Answer bytes talk) link number name now d s left =
    beside_few _ (Some s) (by_trust_heard (heard.Answer bytes talk) number name now d left) (unit_few (heard.Answer bytes talk) number name now d left)
heard_few (heard.Waits talk) link number name now d s left =
    beside_few _ (Some s) (by_trust_heard (heard.Waits talk) number name now d left) (unit_few (heard.Waits talk) number name now d left)
heard_few (heard.Asked line (call.Challenge c) talk) link number name now d s left =
    let asked : Heard = heard.Asked line (call.Challenge c) talk in
    beside_few _ (Some s) (by_trust_heard asked number name now d left) (unit_few asked number name now d left)
heard_few (heard.Asked line (call.Authenticate c) talk) link number name now d s left =
    opened_few (channel_opened secure_flags d.table c d.work.work.computers) line c (take_pair c.computer d.work.work)
heard_few (heard.Asked line (call.Judged c) talk) link number name now d s left = judged_few link c line talk name now d s left

serve_few : (sealing : Option Sealing) (number : ℕ) (bytes : List ℕ) (talk : Talk) (name : List ℕ) (now : ℕ) (d : TrustDesk) (left : List (List ℕ)) →
    SealTells (told_at d + 1) (serve_sealing sealing number bytes talk name now d left)
serve_few None number bytes talk name now d left =
    beside_few _ None (by_trust_heard (hear number bytes talk) number name now d left) (unit_few (hear number bytes talk) number name now d left)
serve_few (Some s) number bytes talk name now d left =
    let h : SealHeard = seal_hear number bytes talk (seal_of_link number s) s.seals in
    heard_few h.heard (seal_of_link number s) number name now d (link_sealed h.bound number (with_seals h.seals s)) left

units_few : (name : List ℕ) (now number : ℕ) (cut_units : List (List ℕ)) (why : Option UnitRefused) (d : SealDesk) (talk : Talk) (left : List (List ℕ)) →
    SealTells (told_on d + length cut_units) (served_cut (seal_server name now number) (record { units = cut_units; rest = []; refused = why }) d talk left)
units_few name now number =
    stream_few told_on (seal_server name now number) (λ bytes d talk left. serve_few d.sealing number bytes talk name now d.desk left)
    (λ why d talk left. omega (arith, told_more d.desk.work.work.actions (action.Close number close.BadUnit)))

-- ---- the answer to a logon that was asked for a sealed link tells nothing

abbrev told_then : (TrustWork × Sealing) × Option ℕ → ℕ
told_then done = told_in done.0.0

bytes_answer : (bytes : Option (List ℕ)) (line : Line) (w : TrustWork) (s : Sealing) → told_then (answered_by bytes line w s) ≡ told_in w
bytes_answer None line w s = omega (arith, told_more w.work.actions (action.Close line.link close.BadAuthentication))
bytes_answer (Some bytes) line w s = omega (arith, told_more w.work.actions (action.Send line.link bytes))

standing_answers : (has : Bool) (c : SealedCall) (line : Line) (verdict : Verdict) (w : TrustWork) (s : Sealing) → told_then (answer_standing has c line verdict w s) ≡ told_in w
standing_answers false c line verdict w s = refl
standing_answers true c line verdict w s =
    let sealed : SealedReply = seal_reply c.reply line (written_reply (forwarded_reply c.call verdict)) s.seals in bytes_answer sealed.bytes line w (with_seals sealed.seals s)

line_answers : (line : Option Line) (c : SealedCall) (verdict : Verdict) (w : TrustWork) (s : Sealing) → told_then (answer_on_line line c verdict w s) ≡ told_in w
line_answers None c verdict w s = refl
line_answers (Some line) c verdict w s = standing_answers (stands c.reply.link s.seals) c line verdict w s

found_answers : (found : Option SealedCall) (place : ℕ × ℕ) (verdict : Verdict) (w : TrustWork) (s : Sealing) → told_then (answer_sealed found place verdict w s) ≡ told_in w
found_answers None place verdict w s = refl
found_answers (Some c) place verdict w s = line_answers c.call.line c verdict w (without_asked place s)

ended_answers : (verdict : Option (ℕ × Verdict)) (trust : ℕ) (w : TrustWork) (s : Sealing) → told_then (answer_ended verdict trust w s) ≡ told_in w
ended_answers None trust w s = refl
ended_answers (Some answer) trust w s = found_answers (lookup same_place (trust, answer.0) s.asked) (trust, answer.0) answer.1 w s

closed_answer : (closed : Option ℕ) (parts : Parts) (s : Sealing) → level_in (close_answered closed parts s).0 ≤ level_in parts
closed_answer None parts s = omega arith
closed_answer (Some number) parts s = omega (arith, rest_out number parts.links)

after_level : (verdict : Option (ℕ × Verdict)) (trust : ℕ) (parts : Parts) (s : Sealing) → level_in (after_answered (answer_ended verdict trust parts.work s) parts).0 ≤ level_in parts
after_level verdict trust parts s =
    let done = answer_ended verdict trust parts.work s in
    omega (arith, closed_answer done.1 (with_work parts done.0.0) done.0.1, ended_answers verdict trust parts.work s)

seal_turn_level : (found : Option Requester) (happens : Turning → Turned) (parts : Parts) (s : Sealing) → TellsNone happens → level_in (seal_turn_at found happens parts s).0 ≤ level_in parts
seal_turn_level None happens parts s none = omega arith
seal_turn_level (Some channel) happens parts s none =
    let turned : Turned = happens (turning_of channel parts) in
    omega (arith, after_level (end_verdict turned.1) parts.turn_of (after_turned parts.turn_of turned parts) s, turn_level (Some channel) happens parts none)

-- ---- an event

abbrev AtMost : ℕ → SealStepPart → Type 0
AtMost most (Err why) = Unit {0}
AtMost most (Ok part) = level_in part.value.rest.parts ≤ most

close_level : (b : Bool) (number : ℕ) (parts : Parts) (s : Sealing) → level_in (seal_close_by b number parts s).0 ≤ level_in parts
close_level false number parts s = omega (arith, rest_out number parts.links)
close_level true number parts s =
    seal_turn_level (slice_get parts.work.queues.requesters parts.turn_of) (λ turning. link_closes number turning) parts s (λ turning. closes_if (is_on number turning.dialling) turning)

dialled_level : (waits : Bool) (number : ℕ) (parts : Parts) (s : Sealing) → level_in (seal_answer_dial waits number parts s).0 ≤ level_in parts
dialled_level false number parts s = omega arith
dialled_level true number parts s =
    omega (
      arith,
      rest_out number parts.links,
      seal_turn_level (slice_get parts.work.queues.requesters parts.turn_of) (λ turning. (link_answers number turning, None)) (without_link number parts) (unseal_link number s)
          (λ turning. answers_by turning.dialling number turning),
    )

fails_level : (waits : Bool) (parts : Parts) (s : Sealing) → level_in (seal_fail_dial waits parts s).0 ≤ level_in parts
fails_level false parts s = omega arith
fails_level true parts s = seal_turn_level _ (λ turning. no_dial turning) parts s (λ turning. fails_by turning.dialling turning)

units_level : (part : ServedPart SealDesk Talk) (rest : List ℕ) (number count : ℕ) (others : LinkMap) (parts : Parts) → SealTells count part →
    AtMost ((16 * count + length rest) + rests_on others) (seal_after_units part rest number others parts)
units_level (Err why) rest number count others parts few = tt
units_level (Ok part) rest number count others parts few =
    omega (arith, few, put_level part.value.1 rest number (record parts { work = part.value.0.desk.work; links = others }))

most_more : (most more : ℕ) (part : SealStepPart) → most ≤ more → AtMost most part → AtMost more part
most_more most more (Err why) le few = tt
most_more most more (Ok part) le few = omega (arith, le, few)

serve_level : (found : Option (LinkState Talk)) (number : ℕ) (piece name : List ℕ) (now : ℕ) (table : AccountTable) (parts : Parts) (s : Sealing) (left : List (List ℕ)) →
    lookup same_number number parts.links ≡ found →
    AtMost (level_in parts + length piece) (seal_serve_on found number piece name now (take_out same_number number parts.links) table parts s left)
serve_level None number piece name now table parts s left is = omega (arith, rest_out number parts.links)
serve_level (Some link) number piece name now table parts s left is =
    let stream : List ℕ = link.rest ++ piece in
    let cut = cut_stream stream in
    let d : SealDesk = record { desk = trust_desk table parts.work; sealing = Some s } in
    let part : ServedPart SealDesk Talk = served_cut (seal_server name now number) cut d link.talk left in
    let count : ℕ = told_on d + length cut.units in
    let others : LinkMap = take_out same_number number parts.links in
    most_more ((16 * count + length cut.rest) + rests_on others) (level_in parts + length piece) (seal_after_units part cut.rest number others parts)
    (omega (arith, units_counted stream, length-append link.rest piece, rest_taken number parts.links link is))
    (units_level part cut.rest number count others parts (units_few name now number cut.units cut.refused d link.talk left))

bytes_level : (b : Bool) (number : ℕ) (piece name : List ℕ) (now : ℕ) (table : AccountTable) (parts : Parts) (s : Sealing) (left : List (List ℕ)) →
    AtMost (level_in parts + length piece) (seal_serve_bytes b number piece name now table parts s left)
bytes_level true number piece name now table parts s left =
    omega (
      arith,
      seal_turn_level (slice_get parts.work.queues.requesters parts.turn_of) (λ turning. link_hears number piece turning) parts s
          (λ turning. hears_by turning.dialling number piece turning),
    )
bytes_level false number piece name now table parts s left = serve_level (lookup same_number number parts.links) number piece name now table parts s left refl

event_level : (what : Event) (name : List ℕ) (now : ℕ) (table : AccountTable) (parts : Parts) (s : Sealing) (left : List (List ℕ)) →
    AtMost (level_in parts + adds_at what) (by_seal_event what name now table parts s left)
event_level (event.Opened number) name now table parts s left =
    let closed : Parts = (seal_close_number number parts s).0 in
    omega (arith, opened_level (nat_le 256 (length closed.links)) number closed, close_level (is_on number parts.dialling) number parts s)
event_level (event.Bytes number piece) name now table parts s left = bytes_level (is_on number parts.dialling) number piece name now table parts s left
event_level (event.Closed number) name now table parts s left = omega (arith, close_level (is_on number parts.dialling) number parts s)
event_level (event.Dialled number) name now table parts s left = omega (arith, dialled_level (is_waiting parts.dialling) number parts s)
event_level event.DialFailed name now table parts s left = omega (arith, fails_level (is_waiting parts.dialling) parts s)
event_level event.Stop name now table parts s left = omega arith

-- ---- a step

with_table : (most : ℕ) (part : Result (Part Parts) StepRefused) (table : AccountTable) (sealing : Option Sealing) (before : Parts) → level_in before ≤ most → StartsNone before part →
    AtMost most (then_part part (λ later last. Ok (record { value = record { rest = record { table = table; parts = later }; sealing = sealing }; left = last })))
with_table most (Err why) table sealing before few same = tt
with_table most (Ok part) table sealing before few same = omega (arith, few, same)

turn_behind : (most : ℕ) (part : SealStepPart) (trusts : List Trust) (now : ℕ) → AtMost most part →
    AtMost most (then_part part (λ after rest. then_part (next_turn trusts now after.rest.parts rest) (λ later last. Ok (record {
      value = record { rest = record { table = after.rest.table; parts = later }; sealing = after.sealing };
      left = last;
    }))))
turn_behind most (Err why) trusts now few = tt
turn_behind most (Ok part) trusts now few =
    with_table most (next_turn trusts now part.value.rest.parts part.left) part.value.rest.table part.value.sealing part.value.rest.parts few
    (next_level (is_idle part.value.rest.parts.dialling) trusts now part.value.rest.parts part.left)

taken_level : (most : ℕ) (part : SealStepPart) (s : ControllerState) (left : List (List ℕ)) → AtMost most part →
    let stepped = step_by (λ (after : SealParts). after.rest.parts.work.work.actions) (λ after. seal_state_after s after) (trust_halted s) left part in
    16 * told_by (actions_by stepped.answer) + bytes_left stepped.state.running ≤ most
taken_level most (Err why) s left few = omega arith
taken_level most (Ok part) s left few = few

running_level : (running : Option Running) (sealing : Sealing) (s : ControllerState) (what : Event) (now : ℕ) (left : List (List ℕ)) → s.running ≡ running →
    16 * told_by (actions_by (seal_step_on running sealing s what now left).answer) + bytes_left (seal_step_on running sealing s what now left).state.running ≤ bytes_left running + adds_at what
running_level None sealing s what now left is = omega (arith, ap bytes_left is)
running_level (Some running) sealing s what now left is =
    let parts : Parts = parts_of running s.trusting in
    taken_level (rests_on running.links + adds_at what) (seal_event_and_turn s.table.trusts what s.name now s.table parts sealing left) s left
    (turn_behind (rests_on running.links + adds_at what) (by_seal_event what s.name now s.table parts sealing left) s.table.trusts now
    (most_more (level_in parts + adds_at what) (rests_on running.links + adds_at what) (by_seal_event what s.name now s.table parts sealing left) (omega arith)
    (event_level what s.name now s.table parts sealing left)))

sealing_level : (sealing : Option Sealing) (c : ControllerState) (what : Event) (now : ℕ) (left : List (List ℕ)) →
    16 * told_by (actions_by (step_with sealing c what now left).answer) + bytes_left (step_with sealing c what now left).state.running ≤ bytes_left c.running + adds_at what
sealing_level None c what now left = plain_tells c what now left
sealing_level (Some sealing) c what now left = running_level c.running sealing c what now left refl

-- what a controller tells at a step, for 16 bytes each, comes of its rests and of the bytes that come
pub controller_tells : (c : ControllerState) (what : Event) (now : ℕ) (left : List (List ℕ)) →
    16 * told_by (actions_by (seal_step_of c what now left).answer) + bytes_left (seal_step_of c what now left).state.running ≤ bytes_left c.running + adds_at what
controller_tells c what now left = sealing_level c.trusting.sealing c what now left
