-- How a controller that can seal serves the units of an accepted link (MS-NRPC 3.3; the order of checks, and that a
-- confounder is drawn for each call that is judged on a sealed link, are this project's own choice). A confounder has 8
-- bytes.
use Rattle.std.specs.Prelude.{ℕ, Bool, true, false, List, [], ◌∷◌, Option, Some, None, Result, Ok, Err}
use Rattle.wire_base.specs.Maps.{lookup}
use Rattle.account_table.specs.AccountTable.{AccountTable}
use Rattle.outside.specs.declared.action.Action.{Action}
use Rattle.outside.specs.declared.action.Action.TheVariants as action
use Rattle.outside.specs.declared.action.CloseCause.TheVariants as close
use Rattle.outside.specs.declared.action.Judged.TheVariants as judged
use Rattle.outside.specs.declared.action.StepRefused.{StepRefused}
use Rattle.outside.specs.declared.action.StepRefused.TheVariants as refused
use Rattle.logon_stubs.specs.Writing.{written_reply}
use Rattle.logon_stubs.specs.declared.info.Verdict.{Verdict}
use Rattle.logon_stubs.specs.declared.calls.AuthCall.{AuthCall}
use Rattle.end_links.specs.Serving.{Server, ServedPart}
use Rattle.channel_client.specs.State.{Requester}
use Rattle.controller_calls.specs.Asking.{refuse_asked}
use Rattle.controller_calls.specs.Calls.{asked_of, computer_named}
use Rattle.controller_calls.specs.Desk.{desk}
use Rattle.controller_calls.specs.Forwarded.{ForwardedState}
use Rattle.controller_calls.specs.Granting.{answer_granting, channel_opened, seals_opened, secure_flags}
use Rattle.controller_calls.specs.Handing.{call_without, forwarded_reply}
use Rattle.controller_calls.specs.Seals.{SealedReply, belongs, seal_reply, stands}
use Rattle.controller_calls.specs.Unsent.{Unsent, owned_unsent, told_unasked, unasked_stub}
use Rattle.controller_calls.specs.declared.calls.ControllerCall.{ControllerCall}
use Rattle.controller_calls.specs.declared.calls.ControllerCall.TheVariants as call
use Rattle.controller_calls.specs.declared.calls.JudgedCall.{JudgedCall}
use Rattle.controller_calls.specs.declared.handing.HandOn.{HandOn}
use Rattle.controller_calls.specs.declared.line.Line.{Line}
use Rattle.controller_calls.specs.declared.seals.LinkSeal.{LinkSeal}
use Rattle.controller_calls.specs.declared.seals.ReplySeal.{ReplySeal}
use Rattle.domain_controller.specs.Forwarding.{TrustDesk, answer_trust_call, ask_trust, base_desk, by_trust_call, by_trust_heard, fits_on, place_of_call, told, trust_desk, wait_at, with_queues}
use Rattle.domain_controller.specs.Hearing.{hear}
use Rattle.domain_controller.specs.SealHearing.{seal_hear}
use Rattle.domain_controller.specs.Sealing.{link_sealed, seal_asked, seal_of_link, with_seals, without_asked}
use Rattle.domain_controller.specs.Trusting.{same_place}
use Rattle.domain_controller.specs.declared.hearing.Heard.{Heard}
use Rattle.domain_controller.specs.declared.hearing.Heard.TheVariants as heard
use Rattle.domain_controller.specs.declared.seal_hearing.SealHeard.{SealHeard}
use Rattle.domain_controller.specs.declared.sealed.SealedCall.{SealedCall}
use Rattle.domain_controller.specs.declared.sealed.Sealing.{Sealing}
use Rattle.domain_controller.specs.declared.state.Talk.{Talk}
use Rattle.domain_controller.specs.declared.trusting.Queues.{Queues}
use Rattle.domain_controller.specs.declared.trusting.TrustWork.{TrustWork}

-- a controller at work that can seal or can't: what is kept to seal stands beside the rest
pub record SealDesk : Type 0 where
  pub desk : TrustDesk
  pub sealing : Option Sealing

abbrev pub seal_desk : TrustDesk → Sealing → SealDesk
seal_desk d s = record { desk = d; sealing = Some s }

-- how a call that works on the table answers: the table stands beside the value, which has the rest
abbrev pub at_seal_desk : {X : Type 0} → AccountTable → Result ((TrustWork × Sealing) × X) StepRefused → Result (SealDesk × X) StepRefused
at_seal_desk table (Ok done) = Ok (seal_desk (trust_desk table done.0.0) done.0.1, done.1)
at_seal_desk table (Err why) = Err why

abbrev pub told_on_desk : Action → TrustDesk → TrustDesk
told_on_desk what d = trust_desk d.table (told what d.work)

-- what is said on the link then, or None where it is closed, and the challenges that are left
abbrev pub SealPart : Type 0
SealPart = ServedPart SealDesk Talk

abbrev pub goes_on_sealing : TrustDesk → Sealing → Option Talk → List (List ℕ) → SealPart
goes_on_sealing d s talk left = Ok (record { value = (seal_desk d s, talk); left = left })

-- what is served as where nothing is sealed
abbrev pub beside_sealing : Option Sealing → ServedPart TrustDesk Talk → SealPart
beside_sealing s (Err why) = Err why
beside_sealing s (Ok part) = Ok (record { value = (record { desk = part.value.0; sealing = s }, part.value.1); left = part.left })

-- ---- a reply that is sealed

-- what a controller has beside its accounts, and what is said on the link then, or None where it is closed
abbrev pub SealedPart : Type 0
SealedPart = (TrustWork × Sealing) × Option Talk

-- what is sent, or, where the numbers of the channel's end are used up, the link closed; and what is said then
abbrev pub send_sealed : (bytes : Option (List ℕ)) → Line → TrustWork → Sealing → Talk → SealedPart
send_sealed None line w s talk = ((told (action.Close line.link close.BadAuthentication) w, s), None)
send_sealed (Some bytes) line w s talk = ((told (action.Send line.link bytes) w, s), Some talk)

abbrev pub send_reply_of : SealedReply → Line → TrustWork → Sealing → Talk → SealedPart
send_reply_of sealed line w s talk = send_sealed sealed.bytes line w (with_seals sealed.seals s) talk

abbrev pub reply_sealed : ReplySeal → Line → (stub : List ℕ) → TrustWork → Sealing → Talk → SealedPart
reply_sealed reply line stub w s talk = send_reply_of (seal_reply reply line stub s.seals) line w s talk

-- ---- a logon from a sealed link that is handed on

-- nobody is asked for it
abbrev pub unasked_sealed : ForwardedState → ReplySeal → Line → TrustWork → Sealing → Talk → SealedPart
unasked_sealed f reply line w s talk =
    reply_sealed reply line (unasked_stub f) (record w { work = told_unasked w.work }) s talk

-- a logon from a sealed link waits without a line, and where its reply goes is kept with what seals it
abbrev pub wait_sealed : (place trust : ℕ) → ForwardedState → ReplySeal → Line → List Requester → TrustWork → Sealing → Talk → SealedPart
wait_sealed place trust f reply line requesters w s talk = (
  (wait_at place trust (call_without line.link f) requesters w, seal_asked (trust, place) (record { reply = reply; call = f }) s),
  Some talk,
)

abbrev pub wait_or_leave_sealed : List Requester × Option ℕ → (trust : ℕ) → ForwardedState → ReplySeal → Line → TrustWork → Sealing → Talk → SealedPart
wait_or_leave_sealed (requesters, None) trust f reply line w s talk = unasked_sealed f reply line w s talk
wait_or_leave_sealed (requesters, Some place) trust f reply line w s talk =
    wait_sealed place trust f reply line requesters w s talk

abbrev pub forward_sealed : (fits : Bool) → HandOn → ReplySeal → Line → TrustWork → Sealing → Talk → SealedPart
forward_sealed false handed reply line w s talk = unasked_sealed handed.call reply line w s talk
forward_sealed true handed reply line w s talk =
    wait_or_leave_sealed (ask_trust handed.info handed.trust w.queues.requesters) handed.trust handed.call reply line w s talk

-- ---- a call on a secure channel that came on a sealed link

-- the part of a call that was judged: its reply is sealed, or the logon is handed on. (One of both is there: the last
-- line says nothing.)
abbrev pub after_unsent : Option (List ℕ) → Option HandOn → ReplySeal → Line → TrustWork → Sealing → Talk → SealedPart
after_unsent (Some stub) handed reply line w s talk = reply_sealed reply line stub w s talk
after_unsent None (Some handed) reply line w s talk = forward_sealed (fits_on handed.info) handed reply line w s talk
after_unsent None None reply line w s talk = ((w, s), Some talk)

-- beside those accounts
abbrev pub at_table : AccountTable → SealedPart → (TrustDesk × Sealing) × Option Talk
at_table table done = ((trust_desk table done.0.0, done.0.1), done.1)

abbrev pub judge_unsent : Unsent → ReplySeal → Line → Queues → Sealing → Talk → (TrustDesk × Sealing) × Option Talk
judge_unsent u reply line queues s talk =
    at_table u.0.table (after_unsent u.1.0 u.1.1 reply line (record { work = u.0.work; queues = queues }) s talk)

abbrev pub served_sealed : (TrustDesk × Sealing) × Option Talk → List (List ℕ) → SealPart
served_sealed done left = goes_on_sealing done.0.0 done.0.1 done.1 left

abbrev pub judge_sealed : JudgedCall → LinkSeal → (confounder : List ℕ) → Line → Talk → List ℕ → ℕ → TrustDesk → Sealing → (TrustDesk × Sealing) × Option Talk
judge_sealed c link confounder line talk name now d s =
    judge_unsent
    (owned_unsent (belongs (Some link) (computer_named c) s.seals) c (place_of_call name now line d.work.queues) (base_desk d))
    (record { link = link; confounder = confounder }) line d.work.queues s talk

-- a confounder is drawn for it
abbrev pub draw_confounder : List (List ℕ) → JudgedCall → LinkSeal → Line → Talk → List ℕ → ℕ → TrustDesk → Sealing → SealPart
draw_confounder [] c link line talk name now d s = Err refused.Spent
draw_confounder (confounder ∷ left) c link line talk name now d s =
    served_sealed (judge_sealed c link confounder line talk name now d s) left

-- ---- a call on a link that isn't sealed: served as where nothing is sealed, unless the computer's channel seals

abbrev pub answer_owned : (is_own : Bool) → JudgedCall → List ℕ → ℕ → Line → TrustDesk → TrustDesk
answer_owned true c name now line d = answer_trust_call c name now line d
answer_owned false c name now line d =
    with_queues d.work.queues (desk d.table (refuse_asked (asked_of c) judged.NoChannel line d.work.work))

abbrev pub judge_on_link : Option LinkSeal → JudgedCall → Line → Talk → List ℕ → ℕ → TrustDesk → Sealing → List (List ℕ) → SealPart
judge_on_link None c line talk name now d s left =
    goes_on_sealing (answer_owned (belongs None (computer_named c) s.seals) c name now line d) s (Some talk) left
judge_on_link (Some link) c line talk name now d s left = draw_confounder left c link line talk name now d s

-- ---- a call, and a unit

-- by secure RPC too, and what is kept of an older channel of the computer is none's any more
abbrev pub open_secure : AuthCall → Line → Talk → TrustDesk → Sealing → List (List ℕ) → SealPart
open_secure c line talk d s left =
    goes_on_sealing
    (with_queues d.work.queues (desk d.table (answer_granting secure_flags d.table line c d.work.work)))
    (with_seals (seals_opened (channel_opened secure_flags d.table c d.work.work.computers) secure_flags c s.seals) s) (Some talk) left

abbrev pub by_seal_call : ControllerCall → Option LinkSeal → Line → Talk → List ℕ → ℕ → TrustDesk → Sealing → List (List ℕ) → SealPart
by_seal_call (call.Challenge c) link line talk name now d s left =
    beside_sealing (Some s) (by_trust_call (call.Challenge c) line talk name now d left)
by_seal_call (call.Authenticate c) link line talk name now d s left = open_secure c line talk d s left
by_seal_call (call.Judged c) link line talk name now d s left = judge_on_link link c line talk name now d s left

abbrev pub by_seal_heard : Heard → Option LinkSeal → ℕ → List ℕ → ℕ → TrustDesk → Sealing → List (List ℕ) → SealPart
by_seal_heard (heard.Close cause) link number name now d s left =
    beside_sealing (Some s) (by_trust_heard (heard.Close cause) number name now d left)
by_seal_heard (heard.Answer bytes talk) link number name now d s left =
    beside_sealing (Some s) (by_trust_heard (heard.Answer bytes talk) number name now d left)
by_seal_heard (heard.Waits talk) link number name now d s left =
    beside_sealing (Some s) (by_trust_heard (heard.Waits talk) number name now d left)
by_seal_heard (heard.Asked line call talk) link number name now d s left = by_seal_call call link line talk name now d s left

-- a bind that is answered seals the link
abbrev pub after_heard : SealHeard → Option LinkSeal → ℕ → List ℕ → ℕ → TrustDesk → Sealing → List (List ℕ) → SealPart
after_heard h link number name now d s left =
    by_seal_heard h.heard link number name now d (link_sealed h.bound number (with_seals h.seals s)) left

abbrev pub serve_sealing : Option Sealing → (number : ℕ) (bytes : List ℕ) → Talk → List ℕ → ℕ → TrustDesk → List (List ℕ) → SealPart
serve_sealing None number bytes talk name now d left =
    beside_sealing None (by_trust_heard (hear number bytes talk) number name now d left)
serve_sealing (Some s) number bytes talk name now d left =
    after_heard (seal_hear number bytes talk (seal_of_link number s) s.seals) (seal_of_link number s) number name now d s left

-- how a controller of that name serves the units of an accepted link at a moment; a rest that is refused closes it
abbrev pub seal_server : List ℕ → ℕ → ℕ → Server SealDesk Talk
seal_server name now number = record {
  unit = λ bytes d talk left. serve_sealing d.sealing number bytes talk name now d.desk left;
  refusal = λ why d talk left.
      Ok (record { value = record d { desk = told_on_desk (action.Close number close.BadUnit) d.desk }; left = left });
}

-- ---- the answer to a logon that was asked for a sealed link

-- the answer goes out where its link is open and its channel stands, else to nobody. Where the numbers of the channel's
-- end are used up, the link is closed, whose number is given
abbrev pub answered_by : (bytes : Option (List ℕ)) → Line → TrustWork → Sealing → (TrustWork × Sealing) × Option ℕ
answered_by None line w s = ((told (action.Close line.link close.BadAuthentication) w, s), Some line.link)
answered_by (Some bytes) line w s = ((told (action.Send line.link bytes) w, s), None)

abbrev pub answered_with : SealedReply → Line → TrustWork → Sealing → (TrustWork × Sealing) × Option ℕ
answered_with sealed line w s = answered_by sealed.bytes line w (with_seals sealed.seals s)

abbrev pub answer_standing : (has_channel : Bool) → SealedCall → Line → Verdict → TrustWork → Sealing → (TrustWork × Sealing) × Option ℕ
answer_standing false c line verdict w s = ((w, s), None)
answer_standing true c line verdict w s =
    answered_with (seal_reply c.reply line (written_reply (forwarded_reply c.call verdict)) s.seals) line w s

abbrev pub answer_on_line : Option Line → SealedCall → Verdict → TrustWork → Sealing → (TrustWork × Sealing) × Option ℕ
answer_on_line None c verdict w s = ((w, s), None)
answer_on_line (Some line) c verdict w s = answer_standing (stands c.reply.link s.seals) c line verdict w s

abbrev pub answer_sealed : Option SealedCall → (place : ℕ × ℕ) → Verdict → TrustWork → Sealing → (TrustWork × Sealing) × Option ℕ
answer_sealed None place verdict w s = ((w, s), None)
answer_sealed (Some c) place verdict w s = answer_on_line c.call.line c verdict w (without_asked place s)

abbrev pub answer_asked : (place : ℕ × ℕ) → Verdict → TrustWork → Sealing → (TrustWork × Sealing) × Option ℕ
answer_asked place verdict w s = answer_sealed (lookup same_place place s.asked) place verdict w s
