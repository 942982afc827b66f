-- What is written down of a step of a requester is what its effect on the channel says.
-- It serves `steps_are_noted_by_effect`.
use Rattle.std.proofs.Common.{◌≡◌, ◌==◌, ◌&&◌, ℕ, Bool, true, false, List, [], ◌∷◌, inl, inr, Option, Some, None, Ok, Err, refl, sym, ap, subst, length, nat_le, ◌∙◌}
use Rattle.std.specs.Prelude.{bytes_eq}
use Rattle.ntlm_flags.specs.Flags.{has_flag}
use Rattle.channel_keys.specs.Flags.{rc4_flag}
use Rattle.wire_base.specs.declared.authenticator.Authenticator.{Authenticator}
use Rattle.authenticators.specs.SecureChannels.{SecureChannelState, after_return, is_awaited}
use Rattle.logon_stubs.specs.Status.{access_denied}
use Rattle.logon_stubs.specs.declared.calls.Call.{Call}
use Rattle.logon_stubs.specs.declared.calls.Reply.{Reply}
use Rattle.logon_stubs.specs.declared.info.NetworkInfo.{NetworkInfo}
use Rattle.logon_stubs.specs.declared.info.SamInfo.{SamInfo}
use Rattle.channel_client.specs.Effects.{MatchesCall, MatchesSet, MatchesStep, effect_heard, effect_judged, effect_judged_set, effect_next, number_in, step_in, view_at, view_of}
use Rattle.channel_client.specs.Machine.{SetOutcome, act, after, ask_by, begin_with, hear, judge, judge_auth, judge_awaited, judge_challenge, judge_credential, judge_flags, judge_level, judge_logon, judge_return, judge_set, judge_status, level_asked, offered_flags, place_of, question_of, server_credential, settle, settle_set, start_by, wait_for, waiting_limit}
use Rattle.channel_client.specs.State.{Requester}
use Rattle.channel_client.specs.declared.caller.Caller.{Caller}
use Rattle.channel_client.specs.declared.hearing.Hearing.{Hearing}
use Rattle.channel_client.specs.declared.judging.Judgement.{Judgement}
use Rattle.channel_client.specs.declared.state.Pending.{Pending}
use Rattle.channel_client.specs.declared.state.Question.{Question}
use Rattle.channel_client.specs.declared.state.Standing.{Standing}
use Rattle.channel_client.specs.declared.state.Step.{Step}
use Rattle.channel_client.specs.declared.state.Waiting.{Waiting}
use Rattle.step_notes.specs.EffectNotes.{IsNotedBy, StepsAreNoted, asks_opening, opening_out_of}
use Rattle.step_notes.specs.MemberNotes.{asked_note, half_channel, taking_note, timestamp_bound}
use Rattle.wire_base.proofs.ListLaws.{no_some}
use Rattle.channel_client.proofs.EffectLaws.{HeardFits, heard_fits}
use Rattle.logon_stubs.specs.declared.calls.Call.TheVariants as call
use Rattle.logon_stubs.specs.declared.calls.Reply.TheVariants as reply
use Rattle.channel_client.specs.declared.hearing.Hearing.TheVariants as hearing
use Rattle.channel_client.specs.declared.judging.Judgement.TheVariants as judgement
use Rattle.channel_client.specs.declared.state.Question.TheVariants as question
use Rattle.channel_client.specs.declared.state.Standing.TheVariants as standing
use Rattle.channel_client.specs.declared.state.Step.TheVariants as step
use Rattle.channel_client.specs.declared.state.SetStep.TheVariants as set_step
use Rattle.channel_client.specs.declared.hearing.SetHearing.TheVariants as set_hearing

-- ---- a logon that is asked, and a turn that starts

asked_out : (full : Bool) (s : Requester) (info : NetworkInfo) → opening_out_of (ask_by full s info).state ≡ opening_out_of s
asked_out true s info = refl
asked_out false s info = refl

-- the call of a turn that starts waits for its bind
begun_unasked : (how : Standing) (next : Option (List ℕ)) (caller : Caller) (info : NetworkInfo) (timestamp : ℕ) (challenge : List ℕ) →
    asks_opening (Some (begin_with how next caller info timestamp challenge).step) ≡ false
begun_unasked standing.Nothing next caller info timestamp challenge = refl
begun_unasked (standing.Half client server) next caller info timestamp challenge = refl
begun_unasked (standing.Open o) None caller info timestamp challenge = refl
begun_unasked (standing.Open o) (Some next) caller info timestamp challenge = refl

started_out : (turn : Option Pending) (logons : List Waiting) (s : Requester) (timestamp : ℕ) (challenge : List ℕ) → s.turn ≡ turn →
    opening_out_of (start_by turn logons s timestamp challenge).state ≡ opening_out_of s
started_out (Some p) logons s timestamp challenge is = refl
started_out None [] s timestamp challenge is = refl
started_out None (logon ∷ logons) s timestamp challenge is =
    begun_unasked s.standing s.next s.caller logon.info timestamp challenge ∙ sym (ap (λ (turn : Option Pending). asks_opening (step_in turn)) is)

-- ---- both challenges are known only by the reply to the first call

abbrev pub AsksFirst : Judgement → Question → Type 0
AsksFirst (judgement.Half client server) q = (given : List ℕ) × (q ≡ question.Challenge given)
AsksFirst (judgement.Opened o) q = Unit {0}
AsksFirst (judgement.Answer o v) q = Unit {0}
AsksFirst (judgement.Drop cause) q = Unit {0}

challenge_first : (granted : Bool) (client server : List ℕ) → AsksFirst (judge_challenge granted client server) (question.Challenge client)
challenge_first false client server = tt
challenge_first true client server = (client, refl)

flags_first : (enough : Bool) (secret client server : List ℕ) (q : Question) → AsksFirst (judge_flags enough secret client server) q
flags_first false secret client server q = tt
flags_first true secret client server q = tt

credential_first : (right : Bool) (secret client server : List ℕ) (flags : ℕ) (q : Question) → AsksFirst (judge_credential right secret client server flags) q
credential_first false secret client server flags q = tt
credential_first true secret client server flags q = flags_first (has_flag offered_flags flags && has_flag flags rc4_flag) secret client server q

auth_first : (granted : Bool) (how : Standing) (secret credential : List ℕ) (flags : ℕ) (q : Question) → AsksFirst (judge_auth granted how secret credential flags) q
auth_first false how secret credential flags q = tt
auth_first true standing.Nothing secret credential flags q = tt
auth_first true (standing.Half client server) secret credential flags q =
    credential_first (bytes_eq credential (server_credential secret client server)) secret client server flags q
auth_first true (standing.Open o) secret credential flags q = tt

level_first : (asked : Bool) (info : Option SamInfo) (o : SecureChannelState) (q : Question) → AsksFirst (judge_level asked info o) q
level_first false info o q = tt
level_first true None o q = tt
level_first true (Some info) o q = tt

status_first : (granted : Bool) (status level : ℕ) (info : Option SamInfo) (o : SecureChannelState) (q : Question) → AsksFirst (judge_status granted status level info o) q
status_first false status level info o q = tt
status_first true status level info o q = level_first (level == level_asked) info o q

awaited_first : (right : Bool) (status level : ℕ) (info : Option SamInfo) (o : SecureChannelState) (q : Question) → AsksFirst (judge_awaited right status level info o) q
awaited_first false status level info o q = tt
awaited_first true status level info o q = status_first (status == 0) status level info (after_return true o) q

return_first : (returned : Option Authenticator) (status level : ℕ) (info : Option SamInfo) (o : SecureChannelState) (q : Question) → AsksFirst (judge_return returned status level info o) q
return_first None status level info o q = tt
return_first (Some returned) status level info o q = awaited_first (is_awaited o.awaited returned.credential) status level info o q

logon_first : (denied : Bool) (how : Standing) (returned : Option Authenticator) (status level : ℕ) (info : Option SamInfo) (q : Question) →
    AsksFirst (judge_logon denied how returned status level info) q
logon_first true how returned status level info q = tt
logon_first false standing.Nothing returned status level info q = tt
logon_first false (standing.Half client server) returned status level info q = tt
logon_first false (standing.Open o) returned status level info q = return_first returned status level info o q

pub judged_first : (q : Question) (r : Reply) (how : Standing) (secret : List ℕ) → AsksFirst (judge q r how secret) q
judged_first (question.Challenge client) (reply.Challenge r) how secret = challenge_first (r.status == 0) client r.challenge
judged_first (question.Challenge client) (reply.Authenticate r) how secret = tt
judged_first (question.Challenge client) (reply.Logon r) how secret = tt
judged_first (question.Challenge client) (reply.Logoff r) how secret = tt
judged_first question.Authenticate (reply.Challenge r) how secret = tt
judged_first question.Authenticate (reply.Authenticate r) how secret = auth_first (r.status == 0) how secret r.credential r.flags question.Authenticate
judged_first question.Authenticate (reply.Logon r) how secret = tt
judged_first question.Authenticate (reply.Logoff r) how secret = tt
judged_first question.Logon (reply.Challenge r) how secret = tt
judged_first question.Logon (reply.Authenticate r) how secret = tt
judged_first question.Logon (reply.Logon r) how secret = logon_first (r.status == access_denied) how r.returned r.status r.level r.info question.Logon
judged_first question.Logon (reply.Logoff r) how secret = tt

-- ---- a reply

-- what is written down of what the step comes to
abbrev pub IsNoted : ℕ → Requester → Hearing → Option Step → Type 0
IsNoted controller s what turn =
    IsNotedBy (effect_heard controller what s) (taking_note (Some (act what s)) controller s)
    (view_at controller s.caller.computer s.standing turn (number_in s.turn) s.next_call) (view_of controller (act what s).state) (asks_opening turn)
    (opening_out_of (act what s).state)

abbrev pub IsSettled : ℕ → Requester → Judgement → Question → Type 0
IsSettled controller s j q =
    IsNotedBy (effect_judged controller j s.caller.computer (number_in s.turn)) (taking_note (Some (settle j s)) controller s)
    (view_at controller s.caller.computer s.standing (Some (step.Reply q)) (number_in s.turn) s.next_call) (view_of controller (settle j s).state)
    (asks_opening (Some (step.Reply q))) (opening_out_of (settle j s).state)

settles_noted : (controller : ℕ) (s : Requester) (j : Judgement) (q : Question) → AsksFirst j q → IsSettled controller s j q
settles_noted controller s (judgement.Half client server) q first = (refl, λ challenge under. sym (ap (λ (x : Question). asks_opening (Some (step.Reply x))) first.1))
settles_noted controller s (judgement.Opened o) q first = refl
settles_noted controller s (judgement.Answer o v) q first = (Some (place_of s.turn), refl, λ challenge under. absurd (no_some challenge under))
settles_noted controller s (judgement.Drop cause) q first = refl

-- the reply to a call that sets a secret is noted by its effect
abbrev pub IsSetSettled : ℕ → Requester → SetOutcome → Type 0
IsSetSettled controller s judged =
    IsNotedBy (effect_judged_set controller judged s.caller.computer (number_in s.turn)) (taking_note (Some (settle_set judged s)) controller s)
    (view_at controller s.caller.computer s.standing (Some (step.Set set_step.Reply)) (number_in s.turn) s.next_call) (view_of controller (settle_set judged s).state)
    (asks_opening (Some (step.Set set_step.Reply))) (opening_out_of (settle_set judged s).state)

set_noted : (controller : ℕ) (s : Requester) (judged : SetOutcome) → IsSetSettled controller s judged
set_noted controller s (Ok o) = (None, refl, λ challenge under. absurd (no_some challenge under))
set_noted controller s (Err cause) = refl

-- ---- a request

abbrev pub GoesNoted : ℕ → Requester → Standing → Option Step → Question → Type 0
GoesNoted controller s how turn q =
    IsNotedBy (effect_next controller how s.caller.computer s.next_call)
    (asked_note (Some (step.Reply q)) how controller s (wait_for s (place_of s.turn) (step.Reply q)))
    (view_at controller s.caller.computer how turn (number_in s.turn) s.next_call)
    (view_at controller s.caller.computer how (Some (step.Reply q)) s.next_call (after s.next_call)) (asks_opening turn) (asks_opening (Some (step.Reply q)))

goes_noted : (controller : ℕ) (s : Requester) (how : Standing) (c : Call) → MatchesCall how c → GoesNoted controller s how (Some (step.Bind c)) (question_of c)
goes_noted controller s standing.Nothing (call.Challenge value) m = inl (refl, λ challenge under. refl)
goes_noted controller s standing.Nothing (call.Authenticate value) m = absurd m
goes_noted controller s standing.Nothing (call.Logon value) m = absurd m
goes_noted controller s standing.Nothing (call.Logoff value) m = absurd m
goes_noted controller s (standing.Half client server) (call.Challenge value) m = absurd m
goes_noted controller s (standing.Half client server) (call.Authenticate value) m =
    inr (record { channel = half_channel controller s client server; is = refl; none = refl; under_way = refl; unsent = refl; out = refl })
goes_noted controller s (standing.Half client server) (call.Logon value) m = absurd m
goes_noted controller s (standing.Half client server) (call.Logoff value) m = absurd m
goes_noted controller s (standing.Open o) (call.Challenge value) m = absurd m
goes_noted controller s (standing.Open o) (call.Authenticate value) m = absurd m
goes_noted controller s (standing.Open o) (call.Logon value) m = (timestamp_bound (step_in s.turn), Some (place_of s.turn), refl)
goes_noted controller s (standing.Open o) (call.Logoff value) m = absurd m

next_noted : (controller : ℕ) (s : Requester) (turn : Option Step) (q : Question) (c : Call) → turn ≡ Some (step.Bind c) → q ≡ question_of c → MatchesStep s.standing turn →
    GoesNoted controller s s.standing turn q
next_noted controller s turn q c is asks m =
    subst (λ (x : Option Step). GoesNoted controller s s.standing x q) (sym is)
    (subst (λ (x : Question). GoesNoted controller s s.standing (Some (step.Bind c)) x) (sym asks)
    (goes_noted controller s s.standing c (subst (λ (x : Option Step). MatchesStep s.standing x) is m)))

-- a call that sets a secret is noted by its effect, as it goes out
abbrev pub SetGoesNoted : ℕ → Requester → Standing → Option Step → Type 0
SetGoesNoted controller s how turn =
    IsNotedBy (effect_next controller how s.caller.computer s.next_call)
    (asked_note (Some (step.Set set_step.Reply)) how controller s (wait_for s (place_of s.turn) (step.Set set_step.Reply)))
    (view_at controller s.caller.computer how turn (number_in s.turn) s.next_call)
    (view_at controller s.caller.computer how (Some (step.Set set_step.Reply)) s.next_call (after s.next_call)) (asks_opening turn) false

set_goes_noted : (controller : ℕ) (s : Requester) (how : Standing) (turn : Option Step) → MatchesSet how → SetGoesNoted controller s how turn
set_goes_noted controller s standing.Nothing turn m = absurd m
set_goes_noted controller s (standing.Half client server) turn m = absurd m
set_goes_noted controller s (standing.Open o) turn m = (timestamp_bound (step_in s.turn), None, refl)

-- ---- a unit

heard_noted : (controller : ℕ) (s : Requester) (what : Hearing) (turn : Option Step) → turn ≡ step_in s.turn → HeardFits what turn → MatchesStep s.standing turn →
    IsNoted controller s what turn
heard_noted controller s hearing.Skip turn at heard m = (refl, λ challenge under. ap asks_opening (sym at))
heard_noted controller s (hearing.Next q frames) turn at heard m = next_noted controller s turn q heard.0 heard.1 heard.2 m
heard_noted controller s (hearing.Reply q r) turn at heard m =
    subst (λ (x : Option Step). IsNoted controller s (hearing.Reply q r) x) (sym heard)
    (settles_noted controller s (judge q r s.standing s.caller.secret) q (judged_first q r s.standing s.caller.secret))
heard_noted controller s (hearing.Drop cause) turn at heard m = refl
heard_noted controller s (hearing.Set (set_hearing.Next frames)) turn at heard m =
    set_goes_noted controller s s.standing turn (subst (λ (x : Option Step). MatchesStep s.standing x) heard.1 m)
heard_noted controller s (hearing.Set (set_hearing.Reply r)) turn at heard m =
    subst (λ (x : Option Step). IsNoted controller s (hearing.Set (set_hearing.Reply r)) x) (sym heard) (set_noted controller s (judge_set r s.standing))

pub steps_are_noted : StepsAreNoted
steps_are_noted = record {
  fresh = λ controller caller. refl;
  ask = λ s info. asked_out (nat_le waiting_limit (length s.waiting)) s info;
  use_secret = λ s secret. refl;
  set_next = λ s next. refl;
  start = λ s timestamp challenge. started_out s.turn s.waiting s timestamp challenge refl;
  take = λ controller s unit c. heard_noted controller s (hear s.turn unit s.next_call) (step_in s.turn) refl (heard_fits s.turn unit s.next_call) c.matches;
}
