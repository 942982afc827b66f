-- What is seen of a station's channel changes as at a member. It serves `stations_are_noted`, clause `sees`.
use Rattle.std.proofs.Common.{ℕ, ◌==◌, ◌&&◌, ◌++◌, Bool, true, false, not, List, [], ◌∷◌, Option, Some, None, Result, Ok, Err, bytes_eq, refl, sym, subst}
use Rattle.wire_base.specs.declared.authenticator.Authenticator.{Authenticator}
use Rattle.ntlm_flags.specs.Flags.{has_flag}
use Rattle.channel_keys.specs.Flags.{rc4_flag}
use Rattle.authenticators.specs.SecureChannels.{SecureChannelState, fresh_channel}
use Rattle.outside.specs.declared.action.CloseCause.{CloseCause}
use Rattle.outside.specs.declared.action.CloseCause.TheVariants as close
use Rattle.outside.specs.declared.action.DropCause.{DropCause}
use Rattle.outside.specs.declared.action.DropCause.TheVariants as drop_cause
use Rattle.rpc_units.specs.Stream.{Cut, cut_stream}
use Rattle.rpc_units.specs.declared.unit.Unit.{Unit as RpcUnit}
use Rattle.logon_stubs.specs.Status.{access_denied}
use Rattle.logon_stubs.specs.declared.calls.Reply.{Reply}
use Rattle.logon_stubs.specs.declared.calls.Reply.TheVariants as reply
use Rattle.logon_stubs.specs.declared.info.SamInfo.{SamInfo}
use Rattle.end_links.specs.Links.{LinkState}
use Rattle.channel_client.specs.Effects.{Changes, Effect, View}
use Rattle.channel_client.specs.Machine.{level_asked, offered_flags, server_credential}
use Rattle.channel_turns.specs.Laws.{whole_units}
use Rattle.interactive_station.specs.Calls.{bind_number}
use Rattle.interactive_station.specs.Moves.{call_in}
use Rattle.interactive_station.specs.Replies.{Answer, Awaited, Broken, Fails, Replied, Bringing, Course, answer_course, bind_answer, brings, brings_bound, brings_by, brings_in, by_rules, end_course, logon_course, logs_on, next_course, open_behind, piece_course, refusal_among, reply_course, returns_awaited, step_then, unit_numbered, units_behind}
use Rattle.interactive_station.specs.State.{StationState}
use Rattle.interactive_station.specs.declared.outcome.StationOutcome.{StationOutcome}
use Rattle.interactive_station.specs.declared.outcome.StationOutcome.TheVariants.{BadPeer, Off, Refused}
use Rattle.interactive_station.specs.declared.plan.StationPlan.{StationPlan}
use Rattle.interactive_station.specs.declared.state.StationCall.{StationCall}
use Rattle.interactive_station.specs.declared.state.StationCall.TheVariants.{Authenticate, Challenge, Logoff, Logon}
use Rattle.interactive_station.specs.declared.state.StationLink.{StationLink}
use Rattle.interactive_station.specs.declared.state.StationLink.TheVariants.{On}
use Rattle.interactive_station.specs.declared.state.StationStep.{StationStep}
use Rattle.interactive_station.specs.declared.state.StationStep.TheVariants.{Asked, Bound}
use Rattle.interactive_station.specs.declared.state.StationTalk.{StationTalk}
use Rattle.interactive_station.proofs.ReplyLaws.{units_step}
use Rattle.step_notes.specs.StationNotes.{mark_of_call, view_at_step, view_of_station}
use Rattle.step_notes.specs.StationSteps.{IsMarkOf, IsSeenThen, StationsHaveEffects, effect_of_request, effects_by, effects_then, view_in_running}

-- ---- requests

request_marked : (controller : ℕ) (plan : StationPlan) (c : StationCall) → IsMarkOf (mark_of_call controller plan c) (effect_of_request controller plan c) (view_at_step controller plan (Bound c))
request_marked controller plan (Challenge client) = tt
request_marked controller plan (Authenticate client server) = (refl, refl, refl)
request_marked controller plan (Logon o authenticator) = (refl, refl)
request_marked controller plan (Logoff o authenticator domain user) = (refl, refl)

request_changes : (controller : ℕ) (plan : StationPlan) (c : StationCall) →
    Changes (effect_of_request controller plan c) (view_at_step controller plan (Bound c)) (view_at_step controller plan (Asked c))
request_changes controller plan (Challenge client) = refl
request_changes controller plan (Authenticate client server) = refl
request_changes controller plan (Logon o authenticator) = (refl, refl, refl, refl)
request_changes controller plan (Logoff o authenticator domain user) = (refl, refl, refl, refl)

-- ---- replies

module _ (controller : ℕ) (plan : StationPlan) (link now : ℕ) where
  -- what is seen of a course, where the reply to that call was waited for
  abbrev SeenAt : StationCall → Course → Type 0
  SeenAt c course =
      IsSeenThen course.outcome (effects_then controller plan c course.standing) (view_at_step controller plan (Asked c)) (view_of_station controller plan course.standing)

  seen_challenge : (zero : Bool) (client server : List ℕ) →
      SeenAt (Challenge client) (by_rules ((not zero, BadPeer drop_cause.Denied) ∷ []) link (next_course link [] plan (Authenticate client server)))
  seen_challenge false client server = refl
  seen_challenge true client server = (_, refl, refl)

  seen_opening : (zero right fit : Bool) (client server : List ℕ) →
      SeenAt (Authenticate client server)
      (by_rules ((not zero, BadPeer drop_cause.Denied) ∷ (not right, BadPeer drop_cause.NotNext) ∷ (not fit, BadPeer drop_cause.BadReply) ∷ []) link
      (next_course link [] plan (logs_on (fresh_channel plan.secret client server offered_flags) now)))
  seen_opening false right fit client server = refl
  seen_opening true false fit client server = refl
  seen_opening true true false client server = refl
  seen_opening true true true client server = (_, (refl, refl), (_, (_, refl, refl, refl, refl), refl))

  module _ (o : SecureChannelState) (authenticator : Authenticator) where
    seen_logon : (denied right zero asked : Bool) (status : ℕ) (info : Option SamInfo) →
        SeenAt (Logon o authenticator)
        (by_rules (
        (denied, BadPeer drop_cause.Denied)
        ∷ (not right, BadPeer drop_cause.NotNext)
        ∷ (not zero, Refused status)
        ∷ (not asked, BadPeer drop_cause.BadReply) ∷ []
        ) link (logon_course o info link plan now))
    seen_logon true right zero asked status info = refl
    seen_logon false false zero asked status info = refl
    seen_logon false true false asked status info = refl
    seen_logon false true true false status info = refl
    seen_logon false true true true status None = refl
    seen_logon false true true true status (Some info) = (_, (refl, refl, refl), (_, (_, refl, refl, refl, refl), refl))

    seen_logoff : (denied right zero : Bool) (status : ℕ) (domain user : List ℕ) →
        SeenAt (Logoff o authenticator domain user)
        (by_rules (
        (denied, BadPeer drop_cause.Denied)
        ∷ (not right, BadPeer drop_cause.NotNext)
        ∷ (not zero, Refused status) ∷ []
        ) link (end_course close.CallDone link (Off domain user)))
    seen_logoff true right zero status domain user = refl
    seen_logoff false false zero status domain user = refl
    seen_logoff false true false status domain user = refl
    seen_logoff false true true status domain user = refl

  seen_reply : (c : StationCall) (r : Reply) → SeenAt c (reply_course c r link plan now)
  seen_reply (Challenge client) (reply.Challenge r) = seen_challenge (r.status == 0) client r.challenge
  seen_reply (Challenge client) (reply.Authenticate r) = refl
  seen_reply (Challenge client) (reply.Logon r) = refl
  seen_reply (Challenge client) (reply.Logoff r) = refl
  seen_reply (Authenticate client server) (reply.Authenticate r) =
      seen_opening (r.status == 0) (bytes_eq r.credential (server_credential plan.secret client server)) (has_flag offered_flags r.flags && has_flag r.flags rc4_flag) client server
  seen_reply (Authenticate client server) (reply.Challenge r) = refl
  seen_reply (Authenticate client server) (reply.Logon r) = refl
  seen_reply (Authenticate client server) (reply.Logoff r) = refl
  seen_reply (Logon o authenticator) (reply.Logon r) =
      seen_logon o authenticator (r.status == access_denied) (returns_awaited o r.returned) (r.status == 0) (r.level == level_asked) r.status r.info
  seen_reply (Logon o authenticator) (reply.Challenge r) = refl
  seen_reply (Logon o authenticator) (reply.Authenticate r) = refl
  seen_reply (Logon o authenticator) (reply.Logoff r) = refl
  seen_reply (Logoff o authenticator domain user) (reply.Logoff r) =
      seen_logoff o authenticator (r.status == access_denied) (returns_awaited o r.returned) (r.status == 0) r.status domain user
  seen_reply (Logoff o authenticator domain user) (reply.Challenge r) = refl
  seen_reply (Logoff o authenticator domain user) (reply.Authenticate r) = refl
  seen_reply (Logoff o authenticator domain user) (reply.Logon r) = refl

  -- ---- what bytes bring

  -- no reply is taken before the request is out, and no request goes out twice
  abbrev Fits : StationStep → Option ℕ → Answer → Type 0
  Fits (Bound c) None (Replied r) = ⊥
  Fits (Bound c) None Awaited = Unit {0}
  Fits (Bound c) None (Broken cause) = Unit {0}
  Fits (Bound c) None (Fails cause) = Unit {0}
  Fits (Bound c) (Some limit) answer = Unit {0}
  Fits (Asked c) None answer = Unit {0}
  Fits (Asked c) (Some limit) answer = ⊥

  abbrev standing_then : StationStep → Option RpcUnit → List ℕ → StationLink
  standing_then st joiner rest = On (record { rest = rest; talk = record { link = link; joiner = joiner; step = st } })

  answer_seen : (c : StationCall) (answer : Answer) (joiner : Option RpcUnit) (rest : List ℕ) →
      SeenAt c (answer_course answer c link plan now (standing_then (Asked c) joiner rest))
  answer_seen c Awaited joiner rest = refl
  answer_seen c (Broken cause) joiner rest = refl
  answer_seen c (Fails cause) joiner rest = refl
  answer_seen c (Replied r) joiner rest = seen_reply c r

  -- an effect before these
  with_effect : (outcome : Option StationOutcome) (effect : Effect) (effects : List Effect) (u v w : View) → Changes effect u v → IsSeenThen outcome effects v w → IsSeenThen outcome (effect ∷ effects) u w
  with_effect None effect effects u v w change seen = (v, change, seen)
  with_effect (Some how) effect effects u v w change seen = seen

  brought_seen : (st : StationStep) (limit : Option ℕ) (answer : Answer) (joiner : Option RpcUnit) (rest : List ℕ) → Fits st limit answer →
      IsSeenThen (answer_course answer (call_in st) link plan now (standing_then (step_then limit (call_in st) st) joiner rest)).outcome
      (effects_by limit controller plan (call_in st) (answer_course answer (call_in st) link plan now (standing_then (step_then limit (call_in st) st) joiner rest)).standing)
      (view_at_step controller plan st)
      (view_of_station controller plan (answer_course answer (call_in st) link plan now (standing_then (step_then limit (call_in st) st) joiner rest)).standing)
  brought_seen (Bound c) None Awaited joiner rest fits = refl
  brought_seen (Bound c) None (Broken cause) joiner rest fits = refl
  brought_seen (Bound c) None (Fails cause) joiner rest fits = refl
  brought_seen (Bound c) None (Replied r) joiner rest fits = absurd fits
  brought_seen (Bound c) (Some limit) answer joiner rest fits =
      let course : Course = answer_course answer c link plan now (standing_then (Asked c) joiner rest) in
      with_effect course.outcome (effect_of_request controller plan c) (effects_then controller plan c course.standing) (view_at_step controller plan (Bound c))
      (view_at_step controller plan (Asked c)) (view_of_station controller plan course.standing) (request_changes controller plan c) (answer_seen c answer joiner rest)
  brought_seen (Asked c) None answer joiner rest fits = answer_seen c answer joiner rest
  brought_seen (Asked c) (Some limit) answer joiner rest fits = absurd fits

  said_fits : (said : Result ℕ DropCause) (behind : List RpcUnit) (refusal : Option CloseCause) (c : StationCall) →
      Fits (Bound c) (brings_by said behind refusal c).limit (brings_by said behind refusal c).answer
  said_fits (Err cause) behind refusal c = tt
  said_fits (Ok limit) behind refusal c = tt

  bound_fits : (found : Option RpcUnit) (behind : List RpcUnit) (refusal : Option CloseCause) (c : StationCall) →
      Fits (Bound c) (brings_bound found behind refusal c).limit (brings_bound found behind refusal c).answer
  bound_fits None behind None c = tt
  bound_fits None behind (Some cause) c = tt
  bound_fits (Some unit) behind refusal c = said_fits (bind_answer unit.body) behind refusal c

  step_fits : (st : StationStep) (units : List RpcUnit) (refusal : Option CloseCause) → Fits st (brings st units refusal).limit (brings st units refusal).answer
  step_fits (Bound c) units refusal = bound_fits (unit_numbered (bind_number c) units) (units_behind (bind_number c) units) refusal c
  step_fits (Asked c) units refusal = tt

-- what is seen of a piece's course
piece_seen : (controller : ℕ) (plan : StationPlan) (own : LinkState StationTalk) (piece : List ℕ) (now : ℕ) →
    IsSeenThen (piece_course own piece plan now).outcome
    (effects_by (brings_in (cut_stream (own.rest ++ piece)) own.talk).limit controller plan (call_in own.talk.step) (piece_course own piece plan now).standing)
    (view_of_station controller plan (On own)) (view_of_station controller plan (piece_course own piece plan now).standing)
piece_seen controller plan own piece now =
    let cut : Cut = cut_stream (own.rest ++ piece) in
    let b : Bringing = brings_in cut own.talk in
    brought_seen controller plan own.talk.link now own.talk.step b.limit b.answer (open_behind cut.units own.talk.joiner) cut.rest
    (step_fits controller plan own.talk.link now own.talk.step (whole_units cut.units own.talk.joiner) (refusal_among cut.units cut.refused own.talk.joiner))

pub stations_have : StationsHaveEffects
stations_have = record {
  begins = λ controller plan client link. (refl, refl);
  dialled = λ controller plan c link. refl;
  marks = request_marked;
  bytes = λ controller s running own piece now left runs none at.
      subst
      (λ (after : StationState). IsSeenThen after.outcome
      (effects_by (brings_in (cut_stream (own.rest ++ piece)) own.talk).limit controller running.task (call_in own.talk.step) (piece_course own piece running.task now).standing)
      (view_of_station controller running.task (On own)) (view_in_running controller after.running))
      (sym (units_step s running own piece now left runs none at).state) (piece_seen controller running.task own piece now);
}
