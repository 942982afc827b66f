-- What is told and each outcome of a reply, exactly where. It serves `a_station_ends_by_replies`.
use Rattle.std.proofs.Common.{◌≡◌, ◌≢◌, ℕ, ◌==◌, ◌++◌, ◌&&◌, Bool, true, false, not, List, [], ◌∷◌, Option, Some, None, Result, Ok, Err, bytes_eq, refl, sym, ap, subst, ◌∙◌}
use Rattle.std.proofs.lemmas.Bool.{eqb-false, eqb-true, ne_eqb}
use Rattle.wire_base.specs.declared.authenticator.Authenticator.{Authenticator}
use Rattle.ntlm_flags.specs.Flags.{has_flag}
use Rattle.channel_keys.specs.Flags.{rc4_flag}
use Rattle.channel_keys.specs.Hidden.{crypt_key}
use Rattle.authenticators.specs.SecureChannels.{SecureChannelState, fresh_channel, key_of_channel}
use Rattle.outside.specs.declared.action.Action.{Action}
use Rattle.outside.specs.declared.action.Action.TheVariants as action
use Rattle.outside.specs.declared.action.CloseCause.TheVariants as close
use Rattle.outside.specs.declared.action.DropCause.{DropCause}
use Rattle.outside.specs.declared.action.DropCause.TheVariants as drop_cause
use Rattle.outside.specs.declared.action.Outcome.{Outcome}
use Rattle.outside.specs.declared.action.Outcome.TheVariants as told
use Rattle.outside.specs.declared.action.StepRefused.{StepRefused}
use Rattle.outside.specs.declared.event.Event.TheVariants as event
use Rattle.rpc_units.specs.Stream.{Cut, cut_stream}
use Rattle.logon_stubs.specs.declared.info.SamInfo.{SamInfo}
use Rattle.logon_stubs.specs.declared.calls.AuthReply.{AuthReply}
use Rattle.logon_stubs.specs.declared.calls.ChallengeReply.{ChallengeReply}
use Rattle.logon_stubs.specs.declared.calls.LogoffReply.{LogoffReply}
use Rattle.logon_stubs.specs.declared.calls.LogonReply.{LogonReply}
use Rattle.logon_stubs.specs.declared.calls.Reply.{Reply}
use Rattle.logon_stubs.specs.declared.calls.Reply.TheVariants as reply
use Rattle.logon_stubs.specs.Status.{access_denied}
use Rattle.end_loop.specs.Runs.{taken_actions}
use Rattle.end_links.specs.Links.{LinkState}
use Rattle.channel_client.specs.Machine.{level_asked, offered_flags, server_credential}
use Rattle.interactive_station.specs.declared.outcome.StationOutcome.{StationOutcome}
use Rattle.interactive_station.specs.declared.outcome.StationOutcome.TheVariants.{Off, Refused, NoAnswer, BadPeer}
use Rattle.interactive_station.specs.declared.plan.StationPlan.{StationPlan}
use Rattle.interactive_station.specs.declared.state.StationCall.{StationCall}
use Rattle.interactive_station.specs.declared.state.StationCall.TheVariants.{Challenge, Authenticate, Logon, Logoff}
use Rattle.interactive_station.specs.declared.state.StationLink.{StationLink}
use Rattle.interactive_station.specs.declared.state.StationLink.TheVariants.{On}
use Rattle.interactive_station.specs.declared.state.StationRunning.{StationRunning}
use Rattle.interactive_station.specs.declared.state.StationTalk.{StationTalk}
use Rattle.interactive_station.specs.Machine.{step_of}
use Rattle.interactive_station.specs.Moves.{call_in, told_in}
use Rattle.interactive_station.specs.Replies.{Answer, Awaited, Broken, Fails, Replied, Bringing, Course, EndsByReplies, Grants, Judges, LogsOff, LogsOn, Refuses, HasReply, answer_course, brings_in, end_course, next_course, logon_course, logs_on, reply_course, request_sends, returns_awaited, stays_on, told_at, by_rules}
use Rattle.interactive_station.specs.State.{StationState}
use Rattle.interactive_station.proofs.ReplyLaws.{quiet_step, units_step}

-- ---- a reply comes to one of these

abbrev told_of : ℕ → SecureChannelState → SamInfo → Action
told_of link o info = action.Told link (told.In info.domain info.effective_name (crypt_key (key_of_channel o) info.key))

pub data ReplyView (c : StationCall) (r : Reply) (link : ℕ) (plan : StationPlan) (course : Course) : Type 0 where
  Blamed : (cause : DropCause) → course ≡ end_course close.CallDone link (BadPeer cause) → ReplyView c r link plan course
  GoesOn : (next : StationCall) → course ≡ next_course link [] plan next → ReplyView c r link plan course
  GoesIn : (o : SecureChannelState) (authenticator : Authenticator) (one : LogonReply) (info : SamInfo) (next : StationCall) → c ≡ Logon o authenticator → r ≡ reply.Logon one →
      Grants o one info → course ≡ next_course link (told_of link o info ∷ []) plan next → ReplyView c r link plan course
  IsRefused : (o : SecureChannelState) (returned : Option Authenticator) (status : ℕ) → Judges c r o returned status → returns_awaited o returned ≡ true → (status == 0) ≡ false →
      (status == access_denied) ≡ false → course ≡ end_course close.CallDone link (Refused status) → ReplyView c r link plan course
  GoesOff : (o : SecureChannelState) (authenticator : Authenticator) (domain user : List ℕ) (one : LogoffReply) → c ≡ Logoff o authenticator domain user → r ≡ reply.Logoff one →
      one.status ≡ 0 → returns_awaited o one.returned ≡ true → course ≡ end_course close.CallDone link (Off domain user) → ReplyView c r link plan course

module _ (link : ℕ) (plan : StationPlan) (now : ℕ) where
  challenge_view : (zero : Bool) (client : List ℕ) (r : ChallengeReply) →
      ReplyView (Challenge client) (reply.Challenge r) link plan (by_rules ((not zero, BadPeer drop_cause.Denied) ∷ []) link (next_course link [] plan (Authenticate client r.challenge)))
  challenge_view false client r = Blamed drop_cause.Denied refl
  challenge_view true client r = GoesOn (Authenticate client r.challenge) refl

  auth_view : (zero right fit : Bool) (client server : List ℕ) (r : AuthReply) (next : StationCall) →
      ReplyView (Authenticate client server) (reply.Authenticate r) link plan
      (by_rules ((not zero, BadPeer drop_cause.Denied) ∷ (not right, BadPeer drop_cause.NotNext) ∷ (not fit, BadPeer drop_cause.BadReply) ∷ []) link (next_course link [] plan next))
  auth_view false right fit client server r next = Blamed drop_cause.Denied refl
  auth_view true false fit client server r next = Blamed drop_cause.NotNext refl
  auth_view true true false client server r next = Blamed drop_cause.BadReply refl
  auth_view true true true client server r next = GoesOn next refl

  module _ (o : SecureChannelState) (authenticator : Authenticator) where
    -- the course of a reply to the Logon, by what the rules ask of it
    abbrev logon_by : (denied right zero asked : Bool) (status : ℕ) → Option SamInfo → Course
    logon_by denied right zero asked status info = by_rules (
        (denied, BadPeer drop_cause.Denied)
        ∷ (not right, BadPeer drop_cause.NotNext)
        ∷ (not zero, Refused status)
        ∷ (not asked, BadPeer drop_cause.BadReply) ∷ []
        ) link (logon_course o info link plan now)

    logon_view : (r : LogonReply) (denied right zero asked : Bool) (info : Option SamInfo) → (r.status == access_denied) ≡ denied → returns_awaited o r.returned ≡ right → (r.status == 0) ≡ zero →
        (r.level == level_asked) ≡ asked → r.info ≡ info → ReplyView (Logon o authenticator) (reply.Logon r) link plan (logon_by denied right zero asked r.status info)
    logon_view r true right zero asked info d w z l e = Blamed drop_cause.Denied refl
    logon_view r false false zero asked info d w z l e = Blamed drop_cause.NotNext refl
    logon_view r false true false asked info d w z l e = IsRefused o r.returned r.status (refl, refl, refl) w z d refl
    logon_view r false true true false info d w z l e = Blamed drop_cause.BadReply refl
    logon_view r false true true true None d w z l e = Blamed drop_cause.BadReply refl
    logon_view r false true true true (Some info) d w z l e = GoesIn o authenticator r info _ refl refl (record {
      status = eqb-true r.status 0 z;
      returned = w;
      level = eqb-true r.level level_asked l;
      info_is = e;
    }) refl

    module _ (domain user : List ℕ) where
      abbrev logoff_by : (denied right zero : Bool) (status : ℕ) → Course
      logoff_by denied right zero status = by_rules (
          (denied, BadPeer drop_cause.Denied)
          ∷ (not right, BadPeer drop_cause.NotNext)
          ∷ (not zero, Refused status) ∷ []
          ) link (end_course close.CallDone link (Off domain user))

      logoff_view : (r : LogoffReply) (denied right zero : Bool) → (r.status == access_denied) ≡ denied → returns_awaited o r.returned ≡ right → (r.status == 0) ≡ zero →
          ReplyView (Logoff o authenticator domain user) (reply.Logoff r) link plan (logoff_by denied right zero r.status)
      logoff_view r true right zero d w z = Blamed drop_cause.Denied refl
      logoff_view r false false zero d w z = Blamed drop_cause.NotNext refl
      logoff_view r false true false d w z = IsRefused o r.returned r.status (refl, refl, refl) w z d refl
      logoff_view r false true true d w z = GoesOff o authenticator domain user r refl refl (eqb-true r.status 0 z) w refl

  pub reply_view : (c : StationCall) (r : Reply) → ReplyView c r link plan (reply_course c r link plan now)
  reply_view (Challenge client) (reply.Challenge r) = challenge_view (r.status == 0) client r
  reply_view (Challenge client) (reply.Authenticate r) = Blamed drop_cause.BadReply refl
  reply_view (Challenge client) (reply.Logon r) = Blamed drop_cause.BadReply refl
  reply_view (Challenge client) (reply.Logoff r) = Blamed drop_cause.BadReply refl
  reply_view (Authenticate client server) (reply.Authenticate r) =
      auth_view (r.status == 0) (bytes_eq r.credential (server_credential plan.secret client server)) (has_flag offered_flags r.flags && has_flag r.flags rc4_flag) client server r
      (logs_on (fresh_channel plan.secret client server offered_flags) now)
  reply_view (Authenticate client server) (reply.Challenge r) = Blamed drop_cause.BadReply refl
  reply_view (Authenticate client server) (reply.Logon r) = Blamed drop_cause.BadReply refl
  reply_view (Authenticate client server) (reply.Logoff r) = Blamed drop_cause.BadReply refl
  reply_view (Logon o authenticator) (reply.Logon r) =
      logon_view o authenticator r (r.status == access_denied) (returns_awaited o r.returned) (r.status == 0) (r.level == level_asked) r.info refl refl refl refl refl
  reply_view (Logon o authenticator) (reply.Challenge r) = Blamed drop_cause.BadReply refl
  reply_view (Logon o authenticator) (reply.Authenticate r) = Blamed drop_cause.BadReply refl
  reply_view (Logon o authenticator) (reply.Logoff r) = Blamed drop_cause.BadReply refl
  reply_view (Logoff o authenticator domain user) (reply.Logoff r) =
      logoff_view o authenticator domain user r (r.status == access_denied) (returns_awaited o r.returned) (r.status == 0) refl refl refl
  reply_view (Logoff o authenticator domain user) (reply.Challenge r) = Blamed drop_cause.BadReply refl
  reply_view (Logoff o authenticator domain user) (reply.Authenticate r) = Blamed drop_cause.BadReply refl
  reply_view (Logoff o authenticator domain user) (reply.Logon r) = Blamed drop_cause.BadReply refl

-- ---- what is read off what is told, and off an outcome

abbrev first_told : List (ℕ × Outcome) → Outcome
first_told [] = told.Out 0
first_told (one ∷ more) = one.1

abbrev in_domain : Outcome → List ℕ
in_domain (told.In domain user key) = domain
in_domain (told.Out status) = []
in_domain (told.NoController cause) = []

abbrev in_user : Outcome → List ℕ
in_user (told.In domain user key) = user
in_user (told.Out status) = []
in_user (told.NoController cause) = []

abbrev in_key : Outcome → List ℕ
in_key (told.In domain user key) = key
in_key (told.Out status) = []
in_key (told.NoController cause) = []

abbrev ended_status : Option StationOutcome → ℕ
ended_status (Some (Refused status)) = status
ended_status _ = 0

abbrev off_domain : Option StationOutcome → List ℕ
off_domain (Some (Off domain user)) = domain
off_domain _ = []

abbrev off_user : Option StationOutcome → List ℕ
off_user (Some (Off domain user)) = user
off_user _ = []

-- ---- a piece on the link

module _ (own : LinkState StationTalk) (piece : List ℕ) (plan : StationPlan) (now : ℕ) where
  abbrev cut : Cut
  cut = cut_stream (own.rest ++ piece)

  abbrev b : Bringing
  b = brings_in cut own.talk

  abbrev link : ℕ
  link = own.talk.link

  abbrev stays : StationLink
  stays = stays_on cut own.talk b.limit

  abbrev course_by : Answer → StationCall → Course
  course_by answer c = answer_course answer c link plan now stays

  abbrev course : Course
  course = course_by b.answer (call_in own.talk.step)

  -- ---- the station tells that the user is in

  module _ (domain user key : List ℕ) where
    abbrev this : List (ℕ × Outcome)
    this = (link, told.In domain user key) ∷ []

    untold : (what : Course) → told_in what.actions ≡ this → what.actions ≡ [] → ⊥
    untold what is none = absurd (let wrong : [] ≡ this = sym (ap told_in none) ∙ is in cc)

    in_of_view : (r : Reply) → b.answer ≡ Replied r → (what : Course) → told_in what.actions ≡ this → ReplyView (call_in own.talk.step) r link plan what → LogsOn own piece domain user key
    in_of_view r answer_is what is (Blamed cause comes) = absurd (let wrong : [] ≡ this = sym (ap (λ (w : Course). told_in w.actions) comes) ∙ is in cc)
    in_of_view r answer_is what is (GoesOn next comes) = absurd (let wrong : [] ≡ this = sym (ap (λ (w : Course). told_in w.actions) comes) ∙ is in cc)
    in_of_view r answer_is what is (IsRefused o returned status judges awaited not_0 not_denied comes) = absurd (let wrong : [] ≡ this = sym (ap (λ (w : Course). told_in w.actions) comes) ∙ is in cc)
    in_of_view r answer_is what is (GoesOff o authenticator one other given call_is reply_is zero awaited comes) = absurd (let wrong : [] ≡ this = sym (ap (λ (w : Course). told_in w.actions) comes) ∙ is in cc)
    in_of_view r answer_is what is (GoesIn o authenticator one info next call_is reply_is grants comes) =
        let same : this ≡ (link, told.In info.domain info.effective_name (crypt_key (key_of_channel o) info.key)) ∷ [] = sym is ∙ ap (λ (w : Course). told_in w.actions) comes in
        record {
          channel = o;
          authenticator = authenticator;
          given = one;
          info = info;
          takes = record { call = call_is; answer = answer_is ∙ ap (λ (q : Reply). Replied q) reply_is };
          grants = grants;
          domain_is = ap (λ (tolds : List (ℕ × Outcome)). in_domain (first_told tolds)) same;
          user_is = ap (λ (tolds : List (ℕ × Outcome)). in_user (first_told tolds)) same;
          key_is = ap (λ (tolds : List (ℕ × Outcome)). in_key (first_told tolds)) same;
        }

    in_of : (answer : Answer) → b.answer ≡ answer → told_in (course_by answer (call_in own.talk.step)).actions ≡ this → LogsOn own piece domain user key
    in_of Awaited answer_is is = absurd (let wrong : [] ≡ this = is in cc)
    in_of (Broken cause) answer_is is = absurd (let wrong : [] ≡ this = is in cc)
    in_of (Fails cause) answer_is is = absurd (let wrong : [] ≡ this = is in cc)
    in_of (Replied r) answer_is is = in_of_view r answer_is (reply_course (call_in own.talk.step) r link plan now) is (reply_view link plan now (call_in own.talk.step) r)

    -- a reply that grants it
    grant_tells : (o : SecureChannelState) (authenticator : Authenticator) (r : LogonReply) (info : SamInfo) → Grants o r info →
        told_in (reply_course (Logon o authenticator) (reply.Logon r) link plan now).actions ≡ (link, told.In info.domain info.effective_name (crypt_key (key_of_channel o) info.key)) ∷ []
    grant_tells o authenticator r info grants = λ i.
        told_in (logon_by link plan now o authenticator (grants.status i == access_denied) (grants.returned i) (grants.status i == 0) (grants.level i == level_asked) (grants.status i) (grants.info_is i)).actions

    of_in : LogsOn own piece domain user key → told_in course.actions ≡ this
    of_in logs =
        ap (λ (answer : Answer). told_in (course_by answer (call_in own.talk.step)).actions) logs.takes.answer
        ∙ ap (λ (c : StationCall). told_in (course_by (Replied (reply.Logon logs.given)) c).actions) logs.takes.call
        ∙ grant_tells logs.channel logs.authenticator logs.given logs.info logs.grants
        ∙ (λ i. (link, told.In (sym logs.domain_is i) (sym logs.user_is i) (sym logs.key_is i)) ∷ [])

  -- ---- the station ends with a status

  module _ (status : ℕ) where
    refused_of_view : (r : Reply) → b.answer ≡ Replied r → (what : Course) → what.outcome ≡ Some (Refused status) → ReplyView (call_in own.talk.step) r link plan what → Refuses own piece status
    refused_of_view r answer_is what is (Blamed cause comes) = absurd (let wrong : Some (BadPeer cause) ≡ Some (Refused status) = sym (ap (λ (w : Course). w.outcome) comes) ∙ is in cc)
    refused_of_view r answer_is what is (GoesOn next comes) = absurd (let wrong : None ≡ Some (Refused status) = sym (ap (λ (w : Course). w.outcome) comes) ∙ is in cc)
    refused_of_view r answer_is what is (GoesIn o authenticator one info next call_is reply_is grants comes) = absurd (let wrong : None ≡ Some (Refused status) = sym (ap (λ (w : Course). w.outcome) comes) ∙ is in cc)
    refused_of_view r answer_is what is (GoesOff o authenticator domain user one call_is reply_is zero awaited comes) =
        absurd (let wrong : Some (Off domain user) ≡ Some (Refused status) = sym (ap (λ (w : Course). w.outcome) comes) ∙ is in cc)
    refused_of_view r answer_is what is (IsRefused o returned other judges awaited not_0 not_denied comes) =
        let same : other ≡ status = ap ended_status (sym (ap (λ (w : Course). w.outcome) comes) ∙ is) in
        record {
          call = call_in own.talk.step;
          given = r;
          channel = o;
          returned = returned;
          takes = record { call = refl; answer = answer_is };
          judges = subst (λ (n : ℕ). Judges (call_in own.talk.step) r o returned n) same judges;
          awaited = awaited;
          not_0 = eqb-false status 0 (subst (λ (n : ℕ). (n == 0) ≡ false) same not_0);
          not_denied = eqb-false status access_denied (subst (λ (n : ℕ). (n == access_denied) ≡ false) same not_denied);
        }

    refused_of : (answer : Answer) → b.answer ≡ answer → (course_by answer (call_in own.talk.step)).outcome ≡ Some (Refused status) → Refuses own piece status
    refused_of Awaited answer_is is = absurd (let wrong : None ≡ Some (Refused status) = is in cc)
    refused_of (Broken cause) answer_is is = absurd (let wrong : Some (BadPeer drop_cause.BadReply) ≡ Some (Refused status) = is in cc)
    refused_of (Fails cause) answer_is is = absurd (let wrong : Some (BadPeer cause) ≡ Some (Refused status) = is in cc)
    refused_of (Replied r) answer_is is = refused_of_view r answer_is (reply_course (call_in own.talk.step) r link plan now) is (reply_view link plan now (call_in own.talk.step) r)

    refusal_ends : (c : StationCall) (r : Reply) (o : SecureChannelState) (returned : Option Authenticator) → Judges c r o returned status → returns_awaited o returned ≡ true →
        status ≢ 0 → status ≢ access_denied → (reply_course c r link plan now).outcome ≡ Some (Refused status)
    refusal_ends (Logon one authenticator) (reply.Logon r) o returned judges awaited not_0 not_denied =
        let denied : (r.status == access_denied) ≡ false = ap (λ (n : ℕ). n == access_denied) judges.2 ∙ ne_eqb status access_denied not_denied in
        let right : returns_awaited one r.returned ≡ true = (λ i. returns_awaited (judges.0 i) (judges.1 i)) ∙ awaited in
        let zero : (r.status == 0) ≡ false = ap (λ (n : ℕ). n == 0) judges.2 ∙ ne_eqb status 0 not_0 in
        λ i. (logon_by link plan now one authenticator (denied i) (right i) (zero i) (r.level == level_asked) (judges.2 i) r.info).outcome
    refusal_ends (Logoff one authenticator domain user) (reply.Logoff r) o returned judges awaited not_0 not_denied =
        let denied : (r.status == access_denied) ≡ false = ap (λ (n : ℕ). n == access_denied) judges.2 ∙ ne_eqb status access_denied not_denied in
        let right : returns_awaited one r.returned ≡ true = (λ i. returns_awaited (judges.0 i) (judges.1 i)) ∙ awaited in
        let zero : (r.status == 0) ≡ false = ap (λ (n : ℕ). n == 0) judges.2 ∙ ne_eqb status 0 not_0 in
        λ i. (logoff_by link plan now one authenticator domain user (denied i) (right i) (zero i) (judges.2 i)).outcome
    refusal_ends (Challenge client) r o returned judges awaited not_0 not_denied = absurd judges
    refusal_ends (Authenticate client server) r o returned judges awaited not_0 not_denied = absurd judges
    refusal_ends (Logon one authenticator) (reply.Challenge r) o returned judges awaited not_0 not_denied = absurd judges
    refusal_ends (Logon one authenticator) (reply.Authenticate r) o returned judges awaited not_0 not_denied = absurd judges
    refusal_ends (Logon one authenticator) (reply.Logoff r) o returned judges awaited not_0 not_denied = absurd judges
    refusal_ends (Logoff one authenticator domain user) (reply.Challenge r) o returned judges awaited not_0 not_denied = absurd judges
    refusal_ends (Logoff one authenticator domain user) (reply.Authenticate r) o returned judges awaited not_0 not_denied = absurd judges
    refusal_ends (Logoff one authenticator domain user) (reply.Logon r) o returned judges awaited not_0 not_denied = absurd judges

    of_refused : Refuses own piece status → course.outcome ≡ Some (Refused status)
    of_refused refuses =
        ap (λ (answer : Answer). (course_by answer (call_in own.talk.step)).outcome) refuses.takes.answer
        ∙ ap (λ (c : StationCall). (course_by (Replied refuses.given) c).outcome) refuses.takes.call
        ∙ refusal_ends refuses.call refuses.given refuses.channel refuses.returned refuses.judges refuses.awaited refuses.not_0 refuses.not_denied

  -- ---- the user is logged off

  module _ (domain user : List ℕ) where
    off_of_view : (r : Reply) → b.answer ≡ Replied r → (what : Course) → what.outcome ≡ Some (Off domain user) → ReplyView (call_in own.talk.step) r link plan what → LogsOff own piece domain user
    off_of_view r answer_is what is (Blamed cause comes) = absurd (let wrong : Some (BadPeer cause) ≡ Some (Off domain user) = sym (ap (λ (w : Course). w.outcome) comes) ∙ is in cc)
    off_of_view r answer_is what is (GoesOn next comes) = absurd (let wrong : None ≡ Some (Off domain user) = sym (ap (λ (w : Course). w.outcome) comes) ∙ is in cc)
    off_of_view r answer_is what is (GoesIn o authenticator one info next call_is reply_is grants comes) = absurd (let wrong : None ≡ Some (Off domain user) = sym (ap (λ (w : Course). w.outcome) comes) ∙ is in cc)
    off_of_view r answer_is what is (IsRefused o returned status judges awaited not_0 not_denied comes) =
        absurd (let wrong : Some (Refused status) ≡ Some (Off domain user) = sym (ap (λ (w : Course). w.outcome) comes) ∙ is in cc)
    off_of_view r answer_is what is (GoesOff o authenticator one other given call_is reply_is zero awaited comes) =
        let same : Some (Off one other) ≡ Some (Off domain user) = sym (ap (λ (w : Course). w.outcome) comes) ∙ is in
        record {
          channel = o;
          authenticator = authenticator;
          given = given;
          takes = record {
            call = call_is ∙ (λ i. Logoff o authenticator (off_domain (same i)) (off_user (same i)));
            answer = answer_is ∙ ap (λ (q : Reply). Replied q) reply_is;
          };
          status = zero;
          awaited = awaited;
        }

    off_of : (answer : Answer) → b.answer ≡ answer → (course_by answer (call_in own.talk.step)).outcome ≡ Some (Off domain user) → LogsOff own piece domain user
    off_of Awaited answer_is is = absurd (let wrong : None ≡ Some (Off domain user) = is in cc)
    off_of (Broken cause) answer_is is = absurd (let wrong : Some (BadPeer drop_cause.BadReply) ≡ Some (Off domain user) = is in cc)
    off_of (Fails cause) answer_is is = absurd (let wrong : Some (BadPeer cause) ≡ Some (Off domain user) = is in cc)
    off_of (Replied r) answer_is is = off_of_view r answer_is (reply_course (call_in own.talk.step) r link plan now) is (reply_view link plan now (call_in own.talk.step) r)

    of_off : LogsOff own piece domain user → course.outcome ≡ Some (Off domain user)
    of_off logs =
        ap (λ (answer : Answer). (course_by answer (call_in own.talk.step)).outcome) logs.takes.answer
        ∙ ap (λ (c : StationCall). (course_by (Replied (reply.Logoff logs.given)) c).outcome) logs.takes.call
        ∙ (λ i. (logoff_by link plan now logs.channel logs.authenticator domain user (logs.status i == access_denied) (logs.awaited i) (logs.status i == 0) (logs.status i)).outcome)

-- ---- steps

told_behind : (limit : Option ℕ) (c : StationCall) (link : ℕ) (plan : StationPlan) (more : List Action) → told_in (request_sends limit c link plan ++ more) ≡ told_in more
told_behind None c link plan more = refl
told_behind (Some limit) c link plan more = refl

told_is : (s : StationState) (running : StationRunning) (own : LinkState StationTalk) (piece : List ℕ) (now : ℕ) (left : List (List ℕ)) → s.running ≡ Some running → s.outcome ≡ None → running.standing ≡ On own →
    told_at s (event.Bytes own.talk.link piece) now left ≡ told_in (course own piece running.task now).actions
told_is s running own piece now left runs none at =
    ap (λ (answer : Result (List Action) StepRefused). told_in (taken_actions answer)) (units_step s running own piece now left runs none at).actions
    ∙ told_behind (b own piece running.task now).limit (call_in own.talk.step) own.talk.link running.task (course own piece running.task now).actions

outcome_is : (s : StationState) (running : StationRunning) (own : LinkState StationTalk) (piece : List ℕ) (now : ℕ) (left : List (List ℕ)) → s.running ≡ Some running → s.outcome ≡ None → running.standing ≡ On own →
    (step_of s (event.Bytes own.talk.link piece) now left).state.outcome ≡ (course own piece running.task now).outcome
outcome_is s running own piece now left runs none at = ap (λ (t : StationState). t.outcome) (units_step s running own piece now left runs none at).state

pub ends_by_replies : EndsByReplies
ends_by_replies = record {
  units = units_step;
  other = quiet_step;
  told_in_exactly = λ s running own piece now left domain user key runs none at. (
    λ is. in_of own piece running.task now domain user key (b own piece running.task now).answer refl (sym (told_is s running own piece now left runs none at) ∙ is),
    λ logs. told_is s running own piece now left runs none at ∙ of_in own piece running.task now domain user key logs,
  );
  refused_exactly = λ s running own piece now left status runs none at. (
    λ is. refused_of own piece running.task now status (b own piece running.task now).answer refl (sym (outcome_is s running own piece now left runs none at) ∙ is),
    λ refuses. outcome_is s running own piece now left runs none at ∙ of_refused own piece running.task now status refuses,
  );
  off_exactly = λ s running own piece now left domain user runs none at. (
    λ is. off_of own piece running.task now domain user (b own piece running.task now).answer refl (sym (outcome_is s running own piece now left runs none at) ∙ is),
    λ logs. outcome_is s running own piece now left runs none at ∙ of_off own piece running.task now domain user logs,
  );
}
