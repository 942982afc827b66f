-- A station takes a reply for its credential where that is noted. It serves `stations_are_noted`, clause `takes`.
use Rattle.std.proofs.Common.{◌≡◌, ℕ, ◌==◌, ◌&&◌, inl, inr, Bool, true, false, not, List, [], ◌∷◌, Option, Some, None, bytes_eq, refl, ap}
use Rattle.std.proofs.lemmas.Bool.{eq-eqb, eqb-true}
use Rattle.wire_base.specs.declared.authenticator.Authenticator.{Authenticator}
use Rattle.ntlm_flags.specs.Flags.{has_flag}
use Rattle.channel_keys.specs.Flags.{rc4_flag}
use Rattle.authenticators.specs.SecureChannels.{SecureChannelState, after_return, fresh_channel, is_awaited}
use Rattle.outside.specs.declared.action.DropCause.TheVariants as drop_cause
use Rattle.logon_stubs.specs.Status.{access_denied}
use Rattle.logon_stubs.specs.declared.calls.LogonReply.{LogonReply}
use Rattle.logon_stubs.specs.declared.calls.Reply.{Reply}
use Rattle.logon_stubs.specs.declared.calls.Reply.TheVariants as reply
use Rattle.logon_stubs.specs.declared.info.SamInfo.{SamInfo}
use Rattle.outside.specs.declared.action.CloseCause.TheVariants as close
use Rattle.channel_client.specs.Machine.{judge_auth, judge_awaited, judge_credential, judge_flags, judge_level, judge_logon, judge_return, judge_status, level_asked, offered_flags, server_credential}
use Rattle.channel_client.specs.declared.state.Standing.TheVariants as standing
use Rattle.interactive_station.specs.Replies.{Course, Grants, by_rules, end_course, logon_course, logs_off, logs_on, next_course, reply_course, returns_awaited}
use Rattle.interactive_station.specs.declared.outcome.StationOutcome.TheVariants.{BadPeer, Off, Refused}
use Rattle.interactive_station.specs.declared.plan.StationPlan.{StationPlan}
use Rattle.interactive_station.specs.declared.state.StationCall.{StationCall}
use Rattle.interactive_station.specs.declared.state.StationCall.TheVariants.{Authenticate, Challenge, Logoff, Logon}
use Rattle.step_notes.specs.StationNotes.{is_passing, reply_passes}
use Rattle.step_notes.specs.StationSteps.{ComesTo, StationsTakeAsNoted}

-- ---- what a reply comes to, by whether its credential is taken

module _ (controller : ℕ) (plan : StationPlan) (link now : ℕ) where
  module _ (client server : List ℕ) where
    abbrev opens_on : Course
    opens_on = next_course link [] plan (logs_on (fresh_channel plan.secret client server offered_flags) now)

    abbrev FitsOpening : Bool → Course → Type 0
    FitsOpening passed course = ComesTo passed controller plan (Authenticate client server) course

    by_flags : (fit : Bool) → FitsOpening (is_passing (judge_flags fit plan.secret client server)) (by_rules ((not fit, BadPeer drop_cause.BadReply) ∷ []) link opens_on)
    by_flags false = record { cause = drop_cause.BadReply; ends = refl }
    by_flags true = record { next = logs_on (fresh_channel plan.secret client server offered_flags) now; dials = refl; alike = refl; runs = refl }

    by_credential : (right : Bool) (flags : ℕ) →
        FitsOpening (is_passing (judge_credential right plan.secret client server flags))
        (by_rules ((not right, BadPeer drop_cause.NotNext) ∷ (not (has_flag offered_flags flags && has_flag flags rc4_flag), BadPeer drop_cause.BadReply) ∷ []) link opens_on)
    by_credential false flags = record { cause = drop_cause.NotNext; ends = refl }
    by_credential true flags = by_flags (has_flag offered_flags flags && has_flag flags rc4_flag)

    by_opening : (zero : Bool) (credential : List ℕ) (flags : ℕ) →
        FitsOpening (is_passing (judge_auth zero (standing.Half client server) plan.secret credential flags))
        (by_rules (
        (not zero, BadPeer drop_cause.Denied)
        ∷ (not (bytes_eq credential (server_credential plan.secret client server)), BadPeer drop_cause.NotNext)
        ∷ (not (has_flag offered_flags flags && has_flag flags rc4_flag), BadPeer drop_cause.BadReply) ∷ []
        ) link opens_on)
    by_opening false credential flags = record { cause = drop_cause.Denied; ends = refl }
    by_opening true credential flags = by_credential (bytes_eq credential (server_credential plan.secret client server)) flags

  module _ (o : SecureChannelState) (authenticator : Authenticator) where
    abbrev FitsLogon : Bool → Course → Type 0
    FitsLogon passed course = ComesTo passed controller plan (Logon o authenticator) course

    by_level : (asked : Bool) (info : Option SamInfo) →
        FitsLogon (is_passing (judge_level asked info (after_return true o))) (by_rules ((not asked, BadPeer drop_cause.BadReply) ∷ []) link (logon_course o info link plan now))
    by_level false info = record { cause = drop_cause.BadReply; ends = refl }
    by_level true None = record { cause = drop_cause.BadReply; ends = refl }
    by_level true (Some info) =
        inl (record { next = logs_off (after_return true o) now info.domain info.effective_name; dials = refl; alike = refl; runs = refl })

    by_status : (zero : Bool) (status level : ℕ) (info : Option SamInfo) →
        FitsLogon (is_passing (judge_status zero status level info (after_return true o)))
        (by_rules ((not zero, Refused status) ∷ (not (level == level_asked), BadPeer drop_cause.BadReply) ∷ []) link (logon_course o info link plan now))
    by_status false status level info = inr (record { status = status; ends = refl })
    by_status true status level info = by_level (level == level_asked) info

    by_awaited : (right : Bool) (status level : ℕ) (info : Option SamInfo) →
        FitsLogon (is_passing (judge_awaited right status level info o))
        (by_rules ((not right, BadPeer drop_cause.NotNext) ∷ (not (status == 0), Refused status) ∷ (not (level == level_asked), BadPeer drop_cause.BadReply) ∷ []) link (logon_course o info link plan now))
    by_awaited false status level info = record { cause = drop_cause.NotNext; ends = refl }
    by_awaited true status level info = by_status (status == 0) status level info

    by_return : (returned : Option Authenticator) (status level : ℕ) (info : Option SamInfo) →
        FitsLogon (is_passing (judge_return returned status level info o))
        (by_rules ((not (returns_awaited o returned), BadPeer drop_cause.NotNext) ∷ (not (status == 0), Refused status) ∷ (not (level == level_asked), BadPeer drop_cause.BadReply) ∷ []) link
        (logon_course o info link plan now))
    by_return None status level info = record { cause = drop_cause.NotNext; ends = refl }
    by_return (Some returned) status level info = by_awaited (is_awaited o.awaited returned.credential) status level info

    by_denial : (denied : Bool) (returned : Option Authenticator) (status level : ℕ) (info : Option SamInfo) →
        FitsLogon (is_passing (judge_logon denied (standing.Open o) returned status level info))
        (by_rules (
        (denied, BadPeer drop_cause.Denied)
        ∷ (not (returns_awaited o returned), BadPeer drop_cause.NotNext)
        ∷ (not (status == 0), Refused status)
        ∷ (not (level == level_asked), BadPeer drop_cause.BadReply) ∷ []
        ) link (logon_course o info link plan now))
    by_denial true returned status level info = record { cause = drop_cause.Denied; ends = refl }
    by_denial false returned status level info = by_return returned status level info

    by_logoff : (denied right zero : Bool) (status : ℕ) (domain user : List ℕ) →
        ComesTo (not denied && right) controller plan (Logoff o authenticator domain user)
        (by_rules (
        (denied, BadPeer drop_cause.Denied)
        ∷ (not right, BadPeer drop_cause.NotNext)
        ∷ (not zero, Refused status) ∷ []
        ) link (end_course close.CallDone link (Off domain user)))
    by_logoff true right zero status domain user = record { cause = drop_cause.Denied; ends = refl }
    by_logoff false false zero status domain user = record { cause = drop_cause.NotNext; ends = refl }
    by_logoff false true false status domain user = inr (record { status = status; ends = refl })
    by_logoff false true true status domain user = inl refl

  reply_comes : (c : StationCall) (r : Reply) → ComesTo (reply_passes c r plan.secret) controller plan c (reply_course c r link plan now)
  reply_comes (Challenge client) r = tt
  reply_comes (Authenticate client server) (reply.Authenticate r) = by_opening client server (r.status == 0) r.credential r.flags
  reply_comes (Authenticate client server) (reply.Challenge r) = record { cause = drop_cause.BadReply; ends = refl }
  reply_comes (Authenticate client server) (reply.Logon r) = record { cause = drop_cause.BadReply; ends = refl }
  reply_comes (Authenticate client server) (reply.Logoff r) = record { cause = drop_cause.BadReply; ends = refl }
  reply_comes (Logon o authenticator) (reply.Logon r) = by_denial o authenticator (r.status == access_denied) r.returned r.status r.level r.info
  reply_comes (Logon o authenticator) (reply.Challenge r) = record { cause = drop_cause.BadReply; ends = refl }
  reply_comes (Logon o authenticator) (reply.Authenticate r) = record { cause = drop_cause.BadReply; ends = refl }
  reply_comes (Logon o authenticator) (reply.Logoff r) = record { cause = drop_cause.BadReply; ends = refl }
  reply_comes (Logoff o authenticator domain user) (reply.Logoff r) =
      by_logoff o authenticator (r.status == access_denied) (returns_awaited o r.returned) (r.status == 0) r.status domain user
  reply_comes (Logoff o authenticator domain user) (reply.Challenge r) = record { cause = drop_cause.BadReply; ends = refl }
  reply_comes (Logoff o authenticator domain user) (reply.Authenticate r) = record { cause = drop_cause.BadReply; ends = refl }
  reply_comes (Logoff o authenticator domain user) (reply.Logon r) = record { cause = drop_cause.BadReply; ends = refl }

-- ---- a granted Logon is a taken reply of status 0

module _ (o : SecureChannelState) where
  level_passes : (asked : Bool) (info : Option SamInfo) (one : SamInfo) → asked ≡ true → info ≡ Some one → is_passing (judge_level asked info (after_return true o)) ≡ true
  level_passes true (Some other) one is there = refl
  level_passes true None one is there = absurd cc
  level_passes false info one is there = absurd cc

  status_passes : (zero : Bool) (status level : ℕ) (info : Option SamInfo) (one : SamInfo) → zero ≡ true → (level == level_asked) ≡ true → info ≡ Some one →
      is_passing (judge_status zero status level info (after_return true o)) ≡ true
  status_passes true status level info one is asked there = level_passes (level == level_asked) info one asked there
  status_passes false status level info one is asked there = refl

  awaited_passes : (right : Bool) (status level : ℕ) (info : Option SamInfo) (one : SamInfo) → right ≡ true → (status == 0) ≡ true → (level == level_asked) ≡ true → info ≡ Some one →
      is_passing (judge_awaited right status level info o) ≡ true
  awaited_passes true status level info one is zero asked there = status_passes (status == 0) status level info one zero asked there
  awaited_passes false status level info one is zero asked there = absurd cc

  return_passes : (returned : Option Authenticator) (status level : ℕ) (info : Option SamInfo) (one : SamInfo) → returns_awaited o returned ≡ true → (status == 0) ≡ true →
      (level == level_asked) ≡ true → info ≡ Some one → is_passing (judge_return returned status level info o) ≡ true
  return_passes (Some returned) status level info one is zero asked there = awaited_passes (is_awaited o.awaited returned.credential) status level info one is zero asked there
  return_passes None status level info one is zero asked there = absurd cc

  logon_passes : (denied : Bool) (returned : Option Authenticator) (status level : ℕ) (info : Option SamInfo) (one : SamInfo) → denied ≡ false → returns_awaited o returned ≡ true → (status == 0) ≡ true →
      (level == level_asked) ≡ true → info ≡ Some one → is_passing (judge_logon denied (standing.Open o) returned status level info) ≡ true
  logon_passes false returned status level info one is right zero asked there = return_passes returned status level info one right zero asked there
  logon_passes true returned status level info one is right zero asked there = absurd cc

  granted_passes : (r : LogonReply) (info : SamInfo) → Grants o r info → is_passing (judge_logon (r.status == access_denied) (standing.Open o) r.returned r.status r.level r.info) ≡ true
  granted_passes r info so =
      logon_passes (r.status == access_denied) r.returned r.status r.level r.info info (ap (λ (status : ℕ). status == access_denied) so.status) so.returned
      (eq-eqb r.status 0 so.status) (eq-eqb r.level level_asked so.level) so.info_is

  level_grants : (asked : Bool) (info : Option SamInfo) → is_passing (judge_level asked info (after_return true o)) ≡ true → (one : SamInfo) × (asked ≡ true) × (info ≡ Some one)
  level_grants true (Some info) is = (info, refl, refl)
  level_grants true None is = absurd cc
  level_grants false info is = absurd cc

  status_grants : (zero : Bool) (status level : ℕ) (info : Option SamInfo) → zero ≡ true → is_passing (judge_status zero status level info (after_return true o)) ≡ true →
      (one : SamInfo) × ((level == level_asked) ≡ true) × (info ≡ Some one)
  status_grants true status level info zero is = level_grants (level == level_asked) info is
  status_grants false status level info zero is = absurd cc

  awaited_grants : (right : Bool) (status level : ℕ) (info : Option SamInfo) → (status == 0) ≡ true → is_passing (judge_awaited right status level info o) ≡ true →
      (right ≡ true) × ((one : SamInfo) × ((level == level_asked) ≡ true) × (info ≡ Some one))
  awaited_grants true status level info zero is = (refl, status_grants (status == 0) status level info zero is)
  awaited_grants false status level info zero is = absurd cc

  return_grants : (returned : Option Authenticator) (status level : ℕ) (info : Option SamInfo) → (status == 0) ≡ true → is_passing (judge_return returned status level info o) ≡ true →
      (returns_awaited o returned ≡ true) × ((one : SamInfo) × ((level == level_asked) ≡ true) × (info ≡ Some one))
  return_grants (Some returned) status level info zero is = awaited_grants (is_awaited o.awaited returned.credential) status level info zero is
  return_grants None status level info zero is = absurd cc

  logon_grants : (denied : Bool) (returned : Option Authenticator) (status level : ℕ) (info : Option SamInfo) → (status == 0) ≡ true →
      is_passing (judge_logon denied (standing.Open o) returned status level info) ≡ true →
      (returns_awaited o returned ≡ true) × ((one : SamInfo) × ((level == level_asked) ≡ true) × (info ≡ Some one))
  logon_grants false returned status level info zero is = return_grants returned status level info zero is
  logon_grants true returned status level info zero is = absurd cc

  passes_grants : (r : LogonReply) → is_passing (judge_logon (r.status == access_denied) (standing.Open o) r.returned r.status r.level r.info) ≡ true → r.status ≡ 0 →
      (info : SamInfo) × Grants o r info
  passes_grants r is zero =
      let so : (returns_awaited o r.returned ≡ true) × ((one : SamInfo) × ((r.level == level_asked) ≡ true) × (r.info ≡ Some one)) =
      logon_grants (r.status == access_denied) r.returned r.status r.level r.info (eq-eqb r.status 0 zero) is in
      (so.1.0, record { status = zero; returned = so.0; level = eqb-true r.level level_asked so.1.1; info_is = so.1.2 })

pub stations_take : StationsTakeAsNoted
stations_take = record {
  comes = λ controller plan c r link now. reply_comes controller plan link now c r;
  granted = λ o authenticator r info secret so. granted_passes o r info so;
  grants = λ o authenticator r secret is zero. passes_grants o r is zero;
}
