-- Which status controllers tell of calls on secure channels that passed: of network logons, interactive ones, logoffs
-- and changes of secrets (MS-NRPC 3.5.4.4.6, 3.5.4.5.3, 3.5.4.5.4; what is claimed is this project's own choice).
use Rattle.std.specs.Prelude.{ℕ, ◌≡◌, ◌⊎◌, ◌||◌, true, Some}
use Rattle.std.specs.List.{AllByRecursion}
use Rattle.account_table.specs.LookUps.{route_in}
use Rattle.account_table.specs.declared.table.Route.TheVariants as route
use Rattle.authenticators.specs.SecureChannels.{SecureChannelState}
use Rattle.controller_calls.specs.Calls.{asked_of}
use Rattle.controller_calls.specs.Handing.{hands_on}
use Rattle.controller_calls.specs.Logons.{serves_level}
use Rattle.controller_calls.specs.declared.calls.Asked.TheVariants as asked
use Rattle.logon_stubs.specs.Status.{no_logon_servers}
use Rattle.logon_stubs.specs.declared.info.NetworkInfo.{NetworkInfo}
use Rattle.outside.specs.declared.action.Judged.TheVariants as judged
use Rattle.step_notes.specs.ControllerNotes.{has_passed}
use Rattle.step_notes.specs.Records.{Judging}
use Rattle.step_notes.specs.ReplySends.{done_on}
use Rattle.world_moves.specs.declared.plan.Plan.{Plan}
use Rattle.domain_world.specs.Past.{Past}

-- where the call passed, it was told with the status of what it comes to on the channel that it is checked on, by the
-- accounts and the sessions as they stood before it
abbrev pub TellsItsStatus : Judging → Type 0
TellsItsStatus j = (channel : SecureChannelState) → j.checks ≡ Some channel → has_passed j.how ≡ true → j.how ≡ Some (judged.Passed (done_on j channel).status)

-- The call is a network logon for which another controller is asked where it passes on that channel: controllers of the
-- plan hand logons on, the channel is of a type that does, the level is one that is served, and the domain is one that
-- the controller's table trusts.
pub record IsForTrusted (plan : Plan) (j : Judging) (channel : SecureChannelState) : Type 0 where
  pub hands : (plan.seals || plan.hands_on) ≡ true
  pub kind : hands_on channel.kind ≡ true
  pub info : NetworkInfo
  pub validation : ℕ
  pub asks : asked_of j.asked ≡ asked.Network info validation
  pub level : serves_level validation ≡ true
  pub trust : ℕ
  pub routed : route_in j.table info.domain ≡ route.Trust trust

-- How a call is told that passed on that channel: with the status of what it comes to there. A logon for a trusted
-- domain is told as handed on, or, where as many wait there as may, or it is too long, as passed with NO_LOGON_SERVERS.
pub record IsToldAs (plan : Plan) (j : Judging) (channel : SecureChannelState) : Type 0 where
  pub here : (IsForTrusted plan j channel → ⊥) → j.how ≡ Some (judged.Passed (done_on j channel).status)
  pub elsewhere : IsForTrusted plan j channel → (j.how ≡ Some judged.Forwarded) ⊎ (j.how ≡ Some (judged.Passed no_logon_servers))

abbrev pub IsToldRightly : Plan → Judging → Type 0
IsToldRightly plan j = (channel : SecureChannelState) → j.checks ≡ Some channel → has_passed j.how ≡ true → IsToldAs plan j channel

-- each call that is written down as judged was told as `IsToldAs` says, where it passed
abbrev pub StatusesAreTold : Past → Type 0
StatusesAreTold past = AllByRecursion (IsToldRightly past.plan) past.book.judged
