-- What goes out for a logon from a sealed link that was asked of another controller, and under which number a reply is
-- sealed (MS-NRPC 3.3.4.2.1; that a reply goes out on a channel that stands alone is this project's own choice).
use Rattle.std.specs.Prelude.{ℕ, ◌≡◌, true, false, List, [], ◌∷◌, ◌++◌, Some, None, slice_get}
use Rattle.wire_base.specs.Maps.{lookup}
use Rattle.outside.specs.declared.action.Action.TheVariants as action
use Rattle.outside.specs.declared.action.Judged.TheVariants as judged
use Rattle.logon_stubs.specs.Writing.{written_reply}
use Rattle.logon_stubs.specs.declared.info.Verdict.{Verdict}
use Rattle.channel_client.specs.State.{Requester}
use Rattle.channel_turns.specs.Turning.{Turned}
use Rattle.channel_turns.specs.declared.state.Turning.{Turning}
use Rattle.controller_calls.specs.Forwarded.{ForwardedState}
use Rattle.controller_calls.specs.Handing.{forwarded_reply}
use Rattle.controller_calls.specs.Logons.{status_of}
use Rattle.controller_calls.specs.Seals.{seal_found, seal_reply, stands}
use Rattle.controller_calls.specs.declared.line.Line.{Line}
use Rattle.controller_calls.specs.declared.seals.ChannelSeals.{ChannelSeals}
use Rattle.controller_calls.specs.declared.seals.KeptSeal.{KeptSeal}
use Rattle.controller_calls.specs.declared.seals.ReplySeal.{ReplySeal}
use Rattle.domain_controller.specs.Forwarding.{answer_place}
use Rattle.domain_controller.specs.SealServing.{wait_sealed}
use Rattle.domain_controller.specs.SealStep.{end_verdict, seal_on_turn}
use Rattle.domain_controller.specs.Sealing.{without_asked}
use Rattle.domain_controller.specs.TrustStep.{on_turn, turning_of}
use Rattle.domain_controller.specs.Trusting.{same_place}
use Rattle.domain_controller.specs.declared.sealed.SealedCall.{SealedCall}
use Rattle.domain_controller.specs.declared.sealed.Sealing.{Sealing}
use Rattle.domain_controller.specs.declared.state.Talk.{Talk}
use Rattle.domain_controller.specs.declared.trusting.Parts.{Parts}
use Rattle.domain_controller.specs.declared.trusting.TrustWork.{TrustWork}

-- A turn of a trust ends with a verdict, for a logon from a sealed link.
pub record EndsFor (happens : Turning → Turned) (parts : Parts) (s : Sealing) : Type 0 where
  pub channel : Requester
  pub at : slice_get parts.work.queues.requesters parts.turn_of ≡ Some channel
  pub place : ℕ
  pub verdict : Verdict
  pub ends : end_verdict (happens (turning_of channel parts)).1 ≡ Some (place, verdict)
  pub call : SealedCall
  pub asked : lookup same_place (parts.turn_of, place) s.asked ≡ Some call

-- A logon from a sealed link that was asked of another controller is told to be answered as one from any other link,
-- and its reply goes out, sealed, only where its link is open and its channel stands.
pub record RepliesWhereItStands : Type 0 where
  -- a logon from a sealed link waits without a line
  pub waits : (place trust : ℕ) (f : ForwardedState) (reply : ReplySeal) (line : Line) (requesters : List Requester) (w : TrustWork) (s : Sealing) (talk : Talk) →
      f.line ≡ Some line →
      (wait_sealed place trust f reply line requesters w s talk).0.0.queues.forwarded
      ≡ w.queues.forwarded ++ ((trust, place), record f { line = None }) ∷ []
  -- of one that waits so its verdict is told, and nothing is sent in the clear
  pub told : (place : ℕ × ℕ) (verdict : Verdict) (w : TrustWork) (f : ForwardedState) → lookup same_place place w.queues.forwarded ≡ Some f → f.line ≡ None →
      (answer_place place verdict w).work.actions ≡ w.work.actions ++ action.Judged (judged.Answered (status_of verdict)) ∷ []
  -- nothing else is done of one whose channel was replaced, or whose link has closed
  pub replaced : (happens : Turning → Turned) (parts : Parts) (s : Sealing) (is : EndsFor happens parts s) → stands is.call.reply.link s.seals ≡ false →
      seal_on_turn happens parts s ≡ (on_turn happens parts, without_asked (parts.turn_of, is.place) s)
  pub closed : (happens : Turning → Turned) (parts : Parts) (s : Sealing) (is : EndsFor happens parts s) → is.call.call.line ≡ None →
      seal_on_turn happens parts s ≡ (on_turn happens parts, without_asked (parts.turn_of, is.place) s)
  -- where the link is open and the channel stands, the sealed reply stands behind what the turn did
  pub stood : (happens : Turning → Turned) (parts : Parts) (s : Sealing) (is : EndsFor happens parts s) (line : Line) (bytes : List ℕ) →
      is.call.call.line ≡ Some line → stands is.call.reply.link s.seals ≡ true →
      (seal_reply is.call.reply line (written_reply (forwarded_reply is.call.call is.verdict)) s.seals).bytes ≡ Some bytes →
      (seal_on_turn happens parts s).0.work.work.actions ≡ (on_turn happens parts).work.work.actions ++ action.Send line.link bytes ∷ []

-- the end of a channel, had it opened another number of units
abbrev pub having_received : (number : ℕ) → KeptSeal → KeptSeal
having_received number kept = record kept { seal = record kept.seal { received = number } }

-- The bytes of a sealed reply don't depend on how many units were received.
pub record SealsBySent : Type 0 where
  pub sent : (reply : ReplySeal) (line : Line) (stub : List ℕ) (seals : ChannelSeals) (kept : KeptSeal) (number : ℕ) →
      (seal_found (Some (having_received number kept)) reply line stub seals).bytes ≡ (seal_found (Some kept) reply line stub seals).bytes
