-- What a controller does where a channel's end has used up its numbers (this project's own choice): what it does where
-- that end refuses a unit.
use Rattle.std.specs.Prelude.{ℕ, ◌≡◌, ◌+◌, ◌<◌, ◌≤◌, ◌^◌, true, List, length, Some, None, Ok}
use Rattle.wire_base.specs.Maps.{lookup}
use Rattle.wire_base.specs.Names.{same_name}
use Rattle.outside.specs.declared.action.Action.TheVariants as action
use Rattle.outside.specs.declared.action.CloseCause.TheVariants as close
use Rattle.logon_stubs.specs.Writing.{written_reply}
use Rattle.logon_stubs.specs.declared.info.Verdict.{Verdict}
use Rattle.rpc_units.specs.Reading.{unit_of}
use Rattle.rpc_units.specs.Writing.{IsInRange}
use Rattle.rpc_units.specs.declared.unit.Body.TheVariants.{Request}
use Rattle.rpc_units.specs.declared.unit.Unit.{Unit as RpcUnit}
use Rattle.netlogon_seal.specs.Channels.{last_number}
use Rattle.end_links.specs.Sending.{response_of}
use Rattle.controller_calls.specs.Handing.{forwarded_reply}
use Rattle.controller_calls.specs.Seals.{reply_frames}
use Rattle.controller_calls.specs.declared.line.Line.{Line}
use Rattle.controller_calls.specs.declared.seals.ChannelSeals.{ChannelSeals}
use Rattle.controller_calls.specs.declared.seals.KeptSeal.{KeptSeal}
use Rattle.controller_calls.specs.declared.seals.LinkSeal.{LinkSeal}
use Rattle.controller_calls.specs.declared.seals.ReplySeal.{ReplySeal}
use Rattle.domain_controller.specs.Forwarding.{told}
use Rattle.domain_controller.specs.SealHearing.{seal_hear}
use Rattle.domain_controller.specs.SealServing.{answer_standing, reply_sealed}
use Rattle.domain_controller.specs.declared.hearing.Heard.TheVariants as heard
use Rattle.domain_controller.specs.declared.sealed.SealedCall.{SealedCall}
use Rattle.domain_controller.specs.declared.sealed.Sealing.{Sealing}
use Rattle.domain_controller.specs.declared.state.Talk.{Talk}
use Rattle.domain_controller.specs.declared.trusting.TrustWork.{TrustWork}

-- the channel's end of that computer
abbrev pub IsEndOf : (computer : List ℕ) (kept : KeptSeal) (seals : ChannelSeals) → Type 0
IsEndOf computer kept seals = lookup same_name computer seals.kept ≡ Some kept

-- the numbers that are left aren't enough for the frames of that reply, whose call and contexts have their widths
abbrev pub AreUsedUp : KeptSeal → ReplySeal → Line → (stub : List ℕ) → Type 0
AreUsedUp kept reply line stub = last_number < kept.seal.sent + length (reply_frames reply.link line stub)

abbrev pub AreLeft : KeptSeal → ReplySeal → Line → (stub : List ℕ) → Type 0
AreLeft kept reply line stub = kept.seal.sent + length (reply_frames reply.link line stub) ≤ last_number

pub record HasWidths (reply : ReplySeal) (line : Line) (stub : List ℕ) : Type 0 where
  pub response : IsInRange (response_of line.call line.context stub)
  pub context : reply.link.context < 2 ^ 32

-- A link is closed for BadAuthentication, and nothing is sent, where a request comes on it and as many were opened as
-- there are numbers; and where a reply has more frames than numbers are left. Where numbers are left for them it goes
-- out.
pub record SpentClosesLinks : Type 0 where
  pub request : (number : ℕ) (bytes : List ℕ) (unit : RpcUnit) (hint context opnum : ℕ) (stub : List ℕ) (talk : Talk) (link : LinkSeal) (seals : ChannelSeals) (kept : KeptSeal) →
      unit_of bytes ≡ Ok unit → unit.body ≡ Request hint context opnum stub → IsEndOf link.computer kept seals → kept.seal.received ≡ last_number →
      (seal_hear number bytes talk (Some link) seals).heard ≡ heard.Close close.BadAuthentication
  -- the reply to a call that was judged
  pub reply : (reply : ReplySeal) (line : Line) (stub : List ℕ) (w : TrustWork) (s : Sealing) (talk : Talk) (kept : KeptSeal) →
      IsEndOf reply.link.computer kept s.seals → kept.seal.sent ≤ last_number → AreUsedUp kept reply line stub →
      ((reply_sealed reply line stub w s talk).0.0 ≡ told (action.Close line.link close.BadAuthentication) w) × ((reply_sealed reply line stub w s talk).1 ≡ None)
  pub goes : (reply : ReplySeal) (line : Line) (stub : List ℕ) (w : TrustWork) (s : Sealing) (talk : Talk) (kept : KeptSeal) →
      IsEndOf reply.link.computer kept s.seals → HasWidths reply line stub → AreLeft kept reply line stub →
      (bytes : List ℕ) × ((reply_sealed reply line stub w s talk).0.0 ≡ told (action.Send line.link bytes) w) × ((reply_sealed reply line stub w s talk).1 ≡ Some talk)
  -- the reply to a logon that another controller answered, on a channel that stands
  pub answer : (c : SealedCall) (line : Line) (verdict : Verdict) (w : TrustWork) (s : Sealing) (kept : KeptSeal) →
      IsEndOf c.reply.link.computer kept s.seals → kept.seal.sent ≤ last_number → AreUsedUp kept c.reply line (written_reply (forwarded_reply c.call verdict)) →
      ((answer_standing true c line verdict w s).0.0 ≡ told (action.Close line.link close.BadAuthentication) w) × ((answer_standing true c line verdict w s).1 ≡ Some line.link)
