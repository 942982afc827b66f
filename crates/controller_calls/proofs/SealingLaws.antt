-- The end behind a reply that is sealed. It serves `seal_stub`.
use Rattle.std.proofs.Common.{◌≡◌, ◌<◌, ◌^◌, ◌∙◌, ℕ, List, Option, None, refl, ap, sym}
use Rattle.rpc_units.specs.Writing.{IsInRange}
use Rattle.netlogon_seal.specs.Channels.{NlState}
use Rattle.channel_sealing.specs.Frames.{SealedFrames, end_after, seal_all}
use Rattle.channel_sealing.proofs.LastLaws.{ends_stand_at_the_last}
use Rattle.end_links.specs.Sending.{response_of}
use Rattle.controller_calls.specs.Seals.{reply_end, reply_frames}
use Rattle.controller_calls.specs.declared.line.Line.{Line}
use Rattle.controller_calls.specs.declared.seals.LinkSeal.{LinkSeal}

-- where the frames aren't all sealed, the end stands at its last number
pub ends_behind : (link : LinkSeal) (line : Line) (stub confounder : List ℕ) (seal : NlState) → IsInRange (response_of line.call line.context stub) → link.context < 2 ^ 32 →
    seal_all seal confounder (reply_frames link line stub) ≡ None →
    end_after seal confounder (reply_frames link line stub) ≡ reply_end (seal_all seal confounder (reply_frames link line stub)) seal
ends_behind link line stub confounder seal range small none =
    ends_stand_at_the_last.last seal confounder link.context link.receive (response_of line.call line.context stub) (record { stub = tt; first = refl; last = refl }) range small none
    ∙ ap (λ (found : Option SealedFrames). reply_end found seal) (sym none)
