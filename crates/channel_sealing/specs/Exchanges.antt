-- What the other end makes of frames that one end sealed (MS-NRPC 3.3.4.2): it cuts the stream into them, opens each in
-- its place, and hears the call that was sealed. It is this project's own way to say that a sealed call arrives.
use Rattle.std.specs.Prelude.{ℕ, ◌≡◌, ◌+◌, ◌≤◌, ◌<◌, ◌^◌, List, [], ◌∷◌, length, map, Option, Some, None, Ok}
use Rattle.rpc_units.specs.declared.unit.Unit.{Unit as RpcUnit}
use Rattle.rpc_units.specs.Joining.{AddsTo, IsWholeCall, stub_of}
use Rattle.rpc_units.specs.Reading.{unit_of}
use Rattle.rpc_units.specs.Stream.{cut_stream}
use Rattle.rpc_units.specs.Writing.{IsInRange, written}
use Rattle.netlogon_seal.specs.Channels.{NlState, Opening, last_number, open_of}
use Rattle.netlogon_seal.specs.Runs.{Follows}
use Rattle.end_links.specs.Sending.{frames_of, joined_frames}
use Rattle.channel_sealing.specs.Frames.{SealedFrame, SealedFrames, behind, end_after, frame_by, range_of, seal_all}
use Rattle.channel_sealing.specs.Trailers.{sealed_limit, with_room}

-- ---- frames that are opened in their place, one after the other

abbrev pub opened_with : Opening → Option SealedFrame
opened_with opening = frame_by opening.answer opening.unit opening.state

abbrev pub open_in : Option (ℕ × ℕ) → NlState → List ℕ → Option SealedFrame
open_in None seal frame = None
open_in (Some range) seal frame = opened_with (open_of seal frame range.0 range.1)

-- none where the frame has no signature at its end, or the end refuses
abbrev pub open_frame : NlState → List ℕ → Option SealedFrame
open_frame seal frame = open_in (range_of frame) seal frame

abbrev pub then_opened : Option SealedFrame → (NlState → Option SealedFrames) → Option SealedFrames
then_opened None next = None
then_opened (Some one) next = behind one.frame (next one.seal)

unfoldable pub open_frames : NlState → List (List ℕ) → Option SealedFrames
open_frames seal [] = Some (record { frames = []; seal = seal })
open_frames seal (frame ∷ frames) = then_opened (open_frame seal frame) (λ next. open_frames next frames)

-- ---- a call arrives

-- One end seals the frames of a call. The stream of them is cut into them, the other end opens each, what is opened is
-- read, and joined it is the call, but for its trailer; and the other end opens next what the one seals next.
pub record IsCarried (one other : NlState) (confounder : List ℕ) (frames : List (List ℕ)) (call : RpcUnit) : Type 0 where
  pub sealed : SealedFrames
  pub seals : seal_all one confounder frames ≡ Some sealed
  pub stream : cut_stream (joined_frames sealed.frames) ≡ record { units = sealed.frames; rest = []; refused = None }
  pub units : List RpcUnit
  pub left : NlState
  pub opens : open_frames other sealed.frames ≡ Some (record { frames = map written units; seal = left })
  pub read : map unit_of (map written units) ≡ map (λ unit. Ok unit) units
  pub heard : RpcUnit
  pub joined : AddsTo None units heard
  pub same : record heard { trailer = call.trailer } ≡ call
  pub follows : Follows sealed.seal left

-- Of a whole call or reply whose numbers have their widths, of at most 65,536 stub bytes, and for ends that have
-- numbers left for its frames.
pub record SealedCallsArrive : Type 0 where
  pub arrives : (one other : NlState) (confounder : List ℕ) (context receive : ℕ) (call : RpcUnit) → Follows one other → length confounder ≡ 8 →
      IsWholeCall call → IsInRange call → context < 2 ^ 32 → length (stub_of call.body) ≤ 65536 →
      one.sent + length (frames_of (with_room context call) (sealed_limit receive)) < 2 ^ 32 →
      IsCarried one other confounder (frames_of (with_room context call) (sealed_limit receive)) call

-- ---- an end whose numbers are used up

-- Where the frames of a whole call or reply, whose numbers have their widths, aren't all sealed, the end has used up
-- its numbers: it stands at the last.
pub record EndsStandAtTheLast : Type 0 where
  pub last : (seal : NlState) (confounder : List ℕ) (context receive : ℕ) (call : RpcUnit) → IsWholeCall call → IsInRange call → context < 2 ^ 32 →
      seal_all seal confounder (frames_of (with_room context call) (sealed_limit receive)) ≡ None →
      end_after seal confounder (frames_of (with_room context call) (sealed_limit receive)) ≡ record seal { sent = last_number }
