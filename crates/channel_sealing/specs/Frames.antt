-- Frames that one end of a secure channel seals in their place (MS-NRPC 3.3.4.2, MS-RPCE 2.2.2.11). A frame is the
-- bytes of a request or response whose trailer's value, of 32 bytes, is the signature.
use Rattle.std.specs.Prelude.{ℕ, ◌≡◌, ◌+◌, ◌==◌, Bool, true, false, List, [], ◌∷◌, length, Option, Some, None, is_some, Result, Ok, Err}
use Rattle.netlogon_seal.specs.declared.refusal.NlRefused.{NlRefused}
use Rattle.netlogon_seal.specs.Channels.{NlState, Sealing, seal_of}
use Rattle.rpc_units.specs.Sealing.{sealed_of}

-- ---- the parts of a frame

-- the stub and its padding, from the first place to before the second, where the trailer's 8 bytes and a value of 32
-- follow to the end
abbrev pub range_if : Bool → ℕ × ℕ → Option (ℕ × ℕ)
range_if false range = None
range_if true range = Some range

abbrev pub range_by : Option (ℕ × ℕ) → List ℕ → Option (ℕ × ℕ)
range_by None frame = None
range_by (Some range) frame = range_if (range.1 + 40 == length frame) range

abbrev pub range_of : List ℕ → Option (ℕ × ℕ)
range_of frame = range_by (sealed_of frame) frame

-- ---- one frame

-- a frame, and the end after it
pub record SealedFrame : Type 0 where
  pub frame : List ℕ
  pub seal : NlState

abbrev pub frame_if : Bool → List ℕ → NlState → Option SealedFrame
frame_if true frame seal = Some (record { frame = frame; seal = seal })
frame_if false frame seal = None

abbrev pub frame_by : Result Unit NlRefused → List ℕ → NlState → Option SealedFrame
frame_by (Ok done) frame seal = Some (record { frame = frame; seal = seal })
frame_by (Err why) frame seal = None

abbrev pub frame_with : Sealing → Option SealedFrame
frame_with sealing = frame_by sealing.answer sealing.unit sealing.state

abbrev pub seal_in : Option (ℕ × ℕ) → NlState → List ℕ → List ℕ → Option SealedFrame
seal_in None seal confounder frame = None
seal_in (Some range) seal confounder frame = frame_with (seal_of seal frame range.0 range.1 confounder)

-- a frame with room for a signature at its end
abbrev pub HasRoom : List ℕ → Type 0
HasRoom frame = is_some (range_of frame) ≡ true

-- none where the frame has no such trailer, or the end refuses
abbrev pub seal_frame : NlState → List ℕ → List ℕ → Option SealedFrame
seal_frame seal confounder frame = seal_in (range_of frame) seal confounder frame

-- ---- all frames of a call, one after the other, with one confounder

pub record SealedFrames : Type 0 where
  pub frames : List (List ℕ)
  pub seal : NlState

abbrev pub behind : List ℕ → Option SealedFrames → Option SealedFrames
behind frame None = None
behind frame (Some later) = Some (record { frames = frame ∷ later.frames; seal = later.seal })

abbrev pub then_frames : Option SealedFrame → (NlState → Option SealedFrames) → Option SealedFrames
then_frames None next = None
then_frames (Some one) next = behind one.frame (next one.seal)

unfoldable pub seal_all : NlState → List ℕ → List (List ℕ) → Option SealedFrames
seal_all seal confounder [] = Some (record { frames = []; seal = seal })
seal_all seal confounder (frame ∷ frames) =
    then_frames (seal_frame seal confounder frame) (λ next. seal_all next confounder frames)

-- ---- the end behind them

-- a refusal leaves it, and nothing behind the frame that it refuses is sealed
abbrev pub end_by : Option SealedFrame → NlState → NlState
end_by None seal = seal
end_by (Some one) seal = one.seal

abbrev pub then_end : Option SealedFrame → NlState → (NlState → NlState) → NlState
then_end None seal next = seal
then_end (Some one) seal next = next one.seal

unfoldable pub end_after : NlState → List ℕ → List (List ℕ) → NlState
end_after seal confounder [] = seal
end_after seal confounder (frame ∷ frames) =
    then_end (seal_frame seal confounder frame) seal (λ next. end_after next confounder frames)
