-- Frames that are sealed one after the other, and how long they are.
use Rattle.std.proofs.Common.{◌≡◌, ◌≤◌, ◌<◌, ◌+◌, ◌*◌, ℕ, zero, suc, Bool, true, false, List, [], ◌∷◌, ◌++◌, length, take, drop, get_or, Option, Some, None, inl, inr, refl, sym, ap, ap₂, ◌∙◌, append_assoc, append-nil, arith, length-append, length-take, length-drop}
use Rattle.std.proofs.lemmas.Bool.{cases_lt}
use Rattle.std.proofs.lemmas.List.{drop_all, drop_at, drop_more, take_all, take_at, take-append-drop}
use Rattle.std.specs.List.{flat_map}
use Rattle.std.specs.Int.{w32, to_le_bytes}
use Rattle.netlogon_seal.specs.Channels.{NlState, seal_by, seal_of}
use Rattle.rpc_units.specs.declared.unit.Body.{Body}
use Rattle.rpc_units.specs.declared.unit.Body.TheVariants.{Bind, BindAck, BindNak, Auth3, Request, Response, Fault}
use Rattle.rpc_units.specs.declared.unit.Trailer.{Trailer}
use Rattle.rpc_units.specs.declared.unit.Unit.{Unit as RpcUnit}
use Rattle.rpc_units.specs.Joining.{HasStub, cut_of, fragment, fragments_of, stub_of, stub_size, with_stub}
use Rattle.rpc_units.specs.Writing.{pad_for, value_len, written, written_body, written_tail, zeros}
use Rattle.rpc_units.proofs.CuttingLaws.{fragments_end, fragments_more}
use Rattle.rpc_units.proofs.WritingLaws.{length_written, length_zeros}
use Rattle.end_links.specs.Sending.{frames_of, joined_frames}
use Rattle.end_links.proofs.BoundLaws.{frames_joined}
use Rattle.channel_sealing.specs.Frames.{SealedFrame, SealedFrames, behind, end_after, end_by, frame_if, frame_with, seal_all, seal_frame, then_end, then_frames}

-- ---- one after the other

-- frames that are done stand in front of what comes of the others
abbrev pub behind_all : List (List ℕ) → Option SealedFrames → Option SealedFrames
behind_all frames None = None
behind_all frames (Some later) = Some (record { frames = frames ++ later.frames; seal = later.seal })

behind_more : (frames : List (List ℕ)) (frame : List ℕ) (later : Option SealedFrames) → behind_all frames (behind frame later) ≡ behind_all (frames ++ frame ∷ []) later
behind_more frames frame None = refl
behind_more frames frame (Some later) =
    ap (λ (all : List (List ℕ)). Some (record { frames = all; seal = later.seal })) (sym (append_assoc frames (frame ∷ []) later.frames))

-- one frame more is done
pub seal_more : (front rest : List (List ℕ)) (seal next : NlState) (confounder frame done : List ℕ) → seal_frame seal confounder frame ≡ frame_if true done next →
    behind_all front (seal_all seal confounder (frame ∷ rest)) ≡ behind_all (front ++ done ∷ []) (seal_all next confounder rest)
unfolding seal_all
seal_more front rest seal next confounder frame done is =
    ap (λ (one : Option SealedFrame). behind_all front (then_frames one (λ later. seal_all later confounder rest))) is
    ∙ behind_more front done (seal_all next confounder rest)

-- the end refuses one
pub seal_stops : (front rest : List (List ℕ)) (seal next : NlState) (confounder frame done : List ℕ) → seal_frame seal confounder frame ≡ frame_if false done next →
    behind_all front (seal_all seal confounder (frame ∷ rest)) ≡ None
unfolding seal_all
seal_stops front rest seal next confounder frame done is =
    ap (λ (one : Option SealedFrame). behind_all front (then_frames one (λ later. seal_all later confounder rest))) is

-- all are done
pub seal_ends : (front : List (List ℕ)) (seal : NlState) (confounder : List ℕ) → behind_all front (seal_all seal confounder []) ≡ Some (record { frames = front; seal = seal })
unfolding seal_all
seal_ends front seal confounder = ap (λ (all : List (List ℕ)). Some (record { frames = all; seal = seal })) (append-nil front)

pub behind_none : (later : Option SealedFrames) → behind_all [] later ≡ later
behind_none None = refl
behind_none (Some later) = refl

-- ---- the end behind them

refused_by : (spent : Bool) (seal : NlState) (frame : List ℕ) (from to : ℕ) (confounder : List ℕ) →
    end_by (frame_with (seal_by spent seal frame from to confounder)) seal ≡ (seal_by spent seal frame from to confounder).state
refused_by true seal frame from to confounder = refl
refused_by false seal frame from to confounder = refl

-- an end that refuses stays
pub refused_stays : (seal : NlState) (frame : List ℕ) (from to : ℕ) (confounder : List ℕ) →
    end_by (frame_with (seal_of seal frame from to confounder)) seal ≡ (seal_of seal frame from to confounder).state
refused_stays seal frame from to confounder = refused_by _ seal frame from to confounder

end_more : (rest : List (List ℕ)) (seal next : NlState) (confounder frame done : List ℕ) → seal_frame seal confounder frame ≡ frame_if true done next →
    end_after seal confounder (frame ∷ rest) ≡ end_after next confounder rest
unfolding end_after
end_more rest seal next confounder frame done is =
    ap (λ (one : Option SealedFrame). then_end one seal (λ later. end_after later confounder rest)) is

end_stops : (rest : List (List ℕ)) (seal next : NlState) (confounder frame done : List ℕ) → seal_frame seal confounder frame ≡ frame_if false done next →
    end_after seal confounder (frame ∷ rest) ≡ seal
unfolding end_after
end_stops rest seal next confounder frame done is =
    ap (λ (one : Option SealedFrame). then_end one seal (λ later. end_after later confounder rest)) is

end_none : (seal : NlState) (confounder : List ℕ) → end_after seal confounder [] ≡ seal
unfolding end_after
end_none seal confounder = refl

-- ---- how long they are: a fragment has a header of 16 bytes, 8 of its body before the stub, at most 3 of padding, 8
-- of a trailer before its value, and 32 of that

body_size : (body : Body) (stub : List ℕ) → HasStub body → length (written_body (with_stub body stub)) ≡ 8 + length stub
unfolding zeros
body_size (Request hint context opnum stub) s h = omega arith
body_size (Response hint context stub) s h = omega arith
body_size (Bind send receive group contexts) s h = absurd h
body_size (BindAck send receive group results) s h = absurd h
body_size (BindNak reason) s h = absurd h
body_size Auth3 s h = absurd h
body_size (Fault hint context status) s h = absurd h

tail_size : (count : ℕ) (trailer : Option Trailer) → length (written_tail count trailer) ≤ 11 + value_len trailer
tail_size count None = omega arith
tail_size count (Some trailer) =
    omega (arith, length-append (zeros (pad_for count)) ((trailer.kind ∷ trailer.level ∷ pad_for count ∷ 0 ∷ []) ++ (to_le_bytes w32 trailer.context ++ trailer.value)), length_zeros (pad_for count))

fragment_size : (unit : RpcUnit) (first last : Bool) (stub : List ℕ) → HasStub unit.body → value_len unit.trailer ≡ 32 →
    length (written (fragment unit first last stub)) ≤ length stub + 67
fragment_size unit first last stub h room =
    let body = written_body (with_stub unit.body stub) in
    omega (arith, body_size unit.body stub h, length_written (fragment unit first last stub), length-append body (written_tail (length body) unit.trailer), tail_size (length body) unit.trailer, room)

one_size : (unit : RpcUnit) (first : Bool) (stub : List ℕ) → HasStub unit.body → value_len unit.trailer ≡ 32 →
    20 * length (flat_map written (fragment unit first true stub ∷ [])) ≤ 21 * length stub + 20 * 67
one_size unit first stub h room = omega (arith, length-append (written (fragment unit first true stub)) [], fragment_size unit first true stub h room)

fragments_size : (most : ℕ) (unit : RpcUnit) (size : ℕ) (first : Bool) (stub : List ℕ) → HasStub unit.body → 20 * 67 ≤ size → value_len unit.trailer ≡ 32 →
    20 * length (flat_map written (fragments_of most unit size first stub)) ≤ 21 * length stub + 20 * 67
fragments_size zero unit size first stub h large room = one_size unit first stub h room
fragments_size (suc most) unit size first stub h large room =
    elim (cases_lt size (length stub)) [
      | inl long ↦
          let one = fragment unit first false (take size stub) in
          let more = fragments_of most unit size false (drop size stub) in
          rw (fragments_more most unit size first stub long) (omega (
            arith,
            length-append (written one) (flat_map written more),
            fragment_size unit first false (take size stub) h room,
            fragments_size most unit size false (drop size stub) h large room,
            length-take size stub,
            length-drop size stub,
          ))
      | inr short ↦ rw (fragments_end (suc most) unit size first stub short) (one_size unit first stub h room)
    ]

pub room_short : (call : RpcUnit) (limit : ℕ) → HasStub call.body → 1432 ≤ limit → value_len call.trailer ≡ 32 →
    20 * length (joined_frames (frames_of call limit)) ≤ 21 * length (stub_of call.body) + 20 * 67
unfolding cut_of
room_short call limit h least room =
    rw (frames_joined call limit) (fragments_size (length (stub_of call.body)) call (stub_size limit) true (stub_of call.body) h (omega arith) room)

-- ---- one frame of a list is sealed

-- the list afterwards: the front as it was, the frame that is done, and the rest as it was
abbrev pub IsDone : List (List ℕ) → List (List ℕ) → ℕ → List ℕ → Type 0
IsDone old new at done = new ≡ take at old ++ done ∷ drop (at + 1) old

front_done : (old new : List (List ℕ)) (at : ℕ) (done : List ℕ) → at < length old → IsDone old new at done →
    (take (at + 1) new ≡ take at old ++ done ∷ []) × (drop (at + 1) new ≡ drop (at + 1) old)
front_done old new at done within is =
    let front : List (List ℕ) = take at old ++ done ∷ [] in
    let whole : new ≡ front ++ drop (at + 1) old = is ∙ sym (append_assoc (take at old) (done ∷ []) (drop (at + 1) old)) in
    let size : length front ≡ at + 1 = omega (arith, length-append (take at old) (done ∷ []), length-take at old, within) in (
      ap (λ (l : List (List ℕ)). take (at + 1) l) whole ∙ take_at front (drop (at + 1) old) (at + 1) size,
      ap (λ (l : List (List ℕ)). drop (at + 1) l) whole ∙ drop_at front (drop (at + 1) old) (at + 1) size,
    )

pub walk_more : (old new : List (List ℕ)) (at : ℕ) (seal next : NlState) (confounder done : List ℕ) → at < length old → IsDone old new at done →
    seal_frame seal confounder (get_or old at []) ≡ frame_if true done next →
    behind_all (take (at + 1) new) (seal_all next confounder (drop (at + 1) new)) ≡ behind_all (take at old) (seal_all seal confounder (drop at old))
walk_more old new at seal next confounder done within is sealed =
    let both = front_done old new at done within is in
    ap₂ (λ (front rest : List (List ℕ)). behind_all front (seal_all next confounder rest)) both.0 both.1
    ∙ sym (seal_more (take at old) (drop (at + 1) old) seal next confounder (get_or old at []) done sealed)
    ∙ ap (λ (rest : List (List ℕ)). behind_all (take at old) (seal_all seal confounder rest)) (sym (drop_more old at [] within))

pub walk_stops : (old : List (List ℕ)) (at : ℕ) (seal next : NlState) (confounder done : List ℕ) → at < length old →
    seal_frame seal confounder (get_or old at []) ≡ frame_if false done next →
    behind_all (take at old) (seal_all seal confounder (drop at old)) ≡ None
walk_stops old at seal next confounder done within refused =
    ap (λ (rest : List (List ℕ)). behind_all (take at old) (seal_all seal confounder rest)) (drop_more old at [] within)
    ∙ seal_stops (take at old) (drop (at + 1) old) seal next confounder (get_or old at []) done refused

pub walk_ends : (all : List (List ℕ)) (at : ℕ) (seal : NlState) (confounder : List ℕ) → length all ≤ at →
    behind_all (take at all) (seal_all seal confounder (drop at all)) ≡ Some (record { frames = all; seal = seal })
walk_ends all at seal confounder past =
    ap₂ (λ (front rest : List (List ℕ)). behind_all front (seal_all seal confounder rest)) (take_all at all past) (drop_all at all past)
    ∙ seal_ends all seal confounder

pub walk_end_more : (old new : List (List ℕ)) (at : ℕ) (seal next : NlState) (confounder done : List ℕ) → at < length old → IsDone old new at done →
    seal_frame seal confounder (get_or old at []) ≡ frame_if true done next →
    end_after next confounder (drop (at + 1) new) ≡ end_after seal confounder (drop at old)
walk_end_more old new at seal next confounder done within is sealed =
    ap (λ (rest : List (List ℕ)). end_after next confounder rest) (front_done old new at done within is).1
    ∙ sym (end_more (drop (at + 1) old) seal next confounder (get_or old at []) done sealed)
    ∙ ap (λ (rest : List (List ℕ)). end_after seal confounder rest) (sym (drop_more old at [] within))

pub walk_end_stops : (old : List (List ℕ)) (at : ℕ) (seal next after : NlState) (confounder done : List ℕ) → at < length old →
    seal_frame seal confounder (get_or old at []) ≡ frame_if false done next →
    after ≡ end_by (seal_frame seal confounder (get_or old at [])) seal → after ≡ end_after seal confounder (drop at old)
walk_end_stops old at seal next after confounder done within refused stays =
    stays
    ∙ ap (λ (one : Option SealedFrame). end_by one seal) refused
    ∙ sym (end_stops (drop (at + 1) old) seal next confounder (get_or old at []) done refused)
    ∙ ap (λ (rest : List (List ℕ)). end_after seal confounder rest) (sym (drop_more old at [] within))

pub walk_end_ends : (all : List (List ℕ)) (at : ℕ) (seal : NlState) (confounder : List ℕ) → length all ≤ at → end_after seal confounder (drop at all) ≡ seal
walk_end_ends all at seal confounder past =
    ap (λ (rest : List (List ℕ)). end_after seal confounder rest) (drop_all at all past) ∙ end_none seal confounder

joined_more : (xs ys : List (List ℕ)) → length (joined_frames (xs ++ ys)) ≡ length (joined_frames xs) + length (joined_frames ys)
joined_more [] ys = omega arith
joined_more (x ∷ xs) ys = omega (arith, length-append x (joined_frames (xs ++ ys)), length-append x (joined_frames xs), joined_more xs ys)

joined_one : (x : List ℕ) (xs : List (List ℕ)) → length (joined_frames (x ∷ xs)) ≡ length x + length (joined_frames xs)
joined_one x xs = length-append x (joined_frames xs)

-- one more frame that is sealed leaves as many bytes, and as many frames, as there were
pub walk_size : (old new : List (List ℕ)) (at : ℕ) (done : List ℕ) → at < length old → IsDone old new at done → length done ≡ length (get_or old at []) →
    (length (joined_frames new) ≡ length (joined_frames old)) × (length new ≡ length old)
walk_size old new at done within is same =
    let rest : List (List ℕ) = drop (at + 1) old in
    let before : take at old ++ (get_or old at [] ∷ rest) ≡ old = ap (λ (l : List (List ℕ)). take at old ++ l) (sym (drop_more old at [] within)) ∙ take-append-drop at old in (
      omega (
        arith,
        ap (λ (l : List (List ℕ)). length (joined_frames l)) is,
        ap (λ (l : List (List ℕ)). length (joined_frames l)) before,
        joined_more (take at old) (done ∷ rest),
        joined_more (take at old) (get_or old at [] ∷ rest),
        joined_one done rest,
        joined_one (get_or old at []) rest,
        same,
      ),
      omega (
        arith,
        ap (λ (l : List (List ℕ)). length l) is,
        ap (λ (l : List (List ℕ)). length l) before,
        length-append (take at old) (done ∷ rest),
        length-append (take at old) (get_or old at [] ∷ rest),
      ),
    )
