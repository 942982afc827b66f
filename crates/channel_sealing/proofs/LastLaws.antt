-- An end that doesn't seal all frames of a call stands at its last number. It serves `ends_stand_at_the_last`.
use Rattle.std.proofs.Common.{◌≡◌, ◌+◌, ◌-◌, ◌<◌, ◌≤◌, ◌^◌, ◌==◌, ℕ, Bool, true, false, List, [], ◌∷◌, length, map, Option, Some, None, is_some, refl, sym, ap, arith}
use Rattle.std.proofs.lemmas.Bool.{eqb-true}
use Rattle.std.proofs.lemmas.Option.{none-some}
use Rattle.std.specs.List.{AllByRecursion}
use Rattle.rpc_units.specs.declared.unit.Unit.{Unit as RpcUnit}
use Rattle.rpc_units.specs.Joining.{IsWholeCall, cut_of}
use Rattle.rpc_units.specs.Sealing.{sealed_of}
use Rattle.rpc_units.specs.Writing.{IsInRange, written}
use Rattle.rpc_units.proofs.SealedLaws.{sealed_of-Some, sealed_of-written}
use Rattle.netlogon_seal.specs.Channels.{NlState, last_number, seal_by}
use Rattle.end_links.specs.Sending.{frames_of}
use Rattle.channel_sealing.specs.Exchanges.{EndsStandAtTheLast}
use Rattle.channel_sealing.specs.Frames.{HasRoom, SealedFrames, behind, end_after, frame_with, range_of, seal_all, seal_in, then_end, then_frames}
use Rattle.channel_sealing.specs.Trailers.{sealed_limit, with_room}
use Rattle.channel_sealing.proofs.ExchangeLaws.{IsFrame, frames_each, in_range}

-- ---- of frames that all have room

none_behind : (frame : List ℕ) (later : Option SealedFrames) → behind frame later ≡ None → later ≡ None
none_behind frame None is = refl
none_behind frame (Some later) is = absurd (none-some _ (sym is))

-- frames behind the first stand last
abbrev StandsLast : (confounder : List ℕ) (frames : List (List ℕ)) (seal : NlState) → Type 0
StandsLast confounder frames seal = seal_all seal confounder frames ≡ None → end_after seal confounder frames ≡ record seal { sent = last_number }

spent : (is_spent : Bool) (seal : NlState) (frame : List ℕ) (from to : ℕ) (confounder : List ℕ) (frames : List (List ℕ)) → (seal.sent == last_number) ≡ is_spent →
    ((next : NlState) → StandsLast confounder frames next) →
    then_frames (frame_with (seal_by is_spent seal frame from to confounder)) (λ next. seal_all next confounder frames) ≡ None →
    then_end (frame_with (seal_by is_spent seal frame from to confounder)) seal (λ next. end_after next confounder frames) ≡ record seal { sent = last_number }
spent true seal frame from to confounder frames is later none = ap (λ (n : ℕ). record seal { sent = n }) (eqb-true seal.sent last_number is)
spent false seal frame from to confounder frames is later none = later (record seal { sent = seal.sent + 1 }) (none_behind _ _ none)

at_range : (range : Option (ℕ × ℕ)) (seal : NlState) (frame confounder : List ℕ) (frames : List (List ℕ)) → is_some range ≡ true →
    ((next : NlState) → StandsLast confounder frames next) →
    then_frames (seal_in range seal confounder frame) (λ next. seal_all next confounder frames) ≡ None →
    then_end (seal_in range seal confounder frame) seal (λ next. end_after next confounder frames) ≡ record seal { sent = last_number }
at_range None seal frame confounder frames room later none = absurd (let never : false ≡ true = room in cc)
at_range (Some range) seal frame confounder frames room later none = spent (seal.sent == last_number) seal frame range.0 range.1 confounder frames refl later none

stands_last : (confounder : List ℕ) (frames : List (List ℕ)) → AllByRecursion HasRoom frames → (seal : NlState) → StandsLast confounder frames seal
unfolding seal_all end_after
stands_last confounder [] room seal none = absurd (none-some _ (sym none))
stands_last confounder (frame ∷ frames) room seal none = at_range (range_of frame) seal frame confounder frames room.0 (stands_last confounder frames room.1) none

-- ---- the frames of a call have room

has_room : (u : RpcUnit) → IsFrame u → HasRoom (written u)
has_room u f =
    let frame : List ℕ = written u in
    let place : ℕ = length frame - (8 + length f.trailer.value) in
    let sealable : sealed_of frame ≡ Some (24, place) = sealed_of-written u f.trailer f.sendable.writable f.sendable.range f.sendable.short f.stub f.has in
    let order : 24 ≤ place = (sealed_of-Some frame 24 place sealable).in_order in
    ap is_some (in_range frame place sealable (omega (arith, order, f.room)))

have_room : (us : List RpcUnit) → AllByRecursion IsFrame us → AllByRecursion HasRoom (map written us)
have_room [] each = tt
have_room (u ∷ us) each = (has_room u each.0, have_room us each.1)

frames_have_room : (context receive : ℕ) (call : RpcUnit) → IsWholeCall call → IsInRange call → context < 2 ^ 32 → AllByRecursion HasRoom (frames_of (with_room context call) (sealed_limit receive))
unfolding frames_of
frames_have_room context receive call is_whole range small =
    have_room (cut_of (with_room context call) (sealed_limit receive)) (frames_each context (sealed_limit receive) call (record {
      whole = record { stub = is_whole.stub; first = is_whole.first; last = is_whole.last };
      range = record { call = range.call; body = range.body; trailer = small };
      value = omega arith;
      least = omega arith;
      room = omega arith;
    }))

pub ends_stand_at_the_last : EndsStandAtTheLast
ends_stand_at_the_last = record {
  last = λ seal confounder context receive call is_whole range small.
      stands_last confounder (frames_of (with_room context call) (sealed_limit receive)) (frames_have_room context receive call is_whole range small) seal;
}
