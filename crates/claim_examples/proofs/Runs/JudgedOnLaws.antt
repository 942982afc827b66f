-- Calls that were judged stay as they are where a unit comes at a client or at a member; and of a key that travels as
-- zeros on one of them.
-- It serves `ann_can_succeed`.
use Rattle.std.proofs.Common.{◌≡◌, ℕ, ◌≤◌, arith, Bool, true, false, List, [], ◌∷◌, length, Option, Some, sym, ap, subst, ◌∙◌, replicate}
use Rattle.std.specs.List.{AllByRecursion}
use Rattle.rc4_stream.specs.Rc4.{applied}
use Rattle.authenticators.specs.SecureChannels.{SecureChannelState, key_of_channel}
use Rattle.step_notes.specs.ControllerNotes.{identity_by, channel_in, has_passed}
use Rattle.step_notes.specs.Judged.{base_key_asked, channel_if}
use Rattle.step_notes.specs.Records.{Book, Judging, computer_named, IfNetwork}
use Rattle.logon_stubs.specs.declared.calls.LogonCall.{LogonCall}
use Rattle.logon_stubs.specs.declared.info.NetworkInfo.{NetworkInfo}
use Rattle.world_moves.specs.declared.bag.BagUnit.{BagUnit}
use Rattle.world_moves.specs.declared.links.EndId.{EndId}
use Rattle.world_moves.specs.declared.state.State.{State}
use Rattle.world_moves.specs.Moving.{settle}
use Rattle.logon_steps.specs.Calling.{TravelsAsZeros as KeyTravels}
use Rattle.domain_world.specs.Claims.{TravelsAsZeros, key_bytes}
use Rattle.domain_world.specs.Past.{note}
use Rattle.domain_world.proofs.Completeness.UnitNotedLaws.{Came, coming, state_then}
use Rattle.domain_world.proofs.Frames.EndNoteLaws.{judged_so, judgings_of}
use Rattle.domain_world.proofs.Frames.EveryStepLaws.{others_of_controllers}
use Rattle.domain_world.proofs.Clear.NotedLaws.{world_at}
use Rattle.world_moves.specs.declared.moves.Move.TheVariants as move
use Rattle.world_moves.proofs.EndKindLaws.{is_controller}

-- no call is heard there
abbrev pub HearsNoCall : EndId → Type 0
HearsNoCall end = is_controller end ≡ false

judged_still : (s : State) (unit : BagUnit) (later : List BagUnit) (end : EndId) → HearsNoCall end → Came s unit later end → (k : ℕ) (b : Book) → (note (world_at k s) move.Onward b).judged ≡ b.judged
judged_still s unit later end none came k b =
    ap (λ (one : Book). one.judged) (came.noted k b)
    ∙ others_of_controllers judgings_of judged_so (coming k came.number unit) unit.bytes (settle came.number s) (state_then end unit came.number s) b end none

-- ---- keys that travel as zeros

-- where a key of a call that was judged travels as zeros, this one does
abbrev pub OnlyTravels : (key base : List ℕ) → List Judging → Type 0
OnlyTravels key base judged = AllByRecursion (λ (j : Judging). IfNetwork (λ (c : LogonCall). TravelsAsZeros j c.info → KeyTravels key base) j.asked) judged

-- a key that travels as zeros is that of the client's answer under the key of its member's channel, where the call is
-- checked on that channel
pub travels_so : (j : Judging) (info : NetworkInfo) (o state : SecureChannelState) (computer : List ℕ) → has_passed j.how ≡ true → computer_named j.asked ≡ Some computer →
    j.checks ≡ Some state → key_of_channel state ≡ key_of_channel o → TravelsAsZeros j info → KeyTravels (key_of_channel o) (base_key_asked j info)
travels_so j info o state computer passed named found same zeros =
    zeros ∙ ap (λ (is : Bool). key_bytes (channel_if is j)) passed
    ∙ ap (λ (name : Option (List ℕ)). key_bytes (channel_in j.controller name j.checks)) named
    ∙ ap (λ (kept : Option SecureChannelState). key_bytes (identity_by j.controller computer kept)) found
    ∙ ap (λ (key : List ℕ). applied key 0 (replicate 16 0)) same

pub none_travels : (key base : List ℕ) (judged : List Judging) → length judged ≤ 0 → OnlyTravels key base judged
none_travels key base [] few = tt
none_travels key base (j ∷ judged) few = absurd (omega (arith, few))

pub travels_still : (key base : List ℕ) (s : State) (unit : BagUnit) (later : List BagUnit) (end : EndId) → HearsNoCall end → Came s unit later end → (k : ℕ) (b : Book) → OnlyTravels key base b.judged →
    OnlyTravels key base (note (world_at k s) move.Onward b).judged
travels_still key base s unit later end none came k b only = subst (OnlyTravels key base) (sym (judged_still s unit later end none came k b)) only
