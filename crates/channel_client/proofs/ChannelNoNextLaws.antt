-- Without a next secret no channel sets one, sealed or not. It serves `any_channel_sets_nothing_without_a_next_secret`.
use Rattle.std.proofs.Common.{◌≡◌, ◌==◌, ℕ, Bool, true, false, List, [], ◌∷◌, Option, Some, None, refl}
use Rattle.rpc_units.specs.declared.unit.Unit.{Unit as RpcUnit}
use Rattle.rpc_units.specs.declared.unit.Body.{Body}
use Rattle.rpc_units.specs.declared.unit.Body.TheVariants.{Bind, BindAck, BindNak, Auth3, Request, Response, Fault}
use Rattle.logon_stubs.specs.declared.info.NetworkInfo.{NetworkInfo}
use Rattle.channel_sealing.specs.Frames.{seal_all}
use Rattle.channel_client.specs.AnyChannel.{ChannelsSetNothing}
use Rattle.channel_client.specs.Machine.{is_accepting}
use Rattle.channel_client.specs.NoNext.{HasNoNext, gives_set, hears_set, sets_in, sets_in_turn}
use Rattle.channel_client.specs.Sealed.{act_sealed, begin_sealed, hear_room, hear_room_ack, hear_room_body, hear_room_by, heard_by, judge_sealed, next_if, seal_heard, sealed_start_by, settle_sealed, start_with, take_with}
use Rattle.channel_client.specs.Sealing.{frames_left}
use Rattle.channel_client.specs.State.{Requester}
use Rattle.channel_client.proofs.NoNextLaws.{acted_gives, acted_none, begun_none, body_sets, heard_sets, settled_none, sets_nothing}
use Rattle.channel_client.specs.declared.caller.Caller.{Caller}
use Rattle.channel_client.specs.declared.hearing.Hearing.{Hearing}
use Rattle.channel_client.specs.declared.hearing.Hearing.TheVariants as hearing
use Rattle.channel_client.specs.declared.judging.Judgement.{Judgement}
use Rattle.channel_client.specs.declared.judging.Judgement.TheVariants as judgement
use Rattle.channel_client.specs.declared.state.Pending.{Pending}
use Rattle.channel_client.specs.declared.state.Sealing.{Sealing}
use Rattle.channel_client.specs.declared.state.Standing.{Standing}
use Rattle.channel_client.specs.declared.state.Standing.TheVariants as standing
use Rattle.channel_client.specs.declared.state.Step.{Step}
use Rattle.channel_client.specs.declared.state.Step.TheVariants as step
use Rattle.channel_client.specs.declared.state.Waiting.{Waiting}

-- ---- how a turn begins

begun_plain : (how : Standing) (next : Option (List ℕ)) (caller : Caller) (info : NetworkInfo) (timestamp : ℕ) (challenge : List ℕ) → next ≡ None →
    sets_in (begin_sealed how next caller info timestamp challenge).step ≡ false
begun_plain standing.Nothing next caller info timestamp challenge none = begun_none standing.Nothing next caller info timestamp challenge none
begun_plain (standing.Half client server) next caller info timestamp challenge none = refl
begun_plain (standing.Open o) next caller info timestamp challenge none = begun_none (standing.Open o) next caller info timestamp challenge none

sealed_started : (turn : Option Pending) (logons : List Waiting) (value : List ℕ) (s : Requester) (timestamp : ℕ) (challenge : List ℕ) → HasNoNext s →
    HasNoNext (sealed_start_by turn logons value s timestamp challenge).state
sealed_started (Some p) logons value s timestamp challenge none = none
sealed_started None [] value s timestamp challenge none = none
sealed_started None (logon ∷ logons) value s timestamp challenge none =
    record { next = none.next; turn = begun_plain s.standing s.next s.caller logon.info timestamp challenge none.next }

started_with : (kept : Option Sealing) (s : Requester) (timestamp : ℕ) (challenge : List ℕ) → HasNoNext s → HasNoNext (start_with kept s timestamp challenge).state
started_with None s timestamp challenge none = sets_nothing.started s timestamp challenge none
started_with (Some g) s timestamp challenge none =
    let began = sealed_started s.turn s.waiting g.bind_value s timestamp challenge none in record { next = began.next; turn = began.turn }

-- ---- what is heard

room_ack_sets : (accepting : Bool) (st : Step) (receive next : ℕ) → sets_in st ≡ false → hears_set (hear_room_ack accepting st receive next) ≡ false
room_ack_sets false st receive next none = refl
room_ack_sets true (step.Bind c) receive next none = refl
room_ack_sets true (step.Reply q) receive next none = refl
room_ack_sets true (step.Set st) receive next none = absurd cc

room_body_sets : (body : Body) (st : Step) (next : ℕ) → sets_in st ≡ false → hears_set (hear_room_body body st next) ≡ false
room_body_sets (BindNak reason) st next none = body_sets (BindNak reason) st next none
room_body_sets (BindAck send receive group results) st next none = room_ack_sets (is_accepting results) st receive next none
room_body_sets (Fault hint context status) st next none = body_sets (Fault hint context status) st next none
room_body_sets (Response hint context stub) st next none = body_sets (Response hint context stub) st next none
room_body_sets (Bind send receive group contexts) st next none = body_sets (Bind send receive group contexts) st next none
room_body_sets (Request hint context opnum stub) st next none = body_sets (Request hint context opnum stub) st next none
room_body_sets Auth3 st next none = body_sets Auth3 st next none

room_numbered_sets : (numbered : Bool) (p : Pending) (unit : RpcUnit) (next : ℕ) → sets_in p.step ≡ false → hears_set (hear_room_by numbered p unit next) ≡ false
room_numbered_sets false p unit next none = refl
room_numbered_sets true p unit next none = room_body_sets unit.body p.step next none

room_sets : (turn : Option Pending) (unit : RpcUnit) (next : ℕ) → sets_in_turn turn ≡ false → hears_set (hear_room turn unit next) ≡ false
room_sets None unit next none = refl
room_sets (Some p) unit next none = room_numbered_sets (unit.call == p.number) p unit next none

next_sets : (frames : Option (List (List ℕ))) (q : _) → hears_set (next_if q frames) ≡ false
next_sets None q = refl
next_sets (Some frames) q = refl

sealed_sets : (h : Hearing) (g : Sealing) → hears_set h ≡ false → hears_set (seal_heard h g).0 ≡ false
sealed_sets hearing.Skip g none = refl
sealed_sets (hearing.Next q frames) g none = next_sets (frames_left (seal_all g.seal g.confounder frames)) q
sealed_sets (hearing.Reply q r) g none = refl
sealed_sets (hearing.Drop cause) g none = refl
sealed_sets (hearing.Set what) g none = absurd cc

by_sets : (how : Standing) (g : Sealing) (turn : Option Pending) (unit : RpcUnit) (next : ℕ) → sets_in_turn turn ≡ false → hears_set (heard_by how g turn unit next).0 ≡ false
by_sets standing.Nothing g turn unit next none = heard_sets turn unit next none
by_sets (standing.Half client server) g turn unit next none = heard_sets turn unit next none
by_sets (standing.Open o) g turn unit next none = sealed_sets (hear_room turn unit next) g (room_sets turn unit next none)

-- ---- what comes of it

sealed_gives : (j : Judgement) (s : Requester) → gives_set (settle_sealed j s).taken ≡ false
sealed_gives (judgement.Half client server) s = refl
sealed_gives (judgement.Opened o) s = refl
sealed_gives (judgement.Answer o v) s = refl
sealed_gives (judgement.Drop cause) s = refl

sealed_none : (j : Judgement) (s : Requester) → HasNoNext s → HasNoNext (settle_sealed j s).state
sealed_none (judgement.Half client server) s none = settled_none (judgement.Half client server) s none
sealed_none (judgement.Opened o) s none = record { next = none.next; turn = refl }
sealed_none (judgement.Answer o v) s none = settled_none (judgement.Answer o v) s none
sealed_none (judgement.Drop cause) s none = settled_none (judgement.Drop cause) s none

acts_none : (h : Hearing) (s : Requester) → hears_set h ≡ false → HasNoNext s → (gives_set (act_sealed h s).taken ≡ false) × HasNoNext (act_sealed h s).state
acts_none hearing.Skip s heard none = (acted_gives hearing.Skip s heard, acted_none hearing.Skip s heard none)
acts_none (hearing.Next q frames) s heard none = (acted_gives (hearing.Next q frames) s heard, acted_none (hearing.Next q frames) s heard none)
acts_none (hearing.Reply q r) s heard none =
    (sealed_gives (judge_sealed q r s.standing s.caller.secret) s, sealed_none (judge_sealed q r s.standing s.caller.secret) s none)
acts_none (hearing.Drop cause) s heard none = (acted_gives (hearing.Drop cause) s heard, acted_none (hearing.Drop cause) s heard none)
acts_none (hearing.Set what) s heard none = absurd cc

taken_with : (kept : Option Sealing) (s : Requester) (unit : RpcUnit) → HasNoNext s → (gives_set (take_with kept s unit).taken ≡ false) × HasNoNext (take_with kept s unit).state
taken_with None s unit none = (sets_nothing.gives s unit none, sets_nothing.taken s unit none)
taken_with (Some g) s unit none =
    let heard : Hearing × Sealing = heard_by s.standing g s.turn unit s.next_call in
    acts_none heard.0 (record s { sealing = Some heard.1 }) (by_sets s.standing g s.turn unit s.next_call none.turn) (record { next = none.next; turn = none.turn })

pub any_channel_sets_nothing : ChannelsSetNothing
any_channel_sets_nothing = record {
  gives = λ s unit none. (taken_with s.sealing s unit none).0;
  started = λ s timestamp challenge none. started_with s.sealing s timestamp challenge none;
  taken = λ s unit none. (taken_with s.sealing s unit none).1;
}
