-- Of `nothing_is_set_without_a_next_secret`.
use Rattle.std.proofs.Common.{◌≡◌, ◌==◌, ℕ, Bool, true, false, List, [], ◌∷◌, Option, Some, None, Result, Ok, Err, nat_le, length, refl, subst, sym, ap}
use Rattle.rpc_units.specs.declared.unit.Unit.{Unit as RpcUnit}
use Rattle.rpc_units.specs.declared.unit.Body.{Body}
use Rattle.rpc_units.specs.declared.unit.Body.TheVariants.{Bind, BindAck, BindNak, Auth3, Request, Response, Fault}
use Rattle.logon_stubs.specs.Calls.{reply_of}
use Rattle.logon_stubs.specs.declared.calls.Reply.{Reply}
use Rattle.logon_stubs.specs.declared.info.NetworkInfo.{NetworkInfo}
use Rattle.logon_stubs.specs.declared.refused.StubRefused.{StubRefused}
use Rattle.channel_client.specs.Machine.{Beginning, act, ask_by, begin_with, hear, hear_ack, hear_body, hear_by, hear_reply, hear_stub, is_accepting, judge, opnum_asked, settle, start_by, waiting_limit}
use Rattle.channel_client.specs.NoNext.{HasNoNext, SetsNothing, gives_set, hears_set, plain_beginning, sets_in, sets_in_turn}
use Rattle.channel_client.specs.State.{Requester}
use Rattle.channel_client.specs.declared.caller.Caller.{Caller}
use Rattle.channel_client.specs.declared.hearing.Hearing.{Hearing}
use Rattle.channel_client.specs.declared.hearing.Hearing.TheVariants as hearing
use Rattle.channel_client.specs.declared.judging.Judgement.{Judgement}
use Rattle.channel_client.specs.declared.judging.Judgement.TheVariants as judgement
use Rattle.channel_client.specs.declared.state.Pending.{Pending}
use Rattle.channel_client.specs.declared.state.Question.{Question}
use Rattle.channel_client.specs.declared.state.Standing.{Standing}
use Rattle.channel_client.specs.declared.state.Standing.TheVariants as standing
use Rattle.channel_client.specs.declared.state.Step.{Step}
use Rattle.channel_client.specs.declared.state.Step.TheVariants as step
use Rattle.channel_client.specs.declared.state.Waiting.{Waiting}

-- ---- how a turn begins

plainly : (how : Standing) (caller : Caller) (info : NetworkInfo) (timestamp : ℕ) (challenge : List ℕ) →
    begin_with how None caller info timestamp challenge ≡ plain_beginning how caller info timestamp challenge
plainly standing.Nothing caller info timestamp challenge = refl
plainly (standing.Half client server) caller info timestamp challenge = refl
plainly (standing.Open o) caller info timestamp challenge = refl

begins_plainly : (next : Option (List ℕ)) (how : Standing) (caller : Caller) (info : NetworkInfo) (timestamp : ℕ) (challenge : List ℕ) → next ≡ None →
    begin_with how next caller info timestamp challenge ≡ plain_beginning how caller info timestamp challenge
begins_plainly next how caller info timestamp challenge none =
    subst (λ (n : Option (List ℕ)). begin_with how n caller info timestamp challenge ≡ plain_beginning how caller info timestamp challenge)
    (sym none) (plainly how caller info timestamp challenge)

pub begun_none : (how : Standing) (next : Option (List ℕ)) (caller : Caller) (info : NetworkInfo) (timestamp : ℕ) (challenge : List ℕ) → next ≡ None →
    sets_in (begin_with how next caller info timestamp challenge).step ≡ false
begun_none how next caller info timestamp challenge none =
    ap (λ (b : Beginning). sets_in b.step) (begins_plainly next how caller info timestamp challenge none)

-- ---- what is heard

ack_sets : (accepting : Bool) (st : Step) (receive next : ℕ) → sets_in st ≡ false → hears_set (hear_ack accepting st receive next) ≡ false
ack_sets false st receive next none = refl
ack_sets true (step.Bind c) receive next none = refl
ack_sets true (step.Reply q) receive next none = refl
ack_sets true (step.Set st) receive next none = absurd cc

reply_sets : (q : Question) (read : Result Reply StubRefused) → hears_set (hear_reply q read) ≡ false
reply_sets q (Err why) = refl
reply_sets q (Ok r) = refl

stub_sets : (st : Step) (stub : List ℕ) → sets_in st ≡ false → hears_set (hear_stub st stub) ≡ false
stub_sets (step.Bind c) stub none = refl
stub_sets (step.Reply q) stub none = reply_sets q (reply_of (opnum_asked q) stub)
stub_sets (step.Set st) stub none = absurd cc

pub body_sets : (body : Body) (st : Step) (next : ℕ) → sets_in st ≡ false → hears_set (hear_body body st next) ≡ false
body_sets (BindNak reason) st next none = refl
body_sets (BindAck send receive group results) st next none = ack_sets (is_accepting results) st receive next none
body_sets (Fault hint context status) st next none = refl
body_sets (Response hint context stub) st next none = stub_sets st stub none
body_sets (Bind send receive group contexts) st next none = refl
body_sets (Request hint context opnum stub) st next none = refl
body_sets Auth3 st next none = refl

numbered_sets : (numbered : Bool) (p : Pending) (unit : RpcUnit) (next : ℕ) → sets_in p.step ≡ false → hears_set (hear_by numbered p unit next) ≡ false
numbered_sets false p unit next none = refl
numbered_sets true p unit next none = body_sets unit.body p.step next none

pub heard_sets : (turn : Option Pending) (unit : RpcUnit) (next : ℕ) → sets_in_turn turn ≡ false → hears_set (hear turn unit next) ≡ false
heard_sets None unit next none = refl
heard_sets (Some p) unit next none = numbered_sets (unit.call == p.number) p unit next none

-- ---- what comes of it

settled_gives : (j : Judgement) (s : Requester) → gives_set (settle j s).taken ≡ false
settled_gives (judgement.Half client server) s = refl
settled_gives (judgement.Opened o) s = refl
settled_gives (judgement.Answer o v) s = refl
settled_gives (judgement.Drop cause) s = refl

pub acted_gives : (heard : Hearing) (s : Requester) → hears_set heard ≡ false → gives_set (act heard s).taken ≡ false
acted_gives hearing.Skip s none = refl
acted_gives (hearing.Next q frames) s none = refl
acted_gives (hearing.Reply q r) s none = settled_gives (judge q r s.standing s.caller.secret) s
acted_gives (hearing.Drop cause) s none = refl
acted_gives (hearing.Set what) s none = absurd cc

-- ---- a requester that has no next secret stays one

asked_none : (full : Bool) (s : Requester) (info : NetworkInfo) → HasNoNext s → HasNoNext (ask_by full s info).state
asked_none true s info none = none
asked_none false s info none = record { next = none.next; turn = none.turn }

started_none : (turn : Option Pending) (logons : List Waiting) (s : Requester) (timestamp : ℕ) (challenge : List ℕ) → HasNoNext s →
    HasNoNext (start_by turn logons s timestamp challenge).state
started_none (Some p) logons s timestamp challenge none = none
started_none None [] s timestamp challenge none = none
started_none None (logon ∷ logons) s timestamp challenge none = record {
  next = none.next;
  turn = begun_none s.standing s.next s.caller logon.info timestamp challenge none.next;
}

pub settled_none : (j : Judgement) (s : Requester) → HasNoNext s → HasNoNext (settle j s).state
settled_none (judgement.Half client server) s none = record { next = none.next; turn = refl }
settled_none (judgement.Opened o) s none = record { next = none.next; turn = refl }
settled_none (judgement.Answer o v) s none = record { next = none.next; turn = refl }
settled_none (judgement.Drop cause) s none = record { next = none.next; turn = refl }

pub acted_none : (heard : Hearing) (s : Requester) → hears_set heard ≡ false → HasNoNext s → HasNoNext (act heard s).state
acted_none hearing.Skip s unset none = none
acted_none (hearing.Next q frames) s unset none = record { next = none.next; turn = refl }
acted_none (hearing.Reply q r) s unset none = settled_none (judge q r s.standing s.caller.secret) s none
acted_none (hearing.Drop cause) s unset none = record { next = none.next; turn = refl }
acted_none (hearing.Set what) s unset none = absurd cc

pub sets_nothing : SetsNothing
sets_nothing = record {
  begins = λ s how info timestamp challenge none. begins_plainly s.next how s.caller info timestamp challenge none;
  hears = λ s unit none. heard_sets s.turn unit s.next_call none.turn;
  gives = λ s unit none. acted_gives (hear s.turn unit s.next_call) s (heard_sets s.turn unit s.next_call none.turn);
  fresh = λ caller. record { next = refl; turn = refl };
  asked = λ s info none. asked_none (nat_le waiting_limit (length s.waiting)) s info none;
  started = λ s timestamp challenge none. started_none s.turn s.waiting s timestamp challenge none;
  taken = λ s unit none. acted_none (hear s.turn unit s.next_call) s (heard_sets s.turn unit s.next_call none.turn) none;
  lost = λ s none. record { next = none.next; turn = refl };
  another = λ s secret none. record { next = none.next; turn = none.turn };
  none = λ s none. record { next = refl; turn = none.turn };
}
