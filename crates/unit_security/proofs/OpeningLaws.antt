-- A unit that a session signs or seals, as the other takes it.
-- Of `what_is_secured_is_opened`.
use Rattle.std.proofs.Common.{◌≡◌, ℕ, ◌≤◌, ◌+◌, ◌-◌, Bool, true, false, List, ◌++◌, length, take, drop, Option, Some, Ok, refl, sym, ap, ap₂, ◌∙◌, arith, length-append}
use Rattle.std.proofs.lemmas.Bool.{eq-eqb}
use Rattle.std.proofs.lemmas.List.{take_at, drop_at, length-take, length-drop}
use Rattle.ntlm_seal.specs.Directions.{combine, signature_of}
use Rattle.ntlm_seal.specs.Sessions.{Judgement, Sealing, SessionState, judge_of, open_of, seal_of}
use Rattle.ntlm_seal.specs.Turns.{after_sending, after_taking}
use Rattle.ntlm_seal.proofs.TurnLaws.{combine_range, is_accepted, length-combine, length-signature_of, opens_again}
use Rattle.rpc_units.specs.declared.unit.Body.{Body}
use Rattle.rpc_units.specs.declared.unit.Unit.{Unit as RpcUnit}
use Rattle.rpc_units.specs.Joining.{stub_of}
use Rattle.rpc_units.specs.Reading.{unit_of}
use Rattle.rpc_units.specs.Sealed.{range_replaced, unit_with_stub, unit_with_value}
use Rattle.rpc_units.specs.Sealing.{sealed_of}
use Rattle.rpc_units.specs.Writing.{written}
use Rattle.rpc_units.proofs.JoiningLaws.{with_stub-own}
use Rattle.rpc_units.proofs.SealedLaws.{sealed_of-Some, sealed_of-value_replaced, sealed_of-written, take-range_replaced, unit_of-range_replaced, unit_of-value_replaced, value_replaced-written}
use Rattle.rpc_units.proofs.WritingLaws.{unit_of-written}
use Rattle.unit_security.specs.declared.securing.Secured.{Secured}
use Rattle.unit_security.specs.Opening.{HasRoom, SecuredIsOpened}
use Rattle.unit_security.specs.Securing.{open_in, range_by, range_if, range_of, sealed_with, secure_in, signed_with, taken_with}

-- ---- the parts of a unit

-- where its stub and padding end: its range is from 24 to there, and the trailer's 8 bytes and a value of 16 follow
abbrev end_of : RpcUnit → ℕ
end_of unit = length (written unit) - 24

-- the bytes of a unit that are signed
abbrev front_of : RpcUnit → List ℕ
front_of unit = take (length (written unit) - 16) (written unit)

range_sealed : (unit : RpcUnit) → HasRoom unit → sealed_of (written unit) ≡ Some (24, end_of unit)
range_sealed unit room =
    sealed_of-written unit room.trailer room.sends.writable room.sends.range room.sends.short room.stub room.has
    ∙ ap (λ (n : ℕ). Some (24, length (written unit) - (8 + n))) room.room

-- a unit with room for a signature has 48 bytes or more
long : (unit : RpcUnit) → HasRoom unit → 48 ≤ length (written unit)
long unit room = let is = sealed_of-Some (written unit) 24 (end_of unit) (range_sealed unit room) in omega (arith, is.in_order)

-- a unit with room for a signature is read again
read_back : (unit : RpcUnit) → HasRoom unit → unit_of (written unit) ≡ Ok unit
read_back unit room = unit_of-written unit room.sends.writable room.sends.range room.sends.short

front_size : (unit : RpcUnit) → HasRoom unit → length (front_of unit) ≡ length (written unit) - 16
front_size unit room = omega (arith, length-take (length (written unit) - 16) (written unit), long unit room)

-- ---- what a sealed unit is read as

-- the whole unit with its range changed
abbrev changed : RpcUnit → List ℕ → List ℕ
changed unit range = range_replaced (written unit) 24 (end_of unit) range

changed_size : (unit : RpcUnit) (range : List ℕ) → HasRoom unit → length range ≡ end_of unit - 24 → length (changed unit range) ≡ length (written unit)
changed_size unit range room size =
    let bytes = written unit in
    omega (
      arith,
      length-append (take 24 bytes ++ range) (drop (end_of unit) bytes),
      length-append (take 24 bytes) range,
      length-take 24 bytes,
      length-drop (end_of unit) bytes,
      size,
      long unit room,
    )

-- what goes in front of a signature: it is as long as what is signed, and read as the unit with another stub, whatever
-- the signature
record Form (unit : RpcUnit) (front : List ℕ) : Type 0 where
  stub : List ℕ
  size : length front ≡ length (written unit) - 16
  sealed : (value : List ℕ) → length value ≡ 16 → sealed_of (front ++ value) ≡ Some (24, end_of unit)
  read : (value : List ℕ) → length value ≡ 16 → unit_of (front ++ value) ≡ Ok (unit_with_value (unit_with_stub unit stub) value)

plain_form : (unit : RpcUnit) → HasRoom unit → Form unit (front_of unit)
plain_form unit room = record {
  stub = stub_of unit.body;
  size = front_size unit room;
  sealed = λ value sixteen. sealed_of-value_replaced (written unit) 24 (end_of unit) value (range_sealed unit room) (omega (arith, long unit room)) sixteen;
  read = λ value sixteen.
      unit_of-value_replaced (written unit) unit room.trailer value (read_back unit room) room.has room.room sixteen
      ∙ ap (λ (u : RpcUnit). Ok (unit_with_value u value)) (ap (λ (body : Body). record unit { body = body }) (sym (with_stub-own unit.body)));
}

sealed_form : (unit : RpcUnit) (one : SessionState) → HasRoom unit → Form unit (combine one.sending (front_of unit) 24 (end_of unit))
sealed_form unit one room =
    let short : end_of unit ≤ length (front_of unit) = omega (arith, front_size unit room, long unit room) in
    let low : 24 ≤ end_of unit = omega (arith, long unit room) in
    let found = combine_range one.sending (front_of unit) 24 (end_of unit) low short in
    let range : List ℕ = found.0 in
    let is : combine one.sending (front_of unit) 24 (end_of unit) ≡ take (length (changed unit range) - 16) (changed unit range) =
    found.2
    ∙ sym (take-range_replaced (written unit) range 24 (end_of unit) (length (written unit) - 16) low (omega (arith, long unit room)) (omega arith) found.1)
    ∙ ap (λ (n : ℕ). take (n - 16) (changed unit range)) (sym (changed_size unit range room found.1)) in
    let both = unit_of-range_replaced (written unit) unit 24 (end_of unit) range (range_sealed unit room) (read_back unit room) found.1 in
    record {
      stub = take (length (stub_of unit.body)) range;
      size = length-combine one.sending (front_of unit) 24 (end_of unit) low short ∙ front_size unit room;
      sealed = λ value sixteen.
          ap (λ (front : List ℕ). sealed_of (front ++ value)) is
          ∙ sealed_of-value_replaced (changed unit range) 24 (end_of unit) value both.1 (omega (arith, long unit room, changed_size unit range room found.1)) sixteen;
      read = λ value sixteen.
          ap (λ (front : List ℕ). unit_of (front ++ value)) is
          ∙ unit_of-value_replaced (changed unit range) (unit_with_stub unit (take (length (stub_of unit.body)) range)) room.trailer value both.0 room.has room.room sixteen;
    }

-- ---- the range is found, of the unit and of what travels

range_by_is : (bytes : List ℕ) (to : ℕ) → sealed_of bytes ≡ Some (24, to) → to + 24 ≡ length bytes → range_of bytes ≡ Some (24, to)
range_by_is bytes to sealed ends =
    ap (λ (r : Option (ℕ × ℕ)). range_by r bytes) sealed ∙ ap (λ (fits : Bool). range_if fits (24, to)) (eq-eqb (to + 24) (length bytes) ends)

own_range : (unit : RpcUnit) → HasRoom unit → range_of (written unit) ≡ Some (24, end_of unit)
own_range unit room = range_by_is (written unit) (end_of unit) (range_sealed unit room) (omega (arith, long unit room))

sent_range : (unit : RpcUnit) (front value : List ℕ) → HasRoom unit → Form unit front → length value ≡ 16 → range_of (front ++ value) ≡ Some (24, end_of unit)
sent_range unit front value room form sixteen =
    range_by_is (front ++ value) (end_of unit) (form.sealed value sixteen) (omega (arith, length-append front value, form.size, sixteen, long unit room))

-- both sides cut what travels in one place
cut_front : (unit : RpcUnit) (front value : List ℕ) → HasRoom unit → Form unit front → take (end_of unit + 8) (front ++ value) ≡ front
cut_front unit front value room form = take_at front value (end_of unit + 8) (omega (arith, form.size, long unit room))

cut_value : (unit : RpcUnit) (front value : List ℕ) → HasRoom unit → Form unit front → drop (end_of unit + 8) (front ++ value) ≡ value
cut_value unit front value room form = drop_at front value (end_of unit + 8) (omega (arith, form.size, long unit room))

own_front : (unit : RpcUnit) → HasRoom unit → take (end_of unit + 8) (written unit) ≡ front_of unit
own_front unit room = ap (λ (n : ℕ). take n (written unit)) (omega (arith, long unit room))

-- the unit with its signature
with_signature : (unit : RpcUnit) (value : List ℕ) → HasRoom unit → length value ≡ 16 → front_of unit ++ value ≡ written (unit_with_value unit value)
with_signature unit value room sixteen = value_replaced-written unit room.trailer value room.has room.room sixteen

-- ---- both sides of a session

abbrev secured_at : List ℕ → SessionState → Option Secured
secured_at bytes session = Some (record { bytes = bytes; session = session })

pub secured_is_opened : SecuredIsOpened
secured_is_opened true unit one other room paired below =
    let to : ℕ = end_of unit in
    let plain : List ℕ = front_of unit in
    let short : to ≤ length plain = omega (arith, front_size unit room, long unit room) in
    let low : 24 ≤ to = omega (arith, long unit room) in
    let again = opens_again one other plain 24 to paired low short below in
    let front : List ℕ = combine one.sending plain 24 to in
    let value : List ℕ = signature_of one.sending plain 24 to in
    let sixteen : length value ≡ 16 = length-signature_of one.sending plain 24 to in
    let form : Form unit front = sealed_form unit one room in
    record {
      sent = front ++ value;
      stub = form.stub;
      signature = value;
      later = after_sending one 24 to;
      next = after_taking other 24 to;
      sixteen = sixteen;
      size = omega (arith, length-append front value, form.size, sixteen, long unit room);
      read = form.read value sixteen;
      paired = again.paired;
      count = refl;
      back = refl;
      secured = ap (λ (r : Option (ℕ × ℕ)). secure_in true r one (written unit)) (own_range unit room)
          ∙ ap (λ (p : List ℕ). sealed_with (seal_of one p 24 to)) (own_front unit room)
          ∙ ap sealed_with again.sealed;
      opened = ap (λ (r : Option (ℕ × ℕ)). open_in true r other (front ++ value)) (sent_range unit front value room form sixteen)
          ∙ ap₂ (λ (f v : List ℕ). taken_with (open_of other f 24 to v) (combine other.receiving f 24 to ++ v)) (cut_front unit front value room form) (cut_value unit front value room form)
          ∙ ap (λ (j : Judgement). taken_with j (combine other.receiving front 24 to ++ value)) again.opened
          ∙ ap (λ (p : List ℕ). secured_at (p ++ value) (after_taking other 24 to)) again.same
          ∙ ap (λ (b : List ℕ). secured_at b (after_taking other 24 to)) (with_signature unit value room sixteen);
    }
secured_is_opened false unit one other room paired below =
    let to : ℕ = end_of unit in
    let plain : List ℕ = front_of unit in
    let accepted = is_accepted one other plain paired below in
    let value : List ℕ = signature_of one.sending plain 0 0 in
    let sixteen : length value ≡ 16 = length-signature_of one.sending plain 0 0 in
    let form : Form unit plain = plain_form unit room in
    record {
      sent = plain ++ value;
      stub = form.stub;
      signature = value;
      later = after_sending one 0 0;
      next = after_taking other 0 0;
      sixteen = sixteen;
      size = omega (arith, length-append plain value, form.size, sixteen, long unit room);
      read = form.read value sixteen;
      paired = accepted.paired;
      count = refl;
      back = refl;
      secured = ap (λ (r : Option (ℕ × ℕ)). secure_in false r one (written unit)) (own_range unit room)
          ∙ ap (λ (p : List ℕ). signed_with (seal_of one p 0 0).answer p (seal_of one p 0 0).session) (own_front unit room)
          ∙ ap (λ (x : Sealing). signed_with x.answer plain x.session) accepted.signed;
      opened = ap (λ (r : Option (ℕ × ℕ)). open_in false r other (plain ++ value)) (sent_range unit plain value room form sixteen)
          ∙ ap₂ (λ (f v : List ℕ). taken_with (judge_of other f 0 0 v) (plain ++ value)) (cut_front unit plain value room form) (cut_value unit plain value room form)
          ∙ ap (λ (j : Judgement). taken_with j (plain ++ value)) accepted.checked
          ∙ ap (λ (b : List ℕ). secured_at b (after_taking other 0 0)) (with_signature unit value room sixteen);
    }
