-- Both meanings of a layout agree: what is read of a stub is what lies there, and what lies there is read.
use Rattle.std.proofs.Common.{◌≡◌, ℕ, ◌+◌, List, length, Result, Ok, Err, refl, sym, ap, subst, arith}
use Rattle.wire_base.specs.Numbers.{AreBytes}
use Rattle.ndr_codec.specs.Cursor.{Cursor, IsPlaced}
use Rattle.ndr_codec.specs.Layout.{Found}
use Rattle.ndr_codec.specs.declared.refused.NdrRefused.{NdrRefused}
use Rattle.ndr_codec.specs.Reading.{Agree}
use Rattle.ndr_codec.specs.Stub.{LayoutOf, item, part, after, done, only, placed, HasLayout, reading_by, Begins, made_of, parsed_by}
use Rattle.ndr_codec.proofs.Agreeing.{agree_item, agree_then, agree_done, agree_when, agree_lifted}

pub agree : {E T : Type 0} (told : NdrRefused → E) (layout : LayoutOf E T) → Agree (reading_by told layout) (HasLayout layout)
agree told (item s) = agree_lifted told (agree_item s)
agree told (part layout) =
    let law = agree_lifted told (agree (λ refused. refused) layout) in
    record {
      found = λ cursor value next here e.
          let f = law.found cursor value next here e in
          record { bytes = f.bytes; rest = f.rest; stands = f.stands; item = f.item; after = f.after };
      only = λ cursor value next here f. law.only cursor value next here (record { bytes = f.bytes; rest = f.rest; stands = f.stands; item = f.item; after = f.after });
    }
agree told (after first rest) = agree_then (agree told first) (λ x. agree told (rest x))
agree told (done made) = agree_done made
agree told (only test refused layout) = agree_when test refused (agree told layout)
agree told (placed layout) = record {
  found = λ cursor value next here e.
      let f = (agree told (layout cursor.place)).found cursor value next here e in
      record { bytes = f.bytes; rest = f.rest; stands = f.stands; item = f.item; after = f.after };
  only = λ cursor value next here f.
      (agree told (layout cursor.place)).only cursor value next here (record { bytes = f.bytes; rest = f.rest; stands = f.stands; item = f.item; after = f.after });
}

-- ---- whole stubs

abbrev front_of : List ℕ → Cursor
front_of stub = record { stub = stub; place = 0 }

front_placed : (stub : List ℕ) → AreBytes stub → IsPlaced (front_of stub)
front_placed stub bytes = record { inside = omega arith; bytes = bytes }

-- the stub begins with a value of which that is made
record IsMade {E T P : Type 0} (make : T → P) (layout : LayoutOf E T) (stub : List ℕ) (made : P) : Type 0 where
  value : T
  is : made ≡ make value
  begins : Begins layout value stub

made_takes : {E T P : Type 0} (told : NdrRefused → E) (make : T → P) (layout : LayoutOf E T) (stub : List ℕ) (made : P) (read : Result (T × Cursor) E) → AreBytes stub → reading_by told layout (front_of stub) ≡ read → made_of make read ≡ Ok made → IsMade make layout stub made
made_takes told make layout stub made (Err refused) bytes is e = absurd cc
made_takes told make layout stub made (Ok step) bytes is e =
    let f = (agree told layout).found (front_of stub) step.0 step.1 (front_placed stub bytes) is in
    record {
      value = step.0;
      is = cc;
      begins = record { bytes = f.bytes; rest = f.rest; whole = f.stands; has_layout = f.item };
    }

parsed_takes : {E T P : Type 0} (told : NdrRefused → E) (make : T → P) (layout : LayoutOf E T) (stub : List ℕ) (made : P) → AreBytes stub → parsed_by told make layout stub ≡ Ok made → IsMade make layout stub made
parsed_takes told make layout stub made bytes e = made_takes told make layout stub made (reading_by told layout (front_of stub)) bytes refl e

pub parsed_again : {E T P : Type 0} (told : NdrRefused → E) (make : T → P) (layout : LayoutOf E T) (stub : List ℕ) (value : T) → AreBytes stub → Begins layout value stub → parsed_by told make layout stub ≡ Ok (make value)
parsed_again told make layout stub value bytes b =
    let f : Found (HasLayout layout) (front_of stub) value (record { stub = stub; place = 0 + length b.bytes }) = record { bytes = b.bytes; rest = b.rest; stands = b.whole; item = b.has_layout; after = refl } in
    ap (made_of make) ((agree told layout).only (front_of stub) value _ (front_placed stub bytes) f)

-- the parameters that were parsed are those of the relation
pub parsed-Is : {E T P : Type 0} (told : NdrRefused → E) (Is : P → Type 0) (make : T → P) (layout : LayoutOf E T) (stub : List ℕ) (made : P) → AreBytes stub → ((value : T) → Begins layout value stub → Is (make value)) → parsed_by told make layout stub ≡ Ok made → Is made
parsed-Is told Is make layout stub made bytes holds e =
    let m = parsed_takes told make layout stub made bytes e in subst Is (sym m.is) (holds m.value m.begins)
