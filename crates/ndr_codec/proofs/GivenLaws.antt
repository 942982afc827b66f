-- What a layout gives of a stub of bytes has its ranges.
use Rattle.std.proofs.Common.{ℕ, ◌+◌, IsTrue, List, ◌++◌, length, refl, sym, subst, arith}
use Rattle.std.proofs.lemmas.List.{drop_at, take_at}
use Rattle.wire_base.specs.Numbers.{AreBytes}
use Rattle.wire_base.proofs.NumberLaws.{AreBytes-drop, AreBytes-take}
use Rattle.ndr_codec.specs.Layout.{Shape, ValueOf, IsNdr, byte, short, long, raw, gap, pointer, text, counted, counted_bytes, sid, array_head}
use Rattle.ndr_codec.specs.Writing.{CanPut, OfBytes}
use Rattle.ndr_codec.specs.Stub.{LayoutOf, item, part, after, done, only, placed, HasLayout, Begins}

pub front_bytes : (front back : List ℕ) → AreBytes (front ++ back) → AreBytes front
front_bytes front back b = subst AreBytes (take_at front back (length front) refl) (AreBytes-take (length front) (front ++ back) b)

pub back_bytes : (front back : List ℕ) → AreBytes (front ++ back) → AreBytes back
back_bytes front back b = subst AreBytes (drop_at front back (length front) refl) (AreBytes-drop (length front) (front ++ back) b)

item_given : (s : Shape) (place : ℕ) (value : ValueOf s) (bytes : List ℕ) → IsNdr s place value bytes → AreBytes bytes → CanPut s value × OfBytes s value
item_given byte place value bytes h b = (h.0, tt)
item_given short place value bytes h b = (h.fits, tt)
item_given long place value bytes h b = (h.fits, tt)
item_given (raw count) place value bytes h b = (h.0, subst AreBytes h.1 b)
item_given gap place value bytes h b = (tt, tt)
item_given pointer place value bytes h b = (tt, tt)
item_given text place value bytes h b = ((h.0, omega (arith, h.1.room, h.1.fits)), tt)
item_given (counted len) place value bytes h b = ((h.0, h.1, omega (arith, h.2.room, h.2.fits)), tt)
item_given (counted_bytes len) place value bytes h b =
    let l = h.1.layout in
    let whole : AreBytes (l.gap ++ (array_head h.1.maximum 0 (length value) ++ value)) = subst AreBytes l.whole b in
    ((h.0, omega (arith, h.1.room, h.1.fits)), back_bytes (array_head h.1.maximum 0 (length value)) value (back_bytes l.gap (array_head h.1.maximum 0 (length value) ++ value) whole))
item_given sid place value bytes h b = ((h.form, h.each), tt)

-- Each value that the layout can give is such.
abbrev pub Gives : {E T : Type 0} → LayoutOf E T → (T → Type 0) → Type 0
Gives (item s) Is = (value : ValueOf s) → CanPut s value → OfBytes s value → Is value
Gives (part layout) Is = Gives layout Is
Gives (after first rest) Is = Gives first (λ x. Gives (rest x) Is)
Gives (done made) Is = Is made
Gives (only test refused layout) Is = IsTrue test → Gives layout Is
Gives (placed layout) Is = (place : ℕ) → Gives (layout place) Is

pub given : {E T : Type 0} (layout : LayoutOf E T) (Is : T → Type 0) (place : ℕ) (value : T) (bytes : List ℕ) → Gives layout Is → HasLayout layout place value bytes → AreBytes bytes → Is value
given (item s) Is place value bytes g h b =
    let i = item_given s place value bytes h b in
    g value i.0 i.1
given (part layout) Is place value bytes g h b = given layout Is place value bytes g h b
given (after first rest) Is place value bytes g h b =
    let both : AreBytes (h.front ++ h.back) = subst AreBytes h.split b in
    given (rest h.head) Is (place + length h.front) value h.back (given first (λ x. Gives (rest x) Is) place h.head h.front g h.head_is (front_bytes h.front h.back both)) h.rest_is (back_bytes h.front h.back both)
given (done made) Is place value bytes g h b = subst Is (sym h.0) g
given (only test refused layout) Is place value bytes g h b = given layout Is place value bytes (g h.0) h.1 b
given (placed layout) Is place value bytes g h b = given (layout place) Is place value bytes (g place) h b

-- what gives the one gives what follows from it
pub gives_more : {E T : Type 0} (layout : LayoutOf E T) (Is So : T → Type 0) → ((value : T) → Is value → So value) → Gives layout Is → Gives layout So
gives_more (item s) Is So follows g = λ value can of. follows value (g value can of)
gives_more (part layout) Is So follows g = gives_more layout Is So follows g
gives_more (after first rest) Is So follows g = gives_more first (λ x. Gives (rest x) Is) (λ x. Gives (rest x) So) (λ x. gives_more (rest x) Is So follows) g
gives_more (done made) Is So follows g = follows made g
gives_more (only test refused layout) Is So follows g = λ holds. gives_more layout Is So follows (g holds)
gives_more (placed layout) Is So follows g = λ place. gives_more (layout place) Is So follows (g place)

-- what a stub of bytes begins with has its ranges
pub begins_given : {E T : Type 0} (layout : LayoutOf E T) (Is : T → Type 0) (value : T) (stub : List ℕ) → Gives layout Is → Begins layout value stub → AreBytes stub → Is value
begins_given layout Is value stub g b are = given layout Is 0 value b.bytes g b.has_layout (front_bytes b.bytes b.rest (subst AreBytes b.whole are))
