-- What the law `lost_middles_are_refused` of `logon_stubs` needs of any layout: how it goes on part by part, where its
-- bytes end, and how what isn't of it is refused.
use Rattle.std.proofs.Common.{◌≡◌, ℕ, ◌+◌, ◌*◌, ◌≤◌, Bool, true, false, IsTrue, List, [], ◌∷◌, ◌++◌, length, Option, Some, None, Result, Ok, Err, refl, sym, ap, subst, ◌∙◌, arith}
use Rattle.std.specs.Prelude.{IfErr}
use Rattle.std.proofs.lemmas.List.{length-append}
use Rattle.std.specs.Int.{Width, w16, w32, byte_len, to_le_bytes}
use Rattle.wire_base.specs.Units.{utf16_of}
use Rattle.wire_base.proofs.NumberLaws.{length-to_le_bytes}
use Rattle.wire_base.proofs.UnitLaws.{length-utf16_of}
use Rattle.ndr_codec.specs.declared.refused.NdrRefused.{NdrRefused}
use Rattle.ndr_codec.specs.declared.parts.Head.{Head}
use Rattle.ndr_codec.specs.Cursor.{Cursor}
use Rattle.ndr_codec.specs.Layout.{IsAligned, IsNumber, IsArray, IsNdr, array_head, sid_bytes, padding, start_of, Shape, ValueOf, byte, short, long, raw, gap, pointer, text, counted, counted_bytes, sid}
use Rattle.ndr_codec.specs.Reading.{Reading, read, item_by, read_byte, read_number, read_raw, read_gap, read_pointer, ArrayParts, array_of, ending, array_by, text_by, text_in, read_text, value_by, counted_in, read_counted, bytes_in, read_counted_bytes, SidBody, sid_at, counts_sid, sid_parts, sid_by, read_sid, read_on, guarded, refused_as}
use Rattle.ndr_codec.specs.Stub.{place_of, LayoutOf, item, part, after, done, only, placed, HasLayout, reading_by}
use Rattle.ndr_codec.specs.Parts.{units, bytes, target, pointed, unique, unique_text, some_pointer, halves, head, size_if_there}

-- ---- a layout that goes on

-- The layout, and then what its value calls for, with the parts of both one after the other. So two layouts of the
-- same parts, however they are grouped, go on as the same.
abbrev pub going_on : {E A B : Type 0} → LayoutOf E A → (A → LayoutOf E B) → LayoutOf E B
going_on (item s) rest = after (item s) rest
going_on (part layout) rest = after (part layout) rest
going_on (after first more) rest = going_on first (λ x. going_on (more x) rest)
going_on (done made) rest = rest made
going_on (only test refused layout) rest = only test refused (going_on layout rest)
going_on (placed layout) rest = placed (λ place. going_on (layout place) rest)

grouped : {E A B C : Type 0} (told : NdrRefused → E) (more : A → LayoutOf E B) (rest : B → LayoutOf E C) (first : Result (A × Cursor) E) →
    ((x : A) (cursor : Cursor) → reading_by told (going_on (more x) rest) cursor ≡ read_on (reading_by told (more x) cursor) (λ y. reading_by told (rest y))) →
    read_on first (λ x. reading_by told (going_on (more x) rest)) ≡ read_on (read_on first (λ x. reading_by told (more x))) (λ y. reading_by told (rest y))
grouped told more rest (Err why) law = refl
grouped told more rest (Ok step) law = law step.0 step.1

tested : {E A B : Type 0} (test : Bool) (why : E) (both : Reading B E) (layout : Reading A E) (rest : A → Reading B E) (cursor : Cursor) →
    both cursor ≡ read_on (layout cursor) rest → guarded test why both cursor ≡ read_on (guarded test why layout cursor) rest
tested true why both layout rest cursor law = law
tested false why both layout rest cursor law = refl

-- a layout that goes on with another is read as the one and then the other
pub going_on_reads : {E A B : Type 0} (told : NdrRefused → E) (layout : LayoutOf E A) (rest : A → LayoutOf E B) (cursor : Cursor) →
    reading_by told (going_on layout rest) cursor ≡ read_on (reading_by told layout cursor) (λ x. reading_by told (rest x))
going_on_reads told (item s) rest cursor = refl
going_on_reads told (part layout) rest cursor = refl
going_on_reads told (after first more) rest cursor =
    going_on_reads told first (λ x. going_on (more x) rest) cursor
    ∙ grouped told more rest (reading_by told first cursor) (λ x next. going_on_reads told (more x) rest next)
going_on_reads told (done made) rest cursor = refl
going_on_reads told (only test why layout) rest cursor =
    tested test why (reading_by told (going_on layout rest)) (reading_by told layout) (λ x. reading_by told (rest x)) cursor (going_on_reads told layout rest cursor)
going_on_reads told (placed layout) rest cursor = going_on_reads told (layout cursor.place) rest cursor

-- ---- where an item ends

-- the place behind an item that begins at a place, with its padding
abbrev pub end_of : (s : Shape) → ValueOf s → ℕ → ℕ
end_of byte value place = place + 1
end_of short value place = start_of 2 place + 2
end_of long value place = start_of 4 place + 4
end_of (raw count) value place = place + count
end_of gap value place = start_of 4 place
end_of pointer value place = start_of 4 place + 4
end_of text value place = start_of 4 place + 14 + 2 * length value
end_of (counted len) value place = start_of 4 place + 12 + len
end_of (counted_bytes len) value place = start_of 4 place + 12 + len
end_of sid value place = start_of 4 place + length (sid_bytes value)

aligned_end : (alignment place : ℕ) (content all : List ℕ) → IsAligned alignment place content all → place + length all ≡ start_of alignment place + length content
aligned_end alignment place content all is =
    let whole : length all ≡ length is.gap + length content = ap length is.whole ∙ length-append is.gap content in
    omega (arith, whole, is.gap_len)

number_end : (w : Width) (place value : ℕ) (all : List ℕ) → IsNumber w place value all → place + length all ≡ start_of (byte_len w) place + byte_len w
number_end w place value all is = omega (arith, aligned_end (byte_len w) place (to_le_bytes w value) all is.layout, length-to_le_bytes w value)

array_end : (actual place : ℕ) (items all : List ℕ) → IsArray actual place items all → place + length all ≡ start_of 4 place + 12 + length items
array_end actual place items all is =
    let front = array_head is.maximum 0 actual in
    let both : length (front ++ items) ≡ length front + length items = length-append front items in
    omega (arith, aligned_end 4 place (front ++ items) all is.layout, both)

item_end : (s : Shape) (place : ℕ) (value : ValueOf s) (all : List ℕ) → IsNdr s place value all → place + length all ≡ end_of s value place
item_end byte place value all is = omega (arith, ap length is.1)
item_end short place value all is = number_end w16 place value all is
item_end long place value all is = number_end w32 place value all is
item_end (raw count) place value all is = omega (arith, ap length is.1, is.0)
item_end gap place value all is = omega (arith, aligned_end 4 place [] all is)
item_end pointer place value all is = number_end w32 place is.referent all is.number
item_end text place value all is =
    omega (arith, array_end (length value + 1) place (utf16_of (value ++ 0 ∷ [])) all is.1, length-utf16_of (value ++ 0 ∷ []), length-append value (0 ∷ []))
item_end (counted len) place value all is = omega (arith, array_end (length value) place (utf16_of value) all is.2, length-utf16_of value, is.1)
item_end (counted_bytes len) place value all is = omega (arith, array_end (length value) place value all is.1, is.0)
item_end sid place value all is = aligned_end 4 place (sid_bytes value) all is.layout

-- ---- where a layout ends

-- Each value that the layout can give from a place on is such, with the place behind its bytes.
abbrev pub EndsSo : {E T : Type 0} → LayoutOf E T → ℕ → (T → ℕ → Type 0) → Type 0
EndsSo (item s) place Is = (value : ValueOf s) → Is value (end_of s value place)
EndsSo (part layout) place Is = EndsSo layout place Is
EndsSo (after first rest) place Is = EndsSo first place (λ x middle. EndsSo (rest x) middle Is)
EndsSo (done made) place Is = Is made place
EndsSo (only test refused layout) place Is = IsTrue test → EndsSo layout place Is
EndsSo (placed layout) place Is = EndsSo (layout place) place Is

pub ends_so : {E T : Type 0} (layout : LayoutOf E T) (Is : T → ℕ → Type 0) (place : ℕ) (value : T) (all : List ℕ) → EndsSo layout place Is → HasLayout layout place value all → Is value (place + length all)
ends_so (item s) Is place value all law has = subst (λ (end : ℕ). Is value end) (sym (item_end s place value all has)) (law value)
ends_so (part layout) Is place value all law has = ends_so layout Is place value all law has
ends_so (after first rest) Is place value all law has =
    let whole : length all ≡ length has.front + length has.back = ap length has.split ∙ length-append has.front has.back in
    let end_is : place + length has.front + length has.back ≡ place + length all = omega (arith, whole) in
    let middle = ends_so first (λ x end. EndsSo (rest x) end Is) place has.head has.front law has.head_is in
    subst (λ (end : ℕ). Is value end) end_is (ends_so (rest has.head) Is (place + length has.front) value has.back middle has.rest_is)
ends_so {T = T} (done made) Is place value all law has =
    let end_is : place ≡ place + length all = omega (arith, ap length has.1) in
    subst (λ (end : ℕ). Is value end) end_is (subst (λ (v : T). Is v place) (sym has.0) law)
ends_so (only test refused layout) Is place value all law has = ends_so layout Is place value all (law has.0) has.1
ends_so (placed layout) Is place value all law has = ends_so (layout place) Is place value all law has

-- where a layout ends as `Is` says, it ends as what follows from that says
pub ends_more : {E T : Type 0} (layout : LayoutOf E T) (place : ℕ) (Is So : T → ℕ → Type 0) → ((value : T) (end : ℕ) → Is value end → So value end) → EndsSo layout place Is → EndsSo layout place So
ends_more (item s) place Is So follows law = λ value. follows value (end_of s value place) (law value)
ends_more (part layout) place Is So follows law = ends_more layout place Is So follows law
ends_more (after first rest) place Is So follows law =
    ends_more first place (λ x end. EndsSo (rest x) end Is) (λ x end. EndsSo (rest x) end So) (λ x end. ends_more (rest x) end Is So follows) law
ends_more (done made) place Is So follows law = follows made place law
ends_more (only test refused layout) place Is So follows law = λ holds. ends_more layout place Is So follows (law holds)
ends_more (placed layout) place Is So follows law = ends_more (layout place) place Is So follows law

-- ---- where the targets of counted strings end, by what their heads tell

abbrev pub target_end : (there : Bool) (len place : ℕ) → ℕ
target_end false len place = place
target_end true len place = start_of 4 place + 12 + len

ends_counted : (there : Bool) (len place : ℕ) (Is : List ℕ → ℕ → Type 0) → ((value : List ℕ) → Is value (target_end there len place)) → EndsSo {E = NdrRefused} (target (item (counted len)) there) place Is
ends_counted false len place Is law = law []
ends_counted true len place Is law = law

ends_counted_bytes : (there : Bool) (len place : ℕ) (Is : List ℕ → ℕ → Type 0) → ((value : List ℕ) → Is value (target_end there len place)) → EndsSo {E = NdrRefused} (target (item (counted_bytes len)) there) place Is
ends_counted_bytes false len place Is law = law []
ends_counted_bytes true len place Is law = law

pub ends_units : (front : Head) (place : ℕ) (Is : List ℕ → ℕ → Type 0) → ((value : List ℕ) → Is value (target_end front.there front.len place)) → EndsSo (units front) place Is
unfolding units
ends_units front place Is law = ends_counted front.there front.len place Is law

pub ends_bytes : (front : Head) (place : ℕ) (Is : List ℕ → ℕ → Type 0) → ((value : List ℕ) → Is value (target_end front.there front.len place)) → EndsSo (bytes front) place Is
unfolding bytes
ends_bytes front place Is law = ends_counted_bytes front.there front.len place Is law

-- ---- how many bytes parts have at most

-- the padding in front of what is aligned to 2 or to 4 bytes
few_two : (place : ℕ) → padding 2 place ≤ 1
unfolding padding
few_two place = omega arith

few_four : (place : ℕ) → padding 4 place ≤ 3
unfolding padding
few_four place = omega arith

pub short_within : (place : ℕ) → start_of 2 place + 2 ≤ place + 3
short_within place = omega (arith, few_two place)

pub long_within : (place : ℕ) → start_of 4 place + 4 ≤ place + 7
long_within place = omega (arith, few_four place)

-- the bytes of a text that may be there, and those in front of it and behind it
abbrev pub IsTextEnd : ℕ → Option (List ℕ) → ℕ → Type 0
IsTextEnd place value end = end ≤ place + 24 + size_if_there (λ units. 2 * length units) value

ends_pointed_text : (there : Bool) (place : ℕ) → EndsSo {E = NdrRefused} (pointed (item text) there) (start_of 4 place + 4) (IsTextEnd place)
ends_pointed_text false place = omega (arith, few_four place)
ends_pointed_text true place = λ value. omega (arith, few_four place, few_four (start_of 4 place + 4))

pub ends_unique_text : (place : ℕ) → EndsSo unique_text place (IsTextEnd place)
unfolding unique
ends_unique_text place = λ there. ends_pointed_text there place

pub ends_some_pointer : (place : ℕ) → EndsSo some_pointer place (λ value end. end ≤ place + 7)
unfolding some_pointer
ends_some_pointer place there holds = omega (arith, few_four place)

pub ends_halves : (place : ℕ) → EndsSo halves place (λ value end. end ≤ place + 14)
unfolding halves
ends_halves place low high = omega (arith, few_four place, few_four (start_of 4 place + 4))

pub ends_head : (size place : ℕ) → EndsSo (head size) place (λ value end. end ≤ place + 13)
unfolding head
ends_head size place len maximum there holds =
    omega (arith, few_two place, few_two (start_of 2 place + 2), few_four (start_of 2 (start_of 2 place + 2) + 2))

-- ---- how what isn't of a layout is refused

-- a refusal that tells a place
abbrev pub HasPlace : NdrRefused → Type 0
HasPlace why = (place : ℕ) × (place_of why ≡ Some place)

by_item : {T : Type 0} (found : Option T) (start end : ℕ) (cursor : Cursor) → IfErr (item_by found start end cursor) HasPlace
by_item None start end cursor = (start, refl)
by_item (Some value) start end cursor = tt

by_ending : {T : Type 0} (value : Result T NdrRefused) (end : ℕ) (cursor : Cursor) → IfErr value HasPlace → IfErr (ending value end cursor) HasPlace
by_ending (Ok value) end cursor law = tt
by_ending (Err why) end cursor law = law

by_array : {T : Type 0} (value_in : ArrayParts → ℕ → Result T NdrRefused) (size : ℕ) (found : Option ArrayParts) (start : ℕ) (cursor : Cursor) →
    ((array : ArrayParts) → IfErr (value_in array start) HasPlace) → IfErr (array_by value_in size found start cursor) HasPlace
by_array value_in size None start cursor law = (start, refl)
by_array value_in size (Some array) start cursor law = by_ending (value_in array start) _ cursor (law array)

by_value : {T : Type 0} (test : Bool) (value : T) (start : ℕ) → IfErr (value_by test value start) HasPlace
by_value false value start = (start, refl)
by_value true value start = tt

by_text : (counted ended : Bool) (units : List ℕ) (start : ℕ) → IfErr (text_by counted ended units start) HasPlace
by_text false ended units start = (start, refl)
by_text true false units start = (start, refl)
by_text true true units start = tt

by_sid : (found : Option SidBody) (start : ℕ) (cursor : Cursor) → IfErr (sid_by found start cursor) HasPlace
by_sid None start cursor = (start, refl)
by_sid (Some body) start cursor = by_ending (value_by (counts_sid body) (sid_parts body.body) start) _ cursor (by_value (counts_sid body) (sid_parts body.body) start)

-- an item is refused with its place
item_refused : (s : Shape) (cursor : Cursor) → IfErr (read s cursor) HasPlace
unfolding read_byte read_number read_raw read_gap read_pointer text_in read_text counted_in read_counted bytes_in read_counted_bytes read_sid
item_refused byte cursor = by_item _ _ _ cursor
item_refused short cursor = by_item _ _ _ cursor
item_refused long cursor = by_item _ _ _ cursor
item_refused (raw count) cursor = by_item _ _ _ cursor
item_refused gap cursor = by_item _ _ _ cursor
item_refused pointer cursor = by_item _ _ _ cursor
item_refused text cursor = by_array text_in 2 (array_of 2 cursor.stub (start_of 4 cursor.place)) (start_of 4 cursor.place) cursor (λ array. by_text _ _ _ _)
item_refused (counted len) cursor = by_array (counted_in len) 2 (array_of 2 cursor.stub (start_of 4 cursor.place)) (start_of 4 cursor.place) cursor (λ array. by_value _ _ _)
item_refused (counted_bytes len) cursor = by_array (bytes_in len) 1 (array_of 1 cursor.stub (start_of 4 cursor.place)) (start_of 4 cursor.place) cursor (λ array. by_value _ _ _)
item_refused sid cursor = by_sid (sid_at cursor.stub (start_of 4 cursor.place)) (start_of 4 cursor.place) cursor

-- Each refusal of the layout is such.
abbrev pub RefusesSo : {E T : Type 0} → (NdrRefused → E) → LayoutOf E T → (E → Type 0) → Type 0
RefusesSo told (item s) Is = (why : NdrRefused) → HasPlace why → Is (told why)
RefusesSo told (part layout) Is = RefusesSo (λ why. why) layout (λ why. Is (told why))
RefusesSo told (after {A = A} first rest) Is = RefusesSo told first Is × ((x : A) → RefusesSo told (rest x) Is)
RefusesSo told (done made) Is = Unit {0}
RefusesSo told (only test why layout) Is = Is why × RefusesSo told layout Is
RefusesSo told (placed layout) Is = (place : ℕ) → RefusesSo told (layout place) Is

so_more : {T E : Type 0} (result : Result T E) (Is So : E → Type 0) → ((why : E) → Is why → So why) → IfErr result Is → IfErr result So
so_more (Ok value) Is So follows law = tt
so_more (Err why) Is So follows law = follows why law

so_told : {T E F : Type 0} (told : E → F) (result : Result T E) (Is : F → Type 0) → IfErr result (λ why. Is (told why)) → IfErr (refused_as told result) Is
so_told told (Ok value) Is law = tt
so_told told (Err why) Is law = law

so_after : {A B E : Type 0} (first : Result (A × Cursor) E) (rest : A → Reading B E) (Is : E → Type 0) → IfErr first Is → ((x : A) (cursor : Cursor) → IfErr (rest x cursor) Is) → IfErr (read_on first rest) Is
so_after (Ok step) rest Is one more = more step.0 step.1
so_after (Err why) rest Is one more = one

so_tested : {T E : Type 0} (test : Bool) (why : E) (reading : Reading T E) (cursor : Cursor) (Is : E → Type 0) → Is why → IfErr (reading cursor) Is → IfErr (guarded test why reading cursor) Is
so_tested true why reading cursor Is here law = law
so_tested false why reading cursor Is here law = here

pub refuses_so : {E T : Type 0} (told : NdrRefused → E) (layout : LayoutOf E T) (Is : E → Type 0) (cursor : Cursor) → RefusesSo told layout Is → IfErr (reading_by told layout cursor) Is
refuses_so told (item s) Is cursor law = so_told told (read s cursor) Is (so_more (read s cursor) HasPlace (λ why. Is (told why)) law (item_refused s cursor))
refuses_so told (part layout) Is cursor law = so_told told (reading_by (λ why. why) layout cursor) Is (refuses_so (λ why. why) layout (λ why. Is (told why)) cursor law)
refuses_so told (after first rest) Is cursor law =
    so_after (reading_by told first cursor) (λ x. reading_by told (rest x)) Is (refuses_so told first Is cursor law.0) (λ x next. refuses_so told (rest x) Is next (law.1 x))
refuses_so told (done made) Is cursor law = tt
refuses_so told (only test why layout) Is cursor law = so_tested test why (reading_by told layout) cursor Is law.0 (refuses_so told layout Is cursor law.1)
refuses_so told (placed layout) Is cursor law = refuses_so told (layout cursor.place) Is cursor (law cursor.place)

-- targets are refused as their items
refused_counted : (there : Bool) (len : ℕ) (Is : NdrRefused → Type 0) → ((why : NdrRefused) → HasPlace why → Is why) → RefusesSo (λ why. why) (target (item (counted len)) there) Is
refused_counted false len Is law = tt
refused_counted true len Is law = law

refused_counted_bytes : (there : Bool) (len : ℕ) (Is : NdrRefused → Type 0) → ((why : NdrRefused) → HasPlace why → Is why) → RefusesSo (λ why. why) (target (item (counted_bytes len)) there) Is
refused_counted_bytes false len Is law = tt
refused_counted_bytes true len Is law = law

pub refused_units : (front : Head) (Is : NdrRefused → Type 0) → ((why : NdrRefused) → HasPlace why → Is why) → RefusesSo (λ why. why) (units front) Is
unfolding units
refused_units front Is law = refused_counted front.there front.len Is law

pub refused_bytes : (front : Head) (Is : NdrRefused → Type 0) → ((why : NdrRefused) → HasPlace why → Is why) → RefusesSo (λ why. why) (bytes front) Is
unfolding bytes
refused_bytes front Is law = refused_counted_bytes front.there front.len Is law
