-- What is put of each part is of its layout, of bytes, and at most so many; and what a part gives of a stub of bytes
-- has its ranges.
use Rattle.std.proofs.Common.{◌≡◌, ℕ, zero, suc, ◌+◌, ◌*◌, ◌/◌, ◌%◌, ◌^◌, ◌<◌, ◌≤◌, eqb, not, ◌||◌, Bool, true, false, IsTrue, List, [], ◌∷◌, length, get_or, Option, Some, None, refl, sym, ap, subst, ◌∙◌, arith}
use Rattle.std.specs.Prelude.{replicate}
use Rattle.std.specs.List.{AllByRecursion}
use Rattle.std.proofs.lemmas.List.{append-nil, length-replicate}
use Rattle.ndr_codec.specs.declared.refused.NdrRefused.{NdrRefused}
use Rattle.std.proofs.lemmas.Bool.{eq-eqb, ne_eqb, and_from, le-leb}
use Rattle.wire_base.specs.Numbers.{AreBytes}
use Rattle.wire_base.specs.Units.{AreUnits}
use Rattle.ndr_codec.specs.declared.parts.Head.{Head}
use Rattle.ndr_codec.specs.Layout.{Shape, ValueOf, short, long, pointer, text, counted, counted_bytes}
use Rattle.ndr_codec.specs.Writing.{Written, nothing, put, CanPut, OfBytes, size_of}
use Rattle.ndr_codec.specs.Stub.{LayoutOf, item, part, after, done, only, placed, each, times, put_all, size_of_all, Begins, WritesBy}
use Rattle.ndr_codec.specs.Parts.{Part, unique, some_pointer, halves, reserved, put_reserved, is_head, head, target, units, bytes, FitsText, FitsBytes, IfThere, text_size, size_if_there, Putting, put_unique, put_halves, head_of, put_head, units_head, bytes_head, put_units, put_bytes}
use Rattle.ndr_codec.proofs.WritesLaws.{writes_item, writes_then, writes_done, writes_when, writes_within}
use Rattle.ndr_codec.proofs.TimesLaws.{writes_times}
use Rattle.ndr_codec.proofs.GivenLaws.{Gives, gives_more}

-- ---- the words of the language

pub it : {E : Type 0} (s : Shape) (value : ValueOf s) (old : Written) → CanPut s value → OfBytes s value → WritesBy {E = E} (item s) value (size_of s value) old (put s value old)
it s value old can of = record { writes = writes_item s value old can of }

pub of_part : {E T : Type 0} {layout : Part T} {value : T} {size : ℕ} {old new : Written} → WritesBy layout value size old new → WritesBy {E = E} (part layout) value size old new
of_part more = record { writes = record { bytes = more.writes.bytes; item = more.writes.item; appended = more.writes.appended; are_bytes = more.writes.are_bytes; short = more.writes.short } }

pub then : {E A B : Type 0} {first : LayoutOf E A} {rest : A → LayoutOf E B} {head : A} {value : B} {a b : ℕ} {old middle new : Written} → WritesBy first head a old middle → WritesBy (rest head) value b middle new → WritesBy (after first rest) value (a + b) old new
then one more = record { writes = writes_then one.writes more.writes }

pub end : {E T : Type 0} (value : T) (written : Written) → WritesBy {E = E} (done value) value 0 written written
end value written = record { writes = writes_done value written }

pub where_true : {E T : Type 0} {test : Bool} {refused : E} {layout : LayoutOf E T} {value : T} {size : ℕ} {old new : Written} → IsTrue test → WritesBy layout value size old new → WritesBy (only test refused layout) value size old new
where_true holds more = record { writes = writes_when holds more.writes }

pub from_place : {E T : Type 0} {layout : ℕ → LayoutOf E T} {value : T} {size : ℕ} {old new : Written} → WritesBy (layout (length old.bytes)) value size old new → WritesBy (placed layout) value size old new
from_place more = record { writes = record { bytes = more.writes.bytes; item = more.writes.item; appended = more.writes.appended; are_bytes = more.writes.are_bytes; short = more.writes.short } }

pub within : {E T : Type 0} {layout : LayoutOf E T} {value : T} {a : ℕ} {old new : Written} (b : ℕ) → a ≤ b → WritesBy layout value a old new → WritesBy layout value b old new
within b le more = record { writes = writes_within b le more.writes }

-- ---- what is put of each part

pub text_law : {E : Type 0} (value : List ℕ) (old : Written) → FitsText value → AreUnits value → WritesBy {E = E} (item text) value (text_size value) old (put text value old)
text_law value old fits are = it text value old (are, omega (arith, fits)) tt

pub unique_law : {E T : Type 0} (layout : LayoutOf E T) (putting : T → Putting) (size : T → ℕ) (Is : T → Type 0) (value : Option T) (old : Written) → ((target : T) (middle : Written) → Is target → WritesBy layout target (size target) middle (putting target middle)) → IfThere Is value → WritesBy (unique layout) value (7 + size_if_there size value) old (put_unique putting value old)
unfolding unique
unique_law layout putting size Is None old law is = then (it pointer false old tt tt) (end _ _)
unique_law layout putting size Is (Some target) old law is = within _ (omega arith) (then (it pointer true old tt tt) (then (law target _ is) (end _ _)))

abbrev pub IsFitText : List ℕ → Type 0
IsFitText value = FitsText value × AreUnits value

fit_if_there : (value : Option (List ℕ)) → IfThere FitsText value → IfThere AreUnits value → IfThere IsFitText value
fit_if_there None fits are = tt
fit_if_there (Some value) fits are = (fits, are)

pub unique_text_law : {E : Type 0} (value : Option (List ℕ)) (old : Written) → IfThere FitsText value → IfThere AreUnits value → WritesBy {E = E} (unique (item text)) value (7 + size_if_there text_size value) old (put_unique (put text) value old)
unique_text_law value old fits are = unique_law (item text) (put text) text_size IsFitText value old (λ target middle is. text_law target middle is.0 is.1) (fit_if_there value fits are)

pub some_pointer_law : (old : Written) → WritesBy some_pointer tt 7 old (put pointer true old)
unfolding some_pointer
some_pointer_law old = from_place (then (it pointer true old tt tt) (where_true refl (end tt _)))

pub halves_law : (n : ℕ) (old : Written) → n < 2 ^ 64 → WritesBy halves n 14 old (put_halves n old)
unfolding halves put_halves
halves_law n old lt =
    let e : n % 2 ^ 32 + n / 2 ^ 32 * 2 ^ 32 ≡ n = omega arith in
    let both : WritesBy halves (n % 2 ^ 32 + n / 2 ^ 32 * 2 ^ 32) 14 old (put_halves n old) = then (it long (n % 2 ^ 32) old (omega arith) tt) (then (it long (n / 2 ^ 32) _ (omega (arith, lt)) tt) (end (n % 2 ^ 32 + n / 2 ^ 32 * 2 ^ 32) _)) in
    subst (λ (v : ℕ). WritesBy halves v 14 old (put_halves n old)) e both

pub reserved_law : (count : ℕ) (old : Written) → WritesBy (reserved count) tt (7 * count) old (put_reserved count old)
unfolding reserved put_reserved
reserved_law count old = within _ (omega (arith, counted count)) (then (zeros count old) (end tt _)) where
  counted : (count : ℕ) → size_of_all (λ (n : ℕ). 7) (replicate count 0) ≡ 7 * count
  counted zero = refl
  counted (suc count) = omega (arith, counted count)

  all_fit : (count : ℕ) → AllByRecursion (λ n. n < 2 ^ 32) (replicate count 0)
  all_fit zero = tt
  all_fit (suc count) = (omega arith, all_fit count)

  zeros : (count : ℕ) (old : Written) → WritesBy {E = NdrRefused} (times count (item long)) (replicate count 0) (size_of_all (λ (n : ℕ). 7) (replicate count 0)) old (put_all (put long) (replicate count 0) old)
  zeros count old = subst (λ (n : ℕ). WritesBy {E = NdrRefused} (times n (item long)) (replicate count 0) (size_of_all (λ (n : ℕ). 7) (replicate count 0)) old (put_all (put long) (replicate count 0) old)) (length-replicate count 0) (writes_times (item long) (put long) (λ n. 7) (λ n. n < 2 ^ 32) (λ value old fits. it long value old fits tt) (replicate count 0) old (all_fit count))

-- whole units
even : (n : ℕ) → IsTrue (eqb (2 * n % 2) 0)
even n = eq-eqb _ _ (omega arith)

pub either : (b : Bool) → IsTrue (not b || b)
either true = refl
either false = refl

-- the rule of a head whose maximum is its length, and whose pointer is null where it is 0
head_rule : (size len : ℕ) → IsTrue (eqb (len % size) 0) → IsTrue (is_head size len len (not (eqb len 0)))
head_rule size len whole = and_from _ _ (and_from _ _ (le-leb len len (omega arith)) whole) (either (eqb len 0))

head_law : (size len : ℕ) (old : Written) → len < 2 ^ 16 → IsTrue (eqb (len % size) 0) → WritesBy (head size) (head_of len) 17 old (put_head len old)
unfolding head put_head
head_law size len old lt whole =
    from_place (then (it short len old lt tt) (then (it short len _ lt tt) (then (it pointer (not (eqb len 0)) _ tt tt) (where_true (head_rule size len whole) (end _ _)))))

pub units_head_law : (value : List ℕ) (old : Written) → FitsText value → WritesBy (head 2) (units_head value) 17 old (put_head (2 * length value) old)
units_head_law value old fits = head_law 2 (2 * length value) old (omega (arith, fits)) (even (length value))

pub bytes_head_law : (value : List ℕ) (old : Written) → FitsBytes value → WritesBy (head 1) (bytes_head value) 17 old (put_head (length value) old)
bytes_head_law value old fits = head_law 1 (length value) old (omega (arith, fits)) (eq-eqb _ _ (omega arith))

pub target_law : {E T : Type 0} {layout : LayoutOf E (List T)} {value : List T} {size : ℕ} {old new : Written} (there : Bool) → there ≡ true → WritesBy layout value size old new → WritesBy (target layout there) value size old new
target_law {layout = layout} {value = value} {size = size} {old = old} {new = new} there e w = subst (λ (b : Bool). WritesBy (target layout b) value size old new) (sym e) w

-- a count of at least 1 has something behind it
pub some : (n : ℕ) → 1 ≤ n → not (eqb n 0) ≡ true
some n le = ap not (ne_eqb n 0 (λ e. omega (arith, le, e)))

pub units_law : (value : List ℕ) (old : Written) → FitsText value → AreUnits value → WritesBy (units (units_head value)) value (15 + 2 * length value) old (put_units value old)
unfolding units
units_law [] old fits are = within _ (omega arith) (end [] old)
units_law (unit ∷ more) old fits are =
    target_law _ (some (2 * length (unit ∷ more)) (omega arith)) (it (counted (2 * length (unit ∷ more))) (unit ∷ more) old (are, refl, omega (arith, fits)) tt)

pub bytes_law : (value : List ℕ) (old : Written) → FitsBytes value → AreBytes value → WritesBy (bytes (bytes_head value)) value (15 + length value) old (put_bytes value old)
unfolding bytes
bytes_law [] old fits are = within _ (omega arith) (end [] old)
bytes_law (first ∷ rest) old fits are =
    target_law _ (some (length (first ∷ rest)) (omega arith)) (it (counted_bytes (length (first ∷ rest))) (first ∷ rest) old (refl, omega (arith, fits)) are)

-- ---- the ranges of what is read

-- each of several
pub gives_each : {E A T : Type 0} (layout : A → LayoutOf E T) (Is : T → Type 0) (fronts : List A) → ((front : A) → Gives (layout front) Is) → Gives (each layout fronts) (AllByRecursion Is)
gives_each layout Is [] g = tt
gives_each layout Is (front ∷ others) g =
    gives_more (layout front) Is _ (λ first is. gives_more (each layout others) (AllByRecursion Is) _ (λ more all. (is, all)) (gives_each layout Is others g)) (g front)

pub gives_times : {E T : Type 0} (layout : LayoutOf E T) (Is : T → Type 0) (count : ℕ) → Gives layout Is → Gives (times count layout) (AllByRecursion Is)
gives_times layout Is count g = gives_each {A = Unit {0}} (λ _. layout) Is (replicate count tt) (λ _. g)

-- what is said of each of a list by two words
pub both_of_all : {T : Type 0} (Is So : T → Type 0) (list : List T) → AllByRecursion Is list → AllByRecursion So list → AllByRecursion (λ x. Is x × So x) list
both_of_all Is So [] are also = tt
both_of_all Is So (first ∷ more) are also = ((are.0, also.0), both_of_all Is So more are.1 also.1)

-- the one at a place is such as all are; past the end `none` is
pub one_of_all : {T : Type 0} (Is : T → Type 0) (none : T) → Is none → (list : List T) → AllByRecursion Is list → (i : ℕ) → Is (get_or list i none)
one_of_all Is none base [] all i = base
one_of_all Is none base (first ∷ more) all zero = all.0
one_of_all Is none base (first ∷ more) all (suc i) = one_of_all Is none base more all.1 i

pub gives_unique : {E T : Type 0} (layout : LayoutOf E T) (Is : T → Type 0) (So : Option T → Type 0) → Gives layout Is → ((value : Option T) → IfThere Is value → So value) → Gives (unique layout) So
unfolding unique
gives_unique layout Is So g follows false can of = follows None tt
gives_unique layout Is So g follows true can of = gives_more layout Is (λ v. So (Some v)) (λ v is. follows (Some v) is) g

pub gives_text : (E : Type 0) → Gives {E = E} (item text) AreUnits
gives_text E value can of = can.0

pub gives_halves : Gives halves (λ n. n < 2 ^ 64)
unfolding halves
gives_halves low a x high b y = omega (arith, a, b)

pub gives_some_pointer : (So : Unit {0} → Type 0) → So tt → Gives some_pointer So
unfolding some_pointer
gives_some_pointer So so place there a b points = so

pub gives_reserved : (count : ℕ) (So : Unit {0} → Type 0) → So tt → Gives (reserved count) So
unfolding reserved
gives_reserved count So so = gives_more (times count (item long)) (AllByRecursion (λ n. n < 2 ^ 32)) _ (λ passed all. so) (gives_times (item long) (λ n. n < 2 ^ 32) count (λ n fits of. fits))

pub gives_head : (size : ℕ) (So : Head → Type 0) → ((value : Head) → So value) → Gives (head size) So
unfolding head
gives_head size So each place len a b maximum c d there e f holds = each _

pub gives_target : {E T : Type 0} (layout : LayoutOf E (List T)) (there : Bool) (Is : List T → Type 0) → Is [] → Gives layout Is → Gives (target layout there) Is
gives_target layout false Is none g = none
gives_target layout true Is none g = g

pub gives_units : (front : Head) → Gives (units front) AreUnits
unfolding units
gives_units front = gives_target _ front.there AreUnits (λ i. omega arith) (λ value can of. can.0)

pub gives_bytes : (front : Head) → Gives (bytes front) AreBytes
unfolding bytes
gives_bytes front = gives_target _ front.there AreBytes (λ i. omega arith) (λ value can of. of)

-- ---- whole stubs

-- what a stub that was written is
pub record IsStub (Is : List ℕ → Type 0) (size : ℕ) (bytes : List ℕ) : Type 0 where
  pub is : Is bytes
  pub are_bytes : AreBytes bytes
  pub short : length bytes ≤ size

pub stub_of : {E T : Type 0} {layout : LayoutOf E T} {value : T} {size : ℕ} {new : Written} (Is : List ℕ → Type 0) → (Begins layout value new.bytes → Is new.bytes) → WritesBy layout value size nothing new → IsStub Is size new.bytes
stub_of {new = new} Is so w =
    let e = w.writes.appended in
    record {
      is = so (record { bytes = w.writes.bytes; rest = []; whole = e ∙ sym (append-nil w.writes.bytes); has_layout = w.writes.item });
      are_bytes = rw e w.writes.are_bytes;
      short = rw e w.writes.short;
    }
