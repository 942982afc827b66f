-- Several of the same: read one by one, and put one by one.
use Rattle.std.proofs.Common.{◌≡◌, ℕ, suc, ◌+◌, ◌-◌, ◌<◌, List, [], ◌∷◌, ◌++◌, length, map, Result, Ok, Err, refl, sym, ap, subst, ◌∙◌, arith, append_assoc}
use Rattle.std.specs.Prelude.{replicate}
use Rattle.std.specs.List.{AllByRecursion}
use Rattle.ndr_codec.specs.declared.refused.NdrRefused.{NdrRefused}
use Rattle.ndr_codec.specs.Cursor.{Cursor}
use Rattle.ndr_codec.specs.Reading.{read_on}
use Rattle.ndr_codec.specs.Layout.{long}
use Rattle.ndr_codec.specs.Writing.{Written, put}
use Rattle.ndr_codec.specs.Parts.{reserved, put_reserved}
use Rattle.ndr_codec.specs.Stub.{LayoutOf, item, reading_by, WritesBy, each, times, put_all, size_of_all, behind}
use Rattle.ndr_codec.proofs.WritesLaws.{writes_then, writes_done, writes_within}

abbrev same : NdrRefused → NdrRefused
same refused = refused

-- what follows numbers that are passed over
abbrev passed : {T : Type 0} → Result (List T × Cursor) NdrRefused → Result (Unit {0} × Cursor) NdrRefused
passed rest = read_on rest (λ numbers. λ cursor. Ok (tt, cursor))

abbrev first_of_all : {E T : Type 0} → T → Result (List T × Cursor) E → Result (List T × Cursor) E
first_of_all x rest = read_on rest (λ more. λ cursor. Ok (x ∷ more, cursor))

behind_more : {E T : Type 0} (front : List T) (x : T) (rest : Result (List T × Cursor) E) → behind (front ++ x ∷ []) rest ≡ behind front (first_of_all x rest)
behind_more {T = T} front x (Ok step) = ap (λ (l : List T). Ok (l, step.1)) (append_assoc front (x ∷ []) step.0)
behind_more front x (Err refused) = refl

-- one fewer is left
pub times_step : {E T : Type 0} (told : NdrRefused → E) (layout : LayoutOf E T) (count counter : ℕ) (cursor next : Cursor) (x : T) (front : List T) → counter < count → reading_by told layout cursor ≡ Ok (x, next) → behind (front ++ x ∷ []) (reading_by told (times (count - (counter + 1)) layout) next) ≡ behind front (reading_by told (times (count - counter) layout) cursor)
times_step {E = E} {T = T} told layout count counter cursor next x front lt here =
    let e : count - counter ≡ suc (count - (counter + 1)) = omega arith in
    let one : reading_by told (times (suc (count - (counter + 1))) layout) cursor ≡ first_of_all x (reading_by told (times (count - (counter + 1)) layout) next) = rw here refl in
    behind_more front x (reading_by told (times (count - (counter + 1)) layout) next)
    ∙ ap (behind front) (sym one)
    ∙ ap (λ (n : ℕ). behind front (reading_by told (times n layout) cursor)) (sym e)

-- one of the repeated items is refused
pub times_refused : {E T : Type 0} (told : NdrRefused → E) (layout : LayoutOf E T) (count counter : ℕ) (cursor : Cursor) (refused : E) (front : List T) → counter < count → reading_by told layout cursor ≡ Err refused → behind front (reading_by told (times (count - counter) layout) cursor) ≡ Err refused
times_refused {E = E} {T = T} told layout count counter cursor refused front lt here =
    let e : count - counter ≡ suc (count - (counter + 1)) = omega arith in
    let one : reading_by told (times (suc (count - (counter + 1))) layout) cursor ≡ Err refused = rw here refl in
    ap (λ (n : ℕ). behind front (reading_by told (times n layout) cursor)) e ∙ ap (behind front) one

pub behind_nil : {E T : Type 0} (rest : Result (List T × Cursor) E) → behind [] rest ≡ rest
behind_nil (Ok step) = refl
behind_nil (Err refused) = refl

pub ruleset stepping = (times_step, times_refused, behind_nil)

-- ---- reserved numbers

pub reserved_step : (count counter : ℕ) (cursor next : Cursor) (x : ℕ) → counter < count → reading_by same (item long) cursor ≡ Ok (x, next) → reading_by same (reserved (count - (counter + 1))) next ≡ reading_by same (reserved (count - counter)) cursor
unfolding reserved
reserved_step count counter cursor next x lt here =
    let e : count - counter ≡ suc (count - (counter + 1)) = omega arith in
    let one : reading_by same (times (suc (count - (counter + 1))) (item long)) cursor ≡ first_of_all x (reading_by same (times (count - (counter + 1)) (item long)) next) = rw here refl in
    passed_more x (reading_by same (times (count - (counter + 1)) (item long)) next)
    ∙ ap passed (sym one)
    ∙ ap (λ (n : ℕ). passed (reading_by same (times n (item long)) cursor)) (sym e)
  where
    passed_more : (x : ℕ) (rest : Result (List ℕ × Cursor) NdrRefused) → passed rest ≡ passed (first_of_all x rest)
    passed_more x (Ok step) = refl
    passed_more x (Err refused) = refl

pub reserved_refused : (count counter : ℕ) (cursor : Cursor) (refused : NdrRefused) → counter < count → reading_by same (item long) cursor ≡ Err refused → reading_by same (reserved (count - counter)) cursor ≡ Err refused
unfolding reserved
reserved_refused count counter cursor refused lt here =
    let e : count - counter ≡ suc (count - (counter + 1)) = omega arith in
    let one : reading_by same (times (suc (count - (counter + 1))) (item long)) cursor ≡ Err refused = rw here refl in
    ap (λ (n : ℕ). passed (reading_by same (times n (item long)) cursor)) e ∙ ap passed one

pub put_reserved_step : (count counter : ℕ) (written : Written) → counter < count → put_reserved (count - (counter + 1)) (put long 0 written) ≡ put_reserved (count - counter) written
unfolding put_reserved
put_reserved_step count counter written lt =
    let e : count - counter ≡ suc (count - (counter + 1)) = omega arith in
    ap (λ (n : ℕ). put_reserved n written) (sym e)

pub ruleset reserving = (reserved_step, reserved_refused, put_reserved_step)

-- ---- putting

-- what is put one by one is of the layout of each; of each value that is put the layout is that of `front`, and what is
-- read is `seen`
pub writes_each : {E A S T : Type 0} (layout : A → LayoutOf E T) (front : S → A) (seen : S → T) (putting : S → Written → Written) (size : S → ℕ) (Is : S → Type 0) → ((value : S) (old : Written) → Is value → WritesBy (layout (front value)) (seen value) (size value) old (putting value old)) → (list : List S) (old : Written) → AllByRecursion Is list → WritesBy (each layout (map front list)) (map seen list) (size_of_all size list) old (put_all putting list old)
writes_each layout front seen putting size Is law [] old all = record { writes = writes_done [] old }
writes_each layout front seen putting size Is law (first ∷ others) old all =
    let rest = writes_each layout front seen putting size Is law others (putting first old) all.1 in
    record { writes = writes_within (size first + size_of_all size others) (omega arith) (writes_then (law first old all.0).writes (writes_then rest.writes (writes_done (seen first ∷ map seen others) _))) }

-- what is put one by one is of the layout that many times
pub writes_times : {E T : Type 0} (layout : LayoutOf E T) (putting : T → Written → Written) (size : T → ℕ) (Is : T → Type 0) → ((value : T) (old : Written) → Is value → WritesBy layout value (size value) old (putting value old)) → (list : List T) (old : Written) → AllByRecursion Is list → WritesBy (times (length list) layout) list (size_of_all size list) old (put_all putting list old)
writes_times {E = E} {T = T} layout putting size Is law list old all =
    subst (λ (fronts : List (Unit {0})). WritesBy {E = E} (each {A = Unit {0}} (λ _. layout) fronts) list (size_of_all size list) old (put_all putting list old)) (units list)
    (subst (λ (seen : List T). WritesBy {E = E} (each {A = Unit {0}} (λ _. layout) (map (λ _. tt) list)) seen (size_of_all size list) old (put_all putting list old)) (same_list list)
    (writes_each {A = Unit {0}} (λ _. layout) (λ _. tt) (λ value. value) putting size Is law list old all))
  where
    units : {T : Type 0} (list : List T) → map {B = Unit {0}} (λ _. tt) list ≡ replicate (length list) tt
    units [] = refl
    units (first ∷ more) = ap (λ (l : List (Unit {0})). tt ∷ l) (units more)

    same_list : {T : Type 0} (list : List T) → map (λ value. value) list ≡ list
    same_list [] = refl
    same_list {T = T} (first ∷ more) = ap (λ (l : List T). first ∷ l) (same_list more)
