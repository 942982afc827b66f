-- A range of a unit: what the code writes there, and that combining it twice changes nothing.
use Rattle.std.proofs.Common.{◌≡◌, ℕ, ◌+◌, ◌-◌, ◌≤◌, List, ◌++◌, length, take, drop, slice_range, ap, sym, ◌∙◌, arith}
use Rattle.std.proofs.lemmas.List.{append_assoc, drop-drop, length-take-le, length-drop}
use borrow.Rule.Slice.PartMut.{put_mid, take_put, drop_put}
use Rattle.rc4_stream.specs.Rc4.{applied}
use Rattle.ntlm_seal.specs.Directions.{Direction, combine}

-- the list in which a range holds other elements
pub put_range : (from to : ℕ) (xs ys : List ℕ) → from ≤ to → put_mid from (to - from) xs ys ≡ take from xs ++ ys ++ drop to xs
put_range from to xs ys h =
    let past : drop (to - from) (drop from xs) ≡ drop to xs = drop-drop (to - from) from xs ∙ ap (λ n. drop n xs) (let e : from + (to - from) ≡ to = omega arith in e) in
    ap (λ zs. take from xs ++ (ys ++ zs)) past ∙ sym (append_assoc (take from xs) ys (drop to xs))

-- the code's write of the combined range is the combined unit
pub range_combine : (d : Direction) (unit ys : List ℕ) (from to : ℕ) → from ≤ to → ys ≡ applied d.sealing_key d.used (slice_range unit from to) → put_mid from (to - from) unit ys ≡ combine d unit from to
unfolding combine
range_combine d unit ys from to h e =
    put_range from to unit ys h ∙ ap (λ zs. take from unit ++ zs ++ drop to unit) e

pub length_range : (unit : List ℕ) (from to : ℕ) → from ≤ to → to ≤ length unit → length (slice_range unit from to) ≡ to - from
length_range unit from to h within =
    length-take-le (to - from) (drop from unit) (omega (arith, length-drop from unit))

-- zeros written over the range of a unit whose range was written before
pub put_range_twice : (from to : ℕ) (xs ys : List ℕ) → from ≤ to → to ≤ length xs → length ys ≡ to - from → (take from (put_mid from (to - from) xs ys) ≡ take from xs) × (drop to (put_mid from (to - from) xs ys) ≡ drop to xs)
put_range_twice from to xs ys h within long = (take_put from (to - from) xs ys (omega arith), drop_put from to xs ys h within long)
