-- Each challenge that the maker of challenges drew has 8 bytes.
-- It serves `MakerChances::next`.
use Rattle.std.proofs.Common.{◌≡◌, ℕ, List, [], ◌∷◌, All, Result, Ok, Err, IfOk, OnErr, sym, subst}
use Rattle.std.proofs.lemmas.List.Elements.{All-append, All-cons, All-head, All-nil, All-tail}
use Rattle.channel_keys.specs.Des.{IsBlock}
use Rattle.outside.specs.Drawing.{Drawing, Draws}

pub next_blocks : {E : Type 0} (result : Result (List ℕ) E) (old new : Drawing) → IfOk result (Draws old new) → OnErr result (new ≡ old) → All IsBlock old.drawn × All IsBlock old.left →
    All IsBlock new.drawn × All IsBlock new.left
next_blocks (Err why) old new draws same all = subst (λ (d : Drawing). All IsBlock d.drawn × All IsBlock d.left) (sym same) all
next_blocks (Ok challenge) old new draws same all =
    let left : All IsBlock (challenge ∷ new.left) = subst (λ (l : List (List ℕ)). All IsBlock l) draws.next all.1 in (
      subst (λ (l : List (List ℕ)). All IsBlock l) (sym draws.drawn)
          (All-append IsBlock old.drawn (challenge ∷ []) all.0 (All-cons IsBlock challenge [] (All-head IsBlock challenge new.left left) (All-nil IsBlock))),
      All-tail IsBlock challenge new.left left,
    )
