use Rattle.std.proofs.Common.{◌≤◌, ◌++◌, ℕ, ◌-◌, length, take, drop, sym, ap, subst, ◌∙◌, arith, length-take}
use Rattle.std.specs.Io.KnownBytes.{Appends}
use Rattle.std.proofs.KnownBytes.{Appends-trans, Appends-kept}
use lib.Seq.{take-add, take-take}
use Rattle.outside.proofs.socket_link.written.Goals as goal
use Rattle.outside.proofs.socket_link.written.Goals.{in-Ok, in-Err-2}

pub loop-preserved : goal.loop-preserved
loop-preserved g c =
    let done = c.loop.done in
    let xs = c.args.bytes.now in
    let before = c.loop.invariant in
    let Holds : ℕ → Type 0 = λ k. (k ≤ length xs) × Appends (g.T.Write.contents c.args.stream.now) (g.T.Write.contents c.write.new.self) (take k xs) in
    elim c.match-write.branch [
      | in-Ok w ↦
          let n = w.in-Ok.count in
          let fits = w.in-Ok.ensures.bound in
          let most = length-take (length xs - done) (drop done xs) in
          let joined = ap (λ l. take done xs ++ l) (take-take n (length xs - done) (drop done xs) (omega arith)) ∙ sym (take-add done n xs) in
          subst Holds (sym w.done-is) (omega arith, subst (Appends _ _) joined (Appends-trans _ _ _ _ _ before.1 w.in-Ok.ensures.bytes))
      | in-Err-2 w ↦ subst Holds (sym w.done-is) (before.0, Appends-kept _ _ _ _ before.1 w.in-Err-2.ensures.bytes)
    ]
