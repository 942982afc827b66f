use Rattle.std.proofs.Common.{◌≡◌, ◌∙◌, ap, refl, ℕ, List, arith}
use Rattle.rc4_stream.specs.Rc4.{State, shuffled, state_after}
use Rattle.rc4_stream.proofs.StepLemmas.{shuffled_more}
use Rattle.rc4_stream.proofs.state.Cells.scheduled.Goals as goal

pub loop-i-init : goal.loop-i-init
unfolding shuffled
loop-i-init c = record { table = c.ordered_table-table.ensures; j = refl }

pub loop-i-preserved : goal.loop-i-preserved
loop-i-preserved c =
    let more = shuffled_more c.args.key.now c.loop-i.i c.loop-i.table c.loop-i.j c.loop-i.invariant.table c.loop-i.invariant.j c.loop-i-test.true in
    record { table = more.0; j = more.1 }

pub returns : goal.returns
unfolding state_after
returns c =
    let key = c.args.key.now in
    let all : c.loop-i.i ≡ 256 = omega arith in
    ap (λ (t : List ℕ). let s : State = record { table = t; i = 0; j = 0 } in s) (c.loop-i.invariant.table ∙ ap (λ n. (shuffled key n).table) all)
