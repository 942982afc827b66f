use Rattle.std.proofs.Common.{sym, ◌∙◌, arith}
use Rattle.wire_base.specs.Maps.{has_key}
use Rattle.wire_base.proofs.PlaceLaws.{here_first}
use Rattle.wire_base.proofs.maps.place.Goals as goal

pub returns-then-is_key-clause-place : goal.returns-then-is_key-clause-place
returns-then-is_key-clause-place g c =
    sym (here_first (has_key g.S.Sought.same c.args.sought.now) c.args.entries.now c.loop-index.index c.index-entries-index.result c.loop-index.invariant
    (omega (arith, c.loop-index-test.true, c.loop-index.auto.index-end)) c.index-entries-index.is (sym c.is_key.ensures ∙ c.if-is_key.true))
