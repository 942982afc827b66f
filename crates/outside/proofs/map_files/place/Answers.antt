use Rattle.std.proofs.Common.{sym, ◌∙◌, arith}
use Rattle.std.specs.Str.{bytes_eq}
use Rattle.wire_base.specs.Maps.{has_key}
use Rattle.wire_base.proofs.PlaceLaws.{here_first}
use Rattle.outside.proofs.map_files.place.Goals as goal

pub returns-then-has_name-clause-place : goal.returns-then-has_name-clause-place
returns-then-has_name-clause-place c =
    sym (here_first (has_key bytes_eq c.args.name.now) c.args.files.now c.loop-index.index c.index-files-index.result c.loop-index.invariant
    (omega (arith, c.loop-index-test.true, c.loop-index.auto.index-end)) c.index-files-index.is (sym c.has_name.ensures ∙ c.if-has_name.true))
