-- No file so far has the name.
use Rattle.std.specs.Str.{bytes_eq}
use Rattle.wire_base.specs.Maps.{has_key}
use Rattle.wire_base.proofs.PlaceLaws.{NoneBefore}
use Rattle.outside.proofs.map_files.place.Given as goal

abbrev pub invariant-loop-index : goal.invariant-loop-index
invariant-loop-index l = NoneBefore (has_key bytes_eq l.name) l.files l.index
