use Rattle.std.proofs.Common.{◌≡◌, ◌++◌, take}
use Rattle.std.specs.List.{flat_map}
use Rattle.nt_top.specs.Show.{pair_line}
use Rattle.nt_top.proofs.show.put_pairs.Given as goal

abbrev pub invariant-loop-id : goal.invariant-loop-id
invariant-loop-id l = l.lines.items ≡ l.initial.lines.items ++ flat_map pair_line (take l.id-index l.pairs)
