use Rattle.std.proofs.Common.{◌∙◌, rules}
use Rattle.std.specs.List.{range_with_len}
use Rattle.std.proofs.lemmas.List.{map-id}
use Rattle.std.proofs.lemmas.List.FromFn.{fill_by_all}
use Rattle.rc4_stream.proofs.state.ordered_table.Goals as goal

pub returns : goal.returns
returns c =
    fill_by_all (λ k. k) c.loop-i.table 256 0 c.loop-i.invariant.room (search rules) ∙ map-id (range_with_len 0 256)
