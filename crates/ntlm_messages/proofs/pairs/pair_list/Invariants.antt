use Rattle.std.proofs.Common.{◌≡◌, take}
use Rattle.std.specs.List.{flat_map}
use Rattle.ntlm_messages.specs.Pairs.{pair_bytes}
use Rattle.ntlm_messages.proofs.pairs.pair_list.Given as goal

abbrev pub invariant-loop-id : goal.invariant-loop-id
invariant-loop-id l = l.out.items ≡ flat_map pair_bytes (take l.id-index l.pairs)
