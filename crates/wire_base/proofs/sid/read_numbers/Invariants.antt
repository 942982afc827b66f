-- The numbers so far and those of the rest are the numbers of the text.
use Rattle.std.proofs.Common.{◌≡◌, ◌-◌, ◌≤◌, length, option_map}
use Rattle.wire_base.specs.Sid.{numbers_of, parts_of}
use Rattle.wire_base.proofs.SidLaws.{with_front, rest_size}
use Rattle.wire_base.proofs.sid.read_numbers.Given as goal

abbrev pub invariant-loop-rest : goal.invariant-loop-rest
invariant-loop-rest l = record {
  so_far : with_front l.numbers (numbers_of (15 - length l.numbers) (parts_of (option_map (λ t. t.now) l.rest))) ≡ numbers_of 15 (parts_of (option_map (λ t. t.now) l.text));
  at_most : length l.numbers ≤ 15;
}

abbrev pub decreases-loop-rest : goal.decreases-loop-rest
decreases-loop-rest l = rest_size (option_map (λ t. t.now) l.rest)
