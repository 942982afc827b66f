use Rattle.std.proofs.Common.{◌≡◌, ℕ, ◌<◌, length, slice_index}
use Rattle.digest_parts.specs.Md4.{words_of}
use Rattle.digest_parts.proofs.md4_block.words.Given as goal

-- the words so far are the block's
abbrev pub invariant-loop-i : goal.invariant-loop-i
invariant-loop-i l = (length l.words ≡ 16) × ((k : ℕ) → k < l.i → slice_index l.words k ≡ slice_index (words_of l.block) k)
