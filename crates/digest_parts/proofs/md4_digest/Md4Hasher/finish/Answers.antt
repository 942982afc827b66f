use Rattle.std.proofs.Common.{List, ℕ, ap, ◌∙◌}
use Rattle.digest_parts.specs.Md4.{md4_of, register_bytes, initial_registers, after_blocks}
use Rattle.digest_parts.specs.StandsFor.{StandsFor}
use Rattle.digest_parts.proofs.Blocks.{padded_from_count}
use Rattle.digest_parts.proofs.md4_digest.Md4Hasher.finish.Goals as goal

pub returns : goal.returns
unfolding StandsFor md4_of
returns c = λ m stands.
    let whole = c.update-2.ensures _ (c.update.ensures m stands) in
    let padded = padded_from_count m c.padding.result.now c.to_le_bytes.result c.args.self.count stands.0 c.padding.ensures c.to_le_bytes.ensures in
    c.bytes_of.ensures ∙ ap (λ (h : List ℕ). register_bytes h) (whole.1 ∙ ap (λ (p : List ℕ). after_blocks initial_registers p) padded)
