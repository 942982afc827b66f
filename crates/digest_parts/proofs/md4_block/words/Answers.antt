use Rattle.std.proofs.Common.{◌≡◌, length, ◌∙◌, sym, arith, inl, inr, rules}
use Rattle.std.proofs.lemmas.Bool.{cases_lt}
use Rattle.std.proofs.lemmas.List.{same_lists, get_or-set_same, get_or-set_other, get_or_default}
use Rattle.digest_parts.specs.Md4.{words_of}
use Rattle.digest_parts.proofs.Words.{length-words_of, words_of_at}
use Rattle.digest_parts.proofs.md4_block.words.Goals as goal

pub loop-i-preserved : goal.loop-i-preserved
loop-i-preserved c = (
  search rules,
  λ k h. elim (cases_lt k c.loop-i.i) [
    | inl before ↦ get_or-set_other c.loop-i.words c.loop-i.i k c.from_le_bytes.result 0 (omega arith) ∙ c.loop-i.invariant.1 k before
    | inr after ↦
        let here : k ≡ c.loop-i.i = omega arith in
        rw here
        (get_or-set_same c.loop-i.words c.loop-i.i c.from_le_bytes.result 0 (omega arith) ∙ c.from_le_bytes.ensures
        ∙ sym (words_of_at c.args.block.now c.loop-i.i (omega arith)))
  ],
)

pub returns : goal.returns
returns c =
    let len : length (words_of c.args.block.now) ≡ 16 = omega (arith, length-words_of c.args.block.now) in
    same_lists c.loop-i.words (words_of c.args.block.now) (omega arith) (λ k d h.
    get_or_default c.loop-i.words k d 0 h ∙ c.loop-i.invariant.1 k (omega arith) ∙ get_or_default (words_of c.args.block.now) k 0 d (omega arith))
