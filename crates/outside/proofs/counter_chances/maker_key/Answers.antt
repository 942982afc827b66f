use Rattle.std.proofs.Common.{ap, ◌∙◌}
use Rattle.rand_core.specs.Stream.{fill_bytes}
use Rattle.rand_core.specs.Steps.{steps_u32, stream_of, word_bytes}
use Rattle.rand_chacha.specs.ChaCha.{next_word}
use Rattle.outside.specs.Counter.{maker_key_of}
use Rattle.outside.proofs.counter_chances.maker_key.Goals as goal

pub returns : goal.returns
unfolding fill_bytes stream_of word_bytes maker_key_of
returns c =
    ap (λ p. p.0) c.fill_bytes.ensures
    ∙ ap (λ g. (fill_bytes 16 (stream_of (steps_u32 (next_word 10)) g)).0) c.from_seed.ensures
