use Rattle.std.proofs.Common.{◌≡◌, ℕ, ◌<◌, ◌∙◌, [], map, set, get_or, ap, arith}
use Rattle.std.proofs.lemmas.List.{map-set, length-map, length-set}
use Rattle.std.proofs.lemmas.List.Edits.{fill_by_more}
use Rattle.std.proofs.lemmas.List.FromFn.{fill_by_all}
use Rattle.des_cipher.specs.Words.{round_key_bits}
use Rattle.des_cipher.proofs.SoFar.{merged_row, rows_are, key_row}
use Rattle.des_cipher.proofs.word_schedule.round_keys.Goals as goal

pub loop-i-preserved : goal.loop-i-preserved
loop-i-preserved c =
    let i : ℕ = c.loop-i.i in
    let keys = c.loop-i.keys in
    let key = c.args.key.now in
    let x = c.merged.result in
    let below : i < 16 = c.loop-i-test.true in
    let row : round_key_bits x ≡ key_row key i =
    merged_row key i x.odd x.even _ _ c.merged.ensures.odd c.merged.ensures.even (λ j h. c.half_words.ensures.left i j below h) (λ j h. c.half_words.ensures.right i j below h) in
    record {
      room = length-set keys i x ∙ c.loop-i.invariant.room;
      done = λ m h.
          ap (λ z. get_or z m []) (map-set round_key_bits keys i x)
          ∙ ap (λ z. get_or (set (map round_key_bits keys) i z) m []) row
          ∙ fill_by_more (key_row key) (map round_key_bits keys) i [] (omega (arith, length-map keys round_key_bits, c.loop-i.invariant.room, below)) c.loop-i.invariant.done m h;
    }

pub returns : goal.returns
returns c =
    let keys = c.loop-i.keys in
    let key = c.args.key.now in
    fill_by_all (key_row key) (map round_key_bits keys) 16 [] (length-map keys round_key_bits ∙ c.loop-i.invariant.room) (λ m h. c.loop-i.invariant.done m (omega (arith, h, c.loop-i-test.false)))
    ∙ rows_are key c.told-key
