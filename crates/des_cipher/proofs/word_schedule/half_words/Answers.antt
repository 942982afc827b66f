use Rattle.des_cipher.proofs.SoFar.{nothing_yet, added}
use Rattle.des_cipher.specs.KeyPlaces.{left_place, right_place}
use Rattle.des_cipher.proofs.word_schedule.half_words.Goals as goal

pub loop-i-init : goal.loop-i-init
loop-i-init c = record {
  left = λ k j hk hj. nothing_yet c.args.key.now (left_place k j) k j hk;
  right = λ k j hk hj. nothing_yet c.args.key.now (right_place k j) k j hk;
}

pub loop-i-preserved : goal.loop-i-preserved
loop-i-preserved c = record {
  left = λ k j hk hj. added c.args.key.now c.loop-i.i (left_place k j) j _ _ _ (c.add.ensures k hk) (c.loop-i.invariant.left k j hk hj) (c.left_row.ensures k j hk hj);
  right = λ k j hk hj. added c.args.key.now c.loop-i.i (right_place k j) j _ _ _ (c.add-in-loop-i.ensures k hk) (c.loop-i.invariant.right k j hk hj) (c.right_row.ensures k j hk hj);
}
