use Rattle.std.proofs.Common.{◌<◌, ap, take, drop, ◌∙◌}
use Rattle.std.proofs.lemmas.List.Elements.{All-from_get_or}
use Rattle.des_cipher.specs.Des.{des_of, des_back_of, spread_of, IsBlock}
use Rattle.des_cipher.proofs.DesLaws.{des_back_of-des_of}
use Rattle.channel_keys.proofs.parts.des_under.Goals as goal

pub returns-clause-undone : goal.returns-clause-undone
returns-clause-undone c =
    let key = spread_of (take 7 (drop c.args.from c.args.key.now)) in
    let block = c.args.block.now in
    let is : IsBlock block = record {
      eight = c.told-block;
      bytes = All-from_get_or (λ b. b < 256) block 0 (λ i h. c.fits-block i);
    } in
    ap (des_back_of key) (c.des_block.ensures ∙ ap (λ seven. des_of (spread_of seven) block) c.seven.ensures) ∙ des_back_of-des_of key block is
