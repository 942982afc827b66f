use Rattle.std.proofs.Common.{◌∙◌, ◌<◌, ap, map, rules}
use Rattle.std.proofs.lemmas.List.Elements.{All-from_get_or}
use Rattle.des_cipher.specs.Bits.{bytes_of}
use Rattle.des_cipher.specs.Cipher.{cipher}
use Rattle.des_cipher.specs.Words.{round_key_bits}
use Rattle.des_cipher.proofs.Bytes.{bits_of_read, bytes_of_word}
use Rattle.des_cipher.proofs.des.encipher_bytes.Goals as goal

pub returns-clause-value : goal.returns-clause-value
returns-clause-value c =
    c.to_be_bytes.ensures
    ∙ bytes_of_word c.encipher.result
    ∙ ap bytes_of (c.encipher.ensures ∙ ap (cipher (map round_key_bits c.args.keys.now)) (bits_of_read c.args.block c.from_be_bytes.result (search rules) (λ i. search rules) c.from_be_bytes.ensures))

pub returns-clause-is_block : goal.returns-clause-is_block
returns-clause-is_block c = record {
  eight = search rules;
  bytes = All-from_get_or (λ b. b < 256) c.args.block 0 (λ i h. search rules);
}
