use Rattle.std.proofs.Common.{◌≡◌, ◌∙◌, ap, reverse}
use Rattle.des_cipher.specs.Bits.{bits_of, bytes_of}
use Rattle.des_cipher.specs.Cipher.{cipher}
use Rattle.des_cipher.specs.Schedule.{round_keys}
use Rattle.des_cipher.specs.Des.{des_of, des_back_of, spread_of}
use Rattle.des_cipher.proofs.DesLaws.{des_back_of-des_of, des_of-des_back_of}
use Rattle.des_cipher.proofs.plain.des_back.Goals as goal

pub returns-clause-value : goal.returns-clause-value
unfolding des_back_of
returns-clause-value c =
    let key = c.args.key in
    let spread : c.write_bits.new.bits ≡ bits_of (spread_of key) = c.write_bits.ensures ∙ ap bits_of c.spread_key.ensures in
    let keys : c.reverse.new.self ≡ reverse (round_keys (bits_of (spread_of key))) =
    c.reverse.ensures.after ∙ ap reverse (c.key_schedule-keys.ensures ∙ ap round_keys spread) in
    c.bytes_from.ensures
    ∙ ap bytes_of (c.encipher.ensures ∙ ap (λ ks. cipher ks c.block_bits.result) keys)
    ∙ ap (λ b. bytes_of (cipher (reverse (round_keys (bits_of (spread_of key)))) b)) c.block_bits.ensures.value

pub returns-clause-undoes : goal.returns-clause-undoes
returns-clause-undoes c plain h = des_back_of-des_of (spread_of c.args.key) plain h

pub returns-clause-undone : goal.returns-clause-undone
returns-clause-undone c =
    let key = c.args.key in
    ap (des_of (spread_of key)) (returns-clause-value c) ∙ des_of-des_back_of (spread_of key) c.args.block c.block_bits.ensures.is_block
