use Rattle.std.proofs.Common.{refl}
use Rattle.des_cipher.specs.Bits.{number_bits, permuted}
use Rattle.des_cipher.proofs.Places.{read, from_place, is_apart, is_sound, Moved-exchanged, moved_twice, permuted_by}
use Rattle.des_cipher.proofs.exchanges.last.Goals as goal

pub returns : goal.returns
unfolding read number_bits permuted from_place is_apart is_sound
returns c =
    let x = c.args.block in
    let m1 = Moved-exchanged c.exchange-x.result x 33 0x55555555 c.exchange-x.ensures refl in
    let m2 = moved_twice _ _ _ _ _ (Moved-exchanged c.exchange-x-2.result c.exchange-x.result 24 0xff00ff00 c.exchange-x-2.ensures refl) m1 in
    let m3 = moved_twice _ _ _ _ _ (Moved-exchanged c.exchange-x-3.result c.exchange-x-2.result 30 0xcccccccc c.exchange-x-3.ensures refl) m2 in
    let m4 = moved_twice _ _ _ _ _ (Moved-exchanged c.exchange-x-4.result c.exchange-x-3.result 48 0xffff c.exchange-x-4.ensures refl) m3 in
    let m5 = moved_twice _ _ _ _ _ (Moved-exchanged c.exchange.result c.exchange-x-4.result 36 0x0f0f0f0f c.exchange.ensures refl) m4 in
    permuted_by c.exchange.result x _ m5
