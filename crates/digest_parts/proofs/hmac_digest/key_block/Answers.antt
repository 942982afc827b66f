use Rattle.std.proofs.Common.{◌≡◌, nat_lt, length, false, arith, refl}
use Rattle.std.proofs.lemmas.Bool.Decides.{nat_tests}
use Rattle.std.proofs.lemmas.List.{drop-replicate}
use Rattle.digest_parts.specs.Hmac.{key_block, shortened}
use Rattle.digest_parts.proofs.hmac_digest.key_block.Goals as goal

pub returns-else-key-gt64 : goal.returns-else-key-gt64
unfolding key_block shortened
returns-else-key-gt64 c =
    let short : nat_lt 64 (length c.args.key.now) ≡ false = grind (arith, nat_tests) in
    rw (short, c.copy_from_slice-else-key-gt64.ensures.after, drop-replicate) refl
