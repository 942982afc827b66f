use Rattle.std.proofs.Common.{◌∙◌, ap, take, drop}
use Rattle.des_cipher.specs.Des.{des_of, spread_of}
use Rattle.channel_keys.specs.Credentials.{cred_of}
use Rattle.channel_keys.proofs.credentials.cred_back.Goals as goal

pub returns-clause-undone : goal.returns-clause-undone
unfolding cred_of
returns-clause-undone c =
    ap (des_of (spread_of (take 7 (drop 7 c.args.key)))) c.des_back_under.ensures.undone ∙ c.des_back_under-once.ensures.undone
