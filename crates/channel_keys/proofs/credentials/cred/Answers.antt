use Rattle.std.proofs.Common.{◌∙◌, ap, sym, take}
use Rattle.des_cipher.specs.Des.{des_back_of, spread_of}
use Rattle.channel_keys.specs.Credentials.{cred_back_of}
use Rattle.channel_keys.proofs.CredLaws.{cred_back_of-cred_of}
use Rattle.channel_keys.proofs.credentials.cred.Goals as goal

pub returns-clause-undone : goal.returns-clause-undone
unfolding cred_back_of
returns-clause-undone c =
    ap (des_back_of (spread_of (take 7 c.args.key))) c.des_under.ensures.undone ∙ c.des_under-once.ensures.undone

pub returns-clause-one_to_one : goal.returns-clause-one_to_one
returns-clause-one_to_one c other is same =
    sym (cred_back_of-cred_of c.args.key other is) ∙ ap (cred_back_of c.args.key) same ∙ returns-clause-undone c
