use Rattle.controller_calls.proofs.LevelLaws.{can_write_at, short_at}
use Rattle.controller_calls.proofs.logon.reply_info.Goals as goal

pub returns-clause-writable : goal.returns-clause-writable
returns-clause-writable c =
    rw (c.at_level.ensures, c.crypt_key-key.ensures) (can_write_at c.args.validation c.args.key c.args.info c.requires.level c.requires.writable)

pub returns-clause-short : goal.returns-clause-short
returns-clause-short c = λ few.
    rw (c.at_level.ensures, c.crypt_key-key.ensures) (short_at c.args.validation c.args.key c.args.info c.requires.level few)
