use Rattle.std.proofs.Common.{map}
use Rattle.std.specs.String.{string_bytes}
use Rattle.clap.specs.Words.{app_of}
use Rattle.nt_words.proofs.WordLaws.{reads-values, reads-refused}
use Rattle.nt_words.proofs.words.read_words.Goals as goal

pub returns-in-Ok-read_by : goal.returns-in-Ok-read_by
returns-in-Ok-read_by c =
    reads-values (app_of c.in-Ok.command) c.args.name.now c.args.options.now (map string_bytes c.args.words.now) c.in-Ok-read_by.matches _ c.requires.led c.in-Ok.ensures c.in-Ok-read_by.ensures c.judge.ensures

pub returns-in-Err-read_by : goal.returns-in-Err-read_by
returns-in-Err-read_by c =
    reads-refused (app_of c.in-Ok.command) c.args.name.now c.args.options.now (map string_bytes c.args.words.now) c.in-Err-read_by.refused c.requires.led c.in-Ok.ensures c.in-Err-read_by.ensures
