use Rattle.std.proofs.Common.{rules, map}
use Rattle.std.specs.String.{string_bytes}
use Rattle.nt_words.specs.Forms.{IsLogonForm}
use Rattle.nt_words.specs.Jobs.{logon_form, logon_of}
use Rattle.nt_words.proofs.KindLaws.{built, logon_formed}
use Rattle.nt_words.proofs.logon.logon_words.Goals as goal

pub invariant_of-result : goal.invariant_of-result
invariant_of-result c =
    built IsLogonForm logon_form logon_of logon_formed (map string_bytes c.args.words.now) _ _ _ c.logon_options-options.ensures c.in_ok-matches.ensures (search rules)
