use Rattle.std.proofs.Common.{rules, map}
use Rattle.std.specs.String.{string_bytes}
use Rattle.nt_words.specs.Forms.{IsDrillForm}
use Rattle.nt_words.specs.Jobs.{drill_form, drill_of}
use Rattle.nt_words.proofs.KindLaws.{built, drill_formed}
use Rattle.nt_words.proofs.drill.drill_words.Goals as goal

pub invariant_of-result : goal.invariant_of-result
invariant_of-result c =
    built IsDrillForm drill_form drill_of drill_formed (map string_bytes c.args.words.now) _ _ _ c.drill_options-options.ensures c.in_ok-matches.ensures (search rules)
