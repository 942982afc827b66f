use Rattle.std.proofs.Common.{rules, map}
use Rattle.std.specs.String.{string_bytes}
use Rattle.nt_words.specs.Forms.{IsControllerForm}
use Rattle.nt_words.specs.Jobs.{controller_form, controller_of}
use Rattle.nt_words.proofs.KindLaws.{built, controller_formed}
use Rattle.nt_words.proofs.controller.controller_words.Goals as goal

pub invariant_of-result : goal.invariant_of-result
invariant_of-result c =
    built IsControllerForm controller_form controller_of controller_formed (map string_bytes c.args.words.now) _ _ _ c.controller_options-options.ensures c.in_ok-matches.ensures (search rules)
