use Rattle.std.proofs.Common.{rules, map}
use Rattle.std.specs.String.{string_bytes}
use Rattle.nt_words.specs.Forms.{IsMemberForm}
use Rattle.nt_words.specs.Jobs.{member_form, member_of}
use Rattle.nt_words.proofs.KindLaws.{built, member_formed}
use Rattle.nt_words.proofs.member.member_words.Goals as goal

pub invariant_of-result : goal.invariant_of-result
invariant_of-result c =
    built IsMemberForm member_form member_of member_formed (map string_bytes c.args.words.now) _ _ _ c.member_options-options.ensures c.in_ok-matches.ensures (search rules)
