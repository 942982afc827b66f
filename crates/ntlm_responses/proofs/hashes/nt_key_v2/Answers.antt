use Rattle.std.proofs.Common.{ap, sym, ◌∙◌}
use Rattle.digest_parts.specs.Hmac.{hmac_of}
use Rattle.wire_base.specs.Names.{upper_case}
use Rattle.wire_base.proofs.UnitLaws.{utf16_of-append}
use Rattle.ntlm_responses.specs.Hashes.{key_v2_of}
use Rattle.ntlm_responses.proofs.hashes.nt_key_v2.Goals as goal

pub returns : goal.returns
unfolding key_v2_of
returns c =
    let taken = c.update_text.ensures _ _ (c.update_upper_case.ensures _ _ c.new-hmac.ensures) in
    c.finish.ensures _ _ taken ∙ ap (hmac_of c.args.hash.now) (sym (utf16_of-append (upper_case c.args.user.now) c.args.domain.now))
