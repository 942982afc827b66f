use Rattle.std.proofs.Common.{ap, ◌∙◌}
use Rattle.ntlm_messages.specs.Negotiate.{negotiate_of}
use Rattle.ntlm_messages.proofs.NegotiateWritten.{negotiate_back}
use Rattle.ntlm_messages.proofs.negotiate.negotiate_form.Goals as goal

pub returns-clause-read_back : goal.returns-clause-read_back
returns-clause-read_back c =
    ap negotiate_of c.in_ok-negotiate_bytes.ensures.written
    ∙ negotiate_back c.args.value.now c.requires c.in_ok-check_lengths.ensures.fits c.in_ok-negotiate_bytes.ensures.widths
