use Rattle.std.proofs.Common.{ap, ◌∙◌}
use Rattle.ntlm_messages.specs.Authenticate.{authenticate_of}
use Rattle.ntlm_messages.proofs.AuthenticateWritten.{authenticate_back}
use Rattle.ntlm_messages.proofs.authenticate.authenticate_form.Goals as goal

pub returns-clause-read_back : goal.returns-clause-read_back
returns-clause-read_back c =
    ap authenticate_of c.in_ok-authenticate_bytes.ensures.written
    ∙ authenticate_back c.args.value.now c.requires c.in_ok-check_lengths.ensures.fits c.in_ok-authenticate_bytes.ensures.widths
