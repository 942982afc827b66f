use Rattle.std.proofs.Common.{ap, ◌∙◌}
use Rattle.ntlm_messages.specs.Challenge.{challenge_of}
use Rattle.ntlm_messages.proofs.ChallengeWritten.{challenge_back}
use Rattle.ntlm_messages.proofs.challenge.challenge_form.Goals as goal

pub returns-clause-read_back : goal.returns-clause-read_back
returns-clause-read_back c =
    ap challenge_of c.in_ok-challenge_bytes.ensures.written
    ∙ challenge_back c.args.value.now c.requires c.in_ok-check_lengths.ensures.fits c.in_ok-challenge_bytes.ensures.widths
