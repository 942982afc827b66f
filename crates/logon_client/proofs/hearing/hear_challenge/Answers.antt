use Rattle.std.proofs.Common.{◌≡◌, IfOk, subst}
use Rattle.ntlm_flags.specs.Flags.{agreed_flags}
use Rattle.ntlm_messages.specs.Challenge.{challenge_shown}
use Rattle.logon_client.specs.Machine.{hear_agreed}
use Rattle.logon_client.specs.Plans.{offer_of}
use Rattle.logon_client.proofs.hearing.hear_challenge.Goals as goal

pub returns-in-Ok : goal.returns-in-Ok
returns-in-Ok c =
    let flags : c.agreed_flags-flags.result ≡ agreed_flags (offer_of c.args.work.task.auth) c.args.challenge.now.flags = cc in
    rw c.in-Ok.ensures.exact
    (subst (λ f. IfOk c.hear_agreed.result (λ h. h ≡ hear_agreed f (challenge_shown c.args.challenge.now) c.in-Ok.pairs c.args.receive c.args.link c.args.work)) flags c.hear_agreed.ensures)
