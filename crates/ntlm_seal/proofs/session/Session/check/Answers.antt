use Rattle.std.proofs.Common.{◌∙◌, ap, sym}
use Rattle.ntlm_seal.specs.Sessions.{verdict_of, SessionState}
use Rattle.ntlm_seal.proofs.AcceptLaws.{verdict_accepts, verdict_of-signature_of}
use Rattle.ntlm_seal.proofs.session.Session.check.Goals as goal

pub returns-clause-accepts : goal.returns-clause-accepts
returns-clause-accepts c whole room =
    let answer = c.check-answer.ensures.answer ∙ ap (λ (s : SessionState). verdict_of s.receiving c.args.unit.now 0 0 c.args.signature.now) c.self.view_is in (
      λ e. verdict_accepts c.args.self.now.receiving c.args.unit.now 0 0 c.args.signature.now c.told-signature c.fits-signature (sym answer ∙ e),
      λ e. answer ∙ ap (verdict_of c.args.self.now.receiving c.args.unit.now 0 0) e ∙ verdict_of-signature_of c.args.self.now.receiving c.args.unit.now 0 0 room,
    )
