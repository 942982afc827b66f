use Rattle.std.proofs.Common.{◌∙◌, ap, sym}
use Rattle.ntlm_seal.specs.Directions.{combine}
use Rattle.ntlm_seal.specs.Sessions.{verdict_of, SessionState}
use Rattle.ntlm_seal.proofs.AcceptLaws.{verdict_accepts, verdict_of-signature_of}
use Rattle.ntlm_seal.proofs.session.Session.open.Goals as goal

pub returns-clause-accepts : goal.returns-clause-accepts
returns-clause-accepts c whole room =
    let unit = c.args.unit.now in
    let d = c.args.self.now.receiving in
    let plain = combine d unit c.args.from c.args.to in
    let answer = c.open-opened.ensures.answer ∙ ap (λ (s : SessionState). verdict_of s.receiving (combine s.receiving unit c.args.from c.args.to) c.args.from c.args.to c.args.signature.now) c.self.view_is in (
      λ e. verdict_accepts d plain c.args.from c.args.to c.args.signature.now c.told-signature c.fits-signature (sym answer ∙ e),
      λ e. answer ∙ ap (verdict_of d plain c.args.from c.args.to) e ∙ verdict_of-signature_of d plain c.args.from c.args.to room,
    )
