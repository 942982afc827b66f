use Rattle.ntlm_messages.specs.Challenge.{IsChallenge, IsChallengeRefusal, CanWriteChallenge, challenge_of, challenge_shown}
use Rattle.ntlm_messages.proofs.FieldLaws.{shown_found, shown_only, shown_refused}
use Rattle.ntlm_messages.proofs.ChallengeLaws.{challenge_found, challenge_only, challenge_refused, challenge_writable}
use Rattle.ntlm_messages.proofs.challenge.view_challenge.Goals as goal

pub returns-clause-found : goal.returns-clause-found
returns-clause-found c = shown_found challenge_shown c.lend_challenge.result (challenge_of c.args.bytes.now) (IsChallenge c.args.bytes.now) c.lend_challenge.ensures.exact (challenge_found c.args.bytes.now)

pub returns-clause-only : goal.returns-clause-only
returns-clause-only c = λ value h. shown_only challenge_shown c.lend_challenge.result (challenge_of c.args.bytes.now) value c.lend_challenge.ensures.exact (challenge_only c.args.bytes.now value h)

pub returns-clause-refused : goal.returns-clause-refused
returns-clause-refused c = shown_refused challenge_shown c.lend_challenge.result (challenge_of c.args.bytes.now) (IsChallengeRefusal c.args.bytes.now) c.lend_challenge.ensures.exact (challenge_refused c.args.bytes.now)

pub returns-clause-writable : goal.returns-clause-writable
returns-clause-writable c =
    shown_found challenge_shown c.lend_challenge.result (challenge_of c.args.bytes.now) CanWriteChallenge c.lend_challenge.ensures.exact (λ value e. challenge_writable c.args.bytes.now value (challenge_found c.args.bytes.now value e))
