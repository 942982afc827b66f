use Rattle.ntlm_messages.specs.Authenticate.{IsAuthenticate, IsAuthenticateRefusal, CanWriteAuthenticate, authenticate_of, authenticate_shown}
use Rattle.ntlm_messages.proofs.FieldLaws.{shown_found, shown_only, shown_refused}
use Rattle.ntlm_messages.proofs.AuthenticateLaws.{authenticate_found, authenticate_only, authenticate_refused, authenticate_writable}
use Rattle.ntlm_messages.proofs.authenticate.view_authenticate.Goals as goal

pub returns-clause-found : goal.returns-clause-found
returns-clause-found c = shown_found authenticate_shown c.lend_authenticate.result (authenticate_of c.args.bytes.now) (IsAuthenticate c.args.bytes.now) c.lend_authenticate.ensures.exact (authenticate_found c.args.bytes.now)

pub returns-clause-only : goal.returns-clause-only
returns-clause-only c = λ value h. shown_only authenticate_shown c.lend_authenticate.result (authenticate_of c.args.bytes.now) value c.lend_authenticate.ensures.exact (authenticate_only c.args.bytes.now value h)

pub returns-clause-refused : goal.returns-clause-refused
returns-clause-refused c = shown_refused authenticate_shown c.lend_authenticate.result (authenticate_of c.args.bytes.now) (IsAuthenticateRefusal c.args.bytes.now) c.lend_authenticate.ensures.exact (authenticate_refused c.args.bytes.now)

pub returns-clause-writable : goal.returns-clause-writable
returns-clause-writable c =
    shown_found authenticate_shown c.lend_authenticate.result (authenticate_of c.args.bytes.now) CanWriteAuthenticate c.lend_authenticate.ensures.exact (λ value e. authenticate_writable c.args.bytes.now value (authenticate_found c.args.bytes.now value e))
