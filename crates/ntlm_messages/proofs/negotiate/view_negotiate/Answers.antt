use Rattle.ntlm_messages.specs.Negotiate.{IsNegotiate, IsNegotiateRefusal, CanWriteNegotiate, negotiate_of, negotiate_shown}
use Rattle.ntlm_messages.proofs.FieldLaws.{shown_found, shown_only, shown_refused}
use Rattle.ntlm_messages.proofs.NegotiateLaws.{negotiate_found, negotiate_only, negotiate_refused, negotiate_writable}
use Rattle.ntlm_messages.proofs.negotiate.view_negotiate.Goals as goal

pub returns-clause-found : goal.returns-clause-found
returns-clause-found c = shown_found negotiate_shown c.lend_negotiate.result (negotiate_of c.args.bytes.now) (IsNegotiate c.args.bytes.now) c.lend_negotiate.ensures.exact (negotiate_found c.args.bytes.now)

pub returns-clause-only : goal.returns-clause-only
returns-clause-only c = λ value h. shown_only negotiate_shown c.lend_negotiate.result (negotiate_of c.args.bytes.now) value c.lend_negotiate.ensures.exact (negotiate_only c.args.bytes.now value h)

pub returns-clause-refused : goal.returns-clause-refused
returns-clause-refused c = shown_refused negotiate_shown c.lend_negotiate.result (negotiate_of c.args.bytes.now) (IsNegotiateRefusal c.args.bytes.now) c.lend_negotiate.ensures.exact (negotiate_refused c.args.bytes.now)

pub returns-clause-writable : goal.returns-clause-writable
returns-clause-writable c =
    shown_found negotiate_shown c.lend_negotiate.result (negotiate_of c.args.bytes.now) CanWriteNegotiate c.lend_negotiate.ensures.exact (λ value e. negotiate_writable c.args.bytes.now value (negotiate_found c.args.bytes.now value e))
