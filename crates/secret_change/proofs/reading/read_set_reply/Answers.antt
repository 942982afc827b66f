-- What is read has the layout, and what has it is read, by the law on layouts of `ndr_codec`.
use Rattle.std.proofs.Common.{◌∙◌, arith}
use Rattle.secret_change.specs.Calls.{set_reply, set_reply_of}
use Rattle.secret_change.proofs.SetLaws.{Begins-parsed, answer_found, exact_answer}
use Rattle.secret_change.proofs.reading.read_set_reply.Goals as goal

pub returns-clause-found : goal.returns-clause-found
unfolding set_reply_of
returns-clause-found c = answer_found set_reply c.args.stub.now (λ i. omega (arith, c.type_inv.stub i)) _ (exact_answer _ _ c.set_reply_in.ensures)

pub returns-clause-only : goal.returns-clause-only
unfolding set_reply_of
returns-clause-only c value begins =
    c.set_reply_in.ensures ∙ Begins-parsed set_reply c.args.stub.now (λ i. omega (arith, c.type_inv.stub i)) value begins
