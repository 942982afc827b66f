-- What is read has the layout, and what has it is read, by the law on layouts of `ndr_codec`.
use Rattle.std.proofs.Common.{arith}
use Rattle.secret_change.specs.Calls.{set_call, set_call_of}
use Rattle.secret_change.proofs.SetLaws.{answer_found, answer_only}
use Rattle.secret_change.proofs.reading.read_set.Goals as goal

pub returns-clause-found : goal.returns-clause-found
unfolding set_call_of
returns-clause-found c = answer_found set_call c.args.stub.now (λ i. omega (arith, c.type_inv.stub i)) _ c.set_call_in.ensures

pub returns-clause-only : goal.returns-clause-only
unfolding set_call_of
returns-clause-only c = answer_only set_call c.args.stub.now (λ i. omega (arith, c.type_inv.stub i)) _ c.set_call_in.ensures
