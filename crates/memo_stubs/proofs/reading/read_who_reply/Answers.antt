use Rattle.std.proofs.Common.{arith}
use Rattle.memo_stubs.specs.Memo.{who_reply, who_of}
use Rattle.memo_stubs.proofs.MemoLaws.{answer_found, answer_only}
use Rattle.memo_stubs.proofs.reading.read_who_reply.Goals as goal

pub returns-clause-found : goal.returns-clause-found
unfolding who_of
returns-clause-found c = answer_found who_reply c.args.stub.now (λ i. omega (arith, c.type_inv.stub i)) _ c.who_in.ensures

pub returns-clause-only : goal.returns-clause-only
unfolding who_of
returns-clause-only c = answer_only who_reply c.args.stub.now (λ i. omega (arith, c.type_inv.stub i)) _ c.who_in.ensures
