use Rattle.std.proofs.Common.{arith}
use Rattle.memo_stubs.specs.Memo.{echo_reply, echo_reply_of}
use Rattle.memo_stubs.proofs.MemoLaws.{answer_found, answer_holds, answer_only, reply_fits}
use Rattle.memo_stubs.proofs.reading.read_echo_reply.Goals as goal

pub returns-clause-found : goal.returns-clause-found
unfolding echo_reply_of
returns-clause-found c = answer_found echo_reply c.args.stub.now (λ i. omega (arith, c.type_inv.stub i)) _ c.echo_reply_in.ensures

pub returns-clause-fits : goal.returns-clause-fits
unfolding echo_reply_of
returns-clause-fits c = answer_holds echo_reply c.args.stub.now (λ i. omega (arith, c.type_inv.stub i)) _ (reply_fits c.args.stub.now) _ c.echo_reply_in.ensures

pub returns-clause-only : goal.returns-clause-only
unfolding echo_reply_of
returns-clause-only c = answer_only echo_reply c.args.stub.now (λ i. omega (arith, c.type_inv.stub i)) _ c.echo_reply_in.ensures
