-- Each clause is a law of `proofs/MemoLaws`.
use Rattle.std.proofs.Common.{arith}
use Rattle.memo_stubs.specs.Memo.{who_reply, echo_request, echo_reply, who_of, echo_request_of, echo_reply_of}
use Rattle.memo_stubs.proofs.MemoLaws.{who_stub, request_stub, reply_stub, stub_again}
use Rattle.memo_stubs.proofs.writing.what_is_written_is_read.Goals as goal

pub returns-clause-who : goal.returns-clause-who
unfolding who_of
returns-clause-who c name fits are = stub_again who_reply name _ _ (who_stub name fits are)

pub returns-clause-request : goal.returns-clause-request
unfolding echo_request_of
returns-clause-request c bytes fits are = stub_again echo_request bytes _ _ (request_stub bytes fits are)

pub returns-clause-reply : goal.returns-clause-reply
unfolding echo_reply_of
returns-clause-reply c bytes fits are = stub_again echo_reply bytes _ _ (reply_stub bytes fits are)

pub returns-clause-who_bytes : goal.returns-clause-who_bytes
returns-clause-who_bytes c name fits are = (who_stub name fits are).are_bytes

pub returns-clause-request_bytes : goal.returns-clause-request_bytes
returns-clause-request_bytes c bytes fits are = (request_stub bytes fits are).are_bytes

pub returns-clause-reply_bytes : goal.returns-clause-reply_bytes
returns-clause-reply_bytes c bytes fits are = (reply_stub bytes fits are).are_bytes

pub returns-clause-who_short : goal.returns-clause-who_short
returns-clause-who_short c name fits are = (who_stub name fits are).short

pub returns-clause-request_short : goal.returns-clause-request_short
returns-clause-request_short c bytes fits are = omega (arith, (request_stub bytes fits are).short, fits)

pub returns-clause-reply_short : goal.returns-clause-reply_short
returns-clause-reply_short c bytes fits are = omega (arith, (reply_stub bytes fits are).short, fits)
