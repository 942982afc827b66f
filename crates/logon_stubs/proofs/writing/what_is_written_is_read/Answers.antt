use Rattle.logon_stubs.proofs.WrittenLaws.{call_of-written_call, AreBytes-written_call, reply_of-written_reply, AreBytes-written_reply, written_call-lt, written_call-content, written_reply-lt, written_reply-few}
use Rattle.logon_stubs.proofs.GivenLaws.{call_of-InRange, reply_of-InRange}
use Rattle.logon_stubs.proofs.WritableLaws.{call_of-CanWrite, call_of-CanWriteInfo, reply_of-CanWrite}
use Rattle.logon_stubs.proofs.writing.what_is_written_is_read.Goals as goal

pub returns-clause-calls : goal.returns-clause-calls
returns-clause-calls c = call_of-written_call

pub returns-clause-replies : goal.returns-clause-replies
returns-clause-replies c = reply_of-written_reply

pub returns-clause-call_bytes : goal.returns-clause-call_bytes
returns-clause-call_bytes c = AreBytes-written_call

pub returns-clause-reply_bytes : goal.returns-clause-reply_bytes
returns-clause-reply_bytes c = AreBytes-written_reply

pub returns-clause-call_limit : goal.returns-clause-call_limit
returns-clause-call_limit c = written_call-lt

pub returns-clause-reply_limit : goal.returns-clause-reply_limit
returns-clause-reply_limit c = written_reply-lt

pub returns-clause-call_short : goal.returns-clause-call_short
returns-clause-call_short c = written_call-content

pub returns-clause-reply_joins : goal.returns-clause-reply_joins
returns-clause-reply_joins c = written_reply-few

pub returns-clause-call_ranges : goal.returns-clause-call_ranges
returns-clause-call_ranges c = call_of-InRange

pub returns-clause-reply_ranges : goal.returns-clause-reply_ranges
returns-clause-reply_ranges c = reply_of-InRange

pub returns-clause-call_writable : goal.returns-clause-call_writable
returns-clause-call_writable c = call_of-CanWrite

pub returns-clause-info_writable : goal.returns-clause-info_writable
returns-clause-info_writable c = call_of-CanWriteInfo

pub returns-clause-reply_writable : goal.returns-clause-reply_writable
returns-clause-reply_writable c = reply_of-CanWrite
