-- A stub of a short reply is short.
use Rattle.std.proofs.Common.{◌≡◌, ◌≤◌, List, ℕ, length, Ok}
use Rattle.wire_base.specs.Numbers.{AreBytes}
use Rattle.logon_stubs.specs.Calls.{reply_of, opnum_of_reply}
use Rattle.logon_stubs.specs.Ranges.{IsShortReply}
use Rattle.logon_stubs.specs.Writing.{CanWriteReply, written_reply}
use Rattle.logon_stubs.specs.declared.calls.Reply.{Reply}
use Rattle.logon_stubs.proofs.GivenLaws.{reply_of-InRange}
use Rattle.logon_stubs.proofs.WrittenLaws.{written_reply-joins}

pub stub_short : (value : Reply) (stub : List ℕ) → AreBytes stub → CanWriteReply value → IsShortReply value →
    reply_of (opnum_of_reply value) stub ≡ Ok value → stub ≡ written_reply value → length stub ≤ 65536
stub_short value stub bytes can short again is =
    rw is (written_reply-joins value can (reply_of-InRange (opnum_of_reply value) stub value bytes again) short)
