-- Stubs of replies are short.
use Rattle.std.proofs.Common.{◌≡◌, ℕ, ◌≤◌, List, length, ap, arith}
use Rattle.ndr_codec.specs.Parts.{FitsText}
use Rattle.wire_base.specs.Numbers.{AreBytes}
use Rattle.wire_base.specs.Units.{AreUnits}
use Rattle.memo_stubs.specs.Memo.{FitsEcho, written_who_reply, written_echo_reply}
use Rattle.memo_stubs.proofs.MemoLaws.{who_stub, reply_stub}
use Rattle.member_server.specs.Memo.{stub_limit}

pub who_stub_short : (name stub : List ℕ) → FitsText name → AreUnits name → stub ≡ written_who_reply name → length stub ≤ stub_limit
who_stub_short name stub fits are is = let short = (who_stub name fits are).short in omega (arith, ap length is, short, fits)

pub echo_stub_short : (bytes stub : List ℕ) → FitsEcho bytes → AreBytes bytes → stub ≡ written_echo_reply bytes → length stub ≤ stub_limit
echo_stub_short bytes stub fits are is = let short = (reply_stub bytes fits are).short in omega (arith, ap length is, short, fits)
