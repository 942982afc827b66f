-- The bytes so far in upper case.
use Rattle.std.proofs.Common.{◌≡◌, take}
use Rattle.wire_base.specs.Names.{upper_case}
use Rattle.account_table.proofs.accounts.upper_bytes.Given as goal

abbrev pub invariant-loop-byte : goal.invariant-loop-byte
invariant-loop-byte l = l.upper.items ≡ upper_case (take l.byte-index l.bytes)
