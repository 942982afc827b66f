use Rattle.std.proofs.Common.{take}
use Rattle.digest_parts.specs.StandsFor.{StandsFor}
use Rattle.wire_base.specs.Units.{utf16_of}
use Rattle.ntlm_responses.proofs.hashes.nt_hash.Given as goal

-- the hasher has taken the units so far
abbrev pub invariant-loop-unit : goal.invariant-loop-unit
invariant-loop-unit l = StandsFor l.hasher (utf16_of (take l.unit-index l.password))
