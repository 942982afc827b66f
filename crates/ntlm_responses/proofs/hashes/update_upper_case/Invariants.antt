use Rattle.std.proofs.Common.{ℕ, List, take, ◌++◌}
use Rattle.digest_parts.specs.StandsFor.{StandsForUnder}
use Rattle.wire_base.specs.Names.{upper_case}
use Rattle.wire_base.specs.Units.{utf16_of}
use Rattle.ntlm_responses.proofs.hashes.update_upper_case.Given as goal

-- the units so far
abbrev pub invariant-loop-unit : goal.invariant-loop-unit
invariant-loop-unit l =
    (key message : List ℕ) → StandsForUnder l.fn.hmac key message → StandsForUnder l.hmac key (message ++ utf16_of (upper_case (take l.unit-index l.text)))
