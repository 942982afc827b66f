use Rattle.std.proofs.Common.{◌≡◌, ◌-◌, ◌++◌, take, replicate}
use Rattle.wire_base.specs.Names.{upper_case}
use Rattle.ntlm_responses.proofs.hashes.lm_key.Given as goal

-- the bytes so far, and zeros
abbrev pub invariant-loop-i : goal.invariant-loop-i
invariant-loop-i l = l.key ≡ upper_case (take l.i l.password) ++ replicate (14 - l.i) 0
