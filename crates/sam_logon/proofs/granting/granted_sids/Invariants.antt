-- The identifiers so far, each with its attributes.
use Rattle.std.proofs.Common.{◌≡◌, take}
use Rattle.sam_logon.specs.Granting.{extra_of}
use Rattle.sam_logon.proofs.granting.granted_sids.Given as goal

abbrev pub invariant-loop-sid : goal.invariant-loop-sid
invariant-loop-sid l = l.granted ≡ extra_of (take l.sid-index l.sids)
