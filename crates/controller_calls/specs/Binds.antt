-- How many contexts a bind with a trailer has (C706 12.6.4.3, MS-RPCE 2.2.2.11): each has at least 24 bytes, behind 28
-- of the unit, and a trailer's 8 and its value follow, in at most 5,840 bytes.
use Rattle.std.specs.Prelude.{ℕ, ◌≡◌, ◌≤◌, ◌+◌, ◌-◌, ◌/◌, List, length, Some, Ok}
use Rattle.rpc_units.specs.declared.unit.Unit.{Unit as RpcUnit}
use Rattle.rpc_units.specs.declared.unit.Body.{Body}
use Rattle.rpc_units.specs.declared.unit.Body.TheVariants.{Auth3, Bind, BindAck, BindNak, Fault, Request, Response}
use Rattle.rpc_units.specs.declared.unit.Trailer.{Trailer}
use Rattle.rpc_units.specs.Reading.{unit_of}

-- 241: as many as there is room for beside a value of 1 byte
abbrev pub sealed_context_limit : ℕ
sealed_context_limit = (5840 - (28 + 8 + 1)) / 24

-- of other units nothing is said
abbrev pub FewContexts : Body → Type 0
FewContexts (Bind send receive group contexts) = length contexts ≤ sealed_context_limit
FewContexts (BindAck send receive group results) = Unit {0}
FewContexts (BindNak reason) = Unit {0}
FewContexts Auth3 = Unit {0}
FewContexts (Request hint context opnum stub) = Unit {0}
FewContexts (Response hint context stub) = Unit {0}
FewContexts (Fault hint context status) = Unit {0}

-- The answer to a bind with a trailer fits into a unit, since the bind has few contexts.
pub record SealedBindsAreShort : Type 0 where
  pub short : (bytes : List ℕ) (unit : RpcUnit) (trailer : Trailer) → unit_of bytes ≡ Ok unit → unit.trailer ≡ Some trailer → FewContexts unit.body
