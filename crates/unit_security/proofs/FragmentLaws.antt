-- Units that are signed and sealed one after the other: the walk of `secure_fragments` over the fragments of a call.
use Rattle.std.proofs.Common.{◌≡◌, ◌≤◌, ◌<◌, ◌+◌, ℕ, Bool, true, false, List, [], ◌∷◌, ◌++◌, length, drop, get_or, Option, Some, None, refl, sym, ap, ◌∙◌, append_assoc, append-nil}
use Rattle.std.proofs.lemmas.List.{drop_more}
use Rattle.ntlm_seal.specs.Sessions.{SessionState}
use Rattle.rpc_units.specs.declared.unit.Unit.{Unit as RpcUnit}
use Rattle.rpc_units.specs.Sealed.{IsSealedRange}
use Rattle.rpc_units.specs.Writing.{written}
use Rattle.rpc_units.proofs.GrammarLaws.{IsUnit-unit_of}
use Rattle.unit_security.specs.declared.securing.Secured.{Secured}
use Rattle.unit_security.specs.Securing.{behind, secure_all, secure_unit, secured_if, then_secured}

-- a unit is short
pub range_short : (bytes : List ℕ) (from to : ℕ) → IsSealedRange bytes from to → length bytes ≤ 5840
range_short bytes from to range = (IsUnit-unit_of bytes range.unit range.read).most

behind_both : (one other : List ℕ) (later : Option Secured) → behind one (behind other later) ≡ behind (one ++ other) later
behind_both one other None = refl
behind_both one other (Some later) =
    ap (λ (bytes : List ℕ). Some (record { bytes = bytes; session = later.session })) (sym (append_assoc one other later.bytes))

-- one unit more is done
pub secure_more : (seals : Bool) (session next : SessionState) (out bytes : List ℕ) (done : Bool) (unit : RpcUnit) (units : List RpcUnit) →
    secure_unit seals session (written unit) ≡ secured_if done bytes next → done ≡ true →
    behind out (secure_all seals session (unit ∷ units)) ≡ behind (out ++ bytes) (secure_all seals next units)
unfolding secure_all
secure_more seals session next out bytes done unit units is accepts =
    ap (λ one. behind out (then_secured one (λ later. secure_all seals later units))) (is ∙ ap (λ d. secured_if d bytes next) accepts)
    ∙ behind_both out bytes (secure_all seals next units)

-- the session refuses one
pub secure_stops : (seals : Bool) (session next : SessionState) (out bytes : List ℕ) (done : Bool) (unit : RpcUnit) (units : List RpcUnit) →
    secure_unit seals session (written unit) ≡ secured_if done bytes next → done ≡ false →
    behind out (secure_all seals session (unit ∷ units)) ≡ None
unfolding secure_all
secure_stops seals session next out bytes done unit units is refuses =
    ap (λ one. behind out (then_secured one (λ later. secure_all seals later units))) (is ∙ ap (λ d. secured_if d bytes next) refuses)

-- all are done
pub secure_ends : (seals : Bool) (session : SessionState) (out : List ℕ) →
    behind out (secure_all seals session []) ≡ Some (record { bytes = out; session = session })
unfolding secure_all
secure_ends seals session out = ap (λ (bytes : List ℕ). Some (record { bytes = bytes; session = session })) (append-nil out)

-- a list from a place on is the item there and the items behind it
pub front_of : (items : List RpcUnit) (place : ℕ) (unit : RpcUnit) → unit ≡ get_or items place unit → place < length items →
    drop place items ≡ unit ∷ drop (place + 1) items
front_of items place unit is within = drop_more items place unit within ∙ ap (λ u. u ∷ drop (place + 1) items) (sym is)
