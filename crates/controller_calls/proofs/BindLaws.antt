-- A bind with a trailer has few contexts. It serves `sealed_binds_are_short`.
use Rattle.std.proofs.Common.{◌≡◌, ◌≤◌, ◌*◌, ◌-◌, ℕ, List, [], ◌∷◌, length, drop, Option, Some, subst, arith}
use Rattle.std.proofs.lemmas.List.{length-drop, length-take}
use Rattle.rpc_units.specs.declared.kind.Kind.{Kind}
use Rattle.rpc_units.specs.declared.unit.Syntax.{Syntax}
use Rattle.rpc_units.specs.declared.unit.Trailer.{Trailer}
use Rattle.rpc_units.specs.declared.unit.Unit.{Unit as RpcUnit}
use Rattle.rpc_units.specs.declared.unit.Body.{Body}
use Rattle.rpc_units.specs.declared.unit.Body.TheVariants.{Auth3, Bind, BindAck, BindNak, Fault, Request, Response}
use Rattle.rpc_units.specs.Grammar.{AreItems, IsBody, IsContext, IsEnd, IsUnit}
use Rattle.rpc_units.specs.Layout.{body_bytes, context_len}
use Rattle.rpc_units.proofs.GrammarLaws.{IsUnit-unit_of}
use Rattle.controller_calls.specs.Binds.{FewContexts, SealedBindsAreShort}

contexts_len : (contexts : List (ℕ × Syntax × List Syntax)) (bytes : List ℕ) → AreItems IsContext context_len contexts bytes → 24 * length contexts ≤ length bytes
contexts_len [] bytes are = omega arith
contexts_len (context ∷ contexts) bytes are =
    omega (arith, contexts_len contexts (drop (context_len bytes) bytes) are.1, length-drop (context_len bytes) bytes, are.0.reaches)

body_fits : (b : Body) (k : Kind) (body : List ℕ) → length body ≤ 5815 → IsBody b k body → FewContexts b
body_fits (Bind send receive group contexts) k body short is =
    omega (arith, short, length-drop 12 body, contexts_len contexts (drop 12 body) is.1.list)
body_fits (BindAck send receive group results) k body short is = tt
body_fits (BindNak reason) k body short is = tt
body_fits Auth3 k body short is = tt
body_fits (Request hint context opnum stub) k body short is = tt
body_fits (Response hint context stub) k body short is = tt
body_fits (Fault hint context status) k body short is = tt

few : (bytes : List ℕ) (unit : RpcUnit) (trailer : Trailer) → unit.trailer ≡ Some trailer → IsUnit bytes unit → FewContexts unit.body
few bytes unit trailer has is =
    let end : IsEnd (Some trailer) bytes is.k is.end = subst (λ (t : Option Trailer). IsEnd t bytes is.k is.end) has is.trailer in
    body_fits unit.body is.k (body_bytes is.end bytes)
    (omega (arith, length-drop 16 bytes, length-take (is.end - 16) (drop 16 bytes), is.most, end.0, end.1.1.whole, end.1.1.padding, end.1.1.after)) is.body

pub sealed_binds_are_short : SealedBindsAreShort
sealed_binds_are_short = record { short = λ bytes unit trailer is has. few bytes unit trailer has (IsUnit-unit_of bytes unit is) }
