-- Laws of `UpToMemory`: what a call's answer tells where its value is known.
use Rattle.std.proofs.Common.{◌≡◌, Result, Ok, Err, ap, ◌∙◌, subst, sym, inl, inr}
use Rattle.std.specs.Result.{IfOk}
use Rattle.wire_base.specs.Memory.{UpToMemory}

abbrev err_of : {T E : Type 0} → E → Result T E
err_of e = Err e

-- what holds of the value holds of an Ok
pub UpToMemory-found : {T E : Type 0} (memory : E) (result value : Result T E) (P : T → Type 0) → ((x : T) → value ≡ Ok x → P x) → UpToMemory memory result value → IfOk result P
UpToMemory-found memory (Ok x) value P holds h = holds x h
UpToMemory-found memory (Err e) value P holds h = tt

-- an answer of a value is one of an equal value
pub UpToMemory-same : {T E : Type 0} (memory : E) (result value other : Result T E) → value ≡ other → UpToMemory memory result value → UpToMemory memory result other
UpToMemory-same memory result value other e h = subst (UpToMemory memory result) e h

-- a refusal other than for want of memory is the value's
pub UpToMemory-refused : {T E : Type 0} (memory refused : E) (result value : Result T E) → (refused ≡ memory → ⊥) → UpToMemory memory result value → result ≡ Err refused → value ≡ Err refused
UpToMemory-refused memory refused (Ok x) value other h e = absurd cc
UpToMemory-refused memory refused (Err actual) value other h e =
    let same : actual ≡ refused = cc in
    elim h [ inl memory_is ↦ absurd (other (sym same ∙ memory_is)) | inr is ↦ is ∙ ap err_of same ]
