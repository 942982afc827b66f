-- A command that serves, by the result of what it begins with and its loop.
use Rattle.std.proofs.Common.{◌≡◌, inr, ℕ, List, [], ◌∷◌, Option, Result, Ok, Err, OnOk, IfErr}
use Rattle.outside.specs.Machine.{Machine}
use Rattle.outside.specs.declared.action.Action.{Action}
use Rattle.outside.specs.declared.event.Happening.TheVariants as happening
use Rattle.end_loop.specs.declared.halt.Halt.{Halt}
use Rattle.end_loop.specs.Begun.{Begun, BegunUntil}
use Rattle.end_loop.specs.Seen.{Sight}
use Rattle.end_loop.specs.Serving.{Opens, Served, ServedUntil}

pub served_ok : {T E S : Type 0} (machine : Machine S) (file : Option (List ℕ)) (first : List Action) (old new : S) (address seed : List ℕ) (boot most : ℕ) (before opened after : Sight) (r : Result T E) →
    Opens seed boot before opened (happening.Listened address ∷ []) → OnOk r (Begun machine file first old new most opened after) → OnOk r (Served machine file first old new address seed boot most before after)
served_ok machine file first old new address seed boot most before opened after (Ok v) opens run = record { opened = opened; opens = opens; run = run }
served_ok machine file first old new address seed boot most before opened after (Err e) opens run = tt

pub served_err : {T S : Type 0} (machine : Machine S) (file : Option (List ℕ)) (first : List Action) (old : S) (address seed : List ℕ) (boot most : ℕ) (before opened after : Sight) (r : Result T Halt) →
    Opens seed boot before opened (happening.Listened address ∷ []) → IfErr r (λ halt. BegunUntil machine file first old most opened after halt) → IfErr r (λ halt. ServedUntil machine file first old address seed boot most before after halt)
served_err machine file first old address seed boot most before opened after (Ok v) opens run = tt
served_err machine file first old address seed boot most before opened after (Err halt) opens run = inr (record { opened = opened; opens = opens; run = run })
