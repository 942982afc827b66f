-- What holds of the units that an end has served so far, beside what they come to, said once: the induction for what is
-- written down of units. `served_keeps` of `end_links` says nothing where the challenges weren't enough; a unit is
-- served then all the same, so this one goes beside it. It serves the laws of what is written down of bytes
-- (`replies_are_sent_as_judged`, `channels_are_named_alike`), here and in the world.
use Rattle.std.proofs.Common.{ℕ, List, [], ◌∷◌, ◌++◌, map, flat_map, Option, Some, None, Ok, Err, sym, subst, append_assoc, append-nil}
use Rattle.std.proofs.lemmas.List.{flat_map_more}
use Rattle.std.proofs.lemmas.List.Concat.{flat_map_single}
use Rattle.std.specs.List.{AllByRecursion}
use Rattle.rpc_units.specs.declared.refused.UnitRefused.{UnitRefused}
use Rattle.rpc_units.specs.Stream.{Cut}
use Rattle.end_links.specs.Serving.{Server, ServedPart, ServedUnit, served_by, served_cut, served_units, then_open, then_talk, units_on, units_then, with_close}
use Rattle.end_links.proofs.KeepLaws.{comes_to, unit_served}

-- of the units that were served, and of what they come to
abbrev pub BesideFact : Type 0 → Type 0 → Type 1
BesideFact W T = List (ServedUnit W T) → ServedPart W T → Type 0

-- a fact of the units served and of what they leave stays through each unit
abbrev pub StaysByUnit : {W T : Type 0} → Server W T → BesideFact W T → Type 0
StaysByUnit {W} {T} server Holds =
    (done : List (ServedUnit W T)) (bytes : List ℕ) (work : W) (talk : T) (left : List (List ℕ)) → Holds done (comes_to work (Some talk) left) →
    Holds (done ++ unit_served server bytes work talk left ∷ []) (server.unit bytes work talk left)

-- what holds stays so at the end of the units
abbrev pub StaysAtEnd : {W T : Type 0} → Server W T → Option UnitRefused → BesideFact W T → Type 0
StaysAtEnd {W} {T} server why Holds =
    (done : List (ServedUnit W T)) (work : W) (talk : T) (left : List (List ℕ)) → Holds done (comes_to work (Some talk) left) →
    Holds done (served_by server [] why work talk left)

module _ {W T : Type 0} (server : Server W T) (why : Option UnitRefused) (Holds : BesideFact W T) (unit : StaysByUnit server Holds)
    (end : StaysAtEnd server why Holds) where
  abbrev pub Beside : List (List ℕ) → Type 0
  Beside units = (done : List (ServedUnit W T)) (work : W) (talk : T) (left : List (List ℕ)) → Holds done (comes_to work (Some talk) left) →
      Holds (done ++ served_units server units work talk left) (served_by server units why work talk left)

  said_beside : (units : List (List ℕ)) → Beside units → (done : List (ServedUnit W T)) (one : ServedUnit W T) (work : W) (said : Option T)
      (left : List (List ℕ)) → Holds (done ++ one ∷ []) (comes_to work said left) →
      Holds (done ++ one ∷ units_on work said left (λ later talk rest. served_units server units later talk rest))
      (then_talk work said left (λ later talk rest. served_by server units why later talk rest))
  said_beside units later done one work None left holds = holds
  said_beside units later done one work (Some talk) left holds =
      subst (λ all. Holds all (served_by server units why work talk left)) (append_assoc done (one ∷ []) (served_units server units work talk left))
      (later (done ++ one ∷ []) work talk left holds)

  then_beside : (units : List (List ℕ)) → Beside units → (done : List (ServedUnit W T)) (one : ServedUnit W T) (part : ServedPart W T) →
      Holds (done ++ one ∷ []) part →
      Holds (done ++ one ∷ units_then part (λ later talk rest. served_units server units later talk rest))
      (then_open part (λ later talk rest. served_by server units why later talk rest))
  then_beside units later done one (Err refused) holds = holds
  then_beside units later done one (Ok part) holds = said_beside units later done one part.value.0 part.value.1 part.left holds

  pub units_beside : (units : List (List ℕ)) → Beside units
  units_beside [] done work talk left holds =
      subst (λ all. Holds all (served_by server [] why work talk left)) (sym (append-nil done)) (end done work talk left holds)
  units_beside (bytes ∷ units) done work talk left holds =
      then_beside units (λ done later said rest fits. units_beside units done later said rest fits) done (unit_served server bytes work talk left)
      (server.unit bytes work talk left) (unit done bytes work talk left holds)

-- through the close where the rest is refused too
pub record StaysBeside {W T : Type 0} (server : Server W T) (Holds : List (ServedUnit W T) → ServedPart W T → Type 0) : Type 0 where
  pub unit : (done : List (ServedUnit W T)) (bytes : List ℕ) (work : W) (talk : T) (left : List (List ℕ)) → Holds done (comes_to work (Some talk) left) →
      Holds (done ++ unit_served server bytes work talk left ∷ []) (server.unit bytes work talk left)
  pub refusal : (done : List (ServedUnit W T)) (why : UnitRefused) (work : W) (talk : T) (left : List (List ℕ)) → Holds done (comes_to work (Some talk) left) →
      Holds done (with_close (server.refusal why work talk left))

beside_end : {W T : Type 0} (server : Server W T) (Holds : BesideFact W T) → StaysBeside server Holds → (why : Option UnitRefused) → StaysAtEnd server why Holds
beside_end server Holds stays None done work talk left holds = holds
beside_end server Holds stays (Some why) done work talk left holds = stays.refusal done why work talk left holds

pub served_beside : {W T : Type 0} (server : Server W T) (Holds : BesideFact W T) → StaysBeside server Holds → (cut : Cut) (work : W) (talk : T) (left : List (List ℕ)) →
    Holds [] (comes_to work (Some talk) left) → Holds (served_units server cut.units work talk left) (served_cut server cut work talk left)
served_beside server Holds stays cut work talk left holds =
    units_beside server cut.refused Holds stays.unit (beside_end server Holds stays cut.refused) cut.units [] work talk left holds

-- ---- what is written down of units

-- a fact of what is written down, by what is written down of each unit: it stays through each, and through the close
-- where the rest is refused
pub record StaysNoted {W T N : Type 0} (server : Server W T) (note : ServedUnit W T → List N) (Holds : List N → ServedPart W T → Type 0) : Type 0 where
  pub unit : (notes : List N) (bytes : List ℕ) (work : W) (talk : T) (left : List (List ℕ)) → Holds notes (comes_to work (Some talk) left) →
      Holds (notes ++ note (unit_served server bytes work talk left)) (server.unit bytes work talk left)
  pub refusal : (notes : List N) (why : UnitRefused) (work : W) (talk : T) (left : List (List ℕ)) → Holds notes (comes_to work (Some talk) left) →
      Holds notes (with_close (server.refusal why work talk left))

pub served_noted : {W T N : Type 0} (server : Server W T) (note : ServedUnit W T → List N) (Holds : List N → ServedPart W T → Type 0) → StaysNoted server note Holds →
    (cut : Cut) (work : W) (talk : T) (left : List (List ℕ)) → Holds [] (comes_to work (Some talk) left) →
    Holds (flat_map note (served_units server cut.units work talk left)) (served_cut server cut work talk left)
served_noted server note Holds stays cut work talk left holds =
    served_beside server (λ done part. Holds (flat_map note done) part) (record {
      unit = λ done bytes work talk left holds.
          subst (λ notes. Holds notes (server.unit bytes work talk left)) (flat_map_more note [] done (unit_served server bytes work talk left))
          (stays.unit (flat_map note done) bytes work talk left holds);
      refusal = λ done why work talk left holds. stays.refusal (flat_map note done) why work talk left holds;
    }) cut work talk left holds

-- what holds through the units served, where one thing is written down of each
pub served_mapped : {W T N : Type 0} (server : Server W T) (note : ServedUnit W T → N) (Holds : List N → ServedPart W T → Type 0) →
    StaysNoted server (λ unit. note unit ∷ []) Holds → (cut : Cut) (work : W) (talk : T) (left : List (List ℕ)) →
    Holds [] (comes_to work (Some talk) left) → Holds (map note (served_units server cut.units work talk left)) (served_cut server cut work talk left)
served_mapped server note Holds stays cut work talk left holds =
    subst (λ notes. Holds notes (served_cut server cut work talk left)) (flat_map_single note (served_units server cut.units work talk left))
    (served_noted server (λ unit. note unit ∷ []) Holds stays cut work talk left holds)

-- ---- each unit

all_push : {U : Type 0} (P : U → Type 0) (items : List U) (last : U) → AllByRecursion P items → P last → AllByRecursion P (items ++ last ∷ [])
all_push P [] last all its = (its, tt)
all_push P (item ∷ items) last all its = (all.0, all_push P items last all.1 its)

-- each unit is such where a fact of what serving comes to stays through it, and gives that
pub served_such : {W T : Type 0} (server : Server W T) (Holds : ServedPart W T → Type 0) (P : ServedUnit W T → Type 0) →
    ((bytes : List ℕ) (work : W) (talk : T) (left : List (List ℕ)) → Holds (comes_to work (Some talk) left) →
    P (unit_served server bytes work talk left) × Holds (server.unit bytes work talk left)) →
    (units : List (List ℕ)) (work : W) (talk : T) (left : List (List ℕ)) → Holds (comes_to work (Some talk) left) →
    AllByRecursion P (served_units server units work talk left)
served_such server Holds P one units work talk left holds =
    (units_beside server None (λ done part. AllByRecursion P done × Holds part)
    (λ done bytes work talk left holds.
    let its = one bytes work talk left holds.1 in (all_push P done (unit_served server bytes work talk left) holds.0 its.0, its.1))
    (λ done work talk left holds. holds) units [] work talk left (tt, holds)).0

-- a fact of what is written down of each item holds of all that is written down
pub all_mapped : {U N : Type 0} (P : N → Type 0) (note : U → N) (items : List U) → AllByRecursion (λ item. P (note item)) items →
    AllByRecursion P (map note items)
all_mapped P note [] all = tt
all_mapped P note (item ∷ items) all = (all.0, all_mapped P note items all.1)
