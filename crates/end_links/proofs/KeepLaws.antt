-- What holds while an end serves the units of a stream, said once for every end: whatever holds through each unit, and
-- through the close where the rest is refused, holds through all of them. It serves the laws of each end that speak of
-- bytes (`counts_change_by_verdicts`, `what_is_sent_is_whole`), and those of what is written down of them.
use Rattle.std.proofs.Common.{ℕ, List, [], ◌∷◌, ◌++◌, Option, Some, None, Ok, Err, sym, subst, append_assoc, append-nil}
use Rattle.std.specs.List.{AllByRecursion}
use Rattle.outside.specs.declared.action.StepRefused.{StepRefused}
use Rattle.rpc_units.specs.declared.refused.UnitRefused.{UnitRefused}
use Rattle.rpc_units.specs.Stream.{Cut}
use Rattle.end_links.specs.Serving.{Server, ServedPart, ServedUnit, served_by, served_cut, served_units, then_open, then_talk, units_on, units_then, with_close}

-- the unit, with what stood before it
abbrev pub unit_served : {W T : Type 0} → Server W T → List ℕ → W → T → List (List ℕ) → ServedUnit W T
unit_served server bytes work talk left =
    record { bytes = bytes; work = work; talk = talk; left = left; part = server.unit bytes work talk left }

-- of the units that were served and those that are to come; of the end at work, what is said, and the challenges left
abbrev pub ServingFact : Type 0 → Type 0 → Type 1
ServingFact W T = List (ServedUnit W T) → List (List ℕ) → W → T → List (List ℕ) → Type 0

-- what holds where the link is closed: nothing is to come
abbrev pub ShutFact : Type 0 → Type 0 → Type 1
ShutFact W T = List (ServedUnit W T) → W → List (List ℕ) → Type 0

abbrev pub HoldsSaid : {W T : Type 0} → ServingFact W T → ShutFact W T → List (ServedUnit W T) → List (List ℕ) →
    W → Option T → List (List ℕ) → Type 0
HoldsSaid Open Shut done more work None left = Shut done work left
HoldsSaid Open Shut done more work (Some talk) left = Open done more work talk left

-- nothing is said where the challenges weren't enough
abbrev pub HoldsThen : {W T : Type 0} → ServingFact W T → ShutFact W T → List (ServedUnit W T) → List (List ℕ) →
    ServedPart W T → Type 0
HoldsThen Open Shut done more (Err why) = Unit {0}
HoldsThen Open Shut done more (Ok part) = HoldsSaid Open Shut done more part.value.0 part.value.1 part.left

pub record KeepsServing {W T : Type 0} (server : Server W T) (Open : ServingFact W T) (Shut : ShutFact W T) : Type 0 where
  pub unit : (done : List (ServedUnit W T)) (bytes : List ℕ) (more : List (List ℕ)) (work : W) (talk : T) (left : List (List ℕ)) →
      Open done (bytes ∷ more) work talk left →
      HoldsThen Open Shut (done ++ unit_served server bytes work talk left ∷ []) more (server.unit bytes work talk left)
  pub refusal : (done : List (ServedUnit W T)) (why : UnitRefused) (work : W) (talk : T) (left : List (List ℕ)) →
      Open done [] work talk left → HoldsThen Open Shut done [] (with_close (server.refusal why work talk left))

module _ {W T : Type 0} (server : Server W T) (Open : ServingFact W T) (Shut : ShutFact W T)
    (keeps : KeepsServing server Open Shut) where
  abbrev pub Keeps : List (List ℕ) → Option UnitRefused → Type 0
  Keeps units why = (done : List (ServedUnit W T)) (work : W) (talk : T) (left : List (List ℕ)) → Open done units work talk left →
      HoldsThen Open Shut (done ++ served_units server units work talk left) [] (served_by server units why work talk left)

  said_keeps : (units : List (List ℕ)) (why : Option UnitRefused) (done : List (ServedUnit W T)) (one : ServedUnit W T)
      (work : W) (talk : Option T) (left : List (List ℕ)) → Keeps units why → HoldsSaid Open Shut (done ++ one ∷ []) units work talk left →
      HoldsThen Open Shut (done ++ one ∷ units_on work talk left (λ later said rest. served_units server units later said rest)) []
      (then_talk work talk left (λ later said rest. served_by server units why later said rest))
  said_keeps units why done one work None left each holds = holds
  said_keeps units why done one work (Some talk) left each holds =
      subst (λ all. HoldsThen Open Shut all [] (served_by server units why work talk left))
      (append_assoc done (one ∷ []) (served_units server units work talk left)) (each (done ++ one ∷ []) work talk left holds)

  then_keeps : (units : List (List ℕ)) (why : Option UnitRefused) (done : List (ServedUnit W T)) (one : ServedUnit W T)
      (part : ServedPart W T) → Keeps units why → HoldsThen Open Shut (done ++ one ∷ []) units part →
      HoldsThen Open Shut (done ++ one ∷ units_then part (λ later said rest. served_units server units later said rest)) []
      (then_open part (λ later said rest. served_by server units why later said rest))
  then_keeps units why done one (Err refused) each holds = tt
  then_keeps units why done one (Ok part) each holds = said_keeps units why done one part.value.0 part.value.1 part.left each holds

  pub served_keeps : (units : List (List ℕ)) (why : Option UnitRefused) → Keeps units why
  served_keeps [] None done work talk left holds = subst (λ all. Open all [] work talk left) (sym (append-nil done)) holds
  served_keeps [] (Some why) done work talk left holds =
      subst (λ all. HoldsThen Open Shut all [] (with_close (server.refusal why work talk left))) (sym (append-nil done))
      (keeps.refusal done why work talk left holds)
  served_keeps (bytes ∷ units) why done work talk left holds =
      then_keeps units why done (unit_served server bytes work talk left) (server.unit bytes work talk left)
      (λ done later said rest fits. served_keeps units why done later said rest fits) (keeps.unit done bytes units work talk left holds)

-- ---- a fact that speaks of no list: most of them

-- an end at work, with what is said then, and the challenges left
abbrev pub comes_to : {W T : Type 0} → W → Option T → List (List ℕ) → ServedPart W T
comes_to work said left = Ok (record { value = (work, said); left = left })

-- a fact of what serving comes to: it stays through each unit whose bytes are such, and it holds where the challenges
-- weren't enough
pub record StaysAmong {W T : Type 0} (server : Server W T) (AreSuch : List ℕ → Type 0) (Holds : ServedPart W T → Type 0) : Type 0 where
  pub spent : (why : StepRefused) → Holds (Err why)
  pub unit : (bytes : List ℕ) (work : W) (talk : T) (left : List (List ℕ)) → AreSuch bytes → Holds (comes_to work (Some talk) left) →
      Holds (server.unit bytes work talk left)
  pub refusal : (why : UnitRefused) (work : W) (talk : T) (left : List (List ℕ)) → Holds (comes_to work (Some talk) left) →
      Holds (with_close (server.refusal why work talk left))

module _ {W T : Type 0} (server : Server W T) (AreSuch : List ℕ → Type 0) (Holds : ServedPart W T → Type 0)
    (stays : StaysAmong server AreSuch Holds) where
  abbrev pub Opens : ServingFact W T
  Opens done more work talk left = AllByRecursion AreSuch more × Holds (comes_to work (Some talk) left)

  abbrev pub Shuts : ShutFact W T
  Shuts done work left = Holds (comes_to work None left)

  to_said : (done : List (ServedUnit W T)) (more : List (List ℕ)) (work : W) (talk : Option T) (left : List (List ℕ)) →
      AllByRecursion AreSuch more → Holds (comes_to work talk left) → HoldsSaid Opens Shuts done more work talk left
  to_said done more work None left all holds = holds
  to_said done more work (Some talk) left all holds = (all, holds)

  to_then : (done : List (ServedUnit W T)) (more : List (List ℕ)) (part : ServedPart W T) → AllByRecursion AreSuch more → Holds part →
      HoldsThen Opens Shuts done more part
  to_then done more (Err why) all holds = tt
  to_then done more (Ok part) all holds = to_said done more part.value.0 part.value.1 part.left all holds

  from_said : (done : List (ServedUnit W T)) (more : List (List ℕ)) (work : W) (talk : Option T) (left : List (List ℕ)) →
      HoldsSaid Opens Shuts done more work talk left → Holds (comes_to work talk left)
  from_said done more work None left holds = holds
  from_said done more work (Some talk) left holds = holds.1

  from_then : (done : List (ServedUnit W T)) (more : List (List ℕ)) (part : ServedPart W T) → HoldsThen Opens Shuts done more part → Holds part
  from_then done more (Err why) holds = stays.spent why
  from_then done more (Ok part) holds = from_said done more part.value.0 part.value.1 part.left holds

  among_keeps : KeepsServing server Opens Shuts
  among_keeps = record {
    unit = λ done bytes more work talk left holds.
        to_then (done ++ unit_served server bytes work talk left ∷ []) more (server.unit bytes work talk left) holds.0.1
        (stays.unit bytes work talk left holds.0.0 holds.1);
    refusal = λ done why work talk left holds.
        to_then done [] (with_close (server.refusal why work talk left)) tt (stays.refusal why work talk left holds.1);
  }

  pub served_among : (cut : Cut) (work : W) (talk : T) (left : List (List ℕ)) → AllByRecursion AreSuch cut.units →
      Holds (comes_to work (Some talk) left) → Holds (served_cut server cut work talk left)
  served_among cut work talk left all holds =
      from_then (served_units server cut.units work talk left) [] (served_cut server cut work talk left)
      (served_keeps server Opens Shuts among_keeps cut.units cut.refused [] work talk left (all, holds))

-- what `Holds` says of a part is kept through any unit
pub record StaysServing {W T : Type 0} (server : Server W T) (Holds : ServedPart W T → Type 0) : Type 0 where
  pub spent : (why : StepRefused) → Holds (Err why)
  pub unit : (bytes : List ℕ) (work : W) (talk : T) (left : List (List ℕ)) → Holds (comes_to work (Some talk) left) →
      Holds (server.unit bytes work talk left)
  pub refusal : (why : UnitRefused) (work : W) (talk : T) (left : List (List ℕ)) → Holds (comes_to work (Some talk) left) →
      Holds (with_close (server.refusal why work talk left))

any_bytes : (units : List (List ℕ)) → AllByRecursion (λ bytes. Unit {0}) units
any_bytes [] = tt
any_bytes (bytes ∷ units) = (tt, any_bytes units)

pub served_stays : {W T : Type 0} (server : Server W T) (Holds : ServedPart W T → Type 0) → StaysServing server Holds →
    (cut : Cut) (work : W) (talk : T) (left : List (List ℕ)) → Holds (comes_to work (Some talk) left) → Holds (served_cut server cut work talk left)
served_stays server Holds stays cut work talk left holds =
    served_among server (λ bytes. Unit {0}) Holds (record {
      spent = stays.spent;
      unit = λ bytes work talk left such holds. stays.unit bytes work talk left holds;
      refusal = stays.refusal;
    }) cut work talk left (any_bytes cut.units) holds
