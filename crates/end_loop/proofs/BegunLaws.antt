-- A command that begins with actions of its own.
use Rattle.std.proofs.Common.{◌≡◌, ℕ, true, List, [], ◌++◌, Option, inl, inr, Result, Ok, Err, OnOk, IfErr, refl, sym, subst, ◌∙◌}
use Rattle.outside.specs.Drawing.{Drawing}
use Rattle.outside.proofs.TellingLaws.{Appends-nothing}
use Rattle.outside.specs.declared.event.Event.{Event}
use Rattle.outside.specs.declared.event.Happening.{Happening}
use Rattle.outside.specs.declared.action.Action.{Action}
use Rattle.outside.specs.Machine.{Machine}
use Rattle.end_loop.specs.declared.halt.Halt.{Halt}
use Rattle.end_loop.specs.Acts.{puts, Performed, CutShort, IsOfActs, are_made, made_events}
use Rattle.end_loop.specs.Seen.{Sight}
use Rattle.end_loop.specs.Writing.{FilesTold}
use Rattle.end_loop.specs.Runs.{RanOut, Halts, run_state_at}
use Rattle.end_loop.specs.Begun.{Begun, BegunUntil}
use Rattle.end_loop.proofs.ActLaws.{all_made}
use Rattle.outside.proofs.DrawLaws.{DrawsAll-none}

pub begun_ok : {T E S : Type 0} (machine : Machine S) (file : Option (List ℕ)) (first given : List Action) (old new : S) (most : ℕ) (failed : List ℕ) (queue later : List Event) (story story2 : Option (List Happening)) (faults faults2 : ℕ) (moments : Option (List ℕ)) (drawing : Drawing) (taken taken2 : Option (List ℕ)) (files files2 : FilesTold) (after : Sight) (r : Result T E) →
    given ≡ first → queue ≡ [] → Performed (puts machine) file given (record { failed = []; queue = queue; story = story; link_faults = faults; taken = taken; files = files }) (record { failed = failed; queue = later; story = story2; link_faults = faults2; taken = taken2; files = files2 }) →
    OnOk r (RanOut machine file (run_state_at old later (record { story = story2; link_faults = faults2; moments = moments; drawing = drawing; taken = taken2; files = files2 })) new most (record { story = story2; link_faults = faults2; moments = moments; drawing = drawing; taken = taken2; files = files2 }) after) →
    OnOk r (Begun machine file first old new most (record { story = story; link_faults = faults; moments = moments; drawing = drawing; taken = taken; files = files }) after)
begun_ok {T} {E} {S} machine file first given old new most failed queue later story story2 faults faults2 moments drawing taken taken2 files files2 after (Ok v) same none did run =
    let done = subst (λ (acts : List Action). Performed (puts machine) file acts (record { failed = []; queue = queue; story = story; link_faults = faults; taken = taken; files = files }) (record { failed = failed; queue = later; story = story2; link_faults = faults2; taken = taken2; files = files2 })) same did in
    let middle : Sight = record { story = story2; link_faults = faults2; moments = moments; drawing = drawing; taken = taken2; files = files2 } in
    let from = subst (λ (l : List Event). RanOut machine file (run_state_at old l middle) new most middle after) done.queue run in
    record {
      happened = done.happened;
      performs = done.performs;
      middle = middle;
      shows = record { story = done.story; links = done.faulted; moments = Appends-nothing moments; drawing = DrawsAll-none drawing; taken = done.taken; files = done.files };
      run = subst (λ (q : List Event). RanOut machine file (run_state_at old (q ++ made_events done.happened) middle) new most middle after) none from;
    }
begun_ok machine file first given old new most failed queue later story story2 faults faults2 moments drawing taken taken2 files files2 after (Err e) same none did run = tt

pub begun_made : {S : Type 0} (machine : Machine S) (file : Option (List ℕ)) (first : List Action) (failed : List ℕ) (queue later : List Event) (story story2 : Option (List Happening)) (faults faults2 : ℕ) (taken taken2 : Option (List ℕ)) (files files2 : FilesTold) →
    queue ≡ [] → Performed (puts machine) file first (record { failed = []; queue = queue; story = story; link_faults = faults; taken = taken; files = files }) (record { failed = failed; queue = later; story = story2; link_faults = faults2; taken = taken2; files = files2 }) → are_made later ≡ true
begun_made machine file first failed queue later story story2 faults faults2 taken taken2 files files2 none done =
    subst (λ (l : List Event). are_made l ≡ true) (sym done.queue) (all_made queue done.happened (subst (λ (q : List Event). are_made q ≡ true) (sym none) refl))

-- what is begun where the run halted, and where the first actions were cut short
pub begun_err : {T S : Type 0} (machine : Machine S) (file : Option (List ℕ)) (first given : List Action) (old : S) (most : ℕ) (failed : List ℕ) (queue later : List Event) (story story2 : Option (List Happening)) (faults faults2 : ℕ) (moments : Option (List ℕ)) (drawing : Drawing) (taken taken2 : Option (List ℕ)) (files files2 : FilesTold) (after : Sight) (r : Result T Halt) →
    given ≡ first → queue ≡ [] → Performed (puts machine) file given (record { failed = []; queue = queue; story = story; link_faults = faults; taken = taken; files = files }) (record { failed = failed; queue = later; story = story2; link_faults = faults2; taken = taken2; files = files2 }) →
    IfErr r (λ halt. Halts machine file (run_state_at old later (record { story = story2; link_faults = faults2; moments = moments; drawing = drawing; taken = taken2; files = files2 })) most (record { story = story2; link_faults = faults2; moments = moments; drawing = drawing; taken = taken2; files = files2 }) after halt) →
    IfErr r (λ halt. BegunUntil machine file first old most (record { story = story; link_faults = faults; moments = moments; drawing = drawing; taken = taken; files = files }) after halt)
begun_err machine file first given old most failed queue later story story2 faults faults2 moments drawing taken taken2 files files2 after (Ok v) same none did run = tt
begun_err machine file first given old most failed queue later story story2 faults faults2 moments drawing taken taken2 files files2 after (Err halt) same none did run =
    let done = subst (λ (acts : List Action). Performed (puts machine) file acts (record { failed = []; queue = queue; story = story; link_faults = faults; taken = taken; files = files }) (record { failed = failed; queue = later; story = story2; link_faults = faults2; taken = taken2; files = files2 })) same did in
    let middle : Sight = record { story = story2; link_faults = faults2; moments = moments; drawing = drawing; taken = taken2; files = files2 } in
    let from = subst (λ (l : List Event). Halts machine file (run_state_at old l middle) most middle after halt) done.queue run in
    inr (record {
      happened = done.happened;
      performs = done.performs;
      middle = middle;
      shows = record { story = done.story; links = done.faulted; moments = Appends-nothing moments; drawing = DrawsAll-none drawing; taken = done.taken; files = done.files };
      run = subst (λ (q : List Event). Halts machine file (run_state_at old (q ++ made_events done.happened) middle) most middle after halt) none from;
    })

pub begun_short : {S : Type 0} (machine : Machine S) (file : Option (List ℕ)) (first given : List Action) (old : S) (most : ℕ) (failed : List ℕ) (queue later : List Event) (story story2 : Option (List Happening)) (faults faults2 : ℕ) (moments : Option (List ℕ)) (drawing : Drawing) (taken taken2 : Option (List ℕ)) (files files2 : FilesTold) (halt : Halt) →
    given ≡ first → IsOfActs halt → CutShort (puts machine) file halt given (record { failed = []; queue = queue; story = story; link_faults = faults; taken = taken; files = files }) (record { failed = failed; queue = later; story = story2; link_faults = faults2; taken = taken2; files = files2 }) →
    BegunUntil machine file first old most (record { story = story; link_faults = faults; moments = moments; drawing = drawing; taken = taken; files = files }) (record { story = story2; link_faults = faults2; moments = moments; drawing = drawing; taken = taken2; files = files2 }) halt
begun_short machine file first given old most failed queue later story story2 faults faults2 moments drawing taken taken2 files files2 halt same kind cut = inl (
  kind,
  record {
    done = cut.done;
    rest = cut.rest;
    all = cut.all ∙ same;
    happened = cut.happened;
    performs = cut.performs;
    part = cut.part;
    more = cut.more;
    front = cut.front;
    lost = cut.lost;
    loses = cut.loses;
    shows = record { story = cut.story; links = cut.faulted; moments = Appends-nothing moments; drawing = DrawsAll-none drawing; taken = cut.taken; files = cut.files };
  },
)
