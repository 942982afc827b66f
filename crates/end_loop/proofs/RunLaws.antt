-- How runs come together.
use Rattle.std.proofs.Common.{◌≡◌, ◌≤◌, ◌<◌, ◌⊎◌, inl, inr, ℕ, Bool, true, false, List, [], ◌∷◌, ◌++◌, ◌+◌, ◌&&◌, length, Option, Some, None, Result, Ok, Err, OnOk, IfOk, IfErr, IsErrAnd, IsOk, IsTrue, refl, sym, ap, subst, ◌∙◌, arith, append-nil, length-append}
use Rattle.std.specs.List.{flat_map}
use Rattle.std.specs.Option.{option_to_list}
use Rattle.std.proofs.lemmas.Grind.{flat_map-append}
use Rattle.std.proofs.lemmas.List.{map-append}
use Rattle.outside.specs.Drawing.{Drawing, DrawsAll}
use Rattle.outside.specs.Telling.{Appends}
use Rattle.outside.specs.Causes.{RisesWhere}
use Rattle.outside.specs.Stories.{fails_at_links}
use Rattle.outside.proofs.TellingLaws.{Appends-trans, Appends-nothing}
use Rattle.outside.proofs.DrawLaws.{DrawsAll-none, DrawsAll-trans}
use Rattle.outside.proofs.CauseLaws.{RisesWhere-none}
use Rattle.outside.specs.declared.event.Event.{Event}
use Rattle.outside.specs.declared.event.Happening.{Happening}
use Rattle.outside.specs.declared.event.Happening.TheVariants as happening
use Rattle.outside.specs.declared.action.Action.{Action}
use Rattle.end_loop.specs.declared.halt.Halt.{Halt}
use Rattle.end_loop.specs.declared.halt.Halt.TheVariants.{PortFault, FileFault, SinkFault, NoMemory, Spent}
use Rattle.outside.specs.Machine.{Machine, Stepped, Takes, GivesUp, Spends}
use Rattle.end_loop.specs.Acts.{puts, Performed, CutShort, IsOfActs, made_events, most_made_by, next_line, is_made, are_made}
use Rattle.end_loop.proofs.ActLaws.{performs_makes, all_made, Rises-append}
use Rattle.end_loop.specs.Seen.{Sight, Shows}
use Rattle.end_loop.specs.Writing.{FilesTold, Write}
use Rattle.end_loop.proofs.WritingLaws.{Writes-none, Writes-trans, Writes-as}
use Rattle.end_loop.specs.Runs.{actions_of, RunState, Step, IsStep, AreSteps, Ran, RanInto, RanToAsk, RanOut, Halts, Begins, Breaks, Turns, IsOfAsk, IsOfSteps, is_stop, run_state_at, idle_at, Made, MadePart, step_story, step_line, step_writes}

-- ---- what the outside shows

pub Shows-none : (a : Sight) → Shows a a [] [] [] [] []
Shows-none a = record {
  story = Appends-nothing a.story;
  moments = Appends-nothing a.moments;
  drawing = DrawsAll-none a.drawing;
  taken = Appends-nothing a.taken;
  links = RisesWhere-none a.link_faults;
  files = Writes-none a.files;
}

pub Shows-trans : (a b c : Sight) (hs hs2 : List Happening) (ms ms2 : List ℕ) (ds ds2 : List (List ℕ)) (ls ls2 : List ℕ) (ws ws2 : List Write) →
    Shows a b hs ms ds ls ws → Shows b c hs2 ms2 ds2 ls2 ws2 → Shows a c (hs ++ hs2) (ms ++ ms2) (ds ++ ds2) (ls ++ ls2) (ws ++ ws2)
Shows-trans a b c hs hs2 ms ms2 ds ds2 ls ls2 ws ws2 p q = record {
  story = Appends-trans a.story b.story c.story hs hs2 p.story q.story;
  moments = Appends-trans a.moments b.moments c.moments ms ms2 p.moments q.moments;
  drawing = DrawsAll-trans a.drawing b.drawing c.drawing ds ds2 p.drawing q.drawing;
  taken = Appends-trans a.taken b.taken c.taken ls ls2 p.taken q.taken;
  links = Rises-append hs hs2 a.link_faults b.link_faults c.link_faults p.links q.links;
  files = Writes-trans a.files b.files c.files ws ws2 p.files q.files;
}

Shows-as : (a b : Sight) (hs hs2 : List Happening) (ms ms2 : List ℕ) (ds ds2 : List (List ℕ)) (ls ls2 : List ℕ) (ws ws2 : List Write) →
    hs ≡ hs2 → ms ≡ ms2 → ds ≡ ds2 → ls ≡ ls2 → ws ≡ ws2 → Shows a b hs ms ds ls ws → Shows a b hs2 ms2 ds2 ls2 ws2
Shows-as a b hs hs2 ms ms2 ds ds2 ls ls2 ws ws2 e f g h k p = record {
  story = subst (λ (l : List Happening). Appends a.story b.story l) e p.story;
  moments = subst (λ (l : List ℕ). Appends a.moments b.moments l) f p.moments;
  drawing = subst (λ (l : List (List ℕ)). DrawsAll a.drawing b.drawing l) g p.drawing;
  taken = subst (λ (l : List ℕ). Appends a.taken b.taken l) h p.taken;
  links = subst (λ (l : List Happening). RisesWhere (fails_at_links l) a.link_faults b.link_faults) e p.links;
  files = Writes-as a.files b.files ws ws2 k p.files;
}

-- ---- runs

pub AreSteps-append : {S : Type 0} (machine : Machine S) (a b c : RunState S) (xs ys : List Step) → AreSteps machine a xs b → AreSteps machine b ys c → AreSteps machine a (xs ++ ys) c
AreSteps-append machine a b c [] ys p q = subst (λ (s : RunState _). AreSteps machine s ys c) p q
AreSteps-append machine a b c (x ∷ xs) ys p q = (p.0, p.1, AreSteps-append machine p.0 b c xs ys p.2 q)

pub Ran-none : {S : Type 0} (machine : Machine S) (file : Option (List ℕ)) (a : RunState S) (s : Sight) → Ran machine file a a 0 s s
Ran-none machine file a s = record { steps = []; are = refl; count = refl; shows = Shows-none s }

pub Ran-trans : {S : Type 0} (machine : Machine S) (file : Option (List ℕ)) (a b c : RunState S) (m n : ℕ) (s t u : Sight) → Ran machine file a b m s t → Ran machine file b c n t u → Ran machine file a c (m + n) s u
Ran-trans machine file a b c m n s t u p q = record {
  steps = p.steps ++ q.steps;
  are = AreSteps-append machine a b c p.steps q.steps p.are q.are;
  count = let asked = λ (step : Step). step.asked in
      let joins = ap length (flat_map-append asked p.steps q.steps) in
      omega (arith, p.count, q.count, joins, length-append (flat_map asked p.steps) (flat_map asked q.steps));
  shows = Shows-as s u _ _ _ _ _ _ _ _ _ _
      (sym (flat_map-append step_story p.steps q.steps))
      (sym (map-append (λ (step : Step). step.moment) p.steps q.steps))
      (sym (flat_map-append (λ (step : Step). step.drawn) p.steps q.steps))
      (sym (flat_map-append (step_line (puts machine)) p.steps q.steps))
      (sym (flat_map-append (step_writes file) p.steps q.steps))
      (Shows-trans s t u _ _ _ _ _ _ _ _ _ _ p.shows q.shows);
}

-- one step of an event that was chosen
Ran-one : {S : Type 0} (machine : Machine S) (file : Option (List ℕ)) (start last : RunState S) (step : Step) (s t : Sight) → IsStep machine start step last →
    Shows s t (step_story step) (step.moment ∷ []) step.drawn (step_line (puts machine) step) (step_writes file step) → Ran machine file start last (length step.asked) s t
Ran-one machine file start last step s t is shows = record {
  steps = step ∷ [];
  are = (last, is, refl);
  count = ap length (sym (append-nil step.asked));
  shows = Shows-as s t _ _ _ _ _ _ _ _ _ _ (sym (append-nil (step_story step))) refl (sym (append-nil step.drawn)) (sym (append-nil (step_line (puts machine) step))) (sym (append-nil (step_writes file step))) shows;
}

-- an event that waited
pub Ran-waiting : {S : Type 0} (machine : Machine S) (file : Option (List ℕ)) (old new : S) (what : Event) (queue later : List Event) (s t : Sight) → Made machine file old new what queue later s t →
    Ran machine file (record { state = old; queue = what ∷ queue; left = s.drawing.left }) (record { state = new; queue = later; left = t.drawing.left }) 0 s t
Ran-waiting machine file old new what queue later s t made =
    Ran-one machine file _ _ (record { asked = []; event = what; moment = made.moment; drawn = made.drawn; actions = made.actions; happened = made.happened }) s t
    (record { waiting = queue; chooses = (refl, refl, refl); is = made.is; left = made.shows.drawing.left; performs = made.performs; queue = made.queue })
    made.shows

-- an event that `next` gave
pub Ran-given : {S : Type 0} (machine : Machine S) (file : Option (List ℕ)) (old new : S) (what : Event) (later : List Event) (s t u : Sight) → machine.is_over old ≡ false → is_stop what ≡ false →
    Shows s t (happening.Given what (machine.want old) ∷ []) [] [] [] [] → Made machine file old new what [] later t u →
    Ran machine file (record { state = old; queue = []; left = s.drawing.left }) (record { state = new; queue = later; left = u.drawing.left }) 1 s u
Ran-given {S} machine file old new what later s t u goes_on other given made =
    let asked = happening.Given what (machine.want old) ∷ [] in
    let same : s.drawing.left ≡ t.drawing.left = given.drawing.left in
    let both = Shows-trans s t u _ _ _ _ _ _ _ _ _ _ given made.shows in
    Ran-one machine file _ _ (record { asked = asked; event = what; moment = made.moment; drawn = made.drawn; actions = made.actions; happened = made.happened }) s u
    (record {
      waiting = [];
      chooses = (goes_on, refl, other, refl);
      is = subst (λ (left : List (List ℕ)). machine.step old what made.moment left ≡ record { answer = Ok made.actions; state = new; drawn = made.drawn; left = u.drawing.left }) (sym same) made.is;
      left = both.drawing.left;
      performs = made.performs;
      queue = made.queue;
    })
    both

-- ---- runs that halt

pub Into-waiting : {S : Type 0} (machine : Machine S) (file : Option (List ℕ)) (old : S) (what : Event) (queue : List Event) (s t : Sight) (halt : Halt) → MadePart machine file old what s t halt →
    RanInto machine file (record { state = old; queue = what ∷ queue; left = s.drawing.left }) 0 s t halt
Into-waiting machine file old what queue s t halt made = record {
  last = record { state = old; queue = what ∷ queue; left = s.drawing.left };
  asked = 0;
  middle = s;
  ran = Ran-none machine file _ s;
  step = record { asked = []; event = what; moment = made.moment; drawn = made.drawn; actions = made.actions; happened = made.happened };
  part = made.part;
  lost = made.lost;
  begins = record { waiting = queue; chooses = (refl, refl, refl); undrawn = made.undrawn; draws = made.draws; rest = made.rest; all = made.all; performs = made.performs; more = made.more; front = made.front; loses = made.loses; breaks = made.breaks };
  within = omega arith;
  shows = made.shows;
}

part_as : {S : Type 0} (machine : Machine S) (file : Option (List ℕ)) (old : S) (what : Event) (left left2 : List (List ℕ)) (step : Step) (part : List ℕ) (lost : List Write) (halt : Halt) → left2 ≡ left →
    Begins machine file (record { state = old; queue = []; left = left }) step part lost halt → Begins machine file (record { state = old; queue = []; left = left2 }) step part lost halt
part_as machine file old what left left2 step part lost halt same begins =
    subst (λ (l : List (List ℕ)). Begins machine file (record { state = old; queue = []; left = l }) step part lost halt) (sym same) begins

pub Into-given : {S : Type 0} (machine : Machine S) (file : Option (List ℕ)) (old : S) (what : Event) (s t u : Sight) (halt : Halt) → machine.is_over old ≡ false → is_stop what ≡ false →
    Shows s t (happening.Given what (machine.want old) ∷ []) [] [] [] [] → MadePart machine file old what t u halt →
    RanInto machine file (record { state = old; queue = []; left = s.drawing.left }) 1 s u halt
Into-given machine file old what s t u halt goes_on other given made = record {
  last = record { state = old; queue = []; left = s.drawing.left };
  asked = 0;
  middle = s;
  ran = Ran-none machine file _ s;
  step = record { asked = happening.Given what (machine.want old) ∷ []; event = what; moment = made.moment; drawn = made.drawn; actions = made.actions; happened = made.happened };
  part = made.part;
  lost = made.lost;
  begins = part_as machine file old what t.drawing.left s.drawing.left _ made.part made.lost halt given.drawing.left
      (record { waiting = []; chooses = (goes_on, refl, other, refl); undrawn = made.undrawn; draws = made.draws; rest = made.rest; all = made.all; performs = made.performs; more = made.more; front = made.front; loses = made.loses; breaks = made.breaks });
  within = omega arith;
  shows = Shows-trans s t u _ _ _ _ _ _ _ _ _ _ given made.shows;
}

pub Into-after : {S : Type 0} (machine : Machine S) (file : Option (List ℕ)) (a b : RunState S) (n m most : ℕ) (s t u : Sight) (halt : Halt) → Ran machine file a b n s t → n + m ≤ most →
    RanInto machine file b m t u halt → RanInto machine file a most s u halt
Into-after machine file a b n m most s t u halt ran bound into = record {
  last = into.last;
  asked = n + into.asked;
  middle = into.middle;
  ran = Ran-trans machine file a b into.last n into.asked s t into.middle ran into.ran;
  step = into.step;
  part = into.part;
  lost = into.lost;
  begins = into.begins;
  within = let inner = into.within in omega (arith, inner);
  shows = into.shows;
}

Ask-after : {S : Type 0} (machine : Machine S) (file : Option (List ℕ)) (a b : RunState S) (n m most : ℕ) (s t u : Sight) → Ran machine file a b n s t → n + m ≤ most →
    RanToAsk machine file b m t u → RanToAsk machine file a most s u
Ask-after machine file a b n m most s t u ran bound h = record {
  last = h.last;
  asked = n + h.asked;
  ran = Ran-trans machine file a b h.last n h.asked s t u ran h.ran;
  idle = h.idle;
  more = let inner = h.more in omega (arith, inner);
  open_still = h.open_still;
}

pub Halts-after : {S : Type 0} (machine : Machine S) (file : Option (List ℕ)) (a b : RunState S) (n m most : ℕ) (s t u : Sight) (halt : Halt) → Ran machine file a b n s t → n + m ≤ most →
    Halts machine file b m t u halt → Halts machine file a most s u halt
Halts-after machine file a b n m most s t u PortFault ran bound h = Ask-after machine file a b n m most s t u ran bound h
Halts-after machine file a b n m most s t u FileFault ran bound h = Into-after machine file a b n m most s t u FileFault ran bound h
Halts-after machine file a b n m most s t u SinkFault ran bound h = Into-after machine file a b n m most s t u SinkFault ran bound h
Halts-after machine file a b n m most s t u NoMemory ran bound (inl h) = inl (Ask-after machine file a b n m most s t u ran bound h)
Halts-after machine file a b n m most s t u NoMemory ran bound (inr h) = inr (Into-after machine file a b n m most s t u NoMemory ran bound h)
Halts-after machine file a b n m most s t u Spent ran bound h = Into-after machine file a b n m most s t u Spent ran bound h

-- a halt within a step, as a halt of the run
pub Into-halts : {S : Type 0} (machine : Machine S) (file : Option (List ℕ)) (a : RunState S) (most : ℕ) (s t : Sight) (halt : Halt) → RanInto machine file a most s t halt → Halts machine file a most s t halt
Into-halts machine file a most s t PortFault h = absurd h.begins.breaks
Into-halts machine file a most s t FileFault h = h
Into-halts machine file a most s t SinkFault h = h
Into-halts machine file a most s t NoMemory h = inr h
Into-halts machine file a most s t Spent h = h

-- ---- from the call of an end to a step

-- actions that were cut short
pub MadePart-acts : {S : Type 0} (machine : Machine S) (file : Option (List ℕ)) (old new : S) (what : Event) (now : ℕ) (actions : List Action) (queue later : List Event) (failed : List ℕ) (story story2 : Option (List Happening)) (faults faults2 : ℕ) (moments moments2 : Option (List ℕ)) (drawing drawing2 : Drawing) (taken taken2 : Option (List ℕ)) (files files2 : FilesTold) (halt : Halt) →
    IsOfActs halt → Appends moments moments2 (now ∷ []) → Takes (machine.step old what now drawing.left) new drawing drawing2 actions →
    CutShort (puts machine) file halt actions (record { failed = []; queue = queue; story = story; link_faults = faults; taken = taken; files = files }) (record { failed = failed; queue = later; story = story2; link_faults = faults2; taken = taken2; files = files2 }) →
    MadePart machine file old what (record { story = story; link_faults = faults; moments = moments; drawing = drawing; taken = taken; files = files }) (record { story = story2; link_faults = faults2; moments = moments2; drawing = drawing2; taken = taken2; files = files2 }) halt
MadePart-acts machine file old new what now actions queue later failed story story2 faults faults2 moments moments2 drawing drawing2 taken taken2 files files2 halt kind clock takes cut = record {
  moment = now;
  drawn = takes.drawn;
  undrawn = [];
  actions = cut.done;
  rest = cut.rest;
  happened = cut.happened;
  part = cut.part;
  more = cut.more;
  lost = cut.lost;
  loses = cut.loses;
  draws = append-nil takes.drawn ∙ sym (ap (λ (r : Stepped _). r.drawn) takes.is);
  all = cut.all ∙ sym (ap (λ (r : Stepped _). actions_of r) takes.is);
  performs = cut.performs;
  front = cut.front;
  breaks = acts_break machine old new what now actions drawing drawing2 halt kind takes;
  shows = record { story = cut.story; links = cut.faulted; moments = clock; drawing = takes.draws; taken = cut.taken; files = cut.files };
}
  where
    acts_break : {S : Type 0} (machine : Machine S) (old new : S) (what : Event) (now : ℕ) (actions : List Action) (drawing drawing2 : Drawing) (halt : Halt) → IsOfActs halt → Takes (machine.step old what now drawing.left) new drawing drawing2 actions → Breaks halt (machine.step old what now drawing.left) []
    acts_break machine old new what now actions drawing drawing2 PortFault kind takes = absurd kind
    acts_break machine old new what now actions drawing drawing2 FileFault kind takes = (subst (λ (r : Stepped _). IsOk r.answer) (sym takes.is) refl, refl)
    acts_break machine old new what now actions drawing drawing2 SinkFault kind takes = (subst (λ (r : Stepped _). IsOk r.answer) (sym takes.is) refl, refl)
    acts_break machine old new what now actions drawing drawing2 NoMemory kind takes = tt
    acts_break machine old new what now actions drawing drawing2 Spent kind takes = absurd kind

-- an end that gave the step up
pub MadePart-memory : {S : Type 0} (machine : Machine S) (file : Option (List ℕ)) (old : S) (what : Event) (now : ℕ) (story : Option (List Happening)) (faults : ℕ) (moments moments2 : Option (List ℕ)) (drawing drawing2 : Drawing) (taken : Option (List ℕ)) (files : FilesTold) →
    Appends moments moments2 (now ∷ []) → GivesUp (machine.step old what now drawing.left) drawing drawing2 →
    MadePart machine file old what (record { story = story; link_faults = faults; moments = moments; drawing = drawing; taken = taken; files = files }) (record { story = story; link_faults = faults; moments = moments2; drawing = drawing2; taken = taken; files = files }) NoMemory
MadePart-memory machine file old what now story faults moments moments2 drawing drawing2 taken files clock gives = record {
  moment = now;
  drawn = gives.drawn;
  undrawn = gives.more;
  actions = [];
  rest = actions_of (machine.step old what now drawing.left);
  happened = [];
  part = [];
  more = next_line (puts machine) (actions_of (machine.step old what now drawing.left));
  lost = [];
  loses = refl;
  draws = gives.front;
  all = refl;
  performs = refl;
  front = refl;
  breaks = tt;
  shows = record { story = Appends-nothing story; links = RisesWhere-none faults; moments = clock; drawing = gives.draws; taken = Appends-nothing taken; files = Writes-none files };
}

pub MadePart-spent : {S : Type 0} (machine : Machine S) (file : Option (List ℕ)) (old new : S) (what : Event) (now : ℕ) (story : Option (List Happening)) (faults : ℕ) (moments moments2 : Option (List ℕ)) (drawing drawing2 : Drawing) (taken : Option (List ℕ)) (files : FilesTold) →
    Appends moments moments2 (now ∷ []) → Spends (machine.step old what now drawing.left) new drawing drawing2 →
    MadePart machine file old what (record { story = story; link_faults = faults; moments = moments; drawing = drawing; taken = taken; files = files }) (record { story = story; link_faults = faults; moments = moments2; drawing = drawing2; taken = taken; files = files }) Spent
MadePart-spent machine file old new what now story faults moments moments2 drawing drawing2 taken files clock spends = record {
  moment = now;
  drawn = drawing.left;
  undrawn = [];
  actions = [];
  rest = [];
  happened = [];
  part = [];
  more = [];
  lost = [];
  loses = refl;
  draws = append-nil drawing.left ∙ sym (ap (λ (r : Stepped _). r.drawn) spends.is);
  all = sym (ap (λ (r : Stepped _). actions_of r) spends.is);
  performs = refl;
  front = refl;
  breaks = (ap (λ (r : Stepped _). r.answer) spends.is, refl);
  shows = record { story = Appends-nothing story; links = RisesWhere-none faults; moments = clock; drawing = spends.draws; taken = Appends-nothing taken; files = Writes-none files };
}

-- what waits after a step, where the end's own bound says how much its actions make
pub settled : {S : Type 0} (machine : Machine S) (file : Option (List ℕ)) (actions : List Action) (queue later : List Event) (failed failed2 : List ℕ) (story story2 : Option (List Happening)) (faults faults2 : ℕ) (taken taken2 : Option (List ℕ)) (files files2 : FilesTold) →
    Performed (puts machine) file actions (record { failed = failed; queue = queue; story = story; link_faults = faults; taken = taken; files = files }) (record { failed = failed2; queue = later; story = story2; link_faults = faults2; taken = taken2; files = files2 }) →
    length later ≤ length queue + most_made_by actions
settled machine file actions queue later failed failed2 story story2 faults faults2 taken taken2 files files2 done =
    let most = performs_makes failed actions done.happened done.performs in
    omega (arith, most, ap length done.queue, length-append queue (made_events done.happened))

-- ---- an event's step, by the result of the call that performs the actions

pub err_part : {T S : Type 0} (machine : Machine S) (file : Option (List ℕ)) (old new : S) (what : Event) (now : ℕ) (actions actions2 : List Action) (queue later : List Event) (story story2 : Option (List Happening)) (faults faults2 : ℕ) (moments moments2 : Option (List ℕ)) (drawing drawing2 : Drawing) (taken taken2 : Option (List ℕ)) (files files2 : FilesTold) (r : Result T Halt) →
    actions2 ≡ actions → Appends moments moments2 (now ∷ []) → Takes (machine.step old what now drawing.left) new drawing drawing2 actions → IfErr r IsOfActs →
    IfErr r (λ halt. (failed : List ℕ) × CutShort (puts machine) file halt actions2 (record { failed = []; queue = queue; story = story; link_faults = faults; taken = taken; files = files }) (record { failed = failed; queue = later; story = story2; link_faults = faults2; taken = taken2; files = files2 })) →
    IfErr r (λ halt. MadePart machine file old what (record { story = story; link_faults = faults; moments = moments; drawing = drawing; taken = taken; files = files }) (record { story = story2; link_faults = faults2; moments = moments2; drawing = drawing2; taken = taken2; files = files2 }) halt)
err_part machine file old new what now actions actions2 queue later story story2 faults faults2 moments moments2 drawing drawing2 taken taken2 files files2 (Ok v) same clock takes kind cut = tt
err_part machine file old new what now actions actions2 queue later story story2 faults faults2 moments moments2 drawing drawing2 taken taken2 files files2 (Err halt) same clock takes kind cut =
    MadePart-acts machine file old new what now actions2 queue later cut.0 story story2 faults faults2 moments moments2 drawing drawing2 taken taken2 files files2 halt kind clock
    (subst (λ (l : List Action). Takes (machine.step old what now drawing.left) new drawing drawing2 l) (sym same) takes) cut.1

pub ok_settles : {T E S : Type 0} (machine : Machine S) (file : Option (List ℕ)) (actions actions2 : List Action) (queue later : List Event) (story story2 : Option (List Happening)) (faults faults2 : ℕ) (taken taken2 : Option (List ℕ)) (files files2 : FilesTold) (made : Bool) (before after : ℕ) (r : Result T E) →
    actions2 ≡ actions → (IsTrue made → most_made_by actions + after ≤ before) →
    OnOk r ((failed : List ℕ) × Performed (puts machine) file actions2 (record { failed = []; queue = queue; story = story; link_faults = faults; taken = taken; files = files }) (record { failed = failed; queue = later; story = story2; link_faults = faults2; taken = taken2; files = files2 })) →
    OnOk r (IsTrue made → length later + after ≤ length queue + before)
ok_settles machine file actions actions2 queue later story story2 faults faults2 taken taken2 files files2 made before after (Ok v) same settles done =
    λ is. let most = settled machine file actions2 queue later [] done.0 story story2 faults faults2 taken taken2 files files2 done.1 in
    let few = settles is in
    let equal = ap most_made_by same in
    omega (arith, most, few, equal)
ok_settles machine file actions actions2 queue later story story2 faults faults2 taken taken2 files files2 made before after (Err v) same settles done = tt

pub ok_waits : {T E S : Type 0} (machine : Machine S) (file : Option (List ℕ)) (actions : List Action) (queue later : List Event) (story story2 : Option (List Happening)) (faults faults2 : ℕ) (taken taken2 : Option (List ℕ)) (files files2 : FilesTold) (r : Result T E) →
    OnOk r ((failed : List ℕ) × Performed (puts machine) file actions (record { failed = []; queue = queue; story = story; link_faults = faults; taken = taken; files = files }) (record { failed = failed; queue = later; story = story2; link_faults = faults2; taken = taken2; files = files2 })) →
    OnOk r (are_made queue ≡ true → are_made later ≡ true)
ok_waits machine file actions queue later story story2 faults faults2 taken taken2 files files2 (Ok v) done =
    λ made. subst (λ (l : List Event). are_made l ≡ true) (sym done.1.queue) (all_made queue done.1.happened made)
ok_waits machine file actions queue later story story2 faults faults2 taken taken2 files files2 (Err v) done = tt

-- ---- the loop over the events that wait

pub popped : (queue behind : List Event) (r : Option Event) (what : Event) → queue ≡ option_to_list r ++ behind → r ≡ Some what → queue ≡ what ∷ behind
popped queue behind (Some other) what items is = let same : other ≡ what = cc in items ∙ ap (λ (e : Event). e ∷ behind) same
popped queue behind None what items is = absurd (cc)

both_true : (b c : Bool) → (b && c) ≡ true → (b ≡ true) × (c ≡ true)
both_true true c e = (refl, e)
both_true false c e = absurd (cc)

pub first_made : (queue behind : List Event) (what : Event) → queue ≡ what ∷ behind → are_made queue ≡ true → (is_made what ≡ true) × (are_made behind ≡ true)
first_made queue behind what e made = both_true (is_made what) (are_made behind) (subst (λ (l : List Event). are_made l ≡ true) e made)

pub drain_step : {S : Type 0} (machine : Machine S) (file : Option (List ℕ)) (a : RunState S) (end new : S) (what : Event) (queue behind later : List Event) (s t u : Sight) →
    Ran machine file a (record { state = end; queue = queue; left = t.drawing.left }) 0 s t → queue ≡ what ∷ behind → Made machine file end new what behind later t u →
    Ran machine file a (record { state = new; queue = later; left = u.drawing.left }) 0 s u
drain_step machine file a end new what queue behind later s t u ran is made =
    Ran-trans machine file a _ _ 0 0 s t u ran
    (subst (λ (l : List Event). Ran machine file (record { state = end; queue = l; left = t.drawing.left }) (record { state = new; queue = later; left = u.drawing.left }) 0 t u) (sym is) (Ran-waiting machine file end new what behind later t u made))

pub drain_cut : {S : Type 0} (machine : Machine S) (file : Option (List ℕ)) (a : RunState S) (end : S) (what : Event) (queue behind : List Event) (s t u : Sight) (halt : Halt) →
    Ran machine file a (record { state = end; queue = queue; left = t.drawing.left }) 0 s t → queue ≡ what ∷ behind → MadePart machine file end what t u halt →
    RanInto machine file a 0 s u halt
drain_cut machine file a end what queue behind s t u halt ran is made =
    Into-after machine file a _ 0 0 0 s t u halt ran (omega arith)
    (subst (λ (l : List Event). RanInto machine file (record { state = end; queue = l; left = t.drawing.left }) 0 t u halt) (sym is) (Into-waiting machine file end what behind t u halt made))

-- the exit of a `?` that passes the error on
pub err_exit : {T E : Type 0} (P : E → Type 0) (r : Result T E) (e : E) → IsErrAnd r (λ y. y ≡ e) → P e → IfErr r P
err_exit P (Ok v) e is p = tt
err_exit P (Err v) e is p = subst P (sym is) p

-- ---- one answer of `next`

pub answered : {S : Type 0} (machine : Machine S) (file : Option (List ℕ)) (old mid new : S) (what : Event) (queue behind : List Event) (t u v : Sight) → behind ≡ [] → machine.is_over old ≡ false → is_stop what ≡ false →
    Made machine file old mid what behind queue t u → Ran machine file (run_state_at mid queue u) (idle_at new v) 0 u v →
    (s : Sight) → Shows s t (happening.Given what (machine.want old) ∷ []) [] [] [] [] → Ran machine file (idle_at old s) (idle_at new v) 1 s v
answered machine file old mid new what queue behind t u v none goes_on other made rest s given =
    Ran-trans machine file (idle_at old s) (run_state_at mid queue u) (idle_at new v) 1 0 s u v
    (Ran-given machine file old mid what queue s t u goes_on other given (subst (λ (l : List Event). Made machine file old mid what l queue t u) none made))
    rest

pub answer_cut : {S : Type 0} (machine : Machine S) (file : Option (List ℕ)) (old : S) (what : Event) (t u : Sight) (halt : Halt) → machine.is_over old ≡ false → is_stop what ≡ false → MadePart machine file old what t u halt →
    (s : Sight) → Shows s t (happening.Given what (machine.want old) ∷ []) [] [] [] [] → RanInto machine file (idle_at old s) 1 s u halt
answer_cut machine file old what t u halt goes_on other made s given = Into-given machine file old what s t u halt goes_on other given made

pub answer_drain_cut : {S : Type 0} (machine : Machine S) (file : Option (List ℕ)) (old mid : S) (what : Event) (queue behind : List Event) (t u v : Sight) (halt : Halt) → behind ≡ [] → machine.is_over old ≡ false → is_stop what ≡ false →
    Made machine file old mid what behind queue t u → RanInto machine file (run_state_at mid queue u) 0 u v halt →
    (s : Sight) → Shows s t (happening.Given what (machine.want old) ∷ []) [] [] [] [] → RanInto machine file (idle_at old s) 1 s v halt
answer_drain_cut machine file old mid what queue behind t u v halt none goes_on other made into s given =
    Into-after machine file (idle_at old s) (run_state_at mid queue u) 1 0 1 s u v halt
    (Ran-given machine file old mid what queue s t u goes_on other given (subst (λ (l : List Event). Made machine file old mid what l queue t u) none made))
    (omega arith) into

-- a count that stands where no call failed
pub same_rises : (before now : ℕ) → now ≡ before → RisesWhere false before now
same_rises before now same = subst (λ (n : ℕ). RisesWhere false before n) (sym same) (RisesWhere-none before)

-- what the port alone told
pub told_alone : (story story2 : Option (List Happening)) (faults faults2 : ℕ) (moments : Option (List ℕ)) (drawing : Drawing) (taken : Option (List ℕ)) (files : FilesTold) (hs : List Happening) → Appends story story2 hs → RisesWhere (fails_at_links hs) faults faults2 →
    Shows (record { story = story; link_faults = faults; moments = moments; drawing = drawing; taken = taken; files = files }) (record { story = story2; link_faults = faults2; moments = moments; drawing = drawing; taken = taken; files = files }) hs [] [] [] []
told_alone story story2 faults faults2 moments drawing taken files hs told rises = record { story = told; links = rises; moments = Appends-nothing moments; drawing = DrawsAll-none drawing; taken = Appends-nothing taken; files = Writes-none files }

-- a call of `next` that gave nothing
asked_none : {S : Type 0} (machine : Machine S) (file : Option (List ℕ)) (old : S) (s t : Sight) → machine.is_over old ≡ false → Shows s t [] [] [] [] [] →
    RanToAsk machine file (idle_at old s) 1 s t
asked_none machine file old s t goes_on shows = record {
  last = idle_at old s;
  asked = 0;
  ran = record { steps = []; are = refl; count = refl; shows = shows };
  idle = refl;
  more = omega arith;
  open_still = goes_on;
}

pub ask_halts : {S : Type 0} (machine : Machine S) (file : Option (List ℕ)) (old : S) (s t : Sight) (halt : Halt) → machine.is_over old ≡ false → IsOfAsk halt → Shows s t [] [] [] [] [] → Halts machine file (idle_at old s) 1 s t halt
ask_halts machine file old s t PortFault goes_on kind shows = asked_none machine file old s t goes_on shows
ask_halts machine file old s t NoMemory goes_on kind shows = inl (asked_none machine file old s t goes_on shows)
ask_halts machine file old s t FileFault goes_on kind shows = absurd kind
ask_halts machine file old s t SinkFault goes_on kind shows = absurd kind
ask_halts machine file old s t Spent goes_on kind shows = absurd kind

-- a turn, by the result of its answer
pub turned : {S : Type 0} (machine : Machine S) (file : Option (List ℕ)) (old new : S) (t u s : Sight) (what : Event) (r : Result Bool Halt) → Shows s t (happening.Given what (machine.want old) ∷ []) [] [] [] [] → IfOk r (λ stop. stop ≡ false) →
    OnOk r ((s : Sight) → Shows s t (happening.Given what (machine.want old) ∷ []) [] [] [] [] → Ran machine file (idle_at old s) (idle_at new u) 1 s u) → IfOk r (λ stop. Turns machine file old new s u stop)
turned machine file old new t u s what (Ok stop) given is ran = subst (λ (b : Bool). Turns machine file old new s u b) (sym is) (ran s given)
turned machine file old new t u s what (Err halt) given is ran = tt

pub turn_halts : {S : Type 0} (machine : Machine S) (file : Option (List ℕ)) (old : S) (t u s : Sight) (what : Event) (r : Result Bool Halt) → Shows s t (happening.Given what (machine.want old) ∷ []) [] [] [] [] →
    IfErr r (λ halt. (s : Sight) → Shows s t (happening.Given what (machine.want old) ∷ []) [] [] [] [] → RanInto machine file (idle_at old s) 1 s u halt) → IfErr r (λ halt. Halts machine file (idle_at old s) 1 s u halt)
turn_halts machine file old t u s what (Ok stop) given part = tt
turn_halts machine file old t u s what (Err halt) given part = Into-halts machine file (idle_at old s) 1 s u halt (part s given)

of_acts : (halt : Halt) → IsOfActs halt → IsOfSteps halt
of_acts PortFault kind = absurd kind
of_acts FileFault kind = tt
of_acts SinkFault kind = tt
of_acts NoMemory kind = tt
of_acts Spent kind = tt

pub acts_steps : {T : Type 0} (r : Result T Halt) → IfErr r IsOfActs → IfErr r IsOfSteps
acts_steps (Ok v) kind = tt
acts_steps (Err halt) kind = of_acts halt kind

pub never_port : {T : Type 0} (r : Result T Halt) → IfErr r IsOfSteps → r ≡ Err PortFault → ⊥
never_port r kind e = let K : Result _ Halt → Type 0 = λ x. IfErr x IsOfSteps in subst K e kind

-- ---- the whole run

pub begin_cut : {S : Type 0} (machine : Machine S) (file : Option (List ℕ)) (a : RunState S) (most : ℕ) (s u : Sight) (halt : Halt) → RanInto machine file a 0 s u halt → Halts machine file a most s u halt
begin_cut machine file a most s u halt into =
    Into-halts machine file a most s u halt (Into-after machine file a a 0 0 most s s u halt (Ran-none machine file a s) (omega arith) into)

pub turned_more : {S : Type 0} (machine : Machine S) (file : Option (List ℕ)) (a : RunState S) (old new : S) (n : ℕ) (s t u : Sight) (stop : Bool) → Ran machine file a (idle_at old t) n s t → stop ≡ false → Turns machine file old new t u stop →
    Ran machine file a (idle_at new u) (n + 1) s u
turned_more machine file a old new n s t u stop ran is turns =
    Ran-trans machine file a (idle_at old t) (idle_at new u) n 1 s t u ran (subst (λ (b : Bool). Turns machine file old new t u b) is turns)

pub turned_cut : {S : Type 0} (machine : Machine S) (file : Option (List ℕ)) (a : RunState S) (old : S) (n most : ℕ) (s t u : Sight) (halt : Halt) → Ran machine file a (idle_at old t) n s t → n < most → Halts machine file (idle_at old t) 1 t u halt →
    Halts machine file a most s u halt
turned_cut machine file a old n most s t u halt ran below halts = Halts-after machine file a (idle_at old t) n 1 most s t u halt ran (omega arith) halts

pub ended : {S : Type 0} (machine : Machine S) (file : Option (List ℕ)) (a : RunState S) (last : S) (n most : ℕ) (s t : Sight) → Ran machine file a (idle_at last t) n s t → n ≤ most → (machine.is_over last ≡ true) ⊎ (n ≡ most) → RanOut machine file a last most s t
ended machine file a last n most s t ran within (inl over) = record {
  left = t.drawing.left;
  asked = n;
  middle = t;
  ran = ran;
  within = within;
  stop = [];
  closes = inl (over, refl);
  shows = Shows-none t;
}
ended machine file a last n most s t ran within (inr all) = record {
  left = t.drawing.left;
  asked = n;
  middle = t;
  ran = ran;
  within = within;
  stop = [];
  closes = inr (inl (all, refl));
  shows = Shows-none t;
}
