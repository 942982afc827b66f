-- That a run is determined by what its outside gave: of one step, of the happenings of actions, and of whole runs.
use Rattle.std.proofs.Common.{◌≡◌, ℕ, Bool, true, false, List, [], ◌∷◌, ◌++◌, Ok, refl, sym, ap, subst, ◌∙◌, append_assoc}
use Rattle.std.specs.List.{flat_map}
use Rattle.outside.specs.declared.event.Event.{Event}
use Rattle.outside.specs.declared.event.Happening.{Happening}
use Rattle.outside.specs.declared.event.Happening.TheVariants as happening
use Rattle.outside.specs.declared.action.Action.{Action}
use Rattle.outside.specs.declared.action.Action.TheVariants.{Keep, Send, Dial, Close, Told, Judged}
use Rattle.outside.specs.Machine.{Machine, Stepped}
use Rattle.end_loop.specs.Acts.{Does, SendsOn, Performs, failed_link, has_link, made_events}
use Rattle.end_loop.specs.Runs.{actions_of, RunState, Step, IsStep, AreSteps, Chooses, story_of, moments_of, drawn_of, step_story, actions_in}
use Rattle.end_loop.specs.Unique.{IsDetermined}

none_same : {X : Type 0} (n m l k : List X) → n ≡ [] → m ≡ [] → n ++ l ≡ m ++ k → (n ≡ m) × (l ≡ k)
none_same n m l k a b e = (a ∙ sym b, sym (ap (λ (x : List _). x ++ l) a) ∙ e ∙ ap (λ (x : List _). x ++ k) b)

pub heads : {X : Type 0} (h i : X) (l k : List X) → h ∷ l ≡ i ∷ k → (h ≡ i) × (l ≡ k)
heads h i l k e = (cc, cc)

single_same : {X : Type 0} (h i : X) (n m l k : List X) → n ≡ h ∷ [] → m ≡ i ∷ [] → n ++ l ≡ m ++ k → (n ≡ m) × (l ≡ k)
single_same h i n m l k a b e =
    let both = heads h i l k (sym (ap (λ (x : List _). x ++ l) a) ∙ e ∙ ap (λ (x : List _). x ++ k) b) in
    (a ∙ ap (λ (x : _). x ∷ []) both.0 ∙ sym b, both.1)

sends_same : (known : Bool) (link : ℕ) (bytes : List ℕ) (n m l k : List Happening) → SendsOn known link bytes n → SendsOn known link bytes m → n ++ l ≡ m ++ k → (n ≡ m) × (l ≡ k)
sends_same true link bytes n m l k a b e = none_same n m l k a b e
sends_same false link bytes n m l k a b e = single_same _ _ n m l k a.1 b.1 e

does_same : (failed : List ℕ) (x : Action) (n m l k : List Happening) → Does failed x n → Does failed x m → n ++ l ≡ m ++ k → (n ≡ m) × (l ≡ k)
does_same failed (Keep bytes) n m l k a b e = none_same n m l k a b e
does_same failed (Send link bytes) n m l k a b e = sends_same (has_link failed link) link bytes n m l k a b e
does_same failed (Dial peer) n m l k a b e = single_same _ _ n m l k a.1 b.1 e
does_same failed (Close link cause) n m l k a b e = single_same _ _ n m l k a b e
does_same failed (Told link outcome) n m l k a b e = none_same n m l k a b e
does_same failed (Judged judged) n m l k a b e = none_same n m l k a b e

pub performs_same : (failed : List ℕ) (xs : List Action) (hs ks l k : List Happening) → Performs failed xs hs → Performs failed xs ks → hs ++ l ≡ ks ++ k → (hs ≡ ks) × (l ≡ k)
performs_same failed [] hs ks l k p q e = none_same hs ks l k p q e
performs_same failed (x ∷ xs) hs ks l k p q e =
    let joined : p.0 ++ (p.1 ++ l) ≡ q.0 ++ (q.1 ++ k) =
    sym (append_assoc p.0 p.1 l) ∙ sym (ap (λ (h : List Happening). h ++ l) p.3) ∙ e ∙ ap (λ (h : List Happening). h ++ k) q.3 ∙ append_assoc q.0 q.1 k in
    let now = does_same failed x p.0 q.0 (p.1 ++ l) (q.1 ++ k) p.2 q.2 joined in
    let rest = subst (λ (h : List Happening). Performs (failed ++ flat_map failed_link h) xs q.1) (sym now.0) q.4 in
    let later = performs_same (failed ++ flat_map failed_link p.0) xs p.1 q.1 l k p.4 rest now.1 in
    (p.3 ∙ ap (λ (h : List Happening). h ++ p.1) now.0 ∙ ap (λ (h : List Happening). q.0 ++ h) later.0 ∙ sym q.3, later.1)

run_state_is : {S : Type 0} (a b : RunState S) → a.state ≡ b.state → a.queue ≡ b.queue → a.left ≡ b.left → a ≡ b
run_state_is {S} a b p q r =
    ap (λ (s : S). record a { state = s }) p ∙ ap (λ (l : List Event). record a { state = b.state; queue = l }) q ∙ ap (λ (l : List (List ℕ)). record b { left = l }) r

-- one step
pub record SameStep {S : Type 0} (step other : Step) (new new2 : RunState S) (l k : List Happening) : Type 0 where
  pub new_is : new ≡ new2
  pub drawn : step.drawn ≡ other.drawn
  pub actions : step.actions ≡ other.actions
  pub later : l ≡ k

-- which event it is
pub chosen : {S : Type 0} (machine : Machine S) (state : S) (queue : List Event) (step other : Step) (w v : List Event) (l k : List Happening) → Chooses machine state queue step w → Chooses machine state queue other v →
    step_story step ++ l ≡ step_story other ++ k → (step.event ≡ other.event) × (w ≡ v) × (step.happened ++ l ≡ other.happened ++ k)
chosen machine state [] step other w v l k a b e =
    let joined : step.asked ++ (step.happened ++ l) ≡ other.asked ++ (other.happened ++ k) = sym (append_assoc step.asked step.happened l) ∙ e ∙ append_assoc other.asked other.happened k in
    let both = single_same _ _ step.asked other.asked _ _ a.1 b.1 joined in
    let given : happening.Given step.event (machine.want state) ∷ [] ≡ happening.Given other.event (machine.want state) ∷ [] = sym a.1 ∙ both.0 ∙ b.1 in
    (cc, a.3 ∙ sym b.3, both.1)
chosen machine state (first ∷ later) step other w v l k a b e =
    let joined : step.asked ++ (step.happened ++ l) ≡ other.asked ++ (other.happened ++ k) = sym (append_assoc step.asked step.happened l) ∙ e ∙ append_assoc other.asked other.happened k in
    let both = none_same step.asked other.asked _ _ a.0 b.0 joined in
    (a.1 ∙ sym b.1, a.2 ∙ sym b.2, both.1)

pub step_same : {S : Type 0} (machine : Machine S) (old new new2 : RunState S) (step other : Step) (l k : List Happening) → IsStep machine old step new → IsStep machine old other new2 → step.moment ≡ other.moment →
    step_story step ++ l ≡ step_story other ++ k → SameStep step other new new2 l k
step_same {S} machine old new new2 step other l k p q moment e =
    let which = chosen machine old.state old.queue step other p.waiting q.waiting l k p.chooses q.chooses e in
    let there = subst (λ (m : ℕ). machine.step old.state other.event m old.left ≡ record { answer = Ok other.actions; state = new2.state; drawn = other.drawn; left = new2.left }) (sym moment) q.is in
    let same = subst (λ (v : Event). machine.step old.state v step.moment old.left ≡ record { answer = Ok other.actions; state = new2.state; drawn = other.drawn; left = new2.left }) (sym which.0) there in
    let stepped = sym p.is ∙ same in
    let state : new.state ≡ new2.state = ap (λ (s : Stepped S). s.state) stepped in
    let actions : step.actions ≡ other.actions = ap (λ (s : Stepped S). actions_of s) stepped in
    let drawn : step.drawn ≡ other.drawn = ap (λ (s : Stepped S). s.drawn) stepped in
    let performs = subst (λ (a : List Action). Performs [] a other.happened) (sym actions) q.performs in
    let happened = performs_same [] step.actions step.happened other.happened l k p.performs performs which.2 in
    let queue : new.queue ≡ new2.queue = p.queue ∙ ap (λ (w : List Event). w ++ made_events step.happened) which.1 ∙ ap (λ (h : List Happening). q.waiting ++ made_events h) happened.0 ∙ sym q.queue in
    let left : new.left ≡ new2.left = ap (λ (s : Stepped S). s.left) stepped in
    record { new_is = run_state_is new new2 state queue left; drawn = drawn; actions = actions; later = happened.1 }

pub determined : {S : Type 0} (machine : Machine S) → IsDetermined machine
determined machine start last other [] [] p q story moments = record { last_is = p ∙ sym q; drawn = refl; actions = refl }
determined machine start last other (step ∷ steps) [] p q story moments = absurd (cc)
determined machine start last other [] (step ∷ others) p q story moments = absurd (cc)
determined machine start last other (step ∷ steps) (step2 ∷ others) p q story moments =
    let times = heads step.moment step2.moment (moments_of steps) (moments_of others) moments in
    let same = step_same machine start p.0 q.0 step step2 (story_of steps) (story_of others) p.1 q.1 times.0 story in
    let rest = subst (λ (s : RunState _). AreSteps machine s others other) (sym same.new_is) q.2 in
    let more = determined machine p.0 last other steps others p.2 rest same.later times.1 in
    record {
      last_is = more.last_is;
      drawn = ap (λ (d : List (List ℕ)). d ++ drawn_of steps) same.drawn ∙ ap (λ (d : List (List ℕ)). step2.drawn ++ d) more.drawn;
      actions = ap (λ (a : List Action). a ++ actions_in steps) same.actions ∙ ap (λ (a : List Action). step2.actions ++ a) more.actions;
    }
