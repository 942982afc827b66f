-- At each controller at most one turn is out over all its trusts, and its dial waits or its link is open: what is known
-- of that is kept through all that happens in a run. It serves `Proved.one_turn`.
use Rattle.std.proofs.Common.{◌≡◌, ◌≢◌, ℕ, zero, suc, ◌+◌, ◌≤◌, ◌==◌, Bool, true, false, List, [], ◌∷◌, ◌++◌, drop, inl, inr, Option, Some, None, slice_get, slice_set, refl, sym, ap, subst, ◌∙◌, arith}
use Rattle.std.specs.List.{filter}
use Rattle.std.proofs.lemmas.Bool.{false_from_ne_true}
use Rattle.std.proofs.lemmas.Bool.Decides.{Decides-eqb}
use Rattle.outside.specs.declared.action.Action.{Action}
use Rattle.outside.specs.declared.event.Event.{Event}
use Rattle.outside.specs.declared.event.Event.TheVariants as event
use Rattle.account_table.specs.AccountTable.{AccountTable}
use Rattle.domain_controller.specs.State.{State as ControllerState}
use Rattle.domain_controller.specs.TrustLaws.{OneIsOut}
use Rattle.domain_controller.specs.TrustStep.{trust_step_of as step_of, trust_step_on}
use Rattle.domain_controller.specs.declared.state.Running.{Running}
use Rattle.domain_controller.specs.declared.trusting.Trusting.{Trusting}
use Rattle.domain_controller.proofs.TurnOutLaws.{one_turn_out}
use Rattle.logon_client.specs.Machine.{begin_of, fresh_client}
use Rattle.member_server.specs.Dials.{IsWaiting, dials_in}
use Rattle.step_notes.specs.Records.{ChannelTurn}
use Rattle.world_moves.specs.declared.links.EndId.{EndId}
use Rattle.world_moves.specs.declared.links.EndId.TheVariants.{Client, Controller, Member}
use Rattle.world_moves.specs.declared.moves.Move.{Move}
use Rattle.world_moves.specs.declared.plan.Plan.{Plan}
use Rattle.world_moves.specs.declared.state.State.{State}
use Rattle.world_moves.specs.declared.state.WaitingDial.{WaitingDial}
use Rattle.world_moves.specs.Acting.{Given, forget, given_by, is_of_other, perform_quietly}
use Rattle.world_moves.specs.Ends.{EndStates, EndStep, actions_by, fresh_controller}
use Rattle.world_moves.specs.Links.{same_end}
use Rattle.world_moves.specs.Moving.{changed}
use Rattle.world_moves.specs.Plain.{IsPlainPlan, hear_plain as hear, plain_world, renewed_plain as renewed}
use Rattle.world_moves.specs.World.{first_controllers}
use Rattle.world_moves.proofs.ChangeLaws.{by_change, text_begun}
use Rattle.world_moves.proofs.EndKindLaws.{IfController}
use Rattle.world_moves.proofs.PlainKindLaws.{plain_by as step_by, renew_plain_by as renew_by}
use Rattle.domain_world.specs.Claims.SharedSequences.{HasOneTrustTurnOut}
use Rattle.domain_world.specs.Past.{past}
use Rattle.domain_world.proofs.Frames.MoveKeepLaws.{every}
use Rattle.domain_world.proofs.Messages.MessageOnceLaws.{each_put}
use Rattle.domain_world.proofs.Sequences.DialCountLaws.{answered_dials, dials_count, dials_out, done_same, forgotten_few, given_append, given_dials, given_other, given_own, gone_all, one_if, waiting_dials}
use Rattle.domain_world.proofs.Sequences.DialWalkLaws.{AtState, DialFact, KeepsDials, dials_after}
use Rattle.domain_world.proofs.Sequences.Own.OwnFrameLaws.{answers_less}
use Rattle.domain_world.proofs.Sequences.Own.OwnRunLaws.{first_of_dials}
use Rattle.domain_world.proofs.Sequences.Own.OwnTurnLaws.{Answers, none_of, waits_case}
use Rattle.domain_world.proofs.Sequences.TrustDialLaws.{OnceUnlessStopped, StaysUnlessStopped, dial_stays, dials_once}
use Rattle.wire_base.proofs.ListLaws.{got_nothing, some_is}

-- ---- what is known

-- one dial of the controller is out at most, and a turn waits for it then; of a controller that stopped nothing is
-- known
abbrev pub OutIf : ℕ → Option EndId → Given → List WaitingDial → Option Running → Trusting → Type 0
OutIf at d rest dials None t = Unit {0}
OutIf at d rest dials (Some running) t =
    (dials_out (Controller at) d rest dials ≤ 1) × (1 ≤ dials_out (Controller at) d rest dials → IsWaiting t.dialling)

pub record TrustTurn (at : ℕ) (d : Option EndId) (rest : Given) (dials : List WaitingDial) (c : ControllerState) : Type 0 where
  pub one : OneIsOut c.trusting
  pub out : OutIf at d rest dials c.running c.trusting

abbrev pub TrustsHold : DialFact
TrustsHold d rest plans ends dials chances given turns = (at : ℕ) (c : ControllerState) → slice_get ends.controllers at ≡ Some c → TrustTurn at d rest dials c

-- ---- a controller that takes no step

fewer_out : (at : ℕ) (d later : Option EndId) (rest more : Given) (dials waiting : List WaitingDial) (r : Option Running) (t : Trusting) →
    dials_out (Controller at) later more waiting ≤ dials_out (Controller at) d rest dials → OutIf at d rest dials r t → OutIf at later more waiting r t
fewer_out at d later rest more dials waiting None t few old = tt
fewer_out at d later rest more dials waiting (Some running) t few old = (omega (arith, few, old.0), (λ some. old.1 (omega (arith, few, some))))

fewer : (at : ℕ) (d later : Option EndId) (rest more : Given) (dials waiting : List WaitingDial) (c : ControllerState) →
    dials_out (Controller at) later more waiting ≤ dials_out (Controller at) d rest dials → TrustTurn at d rest dials c → TrustTurn at later more waiting c
fewer at d later rest more dials waiting c few old =
    record { one = old.one; out = fewer_out at d later rest more dials waiting c.running c.trusting few old.out }

-- what another end gives counts nothing for a controller
others_given : (at : ℕ) (d later : Option EndId) (rest : Given) (dials : List WaitingDial) (end : EndId) (actions : List Action) (c : ControllerState) →
    answered_dials (Controller at) later ≤ answered_dials (Controller at) d → same_end end (Controller at) ≡ false → TrustTurn at d rest dials c →
    TrustTurn at later (given_by end actions ++ rest) dials c
others_given at d later rest dials end actions c less other old =
    fewer at d later rest (given_by end actions ++ rest) dials dials c
    (omega (arith, less, given_append (Controller at) (given_by end actions) rest, given_other (Controller at) end actions other)) old

-- ---- a controller that takes a step

-- as many dials of a controller are out as it makes in the step, where none was before
made_out : (at : ℕ) (later : Option EndId) (rest : Given) (dials : List WaitingDial) (r : Option Running) (actions : List Action) (t : Trusting) →
    dials_out (Controller at) later rest dials ≡ 0 → OnceUnlessStopped r actions t → OutIf at later (given_by (Controller at) actions ++ rest) dials r t
made_out at later rest dials None actions t none once = tt
made_out at later rest dials (Some running) actions t none once =
    let itself : same_end (Controller at) (Controller at) ≡ true = (Decides-eqb at at).1 refl in
    let count : given_dials (Controller at) (given_by (Controller at) actions) ≡ dials_in actions = given_own (Controller at) (Controller at) actions itself in
    let all : dials_out (Controller at) later (given_by (Controller at) actions ++ rest) dials ≡ dials_in actions =
    omega (arith, given_append (Controller at) (given_by (Controller at) actions) rest, count, none) in
    (omega (arith, all, once.0), (λ some. once.1 (omega (arith, all, some))))

-- the dial of a controller's turn waits on, where the step dials nothing
waits_on : (at : ℕ) (d : Option EndId) (rest : Given) (dials : List WaitingDial) (before : Trusting) (r : Option Running) (actions : List Action) (t : Trusting) (running : Running) →
    OutIf at d rest dials (Some running) before → StaysUnlessStopped before.dialling r actions t → OutIf at d (given_by (Controller at) actions ++ rest) dials r t
waits_on at d rest dials before None actions t running old stays = tt
waits_on at d rest dials before (Some later) actions t running old stays =
    let itself : same_end (Controller at) (Controller at) ≡ true = (Decides-eqb at at).1 refl in
    let count : given_dials (Controller at) (given_by (Controller at) actions) ≡ 0 = given_own (Controller at) (Controller at) actions itself ∙ stays.0 in
    let all : dials_out (Controller at) d (given_by (Controller at) actions ++ rest) dials ≡ dials_out (Controller at) d rest dials =
    omega (arith, given_append (Controller at) (given_by (Controller at) actions) rest, count) in
    (omega (arith, all, old.0), (λ some. subst IsWaiting (sym stays.1) (old.1 (omega (arith, all, some)))))

running_step : (running : Running) (at : ℕ) (c : ControllerState) (what : Event) (now : ℕ) (left : List (List ℕ)) (d later : Option EndId) (rest : Given) (dials : List WaitingDial) →
    Answers (Controller at) what d later rest → OutIf at d rest dials (Some running) c.trusting →
    let step = step_of c what now left in OutIf at later (given_by (Controller at) (actions_by step.answer) ++ rest) dials step.state.running step.state.trusting
running_step running at c what now left d later rest dials answers old =
    let step = step_of c what now left in
    let actions : List Action = actions_by step.answer in
    elim answers [
      | inl quiet ↦
          subst (λ (e : Option EndId). OutIf at e (given_by (Controller at) actions ++ rest) dials step.state.running step.state.trusting) (sym quiet.1)
          (elim (waits_case c.trusting.dialling) [
            | inl waits ↦ waits_on at d rest dials c.trusting step.state.running actions step.state.trusting running old (dial_stays c what now left quiet.0 waits)
            | inr not_so ↦
                made_out at d rest dials step.state.running actions step.state.trusting (none_of (dials_out (Controller at) d rest dials) old.0 (λ some. not_so (old.1 some)))
                (dials_once c what now left)
          ])
      | inr answered ↦
          let itself : same_end (Controller at) (Controller at) ≡ true = (Decides-eqb at at).1 refl in
          let one : answered_dials (Controller at) d ≡ 1 = ap (λ (e : Option EndId). answered_dials (Controller at) e) answered.0 ∙ ap one_if itself in
          let none : answered_dials (Controller at) later ≡ 0 = ap (λ (e : Option EndId). answered_dials (Controller at) e) answered.1 in
          made_out at later rest dials step.state.running actions step.state.trusting (omega (arith, one, none, old.0)) (dials_once c what now left)
    ]

-- what is known of a controller's dials stays through its step; a controller that had stopped does nothing
stopped_step : (r : Option Running) (at : ℕ) (c : ControllerState) (what : Event) (now : ℕ) (left : List (List ℕ)) (d later : Option EndId) (rest : Given) (dials : List WaitingDial) → c.running ≡ r →
    Answers (Controller at) what d later rest → OutIf at d rest dials r c.trusting →
    let step = step_of c what now left in OutIf at later (given_by (Controller at) (actions_by step.answer) ++ rest) dials step.state.running step.state.trusting
stopped_step None at c what now left d later rest dials is answers old =
    let still : (step_of c what now left).state.running ≡ None = ap (λ (r : Option Running). (trust_step_on r c what now left).state.running) is ∙ is in
    subst (λ (r : Option Running). OutIf at later (given_by (Controller at) (actions_by (step_of c what now left).answer) ++ rest) dials r (step_of c what now left).state.trusting) (sym still) tt
stopped_step (Some running) at c what now left d later rest dials is answers old = running_step running at c what now left d later rest dials answers old

steps : (at : ℕ) (c : ControllerState) (what : Event) (now : ℕ) (left : List (List ℕ)) (d later : Option EndId) (rest : Given) (dials : List WaitingDial) →
    Answers (Controller at) what d later rest → TrustTurn at d rest dials c →
    TrustTurn at later (given_by (Controller at) (actions_by (step_of c what now left).answer) ++ rest) dials (step_of c what now left).state
steps at c what now left d later rest dials answers old = record {
  one = one_turn_out.keeps c what now left old.one;
  out = stopped_step c.running at c what now left d later rest dials refl answers old.out;
}

-- ---- an end hears something

differ_ends : (one other : ℕ) → one ≢ other → (one == other) ≡ false
differ_ends one other differ = false_from_ne_true (one == other) (λ is. differ ((Decides-eqb one other).0 is))

module _ (d later : Option EndId) (rest : Given) (dials : List WaitingDial) (s : State)
    (holds : (at : ℕ) (c : ControllerState) → slice_get s.ends.controllers at ≡ Some c → TrustTurn at d rest dials c)
    (less : (at : ℕ) → answered_dials (Controller at) later ≤ answered_dials (Controller at) d) where
  abbrev After : EndId → EndStates → List Action → Type 0
  After end ends actions = (at : ℕ) (c : ControllerState) → slice_get ends.controllers at ≡ Some c → TrustTurn at later (given_by end actions ++ rest) dials c

  others_hear : (end : EndId) (actions : List Action) → ((at : ℕ) → same_end end (Controller at) ≡ false) → After end s.ends actions
  others_hear end actions other at c is = others_given at d later rest dials end actions c (less at) (other at) (holds at c is)

  none_hears : (end : EndId) → After end s.ends []
  none_hears end at c is = fewer at d later rest rest dials dials c (omega (arith, less at)) (holds at c is)

  controller_hears : (at : ℕ) (c : ControllerState) (what : Event) → slice_get s.ends.controllers at ≡ Some c → Answers (Controller at) what d later rest →
      let step = step_of c what s.moment s.chances.left in
      After (Controller at) (record s.ends { controllers = slice_set s.ends.controllers at step.state }) (actions_by step.answer)
  controller_hears at c what is answers =
      let step = step_of c what s.moment s.chances.left in
      each_put (λ (k : ℕ) (one : ControllerState). TrustTurn k later (given_by (Controller at) (actions_by step.answer) ++ rest) dials one) s.ends.controllers at step.state
      (λ k one differs there. others_given k d later rest dials (Controller at) (actions_by step.answer) one (less k) (differ_ends at k (λ same. differs (sym same))) (holds k one there))
      (steps at c what s.moment s.chances.left d later rest dials answers (holds at c is))

hear_holds : (d later : Option EndId) (rest : Given) (end : EndId) (what : Event) (s : State) (given : Given) (turns : List ChannelTurn) → Answers end what d later rest → AtState TrustsHold d rest s given turns →
    let heard = hear end what s in AtState TrustsHold later (given_by end heard.actions ++ rest) heard.state (given ++ given_by end heard.actions) turns
hear_holds d later rest end what s given turns answers holds =
    let less : (at : ℕ) → answered_dials (Controller at) later ≤ answered_dials (Controller at) d = λ at. answers_less (Controller at) end what d later rest answers in
    step_by (λ (one : EndId) (step : EndStep). Answers one what d later rest → After d later rest s.dials s holds less one step.ends step.actions) what s.moment s.ends s.chances
    (λ one its. none_hears d later rest s.dials s holds less one)
    (λ at c is its. controller_hears d later rest s.dials s holds less at c what is its)
    (λ at m is its. others_hear d later rest s.dials s holds less (Member at) _ (λ k. refl))
    (λ at c is its. others_hear d later rest s.dials s holds less (Client at) _ (λ k. refl)) end answers

-- ---- single changes

first_holds : (dial : WaitingDial) (s : State) (turns : List ChannelTurn) → slice_get s.dials 0 ≡ Some dial → AtState TrustsHold None [] s [] turns →
    (at : ℕ) (c : ControllerState) → slice_get s.ends.controllers at ≡ Some c → TrustTurn at (Some dial.end) [] (drop 1 s.dials) c
first_holds dial s turns is holds at c there =
    let count : waiting_dials (Controller at) s.dials ≡ one_if (same_end dial.end (Controller at)) + waiting_dials (Controller at) (drop 1 s.dials) =
    ap (λ (l : List WaitingDial). waiting_dials (Controller at) l) (first_of_dials s.dials dial is) in
    fewer at None (Some dial.end) [] [] s.dials (drop 1 s.dials) c (omega (arith, count)) (holds at c there)

forgets_hold : (end : EndId) (s : State) (turns : List ChannelTurn) → AtState TrustsHold None [] s [] turns →
    (at : ℕ) (c : ControllerState) → slice_get s.ends.controllers at ≡ Some c → TrustTurn at None [] (filter (is_of_other end) s.dials) c
forgets_hold end s turns holds at c there =
    fewer at None None [] [] s.dials (filter (is_of_other end) s.dials) c (omega (arith, forgotten_few (Controller at) end s.dials)) (holds at c there)

-- no turn is out at a controller that is made anew
fresh_one : (hands_on : Bool) (table : AccountTable) (name : List ℕ) → OneIsOut (fresh_controller hands_on false table name).trusting
fresh_one true table name = one_turn_out.first table name
fresh_one false table name = record { outs = refl; inside = λ out. absurd (let x = out in cc) }

none_out : (at : ℕ) (dials : List WaitingDial) (r : Option Running) (t : Trusting) → waiting_dials (Controller at) dials ≡ 0 → OutIf at None [] dials r t
none_out at dials None t none = tt
none_out at dials (Some running) t none = (omega (arith, none), (λ some. absurd (omega (arith, none, some))))

fresh_turn : (at : ℕ) (hands_on : Bool) (table : AccountTable) (name : List ℕ) (dials : List WaitingDial) → waiting_dials (Controller at) dials ≡ 0 →
    TrustTurn at None [] dials (fresh_controller hands_on false table name)
fresh_turn at hands_on table name dials none = record {
  one = fresh_one hands_on table name;
  out = none_out at dials (fresh_controller hands_on false table name).running (fresh_controller hands_on false table name).trusting none;
}

renews_hold : (end : EndId) (s : State) (turns : List ChannelTurn) → AtState TrustsHold None [] s [] turns → AtState TrustsHold None [] (renewed end (forget end s)) [] turns
renews_hold end s turns holds =
    let dials : List WaitingDial = filter (is_of_other end) s.dials in
    let old : (at : ℕ) (c : ControllerState) → slice_get s.ends.controllers at ≡ Some c → TrustTurn at None [] dials c = forgets_hold end s turns holds in
    renew_by
    (λ (one : EndId) (ends : EndStates).
    IfController (λ (at : ℕ). waiting_dials (Controller at) dials ≡ 0) one →
    (k : ℕ) (c : ControllerState) → slice_get ends.controllers k ≡ Some c → TrustTurn k None [] dials c) (forget end s) (λ one none. old)
    (λ at c is none.
    each_put (λ (k : ℕ) (one : ControllerState). TrustTurn k None [] dials one) s.ends.controllers at (fresh_controller s.hands_on false c.table c.name)
    (λ k one differs there. old k one there) (fresh_turn at s.hands_on c.table c.name dials (none at refl))) (λ at plan is none. old) (λ at plan is none. old) end
    (λ at is. subst (λ (one : EndId). waiting_dials (Controller at) (filter (is_of_other one) s.dials) ≡ 0) (sym is) (gone_all (Controller at) s.dials))

changes_hold : (at : ℕ) (secret : List ℕ) (s : State) (turns : List ChannelTurn) → AtState TrustsHold None [] s [] turns →
    let heard = changed at secret s in AtState TrustsHold None (given_by (Member at) heard.actions ++ []) heard.state (given_by (Member at) heard.actions) turns
changes_hold at secret s turns holds =
    by_change
    (λ (ends : EndStates) (actions : List Action).
    (k : ℕ) (c : ControllerState) → slice_get ends.controllers k ≡ Some c → TrustTurn k None (given_by (Member at) actions ++ []) s.dials c) at secret s.ends holds
    (λ running is none k c there. others_given k None None [] s.dials (Member at) (text_begun secret running) c (omega arith) refl (holds k c there))

-- ---- through a run

pub trusts_keep : KeepsDials every TrustsHold
trusts_keep = record {
  closes = λ d rest end link s given turns holds. hear_holds d d rest end (event.Closed link) s given turns (inl (tt, refl)) holds;
  opens = λ d end link s given turns holds. hear_holds d d [] end (event.Opened link) s given turns (inl (tt, refl)) holds;
  comes = λ end link piece s given turns holds. hear_holds None None [] end (event.Bytes link piece) s given turns (inl (tt, refl)) holds;
  dialled = λ end link s given turns holds. hear_holds (Some end) None [] end (event.Dialled link) s given turns (inr (refl, refl, refl)) holds;
  fails = λ end s given turns holds. hear_holds (Some end) None [] end event.DialFailed s given turns (inr (refl, refl, refl)) holds;
  begins = λ client plan s turns holds at c there.
      others_given at None None [] s.dials (Client client) (begin_of (fresh_client plan)).actions c (omega arith) refl (holds at c there);
  acts = λ d rest end what s given turns holds at c there.
      fewer at d d ((end, what) ∷ rest) rest s.dials (perform_quietly end what s).dials c (omega (arith, done_same (Controller at) d rest end what s)) (holds at c there);
  first = λ dial s turns is holds. first_holds dial s turns is holds;
  forgets = λ end s turns holds. forgets_hold end s turns holds;
  renews = λ end s turns holds. renews_hold end s turns holds;
  changes = λ at secret s turns holds. changes_hold at secret s turns holds;
  over = λ s given turns holds. holds;
}

pub controllers_first : (hands_on : Bool) (tables : List AccountTable) (names : List (List ℕ)) (at k : ℕ) (c : ControllerState) → slice_get (first_controllers hands_on false tables names) k ≡ Some c →
    TrustTurn at None [] [] c
controllers_first hands_on [] names at k c there = absurd (got_nothing k c there)
controllers_first hands_on (table ∷ tables) [] at k c there = absurd (got_nothing k c there)
controllers_first hands_on (table ∷ tables) (name ∷ names) at zero c there =
    subst (λ (one : ControllerState). TrustTurn at None [] [] one) (some_is (fresh_controller hands_on false table name) c there) (fresh_turn at hands_on table name [] refl)
controllers_first hands_on (table ∷ tables) (name ∷ names) at (suc k) c there = controllers_first hands_on tables names at k c there

-- after every run at most one turn is out at each controller
pub one_trust_turn : (plan : Plan) (moves : List Move) → IsPlainPlan plan → (at : ℕ) (c : ControllerState) (running : Running) →
    slice_get (past plan moves).world.state.ends.controllers at ≡ Some c → c.running ≡ Some running → HasOneTrustTurnOut (past plan moves).world.state at c
one_trust_turn plan moves nothing at c running there runs =
    let s : State = (past plan moves).world.state in
    let its : TrustTurn at None [] s.dials c =
    dials_after TrustsHold trusts_keep plan moves nothing (λ k one is. controllers_first plan.hands_on plan.tables plan.controllers k k one is) at c there in
    let out : OutIf at None [] s.dials (Some running) c.trusting = subst (λ (r : Option Running). OutIf at None [] s.dials r c.trusting) runs its.out in
    record {
      one = its.one;
      few = omega (arith, out.0, dials_count (Controller at) s.dials);
      waits = λ some. out.1 (omega (arith, some, dials_count (Controller at) s.dials));
    }
