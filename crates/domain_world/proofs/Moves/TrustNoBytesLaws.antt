-- What a controller does where no call is heard, whether it hands logons on or not: its accounts and what it keeps of
-- computers stay, no call is told of, and challenges may be drawn. It serves `Proved.credentials`, `Proved.grants`,
-- `Proved.tables` and `Proved.replays`.
use Rattle.std.proofs.Common.{◌≡◌, ℕ, List, [], ◌∷◌, ◌++◌, Option, Some, None, refl, sym, subst, ◌∙◌}
use Rattle.std.specs.List.{AllByRecursion}
use Rattle.outside.specs.Drawing.{IsRest}
use Rattle.outside.specs.Machine.{Stepped}
use Rattle.outside.specs.declared.action.Action.{Action}
use Rattle.outside.specs.declared.action.Action.TheVariants as action
use Rattle.outside.specs.declared.event.Event.{Event}
use Rattle.outside.specs.declared.event.Event.TheVariants as event
use Rattle.channel_turns.specs.declared.state.Dialling.{Dialling}
use Rattle.controller_calls.specs.declared.calls.ControllerCall.{ControllerCall}
use Rattle.domain_controller.specs.Laws.{trust_calls_of}
use Rattle.domain_controller.specs.Machine.{Desk}
use Rattle.domain_controller.specs.Sessions.{call_told_in, told_in}
use Rattle.domain_controller.specs.State.{State as ControllerState}
use Rattle.domain_controller.specs.Step.{LinkMap}
use Rattle.domain_controller.specs.TrustStep.{trust_step_of}
use Rattle.domain_controller.specs.declared.state.Running.{Running}
use Rattle.domain_controller.proofs.TrustWalkLaws.{AddsTo, TrustSteps, TrustWalks, adds_both, adds_none, adds_one, trust_leads}
use Rattle.domain_controller.proofs.WalkLaws.{DeskTrail, DeskWalks}
use Rattle.world_moves.specs.Ends.{actions_by}
use Rattle.domain_world.proofs.Frames.EveryStepLaws.{controller_rest}
use Rattle.domain_world.proofs.Moves.NoBytesLaws.{IsNoBytes}

-- ---- between two changes no call is heard

abbrev pub TellsNoCall : Action → Type 0
TellsNoCall what = call_told_in what ≡ []

record DeskStays (d after : Desk) : Type 0 where
  table : after.table ≡ d.table
  computers : after.work.computers ≡ d.work.computers
  told : AddsTo TellsNoCall d.work.actions after.work.actions

abbrev Quietly : DeskTrail
Quietly calls d after = calls ≡ [] → DeskStays d after

none_among : (one two : List ControllerCall) → one ++ two ≡ [] → (one ≡ []) × (two ≡ [])
none_among [] two none = (refl, none)
none_among (first ∷ one) two none = absurd (let x = none in cc)

no_call : (what : Action) → told_in what ≡ [] → TellsNoCall what
no_call (action.Judged how) none = absurd (let x = none in cc)
no_call (action.Keep bytes) none = refl
no_call (action.Send link bytes) none = refl
no_call (action.Dial peer) none = refl
no_call (action.Close link cause) none = refl
no_call (action.Told link outcome) none = refl

stays_through : (a b c : Desk) → DeskStays a b → DeskStays b c → DeskStays a c
stays_through a b c first second = record {
  table = second.table ∙ first.table;
  computers = second.computers ∙ first.computers;
  told = adds_both TellsNoCall a.work.actions b.work.actions c.work.actions first.told second.told;
}

desk_quiet : (name : List ℕ) (now : ℕ) → DeskWalks name now Quietly
desk_quiet name now = record {
  same = λ d none. record { table = refl; computers = refl; told = adds_none TellsNoCall d.work.actions };
  join = λ one two a b c first second none.
      let each = none_among one two none in stays_through a b c (first each.0) (second each.1);
  acts = λ d what quiet none.
      record { table = refl; computers = refl; told = adds_one TellsNoCall d.work.actions what (no_call what quiet.told) };
  unknown = λ line c server d none. absurd (let x = none in cc);
  known = λ line c server d none. absurd (let x = none in cc);
  denied = λ line c status d none. absurd (let x = none in cc);
  accepted = λ line c d opens none. absurd (let x = none in cc);
  judged = λ line c d after comes none. absurd (let x = none in cc);
}

walks_quietly : (name : List ℕ) (now : ℕ) → TrustWalks name now Quietly
walks_quietly name now = record {
  base = desk_quiet name now;
  moved = λ c d after is none. absurd (let x = none in cc);
  turns = λ d what is none. record { table = refl; computers = refl; told = adds_one TellsNoCall d.work.actions what is.told };
}

-- ---- a step

-- what is kept of computers, unless the controller stops: after the step, and before it
abbrev pub KeepsUnlessEnded : Option Running → Option Running → Type 0
KeepsUnlessEnded None before = Unit {0}
KeepsUnlessEnded (Some after) None = ⊥
KeepsUnlessEnded (Some after) (Some before) = after.computers ≡ before.computers

same_keeps : (running : Option Running) → KeepsUnlessEnded running running
same_keeps None = tt
same_keeps (Some running) = refl

record StepStays (c : ControllerState) (stepped : Stepped ControllerState) : Type 0 where
  told : AllByRecursion TellsNoCall (actions_by stepped.answer)
  table : stepped.state.table ≡ c.table
  name : stepped.state.name ≡ c.name
  keeps : KeepsUnlessEnded stepped.state.running c.running

-- no call is heard in the event
abbrev HearsNone : ControllerState → Event → Type 0
HearsNone c what = (running : Running) → c.running ≡ Some running → trust_calls_of what running.links c.trusting.dialling ≡ []

steps_quietly : (c : ControllerState) (what : Event) (left : List (List ℕ)) → HearsNone c what → TrustSteps (StepStays c) Quietly c what left
steps_quietly c what left none = record {
  stopped = λ is. record { told = tt; table = refl; name = refl; keeps = same_keeps c.running };
  spent = λ running is. record { told = tt; table = refl; name = refl; keeps = tt };
  taken = λ running after rest is leads.
      let stays = leads (none running is) in
      record {
        told = subst (λ (actions : List Action). AllByRecursion TellsNoCall actions) (sym stays.told.1) stays.told.2;
        table = stays.table;
        name = refl;
        keeps = subst (λ (before : Option Running). KeepsUnlessEnded (Some (record { computers = after.parts.work.work.computers; links = after.parts.links })) before) (sym is) stays.computers;
      };
}

no_calls : (what : Event) (links : LinkMap) (how : Dialling) → IsNoBytes what → trust_calls_of what links how ≡ []
no_calls (event.Bytes link piece) links how none = absurd none
no_calls (event.Opened link) links how none = refl
no_calls (event.Closed link) links how none = refl
no_calls (event.Dialled link) links how none = refl
no_calls event.DialFailed links how none = refl
no_calls event.Stop links how none = refl

pub record HearsNoCall (c : ControllerState) (what : Event) (now : ℕ) (left : List (List ℕ)) : Type 0 where
  pub told : AllByRecursion TellsNoCall (actions_by (trust_step_of c what now left).answer)
  pub table : (trust_step_of c what now left).state.table ≡ c.table
  pub name : (trust_step_of c what now left).state.name ≡ c.name
  pub keeps : KeepsUnlessEnded (trust_step_of c what now left).state.running c.running
  pub rest : IsRest (trust_step_of c what now left).left left

pub hears_no_call : (c : ControllerState) (what : Event) (now : ℕ) (left : List (List ℕ)) → IsNoBytes what → HearsNoCall c what now left
hears_no_call c what now left none =
    let stays : StepStays c (trust_step_of c what now left) =
    trust_leads (StepStays c) Quietly c what now left (walks_quietly c.name now) (steps_quietly c what left (λ running is. no_calls what running.links c.trusting.dialling none)) in
    record { told = stays.told; table = stays.table; name = stays.name; keeps = stays.keeps; rest = controller_rest c.running c what now left }
