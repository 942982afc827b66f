-- What members tell stays written down, and somebody is let in at the unit that grants his logon.
-- It serves `a_run_is_clear`.
use Rattle.std.proofs.Common.{◌≡◌, ℕ, true, List, [], ◌∷◌, ◌++◌, inl, inr, refl, sym, ap, ap₂, subst, ◌∙◌}
use Rattle.outside.specs.declared.action.Action.{Action}
use Rattle.outside.specs.declared.action.Action.TheVariants as action
use Rattle.outside.specs.declared.action.CloseCause.{CloseCause}
use Rattle.outside.specs.declared.action.Outcome.TheVariants as outcome
use Rattle.outside.specs.declared.event.Event.TheVariants as event
use Rattle.outside.specs.Machine.{whole_step}
use Rattle.wire_base.specs.Lists.{OneOf}
use Rattle.member_server.specs.Machine.{step_of as member_step_of}
use Rattle.member_server.specs.State.{State as MemberState}
use Rattle.step_notes.specs.Records.{Book, OutcomeTold}
use Rattle.world_moves.specs.declared.bag.BagUnit.{BagUnit}
use Rattle.world_moves.specs.declared.links.EndId.{EndId}
use Rattle.world_moves.specs.declared.links.EndId.TheVariants.{Member}
use Rattle.world_moves.specs.declared.moves.Move.TheVariants as move
use Rattle.world_moves.specs.declared.state.State.{State}
use Rattle.world_moves.specs.Acting.{Given, AfterHearing, done}
use Rattle.world_moves.specs.Counting.{is_in}
use Rattle.world_moves.specs.Moving.{onward, settle}
use Rattle.domain_world.specs.Past.{note, note_coming, told_in}
use Rattle.logon_runs.specs.Scenes.Scene.{HasFirst, Scene, Shows}
use Rattle.logon_runs.specs.Scenes.WaitingUnits.{Comes}
use Rattle.logon_runs.proofs.Scenes.SceneLaws.{first_comes}
use Rattle.logon_runs.proofs.Scenes.WaitingLaws.{waiting_comes}
use Rattle.domain_world.proofs.Clear.NotedLaws.{world_at}
use Rattle.domain_world.proofs.Completeness.UnitNotedLaws.{Came, coming, state_then}
use Rattle.domain_world.proofs.Frames.EveryStepLaws.{bytes_told}

-- somebody was let in
abbrev pub IsTold : List OutcomeTold → Type 0
IsTold told = OneOf (λ (one : OutcomeTold). is_in one.outcome ≡ true) told

abbrev pub LetsIn : Book → Type 0
LetsIn b = IsTold b.told

told_before : (told more : List OutcomeTold) → IsTold told → IsTold (told ++ more)
told_before [] more is = absurd is
told_before (one ∷ told) more is = elim is [ inl here ↦ inl here | inr later ↦ inr (told_before told more later) ]

told_behind : (told more : List OutcomeTold) → IsTold more → IsTold (told ++ more)
told_behind [] more is = is
told_behind (one ∷ told) more is = inr (told_behind told more is)

pub stays_told : (s : State) (unit : BagUnit) (later : List BagUnit) (end : EndId) → Came s unit later end → (k : ℕ) (b : Book) → LetsIn b → LetsIn (note (world_at k s) move.Onward b)
stays_told s unit later end came k b is =
    told_before (note_coming move.Onward k s b).told (told_in (onward s).given k)
    (subst IsTold (sym (ap (λ (one : Book). one.told) (came.noted k b) ∙ bytes_told end (coming k came.number unit) unit.bytes (settle came.number s) (state_then end unit came.number s) b)) is)

-- ---- the unit at which it is told

pub lets_in : (s : State) (v : Scene) (unit : BagUnit) (later : List BagUnit) (after : MemberState) (left : List (List ℕ)) (closed link : ℕ) (cause : CloseCause) (domain name key : List ℕ) (more : List Action) →
    Shows s v → HasFirst v unit later (Member v.at_member) →
    member_step_of v.member (event.Bytes unit.link unit.bytes) v.moment v.left ≡ whole_step v.left left (action.Close closed cause ∷ action.Told link (outcome.In domain name key) ∷ more) after →
    (k : ℕ) (b : Book) → LetsIn (note (world_at k s) move.Onward b)
lets_in s v unit later after left closed link cause domain name key more shows first steps k b =
    let actions : List Action = action.Close closed cause ∷ action.Told link (outcome.In domain name key) ∷ more in
    let comes : Comes s unit later (Member v.at_member) = first_comes s v unit later (Member v.at_member) shows first in
    let s1 : State = settle comes.number s in
    let heard = waiting_comes.member s1 v.at_member v.member after (event.Bytes unit.link unit.bytes) left actions shows.member shows.plain
    (ap₂ (λ (now : ℕ) (l : List (List ℕ)). member_step_of v.member (event.Bytes unit.link unit.bytes) now l) shows.moment shows.left ∙ steps
    ∙ ap (λ (l : List (List ℕ)). whole_step l left actions after) (sym shows.left)) in
    let given = comes.given ∙ ap (λ (h : AfterHearing). (done (Member v.at_member) h).given) heard in
    told_behind (note_coming move.Onward k s b).told (told_in (onward s).given k)
    (subst (λ (all : Given). IsTold (told_in all k)) (sym given) (inl refl))
