-- A run begins as it is to go on: nothing is under way.
-- It serves `runs_begin`.
use Rattle.std.proofs.Common.{◌≡◌, Bool, true, false, ℕ, zero, suc, List, [], ◌∷◌, map, inl, inr, Option, Some, None, slice_get, refl, sym, ap, ◌∙◌, subst, arith}
use Rattle.std.specs.List.{AllByRecursion}
use Rattle.account_table.specs.AccountTable.{AccountTable}
use Rattle.channel_client.specs.Effects.{View, view_of}
use Rattle.channel_client.specs.State.{Requester}
use Rattle.domain_controller.specs.State.{State as ControllerState}
use Rattle.domain_controller.specs.declared.state.Running.{Running as ControllerRunning}
use Rattle.member_server.specs.Machine.{fresh_member}
use Rattle.member_server.specs.SealStep.{channel_of_plan, first_sealing, sealing_member}
use Rattle.member_server.specs.State.{State as MemberState}
use Rattle.member_server.specs.declared.plan.MemberPlan.{MemberPlan}
use Rattle.channel_turns.specs.declared.state.Dialling.TheVariants as dialling
use Rattle.member_server.specs.declared.state.Running.{Running as MemberRunning}
use Rattle.channel_events.specs.Requests.{CallsAreApart, Holds, Requests}
use Rattle.world_moves.specs.declared.plan.Plan.{Plan}
use Rattle.world_moves.specs.Plain.{plain_world}
use Rattle.world_moves.specs.World.{first_controllers, first_world}
use Rattle.world_moves.specs.Ends.{fresh_controller}
use Rattle.domain_world.specs.Accepting.Runs.{AskedIsOut, IsQuietLink, IsQuietTurn, NumbersSuffice, RunsBegin, RunsStandSo, seen_in, view_with}
use Rattle.domain_world.specs.Past.{controller_asked, past, requester_in, running_in, trust_asker}
use Rattle.domain_world.proofs.Moves.FreshTrustLaws.{IsUnused, asker_found, first_unused}
use Rattle.wire_base.proofs.ListLaws.{got_nothing, no_some, some_is}
use Rattle.step_notes.specs.Records.{OfMember, OfTrust, RequesterId}

-- ---- controllers

abbrev empty_running : ControllerRunning
empty_running = record { computers = record { pending = []; channels = []; sessions = [] }; links = [] }

fresh_empty : (hands_on seals : Bool) (table : AccountTable) (name : List ℕ) → Some empty_running ≡ (fresh_controller hands_on seals table name).running
fresh_empty false true table name = refl
fresh_empty true true table name = refl
fresh_empty false false table name = refl
fresh_empty true false table name = refl

first_controller : (hands_on seals : Bool) (tables : List AccountTable) (names : List (List ℕ)) (i : ℕ) (c : ControllerState) (running : ControllerRunning) →
    slice_get (first_controllers hands_on seals tables names) i ≡ Some c → c.running ≡ Some running → AllByRecursion (IsQuietLink []) running.links
first_controller hands_on seals [] names i c running there runs = absurd (got_nothing i c there)
first_controller hands_on seals (table ∷ tables) [] i c running there runs = absurd (got_nothing i c there)
first_controller hands_on seals (table ∷ tables) (name ∷ names) zero c running there runs =
    let is : fresh_controller hands_on seals table name ≡ c = some_is (fresh_controller hands_on seals table name) c there in
    let fresh : Some empty_running ≡ (fresh_controller hands_on seals table name).running = fresh_empty hands_on seals table name in
    let same : empty_running ≡ running = some_is empty_running running (fresh ∙ ap (λ (s : ControllerState). s.running) is ∙ runs) in
    subst (λ (r : ControllerRunning). AllByRecursion (IsQuietLink []) r.links) same tt
first_controller hands_on seals (table ∷ tables) (name ∷ names) (suc i) c running there runs = first_controller hands_on seals tables names i c running there runs

-- ---- members

abbrev fresh_running : MemberPlan → MemberRunning
fresh_running plan = record {
  logons = record { plan = plan; channel = channel_of_plan plan; asked = [] };
  links = [];
  dialling = dialling.Nothing;
  sealing = first_sealing plan.sealed;
}

record IsIdle (running : MemberRunning) : Type 0 where
  quiet : IsQuietTurn running.dialling
  turn : running.logons.channel.turn ≡ None

first_member : (plans : List MemberPlan) (i : ℕ) (m : MemberState) (running : MemberRunning) → slice_get (map sealing_member plans) i ≡ Some m → m.running ≡ Some running → IsIdle running
first_member [] i m running there runs = absurd (got_nothing i m there)
first_member (plan ∷ plans) zero m running there runs =
    let is : sealing_member plan ≡ m = some_is (sealing_member plan) m there in
    let same : fresh_running plan ≡ running = some_is (fresh_running plan) running (ap (λ (s : MemberState). s.running) is ∙ runs) in
    subst (λ (r : MemberRunning). IsIdle r) same (record { quiet = tt; turn = refl })
first_member (plan ∷ plans) (suc i) m running there runs = first_member plans i m running there runs

abbrev blank_view : View
blank_view = record { stands = None; seed = None; opening = None; asking = None; call = 1 }

-- a member that was just made, in whichever way, has asked nothing
abbrev pub MakesBlank : (MemberPlan → MemberState) → Type 0
MakesBlank make = (controller : ℕ) (plan : MemberPlan) → view_with controller (requester_in (running_in (Some (make plan)))) ≡ Some blank_view

first_seen : (make : MemberPlan → MemberState) → MakesBlank make → (plans : List MemberPlan) (controller k : ℕ) (v : View) →
    view_with controller (requester_in (running_in (slice_get (map make plans) k))) ≡ Some v → blank_view ≡ v
first_seen make blank [] controller zero v there = absurd (let x = there in cc)
first_seen make blank [] controller (suc k) v there = absurd (let x = there in cc)
first_seen make blank (plan ∷ plans) controller zero v there = some_is blank_view v (sym (blank controller plan) ∙ there)
first_seen make blank (plan ∷ plans) controller (suc k) v there = first_seen make blank plans controller k v there

-- ---- calls

abbrev pub first_requests : {Who : Type 0} → (Who → Option View) → List (List ℕ) → Requests Who
first_requests views drawn = record { views = views; marks = []; drawn = drawn; uses = 0 }

blank_holds : (challenge : List ℕ) → Holds blank_view challenge → ⊥
blank_holds challenge holds = elim holds.how [ inl under ↦ no_some challenge under | inr there ↦ no_some there.0 there.1 ]

holds_nothing : (v : View) (challenge : List ℕ) → blank_view ≡ v → Holds v challenge → ⊥
holds_nothing v challenge blank holds = blank_holds challenge (subst (λ (w : View). Holds w challenge) (sym blank) holds)

first_apart : {Who : Type 0} → (views : Who → Option View) (drawn : List (List ℕ)) → ((who : Who) (v : View) → views who ≡ Some v → blank_view ≡ v) →
    CallsAreApart (first_requests views drawn)
first_apart views drawn seen = record {
  made_before = λ unit number c asked. absurd (got_nothing unit asked.mark asked.there);
  held_before = λ i v challenge at holds. absurd (holds_nothing v challenge (seen i v at) holds);
  apart = λ i j u v challenge at also holds too. absurd (holds_nothing u challenge (seen i u at) holds);
  opening = λ i v unit number timestamp c at opening there. absurd (got_nothing unit _ there);
  numbers = λ i v unit number c at holds asked. absurd (got_nothing unit asked.mark asked.there);
  distinct = λ unit other number c d asked also same. absurd (got_nothing unit asked.mark asked.there);
  calls = λ i v at. let is : blank_view ≡ v = seen i v at in omega (arith, ap (λ (w : View). w.call) is);
}

-- who asks for a trust has asked nothing
trust_seen : (found : Option ControllerState) (controller trust : ℕ) (v : View) → ((s : Requester) → trust_asker found trust ≡ Some s → IsUnused s) →
    view_with controller (trust_asker found trust) ≡ Some v → blank_view ≡ v
trust_seen found controller trust v unused = by (trust_asker found trust) unused
  where
    by : (asker : Option Requester) → ((s : Requester) → asker ≡ Some s → IsUnused s) → view_with controller asker ≡ Some v → blank_view ≡ v
    by None each there = absurd (no_some v there)
    by (Some s) each there = ap (view_of controller) (each s refl).is ∙ some_is (view_of controller s) v there

world_seen : (plan : Plan) (who : RequesterId) (v : View) → seen_in (first_world plan).state who ≡ Some v → blank_view ≡ v
world_seen plan (OfMember k) v at = first_seen sealing_member (λ controller own. refl) plan.members _ k v at
world_seen plan (OfTrust controller trust) v at =
    let controllers : List ControllerState = (first_world plan).state.ends.controllers in
    trust_seen (slice_get controllers controller) (controller_asked (OfTrust controller trust) (first_world plan).state) trust v
    (λ s is.
    asker_found (slice_get controllers controller) trust s (λ c there k one got. first_unused plan.hands_on plan.seals plan.tables plan.controllers controller c there k one got) is) at

-- calls are apart in the first world of a plain plan
pub plain_apart : (plan : Plan) → CallsAreApart (first_requests (λ (k : ℕ). seen_in (plain_world plan).state (OfMember k)) (plain_world plan).state.chances.drawn)
plain_apart plan =
    first_apart (λ (k : ℕ). seen_in (plain_world plan).state (OfMember k)) (plain_world plan).state.chances.drawn
    (λ k v at. first_seen fresh_member (λ controller own. refl) plan.members _ k v at)

first_out : (plan : Plan) → AskedIsOut (past plan [])
first_out plan k m running pending logon there runs turn question kept =
    absurd (no_some pending (sym (first_member plan.members k m running there runs).turn ∙ turn))

first_stands : (plan : Plan) → RunsStandSo plan []
first_stands plan = record {
  quiet = record {
    bag = λ n unit there of. absurd (got_nothing n unit there);
    controllers = first_controller plan.hands_on plan.seals plan.tables plan.controllers;
    members = λ i m running there runs. (first_member plan.members i m running there runs).quiet;
  };
  requests = first_requests (seen_in (first_world plan).state) (first_world plan).state.chances.drawn;
  shows = record { views = λ who. refl; marks = refl; drawn = refl; few = omega arith };
  apart = first_apart (seen_in (first_world plan).state) (first_world plan).state.chances.drawn (world_seen plan);
  out = first_out plan;
}

numbers_suffice : NumbersSuffice
numbers_suffice plan moves r schedule shows = omega (arith, shows.few, schedule.few)

pub runs_begin : RunsBegin
runs_begin = record { first = first_stands; numbers = numbers_suffice }
