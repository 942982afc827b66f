-- In every schedule each call that a controller judged, and that came in a unit of the bag, is the call which
-- that unit carries, whole; and each is judged in ranges. It serves `calls_are_judged_as_carried`,
-- `replies_are_read_back` and `marked_units_are_whole`.
use Rattle.std.proofs.Common.{◌≡◌, ℕ, ◌<◌, ◌^◌, Bool, true, false, List, [], ◌∷◌, ◌++◌, inl, inr, Option, Some, None, slice_get, refl, sym, ap, subst, ◌∙◌, append-nil}
use Rattle.std.specs.List.{AllByRecursion}
use Rattle.wire_base.specs.Maps.{lookup, same_number}
use Rattle.wire_base.specs.Numbers.{AreBytes}
use Rattle.outside.specs.declared.action.Action.{Action}
use Rattle.rpc_units.specs.declared.unit.Unit.{Unit as RpcUnit}
use Rattle.rpc_units.specs.Calls.{IsHeard}
use Rattle.rpc_units.specs.Stream.{cut_stream}
use Rattle.controller_calls.specs.declared.calls.ControllerCall.TheVariants as call
use Rattle.logon_stubs.specs.declared.calls.LogonCall.{LogonCall}
use Rattle.end_links.specs.Links.{LinkState}
use Rattle.end_links.specs.Whole.{IsWholeSend}
use Rattle.end_links.specs.Serving.{ServedUnit, served_units}
use Rattle.domain_controller.specs.Hearing.{hear as hear_unit}
use Rattle.domain_controller.specs.Machine.{Desk, controller_server}
use Rattle.domain_controller.specs.State.{State as ControllerState}
use Rattle.domain_controller.specs.Step.{first_desk}
use Rattle.domain_controller.specs.declared.hearing.Heard.{Heard as HeardUnit}
use Rattle.domain_controller.specs.declared.hearing.Heard.TheVariants as heard
use Rattle.controller_calls.specs.declared.line.Line.{Line}
use Rattle.domain_controller.specs.declared.state.Running.{Running}
use Rattle.domain_controller.specs.declared.state.Talk.{Talk}
use Rattle.step_notes.specs.ControllerNotes.{Where, has_passed, heard_answer, judging_of, opened_by, units_at, units_by}
use Rattle.step_notes.specs.HeardWhole.{IsCallOf}
use Rattle.step_notes.specs.JudgedInRange.{HasLevel, IsJudgedInRange}
use Rattle.step_notes.specs.Records.{InUnit, Judging, Source, unit_in}
use Rattle.controller_calls.specs.declared.calls.JudgedCall.{JudgedCall}
use Rattle.step_notes.proofs.Controllers.HeardLaws.{controllers_hear}
use Rattle.step_notes.proofs.Controllers.JudgedCallLaws.{if_network}
use Rattle.world_moves.specs.declared.bag.BagUnit.{BagUnit}
use Rattle.world_moves.specs.declared.links.EndId.{EndId}
use Rattle.world_moves.specs.declared.links.EndId.TheVariants.{Controller}
use Rattle.world_moves.specs.declared.links.LinkKind.TheVariants as kind
use Rattle.world_moves.specs.declared.links.Route.{Route}
use Rattle.world_moves.specs.declared.links.Route.TheVariants.{ToMember, ToController, Between, Stranger, FromStation}
use Rattle.world_moves.specs.declared.state.State.{State}
use Rattle.world_moves.specs.Acting.{perform_quietly, unit_on}
use Rattle.world_moves.specs.Bag.{settle_at}
use Rattle.world_moves.specs.Links.{is_own, kind_of}
use Rattle.world_moves.proofs.QuietLaws.{units_by as sent_by}
use Rattle.domain_world.specs.Accepting.Carried.{IsWholeUnit, call_carried, call_judged}
use Rattle.domain_world.specs.Accepting.Runs.{IsOfMember}
use Rattle.domain_world.specs.Past.{Delivery}
use Rattle.wire_base.proofs.ListLaws.{at_end, got_append, some_is}
use Rattle.domain_world.proofs.Acceptance.Heard.HeardUnitLaws.{heard_level}
use Rattle.domain_world.proofs.Quiet.QuietListenLaws.{ListensWell, WellUnlessStopped, entries_found}
use Rattle.domain_world.proofs.Quiet.QuietRunLaws.{one_piece}
use Rattle.domain_world.proofs.Quiet.QuietStepLaws.{IsMade, WholeBag}
use Rattle.domain_world.proofs.Moves.ComingLaws.{IsPieceOf, IsStill, StillHas, kept_settled}
use Rattle.domain_world.proofs.Moves.MarkPlaceLaws.{got_beside, settled_length}
use Rattle.domain_world.proofs.Moves.OpenMadeLaws.{IsApart, IsAtSide, side_of}
use Rattle.domain_world.proofs.Frames.StepFrameLaws.{ActionFact, RunFact}
use Rattle.domain_world.proofs.Judgements.JudgedLaws.{HoldsIf, judging_holds, opening_holds}

-- ---- what is to hold

-- the call is that of a unit of the bag, with its number, and a level that it asks for has 16 bits
pub record IsCarriedCall (bag : List BagUnit) (number : ℕ) (asked : JudgedCall) (n : ℕ) : Type 0 where
  pub carrier : BagUnit
  pub there : slice_get bag n ≡ Some carrier
  pub whole : IsWholeUnit carrier.bytes
  pub number_is : number ≡ whole.unit.call
  pub carried : call_carried whole.unit.body ≡ Some (call_judged asked)
  pub level : HasLevel asked

-- a call came in that unit of the bag, if it came in one
abbrev pub CarriedIf : List BagUnit → Source → ℕ → JudgedCall → Type 0
CarriedIf bag source number asked = (n : ℕ) → source ≡ InUnit n → IsCarriedCall bag number asked n

pub record IsJudgedWell (bag : List BagUnit) (j : Judging) : Type 0 where
  pub carried : CarriedIf bag j.source j.number j.asked
  pub range : IsJudgedInRange j

-- each unit of the bag went on a link of ends of this world
abbrev pub AreOwn : List BagUnit → Type 0
AreOwn bag = (n : ℕ) (unit : BagUnit) → slice_get bag n ≡ Some unit → is_own unit.kind ≡ true

pub record JudgedStand (bag : List BagUnit) (js : List Judging) : Type 0 where
  pub kinds : AreOwn bag
  pub judged : AllByRecursion (IsJudgedWell bag) js

abbrev pub JudgedFact : RunFact
JudgedFact n s given b = JudgedStand s.bag b.judged

-- whatever an end does
abbrev pub AnyAction : ActionFact
AnyAction end links what = Unit {0}

pub any_actions : (end : EndId) (links : List Route) (actions : List Action) → AllByRecursion (AnyAction end links) actions
any_actions end links [] = tt
any_actions end links (what ∷ actions) = (tt, any_actions end links actions)

-- ---- the units of the bag stay

carried_still : (old bag : List BagUnit) (number : ℕ) (asked : JudgedCall) (n : ℕ) → StillHas old bag → IsCarriedCall old number asked n → IsCarriedCall bag number asked n
carried_still old bag number asked n still is =
    let now : IsStill is.carrier bag n = still n is.carrier is.there in
    record {
      carrier = now.now;
      there = now.there;
      whole = record { frames = is.whole.frames; unit = is.whole.unit; heard = subst (λ (bytes : List ℕ). IsHeard bytes is.whole.frames is.whole.unit) (sym now.bytes) is.whole.heard };
      number_is = is.number_is;
      carried = is.carried;
      level = is.level;
    }

pub all_still : (old bag : List BagUnit) (js : List Judging) → StillHas old bag → AllByRecursion (IsJudgedWell old) js → AllByRecursion (IsJudgedWell bag) js
all_still old bag [] still all = tt
all_still old bag (j ∷ js) still all =
    (record { carried = λ n is. carried_still old bag j.number j.asked n still (all.0.carried n is); range = all.0.range }, all_still old bag js still all.1)

all_own : (old bag : List BagUnit) → ((n : ℕ) (unit : BagUnit) → slice_get bag n ≡ Some unit → (before : BagUnit) × (slice_get old n ≡ Some before) × (unit.kind ≡ before.kind)) → AreOwn old → AreOwn bag
all_own old bag each own n unit there = let before = each n unit there in ap is_own before.2 ∙ own n before.0 before.1

settled_kinds : (number : ℕ) (bag : List BagUnit) → AreOwn bag → AreOwn (settle_at number bag)
settled_kinds number bag own =
    all_own bag (settle_at number bag)
    (λ n unit there.
    let before : (old : BagUnit) × (slice_get bag n ≡ Some old) = got_beside (settle_at number bag) bag n unit (settled_length number bag) there in
    let now : IsStill before.0 (settle_at number bag) n = kept_settled number bag n before.0 before.1 in
    let same : now.now ≡ unit = some_is now.now unit (sym now.there ∙ there) in
    (before.0, before.1, sym (ap (λ (u : BagUnit). u.kind) same) ∙ now.kind)) own

pub settled_stand : (number : ℕ) (bag : List BagUnit) (js : List Judging) → JudgedStand bag js → JudgedStand (settle_at number bag) js
settled_stand number bag js stand =
    record { kinds = settled_kinds number bag stand.kinds; judged = all_still bag (settle_at number bag) js (kept_settled number bag) stand.judged }

more_stand : (bag : List BagUnit) (unit : BagUnit) (js : List Judging) → is_own unit.kind ≡ true → JudgedStand bag js → JudgedStand (bag ++ unit ∷ []) js
more_stand bag unit js own stand = record {
  kinds = λ n one there.
      elim (at_end bag unit one n there) [
        | inl old ↦ stand.kinds n one old
        | inr new ↦ ap (λ (u : BagUnit). is_own u.kind) (sym new.1) ∙ own
      ];
  judged = all_still bag (bag ++ unit ∷ []) js
      (λ n one there. record { now = one; there = got_append bag (unit ∷ []) n one there; bytes = refl; link = refl; kind = refl; back = refl }) stand.judged;
}

pub acts_stand : (end : EndId) (what : Action) (s : State) (js : List Judging) → JudgedStand s.bag js → JudgedStand (perform_quietly end what s).bag js
acts_stand end what s js stand =
    sent_by (λ (units : List BagUnit). JudgedStand (s.bag ++ units) js) s.links end what
    (subst (λ (bag : List BagUnit). JudgedStand bag js) (sym (append-nil s.bag)) stand)
    (λ link bytes route sends made own. more_stand s.bag (unit_on route end link bytes) js own stand)

-- ---- where a piece comes from that a controller hears

-- a controller hears on links to it and on a stranger's, and on no other
pub route_of : (back : Bool) (route : Route) (at : ℕ) → IsApart route → side_of back route ≡ Some (Controller at) → is_own (kind_of route) ≡ true → (member : ℕ) × (route ≡ ToController member at)
route_of back (Between from to) at apart is own = absurd apart
route_of back (FromStation station controller) at apart is own = absurd apart
route_of back (Stranger to) at apart is own = absurd (let never : false ≡ true = own in cc)
route_of false (ToController member controller) at apart is own = (member, ap (λ (n : ℕ). ToController member n) (let same : controller ≡ at = cc in same))
route_of true (ToController member controller) at apart is own = absurd cc
route_of false (ToMember one server) at apart is own = absurd cc
route_of true (ToMember one server) at apart is own = absurd cc

-- the piece is a whole unit of the bag, on a link that a member dialled
pub record IsWholeCarried (s : State) (number : ℕ) (w : Delivery) (piece : List ℕ) : Type 0 where
  pub unit : BagUnit
  pub there : slice_get s.bag number ≡ Some unit
  pub same : unit.bytes ≡ piece
  pub send : IsWholeSend unit.bytes
  pub own : IsOfMember s.links w.link

pub whole_carried : (s : State) (number at : ℕ) (w : Delivery) (piece : List ℕ) → WholeBag s.bag → AreOwn s.bag → IsAtSide s.links w.link w.back (Controller at) → IsPieceOf s number w piece →
    IsWholeCarried s number w piece
whole_carried s number at w piece whole own side came =
    let same_route : side.route ≡ came.route = some_is side.route came.route (sym side.made ∙ came.made) in
    let route = route_of w.back side.route at side.apart side.side (ap (λ (r : Route). is_own (kind_of r)) same_route ∙ ap is_own came.same_kind ∙ own number came.unit came.there) in
    let is : came.unit.kind ≡ kind.ToController = sym came.same_kind ∙ ap kind_of (sym same_route) ∙ ap kind_of route.1 in
    let send : IsWholeSend came.unit.bytes = (whole number came.unit came.there).0 is in
    record {
      unit = came.unit;
      there = came.there;
      same = one_piece came.unit.bytes piece send.few came.part;
      send = send;
      own = (route.0, at, side.made ∙ ap (λ (r : Route). Some r) route.1);
    }

-- ---- what a controller hears then

-- `So` holds of each call that is heard and judged
abbrev pub HeardSo : (So : ℕ → JudgedCall → Type 0) → HeardUnit → Type 0
HeardSo So (heard.Close cause) = Unit {0}
HeardSo So (heard.Answer bytes talk) = Unit {0}
HeardSo So (heard.Waits talk) = Unit {0}
HeardSo So (heard.Asked line (call.Challenge c) talk) = Unit {0}
HeardSo So (heard.Asked line (call.Authenticate c) talk) = Unit {0}
HeardSo So (heard.Asked line (call.Judged asked) talk) = So line.call asked

heard_all : (So : ℕ → JudgedCall → Type 0) (what : HeardUnit) → ((number : ℕ) (asked : JudgedCall) → So number asked) → HeardSo So what
heard_all So (heard.Close cause) all = tt
heard_all So (heard.Answer bytes talk) all = tt
heard_all So (heard.Waits talk) all = tt
heard_all So (heard.Asked line (call.Challenge c) talk) all = tt
heard_all So (heard.Asked line (call.Authenticate c) talk) all = tt
heard_all So (heard.Asked line (call.Judged asked) talk) all = all line.call asked

heard_of : (So : ℕ → JudgedCall → Type 0) (unit : RpcUnit) (what : HeardUnit) →
    ((number : ℕ) (asked : JudgedCall) → number ≡ unit.call → call_carried unit.body ≡ Some (call_judged asked) → So number asked) → IsCallOf unit what → HeardSo So what
heard_of So unit (heard.Close cause) so is = tt
heard_of So unit (heard.Answer bytes talk) so is = tt
heard_of So unit (heard.Waits talk) so is = tt
heard_of So unit (heard.Asked line (call.Challenge c) talk) so is = tt
heard_of So unit (heard.Asked line (call.Authenticate c) talk) so is = tt
heard_of So unit (heard.Asked line (call.Judged asked) talk) so is = so line.call asked is.0 is.1

pub answer_holds : (Fits : Judging → Type 0) (So : ℕ → JudgedCall → Type 0) (what : HeardUnit) (w : Where) (d : Desk) (after : Option Desk) →
    ((line : Line) (asked : JudgedCall) → So line.call asked → Fits (judging_of w line asked d after)) → HeardSo So what → HoldsIf Fits (heard_answer what w d after).judging
answer_holds Fits So (heard.Close cause) w d after fits is = tt
answer_holds Fits So (heard.Answer bytes talk) w d after fits is = tt
answer_holds Fits So (heard.Waits talk) w d after fits is = tt
answer_holds Fits So (heard.Asked line (call.Challenge c) talk) w d after fits is = tt
answer_holds Fits So (heard.Asked line (call.Authenticate c) talk) w d after fits is = opening_holds Fits (opened_by w.controller c d) w line.call c.channel
answer_holds Fits So (heard.Asked line (call.Judged asked) talk) w d after fits is =
    judging_holds Fits (has_passed (judging_of w line asked d after).how) (judging_of w line asked d after) (fits line asked is)

-- of all units that are served
abbrev pub AllHeardSo : (ℕ → JudgedCall → Type 0) → ℕ → List (ServedUnit Desk Talk) → Type 0
AllHeardSo So link units = AllByRecursion (λ (served : ServedUnit Desk Talk). HeardSo So (hear_unit link served.bytes served.talk)) units

pub any_heard : (So : ℕ → JudgedCall → Type 0) (link : ℕ) (units : List (ServedUnit Desk Talk)) → ((number : ℕ) (asked : JudgedCall) → So number asked) → AllHeardSo So link units
any_heard So link [] all = tt
any_heard So link (served ∷ units) all = (heard_all So (hear_unit link served.bytes served.talk) all, any_heard So link units all)

each_heard : (So : ℕ → JudgedCall → Type 0) (link : ℕ) (unit : RpcUnit) (units : List (ServedUnit Desk Talk)) →
    ((number : ℕ) (asked : JudgedCall) → number ≡ unit.call → call_carried unit.body ≡ Some (call_judged asked) → So number asked) →
    AllByRecursion (λ (served : ServedUnit Desk Talk). IsCallOf unit (hear_unit link served.bytes served.talk)) units → AllHeardSo So link units
each_heard So link unit [] so all = tt
each_heard So link unit (served ∷ units) so all = (heard_of So unit (hear_unit link served.bytes served.talk) so all.0, each_heard So link unit units so all.1)

-- the call of a whole unit of the bag is carried by it
pub unit_so : (s : State) (number : ℕ) (w : Delivery) (piece : List ℕ) (is : IsWholeCarried s number w piece) → w.source ≡ InUnit number → AreBytes piece → (n : ℕ) (asked : JudgedCall) →
    n ≡ is.send.unit.call → call_carried is.send.unit.body ≡ Some (call_judged asked) → CarriedIf s.bag w.source n asked
unit_so s number w piece is came bytes n asked numbered carries other there =
    let same : number ≡ other = some_is number other (ap unit_in (sym came ∙ there)) in
    subst (λ (m : ℕ). IsCarriedCall s.bag n asked m) same (record {
      carrier = is.unit;
      there = is.there;
      whole = record { frames = is.send.frames; unit = is.send.unit; heard = is.send.heard };
      number_is = numbered;
      carried = carries;
      level = if_network (λ (c : LogonCall). c.validation < 2 ^ 16) asked
          (λ c kind.
          heard_level is.unit.bytes is.send.frames is.send.unit c (subst AreBytes (sym is.same) bytes) is.send.heard
          (carries ∙ ap (λ (a : JudgedCall). Some (call_judged a)) kind));
    })

module _ (c : ControllerState) (s : State) (w : Delivery) (piece : List ℕ) (number : ℕ) (is : IsWholeCarried s number w piece)
    (So : ℕ → JudgedCall → Type 0) (so : (n : ℕ) (asked : JudgedCall) → n ≡ is.send.unit.call → call_carried is.send.unit.body ≡ Some (call_judged asked) → So n asked) where
  link_so : (found : Option (LinkState Talk)) (running : Running) →
      ((link : LinkState Talk) → found ≡ Some link → ListensWell (IsOfMember s.links) (IsMade s.links) w.link link) →
      AllHeardSo So w.link (units_at found w.link piece c running s.moment s.chances.left)
  link_so None running listens = tt
  link_so (Some link) running listens =
      let well : ListensWell (IsOfMember s.links) (IsMade s.links) w.link link = listens link refl in
      let bytes : link.rest ++ piece ≡ is.unit.bytes = ap (λ (rest : List ℕ). rest ++ piece) (well.rest is.own) ∙ sym is.same in
      subst (λ (all : List ℕ). AllHeardSo So w.link (served_units (controller_server c.name s.moment w.link) (cut_stream all).units (first_desk c.table running) link.talk s.chances.left)) (sym bytes)
      (each_heard So w.link is.send.unit (served_units (controller_server c.name s.moment w.link) (cut_stream is.unit.bytes).units (first_desk c.table running) link.talk s.chances.left) so
      (controllers_hear.calls c.name s.moment w.link is.unit.bytes is.send.frames is.send.unit (first_desk c.table running) link.talk s.chances.left is.send.heard (well.joiner is.own)))

  pub running_so : (r : Option Running) → WellUnlessStopped (IsOfMember s.links) (IsMade s.links) r → AllHeardSo So w.link (units_by r w.link piece c s.moment s.chances.left)
  running_so None well = tt
  running_so (Some running) well =
      link_so (lookup same_number w.link running.links) running
      (λ link there. entries_found (ListensWell (IsOfMember s.links) (IsMade s.links)) w.link running.links link there well)
