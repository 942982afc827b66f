-- Where bytes come, what a controller sends goes on their link, before it closes any, once for each mark.
-- It serves `Proved.marked`, `Proved.ways`, `Proved.replies` and 3 more.
use Rattle.std.proofs.Common.{◌≡◌, ◌⊎◌, ℕ, suc, ◌+◌, Bool, true, false, List, [], ◌∷◌, ◌++◌, length, map, slice_get, Option, Some, None, Result, Ok, Err, refl, sym, ap, subst, ◌∙◌}
use Rattle.std.specs.List.{AllByRecursion}
use Rattle.std.proofs.lemmas.Bool.Decides.{Decides-eqb}
use Rattle.std.proofs.lemmas.List.{append-nil, length-map}
use Rattle.std.proofs.lemmas.List.Concat.{flat_map-append}
use Rattle.wire_base.specs.Maps.{lookup, same_number, take_out}
use Rattle.outside.specs.declared.action.Action.{Action}
use Rattle.outside.specs.declared.action.StepRefused.{StepRefused}
use Rattle.outside.specs.Machine.{step_by, then_part}
use Rattle.rpc_units.specs.Stream.{Cut, cut_stream}
use Rattle.controller_calls.specs.Passing.{IsKeep}
use Rattle.outside.specs.declared.action.Judged.{Judged}
use Rattle.end_links.specs.Links.{LinkState}
use Rattle.end_links.specs.Serving.{ServedPart, served_cut, ServedUnit}
use Rattle.domain_controller.specs.Hearing.{hear}
use Rattle.domain_controller.specs.Machine.{Desk, by_heard, controller_server}
use Rattle.domain_controller.specs.State.{State as ControllerState}
use Rattle.domain_controller.specs.Step.{LinkMap, after_units, first_desk, halted, serve_on, start_turn, state_after, step_on, step_of}
use Rattle.domain_controller.specs.declared.hearing.Heard.{Heard}
use Rattle.controller_calls.specs.declared.line.Line.{Line}
use Rattle.domain_controller.specs.declared.state.Running.{Running}
use Rattle.domain_controller.specs.declared.state.Talk.{Talk}
use Rattle.channel_events.specs.Marks.{Mark, Plain}
use Rattle.step_notes.specs.ChannelNames.{links_sent, sends_in, sent_by}
use Rattle.step_notes.specs.ControllerNotes.{Where, answer_on, units_by, units_of_controller}
use Rattle.step_notes.specs.Marking.{answered_marks}
use Rattle.step_notes.specs.Served.{units_if_taken}
use Rattle.world_moves.specs.declared.bag.BagUnit.{BagUnit}
use Rattle.world_moves.specs.declared.links.EndId.{EndId}
use Rattle.world_moves.specs.declared.links.EndId.TheVariants.{Controller}
use Rattle.world_moves.specs.declared.links.Route.{Route}
use Rattle.world_moves.specs.declared.links.Route.TheVariants.{ToMember, ToController, Between, Stranger, FromStation}
use Rattle.world_moves.specs.declared.state.State.{State}
use Rattle.world_moves.specs.Acting.{AfterHearing, done, heard_by}
use Rattle.world_moves.specs.Ends.{actions_by}
use Rattle.world_moves.specs.Links.{acceptor_of, is_accepted_by, same_end}
use Rattle.world_moves.specs.Alone.{alone_controller_step as controller_step}
use Rattle.domain_world.specs.Past.{marks_of, numbers_on}
use Rattle.controller_calls.proofs.ReplyLaws.{JudgesOne, judges_one}
use Rattle.domain_controller.proofs.UnitLaws.{heard_comes}
use Rattle.step_notes.proofs.Channels.MarkLaws.{units_have_marks}
use Rattle.step_notes.proofs.Controllers.NotedLaws.{IsOn, heard_on}
use Rattle.world_moves.proofs.LinkFrameLaws.{IsOnLink}
use Rattle.domain_world.proofs.Moves.MarkPlaceLaws.{IsHere, all_push}
use Rattle.domain_world.proofs.Moves.NewUnitLaws.{IsFront, IsNewUnit, new_or_plain}
use Rattle.domain_world.proofs.Moves.OpenMadeLaws.{IsApart, IsAtSide, side_of}
use Rattle.end_links.proofs.KeepLaws.{StaysServing, served_stays}
use Rattle.outside.specs.declared.action.Action.TheVariants as action
use Rattle.outside.specs.declared.event.Event.TheVariants as event

abbrev pub AllHere : ℕ → List Action → Type 0
AllHere link actions = AllByRecursion (IsHere link) actions

sends_here : (link : ℕ) (actions : List Action) (other : ℕ) (bytes : List ℕ) → other ≡ link → AllHere link actions → AllHere link (actions ++ action.Send other bytes ∷ [])
sends_here link actions other bytes on here = all_push (IsHere link) actions (action.Send other bytes) here on

-- by what is said then: the link is closed, or it stays open
abbrev pub ClosesLast : ℕ → List Action → Option Talk → Type 0
ClosesLast link actions (Some talk) = AllHere link actions
ClosesLast link actions None = (front : List Action) × (cause : _) × (actions ≡ front ++ action.Close link cause ∷ []) × AllHere link front

abbrev pub PartHere : ℕ → ServedPart Desk Talk → Type 0
PartHere link (Err why) = Unit {0}
PartHere link (Ok part) = ClosesLast link part.value.0.work.actions part.value.1

-- texts that are kept are done on no link
kept_here : (link : ℕ) (kept : List Action) (how : Judged) (other : ℕ) (bytes : List ℕ) → other ≡ link → AllByRecursion IsKeep kept →
    AllHere link (kept ++ action.Judged how ∷ action.Send other bytes ∷ [])
kept_here link [] how other bytes on are = (tt, (on, tt))
kept_here link (action.Keep text ∷ kept) how other bytes on are = (tt, kept_here link kept how other bytes on are.1)
kept_here link (action.Send at more ∷ kept) how other bytes on are = absurd are.0
kept_here link (action.Dial peer ∷ kept) how other bytes on are = absurd are.0
kept_here link (action.Close at cause ∷ kept) how other bytes on are = absurd are.0
kept_here link (action.Told at outcome ∷ kept) how other bytes on are = absurd are.0
kept_here link (action.Judged more ∷ kept) how other bytes on are = absurd are.0

pub all_joined : (link : ℕ) (one two : List Action) → AllHere link one → AllHere link two → AllHere link (one ++ two)
all_joined link [] two first second = second
all_joined link (what ∷ one) two first second = (first.0, all_joined link one two first.1 second)

judged_here : (link : ℕ) (line : Line) (before after : Desk) → line.link ≡ link → AllHere link before.work.actions → JudgesOne line before after → AllHere link after.work.actions
judged_here link line before after on here one =
    let tail : List Action = one.kept ++ action.Judged one.how ∷ action.Send line.link one.answer ∷ [] in
    subst (λ (actions : List Action). AllHere link actions) (sym one.actions)
    (all_joined link before.work.actions tail here (kept_here link one.kept one.how line.link one.answer on one.are_kept))

pub heard_here : (what : Heard) (link : ℕ) (name : List ℕ) (now : ℕ) (d : Desk) (left : List (List ℕ)) → IsOn link what → AllHere link d.work.actions → PartHere link (by_heard what link name now d left)
heard_here what link name now d left heard_so here =
    heard_comes (λ (one : Heard) (part : ServedPart Desk Talk). IsOn link one → PartHere link part) link name now d left (record {
      close = λ cause on. (d.work.actions, cause, refl, here);
      answer = λ bytes talk on. sends_here link d.work.actions link bytes refl here;
      waits = λ talk on. here;
      spent = λ line c talk none on. tt;
      unknown = λ line c talk server rest is none on. sends_here link d.work.actions line.link _ on here;
      known = λ line c talk server rest is known on. sends_here link d.work.actions line.link _ on here;
      denied = λ line c talk status fails none on. sends_here link d.work.actions line.link _ on here;
      accepted = λ line c talk opens on. sends_here link d.work.actions line.link _ on here;
      judged = λ line c talk after comes on. judged_here link line d after on here (judges_one c name now line d after comes);
    }) what heard_so

here_stays : (link : ℕ) (name : List ℕ) (now : ℕ) → StaysServing (controller_server name now link) (PartHere link)
here_stays link name now = record {
  spent = λ why. tt;
  unit = λ bytes d talk left here. heard_here (hear link bytes talk) link name now d left (heard_on link bytes talk) here;
  refusal = λ why d talk left here. (d.work.actions, _, refl, here);
}

-- ---- a step of a controller

-- nothing is sent after the first actions
pub record HasFront (link : ℕ) (actions : List Action) : Type 0 where
  pub front : List Action
  pub rest : List Action
  pub is : actions ≡ front ++ rest
  pub here : AllHere link front
  pub none : sends_in rest ≡ []

pub no_front : (link : ℕ) → HasFront link []
no_front link = record { front = []; rest = []; is = refl; here = tt; none = refl }

pub front_by : (link : ℕ) (actions : List Action) (talk : Option Talk) → ClosesLast link actions talk → HasFront link actions
front_by link actions (Some talk) here = record { front = actions; rest = []; is = sym (append-nil actions); here = here; none = refl }
front_by link actions None closes = record { front = closes.0; rest = action.Close link closes.1 ∷ []; is = closes.2; here = closes.3; none = refl }

served_front : (link : ℕ) (c : ControllerState) (part : ServedPart Desk Talk) (rest : List ℕ) (others : LinkMap) (left : List (List ℕ)) → PartHere link part →
    HasFront link (actions_by (step_by (λ (after : Desk × LinkMap). after.0.work.actions) (λ (after : Desk × LinkMap). state_after c after) (halted c) left
    (then_part (after_units part rest link others) (λ (after : Desk × LinkMap) (rest : List (List ℕ)). start_turn after rest))).answer)
served_front link c (Err why) rest others left here = no_front link
served_front link c (Ok part) rest others left here = front_by link part.value.0.work.actions part.value.1 here

link_front : (found : Option (LinkState Talk)) (link : ℕ) (piece : List ℕ) (c : ControllerState) (running : Running) (now : ℕ) (left : List (List ℕ)) →
    HasFront link (actions_by (step_by (λ (after : Desk × LinkMap). after.0.work.actions) (λ (after : Desk × LinkMap). state_after c after) (halted c) left
    (then_part (serve_on found link piece c.name now (first_desk c.table running) (take_out same_number link running.links) left) (λ (after : Desk × LinkMap) (rest : List (List ℕ)). start_turn after rest))).answer)
link_front None link piece c running now left = no_front link
link_front (Some there) link piece c running now left =
    let cut : Cut = cut_stream (there.rest ++ piece) in
    served_front link c (served_cut (controller_server c.name now link) cut (first_desk c.table running) there.talk left) cut.rest (take_out same_number link running.links) left
    (served_stays (controller_server c.name now link) (PartHere link) (here_stays link c.name now) cut (first_desk c.table running) there.talk left tt)

running_front : (running : Option Running) (link : ℕ) (piece : List ℕ) (c : ControllerState) (now : ℕ) (left : List (List ℕ)) →
    HasFront link (actions_by (step_on running c (event.Bytes link piece) now left).answer)
running_front None link piece c now left = no_front link
running_front (Some running) link piece c now left = link_front (lookup same_number link running.links) link piece c running now left

-- as many bytes are sent as links are sent on
one_size : (what : Action) (rest : List Action) → length (sends_in rest) ≡ length (links_sent rest) → length (sends_in (what ∷ rest)) ≡ length (links_sent (what ∷ rest))
one_size (action.Keep bytes) rest same = same
one_size (action.Send link bytes) rest same = ap suc same
one_size (action.Dial peer) rest same = same
one_size (action.Close link cause) rest same = same
one_size (action.Told link outcome) rest same = same
one_size (action.Judged how) rest same = same

same_size : (actions : List Action) → length (sends_in actions) ≡ length (links_sent actions)
same_size [] = refl
same_size (what ∷ actions) = one_size what actions (same_size actions)

marks_size : (answer : Result (List Action) StepRefused) (units : List (ServedUnit Desk Talk)) (link : ℕ) (w : Where) →
    ((actions : List Action) → answer ≡ Ok actions → links_sent actions ≡ map (λ (mark : Mark). link) (answered_marks (map (answer_on link w) (units_if_taken answer units)))) →
    length (sends_in (actions_by answer)) ≡ length (answered_marks (map (answer_on link w) (units_if_taken answer units)))
marks_size (Err why) units link w each = refl
marks_size (Ok actions) units link w each =
    same_size actions ∙ ap length (each actions refl) ∙ length-map (answered_marks (map (answer_on link w) units)) (λ (mark : Mark). link)

-- the first actions of a controller, where bytes come
pub controller_front : (c : ControllerState) (link : ℕ) (piece : List ℕ) (now : ℕ) (left : List (List ℕ)) (w : Where) →
    IsFront link (answered_marks (map (answer_on link w) (units_of_controller c link piece now left))) (actions_by (step_of c (event.Bytes link piece) now left).answer)
controller_front c link piece now left w =
    let has : HasFront link (actions_by (step_of c (event.Bytes link piece) now left).answer) = running_front c.running link piece c now left in
    record {
      front = has.front;
      rest = has.rest;
      is = has.is;
      here = has.here;
      size = ap length (sym (append-nil (sends_in has.front)) ∙ ap (λ (more : List (List ℕ)). sends_in has.front ++ more) (sym has.none)
          ∙ sym (flat_map-append sent_by has.front has.rest) ∙ ap sends_in (sym has.is))
          ∙ marks_size (step_of c (event.Bytes link piece) now left).answer (units_by c.running link piece c now left) link w
          (λ actions is. units_have_marks.controller c link piece now left w actions is);
    }

pub controller_way : (back : Bool) (route : Route) (at : ℕ) → IsApart route → side_of back route ≡ Some (Controller at) → is_accepted_by (Controller at) route ≡ true
controller_way false route at apart is =
    let same : acceptor_of route ≡ Controller at = cc in
    ap (λ (end : EndId). same_end end (Controller at)) same ∙ (Decides-eqb at at).1 refl
controller_way true (ToMember client member) at apart is = absurd cc
controller_way true (ToController member controller) at apart is = absurd cc
controller_way true (Between from to) at apart is = absurd apart
controller_way true (FromStation station controller) at apart is = absurd apart
controller_way true (Stranger to) at apart is = absurd cc

-- of the units that go into the bag where bytes come at a controller, each is made for no channel, or is one that it
-- sends on their link for its mark
pub controller_unit : (c : ControllerState) (at link : ℕ) (back : Bool) (piece : List ℕ) (s : State) (w : Where) → IsAtSide s.links link back (Controller at) →
    let heard : AfterHearing = heard_by (controller_step (Some c) at (event.Bytes link piece) s.moment s.ends s.chances) s in
    let after : State = (done (Controller at) heard).state in
    let marks : List Mark = answered_marks (map (answer_on link w) (units_of_controller c link piece s.moment s.chances.left)) in
    (units : List BagUnit) → after.bag ≡ s.bag ++ units → AllByRecursion (IsOnLink s.links) units → (place : ℕ) (unit : BagUnit) (mark : Mark) →
    slice_get units place ≡ Some unit → slice_get (marks_of link true units marks) place ≡ Some mark →
    (mark ≡ Plain) ⊎ IsNewUnit link true (actions_by (step_of c (event.Bytes link piece) s.moment s.chances.left).answer) marks (numbers_on link true s.bag after.bag) (length s.bag + place) unit mark
controller_unit c at link back piece s w side units is on place unit mark there marked =
    let heard : AfterHearing = heard_by (controller_step (Some c) at (event.Bytes link piece) s.moment s.ends s.chances) s in
    new_or_plain side.route (Controller at) link true heard.actions (answered_marks (map (answer_on link w) (units_of_controller c link piece s.moment s.chances.left))) heard.state units place unit mark
    side.made (controller_way back side.route at side.apart side.side) (controller_front c link piece s.moment s.chances.left w) is on there marked
