-- What holds where what is under way is bytes, between members and controllers whole, and nothing stays open there: and
-- that it holds after one step of an end. It serves `runs_stand_so`.
use Rattle.std.proofs.Common.{◌≡◌, ℕ, ◌<◌, ◌^◌, List, [], ◌∷◌, inl, inr, Option, Some, None, Result, Ok, Err, slice_get, refl, sym, ap, subst, ◌∙◌, arith}
use Rattle.std.specs.List.{AllByRecursion}
use Rattle.wire_base.specs.Names.{IsName}
use Rattle.wire_base.specs.Numbers.{AreBytes}
use Rattle.outside.specs.Drawing.{Drawing}
use Rattle.outside.specs.Machine.{Stepped}
use Rattle.outside.specs.declared.action.Action.{Action}
use Rattle.outside.specs.declared.action.Action.TheVariants.{Keep, Send, Dial, Close, Told, Judged}
use Rattle.outside.specs.declared.action.StepRefused.{StepRefused}
use Rattle.outside.specs.declared.event.Event.{Event}
use Rattle.end_links.specs.Links.{LinkState}
use Rattle.end_links.specs.Whole.{IsByteSend, IsWholeIfSent, IsWholeSend}
use Rattle.end_loop.specs.Runs.{actions_of, taken_actions}
use Rattle.domain_controller.specs.State.{State as ControllerState}
use Rattle.domain_controller.specs.Step as controller
use Rattle.domain_controller.specs.Whole.{InRangeState}
use Rattle.domain_controller.proofs.WholeLaws.{sends_are_whole}
use Rattle.logon_client.specs.Machine as client
use Rattle.logon_client.specs.Plans.{CanLogOn}
use Rattle.logon_client.specs.Sends.{IsSentAt}
use Rattle.logon_client.specs.SendsBytes as client_range
use Rattle.logon_client.specs.SendsBytes.{IsByteIfSent}
use Rattle.logon_client.specs.State.{State as ClientState}
use Rattle.logon_client.specs.declared.plan.ClientPlan.{ClientPlan}
use Rattle.logon_client.proofs.ByteLaws.{clients_send_bytes}
use Rattle.logon_client.proofs.SendLaws.{AtUnlessStopped, DialledAt, SendsAt, client_sends}
use Rattle.member_server.specs.Machine as member
use Rattle.member_server.specs.State.{State as MemberState}
use Rattle.member_server.specs.Whole.{AcceptedUnlessStopped, BringsBytes, InRangeEvent, InRangeRunning, InRangeUnlessStopped, IsAccepted, IsAcceptedAfter, IsSentOn, IsTurnLink, opened_link}
use Rattle.member_server.specs.declared.plan.MemberPlan.{MemberPlan}
use Rattle.member_server.specs.declared.state.Running.{Running}
use Rattle.member_server.specs.declared.state.Talk.{Talk}
use Rattle.member_server.proofs.WholeLaws.{LinksAre, accepted_such, members_send_whole}
use Rattle.world_moves.specs.declared.bag.BagUnit.{BagUnit}
use Rattle.world_moves.specs.declared.links.EndId.{EndId}
use Rattle.world_moves.specs.declared.links.EndId.TheVariants.{Controller, Member, Client}
use Rattle.world_moves.specs.declared.links.LinkKind.{LinkKind}
use Rattle.world_moves.specs.declared.links.LinkKind.TheVariants as kind
use Rattle.world_moves.specs.declared.links.Route.{Route}
use Rattle.world_moves.specs.declared.links.Route.TheVariants.{ToMember, ToController}
use Rattle.world_moves.specs.declared.state.State.{State}
use Rattle.world_moves.specs.Ends.{EndStates, EndStep, actions_by, client_step}
use Rattle.world_moves.specs.Links.{acceptor_of}
use Rattle.world_moves.specs.Alone.{alone_controller_step as controller_step, alone_end_step as end_step}
use Rattle.world_moves.proofs.EndKindLaws.{IfClient, IfController, IfMember}
use Rattle.world_moves.specs.Plain.{plain_member_step as member_step}
use Rattle.domain_world.specs.Accepting.Runs.{IsOfMember}
use Rattle.wire_base.proofs.ListLaws.{some_is}
use Rattle.domain_world.proofs.Frames.AloneStepLaws.{alone_by as step_by}
use Rattle.domain_world.proofs.Acceptance.LetInStepLaws.{IsAcceptedBy, IsDialledBy}
use Rattle.domain_world.proofs.Quiet.QuietListenLaws.{OpensWell, WellUnlessStopped, entries_so, listens_on}
use Rattle.domain_world.proofs.Quiet.QuietTurnLaws.{ComesWell, IfOn, OnUnlessStopped, turn_stays}
use Rattle.domain_world.proofs.Messages.MessageOnceLaws.{each_put}
use Rattle.logon_stubs.specs.Ranges.{IsBlock}
use Rattle.domain_world.proofs.Moves.LeftLaws.{AreBlocks, all_rest, end_rests}
use Rattle.domain_world.proofs.Frames.StepFrameLaws.{ActionFact, RunFact}

-- ---- what is to hold

-- the link is one of the world's
abbrev pub IsMade : List Route → ℕ → Type 0
IsMade links number = (route : Route) × (slice_get links number ≡ Some route)

-- the client dialled it
abbrev pub IsClients : List Route → ℕ → ℕ → Type 0
IsClients links client number = (server : ℕ) × (slice_get links number ≡ Some (ToMember client server))

pub record ControllerIsQuiet (links : List Route) (c : ControllerState) : Type 0 where
  pub range : InRangeState c
  pub well : WellUnlessStopped (IsOfMember links) (IsMade links) c.running

pub record RunningIsQuiet (links : List Route) (k : ℕ) (running : Running) : Type 0 where
  pub range : InRangeRunning running
  pub turn : IfOn (IsDialledBy links k) running.dialling
  pub accepted : LinksAre (λ number link. IsAcceptedBy links k number) running.links

abbrev pub MemberIsQuiet : List Route → ℕ → Option Running → Type 0
MemberIsQuiet links k None = Unit {0}
MemberIsQuiet links k (Some running) = RunningIsQuiet links k running

pub record ClientIsQuiet (links : List Route) (k : ℕ) (c : ClientState) : Type 0 where
  pub stands : AtUnlessStopped (IsClients links k) c.running
  pub range : client_range.InRangeUnlessStopped c.running

-- what goes on a link is bytes, and between a member and a controller it is whole
abbrev pub WholeIfCarried : LinkKind → List ℕ → Type 0
WholeIfCarried k bytes = (k ≡ kind.ToController → IsWholeSend bytes) × IsByteSend bytes

abbrev pub WholeBag : List BagUnit → Type 0
WholeBag bag = (n : ℕ) (unit : BagUnit) → slice_get bag n ≡ Some unit → WholeIfCarried unit.kind unit.bytes

pub record StandsQuiet (planned : List MemberPlan) (tasks : List ClientPlan) (links : List Route) (units : List BagUnit) (ends : EndStates) (now : ℕ) (left : List (List ℕ)) : Type 0 where
  pub bag : WholeBag units
  pub controllers : (i : ℕ) (c : ControllerState) → slice_get ends.controllers i ≡ Some c → ControllerIsQuiet links c
  pub members : (k : ℕ) (m : MemberState) → slice_get ends.members k ≡ Some m → MemberIsQuiet links k m.running
  pub clients : (k : ℕ) (c : ClientState) → slice_get ends.clients k ≡ Some c → ClientIsQuiet links k c
  pub moment : now < 2 ^ 64
  pub blocks : AreBlocks left
  pub plans : (k : ℕ) (plan : MemberPlan) → slice_get planned k ≡ Some plan → IsName plan.computer
  pub follow : (k : ℕ) (task : ClientPlan) → slice_get tasks k ≡ Some task → CanLogOn task

abbrev pub QuietState : State → Type 0
QuietState s = StandsQuiet s.member_plans s.client_plans s.links s.bag s.ends s.moment s.chances.left

abbrev pub QuietFact : RunFact
QuietFact n s given b = QuietState s

-- a state is quiet with another bag that is whole
pub with_bag : (s : State) (bag : List BagUnit) → QuietState s → WholeBag bag → StandsQuiet s.member_plans s.client_plans s.links bag s.ends s.moment s.chances.left
with_bag s bag quiet whole = record {
  bag = whole;
  controllers = quiet.controllers;
  members = quiet.members;
  clients = quiet.clients;
  moment = quiet.moment;
  blocks = quiet.blocks;
  plans = quiet.plans;
  follow = quiet.follow;
}

-- what is sent is bytes, and on a link between a member and a controller it is whole
abbrev pub QuietAction : ActionFact
QuietAction end links (Send link bytes) = (IsOfMember links link → IsWholeSend bytes) × IsByteSend bytes
QuietAction end links (Keep bytes) = Unit {0}
QuietAction end links (Dial peer) = Unit {0}
QuietAction end links (Close link cause) = Unit {0}
QuietAction end links (Told link outcome) = Unit {0}
QuietAction end links (Judged how) = Unit {0}

-- ---- actions

same_actions : (answer : Result (List Action) StepRefused) → taken_actions answer ≡ actions_by answer
same_actions (Ok actions) = refl
same_actions (Err why) = refl

-- what is whole is bytes
whole_bytes : (bytes : List ℕ) → IsWholeSend bytes → IsByteSend bytes
whole_bytes bytes whole = record { are = whole.are; short = omega (arith, whole.few) }

whole_quiet : (end : EndId) (links : List Route) (actions : List Action) → AllByRecursion IsWholeIfSent actions → AllByRecursion (QuietAction end links) actions
whole_quiet end links [] all = tt
whole_quiet end links (Send link bytes ∷ actions) all = (((λ own. all.0), whole_bytes bytes all.0), whole_quiet end links actions all.1)
whole_quiet end links (Keep bytes ∷ actions) all = (tt, whole_quiet end links actions all.1)
whole_quiet end links (Dial peer ∷ actions) all = (tt, whole_quiet end links actions all.1)
whole_quiet end links (Close link cause ∷ actions) all = (tt, whole_quiet end links actions all.1)
whole_quiet end links (Told link outcome ∷ actions) all = (tt, whole_quiet end links actions all.1)
whole_quiet end links (Judged how ∷ actions) all = (tt, whole_quiet end links actions all.1)

-- challenges of 8 bytes are bytes
blocks_bytes : (left : List (List ℕ)) → AreBlocks left → AllByRecursion AreBytes left
blocks_bytes [] blocks = tt
blocks_bytes (challenge ∷ left) blocks = (blocks.0.1, blocks_bytes left blocks.1)

-- a link that a member accepted is none between a member and a controller
accepted_other : (links : List Route) (k number : ℕ) → IsAcceptedBy links k number → IsOfMember links number → ⊥
accepted_other links k number accepted own =
    let both : Some accepted.route ≡ Some (ToController own.0 own.1) = sym accepted.at ∙ own.2 in
    let route : accepted.route ≡ ToController own.0 own.1 = some_is accepted.route (ToController own.0 own.1) both in
    let never : Member k ≡ Controller own.1 = sym accepted.acceptor ∙ ap acceptor_of route in cc

clients_other : (links : List Route) (k number : ℕ) → IsClients links k number → IsOfMember links number → ⊥
clients_other links k number of own =
    let both : Some (ToMember k of.0) ≡ Some (ToController own.0 own.1) = sym of.1 ∙ own.2 in cc

sent_quiet : (end : EndId) (links : List Route) (First Second : ℕ → Type 0) → ((number : ℕ) → First number → IsOfMember links number → ⊥) → (actions : List Action) →
    AllByRecursion (IsSentOn First Second) actions → AllByRecursion (QuietAction end links) actions
sent_quiet end links First Second other [] all = tt
sent_quiet end links First Second other (Send link bytes ∷ actions) all = (
  elim all.0 [ inl first ↦ ((λ own. absurd (other link first.0 own)), first.1) | inr second ↦ ((λ own. second.1), whole_bytes bytes second.1) ],
  sent_quiet end links First Second other actions all.1,
)
sent_quiet end links First Second other (Keep bytes ∷ actions) all = (tt, sent_quiet end links First Second other actions all.1)
sent_quiet end links First Second other (Dial peer ∷ actions) all = (tt, sent_quiet end links First Second other actions all.1)
sent_quiet end links First Second other (Close link cause ∷ actions) all = (tt, sent_quiet end links First Second other actions all.1)
sent_quiet end links First Second other (Told link outcome ∷ actions) all = (tt, sent_quiet end links First Second other actions all.1)
sent_quiet end links First Second other (Judged how ∷ actions) all = (tt, sent_quiet end links First Second other actions all.1)

client_quiet : (end : EndId) (links : List Route) (k : ℕ) (actions : List Action) → AllByRecursion (IsSentAt (IsClients links k)) actions → AllByRecursion IsByteIfSent actions →
    AllByRecursion (QuietAction end links) actions
client_quiet end links k [] all are = tt
client_quiet end links k (Send link bytes ∷ actions) all are = (((λ own. absurd (clients_other links k link all.0 own)), are.0), client_quiet end links k actions all.1 are.1)
client_quiet end links k (Keep bytes ∷ actions) all are = (tt, client_quiet end links k actions all.1 are.1)
client_quiet end links k (Dial peer ∷ actions) all are = (tt, client_quiet end links k actions all.1 are.1)
client_quiet end links k (Close link cause ∷ actions) all are = (tt, client_quiet end links k actions all.1 are.1)
client_quiet end links k (Told link outcome ∷ actions) all are = (tt, client_quiet end links k actions all.1 are.1)
client_quiet end links k (Judged how ∷ actions) all are = (tt, client_quiet end links k actions all.1 are.1)

-- ---- one end's step

-- what must be known of an event, by the end that it comes to
abbrev pub MeetsMember : List Route → Event → ℕ → Type 0
MeetsMember links what k = ComesWell (IsDialledBy links k) what × BringsBytes what × ((number : ℕ) → opened_link what ≡ Some number → IsAcceptedBy links k number)

abbrev pub MeetsClient : List Route → Event → ℕ → Type 0
MeetsClient links what k = DialledAt (IsClients links k) what × client_range.BringsBytes what

pub record Meets (end : EndId) (links : List Route) (what : Event) : Type 0 where
  pub controllers : IfController (λ (at : ℕ). OpensWell (IsOfMember links) (IsMade links) what) end
  pub members : IfMember (MeetsMember links what) end
  pub clients : IfClient (MeetsClient links what) end

pub record HasStepped (end : EndId) (plans : List MemberPlan) (tasks : List ClientPlan) (links : List Route) (bag : List BagUnit) (moment : ℕ) (ends : EndStates) (left : List (List ℕ)) (actions : List Action) : Type 0 where
  pub stands : StandsQuiet plans tasks links bag ends moment left
  pub fine : AllByRecursion (QuietAction end links) actions

module _ (plans : List MemberPlan) (tasks : List ClientPlan) (links : List Route) (bag : List BagUnit) (moment : ℕ) (ends : EndStates) (chances : Drawing)
    (quiet : StandsQuiet plans tasks links bag ends moment chances.left) where
  controller_steps : (c : ControllerState) (at : ℕ) (what : Event) → slice_get ends.controllers at ≡ Some c → OpensWell (IsOfMember links) (IsMade links) what →
      AreBlocks (controller_step (Some c) at what moment ends chances).chances.left →
      HasStepped (Controller at) plans tasks links bag moment (controller_step (Some c) at what moment ends chances).ends (controller_step (Some c) at what moment ends chances).chances.left
      (controller_step (Some c) at what moment ends chances).actions
  controller_steps c at what is meets blocks =
      let was : ControllerIsQuiet links c = quiet.controllers at c is in
      let step : Stepped ControllerState = controller.step_of c what moment chances.left in
      record {
        stands = record {
          bag = quiet.bag;
          controllers = each_put (λ i (one : ControllerState). ControllerIsQuiet links one) ends.controllers at step.state (λ i one other there. quiet.controllers i one there) (record {
            range = sends_are_whole.keeps c what moment chances.left was.range quiet.moment quiet.blocks;
            well = listens_on (IsOfMember links) (IsMade links) c what moment chances.left meets was.well;
          });
          members = quiet.members;
          clients = quiet.clients;
          moment = quiet.moment;
          blocks = blocks;
          plans = quiet.plans;
          follow = quiet.follow;
        };
        fine = subst (λ (actions : List Action). AllByRecursion (QuietAction (Controller at) links) actions) (same_actions step.answer)
            (whole_quiet (Controller at) links (actions_of step) (sends_are_whole.sends c what moment chances.left was.range quiet.moment quiet.blocks));
      }

  after_quiet : (k : ℕ) (running : Running) (what : Event) (r : Option Running) → LinksAre (λ number link. IsAcceptedBy links k number) running.links →
      ((number : ℕ) → opened_link what ≡ Some number → IsAcceptedBy links k number) → InRangeUnlessStopped r → OnUnlessStopped (IsDialledBy links k) r → AcceptedUnlessStopped running what r →
      MemberIsQuiet links k r
  after_quiet k running what None accepted opens range turn accepts = tt
  after_quiet k running what (Some after) accepted opens range turn accepts = record {
    range = range;
    turn = turn;
    accepted = entries_so (λ number (link : LinkState Talk). IsAcceptedAfter running what number) (λ number link. IsAcceptedBy links k number)
        (λ number link is. elim is [ inl was ↦ accepted_such (IsAcceptedBy links k) running number accepted was | inr opened ↦ opens number opened ]) after.links accepts;
  }

  running_steps : (r : Option Running) (m : MemberState) (k : ℕ) (what : Event) → m.running ≡ r → MemberIsQuiet links k r → MeetsMember links what k →
      MemberIsQuiet links k (member.step_of m what moment chances.left).state.running
      × AllByRecursion (QuietAction (Member k) links) (actions_by (member.step_of m what moment chances.left).answer)
  running_steps None m k what is was meets =
      subst (λ (r : Option Running). MemberIsQuiet links k (member.step_on r m what moment chances.left).state.running
      × AllByRecursion (QuietAction (Member k) links) (actions_by (member.step_on r m what moment chances.left).answer)) (sym is)
      (subst (λ (r : Option Running). MemberIsQuiet links k r) (sym is) tt, tt)
  running_steps (Some running) m k what is was meets =
      let range : InRangeEvent what chances.left = record { bytes = meets.1; challenges = quiet.blocks } in (
        after_quiet k running what (member.step_of m what moment chances.left).state.running was.accepted meets.2
            (members_send_whole.keeps m running what moment chances.left is was.range range)
            (turn_stays (IsDialledBy links k) m what moment chances.left (subst (λ (r : Option Running). OnUnlessStopped (IsDialledBy links k) r) (sym is) was.turn) meets.0)
            (members_send_whole.accepts m running what moment chances.left is was.range range),
        subst (λ (actions : List Action). AllByRecursion (QuietAction (Member k) links) actions) (same_actions (member.step_of m what moment chances.left).answer)
            (sent_quiet (Member k) links (IsAccepted running) (IsTurnLink running what)
            (λ number accepted own. accepted_other links k number (accepted_such (IsAcceptedBy links k) running number was.accepted accepted) own)
            (actions_of (member.step_of m what moment chances.left)) (members_send_whole.sends m running what moment chances.left is was.range range)),
      )

  member_steps : (m : MemberState) (k : ℕ) (what : Event) → slice_get ends.members k ≡ Some m → MeetsMember links what k →
      AreBlocks (member_step (Some m) k what moment ends chances).chances.left →
      HasStepped (Member k) plans tasks links bag moment (member_step (Some m) k what moment ends chances).ends (member_step (Some m) k what moment ends chances).chances.left
      (member_step (Some m) k what moment ends chances).actions
  member_steps m k what is meets blocks =
      let both = running_steps m.running m k what refl (quiet.members k m is) meets in
      record {
        stands = record {
          bag = quiet.bag;
          controllers = quiet.controllers;
          members = each_put (λ i (one : MemberState). MemberIsQuiet links i one.running) ends.members k (member.step_of m what moment chances.left).state
              (λ i one other there. quiet.members i one there) both.0;
          clients = quiet.clients;
          moment = quiet.moment;
          blocks = blocks;
          plans = quiet.plans;
          follow = quiet.follow;
        };
        fine = both.1;
      }

  client_steps : (c : ClientState) (k : ℕ) (what : Event) → slice_get ends.clients k ≡ Some c → MeetsClient links what k →
      AreBlocks (client_step (Some c) k what moment ends chances).chances.left →
      HasStepped (Client k) plans tasks links bag moment (client_step (Some c) k what moment ends chances).ends (client_step (Some c) k what moment ends chances).chances.left
      (client_step (Some c) k what moment ends chances).actions
  client_steps c k what is meets blocks =
      let was : ClientIsQuiet links k c = quiet.clients k c is in
      let sends : SendsAt (IsClients links k) (client.step_of c what moment chances.left) = client_sends (IsClients links k) c what moment chances.left meets.0 was.stands in
      let comes : client_range.InRangeEvent what chances.left = record { bytes = meets.1; challenges = blocks_bytes chances.left quiet.blocks } in
      record {
        stands = record {
          bag = quiet.bag;
          controllers = quiet.controllers;
          members = quiet.members;
          clients = each_put (λ i (one : ClientState). ClientIsQuiet links i one) ends.clients k (client.step_of c what moment chances.left).state
              (λ i one other there. quiet.clients i one there)
              (record { stands = sends.stands; range = clients_send_bytes.keeps c what moment chances.left was.range comes });
          moment = quiet.moment;
          blocks = blocks;
          plans = quiet.plans;
          follow = quiet.follow;
        };
        fine = subst (λ (actions : List Action). AllByRecursion (QuietAction (Client k) links) actions) (same_actions (client.step_of c what moment chances.left).answer)
            (client_quiet (Client k) links k (actions_of (client.step_of c what moment chances.left)) sends.sends (clients_send_bytes.sends c what moment chances.left was.range comes));
      }

  left_blocks : (end : EndId) (what : Event) → AreBlocks (end_step end what moment ends chances).chances.left
  left_blocks end what =
      all_rest (λ (challenge : List ℕ). IsBlock 8 challenge) (end_step end what moment ends chances).chances.left chances.left (end_rests end what moment ends chances) quiet.blocks

  pub end_steps : (end : EndId) (what : Event) → Meets end links what →
      HasStepped end plans tasks links bag moment (end_step end what moment ends chances).ends (end_step end what moment ends chances).chances.left (end_step end what moment ends chances).actions
  end_steps end what meets =
      step_by (λ (one : EndId) (step : EndStep). Meets one links what → AreBlocks step.chances.left → HasStepped one plans tasks links bag moment step.ends step.chances.left step.actions) what moment
      ends chances (λ one its blocks. record { stands = quiet; fine = tt }) (λ at c is its blocks. controller_steps c at what is (its.controllers at refl) blocks)
      (λ k m is its blocks. member_steps m k what is (its.members k refl) blocks) (λ k c is its blocks. client_steps c k what is (its.clients k refl) blocks) end meets
      (left_blocks end what)
