-- The turns of a controller that hands a logon on, with the controller of a trusted domain, as they are seen of a world
-- (MS-NRPC 3.1.4, 3.5.4; C706 12.6.3, 12.6.4). All other ends stay meanwhile, whatever they are.
use Rattle.std.specs.Prelude.{ℕ, ◌≡◌, ◌≢◌, ◌<◌, ◌^◌, false, true, List, [], ◌∷◌, ◌++◌, length, None, Some, slice_get}
use Rattle.wire_base.specs.Maps.{lookup, put, same_number, take_out}
use Rattle.authenticators.specs.SecureChannels.{SecureChannelState, after_call}
use Rattle.outside.specs.declared.action.Action.TheVariants as action
use Rattle.outside.specs.declared.action.DropCause.{DropCause}
use Rattle.outside.specs.declared.action.Judged.{Judged}
use Rattle.outside.specs.declared.event.Event.TheVariants as event
use Rattle.outside.specs.Machine.{whole_step}
use Rattle.rpc_units.specs.Calls.{bytes_of_call}
use Rattle.rpc_units.specs.Writing.{written}
use Rattle.end_links.specs.Binding.{bind_of}
use Rattle.logon_stubs.specs.Interface.{netlogon_syntax}
use Rattle.logon_stubs.specs.Status.{no_logon_servers}
use Rattle.logon_stubs.specs.declared.calls.Call.{Call}
use Rattle.logon_stubs.specs.declared.calls.Reply.{Reply}
use Rattle.logon_stubs.specs.declared.info.Verdict.{Verdict}
use Rattle.logon_stubs.specs.declared.info.Verdict.TheVariants.{Status}
use Rattle.account_table.specs.AccountTable.{AccountTable}
use Rattle.channel_client.specs.declared.judging.Judgement.TheVariants as judgement
use Rattle.channel_client.specs.declared.state.Question.{Question}
use Rattle.channel_client.specs.declared.state.Standing.{Standing}
use Rattle.channel_client.specs.declared.state.Standing.TheVariants as standing
use Rattle.channel_client.specs.declared.state.Step.{Step}
use Rattle.channel_client.specs.declared.state.Step.TheVariants as step
use Rattle.channel_client.specs.Machine.{after, auth_call, judge, logon_call, question_of}
use Rattle.authenticators.specs.Timestamps.{timestamp_of}
use Rattle.controller_calls.specs.declared.state.Computers.{Computers}
use Rattle.domain_controller.specs.Hearing.{first_talk}
use Rattle.domain_controller.specs.State.{State as ControllerState}
use Rattle.domain_controller.specs.Step.{LinkMap}
use Rattle.domain_controller.specs.TrustActions.{answer_of}
use Rattle.domain_controller.specs.TrustOrder.{NobodyWaits}
use Rattle.domain_controller.specs.TrustStep.{trust_step_of}
use Rattle.world_moves.specs.declared.bag.BagUnit.{BagUnit}
use Rattle.world_moves.specs.declared.links.EndId.TheVariants.{Controller}
use Rattle.world_moves.specs.declared.links.LinkKind.TheVariants as kind
use Rattle.world_moves.specs.declared.links.Route.{Route}
use Rattle.world_moves.specs.declared.links.Route.TheVariants.{Between}
use Rattle.world_moves.specs.declared.state.State.{State}
use Rattle.world_moves.specs.declared.state.WaitingDial.{WaitingDial}
use Rattle.world_moves.specs.Ends.{EndStates}
use Rattle.world_moves.specs.Links.{OpenMap, accepted, answered}
use Rattle.world_moves.specs.Moving.{connect, end_of_peer, onward, route_to}
use Rattle.logon_steps.specs.Asking.{info_at}
use Rattle.logon_steps.specs.BesideTrusts.{Keeping, keeping_at, kept_with}
use Rattle.logon_steps.specs.ControllerTurns.{one_link, reply_bytes, turn_link}
use Rattle.logon_steps.specs.HandedOn.{HandedOn, IsNewLink, IsTrusted, handed_back, handing_at}
use Rattle.logon_steps.specs.MemberTurns.{bind_waits, on_turn}
use Rattle.logon_steps.specs.Turning.{IsTurnCall, IsTurnReply, turn_ack, turn_request}
use Rattle.logon_runs.specs.Scenes.Scene.{units_sent}
use Rattle.logon_runs.specs.Scenes.Traffic.{HasTraffic, Traffic}
use Rattle.logon_runs.specs.Scenes.WaitingUnits.{with_controller_at}

-- ---- the two controllers

-- all ends, but for what the two controllers are by now, and their numbers; the logon that is handed on, and how far
-- the channel is on which it is asked for; what the other controller keeps; all links, those that are open, and the
-- turn's own
pub record HopScene : Type 0 where
  pub ends : EndStates
  pub at_first : ℕ
  pub at_other : ℕ
  pub handed : HandedOn
  pub how : Standing
  pub other : Keeping
  pub links : List Route
  pub opened : OpenMap
  pub link : ℕ

-- both controllers are there, and are two; the trust is the first one's, and nobody waits at those who ask at the other
pub record AreTwo (h : HopScene) : Type 0 where
  pub first : ControllerState
  pub is_first : slice_get h.ends.controllers h.at_first ≡ Some first
  pub second : ControllerState
  pub is_second : slice_get h.ends.controllers h.at_other ≡ Some second
  pub apart : h.at_other ≢ h.at_first
  pub trusted : IsTrusted h.handed
  pub nobody : NobodyWaits h.other.requesters

-- all ends, with what the two controllers are by now
abbrev pub ends_with : HopScene → (first other : ControllerState) → EndStates
ends_with h first other = with_controller_at h.at_other other (with_controller_at h.at_first first h.ends)

-- the link of the turn is open between both controllers
pub record IsAcross (h : HopScene) : Type 0 where
  pub route : slice_get h.links h.link ≡ Some (Between h.at_first h.at_other)
  pub opened : lookup same_number h.link h.opened ≡ Some (record { route = Between h.at_first h.at_other; dialler = true; acceptor = true })

-- a unit on the link of the turn, to the other controller
abbrev pub unit_over : HopScene → List ℕ → BagUnit
unit_over h bytes = record { bytes = bytes; link = h.link; kind = kind.Between; back = false; is_settled = false }

-- a unit on the link of the turn, back to the first controller
abbrev pub unit_home : HopScene → List ℕ → BagUnit
unit_home h bytes = record { bytes = bytes; link = h.link; kind = kind.Between; back = true; is_settled = false }

-- ---- what is seen

abbrev pub hop_traffic : HopScene → OpenMap → List BagUnit → List WaitingDial → List (List ℕ) → ℕ → Traffic
hop_traffic h opened units dials left moment = record { links = h.links; opened = opened; units = units; dials = dials; left = left; moment = moment }

-- the turn waits for the answer to its bind or call of that number, and these units are on its link
abbrev pub ShowsHop : State → HopScene → (next number : ℕ) → Step → (there : LinkMap) (units : List BagUnit) → List (List ℕ) → (moment : ℕ) → Type 0
ShowsHop s h next number what there units left moment =
    HasTraffic s (ends_with h (handing_at h.handed h.how next number what (on_turn h.link)) (keeping_at h.other there)) (hop_traffic h h.opened units [] left moment)

-- the turn's dial waits alone, and no unit is under way
abbrev pub ShowsHopDial : State → (h : HopScene) → IsTrusted h.handed → (opened : OpenMap) (how : Standing) (next number : ℕ) → Step → List (List ℕ) → (moment : ℕ) → Type 0
ShowsHopDial s h is opened how next number what left moment =
    HasTraffic s (ends_with h (handing_at h.handed how next number what (bind_waits number)) (keeping_at h.other []))
    (hop_traffic h opened [] (record { end = Controller h.at_first; peer = is.entry.address } ∷ []) left moment)

-- the answer goes back on the link on which the logon came, if that is open, and nobody waits
abbrev pub ShowsBack : State → HopScene → OpenMap → Standing → (next : ℕ) → Verdict → List (List ℕ) → (moment : ℕ) → Type 0
ShowsBack s h opened how next verdict left moment =
    HasTraffic s (ends_with h (handed_back h.handed how next) (keeping_at h.other []))
    (hop_traffic h opened (units_sent h.links (Controller h.at_first) (answer_of (Some (verdict, h.handed.call)))) [] left moment)

-- the scene once the turn is on the next link
abbrev pub next_hop : HopScene → OpenMap → Standing → HopScene
next_hop h opened how = record h {
  how = how;
  links = h.links ++ Between h.at_first h.at_other ∷ [];
  opened = put same_number (length h.links) (answered (accepted (Between h.at_first h.at_other)))
      (opened ++ (length h.links, accepted (Between h.at_first h.at_other)) ∷ []);
  link = length h.links;
}

-- the scene where the other controller keeps other accounts and computers
abbrev pub other_with : AccountTable → Computers → HopScene → HopScene
other_with table computers h = record h { other = kept_with table computers h.other }

pub record HopTurnsAreSeen : Type 0 where
  -- the dial is answered on the next link, and the bind goes out
  pub dialled : (s : State) (h : HopScene) (two : AreTwo h) (opened : OpenMap) (how : Standing) (next number : ℕ) (what : Step) (left : List (List ℕ)) (moment : ℕ) →
      let route : Route = Between h.at_first h.at_other in
      route_to (Controller h.at_first)
      (end_of_peer two.trusted.entry.address (ends_with h (handing_at h.handed how next number what (bind_waits number)) (keeping_at h.other []))) ≡ Some route →
      lookup same_number (length h.links) (opened ++ (length h.links, accepted route) ∷ []) ≡ Some (accepted route) →
      IsNewLink (length h.links) h.handed → IsAcross (next_hop h opened how) → ShowsHopDial s h two.trusted opened how next number what left moment →
      ShowsHop (connect s).state (next_hop h opened how) next number what (one_link (length h.links) first_talk)
      (unit_over (next_hop h opened how) (written (bind_of netlogon_syntax number)) ∷ []) left moment
  -- the bind is answered, and the call goes out
  pub bound : (s : State) (h : HopScene) (next number : ℕ) (what : Step) (left : List (List ℕ)) (moment : ℕ) → AreTwo h → IsAcross h → number < 2 ^ 32 →
      ShowsHop s h next number what (one_link h.link first_talk) (unit_over h (written (bind_of netlogon_syntax number)) ∷ []) left moment →
      ShowsHop (onward s).state h next number what (turn_link h.link) (unit_home h (written (turn_ack number)) ∷ []) left moment
  pub asks : (s : State) (h : HopScene) (next number : ℕ) (c : Call) (left : List (List ℕ)) (moment : ℕ) → AreTwo h → IsAcross h → number < 2 ^ 32 →
      ShowsHop s h next number (step.Bind c) (turn_link h.link) (unit_home h (written (turn_ack number)) ∷ []) left moment →
      ShowsHop (onward s).state h (after next) next (step.Reply (question_of c)) (turn_link h.link) (unit_over h (bytes_of_call (turn_request next c) 5840) ∷ []) left moment
  -- the other controller answers the call, telling nothing or how it judged, and keeps its accounts or others then
  pub answers : (s : State) (h : HopScene) (next number : ℕ) (what : Step) (c : Call) (r : Reply) (computers : Computers) (left rest : List (List ℕ)) (moment : ℕ) → AreTwo h → IsAcross h → IsTurnCall c →
      trust_step_of (keeping_at h.other (turn_link h.link)) (event.Bytes h.link (bytes_of_call (turn_request number c) 5840)) moment left
      ≡ whole_step left rest (action.Send h.link (reply_bytes number r) ∷ []) (keeping_at (kept_with h.other.table computers h.other) (turn_link h.link)) →
      ShowsHop s h next number what (turn_link h.link) (unit_over h (bytes_of_call (turn_request number c) 5840) ∷ []) left moment →
      ShowsHop (onward s).state (other_with h.other.table computers h) next number what (turn_link h.link) (unit_home h (reply_bytes number r) ∷ []) rest moment
  pub judges : (s : State) (h : HopScene) (next number : ℕ) (what : Step) (c : Call) (r : Reply) (how : Judged) (table : AccountTable) (computers : Computers) (left rest : List (List ℕ)) (moment : ℕ) →
      AreTwo h → IsAcross h → IsTurnCall c →
      trust_step_of (keeping_at h.other (turn_link h.link)) (event.Bytes h.link (bytes_of_call (turn_request number c) 5840)) moment left
      ≡ whole_step left rest (action.Judged how ∷ action.Send h.link (reply_bytes number r) ∷ []) (keeping_at (kept_with table computers h.other) (turn_link h.link)) →
      ShowsHop s h next number what (turn_link h.link) (unit_over h (bytes_of_call (turn_request number c) 5840) ∷ []) left moment →
      ShowsHop (onward s).state (other_with table computers h) next number what (turn_link h.link) (unit_home h (reply_bytes number r) ∷ []) rest moment
  -- after the two calls that open the channel the link is closed, and the next turn is dialled
  pub half : (s : State) (h : HopScene) (two : AreTwo h) (next number : ℕ) (q : Question) (r : Reply) (client server : List ℕ) (left : List (List ℕ)) (moment : ℕ) → IsAcross h → number < 2 ^ 32 →
      IsTurnReply q r → judge q r h.how h.handed.caller.secret ≡ judgement.Half client server →
      ShowsHop s h next number (step.Reply q) (turn_link h.link) (unit_home h (reply_bytes number r) ∷ []) left moment →
      ShowsHopDial (onward s).state h two.trusted (take_out same_number h.link h.opened) (standing.Half client server) (after next) next
      (step.Bind (auth_call h.handed.caller client server)) left moment
  pub opened : (s : State) (h : HopScene) (two : AreTwo h) (next number : ℕ) (q : Question) (r : Reply) (o : SecureChannelState) (left : List (List ℕ)) (moment : ℕ) → IsAcross h → number < 2 ^ 32 →
      IsTurnReply q r → judge q r h.how h.handed.caller.secret ≡ judgement.Opened o →
      ShowsHop s h next number (step.Reply q) (turn_link h.link) (unit_home h (reply_bytes number r) ∷ []) left moment →
      ShowsHopDial (onward s).state h two.trusted (take_out same_number h.link h.opened) (standing.Open (after_call o (timestamp_of moment))) (after next) next
      (step.Bind (logon_call h.handed.caller o (timestamp_of moment) (info_at h.handed.place h.handed.info))) left moment
  -- after the logon's own call, or where a reply doesn't count, the answer goes back, and nobody waits
  pub answered : (s : State) (h : HopScene) (two : AreTwo h) (next number : ℕ) (q : Question) (r : Reply) (o : SecureChannelState) (verdict : Verdict) (left : List (List ℕ)) (moment : ℕ) → IsAcross h →
      number < 2 ^ 32 → IsTurnReply q r → judge q r h.how h.handed.caller.secret ≡ judgement.Answer o verdict →
      ShowsHop s h next number (step.Reply q) (turn_link h.link) (unit_home h (reply_bytes number r) ∷ []) left moment →
      ShowsBack (onward s).state h (take_out same_number h.link h.opened) (standing.Open o) next verdict left moment
  pub dropped : (s : State) (h : HopScene) (two : AreTwo h) (next number : ℕ) (q : Question) (r : Reply) (cause : DropCause) (left : List (List ℕ)) (moment : ℕ) → IsAcross h →
      number < 2 ^ 32 → IsTurnReply q r → judge q r h.how h.handed.caller.secret ≡ judgement.Drop cause →
      ShowsHop s h next number (step.Reply q) (turn_link h.link) (unit_home h (reply_bytes number r) ∷ []) left moment →
      ShowsBack (onward s).state h (take_out same_number h.link h.opened) standing.Nothing next (Status no_logon_servers) left moment
  -- the answer goes back, too, where the dial reaches no controller
  pub failed : (s : State) (h : HopScene) (two : AreTwo h) (opened : OpenMap) (how : Standing) (next number : ℕ) (what : Step) (left : List (List ℕ)) (moment : ℕ) →
      route_to (Controller h.at_first)
      (end_of_peer two.trusted.entry.address (ends_with h (handing_at h.handed how next number what (bind_waits number)) (keeping_at h.other []))) ≡ None →
      ShowsHopDial s h two.trusted opened how next number what left moment →
      ShowsBack (connect s).state h opened standing.Nothing next (Status no_logon_servers) left moment
