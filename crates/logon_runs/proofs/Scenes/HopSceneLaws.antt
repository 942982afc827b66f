-- The turns of a controller that hands a logon on, as they are seen of a world.
-- Of `hop_turns_are_seen`.
use Rattle.std.proofs.Common.{◌≡◌, ◌≢◌, ◌==◌, ℕ, zero, suc, Bool, true, false, List, [], ◌∷◌, ◌++◌, length, Option, None, Some, refl, sym, ap, subst, ◌∙◌, slice_get, slice_set, arith}
use Rattle.std.specs.List.{AllByRecursion}
use Rattle.std.proofs.lemmas.Bool.Decides.{nat_tests}
use Rattle.wire_base.specs.Maps.{same_number, take_out}
use Rattle.outside.specs.declared.action.Action.{Action}
use Rattle.outside.specs.declared.action.Action.TheVariants as action
use Rattle.outside.specs.declared.action.CloseCause.TheVariants as close
use Rattle.outside.specs.declared.event.Event.{Event}
use Rattle.outside.specs.declared.event.Event.TheVariants as event
use Rattle.outside.specs.Machine.{whole_step}
use Rattle.rpc_units.specs.Calls.{bytes_of_call}
use Rattle.rpc_units.specs.Writing.{written}
use Rattle.end_links.specs.Binding.{bind_of}
use Rattle.logon_stubs.specs.Interface.{netlogon_syntax}
use Rattle.logon_stubs.specs.Status.{no_logon_servers}
use Rattle.logon_stubs.specs.declared.info.Verdict.{Verdict}
use Rattle.logon_stubs.specs.declared.info.Verdict.TheVariants.{Status}
use Rattle.channel_client.specs.declared.state.Standing.{Standing}
use Rattle.channel_client.specs.declared.state.Standing.TheVariants as standing
use Rattle.channel_client.specs.declared.state.Step.TheVariants as step
use Rattle.channel_client.specs.Machine.{after, question_of}
use Rattle.controller_calls.specs.Handing.{forwarded_reply}
use Rattle.controller_calls.specs.declared.line.Line.{Line}
use Rattle.domain_controller.specs.Hearing.{bound_talk, first_talk}
use Rattle.domain_controller.specs.State.{State as ControllerState}
use Rattle.domain_controller.specs.TrustActions.{answer_of, reply_on}
use Rattle.domain_controller.specs.TrustStep.{trust_step_of}
use Rattle.logon_stubs.specs.declared.calls.Reply.{Reply}
use Rattle.world_moves.specs.declared.bag.BagUnit.{BagUnit}
use Rattle.world_moves.specs.declared.links.EndId.{EndId}
use Rattle.world_moves.specs.declared.links.EndId.TheVariants.{Controller}
use Rattle.world_moves.specs.declared.links.LinkKind.TheVariants as kind
use Rattle.world_moves.specs.declared.links.Route.{Route}
use Rattle.world_moves.specs.declared.links.Route.TheVariants.{Between}
use Rattle.world_moves.specs.declared.state.State.{State}
use Rattle.world_moves.specs.declared.state.WaitingDial.{WaitingDial}
use Rattle.world_moves.specs.Acting.{sent_if}
use Rattle.world_moves.specs.Ends.{EndStates}
use Rattle.world_moves.specs.Links.{OpenMap, hearer_on}
use Rattle.world_moves.specs.Moving.{connect, onward}
use Rattle.domain_controller.proofs.TurnOutLaws.{got_set}
use Rattle.logon_steps.specs.BesideTrusts.{keeping_at, kept_with}
use Rattle.logon_steps.specs.ControllerTurns.{one_link, reply_bytes, turn_link}
use Rattle.logon_steps.specs.HandedOn.{handed_back, handing_at}
use Rattle.logon_steps.specs.MemberTurns.{bind_waits, on_turn}
use Rattle.logon_steps.specs.Turning.{turn_ack, turn_agreed, turn_request}
use Rattle.logon_steps.proofs.BesideTrustsLaws.{trusts_stay_beside}
use Rattle.logon_steps.proofs.HandedOnLaws.{handed_turns_step}
use Rattle.logon_steps.proofs.StreamLaws.{same}
use Rattle.logon_steps.proofs.TrustServedLaws.{set_twice}
use Rattle.logon_steps.proofs.TurningLaws.{ComesAtOnce, request_comes, response_comes, turn_ack_sends, turn_bind_sends, unit_comes}
use Rattle.logon_runs.specs.Scenes.HopScenes.{AreTwo, HopScene, HopTurnsAreSeen, IsAcross, ShowsBack, ends_with, hop_traffic, next_hop, unit_home, unit_over}
use Rattle.logon_runs.specs.Scenes.Scene.{IsNoClose, dials_made, units_sent}
use Rattle.logon_runs.specs.Scenes.Traffic.{HasTraffic, Hears, IsFirst, IsShutBy}
use Rattle.logon_runs.specs.Scenes.WaitingUnits.{with_controller_at}
use Rattle.logon_runs.proofs.Scenes.OtherLaws.{got_other}
use Rattle.logon_runs.proofs.Scenes.TrafficLaws.{traffic_goes_on}

-- ---- two places of a list

set_apart : {A : Type 0} (items : List A) (at other : ℕ) (one two : A) → other ≢ at → slice_set (slice_set items at one) other two ≡ slice_set (slice_set items other two) at one
set_apart [] at other one two apart = refl
set_apart (first ∷ items) zero zero one two apart = absurd (apart refl)
set_apart (first ∷ items) zero (suc other) one two apart = refl
set_apart (first ∷ items) (suc at) zero one two apart = refl
set_apart (first ∷ items) (suc at) (suc other) one two apart = ap (λ rest. first ∷ rest) (set_apart items at other one two (λ is. apart (ap suc is)))

unequal : (one other : ℕ) → one ≢ other → (one == other) ≡ false
unequal one other apart = grind (arith, nat_tests)

module _ (h : HopScene) (two : AreTwo h) where
  -- ---- the two controllers among the ends

  other_is : (first other : ControllerState) → slice_get (ends_with h first other).controllers h.at_other ≡ Some other
  other_is first other =
      got_set (slice_set h.ends.controllers h.at_first first) h.at_other two.second other
      (got_other h.ends.controllers h.at_first h.at_other first two.apart ∙ two.is_second)

  first_is : (first other : ControllerState) → slice_get (ends_with h first other).controllers h.at_first ≡ Some first
  first_is first other =
      got_other (slice_set h.ends.controllers h.at_first first) h.at_other h.at_first other (λ is. two.apart (sym is))
      ∙ got_set h.ends.controllers h.at_first two.first first two.is_first

  other_set : (first other later : ControllerState) → with_controller_at h.at_other later (ends_with h first other) ≡ ends_with h first later
  other_set first other later =
      ap (λ (controllers : List ControllerState). record h.ends { controllers = controllers }) (set_twice (slice_set h.ends.controllers h.at_first first) h.at_other other later)

  first_set : (first other later : ControllerState) → with_controller_at h.at_first later (ends_with h first other) ≡ ends_with h later other
  first_set first other later =
      ap (λ (controllers : List ControllerState). record h.ends { controllers = controllers })
      (set_apart (slice_set h.ends.controllers h.at_first first) h.at_other h.at_first other later (λ is. two.apart (sym is))
      ∙ ap (λ (controllers : List ControllerState). slice_set controllers h.at_other other) (set_twice h.ends.controllers h.at_first first later))

  -- ---- what is sent on the link of the turn

  sent_home : (bytes : List ℕ) → IsAcross h → sent_if (slice_get h.links h.link) (Controller h.at_other) h.link bytes ≡ unit_home h bytes ∷ []
  sent_home bytes across =
      ap (λ (r : Option Route). sent_if r (Controller h.at_other) h.link bytes) across.route
      ∙ ap (λ (b : Bool). record { bytes = bytes; link = h.link; kind = kind.Between; back = b; is_settled = false } ∷ []) (same h.at_other)

  sent_over : (bytes : List ℕ) → IsAcross h → sent_if (slice_get h.links h.link) (Controller h.at_first) h.link bytes ≡ unit_over h bytes ∷ []
  sent_over bytes across =
      ap (λ (r : Option Route). sent_if r (Controller h.at_first) h.link bytes) across.route
      ∙ ap (λ (b : Bool). record { bytes = bytes; link = h.link; kind = kind.Between; back = b; is_settled = false } ∷ []) (unequal h.at_other h.at_first two.apart)

  -- ---- who hears what is on the link of the turn

  heard_over : (bytes : List ℕ) (left : List (List ℕ)) (moment : ℕ) → IsAcross h → ComesAtOnce bytes →
      IsFirst (hop_traffic h h.opened (unit_over h bytes ∷ []) [] left moment) (unit_over h bytes) [] (Controller h.at_other)
  heard_over bytes left moment across comes = record {
    units = refl;
    some = comes.some;
    short = comes.short;
    there = record { route = Between h.at_first h.at_other; dialler = true; acceptor = true };
    found = across.opened;
    hearer = refl;
  }

  heard_home : (bytes : List ℕ) (left : List (List ℕ)) (moment : ℕ) → IsAcross h → ComesAtOnce bytes →
      IsFirst (hop_traffic h h.opened (unit_home h bytes ∷ []) [] left moment) (unit_home h bytes) [] (Controller h.at_first)
  heard_home bytes left moment across comes = record {
    units = refl;
    some = comes.some;
    short = comes.short;
    there = record { route = Between h.at_first h.at_other; dialler = true; acceptor = true };
    found = across.opened;
    hearer = refl;
  }

  shuts : (units : List BagUnit) (left : List (List ℕ)) (moment : ℕ) → IsAcross h →
      IsShutBy (hop_traffic h h.opened units [] left moment) (Controller h.at_first) (Controller h.at_other) h.link
  shuts units left moment across = record {
    there = record { route = Between h.at_first h.at_other; dialler = true; acceptor = true };
    found = across.opened;
    side = ap (λ (b : Bool). hearer_on b (record { route = Between h.at_first h.at_other; dialler = true; acceptor = true })) (unequal h.at_other h.at_first two.apart);
  }

  -- ---- one of the two controllers hears

  other_hears : (first before after : ControllerState) (what : Event) (moment : ℕ) (left rest : List (List ℕ)) (actions : List Action) → before.trusting.sealing ≡ None →
      trust_step_of before what moment left ≡ whole_step left rest actions after → Hears (Controller h.at_other) what moment (ends_with h first before) (ends_with h first after) left rest actions
  other_hears first before after what moment left rest actions plain step =
      subst (λ (later : EndStates). Hears (Controller h.at_other) what moment (ends_with h first before) later left rest actions) (other_set first before after)
      (traffic_goes_on.controller (ends_with h first before) h.at_other before after what moment left rest actions (other_is first before) plain step)

  first_hears : (before after other : ControllerState) (what : Event) (moment : ℕ) (left rest : List (List ℕ)) (actions : List Action) → before.trusting.sealing ≡ None →
      trust_step_of before what moment left ≡ whole_step left rest actions after → Hears (Controller h.at_first) what moment (ends_with h before other) (ends_with h after other) left rest actions
  first_hears before after other what moment left rest actions plain step =
      subst (λ (later : EndStates). Hears (Controller h.at_first) what moment (ends_with h before other) later left rest actions) (first_set before other after)
      (traffic_goes_on.controller (ends_with h before other) h.at_first before after what moment left rest actions (first_is before other) plain step)

  -- a unit comes at the other controller, which sends one back
  other_moves : (s : State) (first before after : ControllerState) (bytes sent : List ℕ) (left rest : List (List ℕ)) (moment : ℕ) (actions : List Action) → IsAcross h → ComesAtOnce bytes →
      before.trusting.sealing ≡ None → trust_step_of before (event.Bytes h.link bytes) moment left ≡ whole_step left rest actions after → AllByRecursion IsNoClose actions →
      units_sent h.links (Controller h.at_other) actions ≡ unit_home h sent ∷ [] → dials_made (Controller h.at_other) actions ≡ [] →
      HasTraffic s (ends_with h first before) (hop_traffic h h.opened (unit_over h bytes ∷ []) [] left moment) →
      HasTraffic (onward s).state (ends_with h first after) (hop_traffic h h.opened (unit_home h sent ∷ []) [] rest moment)
  other_moves s first before after bytes sent left rest moment actions across comes plain step none_close units dials shows =
      subst (λ (d : List WaitingDial). HasTraffic (onward s).state (ends_with h first after) (hop_traffic h h.opened (unit_home h sent ∷ []) d rest moment)) dials
      (subst (λ (u : List BagUnit). HasTraffic (onward s).state (ends_with h first after) (hop_traffic h h.opened u (dials_made (Controller h.at_other) actions) rest moment)) units
      (traffic_goes_on.comes s (ends_with h first before) (ends_with h first after) (hop_traffic h h.opened (unit_over h bytes ∷ []) [] left moment) (unit_over h bytes) [] (Controller h.at_other) rest actions
      shows (heard_over bytes left moment across comes) none_close (other_hears first before after (event.Bytes h.link bytes) moment left rest actions plain step)))

  -- a unit comes at the first controller, which closes the link, and does something else
  first_closes : (s : State) (before after : ControllerState) (bytes : List ℕ) (left : List (List ℕ)) (moment : ℕ) (actions : List Action) → IsAcross h → ComesAtOnce bytes →
      before.trusting.sealing ≡ None → trust_step_of before (event.Bytes h.link bytes) moment left ≡ whole_step left left (action.Close h.link close.CallDone ∷ actions) after →
      AllByRecursion IsNoClose actions →
      HasTraffic s (ends_with h before (keeping_at h.other (turn_link h.link))) (hop_traffic h h.opened (unit_home h bytes ∷ []) [] left moment) →
      HasTraffic (onward s).state (ends_with h after (keeping_at h.other []))
      (hop_traffic h (take_out same_number h.link h.opened) (units_sent h.links (Controller h.at_first) actions) (dials_made (Controller h.at_first) actions) left moment)
  first_closes s before after bytes left moment actions across comes plain step none_close shows =
      traffic_goes_on.closes s (ends_with h before (keeping_at h.other (turn_link h.link))) (ends_with h after (keeping_at h.other (turn_link h.link))) (ends_with h after (keeping_at h.other []))
      (hop_traffic h h.opened (unit_home h bytes ∷ []) [] left moment) (unit_home h bytes) [] (Controller h.at_first) (Controller h.at_other) h.link close.CallDone left actions
      shows (heard_home bytes left moment across comes) (shuts (unit_home h bytes ∷ []) left moment across) none_close
      (first_hears before after (keeping_at h.other (turn_link h.link)) (event.Bytes h.link bytes) moment left left (action.Close h.link close.CallDone ∷ actions) plain step)
      (other_hears after (keeping_at h.other (turn_link h.link)) (keeping_at h.other []) (event.Closed h.link) moment left left [] refl
      (trusts_stay_beside.closed h.other h.link moment (bound_talk None turn_agreed) left two.nobody))

-- the answer that goes back closes nothing, and dials nobody
quiet_back : (line : Option Line) (answer : Reply) → AllByRecursion IsNoClose (reply_on line answer)
quiet_back None answer = tt
quiet_back (Some line) answer = (tt, tt)

dials_back : (end : EndId) (line : Option Line) (answer : Reply) → dials_made end (reply_on line answer) ≡ []
dials_back end None answer = refl
dials_back end (Some line) answer = refl

module _ (h : HopScene) (two : AreTwo h) where
  -- the turn ended with a verdict
  goes_back : (s : State) (how : Standing) (before : ControllerState) (next : ℕ) (bytes : List ℕ) (verdict : Verdict) (left : List (List ℕ)) (moment : ℕ) → IsAcross h → ComesAtOnce bytes →
      before.trusting.sealing ≡ None →
      trust_step_of before (event.Bytes h.link bytes) moment left
      ≡ whole_step left left (action.Close h.link close.CallDone ∷ answer_of (Some (verdict, h.handed.call))) (handed_back h.handed how next) →
      HasTraffic s (ends_with h before (keeping_at h.other (turn_link h.link))) (hop_traffic h h.opened (unit_home h bytes ∷ []) [] left moment) →
      ShowsBack (onward s).state h (take_out same_number h.link h.opened) how next verdict left moment
  goes_back s how before next bytes verdict left moment across comes plain step shows =
      let actions : List Action = answer_of (Some (verdict, h.handed.call)) in
      subst (λ (d : List WaitingDial). HasTraffic (onward s).state (ends_with h (handed_back h.handed how next) (keeping_at h.other []))
      (hop_traffic h (take_out same_number h.link h.opened) (units_sent h.links (Controller h.at_first) actions) d left moment))
      (dials_back (Controller h.at_first) h.handed.call.line (forwarded_reply h.handed.call verdict))
      (first_closes h two s before (handed_back h.handed how next) bytes left moment actions across comes plain step
      (tt, quiet_back h.handed.call.line (forwarded_reply h.handed.call verdict)) shows)

-- both controllers are the same two on the next link
two_next : (h : HopScene) (opened : OpenMap) (how : Standing) → AreTwo h → AreTwo (next_hop h opened how)
two_next h opened how two = record {
  first = two.first;
  is_first = two.is_first;
  second = two.second;
  is_second = two.is_second;
  apart = two.apart;
  trusted = two.trusted;
  nobody = two.nobody;
}

pub hop_turns_are_seen : HopTurnsAreSeen
hop_turns_are_seen = record {
  dialled = λ s h two opened how next number what left moment reaches found new across shows.
      let n : ℕ = length h.links in
      let later : HopScene = next_hop h opened how in
      let bind : List ℕ = written (bind_of netlogon_syntax number) in
      let waits : ControllerState = handing_at h.handed how next number what (bind_waits number) in
      let out : ControllerState = handing_at h.handed how next number what (on_turn n) in
      let open_there : ControllerState = keeping_at h.other (one_link n first_talk) in
      subst (λ (u : List BagUnit). HasTraffic (connect s).state (ends_with h out open_there) (hop_traffic later later.opened (u ++ []) [] left moment))
      (sent_over later (two_next h opened how two) bind across)
      (traffic_goes_on.dials s (ends_with h waits (keeping_at h.other [])) (ends_with h waits open_there) (ends_with h out open_there)
      (hop_traffic h opened [] (record { end = Controller h.at_first; peer = two.trusted.entry.address } ∷ []) left moment) (Controller h.at_first) two.trusted.entry.address []
      (Between h.at_first h.at_other) (action.Send n bind ∷ []) shows refl reaches found (tt, tt)
      (other_hears h two waits (keeping_at h.other []) open_there (event.Opened n) moment left left [] refl (trusts_stay_beside.opened h.other n moment left two.nobody))
      (first_hears h two waits out open_there (event.Dialled n) moment left left (action.Send n bind ∷ []) refl
      (handed_turns_step.dialled h.handed how next number n moment what left two.trusted new)));
  bound = λ s h next number what left moment two across below shows.
      other_moves h two s (handing_at h.handed h.how next number what (on_turn h.link)) (keeping_at h.other (one_link h.link first_talk)) (keeping_at h.other (turn_link h.link))
      (written (bind_of netlogon_syntax number)) (written (turn_ack number)) left left moment (action.Send h.link (written (turn_ack number)) ∷ []) across
      (unit_comes (bind_of netlogon_syntax number) (turn_bind_sends number below)) refl (trusts_stay_beside.bound h.other h.link moment number left two.nobody below) (tt, tt)
      (ap (λ (u : List BagUnit). u ++ []) (sent_home h two (written (turn_ack number)) across)) refl shows;
  asks = λ s h next number c left moment two across below shows.
      let before : ControllerState = handing_at h.handed h.how next number (step.Bind c) (on_turn h.link) in
      let out : ControllerState = handing_at h.handed h.how (after next) next (step.Reply (question_of c)) (on_turn h.link) in
      let there : ControllerState = keeping_at h.other (turn_link h.link) in
      let asked : List ℕ = bytes_of_call (turn_request next c) 5840 in
      subst (λ (u : List BagUnit). HasTraffic (onward s).state (ends_with h out there) (hop_traffic h h.opened (u ++ []) [] left moment)) (sent_over h two asked across)
      (traffic_goes_on.comes s (ends_with h before there) (ends_with h out there) (hop_traffic h h.opened (unit_home h (written (turn_ack number)) ∷ []) [] left moment)
      (unit_home h (written (turn_ack number))) [] (Controller h.at_first) left (action.Send h.link asked ∷ []) shows
      (heard_home h two (written (turn_ack number)) left moment across (unit_comes (turn_ack number) (turn_ack_sends number below))) (tt, tt)
      (first_hears h two before out there (event.Bytes h.link (written (turn_ack number))) moment left left (action.Send h.link asked ∷ []) refl
      (handed_turns_step.bound h.handed h.how next number h.link moment c left two.trusted below)));
  answers = λ s h next number what c r computers left rest moment two across is answered shows.
      other_moves h two s (handing_at h.handed h.how next number what (on_turn h.link)) (keeping_at h.other (turn_link h.link)) (keeping_at (kept_with h.other.table computers h.other) (turn_link h.link))
      (bytes_of_call (turn_request number c) 5840) (reply_bytes number r) left rest moment (action.Send h.link (reply_bytes number r) ∷ []) across (request_comes number c is) refl answered (tt, tt)
      (ap (λ (u : List BagUnit). u ++ []) (sent_home h two (reply_bytes number r) across)) refl shows;
  judges = λ s h next number what c r how table computers left rest moment two across is answered shows.
      other_moves h two s (handing_at h.handed h.how next number what (on_turn h.link)) (keeping_at h.other (turn_link h.link)) (keeping_at (kept_with table computers h.other) (turn_link h.link))
      (bytes_of_call (turn_request number c) 5840) (reply_bytes number r) left rest moment (action.Judged how ∷ action.Send h.link (reply_bytes number r) ∷ []) across (request_comes number c is) refl answered
      (tt, (tt, tt)) (ap (λ (u : List BagUnit). u ++ []) (sent_home h two (reply_bytes number r) across)) refl shows;
  half = λ s h two next number q r client server left moment across below is judged shows.
      first_closes h two s _ _ (reply_bytes number r) left moment (action.Dial two.trusted.entry.address ∷ []) across (response_comes number q r is) refl
      (handed_turns_step.half h.handed h.how next number h.link moment q r client server left two.trusted below is judged) (tt, tt) shows;
  opened = λ s h two next number q r o left moment across below is judged shows.
      first_closes h two s _ _ (reply_bytes number r) left moment (action.Dial two.trusted.entry.address ∷ []) across (response_comes number q r is) refl
      (handed_turns_step.opened h.handed h.how next number h.link moment q r o left two.trusted below is judged) (tt, tt) shows;
  answered = λ s h two next number q r o verdict left moment across below is judged shows.
      goes_back h two s (standing.Open o) _ next (reply_bytes number r) verdict left moment across (response_comes number q r is) refl
      (handed_turns_step.answered h.handed h.how next number h.link moment q r o verdict left two.trusted below is judged) shows;
  dropped = λ s h two next number q r cause left moment across below is judged shows.
      goes_back h two s standing.Nothing _ next (reply_bytes number r) (Status no_logon_servers) left moment across (response_comes number q r is) refl
      (handed_turns_step.dropped h.handed h.how next number h.link moment q r cause left two.trusted below is judged) shows;
  failed = λ s h two opened how next number what left moment reaches shows.
      let waits : ControllerState = handing_at h.handed how next number what (bind_waits number) in
      let actions : List Action = answer_of (Some (Status no_logon_servers, h.handed.call)) in
      subst (λ (d : List WaitingDial). HasTraffic (connect s).state (ends_with h (handed_back h.handed standing.Nothing next) (keeping_at h.other []))
      (hop_traffic h opened (units_sent h.links (Controller h.at_first) actions) d left moment))
      (dials_back (Controller h.at_first) h.handed.call.line (forwarded_reply h.handed.call (Status no_logon_servers)))
      (traffic_goes_on.fails s (ends_with h waits (keeping_at h.other [])) (ends_with h (handed_back h.handed standing.Nothing next) (keeping_at h.other []))
      (hop_traffic h opened [] (record { end = Controller h.at_first; peer = two.trusted.entry.address } ∷ []) left moment) (Controller h.at_first) two.trusted.entry.address [] left actions shows refl reaches
      (tt, quiet_back h.handed.call.line (forwarded_reply h.handed.call (Status no_logon_servers)))
      (first_hears h two waits (handed_back h.handed standing.Nothing next) (keeping_at h.other []) event.DialFailed moment left left actions refl
      (handed_turns_step.failed h.handed how next number moment what left two.trusted)));
}
