-- In every run of a plain plan the accepted links that a controller at work keeps are links of the world that it
-- accepted: a controller serves nothing on a link that it dialled. The law serves `Proved.replies`.
use Rattle.std.proofs.Common.{◌≡◌, ℕ, ◌+◌, ◌==◌, Bool, true, false, List, [], ◌∷◌, ◌++◌, length, inl, inr, Option, Some, None, Result, Ok, Err, slice_get, slice_set, refl, sym, subst, arith, if◌then◌else◌}
use Rattle.std.specs.List.{AllByRecursion}
use Rattle.std.proofs.lemmas.Bool.Decides.{Decides-eqb}
use Rattle.wire_base.specs.Maps.{lookup, put, same_number, take_out}
use Rattle.wire_base.proofs.ListLaws.{all_weaker, got_append}
use Rattle.outside.specs.Machine.{Part, step_by, then_part}
use Rattle.outside.specs.declared.action.Action.{Action}
use Rattle.outside.specs.declared.action.StepRefused.{StepRefused}
use Rattle.outside.specs.declared.event.Event.{Event}
use Rattle.outside.specs.declared.event.Event.TheVariants as event
use Rattle.account_table.specs.AccountTable.{AccountTable}
use Rattle.account_table.specs.declared.account.Trust.{Trust}
use Rattle.rpc_units.specs.Stream.{cut_stream}
use Rattle.end_links.specs.Links.{LinkState}
use Rattle.end_links.specs.Serving.{ServedPart, served_cut}
use Rattle.channel_client.specs.State.{Requester}
use Rattle.channel_turns.specs.Dials.{NextTurn, next_turn as channel_turn}
use Rattle.channel_turns.specs.Turning.{Turned, dial_part, is_on, is_waiting, link_answers, link_closes, link_hears, no_dial}
use Rattle.channel_turns.specs.declared.state.Turning.{Turning}
use Rattle.domain_controller.specs.Forwarding.{TrustDesk, trust_desk, trust_server}
use Rattle.domain_controller.specs.State.{State as ControllerState}
use Rattle.domain_controller.specs.Step.{LinkMap}
use Rattle.domain_controller.specs.TrustStep.{TrustPart, TrustParts, after_turned, after_units, answer_dial, by_trust_event, close_by, close_number, event_and_turn, fail_dial, first_waiting, is_idle, link_with, next_if, next_part, next_turn, on_turn, open_by, parts_of, put_open, serve_bytes, serve_on, start_at, start_on, trust_halted, trust_part, trust_state_after, trust_step_of, trust_step_on, turn_at, turning_of, without_link}
use Rattle.domain_controller.specs.declared.state.Running.{Running}
use Rattle.domain_controller.specs.declared.state.Talk.{Talk}
use Rattle.domain_controller.specs.declared.trusting.Parts.{Parts}
use Rattle.world_moves.specs.declared.links.EndId.{EndId}
use Rattle.world_moves.specs.declared.links.EndId.TheVariants.{Controller}
use Rattle.world_moves.specs.declared.links.Route.{Route}
use Rattle.world_moves.specs.declared.plan.Plan.{Plan}
use Rattle.world_moves.specs.declared.state.State.{State}
use Rattle.world_moves.specs.Acting.{forget}
use Rattle.world_moves.specs.Ends.{EndStates, EndStep, fresh_controller}
use Rattle.world_moves.specs.Links.{acceptor_of}
use Rattle.world_moves.specs.Moving.{with_link}
use Rattle.world_moves.specs.Plain.{hear_plain as hear, plain_world, renew_plain}
use Rattle.world_moves.proofs.ChangeLaws.{by_change}
use Rattle.world_moves.proofs.PlainKindLaws.{plain_by as end_by, renew_plain_by as renew_by}
use Rattle.domain_world.proofs.Frames.AloneStepLaws.{fresh_by}
use Rattle.domain_world.proofs.Frames.MoveKeepLaws.{KeepsMovesBy, MoveFact, NoSide, every}
use Rattle.domain_world.proofs.Judgements.Openings.OpeningRunLaws.{each_fresh}
use Rattle.domain_world.proofs.Messages.MessageOnceLaws.{set_cases}
use Rattle.domain_world.proofs.Moves.MarkPlaceLaws.{got_later}

-- ---- what holds of the number of each accepted link

module _ (P : ℕ → Type 0) where
  abbrev pub AreSuch : LinkMap → Type 0
  AreSuch links = AllByRecursion (λ (entry : ℕ × LinkState Talk). P entry.0) links

  out_by : (same : Bool) (number : ℕ) (entry : ℕ × LinkState Talk) (links : LinkMap) → P entry.0 → AreSuch links → AreSuch (take_out same_number number links) →
      AreSuch (if same then links else entry ∷ take_out same_number number links)
  out_by true number entry links is all less = all
  out_by false number entry links is all less = (is, less)

  all_out : (number : ℕ) (links : LinkMap) → AreSuch links → AreSuch (take_out same_number number links)
  all_out number [] all = tt
  all_out number (entry ∷ links) all = out_by (number == entry.0) number entry links all.0 all.1 (all_out number links all.1)

  put_by : (same : Bool) (number : ℕ) (link : LinkState Talk) (entry : ℕ × LinkState Talk) (links : LinkMap) → P number → P entry.0 → AreSuch links → AreSuch (put same_number number link links) →
      AreSuch (if same then (number, link) ∷ links else entry ∷ put same_number number link links)
  put_by true number link entry links of is all more = (of, all)
  put_by false number link entry links of is all more = (is, more)

  all_put : (number : ℕ) (link : LinkState Talk) (links : LinkMap) → P number → AreSuch links → AreSuch (put same_number number link links)
  all_put number link [] of all = (of, tt)
  all_put number link (entry ∷ links) of all = put_by (number == entry.0) number link entry links of all.0 all.1 (all_put number link links of all.1)

  found_by : (same : Bool) (number : ℕ) (entry : ℕ × LinkState Talk) (links : LinkMap) (link : LinkState Talk) → (number == entry.0) ≡ same → P entry.0 →
      (lookup same_number number links ≡ Some link → P number) → (if same then Some entry.1 else lookup same_number number links) ≡ Some link → P number
  found_by true number entry links link same is later there = subst P (sym ((Decides-eqb number entry.0).0 same)) is
  found_by false number entry links link same is later there = later there

  pub all_found : (number : ℕ) (links : LinkMap) (link : LinkState Talk) → AreSuch links → lookup same_number number links ≡ Some link → P number
  all_found number [] link all there = absurd (let x = there in cc)
  all_found number (entry ∷ links) link all there =
      found_by (number == entry.0) number entry links link refl all.0 (λ later. all_found number links link all.1 later) there

  -- ---- an event

  turn_same : (found : Option Requester) (happens : Turning → Turned) (parts : Parts) → AreSuch parts.links → AreSuch (turn_at found happens parts).links
  turn_same None happens parts all = all
  turn_same (Some channel) happens parts all = all

  turn_such : (happens : Turning → Turned) (parts : Parts) → AreSuch parts.links → AreSuch (on_turn happens parts).links
  turn_such happens parts all = turn_same (slice_get parts.work.queues.requesters parts.turn_of) happens parts all

  closed_such : (b : Bool) (number : ℕ) (parts : Parts) → AreSuch parts.links → AreSuch (close_by b number parts).links
  closed_such false number parts all = all_out number parts.links all
  closed_such true number parts all = turn_such (λ turning. link_closes number turning) parts all

  opened_such : (full : Bool) (number : ℕ) (parts : Parts) → P number → AreSuch parts.links → AreSuch (open_by full number parts).links
  opened_such true number parts of all = all
  opened_such false number parts of all = all_put number _ parts.links of all

  dial_such : (waits : Bool) (number : ℕ) (parts : Parts) → AreSuch parts.links → AreSuch (answer_dial waits number parts).links
  dial_such false number parts all = all
  dial_such true number parts all = turn_such (λ turning. (link_answers number turning, None)) (without_link number parts) (all_out number parts.links all)

  failed_such : (waits : Bool) (parts : Parts) → AreSuch parts.links → AreSuch (fail_dial waits parts).links
  failed_such false parts all = all
  failed_such true parts all = turn_such (λ turning. no_dial turning) parts all

  put_such : (open_link : Option (LinkState Talk)) (number : ℕ) (parts : Parts) → P number → AreSuch parts.links → AreSuch (put_open open_link number parts).links
  put_such None number parts of all = all
  put_such (Some link) number parts of all = all_put number link parts.links of all

  abbrev PartSuch : TrustPart → Type 0
  PartSuch (Err why) = Unit {0}
  PartSuch (Ok part) = AreSuch part.value.parts.links

  units_such : (part : ServedPart TrustDesk Talk) (rest : List ℕ) (number : ℕ) (others : LinkMap) (parts : Parts) → P number → AreSuch others → PartSuch (after_units part rest number others parts)
  units_such (Err why) rest number others parts of all = tt
  units_such (Ok part) rest number others parts of all = put_such (link_with rest part.value.1) number (record parts { work = part.value.0.work; links = others }) of all

  serve_such : (found : Option (LinkState Talk)) (number : ℕ) (piece name : List ℕ) (now : ℕ) (others : LinkMap) (table : AccountTable) (parts : Parts) (left : List (List ℕ)) →
      ((link : LinkState Talk) → found ≡ Some link → P number) → AreSuch others → PartSuch (serve_on found number piece name now others table parts left)
  serve_such None number piece name now others table parts left of all = all
  serve_such (Some link) number piece name now others table parts left of all =
      units_such (served_cut (trust_server name now number) (cut_stream (link.rest ++ piece)) (trust_desk table parts.work) link.talk left) (cut_stream (link.rest ++ piece)).rest number others parts
      (of link refl) all

  bytes_such : (b : Bool) (number : ℕ) (piece name : List ℕ) (now : ℕ) (table : AccountTable) (parts : Parts) (left : List (List ℕ)) → AreSuch parts.links →
      PartSuch (serve_bytes b number piece name now table parts left)
  bytes_such true number piece name now table parts left all = turn_such (λ turning. link_hears number piece turning) parts all
  bytes_such false number piece name now table parts left all =
      serve_such (lookup same_number number parts.links) number piece name now (take_out same_number number parts.links) table parts left
      (λ link there. all_found number parts.links link all there) (all_out number parts.links all)

  -- `P` holds of the number of a link that opens
  abbrev pub OpensSuch : Event → Type 0
  OpensSuch (event.Opened number) = P number
  OpensSuch (event.Bytes number piece) = Unit {0}
  OpensSuch (event.Closed number) = Unit {0}
  OpensSuch (event.Dialled number) = Unit {0}
  OpensSuch event.DialFailed = Unit {0}
  OpensSuch event.Stop = Unit {0}

  event_such : (what : Event) (name : List ℕ) (now : ℕ) (table : AccountTable) (parts : Parts) (left : List (List ℕ)) → OpensSuch what → AreSuch parts.links →
      PartSuch (by_trust_event what name now table parts left)
  event_such (event.Opened number) name now table parts left of all =
      opened_such _ number (close_number number parts) of (closed_such (is_on number parts.dialling) number parts all)
  event_such (event.Bytes number piece) name now table parts left of all = bytes_such (is_on number parts.dialling) number piece name now table parts left all
  event_such (event.Closed number) name now table parts left of all = closed_such (is_on number parts.dialling) number parts all
  event_such (event.Dialled number) name now table parts left of all = dial_such (is_waiting parts.dialling) number parts all
  event_such event.DialFailed name now table parts left of all = failed_such (is_waiting parts.dialling) parts all
  event_such event.Stop name now table parts left of all = all

  -- ---- the next turn, and a step

  abbrev NextSuch : Result (Part Parts) StepRefused → Type 0
  NextSuch (Err why) = Unit {0}
  NextSuch (Ok part) = AreSuch part.value.links

  begun_such : (next : Result (Part NextTurn) StepRefused) (peer : List ℕ) (channel : Requester) (trust : ℕ) (parts : Parts) → AreSuch parts.links →
      NextSuch (then_part (then_part next (dial_part peer (turning_of channel parts))) (λ turning rest. next_part (after_turned trust (turning, None) parts) rest))
  begun_such (Err why) peer channel trust parts all = tt
  begun_such (Ok part) peer channel trust parts all = all

  start_such : (found : Option Requester) (entry : Option Trust) (trust now : ℕ) (parts : Parts) (left : List (List ℕ)) → AreSuch parts.links → NextSuch (start_on found entry trust now parts left)
  start_such None entry trust now parts left all = all
  start_such (Some channel) None trust now parts left all = all
  start_such (Some channel) (Some entry) trust now parts left all = begun_such (channel_turn now channel left) entry.address channel trust parts all

  at_such : (first : Option ℕ) (trusts : List Trust) (now : ℕ) (parts : Parts) (left : List (List ℕ)) → AreSuch parts.links → NextSuch (start_at first trusts now parts left)
  at_such None trusts now parts left all = all
  at_such (Some trust) trusts now parts left all = start_such _ _ trust now parts left all

  next_such : (idle : Bool) (trusts : List Trust) (now : ℕ) (parts : Parts) (left : List (List ℕ)) → AreSuch parts.links → NextSuch (next_if idle trusts now parts left)
  next_such false trusts now parts left all = all
  next_such true trusts now parts left all = at_such (first_waiting parts.work.queues.requesters) trusts now parts left all

  with_table : (part : Result (Part Parts) StepRefused) (table : AccountTable) → NextSuch part → PartSuch (then_part part (λ later last. trust_part table later last))
  with_table (Err why) table all = tt
  with_table (Ok part) table all = all

  turn_behind : (part : TrustPart) (trusts : List Trust) (now : ℕ) → PartSuch part →
      PartSuch (then_part part (λ after rest. then_part (next_turn trusts now after.parts rest) (λ later last. trust_part after.table later last)))
  turn_behind (Err why) trusts now all = tt
  turn_behind (Ok part) trusts now all =
      with_table (next_turn trusts now part.value.parts part.left) part.value.table (next_such (is_idle part.value.parts.dialling) trusts now part.value.parts part.left all)

  abbrev pub SuchIf : Option Running → Type 0
  SuchIf None = Unit {0}
  SuchIf (Some running) = AreSuch running.links

  taken_such : (part : TrustPart) (c : ControllerState) (left : List (List ℕ)) → PartSuch part →
      SuchIf (step_by (λ (after : TrustParts). after.parts.work.work.actions) (λ after. trust_state_after c after) (trust_halted c) left part).state.running
  taken_such (Err why) c left all = tt
  taken_such (Ok part) c left all = all

  on_such : (found : Option Running) (c : ControllerState) (what : Event) (now : ℕ) (left : List (List ℕ)) → OpensSuch what → c.running ≡ found → SuchIf found →
      SuchIf (trust_step_on found c what now left).state.running
  on_such None c what now left of is all = subst SuchIf (sym is) tt
  on_such (Some running) c what now left of is all =
      let parts : Parts = parts_of running c.trusting in
      taken_such (event_and_turn c.table.trusts what c.name now c.table parts left) c left
      (turn_behind (by_trust_event what c.name now c.table parts left) c.table.trusts now (event_such what c.name now c.table parts left of all))

  pub step_such : (c : ControllerState) (what : Event) (now : ℕ) (left : List (List ℕ)) → OpensSuch what → SuchIf c.running → SuchIf (trust_step_of c what now left).state.running
  step_such c what now left of all = on_such c.running c what now left of refl all

such_weaker : (P Q : ℕ → Type 0) → ((n : ℕ) → P n → Q n) → (running : Option Running) → SuchIf P running → SuchIf Q running
such_weaker P Q so None all = tt
such_weaker P Q so (Some running) all =
    all_weaker (λ (entry : ℕ × LinkState Talk). P entry.0) (λ (entry : ℕ × LinkState Talk). Q entry.0) running.links (λ entry is. so entry.0 is) all

-- ---- through the moves

-- the link of that number is one that the controller accepted
pub record IsAccepted (links : List Route) (controller number : ℕ) : Type 0 where
  pub route : Route
  pub made : slice_get links number ≡ Some route
  pub acceptor : acceptor_of route ≡ Controller controller

abbrev pub KeepsAccepted : List Route → List ControllerState → Type 0
KeepsAccepted links controllers = (at : ℕ) (c : ControllerState) → slice_get controllers at ≡ Some c → SuchIf (IsAccepted links at) c.running

abbrev pub AcceptedLinks : MoveFact
AcceptedLinks n p s given b = KeepsAccepted s.links s.ends.controllers

accepted_put : (links : List Route) (controllers : List ControllerState) (a : ℕ) (new : ControllerState) → KeepsAccepted links controllers → SuchIf (IsAccepted links a) new.running →
    KeepsAccepted links (slice_set controllers a new)
accepted_put links controllers a new all is at c there =
    elim (set_cases controllers a at new c there) [
      | inl here ↦ subst (λ (x : ControllerState). SuchIf (IsAccepted links at) x.running) here.1 (subst (λ (n : ℕ). SuchIf (IsAccepted links n) new.running) (sym here.0) is)
      | inr apart ↦ all at c apart.1
    ]

-- an end heard something: a link that opens there is one that it accepted
end_accepted : (end : EndId) (what : Event) (s : State) → ((a : ℕ) → end ≡ Controller a → OpensSuch (IsAccepted s.links a) what) → KeepsAccepted s.links s.ends.controllers →
    KeepsAccepted s.links (hear end what s).state.ends.controllers
end_accepted end what s of all =
    end_by (λ (one : EndId) (step : EndStep). ((a : ℕ) → one ≡ Controller a → OpensSuch (IsAccepted s.links a) what) → KeepsAccepted s.links step.ends.controllers) what s.moment s.ends s.chances
    (λ one opens. all)
    (λ a c is opens.
    accepted_put s.links s.ends.controllers a (trust_step_of c what s.moment s.chances.left).state all
    (step_such (IsAccepted s.links a) c what s.moment s.chances.left (opens a refl) (all a c is)))
    (λ k m is opens. all) (λ k c is opens. all) end of

more_accepted : (links : List Route) (route : Route) (controllers : List ControllerState) → KeepsAccepted links controllers → KeepsAccepted (links ++ route ∷ []) controllers
more_accepted links route controllers all at c there =
    such_weaker (IsAccepted links at) (IsAccepted (links ++ route ∷ []) at)
    (λ n is. record { route = is.route; made = got_append links (route ∷ []) n is.route is.made; acceptor = is.acceptor }) c.running (all at c there)

last_accepted : (links : List Route) (route : Route) (a : ℕ) → acceptor_of route ≡ Controller a → IsAccepted (links ++ route ∷ []) a (length links)
last_accepted links route a is = record {
  route = route;
  made = subst (λ (n : ℕ). slice_get (links ++ route ∷ []) n ≡ Some route) (let e : length links + 0 ≡ length links = omega arith in e) (got_later links (route ∷ []) 0 route refl);
  acceptor = is;
}

renewed_accepted : (end : EndId) (s : State) → KeepsAccepted s.links s.ends.controllers → KeepsAccepted s.links (renew_plain end s).controllers
renewed_accepted end s all =
    renew_by (λ (one : EndId) (ends : EndStates). KeepsAccepted s.links ends.controllers) s (λ one. all)
    (λ a c is.
    accepted_put s.links s.ends.controllers a (fresh_controller s.hands_on false c.table c.name) all
    (fresh_by (λ (new : ControllerState). SuchIf (IsAccepted s.links a) new.running) c.table c.name tt tt s.hands_on))
    (λ k plan is. all) (λ k plan is. all) end

pub accepted_keep : (Known : Type 0) → KeepsMovesBy every Known NoSide AcceptedLinks
accepted_keep Known = record {
  closes = λ n p end link s given b work none all. end_accepted end (event.Closed link) s (λ a is. tt) all;
  opens = λ n at dial route s given b out none all.
      end_accepted (acceptor_of route) (event.Opened (length s.links)) (with_link route s) (λ a is. last_accepted s.links route a is) (more_accepted s.links route s.ends.controllers all);
  dialled = λ n at end link s given b side none all. end_accepted end (event.Dialled link) s (λ a is. tt) all;
  fails = λ n at end s b none all. end_accepted end event.DialFailed s (λ a is. tt) all;
  begins = λ n at client plan s b is none all. all;
  comes = λ n end w piece s given b side came bytes none all. end_accepted end (event.Bytes w.link piece) s (λ a is. tt) all;
  reaches = λ n w s given b none all. all;
  acts = λ n p end what s given b work none all. all;
  shuts = λ n p link s given b work none all. all;
  answers = λ n at dial link there s given b is none all. all;
  forgets = λ n at end s b none all. all;
  settles = λ n at on number s b none all. all;
  dials = λ n at dial s b is none all. all;
  renews = λ n at end s b none all. renewed_accepted end (forget end s) all;
  changes = λ n at member secret s b formed none all.
      by_change (λ (ends : EndStates) (actions : List Action). KeepsAccepted s.links ends.controllers) member secret s.ends all (λ running is none. all);
  ticks = λ n at more s b none all. all;
  over = λ n at on next s given b none all. all;
}

pub first_accepted : (plan : Plan) → KeepsAccepted [] (plain_world plan).state.ends.controllers
first_accepted plan at c there =
    each_fresh (λ (one : ControllerState). SuchIf (IsAccepted [] at) one.running) (λ table name. tt) (λ table name. tt) plan.hands_on plan.tables plan.controllers at c there
