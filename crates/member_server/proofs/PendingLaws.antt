-- What a step for a closed or dialled link makes.
use Rattle.std.proofs.Common.{sym, ◌∙◌, ◌≡◌, ℕ, suc, ◌+◌, ◌*◌, ◌≤◌, ◌++◌, Bool, true, false, List, [], ◌∷◌, length, Option, Some, None, Result, Ok, Err, refl, ap, arith, if◌then◌else◌}
use Rattle.wire_base.specs.Maps.{lookup, put, take_out, has_key, same_number}
use Rattle.outside.specs.declared.action.Action.{Action}
use Rattle.outside.specs.declared.action.Action.TheVariants as action
use Rattle.outside.specs.declared.action.DropCause.{DropCause}
use Rattle.outside.specs.declared.action.CloseCause.{CloseCause}
use Rattle.outside.specs.declared.action.Outcome.TheVariants as outcome
use Rattle.outside.specs.declared.action.StepRefused.{StepRefused}
use Rattle.outside.specs.declared.event.Event.{Event}
use Rattle.outside.specs.declared.event.Event.TheVariants as event
use Rattle.outside.specs.Machine.{Part}
use Rattle.rpc_units.specs.declared.unit.Unit.{Unit as RpcUnit}
use Rattle.rpc_units.specs.Numbers.{rpc_s_server_unavailable}
use Rattle.rpc_units.specs.Writing.{written}
use Rattle.end_links.specs.Links.{LinkState}
use Rattle.end_links.specs.Sending.{fault_of, joined_frames}
use Rattle.end_loop.specs.Acts.{is_made, most_made, most_made_by}
use Rattle.channel_client.specs.State.{Requester}
use Rattle.channel_client.specs.Machine.{can_start, later_logons, lose_of, start_by}
use Rattle.channel_client.specs.declared.state.Pending.{Pending}
use Rattle.channel_client.specs.declared.state.Waiting.{Waiting}
use Rattle.member_server.specs.declared.outcomes.Ending.TheVariants as ending
use Rattle.member_server.specs.declared.state.AtLink.{AtLink}
use Rattle.member_server.specs.declared.state.Bound.{Bound}
use Rattle.channel_turns.specs.declared.state.Dialling.TheVariants as dialling
use Rattle.channel_turns.specs.declared.state.TurnEnd.TheVariants as turn_end
use Rattle.member_server.specs.declared.state.Logon.{Logon}
use Rattle.member_server.specs.declared.state.Logons.{Logons}
use Rattle.member_server.specs.declared.state.Phase.{Phase}
use Rattle.member_server.specs.declared.state.Phase.TheVariants as phase
use Rattle.member_server.specs.declared.state.Talk.{Talk}
use Rattle.member_server.specs.declared.state.Work.{Work}
use Rattle.member_server.specs.Machine.{event_part}
use Rattle.member_server.specs.Outcomes.{after_link, at_link, end_logon, keep_link, tell_outcome, reach_waiting, without_link, without_logon}
use Rattle.member_server.specs.Pending.{channel_weight, held_in, held_on, pending_of, start_weight, total, work_weight, Within, Settles}
use Rattle.member_server.specs.Turns.{DialWork, keep_ended, lose_turn, timestamp_of, with_requester}
use Rattle.member_server.specs.Units.{bound_unit, serve_held, then_held}
use Rattle.member_server.specs.Work.{Served, send_unit, shut}
use Rattle.member_server.proofs.LinkView.{BoundView, Closes, Faults, bound_view}
use Rattle.member_server.proofs.OutcomeView.{EndView, Unknown, Tells, Reaches, end_view}
use Rattle.member_server.proofs.StepFrame.{KeepsEvent, KeepsNext, PartHolds, WorkFact, given_channel, part_keeps}

pub made_told : (actions : List Action) (a : Action) → most_made_by (actions ++ a ∷ []) ≡ most_made_by actions + most_made a
made_told [] a = omega arith
made_told (b ∷ actions) a = omega (arith, made_told actions a)

-- ---- links

taken_by : (b : Bool) (entry : ℕ × LinkState Talk) (links taken : List (ℕ × LinkState Talk)) → held_on taken ≤ held_on links →
    held_on (if b then links else entry ∷ taken) ≤ held_on (entry ∷ links)
taken_by true entry links taken ih = omega arith
taken_by false entry links taken ih = omega (arith, ih)

held_taken : (k : ℕ) (links : List (ℕ × LinkState Talk)) → held_on (take_out same_number k links) ≤ held_on links
held_taken k [] = omega arith
held_taken k (entry ∷ links) = taken_by (has_key same_number k entry) entry links (take_out same_number k links) (held_taken k links)

found_by : (b : Bool) (entry : ℕ × LinkState Talk) (links taken : List (ℕ × LinkState Talk)) (found : Option (LinkState Talk)) (link : LinkState Talk) →
    (found ≡ Some link → held_on taken + held_in link.talk.phase ≡ held_on links) → (if b then Some entry.1 else found) ≡ Some link →
    held_on (if b then links else entry ∷ taken) + held_in link.talk.phase ≡ held_on (entry ∷ links)
found_by true entry links taken found link ih e =
    let same : entry.1 ≡ link = (let z = e in cc) in
    let size : held_in entry.1.talk.phase ≡ held_in link.talk.phase = ap (λ (l : LinkState Talk). held_in l.talk.phase) same in
    omega (arith, size)
found_by false entry links taken found link ih e = omega (arith, ih e)

held_found : (k : ℕ) (links : List (ℕ × LinkState Talk)) (link : LinkState Talk) → lookup same_number k links ≡ Some link →
    held_on (take_out same_number k links) + held_in link.talk.phase ≡ held_on links
held_found k [] link e = absurd (let x = e in cc)
held_found k (entry ∷ links) link e =
    found_by (has_key same_number k entry) entry links (take_out same_number k links) (lookup same_number k links) link (held_found k links link) e

put_by : (b : Bool) (k : ℕ) (v : LinkState Talk) (entry : ℕ × LinkState Talk) (links more : List (ℕ × LinkState Talk)) → held_on more ≤ held_on links + held_in v.talk.phase →
    held_on (if b then (k, v) ∷ links else entry ∷ more) ≤ held_on (entry ∷ links) + held_in v.talk.phase
put_by true k v entry links more ih = omega arith
put_by false k v entry links more ih = omega (arith, ih)

held_put : (k : ℕ) (v : LinkState Talk) (links : List (ℕ × LinkState Talk)) → held_on (put same_number k v links) ≤ held_on links + held_in v.talk.phase
held_put k v [] = omega arith
held_put k v (entry ∷ links) = put_by (has_key same_number k entry) k v entry links (put same_number k v links) (held_put k v links)

-- ---- what is held on a link that goes out

abbrev pub HoldsNone : Option Talk → Type 0
HoldsNone None = Unit {0}
HoldsNone (Some talk) = held_in talk.phase ≡ 0

-- at most `most` sends, and what logons need stays
abbrev pub ServesWithin : Served → Logons → (most : ℕ) → Type 0
ServesWithin s logons most = (most_made_by s.0.actions ≤ most) × (s.0.logons ≡ logons) × HoldsNone s.1

weaker : (s : Served) (logons : Logons) (m n : ℕ) → m ≤ n → ServesWithin s logons m → ServesWithin s logons n
weaker s logons m n h k = (omega (arith, h, k.0), k.1, k.2)

abbrev pub out_talk : Bound → ℕ → Option RpcUnit → Talk
out_talk bound status joiner = record { joiner = joiner; phase = phase.Out bound status }

abbrev pub Later : List (List ℕ) → ℕ → Type 0
Later units status =
    (at : AtLink) (bound : Bound) (joiner : Option RpcUnit) → ServesWithin (serve_held units at (out_talk bound status joiner)) at.logons (most_made_by at.actions + length units)

closing : (cause : CloseCause) (at : AtLink) (n : ℕ) → most_made_by (at.actions ++ action.Close at.link cause ∷ []) ≤ most_made_by at.actions + n
closing cause at n = omega (arith, made_told at.actions (action.Close at.link cause))

shut_within : (cause : CloseCause) (at : AtLink) (units : List (List ℕ)) →
    ServesWithin (then_held (shut cause at) (λ next said. serve_held units next said)) at.logons (most_made_by at.actions + suc (length units))
shut_within cause at units = (closing cause at (suc (length units)), refl, tt)

out_first : (bytes : List ℕ) (at : AtLink) (bound : Bound) (status : ℕ) (joiner : Option RpcUnit) (units : List (List ℕ)) (served : Served) →
    BoundView bytes joiner at (phase.Out bound status) served → Later units status →
    ServesWithin (then_held served (λ next said. serve_held units next said)) at.logons (most_made_by at.actions + suc (length units))
out_first bytes at bound status joiner units served (Closes cause may) later = shut_within cause at units
out_first bytes at bound status joiner units served (Faults call context) later =
    let sent : AtLink = send_unit at (fault_of call context status) in
    weaker (serve_held units sent (out_talk bound status joiner)) at.logons (most_made_by sent.actions + length units) (most_made_by at.actions + suc (length units))
    (let m = made_told at.actions (action.Send at.link (written (fault_of call context status))) in omega (arith, m))
    (later sent bound joiner)

out_made : (units : List (List ℕ)) (status : ℕ) → Later units status
out_made [] status at bound joiner = (omega arith, refl, refl)
out_made (bytes ∷ units) status at bound joiner =
    let p : Phase = phase.Out bound status in out_first bytes at bound status joiner units (bound_unit p bytes joiner at) (bound_view bytes joiner at p) (out_made units status)

-- ---- a logon that no controller answers

-- the links and the actions weigh no more than before, and the channel stays
abbrev pub Keeps : Work → Work → Type 0
Keeps a w = (most_made_by a.actions + held_on a.links ≤ most_made_by w.actions + held_on w.links) × (a.logons.channel ≡ w.logons.channel)

kept_over : (talk : Option Talk) (at : AtLink) (link : LinkState Talk) (number n : ℕ) (w : Work) → lookup same_number number w.links ≡ Some link → n ≤ held_in link.talk.phase →
    most_made_by at.actions ≤ most_made_by w.actions + n → at.logons ≡ w.logons → HoldsNone talk →
    Keeps (keep_link talk link.rest number (after_link at (without_link number w))) w
kept_over None at link number n w e f h r k = (omega (arith, held_found number w.links link e, f, h), ap Logons.channel r)
kept_over (Some talk) at link number n w e f h r k =
    let again : LinkState Talk = record { rest = link.rest; talk = talk } in
    (omega (arith, held_found number w.links link e, held_put number again (take_out same_number number w.links), k, f, h), ap Logons.channel r)

waiting_keeps : (bound : Bound) (held : List (List ℕ)) (link : LinkState Talk) (cause : DropCause) (place : ℕ) (logon : Logon) (w : Work) →
    link.talk.phase ≡ phase.Asked bound place held → lookup same_number logon.link w.links ≡ Some link →
    Keeps (reach_waiting (bound, held) link (ending.NoController cause) logon (without_link logon.link w)) w
waiting_keeps bound held link cause place logon w is there =
    let at : AtLink = at_link logon.link w in
    let served : Served = serve_held held at (out_talk bound rpc_s_server_unavailable link.talk.joiner) in
    let made = out_made held rpc_s_server_unavailable at bound link.talk.joiner in
    kept_over served.1 served.0 link logon.link (length held) w there (omega (arith, ap held_in is)) made.0 made.1 made.2

ended_keeps : (cause : DropCause) (place : ℕ) (w after : Work) → EndView place (ending.NoController cause) w after → Keeps after w
ended_keeps cause place w after (Unknown none) = (omega arith, refl)
ended_keeps cause place w after (Tells logon kept) = (omega (arith, made_told w.actions (action.Told logon.link (outcome.NoController cause))), refl)
ended_keeps cause place w after (Reaches logon link bound held kept there is) =
    let keeps = waiting_keeps bound held link cause place logon (tell_outcome (ending.NoController cause) logon (without_logon place w)) is there in
    (omega (arith, keeps.0, made_told w.actions (action.Told logon.link (outcome.NoController cause))), keeps.1)

dropped_keeps : (cause : DropCause) (place : ℕ) (w : Work) → Keeps (end_logon place (ending.NoController cause) w) w
dropped_keeps cause place w = ended_keeps cause place w (end_logon place (ending.NoController cause) w) (end_view place (ending.NoController cause) w)

-- ---- a turn that is lost

rest_weight : (ws : List Waiting) → 2 * length (later_logons ws) + start_weight (can_start None (later_logons ws)) ≤ 2 * length ws
rest_weight [] = omega arith
rest_weight (w ∷ []) = omega arith
rest_weight (w ∷ v ∷ ws) = omega arith

loses_within : (cause : DropCause) (w : Work) → total (lose_turn cause w, dialling.Nothing) ≤ most_made_by w.actions + work_weight w
loses_within cause w =
    let place : ℕ = (lose_of w.logons.channel).place in
    let after : Work = keep_ended (turn_end.Dropped place cause) (with_requester w (lose_of w.logons.channel).state) in
    let keeps = dropped_keeps cause place after in
    let channel : channel_weight (lose_turn cause w).logons.channel ≡ channel_weight after.logons.channel = ap (λ (c : Requester). channel_weight c) keeps.1 in
    omega (arith, keeps.0, channel, rest_weight w.logons.channel.waiting)

-- ---- an event, and then the next turn

-- no more is to be made than so much
abbrev pub MakesFew : ℕ → WorkFact
MakesFew most how w left = total (w, how) ≤ most

made_not : (what other : Event) → is_made what ≡ true → is_made other ≡ false → what ≡ other → ⊥
made_not what other made not is = let x = sym made ∙ ap is_made is ∙ not in cc

pub dialled_weight : (turn : Option Pending) (ws : List Waiting) (c : Requester) (t : ℕ) (challenge : List ℕ) → can_start turn ws ≡ true →
    channel_weight (start_by turn ws c t challenge).state ≡ 2 * length c.waiting
dialled_weight (Some p) ws c t challenge can = absurd (let z = can in cc)
dialled_weight None [] c t challenge can = absurd (let z = can in cc)
dialled_weight None (x ∷ ws) c t challenge can = omega arith

pub can_weight : (c : Requester) (can : Bool) → can_start c.turn c.waiting ≡ can → channel_weight c ≡ 2 * length c.waiting + start_weight can
can_weight c can is = ap (λ (b : Bool). 2 * length c.waiting + start_weight b) is

module _ (most : ℕ) (what : Event) (made : is_made what ≡ true) where
  pub event_few : KeepsEvent what (MakesFew most) (MakesFew most)
  event_few = record {
    still = λ how w left few. few;
    closes = λ link how w left few. omega (arith, few, held_taken link w.links);
    loses = λ cause how w left lost none few. omega (arith, few, loses_within cause w);
    full = λ link how w left is few. absurd (made_not what (event.Opened link) made refl is);
    opens = λ link how w left is few. absurd (made_not what (event.Opened link) made refl is);
    answers = λ link turn frames w left is few. omega (arith, few, held_taken link w.links, made_told w.actions (action.Send link (joined_frames frames)));
    link = λ number piece link how w left is there few. absurd (made_not what (event.Bytes number piece) made refl is);
    turn = λ number piece said w left is few. absurd (made_not what (event.Bytes number piece) made refl is);
  }

  next_few : (now : ℕ) → KeepsNext now (MakesFew most) (MakesFew most)
  next_few now = record {
    still = λ how w left can few. few;
    starts = λ turn frames challenge how w before after can drawn answer few.
        let c : Requester = w.logons.channel in
        omega (
          arith,
          few,
          can_weight c true can,
          dialled_weight c.turn c.waiting (given_channel w) (timestamp_of now) challenge can,
          made_told w.actions (action.Dial w.logons.plan.controller),
        );
  }

within : (part : Result (Part DialWork) StepRefused) (most : ℕ) → PartHolds (MakesFew most) part → Within part most
within (Err why) most few = tt
within (Ok part) most few = few

pub settles : Settles
settles running what now left made =
    let most : ℕ = pending_of running in
    within (event_part running what now left) most
    (part_keeps (MakesFew most) (MakesFew most) (MakesFew most) running what now left (event_few most what made) (next_few most what made now) (omega arith))
