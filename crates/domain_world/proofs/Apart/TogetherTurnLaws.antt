-- What a member and its controller have in common stays so through a step of the member: at an event in which no whole
-- unit comes on the link of its turn, at one in which one does, and as the next turn starts.
-- It serves `Proved.never_apart`.
use Rattle.std.proofs.Common.{◌≡◌, ℕ, ◌+◌, ◌<◌, ◌==◌, ◌^◌, Bool, true, false, List, [], ◌∷◌, ◌++◌, inl, inr, Option, Some, None, Result, Ok, Err, refl, sym, ap, subst, ◌∙◌, arith}
use Rattle.outside.specs.Drawing.{IsRest, draws_between}
use Rattle.outside.specs.Machine.{Part, left_by}
use Rattle.outside.specs.declared.action.Action.TheVariants as action
use Rattle.outside.specs.declared.action.CloseCause.TheVariants as close
use Rattle.outside.specs.declared.action.DropCause.{DropCause}
use Rattle.outside.specs.declared.action.DropCause.TheVariants as drop_cause
use Rattle.outside.specs.declared.action.StepRefused.{StepRefused}
use Rattle.outside.specs.declared.event.Event.{Event}
use Rattle.outside.specs.declared.event.Event.TheVariants as event
use Rattle.rpc_units.specs.Calls.{IsHeard}
use Rattle.rpc_units.specs.Stream.{cut_stream}
use Rattle.rpc_units.specs.declared.unit.Unit.{Unit as RpcUnit}
use Rattle.end_links.specs.Links.{LinkState}
use Rattle.logon_stubs.specs.declared.info.NetworkInfo.{NetworkInfo}
use Rattle.secret_change.specs.Agreement.{Holds as HoldsSecret}
use Rattle.secret_change.specs.Secrets.{SecretsState}
use Rattle.channel_client.specs.declared.answers.Taken.{Taken}
use Rattle.channel_client.specs.declared.state.Pending.{Pending}
use Rattle.channel_client.specs.declared.state.Standing.{Standing}
use Rattle.channel_client.specs.declared.state.Standing.TheVariants as standing
use Rattle.channel_client.specs.declared.state.Waiting.{Waiting}
use Rattle.channel_client.specs.declared.caller.Caller.{Caller}
use Rattle.channel_client.specs.Effects.{HasEffect, IsCoherent, View, effect_begun, effect_start, view_of}
use Rattle.channel_client.specs.Machine.{ask_of, begin_with, can_start, lose_of, needs_challenge, start_by, start_of, take_of}
use Rattle.channel_client.specs.State.{Requester}
use Rattle.channel_client.proofs.EffectLaws.{steps_have_effects}
use Rattle.channel_turns.specs.declared.state.Dialling.TheVariants as dialling
use Rattle.channel_turns.specs.declared.state.TurnEnd.{TurnEnd}
use Rattle.channel_turns.specs.declared.state.TurnEnd.TheVariants as turn_end
use Rattle.channel_turns.specs.declared.state.TurnTalk.{TurnTalk}
use Rattle.channel_turns.proofs.KeepLaws.{end_of, taken_by}
use Rattle.channel_events.specs.Marks.{Mark}
use Rattle.channel_events.specs.OrderSteps.{Asker}
use Rattle.channel_events.specs.RequestSteps.{IsFreshIf, seen_if}
use Rattle.channel_events.specs.Requests.{Holds, IsDrawn, Requests}
use Rattle.channel_events.specs.SecretOrder.{AreTogether}
use Rattle.wire_base.proofs.ListLaws.{no_some, some_is}
use Rattle.channel_events.proofs.RequestStepLaws.{cases_if}
use Rattle.channel_events.proofs.SecretOrderLaws.{stay_together}
use Rattle.member_server.specs.declared.outcomes.Ending.{Ending}
use Rattle.member_server.specs.declared.state.Logons.{Logons}
use Rattle.member_server.specs.declared.state.Running.{Running}
use Rattle.member_server.specs.declared.state.Work.{Work}
use Rattle.member_server.specs.Laws.{Asks, Loses, heard_in}
use Rattle.member_server.specs.Machine.{by_event, event_part, work_of}
use Rattle.member_server.specs.Messages.{info_of}
use Rattle.member_server.specs.Outcomes.{end_logon, tell_at, without_link}
use Rattle.member_server.specs.Secrets.{is_denied, secrets_dropped}
use Rattle.member_server.specs.Turns.{AtTurn, DialWork, after_turn_served, do_taken, end_turn, keep_ended, lose_turn, timestamp_of, turn_work, with_requester}
use Rattle.member_server.proofs.ChannelStepLaws.{whole_comes}
use Rattle.member_server.proofs.EventSteps.{end_fine}
use Rattle.member_server.proofs.LogonFrame.{KeepsLogons, logons_keep}
use Rattle.member_server.proofs.StepFrame.{IsDrawnNext, KeepsEvent, KeepsNext, KeepsTurn, PartHolds, WorkFact, dialled_keeps, each_taken, event_keeps, given_channel, heard_on, next_follows, turn_ended}
use Rattle.member_server.proofs.StepRules.{Holds as RuleHolds, LinkRules}
use Rattle.step_notes.proofs.Members.RestLaws.{event_rest}
use Rattle.domain_world.specs.Accepting.SeenSteps.{Differ}
use Rattle.domain_world.proofs.Apart.StepOrderLaws.{OrderAt, calmly_order, order_with}
use Rattle.domain_world.proofs.Apart.TogetherTakeLaws.{Basis, Ties, TogetherAs, WaitsBy, asks, dropped_holds, goes_without, keeps_all, loses, same_opening, secrets_by, with_drawn, with_held}
use Rattle.domain_world.proofs.Calls.StepApartLaws.{StandsApart, calmly, drawn_more, fresh_last, hidden, one_drawn, seen_with}

abbrev pub asker_of : Basis → Asker
asker_of b = record { who = b.who; controller = b.controller; computer = b.computer; accepted = b.accepted }

-- calls are apart, what was accepted is in order, and the requester and its controller are together
pub record TurnStands (b : Basis) (marks : List Mark) (drawn : List (List ℕ)) (uses : ℕ) (c : Requester) (secrets : SecretsState) : Type 0 where
  pub apart : StandsApart b.views b.who b.controller c marks drawn uses
  pub order : OrderAt b.views b.who b.controller (asker_of b) c marks
  pub ties : Ties b marks c secrets

-- ---- a turn starts

begin_waits : (how : Standing) (next : Option (List ℕ)) (caller : Caller) (info : NetworkInfo) (timestamp : ℕ) (challenge : List ℕ) (number : ℕ) (stands : _) (marks : List Mark) →
    WaitsBy (Some (begin_with how next caller info timestamp challenge).step) number stands marks None
begin_waits standing.Nothing next caller info timestamp challenge number stands marks = refl
begin_waits (standing.Half client server) next caller info timestamp challenge number stands marks = refl
begin_waits (standing.Open o) None caller info timestamp challenge number stands marks = refl
begin_waits (standing.Open o) (Some secret) caller info timestamp challenge number stands marks = refl

module _ (b : Basis) (marks : List Mark) (c : Requester) (secrets : SecretsState) (drawn : List (List ℕ)) (uses : ℕ) (few : uses + 2 < 2 ^ 32) (stands : TurnStands b marks drawn uses c secrets) where
  abbrev u : View
  u = view_of b.controller c

  abbrev r : Requests ℕ
  r = seen_with b.views b.who u marks drawn uses

  begun_holds : (v : View) (client challenge : List ℕ) → v.stands ≡ None → v.opening ≡ Some client → Holds v challenge → challenge ≡ client
  begun_holds v client challenge none opening held = elim held.how [
    | inl under ↦ sym (some_is client challenge (sym opening ∙ under))
    | inr there ↦ absurd (no_some there.0 (sym none ∙ there.1))
  ]

  abbrev after : View → Requests ℕ
  after v = record r { views = λ j. seen_if (j == b.who) v (r.views j) }

  -- secrets and hash are together as the requester is seen afterwards
  hidden_under : (v : View) (out : Option ℕ) → AreTogether (after v) b.who b.controller b.computer b.accepted (with_held b secrets out) → TogetherAs b v marks secrets out
  hidden_under v out t = record {
    among = t.among;
    kept = t.kept;
    taken = t.taken;
    sets = t.sets;
    opens = λ w challenge at opening. t.opens w challenge (hidden (b.who == b.who) u v (b.views b.who) w at) opening;
    asked = t.asked;
  }

  -- an opening begins, with a challenge that wasn't drawn before
  fresh_begins : (v : View) (client : List ℕ) → (IsDrawn client drawn → ⊥) → v.stands ≡ None → v.opening ≡ Some client → TogetherAs b u marks secrets None → TogetherAs b v marks secrets None
  fresh_begins v client fresh none opening together =
      hidden_under v None
      ((stay_together ℕ).begins r b.who b.controller b.computer b.accepted (with_held b secrets None) (λ j. seen_if (j == b.who) v (r.views j)) client (record {
        fresh = fresh;
        each = λ j w there. elim (cases_if (j == b.who) b.who j v w (r.views j) refl there) [
          | inl own ↦ inl (ap (λ (x : View). x.stands) own.1 ∙ none, λ challenge held. begun_holds v client challenge none opening (subst (λ (x : View). Holds x challenge) own.1 held))
          | inr other ↦ inr other
        ];
      }) stands.apart.apart (order_with b.views b.who b.controller (asker_of b) c marks drawn uses stands.order) (with_drawn b u marks drawn uses secrets None together))

  -- no call is out
  now : TogetherAs b u marks secrets None
  now = goes_without b u u marks secrets secrets stands.ties.out (λ challenge opening. opening) (keeps_all secrets) stands.ties.together

  begun_together : (how : Standing) (timestamp : ℕ) (challenge : List ℕ) (t : Requester) → IsFreshIf (needs_challenge how) challenge drawn →
      HasEffect b.controller (effect_begun b.controller how c.caller.computer timestamp challenge) c t → TogetherAs b (view_of b.controller t) marks secrets None
  begun_together standing.Nothing timestamp challenge t fresh has =
      fresh_begins (view_of b.controller t) challenge fresh (ap (λ (x : View). x.stands) has.0.1) (ap (λ (x : View). x.opening) has.0.1) now
  begun_together (standing.Half client server) timestamp challenge t fresh has =
      goes_without b u (view_of b.controller t) marks secrets secrets None (same_opening u (view_of b.controller t) (ap (λ (x : View). x.opening) has.0)) (keeps_all secrets) now
  begun_together (standing.Open o) timestamp challenge t fresh has =
      goes_without b u (view_of b.controller t) marks secrets secrets None (same_opening u (view_of b.controller t) (ap (λ (x : View). x.opening) has.0.4)) (keeps_all secrets) now

  start_ties : (turn : Option Pending) (logons : List Waiting) (timestamp : ℕ) (challenge : List ℕ) → can_start turn logons ≡ true → IsFreshIf (needs_challenge c.standing) challenge drawn →
      HasEffect b.controller (effect_start b.controller turn logons c.standing c.caller.computer timestamp challenge) c (start_by turn logons c timestamp challenge).state →
      Ties b marks (start_by turn logons c timestamp challenge).state secrets
  start_ties (Some pending) logons timestamp challenge can fresh has = absurd (let x = can in cc)
  start_ties None [] timestamp challenge can fresh has = absurd (let x = can in cc)
  start_ties None (logon ∷ logons) timestamp challenge can fresh has = record {
    coherent = has.1;
    out = None;
    waits = begin_waits c.standing c.next c.caller logon.info timestamp challenge c.next_call _ marks;
    together = begun_together c.standing timestamp challenge (start_by None (logon ∷ logons) c timestamp challenge).state fresh has;
  }

  pub starts : (timestamp : ℕ) (challenge : List ℕ) → can_start c.turn c.waiting ≡ true → IsFreshIf (needs_challenge c.standing) challenge drawn → Ties b marks (start_of c timestamp challenge).state secrets
  starts timestamp challenge can fresh =
      start_ties c.turn c.waiting timestamp challenge can fresh (steps_have_effects.start b.controller c timestamp challenge stands.ties.coherent)

-- ---- an event

module _ (b : Basis) (marks : List Mark) (drawn : List (List ℕ)) (uses : ℕ) (few : uses + 2 < 2 ^ 32) where
  abbrev OfLogons : Logons → Type 0
  OfLogons l = TurnStands b marks drawn uses l.channel l.plan.secrets

  abbrev OfWork : Work → Type 0
  OfWork w = OfLogons w.logons

  asks_more : (c : Requester) (info : NetworkInfo) (secrets : SecretsState) → TurnStands b marks drawn uses c secrets → TurnStands b marks drawn uses (ask_of c info).state secrets
  asks_more c info secrets stands = record {
    apart = calmly b.views b.who b.controller (Asks info ∷ []) c marks drawn uses (tt, tt) few stands.apart;
    order = calmly_order b.views b.who b.controller (asker_of b) (Asks info ∷ []) c marks drawn uses (tt, tt) few stands.apart stands.order;
    ties = asks b marks c info secrets stands.ties;
  }

  loses_it : (c : Requester) (secrets later : SecretsState) → ((secret : List ℕ) → HoldsSecret secret secrets → HoldsSecret secret later) → TurnStands b marks drawn uses c secrets →
      TurnStands b marks drawn uses (lose_of c).state later
  loses_it c secrets later keeps stands = record {
    apart = calmly b.views b.who b.controller (Loses ∷ []) c marks drawn uses (tt, tt) few stands.apart;
    order = calmly_order b.views b.who b.controller (asker_of b) (Loses ∷ []) c marks drawn uses (tt, tt) few stands.apart stands.order;
    ties = loses b marks c secrets later keeps stands.ties;
  }

  abbrev Fine : RuleHolds
  Fine l a = OfLogons l

  link_stands : LinkRules Fine
  link_stands = record {
    tells = λ l a what plain stands. stands;
    waits = λ l a info place logon answers stands. asks_more l.channel info l.plan.secrets stands;
    full = λ l a info answers stands. asks_more l.channel info l.plan.secrets stands;
  }

  logon_ends : (place : ℕ) (ends : Ending) (w : Work) → OfWork w → OfWork (end_logon place ends w)
  logon_ends place ends w stands =
      (end_fine ⊥ Fine link_stands place ends w (record { silent = stands; told = λ logon kept. stands }) (λ never. absurd never)).good

  turn_ends : (how : TurnEnd) (w : Work) → OfWork w → OfWork (end_turn how w)
  turn_ends how w stands = turn_ended how w OfWork (λ none. stands) (λ place ends is. logon_ends place ends w stands)

  logons_stand : KeepsLogons OfLogons
  logons_stand = record {
    asks = λ l place logon answers stands. asks_more l.channel (info_of logon.message logon.agreed logon.challenge) l.plan.secrets stands;
    full = λ l info answers stands. asks_more l.channel info l.plan.secrets stands;
  }

  lose_stands : (cause : DropCause) (w : Work) → OfWork w → OfWork (lose_turn cause w)
  lose_stands cause w stands =
      turn_ends (turn_end.Dropped (lose_of w.logons.channel).place cause)
      (keep_ended (turn_end.Dropped (lose_of w.logons.channel).place cause) (with_requester w (lose_of w.logons.channel).state))
      (loses_it w.logons.channel w.logons.plan.secrets (secrets_dropped (is_denied cause) w.logons.plan.secrets) (dropped_holds (is_denied cause) w.logons.plan.secrets) stands)

  -- no unit is to come
  none_come : KeepsTurn (λ units at. (units ≡ []) × OfWork at.work) OfWork
  none_come = record {
    skips = λ right unit units at is out. absurd (let never = out.0 in cc);
    sends = λ right frames unit units at is out. absurd (let never = out.0 in cc);
    ends = λ how unit units at is out. absurd (let never = out.0 in cc);
    breaks = λ cause at out.
        turn_ends (turn_end.Dropped (lose_of at.work.logons.channel).place drop_cause.BadReply)
        (tell_at (with_requester at.work (lose_of at.work.logons.channel).state) (action.Close at.link cause))
        (loses_it at.work.logons.channel at.work.logons.plan.secrets at.work.logons.plan.secrets (keeps_all at.work.logons.plan.secrets) out.1);
  }

  abbrev Before : Event → WorkFact
  Before what how w left = (heard_in what how ≡ []) × OfWork w

  abbrev After : WorkFact
  After how w left = OfWork w

  event_stands : (what : Event) → KeepsEvent what (Before what) After
  event_stands what = record {
    still = λ how w left stands. stands.1;
    closes = λ link how w left stands. stands.1;
    loses = λ cause how w left lost none stands. lose_stands cause w stands.1;
    full = λ link how w left is stands. stands;
    opens = λ link how w left is stands. stands;
    answers = λ link turn frames w left is stands. stands.1;
    link = λ number piece link how w left is found stands.
        logons_keep (λ dial l. OfLogons l) (cut_stream (link.rest ++ piece)) number link.talk how (without_link number w) left logons_stand stands.1;
    turn = λ number piece said w left is stands.
        dialled_keeps (λ units at. (units ≡ []) × OfWork at.work) OfWork After (each_taken (λ units at. (units ≡ []) × OfWork at.work) OfWork none_come) (cut_stream (said.rest ++ piece)) number
        said.talk w left (λ rest later at out. out.1) (λ later out. out) (sym (heard_on what number piece said is) ∙ stands.0, stands.1);
  }

  -- where no whole unit comes on the link of the turn
  pub other_event : (running : Running) (what : Event) (left : List (List ℕ)) → heard_in what running.dialling ≡ [] → OfLogons running.logons →
      PartHolds After (by_event what running.dialling (work_of running) left)
  other_event running what left none stands = event_keeps (Before what) After what (event_stands what) running.dialling (work_of running) left (none, stands)

  -- a unit was taken
  after_taken : (t : Taken) (at : AtTurn) → TurnStands b marks drawn uses at.work.logons.channel (secrets_by (end_of t) at.work.logons.plan.secrets) → OfWork (do_taken t None at).0.work
  after_taken t at stands =
      taken_by t None (turn_work at) (λ served. OfWork (after_turn_served served at).0.work) (record {
        skips = λ right is. subst (λ (end : Option TurnEnd). TurnStands b marks drawn uses at.work.logons.channel (secrets_by end at.work.logons.plan.secrets)) (ap end_of is) stands;
        sends = λ right frames is. subst (λ (end : Option TurnEnd). TurnStands b marks drawn uses at.work.logons.channel (secrets_by end at.work.logons.plan.secrets)) (ap end_of is) stands;
        ends = λ how is.
            turn_ends how (tell_at (keep_ended how at.work) (action.Close at.link close.CallDone))
            (subst (λ (end : Option TurnEnd). TurnStands b marks drawn uses at.work.logons.channel (secrets_by end at.work.logons.plan.secrets)) is stands);
      })

  -- where one does
  pub whole_event : (running : Running) (number : ℕ) (said : LinkState TurnTalk) (bytes : List ℕ) (frames : List RpcUnit) (unit : RpcUnit) (left : List (List ℕ)) →
      running.dialling ≡ dialling.On number said → said.rest ≡ [] → said.talk.joiner ≡ None → IsHeard bytes frames unit →
      TurnStands b marks drawn uses (take_of running.logons.channel unit).state (secrets_by (end_of (take_of running.logons.channel unit).taken) running.logons.plan.secrets) →
      PartHolds After (by_event (event.Bytes number bytes) running.dialling (work_of running) left)
  whole_event running number said bytes frames unit left on rest none heard stands =
      let w : Work = work_of running in
      let taking = take_of running.logons.channel unit in
      subst (PartHolds After) (sym (whole_comes running.dialling number said bytes frames unit w left on rest none heard))
      (after_taken taking.taken (record { link = number; work = with_requester w taking.state }) stands)

  -- ---- the next turn

  module _ (now : ℕ) (left : List (List ℕ)) where
    abbrev Ready : WorkFact
    Ready how w before = IsRest before left × OfWork w

    abbrev pub TiesThen : WorkFact
    TiesThen how w after = Differ (drawn ++ draws_between left after) → Ties b marks w.logons.channel w.logons.plan.secrets

    -- a member's secrets are given to its channel
    given_stands : (w : Work) (rest : List (List ℕ)) → OfWork w → TurnStands b marks (drawn ++ rest) uses (given_channel w) w.logons.plan.secrets
    given_stands w rest stands =
        let more : StandsApart b.views b.who b.controller w.logons.channel marks (drawn ++ rest) uses =
        drawn_more b.views b.who b.controller w.logons.channel marks drawn rest uses uses (omega arith) stands.apart in
        let coherent : IsCoherent (given_channel w) =
        record { matches = more.coherent.matches; first = more.coherent.first; places = more.coherent.places; few = more.coherent.few } in
        record {
          apart = record { coherent = coherent; apart = more.apart };
          order = record { called = stands.order.called; stands = stands.order.stands; made = stands.order.made; behind = stands.order.behind };
          ties = record { coherent = coherent; out = stands.ties.out; waits = stands.ties.waits; together = stands.ties.together };
        }

    started : (needs : Bool) (challenge : List ℕ) (w : Work) (before after : List (List ℕ)) → needs_challenge w.logons.channel.standing ≡ needs →
        can_start w.logons.channel.turn w.logons.channel.waiting ≡ true → IsDrawnNext needs challenge before after → (rest : IsRest before left) → OfWork w → Differ (drawn ++ draws_between left after) →
        Ties b marks (start_of (given_channel w) (timestamp_of now) challenge).state w.logons.plan.secrets
    started false challenge w before after need can next rest stands differ =
        starts b marks (given_channel w) w.logons.plan.secrets (drawn ++ rest.front) uses few (given_stands w rest.front stands) (timestamp_of now) challenge can
        (subst (λ (n : Bool). IsFreshIf n challenge (drawn ++ rest.front)) (sym need) tt)
    started true challenge w before after need can next rest stands differ =
        let same : drawn ++ draws_between left after ≡ (drawn ++ rest.front) ++ challenge ∷ [] =
        one_drawn b.views b.who b.controller now marks drawn left uses few before after rest challenge next in
        starts b marks (given_channel w) w.logons.plan.secrets (drawn ++ rest.front) uses few (given_stands w rest.front stands) (timestamp_of now) challenge can
        (subst (λ (n : Bool). IsFreshIf n challenge (drawn ++ rest.front)) (sym need)
        (fresh_last (drawn ++ rest.front) challenge (subst (λ (d : List (List ℕ)). Differ d) same differ)))

    next_ties : KeepsNext now Ready TiesThen
    next_ties = record {
      still = λ how w before can ready differ. ready.1.ties;
      starts = λ turn frames challenge how w before after can drawing answer ready differ.
          started (needs_challenge w.logons.channel.standing) challenge w before after refl can drawing ready.0 ready.1 differ;
    }

    with_rest : (first : Result (Part DialWork) StepRefused) → IsRest (left_by first) left → PartHolds After first → PartHolds Ready first
    with_rest (Err why) rest stands = tt
    with_rest (Ok part) rest stands = (rest, stands)

    -- what the event comes to, and the next turn
    pub then_next : (running : Running) (what : Event) → PartHolds After (by_event what running.dialling (work_of running) left) → PartHolds TiesThen (event_part running what now left)
    then_next running what stands =
        next_follows now Ready TiesThen next_ties (by_event what running.dialling (work_of running) left)
        (with_rest (by_event what running.dialling (work_of running) left) (event_rest what running.dialling (work_of running) left) stands)
