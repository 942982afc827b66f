-- The order in which channels are accepted, and the calls on them, in the states of a run: it stays where no more is
-- seen of requesters, where units that are no requests are marked, and through each step of an end.
use Rattle.std.proofs.Common.{◌≡◌, ℕ, ◌+◌, ◌*◌, ◌≤◌, ◌==◌, true, List, ◌++◌, inl, inr, Option, Some, slice_get, slice_set, refl, sym, ap, subst, ◌∙◌, arith}
use Rattle.std.proofs.lemmas.List.{length-set}
use Rattle.outside.specs.Drawing.{Drawing}
use Rattle.outside.specs.declared.event.Event.{Event}
use Rattle.authenticators.specs.Channels.{ChannelIdentity}
use Rattle.channel_client.specs.Effects.{View}
use Rattle.channel_events.specs.AcceptedOrder.{Accepted, IsMade}
use Rattle.channel_events.specs.Marks.{Calling, Mark, Opening}
use Rattle.channel_events.specs.OrderSteps.{Asker, InOrder}
use Rattle.channel_events.specs.Requests.{Holds, Requests, fresh_view}
use Rattle.channel_events.proofs.AcceptedOrderLaws.{behind_weaker}
use Rattle.wire_base.proofs.ListLaws.{all_weaker, got_append, no_some}
use Rattle.domain_controller.specs.State.{State as ControllerState}
use Rattle.logon_client.specs.State.{State as ClientState}
use Rattle.member_server.specs.Machine.{fresh_member, step_of}
use Rattle.member_server.specs.State.{State as MemberState}
use Rattle.member_server.specs.declared.plan.MemberPlan.{MemberPlan}
use Rattle.member_server.specs.declared.state.Running.{Running}
use Rattle.step_notes.specs.Records.{MessageTaken, Sent}
use Rattle.world_moves.specs.declared.links.Route.{Route}
use Rattle.world_moves.specs.Ends.{EndStates, with_member}
use Rattle.world_moves.specs.MemberPlans.{AreAlikeButSecrets}
use Rattle.world_moves.proofs.ChangeLaws.{member_begun}
use Rattle.world_moves.specs.Plain.{plain_member_step as member_step}
use Rattle.domain_world.specs.Accepting.SeenSteps.{Differ, HearsNone, NoRequests, requests_after, seen_or, seen_running}
use Rattle.domain_world.specs.Past.{controller_of_plan}
use Rattle.domain_world.proofs.Apart.StepOrderLaws.{step_in_order}
use Rattle.domain_world.proofs.Calls.CallHoldsLaws.{CallsHold, SameNumbers, marks_append, marks_in, requests_at, seen_after, view_before, view_by_plans, views_at, with_new}
use Rattle.domain_world.proofs.Calls.CallStepLaws.{coherent_if, most_steps, seen_anew, seen_still}
use Rattle.domain_world.proofs.Calls.LooserLaws.{calls_before}
use Rattle.domain_world.proofs.Calls.OutStepLaws.{MemberHolds}
use Rattle.domain_world.proofs.Calls.StepApartLaws.{seen_member}

-- ---- what is seen, and what is marked

-- each requester that is seen was seen so: what was drawn, and how many numbers were used, doesn't matter
pub order_seen : (views later : ℕ → Option View) (marks : List Mark) (drawn after : List (List ℕ)) (uses more : ℕ) (a : Asker) →
    ((j : ℕ) (v : View) → later j ≡ Some v → views j ≡ Some v) → InOrder (record { views = views; marks = marks; drawn = drawn; uses = uses }) a →
    InOrder (record { views = later; marks = marks; drawn = after; uses = more }) a
order_seen views later marks drawn after uses more a fewer order = record {
  called = order.called;
  stands = λ i v c at is. order.stands i v c (fewer i v at) is;
  made = order.made;
  behind = λ v challenge at holds. order.behind v challenge (fewer a.who v at) holds;
}

-- with marks of which each call was one before, and among which are all openings
pub order_marked : (r : Requests ℕ) (later : List Mark) (a : Asker) →
    ((unit number timestamp : ℕ) (c : ChannelIdentity) → slice_get later unit ≡ Some (Calling c number timestamp) → slice_get r.marks unit ≡ Some (Calling c number timestamp)) →
    ((unit number : ℕ) (c : ChannelIdentity) → slice_get r.marks unit ≡ Some (Opening c number) → slice_get later unit ≡ Some (Opening c number)) → InOrder r a →
    InOrder (record r { marks = later }) a
order_marked r later a calls openings order = record {
  called = λ unit number timestamp c there. order.called unit number timestamp c (calls unit number timestamp c there);
  stands = order.stands;
  made = all_weaker (λ (one : Accepted). one.in_unit ≡ true → IsMade r.marks one.channel) (λ (one : Accepted). one.in_unit ≡ true → IsMade later one.channel) a.accepted
      (λ one was came.
      let its : IsMade r.marks one.channel = was came in
      record { unit = its.unit; named = its.named; number = its.number; there = openings its.unit its.number its.named its.there; same = its.same }) order.made;
  behind = λ v challenge at holds.
      behind_weaker r.marks later a.controller a.computer challenge a.accepted
      (λ c of is. inl (record {
        unit = is.unit;
        named = is.named;
        number = is.number;
        timestamp = is.timestamp;
        there = calls is.unit is.number is.timestamp is.named is.there;
        same = is.same;
      })) (order.behind v challenge at holds);
}

-- with marks of which none is a request behind
pub order_more : (r : Requests ℕ) (more : List Mark) (a : Asker) → NoRequests more → InOrder r a → InOrder (record r { marks = r.marks ++ more }) a
order_more r more a none order =
    order_marked r (r.marks ++ more) a (calls_before r.marks more none) (λ unit number c there. got_append r.marks more unit (Opening c number) there) order

-- ---- in a state of a run

-- behind the units that were written down come others
pub order_sent : (n : ℕ) (plans : List MemberPlan) (ends : EndStates) (drawn : List (List ℕ)) (sent more : List Sent) (a : Asker) → NoRequests (marks_in more) →
    InOrder (requests_at n plans ends drawn sent) a → InOrder (requests_at n plans ends drawn (sent ++ more)) a
order_sent n plans ends drawn sent more a none order =
    subst (λ (marks : List Mark). InOrder (record { views = views_at plans ends; marks = marks; drawn = drawn; uses = 2 * n }) a) (sym (marks_append sent more))
    (order_more (requests_at n plans ends drawn sent) (marks_in more) a none order)

-- other ends than members change
pub order_other : (n later : ℕ) (plans : List MemberPlan) (ends after : EndStates) (drawn more : List (List ℕ)) (sent : List Sent) (a : Asker) → after.members ≡ ends.members →
    SameNumbers ends after → InOrder (requests_at n plans ends drawn sent) a → InOrder (requests_at later plans after more sent) a
order_other n later plans ends after drawn more sent a same numbers order =
    order_seen (views_at plans ends) (views_at plans after) (marks_in sent) drawn more (2 * n) (2 * later) a (view_before plans ends after same numbers) order

-- the plans are others, which are alike but for secrets
pub order_plans : (n : ℕ) (plans later : List MemberPlan) (ends : EndStates) (drawn : List (List ℕ)) (sent : List Sent) (a : Asker) → AreAlikeButSecrets plans later →
    InOrder (requests_at n plans ends drawn sent) a → InOrder (requests_at n later ends drawn sent) a
order_plans n plans later ends drawn sent a alike order =
    order_seen (views_at plans ends) (views_at later ends) (marks_in sent) drawn drawn (2 * n) (2 * n) a (view_by_plans plans later ends alike) order

-- a controller changes
pub order_controllers : (n later : ℕ) (plans : List MemberPlan) (ends : EndStates) (at : ℕ) (new : ControllerState) (drawn more : List (List ℕ)) (sent : List Sent) (a : Asker) →
    InOrder (requests_at n plans ends drawn sent) a → InOrder (requests_at later plans (record ends { controllers = slice_set ends.controllers at new }) more sent) a
order_controllers n later plans ends at new drawn more sent a order =
    order_other n later plans ends (record ends { controllers = slice_set ends.controllers at new }) drawn more sent a refl
    (record { controllers = length-set ends.controllers at new; members = refl; clients = refl; stations = refl }) order

-- a client changes
pub order_clients : (n later : ℕ) (plans : List MemberPlan) (ends : EndStates) (at : ℕ) (new : ClientState) (drawn more : List (List ℕ)) (sent : List Sent) (a : Asker) →
    InOrder (requests_at n plans ends drawn sent) a → InOrder (requests_at later plans (record ends { clients = slice_set ends.clients at new }) more sent) a
order_clients n later plans ends at new drawn more sent a order =
    order_other n later plans ends (record ends { clients = slice_set ends.clients at new }) drawn more sent a refl
    (record { controllers = refl; members = refl; clients = length-set ends.clients at new; stations = refl }) order

-- ---- a member changes

-- no request was made with what it holds that has done nothing yet
holds_none : (challenge : List ℕ) → Holds fresh_view challenge → ⊥
holds_none challenge holds = elim holds.how [
  | inl under ↦ no_some challenge under
  | inr there ↦ no_some there.0 there.1
]

module _ (n : ℕ) (plans : List MemberPlan) (ends : EndStates) (at : ℕ) (sent : List Sent) (a : Asker) where
  abbrev its : ℕ
  its = controller_of_plan (slice_get plans at) ends

  -- a member that changed stays in order where the order of its own view is given
  pub order_member : (new : MemberState) (later uses : ℕ) (after : List (List ℕ)) (more : List Sent) →
      InOrder (requests_after (views_at plans ends) at its new.running (marks_in more) after uses) a → InOrder (requests_at later plans (with_new plans ends at new) after more) a
  order_member new later uses after more order =
      order_seen (λ j. seen_or (j == at) (seen_running its new.running) (views_at plans ends j)) (views_at plans (with_new plans ends at new)) (marks_in more) after after uses (2 * later) a
      (seen_after plans ends at new) order

  -- a member takes a step at which no whole unit comes on the link of its turn
  pub order_steps : (links : List Route) (messages : List MessageTaken) (m : MemberState) (what : Event) (now : ℕ) (chances : Drawing) → slice_get ends.members at ≡ Some m →
      HearsNone m.running what → n + 1 ≤ most_steps → Differ (chances.drawn ++ (step_of m what now chances.left).drawn) → CallsHold n plans ends chances.drawn links sent messages →
      InOrder (requests_at n plans ends chances.drawn sent) a →
      InOrder (requests_at (n + 1) plans (member_step (Some m) at what now ends chances).ends (member_step (Some m) at what now ends chances).chances.drawn sent) a
  order_steps links messages m what now chances is hears few differ holds order =
      let own : MemberHolds links sent messages its at m.running = holds.members at m is in
      order_member (step_of m what now chances.left).state (n + 1) (2 * n + 1) (chances.drawn ++ (step_of m what now chances.left).drawn) sent
      (step_in_order.other (requests_at n plans ends chances.drawn sent) at its a m.running what now chances.left (omega (arith, few)) hears
      (record { at = ap (λ (x : Option MemberState). seen_member its x) is; coherent = coherent_if m.running own.asks; apart = holds.apart; order = order }) differ)

  -- a member is made anew
  pub order_anew : (links : List Route) (messages : List MessageTaken) (plan : MemberPlan) (drawn : List (List ℕ)) → InOrder (requests_at n plans ends drawn sent) a →
      InOrder (requests_at n plans (with_member at (fresh_member plan) ends) drawn sent) a
  order_anew links messages plan drawn order =
      order_member (fresh_member plan) n (2 * n) drawn sent (record {
        called = order.called;
        stands = λ i v c seen is. elim (seen_anew n plans ends links sent messages (i == at) i at (views_at plans ends i) v refl seen) [
          | inl new ↦ absurd (no_some c (ap (λ (x : View). x.stands) (sym new.1) ∙ is))
          | inr was ↦ order.stands i v c was is
        ];
        made = order.made;
        behind = λ v challenge seen holds. elim (seen_anew n plans ends links sent messages (a.who == at) a.who at (views_at plans ends a.who) v refl seen) [
          | inl new ↦ absurd (holds_none challenge (subst (λ (x : View). Holds x challenge) new.1 holds))
          | inr was ↦ order.behind v challenge was holds
        ];
      })

  -- a member begins to change its secret
  pub order_changes : (links : List Route) (messages : List MessageTaken) (secret : List ℕ) (running : Running) (drawn : List (List ℕ)) →
      slice_get ends.members at ≡ Some (record { running = Some running }) → InOrder (requests_at n plans ends drawn sent) a →
      InOrder (requests_at (n + 1) plans (with_member at (member_begun secret running) ends) drawn sent) a
  order_changes links messages secret running drawn is order =
      order_member (member_begun secret running) (n + 1) (2 * n) drawn sent
      (order_seen (views_at plans ends) (λ j. seen_or (j == at) (seen_running its (member_begun secret running).running) (views_at plans ends j)) (marks_in sent) drawn drawn (2 * n) (2 * n) a
      (λ j v seen. seen_still n plans ends links sent messages secret running at j (j == at) v is refl seen) order)
