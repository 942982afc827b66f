-- Each step of an end that asks keeps the order in which channels are accepted, and the calls on them.
-- It serves `requesters_keep_accepted_in_order`.
use Rattle.std.proofs.Common.{◌≡◌, ◌⊎◌, ℕ, ◌+◌, ◌<◌, ◌==◌, Bool, true, false, List, [], ◌∷◌, ◌++◌, inl, inr, Option, Some, None, Ok, Err, refl, sym, ap, subst, ◌∙◌, arith}
use Rattle.std.specs.Prelude.{◌^◌}
use Rattle.authenticators.specs.Channels.{ChannelIdentity}
use Rattle.channel_client.specs.Effects.{Answers, Begins, Calls, Changes, Counts, Drops, Effect, HasEffect, Moves, Opens, Stays, View, effect_begun, effect_heard, effect_judged, effect_judged_set, effect_next, effect_start, view_of}
use Rattle.channel_client.specs.Machine.{SetOutcome, ask_of, can_start, hear, judge, judge_set, lose_of, needs_challenge, set_next_of, start_of, take_of, use_secret_of}
use Rattle.channel_client.specs.State.{Requester}
use Rattle.channel_client.specs.declared.hearing.Hearing.{Hearing}
use Rattle.channel_client.specs.declared.hearing.Hearing.TheVariants as hearing
use Rattle.channel_client.specs.declared.hearing.SetHearing.TheVariants as set_hearing
use Rattle.channel_client.specs.declared.judging.Judgement.{Judgement}
use Rattle.channel_client.specs.declared.judging.Judgement.TheVariants as judgement
use Rattle.channel_client.specs.declared.state.Pending.{Pending}
use Rattle.channel_client.specs.declared.state.Standing.{Standing}
use Rattle.channel_client.specs.declared.state.Standing.TheVariants as standing
use Rattle.channel_client.specs.declared.state.Waiting.{Waiting}
use Rattle.channel_client.proofs.EffectLaws.{steps_have_effects}
use Rattle.channel_events.specs.AcceptedOrder.{Accepted, HoldNoMore, IsAcceptedIn}
use Rattle.channel_events.specs.Marks.{Calling, Opening}
use Rattle.channel_events.specs.OrderSteps.{Asker, InOrder, InOrderAfter, IsItsOrElsewhere, RequestersKeepOrder}
use Rattle.channel_events.specs.RequestSteps.{IsFreshIf, IsSeen, drawn_if, seen_if, with_seen}
use Rattle.channel_events.specs.Requests.{Holds, IsCalm, Requests}
use Rattle.channel_events.proofs.AcceptedOrderLaws.{stay_in_order}
use Rattle.wire_base.proofs.ListLaws.{no_some, some_is}
use Rattle.channel_events.proofs.RequestLaws.{calmer, same_holds}
use Rattle.channel_events.proofs.RequestStepLaws.{cases_if}

-- ---- what is seen of a step

-- a channel that opens was accepted
abbrev IsOpened : List Accepted → Effect → Type 0
IsOpened accepted (Opens c) = IsAcceptedIn accepted c
IsOpened accepted _ = Unit {0}

same_stands : (u v : View) (accepted : List Accepted) → v.stands ≡ u.stands → (c : ChannelIdentity) → v.stands ≡ Some c → (u.stands ≡ Some c) ⊎ IsAcceptedIn accepted c
same_stands u v accepted same c stands = inl (sym same ∙ stands)

stands_calm : (effect : Effect) (u v : View) (accepted : List Accepted) → IsCalm effect → Changes effect u v → IsOpened accepted effect → (c : ChannelIdentity) → v.stands ≡ Some c →
    (u.stands ≡ Some c) ⊎ IsAcceptedIn accepted c
stands_calm Stays u v accepted calm change opened c stands = same_stands u v accepted (ap (λ (x : View). x.stands) change) c stands
stands_calm Counts u v accepted calm change opened c stands = same_stands u v accepted (ap (λ (x : View). x.stands) change) c stands
stands_calm (Begins client) u v accepted calm change opened c stands = absurd calm
stands_calm (Opens d) u v accepted calm change opened c stands =
    inr (subst (IsAcceptedIn accepted) (some_is d c (sym (ap (λ (x : View). x.stands) change.1) ∙ stands)) opened)
stands_calm (Moves d timestamp) u v accepted calm change opened c stands = same_stands u v accepted (ap (λ (x : View). x.stands) change.4) c stands
stands_calm (Calls d number) u v accepted calm change opened c stands = absurd calm
stands_calm (Answers d number) u v accepted calm change opened c stands = same_stands u v accepted (ap (λ (x : View). x.stands) change.2) c stands
stands_calm Drops u v accepted calm change opened c stands = absurd (no_some c (sym (ap (λ (x : View). x.stands) change) ∙ stands))

-- one requester is seen so, and holds no more
module _ (r : Requests ℕ) (who : ℕ) (u v : View) (at : r.views who ≡ Some u) (a : Asker) where
  abbrev views_with : ℕ → Option View
  views_with j = seen_if (j == who) v (r.views j)

  seen_less : ((challenge : List ℕ) → Holds v challenge → Holds u challenge) → ((c : ChannelIdentity) → v.stands ≡ Some c → (u.stands ≡ Some c) ⊎ IsAcceptedIn a.accepted c) →
      HoldNoMore r.views views_with a.accepted
  seen_less holds stands j w there = elim (cases_if (j == who) who j v w (r.views j) refl there) [
    | inl own ↦ (
      u,
      ap r.views own.0 ∙ at,
      (λ challenge held. holds challenge (subst (λ (x : View). Holds x challenge) own.1 held)),
      λ c is. stands c (ap (λ (x : View). x.stands) (sym own.1) ∙ is),
    )
    | inr other ↦ (w, other, (λ challenge held. held), λ c is. inl is)
  ]

  -- with as many uses of numbers
  seen_so : (used : ℕ) → InOrder (record r { views = views_with }) a → InOrder (with_seen who v used r) a
  seen_so used order = record { called = order.called; stands = order.stands; made = order.made; behind = order.behind }

module _ (r : Requests ℕ) (who controller : ℕ) (s t : Requester) (a : Asker) (seen : IsSeen r who controller s) (order : InOrder r a) where
  abbrev u : View
  u = view_of controller s

  abbrev v : View
  v = view_of controller t

  room : u.call + 1 < 2 ^ 32
  room = omega (arith, seen.few, seen.apart.calls who u seen.at)

  calm_order : (used : ℕ) (effect : Effect) → IsCalm effect → IsOpened a.accepted effect → HasEffect controller effect s t → InOrder (with_seen who v used r) a
  calm_order used effect calm opened has =
      seen_so r who u v seen.at a used
      ((stay_in_order ℕ).calm r a.who a.controller a.computer a.accepted (λ j. seen_if (j == who) v (r.views j))
      (seen_less r who u v seen.at a (calmer effect u v calm has.0 room).holds (stands_calm effect u v a.accepted calm has.0 opened)) order)

  -- a call goes out
  call_order : (c : ChannelIdentity) (number timestamp : ℕ) → IsItsOrElsewhere a who c → HasEffect controller (Calls c number) s t →
      InOrder (with_seen who v 1 (record r { marks = r.marks ++ Calling c number timestamp ∷ [] })) a
  call_order c number timestamp own has =
      let marked : Requests ℕ = record r { marks = r.marks ++ Calling c number timestamp ∷ [] } in
      let stands : v.stands ≡ u.stands = ap (λ (x : View). x.stands) has.0.3 in
      let opening : v.opening ≡ u.opening = ap (λ (x : View). x.opening) has.0.3 in
      seen_so marked who u v seen.at a 1
      ((stay_in_order ℕ).calm marked a.who a.controller a.computer a.accepted (λ j. seen_if (j == who) v (r.views j))
      (seen_less marked who u v seen.at a (same_holds u v stands opening) (same_stands u v a.accepted stands))
      ((stay_in_order ℕ).calls r a.who a.controller a.computer a.accepted who u c number timestamp seen.at has.0.0 has.0.1 own order))

  -- the opening that is under way does
  open_order : HasEffect controller Counts s t → (c : ChannelIdentity) (number : ℕ) → InOrder (with_seen who v 1 (record r { marks = r.marks ++ Opening c number ∷ [] })) a
  open_order has c number =
      let marked : Requests ℕ = record r { marks = r.marks ++ Opening c number ∷ [] } in
      seen_so marked who u v seen.at a 1
      ((stay_in_order ℕ).calm marked a.who a.controller a.computer a.accepted (λ j. seen_if (j == who) v (r.views j))
      (seen_less marked who u v seen.at a (calmer Counts u v tt has.0 room).holds (stands_calm Counts u v a.accepted tt has.0 tt))
      ((stay_in_order ℕ).unit r a.who a.controller a.computer a.accepted (Opening c number) (λ d other timestamp is. let never = is in cc) order))

  judged_order : (j : Judgement) (computer : List ℕ) (number : ℕ) → HasEffect controller (effect_judged controller j computer number) s t →
      InOrderAfter (effect_judged controller j computer number) r who controller t a
  judged_order (judgement.Half client server) computer number has = calm_order 1 Stays tt tt has
  judged_order (judgement.Opened o) computer number has = λ accepted. calm_order 1 (Opens _) tt accepted has
  judged_order (judgement.Answer o verdict) computer number has = calm_order 1 (Answers _ number) tt tt has
  judged_order (judgement.Drop cause) computer number has = calm_order 1 Drops tt tt has

  judged_set_order : (judged : SetOutcome) (computer : List ℕ) (number : ℕ) → HasEffect controller (effect_judged_set controller judged computer number) s t →
      InOrderAfter (effect_judged_set controller judged computer number) r who controller t a
  judged_set_order (Ok o) computer number has = calm_order 1 (Answers _ number) tt tt has
  judged_set_order (Err cause) computer number has = calm_order 1 Drops tt tt has

  next_order : (how : Standing) (computer : List ℕ) (next : ℕ) → HasEffect controller (effect_next controller how computer next) s t →
      InOrderAfter (effect_next controller how computer next) r who controller t a
  next_order standing.Nothing computer next has = (calm_order 1 Counts tt tt has, λ c number. open_order has c number)
  next_order (standing.Half client server) computer next has = (calm_order 1 Counts tt tt has, λ c number. open_order has c number)
  next_order (standing.Open o) computer next has = λ timestamp own. call_order _ next timestamp own has

  heard_order : (h : Hearing) → HasEffect controller (effect_heard controller h s) s t → InOrderAfter (effect_heard controller h s) r who controller t a
  heard_order hearing.Skip has = calm_order 1 Stays tt tt has
  heard_order (hearing.Next q frames) has = next_order s.standing s.caller.computer s.next_call has
  heard_order (hearing.Reply q reply) has = judged_order (judge q reply s.standing s.caller.secret) s.caller.computer _ has
  heard_order (hearing.Drop cause) has = calm_order 1 Drops tt tt has
  heard_order (hearing.Set (set_hearing.Next frames)) has = next_order s.standing s.caller.computer s.next_call has
  heard_order (hearing.Set (set_hearing.Reply reply)) has = judged_set_order (judge_set reply s.standing) s.caller.computer _ has

  -- ---- a turn starts

  abbrev Drawn : Bool → List ℕ → Requests ℕ
  Drawn needs challenge = with_seen who v 1 (record r { drawn = drawn_if needs challenge r.drawn })

  drawn_order : (needs : Bool) (challenge : List ℕ) → InOrder (with_seen who v 1 r) a → InOrder (Drawn needs challenge) a
  drawn_order needs challenge so = record { called = so.called; stands = so.stands; made = so.made; behind = so.behind }

  begun_holds : (client challenge : List ℕ) → v.stands ≡ None → v.opening ≡ Some client → Holds v challenge → challenge ≡ client
  begun_holds client challenge stands opening held = elim held.how [
    | inl under ↦ sym (some_is client challenge (sym opening ∙ under))
    | inr there ↦ absurd (no_some there.0 (sym stands ∙ there.1))
  ]

  fresh_order : (client : List ℕ) → IsFreshIf true client r.drawn → HasEffect controller (Begins client) s t → InOrder (with_seen who v 1 r) a
  fresh_order client fresh has =
      let stands : v.stands ≡ None = ap (λ (x : View). x.stands) has.0.1 in
      let opening : v.opening ≡ Some client = ap (λ (x : View). x.opening) has.0.1 in
      seen_so r who u v seen.at a 1
      ((stay_in_order ℕ).begins r a.who a.controller a.computer a.accepted (λ j. seen_if (j == who) v (r.views j)) client (record {
        fresh = fresh;
        each = λ j w there. elim (cases_if (j == who) who j v w (r.views j) refl there) [
          | inl own ↦ inl (ap (λ (x : View). x.stands) own.1 ∙ stands, λ challenge held. begun_holds client challenge stands opening (subst (λ (x : View). Holds x challenge) own.1 held))
          | inr other ↦ inr other
        ];
      }) seen.apart order)

  begun_order : (how : Standing) (computer : List ℕ) (timestamp : ℕ) (challenge : List ℕ) → IsFreshIf (needs_challenge how) challenge r.drawn →
      HasEffect controller (effect_begun controller how computer timestamp challenge) s t → InOrder (Drawn (needs_challenge how) challenge) a
  begun_order standing.Nothing computer timestamp challenge fresh has = drawn_order true challenge (fresh_order challenge fresh has)
  begun_order (standing.Half client server) computer timestamp challenge fresh has = drawn_order false challenge (calm_order 1 Counts tt tt has)
  begun_order (standing.Open o) computer timestamp challenge fresh has = drawn_order false challenge (calm_order 1 (Moves _ timestamp) tt tt has)

  start_order : (turn : Option Pending) (logons : List Waiting) (timestamp : ℕ) (challenge : List ℕ) → can_start turn logons ≡ true → IsFreshIf (needs_challenge s.standing) challenge r.drawn →
      HasEffect controller (effect_start controller turn logons s.standing s.caller.computer timestamp challenge) s t → InOrder (Drawn (needs_challenge s.standing) challenge) a
  start_order (Some pending) logons timestamp challenge can fresh has = absurd (let x = can in cc)
  start_order None [] timestamp challenge can fresh has = absurd (let x = can in cc)
  start_order None (logon ∷ logons) timestamp challenge can fresh has = begun_order s.standing s.caller.computer timestamp challenge fresh has

pub requesters_keep_order : RequestersKeepOrder
requesters_keep_order = record {
  ask = λ r who controller s info a seen order.
      calm_order r who controller s (ask_of s info).state a seen order 0 Stays tt tt (steps_have_effects.ask controller s info seen.coherent);
  use_secret = λ r who controller s secret a seen order.
      calm_order r who controller s (use_secret_of s secret) a seen order 0 Stays tt tt (steps_have_effects.use_secret controller s secret seen.coherent);
  set_next = λ r who controller s next a seen order.
      calm_order r who controller s (set_next_of s next) a seen order 0 Stays tt tt (steps_have_effects.set_next controller s next seen.coherent);
  lose = λ r who controller s a seen order. calm_order r who controller s (lose_of s).state a seen order 0 Drops tt tt (steps_have_effects.lose controller s seen.coherent);
  take = λ r who controller s unit a seen order.
      heard_order r who controller s (take_of s unit).state a seen order (hear s.turn unit s.next_call) (steps_have_effects.take controller s unit seen.coherent);
  start = λ r who controller s timestamp challenge a seen can fresh order.
      start_order r who controller s (start_of s timestamp challenge).state a seen order s.turn s.waiting timestamp challenge can fresh
      (steps_have_effects.start controller s timestamp challenge seen.coherent);
}
