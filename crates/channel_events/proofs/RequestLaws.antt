-- The openings and the calls that were made on secure channels stay apart through each event.
-- It serves `calls_stay_apart`.
use Rattle.std.proofs.Common.{◌≡◌, ℕ, ◌+◌, ◌<◌, ◌≤◌, ◌^◌, List, [], ◌∷◌, ◌++◌, length, ◌⊎◌, inl, inr, Option, Some, None, slice_get, refl, sym, ap, subst, ◌∙◌, arith}
use Rattle.authenticators.specs.Channels.{ChannelIdentity}
use Rattle.channel_client.specs.Effects.{Changes, Effect, Stays, Counts, Begins, Opens, Moves, Calls, Answers, Drops, View}
use Rattle.channel_client.specs.Machine.{after}
use Rattle.channel_events.specs.Marks.{Mark, Calling, Opened, Opening, Plain, ReplyTo}
use Rattle.channel_events.specs.Requests.{AreSeenBut, CallsAreApart, CallsStayApart, Holds, IsAsked, IsCalm, IsDrawn, IsNoRequest, IsRequest, Requests, Steps, after_step, fresh_view, used_by}
use Rattle.wire_base.proofs.ListLaws.{at_end, no_some, one_last, one_more, some_is}

-- ---- a requester that holds no more than before

pub record IsCalmer (u v : View) : Type 0 where
  pub holds : (challenge : List ℕ) → Holds v challenge → Holds u challenge
  pub opening : (challenge : List ℕ) → v.opening ≡ Some challenge → u.opening ≡ Some challenge
  pub onward : u.call ≤ v.call
  pub few : v.call ≤ u.call + 1

pub same_holds : (u v : View) → v.stands ≡ u.stands → v.opening ≡ u.opening → (challenge : List ℕ) → Holds v challenge → Holds u challenge
same_holds u v stands opening challenge holds = record {
  how = elim holds.how [
    | inl under ↦ inl (sym opening ∙ under)
    | inr there ↦ inr (there.0, sym stands ∙ there.1, there.2)
  ];
}

-- a requester that holds what it held before, and whose count goes on by one at most, goes on
goes_on : (u v : View) → v.stands ≡ u.stands → v.opening ≡ u.opening → u.call ≤ v.call → v.call ≤ u.call + 1 → IsCalmer u v
goes_on u v stands opening onward few = record {
  holds = same_holds u v stands opening;
  opening = λ challenge is. sym opening ∙ is;
  onward = onward;
  few = few;
}

pub after_is : (call : ℕ) → call + 1 < 2 ^ 32 → after call ≡ call + 1
after_is call room = omega (arith, room)

pub calmer : (effect : Effect) (u v : View) → IsCalm effect → Changes effect u v → u.call + 1 < 2 ^ 32 → IsCalmer u v
calmer Stays u v calm change room = subst (λ (x : View). IsCalmer u x) (sym change) (goes_on u u refl refl (omega arith) (omega arith))
calmer Counts u v calm change room =
    subst (λ (x : View). IsCalmer u x) (sym change)
    (goes_on u (record u { call = after u.call }) refl refl (omega (arith, after_is u.call room)) (omega (arith, after_is u.call room)))
calmer (Begins client) u v calm change room = absurd calm
calmer (Opens c) u v calm change room =
    subst (λ (x : View). IsCalmer u x) (sym change.1)
    (record {
      holds = λ challenge holds. elim holds.how [
        | inl under ↦ absurd (no_some challenge under)
        | inr there ↦ record { how = inl (change.0 ∙ ap Some (ap (λ (x : ChannelIdentity). x.client) (some_is c there.0 there.1) ∙ there.2)) }
      ];
      opening = λ challenge is. absurd (no_some challenge is);
      onward = omega arith;
      few = omega arith;
    })
calmer (Moves c timestamp) u v calm change room =
    subst (λ (x : View). IsCalmer u x) (sym change.4)
    (goes_on u _ refl refl (omega (arith, after_is u.call room)) (omega (arith, after_is u.call room)))
calmer (Calls c number) u v calm change room = absurd calm
calmer (Answers c number) u v calm change room = subst (λ (x : View). IsCalmer u x) (sym change.2) (goes_on u _ refl refl (omega arith) (omega arith))
calmer Drops u v calm change room =
    subst (λ (x : View). IsCalmer u x) (sym change)
    (record {
      holds = λ challenge holds. elim holds.how [ inl under ↦ absurd (no_some challenge under) | inr there ↦ absurd (no_some there.0 there.1) ];
      opening = λ challenge is. absurd (no_some challenge is);
      onward = omega arith;
      few = omega arith;
    })

-- a change uses at most as many numbers of the requester as its effect does
few_used : (effect : Effect) (u v : View) → IsCalm effect → Changes effect u v → u.call + 1 < 2 ^ 32 → v.call ≤ u.call + used_by effect
few_used Stays u v calm change room = omega (arith, ap (λ (x : View). x.call) change)
few_used Counts u v calm change room = omega (arith, ap (λ (x : View). x.call) change, after_is u.call room)
few_used (Begins client) u v calm change room = absurd calm
few_used (Opens c) u v calm change room = omega (arith, ap (λ (x : View). x.call) change.1)
few_used (Moves c timestamp) u v calm change room = omega (arith, ap (λ (x : View). x.call) change.4, after_is u.call room)
few_used (Calls c number) u v calm change room = absurd calm
few_used (Answers c number) u v calm change room = omega (arith, ap (λ (x : View). x.call) change.2)
few_used Drops u v calm change room = omega (arith, ap (λ (x : View). x.call) change)

pub room_for : (call uses : ℕ) → call ≤ uses + 1 → uses + 2 < 2 ^ 32 → call + 1 < 2 ^ 32
room_for call uses few room = omega (arith, few, room)

-- ---- requests

-- a call was asked
pub called_is : (marks : List Mark) (unit number timestamp : ℕ) (c : ChannelIdentity) → slice_get marks unit ≡ Some (Calling c number timestamp) → IsAsked marks unit c number
called_is marks unit number timestamp c made = record { mark = Calling c number timestamp; asks = (refl, refl); there = made }

-- what isn't one
pub no_request : (mark : Mark) (number : ℕ) (c : ChannelIdentity) → IsNoRequest mark → IsRequest c number mark → ⊥
no_request Plain number c none asks = asks
no_request (Opening d other) number c none asks = none
no_request (Opened d other request) number c none asks = asks
no_request (Calling d other timestamp) number c none asks = none
no_request (ReplyTo d other request) number c none asks = asks

-- a request was asked before, or it is the last
asked_end : (marks : List Mark) (mark : Mark) (unit number : ℕ) (c : ChannelIdentity) → IsAsked (marks ++ mark ∷ []) unit c number →
    IsAsked marks unit c number ⊎ ((unit ≡ length marks) × IsRequest c number mark)
asked_end marks mark unit number c is = elim (at_end marks mark is.mark unit is.there) [
  | inl old ↦ inl (record { mark = is.mark; asks = is.asks; there = old })
  | inr new ↦ inr (new.0, subst (IsRequest c number) (sym new.1) is.asks)
]

was_asked : (marks : List Mark) (mark : Mark) (unit number : ℕ) (c : ChannelIdentity) → IsNoRequest mark → IsAsked (marks ++ mark ∷ []) unit c number → IsAsked marks unit c number
was_asked marks mark unit number c none is = elim (asked_end marks mark unit number c is) [
  | inl old ↦ old
  | inr new ↦ absurd (no_request mark number c none new.1)
]

pub fresh_holds : (challenge : List ℕ) → Holds fresh_view challenge → ⊥
fresh_holds challenge holds = elim holds.how [ inl under ↦ no_some challenge under | inr there ↦ no_some there.0 there.1 ]

was_made : (marks : List Mark) (mark : Mark) (unit number timestamp : ℕ) (c : ChannelIdentity) → IsNoRequest mark → slice_get (marks ++ mark ∷ []) unit ≡ Some (Calling c number timestamp) →
    slice_get marks unit ≡ Some (Calling c number timestamp)
was_made marks mark unit number timestamp c none made = elim (at_end marks mark (Calling c number timestamp) unit made) [
  | inl old ↦ old
  | inr new ↦ absurd (subst IsNoRequest new.1 none)
]

itself : (v : View) → IsCalmer v v
itself v = goes_on v v refl refl (omega arith) (omega arith)

pub begun_holds : (client : List ℕ) (call : ℕ) (challenge : List ℕ) → Holds (record { stands = None; seed = None; opening = Some client; asking = None; call = call }) challenge → challenge ≡ client
begun_holds client call challenge holds = elim holds.how [ inl under ↦ sym (some_is client challenge under) | inr there ↦ absurd (no_some there.0 there.1) ]

module _ {Who : Type 0} where
  -- more numbers may be counted
  pub more_used : (r : Requests Who) (more : ℕ) → r.uses ≤ more → CallsAreApart r → CallsAreApart (record r { uses = more })
  more_used r more onward a = record {
    made_before = a.made_before;
    held_before = a.held_before;
    apart = a.apart;
    opening = a.opening;
    numbers = a.numbers;
    distinct = a.distinct;
    calls = λ i v at. omega (arith, onward, a.calls i v at);
  }

  -- whoever is seen afterwards holds what one held that was seen before
  record Was (views : Who → Option View) (j : Who) (w : View) : Type 0 where
    view : View
    at : views j ≡ Some view
    calm : IsCalmer view w

  was : (old new : Who → Option View) (who : Who) (u v : View) → old who ≡ Some u → AreSeenBut old new who v → IsCalmer u v → (j : Who) (w : View) → new j ≡ Some w → Was old j w
  was old new who u v at others calm j w there = elim (others j w there) [
    | inl here ↦ record { view = u; at = ap old here.0 ∙ at; calm = subst (λ (x : View). IsCalmer u x) (sym here.1) calm }
    | inr before ↦ record { view = w; at = before; calm = itself w }
  ]

  -- where each that is seen was seen before, and holds no more
  calmed : (r : Requests Who) (views : Who → Option View) (uses : ℕ) → r.uses ≤ uses → ((j : Who) (w : View) → views j ≡ Some w → Was r.views j w) →
      ((j : Who) (w : View) → views j ≡ Some w → w.call ≤ uses + 1) → CallsAreApart r → CallsAreApart (record r { views = views; uses = uses })
  calmed r views uses onward before few a = record {
    made_before = a.made_before;
    held_before = λ i v challenge at holds. let w = before i v at in a.held_before i w.view challenge w.at (w.calm.holds challenge holds);
    apart = λ i j u v challenge at also holds too.
        let one = before i u at in
        let other = before j v also in
        a.apart i j one.view other.view challenge one.at other.at (one.calm.holds challenge holds) (other.calm.holds challenge too);
    opening = λ i v unit number timestamp c at under is.
        let w = before i v at in a.opening i w.view unit number timestamp c w.at (w.calm.opening c.client under) is;
    numbers = λ i v unit number c at holds is.
        let w = before i v at in
        let below : number < w.view.call = a.numbers i w.view unit number c w.at (w.calm.holds c.client holds) is in
        omega (arith, below, w.calm.onward);
    distinct = a.distinct;
    calls = few;
  }

  calm_keeps : (r : Requests Who) (effect : Effect) (e : Steps r effect) → IsCalm effect → CallsAreApart r → CallsAreApart (after_step r effect e.views)
  calm_keeps r effect e calm a =
      let few : e.before.call ≤ r.uses + 1 = a.calls e.who e.before e.at in
      let room : e.before.call + 1 < 2 ^ 32 = room_for e.before.call r.uses few e.few in
      let less : IsCalmer e.before e.after = calmer effect e.before e.after calm e.change room in
      let used : e.after.call ≤ e.before.call + used_by effect = few_used effect e.before e.after calm e.change room in
      calmed r e.views (r.uses + used_by effect) (omega arith) (was r.views e.views e.who e.before e.after e.at e.others less)
      (λ j w there. elim (e.others j w there) [
        | inl here ↦ omega (arith, few, used, ap (λ (x : View). x.call) here.1)
        | inr before ↦ omega (arith, a.calls j w before)
      ]) a

  -- ---- an opening begins

  begins_keep : (r : Requests Who) (client : List ℕ) (e : Steps r (Begins client)) → (IsDrawn client r.drawn → ⊥) → CallsAreApart r →
      CallsAreApart (after_step (record r { drawn = r.drawn ++ client ∷ [] }) (Begins client) e.views)
  begins_keep r client e fresh a =
      let few : e.before.call ≤ r.uses + 1 = a.calls e.who e.before e.at in
      let now : View = record { stands = None; seed = None; opening = Some client; asking = None; call = after e.before.call } in
      let is : e.after ≡ now = e.change.1 in
      let count : after e.before.call ≡ e.before.call + 1 = after_is e.before.call (room_for e.before.call r.uses few e.few) in
      let held : (v : View) (challenge : List ℕ) → v ≡ e.after → Holds v challenge → challenge ≡ client =
      λ v challenge same holds. begun_holds client (after e.before.call) challenge (subst (λ (x : View). Holds x challenge) (same ∙ is) holds) in
      let old : (j : Who) (v : View) → r.views j ≡ Some v → Holds v client → ⊥ = λ j v at holds. fresh (a.held_before j v client at holds) in
      let unmade : (unit number timestamp : ℕ) (c : ChannelIdentity) → c.client ≡ client → slice_get r.marks unit ≡ Some (Calling c number timestamp) → ⊥ =
      λ unit number timestamp c same made. fresh (subst (λ (x : List ℕ). IsDrawn x r.drawn) same (a.made_before unit number c (called_is r.marks unit number timestamp c made))) in
      record {
        made_before = λ unit number c made. one_more (λ (one : List ℕ). one ≡ c.client) r.drawn client (a.made_before unit number c made);
        held_before = λ i v challenge at holds. elim (e.others i v at) [
          | inl here ↦ one_last (λ (one : List ℕ). one ≡ challenge) r.drawn client (sym (held v challenge here.1 holds))
          | inr before ↦ one_more (λ (one : List ℕ). one ≡ challenge) r.drawn client (a.held_before i v challenge before holds)
        ];
        apart = λ i j u v challenge at also holds too. elim (e.others i u at) [
          | inl here ↦ elim (e.others j v also) [
            | inl there ↦ here.0 ∙ sym there.0
            | inr before ↦ absurd (old j v before (subst (λ (x : List ℕ). Holds v x) (held u challenge here.1 holds) too))
          ]
          | inr before ↦ elim (e.others j v also) [
            | inl there ↦ absurd (old i u before (subst (λ (x : List ℕ). Holds u x) (held v challenge there.1 too) holds))
            | inr more ↦ a.apart i j u v challenge before more holds too
          ]
        ];
        opening = λ i v unit number timestamp c at under made. elim (e.others i v at) [
          | inl here ↦ unmade unit number timestamp c (held v c.client here.1 (record { how = inl under })) made
          | inr before ↦ a.opening i v unit number timestamp c before under made
        ];
        numbers = λ i v unit number c at holds made. elim (e.others i v at) [
          | inl here ↦ absurd (fresh (subst (λ (x : List ℕ). IsDrawn x r.drawn) (held v c.client here.1 holds) (a.made_before unit number c made)))
          | inr before ↦ a.numbers i v unit number c before holds made
        ];
        distinct = a.distinct;
        calls = λ i v at. elim (e.others i v at) [
          | inl here ↦ omega (arith, few, count, ap (λ (x : View). x.call) (here.1 ∙ is))
          | inr before ↦ omega (arith, a.calls i v before)
        ];
      }

  -- ---- a request goes out

  -- one that a requester makes with a challenge that it holds, by its next number
  module _ (r : Requests Who) (e_who : Who) (before after_it : View) (views : Who → Option View) (at_it : r.views e_who ≡ Some before) (now : views e_who ≡ Some after_it)
      (others : AreSeenBut r.views views e_who after_it) (uses : ℕ) (calm : IsCalmer before after_it) (count : after_it.call ≡ before.call + 1) (room : before.call ≤ uses) (onward : r.uses ≤ uses)
      (mark : Mark) (c : ChannelIdentity) (number : ℕ) (asks : IsRequest c number mark) (is_next : number ≡ before.call) (mine : Holds before c.client)
      (never : (d : ChannelIdentity) (more : ℕ) → IsRequest d more mark → (c ≡ d) × (number ≡ more))
      (uncalled : (i : Who) (v : View) (more timestamp : ℕ) (d : ChannelIdentity) → views i ≡ Some v → v.opening ≡ Some d.client → mark ≡ Calling d more timestamp → ⊥) where
    was_it : (j : Who) (w : View) → views j ≡ Some w → Was r.views j w
    was_it j w there = was r.views views e_who before after_it at_it others calm j w there

    -- whoever holds the challenge of the channel is the one that asks
    its : CallsAreApart r → (j : Who) (w : View) → views j ≡ Some w → Holds w c.client → j ≡ e_who
    its a j w there holds = let x = was_it j w there in a.apart j e_who x.view before c.client x.at at_it (x.calm.holds c.client holds) mine

    above : CallsAreApart r → (unit more : ℕ) (d : ChannelIdentity) → d.client ≡ c.client → number ≡ more → IsAsked r.marks unit d more → ⊥
    above a unit more d same is_more old =
        let below : more < before.call = a.numbers e_who before unit more d at_it (subst (λ (x : List ℕ). Holds before x) (sym same) mine) old in
        omega (arith, below, is_next, is_more)

    asked_keeps : CallsAreApart r → CallsAreApart (record r { views = views; marks = r.marks ++ mark ∷ []; uses = uses })
    asked_keeps a = record {
      made_before = λ unit more d made. elim (asked_end r.marks mark unit more d made) [
        | inl old ↦ a.made_before unit more d old
        | inr new ↦ subst (λ (x : ChannelIdentity). IsDrawn x.client r.drawn) (never d more new.1).0 (a.held_before e_who before c.client at_it mine)
      ];
      held_before = λ i v challenge at holds. let x = was_it i v at in a.held_before i x.view challenge x.at (x.calm.holds challenge holds);
      apart = λ i j u v challenge at also holds too.
          let one = was_it i u at in
          let other = was_it j v also in
          a.apart i j one.view other.view challenge one.at other.at (one.calm.holds challenge holds) (other.calm.holds challenge too);
      opening = λ i v unit more later d at under made. elim (at_end r.marks mark (Calling d more later) unit made) [
        | inl old ↦ let x = was_it i v at in a.opening i x.view unit more later d x.at (x.calm.opening d.client under) old
        | inr new ↦ uncalled i v more later d at under new.1
      ];
      numbers = λ i v unit more d at holds made. elim (asked_end r.marks mark unit more d made) [
        | inl old ↦ let x = was_it i v at in
            let below : more < x.view.call = a.numbers i x.view unit more d x.at (x.calm.holds d.client holds) old in
            omega (arith, below, x.calm.onward)
        | inr new ↦ let same = never d more new.1 in
            elim (others i v at) [
              | inl here ↦ omega (arith, count, is_next, same.1, ap (λ (x : View). x.call) here.1)
              | inr old ↦ let mine_too : Holds v c.client = subst (λ (x : ChannelIdentity). Holds v x.client) (sym same.0) holds in
                  let who : i ≡ e_who = its a i v at mine_too in
                  let one : v ≡ after_it = some_is v after_it (sym at ∙ ap views who ∙ now) in
                  omega (arith, count, is_next, same.1, ap (λ (x : View). x.call) one)
            ]
      ];
      distinct = λ unit other more d f made also same. elim (asked_end r.marks mark unit more d made) [
        | inl old ↦ elim (asked_end r.marks mark other more f also) [
          | inl too ↦ a.distinct unit other more d f old too same
          | inr new ↦ let is_new = never f more new.1 in
              absurd (above a unit more d (same ∙ ap (λ (x : ChannelIdentity). x.client) (sym is_new.0)) is_new.1 old)
        ]
        | inr new ↦ let is_new = never d more new.1 in
            elim (asked_end r.marks mark other more f also) [
              | inl old ↦ absurd (above a other more f (sym same ∙ ap (λ (x : ChannelIdentity). x.client) (sym is_new.0)) is_new.1 old)
              | inr too ↦ new.0 ∙ sym too.0
            ]
      ];
      calls = λ i v at. elim (others i v at) [
        | inl here ↦ omega (arith, room, count, ap (λ (x : View). x.call) here.1)
        | inr old ↦ omega (arith, onward, a.calls i v old)
      ];
    }

  -- the opening that is under way
  opens_keep : (r : Requests Who) (c : ChannelIdentity) (e : Steps r Counts) → e.before.opening ≡ Some c.client → CallsAreApart r →
      CallsAreApart (after_step (record r { marks = r.marks ++ Opening c e.before.call ∷ [] }) Counts e.views)
  opens_keep r c e under_way a =
      let few : e.before.call ≤ r.uses + 1 = a.calls e.who e.before e.at in
      let now : View = record e.before { call = after e.before.call } in
      let is : e.after ≡ now = e.change in
      let count : after e.before.call ≡ e.before.call + 1 = after_is e.before.call (room_for e.before.call r.uses few e.few) in
      let calm : IsCalmer e.before e.after = subst (λ (x : View). IsCalmer e.before x) (sym is) (goes_on e.before now refl refl (omega (arith, count)) (omega (arith, count))) in
      asked_keeps r e.who e.before e.after e.views e.at e.now e.others (r.uses + 1) calm (ap (λ (x : View). x.call) is ∙ count) few (omega arith) (Opening c e.before.call) c e.before.call (refl, refl)
      refl (record { how = inl under_way }) (λ d more asks. asks) (λ i v more timestamp d at under made. let x = made in cc) a

  -- a call
  calls_keep : (r : Requests Who) (c : ChannelIdentity) (number timestamp : ℕ) (e : Steps r (Calls c number)) → CallsAreApart r →
      CallsAreApart (after_step (record r { marks = r.marks ++ Calling c number timestamp ∷ [] }) (Calls c number) e.views)
  calls_keep r c number timestamp e a =
      let few : e.before.call ≤ r.uses + 1 = a.calls e.who e.before e.at in
      let stands : e.before.stands ≡ Some c = e.change.0 in
      let unopened : e.before.opening ≡ None = e.change.1 in
      let is_next : number ≡ e.before.call = e.change.2 in
      let now : View = record e.before { asking = Some number; call = after e.before.call } in
      let is : e.after ≡ now = e.change.3 in
      let count : after e.before.call ≡ e.before.call + 1 = after_is e.before.call (room_for e.before.call r.uses few e.few) in
      let calm : IsCalmer e.before e.after = subst (λ (x : View). IsCalmer e.before x) (sym is) (goes_on e.before now refl refl (omega (arith, count)) (omega (arith, count))) in
      let mine : Holds e.before c.client = record { how = inr (c, stands, refl) } in
      asked_keeps r e.who e.before e.after e.views e.at e.now e.others (r.uses + 1) calm (ap (λ (x : View). x.call) is ∙ count) few (omega arith) (Calling c number timestamp) c number (refl, refl)
      is_next mine (λ d more asks. asks)
      (λ i v more later d at under made.
      let same : c ≡ d = (let x = made in cc) in
      let holds : Holds v c.client = record { how = inl (under ∙ ap (λ (x : ChannelIdentity). Some x.client) (sym same)) } in
      elim (e.others i v at) [
        | inl here ↦ no_some d.client (sym unopened ∙ ap (λ (x : View). x.opening) (sym (here.1 ∙ is)) ∙ under)
        | inr old ↦
            let w : Was r.views i v = was r.views e.views e.who e.before e.after e.at e.others calm i v at in
            let who : i ≡ e.who = a.apart i e.who w.view e.before c.client w.at e.at (w.calm.holds c.client holds) mine in
            let one : v ≡ e.before = some_is v e.before (sym old ∙ ap r.views who ∙ e.at) in
            no_some d.client (sym unopened ∙ ap (λ (x : View). x.opening) (sym one) ∙ under)
      ]) a

  -- ---- a requester is made anew

  renewed_keep : (r : Requests Who) (who : Who) (views : Who → Option View) →
      AreSeenBut r.views views who fresh_view → CallsAreApart r →
      CallsAreApart (record r { views = views })
  renewed_keep r who views others a =
      let none : (v : View) (challenge : List ℕ) → v ≡ fresh_view → Holds v challenge → ⊥ =
      λ v challenge same holds. fresh_holds challenge (subst (λ (x : View). Holds x challenge) same holds) in
      record {
        made_before = a.made_before;
        held_before = λ i v challenge at holds. elim (others i v at) [
          | inl here ↦ absurd (none v challenge here.1 holds)
          | inr before ↦ a.held_before i v challenge before holds
        ];
        apart = λ i j u v challenge at also holds too. elim (others i u at) [
          | inl here ↦ absurd (none u challenge here.1 holds)
          | inr before ↦ elim (others j v also) [
            | inl there ↦ absurd (none v challenge there.1 too)
            | inr more ↦ a.apart i j u v challenge before more holds too
          ]
        ];
        opening = λ i v unit number timestamp c at under made. elim (others i v at) [
          | inl here ↦ none v c.client here.1 (record { how = inl under })
          | inr before ↦ a.opening i v unit number timestamp c before under made
        ];
        numbers = λ i v unit number c at holds made. elim (others i v at) [
          | inl here ↦ absurd (none v c.client here.1 holds)
          | inr before ↦ a.numbers i v unit number c before holds made
        ];
        distinct = a.distinct;
        calls = λ i v at. elim (others i v at) [
          | inl here ↦ omega (arith, ap (λ (x : View). x.call) here.1)
          | inr before ↦ a.calls i v before
        ];
      }

  -- ---- a draw, and any other unit

  draws_keep : (r : Requests Who) (challenge : List ℕ) → CallsAreApart r → CallsAreApart (record r { drawn = r.drawn ++ challenge ∷ [] })
  draws_keep r challenge a = record {
    made_before = λ unit number c made. one_more (λ (one : List ℕ). one ≡ c.client) r.drawn challenge (a.made_before unit number c made);
    held_before = λ i v held at holds. one_more (λ (one : List ℕ). one ≡ held) r.drawn challenge (a.held_before i v held at holds);
    apart = a.apart;
    opening = a.opening;
    numbers = a.numbers;
    distinct = a.distinct;
    calls = a.calls;
  }

  unit_keeps : (r : Requests Who) (mark : Mark) → IsNoRequest mark → CallsAreApart r → CallsAreApart (record r { marks = r.marks ++ mark ∷ [] })
  unit_keeps r mark none a = record {
    made_before = λ unit number c made. a.made_before unit number c (was_asked r.marks mark unit number c none made);
    held_before = a.held_before;
    apart = a.apart;
    opening = λ i v unit number timestamp c at under made. a.opening i v unit number timestamp c at under (was_made r.marks mark unit number timestamp c none made);
    numbers = λ i v unit number c at holds made. a.numbers i v unit number c at holds (was_asked r.marks mark unit number c none made);
    distinct = λ unit other number c d made also same.
        a.distinct unit other number c d (was_asked r.marks mark unit number c none made) (was_asked r.marks mark other number d none also) same;
    calls = a.calls;
  }

  pub calls_stay_apart : CallsStayApart Who
  calls_stay_apart = record {
    calm = calm_keeps;
    begins = begins_keep;
    opens = opens_keep;
    calls = calls_keep;
    renewed = renewed_keep;
    draws = draws_keep;
    unit = unit_keeps;
  }
