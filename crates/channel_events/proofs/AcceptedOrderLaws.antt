-- Channels are accepted in the order in which their requester opens them, through each event.
-- It serves `accepted_channels_stay_in_order`.
use Rattle.std.proofs.Common.{◌≡◌, ◌≢◌, ◌⊎◌, ℕ, true, List, [], ◌∷◌, ◌++◌, inl, inr, Option, Some, None, slice_get, refl, sym, ap, subst, ◌∙◌}
use Rattle.std.specs.List.{AllByRecursion}
use Rattle.authenticators.specs.Channels.{ChannelIdentity, SameChannel}
use Rattle.channel_client.specs.Effects.{View}
use Rattle.channel_events.specs.AcceptedOrder.{Accepted, AcceptedStayInOrder, AreInOrder, BeginsAnew, HasOwn, HoldNoMore, IsAcceptedIn, IsBehind, IsCalled, IsLast, IsMade, IsNoCall, IsOf}
use Rattle.channel_events.specs.Marks.{Mark, Calling, Opening}
use Rattle.channel_events.specs.Requests.{CallsAreApart, Holds, IsAsked, IsDrawn, Requests}
use Rattle.wire_base.proofs.ListLaws.{all_weaker, at_end, got_append, no_some, one_found, some_is}
use Rattle.channel_events.proofs.SameLaws.{same_back, same_on}

-- ---- what follows of what

pub of_same : (controller : ℕ) (computer : List ℕ) (c d : ChannelIdentity) → SameChannel c d → IsOf controller computer c → IsOf controller computer d
of_same controller computer c d same of = record { controller_is = sym same.controller ∙ of.controller_is; computer_is = sym same.computer ∙ of.computer_is }

called_same : (marks : List Mark) (c d : ChannelIdentity) → SameChannel c d → IsCalled marks c → IsCalled marks d
called_same marks c d same called =
    record { unit = called.unit; named = called.named; number = called.number; timestamp = called.timestamp; there = called.there; same = same_on called.named c d called.same same }

-- each later fact of calls was one before
pub behind_weaker : (marks later : List Mark) (controller : ℕ) (computer challenge : List ℕ) (accepted : List Accepted) →
    ((c : ChannelIdentity) → IsOf controller computer c → IsCalled later c → IsCalled marks c ⊎ (c.client ≡ challenge)) → IsBehind marks controller computer challenge accepted →
    IsBehind later controller computer challenge accepted
behind_weaker marks later controller computer challenge [] before behind = tt
behind_weaker marks later controller computer challenge (one ∷ older) before behind = (
  λ own of called. elim (before one.channel of called) [ inl was ↦ behind.0 own of was | inr is ↦ is ],
  behind_weaker marks later controller computer challenge older before behind.1,
)

-- where no such opening was accepted
none_behind : (marks : List Mark) (controller : ℕ) (computer challenge : List ℕ) (accepted : List Accepted) → (HasOwn controller computer challenge accepted → ⊥) →
    IsBehind marks controller computer challenge accepted
none_behind marks controller computer challenge [] none = tt
none_behind marks controller computer challenge (one ∷ older) none =
    ((λ own. absurd (none (inr own))), none_behind marks controller computer challenge older (λ own. none (inr own)))

-- the opening of one that was accepted was made
made_one : (marks : List Mark) (accepted : List Accepted) (controller : ℕ) (computer challenge : List ℕ) →
    AllByRecursion (λ (one : Accepted). one.in_unit ≡ true → IsMade marks one.channel) accepted → HasOwn controller computer challenge accepted →
    (c : ChannelIdentity) × IsMade marks c × (c.client ≡ challenge)
made_one marks [] controller computer challenge made own = absurd own
made_one marks (one ∷ older) controller computer challenge made (inl here) = (one.channel, made.0 here.0, here.1)
made_one marks (one ∷ older) controller computer challenge made (inr later) = made_one marks older controller computer challenge made.1 later

made_more : (marks : List Mark) (mark : Mark) (accepted : List Accepted) → AllByRecursion (λ (one : Accepted). one.in_unit ≡ true → IsMade marks one.channel) accepted →
    AllByRecursion (λ (one : Accepted). one.in_unit ≡ true → IsMade (marks ++ mark ∷ []) one.channel) accepted
made_more marks mark accepted made =
    all_weaker (λ (one : Accepted). one.in_unit ≡ true → IsMade marks one.channel) (λ (one : Accepted). one.in_unit ≡ true → IsMade (marks ++ mark ∷ []) one.channel) accepted
    (λ one was came.
    let its : IsMade marks one.channel = was came in
    record { unit = its.unit; named = its.named; number = its.number; there = got_append marks (mark ∷ []) its.unit (Opening its.named its.number) its.there; same = its.same }) made

-- ---- an opening that is accepted

-- the channel of a server's challenge that opened none has no call
pub uncalled : (marks : List Mark) (accepted : List Accepted) (c : ChannelIdentity) → AllByRecursion (λ (other : Accepted). other.channel.server ≢ c.server) accepted →
    ((unit number timestamp : ℕ) (d : ChannelIdentity) → slice_get marks unit ≡ Some (Calling d number timestamp) → IsAcceptedIn accepted d) → IsCalled marks c → ⊥
uncalled marks accepted c unused called is =
    let found = one_found (λ (one : Accepted). (one.in_unit ≡ true) × SameChannel is.named one.channel) (λ (other : Accepted). other.channel.server ≢ c.server) accepted unused
    (called is.unit is.number is.timestamp is.named is.there) in
    found.2 (sym found.1.1.server ∙ is.same.server)

module _ {Who : Type 0} (r : Requests Who) (who : Who) (controller : ℕ) (computer : List ℕ) (accepted : List Accepted) where
  accepts_so : (one : Accepted) → AllByRecursion (λ (other : Accepted). other.channel.server ≢ one.channel.server) accepted → (one.in_unit ≡ true → IsMade r.marks one.channel) →
      AreInOrder r who controller computer accepted → AreInOrder r who controller computer (one ∷ accepted)
  accepts_so one unused made order = record {
    called = λ unit number timestamp c there. inr (order.called unit number timestamp c there);
    stands = λ i v c at stands. inr (order.stands i v c at stands);
    made = (made, order.made);
    behind = λ v challenge at holds. (
      λ own of called. absurd (uncalled r.marks accepted one.channel unused order.called called),
      order.behind v challenge at holds,
    );
  }

  calm_so : (views : Who → Option View) → HoldNoMore r.views views accepted → AreInOrder r who controller computer accepted →
      AreInOrder (record r { views = views }) who controller computer accepted
  calm_so views less order = record {
    called = order.called;
    stands = λ i v c at stands.
        let before = less i v at in
        elim (before.3 c stands) [
          | inl was ↦ order.stands i before.0 c before.1 was
          | inr is ↦ is
        ];
    made = order.made;
    behind = λ v challenge at holds. let before = less who v at in order.behind before.0 challenge before.1 (before.2 challenge holds);
  }

  -- no opening with a challenge that wasn't drawn was made
  pub fresh_none : (client : List ℕ) → (IsDrawn client r.drawn → ⊥) → CallsAreApart r → AreInOrder r who controller computer accepted → HasOwn controller computer client accepted → ⊥
  fresh_none client fresh apart order own =
      let its = made_one r.marks accepted controller computer client order.made own in
      let made : IsMade r.marks its.0 = its.1 in
      let asked : IsAsked r.marks made.unit made.named made.number = record { mark = Opening made.named made.number; asks = (refl, refl); there = made.there } in
      fresh (subst (λ (challenge : List ℕ). IsDrawn challenge r.drawn) (made.same.client ∙ its.2) (apart.made_before made.unit made.number made.named asked))

  begins_so : (views : Who → Option View) (client : List ℕ) → BeginsAnew r views client → CallsAreApart r → AreInOrder r who controller computer accepted →
      AreInOrder (record r { views = views }) who controller computer accepted
  begins_so views client begins apart order = record {
    called = order.called;
    stands = λ i v c at stands. elim (begins.each i v at) [
      | inl new ↦ absurd (no_some c (sym new.0 ∙ stands))
      | inr was ↦ order.stands i v c was stands
    ];
    made = order.made;
    behind = λ v challenge at holds. elim (begins.each who v at) [
      | inl new ↦
          subst (λ (d : List ℕ). IsBehind r.marks controller computer d accepted) (sym (new.1 challenge holds))
          (none_behind r.marks controller computer client accepted (fresh_none client begins.fresh apart order))
      | inr was ↦ order.behind v challenge was holds
    ];
  }

  -- what a requester holds on whose channel a call is made
  holds_its : (u : View) (c : ChannelIdentity) (challenge : List ℕ) → u.stands ≡ Some c → u.opening ≡ None → Holds u challenge → c.client ≡ challenge
  holds_its u c challenge stands none holds = elim holds.how [
    | inl under ↦ absurd (no_some challenge (sym none ∙ under))
    | inr there ↦ ap (λ (x : ChannelIdentity). x.client) (some_is c there.0 (sym stands ∙ there.1)) ∙ there.2
  ]

  -- a call among one more
  called_before : (marks : List Mark) (mark : Mark) (d : ChannelIdentity) (is : IsCalled (marks ++ mark ∷ []) d) → IsCalled marks d ⊎ (mark ≡ Calling is.named is.number is.timestamp)
  called_before marks mark d is = elim (at_end marks mark (Calling is.named is.number is.timestamp) is.unit is.there) [
    | inl old ↦ inl (record { unit = is.unit; named = is.named; number = is.number; timestamp = is.timestamp; there = old; same = is.same })
    | inr new ↦ inr new.1
  ]

  one_named : (c d : ChannelIdentity) (number other timestamp later : ℕ) → Calling c number timestamp ≡ Calling d other later → c ≡ d
  one_named c d number other timestamp later is = cc

  calls_so : (i : Who) (u : View) (c : ChannelIdentity) (number timestamp : ℕ) → r.views i ≡ Some u → u.stands ≡ Some c → u.opening ≡ None →
      (i ≡ who) ⊎ (IsOf controller computer c → ⊥) → AreInOrder r who controller computer accepted →
      AreInOrder (record r { marks = r.marks ++ Calling c number timestamp ∷ [] }) who controller computer accepted
  calls_so i u c number timestamp at stands none own order = record {
    called = λ unit other later d there. elim (at_end r.marks (Calling c number timestamp) (Calling d other later) unit there) [
      | inl old ↦ order.called unit other later d old
      | inr new ↦ subst (IsAcceptedIn accepted) (one_named c d number other timestamp later new.1) (order.stands i u c at stands)
    ];
    stands = order.stands;
    made = made_more r.marks (Calling c number timestamp) accepted order.made;
    behind = λ v challenge there holds.
        behind_weaker r.marks (r.marks ++ Calling c number timestamp ∷ []) controller computer challenge accepted
        (λ d of is. elim (called_before r.marks (Calling c number timestamp) d is) [
          | inl old ↦ inl old
          | inr new ↦
              (let named : c ≡ is.named = one_named c is.named number is.number timestamp is.timestamp new in
              let same : SameChannel c d = subst (λ (x : ChannelIdentity). SameChannel x d) (sym named) is.same in
              elim own [
                | inl mine ↦
                    inr (sym same.client ∙ holds_its u c challenge stands none
                    (subst (λ (x : View). Holds x challenge) (some_is v u (sym there ∙ ap r.views (sym mine) ∙ at)) holds))
                | inr other ↦ absurd (other (of_same controller computer d c (same_back c d same) of))
              ])
        ]) (order.behind v challenge there holds);
  }

  unit_so : (mark : Mark) → IsNoCall mark → AreInOrder r who controller computer accepted → AreInOrder (record r { marks = r.marks ++ mark ∷ [] }) who controller computer accepted
  unit_so mark none order = record {
    called = λ unit number timestamp c there. elim (at_end r.marks mark (Calling c number timestamp) unit there) [
      | inl old ↦ order.called unit number timestamp c old
      | inr new ↦ absurd (none c number timestamp new.1)
    ];
    stands = order.stands;
    made = made_more r.marks mark accepted order.made;
    behind = λ v challenge there holds.
        behind_weaker r.marks (r.marks ++ mark ∷ []) controller computer challenge accepted
        (λ d of is. elim (called_before r.marks mark d is) [ inl old ↦ inl old | inr new ↦ absurd (none is.named is.number is.timestamp new) ])
        (order.behind v challenge there holds);
  }

-- ---- what is kept

pub last_so : (marks : List Mark) (controller : ℕ) (computer challenge : List ℕ) (c : ChannelIdentity) (accepted : List Accepted) → IsBehind marks controller computer challenge accepted →
    HasOwn controller computer challenge accepted → IsLast controller computer c accepted → IsCalled marks c → c.client ≡ challenge
last_so marks controller computer challenge c [] behind own last called = absurd own
last_so marks controller computer challenge c (one ∷ older) behind (inl here) (inl last) called = sym last.1.client ∙ here.1
last_so marks controller computer challenge c (one ∷ older) behind (inl here) (inr last) called = absurd (last.0 here.2)
last_so marks controller computer challenge c (one ∷ older) behind (inr own) (inl last) called =
    sym last.1.client ∙ behind.0 own last.0 (called_same marks c one.channel (same_back one.channel c last.1) called)
last_so marks controller computer challenge c (one ∷ older) behind (inr own) (inr last) called = last_so marks controller computer challenge c older behind.1 own last.1 called

pub stay_in_order : (Who : Type 0) → AcceptedStayInOrder Who
stay_in_order Who = record {
  first = λ r who controller computer calls stands. record {
    called = λ unit number timestamp c there. absurd (calls unit number timestamp c there);
    stands = λ i v c at is. absurd (stands i v c at is);
    made = tt;
    behind = λ v challenge at holds. tt;
  };
  accepts = λ r who controller computer accepted one unused made order. accepts_so r who controller computer accepted one unused made order;
  calm = λ r who controller computer accepted views less order. calm_so r who controller computer accepted views less order;
  begins = λ r who controller computer accepted views client begins apart order. begins_so r who controller computer accepted views client begins apart order;
  calls = λ r who controller computer accepted i u c number timestamp at stands none own order.
      calls_so r who controller computer accepted i u c number timestamp at stands none own order;
  unit = λ r who controller computer accepted mark none order. unit_so r who controller computer accepted mark none order;
  last = λ r who controller computer accepted v challenge c order at holds own last called.
      last_so r.marks controller computer challenge c accepted (order.behind v challenge at holds) own last called;
}
