-- A requester that replaces its secret, and the controller that keeps its channel, stay together through each thing
-- that happens. It serves `secrets_stay_together`.
use Rattle.std.proofs.Common.{◌≡◌, ◌≢◌, ◌⊎◌, ℕ, true, List, [], ◌∷◌, ◌++◌, length, inl, inr, Option, Some, None, slice_get, refl, sym, ap, subst, ◌∙◌}
use Rattle.std.specs.List.{AllByRecursion}
use Rattle.authenticators.specs.Channels.{ChannelIdentity, SameChannel}
use Rattle.secret_change.specs.Agreement.{Holds as HoldsSecret}
use Rattle.secret_change.specs.Secrets.{SecretsState, next_of, tried_of}
use Rattle.channel_client.specs.Effects.{View}
use Rattle.channel_events.specs.AcceptedOrder.{Accepted, AreInOrder, BeginsAnew, HasOwn, IsAcceptedIn, IsCalled, IsLast, IsOf}
use Rattle.channel_events.specs.Marks.{Mark, Calling}
use Rattle.channel_events.specs.Requests.{CallsAreApart, Holds, Requests}
use Rattle.channel_events.specs.SecretOrder.{AreTogether, AskAlike, HasSecret, IsIn, OpensNoMore, OpensTried, OthersPassed, Sides, StayTogether, Takes}
use Rattle.channel_events.proofs.AcceptedOrderLaws.{fresh_none, last_so, of_same, uncalled}
use Rattle.wire_base.proofs.ListLaws.{at_end, no_some, one_found, one_weaker, some_is}
use Rattle.channel_events.proofs.SameLaws.{same_back, same_self}

-- ---- openings

own_of : (controller : ℕ) (computer : List ℕ) (c : ChannelIdentity) (accepted : List Accepted) → IsOf controller computer c → IsAcceptedIn accepted c →
    HasOwn controller computer c.client accepted
own_of controller computer c accepted of is =
    one_weaker (λ (one : Accepted). (one.in_unit ≡ true) × SameChannel c one.channel)
    (λ (one : Accepted). (one.in_unit ≡ true) × (one.channel.client ≡ c.client) × IsOf controller computer one.channel) accepted
    (λ one its. (its.0, sym its.1.client, of_same controller computer c one.channel its.1 of)) is

-- where no such opening was accepted
none_own : (controller : ℕ) (computer challenge secret : List ℕ) (accepted : List Accepted) → (HasOwn controller computer challenge accepted → ⊥) →
    AllByRecursion (HasSecret controller computer challenge secret) accepted
none_own controller computer challenge secret [] none = tt
none_own controller computer challenge secret (one ∷ older) none = (
  λ came client of. absurd (none (inl (came, client, of))),
  none_own controller computer challenge secret older (λ own. none (inr own)),
)

called_kept : (marks : List Mark) (unit number timestamp : ℕ) (c kept : ChannelIdentity) → slice_get marks unit ≡ Some (Calling c number timestamp) → SameChannel c kept → IsCalled marks kept
called_kept marks unit number timestamp c kept there same = record { unit = unit; named = c; number = number; timestamp = timestamp; there = there; same = same }

units_same : (unit other : ℕ) (units : List ℕ) → unit ≡ other → IsIn unit units → IsIn other units
units_same unit other units same is = subst (λ (n : ℕ). IsIn n units) same is

module _ {Who : Type 0} (r : Requests Who) (who : Who) (controller : ℕ) (computer : List ℕ) (accepted : List Accepted) (s : Sides) where
  abbrev Together : Type 0
  Together = AreTogether r who controller computer accepted s

  abbrev Order : Type 0
  Order = AreInOrder r who controller computer accepted

  -- the challenge of the channel that is kept, on which a call was made, is the one that the requester holds
  kept_challenge : Together → Order → (v : View) (challenge : List ℕ) → r.views who ≡ Some v → Holds v challenge → HasOwn controller computer challenge accepted → (unit number timestamp : ℕ)
      (c kept : ChannelIdentity) → slice_get r.marks unit ≡ Some (Calling c number timestamp) → s.keeps ≡ Some kept → SameChannel c kept → c.client ≡ challenge
  kept_challenge together order v challenge at holds own unit number timestamp c kept there keeps same =
      same.client
      ∙ last_so r.marks controller computer challenge kept accepted (order.behind v challenge at holds) own (together.kept kept keeps).1
      (called_kept r.marks unit number timestamp c kept there same)

  -- a call on it isn't one of a channel that is only being opened
  none_opening : CallsAreApart r → Together → Order → (v : View) (challenge : List ℕ) → r.views who ≡ Some v → v.opening ≡ Some challenge → HasOwn controller computer challenge accepted →
      (unit number timestamp : ℕ) (c kept : ChannelIdentity) → slice_get r.marks unit ≡ Some (Calling c number timestamp) → s.keeps ≡ Some kept → SameChannel c kept → ⊥
  none_opening apart together order v challenge at opening own unit number timestamp c kept there keeps same =
      let client : c.client ≡ challenge = kept_challenge together order v challenge at (record { how = inl opening }) own unit number timestamp c kept there keeps same in
      apart.opening who v unit number timestamp c at (opening ∙ ap Some (sym client)) there

  -- by the channel that stands
  on_standing : Together → Order → (out : Option ℕ) (others : OthersPassed r who controller computer s out) → (unit number timestamp : ℕ) (c kept : ChannelIdentity) →
      slice_get r.marks unit ≡ Some (Calling c number timestamp) → s.keeps ≡ Some kept → SameChannel c kept → (out ≡ Some unit) ⊎ IsIn unit s.passed
  on_standing together order out others unit number timestamp c kept there keeps same =
      others.passed unit number timestamp c there
      (kept_challenge together order others.view others.channel.client others.at (record { how = inr (others.channel, others.stands, refl) })
      (own_of controller computer others.channel accepted others.of (order.stands who others.view others.channel others.at others.stands)) unit number timestamp c kept there keeps same)

  -- ---- at the controller

  accepts_so : (one : Accepted) → IsOf controller computer one.channel → AllByRecursion (λ (other : Accepted). other.channel.server ≢ one.channel.server) accepted →
      (one.in_unit ≡ true → one.channel.secret ≡ s.hash) → Order → Together → AreTogether r who controller computer (one ∷ accepted) (record s { keeps = Some one.channel })
  accepts_so one of unused secret order together = record {
    among = together.among;
    kept = λ c is.
        subst (λ (x : ChannelIdentity). IsOf controller computer x × IsLast controller computer x (one ∷ accepted)) (some_is one.channel c is)
        (of, inl (of, same_self one.channel));
    taken = together.taken;
    sets = λ unit number timestamp c kept asked there asks keeps same.
        absurd (uncalled r.marks accepted one.channel unused order.called
        (subst (IsCalled r.marks) (sym (some_is one.channel kept keeps)) (called_kept r.marks unit number timestamp c kept there same)));
    opens = λ v challenge at opening. ((λ came client own. secret came), together.opens v challenge at opening);
    asked = together.asked;
  }

  elsewhere_so : (one : Accepted) → (IsOf controller computer one.channel → ⊥) → Together → AreTogether r who controller computer (one ∷ accepted) s
  elsewhere_so one other together = record {
    among = together.among;
    kept = λ c is. let its = together.kept c is in (its.0, inr (other, its.1));
    taken = together.taken;
    sets = together.sets;
    opens = λ v challenge at opening. ((λ came client of. absurd (other of)), together.opens v challenge at opening);
    asked = together.asked;
  }

  forgets_so : Together → AreTogether r who controller computer accepted (record s { keeps = None })
  forgets_so together = record {
    among = together.among;
    kept = λ c is. absurd (no_some c is);
    taken = together.taken;
    sets = λ unit number timestamp c kept secret there asks keeps same. absurd (no_some kept keeps);
    opens = together.opens;
    asked = together.asked;
  }

  passes_so : (unit : ℕ) → Together → AreTogether r who controller computer accepted (record s { passed = unit ∷ s.passed })
  passes_so unit together = record {
    among = together.among;
    kept = together.kept;
    taken = λ one is. inr (together.taken one is);
    sets = λ one number timestamp c kept secret there asks keeps same. elim (together.sets one number timestamp c kept secret there asks keeps same) [
      | inl passed ↦ inl (inr passed)
      | inr holds ↦ inr holds
    ];
    opens = together.opens;
    asked = together.asked;
  }

  -- a call by which a secret was taken isn't out while another one passes
  taken_once : (unit : ℕ) (secret : List ℕ) (t : Takes r who controller computer s unit secret) → Order → Together → (out : ℕ) → s.out ≡ Some out → IsIn out s.took → ⊥
  taken_once unit secret t order together out is took =
      elim (on_standing together order (Some out) (t.others out is) unit t.number t.timestamp t.channel t.kept t.mark t.keeps t.same) [
        | inl that ↦ t.once (units_same out unit s.passed (some_is out unit that) (together.taken out took))
        | inr passed ↦ t.once passed
      ]

  takes_so : (unit : ℕ) (secret : List ℕ) → Takes r who controller computer s unit secret → CallsAreApart r → Order → Together →
      AreTogether r who controller computer accepted (record s { hash = secret; passed = unit ∷ s.passed; took = unit ∷ s.took })
  takes_so unit secret t apart order together = record {
    among = elim (together.sets unit t.number t.timestamp t.channel t.kept secret t.mark t.asks t.keeps t.same) [
      | inl passed ↦ absurd (t.once passed)
      | inr holds ↦ holds
    ];
    kept = together.kept;
    taken = λ one is. elim is [ inl same ↦ inl same | inr later ↦ inr (together.taken one later) ];
    sets = λ one number timestamp c kept asked there asks keeps same. elim (together.sets one number timestamp c kept asked there asks keeps same) [
      | inl passed ↦ inl (inr passed)
      | inr holds ↦ inr holds
    ];
    opens = λ v challenge at opening.
        none_own controller computer challenge secret accepted
        (λ own. none_opening apart together order v challenge at opening own unit t.number t.timestamp t.channel t.kept t.mark t.keeps t.same);
    asked = λ out is. (
      (together.asked out is).0,
      λ took. elim took [
        | inl same ↦ sym (together.asked out is).0 ∙ ap s.asks (sym same) ∙ t.asks
        | inr earlier ↦ absurd (taken_once unit secret t order together out is earlier)
      ],
    );
  }

  -- ---- at the requester

  goes_on_so : (views : Who → Option View) (held : SecretsState) (out : Option ℕ) → OpensNoMore r.views views who → ((secret : List ℕ) → HoldsSecret secret s.held → HoldsSecret secret held) →
      ((unit : ℕ) → out ≡ Some unit → (s.out ≡ Some unit) × (next_of held ≡ next_of s.held)) → Together →
      AreTogether (record r { views = views }) who controller computer accepted (record s { held = held; out = out })
  goes_on_so views held out less keeps still together = record {
    among = keeps s.hash together.among;
    kept = together.kept;
    taken = together.taken;
    sets = λ unit number timestamp c kept secret there asks keeping same. elim (together.sets unit number timestamp c kept secret there asks keeping same) [
      | inl passed ↦ inl passed
      | inr holds ↦ inr (keeps secret holds)
    ];
    opens = λ v challenge at opening. let before = less v challenge at opening in together.opens before.0 challenge before.1 before.2;
    asked = λ unit is.
        let was = still unit is in
        let old = together.asked unit was.0 in
        (old.0 ∙ sym was.1, λ took. was.1 ∙ old.1 took);
  }

  begins_so : (views : Who → Option View) (client : List ℕ) → BeginsAnew r views client → CallsAreApart r → Order → Together →
      AreTogether (record r { views = views }) who controller computer accepted s
  begins_so views client begins apart order together = record {
    among = together.among;
    kept = together.kept;
    taken = together.taken;
    sets = together.sets;
    opens = λ v challenge at opening. elim (begins.each who v at) [
      | inl new ↦
          subst (λ (d : List ℕ). AllByRecursion (HasSecret controller computer d s.hash) accepted) (sym (new.1 challenge (record { how = inl opening })))
          (none_own controller computer client s.hash accepted (fresh_none r who controller computer accepted client begins.fresh apart order))
      | inr was ↦ together.opens v challenge was opening
    ];
    asked = together.asked;
  }

  -- the secret that is tried is the hash
  tried_is : (o : OpensTried r who controller computer accepted s) → Together → tried_of s.held ≡ s.hash
  tried_is o together =
      let found = one_found (λ (one : Accepted). (one.in_unit ≡ true) × SameChannel o.channel one.channel) (HasSecret controller computer o.channel.client s.hash) accepted
      (together.opens o.view o.channel.client o.at o.opening) o.accepted_is in
      sym o.tried ∙ found.1.1.secret ∙ found.2 found.1.0 (sym found.1.1.client) (of_same controller computer o.channel found.0.channel found.1.1 o.of)

  opens_so : (views : Who → Option View) (held : SecretsState) (o : OpensTried r who controller computer accepted s) → ((v : View) → views who ≡ Some v → v.opening ≡ None) →
      (tried_of s.held ≡ s.hash → HoldsSecret s.hash held) → CallsAreApart r → Order → Together →
      AreTogether (record r { views = views }) who controller computer accepted (record s { held = held; out = None })
  opens_so views held o none keeps apart order together = record {
    among = keeps (tried_is o together);
    kept = together.kept;
    taken = together.taken;
    sets = λ unit number timestamp c kept secret there asks keeping same.
        absurd (none_opening apart together order o.view o.channel.client o.at o.opening (own_of controller computer o.channel accepted o.of o.accepted_is) unit number timestamp c kept
        there keeping same);
    opens = λ v challenge at opening. absurd (no_some challenge (sym (none v at) ∙ opening));
    asked = λ unit is. absurd (no_some unit is);
  }

  hears_so : (views : Who → Option View) (held : SecretsState) (unit : ℕ) → s.out ≡ Some unit → IsIn unit s.took → OthersPassed r who controller computer s (Some unit) →
      OpensNoMore r.views views who → (next_of s.held ≡ Some s.hash → HoldsSecret s.hash held) → Order → Together →
      AreTogether (record r { views = views }) who controller computer accepted (record s { held = held; out = None })
  hears_so views held unit out took others less keeps order together = record {
    among = keeps ((together.asked unit out).1 took);
    kept = together.kept;
    taken = together.taken;
    sets = λ one number timestamp c kept secret there asks keeping same.
        elim (on_standing together order (Some unit) others one number timestamp c kept there keeping same) [
          | inl that ↦ inl (units_same unit one s.passed (some_is unit one that) (together.taken unit took))
          | inr passed ↦ inl passed
        ];
    opens = λ v challenge at opening. let before = less v challenge at opening in together.opens before.0 challenge before.1 before.2;
    asked = λ one is. absurd (no_some one is);
  }

  -- ---- units

  -- a call that was there before
  set_before : (asks : ℕ → Option (List ℕ)) → AskAlike r.marks s.asks asks → Together → (unit number timestamp : ℕ) (c kept : ChannelIdentity) (secret : List ℕ) →
      slice_get r.marks unit ≡ Some (Calling c number timestamp) → asks unit ≡ Some secret → s.keeps ≡ Some kept → SameChannel c kept → IsIn unit s.passed ⊎ HoldsSecret secret s.held
  set_before asks alike together unit number timestamp c kept secret there asked keeps same =
      together.sets unit number timestamp c kept secret there (sym (alike unit (Calling c number timestamp) there) ∙ asked) keeps same

  sends_so : (c : ChannelIdentity) (number timestamp : ℕ) (asks : ℕ → Option (List ℕ)) → AskAlike r.marks s.asks asks → asks (length r.marks) ≡ next_of s.held →
      (IsIn (length r.marks) s.took → ⊥) → Together →
      AreTogether (record r { marks = r.marks ++ Calling c number timestamp ∷ [] }) who controller computer accepted (record s { asks = asks; out = Some (length r.marks) })
  sends_so c number timestamp asks alike next fresh together = record {
    among = together.among;
    kept = together.kept;
    taken = together.taken;
    sets = λ unit other later d kept secret there asked keeps same. elim (at_end r.marks (Calling c number timestamp) (Calling d other later) unit there) [
      | inl old ↦ set_before asks alike together unit other later d kept secret old asked keeps same
      | inr new ↦ inr (inr (sym next ∙ ap asks (sym new.0) ∙ asked))
    ];
    opens = together.opens;
    asked = λ unit is.
        subst (λ (n : ℕ). (asks n ≡ next_of s.held) × (IsIn n s.took → next_of s.held ≡ Some s.hash)) (some_is (length r.marks) unit is)
        (next, λ took. absurd (fresh took));
  }

  unit_so : (mark : Mark) (asks : ℕ → Option (List ℕ)) → AskAlike r.marks s.asks asks →
      ((c : ChannelIdentity) (number timestamp : ℕ) → mark ≡ Calling c number timestamp → (asks (length r.marks) ≡ None) ⊎ (IsOf controller computer c → ⊥)) →
      ((unit : ℕ) → s.out ≡ Some unit → (other : Mark) × (slice_get r.marks unit ≡ Some other)) → Together →
      AreTogether (record r { marks = r.marks ++ mark ∷ [] }) who controller computer accepted (record s { asks = asks })
  unit_so mark asks alike none there together = record {
    among = together.among;
    kept = together.kept;
    taken = together.taken;
    sets = λ unit number timestamp c kept secret found asked keeps same. elim (at_end r.marks mark (Calling c number timestamp) unit found) [
      | inl old ↦ set_before asks alike together unit number timestamp c kept secret old asked keeps same
      | inr new ↦ elim (none c number timestamp new.1) [
        | inl nothing ↦ absurd (no_some secret (sym nothing ∙ ap asks (sym new.0) ∙ asked))
        | inr other ↦ absurd (other (of_same controller computer kept c (same_back c kept same) (together.kept kept keeps).0))
      ]
    ];
    opens = together.opens;
    asked = λ unit is.
        let old = together.asked unit is in
        let its = there unit is in
        (alike unit its.0 its.1 ∙ old.0, old.1);
  }

-- nothing is kept, taken or out yet
first_so : {Who : Type 0} (r : Requests Who) (who : Who) (controller : ℕ) (computer : List ℕ) (s : Sides) → HoldsSecret s.hash s.held → s.keeps ≡ None → s.took ≡ [] → s.out ≡ None →
    AreTogether r who controller computer [] s
first_so r who controller computer s among keeps took out = record {
  among = among;
  kept = λ c is. absurd (no_some c (sym keeps ∙ is));
  taken = λ unit is. let none : IsIn unit [] = subst (λ (units : List ℕ). IsIn unit units) took is in absurd none;
  sets = λ unit number timestamp c kept secret there asks is same. absurd (no_some kept (sym keeps ∙ is));
  opens = λ v challenge at opening. tt;
  asked = λ unit is. absurd (no_some unit (sym out ∙ is));
}

pub stay_together : (Who : Type 0) → StayTogether Who
stay_together Who = record {
  first = λ r who controller computer s among keeps took out. first_so r who controller computer s among keeps took out;
  accepts = λ r who controller computer accepted s one of unused secret order together. accepts_so r who controller computer accepted s one of unused secret order together;
  elsewhere = λ r who controller computer accepted s one other together. elsewhere_so r who controller computer accepted s one other together;
  forgets = λ r who controller computer accepted s together. forgets_so r who controller computer accepted s together;
  passes = λ r who controller computer accepted s unit together. passes_so r who controller computer accepted s unit together;
  takes = λ r who controller computer accepted s unit secret t apart order together. takes_so r who controller computer accepted s unit secret t apart order together;
  goes_on = λ r who controller computer accepted s views held out less keeps still together.
      goes_on_so r who controller computer accepted s views held out less keeps still together;
  begins = λ r who controller computer accepted s views client begins apart order together.
      begins_so r who controller computer accepted s views client begins apart order together;
  opens = λ r who controller computer accepted s views held o none keeps apart order together.
      opens_so r who controller computer accepted s views held o none keeps apart order together;
  hears = λ r who controller computer accepted s views held unit out took others less keeps order together.
      hears_so r who controller computer accepted s views held unit out took others less keeps order together;
  sends = λ r who controller computer accepted s c number timestamp asks alike next fresh none together.
      sends_so r who controller computer accepted s c number timestamp asks alike next fresh together;
  unit = λ r who controller computer accepted s mark asks alike none there together. unit_so r who controller computer accepted s mark asks alike none there together;
}
