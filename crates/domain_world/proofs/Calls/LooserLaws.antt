-- Calls stay apart where less is known of them: fewer requesters are seen, fewer requests are written down, more
-- challenges were drawn and more numbers used. It serves `runs_stand_so`.
use Rattle.std.proofs.Common.{◌≡◌, ℕ, zero, suc, ◌≤◌, List, [], ◌∷◌, ◌++◌, inl, inr, Some, slice_get, refl, sym, ap, ◌∙◌, subst, arith}
use Rattle.std.specs.List.{AllByRecursion}
use Rattle.std.proofs.lemmas.List.{append_assoc}
use Rattle.authenticators.specs.Channels.{ChannelIdentity}
use Rattle.channel_client.specs.Effects.{View}
use Rattle.channel_events.specs.Marks.{Mark, Calling}
use Rattle.channel_events.specs.Requests.{CallsAreApart, IsAsked, IsDrawn, IsNoRequest, IsRequest, Requests}
use Rattle.wire_base.proofs.ListLaws.{got_append, got_nothing, some_is}
use Rattle.channel_events.proofs.RequestLaws.{no_request}
use Rattle.domain_world.specs.Accepting.SeenSteps.{IsPlaced, NoRequests}

-- what is known afterwards was known before
pub record IsLooser {Who : Type 0} (r t : Requests Who) : Type 0 where
  pub views : (j : Who) (v : View) → t.views j ≡ Some v → r.views j ≡ Some v
  pub marks : (unit number : ℕ) (c : ChannelIdentity) (mark : Mark) → IsRequest c number mark → slice_get t.marks unit ≡ Some mark → slice_get r.marks unit ≡ Some mark
  pub drawn : (challenge : List ℕ) → IsDrawn challenge r.drawn → IsDrawn challenge t.drawn
  pub uses : r.uses ≤ t.uses

-- a request was one before
asked_before : {Who : Type 0} (r t : Requests Who) → IsLooser r t → (unit number : ℕ) (c : ChannelIdentity) → IsAsked t.marks unit c number → IsAsked r.marks unit c number
asked_before r t is unit number c asked = record { mark = asked.mark; asks = asked.asks; there = is.marks unit number c asked.mark asked.asks asked.there }

-- calls that are apart are apart then
pub looser : {Who : Type 0} (r t : Requests Who) → IsLooser r t → CallsAreApart r → CallsAreApart t
looser r t is a = record {
  made_before = λ unit number c there. is.drawn c.client (a.made_before unit number c (asked_before r t is unit number c there));
  held_before = λ i v challenge at holds. is.drawn challenge (a.held_before i v challenge (is.views i v at) holds);
  apart = λ i j u v challenge at also holds too. a.apart i j u v challenge (is.views i u at) (is.views j v also) holds too;
  opening = λ i v unit number timestamp c at opening there. a.opening i v unit number timestamp c (is.views i v at) opening (is.marks unit number c (Calling c number timestamp) (refl, refl) there);
  numbers = λ i v unit number c at holds there. a.numbers i v unit number c (is.views i v at) holds (asked_before r t is unit number c there);
  distinct = λ unit other number c d there also same. a.distinct unit other number c d (asked_before r t is unit number c there) (asked_before r t is other number d also) same;
  calls = λ i v at. omega (arith, is.uses, a.calls i v (is.views i v at));
}

-- ---- draws

-- what was drawn stays drawn
pub drawn_before : (challenge : List ℕ) (drawn more : List (List ℕ)) → IsDrawn challenge drawn → IsDrawn challenge (drawn ++ more)
drawn_before challenge [] more is = absurd is
drawn_before challenge (first ∷ drawn) more is = elim is [ inl here ↦ inl here | inr later ↦ inr (drawn_before challenge drawn more later) ]

-- ---- marks

-- where each is none
pub no_requests : (marks : List Mark) → AllByRecursion IsNoRequest marks → NoRequests marks
no_requests [] all k number c mark asks there = got_nothing k mark there
no_requests (first ∷ marks) all zero number c mark asks there = no_request first number c all.0 (subst (IsRequest c number) (sym (some_is first mark there)) asks)
no_requests (first ∷ marks) all (suc k) number c mark asks there = no_requests marks all.1 k number c mark asks there

-- a request among those and these is among those
pub requests_before : (marks more : List Mark) → NoRequests more → (unit number : ℕ) (c : ChannelIdentity) (mark : Mark) → IsRequest c number mark → slice_get (marks ++ more) unit ≡ Some mark →
    slice_get marks unit ≡ Some mark
requests_before [] more none unit number c mark asks there = absurd (none unit number c mark asks there)
requests_before (first ∷ marks) more none zero number c mark asks there = there
requests_before (first ∷ marks) more none (suc unit) number c mark asks there = requests_before marks more none unit number c mark asks there

-- a call among marks and others, of which none is a request, is among the marks
pub calls_before : (marks more : List Mark) → NoRequests more → (unit number timestamp : ℕ) (c : ChannelIdentity) → slice_get (marks ++ more) unit ≡ Some (Calling c number timestamp) →
    slice_get marks unit ≡ Some (Calling c number timestamp)
calls_before marks more none unit number timestamp c there = requests_before marks more none unit number c (Calling c number timestamp) (refl, refl) there

-- ---- a request that is written down among others

-- with marks of which none is a request behind
pub more_marks : {Who : Type 0} (r : Requests Who) (more : List Mark) → NoRequests more → CallsAreApart r → CallsAreApart (record r { marks = r.marks ++ more })
more_marks r more none a =
    looser r (record r { marks = r.marks ++ more })
    (record { views = λ j v at. at; marks = requests_before r.marks more none; drawn = λ challenge is. is; uses = omega arith }) a

-- a request that was counted with isn't written down
pub fewer_marks : {Who : Type 0} (r : Requests Who) (mark : Mark) (more : List Mark) → NoRequests more → CallsAreApart (record r { marks = r.marks ++ mark ∷ [] }) →
    CallsAreApart (record r { marks = r.marks ++ more })
fewer_marks r mark more none a =
    looser (record r { marks = r.marks ++ mark ∷ [] }) (record r { marks = r.marks ++ more }) (record {
      views = λ j v at. at;
      marks = λ unit number c other asks there. got_append r.marks (mark ∷ []) unit other (requests_before r.marks more none unit number c other asks there);
      drawn = λ challenge is. is;
      uses = omega arith;
    }) a

pub placed_as : (marks more : List Mark) (mark : Mark) (is : IsPlaced more mark) → ((marks ++ is.front) ++ mark ∷ []) ++ is.rest ≡ marks ++ more
placed_as marks more mark is =
    append_assoc (marks ++ is.front) (mark ∷ []) is.rest ∙ append_assoc marks is.front (mark ∷ is.rest) ∙ ap (λ (all : List Mark). marks ++ all) (sym is.is)

-- one that was put behind others is written down among those
pub placed_marks : {Who : Type 0} (r : Requests Who) (more : List Mark) (mark : Mark) (is : IsPlaced more mark) → CallsAreApart (record r { marks = (r.marks ++ is.front) ++ mark ∷ [] }) →
    CallsAreApart (record r { marks = r.marks ++ more })
placed_marks r more mark is a =
    subst (λ (all : List Mark). CallsAreApart (record r { marks = all })) (placed_as r.marks more mark is)
    (more_marks (record r { marks = (r.marks ++ is.front) ++ mark ∷ [] }) is.rest is.behind a)
