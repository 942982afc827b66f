-- The openings and the calls that were made on secure channels, and what those hold who make them, of any run whose
-- draws differ, also one in which a credential passed on a unit made for another channel (MS-NRPC 3.1.4.1, 3.1.4.5). It
-- names no machine and no controller. So no two requests on a channel have one number, and an answer is to one of them.
use Rattle.std.specs.Prelude.{ℕ, ◌≡◌, ◌+◌, ◌<◌, ◌≤◌, ◌^◌, ◌⊎◌, List, [], ◌∷◌, ◌++◌, Option, Some, None, slice_get}
use Rattle.authenticators.specs.Channels.{ChannelIdentity}
use Rattle.channel_client.specs.Effects.{Changes, Effect, Stays, Counts, Begins, Opens, Moves, Calls, Answers, Drops, View}
use Rattle.wire_base.specs.Lists.{OneOf}
use Rattle.channel_events.specs.Marks.{Mark, Calling, Opening}

-- a requester that has used no number and holds nothing
abbrev pub fresh_view : View
fresh_view = record { stands = None; seed = None; opening = None; asking = None; call = 1 }

-- a requester holds that challenge: of an opening that is under way, or of the channel that stands
pub record Holds (v : View) (challenge : List ℕ) : Type 0 where
  pub how : (v.opening ≡ Some challenge) ⊎ ((c : ChannelIdentity) × (v.stands ≡ Some c) × (c.client ≡ challenge))

pub record Requests (Who : Type 0) : Type 0 where
  -- each requester, as it is seen; None where there is none of that name
  pub views : Who → Option View
  -- what each unit of the bag was made for
  pub marks : List Mark
  -- the challenges that were drawn, in order
  pub drawn : List (List ℕ)
  -- how often a requester used a number for a bind or a request, or more
  pub uses : ℕ

-- that challenge was drawn
abbrev pub IsDrawn : List ℕ → List (List ℕ) → Type 0
IsDrawn challenge drawn = OneOf (λ (one : List ℕ). one ≡ challenge) drawn

-- what was made for the channel as a request of that number: as its opening, or as a call on it
abbrev pub IsRequest : ChannelIdentity → ℕ → Mark → Type 0
IsRequest c number (Opening d other) = (d ≡ c) × (other ≡ number)
IsRequest c number (Calling d other timestamp) = (d ≡ c) × (other ≡ number)
IsRequest c number _ = ⊥

-- the unit of that place was made for the channel as a request of that number
pub record IsAsked (marks : List Mark) (unit : ℕ) (c : ChannelIdentity) (number : ℕ) : Type 0 where
  pub mark : Mark
  pub asks : IsRequest c number mark
  pub there : slice_get marks unit ≡ Some mark

pub record CallsAreApart {Who : Type 0} (r : Requests Who) : Type 0 where
  -- a request was made for a channel whose client's challenge was drawn, and so was each challenge that a requester
  -- holds
  pub made_before : (unit number : ℕ) (c : ChannelIdentity) → IsAsked r.marks unit c number → IsDrawn c.client r.drawn
  pub held_before : (i : Who) (v : View) (challenge : List ℕ) → r.views i ≡ Some v → Holds v challenge → IsDrawn challenge r.drawn
  -- no two requesters hold one
  pub apart : (i j : Who) (u v : View) (challenge : List ℕ) → r.views i ≡ Some u → r.views j ≡ Some v → Holds u challenge → Holds v challenge → i ≡ j
  -- for a channel that is only being opened no call was made yet
  pub opening : (i : Who) (v : View) (unit number timestamp : ℕ) (c : ChannelIdentity) → r.views i ≡ Some v → v.opening ≡ Some c.client →
      slice_get r.marks unit ≡ Some (Calling c number timestamp) → ⊥
  -- a request made with a challenge that a requester holds has a number below its next one
  pub numbers : (i : Who) (v : View) (unit number : ℕ) (c : ChannelIdentity) → r.views i ≡ Some v → Holds v c.client → IsAsked r.marks unit c number →
      number < v.call
  -- the requests made with a client's challenge have different numbers, openings and calls alike
  pub distinct : (unit other number : ℕ) (c d : ChannelIdentity) → IsAsked r.marks unit c number → IsAsked r.marks other d number → c.client ≡ d.client →
      unit ≡ other
  -- a requester's next number is at most one above the count of uses: so no number comes round within a run
  pub calls : (i : Who) (v : View) → r.views i ≡ Some v → v.call ≤ r.uses + 1

-- ---- what happens

-- each requester is seen as before, but for `who`, which is seen as `view` where it is seen
abbrev pub AreSeenBut : {Who : Type 0} → (Who → Option View) → (Who → Option View) → (who : Who) (view : View) → Type 0
AreSeenBut {Who} old new who view = (j : Who) (v : View) → new j ≡ Some v → ((j ≡ who) × (v ≡ view)) ⊎ (old j ≡ Some v)

-- nothing of what a call rests on is new, whatever the effect, but that an opening begins and that a call goes out
abbrev pub IsCalm : Effect → Type 0
IsCalm Stays = Unit {0}
IsCalm Counts = Unit {0}
IsCalm (Begins client) = ⊥
IsCalm (Opens c) = Unit {0}
IsCalm (Moves c timestamp) = Unit {0}
IsCalm (Calls c number) = ⊥
IsCalm (Answers c number) = Unit {0}
IsCalm Drops = Unit {0}

-- how many numbers the step uses, for a bind or a request
abbrev pub used_by : Effect → ℕ
used_by Stays = 0
used_by Counts = 1
used_by (Begins client) = 1
used_by (Opens c) = 0
used_by (Moves c timestamp) = 1
used_by (Calls c number) = 1
used_by (Answers c number) = 0
used_by Drops = 0

-- a unit that opens no channel and is no call
abbrev pub IsNoRequest : Mark → Type 0
IsNoRequest (Opening c number) = ⊥
IsNoRequest (Calling c number timestamp) = ⊥
IsNoRequest _ = Unit {0}

-- a step of a requester; no number comes round
pub record Steps {Who : Type 0} (r : Requests Who) (effect : Effect) : Type 0 where
  pub who : Who
  pub before : View
  pub after : View
  pub views : Who → Option View
  pub at : r.views who ≡ Some before
  pub now : views who ≡ Some after
  pub others : AreSeenBut r.views views who after
  pub change : Changes effect before after
  pub few : r.uses + 2 < 2 ^ 32

abbrev pub after_step : {Who : Type 0} → (r : Requests Who) → Effect → (Who → Option View) → Requests Who
after_step r effect views = record r { views = views; uses = r.uses + used_by effect }

-- The facts stay true through each event: a step of a requester that is calm, one that begins an opening with a
-- challenge that is drawn then, one by which the opening that is under way goes out, one by which a call does, a
-- requester that is made anew or seen no more, a draw, and any other unit.
pub record CallsStayApart (Who : Type 0) : Type 0 where
  pub calm : (r : Requests Who) (effect : Effect) (e : Steps r effect) → IsCalm effect → CallsAreApart r → CallsAreApart (after_step r effect e.views)
  pub begins : (r : Requests Who) (client : List ℕ) (e : Steps r (Begins client)) → (IsDrawn client r.drawn → ⊥) → CallsAreApart r →
      CallsAreApart (after_step (record r { drawn = r.drawn ++ client ∷ [] }) (Begins client) e.views)
  pub opens : (r : Requests Who) (c : ChannelIdentity) (e : Steps r Counts) → e.before.opening ≡ Some c.client → CallsAreApart r →
      CallsAreApart (after_step (record r { marks = r.marks ++ Opening c e.before.call ∷ [] }) Counts e.views)
  pub calls : (r : Requests Who) (c : ChannelIdentity) (number timestamp : ℕ) (e : Steps r (Calls c number)) → CallsAreApart r →
      CallsAreApart (after_step (record r { marks = r.marks ++ Calling c number timestamp ∷ [] }) (Calls c number) e.views)
  pub renewed : (r : Requests Who) (who : Who) (views : Who → Option View) → AreSeenBut r.views views who fresh_view → CallsAreApart r →
      CallsAreApart (record r { views = views })
  pub draws : (r : Requests Who) (challenge : List ℕ) → CallsAreApart r → CallsAreApart (record r { drawn = r.drawn ++ challenge ∷ [] })
  pub unit : (r : Requests Who) (mark : Mark) → IsNoRequest mark → CallsAreApart r → CallsAreApart (record r { marks = r.marks ++ mark ∷ [] })
