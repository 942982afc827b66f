-- In which order openings of secure channels are accepted, beside the calls that are made on the channels: a channel
-- that was replaced has no call later, and one that is opened or stands is behind no other on which one of its computer
-- made calls (MS-NRPC 3.1.4.1, 3.1.4.5; how it is said is this project's own choice). It names no machine and no
-- controller.
use Rattle.std.specs.Prelude.{ℕ, ◌≡◌, ◌≢◌, ◌⊎◌, ◌++◌, Bool, true, List, [], ◌∷◌, Option, Some, None, slice_get}
use Rattle.std.specs.List.{AllByRecursion}
use Rattle.wire_base.specs.Names.{SameName}
use Rattle.authenticators.specs.Channels.{ChannelIdentity, SameChannel}
use Rattle.channel_client.specs.Effects.{View}
use Rattle.wire_base.specs.Lists.{OneOf}
use Rattle.channel_events.specs.Marks.{Mark, Calling, Opening}
use Rattle.channel_events.specs.Requests.{CallsAreApart, Holds, IsDrawn, Requests}

-- an opening that was accepted: its channel, and whether its call came in a unit that was made for a channel
pub record Accepted : Type 0 where
  pub channel : ChannelIdentity
  pub in_unit : Bool

-- the channel is one of that computer with that controller
pub record IsOf (controller : ℕ) (computer : List ℕ) (c : ChannelIdentity) : Type 0 where
  pub controller_is : c.controller ≡ controller
  pub computer_is : SameName c.computer computer

-- a call was made on the channel
pub record IsCalled (marks : List Mark) (c : ChannelIdentity) : Type 0 where
  pub unit : ℕ
  pub named : ChannelIdentity
  pub number : ℕ
  pub timestamp : ℕ
  pub there : slice_get marks unit ≡ Some (Calling named number timestamp)
  pub same : SameChannel named c

-- the channel was accepted, by a call in a unit
abbrev pub IsAcceptedIn : List Accepted → ChannelIdentity → Type 0
IsAcceptedIn accepted c = OneOf (λ (one : Accepted). (one.in_unit ≡ true) × SameChannel c one.channel) accepted

-- the opening was made in a unit
pub record IsMade (marks : List Mark) (c : ChannelIdentity) : Type 0 where
  pub unit : ℕ
  pub named : ChannelIdentity
  pub number : ℕ
  pub there : slice_get marks unit ≡ Some (Opening named number)
  pub same : SameChannel named c

-- ---- what is behind which, the newest first

-- an opening of that computer, with that challenge of the client, which came in a unit, is among them
abbrev pub HasOwn : ℕ → List ℕ → List ℕ → List Accepted → Type 0
HasOwn controller computer challenge accepted =
    OneOf (λ (one : Accepted). (one.in_unit ≡ true) × (one.channel.client ≡ challenge) × IsOf controller computer one.channel) accepted

-- a call on the channel, if it is one of that computer, was made with that challenge of the client
abbrev pub IsCalledBy : List Mark → ℕ → List ℕ → List ℕ → ChannelIdentity → Type 0
IsCalledBy marks controller computer challenge c = IsOf controller computer c → IsCalled marks c → c.client ≡ challenge

-- calls on the computer's channels that were accepted behind an opening with `challenge` were made with that challenge
abbrev pub IsBehind : List Mark → (controller : ℕ) (computer challenge : List ℕ) → List Accepted → Type 0
IsBehind marks controller computer challenge [] = Unit {0}
IsBehind marks controller computer challenge (one ∷ older) =
    (HasOwn controller computer challenge older → IsCalledBy marks controller computer challenge one.channel) × IsBehind marks controller computer challenge older

-- the channel is the one that was accepted last for that computer
abbrev pub IsLast : ℕ → List ℕ → ChannelIdentity → List Accepted → Type 0
IsLast controller computer c [] = ⊥
IsLast controller computer c (one ∷ older) =
    (IsOf controller computer one.channel × SameChannel one.channel c) ⊎ ((IsOf controller computer one.channel → ⊥) × IsLast controller computer c older)

-- ---- what holds

-- Of the requester `who`, which alone asks as that computer with that controller.
pub record AreInOrder {Who : Type 0} (r : Requests Who) (who : Who) (controller : ℕ) (computer : List ℕ) (accepted : List Accepted) : Type 0 where
  -- each channel on which a call was made, and each that stands, was accepted
  pub called : (unit number timestamp : ℕ) (c : ChannelIdentity) → slice_get r.marks unit ≡ Some (Calling c number timestamp) → IsAcceptedIn accepted c
  pub stands : (i : Who) (v : View) (c : ChannelIdentity) → r.views i ≡ Some v → v.stands ≡ Some c → IsAcceptedIn accepted c
  -- an opening that came in a unit was made in one
  pub made : AllByRecursion (λ (one : Accepted). one.in_unit ≡ true → IsMade r.marks one.channel) accepted
  -- the channels of that computer that were accepted after the one that the requester opens, or that stands at it, have
  -- no other calls than its own
  pub behind : (v : View) (challenge : List ℕ) → r.views who ≡ Some v → Holds v challenge → IsBehind r.marks controller computer challenge accepted

-- ---- what happens

-- No requester holds more than before, and a channel that stands stood before, or was accepted.
abbrev pub HoldNoMore : {Who : Type 0} → (old new : Who → Option View) → List Accepted → Type 0
HoldNoMore {Who} old new accepted =
    (i : Who) (v : View) → new i ≡ Some v → (u : View) × (old i ≡ Some u) × ((challenge : List ℕ) → Holds v challenge → Holds u challenge)
    × ((c : ChannelIdentity) → v.stands ≡ Some c → (u.stands ≡ Some c) ⊎ IsAcceptedIn accepted c)

-- One requester begins an opening with a challenge that wasn't drawn before, and the others stay.
pub record BeginsAnew {Who : Type 0} (r : Requests Who) (new : Who → Option View) (client : List ℕ) : Type 0 where
  pub fresh : IsDrawn client r.drawn → ⊥
  pub each : (i : Who) (v : View) → new i ≡ Some v → ((v.stands ≡ None) × ((challenge : List ℕ) → Holds v challenge → challenge ≡ client)) ⊎ (r.views i ≡ Some v)

-- a unit that is no call
abbrev pub IsNoCall : Mark → Type 0
IsNoCall mark = (c : ChannelIdentity) (number timestamp : ℕ) → mark ≡ Calling c number timestamp → ⊥

-- Openings and calls stay in order through each thing that happens: an opening that is accepted, whose server's
-- challenge opened none before; requesters that hold no more; one that begins an opening; one that calls on its
-- channel; and any other unit. So where a controller keeps the channel that was accepted last for the computer, and a
-- call was made on it, it has the challenge of the opening that the requester holds, if one with it was accepted.
pub record AcceptedStayInOrder (Who : Type 0) : Type 0 where
  -- at first nothing was accepted: no call was made, and no channel stands
  pub first : (r : Requests Who) (who : Who) (controller : ℕ) (computer : List ℕ) →
      ((unit number timestamp : ℕ) (c : ChannelIdentity) → slice_get r.marks unit ≡ Some (Calling c number timestamp) → ⊥) →
      ((i : Who) (v : View) (c : ChannelIdentity) → r.views i ≡ Some v → v.stands ≡ Some c → ⊥) → AreInOrder r who controller computer []
  pub accepts : (r : Requests Who) (who : Who) (controller : ℕ) (computer : List ℕ) (accepted : List Accepted) (one : Accepted) →
      AllByRecursion (λ (other : Accepted). other.channel.server ≢ one.channel.server) accepted → (one.in_unit ≡ true → IsMade r.marks one.channel) →
      AreInOrder r who controller computer accepted → AreInOrder r who controller computer (one ∷ accepted)
  pub calm : (r : Requests Who) (who : Who) (controller : ℕ) (computer : List ℕ) (accepted : List Accepted) (views : Who → Option View) → HoldNoMore r.views views accepted →
      AreInOrder r who controller computer accepted → AreInOrder (record r { views = views }) who controller computer accepted
  pub begins : (r : Requests Who) (who : Who) (controller : ℕ) (computer : List ℕ) (accepted : List Accepted) (views : Who → Option View) (client : List ℕ) → BeginsAnew r views client →
      CallsAreApart r → AreInOrder r who controller computer accepted → AreInOrder (record r { views = views }) who controller computer accepted
  pub calls : (r : Requests Who) (who : Who) (controller : ℕ) (computer : List ℕ) (accepted : List Accepted) (i : Who) (u : View) (c : ChannelIdentity) (number timestamp : ℕ) →
      r.views i ≡ Some u → u.stands ≡ Some c → u.opening ≡ None → (i ≡ who) ⊎ (IsOf controller computer c → ⊥) →
      AreInOrder r who controller computer accepted → AreInOrder (record r { marks = r.marks ++ Calling c number timestamp ∷ [] }) who controller computer accepted
  pub unit : (r : Requests Who) (who : Who) (controller : ℕ) (computer : List ℕ) (accepted : List Accepted) (mark : Mark) → IsNoCall mark →
      AreInOrder r who controller computer accepted → AreInOrder (record r { marks = r.marks ++ mark ∷ [] }) who controller computer accepted
  pub last : (r : Requests Who) (who : Who) (controller : ℕ) (computer : List ℕ) (accepted : List Accepted) (v : View) (challenge : List ℕ) (c : ChannelIdentity) →
      AreInOrder r who controller computer accepted → r.views who ≡ Some v → Holds v challenge → HasOwn controller computer challenge accepted →
      IsLast controller computer c accepted → IsCalled r.marks c → c.client ≡ challenge
