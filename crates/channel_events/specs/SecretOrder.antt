-- A requester that replaces its secret, and the controller that keeps its channel: what holds of both, whatever happens
-- (MS-NRPC 3.5.4.4.6; how it is said is this project's own choice). It names no machine and no controller. So a secret
-- that the controller takes is one that the requester holds; a channel opens only under the secret that the controller
-- has; and the requester hears that its next secret was taken only where the controller has it.
use Rattle.std.specs.Prelude.{ℕ, ◌≡◌, ◌≢◌, ◌⊎◌, ◌++◌, true, List, [], ◌∷◌, length, Option, Some, None, slice_get}
use Rattle.std.specs.List.{AllByRecursion}
use Rattle.authenticators.specs.Channels.{ChannelIdentity, SameChannel}
use Rattle.secret_change.specs.Agreement.{Holds as HoldsSecret}
use Rattle.secret_change.specs.Secrets.{SecretsState, next_of, tried_of}
use Rattle.channel_client.specs.Effects.{View}
use Rattle.channel_events.specs.AcceptedOrder.{Accepted, AreInOrder, BeginsAnew, IsAcceptedIn, IsLast, IsOf}
use Rattle.wire_base.specs.Lists.{OneOf}
use Rattle.channel_events.specs.Marks.{Mark, Calling}
use Rattle.channel_events.specs.Requests.{CallsAreApart, Requests}

-- that unit is among them
abbrev pub IsIn : ℕ → List ℕ → Type 0
IsIn unit units = OneOf (λ (one : ℕ). one ≡ unit) units

-- What the requester and the controller have: the secrets that it holds, the unit of its call that sets a secret and
-- whose reply is awaited, the hash of its account, the channel that is kept for its computer, the secret that the call
-- in a unit sets, if it sets one, the units whose calls passed, and those by which a secret was taken.
pub record Sides : Type 0 where
  pub held : SecretsState
  pub out : Option ℕ
  pub hash : List ℕ
  pub keeps : Option ChannelIdentity
  pub asks : ℕ → Option (List ℕ)
  pub passed : List ℕ
  pub took : List ℕ

-- ---- what holds

-- the opening that came in a unit with that challenge of the client has the secret
abbrev pub HasSecret : ℕ → List ℕ → List ℕ → List ℕ → Accepted → Type 0
HasSecret controller computer challenge secret one =
    one.in_unit ≡ true → one.channel.client ≡ challenge → IsOf controller computer one.channel → one.channel.secret ≡ secret

pub record AreTogether {Who : Type 0} (r : Requests Who) (who : Who) (controller : ℕ) (computer : List ℕ) (accepted : List Accepted) (s : Sides) : Type 0 where
  -- the hash is the current or the next secret
  pub among : HoldsSecret s.hash s.held
  -- the channel that is kept is the one that was accepted last
  pub kept : (c : ChannelIdentity) → s.keeps ≡ Some c → IsOf controller computer c × IsLast controller computer c accepted
  -- a secret was taken by calls that passed
  pub taken : (unit : ℕ) → IsIn unit s.took → IsIn unit s.passed
  -- each call on the kept channel that sets a secret passed, or sets one that is held: so a call that comes late does
  -- no harm
  pub sets : (unit number timestamp : ℕ) (c kept : ChannelIdentity) (secret : List ℕ) → slice_get r.marks unit ≡ Some (Calling c number timestamp) → s.asks unit ≡ Some secret →
      s.keeps ≡ Some kept → SameChannel c kept → IsIn unit s.passed ⊎ HoldsSecret secret s.held
  -- a channel that is being opened, and was accepted by a call in a unit, has the hash
  pub opens : (v : View) (challenge : List ℕ) → r.views who ≡ Some v → v.opening ≡ Some challenge → AllByRecursion (HasSecret controller computer challenge s.hash) accepted
  -- the call that is out sets the next secret; once that was taken by it, it is the hash
  pub asked : (unit : ℕ) → s.out ≡ Some unit → (s.asks unit ≡ next_of s.held) × (IsIn unit s.took → next_of s.held ≡ Some s.hash)

-- the calls with the challenge of the channel that stands at the requester passed, but for that one
pub record OthersPassed {Who : Type 0} (r : Requests Who) (who : Who) (controller : ℕ) (computer : List ℕ) (s : Sides) (out : Option ℕ) : Type 0 where
  pub view : View
  pub at : r.views who ≡ Some view
  pub channel : ChannelIdentity
  pub stands : view.stands ≡ Some channel
  pub of : IsOf controller computer channel
  pub passed : (unit number timestamp : ℕ) (c : ChannelIdentity) → slice_get r.marks unit ≡ Some (Calling c number timestamp) → c.client ≡ channel.client →
      (out ≡ Some unit) ⊎ IsIn unit s.passed

-- ---- what happens

-- a call in a unit passes on the channel that is kept, and its secret is taken
pub record Takes {Who : Type 0} (r : Requests Who) (who : Who) (controller : ℕ) (computer : List ℕ) (s : Sides) (unit : ℕ) (secret : List ℕ) : Type 0 where
  pub channel : ChannelIdentity
  pub number : ℕ
  pub timestamp : ℕ
  pub mark : slice_get r.marks unit ≡ Some (Calling channel number timestamp)
  pub asks : s.asks unit ≡ Some secret
  pub kept : ChannelIdentity
  pub keeps : s.keeps ≡ Some kept
  pub same : SameChannel channel kept
  pub once : IsIn unit s.passed → ⊥
  pub others : (out : ℕ) → s.out ≡ Some out → OthersPassed r who controller computer s (Some out)

-- no requester is opening a channel that wasn't before
abbrev pub OpensNoMore : {Who : Type 0} → (old new : Who → Option View) → Who → Type 0
OpensNoMore old new who =
    (v : View) (challenge : List ℕ) → new who ≡ Some v → v.opening ≡ Some challenge → (u : View) × (old who ≡ Some u) × (u.opening ≡ Some challenge)

-- the channel opens at the requester, where it was accepted by a call in a unit, under the secret that is tried
pub record OpensTried {Who : Type 0} (r : Requests Who) (who : Who) (controller : ℕ) (computer : List ℕ) (accepted : List Accepted) (s : Sides) : Type 0 where
  pub view : View
  pub at : r.views who ≡ Some view
  pub channel : ChannelIdentity
  pub opening : view.opening ≡ Some channel.client
  pub accepted_is : IsAcceptedIn accepted channel
  pub of : IsOf controller computer channel
  pub tried : channel.secret ≡ tried_of s.held

-- the secrets of units that were there before are the same
abbrev pub AskAlike : List Mark → (old new : ℕ → Option (List ℕ)) → Type 0
AskAlike marks old new = (unit : ℕ) (mark : Mark) → slice_get marks unit ≡ Some mark → new unit ≡ old unit

pub record StayTogether (Who : Type 0) : Type 0 where
  -- at first the requester holds the hash, nothing was accepted, and no call is out
  pub first : (r : Requests Who) (who : Who) (controller : ℕ) (computer : List ℕ) (s : Sides) → HoldsSecret s.hash s.held → s.keeps ≡ None → s.took ≡ [] → s.out ≡ None →
      AreTogether r who controller computer [] s
  -- an opening of the computer is accepted: where it came in a unit, under the hash of the account
  pub accepts : (r : Requests Who) (who : Who) (controller : ℕ) (computer : List ℕ) (accepted : List Accepted) (s : Sides) (one : Accepted) → IsOf controller computer one.channel →
      AllByRecursion (λ (other : Accepted). other.channel.server ≢ one.channel.server) accepted → (one.in_unit ≡ true → one.channel.secret ≡ s.hash) →
      AreInOrder r who controller computer accepted → AreTogether r who controller computer accepted s →
      AreTogether r who controller computer (one ∷ accepted) (record s { keeps = Some one.channel })
  -- one of another computer, or with another controller
  pub elsewhere : (r : Requests Who) (who : Who) (controller : ℕ) (computer : List ℕ) (accepted : List Accepted) (s : Sides) (one : Accepted) → (IsOf controller computer one.channel → ⊥) →
      AreTogether r who controller computer accepted s → AreTogether r who controller computer (one ∷ accepted) s
  -- the controller begins anew
  pub forgets : (r : Requests Who) (who : Who) (controller : ℕ) (computer : List ℕ) (accepted : List Accepted) (s : Sides) → AreTogether r who controller computer accepted s →
      AreTogether r who controller computer accepted (record s { keeps = None })
  -- a call passes that leaves the account
  pub passes : (r : Requests Who) (who : Who) (controller : ℕ) (computer : List ℕ) (accepted : List Accepted) (s : Sides) (unit : ℕ) → AreTogether r who controller computer accepted s →
      AreTogether r who controller computer accepted (record s { passed = unit ∷ s.passed })
  -- a call passes that sets a secret of the account
  pub takes : (r : Requests Who) (who : Who) (controller : ℕ) (computer : List ℕ) (accepted : List Accepted) (s : Sides) (unit : ℕ) (secret : List ℕ) →
      Takes r who controller computer s unit secret → CallsAreApart r → AreInOrder r who controller computer accepted → AreTogether r who controller computer accepted s →
      AreTogether r who controller computer accepted (record s { hash = secret; passed = unit ∷ s.passed; took = unit ∷ s.took })
  -- The requester goes on: a turn is lost, or denied, an answer to another call is taken, a change begins, or it begins
  -- anew. It holds each secret that it held.
  pub goes_on : (r : Requests Who) (who : Who) (controller : ℕ) (computer : List ℕ) (accepted : List Accepted) (s : Sides) (views : Who → Option View) (held : SecretsState) (out : Option ℕ) →
      OpensNoMore r.views views who → ((secret : List ℕ) → HoldsSecret secret s.held → HoldsSecret secret held) →
      ((unit : ℕ) → out ≡ Some unit → (s.out ≡ Some unit) × (next_of held ≡ next_of s.held)) → AreTogether r who controller computer accepted s →
      AreTogether (record r { views = views }) who controller computer accepted (record s { held = held; out = out })
  -- one begins an opening with a challenge that wasn't drawn before
  pub begins : (r : Requests Who) (who : Who) (controller : ℕ) (computer : List ℕ) (accepted : List Accepted) (s : Sides) (views : Who → Option View) (client : List ℕ) →
      BeginsAnew r views client → CallsAreApart r → AreInOrder r who controller computer accepted → AreTogether r who controller computer accepted s →
      AreTogether (record r { views = views }) who controller computer accepted s
  -- the requester's channel opens: the secret that is tried is the hash
  pub opens : (r : Requests Who) (who : Who) (controller : ℕ) (computer : List ℕ) (accepted : List Accepted) (s : Sides) (views : Who → Option View) (held : SecretsState) →
      OpensTried r who controller computer accepted s → ((v : View) → views who ≡ Some v → v.opening ≡ None) →
      (tried_of s.held ≡ s.hash → HoldsSecret s.hash held) → CallsAreApart r → AreInOrder r who controller computer accepted → AreTogether r who controller computer accepted s →
      AreTogether (record r { views = views }) who controller computer accepted (record s { held = held; out = None })
  -- the requester hears that its secret was taken: the next one is the hash
  pub hears : (r : Requests Who) (who : Who) (controller : ℕ) (computer : List ℕ) (accepted : List Accepted) (s : Sides) (views : Who → Option View) (held : SecretsState) (unit : ℕ) →
      s.out ≡ Some unit → IsIn unit s.took → OthersPassed r who controller computer s (Some unit) → OpensNoMore r.views views who →
      (next_of s.held ≡ Some s.hash → HoldsSecret s.hash held) → AreInOrder r who controller computer accepted → AreTogether r who controller computer accepted s →
      AreTogether (record r { views = views }) who controller computer accepted (record s { held = held; out = None })
  -- the requester's call goes out that sets the next secret
  pub sends : (r : Requests Who) (who : Who) (controller : ℕ) (computer : List ℕ) (accepted : List Accepted) (s : Sides) (c : ChannelIdentity) (number timestamp : ℕ) (asks : ℕ → Option (List ℕ)) →
      AskAlike r.marks s.asks asks → asks (length r.marks) ≡ next_of s.held → (IsIn (length r.marks) s.took → ⊥) → s.out ≡ None →
      AreTogether r who controller computer accepted s →
      AreTogether (record r { marks = r.marks ++ Calling c number timestamp ∷ [] }) who controller computer accepted (record s { asks = asks; out = Some (length r.marks) })
  -- any other unit does, also a call that sets no secret, or one of another computer
  pub unit : (r : Requests Who) (who : Who) (controller : ℕ) (computer : List ℕ) (accepted : List Accepted) (s : Sides) (mark : Mark) (asks : ℕ → Option (List ℕ)) →
      AskAlike r.marks s.asks asks →
      ((c : ChannelIdentity) (number timestamp : ℕ) → mark ≡ Calling c number timestamp → (asks (length r.marks) ≡ None) ⊎ (IsOf controller computer c → ⊥)) →
      ((unit : ℕ) → s.out ≡ Some unit → (other : Mark) × (slice_get r.marks unit ≡ Some other)) → AreTogether r who controller computer accepted s →
      AreTogether (record r { marks = r.marks ++ mark ∷ [] }) who controller computer accepted (record s { asks = asks })
