-- What the steps of an end that asks do to the calls on secure channels: each is one of the events that keep them apart
-- (`Requests`).
use Rattle.std.specs.Prelude.{ℕ, ◌≡◌, ◌+◌, ◌<◌, ◌^◌, ◌==◌, Bool, true, false, List, [], ◌∷◌, ◌++◌, Option, Some}
use Rattle.rpc_units.specs.declared.unit.Unit.{Unit as RpcUnit}
use Rattle.logon_stubs.specs.declared.info.NetworkInfo.{NetworkInfo}
use Rattle.authenticators.specs.Channels.{ChannelIdentity}
use Rattle.channel_client.specs.Effects.{Effect, Calls, Counts, IsCoherent, View, effect_of_take, view_of}
use Rattle.channel_client.specs.Machine.{ask_of, can_start, lose_of, needs_challenge, set_next_of, start_of, take_of, use_secret_of}
use Rattle.channel_client.specs.State.{Requester}
use Rattle.channel_events.specs.Marks.{Calling, Opening}
use Rattle.channel_events.specs.Requests.{CallsAreApart, IsDrawn, Requests}

-- the requester of that number is seen so
abbrev pub seen_if : Bool → View → Option View → Option View
seen_if false v other = other
seen_if true v other = Some v

abbrev pub with_seen : ℕ → View → ℕ → Requests ℕ → Requests ℕ
with_seen who v used r = record r { views = λ j. seen_if (j == who) v (r.views j); uses = r.uses + used }

-- the requester of that number, which is with that controller, and there is room for its numbers
pub record IsSeen (r : Requests ℕ) (who controller : ℕ) (s : Requester) : Type 0 where
  pub at : r.views who ≡ Some (view_of controller s)
  pub coherent : IsCoherent s
  pub few : r.uses + 2 < 2 ^ 32
  pub apart : CallsAreApart r

-- the requester as `IsSeen` has it, after its step, but for the room
pub record IsSeenAfter (r : Requests ℕ) (who controller : ℕ) (s : Requester) : Type 0 where
  pub at : r.views who ≡ Some (view_of controller s)
  pub coherent : IsCoherent s
  pub apart : CallsAreApart r

-- the marks of a unit that is taken: of a call that goes out, with some timestamp, of an opening that is under way,
-- where it goes out, and of nothing else
abbrev pub AfterTaking : Effect → Requests ℕ → ℕ → ℕ → Requester → Type 0
AfterTaking (Calls c number) r who controller s =
    (timestamp : ℕ) → IsSeenAfter (with_seen who (view_of controller s) 1 (record r { marks = r.marks ++ Calling c number timestamp ∷ [] })) who controller s
AfterTaking Counts r who controller s =
    IsSeenAfter (with_seen who (view_of controller s) 1 r) who controller s
    × ((c : ChannelIdentity) (u : View) → r.views who ≡ Some u → u.opening ≡ Some c.client →
    IsSeenAfter (with_seen who (view_of controller s) 1 (record r { marks = r.marks ++ Opening c u.call ∷ [] })) who controller s)
AfterTaking _ r who controller s = IsSeenAfter (with_seen who (view_of controller s) 1 r) who controller s

-- whether a challenge is drawn for a turn that starts
abbrev pub drawn_if : Bool → List ℕ → List (List ℕ) → List (List ℕ)
drawn_if false challenge drawn = drawn
drawn_if true challenge drawn = drawn ++ challenge ∷ []

abbrev pub IsFreshIf : Bool → List ℕ → List (List ℕ) → Type 0
IsFreshIf false challenge drawn = Unit {0}
IsFreshIf true challenge drawn = IsDrawn challenge drawn → ⊥

pub record RequestersKeepCallsApart : Type 0 where
  pub ask : (r : Requests ℕ) (who controller : ℕ) (s : Requester) (info : NetworkInfo) → IsSeen r who controller s →
      IsSeenAfter (with_seen who (view_of controller (ask_of s info).state) 0 r) who controller (ask_of s info).state
  pub use_secret : (r : Requests ℕ) (who controller : ℕ) (s : Requester) (secret : List ℕ) → IsSeen r who controller s →
      IsSeenAfter (with_seen who (view_of controller (use_secret_of s secret)) 0 r) who controller (use_secret_of s secret)
  pub set_next : (r : Requests ℕ) (who controller : ℕ) (s : Requester) (next : Option (List ℕ)) → IsSeen r who controller s →
      IsSeenAfter (with_seen who (view_of controller (set_next_of s next)) 0 r) who controller (set_next_of s next)
  pub lose : (r : Requests ℕ) (who controller : ℕ) (s : Requester) → IsSeen r who controller s →
      IsSeenAfter (with_seen who (view_of controller (lose_of s).state) 0 r) who controller (lose_of s).state
  pub take : (r : Requests ℕ) (who controller : ℕ) (s : Requester) (unit : RpcUnit) → IsSeen r who controller s →
      AfterTaking (effect_of_take controller s unit) r who controller (take_of s unit).state
  pub start : (r : Requests ℕ) (who controller : ℕ) (s : Requester) (timestamp : ℕ) (challenge : List ℕ) → IsSeen r who controller s →
      can_start s.turn s.waiting ≡ true → IsFreshIf (needs_challenge s.standing) challenge r.drawn →
      IsSeenAfter
      (with_seen who (view_of controller (start_of s timestamp challenge).state) 1 (record r { drawn = drawn_if (needs_challenge s.standing) challenge r.drawn }))
      who controller (start_of s timestamp challenge).state
