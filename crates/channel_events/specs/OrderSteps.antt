-- What the steps of an end that asks do to the order in which channels are accepted, and the calls on them
-- (`AcceptedOrder`): each keeps it, where a channel that opens was accepted, and where another end's call is one of
-- another computer.
use Rattle.std.specs.Prelude.{ℕ, ◌≡◌, ◌⊎◌, true, List, [], ◌∷◌, ◌++◌, Option}
use Rattle.rpc_units.specs.declared.unit.Unit.{Unit as RpcUnit}
use Rattle.logon_stubs.specs.declared.info.NetworkInfo.{NetworkInfo}
use Rattle.authenticators.specs.Channels.{ChannelIdentity}
use Rattle.channel_client.specs.Effects.{Calls, Counts, Effect, Opens, effect_of_take, view_of}
use Rattle.channel_client.specs.Machine.{ask_of, can_start, lose_of, needs_challenge, set_next_of, start_of, take_of, use_secret_of}
use Rattle.channel_client.specs.State.{Requester}
use Rattle.channel_events.specs.AcceptedOrder.{Accepted, AreInOrder, IsAcceptedIn, IsOf}
use Rattle.channel_events.specs.Marks.{Calling, Opening}
use Rattle.channel_events.specs.RequestSteps.{IsFreshIf, IsSeen, drawn_if, with_seen}
use Rattle.channel_events.specs.Requests.{Requests}

-- a requester that alone asks as a computer with a controller, and what was accepted
pub record Asker : Type 0 where
  pub who : ℕ
  pub controller : ℕ
  pub computer : List ℕ
  pub accepted : List Accepted

abbrev pub InOrder : Requests ℕ → Asker → Type 0
InOrder r a = AreInOrder r a.who a.controller a.computer a.accepted

-- the call is that requester's, or one of another computer
abbrev pub IsItsOrElsewhere : Asker → ℕ → ChannelIdentity → Type 0
IsItsOrElsewhere a who c = (who ≡ a.who) ⊎ (IsOf a.controller a.computer c → ⊥)

-- with the mark of a unit that is taken, by what the step does
abbrev pub InOrderAfter : Effect → Requests ℕ → ℕ → ℕ → Requester → Asker → Type 0
InOrderAfter (Calls c number) r who controller s a =
    (timestamp : ℕ) → IsItsOrElsewhere a who c → InOrder (with_seen who (view_of controller s) 1 (record r { marks = r.marks ++ Calling c number timestamp ∷ [] })) a
InOrderAfter Counts r who controller s a =
    InOrder (with_seen who (view_of controller s) 1 r) a
    × ((c : ChannelIdentity) (number : ℕ) → InOrder (with_seen who (view_of controller s) 1 (record r { marks = r.marks ++ Opening c number ∷ [] })) a)
InOrderAfter (Opens c) r who controller s a = IsAcceptedIn a.accepted c → InOrder (with_seen who (view_of controller s) 1 r) a
InOrderAfter _ r who controller s a = InOrder (with_seen who (view_of controller s) 1 r) a

pub record RequestersKeepOrder : Type 0 where
  pub ask : (r : Requests ℕ) (who controller : ℕ) (s : Requester) (info : NetworkInfo) (a : Asker) → IsSeen r who controller s → InOrder r a →
      InOrder (with_seen who (view_of controller (ask_of s info).state) 0 r) a
  pub use_secret : (r : Requests ℕ) (who controller : ℕ) (s : Requester) (secret : List ℕ) (a : Asker) → IsSeen r who controller s → InOrder r a →
      InOrder (with_seen who (view_of controller (use_secret_of s secret)) 0 r) a
  pub set_next : (r : Requests ℕ) (who controller : ℕ) (s : Requester) (next : Option (List ℕ)) (a : Asker) → IsSeen r who controller s → InOrder r a →
      InOrder (with_seen who (view_of controller (set_next_of s next)) 0 r) a
  pub lose : (r : Requests ℕ) (who controller : ℕ) (s : Requester) (a : Asker) → IsSeen r who controller s → InOrder r a →
      InOrder (with_seen who (view_of controller (lose_of s).state) 0 r) a
  pub take : (r : Requests ℕ) (who controller : ℕ) (s : Requester) (unit : RpcUnit) (a : Asker) → IsSeen r who controller s → InOrder r a →
      InOrderAfter (effect_of_take controller s unit) r who controller (take_of s unit).state a
  pub start : (r : Requests ℕ) (who controller : ℕ) (s : Requester) (timestamp : ℕ) (challenge : List ℕ) (a : Asker) → IsSeen r who controller s →
      can_start s.turn s.waiting ≡ true → IsFreshIf (needs_challenge s.standing) challenge r.drawn → InOrder r a →
      InOrder (with_seen who (view_of controller (start_of s timestamp challenge).state) 1 (record r { drawn = drawn_if (needs_challenge s.standing) challenge r.drawn })) a
