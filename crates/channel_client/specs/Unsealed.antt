-- A channel that seals nothing goes as if none could: each step of it is that of the machine without sealing, and it
-- stays one. Those steps keep what any channel keeps to seal.
use Rattle.std.specs.Prelude.{ℕ, ◌≡◌, false, List, Option, None}
use Rattle.rpc_units.specs.declared.unit.Unit.{Unit as RpcUnit}
use Rattle.logon_stubs.specs.declared.info.NetworkInfo.{NetworkInfo}
use Rattle.channel_client.specs.Machine.{ask_of, fresh_requester, lose_of, needs_challenge, set_next_of, start_of, take_of, use_secret_of}
use Rattle.channel_client.specs.Sealed.{channel_start, channel_take, draws_challenge, fresh_channel_of}
use Rattle.channel_client.specs.Sealing.{sealing_for}
use Rattle.channel_client.specs.State.{Requester}
use Rattle.channel_client.specs.declared.caller.Caller.{Caller}

-- nothing is sealed
abbrev pub IsPlain : Requester → Type 0
IsPlain s = s.sealing ≡ None

pub record PlainChannelsStay : Type 0 where
  -- a channel that seals nothing is made and goes as one of an end that can't seal
  pub made : (caller : Caller) (domain computer : List ℕ) → fresh_channel_of (sealing_for false domain computer) caller ≡ fresh_requester caller
  pub draws : (s : Requester) → IsPlain s → draws_challenge s.sealing s.standing ≡ needs_challenge s.standing
  pub start : (s : Requester) (timestamp : ℕ) (challenge : List ℕ) → IsPlain s → channel_start s timestamp challenge ≡ start_of s timestamp challenge
  pub take : (s : Requester) (unit : RpcUnit) → IsPlain s → channel_take s unit ≡ take_of s unit
  -- a channel that seals nothing stays one
  pub fresh : (caller : Caller) → IsPlain (fresh_requester caller)
  pub asked : (s : Requester) (info : NetworkInfo) → (ask_of s info).state.sealing ≡ s.sealing
  pub started : (s : Requester) (timestamp : ℕ) (challenge : List ℕ) → (start_of s timestamp challenge).state.sealing ≡ s.sealing
  pub taken : (s : Requester) (unit : RpcUnit) → (take_of s unit).state.sealing ≡ s.sealing
  pub lost : (s : Requester) → (lose_of s).state.sealing ≡ s.sealing
  pub another : (s : Requester) (secret : List ℕ) → (use_secret_of s secret).sealing ≡ s.sealing
  pub set_next : (s : Requester) (next : Option (List ℕ)) → (set_next_of s next).sealing ≡ s.sealing
