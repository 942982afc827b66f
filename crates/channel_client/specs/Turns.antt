-- One turn is out at a time (this project's own choice).
use Rattle.std.specs.Prelude.{ℕ, ◌≡◌, Bool, true, false, List, Option, is_some}
use Rattle.rpc_units.specs.declared.unit.Unit.{Unit as RpcUnit}
use Rattle.logon_stubs.specs.declared.info.NetworkInfo.{NetworkInfo}
use Rattle.channel_client.specs.State.{Requester}
use Rattle.channel_client.specs.Machine.{fresh_requester, needs_challenge, can_start, ask_of, start_of, take_of, lose_of, use_secret_of, set_next_of}
use Rattle.channel_client.specs.declared.caller.Caller.{Caller}
use Rattle.channel_client.specs.declared.answers.Taken.{Taken}
use Rattle.channel_client.specs.declared.answers.Taken.TheVariants as taken

-- a turn is out
abbrev pub is_out : Requester → Bool
is_out s = is_some s.turn

-- the right comes back
abbrev pub gives_right : Taken → Bool
gives_right (taken.Skip right) = true
gives_right (taken.Next right frames) = true
gives_right taken.Half = false
gives_right taken.Opened = false
gives_right (taken.Answer place verdict) = false
gives_right (taken.Dropped place cause) = false
gives_right taken.Set = false

-- A right is in the caller's hands exactly where a turn is out: none at first; one more where a turn starts, which none
-- is out for; one that is taken comes back exactly where its turn is still out; and none is left of one that is lost.
pub record OneTurn : Type 0 where
  pub fresh : (caller : Caller) → is_out (fresh_requester caller) ≡ false
  pub ask : (s : Requester) (info : NetworkInfo) → is_out (ask_of s info).state ≡ is_out s
  pub start : (s : Requester) (timestamp : ℕ) (challenge : List ℕ) → is_some (start_of s timestamp challenge).answer ≡ can_start s.turn s.waiting
  pub started : (s : Requester) (timestamp : ℕ) (challenge : List ℕ) → can_start s.turn s.waiting ≡ true →
      (is_out s ≡ false) × (is_out (start_of s timestamp challenge).state ≡ true)
  pub unstarted : (s : Requester) (timestamp : ℕ) (challenge : List ℕ) → can_start s.turn s.waiting ≡ false →
      (start_of s timestamp challenge).state ≡ s
  pub take : (s : Requester) (unit : RpcUnit) → is_out s ≡ true → gives_right (take_of s unit).taken ≡ is_out (take_of s unit).state
  pub lose : (s : Requester) → is_out (lose_of s).state ≡ false
  pub use_secret : (s : Requester) (secret : List ℕ) → is_out (use_secret_of s secret) ≡ is_out s
  pub set_next : (s : Requester) (next : Option (List ℕ)) → is_out (set_next_of s next) ≡ is_out s
  -- a challenge is looked at only where it is drawn
  pub challenge : (s : Requester) (timestamp : ℕ) (one other : List ℕ) → needs_challenge s.standing ≡ false →
      start_of s timestamp one ≡ start_of s timestamp other
