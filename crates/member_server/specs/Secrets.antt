-- The secrets of the member's machine account while a new one replaces the current one (MS-NRPC 3.1.1, 3.5.4.4.6): what
-- a turn that ended makes of them, and which of them the channel is given before a turn (this project's own choice). A
-- secret has 16 bytes.
use Rattle.std.specs.Prelude.{ℕ, ◌≡◌, ◌≢◌, ◌&&◌, Bool, true, false, List, Option, Some, None, is_some}
use Rattle.outside.specs.declared.action.DropCause.{DropCause}
use Rattle.outside.specs.declared.action.DropCause.TheVariants as drop_cause
pub use Rattle.secret_change.specs.Secrets.{AreSecrets, SecretsState, confirmed_of, denied_of, next_of, opened_of, tried_of, written_secrets}
use Rattle.secret_change.specs.declared.secrets.Next.{Next}
use Rattle.channel_client.specs.Machine.{needs_challenge, set_next_of, use_secret_of}
use Rattle.channel_client.specs.State.{Requester}
use Rattle.channel_turns.specs.declared.state.TurnEnd.{TurnEnd}
use Rattle.channel_turns.specs.declared.state.TurnEnd.TheVariants as turn_end

-- ---- what a turn that ended makes of them

abbrev pub is_denied : DropCause → Bool
is_denied drop_cause.Denied = true
is_denied _ = false

abbrev pub secrets_dropped : (denied : Bool) → SecretsState → SecretsState
secrets_dropped false s = s
secrets_dropped true s = denied_of s

abbrev pub secrets_after : TurnEnd → SecretsState → SecretsState
secrets_after turn_end.Half s = s
secrets_after turn_end.Opened s = opened_of s
secrets_after (turn_end.Answer place verdict) s = s
secrets_after (turn_end.Dropped place cause) s = secrets_dropped (is_denied cause) s
secrets_after turn_end.Set s = confirmed_of s

abbrev pub is_next_tried : Option Next → Bool
is_next_tried None = false
is_next_tried (Some n) = n.is_tried

-- whether their text is another then: the next one has become the current one
abbrev pub changes_text : TurnEnd → SecretsState → Bool
changes_text turn_end.Half s = false
changes_text turn_end.Opened s = is_next_tried s.next
changes_text (turn_end.Answer place verdict) s = false
changes_text (turn_end.Dropped place cause) s = false
changes_text turn_end.Set s = is_some s.next

-- The text of the secrets that is written is another exactly where `changes_text` says so.
pub record TellsTextsApart : Type 0 where
  pub same : (how : TurnEnd) (s : SecretsState) → changes_text how s ≡ false → written_secrets (secrets_after how s) ≡ written_secrets s
  pub another : (how : TurnEnd) (s : SecretsState) → AreSecrets s → changes_text how s ≡ true →
      written_secrets (secrets_after how s) ≢ written_secrets s

-- ---- what the channel is given before a turn

abbrev pub secret_for : (is_used : Bool) → (tried kept : List ℕ) → List ℕ
secret_for true tried kept = tried
secret_for false tried kept = kept

abbrev pub next_for : (is_used : Bool) → (next kept : Option (List ℕ)) → Option (List ℕ)
next_for true next kept = next
next_for false next kept = kept

-- Where a turn starts, the channel is given the next secret, or none; and while it is none, the secret that is tried.
abbrev pub give_secrets : (starts : Bool) (secrets : SecretsState) (channel : Requester) → Requester
give_secrets starts s channel = set_next_of
    (use_secret_of channel (secret_for (starts && needs_challenge channel.standing) (tried_of s) channel.caller.secret))
    (next_for starts (next_of s) channel.next)
