-- How a call on a secure channel that a controller heard was judged: on which channel its authenticator passed, of a
-- network logon by which hash and key, and whether that is right (MS-NRPC 3.1.4.5; the names are this project's own
-- choice).
use Rattle.std.specs.Prelude.{ℕ, ◌≡◌, ◌↔◌, Bool, true, false, List, [], Option, Some, None}
use Rattle.wire_base.specs.declared.authenticator.Authenticator.{Authenticator}
use Rattle.authenticators.specs.Channels.{ChannelIdentity}
use Rattle.authenticators.specs.Sequences.{Passes}
use Rattle.authenticators.specs.SecureChannels.{SecureChannelState, key_of_channel}
use Rattle.outside.specs.declared.action.Judged.{Judged}
use Rattle.outside.specs.declared.action.Judged.TheVariants as judged
use Rattle.ntlm_responses.specs.Verification.{base_key_of}
use Rattle.logon_stubs.specs.declared.info.NetworkInfo.{NetworkInfo}
use Rattle.account_table.specs.declared.account.Account.{Account}
use Rattle.account_table.specs.LookUps.{account_in}
use Rattle.step_notes.specs.ControllerNotes.{channel_in, has_passed}
use Rattle.step_notes.specs.Records.{Judging, computer_named, given_in}

-- ---- authenticators that pass

-- the channel on which the authenticator of a call passed: none where it didn't pass
abbrev pub channel_if : Bool → Judging → Option ChannelIdentity
channel_if false j = None
channel_if true j = channel_in j.controller (computer_named j.asked) j.checks

abbrev pub passed_channel : Judging → Option ChannelIdentity
passed_channel j = channel_if (has_passed j.how) j

-- the hash that is stored for the user of what is asked
abbrev pub hash_in : Option Account → List ℕ
hash_in None = []
hash_in (Some account) = account.hash

abbrev pub stored_hash : Judging → NetworkInfo → List ℕ
stored_hash j info = hash_in (account_in j.table.accounts info.user)

abbrev pub base_key_asked : Judging → NetworkInfo → List ℕ
base_key_asked j info = base_key_of (stored_hash j info) info.user info.domain info.nt

-- ---- which authenticator passes

-- the authenticator is the next one of the channel that the call is checked on
pub record IsNextOn (checks : Option SecureChannelState) (shown : Option Authenticator) : Type 0 where
  pub channel : SecureChannelState
  pub given : Authenticator
  pub stands : checks ≡ Some channel
  pub there : shown ≡ Some given
  pub passes : Passes (key_of_channel channel) channel.seed given

-- there are both, and it isn't
pub record IsBarredBy (checks : Option SecureChannelState) (shown : Option Authenticator) : Type 0 where
  pub channel : SecureChannelState
  pub given : Authenticator
  pub stands : checks ≡ Some channel
  pub there : shown ≡ Some given
  pub fails : Passes (key_of_channel channel) channel.seed given → ⊥

-- Next credential: a controller tells that a call passed, with whatever status, exactly where its authenticator is the
-- next one of the channel that it is checked on; that it was barred exactly where there is a channel and an
-- authenticator, which isn't the next one; else that there is no channel.
pub record IsRightOf (how : Option Judged) (checks : Option SecureChannelState) (shown : Option Authenticator) : Type 0 where
  pub passed : (has_passed how ≡ true) ↔ IsNextOn checks shown
  pub barred : (how ≡ Some judged.Barred) ↔ IsBarredBy checks shown
  pub other : (how ≡ Some judged.NoChannel) ↔ ((IsNextOn checks shown → ⊥) × (IsBarredBy checks shown → ⊥))

-- a call that names no computer is checked on no channel
abbrev pub IsOfName : Option (List ℕ) → Option SecureChannelState → Type 0
IsOfName None checks = checks ≡ None
IsOfName (Some computer) checks = Unit {0}

pub record IsJudgedRight (j : Judging) : Type 0 where
  pub right : IsRightOf j.how j.checks (given_in j.asked)
  pub named : IsOfName (computer_named j.asked) j.checks
