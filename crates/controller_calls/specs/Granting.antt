-- NetrServerAuthenticate2 at a controller that grants more flags or fewer (MS-NRPC 3.1.4.2, 3.5.4.4.3): `Opening` has
-- it for those that every end of this project supports. A challenge and a credential have 8 bytes, a secret 16.
use Rattle.std.specs.Prelude.{ℕ, ◌≡◌, Bool, true, false, List, replicate, bytes_eq, Option, Some, None, Result, Ok, Err}
use Rattle.wire_base.specs.Maps.{lookup}
use Rattle.wire_base.specs.Names.{same_name}
use Rattle.ntlm_flags.specs.Flags.{has_flag}
use Rattle.channel_keys.specs.Credentials.{cred_of}
use Rattle.channel_keys.specs.Flags.{granted_of, rc4_flag, supported_flags}
use Rattle.logon_stubs.specs.declared.calls.Reply.TheVariants as reply
use Rattle.logon_stubs.specs.declared.calls.AuthCall.{AuthCall}
use Rattle.logon_stubs.specs.Status.{access_denied, downgrade_detected, no_trust_sam_account}
use Rattle.account_table.specs.declared.account.Account.{Account}
use Rattle.account_table.specs.AccountTable.{AccountTable}
use Rattle.authenticators.specs.SecureChannels.{SecureChannelState, fresh_channel, key_of_channel, with_kind}
use Rattle.controller_calls.specs.Desk.{put_channel, send_reply, take_pair}
use Rattle.controller_calls.specs.Opening.{account_for, answer_authenticate}
use Rattle.controller_calls.specs.Seals.{after_opening, is_secure}
use Rattle.controller_calls.specs.declared.line.Line.{Line}
use Rattle.controller_calls.specs.declared.seals.ChannelSeals.{ChannelSeals}
use Rattle.controller_calls.specs.declared.state.ChallengePair.{ChallengePair}
use Rattle.controller_calls.specs.declared.state.Computers.{Computers}
use Rattle.controller_calls.specs.declared.state.Work.{Work}

-- what a controller supports that can seal: secure RPC besides what every end does
abbrev pub secure_flags : ℕ
secure_flags = 0x4000_41FF

-- ---- the channel that the call opens, or the status of its refusal

abbrev pub channel_granting : (supported : ℕ) (hash : List ℕ) (pair : ChallengePair) (c : AuthCall) → SecureChannelState
channel_granting supported hash pair c =
    with_kind c.channel (fresh_channel hash pair.client pair.server (granted_of supported c.flags))

abbrev pub opened_if : (is_its : Bool) (channel : SecureChannelState) → Result SecureChannelState ℕ
opened_if false channel = Err access_denied
opened_if true channel = Ok channel

-- a channel opens where the client's credential is that of its challenge (3.1.4.4.2)
abbrev pub opened_by_credential : SecureChannelState → AuthCall → Result SecureChannelState ℕ
opened_by_credential channel c = opened_if (bytes_eq c.credential (cred_of (key_of_channel channel) channel.client)) channel

abbrev pub opened_with : Option ChallengePair → (supported : ℕ) (hash : List ℕ) (c : AuthCall) → Result SecureChannelState ℕ
opened_with None supported hash c = Err access_denied
opened_with (Some pair) supported hash c = opened_by_credential (channel_granting supported hash pair c) c

abbrev pub opened_offer : (offers_rc4 : Bool) → Option ChallengePair → (supported : ℕ) (hash : List ℕ) (c : AuthCall) → Result SecureChannelState ℕ
opened_offer false pair supported hash c = Err downgrade_detected
opened_offer true pair supported hash c = opened_with pair supported hash c

abbrev pub opened_for : Option Account → Option ChallengePair → (supported : ℕ) (c : AuthCall) → Result SecureChannelState ℕ
opened_for None pair supported c = Err no_trust_sam_account
opened_for (Some account) pair supported c = opened_offer (has_flag c.flags rc4_flag) pair supported account.hash c

abbrev pub channel_opened : (supported : ℕ) (table : AccountTable) (c : AuthCall) (computers : Computers) → Result SecureChannelState ℕ
channel_opened supported table c computers =
    opened_for (account_for table c) (lookup same_name c.computer computers.pending) supported c

-- ---- the answer

-- a refusal answers a credential of zeros, and leaves an older channel
abbrev pub answer_opened : Result SecureChannelState ℕ → (supported : ℕ) (line : Line) (c : AuthCall) (work : Work) → Work
answer_opened (Err status) supported line c work =
    send_reply work line
    (reply.Authenticate (record { credential = replicate 8 0; flags = granted_of supported c.flags; status = status }))
answer_opened (Ok channel) supported line c work =
    send_reply (put_channel c.computer channel work) line (reply.Authenticate (record {
      credential = cred_of (key_of_channel channel) channel.server;
      flags = granted_of supported c.flags;
      status = 0;
    }))

-- the computer's pair is taken out, whatever comes of it
abbrev pub answer_granting : (supported : ℕ) (table : AccountTable) (line : Line) (c : AuthCall) (work : Work) → Work
answer_granting supported table line c work =
    answer_opened (channel_opened supported table c work.computers) supported line c (take_pair c.computer work)

-- what is kept to seal afterwards
abbrev pub seals_opened : Result SecureChannelState ℕ → (supported : ℕ) (c : AuthCall) (seals : ChannelSeals) → ChannelSeals
seals_opened (Err status) supported c seals = seals
seals_opened (Ok channel) supported c seals =
    after_opening (is_secure (granted_of supported c.flags)) c.computer (key_of_channel channel) seals

-- With the flags that every end supports it is the answer of `Opening`.
pub record GrantsAsOpened : Type 0 where
  pub plain : (table : AccountTable) (line : Line) (c : AuthCall) (work : Work) →
      answer_granting supported_flags table line c work ≡ answer_authenticate table line c work
