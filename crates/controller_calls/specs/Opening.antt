-- The calls that open a secure channel: NetrServerReqChallenge and NetrServerAuthenticate2 (MS-NRPC 3.5.4.4.1,
-- 3.5.4.4.3; the order of checks is this project's own choice). A challenge and a credential have 8 bytes, a secret 16.
use Rattle.std.specs.Prelude.{ℕ, Bool, true, false, List, replicate, bytes_eq, Option, Some, None, slice_get}
use Rattle.std.specs.Option.{option_and_then}
use Rattle.wire_base.specs.Maps.{lookup}
use Rattle.wire_base.specs.Names.{same_name}
use Rattle.ntlm_flags.specs.Flags.{has_flag}
use Rattle.channel_keys.specs.Credentials.{cred_of}
use Rattle.channel_keys.specs.Flags.{granted_of, rc4_flag, supported_flags}
use Rattle.logon_stubs.specs.declared.calls.Reply.TheVariants as reply
use Rattle.logon_stubs.specs.declared.calls.AuthCall.{AuthCall}
use Rattle.logon_stubs.specs.declared.calls.ChallengeCall.{ChallengeCall}
use Rattle.logon_stubs.specs.Status.{access_denied, downgrade_detected, no_trust_sam_account}
use Rattle.account_table.specs.declared.account.Account.{Account}
use Rattle.account_table.specs.AccountTable.{AccountTable}
use Rattle.account_table.specs.LookUps.{knows_in, machine_in}
use Rattle.authenticators.specs.SecureChannels.{SecureChannelState, fresh_channel, key_of_channel, with_kind}
use Rattle.controller_calls.specs.Desk.{put_channel, put_pair, send_reply, take_pair}
use Rattle.controller_calls.specs.declared.line.Line.{Line}
use Rattle.controller_calls.specs.declared.state.ChallengePair.{ChallengePair}
use Rattle.controller_calls.specs.declared.state.Work.{Work}

-- ---- NetrServerReqChallenge

-- both challenges wait, in place of older ones, where the table knows the computer
abbrev pub put_pair_if : (knows : Bool) → List ℕ → ChallengePair → Work → Work
put_pair_if false computer pair work = work
put_pair_if true computer pair work = put_pair computer pair work

abbrev pub answer_challenge : AccountTable → Line → ChallengeCall → List ℕ → Work → Work
answer_challenge table line c server work =
    send_reply
    (put_pair_if (knows_in table.accounts c.computer) c.computer (record { client = c.challenge; server = server }) work)
    line (reply.Challenge (record { challenge = server; status = 0 }))

-- ---- NetrServerAuthenticate2

abbrev pub grant_flags : ℕ → ℕ
grant_flags offered = granted_of supported_flags offered

-- a refusal answers a credential of zeros, and leaves an older channel
abbrev pub deny_channel : Work → Line → ℕ → ℕ → Work
deny_channel work line offered status =
    send_reply work line
    (reply.Authenticate (record { credential = replicate 8 0; flags = grant_flags offered; status = status }))

-- the channel that an accepted call opens, by the hash of its account, of the type that the call names
abbrev pub channel_with : List ℕ → ChallengePair → AuthCall → SecureChannelState
channel_with hash pair c = with_kind c.channel (fresh_channel hash pair.client pair.server (grant_flags c.flags))

abbrev pub channel_for : Account → ChallengePair → AuthCall → SecureChannelState
channel_for account pair c = channel_with account.hash pair c

-- a channel opens where the client's credential is that of its challenge (MS-NRPC 3.1.4.4.2)
abbrev pub open_channel : (is_its : Bool) → SecureChannelState → Line → AuthCall → Work → Work
open_channel false channel line c work = deny_channel work line c.flags access_denied
open_channel true channel line c work =
    send_reply (put_channel c.computer channel work) line (reply.Authenticate (record {
      credential = cred_of (key_of_channel channel) channel.server;
      flags = grant_flags c.flags;
      status = 0;
    }))

abbrev pub judge_client : SecureChannelState → Line → AuthCall → Work → Work
judge_client channel line c work =
    open_channel (bytes_eq c.credential (cred_of (key_of_channel channel) channel.client)) channel line c work

abbrev pub judge_pair_with : Option ChallengePair → List ℕ → Line → AuthCall → Work → Work
judge_pair_with None hash line c work = deny_channel work line c.flags access_denied
judge_pair_with (Some pair) hash line c work = judge_client (channel_with hash pair c) line c work

abbrev pub judge_pair : Option ChallengePair → Account → Line → AuthCall → Work → Work
judge_pair pair account line c work = judge_pair_with pair account.hash line c work

abbrev pub judge_offer_with : (offers_rc4 : Bool) → Option ChallengePair → List ℕ → Line → AuthCall → Work → Work
judge_offer_with false pair hash line c work = deny_channel work line c.flags downgrade_detected
judge_offer_with true pair hash line c work = judge_pair_with pair hash line c work

abbrev pub judge_offer : Bool → Option ChallengePair → Account → Line → AuthCall → Work → Work
judge_offer offered pair account line c work = judge_offer_with offered pair account.hash line c work

abbrev pub judge_account : Option Account → Option ChallengePair → Line → AuthCall → Work → Work
judge_account None pair line c work = deny_channel work line c.flags no_trust_sam_account
judge_account (Some account) pair line c work = judge_offer (has_flag c.flags rc4_flag) pair account line c work

-- the enabled account of that name that opens that channel for that computer
abbrev pub account_for : AccountTable → AuthCall → Option Account
account_for table c = option_and_then (slice_get table.accounts) (machine_in table.accounts c.account c.channel c.computer)

-- the computer's pair is taken out, whatever comes of it
abbrev pub answer_authenticate : AccountTable → Line → AuthCall → Work → Work
answer_authenticate table line c work =
    judge_account (account_for table c) (lookup same_name c.computer work.computers.pending) line c (take_pair c.computer work)
