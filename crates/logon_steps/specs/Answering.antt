-- What a controller makes of the calls of one logon, where it keeps what the computer keeps
-- (MS-NRPC 3.1.4.1 to 3.1.4.5, 3.5.4.4.1, 3.5.4.4.3, 3.5.4.5.3).
use Rattle.std.specs.Prelude.{ℕ, ◌≡◌, true, List, ◌∷◌, Some, None}
use Rattle.wire_base.specs.Maps.{lookup}
use Rattle.wire_base.specs.Names.{same_name}
use Rattle.authenticators.specs.Sequences.{next_seed, return_of}
use Rattle.authenticators.specs.SecureChannels.{SecureChannelState, after_call, after_return, fresh_channel, key_of_channel}
use Rattle.logon_stubs.specs.declared.calls.AuthCall.{AuthCall}
use Rattle.logon_stubs.specs.declared.calls.Reply.TheVariants as reply
use Rattle.logon_stubs.specs.declared.info.NetworkInfo.{NetworkInfo}
use Rattle.account_table.specs.LookUps.{knows_in}
use Rattle.account_table.specs.declared.account.Account.{Account}
use Rattle.channel_client.specs.declared.caller.Caller.{Caller}
use Rattle.channel_client.specs.Machine.{auth_call, challenge_call, level_asked, logon_call, offered_flags, server_credential}
use Rattle.domain_controller.specs.Hearing.{served_call}
use Rattle.domain_controller.specs.Machine.{Desk, account_for, by_call, channel_for, desk, goes_on, judge_info, put_channel, put_pair, send_reply, take_channel, take_pair, with_judgement}
use Rattle.controller_calls.specs.declared.line.Line.{Line}
use Rattle.controller_calls.specs.declared.state.ChallengePair.{ChallengePair}
use Rattle.domain_controller.specs.declared.state.Talk.{Talk}

-- ---- both ends of a channel

-- the controller keeps the channel that the computer keeps: the secret, the challenges, the flags, the key and the seed
-- are one
pub record IsInStep (o c : SecureChannelState) : Type 0 where
  pub secret : c.secret ≡ o.secret
  pub client : c.client ≡ o.client
  pub server : c.server ≡ o.server
  pub flags : c.flags ≡ o.flags
  pub key : key_of_channel c ≡ key_of_channel o
  pub seed : c.seed ≡ o.seed

abbrev pub moved : SecureChannelState → ℕ → SecureChannelState
moved c timestamp = record c { seed = next_seed c.seed timestamp }

-- the call that opens the channel, in the controller's hands
abbrev pub auth_value : Caller → List ℕ → List ℕ → AuthCall
auth_value caller client server = record {
  primary = None;
  account = caller.account;
  channel = caller.kind;
  computer = caller.computer;
  credential = (fresh_channel caller.secret client server offered_flags).seed;
  flags = offered_flags;
}

abbrev pub pair_of : List ℕ → List ℕ → ChallengePair
pair_of client server = record { client = client; server = server }

-- ---- laws

pub record CallsAreAnswered : Type 0 where
  -- behind a NetrServerReqChallenge both challenges wait, where the computer is known
  pub challenge : (caller : Caller) (client server : List ℕ) (line : Line) (talk : Talk) (name : List ℕ) (now : ℕ) (d : Desk) (left : List (List ℕ)) →
      knows_in d.table.accounts caller.computer ≡ true →
      by_call (served_call (challenge_call caller client)) line talk name now d (server ∷ left)
      ≡ goes_on (desk d.table
      (send_reply (put_pair caller.computer (pair_of client server) d.work) line (reply.Challenge (record { challenge = server; status = 0 })))) talk left
  -- the channel stands, where the account's hash is the computer's secret and these challenges wait
  pub opens : (caller : Caller) (client server : List ℕ) (account : Account) (line : Line) (talk : Talk) (name : List ℕ) (now : ℕ) (d : Desk) (left : List (List ℕ)) →
      account_for d.table (auth_value caller client server) ≡ Some account → account.hash ≡ caller.secret →
      lookup same_name caller.computer d.work.computers.pending ≡ Some (pair_of client server) →
      by_call (served_call (auth_call caller client server)) line talk name now d left
      ≡ goes_on (desk d.table
      (send_reply (put_channel caller.computer (channel_for account (pair_of client server) (auth_value caller client server)) (take_pair caller.computer d.work)) line
      (reply.Authenticate (record { credential = server_credential caller.secret client server; flags = offered_flags; status = 0 })))) talk left
  pub in_step : (caller : Caller) (client server : List ℕ) (account : Account) → account.hash ≡ caller.secret →
      IsInStep (fresh_channel caller.secret client server offered_flags) (channel_for account (pair_of client server) (auth_value caller client server))
  -- the authenticator passes where both are in step, and they are so again; the logon is judged
  pub judges : (caller : Caller) (o c : SecureChannelState) (info : NetworkInfo) (timestamp : ℕ) (line : Line) (talk : Talk) (name : List ℕ) (now : ℕ) (d : Desk)
      (left : List (List ℕ)) → lookup same_name caller.computer d.work.computers.channels ≡ Some c → IsInStep o c →
      by_call (served_call (logon_call caller o timestamp info)) line talk name now d left
      ≡ goes_on (with_judgement (judge_info d.table name now info level_asked) line level_asked (key_of_channel o) (return_of (key_of_channel o) o.seed timestamp)
      (put_channel caller.computer (moved c timestamp) (take_channel caller.computer d.work))) talk left
  pub stays : (o c : SecureChannelState) (timestamp : ℕ) → IsInStep o c → IsInStep (after_return true (after_call o timestamp)) (moved c timestamp)
