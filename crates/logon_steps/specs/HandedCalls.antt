-- That what is said on behalf of a logon that is handed on can be written, joined and read, and that the trusted
-- domain's controller knows who asks it, by its account for the domain that asks (MS-NRPC 2.2.1.3.13, 3.5.4.4.1,
-- 3.5.4.4.3, 3.5.4.5.3).
use Rattle.std.specs.Prelude.{ℕ, ◌≡◌, ◌<◌, ◌^◌, true, false, List, Some}
use Rattle.wire_base.specs.Maps.{lookup}
use Rattle.wire_base.specs.Names.{IsName, same_name}
use Rattle.channel_keys.specs.ChannelTypes.{trusted_domain_channel}
use Rattle.channel_keys.specs.Hidden.{crypt_key}
use Rattle.authenticators.specs.Sequences.{return_of}
use Rattle.authenticators.specs.SecureChannels.{SecureChannelState, fresh_channel, key_of_channel}
use Rattle.logon_stubs.specs.Ranges.{HasShortTexts, InRangeSamInfo, IsBlock}
use Rattle.logon_stubs.specs.Writing.{CanWriteSamInfo}
use Rattle.logon_stubs.specs.declared.info.NetworkInfo.{NetworkInfo}
use Rattle.logon_stubs.specs.declared.info.SamInfo.{SamInfo}
use Rattle.logon_stubs.specs.declared.info.Verdict.TheVariants.{Granted, Status}
use Rattle.account_table.specs.AccountTable.{AccountTable}
use Rattle.account_table.specs.Changes.{DifferInCounts, with_count}
use Rattle.account_table.specs.LookUps.{account_in, knows_in, lists_controller}
use Rattle.account_table.specs.declared.account.Account.{Account}
use Rattle.account_table.specs.declared.account.Kind.TheVariants as kind
use Rattle.account_table.specs.declared.account.Trust.{Trust}
use Rattle.channel_client.specs.declared.caller.Caller.{Caller}
use Rattle.channel_client.specs.declared.state.Question.TheVariants as question
use Rattle.channel_client.specs.Machine.{level_asked, logon_call, offered_flags}
use Rattle.controller_calls.specs.Forwarded.{ForwardedState, forwarded_call}
use Rattle.controller_calls.specs.Handing.{forwarded_reply}
use Rattle.controller_calls.specs.declared.line.Line.{Line}
use Rattle.domain_controller.specs.Forwarding.{fits_on}
use Rattle.domain_controller.specs.Machine.{account_for, channel_for}
use Rattle.domain_controller.specs.Trusting.{trust_caller}
use Rattle.domain_controller.specs.Whole.{InRangeTable}
use Rattle.logon_steps.specs.Answering.{IsInStep, auth_value, pair_of}
use Rattle.logon_steps.specs.Asking.{info_at}
use Rattle.logon_steps.specs.BesideTrusts.{Keeping, StaysHere}
use Rattle.logon_steps.specs.Calling.{HasShortCaller, HasShortInfo}
use Rattle.logon_steps.specs.MemberAnswers.{granting}
use Rattle.logon_steps.specs.Turning.{IsTurnReply}

-- ---- calls and replies

pub record HandedCallsGo : Type 0 where
  -- who asks, by the names of a controller and its table
  pub caller : (table : AccountTable) (name : List ℕ) (trust : Trust) → InRangeTable table → IsName name → HasShortCaller (trust_caller table name trust)
  -- a logon whose call could go here can go there, with its place there
  pub info : (place : ℕ) (info : NetworkInfo) → HasShortInfo info → place < 2 ^ 32 → HasShortInfo (info_at place info)
  pub fits : (info : NetworkInfo) → HasShortInfo info → fits_on info ≡ true
  -- a key that is shown under a channel's session key has 16 bytes again
  pub shown : (session key : List ℕ) → IsBlock 16 key → IsBlock 16 (crypt_key session key)
  -- the reply that goes back: what was granted there, its key hidden for the channel on which the logon came
  pub granted : (o : SecureChannelState) (timestamp : ℕ) (line : Line) (sam : SamInfo) →
      forwarded_reply (forwarded_call line level_asked (key_of_channel o) (return_of (key_of_channel o) o.seed timestamp)) (Granted sam)
      ≡ granting o timestamp 0 1 (record sam { key = crypt_key (key_of_channel o) sam.key })
  -- the reply to a logon that was granted can go back, where what was granted can be written, and its texts are short
  pub goes : (line : Line) (key credential : List ℕ) (sam : SamInfo) → IsBlock 8 credential → CanWriteSamInfo sam → HasShortTexts sam → InRangeSamInfo sam →
      IsTurnReply question.Logon (forwarded_reply (forwarded_call line level_asked key credential) (Granted sam))
  -- the reply to a logon that was refused can go back, with its status
  pub refused : (f : ForwardedState) (status : ℕ) → f.validation ≡ level_asked → IsBlock 8 f.credential → status < 2 ^ 32 →
      IsTurnReply question.Logon (forwarded_reply f (Status status))

-- ---- the trusted domain's controller

-- the account of the domain that asks: a trust's, which isn't disabled, and lists the controller that asks
pub record IsTrustAccount (caller : Caller) (account : Account) : Type 0 where
  pub kind : account.kind ≡ kind.Trust
  pub enabled : account.disabled ≡ false
  pub lists : lists_controller account caller.computer ≡ true
  pub channel : caller.kind ≡ trusted_domain_channel

-- the account is there but for its count of bad passwords; who asks is known by it, and a channel that it opens is in
-- step
pub record IsTrustKnown (table : AccountTable) (caller : Caller) (client server : List ℕ) (account : Account) : Type 0 where
  pub count : ℕ
  pub knows : knows_in table.accounts caller.computer ≡ true
  pub machine : account_for table (auth_value caller client server) ≡ Some (with_count count account)
  pub step : IsInStep (fresh_channel caller.secret client server offered_flags) (channel_for (with_count count account) (pair_of client server) (auth_value caller client server))

pub record TrustsAreKnown : Type 0 where
  pub knows : (table : AccountTable) (caller : Caller) (account : Account) → account_in table.accounts caller.account ≡ Some account → IsTrustAccount caller account →
      knows_in table.accounts caller.computer ≡ true
  pub machine : (table : AccountTable) (caller : Caller) (client server : List ℕ) (account : Account) → account_in table.accounts caller.account ≡ Some account → IsTrustAccount caller account →
      account_for table (auth_value caller client server) ≡ Some account
  -- the account is known as well once its controller has judged logons, which changes counts of bad passwords alone
  pub later : (old new : AccountTable) (caller : Caller) (client server : List ℕ) (account : Account) → DifferInCounts old new → account_in old.accounts caller.account ≡ Some account →
      IsTrustAccount caller account → account.hash ≡ caller.secret → IsTrustKnown new caller client server account
  -- the channel that the account opens is a trust's, and a logon that comes on a trust's channel is judged there
  pub opens : (caller : Caller) (client server : List ℕ) (account : Account) → caller.kind ≡ trusted_domain_channel →
      (channel_for account (pair_of client server) (auth_value caller client server)).kind ≡ Some trusted_domain_channel
  pub stays : (k : Keeping) (caller : Caller) (o c : SecureChannelState) (timestamp : ℕ) (info : NetworkInfo) → lookup same_name caller.computer k.computers.channels ≡ Some c →
      c.kind ≡ Some trusted_domain_channel → StaysHere (logon_call caller o timestamp info) k
