-- What a controller makes of the calls of one logon.
-- Of `calls_are_answered`.
use Rattle.std.proofs.Common.{◌≡◌, ℕ, Bool, true, List, Option, refl, ap, ap₂, ◌∙◌}
use Rattle.std.specs.Prelude.{bytes_eq}
use Rattle.std.proofs.lemmas.Slice.Eq.{bytes_eq-Decides}
use Rattle.channel_keys.specs.Credentials.{cred_of}
use Rattle.channel_keys.specs.SessionKeys.{key_of}
use Rattle.authenticators.specs.Sequences.{add_to, authenticator_of, next_seed, return_of}
use Rattle.wire_base.specs.declared.authenticator.Authenticator.{Authenticator}
use Rattle.authenticators.specs.SecureChannels.{SecureChannelState, fresh_channel, key_of_channel, channel_by, passes_on, return_by}
use Rattle.account_table.specs.declared.account.Account.{Account}
use Rattle.logon_stubs.specs.declared.calls.Reply.TheVariants as reply
use Rattle.channel_client.specs.declared.caller.Caller.{Caller}
use Rattle.channel_client.specs.Machine.{level_asked, offered_flags}
use Rattle.domain_controller.specs.Machine.{Desk, channel_for, desk, goes_on, judge_account, judge_channel, judge_info, judge_return, open_channel, put_channel, put_pair_if, send_reply, take_channel, take_pair, with_judgement}
use Rattle.controller_calls.specs.declared.state.ChallengePair.{ChallengePair}
use Rattle.logon_steps.specs.Answering.{CallsAreAnswered, IsInStep, auth_value, moved, pair_of}

same_bytes : (bytes : List ℕ) → bytes_eq bytes bytes ≡ true
same_bytes bytes = (bytes_eq-Decides bytes bytes).1 refl

-- the channel that is kept has the computer's key
opened_step : (caller : Caller) (client server : List ℕ) (account : Account) → account.hash ≡ caller.secret →
    IsInStep (fresh_channel caller.secret client server offered_flags) (channel_for account (pair_of client server) (auth_value caller client server))
opened_step caller client server account is = record {
  secret = is;
  client = refl;
  server = refl;
  flags = refl;
  key = ap (λ (secret : List ℕ). key_of secret client server offered_flags) is;
  seed = ap (λ (secret : List ℕ). cred_of (key_of secret client server offered_flags) client) is;
}

-- the credential is right
credential_right : (caller : Caller) (client server : List ℕ) (account : Account) → account.hash ≡ caller.secret →
    bytes_eq (auth_value caller client server).credential (cred_of (key_of_channel (channel_for account (pair_of client server) (auth_value caller client server))) client) ≡ true
credential_right caller client server account is =
    ap (λ (key : List ℕ). bytes_eq (auth_value caller client server).credential (cred_of key client)) (opened_step caller client server account is).key
    ∙ same_bytes (auth_value caller client server).credential

pub passes_step : (o c : SecureChannelState) (timestamp : ℕ) → IsInStep o c → passes_on c (authenticator_of (key_of_channel o) o.seed timestamp) ≡ true
passes_step o c timestamp is =
    ap₂ (λ (key seed : List ℕ). bytes_eq (cred_of (key_of_channel o) (add_to o.seed timestamp)) (cred_of key (add_to seed timestamp))) is.key is.seed
    ∙ same_bytes (cred_of (key_of_channel o) (add_to o.seed timestamp))

pub calls_are_answered : CallsAreAnswered
calls_are_answered = record {
  challenge = λ caller client server line talk name now d left known.
      ap (λ (k : Bool). goes_on (desk d.table (send_reply (put_pair_if k caller.computer (pair_of client server) d.work) line
      (reply.Challenge (record { challenge = server; status = 0 })))) talk left) known;
  opens = λ caller client server account line talk name now d left found is waits.
      let c = auth_value caller client server in
      let channel = channel_for account (pair_of client server) c in
      let work = take_pair caller.computer d.work in
      ap₂ (λ (a : Option Account) (pair : Option ChallengePair). goes_on (desk d.table (judge_account a pair line c work)) talk left) found waits
      ∙ ap (λ (right : Bool). goes_on (desk d.table (open_channel right channel line c work)) talk left) (credential_right caller client server account is)
      ∙ ap (λ (key : List ℕ). goes_on (desk d.table (send_reply (put_channel caller.computer channel work) line
      (reply.Authenticate (record { credential = cred_of key server; flags = offered_flags; status = 0 })))) talk left) (opened_step caller client server account is).key;
  in_step = opened_step;
  judges = λ caller o c info timestamp line talk name now d left found is.
      let given : Authenticator = authenticator_of (key_of_channel o) o.seed timestamp in
      let out : Desk = desk d.table (take_channel caller.computer d.work) in
      ap (λ (f : Option SecureChannelState). goes_on (judge_channel f caller.computer given name now line info level_asked out) talk left) found
      ∙ ap (λ (p : Bool). goes_on (judge_return (return_by p c given) (key_of_channel c) name now line info level_asked
      (desk d.table (put_channel caller.computer (channel_by p c given) out.work))) talk left) (passes_step o c timestamp is)
      ∙ ap₂ (λ (key seed : List ℕ). goes_on (with_judgement (judge_info d.table name now info level_asked) line level_asked key (return_of key seed timestamp)
      (put_channel caller.computer (moved c timestamp) out.work)) talk left) is.key is.seed;
  stays = λ o c timestamp is. record {
    secret = is.secret;
    client = is.client;
    server = is.server;
    flags = is.flags;
    key = is.key;
    seed = ap (λ (seed : List ℕ). next_seed seed timestamp) is.seed;
  };
}
