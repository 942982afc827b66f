-- A secure channel at one of its ends (MS-NRPC 3.1.1, 3.1.4.1 to 3.1.4.5): what was negotiated, and how far the
-- sequence of authenticators is. Both ends keep this; `Channels` has the channel between them, with its ends' names,
-- without its type and what moves. A secret and a session key have 16 bytes; a challenge, a seed and a credential have
-- 8.
use Rattle.std.specs.Prelude.{ℕ, Bool, true, false, List, Option, Some, None, bytes_eq}
use Rattle.wire_base.specs.declared.authenticator.Authenticator.{Authenticator}
use Rattle.channel_keys.specs.Credentials.{cred_of}
use Rattle.channel_keys.specs.SessionKeys.{key_of}
use Rattle.authenticators.specs.Channels.{ChannelIdentity}
use Rattle.authenticators.specs.Sequences.{next_seed, passes, return_of}

pub record SecureChannelState : Type 0 where
  -- the NT hash of the computer's account
  pub secret : List ℕ
  -- the client's and the server's challenge
  pub client : List ℕ
  pub server : List ℕ
  -- the flags that were negotiated
  pub flags : ℕ
  -- the type of the channel (2.2.1.3.13) as the call named it that opened it, at an end that judges; an end that asks
  -- keeps none here, since whoever asks names it
  pub kind : Option ℕ
  -- the seed of the next authenticator
  pub seed : List ℕ
  -- the return credential that the call that is out waits for; an end that only judges awaits none
  pub awaited : Option (List ℕ)

-- the key isn't kept: it is that of the secret, the challenges and the flags
abbrev pub key_of_channel : SecureChannelState → List ℕ
key_of_channel c = key_of c.secret c.client c.server c.flags

-- a channel as it opens: the seed is the client's credential, and none is awaited. No type is kept yet
abbrev pub fresh_channel : List ℕ → List ℕ → List ℕ → ℕ → SecureChannelState
fresh_channel secret client server flags = record {
  secret = secret;
  client = client;
  server = server;
  flags = flags;
  kind = None;
  seed = cred_of (key_of secret client server flags) client;
  awaited = None;
}

-- a channel of that type, at the end that judges
abbrev pub with_kind : ℕ → SecureChannelState → SecureChannelState
with_kind kind c = record c { kind = Some kind }

-- the channel between both ends, by the number of its controller and the name of its computer
abbrev pub channel_of : ℕ → List ℕ → SecureChannelState → ChannelIdentity
channel_of controller computer c = record {
  controller = controller;
  computer = computer;
  secret = c.secret;
  client = c.client;
  server = c.server;
  flags = c.flags;
}

-- ---- the end that asks

-- after an authenticator with this timestamp
abbrev pub after_call : SecureChannelState → ℕ → SecureChannelState
after_call c timestamp = record c {
  seed = next_seed c.seed timestamp;
  awaited = Some (return_of (key_of_channel c) c.seed timestamp);
}

-- a return credential is the one that is awaited
abbrev pub is_awaited : Option (List ℕ) → List ℕ → Bool
is_awaited None credential = false
is_awaited (Some awaited) credential = bytes_eq credential awaited

-- once the awaited credential came, none is awaited
abbrev pub after_return : (is_awaited_one : Bool) (channel : SecureChannelState) → SecureChannelState
after_return false c = c
after_return true c = record c { awaited = None }

-- ---- the end that judges

-- an authenticator is the next one of the channel
abbrev pub passes_on : SecureChannelState → Authenticator → Bool
passes_on c given = passes (key_of_channel c) c.seed given

-- the credential that is returned for an authenticator
abbrev pub return_by : (is_passed : Bool) (channel : SecureChannelState) (given : Authenticator) → Option (List ℕ)
return_by false c given = None
return_by true c given = Some (return_of (key_of_channel c) c.seed given.timestamp)

-- the channel after an authenticator. What is awaited stays.
abbrev pub channel_by : (is_passed : Bool) (channel : SecureChannelState) (given : Authenticator) → SecureChannelState
channel_by false c given = c
channel_by true c given = record c { seed = next_seed c.seed given.timestamp }
