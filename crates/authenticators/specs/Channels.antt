-- When two secure channels are one: a session key and a sequence belong to a channel, and say nothing of another. This
-- is the channel between two ends, told by both; what each end keeps of it, with the seed that moves, is in
-- `SecureChannels`, and `channel_of` there names the channel that it is of.
use Rattle.std.specs.Prelude.{◌≡◌, ℕ, ◌==◌, ◌&&◌, Bool, List, bytes_eq}
use Rattle.wire_base.specs.Names.{SameName, same_name}
use Rattle.channel_keys.specs.SessionKeys.{key_of}

-- which secure channel it is (MS-NRPC 3.1.4.1): its ends, the secret that they share, and what was negotiated
pub record ChannelIdentity : Type 0 where
  -- the domain controller, by a number that tells controllers apart
  pub controller : ℕ
  -- the name of the computer at the other end
  pub computer : List ℕ
  -- the NT hash of its account, 16 bytes
  pub secret : List ℕ
  -- the client's and the server's challenge, 8 bytes each
  pub client : List ℕ
  pub server : List ℕ
  -- the flags granted, below 2^32
  pub flags : ℕ

-- one channel is another: names are compared without case, all else as it is
pub record SameChannel (one other : ChannelIdentity) : Type 0 where
  pub controller : one.controller ≡ other.controller
  pub computer : SameName one.computer other.computer
  pub secret : one.secret ≡ other.secret
  pub client : one.client ≡ other.client
  pub server : one.server ≡ other.server
  pub flags : one.flags ≡ other.flags

-- the test of it
abbrev pub same_channel : ChannelIdentity → ChannelIdentity → Bool
same_channel one other =
    (one.controller == other.controller)
    && same_name one.computer other.computer
    && bytes_eq one.secret other.secret
    && bytes_eq one.client other.client
    && bytes_eq one.server other.server
    && (one.flags == other.flags)

-- the session key of a channel
abbrev pub channel_key : ChannelIdentity → List ℕ
channel_key channel = key_of channel.secret channel.client channel.server channel.flags
