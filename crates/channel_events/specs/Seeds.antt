-- The seed of a secure channel after authenticators (MS-NRPC 3.1.4.5).
use Rattle.std.specs.Prelude.{ℕ, List}
use Rattle.channel_keys.specs.Credentials.{cred_of}
use Rattle.authenticators.specs.Channels.{ChannelIdentity, channel_key}
use Rattle.authenticators.specs.Sequences.{add_to, moved_by}

-- the client's credential on the channel, 8 bytes, with which the sequence begins
abbrev pub client_credential : ChannelIdentity → List ℕ
client_credential channel = cred_of (channel_key channel) channel.client

-- the seed after authenticators with these timestamps: the client's credential moved by the sum of each plus one
abbrev pub channel_seed : ChannelIdentity → List ℕ → List ℕ
channel_seed channel timestamps = add_to (client_credential channel) (moved_by timestamps)
