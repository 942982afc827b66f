-- What a unit is made for, of one secure channel (this project's own choice).
use Rattle.std.specs.Prelude.{ℕ}
use Rattle.authenticators.specs.Channels.{ChannelIdentity}

-- What a unit was made for: a channel, or none (this project's own choice).
pub data Mark : Type 0 where
  -- a bind, its answer, a NetrServerReqChallenge, a refusal, or anything between a client and a member
  Plain : Mark
  -- the NetrServerAuthenticate2 that opens the channel, with its call number (C706 12.6.3.1)
  Opening : (channel : ChannelIdentity) (number : ℕ) → Mark
  -- the reply that accepts the call of that number, which came in the unit `request`
  Opened : (channel : ChannelIdentity) (number request : ℕ) → Mark
  -- a NetrLogonSamLogon on the channel, with its call number, and the timestamp of its authenticator
  Calling : (channel : ChannelIdentity) (number timestamp : ℕ) → Mark
  -- the reply to the call of that number on the channel, which came in the unit `request` and passed
  ReplyTo : (channel : ChannelIdentity) (number request : ℕ) → Mark
