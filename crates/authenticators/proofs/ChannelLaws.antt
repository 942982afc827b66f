-- Channels that are one: the test of it, and their session key.
use Rattle.std.proofs.Common.{◌≡◌, ap₂, ◌∙◌}
use Rattle.std.specs.Bool.{Decides}
use Rattle.std.proofs.lemmas.Bool.Decides.{Decides-and, Decides-eqb, Decides-like}
use Rattle.std.proofs.lemmas.Slice.Eq.{bytes_eq-Decides}
use Rattle.wire_base.proofs.NameLaws.{same_name-Decides}
use Rattle.channel_keys.specs.SessionKeys.{key_of}
use Rattle.authenticators.specs.Channels.{ChannelIdentity, SameChannel, same_channel, channel_key}

pub channel_key-same : (one other : ChannelIdentity) → SameChannel one other → channel_key one ≡ channel_key other
channel_key-same one other same =
    ap₂ (λ secret client. key_of secret client one.server one.flags) same.secret same.client
    ∙ ap₂ (λ server flags. key_of other.secret other.client server flags) same.server same.flags

pub same_channel-Decides : (one other : ChannelIdentity) → Decides (same_channel one other) (SameChannel one other)
same_channel-Decides one other =
    Decides-like _
    (λ parts. record {
      controller = parts.0.0.0.0.0;
      computer = parts.0.0.0.0.1;
      secret = parts.0.0.0.1;
      client = parts.0.0.1;
      server = parts.0.1;
      flags = parts.1;
    })
    (λ same. (((((same.controller, same.computer), same.secret), same.client), same.server), same.flags))
    (Decides-and _ _ (Decides-and _ _ (Decides-and _ _ (Decides-and _ _ (Decides-and _ _ (Decides-eqb one.controller other.controller) (same_name-Decides one.computer other.computer)) (bytes_eq-Decides one.secret other.secret)) (bytes_eq-Decides one.client other.client)) (bytes_eq-Decides one.server other.server)) (Decides-eqb one.flags other.flags))
