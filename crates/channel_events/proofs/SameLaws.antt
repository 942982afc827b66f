-- Channels that are one, and the test of it.
-- It serves laws of the crates above.
use Rattle.std.proofs.Common.{◌≡◌, Bool, true, false, refl, sym, ◌∙◌}
use Rattle.std.proofs.lemmas.Bool.Decides.{Decides-like, same_from_decides}
use Rattle.authenticators.specs.Channels.{ChannelIdentity, SameChannel, same_channel}
use Rattle.authenticators.proofs.ChannelLaws.{same_channel-Decides}

-- a test that can't be true
pub fails_so : (test : Bool) → (test ≡ true → ⊥) → test ≡ false
fails_so true none = absurd (none refl)
fails_so false none = refl

pub same_back : (one other : ChannelIdentity) → SameChannel one other → SameChannel other one
same_back one other same = record {
  controller = sym same.controller;
  computer = sym same.computer;
  secret = sym same.secret;
  client = sym same.client;
  server = sym same.server;
  flags = sym same.flags;
}

pub same_on : (one other third : ChannelIdentity) → SameChannel one other → SameChannel other third → SameChannel one third
same_on one other third first second = record {
  controller = first.controller ∙ second.controller;
  computer = first.computer ∙ second.computer;
  secret = first.secret ∙ second.secret;
  client = first.client ∙ second.client;
  server = first.server ∙ second.server;
  flags = first.flags ∙ second.flags;
}

pub same_self : (one : ChannelIdentity) → SameChannel one one
same_self one = record { controller = refl; computer = refl; secret = refl; client = refl; server = refl; flags = refl }

pub one_channel : (one other : ChannelIdentity) → same_channel one other ≡ true → SameChannel one other
one_channel one other is = (same_channel-Decides one other).0 is

pub itself : (one : ChannelIdentity) → same_channel one one ≡ true
itself one = (same_channel-Decides one one).1 (same_self one)

-- the test against either of two that are one
pub found_same : (found one other : ChannelIdentity) → SameChannel one other → same_channel found one ≡ same_channel found other
found_same found one other same =
    same_from_decides (same_channel found one) (same_channel found other)
    (Decides-like (same_channel found one) (λ is. same_on found one other is same) (λ is. same_on found other one is (same_back one other same)) (same_channel-Decides found one))
    (same_channel-Decides found other)
