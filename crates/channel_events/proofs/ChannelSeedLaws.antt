-- How far timestamps move the seed of a channel.
-- It serves `Proved.sequences`.
use Rattle.std.proofs.Common.{◌≡◌, ℕ, ◌+◌, List, [], sym, ap, ap₂, ◌∙◌}
use Rattle.channel_keys.specs.Credentials.{cred_of}
use Rattle.channel_keys.proofs.CredLaws.{IsBlock-cred_of}
use Rattle.authenticators.specs.Channels.{ChannelIdentity, SameChannel, channel_key}
use Rattle.authenticators.specs.Sequences.{add_to, moved_by, next_seed}
use Rattle.authenticators.proofs.ChannelLaws.{channel_key-same}
use Rattle.authenticators.proofs.SeedLaws.{add_to-add_to, add_to-zero}
use Rattle.channel_events.specs.Seeds.{channel_seed, client_credential}
use Rattle.channel_events.proofs.TimestampLaws.{moved_none}

-- ---- a seed

-- the client's credential is the seed that nothing moved
pub first_seed : (c : ChannelIdentity) (timestamps : List ℕ) → timestamps ≡ [] → client_credential c ≡ channel_seed c timestamps
first_seed c timestamps none =
    sym (add_to-zero (client_credential c) (IsBlock-cred_of (channel_key c) c.client))
    ∙ ap (λ (n : ℕ). add_to (client_credential c) n) (sym moved_none ∙ ap moved_by (sym none))

-- the seed after one more
pub next_is : (c : ChannelIdentity) (seed : List ℕ) (timestamp : ℕ) (timestamps more : List ℕ) → seed ≡ channel_seed c timestamps → moved_by more ≡ moved_by timestamps + (timestamp + 1) →
    next_seed seed timestamp ≡ channel_seed c more
next_is c seed timestamp timestamps more is sum =
    ap (λ (x : List ℕ). add_to x (timestamp + 1)) is
    ∙ add_to-add_to (client_credential c) (moved_by timestamps) (timestamp + 1)
    ∙ ap (add_to (client_credential c)) (sym sum)

pub same_credential : (one other : ChannelIdentity) → SameChannel one other → client_credential one ≡ client_credential other
same_credential one other same = ap₂ cred_of (channel_key-same one other same) same.client
