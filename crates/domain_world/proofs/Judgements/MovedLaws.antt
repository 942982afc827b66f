-- How far the authenticators that passed on a channel moved its seed.
-- It serves `carried_calls_are_heard`, `Proved.grants`, `Proved.replays` and 5 more.
use Rattle.std.proofs.Common.{◌≡◌, ℕ, ◌+◌, Bool, true, false, List, [], ◌∷◌, ◌++◌, Option, Some, None, refl, ap, ◌∙◌, arith}
use Rattle.authenticators.specs.Channels.{ChannelIdentity, SameChannel, same_channel}
use Rattle.authenticators.specs.SecureChannels.{SecureChannelState, channel_of}
use Rattle.channel_events.proofs.SameLaws.{fails_so, found_same, one_channel}
use Rattle.step_notes.specs.ControllerNotes.{channel_in, has_passed}
use Rattle.step_notes.specs.Judged.{channel_if, passed_channel}
use Rattle.step_notes.specs.Marking.{is_channel}
use Rattle.step_notes.specs.Records.{Judging, computer_named}
use Rattle.domain_world.specs.Claims.{moved_if, moved_on, passed_on, judged_timestamp}

-- ---- how far a seed moved

on_same : (found : Option ChannelIdentity) (one other : ChannelIdentity) → SameChannel one other → is_channel found one ≡ is_channel found other
on_same None one other same = refl
on_same (Some found) one other same = found_same found one other same

-- a channel's seed moved as far, whatever the case of its computer's name
pub moved_same : (one other : ChannelIdentity) → SameChannel one other → (judgings : List Judging) → moved_on one judgings ≡ moved_on other judgings
moved_same one other same [] = refl
moved_same one other same (j ∷ judgings) =
    ap (λ (passed : Bool). moved_if passed (judged_timestamp j) (moved_on one judgings)) (on_same (passed_channel j) one other same)
    ∙ ap (λ (moved : ℕ). moved_if (passed_on other j) (judged_timestamp j) moved) (moved_same one other same judgings)

more_if : (passed : Bool) (timestamp all some rest : ℕ) → all ≡ some + rest → moved_if passed timestamp all ≡ moved_if passed timestamp some + rest
more_if false timestamp all some rest is = is
more_if true timestamp all some rest is = omega (arith, is)

pub moved_append : (channel : ChannelIdentity) (later earlier : List Judging) → moved_on channel (later ++ earlier) ≡ moved_on channel later + moved_on channel earlier
moved_append channel [] earlier = omega arith
moved_append channel (j ∷ later) earlier =
    more_if (passed_on channel j) (judged_timestamp j) (moved_on channel (later ++ earlier)) (moved_on channel later) (moved_on channel earlier) (moved_append channel later earlier)

not_on : (found : Option ChannelIdentity) (channel : ChannelIdentity) → ((other : ChannelIdentity) → found ≡ Some other → SameChannel other channel → ⊥) → is_channel found channel ≡ false
not_on None channel none = refl
not_on (Some other) channel none = fails_so (same_channel other channel) (λ is. none other refl (one_channel other channel is))

-- a call that didn't pass on the channel doesn't move its seed
pub moved_past : (channel : ChannelIdentity) (j : Judging) (judgings : List Judging) → ((other : ChannelIdentity) → passed_channel j ≡ Some other → SameChannel other channel → ⊥) →
    moved_on channel (j ∷ judgings) ≡ moved_on channel judgings
moved_past channel j judgings none =
    ap (λ (passed : Bool). moved_if passed (judged_timestamp j) (moved_on channel judgings)) (not_on (passed_channel j) channel none)

-- ---- the channel that a call is checked on

-- a channel is that of the computer that the call names, in the state in which the call met it
pub record IsFound (controller : ℕ) (computer : Option (List ℕ)) (checks : Option SecureChannelState) (channel : ChannelIdentity) : Type 0 where
  pub name : List ℕ
  pub state : SecureChannelState
  pub named : computer ≡ Some name
  pub stands : checks ≡ Some state
  pub is : channel_of controller name state ≡ channel

pub found_in : (controller : ℕ) (computer : Option (List ℕ)) (checks : Option SecureChannelState) (channel : ChannelIdentity) → channel_in controller computer checks ≡ Some channel →
    IsFound controller computer checks channel
found_in controller None checks channel is = absurd cc
found_in controller (Some name) None channel is = absurd cc
found_in controller (Some name) (Some state) channel is = record { name = name; state = state; named = refl; stands = refl; is = cc }

passed_if : (passed : Bool) (j : Judging) (channel : ChannelIdentity) → channel_if passed j ≡ Some channel → channel_in j.controller (computer_named j.asked) j.checks ≡ Some channel
passed_if false j channel is = absurd cc
passed_if true j channel is = is

pub passed_in : (j : Judging) (channel : ChannelIdentity) → passed_channel j ≡ Some channel → IsFound j.controller (computer_named j.asked) j.checks channel
passed_in j channel is = found_in j.controller (computer_named j.asked) j.checks channel (passed_if (has_passed j.how) j channel is)

-- a call that was barred, or found no channel, passed on none
pub not_passed : (passed : Bool) (j : Judging) (channel : ChannelIdentity) → passed ≡ false → channel_if passed j ≡ Some channel → ⊥
not_passed false j channel none is = absurd cc
not_passed true j channel none is = absurd cc
