-- In which order controllers accept the openings of secure channels, and what they keep of them (MS-NRPC 3.5.4.4.1,
-- 3.5.4.4.3; what is claimed is this project's own choice).
use Rattle.std.specs.Prelude.{ℕ, ◌≡◌, ◌≢◌, ◌==◌, ◌&&◌, Bool, true, false, List, [], ◌∷◌, Option, Some, None, slice_get}
use Rattle.std.specs.List.{AllByRecursion, AllPairs}
use Rattle.wire_base.specs.Names.{SameName, same_name}
use Rattle.authenticators.specs.Channels.{ChannelIdentity, SameChannel}
use Rattle.domain_controller.specs.State.{State as ControllerState}
use Rattle.domain_controller.specs.declared.state.Running.{Running}
use Rattle.step_notes.specs.KeptNotes.{keeps_in, waits_in}
use Rattle.step_notes.specs.Records.{ChannelAccepted}
use Rattle.domain_world.specs.Past.{Past}

-- ---- what controllers keep

-- A server's challenge waits at the controller for that computer.
pub record WaitsAt (controllers : List ControllerState) (controller : ℕ) (computer server : List ℕ) : Type 0 where
  pub state : ControllerState
  pub running : Running
  pub at : slice_get controllers controller ≡ Some state
  pub runs : state.running ≡ Some running
  pub waits : waits_in running.computers computer ≡ Some server

-- The controller keeps that channel for that computer.
pub record KeepsAt (controllers : List ControllerState) (controller : ℕ) (computer : List ℕ) (channel : ChannelIdentity) : Type 0 where
  pub state : ControllerState
  pub running : Running
  pub at : slice_get controllers controller ≡ Some state
  pub runs : state.running ≡ Some running
  pub keeps : keeps_in controller running.computers computer ≡ Some channel

-- ---- which one was accepted last

abbrev pub is_opened_for : ℕ → List ℕ → ChannelAccepted → Bool
is_opened_for controller computer one = (one.channel.controller == controller) && same_name computer one.channel.computer

abbrev pub newer_if : Bool → ChannelAccepted → Option ChannelAccepted → Option ChannelAccepted
newer_if false one older = older
newer_if true one older = Some one

-- the one that the controller accepted last for the computer; the newest stands first
abbrev pub last_accepted : ℕ → List ℕ → List ChannelAccepted → Option ChannelAccepted
last_accepted controller computer [] = None
last_accepted controller computer (one ∷ older) =
    newer_if (is_opened_for controller computer one) one (last_accepted controller computer older)

-- the channel is the one that was accepted last
pub record IsLastAccepted (controller : ℕ) (computer : List ℕ) (channel : ChannelIdentity) (accepted : List ChannelAccepted) : Type 0 where
  pub one : ChannelAccepted
  pub last : last_accepted controller computer accepted ≡ Some one
  pub same : SameChannel one.channel channel

-- the challenge is that of no opening that was accepted
abbrev pub IsUnused : List ℕ → List ChannelAccepted → Type 0
IsUnused server accepted = AllByRecursion (λ (one : ChannelAccepted). one.channel.server ≢ server) accepted

-- ---- the claim

-- No two openings that were accepted have one challenge of a server, so none is accepted twice. The channel that a
-- controller keeps for a computer is the one that it accepted last for it, so a channel that was replaced never comes
-- back. A server's challenge that waits opened no channel, and waits at one controller, for one computer.
pub record OpeningsAreInOrder (past : Past) : Type 0 where
  pub once : AllPairs (λ (one other : ChannelAccepted). one.channel.server ≢ other.channel.server) past.book.accepted
  pub last : (controller : ℕ) (computer : List ℕ) (channel : ChannelIdentity) → KeepsAt past.world.state.ends.controllers controller computer channel →
      IsLastAccepted controller computer channel past.book.accepted
  pub unused : (controller : ℕ) (computer server : List ℕ) → WaitsAt past.world.state.ends.controllers controller computer server →
      IsUnused server past.book.accepted
  pub one : (controller other : ℕ) (computer more server : List ℕ) → WaitsAt past.world.state.ends.controllers controller computer server →
      WaitsAt past.world.state.ends.controllers other more server → (controller ≡ other) × SameName computer more
