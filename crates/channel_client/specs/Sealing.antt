-- What the end that asks keeps to seal the units of its channel (MS-NRPC 3.3), and the flags that open a channel that
-- seals (MS-NRPC 3.1.4.2).
use Rattle.std.specs.Prelude.{ℕ, ◌<◌, ◌≤◌, Bool, true, false, List, length, replicate, Option, Some, None}
use Rattle.authenticators.specs.SecureChannels.{SecureChannelState, key_of_channel}
use Rattle.netlogon_seal.specs.Channels.{NlState, nl_state_of}
use Rattle.channel_sealing.specs.Frames.{SealedFrames}
use Rattle.channel_sealing.specs.Trailers.{bind_value_of}
use Rattle.channel_client.specs.declared.state.Sealing.{Sealing}
use Rattle.channel_client.specs.declared.state.Standing.{Standing}
use Rattle.channel_client.specs.declared.state.Standing.TheVariants as standing

-- ---- the flags of a channel that seals

-- what is offered: secure RPC besides what every channel offers
abbrev pub secure_flags : ℕ
secure_flags = 0x4000_41FF

-- what has to be granted: secure RPC and RC4
abbrev pub needed_secure_flags : ℕ
needed_secure_flags = 0x4000_0004

-- ---- what is kept

-- the requester's end of a channel that was never opened, which seals nothing
abbrev pub no_seal : NlState
no_seal = nl_state_of (replicate 16 0) true

-- the names are those of the domain and of the computer
abbrev pub sealing_for : (seals : Bool) (domain computer : List ℕ) → Option Sealing
sealing_for false domain computer = None
sealing_for true domain computer =
    Some (record { bind_value = bind_value_of domain computer; confounder = replicate 8 0; seal = no_seal })

-- with the end of a channel that opens
abbrev pub opened_sealing : Option Sealing → SecureChannelState → Option Sealing
opened_sealing None o = None
opened_sealing (Some g) o = Some (record g { seal = nl_state_of (key_of_channel o) true })

abbrev pub is_opened : Standing → Bool
is_opened standing.Nothing = false
is_opened (standing.Half client server) = false
is_opened (standing.Open o) = true

-- what seals the turn that the channel needs next: an open channel alone is sealed
abbrev pub wire_of : Option Sealing → Standing → Option Sealing
wire_of None how = None
wire_of (Some g) standing.Nothing = None
wire_of (Some g) (standing.Half client server) = None
wire_of (Some g) (standing.Open o) = Some g

-- a challenge that is drawn for a turn on an open channel is the confounder of its call
abbrev pub with_confounder : (is_channel_open : Bool) (challenge : List ℕ) (sealing : Sealing) → Sealing
with_confounder false challenge g = g
with_confounder true challenge g = record g { confounder = challenge }

-- what its binds tell has at most 138 bytes, and at least one
abbrev pub CanSealOn : Option Sealing → Type 0
CanSealOn None = Unit {0}
CanSealOn (Some g) = (0 < length g.bind_value) × (length g.bind_value ≤ 138)

-- what the frames of a request come to once they are sealed, if they can be, and what is kept then: where they can't
-- be, the end is of no use any more
abbrev pub frames_left : Option SealedFrames → Option (List (List ℕ))
frames_left None = None
frames_left (Some sealed) = Some sealed.frames

abbrev pub sealing_left : Option SealedFrames → Sealing → Sealing
sealing_left None g = record g { seal = no_seal }
sealing_left (Some sealed) g = record g { seal = sealed.seal }
