-- Which marks the units that go out at a step get, and whether a credential that passed came in a unit that was made
-- for another channel (this project's own choice).
use Rattle.std.specs.Prelude.{ℕ, Bool, true, false, not, List, [], ◌∷◌, flat_map, Option, Some, None, slice_get}
use Rattle.authenticators.specs.Channels.{ChannelIdentity, same_channel}
use Rattle.channel_events.specs.Marks.{Mark, Plain, Opening, Opened, Calling, ReplyTo}
use Rattle.step_notes.specs.ControllerNotes.{Answered}
use Rattle.step_notes.specs.MemberNotes.{TurnNote}
use Rattle.step_notes.specs.Records.{Sent}

-- ---- a clash

-- the channel that a unit was made for
abbrev pub mark_channel : Mark → Option ChannelIdentity
mark_channel Plain = None
mark_channel (Opening channel number) = Some channel
mark_channel (Opened channel number request) = Some channel
mark_channel (Calling channel number timestamp) = Some channel
mark_channel (ReplyTo channel number request) = Some channel

abbrev pub is_channel : Option ChannelIdentity → ChannelIdentity → Bool
is_channel None channel = false
is_channel (Some other) channel = same_channel other channel

abbrev pub sent_channel : Option Sent → Option ChannelIdentity
sent_channel None = None
sent_channel (Some sent) = mark_channel sent.mark

-- a credential that passed on a channel, in that unit of the bag: the unit wasn't made for that channel. Bytes from
-- outside are no unit of the bag
abbrev pub clashes_in : Option ℕ → ChannelIdentity → List Sent → Bool
clashes_in None channel sent = false
clashes_in (Some unit) channel sent = not (is_channel (sent_channel (slice_get sent unit)) channel)

abbrev pub clashes : Option ChannelIdentity → Option ℕ → List Sent → Bool
clashes None unit sent = false
clashes (Some channel) unit sent = clashes_in unit channel sent

-- ---- at a controller

abbrev pub mark_if : Bool → Mark → List Mark
mark_if false mark = []
mark_if true mark = mark ∷ []

abbrev pub answered_marks : List Answered → List Mark
answered_marks answers = flat_map (λ (one : Answered). mark_if one.sends one.mark) answers

-- ---- at a member

abbrev pub turn_marks : List TurnNote → List Mark
turn_marks notes = flat_map (λ (one : TurnNote). mark_if one.sends one.mark) notes
