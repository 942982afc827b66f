-- `Frames` carry a fact through all moves, `Moves` are facts of every run that others rest on. `Challenges` and
-- `Messages`, `Calls`, `Quiet`, `Judgements` and `Sequences` are of what members and controllers say to each other.
-- `Acceptance` joins them to the claims on answers, `Clear` and `Completeness` are of logons that come one at a time,
-- and `HeadlineLaws` gathers all.
pub mod Acceptance
pub mod Apart
pub mod Calls
pub mod Challenges
pub mod Clear
pub mod Completeness
pub mod DrivingLaws
pub mod Frames
pub mod HeadlineLaws
pub mod Judgements
pub mod Messages
pub mod Moves
pub mod Quiet
pub mod Sequences
pub mod Unforwarded
