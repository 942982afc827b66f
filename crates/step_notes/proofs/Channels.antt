-- What is written down of a secure channel at one step, of either end.
pub mod ChannelNameLaws
pub mod EffectNoteLaws
pub mod MarkLaws
