-- The phases of a logon that is granted, in whichever order its moves come.
pub mod PhaseEndLaws
pub mod PhaseLaws
pub mod PhaseStartLaws
pub mod PhaseTurnLaws
