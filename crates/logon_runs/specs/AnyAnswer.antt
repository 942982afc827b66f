-- Logons at any member, whatever its controller answers: what controllers answer, the phases, and where they lead.
pub mod AnyLogons
pub mod AnyPhases
pub mod AnyStarts
pub mod ControllerAnswers
pub mod SetAnswers
