pub mod Channels
pub mod ClientNoteLaws
pub mod Controllers
pub mod Members
pub mod ServedLaws
pub mod Stations
