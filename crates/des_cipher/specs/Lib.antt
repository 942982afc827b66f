pub mod Bits
pub mod Cipher
pub mod Des
pub mod Schedule
pub mod Tables
pub mod Words
pub mod KeyPlaces
