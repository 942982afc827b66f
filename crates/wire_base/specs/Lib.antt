pub mod Decimal
pub mod Lists
pub mod Maps
pub mod Memory
pub mod Names
pub mod Numbers
pub mod Sid
pub mod Units
