pub mod Hmac
pub mod Md4
pub mod StandsFor
