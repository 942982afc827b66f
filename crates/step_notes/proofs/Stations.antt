-- What is written down of the bytes that come on a station's link.
pub mod StationNoteLaws
pub mod StationSendLaws
pub mod StationTakeLaws
pub mod StationViewLaws
