pub mod Lines
pub mod ReadBack
pub mod RoundTrip
pub mod Puts
pub mod Admitted
