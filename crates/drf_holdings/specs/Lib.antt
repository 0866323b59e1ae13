-- The definitions that the contracts of this crate use.
pub mod Rising
pub mod ByNumber
pub mod Listed
pub mod Taking
pub mod Stored
