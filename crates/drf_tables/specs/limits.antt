-- What roles consume.
pub mod Recounting
