-- What the command line does, as its contracts describe it.
pub mod Arguments
pub mod FileNames
pub mod Reported
pub mod Streams
pub mod Refused
pub mod Starts
pub mod Line
pub mod Verdicts
pub mod Lints
pub mod Drives
pub mod Done
pub mod Saving
pub mod ResumeLaws
