-- The definitions of runs over lines, of journals and their checks, and the theorems about them.
pub mod Device
pub mod Lines
pub mod Output
pub mod State
pub mod Ended
pub mod Journal
pub mod Checking
pub mod Audited
pub mod Resumed
pub mod JournalLaws
pub mod Files
