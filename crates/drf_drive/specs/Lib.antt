-- What a drive of files reads and writes, as its contracts describe it.
pub mod Files
pub mod Scripts
pub mod JournalText
pub mod Driven
