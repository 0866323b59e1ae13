-- What a sorter holds for given rows, and theorems on it.
pub mod Content
pub mod ContentLaws
pub mod Registering
pub mod Putting
