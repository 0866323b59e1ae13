-- What is stored at each number of a tree, and paths through it.
pub mod Path
pub mod Way
pub mod Node
pub mod SameFamily
pub mod Copy
pub mod Slice
pub mod Complete
pub mod Name
pub mod Find
pub mod Root
