-- The sums of nodes over the clients below them.
pub mod Content
pub mod Fit
pub mod Others
pub mod Move
pub mod Leaf
pub mod Share
