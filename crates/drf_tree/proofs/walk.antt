-- The walk of a tree is in the definition's order, and its steps keep this.
pub mod OneOrder
pub mod InOrder
pub mod Members
pub mod IsOrder
pub mod OrderOfTree
pub mod Clients
pub mod Below
pub mod Frames
pub mod Nested
pub mod Step
pub mod Pass
pub mod Kept
