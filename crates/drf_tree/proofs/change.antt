-- A tree after a change of one client or weight.
pub mod Climb
pub mod Tree
pub mod Admit
pub mod Changed
pub mod Lower
pub mod Active
pub mod Charge
pub mod Label
pub mod Dismiss
pub mod Weigh
