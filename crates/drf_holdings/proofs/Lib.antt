-- The lemmas of this crate.
mod Lists
mod RisingLists
mod Slots
mod Places
mod Slotted
mod Moved
mod Numbered
mod Removed
mod Parts
mod Named
mod Running
mod Unlisted
pub mod RisingLaws
