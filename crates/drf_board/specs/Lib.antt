-- What a board publishes, as its contracts describe it.
pub mod History
pub mod Sheets
pub mod Slates
pub mod Boards
pub mod Chains
