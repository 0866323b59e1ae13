-- Texts, names, roles and paths: what they are, and theorems about them.
pub mod Text
pub mod TextLaws
pub mod Name
pub mod Parts
pub mod Path
pub mod PathLaws
pub mod Role
pub mod Spans
pub mod Tests
pub mod LabelText
