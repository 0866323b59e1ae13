-- Theorems about the text of a state, which prove the statements beside this folder.
pub mod Texts
pub mod Parts
