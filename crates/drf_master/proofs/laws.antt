-- Theorems about the definitions beside this folder.
pub mod ShuffleLaws
