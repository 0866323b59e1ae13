-- Lemmas for the contracts of the tables and their text.
mod Known
mod Parts
mod Sums
mod Widths
mod RowTexts
mod Counting
mod Wrote
mod Shows
