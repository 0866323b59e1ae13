-- Finite sets of numbers as intervals, finite sets of labels as lists, and theorems about them.
pub mod Intervals
pub mod Listed
pub mod Names
pub mod NumberSetLaws
pub mod SetLaws
pub mod Sets
pub mod Sweep
pub mod TextSetLaws
