-- The lines of a report.
pub mod Numbers
pub mod Nodes
