-- The offers of a cycle, before and after they are added to the rows.
pub mod Drafts
pub mod Counting
