-- What the contracts of the tables say: the rows that the fields mean, and the changes of these rows.
pub mod cycle
pub mod offers
pub mod Stored
pub mod Inside
pub mod registry
pub mod limits
