-- Clients in the slots of a ledger.
pub mod Rows
