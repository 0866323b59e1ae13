-- Definitions of the text of an explanation.
pub mod Asked
pub mod Written
pub mod Pick
pub mod Passers
pub mod Places
pub mod Shares
pub mod Tally
pub mod SumLaws
pub mod PassLaws
