-- Lemmas on the tests of refusals.
pub mod Known
pub mod Late
pub mod Roles
pub mod Tests
