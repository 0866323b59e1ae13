-- Definitions of what a lint reports and writes.
pub mod Diagnosed
pub mod Judged
pub mod Linted
pub mod Lint
