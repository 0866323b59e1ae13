-- Examples, computed from the definitions of this crate.
pub mod Examples
