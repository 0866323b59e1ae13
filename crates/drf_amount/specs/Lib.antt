-- What amounts and pools are, and what the methods of a pool do.
pub mod Algebra
pub mod Pool
pub mod PoolCalls
pub mod Scalar
pub mod ScalarLaws
