-- What the contracts of the core say: the allocator as callers see it, refusals, cycles, and the work of the sorter.
pub mod Machine
pub mod Copies
pub mod Keeping
pub mod Cluster
pub mod Working
pub mod cycle
pub mod refusal
pub mod events
