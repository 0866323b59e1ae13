-- The definition of the allocator, and theorems that decide whether an offer covers tasks. DEFINITION.md says in which
-- order to read the files.
pub mod LimitNumbers
pub mod Limits
pub mod Client
pub mod Share
pub mod Holdings
pub mod Held
pub mod Weights
pub mod Filters
pub mod Tasks
pub mod TaskLaws
pub mod Quota
pub mod Cycle
pub mod Totals
pub mod Releases
pub mod Ended
pub mod Offers
pub mod Members
pub mod Roles
pub mod Report
pub mod Consistent
pub mod Refusal
pub mod Step
