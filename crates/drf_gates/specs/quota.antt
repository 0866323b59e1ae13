-- Quota limits of roles, and what roles consume.
pub mod Prefix
pub mod PrefixLaws
pub mod Allowance
pub mod Totals
