-- Quota limits of roles, and what roles consume.
pub mod Used
pub mod Rows
pub mod Gone
pub mod Resources
pub mod Total
pub mod Carry
pub mod Room
pub mod Prefix
pub mod Leave
pub mod Least
pub mod Something
pub mod Swapped
