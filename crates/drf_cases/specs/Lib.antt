-- Runs with the expected replies, which contain each refusal.
pub mod Dialogue
pub mod AgentCases
pub mod FrameworkCases
pub mod OfferCases
pub mod RoleCases
pub mod FullCases
pub mod RefusalCases
pub mod ServedCases
pub mod Untouched
