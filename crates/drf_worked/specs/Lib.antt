-- Runs with their expected replies, and definitions for writing such runs.
pub mod Examples
pub mod OrderExamples
pub mod WeightExamples
pub mod ReportExamples
pub mod LifeExamples
pub mod FilterExamples
pub mod QuotaExamples
pub mod PortExamples
pub mod RoleExamples
