-- Definitions of the audit and its lines.
pub mod Held
pub mod Audit
pub mod AuditText
