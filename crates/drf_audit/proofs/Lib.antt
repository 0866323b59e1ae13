-- Lemmas for the contracts of the audit.
mod Parts
mod Lines
