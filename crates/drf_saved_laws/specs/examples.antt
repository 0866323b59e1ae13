-- Examples that are computed from the definitions of saved rows.
pub mod StateExamples
