-- The definitions of questions, of their answers, and of runs with questions.
pub mod Question
pub mod Answer
pub mod Asked
pub mod Asking
pub mod Ended
