-- Lemmas for the theorem about what events leave unchanged.
mod Standing
