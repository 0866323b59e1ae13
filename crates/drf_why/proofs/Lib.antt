-- Lemmas for the contracts of explanations.
mod Writes
mod Due
mod Lists
mod Found
mod Picked
mod Tallied
mod Firsts
mod PassersFound
mod Passed
mod Sums
mod Passing
mod Shared
