-- What is counted and what is asked: a reader must believe it; the theorems stand in proofs/Final. And how an operation hangs.
pub mod Fewest
pub mod Hangs
