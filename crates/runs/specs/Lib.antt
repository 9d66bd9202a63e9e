-- The words of the theorems on runs; a reader must believe them. The theorems stand in proofs/.
pub mod Runs
