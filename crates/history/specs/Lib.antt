-- What a call shows its caller, and what the fifth number of its answer says; a reader must believe them. The theorems stand in proofs/Final and proofs/Copies.
pub mod Show
pub mod Copies
