-- Demand 3: Run is its statement, which a reader must believe; Method is the way to prove it, and may change with the proofs here and in `history`.
pub mod Run
pub mod Method
