-- The laws of the tests, and what a good machine says. Facts, Machines, Made, Kept and Tests are cited above; the rest and the functions' proofs may change freely.
pub mod Tests
pub mod Each
pub mod Chains
pub mod Zeros
pub mod Within
pub mod Once
pub mod Marks
pub mod Facts
pub mod Machines
pub mod Made
pub mod Kept
