-- The laws of tests, of tags and of sets of parties, for every crate. All are cited above; the functions' proofs may change freely.
pub mod Tests
pub mod TagOrder
pub mod Digits
pub mod Laws
pub mod Members
