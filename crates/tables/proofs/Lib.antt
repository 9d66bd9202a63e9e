-- The laws of the tables: parts, rows and blocks of words, where each row stands, loops over rows, and the round trips between words and machine. The functions' proofs may change freely; the others are cited above.
pub mod All
pub mod Parts
pub mod Table
pub mod Blocks
pub mod Read
pub mod Loops
pub mod Lists
pub mod Chains
pub mod Whole
pub mod Round
pub mod Holds
pub mod Quorums
