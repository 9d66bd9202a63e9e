-- The rules of directory, replica and client, document 01, "Steps". A reader must believe all but Bench, the twelve examples, and Inner, which may change with the code.
pub mod Inner
pub mod Quorums
pub mod Directory
pub mod Replica
pub mod Client
pub mod Answers
pub mod Bench
