-- The machine's calls, document 01, "Steps" and "What a call hands back". A reader must believe all but Rehearsal, the worked example, and Told and Inner, which may change with the code.
pub mod SetUp
pub mod Effects
pub mod Calls
pub mod Deliver
pub mod Refusals
pub mod Steps
pub mod Buffers
pub mod Told
pub mod Inner
pub mod Rehearsal
