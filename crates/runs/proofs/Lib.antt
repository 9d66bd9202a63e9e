-- The theorems of every run: Refused, One, Runs, Never. Codes, Ways, Acts, Sound, New, Rows and Kept are cited above; the rest may change freely.
pub mod Codes
pub mod Ways
pub mod Acts
pub mod Refused
pub mod One
pub mod Sound
pub mod Sent
pub mod Directories
pub mod Once
pub mod Replicas
pub mod Busy
pub mod Clients
pub mod New
pub mod Rows
pub mod Kept
pub mod Runs
pub mod Never
