-- The laws of the mail: Messages and Words are cited above; Sending and the functions' proofs may change freely.
pub mod Messages
pub mod Words
pub mod Sending
