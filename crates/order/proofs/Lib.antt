-- From the method to one line: Atomic and Hours are cited by `history`; the rest may change freely.
pub mod Lists
pub mod Book
pub mod Held
pub mod Line
pub mod Atomic
pub mod Hours
pub mod Examples
