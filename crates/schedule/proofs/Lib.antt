-- The laws of digits, lines and pending lines; Exact: a line is a command exactly where it is the command's text; the paper's example. All but Exact may change freely.
pub mod Digits
pub mod Scan
pub mod Pending
pub mod Spelled
pub mod Exact
pub mod Example
