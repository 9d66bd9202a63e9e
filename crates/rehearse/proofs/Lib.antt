-- The laws of the program's lines, turns and chunks; Pieces: whatever the pieces of the input, what is written is its rehearsal; an example. All but Pieces may change freely.
pub mod Lines
pub mod Turns
pub mod Pieces
pub mod Example
