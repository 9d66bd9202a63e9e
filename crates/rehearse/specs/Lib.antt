-- What the program writes of what it reads: a reader must believe Rehearsal, Pieces and the end of Turns, `Rehearsed` and `Rehearses`. The rest of Turns may change with the code.
pub mod Rehearsal
pub mod Pieces
pub mod Turns
