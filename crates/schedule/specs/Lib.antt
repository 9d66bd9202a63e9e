-- What a schedule's lines are, and the lines that answer them: a reader of the program must believe Text and Lines. Inner may change with the code.
pub mod Text
pub mod Lines
pub mod Input
pub mod Inner
