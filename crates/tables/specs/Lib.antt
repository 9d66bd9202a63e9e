-- What the tables are: rows of words, the machine as records, and which fields each kind and phase uses. A reader must believe all but Inner, which may change with the code.
pub mod Rows
pub mod Tables
pub mod Words
pub mod Layouts
pub mod Machines
pub mod Kinds
pub mod Phases
pub mod Inner
