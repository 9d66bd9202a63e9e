-- The laws of the rules. Tidying, Chosen and the functions' proofs may change freely; `machine`, `runs` and `history` cite the others.
pub mod Stock
pub mod Entries
pub mod Tidying
pub mod Columns
pub mod Enough
pub mod DirectoryViews
pub mod Heard
pub mod Chosen
pub mod Views
pub mod Highest
pub mod Changes
pub mod Covers
pub mod Every
