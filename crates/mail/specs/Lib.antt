-- What a step sends, and the slots where it waits. A reader must believe Posts and Slots; Inner may change with the code.
pub mod Posts
pub mod Slots
pub mod Inner
