-- What tags and sets of parties are; a reader must believe all but Inner. Every crate reads these files: change a meaning here last.
pub mod Plain
pub mod Tags
pub mod Sets
pub mod Inner
