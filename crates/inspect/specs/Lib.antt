-- Which machines are bad: Good, which a reader must believe. Inner may change with the code.
pub mod Good
pub mod Inner
