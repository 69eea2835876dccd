pub mod Atom
pub mod States
pub mod Plans
pub mod Automata
pub mod Children
pub mod Cells
