pub mod Walking
pub mod Wells
