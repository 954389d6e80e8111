pub mod Sets
pub mod Facts
pub mod Validity
pub mod Agreement
pub mod Examples
