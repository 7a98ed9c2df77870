pub mod Fields
pub mod Laws
pub mod Memory
pub mod Tables
