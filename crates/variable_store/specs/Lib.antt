pub mod Entries
pub mod Sets
pub mod Valid
pub mod Store
pub mod Reading
pub mod Laws
