pub mod Grounds
pub mod Rules
pub mod Faults
pub mod Pointers
pub mod Laws
