pub mod Sites
pub mod Grounds
pub mod Rules
pub mod Frames
pub mod Attested
pub mod Laws
