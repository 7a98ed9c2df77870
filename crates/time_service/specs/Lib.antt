pub mod Times
pub mod Days
pub mod Clocks
pub mod Texts
pub mod Laws
