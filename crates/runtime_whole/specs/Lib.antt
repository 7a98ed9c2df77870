pub mod Boots
pub mod Guards
pub mod Ends
pub mod Laws
pub mod Services
