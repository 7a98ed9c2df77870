pub mod Ram
pub mod PageServices
pub mod Copies
pub mod MapService
pub mod PoolServices
