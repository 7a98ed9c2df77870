pub mod Registrations
pub mod Opening
pub mod Calls
pub mod Whole
pub use Rattle.handle_db.specs.Database
pub use Rattle.handle_db.specs.Calls as HandleCalls
pub use Rattle.handle_db.specs.Whole as HandleWhole
pub mod Laws
