pub mod Map
pub mod Bytes
pub mod Laws
pub use Rattle.page_alloc.specs.Pages
pub use Rattle.page_alloc.specs.Runs
