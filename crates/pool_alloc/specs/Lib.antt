pub mod Blocks
pub mod Pool
pub mod Calls
pub mod Laws
pub use Rattle.page_alloc.specs.Pages
pub use Rattle.page_alloc.specs.Calls as PageCalls
