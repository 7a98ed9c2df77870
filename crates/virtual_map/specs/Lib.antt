pub mod States
pub mod Instructions
