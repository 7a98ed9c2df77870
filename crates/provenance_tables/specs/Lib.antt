pub mod Regions
pub mod Sites
pub mod Spans
pub mod Tables
pub mod Passed
