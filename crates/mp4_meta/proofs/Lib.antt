pub mod ChildBoxBytes
pub mod Items
pub mod MetaSizes
pub mod Numerals
pub mod Sizes
pub mod Handlers
