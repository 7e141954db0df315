pub mod Constraints
pub mod Digits
pub mod Ids
pub mod Names
pub mod Numbers
pub mod Sounds
pub mod Texts
