pub mod BitSet
pub mod Digits
pub mod Guess
pub mod Partition
pub mod Search
pub mod Sums
pub mod CountLaws
