pub mod Calendar
pub mod Clock
pub mod DecimalTime
pub mod Groups
