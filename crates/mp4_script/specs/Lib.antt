pub mod Lines
pub mod Listing
pub mod Script
pub mod ScriptSink
pub mod Commands
