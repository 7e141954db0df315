mod Calendar
mod Decimals
