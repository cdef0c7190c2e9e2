pub mod Uses
pub mod Alone
