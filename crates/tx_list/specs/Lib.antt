pub mod Same
pub mod Lending
