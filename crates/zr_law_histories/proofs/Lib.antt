pub mod Histories
pub mod Maps
pub mod Packing
