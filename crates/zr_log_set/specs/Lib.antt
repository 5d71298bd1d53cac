pub mod Decls
pub mod Laws
