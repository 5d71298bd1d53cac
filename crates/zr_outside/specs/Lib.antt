pub mod Counts
pub mod Told
pub mod Source
pub mod Piece
pub mod Sink
pub mod Streams
pub mod Host
