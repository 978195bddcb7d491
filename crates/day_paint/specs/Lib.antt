pub mod Stroke
pub mod Piece
pub mod Minute
