pub mod Book
