pub mod Answer
pub mod Wide
