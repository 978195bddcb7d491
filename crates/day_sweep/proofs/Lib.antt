pub mod RowReturns
pub mod TakeReturns
pub mod Chains
pub mod MeanRuns
pub mod ClearedCells
pub mod PopRow
pub mod MeanClass
