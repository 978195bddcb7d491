pub mod GroupReturns
pub mod MeanGroup
