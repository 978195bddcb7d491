pub mod FlattenReturns
pub mod MeanList
pub mod MeanPieces
pub mod MeanDay
pub mod FoldReturns
