pub mod SpanReturns
pub mod SpanMeaning
pub mod RuleReturns
pub mod Tabling
pub mod Begun
