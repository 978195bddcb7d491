-- The times and spans that a sheet can carry, by their numbers.
use Rattle.std.specs.Prelude.{◌<◌}
use Rattle.definition.specs.Rule.{Time, fixed, variable, Span, repeats_key}

abbrev pub CarriedTime : Time → Type 0
CarriedTime (fixed m) = m < 4096
CarriedTime (variable e o) = (e < 4) × (o < 65536)

pub record CarriedSpan (x : Span) : Type 0 where
  pub starts : CarriedTime x.start
  pub ends : CarriedTime x.end
  pub few : repeats_key x.repeats < 8192
