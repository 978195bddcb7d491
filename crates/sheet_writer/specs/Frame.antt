-- The frame of a sheet: "zero bits to the byte's end", and the bits of rules that are copied.
use Rattle.std.specs.Prelude.{List, ℕ, ◌*◌, ◌-◌, take, drop, replicate}
use Rattle.definition.specs.Field.{bytes_for, sheet_bits}

-- the zero bits behind n bits
unfoldable pub padding : ℕ → List ℕ
padding n = replicate (8 * bytes_for n - n) 0

-- the bits of a sheet from a place to another
abbrev pub between : List ℕ → ℕ → ℕ → List ℕ
between sheet start end = take (end - start) (drop start (sheet_bits sheet))
