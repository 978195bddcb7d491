-- 01, "Worked days": "P is proved, together, as one table of cases under one statement." 01's cases, P1 to P11, cut one dimension
-- at a time, so the table also has the order of growing, a span appended repeatedly, a rule left, spans that stay in groups, and
-- refusals 1 to 6. P9 is refused since 02's M-101, whose own table is WorkedOverlaps.
use Rattle.std.specs.Prelude.{◌≡◌, ℕ, ◌*◌}
use mathlib.Core.List.{List, [], ◌∷◌, ◌++◌, flat_map}
use Rattle.laws.specs.Lists.{from}
use Rattle.definition.specs.Field.{bits, bytes}
use Rattle.definition.specs.Sheet.{form1, sheet_limits}
use Rattle.definition.specs.Fold.{numbers, fold}

-- a sheet; code, drained, emitted, left, bytes, place and why of its fold; and the bytes written
pub record Case : Type 0 where
  pub sheet : List ℕ
  pub answer : List ℕ
  pub written : List ℕ

-- n bytes, written as one hexadecimal number
abbrev pub hex : ℕ → ℕ → List ℕ
hex n v = bytes n (bits (8 * n) v)

-- the room of the output buffer
abbrev pub room : ℕ
room = 65536

-- THE STATEMENT, about the fold over points, from bytes to bytes
abbrev pub Worked : Case → Type 0
Worked c = (numbers (fold form1 sheet_limits room c.sheet) ≡ c.answer) × ((fold form1 sheet_limits room c.sheet).result ≡ c.written)

-- P1: bytes 00 00 give 00 00.
abbrev pub p1 : Case
p1 = record {
  sheet = hex 2 0x0000;
  answer = 0 ∷ 0 ∷ 0 ∷ 0 ∷ 2 ∷ 0 ∷ 0 ∷ [];
  written = hex 2 0x0000;
}

-- P2: Mo-Fr 10:00-18:00 Open; Tu 12:00-13:00 Closed, Normal: Mo,We-Fr 10:00-18:00; Tu 10:00-12:00,13:00-18:00.
abbrev pub p2 : Case
p2 = record {
  sheet = hex 35 0x0002000000000000001004200007FE25821C020000000000000200890000FFC5A030C0;
  answer = 0 ∷ 2 ∷ 2 ∷ 0 ∷ 43 ∷ 0 ∷ 0 ∷ [];
  written = hex 43 0x0002000000000000002004000007FE500003FF12C10E0000000000000001008480007FE258168030C21C00;
}

-- P4: weekday Fr-Mo becomes Mo,Fr-Su.
abbrev pub p4 : Case
p4 = record {
  sheet = hex 19 0x0001000000000000001005000007FE25821C00;
  answer = 0 ∷ 1 ∷ 1 ∷ 0 ∷ 23 ∷ 0 ∷ 0 ∷ [];
  written = hex 23 0x0001000000000000002004000007FE980003FF12C10E00;
}

-- P5: Fr-Th has no items.
abbrev pub p5 : Case
p5 = record {
  sheet = hex 19 0x0001000000000000001005180007FE25821C00;
  answer = 0 ∷ 1 ∷ 1 ∷ 0 ∷ 15 ∷ 0 ∷ 0 ∷ [];
  written = hex 15 0x00010000000000000000044B043800;
}

-- P6: weeks 50-2: 1-2,50-53.
abbrev pub p6 : Case
p6 = record {
  sheet = hex 17 0x0001000000000000400007208044B04380;
  answer = 0 ∷ 1 ∷ 1 ∷ 0 ∷ 20 ∷ 0 ∷ 0 ∷ [];
  written = hex 20 0x0001000000000000800004108072D4044B043800;
}

-- P7: week 53 alone ends at 54.
abbrev pub p7 : Case
p7 = record {
  sheet = hex 17 0x00010000000000004000075D4044B04380;
  answer = 0 ∷ 1 ∷ 1 ∷ 0 ∷ 17 ∷ 0 ∷ 0 ∷ [];
  written = hex 17 0x00010000000000004000075D4044B04380;
}

-- P9: Additional Open, weekdays Mo-We and Tu-Th, 10:00-12:00 with `open_end`. 01 shows the span twice on Tu-We; 02: "Case P9 now shows a
-- refusal", 11 with 0.
abbrev pub p9 : Case
p9 = record {
  sheet = hex 23 0x0001400000000000002004100007FE2C0003FF12C0B420;
  answer = 11 ∷ 0 ∷ 0 ∷ 0 ∷ 0 ∷ 0 ∷ 0 ∷ [];
  written = [];
}

-- P10: Open 08:00-18:00; Unknown 10:00-11:00 with `open_end`; Unknown 12:00-13:00: Open 08:00-12:00,13:00-18:00; Unknown
-- 12:00-13:00; Unknown 10:00-11:00 with `open_end`.
abbrev pub p10 : Case
p10 = record {
  sheet = hex 39 0x00030000000000000000043C043818000000000000000112C0A526000000000000000045A030C0;
  answer = 0 ∷ 3 ∷ 3 ∷ 0 ∷ 43 ∷ 0 ∷ 0 ∷ [];
  written = hex 43 0x00030000000000000000083C02D006184381800000000000000011680C306000000000000000044B029480;
}

-- P11: plain Closed 00:00-24:00 alone: no rules.
abbrev pub p11 : Case
p11 = record {
  sheet = hex 15 0x00011000000000000000040005A000;
  answer = 0 ∷ 1 ∷ 0 ∷ 0 ∷ 2 ∷ 0 ∷ 0 ∷ [];
  written = hex 2 0x0000;
}

-- years are grown before weekdays: Monday in 2000 and 2001, Tuesday in 2000 only, fold to themselves.
abbrev pub growing : Case
growing = record {
  sheet = hex 46 0x00020000000400000010047D01F440004000007FE25821C0000000080000002008FA03E80000890000FFC4B04380;
  answer = 0 ∷ 2 ∷ 2 ∷ 0 ∷ 46 ∷ 0 ∷ 0 ∷ [];
  written = hex 46 0x00020000000400000010047D01F440004000007FE25821C0000000080000002008FA03E80000890000FFC4B04380;
}

-- four Additional rules over Tuesday in January push an open-ended span four times.
abbrev pub pushes : Case
pushes = record {
  sheet = hex 73 0x000440000000010000100411120001FF89605A120000000008000080208890000FFC4B02D0900000000040000401044480007FE258168480000000020000200822240003FF12C0B420;
  answer = 0 ∷ 4 ∷ 1 ∷ 0 ∷ 31 ∷ 0 ∷ 0 ∷ [];
  written = hex 31 0x000100000000010000101011120001FF89605A109605A109605A109605A100;
}

-- Fr-Th, then weeks 1-3 with a step of 2: the first is folded, the second copied.
abbrev pub leaves : Case
leaves = record {
  sheet = hex 34 0x0002000000000000001005180007FE25821C00000000000008000082181096087000;
  answer = 0 ∷ 1 ∷ 1 ∷ 1 ∷ 29 ∷ 0 ∷ 5 ∷ [];
  written = hex 29 0x00020000000000000000044B04380000000000001000010430212C10E0;
}

-- 10:00-12:00 Open with `open_end`, then 12:00-13:00 Unknown, then 13:00-14:00 Open: the simple spans stay in groups.
abbrev pub stays_grouped : Case
stays_grouped = record {
  sheet = hex 39 0x00030000000000000000044B02D09800000000000000011680C304000000000000000046183480;
  answer = 0 ∷ 3 ∷ 3 ∷ 0 ∷ 39 ∷ 0 ∷ 0 ∷ [];
  written = hex 39 0x00030000000000000000044B02D09800000000000000011680C304000000000000000046183480;
}

-- some times four Additional rules without items and spans, which are 280 bits and so end with a byte
abbrev fours : ℕ → List ℕ
fours n = flat_map (λ k. hex 35 0x4000000000000000010000000000000000040000000000000000100000000000000000) (from 0 n)

-- 31 such rules, then one over Tuesday in January: 32 entries there, and it folds.
abbrev pub entries32 : Case
entries32 = record {
  sheet = hex 2 0x0020 ++ fours 7 ++ hex 44 0x4000000000000000010000000000000000040000000000000000100000000040000401044480007FE25821C0;
  answer = 0 ∷ 32 ∷ 1 ∷ 0 ∷ 20 ∷ 0 ∷ 0 ∷ [];
  written = hex 20 0x000100000000010000100411120001FF89608700;
}

-- four Normal rules, each of which replaces the one before, then 32 Additional ones: 33 entries after the last, 6 with 35.
abbrev pub entries33 : Case
entries33 = record {
  sheet = hex 2 0x0024 ++ hex 35 0 ++ fours 8;
  answer = 6 ∷ 0 ∷ 0 ∷ 0 ∷ 0 ∷ 35 ∷ 0 ∷ [];
  written = [];
}

-- intervals of weekday 4, week 8, month 8, year 17: 5 with 4352.
abbrev pub boxes4352 : Case
boxes4352 = record {
  sheet = hex 82 0x000100000020040100200476D1DB4000476F1DBC00047711DC400047731DCC00047751DD400047771DDC00047791DE4000477B1DEC0004110CC551DC1040430C045140471C04000007FE480003FF12C10E00;
  answer = 5 ∷ 0 ∷ 0 ∷ 0 ∷ 0 ∷ 4352 ∷ 0 ∷ [];
  written = [];
}

-- the rule count runs past the end: 1 with 0.
abbrev pub field_past_end : Case
field_past_end = record {
  sheet = hex 1 0x00;
  answer = 1 ∷ 0 ∷ 0 ∷ 0 ∷ 0 ∷ 0 ∷ 0 ∷ [];
  written = [];
}

-- an operator of 3: 2 with 16.
abbrev pub unlawful_operator : Case
unlawful_operator = record {
  sheet = hex 12 0x0001C0000000000000000000;
  answer = 2 ∷ 0 ∷ 0 ∷ 0 ∷ 0 ∷ 16 ∷ 0 ∷ [];
  written = [];
}

-- the last padding bit is set: 3 with its place.
abbrev pub padding_set : Case
padding_set = record {
  sheet = hex 15 0x00010000000000000000040005A001;
  answer = 3 ∷ 0 ∷ 0 ∷ 0 ∷ 0 ∷ 119 ∷ 0 ∷ [];
  written = [];
}

-- a byte follows: 3 with the first bit after the padding.
abbrev pub bytes_follow : Case
bytes_follow = record {
  sheet = hex 3 0x000000;
  answer = 3 ∷ 0 ∷ 0 ∷ 0 ∷ 0 ∷ 16 ∷ 0 ∷ [];
  written = [];
}

-- 256 rules: not 4, but 1 with 16, the place of the first of them.
abbrev pub rules256 : Case
rules256 = record {
  sheet = hex 2 0x0100;
  answer = 1 ∷ 0 ∷ 0 ∷ 0 ∷ 0 ∷ 16 ∷ 0 ∷ [];
  written = [];
}

-- 257 rules: 4 with 0.
abbrev pub rules257 : Case
rules257 = record {
  sheet = hex 2 0x0101;
  answer = 4 ∷ 0 ∷ 0 ∷ 0 ∷ 0 ∷ 0 ∷ 0 ∷ [];
  written = [];
}

-- the table
abbrev pub cases : List Case
cases =
    p1 ∷ p2 ∷ p4 ∷ p5 ∷ p6 ∷ p7 ∷ p9 ∷ p10 ∷ p11
    ∷ growing ∷ pushes ∷ leaves ∷ stays_grouped ∷ entries32 ∷ entries33 ∷ boxes4352
    ∷ field_past_end ∷ unlawful_operator ∷ padding_set ∷ bytes_follow ∷ rules256 ∷ rules257 ∷ []
