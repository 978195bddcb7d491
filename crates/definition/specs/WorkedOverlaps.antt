-- 02, M-101: "Two ranges of one selector that share a value in a drained rule are refused; ranges that only touch are fine, and rules left
-- may overlap." One table, under the statement of the worked days: touching ranges, ranges that wrap, a whole dimension beside an item, equal
-- items, in each of the four selectors; the first of two such rules; rules left; and 11 where the boxes are too many as well.
use Rattle.std.specs.Prelude.{List, [], ◌∷◌}
use Rattle.definition.specs.Worked.{Case, hex}

-- Mo-We and Th-Fr, 10:00-12:00 with `open_end`, only touch: Mo-Fr that span.
abbrev pub touching : Case
touching = record {
  sheet = hex 23 0x0001400000000000002004100007FE700003FF12C0B420;
  answer = 0 ∷ 1 ∷ 1 ∷ 0 ∷ 19 ∷ 0 ∷ 0 ∷ [];
  written = hex 19 0x0001000000000000001004200007FE25816840;
}

-- Fr-Mo and Tu-We only touch: Mo-We,Fr-Su.
abbrev pub wrap_touches : Case
wrap_touches = record {
  sheet = hex 23 0x0001000000000000002005000007FE280003FF12C10E00;
  answer = 0 ∷ 1 ∷ 1 ∷ 0 ∷ 23 ∷ 0 ∷ 0 ∷ [];
  written = hex 23 0x0001000000000000002004100007FE980003FF12C10E00;
}

-- Fr-Mo and Mo-Tu both have Monday: 11 with 0.
abbrev pub wrap_shares : Case
wrap_shares = record {
  sheet = hex 23 0x0001000000000000002005000007FE040003FF12C10E00;
  answer = 11 ∷ 0 ∷ 0 ∷ 0 ∷ 0 ∷ 0 ∷ 0 ∷ [];
  written = [];
}

-- a sound rule, then weeks 50-2 and 53-1, which both wrap and both have 53 and 1: 11 with 1.
abbrev pub wraps_share : Case
wraps_share = record {
  sheet = hex 32 0x00020000000000000000044B0438000000000000200001C8201D410112C10E00;
  answer = 11 ∷ 0 ∷ 0 ∷ 0 ∷ 0 ∷ 1 ∷ 0 ∷ [];
  written = [];
}

-- Jan-Dec beside Mar: 11 with 0.
abbrev pub whole_beside_item : Case
whole_beside_item = record {
  sheet = hex 17 0x00010000000002000000041C0CC4B04380;
  answer = 11 ∷ 0 ∷ 0 ∷ 0 ∷ 0 ∷ 0 ∷ 0 ∷ [];
  written = [];
}

-- 2026 twice, Normal, Closed, without spans: 11 with 0.
abbrev pub equal_years : Case
equal_years = record {
  sheet = hex 22 0x00011000000800000000007EA1FA800047EA1FA80004;
  answer = 11 ∷ 0 ∷ 0 ∷ 0 ∷ 0 ∷ 0 ∷ 0 ∷ [];
  written = [];
}

-- a sound rule, then Jan-Mar,Mar and Mo-We,Tu-Th: 11 with the first of both, 1.
abbrev pub first_of_two : Case
first_of_two = record {
  sheet = hex 50 0x00030000000000000000044B043800000000008000000104C3312C10E0000000000000002004100007FE2C0003FF12C10E00;
  answer = 11 ∷ 0 ∷ 0 ∷ 0 ∷ 0 ∷ 1 ∷ 0 ∷ [];
  written = [];
}

-- a sound rule, then Mo-We,Tu-Th in weeks 1-3 with a step of 2, then Monday twice: the first is folded, both others copied.
abbrev pub left_may_overlap : Case
left_may_overlap = record {
  sheet = hex 58 0x00030000000000000000044B043800000000000010080104302040001FF8B0000FFC4B0438000000000000000801000001FF800000FFC4B04380;
  answer = 0 ∷ 1 ∷ 1 ∷ 2 ∷ 58 ∷ 0 ∷ 5 ∷ [];
  written = hex 58 0x00030000000000000000044B043800000000000010080104302040001FF8B0000FFC4B0438000000000000000801000001FF800000FFC4B04380;
}

-- intervals of weekday 3, week 11, month 11, year 3, which are 1089 boxes, then January twice: 11 with 1.
abbrev pub overlap_before_boxes : Case
overlap_before_boxes = record {
  sheet = hex 51 0x00020000000405014010007D01F4000042211066220AA0820110401186012080128A01120001FF800000000100000000088220;
  answer = 11 ∷ 0 ∷ 0 ∷ 0 ∷ 0 ∷ 1 ∷ 0 ∷ [];
  written = [];
}

-- the table
abbrev pub overlap_cases : List Case
overlap_cases =
    touching ∷ wrap_touches ∷ wrap_shares ∷ wraps_share ∷ whole_beside_item ∷ equal_years ∷ first_of_two ∷ left_may_overlap ∷ overlap_before_boxes ∷ []
