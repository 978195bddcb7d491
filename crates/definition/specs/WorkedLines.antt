-- THE WORKED LINES, one table of cases under one statement, from the bytes of a sheet to the whole answer: what 02's M-100 says of the notation,
-- each reason of 10 with its place, and the order of codes.
use Rattle.std.specs.Prelude.{◌≡◌, List, [], ◌∷◌, ℕ, length}
use Prim.Native.String.{String}
use Rattle.definition.specs.Field.{past_end, unlawful, bad_end, over_limit, no_room, no_words}
use Rattle.definition.specs.Sheet.{form1, sheet_limits}
use Rattle.definition.specs.Fold.{written_numbers}
use Rattle.definition.specs.Worked.{hex, p2}
use Rattle.definition.specs.Text.{ascii}
use Rattle.definition.specs.Show.{show_line}

-- a sheet and the room of the output buffer; code, bytes and place; and what is written
pub record Case : Type 0 where
  pub sheet : List ℕ
  pub room : ℕ
  pub answer : List ℕ
  pub shown : List ℕ

-- a line that is shown, and a refusal, in a buffer of 65,536 bytes
abbrev shows : List ℕ → String → Case
shows sheet text = record { sheet = sheet; room = 65536; answer = 0 ∷ length (ascii text) ∷ 0 ∷ []; shown = ascii text }

abbrev refuses : List ℕ → ℕ → ℕ → Case
refuses sheet code place = record { sheet = sheet; room = 65536; answer = code ∷ 0 ∷ place ∷ []; shown = [] }

-- THE STATEMENT
abbrev pub Worked : Case → Type 0
Worked c = (written_numbers (show_line form1 sheet_limits c.room c.sheet) ≡ c.answer) × ((show_line form1 sheet_limits c.room c.sheet).result ≡ c.shown)

-- ## Lines
-- no rules give an empty line.
abbrev pub no_rules : Case
no_rules = shows (hex 2 0x0000) ""

-- 01's P2, before its fold and after it.
abbrev pub sheet_of_p2 : Case
sheet_of_p2 = shows p2.sheet "Mo-Fr 10:00-18:00; Tu 12:00-13:00 off"

abbrev pub fold_of_p2 : Case
fold_of_p2 = shows p2.written "Mo,We-Fr 10:00-18:00; Tu 10:00-12:00,13:00-18:00"

-- weeks have two digits, and stand after one `week `.
abbrev pub two_digit_weeks : Case
two_digit_weeks = shows (hex 20 0x000100000000000080000433C05450044B043800) "week 03-15,20 10:00-18:00"

-- equal ends are written once with a step of 1, and twice with any other.
abbrev pub equal_ends : Case
equal_ends = shows (hex 26 0x00010000000800000000047E41F9000047E41F9000084B043800) "2020,2020-2020/2 10:00-18:00"

-- steps have no leading zeros, and up to five digits.
abbrev pub largest_steps : Case
largest_steps = shows (hex 25 0x000100000004000080000476C9C3FFFFC1D7FF504284B04380) "1900-9999/65535 week 01-53/255,53-01/10 10:00-18:00"

-- every name of a month and of a weekday.
abbrev pub every_name : Case
every_name =
    shows (hex 59 0x0001000000000C0000700411088331105519877220992A8BB330000007FE240003FF240001FF9B0000FFD200007FEB40003FF6C0001FF896087000)
    "Jan,Feb,Mar,Apr,May,Jun,Jul,Aug,Sep,Oct,Nov,Dec Mo,Tu,We,Th,Fr,Sa,Su 10:00-18:00"

-- all four sorts of days in one rule, in their order.
abbrev pub four_parts : Case
four_parts = shows (hex 28 0x00010000100401004010047E81FA80004B2D3401500001FF8004B3E0) "2024-2026 Nov-Feb week 52 Sa-Mo 00:01-23:59 open \"1\""

-- a Closed rule.
abbrev pub closed_rule : Case
closed_rule = shows (hex 15 0x00011000000000000000044B043800) "10:00-18:00 off"

-- an Unknown rule, with the largest comment of form 1.
abbrev pub unknown_rule : Case
unknown_rule = shows (hex 15 0x00012FFFF00000000000044B043800) "10:00-18:00 unknown \"65535\""

-- `open` stands only before a comment.
abbrev pub open_with_comment : Case
open_with_comment = shows (hex 15 0x00010000700000000000044B043800) "10:00-18:00 open \"7\""

-- a Closed rule with a comment.
abbrev pub closed_with_comment : Case
closed_with_comment = shows (hex 15 0x00011000700000000000044B043800) "10:00-18:00 off \"7\""

-- a span with an open end.
abbrev pub open_end : Case
open_end = shows (hex 18 0x00010000000000000000084B02D086183480) "10:00-12:00+,13:00-14:00"

-- hours go to 48:00, and the equal ends of a span are written twice.
abbrev pub past_midnight : Case
past_midnight = shows (hex 25 0x00010000000000000000100005A00B40B4004422211680B400) "00:00-24:00,24:00-48:00,09:05-09:05,48:00-48:00"

-- what stands before a rule of each operator.
abbrev pub three_operators : Case
three_operators =
    shows (hex 60 0x0004000000000000001004000007FE25821C080000000000000200890000FFC4B043824000000000000000112C10E00000000000000000044B043800)
    "Mo 10:00-18:00, Tu 10:00-18:00 || 10:00-18:00 off; 10:00-18:00"

-- ## Rules without words: 10 with the rule's index
-- months of one year.
abbrev pub dated_months : Case
dated_months = refuses (hex 19 0x0001000000000200000004124487E812C10E00) no_words 0

-- a caller's reference, in the second rule.
abbrev pub reference : Case
reference = refuses (hex 31 0x00020000000000000000044B04380000000000400000018000000144B04380) no_words 1

-- a holiday.
abbrev pub public_holiday : Case
public_holiday = refuses (hex 21 0x0001000000000000002004000007FF000009608700) no_words 0

-- a weekday moved by a day back, in the second rule.
abbrev pub weekday_offset : Case
weekday_offset = refuses (hex 31 0x00020000000000000000044B043800000000000000040101FFFFFF89608700) no_words 1

-- an nth bit from the start that isn't set.
abbrev pub nth_from_start : Case
nth_from_start = refuses (hex 19 0x0001000000000000001004000003FE25821C00) no_words 0

-- an nth bit from the end that isn't set, in the third rule.
abbrev pub nth_from_end : Case
nth_from_end = refuses (hex 43 0x00030000000000000000044B043800000000000000000112C10E0000000000000001004000007FC25821C0) no_words 2

-- a start that is an event.
abbrev pub variable_start : Case
variable_start = refuses (hex 15 0x000100000000000000000680001680) no_words 0

-- an end that is an event, in the second rule.
abbrev pub variable_end : Case
variable_end = refuses (hex 31 0x00020000000000000000044B043800000000000000000212C0B401686FFE20) no_words 1

-- repeats of 0 minutes are repeats.
abbrev pub repeats_of_nothing : Case
repeats_of_nothing = refuses (hex 28 0x00020000000000000000044B043800000000000000000112C0B41000) no_words 1

-- a rule with 0 spans.
abbrev pub no_spans : Case
no_spans = refuses (hex 28 0x00020000000000000000044B0438000000000000000400000001FF80) no_words 1

-- a first rule that is Additional: 10 with 0, although the second has no words.
abbrev pub first_additional : Case
first_additional = refuses (hex 29 0x00024000000000000000044B0438000000000000000401C00004B04380) no_words 0

-- a first rule that is a Fallback.
abbrev pub first_fallback : Case
first_fallback = refuses (hex 15 0x00018000000000000000044B043800) no_words 0

-- of two rules without words the first is told.
abbrev pub two_without_words : Case
two_without_words = refuses (hex 50 0x00040000000000000000044B04380000000000000000000000000000000000044B0438000000000000000401800004B04380) no_words 1

-- ## The order of codes
-- a buffer of 10 bytes is too short for a line of 11: 7 with 11; one of 11 holds it.
abbrev pub short_buffer : Case
short_buffer = record { sheet = hex 15 0x00010000000000000000044B043800; room = 10; answer = no_room ∷ 0 ∷ 11 ∷ []; shown = [] }

abbrev pub exact_buffer : Case
exact_buffer = record { sheet = short_buffer.sheet; room = 11; answer = 0 ∷ 11 ∷ 0 ∷ []; shown = ascii "10:00-18:00" }

-- 10 comes before 7.
abbrev pub words_before_room : Case
words_before_room = record { sheet = hex 17 0x0001000000000000001006000012C10E00; room = 0; answer = no_words ∷ 0 ∷ 0 ∷ []; shown = [] }

-- 1 comes before 10: two rules are counted, and one is there.
abbrev pub past_end_before_words : Case
past_end_before_words = refuses (hex 17 0x0002000000000000001006000012C10E00) past_end 136

-- 2 comes before 10: the second rule's operator is 3.
abbrev pub unlawful_before_words : Case
unlawful_before_words = refuses (hex 29 0x0002000000000000001006000012C10E0C000000000000000044B04380) unlawful 132

-- 3 comes before 10: the last padding bit is set.
abbrev pub bad_end_before_words : Case
bad_end_before_words = refuses (hex 17 0x0001000000000000001006000012C10E01) bad_end 135

-- 4 comes before 10: the second rule counts 17 years.
abbrev pub over_limit_before_words : Case
over_limit_before_words = refuses (hex 26 0x0002000000000000001006000012C10E00000004400000000000) over_limit 152

-- the table
abbrev pub cases : List Case
cases =
    no_rules ∷ sheet_of_p2 ∷ fold_of_p2 ∷ two_digit_weeks ∷ equal_ends ∷ largest_steps ∷ every_name
    ∷ four_parts ∷ closed_rule ∷ unknown_rule ∷ open_with_comment ∷ closed_with_comment ∷ open_end ∷ past_midnight
    ∷ three_operators ∷ dated_months ∷ reference ∷ public_holiday ∷ weekday_offset ∷ nth_from_start ∷ nth_from_end
    ∷ variable_start ∷ variable_end ∷ repeats_of_nothing ∷ no_spans ∷ first_additional ∷ first_fallback ∷ two_without_words
    ∷ short_buffer ∷ exact_buffer ∷ words_before_room ∷ past_end_before_words ∷ unlawful_before_words ∷ bad_end_before_words ∷ over_limit_before_words ∷ []
