-- THE WORKED FORMS, one table of cases under one statement, from the bytes of a sheet to the whole answer, by the caller's number of a form: what 02's M-106
-- says of form 2, of comments above 65,535, of moving a sheet to the other form, and of numbers that name no form.
use Rattle.std.specs.Prelude.{◌≡◌, List, [], ◌∷◌, ℕ, ◌+◌, ◌^◌, length}
use Rattle.definition.specs.Field.{past_end, unlawful, over_limit, long_comment}
use Rattle.definition.specs.Sheet.{sheet_limits}
use Rattle.definition.specs.Fold.{numbers, Written, written_numbers}
use Rattle.definition.specs.Lookup as state
use Rattle.definition.specs.Text.{ascii}
use Rattle.definition.specs.Forms.{fold_in, write_back_in, show_line_in, lookup_in, convert_in}
use Rattle.definition.specs.Worked.{hex, room, p2}

pub data Entry : Type 0 where
  folding writing_back showing looking_up converting : Entry

abbrev wrote : Written → List ℕ × List ℕ
wrote w = (written_numbers w, w.result)

-- what an entry answers, in the form of number n: its numbers, and the bytes that it writes. The lookup is of the first minute of 1 January 2000
abbrev pub answered : Entry → ℕ → List ℕ → List ℕ × List ℕ
answered folding n sheet = let f = fold_in sheet_limits n room sheet in (numbers f, f.result)
answered writing_back n sheet = wrote (write_back_in sheet_limits n room sheet)
answered showing n sheet = wrote (show_line_in sheet_limits n room sheet)
answered looking_up n sheet = (state.numbers (lookup_in sheet_limits n sheet 2000 1 1 0), [])
answered converting n sheet = wrote (convert_in sheet_limits n room sheet)

pub record Case : Type 0 where
  pub entry : Entry
  pub form : ℕ
  pub sheet : List ℕ
  pub answer : List ℕ
  pub written : List ℕ

-- THE STATEMENT
abbrev pub Worked : Case → Type 0
Worked c = answered c.entry c.form c.sheet ≡ (c.answer, c.written)

-- so many rules are drained, and as many come out
abbrev folds : ℕ → List ℕ → ℕ → List ℕ → Case
folds n sheet many written = record {
  entry = folding;
  form = n;
  sheet = sheet;
  answer = 0 ∷ many ∷ many ∷ 0 ∷ length written ∷ 0 ∷ 0 ∷ [];
  written = written;
}

abbrev writes : Entry → ℕ → List ℕ → List ℕ → Case
writes entry n sheet written = record { entry = entry; form = n; sheet = sheet; answer = 0 ∷ length written ∷ 0 ∷ []; written = written }

abbrev refused_numbers : Entry → ℕ → ℕ → List ℕ
refused_numbers folding c p = c ∷ 0 ∷ 0 ∷ 0 ∷ 0 ∷ p ∷ 0 ∷ []
refused_numbers writing_back c p = c ∷ 0 ∷ p ∷ []
refused_numbers showing c p = c ∷ 0 ∷ p ∷ []
refused_numbers looking_up c p = c ∷ 0 ∷ 0 ∷ p ∷ []
refused_numbers converting c p = c ∷ 0 ∷ p ∷ []

abbrev refuses : Entry → ℕ → List ℕ → ℕ → ℕ → Case
refuses entry n sheet code place = record { entry = entry; form = n; sheet = sheet; answer = refused_numbers entry code place; written = [] }

-- ## Sheets
-- no rules, in form 1 and in form 2: four bits 0010, and 24 bits of 0
abbrev nothing1 : List ℕ
nothing1 = hex 2 0x0000

abbrev nothing2 : List ℕ
nothing2 = hex 4 0x20000000

-- 01's P2 in form 2
abbrev p2_in2 : List ℕ
p2_in2 = hex 41 0x20000020000000000000000001001080001FF89608700800000000000000000800890000FFC5A030C0

-- 10:00-18:00 with the comment 65,535, in form 1 and in form 2
abbrev largest1 : List ℕ
largest1 = hex 15 0x00010FFFF00000000000044B043800

abbrev largest1_in2 : List ℕ
largest1_in2 = hex 18 0x2000001000FFFF00000000000000112C10E0

-- Mo with the comment 65,535, Tu with 65,536, We without one
abbrev three_comments : List ℕ
three_comments = hex 60 0x2000003000FFFF000000000001001000001FF89608700008000000000000000800890000FFC4B043800000000000000000004004900007FE25821C00

-- ## Form 2
-- a sheet without rules folds to itself, and is written back.
abbrev pub nothing_folded : Case
nothing_folded = folds 2 nothing2 0 nothing2

abbrev pub nothing_back : Case
nothing_back = writes writing_back 2 nothing2 nothing2

-- P2: "a fold keeps" the form.
abbrev pub p2_folded : Case
p2_folded = folds 2 p2_in2 2 (hex 49 0x20000020000000000000000002001000001FF940000FFC4B043800000000000000000004008480007FE258168030C21C00)

-- the mark runs past the end: 1 with 0; the rule count does: 1 with 4.
abbrev pub mark_past_end : Case
mark_past_end = refuses folding 2 [] past_end 0

abbrev pub count_past_end : Case
count_past_end = refuses writing_back 2 (hex 3 0x200000) past_end 4

-- a mark of 0011: 2 with 0, although 257 rules are counted; behind a mark of 0010 these are 4 with 4.
abbrev pub other_mark : Case
other_mark = refuses folding 2 (hex 4 0x30001010) unlawful 0

abbrev pub rules257 : Case
rules257 = refuses showing 2 (hex 4 0x20001010) over_limit 4

-- 256 rules: not 4, but 1 with 32, the place of the first one's comment.
abbrev pub rules256 : Case
rules256 = refuses showing 2 (hex 4 0x20001000) past_end 32

-- ## Comments above 65,535
-- 65,536 is neither 65,535 nor 0: three rules stay three.
abbrev pub comments_folded : Case
comments_folded = folds 2 three_comments 3 three_comments

abbrev pub comments_shown : Case
comments_shown = writes showing 2 three_comments (ascii "Mo 10:00-18:00 open \"65535\"; Tu 10:00-18:00 open \"65536\"; We 10:00-18:00")

-- the largest comment of form 2.
abbrev pub largest2_shown : Case
largest2_shown = writes showing 2 (hex 18 0x20000010FFFFFF00000000000000112C10E0) (ascii "10:00-18:00 open \"16777215\"")

-- going back, 65,535 has room, and 65,536 has none: 12 with the rule's index.
abbrev pub largest1_back : Case
largest1_back = writes converting 2 largest1_in2 largest1

abbrev pub comments_back : Case
comments_back = refuses converting 2 three_comments long_comment 1

-- ## Moving
abbrev pub nothing_there : Case
nothing_there = writes converting 1 nothing1 nothing2

abbrev pub largest1_there : Case
largest1_there = writes converting 1 largest1 largest1_in2

abbrev pub p2_there : Case
p2_there = writes converting 1 p2.sheet p2_in2

abbrev pub p2_back : Case
p2_back = writes converting 2 p2_in2 p2.sheet

-- ## Another form than the sheet's
-- a sheet of form 1 has no mark: 2 with 0.
abbrev pub form1_as2 : Case
form1_as2 = refuses folding 2 p2.sheet unlawful 0

abbrev pub form1_looked_up_as2 : Case
form1_looked_up_as2 = refuses looking_up 2 p2.sheet unlawful 0

-- a sheet of form 2 begins, read as form 1, with a count of 8,192 rules: 4 with 0.
abbrev pub form2_as1 : Case
form2_as1 = refuses converting 1 p2_in2 over_limit 0

-- ## Numbers that name no form
-- 2 with 0, although the sheet has a field that runs past the end; all bits of the number count.
abbrev pub form0 : Case
form0 = refuses folding 0 [] unlawful 0

abbrev pub form3 : Case
form3 = refuses showing 3 nothing1 unlawful 0

abbrev pub form3_looked_up : Case
form3_looked_up = refuses looking_up 3 nothing2 unlawful 0

abbrev pub beyond32_bits : Case
beyond32_bits = refuses writing_back (2 ^ 32 + 1) nothing1 unlawful 0

abbrev pub beyond32_bits_moved : Case
beyond32_bits_moved = refuses converting (2 ^ 32 + 1) nothing1 unlawful 0

-- the table
abbrev pub cases : List Case
cases =
    nothing_folded ∷ nothing_back ∷ p2_folded ∷ mark_past_end ∷ count_past_end ∷ other_mark ∷ rules257 ∷ rules256
    ∷ comments_folded ∷ comments_shown ∷ largest2_shown ∷ largest1_back ∷ comments_back
    ∷ nothing_there ∷ largest1_there ∷ p2_there ∷ p2_back
    ∷ form1_as2 ∷ form1_looked_up_as2 ∷ form2_as1
    ∷ form0 ∷ form3 ∷ form3_looked_up ∷ beyond32_bits ∷ beyond32_bits_moved ∷ []
