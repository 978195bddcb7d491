-- The two parts of a state's text: its kind and its comment.
use Rattle.std.specs.Prelude.{List, [], ◌++◌, ◌&&◌, cond, ℕ, eqb}
use Rattle.definition.specs.Rule.{State, kind_of}
use Rattle.definition.specs.Text.{ascii, decimal}
use Rattle.definition.specs.Line.{kind_word, is_open}

-- the state of a kind's number and a comment
abbrev pub state_of : ℕ → ℕ → State
state_of kind comment = record { kind = kind_of kind; comment = comment }

unfoldable pub kind_part : State → List ℕ
kind_part S = cond (is_open S.kind && eqb S.comment 0) [] (ascii " " ++ kind_word S.kind)

unfoldable pub comment_part : State → List ℕ
comment_part S = cond (eqb S.comment 0) [] (ascii " \"" ++ (decimal S.comment ++ ascii "\""))
