-- What a refusal says, and what every reader's answer: the definition's reading.
use Rattle.std.specs.Prelude.{ℕ, Result, Ok, Err}
use Rattle.definition.specs.Field.{past_end, unlawful, bad_end, over_limit, many_boxes, long_list, no_room, no_date, unsettled, no_words, days_twice, long_comment, past_counts, many_lists, Read, got, refused}
use Rattle.answers.specs.declared.refusal.Reason.{Reason}
use Rattle.answers.specs.declared.refusal.Reason.TheVariants.{PastEnd, Unlawful, BadEnd, OverLimit, ManyBoxes, LongList, NoRoom, NoDate, Unsettled, NoWords, DaysTwice, LongComment, PastCounts, ManyLists}
use Rattle.answers.specs.declared.refusal.Refusal.{Refusal}

-- the code of 01's table
abbrev pub code_of : Reason → ℕ
code_of PastEnd = past_end
code_of Unlawful = unlawful
code_of BadEnd = bad_end
code_of OverLimit = over_limit
code_of ManyBoxes = many_boxes
code_of LongList = long_list
code_of NoRoom = no_room
code_of NoDate = no_date
code_of Unsettled = unsettled
code_of NoWords = no_words
code_of DaysTwice = days_twice
code_of LongComment = long_comment
code_of PastCounts = past_counts
code_of ManyLists = many_lists

-- a reading, made of what was read; a refusal stands
abbrev pub read_as : {A B : Type 0} → (A → B) → Result (A × ℕ) Refusal → Read B
read_as make (Ok (v, q)) = got (make v) q
read_as make (Err r) = refused (code_of r.reason) r.place
