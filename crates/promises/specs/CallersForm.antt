-- 02, M-106: "The caller says which form is meant". An entry by the caller's number is the entry in form 1 or in form 2; "2 with place 0, before all others,
-- where the caller's form is neither 1 nor 2", and then nothing else is told and nothing is written.
use Rattle.std.specs.Prelude.{◌≡◌, List, ℕ}
use Rattle.definition.specs.Sheet.{Form, Limits, form1, form2}
use Rattle.definition.specs.Fold.{refusal, unwritten, fold, write_back}
use Rattle.definition.specs.Show.{show_line}
use Rattle.definition.specs.Lookup as state
use Rattle.definition.specs.Forms.{convert, other, fold_in, write_back_in, show_line_in, lookup_in, convert_in}

-- an entry in a form, and the same by a form's number
pub record ByNumber {A : Type 0} (refusal : ℕ → ℕ → A) (entry : Form → A) (by_number : ℕ → A) : Type 0 where
  pub one : by_number 1 ≡ entry form1
  pub two : by_number 2 ≡ entry form2
  pub neither : (n : ℕ) → (n ≡ 1 → ⊥) → (n ≡ 2 → ⊥) → by_number n ≡ refusal 2 0

-- ## THE STATEMENT, of the five entries
pub record EntriesByNumber (limits : Limits) (sheet : List ℕ) : Type 0 where
  pub folds : (room : ℕ) → ByNumber refusal (λ form. fold form limits room sheet) (λ n. fold_in limits n room sheet)
  pub writes-back : (room : ℕ) → ByNumber unwritten (λ form. write_back form limits room sheet) (λ n. write_back_in limits n room sheet)
  pub shows : (room : ℕ) → ByNumber unwritten (λ form. show_line form limits room sheet) (λ n. show_line_in limits n room sheet)
  pub looks-up : (y mo d m : ℕ) → ByNumber state.refusal (λ form. state.lookup form limits sheet y mo d m) (λ n. lookup_in limits n sheet y mo d m)
  pub converts : (room : ℕ) → ByNumber unwritten (λ form. convert form (other form) limits room sheet) (λ n. convert_in limits n room sheet)
