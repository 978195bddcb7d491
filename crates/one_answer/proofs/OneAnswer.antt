-- NO SECOND ANSWER FITS: two answers, with what the lent slices hold after them, that both meet an entry's promise are equal.
use mathlib.Core.Path.{◌≡◌, refl, sym, ap, ap₂, ◌∙◌}
use mathlib.Core.Bool.{Bool}
use mathlib.Core.List.{List}
use Prim.Native.Nat.{ℕ}
use native.Mathlib.Omega.{arith}
use lib.Dec.{leb}
use lib.ListN.{length, get_or}
use Rattle.definition.specs.Field.{sheet_bits, bytes}
use Rattle.definition.specs.Sheet.{sheet_limits}
use Rattle.definition.specs.Fold.{Written, numbers, written_numbers}
use Rattle.definition.specs.Forms.{fold_in, write_back_in, show_line_in, lookup_in, convert_in}
use Rattle.definition.specs.Lookup as state
use Rattle.definition.proofs.Bits.{Bytes, length-sheet_bits, bytes-sheet}
use Rattle.answers.specs.Numbers.{write_numbers, fold_numbers, looked_up}
use Rattle.answers.specs.declared.Written as answer
use Rattle.answers.specs.declared.Folded.{Folded}
use Rattle.answers.specs.declared.Answer.{Answer}
use Rattle.hours.specs.Export.{put}
use Rattle.one_answer.specs.Promise.{OneAnswer, WritesAs, ExportedWritesAs, FoldPromise, WriteBackPromise, LinePromise, ConvertPromise, ExportedFoldPromise, ExportedWriteBackPromise, ExportedLinePromise, ExportedConvertPromise, LookupPromise, ExportedLookupPromise}

-- AN EQUATION HAS ONE SOLUTION where its left side can be undone
one_solution : {A B : Type 0} (f : A → B) (undo : B → A) → ((x : A) → undo (f x) ≡ x) → (v : B) → OneAnswer (λ x. f x ≡ v)
one_solution f undo undone v x y p q = sym (undone x) ∙ ap undo (p ∙ sym q) ∙ undone y

pair : {A B : Type 0} {a b : A} {c d : B} → a ≡ b → c ≡ d → ◌≡◌ {A = A × B} (a, c) (b, d)
pair = ap₂ (λ a c. (a, c))

-- ## Answers are known by their numbers
folded_from : List ℕ → Folded
folded_from n = record { code = get_or n 0 0; drained = get_or n 1 0; emitted = get_or n 2 0; left = get_or n 3 0; bytes = get_or n 4 0; place = get_or n 5 0; why = get_or n 6 0 }

one-folded : (n : List ℕ) → OneAnswer (λ r. fold_numbers r ≡ n)
unfolding folded_from
one-folded = one_solution fold_numbers folded_from (λ r. refl)

written_from : List ℕ → answer.Written
written_from n = record { code = get_or n 0 0; bytes = get_or n 1 0; place = get_or n 2 0 }

one_written : (n : List ℕ) → OneAnswer (λ r. write_numbers r ≡ n)
unfolding written_from
one_written = one_solution write_numbers written_from (λ r. refl)

answer_from : state.Looked → Answer
answer_from k = record { code = k.code; kind = k.kind; comment = k.comment; place = k.place }

-- ## The entries for Rust
pub one-fold : (form : ℕ) (sheet out : List ℕ) → OneAnswer (FoldPromise form sheet out)
one-fold form sheet out x y p q = pair (one-folded _ x.0 y.0 p.0 q.0) (p.1 ∙ sym q.1)

-- an entry that writes and answers w
one-writing : (w : Written) (out : List ℕ) → OneAnswer (WritesAs w out)
one-writing w out x y p q = pair (one_written _ x.0 y.0 p.0 q.0) (p.1 ∙ sym q.1)

pub one-write-back : (form : ℕ) (sheet out : List ℕ) → OneAnswer (WriteBackPromise form sheet out)
one-write-back form sheet out = one-writing (write_back_in sheet_limits form (length out) sheet) out

pub one_line : (form : ℕ) (sheet out : List ℕ) → OneAnswer (LinePromise form sheet out)
one_line form sheet out = one-writing (show_line_in sheet_limits form (length out) sheet) out

pub one-convert : (form : ℕ) (sheet out : List ℕ) → OneAnswer (ConvertPromise form sheet out)
one-convert form sheet out = one-writing (convert_in sheet_limits form (length out) sheet) out

pub one-lookup : (form : ℕ) (sheet : List ℕ) (year month day minute : ℕ) → OneAnswer (LookupPromise form sheet year month day minute)
unfolding answer_from
one-lookup form sheet year month day minute = one_solution looked_up answer_from (λ a. refl) (lookup_in sheet_limits form sheet year month day minute)

-- ## The exports: what the slices hold hangs on whether there is an answer
one_told : {A : Type 0} (told : Bool) (slices : Bool → A) → OneAnswer {A = Bool × A} (λ x. (x.0 ≡ told) × (x.1 ≡ slices x.0))
one_told {A} told slices x y p q = settled x p ∙ sym (settled y q)
  where
    settled : (z : Bool × A) → (z.0 ≡ told) × (z.1 ≡ slices z.0) → z ≡ (told, slices told)
    settled z h = pair refl h.1 ∙ ap (λ b. (b, slices b)) h.0

pub one-exported-fold : (form : ℕ) (sheet out lent : List ℕ) → OneAnswer (ExportedFoldPromise form sheet out lent)
one-exported-fold form sheet out lent x y p q =
    let f = fold_in sheet_limits form (length out) sheet in
    one_told (leb 7 (length lent)) (λ b. (put b (numbers f) lent, put b f.result out)) x y (p.0, pair p.1 p.2) (q.0, pair q.1 q.2)

one-exported : (w : Written) (out lent : List ℕ) → OneAnswer (ExportedWritesAs w out lent)
one-exported w out lent x y p q =
    one_told (leb 3 (length lent)) (λ b. (put b (written_numbers w) lent, put b w.result out)) x y (p.0, pair p.1 p.2) (q.0, pair q.1 q.2)

pub one-exported-write-back : (form : ℕ) (sheet out lent : List ℕ) → OneAnswer (ExportedWriteBackPromise form sheet out lent)
one-exported-write-back form sheet out lent = one-exported (write_back_in sheet_limits form (length out) sheet) out lent

pub one-exported-line : (form : ℕ) (sheet out lent : List ℕ) → OneAnswer (ExportedLinePromise form sheet out lent)
one-exported-line form sheet out lent = one-exported (show_line_in sheet_limits form (length out) sheet) out lent

pub one-exported-convert : (form : ℕ) (sheet out lent : List ℕ) → OneAnswer (ExportedConvertPromise form sheet out lent)
one-exported-convert form sheet out lent = one-exported (convert_in sheet_limits form (length out) sheet) out lent

pub one-exported-lookup : (form : ℕ) (sheet : List ℕ) (year month day minute : ℕ) (lent : List ℕ)
    → OneAnswer (ExportedLookupPromise form sheet year month day minute lent)
one-exported-lookup form sheet year month day minute lent =
    one_told (leb 4 (length lent)) (λ b. put b (state.numbers (lookup_in sheet_limits form sheet year month day minute)) lent)

-- ## A buffer of bytes is known by its bits, so the writers' promises, which are about bits, leave one buffer
pub one-stored : (stored one other : List ℕ) → Bytes one → Bytes other → sheet_bits one ≡ stored → sheet_bits other ≡ stored → one ≡ other
one-stored stored one other b c p q =
    let same : length one ≡ length other = omega (arith, length-sheet_bits one, length-sheet_bits other, ap length (p ∙ sym q)) in
    sym (bytes-sheet one b) ∙ ap₂ bytes same (p ∙ sym q) ∙ bytes-sheet other c
