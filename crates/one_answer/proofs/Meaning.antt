-- THE PROMISES IN ONE PIECE: what a caller learns of `hours::fold` and of `hours::lookup`, their contracts, says by the demands' theorems what
-- specs/Meaning states. A slice of u8 holds bytes: that much is taken of the sheet.
use mathlib.Core.Path.{◌≡◌, refl, sym, ap, ap₂, ◌∙◌, subst}
use mathlib.Core.List.{List}
use mathlib.Core.Option.{Option, none, some}
use Prim.Native.Nat.{ℕ, ◌≤◌}
use native.Mathlib.Omega.{arith}
use lib.ListN.{length, take, drop, get_or}
use lib.Seq.{take-append_seam, drop-append_seam}
use contract.Lifetimes.{Lfts}
use denote.Triple.Clauses.{AtExit}
use borrow.Fn.Kinds.{Dens, ended_of}
use Rattle.definition.specs.Field.{unlawful}
use Rattle.definition.specs.Rule.{Rule}
use Rattle.definition.specs.Sheet.{Form, sheet_limits, former_limits}
use Rattle.definition.specs.Stop.{drained}
use Rattle.definition.specs.Date.{point_of}
use Rattle.definition.specs.Group.{folded}
use Rattle.definition.specs.Saying.{says}
use Rattle.definition.specs.Fold as definition
use Rattle.definition.specs.Fold.{buffer, numbers, refusal, fold}
use Rattle.definition.specs.Forms.{form_named, fold_in, lookup_in}
use Rattle.definition.specs.Lookup as state
use Rattle.definition.proofs.Bits.{Bytes}
use Rattle.answers.specs.Numbers.{fold_numbers}
use Rattle.answers.specs.declared.Folded.{Folded}
use Rattle.answers.specs.declared.Answer.{Answer}
use Rattle.promises.specs.Conditions.{written, Accepted}
use Rattle.promises.specs.Counts.{Nothing}
use Rattle.promises.specs.ReadBack.{widest}
use Rattle.promises.specs.Looking.{Tells}
use Rattle.promises.specs.LargerSheets.{Stays}
use Rattle.promises.proofs.Reading.{accepted-once}
use Rattle.promises.proofs.Counts.{accepted-counts, counted-rules, refused-nothing}
use Rattle.promises.proofs.Going.{folded-drained}
use Rattle.promises.proofs.ReadBack.{fold-reads}
use Rattle.promises.proofs.Looking.{lookup-says}
use Rattle.promises.proofs.LargerSheets.{remain-lawful, raised-now, never-many}
use Rattle.hours.proofs.Entries.{in-named, in-none}
use Rattle.hours.proofs.fold.Kinds as fold-kinds
use Rattle.hours.proofs.fold.Reads as fold-contract
use Rattle.hours.proofs.lookup.Kinds as lookup-kinds
use Rattle.hours.proofs.lookup.Reads as lookup-contract
use Rattle.one_answer.specs.Promise.{FoldPromise, LookupPromise}
use Rattle.one_answer.proofs.Promised.{fold-promised, lookup-promised}
use Rattle.one_answer.specs.Meaning.{FoldMeans, FoldNothing, FoldTheorem, StoredTheorem, LookupTheorem}

-- ## The fold
module _ (number : ℕ) (sheet out : List ℕ) (x : Folded × List ℕ) (p : FoldPromise number sheet out x) where
  -- the k-th number, and the buffer, of the answer that the number of the form leads to
  told_of : (answer : definition.Folded) → fold_in sheet_limits number (length out) sheet ≡ answer → (k : ℕ) → get_or (fold_numbers x.0) k 0 ≡ get_or (numbers answer) k 0
  told_of answer same k = ap (λ l. get_or l k 0) (p.0 ∙ ap numbers same)

  buffer-of : (answer : definition.Folded) → fold_in sheet_limits number (length out) sheet ≡ answer → x.1 ≡ buffer answer.result out
  buffer-of answer same = p.1 ∙ ap (λ f. buffer f.result out) same

  told-nothing : (answer : definition.Folded) → fold_in sheet_limits number (length out) sheet ≡ answer → Nothing answer → FoldNothing number sheet out x
  told-nothing answer same nothing =
      let told = told_of answer same in record {
        none-drained = told 1 ∙ nothing.none-drained;
        none_emitted = told 2 ∙ nothing.none_emitted;
        none_left = told 3 ∙ nothing.none_left;
        no-reason = told 6 ∙ nothing.no-reason;
        no_bytes = told 4 ∙ nothing.no_bytes;
        untouched = buffer-of answer same ∙ ap (λ l. buffer l out) nothing.none_written;
      }

  -- where the number names a form
  module _ (form : Form) (named : form_named number ≡ some form) where
    abbrev answer : definition.Folded
    answer = fold form sheet_limits (length out) sheet

    same : fold_in sheet_limits number (length out) sheet ≡ answer
    unfolding fold_in
    same = in-named refusal (λ f. fold f sheet_limits (length out) sheet) number form named

    told : (k : ℕ) → get_or (fold_numbers x.0) k 0 ≡ get_or (numbers answer) k 0
    told = told_of answer same

    accepted-in : Bytes sheet → x.0.code ≡ 0 → (rs : List Rule) × FoldMeans number sheet out x form rs (written rs)
    accepted-in bytes e =
        let code = sym (told 0) ∙ e in
        let reads = fold-reads form sheet_limits (length out) sheet bytes code in
        let rs = reads.0 in
        let counts = counted-rules form sheet_limits (length out) sheet code rs reads.1 in
        let size = told 4 ∙ counts.bytes_counted in
        let there = buffer-of answer same in
        let later = drop (length answer.result) out in (
          rs,
          record {
            form-named = named;
            sheet-read = reads.1;
            buffer-read =
                subst (λ b. Accepted form (widest form sheet_limits) b (written rs)) (sym (ap₂ take size there ∙ take-append_seam answer.result later)) reads.2;
            same-meaning = reads.3;
            drained-counted = told 1 ∙ counts.drained-counted;
            emitted-counted = told 2 ∙ counts.emitted-counted ∙ ap length (sym (folded-drained rs));
            left-counted = told 3 ∙ counts.left-counted;
            why-told = told 6 ∙ counts.why-told;
            within-room = subst (◌≤ length out) (sym (told 4)) (accepted-counts form sheet_limits (length out) sheet code).3;
            later-bytes = ap₂ drop size there ∙ drop-append_seam answer.result later ∙ ap (λ n. drop n out) (sym size);
          },
        )

    refused-in : (x.0.code ≡ 0 → ⊥) → FoldNothing number sheet out x
    refused-in h = told-nothing answer same (refused-nothing form sheet_limits (length out) sheet (λ e. h (told 0 ∙ e)))

  -- where it names none
  module _ (nameless : form_named number ≡ none) where
    refused-so : fold_in sheet_limits number (length out) sheet ≡ refusal unlawful 0
    unfolding fold_in
    refused-so = in-none refusal (λ f. fold f sheet_limits (length out) sheet) number nameless

    not-accepted : x.0.code ≡ 0 → ⊥
    not-accepted e = let z : ◌≡◌ {A = ℕ} 2 0 = sym (told_of (refusal unlawful 0) refused-so 0) ∙ e in omega arith

    nothing-told : FoldNothing number sheet out x
    nothing-told = told-nothing (refusal unlawful 0) refused-so
        (record { none-drained = refl; none_emitted = refl; none_left = refl; no-reason = refl; no_bytes = refl; none_written = refl })

  fold-means : Bytes sheet → FoldTheorem number sheet out x
  fold-means bytes = go (form_named number) refl
    where
      go : (w : Option Form) → form_named number ≡ w → FoldTheorem number sheet out x
      go (some form) e = (λ code. let means = accepted-in form e bytes code in (form, means.0, written means.0, means.1), refused-in form e)
      go none e = (λ code. absurd (not-accepted e code), λ h. nothing-told e)

  stored-folds : Bytes sheet → StoredTheorem number sheet out x
  stored-folds bytes form named rs a h now-fine =
      let stays : Stays (fold form former_limits (length out) sheet).code (fold form sheet_limits (length out) sheet).code
      = (h, never-many form former_limits (omega arith) (length out) sheet bytes, λ z. now-fine (told_of _ (same form named) 0 ∙ z)) in
      let as_before = same form named ∙ (remain-lawful form former_limits sheet_limits raised-now sheet rs a).1.same_fold (length out) stays in
      (p.0 ∙ ap numbers as_before, buffer-of _ as_before)

  -- ## The lookup
  told-there : (y mo d m : ℕ) (a : Answer) → LookupPromise number sheet y mo d m a → Bytes sheet → LookupTheorem number sheet out x y mo d m a
  unfolding lookup_in
  told-there y mo d m a q bytes e f form named ws holds choice =
      let means = accepted-in form named bytes e in
      let rs = means.0 in
      let looks = q ∙ in-named state.refusal (λ k. state.lookup k sheet_limits sheet y mo d m) number form named in
      let looked = lookup-says form sheet_limits sheet y mo d m (sym (ap (λ k. k.code) looks) ∙ f) in
      let same = ap (λ ds. folded (drained ds)) (accepted-once form sheet_limits sheet looked.0 rs looked.1 means.1.sheet-read) ∙ sym (folded-drained rs)
      ∙ ap drained (accepted-once form (widest form sheet_limits) _ (written rs) ws means.1.buffer-read holds) in
      subst (λ k. Tells k (says choice (drained ws) (point_of y mo d) m)) (sym looks)
      (subst (λ ds. Tells (state.lookup form sheet_limits sheet y mo d m) (says choice ds (point_of y mo d) m)) same (looked.2 choice).1)

-- THE THEOREM OF `hours::fold`
pub fold-theorem : (κs : Lfts 2) (a : Dens κs fold-kinds.ps) (r : Folded) (e : AtExit (ended_of 2 fold-kinds.ps fold-kinds.r) κs)
    → fold-contract.Learnt κs a r e → Bytes a.1.0.now → FoldTheorem a.0 a.1.0.now a.1.1.0.now (r, e.1.1.0.now)
fold-theorem κs a r e h = fold-means a.0 a.1.0.now a.1.1.0.now (r, e.1.1.0.now) (fold-promised κs a r e h)

-- AND OF A STORED SHEET
pub stored-theorem : (κs : Lfts 2) (a : Dens κs fold-kinds.ps) (r : Folded) (e : AtExit (ended_of 2 fold-kinds.ps fold-kinds.r) κs)
    → fold-contract.Learnt κs a r e → Bytes a.1.0.now → StoredTheorem a.0 a.1.0.now a.1.1.0.now (r, e.1.1.0.now)
stored-theorem κs a r e h = stored-folds a.0 a.1.0.now a.1.1.0.now (r, e.1.1.0.now) (fold-promised κs a r e h)

-- THE THEOREM OF `hours::lookup`, beside a fold of the same sheet in the same form
pub lookup-theorem : (κs : Lfts 2) (a : Dens κs fold-kinds.ps) (r : Folded) (e : AtExit (ended_of 2 fold-kinds.ps fold-kinds.r) κs)
    → fold-contract.Learnt κs a r e
    → (λs : Lfts 1) (b : Dens λs lookup-kinds.ps) (s : Answer) (f : AtExit (ended_of 1 lookup-kinds.ps lookup-kinds.r) λs)
    → lookup-contract.Learnt λs b s f → b.0 ≡ a.0 → b.1.0.now ≡ a.1.0.now → Bytes a.1.0.now
    → LookupTheorem a.0 a.1.0.now a.1.1.0.now (r, e.1.1.0.now) b.1.1.0 b.1.1.1.0 b.1.1.1.1.0 b.1.1.1.1.1.0 s
lookup-theorem κs a r e h λs b s f g same-form same-sheet bytes =
    told-there a.0 a.1.0.now a.1.1.0.now (r, e.1.1.0.now) (fold-promised κs a r e h) _ _ _ _ s
    (lookup-promised λs b s f g ∙ ap₂ (λ n t. lookup_in sheet_limits n t b.1.1.0 b.1.1.1.0 b.1.1.1.1.0 b.1.1.1.1.1.0) same-form same-sheet) bytes
