-- THERE AND BACK, of the entry itself: what `hours::convert` left in a buffer, lent to it again with the number of the other form, is turned into the
-- original bytes. Rests on the same law about the definition.
use mathlib.Core.Path.{◌≡◌, refl, sym, ap, ap₂, ◌∙◌, subst}
use mathlib.Core.List.{List}
use mathlib.Core.Option.{some}
use Prim.Native.Nat.{ℕ}
use lib.ListN.{length, take, drop, get_or}
use lib.Seq.{take-append_seam}
use contract.Lifetimes.{Lfts}
use denote.Triple.Clauses.{AtExit}
use borrow.Fn.Kinds.{Dens, ended_of}
use Rattle.definition.specs.Sheet.{Form, form1, form2, sheet_limits}
use Rattle.definition.specs.Fold as definition
use Rattle.definition.specs.Fold.{unwritten}
use Rattle.definition.specs.Forms.{form_named, convert, other, convert_in}
use Rattle.definition.proofs.Bits.{Bytes}
use Rattle.answers.specs.declared.Written.{Written}
use Rattle.promises.specs.Convert.{GivesBack}
use Rattle.promises.proofs.Convert.{convert-writes}
use Rattle.promises.proofs.CallersForm.{back-to-one, back-to-two}
use Rattle.hours.proofs.Entries.{in-named}
use Rattle.hours.proofs.convert.Kinds as convert-kinds
use Rattle.hours.proofs.convert.Reads as convert-contract
use Rattle.one_answer.specs.Promise.{WritesAs, ConvertPromise}
use Rattle.one_answer.specs.Meaning.{converted, ReturnTheorem}
use Rattle.one_answer.proofs.Promised.{convert-promised}

-- the bytes that an answer counts are those that it wrote
front : (w : definition.Written) (out : List ℕ) (x : Written × List ℕ) → WritesAs w out x → w.bytes ≡ length w.result → converted x ≡ w.result
front w out x p sized = ap₂ take (ap (λ l. get_or l 1 0) p.0 ∙ sized) p.1 ∙ take-append_seam w.result (drop (length w.result) out)

-- a number that names a form, and one by which all comes back
module _ (number : ℕ) (form : Form) (named : form_named number ≡ some form) (number_back : ℕ)
    (returns : GivesBack (convert_in sheet_limits number) (convert_in sheet_limits number_back)) where
  all-counted : (room : ℕ) (sheet : List ℕ) → (convert_in sheet_limits number room sheet).code ≡ 0
      → (convert_in sheet_limits number room sheet).bytes ≡ length (convert_in sheet_limits number room sheet).result
  unfolding convert_in
  all-counted room sheet e =
      let same = in-named unwritten (λ f. convert f (other f) sheet_limits room sheet) number form named in
      let wrote = convert-writes form (other form) sheet_limits room sheet (sym (ap (λ w. w.code) same) ∙ e) in
      ap (λ w. w.bytes) same ∙ wrote.3 ∙ sym (ap length (ap (λ w. w.result) same ∙ wrote.2))

  module _ (sheet out : List ℕ) (there : Written × List ℕ) (p : ConvertPromise number sheet out there) (lent out_back : List ℕ) (back : Written × List ℕ)
      (q : ConvertPromise number_back lent out_back back) where
    returned : lent ≡ converted there → Bytes sheet → ReturnTheorem sheet (length out_back) there back
    returned same bytes e l =
        let first = convert_in sheet_limits number (length out) sheet in
        let code = sym (ap (λ n. get_or n 0 0) p.0) ∙ e in
        let moved = same ∙ front first out there p (all-counted (length out) sheet code) in
        let answer = ap (convert_in sheet_limits number_back (length out_back)) moved ∙ returns (length out) (length out_back) sheet bytes code l in
        let second = subst (λ w. WritesAs w out_back back) answer q in
        (ap (λ n. get_or n 0 0) second.0, front _ out_back back second refl)

-- THE THEOREM OF `hours::convert`, called twice: with 1 and then 2, and with 2 and then 1
module _ (κs : Lfts 2) (a : Dens κs convert-kinds.ps) (r : Written) (e : AtExit (ended_of 2 convert-kinds.ps convert-kinds.r) κs)
    (h : convert-contract.Learnt κs a r e)
    (λs : Lfts 2) (b : Dens λs convert-kinds.ps) (s : Written) (f : AtExit (ended_of 2 convert-kinds.ps convert-kinds.r) λs)
    (k : convert-contract.Learnt λs b s f) (same : b.1.0.now ≡ converted (r, e.1.1.0.now)) (bytes : Bytes a.1.0.now) where
  abbrev Returned : Type 0
  Returned = ReturnTheorem a.1.0.now (length b.1.1.0.now) (r, e.1.1.0.now) (s, f.1.1.0.now)

  by-numbers : (number : ℕ) (form : Form) → form_named number ≡ some form → (number_back : ℕ) → GivesBack (convert_in sheet_limits number) (convert_in sheet_limits number_back)
      → a.0 ≡ number → b.0 ≡ number_back → Returned
  by-numbers number form named number_back returns one other =
      returned number form named number_back returns a.1.0.now a.1.1.0.now (r, e.1.1.0.now)
      (subst (λ n. ConvertPromise n a.1.0.now a.1.1.0.now (r, e.1.1.0.now)) one (convert-promised κs a r e h))
      b.1.0.now b.1.1.0.now (s, f.1.1.0.now)
      (subst (λ n. ConvertPromise n b.1.0.now b.1.1.0.now (s, f.1.1.0.now)) other (convert-promised λs b s f k)) same bytes

  pub returned-to-one : a.0 ≡ 1 → b.0 ≡ 2 → Returned
  unfolding form_named
  returned-to-one = by-numbers 1 form1 refl 2 back-to-one

  pub returned-to-two : a.0 ≡ 2 → b.0 ≡ 1 → Returned
  unfolding form_named
  returned-to-two = by-numbers 2 form2 refl 1 back-to-two
