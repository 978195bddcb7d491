-- After the rows of a readable rule were read, its days stand in the tables, and the answer is what specs/Found says.
use mathlib.Core.Path.{◌≡◌, refl, sym, ap, ◌∙◌}
use mathlib.Core.List.{List}
use mathlib.Core.Option.{Option, some}
use mathlib.Core.Bool.{Bool, true, false}
use Prim.Native.Nat.{ℕ, ◌≤◌, ◌<◌, ◌^◌}
use native.Mathlib.Omega.{arith}
use lib.ListN.{length}
use Rattle.definition.specs.Field.{sheet_bits}
use Rattle.definition.specs.Rule.{Rule}
use Rattle.definition.specs.Sheet.{Form}
use Rattle.definition.proofs.Bits.{Bytes}
use Rattle.definition.proofs.Lengths.{rule-short}
use Rattle.definition.proofs.RuleParts.{RuleParts, rule-parts}
use Rattle.forms.specs.Form.{Narrow}
use Rattle.sheet.specs.Begin.{rule_read_at, Readable}
use Rattle.tables.specs.Rules.{DaysHeld}
use Rattle.std.specs.Prelude.{Some, None}
use Rattle.std.specs.Prelude as std
use Rattle.canonical_date.specs.declared.days.Spans.{Spans}
use Rattle.canonical_date.specs.Days.{loaded, days_of, days_loaded}
use Rattle.canonical_date.specs.Rule.{days_stop, days_rows}
use Rattle.canonical_date.specs.Found.{Loads, Found}
use Rattle.canonical_date.proofs.ItemFacts.{some-other}
use Rattle.canonical_date.proofs.DayRows.{count-few}
use Rattle.canonical_date.proofs.DaysMeaning.{days-pass, days-halt, days-few}
use Rattle.canonical_date.proofs.Table.{table-selector, table-counts}

module _ (form : Form) (sheet : List ℕ) (b : Bytes sheet) (p : ℕ) (readable : Readable form (sheet_bits sheet) p) (low : p < 2 ^ 25) (l c : List ℕ) (room : 256 ≤ length l) (seats : 4 ≤ length c) where
  abbrev r : Rule
  r = rule_read_at form (sheet_bits sheet) p

  w : RuleParts form (sheet_bits sheet) p r readable.end
  w = rule-parts form (sheet_bits sheet) p r readable.end readable.read

  -- THE RULE'S DAYS stand in the tables
  pub days-held : days_stop r ≡ false → DaysHeld (days_loaded form (sheet_bits sheet) p l c).counts (days_loaded form (sheet_bits sheet) p l c).ranges r
  days-held f =
      let loads = days-pass form (sheet_bits sheet) p _ _ w l c f in
      let few = days-few form sheet b p r readable.end w f in
      rw loads (record {
        selected = table-selector r l c room seats few;
        few = λ i m. omega (arith, table-counts 0 (days_rows r) c (omega arith) few i (omega arith) (omega arith));
      })

  found-spans : Narrow form → (l' c' : List ℕ) (n q : ℕ) → loaded l' c' (some (n, q)) ≡ days_loaded form (sheet_bits sheet) p l c → Loads (sheet_bits sheet) r n q
  found-spans narrow l' c' n q e = go (days_stop r) refl
    where
      go : (t : Bool) → days_stop r ≡ t → Loads (sheet_bits sheet) r n q
      go true f = some-other {A = ℕ × ℕ} (n, q) (sym (days-halt form (sheet_bits sheet) p _ _ w l c f) ∙ sym (ap (λ x. x.spans) e))
      go false f =
          let g = e ∙ days-pass form (sheet_bits sheet) p _ _ w l c f in
          let same : ◌≡◌ {A = Option (ℕ × ℕ)} (some (n, q)) (some (length r.spans, w.spans-at)) = ap (λ x. x.spans) g in
          let pair : ◌≡◌ {A = ℕ × ℕ} (n, q) (length r.spans, w.spans-at) = cc in
          let many : n ≡ length r.spans = ap (λ v. v.0) pair in
          let place : q ≡ w.spans-at = ap (λ v. v.1) pair in
          record {
            passes = f;
            spans = record {
              many = many;
              few-spans = rw many (count-few form (sheet_bits sheet) _ (length r.spans) _ w.count-spans);
              end = readable.end;
              near = omega (arith, narrow.head-narrow, rule-short form (sheet_bits sheet) p r readable.end readable.read);
              read = rw (many, place) w.spans-read;
            };
          }

  pub found : Narrow form → (l' c' : List ℕ) (v : std.Option Spans) → loaded l' c' (days_of v) ≡ days_loaded form (sheet_bits sheet) p l c → Found (sheet_bits sheet) r v
  found narrow l' c' (Some x) e = found-spans narrow l' c' x.count x.at e
  found narrow l' c' None e = go (days_stop r) refl
    where
      go : (t : Bool) → days_stop r ≡ t → days_stop r ≡ true
      go true f = f
      go false f = some-other {A = ℕ × ℕ} (length r.spans, w.spans-at) (ap (λ x. x.spans) (e ∙ days-pass form (sheet_bits sheet) p _ _ w l c f))
