-- One lemma for each return of draining one rule, and how a rule stops: by its parts, or as a Fallback.
use mathlib.Core.Path.{◌≡◌, refl, sym, ap, ap₂, ◌∙◌}
use mathlib.Core.List.{List, map}
use mathlib.Core.Option.{none, some}
use mathlib.Core.Bool.{Bool, true, false, ◌&&◌, ◌||◌, not, cond}
use Prim.Native.Nat.{ℕ, ◌*◌, ◌≤◌, ◌<◌, ◌^◌}
use native.Mathlib.Omega.{arith}
use lib.Dec.{eqb}
use lib.ListN.{length, set}
use lib.Seq.{sets}
use Rattle.laws.specs.Lists.{any_of}
use Rattle.laws.proofs.Flags.{or_assoc}
use Rattle.definition.specs.Field.{got, sheet_bits, several}
use Rattle.definition.specs.Rule.{Operator, operator_of, Kind, kind_of, Rule}
use Rattle.definition.specs.Sheet.{Form, sheet_limits, span, title}
use Rattle.definition.specs.Stop.{is_fallback, monthday_stops, weekday_stops, span_stops, stops}
use Rattle.definition.specs.Point.{is_normal, is_closed}
use Rattle.definition.proofs.Bits.{Bytes}
use Rattle.definition.proofs.Reading.{several-short}
use Rattle.definition.proofs.Lengths.{span-short}
use Rattle.definition.proofs.RuleParts.{rule-parts}
use Rattle.definition.proofs.Carried.{comment-carried}
use Rattle.definition.proofs.SheetRead.{carried, rule-faithful}
use Rattle.forms.specs.Form.{Narrow}
use Rattle.sheet.specs.Begin.{rule_read_at, Readable}
use Rattle.sheet.proofs.Titles.{title-same}
use Rattle.codes.specs.Number.{state_number, state_of, span_number}
use Rattle.canonical_date.specs.Rule.{days_stop}
use Rattle.canonical_date.specs.Found.{SpansRead}
use Rattle.canonical_date.proofs.ItemFacts.{some-other}
use Rattle.canonical_date.proofs.DayRows.{count-few}
use Rattle.draining.specs.Span.{span_numbers, spans_stop}
use Rattle.draining.specs.Rule.{loaded_spans, parts_stop, replace_number, set_unless, SetRule, DrainedRule}
use Rattle.draining.proofs.SpanMeaning.{spans-meaning}

-- ## How a rule stops
stops-either : (a b c d e f : Bool) → f || (a || (b || (c || (d || e)))) ≡ cond ((a || (b || (c || d))) || e) true f
stops-either a b c d e f = ap (f ||◌) (sym (or_assoc a (b || (c || d)) e ∙ ap (a ||◌) (or_assoc b (c || d) e ∙ ap (b ||◌) (or_assoc c d e)))) ∙ last f ((a || (b || (c || d))) || e)
  where
    last : (x y : Bool) → x || y ≡ cond y true x
    last true true = refl
    last true false = refl
    last false true = refl
    last false false = refl

pub stops-parts : (r : Rule) → stops r ≡ cond (parts_stop r) true (is_fallback r.operator)
unfolding stops days_stop
stops-parts r =
    stops-either (any_of (λ y. not (eqb y.step 1)) r.years) (any_of monthday_stops r.monthdays) (any_of (λ w. not (eqb w.step 1)) r.weeks) (any_of weekday_stops r.weekdays)
    (any_of span_stops r.spans) (is_fallback r.operator)

-- ## A rule's days and spans
-- spans end behind where they begin
pub spans-early : {s : List ℕ} {r : Rule} {n q : ℕ} → SpansRead s r n q → q < 2 ^ 26
unfolding several
spans-early {s} {r} {n} {q} w = omega (arith, several-short span 52 span-short n s q r.spans w.end w.read, w.near)

module _ (r : Rule) where
  pub load-days-stop : days_stop r ≡ true → (l : List ℕ) (p : ℕ) → (none ≡ cond (parts_stop r) none (some (length r.spans))) × (l ≡ sets l p (map span_number (loaded_spans r)))
  load-days-stop f l p = rw f (refl, refl)

module _ (sheet : List ℕ) (b : Bytes sheet) (r : Rule) (n q : ℕ) (w : SpansRead (sheet_bits sheet) r n q) (f : days_stop r ≡ false) (l l' : List ℕ) (p : ℕ)
    (h : l' ≡ sets l p (span_numbers n (sheet_bits sheet) q)) (t : Bool) (k : t ≡ spans_stop n (sheet_bits sheet) q) where
  numbers : l' ≡ sets l p (map span_number (loaded_spans r))
  numbers = rw f (h ∙ ap (sets l p) (spans-meaning sheet b n q r.spans w.end w.read).1)

  pub load-spans-stop : t ≡ true → (none ≡ cond (parts_stop r) none (some (length r.spans))) × (l' ≡ sets l p (map span_number (loaded_spans r)))
  load-spans-stop e =
      let g : any_of span_stops r.spans ≡ true = sym (spans-meaning sheet b n q r.spans w.end w.read).0 ∙ sym k ∙ e in
      (sym (rw (f, g)), numbers)

  pub load-passes : t ≡ false → (some n ≡ cond (parts_stop r) none (some (length r.spans))) × (l' ≡ sets l p (map span_number (loaded_spans r)))
  load-passes e =
      let g : any_of span_stops r.spans ≡ false = sym (spans-meaning sheet b n q r.spans w.end w.read).0 ∙ sym k ∙ e in
      (ap some w.many ∙ sym (rw (f, g)), numbers)

-- ## A rule's title
module _ (form : Form) (s : List ℕ) (p : ℕ) (readable : Readable form s p) where
  pub spans-few : length (rule_read_at form s p).spans ≤ 16
  spans-few =
      let w = rule-parts form s p (rule_read_at form s p) readable.end readable.read in
      count-few form s _ (length (rule_read_at form s p).spans) _ w.count-spans

  module _ (o k c q i n : ℕ) (e : (title form sheet_limits).read s p ≡ got (operator_of o, (kind_of k, c)) q) (states counts replacing : List ℕ) (t : Bool) (h : t ≡ is_fallback (operator_of o)) where
    stopped-same : t ≡ is_fallback (rule_read_at form s p).operator
    stopped-same = h ∙ ap is_fallback (title-same form s p readable (operator_of o) (kind_of k) c q e).0

    pub set-fallback : t ≡ true → SetRule (rule_read_at form s p) i n states counts replacing states counts replacing true
    set-fallback f =
        let g : is_fallback (rule_read_at form s p).operator ≡ true = sym stopped-same ∙ f in
        record { stopped = sym g; states-set = sym (rw g); counts-set = sym (rw g); replacing-set = sym (rw g) }

    pub set-rule : (u v w : ℕ) → t ≡ false → u ≡ state_number (state_of (kind_of k) c) → v ≡ n → w ≡ cond (is_normal (operator_of o) && not (is_closed (kind_of k))) 1 0
        → SetRule (rule_read_at form s p) i n states counts replacing (set states i u) (set counts i v) (set replacing i w) false
    unfolding state_number
    set-rule u v w f hu hv hw =
        let g : is_fallback (rule_read_at form s p).operator ≡ false = sym stopped-same ∙ f in
        let same = title-same form s p readable (operator_of o) (kind_of k) c q e in
        let state : u ≡ state_number (rule_read_at form s p).state = hu ∙ ap₂ (λ x y. state_number (state_of x y)) same.1 same.2 in
        let replace : w ≡ replace_number (rule_read_at form s p) = hw ∙ ap₂ (λ x y. cond (is_normal x && not (is_closed y)) 1 0) same.0 same.1 in
        record {
          stopped = sym g;
          states-set = ap (set states i) state ∙ sym (rw g);
          counts-set = ap (set counts i) hv ∙ sym (rw g);
          replacing-set = ap (set replacing i) replace ∙ sym (rw g);
        }

-- a comment that was read is as low as `state_number` requires
pub comment-low : (form : Form) → Narrow form → (sheet : List ℕ) → Bytes sheet → (p : ℕ) → Readable form (sheet_bits sheet) p → (a : Operator) (b : Kind) (c q : ℕ)
    → (title form sheet_limits).read (sheet_bits sheet) p ≡ got (a, (b, c)) q → c < 2 ^ 24
comment-low form narrow sheet b p readable x y c q e =
    let r = rule_read_at form (sheet_bits sheet) p in
    let low = comment-carried form sheet_limits r (carried (rule-faithful form sheet_limits) sheet b p r readable.end readable.read) in
    omega (arith, low, narrow.comment-narrow, (title-same form (sheet_bits sheet) p readable x y c q e).2)

-- ## The whole rule
pub load-some : (p : Bool) (n m : ℕ) → some n ≡ cond p none (some m) → (p ≡ false) × (n ≡ m)
load-some true n m e = some-other n (sym e)
load-some false n m e = let z : n ≡ m = cc in (refl, z)

pub load-none : (p : Bool) (m : ℕ) → none ≡ cond p none (some m) → p ≡ true
load-none true m e = refl
load-none false m e = some-other m e

module _ (r : Rule) (i : ℕ) (states counts spans replacing spans' : List ℕ) (written : spans' ≡ sets spans (i * 16) (map span_number (loaded_spans r))) where
  pub drain-stop : parts_stop r ≡ true → (true ≡ stops r) × DrainedRule r i states counts spans replacing states counts spans' replacing
  drain-stop f =
      let g : stops r ≡ true = stops-parts r ∙ rw f in
      (sym g, record { states-drained = sym (rw g); counts-drained = sym (rw g); spans-drained = written; replacing-drained = sym (rw g) })

  pub drain-go : (n : ℕ) (states' counts' replacing' : List ℕ) (t : Bool) → parts_stop r ≡ false → n ≡ length r.spans → SetRule r i n states counts replacing states' counts' replacing' t
      → (t ≡ stops r) × DrainedRule r i states counts spans replacing states' counts' spans' replacing'
  drain-go n states' counts' replacing' t f e w =
      let g : is_fallback r.operator ≡ stops r = sym (stops-parts r ∙ rw f) in (
        w.stopped ∙ g,
        record {
          states-drained = w.states-set ∙ ap (λ b. set_unless b states i (state_number r.state)) g;
          counts-drained = w.counts-set ∙ ap₂ (λ b m. set_unless b counts i m) g e;
          spans-drained = written;
          replacing-drained = w.replacing-set ∙ ap (λ b. set_unless b replacing i (replace_number r)) g;
        },
      )
