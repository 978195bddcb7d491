-- A SHEET THAT WAS READ can be drained, and draining and cutting leave the tables and the cuts of its drained rules. Rests on the laws of
-- beginnings.
use mathlib.Core.Path.{◌≡◌, sym, ap, ap₂, ◌∙◌, subst}
use mathlib.Core.List.{List}
use mathlib.Core.Bool.{true}
use Prim.Native.Nat.{ℕ, ◌*◌, ◌≤◌, ◌<◌}
use native.Mathlib.Omega.{arith}
use lib.ListN.{length, take}
use lib.Seq.{length-take-le, get_or-take}
use Rattle.laws.proofs.Lists.{every-all}
use Rattle.definition.specs.Field.{sheet_bits}
use Rattle.definition.specs.Rule.{Rule}
use Rattle.definition.specs.Sheet.{Form, form2, sheet_limits, rule}
use Rattle.definition.specs.Stop.{drained, why}
use Rattle.definition.proofs.Bits.{Bytes}
use Rattle.definition.proofs.Drained.{drained-fewer}
use Rattle.definition.proofs.FoldBox.{drained-all}
use Rattle.definition.proofs.Lawful.{rules-each}
use Rattle.definition.proofs.Carried.{comment-carried}
use Rattle.definition.proofs.OtherForm.{holds2, rule-moves}
use Rattle.definition.proofs.SheetRead.{encode-decoded}
use Rattle.sheet.specs.Rules.{begun, AllBegin}
use Rattle.sheet.specs.Parts.{SheetRead}
use Rattle.sheet.proofs.Begins.{rules-few, all-begin, begins-long}
use Rattle.tables.specs.Rules.{AllFit, RuleTimes, RuleDays}
use Rattle.draining.specs.Table.{Tabled, rules_from}
use Rattle.draining.proofs.Begun.{rules-noted}
use Rattle.prepare.specs.Prepared.{Prepared, JudgesDays, Judges}
use Rattle.std.specs.Prelude.{Result, Ok, Err}
use Rattle.answers.specs.declared.refusal.Refusal.{Refusal}
use Rattle.draining.specs.declared.Drained.{Drained}

module _ (form : Form) (sheet : List ℕ) (bytes : Bytes sheet) (begins : List ℕ) (rs : List Rule) (end count : ℕ) (reading : SheetRead form sheet begins rs end) (many : count ≡ length rs) where
  same : rules_from form (sheet_bits sheet) begins 0 count ≡ rs
  same = ap₂ (λ b n. rules_from form (sheet_bits sheet) b 0 n) reading.noted many ∙ rules-noted form reading.narrow sheet bytes rs end reading.read reading.before reading.room

  few : length rs ≤ sheet_limits.rules
  few = rules-few form sheet rs end bytes reading.read

  -- ## What draining requires
  pub rules-begin : AllBegin form (sheet_bits sheet) begins count
  rules-begin =
      subst (λ b. AllBegin form (sheet_bits sheet) b count) (sym reading.noted)
      (subst (AllBegin form (sheet_bits sheet) (begun form sheet reading.before)) (sym many) (all-begin form reading.narrow sheet bytes rs end reading.read reading.before reading.room))

  pub begins-there : count ≤ length begins
  begins-there = omega (arith, many, (begins-long form sheet begins bytes rs end reading).1)

  fits : AllFit (drained rs)
  fits = drained-all _ rs (every-all _ (rule form sheet_limits).fits moves rs (rules-each form sheet_limits rs (encode-decoded form sheet_limits sheet bytes rs end reading.read).0))
    where
      -- form 2 carries what any form carries
      moves : (r : Rule) → (rule form sheet_limits).fits r ≡ true → (rule form2 sheet_limits).fits r ≡ true
      moves r f = rule-moves form form2 sheet_limits holds2 r f (omega (arith, comment-carried form sheet_limits r f, reading.narrow.comment-narrow))

  -- ## What it leaves
  module _ (n : ℕ) (states counts spans replacing range_counts ranges : List ℕ) (e : n ≡ length (drained (rules_from form (sheet_bits sheet) begins 0 count)))
      (t : Tabled states counts spans replacing range_counts ranges (drained (rules_from form (sheet_bits sheet) begins 0 count))) where
    drained-many : n ≡ length (drained rs)
    drained-many = e ∙ ap (λ qs. length (drained qs)) same

    tabled : Tabled states counts spans replacing range_counts ranges (drained rs)
    tabled = subst (λ qs. Tabled states counts spans replacing range_counts ranges (drained qs)) same t

    pub drained-few : n ≤ count
    drained-few = omega (arith, drained-many, drained-fewer rs, many)

    module _ (all-counts : count * 4 ≤ length range_counts) (all-ranges : count * 256 ≤ length ranges) where
      pub drained-days : RuleDays range_counts ranges n (drained rs)
      drained-days = record {
        many = drained-many;
        few-rules = omega (arith, drained-few, many, few);
        all-counts = omega (arith, drained-few);
        all-ranges = omega (arith, drained-few);
        each = λ k l. (tabled k (omega (arith, drained-many))).1.days-held;
        fits = fits;
      }

      module _ (all-states : count ≤ length states) (all-span-counts : count ≤ length counts) (all-spans : count * 16 ≤ length spans) (all-replacing : count ≤ length replacing) where
        -- the times of the drained rules, and of no others
        drained-times : RuleTimes (take n states) (take n counts) (take (n * 16) spans) (drained rs)
        drained-times = record {
          all-states = length-take-le n states (omega (arith, drained-few)) ∙ drained-many;
          all-counts = length-take-le n counts (omega (arith, drained-few)) ∙ drained-many;
          all-spans = length-take-le (n * 16) spans (omega (arith, drained-few)) ∙ ap (◌* 16) drained-many;
          each = λ k l.
              let held = (tabled k l).0 in
              let less : k < n = omega (arith, drained-many) in
              record {
                state-held = get_or-take n states k 0 less ∙ held.state-held;
                count_held = get_or-take n counts k 0 less ∙ held.count_held;
                few-held = held.few-held;
                spans-held = λ j m. get_or-take (n * 16) spans _ 0 (omega (arith, held.few-held)) ∙ held.spans-held j m;
              };
          fits = fits;
        }

        -- THE TABLES AND THE CUTS are those of the drained rules, and so is the refusal
        pub sheet-judged : (reason : ℕ) → reason ≡ why (rules_from form (sheet_bits sheet) begins 0 count) → (rows sizes cuts : List ℕ) (r : Result Drained Refusal)
            → JudgesDays rows sizes cuts n reason (drained rs) r → Judges states counts spans replacing range_counts ranges rows sizes cuts rs r
        unfolding JudgesDays Judges
        sheet-judged reason w rows sizes cuts (Err f) h = h
        sheet-judged reason w rows sizes cuts (Ok d) h = (
          subst (Prepared states counts spans replacing range_counts ranges rows sizes cuts (drained rs)) (sym h.0) (record {
            rules-many = drained-many;
            times = drained-times;
            passed = h.3;
            drawable = (
              drained-days,
              record { all-replacing = omega (arith, drained-few, drained-many); noted = λ k l. (tabled k l).1.replacing-held },
              h.2,
            );
          }),
          h.1 ∙ w ∙ ap why same,
        )
