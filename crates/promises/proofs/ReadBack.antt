-- DEMAND 3, FROM BYTES TO BYTES: what an accepted fold wrote is read again as its folded rules and the rules left. Rests on the law that it
-- fits the layout, as 13 lets nothing else be written, and on the round trip of sheets.
use mathlib.Core.Path.{◌≡◌, refl, sym, ap, ◌∙◌, subst}
use mathlib.Core.List.{List, [], ◌∷◌, map}
use mathlib.Core.Bool.{true, ◌&&◌}
use Prim.Native.Nat.{ℕ, ◌^◌, ◌<◌}
use native.Mathlib.Omega.{arith}
use lib.Dec.{eqb, ltb}
use lib.ListN.{length}
use lib.Pow.{pow_pos}
use borrow.Author.Tests.{lt-ltb, le-leb, eq-eqb}
use Rattle.laws.specs.Lists.{All}
use Rattle.laws.proofs.Flags.{split-and, both-and}
use Rattle.laws.proofs.Lists.{All-map, All-map₂, All-append, every-all, all-every, image-All}
use Rattle.laws.proofs.Spread.{flat_map-all}
use Rattle.grid.specs.Group.{Group}
use Rattle.grid.specs.Cut.{as_runs}
use Rattle.definition.specs.Field.{field, ◌then◌, via, tagged, several}
use Rattle.definition.specs.Rule.{State, Span, Rule}
use Rattle.definition.specs.Sheet.{Form, Limits, most_rules, span, title, counts, head, body, rule, opening, rules, decode, encode}
use Rattle.definition.specs.Stop.{drained, left}
use Rattle.definition.specs.Day.{Day}
use Rattle.definition.specs.Group.{pages, rules_of, folded}
use Rattle.definition.specs.Fold.{fold}
use Rattle.definition.proofs.SheetRead.{encode-decoded, decode-encoded}
use Rattle.definition.proofs.Lawful.{ItemsFit, items-fit, rules-each}
use Rattle.definition.proofs.FoldBox.{drained-all}
use Rattle.definition.proofs.DayHolds.{InDay}
use Rattle.definition.proofs.Groups.{point_groups}
use Rattle.definition.proofs.RuleCounts.{CountsFit, left-all}
use Rattle.definition.proofs.Carried.{comment-carried}
use Rattle.promises.specs.Conditions.{written, Accepted}
use Rattle.promises.specs.Codes.{result}
use Rattle.promises.specs.ReadBack.{widest, FoldReads}
use Rattle.promises.proofs.Laid.{laid}
use Rattle.promises.proofs.Group.{Sound, rules-all}
use Rattle.promises.proofs.Meaning.{sound}
use Rattle.promises.proofs.Going.{written-means}
use Rattle.promises.proofs.Pages.{pages-hold}
use Rattle.promises.proofs.Fitting.{plain_fits, laid-items, rule_fits}
use Rattle.promises.proofs.PastCounts.{none-fits}
use Rattle.promises.proofs.FoldCodes.{done-answer, fold-codes}

module _ (form : Form) (limits : Limits) where
  -- what of a rule fits whatever the limits are
  abbrev pub Lawful : Rule → Type 0
  Lawful r = (r.state.comment < 2 ^ form.comment) × ItemsFit form limits r

  rule-lawful : (r : Rule) → (rule form limits).fits r ≡ true → Lawful r
  rule-lawful r f = (comment-carried form limits r f, items-fit form limits r f)

  -- ## The folded rules
  abbrev Fine : State → Type 0
  Fine S = S.comment < 2 ^ form.comment

  abbrev Fits : Span → Type 0
  Fits s = span.fits s ≡ true

  group-lawful : (g : Group ℕ Day) → Sound g → InDay Fine Fits g.0 → All Lawful (rules_of (as_runs g))
  group-lawful g s = rules-all g s (λ e. Fine e.0 × All Fits e.1) Lawful (λ o e f k. (
    subst (λ x. x.0.comment < 2 ^ form.comment) (sym ((laid g.1 s.0).laid-entry o e)) k.0,
    laid-items form limits g.1 s.0 o e (all-every span.fits e.1 k.1),
  ))

  folded-lawful : (ds : List Rule) → All Lawful ds → All Lawful (folded ds)
  unfolding folded pages
  folded-lawful ds h = flat_map-all Lawful rules_of (pages ds) (each (point_groups ds) (sound ds) (image-All _ as_runs (point_groups ds) days))
    where
      days : All (λ g. InDay Fine Fits g.0) (pages ds)
      days = pages-hold Fine Fits plain_fits ds (All-map (λ r k. (k.0, every-all Fits span.fits (λ s e. e) r.spans k.1.spans_fit)) ds h)

      each : (gs : List (Group ℕ Day)) → All Sound gs → All (λ g. InDay Fine Fits g.0) gs → All (λ g. All Lawful (rules_of g)) (map as_runs gs)
      each [] s k = tt
      each (g ∷ gs) s k = (group-lawful g s.0 k.0, each gs s.1 k.1)

  -- ## All that is written
  pub written-lawful : (rs : List Rule) → (rules form limits).fits rs ≡ true → All Lawful (written rs)
  written-lawful rs carried =
      let h = every-all Lawful (rule form limits).fits rule-lawful rs (rules-each form limits rs carried) in
      All-append Lawful (folded (drained rs)) (left rs) (folded-lawful (drained rs) (drained-all Lawful rs h)) (left-all Lawful rs h).0

  -- the bits don't depend on the limits
  pub same_bits : (wide : Limits) (ws : List Rule) → encode form wide ws ≡ encode form limits ws
  unfolding encode rules opening rule head title counts body tagged via ◌then◌ several field
  same_bits wide ws = refl

  -- rules that a sheet carries, whose result the form's counts can carry
  module _ (rs : List Rule) (carried : (rules form limits).fits rs ≡ true) (few : CountsFit form (written rs)) where
    written-fits : (rules form (widest form limits)).fits (written rs) ≡ true
    unfolding rules tagged opening via ◌then◌ several field
    written-fits =
        let ws = written rs in
        let n = length ws in
        -- the sheet starts with the same mark
        let mark = ltb form.mark (2 ^ form.mark_width) && eqb form.mark form.mark in
        let marked = (split-and mark _ (split-and ((opening form limits).fits (length rs)) _ carried).0).0 in
        both-and _ _ (both-and mark _ marked
        (both-and _ _ (lt-ltb n (2 ^ form.rule_count) (omega (arith, few.rule-count, pow_pos form.rule_count))) (le-leb n (most_rules form) few.rule-count)))
        (both-and _ _ (eq-eqb n n refl) (all-every (rule form (widest form limits)).fits ws
        (All-map₂ (λ r s l. rule_fits form limits r l.0 s l.1) ws few.item-counts (written-lawful rs carried))))

    -- WHAT WAS WRITTEN IS READ AGAIN
    pub written_read : Accepted form (widest form limits) (result form limits rs) (written rs)
    written_read = (
      length ((rules form (widest form limits)).write (written rs)),
      ap (decode form (widest form limits)) (sym (same_bits (widest form limits) (written rs))) ∙ decode-encoded form (widest form limits) (written rs) written-fits,
    )

  -- DEMAND 3
  pub fold-reads : (room : ℕ) (sheet : List ℕ) → FoldReads form limits room sheet
  fold-reads room sheet whole e =
      let place = (fold form limits room sheet).place in
      let d = (fold-codes form limits room sheet 0 place).only (e, refl) in
      let rs = d.0 in
      let a = d.1.0.0.0.0 in
      let carried = (encode-decoded form limits sheet whole rs a.0 a.1).0 in (
        rs,
        a,
        subst (λ bytes. Accepted form (widest form limits) bytes (written rs)) (sym (ap (λ g. g.result) (done-answer form limits room sheet place d)))
            (written_read rs carried (none-fits form (written rs) d.1.1)),
        written-means rs,
      )
