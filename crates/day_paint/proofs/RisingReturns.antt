-- One lemma for each step of `write_rising`: what the strokes show so far is tiled up to the last one's end, and behind it nothing shows.
use mathlib.Core.Path.{◌≡◌, refl, sym, ap, ◌∙◌, subst}
use mathlib.Core.List.{List}
use Prim.Native.Nat.{ℕ, suc, ◌+◌, ◌*◌, ◌≤◌, ◌<◌}
use native.Mathlib.Omega.{arith}
use lib.ListN.{length, get_or, set}
use Rattle.codes.specs.Number.{closed_number}
use Rattle.words.specs.Words.{part}
use Rattle.day_paint.specs.Stroke.{stroke_start, stroke_end, stroke_state, stroke_over, shown}
use Rattle.day_paint.specs.Piece.{DayLaid}
use Rattle.day_paint.proofs.MeanPiece.{shown-last, over-in, over-before, over-after}
use Rattle.day_paint.proofs.Tiled.{TiledTo, tiled-start, tiled-same, tiled-put, tiled-gap, tiled-ends}

module _ (q starts₀ states₀ : List ℕ) where
  abbrev up_to : ℕ → ℕ → ℕ
  up_to i m = shown closed_number (part q 0 i) m

  -- the first i strokes, which rise and end at a minute
  pub record Rising (starts states : List ℕ) (place from i : ℕ) : Type 0 where
    pub tiled : TiledTo starts₀ states₀ (up_to i) starts states place from
    pub bare : (m : ℕ) → from ≤ m → up_to i m ≡ closed_number
    pub within : from ≤ 1440
    pub few : place ≤ 2 * i

  pub rising-start : Rising starts₀ states₀ 0 0 0
  rising-start = record { tiled = tiled-start starts₀ states₀ (up_to 0); bare = λ m h. (unfold shown part in refl); within = omega arith; few = omega arith }

  one_more : (i m : ℕ) → up_to (i + 1) m ≡ stroke_over (get_or q i 0) m (up_to i m)
  one_more i m =
      let s : i + 1 ≡ suc i = omega arith in
      let z : 0 + i ≡ i = omega arith in
      ap (λ j. up_to j m) s ∙ shown-last q closed_number m 0 i ∙ ap (λ j. stroke_over (get_or q j 0) m (up_to i m)) z

  module _ (starts states : List ℕ) (place from i : ℕ) (g : Rising starts states place from i) where
    module _ (x : ℕ) (ex : x ≡ get_or q i 0) (start end S : ℕ) (es : start ≡ stroke_start x) (ee : end ≡ stroke_end x) (e_s : S ≡ stroke_state x)
        (rises : from ≤ start) (long : start < end) (inside : end ≤ 1440) where
      stroke : (m : ℕ) → up_to (i + 1) m ≡ stroke_over x m (up_to i m)
      stroke m = one_more i m ∙ ap (λ y. stroke_over y m (up_to i m)) (sym ex)

      before : (m : ℕ) → m < start → up_to (i + 1) m ≡ up_to i m
      before m h = stroke m ∙ over-before x m (up_to i m) (omega arith)

      pub rising-on : (starts₁ states₁ : List ℕ) (next : ℕ)
          → (from < start → (starts₁ ≡ set starts place from) × (states₁ ≡ set states place closed_number) × (next ≡ place + 1))
          × (start ≤ from → (starts₁ ≡ starts) × (states₁ ≡ states) × (next ≡ place)) × (next ≤ place + 1)
          → (starts₂ states₂ : List ℕ) (last : ℕ) → (starts₂ ≡ set starts₁ next start) × (states₂ ≡ set states₁ next S) × (last ≡ next + 1)
          → Rising starts₂ states₂ last end (i + 1)
      rising-on starts₁ states₁ next gap starts₂ states₂ last put =
          let old = tiled-same starts₀ states₀ (up_to i) starts states place from g.tiled (up_to (i + 1)) (λ m h. before m (omega arith)) in
          let gapped = tiled-gap starts₀ states₀ (up_to (i + 1)) starts states place from old start rises (λ m l h. before m h ∙ g.bare m l)
          starts₁ states₁ next gap.0 gap.1 in
          record {
            tiled = tiled-put starts₀ states₀ (up_to (i + 1)) starts₁ states₁ next start gapped end S long
                (λ m l h. stroke m ∙ over-in x m (up_to i m) (omega arith) (omega arith) ∙ sym e_s) starts₂ states₂ last start refl put;
            bare = λ m h. stroke m ∙ over-after x m (up_to i m) (omega arith) ∙ g.bare m (omega arith);
            within = inside;
            few = omega (arith, put.2, gap.2, g.few);
          }

    pub rising-ends : (k : ℕ) → i ≡ k → 2 * k + 2 ≤ length starts₀ → 2 * k + 1 ≤ length states₀ → (starts₁ states₁ : List ℕ) (last : ℕ)
        → (from < 1440 → (starts₁ ≡ set starts place from) × (states₁ ≡ set states place closed_number) × (last ≡ place + 1))
        × (1440 ≤ from → (starts₁ ≡ starts) × (states₁ ≡ states) × (last ≡ place)) × (last ≤ place + 1)
        → DayLaid (shown closed_number (part q 0 k)) (set starts₁ last 1440) states₁ last × (last ≤ 2 * k + 1)
    rising-ends k e room size starts₁ states₁ last gap =
        let whole = tiled-gap starts₀ states₀ (up_to i) starts states place from g.tiled 1440 g.within (λ m l h. g.bare m l) starts₁ states₁ last gap.0 gap.1 in
        let day = tiled-ends starts₀ states₀ (up_to i) starts₁ states₁ last 1440 whole refl (omega (arith, gap.2, g.few)) (omega (arith, gap.2, g.few)) in
        (subst (λ j. DayLaid (up_to j) (set starts₁ last 1440) states₁ last) e day, omega (arith, gap.2, g.few))
