-- Laws of pieces that are laid one after another and tile a range from the day's start on.
use mathlib.Core.Path.{◌≡◌, refl, sym, ap, ap₂, ◌∙◌, subst}
use mathlib.Core.List.{List, [], ◌∷◌, ◌++◌, map, map-append}
use mathlib.Core.Bool.{Bool, true, false}
use Prim.Native.Nat.{ℕ, suc, ◌+◌, ◌*◌, ◌≤◌, ◌<◌}
use native.Mathlib.Omega.{arith}
use lib.Dec.{ltb}
use lib.ListN.{length, set, length-append, length-map}
use lib.Seq.{sets}
use borrow.Author.Tests.{ltb-true, ltb-false}
use Rattle.laws.proofs.Stores.{sets-append}
use Rattle.codes.specs.Number.{closed_number}
use Rattle.words.specs.Words.{part}
use Rattle.words.proofs.Sets.{part-sets, part-taken}
use Rattle.std.proofs.lemmas.List.{take_all}
use Rattle.day_paint.specs.Stroke.{shown}
use Rattle.day_paint.specs.Piece.{Piece, piece_start, piece_state, day_pieces, Tiles, DayLaid}
use Rattle.day_paint.proofs.MeanPiece.{tiles-append, tiles-same, pieces-tile}

-- ## A day's pieces, laid over what stood there
pub day-read : (f : ℕ → ℕ) (P : List Piece) → Tiles f 0 1440 P → (starts₀ starts states₀ states : List ℕ) (r : ℕ)
    → starts ≡ sets starts₀ 0 (map piece_start P ++ 1440 ∷ []) → states ≡ sets states₀ 0 (map piece_state P) → r ≡ length P
    → r < length starts₀ → r ≤ length states₀ → DayLaid f starts states r
day-read f P tile starts₀ starts states₀ states r e g c room size =
    let W : List ℕ = map piece_start P ++ 1440 ∷ [] in
    let w : suc r ≡ length W = sym (length-append (map piece_start P) (1440 ∷ []) ∙ omega (arith, length-map P piece_start)) in
    let S : List ℕ = map piece_state P in
    let s : r ≡ length S = omega (arith, length-map P piece_state) in
    record {
      tiles = P;
      tile = tile;
      starts-read = ap₂ (λ v n. part v 0 n) e w ∙ part-sets starts₀ 0 W (omega arith);
      states-read = ap₂ (λ v n. part v 0 n) g s ∙ part-sets states₀ 0 S (omega arith);
      counted = c;
    }

-- the whole of some strokes
pub part-whole : (s : List ℕ) → part s 0 (length s) ≡ s
part-whole s = sym (part-taken s 0 (length s) (omega arith)) ∙ take_all (length s) s (omega arith)

pub day-whole : (s starts states : List ℕ) (r : ℕ) → DayLaid (shown closed_number (part s 0 (length s))) starts states r → DayLaid (shown closed_number s) starts states r
day-whole s starts states r = subst (λ q. DayLaid (shown closed_number q) starts states r) (part-whole s)

-- pieces found from the last stroke back
pub day-pieces : (strokes : List ℕ) (k : ℕ) (starts₀ starts states₀ states : List ℕ) (r : ℕ)
    → (starts ≡ sets starts₀ 0 (map piece_start (day_pieces strokes k) ++ 1440 ∷ [])) × (states ≡ sets states₀ 0 (map piece_state (day_pieces strokes k)))
    × (r ≡ length (day_pieces strokes k)) × (r ≤ 2 * k + 1)
    → 2 * k + 2 ≤ length starts₀ → 2 * k + 1 ≤ length states₀
    → DayLaid (shown closed_number (part strokes 0 k)) starts states r × (r ≤ 2 * k + 1)
day-pieces strokes k starts₀ starts states₀ states r h room size = (
  day-read (shown closed_number (part strokes 0 k)) (day_pieces strokes k) (pieces-tile strokes k 0 1440 (omega arith)) starts₀ starts states₀ states r h.0
      h.1 h.2 (omega (arith, h.3)) (omega (arith, h.3)),
  h.3,
)

-- the same pieces, for what shows the same on each minute
pub day-same : (f h : ℕ → ℕ) → ((m : ℕ) → m < 1440 → h m ≡ f m) → (starts states : List ℕ) (r : ℕ) → DayLaid f starts states r → DayLaid h starts states r
day-same f h e starts states r d = record {
  tiles = d.tiles;
  tile = tiles-same f h 0 1440 d.tiles (λ m l u. e m u) d.tile;
  starts-read = d.starts-read;
  states-read = d.states-read;
  counted = d.counted;
}

-- ## Piece after piece
module _ (starts₀ states₀ : List ℕ) where
  -- laid up to a minute
  pub record TiledTo (f : ℕ → ℕ) (starts states : List ℕ) (place from : ℕ) : Type 0 where
    pub tiles : List Piece
    pub tile : Tiles f 0 from tiles
    pub starts-laid : starts ≡ sets starts₀ 0 (map piece_start tiles)
    pub states-laid : states ≡ sets states₀ 0 (map piece_state tiles)
    pub counted : place ≡ length tiles

  pub tiled-start : (f : ℕ → ℕ) → TiledTo f starts₀ states₀ 0 0
  tiled-start f = record { tiles = []; tile = refl; starts-laid = refl; states-laid = refl; counted = refl }

  one_more : (s t : List ℕ) (f : Piece → ℕ) (place : ℕ) (P : List Piece) (p : Piece) (x : ℕ) → s ≡ sets t 0 (map f P) → place ≡ length P → x ≡ f p
      → set s place x ≡ sets t 0 (map f (P ++ p ∷ []))
  one_more s t f place P p x e l q =
      let z : place ≡ 0 + length (map f P) = omega (arith, length-map P f) in
      ap₂ (λ v k. set v k x) e z ∙ ap (set (sets t 0 (map f P)) (0 + length (map f P))) q ∙ sym (sets-append t 0 (map f P) (f p ∷ []))
      ∙ ap (sets t 0) (sym (map-append f P (p ∷ [])))

  module _ (f : ℕ → ℕ) (starts states : List ℕ) (place from : ℕ) (g : TiledTo f starts states place from) where
    pub tiled-same : (h : ℕ → ℕ) → ((m : ℕ) → m < from → h m ≡ f m) → TiledTo h starts states place from
    tiled-same h e = record {
      tiles = g.tiles;
      tile = tiles-same f h 0 from g.tiles (λ m l u. e m u) g.tile;
      starts-laid = g.starts-laid;
      states-laid = g.states-laid;
      counted = g.counted;
    }

    -- a piece more, of one state
    pub tiled-put : (to S : ℕ) → from < to → ((m : ℕ) → from ≤ m → m < to → f m ≡ S) → (starts₁ states₁ : List ℕ) (place₁ at : ℕ) → at ≡ from
        → (starts₁ ≡ set starts place at) × (states₁ ≡ set states place S) × (place₁ ≡ place + 1) → TiledTo f starts₁ states₁ place₁ to
    tiled-put to S h own starts₁ states₁ place₁ at ea put = record {
      tiles = g.tiles ++ (from, to, S) ∷ [];
      tile = tiles-append f 0 from to g.tiles ((from, to, S) ∷ []) g.tile (refl, h, own, refl);
      starts-laid = put.0 ∙ one_more starts starts₀ piece_start place g.tiles (from, to, S) at g.starts-laid g.counted ea;
      states-laid = put.1 ∙ one_more states states₀ piece_state place g.tiles (from, to, S) S g.states-laid g.counted refl;
      counted = omega (arith, put.2, g.counted, length-append g.tiles ((from, to, S) ∷ []));
    }

    -- a gap more, where there is one
    pub tiled-gap : (to : ℕ) → from ≤ to → ((m : ℕ) → from ≤ m → m < to → f m ≡ closed_number) → (starts₁ states₁ : List ℕ) (place₁ : ℕ)
        → (from < to → (starts₁ ≡ set starts place from) × (states₁ ≡ set states place closed_number) × (place₁ ≡ place + 1))
        → (to ≤ from → (starts₁ ≡ starts) × (states₁ ≡ states) × (place₁ ≡ place)) → TiledTo f starts₁ states₁ place₁ to
    tiled-gap to h bare starts₁ states₁ place₁ put none = go (ltb from to) refl
      where
        go : (t : Bool) → ltb from to ≡ t → TiledTo f starts₁ states₁ place₁ to
        go true e = tiled-put to closed_number (ltb-true from to e) bare starts₁ states₁ place₁ from refl (put (ltb-true from to e))
        go false e =
            let n = none (ltb-false from to e) in
            let z : from ≡ to = omega (arith, ltb-false from to e) in
            record {
              tiles = g.tiles;
              tile = subst (λ k. Tiles f 0 k g.tiles) z g.tile;
              starts-laid = n.0 ∙ g.starts-laid;
              states-laid = n.1 ∙ g.states-laid;
              counted = n.2 ∙ g.counted;
            }

    pub tiled-ends : from ≡ 1440 → place < length starts₀ → place ≤ length states₀ → DayLaid f (set starts place 1440) states place
    tiled-ends z room size =
        let l : place ≡ 0 + length (map piece_start g.tiles) = omega (arith, g.counted, length-map g.tiles piece_start) in
        day-read f g.tiles (subst (λ k. Tiles f 0 k g.tiles) z g.tile) starts₀ (set starts place 1440) states₀ states place
        (ap₂ (λ v k. set v k 1440) g.starts-laid l ∙ sym (sets-append starts₀ 0 (map piece_start g.tiles) (1440 ∷ []))) g.states-laid g.counted room size
