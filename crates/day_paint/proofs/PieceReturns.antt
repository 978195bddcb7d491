-- One lemma for each return of the functions that write pieces, and for each step along a range.
use mathlib.Core.Path.{◌≡◌, refl, sym, ap, ap₂, ◌∙◌, subst}
use mathlib.Core.List.{List, [], ◌∷◌, ◌++◌, map, map-append}
use mathlib.Core.Bool.{true}
use Prim.Native.Nat.{ℕ, ◌+◌, ◌*◌, ◌-◌, ◌≤◌, ◌<◌}
use native.Mathlib.Omega.{arith}
use lib.ListN.{length, get_or, set, length-append, length-map}
use lib.Seq.{sets}
use Rattle.laws.proofs.Stores.{sets-append}
use Rattle.codes.specs.Number.{closed_number}
use Rattle.words.proofs.Sets.{sets-next}
use Rattle.day_paint.specs.Stroke.{stroke_state, stroke_start, stroke_end}
use Rattle.day_paint.specs.Piece.{Piece, piece_start, piece_state, earlier, meets_up_to, meets, last_meeting, pieces, day_pieces}
use Rattle.day_paint.proofs.Meeting.{last-few, last_meets}
use Rattle.day_paint.proofs.Pieces.{pieces_none, pieces-bare, pieces-last, ends-later, pieces-here, pieces-left, pieces-few}

-- pieces laid from a place on, and the place after them
abbrev pub Laid : List ℕ → List ℕ → ℕ → List ℕ → List ℕ → ℕ → List Piece → Type 0
Laid cs vs k cs' vs' r L = (cs' ≡ sets cs k (map piece_start L)) × (vs' ≡ sets vs k (map piece_state L)) × (r ≡ k + length L)

lay-more : (f : Piece → ℕ) (s s₁ s₂ : List ℕ) (k m : ℕ) (L M : List Piece) → s₁ ≡ sets s k (map f L) → m ≡ k + length L → s₂ ≡ sets s₁ m (map f M)
    → s₂ ≡ sets s k (map f (L ++ M))
lay-more f s s₁ s₂ k m L M e p h =
    let z : m ≡ k + length (map f L) = omega (arith, length-map L f) in
    h ∙ ap₂ (λ v w. sets v w (map f M)) e z ∙ sym (sets-append s k (map f L) (map f M)) ∙ ap (sets s k) (sym (map-append f L M))

module _ (cs vs : List ℕ) (k : ℕ) (cs₂ vs₂ : List ℕ) (r : ℕ) where
  laid_more : (cs₁ vs₁ : List ℕ) (m : ℕ) (L M : List Piece) → Laid cs vs k cs₁ vs₁ m L → Laid cs₁ vs₁ m cs₂ vs₂ r M → Laid cs vs k cs₂ vs₂ r (L ++ M)
  laid_more cs₁ vs₁ m L M l h = (
    lay-more piece_start cs cs₁ cs₂ k m L M l.0 l.2 h.0,
    lay-more piece_state vs vs₁ vs₂ k m L M l.1 l.2 h.1,
    omega (arith, l.2, h.2, length-append L M),
  )

  same-laid : (L M : List Piece) → L ≡ M → Laid cs vs k cs₂ vs₂ r M → Laid cs vs k cs₂ vs₂ r L
  same-laid L M e h =
      (h.0 ∙ ap (λ N. sets cs k (map piece_start N)) (sym e), h.1 ∙ ap (λ N. sets vs k (map piece_state N)) (sym e), h.2 ∙ ap (λ N. k + length N) (sym e))

-- ## Along a range
-- up to a minute: there is room for what is left of the range, and whatever lays that lays the whole
pub record RangeOn (q : List ℕ) (i a b k : ℕ) (cs₀ vs₀ : List ℕ) (below minute place : ℕ) (cs vs : List ℕ) : Type 0 where
  pub fewer : below ≤ i
  pub room : (place + length (pieces q below minute b) ≤ length cs) × (place + length (pieces q below minute b) ≤ length vs)
  pub finishes : (cs₁ vs₁ : List ℕ) (r : ℕ) → Laid cs vs place cs₁ vs₁ r (pieces q below minute b) → Laid cs₀ vs₀ k cs₁ vs₁ r (pieces q i a b)

module _ (q : List ℕ) (i a b k : ℕ) (cs₀ vs₀ : List ℕ) (below m place : ℕ) (cs vs : List ℕ) (on : RangeOn q i a b k cs₀ vs₀ below m place cs vs) where
  -- what is left, laid at once
  done : (L : List Piece) → pieces q below m b ≡ L → (cs₁ vs₁ : List ℕ) (r : ℕ) → Laid cs vs place cs₁ vs₁ r L → Laid cs₀ vs₀ k cs₁ vs₁ r (pieces q i a b)
  done L e cs₁ vs₁ r l = on.finishes cs₁ vs₁ r (same-laid cs vs place cs₁ vs₁ r (pieces q below m b) L e l)

  pub nothing_left : b ≤ m → Laid cs₀ vs₀ k cs vs place (pieces q i a b)
  nothing_left h = done [] (pieces_none q below m b h) cs vs place (refl, refl, omega arith)

  -- its first pieces: there is room for them, and behind them it goes on
  module _ (L : List Piece) (below₁ m₁ : ℕ) (e : pieces q below m b ≡ L ++ pieces q below₁ m₁ b) where
    size : length (pieces q below m b) ≡ length L + length (pieces q below₁ m₁ b)
    size = ap length e ∙ length-append L (pieces q below₁ m₁ b)

    first-room : (place + length L ≤ length cs) × (place + length L ≤ length vs)
    first-room = (omega (arith, on.room, size), omega (arith, on.room, size))

    goes_on : below₁ ≤ i → (cs₁ vs₁ : List ℕ) (place₁ : ℕ) → Laid cs vs place cs₁ vs₁ place₁ L → (length cs₁ ≡ length cs) × (length vs₁ ≡ length vs)
        → RangeOn q i a b k cs₀ vs₀ below₁ m₁ place₁ cs₁ vs₁
    goes_on fewer cs₁ vs₁ place₁ l f = record {
      fewer = fewer;
      room = (omega (arith, on.room, size, l.2, f.0), omega (arith, on.room, size, l.2, f.1));
      finishes = λ cs₂ vs₂ r t. done (L ++ pieces q below₁ m₁ b) e cs₂ vs₂ r (laid_more cs vs place cs₂ vs₂ r cs₁ vs₁ place₁ L (pieces q below₁ m₁ b) l t);
    }

  -- by the j strokes up to the last that meets what is left
  module _ (j : ℕ) (last : j ≡ last_meeting q below m b) where
    same : pieces q below m b ≡ pieces q j m b
    same = pieces-last q below m b ∙ ap (λ n. pieces q n m b) (sym last)

    pub fewer-still : j ≤ i
    fewer-still = omega (arith, on.fewer, last-few q m b below)

    -- none does
    module _ (none : j ≡ 0) (h : m < b) where
      bare : pieces q below m b ≡ (m, b, closed_number) ∷ []
      bare = same ∙ ap (λ n. pieces q n m b) none ∙ pieces-bare q m b h

      pub bare-room : (place < length cs) × (place < length vs)
      bare-room = (omega (arith, on.room, ap length bare), omega (arith, on.room, ap length bare))

      pub bare-laid : (cs₁ vs₁ : List ℕ) (r : ℕ) → Laid cs vs place cs₁ vs₁ r ((m, b, closed_number) ∷ []) → Laid cs₀ vs₀ k cs₁ vs₁ r (pieces q i a b)
      bare-laid = done ((m, b, closed_number) ∷ []) bare

    module _ (some : j ≡ 0 → ⊥) (s : ℕ) (es : s ≡ stroke_start (get_or q (j - 1) 0)) where
      met : meets (get_or q (j - 1) 0) m b ≡ true
      met = subst (λ n. 0 < n → meets (get_or q (n - 1) 0) m b ≡ true) (sym last) (last_meets q m b below) (omega arith)

      -- it shows from a later minute on: what lies to its left comes first
      module _ (h : m < s) where
        left : pieces q below m b ≡ pieces q (j - 1) m s ++ pieces q j s b
        left = same ∙ pieces-left q j m b (omega arith) met s es h

        pub left-room : (place + length (pieces q (j - 1) m s) ≤ length cs) × (place + length (pieces q (j - 1) m s) ≤ length vs)
        left-room = first-room (pieces q (j - 1) m s) j s left

        pub left-on : (cs₁ vs₁ : List ℕ) (place₁ : ℕ) → Laid cs vs place cs₁ vs₁ place₁ (pieces q (j - 1) m s)
            → (length cs₁ ≡ length cs) × (length vs₁ ≡ length vs)
            → RangeOn q i a b k cs₀ vs₀ j s place₁ cs₁ vs₁
        left-on = goes_on (pieces q (j - 1) m s) j s left fewer-still

      -- it shows from the minute on, with a state S, up to u
      module _ (h : s ≤ m) (S e u : ℕ) (e_s : S ≡ stroke_state (get_or q (j - 1) 0)) (ee : e ≡ stroke_end (get_or q (j - 1) 0)) (eu : u ≡ earlier e b) where
        up_to : u ≡ meets_up_to (get_or q (j - 1) 0) b
        up_to = eu ∙ ap (λ v. earlier v b) ee

        pub shows-on : m < u
        shows-on = omega (arith, up_to, ends-later q j m b (omega arith) met)

        own : pieces q below m b ≡ (m, u, S) ∷ pieces q (j - 1) u b
        own = same ∙ pieces-here q j m b (omega arith) met (omega arith) ∙ ap₂ (λ v w. (m, v, w) ∷ pieces q (j - 1) v b) (sym up_to) (sym e_s)

        pub own_room : (place + 1 ≤ length cs) × (place + 1 ≤ length vs)
        own_room = first-room ((m, u, S) ∷ []) (j - 1) u own

        pub own_on : (cs₁ vs₁ : List ℕ) (place₁ : ℕ) → Laid cs vs place cs₁ vs₁ place₁ ((m, u, S) ∷ []) → (length cs₁ ≡ length cs) × (length vs₁ ≡ length vs)
            → RangeOn q i a b k cs₀ vs₀ (j - 1) u place₁ cs₁ vs₁
        own_on = goes_on ((m, u, S) ∷ []) (j - 1) u own (omega (arith, fewer-still))

  -- stroke t is the last that meets what is left
  module _ (t : ℕ) (last : last_meeting q below m b ≡ t + 1) where
    some : t + 1 ≡ 0 → ⊥
    some e = omega arith

    back : t + 1 - 1 ≡ t
    back = omega arith

    pub last-in : t < i
    last-in = omega (arith, fewer-still (t + 1) (sym last))

    module _ (s : ℕ) (es : s ≡ stroke_start (get_or q t 0)) where
      es₁ : s ≡ stroke_start (get_or q (t + 1 - 1) 0)
      es₁ = es ∙ ap (λ n. stroke_start (get_or q n 0)) (sym back)

      pub range-left-room : m < s → (place + length (pieces q t m s) ≤ length cs) × (place + length (pieces q t m s) ≤ length vs)
      range-left-room h =
          subst (λ n. (place + length (pieces q n m s) ≤ length cs) × (place + length (pieces q n m s) ≤ length vs)) back (left-room (t + 1) (sym last) some s es₁ h)

      pub range-left-on : m < s → (cs₁ vs₁ : List ℕ) (place₁ : ℕ) → Laid cs vs place cs₁ vs₁ place₁ (pieces q t m s) → (length cs₁ ≡ length cs) × (length vs₁ ≡ length vs)
          → RangeOn q i a b k cs₀ vs₀ (t + 1) s place₁ cs₁ vs₁
      range-left-on h cs₁ vs₁ place₁ l f =
          left-on (t + 1) (sym last) some s es₁ h cs₁ vs₁ place₁ (subst (λ n. Laid cs vs place cs₁ vs₁ place₁ (pieces q n m s)) (sym back) l) f

      module _ (h : s ≤ m) where
        pub range-own-room : (place < length cs) × (place < length vs)
        range-own-room = let room = own_room (t + 1) (sym last) some s es₁ h _ _ _ refl refl refl in (omega (arith, room.0), omega (arith, room.1))

        module _ (S e u : ℕ) (e_s : S ≡ stroke_state (get_or q t 0)) (ee : e ≡ stroke_end (get_or q t 0)) (eu : u ≡ earlier e b) where
          pub range-shows-on : m < u
          range-shows-on = shows-on (t + 1) (sym last) some s es₁ h S e u (e_s ∙ ap (λ n. stroke_state (get_or q n 0)) (sym back))
              (ee ∙ ap (λ n. stroke_end (get_or q n 0)) (sym back)) eu

          pub range-own-on : (cs₁ vs₁ : List ℕ) (place₁ : ℕ) → Laid cs vs place cs₁ vs₁ place₁ ((m, u, S) ∷ []) → (length cs₁ ≡ length cs) × (length vs₁ ≡ length vs)
              → RangeOn q i a b k cs₀ vs₀ t u place₁ cs₁ vs₁
          range-own-on cs₁ vs₁ place₁ l f =
              subst (λ n. RangeOn q i a b k cs₀ vs₀ n u place₁ cs₁ vs₁) back
              (own_on (t + 1) (sym last) some s es₁ h S e u (e_s ∙ ap (λ n. stroke_state (get_or q n 0)) (sym back)) (ee ∙ ap (λ n. stroke_end (get_or q n 0)) (sym back)) eu cs₁ vs₁ place₁ l f)

-- ## A day's pieces laid, with its end behind their starts
pub day-laid : (q : List ℕ) (k : ℕ) (cs vs cs₁ vs₁ : List ℕ) (m : ℕ) → Laid cs vs 0 cs₁ vs₁ m (day_pieces q k)
    → (set cs₁ m 1440 ≡ sets cs 0 (map piece_start (day_pieces q k) ++ 1440 ∷ [])) × (vs₁ ≡ sets vs 0 (map piece_state (day_pieces q k)))
    × (m ≡ length (day_pieces q k)) × (m ≤ 2 * k + 1)
day-laid q k cs vs cs₁ vs₁ m l =
    let starts : List ℕ = map piece_start (day_pieces q k) in
    let z : m ≡ 0 + length starts = omega (arith, l.2, length-map (day_pieces q k) piece_start) in (
      ap₂ (λ v w. set v w 1440) l.0 z ∙ sets-next (sets cs 0 starts) (0 + length starts) 1440 [] ∙ sym (sets-append cs 0 starts (1440 ∷ [])),
      l.1,
      omega (arith, l.2),
      omega (arith, l.2, pieces-few q k 0 1440),
    )
