-- Laws of minutes that are painted with numbers: what each holds after a stroke, how often they change, and how they are read as pieces.
-- Rests on the laws of what strokes show.
use mathlib.Core.Path.{◌≡◌, refl, sym, ap, ap₂, ◌∙◌, subst}
use mathlib.Core.List.{List}
use mathlib.Core.Bool.{Bool, true, false, ◌&&◌, cond}
use Prim.Native.Nat.{ℕ, zero, suc, ◌+◌, ◌-◌, ◌≤◌, ◌<◌}
use native.Mathlib.Omega.{arith}
use lib.Dec.{eqb, leb, ltb}
use lib.ListN.{length, get_or, set, replicate}
use lib.Seq.{get_or-set_same, get_or-set_other}
use borrow.Author.Tests.{lt-ltb, le-ltb, le-leb, lt-leb, eq-eqb, ne_eqb, ltb-true, ltb-false, leb-true, leb-false, eqb-true, eqb-false}
use Rattle.codes.specs.Number.{closed_number}
use Rattle.words.specs.Words.{part}
use Rattle.day_paint.specs.Stroke.{stroke_start, stroke_end, stroke_state, stroke_over, shown}
use Rattle.day_paint.specs.Piece.{earlier, DayLaid}
use Rattle.day_paint.specs.Minute.{number_state, filled_at, changes, Painted}
use Rattle.day_paint.proofs.MeanPiece.{shown-last}
use Rattle.day_paint.proofs.Tiled.{TiledTo, tiled-start, tiled-put, tiled-ends}

pub zeros : (n m : ℕ) → get_or {A = ℕ} (replicate n 0) m 0 ≡ 0
zeros zero m = refl
zeros (suc n) zero = refl
zeros (suc n) (suc m) = zeros n m

-- ## Filling
module _ (day : List ℕ) (a : ℕ) (v : ℕ) where
  before : (b m : ℕ) → m < a → filled_at day a b v m ≡ get_or day m 0
  unfolding filled_at
  before b m h = rw (lt-leb a m h)

  behind : (b m : ℕ) → b ≤ m → filled_at day a b v m ≡ get_or day m 0
  unfolding filled_at
  behind b m h = go (leb a m)
    where
      go : (t : Bool) → cond (t && ltb m b) v (get_or day m 0) ≡ get_or day m 0
      go true = rw (le-ltb m b h)
      go false = refl

  inside : (b m : ℕ) → a ≤ m → m < b → filled_at day a b v m ≡ v
  unfolding filled_at
  inside b m h k = rw (le-leb a m h, lt-ltb m b k)

  pub fill_start : (m : ℕ) → get_or day m 0 ≡ filled_at day a a v m
  fill_start m = go (ltb m a) refl
    where
      go : (t : Bool) → ltb m a ≡ t → get_or day m 0 ≡ filled_at day a a v m
      go true e = sym (before a m (ltb-true m a e))
      go false e = sym (behind a m (ltb-false m a e))

  -- a minute more
  pub fill_on : (i : ℕ) (now : List ℕ) → a ≤ i → i < length now → ((m : ℕ) → get_or now m 0 ≡ filled_at day a i v m)
      → (m : ℕ) → get_or (set now i v) m 0 ≡ filled_at day a (i + 1) v m
  fill_on i now h l g m = go (eqb m i) refl (ltb m a) refl (ltb m i) refl
    where
      go : (s : Bool) → eqb m i ≡ s → (t : Bool) → ltb m a ≡ t → (u : Bool) → ltb m i ≡ u → get_or (set now i v) m 0 ≡ filled_at day a (i + 1) v m
      go true e t f u k =
          let z = eqb-true m i e in
          ap (λ w. get_or (set now i v) w 0) z ∙ get_or-set_same now i v 0 l ∙ sym (inside (i + 1) i h (omega arith)) ∙ ap (filled_at day a (i + 1) v) (sym z)
      go false e true f u k = get_or-set_other now i m v 0 (eqb-false m i e) ∙ g m ∙ before i m (ltb-true m a f) ∙ sym (before (i + 1) m (ltb-true m a f))
      go false e false f true k =
          get_or-set_other now i m v 0 (eqb-false m i e) ∙ g m ∙ inside i m (ltb-false m a f) (ltb-true m i k)
          ∙ sym (inside (i + 1) m (ltb-false m a f) (omega (arith, ltb-true m i k)))
      go false e false f false k =
          get_or-set_other now i m v 0 (eqb-false m i e) ∙ g m ∙ behind i m (ltb-false m i k)
          ∙ sym (behind (i + 1) m (omega (arith, ltb-false m i k, eqb-false m i e)))

  -- all of them; none where the end lies before the start
  pub fill_end : (i b : ℕ) → a ≤ i → i - a ≤ b - a → b ≤ i → (m : ℕ) → filled_at day a i v m ≡ filled_at day a b v m
  fill_end i b h l u m = go (ltb b a) refl
    where
      go : (t : Bool) → ltb b a ≡ t → filled_at day a i v m ≡ filled_at day a b v m
      go false e = let z : i ≡ b = omega (arith, ltb-false b a e) in ap (λ w. filled_at day a w v m) z
      go true e =
          let z : i ≡ a = omega (arith, ltb-true b a e) in
          ap (λ w. filled_at day a w v m) z ∙ sym (fill_start m) ∙ none (ltb m a) refl
        where
          none : (s : Bool) → ltb m a ≡ s → get_or day m 0 ≡ filled_at day a b v m
          none true f = sym (before b m (ltb-true m a f))
          none false f = sym (behind b m (omega (arith, ltb-true b a e, ltb-false m a f)))

-- ## How often minutes change: a stroke adds two changes at most, one where it begins and one where it ends
module _ (day now : List ℕ) (a b v : ℕ) (g : (m : ℕ) → get_or now m 0 ≡ filled_at day a b v m) where
  abbrev bit : ℕ → ℕ → ℕ
  bit x y = cond (eqb x y) 0 1

  bit-most : (x y : ℕ) → bit x y ≤ 1
  bit-most x y = go (eqb x y)
    where
      go : (t : Bool) → cond t 0 1 ≤ 1
      go true = omega arith
      go false = omega arith

  -- a minute and the next are both painted, or neither is, or the stroke begins or ends between them
  changes-at : (n : ℕ) → bit (get_or now n 0) (get_or now (n + 1) 0) + cond (leb a n) 1 0 + cond (ltb n b) 0 1
      ≤ bit (get_or day n 0) (get_or day (n + 1) 0) + cond (leb a (n + 1)) 1 0 + cond (ltb (n + 1) b) 0 1
  changes-at n = go (leb a n) refl (leb a (n + 1)) refl (ltb n b) refl (ltb (n + 1) b) refl
    where
      most : bit (get_or now n 0) (get_or now (n + 1) 0) ≤ 1
      most = bit-most (get_or now n 0) (get_or now (n + 1) 0)

      same : get_or now n 0 ≡ get_or day n 0 → get_or now (n + 1) 0 ≡ get_or day (n + 1) 0
          → bit (get_or now n 0) (get_or now (n + 1) 0) ≡ bit (get_or day n 0) (get_or day (n + 1) 0)
      same e f = ap₂ bit e f

      go : (A : Bool) → leb a n ≡ A → (C : Bool) → leb a (n + 1) ≡ C → (B : Bool) → ltb n b ≡ B → (D : Bool) → ltb (n + 1) b ≡ D
          → bit (get_or now n 0) (get_or now (n + 1) 0) + cond A 1 0 + cond B 0 1 ≤ bit (get_or day n 0) (get_or day (n + 1) 0) + cond C 1 0 + cond D 0 1
      go true e false f B p D q = absurd (omega (arith, leb-true a n e, leb-false a (n + 1) f))
      go false e true f true p true q = omega (arith, most)
      go false e true f true p false q = omega (arith, most)
      go false e true f false p true q = absurd (omega (arith, ltb-false n b p, ltb-true (n + 1) b q))
      go false e true f false p false q = omega (arith, most)
      go false e false f true p false q = omega (arith, most)
      go false e false f false p true q = absurd (omega (arith, ltb-false n b p, ltb-true (n + 1) b q))
      go true e true f true p false q = omega (arith, most)
      go true e true f false p true q = absurd (omega (arith, ltb-false n b p, ltb-true (n + 1) b q))
      go false e false f true p true q =
          let z = same (g n ∙ before day a v b n (leb-false a n e)) (g (n + 1) ∙ before day a v b (n + 1) (leb-false a (n + 1) f)) in omega arith
      go false e false f false p false q =
          let z = same (g n ∙ behind day a v b n (ltb-false n b p)) (g (n + 1) ∙ behind day a v b (n + 1) (ltb-false (n + 1) b q)) in omega arith
      go true e true f false p false q =
          let z = same (g n ∙ behind day a v b n (ltb-false n b p)) (g (n + 1) ∙ behind day a v b (n + 1) (ltb-false (n + 1) b q)) in omega arith
      go true e true f true p true q =
          let z : bit (get_or now n 0) (get_or now (n + 1) 0) ≡ 0 =
          ap₂ bit (g n ∙ inside day a v b n (leb-true a n e) (ltb-true n b p)) (g (n + 1) ∙ inside day a v b (n + 1) (leb-true a (n + 1) f) (ltb-true (n + 1) b q))
          ∙ rw (eq-eqb v v refl) in omega arith

  pub changes-fill : (n : ℕ) → changes now n ≤ changes day n + 2
  unfolding changes
  changes-fill n = omega (arith, most n, bit-of (leb a n), bit-of (ltb n b), bit-of (leb a 0), bit-of (ltb 0 b))
    where
      bit-of : (t : Bool) → (cond t 1 0 ≤ 1) × (cond t 0 1 ≤ 1)
      bit-of true = (omega arith, omega arith)
      bit-of false = (omega arith, omega arith)

      most : (n : ℕ) → changes now n + cond (leb a 0) 1 0 + cond (ltb 0 b) 0 1 ≤ changes day n + cond (leb a n) 1 0 + cond (ltb n b) 0 1
      most zero = omega arith
      most (suc n) =
          let z : n + 1 ≡ suc n = omega arith in
          let here = subst
          (λ k. bit (get_or now n 0) (get_or now (n + 1) 0) + cond (leb a n) 1 0 + cond (ltb n b) 0 1
          ≤ bit (get_or day n 0) (get_or day (n + 1) 0) + cond (leb a k) 1 0 + cond (ltb k b) 0 1) z (changes-at n) in
          omega (arith, most n, here)

-- bare minutes never change
still : (day : List ℕ) → ((m : ℕ) → get_or day m 0 ≡ 0) → (n : ℕ) → changes day n ≡ 0
unfolding changes
still day bare zero = refl
still day bare (suc n) =
    let e : ◌≡◌ {A = ℕ} (cond (eqb (get_or day n 0) (get_or day (n + 1) 0)) 0 1) 0 = ap (λ t. cond t 0 1) (eq-eqb _ _ (bare n ∙ sym (bare (n + 1)))) in
    omega (arith, still day bare n, e)

changes-up : (day : List ℕ) (n d : ℕ) → changes day n ≤ changes day (n + d)
unfolding changes
changes-up day n zero = let z : n ≡ n + 0 = omega arith in subst (λ k. changes day n ≤ changes day k) z (omega arith)
changes-up day n (suc d) =
    let z : suc (n + d) ≡ n + suc d = omega arith in subst (λ k. changes day n ≤ changes day k) z (omega (arith, changes-up day n d))

changes-one : (day : List ℕ) (n : ℕ) → (get_or day n 0 ≡ get_or day (n + 1) 0 → ⊥) → changes day (suc n) ≡ changes day n + 1
unfolding changes
changes-one day n d = ap (λ t. changes day n + cond t 0 1) (ne_eqb _ _ d)

-- ## A stroke more
module _ (strokes : List ℕ) where
  pub painted-start : (day : List ℕ) → ((m : ℕ) → get_or day m 0 ≡ 0) → Painted strokes 0 day
  painted-start day bare =
      let none = still day bare 1439 in
      record { numbers = λ m. omega (arith, bare m); shows = λ m h. ap (number_state strokes) (bare m) ∙ plain m; few = omega (arith, none) }
    where
      plain : (m : ℕ) → number_state strokes 0 ≡ shown closed_number (part strokes 0 0) m
      plain m = unfold number_state shown part in refl

  up-to-day : (e m : ℕ) → m < 1440 → ltb m (earlier e 1440) ≡ ltb m e
  unfolding earlier
  up-to-day e m h = go (ltb e 1440) refl
    where
      go : (t : Bool) → ltb e 1440 ≡ t → ltb m (cond t e 1440) ≡ ltb m e
      go true q = refl
      go false q = lt-ltb m 1440 h ∙ sym (lt-ltb m e (omega (arith, ltb-false e 1440 q)))

  module _ (day now : List ℕ) (i x : ℕ) (at : x ≡ get_or strokes i 0) (a b v : ℕ) (ea : a ≡ stroke_start x) (eb : b ≡ earlier (stroke_end x) 1440) (ev : v ≡ suc i)
      (g : (m : ℕ) → get_or now m 0 ≡ filled_at day a b v m) (p : Painted strokes i day) where
    abbrev over : ℕ → Bool
    over m = leb a m && ltb m b

    number_at : (m : ℕ) → get_or now m 0 ≡ cond (over m) v (get_or day m 0)
    unfolding filled_at
    number_at m = g m

    state-at : (m : ℕ) → number_state strokes (get_or now m 0) ≡ cond (over m) (stroke_state x) (number_state strokes (get_or day m 0))
    unfolding number_state
    state-at m = ap (number_state strokes) (number_at m) ∙ go (over m)
      where
        go : (t : Bool) → number_state strokes (cond t v (get_or day m 0)) ≡ cond t (stroke_state x) (number_state strokes (get_or day m 0))
        go true = ap (number_state strokes) ev ∙ ap stroke_state (sym at)
        go false = refl

    over-day : (m : ℕ) → m < 1440 → over m ≡ leb (stroke_start x) m && ltb m (stroke_end x)
    over-day m h = ap₂ (λ s t. leb s m && ltb m t) ea eb ∙ ap (leb (stroke_start x) m &&◌) (up-to-day (stroke_end x) m h)

    pub painted-on : Painted strokes (i + 1) now
    unfolding stroke_over
    painted-on = record {
      numbers = λ m. few m (over m) (number_at m);
      shows = λ m h.
          state-at m ∙ ap₂ (λ t y. cond t (stroke_state x) y) (over-day m h) (p.shows m h) ∙ ap (λ y. stroke_over y m (shown closed_number (part strokes 0 i) m)) at
          ∙ last m;
      few = omega (arith, p.few, changes-fill day now a b v g 1439);
    }
      where
        few : (m : ℕ) (t : Bool) → get_or now m 0 ≡ cond t v (get_or day m 0) → get_or now m 0 ≤ i + 1
        few m true e = omega arith
        few m false e = omega (arith, p.numbers m)

        last : (m : ℕ) → stroke_over (get_or strokes i 0) m (shown closed_number (part strokes 0 i) m) ≡ shown closed_number (part strokes 0 (i + 1)) m
        last m =
            let z : i ≡ 0 + i = omega arith in
            let s : suc i ≡ i + 1 = omega arith in
            ap (λ j. stroke_over (get_or strokes j 0) m (shown closed_number (part strokes 0 i) m)) z ∙ sym (shown-last strokes closed_number m 0 i)
            ∙ ap (λ j. shown closed_number (part strokes 0 j) m) s

-- ## The state of a number
pub state-none : (strokes : List ℕ) (number : ℕ) → number ≡ 0 → closed_number ≡ number_state strokes number
unfolding number_state
state-none strokes number e = sym (ap (number_state strokes) e)

pub state-some : (strokes : List ℕ) (number x : ℕ) → (number ≡ 0 → ⊥) → x ≡ stroke_state (get_or strokes (number - 1) 0) → x ≡ number_state strokes number
unfolding number_state
state-some strokes zero x d e = absurd (d refl)
state-some strokes (suc j) x d e = let z : suc j - 1 ≡ j = omega arith in e ∙ ap (λ k. stroke_state (get_or strokes k 0)) z

-- ## Minutes read as pieces
module _ (strokes minutes starts₀ states₀ : List ℕ) where
  abbrev shown_at : ℕ → ℕ
  shown_at m = number_state strokes (get_or minutes m 0)

  -- read up to a minute
  pub record Reading (starts states : List ℕ) (place from : ℕ) : Type 0 where
    pub tiled : TiledTo starts₀ states₀ shown_at starts states place from
    pub up_to : from ≤ 1440
    pub room : from < 1440 → place ≤ changes minutes from
    pub most : place ≤ changes minutes 1439 + 1

  module _ (starts states : List ℕ) (place from : ℕ) (g : Reading starts states place from) where
    pub reading-room : from < 1440 → place ≤ changes minutes 1439
    reading-room h =
        let z : from + (1439 - from) ≡ 1439 = omega arith in
        let up : changes minutes from ≤ changes minutes 1439 = subst (λ k. changes minutes from ≤ changes minutes k) z (changes-up minutes from (1439 - from)) in
        omega (arith, g.room h)

    module _ (h : from < 1440) (number : ℕ) (en : number ≡ get_or minutes from 0) (S : ℕ) (es : S ≡ number_state strokes number) (next : ℕ)
        (run : (from + 1 ≤ next) × (next ≤ 1440) × ((m : ℕ) → from + 1 ≤ m → m < next → get_or minutes m 0 ≡ number) × (next < 1440 → get_or minutes next 0 ≡ number → ⊥)) where
      own : (m : ℕ) → from ≤ m → m < next → get_or minutes m 0 ≡ number
      own m l u = go (eqb m from) refl
        where
          go : (t : Bool) → eqb m from ≡ t → get_or minutes m 0 ≡ number
          go true e = ap (λ k. get_or minutes k 0) (eqb-true m from e) ∙ sym en
          go false e = run.2 m (omega (arith, eqb-false m from e)) u

      -- the minute before the next run changes
      changed : next < 1440 → changes minutes from + 1 ≤ changes minutes next
      changed l =
          let last : ℕ = next - 1 in
          let z : suc last ≡ next = omega (arith, run.0) in
          let y : last + 1 ≡ next = omega (arith, run.0) in
          let w : from + (last - from) ≡ last = omega (arith, run.0) in
          let own-last = own last (omega (arith, run.0)) (omega (arith, run.0)) in
          let up : changes minutes from ≤ changes minutes last = subst (λ k. changes minutes from ≤ changes minutes k) w (changes-up minutes from (last - from)) in
          let one = changes-one minutes last (λ e. run.3 l (ap (λ k. get_or minutes k 0) (sym y) ∙ sym e ∙ own-last)) in
          omega (arith, up, ap (changes minutes) z, one)

      pub reading-on : (starts₁ states₁ : List ℕ) (place₁ at : ℕ) → at ≡ from
          → (starts₁ ≡ set starts place at) × (states₁ ≡ set states place S) × (place₁ ≡ place + 1) → Reading starts₁ states₁ place₁ next
      reading-on starts₁ states₁ place₁ at ea put = record {
        tiled = tiled-put starts₀ states₀ shown_at starts states place from g.tiled next S (omega (arith, run.0))
            (λ m l u. ap (number_state strokes) (own m l u) ∙ sym es) starts₁ states₁ place₁ at ea put;
        up_to = run.1;
        room = λ l. omega (arith, put.2, g.room h, changed l);
        most = omega (arith, put.2, reading-room h);
      }

    pub reading-ends : 1440 ≤ from → changes minutes 1439 + 2 ≤ length starts₀ → changes minutes 1439 + 1 ≤ length states₀
        → DayLaid shown_at (set starts place 1440) states place × (place ≤ changes minutes 1439 + 1)
    reading-ends h r l = (
      tiled-ends starts₀ states₀ shown_at starts states place from g.tiled (omega (arith, g.up_to)) (omega (arith, g.most)) (omega (arith, g.most)),
      g.most,
    )
