-- One lemma for each return of `normalize_time_rules`: the words that it wrote are the flat form of the list's day.
use mathlib.Core.Path.{◌≡◌, refl, sym, ap, ap₂, ◌∙◌, subst}
use mathlib.Core.List.{List, [], ◌++◌}
use mathlib.Core.Bool.{Bool, true, false}
use Prim.Native.Nat.{ℕ, zero, suc, ◌+◌, ◌*◌, ◌≤◌, ◌<◌}
use native.Mathlib.Omega.{arith}
use lib.Dec.{eqb}
use lib.ListN.{length, get_or, take, replicate, length-append, length-replicate}
use lib.Seq.{sets, length-sets}
use Rattle.laws.specs.Lists.{All}
use Rattle.laws.proofs.Stores.{sets-append}
use Rattle.definition.specs.Day.{simple, day}
use Rattle.codes.specs.Number.{closed_number, span_at}
use Rattle.words.specs.Words.{part}
use Rattle.day_paint.specs.Stroke.{strokes_of_run, strokes_from, shown}
use Rattle.day_paint.specs.Piece.{Piece, Tiles, DayLaid}
use Rattle.day_sweep.specs.Row.{time_limit, classes_words}
use Rattle.canonical_time.specs.Flatten.{states_from, spans_from}
use Rattle.day_group.specs.Groups.{group_words}
use Rattle.day_flat.specs.Day.{flat, list_rules}
use Rattle.words.proofs.Sets.{part-sets, part-taken, length_part}
use Rattle.std.proofs.lemmas.List.{length-take, length-take-le, take_all}
use Rattle.day_paint.proofs.Tiled.{part-whole}
use Rattle.canonical_time.proofs.FlattenReturns.{Flattened}
use Rattle.canonical_time.proofs.MeanPieces.{tiles-small}
use Rattle.canonical_time.proofs.MeanDay.{day-words}

same-lengths : (states counts spans list : List ℕ) (i r : ℕ) → length (spans_from counts spans list i r) ≡ length (states_from states counts list i r)
unfolding states_from spans_from
same-lengths states counts spans list i zero = refl
same-lengths states counts spans list i (suc r) =
    let a = part spans (get_or list i 0 * 16) (get_or counts (get_or list i 0) 0) in
    let b = replicate (get_or counts (get_or list i 0) 0) (get_or states (get_or list i 0) 0) in
    length-append a (spans_from counts spans list (i + 1) r)
    ∙ ap₂ ◌+◌
    (length_part spans (get_or list i 0 * 16) (get_or counts (get_or list i 0) 0)
    ∙ sym (length-replicate (get_or counts (get_or list i 0) 0) (get_or states (get_or list i 0) 0))) (same-lengths states counts spans list (i + 1) r)
    ∙ sym (length-append b (states_from states counts list (i + 1) r))

-- no more strokes than spans
run-few : (xs ps : List ℕ) (S i r : ℕ) → length (strokes_of_run xs ps S i r) ≤ r
unfolding strokes_of_run
run-few xs ps S i zero = omega arith
run-few xs ps S i (suc r) = go (eqb (get_or xs i 0) S) refl (simple (span_at (get_or ps i 0))) refl (run-few xs ps S (i + 1) r)
  where
    go : (a : Bool) → eqb (get_or xs i 0) S ≡ a → (b : Bool) → simple (span_at (get_or ps i 0)) ≡ b → length (strokes_of_run xs ps S (i + 1) r) ≤ r
        → length (strokes_of_run xs ps S i (suc r)) ≤ suc r
    go false e b f ih = rw (e, strokes_of_run) (omega arith)
    go true e true f ih = rw (e, strokes_of_run, f, strokes_of_run) (omega arith)
    go true e false f ih = rw (e, strokes_of_run, f, strokes_of_run) (omega arith)

pub strokes-few : (xs ps : List ℕ) (i r : ℕ) → length (strokes_from xs ps i r) ≤ r
unfolding strokes_from
strokes-few xs ps i zero = omega arith
strokes-few xs ps i (suc r) = go (simple (span_at (get_or ps i 0))) refl (strokes-few xs ps (i + 1) r)
  where
    go : (b : Bool) → simple (span_at (get_or ps i 0)) ≡ b → length (strokes_from xs ps (i + 1) r) ≤ r → length (strokes_from xs ps i (suc r)) ≤ suc r
    go true e ih = rw (e, strokes_from) (omega arith)
    go false e ih = rw (e, strokes_from) (omega (arith, run-few xs ps (get_or xs i 0) (i + 1) r))

-- ## Cuts are small
part_small : (s : List ℕ) (a n : ℕ) → All (λ c. c < 2048) (part s a n) → (k : ℕ) → k < n → get_or s (a + k) 0 < 2048
unfolding part
part_small s a zero h k l = absurd (omega arith)
part_small s a (suc n) h zero l = let z : a + 0 ≡ a = omega arith in rw z h.0
part_small s a (suc n) h (suc k) l = let z : a + suc k ≡ a + 1 + k = omega arith in rw z (part_small s (a + 1) n h.1 k (omega arith))

pub cuts-bounded : (f : ℕ → ℕ) (cuts cells : List ℕ) (m : ℕ) → DayLaid f cuts cells m → (j : ℕ) → j ≤ m → get_or cuts j 0 < time_limit
cuts-bounded f cuts cells m day j l =
    let small = tiles-small f 0 1440 day.tiles (omega arith) day.tile in
    let b = part_small cuts 0 (suc m) (subst (All (λ c. c < 2048)) (sym day.starts-read) small) j (omega arith) in
    let z : 0 + j ≡ j = omega arith in
    let g : get_or cuts (0 + j) 0 ≡ get_or cuts j 0 = ap (λ i. get_or cuts i 0) z in omega arith

-- where all spans are strokes there is no group
no-groups : (xs ps : List ℕ) (i r : ℕ) → length (strokes_from xs ps i r) ≡ r → group_words xs ps i r ≡ []
unfolding strokes_from group_words
no-groups xs ps i zero h = refl
no-groups xs ps i (suc r) h = go (simple (span_at (get_or ps i 0))) refl (no-groups xs ps (i + 1) r)
  where
    go : (b : Bool) → simple (span_at (get_or ps i 0)) ≡ b → (length (strokes_from xs ps (i + 1) r) ≡ r → group_words xs ps (i + 1) r ≡ [])
        → group_words xs ps i (suc r) ≡ []
    go true e ih = rw (e, group_words) (ih (omega (arith, rw (e, strokes_from) at h)))
    go false e ih = absurd (omega (arith, rw (e, strokes_from) at h, run-few xs ps (get_or xs i 0) (i + 1) r))

-- ## What stands at the front of a buffer
front-read : (s t ws : List ℕ) (n : ℕ) → t ≡ sets s 0 ws → n ≡ length ws → n ≤ length s → take n t ≡ ws
front-read s t ws n e c room =
    part-taken t 0 n (omega (arith, ap length e, length-sets s 0 ws)) ∙ ap₂ (λ v w. part v 0 w) e c ∙ part-sets s 0 ws (omega arith)

front-part : (s : List ℕ) (n : ℕ) → n ≤ length s → part (take n s) 0 n ≡ part s 0 n
front-part s n h =
    let z : length (take n s) ≡ n = length-take-le n s h in
    sym (part-taken (take n s) 0 n (omega (arith, z))) ∙ take_all n (take n s) (omega (arith, z)) ∙ part-taken s 0 n (omega arith)

-- ## The whole
module _ (states counts spans list xs₀ xs ps₀ ps q₀ q cs vs out₀ out₁ : List ℕ) (L N k m at : ℕ)
    (flat-list : Flattened states counts spans list L xs₀ ps₀ N xs ps)
    (stroked : (q ≡ sets q₀ 0 (strokes_from (take N xs) (take N ps) 0 (length (take N xs)))) × (k ≡ length (strokes_from (take N xs) (take N ps) 0 (length (take N xs)))))
    (pieced : DayLaid (shown closed_number (take k q)) cs vs m × (m ≤ 2 * length (take k q) + 1))
    (swept : (out₁ ≡ sets out₀ 0 (classes_words cs (length (take m vs)) 1 (take m vs) 5)) × (at ≡ length (classes_words cs (length (take m vs)) 1 (take m vs) 5)))
    (room : (16 * L ≤ length xs₀) × (16 * L ≤ length ps₀) × (32 * L + 2 ≤ length q₀) × (32 * L + 2 ≤ length vs)) where
  abbrev D : List ℕ
  D = flat (day (list_rules states counts spans list 0 L))

  abbrev X : List ℕ
  X = states_from states counts list 0 L

  abbrev Y : List ℕ
  Y = spans_from counts spans list 0 L

  same-long : length Y ≡ length X
  same-long = same-lengths states counts spans list 0 L

  x-read : take N xs ≡ X
  x-read = front-read xs₀ xs X N flat-list.1 flat-list.0 (omega (arith, flat-list.3, room.0))

  y-read : take N ps ≡ Y
  y-read = front-read ps₀ ps Y N flat-list.2 (omega (arith, flat-list.0, same-long)) (omega (arith, flat-list.3, room.1))

  abbrev Q : List ℕ
  Q = strokes_from X Y 0 (length X)

  strokes-same : strokes_from (take N xs) (take N ps) 0 (length (take N xs)) ≡ Q
  strokes-same = ap₂ (λ v w. strokes_from v w 0 (length v)) x-read y-read

  few : k ≤ N
  few = omega (arith, stroked.1, ap length strokes-same, strokes-few X Y 0 (length X), flat-list.0)

  q-read : take k q ≡ Q
  q-read = front-read q₀ q (strokes_from (take N xs) (take N ps) 0 (length (take N xs))) k stroked.0 stroked.1 (omega (arith, few, flat-list.3, room.2)) ∙ strokes-same

  inside : m ≤ length vs
  inside = omega (arith, pieced.1, ap length q-read, ap length strokes-same, stroked.1, few, flat-list.3, room.3)

  words : classes_words cs (length (take m vs)) 1 (take m vs) 5 ++ group_words (take N xs) (take N ps) 0 (length (take N xs)) ≡ D
  words =
      let tiled = pieced.0 in
      let P : List Piece = tiled.tiles in
      let tiles : Tiles (shown closed_number Q) 0 1440 P = subst (λ v. Tiles (shown closed_number v) 0 1440 P) q-read tiled.tile in
      ap₂ ◌++◌ (ap (λ n. classes_words cs n 1 (take m vs) 5) (length-take-le m vs inside)) (ap₂ (λ v w. group_words v w 0 (length v)) x-read y-read)
      ∙ day-words states counts spans list 0 L X Y cs (take m vs) (length X) m P (part-whole X) (ap (part Y 0) (sym same-long) ∙ part-whole Y) tiles tiled.counted
      (omega (arith, length-take-le m vs inside)) tiled.starts-read (front-part vs m inside ∙ tiled.states-read)

  laid : (B : List ℕ) → group_words (take N xs) (take N ps) 0 (length (take N xs)) ≡ B → (out₂ : List ℕ) (r : ℕ) → out₂ ≡ sets out₁ at B → r ≡ at + length B
      → (out₂ ≡ sets out₀ 0 D) × (r ≡ length D)
  laid B e out₂ r l c =
      let A : List ℕ = classes_words cs (length (take m vs)) 1 (take m vs) 5 in
      let all : A ++ B ≡ D = ap (A ++◌) (sym e) ∙ words in
      let z : at ≡ 0 + length A = omega (arith, swept.1) in (
        l ∙ ap₂ (λ v w. sets v w B) swept.0 z ∙ sym (sets-append out₀ 0 A B) ∙ ap (sets out₀ 0) all,
        omega (arith, c, swept.1, length-append A B, ap length all),
      )

  pub painted-laid : k ≡ N → (out₁ ≡ sets out₀ 0 (flat (day (list_rules states counts spans list 0 L)))) ×
      (at ≡ length (flat (day (list_rules states counts spans list 0 L))))
  painted-laid e =
      laid [] (no-groups (take N xs) (take N ps) 0 (length (take N xs)) (omega (arith, e, stroked.1, ap length x-read, flat-list.0))) out₁ at refl (omega arith)

  pub grouped-laid : (out₂ : List ℕ) (r : ℕ) → (out₂ ≡ sets out₁ at (group_words (take N xs) (take N ps) 0 (length (take N xs))))
      × (r ≡ at + length (group_words (take N xs) (take N ps) 0 (length (take N xs))))
      → (out₂ ≡ sets out₀ 0 (flat (day (list_rules states counts spans list 0 L)))) × (r ≡ length (flat (day (list_rules states counts spans list 0 L))))
  grouped-laid out₂ r g = laid (group_words (take N xs) (take N ps) 0 (length (take N xs))) refl out₂ r g.0 g.1

-- no more strokes than spans, which are at most sixteen for each rule
pub few-strokes : (xs ps : List ℕ) (k n L : ℕ) → k ≡ length (strokes_from (take n xs) (take n ps) 0 (length (take n xs))) → n ≤ 16 * L → k ≤ 16 * L
few-strokes xs ps k n L e h = omega (arith, e, strokes-few (take n xs) (take n ps) 0 (length (take n xs)), length-take n xs)
