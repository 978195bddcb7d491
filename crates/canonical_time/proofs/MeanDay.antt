-- The words of the painted states, with those of the groups behind them, are the flat form of the list's day. Rests on the laws of what
-- strokes, pieces, classes and groups mean.
use mathlib.Core.Path.{◌≡◌, refl, sym, ap, ap₂, ◌∙◌, subst}
use mathlib.Core.List.{List, [], ◌∷◌, ◌++◌, map, append_assoc, map-append}
use mathlib.Core.Bool.{Bool, true, false}
use Prim.Native.Nat.{ℕ, zero, suc, ◌+◌, ◌≤◌, ◌<◌}
use native.Mathlib.Omega.{arith}
use lib.Dec.{eqb}
use lib.ListN.{get_or, length, length-map}
use borrow.Author.Tests.{eqb-true, eqb-false}
use Rattle.grid.specs.Group.{Map, Group, sweep, groups}
use Rattle.grid.specs.Cut.{Range, same_range, between, starts, as_joined}
use Rattle.grid.proofs.Interval.{Rising}
use Rattle.definition.specs.Rule.{State, closed, same_state}
use Rattle.definition.specs.Day.{Stated, Day, flattened, painting, grouped, state_class, state_classes, painted, as_entry, painted_entries, sorted_entry, day_of, entry_of, day}
use Rattle.codes.specs.Number.{state_number, state_coded, closed_number, span_number}
use Rattle.words.specs.Words.{part, entry_words}
use Rattle.day_paint.specs.Stroke.{strokes_from, shown}
use Rattle.day_paint.specs.Piece.{Piece, piece_start, piece_state, Tiles}
use Rattle.day_sweep.specs.Row.{is_of_class, clear_from, class_left, classes_words}
use Rattle.canonical_time.specs.Flatten.{states_from, spans_from}
use Rattle.day_group.specs.Groups.{group_words}
use Rattle.day_flat.specs.Day.{flat, list_rules, pairs}
use Rattle.words.proofs.Sets.{part-front}
use Rattle.canonical_time.proofs.MeanList.{pairs-list}
use Rattle.canonical_time.proofs.MeanPieces.{piece_range, tiles-between, tiles-rise, tiles-shown, groups-pieces}
use Rattle.day_paint.proofs.MeanStroke.{stroke_at, strokes-paint, shown-mean}
use Rattle.day_group.proofs.MeanGroup.{groups-mean}
use Rattle.day_sweep.proofs.ClearedCells.{length-clear}
use Rattle.day_sweep.proofs.MeanClass.{intervals_at, Agree, class-mean}

flat_append : (d e : Day) → flat (d ++ e) ≡ flat d ++ flat e
unfolding flat
flat_append [] e = refl
flat_append (x ∷ d) e =
    ap (entry_words (state_number x.0) (map span_number x.1) ++◌) (flat_append d e)
    ∙ sym (append_assoc (entry_words (state_number x.0) (map span_number x.1)) (flat d) (flat e))

length-left : (c : ℕ) (vs : List ℕ) (j r : ℕ) → length (class_left c vs j r) ≡ length vs
unfolding class_left
length-left c vs j zero = refl
length-left c vs j (suc r) = go (is_of_class c (get_or vs j 0)) refl (λ ws. length-left c ws (j + 1) r)
  where
    go : (b : Bool) → is_of_class c (get_or vs j 0) ≡ b → ((ws : List ℕ) → length (class_left c ws (j + 1) r) ≡ length ws)
        → length (class_left c vs j (suc r)) ≡ length vs
    go true e ih = rw (e, class_left) (ih (clear_from vs (get_or vs j 0) j (suc r)) ∙ length-clear vs (get_or vs j 0) j (suc r))
    go false e ih = rw (e, class_left) (ih vs)

-- k numbers from c on
unfoldable up_from : ℕ → ℕ → List ℕ
up_from c zero = []
up_from c (suc k) = c ∷ up_from (c + 1) k

module _ (cs : List ℕ) (n : ℕ) (climbs : (k : ℕ) → k < n → get_or cs k 0 < get_or cs (k + 1) 0) where
  classes-mean : (k c : ℕ) (vs : List ℕ) (f : Map Range State) → 1 ≤ c → n ≤ length vs → Agree cs f vs 0 n
      → classes_words cs n c vs k
      ≡ flat (map as_entry (map as_joined (groups same_state same_range closed (map (λ c S. eqb (state_class S) c) (up_from c k)) (intervals_at cs 0 n ∷ []) f)))
  unfolding classes_words groups up_from
  classes-mean zero c vs f pos size a = unfold flat in refl
  classes-mean (suc k) c vs f pos size a =
      let t = class-mean cs n climbs c pos n 0 vs f [] (intervals_at cs 0 n) refl (omega arith) (omega arith) a tt in
      let s : List (Group Range State) × Map Range State = sweep same_state same_range closed (λ S. eqb (state_class S) c) (intervals_at cs 0 n ∷ []) f in
      let more : List (Group Range State) =
      groups same_state same_range closed (map (λ c S. eqb (state_class S) c) (up_from (c + 1) k)) (intervals_at cs 0 n ∷ []) s.1 in
      ap₂ ◌++◌ (sym t.words) (classes-mean k (c + 1) (class_left c vs 0 n) s.1 (omega arith) (omega (arith, length-left c vs 0 n)) t.left)
      ∙ sym (flat_append (map as_entry (map as_joined s.0)) (map as_entry (map as_joined more)))
      ∙ ap flat (sym (ap (map as_entry) (map-append as_joined s.0 more) ∙ map-append as_entry (map as_joined s.0) (map as_joined more)))

-- ## Intervals and cells
between-part : (cs : List ℕ) (j r : ℕ) → between (part cs j (suc r)) ≡ intervals_at cs j r
unfolding between part intervals_at
between-part cs j zero = refl
between-part cs j (suc r) = ap ((get_or cs j 0, get_or cs (j + 1) 0) ∷◌) (between-part cs (j + 1) r)

rising-climbs : (cs : List ℕ) (lo j r : ℕ) → Rising lo (intervals_at cs j r) → (k : ℕ) → j ≤ k → k < j + r → get_or cs k 0 < get_or cs (k + 1) 0
unfolding intervals_at
rising-climbs cs lo j zero u k l h = absurd (omega arith)
rising-climbs cs lo j (suc r) u k l h = go (eqb k j) refl (rising-climbs cs (get_or cs (j + 1) 0) (j + 1) r u.2 k)
  where
    go : (b : Bool) → eqb k j ≡ b → (j + 1 ≤ k → k < j + 1 + r → get_or cs k 0 < get_or cs (k + 1) 0) → get_or cs k 0 < get_or cs (k + 1) 0
    go true e ih = subst (λ i. get_or cs i 0 < get_or cs (i + 1) 0) (sym (eqb-true k j e)) u.1
    go false e ih = ih (omega (arith, eqb-false k j e)) (omega arith)

part_at : (vs cs : List ℕ) (h : ℕ → ℕ) (j r : ℕ) → part vs j r ≡ map h (part cs j r) → (k : ℕ) → j ≤ k → k < j + r → get_or vs k 0 ≡ h (get_or cs k 0)
unfolding part
part_at vs cs h j zero e k l m = absurd (omega arith)
part_at vs cs h j (suc r) e k l m = go (eqb k j) refl (part_at vs cs h (j + 1) r (cc) k)
  where
    go : (b : Bool) → eqb k j ≡ b → (j + 1 ≤ k → k < j + 1 + r → get_or vs k 0 ≡ h (get_or cs k 0)) → get_or vs k 0 ≡ h (get_or cs k 0)
    go true q ih = let z : get_or vs j 0 ≡ h (get_or cs j 0) = cc in ap (λ i. get_or vs i 0) (eqb-true k j q) ∙ z ∙ ap (λ i. h (get_or cs i 0)) (sym (eqb-true k j q))
    go false q ih = ih (omega (arith, eqb-false k j q)) (omega arith)

-- THE WORDS OF A LIST ARE THE FLAT FORM OF ITS DAY
module _ (states counts spans list : List ℕ) (i r : ℕ) (xs ps cs vs : List ℕ) (N n : ℕ) (P : List Piece)
    (flat-states : part xs 0 N ≡ states_from states counts list i r) (flat-spans : part ps 0 N ≡ spans_from counts spans list i r)
    (tiles : Tiles (shown closed_number (strokes_from xs ps 0 N)) 0 1440 P) (counted : n ≡ length P) (size : n ≤ length vs)
    (laid-cuts : part cs 0 (suc n) ≡ map piece_start P ++ 1440 ∷ []) (Laid-Cells : part vs 0 n ≡ map piece_state P) where
  abbrev strokes : List ℕ
  strokes = strokes_from xs ps 0 N

  abbrev ys : List Stated
  ys = map stroke_at (strokes_from xs ps 0 N)

  whole : flattened (map entry_of (list_rules states counts spans list i r)) ≡ pairs (part xs 0 N) (part ps 0 N)
  whole = sym (ap₂ pairs flat-states flat-spans ∙ pairs-list states counts spans list i r)

  paints : painting (flattened (map entry_of (list_rules states counts spans list i r))) ≡ ys
  paints = ap painting whole ∙ sym (strokes-paint xs ps 0 N)

  same-intervals : intervals_at cs 0 n ≡ map piece_range P
  same-intervals = sym (between-part cs 0 n) ∙ ap between laid-cuts ∙ tiles-between (shown closed_number strokes) 0 1440 P tiles

  climbs : (k : ℕ) → k < n → get_or cs k 0 < get_or cs (k + 1) 0
  climbs k h = rising-climbs cs 0 0 n (subst (Rising 0) (sym same-intervals) (tiles-rise (shown closed_number strokes) 0 1440 P tiles)) k (omega arith) (omega arith)

  cells : part vs 0 n ≡ map (shown closed_number strokes) (part cs 0 n)
  cells =
      Laid-Cells ∙ tiles-shown (shown closed_number strokes) 0 1440 P tiles
      ∙ ap (map (shown closed_number strokes)) (sym (part-front cs 0 n (map piece_start P) 1440 laid-cuts (counted ∙ sym (length-map P piece_start))))

  means : (m : ℕ) → painted ys (m ∷ []) ≡ state_coded (shown closed_number strokes m)
  means m = sym (shown-mean closed_number strokes m ∙ (unfold state_coded in refl))

  shows : Agree cs (λ is. painted ys (starts is)) vs 0 n
  shows k l h = means (get_or cs k 0) ∙ ap state_coded (sym (part_at vs cs (shown closed_number strokes) 0 n cells k l h))

  painted-words : classes_words cs n 1 vs 5 ≡ flat (painted_entries ys)
  unfolding painted_entries up_from
  painted-words =
      classes-mean cs n climbs 5 1 vs (λ is. painted ys (starts is)) (omega arith) size shows
      ∙ ap (λ D. flat (map as_entry (map as_joined (groups same_state same_range closed state_classes (D ∷ []) (λ is. painted ys (starts is)))))) same-intervals
      ∙ ap (λ G. flat (map as_entry G)) (sym (groups-pieces (shown closed_number strokes) P tiles (painted ys) means))

  pub day-words : classes_words cs n 1 vs 5 ++ group_words xs ps 0 N ≡ flat (day (list_rules states counts spans list i r))
  unfolding day day_of
  day-words =
      ap₂ ◌++◌ (painted-words ∙ ap (λ z. flat (painted_entries z)) (sym paints))
      (groups-mean xs ps 0 N ∙ ap (λ z. flat (map sorted_entry (grouped z))) (sym whole))
      ∙ sym
      (flat_append (painted_entries (painting (flattened (map entry_of (list_rules states counts spans list i r)))))
      (map sorted_entry (grouped (flattened (map entry_of (list_rules states counts spans list i r))))))
