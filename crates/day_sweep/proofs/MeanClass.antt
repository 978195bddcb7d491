-- The words of a class are the flat form of the groups that grid's sweep over the intervals takes out for it. Rests on the laws of popping
-- along one dimension.
use mathlib.Core.Path.{◌≡◌, refl, sym, ap, ap₂, ◌∙◌, subst}
use mathlib.Core.List.{List, [], ◌∷◌, ◌++◌, map, append_assoc}
use mathlib.Core.Logic.{inl, inr}
use mathlib.Core.Option.{some}
use mathlib.Core.Bool.{Bool, true, false, cond}
use Prim.Native.Nat.{ℕ, zero, suc, ◌+◌, ◌≤◌, ◌<◌}
use native.Mathlib.Omega.{arith}
use lib.Dec.{eqb}
use lib.ListN.{get_or, length}
use borrow.Author.Tests.{eq-eqb, ne_eqb, eqb-true, eqb-false}
use Rattle.laws.specs.Lists.{keep, All, Mem}
use Rattle.laws.proofs.Lists.{All-append, keep_append, keep-none, Mem-left, Mem-right, Mem-All, All-Mem}
use Rattle.grid.specs.Group.{Map, at, Group, agree, pop, clear, take_out, sweep}
use Rattle.grid.specs.Cut.{Range, same_range, joined, as_joined}
use Rattle.grid.proofs.Steps.{sweep-unroll}
use Rattle.definition.specs.Rule.{State, closed, same_state}
use Rattle.definition.specs.Day.{state_class, plain_span, as_entry}
use Rattle.definition.proofs.Same.{exact-state}
use Rattle.codes.specs.Number.{state_number, state_coded, closed_number, time_number, span_number}
use Rattle.codes.proofs.Numbers.{state-number, same-states}
use Rattle.words.specs.Words.{entry_words}
use Rattle.day_sweep.specs.Row.{runs_from, clear_from, is_of_class, class_words, class_left}
use Rattle.day_flat.specs.Day.{flat}
use Rattle.day_sweep.proofs.MeanRuns.{range_word, picked, own_runs}
use Rattle.day_sweep.proofs.ClearedCells.{clear-below, length-clear, clear_at}
use Rattle.day_sweep.proofs.PopRow.{alike, exact-range, pop-none, pop-some, alike-pre, alike-cleared}

module _ (cs : List ℕ) where
  -- the intervals from j on
  unfoldable pub intervals_at : ℕ → ℕ → List Range
  intervals_at j zero = []
  intervals_at j (suc r) = (get_or cs j 0, get_or cs (j + 1) 0) ∷ intervals_at (j + 1) r

  -- the map shows the cells' states on the intervals from j on
  abbrev pub Agree : Map Range State → List ℕ → ℕ → ℕ → Type 0
  Agree f vs j r = (k : ℕ) → j ≤ k → k < j + r → f ((get_or cs k 0, get_or cs (k + 1) 0) ∷ []) ≡ state_coded (get_or vs k 0)

  Mem-interval : (j r k : ℕ) → j ≤ k → k < j + r → Mem (get_or cs k 0, get_or cs (k + 1) 0) (intervals_at j r)
  unfolding intervals_at Mem
  Mem-interval j zero k l h = absurd (omega arith)
  Mem-interval j (suc r) k l h = go (eqb k j) refl (λ q. Mem-interval (j + 1) r k q (omega arith))
    where
      go : (b : Bool) → eqb k j ≡ b → (j + 1 ≤ k → Mem (get_or cs k 0, get_or cs (k + 1) 0) (intervals_at (j + 1) r))
          → Mem (get_or cs k 0, get_or cs (k + 1) 0) (intervals_at j (suc r))
      go true e ih = inl (ap (λ i. (get_or cs i 0, get_or cs (i + 1) 0)) (eqb-true k j e))
      go false e ih = inr (ih (omega (arith, eqb-false k j e)))

  keep-picked : (f : Map Range State) (vs : List ℕ) (S j r : ℕ) (T : State) → T ≡ state_coded S → Agree f vs j r
      → keep (λ y. agree same_state T [] (at f y)) (intervals_at j r) ≡ picked cs vs S j r
  unfolding intervals_at picked keep agree
  keep-picked f vs S j zero T q a = refl
  keep-picked f vs S j (suc r) T q a = go (eqb (get_or vs j 0) S) refl (keep-picked f vs S (j + 1) r T q (λ k l h. a k (omega arith) (omega arith)))
    where
      x : Range
      x = (get_or cs j 0, get_or cs (j + 1) 0)

      same : same_state (f (x ∷ [])) T ≡ eqb (get_or vs j 0) S
      same = ap₂ same_state (a j (omega arith) (omega arith)) q ∙ same-states (get_or vs j 0) S

      go : (b : Bool) → eqb (get_or vs j 0) S ≡ b → keep (λ y. agree same_state T [] (at f y)) (intervals_at (j + 1) r) ≡ picked cs vs S (j + 1) r
          → keep (λ y. agree same_state T [] (at f y)) (x ∷ intervals_at (j + 1) r) ≡ picked cs vs S j (suc r)
      go true e ih = rw (e, picked, same ∙ e, keep) (ap (x ∷◌) ih)
      go false e ih = rw (e, picked, same ∙ e, keep) ih

left_below : (c : ℕ) (vs : List ℕ) (j r i : ℕ) → i < j → get_or (class_left c vs j r) i 0 ≡ get_or vs i 0
unfolding class_left
left_below c vs j zero i h = refl
left_below c vs j (suc r) i h = go (is_of_class c (get_or vs j 0)) refl (λ ws. left_below c ws (j + 1) r i (omega arith))
  where
    go : (b : Bool) → is_of_class c (get_or vs j 0) ≡ b → ((ws : List ℕ) → get_or (class_left c ws (j + 1) r) i 0 ≡ get_or ws i 0)
        → get_or (class_left c vs j (suc r)) i 0 ≡ get_or vs i 0
    go true e ih = rw (e, class_left) (ih (clear_from vs (get_or vs j 0) j (suc r)) ∙ clear-below vs (get_or vs j 0) j (suc r) i h)
    go false e ih = rw (e, class_left) (ih vs)

spans-words : (rs : List Range) → map span_number (map plain_span rs) ≡ map range_word rs
spans-words [] = refl
spans-words (r ∷ rs) = ap₂ ◌∷◌ (unfold span_number time_number in refl) (spans-words rs)

module _ (cs : List ℕ) (n : ℕ) (climbs : (k : ℕ) → k < n → get_or cs k 0 < get_or cs (k + 1) 0) (c : ℕ) (pos : 1 ≤ c) where
  abbrev ok : State → Bool
  ok T = eqb (state_class T) c

  ok-closed : ok closed ≡ false
  ok-closed = ne_eqb 0 c (omega arith)

  abbrev swept : List Range → Map Range State → List (Group Range State) × Map Range State
  swept D f = sweep same_state same_range closed ok (D ∷ []) f

  -- what a sweep takes and leaves, from interval j on, where nothing before it matches
  pub record Taken (vs : List ℕ) (j r : ℕ) (f : Map Range State) (pre D : List Range) : Type 0 where
    pub words : flat (map as_entry (map as_joined (swept D f).0)) ≡ class_words cs c vs j r
    pub kept : (y : Range) → Mem y pre → (swept D f).1 (y ∷ []) ≡ f (y ∷ [])
    pub left : Agree cs (swept D f).1 (class_left c vs j r) j r

  unrolled : (D : List Range) (f : Map Range State) → swept D f ≡ take_out same_state same_range closed f (λ g. swept D g) (pop same_state ok (D ∷ []) f)
  unrolled D f = sweep-unroll exact-state exact-range closed (D ∷ []) ok ok-closed f

  taken_none : (vs : List ℕ) (j : ℕ) (f : Map Range State) (pre D : List Range) → D ≡ pre ++ [] → All (λ y. ok (f (y ∷ [])) ≡ false) pre → Taken vs j 0 f pre D
  unfolding take_out class_words flat
  taken_none vs j f pre D q h =
      let all : All (λ y. ok (f (y ∷ [])) ≡ false) D = subst (All (λ y. ok (f (y ∷ [])) ≡ false)) (sym q) (All-append _ pre [] h tt) in
      let u : swept D f ≡ ([], f) = unrolled D f ∙ ap (take_out same_state same_range closed f (λ g. swept D g)) (pop-none ok f D all) in
      record {
        words = ap (λ s. flat (map as_entry (map as_joined s.0))) u;
        kept = λ y m. ap (λ s. s.1 (y ∷ [])) u;
        left = λ k l h. absurd (omega arith);
      }

  -- x, which a sweep keeps from here on, is the interval j
  module _ (vs ws : List ℕ) (j r : ℕ) (f g : Map Range State) (pre D : List Range)
      (later : Taken ws (j + 1) r g (pre ++ (get_or cs j 0, get_or cs (j + 1) 0) ∷ []) D) where
    one_more : g ((get_or cs j 0, get_or cs (j + 1) 0) ∷ []) ≡ state_coded (get_or ws j 0) → Agree cs (swept D g).1 (class_left c ws (j + 1) r) j (suc r)
    unfolding Mem
    one_more e k l h = go (eqb k j) refl
      where
        go : (b : Bool) → eqb k j ≡ b → (swept D g).1 ((get_or cs k 0, get_or cs (k + 1) 0) ∷ []) ≡ state_coded (get_or (class_left c ws (j + 1) r) k 0)
        go true q =
            ap (λ i. (swept D g).1 ((get_or cs i 0, get_or cs (i + 1) 0) ∷ [])) (eqb-true k j q)
            ∙ later.kept (get_or cs j 0, get_or cs (j + 1) 0) (Mem-right (get_or cs j 0, get_or cs (j + 1) 0) pre _ (inl refl)) ∙ e
            ∙ ap state_coded (sym (left_below c ws (j + 1) r j (omega arith))) ∙ ap (λ i. state_coded (get_or (class_left c ws (j + 1) r) i 0)) (sym (eqb-true k j q))
        go false q = later.left k (omega (arith, eqb-false k j q)) (omega arith)

    pub skips : is_of_class c (get_or vs j 0) ≡ false → ws ≡ vs → g ≡ f → Agree cs f vs j (suc r) → Taken vs j (suc r) f pre D
    unfolding class_words class_left
    skips e p q a = record {
      words = ap (λ h. flat (map as_entry (map as_joined (swept D h).0))) (sym q) ∙ later.words ∙ ap (λ v. class_words cs c v (j + 1) r) p
          ∙ sym (rw (e, class_words));
      kept = λ y m. ap (λ h. (swept D h).1 (y ∷ [])) (sym q) ∙ later.kept y (Mem-left y pre _ m) ∙ ap (λ h. h (y ∷ [])) q;
      left = λ k l h. ap (λ u. (swept D u).1 ((get_or cs k 0, get_or cs (k + 1) 0) ∷ [])) (sym q)
          ∙ one_more (ap (λ u. u ((get_or cs j 0, get_or cs (j + 1) 0) ∷ [])) q ∙ a j (omega arith) (omega arith) ∙ ap (λ v. state_coded (get_or v j 0)) (sym p)) k l h
          ∙ ap (λ v. state_coded (get_or (class_left c v (j + 1) r) k 0)) p ∙ ap (λ v. state_coded (get_or v k 0)) (sym (left_step e));
    }
      where
        left_step : is_of_class c (get_or vs j 0) ≡ false → class_left c vs j (suc r) ≡ class_left c vs (j + 1) r
        left_step e = rw (e, class_left)

  -- the first match is x, the interval j
  module _ (vs : List ℕ) (j r : ℕ) (f : Map Range State) (pre D : List Range) (q : D ≡ pre ++ (get_or cs j 0, get_or cs (j + 1) 0) ∷ intervals_at cs (j + 1) r)
      (room : j + suc r ≤ n) (size : j + suc r ≤ length vs) (a : Agree cs f vs j (suc r)) (h : All (λ y. ok (f (y ∷ [])) ≡ false) pre)
      (e : is_of_class c (get_or vs j 0) ≡ true) where
    abbrev x : Range
    x = (get_or cs j 0, get_or cs (j + 1) 0)

    abbrev g : Map Range State
    g = clear same_range closed (alike ok f x D ∷ []) f

    value : f (x ∷ []) ≡ state_coded (get_or vs j 0)
    value = a j (omega arith) (omega arith)

    matches : ok (f (x ∷ [])) ≡ true
    matches = ap ok value ∙ (unfold is_of_class in e)

    in-D : (k : ℕ) → j ≤ k → k < j + suc r → Mem (get_or cs k 0, get_or cs (k + 1) 0) D
    unfolding intervals_at
    in-D k l m = subst (Mem (get_or cs k 0, get_or cs (k + 1) 0)) (sym q)
        (Mem-right (get_or cs k 0, get_or cs (k + 1) 0) pre (intervals_at cs j (suc r)) (Mem-interval cs j (suc r) k l m))

    pre-in-D : (y : Range) → Mem y pre → Mem y D
    pre-in-D y m = subst (Mem y) (sym q) (Mem-left y pre (x ∷ intervals_at cs (j + 1) r) m)

    popped : pop same_state ok (D ∷ []) f ≡ some (f (x ∷ []), alike ok f x D ∷ [])
    popped = ap (λ E. pop same_state ok (E ∷ []) f) q ∙ pop-some ok f pre x (intervals_at cs (j + 1) r) h matches
        ∙ ap (λ E. some (f (x ∷ []), alike ok f x E ∷ [])) (sym q)

    -- the group is the interval j with the later ones of its state
    group-set : alike ok f x D ≡ x ∷ picked cs vs (get_or vs j 0) (j + 1) r
    unfolding intervals_at picked
    group-set =
        ap (alike ok f x) q ∙ keep_append (λ y. agree same_state (f (x ∷ [])) [] (at f y)) pre (x ∷ intervals_at cs (j + 1) r)
        ∙ ap₂ ◌++◌ (keep-none (λ y. agree same_state (f (x ∷ [])) [] (at f y)) pre (alike-pre ok f pre x h matches))
        (keep-picked cs f vs (get_or vs j 0) j (suc r) (f (x ∷ [])) value a ∙ rw (eq-eqb (get_or vs j 0) (get_or vs j 0) refl, picked))

    cleared-cells : Agree cs g (clear_from vs (get_or vs j 0) j (suc r)) j (suc r)
    cleared-cells k l m =
        alike-cleared f x (get_or cs k 0, get_or cs (k + 1) 0) D (in-D k l m)
        ∙ ap₂ (λ u v. cond (same_state u v) closed u) (a k l m) value ∙ ap (λ b. cond b closed (state_coded (get_or vs k 0))) (same-states (get_or vs k 0) (get_or vs j 0))
        ∙ go (eqb (get_or vs k 0) (get_or vs j 0)) ∙ ap state_coded (sym (clear_at vs (get_or vs j 0) j (suc r) k size l m))
      where
        go : (b : Bool) → cond b closed (state_coded (get_or vs k 0)) ≡ state_coded (cond b closed_number (get_or vs k 0))
        go true = unfold state_coded in refl
        go false = refl

    kept-before : (y : Range) → Mem y pre → g (y ∷ []) ≡ f (y ∷ [])
    kept-before y m =
        alike-cleared f x y D (pre-in-D y m)
        ∙ ap (λ b. cond b closed (f (y ∷ [])))
        (sym (All-Mem (λ y. false ≡ same_state (f (y ∷ [])) (f (x ∷ []))) pre (unfold agree in alike-pre ok f pre x h matches) y m))

    pub unmatched : All (λ y. ok (g (y ∷ [])) ≡ false) (pre ++ x ∷ [])
    unmatched = All-append _ pre (x ∷ [])
        (Mem-All (λ y. ok (g (y ∷ [])) ≡ false) pre (λ y m. ap ok (kept-before y m) ∙ All-Mem (λ y. ok (f (y ∷ [])) ≡ false) pre h y m))
        (ap ok emptied ∙ ok-closed, tt)
      where
        emptied : g (x ∷ []) ≡ closed
        emptied = alike-cleared f x x D (in-D j (omega arith) (omega arith)) ∙ ap (λ b. cond b closed (f (x ∷ []))) (exact-state.self (f (x ∷ [])))

    pub takes : Taken (clear_from vs (get_or vs j 0) j (suc r)) (j + 1) r g (pre ++ x ∷ []) D → Taken vs j (suc r) f pre D
    unfolding class_words class_left take_out
    takes later =
        let u : swept D f ≡ ((f (x ∷ []), alike ok f x D ∷ []) ∷ (swept D g).0, (swept D g).1) =
        unrolled D f ∙ ap (take_out same_state same_range closed f (λ g. swept D g)) popped in
        record {
          words = ap (λ s. flat (map as_entry (map as_joined s.0))) u ∙ entry ∙ ap (entry_words (get_or vs j 0) runs ++◌) later.words
              ∙ sym (rw (e, class_words));
          kept = λ y m. ap (λ s. s.1 (y ∷ [])) u ∙ later.kept y (Mem-left y pre _ m) ∙ kept-before y m;
          left = λ k l m. ap (λ s. s.1 ((get_or cs k 0, get_or cs (k + 1) 0) ∷ [])) u
              ∙ one_more vs (clear_from vs (get_or vs j 0) j (suc r)) j r f g pre D later (cleared-cells j (omega arith) (omega arith)) k l m
              ∙ ap (λ v. state_coded (get_or v k 0)) (sym left_step);
        }
      where
        runs : List ℕ
        runs = runs_from cs vs (get_or vs j 0) (get_or cs j 0) j (suc r)

        left_step : class_left c vs j (suc r) ≡ class_left c (clear_from vs (get_or vs j 0) j (suc r)) (j + 1) r
        left_step = rw (e, class_left)

        entry : flat (map as_entry (map as_joined ((f (x ∷ []), alike ok f x D ∷ []) ∷ (swept D g).0)))
            ≡ entry_words (get_or vs j 0) runs ++ flat (map as_entry (map as_joined (swept D g).0))
        entry = unfold flat in
            ap₂ (λ S w. entry_words S w ++ flat (map as_entry (map as_joined (swept D g).0))) (ap state_number value ∙ state-number (get_or vs j 0))
            (spans-words (joined (alike ok f x D)) ∙ ap (λ E. map range_word (joined E)) group-set ∙ sym (own_runs cs vs n climbs (get_or vs j 0) j r room refl))

  -- THE WORDS OF A CLASS
  pub class-mean : (r j : ℕ) (vs : List ℕ) (f : Map Range State) (pre D : List Range) → D ≡ pre ++ intervals_at cs j r → j + r ≤ n → j + r ≤ length vs
      → Agree cs f vs j r → All (λ y. ok (f (y ∷ [])) ≡ false) pre → Taken vs j r f pre D
  unfolding intervals_at
  class-mean zero j vs f pre D q room size a h = taken_none vs j f pre D q h
  class-mean (suc r) j vs f pre D q room size a h = go (is_of_class c (get_or vs j 0)) refl
      (λ ws g p s b k. class-mean r (j + 1) ws g (pre ++ (get_or cs j 0, get_or cs (j + 1) 0) ∷ []) D p (omega arith) s b k)
    where
      after : D ≡ (pre ++ (get_or cs j 0, get_or cs (j + 1) 0) ∷ []) ++ intervals_at cs (j + 1) r
      after = q ∙ sym (append_assoc pre ((get_or cs j 0, get_or cs (j + 1) 0) ∷ []) (intervals_at cs (j + 1) r))

      go : (b : Bool) → is_of_class c (get_or vs j 0) ≡ b
          → ((ws : List ℕ) (g : Map Range State) → D ≡ (pre ++ (get_or cs j 0, get_or cs (j + 1) 0) ∷ []) ++ intervals_at cs (j + 1) r → j + 1 + r ≤ length ws
          → Agree cs g ws (j + 1) r
          → All (λ y. ok (g (y ∷ [])) ≡ false) (pre ++ (get_or cs j 0, get_or cs (j + 1) 0) ∷ [])
          → Taken ws (j + 1) r g (pre ++ (get_or cs j 0, get_or cs (j + 1) 0) ∷ []) D)
          → Taken vs j (suc r) f pre D
      go true e ih = takes vs j r f pre D q room size a h e
          (ih (clear_from vs (get_or vs j 0) j (suc r)) (g vs j r f pre D q room size a h e) after (omega (arith, length-clear vs (get_or vs j 0) j (suc r)))
          (λ k l m. cleared-cells vs j r f pre D q room size a h e k (omega arith) (omega arith)) (unmatched vs j r f pre D q room size a h e))
      go false e ih = skips vs vs j r f f pre D
          (ih vs f after (omega arith) (λ k l m. a k (omega arith) (omega arith))
          (All-append _ pre ((get_or cs j 0, get_or cs (j + 1) 0) ∷ []) h (ap ok (a j (omega arith) (omega arith)) ∙ (unfold is_of_class in e), tt))) e refl refl a
