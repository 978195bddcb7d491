-- A RULE AT BOX AFTER BOX: the lists of the boxes passed are those after the plain step, the others are as they were. Rests on the plain step.
use mathlib.Core.Path.{◌≡◌, refl, sym, ap, ◌∙◌}
use mathlib.Core.Bool.{Bool, true, false, ◌&&◌, not, cond, true≢false}
use mathlib.Core.List.{List, [], ◌∷◌, ◌++◌}
use mathlib.Core.Logic.{◌⊎◌, inl, inr}
use Prim.Native.Nat.{ℕ, ◌+◌, ◌≤◌, ◌<◌}
use native.Mathlib.Omega.{arith}
use lib.Dec.{ltb, leb}
use lib.ListN.{length, length-append}
use borrow.Author.Count.{below_more}
use borrow.Author.Tests.{ltb-true, ltb-false, leb-false, le-leb, lt-leb}
use Rattle.laws.proofs.Numbers.{at_most, from-any, from-none}
use Rattle.tables.specs.Sizes.{list_limit}
use Rattle.tables.specs.Lists.{list_of}
use Rattle.tables.specs.Plain.{base, plain_step, overfull, some_overfull}
use Rattle.plain_lists.specs.Draw.{HaveLists, Appended, Drew}

-- ## One box
module _ (replaces : Bool) (rule : ℕ) (covered : ℕ → Bool) (f : ℕ → List ℕ) (box : ℕ) where
  -- it is not covered
  clear-fits : covered box ≡ false → overfull replaces covered f box ≡ false
  unfolding overfull
  clear-fits e = rw e

  clear_step : covered box ≡ false → f box ≡ plain_step replaces rule covered f box
  unfolding plain_step
  clear_step e = rw e

  -- it is, and its list has room or not
  room_fits : covered box ≡ true → true ≡ ltb (length (base replaces (f box))) list_limit → overfull replaces covered f box ≡ false
  unfolding overfull
  room_fits e h = rw e (lt-leb list_limit (length (base replaces (f box))) (ltb-true (length (base replaces (f box))) list_limit (sym h)))

  room-step : covered box ≡ true → base replaces (f box) ++ (rule ∷ []) ≡ plain_step replaces rule covered f box
  unfolding plain_step
  room-step e = rw e

  full-over : covered box ≡ true → false ≡ ltb (length (base replaces (f box))) list_limit → overfull replaces covered f box ≡ true
  unfolding overfull
  full-over e h = rw e (le-leb list_limit (length (base replaces (f box))) (ltb-false (length (base replaces (f box))) list_limit (sym h)))

  -- a list that had room is not too long after the step
  pub step-short : length (f box) ≤ list_limit → overfull replaces covered f box ≡ false → length (plain_step replaces rule covered f box) ≤ list_limit
  unfolding overfull plain_step
  step-short short = go (covered box)
    where
      go : (c : Bool) → c && leb list_limit (length (base replaces (f box))) ≡ false → length (cond c (base replaces (f box) ++ (rule ∷ [])) (f box)) ≤ list_limit
      go true e = omega (arith, length-append (base replaces (f box)) (rule ∷ []), leb-false list_limit (length (base replaces (f box))) e)
      go false e = short

-- ## Box after box
module _ (lists : List ℕ) (boxes rule : ℕ) (replaces : Bool) (covered : ℕ → Bool) where
  -- the first n boxes are drawn
  pub record Drawn (lists' : List ℕ) (n : ℕ) : Type 0 where
    pub fits : (box : ℕ) → box < n → overfull replaces covered (list_of lists) box ≡ false
    pub done : (box : ℕ) → box < n → list_of lists' box ≡ plain_step replaces rule covered (list_of lists) box
    pub later : (box : ℕ) → n ≤ box → box < boxes → list_of lists' box ≡ list_of lists box

  pub drawn-none : Drawn lists 0
  drawn-none = record { fits = λ box l. absurd (omega arith); done = λ box l. absurd (omega arith); later = λ box _ _. refl }

  -- THE END
  pub drawn-all : (lists' : List ℕ) (n : ℕ) → boxes ≤ n → Drawn lists' n → Drew lists lists' boxes rule replaces covered true
  unfolding some_overfull
  drawn-all lists' n l d = record {
    told = ap not (sym (from-none (overfull replaces covered (list_of lists)) 0 boxes (λ box _ m. d.fits box (omega arith))));
    shows = λ _ box m. d.done box (omega arith);
  }

  module _ (have : HaveLists lists boxes) (lists' : List ℕ) (n : ℕ) (drawn : Drawn lists' n) where
    -- no list is too long on the way
    pub drawn-short : (box : ℕ) → box < boxes → length (list_of lists' box) ≤ list_limit
    drawn-short box l = go (at_most n box)
      where
        go : (n ≤ box) ⊎ (box < n) → length (list_of lists' box) ≤ list_limit
        go (inl h) = omega (arith, ap length (drawn.later box h l), (have.each box l).short)
        go (inr h) = omega (arith, ap length (drawn.done box h), step-short replaces rule covered (list_of lists) box (have.each box l).short (drawn.fits box h))

    pub drawn-have : length lists' ≡ length lists → HaveLists lists' boxes
    drawn-have e = record {
      few-boxes = have.few-boxes;
      each = λ box l. record { room = omega (arith, e, (have.each box l).room); short = drawn-short box l };
    }

    module _ (here : n < boxes) where
      -- a box that the rule does not cover
      pub drawn-clear : covered n ≡ false → Drawn lists' (n + 1)
      drawn-clear e = record {
        fits = below_more (λ box. overfull replaces covered (list_of lists) box ≡ false) n drawn.fits (clear-fits replaces rule covered (list_of lists) n e);
        done = below_more (λ box. list_of lists' box ≡ plain_step replaces rule covered (list_of lists) box) n drawn.done
            (drawn.later n (omega arith) here ∙ clear_step replaces rule covered (list_of lists) n e);
        later = λ box l m. drawn.later box (omega arith) m;
      }

      -- one that it covers
      module _ (lists'' : List ℕ) (room : Bool) (e : covered n ≡ true) (appended : Appended lists' lists'' n rule replaces room) where
        same : base replaces (list_of lists' n) ≡ base replaces (list_of lists n)
        same = ap (base replaces) (drawn.later n (omega arith) here)

        told : room ≡ ltb (length (base replaces (list_of lists n))) list_limit
        told = appended.told ∙ ap (λ l. ltb (length l) list_limit) same

        pub drawn-more : room ≡ true → Drawn lists'' (n + 1)
        drawn-more r = record {
          fits = below_more (λ box. overfull replaces covered (list_of lists) box ≡ false) n drawn.fits (room_fits replaces rule covered (list_of lists) n e (sym r ∙ told));
          done = below_more (λ box. list_of lists'' box ≡ plain_step replaces rule covered (list_of lists) box) n
              (λ box l. appended.others box (omega arith) (drawn-short box (omega arith)) ∙ drawn.done box l)
              (appended.ended r ∙ ap (◌++ (rule ∷ [])) same ∙ room-step replaces rule covered (list_of lists) n e);
          later = λ box l m. appended.others box (omega arith) (drawn-short box m) ∙ drawn.later box (omega arith) m;
        }

        pub drawn-full : room ≡ false → Drew lists lists'' boxes rule replaces covered false
        unfolding some_overfull
        drawn-full r = record {
          told =
              ap not (sym (from-any (overfull replaces covered (list_of lists)) 0 boxes n (omega arith) (omega arith)
              (full-over replaces rule covered (list_of lists) n e (sym r ∙ told))));
          shows = λ q. absurd (true≢false (sym q));
        }
