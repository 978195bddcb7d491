-- A walk over boxes: one that changes nothing, over no box, and over some boxes and then others. Rests on the laws of the lists made.
use mathlib.Core.Path.{◌≡◌, refl, sym, ap, ◌∙◌}
use mathlib.Core.Bool.{Bool, true, false, true≢false}
use mathlib.Core.List.{List, [], ◌∷◌, ◌++◌}
use mathlib.Core.Logic.{◌⊎◌, inl, inr}
use Prim.Native.Nat.{ℕ, ◌≤◌, ◌<◌}
use native.Mathlib.Omega.{arith}
use lib.ListN.{length, get_or}
use Rattle.laws.specs.Lists.{All, Mem}
use Rattle.laws.proofs.Lists.{All-map, All-append, Mem-left, Mem-right}
use Rattle.laws.proofs.Numbers.{at_most}
use Rattle.tables.specs.Sizes.{list_limit}
use Rattle.tables.specs.Lists.{named, shown}
use Rattle.tables.specs.Plain.{base}
use Rattle.list_store.specs.Draw.{Making, Walked}
use Rattle.list_store.proofs.Making.{named-later}

-- the same boxes, put another way
pub walked_as : {cells lists : List ℕ} {used : ℕ} {over : Bool} {cells' lists' memo' : List ℕ} {used' : ℕ} {over' : Bool} {rule : ℕ} {replaces : Bool} {before : ℕ} {xs ys : List ℕ} → ys ≡ xs
    → Walked cells lists used over cells' lists' memo' used' over' rule replaces before xs → Walked cells lists used over cells' lists' memo' used' over' rule replaces before ys
walked_as e w = rw e w

module _ {rule before : ℕ} {cells lists memo : List ℕ} {used : ℕ} (m : Making cells lists memo rule before used) {replaces : Bool} where
  -- a walk that changes nothing
  pub stands : {over over' : Bool} {boxes : List ℕ} → (over' ≡ false → All (λ box. before < get_or cells box 0) boxes)
      → (over ≡ false → over' ≡ true → (box : ℕ) × Mem box boxes × (get_or cells box 0 ≤ before) × (list_limit ≤ length (base replaces (shown cells lists box))))
      → (over ≡ true → over' ≡ true) → Walked cells lists used over cells lists memo used over' rule replaces before boxes
  stands drawn full loud = record {
    making = m;
    grown = omega arith;
    kept = λ i l. refl;
    others = λ box ne. refl;
    stays = λ box l. refl;
    waits = λ box l. refl;
    shows = λ box l h. absurd (omega arith);
    drawn = drawn;
    full = full;
    loud = loud;
  }

  -- ## Over no box
  pub walked_none : {over : Bool} → Walked cells lists used over cells lists memo used over rule replaces before []
  walked_none = stands (λ _. tt) (λ q l. absurd (true≢false (sym l ∙ q))) (λ l. l)

  -- ## Over some boxes, then others
  module _ {cells₁ lists₁ memo₁ cells₂ lists₂ memo₂ : List ℕ} {used₁ used₂ : ℕ} {over over₁ over₂ : Bool} {xs ys : List ℕ}
      (a : Walked cells lists used over cells₁ lists₁ memo₁ used₁ over₁ rule replaces before xs) (b : Walked cells₁ lists₁ used₁ over₁ cells₂ lists₂ memo₂ used₂ over₂ rule replaces before ys) where
    -- a box that waits shows what it did
    waiting : (box : ℕ) → get_or cells₁ box 0 ≤ before → shown cells₁ lists₁ box ≡ shown cells lists box
    unfolding shown
    waiting box h =
        let e = a.waits box h in
        ap (named lists₁) e ∙ named-later m.made lists₁ a.kept (get_or cells box 0) (omega (arith, m.made.grown))

    shows_then : (box : ℕ) → get_or cells box 0 ≤ before → before < get_or cells₂ box 0
        → (length (base replaces (shown cells lists box)) < list_limit) × (shown cells₂ lists₂ box ≡ base replaces (shown cells lists box) ++ (rule ∷ []))
    unfolding shown
    shows_then box l h = go (at_most (get_or cells₁ box 0) before)
      where
        go : (get_or cells₁ box 0 ≤ before) ⊎ (before < get_or cells₁ box 0)
            → (length (base replaces (shown cells lists box)) < list_limit) × (named lists₂ (get_or cells₂ box 0) ≡ base replaces (shown cells lists box) ++ (rule ∷ []))
        go (inl w) = rw (← waiting box w) (b.shows box w h)
        go (inr d) =
            let s = a.shows box l d in (
              s.0,
              ap (named lists₂) (b.stays box d)
                  ∙ named-later a.making.made lists₂ b.kept (get_or cells₁ box 0) (a.making.names box) ∙ s.1,
            )

    waits-then : (box : ℕ) → get_or cells₂ box 0 ≤ before → get_or cells₂ box 0 ≡ get_or cells box 0
    waits-then box l = let e = b.waits box l in e ∙ a.waits box (omega arith)

    drawn-then : over₂ ≡ false → (o : Bool) → over₁ ≡ o → All (λ box. before < get_or cells₂ box 0) (xs ++ ys)
    drawn-then q true e = absurd (true≢false (sym (b.loud e) ∙ q))
    drawn-then q false e = All-append _ xs ys (All-map (λ box d. omega (arith, b.stays box d)) xs (a.drawn e)) (b.drawn q)

    full-then : over ≡ false → over₂ ≡ true → (o : Bool) → over₁ ≡ o
        → (box : ℕ) × Mem box (xs ++ ys) × (get_or cells box 0 ≤ before) × (list_limit ≤ length (base replaces (shown cells lists box)))
    full-then q l true e = let f = a.full q e in (f.0, Mem-left f.0 xs ys f.1, f.2, f.3)
    full-then q l false e =
        let f = b.full e l in
        (f.0, Mem-right f.0 xs ys f.1, omega (arith, f.2, a.waits f.0 f.2), rw (← waiting f.0 f.2) f.3)

    pub walked-append : Walked cells lists used over cells₂ lists₂ memo₂ used₂ over₂ rule replaces before (xs ++ ys)
    walked-append = record {
      making = b.making;
      grown = omega (arith, a.grown, b.grown);
      kept = λ i l. b.kept i (omega (arith, a.grown)) ∙ a.kept i l;
      others = λ box ne. b.others box (λ i. ne (Mem-right box xs ys i)) ∙ a.others box (λ i. ne (Mem-left box xs ys i));
      stays = λ box l. let e = a.stays box l in b.stays box (omega arith) ∙ e;
      waits = waits-then;
      shows = shows_then;
      drawn = λ q. drawn-then q over₁ refl;
      full = λ q l. full-then q l over₁ refl;
      loud = λ l. b.loud (a.loud l);
    }
