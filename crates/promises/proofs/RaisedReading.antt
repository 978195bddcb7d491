-- A READING UNDER RAISED LIMITS is the same, but where a count was refused by 4. Rests on how layouts are put together.
use mathlib.Core.Path.{◌≡◌, refl, ap, ◌∙◌}
use mathlib.Core.List.{List}
use mathlib.Core.Logic.{◌⊎◌, inl, inr}
use mathlib.Core.Bool.{Bool, true, false}
use Prim.Native.Nat.{ℕ, zero, suc, ◌+◌, ◌≤◌}
use native.Mathlib.Omega.{arith}
use lib.Dec.{leb}
use lib.ListN.{length}
use borrow.Author.Tests.{leb-true, le-leb}
use Rattle.definition.specs.Field.{field_at, Read, got, refused, and_then, over_limit, sheet_bits, read_field, read_all, Layout, field, counted, ◌then◌, via, tagged, several}
use Rattle.definition.specs.Sheet.{Form, Limits, title, counts, head, rule, opening, rules, decode}
use Rattle.promises.specs.Conditions.{Met}
use Rattle.promises.specs.LargerSheets.{Raised}

-- a reading that is refused by 4; and one that is the same as another, unless that one is
abbrev Over : {A : Type 0} → Read A → Type 0
Over r = (p : ℕ) × (r ≡ refused over_limit p)

abbrev Keeps : {A : Type 0} → Read A → Read A → Type 0
Keeps r raised = Over r ⊎ (raised ≡ r)

-- a reading that goes on
then_keeps : {A B : Type 0} (f g : A → ℕ → Read B) (r raised : Read A) → Keeps r raised → ((x : A) (q : ℕ) → Keeps (f x q) (g x q))
    → Keeps (and_then f r) (and_then g raised)
then_keeps f g r raised (inl (p, e)) h = inl (p, ap (and_then f) e)
then_keeps f g (refused c p) raised (inr e) h = inr (ap (and_then g) e)
then_keeps f g (got x q) raised (inr e) h = elim (h x q) [ inl k ↦ inl k | inr k ↦ inr (ap (and_then g) e ∙ k) ]

-- ## Layouts put together
record Reads {A : Type 0} (L M : Layout A) : Type 0 where
  keeps : (s : List ℕ) (p : ℕ) → Keeps (L.read s p) (M.read s p)

same : {A : Type 0} (L : Layout A) → Reads L L
same L = record { keeps = λ s p. inr refl }

counted-reads : (w limit larger : ℕ) → limit ≤ larger → Reads (counted w limit) (counted w larger)
unfolding field read_field
counted-reads w limit larger l = record { keeps = λ s p. go s p (leb (p + w) (length s)) refl (leb (field_at s p w) limit) refl }
  where
    go : (s : List ℕ) (p : ℕ) (a : Bool) → leb (p + w) (length s) ≡ a → (b : Bool) → leb (field_at s p w) limit ≡ b
        → Keeps ((counted w limit).read s p) ((counted w larger).read s p)
    go s p false e b t = inr (rw (e, read_field))
    go s p true e false t = inl (p, rw (e, t, read_field))
    go s p true e true t = inr (rw (e, t, le-leb (field_at s p w) larger (omega (arith, leb-true (field_at s p w) limit t)), read_field))

both_read : {A B : Type 0} {L L' : Layout A} {M M' : Layout B} → Reads L L' → Reads M M' → Reads (L then M) (L' then M')
unfolding ◌then◌
both_read a b = record { keeps = λ s p. then_keeps _ _ _ _ (a.keeps s p) (λ x q. then_keeps _ _ _ _ (b.keeps s q) (λ y e. inr refl)) }

via-reads : {A B : Type 0} (make : A → B) (parts : B → A) {L L' : Layout A} → Reads L L' → Reads (via make parts L) (via make parts L')
unfolding via
via-reads make parts a = record { keeps = λ s p. then_keeps _ _ _ _ (a.keeps s p) (λ x q. inr refl) }

tagged-reads : {A B : Type 0} {L L' : Layout A} {M M' : A → Layout B} (tag : B → A) → Reads L L' → ((t : A) → Reads (M t) (M' t))
    → Reads (tagged L M tag) (tagged L' M' tag)
unfolding tagged
tagged-reads tag a b = record { keeps = λ s p. then_keeps _ _ _ _ (a.keeps s p) (λ t q. (b t).keeps s q) }

several-read : {A : Type 0} {L L' : Layout A} → Reads L L' → (n : ℕ) → Reads (several n L) (several n L')
unfolding several read_all
several-read {A} {L} {L'} a n = record { keeps = all n }
  where
    all : (n : ℕ) (s : List ℕ) (p : ℕ) → Keeps (read_all L.read n s p) (read_all L'.read n s p)
    all zero s p = inr refl
    all (suc n) s p = then_keeps _ _ _ _ (a.keeps s p) (λ x q. then_keeps _ _ _ _ (all n s q) (λ xs e. inr refl))

-- ## The layouts of a sheet
module _ (form : Form) (limits raised : Limits) (up : Raised limits raised) where
  head-reads : Reads (head form limits) (head form raised)
  unfolding head title counts
  head-reads =
      let items = counted-reads form.item_count limits.items raised.items up.items-raised in
      both_read (same (title form limits)) (both_read items (both_read items (both_read items (both_read items
      (counted-reads form.item_count limits.spans raised.spans up.spans-raised)))))

  opening-reads : Reads (opening form limits) (opening form raised)
  unfolding opening
  opening-reads = via-reads _ _ (both_read (same _) (counted-reads form.rule_count limits.rules raised.rules up.rules-raised))

  rules-read : Reads (rules form limits) (rules form raised)
  unfolding rules rule
  rules-read = tagged-reads _ opening-reads (λ n. several-read (tagged-reads _ head-reads (λ h. same _)) n)

  -- A SHEET THAT 4 DOESN'T REFUSE IS READ AS BEFORE
  pub reads_same : (sheet : List ℕ) → ((p : ℕ) → Met form limits sheet over_limit p → ⊥) → decode form raised sheet ≡ decode form limits sheet
  unfolding decode
  reads_same sheet h = elim (rules-read.keeps (sheet_bits sheet) 0) [ inl k ↦ absurd (h k.0 k.1) | inr e ↦ rw e ]
