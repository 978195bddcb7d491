-- Laws of the chain through the intervals: how it is made, from the last interval back; how it leads on; and that emptying keeps it.
use mathlib.Core.Path.{◌≡◌, refl, sym, ap, ◌∙◌, subst}
use mathlib.Core.List.{List}
use mathlib.Core.Bool.{Bool, true, false, cond}
use Prim.Native.Nat.{ℕ, zero, suc, ◌+◌, ◌≤◌, ◌<◌}
use native.Mathlib.Omega.{arith}
use lib.Dec.{eqb, ltb}
use lib.ListN.{get_or, set, length, length-set, replicate}
use lib.Seq.{get_or-set_same, get_or-set_other}
use borrow.Author.Tests.{eqb-true, eqb-false, ltb-true, ltb-false}
use Rattle.laws.proofs.Stores.{set-each}
use Rattle.codes.specs.Number.{closed_number}
use Rattle.day_sweep.specs.Row.{clear_from}
use Rattle.day_sweep.specs.Chain.{bucket_limit, no_interval, bucket_of, NextIn, Linked, Chained, OnChain}

-- no head stands yet
pub bare : (n b : ℕ) → b < n → get_or {A = ℕ} (replicate n no_interval) b 0 ≡ no_interval
bare zero b h = absurd (omega arith)
bare (suc n) zero h = refl
bare (suc n) (suc b) h = bare n b (omega arith)

-- ## Made, from the last interval back
module _ (cells : List ℕ) (n : ℕ) where
  -- the intervals from i on are chained, and each bucket's head is its first one there
  pub record Linking (heads chain : List ℕ) (i : ℕ) : Type 0 where
    pub firsts : (b : ℕ) → b < bucket_limit → NextIn cells n i b (get_or heads b 0)
    pub links : (j : ℕ) → i ≤ j → j < n → NextIn cells n (j + 1) (bucket_of (get_or cells j 0)) (get_or chain j 0)

  pub linking-start : n ≤ no_interval → (heads chain : List ℕ) → ((b : ℕ) → b < bucket_limit → get_or heads b 0 ≡ no_interval) → Linking heads chain n
  linking-start few heads chain bare = record {
    firsts = λ b h. record {
      onward = omega (arith, bare b h);
      passes = λ k l m p e. omega arith;
      leads = λ l. absurd (omega (arith, bare b h));
    };
    links = λ j l m. absurd (omega arith);
  }

  -- interval i, before those from m on
  module _ (heads chain : List ℕ) (i m : ℕ) (up : m ≡ i + 1) (h : m ≤ n) (g : Linking heads chain m) (room : bucket_limit ≤ length heads)
      (size : n ≤ length chain) where
    abbrev bucket : ℕ
    bucket = bucket_of (get_or cells i 0)

    -- an interval more, which is in another bucket
    another : (b p : ℕ) → (b ≡ bucket → ⊥) → NextIn cells n m b p → NextIn cells n i b p
    another b p d q = record {
      onward = omega (arith, q.onward);
      passes = λ k l t u e. go k l t u e (eqb k i) refl;
      leads = q.leads;
    }
      where
        go : (k : ℕ) → i ≤ k → k < n → k < p → bucket_of (get_or cells k 0) ≡ b → (t : Bool) → eqb k i ≡ t → ⊥
        go k l f u e true t = d (sym e ∙ ap (λ v. bucket_of (get_or cells v 0)) (eqb-true k i t))
        go k l f u e false t = q.passes k (omega (arith, eqb-false k i t)) f u e

    pub linking-on : Linking (set heads bucket i) (set chain i (get_or heads bucket 0)) i
    linking-on =
        let small : bucket < bucket_limit = omega arith in
        record {
          firsts = set-each (λ b p. b < bucket_limit → NextIn cells n i b p) heads bucket i 0 (omega arith)
              (λ s. record { onward = omega arith; passes = λ k l f u e. omega arith; leads = λ l. refl })
              (λ b d s. another b (get_or heads b 0) d (g.firsts b s));
          links = set-each (λ j p. i ≤ j → j < n → NextIn cells n (j + 1) (bucket_of (get_or cells j 0)) p) chain i (get_or heads bucket 0) 0 (omega arith)
              (λ l f. subst (λ v. NextIn cells n v bucket (get_or heads bucket 0)) up (g.firsts bucket small))
              (λ j d l f. g.links j (omega arith) f);
        }

  pub linking-ends : (heads chain : List ℕ) (i : ℕ) → i ≤ 0 → Linking heads chain i → Chained chain cells n
  linking-ends heads chain i z g = (cells, record { links = λ j h. g.links j (omega arith) h; kept = λ k h d. refl })

-- ## Leading on
module _ (chain cells : List ℕ) (n S i : ℕ) (plain : S ≡ closed_number → ⊥) (on : OnChain chain cells n S i) (h : i < n) where
  abbrev step : NextIn on.0 n (i + 1) (bucket_of (get_or on.0 i 0)) (get_or chain i 0)
  step = on.1.links i h

  pub hop-on : i < get_or chain i 0
  hop-on = omega (arith, step.onward)

  pub hop-chain : OnChain chain cells n S (get_or chain i 0)
  hop-chain = (on.0, on.1, λ l. step.leads l ∙ on.2 h)

  pub hop-past : (k : ℕ) → i < k → k < n → k < get_or chain i 0 → get_or cells k 0 ≡ S → ⊥
  hop-past k l m u e =
      let first : get_or cells k 0 ≡ get_or on.0 k 0 = on.1.kept k m (λ q. plain (sym e ∙ q)) in
      step.passes k (omega arith) m u (ap bucket_of (sym first ∙ e) ∙ sym (on.2 h))

  -- to the interval that the chain names
  module _ (next : ℕ) (e : next ≡ get_or chain i 0) where
    pub hop-first : (i < next) × OnChain chain cells n S next × ((k : ℕ) → i < k → k < n → k < next → get_or cells k 0 ≡ S → ⊥)
    hop-first = (omega (arith, hop-on), subst (OnChain chain cells n S) (sym e) hop-chain, λ k l m u. hop-past k l m (omega arith))

    -- and so on, from an interval that has not the state
    pub hop-more : (last : ℕ) → last < i → ((k : ℕ) → last < k → k < n → k < i → get_or cells k 0 ≡ S → ⊥) → (get_or cells i 0 ≡ S → ⊥)
        → (last < next) × OnChain chain cells n S next × ((k : ℕ) → last < k → k < n → k < next → get_or cells k 0 ≡ S → ⊥)
    hop-more last l before other =
        (omega (arith, hop-first.0), hop-first.1, λ k a b u v. go k a b u v (ltb k i) refl (eqb k i) refl)
      where
        go : (k : ℕ) → last < k → k < n → k < next → get_or cells k 0 ≡ S → (s : Bool) → ltb k i ≡ s → (t : Bool) → eqb k i ≡ t → ⊥
        go k a b u v true s t q = before k a b (ltb-true k i s) v
        go k a b u v false s true q = other (ap (λ w. get_or cells w 0) (sym (eqb-true k i q)) ∙ v)
        go k a b u v false s false q = hop-first.2 k (omega (arith, ltb-false k i s, eqb-false k i q)) b u v

-- ## Emptying
cleared-or : (vs : List ℕ) (S j r k : ℕ) → j + r ≤ length vs → (get_or (clear_from vs S j r) k 0 ≡ closed_number → ⊥)
    → get_or (clear_from vs S j r) k 0 ≡ get_or vs k 0
unfolding clear_from
cleared-or vs S j zero k room d = refl
cleared-or vs S j (suc r) k room d = go (eqb (get_or vs j 0) S) d
    (λ ws q e. cleared-or ws S (j + 1) r k q e)
  where
    go : (b : Bool) → (get_or (clear_from (cond b (set vs j closed_number) vs) S (j + 1) r) k 0 ≡ closed_number → ⊥)
        → ((ws : List ℕ) → j + 1 + r ≤ length ws → (get_or (clear_from ws S (j + 1) r) k 0 ≡ closed_number → ⊥)
        → get_or (clear_from ws S (j + 1) r) k 0 ≡ get_or ws k 0)
        → get_or (clear_from (cond b (set vs j closed_number) vs) S (j + 1) r) k 0 ≡ get_or vs k 0
    go false d ih = ih vs (omega arith) d
    go true d ih =
        let e = ih (set vs j closed_number) (omega (arith, length-set vs j closed_number)) d in
        pick e (eqb k j) refl
      where
        pick : get_or (clear_from (set vs j closed_number) S (j + 1) r) k 0 ≡ get_or (set vs j closed_number) k 0 → (t : Bool) → eqb k j ≡ t
            → get_or (clear_from (set vs j closed_number) S (j + 1) r) k 0 ≡ get_or vs k 0
        pick e true t = absurd (d (e ∙ ap (λ v. get_or (set vs j closed_number) v 0) (eqb-true k j t) ∙ get_or-set_same vs j closed_number 0 (omega arith)))
        pick e false t = e ∙ get_or-set_other vs j k closed_number 0 (eqb-false k j t)

linked-clear : (first chain cells : List ℕ) (n S j r : ℕ) → j + r ≤ length cells → Linked first chain cells n → Linked first chain (clear_from cells S j r) n
linked-clear first chain cells n S j r room g = record {
  links = g.links;
  kept = λ k h d. let e = cleared-or cells S j r k room d in e ∙ g.kept k h (λ q. d (e ∙ q));
}

-- after intervals of a state are emptied the chain stands, and leads on from the last of them
module _ (chain cells : List ℕ) (n S j r : ℕ) (room : j + r ≤ length cells) (vs : List ℕ) (cleared : vs ≡ clear_from cells S j r) (g : Chained chain cells n) where
  pub chained-clear : Chained chain vs n
  chained-clear = subst (λ v. Chained chain v n) (sym cleared) (g.0, linked-clear g.0 chain cells n S j r room g.1)

  pub cleared-on : (S ≡ closed_number → ⊥) → (i : ℕ) → (i < n → get_or cells i 0 ≡ S) → OnChain chain vs n S i
  cleared-on plain i e = subst (λ v. OnChain chain v n S i) (sym cleared) (
    g.0,
    linked-clear g.0 chain cells n S j r room g.1,
    λ l. ap bucket_of (sym (g.1.kept i l (λ q. plain (sym (e l) ∙ q))) ∙ e l),
  )
