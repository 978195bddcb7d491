-- The spans of a list with their states, written rule by rule.
use mathlib.Core.Path.{◌≡◌, refl, sym, ap, ap₂, ◌∙◌}
use mathlib.Core.List.{List, [], ◌++◌}
use Prim.Native.Nat.{ℕ, ◌+◌, ◌*◌, ◌-◌, ◌≤◌, ◌<◌}
use native.Mathlib.Omega.{arith}
use lib.ListN.{length, get_or, take, drop, replicate, length-append, length-replicate, length-take, length-drop}
use lib.Seq.{sets, sets-eq, length-sets}
use mathlib.Core.List.{append_assoc}
use borrow.Rule.Slice.PartMut.{put_mid}
use Rattle.std.proofs.lemmas.Slice.{put_mid-paste}
use Rattle.std.proofs.lemmas.List.Edits.{paste_all}
use Rattle.laws.proofs.Stores.{sets-append}
use Rattle.words.specs.Words.{part}
use Rattle.canonical_time.specs.Flatten.{states_from, spans_from}
use Rattle.tables.specs.Days.{Tables}
use Rattle.words.proofs.Sets.{left_in, left-none, length_part}

-- a part of a buffer written over
pub part-written : (s ys : List ℕ) (a e : ℕ) → a ≤ e → e ≤ length s → length ys ≡ e - a → put_mid a (e - a) s ys ≡ sets s a ys
part-written s ys a e l h n =
    let f : a + (e - a) ≡ a + length ys = omega arith in
    put_mid-paste a (e - a) s ys ys (e - a) refl refl (sym n) ∙ paste_all s a ys (e - a) (sym n)
    ∙ sym (append_assoc (take a s) ys (drop (a + (e - a)) s)) ∙ ap (λ k. take a s ++ ys ++ drop k s) f ∙ sym (sets-eq ys s a (omega arith))

-- a list's spans laid from k on, with their states, and the place after them
abbrev Flat : List ℕ → List ℕ → List ℕ → List ℕ → ℕ → ℕ → ℕ → List ℕ → List ℕ → ℕ → List ℕ → List ℕ → Type 0
Flat states counts spans list i n k x p r y q =
    (r ≡ k + length (states_from states counts list i (n - i))) × (y ≡ sets x k (states_from states counts list i (n - i)))
    × (q ≡ sets p k (spans_from counts spans list i (n - i))) × (r ≤ k + 16 * (n - i))

-- one rule's
abbrev pub Pushed : List ℕ → List ℕ → ℕ → ℕ → ℕ → List ℕ → List ℕ → ℕ → List ℕ → List ℕ → Type 0
Pushed states spans rule c k x p next x₁ p₁ =
    (next ≡ k + c) × (x₁ ≡ sets x k (replicate c (get_or states rule 0))) × (p₁ ≡ sets p k (part spans (rule * 16) c))

-- the parts of two buffers that a rule fills
pub rule-pushed : (states spans : List ℕ) (rule c k : ℕ) (x p own ys zs : List ℕ) → own ≡ part spans (rule * 16) c → k + c ≤ length x → k + c ≤ length p
    → ys ≡ replicate (length (take (k + length own - k) (drop k x))) (get_or states rule 0) → zs ≡ own
    → Pushed states spans rule c k x p (k + length own) (put_mid k (k + length own - k) x ys) (put_mid k (k + length own - k) p zs)
rule-pushed states spans rule c k x p own ys zs e room space filled copied =
    let n : length own ≡ c = ap length e ∙ length_part spans (rule * 16) c in
    let m : length (take (k + length own - k) (drop k x)) ≡ c = omega (arith, n, length-take (k + length own - k) (drop k x), length-drop k x) in
    let f : ys ≡ replicate c (get_or states rule 0) = filled ∙ ap (λ i. replicate i (get_or states rule 0)) m in (
      omega (arith, n),
      part-written x ys k (k + length own) (omega arith) (omega (arith, n)) (omega (arith, n, ap length f, length-replicate c (get_or states rule 0))) ∙ ap (sets x k) f,
      part-written p zs k (k + length own) (omega arith) (omega (arith, n)) (omega (arith, ap length copied)) ∙ ap (sets p k) (copied ∙ e),
    )

module _ (states counts spans list : List ℕ) (i n k : ℕ) (x p : List ℕ) where
  flat-more : i < n → (rule c : ℕ) → rule ≡ get_or list i 0 → c ≡ get_or counts rule 0 → c ≤ 16 → (next : ℕ) (x₁ p₁ : List ℕ)
      → Pushed states spans rule c k x p next x₁ p₁
      → (r : ℕ) (y q : List ℕ) → Flat states counts spans list (i + 1) n next x₁ p₁ r y q → Flat states counts spans list i n k x p r y q
  unfolding states_from spans_from
  flat-more h rule c e f few next x₁ p₁ l r y q m =
      let g : c ≡ get_or counts (get_or list i 0) 0 = f ∙ ap (λ v. get_or counts v 0) e in
      let one : List ℕ = replicate (get_or counts (get_or list i 0) 0) (get_or states (get_or list i 0) 0) in
      let more : List ℕ = states_from states counts list (i + 1) (n - (i + 1)) in
      let some : List ℕ = part spans (get_or list i 0 * 16) (get_or counts (get_or list i 0) 0) in
      let rest : List ℕ = spans_from counts spans list (i + 1) (n - (i + 1)) in
      let a : states_from states counts list i (n - i) ≡ one ++ more = ap (states_from states counts list i) (left_in i n h) in
      let b : spans_from counts spans list i (n - i) ≡ some ++ rest = ap (spans_from counts spans list i) (left_in i n h) in
      let u : x₁ ≡ sets x k one = l.1 ∙ ap₂ (λ v w. sets x k (replicate w v)) (ap (λ v. get_or states v 0) e) g in
      let v : p₁ ≡ sets p k some = l.2 ∙ ap₂ (λ v w. sets p k (part spans v w)) (ap (λ v. v * 16) e) g in
      let place : next ≡ k + length one = omega (arith, l.0, g, length-replicate (get_or counts (get_or list i 0) 0) (get_or states (get_or list i 0) 0)) in
      let same : next ≡ k + length some = omega (arith, l.0, g, length_part spans (get_or list i 0 * 16) (get_or counts (get_or list i 0) 0)) in (
        m.0 ∙ omega (arith, place, length-append one more, ap length a),
        m.1 ∙ ap₂ (λ v w. sets v w more) u place ∙ sym (sets-append x k one more) ∙ ap (sets x k) (sym a),
        m.2 ∙ ap₂ (λ v w. sets v w rest) v same ∙ sym (sets-append p k some rest) ∙ ap (sets p k) (sym b),
        omega (arith, m.3, l.0),
      )

  flat-none : n ≤ i → Flat states counts spans list i n k x p k x p
  unfolding states_from spans_from
  flat-none h =
      let a : states_from states counts list i (n - i) ≡ [] = ap (states_from states counts list i) (left-none i n h) in
      let b : spans_from counts spans list i (n - i) ≡ [] = ap (spans_from counts spans list i) (left-none i n h) in
      let z : k ≡ k + 0 = omega arith in
      (z ∙ sym (ap (λ v. k + length v) a), sym (ap (sets x k) a), sym (ap (sets p k) b), omega arith)

-- a rule that the list names stands in the tables
pub named_rule : (states counts spans list : List ℕ) → Tables states counts spans list → (i rule : ℕ) → i < length list → rule ≡ get_or list i 0
    → (rule < length states) × (rule < length counts) × (rule * 16 + 16 ≤ length spans)
named_rule states counts spans list t i rule h e = let k = t.named i h in (omega arith, omega arith, omega arith)

-- ## Rule after rule of the list
-- the whole list's spans laid from the first place on
abbrev pub Flattened : List ℕ → List ℕ → List ℕ → List ℕ → ℕ → List ℕ → List ℕ → ℕ → List ℕ → List ℕ → Type 0
Flattened states counts spans list n x p r y q =
    (r ≡ length (states_from states counts list 0 n)) × (y ≡ sets x 0 (states_from states counts list 0 n)) ×
    (q ≡ sets p 0 (spans_from counts spans list 0 n)) × (r ≤ 16 * n)

-- up to a rule: there is room for it and the later ones, and whatever lays them lays the whole
pub record FlatOn (states counts spans list : List ℕ) (n : ℕ) (x₀ p₀ : List ℕ) (next place : ℕ) (x p : List ℕ) : Type 0 where
  pub room : (place + 16 * (n - next) ≤ length x) × (place + 16 * (n - next) ≤ length p)
  pub finishes : (r : ℕ) (y q : List ℕ) → Flat states counts spans list next n place x p r y q → Flattened states counts spans list n x₀ p₀ r y q

pub flat_start : (states counts spans list : List ℕ) (n : ℕ) (x p : List ℕ) → (16 * n ≤ length x) × (16 * n ≤ length p)
    → FlatOn states counts spans list n x p 0 0 x p
flat_start states counts spans list n x p h =
    let z : n - 0 ≡ n = omega arith in
    record {
      room = (omega (arith, h), omega (arith, h));
      finishes = λ r y q m. (
        omega (arith, m.0, ap (λ v. length (states_from states counts list 0 v)) z),
        m.1 ∙ ap (λ v. sets x 0 (states_from states counts list 0 v)) z,
        m.2 ∙ ap (λ v. sets p 0 (spans_from counts spans list 0 v)) z,
        omega (arith, m.3),
      );
    }

module _ (states counts spans list : List ℕ) (n : ℕ) (x₀ p₀ : List ℕ) (i place : ℕ) (x p : List ℕ)
    (on : FlatOn states counts spans list n x₀ p₀ i place x p) where
  pub flat_on : i < n → (rule c : ℕ) → rule ≡ get_or list i 0 → c ≡ get_or counts rule 0 → c ≤ 16 → (next : ℕ) (x₁ p₁ : List ℕ)
      → Pushed states spans rule c place x p next x₁ p₁
      → FlatOn states counts spans list n x₀ p₀ (i + 1) next x₁ p₁
  flat_on h rule c e f few next x₁ p₁ l = record {
    room = (
      omega (arith, on.room, l.0, ap length l.1, length-sets x place (replicate c (get_or states rule 0))),
      omega (arith, on.room, l.0, ap length l.2, length-sets p place (part spans (rule * 16) c)),
    );
    finishes = λ r y q m. on.finishes r y q (flat-more states counts spans list i n place x p h rule c e f few next x₁ p₁ l r y q m);
  }

  pub flat-done : n ≤ i → Flattened states counts spans list n x₀ p₀ place x p
  flat-done h = on.finishes place x p (flat-none states counts spans list i n place x p h)
