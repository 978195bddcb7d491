-- READING AND WRITING ARE INVERSE. A sheet that is read is its rules written; lawful rules within the limits, written, are read back; and
-- a reading ends where the fields end. Rests on the items' laws.
use mathlib.Core.Path.{◌≡◌, refl, sym, ap, ap₂, ◌∙◌, subst}
use mathlib.Core.List.{List, [], ◌∷◌, ◌++◌}
use mathlib.Core.Option.{Option, none, some}
use mathlib.Core.Bool.{Bool, true, false, ◌&&◌}
use Prim.Native.Nat.{ℕ, zero, suc, ◌+◌, ◌*◌, ◌-◌, ◌^◌, ◌≤◌}
use native.Mathlib.Omega.{arith}
use lib.Dec.{eqb, leb, ltb}
use lib.ListN.{length, take, drop, replicate, length-append, length-drop, length-replicate}
use lib.Seq.{drop_at, take_all}
use borrow.Author.Tests.{eqb-true, ltb-false, le-ltb}
use Rattle.laws.proofs.Flags.{split-and}
use Rattle.laws.proofs.Lists.{All-append}
use Rattle.definition.specs.Field.{Read, got, refused, and_then, bytes_for, bytes, packed, sheet_bits, bad_end, Layout, field, counted, ◌then◌, via}
use Rattle.definition.specs.Rule.{Rule}
use Rattle.definition.specs.Sheet.{Form, Limits, Counts, title, counts, Head, head_of, head, Body, body_of, body, rule_with, rule, opening, rules, first_set, ended, decode, encode}
use Rattle.definition.proofs.Bits.{Bits, Bytes, sheet-bits, length-sheet_bits, bytes-sheet, sheet-bytes}
use Rattle.definition.proofs.Faithful.{Faithful, Always, field-faithful, then-faithful, via-faithful, tagged-faithful, several-faithful}
use Rattle.definition.proofs.Items.{year-faithful, monthday-faithful, week-faithful, weekday-faithful, span-faithful, operator-faithful, kind-faithful}

-- a value that was read is one that the layout can carry
pub carried : {A : Type 0} {L : Layout A} → Faithful Always L → (sheet : List ℕ) → Bytes sheet → (p : ℕ) (x : A) (q : ℕ)
    → L.read (sheet_bits sheet) p ≡ got x q → L.fits x ≡ true
carried a sheet b p x q e = (a.written (sheet_bits sheet) (sheet-bits sheet b) p x q e).1

module _ (form : Form) (limits : Limits) where
  -- ## Rules
  count-faithful : (limit : ℕ) → Faithful Always (counted form.item_count limit)
  count-faithful limit = field-faithful _ _ form.item_count

  head-faithful : Faithful (λ h. (Unit {0} × (Unit {0} × Unit {0})) × (Unit {0} × (Unit {0} × (Unit {0} × (Unit {0} × Unit {0}))))) (head form limits)
  unfolding head title counts
  head-faithful =
      then-faithful (then-faithful operator-faithful (then-faithful kind-faithful (field-faithful _ _ form.comment)))
      (then-faithful (count-faithful _)
      (then-faithful (count-faithful _) (then-faithful (count-faithful _) (then-faithful (count-faithful _) (count-faithful _)))))

  -- lists as long as the counts say
  abbrev Long : Counts → Body → Type 0
  Long n b = (length b.0 ≡ n.0) × ((length b.1.0 ≡ n.1.0) × ((length b.1.1.0 ≡ n.1.1.0)
      × ((length b.1.1.1.0 ≡ n.1.1.1.0) × (length b.1.1.1.1 ≡ n.1.1.1.1))))

  body-faithful : (n : Counts) → Faithful (Long n) (body n)
  unfolding body
  body-faithful n =
      then-faithful (several-faithful year-faithful n.0) (then-faithful (several-faithful monthday-faithful n.1.0)
      (then-faithful (several-faithful week-faithful n.1.1.0)
      (then-faithful (several-faithful weekday-faithful n.1.1.1.0) (several-faithful span-faithful n.1.1.1.1))))

  pub rule-faithful : Faithful Always (rule form limits)
  unfolding rule
  rule-faithful = tagged-faithful head_of head-faithful (λ r. ((tt, (tt, tt)), (tt, (tt, (tt, (tt, tt)))))) (λ h u f. whole h)
    where
      under : (h : Head) (r : Rule) → head_of r ≡ h → Long h.1 (body_of r)
      under h r e =
          let n = ap (λ k. k.1) e in
          (ap (λ c. c.0) n, (ap (λ c. c.1.0) n, (ap (λ c. c.1.1.0) n, (ap (λ c. c.1.1.1.0) n, ap (λ c. c.1.1.1.1) n))))

      into : (h : Head) (b : Body) → Long h.1 b → head_of (rule_with h b) ≡ h
      into h b l = λ i. (h.0, (l.0 i, (l.1.0 i, (l.1.1.0 i, (l.1.1.1.0 i, l.1.1.1.1 i)))))

      whole : (h : Head) → Faithful (λ r. head_of r ≡ h) (via (rule_with h) body_of (body h.1))
      whole h = via-faithful _ (rule_with h) body_of (body-faithful h.1) (under h) (λ r e. ap (λ k. rule_with k (body_of r)) (sym e))
          (λ b l f. (refl, into h b l))

  pub opening-faithful : Faithful Always (opening form limits)
  unfolding opening field ◌then◌
  opening-faithful =
      via-faithful Always _ _ (then-faithful (field-faithful _ _ form.mark_width) (field-faithful _ _ form.rule_count)) (λ n u. (tt, tt)) (λ n u. refl)
      (λ x u f. (ap (λ m. (m, x.1)) (sym (marked x f)), tt))
    where
      marked : (x : ℕ × ℕ) → (ltb x.0 (2 ^ form.mark_width) && eqb x.0 form.mark) && (ltb x.1 (2 ^ form.rule_count) && leb x.1 limits.rules) ≡ true
          → x.0 ≡ form.mark
      marked x f =
          let k = (split-and (ltb x.0 (2 ^ form.mark_width) && eqb x.0 form.mark) _ f).0 in
          eqb-true x.0 form.mark (split-and (ltb x.0 (2 ^ form.mark_width)) _ k).1

  pub rules-faithful : Faithful Always (rules form limits)
  unfolding rules
  rules-faithful = tagged-faithful length opening-faithful (λ rs. tt) (λ n u f. several-faithful rule-faithful n)

-- ## Zero bits to the byte's end
all-zero : (bs : List ℕ) (p : ℕ) → first_set bs p ≡ none → bs ≡ replicate (length bs) 0
unfolding first_set
all-zero [] p e = refl
all-zero (b ∷ bs) p e = go (eqb b 0) refl (all-zero bs (suc p))
  where
    go : (t : Bool) → eqb b 0 ≡ t → (first_set bs (suc p) ≡ none → bs ≡ replicate (length bs) 0) → b ∷ bs ≡ replicate (length (b ∷ bs)) 0
    go true k ih = ap₂ ◌∷◌ (eqb-true b 0 k) (ih (rw (k, first_set) at e))
    go false k ih = let z : some p ≡ none = rw (k, first_set) at e in let q : ◌≡◌ {A = ℕ} 0 1 = cc in absurd (omega arith)

zero-all : (n p : ℕ) → first_set (replicate n 0) p ≡ none
unfolding first_set
zero-all zero p = refl
zero-all (suc n) p = zero-all n (suc p)

zero_bits : (n : ℕ) → Bits (replicate n 0)
zero_bits zero = tt
zero_bits (suc n) = (omega arith, zero_bits n)

-- the padding of n bits
abbrev padding : ℕ → ℕ
padding n = 8 * bytes_for n - n

-- whole bytes of bits that were read to their end: what was read, and zero bits
ended-bits : {A : Type 0} (ws s : List ℕ) (n : ℕ) (x y : A) (q e : ℕ) → length s ≡ 8 * n → q ≡ length ws → s ≡ ws ++ drop q s → ended s x q ≡ got y e
    → (x ≡ y) × (q ≡ e) × (bytes_for q ≡ n) × (s ≡ ws ++ replicate (padding q) 0)
unfolding ended
ended-bits {A} ws s n x y q e whole len stands h = first (first_set (take (padding q) (drop q s)) q) refl
  where
    low : q ≤ length s
    low = omega (arith, ap length stands, length-append ws (drop q s))

    second : first_set (take (padding q) (drop q s)) q ≡ none → (b : Bool) → ltb (8 * bytes_for q) (length s) ≡ b
        → (x ≡ y) × (q ≡ e) × (bytes_for q ≡ n) × (s ≡ ws ++ replicate (padding q) 0)
    second f true k = let z : refused bad_end (8 * bytes_for q) ≡ got y e = rw (f, k, ended) at h in let c : ◌≡◌ {A = ℕ} 0 1 = cc in absurd (omega arith)
    second f false k =
        let g : got x q ≡ got y e = rw (f, k, ended) at h in
        let same : x ≡ y = cc in
        let z : q ≡ e = cc in
        let m : bytes_for q ≡ n = omega (arith, low, ltb-false (8 * bytes_for q) (length s) k) in
        let l : length (drop q s) ≡ padding q = omega (arith, length-drop q s) in
        let t : take (padding q) (drop q s) ≡ drop q s = take_all (padding q) (drop q s) (omega arith) in
        let zeros : drop q s ≡ replicate (padding q) 0 = all-zero (drop q s) q (rw t at f) ∙ ap (λ j. replicate j 0) l in
        (same, z, m, stands ∙ ap (ws ++◌) zeros)

    first : (o : Option ℕ) → first_set (take (padding q) (drop q s)) q ≡ o → (x ≡ y) × (q ≡ e) × (bytes_for q ≡ n) × (s ≡ ws ++ replicate (padding q) 0)
    first (some p) f = let z : refused bad_end p ≡ got y e = rw (f, ended) at h in let c : ◌≡◌ {A = ℕ} 0 1 = cc in absurd (omega arith)
    first none f = second f (ltb (8 * bytes_for q) (length s)) refl

ended-zeros : {A : Type 0} (s : List ℕ) (x : A) (q : ℕ) → first_set (take (padding q) (drop q s)) q ≡ none → length s ≤ 8 * bytes_for q → ended s x q ≡ got x q
unfolding ended
ended-zeros s x q f l = rw (f, le-ltb (8 * bytes_for q) (length s) l, ended)

-- ## A whole sheet
module _ (form : Form) (limits : Limits) where
  -- DECODE, THEN ENCODE
  pub encode-decoded : (s : List ℕ) → Bytes s → (rs : List Rule) (q : ℕ) → decode form limits s ≡ got rs q
      → ((rules form limits).fits rs ≡ true) × (encode form limits rs ≡ s) × (q ≡ length ((rules form limits).write rs))
  unfolding decode encode packed
  encode-decoded s h rs q e = go ((rules form limits).read (sheet_bits s) 0) refl e
    where
      go : (r : Read (List Rule)) → (rules form limits).read (sheet_bits s) 0 ≡ r → and_then (ended (sheet_bits s)) r ≡ got rs q
          → ((rules form limits).fits rs ≡ true) × (encode form limits rs ≡ s) × (q ≡ length ((rules form limits).write rs))
      go (refused c p) r g = let z : ◌≡◌ {A = ℕ} 0 1 = cc in absurd (omega arith)
      go (got x j) r g =
          let k = (rules-faithful form limits).written (sheet_bits s) (sheet-bits s h) 0 x j r in
          let ws = (rules form limits).write x in
          let len : j ≡ length ws = omega (arith, k.2.ends) in
          let t = ended-bits ws (sheet_bits s) (length s) x rs j q (length-sheet_bits s) len k.2.stands g in
          let back : encode form limits x ≡ s =
          ap (λ i. bytes (bytes_for i) (ws ++ replicate (padding i) 0)) (sym len) ∙ ap₂ bytes t.2 (sym t.3) ∙ bytes-sheet s h
          in
          subst (λ y. ((rules form limits).fits y ≡ true) × (encode form limits y ≡ s) × (q ≡ length ((rules form limits).write y))) t.0
          (k.1, back, omega (arith, len, t.1))

  -- ENCODE, THEN DECODE
  pub decode-encoded : (rs : List Rule) → (rules form limits).fits rs ≡ true
      → decode form limits (encode form limits rs) ≡ got rs (length ((rules form limits).write rs))
  unfolding decode encode packed
  decode-encoded rs f =
      ap (λ s. and_then (ended s) ((rules form limits).read s 0)) (sheet-bytes (bytes_for (length ws)) whole wide len)
      ∙ ap (and_then (ended whole)) ((rules-faithful form limits).returns rs tt f whole 0 zeros (omega arith) refl) ∙ finish
    where
      ws : List ℕ
      ws = (rules form limits).write rs

      zeros : List ℕ
      zeros = replicate (padding (length ws)) 0

      whole : List ℕ
      whole = ws ++ zeros

      wide : Bits whole
      wide = All-append _ ws zeros ((rules-faithful form limits).binary rs tt f) (zero_bits (padding (length ws)))

      len : length whole ≡ 8 * bytes_for (length ws)
      len = omega (arith, length-append ws zeros, length-replicate {A = ℕ} (padding (length ws)) 0)

      finish : ended whole rs (0 + length ws) ≡ got rs (length ws)
      finish =
          let z : 0 + length ws ≡ length ws = omega arith in
          let t : take (padding (length ws)) (drop (length ws) whole) ≡ zeros =
          ap (take (padding (length ws))) (drop_at ws zeros (length ws) refl) ∙ take_all (padding (length ws)) zeros
          (omega (arith, length-replicate {A = ℕ} (padding (length ws)) 0))
          in
          ap (ended whole rs) z ∙ ended-zeros whole rs (length ws) (ap (λ b. first_set b (length ws)) t ∙ zero-all (padding (length ws)) (length ws))
          (omega (arith, len))
