-- The beginnings that a check notes are those of the rules that the definition reads: at each one its rule is read, and from it on up to
-- the last rule's end stand the bits of the rules from it on.
use mathlib.Core.Path.{◌≡◌, refl, sym, ap, ap₂, ◌∙◌, subst}
use mathlib.Core.List.{List, [], ◌∷◌, flat_map}
use mathlib.Core.Option.{Option, none, some}
use mathlib.Core.Bool.{Bool, true, false}
use Prim.Native.Nat.{ℕ, zero, suc, ◌+◌, ◌*◌, ◌-◌, ◌≤◌, ◌<◌, ◌^◌}
use native.Mathlib.Omega.{arith}
use lib.Dec.{ltb}
use lib.ListN.{length, take, drop, get_or, set, length-set, length-map}
use lib.Seq.{get_or-set_same, get_or-set_other, ext_get_or}
use Rattle.laws.specs.Lists.{from}
use Rattle.laws.proofs.Numbers.{length_from, get_d-from}
use Rattle.definition.specs.Field.{Read, got, refused, and_then, bad_end, bytes_for, sheet_bits, read_all, several}
use Rattle.definition.specs.Rule.{Rule, no_rule}
use Rattle.definition.specs.Sheet.{Form, sheet_limits, rule, opening, rules, first_set, ended, decode}
use Rattle.definition.proofs.Bits.{Bits, Bytes, sheet-bits, length-sheet_bits}
use Rattle.definition.proofs.Faithful.{Stand, clash, several-faithful, read-within}
use Rattle.definition.proofs.Reading.{Short, several-short, all-parts, tagged-parts}
use Rattle.definition.proofs.Lengths.{rule-short}
use Rattle.definition.proofs.SheetRead.{rule-faithful}
use Rattle.forms.specs.Form.{Narrow}
use Rattle.sheet.specs.End.{ends}
use Rattle.sheet.specs.Rules.{Places, rule_ends, noted, begun, checked, rules_at, AllBegin}
use Rattle.sheet.specs.Parts.{SheetRead}
use Rattle.sheet.specs.Begin.{rule_of, rule_read_at, Readable}
use Rattle.sheet.proofs.RuleBits.{rules-long}
use Rattle.sheet.proofs.RuleRows.{noted-goes}
use Rattle.sheet.proofs.Whole.{count-begun, none-begun, count_low}

module _ (form : Form) where
  -- the i-th of some rules that end at q begins at p
  pub record Begins (s : List ℕ) (q : ℕ) (rs : List Rule) (i p : ℕ) : Type 0 where
    pub readable : Readable form s p
    pub begun-rule : rule_read_at form s p ≡ get_or rs i no_rule
    pub low : p < 2 ^ 25
    pub stands : Stand (flat_map (rule form sheet_limits).write (drop i rs)) s p q

  -- ## A rule that is read
  pub rule-read : (s : List ℕ) (p : ℕ) (r : Rule) (q : ℕ) → (rule form sheet_limits).read s p ≡ got r q → Readable form s p × (rule_read_at form s p ≡ r)
  unfolding rule_read_at
  rule-read s p r q e = (record { end = q; read = e ∙ ap (λ x. got x q) (sym (ap rule_of e)) }, ap rule_of e)

  -- ## Noted beginnings
  -- notes from place i on leave the places before it
  noted-before : (s : List ℕ) (n i p : ℕ) (begins : List ℕ) (k : ℕ) → k < i → get_or (noted form s n i p begins) k 0 ≡ get_or begins k 0
  unfolding noted
  noted-before s zero i p begins k l = refl
  noted-before s (suc n) i p begins k l = go (rule_ends form s p) refl (λ q bs. noted-before s n (i + 1) q bs k (omega arith))
    where
      other : get_or (set begins i p) k 0 ≡ get_or begins k 0
      other = get_or-set_other begins i k p 0 (λ z. omega arith)

      go : (w : Read (Unit {0})) → rule_ends form s p ≡ w → ((q : ℕ) (bs : List ℕ) → get_or (noted form s n (i + 1) q bs) k 0 ≡ get_or bs k 0)
          → get_or (noted form s (suc n) i p begins) k 0 ≡ get_or begins k 0
      go (got u q) h ih = rw (h, noted) (ih q (set begins i p) ∙ other)
      go (refused c q) h ih = rw (h, noted) other

  -- and as many places as there were
  noted-length : (s : List ℕ) (n i p : ℕ) (begins : List ℕ) → length (noted form s n i p begins) ≡ length begins
  unfolding noted
  noted-length s zero i p begins = refl
  noted-length s (suc n) i p begins = go (rule_ends form s p) refl (λ q bs. noted-length s n (i + 1) q bs)
    where
      go : (w : Read (Unit {0})) → rule_ends form s p ≡ w → ((q : ℕ) (bs : List ℕ) → length (noted form s n (i + 1) q bs) ≡ length bs)
          → length (noted form s (suc n) i p begins) ≡ length begins
      go (got u q) h ih = rw (h, noted) (ih q (set begins i p) ∙ length-set begins i p)
      go (refused c q) h ih = rw (h, noted) (length-set begins i p)

  module _ (s : List ℕ) (bits : Bits s) (q : ℕ) where
    -- the rule noted first, and one that is noted later
    first-begin : (n : ℕ) (rs : List Rule) (i p : ℕ) (begins : List ℕ) → i < length begins → p < 2 ^ 25
        → read_all (rule form sheet_limits).read (suc n) s p ≡ got rs q
        → Begins s q rs 0 (get_or (noted form s (suc n) i p begins) (i + 0) 0)
    unfolding several
    first-begin n rs i p begins room low e =
        let w = all-parts (rule form sheet_limits).read n s p rs q e in
        let first = rule-read s p w.0 w.1 w.3 in
        let z : i + 0 ≡ i = omega arith in
        let here : get_or (noted form s (suc n) i p begins) (i + 0) 0 ≡ p =
        ap (λ j. get_or (noted form s (suc n) i p begins) j 0) z ∙ ap (λ bs. get_or bs i 0) (noted-goes form s p i begins (suc n) n w.1 refl (ap ends w.3))
        ∙ noted-before s n (i + 1) w.1 (set begins i p) i (omega arith) ∙ get_or-set_same begins i p 0 room
        in
        subst (Begins s q rs 0) (sym here) (record {
          readable = first.0;
          begun-rule = first.1 ∙ ap (λ xs. get_or xs 0 no_rule) w.5;
          low = low;
          stands = ((several-faithful (rule-faithful form sheet_limits) (suc n)).written s bits p rs q e).2;
        })

    later-begin : (n : ℕ) (r : Rule) (rs : List Rule) (i p j : ℕ) (begins : List ℕ) → (rule form sheet_limits).read s p ≡ got r j → (k : ℕ)
        → Begins s q rs k (get_or (noted form s n (i + 1) j (set begins i p)) (i + 1 + k) 0)
        → Begins s q (r ∷ rs) (suc k) (get_or (noted form s (suc n) i p begins) (i + suc k) 0)
    later-begin n r rs i p j begins e k later =
        let z : i + 1 + k ≡ i + suc k = omega arith in
        let place : get_or (noted form s n (i + 1) j (set begins i p)) (i + 1 + k) 0 ≡ get_or (noted form s (suc n) i p begins) (i + suc k) 0 =
        ap (λ m. get_or (noted form s n (i + 1) j (set begins i p)) m 0) z ∙ ap (λ bs. get_or bs (i + suc k) 0)
        (sym (noted-goes form s p i begins (suc n) n j refl (ap ends e)))
        in
        subst (Begins s q (r ∷ rs) (suc k)) place
        (record { readable = later.readable; begun-rule = later.begun-rule; low = later.low; stands = later.stands })

    noted-begin : Narrow form → (n : ℕ) (rs : List Rule) (i p : ℕ) (begins : List ℕ) → i + n ≤ length begins → p + n * 3016 < 2 ^ 25
        → read_all (rule form sheet_limits).read n s p ≡ got rs q
        → (k : ℕ) → k < n → Begins s q rs k (get_or (noted form s n i p begins) (i + k) 0)
    noted-begin narrow zero rs i p begins room low e k l = absurd (omega arith)
    noted-begin narrow (suc n) rs i p begins room low e zero l = first-begin n rs i p begins (omega arith) (omega arith) e
    noted-begin narrow (suc n) rs i p begins room low e (suc k) l =
        let w = all-parts (rule form sheet_limits).read n s p rs q e in
        subst (λ xs. Begins s q xs (suc k) (get_or (noted form s (suc n) i p begins) (i + suc k) 0)) w.5
        (later-begin n w.0 w.2 i p w.1 begins w.3 k
        (noted-begin narrow n w.2 (i + 1) w.1 (set begins i p) (omega (arith, length-set begins i p))
        (omega (arith, narrow.head-narrow, rule-short form s p w.0 w.1 w.3)) w.4 k (omega arith)))

  -- ## A whole sheet
  -- what is known to end well was read
  ended-got : {A : Type 0} (s : List ℕ) (x y : A) (q e : ℕ) → ended s x q ≡ got y e → got x q ≡ got y e
  unfolding ended
  ended-got {A} s x y q e h = first (first_set (take (8 * bytes_for q - q) (drop q s)) q) refl
    where
      second : first_set (take (8 * bytes_for q - q) (drop q s)) q ≡ none → (b : Bool) → ltb (8 * bytes_for q) (length s) ≡ b → got x q ≡ got y e
      second f true k = clash bad_end (8 * bytes_for q) y e (rw (f, k, ended) at h)
      second f false k = rw (f, k, ended) at h

      first : (o : Option ℕ) → first_set (take (8 * bytes_for q - q) (drop q s)) q ≡ o → got x q ≡ got y e
      first (some p) f = clash bad_end p y e (rw (f, ended) at h)
      first none f = second f (ltb (8 * bytes_for q) (length s)) refl

  pub begun-length : (sheet begins : List ℕ) → length (begun form sheet begins) ≡ length begins
  begun-length sheet begins = go ((opening form sheet_limits).read (sheet_bits sheet) 0) refl
    where
      go : (w : Read ℕ) → (opening form sheet_limits).read (sheet_bits sheet) 0 ≡ w → length (begun form sheet begins) ≡ length begins
      go (got n q) e = ap length (count-begun form sheet n q e begins) ∙ noted-length (sheet_bits sheet) n 0 q begins
      go (refused c q) e = ap length (none-begun form sheet c q e begins)

  module _ (sheet : List ℕ) (rs : List Rule) (q : ℕ) where
    -- a count of rules, and as many rules
    decode-parts : decode form sheet_limits sheet ≡ got rs q
        → (n : ℕ) × (p : ℕ) × ((opening form sheet_limits).read (sheet_bits sheet) 0 ≡ got n p) ×
        (read_all (rule form sheet_limits).read n (sheet_bits sheet) p ≡ got rs q)
    unfolding decode rules several
    decode-parts e = tagged-parts _ _ _ (sheet_bits sheet) 0 rs q (go ((rules form sheet_limits).read (sheet_bits sheet) 0) refl e)
      where
        go : (w : Read (List Rule)) → (rules form sheet_limits).read (sheet_bits sheet) 0 ≡ w → and_then (ended (sheet_bits sheet)) w ≡ got rs q
            → (rules form sheet_limits).read (sheet_bits sheet) 0 ≡ got rs q
        go (refused c p) h g = clash c p rs q g
        go (got x j) h g = h ∙ ended-got (sheet_bits sheet) x rs j q g

    -- they keep the limit
    pub rules-few : Bytes sheet → decode form sheet_limits sheet ≡ got rs q → length rs ≤ sheet_limits.rules
    unfolding several
    rules-few b e =
        let w = decode-parts e in
        let long = ((several-faithful (rule-faithful form sheet_limits) w.0).written (sheet_bits sheet) (sheet-bits sheet b) w.1 rs q w.3).0 in
        omega (arith, long, (count_low form sheet b w.0 w.1 w.2).0)

    -- WHERE THE LAST ONE ENDS
    pub rules-end : Narrow form → Bytes sheet → decode form sheet_limits sheet ≡ got rs q → (q ≤ 8 * length sheet) × (q < 2 ^ 25)
    unfolding several
    rules-end narrow b e =
        let w = decode-parts e in
        let s = sheet_bits sheet in
        let low = count_low form sheet b w.0 w.1 w.2 in
        let short : Short (rule form sheet_limits) 3016 = λ t p x i h. omega (arith, narrow.head-narrow, rule-short form t p x i h) in
        let within = read-within (several-faithful (rule-faithful form sheet_limits) w.0) s (sheet-bits sheet b) w.1 rs q (omega (arith, length-sheet_bits sheet, low.2)) w.3 in (
          omega (arith, within, length-sheet_bits sheet),
          omega (arith, several-short (rule form sheet_limits) 3016 short w.0 s w.1 rs q w.3, low.0, low.1, narrow.opening-narrow),
        )

    -- places for all that can begin in the sheet are enough for them
    pub rules-placed : Narrow form → Bytes sheet → decode form sheet_limits sheet ≡ got rs q → (places : ℕ) → Places (length sheet) places → length rs ≤ places
    unfolding several
    rules-placed narrow b e places enough = go rs refl
      where
        w : (n : ℕ) × (p : ℕ) × ((opening form sheet_limits).read (sheet_bits sheet) 0 ≡ got n p) × (read_all (rule form sheet_limits).read n (sheet_bits sheet) p ≡ got rs q)
        w = decode-parts e

        go : (qs : List Rule) → qs ≡ rs → length qs ≤ places
        go [] z = omega arith
        go (r ∷ qs) z =
            let stand = ((several-faithful (rule-faithful form sheet_limits) w.0).written (sheet_bits sheet) (sheet-bits sheet b) w.1 rs q w.3).2 in
            let many : suc (length qs) ≡ length rs = ap length z in
            enough (length qs) (omega (arith, many, rules-few b e))
            (omega (arith, many, stand.ends, rules-long form narrow rs, (rules-end narrow b e).0))

    -- WHERE RULES BEGIN
    pub rules-begin : Narrow form → Bytes sheet → decode form sheet_limits sheet ≡ got rs q → (begins : List ℕ) → length rs ≤ length begins
        → (i : ℕ) → i < length rs → Begins (sheet_bits sheet) q rs i (get_or (begun form sheet begins) i 0)
    unfolding several
    rules-begin narrow b e begins room i l =
        let w = decode-parts e in
        let s = sheet_bits sheet in
        let low = count_low form sheet b w.0 w.1 w.2 in
        let long = ((several-faithful (rule-faithful form sheet_limits) w.0).written s (sheet-bits sheet b) w.1 rs q w.3).0 in
        let z : 0 + i ≡ i = omega arith in
        subst (Begins s q rs i) (ap₂ (λ bs j. get_or bs j 0) (sym (count-begun form sheet w.0 w.1 w.2 begins)) z)
        (noted-begin s (sheet-bits sheet b) q narrow w.0 rs 0 w.1 begins (omega (arith, long, room)) (omega (arith, low.0, low.1, narrow.opening-narrow)) w.3 i (omega (arith, long)))

  -- a sheet that was checked was read, to the same end and to as many rules
  pub checked-rules : (sheet : List ℕ) (n q : ℕ) → checked form sheet ≡ got n q → (rs : List Rule) × (decode form sheet_limits sheet ≡ got rs q) × (length rs ≡ n)
  unfolding checked
  checked-rules sheet n q e = go (decode form sheet_limits sheet) refl e
    where
      go : (w : Read (List Rule)) → decode form sheet_limits sheet ≡ w → and_then (λ rs q. got (length rs) q) w ≡ got n q
          → (rs : List Rule) × (decode form sheet_limits sheet ≡ got rs q) × (length rs ≡ n)
      go (refused c p) h g = clash c p n q g
      go (got rs p) h g = let z : p ≡ q = cc in let m : length rs ≡ n = cc in (rs, h ∙ ap (got rs) z, m)

  -- ## The rules at some beginnings
  module _ (s begins : List ℕ) (n : ℕ) where
    pub rules-many : length (rules_at form s begins n) ≡ n
    unfolding rules_at
    rules-many = length-map (from 0 n) (λ k. rule_read_at form s (get_or begins k 0)) ∙ length_from 0 n

    pub rules-each : (k : ℕ) → k < n → get_or (rules_at form s begins n) k no_rule ≡ rule_read_at form s (get_or begins k 0)
    unfolding rules_at
    rules-each k l =
        let z : 0 + k ≡ k = omega arith in
        get_d-from (λ k. rule_read_at form s (get_or begins k 0)) no_rule 0 n k l ∙ ap (λ j. rule_read_at form s (get_or begins j 0)) z

  -- the rules of a sheet that was read, each where its beginning is noted
  module _ (narrow : Narrow form) (sheet : List ℕ) (b : Bytes sheet) (rs : List Rule) (q : ℕ) (e : decode form sheet_limits sheet ≡ got rs q) (begins : List ℕ)
      (room : length rs ≤ length begins) where
    pub all-begin : AllBegin form (sheet_bits sheet) (begun form sheet begins) (length rs)
    all-begin i l = let w = rules-begin sheet rs q narrow b e begins room i l in (w.readable, w.low)

    pub rules-there : rules_at form (sheet_bits sheet) (begun form sheet begins) (length rs) ≡ rs
    rules-there = ext_get_or no_rule _ rs many (λ k l.
        let m : k < length rs = omega (arith, many) in
        rules-each (sheet_bits sheet) (begun form sheet begins) (length rs) k m ∙ (rules-begin sheet rs q narrow b e begins room k m).begun-rule)
      where
        many : length (rules_at form (sheet_bits sheet) (begun form sheet begins) (length rs)) ≡ length rs
        many = rules-many (sheet_bits sheet) (begun form sheet begins) (length rs)

  -- a sheet that was read has a noted beginning for each rule
  pub begins-long : (sheet begins : List ℕ) → Bytes sheet → (rs : List Rule) (end : ℕ) → SheetRead form sheet begins rs end → (length rs ≤ sheet_limits.rules) × (length rs ≤ length begins)
  begins-long sheet begins b rs end read =
      let few = rules-few sheet rs end b read.read in
      (few, omega (arith, few, read.room, ap length read.noted, begun-length sheet read.before))
