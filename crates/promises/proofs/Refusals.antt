-- A READING THAT IS REFUSED BY 1, 2 OR 4 NAMES A FIELD: the field that begins at its place runs past the end or holds a value that isn't
-- lawful. Rests on how layouts are put together.
use mathlib.Core.Path.{◌≡◌, refl, sym, ap₂, subst}
use mathlib.Core.List.{List, [], ◌∷◌}
use mathlib.Core.Option.{none}
use mathlib.Core.Logic.{◌⊎◌, inl, inr}
use mathlib.Core.Bool.{Bool, true, false, cond}
use Prim.Native.Nat.{ℕ, zero, suc, ◌+◌, ◌≤◌}
use native.Mathlib.Omega.{arith}
use lib.Dec.{eqb, leb}
use lib.ListN.{length}
use borrow.Author.Tests.{leb-true, leb-false}
use Rattle.definition.specs.Field.{field_at, Read, got, refused, and_then, past_end, read_field, read_all, Layout, field, no_bits, ◌then◌, via, tagged, several}
use Rattle.definition.specs.Sheet.{Form, Limits, year_range, monthday_of, monthday_range, week_range, weekday_of, week_day_range, time_of, time, repeats_of, repeats_layout, span, title, counts, Counts, head, body, rule, opening, rules}
use Rattle.promises.specs.Fields.{FieldKind, count_of_rules, count_of_items, count_of_spans, a_mark, choice_of_three, a_year, a_month, a_week, a_weekday, a_year_step, a_week_step, some_minutes, a_comment, a_reference, an_offset, an_nth_set, an_event, a_flag, some_repeats, width, passes, code_of, Refused}

-- where a reading that goes on is refused: at once, or in what comes behind
module _ {A B : Type 0} (f : A → ℕ → Read B) (c q : ℕ) where
  abbrev Later : Read A → Type 0
  Later r = (x : A) × (j : ℕ) × (r ≡ got x j) × (f x j ≡ refused c q)

  refused-where : (r : Read A) → and_then f r ≡ refused c q → (r ≡ refused c q) ⊎ Later r
  refused-where (got x j) e = inr (x, j, refl, e)
  refused-where (refused d i) e = let k : d ≡ c = cc in let l : i ≡ q = cc in inl (ap₂ refused k l)

-- what was read isn't refused
unread : {A T : Type 0} (x : A) (j c q : ℕ) → got x j ≡ refused c q → T
unread x j c q e = let z : ◌≡◌ {A = ℕ} 0 1 = cc in absurd (omega arith)

-- every refusal of the layout is as P says, of the bits, the code and the place
record Refuses (P : List ℕ → ℕ → ℕ → Type 0) {A : Type 0} (L : Layout A) : Type 0 where
  tells : (s : List ℕ) (p c q : ℕ) → L.read s p ≡ refused c q → P s c q

-- ## Layouts put together
module _ {P : List ℕ → ℕ → ℕ → Type 0} where
  none-refuses : {A : Type 0} (x : A) → Refuses P (no_bits x)
  unfolding no_bits
  none-refuses x = record { tells = λ s p c q e. unread x p c q e }

  via-refuses : {A B : Type 0} (make : A → B) (parts : B → A) {L : Layout A} → Refuses P L → Refuses P (via make parts L)
  unfolding via
  via-refuses {A} {B} make parts {L} a = record { tells = λ s p c q e. go s p c q (refused-where (λ x j. got (make x) j) c q (L.read s p) e) }
    where
      go : (s : List ℕ) (p c q : ℕ) → (L.read s p ≡ refused c q) ⊎ Later (λ x j. got (make x) j) c q (L.read s p) → P s c q
      go s p c q (inl h) = a.tells s p c q h
      go s p c q (inr k) = unread (make k.0) k.1 c q k.3

  tagged-refuses : {A B : Type 0} {L : Layout A} {M : A → Layout B} (tag : B → A) → Refuses P L → ((t : A) → Refuses P (M t)) → Refuses P (tagged L M tag)
  unfolding tagged
  tagged-refuses {A} {B} {L} {M} tag a b = record { tells = λ s p c q e. go s p c q (refused-where (λ t j. (M t).read s j) c q (L.read s p) e) }
    where
      go : (s : List ℕ) (p c q : ℕ) → (L.read s p ≡ refused c q) ⊎ Later (λ t j. (M t).read s j) c q (L.read s p) → P s c q
      go s p c q (inl h) = a.tells s p c q h
      go s p c q (inr k) = (b k.0).tells s k.1 c q k.3

  then-refuses : {A B : Type 0} {L : Layout A} {M : Layout B} → Refuses P L → Refuses P M → Refuses P (L then M)
  unfolding ◌then◌
  then-refuses {A} {B} {L} {M} a b = record { tells = λ s p c q e. go s p c q (refused-where (both s) c q (L.read s p) e) }
    where
      pair : A → B → ℕ → Read (A × B)
      pair x y i = got (x, y) i

      both : List ℕ → A → ℕ → Read (A × B)
      both s x j = and_then (pair x) (M.read s j)

      behind : (s : List ℕ) (c q : ℕ) (x : A) (j : ℕ) → (M.read s j ≡ refused c q) ⊎ Later (pair x) c q (M.read s j) → P s c q
      behind s c q x j (inl h) = b.tells s j c q h
      behind s c q x j (inr k) = unread (x, k.0) k.1 c q k.3

      go : (s : List ℕ) (p c q : ℕ) → (L.read s p ≡ refused c q) ⊎ Later (both s) c q (L.read s p) → P s c q
      go s p c q (inl h) = a.tells s p c q h
      go s p c q (inr k) = behind s c q k.0 k.1 (refused-where (pair k.0) c q (M.read s k.1) k.3)

  all-refuse : {A : Type 0} (L : Layout A) → Refuses P L → (n : ℕ) (s : List ℕ) (p c q : ℕ) → read_all L.read n s p ≡ refused c q → P s c q
  unfolding read_all
  all-refuse L a zero s p c q e = unread [] p c q e
  all-refuse {A} L a (suc n) s p c q e = go (refused-where both c q (L.read s p) e) (all-refuse L a n s)
    where
      more : A → List A → ℕ → Read (List A)
      more x xs i = got (x ∷ xs) i

      both : A → ℕ → Read (List A)
      both x j = and_then (more x) (read_all L.read n s j)

      behind : (x : A) (j : ℕ) → (read_all L.read n s j ≡ refused c q → P s c q)
          → (read_all L.read n s j ≡ refused c q) ⊎ Later (more x) c q (read_all L.read n s j) → P s c q
      behind x j ih (inl h) = ih h
      behind x j ih (inr k) = unread (x ∷ k.0) k.1 c q k.3

      go : (L.read s p ≡ refused c q) ⊎ Later both c q (L.read s p) → ((j d i : ℕ) → read_all L.read n s j ≡ refused d i → P s d i) → P s c q
      go (inl h) ih = a.tells s p c q h
      go (inr k) ih = behind k.0 k.1 (ih k.1 c q) (refused-where (more k.0) c q (read_all L.read n s k.1) k.3)

  several-refuse : {A : Type 0} {L : Layout A} → Refuses P L → (n : ℕ) → Refuses P (several n L)
  unfolding several
  several-refuse {A} {L} a n = record { tells = all-refuse L a n }

  either-refuses : {A : Type 0} (b : Bool) (L M : Layout A) → Refuses P L → Refuses P M → Refuses P (cond b L M)
  either-refuses true L M a m = a
  either-refuses false L M a m = m

-- ## The layouts of a sheet
module _ (form : Form) (limits : Limits) where
  abbrev Named : List ℕ → ℕ → ℕ → Type 0
  Named s c p = (k : FieldKind) × Refused form limits s k c p

  -- a field of each kind
  kind : (k : FieldKind) → Refuses Named (field (code_of k) (passes form limits k) (width form k))
  unfolding field read_field
  kind k = record { tells = λ s p c q e. past s p c q e (leb (p + width form k) (length s)) refl }
    where
      fails : (s : List ℕ) (p c q : ℕ) → read_field (code_of k) (passes form limits k) (width form k) s p ≡ refused c q → p + width form k ≤ length s
          → leb (p + width form k) (length s) ≡ true
          → (b : Bool) → passes form limits k (field_at s p (width form k)) ≡ b → Named s c q
      fails s p c q e l t true f = unread (field_at s p (width form k)) (p + width form k) c q (rw (t, f, read_field) at e)
      fails s p c q e l t false f =
          let g : refused (code_of k) p ≡ refused c q = rw (t, f, read_field) at e in
          let d : code_of k ≡ c = cc in
          let z : p ≡ q = cc in
          subst (λ i. Named s c i) z (k, inr (sym d, l, f))

      past : (s : List ℕ) (p c q : ℕ) → read_field (code_of k) (passes form limits k) (width form k) s p ≡ refused c q → (b : Bool)
          → leb (p + width form k) (length s) ≡ b → Named s c q
      past s p c q e true t = fails s p c q e (leb-true (p + width form k) (length s) t) t (passes form limits k (field_at s p (width form k))) refl
      past s p c q e false t =
          let g : refused past_end p ≡ refused c q = rw (t, read_field) at e in
          let d : past_end ≡ c = cc in
          let z : p ≡ q = cc in
          subst (λ i. Named s c i) z (k, inl (sym d, leb-false (p + width form k) (length s) t))

  year-refuses : Refuses Named year_range
  unfolding year_range
  year-refuses = via-refuses _ _ (then-refuses (kind a_year) (then-refuses (kind a_year) (kind a_year_step)))

  month-refuses : Refuses Named monthday_range
  unfolding monthday_range monthday_of
  month-refuses = tagged-refuses _ (kind choice_of_three) (λ t.
      either-refuses (eqb t 0) _ _ (via-refuses _ _ (then-refuses (kind a_month) (kind a_month)))
      (either-refuses (eqb t 1) _ _ (via-refuses _ _ (then-refuses (kind a_month) (then-refuses (kind a_month) (kind a_year))))
      (via-refuses _ _ (kind a_reference))))

  week-refuses : Refuses Named week_range
  unfolding week_range
  week-refuses = via-refuses _ _ (then-refuses (kind a_week) (then-refuses (kind a_week) (kind a_week_step)))

  weekday-refuses : Refuses Named week_day_range
  unfolding week_day_range weekday_of
  weekday-refuses = tagged-refuses _ (kind a_flag) (λ t.
      either-refuses (eqb t 0) _ _
      (via-refuses _ _
      (then-refuses (kind a_weekday) (then-refuses (kind a_weekday) (then-refuses (kind an_offset) (then-refuses (kind an_nth_set) (kind an_nth_set))))))
      (via-refuses _ _ (then-refuses (kind a_flag) (kind an_offset))))

  time-refuses : Refuses Named time
  unfolding time time_of
  time-refuses = tagged-refuses _ (kind a_flag) (λ t.
      either-refuses (eqb t 0) _ _ (via-refuses _ _ (kind some_minutes)) (via-refuses _ _ (then-refuses (kind an_event) (kind an_offset))))

  span-refuses : Refuses Named span
  unfolding span repeats_layout repeats_of
  span-refuses = via-refuses _ _ (then-refuses time-refuses (then-refuses time-refuses (then-refuses (kind a_flag)
      (tagged-refuses _ (kind a_flag) (λ t. either-refuses (eqb t 0) _ _ (none-refuses none) (via-refuses _ _ (kind some_repeats)))))))

  head-refuses : Refuses Named (head form limits)
  unfolding head title counts
  head-refuses =
      then-refuses (then-refuses (via-refuses _ _ (kind choice_of_three)) (then-refuses (via-refuses _ _ (kind choice_of_three)) (kind a_comment)))
      (then-refuses (kind count_of_items)
      (then-refuses (kind count_of_items) (then-refuses (kind count_of_items) (then-refuses (kind count_of_items) (kind count_of_spans)))))

  body-refuses : (n : Counts) → Refuses Named (body n)
  unfolding body
  body-refuses n =
      then-refuses (several-refuse year-refuses n.0) (then-refuses (several-refuse month-refuses n.1.0)
      (then-refuses (several-refuse week-refuses n.1.1.0)
      (then-refuses (several-refuse weekday-refuses n.1.1.1.0) (several-refuse span-refuses n.1.1.1.1))))

  opening-refuses : Refuses Named (opening form limits)
  unfolding opening
  opening-refuses = via-refuses _ _ (then-refuses (kind a_mark) (kind count_of_rules))

  rules-refuse : Refuses Named (rules form limits)
  unfolding rules rule
  rules-refuse = tagged-refuses _ opening-refuses (λ n. several-refuse (tagged-refuses _ head-refuses (λ h. via-refuses _ _ (body-refuses h.1))) n)

  -- A REFUSAL NAMES A FIELD
  pub field-named : (s : List ℕ) (c q : ℕ) → (rules form limits).read s 0 ≡ refused c q → (k : FieldKind) × Refused form limits s k c q
  field-named s c q e = rules-refuse.tells s 0 c q e
