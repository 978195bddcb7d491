-- The tale of a reading, and the answers that show it: one lemma for each return of a reader of an item.
use mathlib.Core.Path.{◌≡◌, refl, sym, ap₂, ◌∙◌, subst}
use mathlib.Core.List.{List, []}
use mathlib.Core.Bool.{Bool, true, false, ◌||◌}
use Prim.Native.Nat.{ℕ}
use Rattle.definition.specs.Field.{Read, got, refused}
use Rattle.definition.specs.Text.{Text}
use Rattle.text.specs.Put.{Put, Within}
use Rattle.text.proofs.Putting.{put-none, put_then, put_as}
use Rattle.rule_text.specs.declared.shown.Shown.{Shown}
use Rattle.rule_text.specs.Tale.{Tale, told}
use Rattle.rule_text.specs.Shows.{silent, Shows}
use Rattle.rule_text.specs.Row.{followed, nothing}

-- the same tale, told otherwise
pub shows-as : {x y : Tale} {l m : List ℕ} {place : ℕ} {r : Shown} → x ≡ y → Shows x l place r m → Shows y l place r m
shows-as {x} {y} {l} {m} {place} {r} e h = subst (λ z. Shows z l place r m) e h

-- nothing, and one behind the other
pub shows_nothing : (p place : ℕ) (l : List ℕ) → Shows (nothing p) l place (record { at = p; to = place; wordless = false }) l
shows_nothing p place l = record { read-to = refl; lacks = refl; put = put-none l place }

pub shows_then : {x y : Tale} {l m n : List ℕ} {place : ℕ} {r q : Shown} → Shows x l place r m → Shows y m r.to q n → (b : Bool)
    → b ≡ r.wordless || q.wordless
    → Shows (followed x y) l place (record { at = q.at; to = q.to; wordless = b }) n
shows_then g h b e = record { read-to = h.read-to; lacks = e ∙ ap₂ ◌||◌ g.lacks h.lacks; put = put_then g.put h.put }

module _ {A : Type 0} (T : Text A) (wordless : A → Bool) (p : ℕ) (read : Read A) (place : ℕ) where
  -- a value that was read: its text has as much room as what is told
  pub got-within : (x : A) (q : ℕ) → read ≡ got x q → Within place (told T wordless p read).text → Within place (T.write x)
  got-within x q e h = rw e at h

  pub got-shows : (x : A) (q to : ℕ) (b : Bool) {l m : List ℕ} → read ≡ got x q → b ≡ wordless x → Put l place (T.write x) to m
      → Shows (told T wordless p read) l place (record { at = q; to = to; wordless = b }) m
  got-shows x q to b e f put = rw e (record { read-to = refl; lacks = f; put = put })

  -- one that has no words
  pub got-silent : (x : A) (q : ℕ) (r : Shown) {l : List ℕ} → read ≡ got x q → wordless x ≡ true → T.write x ≡ [] → r ≡ silent q place
      → Shows (told T wordless p read) l place r l
  got-silent x q r {l} e f g h = rw (h, e) (record { read-to = refl; lacks = sym f; put = put_as (sym g) (put-none l place) })

  -- and one that could not be read
  pub refused-silent : (c b : ℕ) (r : Shown) {l : List ℕ} → read ≡ refused c b → r ≡ silent p place → Shows (told T wordless p read) l place r l
  refused-silent c b r {l} e h = rw (h, e) (record { read-to = refl; lacks = refl; put = put-none l place })
