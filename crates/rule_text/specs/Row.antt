-- The tales of a row of items, of the items behind its first, and of the part of a rule that the row makes.
use Rattle.std.specs.Prelude.{List, [], ◌++◌, false, ◌||◌, cond, ℕ, zero, suc, eqb}
use Rattle.definition.specs.Text.{ascii}
use Rattle.rule_text.specs.Tale.{Tale, tale, item_told}

-- one tale behind the other
abbrev pub followed : Tale → Tale → Tale
followed x y = tale (x.text ++ y.text) (x.wordless || y.wordless) y.next

-- the same with a text before it
abbrev pub after : List ℕ → Tale → Tale
after t x = tale (t ++ x.text) x.wordless x.next

-- nothing, at a bit
abbrev pub nothing : ℕ → Tale
nothing p = tale [] false p

-- n items, each behind `,`
unfoldable pub others_told : ℕ → ℕ → List ℕ → ℕ → Tale
others_told sort zero s p = nothing p
others_told sort (suc n) s p = let x = item_told sort s p in followed (after (ascii ",") x) (others_told sort n s x.next)

-- n items with `,` between them
unfoldable pub items_told : ℕ → ℕ → List ℕ → ℕ → Tale
items_told sort zero s p = nothing p
items_told sort (suc n) s p = let x = item_told sort s p in followed x (others_told sort n s x.next)

-- "the weeks after `week `"
unfoldable pub opening : ℕ → List ℕ
opening sort = cond (eqb sort 2) (ascii "week ") []

-- with the space behind it; nothing where there are no items
unfoldable pub part_told : ℕ → ℕ → List ℕ → ℕ → Tale
part_told sort n s p = cond (eqb n 0) (nothing p) (let x = items_told sort n s p in tale (opening sort ++ (x.text ++ ascii " ")) x.wordless x.next)
