-- What an export leaves in a lent slice: "a slice too short for them is answered no, with nothing written anywhere".
use Rattle.std.specs.Prelude.{Bool, cond, List, ℕ}
use Rattle.definition.specs.Fold.{buffer}

-- the lent slice afterwards: these numbers at its front if the answer is yes, else as it was
abbrev pub put : Bool → List ℕ → List ℕ → List ℕ
put told numbers lent = cond told (buffer numbers lent) lent
