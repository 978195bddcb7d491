-- `day_flat::class::all_of_kind` meets its contract, by one lemma for each return.
use Rattle.std.proofs.Common.{◌≡◌, sym, ap, ◌∙◌, drop, length, take, get_or, arith}
use Rattle.std.proofs.lemmas.List.{take_rest, length-drop}
use borrow.Author.Tests.{le-leb}
use Rattle.laws.specs.Lists.{every}
use Rattle.day_flat.specs.Day.{unflat, of_kind}
use Rattle.day_flat.proofs.ClassReturns.{kind-none, kind-alone, kind-more, kind-other}
use Rattle.day_flat.proofs.class.+all_of_kind.Goals as goal

pub returns-in-empty : goal.returns-in-empty
returns-in-empty t c = kind-none _ _ c.in-empty.len_below

pub returns-in-len1 : goal.returns-in-len1
returns-in-len1 t c = kind-alone _ _ _ c.kind_of.ensures c.in-len1.len_at_least c.in-len1.len_below

pub returns-then-rest-spans : goal.returns-then-rest-spans
returns-then-rest-spans t c =
    let words = c.args.words.now in
    le-leb _ _ c.if-rest-spans.true ∙ kind-none c.args.kind (drop (get_or words 1 0) (drop 2 words)) (omega (arith, ap length (take_rest words 2), length-drop (get_or words 1 0) (drop 2 words)))
    ∙ kind-more c.args.kind words _ c.kind_of-in-len2-up.ensures c.in-len2-up.len_at_least c.if-kind_of-kind.true

pub returns-else-rest-spans : goal.returns-else-rest-spans
returns-else-rest-spans t c =
    let words = c.args.words.now in
    c.all_of_kind.ensures
    ∙ ap (λ ws. every (of_kind c.args.kind) (unflat ws)) (take_rest _ (get_or words 1 0) ∙ ap (drop (get_or words 1 0)) (take_rest words 2))
    ∙ kind-more c.args.kind words _ c.kind_of-in-len2-up.ensures c.in-len2-up.len_at_least c.if-kind_of-kind.true

pub returns-else-kind_of-kind : goal.returns-else-kind_of-kind
returns-else-kind_of-kind t c = kind-other _ _ _ c.kind_of-in-len2-up.ensures c.in-len2-up.len_at_least c.if-kind_of-kind.false
