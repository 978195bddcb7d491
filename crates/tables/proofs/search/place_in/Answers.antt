-- `tables::search::place_in` meets its contract: the library's search among the numbers ends at the place.
use Rattle.std.proofs.Common.{rules, ltb}
use Rattle.std.proofs.lemmas.List.Sorted.{IsPartitionPoint-from_clause, IsPartitionedBy-ltb}
use Rattle.tables.proofs.Narrowing.{sought-rises, place-found}
use Rattle.tables.proofs.search.place_in.Goals as goal

pub returns : goal.returns
returns c =
    let a = c.args in
    let inside = c.requires.first_le_end in
    let rises = sought-rises a.numbers.now a.first a.end inside.0 inside.1 c.requires.rising in
    let parted = IsPartitionedBy-ltb (λ y. y) _ a.value rises in
    let point = IsPartitionPoint-from_clause (λ y. ltb y a.value) _ _ c.partition_point.ensures.partitioned parted (λ a r q k. search rules) in
    place-found _ _ _ inside.0 inside.1 _ _ c.partition_point.ensures.bound point
