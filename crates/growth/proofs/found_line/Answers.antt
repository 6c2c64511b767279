-- The keys rise, so that those before the days left stand in front.
use Rattle.std.proofs.Common.{ltb, ltb-true, ltb-false, rules}
use Rattle.std.proofs.lemmas.List.Sorted.{IsPartitionPoint-from_clause}
use Rattle.growth.proofs.Search.{parted}
use Rattle.growth.proofs.found_line.Goals as goal

pub returns-clause-found : goal.returns-clause-found
returns-clause-found c =
    let point =
    IsPartitionPoint-from_clause (λ k. ltb k.days c.args.days) _ _ c.partition_point.ensures.partitioned
    (parted _ c.args.days c.requires) (λ a r q k. search rules) in
    (λ k d low high. ltb-true _ _ (point.0 k d low high), λ k d low high. ltb-false _ _ (point.1 k d low high))
