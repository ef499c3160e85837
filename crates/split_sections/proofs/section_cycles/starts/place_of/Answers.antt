use Rattle.split_sections.proofs.Prelude.{rules, nat_lt, IsPartitionPoint-from_clause, IsPartitionedBy-ltb}
use Rattle.split_sections.proofs.section_cycles_laws.Started.{is_place}
use Rattle.split_sections.proofs.section_cycles.starts.place_of.Goals as goal

pub returns : goal.returns
returns c =
    is_place c.args.starts.now c.args.vertex c.requires.rising c.requires.listed c.partition_point.result
    (IsPartitionPoint-from_clause (λ s. nat_lt s.vertex c.args.vertex) c.args.starts.now c.partition_point.result c.partition_point.ensures.partitioned
    (IsPartitionedBy-ltb (λ s. s.vertex) c.args.starts.now c.args.vertex c.requires.rising) (λ a r q k. search rules))
