use Rattle.graph_dump.proofs.dump.dump_object.Goals as goal

pub returns-clause-only_reads : goal.returns-clause-only_reads
returns-clause-only_reads g c = c.in_ok-object.ensures.only_reads
