use Rattle.std.proofs.Common.{ap, ◌∙◌, arith}
use Rattle.pud_defs.specs.declared.records.Put.{Put}
use Rattle.pud_defs.specs.RegistryTables.Tables.{tables_of}
use Rattle.pud_defs.specs.RegistryTables.Puts.{with_put}
use Rattle.pud_defs.proofs.RegistryTables.PutsMade.{puddle_put_made}
use Rattle.puddle_table.proofs.Search.{put_same}
use Rattle.puddle_table.proofs.record_put.Goals as goal

pub returns-clause-put : goal.returns-clause-put
returns-clause-put c = put_same c.args.frame c.args.rec c.puddle_record_at.result c.member_word-member.result c.frontier_with_class-last.result c.puddle_record_at.ensures c.member_word-member.ensures c.frontier_with_class-last.ensures.word

pub returns-clause-changes : goal.returns-clause-changes
returns-clause-changes c = λ frames image within.
    let same = put_same c.args.frame c.args.rec c.puddle_record_at.result c.member_word-member.result c.frontier_with_class-last.result c.puddle_record_at.ensures c.member_word-member.ensures c.frontier_with_class-last.ensures.word in
    ap (λ (put : Put). tables_of frames (with_put put image)) same ∙ puddle_put_made frames image c.args.frame c.args.rec within (record { pool = omega (arith, c.requires.pool); frontier = let part = c.frontier_with_class-last.ensures.frontier in omega arith })
