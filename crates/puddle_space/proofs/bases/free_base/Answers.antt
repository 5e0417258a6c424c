use Rattle.std.proofs.Common.{subst, sym}
use Rattle.pud_defs.specs.RegistryTables.Tables.{tables_of}
use Rattle.pud_defs.specs.RegistryTables.Places.{IsLowestBase}
use Rattle.puddle_space.proofs.Lowest.{lowest_base, free_once_marked}
use Rattle.puddle_space.proofs.bases.free_base.Goals as goal

pub returns-clause-lowest : goal.returns-clause-lowest
returns-clause-lowest g c = λ t image same.
    subst (IsLowestBase (tables_of c.args.frames image) c.args.taken.now) (sym c.base_at.ensures)
    (lowest_base c.args.frames image c.args.taken.now c.mark_puddles.new.free c.first_free.result c.first_free.ensures.tried
    (free_once_marked c.args.frames image c.args.taken.now c.all_free-free.result c.mark_taken.new.free c.mark_puddles.new.free c.all_free-free.ensures.each
    c.mark_taken.ensures.left (c.in_ok-mark_puddles.ensures.left t image same))
    c.first_free.ensures.free c.first_free.ensures.lowest)
