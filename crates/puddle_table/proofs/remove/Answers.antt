use Rattle.std.proofs.Common.{◌≡◌, ℕ, [], ◌∷◌, None, sym, subst}
use Rattle.pud_defs.specs.RegistryTables.Tables.{tables_of}
use Rattle.pud_defs.specs.RegistryTables.Puts.{put_of, with_put, with_puddle_at}
use Rattle.pud_defs.proofs.RegistryTables.PutsMade.{free_puddle_put_made}
use Rattle.puddle_table.proofs.remove.Goals as goal

pub returns-clause-changes : goal.returns-clause-changes
returns-clause-changes c = λ frames image within.
    subst (λ (at : ℕ). tables_of frames (with_put (put_of at (0 ∷ [])) image) ≡ with_puddle_at c.args.frame None (tables_of frames image)) (sym c.puddle_record_at.ensures) (free_puddle_put_made frames image c.args.frame within)
