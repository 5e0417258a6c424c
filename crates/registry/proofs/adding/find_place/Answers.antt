use Rattle.std.proofs.Common.{refl, ap, ◌∙◌}
use Rattle.std.proofs.lemmas.Result.{err_from_is_err_and}
use Rattle.pud_defs.specs.RegistryTables.Keyed.{first_free}
use Rattle.pud_defs.specs.RegistryTables.Tables.{tables_of}
use Rattle.puddle_table.proofs.Search.{frame_found}
use Rattle.registry.proofs.Placed.{all_frames, no_frame_found}
use Rattle.pm_model.proofs.Reading.{still_reads}
use Rattle.registry.proofs.adding.find_place.Goals as goal

pub returns-in_err-frame-clause-no_space : goal.returns-in_err-frame-clause-no_space
returns-in_err-frame-clause-no_space g c =
    let p = err_from_is_err_and c.from_residual.result c.from_residual.ensures.1 in
    rw (p.1, p.2) (λ t image same refused.
    ap (first_free (tables_of c.args.frames image).puddles 0) (all_frames c.args.frames image)
    ∙ no_frame_found _ c.in_err-frame.field-0.0 (let is = refused in cc) (c.in_err-frame.ensures.frame t image same))

pub returns-clause-place : goal.returns-clause-place
returns-clause-place g c = λ t image same.
    let frame_read = still_reads c.free_frame.ensures.only_reads t same in
    record {
      frame = ap (first_free (tables_of c.args.frames image).puddles 0) (all_frames c.args.frames image) ∙ frame_found _ c.in_ok-frame.frame (c.in_ok-frame.ensures.frame t image same refl);
      base = c.in_ok-base.ensures.lowest t image frame_read;
      slot_is = refl;
      ordinal_is = refl;
      number_is = refl;
      old_base = refl;
      class = c.requires.class;
      frontier = c.class_steps.ensures;
    }
