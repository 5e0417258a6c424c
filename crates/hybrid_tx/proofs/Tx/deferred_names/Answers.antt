use Rattle.std.proofs.Common.{option_map, sym, ap, subst, ◌∙◌}
use Rattle.pm_model.specs.Moments.{State}
use Rattle.pud_defs.specs.Formats.Image.{Image}
use Rattle.pud_defs.specs.RegistryTables.Types.{types_of}
use Rattle.pm_model.proofs.Reading.{still_reads}
use Rattle.puddle_header.specs.Places.{place_of_slot}
use Rattle.hybrid_tx.specs.Objects.Transactions.{AreDeferredEntries, IsOpenOn}
use Rattle.hybrid_tx.proofs.Objects.DeferredNamed.{none_named}
use Rattle.hybrid_tx.proofs.Tx.deferred_names.Goals as goal

pub returns-in-Some-clause-names : goal.returns-in-Some-clause-names
returns-in-Some-clause-names g c = λ t image same before graph_before now deferred placed is_open used.
    let k = c.in_ok-at.ensures in
    c.deferred_names_at.ensures.names t image (still_reads k.only_reads t same) before graph_before now deferred placed
    (subst (λ (s : State). IsOpenOn c.args.frames c.args.pool.now (types_of image) c.args.self.now.log before graph_before now deferred s.now.words) (sym (k.only_reads.stays t)) is_open) used
    (sym (k.found t image same) ∙ ap (option_map place_of_slot) c.in-Some.is)

pub returns-in-None-clause-names : goal.returns-in-None-clause-names
returns-in-None-clause-names g c = λ t image same before graph_before now deferred placed is_open used.
    let none = sym (c.in_ok-at.ensures.found t image same) ∙ ap (option_map place_of_slot) c.in-None.is in
    let are = subst (λ (i : Image). AreDeferredEntries c.args.frames c.args.pool.now (types_of image) i now deferred is_open.redo) same is_open.are in
    sym (none_named c.args.frames c.args.pool.now (types_of image) image now c.args.s used none deferred is_open.redo are)
