use Rattle.std.proofs.Common.{◌≡◌, ◌<◌, ℕ, true, length, IfOk, IfSome, Option, sym, ap, ap₂, subst, ◌∙◌, arith}
use Rattle.pud_defs.specs.RegistryTables.Types.{types_of, map_of}
use Rattle.pud_defs.specs.PoolGraphs.Graph.{fits_class, fitting}
use Rattle.pm_model.proofs.Reading.{still_reads}
use Rattle.graph_read.specs.Reading.{class_in}
use Rattle.graph_read.proofs.Slots.{entry_class}
use Rattle.graph_read.proofs.maps.map_at.Goals as goal

pub returns-clause-map : goal.returns-clause-map
returns-clause-map g c = λ t image same.
    let o = c.ordinal_of.ensures in
    let below : c.ordinal_of.result < length c.args.pool.now = omega (arith, o, c.requires.within) in
    let class = sym (entry_class c.args.pool.now c.ordinal_of.result _ below) ∙ ap (class_in c.args.pool.now) o in
    let before = still_reads c.type_at.ensures.only_reads t same in
    subst (λ (m : Option ℕ). IfOk c.find_fitting.result (λ map. map ≡ m)) (ap₂ (λ (k i : ℕ). fitting k (map_of i (types_of image))) class (c.in_ok-id.ensures.id t image same)) (c.find_fitting.ensures.map t image before)

pub returns-clause-fits : goal.returns-clause-fits
returns-clause-fits g c =
    let o = c.ordinal_of.ensures in
    let below : c.ordinal_of.result < length c.args.pool.now = omega (arith, o, c.requires.within) in
    let class = sym (entry_class c.args.pool.now c.ordinal_of.result _ below) ∙ ap (class_in c.args.pool.now) o in
    subst (λ (k : ℕ). IfOk c.find_fitting.result (λ map. IfSome map (λ m. fits_class k m ≡ true))) class c.find_fitting.ensures.fits
