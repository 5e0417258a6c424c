use Rattle.std.proofs.Common.{Bool, List, [], map, length, sym, ap, subst, ◌∙◌}
use Rattle.std.proofs.lemmas.List.{length-map}
use Rattle.std.proofs.lemmas.List.Elements.{All-same}
use Rattle.pud_defs.specs.RegistryTables.Placement.{ArePlacedFrom, ArePlaced}
use Rattle.pud_defs.specs.RegistryTables.Tables.{tables_of}
use Rattle.registry.specs.declared.adding.NewPuddle.{NewPuddle}
use Rattle.registry.specs.Adding.{IsAddedWithin}
use Rattle.registry.specs.Placing.{puddle_of_added, added_classes}
use Rattle.pud_import.specs.Contents.{bases_held, classes_held}
use Rattle.pud_import.specs.Places.{with_steps, AreMembers}
use Rattle.pud_import.proofs.FilesPlaced.PlacedPuddles.{placed_whole, members_at, within_at}
use Rattle.pud_import.proofs.plan.find_puddles.Goals as goal

pub returns-clause-placed : goal.returns-clause-placed
returns-clause-placed g c = λ t image same.
    let tables = tables_of c.args.frames image in
    let wanted = bases_held c.args.view.now in
    let classes = classes_held c.args.view.now in
    let found = c.as_slice-puddles.result.now in
    let value = c.as_slice-puddles.ensures.value in
    let back = sym value in
    subst (λ (ps : List NewPuddle). ArePlaced tables c.args.number wanted classes (map puddle_of_added ps)) (sym (c.with_steps.ensures ∙ ap (λ (all : Bool). map (with_steps all) found) c.keep_bases.ensures))
    (placed_whole tables c.args.slot c.args.number wanted classes found (subst (AreMembers c.args.slot c.args.number) back c.in_ok-found.ensures.members)
    (subst (λ (ps : List NewPuddle). ArePlacedFrom tables 0 [] wanted (map puddle_of_added ps)) back (c.in_ok-found.ensures.turn t image same)) (ap added_classes value ∙ c.in_ok-found.ensures.classes))

pub returns-clause-members : goal.returns-clause-members
returns-clause-members g c =
    let member = AreMembers c.args.slot c.args.number in
    subst member (sym c.with_steps.ensures) (members_at c.keep_bases.result c.args.slot c.args.number c.as_slice-puddles.result.now (subst member (sym c.as_slice-puddles.ensures.value) c.in_ok-found.ensures.members))

pub returns-clause-within : goal.returns-clause-within
returns-clause-within g c =
    let inside = IsAddedWithin c.args.frames in
    All-same inside _ _ c.with_steps.ensures (within_at c.keep_bases.result c.args.frames c.as_slice-puddles.result.now (All-same inside _ _ c.as_slice-puddles.ensures.value c.in_ok-found.ensures.within))

pub returns-clause-count : goal.returns-clause-count
returns-clause-count g c = ap length c.with_steps.ensures ∙ length-map c.as_slice-puddles.result.now (with_steps c.keep_bases.result) ∙ ap length c.as_slice-puddles.ensures.value ∙ c.in_ok-found.ensures.count
