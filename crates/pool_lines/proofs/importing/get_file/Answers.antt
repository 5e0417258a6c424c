use Rattle.std.proofs.Common.{ℕ, List, ◌++◌, sym, ap, subst, ◌∙◌}
use Rattle.std.specs.Str.{IsUtf8}
use Rattle.pud_defs.specs.Output.Listing.{name_text}
use Rattle.pool_lines.proofs.FileTransfers.FileNames.{IsUtf8-name_text}
use Rattle.pool_lines.proofs.importing.get_file.Goals as goal

pub unreachable-requires : goal.unreachable-requires
unreachable-requires g c =
    let is = c.as_slice.ensures.value ∙ c.add_name.ensures.name ∙ ap (λ (l : List ℕ). l ++ name_text c.args.file) c.new-name.ensures in
    c.in-Err.ensures.cases.0 (subst IsUtf8 (sym is) (IsUtf8-name_text c.args.file c.requires))
