use Rattle.std.proofs.Common.{ℕ, ◌<◌, ap, subst, sym, arith}
use Rattle.pud_import.specs.Contents.{file_image, type_count_read}
use Rattle.pud_import.proofs.FileChecks.FileParts.{types_legal}
use Rattle.pud_import.proofs.FileChecks.TypesLegal.{legal_id}
use Rattle.pud_import.proofs.file_view.FileView.type_at.Goals as goal

pub overflow_cast-result : goal.overflow_cast-result
overflow_cast-result c =
    let bytes = c.self.inside.file.bytes.now in
    let id = legal_id (file_image bytes) (type_count_read bytes) (types_legal bytes c.self.invariant.0) c.args.i (subst (λ bs. c.args.i < type_count_read bs) (sym c.self.view_is) c.requires) in
    let most = id.most in
    let same = ap (λ (t : ℕ × ℕ). t.0) c.type_at-id.ensures in
    omega arith
