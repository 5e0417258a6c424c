use Rattle.std.proofs.Common.{◌&&◌, sym, ap, ◌∙◌}
use Rattle.pud_import.specs.Sized.{image_of_file, types_in}
use Rattle.pud_import.proofs.FileChecks.Plainness.{is_plain-joined}
use Rattle.pud_import.proofs.sized_file.SizedFile.is_plain.Goals as goal

pub returns-then-headers : goal.returns-then-headers
returns-then-headers c =
    let f = c.args.self.now in
    let headers = c.has_plain_headers-headers in
    let slots = c.has_plain_slots-slots in
    ap (λ b. b && slots.result) (sym c.if-headers.true) ∙ is_plain-joined (types_in f) (image_of_file f) f.version f.types f.puddles headers.result slots.result headers.ensures slots.ensures

pub returns-else-headers : goal.returns-else-headers
returns-else-headers c =
    let f = c.args.self.now in
    let headers = c.has_plain_headers-headers in
    let slots = c.has_plain_slots-slots in
    c.if-headers.false
    ∙ ap (λ b. b && slots.result) (sym c.if-headers.false) ∙ is_plain-joined (types_in f) (image_of_file f) f.version f.types f.puddles headers.result slots.result headers.ensures slots.ensures
