use Rattle.std.proofs.Common.{◌≡◌, ℕ, true, false, List, refl, sym, ap, ◌∙◌}
use Rattle.std.specs.Prelude.{is_some}
use Rattle.std.specs.Result.{is_ok}
use Rattle.pud_defs.specs.PoolGraphs.ExportFile.{file_graph}
use Rattle.daemon_memory.proofs.Commands.Keeping.{KeepsRest-changes}
use Rattle.pool_lines.proofs.FileTransfers.ImportRefusals.{fault_of_placing}
use Rattle.pool_lines.proofs.FileTransfers.ImportLines.{CarriesOut-bad_file, CarriesOut-view, stays_unplaced}
use Rattle.pool_lines.proofs.importing.place_bytes.Goals as goal

pub returns-in_default-clause-carries : goal.returns-in_default-clause-carries
returns-in_default-clause-carries g c = λ t size e w memory frames ready client file legal may given.
    let none : is_some (file_graph c.args.bytes.now) ≡ false = sym c.read_file.ensures.file ∙ ap is_ok c.in_default.is in
    CarriesOut-bad_file size w memory _ _ ready client c.args.uid c.args.gid c.args.mode c.args.name file may c.args.bytes.now given none refl _ _ refl

pub returns-clause-carries : goal.returns-clause-carries
returns-clause-carries g c = rw c.reply_of_placing.ensures (λ t size e w memory frames ready client file legal may given.
    let n = c.place.ensures in
    let there : is_some (file_graph c.args.bytes.now) ≡ true = sym c.read_file.ensures.file ∙ ap is_ok c.in-Ok.is in
    CarriesOut-view size w memory _ _ ready client c.args.uid c.args.gid c.args.mode c.args.name file may c.args.bytes.now given legal there c.in-Ok.view c.in-Ok.ensures.view c.place.result c.args.frames (sym frames ∙ ready.frames)
    (n.any t).rests (KeepsRest-changes _ _ _ _ (n.any t))
    (λ contents holds idle absent none. n.commits t _ refl idle contents holds absent none)
    (λ contents holds places. n.places t size e w.stored contents ready.mask holds places)
    (λ contents holds absent refused. n.unchanged t _ refl contents holds absent refused)
    (λ contents holds none absent. n.refusal t _ refl none contents holds absent)
    _ _ n.cause)

pub returns-clause-unchanged : goal.returns-clause-unchanged
returns-clause-unchanged g c = rw c.reply_of_placing.ensures (λ t size w memory frames ready client may.
    let n = c.place.ensures in
    let there : is_some (file_graph c.in-Ok.view) ≡ true = ap (λ (bytes : List ℕ). is_some (file_graph bytes)) c.in-Ok.ensures.view ∙ sym c.read_file.ensures.file ∙ ap is_ok c.in-Ok.is in
    stays_unplaced size w memory _ _ ready client c.args.uid c.args.gid c.args.name may c.in-Ok.view there c.place.result c.args.frames (sym frames ∙ ready.frames)
    (λ contents holds none absent. n.refusal t _ refl none contents holds absent)
    (λ contents holds absent refused. n.unchanged t _ refl contents holds absent refused))

pub returns-clause-rest : goal.returns-clause-rest
returns-clause-rest g c = λ t. KeepsRest-changes _ _ _ _ (c.place.ensures.any t)

pub returns-clause-rested : goal.returns-clause-rested
returns-clause-rested g c = rw (c.reply_of_placing.ensures, fault_of_placing c.place.result) (λ t. (c.place.ensures.any t).rests)

pub returns-clause-cause : goal.returns-clause-cause
returns-clause-cause g c = rw (c.reply_of_placing.ensures, fault_of_placing c.place.result) c.place.ensures.cause
