use Rattle.std.proofs.Common.{◌≡◌, true, is_some, sym, ap, ◌∙◌}
use Rattle.pud_defs.specs.PoolGraphs.ExportFile.{file_graph}
use Rattle.pud_import.specs.Contents.{version_read, type_count_read, puddle_count_read}
use Rattle.pud_import.proofs.FileChecks.FileParts.{file_judged, file_refused, exportable, contents_of_file}
use Rattle.pud_import.proofs.file_view.read_file.Goals as goal
use Rattle.pud_import.proofs.file_view.read_file.Goals.{in_default-via-in-Some+else-is_sound, in_default-via-in_default}

-- the bytes that the view keeps are a file
kept : (c : goal.After-file-then-is_sound-1) → is_some (file_graph c.in-Some.file.bytes.now) ≡ true
kept c =
    let f = c.in-Some.file in
    let size = sym c.in-Some.ensures.sized in
    ap (λ bs. is_some (file_graph bs)) c.in-Some.ensures.bytes
    ∙ file_judged c.args.bytes.now f.bytes.now f.version f.types f.puddles c.is_sound.result c.in-Some.ensures.bytes c.in-Some.ensures.version c.in-Some.ensures.types c.in-Some.ensures.puddles size c.is_sound.ensures
    ∙ c.if-is_sound.true

pub invariant_of-result : goal.invariant_of-result
invariant_of-result c =
    let own = sym c.in-Some.ensures.bytes in
    (kept c, c.in-Some.ensures.version ∙ ap version_read own, c.in-Some.ensures.types ∙ ap type_count_read own, c.in-Some.ensures.puddles ∙ ap puddle_count_read own)

pub returns-in-Some-clause-file : goal.returns-in-Some-clause-file
returns-in-Some-clause-file c = sym (ap (λ bs. is_some (file_graph bs)) (sym c.in-Some.ensures.bytes) ∙ kept c)

pub returns-in-Some-clause-contents : goal.returns-in-Some-clause-contents
returns-in-Some-clause-contents c = ap file_graph (sym c.in-Some.ensures.bytes) ∙ contents_of_file c.in-Some.file.bytes.now (kept c)

pub returns-in-Some-clause-legal : goal.returns-in-Some-clause-legal
returns-in-Some-clause-legal c = exportable c.in-Some.file.bytes.now (kept c)

pub returns-in_default-clause-file : goal.returns-in_default-clause-file
returns-in_default-clause-file c = elim c.in_default.branch [
  | in_default-via-in-Some+else-is_sound w ↦
      let f = w.in-Some.file in
      let size = sym w.in-Some.ensures.sized in
      sym (file_judged c.args.bytes.now f.bytes.now f.version f.types f.puddles w.is_sound.result w.in-Some.ensures.bytes w.in-Some.ensures.version w.in-Some.ensures.types w.in-Some.ensures.puddles size w.is_sound.ensures ∙ w.if-is_sound.false)
  | in_default-via-in_default w ↦ sym (file_refused c.args.bytes.now (sym w.in_default.ensures.sized))
]
