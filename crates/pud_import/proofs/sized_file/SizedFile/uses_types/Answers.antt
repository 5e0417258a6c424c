use Rattle.std.proofs.Common.{ℕ, sym, ap, ◌∙◌, arith}
use Rattle.std.specs.List.{list_all}
use Rattle.pud_defs.specs.PoolGraphs.ExportFile.{file_type}
use Rattle.pud_import.specs.Contents.{is_used_in}
use Rattle.pud_import.specs.Sized.{image_of_file, stored_of}
use Rattle.pud_import.proofs.FileChecks.Numbered.{from_number-start, from_number-end, list_all-more, list_all-fails}
use Rattle.pud_import.proofs.sized_file.SizedFile.uses_types.Goals as goal

pub loop-i-init : goal.loop-i-init
loop-i-init c =
    let test = λ (t : ℕ × ℕ). is_used_in (stored_of c.args.self.now) t.0 in
    ap (list_all test) (from_number-start (file_type (image_of_file c.args.self.now)) c.args.self.now.types)

pub returns-then-not-is_used : goal.returns-then-not-is_used
returns-then-not-is_used c =
    let test = λ (t : ℕ × ℕ). is_used_in (stored_of c.args.self.now) t.0 in
    sym (c.loop-i.invariant
    ∙ list_all-fails test (file_type (image_of_file c.args.self.now)) c.loop-i.i c.args.self.now.types c.type_at-id.result c.loop-i-test.true c.type_at-id.ensures (sym c.is_used.ensures ∙ c.if-not-is_used.true))

pub loop-i-preserved : goal.loop-i-preserved
loop-i-preserved c =
    let test = λ (t : ℕ × ℕ). is_used_in (stored_of c.args.self.now) t.0 in
    c.loop-i.invariant
    ∙ list_all-more test (file_type (image_of_file c.args.self.now)) c.loop-i.i c.args.self.now.types c.type_at-id.result c.loop-i-test.true c.type_at-id.ensures (sym c.is_used.ensures ∙ c.if-not-is_used.false)

pub returns : goal.returns
returns c =
    let test = λ (t : ℕ × ℕ). is_used_in (stored_of c.args.self.now) t.0 in
    let past = c.loop-i-test.false in
    sym (c.loop-i.invariant ∙ ap (list_all test) (from_number-end (file_type (image_of_file c.args.self.now)) c.loop-i.i c.args.self.now.types (omega arith)))
