use Rattle.pud_import.proofs.RoundTrip.Returned.{is_read, is_held, is_exported, is_ordered}
use Rattle.pud_import.proofs.laws.imported_pool_is_exported_as_its_file.Goals as goal

pub returns : goal.returns
returns c = record {
  read = λ w client name file mode free. is_read w client mode name file free;
  held = λ w client name file mode sorted free. is_held w client mode name file free sorted;
  exported = λ w client name file mode sorted free. is_exported w client mode name file free sorted;
  ordered = is_ordered;
}
