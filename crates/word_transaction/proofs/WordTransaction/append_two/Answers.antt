use Rattle.std.proofs.Common.{◌≡◌, Err, sym, ap, ◌∙◌}
use Rattle.pm_model.specs.Counts.{fault_of}
use Rattle.log_store.specs.Store.{append_fault}
use Rattle.log_store.specs.declared.AppendFault.TheVariants.{TooBig}
use Rattle.word_transaction.proofs.Saving.{KeepsRunning-append}
use Rattle.word_transaction.proofs.WordTransaction.append_two.Goals.{in-Ok, in-Err-Host}
use Rattle.word_transaction.proofs.WordTransaction.append_two.Goals as goal

pub returns-clause-runs : goal.returns-clause-runs
returns-clause-runs g c =
    let fault : append_fault c.append_two.result ≡ fault_of c.match-append_two.result = elim c.match-append_two.branch [
      | in-Ok w ↦ ap append_fault w.in-Ok.is ∙ sym (ap fault_of w.result-is)
      | in-Err-Host w ↦ ap append_fault (w.in-Err-Host.is ∙ ap Err w.in-Err-Host.field-0-is) ∙ sym (ap fault_of w.result-is)
    ] in
    let room : c.append_two.result ≡ Err TooBig → ⊥ = elim c.match-append_two.branch [
      | in-Ok w ↦ λ big. absurd (let it = sym w.in-Ok.is ∙ big in cc)
      | in-Err-Host w ↦ λ big. absurd (let it = ap Err (sym w.in-Err-Host.field-0-is) ∙ sym w.in-Err-Host.is ∙ big in cc)
    ] in
    rw (← fault, ← c.self.view_is) (λ t size is scope es before stands running may.
    KeepsRunning-append size scope _ es before _ _ _ _ _ stands running may room (c.append_two.ensures.changes t) (c.append_two.ensures.appends t es running.opened))
