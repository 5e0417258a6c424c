use Rattle.std.proofs.Common.{◌≡◌, ◌+◌, ap, ◌∙◌, arith}
use Rattle.pm_model.specs.Words.{reads}
use Rattle.pm_model.specs.Moments.{State}
use Rattle.pud_defs.specs.Formats.Image.{Image}
use Rattle.pud_defs.specs.declared.layout.TheConstants.{LOG_HEADER_WORDS}
use Rattle.pud_defs.specs.Logging.Entries.{gate_used, words_from}
use Rattle.log_entry.proofs.Copies.{copied_log}
use Rattle.log_entry.proofs.copy.LogCopy.load.Goals as goal

pub returns-clause-copied : goal.returns-clause-copied
returns-clause-copied g c = λ t image same.
    let gate = c.in_ok-gate.ensures.value t ∙ ap (λ (i : Image). i c.args.log_at) same in
    let here : reads (g.H.Host.state c.load.new.self).now.words ≡ image = ap (λ (s : State). reads s.now.words) (c.in_ok-gate.ensures.only_reads.stays t) ∙ same in
    copied_log image c.args.log_at _
    (record {
      gate = gate;
      count = c.min-used.result;
      counts = λ within. let counted : c.gate_used.result ≡ gate_used (image c.args.log_at) = c.gate_used.ensures ∙ ap gate_used gate in omega arith;
      fits = omega (arith, c.self.invariant);
      words = c.in_ok-load_words.ensures.copied t ∙ ap (λ (i : Image). words_from i (c.args.log_at + LOG_HEADER_WORDS) c.min-used.result) here;
    })
