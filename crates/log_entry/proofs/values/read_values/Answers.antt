use Rattle.std.proofs.Common.{◌≡◌, ℕ, ◌+◌, List, [], ◌∷◌, ◌++◌, length, refl, sym, ap, ap₂, ◌∙◌, arith}
use Rattle.std.proofs.lemmas.List.{take_more_set, length-set}
use Rattle.pm_model.specs.Words.{reads}
use Rattle.pm_model.specs.Moments.{State}
use Rattle.pud_defs.proofs.Logging.Entries.{words_from-more, words_from-none}
use Rattle.pm_model.proofs.Reading.{OnlyReads-none, OnlyReads-then}
use Rattle.log_entry.proofs.values.read_values.Goals as goal

pub loop-i-init : goal.loop-i-init
loop-i-init g c = record {
  room = refl;
  only_reads = OnlyReads-none;
  taken = λ t. sym (words_from-none (reads (g.H.Host.state c.args.h.now).now.words) c.args.from 0 refl);
}

pub loop-i-preserved : goal.loop-i-preserved
loop-i-preserved g c =
    let l = c.loop-i in
    let room : length l.values ≡ 32 = l.invariant.room in
    record {
      room = length-set l.values l.i c.in_ok-values.field-0 ∙ room;
      only_reads = OnlyReads-then l.invariant.only_reads c.in_ok-values.ensures.only_reads;
      taken = λ t.
          let image = reads (g.H.Host.state c.args.h.now).now.words in
          let value : c.in_ok-values.field-0 ≡ image (c.args.from + l.i) = c.in_ok-values.ensures.value t ∙ ap (λ (s : State). reads s.now.words (c.args.from + l.i)) (l.invariant.only_reads.stays t) in
          take_more_set l.values l.i c.in_ok-values.field-0 (omega arith)
          ∙ ap₂ (λ (xs : List ℕ) (v : ℕ). xs ++ v ∷ []) (l.invariant.taken t) value
          ∙ sym (words_from-more image c.args.from l.i);
    }
