use Rattle.std.proofs.Common.{◌≡◌, ℕ, ◌+◌, List, [], ◌∷◌, ◌++◌, take, refl, sym, ap, ap₂, subst, ◌∙◌, arith}
use Rattle.std.proofs.lemmas.List.{take_more_set, length-set}
use Rattle.pm_model.specs.Words.{reads}
use Rattle.pm_model.specs.Moments.{State}
use Rattle.pm_model.proofs.Reading.{OnlyReads-none, OnlyReads-then}
use Rattle.pud_defs.specs.Logging.Entries.{words_from}
use Rattle.pud_defs.proofs.Logging.Entries.{words_from-more, words_from-none}
use Rattle.log_entry.proofs.copy.load_words.Goals as goal

pub loop-i-init : goal.loop-i-init
loop-i-init g c = record {
  kept = refl;
  only_reads = OnlyReads-none;
  taken = λ t. sym (words_from-none (reads (g.H.Host.state c.args.h.now).now.words) c.args.from 0 refl);
}

pub loop-i-preserved : goal.loop-i-preserved
loop-i-preserved g c =
    let l = c.loop-i in
    let row = l.row in
    let count = l.invariant.kept in
    record {
      kept = length-set row l.i c.in_ok-word.word ∙ count;
      only_reads = OnlyReads-then l.invariant.only_reads c.in_ok-word.ensures.only_reads;
      taken = λ t.
          let image = reads (g.H.Host.state c.args.h.now).now.words in
          let value : c.in_ok-word.word ≡ image (c.args.from + l.i) = c.in_ok-word.ensures.value t ∙ ap (λ (s : State). reads s.now.words (c.args.from + l.i)) (l.invariant.only_reads.stays t) in
          take_more_set row l.i c.in_ok-word.word (omega arith)
          ∙ ap₂ (λ (xs : List ℕ) (v : ℕ). xs ++ v ∷ []) (l.invariant.taken t) value
          ∙ sym (words_from-more image c.args.from l.i);
    }

pub returns-clause-copied : goal.returns-clause-copied
returns-clause-copied g c = λ t.
    let end : c.loop-i.i ≡ c.args.count = omega arith in
    subst (λ (n : ℕ). take n c.loop-i.row ≡ words_from (reads (g.H.Host.state c.args.h.now).now.words) c.args.from n) end (c.loop-i.invariant.taken t)
