use Rattle.std.proofs.Common.{inl, option_map, sym, ap, ◌∙◌}
use Rattle.pm_model.proofs.Reading.{still_reads}
use Rattle.puddle_header.specs.Places.{place_of_slot}
use Rattle.pool_transaction.proofs.refusals.place_known.Goals as goal

pub returns-in-Some-2-clause-found : goal.returns-in-Some-2-clause-found
returns-in-Some-2-clause-found g c = λ t legal image same known.
    (sym (c.in_ok-at.ensures.found t image (still_reads c.in_ok-word.ensures.only_reads t same) known) ∙ ap (option_map place_of_slot) c.in-Some-2.is, sym (c.in_ok-word.ensures.word t legal image same known) ∙ c.in-Some.is)

pub returns-in-None-clause-none : goal.returns-in-None-clause-none
returns-in-None-clause-none g c = λ t legal image same known none.
    inl (sym (c.in_ok-at.ensures.found t image (still_reads c.in_ok-word.ensures.only_reads t same) known) ∙ ap (option_map place_of_slot) c.in-None.is)
