use Rattle.std.proofs.Common.{Bool, ◌||◌, ap₂, ◌∙◌}
use Rattle.pud_import.proofs.new_places.is_taken.Goals as goal

pub returns-clause-taken : goal.returns-clause-taken
returns-clause-taken g c = λ t image same.
    c.either.ensures
    ∙ ap₂ (λ (a b : Bool). a || b) c.is_among-given.ensures
    (c.in_ok-held.ensures.taken t image same)
