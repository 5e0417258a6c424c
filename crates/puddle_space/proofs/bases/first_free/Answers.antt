use Rattle.std.proofs.Common.{false, IsSome, subst, sym, ◌∙◌, arith}
use Rattle.std.proofs.lemmas.List.Quantifiers.{position-Some}
use Rattle.puddle_space.proofs.Kept.{found_position}
use Rattle.puddle_space.proofs.bases.first_free.Goals as goal

pub unwrap-requires : goal.unwrap-requires
unwrap-requires c = subst IsSome (sym c.find_free.ensures) (found_position c.args.free.now c.requires)

pub returns-clause-tried : goal.returns-clause-tried
returns-clause-tried c =
    let found = position-Some (λ b. b) c.args.free.now c.unwrap.result false (sym c.find_free.ensures ∙ c.unwrap.ensures) in
    let within = found.0 in
    omega arith

pub returns-clause-free : goal.returns-clause-free
returns-clause-free c = (position-Some (λ b. b) c.args.free.now c.unwrap.result false (sym c.find_free.ensures ∙ c.unwrap.ensures)).1

pub returns-clause-lowest : goal.returns-clause-lowest
returns-clause-lowest c = (position-Some (λ b. b) c.args.free.now c.unwrap.result false (sym c.find_free.ensures ∙ c.unwrap.ensures)).2
