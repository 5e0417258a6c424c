use Rattle.std.proofs.Common.{◌≡◌, ℕ, ◌++◌, List, length, get_or, Some, refl, ap, ◌∙◌, arith}
use Rattle.std.specs.Prelude.{set, slice_get, take}
use Rattle.std.specs.List.{refill}
use Rattle.std.proofs.lemmas.List.{append-nil, take_all, drop_all, length-set}
use Rattle.std.proofs.lemmas.Option.{get_or_from_slice_get}
use Rattle.pud_defs.specs.declared.records.Puddle.{Puddle}
use Rattle.pud_defs.specs.RegistryTables.Puddles.{moved_to}
use Rattle.puddle_table.proofs.places.Puddles.move_frontier.Goals as goal

-- A list that is refilled with a copy of itself, with one element set, is that copy.
refilled : {X : Type 0} (xs : List X) (i : ℕ) (x : X) → refill (length xs) xs (set xs i x) ≡ set xs i x
refilled xs i x =
    let same = length-set xs i x in
    ap (λ ys. take (length xs) (set xs i x ++ ys)) (drop_all (length (set xs i x)) xs (omega arith)) ∙ ap (take (length xs)) (append-nil (set xs i x)) ∙ take_all (length xs) (set xs i x) (omega arith)

moved : (items lent seen puddles : List (ℕ × Puddle)) (i from to : ℕ) (d e : ℕ × Puddle) → lent ≡ items → seen ≡ items → items ≡ puddles → from ≡ to → slice_get puddles i ≡ Some e
    → refill (length items) items (set lent i ((get_or seen i d).0, moved_to from (get_or seen i d).1)) ≡ set puddles i (e.0, moved_to to e.1)
moved items lent seen puddles i from to d e is_lent is_seen view value there =
    let element : get_or seen i d ≡ e = ap (λ (xs : List (ℕ × Puddle)). get_or xs i d) (is_seen ∙ view) ∙ get_or_from_slice_get puddles i e d there in
    ap (λ (xs : List (ℕ × Puddle)). refill (length items) items (set xs i ((get_or seen i d).0, moved_to from (get_or seen i d).1))) is_lent
    ∙ refilled items i ((get_or seen i d).0, moved_to from (get_or seen i d).1)
    ∙ ap (λ (x : ℕ × Puddle). set items i (x.0, moved_to from x.1)) element
    ∙ ap (λ (n : ℕ). set items i (e.0, moved_to n e.1)) value
    ∙ ap (λ (xs : List (ℕ × Puddle)). set xs i (e.0, moved_to to e.1)) view

-- Only the frontier of this puddle changes.
pub returns : goal.returns
returns c e there =
    moved c.self.inside.puddles.items c.as_mut_slice.result.now c.as_slice.result.now c.args.self.now c.args.ordinal c.args.to c.args.to (0, record { number = 0; base = 0; old_base = 0; frontier = 0; class = 0 }) e
    c.as_mut_slice.ensures.value c.as_slice.ensures.value c.self.view_is refl there
