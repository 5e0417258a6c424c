use Rattle.std.proofs.Common.{◌≡◌, ◌<◌, ℕ, true, List, Some, option_map, IfOk, IfSome, sym, ap, subst, ◌∙◌}
use Rattle.pud_defs.specs.declared.records.Puddle.{Puddle}
use Rattle.puddle_header.specs.Places.{place_of_slot, places_in, is_slot_in}
use Rattle.graph_read.specs.Reading.{place_in_pool}
use Rattle.graph_read.proofs.Found.{none_in_graph}
use Rattle.known_pool.specs.Known.{Known, index_entries}
use Rattle.known_pool.proofs.Asking.{none_mapped, place_within, place_is_slot, found_place}
use Rattle.known_pool.proofs.KnownPool.find.Goals as goal

pub returns-in-Some-clause-found : goal.returns-in-Some-clause-found
returns-in-Some-clause-found g c = λ t image same known.
    let F = c.args.frames in
    let s = c.args.s in
    let kept : c.args.self.now.placed ≡ Some (index_entries c.in-Some.index) = ap (λ (k : Known). k.placed) (sym c.self.view_is) ∙ ap (option_map index_entries) c.in-Some.is in
    let puddles : c.as_slice.result.now ≡ c.args.self.now.puddles = c.as_slice.ensures.puddles ∙ ap (λ (k : Known). k.puddles) c.self.view_is in
    c.slot_of.ensures.slot (place_in_pool F c.args.self.now.puddles image s) (c.find.ensures ∙ found_place F image c.args.self.now known s c.in-Some.index kept)
    (subst (λ (at : List (ℕ × Puddle)). IfSome (place_in_pool F c.args.self.now.puddles image s) (λ p. p < places_in at)) (sym puddles) (place_within F image c.args.self.now known s))
    (subst (λ (at : List (ℕ × Puddle)). IfSome (place_in_pool F c.args.self.now.puddles image s) (λ p. is_slot_in at p ≡ true)) (sym puddles) (place_is_slot F image c.args.self.now known s))

pub returns-in-Some-clause-object : goal.returns-in-Some-clause-object
returns-in-Some-clause-object g c = λ t image same known graph stored.
    none_mapped place_of_slot c.slot_of.result
    ∙ none_in_graph c.args.frames c.args.self.now.puddles image graph c.args.s (option_map place_of_slot c.slot_of.result) stored (returns-in-Some-clause-found g c t image same known)

pub returns-in-None-clause-found : goal.returns-in-None-clause-found
returns-in-None-clause-found g c = λ t image same known.
    subst (λ (at : List (ℕ × Puddle)). IfOk c.find_serial.result (λ found. option_map place_of_slot found ≡ place_in_pool c.args.frames at image c.args.s))
    (c.as_slice-in-None.ensures.puddles ∙ ap (λ (k : Known). k.puddles) c.self.view_is) (c.find_serial.ensures.found t image same)
