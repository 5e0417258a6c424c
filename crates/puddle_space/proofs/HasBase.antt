-- Whether some puddle has a base, frame by frame.
use Rattle.std.proofs.Common.{◌≡◌, ℕ, ◌<◌, Bool, true, false, not, refl, sym, ap, ◌∙◌}
use Rattle.pud_defs.specs.Formats.Image.{Image}
use Rattle.pud_defs.specs.RegistryTables.Placement.{has_another_base}
use Rattle.pud_defs.specs.RegistryTables.Puddles.{puddle_at}
use Rattle.pud_defs.specs.RegistryTables.Spaces.{all_below}
use Rattle.pud_defs.specs.RegistryTables.Tables.{tables_of}
use Rattle.pud_defs.proofs.RegistryTables.Spaces.{all_below-same, all_below-fails}
use Rattle.pud_defs.proofs.RegistryTables.TablesOf.{frames_of_tables, puddles_below}

pub not_twice : (b : Bool) → not (not b) ≡ b
not_twice true = refl
not_twice false = refl

pub not_so : (b : Bool) → true ≡ not b → b ≡ false
not_so true is = is
not_so false is = refl

pub so : (b : Bool) → false ≡ not b → b ≡ true
so true is = refl
so false is = is

-- The test over the tables is the test over the records.
by_records : (F : ℕ) (image : Image) (base : ℕ) → all_below (tables_of F image).frames (λ frame. has_another_base base ((tables_of F image).puddles frame)) ≡ all_below F (λ frame. has_another_base base (puddle_at image frame))
by_records F image base =
    ap (λ n. all_below n (λ frame. has_another_base base ((tables_of F image).puddles frame))) (frames_of_tables F image)
    ∙ all_below-same F (λ frame. has_another_base base ((tables_of F image).puddles frame)) (λ frame. has_another_base base (puddle_at image frame)) (λ k below. ap (has_another_base base) (puddles_below F image k below))

pub base_found : (F : ℕ) (image : Image) (base frame : ℕ) → frame < F → true ≡ not (has_another_base base (puddle_at image frame))
    → true ≡ not (all_below (tables_of F image).frames (λ frame. has_another_base base ((tables_of F image).puddles frame)))
base_found F image base frame below has =
    sym (ap not (by_records F image base ∙ all_below-fails F frame (λ frame. has_another_base base (puddle_at image frame)) below (not_so (has_another_base base (puddle_at image frame)) has)))

pub no_base_found : (F : ℕ) (image : Image) (base : ℕ) → all_below F (λ frame. has_another_base base (puddle_at image frame)) ≡ true
    → false ≡ not (all_below (tables_of F image).frames (λ frame. has_another_base base ((tables_of F image).puddles frame)))
no_base_found F image base none = sym (ap not (by_records F image base ∙ none))
