-- Puddles that are added: what their changes make of the tables, and why a new puddle is legal and has a base of its
-- own.
use Rattle.std.proofs.Common.{◌≡◌, inl, inr, ℕ, ◌+◌, ◌^◌, ◌<◌, ◌≤◌, true, false, not, ◌&&◌, eqb, List, [], ◌∷◌, Option, Some, None, option_map, nat_cmp, refl, sym, ap, ◌∙◌, arith, le-leb, lt-ltb, eq-eqb, ne_eqb}
use Rattle.std.specs.Prelude.{⊤}
use Rattle.std.specs.Cmp.{unsigned_tied}
use Rattle.std.proofs.lemmas.Bool.{cases_eq, cases_Bool, cond-true, cond-false, and_parts, and_from, leb-true}
use Rattle.pud_defs.specs.declared.layout.TheConstants.{NEXT_NUMBER_WORD, PUDDLE_TABLE}
use Rattle.pud_defs.specs.declared.records.TheConstants.{POOL_RECORDS}
use Rattle.pud_defs.specs.declared.space.TheConstants.{CLASSES}
use Rattle.pud_defs.specs.declared.records.Puddle.{Puddle}
use Rattle.pud_defs.specs.Formats.Geometry.{class_steps, steps_of, is_legal_class, is_legal_frontier}
use Rattle.pud_defs.specs.Formats.Bases.{is_legal_base}
use Rattle.pud_defs.specs.Formats.Image.{Image}
use Rattle.pud_defs.specs.RegistryTables.Keyed.{under}
use Rattle.pud_defs.specs.RegistryTables.Places.{has_other_bases, IsLowestBase}
use Rattle.pud_defs.specs.RegistryTables.Pools.{is_given}
use Rattle.pud_defs.specs.RegistryTables.Puddles.{Member, is_legal_puddle}
use Rattle.pud_defs.specs.RegistryTables.Puts.{with_put, puddle_put, member_by, with_puddle_at}
use Rattle.pud_defs.specs.RegistryTables.Spaces.{all_below}
use Rattle.pud_defs.specs.RegistryTables.Tables.{Tables, tables_of, member_of}
use Rattle.pud_defs.proofs.Formats.Geometry.{few_slots}
use Rattle.pud_defs.proofs.KeyedTables.Keyed.{under_apart}
use Rattle.pud_defs.proofs.RegistryTables.PutsMade.{with_put-outside, with_put-inside, puddle_put_made}
use Rattle.pud_defs.proofs.RegistryTables.Spaces.{all_below-each}
use Rattle.pud_defs.proofs.RegistryTables.TablesOf.{tables_of-same}
use Rattle.registry.specs.declared.adding.NewPuddle.{NewPuddle}
use Rattle.registry.specs.Puts.{AreOfPools, number_put, with_puts}
use Rattle.registry.specs.Adding.{IsNewPuddle, puddle_records, adding}

-- ---- what their changes make

-- their frames are among F frames, and their pools are in the table
abbrev pub AreWithin : ℕ → List NewPuddle → Type 0
AreWithin F [] = ⊤
AreWithin F (a ∷ all) = (a.frame < F) × (a.puddle.pool < POOL_RECORDS) × AreWithin F all

-- their frontiers fit into the parts of words that store them
abbrev pub HaveFrontiers : List NewPuddle → Type 0
HaveFrontiers [] = ⊤
HaveFrontiers (a ∷ all) = (a.puddle.frontier < 2 ^ 32) × HaveFrontiers all

-- the tables with their records
abbrev pub with_added : List NewPuddle → Tables → Tables
with_added [] t = t
with_added (a ∷ all) t = with_added all (with_puddle_at a.frame (Some (member_by a.puddle)) t)

records_of : (F : ℕ) (all : List NewPuddle) → AreWithin F all → AreOfPools F (puddle_records all)
records_of F [] within = tt
records_of F (a ∷ all) within = let below = within.0 in (inr (inr (record { low = omega arith; high = omega arith; some = omega arith; fits = omega arith })), records_of F all within.2)

-- the changes that add puddles write only words of pools
pub adding_of : (F next : ℕ) (all : List NewPuddle) → AreWithin F all → AreOfPools F (adding next all)
adding_of F next all within = (inl (record { low = omega arith; high = omega arith; some = omega arith; fits = omega arith }), records_of F all within)

records_front : (all : List NewPuddle) (i : Image) (k : ℕ) → k < PUDDLE_TABLE → with_puts (puddle_records all) i k ≡ i k
unfolding with_puts
records_front [] i k below = refl
records_front (a ∷ all) i k below = records_front all (with_put (puddle_put a.frame a.puddle) i) k below ∙ with_put-outside (puddle_put a.frame a.puddle) i k (λ low high. omega arith)

pub adding_next : (next : ℕ) (all : List NewPuddle) (i : Image) → with_puts (adding next all) i NEXT_NUMBER_WORD ≡ next
unfolding with_puts
adding_next next all i =
    records_front all (with_put (number_put next) i) NEXT_NUMBER_WORD (omega arith)
    ∙ with_put-inside (number_put next) i NEXT_NUMBER_WORD 0 (omega arith) (omega arith)

records_tables : (F : ℕ) (all : List NewPuddle) (i : Image) → AreWithin F all → HaveFrontiers all → tables_of F (with_puts (puddle_records all) i) ≡ with_added all (tables_of F i)
unfolding with_puts
records_tables F [] i within fit = refl
records_tables F (a ∷ all) i within fit =
    let few = within.1 in
    records_tables F all (with_put (puddle_put a.frame a.puddle) i) within.2 fit.1
    ∙ ap (with_added all) (puddle_put_made F i a.frame a.puddle within.0 (record { pool = omega arith; frontier = fit.0 }))

pub adding_tables : (F next : ℕ) (all : List NewPuddle) (i : Image) → AreWithin F all → HaveFrontiers all → tables_of F (with_puts (adding next all) i) ≡ with_added all (tables_of F i)
unfolding with_puts
adding_tables F next all i within fit =
    let put = number_put next in
    records_tables F all (with_put put i) within fit
    ∙ ap (with_added all) (tables_of-same F (with_put put i) i (λ k low high. with_put-outside put i k (λ from to. omega arith)) (λ k low high. with_put-outside put i k (λ from to. omega arith)))

-- ---- a new puddle

pub given : (later number : ℕ) → 1 ≤ number → number < later → is_given later number ≡ true
given later number low high = and_from _ _ (le-leb 1 number low) (lt-ltb number later high)

pub other_base : (base frame : ℕ) (o : Option Member) → has_other_bases base o ≡ true → under nat_cmp base (option_map (λ m. (m.puddle.base, frame)) o) ≡ None
other_base base frame None other = refl
other_base base frame (Some m) other =
    let parts = and_parts (not (eqb m.puddle.base base)) (not (eqb m.puddle.old_base base)) other in
    elim (cases_eq m.puddle.base base) [
      | inl e ↦ absurd (let no : false ≡ true = sym (ap not (eq-eqb m.puddle.base base e)) ∙ parts.0 in cc)
      | inr apart ↦ under_apart nat_cmp base (m.puddle.base, frame) (unsigned_tied base m.puddle.base ∙ ne_eqb base m.puddle.base (λ e. apart (sym e)))
    ]

pub other_old_base : (base slot frame : ℕ) (o : Option Member) → has_other_bases base o ≡ true → under nat_cmp base (option_map (λ p. (p.1.1.old_base, frame)) (member_of slot frame o)) ≡ None
other_old_base base slot frame None other = refl
other_old_base base slot frame (Some m) other =
    let parts = and_parts (not (eqb m.puddle.base base)) (not (eqb m.puddle.old_base base)) other in
    elim (cases_Bool (eqb m.pool (slot + 1))) [
      | inl of ↦ ap (λ o. under nat_cmp base (option_map (λ p. (p.1.1.old_base, frame)) o)) (cond-true _ (Some (m.ordinal, (frame, m.puddle))) None of) ∙ elim (cases_eq m.puddle.old_base base) [
        | inl e ↦ absurd (let no : false ≡ true = sym (ap not (eq-eqb m.puddle.old_base base e)) ∙ parts.1 in cc)
        | inr apart ↦ under_apart nat_cmp base (m.puddle.old_base, frame) (unsigned_tied base m.puddle.old_base ∙ ne_eqb base m.puddle.old_base (λ e. apart (sym e)))
      ]
      | inr not_of ↦ ap (λ o. under nat_cmp base (option_map (λ p. (p.1.1.old_base, frame)) o)) (cond-false _ (Some (m.ordinal, (frame, m.puddle))) None not_of)
    ]

-- no puddle has this base as its base or as its old base
pub others_bases : (t : Tables) (base : ℕ) → IsLowestBase t [] base → (f : ℕ) → f < t.frames → has_other_bases base (t.puddles f) ≡ true
others_bases t base lowest f below =
    all_below-each t.frames (λ frame. has_other_bases base (t.puddles frame)) (and_parts true (all_below t.frames (λ frame. has_other_bases base (t.puddles frame))) lowest.free).1 f below

-- A new puddle has few steps.
pub frontier_of_new : (t : Tables) (slot ordinal number : ℕ) (a : NewPuddle) → IsNewPuddle t slot ordinal number a → a.puddle.frontier < 2 ^ 32
frontier_of_new t slot ordinal number a new = let few = few_slots a.puddle.class in omega (arith, new.frontier)

-- So has a legal one.
pub frontier_of_legal : (next : ℕ) (d : Puddle) → is_legal_puddle next d ≡ true → d.frontier < 2 ^ 32
frontier_of_legal next d legal =
    let kind = (and_parts (is_given next d.number && is_legal_base d.base && is_legal_base d.old_base) (is_legal_class d && is_legal_frontier d) legal).1 in
    let most = leb-true d.frontier (steps_of d) (and_parts (is_legal_class d) (is_legal_frontier d) kind).1 in
    let few = few_slots d.class in
    omega arith

-- a new puddle is legal once its number is given out
pub legal_new : (t : Tables) (slot ordinal number later : ℕ) (a : NewPuddle) → IsNewPuddle t slot ordinal number a → 1 ≤ number → number < later → is_legal_puddle later (member_by a.puddle).puddle ≡ true
legal_new t slot ordinal number later a new low high =
    let is = new.number_is in
    and_from _ _ (and_from _ _ (and_from _ _ (given later a.puddle.number (omega arith) (omega arith)) new.base.legal) (ap is_legal_base new.old_base ∙ new.base.legal))
    (and_from _ _ (lt-ltb a.puddle.class CLASSES new.class) (le-leb a.puddle.frontier (class_steps a.puddle.class) (omega (arith, new.frontier))))
