-- Why no place is found for a new puddle or a new pool, or why the place that is found is the right one.
use Rattle.std.proofs.Common.{◌≡◌, ℕ, ◌+◌, ◌-◌, ◌≤◌, Bool, true, false, not, ◌||◌, cond, List, Option, Some, None, Ok, Err, is_some, is_none, refl, sym, ap, ◌∙◌, arith}
use Rattle.std.proofs.lemmas.Bool.{le-ltb}
use Rattle.pud_defs.specs.declared.layout.TheConstants.{NEXT_NUMBER_WORD, NUMBER_LIMIT}
use Rattle.pud_defs.specs.declared.space.TheConstants.{FIRST_CLASS}
use Rattle.pud_defs.specs.declared.machine.Refusal.TheVariants as refusals
use Rattle.pud_defs.specs.declared.records.TheConstants.{POOL_RECORDS}
use Rattle.pud_defs.specs.RegistryTables.Keyed.{first_free}
use Rattle.pud_defs.specs.Formats.Image.{Image}
use Rattle.pud_defs.specs.RegistryTables.Tables.{Tables, tables_of, pool_in}
use Rattle.pud_defs.proofs.RegistryTables.TablesOf.{frames_of_tables}
use Rattle.pud_defs.specs.StateMachine.PoolChanges.{NUMBERS_DRAWN, lacks_numbers}
use Rattle.pool_table.specs.LookUp.{slot_for}
use Rattle.pool_table.proofs.Lookups.{slot_found, lowest_free, found_free}
use Rattle.puddle_table.specs.declared.PuddleFault.{PuddleFault}
use Rattle.puddle_table.specs.declared.PuddleFault.TheVariants as puddles
use Rattle.puddle_table.specs.Records.{fault_in, frame_by}
use Rattle.registry.specs.declared.adding.NewPuddle.{NewPuddle}
use Rattle.registry.specs.declared.making.MakeFault.TheVariants as faults
use Rattle.registry.specs.Adding.{IsNewPuddle}
use Rattle.registry.specs.Growth.{has_room_to_grow, grow_refusal}
use Rattle.registry.specs.Places.{make_fault, of_puddle_fault, make_refusal, IsFirstFor}

-- ---- a frame

pub all_frames : (F : ℕ) (image : Image) → (tables_of F image).frames ≡ F - 0
all_frames F image = omega (arith, frames_of_tables F image)

-- if no frame was found, none is free
pub no_frame_found : (o : Option ℕ) (f : PuddleFault) → f ≡ puddles.NoSpace → (fault_in {A = ℕ} (Err f) ≡ None → Err f ≡ frame_by o) → o ≡ None
no_frame_found None f is none = refl
no_frame_found (Some frame) f is none = absurd (let no : Err f ≡ Ok frame = none (ap (λ (x : PuddleFault). fault_in {A = ℕ} (Err x)) is) in cc)

-- ---- a pool that grows

module _ (t : Tables) (next puddles number : ℕ) (read : number ≡ next) where
  by_number : grow_refusal t next puddles ≡ cond (not (has_room_to_grow puddles number)) (Some refusals.Full) (cond (is_none (first_free t.puddles 0 t.frames)) (Some refusals.Space) None)
  by_number = ap (grow_refusal t next) refl ∙ ap (λ (n : ℕ). grow_refusal t n puddles) (sym read)

  pub refused_full : has_room_to_grow puddles number ≡ false → Some refusals.Full ≡ grow_refusal t next puddles
  refused_full full = sym (by_number ∙ ap (λ (b : Bool). cond (not b) (Some refusals.Full) (cond (is_none (first_free t.puddles 0 t.frames)) (Some refusals.Space) None)) full)

  module _ (room : has_room_to_grow puddles number ≡ true) where
    by_frame : (o : Option ℕ) → first_free t.puddles 0 t.frames ≡ o → grow_refusal t next puddles ≡ cond (is_none o) (Some refusals.Space) None
    by_frame o is = by_number ∙ (λ p. cond (not (room p)) (Some refusals.Full) (cond (is_none (is p)) (Some refusals.Space) None))

    pub refused_space : first_free t.puddles 0 t.frames ≡ None → Some refusals.Space ≡ grow_refusal t next puddles
    refused_space is = sym (by_frame None is)

    pub not_refused : (frame : ℕ) → first_free t.puddles 0 t.frames ≡ Some frame → None ≡ grow_refusal t next puddles
    not_refused frame is = sym (by_frame (Some frame) is)

-- ---- a pool that is made

-- enough UUID numbers are left
enough : (number : ℕ) → number ≤ NUMBER_LIMIT - NUMBERS_DRAWN → lacks_numbers number ≡ false
enough number few = le-ltb NUMBER_LIMIT (number + NUMBERS_DRAWN) (omega arith)

module _ (F : ℕ) (image : Image) (name : List ℕ) (slot number : ℕ) (found : Ok slot ≡ slot_for (tables_of F image) name) (read : number ≡ image NEXT_NUMBER_WORD)
    (few : number ≤ NUMBER_LIMIT - NUMBERS_DRAWN) where
  abbrev t : Tables
  t = tables_of F image

  abbrev next : ℕ
  next = image NEXT_NUMBER_WORD

  absent : pool_in t name ≡ None
  absent = found_free t name slot (slot_found t name slot found)

  lowest_slot : first_free t.pools 0 POOL_RECORDS ≡ Some slot
  lowest_slot = lowest_free t name slot (slot_found t name slot found)

  enough_left : lacks_numbers next ≡ false
  enough_left = ap lacks_numbers (sym read) ∙ enough number few

  refused_by : (frame : Option ℕ) → first_free t.puddles 0 t.frames ≡ frame → make_refusal t next name ≡ cond (is_none frame) (Some faults.NoSpace) None
  refused_by frame is =
      let none = absent in let some = lowest_slot in let numbers = enough_left in
      λ p. cond (is_some (none p)) (Some faults.Exists) (cond (is_none (some p) || numbers p) (Some faults.Full) (cond (is_none (is p)) (Some faults.NoSpace) None))

  -- a pool is refused because no frame is free
  pub refused_for_space : (f : PuddleFault) → make_fault {T = NewPuddle} (Err (of_puddle_fault f)) ≡ None → (f ≡ puddles.NoSpace → first_free t.puddles 0 t.frames ≡ None) → Some (of_puddle_fault f) ≡ make_refusal t next name
  refused_for_space puddles.NoSpace none told = sym (refused_by None (told refl))
  refused_for_space (puddles.Host fault) none told = absurd (let no : Some fault ≡ None = none in cc)

  module _ (a : NewPuddle) (new : IsNewPuddle t slot 0 (number + 1) a) where
    -- nothing prevents the pool
    pub makes_first : None ≡ make_refusal t next name
    makes_first = sym (refused_by (Some a.frame) new.frame)

    pub first_is : a.puddle.class ≡ FIRST_CLASS → IsFirstFor t next name a
    first_is class = record {
      slot = lowest_slot ∙ ap (λ (n : ℕ). Some n) (sym new.slot_is);
      puddle = record {
        frame = new.frame;
        base = new.base;
        slot_is = refl;
        ordinal_is = new.ordinal_is;
        number_is = new.number_is ∙ ap (λ (n : ℕ). n + 1) read;
        old_base = new.old_base;
        class = new.class;
        frontier = new.frontier;
      };
      enough = enough_left;
      absent = absent;
      class = class;
    }
