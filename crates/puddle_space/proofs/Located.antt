-- The place of an address, record by record.
use Rattle.std.proofs.Common.{◌≡◌, ℕ, zero, suc, ◌+◌, ◌-◌, ◌<◌, ◌≤◌, Option, Some, None, option_map, refl, sym, ap, ap₂, ◌∙◌, arith}
use Rattle.std.specs.Option.{option_or}
use Rattle.pud_defs.specs.Formats.Image.{Image}
use Rattle.pud_defs.specs.RegistryTables.Puddles.{Member, puddle_at}
use Rattle.pud_defs.specs.RegistryTables.Tables.{tables_of}
use Rattle.pud_defs.specs.RegistryTables.Places.{first_some, word_in, place_in_puddle, located}
use Rattle.puddle_space.specs.Nearby.{base_of_member}
use Rattle.pud_defs.proofs.RegistryTables.TablesOf.{puddles_below, frames_of_tables}

-- ---- steps of a search

pub first_some-passed : {A : Type 0} (at : ℕ → Option A) (i n : ℕ) → i < n → at i ≡ None → first_some at i (n - i) ≡ first_some at (i + 1) (n - (i + 1))
unfolding first_some
first_some-passed at i n below none =
    let count : n - i ≡ suc (n - (i + 1)) = omega arith in
    ap (first_some at i) count ∙ ap (λ found. option_or found (first_some at (i + 1) (n - (i + 1)))) none

pub first_some-found : {A : Type 0} (at : ℕ → Option A) (i n : ℕ) (x : A) → i < n → at i ≡ Some x → first_some at i (n - i) ≡ Some x
unfolding first_some
first_some-found at i n x below found =
    let count : n - i ≡ suc (n - (i + 1)) = omega arith in
    ap (first_some at i) count ∙ ap (λ here. option_or here (first_some at (i + 1) (n - (i + 1)))) found

pub first_some-none : {A : Type 0} (at : ℕ → Option A) (i n : ℕ) → n ≤ i → first_some at i (n - i) ≡ None
unfolding first_some
first_some-none at i n past = let count : n - i ≡ 0 = omega arith in ap (first_some at i) count

pub first_some-same : {A : Type 0} (f g : ℕ → Option A) (i count : ℕ) → ((k : ℕ) → i ≤ k → k < i + count → f k ≡ g k) → first_some f i count ≡ first_some g i count
unfolding first_some
first_some-same f g i zero same = refl
first_some-same f g i (suc count) same =
    ap₂ option_or (same i (omega arith) (omega arith)) (first_some-same f g (i + 1) count (λ k low high. same k (omega arith) (omega arith)))

-- The place of an address is found by the records of the image.
pub located_by_records : (F : ℕ) (image : Image) (address : ℕ) → located (tables_of F image) address ≡ first_some (λ frame. place_in_puddle address frame (puddle_at image frame)) 0 F
located_by_records F image address =
    ap (first_some (λ frame. place_in_puddle address frame ((tables_of F image).puddles frame)) 0) (frames_of_tables F image)
    ∙ first_some-same (λ frame. place_in_puddle address frame ((tables_of F image).puddles frame)) (λ frame. place_in_puddle address frame (puddle_at image frame)) 0 F
    (λ k low high. ap (place_in_puddle address k) (puddles_below F image k (omega arith)))

-- ---- the place of an address in one frame, by the base of its puddle

-- If the frame has no puddle, the address has no place in it.
pub unplaced_by_base : (address frame : ℕ) (m : Option Member) → None ≡ option_map base_of_member m → place_in_puddle address frame m ≡ None
unplaced_by_base address frame None none = refl
unplaced_by_base address frame (Some m) none = absurd (cc)

-- If the range of the frame's puddle does not contain the address, the address has no place in the frame.
pub nowhere_by_base : (address frame base : ℕ) (m : Option Member) → Some base ≡ option_map base_of_member m → word_in base address ≡ None → place_in_puddle address frame m ≡ None
nowhere_by_base address frame base None is none = absurd (cc)
nowhere_by_base address frame base (Some m) is none =
    let same : base ≡ m.puddle.base = cc in
    ap (λ (b : ℕ). option_map (λ word. (frame, word)) (word_in b address)) (sym same) ∙ ap (option_map (λ word. (frame, word))) none

-- If the range contains the address, the frame and the word are its place.
pub placed_by_base : (address frame base word : ℕ) (m : Option Member) → Some base ≡ option_map base_of_member m → word_in base address ≡ Some word → place_in_puddle address frame m ≡ Some (frame, word)
placed_by_base address frame base word None is there = absurd (cc)
placed_by_base address frame base word (Some m) is there =
    let same : base ≡ m.puddle.base = cc in
    ap (λ (b : ℕ). option_map (λ w. (frame, w)) (word_in b address)) (sym same) ∙ ap (option_map (λ w. (frame, w))) there
