-- The redo entries stay those of the deferred values as long as the pool's objects keep their places and their types.
use Rattle.std.proofs.Common.{◌≡◌, inl, inr, ℕ, zero, suc, ◌<◌, true, false, cond, eqb, List, [], ◌∷◌, ◌++◌, length, Option, Some, None, is_some, option_map, nat_cmp, refl, sym, ap, ◌∙◌, arith, eq-eqb, ne_eqb}
use Rattle.std.specs.Prelude.{slice_get}
use Rattle.std.proofs.lemmas.Bool.{cases_eq, cond-true, cond-false}
use Rattle.std.proofs.lemmas.Option.{none-some, slice_get-map}
use Rattle.pud_defs.specs.declared.records.Puddle.{Puddle}
use Rattle.pud_defs.specs.declared.objects.FieldValue.{FieldValue}
use Rattle.pud_defs.specs.declared.objects.FieldValue.TheVariants.{Num, Ref}
use Rattle.pud_defs.specs.Formats.Geometry.{ordinal_of, slot_of, IsFinished}
use Rattle.pud_defs.specs.Formats.Image.{Image}
use Rattle.pud_defs.specs.RegistryTables.Types.{map_of}
use Rattle.pud_defs.specs.RegistryTables.Keyed.{first_from}
use Rattle.pud_defs.specs.Logging.Entries.{Entry}
use Rattle.pud_defs.specs.PoolGraphs.Stored.{Stored, stored_in, place_serial}
use Rattle.pud_defs.specs.PoolGraphs.Graph.{slot_address, under_serial, Object, Graph, object_in}
use Rattle.pud_defs.specs.PoolGraphs.DeferredValues.{DeferredValue}
use Rattle.pud_defs.specs.PoolGraphs.Exported.{address_in}
use Rattle.graph_laws.proofs.SameReads.Words.{place_of_serial-some}
use Rattle.puddle_header.specs.Places.{places_in}
use Rattle.graph_read.specs.Reading.{place_in_pool, table_in}
use Rattle.hybrid_tx.specs.Objects.Stores.{address_at, word_for}
use Rattle.hybrid_tx.specs.Objects.Transactions.{MayHold, MaySet, IsDeferredEntry, AreDeferredEntries}

-- ---- objects

-- the graph has an object of this serial and of this type
pub record IsOfType (g : Graph) (s id : ℕ) : Type 0 where
  pub object : Object
  pub live : object_in s g ≡ Some object
  pub same_type : object.type_id ≡ id

-- each object of the first graph is one of the second, with the same type
pub record KeepsObjects (now next : Graph) : Type 0 where
  pub each : (s : ℕ) (o : Object) → object_in s now ≡ Some o → IsOfType next s o.type_id

pub KeepsObjects-same : (g : Graph) → KeepsObjects g g
KeepsObjects-same g = record { each = λ s o live. record { object = o; live = live; same_type = refl } }

pub some_object : (o : Option Object) → is_some o ≡ true → (x : Object) × (o ≡ Some x)
some_object None some = absurd (let it : false ≡ true = some in cc)
some_object (Some x) some = (x, refl)

-- each type that is defined among the first is defined among the second, with the same map
pub record KeepsTypes (types more : List (ℕ × ℕ)) : Type 0 where
  pub each : (id m : ℕ) → map_of id types ≡ Some m → map_of id more ≡ Some m

module _ (types more : List (ℕ × ℕ)) (now next : Graph) (defined : KeepsTypes types more) (objects : KeepsObjects now next) where
  MayHold-kept : (m f : ℕ) (x : FieldValue) → MayHold m f now x → MayHold m f next x
  MayHold-kept m f (Num v) holds = holds
  MayHold-kept m f (Ref r) holds = (
    holds.0,
    elim holds.1 [
      | inl null ↦ inl null
      | inr live ↦ let object = some_object (object_in r now) live in inr (ap (λ (o : Option Object). is_some o) (objects.each r object.0 object.1).live)
    ],
  )

  -- what may be set may still be set
  pub MaySet-kept : (s f : ℕ) (x : FieldValue) → MaySet types now s f x → MaySet more next s f x
  MaySet-kept s f x may =
      let there = objects.each s may.object may.live in
      record {
        object = there.object;
        live = there.live;
        map = may.map;
        defined = ap (λ (id : ℕ). map_of id more) there.same_type ∙ defined.each may.object.type_id may.map may.defined;
        below = may.below;
        holds = MayHold-kept may.map f x may.holds;
      }

-- ---- places

-- a puddle of this ordinal has its slots at the same addresses as this one
pub record HasSlots (wide : List (ℕ × Puddle)) (o : ℕ) (e : ℕ × Puddle) : Type 0 where
  pub puddle : ℕ × Puddle
  pub there : slice_get wide o ≡ Some puddle
  pub addresses : (slot : ℕ) → slot_address puddle.1 slot ≡ slot_address e.1 slot

-- among the second puddles, each of the first has its slots at the same addresses, and each finished one is unchanged
pub record KeepsFinished (at wide : List (ℕ × Puddle)) : Type 0 where
  pub slots : (o : ℕ) (e : ℕ × Puddle) → slice_get at o ≡ Some e → HasSlots wide o e
  pub finished : (o : ℕ) (e : ℕ × Puddle) → slice_get at o ≡ Some e → IsFinished e.1 → slice_get wide o ≡ Some e

-- this holds if each puddle stays as it is
pub keeps_prefix : (at wide : List (ℕ × Puddle)) → ((o : ℕ) (e : ℕ × Puddle) → slice_get at o ≡ Some e → slice_get wide o ≡ Some e) → KeepsFinished at wide
keeps_prefix at wide front = record {
  slots = λ o e there. record { puddle = e; there = front o e there; addresses = λ slot. refl };
  finished = λ o e there finished. front o e there;
}

-- each object of the graph stands in the second image and puddles where it stood in the first
pub record KeepsPlaces (F : ℕ) (at wide : List (ℕ × Puddle)) (i j : Image) (now : Graph) : Type 0 where
  pub each : (s : ℕ) (o : Object) → object_in s now ≡ Some o → place_in_pool F wide j s ≡ place_in_pool F at i s

-- what is stored alone decides where an object stands
pub place_in_pool-stored : (F : ℕ) (at : List (ℕ × Puddle)) (i j : Image) → stored_in F at j ≡ stored_in F at i → (s : ℕ) → place_in_pool F at j s ≡ place_in_pool F at i s
place_in_pool-stored F at i j same s =
    ap (λ (st : Stored). first_from nat_cmp s (under_serial (λ (p : ℕ). place_serial st p) (λ (p : ℕ). p)) 0 (places_in at)) same

pub some_element : {X : Type 0} (xs : List X) (i : ℕ) → i < length xs → (x : X) × (slice_get xs i ≡ Some x)
some_element [] i below = absurd (omega arith)
some_element (x ∷ xs) zero below = (x, refl)
some_element (x ∷ xs) (suc i) below = some_element xs i (omega arith)

-- the address of a place, by the place's puddle
pub address_by : (at : List (ℕ × Puddle)) (q : ℕ) (e : ℕ × Puddle) → slice_get at (ordinal_of q) ≡ Some e → address_at at q ≡ slot_address e.1 (slot_of q)
address_by at q e there =
    ap (λ (o : Option Puddle). address_in o (slot_of q))
    (slice_get-map (λ (d : ℕ × Puddle). d.1) at (ordinal_of q) ∙ ap (option_map (λ (d : ℕ × Puddle). d.1)) there)

-- ---- deferred values

module _ (F : ℕ) (at wide : List (ℕ × Puddle)) (types more : List (ℕ × ℕ)) (i j : Image) (now next : Graph) (keeps : KeepsFinished at wide) (defined : KeepsTypes types more)
    (places : KeepsPlaces F at wide i j now) (objects : KeepsObjects now next) where
  address_kept : (q : ℕ) → q < places_in at → address_at wide q ≡ address_at at q
  address_kept q below =
      let within : ordinal_of q < length at = omega arith in
      let e = some_element at (ordinal_of q) within in
      let s = keeps.slots (ordinal_of q) e.0 e.1 in
      address_by wide q s.puddle s.there ∙ s.addresses (slot_of q) ∙ sym (address_by at q e.0 e.1)

  reference_kept : (r v : ℕ) (place : Option ℕ) → (r ≡ 0 → ⊥) → place_in_pool F at i r ≡ place → place_in_pool F wide j r ≡ place_in_pool F at i r
      → cond (eqb r 0) (Some 0) (option_map (address_at at) place) ≡ Some v → word_for F wide j (Ref r) ≡ Some v
  reference_kept r v None other there same word = absurd (none-some v (sym (cond-false _ _ _ (ne_eqb r 0 other)) ∙ word))
  reference_kept r v (Some q) other there same word =
      let within = (place_of_serial-some (table_in F at i) (places_in at) r q there).within in
      ap (λ (o : Option ℕ). cond (eqb r 0) (Some 0) (option_map (address_at wide) o)) (same ∙ there)
      ∙ ap (λ (a : ℕ). cond (eqb r 0) (Some 0) (Some a)) (address_kept q within)
      ∙ word

  -- the word that stands for a value stays the same
  word_kept : (m f : ℕ) (x : FieldValue) (v : ℕ) → MayHold m f now x → word_for F at i x ≡ Some v → word_for F wide j x ≡ Some v
  word_kept m f (Num n) v holds word = word
  word_kept m f (Ref r) v holds word = elim (cases_eq r 0) [
    | inl null ↦ cond-true _ _ _ (eq-eqb r 0 null) ∙ sym (cond-true _ _ _ (eq-eqb r 0 null)) ∙ word
    | inr other ↦ elim holds.1 [
      | inl null ↦ absurd (other null)
      | inr live ↦
          let object = some_object (object_in r now) live in
          reference_kept r v (place_in_pool F at i r) other refl (places.each r object.0 object.1) word
    ]
  ]

  IsDeferredEntry-kept : (l : DeferredValue) (e : Entry) → IsDeferredEntry F at types i now l e → IsDeferredEntry F wide more j next l e
  IsDeferredEntry-kept l e later =
      record {
        slot = later.slot;
        of = record { puddle = later.of.puddle; there = keeps.finished later.slot.ordinal (later.slot.frame, later.of.puddle) later.of.there later.finished; alike = later.of.alike; below = later.of.below };
        finished = later.finished;
        place = places.each l.s later.may.object later.may.live ∙ later.place;
        value = later.value;
        word = word_kept later.may.map l.f l.x later.value later.may.holds later.word;
        may = MaySet-kept types more now next defined objects l.s l.f l.x later.may;
        is = later.is;
      }

  pub AreDeferredEntries-wider : (deferred : List DeferredValue) (redo : List Entry) → AreDeferredEntries F at types i now deferred redo → AreDeferredEntries F wide more j next deferred redo
  AreDeferredEntries-wider [] [] are = tt
  AreDeferredEntries-wider [] (e ∷ es) are = absurd are
  AreDeferredEntries-wider (l ∷ ls) [] are = absurd are
  AreDeferredEntries-wider (l ∷ ls) (e ∷ es) are = (IsDeferredEntry-kept l e are.0, AreDeferredEntries-wider ls es are.1)

-- the entries are kept in the same puddles, with the same types
pub AreDeferredEntries-kept : (F : ℕ) (at : List (ℕ × Puddle)) (types : List (ℕ × ℕ)) (i j : Image) (now next : Graph) → KeepsPlaces F at at i j now → KeepsObjects now next → (deferred : List DeferredValue) (redo : List Entry)
    → AreDeferredEntries F at types i now deferred redo → AreDeferredEntries F at types j next deferred redo
AreDeferredEntries-kept F at types i j now next places objects deferred redo are =
    AreDeferredEntries-wider F at at types types i j now next (keeps_prefix at at (λ o e there. there)) (record { each = λ id m is. is }) places objects deferred redo are

-- the entries are kept between images that store the same of the pool
pub AreDeferredEntries-stored : (F : ℕ) (at : List (ℕ × Puddle)) (types : List (ℕ × ℕ)) (i j : Image) (now : Graph) → stored_in F at j ≡ stored_in F at i → (deferred : List DeferredValue) (redo : List Entry)
    → AreDeferredEntries F at types i now deferred redo → AreDeferredEntries F at types j now deferred redo
AreDeferredEntries-stored F at types i j now same deferred redo are =
    AreDeferredEntries-kept F at types i j now now (record { each = λ s o live. place_in_pool-stored F at i j same s }) (KeepsObjects-same now) deferred redo are

-- one more value and its entry may be appended
pub AreDeferredEntries-more : (F : ℕ) (at : List (ℕ × Puddle)) (types : List (ℕ × ℕ)) (image : Image) (now : Graph) (l : DeferredValue) (e : Entry) → IsDeferredEntry F at types image now l e → (deferred : List DeferredValue) (redo : List Entry)
    → AreDeferredEntries F at types image now deferred redo → AreDeferredEntries F at types image now (deferred ++ l ∷ []) (redo ++ e ∷ [])
AreDeferredEntries-more F at types image now l e later [] [] are = (later, tt)
AreDeferredEntries-more F at types image now l e later [] (d ∷ ds) are = absurd are
AreDeferredEntries-more F at types image now l e later (k ∷ ks) [] are = absurd are
AreDeferredEntries-more F at types image now l e later (k ∷ ks) (d ∷ ds) are = (are.0, AreDeferredEntries-more F at types image now l e later ks ds are.1)

-- if nothing is deferred, there is no entry
pub AreDeferredEntries-none : (F : ℕ) (at : List (ℕ × Puddle)) (types : List (ℕ × ℕ)) (image : Image) (now : Graph) (deferred : List DeferredValue) (redo : List Entry) → deferred ≡ [] → AreDeferredEntries F at types image now deferred redo
    → redo ≡ []
AreDeferredEntries-none F at types image now [] [] none are = refl
AreDeferredEntries-none F at types image now [] (e ∷ es) none are = absurd are
AreDeferredEntries-none F at types image now (l ∷ ls) redo none are = absurd (cc)
