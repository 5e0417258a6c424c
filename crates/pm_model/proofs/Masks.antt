-- What is stated about calls on a device also holds with words masked that the calls do not write.
use Rattle.std.proofs.Common.{◌≡◌, ◌⊎◌, inl, inr, ℕ, List, [], ◌∷◌, ◌++◌, map, Option, Some, None, unwrap_or, refl, sym, ap, subst, ◌∙◌}
use Rattle.std.proofs.lemmas.List.{map-append, append_cancel_right}
use Rattle.pm_model.specs.declared.host.HostFault.{HostFault}
use Rattle.pm_model.specs.Words.{Has, Cell, single, values, Words, Image, reads, Picks, HasOnly, IsRested}
use Rattle.pm_model.specs.Moments.{Moment, State}
use Rattle.pm_model.specs.Changes.{Leaves, Footprint, IsKept, Changes, Write, written, Persists}
use Rattle.pm_model.specs.Masks.{masked_cell, masked, masked_moment, masked_state, masked_image, no_mask, IsOff}

-- ---- words and images

-- A masked word has its value alone.
pub masked-there : (mask : Write) (words : Words) (k v : ℕ) → mask k ≡ Some v → masked mask words k ≡ single v
masked-there mask words k v is = ap (λ (o : Option ℕ). masked_cell o (words k)) is

-- Any other word does not change.
pub masked-elsewhere : (mask : Write) (words : Words) (k : ℕ) → mask k ≡ None → masked mask words k ≡ words k
masked-elsewhere mask words k none = ap (λ (o : Option ℕ). masked_cell o (words k)) none

pub masked_image-there : (mask : Write) (image : Image) (k v : ℕ) → mask k ≡ Some v → masked_image mask image k ≡ v
masked_image-there mask image k v is = ap (λ (o : Option ℕ). unwrap_or o (image k)) is

pub masked_image-elsewhere : (mask : Write) (image : Image) (k : ℕ) → mask k ≡ None → masked_image mask image k ≡ image k
masked_image-elsewhere mask image k none = ap (λ (o : Option ℕ). unwrap_or o (image k)) none

reads-cell : (o : Option ℕ) (c : Cell) → (masked_cell o c).newest ≡ unwrap_or o c.newest
reads-cell None c = refl
reads-cell (Some v) c = refl

-- With words masked, the device reads the masked image of what it reads.
pub reads-masked : (mask : Write) (words : Words) → reads (masked mask words) ≡ masked_image mask (reads words)
reads-masked mask words = λ i k. reads-cell (mask k) (words k) i

-- A value of a word is, masked, a value of the masked word.
cell-masked : (o : Option ℕ) (c : Cell) (v : ℕ) → Has (values c) v → Has (values (masked_cell o c)) (unwrap_or o v)
cell-masked None c v had = had
cell-masked (Some x) c v had = inl refl

-- Each value of a masked word is, masked, a value of the word.
cell-unmasked : (o : Option ℕ) (c : Cell) (v : ℕ) → Has (values (masked_cell o c)) v → (x : ℕ) × Has (values c) x × (unwrap_or o x ≡ v)
cell-unmasked None c v had = (v, had, refl)
cell-unmasked (Some y) c v (inl e) = (c.newest, inl refl, sym e)
cell-unmasked (Some y) c v (inr none) = absurd none

-- If an image is one of the words, the masked image is one of the masked words.
pub Picks-masked : (mask : Write) (words : Words) (image : Image) → Picks words image → Picks (masked mask words) (masked_image mask image)
Picks-masked mask words image picked = record { each = λ k. cell-masked (mask k) (words k) (image k) (picked.each k) }

-- The image is the masked form of an image of the words.
pub record IsMaskOf (mask : Write) (words : Words) (image : Image) : Type 0 where
  pub under : Image
  pub picked : Picks words under
  pub is : image ≡ masked_image mask under

pub Picks-unmasked : (mask : Write) (words : Words) (image : Image) → Picks (masked mask words) image → IsMaskOf mask words image
Picks-unmasked mask words image picked =
    let value = λ (k : ℕ). cell-unmasked (mask k) (words k) (image k) (picked.each k) in
    record { under = λ k. (value k).0; picked = record { each = λ k. (value k).1 }; is = λ i k. sym ((value k).2) i }

-- A word that has one value and is not masked keeps that value.
HasOnly-cell : (o : Option ℕ) (c : Cell) (v : ℕ) → o ≡ None → HasOnly c v → HasOnly (masked_cell o c) v
HasOnly-cell o c v none one = subst (λ (x : Option ℕ). HasOnly (masked_cell x c) v) (sym none) one

pub HasOnly-masked : (mask : Write) (words : Words) (k v : ℕ) → mask k ≡ None → HasOnly (words k) v → HasOnly (masked mask words k) v
HasOnly-masked mask words k v none one = HasOnly-cell (mask k) (words k) v none one

pub HasOnly-unmasked : (mask : Write) (words : Words) (k v : ℕ) → mask k ≡ None → HasOnly (masked mask words k) v → HasOnly (words k) v
HasOnly-unmasked mask words k v none one = subst (λ (c : Cell). HasOnly c v) (masked-elsewhere mask words k none) one

rested-cell : (o : Option ℕ) (c : Cell) → HasOnly c c.newest → HasOnly (masked_cell o c) (masked_cell o c).newest
rested-cell None c one = one
rested-cell (Some v) c one = record { each = λ x had. elim had [ inl e ↦ e | inr none ↦ absurd none ] }

-- A word with one value has one value, masked or not.
pub HasOnly-own_masked : (mask : Write) (words : Words) (k : ℕ) → HasOnly (words k) (words k).newest → HasOnly (masked mask words k) (masked mask words k).newest
HasOnly-own_masked mask words k one = rested-cell (mask k) (words k) one

pub IsRested-masked : (mask : Write) (words : Words) → IsRested words → IsRested (masked mask words)
IsRested-masked mask words rested = record { each = λ k. rested-cell (mask k) (words k) (rested.each k) }

-- ---- histories

mapped_has : (f : Moment → Moment) (ms : List Moment) (m : Moment) → Has (map f ms) m → (x : Moment) × Has ms x × (m ≡ f x)
mapped_has f [] m had = absurd had
mapped_has f (x ∷ ms) m (inl e) = (x, inl refl, e)
mapped_has f (x ∷ ms) m (inr had) = let at = mapped_has f ms m had in (at.0, inr at.1, at.2)

has_mapped : (f : Moment → Moment) (ms : List Moment) (m : Moment) → Has ms m → Has (map f ms) (f m)
has_mapped f [] m had = absurd had
has_mapped f (x ∷ ms) m (inl e) = inl (ap f e)
has_mapped f (x ∷ ms) m (inr had) = inr (has_mapped f ms m had)

history-masked : (mask : Write) (old new : State) (added : List Moment) → new.now ∷ new.past ≡ added ++ old.now ∷ old.past
    → masked_moment mask new.now ∷ map (masked_moment mask) new.past ≡ map (masked_moment mask) added ++ masked_moment mask old.now ∷ map (masked_moment mask) old.past
history-masked mask old new added history = ap (map (masked_moment mask)) history ∙ map-append (masked_moment mask) added (old.now ∷ old.past)

mapped_unmasked : (ms : List Moment) → map (masked_moment no_mask) ms ≡ ms
mapped_unmasked [] = refl
mapped_unmasked (m ∷ ms) = ap (λ (l : List Moment). m ∷ l) (mapped_unmasked ms)

-- With no word masked, what a device tells does not change.
pub masked_state-none : (s : State) → masked_state no_mask s ≡ s
masked_state-none s = ap (λ (past : List Moment). record s { past = past }) (mapped_unmasked s.past)

-- What holds with no word masked holds.
pub unmasked : (P : State → State → Type 0) (a b : State) → P (masked_state no_mask a) (masked_state no_mask b) → P a b
unmasked P a b told = subst (λ (x : State). P a x) (masked_state-none b) (subst (λ (x : State). P x (masked_state no_mask b)) (masked_state-none a) told)

pub IsOff-no_mask : (may : Footprint) → IsOff no_mask may
IsOff-no_mask may = record { apart = λ k x v is m. absurd (let no : None ≡ Some x = is in cc) }

-- ---- what changes

none_by : (o : Option ℕ) → ((x : ℕ) → o ≡ Some x → ⊥) → o ≡ None
none_by None never = refl
none_by (Some x) never = absurd (never x refl)

-- A word to which a value may be written is not masked.
pub IsOff-none : (mask : Write) (may : Footprint) (k v : ℕ) → IsOff mask may → may k v → mask k ≡ None
IsOff-none mask may k v off m = none_by (mask k) (λ x is. off.apart k x v is m)

kept-cell : (o : Option ℕ) (old new : Cell) → IsKept old new → IsKept (masked_cell o old) (masked_cell o new)
kept-cell None old new kept = kept
kept-cell (Some v) old new kept = record { newest = refl; marked = λ m. refl }

within-cell : (o : Option ℕ) (old new : Cell) (may : ℕ → Type 0) (v : ℕ) → ((x : ℕ) → Has (values new) x → Has (values old) x ⊎ may x)
    → Has (values (masked_cell o new)) v → Has (values (masked_cell o old)) v ⊎ may v
within-cell None old new may v within had = within v had
within-cell (Some x) old new may v within had = inl had

pub Changes-masked : (mask : Write) (may : Footprint) (fault : Option HostFault) (old new : State) → Changes may fault old new → Changes may fault (masked_state mask old) (masked_state mask new)
Changes-masked mask may fault old new c =
    let f = masked_moment mask in
    record {
      added = map f c.added;
      history = history-masked mask old new c.added c.history;
      quiet = λ m h. let at = mapped_has f c.added m h in ap (λ (x : Moment). x.said) at.2 ∙ c.quiet at.0 at.1;
      within = λ m h k v had.
          let at = mapped_has f c.added m h in
          within-cell (mask k) (old.now.words k) (at.0.words k) (may k) v (λ x. c.within at.0 at.1 k x) (subst (λ (y : Moment). Has (values (y.words k)) v) at.2 had);
      keeps = λ still k none. kept-cell (mask k) (old.now.words k) (new.now.words k) (c.keeps still k none);
      rests = λ cut. IsRested-masked mask new.now.words (c.rests cut);
      script = c.script;
      shelf = c.shelf;
    }

pub Persists-masked : (mask write : Write) (fault : Option HostFault) (old new : State) → IsOff mask (written write) → Persists write fault old new
    → Persists write fault (masked_state mask old) (masked_state mask new)
Persists-masked mask write fault old new off p =
    record {
      changes = Changes-masked mask (written write) fault old new p.changes;
      durable = λ e k v is. HasOnly-masked mask new.now.words k v (IsOff-none mask (written write) k v off is) (p.durable e k v is);
    }

-- ---- what is left

-- If each image, once masked, has P, then each image of the masked device has P.
pub Leaves-masked : (mask : Write) (P : List ℕ → Image → Type 0) (old new : State) → Leaves (λ bytes image. P bytes (masked_image mask image)) old new
    → Leaves P (masked_state mask old) (masked_state mask new)
Leaves-masked mask P old new l =
    let f = masked_moment mask in
    record {
      added = map f l.added;
      history = history-masked mask old new l.added l.history;
      start = λ image picked.
          let u = Picks-unmasked mask old.now.words image picked in
          subst (λ (i : Image). P [] i) (sym u.is) (l.start u.under u.picked);
      later = λ m h.
          let at = mapped_has f l.added m h in
          let left = l.later at.0 at.1 in
          record {
            bytes = left.bytes;
            said = ap (λ (x : Moment). x.said) at.2 ∙ left.said;
            each = λ image picked.
                let u = Picks-unmasked mask at.0.words image (subst (λ (y : Moment). Picks y.words image) at.2 picked) in
                subst (λ (i : Image). P left.bytes i) (sym u.is) (left.each u.under u.picked);
          };
    }

-- The other direction: if each image of the masked device has P, then each image, once masked, has P.
pub Leaves-unmasked : (mask : Write) (P : List ℕ → Image → Type 0) (may : Footprint) (fault : Option HostFault) (old new : State) → Changes may fault old new
    → Leaves P (masked_state mask old) (masked_state mask new) → Leaves (λ bytes image. P bytes (masked_image mask image)) old new
Leaves-unmasked mask P may fault old new c l =
    let f = masked_moment mask in
    let same : map f c.added ≡ l.added = append_cancel_right (map f c.added) l.added (f old.now ∷ map f old.past) (sym (history-masked mask old new c.added c.history) ∙ l.history) in
    record {
      added = c.added;
      history = c.history;
      start = λ image picked. l.start (masked_image mask image) (Picks-masked mask old.now.words image picked);
      later = λ m h.
          let left = l.later (f m) (subst (λ (ms : List Moment). Has ms (f m)) same (has_mapped f c.added m h)) in
          record {
            bytes = left.bytes;
            said = left.said;
            each = λ image picked. left.each (masked_image mask image) (Picks-masked mask m.words image picked);
          };
    }
