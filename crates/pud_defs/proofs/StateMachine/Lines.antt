-- The pieces of bytes when one more byte is taken.
use Rattle.std.proofs.Common.{◌≡◌, ℕ, ◌+◌, ◌-◌, ◌≤◌, Bool, true, false, cond, not, eqb, List, [], ◌∷◌, ◌++◌, length, take, drop, refl, sym, ap, ap₂, ◌∙◌, subst, ⊎_elim, arith, ne_eqb, eq-eqb, append-nil, append_assoc, length-append, length-take-le, take-append-drop}
use Rattle.std.specs.List.{slice_split, onto_first, suffix_len, prefix_len}
use Rattle.std.proofs.lemmas.Bool.{cases_eq}
use Rattle.std.proofs.lemmas.List.{reverse-append, take-append-le, take_all}
use Rattle.std.proofs.lemmas.List.Splits.{length-slice_split}
use Rattle.std.proofs.lemmas.Grind.{common_steps}
use Rattle.std.proofs.lemmas.List.Sums.{sum_by-append}
use Rattle.std.proofs.lemmas.List.Elements.{filter-append}
use Rattle.std.proofs.Math.ListN.{drop_of_length-le}
use Rattle.pud_defs.specs.StateMachine.Run.{newlines, pieces, closed_pieces, open_rest, lines_among, lines_taken}

-- ---- newlines

pub newlines-append : (xs ys : List ℕ) → newlines (xs ++ ys) ≡ newlines xs + newlines ys
newlines-append xs ys = sum_by-append (λ b. cond (eqb b 10) 1 0) xs ys

-- a prefix has no more of them
pub newlines_part : (xs ys : List ℕ) → newlines xs ≤ newlines (xs ++ ys)
newlines_part xs ys = omega (arith, newlines-append xs ys)

pub newlines-take : (k : ℕ) (bytes : List ℕ) → newlines (take k bytes) ≤ newlines bytes
newlines-take k bytes = omega (arith, newlines_part (take k bytes) (drop k bytes), ap newlines (take-append-drop k bytes))

pub newlines_one : (b : ℕ) → b ≡ 10 → newlines (b ∷ []) ≡ 1
newlines_one b e = ap (λ n. newlines (n ∷ [])) e

pub newlines_other : (b : ℕ) → (b ≡ 10 → ⊥) → newlines (b ∷ []) ≡ 0
newlines_other b h = ap (λ t. 0 + cond t 1 0) (ne_eqb b 10 h)

-- ---- splitting with one more element

-- how the parts change: a separator begins a new part, and any other element is added to the last one
abbrev pushed : {X : Type 0} → Bool → X → List (List X) → List (List X)
pushed true y parts = parts ++ [] ∷ []
pushed false y [] = (y ∷ []) ∷ []
pushed false y (part ∷ []) = (part ++ y ∷ []) ∷ []
pushed false y (part ∷ next ∷ parts) = part ∷ pushed false y (next ∷ parts)

record HasFirst {X : Type 0} (parts : List (List X)) : Type 0 where
  first : List X
  rest : List (List X)
  is : parts ≡ first ∷ rest

onto_has : {X : Type 0} (x : X) (parts : List (List X)) → HasFirst (onto_first x parts)
onto_has x [] = record { first = x ∷ []; rest = []; is = refl }
onto_has x (part ∷ parts) = record { first = x ∷ part; rest = parts; is = refl }

split_has : {X : Type 0} (p : X → Bool) (xs : List X) → HasFirst (slice_split p xs)
split_has p [] = record { first = []; rest = []; is = refl }
split_has p (x ∷ xs) = elim (p x) as (λ b. HasFirst (cond b ([] ∷ slice_split p xs) (onto_first x (slice_split p xs)))) [
  | true ↦ record { first = []; rest = slice_split p xs; is = refl }
  | false ↦ onto_has x (slice_split p xs)
]

pushed_after_empty : {X : Type 0} (b : Bool) (y : X) (first : List X) (rest : List (List X)) → [] ∷ pushed b y (first ∷ rest) ≡ pushed b y ([] ∷ first ∷ rest)
pushed_after_empty true y first rest = refl
pushed_after_empty false y first rest = refl

pushed_onto : {X : Type 0} (b : Bool) (x y : X) (first : List X) (rest : List (List X)) → onto_first x (pushed b y (first ∷ rest)) ≡ pushed b y ((x ∷ first) ∷ rest)
pushed_onto true x y first rest = refl
pushed_onto false x y first [] = refl
pushed_onto false x y first (next ∷ rest) = refl

pushed_first : {X : Type 0} (t b : Bool) (x y : X) (first : List X) (rest : List (List X)) → cond t ([] ∷ pushed b y (first ∷ rest)) (onto_first x (pushed b y (first ∷ rest))) ≡ pushed b y (cond t ([] ∷ first ∷ rest) (onto_first x (first ∷ rest)))
pushed_first true b x y first rest = pushed_after_empty b y first rest
pushed_first false b x y first rest = pushed_onto b x y first rest

split_nothing : {X : Type 0} (b : Bool) (y : X) → cond b ([] ∷ [] ∷ []) (onto_first y ([] ∷ [])) ≡ pushed b y ([] ∷ [])
split_nothing true y = refl
split_nothing false y = refl

pub slice_split-push : {X : Type 0} (p : X → Bool) (xs : List X) (y : X) → slice_split p (xs ++ y ∷ []) ≡ pushed (p y) y (slice_split p xs)
slice_split-push p [] y = split_nothing (p y) y
slice_split-push p (x ∷ xs) y =
    let parts = split_has p xs in
    let later = slice_split-push p xs y ∙ ap (pushed (p y) y) parts.is in
    ap (λ ps. cond (p x) ([] ∷ ps) (onto_first x ps)) later
    ∙ pushed_first (p x) (p y) x y parts.first parts.rest
    ∙ ap (λ ps. pushed (p y) y (cond (p x) ([] ∷ ps) (onto_first x ps))) (sym parts.is)

-- the same if the last part is known
pushed_last : {X : Type 0} (y : X) (front : List (List X)) (part : List X) → pushed false y (front ++ part ∷ []) ≡ front ++ (part ++ y ∷ []) ∷ []
pushed_last y [] part = refl
pushed_last y (first ∷ []) part = refl
pushed_last y (first ∷ next ∷ front) part = ap (λ ps. first ∷ ps) (pushed_last y (next ∷ front) part)

-- ---- the rest

suffix_push : (p : ℕ → Bool) (xs : List ℕ) (y : ℕ) → suffix_len p (xs ++ y ∷ []) ≡ cond (p y) (1 + suffix_len p xs) 0
suffix_push p xs y = ap (prefix_len p) (reverse-append xs (y ∷ []))

drop_push : (k : ℕ) (xs : List ℕ) (y : ℕ) → k ≤ length xs → drop k (xs ++ y ∷ []) ≡ drop k xs ++ y ∷ []
drop_push k xs y h = grind (arith, common_steps)

pub open_rest-newline : (bytes : List ℕ) (b : ℕ) → b ≡ 10 → open_rest (bytes ++ b ∷ []) ≡ []
unfolding open_rest
open_rest-newline bytes b e =
    let none : suffix_len (λ c. not (eqb c 10)) (bytes ++ b ∷ []) ≡ 0 = suffix_push (λ c. not (eqb c 10)) bytes b ∙ ap (λ c. cond (not (eqb c 10)) (1 + suffix_len (λ d. not (eqb d 10)) bytes) 0) e in
    drop_of_length-le (bytes ++ b ∷ []) (omega arith)

pub open_rest-other : (bytes : List ℕ) (b : ℕ) → (b ≡ 10 → ⊥) → open_rest (bytes ++ b ∷ []) ≡ open_rest bytes ++ b ∷ []
unfolding open_rest
open_rest-other bytes b h =
    let n = suffix_len (λ c. not (eqb c 10)) bytes in
    let more : suffix_len (λ c. not (eqb c 10)) (bytes ++ b ∷ []) ≡ 1 + n = suffix_push (λ c. not (eqb c 10)) bytes b ∙ ap (λ t. cond (not t) (1 + n) 0) (ne_eqb b 10 h) in
    let place : length (bytes ++ b ∷ []) - suffix_len (λ c. not (eqb c 10)) (bytes ++ b ∷ []) ≡ length bytes - n = omega (arith, length-append bytes (b ∷ []), more) in
    ap (λ k. drop k (bytes ++ b ∷ [])) place ∙ drop_push (length bytes - n) bytes b (omega arith)

pub open_rest-nothing : open_rest [] ≡ []
unfolding open_rest
open_rest-nothing = refl

-- ---- the closed pieces

length_pieces : (bytes : List ℕ) → length (pieces bytes) ≡ newlines bytes + 1
length_pieces bytes = length-slice_split (λ b. eqb b 10) bytes

pub length-closed_pieces : (bytes : List ℕ) → length (closed_pieces bytes) ≡ newlines bytes
unfolding closed_pieces
length-closed_pieces bytes = length-take-le (newlines bytes) (pieces bytes) (omega (arith, length_pieces bytes))

pub closed_pieces-nothing : closed_pieces [] ≡ []
unfolding closed_pieces
closed_pieces-nothing = refl

-- the pieces of these bytes are the closed ones and then the rest; this is shown byte by byte
record HasParts (bytes : List ℕ) : Type 0 where
  parts : pieces bytes ≡ closed_pieces bytes ++ open_rest bytes ∷ []

pieces_newline : (bytes : List ℕ) (b : ℕ) → b ≡ 10 → HasParts bytes → pieces (bytes ++ b ∷ []) ≡ (closed_pieces bytes ++ open_rest bytes ∷ []) ++ [] ∷ []
pieces_newline bytes b e h = slice_split-push (λ c. eqb c 10) bytes b ∙ ap₂ (λ t ps. pushed t b ps) (eq-eqb b 10 e) h.parts

pieces_other : (bytes : List ℕ) (b : ℕ) → (b ≡ 10 → ⊥) → HasParts bytes → pieces (bytes ++ b ∷ []) ≡ closed_pieces bytes ++ (open_rest bytes ++ b ∷ []) ∷ []
pieces_other bytes b e h = slice_split-push (λ c. eqb c 10) bytes b ∙ ap₂ (λ t ps. pushed t b ps) (ne_eqb b 10 e) h.parts ∙ pushed_last b (closed_pieces bytes) (open_rest bytes)

take_prefix : (n : ℕ) (xs ys : List (List ℕ)) → n ≡ length xs → take n (xs ++ ys) ≡ xs
take_prefix n xs ys e = take-append-le n xs ys (omega arith) ∙ take_all n xs (omega arith)

closed_newline : (bytes : List ℕ) (b : ℕ) → b ≡ 10 → HasParts bytes → closed_pieces (bytes ++ b ∷ []) ≡ closed_pieces bytes ++ open_rest bytes ∷ []
unfolding closed_pieces
closed_newline bytes b e h =
    ap (take (newlines (bytes ++ b ∷ []))) (pieces_newline bytes b e h)
    ∙ take_prefix (newlines (bytes ++ b ∷ [])) (closed_pieces bytes ++ open_rest bytes ∷ []) ([] ∷ [])
    (omega (arith, newlines-append bytes (b ∷ []), newlines_one b e, length_pieces bytes, ap length h.parts))

closed_other : (bytes : List ℕ) (b : ℕ) → (b ≡ 10 → ⊥) → HasParts bytes → closed_pieces (bytes ++ b ∷ []) ≡ closed_pieces bytes
unfolding closed_pieces
closed_other bytes b e h =
    ap (take (newlines (bytes ++ b ∷ []))) (pieces_other bytes b e h)
    ∙ take_prefix (newlines (bytes ++ b ∷ [])) (closed_pieces bytes) ((open_rest bytes ++ b ∷ []) ∷ [])
    (omega (arith, newlines-append bytes (b ∷ []), newlines_other b e, length-closed_pieces bytes))

parts_push : (bytes : List ℕ) (b : ℕ) → HasParts bytes → HasParts (bytes ++ b ∷ [])
parts_push bytes b h =
    ⊎_elim
    (λ e. record { parts = pieces_newline bytes b e h ∙ ap₂ (λ front rest. front ++ rest ∷ []) (sym (closed_newline bytes b e h)) (sym (open_rest-newline bytes b e)) })
    (λ e. record { parts = pieces_other bytes b e h ∙ ap₂ (λ front rest. front ++ rest ∷ []) (sym (closed_other bytes b e h)) (sym (open_rest-other bytes b e)) })
    (cases_eq b 10)

-- it holds for more bytes, one after the other
parts_after : (before bytes : List ℕ) → HasParts before → HasParts (before ++ bytes)
parts_after before [] h = subst HasParts (sym (append-nil before)) h
parts_after before (b ∷ bytes) h = subst HasParts (append_assoc before (b ∷ []) bytes) (parts_after (before ++ b ∷ []) bytes (parts_push before b h))

no_parts : HasParts []
unfolding closed_pieces open_rest
no_parts = record { parts = refl }

has_parts : (bytes : List ℕ) → HasParts bytes
has_parts bytes = parts_after [] bytes no_parts

-- the pieces are the closed ones and then the rest
pub pieces_parts : (bytes : List ℕ) → pieces bytes ≡ closed_pieces bytes ++ open_rest bytes ∷ []
pieces_parts bytes = (has_parts bytes).parts

-- a newline closes the rest
pub closed_pieces-newline : (bytes : List ℕ) (b : ℕ) → b ≡ 10 → closed_pieces (bytes ++ b ∷ []) ≡ closed_pieces bytes ++ open_rest bytes ∷ []
closed_pieces-newline bytes b e = closed_newline bytes b e (has_parts bytes)

-- any other byte closes nothing
pub closed_pieces-other : (bytes : List ℕ) (b : ℕ) → (b ≡ 10 → ⊥) → closed_pieces (bytes ++ b ∷ []) ≡ closed_pieces bytes
closed_pieces-other bytes b e = closed_other bytes b e (has_parts bytes)

-- ---- the lines taken

pub lines_taken-nothing : (ended : Bool) → lines_taken [] ended ≡ []
unfolding lines_taken closed_pieces
lines_taken-nothing true = refl
lines_taken-nothing false = refl

pub lines_taken-newline : (bytes : List ℕ) (b : ℕ) → b ≡ 10 → lines_taken (bytes ++ b ∷ []) false ≡ lines_taken bytes false ++ lines_among (open_rest bytes ∷ [])
unfolding lines_taken
lines_taken-newline bytes b e = ap lines_among (closed_pieces-newline bytes b e) ∙ filter-append _ (closed_pieces bytes) (open_rest bytes ∷ [])

pub lines_taken-other : (bytes : List ℕ) (b : ℕ) → (b ≡ 10 → ⊥) → lines_taken (bytes ++ b ∷ []) false ≡ lines_taken bytes false
unfolding lines_taken
lines_taken-other bytes b e = ap lines_among (closed_pieces-other bytes b e)

-- at the end of the input the rest becomes a line
pub lines_taken-end : (bytes : List ℕ) → lines_taken bytes true ≡ lines_taken bytes false ++ lines_among (open_rest bytes ∷ [])
unfolding lines_taken
lines_taken-end bytes = ap lines_among (pieces_parts bytes) ∙ filter-append _ (closed_pieces bytes) (open_rest bytes ∷ [])

-- an empty line is passed over, and any other is a line
pub lines_among_empty : (line : List ℕ) → length line ≡ 0 → lines_among (line ∷ []) ≡ []
lines_among_empty line e = ap (λ n. cond (not (eqb n 0)) (line ∷ []) []) e

pub lines_among_line : (line : List ℕ) → (length line ≡ 0 → ⊥) → lines_among (line ∷ []) ≡ line ∷ []
lines_among_line line h = ap (λ t. cond (not t) (line ∷ []) []) (ne_eqb (length line) 0 h)
