-- Entries with deferred values give to the words of one of several pools what those entries give that name words of it.
use Rattle.std.proofs.Common.{◌≡◌, inl, inr, ℕ, Bool, true, false, List, [], ◌∷◌, Option, None, sym, ap, ap₂, ◌∙◌}
use Rattle.std.specs.Prelude.{All, unwrap_or}
use Rattle.std.specs.List.{filter}
use Rattle.std.proofs.lemmas.Bool.{cases_Bool, cond-true, cond-false}
use Rattle.std.proofs.lemmas.List.Elements.{All-head, All-tail}
use Rattle.pud_defs.specs.Formats.Image.{Image}
use Rattle.pud_defs.specs.Logging.Entries.{Entry}
use Rattle.pud_defs.specs.Logging.Replay.{AddressMap, value_from, value_in, overwritten}
use Rattle.word_transaction.specs.Scope.{written_in_turn}

module _ (whole part : AddressMap) (mine : ℕ → Bool) (named : Entry → Bool) where
  -- An entry that names words of the part names the same ones by both address maps. Any other entry names none of them.
  pub record Parts (e : Entry) : Type 0 where
    pub within : named e ≡ true → whole e.address ≡ part e.address
    pub without : named e ≡ false → (k : ℕ) → mine k ≡ true → value_in whole e k ≡ None

  -- the two images agree on the words of the part
  abbrev Alike : Image → Image → Type 0
  Alike i j = (k : ℕ) → mine k ≡ true → i k ≡ j k

  both_written : (e : Entry) (i j : Image) → whole e.address ≡ part e.address → Alike i j → Alike (overwritten (value_in whole e) i) (overwritten (value_in part e) j)
  both_written e i j same alike k own = ap₂ unwrap_or (ap (λ (o : Option ℕ). value_from o e.vals k) same) (alike k own)

  one_written : (e : Entry) (i j : Image) → ((k : ℕ) → mine k ≡ true → value_in whole e k ≡ None) → Alike i j → Alike (overwritten (value_in whole e) i) j
  one_written e i j none alike k own = ap (λ (o : Option ℕ). unwrap_or o (i k)) (none k own) ∙ alike k own

  -- the values written in turn over such images are the same on the words of the part
  pub written-part : (redo : List Entry) (i j : Image) → All Parts redo → Alike i j → Alike (written_in_turn whole redo i) (written_in_turn part (filter named redo) j)
  written-part [] i j all alike k own = alike k own
  written-part (e ∷ es) i j all alike k own =
      let here = All-head Parts e es all in
      let rest = All-tail Parts e es all in
      elim (cases_Bool (named e)) [
        | inl is ↦
            written-part es (overwritten (value_in whole e) i) (overwritten (value_in part e) j) rest (both_written e i j (here.within is) alike) k own
            ∙ ap (λ (xs : List Entry). written_in_turn part xs j k) (sym (cond-true _ _ _ is))
        | inr not ↦
            written-part es (overwritten (value_in whole e) i) j rest (one_written e i j (here.without not) alike) k own
            ∙ ap (λ (xs : List Entry). written_in_turn part xs j k) (sym (cond-false _ _ _ not))
      ]
