-- What a word is to a command without options: `--`, a refused word, or a value.
use Rattle.std.proofs.Common.{◌≡◌, ◌∙◌, ℕ, Bool, codes, true, false, zero, suc, refl, sym, ap, subst, List, [], ◌∷◌, length, Option, Some, None, eqb-true}
use Rattle.std.specs.Prelude.{◌==◌, bytes_eq, encode_utf8, drop, slice_get}
use Rattle.std.specs.Option.{option_map_or}
use Rattle.std.specs.Str.{chars}
use Rattle.std.proofs.Math.Bool.{and-false}
use Rattle.clap.specs.Lexer.{long_of, name_and_value, short_of}
use Rattle.clap.specs.Walk.{Held, Row, Rule, Text, after_flag, arg_by_long, arg_by_short, idle, long_or_other, plain, short_or_plain, value}
use Rattle.clap.specs.Faults.{bundle_fault, bundle_step_fault, flag_word_fault, flags_fault, long_fault, short_fault}
use Rattle.clap.specs.declared.error.kind.ErrorKind.TheVariants.{UnknownArgument}
use Rattle.clap.proofs.WalkLemmas.{bundle_ends}
use Rattle.pud_defs.specs.StateMachine.Grammar.{decimal_of, number_within}

-- no argument is an option
pub record HasNoOptions (rules : List Rule) : Type 0 where
  pub long : (name : Text) → arg_by_long rules name ≡ None
  pub short : (flag : ℕ) → arg_by_short rules flag ≡ None

-- what the walk keeps between two words
abbrev pub holding : List Row → Option (Text × List Text) → Held
holding rows pending = record { rows = rows; pending = pending; skip = 0 }

-- the word is no argument of the command, and no number
pub record IsRefused (rules : List Rule) (word : Text) : Type 0 where
  pub kinds : (again : Bool) (rows : List Row) (pending : Option (Text × List Text))
      → flag_word_fault rules again (long_of word) word (holding rows pending) ≡ UnknownArgument ∷ []
  pub number : (least end : ℕ) → number_within least end word ≡ None

-- the word goes to a positional argument
pub record IsValue (rules : List Rule) (word : Text) : Type 0 where
  pub kinds : (again : Bool) (rows : List Row) (pending : Option (Text × List Text)) → flag_word_fault rules again (long_of word) word (holding rows pending) ≡ []
  pub step : (rows : List Row) (pending : Option (Text × List Text))
      → long_or_other rules idle word (long_of word) (holding rows pending) ≡ (holding rows pending, value)

pub data WordKind (rules : List Rule) (word : Text) : Type 0 where
  dashes : bytes_eq word (codes "--") ≡ true → WordKind rules word
  refused : bytes_eq word (codes "--") ≡ false → IsRefused rules word → WordKind rules word
  positional : bytes_eq word (codes "--") ≡ false → IsValue rules word → WordKind rules word

-- a word that begins with a hyphen is no number
hyphen_is_no_number : (bytes : Text) (least end : ℕ) → number_within least end (45 ∷ bytes) ≡ None
unfolding decimal_of
hyphen_is_no_number bytes least end = rw (and-false _) refl

module _ (rules : List Rule) where
  -- a word that is no flag is a value
  flagless : (word : Text) → long_of word ≡ None → short_of word ≡ None → IsValue rules word
  flagless word long short = record {
    kinds = λ again rows pending. ap (λ o. flag_word_fault rules again o word (holding rows pending)) long
        ∙ ap (λ o. option_map_or (λ flags. bundle_fault rules again flags (holding rows pending)) o []) short;
    step = λ rows pending. ap (λ o. long_or_other rules idle word o (holding rows pending)) long ∙ ap (λ o. short_or_plain rules idle word o (holding rows pending)) short;
  }

  module _ (none : HasNoOptions rules) where
    -- `--name` is refused
    long_word : (byte : ℕ) (bytes : Text) → IsRefused rules (45 ∷ 45 ∷ byte ∷ bytes)
    long_word byte bytes = record {
      kinds = λ again rows pending. ap (λ o. long_fault rules again o (name_and_value (byte ∷ bytes)).1 (holding rows pending)) (none.long (name_and_value (byte ∷ bytes)).0);
      number = hyphen_is_no_number (45 ∷ byte ∷ bytes);
    }

    double_hyphen : (bytes : Text) → WordKind rules (45 ∷ 45 ∷ bytes)
    double_hyphen [] = dashes refl
    double_hyphen (byte ∷ bytes) = refused refl (long_word byte bytes)

    -- `-abc`, decided by its first character
    module _ (word flags : Text) (long : long_of word ≡ None) (short : short_of word ≡ Some flags) where
      of_bundle : (again : Bool) (rows : List Row) (pending : Option (Text × List Text))
          → flag_word_fault rules again (long_of word) word (holding rows pending) ≡ bundle_fault rules again flags (holding rows pending)
      of_bundle again rows pending = ap (λ o. flag_word_fault rules again o word (holding rows pending)) long
          ∙ ap (λ o. option_map_or (λ fs. bundle_fault rules again fs (holding rows pending)) o []) short

      read_none : (n : ℕ) (again : Bool) (h : Held) → slice_get (chars flags) 0 ≡ None → flags_fault rules again n flags 0 h ≡ []
      unfolding flags_fault
      read_none zero again h first = refl
      read_none (suc n) again h first = ap (λ o. bundle_step_fault rules again o flags 0 h (flags_fault rules again n)) first

      read_one : (n : ℕ) (again : Bool) (h : Held) (flag : ℕ) → slice_get (chars flags) 0 ≡ Some flag → flags_fault rules again (suc n) flags 0 h ≡ UnknownArgument ∷ []
      unfolding flags_fault
      read_one n again h flag first =
          let rest : Text = drop (length (encode_utf8 flag)) flags in
          ap (λ o. bundle_step_fault rules again o flags 0 h (flags_fault rules again n)) first
          ∙ ap (λ o. short_fault rules again o rest h (flags_fault rules again n rest 0)) (none.short flag)

      no_flag : slice_get (chars flags) 0 ≡ None → IsValue rules word
      no_flag first = record {
        kinds = λ again rows pending. of_bundle again rows pending ∙ read_none (length flags) again (holding rows pending) first;
        step = λ rows pending.
            ap (λ o. long_or_other rules idle word o (holding rows pending)) long ∙ ap (λ o. short_or_plain rules idle word o (holding rows pending)) short
            ∙ ap (λ (p : Held × _). after_flag rules idle word p.0 p.1) (sym (bundle_ends rules (length flags) flags 0 plain (holding rows pending) (sym first)));
      }

    one_hyphen : (byte : ℕ) (bytes : Text) → (byte == 45) ≡ false → WordKind rules (45 ∷ byte ∷ bytes)
    one_hyphen byte bytes other = by_first (slice_get (chars (byte ∷ bytes)) 0) refl
      where
        long : long_of (45 ∷ byte ∷ bytes) ≡ None
        long = rw other refl

        short : short_of (45 ∷ byte ∷ bytes) ≡ Some (byte ∷ bytes)
        short = rw other refl

        differs : bytes_eq (45 ∷ byte ∷ bytes) (codes "--") ≡ false
        differs = rw other refl

        by_first : (o : Option ℕ) → slice_get (chars (byte ∷ bytes)) 0 ≡ o → WordKind rules (45 ∷ byte ∷ bytes)
        by_first None first = positional differs (no_flag (45 ∷ byte ∷ bytes) (byte ∷ bytes) long short first)
        by_first (Some flag) first = refused differs (record {
          kinds = λ again rows pending. of_bundle (45 ∷ byte ∷ bytes) (byte ∷ bytes) long short again rows pending
              ∙ read_one (45 ∷ byte ∷ bytes) (byte ∷ bytes) long short (length bytes) again (holding rows pending) flag first;
          number = hyphen_is_no_number (byte ∷ bytes);
        })

    hyphen : (bytes : Text) → WordKind rules (45 ∷ bytes)
    hyphen [] = positional refl (flagless (45 ∷ []) refl refl)
    hyphen (byte ∷ bytes) = by_second (byte == 45) refl
      where
        by_second : (b : Bool) → (byte == 45) ≡ b → WordKind rules (45 ∷ byte ∷ bytes)
        by_second true is = subst (λ x. WordKind rules (45 ∷ x ∷ bytes)) (sym (eqb-true byte 45 is)) (double_hyphen bytes)
        by_second false other = one_hyphen byte bytes other

    pub word_kind : (word : Text) → WordKind rules word
    word_kind [] = positional refl (flagless [] refl refl)
    word_kind (byte ∷ bytes) = by_first (byte == 45) refl
      where
        by_first : (b : Bool) → (byte == 45) ≡ b → WordKind rules (byte ∷ bytes)
        by_first true is = subst (λ x. WordKind rules (x ∷ bytes)) (sym (eqb-true byte 45 is)) (hyphen bytes)
        by_first false other = positional (rw other refl) (flagless (byte ∷ bytes) (rw other refl) (rw other refl))
