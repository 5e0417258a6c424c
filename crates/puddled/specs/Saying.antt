-- Bytes of a text that were printed.
use Rattle.std.specs.Prelude.{◌≡◌, ℕ, List, [], ◌++◌, Option, None}
use Rattle.pm_model.specs.Moments.{State}

-- These bytes are a prefix of the text.
pub record IsPart (bytes text : List ℕ) : Type 0 where
  pub rest : List ℕ
  pub is : text ≡ bytes ++ rest

-- These bytes end with the text.
pub record EndsIn (text bytes : List ℕ) : Type 0 where
  pub front : List ℕ
  pub is : bytes ≡ front ++ text

-- A prefix of the text was printed, and without a fault the whole text.
pub record SaysPart {Fault : Type 0} (text : List ℕ) (fault : Option Fault) (old new : State) : Type 0 where
  pub bytes : List ℕ
  pub rest : List ℕ
  pub part : text ≡ bytes ++ rest
  pub said : new.now.said ≡ old.now.said ++ bytes
  pub whole : fault ≡ None → rest ≡ []
