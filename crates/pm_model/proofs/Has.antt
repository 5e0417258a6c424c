-- Whether a list has a value.
use Rattle.std.proofs.Common.{◌⊎◌, inl, inr, List, [], ◌∷◌, ◌++◌}
use Rattle.pm_model.specs.Words.{Has}

pub Has-append_cases : {X : Type 0} (xs ys : List X) (x : X) → Has (xs ++ ys) x → Has xs x ⊎ Has ys x
Has-append_cases [] ys x h = inr h
Has-append_cases (z ∷ xs) ys x (inl e) = inl (inl e)
Has-append_cases (z ∷ xs) ys x (inr h) = elim (Has-append_cases xs ys x h) [ inl a ↦ inl (inr a) | inr b ↦ inr b ]

pub Has-append_left : {X : Type 0} (xs ys : List X) (x : X) → Has xs x → Has (xs ++ ys) x
Has-append_left [] ys x h = absurd h
Has-append_left (z ∷ xs) ys x (inl e) = inl e
Has-append_left (z ∷ xs) ys x (inr h) = inr (Has-append_left xs ys x h)

pub Has-append_right : {X : Type 0} (xs ys : List X) (x : X) → Has ys x → Has (xs ++ ys) x
Has-append_right [] ys x h = h
Has-append_right (z ∷ xs) ys x h = inr (Has-append_right xs ys x h)
