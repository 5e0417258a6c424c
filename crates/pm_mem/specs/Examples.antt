-- What the definitions give for small values, by computation.
use Rattle.std.specs.Prelude.{◌≡◌, true, false, [], ◌∷◌, Some, refl}
use Rattle.pm_model.specs.Words.{Cell, durable, single, stored, marked, fenced}
use Rattle.pm_mem.specs.declared.event.Event.TheVariants.{Store, Blank}
use Rattle.pm_model.specs.Picking.{keeps_newest}
use Rattle.pm_mem.specs.Events.{image_picked, blanked}
use Rattle.pm_mem.specs.Rows.{marked_value}
use Rattle.pm_mem.specs.Turns.{is_listed, planned}

-- The first entry for a step counts.
first_entry : planned ((1, 5) ∷ (2, 7) ∷ (2, 9) ∷ []) 2 ≡ Some 7
first_entry = refl

-- No plan lists the number at which the count of calls stops.
listed : is_listed (3 ∷ 4294967295 ∷ []) 3 ≡ true
listed = refl

not_listed : is_listed (3 ∷ 4294967295 ∷ []) 4294967295 ≡ false
not_listed = refl

-- Bits 1 and 2 are set in 6. Word 65 has the bit of word 1.
clear_bit : keeps_newest 6 0 ≡ false
clear_bit = refl

set_bit : keeps_newest 6 65 ≡ true
set_bit = refl

-- Pick 1 takes each word's newest value, not only that of word 0.
whole : keeps_newest 1 5 ≡ true
whole = refl

-- A value that was marked and then overwritten: a fence makes it durable.
abbrev used : Cell
used = stored 9 (marked (stored 7 (single 4)))

left_at_pick_0 : image_picked 0 (λ k. used) 3 ≡ 4
left_at_pick_0 = refl

left_at_pick_1 : image_picked 1 (λ k. used) 3 ≡ 9
left_at_pick_1 = refl

fenced_value : durable (fenced used) ≡ 7
fenced_value = refl

marked_is : marked_value used ≡ 7
marked_is = refl

poked_store : blanked 3 (Store 3 8) ≡ Blank
poked_store = refl

other_store : blanked 3 (Store 4 8) ≡ Store 4 8
other_store = refl
