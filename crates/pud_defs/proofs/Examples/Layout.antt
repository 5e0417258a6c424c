-- What the mode `layout` prints for some devices.
use Rattle.std.proofs.Common.{◌≡◌, ℕ, ◌-◌, ◌^◌, [], ◌∷◌, codes, refl}
use Rattle.pud_defs.specs.declared.layout.TheConstants.{MACHINE_WORD, FRAMES_WORD, NEXT_NUMBER_WORD}
use Rattle.pud_defs.specs.Formats.Image.{Image, image_with}
use Rattle.pud_defs.specs.Formats.Identifiers.{hex_digits}
use Rattle.pud_defs.specs.Formats.Bases.{base_at}
use Rattle.pud_defs.specs.Output.LayoutText.{address_text, layout_text}
use Rattle.pud_defs.proofs.Examples.Opened.{opened}
use Rattle.pud_defs.proofs.Examples.Pools.{lines_said}
use Rattle.pud_defs.proofs.Examples.Tables.{pool_there, puddle_there}

-- the image of a device with this many frames, this machine id and this next UUID number
abbrev device : (frames machine next : ℕ) → Image → Image
device frames machine next image = image_with FRAMES_WORD frames (image_with MACHINE_WORD machine (image_with NEXT_NUMBER_WORD next image))

addresses : (address_text (2 ^ 44) ≡ codes "100000000000") × (address_text (base_at (2 ^ 26 - 1)) ≡ codes "10ffffffc000") × (address_text 0 ≡ codes "000000000000")
unfolding hex_digits
addresses = (refl, refl, refl)

empty_device : layout_text (device 4 7 1 (λ _. 0)) ≡ lines_said (codes "frames 4 used 0 next 1" ∷ [])
unfolding opened
empty_device = refl

-- a pool in slot 0, and in slot 1 an imported pool of an earlier name, whose puddles moved; none of its pointers is
-- rewritten yet
abbrev moved : Image
moved = device 4 7 9 (puddle_there 2 1 1 8 (base_at 2) (base_at 1) 0 (puddle_there 1 1 0 7 (base_at 1) (base_at 0) 0 (puddle_there 0 0 0 5 (base_at 0) (base_at 0) 63 (pool_there 1 97 384 6 (pool_there 0 113 384 4 (λ _. 0))))))

moved_pool : layout_text moved
    ≡ lines_said (codes "frames 4 used 3 next 9"
    ∷ codes "pool a 5 5 600 00000000-0000-0007-0000-000000000006"
    ∷ codes "puddle 0 1 100000004000 100000000000 0 00000000-0000-0007-0000-000000000007 large"
    ∷ codes "puddle 1 2 100000008000 100000004000 0 00000000-0000-0007-0000-000000000008 large"
    ∷ codes "pool q 5 5 600 00000000-0000-0007-0000-000000000004"
    ∷ codes "puddle 0 0 100000000000 100000000000 63 00000000-0000-0007-0000-000000000005 large" ∷ [])
unfolding opened
moved_pool = refl

-- three pools; two of them are imported copies of the first
abbrev copies : Image
copies = device 4 7 7 (puddle_there 2 2 0 6 (base_at 2) (base_at 0) 0 (puddle_there 1 1 0 4 (base_at 1) (base_at 0) 0 (puddle_there 0 0 0 2 (base_at 0) (base_at 0) 63 (pool_there 2 99 384 5 (pool_there 1 98 384 3 (pool_there 0 97 384 1 (λ _. 0)))))))

copied_pools : layout_text copies
    ≡ lines_said (codes "frames 4 used 3 next 7"
    ∷ codes "pool a 5 5 600 00000000-0000-0007-0000-000000000001"
    ∷ codes "puddle 0 0 100000000000 100000000000 63 00000000-0000-0007-0000-000000000002 large"
    ∷ codes "pool b 5 5 600 00000000-0000-0007-0000-000000000003"
    ∷ codes "puddle 0 1 100000004000 100000000000 0 00000000-0000-0007-0000-000000000004 large"
    ∷ codes "pool c 5 5 600 00000000-0000-0007-0000-000000000005"
    ∷ codes "puddle 0 2 100000008000 100000000000 0 00000000-0000-0007-0000-000000000006 large" ∷ [])
unfolding opened
copied_pools = refl
