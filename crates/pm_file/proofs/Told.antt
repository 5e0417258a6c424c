-- Lemmas on what readers tell about their bytes.
use Rattle.std.proofs.Common.{◌≡◌, ℕ, ◌+◌, ◌-◌, ◌≤◌, ◌++◌, List, [], length, take, drop, Option, Some, None, Result, Ok, Err, refl, sym, ap, ◌∙◌, arith, append_assoc}
use Rattle.std.proofs.Math.Seq.{take-append-add}
use Rattle.std.proofs.lemmas.List.{length-take-le, take-append-le}
use borrow.Rule.Slice.PartMut.{put_mid}
use Rattle.std.specs.Io.KnownBytes.{Keeps, Consumes, ReadConsumes}

pub Keeps-refl : (known : Option (List ℕ)) → Keeps known known
Keeps-refl None = tt
Keeps-refl (Some xs) = refl

pub Keeps-then : (old mid new : Option (List ℕ)) → Keeps old mid → Keeps mid new → Keeps old new
Keeps-then None mid new first second = tt
Keeps-then (Some xs) None new first second = absurd first
Keeps-then (Some xs) (Some ys) None first second = absurd second
Keeps-then (Some xs) (Some ys) (Some zs) first second = second ∙ first

pub Consumes-kept : (old mid new : Option (List ℕ)) (bytes : List ℕ) → Keeps old mid → Consumes mid new bytes → Consumes old new bytes
Consumes-kept None mid new bytes keeps takes = tt
Consumes-kept (Some xs) None new bytes keeps takes = absurd keeps
Consumes-kept (Some xs) (Some ys) None bytes keeps takes = absurd takes
Consumes-kept (Some xs) (Some ys) (Some zs) bytes keeps takes = sym keeps ∙ takes

-- A step before a read that took no bytes does not matter.
pub ReadConsumes-kept : {E : Type 0} (old mid new : Option (List ℕ)) (result : Result ℕ E) (piece : List ℕ) → Keeps old mid → ReadConsumes mid new result piece → ReadConsumes old new result piece
ReadConsumes-kept old mid new (Ok n) piece keeps reads = (Consumes-kept old mid new (take n piece) keeps reads.0, reads.1)
ReadConsumes-kept old mid new (Err e) piece keeps reads = Keeps-then old mid new keeps reads

pub Consumes-none : (known : Option (List ℕ)) → Consumes known known []
Consumes-none None = tt
Consumes-none (Some xs) = refl

-- Some bytes were taken, and then some more.
pub Consumes-more : (old mid new : Option (List ℕ)) (bytes more : List ℕ) → Consumes old mid bytes → Consumes mid new more → Consumes old new (bytes ++ more)
Consumes-more None mid new bytes more first second = tt
Consumes-more (Some xs) None new bytes more first second = absurd first
Consumes-more (Some xs) (Some ys) None bytes more first second = absurd second
Consumes-more (Some xs) (Some ys) (Some zs) bytes more first second = first ∙ ap (λ (rest : List ℕ). bytes ++ rest) second ∙ sym (append_assoc bytes more zs)

-- What a read put after the bytes that were there.
pub take-read : (filled count : ℕ) (piece part : List ℕ) → filled ≤ length piece → count ≤ length part → take (filled + count) (put_mid filled (length piece - filled) piece part) ≡ take filled piece ++ take count part
take-read filled count piece part within few =
    let first = take filled piece in
    let rest = drop (length piece - filled) (drop filled piece) in
    let at : length first ≡ filled = length-take-le filled piece within in
    ap (λ (n : ℕ). take (n + count) (first ++ (part ++ rest))) (sym at)
    ∙ take-append-add first (part ++ rest) count
    ∙ ap (λ (more : List ℕ). first ++ more) (take-append-le count part rest few)

-- The same if the read put nothing, and what follows is then cleared.
pub take-read_none : (filled count : ℕ) (piece part new : List ℕ) → filled ≤ length piece → count ≤ length part → count ≡ 0 → take filled new ≡ take filled (put_mid filled (length piece - filled) piece part) → take filled new ≡ take filled piece ++ take count part
take-read_none filled count piece part new within few none before =
    let same : filled ≡ filled + count = omega (arith, none) in
    before ∙ ap (λ (n : ℕ). take n (put_mid filled (length piece - filled) piece part)) same ∙ take-read filled count piece part within few
