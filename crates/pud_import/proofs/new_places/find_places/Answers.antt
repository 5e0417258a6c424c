use Rattle.std.proofs.Common.{ℕ, Bool, List, ◌≡◌, ◌+◌, ◌-◌, ◌≤◌, ◌++◌, [], ◌∷◌, map, length, ltb, None, refl, sym, ap, subst, ap₂, ◌∙◌, arith}
use Rattle.std.specs.List.{range_with_len}
use Rattle.std.proofs.lemmas.List.{map-append}
use Rattle.std.proofs.lemmas.List.FromFn.{map-range_with_len_more}
use Rattle.std.proofs.lemmas.Result.{err_from_is_err_and}
use Rattle.pm_model.proofs.Reading.{OnlyReads-none, OnlyReads-then, still_reads}
use Rattle.pud_defs.specs.declared.records.Puddle.{Puddle}
use Rattle.pud_defs.specs.PoolGraphs.ExportFile.{file_puddle}
use Rattle.pud_defs.specs.RegistryTables.Keyed.{first_free, count_used}
use Rattle.pud_defs.specs.RegistryTables.Placement.{IsBaseFor, ArePlacedFrom}
use Rattle.pud_defs.specs.RegistryTables.Tables.{tables_of}
use Rattle.pud_defs.proofs.RegistryTables.TablesOf.{frames_of_tables}
use Rattle.registry.specs.declared.adding.NewPuddle.{NewPuddle}
use Rattle.registry.specs.Adding.{IsAddedWithin}
use Rattle.registry.specs.Placing.{puddle_of_added, added_classes}
use Rattle.pud_import.specs.declared.placing.PlaceFault.TheVariants as faults
use Rattle.pud_import.specs.Contents.{file_image, version_read, type_count_read, puddle_count_read}
use Rattle.pud_import.specs.Places.{IsPuddleAt}
use Rattle.pud_import.proofs.FileChecks.SlotsOfFile.{class_of_file}
use Rattle.pud_import.proofs.FilesPlaced.FreeFrames.{counted_none, counted_more, counted_end, counted_all}
use Rattle.pud_import.proofs.FilesPlaced.PlacedPuddles.{AreFound, found_none, found_more, placed_next}
use Rattle.pud_import.proofs.FilesPlaced.Refusals.{refused_if, refused_for_space}
use Rattle.pud_import.proofs.new_places.find_places.Goals as goal

pub loop-ordinal-init : goal.loop-ordinal-init
loop-ordinal-init g c =
    let F = c.args.frames in
    let slot = c.args.slot in
    let next = c.args.number in
    record {
      count = ap length c.new-puddles.ensures;
      many = ap length c.new-bases.ensures;
      found = subst (λ (ps : List NewPuddle). AreFound F slot next 0 0 c.new-bases.result.items ps) (sym c.new-puddles.ensures) (subst (λ (bs : List ℕ). AreFound F slot next 0 0 bs []) (sym c.new-bases.ensures) (found_none F slot next));
      only_reads = OnlyReads-none;
      classes = ap added_classes c.new-puddles.ensures;
      counted = λ t image same. counted_none (tables_of F image).puddles F;
      turn = λ t image same. subst (λ (ps : List NewPuddle). ArePlacedFrom (tables_of F image) 0 [] [] (map puddle_of_added ps)) (sym c.new-puddles.ensures) tt;
    }

pub returns-in_err-frame-clause-refusal : goal.returns-in_err-frame-clause-refusal
returns-in_err-frame-clause-refusal g c =
    let p = err_from_is_err_and c.from_residual.result c.from_residual.ensures.1 in
    rw (p.1, p.2) (λ t image same none.
    let at = (tables_of c.args.frames image).puddles in
    let F = c.args.frames in
    let from = c.loop-ordinal.from in
    let K = puddle_count_read c.args.view.now in
    refused_for_space (first_free at from (F - from)) c.in_err-frame.field-0.0 (ltb F (count_used at 0 F + K)) (c.in_err-frame.ensures.refusal t image (still_reads c.loop-ordinal.invariant.only_reads t same) none)
    (λ full. counted_end at F c.loop-ordinal.ordinal from K (omega (arith, c.loop-ordinal-test.true, c.puddles-ordinal-end.ensures.counted)) (c.loop-ordinal.invariant.counted t image same) full))

pub loop-ordinal-preserved : goal.loop-ordinal-preserved
loop-ordinal-preserved g c =
    let F = c.args.frames in
    let slot = c.args.slot in
    let next = c.args.number in
    let bytes = c.args.view.now in
    let o = c.loop-ordinal.ordinal in
    let from = c.loop-ordinal.from in
    let bases = c.loop-ordinal.bases.items in
    let puddles = c.loop-ordinal.puddles.items in
    let now = c.loop-ordinal.invariant in
    let frame = c.in_ok-frame.frame in
    let old_base = c.base-old_base.result in
    let a : NewPuddle = record { frame = frame; puddle = record { pool = slot; ordinal = o; number = next + 1 + c.from.result; base = c.in_ok-base.base; old_base = old_base; frontier = 0; class = c.class.result } } in
    let one : IsPuddleAt slot next o a = record { pool = refl; is_ordinal = refl; number = ap (λ (n : ℕ). next + 1 + n) c.from.ensures } in
    let within : IsAddedWithin F a = record {
      frame = c.in_ok-frame.ensures.within;
      slot = c.requires.slot;
      number = omega (arith, c.requires.numbers, c.from.ensures, c.loop-ordinal-test.true, c.puddles-ordinal-end.ensures.counted);
    } in
    record {
      count = omega (arith, c.push-in-loop-ordinal.ensures.len, now.count);
      many = omega (arith, c.push.ensures.len, now.many);
      found =
          subst (λ (ps : List NewPuddle). AreFound F slot next (o + 1) (frame + 1) c.push.new.self.items ps) (sym c.push-in-loop-ordinal.ensures.items)
          (subst (λ (bs : List ℕ). AreFound F slot next (o + 1) (frame + 1) bs (puddles ++ a ∷ [])) (sym c.push.ensures.items) (found_more F slot next o from bases puddles now.found a one within));
      only_reads = OnlyReads-then {fault = None} (OnlyReads-then {fault = None} now.only_reads c.in_ok-frame.ensures.only_reads) c.in_ok-base.ensures.only_reads;
      counted = λ t image same. counted_more (tables_of F image).puddles F o from frame (now.counted t image same) (c.in_ok-frame.ensures.frame t image (still_reads now.only_reads t same));
      classes =
          let puddle = file_puddle (file_image bytes) (version_read bytes) (type_count_read bytes) (puddle_count_read bytes) in
          let class = λ (d : Puddle). d.class in
          let known = c.class.ensures ∙ class_of_file (file_image bytes) (version_read bytes) (type_count_read bytes) (puddle_count_read bytes) o (omega (arith, c.loop-ordinal-test.true, c.puddles-ordinal-end.ensures.counted)) in
          ap added_classes c.push-in-loop-ordinal.ensures.items ∙ map-append (λ (a : NewPuddle). a.puddle.class) puddles (a ∷ []) ∙ ap₂ (λ (cs : List ℕ) (n : ℕ). cs ++ n ∷ []) now.classes known
          ∙ sym (ap (map class) (map-range_with_len_more puddle 0 o o (omega arith)) ∙ map-append class (map puddle (range_with_len 0 o)) (puddle o ∷ []));
      turn = λ t image same.
          let tables = tables_of F image in
          let puddle = file_puddle (file_image bytes) (version_read bytes) (type_count_read bytes) (puddle_count_read bytes) in
          let base = λ (d : Puddle). d.base in
          let wanted = map base (map puddle (range_with_len 0 o)) in
          let longer : map base (map puddle (range_with_len 0 (o + 1))) ≡ wanted ++ old_base ∷ [] =
          ap (map base) (map-range_with_len_more puddle 0 o o (omega arith)) ∙ map-append base (map puddle (range_with_len 0 o)) (puddle o ∷ []) ∙ ap (λ (b : ℕ). wanted ++ b ∷ []) (sym c.base-old_base.ensures) in
          let read = still_reads now.only_reads t same in
          let given = subst (λ (bs : List ℕ). IsBaseFor tables bs old_base a.puddle.base) c.as_slice.ensures.value (c.in_ok-base.ensures.base t image (still_reads {fault = None} c.in_ok-frame.ensures.only_reads t read)) in
          subst (λ (ps : List NewPuddle). ArePlacedFrom tables 0 [] (map base (map puddle (range_with_len 0 (o + 1)))) (map puddle_of_added ps)) (sym c.push-in-loop-ordinal.ensures.items)
          (subst (λ (w : List ℕ). ArePlacedFrom tables 0 [] w (map puddle_of_added (puddles ++ a ∷ []))) (sym longer)
          (placed_next F slot next o from bases puddles now.found a tables wanted (frames_of_tables F image) (now.turn t image same) (c.in_ok-frame.ensures.frame t image read) given));
    }

pub returns-clause-refusal : goal.returns-clause-refusal
returns-clause-refusal g c = λ t image same none.
    let K = puddle_count_read c.args.view.now in
    let past : K ≤ c.loop-ordinal.ordinal = omega (arith, c.loop-ordinal-test.false, c.puddles-ordinal-end.ensures.counted) in
    sym (ap (λ (b : Bool). refused_if b faults.NoSpace) (counted_all (tables_of c.args.frames image).puddles c.args.frames c.loop-ordinal.ordinal c.loop-ordinal.from K past (c.loop-ordinal.invariant.counted t image same)))

pub returns-clause-turn : goal.returns-clause-turn
returns-clause-turn g c = λ t image same.
    let bytes = c.args.view.now in
    let puddle = file_puddle (file_image bytes) (version_read bytes) (type_count_read bytes) (puddle_count_read bytes) in
    let whole : c.loop-ordinal.ordinal ≡ puddle_count_read bytes = omega (arith, c.puddles-ordinal-end.ensures.counted, c.loop-ordinal-test.false, c.loop-ordinal.auto.ordinal-end) in
    subst (λ (n : ℕ). ArePlacedFrom (tables_of c.args.frames image) 0 [] (map (λ (d : Puddle). d.base) (map puddle (range_with_len 0 n))) (map puddle_of_added c.loop-ordinal.puddles.items)) whole (c.loop-ordinal.invariant.turn t image same)

pub returns-clause-classes : goal.returns-clause-classes
returns-clause-classes g c =
    let bytes = c.args.view.now in
    let puddle = file_puddle (file_image bytes) (version_read bytes) (type_count_read bytes) (puddle_count_read bytes) in
    let whole : c.loop-ordinal.ordinal ≡ puddle_count_read bytes = omega (arith, c.puddles-ordinal-end.ensures.counted, c.loop-ordinal-test.false, c.loop-ordinal.auto.ordinal-end) in
    c.loop-ordinal.invariant.classes ∙ ap (λ (n : ℕ). map (λ (d : Puddle). d.class) (map puddle (range_with_len 0 n))) whole
