use Rattle.std.proofs.Common.{◌≡◌, ℕ, ◌+◌, ◌-◌, ◌<◌, List, [], ◌∷◌, ◌++◌, length, sym, ap, ◌∙◌, subst, arith}
use Rattle.std.specs.Prelude.{All}
use Rattle.std.proofs.lemmas.List.{length_push}
use Rattle.std.proofs.lemmas.List.Elements.{All-nil, All-push}
use Rattle.arrayvec.specs.ArrayVec.{ArrayVec}
use Rattle.pud_defs.specs.declared.layout.TheConstants.{TYPE_RECORDS}
use Rattle.pud_defs.specs.RegistryTables.Types.{type_record_at, type_at}
use Rattle.pud_defs.proofs.RegistryTables.TypeTable.{type_at-free, type_at-used}
use Rattle.type_maps.specs.FreeRecords.{free_places, free_records}
use Rattle.type_maps.proofs.FreeRecords.{free_places_here, free_places_used, free_places_end, Gathers, Gathers-start, Gathers-more, Gathers-full, Gathers-end, fewer_free}
use Rattle.pm_model.proofs.Reading.{OnlyReads-none, OnlyReads-then, still_reads}
use Rattle.type_maps.proofs.free.free_records.Goals.{then-used_by-eq0+then-len-count, else-used_by-eq0, else-used_by-eq0-via-then-used_by-eq0+else-len-count, else-used_by-eq0-via-else-used_by-eq0}
use Rattle.type_maps.proofs.free.free_records.Goals as goal

pub loop-record-init : goal.loop-record-init
loop-record-init g c =
    let none = c.new-free.ensures in
    record {
      only_reads = OnlyReads-none;
      low = omega (arith, ap length none);
      few = omega (arith, ap length none);
      within = subst (λ (ns : List ℕ). All (λ n. n < TYPE_RECORDS) ns) (sym none) (All-nil (λ n. n < TYPE_RECORDS));
      gathers = λ t image same. subst (λ (ns : List ℕ). Gathers c.args.count (free_records image) ns (free_records image)) (sym none) (Gathers-start c.args.count (free_records image));
    }

pub loop-record-preserved : goal.loop-record-preserved
loop-record-preserved g c =
    let i = c.loop-record.record in
    let was = c.loop-record.invariant in
    let so_far = c.loop-record.free.items in
    let now = c.if-used_by-eq0.free.items in
    record {
      only_reads = OnlyReads-then was.only_reads c.in_ok-used_by.ensures.only_reads;
      low = elim c.if-used_by-eq0.branch [
        | then-used_by-eq0+then-len-count w ↦
            let longer : now ≡ so_far ++ i ∷ [] = ap (λ (v : ArrayVec ℕ). v.items) w.free-is ∙ w.push.ensures.items in
            omega (arith, ap length longer, length_push so_far i)
        | else-used_by-eq0 w ↦ let kept : now ≡ so_far = ap (λ (v : ArrayVec ℕ). v.items) w.free-is in omega (arith, ap length kept)
      ];
      few = elim c.if-used_by-eq0.branch [
        | then-used_by-eq0+then-len-count w ↦
            let longer : now ≡ so_far ++ i ∷ [] = ap (λ (v : ArrayVec ℕ). v.items) w.free-is ∙ w.push.ensures.items in
            omega (arith, ap length longer, length_push so_far i)
        | else-used_by-eq0 w ↦ let kept : now ≡ so_far = ap (λ (v : ArrayVec ℕ). v.items) w.free-is in omega (arith, ap length kept)
      ];
      within = elim c.if-used_by-eq0.branch [
        | then-used_by-eq0+then-len-count w ↦
            let longer : now ≡ so_far ++ i ∷ [] = ap (λ (v : ArrayVec ℕ). v.items) w.free-is ∙ w.push.ensures.items in
            subst (λ (ns : List ℕ). All (λ n. n < TYPE_RECORDS) ns) (sym longer) (All-push (λ n. n < TYPE_RECORDS) so_far i was.within (omega arith))
        | else-used_by-eq0 w ↦ let kept : now ≡ so_far = ap (λ (v : ArrayVec ℕ). v.items) w.free-is in subst (λ (ns : List ℕ). All (λ n. n < TYPE_RECORDS) ns) (sym kept) was.within
      ];
      gathers = λ t image same.
          let before = still_reads was.only_reads t same in
          let word : c.in_ok-used_by.used_by ≡ image (type_record_at i) = c.in_ok-used_by.ensures.value t ∙ (λ x. before x (c.type_record_at.ensures x)) in
          let rest = free_places (type_at image) i (TYPE_RECORDS - i) in
          let later = free_places (type_at image) (i + 1) (TYPE_RECORDS - (i + 1)) in
          let g_was = was.gathers t image same in
          elim c.if-used_by-eq0.branch [
            | then-used_by-eq0+then-len-count w ↦
                let longer : now ≡ so_far ++ i ∷ [] = ap (λ (v : ArrayVec ℕ). v.items) w.free-is ∙ w.push.ensures.items in
                let here = free_places_here (type_at image) i TYPE_RECORDS (omega arith) (type_at-free image i (omega arith)) in
                subst (λ (ns : List ℕ). Gathers c.args.count (free_records image) ns later) (sym longer)
                (Gathers-more c.args.count (free_records image) so_far rest later i (omega arith) here (length_push so_far i) g_was)
            | else-used_by-eq0 w ↦
                let kept : now ≡ so_far = ap (λ (v : ArrayVec ℕ). v.items) w.free-is in
                subst (λ (ns : List ℕ). Gathers c.args.count (free_records image) ns later) (sym kept)
                (elim w.else-used_by-eq0.branch [
                  | else-used_by-eq0-via-then-used_by-eq0+else-len-count f ↦ Gathers-full c.args.count (free_records image) so_far rest later (omega arith) g_was
                  | else-used_by-eq0-via-else-used_by-eq0 f ↦
                      let used = free_places_used (type_at image) i TYPE_RECORDS (image (type_record_at i), image (type_record_at i + 1)) (omega arith) (type_at-used image i (λ zero. absurd (omega arith))) in
                      subst (λ (ns : List ℕ). Gathers c.args.count (free_records image) so_far ns) used g_was
                ])
          ];
    }

pub returns-then-len-count-2-clause-none : goal.returns-then-len-count-2-clause-none
returns-then-len-count-2-clause-none g c = λ t image same.
    let end = free_places_end (type_at image) c.loop-record.record TYPE_RECORDS (omega arith) in
    let are = Gathers-end c.args.count (free_records image) c.loop-record.free.items (free_places (type_at image) c.loop-record.record (TYPE_RECORDS - c.loop-record.record)) end (c.loop-record.invariant.gathers t image same) in
    fewer_free c.args.count (free_records image) c.loop-record.free.items are (omega arith)
