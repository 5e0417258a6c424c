use Rattle.std.proofs.Common.{◌≡◌, Bool, cond, Some, None, option_map, is_some, nat_lt, sym, ap, ◌∙◌}
use Rattle.known_pool.specs.Known.{Known, index_entries}
use Rattle.known_pool.proofs.Asking.{referenced_there}
use Rattle.known_pool.proofs.KnownPool.is_referenced.Goals as goal

pub returns-then-is_some-clause-referenced : goal.returns-then-is_some-clause-referenced
returns-then-is_some-clause-referenced g c = λ t image same known graph stored.
    let kept : c.args.self.now.index ≡ Some (index_entries c.in-Some.index) =
    ap (λ (k : Known). k.index) (sym c.self.view_is) ∙ ap (λ (b : Bool). cond b (option_map index_entries c.self.inside.index) None) c.if-self.true ∙ ap (option_map index_entries) c.in-Some.is in
    ap (nat_lt 0) c.references.ensures
    ∙ referenced_there c.args.frames image c.args.self.now known c.args.s c.in-Some.index kept graph stored (ap is_some (sym c.find.ensures) ∙ sym c.is_some.ensures ∙ c.if-is_some.true)
