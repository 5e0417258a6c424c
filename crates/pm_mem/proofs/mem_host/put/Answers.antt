use Rattle.std.proofs.Common.{List, ℕ, Some, ◌∙◌, ap, string_bytes}
use Rattle.pm_model.specs.Calls.{shelved}
use Rattle.pm_mem.specs.Shelves.{shelf_of}
use Rattle.pm_mem.proofs.Shelved.{shelf_of-put}
use Rattle.pm_mem.proofs.mem_host.put.Goals as goal

pub returns-clause-ok : goal.returns-clause-ok
returns-clause-ok c =
    let old = c.args.shelf.now in
    let key = c.in_ok-key.key in
    let file = c.in_ok-file.file in
    shelf_of-put old c.insert.new.self (string_bytes key) file c.in_ok-insert.ensures.updates
    ∙ ap (λ (name : List ℕ). shelved name (Some file.items) (shelf_of old)) c.in_ok-key.ensures.ok
    ∙ ap (λ (bytes : List ℕ). shelved c.args.name.now (Some bytes) (shelf_of old)) c.in_ok-file.ensures.items
