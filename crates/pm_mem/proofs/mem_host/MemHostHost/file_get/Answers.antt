use Rattle.std.proofs.Common.{◌≡◌, ℕ, List, Option, Some, None, IsSome, option_map, Vec, take, min, length, refl, ap, subst, ◌∙◌}
use Rattle.std.specs.declared.alloc.Global.{Global}
use Rattle.std.proofs.lemmas.List.{take_min}
use Rattle.pm_model.specs.declared.host.TheConstants.{FILE_READ_LIMIT}
use Rattle.pm_model.specs.Moments.{State}
use Rattle.pm_mem.specs.Shelves.{shelf_of}
use Rattle.pm_mem.proofs.mem_host.MemHostHost.file_get.Goals as goal

pub returns-in-None-clause-found : goal.returns-in-None-clause-found
returns-in-None-clause-found c =
    let here : None ≡ shelf_of c.call.new.self.shelf c.args.name.now = ap (option_map (λ (file : Vec ℕ Global). file.items)) c.in-None.ensures.value in
    λ _. ap (option_map (take FILE_READ_LIMIT)) (here ∙ ap (λ (s : State). s.shelf c.args.name.now) c.call.ensures.state)

pub returns-in-Ok-clause-found : goal.returns-in-Ok-clause-found
returns-in-Ok-clause-found c =
    let file = c.in-Some.file.now in
    let here : Some file.items ≡ shelf_of c.call.new.self.shelf c.args.name.now = ap (option_map (λ (f : Vec ℕ Global). f.items)) c.in-Some.ensures.value in
    let count : c.min-len.result ≡ min FILE_READ_LIMIT (length file.items) = c.min-len.ensures ∙ ap (min FILE_READ_LIMIT) (c.len.ensures ∙ file.ok.0) in
    let copied : c.in-Ok.bytes.items ≡ take FILE_READ_LIMIT file.items =
    c.in-Ok.ensures.items ∙ ap (take c.min-len.result) c.deref.ensures.value ∙ ap (λ (n : ℕ). take n file.items) count ∙ take_min FILE_READ_LIMIT file.items in
    λ _. ap Some copied ∙ ap (option_map (take FILE_READ_LIMIT)) (here ∙ ap (λ (s : State). s.shelf c.args.name.now) c.call.ensures.state)

pub returns-in-Err-from_slice-clause-memory : goal.returns-in-Err-from_slice-clause-memory
returns-in-Err-from_slice-clause-memory c =
    let here : Some c.in-Some.file.now.items ≡ shelf_of c.call.new.self.shelf c.args.name.now = ap (option_map (λ (f : Vec ℕ Global). f.items)) c.in-Some.ensures.value in
    λ _ _. subst (λ (o : Option (List ℕ)). IsSome o) (here ∙ ap (λ (s : State). s.shelf c.args.name.now) c.call.ensures.state) refl
