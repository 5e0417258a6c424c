use Rattle.known_pool.proofs.KnownChanged.{IsKnown-freed}
use Rattle.known_pool.proofs.laws.freed_object_is_followed.Goals as goal

pub returns : goal.returns
returns c = λ frames known next before after g puddles types stored k s slot freed of there serial others releases places full.
    IsKnown-freed frames known next before after g puddles types stored k s slot of freed there serial others.each releases places full
