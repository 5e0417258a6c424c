use Rattle.known_pool.proofs.KnownChanged.{IsKnown-made}
use Rattle.known_pool.proofs.laws.made_object_is_followed.Goals as goal

pub returns : goal.returns
returns c = λ frames known next before after g puddles types stored k class type_id map slot made lowest below serial others follows places full.
    IsKnown-made frames known next before after g puddles types stored k class type_id map slot made lowest serial others.each follows places full below
