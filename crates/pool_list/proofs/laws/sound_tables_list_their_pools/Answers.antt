use Rattle.pool_list.proofs.ListedPools.{line_of-listed_text}
use Rattle.pool_list.proofs.laws.sound_tables_list_their_pools.Goals as goal

pub returns : goal.returns
returns c = line_of-listed_text
