use Rattle.std.proofs.Common.{inl, inr}
use Rattle.std.proofs.lemmas.Bool.{and_from, le-leb, lt-ltb}
use Rattle.word_transaction.proofs.Images.{RecoversTo-local}
use Rattle.word_transaction.proofs.laws.image_recovers_by_its_words_alone.Goals as goal

pub returns : goal.returns
returns c = λ g at values i j same recovers.
    RecoversTo-local g at values i j (λ k inside. same k (inl (and_from _ _ (le-leb _ _ inside.low) (lt-ltb _ _ inside.high)))) (λ k mine. same k (inr mine)) recovers
