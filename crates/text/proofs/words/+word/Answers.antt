use Rattle.text.specs.Words.{word_at}
use Rattle.text.proofs.WordLaws.{word_next}
use Rattle.text.proofs.words.+word.Goals as goal

pub returns-then-k-eq0 : goal.returns-then-k-eq0
unfolding word_at
returns-then-k-eq0 t c = rw c.if-k-eq0.true c.first_word.ensures

pub returns : goal.returns
returns t c = rw (word_next _ _ c.if-k-eq0.false, ← c.behind_word.ensures) c.word.ensures
