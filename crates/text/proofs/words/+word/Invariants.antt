use Rattle.text.proofs.words.+word.Given as goal

abbrev pub decreases-word : goal.decreases-word
decreases-word l = l.k
