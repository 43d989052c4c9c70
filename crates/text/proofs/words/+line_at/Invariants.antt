use Rattle.text.proofs.words.+line_at.Given as goal

abbrev pub decreases-line_at : goal.decreases-line_at
decreases-line_at l = l.k
