use Rattle.trust.proofs.classes.+fill.Given as goal

abbrev pub decreases-fill : goal.decreases-fill
decreases-fill l = l.end
