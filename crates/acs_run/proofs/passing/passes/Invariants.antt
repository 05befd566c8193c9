use Rattle.acs_run.proofs.passing.passes.Given as goal

abbrev pub ghosts-has : goal.ghosts-has
ghosts-has a = record { name = a.blank.name; parts = a.blank.parts }
