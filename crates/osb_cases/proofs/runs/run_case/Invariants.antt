use Rattle.osb_cases.proofs.runs.run_case.Given as goal

abbrev pub ghosts-make_run : goal.ghosts-make_run
ghosts-make_run a = record { name = a.blank.name; parts = a.blank.parts }
