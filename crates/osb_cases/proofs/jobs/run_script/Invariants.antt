use Rattle.osb_cases.proofs.jobs.run_script.Given as goal

abbrev pub ghosts-lines_wanted : goal.ghosts-lines_wanted
ghosts-lines_wanted a = record { name = a.blank.name; parts = a.blank.parts }
