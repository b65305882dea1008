use Rattle.osb_cases.proofs.schedules.run_alone.Given as goal

abbrev pub ghosts-serial_by : goal.ghosts-serial_by
ghosts-serial_by a = record { name = a.blank.name; parts = a.blank.parts }
