use Rattle.std.proofs.Common.{Ok}
use Rattle.osb_sources.proofs.Thinned.{thinned_same}
use Rattle.osb_top.proofs.Coming.{meanwhile_loaded, opens_earlier, uncalled_on}
use Rattle.osb_top.proofs.runs.run_asked.Goals as goal

pub returns-in-Ok-clause-run : goal.returns-in-Ok-clause-run
returns-in-Ok-clause-run g c = record {
  loaded = Ok c.in-Ok.loaded;
  load = rw c.get.ensures.settings at c.in-Ok.ensures.loaded;
  uncalled = uncalled_on c.args.settings.now.store _ _ _ _ _ _ (rw c.get.ensures.settings at c.in-Ok.ensures.uncalled) c.run_loaded.ensures.uncalled;
  run =
      opens_earlier c.args.settings.now 1 c.in-Ok.loaded _ _ _ _ _
      (meanwhile_loaded c.args.settings.now.store _ _ _ _ _ _ c.in-Ok.ensures.held c.in-Ok.ensures.cause.later (rw c.get.ensures.settings at c.in-Ok.ensures.uncalled)) c.run_loaded.ensures.run;
}

pub returns-in-Err-Failed-clause-left : goal.returns-in-Err-Failed-clause-left
returns-in-Err-Failed-clause-left g c = thinned_same _

pub returns-in-Err-NoMemory-clause-left : goal.returns-in-Err-NoMemory-clause-left
returns-in-Err-NoMemory-clause-left g c = thinned_same _
