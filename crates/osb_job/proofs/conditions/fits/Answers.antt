use Rattle.std.proofs.lemmas.Result.{IfOk-weaker}
use Rattle.osb_job.proofs.conditions.fits.Goals as goal

pub returns-in-Chunk : goal.returns-in-Chunk
returns-in-Chunk c = rw c.in-Chunk.is (IfOk-weaker c.fits_chunk.result _ _ (λ fits h. h c.args.plan.now) c.fits_chunk.ensures)
