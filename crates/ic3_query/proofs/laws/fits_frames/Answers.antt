use Rattle.ic3_query.proofs.FitLemmas.{frames_fit}
use Rattle.ic3_query.proofs.laws.fits_frames.Goals as goal

pub returns : goal.returns
returns c = frames_fit
