use Rattle.mb_gen.proofs.Fitness.{generated_are_fit}
use Rattle.mb_gen.proofs.laws.generated_are_fit.Goals as goal

pub returns : goal.returns
returns c = generated_are_fit
