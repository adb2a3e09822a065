use Rattle.mb_call_texts.proofs.JobCalls.{jobs_read_back}
use Rattle.mb_call_texts.proofs.laws.jobs_read_back.Goals as goal

pub returns : goal.returns
returns c = jobs_read_back
