use Rattle.mb_blocks.proofs.WorkedExamples.{put_back, fresh_chain, small_file}
use Rattle.mb_blocks.proofs.laws.worked_numbers.Goals as goal

pub returns : goal.returns
returns c = record { put_back = put_back; fresh = fresh_chain; small_file = small_file }
