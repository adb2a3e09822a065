-- The printed text of the cause why a job is refused.
use Rattle.std.specs.Prelude.{List, ℕ, ◌++◌, ◌∷◌, [], codes, decimal}
use Rattle.mb_jobs.specs.declared.jobs.JobFault.{JobFault}
use Rattle.mb_jobs.specs.declared.jobs.JobFault.TheVariants.{TooLong, NotToml, BadKey, BadCall, BadFault, BadOrder, NoMemory}

-- the cause; want of memory is none of the job's, and has the line of its own that the program prints
abbrev pub cause_text : JobFault → List ℕ
cause_text TooLong = codes "too long"
cause_text NotToml = codes "not toml"
cause_text (BadKey key) = codes "key " ++ key
cause_text (BadCall index) = codes "call " ++ decimal index
cause_text (BadFault index) = codes "fault " ++ decimal index
cause_text (BadOrder place) = codes "order " ++ decimal place
cause_text NoMemory = codes "no memory"

-- the line that is printed, `job refused: ` and the cause, ended by a newline (10)
abbrev pub refused_text : JobFault → List ℕ
refused_text fault = codes "job refused: " ++ cause_text fault ++ 10 ∷ []
