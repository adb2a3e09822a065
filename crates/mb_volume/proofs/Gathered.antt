-- What a call has that gathered.
use Rattle.std.proofs.Common.{◌≡◌, true, false, Option, None, Some, IfSome, is_some}

never_some : false ≡ true → ⊥
never_some same = cc

-- what is said of a value that is there
pub said_there : {X : Type 0} (o : Option X) (P : Type 0) → is_some o ≡ true → IfSome o (λ _. P) → P
said_there None P some is = absurd (never_some some)
said_there (Some x) P some is = is
