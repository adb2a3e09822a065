use Rattle.std.proofs.Common.{◌≡◌, nat_eq, cond, drop}
use Rattle.std.specs.List.{list_all}
use Rattle.mb_rules.specs.Slots.{is_padded}
use Rattle.mb_check.proofs.slots.is_padded.Given as goal

-- what is left of the name decides
abbrev pub invariant-loop-byte : goal.invariant-loop-byte
invariant-loop-byte l = is_padded l.name ≡ cond l.ended (list_all (nat_eq 0) (drop l.byte-index l.name)) (is_padded (drop l.byte-index l.name))
