use Rattle.std.proofs.Common.{◌≡◌, ◌<◌, drop}
use Rattle.mb_commands.specs.Words.{digits_on}
use Rattle.mb_commands.proofs.numbers.digits.Given as goal

abbrev pub invariant-digits : goal.invariant-digits
invariant-digits l = record {
  below : l.value < 4294967296;
  rest : digits_on l.value (drop l.digit-index l.word) ≡ digits_on 0 l.word;
}
