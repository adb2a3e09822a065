use Rattle.std.proofs.Common.{◌≡◌, ◌<◌, drop}
use Rattle.mb_jobs.specs.Numbers.{digits_on}
use Rattle.mb_jobs.proofs.numbers.digits_below.Given as goal

abbrev pub invariant-digits : goal.invariant-digits
invariant-digits l = record {
  below : l.value < l.bound;
  rest : digits_on l.base l.bound l.value (drop l.digit-index l.text) ≡ digits_on l.base l.bound 0 l.text;
}
