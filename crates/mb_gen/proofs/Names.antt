-- A name of a generated job is a path.
use Rattle.std.proofs.Common.{List, [], ◌∷◌, ℕ, ◌<◌, ◌≢◌, arith}
use Rattle.std.specs.Prelude.{decimal}
use Rattle.std.specs.List.{AllByRecursion}
use Rattle.std.specs.Str.Parse.{AllDigits}
use Rattle.std.proofs.lemmas.Fmt.{decimal_is_IsNumeral, length-decimal-le_succ}
use Rattle.std.proofs.lemmas.List.Elements.{All-from_recursion}
use Rattle.std.proofs.lemmas.Str.Parse.{digit_from_value}
use Rattle.mb_kinds.specs.Texts.{IsPath}
use Rattle.mb_gen.specs.Calls.{name_of}

no_zero : (ds : List ℕ) → AllDigits 10 ds → AllByRecursion (λ byte. byte ≢ 0) ds
no_zero [] all = tt
no_zero (digit ∷ more) all = (λ same. let range = digit_from_value digit all.0 in omega (arith, range), no_zero more all.1)

pub name_is_path : (number : ℕ) → number < 16 → IsPath (name_of number)
name_is_path number small = record {
  short = (let few = length-decimal-le_succ number (omega arith) in omega (arith, few));
  no_zero = All-from_recursion (λ byte. byte ≢ 0) (name_of number) (λ same. omega arith, (λ same. omega arith, no_zero (decimal number) (decimal_is_IsNumeral number (omega arith)).0.1));
}
