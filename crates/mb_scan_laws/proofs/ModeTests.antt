-- The kind bits of a mode tell the kind of the body.
use Rattle.std.proofs.Common.{◌≡◌, ℕ, Bool, true, false, not, nat_eq, ◌||◌, refl, sym, subst, arith}
use Rattle.std.specs.Prelude.{◌==◌}
use Rattle.std.proofs.lemmas.Bool.Decides.{nat_tests}
use Rattle.mb_tree.specs.Inodes.{kind_of, is_directory, is_regular, is_special}
use Rattle.mb_tree.specs.Trees.{HasKind}
use Rattle.mb_tree.specs.Volume.{body_has_addresses}
use Rattle.mb_tree.specs.declared.nodes.Body.{Body}
use Rattle.mb_tree.specs.declared.nodes.Body.TheVariants.{Regular, Directory, Special}

equal : (k n : ℕ) → nat_eq k n ≡ true → k ≡ n
equal k n t = grind (arith, nat_tests)

regular_kind : (k : ℕ) → (k == 0x8000) ≡ true → ((k == 0x2000 || k == 0x6000) ≡ false) × ((k == 0x4000) ≡ false)
regular_kind k t = subst (λ j. ((j == 0x2000 || j == 0x6000) ≡ false) × ((j == 0x4000) ≡ false)) (sym (equal k 0x8000 t)) (refl, refl)

directory_kind : (k : ℕ) → (k == 0x4000) ≡ true → ((k == 0x2000 || k == 0x6000) ≡ false) × ((k == 0x8000) ≡ false)
directory_kind k t = subst (λ j. ((j == 0x2000 || j == 0x6000) ≡ false) × ((j == 0x8000) ≡ false)) (sym (equal k 0x4000 t)) (refl, refl)

special_kind : (k : ℕ) → (k == 0x2000 || k == 0x6000) ≡ true → ((k == 0x4000) ≡ false) × ((k == 0x8000) ≡ false)
special_kind k t =
    elim (k == 0x2000) as (λ b. (k == 0x2000) ≡ b → (b || k == 0x6000) ≡ true → ((k == 0x4000) ≡ false) × ((k == 0x8000) ≡ false)) [
      | true ↦ λ e s. subst (λ j. ((j == 0x4000) ≡ false) × ((j == 0x8000) ≡ false)) (sym (equal k 0x2000 e)) (refl, refl)
      | false ↦ λ e s. subst (λ j. ((j == 0x4000) ≡ false) × ((j == 0x8000) ≡ false)) (sym (equal k 0x6000 s)) (refl, refl)
    ] refl t

-- the tests of a mode, as the body has it
pub record Tests (mode : ℕ) (special directory regular : Bool) : Type 0 where
  pub special_is : is_special mode ≡ special
  pub directory_is : is_directory mode ≡ directory
  pub regular_is : is_regular mode ≡ regular

pub regular_tests : (mode : ℕ) → is_regular mode ≡ true → Tests mode false false true
regular_tests mode t = let k = regular_kind (kind_of mode) t in record { special_is = k.0; directory_is = k.1; regular_is = t }

pub directory_tests : (mode : ℕ) → is_directory mode ≡ true → Tests mode false true false
directory_tests mode t = let k = directory_kind (kind_of mode) t in record { special_is = k.0; directory_is = t; regular_is = k.1 }

pub special_tests : (mode : ℕ) → is_special mode ≡ true → Tests mode true false false
special_tests mode t = let k = special_kind (kind_of mode) t in record { special_is = t; directory_is = k.0; regular_is = k.1 }

abbrev pub is_listing : Body → Bool
is_listing (Regular size parts) = false
is_listing (Directory slots) = true
is_listing (Special size area) = false

abbrev pub is_plain : Body → Bool
is_plain (Regular size parts) = true
is_plain (Directory slots) = false
is_plain (Special size area) = false

pub kind_tests : (mode : ℕ) (body : Body) → HasKind mode body → Tests mode (not (body_has_addresses body)) (is_listing body) (is_plain body)
kind_tests mode (Regular size parts) k = regular_tests mode k
kind_tests mode (Directory slots) k = directory_tests mode k
kind_tests mode (Special size area) k = special_tests mode k
