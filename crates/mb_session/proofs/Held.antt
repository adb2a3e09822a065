-- Counts of open files, one more at a time.
use Rattle.std.proofs.Common.{◌≡◌, ◌≢◌, ℕ, ◌+◌, ◌≤◌, ◌<◌, List, [], ◌∷◌, ◌++◌, length, take, get_or, sum_by, Bool, true, false, inl, inr, if◌then◌else◌, Option, Some, None, unwrap_or, nat_eq, sym, ap, ◌∙◌, arith}
use Rattle.std.proofs.lemmas.Bool.Decides.{nat_tests}
use Rattle.std.proofs.lemmas.List.{take_more}
use Rattle.std.proofs.lemmas.List.Sums.{sum_by-append, sum_by-cons}
use Rattle.std.specs.FinMap as fin
use Rattle.std.specs.FinMap.{get-empty}
use Rattle.std.specs.Ordering.{nat_cmp}
use Rattle.mb_iface.specs.OpenCounts.{count_of, with_count}
use Rattle.mb_iface.proofs.CountMaps.{with_some}
use Rattle.mb_tree.proofs.FiniteMaps.{one_or_not, get_here, get_there}
use Rattle.mb_tree.proofs.Sums.{sum_few}
use Rattle.mb_tree.specs.Sessions.{held_by, held_in}
use Rattle.mb_tree.specs.declared.seats.PlainFile.{PlainFile}
use Rattle.mb_tree.specs.declared.seats.Seat.{Seat}

abbrev pub OpenCounts : Type 0
OpenCounts = fin.FinMap nat_cmp ℕ

above_none : (count : ℕ) → count + 1 ≢ 0
above_none count e = omega (arith, e)

count_here : (opens : OpenCounts) (ino count : ℕ) → count_of (with_count opens ino (count + 1)) ino ≡ count + 1
count_here opens ino count =
    ap (λ (o : OpenCounts). count_of o ino) (with_some opens ino (count + 1) (above_none count)) ∙ ap (λ o. unwrap_or o 0) (get_here opens ino (count + 1))

count_there : (opens : OpenCounts) (ino count other : ℕ) → other ≢ ino → count_of (with_count opens ino (count + 1)) other ≡ count_of opens other
count_there opens ino count other apart =
    ap (λ (o : OpenCounts). count_of o other) (with_some opens ino (count + 1) (above_none count)) ∙ ap (λ o. unwrap_or o 0) (get_there opens ino (count + 1) other apart)

-- one open file more is counted
pub file_counted : (opens : OpenCounts) (file : PlainFile) (count : ℕ) → count ≡ count_of opens file.ino
    → (ino : ℕ) → count_of (with_count opens file.ino (count + 1)) ino ≡ count_of opens ino + held_by ino (Some file)
file_counted opens file count is ino = elim (one_or_not ino file.ino) [
  | inl same ↦
      let test : nat_eq file.ino ino ≡ true = grind (arith, nat_tests) in
      let one : held_by ino (Some file) ≡ 1 = ap (λ b. if◌then◌else◌ {A = ℕ} b 1 0) test in
      let here : count_of (with_count opens file.ino (count + 1)) ino ≡ count + 1 =
      ap (count_of (with_count opens file.ino (count + 1))) same ∙ count_here opens file.ino count in
      let old : count ≡ count_of opens ino = is ∙ ap (count_of opens) (sym same) in
      omega (arith, here, one, old)
  | inr apart ↦
      let test : nat_eq file.ino ino ≡ false = grind (arith, nat_tests) in
      let one : held_by ino (Some file) ≡ 0 = ap (λ b. if◌then◌else◌ {A = ℕ} b 1 0) test in
      let there = count_there opens file.ino count ino apart in
      omega (arith, there, one)
]

pub nothing_counted : (ino : ℕ) → count_of fin.empty ino ≡ 0
nothing_counted ino = ap (λ o. unwrap_or o 0) (get-empty {X = ℕ} nat_cmp ino)

one_or_none : (b : Bool) → if◌then◌else◌ {A = ℕ} b 1 0 ≤ 1
one_or_none true = omega arith
one_or_none false = omega arith

pub at_most_one : (ino : ℕ) (file : Option PlainFile) → held_by ino file ≤ 1
at_most_one ino None = omega arith
at_most_one ino (Some file) = one_or_none (nat_eq file.ino ino)

pub few_held : (seat : Seat) (ino : ℕ) → held_in seat ino ≤ 17
few_held seat ino = sum_few (λ place. held_by ino (fin.get seat.files place)) 17 (λ place. at_most_one ino (fin.get seat.files place))

-- the sum over one session more
pub sum_seats_more : (ino : ℕ) (seats : List Seat) (at : ℕ) (seat : Seat) → at < length seats → seat ≡ get_or seats at seat
    → sum_by (λ (seat : Seat). held_in seat ino) (take (at + 1) seats) ≡ sum_by (λ (seat : Seat). held_in seat ino) (take at seats) + held_in seat ino
sum_seats_more ino seats at seat within is =
    let more = sum_by-append (λ (seat : Seat). held_in seat ino) (take at seats) (seat ∷ []) in
    let last = sum_by-cons (λ (seat : Seat). held_in seat ino) seat [] in
    ap (λ front. sum_by (λ (seat : Seat). held_in seat ino) front) (take_more seats at seat within ∙ ap (λ s. take at seats ++ s ∷ []) (sym is)) ∙ omega (arith, more, last)
