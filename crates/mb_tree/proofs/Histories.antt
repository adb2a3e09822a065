-- Histories in a row.
use Rattle.std.proofs.Common.{List, [], ◌∷◌, ◌++◌, refl}
use Rattle.std.specs.List.{AllByRecursion}
use Rattle.mb_kinds.specs.declared.entries.Entry.{Entry}
use Rattle.mb_tree.specs.History.{after, past, AreRuns, Follows, AreInOrder, Legal}
use Rattle.mb_tree.specs.Laws.{AfterAppends, LegalSplits, LegalAppends, LegalGrows}
use Rattle.mb_tree.specs.declared.machines.Machine.{Machine}

pub after_both : AfterAppends
after_both machine [] back = refl
after_both machine (entry ∷ front) back = after_both (past machine entry) front back

module _ {A : Type 0} (P : A → Type 0) where
  all_front : (xs ys : List A) → AllByRecursion P (xs ++ ys) → AllByRecursion P xs
  all_front [] ys h = tt
  all_front (x ∷ xs) ys h = (h.0, all_front xs ys h.1)

  all_back : (xs ys : List A) → AllByRecursion P (xs ++ ys) → AllByRecursion P ys
  all_back [] ys h = h
  all_back (x ∷ xs) ys h = all_back xs ys h.1

  all_both : (xs ys : List A) → AllByRecursion P xs → AllByRecursion P ys → AllByRecursion P (xs ++ ys)
  all_both [] ys h k = k
  all_both (x ∷ xs) ys h k = (h.0, all_both xs ys h.1 k)

runs_front : (machine : Machine) (front back : List Entry) → AreRuns machine (front ++ back) → AreRuns machine front
runs_front machine [] back h = tt
runs_front machine (entry ∷ front) back h = (h.0, runs_front (past machine entry) front back h.1)

runs_back : (machine : Machine) (front back : List Entry) → AreRuns machine (front ++ back) → AreRuns (after machine front) back
runs_back machine [] back h = h
runs_back machine (entry ∷ front) back h = runs_back (past machine entry) front back h.1

runs_both : (machine : Machine) (front back : List Entry) → AreRuns machine front → AreRuns (after machine front) back → AreRuns machine (front ++ back)
runs_both machine [] back h k = k
runs_both machine (entry ∷ front) back h k = (h.0, runs_both (past machine entry) front back h.1 k)

order_front : (front back : List Entry) → AreInOrder (front ++ back) → AreInOrder front
order_front [] back h = tt
order_front (entry ∷ front) back h = (all_front (Follows entry) front back h.0, order_front front back h.1)

order_back : (front back : List Entry) → AreInOrder (front ++ back) → AreInOrder back
order_back [] back h = h
order_back (entry ∷ front) back h = order_back front back h.1

order_both : (front back : List Entry) → AreInOrder front → AreInOrder back → AllByRecursion (λ entry. AllByRecursion (Follows entry) back) front → AreInOrder (front ++ back)
order_both [] back h k across = k
order_both (entry ∷ front) back h k across = (all_both (Follows entry) front back h.0 across.0, order_both front back h.1 k across.1)

pub legal_both : LegalAppends
legal_both machine start front back h k across = record {
  runs = runs_both machine front back h.runs k.runs;
  above = all_both _ front back h.above k.above;
  order = order_both front back h.order k.order across;
}

pub legal_parts : LegalSplits
legal_parts machine start front back h =
    let first : Legal machine start front = record { runs = runs_front machine front back h.runs; above = all_front _ front back h.above; order = order_front front back h.order } in
    let second : Legal (after machine front) start back = record { runs = runs_back machine front back h.runs; above = all_back _ front back h.above; order = order_back front back h.order } in
    (first, second)

one_each : (entry : Entry) (history : List Entry) → AllByRecursion (λ earlier. Follows earlier entry) history → AllByRecursion (λ earlier. AllByRecursion (Follows earlier) (entry ∷ [])) history
one_each entry [] h = tt
one_each entry (earlier ∷ history) h = ((h.0, tt), one_each entry history h.1)

pub legal_more : LegalGrows
legal_more machine start history entry h run above follows =
    let last : Legal (after machine history) start (entry ∷ []) = record { runs = (run, tt); above = (above, tt); order = (tt, tt) } in
    legal_both machine start history (entry ∷ []) h last (one_each entry history follows)
