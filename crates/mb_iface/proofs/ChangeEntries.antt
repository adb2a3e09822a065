-- Lists of changes: an insertion keeps what each change is.
use Rattle.std.proofs.Common.{ℕ, ◌≡◌, List, [], ◌∷◌, length, true, false, nat_eq, if◌then◌else◌}
use Rattle.std.specs.List.{All}
use Rattle.std.proofs.lemmas.List.Elements.{All-nil, All-cons, All-head, All-tail}
use Rattle.std.specs.Map.{set_value}
use Rattle.indexmap.specs.IndexMap.{insert_entry, insert_all}
use Rattle.mb_kinds.specs.Changed.{ChangeList, IsChange}

pub each_inserted : (changes : ChangeList) (block : ℕ) (bytes : List ℕ) → All IsChange changes → IsChange (block, bytes) → All IsChange (insert_entry nat_eq changes block bytes)
each_inserted [] block bytes each new = All-cons IsChange (block, bytes) [] new (All-nil IsChange)
each_inserted (change ∷ changes) block bytes each new =
    let first = All-head IsChange change changes each in
    let rest = All-tail IsChange change changes each in
    let here : IsChange (change.0, bytes) = record { below = first.below; sized = new.sized } in
    let later = each_inserted changes block bytes rest new in
    elim (nat_eq block change.0) as (λ b. All IsChange (if b then (change.0, bytes) ∷ changes else change ∷ insert_entry nat_eq changes block bytes)) [
      | true ↦ All-cons IsChange (change.0, bytes) changes here rest
      | false ↦ All-cons IsChange change (insert_entry nat_eq changes block bytes) first later
    ]

pub all_inserted : (changes later : ChangeList) → All IsChange changes → All IsChange later → All IsChange (insert_all nat_eq changes later)
all_inserted changes [] each each_later = each
all_inserted changes (change ∷ later) each each_later =
    all_inserted (insert_entry nat_eq changes change.0 change.1) later
    (each_inserted changes change.0 change.1 each (All-head IsChange change later each_later))
    (All-tail IsChange change later each_later)

-- new bytes for a block that is changed already
pub each_set : (changes : ChangeList) (block : ℕ) (bytes : List ℕ) → All IsChange changes → length bytes ≡ 512 → All IsChange (set_value (nat_eq block) changes bytes)
each_set [] block bytes each sized = All-nil IsChange
each_set (change ∷ changes) block bytes each sized =
    let first = All-head IsChange change changes each in
    let rest = All-tail IsChange change changes each in
    let here : IsChange (change.0, bytes) = record { below = first.below; sized = sized } in
    elim (nat_eq block change.0) as (λ b. All IsChange (if b then (change.0, bytes) ∷ changes else change ∷ set_value (nat_eq block) changes bytes)) [
      | true ↦ All-cons IsChange (change.0, bytes) changes here rest
      | false ↦ All-cons IsChange change (set_value (nat_eq block) changes bytes) first (each_set changes block bytes rest sized)
    ]
