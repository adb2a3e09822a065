-- Bytes put from an index on, part after part.
use Rattle.std.proofs.Common.{◌≡◌, ◌≢◌, ◌⊎◌, inl, inr, ℕ, suc, ◌+◌, ◌-◌, ◌*◌, ◌/◌, ◌%◌, ◌<◌, ◌≤◌, List, [], ◌∷◌, length, take, drop, refl, sym, ap, subst, ◌∙◌, arith, Option, Some, IsSome, unwrap_or, length-set}
use Rattle.std.specs.Prelude.{slice_set, ◌↔◌}
use Rattle.std.specs.FinMap as fin
use Rattle.std.proofs.lemmas.Bool.{cases_lt}
use Rattle.std.proofs.lemmas.List.{length-take, length-drop}
use Rattle.std.proofs.Math.Seq.{take-nil, drop-nil}
use Rattle.mb_kinds.specs.Image.{zeros}
use Rattle.mb_word.specs.Numbers.{put_at}
use Rattle.mb_word.proofs.Writes.{put_one, put_at_next, length-put_at}
use Rattle.mb_tree.specs.Maps.{Numbered}
use Rattle.mb_tree.specs.Inodes.{part_at}
use Rattle.mb_tree.specs.Effect.{put_byte, put_bytes}
use Rattle.mb_tree.specs.PutParts.{AreWhole, IsReached, PartsAfterPut, PartsStandAfterPut, PartsStayWhole, PutSplits, PutWithinPart, WorkedParts, bytes_into, put_into}
use Rattle.mb_tree.proofs.FiniteMaps.{get_here, get_there, same, one_or_not}

pub put_splits : PutSplits
put_splits parts index [] back = ap (λ i. put_bytes parts i back) (omega arith)
put_splits parts index (byte ∷ front) back = put_splits (put_byte parts index byte) (index + 1) front back ∙ ap (λ i. put_bytes (put_bytes (put_byte parts index byte) (index + 1) front) i back) (omega arith)

insert_again : (m : Numbered (List ℕ)) (k : ℕ) (x y : List ℕ) → fin.insert (fin.insert m k x) k y ≡ fin.insert m k y
insert_again m k x y = same _ _ (λ q. elim (one_or_not q k) [
  | inl is ↦ rw is (get_here (fin.insert m k x) k y ∙ sym (get_here m k y))
  | inr apart ↦ get_there (fin.insert m k x) k y q apart ∙ get_there m k x q apart ∙ sym (get_there m k y q apart)
])

-- ---- within one part

put_some : (parts : Numbered (List ℕ)) (index byte : ℕ) (bytes : List ℕ) → index % 512 + length (byte ∷ bytes) ≤ 512 → length (part_at parts (index / 512)) ≡ 512
    → put_bytes parts index (byte ∷ bytes) ≡ fin.insert parts (index / 512) (put_at (part_at parts (index / 512)) (index % 512) (byte ∷ bytes))
put_some parts index byte [] fits long = ap (λ b. fin.insert parts (index / 512) b) (put_one (part_at parts (index / 512)) (index % 512) byte (omega (arith, long)))
put_some parts index byte (other ∷ bytes) fits long =
    let b = part_at parts (index / 512) in
    let one : put_byte parts index byte ≡ fin.insert parts (index / 512) (put_at b (index % 512) (byte ∷ [])) = ap (λ c. fin.insert parts (index / 512) c) (put_one b (index % 512) byte (omega (arith, long))) in
    let part : (index + 1) / 512 ≡ index / 512 = omega (arith, fits) in
    let place : (index + 1) % 512 ≡ index % 512 + 1 = omega (arith, fits) in
    let there : part_at (fin.insert parts (index / 512) (put_at b (index % 512) (byte ∷ []))) ((index + 1) / 512) ≡ put_at b (index % 512) (byte ∷ []) =
    ap (part_at (fin.insert parts (index / 512) (put_at b (index % 512) (byte ∷ [])))) part ∙ ap (λ o. unwrap_or o zeros) (get_here parts (index / 512) (put_at b (index % 512) (byte ∷ []))) in
    let len : length (put_at b (index % 512) (byte ∷ [])) ≡ 512 = length-put_at b (index % 512) (byte ∷ []) (omega (arith, long)) ∙ long in
    let rest = put_some (fin.insert parts (index / 512) (put_at b (index % 512) (byte ∷ []))) (index + 1) other bytes (omega (arith, place, fits)) (ap length there ∙ len) in
    ap (λ m. put_bytes m (index + 1) (other ∷ bytes)) one
    ∙ rest
    ∙ ap (λ p. fin.insert (fin.insert parts (index / 512) (put_at b (index % 512) (byte ∷ []))) p (put_at (part_at (fin.insert parts (index / 512) (put_at b (index % 512) (byte ∷ []))) ((index + 1) / 512)) ((index + 1) % 512) (other ∷ bytes))) part
    ∙ insert_again parts (index / 512) (put_at b (index % 512) (byte ∷ [])) _
    ∙ ap (λ c. fin.insert parts (index / 512) (put_at c ((index + 1) % 512) (other ∷ bytes))) there
    ∙ ap (λ i. fin.insert parts (index / 512) (put_at (put_at b (index % 512) (byte ∷ [])) i (other ∷ bytes))) place
    ∙ ap (λ c. fin.insert parts (index / 512) c) (put_at_next b (index % 512) (byte ∷ []) (other ∷ bytes) (omega (arith, long, fits)))

pub put_within_part : PutWithinPart
put_within_part parts index [] some fits long = absurd (omega (arith, some))
put_within_part parts index (byte ∷ bytes) some fits long = put_some parts index byte bytes fits long

-- ---- parts stay whole

byte_whole : (parts : Numbered (List ℕ)) (index byte : ℕ) → AreWhole parts → AreWhole (put_byte parts index byte)
byte_whole parts index byte whole part =
    let new = slice_set (part_at parts (index / 512)) (index % 512) byte in
    elim (one_or_not part (index / 512)) [
      | inl is ↦ rw is (ap (λ o. length (unwrap_or o zeros)) (get_here parts (index / 512) new) ∙ length-set (part_at parts (index / 512)) (index % 512) byte ∙ whole (index / 512))
      | inr apart ↦ ap (λ o. length (unwrap_or o zeros)) (get_there parts (index / 512) new part apart) ∙ whole part
    ]

pub parts_stay_whole : PartsStayWhole
parts_stay_whole parts index [] whole = whole
parts_stay_whole parts index (byte ∷ bytes) whole = parts_stay_whole (put_byte parts index byte) (index + 1) bytes (byte_whole parts index byte whole)

-- ---- part by part

none_into : (part index : ℕ) → bytes_into part index [] ≡ []
none_into part index = ap (take (512 - (index - 512 * part))) (drop-nil (512 * part - index)) ∙ take-nil (512 - (index - 512 * part))

-- a byte put, and then more behind it
put_more : (old : List ℕ) (place byte : ℕ) (bytes : List ℕ) → length old ≡ 512 → place + 1 + length bytes ≤ 512
    → put_into (Some (put_at old place (byte ∷ []))) (place + 1) bytes ≡ Some (put_at old place (byte ∷ bytes))
put_more old place byte [] long fits = refl
put_more old place byte (other ∷ bytes) long fits = ap Some (put_at_next old place (byte ∷ []) (other ∷ bytes) (omega (arith, long, fits)))

module _ (parts : Numbered (List ℕ)) (index byte : ℕ) (bytes : List ℕ) (part : ℕ) (whole : AreWhole parts) where
  abbrev After : Option (List ℕ) → Type 0
  After old = put_into old (index + 1 - 512 * part) (bytes_into part (index + 1) bytes) ≡ put_into (fin.get parts part) (index - 512 * part) (bytes_into part index (byte ∷ bytes))

  here : part ≡ index / 512 → After (fin.get (put_byte parts index byte) part)
  here is =
      let place : index - 512 * part ≡ index % 512 = omega (arith, is) in
      let next : index + 1 - 512 * part ≡ index % 512 + 1 = omega (arith, is) in
      let off : 512 * part - index ≡ 0 = omega (arith, is) in
      let later : 512 * part - (index + 1) ≡ 0 = omega (arith, is) in
      let left : 512 - (index % 512 + 1) ≡ 511 - index % 512 = omega arith in
      let room : 512 - index % 512 ≡ suc (511 - index % 512) = omega arith in
      let few : length (take (511 - index % 512) bytes) ≤ 511 - index % 512 = omega (arith, length-take (511 - index % 512) bytes) in
      let old = part_at parts part in
      let got : fin.get (put_byte parts index byte) part ≡ Some (put_at old (index % 512) (byte ∷ [])) =
      ap (fin.get (put_byte parts index byte)) is ∙ get_here parts (index / 512) _ ∙ ap Some (put_one (part_at parts (index / 512)) (index % 512) byte (omega (arith, whole (index / 512)))
      ∙ ap (λ p. put_at (part_at parts p) (index % 512) (byte ∷ [])) (sym is)) in
      rw (got, place, next, off, later, left, room) (put_more old (index % 512) byte (take (511 - index % 512) bytes) (whole part) (omega (arith, few)))

  before : index < 512 * part → After (fin.get parts part)
  before low =
      let same_place : index + 1 - 512 * part ≡ index - 512 * part = omega (arith, low) in
      let step : 512 * part - index ≡ suc (512 * part - (index + 1)) = omega (arith, low) in
      rw (same_place, step) refl

  past : 512 * part + 512 ≤ index → After (fin.get parts part)
  past high =
      let none : 512 - (index - 512 * part) ≡ 0 = omega (arith, high) in
      let still : 512 - (index + 1 - 512 * part) ≡ 0 = omega (arith, high) in
      rw (none, still) refl

  elsewhere : part ≢ index / 512 → After (fin.get (put_byte parts index byte) part)
  elsewhere apart = subst After (sym (get_there parts (index / 512) _ part apart)) (elim (cases_lt index (512 * part)) [
    | inl low ↦ before low
    | inr high ↦ elim (cases_lt index (512 * part + 512)) [
      | inl inside ↦ absurd (apart (omega (arith, high, inside)))
      | inr above ↦ past above
    ]
  ])

  pub after_byte : After (fin.get (put_byte parts index byte) part)
  after_byte = elim (one_or_not part (index / 512)) [
    | inl is ↦ here is
    | inr apart ↦ elsewhere apart
  ]

pub parts_after_put : PartsAfterPut
parts_after_put parts index [] part whole = sym (ap (put_into (fin.get parts part) (index - 512 * part)) (none_into part index))
parts_after_put parts index (byte ∷ bytes) part whole =
    parts_after_put (put_byte parts index byte) (index + 1) bytes part (byte_whole parts index byte whole) ∙ after_byte parts index byte bytes part whole

-- ---- which parts stand

stands_by : (old : Option (List ℕ)) (place : ℕ) (bytes : List ℕ) → IsSome (put_into old place bytes) ↔ (IsSome old ⊎ (0 < length bytes))
stands_by old place [] = (λ some. inl some, λ h. elim h [ inl some ↦ some | inr none ↦ absurd (omega (arith, none)) ])
stands_by old place (byte ∷ bytes) = (λ some. inr (omega arith), λ h. refl)

reached_by : (part index : ℕ) (bytes : List ℕ) → 0 < length (bytes_into part index bytes) → IsReached part index bytes
reached_by part index bytes some =
    let taken = length-take (512 - (index - 512 * part)) (drop (512 * part - index) bytes) in
    let dropped = length-drop (512 * part - index) bytes in
    record { some = omega (arith, some, taken, dropped); from = omega (arith, some, taken, dropped); below = omega (arith, some, taken, dropped) }

falls_into : (part index : ℕ) (bytes : List ℕ) → IsReached part index bytes → 0 < length (bytes_into part index bytes)
falls_into part index bytes reached =
    let taken = length-take (512 - (index - 512 * part)) (drop (512 * part - index) bytes) in
    let dropped = length-drop (512 * part - index) bytes in
    omega (arith, reached.some, reached.from, reached.below, taken, dropped)

pub parts_stand_after_put : PartsStandAfterPut
parts_stand_after_put parts index bytes part whole =
    let by = stands_by (fin.get parts part) (index - 512 * part) (bytes_into part index bytes) in
    let after = parts_after_put parts index bytes part whole in (
      λ some. elim (by.0 (subst IsSome after some)) [ inl old ↦ inl old | inr more ↦ inr (reached_by part index bytes more) ],
      λ h. subst IsSome (sym after) (by.1 (elim h [ inl old ↦ inl old | inr reached ↦ inr (falls_into part index bytes reached) ])),
    )

pub worked_parts : WorkedParts
worked_parts = record { first = refl; place = refl; second = refl; start = refl; third = refl }
