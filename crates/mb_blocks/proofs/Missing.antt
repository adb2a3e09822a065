-- A part more costs the blocks that are missing on its way.
use Rattle.std.proofs.Common.{◌≡◌, ◌⊎◌, ◌↔◌, inl, inr, Bool, refl, ℕ, ◌+◌, ◌-◌, ◌/◌, ◌%◌, ◌<◌, true, false, cond, ◌||◌, List, length, sym, ap, ◌∙◌, arith, nat_eq, nat_lt, None}
use Rattle.std.specs.Prelude.{is_some}
use Rattle.std.specs.List.{Contains}
use Rattle.std.specs.FinMap as fin
use Rattle.std.specs.FinMap.{len-insert, len-entries}
use Rattle.std.specs.Cmp.{nat_cmp_total}
use Rattle.std.proofs.lemmas.Bool.{cases_lt}
use Rattle.std.proofs.lemmas.Bool.Decides.{nat_tests}
use Rattle.std.proofs.lemmas.List.{length-map}
use Rattle.mb_tree.specs.Cost.{most_parts, index_blocks}
use Rattle.mb_tree.specs.Maps.{Numbered}
use Rattle.mb_tree.specs.Places.{Place, Pointers, at, place_of}
use Rattle.mb_tree.specs.Places.Place.{Top, Under}
use Rattle.mb_blocks.specs.Growing.{hole, missing}
use Rattle.mb_blocks.specs.Owners.{HoldsParts}
use Rattle.mb_blocks.proofs.Enumerated.{direct_at, double_is, given_in, single_is, there_in, triple_is}
use Rattle.mb_blocks.proofs.Groupings.{in_has, has_in}
use Rattle.mb_blocks.proofs.HeldLists.{same_test}
use Rattle.mb_blocks.proofs.Shares.{direct_cost, double_cost, is_in, single_cost, tally, triple_cost}

one_of : (address : ℕ) → tally address + hole address ≡ 1
one_of address = elim (nat_lt 0 address) as (λ b. cond b 1 0 + cond b 0 1 ≡ 1) [ true ↦ omega arith | false ↦ omega arith ]

module _ (ps : Pointers) (ino : ℕ) (parts more : List ℕ) (part : ℕ) (holds : HoldsParts ps ino parts) (adds : (k : ℕ) → is_in more k ≡ (nat_eq k part || is_in parts k))
    (below : part < most_parts) (none : at ps (place_of ino part) ≡ 0) where
  last_hole : (q : Place) → place_of ino part ≡ q → hole (at ps q) ≡ 1
  last_hole q is = (let e : at ps q ≡ 0 = ap (at ps) (sym is) ∙ none in let t : nat_lt 0 (at ps q) ≡ false = grind (arith, nat_tests) in ap (λ b. cond b 0 1) t)

  pub index_missing : index_blocks more + 1 ≡ index_blocks parts + missing ps (place_of ino part)
  index_missing = elim (cases_lt part 10) [
    | inl direct ↦
        let is = direct_at ino part direct in
        let m : missing ps (place_of ino part) ≡ hole (at ps (Top ino part)) = ap (missing ps) is in
        let h = last_hole (Top ino part) is in
        let c = direct_cost parts more part adds ps ino (given_in ps ino parts holds) (there_in ps ino parts holds) holds.hole holds.leads direct in
        omega (arith, m, h, c)
    | inr past ↦ elim (cases_lt part 138) [
      | inl single ↦
          let is = single_is ps ino parts holds part past single in
          let m : missing ps (place_of ino part) ≡ hole (at ps (Top ino 10)) + hole (at ps (Under (Top ino 10) (part - 10))) = ap (missing ps) is in
          let h = last_hole (Under (Top ino 10) (part - 10)) is in
          let c = single_cost parts more part adds ps ino (given_in ps ino parts holds) (there_in ps ino parts holds) holds.hole holds.leads past single in
          let o = one_of (at ps (Top ino 10)) in
          omega (arith, m, h, c, o)
      | inr further ↦ elim (cases_lt part 16522) [
        | inl double ↦
            let is = double_is ps ino parts holds part further double in
            let a : Place = Under (Top ino 11) ((part - 138) / 128) in
            let m : missing ps (place_of ino part) ≡ hole (at ps (Top ino 11)) + hole (at ps a) + hole (at ps (Under a ((part - 138) % 128))) = ap (missing ps) is in
            let h = last_hole (Under a ((part - 138) % 128)) is in
            let c = double_cost parts more part adds ps ino (given_in ps ino parts holds) (there_in ps ino parts holds) holds.hole holds.leads further double in
            let o = one_of (at ps (Top ino 11)) in
            let p = one_of (at ps a) in
            omega (arith, m, h, c, o, p)
        | inr last ↦
            let is = triple_is ps ino parts holds part last in
            let a : Place = Under (Top ino 12) ((part - 16522) / 16384) in
            let b : Place = Under a ((part - 16522) / 128 % 128) in
            let m : missing ps (place_of ino part) ≡ hole (at ps (Top ino 12)) + hole (at ps a) + hole (at ps b) + hole (at ps (Under b ((part - 16522) % 128))) = ap (missing ps) is in
            let h = last_hole (Under b ((part - 16522) % 128)) is in
            let c = triple_cost parts more part adds ps ino (given_in ps ino parts holds) (there_in ps ino parts holds) holds.hole holds.leads last below in
            let o = one_of (at ps (Top ino 12)) in
            let p = one_of (at ps a) in
            let r = one_of (at ps b) in
            omega (arith, m, h, c, o, p, r)
      ]
    ]
  ]

  pub cost_missing : length more ≡ length parts + 1 → length more + index_blocks more ≡ length parts + index_blocks parts + missing ps (place_of ino part)
  cost_missing many = (let e = index_missing in omega (arith, e, many))

-- a new key is one key more
pub keys_count : (parts : Numbered (List ℕ)) (part : ℕ) (bytes : List ℕ) → fin.get parts part ≡ None → length (fin.keys (fin.insert parts part bytes)) ≡ length (fin.keys parts) + 1
keys_count parts part bytes none =
    let new : fin.contains_key parts part ≡ false = ap is_some none in
    length-map (fin.entries (fin.insert parts part bytes)) (λ (e : ℕ × List ℕ). e.0) ∙ sym (len-entries (fin.insert parts part bytes))
    ∙ len-insert nat_cmp_total parts part bytes ∙ ap (λ b. cond b (fin.len parts) (fin.len parts + 1)) new
    ∙ ap (λ n. n + 1) (len-entries parts ∙ sym (length-map (fin.entries parts) (λ (e : ℕ × List ℕ). e.0)))

-- the same by members
pub cost_of_more : (ps : Pointers) (ino : ℕ) (parts more : List ℕ) (part : ℕ) → HoldsParts ps ino parts → part < most_parts → at ps (place_of ino part) ≡ 0
    → length more ≡ length parts + 1 → ((k : ℕ) → Contains more k ↔ ((k ≡ part) ⊎ Contains parts k))
    → length more + index_blocks more ≡ length parts + index_blocks parts + missing ps (place_of ino part)
cost_of_more ps ino parts more part holds below none many members =
    cost_missing ps ino parts more part holds
    (λ k. same_test (is_in more k) (nat_eq k part || is_in parts k)
    (λ t. elim ((members k).0 (in_has more k t)) [
      | inl is ↦ (let on : nat_eq k part ≡ true = grind (arith, nat_tests) in ap (λ b. b || is_in parts k) on)
      | inr old ↦ ap (λ b. nat_eq k part || b) (has_in parts k old) ∙ or_true (nat_eq k part)
    ])
    (λ t. has_in more k ((members k).1 (elim (nat_eq k part) as (λ b. nat_eq k part ≡ b → (b || is_in parts k) ≡ true → (k ≡ part) ⊎ Contains parts k) [
      | true ↦ λ e h. inl (grind (arith, nat_tests))
      | false ↦ λ e h. inr (in_has parts k h)
    ] refl t))))
    below none many
  where
    or_true : (b : Bool) → (b || true) ≡ true
    or_true true = refl
    or_true false = refl
