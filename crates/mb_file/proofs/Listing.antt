-- The blocks under an address listed one index block after another.
use mir.Val.{bool_byte}
use Rattle.std.proofs.Common.{if◌then◌else◌, ℕ, zero, suc, ◌≡◌, ◌⊎◌, inl, inr, ◌+◌, ◌-◌, ◌%◌, ◌<◌, ◌≤◌, true, false, cond, ltb, nat_lt, Option, Result, Ok, Err, List, [], ◌∷◌, ◌++◌, length, take, set, length-append, append_assoc, append-nil, refl, sym, ap, subst, ◌∙◌, arith}
use Rattle.std.specs.Prelude.{OnOk, is_ok}
use Rattle.std.specs.List.{Contains}
use Rattle.std.specs.declared.alloc.AllocError.{AllocError}
use Rattle.std.proofs.lemmas.Bool.{cases_eq, cases_lt}
use Rattle.std.proofs.lemmas.Bool.Decides.{nat_tests}
use Rattle.std.proofs.lemmas.List.{take_more_set, take-set, length-take-le}
use Rattle.std.proofs.lemmas.List.Elements.{Contains-append_left, Contains-append_right}
use Rattle.mb_word.specs.Fields.{index_entry}
use Rattle.mb_layout.specs.Inode.{address_in}
use Rattle.mb_layout.specs.declared.dinodes.Dinode.{Dinode}
use Rattle.mb_tree.specs.Blocks.{pointers}
use Rattle.mb_tree.specs.Places.{Pointers}
use Rattle.mb_tree.specs.Views.{over, IsPart}
use Rattle.mb_blocks.specs.Walk.{under_block, under_each}
use Rattle.mb_blocks.proofs.PartBytes.{entry_is}
use Rattle.mb_kinds.specs.Changed.{ChangeList, changed}
use Rattle.mb_file.specs.Walking.{IsListable, PushesParts, PushesUnder, parts_in, under_address, under_dinode}
use Rattle.mb_file.specs.declared.walks.Walked.TheVariants as walked

under_some : (ps : Pointers) (levels address : ℕ) → 0 < address → under_address ps levels address ≡ under_block ps levels address
under_some ps levels address some = (let t : nat_lt 0 address ≡ true = grind (arith, nat_tests) in ap (λ b. cond b (under_block ps levels address) []) t)

pub under_none : (ps : Pointers) (levels address : ℕ) → address ≡ 0 → under_address ps levels address ≡ []
under_none ps levels address none = (let t : nat_lt 0 address ≡ false = grind (arith, nat_tests) in ap (λ b. cond b (under_block ps levels address) []) t)

first_under : (ps : Pointers) (levels block : ℕ) → Contains (under_block ps levels block) block
unfolding under_block
first_under ps zero block = (0, omega arith, refl)
first_under ps (suc levels) block = (0, omega arith, refl)

pub itself_under : (ps : Pointers) (levels address : ℕ) → 0 < address → Contains (under_address ps levels address) address
itself_under ps levels address some = subst (λ (xs : List ℕ). Contains xs address) (sym (under_some ps levels address some)) (first_under ps levels address)

-- one address more
one_more : (one : ℕ → ℕ → List ℕ) (address : ℕ → ℕ) (n : ℕ) → under_each one address (suc n) ≡ cond (nat_lt 0 (address n)) (one n (address n)) [] ++ under_each one address n
unfolding under_each
one_more one address n = refl

no_more : (one : ℕ → ℕ → List ℕ) (address : ℕ → ℕ) → under_each one address 0 ≡ []
unfolding under_each
no_more one address = refl

-- what one of the addresses leads to is among what they all do
pub among_each : (one : ℕ → ℕ → List ℕ) (address : ℕ → ℕ) (block n count : ℕ) → n < count → Contains (cond (nat_lt 0 (address n)) (one n (address n)) []) block → Contains (under_each one address count) block
among_each one address block n zero low among = absurd (omega (arith, low))
among_each one address block n (suc count) low among = elim (cases_eq n count) [
  | inl is ↦
      subst (λ (xs : List ℕ). Contains xs block) (sym (one_more one address count))
      (Contains-append_left (cond (nat_lt 0 (address count)) (one count (address count)) []) (under_each one address count) block (subst (λ i. Contains (cond (nat_lt 0 (address i)) (one i (address i)) []) block) is among))
  | inr apart ↦
      subst (λ (xs : List ℕ). Contains xs block) (sym (one_more one address count))
      (Contains-append_right (cond (nat_lt 0 (address count)) (one count (address count)) []) (under_each one address count) block (among_each one address block n count (omega (arith, low, apart)) among))
]

pub each_alike : (one : ℕ → ℕ → List ℕ) (address other : ℕ → ℕ) (count : ℕ) → ((k : ℕ) → k < count → address k ≡ other k) → under_each one address count ≡ under_each one other count
each_alike one address other zero same = no_more one address ∙ sym (no_more one other)
each_alike one address other (suc count) same =
    one_more one address count
    ∙ ap (λ x. cond (nat_lt 0 x) (one count x) [] ++ under_each one address count) (same count (omega arith))
    ∙ ap (λ xs. cond (nat_lt 0 (other count)) (one count (other count)) [] ++ xs) (each_alike one address other count (λ k low. same k (omega (arith, low))))
    ∙ sym (one_more one other count)

-- ---- some of the addresses passed

-- what was listed since the beginning, and what is still to be listed, are the whole
pub record HasListed (one : ℕ → ℕ → List ℕ) (address : ℕ → ℕ) (before now whole : List ℕ) (left : ℕ) : Type 0 where
  pub done : List ℕ
  pub was : now ≡ before ++ done
  pub rest : done ++ under_each one address left ≡ whole

module _ (one : ℕ → ℕ → List ℕ) (address : ℕ → ℕ) (before now whole : List ℕ) (left next : ℕ) (step : left ≡ suc next) (listed : HasListed one address before now whole left) where
  abbrev part : List ℕ
  part = cond (nat_lt 0 (address next)) (one next (address next)) []

  is_whole : listed.done ++ (part ++ under_each one address next) ≡ whole
  is_whole = ap (λ xs. listed.done ++ xs) (sym (one_more one address next)) ∙ ap (λ n. listed.done ++ under_each one address n) (sym step) ∙ listed.rest

  pub part_listable : IsListable before whole → IsListable now part
  part_listable listable = record {
    small = λ block among. listable.small block (subst (λ (xs : List ℕ). Contains xs block) is_whole
        (Contains-append_right listed.done (part ++ under_each one address next) block (Contains-append_left part (under_each one address next) block among)));
    few =
        let few = listable.few in
        let n : length now ≡ length before + length listed.done = ap length listed.was ∙ length-append before listed.done in
        let w : length (listed.done ++ (part ++ under_each one address next)) ≡ length whole = ap length is_whole in
        let a = length-append listed.done (part ++ under_each one address next) in
        let b = length-append part (under_each one address next) in
        omega (arith, few, n, w, a, b);
  }

  pub part_listed : (after : List ℕ) → after ≡ now ++ part → HasListed one address before after whole next
  part_listed after is = record {
    done = listed.done ++ part;
    was = is ∙ ap (λ xs. xs ++ part) listed.was ∙ append_assoc before listed.done part;
    rest = append_assoc listed.done part (under_each one address next) ∙ is_whole;
  }

pub all_listed : (one : ℕ → ℕ → List ℕ) (address : ℕ → ℕ) (before now whole : List ℕ) (left : ℕ) → left ≡ 0 → HasListed one address before now whole left → now ≡ before ++ whole
all_listed one address before now whole left none listed =
    listed.was ∙ ap (λ xs. before ++ xs) (sym (append-nil listed.done) ∙ ap (λ xs. listed.done ++ xs) (sym (no_more one address)) ∙ ap (λ n. listed.done ++ under_each one address n) (sym none) ∙ listed.rest)

listable_behind : (before : List ℕ) (block : ℕ) (more : List ℕ) → IsListable before (block ∷ more) → IsListable (before ++ block ∷ []) more
listable_behind before block more listable = record {
  small = λ other among. listable.small other (suc among.0, (let low = among.1 in omega (arith, low)), among.2);
  few = (let few = listable.few in let n = length-append before (block ∷ []) in omega (arith, few, n));
}

-- nothing is listed for a hole
pub pushed_none : (shown : ℕ → Option (List ℕ)) (changes : ChangeList) (address levels : ℕ) (list : List ℕ) → address ≡ 0 → PushesUnder shown changes address levels list list walked.Done
pushed_none shown changes address levels list none blocks _ listable = sym (append-nil list) ∙ ap (λ xs. list ++ xs) (sym (under_none (pointers (over blocks (changed changes))) levels address none))

-- ---- the addresses of an index block

pub record HasPushed (shown : ℕ → Option (List ℕ)) (changes : ChangeList) (block lower : ℕ) (before now : List ℕ) (left : ℕ) : Type 0 where
  pub listed : (blocks : ℕ → List ℕ) → IsPart shown blocks → IsListable before (under_block (pointers (over blocks (changed changes))) (suc lower) block)
      → HasListed (λ place. under_block (pointers (over blocks (changed changes))) lower) ((pointers (over blocks (changed changes))).entry block) before now (under_block (pointers (over blocks (changed changes))) (suc lower) block) left

module _ (shown : ℕ → Option (List ℕ)) (changes : ChangeList) (address : ℕ) (some : 0 < address) where
  pub pushed_first : (lower : ℕ) (before now : List ℕ) → now ≡ before ++ address ∷ [] → HasPushed shown changes address lower before now 128
  unfolding under_block
  pushed_first lower before now is = record { listed = λ blocks part listable. record { done = address ∷ []; was = is; rest = refl } }

  module _ (index : List ℕ) (bytes : (blocks : ℕ → List ℕ) → IsPart shown blocks → over blocks (changed changes) address ≡ index) where
    child_is : (blocks : ℕ → List ℕ) → IsPart shown blocks → (next child : ℕ) → child ≡ index_entry index next → (pointers (over blocks (changed changes))).entry address next ≡ child
    child_is blocks part next child reads = entry_is (over blocks (changed changes)) address next some ∙ ap (λ b. index_entry b next) (bytes blocks part) ∙ sym reads

    pub pushed_next : (lower : ℕ) (before now after : List ℕ) (left next child : ℕ) → left ≡ suc next → child ≡ index_entry index next
        → PushesUnder shown changes child lower now after walked.Done → HasPushed shown changes address lower before now left → HasPushed shown changes address lower before after next
    pushed_next lower before now after left next child step reads pushes was = record {
      listed = λ blocks part listable.
          (let ps = pointers (over blocks (changed changes)) in
          let listed = was.listed blocks part listable in
          let same : ps.entry address next ≡ child = child_is blocks part next child reads in
          let is : cond (nat_lt 0 (ps.entry address next)) (under_block ps lower (ps.entry address next)) [] ≡ under_address ps lower child = ap (under_address ps lower) same in
          let fits = part_listable (λ place. under_block ps lower) (ps.entry address) before now (under_block ps (suc lower) address) left next step listed listable in
          part_listed (λ place. under_block ps lower) (ps.entry address) before now (under_block ps (suc lower) address) left next step listed after
          (pushes blocks part (subst (IsListable now) is fits) ∙ ap (λ xs. now ++ xs) (sym is)));
    }

    -- what an index block's address leads to stands under the block
    parts_are : (blocks : ℕ → List ℕ) → IsPart shown blocks → under_each (λ place. under_block (pointers (over blocks (changed changes))) 0) ((pointers (over blocks (changed changes))).entry address) 128 ≡ parts_in index
    unfolding under_block
    parts_are blocks part = each_alike (λ place block. block ∷ []) ((pointers (over blocks (changed changes))).entry address) (index_entry index) 128 (λ k low. child_is blocks part k (index_entry index k) refl)

    -- the last level of index blocks
    pub pushed_parts : (levels : ℕ) (before now after : List ℕ) → levels ≡ 1 → now ≡ before ++ address ∷ [] → PushesParts index now after → PushesUnder shown changes address levels before after walked.Done
    unfolding under_block
    pushed_parts levels before now after last is pushes blocks part listable =
        let ps = pointers (over blocks (changed changes)) in
        let same : under_address ps levels address ≡ address ∷ parts_in index =
        under_some ps levels address some ∙ ap (λ n. under_block ps n address) last ∙ ap (λ xs. address ∷ xs) (parts_are blocks part) in
        let fits = listable_behind before address (parts_in index) (subst (IsListable before) same listable) in
        pushes (subst (λ (xs : List ℕ). IsListable xs (parts_in index)) (sym is) fits) ∙ ap (λ xs. xs ++ parts_in index) is ∙ append_assoc before (address ∷ []) (parts_in index) ∙ ap (λ xs. before ++ xs) (sym same)

    pub asked_under : (lower next child block : ℕ) → next < 128 → child ≡ index_entry index next
        → ((blocks : ℕ → List ℕ) → IsPart shown blocks → Contains (under_address (pointers (over blocks (changed changes))) lower child) block)
        → (blocks : ℕ → List ℕ) → IsPart shown blocks → Contains (under_address (pointers (over blocks (changed changes))) (suc lower) address) block
    unfolding under_block
    asked_under lower next child block low reads among blocks part =
        let ps = pointers (over blocks (changed changes)) in
        let same : child ≡ ps.entry address next = sym (child_is blocks part next child reads) in
        let there : Contains (under_each (λ place. under_block ps lower) (ps.entry address) 128) block = among_each (λ place. under_block ps lower) (ps.entry address) block next 128 low (subst (λ c. Contains (under_address ps lower c) block) same (among blocks part)) in
        subst (λ (xs : List ℕ). Contains xs block) (sym (under_some ps (suc lower) address some)) (Contains-append_right (address ∷ []) (under_each (λ place. under_block ps lower) (ps.entry address) 128) block there)

  pub pushed_all : (levels lower : ℕ) (before now : List ℕ) (left : ℕ) → levels ≡ suc lower → left ≡ 0 → HasPushed shown changes address lower before now left → PushesUnder shown changes address levels before now walked.Done
  pushed_all levels lower before now left is none pushed blocks part listable =
      let ps = pointers (over blocks (changed changes)) in
      let same : under_address ps levels address ≡ under_block ps (suc lower) address = under_some ps levels address some ∙ ap (λ n. under_block ps n address) is in
      all_listed (λ place. under_block ps lower) (ps.entry address) before now (under_block ps (suc lower) address) left none (pushed.listed blocks part (subst (IsListable before) same listable))
      ∙ ap (λ xs. before ++ xs) (sym same)

  -- a block that no volume has is not listable, nor one behind as many as a volume has
  pub not_listable : (ps : Pointers) (levels : ℕ) (before : List ℕ) → (262144 ≤ address) ⊎ (262144 ≤ length before) → IsListable before (under_address ps levels address) → ⊥
  not_listable ps levels before (inl great) listable = (let small = listable.small address (itself_under ps levels address some) in omega (arith, great, small))
  not_listable ps levels before (inr many) listable = (let there = itself_under ps levels address some in let few = listable.few in omega (arith, many, few, there.1))

  pub pushed_alone : (levels : ℕ) (before now : List ℕ) → levels ≡ 0 → now ≡ before ++ address ∷ [] → PushesUnder shown changes address levels before now walked.Done
  unfolding under_block
  pushed_alone levels before now none is blocks _ listable =
      is ∙ ap (λ xs. before ++ xs) (sym (under_some (pointers (over blocks (changed changes))) levels address some ∙ ap (λ n. under_block (pointers (over blocks (changed changes))) n address) none))

-- ---- the parts of one index block

pub record HasParts (index before parts : List ℕ) (count left : ℕ) : Type 0 where
  pub listed : IsListable before (parts_in index) → HasListed (λ place part. part ∷ []) (index_entry index) before (before ++ take count parts) (parts_in index) left

alone_is : (part : ℕ) → 0 < part → cond (nat_lt 0 part) (part ∷ []) [] ≡ part ∷ []
alone_is part some = (let t : nat_lt 0 part ≡ true = grind (arith, nat_tests) in ap (λ b. cond b (part ∷ []) []) t)

none_is : (part : ℕ) → part ≡ 0 → cond (nat_lt 0 part) (part ∷ []) [] ≡ []
none_is part none = (let t : nat_lt 0 part ≡ false = grind (arith, nat_tests) in ap (λ b. cond b (part ∷ []) []) t)

-- 1 for a part and 0 for any other number of 32 bits, by one test
pub is_part : (part some : ℕ) → part < 4294967296 → some ≡ bool_byte (ltb ((part + 4294967295) % 4294967296) 262143) → ((some ≡ 1) × (0 < part) × (part < 262144)) ⊎ ((some ≡ 0) × ((part ≡ 0) ⊎ (262144 ≤ part)))
is_part part some wide told = elim (cases_lt ((part + 4294967295) % 4294967296) 262143) [
  | inl low ↦ (let t : ltb ((part + 4294967295) % 4294967296) 262143 ≡ true = grind (arith, nat_tests) in inl (told ∙ ap bool_byte t, omega (arith, wide, low), omega (arith, wide, low)))
  | inr high ↦
      (let t : ltb ((part + 4294967295) % 4294967296) 262143 ≡ false = grind (arith, nat_tests) in
      inr (told ∙ ap bool_byte t, elim (cases_eq part 0) [ inl none ↦ inl none | inr real ↦ inr (omega (arith, wide, high, real)) ]))
]

module _ (index before : List ℕ) where
  module _ (parts : List ℕ) (count left next part : ℕ) (step : left ≡ suc next) (reads : part ≡ index_entry index next) (was : HasParts index before parts count left) where
    parts_more : (after : List ℕ) → 0 < part → count < length parts → after ≡ set parts count part → HasParts index before after (count + 1) next
    parts_more after some room wrote = record {
      listed = λ listable.
          (let listed = was.listed listable in
          let one : cond (nat_lt 0 (index_entry index next)) (index_entry index next ∷ []) [] ≡ part ∷ [] = ap (λ x. cond (nat_lt 0 x) (x ∷ []) []) (sym reads) ∙ alone_is part some in
          part_listed (λ place part. part ∷ []) (index_entry index) before (before ++ take count parts) (parts_in index) left next step listed (before ++ take (count + 1) after)
          (ap (λ xs. before ++ take (count + 1) xs) wrote ∙ ap (λ xs. before ++ xs) (take_more_set parts count part room) ∙ sym (append_assoc before (take count parts) (part ∷ []))
          ∙ ap (λ xs. (before ++ take count parts) ++ xs) (sym one)));
    }

    -- no part, or one that no volume has
    parts_passed : (after : List ℕ) → (part ≡ 0) ⊎ (262144 ≤ part) → after ≡ set parts count part → HasParts index before after count next
    parts_passed after (inl none) wrote = record {
      listed = λ listable.
          (let listed = was.listed listable in
          let nothing : cond (nat_lt 0 (index_entry index next)) (index_entry index next ∷ []) [] ≡ [] = ap (λ x. cond (nat_lt 0 x) (x ∷ []) []) (sym reads) ∙ none_is part none in
          part_listed (λ place part. part ∷ []) (index_entry index) before (before ++ take count parts) (parts_in index) left next step listed (before ++ take count after)
          (ap (λ xs. before ++ take count xs) wrote ∙ ap (λ xs. before ++ xs) (take-set parts count part) ∙ sym (append-nil (before ++ take count parts))
          ∙ ap (λ xs. (before ++ take count parts) ++ xs) (sym nothing)));
    }
    parts_passed after (inr great) wrote = record {
      listed = λ listable.
          (let listed = was.listed listable in
          let one : cond (nat_lt 0 (index_entry index next)) (index_entry index next ∷ []) [] ≡ part ∷ [] = ap (λ x. cond (nat_lt 0 x) (x ∷ []) []) (sym reads) ∙ alone_is part (omega (arith, great)) in
          let fits = part_listable (λ place part. part ∷ []) (index_entry index) before (before ++ take count parts) (parts_in index) left next step listed listable in
          let small = fits.small part (subst (λ (xs : List ℕ). Contains xs part) (sym one) (0, omega arith, refl)) in
          absurd (omega (arith, great, small)));
    }

  -- a part stands behind the others, and what is none is passed
  pub parts_next : (parts after : List ℕ) (count left next part some : ℕ) → left ≡ suc next → part ≡ index_entry index next → part < 4294967296 → some ≡ bool_byte (ltb ((part + 4294967295) % 4294967296) 262143)
      → count < length parts → after ≡ set parts count part → HasParts index before parts count left → (some ≤ 1) × HasParts index before after (count + some) next
  parts_next parts after count left next part some step reads wide told room wrote was = elim (is_part part some wide told) [
    | inl real ↦ rw (real.0) (omega arith, parts_more parts count left next part step reads was after real.1 room wrote)
    | inr none ↦ (let e : count ≡ count + some = (let z = none.0 in omega (arith, z)) in (let z = none.0 in omega (arith, z), subst (λ n. HasParts index before after n next) e (parts_passed parts count left next part step reads was after none.1 wrote)))
  ]

  parts_all : (parts after : List ℕ) (count left : ℕ) → left ≡ 0 → after ≡ before ++ take count parts → HasParts index before parts count left → PushesParts index before after
  parts_all parts after count left none is was listable = is ∙ all_listed (λ place part. part ∷ []) (index_entry index) before (before ++ take count parts) (parts_in index) left none (was.listed listable)

  -- as far as there was memory
  pub parts_pushed : (parts after : List ℕ) (count left : ℕ) → left ≡ 0 → HasParts index before parts count left → (result : Result (Unit {0}) AllocError)
      → after ≡ if is_ok result then before ++ take count parts else before → OnOk result (PushesParts index before after)
  parts_pushed parts after count left none was (Ok x) is = parts_all parts after count left none is was
  parts_pushed parts after count left none was (Err e) is = tt

  -- more than a volume has behind those that are listed
  pub parts_many : (parts after : List ℕ) (count left : ℕ) → left ≡ 0 → count ≤ length parts → 262144 < length before + count → HasParts index before parts count left → PushesParts index before after
  parts_many parts after count left none within many was listable = absurd (
      let e = ap length (all_listed (λ place part. part ∷ []) (index_entry index) before (before ++ take count parts) (parts_in index) left none (was.listed listable)) in
      let a = length-append before (take count parts) in
      let b = length-append before (parts_in index) in
      let t : length (take count parts) ≡ count = length-take-le count parts within in
      let few = listable.few in
      omega (arith, e, a, b, t, few, many))

-- ---- the addresses of an inode

pub record HasCollected (shown : ℕ → Option (List ℕ)) (changes : ChangeList) (d : Dinode) (now : List ℕ) (left : ℕ) : Type 0 where
  pub listed : (blocks : ℕ → List ℕ) → IsPart shown blocks → IsListable [] (under_dinode (pointers (over blocks (changed changes))) d)
      → HasListed (λ place. under_block (pointers (over blocks (changed changes))) (place - 9)) (address_in d) [] now (under_dinode (pointers (over blocks (changed changes))) d) left

module _ (shown : ℕ → Option (List ℕ)) (changes : ChangeList) (d : Dinode) where
  pub collected_next : (now after : List ℕ) (left next levels address : ℕ) → left ≡ suc next → levels ≡ next - 9 → address ≡ address_in d next
      → PushesUnder shown changes address levels now after walked.Done → HasCollected shown changes d now left → HasCollected shown changes d after next
  collected_next now after left next levels address step down reads pushes was = record {
    listed = λ blocks part listable.
        (let ps = pointers (over blocks (changed changes)) in
        let listed = was.listed blocks part listable in
        let is : cond (nat_lt 0 (address_in d next)) (under_block ps (next - 9) (address_in d next)) [] ≡ under_address ps levels address = ap (under_address ps (next - 9)) (sym reads) ∙ ap (λ n. under_address ps n address) (sym down) in
        let fits = part_listable (λ place. under_block ps (place - 9)) (address_in d) [] now (under_dinode ps d) left next step listed listable in
        part_listed (λ place. under_block ps (place - 9)) (address_in d) [] now (under_dinode ps d) left next step listed after
        (pushes blocks part (subst (IsListable now) is fits) ∙ ap (λ xs. now ++ xs) (sym is)));
  }

  pub collected_all : (now : List ℕ) (left : ℕ) → left ≡ 0 → HasCollected shown changes d now left → (blocks : ℕ → List ℕ) → IsPart shown blocks → IsListable [] (under_dinode (pointers (over blocks (changed changes))) d)
      → now ≡ under_dinode (pointers (over blocks (changed changes))) d
  collected_all now left none was blocks part listable =
      let ps = pointers (over blocks (changed changes)) in
      all_listed (λ place. under_block ps (place - 9)) (address_in d) [] now (under_dinode ps d) left none (was.listed blocks part listable)

  pub asked_among : (next levels address block : ℕ) → next < 13 → levels ≡ next - 9 → address ≡ address_in d next
      → ((blocks : ℕ → List ℕ) → IsPart shown blocks → Contains (under_address (pointers (over blocks (changed changes))) levels address) block)
      → (blocks : ℕ → List ℕ) → IsPart shown blocks → Contains (under_dinode (pointers (over blocks (changed changes))) d) block
  asked_among next levels address block low down reads among blocks part =
      let ps = pointers (over blocks (changed changes)) in
      let there = subst (λ c. Contains (under_address ps (next - 9) c) block) reads (subst (λ n. Contains (under_address ps n address) block) down (among blocks part)) in
      among_each (λ place. under_block ps (place - 9)) (address_in d) block next 13 low there

  -- a block to which an inode's own address leads
  pub own_among : (place block first : ℕ) → place < 10 → 0 < block → block ≡ address_in d place → first ≡ block → (blocks : ℕ → List ℕ) → IsPart shown blocks → Contains (under_dinode (pointers (over blocks (changed changes))) d) first
  own_among place block first low some is begins =
      asked_among place 0 block first (omega (arith, low)) (omega (arith, low)) is (λ blocks _. subst (λ b. Contains (under_address (pointers (over blocks (changed changes))) 0 block) b) (sym begins) (itself_under (pointers (over blocks (changed changes))) 0 block some))
