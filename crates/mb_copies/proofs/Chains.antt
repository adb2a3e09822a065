-- Chains of blocks: where a link leads, and what one block more or less makes of them.
use Rattle.std.proofs.Common.{◌≡◌, ◌≢◌, ◌∙◌, ℕ, zero, suc, ◌+◌, ◌-◌, ◌<◌, ◌≤◌, Bool, true, false, not, cond, ◌||◌, List, [], ◌∷◌, ◌++◌, Some, length, take, get_or, min, nat_eq, replicate, nat_lt, slice_get, slice_set, refl, sym, ap, subst, arith, length-append}
use Rattle.std.specs.Cmp.{nat_eq_equiv}
use Rattle.std.specs.List.{AllByRecursion, IsDistinct, list_any, position_or_len}
use Rattle.std.proofs.Math.Seq.{take-append_seam}
use Rattle.std.proofs.lemmas.Bool.Decides.{nat_tests}
use Rattle.std.proofs.lemmas.List.{get_or-replicate, length-replicate, take-append-le}
use Rattle.std.proofs.lemmas.Map.Keys.{IsDistinct-head, IsDistinct-tail, IsDistinct-cons, IsDistinct-push}
use Rattle.std.proofs.lemmas.Option.{get_or_from_slice_get, slice_get-get_or, slice_get_within}
use Rattle.mb_tree.proofs.SlotLists.{push_here, push_there, set_here, set_there}
use Rattle.mb_copies.specs.Chains.{AreChained, chain_of, last_in, linked, room_for}

some_is : (one other : ℕ) → Some one ≡ Some other → one ≡ other
some_is one other e = cc

-- ---- the link to a chain's last block

-- of the blocks 5, 7 and 1029, of which the first and the last are of chain 5: the links lead to places 2 and 1, and to none
worked : (last_in 5 (5 ∷ 7 ∷ 1029 ∷ []) ≡ 3) × (last_in 7 (5 ∷ 7 ∷ 1029 ∷ []) ≡ 2) × (last_in 6 (5 ∷ 7 ∷ 1029 ∷ []) ≡ 0) × (last_in 5 (5 ∷ 7 ∷ []) ≡ 1)
unfolding last_in
worked = (refl, refl, refl, refl)

linked_within : (link : ℕ) (here : Bool) (size : ℕ) → link ≤ size → linked link here ≤ suc size
linked_within zero true size low = omega arith
linked_within zero false size low = omega arith
linked_within (suc place) here size low = omega (arith, low)

pub last_within : (chain : ℕ) (blocks : List ℕ) → last_in chain blocks ≤ length blocks
unfolding last_in
last_within chain [] = omega arith
last_within chain (block ∷ blocks) = linked_within (last_in chain blocks) (nat_eq (chain_of block) chain) (length blocks) (last_within chain blocks)

-- of one block more
pub last_push : (chain : ℕ) (blocks : List ℕ) (block : ℕ) → last_in chain (blocks ++ block ∷ []) ≡ cond (nat_eq (chain_of block) chain) (suc (length blocks)) (last_in chain blocks)
unfolding last_in
last_push chain [] block = refl
last_push chain (first ∷ blocks) block = ap (λ link. linked link here) (last_push chain blocks block) ∙ at_test (nat_eq (chain_of block) chain)
  where
    here : Bool
    here = nat_eq (chain_of first) chain

    at_test : (test : Bool) → linked (cond test (suc (length blocks)) (last_in chain blocks)) here ≡ cond test (suc (suc (length blocks))) (linked (last_in chain blocks) here)
    at_test true = refl
    at_test false = refl

linked_more : (link place : ℕ) (here : Bool) → place < link → suc place < linked link here
linked_more zero place here low = absurd (omega (arith, low))
linked_more (suc link) place here low = omega (arith, low)

linked_first : (link : ℕ) (here : Bool) → here ≡ true → 0 < linked link here
linked_first zero true is = omega arith
linked_first zero false is = cc
linked_first (suc link) here is = omega arith

-- a block stands before where the link to the last one of its chain leads, or there
pub before_last : (blocks : List ℕ) (place block : ℕ) → slice_get blocks place ≡ Some block → place < last_in (chain_of block) blocks
unfolding last_in
before_last [] place block here = cc
before_last (first ∷ blocks) zero block here =
    let one : first ≡ block = cc in
    let same : chain_of first ≡ chain_of block = ap chain_of one in
    linked_first (last_in (chain_of block) blocks) (nat_eq (chain_of first) (chain_of block)) (grind (arith, nat_tests, same))
before_last (first ∷ blocks) (suc place) block here =
    linked_more (last_in (chain_of block) blocks) place (nat_eq (chain_of first) (chain_of block)) (before_last blocks place block here)

-- the link to a chain's last block leads to a block of the chain
pub last_is : (chain : ℕ) (blocks : List ℕ) (place block : ℕ) → last_in chain blocks ≡ suc place → slice_get blocks place ≡ Some block → chain_of block ≡ chain
unfolding last_in
last_is chain [] place block link here = cc
last_is chain (first ∷ blocks) place block link here = at_link (λ k. last_is chain blocks k block) (last_in chain blocks) refl (nat_eq (chain_of first) chain) refl place link here
  where
    at_link : ((k : ℕ) → last_in chain blocks ≡ suc k → slice_get blocks k ≡ Some block → chain_of block ≡ chain) → (later : ℕ) → last_in chain blocks ≡ later → (test : Bool) → nat_eq (chain_of first) chain ≡ test → (place : ℕ) → linked later test ≡ suc place → slice_get (first ∷ blocks) place ≡ Some block → chain_of block ≡ chain
    at_link rest zero none true same zero link here = let one : first ≡ block = cc in ap chain_of (sym one) ∙ grind (arith, nat_tests, same)
    at_link rest zero none true same (suc place) link here = absurd (omega (arith, link))
    at_link rest zero none false same place link here = absurd (omega (arith, link))
    at_link rest (suc later) is test same zero link here = absurd (omega (arith, link))
    at_link rest (suc later) is test same (suc place) link here = rest place (omega (arith, is, link)) here

-- ---- a search along a chain

get_take : (blocks : List ℕ) (count place : ℕ) → place < count → slice_get (take count blocks) place ≡ slice_get blocks place
get_take [] zero place low = refl
get_take [] (suc count) place low = refl
get_take (block ∷ blocks) zero place low = absurd (omega (arith, low))
get_take (block ∷ blocks) (suc count) zero low = refl
get_take (block ∷ blocks) (suc count) (suc place) low = get_take blocks count place (omega (arith, low))

length_take : (blocks : List ℕ) (count : ℕ) → length (take count blocks) ≤ count
length_take [] zero = omega arith
length_take [] (suc count) = omega arith
length_take (block ∷ blocks) zero = omega arith
length_take (block ∷ blocks) (suc count) = omega (arith, length_take blocks count)

-- a link leads to a block of the sought one's chain, and no place from there on has the sought one
pub record IsSought (block : ℕ) (blocks : List ℕ) (link : ℕ) : Type 0 where
  pub within : link ≤ length blocks
  pub chain : (place other : ℕ) → link ≡ suc place → slice_get blocks place ≡ Some other → chain_of other ≡ chain_of block
  pub none : (place : ℕ) → link ≤ place → slice_get blocks place ≡ Some block → ⊥

pub sought_first : (blocks : List ℕ) (block link : ℕ) → link ≡ last_in (chain_of block) blocks → IsSought block blocks link
sought_first blocks block link is = record {
  within = omega (arith, is, last_within (chain_of block) blocks);
  chain = λ place other at here. last_is (chain_of block) blocks place other (sym is ∙ at) here;
  none = λ place low here. omega (arith, is, low, before_last blocks place block here);
}

pub sought_next : (blocks : List ℕ) (block link next other : ℕ) → IsSought block blocks (suc link) → slice_get blocks link ≡ Some other → nat_eq other block ≡ false → next ≡ last_in (chain_of other) (take link blocks) → IsSought block blocks next
sought_next blocks block link next other so_far here apart is = record {
  within = omega (arith, is, last_within (chain_of other) (take link blocks), length_take blocks link, so_far.within);
  chain = λ place found at there.
      let low : place < link = omega (arith, at, is, last_within (chain_of other) (take link blocks), length_take blocks link) in
      last_is (chain_of other) (take link blocks) place found (sym is ∙ at) (get_take blocks link place low ∙ there) ∙ same;
  none = λ place high there. at_place place high there (nat_eq place link) refl;
}
  where
    same : chain_of other ≡ chain_of block
    same = so_far.chain link other refl here

    at_side : (place : ℕ) → next ≤ place → slice_get blocks place ≡ Some block → (test : Bool) → nat_lt place link ≡ test → place ≢ link → ⊥
    at_side place high there true low apart =
        let less : place < link = grind (arith, nat_tests, low) in
        let before : place < last_in (chain_of block) (take link blocks) = before_last (take link blocks) place block (get_take blocks link place less ∙ there) in
        let named : last_in (chain_of other) (take link blocks) ≡ last_in (chain_of block) (take link blocks) = ap (λ chain. last_in chain (take link blocks)) same in
        omega (arith, high, is, before, named)
    at_side place high there false low apart = so_far.none place (grind (arith, nat_tests, low, apart)) there

    at_place : (place : ℕ) → next ≤ place → slice_get blocks place ≡ Some block → (test : Bool) → nat_eq place link ≡ test → ⊥
    at_place place high there true equal =
        let one : place ≡ link = grind (arith, nat_tests, equal) in
        let both : other ≡ block = some_is other block (sym here ∙ ap (slice_get blocks) (sym one) ∙ there) in
        let is_true : nat_eq other block ≡ true = grind (arith, nat_tests, both) in
        cc
    at_place place high there false unequal = at_side place high there (nat_lt place link) refl (grind (arith, nat_tests, unequal))

-- a block that stands nowhere is not among them
pub none_listed : (block : ℕ) (blocks : List ℕ) → ((place : ℕ) → slice_get blocks place ≡ Some block → ⊥) → list_any (nat_eq block) blocks ≡ false
none_listed block [] none = refl
none_listed block (first ∷ blocks) none = at_test (nat_eq block first) refl (none_listed block blocks (λ place here. none (suc place) here))
  where
    at_test : (test : Bool) → nat_eq block first ≡ test → list_any (nat_eq block) blocks ≡ false → (test || list_any (nat_eq block) blocks) ≡ false
    at_test true same rest = let one : first ≡ block = grind (arith, nat_tests, same) in absurd (none 0 (ap Some one))
    at_test false apart rest = rest

-- ---- a block's place

apart_from : (block : ℕ) (blocks : List ℕ) (place other : ℕ) → AllByRecursion (λ (y : ℕ). nat_eq block y ≡ false) blocks → slice_get blocks place ≡ Some other → nat_eq other block ≡ false
apart_from block [] place other all here = cc
apart_from block (first ∷ blocks) zero other all here = let one : first ≡ other = cc in let no : nat_eq block other ≡ false = ap (nat_eq block) (sym one) ∙ all.0 in grind (arith, nat_tests, no)
apart_from block (first ∷ blocks) (suc place) other all here = apart_from block blocks place other all.1 here

-- a block stands at one place
pub position_is : (blocks : List ℕ) (place block : ℕ) → IsDistinct nat_eq blocks → slice_get blocks place ≡ Some block → position_or_len (nat_eq block) blocks ≡ place
position_is [] place block once here = cc
position_is (first ∷ blocks) zero block once here =
    let one : first ≡ block = cc in
    let same : nat_eq block first ≡ true = grind (arith, nat_tests, one) in
    ap (λ test. cond (not test) (1 + position_or_len (nat_eq block) blocks) 0) same
position_is (first ∷ blocks) (suc place) block once here =
    let apart : nat_eq block first ≡ false = apart_from first blocks place block (IsDistinct-head nat_eq first blocks once) here in
    ap (λ test. cond (not test) (1 + position_or_len (nat_eq block) blocks) 0) apart ∙ ap (λ n. 1 + n) (position_is blocks place block (IsDistinct-tail nat_eq first blocks once) here) ∙ omega arith

pub is_listed : (blocks : List ℕ) (place block : ℕ) → slice_get blocks place ≡ Some block → list_any (nat_eq block) blocks ≡ true
is_listed [] place block here = cc
is_listed (first ∷ blocks) zero block here =
    let one : first ≡ block = cc in
    let same : nat_eq block first ≡ true = grind (arith, nat_tests, one) in
    ap (λ test. test || list_any (nat_eq block) blocks) same
is_listed (first ∷ blocks) (suc place) block here = or_true (nat_eq block first) (is_listed blocks place block here)
  where
    or_true : (test : Bool) → list_any (nat_eq block) blocks ≡ true → (test || list_any (nat_eq block) blocks) ≡ true
    or_true true rest = refl
    or_true false rest = rest

-- a block that is not among them comes behind all
pub position_behind : (block : ℕ) (blocks : List ℕ) → list_any (nat_eq block) blocks ≡ false → position_or_len (nat_eq block) blocks ≡ length blocks
position_behind block [] none = refl
position_behind block (first ∷ blocks) none = at_test (nat_eq block first) none (position_behind block blocks)
  where
    at_test : (test : Bool) → (test || list_any (nat_eq block) blocks) ≡ false → (list_any (nat_eq block) blocks ≡ false → position_or_len (nat_eq block) blocks ≡ length blocks) → cond (not test) (1 + position_or_len (nat_eq block) blocks) 0 ≡ suc (length blocks)
    at_test true bad rest = cc
    at_test false later rest = ap (λ n. 1 + n) (rest later) ∙ omega arith

-- ---- one block more, and one less

length_set : (list : List ℕ) (at value : ℕ) → length (slice_set list at value) ≡ length list
length_set [] at value = refl
length_set (x ∷ list) zero value = refl
length_set (x ∷ list) (suc at) value = ap suc (length_set list at value)

pub chained_push : (last before blocks : List ℕ) (block link : ℕ) → length last ≡ 1024 → chain_of block < 1024 → list_any (nat_eq block) blocks ≡ false → slice_get last (chain_of block) ≡ Some link → AreChained last before blocks
    → AreChained (slice_set last (chain_of block) (suc (length blocks))) (before ++ link ∷ []) (blocks ++ block ∷ [])
chained_push last before blocks block link full low none head old = record {
  once = IsDistinct-push nat_eq_equiv blocks block old.once none;
  beside = omega (arith, length-append before (link ∷ []), length-append blocks (block ∷ []), old.beside);
  size = λ more. length_set last (chain_of block) (suc (length blocks)) ∙ full;
  table = λ more. length_set last (chain_of block) (suc (length blocks)) ∙ full;
  heads = λ chain within. at_chain chain (subst (λ n. chain < n) (length_set last (chain_of block) (suc (length blocks))) within) (nat_eq (chain_of block) chain) refl;
  links = λ place other here. at_place place other here (nat_eq place (length blocks)) refl;
}
  where
    at_chain : (chain : ℕ) → chain < length last → (test : Bool) → nat_eq (chain_of block) chain ≡ test → slice_get (slice_set last (chain_of block) (suc (length blocks))) chain ≡ Some (last_in chain (blocks ++ block ∷ []))
    at_chain chain within true same =
        let one : chain_of block ≡ chain = grind (arith, nat_tests, same) in
        let is : last_in chain (blocks ++ block ∷ []) ≡ suc (length blocks) = last_push chain blocks block ∙ ap (λ test. cond test (suc (length blocks)) (last_in chain blocks)) same in
        ap (slice_get (slice_set last (chain_of block) (suc (length blocks)))) (sym one) ∙ set_here last (chain_of block) (suc (length blocks)) (omega (arith, full, low)) ∙ ap Some (sym is)
    at_chain chain within false apart =
        let other : chain ≢ chain_of block = λ e. let bad : nat_eq (chain_of block) chain ≡ true = grind (arith, nat_tests, e) in cc in
        let is : last_in chain (blocks ++ block ∷ []) ≡ last_in chain blocks = last_push chain blocks block ∙ ap (λ test. cond test (suc (length blocks)) (last_in chain blocks)) apart in
        set_there last (chain_of block) (suc (length blocks)) chain other ∙ old.heads chain within ∙ ap Some (sym is)

    at_place : (place other : ℕ) → slice_get (blocks ++ block ∷ []) place ≡ Some other → (test : Bool) → nat_eq place (length blocks) ≡ test → slice_get (before ++ link ∷ []) place ≡ Some (last_in (chain_of other) (take place (blocks ++ block ∷ [])))
    at_place place other here true same =
        let at : place ≡ length blocks = grind (arith, nat_tests, same) in
        let one : block ≡ other = some_is block other (sym (push_here blocks block) ∙ ap (slice_get (blocks ++ block ∷ [])) (sym at) ∙ here) in
        let is : link ≡ last_in (chain_of block) blocks = some_is link (last_in (chain_of block) blocks) (sym head ∙ old.heads (chain_of block) (omega (arith, full, low))) in
        let front : take place (blocks ++ block ∷ []) ≡ blocks = ap (λ n. take n (blocks ++ block ∷ [])) at ∙ take-append_seam blocks (block ∷ []) in
        ap (slice_get (before ++ link ∷ [])) (at ∙ sym old.beside) ∙ push_here before link ∙ ap Some (is ∙ ap (λ b. last_in (chain_of b) blocks) one ∙ ap (last_in (chain_of other)) (sym front))
    at_place place other here false apart =
        let off : place ≢ length blocks = λ e. let bad : nat_eq place (length blocks) ≡ true = grind (arith, nat_tests, e) in cc in
        let there : slice_get blocks place ≡ Some other = sym (push_there blocks block place off) ∙ here in
        let within : place < length blocks = slice_get_within blocks place other there in
        let front : take place (blocks ++ block ∷ []) ≡ take place blocks = take-append-le place blocks (block ∷ []) (omega (arith, within)) in
        push_there before link place (λ e. off (e ∙ old.beside)) ∙ old.links place other there ∙ ap (λ list. Some (last_in (chain_of other) list)) (sym front)

all_front : (block : ℕ) (xs ys : List ℕ) → AllByRecursion (λ (y : ℕ). nat_eq block y ≡ false) (xs ++ ys) → AllByRecursion (λ (y : ℕ). nat_eq block y ≡ false) xs
all_front block [] ys all = tt
all_front block (x ∷ xs) ys all = (all.0, all_front block xs ys all.1)

once_front : (xs ys : List ℕ) → IsDistinct nat_eq (xs ++ ys) → IsDistinct nat_eq xs
unfolding IsDistinct
once_front [] ys once = tt
once_front (x ∷ xs) ys once = IsDistinct-cons nat_eq x xs (all_front x xs ys (IsDistinct-head nat_eq x (xs ++ ys) once)) (once_front xs ys (IsDistinct-tail nat_eq x (xs ++ ys) once))

pub chained_pop : (last before blocks : List ℕ) (block link : ℕ) → AreChained last (before ++ link ∷ []) (blocks ++ block ∷ []) → AreChained (slice_set last (chain_of block) link) before blocks
chained_pop last before blocks block link old = record {
  once = once_front blocks (block ∷ []) old.once;
  beside = beside;
  size = λ more. length_set last (chain_of block) link ∙ full;
  table = λ more. length_set last (chain_of block) link ∙ full;
  heads = λ chain within. at_chain chain (subst (λ n. chain < n) (length_set last (chain_of block) link) within) (nat_eq (chain_of block) chain) refl;
  links = λ place other here.
      let within : place < length blocks = slice_get_within blocks place other here in
      let there : slice_get (blocks ++ block ∷ []) place ≡ Some other = push_there blocks block place (λ e. omega (arith, e, within)) ∙ here in
      let front : take place (blocks ++ block ∷ []) ≡ take place blocks = take-append-le place blocks (block ∷ []) (omega (arith, within)) in
      sym (push_there before link place (λ e. omega (arith, e, within, beside))) ∙ old.links place other there ∙ ap (λ list. Some (last_in (chain_of other) list)) front;
}
  where
    beside : length before ≡ length blocks
    beside = omega (arith, old.beside, length-append before (link ∷ []), length-append blocks (block ∷ []))

    full : length last ≡ 1024
    full = old.table (omega (arith, length-append blocks (block ∷ [])))

    is : link ≡ last_in (chain_of block) blocks
    is = some_is link (last_in (chain_of block) blocks)
        (sym (push_here before link) ∙ ap (slice_get (before ++ link ∷ [])) beside ∙ old.links (length blocks) block (push_here blocks block) ∙ ap (λ list. Some (last_in (chain_of block) list)) (take-append_seam blocks (block ∷ [])))

    at_chain : (chain : ℕ) → chain < length last → (test : Bool) → nat_eq (chain_of block) chain ≡ test → slice_get (slice_set last (chain_of block) link) chain ≡ Some (last_in chain blocks)
    at_chain chain within true same =
        let one : chain_of block ≡ chain = grind (arith, nat_tests, same) in
        ap (slice_get (slice_set last (chain_of block) link)) (sym one) ∙ set_here last (chain_of block) link (omega (arith, one, within)) ∙ ap Some (is ∙ ap (λ c. last_in c blocks) one)
    at_chain chain within false apart =
        let other : chain ≢ chain_of block = λ e. let bad : nat_eq (chain_of block) chain ≡ true = grind (arith, nat_tests, e) in cc in
        let was : last_in chain (blocks ++ block ∷ []) ≡ last_in chain blocks = last_push chain blocks block ∙ ap (λ test. cond test (suc (length blocks)) (last_in chain blocks)) apart in
        set_there last (chain_of block) link chain other ∙ old.heads chain within ∙ ap Some was

-- no block
once_none : IsDistinct nat_eq []
unfolding IsDistinct
once_none = tt

pub chained_none : (last before blocks : List ℕ) → blocks ≡ [] → before ≡ [] → last ≡ [] → AreChained last before blocks
chained_none last before blocks none alone empty = record {
  once = subst (IsDistinct nat_eq) (sym none) once_none;
  beside = ap length alone ∙ sym (ap length none);
  size = λ more. absurd (omega (arith, more, ap length empty));
  table = λ more. absurd (omega (arith, more, ap length none));
  heads = λ chain within. absurd (omega (arith, within, ap length empty));
  links = λ place block here. let bad : slice_get [] place ≡ Some block = ap (λ list. slice_get list place) (sym none) ∙ here in cc;
}

-- ---- what the code's steps come to

-- where there are blocks, or there is room for one, each chain has its link
pub chain_within : (last before blocks : List ℕ) (chain block : ℕ) → chain ≡ chain_of block → chain < 1024 → AreChained last before blocks → (length blocks ≡ 0 → ⊥) → chain_of block < length last
chain_within last before blocks chain block is low old some = omega (arith, is, low, old.table (grind (arith, some)))

pub room_full : (last : List ℕ) (blocks before : ℕ) → 0 < room_for last blocks before → length last ≡ 1024
room_full last blocks before room = at_test (nat_eq (length last) 1024) refl room
  where
    at_test : (test : Bool) → nat_eq (length last) 1024 ≡ test → 0 < cond test (min blocks before) 0 → length last ≡ 1024
    at_test true same room = grind (arith, nat_tests, same)
    at_test false apart room = absurd (omega (arith, room))

-- a search begins at the link of the block's chain
pub sought_head : (last before blocks : List ℕ) (chain block link : ℕ) → chain ≡ chain_of block → link ≡ get_or last chain link → chain_of block < length last → AreChained last before blocks → IsSought block blocks link
sought_head last before blocks chain block link is head low old =
    let at : get_or last chain link ≡ get_or last (chain_of block) link = ap (λ c. get_or last c link) is in
    let there : slice_get last (chain_of block) ≡ Some link = slice_get-get_or last (chain_of block) link low ∙ ap Some (sym (head ∙ at)) in
    sought_first blocks block link (some_is link (last_in (chain_of block) blocks) (sym there ∙ old.heads (chain_of block) low))

module _ (last before blocks : List ℕ) (block link : ℕ) (old : AreChained last before blocks) (some : 0 < link) (so_far : IsSought block blocks link) where
  abbrev at : ℕ
  at = link - 1

  low : at < length blocks
  low = omega (arith, some, so_far.within)

  here : slice_get blocks at ≡ Some (get_or blocks at 0)
  here = slice_get-get_or blocks at 0 low

  next_is : get_or before at 0 ≡ last_in (chain_of (get_or blocks at 0)) (take at blocks)
  next_is = get_or_from_slice_get before at (last_in (chain_of (get_or blocks at 0)) (take at blocks)) 0 (old.links at (get_or blocks at 0) here)

  -- a search goes on behind a block that is not the sought one
  pub sought_step : (get_or blocks at 0 ≡ block → ⊥) → IsSought block blocks (get_or before at 0)
  sought_step apart =
      let one : link ≡ suc at = omega (arith, some) in
      sought_next blocks block at (get_or before at 0) (get_or blocks at 0) (subst (IsSought block blocks) one so_far) here (grind (arith, nat_tests, apart)) next_is

  pub step_smaller : get_or before at 0 < link
  step_smaller = omega (arith, some, next_is, last_within (chain_of (get_or blocks at 0)) (take at blocks), length_take blocks at)

-- a search that came to no link found nothing
pub sought_none : (blocks : List ℕ) (block link : ℕ) → link ≤ 0 → IsSought block blocks link → list_any (nat_eq block) blocks ≡ false
sought_none blocks block link none so_far = none_listed block blocks (λ place here. so_far.none place (omega (arith, none)) here)

pub chained_pushed : (last before blocks more_before more_blocks : List ℕ) (block chain link count : ℕ) → more_before ≡ before ++ link ∷ [] → more_blocks ≡ blocks ++ block ∷ [] → chain ≡ chain_of block → chain < 1024 → count ≡ length more_blocks → link ≡ get_or last chain link
    → length last ≡ 1024 → list_any (nat_eq block) blocks ≡ false → AreChained last before blocks → AreChained (slice_set last chain count) more_before more_blocks
chained_pushed last before blocks more_before more_blocks block chain link count links list is low counted head full none old =
    let at : get_or last chain link ≡ get_or last (chain_of block) link = ap (λ c. get_or last c link) is in
    let there : slice_get last (chain_of block) ≡ Some link = slice_get-get_or last (chain_of block) link (omega (arith, is, low, full)) ∙ ap Some (sym (head ∙ at)) in
    let size : suc (length blocks) ≡ count = omega (arith, counted, ap length list, length-append blocks (block ∷ [])) in
    subst (λ all. AreChained (slice_set last chain count) more_before all) (sym list)
    (subst (λ all. AreChained (slice_set last chain count) all (blocks ++ block ∷ [])) (sym links)
    (subst (λ c. AreChained (slice_set last c count) (before ++ link ∷ []) (blocks ++ block ∷ [])) (sym is)
    (subst (λ n. AreChained (slice_set last (chain_of block) n) (before ++ link ∷ []) (blocks ++ block ∷ [])) size
    (chained_push last before blocks block link full (omega (arith, is, low)) none there old))))

take_none : (count : ℕ) → take {A = ℕ} count [] ≡ []
take_none zero = refl
take_none (suc count) = refl

-- an empty list that is filled up
pub filled_up : (last links : List ℕ) (count size : ℕ) → length last ≡ 0 → size ≡ length last → links ≡ take count last ++ replicate (count - size) 0 → links ≡ replicate count 0
filled_up [] links count size none same made = made ∙ ap (λ front. front ++ replicate (count - size) 0) (take_none count) ∙ ap (λ n. replicate n 0) (let whole : count - size ≡ count = omega (arith, same) in whole)
filled_up (link ∷ last) links count size none same made = absurd (omega (arith, none))

-- links for all chains are made while there is no block
last_none : (chain : ℕ) → last_in chain [] ≡ 0
unfolding last_in
last_none chain = refl

pub chained_begun : (last before blocks links same_before same_blocks : List ℕ) → length last ≡ 0 → links ≡ replicate 1024 0 → same_before ≡ before → same_blocks ≡ blocks → AreChained last before blocks → AreChained links same_before same_blocks
chained_begun last before blocks links same_before same_blocks empty made beside list old = begun blocks same_blocks list no_block before same_before beside old.beside
  where
    no_block : length blocks ≡ 0
    no_block = grind (arith, empty, old.table)

    size : length links ≡ 1024
    size = ap length made ∙ length-replicate {A = ℕ} 1024 0

    begun : (blocks same_blocks : List ℕ) → same_blocks ≡ blocks → length blocks ≡ 0 → (before same_before : List ℕ) → same_before ≡ before → length before ≡ length blocks → AreChained links same_before same_blocks
    begun [] same list none before same_before beside sizes = subst (AreChained links same_before) (sym list) (record {
      once = once_none;
      beside = ap length beside ∙ sizes;
      size = λ more. size;
      table = λ more. size;
      heads = λ chain within. slice_get-get_or links chain 0 within ∙ ap (λ list. Some (get_or list chain 0)) made ∙ ap Some (get_or-replicate 1024 chain 0 0 (omega (arith, within, size)) ∙ sym (last_none chain));
      links = λ place block here. cc;
    })
    begun (block ∷ blocks) same list none before same_before beside sizes = absurd (omega (arith, none))
