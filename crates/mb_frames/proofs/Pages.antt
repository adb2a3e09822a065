-- What the lists of pages tell of a token, as they change.
use Rattle.std.proofs.Common.{◌≡◌, ℕ, zero, suc, ◌+◌, ◌<◌, ◌≤◌, true, false, cond, List, [], ◌∷◌, ◌++◌, length, get_or, set, map, refl, sym, ap, ◌∙◌, subst, arith}
use Rattle.std.proofs.lemmas.List.{map-append}
use Rattle.std.specs.Prelude.{◌≢◌}
use denote.RawPtr.{Ptr}
use Rattle.mb_frames.specs.Pointers.{same_ptr}
use Rattle.mb_frames.specs.Counts.{total, times}
use Rattle.mb_frames.specs.Cells.{Cell, block_at}
use Rattle.mb_frames.specs.Pages.{Page, page, stands_in, standing, read_in, any, read_of, without, rewritten, replaced, NamedAt, SameAt}
use Rattle.mb_frames.specs.Walks.{page_of}
use Rattle.mb_frames.proofs.Pointers.{same_ptr_refl, same_ptr_eq, same_ptr_symm}
use Rattle.mb_frames.proofs.Sums.{total_at, total_set}
use Rattle.mb_frames.proofs.Chains.{one, one_self, times_none, times_cons, times_append}
use Rattle.mb_frames.proofs.Views.{map_places}

pub one_other : (p q : Ptr) → q ≢ p → one p q ≡ 0
one_other p q n = (elim (same_ptr p q) as (λ y. same_ptr p q ≡ y → ◌≡◌ {A = ℕ} (cond y 1 0) 0) [
  | true ↦ λ e. absurd (n (sym (same_ptr_eq p q e)))
  | false ↦ λ e. refl
]) refl

pub stands_append : (q : Ptr) (xs ys : List Page) → stands_in q (xs ++ ys) ≡ stands_in q xs + stands_in q ys
unfolding stands_in
stands_append q xs ys = ap (times q) (map-append (λ (g : Page). g.place) xs ys) ∙ times_append q (map (λ (g : Page). g.place) xs) (map (λ (g : Page). g.place) ys)

pub stands_none : (q : Ptr) → stands_in q [] ≡ 0
unfolding stands_in
stands_none q = times_none q

pub stands_cons : (q : Ptr) (g : Page) (gs : List Page) → stands_in q (g ∷ gs) ≡ one g.place q + stands_in q gs
unfolding stands_in
stands_cons q g gs = times_cons q g.place (map (λ (g : Page). g.place) gs)

pub stands_pages : (q : Ptr) (cs : List Cell) (ps : List Ptr) → stands_in q (map (page_of cs) ps) ≡ times q ps
unfolding stands_in
stands_pages q cs ps = ap (times q) (map_places cs ps)

pub standing_cons : (q : Ptr) (r : List Page) (rs : List (List Page)) → standing q (r ∷ rs) ≡ stands_in q r + standing q rs
unfolding standing total
standing_cons q r rs = refl

-- one ring gets other pages
pub standing_set : (q : Ptr) (rs : List (List Page)) (k : ℕ) (r : List Page) → k < length rs → standing q (set rs k r) + stands_in q (get_or rs k []) ≡ standing q rs + stands_in q r
unfolding standing
standing_set q rs k r w = total_set (stands_in q) [] rs k r w

pub standing_at : (q : Ptr) (rs : List (List Page)) (k : ℕ) → k < length rs → stands_in q (get_or rs k []) ≤ standing q rs
unfolding standing
standing_at q rs k w = total_at (stands_in q) [] rs k w

-- what is read of a token's page, as the cells hold it
read_in_pages : {X : Type 0} (f : Page → X) (d : X) (q : Ptr) (cs : List Cell) (ps : List Ptr) → 0 < times q ps → read_in f d q (map (page_of cs) ps) ≡ f (page_of cs q)
unfolding read_in times
read_in_pages f d q cs [] w = absurd (omega arith)
read_in_pages f d q cs (p ∷ ps) w = (elim (same_ptr p q) as (λ y. same_ptr p q ≡ y → 0 < cond y 1 0 + times q ps → cond y (f (page_of cs p)) (read_in f d q (map (page_of cs) ps)) ≡ f (page_of cs q)) [
  | true ↦ λ e v. ap (λ r. f (page_of cs r)) (same_ptr_eq p q e)
  | false ↦ λ e v. read_in_pages f d q cs ps (omega (arith, v))
]) refl w

-- each page of the rings holds what the cells say
pub record Told (cs : List Cell) (rings : List (List Page)) : Type 0 where
  pub rows : List (List Ptr)
  pub are : rings ≡ map (map (page_of cs)) rows

read_rows : {X : Type 0} (f : Page → X) (d : X) (q : Ptr) (cs : List Cell) (rows : List (List Ptr)) → read_of f d q (map (map (page_of cs)) rows) ≡ cond (any (standing q (map (map (page_of cs)) rows))) (f (page_of cs q)) d
unfolding read_of standing total
read_rows f d q cs [] = refl
read_rows f d q cs (r ∷ rs) =
    let n = stands_in q (map (page_of cs) r) in let k = total (stands_in q) (map (map (page_of cs)) rs) in
    (elim n as (λ v. n ≡ v → cond (any v) (read_in f d q (map (page_of cs) r)) (read_of f d q (map (map (page_of cs)) rs)) ≡ cond (any (v + k)) (f (page_of cs q)) d) [
      | zero ↦ λ e. let z : k ≡ 0 + k = omega arith in read_rows f d q cs rs ∙ ap (λ m. cond (any m) (f (page_of cs q)) d) z
      | suc v ↦ λ e. read_in_pages f d q cs r (omega (arith, e, stands_pages q cs r)) ∙ (let z : suc (v + k) ≡ suc v + k = omega arith in ap (λ m. cond (any m) (f (page_of cs q)) d) z)
    ]) refl

pub read_told : {X : Type 0} (f : Page → X) (d : X) (q : Ptr) (cs : List Cell) (rings : List (List Page)) → Told cs rings → read_of f d q rings ≡ cond (any (standing q rings)) (f (page_of cs q)) d
read_told f d q cs rings t = subst (λ r. read_of f d q r ≡ cond (any (standing q r)) (f (page_of cs q)) d) (sym t.are) (read_rows f d q cs t.rows)

same_read : {X : Type 0} (f : Page → X) (d : X) (q : Ptr) (old new : List Cell) (before after : List (List Page)) → Told old before → Told new after → standing q after ≡ standing q before → f (page_of new q) ≡ f (page_of old q) → read_of f d q after ≡ read_of f d q before
same_read f d q old new before after a b e s = read_told f d q new after b ∙ (λ i. cond (any (e i)) (s i) d) ∙ sym (read_told f d q old before a)

pub same_at : (q : Ptr) (old new : List Cell) (before after : List (List Page)) → Told old before → Told new after → standing q after ≡ standing q before → page_of new q ≡ page_of old q → SameAt before after q
same_at q old new before after a b e s = record {
  stands = e;
  block = same_read (λ g. g.block) 0 q old new before after a b e (ap (λ (g : Page). g.block) s);
  bytes = same_read (λ g. g.bytes) [] q old new before after a b e (ap (λ (g : Page). g.bytes) s);
}

pub named_at : (q : Ptr) (old new : List Cell) (before after : List (List Page)) → Told old before → Told new after → standing q after ≡ standing q before → block_at new q ≡ block_at old q → NamedAt before after q
named_at q old new before after a b e s = record { stands = e; block = same_read (λ g. g.block) 0 q old new before after a b e s }

-- a page is left out of the ring where it stands
without_none : (p : Ptr) (gs : List Page) → stands_in p gs ≡ 0 → without p gs ≡ gs
unfolding without stands_in times
without_none p [] e = refl
without_none p (g ∷ gs) e = (elim (same_ptr g.place p) as (λ y. cond y 1 0 + times p (map (λ (g : Page). g.place) gs) ≡ 0 → cond y (without p gs) (g ∷ without p gs) ≡ g ∷ gs) [
  | true ↦ λ z. absurd (omega (arith, z))
  | false ↦ λ z. ap (λ l. g ∷ l) (without_none p gs (omega (arith, z)))
]) e

without_append : (p : Ptr) (xs ys : List Page) → without p (xs ++ ys) ≡ without p xs ++ without p ys
unfolding without
without_append p [] ys = refl
without_append p (x ∷ xs) ys = (elim (same_ptr x.place p) as (λ y. cond y (without p (xs ++ ys)) (x ∷ without p (xs ++ ys)) ≡ cond y (without p xs) (x ∷ without p xs) ++ without p ys) [
  | true ↦ without_append p xs ys
  | false ↦ ap (λ l. x ∷ l) (without_append p xs ys)
])

without_first : (p : Ptr) (g : Page) (ys : List Page) → g.place ≡ p → without p (g ∷ ys) ≡ without p ys
unfolding without
without_first p g ys e = ap (λ y. cond y (without p ys) (g ∷ without p ys)) (ap (λ q. same_ptr q p) e ∙ same_ptr_refl p)

-- before and after a page that stands once, its place does not stand
pub only_here : (p : Ptr) (g : Page) (xs ys : List Page) → g.place ≡ p → stands_in p (xs ++ g ∷ ys) ≤ 1 → (stands_in p xs ≡ 0) × (stands_in p ys ≡ 0)
only_here p g xs ys e w =
    let a = stands_append p xs (g ∷ ys) in let c = stands_cons p g ys in let s : one g.place p ≡ 1 = ap (λ q. one q p) e ∙ one_self p in
    (omega (arith, w, a, c, s), omega (arith, w, a, c, s))

pub without_here : (p : Ptr) (g : Page) (xs ys : List Page) → g.place ≡ p → stands_in p (xs ++ g ∷ ys) ≤ 1 → without p (xs ++ g ∷ ys) ≡ xs ++ ys
without_here p g xs ys e w =
    let only = only_here p g xs ys e w in
    without_append p xs (g ∷ ys) ∙ (λ i. without_none p xs only.0 i ++ (without_first p g ys e ∙ without_none p ys only.1) i)

-- a change of lists that leaves those where p does not stand
module _ (p : Ptr) (f : List Page → List Page) (none : (gs : List Page) → stands_in p gs ≡ 0 → f gs ≡ gs) where
  pub leaves_all : (rs : List (List Page)) → standing p rs ≡ 0 → map f rs ≡ rs
  unfolding standing total
  leaves_all [] e = refl
  leaves_all (r ∷ rs) e = λ i. none r (omega (arith, e)) i ∷ leaves_all rs (omega (arith, e)) i

  pub changes_one : (rs : List (List Page)) (k : ℕ) (l : List Page) → k < length rs → f (get_or rs k []) ≡ l → 0 < stands_in p (get_or rs k []) → standing p rs ≤ 1 → map f rs ≡ set rs k l
  unfolding standing total
  changes_one [] k l w e n o = absurd (omega arith)
  changes_one (r ∷ rs) zero l w e n o = λ i. e i ∷ leaves_all rs (omega (arith, n, o)) i
  changes_one (r ∷ rs) (suc k) l w e n o =
      let at = standing_at p rs k (omega (arith, w)) in
      λ i. none r (omega (arith, n, o, at)) i ∷ changes_one rs k l (omega (arith, w)) e n (omega (arith, o)) i

pub without_set : (p : Ptr) (rs : List (List Page)) (k : ℕ) (l : List Page) → k < length rs → without p (get_or rs k []) ≡ l → 0 < stands_in p (get_or rs k []) → standing p rs ≤ 1 → map (without p) rs ≡ set rs k l
without_set p = changes_one p (without p) (without_none p)

-- where a place stands
pub record Located (p : Ptr) (rs : List (List Page)) : Type 0 where
  pub ring : ℕ
  pub within : ring < length rs
  pub stands : 0 < stands_in p (get_or rs ring [])

pub located : (p : Ptr) (rs : List (List Page)) → 0 < standing p rs → Located p rs
unfolding standing total
located p [] w = absurd (omega arith)
located p (r ∷ rs) w = (elim (stands_in p r) as (λ v. stands_in p r ≡ v → Located p (r ∷ rs)) [
  | zero ↦ λ e. let there = located p rs (omega (arith, w, e)) in record { ring = suc there.ring; within = omega (arith, there.within); stands = there.stands }
  | suc v ↦ λ e. record { ring = 0; within = omega arith; stands = omega (arith, e) }
]) refl

pub record Split (p : Ptr) (ps : List Ptr) : Type 0 where
  pub before : List Ptr
  pub after : List Ptr
  pub is : ps ≡ before ++ p ∷ after

pub split_at : (p : Ptr) (ps : List Ptr) → 0 < times p ps → Split p ps
unfolding times
split_at p [] w = absurd (omega arith)
split_at p (q ∷ ps) w = (elim (same_ptr q p) as (λ y. same_ptr q p ≡ y → 0 < cond y 1 0 + times p ps → Split p (q ∷ ps)) [
  | true ↦ λ e v. record { before = []; after = ps; is = ap (λ k. k ∷ ps) (same_ptr_eq q p e) }
  | false ↦ λ e v. let there = split_at p ps (omega (arith, v)) in record { before = q ∷ there.before; after = there.after; is = ap (λ l. q ∷ l) there.is }
]) refl w

pub other_ptr : (p q : Ptr) → q ≢ p → same_ptr p q ≡ false
other_ptr p q n = (elim (same_ptr p q) as (λ y. same_ptr p q ≡ y → y ≡ false) [
  | true ↦ λ e. absurd (n (sym (same_ptr_eq p q e)))
  | false ↦ λ e. refl
]) refl

-- a change of pages that leaves their places
module _ (f : Page → Page) (same : (g : Page) → (f g).place ≡ g.place) where
  pub places_each : (gs : List Page) → map (λ (g : Page). g.place) (map f gs) ≡ map (λ (g : Page). g.place) gs
  places_each [] = refl
  places_each (g ∷ gs) = λ i. same g i ∷ places_each gs i

  pub stands_each : (q : Ptr) (gs : List Page) → stands_in q (map f gs) ≡ stands_in q gs
  unfolding stands_in
  stands_each q gs = ap (times q) (places_each gs)

  pub standing_each : (q : Ptr) (rs : List (List Page)) → standing q (map (map f) rs) ≡ standing q rs
  unfolding standing total
  standing_each q [] = refl
  standing_each q (r ∷ rs) = omega (arith, stands_each q r, standing_each q rs)

-- a change of the page at p alone
module _ (p : Ptr) (f : Page → Page) (others : (g : Page) → same_ptr p g.place ≡ false → f g ≡ g) where
  pub each_none : (gs : List Page) → stands_in p gs ≡ 0 → map f gs ≡ gs
  unfolding stands_in times
  each_none [] e = refl
  each_none (g ∷ gs) e = (elim (same_ptr g.place p) as (λ y. same_ptr g.place p ≡ y → cond y 1 0 + times p (map (λ (g : Page). g.place) gs) ≡ 0 → map f (g ∷ gs) ≡ g ∷ gs) [
    | true ↦ λ s z. absurd (omega (arith, z))
    | false ↦ λ s z i. others g (same_ptr_symm p g.place ∙ s) i ∷ each_none gs (omega (arith, z)) i
  ]) refl e

-- the page of the block k with the bytes b, if it is the one at p
abbrev pub stored : Ptr → ℕ → List ℕ → Page → Page
stored p k b g = cond (same_ptr p g.place) (page g.place k b) g

pub stored_place : (p : Ptr) (k : ℕ) (b : List ℕ) (g : Page) → (stored p k b g).place ≡ g.place
stored_place p k b g = (elim (same_ptr p g.place) as (λ y. (cond y (page g.place k b) g).place ≡ g.place) [
  | true ↦ refl
  | false ↦ refl
])

pub stored_all : (p : Ptr) (k : ℕ) (b : List ℕ) (rs : List (List Page)) → standing p rs ≡ 0 → map (map (stored p k b)) rs ≡ rs
stored_all p k b = leaves_all p (map (stored p k b)) (each_none p (stored p k b) (λ g e. ap (λ y. cond y (page g.place k b) g) e))

pub rewritten_place : (p : Ptr) (b : List ℕ) (g : Page) → (rewritten p b g).place ≡ g.place
unfolding rewritten
rewritten_place p b g = stored_place p g.block b g

rewritten_none : (p : Ptr) (b : List ℕ) (gs : List Page) → stands_in p gs ≡ 0 → map (rewritten p b) gs ≡ gs
unfolding rewritten
rewritten_none p b = each_none p (rewritten p b) (λ g e. ap (λ y. cond y (page g.place g.block b) g) e)

-- the page at p is the one at an index of the ring k
replaced_here : (p : Ptr) (b : List ℕ) (g : Page) (xs ys : List Page) → g.place ≡ p → stands_in p xs ≡ 0 → stands_in p ys ≡ 0 → map (rewritten p b) (xs ++ g ∷ ys) ≡ replaced (xs ++ g ∷ ys) (length xs) b
unfolding rewritten
replaced_here p b g [] ys e a c = λ i. ap (λ y. cond y (page g.place g.block b) g) (ap (same_ptr p) e ∙ same_ptr_refl p) i ∷ rewritten_none p b ys c i
replaced_here p b g (x ∷ xs) ys e a c =
    let first = stands_cons p x xs in let alone = stands_cons p x [] in let none = stands_none p in
    λ i. get_or (rewritten_none p b (x ∷ []) (omega (arith, a, first, alone, none)) i) 0 x ∷ replaced_here p b g xs ys e (omega (arith, a, first)) c i

pub replaced_set : (p : Ptr) (b : List ℕ) (rs : List (List Page)) (k : ℕ) (g : Page) (xs ys : List Page) → k < length rs → get_or rs k [] ≡ xs ++ g ∷ ys → g.place ≡ p → standing p rs ≤ 1
    → map (map (rewritten p b)) rs ≡ set rs k (replaced (get_or rs k []) (length xs) b)
replaced_set p b rs k g xs ys w is e o =
    let at = standing_at p rs k w in let s : one g.place p ≡ 1 = ap (λ q. one q p) e ∙ one_self p in let cut = ap (stands_in p) is in
    let only = only_here p g xs ys e (omega (arith, o, at, cut)) in
    changes_one p (map (rewritten p b)) (rewritten_none p b) rs k (replaced (get_or rs k []) (length xs) b) w
    (ap (map (rewritten p b)) is ∙ replaced_here p b g xs ys e only.0 only.1 ∙ ap (λ l. replaced l (length xs) b) (sym is))
    (omega (arith, cut, stands_append p xs (g ∷ ys), stands_cons p g ys, s)) o
