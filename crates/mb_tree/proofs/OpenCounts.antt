-- How the number of a caller's open files on an inode moves with each session change.
use Rattle.std.proofs.Common.{◌≡◌, ◌≢◌, inl, inr, ℕ, ◌+◌, ◌<◌, Bool, true, false, cond, not, if◌then◌else◌, List, [], ◌∷◌, Option, Some, None, option_map, unwrap_or, map, nat_eq, refl, sym, ap, subst, ◌∙◌, arith}
use Rattle.std.proofs.lemmas.Bool.Decides.{nat_tests}
use Rattle.std.proofs.lemmas.List.Sums.{sum_by-cons}
use Rattle.std.specs.Prelude.{count_by, T, ◌&&◌}
use Rattle.std.specs.FinMap as fin
use Rattle.std.specs.FinMap.{get-empty, get-entries, entries_sorted}
use Rattle.std.specs.FinMap.Entries.{below_all}
use Rattle.std.specs.Ordering.{nat_cmp, is_lt, is_eq}
use Rattle.std.specs.declared.cmp.Ordering.{Ordering}
use Rattle.std.specs.declared.cmp.Ordering.TheVariants.{Less, Equal, Greater}
use Rattle.mb_tree.specs.Maps.{Numbered}
use Rattle.mb_tree.specs.Counting.{sum_below}
use Rattle.mb_tree.specs.Sessions.{free_descriptor, free_place, has_place, inos_of, opened, doubled, closed, moved, held_by, held_in}
use Rattle.mb_tree.specs.Machines.{IsSeated}
use Rattle.mb_tree.specs.declared.nodes.Node.{Node}
use Rattle.mb_tree.specs.declared.seats.PlainFile.{PlainFile}
use Rattle.mb_tree.specs.declared.seats.Seat.{Seat}
use Rattle.mb_tree.proofs.FiniteMaps.{get_here, get_there, gone_here, gone_there, one_or_not, is_here, is_apart}
use Rattle.mb_tree.proofs.Sums.{sum_same, sum_but, sum_nothing}
use Rattle.mb_tree.proofs.Seated.{passes, in_row, none_of}
use Rattle.mb_tree.proofs.FreePlaces.{place_for}

-- open files on an inode, in a table of files
abbrev pub held_at : Numbered PlainFile → ℕ → ℕ
held_at files ino = sum_below (λ place. held_by ino (fin.get files place)) 17

put_count : (files : Numbered PlainFile) (place : ℕ) (file : PlainFile) (ino : ℕ) → place < 17
    → held_at (fin.insert files place file) ino + held_by ino (fin.get files place) ≡ held_at files ino + held_by ino (Some file)
put_count files place file ino b =
    let moved_sum = sum_but (λ p. held_by ino (fin.get files p)) (λ p. held_by ino (fin.get (fin.insert files place file) p)) place 17 b (λ p apart. ap (held_by ino) (get_there files place file p apart)) in
    let here : held_by ino (fin.get (fin.insert files place file) place) ≡ held_by ino (Some file) = ap (held_by ino) (get_here files place file) in
    omega (arith, moved_sum, here)

gone_count : (files : Numbered PlainFile) (place ino : ℕ) → place < 17 → held_at (fin.remove files place) ino + held_by ino (fin.get files place) ≡ held_at files ino
gone_count files place ino b =
    let moved_sum = sum_but (λ p. held_by ino (fin.get files p)) (λ p. held_by ino (fin.get (fin.remove files place) p)) place 17 b (λ p apart. ap (held_by ino) (gone_there files place p apart)) in
    let here : held_by ino (fin.get (fin.remove files place) place) ≡ 0 = ap (held_by ino) (gone_here files place) in
    omega (arith, moved_sum, here)

-- ---- the open files of a table, by their inodes

strict : (o : Ordering) → T (is_lt o) → is_eq o ≡ false
strict Less h = refl
strict Equal h = absurd h
strict Greater h = absurd h

pub left_of : (a b : Bool) → T (a && b) → T a
left_of true b h = tt
left_of false b h = absurd h

pub right_of : (a b : Bool) → T (a && b) → T b
right_of true b h = h
right_of false b h = absurd h

pub none_below : (k : ℕ) (es : List (ℕ × PlainFile)) → T (below_all nat_cmp k es) → fin.find nat_cmp k es ≡ None
none_below k [] h = refl
none_below k (e ∷ es) h =
    ap (λ b. cond b (Some e.1) (fin.find nat_cmp k es)) (strict (nat_cmp k e.0) (left_of (is_lt (nat_cmp k e.0)) (below_all nat_cmp k es) h))
    ∙ none_below k es (right_of (is_lt (nat_cmp k e.0)) (below_all nat_cmp k es) h)

pub one_count : (ino : ℕ) (file : PlainFile) → cond {A = ℕ} (nat_eq ino file.ino) 1 0 ≡ held_by ino (Some file)
one_count ino file = elim (one_or_not ino file.ino) [
  | inl is ↦
      let s : nat_eq ino file.ino ≡ true = grind (arith, nat_tests) in
      let t : nat_eq file.ino ino ≡ true = grind (arith, nat_tests) in
      ap (λ b. cond {A = ℕ} b 1 0) s ∙ sym (ap (λ b. if◌then◌else◌ {A = ℕ} b 1 0) t)
  | inr apart ↦
      let s : nat_eq ino file.ino ≡ false = grind (arith, nat_tests) in
      let t : nat_eq file.ino ino ≡ false = grind (arith, nat_tests) in
      ap (λ b. cond {A = ℕ} b 1 0) s ∙ sym (ap (λ b. if◌then◌else◌ {A = ℕ} b 1 0) t)
]

abbrev pub inos_in : List (ℕ × PlainFile) → List ℕ
inos_in es = map (λ (file : PlainFile). file.ino) (map (λ e. e.1) es)

entry_count : (es : List (ℕ × PlainFile)) (n ino : ℕ) → T (fin.is_sorted nat_cmp es) → ((p : ℕ) (file : PlainFile) → fin.find nat_cmp p es ≡ Some file → p < n)
    → count_by (nat_eq ino) (inos_in es) ≡ sum_below (λ p. held_by ino (fin.find nat_cmp p es)) n
entry_count [] n ino sorted within = sym (sum_nothing (λ p. held_by ino (fin.find {X = PlainFile} nat_cmp p [])) n (λ k b. refl))
entry_count (e ∷ es) n ino sorted within =
    let below = left_of (below_all nat_cmp e.0 es) (fin.is_sorted nat_cmp es) sorted in
    let none : fin.find nat_cmp e.0 es ≡ None = none_below e.0 es below in
    let here : fin.find nat_cmp e.0 (e ∷ es) ≡ Some e.1 = ap (λ b. cond b (Some e.1) (fin.find nat_cmp e.0 es)) (is_here e.0) in
    let apart : (p : ℕ) → p ≢ e.0 → fin.find nat_cmp p (e ∷ es) ≡ fin.find nat_cmp p es = λ p other. ap (λ b. cond b (Some e.1) (fin.find nat_cmp p es)) (is_apart p e.0 other) in
    let low : e.0 < n = within e.0 e.1 here in
    let rest : count_by (nat_eq ino) (inos_in es) ≡ sum_below (λ p. held_by ino (fin.find nat_cmp p es)) n =
    entry_count es n ino (right_of (below_all nat_cmp e.0 es) (fin.is_sorted nat_cmp es) sorted)
    (λ p file h. elim (one_or_not p e.0) [ inl is ↦ subst (λ q. q < n) (sym is) low | inr other ↦ within p file (apart p other ∙ h) ]) in
    let more = sum_but (λ p. held_by ino (fin.find nat_cmp p es)) (λ p. held_by ino (fin.find nat_cmp p (e ∷ es))) e.0 n low (λ p other. ap (held_by ino) (apart p other)) in
    let old : held_by ino (fin.find nat_cmp e.0 es) ≡ 0 = ap (held_by ino) none in
    let new : held_by ino (fin.find nat_cmp e.0 (e ∷ es)) ≡ held_by ino (Some e.1) = ap (held_by ino) here in
    let split = sum_by-cons (λ x. cond {A = ℕ} (nat_eq ino x) 1 0) e.1.ino (inos_in es) in
    omega (arith, rest, more, old, new, split, one_count ino e.1)

module _ (nodes : Numbered Node) (seat : Seat) (valid : IsSeated nodes seat) where
  pub clear_count : (ino : ℕ) → count_by (nat_eq ino) (inos_of seat) ≡ held_in seat ino
  clear_count ino =
      entry_count (fin.entries seat.files) 17 ino (entries_sorted seat.files) (λ p file h. (valid.files p file (get-entries seat.files p ∙ h)).within)
      ∙ sum_same (λ p. held_by ino (fin.get seat.files p)) (λ p. held_by ino (fin.find nat_cmp p (fin.entries seat.files))) 17 (λ p b. ap (held_by ino) (sym (get-entries seat.files p)))

  pub cleared_count : (ino : ℕ) → held_at fin.empty ino ≡ 0
  cleared_count ino = sum_nothing (λ p. held_by ino (fin.get (fin.empty {X = PlainFile} {R = nat_cmp}) p)) 17 (λ p b. ap (held_by ino) (get-empty nat_cmp p))

  pub opened_count : (fd : ℕ) (file : PlainFile) (ino : ℕ) → free_descriptor seat ≡ Some fd → held_in (opened seat fd file (free_place seat)) ino ≡ held_in seat ino + held_by ino (Some file)
  opened_count fd file ino h =
      let place = place_for nodes seat valid fd h in
      let within = in_row (λ place. not (fin.contains_key seat.files place)) 0 17 place.0 place.1 in
      let free : held_by ino (fin.get seat.files place.0) ≡ 0 = ap (held_by ino) (none_of _ (passes (λ place. not (fin.contains_key seat.files place)) 0 17 place.0 place.1)) in
      ap (λ (o : Option ℕ). held_in (opened seat fd file o) ino) place.1 ∙ omega (arith, put_count seat.files place.0 file ino within, free)

  pub doubled_count : (to : ℕ) (o : Option ℕ) (ino : ℕ) → held_in (doubled seat to o) ino ≡ held_in seat ino
  doubled_count to None ino = refl
  doubled_count to (Some place) ino = refl

  pub moved_count : (offset : ℕ) (o : Option ℕ) (ino : ℕ) → held_in (moved seat offset o) ino ≡ held_in seat ino
  moved_count offset None ino = refl
  moved_count offset (Some place) ino =
      elim (fin.get seat.files place) as (λ (o : Option PlainFile). fin.get seat.files place ≡ o → held_at (unwrap_or (option_map (λ (file : PlainFile). fin.insert seat.files place (record file { offset = offset })) o) seat.files) ino ≡ held_in seat ino) [
        | None ↦ λ e. refl
        | Some file ↦ λ e.
            let old : held_by ino (fin.get seat.files place) ≡ held_by ino (Some file) = ap (held_by ino) e in
            omega (arith, put_count seat.files place (record file { offset = offset }) ino (valid.files place file e).within, old)
      ] refl

  -- a descriptor freed, and its file where no other descriptor has it
  pub shared_count : (fd : ℕ) (o : Option ℕ) (ino : ℕ) → unwrap_or (option_map (has_place (fin.remove seat.fds fd)) o) false ≡ true → held_in (closed seat fd o) ino ≡ held_in seat ino
  shared_count fd None ino s = refl
  shared_count fd (Some place) ino s = ap (λ b. held_at (if b then seat.files else fin.remove seat.files place) ino) s

  pub last_count : (fd place : ℕ) (file : PlainFile) (ino : ℕ) → fin.get seat.files place ≡ Some file → has_place (fin.remove seat.fds fd) place ≡ false
      → held_in (closed seat fd (Some place)) ino + held_by ino (Some file) ≡ held_in seat ino
  last_count fd place file ino h s =
      let gone : held_in (closed seat fd (Some place)) ino ≡ held_at (fin.remove seat.files place) ino = ap (λ b. held_at (if b then seat.files else fin.remove seat.files place) ino) s in
      let old : held_by ino (fin.get seat.files place) ≡ held_by ino (Some file) = ap (held_by ino) h in
      omega (arith, gone, old, gone_count seat.files place ino (valid.files place file h).within)
