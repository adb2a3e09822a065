-- A session change keeps a session valid.
use Rattle.std.proofs.Common.{◌≡◌, ◌≢◌, inl, inr, ℕ, zero, suc, ◌+◌, ◌<◌, ◌≤◌, Bool, true, false, not, if◌then◌else◌, Option, Some, None, is_some, option_map, unwrap_or, refl, sym, ap, subst, ◌∙◌, arith}
use Rattle.std.proofs.lemmas.Option.{same_Some}
use Rattle.std.proofs.lemmas.Bool.Decides.{nat_tests}
use Rattle.std.specs.FinMap as fin
use Rattle.std.specs.FinMap.{get-empty}
use Rattle.std.specs.Ordering.{nat_cmp}
use Rattle.mb_tree.specs.Maps.{Numbered}
use Rattle.mb_tree.specs.Counting.{first_from}
use Rattle.mb_tree.specs.Sessions.{free_place, is_at_place, has_place, opened, doubled, closed, moved}
use Rattle.mb_tree.specs.Machines.{IsOpenFile, IsSeated, FitsFresh, FitsTwin}
use Rattle.mb_tree.specs.Laws.{SessionKept}
use Rattle.mb_tree.specs.declared.nodes.Node.{Node}
use Rattle.mb_tree.specs.declared.seats.PlainFile.{PlainFile}
use Rattle.mb_tree.specs.declared.seats.Seat.{Seat}
use Rattle.mb_tree.specs.declared.seats.SessionChange.TheVariants.{Same, Fresh, Twin, Free, Move, Cwd, Mask, Clear}
use Rattle.mb_tree.proofs.FiniteMaps.{get_here, get_there, gone_here, gone_there, one_or_not}

-- ---- searches

pub passes : (p : ℕ → Bool) (low n k : ℕ) → first_from p low n ≡ Some k → p k ≡ true
unfolding first_from
passes p low zero k h = cc
passes p low (suc n) k h = elim (p low) as (λ b. p low ≡ b → (if b then Some low else first_from p (low + 1) n) ≡ Some k → p k ≡ true) [
  | true ↦ λ e s. let at : low ≡ k = cc in subst (λ j. p j ≡ true) at e
  | false ↦ λ e s. passes p (low + 1) n k s
] refl h

-- what is found is one of the numbers
pub in_row : (p : ℕ → Bool) (low n k : ℕ) → first_from p low n ≡ Some k → k < low + n
unfolding first_from
in_row p low zero k h = cc
in_row p low (suc n) k h = elim (p low) as (λ b. (if b then Some low else first_from p (low + 1) n) ≡ Some k → k < low + suc n) [
  | true ↦ λ s. let at : low ≡ k = cc in omega (arith, at)
  | false ↦ λ s. omega (arith, in_row p (low + 1) n k s)
] h

pub fails : (p : ℕ → Bool) (low n k : ℕ) → first_from p low n ≡ None → low ≤ k → k < low + n → p k ≡ false
unfolding first_from
fails p low zero k h a b = absurd (omega arith)
fails p low (suc n) k h a b = elim (p low) as (λ v. p low ≡ v → (if v then Some low else first_from p (low + 1) n) ≡ None → p k ≡ false) [
  | true ↦ λ e s. cc
  | false ↦ λ e s. elim (one_or_not k low) [
    | inl is ↦ subst (λ j. p j ≡ false) (sym is) e
    | inr apart ↦ fails p (low + 1) n k s (omega arith) (omega arith)
  ]
] refl h

-- ---- options

pub apart_some : {X : Type 0} (o : Option X) (x : X) → o ≡ None → o ≡ Some x → ⊥
apart_some o x n s = cc

pub none_of : {X : Type 0} (o : Option X) → not (is_some o) ≡ true → o ≡ None
none_of None h = refl
none_of (Some x) h = cc

pub at_place : (place : ℕ) (o : Option ℕ) → is_at_place place o ≡ true → o ≡ Some place
at_place place None h = cc
at_place place (Some other) h = let e : other ≡ place = grind (arith, nat_tests) in ap Some e

pub not_at_place : (place other : ℕ) (o : Option ℕ) → is_at_place place o ≡ false → o ≡ Some other → other ≢ place
not_at_place place other o h s e = let t : is_at_place place (Some place) ≡ true = grind (arith, nat_tests) in
    let f : is_at_place place (Some place) ≡ false = subst (λ (q : Option ℕ). is_at_place place q ≡ false) (s ∙ ap Some e) h in cc

pub found : (b : Option ℕ) → is_some b ≡ true → (k : ℕ) × (b ≡ Some k)
found None h = cc
found (Some k) h = (k, refl)

pub missing : (b : Option ℕ) → is_some b ≡ false → b ≡ None
missing None h = refl
missing (Some k) h = cc

module _ (nodes : Numbered Node) (seat : Seat) (valid : IsSeated nodes seat) where
  -- a file at a place, where the one there is replaced
  opened_kept : (fd : ℕ) (file : PlainFile) (place : ℕ) → place < 17 → FitsFresh nodes seat fd file.ino file.how → fin.get seat.files place ≡ None → IsSeated nodes (opened seat fd file (Some place))
  opened_kept fd file place within fits free = record {
    cwd = valid.cwd;
    descriptors = λ q pl h. elim (one_or_not q fd) [
      | inl is ↦
          let at : place ≡ pl = same_Some place pl (sym (get_here seat.fds fd place) ∙ ap (fin.get (fin.insert seat.fds fd place)) (sym is) ∙ h) in
          record { above = subst (λ j. 3 ≤ j) (sym is) fits.above; within = subst (λ j. j ≤ 19) (sym is) fits.within; file = file; has = ap (fin.get (fin.insert seat.files place file)) (sym at) ∙ get_here seat.files place file }
      | inr apart ↦
          let old = valid.descriptors q pl (sym (get_there seat.fds fd place q apart) ∙ h) in
          elim (one_or_not pl place) [
            | inl is ↦ absurd (apart_some (fin.get seat.files place) old.file free (ap (fin.get seat.files) (sym is) ∙ old.has))
            | inr other ↦ record { above = old.above; within = old.within; file = old.file; has = get_there seat.files place file pl other ∙ old.has }
          ]
    ];
    files = λ pl f h. elim (one_or_not pl place) [
      | inl is ↦
          let at : file ≡ f = same_Some file f (sym (get_here seat.files place file) ∙ ap (fin.get (fin.insert seat.files place file)) (sym is) ∙ h) in
          subst (λ (g : PlainFile). IsOpenFile nodes (opened seat fd file (Some place)) pl g) at (record { within = subst (λ j. j < 17) (sym is) within; fd = fd; has = get_here seat.fds fd place ∙ ap Some (sym is); openable = fits.openable; written = fits.written })
      | inr apart ↦
          let old = valid.files pl f (sym (get_there seat.files place file pl apart) ∙ h) in
          elim (one_or_not old.fd fd) [
            | inl is ↦ absurd (apart_some (fin.get seat.fds fd) pl fits.free (ap (fin.get seat.fds) (sym is) ∙ old.has))
            | inr other ↦ record { within = old.within; fd = old.fd; has = get_there seat.fds fd place old.fd other ∙ old.has; openable = old.openable; written = old.written }
          ]
    ];
  }

  fresh_kept : (fd : ℕ) (file : PlainFile) → FitsFresh nodes seat fd file.ino file.how → IsSeated nodes (opened seat fd file (free_place seat))
  fresh_kept fd file fits =
      elim (free_place seat) as (λ (o : Option ℕ). free_place seat ≡ o → IsSeated nodes (opened seat fd file o)) [
        | None ↦ λ e. valid
        | Some place ↦ λ e. opened_kept fd file place (in_row (λ place. not (fin.contains_key seat.files place)) 0 17 place e) fits (none_of _ (passes (λ place. not (fin.contains_key seat.files place)) 0 17 place e))
      ] refl

  twin_kept : (fd to : ℕ) → FitsTwin seat to → IsSeated nodes (doubled seat to (fin.get seat.fds fd))
  twin_kept fd to fits =
      elim (fin.get seat.fds fd) as (λ (o : Option ℕ). fin.get seat.fds fd ≡ o → IsSeated nodes (doubled seat to o)) [
        | None ↦ λ e. valid
        | Some place ↦ λ e. record {
          cwd = valid.cwd;
          descriptors = λ q pl h. elim (one_or_not q to) [
            | inl is ↦
                let at : place ≡ pl = same_Some place pl (sym (get_here seat.fds to place) ∙ ap (fin.get (fin.insert seat.fds to place)) (sym is) ∙ h) in
                let old = valid.descriptors fd place e in
                record { above = subst (λ j. 3 ≤ j) (sym is) fits.above; within = subst (λ j. j ≤ 19) (sym is) fits.within; file = old.file; has = ap (fin.get seat.files) (sym at) ∙ old.has }
            | inr apart ↦ let old = valid.descriptors q pl (sym (get_there seat.fds to place q apart) ∙ h) in record { above = old.above; within = old.within; file = old.file; has = old.has }
          ];
          files = λ pl f h.
              let old = valid.files pl f h in
              elim (one_or_not old.fd to) [
                | inl is ↦ absurd (apart_some (fin.get seat.fds to) pl fits.free (ap (fin.get seat.fds) (sym is) ∙ old.has))
                | inr other ↦ record { within = old.within; fd = old.fd; has = get_there seat.fds to place old.fd other ∙ old.has; openable = old.openable; written = old.written }
              ];
        }
      ] refl

  -- a descriptor that was not freed, and its file
  left : (fd q pl : ℕ) → fin.get (fin.remove seat.fds fd) q ≡ Some pl → fin.get seat.fds q ≡ Some pl
  left fd q pl h = elim (one_or_not q fd) [
    | inl is ↦ absurd (apart_some _ pl (ap (fin.get (fin.remove seat.fds fd)) is ∙ gone_here seat.fds fd) h)
    | inr apart ↦ sym (gone_there seat.fds fd q apart) ∙ h
  ]

  closed_shared : (fd place : ℕ) → fin.get seat.fds fd ≡ Some place → has_place (fin.remove seat.fds fd) place ≡ true → IsSeated nodes (record seat { fds = fin.remove seat.fds fd; files = seat.files })
  closed_shared fd place e shared =
      let other = found _ shared in
      let same_place : fin.get (fin.remove seat.fds fd) other.0 ≡ Some place = at_place place _ (passes (λ q. is_at_place place (fin.get (fin.remove seat.fds fd) q)) 3 17 other.0 other.1) in
      record {
        cwd = valid.cwd;
        descriptors = λ q pl h. let old = valid.descriptors q pl (left fd q pl h) in record { above = old.above; within = old.within; file = old.file; has = old.has };
        files = λ pl f h.
            let old = valid.files pl f h in
            elim (one_or_not old.fd fd) [
              | inl is ↦
                  let at : place ≡ pl = same_Some place pl (sym e ∙ ap (fin.get seat.fds) (sym is) ∙ old.has) in
                  record { within = old.within; fd = other.0; has = same_place ∙ ap Some at; openable = old.openable; written = old.written }
              | inr apart ↦ record { within = old.within; fd = old.fd; has = gone_there seat.fds fd old.fd apart ∙ old.has; openable = old.openable; written = old.written }
            ];
      }

  closed_last : (fd place : ℕ) → fin.get seat.fds fd ≡ Some place → has_place (fin.remove seat.fds fd) place ≡ false → IsSeated nodes (record seat { fds = fin.remove seat.fds fd; files = fin.remove seat.files place })
  closed_last fd place e last =
      let none : first_from (λ q. is_at_place place (fin.get (fin.remove seat.fds fd) q)) 3 17 ≡ None = missing _ last in
      record {
        cwd = valid.cwd;
        descriptors = λ q pl h.
            let old = valid.descriptors q pl (left fd q pl h) in
            let high : q < 3 + 17 = omega (arith, old.within) in
            let apart : pl ≢ place = not_at_place place pl _ (fails (λ q. is_at_place place (fin.get (fin.remove seat.fds fd) q)) 3 17 q none old.above high) h in
            record { above = old.above; within = old.within; file = old.file; has = gone_there seat.files place pl apart ∙ old.has };
        files = λ pl f h.
            let apart : pl ≢ place = λ is. apart_some _ f (ap (fin.get (fin.remove seat.files place)) is ∙ gone_here seat.files place) h in
            let old = valid.files pl f (sym (gone_there seat.files place pl apart) ∙ h) in
            let other : old.fd ≢ fd = λ is. apart (same_Some pl place (sym old.has ∙ ap (fin.get seat.fds) is ∙ e)) in
            record { within = old.within; fd = old.fd; has = gone_there seat.fds fd old.fd other ∙ old.has; openable = old.openable; written = old.written };
      }

  free_kept : (fd : ℕ) → IsSeated nodes (closed seat fd (fin.get seat.fds fd))
  free_kept fd =
      elim (fin.get seat.fds fd) as (λ (o : Option ℕ). fin.get seat.fds fd ≡ o → IsSeated nodes (closed seat fd o)) [
        | None ↦ λ e. valid
        | Some place ↦ λ e. elim (has_place (fin.remove seat.fds fd) place) as (λ b. has_place (fin.remove seat.fds fd) place ≡ b → IsSeated nodes (record seat { fds = fin.remove seat.fds fd; files = if b then seat.files else fin.remove seat.files place })) [
          | true ↦ λ s. closed_shared fd place e s
          | false ↦ λ s. closed_last fd place e s
        ] refl
      ] refl

  moved_file : (offset place : ℕ) (file : PlainFile) → fin.get seat.files place ≡ Some file → IsSeated nodes (record seat { files = fin.insert seat.files place (record file { offset = offset }) })
  moved_file offset place file e = record {
    cwd = valid.cwd;
    descriptors = λ q pl h.
        let old = valid.descriptors q pl h in
        elim (one_or_not pl place) [
          | inl is ↦ record { above = old.above; within = old.within; file = record file { offset = offset }; has = ap (fin.get (fin.insert seat.files place (record file { offset = offset }))) is ∙ get_here seat.files place _ }
          | inr apart ↦ record { above = old.above; within = old.within; file = old.file; has = get_there seat.files place _ pl apart ∙ old.has }
        ];
    files = λ pl f h. elim (one_or_not pl place) [
      | inl is ↦
          let at : ◌≡◌ {A = PlainFile} (record file { offset = offset }) f = same_Some _ f (sym (get_here seat.files place _) ∙ ap (fin.get (fin.insert seat.files place (record file { offset = offset }))) (sym is) ∙ h) in
          let old = valid.files place file e in
          subst (λ (g : PlainFile). IsOpenFile nodes (record seat { files = fin.insert seat.files place (record file { offset = offset }) }) pl g) at (record { within = subst (λ j. j < 17) (sym is) old.within; fd = old.fd; has = old.has ∙ ap Some (sym is); openable = old.openable; written = old.written })
      | inr apart ↦ let old = valid.files pl f (sym (get_there seat.files place _ pl apart) ∙ h) in record { within = old.within; fd = old.fd; has = old.has; openable = old.openable; written = old.written }
    ];
  }

  move_kept : (fd offset : ℕ) → IsSeated nodes (moved seat offset (fin.get seat.fds fd))
  move_kept fd offset = elim (fin.get seat.fds fd) as (λ (o : Option ℕ). IsSeated nodes (moved seat offset o)) [
    | None ↦ valid
    | Some place ↦ elim (fin.get seat.files place) as (λ (o : Option PlainFile). fin.get seat.files place ≡ o → IsSeated nodes (record seat { files = unwrap_or (option_map (λ file. fin.insert seat.files place (record file { offset = offset })) o) seat.files })) [
      | None ↦ λ e. record { cwd = valid.cwd; descriptors = valid.descriptors; files = valid.files }
      | Some file ↦ λ e. moved_file offset place file e
    ] refl
  ]

pub session_kept : SessionKept
session_kept nodes seat Same valid fits = valid
session_kept nodes seat (Fresh fd ino how) valid fits = fresh_kept nodes seat valid fd (record { ino = ino; how = how; offset = 0 }) fits
session_kept nodes seat (Twin fd to) valid fits = twin_kept nodes seat valid fd to fits
session_kept nodes seat (Free fd) valid fits = free_kept nodes seat valid fd
session_kept nodes seat (Move fd offset) valid fits = move_kept nodes seat valid fd offset
session_kept nodes seat (Cwd ino) valid fits = record {
  cwd = fits;
  descriptors = λ q pl h. let old = valid.descriptors q pl h in record { above = old.above; within = old.within; file = old.file; has = old.has };
  files = λ pl f h. let old = valid.files pl f h in record { within = old.within; fd = old.fd; has = old.has; openable = old.openable; written = old.written };
}
session_kept nodes seat (Mask mask) valid fits = record {
  cwd = valid.cwd;
  descriptors = λ q pl h. let old = valid.descriptors q pl h in record { above = old.above; within = old.within; file = old.file; has = old.has };
  files = λ pl f h. let old = valid.files pl f h in record { within = old.within; fd = old.fd; has = old.has; openable = old.openable; written = old.written };
}
session_kept nodes seat Clear valid fits = record {
  cwd = valid.cwd;
  descriptors = λ q pl h. absurd (apart_some _ pl (get-empty nat_cmp q) h);
  files = λ pl f h. absurd (apart_some _ f (get-empty nat_cmp pl) h);
}
