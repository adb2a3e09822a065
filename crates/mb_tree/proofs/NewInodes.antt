-- Making a file and making a directory keep a sound tree sound.
use Rattle.std.proofs.Common.{◌≡◌, ◌≢◌, ℕ, zero, suc, ◌+◌, ◌<◌, ◌≤◌, true, false, cond, List, Option, Some, None, IfSome, refl, sym, ap, subst, ◌∙◌, arith, nat_lt}
use Rattle.std.proofs.lemmas.Option.{none-some}
use Rattle.std.specs.Prelude.{count_by, slice_get, slice_index, bit_or, ◌==◌}
use Rattle.std.proofs.lemmas.Bool.Decides.{nat_tests}
use Rattle.std.specs.FinMap as fin
use Rattle.mb_kinds.specs.declared.errors.Errno.TheVariants.{ENOSPC, EMLINK}
use Rattle.mb_tree.specs.Answers.{need, some}
use Rattle.mb_tree.specs.Maps.{Numbered, changed_at}
use Rattle.mb_tree.specs.Lookup.{is_used, number_of}
use Rattle.mb_tree.specs.Rows.{is_dots}
use Rattle.mb_tree.specs.Effect.{made, nlink_in, with_name, with_link, dot, dot_dot, first_slots}
use Rattle.mb_tree.specs.Fits.{IsMissing}
use Rattle.mb_tree.specs.Step.{IsFreeNumber}
use Rattle.mb_tree.specs.Trees.{IsThere, IsName, AreSlots, leads_to, links_from, links_at, links_past, IsSound}
use Rattle.mb_tree.specs.NameLaws.{CreateKept, MakeDirKept}
use Rattle.mb_tree.specs.declared.nodes.PlainSlot.{PlainSlot}
use Rattle.mb_tree.specs.declared.nodes.Node.{Node}
use Rattle.mb_tree.specs.declared.nodes.Body.{Body}
use Rattle.mb_tree.specs.declared.nodes.Body.TheVariants.{Regular, Directory, Special}
use Rattle.mb_tree.specs.declared.trees.Tree.{Tree}
use Rattle.mb_tree.specs.declared.operations.FsOp.TheVariants.{Create, MakeDir}
use Rattle.mb_tree.proofs.FiniteMaps.{get_here, get_there}
use Rattle.mb_tree.proofs.Always.{then_ok, bind_ok}
use Rattle.mb_tree.proofs.Cheaper.{after_op}
use Rattle.mb_tree.proofs.Sums.{sum_nothing}
use Rattle.mb_tree.proofs.SlotLists.{weight, count_none, count_late, weight_one}
use Rattle.mb_tree.proofs.Rewritten.{number_by}
use Rattle.mb_tree.proofs.Shapes.{CanBePut}
use Rattle.mb_tree.proofs.Entering.{CanBeEntered, entered_sound, used_number}
use Rattle.mb_tree.proofs.NewNames.{changed_is, swapped, sound_at, some_ok, few_of, fitted_is, entered_body, not_one}
use Rattle.mb_tree.proofs.BytesOrAttributes.{kind_set, none_below}

-- ---- a free number

module _ (tree : Tree) (sound : IsSound tree) (ino : ℕ) (free : IsFreeNumber tree ino) where
  no_one : (old : Node) (slots : List PlainSlot) → fin.get tree.nodes ino ≡ Some old → old.body ≡ Directory slots → ⊥
  no_one old slots has body = none-some old (sym free.unused ∙ has)

  -- a slot of a directory does not lead to it
  unled : (dir : ℕ) (node : Node) (slots : List PlainSlot) (at : ℕ) (slot : PlainSlot) → fin.get tree.nodes dir ≡ Some node → node.body ≡ Directory slots → slice_get slots at ≡ Some slot → leads_to ino slot ≡ false
  unled dir node slots at slot has body stands = elim (leads_to ino slot) as (λ b. leads_to ino slot ≡ b → b ≡ false) [
    | true ↦ λ e.
        let is : slot.ino ≡ ino = grind (arith, nat_tests) in
        let above = free.above in
        let used : is_used slot ≡ true = grind (arith, nat_tests) in
        let there = ((sound.slots dir node slots has body).leads at slot (record { has = stands; used = used })).1 in
        absurd (none-some there.node (sym free.unused ∙ ap (fin.get tree.nodes) (sym is) ∙ there.has))
    | false ↦ λ e. refl
  ] refl

  from_body : (skip dir : ℕ) (node : Node) (body : Body) → fin.get tree.nodes dir ≡ Some node → node.body ≡ body → links_from skip ino body ≡ 0
  from_body skip dir node (Regular size parts) has is = refl
  from_body skip dir node (Directory slots) has is = count_none (leads_to ino) skip slots (λ at slot past stands. unled dir node slots at slot has is stands)
  from_body skip dir node (Special size area) has is = refl

  from_one : (skip dir : ℕ) (o : Option Node) → fin.get tree.nodes dir ≡ o → links_at skip ino o ≡ 0
  from_one skip dir None e = refl
  from_one skip dir (Some node) e = from_body skip dir node node.body e refl

  free_links : (skip : ℕ) → links_past skip tree ino ≡ 0
  free_links skip = sum_nothing (λ dir. links_at skip ino (fin.get tree.nodes dir)) (tree.last + 1) (λ dir low. from_one skip dir (fin.get tree.nodes dir) refl)

  free_apart : (q : ℕ) (node : Node) → fin.get tree.nodes q ≡ Some node → q ≢ ino
  free_apart q node has e = none-some node (sym free.unused ∙ sym (ap (fin.get tree.nodes) e) ∙ has)

  -- ---- a file

  abbrev file : ℕ → ℕ → ℕ → ℕ → Node
  file mode uid gid moment = made (bit_or 0x8000 mode) 1 uid gid moment (Regular 0 fin.empty)

  puts_file : (mode uid gid moment : ℕ) → mode < 4096 → CanBePut tree ino (file mode uid gid moment)
  puts_file mode uid gid moment few = record {
    low = omega (arith, free.above);
    high = free.within;
    under = λ e. absurd (omega (arith, e, free.above));
    leaf = no_one;
    kind = ap (λ k. k == 0x8000) (kind_set 0x8000 mode few);
    size = (omega arith, none_below);
    slots = λ slots body. absurd (let no : ◌≡◌ {A = Body} (Regular 0 fin.empty) (Directory slots) = body in cc);
    late = λ q. refl;
  }

  enters_file : (dir : ℕ) (name : List ℕ) (mode uid gid moment : ℕ) (missing : IsMissing tree.nodes dir name) → mode < 4096
      → CanBeEntered tree dir ino name missing.directory.node (with_name moment name ino missing.directory.node) (file mode uid gid moment) missing.directory.slots
  enters_file dir name mode uid gid moment missing few = record {
    put = puts_file mode uid gid moment few;
    has = missing.directory.has;
    before = missing.directory.body;
    after = entered_body name ino missing.directory.node.body missing.directory.slots missing.directory.body;
    mode = refl;
    ordinary = λ e. absurd (omega (arith, e, free.above));
    named = missing.named;
    missing = sym (number_by tree.nodes dir name missing.directory.node missing.directory.slots missing.directory.has missing.directory.body) ∙ missing.missing;
    upward = λ slots body. absurd (let no : ◌≡◌ {A = Body} (Regular 0 fin.empty) (Directory slots) = body in cc);
    counted = omega (arith, free_links 0);
    few = omega arith;
    counted_above = omega arith;
    few_above = λ ordinary. sound.few dir missing.directory.node missing.directory.has ordinary;
    others = λ q some other beside. refl;
  }

  -- ---- a directory

  abbrev own : PlainSlot
  own = record { ino = ino; name = dot }

  abbrev folder : ℕ → ℕ → ℕ → ℕ → ℕ → Node
  folder dir mode uid gid moment = made (bit_or 0x4000 mode) 2 uid gid moment (Directory (first_slots ino dir))

  module _ (dir : ℕ) (x : Node) (old : List PlainSlot) (has : fin.get tree.nodes dir ≡ Some x) (body : x.body ≡ Directory old) where
    abbrev above : PlainSlot
    above = record { ino = dir; name = dot_dot }

    some_dir : dir ≢ 0
    some_dir e = absurd (omega (arith, e, (sound.numbers dir x has).0))

    -- what holds of both slots holds of each
    each_first : (P : ℕ → PlainSlot → Type 0) → P 0 own → P 1 above → (at : ℕ) (slot : PlainSlot) → slice_get (first_slots ino dir) at ≡ Some slot → P at slot
    each_first P one two zero slot e = let same : own ≡ slot = cc in subst (P 0) same one
    each_first P one two (suc zero) slot e = let same : above ≡ slot = cc in subst (P 1) same two
    each_first P one two (suc (suc at)) slot e = absurd (none-some slot e)

    old_slots : AreSlots tree.nodes dir old
    old_slots = sound.slots dir x old has body

    name_dot : IsName dot
    name_dot = old_slots.names 0 (record { ino = dir; name = dot }) (record { has = old_slots.first; used = used_number dir dot some_dir })

    name_dot_dot : IsName dot_dot
    name_dot_dot = old_slots.names 1 (record { ino = old_slots.parent; name = dot_dot }) (record { has = old_slots.second; used = used_number old_slots.parent dot_dot old_slots.upward })

    not_same : dot ≢ dot_dot
    not_same e = absurd (let no : ◌≡◌ {A = ℕ} 0 46 = ap (λ name. slice_index name 1) e in omega (arith, no))

    one_name : (at other : ℕ) (slot twin : PlainSlot) → slice_get (first_slots ino dir) at ≡ Some slot → slice_get (first_slots ino dir) other ≡ Some twin → slot.name ≡ twin.name → at ≡ other
    one_name at other slot twin u v =
        each_first (λ at slot. slot.name ≡ twin.name → at ≡ other)
        (each_first (λ other twin. dot ≡ twin.name → 0 ≡ other) (λ e. refl) (λ e. absurd (not_same e)) other twin v)
        (each_first (λ other twin. dot_dot ≡ twin.name → 1 ≡ other) (λ e. absurd (not_same (sym e))) (λ e. refl) other twin v)
        at slot u

    slots_folder : (nodes : Numbered Node) → IsThere nodes ino → IsThere nodes dir → AreSlots nodes ino (first_slots ino dir)
    slots_folder nodes there above_there = record {
      first = refl;
      parent = dir;
      second = refl;
      upward = some_dir;
      no_dots = λ at slot late u. each_first (λ at slot. 2 ≤ at → is_dots slot.name ≡ false) (λ late. absurd (omega arith)) (λ late. absurd (omega arith)) at slot u.has late;
      leads = λ at slot u. each_first (λ at slot. (slot.ino ≢ 1) × IsThere nodes slot.ino) (λ e. absurd (omega (arith, e, free.above)), there) (not_one tree sound dir x old has body, above_there) at slot u.has;
      names = λ at slot u. each_first (λ at slot. IsName slot.name) name_dot name_dot_dot at slot u.has;
      distinct = λ at other slot twin u v. one_name at other slot twin u.has v.has;
    }

    puts_folder : (mode uid gid moment : ℕ) → mode < 4096 → CanBePut tree ino (folder dir mode uid gid moment)
    puts_folder mode uid gid moment few =
        let z = folder dir mode uid gid moment in
        record {
          low = omega (arith, free.above);
          high = free.within;
          under = λ e. absurd (omega (arith, e, free.above));
          leaf = no_one;
          kind = ap (λ k. k == 0x4000) (kind_set 0x4000 mode few);
          size = omega arith;
          slots = λ slots is.
              let same : first_slots ino dir ≡ slots = let e : ◌≡◌ {A = Body} (Directory (first_slots ino dir)) (Directory slots) = is in cc in
              subst (AreSlots (fin.insert tree.nodes ino z) ino) same (slots_folder (fin.insert tree.nodes ino z) (record { node = z; has = get_here tree.nodes ino z }) (record { node = x; has = get_there tree.nodes ino z dir (free_apart dir x has) ∙ has }));
          late = λ q. refl;
        }

    both : (q : ℕ) → count_by (leads_to q) (first_slots ino dir) ≡ weight (leads_to q) (Some own) + weight (leads_to q) (Some above)
    both q = omega (arith, count_late (leads_to q) (first_slots ino dir) (omega arith))

    weight_is : (q : ℕ) (slot : PlainSlot) → slot.ino ≡ q → weight (leads_to q) (Some slot) ≡ 1
    weight_is q slot is = let passes : leads_to q slot ≡ true = grind (arith, nat_tests) in weight_one (leads_to q) (Some slot) slot refl passes

    weight_not : (q : ℕ) (slot : PlainSlot) → slot.ino ≢ q → weight (leads_to q) (Some slot) ≡ 0
    weight_not q slot apart = let fails : leads_to q slot ≡ false = grind (arith, nat_tests) in ap (λ b. cond {A = ℕ} b 1 0) fails

    apart : dir ≢ ino
    apart = free_apart dir x has

    enters_folder : (name : List ℕ) (mode uid gid moment : ℕ) → mode < 4096 → IsName name → number_of old name ≡ None → x.nlink < 32767
        → CanBeEntered tree dir ino name x (with_link moment name ino x) (folder dir mode uid gid moment) old
    enters_folder name mode uid gid moment few named missing room = record {
      put = puts_folder mode uid gid moment few;
      has = has;
      before = body;
      after = entered_body name ino x.body old body;
      mode = refl;
      ordinary = λ e. absurd (omega (arith, e, free.above));
      named = named;
      missing = missing;
      upward = λ slots is. let same : first_slots ino dir ≡ slots = let e : ◌≡◌ {A = Body} (Directory (first_slots ino dir)) (Directory slots) = is in cc in (ap (λ s. slice_get s 1) (sym same), free_links 2);
      counted = omega (arith, free_links 0, both ino, weight_is ino own refl, weight_not ino above apart);
      few = omega arith;
      counted_above = omega (arith, both dir, weight_is dir above refl, weight_not dir own (λ e. apart (sym e)));
      few_above = λ ordinary. omega (arith, room);
      others = λ q some other beside. omega (arith, both q, weight_not q own (λ e. other (sym e)), weight_not q above (λ e. beside (sym e)));
    }

-- ---- the operations

pub create_kept : CreateKept
create_kept dir name mode uid gid moment tree opens pick next sound fits h =
    let room = (after_op tree sound.room opens (Create dir name mode uid gid moment) pick).holds next h in
    let one = bind_ok (some pick ENOSPC) _ next h in
    let ino : ℕ = one.0 in
    let free : IsFreeNumber tree ino = subst (λ p. IfSome p (IsFreeNumber tree)) (some_ok pick ENOSPC ino one.1) fits.picked in
    let x = fits.missing.directory in
    let y : Node = with_name moment name ino x.node in
    let z : Node = file tree sound ino free mode uid gid moment in
    let nodes : Numbered Node = fin.insert (changed_at tree.nodes dir (with_name moment name ino)) ino z in
    let few : mode < 4096 = omega (arith, fits.permissions) in
    sound_at tree next nodes (fin.insert (fin.insert tree.nodes ino z) dir y)
    (ap (λ n. fin.insert n ino z) (changed_is tree.nodes dir (with_name moment name ino) x.node x.has) ∙ swapped tree.nodes dir ino y z (free_apart tree sound ino free dir x.node x.has))
    (fitted_is tree next nodes one.2) room.0
    (entered_sound tree sound dir ino name x.node y z x.slots (enters_file tree sound ino free dir name mode uid gid moment fits.missing few))

pub make_dir_kept : MakeDirKept
make_dir_kept dir name mode uid gid moment tree opens pick next sound fits h =
    let room = (after_op tree sound.room opens (MakeDir dir name mode uid gid moment) pick).holds next h in
    let start = then_ok (need (nat_lt (nlink_in tree.nodes dir) 32767) EMLINK) _ next h in
    let one = bind_ok (some pick ENOSPC) _ next start.2 in
    let ino : ℕ = one.0 in
    let free : IsFreeNumber tree ino = subst (λ p. IfSome p (IsFreeNumber tree)) (some_ok pick ENOSPC ino one.1) fits.picked in
    let x = fits.missing.directory in
    let y : Node = with_link moment name ino x.node in
    let z : Node = folder tree sound ino free dir mode uid gid moment in
    let nodes : Numbered Node = fin.insert (changed_at tree.nodes dir (with_link moment name ino)) ino z in
    let few : mode < 4096 = omega (arith, fits.permissions) in
    let missing = sym (number_by tree.nodes dir name x.node x.slots x.has x.body) ∙ fits.missing.missing in
    sound_at tree next nodes (fin.insert (fin.insert tree.nodes ino z) dir y)
    (ap (λ n. fin.insert n ino z) (changed_is tree.nodes dir (with_link moment name ino) x.node x.has) ∙ swapped tree.nodes dir ino y z (free_apart tree sound ino free dir x.node x.has))
    (fitted_is tree next nodes one.2) room.0
    (entered_sound tree sound dir ino name x.node y z x.slots (enters_folder tree sound ino free dir x.node x.slots x.has x.body name mode uid gid moment few fits.missing.named missing (few_of tree.nodes dir x.node start.0 x.has start.1)))
