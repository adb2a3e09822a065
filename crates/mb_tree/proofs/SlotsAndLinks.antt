-- A tree stays sound whose inodes keep their slots and their link counts, or are dropped where no used slot leads
-- to them.
use Rattle.std.proofs.Common.{◌≡◌, ◌⊎◌, inl, inr, ℕ, ◌+◌, ◌≤◌, true, List, Option, Some, None, option_map, unwrap_or, refl, sym, ap, subst, ◌∙◌, arith}
use Rattle.std.proofs.lemmas.Option.{none-some}
use Rattle.std.specs.Prelude.{count_by, drop, slice_get}
use Rattle.std.proofs.lemmas.Bool.Decides.{nat_tests}
use Rattle.std.specs.FinMap as fin
use Rattle.mb_tree.specs.Maps.{Numbered}
use Rattle.mb_tree.specs.Counting.{sum_below}
use Rattle.mb_tree.specs.Inodes.{slots_of}
use Rattle.mb_tree.specs.Lookup.{is_used}
use Rattle.mb_tree.specs.Effect.{dot}
use Rattle.mb_tree.specs.Cost.{cost}
use Rattle.mb_tree.specs.Trees.{IsThere, IsUsedAt, links_from, links_at, links_past, leads_to, Leads, IsSound}
use Rattle.mb_tree.specs.Laws.{KeepsSlotsAndLinks, StaysWithSlotsAndLinks, IsUnled, SlotsAndLinksKept}
use Rattle.mb_tree.specs.declared.nodes.PlainSlot.{PlainSlot}
use Rattle.mb_tree.specs.declared.nodes.Node.{Node}
use Rattle.mb_tree.specs.declared.nodes.Body.{Body}
use Rattle.mb_tree.specs.declared.nodes.Body.TheVariants.{Regular, Directory, Special}
use Rattle.mb_tree.specs.declared.trees.Tree.{Tree}
use Rattle.mb_tree.proofs.Shapes.{IsShaped, HasSecond, shape_of, sound_of, slots_stay, carried, no_links_leaf}

directory_of : (body : Body) (slots : List PlainSlot) → slots_of body ≡ Some slots → body ≡ Directory slots
directory_of (Regular size parts) slots h = cc
directory_of (Directory others) slots h = let e : others ≡ slots = cc in ap Directory e
directory_of (Special size area) slots h = cc

links_by : (skip ino : ℕ) (body : Body) → links_from skip ino body ≡ unwrap_or (option_map (λ slots. count_by (leads_to ino) (drop skip slots)) (slots_of body)) 0
links_by skip ino (Regular size parts) = refl
links_by skip ino (Directory slots) = refl
links_by skip ino (Special size area) = refl

links_stay : (skip ino : ℕ) (old new : Option Node) → StaysWithSlotsAndLinks old new → links_at skip ino new ≡ links_at skip ino old
links_stay skip ino None None h = refl
links_stay skip ino None (Some y) h = absurd h
links_stay skip ino (Some x) None h = absurd h
links_stay skip ino (Some x) (Some y) h =
    links_by skip ino y.body ∙ ap (λ s. unwrap_or (option_map (λ slots. count_by (leads_to ino) (drop skip slots)) s) 0) h.slots ∙ sym (links_by skip ino x.body)

-- the inode before, and the one after
before : (old new : Option Node) (y : Node) → StaysWithSlotsAndLinks old new → new ≡ Some y → (x : Node) × (old ≡ Some x) × KeepsSlotsAndLinks x y
before old None y h e = cc
before None (Some z) y h e = absurd h
before (Some x) (Some z) y h e = let at : z ≡ y = cc in (x, refl, subst (λ (n : Node). KeepsSlotsAndLinks x n) at h)

later : (old new : Option Node) (x : Node) → StaysWithSlotsAndLinks old new → old ≡ Some x → (y : Node) × (new ≡ Some y) × KeepsSlotsAndLinks x y
later None new x h e = cc
later (Some z) None x h e = absurd h
later (Some z) (Some y) x h e = let at : z ≡ x = cc in (y, refl, subst (λ (n : Node). KeepsSlotsAndLinks n y) at h)

-- an inode stays with its slots and its link count, or is dropped where no used slot leads to it
abbrev pub StaysOrIsDropped : Tree → Numbered Node → ℕ → Type 0
StaysOrIsDropped tree nodes ino = StaysWithSlotsAndLinks (fin.get tree.nodes ino) (fin.get nodes ino) ⊎ ((fin.get nodes ino ≡ None) × IsUnled tree ino)

module _ (tree : Tree) (sound : IsSound tree) where
  pub itself : (ino : ℕ) (o : Option Node) → fin.get tree.nodes ino ≡ o → StaysWithSlotsAndLinks o o
  itself ino None e = tt
  itself ino (Some x) e = record { nlink = refl; slots = refl; kind = sound.kinds ino x e; size = sound.sizes ino x e }

  used_self : (ino : ℕ) → 1 ≤ ino → is_used (record { ino = ino; name = dot }) ≡ true
  used_self ino h = grind (arith, nat_tests)

  -- an inode to which no used slot leads is no directory, since a directory's first slot leads to it
  pub no_directory : (ino : ℕ) (node : Node) (slots : List PlainSlot) → IsUnled tree ino → fin.get tree.nodes ino ≡ Some node → node.body ≡ Directory slots → ⊥
  no_directory ino node slots unled has body =
      let s = sound.slots ino node slots has body in
      unled ino 0 node slots (record { ino = ino; name = dot }) has body (record { has = s.first; used = used_self ino (sound.numbers ino node has).0 }) refl

  no_links : (skip target ino : ℕ) → IsUnled tree ino → (o : Option Node) → fin.get tree.nodes ino ≡ o → links_at skip target o ≡ 0
  no_links skip target ino unled None e = refl
  no_links skip target ino unled (Some node) e = no_links_leaf skip target node.body (λ slots body. no_directory ino node slots unled e body)

  module _ (nodes : Numbered Node) (each : (ino : ℕ) → StaysOrIsDropped tree nodes ino) where
    abbrev next : Tree
    next = record tree { nodes = nodes }

    links_same : (skip target dir : ℕ) → links_at skip target (fin.get nodes dir) ≡ links_at skip target (fin.get tree.nodes dir)
    links_same skip target dir = elim (each dir) [
      | inl stays ↦ links_stay skip target (fin.get tree.nodes dir) (fin.get nodes dir) stays
      | inr gone ↦ ap (links_at skip target) gone.0 ∙ sym (no_links skip target dir gone.1 (fin.get tree.nodes dir) refl)
    ]

    same_links : (skip target : ℕ) → links_past skip next target ≡ links_past skip tree target
    same_links skip target = ap (λ (g : ℕ → ℕ). sum_below g (tree.last + 1)) (λ i dir. links_same skip target dir i)

    was : (ino : ℕ) (y : Node) → fin.get nodes ino ≡ Some y → (x : Node) × (fin.get tree.nodes ino ≡ Some x) × KeepsSlotsAndLinks x y
    was ino y has = elim (each ino) [
      | inl stays ↦ before (fin.get tree.nodes ino) (fin.get nodes ino) y stays has
      | inr gone ↦ absurd (none-some y (sym gone.0 ∙ has))
    ]

    was_directory : (y x : Node) (slots : List PlainSlot) → KeepsSlotsAndLinks x y → y.body ≡ Directory slots → x.body ≡ Directory slots
    was_directory y x slots h body = directory_of x.body slots (sym h.slots ∙ ap slots_of body)

    directory_stays : (ino : ℕ) (x : Node) (slots : List PlainSlot) → fin.get tree.nodes ino ≡ Some x → x.body ≡ Directory slots → HasSecond nodes ino (slice_get slots 1)
    directory_stays ino x slots has body = elim (each ino) [
      | inl stays ↦
          let y = later (fin.get tree.nodes ino) (fin.get nodes ino) x stays has in
          record { node = y.0; slots = slots; has = y.1; body = directory_of y.0.body slots (y.2.slots ∙ ap slots_of body); is = refl }
      | inr gone ↦ absurd (no_directory ino x slots gone.1 has body)
    ]

    there : (dir at : ℕ) (x : Node) (slots : List PlainSlot) (slot : PlainSlot) → fin.get tree.nodes dir ≡ Some x → x.body ≡ Directory slots → IsUsedAt slots at slot → IsThere tree.nodes slot.ino → IsThere nodes slot.ino
    there dir at x slots slot has body used h = elim (each slot.ino) [
      | inl stays ↦ let y = later (fin.get tree.nodes slot.ino) (fin.get nodes slot.ino) h.node stays h.has in record { node = y.0; has = y.1 }
      | inr gone ↦ absurd (gone.1 dir at x slots slot has body used refl)
    ]

    leads : (dir at ino : ℕ) → Leads tree.nodes dir at ino → Leads nodes dir at ino
    leads dir at ino l = elim (each dir) [
      | inl stays ↦
          let y = later (fin.get tree.nodes dir) (fin.get nodes dir) l.node stays l.has in
          record { node = y.0; slots = l.slots; slot = l.slot; has = y.1; body = directory_of y.0.body l.slots (y.2.slots ∙ ap slots_of l.body); late = l.late; entry = l.entry; leads = l.leads }
      | inr gone ↦ absurd (no_directory dir l.node l.slots gone.1 l.has l.body)
    ]

    shape_kept : IsShaped next 0
    shape_kept = carried tree nodes 0 (shape_of tree 0 sound) (record {
      numbers = λ ino y has. let x = was ino y has in sound.numbers ino x.0 x.1;
      kinds = λ ino y has. (was ino y has).2.kind;
      sizes = λ ino y has. (was ino y has).2.size;
      slots = λ ino y slots has body.
          let x = was ino y has in
          let old = was_directory y x.0 slots x.2 body in
          slots_stay tree.nodes nodes ino slots (λ at slot u. there ino at x.0 slots slot x.1 old u) (sound.slots ino x.0 slots x.1 old);
      top = directory_stays 2;
      was = λ ino y slots has body apart. let x = was ino y has in record { node = x.0; slots = slots; has = x.1; body = was_directory y x.0 slots x.2 body; is = refl };
      leads = λ dir at q apart. leads dir at q;
      late = λ q some apart. same_links 2 q;
      under = λ e. absurd (omega (arith, e));
      barren = λ at q l. absurd (omega (arith, (sound.numbers 0 l.node l.has).0));
    })

    pub stays_sound : cost next ≤ tree.cap → IsSound next
    stays_sound = sound_of next 0 shape_kept (λ y slots has. absurd (omega (arith, (shape_kept.numbers 0 y has).0)))
        (λ ino y has ordinary. let x = was ino y has in
        (x.2.nlink ∙ sound.counted ino x.0 x.1 ordinary ∙ sym (same_links 0 ino), subst (λ n. n ≤ 32767) (sym x.2.nlink) (sound.few ino x.0 x.1 ordinary)))

pub slots_and_links_kept : SlotsAndLinksKept
slots_and_links_kept tree nodes sound stay room = stays_sound tree sound nodes (λ ino. inl (stay ino)) room
