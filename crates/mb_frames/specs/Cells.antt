-- The nodes as the proofs see them: each with the place where it lies, and the allocator that frees its block.
use Rattle.std.specs.Prelude.{◌≡◌, ℕ, Bool, true, false, ◌||◌, cond, List, [], ◌∷◌, map}
use Rattle.std.specs.List.{AllByRecursion}
use denote.RawPtr.{Ptr}
use Rattle.std.specs.Global.{Global}
use Rattle.mb_frames.specs.Pointers.{same_ptr}
use Rattle.mb_frames.specs.declared.node.Node.{Node}

pub record Cell : Type 0 where
  pub alloc : Global
  pub at : Ptr
  pub node : Node

abbrev pub cell : Global → Ptr → Node → Cell
cell a p n = record { alloc = a; at = p; node = n }

abbrev pub places : List Cell → List Ptr
places = map (λ c. c.at)

-- no pointer of the list is p
abbrev pub IsFresh : Ptr → List Ptr → Type 0
IsFresh p = AllByRecursion (λ q. same_ptr p q ≡ false)

-- whether p is in the list
unfoldable pub has : Ptr → List Ptr → Bool
has p [] = false
has p (q ∷ qs) = same_ptr q p || has p qs

-- whether a node lies at p
abbrev pub is_at : Ptr → List Cell → Bool
is_at p cs = has p (places cs)

-- the node at p, or else the given one
unfoldable pub node_at : Ptr → List Cell → Node → Node
node_at p [] d = d
node_at p (c ∷ cs) d = cond (same_ptr c.at p) c.node (node_at p cs d)

-- the cells with w as the node at p
unfoldable pub put_node : Ptr → Node → List Cell → List Cell
put_node p w [] = []
put_node p w (c ∷ cs) = cond (same_ptr c.at p) (cell c.alloc c.at w ∷ cs) (c ∷ put_node p w cs)

-- what f reads of the node at p, or else d
unfoldable pub read : {X : Type 0} → (Node → X) → X → List Cell → Ptr → X
read f d [] p = d
read f d (c ∷ cs) p = cond (same_ptr c.at p) (f c.node) (read f d cs p)

abbrev pub next_at : List Cell → Ptr → Ptr
next_at cs p = read (λ n. n.next.ptr) p cs p

abbrev pub prev_at : List Cell → Ptr → Ptr
prev_at cs p = read (λ n. n.prev.ptr) p cs p

abbrev pub head_at : List Cell → Ptr → Bool
head_at cs p = read (λ n. n.is_head) true cs p

abbrev pub block_at : List Cell → Ptr → ℕ
block_at cs p = read (λ n. n.block) 0 cs p

abbrev pub bytes_at : List Cell → Ptr → List ℕ
bytes_at cs p = read (λ n. n.bytes) [] cs p

-- what a change of the cells leaves
pub record Keeps (old new : List Cell) : Type 0 where
  pub places : places new ≡ places old
  pub heads : (q : Ptr) → head_at new q ≡ head_at old q

-- a's link forward was set to b, and b's link back to a
pub record Links (old new : List Cell) (a b : Ptr) : Type 0 where
  pub keeps : Keeps old new
  pub block : (q : Ptr) → block_at new q ≡ block_at old q
  pub bytes : (q : Ptr) → bytes_at new q ≡ bytes_at old q
  pub next : (q : Ptr) → next_at new q ≡ cond (same_ptr a q) b (next_at old q)
  pub prev : (q : Ptr) → prev_at new q ≡ cond (same_ptr b q) a (prev_at old q)

-- the run from first to last was taken out, and linked in before target
pub record Moves (old new : List Cell) (first last target : Ptr) : Type 0 where
  pub one : List Cell
  pub two : List Cell
  pub closes : Links old one (prev_at old first) (next_at old last)
  pub begins : Links one two (prev_at old target) first
  pub ends : Links two new last target

-- what a change of what pages hold leaves
pub record Stays (old new : List Cell) : Type 0 where
  pub keeps : Keeps old new
  pub next : (q : Ptr) → next_at new q ≡ next_at old q
  pub prev : (q : Ptr) → prev_at new q ≡ prev_at old q

-- the node at p holds these bytes, as a page of that block
pub record Writes (old new : List Cell) (p : Ptr) (number : ℕ) (content : List ℕ) : Type 0 where
  pub stays : Stays old new
  pub block : (q : Ptr) → block_at new q ≡ cond (same_ptr p q) number (block_at old q)
  pub bytes : (q : Ptr) → bytes_at new q ≡ cond (same_ptr p q) content (bytes_at old q)

-- the nodes at these places hold other bytes
pub record Fills (old new : List Cell) (ps : List Ptr) (content : List ℕ) : Type 0 where
  pub stays : Stays old new
  pub block : (q : Ptr) → block_at new q ≡ block_at old q
  pub bytes : (q : Ptr) → bytes_at new q ≡ cond (has q ps) content (bytes_at old q)

-- a node came in at p, which was no node's place
pub record Adopts (old new : List Cell) (p : Ptr) (is_head : Bool) : Type 0 where
  pub alloc : Global
  pub node : Node
  pub is : new ≡ cell alloc p node ∷ old
  pub head : node.is_head ≡ is_head
  pub fresh : IsFresh p (places old)

-- a page came in at p, and was linked in before target
pub record Adds (old new : List Cell) (p target : Ptr) : Type 0 where
  pub one : List Cell
  pub two : List Cell
  pub adopted : Adopts old one p false
  pub begins : Links one two (prev_at old target) p
  pub ends : Links two new p target

-- a head came in at p, with nothing in its ring
pub record AddsHead (old new : List Cell) (p : Ptr) : Type 0 where
  pub one : List Cell
  pub adopted : Adopts old one p true
  pub loops : Links one new p p
