-- What a change of one node does to what is read of all.
use Rattle.std.proofs.Common.{◌≡◌, ℕ, Bool, true, false, ◌||◌, cond, List, [], ◌∷◌, refl, sym, ap, ◌∙◌, subst, T}
use Rattle.std.specs.Prelude.{IsTrue}
use denote.RawPtr.{Ptr}
use Rattle.mb_frames.specs.declared.node.Node.{Node}
use Rattle.mb_frames.specs.declared.node.NodePtr.{NodePtr}
use Rattle.mb_frames.specs.Pointers.{same_ptr}
use Rattle.mb_frames.specs.Cells.{has, Cell, cell, is_at, node_at, put_node, places, read, next_at, prev_at, head_at, block_at, bytes_at, Keeps, Links, Writes}
use Rattle.mb_frames.proofs.Pointers.{same_ptr_refl, same_ptr_eq}

module _ {X : Type 0} (f : Node → X) where
  pub read_node : (d : X) (e : Node) (p : Ptr) (cs : List Cell) → IsTrue (is_at p cs) → f (node_at p cs e) ≡ read f d cs p
  unfolding has read node_at
  read_node d e p [] t = absurd (subst T (sym t) tt)
  read_node d e p (c ∷ cs) t = (elim (same_ptr c.at p) as (λ y. same_ptr c.at p ≡ y → f (cond y c.node (node_at p cs e)) ≡ cond y (f c.node) (read f d cs p)) [
    | true ↦ λ s. refl
    | false ↦ λ s. read_node d e p cs (subst (λ y. IsTrue (y || is_at p cs)) s t)
  ]) refl

  -- a test that decides the place: p and q cannot both be c
  apart : (x : X) (y : X) (z : X) (p q r : Ptr) → same_ptr r p ≡ false → cond (same_ptr r q) y (cond (same_ptr p q) x z) ≡ cond (same_ptr p q) x (cond (same_ptr r q) y z)
  apart x y z p q r n = (elim (same_ptr r q) as (λ v. same_ptr r q ≡ v → cond v y (cond (same_ptr p q) x z) ≡ cond (same_ptr p q) x (cond v y z)) [
    | true ↦ λ s. (elim (same_ptr p q) as (λ w. same_ptr p q ≡ w → y ≡ cond w x y) [
      | true ↦ λ t. absurd (subst T (sym (subst (λ k. same_ptr r k ≡ true) (same_ptr_eq r q s ∙ sym (same_ptr_eq p q t)) (same_ptr_refl r)) ∙ n) tt)
      | false ↦ λ t. refl
    ]) refl
    | false ↦ λ s. refl
  ]) refl

  twice : (b : Bool) (x y z : X) → cond b x z ≡ cond b x (cond b y z)
  twice true x y z = refl
  twice false x y z = refl

  pub read_put : (d : X) (p : Ptr) (w : Node) (cs : List Cell) → IsTrue (is_at p cs) → (q : Ptr) → read f d (put_node p w cs) q ≡ cond (same_ptr p q) (f w) (read f d cs q)
  unfolding has read put_node
  read_put d p w [] t q = absurd (subst T (sym t) tt)
  read_put d p w (c ∷ cs) t q = (elim (same_ptr c.at p) as (λ y. same_ptr c.at p ≡ y → read f d (cond y (cell c.alloc c.at w ∷ cs) (c ∷ put_node p w cs)) q ≡ cond (same_ptr p q) (f w) (read f d (c ∷ cs) q)) [
    | true ↦ λ s. subst (λ r. cond (same_ptr r q) (f w) (read f d cs q) ≡ cond (same_ptr p q) (f w) (cond (same_ptr r q) (f c.node) (read f d cs q))) (sym (same_ptr_eq c.at p s)) (twice (same_ptr p q) (f w) (f c.node) (read f d cs q))
    | false ↦ λ s. ap (λ v. cond (same_ptr c.at q) (f c.node) v) (read_put d p w cs (subst (λ y. IsTrue (y || is_at p cs)) s t) q) ∙ apart (f w) (f c.node) (read f d cs q) p q c.at s
  ]) refl

pub places_put : (p : Ptr) (w : Node) (cs : List Cell) → places (put_node p w cs) ≡ places cs
unfolding put_node
places_put p w [] = refl
places_put p w (c ∷ cs) = (elim (same_ptr c.at p) as (λ y. places (cond y (cell c.alloc c.at w ∷ cs) (c ∷ put_node p w cs)) ≡ places (c ∷ cs)) [
  | true ↦ refl
  | false ↦ ap (λ l. c.at ∷ l) (places_put p w cs)
])

pub next_read : (p : Ptr) (cs : List Cell) (n : Node) → n ≡ node_at p cs n → IsTrue (is_at p cs) → n.next.ptr ≡ next_at cs p
next_read p cs n e t = ap (λ (m : Node). m.next.ptr) e ∙ read_node (λ m. m.next.ptr) p n p cs t

pub prev_read : (p : Ptr) (cs : List Cell) (n : Node) → n ≡ node_at p cs n → IsTrue (is_at p cs) → n.prev.ptr ≡ prev_at cs p
prev_read p cs n e t = ap (λ (m : Node). m.prev.ptr) e ∙ read_node (λ m. m.prev.ptr) p n p cs t

pub head_read : (p : Ptr) (cs : List Cell) (n : Node) → n ≡ node_at p cs n → IsTrue (is_at p cs) → n.is_head ≡ head_at cs p
head_read p cs n e t = ap (λ (m : Node). m.is_head) e ∙ read_node (λ m. m.is_head) true n p cs t

pub block_read : (p : Ptr) (cs : List Cell) (n : Node) → n ≡ node_at p cs n → IsTrue (is_at p cs) → n.block ≡ block_at cs p
block_read p cs n e t = ap (λ (m : Node). m.block) e ∙ read_node (λ m. m.block) 0 n p cs t

pub bytes_read : (p : Ptr) (cs : List Cell) (n : Node) → n ≡ node_at p cs n → IsTrue (is_at p cs) → n.bytes ≡ bytes_at cs p
bytes_read p cs n e t = ap (λ (m : Node). m.bytes) e ∙ read_node (λ m. m.bytes) [] n p cs t

same_else : {X : Type 0} (p q : Ptr) (f : Ptr → X) (x : X) → x ≡ f p → cond (same_ptr p q) x (f q) ≡ f q
same_else p q f x e = (elim (same_ptr p q) as (λ y. same_ptr p q ≡ y → cond y x (f q) ≡ f q) [
  | true ↦ λ s. e ∙ ap f (same_ptr_eq p q s)
  | false ↦ λ s. refl
]) refl

-- the node at p is replaced by one that reads alike
pub read_kept : {X : Type 0} (f : Node → X) (d : Ptr → X) (p : Ptr) (w n : Node) (cs : List Cell) → n ≡ node_at p cs n → IsTrue (is_at p cs) → f w ≡ f n → (q : Ptr) → read f (d q) (put_node p w cs) q ≡ read f (d q) cs q
read_kept f d p w n cs e t same q = read_put f (d q) p w cs t q ∙ same_else p q (λ r. read f (d r) cs r) (f w) (same ∙ ap f e ∙ read_node f (d p) n p cs t)

pub is_put : (p : Ptr) (w : Node) (cs : List Cell) (q : Ptr) → IsTrue (is_at q cs) → IsTrue (is_at q (put_node p w cs))
is_put p w cs q t = subst (λ l. IsTrue (has q l)) (sym (places_put p w cs)) t

-- the two stores of a link
pub links_put : (a b : Ptr) (cs : List Cell) (n w : Node) (m v : Node) → IsTrue (is_at a cs) → IsTrue (is_at b cs)
    → n ≡ node_at a cs n → (w.next.ptr ≡ b) × (w.prev ≡ n.prev) × (w.is_head ≡ n.is_head) × (w.block ≡ n.block) × (w.bytes ≡ n.bytes)
    → m ≡ node_at b (put_node a w cs) m → (v.prev.ptr ≡ a) × (v.next ≡ m.next) × (v.is_head ≡ m.is_head) × (v.block ≡ m.block) × (v.bytes ≡ m.bytes)
    → Links cs (put_node b v (put_node a w cs)) a b
links_put a b cs n w m v ta tb en ew em ev =
    let mid = put_node a w cs in let tm = is_put a w cs b tb in
    record {
      keeps = record {
        places = places_put b v mid ∙ places_put a w cs;
        heads = λ q. read_kept (λ k. k.is_head) (λ _. true) b v m mid em tm ev.2 q ∙ read_kept (λ k. k.is_head) (λ _. true) a w n cs en ta ew.2 q;
      };
      block = λ q. read_kept (λ k. k.block) (λ _. 0) b v m mid em tm ev.3 q ∙ read_kept (λ k. k.block) (λ _. 0) a w n cs en ta ew.3 q;
      bytes = λ q. read_kept (λ k. k.bytes) (λ _. []) b v m mid em tm ev.4 q ∙ read_kept (λ k. k.bytes) (λ _. []) a w n cs en ta ew.4 q;
      next = λ q. read_kept (λ k. k.next.ptr) (λ r. r) b v m mid em tm (ap (λ (k : NodePtr). k.ptr) ev.1) q ∙ read_put (λ k. k.next.ptr) q a w cs ta q ∙ ap (λ r. cond (same_ptr a q) r (next_at cs q)) ew.0;
      prev = λ q. read_put (λ k. k.prev.ptr) q b v mid tm q ∙ ap (λ r. cond (same_ptr b q) r (prev_at mid q)) ev.0 ∙ ap (λ r. cond (same_ptr b q) a r) (read_kept (λ k. k.prev.ptr) (λ r. r) a w n cs en ta (ap (λ (k : NodePtr). k.ptr) ew.1) q);
    }

-- the store of a page's block and bytes
pub writes_put : (p : Ptr) (cs : List Cell) (n w : Node) (k : ℕ) → IsTrue (is_at p cs) → n ≡ node_at p cs n → w.block ≡ k → (w.next ≡ n.next) × (w.prev ≡ n.prev) × (w.is_head ≡ n.is_head) → Writes cs (put_node p w cs) p k w.bytes
writes_put p cs n w k t e ek ew = record {
  stays = record {
    keeps = record {
      places = places_put p w cs;
      heads = λ q. read_kept (λ k. k.is_head) (λ _. true) p w n cs e t ew.2 q;
    };
    next = λ q. read_kept (λ k. k.next.ptr) (λ r. r) p w n cs e t (ap (λ (k : NodePtr). k.ptr) ew.0) q;
    prev = λ q. read_kept (λ k. k.prev.ptr) (λ r. r) p w n cs e t (ap (λ (k : NodePtr). k.ptr) ew.1) q;
  };
  block = λ q. read_put (λ k. k.block) 0 p w cs t q ∙ ap (λ r. cond (same_ptr p q) r (block_at cs q)) ek;
  bytes = λ q. read_put (λ k. k.bytes) [] p w cs t q;
}

pub is_kept : (old new : List Cell) (q : Ptr) → Keeps old new → IsTrue (is_at q old) → IsTrue (is_at q new)
is_kept old new q k t = subst (λ l. IsTrue (has q l)) (sym k.places) t
