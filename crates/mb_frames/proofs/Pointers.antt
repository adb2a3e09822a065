-- A pointer names one place, and one cell lies there.
use Rattle.std.proofs.Common.{◌≡◌, Bool, true, false, ◌&&◌, ◌||◌, ◌==◌, cond, List, [], ◌∷◌, ◌++◌, refl, sym, ap, ◌∙◌, subst, eqb→eq, T}
use Rattle.std.specs.Prelude.{IsTrue, slice_get, drop, Some}
use Rattle.std.proofs.lemmas.Option.{none-some}
use lib.Dec.{eqb_refl}
use denote.RawPtr.{Ptr, block_ptr, null_ptr}
use Rattle.mb_frames.specs.declared.node.Node.{Node}
use Rattle.mb_frames.specs.Pointers.{same_ptr}
use Rattle.mb_frames.specs.Cells.{has, Cell, cell, is_at, node_at, put_node, places}

true_of : (b : Bool) → T b → b ≡ true
true_of true t = refl
true_of false t = absurd t

both : (x y : Bool) → (x && y) ≡ true → T x × T y
both true true e = (tt, tt)
both true false e = cc
both false y e = cc

pub same_ptr_refl : (p : Ptr) → same_ptr p p ≡ true
same_ptr_refl (block_ptr b o) = λ i. true_of (b == b) (eqb_refl b) i && true_of (o == o) (eqb_refl o) i
same_ptr_refl null_ptr = refl

pub same_ptr_eq : (p q : Ptr) → same_ptr p q ≡ true → p ≡ q
same_ptr_eq (block_ptr b o) (block_ptr c p) e = let t = both (b == c) (o == p) e in λ i. block_ptr (eqb→eq b c t.0 i) (eqb→eq o p t.1 i)
same_ptr_eq (block_ptr b o) null_ptr e = cc
same_ptr_eq null_ptr (block_ptr c p) e = cc
same_ptr_eq null_ptr null_ptr e = refl

alike : (x y : Bool) → (x ≡ true → y ≡ true) → (y ≡ true → x ≡ true) → x ≡ y
alike true y f g = sym (f refl)
alike false true f g = g refl
alike false false f g = refl

pub same_ptr_symm : (p q : Ptr) → same_ptr p q ≡ same_ptr q p
same_ptr_symm p q = alike (same_ptr p q) (same_ptr q p)
    (λ e. subst (λ r. same_ptr r p ≡ true) (same_ptr_eq p q e) (same_ptr_refl p)) (λ e. subst (λ r. same_ptr r q ≡ true) (same_ptr_eq q p e) (same_ptr_refl q))

-- the cell at p, with those before and after it
pub record Found (p : Ptr) (cs : List Cell) : Type 0 where
  pub before : List Cell
  pub here : Cell
  pub after : List Cell
  pub cut : cs ≡ before ++ here ∷ after
  pub place : here.at ≡ p
  pub put : (w : Node) → put_node p w cs ≡ before ++ cell here.alloc here.at w ∷ after
  pub got : (d : Node) → node_at p cs d ≡ here.node

pub found : (p : Ptr) (cs : List Cell) → IsTrue (is_at p cs) → Found p cs
unfolding has node_at put_node
found p [] t = absurd (subst T (sym t) tt)
found p (c ∷ cs) t = (elim (same_ptr c.at p) as (λ y. same_ptr c.at p ≡ y → Found p (c ∷ cs)) [
  | true ↦ λ e. record {
    before = [];
    here = c;
    after = cs;
    cut = refl;
    place = same_ptr_eq c.at p e;
    put = λ w i. cond (e i) (cell c.alloc c.at w ∷ cs) (c ∷ put_node p w cs);
    got = λ d i. cond (e i) c.node (node_at p cs d);
  }
  | false ↦ λ e.
      let f = found p cs (subst (λ y. IsTrue (y || is_at p cs)) e t) in
      record {
        before = c ∷ f.before;
        here = f.here;
        after = f.after;
        cut = ap (λ l. c ∷ l) f.cut;
        place = f.place;
        put = λ w. (λ i. cond (e i) (cell c.alloc c.at w ∷ cs) (c ∷ put_node p w cs)) ∙ ap (λ l. c ∷ l) (f.put w);
        got = λ d. (λ i. cond (e i) c.node (node_at p cs d)) ∙ f.got d;
      }
]) refl

-- the first cell, which lies at p
pub record First (p : Ptr) (cs : List Cell) : Type 0 where
  pub here : Cell
  pub rest : List Cell
  pub cut : cs ≡ here ∷ rest
  pub place : here.at ≡ p
  pub left : places rest ≡ drop 1 (places cs)

pub first_cell : (p : Ptr) (cs : List Cell) → slice_get (places cs) 0 ≡ Some p → First p cs
first_cell p [] e = absurd (none-some p e)
first_cell p (c ∷ cs) e = record { here = c; rest = cs; cut = refl; place = cc; left = refl }
