-- The faces that were there before a command.
use Rattle.command_laws.proofs.Prelude.{◌≡◌, ℕ, zero, suc, ◌+◌, ◌≤◌, ◌<◌, ℤ, List, [], ◌∷◌, sym, ap, subst, ◌∙◌, arith, length, Point, Table, Model, get-put_other, loops_of, Growing, Taken, growing, taken_in, lamina_model, lamina_face, raised, prism_from, prism_model, with_side, with_sides, base_of, block_model, riser_above, top_above, Machine, held, last_face, up_by, IsBlock}
use Rattle.euler_operators.specs.Table as table
use Rattle.command_laws.proofs.LaminaFaces.{lamina_counted}

-- the solids stay, and the rows of the numbers that are taken
pub record KeepsTaken (M N : Model) (c : Taken) : Type 0 where
  pub solids : N.solids ≡ M.solids
  pub faces : (q : ℕ) → q ≤ c.face → table.get N.faces q ≡ table.get M.faces q
  pub edges : (q : ℕ) → q ≤ c.edge → table.get N.edges q ≡ table.get M.edges q
  pub vertices : (q : ℕ) → q ≤ c.vertex → table.get N.vertices q ≡ table.get M.vertices q

side_keeps : (c : Taken) (s : ℕ) (d : Point) (hs : List ℕ) (i : ℕ) (M : Model) → i < length hs → KeepsTaken M (with_side c s d hs i M) c
unfolding with_side
side_keeps c s d hs i M l = grind (arith, get-put_other, top_above, riser_above)

sides_keep : (c : Taken) (s : ℕ) (d : Point) (hs : List ℕ) (M : Model) (n : ℕ) → n ≤ length hs → KeepsTaken M (with_sides c s d hs n M) c
sides_keep c s d hs M zero l = grind arith
sides_keep c s d hs M (suc n) l = grind (arith, sides_keep c s d hs M n (omega (arith, l)), side_keeps)

module _ (f : ℕ) (d : Point) where
  loop_keeps : (g : Growing) (l : ℕ) → KeepsTaken g.model (raised f d g l).model g.taken
  unfolding raised
  loop_keeps g l = grind (arith, sides_keep)

  taken_more : (g : Growing) (l : ℕ) → let c = g.taken in let t = (raised f d g l).taken in (c.face ≤ t.face) × (c.edge ≤ t.edge) × (c.vertex ≤ t.vertex)
  unfolding raised
  taken_more g l = (omega arith, omega arith, omega arith)

  loops_keep : (ls : List ℕ) (g : Growing) → KeepsTaken g.model (prism_from f d g ls).model g.taken
  loops_keep [] g = grind arith
  loops_keep (l ∷ ls) g = grind (arith, loops_keep ls (raised f d g l), loop_keeps, taken_more)

pub prism_keeps : (M : Model) (f : ℕ) (d : Point) → KeepsTaken M (prism_model M f d) (taken_in M)
unfolding prism_model
prism_keeps M f d = loops_keep f d (loops_of M f) (growing M)

pub prism_kept : (M : Model) (f : ℕ) (d : Point) (k : ℕ) → k ≤ table.greatest M.faces → table.get (prism_model M f d).faces k ≡ table.get M.faces k
unfolding taken_in
prism_kept M f d k m = (prism_keeps M f d).faces k m

-- two rows put after the numbers up to a
pub old_kept : {X : Type 0} (t : Table X) (a : ℕ) (x y : X) (q : ℕ) → q ≤ a → table.get (table.put (table.put t (a + 1) x) (a + 2) y) q ≡ table.get t q
old_kept t a x y q m = get-put_other (table.put t (a + 1) x) (a + 2) y q (λ e. absurd (omega arith)) ∙ get-put_other t (a + 1) x q (λ e. absurd (omega arith))

pub lamina_kept : (M : Model) (s : ℕ) (ps : List Point) (k : ℕ) → k ≤ table.greatest M.faces → table.get (lamina_model M s ps).faces k ≡ table.get M.faces k
unfolding lamina_model taken_in
lamina_kept M s ps k m = old_kept M.faces (table.greatest M.faces) _ _ k m

block_kept : (M : Model) (s : ℕ) (p : Point) (dx dy dz : ℤ) (k : ℕ) → k ≤ table.greatest M.faces → table.get (block_model M s p dx dy dz).faces k ≡ table.get M.faces k
unfolding block_model
block_kept M s p dx dy dz k m = prism_kept (lamina_model M s (base_of p dx dy)) (lamina_face M) (up_by dz) k (subst (λ g. k ≤ g) (sym (lamina_counted M s (base_of p dx dy))) (omega (arith, m))) ∙ lamina_kept M s (base_of p dx dy) k m

-- each face up to the greatest before is of the solid, and has the outer loop, that it had
abbrev KeepsFaces : Machine → Machine → Type 0
KeepsFaces before after = (k : ℕ) → k ≤ last_face before → table.get (held after).faces k ≡ table.get (held before).faces k

pub block_keeps_faces : (before after : Machine) (s : ℕ) (p : Point) (dx dy dz : ℤ) → IsBlock before after s p dx dy dz → KeepsFaces before after
block_keeps_faces before after s p dx dy dz made k m = ap (λ x. table.get (held x).faces k) made.1 ∙ block_kept (held before) s p dx dy dz k m
