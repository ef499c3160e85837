-- Models whose loops are rewritten row by row, and what stays where faces and solids stay.
use Rattle.euler_laws.proofs.Prelude.{◌≡◌, ℕ, [], Option, Some, None, is_some, unwrap_or, refl, sym, ap, ◌∙◌, arith, option_map, Table, same_table, map_rows, get-map_rows, Model, LoopContent, cycle, LoopRow, content, face_of, solid_of, loop_of, tail, tail_in, no_edge, no_point, point_of, Sound, HasHalf, edge_of, is_first, same_solid}
use Rattle.euler_operators.specs.Table as table
use Rattle.euler_laws.proofs.shared.Fans.{loop_after, kept_round}

pub map_twice : {X : Type 0} (f g : ℕ → X → X) (t : Table X) → map_rows f (map_rows g t) ≡ map_rows (λ q x. f q (g q x)) t
map_twice {X = X} f g t = grind (arith, same_table, get-map_rows f (map_rows g t), map_rows g t, get-map_rows g t, table.get t, get-map_rows)

pub mapped_some : {X : Type 0} (f : X → X) (o : Option X) → is_some (option_map f o) ≡ is_some o
mapped_some f None = refl
mapped_some f (Some x) = refl

-- where its row is as it was, a half-edge starts where it did, and a vertex has its point
pub same_tail : (M N : Model) (h : ℕ) → table.get N.edges (edge_of h) ≡ table.get M.edges (edge_of h) → tail N h ≡ tail M h
unfolding tail
same_tail M N h e = ap (λ o. tail_in (unwrap_or o no_edge) (is_first h)) e

pub same_point : (M N : Model) (v : ℕ) → table.get N.vertices v ≡ table.get M.vertices v → point_of N v ≡ point_of M v
unfolding point_of
same_point M N v e = ap (λ o. unwrap_or o no_point) e

-- each loop keeps its face, and its content is rewritten
pub record Rewritten (M N : Model) (new : LoopContent → LoopContent) : Type 0 where
  pub rewrite : ℕ → LoopRow → LoopRow
  pub is : N.loops ≡ map_rows rewrite M.loops
  pub contents : (q : ℕ) (row : LoopRow) → (rewrite q row).content ≡ new row.content
  pub faces : (q : ℕ) (row : LoopRow) → (rewrite q row).face ≡ row.face
  pub none : new (cycle []) ≡ cycle []

module _ (M N : Model) (new : LoopContent → LoopContent) (w : Rewritten M N new) where
  get_is : (q : ℕ) → table.get N.loops q ≡ option_map (w.rewrite q) (table.get M.loops q)
  get_is q = ap (λ t. table.get t q) w.is ∙ get-map_rows w.rewrite M.loops q

  pub content-new : (q : ℕ) → content N q ≡ new (content M q)
  unfolding content
  content-new q = grind (arith, get_is)

  pub face-same : (q : ℕ) → face_of N q ≡ face_of M q
  unfolding face_of
  face-same q = grind (arith, get_is)

  pub loop-same : (q : ℕ) → table.has N.loops q ≡ table.has M.loops q
  loop-same q = ap is_some (get_is q) ∙ mapped_some (w.rewrite q) (table.get M.loops q)

-- faces and solids stay, and each loop its face
pub record SameFaces (M N : Model) : Type 0 where
  pub faces : N.faces ≡ M.faces
  pub solids : N.solids ≡ M.solids
  pub face : (q : ℕ) → face_of N q ≡ face_of M q
  pub loop : (q : ℕ) → table.has N.loops q ≡ table.has M.loops q

-- the solid at a loop
abbrev pub solid_at : Model → ℕ → ℕ
solid_at X q = solid_of X (face_of X q)

pub solid_at-same : (M N : Model) → SameFaces M N → (q : ℕ) → solid_at N q ≡ solid_at M q
solid_at-same M N w q = ap (solid_of N) (w.face q) ∙ same_solid M N (face_of M q) (ap (λ t. table.get t (face_of M q)) w.faces)

-- the half-edges at one vertex lie in one solid
pub one_solid_round : (M : Model) (sound : Sound M) (g k : ℕ) → HasHalf M g → HasHalf M k → tail M g ≡ tail M k → solid_at M (loop_of M k) ≡ solid_at M (loop_of M g)
one_solid_round M sound g k gt kt e = kept_round M sound (λ x. solid_at M (loop_of M x)) (λ x t. ap (solid_at M) (loop_after M sound x t)) (λ x t. sym (sound.one_solid x t)) g k gt (sound.one_fan g k gt kt e)
