-- Two faces of two solids whose items go back along each other: what follows in a sound model.
use Rattle.shapes.proofs.Prelude.{◌≡◌, ◌≢◌, ℕ, List, [], ◌∷◌, ◌++◌, Some, None, is_some, IsTrue, sym, ap, ◌∙◌, arith, map, reverse, IsIn, IsApart, canonical, mate, Model, cycle, items_of, holds, tail, loop_of, content, face_of, solid_of, outer, cycle_of, after, is_number, Sound, Has, HasHalf, StandsIn, count-append, tick_same, count-canonical, successor_inner, successor_last, count-reverse, content_row, face_row, in-holds, mate_there as half_mate, IsIn-map, one_solid_round}
use Rattle.euler_operators.specs.Table as table

-- f and g can be glued: hs are the items of f, each with its partner in g, and x is a fresh edge
pub record Facing (M : Model) (f g : ℕ) (partner_of : ℕ → ℕ) (hs : List ℕ) (x : ℕ) : Type 0 where
  pub sound : Sound M
  pub f_there : Has M.faces f
  pub g_there : Has M.faces g
  pub solids_apart : solid_of M f ≢ solid_of M g
  -- neither has a ring
  pub alone_f : (q : ℕ) → Has M.loops q → face_of M q ≡ f → outer M f ≡ q
  pub alone_g : (q : ℕ) → Has M.loops q → face_of M q ≡ g → outer M g ≡ q
  -- their loops run in opposite directions
  pub first : table.get M.loops (outer M f) ≡ Some (record { face = f; content = cycle hs })
  pub second : table.get M.loops (outer M g) ≡ Some (record { face = g; content = cycle (canonical (reverse (map partner_of hs))) })
  -- no two items of one loop start, or end, at one vertex
  pub starts_once : (h k : ℕ) → IsIn h hs → IsIn k hs → tail M (partner_of h) ≡ tail M (partner_of k) → h ≡ k
  pub ends_once : (h k : ℕ) → IsIn h hs → IsIn k hs → tail M (mate h) ≡ tail M (mate k) → h ≡ k
  -- no edge has g on both sides
  pub no_fold : (h k : ℕ) → IsIn h hs → IsIn k hs → mate (partner_of h) ≢ partner_of k
  pub edge_free : table.get M.edges x ≡ None
  pub edge_fits : IsTrue (is_number x)

module _ (M : Model) (f g : ℕ) (partner_of : ℕ → ℕ) (hs : List ℕ) (x : ℕ) (w : Facing M f g partner_of hs x) where
  abbrev pub side : ℕ → ℕ
  side y = solid_of M (face_of M (loop_of M y))

  pub content_f : content M (outer M f) ≡ cycle hs
  content_f = content_row M (outer M f) (record { face = f; content = cycle hs }) w.first

  pub content_g : content M (outer M g) ≡ cycle (canonical (reverse (map partner_of hs)))
  content_g = content_row M (outer M g) (record { face = g; content = cycle (canonical (reverse (map partner_of hs))) }) w.second

  pub face_f : face_of M (outer M f) ≡ f
  face_f = face_row M (outer M f) (record { face = f; content = cycle hs }) w.first

  pub face_g : face_of M (outer M g) ≡ g
  face_g = face_row M (outer M g) (record { face = g; content = cycle (canonical (reverse (map partner_of hs))) }) w.second

  pub faces_apart : f ≢ g
  faces_apart e = w.solids_apart (ap (solid_of M) e)

  pub loops_apart : outer M f ≢ outer M g
  loops_apart e = faces_apart (sym face_f ∙ ap (face_of M) e ∙ face_g)

  pub apart : IsApart hs
  apart = (w.sound.cycles (outer M f) hs (ap is_some w.first) content_f).apart

  -- the items of f
  pub stands_f : (h : ℕ) → IsIn h hs → StandsIn M h (outer M f)
  stands_f h i = ap (λ c. holds h c) content_f ∙ in-holds h (cycle hs) i

  pub half_f : (h : ℕ) → IsIn h hs → HasHalf M h
  half_f h i = w.sound.only_edges h (outer M f) (stands_f h i)

  pub loop_f : (h : ℕ) → IsIn h hs → loop_of M h ≡ outer M f
  loop_f h i = w.sound.one_loop h (outer M f) (stands_f h i)

  pub side_f : (h : ℕ) → IsIn h hs → side h ≡ solid_of M f
  side_f h i = ap (solid_of M) (ap (face_of M) (loop_f h i) ∙ face_f)

  -- their partners
  pub partner_in : (h : ℕ) → IsIn h hs → IsIn (partner_of h) (canonical (reverse (map partner_of hs)))
  partner_in h i = omega (arith, IsIn-map partner_of h hs i, count-reverse (partner_of h) (map partner_of hs), count-canonical (partner_of h) (reverse (map partner_of hs)))

  pub stands_g : (h : ℕ) → IsIn h hs → StandsIn M (partner_of h) (outer M g)
  stands_g h i = ap (λ c. holds (partner_of h) c) content_g ∙ in-holds (partner_of h) (cycle (canonical (reverse (map partner_of hs)))) (partner_in h i)

  pub half_g : (h : ℕ) → IsIn h hs → HasHalf M (partner_of h)
  half_g h i = w.sound.only_edges (partner_of h) (outer M g) (stands_g h i)

  pub side_g : (h : ℕ) → IsIn h hs → side (partner_of h) ≡ solid_of M g
  side_g h i = ap (solid_of M) (ap (face_of M) (w.sound.one_loop (partner_of h) (outer M g) (stands_g h i)) ∙ face_g)

  -- an edge and a vertex are of one solid
  pub side_mate : (y : ℕ) → HasHalf M y → side (mate y) ≡ side y
  side_mate y t = sym (w.sound.one_solid y t)

  pub side_vertex : (y z : ℕ) → HasHalf M y → HasHalf M z → tail M y ≡ tail M z → side z ≡ side y
  side_vertex y z a b e = one_solid_round M w.sound y z a b e

  pub mate_there : (y : ℕ) → HasHalf M y → HasHalf M (mate y)
  mate_there y t = half_mate M y t

  -- so nothing of f starts or ends where something of g starts
  pub never_met : (h k : ℕ) → IsIn h hs → IsIn k hs → tail M (partner_of h) ≢ tail M k
  never_met h k i j e = w.solids_apart (sym (side_f k j) ∙ side_vertex (partner_of h) k (half_g h i) (half_f k j) e ∙ side_g h i)

  pub never_ends : (h k : ℕ) → IsIn h hs → IsIn k hs → tail M (mate h) ≢ tail M (partner_of k)
  never_ends h k i j e = w.solids_apart (sym (side_f h i) ∙ sym (side_mate h (half_f h i)) ∙ side_vertex (partner_of k) (mate h) (half_g k j) (mate_there h (half_f h i)) (sym e) ∙ side_g k j)

  cycle_f : (h : ℕ) → IsIn h hs → cycle_of M h ≡ hs
  cycle_f h i = ap (λ q. items_of (content M q)) (loop_f h i) ∙ ap items_of content_f

  -- an item ends where the next one starts
  pub meets : (ps : List ℕ) (h k : ℕ) (qs : List ℕ) → hs ≡ ps ++ h ∷ k ∷ qs → tail M k ≡ tail M (mate h)
  unfolding after
  meets ps h k qs e =
      grind (arith, count-append h ps (h ∷ k ∷ qs), tick_same h, apart h, cycle_f h, successor_inner h k ps qs, w.sound.ends_meet h, half_f h)

  pub meets_round : (k : ℕ) (ps : List ℕ) (h : ℕ) → hs ≡ (k ∷ ps) ++ h ∷ [] → tail M k ≡ tail M (mate h)
  unfolding after
  meets_round k ps h e =
      grind (arith, count-append h (k ∷ ps) (h ∷ []), tick_same h, apart h, cycle_f h, successor_last k h ps, w.sound.ends_meet h, half_f h)
