-- Two faces of two solids along which these are glued: what follows in a sound model, and what the glued model holds.
use Rattle.gluing_laws.proofs.Prelude.{◌≡◌, ◌≢◌, ℕ, nat_eq, List, [], true, sym, ap, ◌∙◌, arith, ◌⊎◌, inl, inr, map, option_map, IsIn, SameItems, count, mate, edge_of, Model, cycle, holds, tail, loop_of, content, face_of, solid_of, outer, rings_of, point_of, Sound, Has, HasHalf, StandsIn, faces_to_solid, get-map_rows, from_map, in-holds, mate_there, IsIn-map, mate-mate, edge_of-mate, same_edge, one_solid_round, start, finish, rewritten_row, renamed, without_rows, is_flat, renamed_tails, paired, renamed_cases, without_there, tail_renamed, none_in}
use Rattle.euler_operators.specs.Table as table

-- the items hs of f have partners, the items gs of g, which go back along them
pub record Seamed (M : Model) (f g : ℕ) (partner_of : ℕ → ℕ) (hs gs : List ℕ) : Type 0 where
  pub sound : Sound M
  pub f_there : Has M.faces f
  pub g_there : Has M.faces g
  pub solids_apart : solid_of M f ≢ solid_of M g
  pub alone_f : rings_of M f ≡ []
  pub alone_g : rings_of M g ≡ []
  pub first : content M (outer M f) ≡ cycle hs
  pub second : content M (outer M g) ≡ cycle gs
  pub partners : SameItems gs (map partner_of hs)
  pub starts : (h : ℕ) → IsIn h hs → start M (partner_of h) ≡ finish M h
  pub ends : (h : ℕ) → IsIn h hs → finish M (partner_of h) ≡ start M h
  pub flat : (k : ℕ) → Has M.faces k → (solid_of M k ≡ solid_of M f) ⊎ (solid_of M k ≡ solid_of M g) → is_flat M k ≡ true

-- N is M with the two solids glued there
pub record Glued (M N : Model) (f g : ℕ) (partner_of : ℕ → ℕ) (hs : List ℕ) : Type 0 where
  pub faces : N.faces ≡ table.map_rows (faces_to_solid (λ _ row. nat_eq row.solid (solid_of M g)) (solid_of M f)) (table.remove (table.remove M.faces f) g)
  pub loops : N.loops ≡ table.map_rows (rewritten_row (map (renamed (paired (λ h. mate (partner_of h)) (λ h. h) hs)))) (table.remove (table.remove M.loops (outer M f)) (outer M g))
  pub edges : N.edges ≡ table.map_rows (renamed_tails (paired (λ h. tail M (partner_of h)) (λ h. tail M (mate h)) hs)) (without_rows M.edges (map (λ h. edge_of (partner_of h)) hs))
  pub vertices : N.vertices ≡ without_rows M.vertices (map (λ h. tail M (partner_of h)) hs)

module _ {M : Model} {f g : ℕ} {partner_of : ℕ → ℕ} {hs gs : List ℕ} (w : Seamed M f g partner_of hs gs) where
  abbrev pub side : ℕ → ℕ
  side y = solid_of M (face_of M (loop_of M y))

  pub face_f : face_of M (outer M f) ≡ f
  face_f = (w.sound.outers_there f w.f_there).1

  pub face_g : face_of M (outer M g) ≡ g
  face_g = (w.sound.outers_there g w.g_there).1

  pub faces_apart : f ≢ g
  faces_apart e = w.solids_apart (ap (solid_of M) e)

  -- the items of f
  pub stands_f : (h : ℕ) → IsIn h hs → StandsIn M h (outer M f)
  stands_f h i = ap (λ c. holds h c) w.first ∙ in-holds h (cycle hs) i

  pub half_f : (h : ℕ) → IsIn h hs → HasHalf M h
  half_f h i = w.sound.only_edges h (outer M f) (stands_f h i)

  pub loop_f : (h : ℕ) → IsIn h hs → loop_of M h ≡ outer M f
  loop_f h i = w.sound.one_loop h (outer M f) (stands_f h i)

  pub side_f : (h : ℕ) → IsIn h hs → side h ≡ solid_of M f
  side_f h i = ap (solid_of M) (ap (face_of M) (loop_f h i) ∙ face_f)

  -- the items of g
  pub stands_g : (k : ℕ) → IsIn k gs → StandsIn M k (outer M g)
  stands_g k i = ap (λ c. holds k c) w.second ∙ in-holds k (cycle gs) i

  pub half_g : (k : ℕ) → IsIn k gs → HasHalf M k
  half_g k i = w.sound.only_edges k (outer M g) (stands_g k i)

  pub loop_g : (k : ℕ) → IsIn k gs → loop_of M k ≡ outer M g
  loop_g k i = w.sound.one_loop k (outer M g) (stands_g k i)

  pub side_g : (k : ℕ) → IsIn k gs → side k ≡ solid_of M g
  side_g k i = ap (solid_of M) (ap (face_of M) (loop_g k i) ∙ face_g)

  -- they are the partners
  pub partner_in : (h : ℕ) → IsIn h hs → IsIn (partner_of h) gs
  partner_in h i = omega (arith, w.partners (partner_of h), IsIn-map partner_of h hs i)

  pub partner_back : (k : ℕ) → IsIn k gs → (h : ℕ) × IsIn h hs × (k ≡ partner_of h)
  partner_back k i = from_map partner_of k hs (omega (arith, i, w.partners k))

  -- an edge and a vertex are of one solid
  pub side_mate : (y : ℕ) → HasHalf M y → side (mate y) ≡ side y
  side_mate y t = sym (w.sound.one_solid y t)

  -- so an item of g starts where nothing of the other solid does
  pub never_met : (y k : ℕ) → HasHalf M y → side y ≡ solid_of M f → IsIn k gs → tail M k ≢ tail M y
  never_met y k there on i e = w.solids_apart (sym on ∙ one_solid_round M w.sound k y (half_g k i) there e ∙ side_g k i)

  -- and no half-edge of that is one of g, or the mate of one
  pub not_g : (y k : ℕ) → side y ≡ solid_of M f → IsIn k gs → y ≢ k
  not_g y k on i e = w.solids_apart (sym on ∙ ap side e ∙ side_g k i)

  pub not_mate : (y k : ℕ) → side y ≡ solid_of M f → IsIn k gs → y ≢ mate k
  not_mate y k on i e = w.solids_apart (sym on ∙ ap side e ∙ side_mate k (half_g k i) ∙ side_g k i)

-- ---- where half-edges start and end once the solids are glued: where they did

module _ {M N : Model} {f g : ℕ} {partner_of : ℕ → ℕ} {hs gs : List ℕ} (w : Seamed M f g partner_of hs gs) (n : Glued M N f g partner_of hs) where
  abbrev from_tail : ℕ → ℕ
  from_tail h = tail M (partner_of h)

  abbrev to_tail : ℕ → ℕ
  to_tail h = tail M (mate h)

  abbrev gone : List ℕ
  gone = map (λ h. edge_of (partner_of h)) hs

  -- what replaces the mates of the partners
  abbrev pub swap : ℕ → ℕ
  swap = renamed (paired (λ h. mate (partner_of h)) (λ h. h) hs)

  -- ---- vertices

  not_moved : (v : ℕ) → ((h : ℕ) → IsIn h hs → from_tail h ≢ v) → count v (map from_tail hs) ≡ 0
  not_moved v none = none_in v (map from_tail hs) (λ i. let p = from_map from_tail v hs i in none p.0 p.1 (sym p.2))

  -- a vertex at which no partner starts keeps its point
  pub point_kept : (v : ℕ) → ((h : ℕ) → IsIn h hs → from_tail h ≢ v) → point_of N v ≡ point_of M v
  unfolding point_of
  point_kept v none = grind (arith, n.vertices, without_there, not_moved)

  end_kept : (h : ℕ) → IsIn h hs → point_of N (to_tail h) ≡ finish M h
  end_kept h i = point_kept (to_tail h) (λ k j. never_met w (mate h) (partner_of k)
      (mate_there M h (half_f w h i)) (side_mate w h (half_f w h i) ∙ side_f w h i) (partner_in w k j))

  -- a vertex that replaces another has its point
  point_moved : (v : ℕ) → point_of N (renamed (paired from_tail to_tail hs) v) ≡ point_of M v
  point_moved v = elim (renamed_cases from_tail to_tail hs v) [
    | inl p ↦ ap (point_of N) p.3 ∙ end_kept p.0 p.1 ∙ sym (w.starts p.0 p.1) ∙ ap (point_of M) p.2
    | inr p ↦ ap (point_of N) p.0 ∙ point_kept v p.1
  ]

  -- ---- edges

  edge_row : (e : ℕ) → table.get N.edges e ≡ option_map (renamed_tails (paired from_tail to_tail hs) e) (table.get (without_rows M.edges gone) e)
  edge_row e = ap (λ t. table.get t e) n.edges ∙ get-map_rows _ (without_rows M.edges gone) e

  start_kept : (y : ℕ) → HasHalf M y → count (edge_of y) gone ≡ 0 → start N y ≡ start M y
  unfolding tail
  start_kept y there c = ap (point_of N) (grind (arith, edge_row, without_there, tail_renamed (paired from_tail to_tail hs))) ∙ point_moved (tail M y)

  -- z starts and ends where y did
  abbrev pub Stays : ℕ → ℕ → Type 0
  Stays z y = (start N z ≡ start M y) × (finish N z ≡ finish M y)

  both_kept : (y : ℕ) → HasHalf M y → count (edge_of y) gone ≡ 0 → Stays y y
  both_kept y there c = (start_kept y there c, start_kept (mate y) (mate_there M y there) (ap (λ e. count e gone) (edge_of-mate y) ∙ c))

  edge_left : (y : ℕ) → ((h : ℕ) → IsIn h hs → y ≢ partner_of h) → ((h : ℕ) → IsIn h hs → y ≢ mate (partner_of h)) → count (edge_of y) gone ≡ 0
  edge_left y a b = none_in (edge_of y) gone (λ i. let p = from_map (λ h. edge_of (partner_of h)) (edge_of y) hs i in elim (same_edge y (partner_of p.0) p.2) [ inl e ↦ a p.0 p.1 e | inr e ↦ b p.0 p.1 e ])

  item_left : (h : ℕ) → IsIn h hs → count (edge_of h) gone ≡ 0
  item_left h i = edge_left h
      (λ k j. not_g w h (partner_of k) (side_f w h i) (partner_in w k j))
      (λ k j. not_mate w h (partner_of k) (side_f w h i) (partner_in w k j))

  -- what stands in the place of a half-edge of another face starts and ends where that did
  pub swapped : (y : ℕ) → HasHalf M y → loop_of M y ≢ outer M g → Stays (swap y) y
  swapped y there other = elim (renamed_cases (λ h. mate (partner_of h)) (λ h. h) hs y) [
    | inl p ↦
        let kept = both_kept p.0 (half_f w p.0 p.1) (item_left p.0 p.1) in
        grind (arith, p, kept, w.starts p.0 p.1, w.ends p.0 p.1, mate-mate (partner_of p.0))
    | inr p ↦
        let k = both_kept y there (edge_left y (λ h i e. other (ap (loop_of M) e ∙ loop_g w (partner_of h) (partner_in w h i))) (λ h i e. p.1 h i (sym e))) in
        (ap (start N) p.0 ∙ k.0, ap (finish N) p.0 ∙ k.1)
  ]
