-- The corners of a face without rings, and the plane that they tell.
use Rattle.command_laws.proofs.Prelude.{◌≡◌, ℕ, zero, suc, ◌<◌, ◌≤◌, false, List, [], ◌∷◌, ◌++◌, Some, is_some, refl, sym, ap, subst, ◌∙◌, arith, append-nil, length, get_or, map, take, length-map, Point, is_lone, origin, moved, cross, IsIn, head_or, IsPath, IsRing, Model, LoopContent, cycle, items_of, tail, content, outer, point_of, rings_of, after, Sound, Has, IsCycle, item_there, content_row, face_row, IsIn_rest, IsIn_head, IsPathOf, loop_sound, IsLoop, start, finish, loops_of, vertices_in, vertices_on, boundary, corners, area, normal, anchor, first_vertex, plane_through, plane_of, IsFaceOf, corner_points, nth, area_to, plane_round}
use Rattle.euler_operators.specs.Table as table
use Rattle.sweeps_laws.proofs.Whole.{sound_path}

-- one point more
pub take_next : (ps : List Point) (k : ℕ) → k < length ps → take (suc k) ps ≡ take k ps ++ nth ps k ∷ []
take_next [] k l = absurd (omega arith)
take_next (p ∷ ps) zero l = refl
take_next (p ∷ ps) (suc k) l = ap (λ qs. p ∷ qs) (take_next ps k (omega (arith, l)))

pub take_whole : (ps : List Point) → take (length ps) ps ≡ ps
take_whole [] = refl
take_whole (p ∷ ps) = ap (λ qs. p ∷ qs) (take_whole ps)

pub starts_are : (M : Model) (hs : List ℕ) → map (point_of M) (map (tail M) hs) ≡ map (start M) hs
starts_are M [] = refl
starts_are M (h ∷ hs) = ap (λ ps. start M h ∷ ps) (starts_are M hs)

-- item by item
pub nth_start : (M : Model) (hs : List ℕ) (i : ℕ) → i < length hs → nth (map (start M) hs) i ≡ start M (get_or hs i 0)
nth_start M [] i l = absurd (omega arith)
nth_start M (h ∷ hs) zero l = refl
nth_start M (h ∷ hs) (suc i) l = nth_start M hs i (omega (arith, l))

pub as_many : (M : Model) (hs : List ℕ) → length (map (start M) hs) ≡ length hs
as_many M [] = refl
as_many M (h ∷ hs) = ap suc (as_many M hs)

pub same_starts : (M N : Model) (hs : List ℕ) → ((h : ℕ) → IsIn h hs → start N h ≡ start M h) → map (start N) hs ≡ map (start M) hs
same_starts M N [] same = refl
same_starts M N (h ∷ hs) same = λ t. same h (IsIn_head h hs) t ∷ same_starts M N hs (λ k i. same k (IsIn_rest k h hs i)) t

area_round : (M : Model) (xs : List ℕ) (e : ℕ) → IsPath (after M) xs e → ((h : ℕ) → IsIn h xs → finish M h ≡ start M (after M h)) → area M xs ≡ area_to (start M e) (map (start M) xs)
area_round M [] e p ends = refl
area_round M (x ∷ []) e p ends = ap (λ q. moved (cross (start M x) q) origin) (ends x (IsIn_head x []) ∙ ap (start M) p.0)
area_round M (x ∷ y ∷ ys) e p ends = λ t. moved (cross (start M x) ((ends x (IsIn_head x (y ∷ ys)) ∙ ap (start M) p.0) t)) (area_round M (y ∷ ys) e p.1 (λ h i. ends h (IsIn_rest h x (y ∷ ys) i)) t)

ring_in : (M : Model) (hs : List ℕ) (x : LoopContent) → x ≡ cycle hs → IsLoop (after M) x → IsCycle hs × IsRing (after M) hs
ring_in M hs x e w = subst (IsLoop (after M)) e w

-- in a sound model a loop that isn't lone is a closed path
module _ (M : Model) (sound : Sound M) (f l : ℕ) (hs : List ℕ) (at : table.get M.loops l ≡ Some (record { face = f; content = cycle hs })) where
  held : content M l ≡ cycle hs
  held = content_row M l _ at

  pub ring_path : IsPathOf M f l hs
  ring_path = sound_path M sound f l hs (ap is_some at) (face_row M l _ at) held

module _ (M : Model) (f l : ℕ) (hs : List ℕ) (plain : rings_of M f ≡ []) (out : outer M f ≡ l) (is : content M l ≡ cycle hs) where
  pub points_are : corner_points M f ≡ map (start M) hs
  unfolding corners loops_of
  points_are = grind (arith, append-nil, starts_are)

  normal_is : normal M f ≡ area M hs
  unfolding normal boundary loops_of
  normal_is = grind (arith, append-nil)

  anchor_is : anchor M f ≡ start M (head_or 0 hs)
  anchor_is = ap (λ q. point_of M (first_vertex M (content M q))) out ∙ ap (λ x. point_of M (first_vertex M x)) is

  first_is : (xs : List ℕ) → 0 < length xs → start M (head_or 0 xs) ≡ nth (map (start M) xs) 0
  first_is [] l = absurd (omega arith)
  first_is (x ∷ xs) l = refl

  pub plane_is : Sound M → Has M.loops l → 0 < length hs → (ps : List Point) → corner_points M f ≡ ps → plane_of M f ≡ plane_round ps
  unfolding plane_of
  plane_is sound there some ps told =
      let w : IsRing (after M) hs = (ring_in M hs (content M l) is (loop_sound M sound l there)).1 in
      let a : area M hs ≡ area_to (start M (head_or 0 hs)) (map (start M) hs) = area_round M hs (head_or 0 hs) w (λ h i. ap (point_of M) (sym (sound.ends_meet h (item_there M sound l h (subst (λ x. IsIn h (items_of x)) (sym is) i))))) in
      (λ t. plane_through ((normal_is ∙ a) t) (anchor_is t))
      ∙ ap (λ q. plane_through (area_to q (map (start M) hs)) q) (first_is hs some)
      ∙ ap plane_round (sym points_are ∙ told)

-- where it has two corners or more its outer loop isn't a lone vertex
module _ {M : Model} {f s : ℕ} {ps : List Point} (face : IsFaceOf M f s ps) where
  many : length ps ≡ length (corners M f)
  many = ap length (sym face.points) ∙ length-map (corners M f) (point_of M)

  corners_on : corners M f ≡ vertices_on M (content M (outer M f)) ++ []
  unfolding corners loops_of
  corners_on = ap (λ rs. vertices_in M (outer M f ∷ rs)) face.plain

  pub outer_cycles : 2 ≤ length ps → is_lone (content M (outer M f)) ≡ false
  outer_cycles l = grind (arith, many, corners_on)
