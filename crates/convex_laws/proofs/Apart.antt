-- The faces of the parts of a split: each part lies on its side of the plane.
use Rattle.convex_laws.proofs.Prelude.{list_all, list_any, ◌≡◌, ◌⊎◌, ℕ, suc, ◌<◌, Bool, true, false, cond, not, ◌&&◌, ◌||◌, List, [], ◌∷◌, length, get_or, refl, sym, ap, subst, ◌∙◌, arith, true≢false, inl, inr, int_lt, pos, and_parts, Plane, Point, direction, dot, is_above, is_below, is_on, Model, point_of, solid_of, Sound, Has, IsIn, lists, listed-from_in, listed_cases, corners, straddles, face_is_above, normal, reaches_above, reaches_below, Caps, no_caps, face_listed, none_straddles, on_both, cap_faces, drawn_sound, never_stuck, Machine, held, IsSplit, IsCapOf, cap, caps_of, SplitPartsLieApart, IsOfEither, IsTurned, turned_pass, caps_stand, holes_are_closed, stages, or_parts, not-true}
use Rattle.euler_operators.specs.Table as table
use Rattle.split_laws.proofs.drawn.Drawn.{begins}
use Rattle.command_laws.proofs.splits_laws.PartFaces.{part_of, part_turned}
use Rattle.command_laws.proofs.splits_laws.Pieces.{known, was_of}
use Rattle.command_laws.proofs.splits_laws.Whole as whole
use Rattle.split_drawing_laws.specs.loop_sides.Parted.{LiesOn}

-- ---- tests of corners

pub all_fail : (f : ℕ → Bool) (vs : List ℕ) → list_any f vs ≡ false → list_all (λ v. not (f v)) vs ≡ true
all_fail f [] e = refl
all_fail f (v ∷ vs) e = both (f v) (list_any f vs) e (all_fail f vs) where
  both : (a b : Bool) → (a || b) ≡ false → (b ≡ false → list_all (λ v. not (f v)) vs ≡ true) → (not a && list_all (λ v. not (f v)) vs) ≡ true
  both true b e rest = absurd (true≢false e)
  both false b e rest = rest e

pub listed_passes : (f : ℕ → Bool) (vs : List ℕ) (v : ℕ) → list_all f vs ≡ true → lists vs v ≡ true → f v ≡ true
listed_passes f [] v all i = absurd (true≢false (sym i))
listed_passes f (w ∷ vs) v all i = let a = and_parts (f w) (list_all f vs) all in elim (listed_cases w v vs i) [
  | inl e ↦ subst (λ x. f x ≡ true) (sym e) a.0
  | inr j ↦ listed_passes f vs v a.1 j
]

pub not_both : (a b c : Bool) → (a || (not b && c)) ≡ true → (a && b) ≡ false → b ≡ false
not_both true b c e f = f
not_both false false c e f = refl
not_both false true c e f = absurd (true≢false (sym e))

-- what no corner of a face fulfils, none does where its loops are turned
turned_none : (D N : Model) (k : ℕ) (test : Point → Bool) → IsTurned D N k → list_any (λ v. test (point_of D v)) (corners D k) ≡ false → (v : ℕ) → lists (corners N k) v ≡ true → test (point_of N v) ≡ false
turned_none D N k test w none v i = not-true (test (point_of N v)) (listed_passes (λ x. not (test (point_of N x))) (corners N k) v (turned_pass D N k (λ x. not (test x)) w (all_fail (λ x. test (point_of D x)) (corners D k) none)) i)

-- ---- which cap

-- face k is the lower or the upper one of the caps of some cycle
cap_at : (k : ℕ) (ks : List Caps) → lists (cap_faces ks) k ≡ true → (i : ℕ) × (i < length ks) × ((k ≡ (get_or ks i no_caps).lower) ⊎ (k ≡ (get_or ks i no_caps).upper))
cap_at k [] l = absurd (true≢false (sym l))
cap_at k (c ∷ cs) l = elim (listed_cases c.lower k (c.upper ∷ cap_faces cs) l) [
  | inl e ↦ (0, omega arith, inl e)
  | inr m ↦ elim (listed_cases c.upper k (cap_faces cs) m) [
    | inl e ↦ (0, omega arith, inr e)
    | inr n ↦ let r = cap_at k cs n in (suc r.0, omega (arith, r.1), r.2)
  ]
]

-- ---- a whole split

module _ (before after : Machine) (s : ℕ) (p : Plane) (t : ℕ) (sound : Sound (held before)) (made : IsSplit before after s p t) where
  abbrev M : Model
  M = held before

  open stages M s p t use {drawing as d, above, opened as X, parted as N}

  -- a cap that is there is one of an outer cycle's
  pub record OuterCap (k : ℕ) : Type 0 where
    pub index : ℕ
    pub within : index < length (caps_of (held before) s p)
    pub outer : (cap (held before) s p index).hole ≡ false
    pub which : (k ≡ (cap (held before) s p index).lower) ⊎ (k ≡ (cap (held before) s p index).upper)

  pub outer_cap : (k : ℕ) → Has (held after).faces k → lists (cap_faces (caps_of (held before) s p)) k ≡ true → OuterCap k
  outer_cap k there l = let r = cap_at k (caps_of M s p) l in outer_or_hole r.0 r.1 r.2 (cap M s p r.0).hole refl where
    outer_or_hole : (i : ℕ) → i < length (caps_of M s p) → (k ≡ (cap M s p i).lower) ⊎ (k ≡ (cap M s p i).upper) → (b : Bool) → (cap M s p i).hole ≡ b → OuterCap k
    outer_or_hole i within which false outer = record { index = i; within = within; outer = outer; which = which }
    outer_or_hole i within (inl e) true hole = absurd (true≢false (sym there ∙ ap (table.has (held after).faces) e ∙ (holes_are_closed before after s p t i sound made within hole).0))
    outer_or_hole i within (inr e) true hole = absurd (true≢false (sym there ∙ ap (table.has (held after).faces) e ∙ (holes_are_closed before after s p t i sound made within hole).1))

  pub is_cap : (k : ℕ) → Has (held after).faces k → lists (cap_faces (caps_of (held before) s p)) k ≡ true → IsCapOf (held after) p s k ⊎ IsCapOf (held after) p t k
  is_cap k there l = let c = outer_cap k there l in let w = caps_stand before after s p t c.index sound made c.within c.outer in elim c.which [
    | inl e ↦ inl (subst (IsCapOf (held after) p s) (sym e) w.0)
    | inr e ↦ inr (subst (IsCapOf (held after) p t) (sym e) w.1)
  ]

  after_is : held after ≡ N
  after_is = whole.after_is before after s p t sound made

  -- a face of the drawn solid
  module _ (k : ℕ) (has : Has d.model.faces k) (of : solid_of d.model k ≡ s) where
    pub turned : IsTurned d.model (held after) k
    turned = subst (λ P. IsTurned d.model P k) (sym after_is) (part_turned M s p t sound made.0 k has of)

    pub side : solid_of (held after) k ≡ cond (face_is_above d.model p k) t s
    side = ap (λ P. solid_of P k) after_is ∙ part_of M s p t sound made.0 k has of

    one_side : straddles d.model p k ≡ false
    one_side = none_straddles M d.model s p t sound (begins M s p t sound made.0) (never_stuck M s p t sound made.0, refl) k (face_listed d.model (drawn_sound M s p t sound made.0) s k has of)

    drawn_lies : (b : Bool) → solid_of (held after) k ≡ cond b t s → (v : ℕ) → lists (corners (held after) k) v ≡ true → LiesOn p b (point_of (held after) v)
    unfolding face_is_above straddles
    drawn_lies false low = turned_none d.model (held after) k (is_above p) turned (reaches (face_is_above d.model p k) refl) where
      reaches : (b : Bool) → face_is_above d.model p k ≡ b → reaches_above d.model p k ≡ false
      reaches true e = absurd (whole.apart before after s p t sound made (sym low ∙ side ∙ ap (λ b. cond b t s) e))
      reaches false e = (or_parts (reaches_above d.model p k) (not (reaches_below d.model p k) && not (int_lt (pos 0) (dot (normal d.model k) (direction p)))) e).0
    drawn_lies true high = turned_none d.model (held after) k (is_below p) turned (reaches (face_is_above d.model p k) refl) where
      reaches : (b : Bool) → face_is_above d.model p k ≡ b → reaches_below d.model p k ≡ false
      reaches false e = absurd (whole.apart before after s p t sound made (sym (side ∙ ap (λ b. cond b t s) e) ∙ high))
      reaches true e = not_both (reaches_above d.model p k) (reaches_below d.model p k) (not (int_lt (pos 0) (dot (normal d.model k) (direction p)))) e one_side

  -- each face
  module _ (k : ℕ) (there : Has (held after).faces k) (of : IsOfEither (held after) s t k) where
    now : Has N.faces k
    now = subst (λ P. Has P.faces k) after_is there

    now_of : IsOfEither N s t k
    now_of = subst (λ P. IsOfEither P s t k) after_is of

    pub known_face : Has d.model.faces k ⊎ IsIn k (cap_faces X.caps)
    known_face = known before after s p t sound made k now now_of

    pub drawn_of : Has d.model.faces k → solid_of d.model k ≡ s
    drawn_of has = was_of before after s p t sound made k now now_of has

    on_plane : IsIn k (cap_faces X.caps) → (v : ℕ) → lists (corners (held after) k) v ≡ true → is_on p (point_of (held after) v) ≡ true
    on_plane i v l = elim (is_cap k there (listed-from_in k (cap_faces X.caps) i)) [
      | inl w ↦ w.on_plane v l
      | inr w ↦ w.on_plane v l
    ]

    face_lies : (b : Bool) → solid_of (held after) k ≡ cond b t s → (v : ℕ) → lists (corners (held after) k) v ≡ true → LiesOn p b (point_of (held after) v)
    face_lies b on v l = elim known_face [
      | inl has ↦ drawn_lies k has (drawn_of has) b on v l
      | inr i ↦ on_both p (point_of (held after) v) (on_plane i v l) b
    ]

pub split_parts_lie_apart : SplitPartsLieApart
split_parts_lie_apart before after s p t sound made = (
  λ v w. face_lies before after s p t sound made w.face w.there (inl w.solid) false w.solid v w.corner,
  λ v w. face_lies before after s p t sound made w.face w.there (inr w.solid) true w.solid v w.corner,
)
