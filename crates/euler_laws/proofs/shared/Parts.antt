-- Soundness in four parts: the walks of loops and vertices, what stands at vertices, faces and solids, and the ranges of numbers and points.
use Rattle.euler_laws.proofs.Prelude.{◌≡◌, ◌≢◌, ℕ, Option, Some, None, is_some, IsTrue, true, sym, ap, ◌∙◌, subst, ◌⊎◌, arith, eqb_tells, Point, IsInRange, mate, Table, get-map_rows, Model, FaceRow, lone, tail, loop_of, content, face_of, solid_of, outer, is_number, Sound, Has, HasHalf, IsTail, IsLoneAt, NumbersFit, same_outer, same_solid, get-put_here, get-put_other, get-remove_here, get-remove_other, row_elsewhere}
use Rattle.euler_operators.specs.Table as table
use Rattle.euler_laws.proofs.shared.Loops.{Walks, stands-walks, one_loop-walks, cycles-walks, ends_meet-walks, one_fan-walks}
use Rattle.euler_laws.proofs.shared.Same.{mapped_some, SameFaces, solid_at}

-- what stands at vertices
pub record VerticesHold (N : Model) : Type 0 where
  pub tails_there : (h : ℕ) → HasHalf N h → Has N.vertices (tail N h)
  pub ends_differ : (h : ℕ) → HasHalf N h → tail N h ≢ tail N (mate h)
  pub lone_or_tail : (v : ℕ) → Has N.vertices v → ((l : ℕ) × IsLoneAt N l v) ⊎ IsTail N v
  pub lone_is_no_tail : (l h : ℕ) → HasHalf N h → content N l ≢ lone (tail N h)
  pub one_lone : (l k v : ℕ) → IsLoneAt N l v → IsLoneAt N k v → l ≡ k
  pub lone_at_vertex : (l v : ℕ) → IsLoneAt N l v → Has N.vertices v

-- faces, their loops and solids
pub record FacesHold (N : Model) : Type 0 where
  pub loops_of_faces : (l : ℕ) → Has N.loops l → Has N.faces (face_of N l)
  pub outers_there : (f : ℕ) → Has N.faces f → Has N.loops (outer N f) × (face_of N (outer N f) ≡ f)
  pub faces_of_solids : (f : ℕ) → Has N.faces f → Has N.solids (solid_of N f)
  pub solid_has_face : (s : ℕ) → Has N.solids s → (f : ℕ) × Has N.faces f × (solid_of N f ≡ s)
  pub one_solid : (h : ℕ) → HasHalf N h → solid_of N (face_of N (loop_of N h)) ≡ solid_of N (face_of N (loop_of N (mate h)))

abbrev pub PointsFit : Table Point → Type 0
PointsFit t = (v : ℕ) (p : Point) → table.get t v ≡ Some p → IsInRange p

-- numbers and points are in range
pub record RangesHold (N : Model) : Type 0 where
  pub solids_fit : NumbersFit N.solids
  pub faces_fit : NumbersFit N.faces
  pub loops_fit : NumbersFit N.loops
  pub edges_fit : NumbersFit N.edges
  pub vertices_fit : NumbersFit N.vertices
  pub points_fit : PointsFit N.vertices

pub sound_of : (N : Model) (next : ℕ → ℕ) → Walks N next → VerticesHold N → FacesHold N → RangesHold N → Sound N
sound_of N next walks vertices faces ranges = grind (arith, cycles-walks, ends_meet-walks, one_fan-walks, stands-walks, walks.only, one_loop-walks)

-- ---- ranges, where a row is put or taken away or rows are rewritten

module _ {X : Type 0} (t : Table X) (fit : NumbersFit t) where
  pub fit-put : (n : ℕ) (x : X) → IsTrue (is_number n) → NumbersFit (table.put t n x)
  fit-put n x one q there = grind (arith, get-put_other)

  pub fit-remove : (n : ℕ) → NumbersFit (table.remove t n)
  fit-remove n q there = fit q (ap is_some (sym (get-remove_other t n q (row_elsewhere (table.remove t n) q n there (get-remove_here t n)))) ∙ there)

  pub fit-map : (f : ℕ → X → X) → NumbersFit (table.map_rows f t)
  fit-map f q there = fit q (sym (ap is_some (get-map_rows f t q) ∙ mapped_some (f q) (table.get t q)) ∙ there)

module _ (t : Table Point) (fit : PointsFit t) (v : ℕ) where
  pub points-put : (p : Point) → IsInRange p → PointsFit (table.put t v p)
  points-put p one w q at = grind (arith, eqb_tells w v, get-put_here t v p, get-put_other t v p w)

  pub points-remove : PointsFit (table.remove t v)
  points-remove w q at = fit w q (sym (get-remove_other t v w (row_elsewhere (table.remove t v) w v (ap is_some at) (get-remove_here t v))) ∙ at)

-- ---- a row put or taken away

abbrev pub set_row : {X : Type 0} → Table X → ℕ → Option X → Table X
set_row t l None = table.remove t l
set_row t l (Some x) = table.put t l x

pub set_here : {X : Type 0} (t : Table X) (l : ℕ) (o : Option X) → table.get (set_row t l o) l ≡ o
set_here t l None = get-remove_here t l
set_here t l (Some x) = get-put_here t l x

pub set_other : {X : Type 0} (t : Table X) (l : ℕ) (o : Option X) (q : ℕ) → q ≢ l → table.get (set_row t l o) q ≡ table.get t q
set_other t l None q a = get-remove_other t l q a
set_other t l (Some x) q a = get-put_other t l x q a

-- row n is put or taken away
pub record RowSet {X : Type 0} (t s : Table X) (n : ℕ) (row : Option X) : Type 0 where
  pub are : s ≡ set_row t n row

module _ {X : Type 0} {t s : Table X} {n : ℕ} {row : Option X} (set : RowSet t s n row) where
  pub row_here : table.get s n ≡ row
  row_here = ap (λ y. table.get y n) set.are ∙ set_here t n row

  pub row_other : (q : ℕ) → q ≢ n → table.get s q ≡ table.get t q
  row_other q a = ap (λ y. table.get y q) set.are ∙ set_other t n row q a

  pub has_on : (q : ℕ) → q ≢ n → Has t q → Has s q
  has_on q a there = ap is_some (row_other q a) ∙ there

  pub has_back : (q : ℕ) → q ≢ n → Has s q → Has t q
  has_back q a there = ap is_some (sym (row_other q a)) ∙ there

  -- where the row was there and is
  pub has_same : Has t n → is_some row ≡ true → (q : ℕ) → table.has s q ≡ table.has t q
  has_same old now q = grind (arith, row_here, row_other)

-- the row of face f is put or taken away
pub record FaceSet (M N : Model) (f : ℕ) (row : Option FaceRow) : Type 0 where
  pub rows : RowSet M.faces N.faces f row

module _ {M N : Model} {f : ℕ} {row : Option FaceRow} (set : FaceSet M N f row) where
  pub solid_other : (p : ℕ) → p ≢ f → solid_of N p ≡ solid_of M p
  solid_other p a = same_solid M N p (row_other set.rows p a)

  pub outer_other : (p : ℕ) → p ≢ f → outer N p ≡ outer M p
  outer_other p a = same_outer M N p (row_other set.rows p a)

-- ---- faces and solids that stay

-- a loop that stays keeps its face, a new one is of an old face, and none that goes was an outer loop
pub record FacesStay (M N : Model) : Type 0 where
  pub faces : N.faces ≡ M.faces
  pub solids : N.solids ≡ M.solids
  pub kept : (q : ℕ) → Has M.loops q → Has N.loops q → face_of N q ≡ face_of M q
  pub new : (q : ℕ) → Has N.loops q → Has M.loops q ⊎ Has M.faces (face_of N q)
  pub outers : (f : ℕ) → Has M.faces f → Has N.loops (outer M f)

module _ {M N : Model} (sound : Sound M) (stay : FacesStay M N) where
  pub outer_stays : (f : ℕ) → outer N f ≡ outer M f
  outer_stays f = same_outer M N f (ap (λ t. table.get t f) stay.faces)

  pub solid_stays : (f : ℕ) → solid_of N f ≡ solid_of M f
  solid_stays f = same_solid M N f (ap (λ t. table.get t f) stay.faces)

  pub solid_kept : (q : ℕ) → Has M.loops q → Has N.loops q → solid_at N q ≡ solid_at M q
  solid_kept q old now = ap (solid_of N) (stay.kept q old now) ∙ solid_stays (face_of M q)

  face_on : (f : ℕ) → Has M.faces f → Has N.faces f
  face_on f t = subst (λ y. Has y f) (sym stay.faces) t

  face_back : (f : ℕ) → Has N.faces f → Has M.faces f
  face_back f t = subst (λ y. Has y f) stay.faces t

  pub faces_hold : ((x : ℕ) → HasHalf N x → solid_at N (loop_of N x) ≡ solid_at N (loop_of N (mate x))) → FacesHold N
  faces_hold one =
      let two = sound.faces_of_solids in let three = sound.loops_of_faces in let four = sound.solid_has_face in let five = sound.outers_there in
      let six = stay.outers in
      grind (arith, two, three, four, five, six, face_on, stay.new, stay.kept, face_back, N.loops, outer_stays, stay.solids, M.solids, solid_stays)

pub stay_of_same : (M N : Model) → Sound M → SameFaces M N → FacesStay M N
stay_of_same M N sound same = grind (arith, same.faces, same.solids, same.face, same.loop, sound.outers_there)
